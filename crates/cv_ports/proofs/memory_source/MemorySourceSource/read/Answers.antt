use Rattle.std.proofs.Common.{arith, ap, length, length-drop, ◌∙◌, ◌≤◌, ◌-◌, sym}
use Rattle.std.specs.Prelude.{Some}
use Rattle.cv_base.proofs.Laws.{rest_all}
use Rattle.cv_ports.specs.Memory.{SourceView}
use Rattle.cv_ports.proofs.Pieces.{given, given_more}
use Rattle.cv_ports.proofs.memory_source.MemorySourceSource.read.Goals as goal

pub returns-clause-gives : goal.returns-clause-gives
returns-clause-gives c =
    let bytes = c.self.inside.bytes.items in
    let size = ap length (rest_all bytes c.self.inside.given) ∙ length-drop c.self.inside.given bytes in
    let first = rw c.deref.ensures.value at c.min.ensures in
    let fits : c.min-count.result ≤ length c.self.inside.bytes.items - c.self.inside.given = omega (arith, size, first) in
    rw (c.copy_from_slice.ensures.after, c.deref.ensures.value)
    (ap (λ (s : SourceView). Some s.left) (sym c.self.view_is) ∙ ap (λ l. Some l) (given c.self.inside.bytes.items c.args.buf.now c.self.inside.given c.min-count.result fits))

pub returns-clause-given : goal.returns-clause-given
returns-clause-given c =
    let bytes = c.self.inside.bytes.items in
    let size = ap length (rest_all bytes c.self.inside.given) ∙ length-drop c.self.inside.given bytes in
    let first = rw c.deref.ensures.value at c.min.ensures in
    let fits : c.min-count.result ≤ length c.self.inside.bytes.items - c.self.inside.given = omega (arith, size, first) in
    rw (c.copy_from_slice.ensures.after, c.deref.ensures.value, ← c.self.view_is)
    (ap (λ l. Some l) (given_more c.self.inside.bytes.items c.args.buf.now c.self.inside.given c.min-count.result fits))
