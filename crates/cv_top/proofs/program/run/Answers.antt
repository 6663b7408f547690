use Rattle.std.proofs.Common.{◌≢◌, ℕ, List, [], map, sym, subst}
use Rattle.std.specs.Prelude.{string_bytes}
use Rattle.cv_top.specs.Complete.{Completes}
use Rattle.cv_top.specs.Lines.{TellsLines}
use Rattle.cv_top.specs.Publishes.{PublishesAsked}
use Rattle.cv_top.specs.Runs.{Keeps, outside}
use Rattle.cv_top.specs.Tells.{Tells}
use Rattle.cv_top.specs.Wholes.{Answers}
use Rattle.cv_top.proofs.Completing.{completes}
use Rattle.cv_top.proofs.LineTelling.{lines_tell_truly}
use Rattle.cv_top.proofs.Published.{publishes_as_asked}
use Rattle.cv_top.proofs.Telling.{tells_truly}
use Rattle.cv_top.proofs.Unserved.{keeps}
use Rattle.cv_top.proofs.program.run.Goals as goal

pub returns-clause-headline : goal.returns-clause-headline
returns-clause-headline g c =
    let before = outside c.args.parts.vault c.args.parts.input c.args.parts.output c.args.parts.clock c.args.parts.folder c.args.parts.dial in
    let after = outside c.do_command-status.result.1 c.do_command-status.result.2 c.do_command-status.new.output c.do_command-status.new.clock c.do_command-status.new.folder c.do_command-status.new.dial in
    subst (λ keys. Keeps g.V.Vault.disk g.V.Vault.count g.V.Vault.left g.V.Vault.faults g.R.Source.left g.R.Source.given g.R.Source.looks g.W.Sink.taken g.W.Sink.passed g.C.Clock.moments (map string_bytes c.args.words.now) keys (string_bytes c.args.parts.seal) before after) c.as_str.ensures.value
    (subst (λ seal. Keeps g.V.Vault.disk g.V.Vault.count g.V.Vault.left g.V.Vault.faults g.R.Source.left g.R.Source.given g.R.Source.looks g.W.Sink.taken g.W.Sink.passed g.C.Clock.moments (map string_bytes c.args.words.now) c.as_str.result.now seal before after) c.as_str-2.ensures.value
    (keeps g.V.Vault.disk g.V.Vault.count g.V.Vault.left g.met.V.Vault.only_now c.opening_keeps_what_is_kept.ensures.leaves c.opening_finds_what_is_kept.ensures.refused
    g.V.Vault.faults g.R.Source.left g.R.Source.given g.R.Source.looks g.W.Sink.taken g.W.Sink.passed g.C.Clock.moments (map string_bytes c.args.words.now) c.as_str.result.now c.as_str-2.result.now before after g.F.Folder.holds g.F.Folder.named g.N.Dial.came c.do_command-status.result.0 c.do_command-status.ensures.runs))

pub returns-clause-completes : goal.returns-clause-completes
returns-clause-completes g c reads writes stores =
    let before = outside c.args.parts.vault c.args.parts.input c.args.parts.output c.args.parts.clock c.args.parts.folder c.args.parts.dial in
    let after = outside c.do_command-status.result.1 c.do_command-status.result.2 c.do_command-status.new.output c.do_command-status.new.clock c.do_command-status.new.folder c.do_command-status.new.dial in
    let did = c.do_command-status.ensures in
    subst (λ keys. Completes (map string_bytes c.args.words.now) keys (string_bytes c.args.parts.seal) (g.V.Vault.disk c.args.parts.vault) c.do_command-status.result.0) c.as_str.ensures.value
    (subst (λ seal. Completes (map string_bytes c.args.words.now) c.as_str.result.now seal (g.V.Vault.disk c.args.parts.vault) c.do_command-status.result.0) c.as_str-2.ensures.value
    (completes g.V.Vault.disk g.V.Vault.count g.V.Vault.left c.opening_finds_what_is_kept.ensures.refused
    g.V.Vault.faults g.R.Source.left g.R.Source.given g.R.Source.looks g.W.Sink.taken g.W.Sink.passed g.C.Clock.moments (map string_bytes c.args.words.now) c.as_str.result.now c.as_str-2.result.now before after g.F.Folder.holds g.F.Folder.named g.N.Dial.came c.do_command-status.result.0
    (record { reads = λ e. reads (did.reads.failed e); writes = λ e. writes (did.writes.failed e); stores = λ e. stores (did.stores.failed e) }) did.runs))

pub returns-clause-tells : goal.returns-clause-tells
returns-clause-tells g c asked speaks =
    let before = outside c.args.parts.vault c.args.parts.input c.args.parts.output c.args.parts.clock c.args.parts.folder c.args.parts.dial in
    let after = outside c.do_command-status.result.1 c.do_command-status.result.2 c.do_command-status.new.output c.do_command-status.new.clock c.do_command-status.new.folder c.do_command-status.new.dial in
    subst (λ seal. Tells g.W.Sink.taken (map string_bytes c.args.words.now) seal (g.N.Dial.came before.dial) (g.N.Dial.came after.dial) before.output after.output c.do_command-status.result.0) c.as_str-2.ensures.value
    (tells_truly g.V.Vault.disk g.V.Vault.count g.V.Vault.left g.V.Vault.faults g.R.Source.left g.R.Source.given g.R.Source.looks g.W.Sink.taken g.W.Sink.passed g.C.Clock.moments g.F.Folder.holds g.F.Folder.named g.N.Dial.came
    (map string_bytes c.args.words.now) c.as_str.result.now c.as_str-2.result.now before after c.do_command-status.result.0 c.do_command-status.ensures.runs asked speaks)

pub returns-clause-shell : goal.returns-clause-shell
returns-clause-shell g c asked =
    let before = outside c.args.parts.vault c.args.parts.input c.args.parts.output c.args.parts.clock c.args.parts.folder c.args.parts.dial in
    let after = outside c.do_command-status.result.1 c.do_command-status.result.2 c.do_command-status.new.output c.do_command-status.new.clock c.do_command-status.new.folder c.do_command-status.new.dial in
    subst (λ seal. TellsLines g.R.Source.left g.R.Source.given g.W.Sink.taken (map string_bytes c.args.words.now) seal (g.N.Dial.came before.dial) (g.N.Dial.came after.dial) before.input after.input before.output after.output c.do_command-status.result.0) c.as_str-2.ensures.value
    (lines_tell_truly g.V.Vault.disk g.V.Vault.count g.V.Vault.left g.V.Vault.faults g.R.Source.left g.R.Source.given g.R.Source.looks g.W.Sink.taken g.W.Sink.passed g.C.Clock.moments g.F.Folder.holds g.F.Folder.named g.N.Dial.came
    (map string_bytes c.args.words.now) c.as_str.result.now c.as_str-2.result.now before after c.do_command-status.result.0 c.do_command-status.ensures.runs asked)

pub returns-clause-answered : goal.returns-clause-answered
returns-clause-answered g c writes links asked some =
    let before = outside c.args.parts.vault c.args.parts.input c.args.parts.output c.args.parts.clock c.args.parts.folder c.args.parts.dial in
    let after = outside c.do_command-status.result.1 c.do_command-status.result.2 c.do_command-status.new.output c.do_command-status.new.clock c.do_command-status.new.folder c.do_command-status.new.dial in
    subst (λ seal. Answers g.W.Sink.taken (map string_bytes c.args.words.now) seal (g.N.Dial.came before.dial) (g.N.Dial.came after.dial) before.output after.output c.do_command-status.result.0) c.as_str-2.ensures.value
    (c.do_command-status.ensures.answered writes links asked (subst (λ (seal : List ℕ). seal ≢ []) (sym c.as_str-2.ensures.value) some))

pub returns-clause-published : goal.returns-clause-published
returns-clause-published g c by =
    let before = outside c.args.parts.vault c.args.parts.input c.args.parts.output c.args.parts.clock c.args.parts.folder c.args.parts.dial in
    let after = outside c.do_command-status.result.1 c.do_command-status.result.2 c.do_command-status.new.output c.do_command-status.new.clock c.do_command-status.new.folder c.do_command-status.new.dial in
    subst (λ keys. PublishesAsked g.W.Sink.taken g.C.Clock.moments g.F.Folder.holds g.F.Folder.named g.N.Dial.came (map string_bytes c.args.words.now) keys (string_bytes c.args.parts.seal) before.output after.output before.clock after.clock before.folder after.folder before.dial after.dial c.do_command-status.result.0) c.as_str.ensures.value
    (subst (λ seal. PublishesAsked g.W.Sink.taken g.C.Clock.moments g.F.Folder.holds g.F.Folder.named g.N.Dial.came (map string_bytes c.args.words.now) c.as_str.result.now seal before.output after.output before.clock after.clock before.folder after.folder before.dial after.dial c.do_command-status.result.0) c.as_str-2.ensures.value
    (publishes_as_asked c.a_revision_is_published_in_order.ensures c.a_lease_is_ended_once_after_a_fault.ensures g.V.Vault.disk g.V.Vault.count g.V.Vault.left g.V.Vault.faults g.R.Source.left g.R.Source.given g.R.Source.looks g.W.Sink.taken g.W.Sink.passed g.C.Clock.moments g.F.Folder.holds g.F.Folder.named g.N.Dial.came
    (map string_bytes c.args.words.now) c.as_str.result.now c.as_str-2.result.now before after c.do_command-status.result.0 c.do_command-status.ensures.runs by))
