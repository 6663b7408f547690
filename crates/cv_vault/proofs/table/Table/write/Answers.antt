use Rattle.std.proofs.Common.{ap, subst, ◌∙◌}
use Rattle.cv_vault.specs.Disk.{Disk}
use Rattle.cv_vault.specs.Events.{Event, write_of}
use Rattle.cv_vault.specs.TableInner.{Makes, table_disk}
use Rattle.cv_vault.proofs.Changing.{stays_then}
use Rattle.cv_vault.proofs.Steps.{makes_after, write_is}
use Rattle.cv_vault.proofs.table.Table.write.Goals as goal

pub returns-clause-ok : goal.returns-clause-ok
returns-clause-ok c =
    let t = c.args.self.now in
    let u = c.entry_for.new.self in
    let v = c.content_for.new.self in
    makes_after (write_of (table_disk t) c.args.name.now c.args.bytes.now c.args.made) t v c.change.new.self (stays_then t u v c.in_ok-at.ensures.stays c.in_ok-now.ensures.stays)
    (subst (λ (e : Event). Makes e v c.change.new.self)
    (write_is u v c.args.name.now c.args.bytes.now c.in_ok-at.at c.args.made c.in_ok-now.now c.in_ok-now.ensures.table c.in_ok-at.ensures.at c.in_ok-now.ensures.names c.in_ok-now.ensures.entries c.in_ok-now.ensures.file
    ∙ ap (λ (d : Disk). write_of d c.args.name.now c.args.bytes.now c.args.made) c.in_ok-at.ensures.stays.disk) c.change.ensures.makes)
