use Rattle.std.proofs.Common.{◌≡◌, ap}
use Rattle.std.specs.Option.{option_map}
use Rattle.cv_base.specs.Told.{WhereTold}
use Rattle.cv_ports.specs.Shelf.{Measures}
use Rattle.cv_vault.proofs.Laws.{quiet_same, calm_reads}
use Rattle.cv_objects.specs.Names.{standing_on}
use Rattle.cv_objects.proofs.Telling.{told_of}
use Rattle.cv_objects.proofs.Seen.{seen}
use Rattle.cv_objects.proofs.objects.ObjectsShelf.length.Goals as goal

pub invariant_of-self : goal.invariant_of-self
invariant_of-self g c = λ s. calm_reads c.measure_object.ensures.reads (c.self.invariant s)

pub returns-clause-told : goal.returns-clause-told
returns-clause-told g c = seen c.self.view_is (λ v. WhereTold (option_map standing_on (g.V.Vault.disk v)) (Measures c.args.id.now c.measure_object.result))
    (told_of standing_on (Measures c.args.id.now c.measure_object.result) _ c.measure_object.ensures.told)

pub returns-clause-unchanged : goal.returns-clause-unchanged
returns-clause-unchanged g c = seen c.self.view_is (λ v. option_map standing_on (g.V.Vault.disk c.measure_object.new.vault) ≡ option_map standing_on (g.V.Vault.disk v)) (ap (option_map standing_on) (quiet_same c.measure_object.ensures.reads))
