use Rattle.std.proofs.Common.{◌∙◌, ap, sym}
use Rattle.std.specs.BTreeMap.{get}
use Rattle.cv_base.specs.Path.{path_cmp}
use Rattle.cv_base.proofs.Laws.{not_there}
use Rattle.cv_cut.proofs.CutLaws.{root_there}
use Rattle.cv_cut.proofs.cutting.root_entry.Goals as goal

pub unreachable-requires : goal.unreachable-requires
unreachable-requires c = not_there _ (ap (get path_cmp c.args.made.now) (sym c.root.ensures) ∙ sym c.in-None.ensures.value) c.requires

pub returns : goal.returns
returns c = root_there c.args.made.now c.root.result _ _ c.root.ensures (sym c.in-Some.ensures.value) c.copy.ensures
