use Rattle.std.proofs.Common.{◌∙◌, ap, sym, subst}
use Rattle.std.specs.FinMap.{from_entries}
use Rattle.cv_tree.specs.Tree.{IsPart}
use Rattle.cv_cut.proofs.PieceLaws.{made_of_entries, same_ok}
use Rattle.cv_cut.proofs.pieces.copy.Goals as goal

pub of_entries-requires : goal.of_entries-requires
of_entries-requires c = subst IsPart (sym (ap from_entries c.in_ok-entries.ensures.entries ∙ made_of_entries c.args.part.now)) c.in_ok-entries.ensures.part

pub returns : goal.returns
returns c = same_ok c.of_entries.result _ _ c.of_entries.ensures (ap from_entries c.in_ok-entries.ensures.entries ∙ made_of_entries c.args.part.now)
