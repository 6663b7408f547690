use Rattle.std.proofs.Common.{refl, sym, subst}
use Rattle.cv_cut.specs.Opening.{IsTransitionOf}
use Rattle.cv_cut.proofs.Lemmas.{transition_at}
use Rattle.cv_checkout.proofs.naming.named.Goals as goal

pub returns : goal.returns
returns c = record {
  path_is = c.in_ok-copy.ensures;
  hash_is = refl;
  size_is = refl;
  transition = c.in_ok-copy-2.field-0;
  row_is = refl;
  names =
      subst (IsTransitionOf c.args.catalogue.now c.args.nested.now) (sym c.in_ok-copy-2.ensures)
      (transition_at c.args.catalogue.now c.args.nested.now c.in-Some.row.now c.requires.rules c.requires.entry c.in-Some.ensures.row);
}
