use Rattle.std.proofs.Common.{◌≡◌, ◌<◌, ℕ, true, List, get_or, sym, subst, ◌∙◌, inl, inr, arith}
use Rattle.cv_base.specs.Path.{Path}
use Rattle.cv_base.specs.declared.id.ObjectId.{ObjectId}
use Rattle.cv_base.proofs.Laws.{item_there}
use Rattle.cv_load.specs.Known.{is_known}
use Rattle.cv_load.proofs.Growing.{each_more, each_all}
use Rattle.cv_load.proofs.Knowing.{with_pair_is, with_pair_itself, with_pair_kept}
use Rattle.cv_load.proofs.known_set.KnownSet.add_all.Goals as goal

pub loop-pair-preserved : goal.loop-pair-preserved
loop-pair-preserved c = record {
  only = λ h p told. elim (with_pair_is c.pair-item.result.0.hash c.pair-item.result.1 h p (is_known c.loop-pair.self h p) (sym (c.in_ok-add.ensures.added h p) ∙ told)) [
    | inl was ↦ c.loop-pair.invariant.only h p was
    | inr same ↦ inr (record { pair = c.pair-item.result; among = item_there c.args.pairs.now c.loop-pair.pair-index c.pair-item.result c.loop-pair-test.true c.pair-item.is; hash_ = same.0; path_ = same.1 })
  ];
  kept = λ h p was. c.in_ok-add.ensures.added h p ∙ with_pair_kept c.pair-item.result.0.hash c.pair-item.result.1 h p (is_known c.loop-pair.self h p) (c.loop-pair.invariant.kept h p was);
  added =
      let Is : ObjectId × Path → Type 0 = λ (x : ObjectId × Path). is_known c.add.new.self x.0.hash x.1 ≡ true in
      let before : (k : ℕ) (d : ObjectId × Path) → k < c.loop-pair.pair-index → Is (get_or c.args.pairs.now k d) =
      λ k d lt. (let x = get_or c.args.pairs.now k d in c.in_ok-add.ensures.added x.0.hash x.1 ∙ with_pair_kept c.pair-item.result.0.hash c.pair-item.result.1 x.0.hash x.1 (is_known c.loop-pair.self x.0.hash x.1) (c.loop-pair.invariant.added k d lt)) in
      let here : Is c.pair-item.result = c.in_ok-add.ensures.added c.pair-item.result.0.hash c.pair-item.result.1 ∙ with_pair_itself c.pair-item.result.0.hash c.pair-item.result.1 (is_known c.loop-pair.self c.pair-item.result.0.hash c.pair-item.result.1) in
      λ k d le. each_more Is c.args.pairs.now c.loop-pair.pair-index c.pair-item.result before c.loop-pair-test.true c.pair-item.is here k d le;
}

pub returns-in_err-add-clause-only : goal.returns-in_err-add-clause-only
returns-in_err-add-clause-only c = λ h p told. c.loop-pair.invariant.only h p (sym (c.in_err-add.ensures.kept h p) ∙ told)

pub returns-in_err-add-clause-kept : goal.returns-in_err-add-clause-kept
returns-in_err-add-clause-kept c = λ h p was. c.in_err-add.ensures.kept h p ∙ c.loop-pair.invariant.kept h p was

pub returns-clause-added : goal.returns-clause-added
returns-clause-added c = λ h p has.
    let Is : ObjectId × Path → Type 0 = λ (x : ObjectId × Path). is_known c.loop-pair.self x.0.hash x.1 ≡ true in
    subst (λ (x : List ℕ). is_known c.loop-pair.self x p ≡ true) has.hash_ (subst (λ (x : Path). is_known c.loop-pair.self has.pair.0.hash x ≡ true) has.path_ (each_all Is c.args.pairs.now (λ k d lt. c.loop-pair.invariant.added k d (omega arith)) has.pair has.among))
