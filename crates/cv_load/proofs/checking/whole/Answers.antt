use Rattle.std.proofs.Common.{◌∙◌, ◌≡◌, false, [], sym, ap}
use Rattle.cv_load.proofs.LoadedTree.{loads_unopened}
use Rattle.cv_load.proofs.Checks.{left_match, wholes_broken, wholes_all}
use Rattle.cv_load.specs.Known.{is_known}
use Rattle.cv_load.proofs.Listing.{root_known, root_listed}
use Rattle.cv_load.proofs.NewFetching.{once_known, once_alone, once_with}
use Rattle.cv_load.proofs.NewPairs.{root_alone, root_added}
use Rattle.cv_load.proofs.checking.whole.Goals as goal

pub returns-in_err-catalogue-clause-told : goal.returns-in_err-catalogue-clause-told
returns-in_err-catalogue-clause-told g c = λ standing told all.
    left_match _ _ _ _ c.from_residual.ensures.1 (loads_unopened standing c.args.root.now c.root-at.result _ c.requires c.root-at.ensures (c.in_err-catalogue.ensures.told standing told))

pub returns-in_err-check-clause-told : goal.returns-in_err-check-clause-told
returns-in_err-check-clause-told g c = λ standing told all.
    left_match _ _ _ _ c.from_residual-in_err-check.ensures.1
    (wholes_broken standing c.args.root.now c.root-at.result c.in_ok-catalogue.catalogue c.new-pairs.result.items c.check.new.pairs.items _ c.root-at.ensures (c.in_ok-catalogue.ensures.told standing told) c.new-pairs.ensures.items
    (c.in_err-check.ensures.told standing (c.catalogue_at.ensures.unchanged ∙ told) all))

pub returns-clause-told : goal.returns-clause-told
returns-clause-told g c = λ standing told all.
    wholes_all standing c.args.root.now c.root-at.result c.in_ok-catalogue.catalogue c.new-pairs.result.items c.check.new.pairs.items c.root-at.ensures (c.in_ok-catalogue.ensures.told standing told) c.new-pairs.ensures.items
    (c.in_ok-check.ensures.told standing (c.catalogue_at.ensures.unchanged ∙ told) all)

pub returns-then-is_known-clause-fetches : goal.returns-then-is_known-clause-fetches
returns-then-is_known-clause-fetches g c = λ standing told. once_known standing c.args.known.now c.args.root.now.hash _

pub returns-in_err-catalogue-clause-fetches : goal.returns-in_err-catalogue-clause-fetches
returns-in_err-catalogue-clause-fetches g c =
    let fresh : is_known c.args.known.now c.args.root.now.hash [] ≡ false = ap (is_known c.args.known.now c.args.root.now.hash) (sym c.root-at.ensures) ∙ sym c.is_known.ensures ∙ c.if-is_known.false in
    λ standing told. once_alone standing c.args.known.now c.args.root.now _ _ fresh c.catalogue_at.ensures.taken

pub returns-in_err-check-clause-fetches : goal.returns-in_err-check-clause-fetches
returns-in_err-check-clause-fetches g c =
    let fresh : is_known c.args.known.now c.args.root.now.hash [] ≡ false = ap (is_known c.args.known.now c.args.root.now.hash) (sym c.root-at.ensures) ∙ sym c.is_known.ensures ∙ c.if-is_known.false in
    λ standing told.
    once_with standing c.args.known.now c.args.root.now c.root-at.result c.in_ok-catalogue.catalogue _ _ _ c.root-at.ensures fresh (c.in_ok-catalogue.ensures.told standing told) c.catalogue_at.ensures.taken
    (c.check.ensures.fetches standing (c.catalogue_at.ensures.unchanged ∙ told))

pub returns-clause-fetches : goal.returns-clause-fetches
returns-clause-fetches g c =
    let fresh : is_known c.args.known.now c.args.root.now.hash [] ≡ false = ap (is_known c.args.known.now c.args.root.now.hash) (sym c.root-at.ensures) ∙ sym c.is_known.ensures ∙ c.if-is_known.false in
    λ standing told.
    once_with standing c.args.known.now c.args.root.now c.root-at.result c.in_ok-catalogue.catalogue _ _ _ c.root-at.ensures fresh (c.in_ok-catalogue.ensures.told standing told) c.catalogue_at.ensures.taken
    (c.check.ensures.fetches standing (c.catalogue_at.ensures.unchanged ∙ told))

pub returns-then-is_known-clause-given : goal.returns-then-is_known-clause-given
returns-then-is_known-clause-given g c = λ standing told. root_known standing c.args.known.now c.args.root.now.hash c.root-at.result _ c.root-at.ensures (sym c.is_known.ensures ∙ c.if-is_known.true)

pub returns-clause-given : goal.returns-clause-given
returns-clause-given g c = λ standing told.
    root_listed standing c.args.known.now c.args.root.now c.root-at.result c.in_ok-catalogue.catalogue c.check.new.pairs.items c.root-at.ensures (c.in_ok-catalogue.ensures.told standing told)
    (c.in_ok-check.ensures.given standing (c.catalogue_at.ensures.unchanged ∙ told))

pub returns-then-is_known-clause-only : goal.returns-then-is_known-clause-only
returns-then-is_known-clause-only g c = λ standing told. root_alone standing c.args.known.now c.args.root.now.hash c.new-pairs.result.items c.new-pairs.ensures.items

pub returns-clause-only : goal.returns-clause-only
returns-clause-only g c =
    let fresh : is_known c.args.known.now c.args.root.now.hash [] ≡ false = ap (is_known c.args.known.now c.args.root.now.hash) (sym c.root-at.ensures) ∙ sym c.is_known.ensures ∙ c.if-is_known.false in
    λ standing told.
    root_added standing c.args.known.now c.args.root.now c.root-at.result c.in_ok-catalogue.catalogue c.new-pairs.result.items c.check.new.pairs.items c.root-at.ensures fresh (c.in_ok-catalogue.ensures.told standing told) c.new-pairs.ensures.items
    (c.in_ok-check.ensures.only standing (c.catalogue_at.ensures.unchanged ∙ told))
