use Rattle.std.proofs.Common.{IfSome, Contains, None, sym, ap, subst, ◌≡◌, ◌∙◌}
use Rattle.std.specs.ControlFlow.{continue_value}
use Rattle.cv_links.specs.Arena.{value_at}
use Rattle.cv_leases.specs.Names.{is_leased, above_of, IsNames, IsPruned}
use Rattle.cv_leases.specs.NamesInner.{IsPrunedTo}
use Rattle.cv_leases.proofs.Climbing.{is_root}
use Rattle.cv_leases.proofs.Needed.{needed_here, needed_some, needed_root}
use Rattle.cv_leases.proofs.Trees.{below_is}
use Rattle.cv_leases.proofs.names.Names.drop_bare.Goals.{then-place-via-then-place, then-place-via-else-place+then-is_some}
use Rattle.cv_leases.proofs.names.Names.drop_bare.Goals as goal

pub first-requires : goal.first-requires
first-requires g c = (c.requires.whole.tree.chains c.args.id c.get-place.result.now c.get-place.ensures).0

pub returns-then-place-clause-whole : goal.returns-then-place-clause-whole
returns-then-place-clause-whole g c =
    elim c.then-place.branch [
      | then-place-via-then-place w ↦ subst IsNames (sym w.self-is) c.requires.whole
      | then-place-via-else-place+then-is_some w ↦ subst IsNames (sym w.self-is) c.requires.whole
    ]

pub returns-then-place-clause-pruned : goal.returns-then-place-clause-pruned
returns-then-place-clause-pruned g c =
    let names = c.args.self.now in
    elim c.then-place.branch [
      | then-place-via-then-place w ↦
          subst IsPruned (sym w.self-is) (needed_here names c.args.id c.requires.whole c.requires.pruned (ap is_leased c.get-place.ensures ∙ w.if-place.true))
      | then-place-via-else-place+then-is_some w ↦
          let within = subst (λ l. IfSome w.first.result (λ kid. Contains l kid)) (sym (below_is names.places c.args.id c.get-place.result.now c.get-place.ensures)) w.first.ensures.within in
          subst IsPruned (sym w.self-is) (needed_some names c.args.id c.requires.whole c.requires.pruned c.requires.live w.first.result (sym w.is_some.ensures ∙ w.if-is_some.true) within)
    ]

pub returns-in_err-above-clause-pruned : goal.returns-in_err-above-clause-pruned
returns-in_err-above-clause-pruned g c =
    let names = c.args.self.now in
    let none : above_of (value_at names.places c.args.id) ≡ None = ap above_of c.get-place.ensures ∙ c.branch-above.ensures ∙ ap continue_value c.in_err-above.is in
    subst (λ o. IsPrunedTo names o) (sym c.from_residual.ensures)
    (needed_root names c.args.id c.requires.whole c.requires.pruned (is_root names 64 c.args.id none (c.requires.whole.rooted c.args.id c.requires.live)))
