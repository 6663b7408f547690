use Rattle.std.proofs.Common.{◌≡◌, ◌∙◌, IfSome, Contains, rules, sym, ap, subst}
use Rattle.cv_links.specs.Arena.{value_at}
use Rattle.cv_links.specs.Chains.{list_of, rest_of}
use Rattle.cv_links.proofs.Laws.{live_in, rest_none}
use Rattle.cv_leases.specs.Names.{named}
use Rattle.cv_leases.proofs.Trees.{below_is}
use Rattle.cv_leases.proofs.Rooted.{child_found, child_next}
use Rattle.cv_leases.proofs.names.Names.child.Goals as goal

pub first-at-requires : goal.first-at-requires
first-at-requires g c = (c.requires.whole.tree.chains c.args.above c.get.result.now c.get.ensures).0

pub returns-then-is_named-clause-named : goal.returns-then-is_named-clause-named
returns-then-is_named-clause-named g c =
    let a = c.args.self.now.places in
    let chain = c.get.result.now.below in
    let is = (c.requires.whole.tree.chains c.args.above c.get.result.now c.get.ensures).0 in
    let within : Contains (list_of a chain) c.in-Some.id = subst (λ o. IfSome o (λ id. Contains (list_of a chain) id)) c.in-Some.is c.loop-at.invariant.within in
    child_found a chain c.in-Some.id c.get-in-Some.result.now c.args.name.now is within c.get-in-Some.ensures (search rules)
    ∙ subst (λ o. named (value_at a) c.args.name.now (rest_of a chain o) ≡ named (value_at a) c.args.name.now (list_of a chain)) c.in-Some.is c.loop-at.invariant.rest
    ∙ ap (named (value_at a) c.args.name.now) (sym (below_is a c.args.above c.get.result.now c.get.ensures))

pub loop-at-preserved : goal.loop-at-preserved
loop-at-preserved g c =
    let a = c.args.self.now.places in
    let chain = c.get.result.now.below in
    record {
      within = c.next-at.ensures.within;
      rest =
          child_next a chain c.in-Some.id c.next-at.result c.get-in-Some.result.now c.args.name.now c.get-in-Some.ensures (search rules) c.next-at.ensures.rest
          ∙ subst (λ o. named (value_at a) c.args.name.now (rest_of a chain o) ≡ named (value_at a) c.args.name.now (list_of a chain)) c.in-Some.is c.loop-at.invariant.rest;
    }

pub returns-then-is_named-clause-above : goal.returns-then-is_named-clause-above
returns-then-is_named-clause-above g c =
    let a = c.args.self.now.places in
    let chain = c.get.result.now.below in
    let within : Contains (list_of a chain) c.in-Some.id = subst (λ o. IfSome o (λ id. Contains (list_of a chain) id)) c.in-Some.is c.loop-at.invariant.within in
    c.requires.whole.tree.below c.args.above c.in-Some.id (subst (λ l. Contains l c.in-Some.id) (sym (below_is a c.args.above c.get.result.now c.get.ensures)) within)

pub get-requires-in-Some : goal.get-requires-in-Some
get-requires-in-Some g c =
    let a = c.args.self.now.places in
    let chain = c.get.result.now.below in
    let is = (c.requires.whole.tree.chains c.args.above c.get.result.now c.get.ensures).0 in
    live_in a chain (list_of a chain) c.in-Some.id is (subst (λ o. IfSome o (λ id. Contains (list_of a chain) id)) c.in-Some.is c.loop-at.invariant.within)

pub returns-clause-named : goal.returns-clause-named
returns-clause-named g c =
    let a = c.args.self.now.places in
    let chain = c.get.result.now.below in
    ap (named (value_at a) c.args.name.now) (sym (rest_none a chain))
    ∙ subst (λ o. named (value_at a) c.args.name.now (rest_of a chain o) ≡ named (value_at a) c.args.name.now (list_of a chain)) c.in_default.is c.loop-at.invariant.rest
    ∙ ap (named (value_at a) c.args.name.now) (sym (below_is a c.args.above c.get.result.now c.get.ensures))
