use Rattle.std.proofs.Common.{◌≡◌, ◌+◌, ◌<◌, ◌≤◌, List, length, get_or, sym, ap, subst, ◌∙◌, arith}
use Rattle.cv_base.specs.Path.{Path}
use Rattle.cv_tree.specs.declared.node.Node.{Node}
use Rattle.cv_rows.specs.Places.{StandsAt}
use Rattle.cv_rows.specs.declared.row.Row.{Row}
use Rattle.cv_rows.proofs.Lemmas.{each_long, row_stands}
use Rattle.cv_checkout.proofs.Steps.{AreNodesOf, all_nodes, node_passed, node_pushed}
use Rattle.cv_checkout.proofs.growing.nodes_toward.Goals.{then-overlaps+in_ok-copy+in_ok-node_of+in_ok-push, else-overlaps}
use Rattle.cv_checkout.proofs.growing.nodes_toward.Goals as goal

pub index-place-requires : goal.index-place-requires
index-place-requires c =
    let long = each_long c.args.catalogue.now.at c.args.catalogue.now.rows c.args.catalogue.now.rows c.in_ok-places.places.items c.in_ok-places.ensures in
    omega (arith, long, c.in_ok-places.places.ok.0, c.loop-number-test.true, ap length c.rows-rows.ensures.rows)

pub loop-number-preserved : goal.loop-number-preserved
loop-number-preserved c =
    let at = c.args.catalogue.now.at in
    let rows = c.args.catalogue.now.rows in
    let r = c.index-rows-number.result in
    let lt : c.loop-number.number < length rows = subst (λ (rs : List Row). c.loop-number.number < length rs) c.rows-rows.ensures.rows c.loop-number-test.true in
    let item : r ≡ get_or rows c.loop-number.number r = c.index-rows-number.is ∙ ap (λ (rs : List Row). get_or rs c.loop-number.number r) c.rows-rows.ensures.rows in
    let stands : StandsAt at rows r c.index-place.result.now =
    row_stands at rows rows c.in_ok-places.places.items c.loop-number.number r c.index-place.result.now c.in_ok-places.ensures lt item c.index-place.ensures in
    let Are : List (Path × Node) → Type 0 = AreNodesOf c.args.path.now c.args.catalogue.now (c.loop-number.number + 1) in
    elim c.if-overlaps.branch [
      | then-overlaps+in_ok-copy+in_ok-node_of+in_ok-push w ↦
          subst Are (sym (ap (λ v. v.items) w.nodes-is ∙ w.in_ok-push.ensures.items))
          (node_pushed c.args.path.now c.args.catalogue.now c.loop-number.number c.loop-number.nodes.items r _ c.rows-rows.ensures.rules lt item
          (subst (StandsAt at rows r) (sym w.in_ok-copy.ensures) stands) c.loop-number.invariant _ w.in_ok-node_of.ensures.node w.in_ok-node_of.ensures.limits)
      | else-overlaps w ↦
          subst Are (sym (ap (λ v. v.items) w.nodes-is))
          (node_passed c.args.path.now c.args.catalogue.now c.loop-number.number c.loop-number.nodes.items r c.index-place.result.now c.rows-rows.ensures.rules lt item stands c.loop-number.invariant (sym c.overlaps.ensures ∙ w.if-overlaps.false))
    ]

pub returns-clause-nodes : goal.returns-clause-nodes
returns-clause-nodes c =
    let size = ap (λ (rs : List Row). length rs) c.rows-rows.ensures.rows in
    let le : length c.args.catalogue.now.rows ≤ c.loop-number.number = omega (arith, size) in
    all_nodes c.args.path.now c.args.catalogue.now c.loop-number.number c.loop-number.nodes.items le c.loop-number.invariant
