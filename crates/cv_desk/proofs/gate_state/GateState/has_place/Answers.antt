use Rattle.std.proofs.Common.{rules, refl, sym, length, ◌≡◌, ◌≢◌, [], ap, subst, ◌∙◌, Ok}
use Rattle.std.specs.Option.{option_map}
use Rattle.cv_base.specs.Path.{parent}
use Rattle.cv_base.specs.Told.{WhereTold}
use Rattle.cv_tree.specs.Tree.{Nodes}
use Rattle.cv_graft.specs.Graft.{HasWay}
use Rattle.cv_graft.specs.Way.{Tells}
use Rattle.cv_objects.specs.Names.{standing_on}
use Rattle.cv_swap.specs.Line.{LineView}
use Rattle.cv_desk.specs.Ends.{BlamesParent}
use Rattle.cv_desk.specs.Refusals.{is_unread}
use Rattle.cv_desk.proofs.Exact.{unread_from}
use Rattle.cv_desk.proofs.Reading.{blames_parent, place_found, placed_root, placed_below, fetched_none, fetched_way}
use Rattle.cv_desk.proofs.Knowing.{known_read}
use Rattle.cv_desk.proofs.States.{state_same}
use Rattle.cv_desk.proofs.gate_state.GateState.has_place.Goals as goal

pub invariant_of-self : goal.invariant_of-self
invariant_of-self g c = (
  state_same (record { line = c.self.inside.line; leases = c.self.inside.leases; moment = c.self.inside.moment; next = c.self.inside.next; known = c.self.inside.known }) _ c.self.invariant.0 refl refl refl (ap (λ (l : LineView _ _). l.epoch) c.directory_at.ensures.reads.1),
  known_read g.V.Vault.disk g.V.Vault.count g.V.Vault.left c.self.inside.known c.self.inside.line.vault c.directory_at.new.shelf.vault c.directory_at.ensures.reads.0 c.self.invariant.1,
)

pub returns-in-Ok-clause-place : goal.returns-in-Ok-clause-place
returns-in-Ok-clause-place g c =
    let some : c.args.path.now ≢ [] = search rules in
    let above : c.into_parent-parent.result ≡ parent c.args.path.now = search rules in
    let root : c.head.result.root ≡ c.args.self.now.line.head.root = search rules in
    let vaults : c.self.inside.line.vault ≡ c.args.self.now.line.vault = search rules in
    place_found g.V.Vault.disk c.args.self.now c.args.path.now c.into_parent-parent.result c.head.result.root some above root c.in-Ok.there
    (subst (λ v. WhereTold (option_map standing_on (g.V.Vault.disk v)) (λ standing. (t : Nodes) → HasWay standing c.head.result.root t c.into_parent-parent.result → Tells t c.into_parent-parent.result (Ok c.in-Ok.there))) vaults
    (subst (λ r. WhereTold (option_map standing_on (g.V.Vault.disk c.self.inside.line.vault)) (λ standing. (t : Nodes) → HasWay standing c.head.result.root t c.into_parent-parent.result → Tells t c.into_parent-parent.result r)) c.in-Ok.is c.directory_at.ensures.told))

pub returns-clause-unread : goal.returns-clause-unread
returns-clause-unread g c = ap is_unread c.of_load.ensures ∙ unread_from c.in-Err.fault

pub returns-clause-blames : goal.returns-clause-blames
returns-clause-blames g c =
    let above : c.into_parent-parent.result ≡ parent c.args.path.now = search rules in
    let root : c.head.result.root ≡ c.args.self.now.line.head.root = search rules in
    let vaults : c.self.inside.line.vault ≡ c.args.self.now.line.vault = search rules in
    subst (BlamesParent (g.V.Vault.disk c.args.self.now.line.vault) c.args.self.now.line.head.root c.args.path.now) (sym c.of_load.ensures)
    (blames_parent g.V.Vault.disk c.args.self.now c.self.inside.line.vault c.args.path.now c.into_parent-parent.result c.head.result.root above root vaults c.directory_at.result c.in-Err.fault c.in-Err.is c.directory_at.ensures.fault)

pub returns-then-is_empty-clause-sees : goal.returns-then-is_empty-clause-sees
returns-then-is_empty-clause-sees g c =
    let none : length c.args.path.now ≡ 0 = search rules in
    λ d told. placed_root (standing_on d) c.args.self.now.line.head.root c.args.path.now none

pub returns-in-Ok-clause-sees : goal.returns-in-Ok-clause-sees
returns-in-Ok-clause-sees g c =
    let some : c.args.path.now ≢ [] = search rules in
    let above : c.into_parent-parent.result ≡ parent c.args.path.now = search rules in
    let root : c.head.result.root ≡ c.args.self.now.line.head.root = search rules in
    let vaults : c.self.inside.line.vault ≡ c.args.self.now.line.vault = search rules in
    placed_below g.V.Vault.disk c.args.self.now c.self.inside.line.vault c.args.path.now c.into_parent-parent.result c.head.result.root some above root vaults c.directory_at.result c.in-Ok.there c.in-Ok.is c.directory_at.ensures.found

pub returns-then-is_empty-clause-fetches : goal.returns-then-is_empty-clause-fetches
returns-then-is_empty-clause-fetches g c = fetched_none g.V.Vault.disk c.args.self.now c.args.self.now c.args.path.now refl

pub returns-in-Ok-clause-fetches : goal.returns-in-Ok-clause-fetches
returns-in-Ok-clause-fetches g c =
    let some : c.args.path.now ≢ [] = search rules in
    let above : c.into_parent-parent.result ≡ parent c.args.path.now = search rules in
    let root : c.head.result.root ≡ c.args.self.now.line.head.root = search rules in
    let vaults : c.self.inside.line.vault ≡ c.args.self.now.line.vault = search rules in
    fetched_way g.V.Vault.disk c.args.self.now c.args.path.now c.into_parent-parent.result c.head.result.root some above root c.self.inside.line.vault c.self.inside.line.taken c.directory_at.new.shelf.taken vaults (search rules) c.directory_at.ensures.most c.directory_at.ensures.taken

pub returns-clause-fetches : goal.returns-clause-fetches
returns-clause-fetches g c =
    let some : c.args.path.now ≢ [] = search rules in
    let above : c.into_parent-parent.result ≡ parent c.args.path.now = search rules in
    let root : c.head.result.root ≡ c.args.self.now.line.head.root = search rules in
    let vaults : c.self.inside.line.vault ≡ c.args.self.now.line.vault = search rules in
    fetched_way g.V.Vault.disk c.args.self.now c.args.path.now c.into_parent-parent.result c.head.result.root some above root c.self.inside.line.vault c.self.inside.line.taken c.directory_at.new.shelf.taken vaults (search rules) c.directory_at.ensures.most c.directory_at.ensures.taken
