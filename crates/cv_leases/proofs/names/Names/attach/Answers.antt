use Rattle.std.proofs.Common.{◌≡◌, ◌≢◌, ◌∙◌, Some, false, is_some, ap, refl}
use Rattle.cv_base.proofs.Laws.{same_name_itself}
use Rattle.cv_links.specs.Arena.{value_at}
use Rattle.cv_links.specs.Lends.{with_value}
use Rattle.cv_leases.proofs.Places.{places_attached, leases_attached, names_attached, found_new}
use Rattle.cv_leases.proofs.Rooted.{same_names}
use Rattle.cv_leases.proofs.Trees.{attached, attaching}
use Rattle.cv_leases.proofs.Needed.{same_stays, but_stays, within_attached, pruned_attached}
use Rattle.cv_leases.proofs.names.Names.attach.Goals as goal

pub returns-in_default-clause-whole : goal.returns-in_default-clause-whole
returns-in_default-clause-whole g c = (same_names c.args.self.now c.add.new.self c.requires.whole c.in_default.ensures.unchanged c.in_default.ensures.stays c.add.ensures.lists).0

pub returns-in_default-clause-leases : goal.returns-in_default-clause-leases
returns-in_default-clause-leases g c = (same_names c.args.self.now c.add.new.self c.requires.whole c.in_default.ensures.unchanged c.in_default.ensures.stays c.add.ensures.lists).1

pub returns-in_default-clause-places : goal.returns-in_default-clause-places
returns-in_default-clause-places g c = (same_names c.args.self.now c.add.new.self c.requires.whole c.in_default.ensures.unchanged c.in_default.ensures.stays c.add.ensures.lists).2

pub returns-clause-whole : goal.returns-clause-whole
returns-clause-whole g c = names_attached c.args.self.now (record c.args.self.now { places = with_value c.link_last.new.self c.args.above (record c.get_mut.result.now { below = c.link_last.new.chain }) }) c.args.above c.in-Ok.id (record { name = c.args.name; above = Some c.args.above; below = c.new.result; leased = false }) c.requires.whole refl
    (attached c.args.self.now.places c.add.new.self c.link_last.new.self (with_value c.link_last.new.self c.args.above (record c.get_mut.result.now { below = c.link_last.new.chain })) c.args.above c.in-Ok.id c.get.result.now (record { name = c.args.name; above = Some c.args.above; below = c.new.result; leased = false }) c.link_last.new.chain c.requires.whole.tree (attaching c.args.self.now.places c.add.new.self c.link_last.new.self c.args.above c.in-Ok.id c.get.result.now c.get_mut.result.now (record { name = c.args.name; above = Some c.args.above; below = c.new.result; leased = false }) c.link_last.new.chain
    c.get.ensures c.in-Ok.ensures.fresh c.in-Ok.ensures.values c.in-Ok.ensures.free c.in-Ok.ensures.links c.add.ensures.lists c.link_last.ensures.whole c.link_last.ensures.list c.link_last.ensures.lane
    c.link_last.ensures.elsewhere c.link_last.ensures.others c.link_last.ensures.contents c.get_mut.ensures.value c.get_mut.ensures.lists refl refl c.new.ensures.empty c.new.ensures.lane))
    refl c.requires.near

pub returns-clause-places : goal.returns-clause-places
returns-clause-places g c = places_attached c.args.self.now (record c.args.self.now { places = with_value c.link_last.new.self c.args.above (record c.get_mut.result.now { below = c.link_last.new.chain }) }) c.args.above c.in-Ok.id (record { name = c.args.name; above = Some c.args.above; below = c.new.result; leased = false }) c.requires.whole refl
    (attached c.args.self.now.places c.add.new.self c.link_last.new.self (with_value c.link_last.new.self c.args.above (record c.get_mut.result.now { below = c.link_last.new.chain })) c.args.above c.in-Ok.id c.get.result.now (record { name = c.args.name; above = Some c.args.above; below = c.new.result; leased = false }) c.link_last.new.chain c.requires.whole.tree (attaching c.args.self.now.places c.add.new.self c.link_last.new.self c.args.above c.in-Ok.id c.get.result.now c.get_mut.result.now (record { name = c.args.name; above = Some c.args.above; below = c.new.result; leased = false }) c.link_last.new.chain
    c.get.ensures c.in-Ok.ensures.fresh c.in-Ok.ensures.values c.in-Ok.ensures.free c.in-Ok.ensures.links c.add.ensures.lists c.link_last.ensures.whole c.link_last.ensures.list c.link_last.ensures.lane
    c.link_last.ensures.elsewhere c.link_last.ensures.others c.link_last.ensures.contents c.get_mut.ensures.value c.get_mut.ensures.lists refl refl c.new.ensures.empty c.new.ensures.lane))

pub returns-clause-leases : goal.returns-clause-leases
returns-clause-leases g c = leases_attached c.args.self.now (record c.args.self.now { places = with_value c.link_last.new.self c.args.above (record c.get_mut.result.now { below = c.link_last.new.chain }) }) c.args.above c.in-Ok.id (record { name = c.args.name; above = Some c.args.above; below = c.new.result; leased = false }) c.requires.whole refl refl
    (attached c.args.self.now.places c.add.new.self c.link_last.new.self (with_value c.link_last.new.self c.args.above (record c.get_mut.result.now { below = c.link_last.new.chain })) c.args.above c.in-Ok.id c.get.result.now (record { name = c.args.name; above = Some c.args.above; below = c.new.result; leased = false }) c.link_last.new.chain c.requires.whole.tree (attaching c.args.self.now.places c.add.new.self c.link_last.new.self c.args.above c.in-Ok.id c.get.result.now c.get_mut.result.now (record { name = c.args.name; above = Some c.args.above; below = c.new.result; leased = false }) c.link_last.new.chain
    c.get.ensures c.in-Ok.ensures.fresh c.in-Ok.ensures.values c.in-Ok.ensures.free c.in-Ok.ensures.links c.add.ensures.lists c.link_last.ensures.whole c.link_last.ensures.list c.link_last.ensures.lane
    c.link_last.ensures.elsewhere c.link_last.ensures.others c.link_last.ensures.contents c.get_mut.ensures.value c.get_mut.ensures.lists refl refl c.new.ensures.empty c.new.ensures.lane))

pub returns-clause-named : goal.returns-clause-named
returns-clause-named g c = found_new c.args.self.now.places (with_value c.link_last.new.self c.args.above (record c.get_mut.result.now { below = c.link_last.new.chain })) c.args.above c.in-Ok.id (record { name = c.args.name; above = Some c.args.above; below = c.new.result; leased = false }) c.requires.whole.tree
    (attached c.args.self.now.places c.add.new.self c.link_last.new.self (with_value c.link_last.new.self c.args.above (record c.get_mut.result.now { below = c.link_last.new.chain })) c.args.above c.in-Ok.id c.get.result.now (record { name = c.args.name; above = Some c.args.above; below = c.new.result; leased = false }) c.link_last.new.chain c.requires.whole.tree (attaching c.args.self.now.places c.add.new.self c.link_last.new.self c.args.above c.in-Ok.id c.get.result.now c.get_mut.result.now (record { name = c.args.name; above = Some c.args.above; below = c.new.result; leased = false }) c.link_last.new.chain
    c.get.ensures c.in-Ok.ensures.fresh c.in-Ok.ensures.values c.in-Ok.ensures.free c.in-Ok.ensures.links c.add.ensures.lists c.link_last.ensures.whole c.link_last.ensures.list c.link_last.ensures.lane
    c.link_last.ensures.elsewhere c.link_last.ensures.others c.link_last.ensures.contents c.get_mut.ensures.value c.get_mut.ensures.lists refl refl c.new.ensures.empty c.new.ensures.lane))
    c.args.name c.requires.none (same_name_itself c.args.name)

pub returns-in_default-clause-stays : goal.returns-in_default-clause-stays
returns-in_default-clause-stays g c = ap is_some (c.in_default.ensures.unchanged c.args.above) ∙ c.requires.live

pub returns-clause-stays : goal.returns-clause-stays
returns-clause-stays g c =
    let h = (attached c.args.self.now.places c.add.new.self c.link_last.new.self (with_value c.link_last.new.self c.args.above (record c.get_mut.result.now { below = c.link_last.new.chain })) c.args.above c.in-Ok.id c.get.result.now (record { name = c.args.name; above = Some c.args.above; below = c.new.result; leased = false }) c.link_last.new.chain c.requires.whole.tree (attaching c.args.self.now.places c.add.new.self c.link_last.new.self c.args.above c.in-Ok.id c.get.result.now c.get_mut.result.now (record { name = c.args.name; above = Some c.args.above; below = c.new.result; leased = false }) c.link_last.new.chain
    c.get.ensures c.in-Ok.ensures.fresh c.in-Ok.ensures.values c.in-Ok.ensures.free c.in-Ok.ensures.links c.add.ensures.lists c.link_last.ensures.whole c.link_last.ensures.list c.link_last.ensures.lane
    c.link_last.ensures.elsewhere c.link_last.ensures.others c.link_last.ensures.contents c.get_mut.ensures.value c.get_mut.ensures.lists refl refl c.new.ensures.empty c.new.ensures.lane)) in
    h.lives c.args.above h.differ ∙ c.requires.live

pub returns-in_default-clause-unchanged : goal.returns-in_default-clause-unchanged
returns-in_default-clause-unchanged g c =
    but_stays c.args.self.now (record c.args.self.now { places = c.add.new.self }) (same_stays c.args.self.now c.add.new.self c.in_default.ensures.unchanged) c.args.above c.requires.pruned

pub returns-clause-below : goal.returns-clause-below
returns-clause-below g c = within_attached c.args.self.now (record c.args.self.now { places = with_value c.link_last.new.self c.args.above (record c.get_mut.result.now { below = c.link_last.new.chain }) }) c.args.above c.in-Ok.id (record { name = c.args.name; above = Some c.args.above; below = c.new.result; leased = false }) c.requires.whole refl
    (attached c.args.self.now.places c.add.new.self c.link_last.new.self (with_value c.link_last.new.self c.args.above (record c.get_mut.result.now { below = c.link_last.new.chain })) c.args.above c.in-Ok.id c.get.result.now (record { name = c.args.name; above = Some c.args.above; below = c.new.result; leased = false }) c.link_last.new.chain c.requires.whole.tree (attaching c.args.self.now.places c.add.new.self c.link_last.new.self c.args.above c.in-Ok.id c.get.result.now c.get_mut.result.now (record { name = c.args.name; above = Some c.args.above; below = c.new.result; leased = false }) c.link_last.new.chain
    c.get.ensures c.in-Ok.ensures.fresh c.in-Ok.ensures.values c.in-Ok.ensures.free c.in-Ok.ensures.links c.add.ensures.lists c.link_last.ensures.whole c.link_last.ensures.list c.link_last.ensures.lane
    c.link_last.ensures.elsewhere c.link_last.ensures.others c.link_last.ensures.contents c.get_mut.ensures.value c.get_mut.ensures.lists refl refl c.new.ensures.empty c.new.ensures.lane))
    refl

pub returns-clause-pruned : goal.returns-clause-pruned
returns-clause-pruned g c = pruned_attached c.args.self.now (record c.args.self.now { places = with_value c.link_last.new.self c.args.above (record c.get_mut.result.now { below = c.link_last.new.chain }) }) c.args.above c.in-Ok.id (record { name = c.args.name; above = Some c.args.above; below = c.new.result; leased = false }) c.requires.whole refl
    (attached c.args.self.now.places c.add.new.self c.link_last.new.self (with_value c.link_last.new.self c.args.above (record c.get_mut.result.now { below = c.link_last.new.chain })) c.args.above c.in-Ok.id c.get.result.now (record { name = c.args.name; above = Some c.args.above; below = c.new.result; leased = false }) c.link_last.new.chain c.requires.whole.tree (attaching c.args.self.now.places c.add.new.self c.link_last.new.self c.args.above c.in-Ok.id c.get.result.now c.get_mut.result.now (record { name = c.args.name; above = Some c.args.above; below = c.new.result; leased = false }) c.link_last.new.chain
    c.get.ensures c.in-Ok.ensures.fresh c.in-Ok.ensures.values c.in-Ok.ensures.free c.in-Ok.ensures.links c.add.ensures.lists c.link_last.ensures.whole c.link_last.ensures.list c.link_last.ensures.lane
    c.link_last.ensures.elsewhere c.link_last.ensures.others c.link_last.ensures.contents c.get_mut.ensures.value c.get_mut.ensures.lists refl refl c.new.ensures.empty c.new.ensures.lane))
    refl c.requires.pruned

pub link_last-requires-clause-whole : goal.link_last-requires-clause-whole
link_last-requires-clause-whole g c = (c.add.ensures.lists c.get.result.now.below (c.requires.whole.tree.chains c.args.above c.get.result.now c.get.ensures).0).is

pub link_last-requires-clause-free : goal.link_last-requires-clause-free
link_last-requires-clause-free g c = c.in-Ok.ensures.free c.get.result.now.below.lane

pub get_mut-requires : goal.get_mut-requires
get_mut-requires g c =
    let a = c.args.self.now.places in
    let live = c.requires.live in
    let away : c.args.above ≢ c.in-Ok.id = λ e. let none : is_some (value_at a c.args.above) ≡ false = ap is_some (ap (value_at a) e ∙ c.in-Ok.ensures.fresh) in absurd cc in
    ap is_some (c.link_last.ensures.contents.values c.args.above ∙ c.in-Ok.ensures.values.others c.args.above away) ∙ live

pub returns-clause-live : goal.returns-clause-live
returns-clause-live g c =
    let h = (attached c.args.self.now.places c.add.new.self c.link_last.new.self (with_value c.link_last.new.self c.args.above (record c.get_mut.result.now { below = c.link_last.new.chain })) c.args.above c.in-Ok.id c.get.result.now (record { name = c.args.name; above = Some c.args.above; below = c.new.result; leased = false }) c.link_last.new.chain c.requires.whole.tree (attaching c.args.self.now.places c.add.new.self c.link_last.new.self c.args.above c.in-Ok.id c.get.result.now c.get_mut.result.now (record { name = c.args.name; above = Some c.args.above; below = c.new.result; leased = false }) c.link_last.new.chain
    c.get.ensures c.in-Ok.ensures.fresh c.in-Ok.ensures.values c.in-Ok.ensures.free c.in-Ok.ensures.links c.add.ensures.lists c.link_last.ensures.whole c.link_last.ensures.list c.link_last.ensures.lane
    c.link_last.ensures.elsewhere c.link_last.ensures.others c.link_last.ensures.contents c.get_mut.ensures.value c.get_mut.ensures.lists refl refl c.new.ensures.empty c.new.ensures.lane)) in
    ap is_some h.here
