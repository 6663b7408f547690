use Rattle.std.proofs.Common.{◌∙◌, is_some, refl, sym, ap}
use Rattle.cv_links.specs.Lends.{with_value}
use Rattle.cv_leases.proofs.Places.{names_detached, leases_detached}
use Rattle.cv_leases.proofs.Trees.{below_is}
use Rattle.cv_leases.proofs.Needed.{nearer_detached, pruned_detached}
use Rattle.cv_leases.proofs.Pruned.{standing, detached, detaching}
use Rattle.cv_leases.proofs.names.Names.detach.Goals as goal

pub unlink-requires-clause-whole : goal.unlink-requires-clause-whole
unlink-requires-clause-whole g c = (c.requires.whole.tree.chains c.args.above c.get.result.now c.get.ensures).0

pub returns-clause-whole : goal.returns-clause-whole
returns-clause-whole g c =
    let stands = standing c.args.self.now.places c.args.id c.args.above c.requires.above in
    names_detached c.args.self.now (record c.args.self.now { places = c.take-place.new.self }) c.args.above c.args.id c.requires.whole refl
    (detached c.args.self.now.places c.unlink.new.self (with_value c.unlink.new.self c.args.above (record c.get_mut.result.now { below = c.unlink.new.chain })) c.take-place.new.self c.args.above c.args.id c.get.result.now stands.0 c.unlink.new.chain c.requires.whole.tree (detaching c.args.self.now.places c.unlink.new.self c.take-place.new.self c.args.above c.args.id c.get.result.now c.get_mut.result.now stands.0 c.unlink.new.chain
    c.get.ensures stands.1 stands.2 (sym (below_is c.args.self.now.places c.args.id stands.0 stands.1) ∙ c.requires.bare.leaf) c.unlink.ensures.whole c.unlink.ensures.list c.unlink.ensures.lane c.unlink.ensures.elsewhere c.unlink.ensures.others c.unlink.ensures.contents
    c.get_mut.ensures.value c.get_mut.ensures.lists c.take-place.ensures.values c.take-place.ensures.links c.take-place.ensures.lists))

pub returns-clause-leases : goal.returns-clause-leases
returns-clause-leases g c =
    let stands = standing c.args.self.now.places c.args.id c.args.above c.requires.above in
    leases_detached c.args.self.now (record c.args.self.now { places = c.take-place.new.self }) c.args.above c.args.id c.requires.whole refl c.requires.bare.unleased
    (detached c.args.self.now.places c.unlink.new.self (with_value c.unlink.new.self c.args.above (record c.get_mut.result.now { below = c.unlink.new.chain })) c.take-place.new.self c.args.above c.args.id c.get.result.now stands.0 c.unlink.new.chain c.requires.whole.tree (detaching c.args.self.now.places c.unlink.new.self c.take-place.new.self c.args.above c.args.id c.get.result.now c.get_mut.result.now stands.0 c.unlink.new.chain
    c.get.ensures stands.1 stands.2 (sym (below_is c.args.self.now.places c.args.id stands.0 stands.1) ∙ c.requires.bare.leaf) c.unlink.ensures.whole c.unlink.ensures.list c.unlink.ensures.lane c.unlink.ensures.elsewhere c.unlink.ensures.others c.unlink.ensures.contents
    c.get_mut.ensures.value c.get_mut.ensures.lists c.take-place.ensures.values c.take-place.ensures.links c.take-place.ensures.lists))

pub returns-clause-live : goal.returns-clause-live
returns-clause-live g c =
    let stands = standing c.args.self.now.places c.args.id c.args.above c.requires.above in
    let h = (detached c.args.self.now.places c.unlink.new.self (with_value c.unlink.new.self c.args.above (record c.get_mut.result.now { below = c.unlink.new.chain })) c.take-place.new.self c.args.above c.args.id c.get.result.now stands.0 c.unlink.new.chain c.requires.whole.tree (detaching c.args.self.now.places c.unlink.new.self c.take-place.new.self c.args.above c.args.id c.get.result.now c.get_mut.result.now stands.0 c.unlink.new.chain
    c.get.ensures stands.1 stands.2 (sym (below_is c.args.self.now.places c.args.id stands.0 stands.1) ∙ c.requires.bare.leaf) c.unlink.ensures.whole c.unlink.ensures.list c.unlink.ensures.lane c.unlink.ensures.elsewhere c.unlink.ensures.others c.unlink.ensures.contents
    c.get_mut.ensures.value c.get_mut.ensures.lists c.take-place.ensures.values c.take-place.ensures.links c.take-place.ensures.lists)) in
    h.lives c.args.above h.differ ∙ ap is_some c.get.ensures

pub returns-clause-pruned : goal.returns-clause-pruned
returns-clause-pruned g c =
    let stands = standing c.args.self.now.places c.args.id c.args.above c.requires.above in
    pruned_detached c.args.self.now (record c.args.self.now { places = c.take-place.new.self }) c.args.above c.args.id c.requires.whole refl
    (detached c.args.self.now.places c.unlink.new.self (with_value c.unlink.new.self c.args.above (record c.get_mut.result.now { below = c.unlink.new.chain })) c.take-place.new.self c.args.above c.args.id c.get.result.now stands.0 c.unlink.new.chain c.requires.whole.tree (detaching c.args.self.now.places c.unlink.new.self c.take-place.new.self c.args.above c.args.id c.get.result.now c.get_mut.result.now stands.0 c.unlink.new.chain
    c.get.ensures stands.1 stands.2 (sym (below_is c.args.self.now.places c.args.id stands.0 stands.1) ∙ c.requires.bare.leaf) c.unlink.ensures.whole c.unlink.ensures.list c.unlink.ensures.lane c.unlink.ensures.elsewhere c.unlink.ensures.others c.unlink.ensures.contents
    c.get_mut.ensures.value c.get_mut.ensures.lists c.take-place.ensures.values c.take-place.ensures.links c.take-place.ensures.lists))
    c.requires.bare.unleased c.requires.pruned

pub returns-clause-nearer : goal.returns-clause-nearer
returns-clause-nearer g c =
    let stands = standing c.args.self.now.places c.args.id c.args.above c.requires.above in
    nearer_detached c.args.self.now (record c.args.self.now { places = c.take-place.new.self }) c.args.above c.args.id c.requires.whole refl
    (detached c.args.self.now.places c.unlink.new.self (with_value c.unlink.new.self c.args.above (record c.get_mut.result.now { below = c.unlink.new.chain })) c.take-place.new.self c.args.above c.args.id c.get.result.now stands.0 c.unlink.new.chain c.requires.whole.tree (detaching c.args.self.now.places c.unlink.new.self c.take-place.new.self c.args.above c.args.id c.get.result.now c.get_mut.result.now stands.0 c.unlink.new.chain
    c.get.ensures stands.1 stands.2 (sym (below_is c.args.self.now.places c.args.id stands.0 stands.1) ∙ c.requires.bare.leaf) c.unlink.ensures.whole c.unlink.ensures.list c.unlink.ensures.lane c.unlink.ensures.elsewhere c.unlink.ensures.others c.unlink.ensures.contents
    c.get_mut.ensures.value c.get_mut.ensures.lists c.take-place.ensures.values c.take-place.ensures.links c.take-place.ensures.lists))
