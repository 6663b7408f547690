use Rattle.std.proofs.Common.{None, Some, false, refl}
use Rattle.cv_leases.proofs.Rooted.{same_names, whole_rooted, leases_rooted}
use Rattle.cv_leases.proofs.Needed.{pruned_root}
use Rattle.cv_leases.proofs.names.Names.plant.Goals as goal

pub returns-in_default-clause-whole : goal.returns-in_default-clause-whole
returns-in_default-clause-whole c = (same_names c.args.self.now c.add.new.self c.requires.whole c.in_default.ensures.unchanged c.in_default.ensures.stays c.add.ensures.lists).0

pub returns-in_default-clause-leases : goal.returns-in_default-clause-leases
returns-in_default-clause-leases c = (same_names c.args.self.now c.add.new.self c.requires.whole c.in_default.ensures.unchanged c.in_default.ensures.stays c.add.ensures.lists).1

pub returns-clause-whole : goal.returns-clause-whole
returns-clause-whole c = whole_rooted c.args.self.now (record { alloc = c.args.self.now.alloc; places = c.add.new.self; root = Some c.in-Ok.id }) c.in-Ok.id (record { name = c.in_ok-name.name; above = None; below = c.new.result; leased = false }) c.requires.whole c.requires.none refl
    (record { fresh = c.in-Ok.ensures.fresh; puts = c.in-Ok.ensures.values; free = c.in-Ok.ensures.free; links = c.in-Ok.ensures.links; lists = c.add.ensures.lists; above = refl; empty = c.new.ensures.empty; in_tree = c.new.ensures.lane })

pub returns-clause-leases : goal.returns-clause-leases
returns-clause-leases c = leases_rooted c.args.self.now (record { alloc = c.args.self.now.alloc; places = c.add.new.self; root = Some c.in-Ok.id }) c.in-Ok.id (record { name = c.in_ok-name.name; above = None; below = c.new.result; leased = false }) c.requires.none refl
    (record { fresh = c.in-Ok.ensures.fresh; puts = c.in-Ok.ensures.values; free = c.in-Ok.ensures.free; links = c.in-Ok.ensures.links; lists = c.add.ensures.lists; above = refl; empty = c.new.ensures.empty; in_tree = c.new.ensures.lane })

pub returns-clause-pruned : goal.returns-clause-pruned
returns-clause-pruned c = pruned_root c.args.self.now (record { alloc = c.args.self.now.alloc; places = c.add.new.self; root = Some c.in-Ok.id }) c.in-Ok.id (record { name = c.in_ok-name.name; above = None; below = c.new.result; leased = false }) c.requires.whole c.requires.none refl
    (record { fresh = c.in-Ok.ensures.fresh; puts = c.in-Ok.ensures.values; free = c.in-Ok.ensures.free; links = c.in-Ok.ensures.links; lists = c.add.ensures.lists; above = refl; empty = c.new.ensures.empty; in_tree = c.new.ensures.lane })
