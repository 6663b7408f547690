use Rattle.std.proofs.Common.{◌+◌, refl}
use Rattle.cv_leases.proofs.Tied.{puts_in, none_stored}
use Rattle.cv_leases.proofs.Queues.{pushed, put, stayed_leases, stayed_whole}
use Rattle.cv_leases.proofs.queue.Queue.push.Goals as goal

pub returns-clause-leases : goal.returns-clause-leases
returns-clause-leases g c =
    pushed c.args.self.now (record { entries = c.link_last.new.self; order = c.link_last.new.chain; count = c.args.self.now.count + 1 }) c.add.new.self c.in-Ok.id c.args.entry c.requires.whole c.in-Ok.ensures.fresh c.in-Ok.ensures.values
    c.link_last.ensures.list (c.add.ensures.lists c.args.self.now.order c.requires.whole.chain).list c.link_last.ensures.contents

pub returns-clause-whole : goal.returns-clause-whole
returns-clause-whole g c =
    put c.args.self.now (record { entries = c.link_last.new.self; order = c.link_last.new.chain; count = c.args.self.now.count + 1 }) c.add.new.self c.in-Ok.id c.args.entry c.requires.whole c.link_last.ensures.whole c.link_last.ensures.lane
    c.in-Ok.ensures.free c.in-Ok.ensures.links c.in-Ok.ensures.values c.link_last.ensures.others c.link_last.ensures.contents
    (pushed c.args.self.now (record { entries = c.link_last.new.self; order = c.link_last.new.chain; count = c.args.self.now.count + 1 }) c.add.new.self c.in-Ok.id c.args.entry c.requires.whole c.in-Ok.ensures.fresh c.in-Ok.ensures.values
    c.link_last.ensures.list (c.add.ensures.lists c.args.self.now.order c.requires.whole.chain).list c.link_last.ensures.contents)
    refl

pub returns-in_default-clause-whole : goal.returns-in_default-clause-whole
returns-in_default-clause-whole g c = stayed_whole c.args.self.now c.add.new.self c.requires.whole c.add.ensures.lists c.in_default.ensures.unchanged c.in_default.ensures.stays

pub returns-in_default-clause-leases : goal.returns-in_default-clause-leases
returns-in_default-clause-leases g c = stayed_leases c.args.self.now c.add.new.self c.requires.whole c.add.ensures.lists c.in_default.ensures.unchanged

pub returns-clause-entries : goal.returns-clause-entries
returns-clause-entries g c =
    puts_in c.args.self.now (record { entries = c.link_last.new.self; order = c.link_last.new.chain; count = c.args.self.now.count + 1 }) c.add.new.self c.in-Ok.id c.args.entry c.requires.whole c.in-Ok.ensures.fresh c.in-Ok.ensures.values
    c.link_last.ensures.list (c.add.ensures.lists c.args.self.now.order c.requires.whole.chain).list c.link_last.ensures.contents

pub returns-in_default-clause-entries : goal.returns-in_default-clause-entries
returns-in_default-clause-entries g c = none_stored c.args.self.now c.add.new.self c.requires.whole c.add.ensures.lists c.in_default.ensures.unchanged
