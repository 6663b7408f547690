use Rattle.std.proofs.Common.{◌∙◌, ◌-◌, sym, refl}
use Rattle.cv_leases.proofs.Queues.{parted, taken}
use Rattle.cv_leases.proofs.Tied.{takes_out}
use Rattle.cv_leases.proofs.queue.Queue.take.Goals as goal

pub returns-clause-value : goal.returns-clause-value
returns-clause-value g c = sym (c.unlink.ensures.contents.values c.args.id) ∙ c.take.ensures.value

pub returns-clause-leases : goal.returns-clause-leases
returns-clause-leases g c = λ front back e.
    parted c.args.self.now (record { entries = c.take.new.self; order = c.unlink.new.chain; count = c.args.self.now.count - 1 }) c.unlink.new.self c.args.id c.take.result c.requires.whole c.unlink.ensures.list c.unlink.ensures.contents
    c.take.ensures.value c.take.ensures.values (c.take.ensures.lists c.unlink.new.chain c.unlink.ensures.whole).list front back e

pub returns-clause-whole : goal.returns-clause-whole
returns-clause-whole g c =
    taken c.args.self.now (record { entries = c.take.new.self; order = c.unlink.new.chain; count = c.args.self.now.count - 1 }) c.unlink.new.self c.args.id c.take.result c.requires.whole c.requires.stands
    (c.take.ensures.lists c.unlink.new.chain c.unlink.ensures.whole).is c.unlink.ensures.lane c.unlink.ensures.others c.unlink.ensures.contents
    c.take.ensures.values c.take.ensures.links
    (λ front back e. parted c.args.self.now (record { entries = c.take.new.self; order = c.unlink.new.chain; count = c.args.self.now.count - 1 }) c.unlink.new.self c.args.id c.take.result c.requires.whole c.unlink.ensures.list c.unlink.ensures.contents
    c.take.ensures.value c.take.ensures.values (c.take.ensures.lists c.unlink.new.chain c.unlink.ensures.whole).list front back e)
    refl

pub returns-clause-entries : goal.returns-clause-entries
returns-clause-entries g c =
    takes_out c.args.self.now (record { entries = c.take.new.self; order = c.unlink.new.chain; count = c.args.self.now.count - 1 }) c.unlink.new.self c.args.id c.requires.whole c.requires.stands
    c.unlink.ensures.list c.unlink.ensures.contents c.take.ensures.values (c.take.ensures.lists c.unlink.new.chain c.unlink.ensures.whole).list
