use Rattle.std.proofs.Common.{is_ok}
use Rattle.cv_leases.specs.Queue.{leases_in}
use Rattle.cv_leases.proofs.Tables.{HasRoom, not_refused, table_push, table_either}
use Rattle.cv_leases.proofs.lease_table.LeaseTable.grant.Goals as goal

pub grant-requires-clause-free : goal.grant-requires-clause-free
grant-requires-clause-free c = (not_refused (leases_in c.self.inside.linked.queue) c.args.lease.path (rw c.self.view_is c.requires.free)).clear

pub grant-requires-clause-room : goal.grant-requires-clause-room
grant-requires-clause-room c = (not_refused (leases_in c.self.inside.linked.queue) c.args.lease.path (rw c.self.view_is c.requires.free)).few

pub invariant_of-self : goal.invariant_of-self
invariant_of-self c =
    let leases = leases_in c.self.inside.linked.queue in
    let room : HasRoom leases c.args.lease.path = not_refused leases c.args.lease.path (rw c.self.view_is c.requires.free) in
    let grown = table_push leases c.args.lease c.self.invariant.1 room.unmarked room.clear room.few (rw c.self.view_is c.requires.token) (rw c.self.view_is c.requires.deadline) in
    (c.grant.ensures.whole, table_either (is_ok c.grant.result) leases c.args.lease (leases_in c.grant.new.self.queue) c.grant.ensures.leases c.self.invariant.1 grown)
