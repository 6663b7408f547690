-- What comes of sending objects, by what the store answered.
use Rattle.std.specs.Prelude.{List, [], if◌then◌else◌}
use Rattle.std.specs.declared.result.Result.{Result}
use Rattle.std.specs.declared.result.Result.TheVariants.{Ok, Err}
use Rattle.cv_base.specs.declared.id.ObjectId.{ObjectId}
use Rattle.cv_objects.specs.declared.store_fault.StoreFault.{StoreFault}
use Rattle.cv_gate.specs.declared.reply.Reply.TheVariants as reply
use Rattle.cv_desk.specs.Sending.{reply_of}
use Rattle.cv_desk.specs.SendingInner.{is_refusal}
use Rattle.cv_desk.specs.declared.sent.Sent.{Sent}

-- the ids that were found fresh are told, but after a refusal, by which none came
abbrev pub sent_by : List ObjectId → Result (Unit {0}) StoreFault → Sent
sent_by fresh (Ok done) = record { answer = reply.Stored; fresh = fresh }
sent_by fresh (Err fault) = record { answer = reply_of fault; fresh = if is_refusal fault then [] else fresh }
