-- Why an op is refused by the leases, the moment and the published revisions alone.
use Rattle.std.specs.Prelude.{◌-◌, ◌&&◌, ℕ, Bool, true, false, nat_le, bytes_eq, List, [], ◌∷◌, option_map, if◌then◌else◌}
use Rattle.std.specs.List.{find, list_any}
use Rattle.std.specs.declared.option.Option.{Option}
use Rattle.std.specs.declared.option.Option.TheVariants.{None, Some}
use Rattle.cv_base.specs.Path.{Path}
use Rattle.cv_history.specs.declared.record.Record.{Record}
use Rattle.cv_leases.specs.Leases.{refusal}
use Rattle.cv_leases.specs.declared.lease.Lease.{Lease}
use Rattle.cv_leases.specs.declared.lease_fault.LeaseFault.{LeaseFault}
use Rattle.cv_leases.specs.declared.lease_fault.LeaseFault.TheVariants as fault
use Rattle.cv_base.specs.declared.limits.TheConstants.{LAST_REVISION}
use Rattle.cv_swap.specs.Line.{LineView, published}
use Rattle.cv_gate.specs.declared.reply.Reply.{Reply}
use Rattle.cv_gate.specs.declared.reply.Reply.TheVariants as reply

-- ---- a lease

-- how a refusal of the table is answered at a moment
abbrev pub reply_then : ℕ → LeaseFault → Reply
reply_then moment fault.BadPath = reply.BadPath
reply_then moment (fault.PathBusy token deadline) = reply.PathBusy token (deadline - moment)
reply_then moment fault.TooManyLeases = reply.TooManyLeases

-- why a lease on the path isn't granted beside these at a moment, if it isn't
abbrev pub refusal_of : List Lease → ℕ → Path → Option Reply
refusal_of leases moment path = option_map (reply_then moment) (refusal leases path)

-- why nothing is done on a lease for a key, if it isn't
abbrev pub refusal_on : Option Lease → List ℕ → Option Reply
refusal_on None key = Some reply.InvalidToken
refusal_on (Some lease) key = if bytes_eq lease.key key then None else Some reply.WrongKey

-- ---- what the published revisions say

-- the root is that of a revision from this one on
abbrev pub has_base : List Record → ℕ → List ℕ → Bool
has_base records from root = list_any (λ r. nat_le from r.revision && bytes_eq r.root root) records

-- the record that has the tag, unless that is empty
abbrev pub holder_of : List ℕ → List Record → Option Record
holder_of [] records = None
holder_of (b ∷ tag) records = find (λ r. bytes_eq r.tag (b ∷ tag)) records

abbrev pub taken_by : Option Record → Option Reply
taken_by None = None
taken_by (Some r) = Some (reply.TagTaken r.revision)

-- why they refuse a commit under a lease that was granted at a revision, if they do: the newest of them, and all of them
abbrev pub opposition_by : ℕ → List Record → ℕ → List ℕ → List ℕ → Option Reply
opposition_by newest records from old_root tag =
    if nat_le LAST_REVISION newest then Some reply.RevisionsFull else
    if has_base records from old_root then taken_by (holder_of tag records) else Some (reply.StaleBase from)

abbrev pub opposition : {V S : Type 0} → LineView V S → ℕ → List ℕ → List ℕ → Option Reply
opposition l from old_root tag = opposition_by l.head.revision (published l) from old_root tag

-- ---- replies of ops that nothing refuses so

-- the store failed, bytes are damaged, or memory was wanted
abbrev pub is_unread : Reply → Bool
is_unread reply.StoreFailed = true
is_unread (reply.Damaged id found) = true
is_unread reply.NoMemory = true
is_unread other = false

-- objects that are sent are stored, or clash, or aren't read or written
abbrev pub is_sending : Reply → Bool
is_sending reply.Stored = true
is_sending (reply.Collision id) = true
is_sending reply.StoreFailed = true
is_sending (reply.Damaged id found) = true
is_sending reply.NoMemory = true
is_sending other = false

-- the tree of a commit isn't there, doesn't fit or clashes, or isn't read or written
abbrev pub is_unmade : Reply → Bool
is_unmade (reply.MissingObject id) = true
is_unmade (reply.BadCatalogue id) = true
is_unmade (reply.PathCollision first second) = true
is_unmade (reply.CatalogueFull path) = true
is_unmade (reply.Collision id) = true
is_unmade reply.StoreFailed = true
is_unmade (reply.Damaged id found) = true
is_unmade reply.NoMemory = true
is_unmade other = false
