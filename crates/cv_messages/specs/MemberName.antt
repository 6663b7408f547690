-- The names of members in JSON.
use Rattle.std.specs.Prelude.{ℕ, Bool, true, false, List, [], ◌∷◌, codes, find, Option}
use Rattle.std.specs.Str.{bytes_eq}
use Rattle.cv_messages.specs.declared.member.Member.{Member}
use Rattle.cv_messages.specs.declared.member.Member.TheVariants.{Path, OldRoot, NewRoot, Tag, SessionToken, Digest, HeaderSize, Status, Reason, Other}

-- the name of a member in JSON
abbrev pub member_name : Member → List ℕ
member_name Path = codes "path"
member_name OldRoot = codes "old_root_hash"
member_name NewRoot = codes "new_root_hash"
member_name Tag = codes "tag_name"
member_name SessionToken = codes "session_token"
member_name Digest = codes "payload_digest"
member_name HeaderSize = codes "header_size"
member_name Status = codes "status"
member_name Reason = codes "reason"
member_name Other = codes "other"

-- the members that have a name of their own
abbrev pub named_members : List Member
named_members = Path ∷ OldRoot ∷ NewRoot ∷ Tag ∷ SessionToken ∷ Digest ∷ HeaderSize ∷ Status ∷ Reason ∷ []

-- the member whose name a text is
abbrev pub member_of : List ℕ → Option Member
member_of text = find (λ name. bytes_eq (member_name name) text) named_members

-- a member that has a name of its own
abbrev pub is_named : Member → Bool
is_named Other = false
is_named _ = true
