-- Refusals as JSON.
use Rattle.std.specs.Prelude.{ℕ, Bool, true, List, [], ◌∷◌, codes, take, drop, find, option_map, option_and_then, Option, Result, Ok, if◌then◌else◌}
use Rattle.std.specs.Result.{result_ok}
use Rattle.std.specs.Str.{bytes_eq}
use Rattle.serde_json.specs.Data.{Data, Members, string, number, unsigned, object, member, no_members}
use Rattle.serde_json.specs.Find.{get}
use Rattle.hex.specs.Hex.{encode_lower}
use Rattle.cv_base.specs.ObjectId.{object_id, suffix_of, id_text}
use Rattle.cv_base.specs.Path.{Path, text_of}
use Rattle.cv_base.specs.PathText.{path_of}
use Rattle.cv_base.specs.Sequence.{◌>>=◌}
use Rattle.cv_base.specs.declared.id.Kind.{Kind}
use Rattle.cv_base.specs.declared.id.Kind.TheVariants as kind
use Rattle.cv_base.specs.declared.id.ObjectId.{ObjectId}
use Rattle.cv_messages.specs.Spelling.{digest_of}
use Rattle.cv_messages.specs.Member.{known, text_member, number_member, digest_member}
use Rattle.cv_messages.specs.MemberName.{member_name, member_of, is_named}
use Rattle.cv_messages.specs.declared.message_fault.MessageFault.{MessageFault}
use Rattle.cv_messages.specs.declared.member.Member.{Member}
use Rattle.cv_messages.specs.declared.member.Member.TheVariants.{Path as ThePath, Reason as TheReason, Other}
use Rattle.cv_answers.specs.declared.reason.Reason.{Reason}
use Rattle.cv_answers.specs.declared.reason.Reason.TheVariants as reason
use Rattle.cv_answers.specs.declared.refusal.Refusal.{Refusal}
use Rattle.cv_answers.specs.declared.refusal.Refusal.TheVariants.{Plain, MissingMember, WrongType, BadValue, Collision, StaleBase, MissingObject, BadCatalogue, PathCollision, CatalogueFull, TagTaken, Damaged}

-- ---- as it is written

-- the text of a reason that is all that a refusal says
abbrev pub reason_text : Reason → List ℕ
reason_text reason.BadPath = codes "bad_path"
reason_text reason.TooManyLeases = codes "too_many_leases"
reason_text reason.NoParent = codes "no_parent"
reason_text reason.InvalidToken = codes "invalid_token"
reason_text reason.WrongKey = codes "wrong_key"
reason_text reason.JournalFull = codes "journal_full"
reason_text reason.NoMemory = codes "no_memory"
reason_text reason.NoAuthorization = codes "no_authorization"
reason_text reason.BadAuthorization = codes "bad_authorization"
reason_text reason.UnknownKey = codes "unknown_key"
reason_text reason.WrongMac = codes "wrong_mac"
reason_text reason.NotJson = codes "not_json"
reason_text reason.UnknownRepository = codes "unknown_repository"
reason_text reason.BadMessageSize = codes "bad_message_size"
reason_text reason.BadDigest = codes "bad_digest"
reason_text reason.BadPack = codes "bad_pack"
reason_text reason.BadHeaderSize = codes "bad_header_size"
reason_text reason.StoreFailed = codes "store_failed"
reason_text reason.RevisionsFull = codes "revisions_full"

abbrev pub error_status : Members
error_status = member (codes "status") (string (codes "error")) no_members

-- the members of a refusal for this reason
abbrev pub reason_members : List ℕ → Members
reason_members reason = member (codes "reason") (string reason) error_status

-- those of one that names a member of the message, an object, a revision
abbrev pub member_members : List ℕ → Member → Members
member_members reason name = member (codes "member") (string (member_name name)) (reason_members reason)

abbrev pub object_members : List ℕ → ObjectId → Members
object_members reason id = member (codes "object") (string (id_text id)) (reason_members reason)

abbrev pub revision_members : List ℕ → ℕ → Members
revision_members reason revision =
    member (codes "reason") (string reason) (member (codes "revision") (number (unsigned revision)) error_status)

abbrev pub path_collision_members : Path → Path → Members
path_collision_members path second =
    member (codes "path") (string (text_of path))
    (member (codes "reason") (string (codes "path_collision"))
    (member (codes "second") (string (text_of second)) error_status))

-- the members of a refusal
abbrev pub refusal_members : Refusal → Members
refusal_members (Plain why) = reason_members (reason_text why)
refusal_members (MissingMember name) = member_members (codes "missing_member") name
refusal_members (WrongType name) = member_members (codes "wrong_type") name
refusal_members (BadValue name) = member_members (codes "bad_value") name
refusal_members (Collision id) = object_members (codes "collision") id
refusal_members (StaleBase revision) = revision_members (codes "stale_base") revision
refusal_members (MissingObject id) = object_members (codes "missing_object") id
refusal_members (BadCatalogue id) = object_members (codes "bad_catalogue") id
refusal_members (PathCollision path second) = path_collision_members path second
refusal_members (CatalogueFull path) = member (codes "path") (string (text_of path)) (reason_members (codes "catalogue_full"))
refusal_members (TagTaken revision) = revision_members (codes "tag_taken") revision
refusal_members (Damaged id found) = member (codes "found") (string (encode_lower found)) (object_members (codes "damaged") id)

-- a refusal as JSON
abbrev pub refusal_data : Refusal → Data
refusal_data refusal = object (refusal_members refusal)

-- a member that a refusal names has a name of its own
abbrev pub is_refusal : Refusal → Bool
is_refusal (MissingMember name) = is_named name
is_refusal (WrongType name) = is_named name
is_refusal (BadValue name) = is_named name
is_refusal _ = true

-- ---- as it is read

abbrev pub reasons : List Reason
reasons =
    reason.BadPath ∷ reason.TooManyLeases ∷ reason.NoParent ∷ reason.InvalidToken ∷ reason.WrongKey ∷ reason.JournalFull
    ∷ reason.NoMemory ∷ reason.NoAuthorization ∷ reason.BadAuthorization ∷ reason.UnknownKey ∷ reason.WrongMac
    ∷ reason.NotJson ∷ reason.UnknownRepository ∷ reason.BadMessageSize ∷ reason.BadDigest ∷ reason.BadPack
    ∷ reason.BadHeaderSize ∷ reason.StoreFailed ∷ reason.RevisionsFull ∷ []

-- the reason whose text a text is
abbrev pub reason_of : List ℕ → Option Reason
reason_of text = find (λ why. bytes_eq (reason_text why) text) reasons

-- the kind of object whose suffix a text is
abbrev pub kind_of : List ℕ → Option Kind
kind_of suffix = find (λ kind. bytes_eq (suffix_of kind) suffix) (kind.Plain ∷ kind.Catalogue ∷ kind.History ∷ [])

-- the id whose text a text is: forty digits, and the suffix of a kind
abbrev pub id_of : List ℕ → Option ObjectId
id_of text = option_and_then (λ hash. option_map (object_id hash) (kind_of (drop 40 text))) (digest_of (take 40 text))

-- members that have to be there: the name of a member, the text of an id, that of a path
abbrev pub name_member : Option Data → Result Member MessageFault
name_member value = text_member Other value >>= λ text. known Other (member_of text)

abbrev pub object_member : Option Data → Result ObjectId MessageFault
object_member value = text_member Other value >>= λ text. known Other (id_of text)

abbrev pub path_member : Member → Option Data → Result Path MessageFault
path_member name value = text_member name value >>= λ text. known name (result_ok (path_of text))

abbrev pub path_collision_in : Data → Result Refusal MessageFault
path_collision_in d =
    path_member ThePath (get (codes "path") d) >>= λ path.
    path_member Other (get (codes "second") d) >>= λ second.
    Ok (PathCollision path second)

abbrev pub damaged_in : Data → Result Refusal MessageFault
damaged_in d =
    digest_member Other (get (codes "found") d) >>= λ found.
    object_member (get (codes "object") d) >>= λ id.
    Ok (Damaged id found)

abbrev pub plain_of : List ℕ → Result Refusal MessageFault
plain_of text = known TheReason (reason_of text) >>= λ why. Ok (Plain why)

-- the refusal for the reason of this text that an object says
abbrev pub refusal_by : List ℕ → Data → Result Refusal MessageFault
refusal_by text d =
    let name = name_member (get (codes "member") d) in
    let id = object_member (get (codes "object") d) in
    let revision = number_member Other (get (codes "revision") d) in
    if bytes_eq text (codes "missing_member") then (name >>= λ m. Ok (MissingMember m))
    else if bytes_eq text (codes "wrong_type") then (name >>= λ m. Ok (WrongType m))
    else if bytes_eq text (codes "bad_value") then (name >>= λ m. Ok (BadValue m))
    else if bytes_eq text (codes "collision") then (id >>= λ o. Ok (Collision o))
    else if bytes_eq text (codes "stale_base") then (revision >>= λ n. Ok (StaleBase n))
    else if bytes_eq text (codes "missing_object") then (id >>= λ o. Ok (MissingObject o))
    else if bytes_eq text (codes "bad_catalogue") then (id >>= λ o. Ok (BadCatalogue o))
    else if bytes_eq text (codes "path_collision") then path_collision_in d
    else if bytes_eq text (codes "catalogue_full") then (path_member ThePath (get (codes "path") d) >>= λ p. Ok (CatalogueFull p))
    else if bytes_eq text (codes "tag_taken") then (revision >>= λ n. Ok (TagTaken n))
    else if bytes_eq text (codes "damaged") then damaged_in d
    else plain_of text

-- the refusal that an object says, or its first fault
abbrev pub refusal_in : Data → Result Refusal MessageFault
refusal_in d = text_member TheReason (get (codes "reason") d) >>= λ text. refusal_by text d
