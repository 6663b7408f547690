-- The answer that a text says, or its first fault. The status is judged first. The members of each kind are judged in
-- the order in which they are written, but the reason of a refusal before those that it asks for, and the elements of
-- a list one after another.
use Rattle.std.specs.Prelude.{◌∷◌, ℕ, Bool, true, List, [], codes, Option, Some, None, is_some, Result, Ok, Err, if◌then◌else◌}
use Rattle.std.specs.Str.{bytes_eq}
use Rattle.serde_json.specs.Data.{Data, Items}
use Rattle.serde_json.specs.Find.{get, as_str, as_array, as_object}
use Rattle.cv_json.specs.Elements.{elements}
use Rattle.cv_base.specs.Sequence.{◌>>=◌}
use Rattle.cv_json.specs.ObjectText.{object_in}
use Rattle.cv_messages.specs.Member.{text_of, text_member, number_member, token_member, digest_member}
use Rattle.cv_answers.specs.Refusal.{is_refusal, refusal_in}
use Rattle.cv_messages.specs.declared.member.Member.TheVariants.{Path, SessionToken, Status, Other}
use Rattle.cv_messages.specs.declared.message_fault.MessageFault.{MessageFault}
use Rattle.cv_messages.specs.declared.message_fault.MessageFault.TheVariants.{NotJson, Missing, WrongType, BadValue}
use Rattle.cv_answers.specs.declared.lease_item.LeaseItem.{LeaseItem}
use Rattle.cv_answers.specs.declared.answer.Answer.{Answer}
use Rattle.cv_answers.specs.declared.answer.Answer.TheVariants.{Granted, Done, Committed, Leases, Repos, PathBusy, Refused}

-- an answer that can be written: a member that its refusal names has a name of its own
abbrev pub is_answer : Answer → Bool
is_answer (Refused refusal) = is_refusal refusal
is_answer _ = true

abbrev pub granted_in : Data → Result Answer MessageFault
granted_in d =
    number_member Other (get (codes "revision") d) >>= λ revision.
    digest_member Other (get (codes "root_hash") d) >>= λ root.
    token_member SessionToken (get (codes "session_token") d) >>= λ token.
    Ok (Granted token revision root)

abbrev pub committed_in : Data → Result Answer MessageFault
committed_in d =
    number_member Other (get (codes "final_revision") d) >>= λ revision.
    digest_member Other (get (codes "root_hash") d) >>= λ root.
    Ok (Committed revision root)

-- what each value says, or the first fault
abbrev pub each_of : {A : Type 0} → (Data → Result A MessageFault) → List Data → Result (List A) MessageFault
each_of says [] = Ok []
each_of says (d ∷ ds) =
    says d >>= λ x.
    each_of says ds >>= λ xs.
    Ok (x ∷ xs)

abbrev pub elements_of : Option Items → Result (List Data) MessageFault
elements_of None = Err (WrongType Other)
elements_of (Some items) = Ok (elements items)

-- a member that has to be there, and an array
abbrev pub array_member : Option Data → Result (List Data) MessageFault
array_member None = Err (Missing Other)
array_member (Some d) = elements_of (as_array d)

abbrev pub lease_item_in : Data → Result LeaseItem MessageFault
lease_item_in d =
    if is_some (as_object d)
    then (
    text_member Other (get (codes "key_id") d) >>= λ key.
    text_member Path (get (codes "path") d) >>= λ path.
    number_member Other (get (codes "time_remaining") d) >>= λ remaining.
    Ok (record { key = key; path = path; remaining = remaining })
    )
    else Err (WrongType Other)

abbrev pub leases_in : Data → Result Answer MessageFault
leases_in d =
    array_member (get (codes "data") d) >>= λ ds.
    each_of lease_item_in ds >>= λ items.
    Ok (Leases items)

abbrev pub repo_in : Data → Result (List ℕ) MessageFault
repo_in d = text_of Other (as_str d)

abbrev pub repos_in : Data → Result Answer MessageFault
repos_in d =
    array_member (get (codes "repos") d) >>= λ ds.
    each_of repo_in ds >>= λ names.
    Ok (Repos names)

abbrev pub path_busy_in : Data → Result Answer MessageFault
path_busy_in d =
    token_member Other (get (codes "lease") d) >>= λ token.
    number_member Other (get (codes "time_remaining") d) >>= λ remaining.
    Ok (PathBusy token remaining)

abbrev pub refused_in : Data → Result Answer MessageFault
refused_in d = refusal_in d >>= λ refusal. Ok (Refused refusal)

-- the kind of an ok answer is told by the member that it has
abbrev pub ok_in : Data → Result Answer MessageFault
ok_in d =
    if is_some (get (codes "session_token") d) then granted_in d
    else if is_some (get (codes "final_revision") d) then committed_in d
    else if is_some (get (codes "data") d) then leases_in d
    else if is_some (get (codes "repos") d) then repos_in d
    else Ok Done

-- the answer of this status
abbrev pub answer_by : List ℕ → Data → Result Answer MessageFault
answer_by status d =
    if bytes_eq status (codes "ok") then ok_in d
    else if bytes_eq status (codes "path_busy") then path_busy_in d
    else if bytes_eq status (codes "error") then refused_in d
    else Err (BadValue Status)

-- the answer that an object says, or its first fault
abbrev pub answer_in : Data → Result Answer MessageFault
answer_in d = text_member Status (get (codes "status") d) >>= λ status. answer_by status d

abbrev pub answer_in_object : Option Data → Result Answer MessageFault
answer_in_object None = Err NotJson
answer_in_object (Some d) = answer_in d

-- the answer that a text says, or its first fault
abbrev pub answer_of : List ℕ → Result Answer MessageFault
answer_of text = answer_in_object (object_in text)
