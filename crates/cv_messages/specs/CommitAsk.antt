-- The message of a commit.
use Rattle.std.specs.Prelude.{ℕ, List, [], take, drop, bytes_eq, codes, Option, Some, None, Result, Ok, Err, if◌then◌else◌}
use Rattle.serde_json.specs.Data.{Data, string, object, member, no_members}
use Rattle.serde_json.specs.Find.{get, as_str}
use Rattle.hex.specs.Hex.{encode_lower}
use Rattle.cv_base.specs.Sequence.{◌>>=◌}
use Rattle.cv_json.specs.ObjectText.{object_in}
use Rattle.cv_messages.specs.Spelling.{digest_of}
use Rattle.cv_messages.specs.Member.{known, text_of, text_member}
use Rattle.cv_messages.specs.declared.commit_ask.CommitAsk.{CommitAsk}
use Rattle.cv_messages.specs.declared.member.Member.{Member}
use Rattle.cv_messages.specs.declared.member.Member.TheVariants.{OldRoot, NewRoot, Tag}
use Rattle.cv_messages.specs.declared.message_fault.MessageFault.{MessageFault}
use Rattle.cv_messages.specs.declared.message_fault.MessageFault.TheVariants.{NotJson}
pub use Rattle.cv_base.specs.Tag.{is_tag}

-- the digits of a root's text: all of it, but the `C` that may follow forty digits
abbrev pub root_digits : List ℕ → List ℕ
root_digits text = if bytes_eq (drop 40 text) (codes "C") then take 40 text else text

-- a member that has to be there, and forty digits, which a `C` may follow
abbrev pub root_member : Member → Option Data → Result (List ℕ) MessageFault
root_member name value = text_member name value >>= λ text. known name (digest_of (root_digits text))

abbrev pub tag_of : List ℕ → Option (List ℕ)
tag_of text = if is_tag text then Some text else None

-- a member that is nothing where it is lacking, and else a text within a tag's limit
abbrev pub tag_member : Option Data → Result (List ℕ) MessageFault
tag_member None = Ok []
tag_member (Some d) = text_of Tag (as_str d) >>= λ text. known Tag (tag_of text)

-- the message as JSON
abbrev pub commit_ask_data : CommitAsk → Data
commit_ask_data ask =
    object (member (codes "new_root_hash") (string (encode_lower ask.new_root))
    (member (codes "old_root_hash") (string (encode_lower ask.old_root))
    (member (codes "tag_name") (string ask.tag) no_members)))

-- the message that an object is, or its first fault
abbrev pub commit_ask_members : Data → Result CommitAsk MessageFault
commit_ask_members d =
    root_member OldRoot (get (codes "old_root_hash") d) >>= λ old_root.
    root_member NewRoot (get (codes "new_root_hash") d) >>= λ new_root.
    tag_member (get (codes "tag_name") d) >>= λ tag.
    Ok (record { old_root = old_root; new_root = new_root; tag = tag })

abbrev pub commit_ask_in : Option Data → Result CommitAsk MessageFault
commit_ask_in None = Err NotJson
commit_ask_in (Some d) = commit_ask_members d

-- the message that a text is, or its first fault
abbrev pub commit_ask_of : List ℕ → Result CommitAsk MessageFault
commit_ask_of text = commit_ask_in (object_in text)
