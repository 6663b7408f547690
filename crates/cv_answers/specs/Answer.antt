-- Answers as JSON.
use Rattle.std.specs.Prelude.{ℕ, List, map, codes}
use Rattle.serde_json.specs.Data.{Data, string, number, unsigned, array, object, member, no_members}
use Rattle.serde_json.specs.View.{items_of}
use Rattle.hex.specs.Hex.{encode_lower}
use Rattle.cv_base.specs.Token.{token_text}
use Rattle.cv_base.specs.declared.token.Token.{Token}
use Rattle.cv_answers.specs.Refusal.{refusal_data}
use Rattle.cv_answers.specs.declared.lease_item.LeaseItem.{LeaseItem}
use Rattle.cv_answers.specs.declared.answer.Answer.{Answer}
use Rattle.cv_answers.specs.declared.answer.Answer.TheVariants.{Granted, Done, Committed, Leases, Repos, PathBusy, Refused}

abbrev pub granted_data : Token → ℕ → List ℕ → Data
granted_data token revision root =
    object (member (codes "revision") (number (unsigned revision))
    (member (codes "root_hash") (string (encode_lower root))
    (member (codes "session_token") (string (token_text token))
    (member (codes "status") (string (codes "ok")) no_members))))

abbrev pub done_data : Data
done_data = object (member (codes "status") (string (codes "ok")) no_members)

abbrev pub committed_data : ℕ → List ℕ → Data
committed_data revision root =
    object (member (codes "final_revision") (number (unsigned revision))
    (member (codes "root_hash") (string (encode_lower root))
    (member (codes "status") (string (codes "ok")) no_members)))

abbrev pub lease_item_data : LeaseItem → Data
lease_item_data item =
    object (member (codes "key_id") (string item.key)
    (member (codes "path") (string item.path)
    (member (codes "time_remaining") (number (unsigned item.remaining)) no_members)))

abbrev pub leases_data : List LeaseItem → Data
leases_data items =
    object (member (codes "data") (array (items_of (map lease_item_data items)))
    (member (codes "status") (string (codes "ok")) no_members))

abbrev pub repos_data : List (List ℕ) → Data
repos_data names =
    object (member (codes "repos") (array (items_of (map string names)))
    (member (codes "status") (string (codes "ok")) no_members))

abbrev pub path_busy_data : Token → ℕ → Data
path_busy_data token remaining =
    object (member (codes "lease") (string (token_text token))
    (member (codes "status") (string (codes "path_busy"))
    (member (codes "time_remaining") (number (unsigned remaining)) no_members)))

-- an answer as JSON
abbrev pub answer_data : Answer → Data
answer_data (Granted token revision root) = granted_data token revision root
answer_data Done = done_data
answer_data (Committed revision root) = committed_data revision root
answer_data (Leases items) = leases_data items
answer_data (Repos names) = repos_data names
answer_data (PathBusy token remaining) = path_busy_data token remaining
answer_data (Refused refusal) = refusal_data refusal
