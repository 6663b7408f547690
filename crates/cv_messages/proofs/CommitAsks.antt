-- What is written of a commit's message says that message.
use Rattle.std.proofs.Common.{◌≡◌, ◌≤◌, true, ℕ, List, length, Some, Ok, refl, ap, ◌∙◌, arith}
use Rattle.std.proofs.Math.ListN.{drop_of_length-le}
use Rattle.hex.specs.Hex.{encode_lower, lower_digits}
use Rattle.hex.proofs.HexLemmas.{length-encode_with}
use Rattle.cv_base.specs.Digest.{IsDigest}
use Rattle.cv_messages.specs.CommitAsk.{is_tag, root_digits, commit_ask_data, commit_ask_members}
use Rattle.cv_messages.specs.Spelling.{digest_of}
use Rattle.cv_messages.specs.declared.commit_ask.CommitAsk.{CommitAsk}
use Rattle.cv_messages.proofs.Spellings.{digest_of-encode_lower}

-- behind forty digits at most stands no `C`
pub short_root : (text : List ℕ) → length text ≤ 40 → root_digits text ≡ text
short_root text short = rw (drop_of_length-le text short) refl

root_back : (hash : List ℕ) → IsDigest hash → digest_of (root_digits (encode_lower hash)) ≡ Some hash
root_back hash is =
    ap digest_of (short_root (encode_lower hash) (omega (arith, length-encode_with lower_digits hash, is.size))) ∙ digest_of-encode_lower hash is

pub commit_back : (ask : CommitAsk) → IsDigest ask.old_root → IsDigest ask.new_root → is_tag ask.tag ≡ true → commit_ask_members (commit_ask_data ask) ≡ Ok ask
commit_back ask old new tag = rw (root_back ask.old_root old, root_back ask.new_root new, tag) refl
