-- What is written of an answer says that answer.
use Rattle.std.proofs.Common.{◌≡◌, ℕ, true, List, [], ◌∷◌, map, Some, Ok, refl, ap, ◌∙◌}
use Rattle.serde_json.specs.Data.{Data, string}
use Rattle.cv_json.proofs.Laws.{elements-items_of}
use Rattle.cv_base.specs.Digest.{IsDigest}
use Rattle.cv_base.specs.declared.token.Token.{Token}
use Rattle.cv_json.specs.ObjectText.{object_in}
use Rattle.cv_messages.specs.Spelling.{IsToken}
use Rattle.cv_answers.specs.Answer.{granted_data, committed_data, lease_item_data, leases_data, repos_data, path_busy_data, answer_data}
use Rattle.cv_messages.specs.MemberName.{member_name, member_of, is_named}
use Rattle.cv_answers.specs.Refusal.{reason_text, is_refusal, refusal_data, refusal_by}
use Rattle.cv_answers.specs.RefusalInner.{IsWholeRefusal}
use Rattle.cv_answers.specs.AnswerText.{is_answer, each_of, lease_item_in, repo_in, answer_in, answer_in_object, answer_of}
use Rattle.cv_answers.specs.AnswerTextInner.{IsWhole}
use Rattle.cv_answers.specs.declared.answer.Answer.{Answer}
use Rattle.cv_answers.specs.declared.answer.Answer.TheVariants.{Granted, Done, Committed, Leases, Repos, PathBusy, Refused}
use Rattle.cv_answers.specs.declared.lease_item.LeaseItem.{LeaseItem}
use Rattle.cv_messages.specs.declared.member.Member.{Member}
use Rattle.cv_messages.specs.declared.member.Member.TheVariants.{Path as ThePath, OldRoot, NewRoot, Tag, SessionToken, Digest, HeaderSize, Status, Reason as TheReason, Other}
use Rattle.cv_answers.specs.declared.reason.Reason.{Reason}
use Rattle.cv_answers.specs.declared.reason.Reason.TheVariants as reason
use Rattle.cv_answers.specs.declared.refusal.Refusal.{Refusal}
use Rattle.cv_answers.specs.declared.refusal.Refusal.TheVariants.{Plain, MissingMember, WrongType, BadValue, Collision, StaleBase, MissingObject, BadCatalogue, PathCollision, CatalogueFull, TagTaken, Damaged}
use Rattle.cv_answers.proofs.Ids.{id_of-id_text}
use Rattle.cv_messages.proofs.Laws.{token_of-token_text, digest_of-encode_lower}

granted_back : (token : Token) (revision : ℕ) (root : List ℕ) → IsToken token → IsDigest root
    → answer_in (granted_data token revision root) ≡ Ok (Granted token revision root)
granted_back token revision root is digest = rw (digest_of-encode_lower root digest, token_of-token_text token is) refl

committed_back : (revision : ℕ) (root : List ℕ) → IsDigest root → answer_in (committed_data revision root) ≡ Ok (Committed revision root)
committed_back revision root digest = rw (digest_of-encode_lower root digest) refl

path_busy_back : (token : Token) (remaining : ℕ) → IsToken token → answer_in (path_busy_data token remaining) ≡ Ok (PathBusy token remaining)
path_busy_back token remaining is = rw (token_of-token_text token is) refl

each_item : (items : List LeaseItem) → each_of lease_item_in (map lease_item_data items) ≡ Ok items
each_item [] = refl
each_item (item ∷ items) = rw (each_item items) refl

leases_back : (items : List LeaseItem) → answer_in (leases_data items) ≡ Ok (Leases items)
leases_back items = rw (elements-items_of (map lease_item_data items), each_item items) refl

each_name : (names : List (List ℕ)) → each_of repo_in (map string names) ≡ Ok names
each_name [] = refl
each_name (name ∷ names) = rw (each_name names) refl

repos_back : (names : List (List ℕ)) → answer_in (repos_data names) ≡ Ok (Repos names)
repos_back names = rw (elements-items_of (map string names), each_name names) refl

-- a reason that says all by itself is read, whatever the object has besides
plain_back : (why : Reason) (d : Data) → refusal_by (reason_text why) d ≡ Ok (Plain why)
plain_back reason.BadPath d = refl
plain_back reason.TooManyLeases d = refl
plain_back reason.NoParent d = refl
plain_back reason.InvalidToken d = refl
plain_back reason.WrongKey d = refl
plain_back reason.JournalFull d = refl
plain_back reason.NoMemory d = refl
plain_back reason.NoAuthorization d = refl
plain_back reason.BadAuthorization d = refl
plain_back reason.UnknownKey d = refl
plain_back reason.WrongMac d = refl
plain_back reason.NotJson d = refl
plain_back reason.UnknownRepository d = refl
plain_back reason.BadMessageSize d = refl
plain_back reason.BadDigest d = refl
plain_back reason.BadPack d = refl
plain_back reason.BadHeaderSize d = refl
plain_back reason.StoreFailed d = refl
plain_back reason.RevisionsFull d = refl

member_back : (name : Member) → is_named name ≡ true → member_of (member_name name) ≡ Some name
member_back ThePath h = refl
member_back OldRoot h = refl
member_back NewRoot h = refl
member_back Tag h = refl
member_back SessionToken h = refl
member_back Digest h = refl
member_back HeaderSize h = refl
member_back Status h = refl
member_back TheReason h = refl
member_back Other h = cc

refusal_back : (refusal : Refusal) → is_refusal refusal ≡ true → IsWholeRefusal refusal → answer_in (refusal_data refusal) ≡ Ok (Refused refusal)
refusal_back (Plain why) h is = rw (plain_back why (refusal_data (Plain why))) refl
refusal_back (MissingMember name) h is = rw (member_back name h) refl
refusal_back (WrongType name) h is = rw (member_back name h) refl
refusal_back (BadValue name) h is = rw (member_back name h) refl
refusal_back (Collision id) h is = rw (id_of-id_text id is) refl
refusal_back (StaleBase revision) h is = refl
refusal_back (MissingObject id) h is = rw (id_of-id_text id is) refl
refusal_back (BadCatalogue id) h is = rw (id_of-id_text id is) refl
refusal_back (PathCollision path second) h is = rw (is.0, is.1) refl
refusal_back (CatalogueFull path) h is = rw is refl
refusal_back (TagTaken revision) h is = refl
refusal_back (Damaged id found) h is = rw (digest_of-encode_lower found is.1, id_of-id_text id is.0) refl

answer_back : (answer : Answer) → is_answer answer ≡ true → IsWhole answer → answer_in (answer_data answer) ≡ Ok answer
answer_back (Granted token revision root) h is = granted_back token revision root is.0 is.1
answer_back Done h is = refl
answer_back (Committed revision root) h is = committed_back revision root is
answer_back (Leases items) h is = leases_back items
answer_back (Repos names) h is = repos_back names
answer_back (PathBusy token remaining) h is = path_busy_back token remaining is
answer_back (Refused refusal) h is = refusal_back refusal h is

-- a text that is an answer's object says that answer
pub answer_of-object : (text : List ℕ) (d : Data) (answer : Answer) → object_in text ≡ Some d → d ≡ answer_data answer → is_answer answer ≡ true → IsWhole answer
    → answer_of text ≡ Ok answer
answer_of-object text d answer object json h is = ap answer_in_object (object ∙ ap (λ (v : Data). Some v) json) ∙ answer_back answer h is
