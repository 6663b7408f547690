-- What a member says that is a text.
use Rattle.std.proofs.Common.{◌≡◌, ◌<◌, ◌^◌, ℕ, List, Option, Some, None, Ok, Err, refl}
use Rattle.serde_json.specs.Data.{Data}
use Rattle.cv_base.specs.Token.{token_text}
use Rattle.cv_base.specs.declared.token.Token.{Token}
use Rattle.cv_messages.specs.Spelling.{IsToken}
use Rattle.cv_messages.specs.Member.{text_member, token_member}
use Rattle.cv_messages.specs.declared.member.Member.{Member}
use Rattle.cv_messages.specs.declared.message_fault.MessageFault.TheVariants.{BadValue}
use Rattle.cv_messages.proofs.Spellings.{token_of-token_text, token_of-None}

pub token_member-Ok : (name : Member) (value : Option Data) (text : List ℕ) (token : Token) → text_member name value ≡ Ok text → IsToken token → text ≡ token_text token
    → Ok token ≡ token_member name value
token_member-Ok name value text token is whole spelt = rw (is, spelt, token_of-token_text token whole) refl

pub token_member-Err : (name : Member) (value : Option Data) (text : List ℕ) → text_member name value ≡ Ok text
    → ((token : Token) → token.epoch < 2 ^ 64 → token.number < 2 ^ 64 → text ≡ token_text token → None ≡ Some token) → Err (BadValue name) ≡ token_member name value
token_member-Err name value text is found =
    rw (is, token_of-None text (λ token whole spelt. let never = found token whole.epoch whole.number spelt in cc (never))) refl
