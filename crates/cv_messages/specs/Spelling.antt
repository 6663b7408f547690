-- What a text spells: a decimal, a token, a digest.
use Rattle.std.specs.Prelude.{ℕ, ◌<◌, ◌^◌, ◌==◌, ◌&&◌, Bool, nat_lt, List, decimal, Option, Some, None, option_and_then, if◌then◌else◌}
use Rattle.std.specs.List.{before_first, after_first}
use Rattle.std.specs.Result.{result_ok}
use Rattle.std.specs.Str.{bytes_eq}
use Rattle.std.specs.Str.Parse.{digits_value}
use Rattle.hex.specs.Hex.{encode_lower, decode_sized}
use Rattle.cv_base.specs.declared.token.Token.{Token}

-- the number below 2^64 whose decimal a text is
abbrev pub decimal_of : List ℕ → Option ℕ
decimal_of text =
    let n = digits_value 10 text in
    if nat_lt n (2 ^ 64) && bytes_eq (decimal n) text then Some n else None

-- both numbers of a token are below 2^64, as its type has it
pub record IsToken (token : Token) : Type 0 where
  pub epoch : token.epoch < 2 ^ 64
  pub number : token.number < 2 ^ 64

abbrev pub is_dash : ℕ → Bool
is_dash b = b == 45

abbrev pub token_by : Option ℕ → Option ℕ → Option Token
token_by None number = None
token_by (Some epoch) None = None
token_by (Some epoch) (Some number) = Some (record { epoch = epoch; number = number })

-- the token whose text a text is: decimals before and behind the first `-`
abbrev pub token_of : List ℕ → Option Token
token_of text = token_by (decimal_of (before_first is_dash text)) (decimal_of (after_first is_dash text))

-- the twenty bytes whose digits in lower case a text is
abbrev pub digest_of : List ℕ → Option (List ℕ)
digest_of text =
    option_and_then (λ hash. if bytes_eq (encode_lower hash) text then Some hash else None) (result_ok (decode_sized text 20))
