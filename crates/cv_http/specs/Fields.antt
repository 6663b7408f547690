-- Header fields and their values (RFC 9110, sections 5 and 8.6).
use Rattle.std.specs.Prelude.{ℕ, ◌-◌, ◌^◌, ◌&&◌, ◌==◌, nat_lt, Bool, List, [], ◌∷◌, length, take, drop, Option, Some, None, if◌then◌else◌}
use Rattle.std.specs.List.{filter_map, list_all, list_any, prefix_len, suffix_len}
use Rattle.std.specs.Char.{is_ascii_digit, is_ascii_whitespace}
use Rattle.std.specs.Str.{str_eq_ignore_ascii_case, is_utf8}
use Rattle.std.specs.Str.Parse.{digits_value}

-- the value of a field, if it has that name, in whatever case
abbrev pub named : List ℕ → List ℕ × List ℕ → Option (List ℕ)
named name field = if str_eq_ignore_ascii_case field.0 name then Some field.1 else None

-- the values of the fields of that name, in order
abbrev pub values_of : List ℕ → List (List ℕ × List ℕ) → List (List ℕ)
values_of name = filter_map (named name)

-- the number that decimal digits give, leading zeros among them, where it is one of 64 bits
abbrev pub number_of : List ℕ → Option ℕ
number_of text =
    if nat_lt 0 (length text) && (list_all is_ascii_digit text && nat_lt (digits_value 10 text) (2 ^ 64))
    then Some (digits_value 10 text) else None

-- the number that the one value of Content-Length gives
abbrev pub length_of : List (List ℕ) → Option ℕ
length_of [] = None
length_of (value ∷ []) = number_of value
length_of (value ∷ next ∷ more) = None

-- a value as a text: empty where it isn't UTF-8
abbrev pub text_or_empty : List ℕ → List ℕ
text_or_empty value = if is_utf8 value then value else []

-- the text of a field: empty where it stands twice or isn't UTF-8
abbrev pub text_value : List (List ℕ) → Option (List ℕ)
text_value [] = None
text_value (value ∷ []) = Some (text_or_empty value)
text_value (value ∷ next ∷ more) = Some []

-- a byte that ends an element of a list
abbrev pub is_comma : ℕ → Bool
is_comma byte = byte == 44

-- a byte in front of the first of these texts
abbrev pub before_all : ℕ → List (List ℕ) → List (List ℕ)
before_all byte [] = (byte ∷ []) ∷ []
before_all byte (text ∷ more) = (byte ∷ text) ∷ more

-- what stands before, between and after the commas
unfoldable pub elements : List ℕ → List (List ℕ)
elements [] = [] ∷ []
elements (byte ∷ more) = if is_comma byte then [] ∷ elements more else before_all byte (elements more)

-- without the white space at both ends
abbrev pub trimmed : List ℕ → List ℕ
trimmed text =
    let later = drop (prefix_len is_ascii_whitespace text) text in
    take (length later - suffix_len is_ascii_whitespace later) later

-- the element is this token, in whatever case
abbrev pub is_token : List ℕ → List ℕ → Bool
is_token token element = str_eq_ignore_ascii_case (trimmed element) token

-- the comma list has this token
abbrev pub has_token : List ℕ → List ℕ → Bool
has_token token value = list_any (is_token token) (elements value)
