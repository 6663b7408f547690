-- One header more.
use Rattle.std.proofs.Common.{◌≡◌, ◌++◌, ◌+◌, ◌<◌, ℕ, List, [], ◌∷◌, Option, Some, None, map, take, length, refl, ap, ◌∙◌, get_or, append-nil, Bool, ◌||◌}
use Rattle.std.proofs.lemmas.List.{take_more, map-append}
use Rattle.std.specs.List.{list_any}
use Rattle.std.proofs.lemmas.List.Elements.{filter_map-append}
use Rattle.httparse.specs.Spans.{header_bytes}
use Rattle.httparse.specs.declared.spans.HeaderSpan.{HeaderSpan}
use Rattle.cv_http.specs.Fields.{named, values_of}

-- the values of one field
one : (name : List ℕ) (field : List ℕ × List ℕ) (o : Option (List ℕ)) → named name field ≡ o
    → values_of name (field ∷ []) ≡ (elim o [ Some v ↦ v ∷ [] | None ↦ [] ])
one name field (Some v) h = rw h refl
one name field None h = rw h refl

-- the values in one header more
one_more : (name buf : List ℕ) (hs : List HeaderSpan) (i : ℕ) (d : HeaderSpan) → i < length hs
    → values_of name (map (header_bytes buf) (take (i + 1) hs))
    ≡ values_of name (map (header_bytes buf) (take i hs)) ++ values_of name (header_bytes buf (get_or hs i d) ∷ [])
one_more name buf hs i d h = rw (take_more hs i d h, map-append, filter_map-append) refl

-- that header has the name
pub value_found : (name buf : List ℕ) (hs : List HeaderSpan) (i : ℕ) (d : HeaderSpan) (v : List ℕ) → i < length hs
    → named name (header_bytes buf (get_or hs i d)) ≡ Some v
    → values_of name (map (header_bytes buf) (take (i + 1) hs)) ≡ values_of name (map (header_bytes buf) (take i hs)) ++ v ∷ []
value_found name buf hs i d v below is =
    one_more name buf hs i d below ∙ ap (λ xs. values_of name (map (header_bytes buf) (take i hs)) ++ xs) (one name _ (Some v) is)

-- that header has another
pub value_missed : (name buf : List ℕ) (hs : List HeaderSpan) (i : ℕ) (d : HeaderSpan) → i < length hs
    → named name (header_bytes buf (get_or hs i d)) ≡ None
    → values_of name (map (header_bytes buf) (take (i + 1) hs)) ≡ values_of name (map (header_bytes buf) (take i hs))
value_missed name buf hs i d below is =
    one_more name buf hs i d below ∙ ap (λ xs. values_of name (map (header_bytes buf) (take i hs)) ++ xs) (one name _ None is) ∙ append-nil _

-- a test of what the elements are mapped to
pub list_any_map : {X Y : Type 0} (p : Y → Bool) (f : X → Y) (xs : List X) → list_any p (map f xs) ≡ list_any (λ x. p (f x)) xs
list_any_map p f [] = refl
list_any_map p f (x ∷ xs) = ap (λ b. p (f x) || b) (list_any_map p f xs)
