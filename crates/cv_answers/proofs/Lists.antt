-- Values that are read one after another.
use Rattle.std.proofs.Common.{◌≡◌, ℕ, ◌+◌, ◌<◌, List, [], ◌∷◌, ◌++◌, length, map, get_or, take, drop, Option, Some, Result, Ok, Err, inl, inr, refl, sym, ap, ◌∙◌, append_assoc}
use Rattle.std.specs.Result.{IsErrAnd, result_map_both}
use Rattle.std.proofs.lemmas.List.{map-append, take_more}
use Rattle.serde_json.specs.Data.{Data}
use Rattle.serde_json.specs.Find.{as_array}
use Rattle.serde_json.specs.View.{view, items_of}
use Rattle.serde_json.specs.declared.value.Value.{Value}
use Rattle.cv_json.proofs.Laws.{elements-items_of}
use Rattle.cv_base.specs.Sequence.{◌>>=◌}
use Rattle.cv_base.specs.Unless.{IsUnless}
use Rattle.cv_base.proofs.Laws.{drop_is}
use Rattle.cv_answers.specs.AnswerText.{each_of, array_member}
use Rattle.cv_messages.specs.declared.message_fault.MessageFault.{MessageFault}
use Rattle.cv_messages.specs.declared.message_fault.MessageFault.TheVariants.{NoMemory}

-- the values behind others
abbrev pub behind : {A : Type 0} → List A → Result (List A) MessageFault → Result (List A) MessageFault
behind before later = later >>= λ xs. Ok (before ++ xs)

-- a value before others stands last behind those that are before it
behind-one : {A : Type 0} (before : List A) (x : A) (later : Result (List A) MessageFault) → behind before (later >>= λ xs. Ok (x ∷ xs)) ≡ behind (before ++ x ∷ []) later
behind-one before x (Ok xs) = ap Ok (sym (append_assoc before (x ∷ []) xs))
behind-one before x (Err fault) = refl

-- one value more was read
pub behind-more : {A : Type 0} (says : Data → Result A MessageFault) (vs : List Value) (i : ℕ) (v : Value) (x : A) (before after : List A) (all : Result (List A) MessageFault)
    → i < length vs → v ≡ get_or vs i v → Ok x ≡ says (view v) → after ≡ before ++ x ∷ []
    → all ≡ behind before (each_of says (map view (drop i vs))) → all ≡ behind after (each_of says (map view (drop (i + 1) vs)))
behind-more says vs i v x before after all below is told pushed so_far =
    let later = each_of says (map view (drop (i + 1) vs)) in
    let cut = drop_is vs i v below is in
    let here : each_of says (map view (drop i vs)) ≡ (later >>= λ xs. Ok (x ∷ xs)) = rw (cut, ← told) refl in
    so_far ∙ ap (behind before) here ∙ behind-one before x later ∙ ap (λ w. behind w later) (sym pushed)

-- a fault of a value is that of all
pub behind-fault : {A T : Type 0} (says : Data → Result A MessageFault) (vs : List Value) (i : ℕ) (v : Value) (fault : MessageFault) (before : List A) (all : Result (List A) MessageFault)
    (r : Result T MessageFault) (seen : T → List A) → i < length vs → v ≡ get_or vs i v → IsUnless NoMemory (Err fault) (says (view v))
    → all ≡ behind before (each_of says (map view (drop i vs))) → IsErrAnd r (λ given. given ≡ fault) → IsUnless NoMemory (result_map_both seen (λ f. f) r) all
behind-fault says vs i v fault before all (Ok x) seen below is told so_far given = absurd given
behind-fault says vs i v fault before all (Err other) seen below is told so_far given =
    let cut = drop_is vs i v below is in
    elim told [
      | inl lacking ↦ inl (given ∙ lacking)
      | inr first ↦ let whole : all ≡ Err fault = so_far ∙ rw (cut, ← first) refl in inr (ap Err given ∙ sym whole)
    ]

-- one value more was made
pub seen-more : {A : Type 0} (data_of : A → Data) (xs : List A) (i : ℕ) (x : A) (before after : List Value) (v : Value)
    → i < length xs → x ≡ get_or xs i x → view v ≡ data_of x → after ≡ before ++ v ∷ []
    → map view before ≡ map data_of (take i xs) → map view after ≡ map data_of (take (i + 1) xs)
seen-more data_of xs i x before after v below is made pushed so_far =
    let grown : take (i + 1) xs ≡ take i xs ++ x ∷ [] = take_more xs i x below ∙ ap (λ w. take i xs ++ w ∷ []) (sym is) in
    rw (pushed, grown, map-append view before (v ∷ []), map-append data_of (take i xs) (x ∷ []), so_far, made) refl

-- an array that is seen by its elements
pub array_member-is : (found : Option Data) (d : Data) (ds : List Data) → Some d ≡ found → Some (items_of ds) ≡ as_array d → array_member found ≡ Ok ds
array_member-is found d ds is array = rw (← is, ← array, elements-items_of ds) refl
