-- Values that are added one after another.
use Rattle.std.proofs.Common.{◌≡◌, List, [], ◌∷◌, ◌++◌, refl, sym, ap, ◌∙◌, append_assoc, append-nil, Bor}
use Rattle.std.specs.Prelude.{Option, Some, None}
use Rattle.clap.specs.Matches.{first_value}
use Rattle.clap.specs.Walk.{Text, first_of, rows_of, texts}
use Rattle.clap.specs.declared.parser.matches.Found.{Found}
use Rattle.clap.proofs.WalkLemmas.{first_value-rows}
use Rattle.cv_words.specs.ProgramInner.{and_then}

alone : (o : Option Text) (rest : List Text) → and_then o rest ≡ and_then o [] ++ rest
alone None rest = refl
alone (Some value) rest = refl

more : (before : List Text) (o : Option Text) (rest : List Text) → (before ++ and_then o []) ++ rest ≡ before ++ and_then o rest
more before o rest = append_assoc before (and_then o []) rest ∙ ap (λ (l : List Text). before ++ l) (sym (alone o rest))

pub in_turn : (a b c d : Option Text) → ((([] ++ and_then a []) ++ and_then b []) ++ and_then c []) ++ and_then d [] ≡ and_then a (and_then b (and_then c (and_then d [])))
in_turn a b c d =
    more (([] ++ and_then a []) ++ and_then b []) c (and_then d [])
    ∙ more ([] ++ and_then a []) b (and_then c (and_then d []))
    ∙ more [] a (and_then b (and_then c (and_then d [])))

-- ---- a value that is added, or none

pub none_added : (before : List (Bor Text)) (id : Text) (f : Found) → None ≡ first_value f id → texts before ≡ texts before ++ and_then (first_of id (rows_of f)) []
none_added before id f none = sym (append-nil (texts before)) ∙ ap (λ (o : Option Text). texts before ++ and_then o []) (none ∙ first_value-rows f id)

texts_more : (before : List (Bor Text)) (value : Bor Text) → texts (before ++ value ∷ []) ≡ texts before ++ value.now ∷ []
texts_more [] value = refl
texts_more (x ∷ before) value = ap (λ (l : List Text). x.now ∷ l) (texts_more before value)

pub one_added : (before after : List (Bor Text)) (value : Bor Text) (id : Text) (f : Found) → after ≡ before ++ value ∷ [] → Some value.now ≡ first_value f id
    → texts after ≡ texts before ++ and_then (first_of id (rows_of f)) []
one_added before after value id f is has = ap texts is ∙ texts_more before value ∙ ap (λ (o : Option Text). texts before ++ and_then o []) (has ∙ first_value-rows f id)
