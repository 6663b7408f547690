-- Where the lines of a text end.
use Rattle.std.proofs.Common.{◌≡◌, ℕ, true, false, List, [], ◌∷◌, ◌++◌, codes, refl, sym, ap, ◌∙◌, append_assoc}
use Rattle.std.specs.List.{AllByRecursion}
use Rattle.cv_base.proofs.Laws.{all_weaker}
use Rattle.cv_manifest.specs.Lines.{has_newline, ended, IsLine}
use Rattle.cv_manifest.proofs.Cuts.{one_cut, newline_in, not_nil, ended-cons, ended-first}

abbrev pub IsWhole : List ℕ → Type 0
IsWhole line = has_newline line ≡ false

pub are_whole : (lines : List (List ℕ)) → AllByRecursion IsLine lines → AllByRecursion IsWhole lines
are_whole lines = all_weaker IsLine IsWhole lines (λ line is. is.whole)

-- the lines that a text begins with are the first of all its lines
pub record Follow (all front : List (List ℕ)) (rest : List ℕ) : Type 0 where
  pub lines : List (List ℕ)
  pub all_are : all ≡ front ++ lines
  pub rest_is : rest ≡ ended lines

pub follow : (front all : List (List ℕ)) (rest : List ℕ) → AllByRecursion IsWhole front → AllByRecursion IsWhole all
    → ended all ≡ ended front ++ rest → Follow all front rest
follow [] all rest front-whole all-whole e = record { lines = all; all_are = refl; rest_is = sym e }
follow (line ∷ front) [] rest front-whole all-whole e = absurd (not_nil line (ended front ++ rest) (sym (ended-cons line front rest) ∙ sym e))
follow (line ∷ front) (first ∷ all) rest front-whole all-whole e =
    let cut = one_cut line first (ended front ++ rest) (ended all) front-whole.0 all-whole.0 (sym (ended-cons line front rest) ∙ sym e ∙ ended-first first all) in
    let more = follow front all rest front-whole.1 all-whole.1 (sym cut.1) in
    record { lines = more.lines; all_are = ap (λ (l : List ℕ). l ∷ all) (sym cut.0) ∙ ap (λ (ls : List (List ℕ)). line ∷ ls) more.all_are; rest_is = more.rest_is }

-- ---- the line `--`

abbrev pub dashes : List ℕ
dashes = codes "--"

-- the line `--` behind others
pub end_line : (lines : List (List ℕ)) (x : List ℕ) → ended lines ++ codes "--\n" ++ x ≡ ended lines ++ (dashes ++ 10 ∷ x)
end_line lines x = append_assoc (ended lines) (codes "--\n") x

-- the first line that is `--` stands at one place
pub one_end : (a b : List (List ℕ)) (x y : List ℕ) → AllByRecursion IsLine a → AllByRecursion IsLine b
    → ended a ++ (dashes ++ 10 ∷ x) ≡ ended b ++ (dashes ++ 10 ∷ y) → (a ≡ b) × (x ≡ y)
one_end [] [] x y a-lines b-lines e = (refl, (one_cut dashes dashes x y refl refl e).1)
one_end [] (line ∷ b) x y a-lines b-lines e =
    absurd (b-lines.0.not_end (sym (one_cut dashes line x (ended b ++ (dashes ++ 10 ∷ y)) refl b-lines.0.whole (e ∙ ended-cons line b (dashes ++ 10 ∷ y))).0))
one_end (line ∷ a) [] x y a-lines b-lines e =
    absurd (a-lines.0.not_end (one_cut line dashes (ended a ++ (dashes ++ 10 ∷ x)) y a-lines.0.whole refl (sym (ended-cons line a (dashes ++ 10 ∷ x)) ∙ e)).0)
one_end (line ∷ a) (first ∷ b) x y a-lines b-lines e =
    let cut = one_cut line first (ended a ++ (dashes ++ 10 ∷ x)) (ended b ++ (dashes ++ 10 ∷ y)) a-lines.0.whole b-lines.0.whole (sym (ended-cons line a (dashes ++ 10 ∷ x)) ∙ e ∙ ended-cons first b (dashes ++ 10 ∷ y)) in
    let more = one_end a b x y a-lines.1 b-lines.1 cut.1 in
    (ap (λ (l : List ℕ). l ∷ a) cut.0 ∙ ap (λ (ls : List (List ℕ)). first ∷ ls) more.0, more.1)

-- bytes behind lines, of which none is `--` and which have no newline, hold no such line
pub no_end : (a b : List (List ℕ)) (rest y : List ℕ) → AllByRecursion IsLine a → AllByRecursion IsLine b → has_newline rest ≡ false
    → ended a ++ rest ≡ ended b ++ (dashes ++ 10 ∷ y) → ⊥
no_end [] [] rest y a-lines b-lines none e = let wrong : has_newline rest ≡ true = rw e (newline_in dashes y) in cc
no_end [] (line ∷ b) rest y a-lines b-lines none e =
    let is : rest ≡ line ++ 10 ∷ (ended b ++ (dashes ++ 10 ∷ y)) = e ∙ ended-cons line b (dashes ++ 10 ∷ y) in
    let wrong : has_newline rest ≡ true = rw is (newline_in line (ended b ++ (dashes ++ 10 ∷ y))) in cc
no_end (line ∷ a) [] rest y a-lines b-lines none e =
    a-lines.0.not_end (one_cut line dashes (ended a ++ rest) y a-lines.0.whole refl (sym (ended-cons line a rest) ∙ e)).0
no_end (line ∷ a) (first ∷ b) rest y a-lines b-lines none e =
    let cut = one_cut line first (ended a ++ rest) (ended b ++ (dashes ++ 10 ∷ y)) a-lines.0.whole b-lines.0.whole (sym (ended-cons line a rest) ∙ e ∙ ended-cons first b (dashes ++ 10 ∷ y)) in
    no_end a b rest y a-lines.1 b-lines.1 none cut.1
