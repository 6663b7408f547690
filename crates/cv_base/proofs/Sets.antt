-- Sets of texts.
use Rattle.std.proofs.Common.{◌≡◌, ℕ, Bool, true, false, cond, ◌||◌, List, refl, ap, ◌∙◌}
use Rattle.std.specs.Prelude.{bytes_eq}
use Rattle.std.specs.Ordering.{is_eq}
use Rattle.std.specs.BTreeSet.{BTreeSet, contains, Updates}
use Rattle.std.proofs.lemmas.Map.Text.{is_eq-slice_cmp}
use Rattle.cv_base.specs.BytesOrder.{bytes_cmp}

or_cond : (a b : Bool) → cond b true a ≡ (a || b)
or_cond true true = refl
or_cond true false = refl
or_cond false true = refl
or_cond false false = refl

-- a set with one text more
pub contains-more : (s n : BTreeSet (List ℕ)) (k : List ℕ) → Updates bytes_cmp s n k true → (key : List ℕ) → contains bytes_cmp n key ≡ (contains bytes_cmp s key || bytes_eq k key)
contains-more s n k u key =
    u.0 key ∙ or_cond (contains bytes_cmp s key) (is_eq (bytes_cmp k key)) ∙ ap (λ (b : Bool). contains bytes_cmp s key || b) (is_eq-slice_cmp k key)
