-- Targets, tags and their texts.
use Rattle.std.proofs.Common.{◌≡◌, ℕ, true, List, refl, sym, ap, ◌∙◌}
use Rattle.std.specs.Prelude.{Some}
use Rattle.std.specs.List.{list_all}
use Rattle.std.proofs.lemmas.Option.{same_Some}
use Rattle.cv_base.specs.Target.{is_target, target_of}
use Rattle.cv_base.proofs.Laws.{chosen}
use Rattle.cv_history.specs.Record.{is_tag_byte}
use Rattle.cv_history.specs.Reading.{tag_of}

pub target_is : (text target : List ℕ) → target_of text ≡ Some target → (text ≡ target) × (is_target target ≡ true)
target_is text target e =
    let c = chosen (is_target text) (Some text) target e in
    let same = same_Some text target c.1 in
    (same, ap is_target (sym same) ∙ c.0)

pub target_again : (target : List ℕ) → is_target target ≡ true → target_of target ≡ Some target
target_again target h = rw h refl

-- the tag's bytes are right
pub record IsTag (text tag : List ℕ) : Type 0 where
  pub text_is : text ≡ tag
  pub target : is_target tag ≡ true
  pub bytes : list_all is_tag_byte tag ≡ true

pub tag_is : (text tag : List ℕ) → tag_of text ≡ Some tag → IsTag text tag
tag_is text tag e =
    let c = chosen (list_all is_tag_byte text) (target_of text) tag e in
    let t = target_is text tag c.1 in
    record { text_is = t.0; target = t.1; bytes = ap (λ (l : List ℕ). list_all is_tag_byte l) (sym t.0) ∙ c.0 }

pub tag_again : (tag : List ℕ) → is_target tag ≡ true → list_all is_tag_byte tag ≡ true → tag_of tag ≡ Some tag
tag_again tag h bytes = rw (bytes, h) refl
