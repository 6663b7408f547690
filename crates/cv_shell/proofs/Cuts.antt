-- Lines, cut at newlines.
use Rattle.std.proofs.Common.{◌≡◌, ℕ, ◌+◌, ◌<◌, ◌≤◌, false, List, ◌∷◌, ◌++◌, length, get_or, take, drop, Some, None, refl, sym, ap, subst, ◌∙◌, arith, add-one}
use Rattle.std.specs.Prelude.{position}
use Rattle.std.proofs.lemmas.Bool.{eqb-true}
use Rattle.std.proofs.lemmas.List.{take-append-drop, take-take, take_all, length-take, get_or-take}
use Rattle.std.proofs.lemmas.List.Quantifiers.{position-Some}
use Rattle.std.proofs.Math.Seq.{drop-cons}
use Rattle.cv_manifest.specs.Lines.{has_newline}
use Rattle.cv_manifest.proofs.Lemmas.{cut_at, is_newline}
use Rattle.cv_shell.specs.Lines.{IsLine, IsTooLong}

-- within the room of a line and its newline
module _ (held : List ℕ) (room : ℕ) where
  -- none is found in as many bytes as a line and its newline may have
  pub too_long : room ≤ 8193 → 8192 < room → room ≤ length held → position is_newline (take room held) ≡ None → IsTooLong held
  too_long most above within none =
      let all : room ≡ 8193 = omega arith in
      record { size = omega arith; whole = subst (λ (n : ℕ). has_newline (take n held) ≡ false) all (cut_at (take room held) None none) }

  -- none is found in all of fewer
  pub part : length held ≤ room → room ≤ 8192 → position is_newline (take room held) ≡ None → IsLine held
  part all below none = record { size = omega arith; whole = subst (λ (b : List ℕ). has_newline b ≡ false) (take_all room held all) (cut_at (take room held) None none) }

  -- one is found
  pub found : (size : ℕ) → room ≤ 8193 → position is_newline (take room held) ≡ Some size → IsLine (take size held) × (held ≡ take size held ++ 10 ∷ drop (size + 1) held)
  found size most is =
      let first = position-Some is_newline (take room held) size 0 is in
      let within : size < length (take room held) = first.0 in
      let below : size < room = omega (arith, within, length-take room held) in
      let there : size < length held = omega (arith, within, length-take room held) in
      let byte : get_or held size 0 ≡ 10 = sym (get_or-take room held size 0 below) ∙ eqb-true _ 10 first.1 in
      let whole : has_newline (take size held) ≡ false = subst (λ (b : List ℕ). has_newline b ≡ false) (take-take size room held (omega arith)) (cut_at (take room held) (Some size) is).0 in
      (record { size = omega (arith, length-take size held); whole = whole }, sym (take-append-drop size held) ∙ ap (λ (t : List ℕ). take size held ++ t) (rw (drop-cons held size 0 there, byte, add-one size) refl))
