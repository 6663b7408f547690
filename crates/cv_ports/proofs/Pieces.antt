-- One piece more of a list.
use Rattle.std.proofs.Common.{◌≡◌, ◌≤◌, ◌+◌, ◌-◌, ◌++◌, ℕ, List, length, take, drop, ap, sym, ◌∙◌, length-drop}
use Rattle.std.specs.Prelude.{Option}
use Rattle.std.proofs.lemmas.List.{take-append-drop, take_at, length-take-le, drop-drop}
use Rattle.std.proofs.Math.Seq.{take-add}
use Rattle.cv_base.proofs.Laws.{rest_all}
use Rattle.cv_ports.specs.Streams.{onto}
use Rattle.cv_ports.proofs.Streams.{onto_twice}

-- one write more
pub one_more : (old before after : Option (List ℕ)) (xs : List ℕ) (at n : ℕ)
    → before ≡ onto old (take at xs) → after ≡ onto before (take n (take (length xs - at) (drop at xs))) → after ≡ onto old (take (at + n) xs)
one_more old before after xs at n was is =
    is ∙ ap (λ p. onto before (take n p)) (rest_all xs at) ∙ ap (λ p. onto p (take n (drop at xs))) was
    ∙ onto_twice old (take at xs) (take n (drop at xs)) ∙ ap (onto old) (sym (take-add at n xs))

-- what was left is what was put at the front of the buffer, and what is left
pub given : (xs buf : List ℕ) (at n : ℕ) → n ≤ length xs - at
    → drop at xs ≡ take n (take n (take (length xs - at) (drop at xs)) ++ drop n buf) ++ drop (at + n) xs
given xs buf at n fits =
    let size : n ≤ length (drop at xs) = rw length-drop fits in
    rw rest_all (
    sym (take-append-drop n (drop at xs))
    ∙ ap (λ p. p ++ drop n (drop at xs)) (sym (take_at (take n (drop at xs)) (drop n buf) n (length-take-le n (drop at xs) size)))
    ∙ ap (λ p. take n (take n (drop at xs) ++ drop n buf) ++ p) (drop-drop n at xs))

-- what was given, and what is at the front of the buffer behind it
pub given_more : (xs buf : List ℕ) (at n : ℕ) → n ≤ length xs - at
    → take (at + n) xs ≡ take at xs ++ take n (take n (take (length xs - at) (drop at xs)) ++ drop n buf)
given_more xs buf at n fits =
    let size : n ≤ length (drop at xs) = rw length-drop fits in
    rw rest_all (
    take-add at n xs
    ∙ ap (λ p. take at xs ++ p) (sym (take_at (take n (drop at xs)) (drop n buf) n (length-take-le n (drop at xs) size))))
