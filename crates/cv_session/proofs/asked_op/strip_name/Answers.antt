use Rattle.std.proofs.Common.{◌≡◌, ◌==◌, Bool, ◌∙◌, sym, ap, List, ℕ, inl, inr, true, false, arith, length}
use Rattle.std.proofs.lemmas.Bool.{eqb-true}
use Rattle.std.proofs.lemmas.Str.Pattern.{starts_char}
use Rattle.cv_session.proofs.Slashes.{IsBehindName, is_named, other_named, no_name, stripped}
use Rattle.cv_session.proofs.asked_op.strip_name.Goals as goal
use Rattle.cv_session.proofs.asked_op.strip_name.Goals.{then-is_empty, else-is_empty}

-- a text that a test found not to be empty has some length
not_empty : (xs : List ℕ) (empty : Bool) → empty ≡ false → empty ≡ (length xs == 0) → length xs ≡ 0 → ⊥
not_empty xs empty not_so is none = let holds : (length xs == 0) ≡ true = ap (λ n. n == 0) none in absurd (cc)

pub returns-in_err-rest : goal.returns-in_err-rest
returns-in_err-rest c =
    rw c.from_residual.ensures (no_name c.args.repository.now c.args.text.now (rw c.text.ensures.text at c.in_err-rest.ensures.cases))

pub returns-then-starts_with : goal.returns-then-starts_with
returns-then-starts_with c =
    let parts = stripped c.args.repository.now c.args.text.now c.in_ok-rest.rest.now (rw c.text.ensures.text at c.in_ok-rest.ensures.cases) in
    let behind : IsBehindName c.in_ok-rest.rest.now = elim c.if-is_empty.branch [
      | then-is_empty w ↦ inl (eqb-true _ 0 (sym c.is_empty.ensures ∙ w.if-is_empty.true))
      | else-is_empty w ↦ inr ((starts_char 47 _ _ w.starts_with.ensures.cases (omega arith) (omega arith)).0 (sym w.value-is ∙ c.if-starts_with.true))
    ] in
    (is_named _ _ _ c.text.ensures.grammar parts.0 behind, parts.1)

pub returns-else-starts_with : goal.returns-else-starts_with
returns-else-starts_with c =
    let parts = stripped c.args.repository.now c.args.text.now c.in_ok-rest.rest.now (rw c.text.ensures.text at c.in_ok-rest.ensures.cases) in
    let other : IsBehindName c.in_ok-rest.rest.now → ⊥ = elim c.if-is_empty.branch [
      | then-is_empty w ↦ λ behind. let value = w.value-is in let fails = c.if-starts_with.false in absurd (cc)
      | else-is_empty w ↦ λ behind. elim behind [
        | inl none ↦ not_empty _ _ w.if-is_empty.false c.is_empty.ensures none
        | inr slash ↦
            let holds = (starts_char 47 _ _ w.starts_with.ensures.cases (omega arith) (omega arith)).1 slash in
            let value = w.value-is in let fails = c.if-starts_with.false in absurd (cc)
      ]
    ] in
    other_named _ _ _ c.text.ensures.grammar parts.0 other
