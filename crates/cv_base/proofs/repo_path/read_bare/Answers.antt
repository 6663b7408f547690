use Rattle.std.proofs.Common.{◌≡◌, ◌≤◌, List, ℕ, length, None, Bor, map, ◌∙◌, sym, ap, arith}
use Rattle.std.proofs.lemmas.List.{length-map}
use Rattle.cv_base.specs.PathText.{parts_of, names_of, bad_name}
use Rattle.cv_base.proofs.PathTexts.{IsPath-names_of}
use Rattle.cv_base.proofs.repo_path.read_bare.Goals as goal

pub invariant_of-result : goal.invariant_of-result
invariant_of-result c =
    let text = c.args.bare.now in
    let texts : List (Bor (List ℕ)) → List (List ℕ) = λ parts. map (λ part. part.now) parts in
    let parts : texts c.in_ok-parts.parts.items ≡ parts_of text = c.in_ok-parts.ensures in
    let same : texts c.deref.result.now ≡ parts_of text = ap texts c.deref.ensures.value ∙ parts in
    let names : texts c.names_of-names.result.now ≡ names_of (parts_of text) = c.names_of-names.ensures ∙ ap names_of same in
    let same2 : texts c.deref-2.result.now ≡ parts_of text = ap texts c.deref-2.ensures.value ∙ parts in
    let good : bad_name (parts_of text) ≡ None = sym (ap bad_name same2) ∙ sym c.bad_name.ensures ∙ c.in_default.is in
    let count : length (texts c.names_of-names.result.now) ≡ length c.names_of-names.result.now = length-map _ _ in
    let few : length (names_of (parts_of text)) ≤ 64 = omega (arith, ap length names, count) in
    rw (c.in_ok-names.ensures, names) (IsPath-names_of text good (omega arith) few)
