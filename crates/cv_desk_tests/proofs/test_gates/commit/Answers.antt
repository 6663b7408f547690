use Rattle.std.proofs.Common.{◌≡◌, [], true, refl, sym, subst}
use Rattle.std.specs.Str.{is_utf8}
use Rattle.std.proofs.lemmas.Str.{is_utf8-from_IsUtf8}
use Rattle.cv_gate.specs.Step.{is_key_id, is_tag}
use Rattle.cv_desk_tests.proofs.test_gates.commit.Goals as goal

pub returns : goal.returns
returns c =
    let text : is_utf8 [] ≡ true = is_utf8-from_IsUtf8 [] ([], (refl, refl)) in
    let tag : is_tag [] ≡ true = rw text refl in
    (subst (λ t. is_key_id t ≡ true) (sym c.in_ok-from_str.ensures) refl, subst (λ t. is_tag t ≡ true) (sym c.in_ok-from_str-2.ensures) tag)
