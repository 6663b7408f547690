-- What is found in a list.
use Rattle.std.proofs.Common.{◌≡◌, ℕ, Bool, true, false, cond, List, [], ◌∷◌, Some, refl, sym, ap, ◌∙◌}
use Rattle.std.specs.Prelude.{find}
use Rattle.std.specs.List.{list_all}
use Rattle.std.specs.Str.{bytes_eq}
use Rattle.std.proofs.lemmas.Bool.{and_parts}
use Rattle.cv_messages.specs.MemberName.{member_name, named_members, member_of, is_named}
use Rattle.cv_messages.specs.declared.member.Member.{Member}

-- what is found passes the test, and any test that all pass
pub found : {A : Type 0} (p q : A → Bool) (xs : List A) (x : A) → list_all q xs ≡ true → find p xs ≡ Some x → (p x ≡ true) × (q x ≡ true)
found p q [] x all h = cc
found p q (y ∷ ys) x all h =
    let parts = and_parts (q y) (list_all q ys) all in
    elim (p y) as (λ t. p y ≡ t → cond t (Some y) (find p ys) ≡ Some x → (p x ≡ true) × (q x ≡ true)) [
      | true ↦ λ e k. let same : y ≡ x = cc in (sym (ap p same) ∙ e, sym (ap q same) ∙ parts.0)
      | false ↦ λ e k. found p q ys x parts.1 k
    ] refl h

-- a member that a text names has a name of its own
pub is_named-member_of : (text : List ℕ) (name : Member) → member_of text ≡ Some name → is_named name ≡ true
is_named-member_of text name h = (found (λ m. bytes_eq (member_name m) text) is_named named_members name refl h).1
