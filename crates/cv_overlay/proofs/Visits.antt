-- What one visit finds.
use Rattle.std.proofs.Common.{◌≡◌, ℕ, ◌+◌, ◌≤◌, Bool, true, false, cond, ◌||◌, ◌⊎◌, inl, inr, List, length, refl, sym, ap, subst, ◌∙◌, arith}
use Rattle.std.specs.Prelude.{Some, Ok, Err, IsSome, nat_lt}
use Rattle.std.specs.Ordering.{eq_by_cmp}
use Rattle.std.specs.FinMap.{get, insert, get-insert}
use Rattle.std.proofs.lemmas.List.{length-take, take_all}
use Rattle.cv_base.specs.Path.{Path, path_cmp}
use Rattle.cv_base.proofs.Laws.{path_total, same_path_is}
use Rattle.cv_base.specs.declared.attr.Attr.{Attr}
use Rattle.cv_ports.specs.Folder.{read_front}
use Rattle.cv_tree.specs.declared.node.Node.{Node}
use Rattle.cv_overlay.specs.Walk.{is_large}
use Rattle.cv_overlay.specs.FoundInner.{FoundView, with_file, file_step, IsWithin}
use Rattle.cv_overlay.specs.declared.read_fault.ReadFault.TheVariants as faults

pub record IsSmall (a b : ℕ) : Type 0 where
  pub size : a ≤ 16777216
  pub sum : b ≤ 1073741824

below_is : (n a : ℕ) → nat_lt n a ≡ false → a ≤ n
below_is n a h = grind arith

above_is : (n a b : ℕ) → a ≤ b → nat_lt n a ≡ true → nat_lt n b ≡ true
above_is n a b le h = grind arith

pub small : (a b : ℕ) → is_large a b ≡ false → IsSmall a b
small a b h = elim (nat_lt 16777216 a) as (λ t. nat_lt 16777216 a ≡ t → (t || nat_lt 1073741824 b) ≡ false → IsSmall a b) [
  | true ↦ λ _ k. cc
  | false ↦ λ e k. record { size = below_is 16777216 a e; sum = below_is 1073741824 b k }
] refl h

-- what is read of a content that isn't large is all of it
whole : (content : List ℕ) → length (read_front content) ≤ 16777216 → read_front content ≡ content
whole content h = let l = length-take 16777217 content in take_all 16777217 content (omega (arith, l, h))

large_is : (content : List ℕ) (sum : ℕ) → is_large (length (read_front content)) (sum + length (read_front content)) ≡ is_large (length content) (sum + length content)
large_is content sum =
    elim (nat_lt 16777216 (length (read_front content))) as (λ t. nat_lt 16777216 (length (read_front content)) ≡ t → (t || nat_lt 1073741824 (sum + length (read_front content))) ≡ is_large (length content) (sum + length content)) [
      | true ↦ λ e. let big : nat_lt 16777216 (length content) ≡ true = above_is 16777216 (length (read_front content)) (length content) (let l = length-take 16777217 content in omega (arith, l)) e in rw big refl
      | false ↦ λ e. let small : length (read_front content) ≤ 16777216 = below_is 16777216 (length (read_front content)) e in
          ap (λ (w : List ℕ). nat_lt 1073741824 (sum + length w)) (whole content small) ∙ sym (rw (sym (ap (λ (w : List ℕ). nat_lt 16777216 (length w)) (whole content small)) ∙ e) refl)
    ] refl

pub file_large : (q : Path) (attr : Attr) (content bytes : List ℕ) (s : FoundView) → bytes ≡ read_front content → is_large (length bytes) (s.sum + length bytes) ≡ true → file_step q attr content s ≡ Err (faults.TooLarge q)
file_large q attr content bytes s is h =
    let large : is_large (length content) (s.sum + length content) ≡ true = sym (large_is content s.sum) ∙ ap (λ (w : List ℕ). is_large (length w) (s.sum + length w)) (sym is) ∙ h in rw large refl

pub file_read : (q : Path) (attr : Attr) (content bytes : List ℕ) (s made : FoundView) → bytes ≡ read_front content → is_large (length bytes) (s.sum + length bytes) ≡ false → made ≡ with_file s q attr bytes
    → file_step q attr content s ≡ Ok made
file_read q attr content bytes s made is h with_it =
    let same : bytes ≡ content = is ∙ whole content (subst (λ (w : List ℕ). length w ≤ 16777216) is ((small _ _ h).size)) in
    let fits : is_large (length content) (s.sum + length content) ≡ false = ap (λ (w : List ℕ). is_large (length w) (s.sum + length w)) (sym same) ∙ h in
    rw fits (ap (λ (w : List ℕ). Ok (with_file s q attr w)) (sym same) ∙ ap (λ (w : FoundView). Ok w) (sym with_it))

-- a node more at a path
pub within : (s made : FoundView) (q p : Path) (node : Node) → made.nodes ≡ insert s.nodes q node → q ≡ p → IsWithin p s (Ok made)
within s made q p node is same = λ r some.
    elim (eq_by_cmp path_cmp r q) as (λ b. eq_by_cmp path_cmp r q ≡ b → IsSome (cond b (Some node) (get s.nodes r)) → (r ≡ p) ⊎ IsSome (get s.nodes r)) [
      | true ↦ λ e _. inl (same_path_is r q e ∙ same)
      | false ↦ λ _ there. inr there
    ] refl (subst IsSome (ap (λ w. get w r) is ∙ get-insert path_total s.nodes q node r) some)

-- what the code tests of the bytes that were read
pub tested : (bytes slice : List ℕ) (s : FoundView) (sum : ℕ) (large : Bool) → slice ≡ bytes → sum ≡ s.sum → large ≡ is_large (length slice) (sum + length slice)
    → is_large (length bytes) (s.sum + length bytes) ≡ large
tested bytes slice s sum large b n h = sym (h ∙ rw (b, n) refl)
