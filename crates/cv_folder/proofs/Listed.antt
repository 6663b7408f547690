-- Names that were found, in their order.
use Rattle.std.proofs.Common.{◌≡◌, ◌==◌, ◌++◌, ℕ, List, [], ◌∷◌, Result, Ok, Err, Vec, get_or, inl, inr, refl}
use Rattle.std.specs.Prelude.{◌↔◌, ◌⊎◌, IfOk, IsTrue}
use Rattle.std.specs.List.{Contains, dedup, starts_with}
use Rattle.std.specs.List.Sorted.{IsPermutation, IsSorted, IsStrictlySortedBy}
use Rattle.std.specs.Cmp.Lexicographic.{nat_list_cmp_total}
use Rattle.std.proofs.lemmas.Cmp.{eq_by_cmp_equiv}
use Rattle.std.proofs.lemmas.List.Elements.{All-contains, All-contains_itself, All-nil, All-push}
use Rattle.std.proofs.lemmas.List.Kept.{Contains-dedup, Contains-from_dedup, IsStrictlySortedBy-dedup}
use Rattle.std.proofs.lemmas.List.Sorted.{Contains-permutation, IsPermutation-sym}
use Rattle.cv_base.specs.Path.{same_name, with_slash}
use Rattle.cv_base.proofs.Laws.{same_name_is}
use Rattle.cv_base.specs.BytesOrder.{bytes_cmp}
use Rattle.cv_folder.specs.declared.hold.Hold.{Hold}
use Rattle.cv_folder.specs.declared.hold.Hold.TheVariants.{Absent, Refused, Unasked}
use Rattle.cv_system.specs.Calls.{Log}
use Rattle.cv_folder.specs.Listed.{AllBegin, FindsName, IsListed, IsListing, ListsFiles, ListsNamed}
use Rattle.cv_folder.specs.Hold.{IsHeld}
use Rattle.cv_system.specs.Steps.{Makes}

module _ (found sorted : List (List ℕ)) (moved : IsPermutation found sorted) where
  -- what is sorted has the same texts, and each once where those that are the same go
  pub same_texts : (text : List ℕ) → Contains (dedup same_name sorted) text ↔ Contains found text
  same_texts text = (
    λ has. Contains-permutation sorted found text (IsPermutation-sym found sorted moved) (Contains-from_dedup same_name sorted text has),
    λ has. Contains-dedup (eq_by_cmp_equiv nat_list_cmp_total) same_name_is sorted text (Contains-permutation found sorted text moved has),
  )

pub ascending : (sorted : List (List ℕ)) → IsSorted bytes_cmp sorted → IsStrictlySortedBy bytes_cmp (dedup same_name sorted)
ascending sorted h = IsStrictlySortedBy-dedup nat_list_cmp_total (λ x y. refl) sorted h

-- with one name more that begins with the prefix, each of them does
pub one_more : (prefix name : List ℕ) (found : List (List ℕ)) → IsTrue (starts_with (λ a b. a == b) name prefix) → AllBegin prefix found → AllBegin prefix (found ++ name ∷ [])
one_more prefix name found begins all = All-push (λ name. IsTrue (starts_with (λ a b. a == b) name prefix)) found name all begins

-- where these texts are those that were found, each of which begins with the prefix, so does each of them
all_begin : (prefix : List ℕ) (found texts : List (List ℕ)) → ((text : List ℕ) → Contains texts text ↔ Contains found text) → AllBegin prefix found → AllBegin prefix texts
all_begin prefix found texts same begin k d within =
    All-contains (λ name. IsTrue (starts_with (λ a b. a == b) name prefix)) found (get_or texts k d) begin ((same (get_or texts k d)).0 (All-contains_itself texts k d within))

-- what was found, in its order, is a listing
pub listed : (prefix : List ℕ) (found texts : List (List ℕ)) → IsStrictlySortedBy bytes_cmp texts → ((text : List ℕ) → Contains texts text ↔ Contains found text) → AllBegin prefix found → IsListed prefix texts
listed prefix found texts ascend same begin = (ascend, all_begin prefix found texts same begin)

-- without a name nothing is listed
pub none_listed : (prefix : List ℕ) → IsListed prefix []
unfolding IsStrictlySortedBy
none_listed prefix = (tt, All-nil (λ name. IsTrue (starts_with (λ a b. a == b) name prefix)))

-- files that were found stay so in any order
pub lists_sorted : (root : List ℕ) (found texts : List (List ℕ)) (before after : Log) → ((text : List ℕ) → Contains texts text ↔ Contains found text) → ListsFiles root found before after → ListsFiles root texts before after
lists_sorted root found texts before after same lists =
    (lists.0, λ k d within. All-contains (λ name. FindsName root name before after) found (get_or texts k d) lists.1 ((same (get_or texts k d)).0 (All-contains_itself texts k d within)))

module _ {F : Type 0} (Z E : Type 0) (root : List ℕ) (hold : Hold F) (before after : Log) where
  -- nothing is listed where the vault doesn't have its folder
  pub unlisted : (error : E) → (hold ≡ Unasked) ⊎ (hold ≡ Refused) → after ≡ before → ListsNamed {Z = Z} root hold (Err error) before after
  unfolding ListsNamed
  unlisted error never same = inl (never, same)

  -- nor where none is there
  pub listed_none : (names : Vec (List ℕ) Z) → hold ≡ Absent → names.items ≡ [] → after ≡ before → ListsNamed {E = E} root hold (Ok names) before after
  unfolding ListsNamed
  listed_none names absent none same = inl (absent, none, same)

  -- in one that it holds files are
  pub listed_so : (result : Result (Vec (List ℕ) Z) E) → IsHeld hold → Makes (IsListing (with_slash root)) before after → IfOk result (λ names. ListsFiles root names.items before after) → ListsNamed root hold result before after
  unfolding ListsNamed
  listed_so (Ok names) held calls saw = inr (held, saw)
  listed_so (Err error) held calls saw = inr (held, calls)
