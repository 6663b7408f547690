-- Names that begin with a prefix stand together in the order of names.
use Rattle.std.proofs.Common.{◌≡◌, ◌&&◌, Bool, true, false, cond, nat_eq, ℕ, List, [], ◌∷◌, refl, ap, arith}
use Rattle.std.specs.Prelude.{String}
use Rattle.std.specs.List.{AllByRecursion, filter, starts_with}
use Rattle.std.specs.BTreeMap.Range.{entries_between}
use Rattle.std.specs.String.{string_bytes, string_cmp}
use Rattle.std.specs.declared.ops.Bound.TheVariants.{Included, Unbounded}
use Rattle.std.specs.declared.cmp.Ordering.TheVariants.{Less}
use Rattle.std.specs.Ordering.{is_le}
use Rattle.std.proofs.lemmas.Bool.Decides.{nat_tests}
use Rattle.cv_base.specs.BytesOrder.{bytes_cmp}
use Rattle.cv_vault.specs.Names.{Name}
use Rattle.cv_vault.proofs.Ordered.{names_of}

-- a name isn't before the prefix
abbrev pub is_from : Name → Name → Bool
is_from p n = is_le (bytes_cmp p n)

-- a name that begins with the prefix isn't before it
not_before : (p n : Name) → starts_with nat_eq n p ≡ true → is_from p n ≡ true
not_before [] [] h = refl
not_before [] (m ∷ n) h = refl
not_before (k ∷ p) [] h = cc
not_before (k ∷ p) (m ∷ n) h = let later = not_before p n in grind (arith, nat_tests)

-- a name behind one that isn't before the prefix, and doesn't begin with it, doesn't either
past : (p n m : Name) → is_from p n ≡ true → starts_with nat_eq n p ≡ false → bytes_cmp n m ≡ Less → starts_with nat_eq m p ≡ false
past [] n m from other below = cc
past (k ∷ p) [] m from other below = cc
past (k ∷ p) (l ∷ n) [] from other below = refl
past (k ∷ p) (l ∷ n) (j ∷ m) from other below = let later = past p n m in grind (arith, nat_tests)

module _ (p : Name) (f : Name → Bool) (others : (n : Name) → starts_with nat_eq n p ≡ false → f n ≡ false) where
  -- none of the names from one on passes, which is past those that begin with the prefix
  pub none_past : (n : Name) (ns : List Name) → is_from p n ≡ true → starts_with nat_eq n p ≡ false → AllByRecursion (λ m. bytes_cmp n m ≡ Less) ns → filter f (n ∷ ns) ≡ []
  none_past n ns from other below = rw (others n other) (behind ns below)
    where
      behind : (ms : List Name) → AllByRecursion (λ m. bytes_cmp n m ≡ Less) ms → filter f ms ≡ []
      behind [] below = refl
      behind (m ∷ ms) below = rw (others m (past p n m from other below.0)) (behind ms below.1)

  -- those that pass are among the names that aren't before the prefix
  pub none_before : (ns : List Name) → filter f (filter (is_from p) ns) ≡ filter f ns
  none_before [] = refl
  none_before (n ∷ ns) = by (is_from p n) (starts_with nat_eq n p) refl refl (none_before ns)
    where
      by : (b s : Bool) → is_from p n ≡ b → starts_with nat_eq n p ≡ s → filter f (filter (is_from p) ns) ≡ filter f ns
          → filter f (cond b (n ∷ filter (is_from p) ns) (filter (is_from p) ns)) ≡ filter f (n ∷ ns)
      by true s from begins later = rw later refl
      by false true from begins later = let k = not_before p n begins in cc
      by false false from begins later = rw (others n begins) later

-- the names of a map from a text on
pub names_from : {Y : Type 0} (s : String Y) (es : List (String Y × ℕ)) → names_of string_bytes (entries_between string_cmp (Included s) Unbounded es) ≡ filter (is_from (string_bytes s)) (names_of string_bytes es)
names_from s [] = refl
names_from {Y} s (e ∷ es) = by (is_from (string_bytes s) (string_bytes e.0)) (names_from s es)
  where
    by : (b : Bool) → names_of string_bytes (entries_between string_cmp (Included s) Unbounded es) ≡ filter (is_from (string_bytes s)) (names_of string_bytes es)
        → names_of string_bytes (cond (b && true) (e ∷ entries_between string_cmp (Included s) Unbounded es) (entries_between string_cmp (Included s) Unbounded es))
        ≡ cond b (string_bytes e.0 ∷ filter (is_from (string_bytes s)) (names_of string_bytes es)) (filter (is_from (string_bytes s)) (names_of string_bytes es))
    by true later = ap (λ ns. string_bytes e.0 ∷ ns) later
    by false later = later
