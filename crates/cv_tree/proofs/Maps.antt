-- A `BTreeMap` as a finite map.
use Rattle.std.proofs.Common.{◌≡◌, cond, List, [], ◌∷◌, length, refl, sym, ap, ◌∙◌, arith}
use Rattle.std.specs.declared.cmp.Ordering.{Ordering}
use Rattle.std.specs.declared.option.Option.TheVariants.{Some}
use Rattle.std.specs.Cmp.{IsTotalOrder, eq_by_cmp_equiv}
use Rattle.std.specs.declared.cmp.Ordering.TheVariants.{Less}
use Rattle.std.specs.List.{AllByRecursion}
use Rattle.std.specs.List.Sorted.{IsStrictlySortedBy}
use Rattle.std.proofs.lemmas.Map.Keys.{sorted_head, sorted_tail}
use Rattle.std.specs.Map.{lookup, keys_of}
use Rattle.std.specs.BTreeMap.{is_at}
use Rattle.std.specs.FinMap.{IsAntisymmetric, find, put, get, empty, insert, entries, from_entries, get-from_entries, get-insert, entries-insert, len-entries, len-empty, same_map}

no_length : {A : Type 0} (es : List A) → length es ≡ 0 → es ≡ []
no_length [] h = refl
no_length (e ∷ es) h = absurd (omega arith)

module _ {K X : Type 0} {R : K → K → Ordering} (o : IsTotalOrder R) where
  pub find-lookup : (es : List (K × X)) (q : K) → find R q es ≡ lookup (is_at (R q)) es
  find-lookup [] q = refl
  find-lookup (e ∷ es) q = ap (cond (is_at (R q) e.0) (Some e.1)) (find-lookup es q)

  -- what the map has at a key
  pub get-lookup : (es : List (K × X)) (q : K) → get (from_entries {R = R} es) q ≡ lookup (is_at (R q)) es
  get-lookup es q = get-from_entries o es q ∙ find-lookup es q

  -- entries that answer as others do after an insertion are the map with it
  pub insert-lookup : IsAntisymmetric R → (es fs : List (K × X)) (k : K) (v : X) → ((q : K) → lookup (is_at (R q)) fs ≡ cond (is_at (R k) q) (Some v) (lookup (is_at (R q)) es)) → from_entries {R = R} fs ≡ insert (from_entries es) k v
  insert-lookup exact es fs k v h = same_map o exact _ _ (λ q.
      get-lookup fs q ∙ h q ∙ ap (λ b. cond b (Some v) (lookup (is_at (R q)) es)) ((eq_by_cmp_equiv o).symm k q)
      ∙ sym (get-insert o (from_entries es) k v q ∙ ap (cond (is_at (R q) k) (Some v)) (get-lookup es q)))

  -- entries whose keys rise are those of the map that is made of them
  pub entries-from_entries : (es : List (K × X)) → IsStrictlySortedBy R (keys_of es) → entries (from_entries {R = R} es) ≡ es
  entries-from_entries [] rises = no_length _ (sym (len-entries (empty {X = X} {R = R})) ∙ len-empty R X)
  entries-from_entries (e ∷ es) rises =
      entries-insert o (from_entries es) e.0 e.1
      ∙ ap (put R e.0 e.1) (entries-from_entries es (sorted_tail R e.0 (keys_of es) rises))
      ∙ put_first e es (sorted_head R e.0 (keys_of es) rises)
    where
      put_first : (e : K × X) (es : List (K × X)) → AllByRecursion (λ k. R e.0 k ≡ Less) (keys_of es) → put R e.0 e.1 es ≡ e ∷ es
      put_first e [] below = refl
      put_first e (f ∷ es) below = rw (below.0) refl
