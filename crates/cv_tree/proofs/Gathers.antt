-- A map that a loop makes of the entries of another, one after another.
use Rattle.std.proofs.Common.{◌≡◌, true, false, cond, not, List, [], ◌∷◌, ◌++◌, refl, sym, ap, ◌∙◌}
use Rattle.std.specs.declared.cmp.Ordering.TheVariants.{Less}
use Rattle.std.specs.declared.ops.Bound.TheVariants.{Included, Unbounded}
use Rattle.std.specs.declared.option.Option.TheVariants.{None, Some}
use Rattle.std.specs.Ordering.{is_eq, eq_by_cmp}
use Rattle.std.specs.BTreeMap.Range.{entries_between}
use Rattle.std.specs.Cmp.{tied_itself}
use Rattle.std.specs.List.{All, AllByRecursion}
use Rattle.std.specs.List.Sorted.{IsStrictlySortedBy}
use Rattle.std.specs.Map.{keys_of}
use Rattle.std.specs.FinMap.{FinMap, find, empty, insert, get, from_entries, get-empty, get-insert, get-from_entries, same_map}
use Rattle.std.proofs.lemmas.List.Elements.{All-head, All-tail, filter_passes}
use Rattle.std.proofs.lemmas.List.Kept.{IsStrictlySortedBy-filter}
use Rattle.std.proofs.lemmas.Map.Keys.{sorted_head, sorted_tail}
use Rattle.cv_base.specs.Path.{Path, path_cmp, behind, covers}
use Rattle.cv_base.proofs.Laws.{behind-append, behind-Some, path_total, path_exact, same_path_is}
use Rattle.cv_tree.specs.Tree.{entries_behind, entries_under, entries_outside, at, under, outside_with, put}
use Rattle.cv_tree.proofs.PathRuns.{stands_from, entries_behind-from, entries_behind-past, keys_of-from}
use Rattle.cv_tree.proofs.Replacements.{or_else, or_else-None, at_rest, find-entries_behind, find-entries_under, find-entries_outside, get-at, get-under, get-outside_with}

above_all : {X : Type 0} (k : Path) (es : List (Path × X)) → AllByRecursion (λ q. path_cmp k q ≡ Less) (keys_of es) → find path_cmp k es ≡ None
above_all k [] h = refl
above_all k (e ∷ es) h = rw (h.0) (above_all k es h.1)

module _ {X : Type 0} where
  -- the entries that are left, with those that were made, are the whole
  pub record Lacks (left : List (Path × X)) (made whole : FinMap path_cmp X) : Type 0 where
    pub at : (q : Path) → or_else (find path_cmp q left) (get made q) ≡ get whole q

  -- the same of a loop over entries that stand in the order of their paths
  pub record Gathers (make : List (Path × X) → List (Path × X)) (left : List (Path × X)) (made whole : FinMap path_cmp X) : Type 0 where
    pub lacks : Lacks (make left) made whole
    pub rises : IsStrictlySortedBy path_cmp (keys_of left)

  lacks-next : (k : Path) (v : X) (left : List (Path × X)) (made whole : FinMap path_cmp X) → find path_cmp k left ≡ None
      → Lacks ((k, v) ∷ left) made whole → Lacks left (insert made k v) whole
  lacks-next k v left made whole new h = record {
    at = λ q.
        ap (or_else (find path_cmp q left)) (get-insert path_total made k v q)
        ∙ elim (eq_by_cmp path_cmp q k) as (λ t. eq_by_cmp path_cmp q k ≡ t → or_else (find path_cmp q left) (cond t (Some v) (get made q)) ≡ or_else (cond t (Some v) (find path_cmp q left)) (get made q)) [
          | true ↦ λ same. rw (ap (λ (x : Path). find path_cmp x left) (same_path_is q k same) ∙ new) refl
          | false ↦ λ other. refl
        ] refl
        ∙ h.at q;
  }

  -- when nothing is left to make, the whole was made
  pub gathered : (make : List (Path × X) → List (Path × X)) {left : List (Path × X)} {made whole : FinMap path_cmp X} → Gathers make left made whole → make left ≡ [] → made ≡ whole
  gathered make h none = same_map path_total path_exact _ _ (λ q. rw none at (h.lacks.at q))

  -- ---- what a path covers, of entries none of which stands before it
  pub record GathersFrom (p : Path) (left : List (Path × X)) (made whole : FinMap path_cmp X) : Type 0 where
    pub gathers : Gathers (entries_behind p) left made whole
    pub from : All (λ q. stands_from p q ≡ true) (keys_of left)

  pub behind-start : (p : Path) (es from : List (Path × X)) (t : FinMap path_cmp X) → from_entries es ≡ t → IsStrictlySortedBy path_cmp (keys_of es)
      → from ≡ entries_between path_cmp (Included p) Unbounded es → GathersFrom p from empty (at t p)
  behind-start p es from t is rises from-is = rw from-is (record {
    gathers = record {
      lacks = record {
        at = λ q. ap (or_else (find path_cmp q (entries_behind p (entries_between path_cmp (Included p) Unbounded es)))) (get-empty path_cmp q) ∙ or_else-None _
            ∙ ap (find path_cmp q) (entries_behind-from p es) ∙ find-entries_behind p q es
            ∙ sym (get-from_entries path_total es (p ++ q)) ∙ ap (λ (m : FinMap path_cmp X). get m (p ++ q)) is ∙ sym (get-at t p q);
      };
      rises = rw (keys_of-from p es) (IsStrictlySortedBy-filter path_cmp (stands_from p) (keys_of es) rises);
    };
    from = rw (keys_of-from p es) (filter_passes (stands_from p) (keys_of es));
  })

  pub behind-taken : (p k r : Path) (v : X) (left rest : List (Path × X)) (made whole : FinMap path_cmp X) → left ≡ (k, v) ∷ rest → Some r ≡ behind p k
      → GathersFrom p left made whole → GathersFrom p rest (insert made r v) whole
  behind-taken p k r v left rest made whole is covered h =
      let all : GathersFrom p ((k, v) ∷ rest) made whole = rw (← is) h in
      let new : find path_cmp r (entries_behind p rest) ≡ None =
      find-entries_behind p r rest ∙ ap (λ (x : Path). find path_cmp x rest) (sym (behind-Some p k r (sym covered))) ∙ above_all k rest (sorted_head path_cmp k (keys_of rest) all.gathers.rises) in
      record {
        gathers = record { lacks = lacks-next r v _ made whole new (rw (sym covered) at all.gathers.lacks); rises = sorted_tail path_cmp k (keys_of rest) all.gathers.rises };
        from = All-tail (λ q. stands_from p q ≡ true) k (keys_of rest) all.from;
      }

  -- at the first entry that the path doesn't cover, all was made
  pub behind-ended : (p k : Path) (v : X) (left rest : List (Path × X)) (made whole : FinMap path_cmp X) → left ≡ (k, v) ∷ rest → None ≡ behind p k
      → GathersFrom p left made whole → made ≡ whole
  behind-ended p k v left rest made whole is outside h =
      let all : GathersFrom p ((k, v) ∷ rest) made whole = rw (← is) h in
      let none : entries_behind p rest ≡ [] =
      entries_behind-past p k rest (All-head (λ q. stands_from p q ≡ true) k (keys_of rest) all.from) (sym outside) (sorted_head path_cmp k (keys_of rest) all.gathers.rises) in
      gathered (entries_behind p) all.gathers (rw (sym outside) none)

  -- ---- the same below a path
  pub under-start : (p : Path) (es : List (Path × X)) (s : FinMap path_cmp X) → from_entries es ≡ s → IsStrictlySortedBy path_cmp (keys_of es)
      → Gathers (entries_under p) es empty (under p s)
  under-start p es s is rises = record {
    lacks = record {
      at = λ q. ap (or_else (find path_cmp q (entries_under p es))) (get-empty path_cmp q) ∙ or_else-None _ ∙ find-entries_under p q es
          ∙ elim (behind p q) as (λ o. at_rest o (λ r. find path_cmp r es) None ≡ at_rest o (get s) None) [
            | None ↦ refl
            | Some r ↦ sym (get-from_entries path_total es r) ∙ ap (λ (m : FinMap path_cmp X). get m r) is
          ]
          ∙ sym (get-under p s q);
    };
    rises = rises;
  }

  pub under-taken : (p k : Path) (v : X) (left rest : List (Path × X)) (made whole : FinMap path_cmp X) → left ≡ (k, v) ∷ rest
      → Gathers (entries_under p) left made whole → Gathers (entries_under p) rest (insert made (p ++ k) v) whole
  under-taken p k v left rest made whole is h =
      let all : Gathers (entries_under p) ((k, v) ∷ rest) made whole = rw (← is) h in
      let new : find path_cmp (p ++ k) (entries_under p rest) ≡ None =
      find-entries_under p (p ++ k) rest ∙ ap (λ o. at_rest o (λ r. find path_cmp r rest) None) (behind-append p k) ∙ above_all k rest (sorted_head path_cmp k (keys_of rest) all.rises) in
      record { lacks = lacks-next (p ++ k) v _ made whole new all.lacks; rises = sorted_tail path_cmp k (keys_of rest) all.rises }

  -- an entry that is left is one of the map
  pub under-there : (p k : Path) (v : X) (left rest : List (Path × X)) (made s : FinMap path_cmp X) → left ≡ (k, v) ∷ rest
      → Gathers (entries_under p) left made (under p s) → get s k ≡ Some v
  under-there p k v left rest made s is h =
      let all : Gathers (entries_under p) ((k, v) ∷ rest) made (under p s) = rw (← is) h in
      let here : Some v ≡ get (under p s) (p ++ k) = rw (ap is_eq (tied_itself path_total (p ++ k))) at (all.lacks.at (p ++ k)) in
      sym (here ∙ get-under p s (p ++ k) ∙ ap (λ o. at_rest o (get s) None) (behind-append p k))

  -- ---- what a path doesn't cover
  pub outside-start : (p : Path) (es : List (Path × X)) (t s : FinMap path_cmp X) → from_entries es ≡ t → IsStrictlySortedBy path_cmp (keys_of es)
      → Gathers (entries_outside p) es s (outside_with t p s)
  outside-start p es t s is rises = record {
    lacks = record {
      at = λ q. ap (λ o. or_else o (get s q)) (find-entries_outside p q es
          ∙ ap (λ o. cond (not (covers p q)) o None) (sym (get-from_entries path_total es q) ∙ ap (λ (m : FinMap path_cmp X). get m q) is))
          ∙ sym (get-outside_with t p s q);
    };
    rises = rises;
  }

  pub outside-taken : (p k : Path) (v : X) (left rest : List (Path × X)) (made whole : FinMap path_cmp X) → left ≡ (k, v) ∷ rest → covers p k ≡ false
      → Gathers (entries_outside p) left made whole → Gathers (entries_outside p) rest (insert made k v) whole
  outside-taken p k v left rest made whole is outside h =
      let all : Gathers (entries_outside p) ((k, v) ∷ rest) made whole = rw (← is) h in
      let new : find path_cmp k (entries_outside p rest) ≡ None =
      find-entries_outside p k rest ∙ ap (λ o. cond (not (covers p k)) o None) (above_all k rest (sorted_head path_cmp k (keys_of rest) all.rises)) ∙ rw outside refl in
      record { lacks = lacks-next k v _ made whole new (rw outside at all.lacks); rises = sorted_tail path_cmp k (keys_of rest) all.rises }

  pub outside-left : (p k : Path) (v : X) (left rest : List (Path × X)) (made whole : FinMap path_cmp X) → left ≡ (k, v) ∷ rest → covers p k ≡ true
      → Gathers (entries_outside p) left made whole → Gathers (entries_outside p) rest made whole
  outside-left p k v left rest made whole is covered h =
      let all : Gathers (entries_outside p) ((k, v) ∷ rest) made whole = rw (← is) h in
      record { lacks = rw covered at all.lacks; rises = sorted_tail path_cmp k (keys_of rest) all.rises }

  under_nothing : (p q : Path) → get (under p (empty {X = X} {R = path_cmp})) q ≡ None
  under_nothing p q = get-under p empty q ∙ elim (behind p q) as (λ o. at_rest o (get (empty {X = X} {R = path_cmp})) None ≡ None) [
    | None ↦ refl
    | Some r ↦ get-empty path_cmp r
  ]

  -- what a path doesn't cover is the map with nothing set there
  pub outside-alone : (p : Path) (es : List (Path × X)) (t : FinMap path_cmp X) → from_entries es ≡ t → IsStrictlySortedBy path_cmp (keys_of es)
      → from_entries (entries_outside p es) ≡ put t p empty
  outside-alone p es t is rises = same_map path_total path_exact _ _ (λ q.
      get-from_entries path_total (entries_outside p es) q ∙ sym (or_else-None (find path_cmp q (entries_outside p es)))
      ∙ ap (or_else (find path_cmp q (entries_outside p es))) (sym (under_nothing p q)) ∙ (outside-start p es t (under p empty) is rises).lacks.at q)
