-- A catalogue of the tree is taken: what is wanted, kept and told then.
use Rattle.std.proofs.Common.{◌≡◌, ◌≢◌, ℕ, Bool, true, false, List, [], ◌∷◌, ◌++◌, map, refl, sym, ap, subst, ◌∙◌, append-nil, append_assoc, ◌⊎◌, inl, inr}
use Rattle.std.specs.Prelude.{Contains}
use Rattle.std.specs.List.{AllZip}
use Rattle.std.specs.declared.option.Option.{Option}
use Rattle.std.specs.declared.option.Option.TheVariants.{None, Some}
use Rattle.std.specs.FinMap.{empty, get, get-empty}
use Rattle.std.proofs.lemmas.Bool.{and_parts, or_cases, or_right}
use Rattle.std.proofs.lemmas.List.Elements.{Contains-append_cases, Contains-append_left, Contains-append_right, Contains-push, Contains-push_cases}
use Rattle.sha1.specs.Sha1.{sha1}
use Rattle.cv_base.specs.Path.{Path, path_cmp, covers, overlap}
use Rattle.cv_base.specs.Marker.{marker}
use Rattle.cv_base.specs.ObjectId.{object_id}
use Rattle.cv_base.specs.declared.id.Kind.TheVariants.{Catalogue}
use Rattle.cv_base.specs.declared.object.Object.{Object}
use Rattle.cv_base.proofs.Laws.{some_there, covers_itself, only_root}
use Rattle.cv_tree.specs.Tree.{Nodes, at, is_directory, is_file}
use Rattle.cv_tree.specs.Changes.{nodes_of}
use Rattle.cv_tree.specs.declared.node.Node.{Node}
use Rattle.cv_tree.specs.declared.node.Node.TheVariants.{Dir}
use Rattle.cv_tree.proofs.Laws.{get-at, some_directory}
use Rattle.cv_rows.specs.Catalogue.{Contents, IsCatalogue}
use Rattle.cv_rows.specs.Places.{StandsAt, root, root_kind}
use Rattle.cv_rows.specs.declared.row.Row.{Row}
use Rattle.cv_rows.specs.declared.nested.Nested.{Nested}
use Rattle.cv_rows.specs.declared.row_kind.RowKind.{RowKind}
use Rattle.cv_cut.specs.Cuts.{is_cut, is_marked, is_near}
use Rattle.cv_cut.specs.Cut.{catalogue_object}
use Rattle.cv_cut.specs.Catalogues.{cat, contents_of, entry_of, rows_of}
use Rattle.cv_cut.specs.Own.{AreOwn}
use Rattle.cv_cut.specs.Region.{IsNear, IsOther, KeysApart, row_at}
use Rattle.cv_cut.specs.Told.{node_as, node_of}
use Rattle.cv_cut.proofs.Lemmas.{comes_from, covers_append, cut_some, entries_are, entry_tells, first_there, goes_to, later_there, marked-at, nested_decodes, one_decoding, passes_of, passing, region_apart, rest_behind, row_tells, rows_are, stands, stands_at_cut}
use Rattle.cv_load.proofs.Lemmas.{single_entry}
use Rattle.cv_checkout.specs.Wanting.{IsNamed, Suits, id_of, is_covered, place_of, toward}
use Rattle.cv_checkout.specs.Progress.{Progress, ComesTo, StartsFrom}
use Rattle.cv_checkout.specs.Giving.{Takes}
use Rattle.cv_checkout.specs.InTree.{AreApart, IsOn, IsToward, IsWanted}
use Rattle.cv_checkout.specs.declared.wanted.Wanted.{Wanted}
use Rattle.cv_checkout.proofs.Zips.{zipped}
use Rattle.cv_checkout.proofs.Covering.{apart_append, below_place, covered_by, coverer, named_apart, named_of, overlap_above, overlap_sym}

-- ---- the bytes that are given

-- they are those of the tree's catalogue
pub own_bytes : (t : Nodes) (p : Path) (w : Wanted) (bytes : List ℕ) → IsWanted t p w → AreOwn t (bytes ∷ []) → sha1 bytes ≡ w.hash → bytes ≡ cat t w.path
own_bytes t p w bytes wanted own digest = own.own bytes w.path (first_there bytes []) wanted.toward.cut (digest ∙ wanted.hash_is)

-- and suit what is wanted
pub suited : (t : Nodes) (p : Path) (w : Wanted) (bytes : List ℕ) → IsWanted t p w → bytes ≡ cat t w.path → Suits w bytes (contents_of t w.path)
suited t p w bytes wanted same = subst (λ (b : List ℕ). Suits w b (contents_of t w.path)) (sym same) (record { sized = wanted.size_is; decodes = wanted.decodes })

-- as that catalogue alone
pub one_suits : (t : Nodes) (p : Path) (w : Wanted) (bytes : List ℕ) (c : Contents) → IsWanted t p w → bytes ≡ cat t w.path → Suits w bytes c → c ≡ contents_of t w.path
one_suits t p w bytes c wanted same suits = one_decoding (place_of w) bytes c (contents_of t w.path) suits.decodes (suited t p w bytes wanted same).decodes

-- ---- the catalogue of a cut on the way to the path, or at or below it

abbrev made : Nested → Row → Wanted
made n r = record { path = n.path; hash = n.hash; size = Some n.size; row = Some r }

one_node : (o : Option Node) (m n : Node) → o ≡ Some m → o ≡ Some n → m ≡ n
one_node o m n is was = let e : Some m ≡ Some n = sym is ∙ was in cc

root_as : (c : Path) (k : RowKind) (r : Row) → k ≡ root_kind c → node_as k r ≡ Dir r.attr
root_as [] k r is = rw is refl
root_as (a ∷ c) k r is = rw is refl

module _ (t : Nodes) (s : Progress) (on : IsOn t s) (first : Wanted) (rest : List Wanted) (is : s.wanted ≡ first ∷ rest) where
  abbrev c : Path
  c = first.path

  first_wanted : IsWanted t s.path first
  first_wanted = on.wants first (subst (λ (ws : List Wanted). Contains ws first) (sym is) (first_there first rest))

  cut : is_cut t c ≡ true
  cut = first_wanted.toward.cut

  keys : KeysApart c (at t c)
  keys = region_apart t c cut on.fits.apart

  rules : IsCatalogue (contents_of t c)
  rules = first_wanted.decodes.is

  rest_wanted : (w : Wanted) → Contains rest w → IsWanted t s.path w
  rest_wanted w has = on.wants w (subst (λ (ws : List Wanted). Contains ws w) (sym is) (later_there first rest w has))

  places : AreApart (first ∷ rest)
  places = subst AreApart is on.apart

  -- what lies at and below what was wanted
  was_covered : (q : Path) → is_covered s.wanted q ≡ true → (covers c q ≡ true) ⊎ (is_covered rest q ≡ true)
  was_covered q h = or_cases (covers c q) (is_covered rest q) (subst (λ (ws : List Wanted). is_covered ws q ≡ true) is h)

  module _ (named : List Wanted) (names : AllZip (IsNamed (contents_of t c)) (toward s.path (contents_of t c)) named) where
    -- what it names is wanted in the tree
    named_wanted : (w : Wanted) → Contains named w → IsWanted t s.path w
    named_wanted w has =
        let b = named_of (contents_of t c) s.path named names w has in
        let e = entry_tells t on.tree c cut b.entry b.has in
        let same : w ≡ made b.entry b.named.transition = λ i. record { path = b.named.path_is i; hash = b.named.hash_is i; size = b.named.size_is i; row = b.named.row_is i } in
        subst (IsWanted t s.path) (sym same) (record {
          toward = record { cut = e.cut; near = b.near };
          hash_is = e.hash;
          size_is = sym e.size;
          decodes = nested_decodes t on.tree on.fits c cut b.named.transition b.entry.path b.named.names.stands b.named.names.kind;
        })

    pub wants_after : (w : Wanted) → Contains (named ++ rest) w → IsWanted t s.path w
    wants_after w has = elim (Contains-append_cases named rest w has) [ inl new ↦ named_wanted w new | inr old ↦ rest_wanted w old ]

    across : (x y : Wanted) → Contains named x → Contains rest y → overlap x.path y.path ≡ true → ⊥
    across x y has had over =
        let b = named_of (contents_of t c) s.path named names x has in
        let under = below_place (contents_of t c) s.path x.path x rules b (covers_itself x.path) in
        places.0 y had (overlap_sym y.path c (overlap_above y.path c x.path under.0 (overlap_sym x.path y.path over)))

    pub apart_after : AreApart (named ++ rest)
    apart_after = apart_append named rest (named_apart (contents_of t c) s.path named rules names) places.1 across

    covered_left : (q : Path) → is_covered named q ≡ true → is_covered (named ++ rest) q ≡ true
    covered_left q h = let o = coverer named q h in covered_by (named ++ rest) o.0 q (Contains-append_left named rest o.0 o.1) o.2

    pub covered_right : (q : Path) → is_covered rest q ≡ true → is_covered (named ++ rest) q ≡ true
    covered_right q h = let o = coverer rest q h in covered_by (named ++ rest) o.0 q (Contains-append_right named rest o.0 o.1) o.2

    -- what lies at or below another cut of the region
    under_other : (d q : Path) → IsOther (at t c) d → covers (c ++ d) q ≡ true → overlap s.path q ≡ true → is_covered (named ++ rest) q ≡ true
    under_other d q other under near =
        let n = entry_of (c ++ d) (cat t (c ++ d)) in
        let listed = (entries_are c (at t c) (λ e. cat t (c ++ e)) (stands_at_cut t c on.tree cut)).all d other in
        let has = passing (λ (m : Nested). overlap s.path m.path) (contents_of t c).nested n listed (overlap_above s.path (c ++ d) q under near) in
        let w = zipped (IsNamed (contents_of t c)) (toward s.path (contents_of t c)) named names n has in
        covered_left q (covered_by named w.0 q w.1 (ap (λ (p : Path). covers p q) w.2.path_is ∙ under))

    -- what lies at and below the cut is in its region, or at or below another cut of it
    below_cut : (r : Path) (n : Node) → get t (c ++ r) ≡ Some n → overlap s.path (c ++ r) ≡ true → IsNear (at t c) r n ⊎ (is_covered (named ++ rest) (c ++ r) ≡ true)
    below_cut r n there near = by_way (is_near (at t c) r) refl
      where
        by_way : (b : Bool) → is_near (at t c) r ≡ b → IsNear (at t c) r n ⊎ (is_covered (named ++ rest) (c ++ r) ≡ true)
        by_way true h = inl (record { there = get-at t c r ∙ there; near = h })
        by_way false h =
            let w = passes_of t (c ++ r) c r refl cut h in
            let m = some_there (get (at t c) w.0) (some_directory (get (at t c) w.0) (and_parts (is_directory (get (at t c) w.0)) (is_file (get (at t c) (w.0 ++ marker ∷ []))) w.2.way.marked).0) in
            let other : IsOther (at t c) w.0 = record { node_ = m.0; there = record { there = m.1; near = w.2.near }; below = w.2.way.some; marked = w.2.way.marked } in
            inr (under_other w.0 (c ++ r) other (subst (λ (x : Path). covers (c ++ w.0) x ≡ true) (append_assoc c w.0 w.1 ∙ ap (λ (x : Path). c ++ x) (sym w.2.way.is)) (covers_append (c ++ w.0) w.1)) near)

    module _ (objects : List Object) (o : Object) (kept : objects ≡ s.objects ++ o ∷ []) (o-is : o ≡ catalogue_object t c) where
      here : Contains objects (catalogue_object t c)
      here = subst (λ (os : List Object). Contains os (catalogue_object t c)) (sym kept) (subst (Contains (s.objects ++ o ∷ [])) o-is (Contains-push s.objects o))

      earlier : (x : Object) → Contains s.objects x → Contains objects x
      earlier x has = subst (λ (os : List Object). Contains os x) (sym kept) (Contains-append_left s.objects (o ∷ []) x has)

      pub has_after : (x : Object) → Contains objects x → (d : Path) × IsToward t s.path d × (x ≡ catalogue_object t d)
      has_after x has = elim (Contains-push_cases s.objects o x (subst (λ (os : List Object). Contains os x) kept has)) [
        | inl old ↦ on.has x old
        | inr new ↦ (c, first_wanted.toward, sym new ∙ o-is)
      ]

      cut_below : (r : Path) → IsToward t s.path (c ++ r) → Contains objects (catalogue_object t (c ++ r)) ⊎ (is_covered (named ++ rest) (c ++ r) ≡ true)
      cut_below [] near_ = inl (subst (λ (x : Path). Contains objects (catalogue_object t x)) (sym (append-nil c)) here)
      cut_below (a ∷ r) near_ =
          let n = some_there (get t (c ++ (a ∷ r))) (cut_some t (c ++ (a ∷ r)) on.tree near_.cut) in
          elim (below_cut (a ∷ r) n.0 n.1 near_.near) [
            | inl near ↦ inr (under_other (a ∷ r) (c ++ (a ∷ r)) (record { node_ = n.0; there = near; below = λ e. cc; marked = marked-below }) (covers_itself (c ++ (a ∷ r))) near_.near)
            | inr covered ↦ inr covered
          ]
        where
          is_marked_cut : (q : Path) → q ≢ [] → is_cut t q ≡ true → is_marked t q ≡ true
          is_marked_cut [] some h = absurd (some refl)
          is_marked_cut (b ∷ q) some h = h

          some_below : (d : Path) → d ++ (a ∷ r) ≢ []
          some_below [] = λ e. cc
          some_below (b ∷ d) = λ e. cc

          marked-below : is_marked (at t c) (a ∷ r) ≡ true
          marked-below = sym (marked-at t c (a ∷ r)) ∙ is_marked_cut (c ++ (a ∷ r)) (some_below c) near_.cut

      pub gave_after : (d : Path) → IsToward t s.path d → Contains objects (catalogue_object t d) ⊎ (is_covered (named ++ rest) d ≡ true)
      gave_after d near_ = elim (on.gave d near_) [
        | inl old ↦ inl (earlier (catalogue_object t d) old)
        | inr covered ↦ elim (was_covered d covered) [
          | inl under ↦
              let r = rest_behind c d under in
              subst (λ (x : Path). Contains objects (catalogue_object t x) ⊎ (is_covered (named ++ rest) x ≡ true)) (sym r.1) (cut_below r.0 (subst (IsToward t s.path) r.1 near_))
          | inr left ↦ inr (covered_right d left)
        ]
      ]

      bytes_there : (os : List Object) (x : Object) → Contains os x → Contains (map (λ (y : Object). y.bytes) os) x.bytes
      bytes_there os x has = goes_to (λ (y : Object). y.bytes) os x has

      pub own_after : AreOwn t (o.bytes ∷ []) → AreOwn t (map (λ (y : Object). y.bytes) objects)
      own_after new = record {
        own = λ b d has cut_ same.
            let x = comes_from (λ (y : Object). y.bytes) objects b has in
            elim (Contains-push_cases s.objects o x.0 (subst (λ (os : List Object). Contains os x.0) kept x.1)) [
              | inl old ↦ on.own.own b d (subst (Contains (map (λ (y : Object). y.bytes) s.objects)) x.2 (bytes_there s.objects x.0 old)) cut_ same
              | inr last ↦ new.own b d (subst (Contains (o.bytes ∷ [])) (ap (λ (y : Object). y.bytes) last ∙ x.2) (first_there o.bytes [])) cut_ same
            ];
      }

    module _ (new : Option Nodes) (comes : ComesTo s.path (contents_of t c) s.tree new) where
      -- without nodes it is the root's
      root_first : s.tree ≡ None → c ≡ []
      root_first none =
          let n = some_there (get t []) on.tree.part.root in
          elim (on.told [] n.0 (or_right (covers s.path []) true refl) n.1) [
            | inl told ↦ absurd (no_node (subst (λ (u : Option Nodes). get (nodes_of u) [] ≡ Some n.0) none told))
            | inr covered ↦ elim (was_covered [] covered) [
              | inl here_ ↦ only_root c here_
              | inr left ↦
                  let w = coverer rest [] left in
                  absurd (places.0 w.0 w.1 (subst (λ (x : Path). overlap c x ≡ true) (sym (only_root w.0.path w.2)) (or_right (covers c []) true refl)))
            ]
          ]
        where
          no_node : {m : Node} → get (empty {X = Node} {R = path_cmp}) [] ≡ Some m → ⊥
          no_node {m} e = let wrong : None ≡ Some m = sym (get-empty path_cmp []) ∙ e in cc

      row_there : (q : Path) (n : Node) → (r : Row) → StandsAt c (contents_of t c).rows r q → n ≡ node_of r → get t q ≡ Some n
      row_there q n r stands_ same = row_tells t on.tree c cut keys r q stands_ ∙ ap Some (sym same)

      before_there : (old : Option Nodes) → s.tree ≡ old → StartsFrom (contents_of t c) old comes.before → (q : Path) (n : Node) → get comes.before q ≡ Some n → get t q ≡ Some n
      before_there None none starts q n e =
          let one = single_entry (Dir starts.0.attr) q n (ap (λ (u : Nodes). get u q) (sym starts.3) ∙ e) in
          row_there q n starts.0 (subst (StandsAt c (contents_of t c).rows starts.0) (root_first none ∙ sym one.0) (root starts.1 starts.2)) (one.1 ∙ sym (root_as c starts.0.kind starts.0 starts.2.kind))
      before_there (Some u) some starts q n e = on.nodes q n (subst (λ (x : Option Nodes). get (nodes_of x) q ≡ Some n) (sym some) (ap (λ (x : Nodes). get x q) (sym starts) ∙ e))

      after_there : (q : Path) (n : Node) → get comes.after q ≡ Some n → get t q ≡ Some n
      after_there q n e = elim (comes.grows.comes q n e) [
        | inl before ↦ before_there s.tree refl comes.starts q n before
        | inr row ↦ row_there q n row.row row.stands row.is
      ]

      pub nodes_after : (q : Path) (n : Node) → get (nodes_of new) q ≡ Some n → get t q ≡ Some n
      nodes_after q n e = after_there q n (subst (λ (x : Option Nodes). get (nodes_of x) q ≡ Some n) comes.is e)

      still : (old : Option Nodes) → StartsFrom (contents_of t c) old comes.before → (q : Path) (n : Node) → get (nodes_of old) q ≡ Some n → get comes.after q ≡ Some n
      still None starts q n e = absurd (let wrong : None ≡ Some n = sym (get-empty path_cmp q) ∙ e in cc)
      still (Some u) starts q n e = comes.grows.grows q n (ap (λ (x : Nodes). get x q) starts ∙ e)

      in_region : (r : Path) (n : Node) → get t (c ++ r) ≡ Some n → overlap s.path (c ++ r) ≡ true → IsNear (at t c) r n → get comes.after (c ++ r) ≡ Some n
      in_region r n there near has =
          let stands_ = stands c (at t c) (rows_of c (at t c)) (stands_at_cut t c on.tree cut).part keys (rows_are c (at t c) keys) r n has in
          let m = some_there (get comes.after (c ++ r)) (comes.there (row_at c (at t c) r n) (c ++ r) stands_ near) in
          m.1 ∙ ap Some (one_node (get t (c ++ r)) m.0 n (after_there (c ++ r) m.0 m.1) there)

      now : (q : Path) (n : Node) → get comes.after q ≡ Some n → get (nodes_of new) q ≡ Some n
      now q n e = subst (λ (x : Option Nodes). get (nodes_of x) q ≡ Some n) (sym comes.is) e

      pub told_after : (q : Path) (n : Node) → overlap s.path q ≡ true → get t q ≡ Some n → (get (nodes_of new) q ≡ Some n) ⊎ (is_covered (named ++ rest) q ≡ true)
      told_after q n near there = elim (on.told q n near there) [
        | inl told ↦ inl (now q n (still s.tree comes.starts q n told))
        | inr covered ↦ elim (was_covered q covered) [
          | inl under ↦
              let r = rest_behind c q under in
              subst (λ (x : Path). (get (nodes_of new) x ≡ Some n) ⊎ (is_covered (named ++ rest) x ≡ true)) (sym r.1)
              (below r.0 (subst (λ (x : Path). get t x ≡ Some n) r.1 there) (subst (λ (x : Path). overlap s.path x ≡ true) r.1 near))
          | inr left ↦ inr (covered_right q left)
        ]
      ]
        where
          below : (r : Path) → get t (c ++ r) ≡ Some n → overlap s.path (c ++ r) ≡ true → (get (nodes_of new) (c ++ r) ≡ Some n) ⊎ (is_covered (named ++ rest) (c ++ r) ≡ true)
          below r there_ near_ = elim (below_cut r n there_ near_) [
            | inl has ↦ inl (now (c ++ r) n (in_region r n there_ near_ has))
            | inr covered ↦ inr covered
          ]

-- ---- all of it

-- of a catalogue that was taken in a tree
pub record TakenIn (t : Nodes) (s : Progress) {bytes : List ℕ} {new : Progress} (takes : Takes s bytes new) : Type 0 where
  pub wanted : IsWanted t s.path takes.first
  pub bytes_are : bytes ≡ cat t takes.first.path
  pub contents_are : takes.contents ≡ contents_of t takes.first.path
  pub names : AllZip (IsNamed (contents_of t takes.first.path)) (toward s.path (contents_of t takes.first.path)) takes.named
  pub comes : ComesTo s.path (contents_of t takes.first.path) s.tree new.tree

pub taken_in : (t : Nodes) (s new : Progress) (bytes : List ℕ) → IsOn t s → AreOwn t (bytes ∷ []) → (takes : Takes s bytes new) → TakenIn t s takes
taken_in t s new bytes on own takes =
    let wanted = on.wants takes.first (subst (λ (ws : List Wanted). Contains ws takes.first) (sym takes.is) (first_there takes.first takes.rest)) in
    let same = own_bytes t s.path takes.first bytes wanted own takes.digest in
    let one = one_suits t s.path takes.first bytes takes.contents wanted same takes.suits in
    record {
      wanted = wanted;
      bytes_are = same;
      contents_are = one;
      names = subst (λ (k : Contents). AllZip (IsNamed k) (toward s.path k) takes.named) one takes.names;
      comes = subst (λ (k : Contents). ComesTo s.path k s.tree new.tree) one takes.comes;
    }

-- it comes on in the tree
pub comes_on : (t : Nodes) (s new : Progress) (bytes : List ℕ) → IsOn t s → AreOwn t (bytes ∷ []) → Takes s bytes new → IsOn t new
comes_on t s new bytes on own takes =
    let i = taken_in t s new bytes on own takes in
    let o : Object = record { id = id_of takes.first; bytes = bytes } in
    let o-is : o ≡ catalogue_object t takes.first.path = λ j. record { id = object_id (i.wanted.hash_is j) Catalogue; bytes = i.bytes_are j } in
    subst (IsOn t) (sym (seen takes)) (record {
      tree = on.tree;
      fits = on.fits;
      wants = wants_after t s on takes.first takes.rest takes.is takes.named i.names;
      apart = apart_after t s on takes.first takes.rest takes.is takes.named i.names;
      own = own_after t s on takes.first takes.rest takes.is takes.named i.names new.objects o takes.objects_are o-is own;
      has = has_after t s on takes.first takes.rest takes.is takes.named i.names new.objects o takes.objects_are o-is;
      gave = gave_after t s on takes.first takes.rest takes.is takes.named i.names new.objects o takes.objects_are o-is;
      nodes = nodes_after t s on takes.first takes.rest takes.is takes.named i.names new.tree i.comes;
      told = told_after t s on takes.first takes.rest takes.is takes.named i.names new.tree i.comes;
    })
  where
    seen : (k : Takes s bytes new) → new ≡ record { path = s.path; wanted = k.named ++ k.rest; objects = new.objects; tree = new.tree }
    seen k = λ j. record { path = k.path_is j; wanted = k.wanted_is j; objects = new.objects; tree = new.tree }
