-- The beginning and the end of a checkout, and what its steps answer.
use Rattle.std.proofs.Common.{◌≡◌, ℕ, Bool, true, false, ◌==◌, length, cond, List, [], ◌∷◌, ◌++◌, map, is_some, append-nil, refl, sym, ap, subst, ◌∙◌, inl, inr}
use Rattle.std.specs.Prelude.{Contains, IfOk, Result, Ok, Err}
use Rattle.std.specs.declared.option.Option.{Option}
use Rattle.std.specs.declared.option.Option.TheVariants.{None, Some}
use Rattle.std.specs.FinMap.{get, get-empty, same_map}
use Rattle.std.proofs.lemmas.Bool.{and_parts, or_left, or_right}
use Rattle.std.proofs.lemmas.Slice.Eq.{bytes_eq-Decides}
use Rattle.std.specs.Str.{bytes_eq}
use Rattle.sha1.specs.Sha1.{sha1}
use Rattle.cv_base.specs.Path.{Path, path_cmp, covers, overlap, parent}
use Rattle.cv_base.proofs.Laws.{path_total, path_exact, same_name_itself}
use Rattle.cv_base.specs.ObjectId.{object_id}
use Rattle.cv_base.specs.declared.id.ObjectId.{ObjectId}
use Rattle.cv_base.specs.declared.id.Kind.TheVariants.{Catalogue}
use Rattle.cv_base.specs.declared.object.Object.{Object}
use Rattle.cv_ports.specs.Objects.{same_id, same_kind, shelf_of}
use Rattle.cv_ports.specs.MemoryShelf.{standing}
use Rattle.cv_ports.specs.Shelf.{Shelf}
use Rattle.cv_tree.specs.Tree.{Nodes, IsTree, at, is_directory}
use Rattle.cv_tree.specs.Changes.{FitsUnder, has_place, nodes_of, subtree_of}
use Rattle.cv_tree.specs.declared.node.Node.{Node}
use Rattle.cv_tree.proofs.Laws.{get-at}
use Rattle.cv_cut.specs.Cuts.{is_cut}
use Rattle.cv_cut.specs.Cut.{catalogue_object}
use Rattle.cv_cut.specs.Catalogues.{Fits, cat, root_of}
use Rattle.cv_cut.specs.Own.{AreOwn}
use Rattle.cv_cut.proofs.Lemmas.{covers_append, first_or_later, first_there, fits_at_cut, later_there, none_there, root_decodes, fits_subtree}
use Rattle.cv_graft.specs.Placed.{HasCuts}
use Rattle.cv_checkout.specs.Wanting.{id_of, is_covered, next_of, root_wanted}
use Rattle.cv_checkout.specs.Progress.{Progress, begun}
use Rattle.cv_checkout.specs.InTree.{IsBase, IsIdToward, IsOn, IsToward, IsWanted}
use Rattle.cv_checkout.specs.declared.base.Base.{Base}
use Rattle.cv_checkout.specs.declared.wanted.Wanted.{Wanted}

-- ---- the beginning

one_first : (w v : Wanted) → Contains (w ∷ []) v → w ≡ v
one_first w v has = elim (first_or_later w [] v has) [ inl same ↦ same | inr none ↦ absurd (none_there v none) ]

pub starts_on : (t : Nodes) (hash : List ℕ) (p : Path) → IsTree t → Fits t → hash ≡ root_of t → IsOn t (begun hash p)
starts_on t hash p tree fits is = record {
  tree = tree;
  fits = fits;
  wants = λ w has. subst (λ (v : Wanted). IsWanted t p v) (one_first (root_wanted hash) w has) (record {
    toward = record { cut = refl; near = or_right (covers p []) true refl };
    hash_is = is;
    size_is = tt;
    decodes = root_decodes t tree fits;
  });
  apart = (λ v has over. none_there v has, tt);
  own = record { own = λ bytes c has cut same. absurd (none_there bytes has) };
  has = λ o has. absurd (none_there o has);
  gave = λ c toward. inr refl;
  nodes = λ q n e. absurd (let wrong : None ≡ Some n = sym (get-empty path_cmp q) ∙ e in cc);
  told = λ q n near e. inr refl;
}

pub begun_on : (t : Nodes) (s : Progress) (hash : List ℕ) (p : Path) → s ≡ begun hash p → IsTree t → Fits t → hash ≡ root_of t → IsOn t s
begun_on t s hash p is tree fits root = subst (IsOn t) (sym is) (starts_on t hash p tree fits root)

-- ---- what is wanted next

pub next_toward : (t : Nodes) (s : Progress) (id : ObjectId) → Some id ≡ next_of s.wanted → IsOn t s → IsIdToward t s.path id
next_toward t s id is on = by s.wanted refl
  where
    by : (ws : List Wanted) → s.wanted ≡ ws → IsIdToward t s.path id
    by [] none = absurd (let wrong : Some id ≡ None = is ∙ ap next_of none in cc)
    by (w ∷ ws) some =
        let wanted = on.wants w (subst (λ (l : List Wanted). Contains l w) (sym some) (first_there w ws)) in
        let both : Some id ≡ Some (id_of w) = is ∙ ap next_of some in
        let same : id ≡ id_of w = cc in
        record { cut = w.path; toward = wanted.toward; is = same ∙ ap (λ (h : List ℕ). object_id h Catalogue) wanted.hash_is }

-- ---- where there is no tree

pub no_part : (o : Option Nodes) (p : Path) → o ≡ None → None ≡ subtree_of (nodes_of o) p
no_part o p none = subst (λ (x : Option Nodes). None ≡ subtree_of (nodes_of x) p) (sym none) (rw (get-empty path_cmp p) refl)

pub no_place : (o : Option Nodes) (p names : Path) (b : Bool) → o ≡ None → names ≡ p → b ≡ (length names == 0) → b ≡ false → false ≡ has_place (nodes_of o) p
no_place o p names b none same test h = subst (λ (x : Option Nodes). false ≡ has_place (nodes_of x) p) (sym none) (by p (sym h ∙ test ∙ ap (λ (q : Path). length q == 0) same))
  where
    by : (q : Path) → false ≡ (length q == 0) → false ≡ has_place (nodes_of None) q
    by [] wrong = cc
    by (a ∷ q) e = rw (get-empty path_cmp (parent (a ∷ q))) refl

-- ---- what a tree has at a path keeps the limits of a path there

pub empty_fits : (p : Path) → FitsUnder p (nodes_of None)
empty_fits p q some = absurd (let wrong : false ≡ true = ap is_some (sym (get-empty path_cmp q)) ∙ some in cc)

pub found_fits : {E : Type 0} (t : Nodes) (p : Path) (r : Result (Option Nodes) E) → IsTree t → IfOk r (λ found. found ≡ subtree_of t p)
    → IfOk r (λ found. FitsUnder p (nodes_of found))
found_fits t p (Ok found) tree is = subst (λ (o : Option Nodes). FitsUnder p (nodes_of o)) (sym is) (fits_subtree t p tree)
found_fits t p (Err lack) tree is = tt

-- ---- the end

module _ (t : Nodes) (s : Progress) (on : IsOn t s) (over : s.wanted ≡ []) where
  nothing_covered : (q : Path) → is_covered s.wanted q ≡ true → ⊥
  nothing_covered q h = let wrong : false ≡ true = subst (λ (ws : List Wanted). is_covered ws q ≡ true) over h in cc

  -- each node on the way to the path, and at and below it, is told
  told_all : (q : Path) (n : Node) → overlap s.path q ≡ true → get t q ≡ Some n → get (nodes_of s.tree) q ≡ Some n
  told_all q n near e = elim (on.told q n near e) [ inl told ↦ told | inr covered ↦ absurd (nothing_covered q covered) ]

  pub same_node : (q : Path) → overlap s.path q ≡ true → get (nodes_of s.tree) q ≡ get t q
  same_node q near = by (get (nodes_of s.tree) q) (get t q) refl refl
    where
      by : (a b : Option Node) → get (nodes_of s.tree) q ≡ a → get t q ≡ b → a ≡ b
      by None None e f = refl
      by None (Some n) e f = sym e ∙ told_all q n near f
      by (Some n) b e f = sym (on.nodes q n e) ∙ f

  below_near : (r : Path) → overlap s.path (s.path ++ r) ≡ true
  below_near r = or_left (covers s.path (s.path ++ r)) (covers (s.path ++ r) s.path) (covers_append s.path r)

  same_below : at (nodes_of s.tree) s.path ≡ at t s.path
  same_below = same_map path_total path_exact _ _ (λ r. get-at (nodes_of s.tree) s.path r ∙ same_node (s.path ++ r) (below_near r) ∙ sym (get-at t s.path r))

  near_itself : overlap s.path s.path ≡ true
  near_itself = subst (λ (x : Path). overlap s.path x ≡ true) (append-nil s.path) (below_near [])

  pub same_part : subtree_of (nodes_of s.tree) s.path ≡ subtree_of t s.path
  same_part = let here = same_node s.path near_itself in let below = same_below in λ i. cond (is_some (here i)) (Some (below i)) None

  pub same_place : has_place (nodes_of s.tree) s.path ≡ has_place t s.path
  same_place = by s.path (λ q near. same_node q near)
    where
      above : (p : Path) → covers (parent p) p ≡ true
      above [] = refl
      above (a ∷ []) = refl
      above (a ∷ b ∷ p) = rw (same_name_itself a) (above (b ∷ p))

      by : (p : Path) → ((q : Path) → overlap p q ≡ true → get (nodes_of s.tree) q ≡ get t q) → has_place (nodes_of s.tree) p ≡ has_place t p
      by [] same = refl
      by (a ∷ p) same = ap is_directory (same (parent (a ∷ p)) (or_right (covers (a ∷ p) (parent (a ∷ p))) (covers (parent (a ∷ p)) (a ∷ p)) (above (a ∷ p))))

  -- the first object of an id has the bytes of the tree's catalogue
  found : (os : List Object) (c : Path) → is_cut t c ≡ true → AreOwn t (map (λ (o : Object). o.bytes) os) → ((o : Object) → Contains os o → (d : Path) × IsToward t s.path d × (o ≡ catalogue_object t d))
      → Contains os (catalogue_object t c) → shelf_of os (object_id (sha1 (cat t c)) Catalogue) ≡ Some (cat t c)
  found [] c cut own has there = absurd (none_there (catalogue_object t c) there)
  found (o ∷ os) c cut own has there =
      by (same_id o.id (object_id (sha1 (cat t c)) Catalogue)) refl
      (λ later.
      found os c cut (record { own = λ b d in_ cut_ e. own.own b d (later_there o.bytes (map (λ (x : Object). x.bytes) os) b in_) cut_ e })
      (λ x in_. has x (later_there o os x in_)) later)
    where
      itself : (h : List ℕ) → same_id (object_id h Catalogue) (object_id h Catalogue) ≡ true
      itself h = rw ((bytes_eq-Decides h h).1 refl) refl

      by : (b : Bool) → same_id o.id (object_id (sha1 (cat t c)) Catalogue) ≡ b → (Contains os (catalogue_object t c) → shelf_of os (object_id (sha1 (cat t c)) Catalogue) ≡ Some (cat t c))
          → cond b (Some o.bytes) (shelf_of os (object_id (sha1 (cat t c)) Catalogue)) ≡ Some (cat t c)
      by true h more =
          let hash : o.id.hash ≡ sha1 (cat t c) = (bytes_eq-Decides o.id.hash (sha1 (cat t c))).0 (and_parts (bytes_eq o.id.hash (sha1 (cat t c))) (same_kind o.id.kind Catalogue) h).0 in
          let d = has o (first_there o os) in
          let digest : sha1 o.bytes ≡ o.id.hash = ap (λ (x : Object). sha1 x.bytes) d.2 ∙ sym (ap (λ (x : Object). x.id.hash) d.2) in
          ap Some (own.own o.bytes c (first_there o.bytes (map (λ (x : Object). x.bytes) os)) cut (digest ∙ hash))
      by false h more = elim (first_or_later o os (catalogue_object t c) there) [
        | inl same ↦ absurd (let yes : true ≡ false = sym (itself (sha1 (cat t c))) ∙ sym (ap (λ (x : Object). same_id x.id (object_id (sha1 (cat t c)) Catalogue)) same) ∙ h in cc)
        | inr later ↦ more later
      ]

  pub has_cuts : (shelf : Shelf) → ((id : ObjectId) → shelf id ≡ shelf_of s.objects id) → HasCuts shelf (root_of t) t s.path
  has_cuts shelf holds = record {
    tree = on.tree;
    root = refl;
    fits = λ c cut covered apart. fits_at_cut t c cut on.fits;
    catalogues = λ c cut covered apart.
        let toward : IsToward t s.path c = record { cut = cut; near = or_right (covers s.path c) (covers c s.path) covered } in
        let there : Contains s.objects (catalogue_object t c) = elim (on.gave c toward) [ inl gave ↦ gave | inr left ↦ absurd (nothing_covered c left) ] in
        holds (object_id (sha1 (cat t c)) Catalogue) ∙ found s.objects c cut on.own on.has there;
  }

-- where nothing is asked for, nothing is wanted
pub none_wanted : (ws : List Wanted) → next_of ws ≡ None → ws ≡ []
none_wanted [] is = refl
none_wanted (w ∷ ws) is = absurd cc

pub base_is : (t : Nodes) (s : Progress) (b : Base) → IsOn t s → next_of s.wanted ≡ None → b.part ≡ subtree_of (nodes_of s.tree) s.path → b.has_place ≡ has_place (nodes_of s.tree) s.path
    → ((id : ObjectId) → standing b.catalogues id ≡ shelf_of s.objects id) → IsBase t s.path b
base_is t s b on none part place shelf =
    let over = none_wanted s.wanted none in
    record {
      part_is = part ∙ same_part t s on over;
      place_is = place ∙ same_place t s on over;
      cuts = has_cuts t s on over (standing b.catalogues) shelf;
    }
