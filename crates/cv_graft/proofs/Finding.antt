-- The catalogues on the way to a path, one below another.
use Rattle.std.proofs.Common.{◌≡◌, ◌≢◌, ℕ, zero, suc, ◌+◌, ◌<◌, ◌≤◌, true, false, List, [], ◌∷◌, ◌++◌, map, length, Some, None, Err, ◌⊎◌, inl, inr, refl, sym, ap, subst, ◌∙◌, append-nil, append_assoc, arith}
use Rattle.std.specs.declared.option.Option.{Option}
use Rattle.std.specs.FinMap.{get}
use Rattle.std.proofs.lemmas.List.{length-map}
use Rattle.sha1.specs.Sha1.{sha1}
use Rattle.cv_base.specs.Marker.{marker}
use Rattle.cv_base.specs.Path.{Path, covers}
use Rattle.cv_base.specs.ObjectId.{object_id}
use Rattle.cv_base.specs.declared.id.Kind.TheVariants.{Catalogue}
use Rattle.cv_base.specs.declared.id.ObjectId.{ObjectId}
use Rattle.cv_base.proofs.Laws.{first_true}
use Rattle.cv_base.specs.Counts.{raised}
use Rattle.cv_ports.specs.Calls.{raised_by, RaisedAtMost}
use Rattle.cv_ports.specs.Shelf.{Shelf}
use Rattle.cv_tree.specs.Tree.{Nodes, at, is_directory, IsTree, is_file}
use Rattle.cv_tree.specs.declared.node.Node.{Node}
use Rattle.cv_rows.specs.Catalogue.{Contents, catalogue_bytes}
use Rattle.cv_rows.specs.declared.nested.Nested.{Nested}
use Rattle.cv_rows.specs.declared.row.Row.{Row}
use Rattle.cv_cut.specs.Cuts.{is_cut, is_marked, is_near}
use Rattle.cv_cut.specs.Catalogues.{entry_of, cat}
use Rattle.cv_cut.specs.Above.{cuts_above, OnWay, Holds}
use Rattle.cv_graft.specs.Graft.{HasWay}
use Rattle.cv_graft.specs.Placed.{HasCuts}
use Rattle.cv_graft.specs.Way.{IsNext, HasNone}
use Rattle.cv_graft.specs.WayInner.{Finds}
use Rattle.cv_cut.specs.Catalogues.{contents_of}
use Rattle.cv_cut.specs.Reached.{Place, HasCatalogue, root_place}
use Rattle.cv_cut.specs.Opening.{Opens, OpensNested, IsNestedCatalogue, IsUnread}
use Rattle.cv_cut.specs.declared.load_fault.LoadFault.{LoadFault}
use Rattle.cv_rows.specs.Places.{StandsAt}
use Rattle.cv_cut.specs.Region.{FitsAtCut, IsOther, Passes}
use Rattle.cv_tree.proofs.Laws.{at-at}
use Rattle.cv_cut.proofs.Lemmas.{cat_is, canonical_at, fits_at_cut, cut_some, stands_at_cut, IsThere, opens_there, nested_there, root_decodes_at, nested_decodes_at, covers_append, same_rest, marked-at, covers-shift, rest_behind, entries_are, passes_of, pass_way, cuts_some}
use Rattle.cv_rows.proofs.Lemmas.{has_file, one_file}

-- a tree that fits does so at the cuts on the way
pub cuts_way : {shelf : Shelf} {hash : List ℕ} {t : Nodes} {p : Path} → HasWay shelf hash t p → HasCuts shelf hash t p
cuts_way {t = t} way = record { tree = way.tree; root = way.root; fits = λ c cut covered apart. fits_at_cut t c cut way.fits; catalogues = way.catalogues }

-- ---- counts

pub raised_more : (k n : ℕ) → raised_by k (raised n) ≡ raised_by (suc k) n
raised_more zero n = refl
raised_more (suc k) n = ap raised (raised_more k n)

-- ---- places

pub some_of : (t : Nodes) (p c r : Path) → OnWay t p c r → p ≢ c
some_of t p c r w same = w.some (same_rest c r [] (sym w.is ∙ same ∙ sym (append-nil c)))

pub way_covers : (t : Nodes) (p c r : Path) → OnWay t p c r → covers c p ≡ true
way_covers t p c r w = ap (covers c) w.is ∙ covers_append c r

pub on_way : (t : Nodes) (p c r : Path) → Holds t p c r → OnWay t p c r
on_way t p c r h = record { is = h.is; some = h.some; cut = h.cut }

marked_cut : (t : Nodes) (c e : Path) → e ≢ [] → is_marked (at t c) e ≡ true → is_cut t (c ++ e) ≡ true
marked_cut t c [] some marked = absurd (some refl)
marked_cut t [] (a ∷ e) some marked = marked-at t [] (a ∷ e) ∙ marked
marked_cut t (b ∷ c) (a ∷ e) some marked = marked-at t (b ∷ c) (a ∷ e) ∙ marked

pub deeper : (t : Nodes) (p c r e f : Path) → Passes t p c r e f → OnWay t p (c ++ e) f
deeper t p c r e f w = record {
  is = w.is ∙ ap (λ (x : Path). c ++ x) w.way.is ∙ sym (append_assoc c e f);
  some = w.way.more;
  cut = marked_cut t c e w.way.some w.way.marked;
}

-- a nested entry above the path is that of the next cut on the way
pub record NextCut (t : Nodes) (p c r : Path) (n : Nested) : Type 0 where
  pub e : Path
  pub f : Path
  pub passes : Passes t p c r e f
  pub entry : n ≡ entry_of (c ++ e) (cat t (c ++ e))

pub next_passes : (t : Nodes) (p c r : Path) (n : Nested) → IsTree t → OnWay t p c r → IsNext (contents_of t c) p n → NextCut t p c r n
next_passes t p c r n tree w next =
    let o = (entries_are c (at t c) (λ q. cat t (c ++ q)) (stands_at_cut t c tree w.cut)).each n next.has in
    let path : n.path ≡ c ++ o.0 = ap (λ (m : Nested). m.path) o.2 in
    let b = rest_behind o.0 r (sym (covers-shift c o.0 r) ∙ ap (covers (c ++ o.0)) (sym w.is) ∙ ap (λ (x : Path). covers x p) (sym path) ∙ next.covered) in
    record {
      e = o.0;
      f = b.0;
      passes = record {
        is = w.is;
        cut = w.cut;
        way = record {
          is = b.1;
          some = o.1.below;
          more = λ none. next.apart (w.is ∙ ap (λ (x : Path). c ++ x) (b.1 ∙ ap (λ (x : Path). o.0 ++ x) none ∙ append-nil o.0) ∙ sym path);
          marked = o.1.marked;
        };
        near = o.1.there.near;
      };
      entry = o.2;
    }

pub directory_node : (o : Option Node) → is_directory o ≡ true → (n : Node) × (o ≡ Some n)
directory_node None directory = absurd cc
directory_node (Some n) directory = (n, refl)

other_of : (u : Nodes) (e : Path) → e ≢ [] → is_marked u e ≡ true → is_near u e ≡ true → IsOther u e
other_of u e some marked near =
    let d = directory_node (get u e) (first_true (is_directory (get u e)) (is_file (get u (e ++ marker ∷ []))) marked) in
    record { node_ = d.0; there = record { there = d.1; near = near }; below = some; marked = marked }

-- where there is none, the cut directly holds the path
pub none_holds : (t : Nodes) (p c r : Path) → IsTree t → OnWay t p c r → HasNone (contents_of t c) p → Holds t p c r
none_holds t p c r tree w none = record {
  is = w.is;
  some = w.some;
  cut = w.cut;
  near = elim (is_near (at t c) r) as (λ b. is_near (at t c) r ≡ b → b ≡ true) [
    | true ↦ λ h. refl
    | false ↦ λ far.
        let way = passes_of t p c r w.is w.cut far in
        let o = other_of (at t c) way.0 way.2.way.some way.2.way.marked way.2.near in
        let has = (entries_are c (at t c) (λ q. cat t (c ++ q)) (stands_at_cut t c tree w.cut)).all way.0 o in
        let covered : covers (c ++ way.0) p ≡ true = ap (covers (c ++ way.0)) w.is ∙ covers-shift c way.0 r ∙ ap (covers way.0) way.2.way.is ∙ covers_append way.0 way.1 in
        let same = none (entry_of (c ++ way.0) (cat t (c ++ way.0))) has covered in
        absurd (way.2.way.more (same_rest way.0 way.1 [] (sym way.2.way.is ∙ same_rest c r way.0 (sym w.is ∙ same) ∙ sym (append-nil way.0))))
  ] refl;
}

-- ---- what stands under their ids

cat_bytes : (t : Nodes) (c : Path) → IsTree t → is_cut t c ≡ true → cat t c ≡ catalogue_bytes (contents_of t c)
cat_bytes t c tree cut = cat_is t c tree (cut_some t c tree cut)

pub same_some : (a b : List ℕ) (o : Option (List ℕ)) → o ≡ Some a → o ≡ Some b → a ≡ b
same_some a b o h k = cc

-- a catalogue on the way that was opened is the canonical one
pub opened_is : (shelf : Shelf) (hash : List ℕ) (t : Nodes) (p c r : Path) (named : List ℕ) (place : Place) (k : Contents) → HasCuts shelf hash t p → OnWay t p c r → named ≡ sha1 (cat t c) → place.path ≡ c
    → HasCatalogue shelf named place k → k ≡ contents_of t c
opened_is shelf hash t p c r named place k way w same at_ has =
    let there = ap (λ (x : List ℕ). shelf (object_id x Catalogue)) same ∙ way.catalogues c w.cut (way_covers t p c r w) (some_of t p c r w) in
    let bytes : catalogue_bytes k ≡ catalogue_bytes (contents_of t c) = sym has.decodes.spelled ∙ same_some _ _ _ has.there there ∙ cat_bytes t c way.tree w.cut in
    let parts = one_file _ _ _ _ (has_file k has.decodes.is) (has_file (contents_of t c) (canonical_at t c way.tree w.cut (way.fits c w.cut (way_covers t p c r w) (some_of t p c r w)))) bytes in
    let at_c : k.at ≡ c = has.decodes.at ∙ at_ in
    λ i. record { at = at_c i; rows = parts.0 i; nested = parts.1 i }

-- ---- faults

-- where the shelf has the catalogues on the way, the root's is opened
pub top_unread : (shelf : Shelf) (root : ObjectId) (t : Nodes) (p top : Path) (f : LoadFault) → HasCuts shelf root.hash t p → p ≢ [] → root.kind ≡ Catalogue → top ≡ [] → Opens shelf root (record { path = top; row = None }) (Err f) → IsUnread f
top_unread shelf root t p top f way some kind none h =
    let id : root ≡ object_id (sha1 (cat t [])) Catalogue = λ i. record { hash = way.root i; kind = kind i } in
    let there = ap shelf id ∙ way.catalogues [] refl refl some in
    opens_there shelf root root_place (cat t []) (contents_of t []) f there (sym way.root) (root_decodes_at t way.tree (way.fits [] refl refl some))
    (subst (λ (q : Path). Opens shelf root (record { path = q; row = None }) (Err f)) none h)

-- none or one is fetched
pub at_most_below : (before after most : ℕ) → 2 ≤ most → (after ≡ before) ⊎ (after ≡ raised before) → (k : ℕ) × (k + 1 ≤ most) × (after ≡ raised_by k before)
at_most_below before after most le (inl none) = (0, omega (arith, le), none)
at_most_below before after most le (inr one) = (1, le, one)

-- ---- how many there can be, since each stands deeper than the one before it

pub some_long : (p : Path) → p ≢ [] → 1 ≤ length p
some_long [] some = absurd (some refl)
some_long (a ∷ p) some = omega arith

pub none_or_one : (above below most before after : ℕ) → above < below → below < most → (after ≡ before) ⊎ (after ≡ raised before) → (k : ℕ) × (k + above < most) × (after ≡ raised_by k before)
none_or_one above below most before after deeper shorter (inl none) = (0, omega (arith, deeper, shorter), none)
none_or_one above below most before after deeper shorter (inr one) = (1, omega (arith, deeper, shorter), one)

pub one_more : (above below named : Path) (most before between after : ℕ) → below ≡ named → length above < length named → between ≡ raised before → (k : ℕ) × (k + length below < most) × (after ≡ raised_by k between)
    → (k : ℕ) × (k + length above < most) × (after ≡ raised_by k before)
one_more above below named most before between after place deeper one (k, le, is) = (suc k, omega (arith, ap length place, deeper, le), is ∙ ap (raised_by k) one ∙ raised_more k before)

pub from_top : (above most before between after : ℕ) → between ≡ raised before → (k : ℕ) × (k + above < most) × (after ≡ raised_by k between) → RaisedAtMost most before after
from_top above most before between after one (k, le, is) = (suc k, omega (arith, le), is ∙ ap (raised_by k) one ∙ raised_more k before)

-- ---- how many there are

pub pass_count : (t : Nodes) (p c r e f : Path) → Passes t p c r e f → length (cuts_above (at t c) r) ≡ length (cuts_above (at t (c ++ e)) f) + 1
pass_count t p c r e f w =
    let rest = length-map (cuts_above (at (at t c) e) f) (λ (q : Path). e ++ q) in
    let one : length ([] ∷ map (λ (q : Path). e ++ q) (cuts_above (at (at t c) e) f)) ≡ length (map (λ (q : Path). e ++ q) (cuts_above (at (at t c) e) f)) + 1 = omega arith in
    ap (λ (l : List Path). length l) (pass_way (at t c) r e f w.way w.near) ∙ one ∙ ap (λ (k : ℕ). k + 1) rest ∙ ap (λ (u : Nodes). length (cuts_above u f) + 1) (at-at t c e)

pub some_count : (u : Nodes) (r : Path) → r ≢ [] → 1 ≤ length (cuts_above u r)
some_count u r some = omega (arith, ap (λ (l : List Path). length l) (cuts_some u r some))

-- ---- one step down

module _ (shelf : Shelf) (hash : List ℕ) (t : Nodes) (p r : Path) (c : Contents) (entry : Nested) (way : HasCuts shelf hash t p) (w : OnWay t p c.at r) (is : c ≡ contents_of t c.at) (next : IsNext c p entry) where
  next_here : NextCut t p c.at r entry
  next_here = next_passes t p c.at r entry way.tree w (subst (λ (x : Contents). IsNext x p entry) is next)

  entry_path : entry.path ≡ c.at ++ next_here.e
  entry_path = ap (λ (m : Nested). m.path) next_here.entry

  on_next : OnWay t p (c.at ++ next_here.e) next_here.f
  on_next = deeper t p c.at r next_here.e next_here.f next_here.passes

  -- its bytes are there and decode
  pub next_there : IsThere shelf c entry
  next_there =
      let own : entry ≡ entry_of entry.path (cat t entry.path) = next_here.entry ∙ ap (λ (q : Path). entry_of q (cat t q)) (sym entry_path) in
      let hash : entry.hash ≡ sha1 (cat t entry.path) = ap (λ (m : Nested). m.hash) own in
      let at_next = way.catalogues (c.at ++ next_here.e) on_next.cut (way_covers t p (c.at ++ next_here.e) next_here.f on_next) (some_of t p (c.at ++ next_here.e) next_here.f on_next) in
      record {
        bytes = cat t entry.path;
        there = ap (λ (h : List ℕ). shelf (object_id h Catalogue)) hash ∙ subst (λ (q : Path). shelf (object_id (sha1 (cat t q)) Catalogue) ≡ Some (cat t q)) (sym entry_path) at_next;
        hash = sym hash;
        size = sym (ap (λ (m : Nested). m.size) own);
        decodes = λ row tr. (
          contents_of t entry.path,
          nested_decodes_at t way.tree c.at w.cut (way.fits c.at w.cut (way_covers t p c.at r w) (some_of t p c.at r w)).apart row entry.path (subst (λ (x : Contents). StandsAt x.at x.rows row entry.path) is tr.stands) tr.kind
              (subst (FitsAtCut t) (sym entry_path) (way.fits (c.at ++ next_here.e) on_next.cut (way_covers t p (c.at ++ next_here.e) next_here.f on_next) (some_of t p (c.at ++ next_here.e) next_here.f on_next))),
        );
      }

  pub step_unread : (id : ObjectId) (f : LoadFault) → OpensNested shelf id c entry (Err f) → Finds t p (Err f)
  step_unread id f h = nested_there shelf id c entry f next_there h

  -- the catalogue below is the canonical one of the next cut on the way
  pub record StepsTo (below : Contents) : Type 0 where
    pub e : Path
    pub f : Path
    pub passes : Passes t p c.at r e f
    pub place : below.at ≡ c.at ++ e
    pub on : OnWay t p below.at f
    pub is_ : below ≡ contents_of t below.at
    pub path : entry.path ≡ c.at ++ e

  pub step_to : (below : Contents) (row : Row) → HasCatalogue shelf entry.hash (record { path = entry.path; row = Some row }) below → StepsTo below
  step_to below row opened =
      let named : entry.hash ≡ sha1 (cat t (c.at ++ next_here.e)) = ap (λ (m : Nested). m.hash) next_here.entry in
      let same = opened_is shelf hash t p (c.at ++ next_here.e) next_here.f entry.hash (record { path = entry.path; row = Some row }) below way on_next named entry_path opened in
      let place : below.at ≡ c.at ++ next_here.e = opened.decodes.at ∙ entry_path in
      record {
        e = next_here.e;
        f = next_here.f;
        passes = next_here.passes;
        place = place;
        on = subst (λ (x : Path). OnWay t p x next_here.f) (sym place) on_next;
        is_ = same ∙ ap (contents_of t) (sym place);
        path = entry_path;
      }

  pub step_down : (below : Contents) → IsNestedCatalogue shelf c entry below → StepsTo below
  step_down below opened = step_to below opened.row opened.opened

  step_count : (below : Contents) (s : StepsTo below) → length (cuts_above (at t c.at) r) ≡ length (cuts_above (at t below.at) s.f) + 1
  step_count below s = pass_count t p c.at r s.e s.f s.passes ∙ ap (λ (x : Path). length (cuts_above (at t x) s.f) + 1) (sym s.place)

  -- and what is fetched below comes to the one that was fetched
  pub step_taken : (below : Contents) → IsNestedCatalogue shelf c entry below → (before between after : ℕ) → between ≡ raised before
      → ((f : Path) → OnWay t p below.at f → below ≡ contents_of t below.at → (k : ℕ) × (k + 1 ≤ length (cuts_above (at t below.at) f)) × (after ≡ raised_by k between))
      → (k : ℕ) × (k + 1 ≤ length (cuts_above (at t c.at) r)) × (after ≡ raised_by k before)
  step_taken below opened before between after one deep =
      let s = step_down below opened in
      let count = step_count below s in
      let d = deep s.f s.on s.is_ in
      let le = d.1 in
      (suc d.0, omega (arith, count, le), d.2 ∙ ap (raised_by d.0) one ∙ raised_more d.0 before)

  pub more_than_one : 2 ≤ length (cuts_above (at t c.at) r)
  more_than_one =
      let n = next_here in
      let count = pass_count t p c.at r n.e n.f n.passes in
      let some = some_count (at t (c.at ++ n.e)) n.f n.passes.way.more in
      omega (arith, count, some)
