-- What a walk finds at a name, by the catalogue of the nearest cut.
use Rattle.std.proofs.Common.{◌≡◌, ◌≢◌, ℕ, Bool, true, false, List, [], ◌∷◌, ◌++◌, refl, sym, ap, subst, ◌∙◌, is_some}
use Rattle.std.specs.Prelude.{Contains}
use Rattle.std.specs.declared.option.Option.{Option}
use Rattle.std.specs.declared.option.Option.TheVariants.{None, Some}
use Rattle.std.specs.FinMap.{get}
use Rattle.cv_base.specs.Path.{Path, IsPath}
use Rattle.cv_tree.specs.Tree.{Nodes, IsTree, is_directory}
use Rattle.cv_tree.specs.declared.node.Node.TheVariants as node
use Rattle.cv_rows.specs.Catalogue.{Contents, IsCatalogue, IsListed}
use Rattle.cv_rows.specs.Places.{StandsAt}
use Rattle.cv_rows.specs.Parents.{IsBelow}
use Rattle.cv_rows.specs.Row.{same_kind}
use Rattle.cv_rows.specs.declared.row.Row.{Row}
use Rattle.cv_rows.specs.declared.nested.Nested.{Nested}
use Rattle.cv_rows.specs.declared.row_kind.RowKind.{RowKind}
use Rattle.cv_rows.specs.declared.row_kind.RowKind.TheVariants as kind
use Rattle.cv_rows.proofs.Lemmas.{one_place, stands_contained}
use Rattle.cv_cut.specs.Catalogues.{contents_of, Fits}
use Rattle.cv_cut.specs.Over.{IsNearest}
use Rattle.cv_cut.specs.Told.{node_of}
use Rattle.cv_cut.proofs.Lemmas.{no_row_tells, region_apart, row_tells}
use Rattle.cv_resolver.specs.Walk.{Name}
use Rattle.cv_resolver.specs.Spot.{StandsIn, IsLevel, IsSpot, IsOwn, levels_of}
use Rattle.cv_resolver.specs.Rows.{IsInCut}
use Rattle.cv_resolver.specs.EnterInner.{IsOpen, IsEntered}
use Rattle.cv_resolver.specs.declared.spot.Level.{Level}
use Rattle.cv_resolver.specs.declared.spot.Spot.{Spot}
use Rattle.cv_resolver.specs.declared.enter.Entered.TheVariants.{Nothing, Stands, Link}
use Rattle.cv_resolver.proofs.Spots.{nearest_level, goes_to, goes_into}

-- each Transition row has a nested entry
pub listed : (c : Contents) (r : Row) (q : Path) → IsCatalogue c → StandsAt c.at c.rows r q → r.kind ≡ kind.Transition → ((n : Nested) → Contains c.nested n → n.path ≢ q) → ⊥
listed c r q is st trans none =
    let has = stands_contained st in
    let own : IsListed c.at c.rows c.nested r = subst (IsListed c.at c.rows c.nested) has.2 (is.region.listed has.0 r has.1) in
    let e = own trans in
    none e.0 e.1 (one_place is.ordered e.2 st)

none_there : (t : Nodes) (q : Path) → IsTree t → (IsPath q → ⊥) → get t q ≡ None
none_there t q tree none =
    elim (get t q) as (λ o. get t q ≡ o → o ≡ None) [
      | None ↦ λ is. refl
      | Some n ↦ λ is. absurd (none (tree.part.paths q (ap is_some is)))
    ] refl

-- the catalogue of the nearest cut
pub nearest_of : (t : Nodes) (s : Spot) → IsSpot t s → IsNearest t s.level.path s.at × IsLevel t s.level
nearest_of t s is = nearest_level t s.at s.is_directory s.outer.items s.level is

own_row : (t : Nodes) (s : Spot) (c : Contents) (r : Row) (p q : Path) → IsOwn t s c → p ≡ q → StandsAt c.at c.rows r p → StandsAt s.level.path (contents_of t s.level.path).rows r q
own_row t s c r p q own places st =
    subst (λ (x : Path). StandsAt s.level.path (contents_of t s.level.path).rows r x) places (subst (λ (x : Contents). StandsAt x.at x.rows r p) own st)

-- what a row in it tells of the tree
pub tells : (t : Nodes) (s : Spot) (c : Contents) (r : Row) (p : Path) → IsTree t → Fits t → IsSpot t s → IsOwn t s c → StandsAt c.at c.rows r p → get t p ≡ Some (node_of r)
tells t s c r p tree fits is own st =
    let n = nearest_of t s is in
    row_tells t tree s.level.path n.1.cut (region_apart t s.level.path n.1.cut fits.apart) r p (own_row t s c r p p own refl st)

path_is : (at : Path) (name : List ℕ) (found : Option Path) (path : Path) → found ≡ Some path → IsBelow at name found → path ≡ at ++ name ∷ []
path_is at name found path is h = (subst (IsBelow at name) is h).0

open_node : (r : Row) → same_kind r.kind kind.Transition ≡ false → r.kind ≢ kind.Link → IsOpen (Some (node_of r))
open_node r plain other = by r.kind refl
  where
    by : (k : RowKind) → r.kind ≡ k → IsOpen (Some (node_of r))
    by kind.Directory h = rw h tt
    by kind.Transition h = rw h tt
    by kind.NestedRoot h = rw h tt
    by kind.File h = rw h tt
    by kind.Link h = absurd (other h)

module _ (t : Nodes) (s : Spot) (name : Name) (c : Contents) (found : Option Path) (below : IsBelow s.at name found) where
  -- a name that makes no path, or at whose path no row stands
  pub no_path : found ≡ None → IsTree t → Fits t → IsSpot t s → IsOwn t s c → IsEntered t s name Nothing
  no_path none tree fits is own = none_there t (s.at ++ name ∷ []) tree (subst (IsBelow s.at name) none below)

  pub no_row : (path : Path) → found ≡ Some path → ((r : Row) → StandsAt c.at c.rows r path → ⊥) → IsTree t → Fits t → IsSpot t s → IsOwn t s c → IsEntered t s name Nothing
  no_row path f none tree fits is own =
      let n = nearest_of t s is in
      let places = path_is s.at name found path f below in
      no_row_tells t tree s.level.path n.1.cut (region_apart t s.level.path n.1.cut fits.apart) s.at name n.0
      (λ r st. none r (subst (λ (x : Contents). StandsAt x.at x.rows r path) (sym own) (subst (λ (x : Path). StandsAt s.level.path (contents_of t s.level.path).rows r x) (sym places) st)))

  -- a directory or a file of the region
  there : (path : Path) (r : Row) (d : Bool) (next : Spot) → found ≡ Some path → StandsAt c.at c.rows r path → same_kind r.kind kind.Transition ≡ false → r.kind ≢ kind.Link → d ≡ is_directory (Some (node_of r))
      → next ≡ record s { at = path; is_directory = d } → IsTree t → Fits t → IsSpot t s → IsOwn t s c → IsEntered t s name (Stands next)
  there path r d next f st plain other dir same tree fits is own =
      let places = path_is s.at name found path f below in
      let here = own_row t s c r path (s.at ++ name ∷ []) own places st in
      let stands = goes_to t s.at name s.is_directory d (levels_of s) s.outer.items s.level r tree fits is refl here plain dir in
      record {
        spot = subst (IsSpot t) (sym same) (subst (λ (x : Path). StandsIn t x d (levels_of s)) (sym places) stands);
        at = ap (λ (x : Spot). x.at) same ∙ places;
        is_open = subst IsOpen (sym (tells t s c r path tree fits is own st) ∙ ap (get t) places) (open_node r plain other);
      }

  pub to_file : (path : Path) (r : Row) (next : Spot) → found ≡ Some path → StandsAt c.at c.rows r path → r.kind ≡ kind.File → next ≡ record s { at = path; is_directory = false }
      → IsTree t → Fits t → IsSpot t s → IsOwn t s c → IsEntered t s name (Stands next)
  to_file path r next f st k same = there path r false next f st (rw k refl) (λ l. (let e : kind.File ≡ kind.Link = sym k ∙ l in cc)) (rw k refl) same

  pub to_directory : (path : Path) (r : Row) (next : Spot) → found ≡ Some path → StandsAt c.at c.rows r path → r.kind ≡ kind.Directory → next ≡ record s { at = path; is_directory = true }
      → IsTree t → Fits t → IsSpot t s → IsOwn t s c → IsEntered t s name (Stands next)
  to_directory path r next f st k same = there path r true next f st (rw k refl) (λ l. (let e : kind.Directory ≡ kind.Link = sym k ∙ l in cc)) (rw k refl) same

  pub to_root : (path : Path) (r : Row) (next : Spot) → found ≡ Some path → StandsAt c.at c.rows r path → r.kind ≡ kind.NestedRoot → next ≡ record s { at = path; is_directory = true }
      → IsTree t → Fits t → IsSpot t s → IsOwn t s c → IsEntered t s name (Stands next)
  to_root path r next f st k same = there path r true next f st (rw k refl) (λ l. (let e : kind.NestedRoot ≡ kind.Link = sym k ∙ l in cc)) (rw k refl) same

  -- another cut
  pub to_cut : (path : Path) (r : Row) (next : Spot) → found ≡ Some path → StandsAt c.at c.rows r path → r.kind ≡ kind.Transition → IsInCut c r s path next
      → IsTree t → Fits t → IsSpot t s → IsOwn t s c → IsEntered t s name (Stands next)
  to_cut path r next f st trans into tree fits is own =
      let places = path_is s.at name found path f below in
      let here = own_row t s c r path (s.at ++ name ∷ []) own places st in
      let more : Level = record { path = path; hash = into.entry.hash; row = Some r } in
      let has = subst (λ (x : Contents). Contains x.nested into.entry) own into.listed in
      let stands = goes_into t s.at name s.is_directory (levels_of s) s.outer.items s.level more r into.entry tree fits is refl here trans has (into.path_is ∙ places) (λ i. record { path = places i; hash = into.entry.hash; row = Some r }) in
      record {
        spot = subst (λ (x : Bool). StandsIn t next.at x (levels_of next)) (sym into.directory) (subst (λ (x : List Level). StandsIn t next.at true x) (sym into.levels) (subst (λ (x : Path). StandsIn t x true (levels_of s ++ more ∷ [])) (sym (into.at ∙ places)) stands));
        at = into.at ∙ places;
        is_open = subst IsOpen (sym (tells t s c r path tree fits is own st) ∙ ap (get t) places) (rw trans tt);
      }

  -- a link
  pub to_link : (path : Path) (r : Row) (target : List ℕ) → found ≡ Some path → StandsAt c.at c.rows r path → r.kind ≡ kind.Link → target ≡ r.target
      → IsTree t → Fits t → IsSpot t s → IsOwn t s c → IsEntered t s name (Link s path target)
  to_link path r target f st k same tree fits is own =
      (refl, path_is s.at name found path f below, (r.attr, tells t s c r path tree fits is own st ∙ ap Some (link_node r k ∙ ap (node.Link r.attr) (sym same))))
    where
      link_node : (x : Row) → x.kind ≡ kind.Link → node_of x ≡ node.Link x.attr x.target
      link_node x h = rw h refl
