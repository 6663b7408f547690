use Rattle.std.proofs.Common.{List, ◌≡◌, Result, Ok, Err, sym, subst}
use Rattle.std.specs.Prelude.{IfOk}
use Rattle.std.proofs.lemmas.List.Elements.{All-weaker}
use Rattle.cv_base.specs.Path.{Path}
use Rattle.cv_rows.specs.Catalogue.{Contents, FitsAt}
use Rattle.cv_rows.specs.Faults.{AllFit}
use Rattle.cv_rows.specs.Places.{StandsAt, StandEach}
use Rattle.cv_rows.specs.declared.row.Row.{Row}
use Rattle.cv_rows.proofs.RuleLaws.{contents}
use Rattle.cv_rows.proofs.catalogue.Catalogue.places.Goals as goal

pub places_of-requires-clause-stand : goal.places_of-requires-clause-stand
places_of-requires-clause-stand c =
    let at = c.self.inside.at in
    let rows = c.self.inside.rows.items in
    rw c.deref.ensures.value (record { root = c.self.invariant.region.root; each = All-weaker (λ r. (q : Path) × StandsAt at rows r q × FitsAt at r q) (λ r. (q : Path) × StandsAt at rows r q) (λ r h. (h.0, h.1)) rows c.self.invariant.region.placed })

pub places_of-requires-clause-fit : goal.places_of-requires-clause-fit
places_of-requires-clause-fit c = subst (λ (rows : List Row). AllFit c.self.inside.at rows) (sym c.deref.ensures.value) c.self.invariant.region.placed

-- the list of rows is that of the catalogue
each_so : {V E : Type 0} (items_of : V → List Path) (c whole : Contents) (rows : List Row) (r : Result V E) → rows ≡ c.rows → c ≡ whole → IfOk r (λ found. StandEach c.at rows rows (items_of found)) → IfOk r (λ found. StandEach whole.at whole.rows whole.rows (items_of found))
each_so items_of c whole rows (Err e) same is h = tt
each_so items_of c whole rows (Ok found) same is h =
    subst (λ (x : Contents). StandEach x.at x.rows x.rows (items_of found)) is (subst (λ (l : List Row). StandEach c.at l l (items_of found)) same h)

pub returns : goal.returns
returns c = each_so (λ found. found.items) (contents c.self.inside.at c.self.inside.rows.items c.self.inside.nested.items) c.args.self.now c.deref.result.now c.places_of.result c.deref.ensures.value c.self.view_is c.places_of.ensures
