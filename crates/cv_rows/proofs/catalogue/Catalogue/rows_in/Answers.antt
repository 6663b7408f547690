use Rattle.std.proofs.Common.{◌≡◌, List, Result, Ok, Err, refl, ap, ◌∙◌, subst, filter}
use Rattle.std.specs.Prelude.{IfOk}
use Rattle.cv_base.specs.Path.{Path, key_of}
use Rattle.cv_rows.specs.Catalogue.{Contents, IsCatalogue}
use Rattle.cv_rows.specs.Listing.{IsListing}
use Rattle.cv_rows.specs.ListingInner.{is_in}
use Rattle.cv_rows.specs.Places.{StandsAt}
use Rattle.cv_rows.specs.declared.row.Row.{Row}
use Rattle.cv_rows.proofs.Listing.{listing, empty_listing}
use Rattle.cv_rows.proofs.catalogue.Catalogue.rows_in.Goals as goal

if_listed : {V E : Type 0} (items_of : V → List Row) (c : Contents) (is : IsCatalogue c) (directory : Row) (p : Path) (at_key : List _) (items : List Row) (r : Result V E) → StandsAt c.at c.rows directory p → at_key ≡ key_of c.at → items ≡ c.rows
    → IfOk r (λ found. items_of found ≡ filter (is_in at_key directory.key.0) items) → IfOk r (λ found. IsListing c p (items_of found))
if_listed items_of c is directory p at_key items (Err e) here at-is same h = tt
if_listed items_of c is directory p at_key items (Ok found) here at-is same h = listing c is directory p directory.key.0 at_key items (items_of found) here refl at-is same h

pub returns-in-Some : goal.returns-in-Some
returns-in-Some c =
    let is : IsCatalogue c.args.self.now = subst IsCatalogue c.self.view_is c.self.invariant in
    if_listed (λ found. found.items) c.args.self.now is c.in-Some.directory.now c.args.path.now c.key.result.0 c.deref.result.now c.rows_below.result c.in-Some.ensures.row
    (c.key.ensures ∙ ap key_of (ap (λ (x : Contents). x.at) c.self.view_is)) (c.deref.ensures.value ∙ ap (λ (x : Contents). x.rows) c.self.view_is) c.rows_below.ensures

pub returns-in-None : goal.returns-in-None
returns-in-None c =
    let is : IsCatalogue c.args.self.now = subst IsCatalogue c.self.view_is c.self.invariant in
    empty_listing c.args.self.now is c.args.path.now c.new.result.items c.in-None.ensures.row c.new.ensures.items
