use Rattle.std.proofs.Common.{List, ◌≡◌, ℕ, ◌<◌, length, get_or, Result, Ok, Err, sym, ap, subst, ◌∙◌, refl}
use Rattle.std.specs.Prelude.{Contains, IfOk}
use Rattle.std.specs.List.{HoldsAt}
use Rattle.std.proofs.lemmas.List.Elements.{All-weaker}
use Rattle.cv_base.specs.Path.{Path}
use Rattle.cv_rows.specs.Catalogue.{Contents, IsCatalogue, FitsAt}
use Rattle.cv_rows.specs.Faults.{AllFit}
use Rattle.cv_rows.specs.Places.{StandsAt}
use Rattle.cv_rows.specs.declared.row.Row.{Row}
use Rattle.cv_rows.proofs.RuleLaws.{contents}
use Rattle.cv_rows.proofs.Sorting.{same_row}
use Rattle.cv_rows.proofs.catalogue.Catalogue.path_of.Goals as goal

-- the row at the index is the row
stands_so : {E : Type 0} (c : Contents) (rows found : List Row) (i : ℕ) (row : Row) (r : Result Path E) → IsCatalogue c → rows ≡ c.rows → found ≡ c.rows → Contains c.rows row → i < length found → HoldsAt (λ x. x.key.0 ≡ row.key.0) found i
    → IfOk r (λ path. (d : Row) → StandsAt c.at rows (get_or rows i d) path) → IfOk r (StandsAt c.at c.rows row)
stands_so c rows found i row (Err e) is rows_is found_is has lt key h = tt
stands_so c rows found i row (Ok path) is rows_is found_is has lt key h =
    let within : i < length c.rows = subst (λ (l : List Row). i < length l) found_is lt in
    let named : (get_or c.rows i row).key.0 ≡ row.key.0 = subst (λ (l : List Row). (get_or l i row).key.0 ≡ row.key.0) found_is (key row) in
    let same : get_or c.rows i row ≡ row = same_row c.rows i row row is.ordered within has named in
    subst (λ (x : Row). StandsAt c.at c.rows x path) same (subst (λ (l : List Row). StandsAt c.at l (get_or l i row) path) rows_is (h row))

pub unreachable-requires : goal.unreachable-requires
unreachable-requires c =
    c.in_default.ensures c.args.row.now (subst (λ (rows : List Row). Contains rows c.args.row.now) (sym (c.deref.ensures.value ∙ ap (λ (x : Contents). x.rows) c.self.view_is)) c.requires) refl

pub path_at-requires-clause-stand : goal.path_at-requires-clause-stand
path_at-requires-clause-stand c =
    let at = c.self.inside.at in
    let rows = c.self.inside.rows.items in
    rw c.deref-2.ensures.value (record { root = c.self.invariant.region.root; each = All-weaker (λ r. (q : Path) × StandsAt at rows r q × FitsAt at r q) (λ r. (q : Path) × StandsAt at rows r q) (λ r h. (h.0, h.1)) rows c.self.invariant.region.placed })

pub path_at-requires-clause-fit : goal.path_at-requires-clause-fit
path_at-requires-clause-fit c = subst (λ (rows : List Row). AllFit c.self.inside.at rows) (sym c.deref-2.ensures.value) c.self.invariant.region.placed

pub returns : goal.returns
returns c =
    let whole = contents c.self.inside.at c.self.inside.rows.items c.self.inside.nested.items in
    let there : Contains whole.rows c.args.row.now = subst (λ (x : Contents). Contains x.rows c.args.row.now) (sym c.self.view_is) c.requires in
    let found = c.in-Some.ensures in
    subst (λ (x : Contents). IfOk c.path_at.result (StandsAt x.at x.rows c.args.row.now)) c.self.view_is
    (stands_so whole c.deref-2.result.now c.deref.result.now c.in-Some.place c.args.row.now c.path_at.result c.self.invariant c.deref-2.ensures.value c.deref.ensures.value there found.0 found.1 c.path_at.ensures)
