use Rattle.std.proofs.Common.{List, ◌≡◌, sym, ap, subst, ◌∙◌, filter, Bool}
use Rattle.std.specs.BTreeSet.{contains}
use Rattle.std.proofs.lemmas.List.Elements.{All-weaker}
use Rattle.cv_base.specs.BytesOrder.{bytes_cmp}
use Rattle.cv_base.specs.Path.{Path, covers}
use Rattle.cv_rows.specs.Catalogue.{Contents, FitsAt}
use Rattle.cv_rows.specs.Faults.{AllFit}
use Rattle.cv_rows.specs.Places.{StandsAt}
use Rattle.cv_rows.specs.Within.{IsWithin}
use Rattle.cv_rows.specs.declared.row.Row.{Row}
use Rattle.cv_rows.specs.declared.nested.Nested.{Nested}
use Rattle.cv_rows.proofs.RuleLaws.{contents}
use Rattle.cv_rows.proofs.catalogue.Catalogue.within.Goals as goal

within_so : (c : Contents) (path : Path) (knows : List _ → Bool) (listed copied rows : List Row) (all nested : List Nested) → listed ≡ c.rows → ((r : Row) (q : Path) → StandsAt c.at listed r q → knows r.key.0 ≡ covers path q)
    → copied ≡ c.rows → rows ≡ filter (λ r. knows r.key.0) copied → all ≡ c.nested → nested ≡ filter (λ n. covers path n.path) all → IsWithin c path rows nested
within_so c path knows listed copied rows all nested same known copied_is rows_is all_is nested_is = record {
  goes = λ r. knows r.key.0;
  goes_is = λ r q s. known r q (subst (λ (l : List Row). StandsAt c.at l r q) (sym same) s);
  rows_are = rows_is ∙ ap (filter (λ (r : Row). knows r.key.0)) copied_is;
  nested_are = nested_is ∙ ap (filter (λ (n : Nested). covers path n.path)) all_is;
}

pub covered_keys-requires-clause-stand : goal.covered_keys-requires-clause-stand
covered_keys-requires-clause-stand c =
    let at = c.self.inside.at in
    let rows = c.self.inside.rows.items in
    rw c.deref.ensures.value (record { root = c.self.invariant.region.root; each = All-weaker (λ r. (q : Path) × StandsAt at rows r q × FitsAt at r q) (λ r. (q : Path) × StandsAt at rows r q) (λ r h. (h.0, h.1)) rows c.self.invariant.region.placed })

pub covered_keys-requires-clause-fit : goal.covered_keys-requires-clause-fit
covered_keys-requires-clause-fit c = subst (λ (rows : List Row). AllFit c.self.inside.at rows) (sym c.deref.ensures.value) c.self.invariant.region.placed

pub returns : goal.returns
returns c =
    let whole = contents c.self.inside.at c.self.inside.rows.items c.self.inside.nested.items in
    let path = c.args.path.now in
    subst (λ (x : Contents). IsWithin x path c.in_ok-rows.rows.items c.in_ok-nested.nested.items) c.self.view_is
    (within_so whole path (contains bytes_cmp c.in_ok-covered.covered) c.deref.result.now c.deref-2.result.now c.in_ok-rows.rows.items c.deref-3.result.now c.in_ok-nested.nested.items
    c.deref.ensures.value c.in_ok-covered.ensures c.deref-2.ensures.value c.in_ok-rows.ensures c.deref-3.ensures.value c.in_ok-nested.ensures)
