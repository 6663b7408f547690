use Rattle.std.proofs.Common.{◌≡◌, ◌≢◌, true, List, sym, subst}
use Rattle.std.specs.BTreeSet.{contains}
use Rattle.std.proofs.lemmas.List.Elements.{All-weaker}
use Rattle.cv_base.specs.BytesOrder.{bytes_cmp}
use Rattle.cv_base.specs.Path.{Path, covers}
use Rattle.cv_rows.specs.Catalogue.{Contents, FitsAt}
use Rattle.cv_rows.specs.Faults.{AllFit}
use Rattle.cv_rows.specs.Places.{StandsAt}
use Rattle.cv_rows.specs.Without.{IsWithout}
use Rattle.cv_rows.specs.declared.row.Row.{Row}
use Rattle.cv_rows.proofs.Left.{leaves, without_is}
use Rattle.cv_rows.proofs.Covers.{not_above}
use Rattle.cv_rows.proofs.RuleLaws.{contents}
use Rattle.cv_rows.proofs.catalogue.Catalogue.without.Goals as goal

pub covered_keys-requires-clause-stand : goal.covered_keys-requires-clause-stand
covered_keys-requires-clause-stand c =
    let at = c.self.inside.at in
    let rows = c.self.inside.rows.items in
    rw c.deref.ensures.value (record { root = c.self.invariant.region.root; each = All-weaker (λ r. (q : Path) × StandsAt at rows r q × FitsAt at r q) (λ r. (q : Path) × StandsAt at rows r q) (λ r h. (h.0, h.1)) rows c.self.invariant.region.placed })

pub covered_keys-requires-clause-fit : goal.covered_keys-requires-clause-fit
covered_keys-requires-clause-fit c = subst (λ (rows : List Row). AllFit c.self.inside.at rows) (sym c.deref.ensures.value) c.self.invariant.region.placed

pub invariant_of-result : goal.invariant_of-result
invariant_of-result c =
    let whole = contents c.self.inside.at c.self.inside.rows.items c.self.inside.nested.items in
    let path = c.args.path.now in
    let below : covers whole.at path ≡ true = subst (λ (x : Contents). covers x.at path ≡ true) (sym c.self.view_is) c.requires.below in
    let apart : path ≢ whole.at = subst (λ (x : Contents). path ≢ x.at) (sym c.self.view_is) c.requires.apart in
    without_is whole (contents whole.at c.drop_rows.new.rows.items c.drop_nested.new.nested.items) path c.self.invariant (not_above whole.at path below apart) c.requires.unmarked
    (leaves whole path (contains bytes_cmp c.in-Ok.covered) c.drop_rows.new.rows.items c.deref.result.now c.drop_nested.new.nested.items c.deref.ensures.value c.in-Ok.ensures c.drop_rows.ensures c.drop_nested.ensures)

pub returns-in-Ok-clause-left : goal.returns-in-Ok-clause-left
returns-in-Ok-clause-left c =
    let whole = contents c.self.inside.at c.self.inside.rows.items c.self.inside.nested.items in
    let path = c.args.path.now in
    subst (λ (x : Contents). IsWithout x path (contents whole.at c.drop_rows.new.rows.items c.drop_nested.new.nested.items)) c.self.view_is
    (leaves whole path (contains bytes_cmp c.in-Ok.covered) c.drop_rows.new.rows.items c.deref.result.now c.drop_nested.new.nested.items c.deref.ensures.value c.in-Ok.ensures c.drop_rows.ensures c.drop_nested.ensures)

pub returns-in-Ok-clause-rules : goal.returns-in-Ok-clause-rules
returns-in-Ok-clause-rules c =
    let whole = contents c.self.inside.at c.self.inside.rows.items c.self.inside.nested.items in
    let path = c.args.path.now in
    let below : covers whole.at path ≡ true = subst (λ (x : Contents). covers x.at path ≡ true) (sym c.self.view_is) c.requires.below in
    let apart : path ≢ whole.at = subst (λ (x : Contents). path ≢ x.at) (sym c.self.view_is) c.requires.apart in
    without_is whole (contents whole.at c.drop_rows.new.rows.items c.drop_nested.new.nested.items) path c.self.invariant (not_above whole.at path below apart) c.requires.unmarked
    (leaves whole path (contains bytes_cmp c.in-Ok.covered) c.drop_rows.new.rows.items c.deref.result.now c.drop_nested.new.nested.items c.deref.ensures.value c.in-Ok.ensures c.drop_rows.ensures c.drop_nested.ensures)
