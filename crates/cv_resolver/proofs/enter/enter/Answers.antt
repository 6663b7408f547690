use Rattle.std.proofs.Common.{true, false, sym, subst}
use Rattle.cv_resolver.specs.Naming.{AreKnown}
use Rattle.cv_resolver.specs.Spot.{levels_of}
use Rattle.cv_resolver.specs.declared.spot.Spot.{Spot}
use Rattle.cv_resolver.proofs.Naming.{none_known, still_known, cut_known}
use Rattle.cv_resolver.proofs.Entering.{no_row, to_file, to_directory, to_root, to_cut, to_link}
use Rattle.cv_resolver.proofs.Telling.{moved_at, told_no_path, told_no_row, told_row, told_link}
use Rattle.cv_rows.specs.declared.row_kind.RowKind.TheVariants as kind
use Rattle.cv_resolver.proofs.enter.enter.Goals as goal

pub returns-in_default-row_at-clause-entered : goal.returns-in_default-row_at-clause-entered
returns-in_default-row_at-clause-entered c = λ t. no_row t c.args.spot c.args.name.now c.args.catalogue.now c.in_ok-path.field-0 c.in_ok-path.ensures c.in-Some.path c.in-Some.is c.in_default-row_at.ensures.row

pub returns-in_ok-target-in-Link-clause-entered : goal.returns-in_ok-target-in-Link-clause-entered
returns-in_ok-target-in-Link-clause-entered c = λ t.
    to_link t c.args.spot c.args.name.now c.args.catalogue.now c.in_ok-path.field-0 c.in_ok-path.ensures c.in-Some.path c.in-Some-row_at.row.now c.in_ok-target-in-Link.target c.in-Some.is c.in-Some-row_at.ensures.row c.in-Link.is c.in_ok-target-in-Link.ensures

pub returns-in_ok-spot-in-Transition-clause-entered : goal.returns-in_ok-spot-in-Transition-clause-entered
returns-in_ok-spot-in-Transition-clause-entered c = λ t.
    to_cut t c.args.spot c.args.name.now c.args.catalogue.now c.in_ok-path.field-0 c.in_ok-path.ensures c.in-Some.path c.in-Some-row_at.row.now c.in_ok-spot-in-Transition.spot c.in-Some.is c.in-Some-row_at.ensures.row c.in-Transition.is c.in_ok-spot-in-Transition.ensures

pub returns-in-File-clause-entered : goal.returns-in-File-clause-entered
returns-in-File-clause-entered c = λ t.
    to_file t c.args.spot c.args.name.now c.args.catalogue.now c.in_ok-path.field-0 c.in_ok-path.ensures c.in-Some.path c.in-Some-row_at.row.now c.moved.result c.in-Some.is c.in-Some-row_at.ensures.row c.in-File.is c.moved.ensures

pub returns-in-Directory-clause-entered : goal.returns-in-Directory-clause-entered
returns-in-Directory-clause-entered c = λ t.
    to_directory t c.args.spot c.args.name.now c.args.catalogue.now c.in_ok-path.field-0 c.in_ok-path.ensures c.in-Some.path c.in-Some-row_at.row.now c.moved-in-Directory.result c.in-Some.is c.in-Some-row_at.ensures.row c.in-Directory.is c.moved-in-Directory.ensures

pub returns-in-NestedRoot-clause-entered : goal.returns-in-NestedRoot-clause-entered
returns-in-NestedRoot-clause-entered c = λ t.
    to_root t c.args.spot c.args.name.now c.args.catalogue.now c.in_ok-path.field-0 c.in_ok-path.ensures c.in-Some.path c.in-Some-row_at.row.now c.moved-in-NestedRoot.result c.in-Some.is c.in-Some-row_at.ensures.row c.in-NestedRoot.is c.moved-in-NestedRoot.ensures

pub returns-in-File-clause-levels : goal.returns-in-File-clause-levels
returns-in-File-clause-levels c = subst (λ (s : Spot). AreKnown c.args.catalogue.now (levels_of c.args.spot) (levels_of s)) (sym c.moved.ensures) (still_known c.args.catalogue.now (levels_of c.args.spot) (levels_of c.args.spot) (λ l has. has))

pub returns-in-Directory-clause-levels : goal.returns-in-Directory-clause-levels
returns-in-Directory-clause-levels c = subst (λ (s : Spot). AreKnown c.args.catalogue.now (levels_of c.args.spot) (levels_of s)) (sym c.moved-in-Directory.ensures) (still_known c.args.catalogue.now (levels_of c.args.spot) (levels_of c.args.spot) (λ l has. has))

pub returns-in-NestedRoot-clause-levels : goal.returns-in-NestedRoot-clause-levels
returns-in-NestedRoot-clause-levels c = subst (λ (s : Spot). AreKnown c.args.catalogue.now (levels_of c.args.spot) (levels_of s)) (sym c.moved-in-NestedRoot.ensures) (still_known c.args.catalogue.now (levels_of c.args.spot) (levels_of c.args.spot) (λ l has. has))

pub returns-in_default-clause-levels : goal.returns-in_default-clause-levels
returns-in_default-clause-levels c = none_known c.args.catalogue.now (levels_of c.args.spot)

pub returns-in_default-row_at-clause-levels : goal.returns-in_default-row_at-clause-levels
returns-in_default-row_at-clause-levels c = none_known c.args.catalogue.now (levels_of c.args.spot)

pub returns-in_ok-target-in-Link-clause-levels : goal.returns-in_ok-target-in-Link-clause-levels
returns-in_ok-target-in-Link-clause-levels c = still_known c.args.catalogue.now (levels_of c.args.spot) (levels_of c.args.spot) (λ l has. has)

pub returns-in_ok-spot-in-Transition-clause-levels : goal.returns-in_ok-spot-in-Transition-clause-levels
returns-in_ok-spot-in-Transition-clause-levels c =
    cut_known c.args.catalogue.now c.in-Some-row_at.row.now c.args.spot c.in-Some.path c.in_ok-spot-in-Transition.spot c.in-Some-row_at.ensures.row c.in-Transition.is c.in_ok-spot-in-Transition.ensures

pub returns-in_default-clause-told : goal.returns-in_default-clause-told
returns-in_default-clause-told c = told_no_path c.args.catalogue.now c.args.spot c.args.name.now c.in_ok-path.field-0 c.in_ok-path.ensures c.in_default.is

pub returns-in_default-row_at-clause-told : goal.returns-in_default-row_at-clause-told
returns-in_default-row_at-clause-told c = λ rules.
    told_no_row c.args.catalogue.now c.args.spot c.args.name.now c.in_ok-path.field-0 c.in_ok-path.ensures c.in-Some.path c.in-Some.is c.in_default-row_at.ensures.row

pub returns-in_ok-target-in-Link-clause-told : goal.returns-in_ok-target-in-Link-clause-told
returns-in_ok-target-in-Link-clause-told c = λ rules.
    told_link c.args.catalogue.now c.args.spot c.args.name.now c.in_ok-path.field-0 c.in_ok-path.ensures c.in-Some.path c.in-Some.is c.in-Some-row_at.row.now c.in-Some-row_at.ensures.row c.in_ok-target-in-Link.target c.in-Link.is c.in_ok-target-in-Link.ensures

pub returns-in_ok-spot-in-Transition-clause-told : goal.returns-in_ok-spot-in-Transition-clause-told
returns-in_ok-spot-in-Transition-clause-told c = λ rules.
    told_row c.args.catalogue.now c.args.spot c.args.name.now c.in_ok-path.field-0 c.in_ok-path.ensures c.in-Some.path c.in-Some.is c.in-Some-row_at.row.now c.in-Some-row_at.ensures.row kind.Transition c.in_ok-spot-in-Transition.spot c.in-Transition.is
    (λ e. cc) c.in_ok-spot-in-Transition.ensures

pub returns-in-File-clause-told : goal.returns-in-File-clause-told
returns-in-File-clause-told c = λ rules.
    told_row c.args.catalogue.now c.args.spot c.args.name.now c.in_ok-path.field-0 c.in_ok-path.ensures c.in-Some.path c.in-Some.is c.in-Some-row_at.row.now c.in-Some-row_at.ensures.row kind.File c.moved.result c.in-File.is
    (λ e. cc) (moved_at c.args.spot c.moved.result c.in-Some.path false c.moved.ensures)

pub returns-in-Directory-clause-told : goal.returns-in-Directory-clause-told
returns-in-Directory-clause-told c = λ rules.
    told_row c.args.catalogue.now c.args.spot c.args.name.now c.in_ok-path.field-0 c.in_ok-path.ensures c.in-Some.path c.in-Some.is c.in-Some-row_at.row.now c.in-Some-row_at.ensures.row kind.Directory c.moved-in-Directory.result c.in-Directory.is
    (λ e. cc) (moved_at c.args.spot c.moved-in-Directory.result c.in-Some.path true c.moved-in-Directory.ensures)

pub returns-in-NestedRoot-clause-told : goal.returns-in-NestedRoot-clause-told
returns-in-NestedRoot-clause-told c = λ rules.
    told_row c.args.catalogue.now c.args.spot c.args.name.now c.in_ok-path.field-0 c.in_ok-path.ensures c.in-Some.path c.in-Some.is c.in-Some-row_at.row.now c.in-Some-row_at.ensures.row kind.NestedRoot c.moved-in-NestedRoot.result c.in-NestedRoot.is
    (λ e. cc) (moved_at c.args.spot c.moved-in-NestedRoot.result c.in-Some.path true c.moved-in-NestedRoot.ensures)
