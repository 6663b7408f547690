use Rattle.std.proofs.Common.{sym, ap, subst, ◌∙◌}
use Rattle.std.specs.Prelude.{IfOk}
use Rattle.std.specs.declared.result.Result.{Result}
use Rattle.cv_resolver.specs.Look.{Finding, Stat, found_at, names_at, names_in, stat_at, content_at}
use Rattle.cv_resolver.specs.Stage.{IsFoundBy}
use Rattle.cv_resolver.specs.declared.stat_line.StatLine.{StatLine}
use Rattle.cv_resolver.specs.declared.question.Question.{Question}
use Rattle.cv_resolver.specs.declared.found.ClientFault.{ClientFault}
use Rattle.cv_resolver.proofs.Arriving.{has_content, some_row, ok}
use Rattle.cv_rows.proofs.Lemmas.{stands_contained}
use Rattle.cv_resolver.proofs.Entering.{tells}
use Rattle.cv_resolver.proofs.Telling.{arrived_nothing, arrived_stat, arrived_as}
use Rattle.std.specs.declared.result.Result.TheVariants.{Ok}
use Rattle.cv_resolver.specs.Rows.{ArrivesAt}
use Rattle.cv_resolver.specs.declared.found.Found.TheVariants as found
use Rattle.cv_resolver.specs.declared.stage.Stage.TheVariants.{Ends}
use Rattle.cv_resolver.proofs.arrival.arrive.Goals as goal

pub returns-in_default-clause-found : goal.returns-in_default-clause-found
returns-in_default-clause-found c = λ t tree fits is own. absurd (some_row t c.args.spot.now c.args.catalogue.now tree fits is own (let e = c.in_default.ensures in e.row))

pub stat_line-requires : goal.stat_line-requires
stat_line-requires c = let e = c.in-Some.ensures in has_content c.args.catalogue.now c.in-Some.row.now c.args.spot.now.at e.rules e.row

pub content-requires : goal.content-requires
content-requires c = let e = c.in-Some.ensures in has_content c.args.catalogue.now c.in-Some.row.now c.args.spot.now.at e.rules e.row

pub returns-in-List-clause-found : goal.returns-in-List-clause-found
returns-in-List-clause-found c = λ t tree fits is own.
    let e = c.in-Some.ensures in
    let told = tells t c.args.spot.now c.args.catalogue.now c.in-Some.row.now c.args.spot.now.at tree fits is own e.row in
    subst (λ (f : Result Finding ClientFault). IfOk c.names.result (IsFoundBy f)) (sym (ap (λ (q : Question). found_at t q c.args.spot.now.at) c.in-List.is ∙ ap (names_at (names_in t c.args.spot.now.at)) told)) (c.names.ensures.found t tree fits is own)

pub returns-in_ok-line-in-Stat-clause-found : goal.returns-in_ok-line-in-Stat-clause-found
returns-in_ok-line-in-Stat-clause-found c = λ t tree fits is own.
    let e = c.in-Some.ensures in
    let told = tells t c.args.spot.now c.args.catalogue.now c.in-Some.row.now c.args.spot.now.at tree fits is own e.row in
    ap (λ (q : Question). found_at t q c.args.spot.now.at) c.in-Stat.is ∙ ap stat_at told ∙ ap (λ (l : StatLine). ok (Stat l)) (sym c.in_ok-line-in-Stat.ensures)

pub returns-in-Read-clause-found : goal.returns-in-Read-clause-found
returns-in-Read-clause-found c = λ t tree fits is own.
    let e = c.in-Some.ensures in
    let told = tells t c.args.spot.now c.args.catalogue.now c.in-Some.row.now c.args.spot.now.at tree fits is own e.row in
    subst (λ (f : Result Finding ClientFault). IsFoundBy f c.content.result) (sym (ap (λ (q : Question). found_at t q c.args.spot.now.at) c.in-Read.is ∙ ap content_at told)) c.content.ensures.found

pub returns-in-Read-clause-comes : goal.returns-in-Read-clause-comes
returns-in-Read-clause-comes c = let e = c.in-Some.ensures in c.content.ensures.comes c.args.catalogue.now (stands_contained e.row)

pub returns-in_default-clause-told : goal.returns-in_default-clause-told
returns-in_default-clause-told c = arrived_nothing c.args.catalogue.now c.args.question.now c.args.spot.now.at (let e = c.in_default.ensures in e.row)

pub returns-in-List-clause-told : goal.returns-in-List-clause-told
returns-in-List-clause-told c = let e = c.in-Some.ensures in
    arrived_as c.args.catalogue.now c.args.question.now _ c.args.spot.now.at c.names.result c.in-List.is (c.names.ensures.told _ e.row)

pub returns-in_ok-line-in-Stat-clause-told : goal.returns-in_ok-line-in-Stat-clause-told
returns-in_ok-line-in-Stat-clause-told c =
    let e = c.in-Some.ensures in
    subst (λ (q : Question). ArrivesAt c.args.catalogue.now q c.args.spot.now.at (Ends (Ok (found.Stat c.in_ok-line-in-Stat.line)))) (sym c.in-Stat.is)
    (arrived_stat c.args.catalogue.now c.in-Some.row.now c.args.spot.now.at _ e.row c.in_ok-line-in-Stat.line c.in_ok-line-in-Stat.ensures)

pub returns-in-Read-clause-told : goal.returns-in-Read-clause-told
returns-in-Read-clause-told c =
    let e = c.in-Some.ensures in
    subst (λ (q : Question). ArrivesAt c.args.catalogue.now q c.args.spot.now.at c.content.result) (sym c.in-Read.is) (c.content.ensures.told c.args.catalogue.now c.args.spot.now.at _ e.row)
