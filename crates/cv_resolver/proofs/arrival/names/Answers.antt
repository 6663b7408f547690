use Rattle.std.proofs.Common.{List, ℕ, sym, ap, subst, ◌∙◌}
use Rattle.std.specs.declared.result.Result.TheVariants.{Ok}
use Rattle.cv_resolver.specs.Look.{Names}
use Rattle.cv_resolver.proofs.Arriving.{names_found, ok}
use Rattle.cv_resolver.specs.Rows.{ArrivesAt}
use Rattle.cv_resolver.specs.declared.found.Found.TheVariants as found
use Rattle.cv_resolver.specs.declared.question.Question.TheVariants as question
use Rattle.cv_resolver.specs.declared.stage.Stage.TheVariants.{Ends}
use Rattle.cv_resolver.proofs.Telling.{arrived_names, arrived_no_directory}
use Rattle.cv_resolver.proofs.arrival.names.Goals as goal

pub returns-in_ok-names-in-Directory-clause-found : goal.returns-in_ok-names-in-Directory-clause-found
returns-in_ok-names-in-Directory-clause-found c = λ t tree fits is own.
    names_found t c.args.spot.now c.args.catalogue.now tree fits is own c.args.row.now c.in_ok-names-in-Directory.names.items c.requires c.in-Directory.ensures c.in_ok-names-in-Directory.ensures
    ∙ ap (λ (n : List (List ℕ)). ok (Names n)) (sym c.new.ensures)

pub returns-in_ok-names-in-Directory-clause-told : goal.returns-in_ok-names-in-Directory-clause-told
returns-in_ok-names-in-Directory-clause-told c = λ asked st.
    subst (λ (n : List (List ℕ)). ArrivesAt c.args.catalogue.now (question.List asked) c.args.spot.now.at (Ends (Ok (found.Names n)))) (sym c.new.ensures)
    (arrived_names c.args.catalogue.now c.args.row.now c.args.spot.now.at asked st c.in_ok-names-in-Directory.names.items c.in-Directory.ensures c.in_ok-names-in-Directory.ensures)

pub returns-in_default-clause-told : goal.returns-in_default-clause-told
returns-in_default-clause-told c = λ asked st.
    arrived_no_directory c.args.catalogue.now c.args.row.now c.args.spot.now.at asked st (λ e. c.in_default.not-Directory (c.entry_kind.ensures ∙ sym e))
