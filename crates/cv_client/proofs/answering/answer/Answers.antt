use Rattle.std.proofs.Common.{ℕ, List, sym, ap, subst, ◌∙◌}
use Rattle.std.specs.Prelude.{Some}
use Rattle.std.specs.declared.result.Result.{Result}
use Rattle.std.specs.declared.result.Result.TheVariants.{Ok, Err}
use Rattle.cv_resolver.specs.declared.found.Found.{Found}
use Rattle.cv_resolver.specs.declared.found.ClientFault.{ClientFault}
use Rattle.cv_resolver.specs.Look.{IsAnswer, look}
use Rattle.cv_client.specs.Served.{HasWay}
use Rattle.cv_client.proofs.Coming.{cut_answer, whole_answer, has_answer}
use Rattle.cv_client.proofs.Supplying.{asks_well, asks_for, asks_as, ends_as, ends_for, whole, not_whole}
use Rattle.cv_client.proofs.answering.answer.Goals as goal

pub returns-in-Err-clause-answers : goal.returns-in-Err-clause-answers
returns-in-Err-clause-answers g c = rw c.of_exchange.ensures (cut_answer c.in-Err.fault c.ask.ensures.asks c.ask.ensures.on c.in-Err.ensures.gives)

pub unreachable-requires : goal.unreachable-requires
unreachable-requires g c = has_answer c.ask.ensures.asks c.in_default.ensures.gives (sym c.answer.ensures.told ∙ c.in-None.is)

pub returns-in-Some-Ok-clause-answers : goal.returns-in-Some-Ok-clause-answers
returns-in-Some-Ok-clause-answers g c =
    whole_answer (Ok c.in-Some-Ok.found) c.ask.ensures.asks c.ask.ensures.on c.in_default.ensures.gives (sym c.answer.ensures.told ∙ c.in-Some-Ok.is ∙ ap (λ (a : Result Found ClientFault). Some a) c.in-Some-Ok.field-0-is) c.answer.ensures.once c.answer.ensures.on
    (λ t asked on is. (rw c.in-Some-Ok.field-0-is at (c.in-Some-Ok.ensures.look t asked on is)))

pub returns-in-Some-Err-clause-answers : goal.returns-in-Some-Err-clause-answers
returns-in-Some-Err-clause-answers g c =
    rw c.of_client.ensures (whole_answer (Err c.in-Some-Err.fault) c.ask.ensures.asks c.ask.ensures.on c.in_default.ensures.gives (sym c.answer.ensures.told ∙ c.in-Some-Err.is ∙ ap (λ (a : Result Found ClientFault). Some a) c.in-Some-Err.field-0-is) c.answer.ensures.once c.answer.ensures.on
    (λ t asked on is. (rw c.in-Some-Err.field-0-is at (c.in-Some-Err.ensures.look t asked on is))))

pub returns-in-Err-clause-completes : goal.returns-in-Err-clause-completes
returns-in-Err-clause-completes g c = λ files s t on way.
    let asks = c.ask.ensures.asks in
    let so = c.in-Err.ensures.completes files s t c.args.question (c.ask.ensures.on t on) (asks_well c.faults_tell_what_was_given.ensures.asked asks) (asks_for asks)
    (subst (λ (name : List ℕ). HasWay files name t c.args.question) (sym (asks_as asks)) way) in
    rw c.of_exchange.ensures
    (not_whole (look c.args.resolver.now.name t c.args.question) t c.give_all.new.resolver c.in-Err.fault so)

pub returns-in-Some-Ok-clause-completes : goal.returns-in-Some-Ok-clause-completes
returns-in-Some-Ok-clause-completes g c = λ files s t on way.
    let asks = c.ask.ensures.asks in
    let so = c.in_default.ensures.completes files s t c.args.question (c.ask.ensures.on t on) (asks_well c.faults_tell_what_was_given.ensures.asked asks) (asks_for asks)
    (subst (λ (name : List ℕ). HasWay files name t c.args.question) (sym (asks_as asks)) way) in
    let told = sym c.answer.ensures.told ∙ c.in-Some-Ok.is ∙ ap (λ (a : Result Found ClientFault). Some a) c.in-Some-Ok.field-0-is in
    let is = rw c.in-Some-Ok.field-0-is at (c.in-Some-Ok.ensures.look t c.args.question so.0 (ends_for (asks_for asks) c.in_default.ensures.gives)) in
    (whole (look c.args.resolver.now.name t c.args.question) c.give_all.new.resolver.asked (Ok c.in-Some-Ok.found) told so.1
    (subst (λ (name : List ℕ). IsAnswer (look name t c.args.question) (Ok c.in-Some-Ok.found)) (ends_as c.in_default.ensures.gives ∙ asks_as asks) is))

pub returns-in-Some-Err-clause-completes : goal.returns-in-Some-Err-clause-completes
returns-in-Some-Err-clause-completes g c = λ files s t on way.
    let asks = c.ask.ensures.asks in
    let so = c.in_default.ensures.completes files s t c.args.question (c.ask.ensures.on t on) (asks_well c.faults_tell_what_was_given.ensures.asked asks) (asks_for asks)
    (subst (λ (name : List ℕ). HasWay files name t c.args.question) (sym (asks_as asks)) way) in
    let told = sym c.answer.ensures.told ∙ c.in-Some-Err.is ∙ ap (λ (a : Result Found ClientFault). Some a) c.in-Some-Err.field-0-is in
    let is = rw c.in-Some-Err.field-0-is at (c.in-Some-Err.ensures.look t c.args.question so.0 (ends_for (asks_for asks) c.in_default.ensures.gives)) in
    rw c.of_client.ensures (whole (look c.args.resolver.now.name t c.args.question) c.give_all.new.resolver.asked (Err c.in-Some-Err.fault) told so.1
    (subst (λ (name : List ℕ). IsAnswer (look name t c.args.question) (Err c.in-Some-Err.fault)) (ends_as c.in_default.ensures.gives ∙ asks_as asks) is))
