use Rattle.std.proofs.Common.{sym, ap, ◌∙◌}
use Rattle.std.specs.declared.result.Result.TheVariants.{Err}
use Rattle.cv_resolver.specs.StepInner.{stage_after}
use Rattle.cv_resolver.specs.declared.found.ClientFault.{ClientFault}
use Rattle.cv_resolver.specs.declared.stage.Stage.TheVariants.{Ends}
use Rattle.cv_resolver.proofs.Going.{none_left, some_left, arrived, arrived_step, stepped, stepped_on}
use Rattle.cv_resolver.proofs.Telling.{arrived_told, passed_told}
use Rattle.cv_resolver.proofs.progress.go.Goals as goal

pub returns-then-is_last-clause-stage : goal.returns-then-is_last-clause-stage
returns-then-is_last-clause-stage c = λ t tree fits own on.
    arrived c.args.repository.now t c.args.question.now c.arrive.result c.args.walk (none_left c.args.walk.names.items (sym c.is_last.ensures ∙ c.if-is_last.true)) on (c.arrive.ensures.found t tree fits on.0 own)

pub returns-then-is_last-clause-steps : goal.returns-then-is_last-clause-steps
returns-then-is_last-clause-steps c = arrived_step c.args.catalogue.now c.args.walk c.arrive.result c.arrive.ensures.comes

pub step_on-requires : goal.step_on-requires
step_on-requires c = some_left c.args.walk.names.items (sym c.is_last.ensures ∙ c.if-is_last.false)

pub returns-in-On-clause-stage : goal.returns-in-On-clause-stage
returns-in-On-clause-stage c = λ t tree fits own on.
    stepped c.args.repository.now t c.args.question.now c.is_stat.result c.args.walk c.in-On.walk c.in_ok-walk.field-0 c.is_stat.ensures c.in-On.is (let e = c.in_ok-walk.ensures in e.step t tree fits on.0 own) on

pub returns-in-On-clause-steps : goal.returns-in-On-clause-steps
returns-in-On-clause-steps c =
    let e = c.in_ok-walk.ensures in
    stepped_on c.args.catalogue.now c.args.walk c.in-On.walk c.in_ok-walk.field-0 c.in-On.is e.steps e.levels

pub returns-then-is_last-clause-told : goal.returns-then-is_last-clause-told
returns-then-is_last-clause-told c = λ rules.
    arrived_told c.args.repository.now c.args.question.now c.args.catalogue.now c.args.walk c.arrive.result (none_left c.args.walk.names.items (sym c.is_last.ensures ∙ c.if-is_last.true)) c.arrive.ensures.told

pub returns-in-On-clause-told : goal.returns-in-On-clause-told
returns-in-On-clause-told c = λ rules.
    let e = c.in_ok-walk.ensures in
    passed_told c.args.repository.now c.is_stat.result c.args.question.now c.args.catalogue.now c.args.walk c.in_ok-walk.field-0 _ c.is_stat.ensures (ap stage_after c.in-On.is) (sym c.is_last.ensures ∙ c.if-is_last.false) (e.told rules)

pub returns-in-Over-clause-told : goal.returns-in-Over-clause-told
returns-in-Over-clause-told c = λ rules.
    let e = c.in_ok-walk.ensures in
    passed_told c.args.repository.now c.is_stat.result c.args.question.now c.args.catalogue.now c.args.walk c.in_ok-walk.field-0 _ c.is_stat.ensures (ap stage_after c.in-Over.is ∙ ap (λ (f : ClientFault). Ends (Err f)) (sym c.refusal.ensures)) (sym c.is_last.ensures ∙ c.if-is_last.false) (e.told rules)
