use Rattle.std.proofs.Common.{ℕ, List, sym, subst}
use Rattle.cv_resolver.specs.Resolver.{IsOn}
use Rattle.cv_resolver.specs.Stage.{IsStage}
use Rattle.cv_resolver.proofs.Progressing.{own_begun}
use Rattle.cv_resolver.proofs.Resolving.{asks}
use Rattle.cv_resolver.proofs.resolver.Resolver.ask.Goals as goal

pub returns-clause-asks : goal.returns-clause-asks
returns-clause-asks c = asks c.args.self.now _ c.text.result.now c.args.question _ c.first_stage-stage.result c.self.view_is c.text.ensures.text c.first_stage-stage.ensures.begins

pub returns-clause-on : goal.returns-clause-on
returns-clause-on c = λ t asked_on.
    let on = subst (IsOn t) (sym c.self.view_is) asked_on in
    record {
      tree = on.tree;
      fits = on.fits;
      root = on.root;
      own = own_begun t _ _ _ _ _ _ c.first_stage-stage.ensures.begins on.own;
      asked = subst (λ (n : List ℕ). IsStage n t c.args.question c.first_stage-stage.result) c.text.ensures.text (c.first_stage-stage.ensures.stage t on.tree on.fits on.own on.root);
    }
