use Rattle.std.proofs.Common.{◌≡◌, ◌∙◌, ℕ, Bool, List, Option, refl, ap, subst}
use Rattle.std.specs.Option.{option_or}
use Rattle.cv_http.specs.declared.http_reply.HttpReply.{HttpReply}
use Rattle.cv_manifest.specs.declared.manifest.Manifest.{Manifest}
use Rattle.cv_publisher.specs.Holding.{PublisherView}
use Rattle.cv_publisher.specs.Taking.{Steps, Takes}
use Rattle.cv_publisher.specs.declared.plan.Plan.{Plan}
use Rattle.cv_publisher.specs.declared.stage.Stage.{Stage}
use Rattle.cv_publisher.proofs.publisher.Publisher.take.Goals as goal

-- what follows the reply is taken
taken : (is_seal : List ℕ → List ℕ → Bool) (reply : HttpReply) (plan : Plan) (kept had read new : Option Manifest) (stage before next : Stage) (old : PublisherView)
    → ◌≡◌ {A = PublisherView} (record { plan = plan; manifest = had; stage = stage }) old → before ≡ stage → Steps is_seal reply plan before read next → kept ≡ had → new ≡ option_or read kept
    → Takes is_seal reply old (record { plan = plan; manifest = new; stage = next })
taken is_seal reply plan kept had read new stage before next old is same steps keeps or =
    subst (λ (p : PublisherView). Takes is_seal reply p (record { plan = plan; manifest = new; stage = next })) is (record {
      read = read;
      steps = subst (λ (s : Stage). Steps is_seal reply plan s read next) same steps;
      plan_is = refl;
      manifest_is = or ∙ ap (option_or read) keeps;
    })

pub invariant_of-self : goal.invariant_of-self
invariant_of-self g c = (c.self.invariant.0, c.follow-read.ensures.held)

pub returns : goal.returns
returns g c =
    taken (g.S.Signer.is_seal c.args.signer.now) c.args.reply c.self.inside.plan c.take.result c.self.inside.manifest c.follow-read.result.read c.or.result c.self.inside.stage c.replace-stage.result c.follow-read.result.stage
    c.args.self.now c.self.view_is c.replace-stage.ensures.value c.follow-read.ensures.steps c.take.ensures.value c.or.ensures
