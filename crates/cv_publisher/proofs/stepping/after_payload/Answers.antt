use Rattle.std.proofs.Common.{◌≡◌, ◌≢◌, ◌∙◌, ℕ, ◌<◌, List, [], ◌++◌, Option, take, drop, sym, ap, subst}
use Rattle.cv_base.specs.declared.object.Object.{Object}
use Rattle.cv_http.specs.declared.http_reply.HttpReply.{HttpReply}
use Rattle.cv_answers.specs.declared.answer.Answer.{Answer}
use Rattle.cv_publisher.specs.Holding.{IsHeld, IsSending}
use Rattle.cv_publisher.specs.Packing.{AreSendable, IsFront, objects_at}
use Rattle.cv_publisher.specs.Replies.{answer_in}
use Rattle.cv_publisher.specs.Taking.{AfterPayload, behind_payload, payload_said}
use Rattle.cv_publisher.specs.declared.plan.Plan.{Plan}
use Rattle.cv_publisher.specs.declared.stage.Offer.{Offer}
use Rattle.cv_publisher.specs.declared.stage.Stage.{Stage}
use Rattle.cv_publisher.proofs.Held.{held_payload}
use Rattle.cv_publisher.proofs.Objects.{sendable_drop}
use Rattle.cv_publisher.proofs.stepping.after_payload.Goals as goal

abbrev Fronts : List Object → List ℕ → ℕ → Type 0
Fronts all ps n = IsFront (objects_at all ps) (objects_at all (take n ps)) (objects_at all (drop n ps))

said_by : (reply : HttpReply) (plan : Plan) (offer : Offer) (catalogues contents xs : List Object) (left ps rest : List ℕ) (n : ℕ) (answer : Option Answer) (next : Stage)
    → contents ≡ plan.changes.objects → xs ≡ catalogues → ps ≡ left → IsSending plan catalogues left → Fronts (contents ++ xs) ps n → (ps ≢ [] → 0 < n)
    → rest ≡ drop n left → answer ≡ answer_in reply → next ≡ behind_payload offer catalogues rest answer → AfterPayload reply (plan.changes.objects ++ catalogues) offer catalogues left next
said_by reply plan offer catalogues contents xs left ps rest n answer next whole same places sending front some behind is goes =
    let all : (contents ++ xs) ≡ plan.changes.objects ++ catalogues =
    ap (λ (os : List Object). os ++ xs) whole ∙ ap (λ (os : List Object). plan.changes.objects ++ os) same in
    payload_said n (some (λ none. sending.some (sym places ∙ none)))
    (subst (λ (qs : List ℕ). Fronts (plan.changes.objects ++ catalogues) qs n) places (subst (λ (os : List Object). Fronts os ps n) all front))
    (goes ∙ ap (λ (qs : List ℕ). behind_payload offer catalogues qs answer) behind ∙ ap (behind_payload offer catalogues (drop n left)) is)

pub returns-in-Ok-clause-after : goal.returns-in-Ok-clause-after
returns-in-Ok-clause-after c =
    said_by c.args.reply.now c.args.plan.now c.args.offer c.args.catalogues c.objects-contents.result.now c.as_slice.result.now c.args.left c.as_slice-2.result.now c.behind-rest.result.items
    c.front_of-count.result c.in-Ok.answer c.behind_payload.result c.objects-contents.ensures.value c.as_slice.ensures c.as_slice-2.ensures c.requires c.front_of-count.ensures.front
    c.front_of-count.ensures.some c.behind-rest.ensures c.in-Ok.ensures c.behind_payload.ensures

pub returns-in-Ok-clause-held : goal.returns-in-Ok-clause-held
returns-in-Ok-clause-held c =
    subst (IsHeld c.args.plan.now) (sym c.behind_payload.ensures)
    (held_payload c.args.plan.now c.args.offer c.args.catalogues c.behind-rest.result.items c.in-Ok.answer
    (subst (AreSendable (c.args.plan.now.changes.objects ++ c.args.catalogues)) (sym c.behind-rest.ensures)
    (sendable_drop (c.args.plan.now.changes.objects ++ c.args.catalogues) c.front_of-count.result c.args.left c.requires.sendable)))
