-- What holds of the stages that follow a reply.
use Rattle.std.proofs.Common.{ℕ, Bool, List, [], ◌∷◌, ◌++◌, Option, Some, None, sym, subst}
use Rattle.std.specs.Prelude.{Result}
use Rattle.cv_base.specs.declared.object.Object.{Object}
use Rattle.cv_base.specs.declared.token.Token.{Token}
use Rattle.cv_http.specs.declared.http_reply.HttpReply.{HttpReply}
use Rattle.cv_answers.specs.declared.answer.Answer.{Answer}
use Rattle.cv_answers.specs.declared.answer.Answer.TheVariants.{Granted, Done, Committed, Leases, Repos, PathBusy, Refused}
use Rattle.cv_ports.specs.Shelf.{Shelf}
use Rattle.cv_tree.specs.Tree.{Nodes}
use Rattle.cv_overlay.specs.Overlay.{over}
use Rattle.cv_publisher.specs.Assembling.{Assembles, Sets, collides, is_bad, is_full, is_laid, is_orphan, is_set, unlaid, unset}
use Rattle.cv_publisher.specs.Holding.{IsHeld}
use Rattle.cv_publisher.specs.Packing.{AreSendable}
use Rattle.cv_publisher.specs.Replies.{answer_in}
use Rattle.cv_publisher.specs.Taking.{AfterCommit, AfterLease, commit_lost, commit_said, lease_lost, lease_said, behind_checkout, behind_commit, behind_lease, behind_payload, offer_of, sending}
use Rattle.cv_publisher.specs.declared.assembling.Delivery.{Delivery}
use Rattle.cv_publisher.specs.declared.fault.PublishFault.{PublishFault}
use Rattle.cv_publisher.specs.declared.plan.Plan.{Plan}
use Rattle.cv_publisher.specs.declared.stage.Offer.{Offer}
use Rattle.cv_publisher.specs.declared.stage.Stage.{Stage}

pub held_sending : (plan : Plan) (offer : Offer) (catalogues : List Object) (places : List ℕ) → AreSendable (plan.changes.objects ++ catalogues) places
    → IsHeld plan (sending offer catalogues places)
held_sending plan offer catalogues [] are = tt
held_sending plan offer catalogues (place ∷ places) are = record { some = λ none. cc; sendable = are }

pub held_payload : (plan : Plan) (offer : Offer) (catalogues : List Object) (rest : List ℕ) (said : Option Answer) → AreSendable (plan.changes.objects ++ catalogues) rest
    → IsHeld plan (behind_payload offer catalogues rest said)
held_payload plan offer catalogues rest None are = tt
held_payload plan offer catalogues rest (Some (Granted token revision root)) are = tt
held_payload plan offer catalogues rest (Some Done) are = held_sending plan offer catalogues rest are
held_payload plan offer catalogues rest (Some (Committed revision root)) are = tt
held_payload plan offer catalogues rest (Some (Leases items)) are = tt
held_payload plan offer catalogues rest (Some (Repos names)) are = tt
held_payload plan offer catalogues rest (Some (PathBusy token remaining)) are = tt
held_payload plan offer catalogues rest (Some (Refused refusal)) are = tt

held_answer : (plan : Plan) (said : Option Answer) → IsHeld plan (behind_lease said)
held_answer plan None = tt
held_answer plan (Some (Granted token revision root)) = tt
held_answer plan (Some Done) = tt
held_answer plan (Some (Committed revision root)) = tt
held_answer plan (Some (Leases items)) = tt
held_answer plan (Some (Repos names)) = tt
held_answer plan (Some (PathBusy token remaining)) = tt
held_answer plan (Some (Refused refusal)) = tt

pub held_lease : (plan : Plan) (reply : HttpReply) (next : Stage) → AfterLease reply next → IsHeld plan next
held_lease plan reply next (lease_said is) = subst (IsHeld plan) (sym is) (held_answer plan (answer_in reply))
held_lease plan reply next (lease_lost is) = subst (IsHeld plan) (sym is) tt

held_revision : (plan : Plan) (offer : Offer) (said : Option Answer) → IsHeld plan (behind_commit offer said)
held_revision plan offer None = tt
held_revision plan offer (Some (Granted token revision root)) = tt
held_revision plan offer (Some Done) = tt
held_revision plan offer (Some (Committed revision root)) = tt
held_revision plan offer (Some (Leases items)) = tt
held_revision plan offer (Some (Repos names)) = tt
held_revision plan offer (Some (PathBusy token remaining)) = tt
held_revision plan offer (Some (Refused refusal)) = tt

pub held_commit : (plan : Plan) (reply : HttpReply) (offer : Offer) (next : Stage) → AfterCommit reply offer next → IsHeld plan next
held_commit plan reply offer next (commit_said is) = subst (IsHeld plan) (sym is) (held_revision plan offer (answer_in reply))
held_commit plan reply offer next (commit_lost is) = subst (IsHeld plan) (sym is) tt

held_set : (plan : Plan) (token : Token) (from base : List ℕ) (fetched : Shelf) (part : Nodes) (r : Result Delivery PublishFault) → Sets plan base fetched part r
    → IsHeld plan (behind_checkout token from r)
held_set plan token from base fetched part r (is_set g d set delivers is) =
    subst (λ (x : Result Delivery PublishFault). IsHeld plan (behind_checkout token from x)) (sym is)
    (held_sending plan (offer_of token from d.root) d.catalogues d.places delivers.sendable)
held_set plan token from base fetched part r (collides a b set is) = subst (λ (x : Result Delivery PublishFault). IsHeld plan (behind_checkout token from x)) (sym is) tt
held_set plan token from base fetched part r (is_full c set is) = subst (λ (x : Result Delivery PublishFault). IsHeld plan (behind_checkout token from x)) (sym is) tt
held_set plan token from base fetched part r (unset is) = subst (λ (x : Result Delivery PublishFault). IsHeld plan (behind_checkout token from x)) (sym is) tt

pub held_checkout : (plan : Plan) (token : Token) (from base : List ℕ) (fetched : Shelf) (b : Nodes) (place : Bool) (r : Result Delivery PublishFault)
    → Assembles plan base fetched b place r → IsHeld plan (behind_checkout token from r)
held_checkout plan token from base fetched b place r (is_bad q least is) = subst (λ (x : Result Delivery PublishFault). IsHeld plan (behind_checkout token from x)) (sym is) tt
held_checkout plan token from base fetched b place r (is_orphan good lacks is) = subst (λ (x : Result Delivery PublishFault). IsHeld plan (behind_checkout token from x)) (sym is) tt
held_checkout plan token from base fetched b place r (is_laid good has sets) = held_set plan token from base fetched (over b plan.changes.nodes plan.moment) r sets
held_checkout plan token from base fetched b place r (unlaid is) = subst (λ (x : Result Delivery PublishFault). IsHeld plan (behind_checkout token from x)) (sym is) tt
