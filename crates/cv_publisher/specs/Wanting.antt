-- What a publisher wants in each stage.
use Rattle.std.specs.Prelude.{◌≡◌, ◌++◌, List, Option, Some}
use Rattle.cv_base.specs.declared.id.ObjectId.{ObjectId}
use Rattle.cv_base.specs.declared.object.Object.{Object}
use Rattle.cv_base.specs.declared.token.Token.{Token}
use Rattle.cv_http.specs.declared.outgoing.Outgoing.{Outgoing}
use Rattle.cv_keys.specs.declared.key.Key.{Key}
use Rattle.cv_checkout.specs.Wanting.{next_of}
use Rattle.cv_publisher.specs.Packing.{objects_at}
use Rattle.cv_publisher.specs.Requests.{SendsFront, cancel_request, commit_request, lease_request, manifest_request, object_request}
use Rattle.cv_publisher.specs.declared.plan.Plan.{Plan}
use Rattle.cv_publisher.specs.declared.stage.Stage.{Stage}
use Rattle.cv_publisher.specs.declared.stage.Stage.TheVariants.{Leasing, Reading, Fetching, Sending, Committing, Cancelling, Ended}
use Rattle.cv_publisher.specs.declared.want.Want.{Want}
use Rattle.cv_publisher.specs.declared.want.Want.TheVariants.{Exchange, Done}

-- the request for the catalogue that is wanted next
pub record AsksCatalogue (plan : Plan) (next : Option ObjectId) (want : Want) : Type 0 where
  pub id : ObjectId
  pub wanted : next ≡ Some id
  pub is : want ≡ Exchange (object_request plan id)

-- the request that sends the first of the objects that are left
pub record AsksPayload (keys : List Key) (plan : Plan) (token : Token) (os : List Object) (want : Want) : Type 0 where
  pub request : Outgoing
  pub sends : SendsFront keys plan token os request
  pub is : want ≡ Exchange request

-- what is wanted, under the first of these keys
abbrev pub Wants : List Key → Plan → Stage → Want → Type 0
Wants keys plan Leasing want = want ≡ Exchange (lease_request keys plan)
Wants keys plan (Reading token) want = want ≡ Exchange (manifest_request plan)
Wants keys plan (Fetching token base checkout) want = AsksCatalogue plan (next_of checkout.wanted) want
Wants keys plan (Sending offer catalogues left) want =
    AsksPayload keys plan offer.token (objects_at (plan.changes.objects ++ catalogues) left) want
Wants keys plan (Committing offer) want = want ≡ Exchange (commit_request keys plan offer.token offer.base offer.root)
Wants keys plan (Cancelling token fault) want = want ≡ Exchange (cancel_request keys plan token)
Wants keys plan (Ended end) want = want ≡ Done end
