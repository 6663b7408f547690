-- What becomes of a publisher by the reply to what it asked.
use Rattle.std.specs.Prelude.{◌≡◌, ◌≢◌, ◌<◌, ◌++◌, ℕ, Bool, List, [], ◌∷◌, take, drop, Option, Some, None, IsSome, Result, Ok, Err}
use Rattle.std.specs.Option.{option_or}
use Rattle.cv_base.specs.declared.object.Object.{Object}
use Rattle.cv_base.specs.declared.token.Token.{Token}
use Rattle.cv_ports.specs.Objects.{shelf_of}
use Rattle.cv_http.specs.declared.code.TheConstants.{OK}
use Rattle.cv_http.specs.declared.http_reply.HttpReply.{HttpReply}
use Rattle.cv_answers.specs.declared.answer.Answer.{Answer}
use Rattle.cv_answers.specs.declared.answer.Answer.TheVariants as answer
use Rattle.cv_manifest.specs.Fault.{Shows}
use Rattle.cv_manifest.specs.Manifest.{Says}
use Rattle.cv_manifest.specs.declared.manifest.Manifest.{Manifest}
use Rattle.cv_manifest.specs.declared.manifest_fault.ManifestFault.{ManifestFault}
use Rattle.cv_tree.specs.Changes.{has_place, nodes_of, subtree_of}
use Rattle.cv_checkout.specs.Giving.{Gives}
use Rattle.cv_checkout.specs.Progress.{Progress, begun}
use Rattle.cv_checkout.specs.Wanting.{next_of}
use Rattle.cv_checkout.specs.declared.fault.CheckoutFault.{CheckoutFault}
use Rattle.cv_publisher.specs.Assembling.{Assembles}
use Rattle.cv_publisher.specs.Faults.{of_checkout, of_manifest}
use Rattle.cv_publisher.specs.Holding.{PublisherView}
use Rattle.cv_publisher.specs.Packing.{IsFront, objects_at}
use Rattle.cv_publisher.specs.Replies.{answer_in, fault_in, served_in}
use Rattle.cv_publisher.specs.declared.assembling.Delivery.{Delivery}
use Rattle.cv_publisher.specs.declared.fault.PublishFault.{PublishFault}
use Rattle.cv_publisher.specs.declared.fault.PublishFault.TheVariants.{BadReply, NoMemory}
use Rattle.cv_publisher.specs.declared.plan.Plan.{Plan}
use Rattle.cv_publisher.specs.declared.stage.Offer.{Offer}
use Rattle.cv_publisher.specs.declared.stage.Stage.{Stage}
use Rattle.cv_publisher.specs.declared.stage.Stage.TheVariants.{Leasing, Reading, Fetching, Sending, Committing, Cancelling, Ended}

-- ---- the lease: it was granted; else it ends with the fault of the reply. Where there is no memory to read the reply, the lease
-- isn't known, and it ends too.

abbrev pub behind_lease : Option Answer → Stage
behind_lease (Some (answer.Granted token revision root)) = Reading token
behind_lease said = Ended (Err (fault_in said))

pub data AfterLease (reply : HttpReply) (next : Stage) : Type 0 where
  lease_said : next ≡ behind_lease (answer_in reply) → AfterLease reply next
  lease_lost : next ≡ Ended (Err NoMemory) → AfterLease reply next

-- ---- the manifest: it is read, and the catalogues of its root are wanted; or it has a fault, or the reply has no manifest

pub data AfterManifest (is_seal : List ℕ → List ℕ → Bool) (reply : HttpReply) (plan : Plan) (token : Token) (read : Option Manifest) (next : Stage) : Type 0 where
  manifest_read : (m : Manifest) → reply.code ≡ OK → Says is_seal reply.body m → read ≡ Some m → next ≡ Fetching token m.head.root (begun m.head.root plan.path)
      → AfterManifest is_seal reply plan token read next
  manifest_bad : (f : ManifestFault) → reply.code ≡ OK → Shows is_seal reply.body f → read ≡ None → next ≡ Cancelling token (of_manifest f)
      → AfterManifest is_seal reply plan token read next
  manifest_unsaid : reply.code ≢ OK → read ≡ None → next ≡ Cancelling token BadReply → AfterManifest is_seal reply plan token read next
  manifest_lost : (m : Manifest) → reply.code ≡ OK → Says is_seal reply.body m → read ≡ Some m → next ≡ Cancelling token NoMemory
      → AfterManifest is_seal reply plan token read next

-- ---- a catalogue: another is wanted, or all that was fetched makes an offer; or the catalogue is refused, or the reply says nothing of it

abbrev pub offer_of : Token → List ℕ → List ℕ → Offer
offer_of token from to = record { token = token; base = from; root = to }

-- objects are sent while some are left, and then the commit follows
abbrev pub sending : Offer → List Object → List ℕ → Stage
sending offer catalogues [] = Committing offer
sending offer catalogues (place ∷ places) = Sending offer catalogues (place ∷ places)

abbrev pub behind_checkout : Token → List ℕ → Result Delivery PublishFault → Stage
behind_checkout token from (Ok d) = sending (offer_of token from d.root) d.catalogues d.places
behind_checkout token from (Err f) = Cancelling token f

-- assembled is what the catalogues that were fetched tell: themselves, what stands at the path, and whether it has a place
pub data AfterCheckout (plan : Plan) (token : Token) (from : List ℕ) (s : Progress) (next : Stage) : Type 0 where
  assembled : (r : Result Delivery PublishFault)
      → Assembles plan from (shelf_of s.objects) (nodes_of (subtree_of (nodes_of s.tree) s.path)) (has_place (nodes_of s.tree) s.path) r
      → next ≡ behind_checkout token from r → AfterCheckout plan token from s next
  unassembled : next ≡ Cancelling token NoMemory → AfterCheckout plan token from s next

pub data AfterCatalogue (reply : HttpReply) (plan : Plan) (token : Token) (from : List ℕ) (s : Progress) (next : Stage) : Type 0 where
  catalogue_more : (given : Option (List ℕ)) (s' : Progress) → served_in reply ≡ Some given → Gives s given s' (Ok tt) → IsSome (next_of s'.wanted)
      → next ≡ Fetching token from s' → AfterCatalogue reply plan token from s next
  catalogue_last : (given : Option (List ℕ)) (s' : Progress) → served_in reply ≡ Some given → Gives s given s' (Ok tt) → next_of s'.wanted ≡ None
      → AfterCheckout plan token from s' next → AfterCatalogue reply plan token from s next
  catalogue_refused : (given : Option (List ℕ)) (s' : Progress) (f : CheckoutFault) → served_in reply ≡ Some given → Gives s given s' (Err f)
      → next ≡ Cancelling token (of_checkout f) → AfterCatalogue reply plan token from s next
  catalogue_unsaid : served_in reply ≡ None → next ≡ Cancelling token BadReply → AfterCatalogue reply plan token from s next

-- ---- a payload: what it sent, one object at least, is no more left

abbrev pub behind_payload : Offer → List Object → List ℕ → Option Answer → Stage
behind_payload offer catalogues rest (Some answer.Done) = sending offer catalogues rest
behind_payload offer catalogues rest said = Cancelling offer.token (fault_in said)

pub data AfterPayload (reply : HttpReply) (all : List Object) (offer : Offer) (catalogues : List Object) (left : List ℕ) (next : Stage) : Type 0 where
  payload_said : (n : ℕ) → 0 < n → IsFront (objects_at all left) (objects_at all (take n left)) (objects_at all (drop n left))
      → next ≡ behind_payload offer catalogues (drop n left) (answer_in reply) → AfterPayload reply all offer catalogues left next
  payload_lost : next ≡ Cancelling offer.token NoMemory → AfterPayload reply all offer catalogues left next

-- ---- the commit: it ends with the revision

abbrev pub behind_commit : Offer → Option Answer → Stage
behind_commit offer (Some (answer.Committed revision root)) = Ended (Ok revision)
behind_commit offer said = Cancelling offer.token (fault_in said)

pub data AfterCommit (reply : HttpReply) (offer : Offer) (next : Stage) : Type 0 where
  commit_said : next ≡ behind_commit offer (answer_in reply) → AfterCommit reply offer next
  commit_lost : next ≡ Cancelling offer.token NoMemory → AfterCommit reply offer next

-- ---- any stage: the manifest that was read, and the next stage. After a cancel it ends with the first fault, whatever the reply
-- says; an end stays.

abbrev pub Steps : (List ℕ → List ℕ → Bool) → HttpReply → Plan → Stage → Option Manifest → Stage → Type 0
Steps is_seal reply plan Leasing read next = (read ≡ None) × AfterLease reply next
Steps is_seal reply plan (Reading token) read next = AfterManifest is_seal reply plan token read next
Steps is_seal reply plan (Fetching token from s) read next = (read ≡ None) × AfterCatalogue reply plan token from s next
Steps is_seal reply plan (Sending offer catalogues left) read next =
    (read ≡ None) × AfterPayload reply (plan.changes.objects ++ catalogues) offer catalogues left next
Steps is_seal reply plan (Committing offer) read next = (read ≡ None) × AfterCommit reply offer next
Steps is_seal reply plan (Cancelling token f) read next = (read ≡ None) × (next ≡ Ended (Err f))
Steps is_seal reply plan (Ended end) read next = (read ≡ None) × (next ≡ Ended end)

-- a publisher takes a reply: what it was made with stays, and so does the manifest, once it was read
pub record Takes (is_seal : List ℕ → List ℕ → Bool) (reply : HttpReply) (old new : PublisherView) : Type 0 where
  pub read : Option Manifest
  pub steps : Steps is_seal reply old.plan old.stage read new.stage
  pub plan_is : new.plan ≡ old.plan
  pub manifest_is : new.manifest ≡ option_or read old.manifest
