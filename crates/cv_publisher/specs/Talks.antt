-- What goes between a publisher and a server until it ends.
use Rattle.std.specs.Prelude.{◌≡◌, ◌≢◌, ◌⊎◌, ⊤, ℕ, Bool, true, false, List, [], ◌∷◌, ◌++◌, map, Some, None, Contains}
use Rattle.std.specs.List.{AllByRecursion, AllZip}
use Rattle.sha1.specs.Sha1.{sha1}
use Rattle.cv_base.specs.Path.{Path}
use Rattle.cv_base.specs.declared.id.ObjectId.{ObjectId}
use Rattle.cv_base.specs.declared.object.Object.{Object}
use Rattle.cv_base.specs.declared.token.Token.{Token}
use Rattle.cv_http.specs.declared.code.TheConstants.{NOT_FOUND, OK}
use Rattle.cv_http.specs.declared.http_reply.HttpReply.{HttpReply}
use Rattle.cv_http.specs.declared.outgoing.Outgoing.{Outgoing}
use Rattle.cv_keys.specs.declared.key.Key.{Key}
use Rattle.cv_answers.specs.declared.answer.Answer.TheVariants as answer
use Rattle.cv_manifest.specs.Fault.{Shows}
use Rattle.cv_manifest.specs.Manifest.{Says}
use Rattle.cv_manifest.specs.declared.manifest.Manifest.{Manifest}
use Rattle.cv_manifest.specs.declared.manifest_fault.ManifestFault.{ManifestFault}
use Rattle.cv_tree.specs.Changes.{has_place, nodes_of, subtree_of}
use Rattle.cv_tree.specs.Tree.{Nodes, IsTree, put}
use Rattle.cv_cut.specs.Catalogues.{root_of, Fits}
use Rattle.cv_cut.specs.Own.{AreOwn}
use Rattle.cv_cut.specs.Replaced.{FitsOver, IsFullOver, SharesOver}
use Rattle.cv_graft.specs.Placed.{placed_of}
use Rattle.cv_checkout.specs.InTree.{IsIdToward}
use Rattle.cv_checkout.specs.Wanting.{next_of, root_wanted}
use Rattle.cv_checkout.specs.declared.wanted.Wanted.{Wanted}
use Rattle.cv_overlay.specs.Answers.{HasNoBad}
use Rattle.cv_overlay.specs.Overlay.{over}
use Rattle.cv_overlay.specs.Whiteout.{IsLeastBad}
use Rattle.cv_publisher.specs.Faults.{of_manifest}
use Rattle.cv_publisher.specs.Fetching.{IsBadThere, IsGiven}
use Rattle.cv_publisher.specs.Holding.{PublisherView}
use Rattle.cv_publisher.specs.Packing.{AreInOrder, IsFront}
use Rattle.cv_publisher.specs.Replies.{answer_in, fault_in}
use Rattle.cv_publisher.specs.Requests.{cancel_request, commit_request, lease_request, manifest_request, object_request, payload_request}
use Rattle.cv_publisher.specs.Taking.{Takes}
use Rattle.cv_publisher.specs.Wanting.{Wants}
use Rattle.cv_publisher.specs.declared.fault.PublishFault.{PublishFault}
use Rattle.cv_publisher.specs.declared.fault.PublishFault.TheVariants as fault
use Rattle.cv_publisher.specs.declared.plan.Plan.{Plan}
use Rattle.cv_publisher.specs.declared.stage.Stage.TheVariants.{Leasing}
use Rattle.cv_publisher.specs.declared.want.Want.TheVariants.{Exchange}

-- ---- a talk

-- a request that was sent, and its reply
pub record Exchanged : Type 0 where
  pub request : Outgoing
  pub reply : HttpReply

-- how a publisher begins
abbrev pub begun : Plan → PublisherView
begun plan = record { plan = plan; manifest = None; stage = Leasing }

-- exchanges lead from one view of a publisher to another: it wanted each request, and took the reply
abbrev pub Talks : (List ℕ → List ℕ → Bool) → List Key → PublisherView → List Exchanged → PublisherView → Type 0
Talks is_seal keys p [] q = q ≡ p
Talks is_seal keys p (e ∷ es) q =
    Wants keys p.plan p.stage (Exchange e.request) × ((mid : PublisherView) × Takes is_seal e.reply p mid × Talks is_seal keys mid es q)

-- ---- errands

-- what a publisher asks a server for, or to do
pub data Errand : Type 0 where
  lease : Errand
  manifest : Errand
  catalogue : ObjectId → Errand
  payload : List Object → Errand
  commit : Errand

-- what is settled between them: the token of the lease, the root that the manifest names, the root that is offered in its place, and
-- the revision that it becomes
pub record Terms : Type 0 where
  pub token : Token
  pub base : List ℕ
  pub root : List ℕ
  pub revision : ℕ

-- the errands of a publication under its lease, in their order: the manifest, each of these catalogues, each of these packs, and
-- the commit
abbrev pub errands : List ObjectId → List (List Object) → List Errand
errands ids packs = manifest ∷ map catalogue ids ++ (map payload packs ++ commit ∷ [])

-- the request for an errand
abbrev pub request_for : List Key → Plan → Terms → Errand → Outgoing
request_for keys plan terms lease = lease_request keys plan
request_for keys plan terms manifest = manifest_request plan
request_for keys plan terms (catalogue id) = object_request plan id
request_for keys plan terms (payload pack) = payload_request keys plan terms.token pack
request_for keys plan terms commit = commit_request keys plan terms.token terms.base terms.root

-- the reply that was asked for: the lease was granted, a manifest is served under its seal, and bytes of the catalogue's digest; the
-- pack was stored, and the revision made
abbrev pub IsServed : (List ℕ → List ℕ → Bool) → Terms → Errand → HttpReply → Type 0
IsServed is_seal terms lease reply = (revision : ℕ) × (root : List ℕ) × (answer_in reply ≡ Some (answer.Granted terms.token revision root))
IsServed is_seal terms manifest reply = (m : Manifest) × (reply.code ≡ OK) × Says is_seal reply.body m × (terms.base ≡ m.head.root)
IsServed is_seal terms (catalogue id) reply = (reply.code ≡ OK) × (sha1 reply.body ≡ id.hash)
IsServed is_seal terms (payload pack) reply = answer_in reply ≡ Some answer.Done
IsServed is_seal terms commit reply = (root : List ℕ) × (answer_in reply ≡ Some (answer.Committed terms.revision root))

-- an errand was done by an exchange
pub record IsDone (is_seal : List ℕ → List ℕ → Bool) (keys : List Key) (plan : Plan) (terms : Terms) (errand : Errand) (e : Exchanged) : Type 0 where
  pub asks : e.request ≡ request_for keys plan terms errand
  pub served : IsServed is_seal terms errand e.reply

-- ---- the order of the catalogues

-- The exchanges for errands gave catalogues one after another, where these were wanted at first: each gave the first that was wanted
-- then, and those that it names were wanted before the others. At last these are left.
abbrev pub Fetches : Path → List Wanted → List Errand → List Exchanged → List Wanted → Type 0
Fetches p wanted [] es left = left ≡ wanted
Fetches p wanted (errand ∷ more) [] left = ⊥
Fetches p wanted (catalogue id ∷ more) (e ∷ es) left =
    (next : List Wanted) × IsGiven p wanted id e.reply.body next × Fetches p next more es left
Fetches p wanted (errand ∷ more) (e ∷ es) left = Fetches p wanted more es left

-- it is an errand's turn while these catalogues are wanted: a catalogue's where it is the first of them, a pack's and the commit's
-- where there are none
abbrev pub IsNext : List Wanted → Errand → Type 0
IsNext wanted (catalogue id) = next_of wanted ≡ Some id
IsNext wanted (payload pack) = wanted ≡ []
IsNext wanted commit = wanted ≡ []
IsNext wanted lease = ⊤
IsNext wanted manifest = ⊤

-- ---- faults

-- nothing can be made of the changes and what is there: the first whiteout that is bad; or else the path's parent is no directory, or
-- what would come of it passes a limit
pub data IsUnmade (plan : Plan) (f : PublishFault) : Type 0 where
  bad_whiteout : (q : Path) → IsLeastBad plan.changes.nodes q → f ≡ fault.BadWhiteout q → IsUnmade plan f
  no_parent : HasNoBad plan.changes.nodes → f ≡ fault.NoParent → IsUnmade plan f
  collides : (a b : Path) → HasNoBad plan.changes.nodes → f ≡ fault.PathCollision a b → IsUnmade plan f
  is_full : (c : Path) → HasNoBad plan.changes.nodes → f ≡ fault.CatalogueFull c → IsUnmade plan f

-- what the reply to an errand tells while these catalogues are wanted, where it isn't the one that was asked for, or where it gives the
-- last of them, and nothing can be made; or memory was wanted
pub data Faults (is_seal : List ℕ → List ℕ → Bool) (plan : Plan) (wanted : List Wanted) (reply : HttpReply) (f : PublishFault) : Errand → Type 0 where
  not_granted : ((token : Token) (revision : ℕ) (root : List ℕ) → answer_in reply ≢ Some (answer.Granted token revision root))
      → f ≡ fault_in (answer_in reply) → Faults is_seal plan wanted reply f lease
  no_manifest : reply.code ≢ OK → f ≡ fault.BadReply → Faults is_seal plan wanted reply f manifest
  bad_manifest : (g : ManifestFault) → reply.code ≡ OK → Shows is_seal reply.body g → f ≡ of_manifest g → Faults is_seal plan wanted reply f manifest
  no_catalogue : {id : ObjectId} → reply.code ≢ OK → reply.code ≢ NOT_FOUND → f ≡ fault.BadReply → Faults is_seal plan wanted reply f (catalogue id)
  not_served : {id : ObjectId} → reply.code ≡ NOT_FOUND → f ≡ fault.NotServed id → Faults is_seal plan wanted reply f (catalogue id)
  other_bytes : {id : ObjectId} → reply.code ≡ OK → sha1 reply.body ≢ id.hash → f ≡ fault.BadObject id (sha1 reply.body)
      → Faults is_seal plan wanted reply f (catalogue id)
  bad_catalogue : {id : ObjectId} → reply.code ≡ OK → IsBadThere wanted id reply.body → f ≡ fault.BadCatalogue id
      → Faults is_seal plan wanted reply f (catalogue id)
  unmade : {id : ObjectId} → reply.code ≡ OK → IsGiven plan.path wanted id reply.body [] → IsUnmade plan f
      → Faults is_seal plan wanted reply f (catalogue id)
  not_stored : {pack : List Object} → answer_in reply ≢ Some answer.Done → f ≡ fault_in (answer_in reply) → Faults is_seal plan wanted reply f (payload pack)
  not_committed : ((revision : ℕ) (root : List ℕ) → answer_in reply ≢ Some (answer.Committed revision root))
      → f ≡ fault_in (answer_in reply) → Faults is_seal plan wanted reply f commit
  no_memory : {errand : Errand} → f ≡ fault.NoMemory → Faults is_seal plan wanted reply f errand

-- an exchange for an errand in its turn, while these catalogues were wanted, had this fault
pub record Fails (is_seal : List ℕ → List ℕ → Bool) (keys : List Key) (plan : Plan) (terms : Terms) (wanted : List Wanted) (errand : Errand) (f : PublishFault) (e : Exchanged) : Type 0 where
  pub turn : IsNext wanted errand
  pub asks : e.request ≡ request_for keys plan terms errand
  pub told : Faults is_seal plan wanted e.reply f errand

-- ---- what is sent

-- the objects of packs, one after another, and then these
abbrev pub joined : List (List Object) → List Object → List Object
joined [] rest = rest
joined (pack ∷ packs) rest = pack ++ joined packs rest

-- each pack has some objects, and is the longest front of what is left that one pack takes
abbrev pub AreFronts : List (List Object) → List Object → Type 0
AreFronts [] rest = ⊤
AreFronts (pack ∷ packs) rest = (pack ≢ []) × IsFront (joined (pack ∷ packs) rest) pack (joined packs rest) × AreFronts packs rest

-- packs are sent, and the rest isn't: all are the contents of the changes and some catalogues, none of which was fetched, each id once,
-- in ascending order of the texts of their ids
pub record Sends (plan : Plan) (fetched : List ObjectId) (packs : List (List Object)) (rest : List Object) : Type 0 where
  pub catalogues : List Object
  pub unfetched : (o : Object) → Contains catalogues o → Contains fetched o.id → ⊥
  pub order : AreInOrder (plan.changes.objects ++ catalogues) (joined packs rest)
  pub fronts : AreFronts packs rest

-- ---- the tree that is served

-- the tree that becomes of t: the changes are laid over what it has at the path, and what comes of that is put there
abbrev pub changed : Plan → Nodes → Nodes
changed plan t = put t plan.path (over (nodes_of (subtree_of t plan.path)) plan.changes.nodes plan.moment)

-- the bodies of replies
abbrev pub bodies : List Exchanged → List (List ℕ)
bodies es = map (λ e. e.reply.body) es

-- the root is that of the tree, which fits, and no other bytes among those that were served have the SHA-1 of a catalogue of it
pub record IsServedOf (t : Nodes) (root : List ℕ) (es : List Exchanged) : Type 0 where
  pub tree : IsTree t
  pub fits : Fits t
  pub root_is : root ≡ root_of t
  pub own : AreOwn t (bodies es)

-- the path has a place in the tree, and the root is that of the changed tree, which fits where it is another
pub record Offers (plan : Plan) (t : Nodes) (root : List ℕ) : Type 0 where
  pub place : has_place t plan.path ≡ true
  pub fits : FitsOver (changed plan t) plan.path
  pub root_is : root ≡ root_of (changed plan t)

-- what a fault says of the tree: no catalogue of it is bad; the path has no place there; or in the changed tree two paths of one
-- catalogue share a key, or a catalogue is full
abbrev pub Explains : Plan → Nodes → PublishFault → Type 0
Explains plan t (fault.BadCatalogue id) = ⊥
Explains plan t fault.NoParent = has_place t plan.path ≡ false
Explains plan t (fault.PathCollision a b) = (has_place t plan.path ≡ true) × SharesOver (changed plan t) plan.path a b
Explains plan t (fault.CatalogueFull c) = (has_place t plan.path ≡ true) × IsFullOver (changed plan t) plan.path c
Explains plan t other = ⊤

-- of a tree that is served only catalogues on the way to the path and at and below it are asked for
abbrev pub AreToward : Plan → Terms → List ObjectId → List Exchanged → Type 0
AreToward plan terms ids es = (t : Nodes) → IsServedOf t terms.base es → AllByRecursion (IsIdToward t plan.path) ids

-- these are catalogues of the changed tree, at, below and above the path, and each such one is among them or was asked for
pub record Completes (plan : Plan) (t : Nodes) (ids : List ObjectId) (catalogues : List Object) : Type 0 where
  pub only : (o : Object) → Contains catalogues o → Contains (placed_of (changed plan t) plan.path).added o
  pub each : (o : Object) → Contains (placed_of (changed plan t) plan.path).added o → Contains catalogues o ⊎ Contains ids o.id

-- packs may be sent: no whiteout of the changes is bad, what is sent and the rest complete the changed tree, and the root is that of
-- this tree
pub record MaySend (plan : Plan) (terms : Terms) (ids : List ObjectId) (packs : List (List Object)) (rest : List Object) (es : List Exchanged) : Type 0 where
  pub good : HasNoBad plan.changes.nodes
  pub sends : Sends plan ids packs rest
  pub offers : (t : Nodes) → IsServedOf t terms.base es → Offers plan t terms.root
  pub completes : (t : Nodes) → IsServedOf t terms.base es → Completes plan t ids sends.catalogues

-- the commit may be asked: all that is to be sent was
abbrev pub IsReady : Plan → Terms → List ObjectId → List (List Object) → List Exchanged → Type 0
IsReady plan terms ids packs es = MaySend plan terms ids packs [] es

-- ---- how it ends

-- A revision was published: a lease was granted, and each errand was done under it in its order; catalogues were fetched from the
-- root's on until none was left.
pub record Published (is_seal : List ℕ → List ℕ → Bool) (keys : List Key) (plan : Plan) (es : List Exchanged) (revision : ℕ) : Type 0 where
  pub terms : Terms
  pub ids : List ObjectId
  pub packs : List (List Object)
  pub done : AllZip (IsDone is_seal keys plan terms) (lease ∷ errands ids packs) es
  pub fetches : Fetches plan.path (root_wanted terms.base ∷ []) (lease ∷ errands ids packs) es []
  pub revision_is : terms.revision ≡ revision
  pub toward : AreToward plan terms ids es
  pub ready : IsReady plan terms ids packs es

-- No lease was granted, or none could be read, and nothing else was asked.
pub record Unleased (is_seal : List ℕ → List ℕ → Bool) (keys : List Key) (plan : Plan) (es : List Exchanged) (f : PublishFault) : Type 0 where
  pub only : Exchanged
  pub are : es ≡ only ∷ []
  pub asks : only.request ≡ lease_request keys plan
  pub told : Faults is_seal plan [] only.reply f lease

-- A lease was granted, errands under it were done in their order, the next one had the fault, and then the lease was cancelled,
-- whatever the reply. Catalogues were fetched from the root's on, and these were left. Packs were sent only where they may be, and the
-- commit was asked only where it may be.
pub record Cancelled (is_seal : List ℕ → List ℕ → Bool) (keys : List Key) (plan : Plan) (es : List Exchanged) (f : PublishFault) : Type 0 where
  pub terms : Terms
  pub ids : List ObjectId
  pub packs : List (List Object)
  pub done : List Errand
  pub failed : Errand
  pub todo : List Errand
  pub errands_are : errands ids packs ≡ done ++ failed ∷ todo
  pub before : List Exchanged
  pub last : Exchanged
  pub cancel : Exchanged
  pub are : es ≡ before ++ last ∷ cancel ∷ []
  pub done_are : AllZip (IsDone is_seal keys plan terms) (lease ∷ done) before
  pub left : List Wanted
  pub fetches : Fetches plan.path (root_wanted terms.base ∷ []) (lease ∷ done) before left
  pub fails : Fails is_seal keys plan terms left failed f last
  pub cancels : cancel.request ≡ cancel_request keys plan terms.token
  pub toward : AreToward plan terms ids es
  pub sent : (packs ≡ []) ⊎ ((rest : List Object) × MaySend plan terms ids packs rest es)
  pub ready : failed ≡ commit → IsReady plan terms ids packs es
  pub explains : (t : Nodes) → IsServedOf t terms.base es → Explains plan t f
