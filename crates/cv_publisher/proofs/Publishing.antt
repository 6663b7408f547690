-- How a talk ends from its beginning.
use Rattle.std.proofs.Common.{◌≡◌, ◌⊎◌, ℕ, List, [], ◌∷◌, ◌++◌, map, Option, Some, None, refl, sym, ap, ◌∙◌, subst, inl, inr, append_assoc}
use Rattle.std.specs.Prelude.{Contains, Result, Ok, Err}
use Rattle.std.specs.List.{AllByRecursion}
use Rattle.std.proofs.lemmas.List.{map-append}
use Rattle.cv_base.specs.declared.id.ObjectId.{ObjectId}
use Rattle.cv_base.specs.declared.object.Object.{Object}
use Rattle.cv_base.specs.declared.token.Token.{Token}
use Rattle.cv_tree.specs.Tree.{Nodes}
use Rattle.cv_keys.specs.declared.key.Key.{Key}
use Rattle.cv_answers.specs.declared.answer.Answer.TheVariants as answer
use Rattle.cv_manifest.specs.declared.manifest.Manifest.{Manifest}
use Rattle.cv_manifest.specs.declared.manifest_fault.ManifestFault.{ManifestFault}
use Rattle.cv_manifest.specs.declared.manifest_fault.ManifestFault.TheVariants as manifest_fault
use Rattle.cv_checkout.specs.Giving.{Gives, Takes}
use Rattle.cv_checkout.specs.InTree.{IsIdToward}
use Rattle.cv_checkout.specs.Progress.{Progress, begun}
use Rattle.cv_checkout.specs.Wanting.{id_of, next_of, root_wanted}
use Rattle.cv_checkout.specs.declared.fault.CheckoutFault.{CheckoutFault}
use Rattle.cv_checkout.specs.declared.fault.CheckoutFault.TheVariants as checkout
use Rattle.cv_checkout.proofs.Lemmas.{none_wanted}
use Rattle.cv_ports.specs.Objects.{shelf_of}
use Rattle.cv_tree.specs.Changes.{has_place, nodes_of, subtree_of}
use Rattle.cv_overlay.specs.Answers.{HasNoBad}
use Rattle.cv_publisher.specs.Holding.{PublisherView}
use Rattle.cv_publisher.specs.Faults.{of_checkout, of_manifest}
use Rattle.cv_publisher.specs.Fetching.{IsGiven}
use Rattle.cv_publisher.specs.Packing.{AreInOrder, objects_at}
use Rattle.cv_publisher.specs.Replies.{answer_in, fault_in, served_in}
use Rattle.cv_publisher.specs.Requests.{object_request}
use Rattle.cv_publisher.specs.Taking.{AfterLease, lease_said, lease_lost, AfterManifest, manifest_read, manifest_bad, manifest_unsaid, manifest_lost, AfterCheckout, assembled, unassembled, AfterCatalogue, catalogue_more, catalogue_last, catalogue_refused, catalogue_unsaid, behind_checkout, offer_of}
use Rattle.cv_publisher.specs.Talks as talks
use Rattle.cv_publisher.specs.Talks.{Exchanged, Talks, Fails, lease, manifest, catalogue, payload, commit, Terms, errands, IsDone, Faults, Fetches, IsUnmade, Sends, bodies, AreToward, Completes, Explains, IsReady, MaySend, IsServedOf, Offers, Published, Unleased, Cancelled}
use Rattle.cv_publisher.specs.Wanting.{AsksCatalogue, Wants}
use Rattle.cv_publisher.specs.declared.assembling.Delivery.{Delivery}
use Rattle.cv_publisher.specs.declared.fault.PublishFault.{PublishFault}
use Rattle.cv_publisher.specs.declared.fault.PublishFault.TheVariants as fault
use Rattle.cv_publisher.specs.declared.plan.Plan.{Plan}
use Rattle.cv_publisher.specs.declared.stage.Stage.{Stage}
use Rattle.cv_publisher.specs.declared.stage.Stage.TheVariants.{Leasing, Reading, Fetching, Cancelling, Ended}
use Rattle.cv_publisher.specs.declared.want.Want.TheVariants.{Exchange}
use Rattle.cv_publisher.proofs.Missing.{ids_of, never_fetched}
use Rattle.cv_publisher.proofs.Replying.{Seal, IsCatalogue, SaysNothing, given_digest, says_nothing, taken, refused, IsGranted, is_granted, isnt_granted, lease_cases}
use Rattle.cv_publisher.proofs.Served.{Assembled, Comes, asks_toward, begins, comes_more, completed, explained, none_bad, offered, served_later}
use Rattle.cv_publisher.proofs.Unmade.{IsOrdered, made_in_order, unmade_by}
use Rattle.cv_publisher.proofs.Talking.{runs_of, End, Runs, IsOver, at_end, at_cancel, plain_err, Ends, whole, broken, before, breaks, rests, Sent, at_offer}

-- ---- catalogues

-- packs may be sent, by how far the checkout has come
record Readies (plan : Plan) (from : List ℕ) (s : Progress) (terms : Terms) (ids : List ObjectId) (packs : List (List Object)) (es : List Exchanged) (rest : List Object) : Type 0 where
  good : HasNoBad plan.changes.nodes
  sends : Sends plan (ids_of s.objects ++ ids) packs rest
  offers : (t : Nodes) → Comes t from s (bodies es) → Offers plan t terms.root
  completes : (t : Nodes) → Comes t from s (bodies es) → Completes plan t (ids_of s.objects ++ ids) sends.catalogues

-- none is sent, or they may be
abbrev NoneOr : List (List Object) → (List Object → Type 0) → Type 0
NoneOr packs May = (packs ≡ []) ⊎ ((rest : List Object) × May rest)

none_or : (packs : List (List Object)) (May Might : List Object → Type 0) → ((rest : List Object) → May rest → Might rest) → NoneOr packs May → NoneOr packs Might
none_or packs May Might f (inl none) = inl none
none_or packs May Might f (inr some) = inr (some.0, f some.0 some.1)

-- how it ends from the manifest on
record Fetched (is_seal : Seal) (keys : List Key) (plan : Plan) (token : Token) (from : List ℕ) (s : Progress) (es : List Exchanged) (end : End) : Type 0 where
  terms : Terms
  token_is : terms.token ≡ token
  base_is : terms.base ≡ from
  ids : List ObjectId
  packs : List (List Object)
  sent : NoneOr packs (Readies plan from s terms ids packs es)
  toward : (t : Nodes) → Comes t from s (bodies es) → AllByRecursion (IsIdToward t plan.path) ids
  explains : (f : PublishFault) → end ≡ Err f → (t : Nodes) → Comes t from s (bodies es) → Explains plan t f
  ends : Ends is_seal keys plan (Readies plan from s terms ids packs es []) s.wanted terms (map catalogue ids ++ (map payload packs ++ commit ∷ [])) es end

abbrev terms_at : Token → List ℕ → Terms
terms_at token from = record { token = token; base = from; root = []; revision = 0 }

fetch_breaks : (is_seal : Seal) (keys : List Key) (plan : Plan) (token : Token) (from : List ℕ) (s : Progress) (id : ObjectId) (f : PublishFault) (e : Exchanged) (es : List Exchanged) (end : End)
    → e.request ≡ object_request plan id → next_of s.wanted ≡ Some id → s.path ≡ plan.path → Faults is_seal plan s.wanted e.reply f (catalogue id)
    → ((t : Nodes) → Comes t from s (bodies (e ∷ es)) → Explains plan t f) → Runs is_seal keys plan (Cancelling token f) es end
    → Fetched is_seal keys plan token from s (e ∷ es) end
fetch_breaks is_seal keys plan token from s id f e es end asks next path told explains r = record {
  terms = terms_at token from;
  token_is = refl;
  base_is = refl;
  ids = id ∷ [];
  packs = [];
  sent = inl refl;
  toward = λ t c. (asks_toward plan t from s (bodies (e ∷ es)) id c next path, tt);
  explains = λ g err t c. subst (Explains plan t) (same g err) (explains t c);
  ends = breaks is_seal keys plan (Readies plan from s (terms_at token from) (id ∷ []) [] (e ∷ es) []) s.wanted (terms_at token from) (catalogue id) (commit ∷ []) f e es end
      (record { turn = next; asks = asks; told = told }) (λ is. absurd cc) r;
}
  where
    same : (g : PublishFault) → end ≡ Err g → f ≡ g
    same g err = let is : end ≡ Err f = (at_cancel is_seal keys plan token f es end r).told in cc

-- a reply was taken for the catalogue that is wanted next
record Took (plan : Plan) (s s' : Progress) (id : ObjectId) (e : Exchanged) : Type 0 where
  path : s.path ≡ plan.path
  given : Option (List ℕ)
  says : served_in e.reply ≡ Some given
  gives : Gives s given s' (Ok tt)
  wanted : next_of s.wanted ≡ Some id

took_on : (plan : Plan) (t : Nodes) (from : List ℕ) (s s' : Progress) (id : ObjectId) (e : Exchanged) (es : List Exchanged) → Took plan s s' id e → Comes t from s (bodies (e ∷ es)) → Comes t from s' (bodies es)
took_on plan t from s s' id e es took c = comes_more t from s s' e.reply took.given (bodies es) took.says took.gives c

took_one : (plan : Plan) (s s' : Progress) (id : ObjectId) (e : Exchanged) → Took plan s s' id e → IsCatalogue plan.path s s' id e.reply
took_one plan s s' id e took = taken plan.path e.reply took.given s s' id took.says took.gives took.wanted took.path

is_done : (is_seal : Seal) (keys : List Key) (plan : Plan) (terms : Terms) (s s' : Progress) (id : ObjectId) (e : Exchanged) → e.request ≡ object_request plan id → Took plan s s' id e
    → IsDone is_seal keys plan terms (catalogue id) e
is_done is_seal keys plan terms s s' id e asks took =
    let one : IsCatalogue plan.path s s' id e.reply = took_one plan s s' id e took in
    record { asks = asks; served = (one.code, given_digest plan.path s.wanted id e.reply.body s'.wanted one.is) }

-- its id comes behind those of what was given before
took_ids : (plan : Plan) (s s' : Progress) (id : ObjectId) (e : Exchanged) → Took plan s s' id e → ids_of s'.objects ≡ ids_of s.objects ++ id ∷ []
took_ids plan s s' id e took =
    let takes : Takes s took.gives.0 s' = took.gives.2 in
    let next : Some (id_of takes.first) ≡ Some id = ap next_of (sym takes.is) ∙ took.wanted in
    let one : id_of takes.first ≡ id = cc in
    ap ids_of takes.objects_are ∙ map-append (λ (o : Object). o.id) s.objects (record { id = id_of takes.first; bytes = took.gives.0 } ∷ [])
    ∙ ap (λ (x : ObjectId). ids_of s.objects ++ x ∷ []) one

-- what may be sent, by how far it had come before
readies_before : (plan : Plan) (from : List ℕ) (s s' : Progress) (terms : Terms) (id : ObjectId) (ids : List ObjectId) (packs : List (List Object)) (e : Exchanged) (es : List Exchanged) (rest : List Object)
    → Took plan s s' id e → Readies plan from s' terms ids packs es rest → Readies plan from s terms (id ∷ ids) packs (e ∷ es) rest
readies_before plan from s s' terms id ids packs e es rest took ready = record {
  good = ready.good;
  sends = record {
    catalogues = ready.sends.catalogues;
    unfetched = λ o has known. ready.sends.unfetched o has (subst (λ (l : List ObjectId). Contains l o.id) (sym same) known);
    order = ready.sends.order;
    fronts = ready.sends.fronts;
  };
  offers = λ t c. ready.offers t (took_on plan t from s s' id e es took c);
  completes = λ t c. subst (λ (l : List ObjectId). Completes plan t l ready.sends.catalogues) same (ready.completes t (took_on plan t from s s' id e es took c));
}
  where
    same : ids_of s'.objects ++ ids ≡ ids_of s.objects ++ id ∷ ids
    same = ap (λ (l : List ObjectId). l ++ ids) (took_ids plan s s' id e took) ∙ append_assoc (ids_of s.objects) (id ∷ []) ids

-- another is wanted
fetch_more : (is_seal : Seal) (keys : List Key) (plan : Plan) (token : Token) (from : List ℕ) (s s' : Progress) (id : ObjectId) (e : Exchanged) (es : List Exchanged) (end : End)
    → e.request ≡ object_request plan id → Took plan s s' id e → Fetched is_seal keys plan token from s' es end → Fetched is_seal keys plan token from s (e ∷ es) end
fetch_more is_seal keys plan token from s s' id e es end asks took f = record {
  terms = f.terms;
  token_is = f.token_is;
  base_is = f.base_is;
  ids = id ∷ f.ids;
  packs = f.packs;
  sent = none_or f.packs (Readies plan from s' f.terms f.ids f.packs es) (Readies plan from s f.terms (id ∷ f.ids) f.packs (e ∷ es))
      (λ rest. readies_before plan from s s' f.terms id f.ids f.packs e es rest took) f.sent;
  toward = λ t c. (asks_toward plan t from s (bodies (e ∷ es)) id c took.wanted took.path, f.toward t (took_on plan t from s s' id e es took c));
  explains = λ g err t c. f.explains g err t (took_on plan t from s s' id e es took c);
  ends = before is_seal keys plan (Readies plan from s f.terms (id ∷ f.ids) f.packs (e ∷ es) []) s.wanted s'.wanted f.terms (catalogue id) (map catalogue f.ids ++ (map payload f.packs ++ commit ∷ [])) e es end
      (λ more later left fetched. (s'.wanted, (took_one plan s s' id e took).is, fetched)) (is_done is_seal keys plan f.terms s s' id e asks took)
      (rests is_seal keys plan (Readies plan from s' f.terms f.ids f.packs es []) (Readies plan from s f.terms (id ∷ f.ids) f.packs (e ∷ es) []) s'.wanted f.terms
      (map catalogue f.ids ++ (map payload f.packs ++ commit ∷ [])) es end (readies_before plan from s s' f.terms id f.ids f.packs e es [] took) f.ends);
}

-- all makes an offer
fetch_ends : (is_seal : Seal) (keys : List Key) (plan : Plan) (token : Token) (from : List ℕ) (s s' : Progress) (d : Delivery) (id : ObjectId) (e : Exchanged) (es : List Exchanged) (end : End)
    → e.request ≡ object_request plan id → Took plan s s' id e → IsGiven plan.path s.wanted id e.reply.body [] → HasNoBad plan.changes.nodes → IsOrdered plan (shelf_of s'.objects) d
    → ((t : Nodes) → Comes t from s' (bodies es) → Offers plan t d.root)
    → ((t : Nodes) → Comes t from s' (bodies es) → Completes plan t (ids_of s'.objects) d.catalogues)
    → Sent is_seal keys plan (offer_of token from d.root) (objects_at (plan.changes.objects ++ d.catalogues) d.places) es end
    → Fetched is_seal keys plan token from s (e ∷ es) end
fetch_ends is_seal keys plan token from s s' d id e es end asks took given good ordered offers completes x = record {
  terms = x.terms;
  token_is = x.token_is;
  base_is = x.base_is;
  ids = id ∷ [];
  packs = x.packs;
  sent = inr (x.rest, ready);
  toward = λ t c. (asks_toward plan t from s (bodies (e ∷ es)) id c took.wanted took.path, tt);
  explains = λ g err t c. x.plain g err t;
  ends = before is_seal keys plan (Readies plan from s x.terms (id ∷ []) x.packs (e ∷ es) []) s.wanted [] x.terms (catalogue id) (map payload x.packs ++ commit ∷ []) e es end
      (λ more later left fetched. ([], given, fetched)) (is_done is_seal keys plan x.terms s s' id e asks took)
      (rests is_seal keys plan (x.rest ≡ []) (Readies plan from s x.terms (id ∷ []) x.packs (e ∷ es) []) [] x.terms (map payload x.packs ++ commit ∷ []) es end
      (λ none. subst (Readies plan from s x.terms (id ∷ []) x.packs (e ∷ es)) none ready) x.ends);
}
  where
    ready : Readies plan from s x.terms (id ∷ []) x.packs (e ∷ es) x.rest
    ready = record {
      good = good;
      sends = record {
        catalogues = d.catalogues;
        unfetched = λ o has known. never_fetched s'.objects ordered.made o (subst (λ (l : List Object). Contains l o) ordered.new has)
            (subst (λ (l : List ObjectId). Contains l o.id) (sym (took_ids plan s s' id e took)) known);
        order = subst (AreInOrder (plan.changes.objects ++ d.catalogues)) (sym x.all) ordered.order;
        fronts = x.fronts;
      };
      offers = λ t c. subst (λ (root : List ℕ). Offers plan t root) (sym x.root_is) (offers t (took_on plan t from s s' id e es took c));
      completes = λ t c. subst (λ (l : List ObjectId). Completes plan t l d.catalogues) (took_ids plan s s' id e took)
          (completes t (took_on plan t from s s' id e es took c));
    }

checkout_after : (is_seal : Seal) (keys : List Key) (plan : Plan) (token : Token) (from : List ℕ) (s s' : Progress) (id : ObjectId) (e : Exchanged) (es : List Exchanged) (end : End) (next : Stage)
    → e.request ≡ object_request plan id → Took plan s s' id e → next_of s'.wanted ≡ None → s'.path ≡ plan.path → AfterCheckout plan token from s' next
    → Runs is_seal keys plan next es end → Fetched is_seal keys plan token from s (e ∷ es) end
checkout_after is_seal keys plan token from s s' id e es end next asks took none path (unassembled is) r =
    fetch_breaks is_seal keys plan token from s id fault.NoMemory e es end asks took.wanted took.path (talks.no_memory refl)
    (λ t c. tt) (subst (λ (x : Stage). Runs is_seal keys plan x es end) is r)
checkout_after is_seal keys plan token from s s' id e es end next asks took none path (assembled r_ assembles is) r =
    by r_ assembles (subst (λ (x : Stage). Runs is_seal keys plan x es end) is r)
  where
    one : IsCatalogue plan.path s s' id e.reply
    one = took_one plan s s' id e took

    last : IsGiven plan.path s.wanted id e.reply.body []
    last = subst (IsGiven plan.path s.wanted id e.reply.body) (none_wanted s'.wanted none) one.is

    told : (f : PublishFault) → (f ≡ fault.NoMemory) ⊎ IsUnmade plan f → Faults is_seal plan s.wanted e.reply f (catalogue id)
    told f (inl lost) = talks.no_memory lost
    told f (inr why) = talks.unmade one.code last why

    by : (x : Result Delivery PublishFault) → Assembled plan from s' x → Runs is_seal keys plan (behind_checkout token from x) es end → Fetched is_seal keys plan token from s (e ∷ es) end
    by (Ok d) a go =
        let made = made_in_order plan from (shelf_of s'.objects) (nodes_of (subtree_of (nodes_of s'.tree) s'.path)) (has_place (nodes_of s'.tree) s'.path) (Ok d) d a refl in
        fetch_ends is_seal keys plan token from s s' d id e es end asks took last made.0 made.1
        (λ t c. offered plan t from s' (bodies es) d c none path a) (λ t c. completed plan t from s' (bodies es) d c none path a)
        (at_offer is_seal keys plan (offer_of token from d.root) d.catalogues es end d.places go)
    by (Err f) a go =
        let why : (f ≡ fault.NoMemory) ⊎ IsUnmade plan f =
        unmade_by plan from (shelf_of s'.objects) (nodes_of (subtree_of (nodes_of s'.tree) s'.path)) (has_place (nodes_of s'.tree) s'.path) (Err f) f a refl in
        fetch_breaks is_seal keys plan token from s id f e es end asks took.wanted took.path (told f why)
        (λ t c. explained plan t from s' (bodies es) f (took_on plan t from s s' id e es took c) none path a) go

-- what a refusal says of the tree
refusal_told : (plan : Plan) (t : Nodes) (from : List ℕ) (s s' : Progress) (e : Exchanged) (es : List Exchanged) (given : Option (List ℕ)) (f : CheckoutFault)
    → served_in e.reply ≡ Some given → Gives s given s' (Err f) → Comes t from s (bodies (e ∷ es)) → Explains plan t (of_checkout f)
refusal_told plan t from s s' e es given (checkout.BadCatalogue id) says gives c = none_bad t from s s' e.reply given (bodies es) id says gives c
refusal_told plan t from s s' e es given (checkout.NotServed id) says gives c = tt
refusal_told plan t from s s' e es given (checkout.BadObject id found) says gives c = tt
refusal_told plan t from s s' e es given checkout.NoMemory says gives c = tt

catalogue_after : (is_seal : Seal) (keys : List Key) (plan : Plan) (token : Token) (from : List ℕ) (s : Progress) (e : Exchanged) (es : List Exchanged) (end : End) (next : Stage)
    → ((s' : Progress) → s'.path ≡ plan.path → Runs is_seal keys plan (Fetching token from s') es end → Fetched is_seal keys plan token from s' es end)
    → s.path ≡ plan.path → AsksCatalogue plan (next_of s.wanted) (Exchange e.request) → AfterCatalogue e.reply plan token from s next → Runs is_seal keys plan next es end
    → Fetched is_seal keys plan token from s (e ∷ es) end
catalogue_after is_seal keys plan token from s e es end next further path asks after r = by after
  where
    asked : e.request ≡ object_request plan asks.id
    asked = let is = asks.is in cc

    on : (x : Stage) → next ≡ x → Runs is_seal keys plan x es end
    on x is = subst (λ (y : Stage). Runs is_seal keys plan y es end) is r

    took : (s' : Progress) (given : Option (List ℕ)) → served_in e.reply ≡ Some given → Gives s given s' (Ok tt) → Took plan s s' asks.id e
    took s' given says gives = record { path = path; given = given; says = says; gives = gives; wanted = asks.wanted }

    by : AfterCatalogue e.reply plan token from s next → Fetched is_seal keys plan token from s (e ∷ es) end
    by (catalogue_more given s' says gives more is) =
        fetch_more is_seal keys plan token from s s' asks.id e es end asked (took s' given says gives)
        (further s' (gives.2.path_is ∙ path) (on (Fetching token from s') is))
    by (catalogue_last given s' says gives none after_) =
        checkout_after is_seal keys plan token from s s' asks.id e es end next asked (took s' given says gives) none (gives.2.path_is ∙ path) after_ r
    by (catalogue_refused given s' f says gives is) =
        fetch_breaks is_seal keys plan token from s asks.id (of_checkout f) e es end asked asks.wanted path (refused is_seal plan e.reply given s s' asks.id f says gives asks.wanted)
        (λ t c. refusal_told plan t from s s' e es given f says gives c) (on (Cancelling token (of_checkout f)) is)
    by (catalogue_unsaid says is) =
        let neither : SaysNothing e.reply = says_nothing e.reply says in
        fetch_breaks is_seal keys plan token from s asks.id fault.BadReply e es end asked asks.wanted path (talks.no_catalogue neither.other neither.neither refl)
        (λ t c. tt) (on (Cancelling token fault.BadReply) is)

at_catalogue : (is_seal : Seal) (keys : List Key) (plan : Plan) (token : Token) (from : List ℕ) (es : List Exchanged) (end : End) (s : Progress)
    → s.path ≡ plan.path → Runs is_seal keys plan (Fetching token from s) es end → Fetched is_seal keys plan token from s es end
at_catalogue is_seal keys plan token from [] end s path r = absurd cc
at_catalogue is_seal keys plan token from (e ∷ es) end s path r =
    catalogue_after is_seal keys plan token from s e es end r.1.1 (λ s' path' r'. at_catalogue is_seal keys plan token from es end s' path' r') path r.0 r.1.2.1 r.1.3

-- ---- the manifest

-- how it ends from the lease on
record Leased (is_seal : Seal) (keys : List Key) (plan : Plan) (token : Token) (es : List Exchanged) (end : End) : Type 0 where
  terms : Terms
  token_is : terms.token ≡ token
  ids : List ObjectId
  packs : List (List Object)
  sent : NoneOr packs (λ rest. MaySend plan terms ids packs rest es)
  toward : AreToward plan terms ids es
  explains : (f : PublishFault) → end ≡ Err f → (t : Nodes) → IsServedOf t terms.base es → Explains plan t f
  ends : Ends is_seal keys plan (IsReady plan terms ids packs es) (root_wanted terms.base ∷ []) terms (errands ids packs) es end

manifest_breaks : (is_seal : Seal) (keys : List Key) (plan : Plan) (token : Token) (f : PublishFault) (e : Exchanged) (es : List Exchanged) (end : End)
    → Wants keys plan (Reading token) (Exchange e.request) → Faults is_seal plan (root_wanted [] ∷ []) e.reply f manifest → ((t : Nodes) → Explains plan t f) → Runs is_seal keys plan (Cancelling token f) es end
    → Leased is_seal keys plan token (e ∷ es) end
manifest_breaks is_seal keys plan token f e es end asks told plain r = record {
  terms = terms_at token [];
  token_is = refl;
  ids = [];
  packs = [];
  sent = inl refl;
  toward = λ t served. tt;
  explains = λ g err t served. is_plain g err t;
  ends = breaks is_seal keys plan (IsReady plan (terms_at token []) [] [] (e ∷ es)) (root_wanted [] ∷ []) (terms_at token []) manifest (commit ∷ []) f e es end (record { turn = tt; asks = cc; told = told }) (λ is. absurd cc) r;
}
  where
    is_plain : (g : PublishFault) → end ≡ Err g → (t : Nodes) → Explains plan t g
    is_plain = plain_err plan f end (at_cancel is_seal keys plan token f es end r).told plain

-- what a manifest's fault says of a tree: nothing
manifest_plain : (plan : Plan) (g : ManifestFault) (t : Nodes) → Explains plan t (of_manifest g)
manifest_plain plan manifest_fault.NoMemory t = tt
manifest_plain plan other t = tt

manifest_after : (is_seal : Seal) (keys : List Key) (plan : Plan) (token : Token) (e : Exchanged) (es : List Exchanged) (end : End) (read : Option Manifest) (next : Stage)
    → Wants keys plan (Reading token) (Exchange e.request) → AfterManifest is_seal e.reply plan token read next → Runs is_seal keys plan next es end
    → Leased is_seal keys plan token (e ∷ es) end
manifest_after is_seal keys plan token e es end read next asks (manifest_read m code says reads is) r =
    let start : Progress = begun m.head.root plan.path in
    let f : Fetched is_seal keys plan token m.head.root start es end =
    at_catalogue is_seal keys plan token m.head.root es end start refl (subst (λ (x : Stage). Runs is_seal keys plan x es end) is r) in
    let comes : (t : Nodes) → IsServedOf t f.terms.base (e ∷ es) → Comes t m.head.root start (bodies es) =
    λ t served. begins t f.terms.base m.head.root plan.path es f.base_is (served_later t f.terms.base e es served) in
    let opens : (rest : List Object) → Readies plan m.head.root start f.terms f.ids f.packs es rest → MaySend plan f.terms f.ids f.packs rest (e ∷ es) =
    λ rest ready. record {
      good = ready.good;
      sends = ready.sends;
      offers = λ t served. ready.offers t (comes t served);
      completes = λ t served. ready.completes t (comes t served);
    } in
    record {
      terms = f.terms;
      token_is = f.token_is;
      ids = f.ids;
      packs = f.packs;
      sent = none_or f.packs (Readies plan m.head.root start f.terms f.ids f.packs es) (λ rest. MaySend plan f.terms f.ids f.packs rest (e ∷ es)) opens f.sent;
      toward = λ t served. f.toward t (comes t served);
      explains = λ g err t served. f.explains g err t (comes t served);
      ends = before is_seal keys plan (IsReady plan f.terms f.ids f.packs (e ∷ es)) (root_wanted f.terms.base ∷ []) start.wanted f.terms manifest
          (map catalogue f.ids ++ (map payload f.packs ++ commit ∷ [])) e es end
          (λ more later left fetched. subst (λ (from : List ℕ). Fetches plan.path (root_wanted from ∷ []) more later left) (sym f.base_is) fetched)
          (record { asks = cc; served = (m, code, says, f.base_is) })
          (rests is_seal keys plan (Readies plan m.head.root start f.terms f.ids f.packs es []) (IsReady plan f.terms f.ids f.packs (e ∷ es)) start.wanted f.terms
          (map catalogue f.ids ++ (map payload f.packs ++ commit ∷ [])) es end (opens []) f.ends);
    }
manifest_after is_seal keys plan token e es end read next asks (manifest_bad g code shows reads is) r =
    manifest_breaks is_seal keys plan token (of_manifest g) e es end asks (talks.bad_manifest g code shows refl) (manifest_plain plan g) (subst (λ (x : Stage). Runs is_seal keys plan x es end) is r)
manifest_after is_seal keys plan token e es end read next asks (manifest_unsaid code reads is) r =
    manifest_breaks is_seal keys plan token fault.BadReply e es end asks (talks.no_manifest code refl) (λ t. tt) (subst (λ (x : Stage). Runs is_seal keys plan x es end) is r)
manifest_after is_seal keys plan token e es end read next asks (manifest_lost m code says reads is) r =
    manifest_breaks is_seal keys plan token fault.NoMemory e es end asks (talks.no_memory refl) (λ t. tt) (subst (λ (x : Stage). Runs is_seal keys plan x es end) is r)

at_manifest : (is_seal : Seal) (keys : List Key) (plan : Plan) (token : Token) (es : List Exchanged) (end : End)
    → Runs is_seal keys plan (Reading token) es end → Leased is_seal keys plan token es end
at_manifest is_seal keys plan token [] end r = absurd cc
at_manifest is_seal keys plan token (e ∷ es) end r = manifest_after is_seal keys plan token e es end r.1.0 r.1.1 r.0 r.1.2 r.1.3

-- ---- the lease

-- what comes of a talk
abbrev Story : Seal → List Key → Plan → List Exchanged → End → Type 0
Story is_seal keys plan es (Ok revision) = Published is_seal keys plan es revision
Story is_seal keys plan es (Err f) = Unleased is_seal keys plan es f ⊎ Cancelled is_seal keys plan es f

-- one more reply was before
toward_later : (plan : Plan) (terms : Terms) (ids : List ObjectId) (e : Exchanged) (es : List Exchanged) → AreToward plan terms ids es → AreToward plan terms ids (e ∷ es)
toward_later plan terms ids e es toward = λ t served. toward t (served_later t terms.base e es served)

sends_later : (plan : Plan) (terms : Terms) (ids : List ObjectId) (packs : List (List Object)) (e : Exchanged) (es : List Exchanged) (rest : List Object)
    → MaySend plan terms ids packs rest es → MaySend plan terms ids packs rest (e ∷ es)
sends_later plan terms ids packs e es rest ready = record {
  good = ready.good;
  sends = ready.sends;
  offers = λ t served. ready.offers t (served_later t terms.base e es served);
  completes = λ t served. ready.completes t (served_later t terms.base e es served);
}

story : (is_seal : Seal) (keys : List Key) (plan : Plan) (token : Token) (e : Exchanged) (es : List Exchanged) (end : End) (l : Leased is_seal keys plan token es end)
    → IsDone is_seal keys plan l.terms lease e → Ends is_seal keys plan (IsReady plan l.terms l.ids l.packs es) (root_wanted l.terms.base ∷ []) l.terms (errands l.ids l.packs) es end
    → Story is_seal keys plan (e ∷ es) end
story is_seal keys plan token e es (Ok revision) l first (whole ready done fetches told) =
    record { terms = l.terms; ids = l.ids; packs = l.packs; done = (first, done); fetches = fetches; revision_is = cc; toward = toward_later plan l.terms l.ids e es l.toward; ready = sends_later plan l.terms l.ids l.packs e es [] ready }
story is_seal keys plan token e es (Err f) l first (whole ready done fetches told) = absurd cc
story is_seal keys plan token e es (Ok revision) l first (broken g b told) = absurd cc
story is_seal keys plan token e es (Err f) l first (broken g b told) = inr (record {
  terms = l.terms;
  ids = l.ids;
  packs = l.packs;
  done = b.done;
  failed = b.failed;
  todo = b.todo;
  errands_are = b.all_are;
  before = e ∷ b.before;
  last = b.last;
  cancel = b.cancel;
  are = ap (λ (x : List Exchanged). e ∷ x) b.are;
  done_are = (first, b.done_are);
  left = b.left;
  fetches = b.fetches;
  fails = (let same : g ≡ f = cc in subst (λ (x : PublishFault). Fails is_seal keys plan l.terms b.left b.failed x b.last) same b.fails);
  cancels = b.cancels;
  toward = toward_later plan l.terms l.ids e es l.toward;
  sent = none_or l.packs (λ rest. MaySend plan l.terms l.ids l.packs rest es) (λ rest. MaySend plan l.terms l.ids l.packs rest (e ∷ es)) (sends_later plan l.terms l.ids l.packs e es) l.sent;
  ready = λ is. sends_later plan l.terms l.ids l.packs e es [] (b.whole is);
  explains = λ t served. l.explains f refl t (served_later t l.terms.base e es served);
})

unleased : (is_seal : Seal) (keys : List Key) (plan : Plan) (f : PublishFault) (e : Exchanged) (es : List Exchanged) (end : End)
    → Wants keys plan Leasing (Exchange e.request) → Faults is_seal plan [] e.reply f lease → IsOver es (Err f) end → Story is_seal keys plan (e ∷ es) end
unleased is_seal keys plan f e es (Ok revision) asks told over = let same = over.same in absurd cc
unleased is_seal keys plan f e es (Err g) asks told over =
    let same = over.same in
    let is : f ≡ g = cc in
    inl (record { only = e; are = ap (λ (x : List Exchanged). e ∷ x) over.none; asks = cc; told = subst (λ (x : PublishFault). Faults is_seal plan [] e.reply x lease) is told })

lease_after : (is_seal : Seal) (keys : List Key) (plan : Plan) (e : Exchanged) (es : List Exchanged) (end : End) (next : Stage)
    → Wants keys plan Leasing (Exchange e.request) → AfterLease e.reply next → Runs is_seal keys plan next es end → Story is_seal keys plan (e ∷ es) end
lease_after is_seal keys plan e es end next asks (lease_lost is) r =
    unleased is_seal keys plan fault.NoMemory e es end asks (talks.no_memory refl)
    (at_end is_seal keys plan (Err fault.NoMemory) es end (subst (λ (x : Stage). Runs is_seal keys plan x es end) is r))
lease_after is_seal keys plan e es end next asks (lease_said is) r = by (lease_cases (answer_in e.reply))
  where
    by : IsGranted (answer_in e.reply) → Story is_seal keys plan (e ∷ es) end
    by (is_granted token revision root said goes) =
        let l : Leased is_seal keys plan token es end = at_manifest is_seal keys plan token es end (subst (λ (x : Stage). Runs is_seal keys plan x es end) (is ∙ goes) r) in
        let granted : answer_in e.reply ≡ Some (answer.Granted l.terms.token revision root) =
        said ∙ ap (λ (t : Token). Some (answer.Granted t revision root)) (sym l.token_is) in
        story is_seal keys plan token e es end l (record { asks = cc; served = (revision, root, granted) }) l.ends
    by (isnt_granted said goes) =
        unleased is_seal keys plan (fault_in (answer_in e.reply)) e es end asks (talks.not_granted said refl)
        (at_end is_seal keys plan (Err (fault_in (answer_in e.reply))) es end (subst (λ (x : Stage). Runs is_seal keys plan x es end) (is ∙ goes) r))

at_lease : (is_seal : Seal) (keys : List Key) (plan : Plan) (es : List Exchanged) (end : End) → Runs is_seal keys plan Leasing es end → Story is_seal keys plan es end
at_lease is_seal keys plan [] end r = absurd cc
at_lease is_seal keys plan (e ∷ es) end r = lease_after is_seal keys plan e es end r.1.1 r.0 r.1.2.1 r.1.3

pub publishes : (is_seal : Seal) (keys : List Key) (plan : Plan) (es : List Exchanged) (q : PublisherView) (revision : ℕ)
    → Talks is_seal keys (talks.begun plan) es q → q.stage ≡ Ended (Ok revision) → Published is_seal keys plan es revision
publishes is_seal keys plan es q revision t ended = at_lease is_seal keys plan es (Ok revision) (runs_of is_seal keys (talks.begun plan) es q (Ok revision) t ended)

pub breaks_off : (is_seal : Seal) (keys : List Key) (plan : Plan) (es : List Exchanged) (q : PublisherView) (f : PublishFault)
    → Talks is_seal keys (talks.begun plan) es q → q.stage ≡ Ended (Err f) → Unleased is_seal keys plan es f ⊎ Cancelled is_seal keys plan es f
breaks_off is_seal keys plan es q f t ended = at_lease is_seal keys plan es (Err f) (runs_of is_seal keys (talks.begun plan) es q (Err f) t ended)
