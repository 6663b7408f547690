-- How a talk goes on from each stage.
use Rattle.std.proofs.Common.{◌≡◌, ◌≢◌, ℕ, List, [], ◌∷◌, ◌++◌, map, take, drop, Option, Some, refl, sym, ap, ◌∙◌, subst}
use Rattle.std.specs.Prelude.{Result, Ok, Err}
use Rattle.std.specs.List.{AllZip}
use Rattle.cv_base.specs.declared.object.Object.{Object}
use Rattle.cv_base.specs.declared.token.Token.{Token}
use Rattle.cv_tree.specs.Tree.{Nodes}
use Rattle.cv_keys.specs.declared.key.Key.{Key}
use Rattle.cv_answers.specs.declared.answer.Answer.{Answer}
use Rattle.cv_answers.specs.declared.answer.Answer.TheVariants as answer
use Rattle.cv_manifest.specs.declared.manifest.Manifest.{Manifest}
use Rattle.cv_checkout.specs.declared.wanted.Wanted.{Wanted}
use Rattle.cv_publisher.specs.Holding.{PublisherView}
use Rattle.cv_publisher.specs.Packing.{IsFront, objects_at}
use Rattle.cv_publisher.specs.Replies.{answer_in, fault_in}
use Rattle.cv_publisher.specs.Requests.{SendsFront, cancel_request, payload_request}
use Rattle.cv_publisher.specs.Taking.{AfterPayload, payload_said, payload_lost, behind_payload, AfterCommit, commit_said, commit_lost, sending, Steps, Takes}
use Rattle.cv_publisher.specs.Talks as talks
use Rattle.cv_publisher.specs.Talks.{Exchanged, Talks, Errand, payload, commit, Terms, IsDone, Faults, Fails, Fetches, joined, AreFronts, Explains}
use Rattle.cv_publisher.specs.Wanting.{AsksPayload, Wants}
use Rattle.cv_publisher.specs.declared.fault.PublishFault.{PublishFault}
use Rattle.cv_publisher.specs.declared.fault.PublishFault.TheVariants as fault
use Rattle.cv_publisher.specs.declared.plan.Plan.{Plan}
use Rattle.cv_publisher.specs.declared.stage.Offer.{Offer}
use Rattle.cv_publisher.specs.declared.stage.Stage.{Stage}
use Rattle.cv_publisher.specs.declared.stage.Stage.TheVariants.{Committing, Cancelling, Ended}
use Rattle.cv_publisher.specs.declared.want.Want.TheVariants.{Exchange}
use Rattle.cv_publisher.proofs.Fronts.{same_front}
use Rattle.cv_publisher.proofs.Replying.{Seal, IsCommitted, is_committed, isnt_committed, commit_cases, IsStored, is_stored, isnt_stored, stored_cases}

abbrev pub End : Type 0
End = Result ℕ PublishFault

-- ---- a talk by its stages

-- from a stage exchanges lead to an end
abbrev pub Runs : Seal → List Key → Plan → Stage → List Exchanged → End → Type 0
Runs is_seal keys plan stage [] end = stage ≡ Ended end
Runs is_seal keys plan stage (e ∷ es) end =
    Wants keys plan stage (Exchange e.request) × ((read : Option Manifest) × (next : Stage) × Steps is_seal e.reply plan stage read next × Runs is_seal keys plan next es end)

pub runs_of : (is_seal : Seal) (keys : List Key) (p : PublisherView) (es : List Exchanged) (q : PublisherView) (end : End)
    → Talks is_seal keys p es q → q.stage ≡ Ended end → Runs is_seal keys p.plan p.stage es end
runs_of is_seal keys p [] q end same ended = ap (λ (v : PublisherView). v.stage) (sym same) ∙ ended
runs_of is_seal keys p (e ∷ es) q end t ended =
    let mid : PublisherView = t.1.0 in
    let took : Takes is_seal e.reply p mid = t.1.1 in
    (t.0, (took.read, mid.stage, took.steps, subst (λ (x : Plan). Runs is_seal keys x mid.stage es end) took.plan_is (runs_of is_seal keys mid es q end t.1.2 ended)))

-- ---- ends

-- an end has no more exchanges
pub record IsOver (es : List Exchanged) (was end : End) : Type 0 where
  pub none : es ≡ []
  pub same : end ≡ was

pub at_end : (is_seal : Seal) (keys : List Key) (plan : Plan) (was : End) (es : List Exchanged) (end : End) → Runs is_seal keys plan (Ended was) es end → IsOver es was end
at_end is_seal keys plan was [] end r = record { none = refl; same = cc }
at_end is_seal keys plan was (e ∷ es) end r = let over = r.0 in absurd cc

-- a cancel is the last exchange, and the end is the fault
pub record Cancels (keys : List Key) (plan : Plan) (token : Token) (f : PublishFault) (es : List Exchanged) (end : End) : Type 0 where
  pub last : Exchanged
  pub are : es ≡ last ∷ []
  pub asks : last.request ≡ cancel_request keys plan token
  pub told : end ≡ Err f

pub at_cancel : (is_seal : Seal) (keys : List Key) (plan : Plan) (token : Token) (f : PublishFault) (es : List Exchanged) (end : End)
    → Runs is_seal keys plan (Cancelling token f) es end → Cancels keys plan token f es end
at_cancel is_seal keys plan token f [] end r = absurd cc
at_cancel is_seal keys plan token f (e ∷ es) end r =
    let asked = r.0 in
    let over : IsOver es (Err f) end = at_end is_seal keys plan (Err f) es end (subst (λ (s : Stage). Runs is_seal keys plan s es end) r.1.2.1 r.1.3) in
    record { last = e; are = ap (λ (l : List Exchanged). e ∷ l) over.none; asks = cc; told = over.same }

-- errands were done in their order, one had the fault, and the lease was cancelled; before the commit all was as it must be
pub record Broken (is_seal : Seal) (keys : List Key) (plan : Plan) (W : Type 0) (wanted : List Wanted) (terms : Terms) (all : List Errand) (es : List Exchanged) (f : PublishFault) : Type 0 where
  pub done : List Errand
  pub failed : Errand
  pub todo : List Errand
  pub all_are : all ≡ done ++ failed ∷ todo
  pub before : List Exchanged
  pub last : Exchanged
  pub cancel : Exchanged
  pub are : es ≡ before ++ last ∷ cancel ∷ []
  pub done_are : AllZip (IsDone is_seal keys plan terms) done before
  pub left : List Wanted
  pub fetches : Fetches plan.path wanted done before left
  pub fails : Fails is_seal keys plan terms left failed f last
  pub cancels : cancel.request ≡ cancel_request keys plan terms.token
  pub whole : failed ≡ commit → W

-- errands were all done, or so
pub data Ends (is_seal : Seal) (keys : List Key) (plan : Plan) (W : Type 0) (wanted : List Wanted) (terms : Terms) (all : List Errand) (es : List Exchanged) (end : End) : Type 0 where
  whole : W → AllZip (IsDone is_seal keys plan terms) all es → Fetches plan.path wanted all es [] → end ≡ Ok terms.revision
      → Ends is_seal keys plan W wanted terms all es end
  broken : (f : PublishFault) → Broken is_seal keys plan W wanted terms all es f → end ≡ Err f → Ends is_seal keys plan W wanted terms all es end

-- what was fetched behind an errand was so behind it and the errand
abbrev pub IsBehind : Plan → List Wanted → List Wanted → Errand → Exchanged → Type 0
IsBehind plan wanted next errand e =
    (more : List Errand) (es : List Exchanged) (left : List Wanted) → Fetches plan.path next more es left → Fetches plan.path wanted (errand ∷ more) (e ∷ es) left

-- one more was done before
pub before : (is_seal : Seal) (keys : List Key) (plan : Plan) (W : Type 0) (wanted next : List Wanted) (terms : Terms) (errand : Errand) (all : List Errand) (e : Exchanged) (es : List Exchanged) (end : End)
    → IsBehind plan wanted next errand e → IsDone is_seal keys plan terms errand e → Ends is_seal keys plan W next terms all es end
    → Ends is_seal keys plan W wanted terms (errand ∷ all) (e ∷ es) end
before is_seal keys plan W wanted next terms errand all e es end behind first (whole w done fetches told) =
    whole w (first, done) (behind all es [] fetches) told
before is_seal keys plan W wanted next terms errand all e es end behind first (broken f b told) = broken f (record {
  done = errand ∷ b.done;
  failed = b.failed;
  todo = b.todo;
  all_are = ap (λ (l : List Errand). errand ∷ l) b.all_are;
  before = e ∷ b.before;
  last = b.last;
  cancel = b.cancel;
  are = ap (λ (l : List Exchanged). e ∷ l) b.are;
  done_are = (first, b.done_are);
  left = b.left;
  fetches = behind b.done b.before b.left b.fetches;
  fails = b.fails;
  cancels = b.cancels;
  whole = b.whole;
}) told

-- the first one had the fault
pub breaks : (is_seal : Seal) (keys : List Key) (plan : Plan) (W : Type 0) (wanted : List Wanted) (terms : Terms) (errand : Errand) (todo : List Errand) (f : PublishFault) (e : Exchanged) (es : List Exchanged) (end : End)
    → Fails is_seal keys plan terms wanted errand f e → (errand ≡ commit → W) → Runs is_seal keys plan (Cancelling terms.token f) es end
    → Ends is_seal keys plan W wanted terms (errand ∷ todo) (e ∷ es) end
breaks is_seal keys plan W wanted terms errand todo f e es end fails w r =
    let c : Cancels keys plan terms.token f es end = at_cancel is_seal keys plan terms.token f es end r in
    broken f (record {
      done = [];
      failed = errand;
      todo = todo;
      all_are = refl;
      before = [];
      last = e;
      cancel = c.last;
      are = ap (λ (l : List Exchanged). e ∷ l) c.are;
      done_are = tt;
      left = wanted;
      fetches = refl;
      fails = fails;
      cancels = c.asks;
      whole = w;
    }) c.told

-- what must be before the commit, said otherwise
pub rests : (is_seal : Seal) (keys : List Key) (plan : Plan) (V W : Type 0) (wanted : List Wanted) (terms : Terms) (all : List Errand) (es : List Exchanged) (end : End)
    → (V → W) → Ends is_seal keys plan V wanted terms all es end → Ends is_seal keys plan W wanted terms all es end
rests is_seal keys plan V W wanted terms all es end f (whole v done fetches told) = whole (f v) done fetches told
rests is_seal keys plan V W wanted terms all es end f (broken g b told) = broken g (record {
  done = b.done;
  failed = b.failed;
  todo = b.todo;
  all_are = b.all_are;
  before = b.before;
  last = b.last;
  cancel = b.cancel;
  are = b.are;
  done_are = b.done_are;
  left = b.left;
  fetches = b.fetches;
  fails = b.fails;
  cancels = b.cancels;
  whole = λ is. f (b.whole is);
}) told

-- ---- the commit

-- the end says nothing of a tree
abbrev pub IsPlain : Plan → End → Type 0
IsPlain plan end = (f : PublishFault) → end ≡ Err f → (t : Nodes) → Explains plan t f

plain_ok : (plan : Plan) (revision : ℕ) (end : End) → end ≡ Ok revision → IsPlain plan end
plain_ok plan revision end is f err t = absurd cc

pub plain_err : (plan : Plan) (g : PublishFault) (end : End) → end ≡ Err g → ((t : Nodes) → Explains plan t g) → IsPlain plan end
plain_err plan g end is plain f err t = let same : g ≡ f = cc in subst (Explains plan t) same (plain t)

fault_plain : (plan : Plan) (o : Option Answer) (t : Nodes) → Explains plan t (fault_in o)
fault_plain plan (Some (answer.PathBusy token remaining)) t = tt
fault_plain plan (Some (answer.Refused refusal)) t = tt
fault_plain plan other t = tt

-- how it ends from an offer on, of which these objects are left
pub record Sent (is_seal : Seal) (keys : List Key) (plan : Plan) (offer : Offer) (left : List Object) (es : List Exchanged) (end : End) : Type 0 where
  pub terms : Terms
  pub token_is : terms.token ≡ offer.token
  pub base_is : terms.base ≡ offer.base
  pub root_is : terms.root ≡ offer.root
  pub packs : List (List Object)
  pub rest : List Object
  pub all : joined packs rest ≡ left
  pub fronts : AreFronts packs rest
  pub ends : Ends is_seal keys plan (rest ≡ []) [] terms (map payload packs ++ commit ∷ []) es end
  pub plain : IsPlain plan end

abbrev terms_of : Offer → ℕ → Terms
terms_of offer revision = record { token = offer.token; base = offer.base; root = offer.root; revision = revision }

abbrev none : List Object
none = []

abbrev Nothing : Type 0
Nothing = none ≡ []

commit_sent : (is_seal : Seal) (keys : List Key) (plan : Plan) (offer : Offer) (es : List Exchanged) (end : End) (revision : ℕ)
    → IsPlain plan end → Ends is_seal keys plan Nothing [] (terms_of offer revision) (commit ∷ []) es end → Sent is_seal keys plan offer [] es end
commit_sent is_seal keys plan offer es end revision plain ends = record {
  terms = terms_of offer revision;
  token_is = refl;
  base_is = refl;
  root_is = refl;
  packs = [];
  rest = [];
  all = refl;
  fronts = tt;
  ends = ends;
  plain = plain;
}

commit_breaks : (is_seal : Seal) (keys : List Key) (plan : Plan) (offer : Offer) (f : PublishFault) (e : Exchanged) (es : List Exchanged) (end : End)
    → Wants keys plan (Committing offer) (Exchange e.request) → Faults is_seal plan [] e.reply f commit → ((t : Nodes) → Explains plan t f)
    → Runs is_seal keys plan (Cancelling offer.token f) es end → Sent is_seal keys plan offer [] (e ∷ es) end
commit_breaks is_seal keys plan offer f e es end asks told plain r =
    commit_sent is_seal keys plan offer (e ∷ es) end 0 (plain_err plan f end (at_cancel is_seal keys plan offer.token f es end r).told plain)
    (breaks is_seal keys plan Nothing [] (terms_of offer 0) commit [] f e es end (record { turn = refl; asks = cc; told = told }) (λ _. refl) r)

commit_after : (is_seal : Seal) (keys : List Key) (plan : Plan) (offer : Offer) (e : Exchanged) (es : List Exchanged) (end : End) (next : Stage)
    → Wants keys plan (Committing offer) (Exchange e.request) → AfterCommit e.reply offer next → Runs is_seal keys plan next es end
    → Sent is_seal keys plan offer [] (e ∷ es) end
commit_after is_seal keys plan offer e es end next asks (commit_lost is) r =
    commit_breaks is_seal keys plan offer fault.NoMemory e es end asks (talks.no_memory refl) (λ t. tt) (subst (λ (s : Stage). Runs is_seal keys plan s es end) is r)
commit_after is_seal keys plan offer e es end next asks (commit_said is) r = by (commit_cases offer (answer_in e.reply))
  where
    by : IsCommitted offer (answer_in e.reply) → Sent is_seal keys plan offer [] (e ∷ es) end
    by (is_committed revision root said goes) =
        let over : IsOver es (Ok revision) end = at_end is_seal keys plan (Ok revision) es end (subst (λ (s : Stage). Runs is_seal keys plan s es end) (is ∙ goes) r) in
        let first : IsDone is_seal keys plan (terms_of offer revision) commit e = record { asks = cc; served = (root, said) } in
        commit_sent is_seal keys plan offer (e ∷ es) end revision (plain_ok plan revision end over.same)
        (whole refl (first, subst (AllZip (IsDone is_seal keys plan (terms_of offer revision)) []) (sym over.none) tt) refl over.same)
    by (isnt_committed said goes) =
        commit_breaks is_seal keys plan offer (fault_in (answer_in e.reply)) e es end asks (talks.not_committed said refl) (fault_plain plan (answer_in e.reply))
        (subst (λ (s : Stage). Runs is_seal keys plan s es end) (is ∙ goes) r)

at_commit : (is_seal : Seal) (keys : List Key) (plan : Plan) (offer : Offer) (es : List Exchanged) (end : End)
    → Runs is_seal keys plan (Committing offer) es end → Sent is_seal keys plan offer [] es end
at_commit is_seal keys plan offer [] end r = absurd cc
at_commit is_seal keys plan offer (e ∷ es) end r = commit_after is_seal keys plan offer e es end r.1.1 r.0 r.1.2.1 r.1.3

-- ---- payloads

-- a pack was sent, and its reply had the fault
payload_breaks : (is_seal : Seal) (keys : List Key) (plan : Plan) (offer : Offer) (os pack rest : List Object) (f : PublishFault) (e : Exchanged) (es : List Exchanged) (end : End)
    → IsFront os pack rest → pack ≢ [] → e.request ≡ payload_request keys plan offer.token pack → Faults is_seal plan [] e.reply f (payload pack)
    → ((t : Nodes) → Explains plan t f) → Runs is_seal keys plan (Cancelling offer.token f) es end → Sent is_seal keys plan offer os (e ∷ es) end
payload_breaks is_seal keys plan offer os pack rest f e es end front some asks told plain r = record {
  terms = terms_of offer 0;
  token_is = refl;
  base_is = refl;
  root_is = refl;
  packs = pack ∷ [];
  rest = rest;
  all = sym front.split;
  fronts = (some, subst (λ (l : List Object). IsFront l pack rest) front.split front, tt);
  ends = breaks is_seal keys plan (rest ≡ []) [] (terms_of offer 0) (payload pack) (commit ∷ []) f e es end (record { turn = refl; asks = asks; told = told }) (λ is. absurd cc) r;
  plain = plain_err plan f end (at_cancel is_seal keys plan offer.token f es end r).told plain;
}

-- it was stored, and this came of the rest
payload_more : (is_seal : Seal) (keys : List Key) (plan : Plan) (offer : Offer) (os pack rest : List Object) (e : Exchanged) (es : List Exchanged) (end : End)
    → IsFront os pack rest → pack ≢ [] → e.request ≡ payload_request keys plan offer.token pack → answer_in e.reply ≡ Some answer.Done
    → Sent is_seal keys plan offer rest es end → Sent is_seal keys plan offer os (e ∷ es) end
payload_more is_seal keys plan offer os pack rest e es end front some asks said s =
    let all : joined (pack ∷ s.packs) s.rest ≡ os = ap (λ (l : List Object). pack ++ l) s.all ∙ sym front.split in
    record {
      terms = s.terms;
      token_is = s.token_is;
      base_is = s.base_is;
      root_is = s.root_is;
      packs = pack ∷ s.packs;
      rest = s.rest;
      all = all;
      fronts = (
        some,
        subst (λ (l : List Object). IsFront (joined (pack ∷ s.packs) s.rest) pack l) (sym s.all) (subst (λ (l : List Object). IsFront l pack rest) (sym all) front),
        s.fronts,
      );
      ends = before is_seal keys plan (s.rest ≡ []) [] [] s.terms (payload pack) (map payload s.packs ++ commit ∷ []) e es end (λ more later left fetched. fetched)
          (record { asks = asks ∙ ap (λ (t : Token). payload_request keys plan t pack) (sym s.token_is); served = said }) s.ends;
      plain = s.plain;
    }

payload_after : (is_seal : Seal) (keys : List Key) (plan : Plan) (offer : Offer) (catalogues : List Object) (left : List ℕ) (e : Exchanged) (es : List Exchanged) (end : End) (next : Stage)
    → ((left' : List ℕ) → Runs is_seal keys plan (sending offer catalogues left') es end
    → Sent is_seal keys plan offer (objects_at (plan.changes.objects ++ catalogues) left') es end)
    → AsksPayload keys plan offer.token (objects_at (plan.changes.objects ++ catalogues) left) (Exchange e.request)
    → AfterPayload e.reply (plan.changes.objects ++ catalogues) offer catalogues left next → Runs is_seal keys plan next es end
    → Sent is_seal keys plan offer (objects_at (plan.changes.objects ++ catalogues) left) (e ∷ es) end
payload_after is_seal keys plan offer catalogues left e es end next further asks after r = by after
  where
    all : List Object
    all = plan.changes.objects ++ catalogues

    sends : SendsFront keys plan offer.token (objects_at all left) asks.request
    sends = asks.sends

    asked : e.request ≡ payload_request keys plan offer.token sends.pack
    asked = let same = asks.is in let is = sends.is in cc

    on : (s : Stage) → next ≡ s → Runs is_seal keys plan s es end
    on s is = subst (λ (x : Stage). Runs is_seal keys plan x es end) is r

    said : (n : ℕ) → IsFront (objects_at all left) (objects_at all (take n left)) (objects_at all (drop n left))
        → next ≡ behind_payload offer catalogues (drop n left) (answer_in e.reply) → IsStored offer catalogues (drop n left) (answer_in e.reply)
        → Sent is_seal keys plan offer (objects_at all left) (e ∷ es) end
    said n front is (is_stored done goes) =
        let same : (objects_at all (take n left) ≡ sends.pack) × (objects_at all (drop n left) ≡ sends.rest) =
        same_front (objects_at all left) sends.pack sends.rest (objects_at all (take n left)) (objects_at all (drop n left)) sends.front front in
        payload_more is_seal keys plan offer (objects_at all left) sends.pack sends.rest e es end sends.front sends.some asked done
        (subst (λ (l : List Object). Sent is_seal keys plan offer l es end) same.1 (further (drop n left) (on (sending offer catalogues (drop n left)) (is ∙ goes))))
    said n front is (isnt_stored done goes) =
        payload_breaks is_seal keys plan offer (objects_at all left) sends.pack sends.rest (fault_in (answer_in e.reply)) e es end sends.front sends.some asked
        (talks.not_stored done refl) (fault_plain plan (answer_in e.reply)) (on (Cancelling offer.token (fault_in (answer_in e.reply))) (is ∙ goes))

    by : AfterPayload e.reply all offer catalogues left next → Sent is_seal keys plan offer (objects_at all left) (e ∷ es) end
    by (payload_said n some front is) = said n front is (stored_cases offer catalogues (drop n left) (answer_in e.reply))
    by (payload_lost is) =
        payload_breaks is_seal keys plan offer (objects_at all left) sends.pack sends.rest fault.NoMemory e es end sends.front sends.some asked
        (talks.no_memory refl) (λ t. tt) (on (Cancelling offer.token fault.NoMemory) is)

pub at_offer : (is_seal : Seal) (keys : List Key) (plan : Plan) (offer : Offer) (catalogues : List Object) (es : List Exchanged) (end : End) (left : List ℕ)
    → Runs is_seal keys plan (sending offer catalogues left) es end → Sent is_seal keys plan offer (objects_at (plan.changes.objects ++ catalogues) left) es end
at_offer is_seal keys plan offer catalogues es end [] r = at_commit is_seal keys plan offer es end r
at_offer is_seal keys plan offer catalogues [] end (place ∷ places) r = absurd cc
at_offer is_seal keys plan offer catalogues (e ∷ es) end (place ∷ places) r =
    payload_after is_seal keys plan offer catalogues (place ∷ places) e es end r.1.1
    (λ left' r'. at_offer is_seal keys plan offer catalogues es end left' r') r.0 r.1.2.1 r.1.3
