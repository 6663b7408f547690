-- What replies say.
use Rattle.std.proofs.Common.{◌≡◌, ◌≢◌, ◌⊎◌, ℕ, Bool, List, ◌∷◌, Option, Some, None, refl, sym, ap, ◌∙◌, subst, inl, inr}
use Rattle.std.specs.Prelude.{Ok, Err, ◌==◌, true, false, if◌then◌else◌}
use Rattle.std.specs.List.{AllZip}
use Rattle.std.proofs.lemmas.Bool.{eqb-true, eqb-false}
use Rattle.sha1.specs.Sha1.{sha1}
use Rattle.cv_base.specs.Path.{Path}
use Rattle.cv_base.specs.declared.id.ObjectId.{ObjectId}
use Rattle.cv_base.specs.declared.object.Object.{Object}
use Rattle.cv_base.specs.declared.token.Token.{Token}
use Rattle.cv_http.specs.declared.http_reply.HttpReply.{HttpReply}
use Rattle.cv_answers.specs.declared.answer.Answer.{Answer}
use Rattle.cv_answers.specs.declared.answer.Answer.TheVariants as answer
use Rattle.cv_checkout.specs.Giving.{Gives, IsUnsuited, Takes}
use Rattle.cv_checkout.specs.Progress.{Progress}
use Rattle.cv_checkout.specs.Wanting.{IsNamed, Suits, next_of, id_of, toward}
use Rattle.cv_checkout.specs.declared.fault.CheckoutFault.{CheckoutFault}
use Rattle.cv_checkout.specs.declared.fault.CheckoutFault.TheVariants as checkout
use Rattle.cv_checkout.specs.declared.wanted.Wanted.{Wanted}
use Rattle.cv_publisher.specs.Faults.{of_checkout}
use Rattle.cv_publisher.specs.Fetching.{IsBadThere, IsGiven, IsOfFirst}
use Rattle.cv_publisher.specs.Replies.{fault_in, served_in}
use Rattle.cv_publisher.specs.Taking.{behind_lease, behind_payload, behind_commit, sending}
use Rattle.cv_publisher.specs.Talks as talks
use Rattle.cv_publisher.specs.Talks.{Faults, catalogue}
use Rattle.cv_publisher.specs.declared.fault.PublishFault.TheVariants as fault
use Rattle.cv_publisher.specs.declared.plan.Plan.{Plan}
use Rattle.cv_publisher.specs.declared.stage.Offer.{Offer}
use Rattle.cv_publisher.specs.declared.stage.Stage.TheVariants.{Reading, Cancelling, Ended}

abbrev pub Seal : Type 0
Seal = List ℕ → List ℕ → Bool

-- ---- answers

pub data IsGranted (o : Option Answer) : Type 0 where
  is_granted : (token : Token) (revision : ℕ) (root : List ℕ) → o ≡ Some (answer.Granted token revision root) → behind_lease o ≡ Reading token → IsGranted o
  isnt_granted : ((token : Token) (revision : ℕ) (root : List ℕ) → o ≢ Some (answer.Granted token revision root)) → behind_lease o ≡ Ended (Err (fault_in o)) → IsGranted o

pub lease_cases : (o : Option Answer) → IsGranted o
lease_cases (Some (answer.Granted token revision root)) = is_granted token revision root refl refl
lease_cases other = isnt_granted (λ token revision root is. absurd cc) refl

pub data IsCommitted (offer : Offer) (o : Option Answer) : Type 0 where
  is_committed : (revision : ℕ) (root : List ℕ) → o ≡ Some (answer.Committed revision root) → behind_commit offer o ≡ Ended (Ok revision) → IsCommitted offer o
  isnt_committed : ((revision : ℕ) (root : List ℕ) → o ≢ Some (answer.Committed revision root)) → behind_commit offer o ≡ Cancelling offer.token (fault_in o) → IsCommitted offer o

pub commit_cases : (offer : Offer) (o : Option Answer) → IsCommitted offer o
commit_cases offer (Some (answer.Committed revision root)) = is_committed revision root refl refl
commit_cases offer other = isnt_committed (λ revision root is. absurd cc) refl

pub data IsStored (offer : Offer) (catalogues : List Object) (rest : List ℕ) (o : Option Answer) : Type 0 where
  is_stored : o ≡ Some answer.Done → behind_payload offer catalogues rest o ≡ sending offer catalogues rest → IsStored offer catalogues rest o
  isnt_stored : o ≢ Some answer.Done → behind_payload offer catalogues rest o ≡ Cancelling offer.token (fault_in o) → IsStored offer catalogues rest o

pub stored_cases : (offer : Offer) (catalogues : List Object) (rest : List ℕ) (o : Option Answer) → IsStored offer catalogues rest o
stored_cases offer catalogues rest (Some answer.Done) = is_stored refl refl
stored_cases offer catalogues rest other = isnt_stored (λ is. absurd cc) refl

-- ---- what the reply for a catalogue says

pub data Serves (reply : HttpReply) (given : Option (List ℕ)) : Type 0 where
  has_bytes : reply.code ≡ 200 → given ≡ Some reply.body → Serves reply given
  has_none : reply.code ≡ 404 → given ≡ None → Serves reply given

pub record SaysNothing (reply : HttpReply) : Type 0 where
  pub other : reply.code ≢ 200
  pub neither : reply.code ≢ 404

picks : (a b : Bool) (body : List ℕ) (given : Option (List ℕ)) → (if a then Some (Some body) else (if b then Some None else None)) ≡ Some given
    → ((a ≡ true) × (given ≡ Some body)) ⊎ ((b ≡ true) × (given ≡ None))
picks true b body given is = inl (refl, cc)
picks false true body given is = inr (refl, cc)
picks false false body given is = absurd cc

pub serves : (reply : HttpReply) (given : Option (List ℕ)) → served_in reply ≡ Some given → Serves reply given
serves reply given is = elim (picks (reply.code == 200) (reply.code == 404) reply.body given is) [
  | inl bytes ↦ has_bytes (eqb-true reply.code 200 bytes.0) bytes.1
  | inr none ↦ has_none (eqb-true reply.code 404 none.0) none.1
]

picks_none : (a b : Bool) (body : List ℕ) → (if a then Some (Some body) else (if b then Some None else None)) ≡ None → (a ≡ false) × (b ≡ false)
picks_none true b body is = absurd cc
picks_none false true body is = absurd cc
picks_none false false body is = (refl, refl)

pub says_nothing : (reply : HttpReply) → served_in reply ≡ None → SaysNothing reply
says_nothing reply is =
    let neither : ((reply.code == 200) ≡ false) × ((reply.code == 404) ≡ false) = picks_none (reply.code == 200) (reply.code == 404) reply.body is in
    record { other = eqb-false reply.code 200 neither.0; neither = eqb-false reply.code 404 neither.1 }

-- its bytes were given
pub record IsGivenBy (reply : HttpReply) (bytes : List ℕ) : Type 0 where
  pub code : reply.code ≡ 200
  pub body : bytes ≡ reply.body

given_by : (reply : HttpReply) (given : Option (List ℕ)) (bytes : List ℕ) → served_in reply ≡ Some given → given ≡ Some bytes → IsGivenBy reply bytes
given_by reply given bytes says is = by (serves reply given says)
  where
    by : Serves reply given → IsGivenBy reply bytes
    by (has_bytes code body) = record { code = code; body = cc }
    by (has_none code none) = absurd cc

-- they have the digest of the catalogue that is wanted next
of_first : (wanted : List Wanted) (id : ObjectId) (bytes body : List ℕ) (first : Wanted) (rest : List Wanted) → wanted ≡ first ∷ rest → next_of wanted ≡ Some id
    → bytes ≡ body → sha1 bytes ≡ first.hash → IsOfFirst wanted id body
of_first wanted id bytes body first rest is next same digest =
    let one : Some (id_of first) ≡ Some id = ap next_of (sym is) ∙ next in
    record { first = first; others = rest; is = is; id_is = cc; digest = ap sha1 (sym same) ∙ digest }

-- a catalogue was taken
pub record IsCatalogue (p : Path) (s s' : Progress) (id : ObjectId) (reply : HttpReply) : Type 0 where
  pub code : reply.code ≡ 200
  pub is : IsGiven p s.wanted id reply.body s'.wanted

pub taken : (p : Path) (reply : HttpReply) (given : Option (List ℕ)) (s s' : Progress) (id : ObjectId) → served_in reply ≡ Some given → Gives s given s' (Ok tt)
    → next_of s.wanted ≡ Some id → s.path ≡ p → IsCatalogue p s s' id reply
unfolding of_first
taken p reply given s s' id says gives next path =
    let takes : Takes s gives.0 s' = gives.2 in
    let by : IsGivenBy reply gives.0 = given_by reply given gives.0 says gives.1 in
    record {
      code = by.code;
      is = record {
        answers = of_first s.wanted id gives.0 reply.body takes.first takes.rest takes.is next by.body takes.digest;
        contents = takes.contents;
        suits = subst (λ (b : List ℕ). Suits takes.first b takes.contents) by.body takes.suits;
        named = takes.named;
        names = subst (λ (q : Path). AllZip (IsNamed takes.contents) (toward q takes.contents) takes.named) path takes.names;
        left_are = takes.wanted_is;
      };
    }

-- its bytes have the digest of its id
pub given_digest : (p : Path) (wanted : List Wanted) (id : ObjectId) (bytes : List ℕ) (left : List Wanted) → IsGiven p wanted id bytes left → sha1 bytes ≡ id.hash
given_digest p wanted id bytes left is = is.answers.digest ∙ ap (λ (x : ObjectId). x.hash) (sym is.answers.id_is)

-- it was refused
bad_there : (s : Progress) (given : Option (List ℕ)) (reply : HttpReply) (id : ObjectId) (u : IsUnsuited s given) → next_of s.wanted ≡ Some id → IsGivenBy reply u.bytes
    → IsBadThere s.wanted id reply.body
unfolding of_first
bad_there s given reply id u next by = record {
  answers = of_first s.wanted id u.bytes reply.body u.first u.rest u.is next by.body u.digest;
  none = λ c suits. u.none c (subst (λ (b : List ℕ). Suits u.first b c) (sym by.body) suits);
}

pub refused : (is_seal : Seal) (plan : Plan) (reply : HttpReply) (given : Option (List ℕ)) (s s' : Progress) (id : ObjectId) (f : CheckoutFault)
    → served_in reply ≡ Some given → Gives s given s' (Err f) → next_of s.wanted ≡ Some id → Faults is_seal plan s.wanted reply (of_checkout f) (catalogue id)
refused is_seal plan reply given s s' id (checkout.NotServed x) says gives next = by (serves reply given says)
  where
    same : x ≡ id
    same = let own = gives.0 in cc

    by : Serves reply given → Faults is_seal plan s.wanted reply (fault.NotServed x) (catalogue id)
    by (has_bytes code body) = let none = gives.1 in absurd cc
    by (has_none code none) = talks.not_served code (ap (λ (y : ObjectId). fault.NotServed y) same)
refused is_seal plan reply given s s' id (checkout.BadObject x found) says gives next =
    let own = gives.0 in
    let same : x ≡ id = cc in
    let by : IsGivenBy reply gives.1.bytes = given_by reply given gives.1.bytes says gives.1.is in
    let is : found ≡ sha1 reply.body = gives.1.digest ∙ ap sha1 by.body in
    talks.other_bytes by.code (λ hash. gives.1.differs (is ∙ hash ∙ ap (λ (y : ObjectId). y.hash) (sym same)))
    (ap (λ (y : ObjectId). fault.BadObject y found) same ∙ ap (λ (b : List ℕ). fault.BadObject id b) is)
refused is_seal plan reply given s s' id (checkout.BadCatalogue x) says gives next =
    let own = gives.0 in
    let same : x ≡ id = cc in
    let by : IsGivenBy reply gives.1.bytes = given_by reply given gives.1.bytes says gives.1.gives in
    talks.bad_catalogue by.code (bad_there s given reply id gives.1 next by) (ap (λ (y : ObjectId). fault.BadCatalogue y) same)
refused is_seal plan reply given s s' id checkout.NoMemory says gives next = talks.no_memory refl
