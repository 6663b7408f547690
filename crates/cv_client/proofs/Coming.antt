-- A client that is given what it wants, one object after another.
use Rattle.std.proofs.Common.{◌≡◌, ◌++◌, ◌<◌, ℕ, List, [], ◌∷◌, refl, sym, ap, subst, ◌∙◌}
use Rattle.std.specs.Prelude.{Option, Some, None, option_to_list}
use Rattle.std.proofs.lemmas.Option.{none-some}
use Rattle.std.specs.Option.{option_map}
use Rattle.std.specs.List.{Contains}
use Rattle.std.proofs.lemmas.List.Elements.{Contains-append_left, Contains-append_right}
use Rattle.cv_base.specs.ObjectId.{file_name}
use Rattle.cv_base.specs.declared.id.ObjectId.{ObjectId}
use Rattle.cv_tree.specs.Tree.{Nodes}
use Rattle.cv_resolver.specs.Kept.{AreOwn}
use Rattle.cv_resolver.specs.Look.{IsAnswer, look}
use Rattle.cv_resolver.specs.Giving.{Takes}
use Rattle.cv_resolver.specs.Progress.{wants_left}
use Rattle.cv_resolver.specs.Resolver.{Client, IsOn, Asks, Gives, question_of, wanted_in, answer_by, answer_in, left_by, left_in}
use Rattle.cv_resolver.specs.declared.found.Found.{Found}
use Rattle.cv_resolver.specs.declared.found.ClientFault.{ClientFault}
use Rattle.cv_resolver.specs.Stage.{wanted_by}
use Rattle.cv_resolver.specs.declared.stage.Stage.{Stage}
use Rattle.cv_resolver.specs.declared.stage.Stage.TheVariants.{Walks, Reads, Ends}
use Rattle.cv_resolver.specs.Kept.{Kept}
use Rattle.cv_resolver.specs.declared.question.Question.{Question}
use Rattle.cv_resolver.specs.declared.resolver.Asked.{Asked}
use Rattle.cv_client.specs.Exchange.{Links}
use Rattle.cv_client.specs.Fetch.{Fetches}
use Rattle.cv_client.specs.Answer.{Given, bytes_in, Comes, stays, goes, StaysOn, Answers, answered, cut as cut_off, told_by}
use Rattle.cv_client.specs.Faults.{lost_by}
use Rattle.cv_client.specs.GivingInner.{GoesOn, GivesAll, all, cut}
use Rattle.cv_client.specs.declared.exchanging.ExchangeFault.{ExchangeFault}
use Rattle.cv_client.specs.declared.url.Url.{Url}
use Rattle.std.specs.declared.result.Result.{Result}
use Rattle.std.specs.declared.result.Result.TheVariants.{Ok, Err}

-- ---- what was given

bytes_in-append : (a b : Given) → bytes_in (a ++ b) ≡ bytes_in a ++ bytes_in b
bytes_in-append [] b = refl
bytes_in-append (None ∷ a) b = bytes_in-append a b
bytes_in-append (Some x ∷ a) b = ap (λ (l : List (List ℕ)). x ∷ l) (bytes_in-append a b)

own_left : (t : Nodes) (a b : Given) → AreOwn t (bytes_in (a ++ b)) → AreOwn t (bytes_in a)
own_left t a b own = record {
  own = λ bytes c there cut same. own.own bytes c (subst (λ (l : List (List ℕ)). Contains l bytes) (sym (bytes_in-append a b)) (Contains-append_left (bytes_in a) (bytes_in b) bytes there)) cut same;
}

own_right : (t : Nodes) (a b : Given) → AreOwn t (bytes_in (a ++ b)) → AreOwn t (bytes_in b)
own_right t a b own = record {
  own = λ bytes c there cut same. own.own bytes c (subst (λ (l : List (List ℕ)). Contains l bytes) (sym (bytes_in-append a b)) (Contains-append_right (bytes_in a) (bytes_in b) bytes there)) cut same;
}

-- one object more
pub comes_more : {u : Url} {l mid l' : Links} {r r' next : Client} {given : Given} (a : Asked) (id : ObjectId) (x : Option (List ℕ)) → Comes u l r given mid r'
    → r'.asked ≡ Some a → wanted_in r'.asked ≡ Some id → Fetches u (file_name id) mid l' (Ok x) → Gives r' a x next → Comes u l r (given ++ x ∷ []) l' next
comes_more a id x stays asked wants fetches gives = goes a id x asked wants fetches gives stays
comes_more a id x (goes b first given was wanted fetched gave more) asked wants fetches gives = goes b first given was wanted fetched gave (comes_more a id x more asked wants fetches gives)

-- and in a tree it stays on its way
pub stays_more : (r r' next : Client) (given : Given) (x : Option (List ℕ)) → StaysOn r given r' → ((t : Nodes) → IsOn t r' → AreOwn t (bytes_in (x ∷ [])) → IsOn t next)
    → StaysOn r (given ++ x ∷ []) next
stays_more r r' next given x before then = λ t on own. then t (before t on (own_left t given (x ∷ []) own)) (own_right t given (x ∷ []) own)

-- a client that wants an object is asked a question, which stays the same
pub asked_still : {u : Url} {l l' : Links} {r r' : Client} {given : Given} (q : Question) → Comes u l r given l' r' → question_of r ≡ Some q → question_of r' ≡ Some q
asked_still q stays is = is
asked_still q (goes a id given asked wants fetches gives more) is =
    asked_still q more (ap question_of gives.is ∙ sym (ap (λ (o : Option Asked). option_map (λ (a : Asked). a.question) o) asked) ∙ is)

-- and it keeps its name
pub named_still : {u : Url} {l l' : Links} {r r' : Client} {given : Given} → Comes u l r given l' r' → r'.name ≡ r.name
named_still stays = refl
named_still (goes a id given asked wants fetches gives more) = named_still more ∙ ap (λ (r : Client). r.name) gives.is

-- ---- the loop

pub asked_of : (o : Option Asked) (id : ObjectId) → wanted_in o ≡ Some id → (a : Asked) × (o ≡ Some a)
asked_of None id is = absurd (none-some id is)
asked_of (Some a) id is = (a, refl)

-- what is given by one object
one_given : (x : Option (List ℕ)) → bytes_in (x ∷ []) ≡ option_to_list x
one_given None = refl
one_given (Some bytes) = refl

-- nothing was given yet
pub begins : {u : Url} {l : Links} {r : Client} → GoesOn u l l r r
begins = record { given = []; comes = stays; on = λ t on own. on }

-- one object more was given
pub goes_on : {u : Url} {l mid l' : Links} {r r' next : Client} (id : ObjectId) (x : Option (List ℕ)) → GoesOn u l mid r r' → wanted_in r'.asked ≡ Some id → Fetches u (file_name id) mid l' (Ok x)
    → ((a : Asked) → r'.asked ≡ Some a → Gives r' a x next) → ((t : Nodes) → IsOn t r' → AreOwn t (option_to_list x) → IsOn t next) → GoesOn u l l' r next
goes_on {r = r} {r' = r'} {next = next} id x gone wants fetches gives on =
    let a = asked_of r'.asked id wants in record {
      given = gone.given ++ x ∷ [];
      comes = comes_more a.0 id x gone.comes a.1 wants fetches (gives a.0 a.1);
      on = stays_more r r' next gone.given x gone.on (λ t is own. on t is (subst (AreOwn t) (one_given x) own));
    }

-- how many objects a question still wants at most
abbrev pub left_of : Option Asked → ℕ
left_of None = 0
left_of (Some a) = wants_left a.stage

pub fewer_left : {r next : Client} {x : Option (List ℕ)} (id : ObjectId)
    → ((name : List ℕ) (q : Question) (k after : Kept) (was s : Stage) (given : Option (List ℕ)) → Takes name q k was given after s → wants_left s < wants_left was)
    → wanted_in r.asked ≡ Some id → ((a : Asked) → r.asked ≡ Some a → Gives r a x next) → left_of next.asked < left_of r.asked
fewer_left {r} {next} {x} id law wants gives =
    let a = asked_of r.asked id wants in
    let g = gives a.0 a.1 in
    let less : wants_left g.stage < wants_left a.0.stage = law _ _ _ _ _ _ _ g.takes in
    let now : left_of next.asked ≡ wants_left g.stage = ap (λ (c : Client). left_of c.asked) g.is in
    let before : left_of r.asked ≡ wants_left a.0.stage = ap left_of a.1 in
    subst (λ (n : ℕ). n < left_of r.asked) (sym now) (subst (λ (n : ℕ). wants_left g.stage < n) (sym before) less)

-- ---- the answer

pub cut_answer : {u : Url} {q : Question} {l l' : Links} {r start r' : Client} (fault : ExchangeFault) → Asks r q start → ((t : Nodes) → IsOn t r → IsOn t start)
    → GivesAll u l l' start r' (Err fault) → Answers u q l l' r r' (Err (lost_by fault))
cut_answer {start = start} fault asks on (cut mid id _ gone wants fetches) = cut_off start gone.given mid id fault asks gone.comes wants fetches (λ t is own. gone.on t (on t is) own)

left_at : (asked : Asked) (s : Stage) (a : Result Found ClientFault) → answer_by s ≡ Some a → left_by asked s ≡ None
left_at asked (Walks w) a is = absurd (none-some a is)
left_at asked (Reads hash) a is = absurd (none-some a is)
left_at asked (Ends answer) a is = refl

none_left : (o : Option Asked) (a : Result Found ClientFault) → answer_in o ≡ Some a → left_in o ≡ None
none_left None a is = absurd (none-some a is)
none_left (Some asked) a is = left_at asked asked.stage a is

pub whole_answer : {u : Url} {q : Question} {l l' : Links} {r start end new : Client} (a : Result Found ClientFault) → Asks r q start → ((t : Nodes) → IsOn t r → IsOn t start)
    → GivesAll u l l' start end (Ok tt) → answer_in end.asked ≡ Some a → new ≡ record end { asked = left_in end.asked } → ((t : Nodes) → IsOn t end → IsOn t new)
    → ((t : Nodes) (asked : Question) → IsOn t end → question_of end ≡ Some asked → IsAnswer (look end.name t asked) a) → Answers u q l l' r new (told_by a)
whole_answer {q = q} {r = r} {start = start} {end = end} {new = new} a asks on (all gone none) told once keeps looks =
    answered start end gone.given a asks gone.comes told (once ∙ ap (λ (o : Option Asked). record end { asked = o }) (none_left end.asked a told))
    (λ t is own. keeps t (gone.on t (on t is) own))
    (λ t is own. subst (λ (name : List ℕ). IsAnswer (look name t q) a) (named_still gone.comes ∙ ap (λ (c : Client). c.name) asks.is) (looks t q (gone.on t (on t is) own) (asked_still q gone.comes (ap question_of asks.is))))

unanswered_at : (s : Stage) → wanted_by s ≡ None → answer_by s ≡ None → ⊥
unanswered_at (Walks w) wants answer = none-some _ (sym wants)
unanswered_at (Reads hash) wants answer = none-some _ (sym wants)
unanswered_at (Ends a) wants answer = none-some _ (sym answer)

-- a question that wants nothing has its answer
pub has_answer : {u : Url} {q : Question} {l l' : Links} {r start end : Client} → Asks r q start → GivesAll u l l' start end (Ok tt) → answer_in end.asked ≡ None → ⊥
has_answer {q = q} {end = end} asks (all gone none) unanswered = by end.asked none unanswered (asked_still q gone.comes (ap question_of asks.is))
  where
    by : (o : Option Asked) → wanted_in o ≡ None → answer_in o ≡ None → option_map (λ (a : Asked). a.question) o ≡ Some q → ⊥
    by None wants answer is = none-some q is
    by (Some a) wants answer is = unanswered_at a.stage wants answer
