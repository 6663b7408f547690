-- Over lives, cut by crashes at any moment, the history only grows.
use Rattle.std.proofs.Common.{◌≡◌, ◌≢◌, ◌⊎◌, ◌≤◌, ◌<◌, ◌+◌, AllPairs, ℕ, List, [], ◌∷◌, ◌++◌, refl, sym, ap, subst, ◌∙◌, inl, inr, append_assoc, append-nil, arith}
use Rattle.std.specs.declared.option.Option.{Option}
use Rattle.std.specs.declared.option.Option.TheVariants.{None, Some}
use Rattle.std.specs.List.{last_or, AllByRecursion, Contains}
use Rattle.std.specs.FinMap.{get}
use Rattle.std.specs.Prelude.{⊤}
use Rattle.std.proofs.lemmas.List.Elements.{All-from_recursion}
use Rattle.std.proofs.lemmas.List.Kept.{AllPairs-cons}
use Rattle.cv_base.specs.declared.token.Token.{Token}
use Rattle.cv_base.proofs.Laws.{all_push, all_append, all_weaker}
use Rattle.cv_ports.specs.Shelf.{Shelf}
use Rattle.cv_tree.specs.Tree.{Nodes, at}
use Rattle.cv_tree.proofs.Laws.{kept-put}
use Rattle.cv_gate.specs.State.{State, aged}
use Rattle.cv_swap.specs.Kept.{Revision, newest, FollowEachOther, IsLine, Kept, IsKept}
use Rattle.cv_gate.specs.Step.{Run}
use Rattle.cv_gate.specs.Kept.{reopened, Pending, WouldCommit, MayCommit}
use Rattle.cv_gate.specs.Laws.{tokens_given, tokens_from, Numbers}
use Rattle.cv_gate.specs.Lives.{Life, ran, cut, Ran, Lived, Lives, Grant, grants_of, grant_under, MakesLast, whole, last, MadeBy, none, by_run, by_cut, EachReplaces, tokens_of, Prolongs}
use Rattle.cv_gate.specs.declared.entry.Entry.{Entry}
use Rattle.cv_gate.proofs.Effects.{IsItsOwn, own as its_own}
use Rattle.cv_gate.proofs.Growth.{as_before, Known, OrGranted, maker_known, known_aged, Grew, grows}
use Rattle.cv_gate.proofs.Histories.{some_newest}
use Rattle.cv_gate.proofs.Tokens as tokens

-- ---- what is kept stays sound

kept_on : (k : Kept) (life : Life) (k' : Kept) → IsKept k → Lived k life k' → IsKept k'
kept_on k (ran entries pending) k' h r = record {
  sound = r.crash.sound;
  epoch = (
      let left = r.crash.epoch in
      let same : r.end.epoch ≡ k.epoch + 1 = (tokens.by_run (reopened k) entries r.end r.run).epoch in
      let room = r.room in
      omega (arith, left, same, room));
}
kept_on k cut k' h (inl same) = subst IsKept (sym same) h
kept_on k cut k' h (inr raised) = let room = raised.0 in subst IsKept (sym raised.1) (record { sound = h.sound; epoch = omega (arith, room) })

pub all_kept : (k : Kept) (lives : List Life) (k' : Kept) → IsKept k → Lives k lives k' → IsKept k'
all_kept k [] k' h same = subst IsKept (sym same) h
all_kept k (life ∷ lives) k' h l = all_kept l.0 lives k' (kept_on k life l.0 h l.1) l.2

-- ---- the revisions of one life

record IsMade (k : Kept) (entries : List Entry) (pending : Option Pending) (k' : Kept) : Type 0 where
  own : List Revision
  history : k'.history ≡ k.history ++ own
  makes : MakesLast entries pending own
  under : AllByRecursion (λ new. Contains (grants_of entries) (grant_under new)) own

none_known : (k : Kept) → Known (λ x. ⊥) (reopened k)
none_known k = record { leases = tt; doubt = tt }

certain : (entries : List Entry) (x : Grant) → OrGranted (λ x. ⊥) entries x → Contains (grants_of entries) x
certain entries x (inl h) = absurd h
certain entries x (inr h) = h

made_in : (k : Kept) (entries : List Entry) (pending : Option Pending) (k' : Kept) → Ran k entries pending k' → IsMade k entries pending k'
made_in k entries pending k' r = by pending r.crash.history
  where
    settled : State
    settled = r.crash.settled

    g : Grew (λ x. ⊥) (reopened k) entries settled
    g = grows (λ x. ⊥) (reopened k) entries r.end settled (none_known k) r.run r.crash.settles

    so_far : settled.history ≡ k.history ++ g.news
    so_far = g.is ∙ ap (λ x. x ++ g.news) (as_before (reopened k) g.start refl g.settled)

    under : AllByRecursion (λ new. Contains (grants_of entries) (grant_under new)) g.news
    under = all_weaker _ _ g.news (λ new h. certain entries (grant_under new) h) g.under

    committed : (p : Pending) → WouldCommit settled p k'.history → IsMade k entries (Some p) k'
    committed p w =
        let its : IsItsOwn (aged settled p.now) p.op w.new = its_own (aged settled p.now) p.op w.new w.makes in
        record {
          own = g.news ++ w.new ∷ [];
          history = w.is ∙ ap (λ x. x ++ w.new ∷ []) so_far ∙ append_assoc k.history g.news (w.new ∷ []);
          makes = last g.makes (record { old_root = its.old_root; is = its.is });
          under = all_push _ g.news w.new under (certain entries (grant_under w.new) (maker_known _ (aged settled p.now) p.op w.new (known_aged _ settled p.now g.known) w.makes));
        }

    by : (o : Option Pending) → (k'.history ≡ settled.history) ⊎ MayCommit settled o k'.history → IsMade k entries o k'
    by o (inl same) = record { own = g.news; history = same ∙ so_far; makes = whole g.makes; under = under }
    by None (inr may) = absurd may
    by (Some p) (inr w) = committed p w

-- ---- the revisions of all lives

record AreMade (k : Kept) (lives : List Life) (k' : Kept) : Type 0 where
  news : List Revision
  history : k'.history ≡ k.history ++ news
  made : MadeBy lives news

all_made : (k : Kept) (lives : List Life) (k' : Kept) → Lives k lives k' → AreMade k lives k'
all_made k [] k' same = record { news = []; history = ap (λ (x : Kept). x.history) same ∙ sym (append-nil k.history); made = none }
all_made k (ran entries pending ∷ lives) k' l =
    let first : IsMade k entries pending l.0 = made_in k entries pending l.0 l.1 in
    let rest : AreMade l.0 lives k' = all_made l.0 lives k' l.2 in
    record {
      news = first.own ++ rest.news;
      history = rest.history ∙ ap (λ x. x ++ rest.news) first.history ∙ append_assoc k.history first.own rest.news;
      made = by_run first.makes first.under rest.made;
    }
all_made k (cut ∷ lives) k' l =
    let rest : AreMade l.0 lives k' = all_made l.0 lives k' l.2 in
    let same : l.0.history ≡ k.history = elim l.1 [ inl e ↦ ap (λ (x : Kept). x.history) e | inr raised ↦ ap (λ (x : Kept). x.history) raised.1 ] in
    record { news = rest.news; history = rest.history ∙ ap (λ x. x ++ rest.news) same; made = by_cut rest.made }

-- ---- what they replace

follow_replaces : (s : Shelf) (before : Revision) (news : List Revision) → FollowEachOther s before news → EachReplaces before news
follow_replaces s before [] h = tt
follow_replaces s before (new ∷ news) h = (
  (λ q outside. ap (λ (t : Nodes). get t q) h.0.replaces ∙ kept-put before.tree new.record_.path (at h.0.offered new.record_.path) q outside),
  follow_replaces s new news h.1,
)

follow_rest : (s : Shelf) (before head : Revision) (history news : List Revision) → FollowEachOther s before (history ++ news) → last_or (Some before) history ≡ Some head → FollowEachOther s head news
follow_rest s before head [] news h is = let same : before ≡ head = cc in subst (λ (x : Revision). FollowEachOther s x news) same h
follow_rest s before head (r ∷ history) news h is = follow_rest s r head history news h.1 is

line_replaces : (s : Shelf) (history news : List Revision) (head : Revision) → IsLine s (history ++ news) → newest history ≡ Some head → EachReplaces head news
line_replaces s [] news head h is = absurd cc
line_replaces s (r ∷ history) news head h is = follow_replaces s head news (follow_rest s r head history news h.2 is)

-- ---- tokens

abbrev AllDiffer : List Token → Type 0
AllDiffer [] = ⊤
AllDiffer (token ∷ tokens) = AllByRecursion (λ later. token ≢ later) tokens × AllDiffer tokens

all_pairs : (ts : List Token) → AllDiffer ts → AllPairs (λ a b. a ≢ b) ts
all_pairs [] h = λ i j d below within. absurd (omega (arith, within))
all_pairs (t ∷ ts) h = AllPairs-cons (λ (a b : Token). a ≢ b) t ts (All-from_recursion (λ later. t ≢ later) ts h.0) (all_pairs ts h.1)

record IsFrom (epoch next : ℕ) (token : Token) : Type 0 where
  epoch_ : token.epoch ≡ epoch
  number : next ≤ token.number

tokens_rise : (epoch next : ℕ) (ts : List Token) → AllByRecursion (IsFrom epoch next) (tokens_from epoch next ts)
tokens_rise epoch next [] = tt
tokens_rise epoch next (t ∷ ts) = (
  record { epoch_ = refl; number = omega arith },
  all_weaker (IsFrom epoch (next + 1)) (IsFrom epoch next) (tokens_from epoch (next + 1) ts) (λ x h. record { epoch_ = h.epoch_; number = (let later = h.number in omega (arith, later)) }) (tokens_rise epoch (next + 1) ts),
)

tokens_differ : (epoch next : ℕ) (ts : List Token) → AllDiffer (tokens_from epoch next ts)
tokens_differ epoch next [] = tt
tokens_differ epoch next (t ∷ ts) = (
  all_weaker (IsFrom epoch (next + 1)) _ (tokens_from epoch (next + 1) ts) (λ x h same. (
      let later = h.number in
      let is : next ≡ x.number = ap (λ (y : Token). y.number) same in
      omega (arith, later, is))) (tokens_rise epoch (next + 1) ts),
  tokens_differ epoch (next + 1) ts,
)

-- tokens of one epoch, and later ones
differ_append : (epoch : ℕ) (xs ys : List Token) → AllDiffer xs → AllDiffer ys → AllByRecursion (λ t. t.epoch ≡ epoch) xs → AllByRecursion (λ t. epoch < t.epoch) ys → AllDiffer (xs ++ ys)
differ_append epoch [] ys dx dy hx hy = dy
differ_append epoch (x ∷ xs) ys dx dy hx hy = (
  all_append _ xs ys dx.0 (all_weaker _ _ ys (λ y high same. (
      let own = hx.0 in
      let is : x.epoch ≡ y.epoch = ap (λ (t : Token). t.epoch) same in
      omega (arith, own, is, high))) hy),
  differ_append epoch xs ys dx.1 dy hx.1 hy,
)

record AreOf (k : Kept) (entries : List Entry) : Type 0 where
  differ : AllDiffer (tokens_given entries)
  epochs : AllByRecursion (λ t. t.epoch ≡ k.epoch + 1) (tokens_given entries)

tokens_in : (k : Kept) (entries : List Entry) (end : State) → Run (reopened k) entries end → AreOf k entries
tokens_in k entries end r =
    let n : Numbers (reopened k) entries end = tokens.by_run (reopened k) entries end r in
    record {
      differ = subst AllDiffer (sym n.tokens) (tokens_differ (k.epoch + 1) 1 (tokens_given entries));
      epochs = subst (AllByRecursion (λ t. t.epoch ≡ k.epoch + 1)) (sym n.tokens)
          (all_weaker _ _ (tokens_from (k.epoch + 1) 1 (tokens_given entries)) (λ t h. h.epoch_) (tokens_rise (k.epoch + 1) 1 (tokens_given entries)));
    }

record AreApart (k : Kept) (lives : List Life) : Type 0 where
  differ : AllDiffer (tokens_of lives)
  later : AllByRecursion (λ t. k.epoch < t.epoch) (tokens_of lives)

epoch_after : (k : Kept) (entries : List Entry) (pending : Option Pending) (k' : Kept) → Ran k entries pending k' → k'.epoch ≡ k.epoch + 1
epoch_after k entries pending k' r = r.crash.epoch ∙ (tokens.by_run (reopened k) entries r.end r.run).epoch

tokens_apart : (k : Kept) (lives : List Life) (k' : Kept) → Lives k lives k' → AreApart k lives
tokens_apart k [] k' same = record { differ = tt; later = tt }
tokens_apart k (ran entries pending ∷ lives) k' l =
    let own : AreOf k entries = tokens_in k entries l.1.end l.1.run in
    let rest : AreApart l.0 lives = tokens_apart l.0 lives k' l.2 in
    let epoch : l.0.epoch ≡ k.epoch + 1 = epoch_after k entries pending l.0 l.1 in
    record {
      differ = differ_append (k.epoch + 1) (tokens_given entries) (tokens_of lives) own.differ rest.differ own.epochs
          (all_weaker _ _ (tokens_of lives) (λ t high. omega (arith, high, epoch)) rest.later);
      later = all_append _ (tokens_given entries) (tokens_of lives) (all_weaker _ _ (tokens_given entries) (λ t same. omega (arith, same)) own.epochs)
          (all_weaker _ _ (tokens_of lives) (λ t high. omega (arith, high, epoch)) rest.later);
    }
tokens_apart k (cut ∷ lives) k' l =
    let rest : AreApart l.0 lives = tokens_apart l.0 lives k' l.2 in
    let epoch : k.epoch ≤ l.0.epoch = elim l.1 [
      | inl e ↦ (let same : l.0.epoch ≡ k.epoch = ap (λ (x : Kept). x.epoch) e in omega (arith, same))
      | inr raised ↦ (let same : l.0.epoch ≡ k.epoch + 1 = ap (λ (x : Kept). x.epoch) raised.1 in omega (arith, same))
    ] in
    record { differ = rest.differ; later = all_weaker _ _ (tokens_of lives) (λ t high. omega (arith, high, epoch)) rest.later }

-- ---- the whole

pub prolongs : (k : Kept) (lives : List Life) (k' : Kept) → IsKept k → Lives k lives k' → Prolongs k lives k'
prolongs k lives k' h l =
    let end : IsKept k' = all_kept k lives k' h l in
    let made : AreMade k lives k' = all_made k lives k' l in
    let head = some_newest k.shelf k.history h.sound.line in
    record {
      kept = end;
      news = made.news;
      history = made.history;
      made = made.made;
      head = head.0;
      is_newest = head.1;
      replaces = line_replaces k'.shelf k.history made.news head.0 (subst (IsLine k'.shelf) made.history end.sound.line) head.1;
      tokens = all_pairs (tokens_of lives) (tokens_apart k lives k' l).differ;
    }
