-- Over a run the history grows by the commits that it records, each made under a lease that is known.
use Rattle.std.proofs.Common.{◌≡◌, ◌⊎◌, false, ℕ, List, [], ◌∷◌, ◌++◌, refl, sym, ap, subst, ◌∙◌, inl, inr, append_assoc, append-nil}
use Rattle.std.specs.declared.option.Option.{Option}
use Rattle.std.specs.declared.option.Option.TheVariants.{None, Some}
use Rattle.std.specs.Prelude.{IfSome, ⊤}
use Rattle.std.specs.List.{cons_option, AllByRecursion, Contains}
use Rattle.cv_cut.proofs.Lemmas.{first_there, later_there}
use Rattle.cv_base.specs.declared.object.Object.{Object}
use Rattle.cv_base.proofs.Laws.{all_push, all_weaker}
use Rattle.cv_leases.specs.declared.lease.Lease.{Lease}
use Rattle.cv_leases.proofs.Laws.{all_filter, found_all}
use Rattle.cv_gate.specs.State.{State, aged, with_revision, Settled, certain, unmade, published}
use Rattle.cv_swap.specs.Kept.{Revision}
use Rattle.cv_gate.specs.Passing.{granted, MakesNew}
use Rattle.cv_gate.specs.Step.{Step, Run}
use Rattle.cv_gate.specs.Laws.{is_committed, Makes, nothing as no_entries, told, doubted, skips, GrowsBy}
use Rattle.cv_gate.specs.Lives.{Grant, grant_by, grant_of, grants_of, grant_under}
use Rattle.cv_gate.specs.declared.op.Op.{Op}
use Rattle.cv_gate.specs.declared.reply.Reply.TheVariants as reply
use Rattle.cv_gate.specs.declared.entry.Entry.{Entry}
use Rattle.cv_gate.proofs.Effects.{own, IsPublished, IsWanted, Effect, nothing, gains, stores, grants, cancels, publishes, wavers, of_act, quiet_fault}

-- ---- what an op does to the history

pub data Grows (st : State) (o : Op) (e : Entry) (st' : State) : Type 0 where
  quiet : st'.history ≡ st.history → st'.doubt ≡ st.doubt → is_committed e.reply ≡ false → Grows st o e st'
  commit : (new : Revision) → IsPublished st o e new → st'.history ≡ st.history ++ new ∷ [] → st'.doubt ≡ st.doubt → e.reply ≡ reply.Committed new.record_.revision new.record_.root → Grows st o e st'
  doubtful : (new : Revision) → IsPublished st o e new → st'.history ≡ st.history → st'.doubt ≡ Some new → e.reply ≡ reply.StoreFailed → Grows st o e st'

abbrev pub history_of : State → List Revision
history_of s = s.history

abbrev pub doubt_of : State → Option Revision
doubt_of s = s.doubt

pub by_effect : {Sends : List Object → Type 0} (st : State) (o : Op) (e : Entry) (st' : State) → Effect (IsPublished st o e) (IsWanted e) Sends st e.reply st' → Grows st o e st'
by_effect st o e st' (nothing q s) = quiet (ap history_of s) (ap doubt_of s) q.no_revision
by_effect st o e st' (gains objects h q g) = quiet (ap history_of g.others) (ap doubt_of g.others) q.no_revision
by_effect st o e st' (stores objects h q g) = quiet (ap history_of g.others) (ap doubt_of g.others) q.no_revision
by_effect st o e st' (grants key p head w g held r s) = quiet (ap history_of s) (ap doubt_of s) (ap is_committed r)
by_effect st o e st' (cancels token r s) = quiet (ap history_of s) (ap doubt_of s) (ap is_committed r)
by_effect st o e st' (publishes new p sent r stored g s) =
    commit new p (ap history_of s ∙ ap (λ (x : State). x.history ++ new ∷ []) g.others) (ap doubt_of s ∙ ap doubt_of g.others) r
by_effect st o e st' (wavers new p sent r stored g s) = doubtful new p (ap history_of s ∙ ap history_of g.others) (ap doubt_of s) r

-- what settling adds to the history
pub data Adds (st settled : State) : Type 0 where
  as_it_was : settled.history ≡ st.history → settled.doubt ≡ None → Adds st settled
  made : (new : Revision) → st.doubt ≡ Some new → settled.history ≡ st.history ++ new ∷ [] → settled.doubt ≡ None → Adds st settled

pub by_settling : (st settled : State) → Settled st settled → Adds st settled
by_settling st settled (certain calm e) = as_it_was (ap history_of e) (ap doubt_of e ∙ calm)
by_settling st settled (unmade new is e) = as_it_was (ap history_of e) (ap doubt_of e)
by_settling st settled (published new is e) = made new is (ap history_of e) (ap doubt_of e)

pub none_left : (st settled : State) → Settled st settled → settled.doubt ≡ None
none_left st settled s = elim (by_settling st settled s) [ as_it_was h none ↦ none | made new is h none ↦ none ]

-- without a doubt settling changes nothing of it
pub as_before : (st settled : State) → st.doubt ≡ None → Settled st settled → settled.history ≡ st.history
as_before st settled none s = elim (by_settling st settled s) [ as_it_was h left ↦ h | made new is h left ↦ absurd cc ]

-- a doubt may be settled so that the commit wasn't made
settles_unmade : (st : State) → Settled st (record st { doubt = None })
settles_unmade st = by st.doubt refl
  where
    by : (doubt : Option Revision) → st.doubt ≡ doubt → Settled st (record st { doubt = None })
    by None is = certain is (λ i. record st { doubt = sym is i })
    by (Some new) is = unmade new is refl

-- ---- leases that are known

-- a lease as it was granted
abbrev pub grant_from : Lease → Grant
grant_from lease = record { token = lease.token; key = lease.key; path = lease.path }

-- of each live lease, and of that of a commit in doubt, P holds
pub record Known (P : Grant → Type 0) (st : State) : Type 0 where
  pub leases : AllByRecursion (λ lease. P (grant_from lease)) st.leases
  pub doubt : IfSome st.doubt (λ new. P (grant_under new))

if_weaker : {X : Type 0} (P Q : X → Type 0) (o : Option X) → ((x : X) → P x → Q x) → IfSome o P → IfSome o Q
if_weaker P Q None f h = tt
if_weaker P Q (Some x) f h = f x h

pub known_more : (P Q : Grant → Type 0) (st : State) → ((x : Grant) → P x → Q x) → Known P st → Known Q st
known_more P Q st f k = record { leases = all_weaker _ _ st.leases (λ lease h. f (grant_from lease) h) k.leases; doubt = if_weaker _ _ st.doubt (λ new h. f (grant_under new) h) k.doubt }

-- the lease of a revision that is made is known
pub maker_known : (P : Grant → Type 0) (st : State) (o : Op) (new : Revision) → Known P st → MakesNew st o new → P (grant_under new)
maker_known P st o new k m =
    let passes = (own st o new m).passes in
    subst P (sym (ap grant_under passes.is)) (found_all (λ lease. P (grant_from lease)) new.record_.token st.leases passes.lease k.leases passes.live)

pub known_aged : (P : Grant → Type 0) (st : State) (now : ℕ) → Known P st → Known P (aged st now)
known_aged P st now k = record { leases = all_filter _ _ st.leases k.leases; doubt = k.doubt }

pub known_settled : (P : Grant → Type 0) (st settled : State) → Known P st → Settled st settled → Known P settled
known_settled P st settled k (certain calm e) = subst (Known P) (sym e) k
known_settled P st settled k (unmade new is e) = subst (Known P) (sym e) (record { leases = k.leases; doubt = tt })
known_settled P st settled k (published new is e) = subst (Known P) (sym e) (record { leases = all_filter _ _ st.leases k.leases; doubt = tt })

-- of what was known, and of what an entry granted
abbrev OrBy : (Grant → Type 0) → Entry → Grant → Type 0
OrBy P e x = P x ⊎ (grant_of e ≡ Some x)

known_effect : {Sends : List Object → Type 0} (P : Grant → Type 0) (st : State) (o : Op) (e : Entry) (st' : State) → Known P st → Effect (IsPublished st o e) (IsWanted e) Sends st e.reply st' → Known (OrBy P e) st'
known_effect {Sends} P st o e st' k f = by (known_more P (OrBy P e) st (λ x h. inl h) k) f
  where
    by : Known (OrBy P e) st → Effect (IsPublished st o e) (IsWanted e) Sends st e.reply st' → Known (OrBy P e) st'
    by m (nothing q s) = subst (Known (OrBy P e)) (sym s) m
    by m (gains objects h q g) = subst (Known (OrBy P e)) (sym g.others) (record { leases = m.leases; doubt = m.doubt })
    by m (stores objects h q g) = subst (Known (OrBy P e)) (sym g.others) (record { leases = m.leases; doubt = m.doubt })
    by m (grants key p head w g held r s) =
        let new : Grant = grant_from (granted st key p head) in
        let is : grant_of e ≡ Some new = λ i. grant_by (w.key_ i) (w.is i) (r i) in
        subst (Known (OrBy P e)) (sym s) (record { leases = all_push _ st.leases (granted st key p head) m.leases (inr is); doubt = m.doubt })
    by m (cancels token r s) = subst (Known (OrBy P e)) (sym s) (record { leases = all_filter _ _ st.leases m.leases; doubt = m.doubt })
    by m (publishes new p sent r stored g s) =
        subst (Known (OrBy P e)) (sym s) (subst (λ (x : State). Known (OrBy P e) (with_revision x new)) (sym g.others) (record { leases = all_filter _ _ st.leases m.leases; doubt = m.doubt }))
    by m (wavers new p sent r stored g s) =
        subst (Known (OrBy P e)) (sym s) (subst (λ (x : State). Known (OrBy P e) (record x { doubt = Some new })) (sym g.others) (record { leases = m.leases; doubt = inl (maker_known P st o new k p.makes_new) }))

known_step : (P : Grant → Type 0) (st : State) (o : Op) (e : Entry) (st' : State) → Known P st → Step st o e st' → Known (OrBy P e) st'
known_step P st o e st' k s = elim s.does [
  | inl w ↦ subst (Known (OrBy P e)) (sym w.same) (known_more P (OrBy P e) st (λ x h. inl h) k)
  | inr g ↦ known_effect P (aged g.settled e.now) o e st' (known_aged P g.settled e.now (known_settled P st g.settled k g.settles)) (of_act (aged g.settled e.now) o e st' s.op s.records g.acts)
]

-- ---- over a run

-- of what was known, and of what entries granted
abbrev pub OrGranted : (Grant → Type 0) → List Entry → Grant → Type 0
OrGranted P entries x = P x ⊎ Contains (grants_of entries) x

among_more : (o : Option Grant) (gs : List Grant) (x : Grant) → Contains gs x → Contains (cons_option o gs) x
among_more None gs x h = h
among_more (Some y) gs x h = later_there y gs x h

among_first : (o : Option Grant) (gs : List Grant) (x : Grant) → o ≡ Some x → Contains (cons_option o gs) x
among_first o gs x is = subst (λ (p : Option Grant). Contains (cons_option p gs) x) (sym is) (first_there x gs)

or_later : (P : Grant → Type 0) (e : Entry) (entries : List Entry) (x : Grant) → OrGranted (OrBy P e) entries x → OrGranted P (e ∷ entries) x
or_later P e entries x (inl (inl h)) = inl h
or_later P e entries x (inl (inr is)) = inr (among_first (grant_of e) (grants_of entries) x is)
or_later P e entries x (inr h) = inr (among_more (grant_of e) (grants_of entries) x h)

-- for a settlement of the end there is one of the start, from which the revisions of the entries lead to it
pub record Grew (P : Grant → Type 0) (st : State) (entries : List Entry) (end : State) : Type 0 where
  pub start : State
  pub settled : Settled st start
  pub news : List Revision
  pub is : end.history ≡ start.history ++ news
  pub makes : Makes entries news
  pub under : AllByRecursion (λ new. OrGranted P entries (grant_under new)) news
  pub known : Known (OrGranted P entries) end

module _ (P : Grant → Type 0) (st settled mid end : State) (o : Op) (e : Entry) (entries : List Entry) where
  joined : (news : List Revision) → (g : Grew (OrBy P e) mid entries end) → Settled st settled → end.history ≡ settled.history ++ news → Makes (e ∷ entries) news
      → AllByRecursion (λ new. OrGranted P (e ∷ entries) (grant_under new)) news → Grew P st (e ∷ entries) end
  joined news g s is makes under = record { start = settled; settled = s; news = news; is = is; makes = makes; under = under; known = known_more _ _ end (or_later P e entries) g.known }

  under_later : (g : Grew (OrBy P e) mid entries end) → AllByRecursion (λ new. OrGranted P (e ∷ entries) (grant_under new)) g.news
  under_later g = all_weaker _ _ g.news (λ new h. or_later P e entries (grant_under new) h) g.under

  joins : Known P st → Settled st settled → Grows (aged settled e.now) o e mid → Grew (OrBy P e) mid entries end → Grew P st (e ∷ entries) end
  joins k s (quiet h d n) g =
      let same : g.start.history ≡ mid.history = as_before mid g.start (d ∙ none_left st settled s) g.settled in
      joined g.news g s (g.is ∙ ap (λ x. x ++ g.news) (same ∙ h)) (skips n g.makes) (under_later g)
  joins k s (commit new p h d r) g =
      let same : g.start.history ≡ mid.history = as_before mid g.start (d ∙ none_left st settled s) g.settled in
      let its = maker_known P (aged settled e.now) o new (known_aged P settled e.now (known_settled P st settled k s)) p.makes_new in
      joined (new ∷ g.news) g s (g.is ∙ ap (λ x. x ++ g.news) (same ∙ h) ∙ append_assoc settled.history (new ∷ []) g.news) (told r p.asked g.makes) (inl its, under_later g)
  joins k s (doubtful new p h d r) g = elim (by_settling mid g.start g.settled) [
    | as_it_was same none ↦ joined g.news g s (g.is ∙ ap (λ x. x ++ g.news) (same ∙ h)) (skips (ap is_committed r) g.makes) (under_later g)
    | made x is more none ↦
        let same : x ≡ new = cc in
        let its = maker_known P (aged settled e.now) o new (known_aged P settled e.now (known_settled P st settled k s)) p.makes_new in
        joined (new ∷ g.news) g s (g.is ∙ ap (λ y. y ++ g.news) (more ∙ ap (λ z. mid.history ++ z ∷ []) same ∙ ap (λ y. y ++ new ∷ []) h) ∙ append_assoc settled.history (new ∷ []) g.news)
        (doubted r p.asked g.makes) (inl its, under_later g)
  ]

pub grows : (P : Grant → Type 0) (st : State) (entries : List Entry) (st' end : State) → Known P st → Run st entries st' → Settled st' end → Grew P st entries end
grows P st [] st' end k r s =
    let from : Settled st end = subst (λ (x : State). Settled x end) r s in
    record { start = end; settled = from; news = []; is = sym (append-nil end.history); makes = no_entries; under = tt; known = known_more P _ end (λ x h. inl h) (known_settled P st end k from) }
grows P st (e ∷ entries) st' end k r s =
    let mid : State = r.1 in
    let g : Grew (OrBy P e) mid entries end = grows (OrBy P e) mid entries st' end (known_step P st r.0 e mid k r.2) r.3 s in
    elim r.2.does [
      | inl w ↦ joined P st g.start mid end r.0 e entries g.news g (subst (λ (x : State). Settled x g.start) w.same g.settled) g.is (skips (quiet_fault e.reply w.fault).no_revision g.makes) (under_later P st g.start mid end r.0 e entries g)
      | inr w ↦ joins P st w.settled mid end r.0 e entries k w.settles (by_effect (aged w.settled e.now) r.0 e mid (of_act (aged w.settled e.now) r.0 e mid r.2.op r.2.records w.acts)) g
    ]

-- ---- whatever is known, all revisions are made by the entries

of_anything : (st : State) → Known (λ x. ⊤) st
of_anything st = record { leases = all st.leases; doubt = some st.doubt }
  where
    all : (leases : List Lease) → AllByRecursion (λ lease. ⊤) leases
    all [] = tt
    all (lease ∷ leases) = (tt, all leases)

    some : (doubt : Option Revision) → IfSome doubt (λ new. ⊤)
    some None = tt
    some (Some new) = tt

pub from_any : (st : State) (entries : List Entry) (st' end : State) → Run st entries st' → Settled st' end → GrowsBy st entries end
from_any st entries st' end r s =
    let g = grows (λ x. ⊤) st entries st' end (of_anything st) r s in
    record { start = g.start; settles = g.settled; news = g.news; history = g.is; makes = g.makes }

pub from_certain : (st : State) (entries : List Entry) (st' : State) → st.doubt ≡ None → Run st entries st' → (news : List Revision) × (st'.history ≡ st.history ++ news) × Makes entries news
from_certain st entries st' none r =
    let g = from_any st entries st' (record st' { doubt = None }) r (settles_unmade st') in
    (g.news, g.history ∙ ap (λ x. x ++ g.news) (as_before st g.start none g.settles), g.makes)
