-- A doubt is settled before the op is done.
use Rattle.std.proofs.Common.{◌≡◌, ◌≢◌, ◌⊎◌, ◌<◌, ◌+◌, ◌-◌, Bool, ℕ, List, [], ◌∷◌, ◌++◌, refl, sym, ap, subst, ◌∙◌, inl, inr, arith, take_all, true, false, length-append, length-take}
use Rattle.std.specs.Prelude.{IsSome, IfSome, take, length, min}
use Rattle.std.specs.List.{slice_get}
use Rattle.std.proofs.lemmas.Option.{slice_get-get_or}
use Rattle.std.proofs.Math.Seq.{get_or-append_seam}
use Rattle.std.specs.declared.result.Result.{Result}
use Rattle.std.specs.declared.result.Result.TheVariants.{Ok, Err}
use Rattle.std.specs.declared.option.Option.{Option}
use Rattle.std.specs.declared.option.Option.TheVariants.{None, Some}
use Rattle.cv_vault.specs.Names.{on_way}
use Rattle.cv_base.specs.Told.{WhereTold}
use Rattle.cv_base.specs.Token.{last_number}
use Rattle.cv_vault.specs.Disk.{Disk, File, Files, May, ImageOf}
use Rattle.cv_vault.specs.declared.vault.VaultFault.{VaultFault}
use Rattle.cv_vault.specs.Moments.{LeavesOnly}
use Rattle.cv_vault.specs.Replace.{IsSure, IsOther, Found}
use Rattle.cv_vault.specs.Walks.{Walks, Gains, Nothing, Stays, Comes}
use Rattle.cv_vault.proofs.Laws.{leaves_then, leaves_more, stand}
use Rattle.cv_leases.specs.Leases.{without}
use Rattle.cv_history.specs.declared.record.Record.{Record}
use Rattle.cv_swap.specs.Kept.{Revision, newest, records_of, head_of}
use Rattle.cv_swap.specs.Line.{LineView, swapped, published}
use Rattle.cv_swap.specs.Stands.{Stands, head_name}
use Rattle.cv_swap.specs.declared.stage.Stage.TheVariants as stage
use Rattle.cv_gate.specs.State.{State, aged, Settled, certain, unmade, published as published_too, with_revision}
use Rattle.cv_gate.specs.Kept.{Pending}
use Rattle.cv_gate.specs.Step.{Step, IsNoted, Acts, Goes, IsFault, HasNoFresh}
use Rattle.cv_gate.specs.declared.op.Op.{Op}
use Rattle.cv_gate.specs.declared.entry.Entry.{Entry}
use Rattle.cv_gate.proofs.Lemmas.{newest_push, some_newest, by_settling, crash_before, none_left}
use Rattle.cv_desk.specs.Holds.{IsHeadOf, Holds, Survives}
use Rattle.cv_desk.specs.Gate.{StateView, StandsFor, KnowsDoubt, Does, IsInDoubt, IsSameRepository}
use Rattle.cv_desk.specs.ActingInner.{at_vault, ComesTo, Settles}
use Rattle.cv_desk.proofs.Names.{settled_at}
use Rattle.cv_desk.proofs.Imaging.{quiet_survives, settled_itself, settled_same}
use Rattle.cv_desk.proofs.Holding.{holds_same}

module _ (name : List ℕ) (is_seal : List ℕ → List ℕ → Bool) (d d' : Disk) (st : State) (new : Revision) (manifest : List ℕ) (h : Holds name is_seal d st) (g : Gains on_way Nothing d d') where
  -- the new head stands for sure: the commit was made
  made_held : IsHeadOf name is_seal new (Some manifest) → IsSure head_name manifest d' → Holds name is_seal d' (with_revision (record st { doubt = None }) new)
  made_held says sure =
      let same : Holds name is_seal d' st = holds_same name is_seal d d' st h g in record {
        head = λ f may. record {
          settled = with_revision (record st { doubt = None }) new;
          settles = settled_itself (with_revision (record st { doubt = None }) new) refl;
          newest_ = new;
          is_newest = newest_push st.history new;
          is = subst (IsHeadOf name is_seal new) (sym (settled_at d' head_name f sure.calm may ∙ sure.there)) says;
        };
        now = same.now;
        may = same.may;
        epoch = same.epoch;
      }

  -- another file stands there for sure: it wasn't
  unmade_held : (old : Revision) → newest st.history ≡ Some old → ((f : File) → May (d head_name) f → (f ≡ Some manifest) ⊎ IsHeadOf name is_seal old f) → IsOther head_name manifest d' → Holds name is_seal d' (record st { doubt = None })
  unmade_held old is_newest either other =
      let same : Holds name is_seal d' st = holds_same name is_seal d d' st h g in record {
        head = λ f may. record {
          settled = record st { doubt = None };
          settles = settled_itself (record st { doubt = None }) refl;
          newest_ = old;
          is_newest = is_newest;
          is = elim (g.each head_name refl) [
            | Stays now less ↦ elim (either f (less f may)) [ inl manifest_ ↦ absurd (other.other (sym (settled_at d' head_name f other.calm may) ∙ manifest_)) | inr says ↦ says ]
            | Comes came less ↦ absurd came
          ];
        };
        now = same.now;
        may = same.may;
        epoch = same.epoch;
      }

pub all_taken : (n : ℕ) (xs : List Record) → length xs ≡ n → take n xs ≡ xs
all_taken n xs e = take_all n xs (omega (arith, e))

pub map_push : (history : List Revision) (new : Revision) → records_of (history ++ new ∷ []) ≡ records_of history ++ new.record_ ∷ []
map_push [] new = refl
map_push (r ∷ history) new = ap (λ rs. r.record_ ∷ rs) (map_push history new)

module _ {V S : Type 0} (disk : V → Option Disk) (count : V → ℕ) (left : V → ℕ → Files → Type 0) (is_seal : S → List ℕ → List ℕ → Bool) (before : StateView V S) (st : State) (stands : StandsFor disk is_seal before st) (new : Revision)
    (is : st.doubt ≡ Some new) (v' : V) (P : Disk → Type 0) (walks : Walks disk count left on_way Nothing P stands.end before.line.vault v') where
  abbrev name : List ℕ
  name = before.line.name

  abbrev seal : List ℕ → List ℕ → Bool
  seal = is_seal before.line.signer

  pub knows : IsInDoubt is_seal before.line stands.end st.history new
  knows = subst (KnowsDoubt is_seal before.line stands.end st.history) is stands.doubt

  leaves : (p : Pending) → LeavesOnly count left (Survives name seal st (Some p)) before.line.vault v'
  leaves p = leaves_more walks.leaves (λ f w. quiet_survives name seal stands.end st f p stands.holds stands.sound w)

  -- it came
  pub comes_made : IsSure head_name before.line.manifest walks.end → length before.line.all ≡ before.line.made + 1
      → ComesTo disk count left is_seal before (record before { line = swapped before.line v'; leases = without new.record_.token before.leases }) st (with_revision (record st { doubt = None }) new)
  comes_made sure counted = record {
    stands = record {
      sound = (by_settling st (with_revision (record st { doubt = None }) new) stands.sound (published_too new is refl)).sound;
      end = walks.end;
      told = walks.told;
      holds = made_held name seal stands.end walks.end st new before.line.manifest stands.holds walks.gains knows.says sure;
      records = all_taken (before.line.made + 1) before.line.all counted ∙ knows.all ∙ ap (λ rs. rs ++ new.record_ ∷ []) stands.records ∙ sym (map_push st.history new);
      head = subst (λ (o : Option Revision). IfSome o (λ r. before.line.next_head ≡ head_of r)) (sym (newest_push st.history new)) knows.next_head;
      doubt = λ e. (let k = e in cc);
      epoch = stands.epoch;
      leases = ap (without new.record_.token) stands.leases;
      moment = stands.moment;
      next = stands.next;
    };
    leaves = leaves;
  }

  -- it didn't
  pub comes_unmade : IsOther head_name before.line.manifest walks.end
      → ComesTo disk count left is_seal before (record before { line = record before.line { vault = v'; stage = stage.Calm } }) st (record st { doubt = None })
  comes_unmade other =
      let old = some_newest st.shelf st.history stands.sound.line in record {
        stands = record {
          sound = (by_settling st (record st { doubt = None }) stands.sound (unmade new is refl)).sound;
          end = walks.end;
          told = walks.told;
          holds = unmade_held name seal stands.end walks.end st new before.line.manifest stands.holds walks.gains old.0 old.1
              (λ f may. elim (knows.either f may) [ inl a ↦ inl a | inr b ↦ inr (subst (λ (o : Option Revision). IfSome o (λ r. IsHeadOf name seal r f)) old.1 b) ]) other;
          records = stands.records;
          head = stands.head;
          doubt = λ e. (let k = e in cc);
          epoch = stands.epoch;
          leases = stands.leases;
          moment = stands.moment;
          next = stands.next;
        };
        leaves = leaves;
      }

  -- the disk failed, or memory was wanted: the doubt stays
  pub comes_waiting : ComesTo disk count left is_seal before (at_vault before v') st st
  comes_waiting = record {
    stands = record {
      sound = stands.sound;
      end = walks.end;
      told = walks.told;
      holds = holds_same name seal stands.end walks.end st stands.holds walks.gains;
      records = stands.records;
      head = stands.head;
      doubt = subst (KnowsDoubt is_seal (record before.line { vault = v' }) walks.end st.history) (sym is) (record {
        stage = knows.stage;
        all = knows.all;
        next_head = knows.next_head;
        says = knows.says;
        either = λ f may. elim (walks.gains.each head_name refl) [ Stays same less ↦ knows.either f (less f may) | Comes came less ↦ absurd came ];
      });
      epoch = stands.epoch;
      leases = stands.leases;
      moment = stands.moment;
      next = stands.next;
    };
    leaves = leaves;
  }

-- ---- whatever the line answers

pub counted_all : (made : ℕ) (all : List Record) (x : Record) → all ≡ take made all ++ x ∷ [] → length all ≡ made + 1
counted_all made all x e =
    let sizes : length all ≡ length (take made all) + 1 = ap length e ∙ length-append (take made all) (x ∷ []) in
    let taken : length (take made all) ≡ min made (length all) = length-take made all in
    omega (arith, sizes, taken)

got_last : (xs : List Record) (x : Record) → slice_get (xs ++ x ∷ []) (length (xs ++ x ∷ []) - 1) ≡ Some x
got_last xs x =
    let size : length (xs ++ x ∷ []) ≡ length xs + 1 = length-append xs (x ∷ []) in
    let at : length (xs ++ x ∷ []) - 1 ≡ length xs = omega (arith, size) in
    ap (slice_get (xs ++ x ∷ [])) at ∙ slice_get-get_or (xs ++ x ∷ []) (length xs) x (omega (arith, size)) ∙ ap Some (get_or-append_seam xs x [] x)

module _ {V S : Type 0} (disk : V → Option Disk) (count : V → ℕ) (left : V → ℕ → Files → Type 0) (is_seal : S → List ℕ → List ℕ → Bool) (before : StateView V S) where
  abbrev Told : V → Result Bool VaultFault → Type 0
  Told v r = WhereTold (disk before.line.vault) (λ d. Walks disk count left on_way Nothing (Found head_name before.line.manifest r) d before.line.vault v)

  -- no commit is in doubt
  pub settles_calm : ((f : Files) → left before.line.vault (count before.line.vault) f → ImageOf (disk before.line.vault) f) → before.line.stage ≢ stage.Doubtful
      → (st : State) → StandsFor disk is_seal before st → Settles disk count left is_seal before (Ok tt) before st
  settles_calm only calm st stands =
      let none : st.doubt ≡ None = by st.doubt stands.doubt in (
        st,
        settled_itself st none,
        record {
          stands = stands;
          leaves = λ p. leaves_more (stand {disk = disk} {away = on_way} {B = Nothing} {E = λ d'. Unit {0}} only stands.told tt).leaves (λ f w. quiet_survives before.line.name (is_seal before.line.signer) stands.end st f p stands.holds stands.sound w);
        },
      )
    where
      by : (o : Option Revision) → KnowsDoubt is_seal before.line stands.end st.history o → o ≡ None
      by None k = refl
      by (Some new) k = absurd (calm k.stage)

  -- one is
  module _ (doubtful : before.line.stage ≡ stage.Doubtful) (st : State) (stands : StandsFor disk is_seal before st) where
    doubt : (new : Revision) × (st.doubt ≡ Some new)
    doubt = elim st.doubt as (λ o. st.doubt ≡ o → (new : Revision) × (st.doubt ≡ Some new)) [
      | None ↦ λ none. absurd ((subst (KnowsDoubt is_seal before.line stands.end st.history) none stands.doubt) doubtful)
      | Some new ↦ λ some. (new, some)
    ] refl

    pub settles_failed : (v' : V) (fault : VaultFault) → Told v' (Err fault) → Settles disk count left is_seal before (Err fault) (at_vault before v') st
    settles_failed v' fault walks = (subst IsSome (sym doubt.1) refl, comes_waiting disk count left is_seal before st stands doubt.0 doubt.1 v' _ (walks stands.end stands.told))

    pub settles_unmade : (v' : V) → Told v' (Ok false) → Settles disk count left is_seal before (Ok tt) (record before { line = record before.line { vault = v'; stage = stage.Calm } }) st
    settles_unmade v' walks =
        let w = walks stands.end stands.told in
        (record st { doubt = None }, unmade doubt.0 doubt.1 refl, comes_unmade disk count left is_seal before st stands doubt.0 doubt.1 v' _ w w.is)

    pub settles_made : (after : StateView V S) (v' : V) → Told v' (Ok true)
        → ((r : Record) → slice_get (published (swapped before.line v')) (length (published (swapped before.line v')) - 1) ≡ Some r → after ≡ record before { line = swapped before.line v'; leases = without r.token before.leases })
        → Settles disk count left is_seal before (Ok tt) after st
    settles_made after v' walks ends =
        let w = walks stands.end stands.told in
        let new : Revision = doubt.0 in
        let knows_ : IsInDoubt is_seal before.line stands.end st.history new = knows disk count left is_seal before st stands new doubt.1 v' _ w in
        let size : length before.line.all ≡ before.line.made + 1 = counted_all before.line.made before.line.all new.record_ knows_.all in
        let newest_ : slice_get (published (swapped before.line v')) (length (published (swapped before.line v')) - 1) ≡ Some new.record_ =
        ap (λ (l : List Record). slice_get l (length l - 1)) (all_taken (before.line.made + 1) before.line.all size ∙ knows_.all) ∙ got_last (published before.line) new.record_ in (
          with_revision (record st { doubt = None }) new,
          published_too new doubt.1 refl,
          subst (λ (g : StateView V S). ComesTo disk count left is_seal before g st (with_revision (record st { doubt = None }) new)) (sym (ends new.record_ newest_))
              (comes_made disk count left is_seal before st stands new doubt.1 v' _ w w.is size),
        )

-- a step from a settled state is one from the state
step_before : (st settled : State) (o : Op) (e : Entry) (st' : State) → Settled st settled → settled.doubt ≡ None → settled.next ≡ st.next → Step settled o e st' → Step st o e st'
step_before st settled o e st' settles none same s = record { noted = s.noted; next = subst (λ n. n < last_number) same s.next; does = inr goes }
  where
    goes : Goes st o e st'
    goes = elim s.does [
      | inl waits ↦ absurd (let w = waits.doubt in let n = none in cc)
      | inr g ↦ record { settled = settled; settles = settles; acts = subst (λ (x : State). Acts (aged x e.now) o e st') (settled_same settled g.settled none g.settles) g.acts }
    ]

pub next_same : (st settled : State) → Settled st settled → settled.next ≡ st.next
next_same st settled (certain calm e) = ap (λ (x : State). x.next) e
next_same st settled (unmade new is e) = ap (λ (x : State). x.next) e
next_same st settled (published_too new is e) = ap (λ (x : State). x.next) e

-- what is left of a repository is left of it as it was before
pub survives_same : {V S : Type 0} (is_seal : S → List ℕ → List ℕ → Bool) (before mid : LineView V S) (st : State) (p : Option Pending) (f : Files) → IsSameRepository before mid
    → Survives mid.name (is_seal mid.signer) st p f → Survives before.name (is_seal before.signer) st p f
survives_same is_seal before mid st p f same x = record {
  kept = x.kept;
  stands = subst (λ n. Stands n (is_seal before.signer) f x.kept) same.name_ (subst (λ s. Stands mid.name (is_seal s) f x.kept) same.signer_ x.stands);
  crash = x.crash;
}

-- and what is left of a state that was settled, of the state before
pub survives_before : (repository : List ℕ) (is_seal : List ℕ → List ℕ → Bool) (st settled : State) (p : Option Pending) (f : Files) → Settled st settled → Survives repository is_seal settled p f → Survives repository is_seal st p f
survives_before repository is_seal st settled p f settles x = record { kept = x.kept; stands = x.stands; crash = crash_before st settled p x.kept settles x.crash }

module _ {V S : Type 0} (disk : V → Option Disk) (count : V → ℕ) (left : V → ℕ → Files → Type 0) (is_seal : S → List ℕ → List ℕ → Bool) (o : Op) (e : Entry) (before mid after : StateView V S) (st : State)
    (same : IsSameRepository before.line mid.line) where
  abbrev pending : Pending
  pending = record { op = o; now = e.now }

  -- what is done after a doubt was settled is the step of the state that was in doubt
  pub does_later : (settled : State) → Settled st settled → ComesTo disk count left is_seal before mid st settled
      → (settled.doubt ≡ None → StandsFor disk is_seal mid settled → Does disk count left is_seal o e mid after settled) → Does disk count left is_seal o e before after st
  does_later settled settles first then =
      let none : settled.doubt ≡ None = none_left st settled settles in
      let d : Does disk count left is_seal o e mid after settled = then none first.stands in record {
        next = d.next;
        step = step_before st settled o e d.next settles none (next_same st settled settles) d.step;
        stands = d.stands;
        leaves = leaves_then (first.leaves pending) d.leaves (λ f x. x)
            (λ f x. survives_before before.line.name (is_seal before.line.signer) st settled (Some pending) f settles (survives_same is_seal before.line mid.line settled (Some pending) f same x));
      }

-- the doubt couldn't be settled, and the op waits
pub waits_does : {V S : Type 0} (disk : V → Option Disk) (count : V → ℕ) (left : V → ℕ → Files → Type 0) (is_seal : S → List ℕ → List ℕ → Bool) (o : Op) (e : Entry) (before after : StateView V S) (st : State)
    → IsNoted o e → st.next < last_number → IsFault e.reply → HasNoFresh e.act → IsSome st.doubt → ComesTo disk count left is_seal before after st st → Does disk count left is_seal o e before after st
waits_does disk count left is_seal o e before after st noted room fault fresh doubt comes = record {
  next = st;
  step = record { noted = noted; next = room; does = inl (record { doubt = doubt; fault = fault; fresh = fresh; same = refl }) };
  stands = comes.stands;
  leaves = comes.leaves (record { op = o; now = e.now });
}
