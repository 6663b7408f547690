-- What was opened was served, one call after another.
use Rattle.std.proofs.Common.{◌≡◌, ◌<◌, ◌≤◌, ◌++◌, ℕ, List, [], ◌∷◌, refl, sym, subst, ◌∙◌, arith, append-nil}
use Rattle.std.specs.Prelude.{Option}
use Rattle.cv_base.specs.Told.{WhereTold}
use Rattle.cv_base.specs.Token.{last_number}
use Rattle.cv_ports.specs.Streams.{Look}
use Rattle.cv_keys.specs.declared.key.Key.{Key}
use Rattle.cv_vault.specs.Disk.{Disk, Files, ImageOf, files_now}
use Rattle.cv_vault.proofs.Laws.{leaves_then, leaves_more}
use Rattle.cv_swap.specs.Kept.{Kept}
use Rattle.cv_swap.specs.Stands.{Stands as StandsKept}
use Rattle.cv_gate.specs.Desk.{DeskView, Call}
use Rattle.cv_gate.specs.Kept.{reopened}
use Rattle.cv_gate.specs.Solo.{AnswersAll}
use Rattle.cv_gate.specs.State.{State}
use Rattle.cv_gate.specs.Step.{Run}
use Rattle.cv_gate.specs.Sound.{AreLeases}
use Rattle.cv_gate.specs.declared.entry.Entry.{Entry}
use Rattle.cv_desk.specs.Gate.{GateView, StandsFor, IsSameRepository, IsOpened, IsNew}
use Rattle.cv_desk.specs.OneDesk.{OneDeskView, Stands, IsLeft, behind, DoesEach, DoesCalls, first_view}
use Rattle.cv_desk.proofs.Lemmas.{calls_none, calls_one, calls_more}
use Rattle.cv_top.specs.Headline.{prolonged}
use Rattle.cv_top.specs.Runs.{ServesKept, Behind, Talks, calls_in, Serves, ended, desk_over}
use Rattle.cv_session.specs.declared.session_end.SessionEnd.{SessionEnd}
use Rattle.cv_top.specs.Seal.{is_seal_by}
use Rattle.cv_top.specs.Status.{end_status}
use Rattle.cv_top.proofs.Headlines.{InOrder, KeepsRaised, now_image, opening_remains, left_on_line}

module _ {V : Type 0} (disk : V → Option Disk) (count : V → ℕ) (left : V → ℕ → Files → Type 0) (only_now : (v : V) (f : Files) → left v (count v) f → ImageOf (disk v) f) where
  -- calls that were made one after another, by those of a front and those behind it
  record Split (a b : OneDeskView V (List ℕ)) (least more : List Call) : Type 0 where
    mid : OneDeskView V (List ℕ)
    front : DoesEach disk count left is_seal_by a least mid
    back : DoesEach disk count left is_seal_by mid more b

  split_at : (least more : List Call) (a b : OneDeskView V (List ℕ)) → DoesEach disk count left is_seal_by a (least ++ more) b → Split a b least more
  split_at [] more a b does = record { mid = a; front = refl; back = does }
  split_at (c ∷ least) more a b does =
      let s = split_at least more does.0 b does.2 in
      record { mid = s.mid; front = (does.0, does.1, s.front); back = s.back }

  does_all : (calls : List Call) (a b : OneDeskView V (List ℕ)) → DoesEach disk count left is_seal_by a calls b → DoesCalls disk count left is_seal_by a calls b
  does_all [] a b does = subst (λ (x : OneDeskView V (List ℕ)). DoesCalls disk count left is_seal_by a [] x) (sym does) (calls_none disk count left is_seal_by a (only_now a.gate.state.line.vault))
  does_all (c ∷ calls) a b does = calls_more disk count left is_seal_by a does.0 b (c ∷ []) calls (calls_one disk count left is_seal_by a does.0 c does.1) (does_all calls does.0 b does.2)

  module _ (name seal : List ℕ) (gate : GateView V (List ℕ)) (new : IsNew name seal gate) (in_order : InOrder) (raises : KeepsRaised) (apart : (st : State) (entries : List Entry) (st' : State) → Run st entries st' → AreLeases st → AreLeases st')
      (v : V) (desk' : OneDeskView V (List ℕ)) (calls : List Call) (d : Disk) (k : Kept) (opens : IsOpened disk count left name is_seal_by seal d v gate)
      (begins : (st : State) → gate.journal ≡ [] → StandsFor disk is_seal_by gate.state st → Stands disk is_seal_by (desk_over gate) (first_view st))
      (does : DoesCalls disk count left is_seal_by (desk_over gate) calls desk') (kept : StandsKept name (is_seal_by seal) (files_now d) k) where
    stood : StandsFor disk is_seal_by gate.state (reopened k)
    stood = opens.stands k (subst (λ n. StandsKept n (is_seal_by gate.state.line.signer) (files_now d) k) (sym new.named)
        (subst (λ s. StandsKept name (is_seal_by s) (files_now d) k) (sym new.signed) kept))

    room : k.epoch < last_number
    room = let e = stood.sound.epoch in omega (arith, e)

    abbrev start : DeskView
    start = first_view (reopened k)

    begun : Stands disk is_seal_by (desk_over gate) start
    begun = begins (reopened k) new.journal stood

    -- a desk of the same repository
    named : (a : OneDeskView V (List ℕ)) → IsSameRepository gate.state.line a.gate.state.line → (more : List Call) (w : DeskView) (f : Files)
        → IsLeft a.gate.state.line.name (is_seal_by a.gate.state.line.signer) w more f → IsLeft name (is_seal_by seal) w more f
    named a same more w f is = subst (λ n. IsLeft n (is_seal_by seal) w more f) (same.name_ ∙ new.named)
        (subst (λ s. IsLeft a.gate.state.line.name (is_seal_by s) w more f) (same.signer_ ∙ new.signed) is)

    behind_front : (least more : List Call) → calls ≡ least ++ more → Behind disk count left name seal d k least more v (desk_over gate) desk'
    behind_front least more split =
        let s = split_at least more (desk_over gate) desk' (subst (λ l. DoesEach disk count left is_seal_by (desk_over gate) l desk') split does.each) in
        let front = does_all least (desk_over gate) s.mid s.front in
        let there = front.goes start begun in
        let back = (does_all more s.mid desk' s.back).goes there.next there.stands in record {
          mid = s.mid;
          front = s.front;
          back = s.back;
          lasts = λ first lives first_kept lived. record {
            until = leaves_then opens.opens.leaves there.leaves (λ f w. opening_remains name seal first lives k least first_kept lived raises d kept f w)
                (λ f w. prolonged (left_on_line name seal first lives k least first_kept lived in_order room [] least refl start refl f
                (named (desk_over gate) (record { name_ = refl; signer_ = refl; epoch_ = refl }) least start f w)));
            since = leaves_more back.leaves (λ f w. left_on_line name seal first lives k (least ++ more) first_kept lived in_order room least more refl there.next there.calls_ f
                (named s.mid front.same more there.next f w));
          };
        }

    live_apart : (done more : List Call) → calls ≡ done ++ more → (entries : List Entry) × (st : State) × AnswersAll 0 (reopened k) done entries st × AreLeases st
    live_apart done more split =
        let s = split_at done more (desk_over gate) desk' (subst (λ l. DoesEach disk count left is_seal_by (desk_over gate) l desk') split does.each) in
        let there = (does_all done (desk_over gate) s.mid s.front).goes start begun in
        let m = in_order start there.next done there.calls_ (record { alone = refl; run = refl; heads = refl }) in
        (m.entries, there.next.state, m.answers, apart (reopened k) m.entries there.next.state m.run stood.sound.leases)

    pub serves_kept : ServesKept disk count left name seal d k calls v (desk_over gate) desk'
    serves_kept =
        let goes = does.goes start begun in record {
          last = goes.next;
          stands = goes.stands;
          makes = in_order start goes.next calls goes.calls_ (record { alone = refl; run = refl; heads = refl });
          line = λ first lives first_kept lived. record {
            at_any_time = leaves_then opens.opens.leaves goes.leaves (λ f w. opening_remains name seal first lives k calls first_kept lived raises d kept f w)
                (λ f w. prolonged (left_on_line name seal first lives k calls first_kept lived in_order room [] calls refl start refl f
                (named (desk_over gate) (record { name_ = refl; signer_ = refl; epoch_ = refl }) calls start f w)));
            once_answered = λ done more c split.
                let b = behind_front (done ++ c ∷ []) more split in
                (b.mid.gate.state.line.vault, b.lasts first lives first_kept lived);
            end = goes.stands.state.end;
            told = goes.stands.state.told;
            in_the_end = left_on_line name seal first lives k calls first_kept lived in_order room calls [] (sym (append-nil calls)) goes.next goes.calls_ (files_now goes.stands.state.end)
                (named desk' does.same [] goes.next (files_now goes.stands.state.end) (behind [] [] goes.next refl refl
                (goes.stands.images (files_now goes.stands.state.end) (subst (λ (o : Option Disk). ImageOf o (files_now goes.stands.state.end)) (sym goes.stands.state.told) (now_image goes.stands.state.end)))));
            apart = live_apart;
          };
          behind = behind_front;
        }

-- a session over the desk of a gate that was opened
module _ {V R W C : Type 0} (disk : V → Option Disk) (count : V → ℕ) (left : V → ℕ → Files → Type 0) (only_now : (v : V) (f : Files) → left v (count v) f → ImageOf (disk v) f)
    (faults : V → ℕ) (rest given : R → Option (List ℕ)) (looks : R → Look → Type 0) (taken passed : W → Option (List ℕ)) (moments : C → Option (ℕ → ℕ))
    (name seal : List ℕ) (gate : GateView V (List ℕ)) (new : IsNew name seal gate) (in_order : InOrder) (raises : KeepsRaised) (apart : (st : State) (entries : List Entry) (st' : State) → Run st entries st' → AreLeases st → AreLeases st')
    (v : V) (opens : WhereTold (disk v) (λ d. IsOpened disk count left name is_seal_by seal d v gate)) (later : faults v ≤ faults gate.state.line.vault)
    (begins : (st : State) → gate.journal ≡ [] → StandsFor disk is_seal_by gate.state st → Stands disk is_seal_by (desk_over gate) (first_view st))
    (keys : List Key) (desk' : OneDeskView V (List ℕ)) (input input' : R) (output output' : W) (clock clock' : C) (end : SessionEnd) where
  abbrev Talked : List ℕ → Type 0
  Talked n = Talks disk count left faults rest given looks taken passed moments n keys seal (desk_over gate) desk' input input' output output' clock clock' end

  by_name : Talked name → Serves disk count left faults rest given looks taken passed moments name keys seal v desk'.gate.state.line.vault input input' output output' clock clock' (end_status end)
  by_name talks = ended gate desk' end opens new later talks
      (λ d told k kept. serves_kept disk count left only_now name seal gate new in_order raises apart v desk' (calls_in disk count left faults rest given looks taken passed moments talks) d k (opens d told) begins talks.session.made.does_ kept) refl

  -- it bears the name of the gate's line
  pub serves_gate : Talked gate.state.line.name → Serves disk count left faults rest given looks taken passed moments name keys seal v desk'.gate.state.line.vault input input' output output' clock clock' (end_status end)
  serves_gate talks = by_name (subst Talked new.named talks)
