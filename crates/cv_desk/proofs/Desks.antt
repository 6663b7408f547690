-- One connection over a gate meets what is asked of a desk.
use Rattle.std.proofs.Common.{◌≡◌, ◌++◌, ◌∷◌, ◌-◌, ◌+◌, ◌<◌, length-append, Bool, true, ℕ, zero, suc, List, [], length, refl, ap, sym, subst, ◌∙◌, append_assoc, append-nil, arith}
use Rattle.std.specs.Prelude.{Vec, IfOk, MatchResult, IfSome, bytes_eq, max, drop, map, option_map}
use Rattle.std.specs.List.{last_or}
use Rattle.sha1.specs.Sha1.{sha1}
use Rattle.std.specs.declared.result.Result.{Result}
use Rattle.std.specs.declared.result.Result.TheVariants.{Ok, Err}
use Rattle.std.specs.declared.option.Option.{Option}
use Rattle.std.specs.declared.option.Option.TheVariants.{None, Some}
use Rattle.cv_base.specs.Told.{WhereTold}
use Rattle.cv_base.specs.declared.id.ObjectId.{ObjectId}
use Rattle.cv_base.proofs.Laws.{bytes_eq-own, last_map}
use Rattle.cv_ports.specs.Shelf.{Shelf, IsShelf, Gives, Fetches}
use Rattle.cv_ports.specs.declared.shelf.ShelfFault.{ShelfFault}
use Rattle.cv_ports.specs.declared.shelf.ShelfFault.TheVariants.{Failed, Damaged, NoMemory}
use Rattle.cv_vault.specs.Disk.{Disk, Files, ImageOf}
use Rattle.cv_vault.specs.Moments.{LeavesOnly}
use Rattle.cv_vault.specs.Names.{on_way}
use Rattle.cv_vault.specs.Walks.{Nothing}
use Rattle.cv_vault.proofs.Laws.{leaves_more, stand, quiet_walks}
use Rattle.cv_manifest.specs.declared.head.Head.{Head}
use Rattle.cv_swap.specs.Kept.{Revision, newest, head_of}
use Rattle.cv_objects.specs.Names.{standing_on}
use Rattle.cv_gate.specs.Lines.{lines_of}
use Rattle.cv_gate.specs.declared.lease_line.LeaseLine.{LeaseLine}
use Rattle.cv_gate.specs.State.{State, Settled, certain, unmade, published}
use Rattle.cv_gate.specs.Step.{Run}
use Rattle.cv_gate.specs.Laws.{GrowsBy}
use Rattle.cv_gate.specs.declared.entry.TheConstants.{JOURNAL_LIMIT}
use Rattle.cv_gate.specs.Heads.{IsFront, heads_since, last_head}
use Rattle.cv_gate.specs.Desk.{DeskView, Call, asked, listed, fetched, told, Between, Learns, Does as Comes, Finds}
use Rattle.cv_gate.specs.Desk.{made as takes_made}
use Rattle.cv_gate.specs.Desk.{full as takes_full}
use Rattle.cv_gate.specs.declared.op.Op.{Op}
use Rattle.cv_gate.specs.declared.reply.Reply.{Reply}
use Rattle.cv_gate.specs.declared.reply.Reply.TheVariants as reply
use Rattle.cv_gate.specs.declared.entry.Entry.{Entry}
use Rattle.cv_gate.proofs.Lemmas.{from_any, run_on, front_self, some_newest}
use Rattle.cv_desk.specs.Holds.{Survives}
use Rattle.cv_desk.specs.Gate.{StateView, GateView, StandsFor, IsSameRepository, Steps}
use Rattle.cv_desk.specs.Gate.{full, made, Does}
use Rattle.cv_desk.specs.ActingInner.{OnlyLooks}
use Rattle.cv_desk.specs.OneDesk.{OneDeskView, Stands, IsLeft, behind, within, Goes, DoesCall, DoesCalls, view_since}
use Rattle.cv_desk.specs.Calls.{calls_one}
use Rattle.cv_desk.proofs.Imaging.{calm_survives, image_survives}
use Rattle.cv_desk.proofs.Quietly.{looked_stands, looks_none}
use Rattle.cv_desk.proofs.Holding.{shelf_stands}
use Rattle.cv_desk.proofs.Places.{head_is}

-- ---- histories that grow

-- a state whose doubt is settled so that the history stays
record Ended (st : State) : Type 0 where
  end : State
  settles : Settled st end
  same : end.history ≡ st.history

ended : (st : State) → Ended st
ended st = elim st.doubt as (λ o. st.doubt ≡ o → Ended st) [
  | None ↦ λ none. record { end = st; settles = certain none refl; same = refl }
  | Some new ↦ λ some. record { end = record st { doubt = None }; settles = unmade new some refl; same = refl }
] refl

-- a run only adds to the history
grown : (st : State) (entries : List Entry) (st' : State) → Run st entries st' → IsFront st.history st'.history
grown st entries st' run = by g.settles
  where
    end : Ended st'
    end = ended st'

    g : GrowsBy st entries end.end
    g = from_any st entries st' end.end run end.settles

    is : st'.history ≡ g.start.history ++ g.news
    is = sym end.same ∙ g.history

    by : Settled st g.start → IsFront st.history st'.history
    by (certain none e) = record { more = g.news; split = is ∙ ap (λ (x : State). x.history ++ g.news) e }
    by (unmade new some e) = record { more = g.news; split = is ∙ ap (λ (x : State). x.history ++ g.news) e }
    by (published new some e) = record { more = new ∷ g.news; split = is ∙ ap (λ (x : State). x.history ++ g.news) e ∙ append_assoc st.history (new ∷ []) g.news }

-- a part at the end that isn't empty grows at its end
part_grows : {A B : Type 0} (f : A → B) (k : ℕ) (xs ys : List A) (h : B) → last_or None (map f (drop k xs)) ≡ Some h → map f (drop k (xs ++ ys)) ≡ map f (drop k xs) ++ map f ys
part_grows f zero xs ys h some = map_on f xs ys
  where
    map_on : {A B : Type 0} (f : A → B) (xs ys : List A) → map f (xs ++ ys) ≡ map f xs ++ map f ys
    map_on f [] ys = refl
    map_on f (x ∷ xs) ys = ap (λ zs. f x ∷ zs) (map_on f xs ys)
part_grows f (suc k) [] ys h some = cc
part_grows f (suc k) (x ∷ xs) ys h some = part_grows f k xs ys h some

-- and then its last is that of all
last_grows : {A B : Type 0} (f : A → B) (k : ℕ) (o : Option A) (xs ys : List A) (h : B) → last_or None (map f (drop k xs)) ≡ Some h → last_or None (map f (drop k (xs ++ ys))) ≡ option_map f (last_or o (xs ++ ys))
last_grows f zero o [] ys h some = cc
last_grows f zero o (x ∷ xs) ys h some = last_map f (Some x) (xs ++ ys)
last_grows f (suc k) o [] ys h some = cc
last_grows f (suc k) o (x ∷ xs) ys h some = last_grows f k (Some x) xs ys h some

-- ---- nothing new

abbrev view_at : DeskView → List Entry → State → DeskView
view_at v seen st = record v { seen = seen; state = st; heads = heads_since v.start st }

none_between : (v : DeskView) → Run v.start v.seen v.state → Between v [] v.state
none_between v run = record {
  run = subst (λ (l : List Entry). Run v.start l v.state) (sym (append-nil v.seen)) run;
  theirs = refl;
  alone = λ a. (refl, refl);
}

same_view : (v : DeskView) (seen : List Entry) → seen ≡ v.seen → v.heads ≡ heads_since v.start v.state → v ≡ view_at v seen v.state
same_view v seen is heads = rw (is, sym heads) refl

-- each image of the disk of a gate that stands for a state is what a crash may leave of it
gate_images : {V S : Type 0} (disk : V → Option Disk) (is_seal : S → List ℕ → List ℕ → Bool) (g : StateView V S) (st : State) → StandsFor disk is_seal g st → (f : Files) → ImageOf (disk g.line.vault) f
    → Survives g.line.name (is_seal g.line.signer) st None f
gate_images disk is_seal g st s f image = image_survives g.line.name (is_seal g.line.signer) s.end st f s.holds s.sound (subst (λ (o : Option Disk). ImageOf o f) s.told image)

module _ {V S : Type 0} (disk : V → Option Disk) (count : V → ℕ) (left : V → ℕ → Files → Type 0) (is_seal : S → List ℕ → List ℕ → Bool) where
  learns_nothing : (d : OneDeskView V S) (v : DeskView) → Stands disk is_seal d v → Learns v v
  learns_nothing d v s = record {
    others = [];
    between = none_between v s.run;
    knows = record { view = same_view v (v.seen ++ []) (append-nil v.seen) s.heads; heads = front_self v.heads };
  }

  -- a call that only reads
  pub reads_does : (d : OneDeskView V S) (c : Call) (state : StateView V S) → ((f : Files) → left d.gate.state.line.vault (count d.gate.state.line.vault) f → ImageOf (disk d.gate.state.line.vault) f)
      → OnlyLooks disk count left d.gate.state state → ((v : DeskView) → Stands disk is_seal d v → Learns v v → Comes c v v)
      → DoesCall disk count left is_seal d c (record d { gate = record d.gate { state = state } }) → DoesCalls disk count left is_seal d (c ∷ []) (record d { gate = record d.gate { state = state } })
  reads_does d c state only looks does said = calls_one disk count left is_seal d (record d { gate = record d.gate { state = state } }) c (record {
    same = record { name_ = ap (λ (s : StateView V S). s.line.name) looks.others; signer_ = ap (λ (s : StateView V S). s.line.signer) looks.others; epoch_ = ap (λ (s : StateView V S). s.line.epoch) looks.others };
    does = said;
    goes = λ v s. record {
      next = v;
      stands = record {
        seat = s.seat;
        alone = s.alone;
        seen = s.seen;
        state = looked_stands disk count left is_seal d.gate.state state v.state looks s.state;
        images = gate_images disk is_seal state v.state (looked_stands disk count left is_seal d.gate.state state v.state looks s.state);
        run = s.run;
        heads = s.heads;
        last = s.last;
      };
      calls_ = (v, does v s (learns_nothing d v s), refl);
      leaves = leaves_more (quiet_walks {away = on_way} only s.state.told looks.reads).leaves (λ f w. behind [] (c ∷ []) v refl refl
          (calm_survives d.gate.state.line.name (is_seal d.gate.state.line.signer) s.state.end v.state f s.state.holds s.state.sound w));
    };
  })

  -- ---- an op

  -- the newest head is the last that a desk knows
  heads_on : (d : OneDeskView V S) (v : DeskView) (s : Stands disk is_seal d v) (st : State) → IsFront v.state.history st.history → (r : Revision) → newest st.history ≡ Some r
      → IsFront v.heads (heads_since v.start st) × (last_head (heads_since v.start st) ≡ Some (head_of r))
  heads_on d v s st front r is =
      let k : ℕ = length v.start.history - 1 in
      let some : last_or None (map head_of (drop k v.state.history)) ≡ Some d.head = subst (λ (l : List Head). last_or None l ≡ Some d.head) s.heads s.last in
      let split : (l : List Revision) → l ≡ v.state.history ++ front.more → map head_of (drop k l) ≡ map head_of (drop k v.state.history) ++ map head_of front.more =
      λ l e. subst (λ (l : List Revision). map head_of (drop k l) ≡ map head_of (drop k v.state.history) ++ map head_of front.more) (sym e) (part_grows head_of k v.state.history front.more d.head some) in
      let last : (l : List Revision) → l ≡ v.state.history ++ front.more → last_or None (map head_of (drop k l)) ≡ option_map head_of (last_or None l) =
      λ l e. subst (λ (l : List Revision). last_or None (map head_of (drop k l)) ≡ option_map head_of (last_or None l)) (sym e) (last_grows head_of k None v.state.history front.more d.head some) in (
        record { more = map head_of front.more; split = split st.history front.split ∙ ap (λ (l : List Head). l ++ map head_of front.more) (sym s.heads) },
        last st.history front.split ∙ ap (option_map head_of) is,
      )

  module _ (d : OneDeskView V S) (after : GateView V S) (head : Head) (o : Op) (now : ℕ) (r : Reply) (knows : head ≡ after.state.line.head) where
    -- the head that the desk knows then is the newest
    head_then : (st : State) → (stands : StandsFor disk is_seal after.state st) → (r : Revision) × (newest st.history ≡ Some r) × (head ≡ head_of r)
    head_then st stands =
        let new = some_newest st.shelf st.history stands.sound.line in
        (new.0, new.1, knows ∙ head_is disk is_seal after.state st stands new.0 new.1)

    -- the journal was full
    full_goes : ((f : Files) → left d.gate.state.line.vault (count d.gate.state.line.vault) f → ImageOf (disk d.gate.state.line.vault) f)
        → length d.gate.journal ≡ JOURNAL_LIMIT → r ≡ reply.JournalFull → after ≡ d.gate → (v : DeskView) → Stands disk is_seal d v
        → Goes disk count left is_seal d (asked o now r ∷ []) (record d { gate = after; head = head }) v
    full_goes only counted is same v s =
        let stands : StandsFor disk is_seal after.state v.state = subst (λ (g : GateView V S). StandsFor disk is_seal g.state v.state) (sym same) s.state in
        let then = head_then v.state stands in
        let on = heads_on d v s v.state (front_self v.state.history) then.0 then.1 in record {
          next = v;
          stands = record {
            seat = s.seat;
            alone = s.alone;
            seen = s.seen ∙ ap (λ (g : GateView V S). g.journal) (sym same);
            state = stands;
            images = gate_images disk is_seal after.state v.state stands;
            run = s.run;
            heads = s.heads;
            last = ap last_head s.heads ∙ on.1 ∙ ap Some (sym then.2);
          };
          calls_ = (v, takes_full is (learns_nothing d v s) (ap length s.seen ∙ counted), refl);
          leaves = subst (λ (g : GateView V S). LeavesOnly count left (IsLeft d.gate.state.line.name (is_seal d.gate.state.line.signer) v (asked o now r ∷ [])) d.gate.state.line.vault g.state.line.vault) (sym same)
              (leaves_more (stand {disk = disk} {away = on_way} {B = Nothing} {E = λ x. Unit {0}} only s.state.told tt).leaves (λ f w. behind [] (asked o now r ∷ []) v refl refl
              (calm_survives d.gate.state.line.name (is_seal d.gate.state.line.signer) s.state.end v.state f s.state.holds s.state.sound w)));
        }

    -- the op was taken
    made_goes : length d.gate.journal < JOURNAL_LIMIT → (e : Entry) → e.seat ≡ 0 → e.now ≡ now → e.reply ≡ r → after.journal ≡ d.gate.journal ++ e ∷ [] → (v : DeskView) → Stands disk is_seal d v
        → Does disk count left is_seal o e d.gate.state after.state v.state → Goes disk count left is_seal d (asked o now r ∷ []) (record d { gate = after; head = head }) v
    made_goes room e seat moment replied journal v s taken =
        let st' : State = taken.next in
        let then = head_then st' taken.stands in
        let on = heads_on d v s st' (grown v.state (e ∷ []) st' (o, st', taken.step, refl)) then.0 then.1 in
        let v' : DeskView = view_at v ((v.seen ++ []) ++ e ∷ []) st' in
        let run : Run v.start (v.seen ++ []) v.state = subst (λ (l : List Entry). Run v.start l v.state) (sym (append-nil v.seen)) s.run in record {
          next = v';
          stands = record {
            seat = s.seat;
            alone = s.alone;
            seen = ap (λ (l : List Entry). l ++ e ∷ []) (append-nil v.seen ∙ s.seen) ∙ sym journal;
            state = taken.stands;
            images = gate_images disk is_seal after.state st' taken.stands;
            run = run_on (v.seen ++ []) (e ∷ []) v.start v.state st' run (o, st', taken.step, refl);
            heads = refl;
            last = on.1 ∙ ap Some (sym then.2);
          };
          calls_ = (
            v',
            takes_made [] v.state e (none_between v s.run) (λ a. subst (λ (l : List Entry). length l < JOURNAL_LIMIT) (sym s.seen) room) (seat ∙ sym s.seat) moment replied taken.step (record { view = refl; heads = on.0 }),
            refl,
          );
          leaves = leaves_more taken.leaves (λ f x. within [] [] v o now r refl refl
              (subst (λ n. Survives d.gate.state.line.name (is_seal d.gate.state.line.signer) v.state (Some (record { op = o; now = n })) f) moment x));
        }

    pub ask_does : ((f : Files) → left d.gate.state.line.vault (count d.gate.state.line.vault) f → ImageOf (disk d.gate.state.line.vault) f)
        → Steps disk count left is_seal o 0 now d.gate after r → DoesCalls disk count left is_seal d (asked o now r ∷ []) (record d { gate = after; head = head })
    ask_does only (full counted is same) = calls_one disk count left is_seal d (record d { gate = after; head = head }) (asked o now r) (record {
      same = subst (λ (g : GateView V S). IsSameRepository d.gate.state.line g.state.line) (sym same) (record { name_ = refl; signer_ = refl; epoch_ = refl });
      does = (full counted is same, knows);
      goes = full_goes only counted is same;
    })
    ask_does only (made room more e seat moment replied records journal repository exact doubt damage does) = calls_one disk count left is_seal d (record d { gate = after; head = head }) (asked o now r) (record {
      same = repository;
      does = (made room more e seat moment replied records journal repository exact doubt damage does, knows);
      goes = λ v s. made_goes room e seat moment replied journal v s (does v.state s.state);
    })

-- the repository keeps its name in a step
pub steps_name : {V S : Type 0} (disk : V → Option Disk) (count : V → ℕ) (left : V → ℕ → Files → Type 0) (is_seal : S → List ℕ → List ℕ → Bool) (o : Op) (seat now : ℕ) (before after : GateView V S) (r : Reply)
    → Steps disk count left is_seal o seat now before after r → after.state.line.name ≡ before.state.line.name
steps_name disk count left is_seal o seat now before after r (full counted is same) = ap (λ (g : GateView _ _). g.state.line.name) same
steps_name disk count left is_seal o seat now before after r (made room more e seat_ moment replied records journal repository exact doubt damage does) = repository.name_

-- ---- an object

-- what a fetch gives of a shelf is what stands there
pub finds_of : (id : ObjectId) (shelf : Shelf) → IsShelf shelf → (r : Result (Option (List ℕ)) ShelfFault) → Fetches id r shelf → Finds id shelf r
finds_of id shelf h (Ok found) given = elim (shelf id) as (λ o. shelf id ≡ o → Gives id o (Ok found) → found ≡ o) [
  | None ↦ λ _ e. cc
  | Some bytes ↦ λ there e. (
      let same : bytes_eq (sha1 bytes) id.hash ≡ true = subst (λ x. bytes_eq (sha1 bytes) x ≡ true) (sym (h.hash id bytes there)) (bytes_eq-own (sha1 bytes)) in
      let f : Ok found ≡ Ok (Some bytes) = e ∙ rw same refl in
      cc)
] refl given
finds_of id shelf h (Err Failed) given = tt
finds_of id shelf h (Err (Damaged named found)) given = elim (shelf id) as (λ o. shelf id ≡ o → Gives id o (Err (Damaged named found)) → ⊥) [
  | None ↦ λ _ e. absurd cc
  | Some bytes ↦ λ there e. (
      let same : bytes_eq (sha1 bytes) id.hash ≡ true = subst (λ x. bytes_eq (sha1 bytes) x ≡ true) (sym (h.hash id bytes there)) (bytes_eq-own (sha1 bytes)) in
      let f : Err (Damaged named found) ≡ Ok (Some bytes) = e ∙ rw same refl in
      absurd cc)
] refl given
finds_of id shelf h (Err NoMemory) given = tt

-- ---- what is told

module _ {V S : Type 0} (disk : V → Option Disk) (count : V → ℕ) (left : V → ℕ → Files → Type 0) (is_seal : S → List ℕ → List ℕ → Bool) (d : OneDeskView V S)
    (only : (f : Files) → left d.gate.state.line.vault (count d.gate.state.line.vault) f → ImageOf (disk d.gate.state.line.vault) f) where
  -- the list of leases, or none where memory was wanted
  pub lists_does : (now : ℕ) (lines : Option (List LeaseLine)) → IfSome lines (λ l. l ≡ lines_of (max d.gate.state.moment now) d.gate.state.leases) → DoesCalls disk count left is_seal d (listed now lines ∷ []) d
  lists_does now lines is = reads_does disk count left is_seal d (listed now lines) d.gate.state only (looks_none disk count left d.gate.state) (λ v s learns. (learns, by v s lines is)) (refl, is)
    where
      by : (v : DeskView) → Stands disk is_seal d v → (lines : Option (List LeaseLine)) → IfSome lines (λ l. l ≡ lines_of (max d.gate.state.moment now) d.gate.state.leases) → IfSome lines (λ l. l ≡ lines_of (max v.state.moment now) v.state.leases)
      by v s None is = tt
      by v s (Some l) is = is ∙ (λ i. lines_of (max (s.state.moment i) now) (s.state.leases i))

  -- the newest head
  pub tells_does : DoesCalls disk count left is_seal d (told d.head ∷ []) d
  tells_does = reads_does disk count left is_seal d (told d.head) d.gate.state only (looks_none disk count left d.gate.state) (λ v s learns. record {
    others = [];
    state = v.state;
    between = none_between v s.run;
    view = ap (λ (l : List Head). record v { heads = l }) s.heads;
    heads = front_self v.heads;
    last = s.last;
  }) (refl, refl)

  -- an object
  pub fetches_does : (state : StateView V S) (id : ObjectId) (r : Result (Option (List ℕ)) ShelfFault) → OnlyLooks disk count left d.gate.state state → WhereTold (disk d.gate.state.line.vault) (λ e. Fetches id r (standing_on e))
      → DoesCalls disk count left is_seal d (fetched id r ∷ []) (record d { gate = record d.gate { state = state } })
  fetches_does state id r looks seen = reads_does disk count left is_seal d (fetched id r) state only looks (λ v s learns. (
    learns,
    finds_of id v.state.shelf s.state.sound.hashes r (subst (λ (x : Shelf). Fetches id r x) (sym (shelf_stands d.gate.state.line.name (is_seal d.gate.state.line.signer) s.state.end v.state s.state.holds s.state.sound.hashes)) (seen s.state.end s.state.told)),
  )) (refl, looks, seen)

  -- the same, whatever became of the call
  pub lists_all : {Z X : Type 0} (now : ℕ) (r : Result (Vec LeaseLine Z) X) → IfOk r (λ lines. lines.items ≡ lines_of (max d.gate.state.moment now) d.gate.state.leases)
      → MatchResult r (λ lines. DoesCalls disk count left is_seal d (listed now (Some lines.items) ∷ []) d) (λ _. DoesCalls disk count left is_seal d (listed now None ∷ []) d)
  lists_all now (Ok lines) h = lists_does now (Some lines.items) h
  lists_all now (Err x) h = lists_does now None tt

  pub fetches_over : (gate : GateView V S) (id : ObjectId) (r : Result (Option (List ℕ)) ShelfFault) → OnlyLooks disk count left d.gate.state gate.state → gate.journal ≡ d.gate.journal → gate.ready ≡ d.gate.ready
      → WhereTold (disk d.gate.state.line.vault) (λ e. Fetches id r (standing_on e)) → DoesCalls disk count left is_seal d (fetched id r ∷ []) (record d { gate = gate })
  fetches_over gate id r looks same idle seen =
      subst (λ (g : GateView V S). DoesCalls disk count left is_seal d (fetched id r ∷ []) (record d { gate = g })) (λ i. record { state = gate.state; journal = sym same i; ready = sym idle i }) (fetches_does gate.state id r looks seen)

-- ---- a desk over a gate

-- the last of a part at the end that isn't empty is the last of all
last_of_part : {A B : Type 0} (f : A → B) (k : ℕ) (xs : List A) (o : Option A) (x : A) → k < length xs → last_or o xs ≡ Some x → last_or None (map f (drop k xs)) ≡ Some (f x)
last_of_part f k [] o x below is = absurd (omega (arith, below))
last_of_part f zero (a ∷ xs) o x below is = last_map f (Some a) xs ∙ ap (option_map f) is
last_of_part f (suc k) (a ∷ xs) o x below is = last_of_part f k xs (Some a) x (omega (arith, below)) is

some_long : {T : Type 0} (xs : List T) (x : T) → last_or None xs ≡ Some x → 0 < length xs
some_long [] x is = cc
some_long (a ∷ xs) x is = omega arith

-- the newest head is the last since the opening
heads_last : (start : State) (entries : List Entry) (st : State) (r : Revision) → Run start entries st → newest st.history ≡ Some r → last_head (heads_since start st) ≡ Some (head_of r)
heads_last start entries st r run is =
    let front = grown start entries st run in
    let size : length st.history ≡ length start.history + length front.more = ap length front.split ∙ length-append start.history front.more in
    let long = some_long st.history r is in
    last_of_part head_of (length start.history - 1) st.history None r (omega (arith, size, long)) is

pub new_stands : {V S : Type 0} (disk : V → Option Disk) (is_seal : S → List ℕ → List ℕ → Bool) (d : OneDeskView V S) (start st : State) → d.head ≡ d.gate.state.line.head → Run start d.gate.journal st
    → StandsFor disk is_seal d.gate.state st → Stands disk is_seal d (view_since start d.gate.journal st)
new_stands disk is_seal d start st head run stands =
    let new = some_newest st.shelf st.history stands.sound.line in record {
      seat = refl;
      alone = refl;
      seen = refl;
      state = stands;
      images = gate_images disk is_seal d.gate.state st stands;
      run = run;
      heads = refl;
      last = heads_last start d.gate.journal st new.0 run new.1 ∙ ap Some (sym (head ∙ head_is disk is_seal d.gate.state st stands new.0 new.1));
    }
