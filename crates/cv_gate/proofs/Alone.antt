-- The calls of a desk that asks alone.
use Rattle.std.proofs.Common.{◌≡◌, ◌++◌, ◌∷◌, ℕ, List, [], length, length-append, refl, ap, sym, subst, ◌∙◌, append_assoc, append-nil, true}
use Rattle.std.specs.Prelude.{IfSome, max}
use Rattle.cv_gate.specs.State.{State}
use Rattle.cv_gate.specs.Step.{Step, Run}
use Rattle.cv_gate.specs.declared.entry.Entry.{Entry}
use Rattle.cv_gate.specs.declared.reply.Reply.{Reply}
use Rattle.cv_gate.specs.Lines.{lines_of}
use Rattle.cv_gate.specs.Heads.{head_of, heads_since, last_head}
use Rattle.cv_gate.specs.declared.entry.TheConstants.{JOURNAL_LIMIT}
use Rattle.cv_gate.specs.Desk.{DeskView, Call, asked, listed, fetched, told, Knows, Learns, made, full, Finds, Does, Calls}
use Rattle.cv_gate.specs.Solo.{IsAlone, Answers, AnswersAll, Makes, steps, lists, fetches, tells}
use Rattle.cv_gate.specs.Solo.{full as answers_full}
use Rattle.cv_gate.proofs.Runs.{run_on, last_of_part}

-- what one call made
record MakesOne (v : DeskView) (c : Call) (v' : DeskView) : Type 0 where
  entries : List Entry
  answers : Answers (length v.seen) v.state c entries v'.state
  journal : v'.seen ≡ v.seen ++ entries
  run : Run v.state entries v'.state
  after : IsAlone v'

-- a desk that asks alone still does
knows_alone : (v v' : DeskView) (seen : List Entry) → Knows v seen v' → v.alone ≡ true → Run v.start seen v'.state → IsAlone v'
knows_alone v v' seen knows alone run =
    let start : v'.start ≡ v.start = ap (λ (x : DeskView). x.start) knows.view in
    let seen_is : v'.seen ≡ seen = ap (λ (x : DeskView). x.seen) knows.view in
    record {
      alone = ap (λ (x : DeskView). x.alone) knows.view ∙ alone;
      run = subst (λ (s : State). Run s v'.seen v'.state) (sym start) (subst (λ (l : List Entry). Run v.start l v'.state) (sym seen_is) run);
      heads = ap (λ (x : DeskView). x.heads) knows.view ∙ ap (λ (s : State). heads_since s v'.state) (sym start);
    }

-- where it learns it learns nothing new
record Same (v v' : DeskView) : Type 0 where
  state : v'.state ≡ v.state
  seen : v'.seen ≡ v.seen ++ []
  after : IsAlone v'

learns_same : (v v' : DeskView) → Learns v v' → IsAlone v → Same v v'
learns_same v v' l a =
    let none = l.between.alone a.alone in
    record {
      state = none.1;
      seen = ap (λ (x : DeskView). x.seen) l.knows.view ∙ ap (λ (e : List Entry). v.seen ++ e) none.0;
      after = knows_alone v v' (v.seen ++ l.others) l.knows a.alone l.between.run;
    }

quiet : (v v' : DeskView) (c : Call) → Answers (length v.seen) v.state c [] v.state → Same v v' → MakesOne v c v'
quiet v v' c answers s = record {
  entries = [];
  answers = subst (λ (st : State). Answers (length v.seen) v.state c [] st) (sym s.state) answers;
  journal = s.seen;
  run = s.state;
  after = s.after;
}

one_call : (v : DeskView) (c : Call) (v' : DeskView) → Does c v v' → IsAlone v → MakesOne v c v'
one_call v (asked o now r) v' (made others before e between room seat moment is step knows) a =
    let none = between.alone a.alone in
    let stepped : Step v.state o e v'.state = subst (λ (st : State). Step st o e v'.state) none.1 step in
    record {
      entries = e ∷ [];
      answers =
          subst (λ (n : ℕ). Answers (length v.seen) v.state (asked o n r) (e ∷ []) v'.state) moment
          (subst (λ (x : Reply). Answers (length v.seen) v.state (asked o e.now x) (e ∷ []) v'.state) is (steps o e v'.state (room a.alone) stepped));
      journal = ap (λ (x : DeskView). x.seen) knows.view ∙ ap (λ (l : List Entry). l ++ e ∷ []) (ap (λ (l : List Entry). v.seen ++ l) none.0 ∙ append-nil v.seen);
      run = (o, v'.state, stepped, refl);
      after = knows_alone v v' _ knows a.alone (run_on (v.seen ++ others) (e ∷ []) v.start before v'.state between.run (o, v'.state, step, refl));
    }
one_call v (asked o now r) v' (full is learns count) a =
    let same = learns_same v v' learns a in
    let counted : length v.seen ≡ JOURNAL_LIMIT = ap length (sym (same.seen ∙ append-nil v.seen)) ∙ count in
    quiet v v' (asked o now r) (subst (λ (x : Reply). Answers (length v.seen) v.state (asked o now x) [] v.state) (sym is) (answers_full o now counted)) same
one_call v (listed now lines) v' does a =
    let same = learns_same v v' does.0 a in
    quiet v v' (listed now lines) (lists now lines (subst (λ (st : State). IfSome lines (λ l. l ≡ lines_of (max st.moment now) st.leases)) same.state does.1)) same
one_call v (fetched id r) v' does a =
    let same = learns_same v v' does.0 a in
    quiet v v' (fetched id r) (fetches id r (subst (λ (st : State). Finds id st.shelf r) same.state does.1)) same
one_call v (told head) v' does a =
    let heads : v'.heads ≡ heads_since v.start v.state =
    ap (λ (x : DeskView). x.heads) does.view ∙ ap (heads_since v.start) (does.between.alone a.alone).1 in
    let start : v'.start ≡ v.start = ap (λ (x : DeskView). x.start) does.view in
    let seen : v'.seen ≡ v.seen = ap (λ (x : DeskView). x.seen) does.view in
    let state : v'.state ≡ v.state = ap (λ (x : DeskView). x.state) does.view in
    let last = sym (ap last_head heads) ∙ does.last in
    quiet v v' (told head) (tells head (last_of_part head_of _ v.state.history head last)) (record {
      state = state;
      seen = seen ∙ sym (append-nil v.seen);
      after = record {
        alone = ap (λ (x : DeskView). x.alone) does.view ∙ a.alone;
        run = rw (start, seen, state) a.run;
        heads = heads ∙ rw (start, state) refl;
      };
    })

pub all_calls : (v v' : DeskView) (calls : List Call) → Calls v calls v' → IsAlone v → Makes v calls v'
all_calls v v' [] same a = record {
  entries = [];
  answers = (refl, ap (λ (x : DeskView). x.state) same);
  journal = ap (λ (x : DeskView). x.seen) same ∙ sym (append-nil v.seen);
  run = ap (λ (x : DeskView). x.state) same;
  after = subst IsAlone (sym same) a;
}
all_calls v v' (c ∷ calls) does a =
    let one = one_call v c does.0 does.1 a in
    let more = all_calls does.0 v' calls does.2 one.after in
    record {
      entries = one.entries ++ more.entries;
      answers = (
        one.entries,
        more.entries,
        does.0.state,
        refl,
        one.answers,
        subst (λ n. AnswersAll n does.0.state calls more.entries v'.state) (ap length one.journal ∙ length-append v.seen one.entries) more.answers,
      );
      journal = more.journal ∙ ap (λ (l : List Entry). l ++ more.entries) one.journal ∙ append_assoc v.seen one.entries more.entries;
      run = run_on one.entries more.entries v.state does.0.state v'.state one.run more.run;
      after = more.after;
    }
