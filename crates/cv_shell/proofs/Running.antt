-- Lines are answered, one after another.
use Rattle.std.proofs.Common.{◌≡◌, ◌++◌, ◌∷◌, ℕ, Bool, List, [], refl, sym, ap, subst, ◌∙◌, inl, inr, append_assoc, append-nil}
use Rattle.std.proofs.lemmas.List.{flat_map_more}
use Rattle.std.specs.Prelude.{Option, Some, None, Ok, Err}
use Rattle.cv_ports.specs.Streams.{Look, front, onto}
use Rattle.cv_ports.proofs.Laws.{front_twice, onto_twice, onto_none}
use Rattle.cv_http.specs.Wires.{WireView, HasEnded, Draws, Looks, Beside}
use Rattle.cv_resolver.specs.Resolver.{Client}
use Rattle.cv_client.specs.Exchange.{Links}
use Rattle.cv_client.specs.declared.url.Url.{Url}
use Rattle.cv_shell.specs.EndsInner.{end_of_fault}
use Rattle.cv_shell.specs.Lines.{IsLine, IsNext, LineRead, closed, last}
use Rattle.cv_shell.specs.Shells.{Turn, printed, Answered, Runs, Ends, Shells, ReadsUpToDate, begins, goes, written, ended, too_long, unread, by_line, no_memory}
use Rattle.cv_shell.specs.declared.lines.LineFault.{LineFault}
use Rattle.cv_shell.specs.declared.lines.LineFault.TheVariants.{TooLong, ReadFault, NoMemory}
use Rattle.cv_shell.specs.declared.shell_end.ShellEnd.{ShellEnd}
use Rattle.cv_shell.specs.declared.shell_end.ShellEnd.TheVariants.{Ended, OutputFailed}
use Rattle.cv_shell.specs.declared.shell_end.ShellEnd.TheVariants as shell_end

-- the next line, where more is read behind it
next_more : {left left' : Option (List ℕ)} {rest line later : List ℕ} (more : List ℕ) → left ≡ front more left' → IsNext left rest line later → IsNext left' (rest ++ more) line (later ++ more)
next_more {left} {left'} {rest} {line} {later} more told (closed is split) = closed is (ap (λ (x : List ℕ). x ++ more) split ∙ append_assoc line (10 ∷ later) more)
next_more {left} {left'} {rest} {line} {later} more told (last is some split none) =
    last is some (ap (λ (x : List ℕ). x ++ more) split ∙ append_assoc line later more) (subst HasEnded (ap (front later) told ∙ front_twice left' later more) none)

-- one turn more
turns_more : (taken : Option (List ℕ)) {now now' : Option (List ℕ)} (turns : List Turn) (t : Turn) → now ≡ onto taken (printed turns) → now' ≡ onto now t.text → now' ≡ onto taken (printed (turns ++ t ∷ []))
turns_more taken turns t took wrote =
    wrote ∙ ap (λ o. onto o t.text) took ∙ onto_twice taken (printed turns) t.text ∙ ap (onto taken) (flat_map_more (λ (x : Turn). x.text) [] turns t)

module _ (is_seal : List ℕ → List ℕ → Bool) (u : Url) (Fit : List Turn → Type 0) (l : Links) (r : Client) (taken : Option (List ℕ)) where
  -- the lines before were answered, and what was printed is taken
  pub record SoFar (left : Option (List ℕ)) (b rest : List ℕ) (before : Links) (c : Client) (now : Option (List ℕ)) : Type 0 where
    pub turns : List Turn
    pub runs : Runs is_seal u left b l r turns rest before c
    pub took : now ≡ onto taken (printed turns)
    pub reads : Fit turns

  pub at_first : (left : Option (List ℕ)) (b : List ℕ) → Fit [] → SoFar left b b l r taken
  at_first left b reads = record { turns = []; runs = begins; took = onto_none taken; reads = reads }

module _ {is_seal : List ℕ → List ℕ → Bool} {u : Url} {l : Links} {r : Client} {left left' : Option (List ℕ)} {b : List ℕ} (more : List ℕ) (told : left ≡ front more left') where
  -- the same lines, where more is read behind them
  runs_more : {turns : List Turn} {rest : List ℕ} {before : Links} {c : Client} → Runs is_seal u left b l r turns rest before c → Runs is_seal u left' (b ++ more) l r turns (rest ++ more) before c
  runs_more begins = begins
  runs_more (goes t runs next turns) = goes t (runs_more runs) (next_more more told next) turns

  module _ {Fit : List Turn → Type 0} {taken : Option (List ℕ)} {rest : List ℕ} {before : Links} {c : Client} {now : Option (List ℕ)} (so : SoFar is_seal u Fit l r taken left b rest before c now) where
    -- one more line was answered
    pub one_more : {line later : List ℕ} {after : Links} {c' : Client} {now' : Option (List ℕ)} (end : Option ShellEnd) → ((e : ShellEnd) → end ≡ Some e → ⊥) → ((t : Turn) → Fit so.turns → Fit (so.turns ++ t ∷ []))
        → IsNext left' (rest ++ more) line later → Answered is_seal u line before after c c' now now' end → SoFar is_seal u Fit l r taken left' (b ++ more) later after c' now'
    one_more {line} None lacks grows next (written text turns took) =
        let t : Turn = record { line = line; text = text } in
        record {
          turns = so.turns ++ t ∷ [];
          runs = goes t (runs_more so.runs) next turns;
          took = turns_more taken so.turns t so.took took;
          reads = grows t so.reads;
        }
    one_more (Some e) lacks grows next answered = absurd (lacks e refl)

    -- the shell ends behind these turns
    ends_so : {passed passed' : Option (List ℕ)} {l' : Links} {r' : Client} {now' : Option (List ℕ)} {end : ShellEnd} → Ends is_seal u left' (b ++ more) l l' r r' taken now' so.turns end
        → (end ≡ OutputFailed → passed ≡ taken → passed' ≡ onto taken (printed so.turns)) → Shells is_seal u Fit left' (b ++ more) l l' r r' taken now' passed passed' end
    ends_so ends broke = record { turns = so.turns; ends = ends; reads = so.reads; broke = broke }

    -- one more ended the shell
    pub one_last : {passed passed' : Option (List ℕ)} {line later : List ℕ} {after : Links} {c' : Client} {now' : Option (List ℕ)} {end : ShellEnd} → IsNext left' (rest ++ more) line later
        → (end ≡ OutputFailed → passed ≡ taken → passed' ≡ now) → Answered is_seal u line before after c c' now now' (Some end) → Shells is_seal u Fit left' (b ++ more) l after r c' taken now' passed passed' end
    one_last {line = line} {later = later} {after = after} {c' = c'} {now' = now'} {end = end} next broke answered =
        ends_so (by_line (rest ++ more) line later before c end (runs_more so.runs) next
        (subst (λ (o : Option (List ℕ)). Answered is_seal u line before after c c' o now' (Some end)) so.took answered))
        (λ is was. broke is was ∙ so.took)

    -- the input has ended
    pub none_more : {passed passed' : Option (List ℕ)} (held : List ℕ) → LineRead left' (rest ++ more) held (Ok None) → Shells is_seal u Fit left' (b ++ more) l before r c taken now passed passed' Ended
    none_more held read = ends_so (ended (subst (λ (x : List ℕ). Runs is_seal u left' (b ++ more) l r so.turns x before c) read.0 (runs_more so.runs)) read.2 so.took) (λ is was. cc)

    -- no line was read
    pub not_read : {passed passed' : Option (List ℕ)} (held : List ℕ) (fault : LineFault) → LineRead left' (rest ++ more) held (Err fault) → Shells is_seal u Fit left' (b ++ more) l before r c taken now passed passed' (end_of_fault fault)
    not_read held TooLong read = ends_so (too_long (rest ++ more) (runs_more so.runs) read.0 so.took) (λ is was. cc)
    not_read held ReadFault read = ends_so (unread (rest ++ more) (runs_more so.runs) read.0 so.took) (λ is was. cc)
    not_read held NoMemory read = ends_so (no_memory (rest ++ more) (runs_more so.runs) so.took) (λ is was. cc)

-- no other line is read
pub tired : {is_seal : List ℕ → List ℕ → Bool} {u : Url} {Fit : List Turn → Type 0} {l : Links} {r : Client} {left : Option (List ℕ)} {b : List ℕ} {taken passed passed' : Option (List ℕ)} {rest : List ℕ} {before : Links} {c : Client} {now : Option (List ℕ)}
    → SoFar is_seal u Fit l r taken left b rest before c now → Shells is_seal u Fit left b l before r c taken now passed passed' shell_end.NoMemory
tired {rest = rest} so = record { turns = so.turns; ends = no_memory rest so.runs so.took; reads = so.reads; broke = λ is was. cc }

-- ---- when the source is read

module _ (is_seal : List ℕ → List ℕ → Bool) (u : Url) {R : Type 0} (left given : R → Option (List ℕ)) (looks : R → Look → Type 0) (w0 : WireView R) (l : Links) (r : Client) (taken passed : Option (List ℕ)) where
  abbrev Reads : WireView R → List Turn → Type 0
  Reads w = ReadsUpToDate is_seal u left looks w0 w l r taken passed

  -- a turn more
  pub up_to_date_grows : (w : WireView R) (turns : List Turn) (t : Turn) → Reads w turns → Reads w (turns ++ t ∷ [])
  up_to_date_grows w turns t reads = λ was look is.
      elim (reads was look is) [
        | inl old ↦ inl old
        | inr so ↦ inr (record {
          got = so.got;
          told = so.told;
          first = so.first;
          later = so.later ++ t ∷ [];
          split = ap (λ (x : List Turn). x ++ t ∷ []) so.split ∙ append_assoc so.first so.later (t ∷ []);
          rest = so.rest;
          before = so.before;
          client = so.client;
          runs = so.runs;
          part = so.part;
          said = so.said;
        })
      ]

  -- the next line was read where each before was answered
  pub up_to_date_on : {before : Links} {c : Client} {now passed' : Option (List ℕ)} (w w' : WireView R) → Draws left given w0 w (λ b. SoFar is_seal u (Reads w) l r taken (left w.source) b w.held before c now)
      → (passed ≡ taken → passed' ≡ now) → Looks left looks w w' (Beside passed' IsLine) → Draws left given w0 w (λ b. SoFar is_seal u (Reads w') l r taken (left w.source) b w.held before c now)
  up_to_date_on {before} {c} w w' draws flushed next =
      let so = draws.are in
      record {
        got = draws.got;
        told = draws.told;
        gave = draws.gave;
        are = record {
          turns = so.turns;
          runs = so.runs;
          took = so.took;
          reads = λ was look is.
              elim (next look is) [
                | inl old ↦ so.reads was look old
                | inr at ↦ inr (record {
                  got = draws.got ++ at.got;
                  told = draws.told ∙ ap (front draws.got) at.told ∙ front_twice look.left draws.got at.got;
                  first = so.turns;
                  later = [];
                  split = sym (append-nil so.turns);
                  rest = w.held ++ at.got;
                  before = before;
                  client = c;
                  runs = subst (λ (x : List ℕ). Runs is_seal u look.left x l r so.turns (w.held ++ at.got) before c) (append_assoc w0.held draws.got at.got) (runs_more at.got at.told so.runs);
                  part = at.are.0;
                  said = at.are.1 ∙ flushed was ∙ so.took;
                })
              ];
        };
      }
