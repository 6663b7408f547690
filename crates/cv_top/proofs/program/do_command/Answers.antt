use Rattle.std.proofs.Common.{refl, ap, sym, subst, map, ◌∙◌, Err, inl, inr, arith}
use Rattle.std.specs.Prelude.{string_bytes}
use Rattle.cv_client.proofs.Lemmas.{asks_none}
use Rattle.cv_keys.specs.KeysText.{keys_of}
use Rattle.cv_top.specs.Runs.{usage, bad_keys, unbegun}
use Rattle.cv_words.specs.Words.{Asks}
use Rattle.cv_words.proofs.Laws.{no_init, no_stdio, no_shell, no_publish, unmarked}
use Rattle.cv_top.proofs.Folders.{inits_fine, lines_fine, looks_fine, sealed_fine, serves_fine}
use Rattle.cv_top.proofs.KeyFaults.{fault_or_memory}
use Rattle.cv_top.proofs.Sealing.{runs_init, runs_stdio, runs_look, runs_shell, runs_publish}
use Rattle.cv_top.proofs.program.do_command.Goals as goal

pub returns-in-Ok-Init-clause-runs : goal.returns-in-Ok-Init-clause-runs
returns-in-Ok-Init-clause-runs g c =
    runs_init g.V.Vault.disk g.V.Vault.count g.V.Vault.left g.V.Vault.faults g.R.Source.left g.R.Source.given g.R.Source.looks g.W.Sink.taken g.W.Sink.passed g.C.Clock.moments g.F.Folder.holds g.F.Folder.named g.N.Dial.came
    (map string_bytes c.args.words.now) c.args.keys.now c.args.seal.now _ _ _ _ _ _ _ _ _ _ _ (subst (Asks (map string_bytes c.args.words.now)) c.in-Ok-Init.field-0-is c.in-Ok-Init.ensures.command)
    c.do_init-status.ensures.does

pub returns-in-Ok-clause-runs : goal.returns-in-Ok-clause-runs
returns-in-Ok-clause-runs g c =
    runs_stdio g.V.Vault.disk g.V.Vault.count g.V.Vault.left g.V.Vault.faults g.R.Source.left g.R.Source.given g.R.Source.looks g.W.Sink.taken g.W.Sink.passed g.C.Clock.moments g.F.Folder.holds g.F.Folder.named g.N.Dial.came
    (map string_bytes c.args.words.now) c.args.keys.now c.args.seal.now _ _ _ _ _ _ _ _ _ _ _ _ (subst (Asks (map string_bytes c.args.words.now)) c.in-Ok-Stdio.field-0-is c.in-Ok-Stdio.ensures.command)
    _ (ap keys_of (sym c.as_bytes.ensures.value) ∙ sym c.in-Ok.ensures) c.do_stdio.ensures.does

pub returns-in-Ok-Look-clause-runs : goal.returns-in-Ok-Look-clause-runs
returns-in-Ok-Look-clause-runs g c =
    runs_look g.V.Vault.disk g.V.Vault.count g.V.Vault.left g.V.Vault.faults g.R.Source.left g.R.Source.given g.R.Source.looks g.W.Sink.taken g.W.Sink.passed g.C.Clock.moments g.F.Folder.holds g.F.Folder.named g.N.Dial.came
    (map string_bytes c.args.words.now) c.args.keys.now c.args.seal.now _ _ _ _ _ _ _ _ _ _ _ (subst (Asks (map string_bytes c.args.words.now)) c.in-Ok-Look.field-0-is c.in-Ok-Look.ensures.command)
    c.do_look-status.ensures.does

pub returns-in-Ok-Shell-clause-runs : goal.returns-in-Ok-Shell-clause-runs
returns-in-Ok-Shell-clause-runs g c =
    runs_shell g.V.Vault.disk g.V.Vault.count g.V.Vault.left g.V.Vault.faults g.R.Source.left g.R.Source.given g.R.Source.looks g.W.Sink.taken g.W.Sink.passed g.C.Clock.moments g.F.Folder.holds g.F.Folder.named g.N.Dial.came
    (map string_bytes c.args.words.now) c.args.keys.now c.args.seal.now _ _ _ _ _ _ _ _ _ _ _ (subst (Asks (map string_bytes c.args.words.now)) c.in-Ok-Shell.field-0-is c.in-Ok-Shell.ensures.command)
    c.do_shell-status.ensures.does

pub returns-in-Ok-Publish-clause-runs : goal.returns-in-Ok-Publish-clause-runs
returns-in-Ok-Publish-clause-runs g c =
    runs_publish g.V.Vault.disk g.V.Vault.count g.V.Vault.left g.V.Vault.faults g.R.Source.left g.R.Source.given g.R.Source.looks g.W.Sink.taken g.W.Sink.passed g.C.Clock.moments g.F.Folder.holds g.F.Folder.named g.N.Dial.came
    (map string_bytes c.args.words.now) c.args.keys.now c.args.seal.now _ _ _ _ _ _ _ _ _ _ _ _ _ (subst (Asks (map string_bytes c.args.words.now)) c.in-Ok-Publish.field-0-is c.in-Ok-Publish.ensures.command)
    _ c.do_publish-status.ensures.does

pub do_publish-status-requires : goal.do_publish-status-requires
do_publish-status-requires g c = unmarked _ _ _ (subst (Asks (map string_bytes c.args.words.now)) c.in-Ok-Publish.field-0-is c.in-Ok-Publish.ensures.command)

pub returns-in-Err-Usage-clause-runs : goal.returns-in-Err-Usage-clause-runs
returns-in-Err-Usage-clause-runs g c = usage (c.read_words.ensures.usage (c.in-Err-Usage.is ∙ ap (λ fault. Err fault) c.in-Err-Usage.field-0-is)) refl

pub returns-in-Ok-Stdio-clause-runs : goal.returns-in-Ok-Stdio-clause-runs
returns-in-Ok-Stdio-clause-runs g c =
    elim (fault_or_memory c.in-Err.fault _ c.in-Err.ensures) [
      | inl both ↦ rw (c.of_keys.ensures ∙ both.1) (bad_keys c.in-Ok-Stdio.name (subst (Asks (map string_bytes c.args.words.now)) c.in-Ok-Stdio.field-0-is c.in-Ok-Stdio.ensures.command)
          (record { fault = c.in-Err.fault; is = ap keys_of (sym c.as_bytes.ensures.value) ∙ both.0 }) refl)
      | inr lacks ↦ rw (c.of_keys.ensures ∙ lacks) (unbegun refl)
    ]

pub returns-clause-runs : goal.returns-clause-runs
returns-clause-runs g c = unbegun refl

pub returns-in-Ok-Init-clause-answered : goal.returns-in-Ok-Init-clause-answered
returns-in-Ok-Init-clause-answered g c = λ writes links asked some.
    absurd (no_init asked.url asked.question c.in-Ok-Init.name asked.asks (subst (Asks (map string_bytes c.args.words.now)) c.in-Ok-Init.field-0-is c.in-Ok-Init.ensures.command))

pub returns-in-Ok-clause-answered : goal.returns-in-Ok-clause-answered
returns-in-Ok-clause-answered g c = λ writes links asked some.
    absurd (no_stdio asked.url asked.question c.in-Ok-Stdio.name asked.asks (subst (Asks (map string_bytes c.args.words.now)) c.in-Ok-Stdio.field-0-is c.in-Ok-Stdio.ensures.command))

pub returns-in-Ok-Stdio-clause-answered : goal.returns-in-Ok-Stdio-clause-answered
returns-in-Ok-Stdio-clause-answered g c = λ writes links asked some.
    absurd (no_stdio asked.url asked.question c.in-Ok-Stdio.name asked.asks (subst (Asks (map string_bytes c.args.words.now)) c.in-Ok-Stdio.field-0-is c.in-Ok-Stdio.ensures.command))

pub returns-in-Ok-Look-clause-answered : goal.returns-in-Ok-Look-clause-answered
returns-in-Ok-Look-clause-answered g c = λ writes links asked some. record {
  url = _;
  question = _;
  asks = subst (Asks (map string_bytes c.args.words.now)) c.in-Ok-Look.field-0-is c.in-Ok-Look.ensures.command;
  answered = c.do_look-status.ensures.answered writes links some;
}

pub returns-in-Ok-Shell-clause-answered : goal.returns-in-Ok-Shell-clause-answered
returns-in-Ok-Shell-clause-answered g c = λ writes links asked some.
    absurd (no_shell asked.url _ asked.question asked.asks (subst (Asks (map string_bytes c.args.words.now)) c.in-Ok-Shell.field-0-is c.in-Ok-Shell.ensures.command))

pub returns-in-Ok-Publish-clause-answered : goal.returns-in-Ok-Publish-clause-answered
returns-in-Ok-Publish-clause-answered g c = λ writes links asked some.
    absurd (no_publish asked.url _ asked.question _ _ asked.asks (subst (Asks (map string_bytes c.args.words.now)) c.in-Ok-Publish.field-0-is c.in-Ok-Publish.ensures.command))

pub returns-in-Err-Usage-clause-answered : goal.returns-in-Err-Usage-clause-answered
returns-in-Err-Usage-clause-answered g c = λ writes links asked some.
    absurd (c.read_words.ensures.usage (c.in-Err-Usage.is ∙ ap (λ fault. Err fault) c.in-Err-Usage.field-0-is) (record { command = _; asks = asked.asks }))

pub returns-clause-answered : goal.returns-clause-answered
returns-clause-answered g c = λ writes links asked some. record {
  url = asked.url;
  question = asked.question;
  asks = asked.asks;
  answered = λ files s t m has. record { so = tt; whole = refl };
}

pub returns-in-Ok-Init-clause-folders : goal.returns-in-Ok-Init-clause-folders
returns-in-Ok-Init-clause-folders g c = record { later = omega arith; failed = λ is. absurd (sealed_fine (λ s does. inits_fine does) c.do_init-status.ensures.does is) }

pub returns-in-Ok-clause-folders : goal.returns-in-Ok-clause-folders
returns-in-Ok-clause-folders g c = record { later = omega arith; failed = λ is. absurd (sealed_fine (λ s does. serves_fine does) c.do_stdio.ensures.does is) }

pub returns-in-Ok-Look-clause-folders : goal.returns-in-Ok-Look-clause-folders
returns-in-Ok-Look-clause-folders g c = record { later = omega arith; failed = λ is. absurd (sealed_fine (λ s does. looks_fine does) c.do_look-status.ensures.does is) }

pub returns-in-Ok-Shell-clause-folders : goal.returns-in-Ok-Shell-clause-folders
returns-in-Ok-Shell-clause-folders g c = record { later = omega arith; failed = λ is. absurd (sealed_fine (λ s does. lines_fine does) c.do_shell-status.ensures.does is) }

pub returns-in-Ok-Init-clause-asks : goal.returns-in-Ok-Init-clause-asks
returns-in-Ok-Init-clause-asks g c = asks_none

pub returns-in-Ok-clause-asks : goal.returns-in-Ok-clause-asks
returns-in-Ok-clause-asks g c = asks_none

pub returns-in-Ok-Stdio-clause-asks : goal.returns-in-Ok-Stdio-clause-asks
returns-in-Ok-Stdio-clause-asks g c = asks_none

pub returns-in-Err-Usage-clause-asks : goal.returns-in-Err-Usage-clause-asks
returns-in-Err-Usage-clause-asks g c = asks_none

pub returns-clause-asks : goal.returns-clause-asks
returns-clause-asks g c = asks_none
