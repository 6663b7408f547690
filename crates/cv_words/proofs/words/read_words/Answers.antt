use Rattle.std.proofs.Common.{◌≡◌, List, map, ap, sym, subst, Bor, Err}
use Rattle.std.specs.Prelude.{string_bytes}
use Rattle.std.proofs.lemmas.Result.{IfOk-weaker}
use Rattle.clap.specs.Walk.{Text, texts}
use Rattle.clap.specs.Words.{subcommand_rows_of}
use Rattle.cv_base.proofs.Laws.{one_fault}
use Rattle.cv_words.specs.Words.{Means, Asks}
use Rattle.cv_words.specs.declared.words.WordsFault.{WordsFault}
use Rattle.cv_words.specs.declared.words.WordsFault.TheVariants.{Usage}
use Rattle.cv_words.proofs.Forms.{strings_are_texts}
use Rattle.cv_words.proofs.Reading.{asks_by, means_by, some_found, takes_commands}
use Rattle.cv_words.proofs.words.read_words.Goals as goal

pub returns-in_err-matches-clause-usage : goal.returns-in_err-matches-clause-usage
returns-in_err-matches-clause-usage c = λ e is.
    let same : c.in_err-matches.field-0.0 ≡ Usage = one_fault _ _ Usage c.from_residual.ensures.1 e in
    c.in_err-matches.ensures.usage (ap (λ (f : WordsFault). Err f) same) (takes_commands (map string_bytes c.args.words.now) is)

pub returns-in_err-given-clause-usage : goal.returns-in_err-given-clause-usage
returns-in_err-given-clause-usage c = λ e is.
    let same : c.in_err-given.field-0.0 ≡ Usage = one_fault _ _ Usage c.from_residual-in_err-given.ensures.1 e in
    some_found (map string_bytes c.args.words.now) (strings_are_texts c.args.words.now) (subcommand_rows_of c.in_ok-matches.matches) c.in_ok-matches.ensures.found c.in_ok-matches.ensures.taken
    (c.in_err-given.ensures.usage (ap (λ (f : WordsFault). Err f) same))

pub returns-clause-command : goal.returns-clause-command
returns-clause-command c =
    let given = c.in_ok-given.given in
    IfOk-weaker c.read_command.result (Means given.verb.now (texts c.deref.result.now)) (Asks (map string_bytes c.args.words.now))
    (λ command means. asks_by (map string_bytes c.args.words.now) (strings_are_texts c.args.words.now) (subcommand_rows_of c.in_ok-matches.matches) c.in_ok-matches.ensures.found c.in_ok-matches.ensures.taken
    given.verb.now (texts given.values.items) c.in_ok-given.ensures.given command (subst (λ (l : List (Bor Text)). Means given.verb.now (texts l) command) c.deref.ensures.value means))
    c.read_command.ensures.command

pub returns-clause-usage : goal.returns-clause-usage
returns-clause-usage c = λ e is.
    let given = c.in_ok-given.given in
    c.read_command.ensures.usage e is.command (subst (λ (l : List (Bor Text)). Means given.verb.now (texts l) is.command) (sym c.deref.ensures.value)
    (means_by (map string_bytes c.args.words.now) (strings_are_texts c.args.words.now) (subcommand_rows_of c.in_ok-matches.matches) c.in_ok-matches.ensures.found c.in_ok-matches.ensures.taken
    given.verb.now (texts given.values.items) c.in_ok-given.ensures.given is.command is.asks))
