use Rattle.std.proofs.Common.{map, ap, sym, subst, ◌∙◌, ⊎_elim}
use Rattle.std.specs.Prelude.{string_bytes}
use Rattle.clap.specs.Kinds.{IsAmong}
use Rattle.clap.specs.Values.{kind_of}
use Rattle.clap.specs.Words.{App, fault_of, is_simple, is_simple_and_free, subcommand_of}
use Rattle.cv_words.proofs.Entering.{program_is_simple, program_is_free}
use Rattle.cv_words.proofs.program.match_words.Goals as goal

pub returns-in-Ok-clause-found : goal.returns-in-Ok-clause-found
returns-in-Ok-clause-found c =
    let is = c.in_ok-program.ensures.shape in
    (c.in-Ok.ensures.matches (ap is_simple is ∙ program_is_simple)).1 ∙ ap (λ (a : App). subcommand_of a (map string_bytes c.args.words.now)) is

pub returns-in-Ok-clause-taken : goal.returns-in-Ok-clause-taken
returns-in-Ok-clause-taken c =
    let is = c.in_ok-program.ensures.shape in
    sym (ap (λ (a : App). fault_of a (map string_bytes c.args.words.now)) is) ∙ c.in-Ok.ensures.kinds (ap is_simple_and_free is ∙ program_is_free)

pub returns : goal.returns
returns c =
    let is = c.in_ok-program.ensures.shape in
    record {
      found = tt;
      taken = tt;
      usage = λ same none. ⊎_elim (λ memory. absurd (c.in_default.not-OutOfMemory (c.kind.ensures ∙ memory)))
          (λ among. subst (IsAmong (kind_of c.in-Err.error)) (ap (λ (a : App). fault_of a (map string_bytes c.args.words.now)) is ∙ none) among)
          (c.in-Err.ensures.kinds (ap is_simple_and_free is ∙ program_is_free));
    }
