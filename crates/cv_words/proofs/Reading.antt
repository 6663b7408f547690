-- The command line by what clap finds in it.
use Rattle.std.proofs.Common.{◌≡◌, List, [], ◌∷◌, Option, Some, None, refl, sym, ap, subst, ◌∙◌}
use Rattle.std.specs.Prelude.{Box, option_map}
use Rattle.clap.specs.Walk.{Row, Text}
use Rattle.clap.specs.Simple.{subcommand_of, subcommand_rows}
use Rattle.clap.specs.Faults.{fault_of}
use Rattle.clap.specs.declared.parser.matches.SubCommand.{SubCommand}
use Rattle.cv_words.specs.Words.{values_of, Means, Asks, IsCommand, init, stdio, ls, stat, cat, shell, publish}
use Rattle.cv_words.specs.ProgramInner.{program, all_ids, values_at, IsGiven}
use Rattle.cv_words.specs.declared.words.Command.{Command}
use Rattle.cv_words.proofs.Forms.{AreTexts}
use Rattle.cv_words.proofs.Entering.{finds, takes_all}
use Rattle.cv_words.proofs.Entering as entering

-- ---- the subcommand of a parse

module _ {Z : Type 0} where
  pub no_rows : (o : Option (Box SubCommand Z)) → None ≡ option_map (λ p. p.1) (subcommand_rows o) → subcommand_rows o ≡ None
  no_rows None has = refl
  no_rows (Some b) has = absurd cc

-- ---- words that clap takes

module _ (words : List Text) (texts : AreTexts words) (found : Option (Text × List Row)) (is : found ≡ subcommand_of program words) (taken : fault_of program words ≡ []) where
  -- a command that these values mean is asked for
  pub asks_by : (verb : Text) (values : List Text) → IsGiven found verb values → (command : Command) → Means verb values command → Asks words command
  asks_by verb values given command means =
      let f = finds words texts taken in
      let same : Some (verb, given.rows) ≡ Some (f.verb, f.rows) = sym given.is ∙ is ∙ f.found in
      let verbs : Some f.verb ≡ Some verb = sym (ap (option_map (λ (p : Text × List Row). p.0)) same) in
      let rows : Some f.rows ≡ Some given.rows = sym (ap (option_map (λ (p : Text × List Row). p.1)) same) in
      let one_verb : f.verb ≡ verb = cc in
      let one_rows : f.rows ≡ given.rows = cc in
      record {
        verb = verb;
        rest = f.rest;
        values = values;
        split = f.split ∙ ap (λ (v : Text). v ∷ f.rest) one_verb;
        are = f.values ∙ ap (λ (r : List Row). Some (values_at r all_ids)) one_rows ∙ ap (λ (v : List Text). Some v) (sym given.are);
        means = means;
      }

  -- a command that is asked for is what these values mean
  pub means_by : (verb : Text) (values : List Text) → IsGiven found verb values → (command : Command) → Asks words command → Means verb values command
  means_by verb values given command asks =
      let f = finds words texts taken in
      let same : Some (f.verb, f.rows) ≡ Some (verb, given.rows) = sym f.found ∙ sym is ∙ given.is in
      let verbs : Some f.verb ≡ Some verb = ap (option_map (λ (p : Text × List Row). p.0)) same in
      let rows : Some f.rows ≡ Some given.rows = ap (option_map (λ (p : Text × List Row). p.1)) same in
      let one_rows : f.rows ≡ given.rows = cc in
      let split : asks.verb ∷ asks.rest ≡ f.verb ∷ f.rest = sym asks.split ∙ f.split in
      let one_verb : asks.verb ≡ verb = cc in
      let one_rest : asks.rest ≡ f.rest = cc in
      let read : Some asks.values ≡ Some values = sym asks.are ∙ ap values_of one_rest ∙ f.values ∙ ap (λ (r : List Row). Some (values_at r all_ids)) one_rows ∙ ap (λ (v : List Text). Some v) (sym given.are) in
      let one_values : asks.values ≡ values = cc in
      subst (λ (v : Text). Means v values command) one_verb (subst (λ (v : List Text). Means asks.verb v command) one_values asks.means)

  -- clap has found a command
  pub some_found : found ≡ None → ⊥
  some_found none =
      let f = finds words texts taken in
      let bad : None ≡ Some (f.verb, f.rows) = sym none ∙ is ∙ f.found in
      absurd cc

-- ---- words that ask for a command

takes_means : (verb : Text) (rest values : List Text) → values_of rest ≡ Some values → (command : Command) → Means verb values command → fault_of program (verb ∷ rest) ≡ []
takes_means verb rest values are command (init name word same good) = takes_all entering.init verb rest values (name ∷ []) word are same refl
takes_means verb rest values are command (stdio name word same good) = takes_all entering.stdio verb rest values (name ∷ []) word are same refl
takes_means verb rest values are command (ls url path u p word same place) = takes_all entering.ls verb rest values (url ∷ path ∷ []) word are same refl
takes_means verb rest values are command (stat url path u p word same place) = takes_all entering.stat verb rest values (url ∷ path ∷ []) word are same refl
takes_means verb rest values are command (cat url path u p word same place) = takes_all entering.cat verb rest values (url ∷ path ∷ []) word are same refl
takes_means verb rest values are command (shell url u word same good) = takes_all entering.shell verb rest values (url ∷ []) word are same refl
takes_means verb rest values are command (publish url path folder u p word same place unmarked) = takes_all entering.publish verb rest values (url ∷ path ∷ folder ∷ []) word are same refl

-- clap takes them
pub takes_commands : (words : List Text) → IsCommand words → fault_of program words ≡ []
takes_commands words is =
    let a = is.asks in
    ap (fault_of program) a.split ∙ takes_means a.verb a.rest a.values a.are is.command a.means
