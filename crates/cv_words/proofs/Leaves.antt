-- What clap makes of the values behind each command.
use Rattle.std.proofs.Common.{◌≡◌, true, false, List, [], ◌∷◌, Some, None, refl, sym, ap, ◌∙◌}
use Rattle.std.specs.Prelude.{Bool, Option}
use Rattle.std.specs.List.{list_all}
use Rattle.clap.specs.Walk.{Text, nothing_held, rows_after}
use Rattle.clap.specs.Simple.{Shape, built_leaf, inherited}
use Rattle.clap.specs.Kinds.{Kinds}
use Rattle.clap.specs.Faults.{level_fault}
use Rattle.clap.specs.declared.error.kind.ErrorKind.TheVariants.{MissingRequiredArgument, UnknownArgument}
use Rattle.clap.proofs.OnLiterals.{clap_on_literals}
use Rattle.cv_words.specs.Words.{dashes, values_of}
use Rattle.cv_words.specs.ProgramInner.{bare, command_shape, repo_ids, url_ids, path_ids, folder_ids, all_ids, values_at}
use Rattle.cv_words.proofs.Forms.{AreTexts}
use Rattle.cv_words.proofs.Walks.{is_placed, fault_as, rows_as, refused}

-- what a command takes
pub data Form : Type 0 where
  repo : Form
  url : Form
  path : Form
  folder : Form

abbrev pub ids_of : Form → List Text
ids_of repo = repo_ids
ids_of url = url_ids
ids_of path = path_ids
ids_of folder = folder_ids

-- as many values as the command takes
abbrev pub fits : Form → List Text → Bool
fits repo (a ∷ []) = true
fits url (a ∷ []) = true
fits path (a ∷ b ∷ []) = true
fits folder (a ∷ b ∷ c ∷ []) = true
fits form values = false

-- the command as clap has built it
abbrev pub leaf : Text → Form → Shape
leaf name form = built_leaf (inherited bare.top (command_shape name (ids_of form)))

abbrev leaf_fault : Text → Form → List Text → Kinds
leaf_fault name form words = level_fault (leaf name form) [] nothing_held words false []

all_placed : (name : Text) (form : Form) → list_all is_placed (leaf name form).rules ≡ true
all_placed name repo = refl
all_placed name url = refl
all_placed name path = refl
all_placed name folder = refl

-- just so many values are taken
takes : (name : Text) (form : Form) (values : List Text) → fits form values ≡ true → leaf_fault name form (dashes ∷ values) ≡ []
unfolding clap_on_literals
takes name repo [] e = absurd cc
takes name repo (a ∷ []) e = refl
takes name repo (a ∷ b ∷ more) e = absurd cc
takes name url [] e = absurd cc
takes name url (a ∷ []) e = refl
takes name url (a ∷ b ∷ more) e = absurd cc
takes name path [] e = absurd cc
takes name path (a ∷ []) e = absurd cc
takes name path (a ∷ b ∷ []) e = refl
takes name path (a ∷ b ∷ c ∷ more) e = absurd cc
takes name folder [] e = absurd cc
takes name folder (a ∷ []) e = absurd cc
takes name folder (a ∷ b ∷ []) e = absurd cc
takes name folder (a ∷ b ∷ c ∷ []) e = refl
takes name folder (a ∷ b ∷ c ∷ d ∷ more) e = absurd cc

gives : (name : Text) (form : Form) (values : List Text) → leaf_fault name form (dashes ∷ values) ≡ [] → values_at (rows_after (leaf name form).rules [] (dashes ∷ values)) all_ids ≡ values
unfolding clap_on_literals
gives name repo [] e = let bad : MissingRequiredArgument ∷ [] ≡ [] = e in absurd cc
gives name repo (a ∷ []) e = refl
gives name repo (a ∷ b ∷ more) e = let bad : UnknownArgument ∷ [] ≡ [] = e in absurd cc
gives name url [] e = let bad : MissingRequiredArgument ∷ [] ≡ [] = e in absurd cc
gives name url (a ∷ []) e = refl
gives name url (a ∷ b ∷ more) e = let bad : UnknownArgument ∷ [] ≡ [] = e in absurd cc
gives name path [] e = let bad : MissingRequiredArgument ∷ [] ≡ [] = e in absurd cc
gives name path (a ∷ []) e = let bad : MissingRequiredArgument ∷ [] ≡ [] = e in absurd cc
gives name path (a ∷ b ∷ []) e = refl
gives name path (a ∷ b ∷ c ∷ more) e = let bad : UnknownArgument ∷ [] ≡ [] = e in absurd cc
gives name folder [] e = let bad : MissingRequiredArgument ∷ [] ≡ [] = e in absurd cc
gives name folder (a ∷ []) e = let bad : MissingRequiredArgument ∷ [] ≡ [] = e in absurd cc
gives name folder (a ∷ b ∷ []) e = let bad : MissingRequiredArgument ∷ [] ≡ [] = e in absurd cc
gives name folder (a ∷ b ∷ c ∷ []) e = refl
gives name folder (a ∷ b ∷ c ∷ d ∷ more) e = let bad : UnknownArgument ∷ [] ≡ [] = e in absurd cc

-- ---- all words behind a command

pub leaf_takes : (name : Text) (form : Form) (rest values : List Text) → values_of rest ≡ Some values → fits form values ≡ true → leaf_fault name form rest ≡ []
leaf_takes name form rest values are fit = fault_as (leaf name form) (all_placed name form) rest values are ∙ takes name form values fit

-- where clap takes the words, it finds their values
pub leaf_gives : (name : Text) (form : Form) (rest : List Text) → AreTexts rest → leaf_fault name form rest ≡ [] → values_of rest ≡ Some (values_at (rows_after (leaf name form).rules [] rest) all_ids)
leaf_gives name form rest texts taken = go (values_of rest) refl
  where
    go : (o : Option (List Text)) → values_of rest ≡ o → values_of rest ≡ Some (values_at (rows_after (leaf name form).rules [] rest) all_ids)
    go None is = absurd (refused (leaf name form) (all_placed name form) rest texts is taken)
    go (Some values) is =
        let found = gives name form values (sym (fault_as (leaf name form) (all_placed name form) rest values is) ∙ taken) in
        is ∙ ap (λ (v : List Text). Some v) (sym found ∙ ap (λ rows. values_at rows all_ids) (sym (rows_as (leaf name form) (all_placed name form) rest values is)))
