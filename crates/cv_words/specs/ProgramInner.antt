-- The command line as clap is told of it, and the values that it finds.
use Rattle.std.specs.Prelude.{◌≡◌, List, [], ◌∷◌, map, Option, Some, None, true, codes}
use Rattle.clap.specs.Walk.{Text, Row, Rule, first_of}
use Rattle.clap.specs.Simple.{App, Shape, new_rule, new_shape, with_subcommand}

-- a value that has to be there
abbrev pub value_rule : Text → Rule
value_rule id = record (new_rule id) { required = true }

-- a command with these values
abbrev pub command_shape : Text → List Text → Shape
command_shape name ids = record (new_shape name) { rules = map value_rule ids }

-- the names of the values, by what they are values of
abbrev pub repo_ids : List Text
repo_ids = codes "repo" ∷ []

abbrev pub url_ids : List Text
url_ids = codes "url" ∷ []

abbrev pub path_ids : List Text
path_ids = codes "url" ∷ codes "path" ∷ []

abbrev pub folder_ids : List Text
folder_ids = codes "url" ∷ codes "path" ∷ codes "folder" ∷ []

-- the program with no command yet, where clap adds no word of its own
abbrev pub bare : App
bare = record {
  top = record (new_shape (codes "cvkit")) {
    no_binary_name = true;
    disable_help_flag = true;
    disable_help_subcommand = true;
    disable_version_flag = true;
    subcommand_required = true;
  };
  subs = [];
}

-- with the commands of a repository
abbrev pub served : App
served = with_subcommand (with_subcommand bare (command_shape (codes "init") repo_ids)) (command_shape (codes "stdio") repo_ids)

-- and with the questions
abbrev pub asking : App
asking = with_subcommand (with_subcommand (with_subcommand served (command_shape (codes "ls") path_ids)) (command_shape (codes "stat") path_ids)) (command_shape (codes "cat") path_ids)

-- the program
abbrev pub program : App
program = with_subcommand (with_subcommand asking (command_shape (codes "shell") url_ids)) (command_shape (codes "publish") folder_ids)

-- ---- what clap finds

-- all names of values, in the order in which values stand
abbrev pub all_ids : List Text
all_ids = codes "repo" ∷ codes "url" ∷ codes "path" ∷ codes "folder" ∷ []

abbrev pub and_then : Option Text → List Text → List Text
and_then None rest = rest
and_then (Some value) rest = value ∷ rest

-- the values that stand under these names
abbrev pub values_at : List Row → List Text → List Text
values_at rows [] = []
values_at rows (id ∷ ids) = and_then (first_of id rows) (values_at rows ids)

-- clap has found this command, and these are its values
pub record IsGiven (found : Option (Text × List Row)) (verb : Text) (values : List Text) : Type 0 where
  pub rows : List Row
  pub is : found ≡ Some (verb, rows)
  pub are : values ≡ values_at rows all_ids
