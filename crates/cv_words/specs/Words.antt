-- The grammar of the command line.
use Rattle.std.specs.Prelude.{◌≡◌, ◌==◌, ℕ, Bool, false, List, [], ◌∷◌, codes, IsTrue, Option, Some, None, bytes_eq, if◌then◌else◌}
use Rattle.std.specs.Option.{option_map}
use Rattle.cv_base.specs.Marker.{marker, ends_in}
use Rattle.cv_base.specs.Name.{is_name}
use Rattle.cv_base.specs.Path.{Path, IsPath}
use Rattle.cv_base.specs.PathText.{Spells}
use Rattle.cv_resolver.specs.declared.question.Question.TheVariants as question
use Rattle.cv_client.specs.Url.{IsUrl}
use Rattle.cv_client.specs.declared.url.Url.{Url}
use Rattle.cv_words.specs.declared.words.Command.{Command}
use Rattle.cv_words.specs.declared.words.Command.TheVariants.{Init, Stdio, Look, Shell, Publish}

-- ---- words and values

-- the word behind which each is a value
abbrev pub dashes : List ℕ
dashes = codes "--"

-- the word has the form of an option: it begins with `-` and goes on
abbrev pub is_option : List ℕ → Bool
is_option [] = false
is_option (b ∷ []) = false
is_option (b ∷ c ∷ more) = b == 45

-- the values among the words behind that of a command, where none of them is an option; behind the first `--` each word is a value
abbrev pub values_of : List (List ℕ) → Option (List (List ℕ))
values_of [] = Some []
values_of (word ∷ words) =
    if bytes_eq word dashes then Some words
    else if is_option word then None
    else option_map (λ values. word ∷ values) (values_of words)

-- ---- commands

-- a URL and a path are spelled by these two words
pub record IsPlace (url path : List ℕ) (u : Url) (p : Path) : Type 0 where
  pub is_url : IsUrl url u
  pub is_path : IsPath p
  pub spells : Spells path p

-- this word, with these values, is a command
pub data Means (verb : List ℕ) (values : List (List ℕ)) : Command → Type 0 where
  init : (name : List ℕ) → verb ≡ codes "init" → values ≡ name ∷ [] → IsTrue (is_name name) → Means verb values (Init name)
  stdio : (name : List ℕ) → verb ≡ codes "stdio" → values ≡ name ∷ [] → IsTrue (is_name name) → Means verb values (Stdio name)
  ls : (url path : List ℕ) (u : Url) (p : Path) → verb ≡ codes "ls" → values ≡ url ∷ path ∷ [] → IsPlace url path u p → Means verb values (Look u (question.List p))
  stat : (url path : List ℕ) (u : Url) (p : Path) → verb ≡ codes "stat" → values ≡ url ∷ path ∷ [] → IsPlace url path u p → Means verb values (Look u (question.Stat p))
  cat : (url path : List ℕ) (u : Url) (p : Path) → verb ≡ codes "cat" → values ≡ url ∷ path ∷ [] → IsPlace url path u p → Means verb values (Look u (question.Read p))
  shell : (url : List ℕ) (u : Url) → verb ≡ codes "shell" → values ≡ url ∷ [] → IsUrl url u → Means verb values (Shell u)
  -- the path's last name isn't that of a catalogue's marker
  publish : (url path folder : List ℕ) (u : Url) (p : Path) → verb ≡ codes "publish" → values ≡ url ∷ path ∷ folder ∷ [] → IsPlace url path u p → ends_in marker p ≡ false
      → Means verb values (Publish u p folder)

-- the words after the program's name ask for this command
pub record Asks (words : List (List ℕ)) (command : Command) : Type 0 where
  pub verb : List ℕ
  pub rest : List (List ℕ)
  pub values : List (List ℕ)
  pub split : words ≡ verb ∷ rest
  pub are : values_of rest ≡ Some values
  pub means : Means verb values command

-- the words are in the grammar
pub record IsCommand (words : List (List ℕ)) : Type 0 where
  pub command : Command
  pub asks : Asks words command
