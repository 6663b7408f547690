-- What clap makes of a whole command line.
use Rattle.std.proofs.Common.{◌≡◌, true, false, List, [], ◌∷◌, ◌⊎◌, Some, codes, refl, sym, ap, ap₂, subst, ◌∙◌, bytes_eq, is_some, inl, inr}
use Rattle.std.specs.Prelude.{fold, find}
use Rattle.std.specs.Str.{IsUtf8}
use Rattle.std.proofs.lemmas.Bool.{cases_Bool}
use Rattle.std.proofs.lemmas.Slice.Eq.{bytes_eq-Decides}
use Rattle.clap.specs.Walk.{Names, Row, Text, Walk, answers_to, nothing_held, rows_after, settled, finished, walk_from, walked}
use Rattle.clap.specs.Simple.{Shape, built, entered, label_of, names_of, subcommand_of, is_simple}
use Rattle.clap.specs.Kinds.{Kinds, or_else}
use Rattle.clap.specs.Faults.{check_fault, defaults_fault, entered_fault, fault_of, is_simple_and_free, level_fault, settle_fault, turn_fault, walk_fault}
use Rattle.clap.specs.declared.error.kind.ErrorKind.TheVariants.{MissingSubcommand}
use Rattle.clap.proofs.OnLiterals.{clap_on_literals}
use Rattle.clap.proofs.FaultLemmas.{stopped_fault}
use Rattle.clap.proofs.WalkLemmas.{walk_stopped}
use Rattle.cv_words.specs.Words.{dashes, is_option, values_of}
use Rattle.cv_words.specs.ProgramInner.{program, all_ids, values_at}
use Rattle.cv_words.proofs.Forms.{AreTexts, IsFlag, IsPlain, plain, flag, long, short}
use Rattle.cv_words.proofs.Walks.{no_option}
use Rattle.cv_words.proofs.Leaves.{Form, repo, url, path, folder, leaf, leaf_gives, leaf_takes, fits}

pub program_is_simple : is_simple program ≡ true
unfolding clap_on_literals
program_is_simple = refl

pub program_is_free : is_simple_and_free program ≡ true
unfolding clap_on_literals
program_is_free = refl

-- ---- the commands

pub data Verb : Type 0 where
  init : Verb
  stdio : Verb
  ls : Verb
  stat : Verb
  cat : Verb
  shell : Verb
  publish : Verb

abbrev pub word_of : Verb → Text
word_of init = codes "init"
word_of stdio = codes "stdio"
word_of ls = codes "ls"
word_of stat = codes "stat"
word_of cat = codes "cat"
word_of shell = codes "shell"
word_of publish = codes "publish"

abbrev pub form_of : Verb → Form
form_of init = repo
form_of stdio = repo
form_of ls = path
form_of stat = path
form_of cat = path
form_of shell = url
form_of publish = folder

-- ---- a command that clap has

abbrev top : Shape
top = (built program).top

abbrev names : Names
names = names_of (built program)

-- clap goes into the command
record IsEntered (name : Text) (s : Shape) : Type 0 where
  turn : turn_fault top names (walk_from nothing_held) name ≡ []
  goes : walked top.rules names (walk_from nothing_held) name ≡ record (walk_from nothing_held) { stopped = Some (name, []) }
  finds : find (λ s. answers_to name (label_of s)) (built program).subs ≡ Some s

is_entered : (v : Verb) → IsEntered (word_of v) (leaf (word_of v) (form_of v))
unfolding clap_on_literals
is_entered init = record { turn = refl; goes = refl; finds = refl }
is_entered stdio = record { turn = refl; goes = refl; finds = refl }
is_entered ls = record { turn = refl; goes = refl; finds = refl }
is_entered stat = record { turn = refl; goes = refl; finds = refl }
is_entered cat = record { turn = refl; goes = refl; finds = refl }
is_entered shell = record { turn = refl; goes = refl; finds = refl }
is_entered publish = record { turn = refl; goes = refl; finds = refl }

or_else_none : (a : Kinds) → or_else a [] ≡ a
or_else_none [] = refl
or_else_none (k ∷ ks) = refl

-- the faults of a walk, and of what is behind it
abbrev whole : Kinds → Walk → Kinds
whole faults w = or_else faults (or_else (entered_fault (built program) w.stopped) (or_else (settle_fault top.rules top.args_override_self w.held)
    (or_else (defaults_fault (settled top.rules w.held).rows top.rules) (check_fault top (finished top.rules w.held) (is_some (entered (built program) w.stopped))))))

module _ (name : Text) (s : Shape) (enters : IsEntered name s) (rest : List Text) where
  walk_ends : fold (walked top.rules names) (walk_from nothing_held) (name ∷ rest) ≡ record (walk_from nothing_held) { stopped = Some (name, rest) }
  walk_ends = ap (λ (w : Walk). fold (walked top.rules names) w rest) enters.goes ∙ sym (walk_stopped top.rules names (walk_from nothing_held) name [] rest)

  walk_clean : walk_fault top names (walk_from nothing_held) (name ∷ rest) ≡ []
  unfolding walk_fault
  walk_clean = ap₂ or_else enters.turn (ap (λ (w : Walk). walk_fault top names w rest) enters.goes ∙ stopped_fault top names (walk_from nothing_held) (name, []) rest)

  below : whole [] (record (walk_from nothing_held) { stopped = Some (name, rest) }) ≡ level_fault s [] nothing_held rest false []
  unfolding defaults_fault
  below = rw enters.finds (or_else_none (level_fault s [] nothing_held rest false []))

  fault_below : fault_of program (name ∷ rest) ≡ level_fault s [] nothing_held rest false []
  fault_below = ap₂ whole walk_clean walk_ends ∙ below

  rows_below : subcommand_of program (name ∷ rest) ≡ Some (s.name, rows_after s.rules [] rest)
  rows_below = ap (λ (w : Walk). entered (built program) w.stopped) walk_ends ∙ rw enters.finds refl

-- ---- a first word that is no command

record IsUnknown (word : Text) : Type 0 where
  no_init : bytes_eq (codes "init") word ≡ false
  no_stdio : bytes_eq (codes "stdio") word ≡ false
  no_ls : bytes_eq (codes "ls") word ≡ false
  no_stat : bytes_eq (codes "stat") word ≡ false
  no_cat : bytes_eq (codes "cat") word ≡ false
  no_shell : bytes_eq (codes "shell") word ≡ false
  no_publish : bytes_eq (codes "publish") word ≡ false

known : (v : Verb) (word : Text) → bytes_eq (word_of v) word ≡ true → (v : Verb) × (word ≡ word_of v)
known v word is = (v, sym ((bytes_eq-Decides (word_of v) word).0 is))

find_verb : (word : Text) → ((v : Verb) × (word ≡ word_of v)) ⊎ IsUnknown word
find_verb word =
    elim (cases_Bool (bytes_eq (codes "init") word)) [
      | inl is ↦ inl (known init word is)
      | inr no_init ↦
          elim (cases_Bool (bytes_eq (codes "stdio") word)) [
            | inl is ↦ inl (known stdio word is)
            | inr no_stdio ↦
                elim (cases_Bool (bytes_eq (codes "ls") word)) [
                  | inl is ↦ inl (known ls word is)
                  | inr no_ls ↦
                      elim (cases_Bool (bytes_eq (codes "stat") word)) [
                        | inl is ↦ inl (known stat word is)
                        | inr no_stat ↦
                            elim (cases_Bool (bytes_eq (codes "cat") word)) [
                              | inl is ↦ inl (known cat word is)
                              | inr no_cat ↦
                                  elim (cases_Bool (bytes_eq (codes "shell") word)) [
                                    | inl is ↦ inl (known shell word is)
                                    | inr no_shell ↦
                                        elim (cases_Bool (bytes_eq (codes "publish") word)) [
                                          | inl is ↦ inl (known publish word is)
                                          | inr no_publish ↦
                                              inr (record { no_init = no_init; no_stdio = no_stdio; no_ls = no_ls; no_stat = no_stat; no_cat = no_cat; no_shell = no_shell; no_publish = no_publish })
                                        ]
                                  ]
                            ]
                      ]
                ]
          ]
    ]

no_words : fault_of program [] ≡ [] → ⊥
unfolding clap_on_literals
no_words e = let bad : MissingSubcommand ∷ [] ≡ [] = e in absurd cc

dashes_first : (rest : List Text) → fault_of program (dashes ∷ rest) ≡ [] → ⊥
unfolding clap_on_literals
dashes_first [] e = cc e
dashes_first (word ∷ rest) e = cc e

plain_first : (word : Text) (rest : List Text) → IsUnknown word → IsPlain word → fault_of program (word ∷ rest) ≡ [] → ⊥
unfolding clap_on_literals
plain_first word rest u p =
    rw (u.no_init, u.no_stdio, u.no_ls, u.no_stat, u.no_cat, u.no_shell, u.no_publish, p.no_dashes, p.no_long, p.no_short) (λ e. cc e)

flag_first : (word : Text) (rest : List Text) → IsUnknown word → bytes_eq word dashes ≡ false → IsFlag word → fault_of program (word ∷ rest) ≡ [] → ⊥
unfolding clap_on_literals
flag_first word rest u d (long p is) =
    rw (u.no_init, u.no_stdio, u.no_ls, u.no_stat, u.no_cat, u.no_shell, u.no_publish, d, is) (λ e. cc e)
flag_first word rest u d (short b more first l is starts) =
    rw (u.no_init, u.no_stdio, u.no_ls, u.no_stat, u.no_cat, u.no_shell, u.no_publish, d, l, is, no_option [] false b more first nothing_held refl starts refl) (λ e. cc e)

unknown_first : (word : Text) (rest : List Text) → IsUnknown word → IsUtf8 word → fault_of program (word ∷ rest) ≡ [] → ⊥
unknown_first word rest u utf8 =
    elim (cases_Bool (bytes_eq word dashes)) [
      | inl d ↦ subst (λ (w : Text). fault_of program (w ∷ rest) ≡ [] → ⊥) (sym ((bytes_eq-Decides word dashes).0 d)) (dashes_first rest)
      | inr d ↦ elim (cases_Bool (is_option word)) [
        | inl o ↦ flag_first word rest u d (flag word d o utf8)
        | inr o ↦ plain_first word rest u (plain word d o)
      ]
    ]

-- ---- every command line

-- clap finds a command and its values
pub record Finds (words : List Text) : Type 0 where
  pub verb : Text
  pub rest : List Text
  pub rows : List Row
  pub split : words ≡ verb ∷ rest
  pub found : subcommand_of program words ≡ Some (verb, rows)
  pub values : values_of rest ≡ Some (values_at rows all_ids)

finds_in : (v : Verb) (rest : List Text) → AreTexts rest → fault_of program (word_of v ∷ rest) ≡ [] → Finds (word_of v ∷ rest)
finds_in v rest texts taken =
    let s = leaf (word_of v) (form_of v) in
    record {
      verb = word_of v;
      rest = rest;
      rows = rows_after s.rules [] rest;
      split = refl;
      found = rows_below (word_of v) s (is_entered v) rest;
      values = leaf_gives (word_of v) (form_of v) rest texts (sym (fault_below (word_of v) s (is_entered v) rest) ∙ taken);
    }

pub finds : (words : List Text) → AreTexts words → fault_of program words ≡ [] → Finds words
finds [] texts taken = absurd (no_words taken)
finds (word ∷ rest) texts taken =
    elim (find_verb word) [
      | inl known ↦ subst (λ (w : Text). Finds (w ∷ rest)) (sym known.1)
          (finds_in known.0 rest texts.1 (subst (λ (w : Text). fault_of program (w ∷ rest) ≡ []) known.1 taken))
      | inr unknown ↦ absurd (unknown_first word rest unknown texts.0 taken)
    ]

-- clap takes a command with as many values as it takes
pub takes_all : (v : Verb) (verb : Text) (rest values all : List Text) → verb ≡ word_of v → values_of rest ≡ Some values → values ≡ all → fits (form_of v) all ≡ true → fault_of program (verb ∷ rest) ≡ []
takes_all v verb rest values all word are same fit =
    ap (λ (w : Text). fault_of program (w ∷ rest)) word ∙ fault_below (word_of v) (leaf (word_of v) (form_of v)) (is_entered v) rest
    ∙ leaf_takes (word_of v) (form_of v) rest all (are ∙ ap (λ (l : List Text). Some l) same) fit
