-- Words that ask for a command.
use Rattle.std.proofs.Common.{◌≡◌, ℕ, true, false, List, [], ◌∷◌, refl, sym, ◌∙◌, ap, bytes_eq}
use Rattle.std.proofs.lemmas.Slice.Eq.{bytes_eq-Decides}
use Rattle.std.specs.Prelude.{codes, Some}
use Rattle.cv_base.specs.Marker.{marker, ends_in}
use Rattle.cv_base.specs.Path.{Path}
use Rattle.cv_resolver.specs.declared.question.Question.{Question}
use Rattle.cv_resolver.specs.declared.question.Question.TheVariants as question
use Rattle.cv_client.specs.declared.url.Url.{Url}
use Rattle.cv_words.specs.Words.{values_of, Means, Asks, init, stdio, ls, stat, cat, shell, publish}
use Rattle.cv_words.specs.declared.words.Command.{Command}
use Rattle.cv_words.specs.declared.words.Command.TheVariants.{Init, Stdio, Look, Shell, Publish}

-- the word of a command
abbrev word_of : Command → List ℕ
word_of (Init name) = codes "init"
word_of (Stdio name) = codes "stdio"
word_of (Look u (question.List p)) = codes "ls"
word_of (Look u (question.Stat p)) = codes "stat"
word_of (Look u (question.Read p)) = codes "cat"
word_of (Shell u) = codes "shell"
word_of (Publish u path root) = codes "publish"

means_word : {verb : List ℕ} {values : List (List ℕ)} (c : Command) → Means verb values c → verb ≡ word_of c
means_word c (init name is are good) = is
means_word c (stdio name is are good) = is
means_word c (ls url path u p is are place) = is
means_word c (stat url path u p is are place) = is
means_word c (cat url path u p is are place) = is
means_word c (shell url u is are good) = is
means_word c (publish url path root u p is are place unmarked) = is

named : (name : List ℕ) {verb : List ℕ} {values : List (List ℕ)} → Means verb values (Stdio name) → values ≡ name ∷ []
named name (stdio n is are good) = are

unmarked_by : (u : Url) (p : Path) (root : List ℕ) {verb : List ℕ} {values : List (List ℕ)} → Means verb values (Publish u p root) → ends_in marker p ≡ false
unmarked_by u p root (publish url path folder v q is are place unmarked) = unmarked

-- two words that aren't the same
apart : (a b : List ℕ) → bytes_eq a b ≡ false → a ≡ b → ⊥
apart a b differ same = (let e : true ≡ false = sym ((bytes_eq-Decides a b).1 same) ∙ differ in absurd cc)

module _ {words : List (List ℕ)} where
  one_word : (c d : Command) → Asks words c → Asks words d → word_of c ≡ word_of d
  one_word c d a b =
      let both : a.verb ∷ a.rest ≡ b.verb ∷ b.rest = sym a.split ∙ b.split in
      let verbs : a.verb ≡ b.verb = cc in
      sym (means_word c a.means) ∙ verbs ∙ means_word d b.means

  one_list : (c d : Command) (a : Asks words c) (b : Asks words d) → a.values ≡ b.values
  one_list c d a b =
      let both : a.verb ∷ a.rest ≡ b.verb ∷ b.rest = sym a.split ∙ b.split in
      let rests : a.rest ≡ b.rest = cc in
      let values : Some a.values ≡ Some b.values = sym a.are ∙ ap values_of rests ∙ b.are in
      cc

  -- words ask for one command
  pub not_both : (name other : List ℕ) → Asks words (Init name) → Asks words (Stdio other) → ⊥
  not_both name other a b = apart (codes "init") (codes "stdio") refl (one_word (Init name) (Stdio other) a b)

  pub one_name : (name other : List ℕ) → Asks words (Stdio name) → Asks words (Stdio other) → name ≡ other
  one_name name other a b =
      let e : name ∷ [] ≡ other ∷ [] = sym (named name a.means) ∙ one_list (Stdio name) (Stdio other) a b ∙ named other b.means in
      cc

  pub no_init : (u : Url) (q : Question) (name : List ℕ) → Asks words (Look u q) → Asks words (Init name) → ⊥
  no_init u (question.List p) name a b = apart (codes "ls") (codes "init") refl (one_word (Look u (question.List p)) (Init name) a b)
  no_init u (question.Stat p) name a b = apart (codes "stat") (codes "init") refl (one_word (Look u (question.Stat p)) (Init name) a b)
  no_init u (question.Read p) name a b = apart (codes "cat") (codes "init") refl (one_word (Look u (question.Read p)) (Init name) a b)

  pub no_stdio : (u : Url) (q : Question) (name : List ℕ) → Asks words (Look u q) → Asks words (Stdio name) → ⊥
  no_stdio u (question.List p) name a b = apart (codes "ls") (codes "stdio") refl (one_word (Look u (question.List p)) (Stdio name) a b)
  no_stdio u (question.Stat p) name a b = apart (codes "stat") (codes "stdio") refl (one_word (Look u (question.Stat p)) (Stdio name) a b)
  no_stdio u (question.Read p) name a b = apart (codes "cat") (codes "stdio") refl (one_word (Look u (question.Read p)) (Stdio name) a b)

  pub no_shell : (u v : Url) (q : Question) → Asks words (Look u q) → Asks words (Shell v) → ⊥
  no_shell u v (question.List p) a b = apart (codes "ls") (codes "shell") refl (one_word (Look u (question.List p)) (Shell v) a b)
  no_shell u v (question.Stat p) a b = apart (codes "stat") (codes "shell") refl (one_word (Look u (question.Stat p)) (Shell v) a b)
  no_shell u v (question.Read p) a b = apart (codes "cat") (codes "shell") refl (one_word (Look u (question.Read p)) (Shell v) a b)

  pub no_shell_init : (u : Url) (name : List ℕ) → Asks words (Shell u) → Asks words (Init name) → ⊥
  no_shell_init u name a b = apart (codes "shell") (codes "init") refl (one_word (Shell u) (Init name) a b)

  pub no_shell_stdio : (u : Url) (name : List ℕ) → Asks words (Shell u) → Asks words (Stdio name) → ⊥
  no_shell_stdio u name a b = apart (codes "shell") (codes "stdio") refl (one_word (Shell u) (Stdio name) a b)

  pub no_publish : (u v : Url) (q : Question) (path : Path) (root : List ℕ) → Asks words (Look u q) → Asks words (Publish v path root) → ⊥
  no_publish u v (question.List p) path root a b = apart (codes "ls") (codes "publish") refl (one_word (Look u (question.List p)) (Publish v path root) a b)
  no_publish u v (question.Stat p) path root a b = apart (codes "stat") (codes "publish") refl (one_word (Look u (question.Stat p)) (Publish v path root) a b)
  no_publish u v (question.Read p) path root a b = apart (codes "cat") (codes "publish") refl (one_word (Look u (question.Read p)) (Publish v path root) a b)

  pub no_publish_init : (u : Url) (path : Path) (root name : List ℕ) → Asks words (Publish u path root) → Asks words (Init name) → ⊥
  no_publish_init u path root name a b = apart (codes "publish") (codes "init") refl (one_word (Publish u path root) (Init name) a b)

  pub no_publish_stdio : (u : Url) (path : Path) (root name : List ℕ) → Asks words (Publish u path root) → Asks words (Stdio name) → ⊥
  no_publish_stdio u path root name a b = apart (codes "publish") (codes "stdio") refl (one_word (Publish u path root) (Stdio name) a b)

  pub no_publish_shell : (u v : Url) (path : Path) (root : List ℕ) → Asks words (Publish u path root) → Asks words (Shell v) → ⊥
  no_publish_shell u v path root a b = apart (codes "publish") (codes "shell") refl (one_word (Publish u path root) (Shell v) a b)

  pub unmarked : (u : Url) (path : Path) (root : List ℕ) → Asks words (Publish u path root) → ends_in marker path ≡ false
  unmarked u path root a = unmarked_by u path root a.means
