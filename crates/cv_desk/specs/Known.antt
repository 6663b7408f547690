-- What the gate knows of catalogues.
use Rattle.std.specs.Prelude.{◌≡◌, ◌⊎◌, ℕ, Bool, true, false, List}
use Rattle.std.specs.declared.option.Option.{Option}
use Rattle.std.specs.declared.result.Result.{Result}
use Rattle.std.specs.declared.result.Result.TheVariants.{Ok, Err}
use Rattle.cv_base.specs.Path.{Path}
use Rattle.cv_base.specs.Told.{WhereTold}
use Rattle.cv_ports.specs.Shelf.{Shelf}
use Rattle.cv_vault.specs.Disk.{Disk}
use Rattle.cv_cut.specs.Good.{IsWholeAt}
use Rattle.cv_cut.specs.Reached.{Place}
use Rattle.cv_objects.specs.Names.{standing_on}
use Rattle.cv_load.specs.Known.{is_known}
use Rattle.cv_load.specs.NewFetches.{ReachesNew}
use Rattle.cv_load.specs.declared.known_set.KnownSet.{KnownSet}
use Rattle.cv_gate.specs.declared.reply.Reply.{Reply}
use Rattle.cv_gate.specs.declared.reply.Reply.TheVariants as reply

-- what was known is known still
abbrev pub Remembers : KnownSet → KnownSet → Type 0
Remembers known more = (hash : List ℕ) (path : Path) → is_known known hash path ≡ true → is_known more hash path ≡ true

-- each catalogue that is reached from a root through those that weren't known is known now
abbrev pub Learns : Shelf → KnownSet → List ℕ → KnownSet → Type 0
Learns shelf known offered more = (hash : List ℕ) (place : Place) → ReachesNew shelf known offered hash place → is_known more hash place.path ≡ true

-- each that is known now was known, or is whole by what stands on a shelf
abbrev pub LearnsWhole : Shelf → KnownSet → KnownSet → Type 0
LearnsWhole shelf known more = (hash : List ℕ) (path : Path) → is_known more hash path ≡ true → (is_known known hash path ≡ true) ⊎ IsWholeAt shelf hash path

-- the reply refuses the new tree or its objects, which are looked at behind the offered root
abbrev pub refuses_new : Reply → Bool
refuses_new (reply.PathCollision a b) = true
refuses_new (reply.CatalogueFull c) = true
refuses_new (reply.Collision id) = true
refuses_new other = false

-- the offered root was found whole: the commit is ready, or what comes behind is refused
abbrev pub WasWhole : {X : Type 0} → Result X Reply → Type 0
WasWhole (Ok x) = Unit {0}
WasWhole (Err r) = refuses_new r ≡ true

-- what is known once a commit was answered so, or made ready: all that was known, where the offered root was found whole its new catalogues,
-- and nothing else but what is whole
pub record KnowsOn {V X : Type 0} (disk : V → Option Disk) (v : V) (known : KnownSet) (offered : List ℕ) (r : Result X Reply) (more : KnownSet) : Type 0 where
  pub remembers : Remembers known more
  pub learns : WasWhole r → WhereTold (disk v) (λ d. Learns (standing_on d) known offered more)
  pub only : WhereTold (disk v) (λ d. LearnsWhole (standing_on d) known more)
