-- What a name leads to from a spot. What only this crate's own functions say.
use Rattle.std.specs.Prelude.{◌≡◌, ◌&&◌, ℕ, zero, suc, Bool, true, false, List, [], ◌∷◌, if◌then◌else◌}
use Rattle.cv_base.specs.Path.{Path, parent}
use Rattle.cv_base.specs.PathText.{parts_of}
use Rattle.cv_tree.specs.Tree.{Nodes}
use Rattle.cv_resolver.specs.Walk.{Name, End, Trail, ends, arrives, from, is_idle, is_up, is_last, lead_of, trail_along, walk}
use Rattle.cv_resolver.specs.Walk as end
use Rattle.cv_resolver.specs.Spot.{StandsIn, IsSpot, levels_of}
use Rattle.cv_rows.specs.Catalogue.{Contents}
use Rattle.cv_resolver.specs.Rows.{IsAt, IsEntryName, levels_above}
use Rattle.cv_resolver.specs.EnterInner.{IsToldBy}
use Rattle.cv_resolver.specs.declared.enter.Entered.{Entered}
use Rattle.cv_resolver.specs.declared.enter.Entered.TheVariants.{Nothing, Stands}
use Rattle.cv_resolver.specs.declared.enter.Entered.TheVariants as entered
use Rattle.cv_resolver.specs.declared.spot.Level.{Level}
use Rattle.cv_resolver.specs.declared.spot.Spot.{Spot}
use Rattle.cv_resolver.specs.declared.pass.Halt.{Halt}
use Rattle.cv_resolver.specs.declared.pass.Halt.TheVariants.{NotFound, NotDirectory, TooManyLinks}
use Rattle.cv_resolver.specs.declared.pass.Passed.{Passed}
use Rattle.cv_resolver.specs.declared.pass.Passed.TheVariants.{At, Over, Link}
use Rattle.cv_resolver.specs.Pass.{Continues}

abbrev pub end_of : Halt → End
end_of NotFound = end.NotFound
end_of NotDirectory = end.NotDirectory
end_of TooManyLinks = end.TooManyLinks

module _ (repository : List ℕ) (t : Nodes) (stays : Bool) where
  -- what a walk does with a link that it follows
  abbrev pub behind_link : ℕ → Path → List ℕ → List Name → Trail
  behind_link zero p target names = ends p end.TooManyLinks
  behind_link (suc links) p target names =
      trail_along repository t stays (walk repository t stays links) p names (lead_of repository p (parts_of target))

  -- and with one that it meets at a path
  abbrev pub at_link : ℕ → Path → Path → List ℕ → List Name → Trail
  at_link links p path target names =
      if is_last names && stays then from p (arrives path) else from p (behind_link links p target names)

-- Whatever names follow in whatever repository, and however many links: the walk by this name goes on from the next spot;
-- or it ends; or it meets a link.
module _ (t : Nodes) (s : Spot) (name : Name) where
  pub record GoesOn (next : Spot) : Type 0 where
    pub spot : IsSpot t next
    pub goes : (repository : List ℕ) (stays : Bool) (links : ℕ) (names : List Name)
        → Continues (walk repository t stays links (name ∷ names) s.at) (walk repository t stays links names next.at)

  pub record EndsSo (halt : Halt) : Type 0 where
    pub ends_ : (repository : List ℕ) (stays : Bool) (links : ℕ) (names : List Name)
        → (walk repository t stays links (name ∷ names) s.at).end ≡ end_of halt

  pub record MeetsLink (same : Spot) (path : Path) (target : List ℕ) : Type 0 where
    pub spot : IsSpot t same
    pub link : StandsIn t path false (levels_of same)
    pub meets : (repository : List ℕ) (stays : Bool) (links : ℕ) (names : List Name)
        → walk repository t stays links (name ∷ names) s.at ≡ at_link repository t stays links same.at path target names

  abbrev pub IsPassed : Passed → Type 0
  IsPassed (At next) = GoesOn next
  IsPassed (Over halt) = EndsSo halt
  IsPassed (Link same path target) = MeetsLink same path target

-- the cuts below which the walk stands then
abbrev pub passed_levels : Passed → List Level
passed_levels (At next) = levels_of next
passed_levels (Over halt) = []
passed_levels (Link same path target) = levels_of same

-- ---- by the rows of a catalogue, whatever it is

abbrev pub passed_of : Entered → Passed
passed_of Nothing = Over NotFound
passed_of (Stands next) = At next
passed_of (entered.Link same path target) = Link same path target

pub data PassesTo (c : Contents) (s : Spot) (name : Name) (p : Passed) : Type 0 where
  idle : is_idle name ≡ true → p ≡ At s → PassesTo c s name p
  below_file : is_idle name ≡ false → s.is_directory ≡ false → p ≡ Over NotDirectory → PassesTo c s name p
  up : is_idle name ≡ false → s.is_directory ≡ true → is_up name ≡ true → (next : Spot) → IsAt (parent s.at) true (levels_above s) next → p ≡ At next → PassesTo c s name p
  down : IsEntryName s name → (e : Entered) → IsToldBy c s name e → p ≡ passed_of e → PassesTo c s name p
