-- What the numbers of a place stand for. What only this crate's own functions say.
use Rattle.std.specs.Prelude.{ℕ, ◌<◌, ◌/◌, ◌%◌, ◌==◌, if◌then◌else◌, Bool, true, false, []}
use Rattle.std.specs.declared.option.Option.{Option}
use Rattle.std.specs.declared.option.Option.TheVariants.{None, Some}
use Rattle.cv_vault.specs.Disk as disk
use Rattle.cv_vault.specs.declared.place.Place.{Place}
use Rattle.cv_vault.specs.declared.place.PlaceMark.{PlaceMark}
use Rattle.cv_vault.specs.declared.place.PlaceMark.TheVariants.{Settled, Torn, Moved}
use Rattle.cv_vault.specs.Places.{mark_in}

abbrev pub is_settled_place : Place → Bool
is_settled_place p = disk.is_settled (mark_in [] p.mark)

-- the mark of a name that was renamed or removed
abbrev pub moved_mark : Bool → Option ℕ → PlaceMark
moved_mark true before = Moved before
moved_mark false before = Torn

-- the place of a name that has another file by a rename or a removal
abbrev pub moved_place : Place → Option ℕ → Bool → Place
moved_place p now all_settled = record { now = now; mark = moved_mark all_settled p.now }

-- the file before, of a name that isn't settled: none for a torn name
abbrev pub before_place : Option ℕ → PlaceMark → Option ℕ
before_place now Settled = now
before_place now Torn = None
before_place now (Moved before) = before

-- what a crash leaves at a place by the lowest bit of a pick
abbrev pub left_place : ℕ → Place → Option ℕ
left_place pick p = if is_settled_place p then p.now else (if pick % 2 == 0 then before_place p.now p.mark else p.now)

-- the pick for the next name
abbrev pub next_pick : ℕ → Place → ℕ
next_pick pick p = if is_settled_place p then pick else pick / 2

-- the number is that of a content
abbrev pub IsFileIn : ℕ → Option ℕ → Type 0
IsFileIn n None = Unit {0}
IsFileIn n (Some k) = k < n

abbrev pub IsMarkIn : ℕ → PlaceMark → Type 0
IsMarkIn n Settled = Unit {0}
IsMarkIn n Torn = Unit {0}
IsMarkIn n (Moved before) = IsFileIn n before

pub record IsPlaceIn (contents : ℕ) (p : Place) : Type 0 where
  pub file : IsFileIn contents p.now
  pub mark : IsMarkIn contents p.mark
