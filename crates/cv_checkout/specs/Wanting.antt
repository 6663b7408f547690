-- Which catalogues are wanted.
use Rattle.std.specs.Prelude.{◌≡◌, ℕ, Bool, false, ◌||◌, List, [], ◌∷◌, length, filter, Option, Some, None, IfSome}
use Rattle.cv_base.specs.Path.{Path, covers, overlap}
use Rattle.cv_base.specs.ObjectId.{object_id}
use Rattle.cv_base.specs.declared.id.ObjectId.{ObjectId}
use Rattle.cv_base.specs.declared.id.Kind.TheVariants.{Catalogue}
use Rattle.cv_rows.specs.Catalogue.{Contents}
use Rattle.cv_rows.specs.declared.row.Row.{Row}
use Rattle.cv_rows.specs.declared.nested.Nested.{Nested}
use Rattle.cv_cut.specs.Opening.{IsTransitionOf}
use Rattle.cv_cut.specs.Reached.{Place, Decodes}
use Rattle.cv_checkout.specs.declared.wanted.Wanted.{Wanted}

-- the id of a catalogue that is wanted, and its place
abbrev pub id_of : Wanted → ObjectId
id_of w = object_id w.hash Catalogue

abbrev pub place_of : Wanted → Place
place_of w = record { path = w.path; row = w.row }

-- the root's
abbrev pub root_wanted : List ℕ → Wanted
root_wanted hash = record { path = []; hash = hash; size = None; row = None }

-- the id of the one that is wanted next
abbrev pub next_of : List Wanted → Option ObjectId
next_of [] = None
next_of (w ∷ ws) = Some (id_of w)

-- bytes suit what is wanted, and are this catalogue: they have the size that the nested entry states, if one names them, and
-- decode at the place
pub record Suits (w : Wanted) (bytes : List ℕ) (c : Contents) : Type 0 where
  pub sized : IfSome w.size (λ n. length bytes ≡ n)
  pub decodes : Decodes (place_of w) bytes c

-- ---- what a catalogue names

-- its nested entries on the way to a path, and those at and below it, in their order
abbrev pub toward : Path → Contents → List Nested
toward p c = filter (λ n. overlap p n.path) c.nested

-- what is wanted is the catalogue of a nested entry, at the place of its Transition row
pub record IsNamed (c : Contents) (n : Nested) (w : Wanted) : Type 0 where
  pub path_is : w.path ≡ n.path
  pub hash_is : w.hash ≡ n.hash
  pub size_is : w.size ≡ Some n.size
  pub transition : Row
  pub row_is : w.row ≡ Some transition
  pub names : IsTransitionOf c n transition

-- ---- what lies at and below the places that are wanted

abbrev pub is_covered : List Wanted → Path → Bool
is_covered [] q = false
is_covered (w ∷ ws) q = covers w.path q || is_covered ws q
