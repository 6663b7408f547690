-- On what an answer or a refusal rests, whatever the catalogues say: on a walk from the root, step by step, by the rows of
-- catalogues that are named one below the other from there.
use Rattle.std.specs.Prelude.{◌≡◌, ℕ, true, List, ◌∷◌}
use Rattle.cv_rows.specs.Catalogue.{Contents}
use Rattle.cv_cut.specs.Reached.{FitsPlace}
use Rattle.cv_resolver.specs.Asking.{path_of_question}
use Rattle.cv_resolver.specs.Spot.{place_of}
use Rattle.cv_resolver.specs.Kept.{Kept, IsKept}
use Rattle.cv_resolver.specs.Start.{IsStart}
use Rattle.cv_resolver.specs.Rows.{StepsBy}
use Rattle.cv_resolver.specs.declared.spot.Level.{Level}
use Rattle.cv_resolver.specs.declared.walk.Walk.{Walk}
use Rattle.cv_resolver.specs.declared.question.Question.{Question}
use Rattle.cv_resolver.specs.declared.stage.Stage.{Stage}
use Rattle.cv_resolver.specs.declared.stage.Stage.TheVariants.{Walks, Reads, Ends}

-- the catalogue of the level: it has the digest, and stands at the place
pub record IsOfLevel (l : Level) (c : Contents) : Type 0 where
  pub kept : IsKept l.hash c
  pub place : FitsPlace (place_of l) c

-- How far the walk of a question may have come: it begins at the root of this hash, and each of its steps is what the rows of
-- the catalogue of the nearest cut say there.
pub data Walked (repository root : List ℕ) (q : Question) : Walk → Type 0 where
  begins : {w : Walk} → IsStart root (path_of_question q) w → Walked repository root q w
  goes : {w next : Walk} {c : Contents} → Walked repository root q w → IsOfLevel w.spot.level c → StepsBy repository q c w (Walks next) → Walked repository root q next

-- the walk of the question has come so far, and waits in a directory
pub record WaitsUnder (repository root : List ℕ) (q : Question) (w : Walk) : Type 0 where
  pub directory : w.spot.is_directory ≡ true
  pub walked : Walked repository root q w

abbrev pub IsUnder : (repository root : List ℕ) → Question → Stage → Type 0
IsUnder repository root q (Walks w) = WaitsUnder repository root q w
IsUnder repository root q (Reads hash) = Unit {0}
IsUnder repository root q (Ends answer) = Unit {0}

-- the question has come to this by the last step of such a walk: by the catalogue of its nearest cut, which was used last
pub record IsLastStep (repository root : List ℕ) (q : Question) (k : Kept) (s : Stage) : Type 0 where
  pub walk : Walk
  pub walked : Walked repository root q walk
  pub catalogue : Contents
  pub is : IsOfLevel walk.spot.level catalogue
  pub rest : List (List ℕ × Contents)
  pub last_used : k.entries ≡ (walk.spot.level.hash, catalogue) ∷ rest
  pub step : StepsBy repository q catalogue walk s
