-- How the walk of a question goes on by the catalogues that are kept.
use Rattle.std.specs.Prelude.{◌≡◌, ◌<◌, ◌+◌, ℕ, List}
use Rattle.cv_tree.specs.Tree.{Nodes, IsTree}
use Rattle.cv_rows.specs.Catalogue.{Contents}
use Rattle.cv_cut.specs.Catalogues.{Fits}
use Rattle.cv_resolver.specs.Kept.{Kept, Holds, used}
use Rattle.cv_resolver.specs.Naming.{AreKnown, NamesFile}
use Rattle.cv_resolver.specs.Spot.{IsOwn, levels_of}
use Rattle.cv_resolver.specs.Rows.{StepsBy}
use Rattle.cv_resolver.specs.Step.{steps_left}
use Rattle.cv_resolver.specs.Stage.{IsStage, IsBlameless}
use Rattle.cv_resolver.specs.Start.{IsStart}
use Rattle.cv_resolver.specs.Asking.{path_of_question}
use Rattle.cv_resolver.specs.declared.question.Question.{Question}
use Rattle.cv_resolver.specs.declared.found.ClientFault.TheVariants as fault
use Rattle.cv_resolver.specs.declared.walk.Walk.{Walk}
use Rattle.cv_resolver.specs.declared.stage.Stage.{Stage}
use Rattle.cv_resolver.specs.declared.stage.Stage.TheVariants.{Walks, Reads, Ends}
use Rattle.std.specs.declared.result.Result.TheVariants.{Err}

-- What a step of a walk by a catalogue comes to at most: it goes on with fewer steps left, below cuts that it knew or that the
-- catalogue names; the content of a file of the catalogue is wanted; or the question is answered and nobody is blamed.
abbrev pub StepsTo : Contents → Walk → Stage → Type 0
StepsTo c w (Walks next) = (steps_left next < steps_left w) × AreKnown c (levels_of w.spot) (levels_of next.spot)
StepsTo c w (Reads hash) = NamesFile c hash
StepsTo c w (Ends answer) = IsBlameless (Ends answer)

-- in every tree of which that is the catalogue of the walk's nearest cut, the question stays on its way to its answer
abbrev pub StaysOn : (repository : List ℕ) → Question → Contents → Walk → Stage → Type 0
StaysOn repository q c w s = (t : Nodes) → IsTree t → Fits t → IsOwn t w.spot c → IsStage repository t q (Walks w) → IsStage repository t q s

-- one step by the catalogue of the nearest cut, which is kept
pub record StepsByKept (repository : List ℕ) (q : Question) (k : Kept) (w : Walk) (s : Stage) : Type 0 where
  pub holds : Holds k w.spot.level
  pub told : StepsBy repository q holds.found w s
  pub steps : StepsTo holds.found w s
  pub on : StaysOn repository q holds.found w s

-- the walk is over
abbrev pub IsOver : Stage → Type 0
IsOver (Walks w) = ⊥
IsOver (Reads hash) = Unit {0}
IsOver (Ends answer) = Unit {0}

-- The catalogues that are kept lead a walk on, step by step, as far as they go: it waits where that of the nearest cut isn't
-- kept; else that one is used, and comes first, and the walk is over or goes on.
pub data Leads (repository : List ℕ) (q : Question) : Kept → Walk → Kept → Stage → Type 0 where
  waits : {k : Kept} {w : Walk} {after : Kept} {s : Stage} → (Holds k w.spot.level → ⊥) → after ≡ k → s ≡ Walks w → Leads repository q k w after s
  halts : {k : Kept} {w : Walk} {after : Kept} {s : Stage} → StepsByKept repository q k w s → IsOver s → after ≡ used k w.spot.level.hash → Leads repository q k w after s
  goes_further : {k : Kept} {w : Walk} {after : Kept} {s : Stage} (next : Walk) → StepsByKept repository q k w (Walks next) → Leads repository q (used k w.spot.level.hash) next after s → Leads repository q k w after s

-- the walk of a question begins at a root and is led on so, or there is no memory for it
pub data Begins (repository root : List ℕ) (q : Question) (k after : Kept) (s : Stage) : Type 0 where
  starts : (w : Walk) → IsStart root (path_of_question q) w → Leads repository q k w after s → Begins repository root q k after s
  no_memory : after ≡ k → s ≡ Ends (Err fault.NoMemory) → Begins repository root q k after s

-- ---- what follows

-- no catalogue is wanted that is kept for its place
abbrev pub IsUncached : Kept → Stage → Type 0
IsUncached k (Walks w) = Holds k w.spot.level → ⊥
IsUncached k (Reads hash) = Unit {0}
IsUncached k (Ends answer) = Unit {0}

-- At most so many objects are wanted for a question, before it is answered: a catalogue for each step that is left and for
-- the place at which the walk arrives, and the content of a file.
abbrev pub wants_left : Stage → ℕ
wants_left (Walks w) = steps_left w + 2
wants_left (Reads hash) = 1
wants_left (Ends answer) = 0
