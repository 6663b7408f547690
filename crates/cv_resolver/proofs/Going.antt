-- How the walk of a question goes on.
use Rattle.std.proofs.Common.{◌≡◌, ◌≢◌, ℕ, Bool, true, false, List, [], ◌∷◌, refl, sym, ap, subst, ◌∙◌}
use Rattle.std.specs.Prelude.{IfOk}
use Rattle.std.specs.declared.result.Result.{Result}
use Rattle.std.specs.declared.result.Result.TheVariants.{Ok, Err}
use Rattle.cv_base.specs.Path.{Path}
use Rattle.std.specs.declared.option.Option.TheVariants.{None}
use Rattle.cv_tree.specs.Tree.{Nodes, IsTree}
use Rattle.cv_rows.specs.Catalogue.{Contents}
use Rattle.cv_cut.specs.Catalogues.{root_of, Fits}
use Rattle.cv_resolver.specs.Walk.{Name, Trail, is_last, walk}
use Rattle.cv_resolver.specs.Asking.{is_stat, path_of_question}
use Rattle.cv_resolver.specs.Spot.{StandsIn, levels_of}
use Rattle.cv_resolver.specs.Start.{IsStart}
use Rattle.cv_resolver.specs.declared.spot.Level.{Level}
use Rattle.cv_resolver.specs.Pass.{Continues}
use Rattle.cv_resolver.specs.Step.{trail_from, steps_left}
use Rattle.cv_resolver.specs.StepInner.{IsStep, HasFewer, stepped_levels}
use Rattle.cv_resolver.specs.Naming.{AreKnown}
use Rattle.cv_resolver.specs.Progress.{StepsTo}
use Rattle.cv_resolver.specs.ProgressInner.{ComesTo}
use Rattle.cv_resolver.specs.Look.{Finding, found_at, finding_of, look, trail}
use Rattle.cv_resolver.specs.Stage.{IsFoundBy, IsStage}
use Rattle.cv_resolver.specs.declared.question.Question.{Question}
use Rattle.cv_resolver.specs.declared.found.ClientFault.{ClientFault}
use Rattle.cv_resolver.specs.declared.walk.Walk.{Walk}
use Rattle.cv_resolver.specs.declared.step.Step.{Step}
use Rattle.cv_resolver.specs.declared.step.Step.TheVariants.{On}
use Rattle.cv_resolver.specs.declared.stage.Stage.{Stage}
use Rattle.cv_resolver.specs.declared.stage.Stage.TheVariants.{Walks, Reads, Ends}
use Rattle.cv_resolver.proofs.Steps as go
use Rattle.cv_resolver.proofs.Passing.{same_trail, through}
use Rattle.cv_resolver.proofs.Spots.{starts}

-- ---- names

pub none_left : (names : List Name) → is_last names ≡ true → names ≡ []
none_left [] h = refl
none_left (n ∷ ns) h = cc

pub some_left : (names : List Name) → is_last names ≡ false → names ≢ []
some_left [] h = absurd cc
some_left (n ∷ ns) h = λ e. cc

-- ---- steps by a catalogue

pub arrived_step : {E : Type 0} (c : Contents) (w : Walk) (r : Result Stage E) → IfOk r (ComesTo c) → IfOk r (StepsTo c w)
arrived_step c w (Err e) h = tt
arrived_step c w (Ok (Walks next)) h = absurd h
arrived_step c w (Ok (Reads hash)) h = h
arrived_step c w (Ok (Ends answer)) h = h

pub stepped_on : (c : Contents) (w next : Walk) (s : Step) → s ≡ On next → HasFewer (steps_left w) s → AreKnown c (levels_of w.spot) (stepped_levels s) → StepsTo c w (Walks next)
stepped_on c w next s is few known = (subst (HasFewer (steps_left w)) is few, subst (λ (x : Step). AreKnown c (levels_of w.spot) (stepped_levels x)) is known)

-- ---- in a tree

module _ (repository : List ℕ) (t : Nodes) (q : Question) where
  found_stage : (finding : Result Finding ClientFault) (s : Stage) → look repository t q ≡ finding → IsFoundBy finding s → IsStage repository t q s
  found_stage finding (Walks w) same found = absurd found
  found_stage finding (Reads hash) same found = subst (λ (f : Result Finding ClientFault). IsFoundBy f (Reads hash)) (sym same) found
  found_stage finding (Ends answer) same found = subst (λ (f : Result Finding ClientFault). IsFoundBy f (Ends answer)) (sym same) found

  found_here : (w : Walk) → w.names.items ≡ [] → Continues (trail repository t q) (trail_from repository t (is_stat q) w) → look repository t q ≡ found_at t q w.spot.at
  found_here w none goes =
      let arrives : trail_from repository t (is_stat q) w ≡ _ = ap (λ (names : List Name). walk repository t (is_stat q) w.links names w.spot.at) none ∙ go.done repository t (is_stat q) w.links w.spot.at in
      ap (finding_of t q) (sym goes.end ∙ ap (λ (x : Trail). x.end) arrives)

  -- a walk without names has arrived
  pub arrived : {E : Type 0} (r : Result Stage E) (w : Walk) → w.names.items ≡ [] → IsStage repository t q (Walks w) → IfOk r (IsFoundBy (found_at t q w.spot.at)) → IfOk r (IsStage repository t q)
  arrived (Err e) w none on found = tt
  arrived (Ok s) w none on found = found_stage (found_at t q w.spot.at) s (found_here w none on.1) found

  -- a step of a walk
  pub stepped : (b : Bool) (w next : Walk) (s : Step) → b ≡ is_stat q → s ≡ On next → IsStep repository t b (trail_from repository t b w) s → IsStage repository t q (Walks w) → IsStage repository t q (Walks next)
  stepped b w next s same is step on =
      let here = subst (λ (x : Bool). IsStep repository t x (trail_from repository t x w) (On next)) same (subst (λ (x : Step). IsStep repository t b (trail_from repository t b w) x) is step) in
      (here.0, through _ _ _ on.1 here.1)

pub begins_at : (root : List ℕ) (path asked : Path) (w : Walk) → path ≡ asked → IsStart root path w → IsStart root asked w
begins_at root path asked w same is = subst (λ (p : Path). IsStart root p w) same is

-- a walk that begins is that of the question
pub started : (repository : List ℕ) (t : Nodes) (q : Question) (root : List ℕ) (path : Path) (w : Walk) → IsTree t → Fits t → root ≡ root_of t → path ≡ path_of_question q → IsStart root path w → IsStage repository t q (Walks w)
started repository t q root path w tree fits same path_is is =
    let here : StandsIn t [] true (record { path = []; hash = root; row = None } ∷ []) = subst (λ (h : List ℕ). StandsIn t [] true (record { path = []; hash = h; row = None } ∷ [])) (sym same) (starts t tree fits) in
    let levels : StandsIn t [] true (levels_of w.spot) = subst (λ (x : List Level). StandsIn t [] true x) (sym is.levels) here in
    let directory : StandsIn t [] w.spot.is_directory (levels_of w.spot) = subst (λ (x : Bool). StandsIn t [] x (levels_of w.spot)) (sym is.directory) levels in
    let whole : trail repository t q ≡ trail_from repository t (is_stat q) w = λ i. walk repository t (is_stat q) (sym is.links i) ((sym path_is ∙ sym is.names) i) (sym is.at i) in
    (subst (λ (x : Path). StandsIn t x w.spot.is_directory (levels_of w.spot)) (sym is.at) directory, same_trail _ _ whole)
