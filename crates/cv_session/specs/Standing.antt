-- Where a served repository stands.
use Rattle.std.specs.Prelude.{◌≡◌, ℕ, List, [], ◌∷◌, Option}
use Rattle.cv_base.specs.Counts.{Rose}
use Rattle.cv_base.specs.Told.{WhereTold}
use Rattle.cv_ports.specs.Moments.{advanced}
use Rattle.cv_gate.specs.Desk.{Call, moments_of, faults_of}

-- its desk, the moments that its clock will give, and the faults that the desk counted
pub record Standing (K : Type 0) : Type 0 where
  pub desk : K
  pub moments : Option (ℕ → ℕ)
  pub faults : ℕ

abbrev pub standing : {K : Type 0} → K → Option (ℕ → ℕ) → ℕ → Standing K
standing desk moments faults = record { desk = desk; moments = moments; faults = faults }

-- the clock gives these moments first, one after another, and then it stands so
abbrev pub Gives : Option (ℕ → ℕ) → List ℕ → Option (ℕ → ℕ) → Type 0
Gives clock [] later = later ≡ clock
Gives clock (now ∷ moments) later = WhereTold clock (λ moment. now ≡ moment 0) × Gives (advanced clock) moments later

-- these calls of the desk were made: they lead from how it stood to how it stands, at the clock's moments, and each failure of the
-- store that they answered is one that was counted
pub record Made {K : Type 0} (does : K → List Call → K → Type 0) (before : Standing K) (calls : List Call) (after : Standing K) : Type 0 where
  pub does_ : does before.desk calls after.desk
  pub clock : Gives before.moments (moments_of calls) after.moments
  pub rose : Rose (faults_of calls) before.faults after.faults
