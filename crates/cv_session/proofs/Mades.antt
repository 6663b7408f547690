-- Calls of a desk, one after another.
use Rattle.std.proofs.Common.{◌++◌, ◌∷◌, ℕ, List, [], refl, sym, subst, arith}
use Rattle.std.specs.Prelude.{Option}
use Rattle.std.proofs.lemmas.List.Sums.{sum_by-append}
use Rattle.std.proofs.lemmas.Grind.{flat_map-append}
use Rattle.cv_ports.specs.Moments.{advanced}
use Rattle.cv_gate.specs.Desk.{Call, moments_in, moments_of, faults_in}
use Rattle.cv_session.specs.Standing.{Standing, Gives, Made}

pub gives_on : (moments more : List ℕ) (clock mid last : Option (ℕ → ℕ)) → Gives clock moments mid → Gives mid more last → Gives clock (moments ++ more) last
gives_on [] more clock mid last gives then = subst (λ (x : Option (ℕ → ℕ)). Gives x more last) gives then
gives_on (now ∷ moments) more clock mid last gives then = (gives.0, gives_on moments more (advanced clock) mid last gives.1 then)

-- what a relation on calls has to meet, so that calls can be made one after another
abbrev pub HasNone : {K : Type 0} → (K → List Call → K → Type 0) → Type 0
HasNone {K} does = (a : K) → does a [] a

abbrev pub HasMore : {K : Type 0} → (K → List Call → K → Type 0) → Type 0
HasMore {K} does = (a b c : K) (calls more : List Call) → does a calls b → does b more c → does a (calls ++ more) c

pub made_none : {K : Type 0} (does : K → List Call → K → Type 0) → HasNone does → (s : Standing K) → Made does s [] s
made_none does none s = record { does_ = none s.desk; clock = refl; rose = omega arith }

pub made_on : {K : Type 0} (does : K → List Call → K → Type 0) → HasMore does → (calls more : List Call) (s mid s' : Standing K) → Made does s calls mid → Made does mid more s' → Made does s (calls ++ more) s'
made_on does follows calls more s mid s' made then_ = record {
  does_ = follows s.desk mid.desk s'.desk calls more made.does_ then_.does_;
  clock =
      subst (λ (ms : List ℕ). Gives s.moments ms s'.moments) (sym (flat_map-append moments_in calls more))
      (gives_on (moments_of calls) (moments_of more) s.moments mid.moments s'.moments made.clock then_.clock);
  rose = let sum = sum_by-append faults_in calls more in let was = made.rose in let is = then_.rose in omega (arith, sum, was, is);
}
