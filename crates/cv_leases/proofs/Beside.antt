-- Lists of leases: what holds of one that is found, and of those beside it.
use Rattle.std.proofs.Common.{◌≡◌, ◌||◌, zero, suc, not, true, false, cond, List, [], ◌∷◌, refl, subst, arith}
use Rattle.std.specs.declared.option.Option.TheVariants.{Some}
use Rattle.std.specs.List.{AllByRecursion}
use Rattle.std.proofs.lemmas.List.Elements.{recursion_from_All}
use Rattle.cv_base.specs.Path.{Path, covers, overlap}
use Rattle.cv_base.specs.declared.token.Token.{Token}
use Rattle.cv_leases.specs.Leases.{same_token, lease_of, without, AreApart}
use Rattle.cv_leases.specs.declared.lease.Lease.{Lease}
use Rattle.cv_leases.proofs.Tables.{all_filter}

-- what holds of each lease holds of the one that is found
pub found_all : (P : Lease → Type 0) (token : Token) (ls : List Lease) (lease : Lease) → AllByRecursion P ls → lease_of token ls ≡ Some lease → P lease
found_all P token [] lease h is = absurd cc
found_all P token (first ∷ ls) lease h is =
    elim (same_token first.token token) as (λ b. cond b (Some first) (lease_of token ls) ≡ Some lease → P lease) [
      | true ↦ λ e. (let same : first ≡ lease = cc in subst P same h.0)
      | false ↦ λ e. found_all P token ls lease h.1 e
    ] is

-- ---- leases that don't overlap

overlap_symm : (p q : Path) → overlap p q ≡ false → overlap q p ≡ false
overlap_symm p q h =
    elim (covers p q) as (λ a. (a || covers q p) ≡ false → (covers q p || a) ≡ false) [
      | true ↦ λ e. cc
      | false ↦ λ e. rw e refl
    ] h

-- the first overlaps none of the others, and they don't overlap
first_apart : (first : Lease) (ls : List Lease) → AreApart (first ∷ ls) → AllByRecursion (λ l. overlap first.path l.path ≡ false) ls
first_apart first ls h = recursion_from_All (λ l. overlap first.path l.path ≡ false) ls (λ k d within. h zero (suc k) d (omega arith) (omega (arith, within)))

rest_apart : (first : Lease) (ls : List Lease) → AreApart (first ∷ ls) → AreApart ls
rest_apart first ls h = λ i j d below within. h (suc i) (suc j) d (omega (arith, below)) (omega (arith, within))

-- the one that is found overlaps none of those that are left without it
pub apart : (token : Token) (ls : List Lease) (lease : Lease) → AreApart ls → lease_of token ls ≡ Some lease → AllByRecursion (λ l. overlap lease.path l.path ≡ false) (without token ls)
apart token [] lease h is = tt
apart token (first ∷ ls) lease h is =
    elim (same_token first.token token) as (λ b. cond b (Some first) (lease_of token ls) ≡ Some lease → AllByRecursion (λ l. overlap lease.path l.path ≡ false) (cond (not b) (first ∷ without token ls) (without token ls))) [
      | true ↦ λ e.
          let same : first ≡ lease = cc in
          all_filter _ _ ls (subst (λ (x : Lease). AllByRecursion (λ l. overlap x.path l.path ≡ false) ls) same (first_apart first ls h))
      | false ↦ λ e.
          let clear : overlap first.path lease.path ≡ false = found_all (λ l. overlap first.path l.path ≡ false) token ls lease (first_apart first ls h) e in
          (overlap_symm first.path lease.path clear, apart token ls lease (rest_apart first ls h) e)
    ] is
