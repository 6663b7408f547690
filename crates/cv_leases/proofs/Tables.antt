-- What holds of a table when leases leave it or come to it.
use Rattle.std.proofs.Common.{ℕ, T, ◌≡◌, ◌≤◌, ◌<◌, ◌+◌, ◌&&◌, nat_eq, nat_le, Bool, true, false, cond, List, [], ◌∷◌, ◌++◌, length, arith, rules, refl, sym, subst, Some, None}
use Rattle.std.proofs.lemmas.Bool.{eqb-true}
use Rattle.std.proofs.Math.Dec.{eqb_refl}
use Rattle.std.specs.List.{filter, last_or, AllByRecursion}
use Rattle.std.proofs.lemmas.List.Elements.{All-from_recursion}
use Rattle.std.proofs.lemmas.List.Kept.{AllPairs-filter}
use Rattle.std.proofs.lemmas.List.Quantifiers.{all_pairs_push}
use Rattle.cv_base.specs.Path.{Path, overlap}
use Rattle.cv_base.specs.Marker.{marker, ends_in}
use Rattle.cv_base.specs.declared.token.Token.{Token}
use Rattle.cv_base.proofs.Laws.{all_push}
use Rattle.cv_leases.specs.declared.lease.Lease.{Lease}
use Rattle.cv_leases.specs.declared.lease_fault.LeaseFault.TheVariants.{BadPath, TooManyLeases}
use Rattle.cv_leases.specs.declared.limits.TheConstants.{LEASE_LIMIT}
use Rattle.cv_leases.specs.Leases.{same_token, lease_of, busy, refusal_beside, refusal, IsTable}

-- tokens that compare equal are
pub same_token_is : (a b : Token) → same_token a b ≡ true → a ≡ b
same_token_is a b h =
    elim (nat_eq a.epoch b.epoch) as (λ t. nat_eq a.epoch b.epoch ≡ t → (t && nat_eq a.number b.number) ≡ true → a ≡ b) [
      | true ↦ λ e n. let epoch : a.epoch ≡ b.epoch = eqb-true _ _ e in let number : a.number ≡ b.number = eqb-true _ _ n in (λ i. record { epoch = epoch i; number = number i })
      | false ↦ λ e n. cc
    ] refl h

eqb_itself : (n : ℕ) → nat_eq n n ≡ true
eqb_itself n = elim (nat_eq n n) as (λ b. T b → b ≡ true) [ true ↦ λ t. refl | false ↦ λ t. absurd t ] (eqb_refl n)

pub same_token_itself : (a : Token) → same_token a a ≡ true
same_token_itself a = rw (eqb_itself a.epoch, eqb_itself a.number) refl

pub all_filter : {X : Type 0} (P : X → Type 0) (test : X → Bool) (xs : List X) → AllByRecursion P xs → AllByRecursion P (filter test xs)
all_filter P test [] h = tt
all_filter P test (x ∷ xs) h =
    elim (test x) as (λ b. AllByRecursion P (cond b (x ∷ filter test xs) (filter test xs))) [
      | true ↦ (h.0, all_filter P test xs h.1)
      | false ↦ all_filter P test xs h.1
    ]

count_filter : (test : Lease → Bool) (leases : List Lease) → length (filter test leases) ≤ length leases
count_filter test [] = omega arith
count_filter test (lease ∷ leases) =
    let rest = count_filter test leases in
    elim (test lease) as (λ b. length (cond b (lease ∷ filter test leases) (filter test leases)) ≤ length (lease ∷ leases)) [
      | true ↦ omega (arith, rest)
      | false ↦ omega (arith, rest)
    ]

-- where leases leave it
pub table_filter : (test : Lease → Bool) (leases : List Lease) → IsTable leases → IsTable (filter test leases)
table_filter test leases h = record {
  apart = AllPairs-filter (λ (a b : Lease). overlap a.path b.path ≡ false) test leases h.apart;
  tokens = AllPairs-filter (λ (a b : Lease). same_token a.token b.token ≡ false) test leases h.tokens;
  deadlines = AllPairs-filter (λ (a b : Lease). a.deadline ≤ b.deadline) test leases h.deadlines;
  paths = all_filter _ test leases h.paths;
  count = (let fewer = count_filter test leases in let few = h.count in omega (arith, fewer, few));
}

-- what a path has on which nothing refuses a lease
pub record HasRoom (leases : List Lease) (path : Path) : Type 0 where
  pub unmarked : ends_in marker path ≡ false
  pub clear : busy leases path ≡ None
  pub few : length leases < LEASE_LIMIT

pub not_refused : (leases : List Lease) (path : Path) → refusal leases path ≡ None → HasRoom leases path
not_refused leases path h =
    elim (ends_in marker path) as (λ m. ends_in marker path ≡ m → cond m (Some BadPath) (refusal_beside (busy leases path) leases) ≡ None → HasRoom leases path) [
      | true ↦ λ m none. cc
      | false ↦ λ m none. elim (busy leases path) as (λ b. busy leases path ≡ b → refusal_beside b leases ≡ None → HasRoom leases path) [
        | Some lease ↦ λ b none2. cc
        | None ↦ λ b none2. elim (nat_le LEASE_LIMIT (length leases)) as (λ many. nat_le LEASE_LIMIT (length leases) ≡ many → cond many (Some TooManyLeases) None ≡ None → HasRoom leases path) [
          | true ↦ λ many none3. cc
          | false ↦ λ many none3. record { unmarked = m; clear = b; few = search rules }
        ] refl none2
      ] refl none
    ] refl h

last_or_some : {X : Type 0} (x : X) (xs : List X) → last_or (Some x) xs ≡ None → ⊥
last_or_some x [] h = cc
last_or_some x (y ∷ ys) h = last_or_some y ys h

-- where no lease overlaps, none does
pub none_overlaps : (leases : List Lease) (path : Path) → busy leases path ≡ None → AllByRecursion (λ lease. overlap lease.path path ≡ false) leases
none_overlaps [] path h = tt
none_overlaps (lease ∷ leases) path h =
    elim (overlap lease.path path) as (λ b. overlap lease.path path ≡ b → last_or None (cond b (lease ∷ filter (λ other. overlap other.path path) leases) (filter (λ other. overlap other.path path) leases)) ≡ None → (overlap lease.path path ≡ false) × AllByRecursion (λ other. overlap other.path path ≡ false) leases) [
      | true ↦ λ e none. absurd (last_or_some lease (filter (λ other. overlap other.path path) leases) none)
      | false ↦ λ e none. (e, none_overlaps leases path none)
    ] refl h

-- where no lease is found by the token, none has it
none_has : (leases : List Lease) (token : Token) → lease_of token leases ≡ None → AllByRecursion (λ lease. same_token lease.token token ≡ false) leases
none_has [] token h = tt
none_has (lease ∷ leases) token h =
    elim (same_token lease.token token) as (λ b. same_token lease.token token ≡ b → cond b (Some lease) (lease_of token leases) ≡ None → (same_token lease.token token ≡ false) × AllByRecursion (λ other. same_token other.token token ≡ false) leases) [
      | true ↦ λ e none. cc
      | false ↦ λ e none. (e, none_has leases token none)
    ] refl h

length_push : {X : Type 0} (xs : List X) (x : X) → length (xs ++ x ∷ []) ≡ length xs + 1
length_push [] x = refl
length_push (y ∷ ys) x = let rest = length_push ys x in omega (arith, rest)

-- where a lease comes to it that isn't refused
pub table_push : (leases : List Lease) (lease : Lease) → IsTable leases → ends_in marker lease.path ≡ false → busy leases lease.path ≡ None → length leases < LEASE_LIMIT → lease_of lease.token leases ≡ None → AllByRecursion (λ other. other.deadline ≤ lease.deadline) leases → IsTable (leases ++ lease ∷ [])
table_push leases lease h unmarked free room new last = record {
  apart = all_pairs_push (λ (a b : Lease). overlap a.path b.path ≡ false) leases lease h.apart (All-from_recursion (λ l. overlap l.path lease.path ≡ false) leases (none_overlaps leases lease.path free));
  tokens = all_pairs_push (λ (a b : Lease). same_token a.token b.token ≡ false) leases lease h.tokens (All-from_recursion (λ l. same_token l.token lease.token ≡ false) leases (none_has leases lease.token new));
  deadlines = all_pairs_push (λ (a b : Lease). a.deadline ≤ b.deadline) leases lease h.deadlines (All-from_recursion (λ l. l.deadline ≤ lease.deadline) leases last);
  paths = all_push _ leases lease h.paths unmarked;
  count = (let more = length_push leases lease in omega (arith, more, room));
}

-- where it may have come
pub table_either : (grown : Bool) (leases : List Lease) (lease : Lease) (now : List Lease) → now ≡ cond grown (leases ++ lease ∷ []) leases → IsTable leases → IsTable (leases ++ lease ∷ []) → IsTable now
table_either true leases lease now e old new = subst IsTable (sym e) new
table_either false leases lease now e old new = subst IsTable (sym e) old

-- the lease that is found by a token has it
pub lease_of_token : (token : Token) (leases : List Lease) (lease : Lease) → lease_of token leases ≡ Some lease → lease.token ≡ token
lease_of_token token [] lease h = cc
lease_of_token token (first ∷ leases) lease h =
    elim (same_token first.token token) as (λ b. same_token first.token token ≡ b → cond b (Some first) (lease_of token leases) ≡ Some lease → lease.token ≡ token) [
      | true ↦ λ same found. let is : first ≡ lease = cc in subst (λ (l : Lease). l.token ≡ token) is (same_token_is first.token token same)
      | false ↦ λ other found. lease_of_token token leases lease found
    ] refl h
