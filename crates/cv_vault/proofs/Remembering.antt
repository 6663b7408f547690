-- The calls of a vault in memory, by its record of changes.
use Rattle.std.proofs.Common.{◌≡◌, ◌≢◌, ◌⊎◌, inl, inr, ℕ, ◌+◌, ◌≤◌, Bool, true, false, not, cond, ◌==◌, List, [], ◌∷◌, ◌++◌, length, take, min, nat_lt, refl, ap, sym, subst, ◌∙◌, arith, length-append}
use Rattle.std.specs.declared.result.Result.{Result}
use Rattle.std.specs.declared.result.Result.TheVariants.{Ok, Err}
use Rattle.std.proofs.lemmas.List.{take_all, take-append-le}
use Rattle.std.proofs.lemmas.Bool.Decides.{nat_tests}
use Rattle.cv_base.specs.Counts.{last_count, raised}
use Rattle.cv_vault.specs.Names.{Name}
use Rattle.cv_vault.specs.Disk.{Disk, Files, Image}
use Rattle.cv_vault.specs.Events.{Event, Differs, Same, LeftBy, after, replay}
use Rattle.cv_vault.specs.FailuresInner.{fate_of, fate_fails, fate_makes}
use Rattle.cv_vault.specs.Memory.{Memory, began, memory_disk, times, MemoryCalls, Kept, Changed, Makes, Counted, Numbered}
use Rattle.cv_vault.specs.declared.fate.Fate.{Fate}
use Rattle.cv_vault.specs.declared.fate.Fate.TheVariants.{Works, FailsUnmade, FailsMade}
use Rattle.cv_vault.specs.declared.vault.VaultFault.{VaultFault}
use Rattle.cv_vault.specs.declared.vault.VaultFault.TheVariants.{Failed}
use Rattle.cv_vault.proofs.Changing.{replay-push}

pub memory_disk-kept : (v v' : Memory) → Kept v v' → memory_disk v' ≡ memory_disk v
memory_disk-kept v v' k = let p = k.past in let f = k.first in cc

pub memory_disk-changed : (e : Event) (v v' : Memory) → Changed e v v' → memory_disk v' ≡ after e (memory_disk v)
memory_disk-changed e v v' c = (let p = c.past in let f = c.first in let x : memory_disk v' ≡ replay (v.past ++ e ∷ []) (began v) = cc in x) ∙ replay-push v.past e (began v)

left_by_same : (past past' : List Event) (first first' : Disk) (m : ℕ) (f : Files) → past' ≡ past → first' ≡ first → LeftBy past first m f → LeftBy past' first' m f
left_by_same past past' first first' m f p q l = rw (p, q) l

-- nothing was recorded, and the disk stays as it was
pub calls_kept : (R : Disk → Disk → Type 0) (v v' : Memory) → Kept v v' → R (memory_disk v) (memory_disk v) → MemoryCalls R v v'
calls_kept R v v' k r = record {
  tells = λ d e. (memory_disk v', refl, let is : memory_disk v ≡ d = cc in subst (λ x. R d x) (sym (memory_disk-kept v v' k)) (subst (λ x. R x (memory_disk v)) is (r)));
  silent = λ e. cc;
  later = let p = ap (λ (es : List Event). length es) k.past in omega arith;
  kept = λ m f le l. left_by_same v.past v'.past (began v) (began v') m f k.past k.first l;
  nothing_else = λ m f le l. inl (left_by_same v'.past v.past (began v') (began v) m f (sym k.past) (sym k.first) l);
}

le_or_next : (k n : ℕ) → k ≤ n + 1 → (k ≤ n) ⊎ (k ≡ n + 1)
le_or_next k n h = grind arith

-- a change was recorded: a crash leaves what it might have left before it, or an image of now
pub calls_changed : (R : Disk → Disk → Type 0) (e : Event) (v v' : Memory) → Changed e v v' → R (memory_disk v) (after e (memory_disk v)) → MemoryCalls R v v'
calls_changed R e v v' c r = record {
  tells = λ d x. (memory_disk v', refl, let is : memory_disk v ≡ d = cc in subst (λ y. R d y) (sym (memory_disk-changed e v v' c)) (subst (λ y. R y (after e (memory_disk v))) is r));
  silent = λ x. cc;
  later = let p = ap (λ (es : List Event). length es) c.past in omega (arith, length-append v.past (e ∷ []));
  kept = λ m f le l. left_by_same (v.past ++ e ∷ []) v'.past (began v) (began v') m f c.past c.first (longer m f l);
  nothing_else = λ m f le l. split m f (left_by_same v'.past (v.past ++ e ∷ []) (began v') (began v) m f (sym c.past) (sym c.first) l);
}
  where
    earlier : (k : ℕ) → k ≤ length v.past → replay (take k (v.past ++ e ∷ [])) (began v) ≡ replay (take k v.past) (began v)
    earlier k le = ap (λ es. replay es (began v)) (take-append-le k v.past (e ∷ []) le)

    longer : (m : ℕ) (f : Files) → LeftBy v.past (began v) m f → LeftBy (v.past ++ e ∷ []) (began v) m f
    longer m f l = record {
      moment = l.moment;
      since = l.since;
      until = let u = l.until in omega (arith, length-append v.past (e ∷ []));
      image = subst (λ d. Image d f) (sym (earlier l.moment l.until)) l.image;
    }

    now : replay (v.past ++ e ∷ []) (began v) ≡ memory_disk v'
    now = let p = c.past in let f = c.first in cc

    split : (m : ℕ) (f : Files) → LeftBy (v.past ++ e ∷ []) (began v) m f → LeftBy v.past (began v) m f ⊎ Image (memory_disk v') f
    split m f l = elim (le_or_next l.moment (length v.past) (let u = l.until in omega (arith, length-append v.past (e ∷ [])))) [
      | inl k ↦ inl (record { moment = l.moment; since = l.since; until = k; image = subst (λ d. Image d f) (earlier l.moment k) l.image })
      | inr k ↦ inr (subst (λ d. Image d f) (ap (λ es. replay es (began v)) (take_all l.moment (v.past ++ e ∷ []) (omega (arith, length-append v.past (e ∷ [])))) ∙ now) l.image)
    ]

-- a change was made, recorded or not
pub calls_makes : (R : Disk → Disk → Type 0) (e : Event) (v v' : Memory) → Makes e v v' → R (memory_disk v) (after e (memory_disk v)) → MemoryCalls R v v'
calls_makes R e v v' (Differs n h c) r = calls_changed R e v v' c r
calls_makes R e v v' (Same h k) r = calls_kept R v v' k (subst (R (memory_disk v)) h r)

pub counted_kept : (v v' : Memory) → Kept v v' → Counted v v'
counted_kept v v' k = Same (memory_disk-kept v v' k) k

pub counted_changed : (e : Event) (v v' : Memory) (n : Name) → Changed e v v' → after e (memory_disk v) n ≢ memory_disk v n → Counted v v'
counted_changed e v v' n c h =
    Differs n (subst (λ (d : Disk). d n ≢ memory_disk v n) (sym (memory_disk-changed e v v' c)) h)
    (let p = ap (λ (es : List Event). length es) c.past in omega (arith, length-append v.past (e ∷ [])))

pub counted_makes : (e : Event) (v v' : Memory) → Makes e v v' → Counted v v'
counted_makes e v v' (Differs n h c) = counted_changed e v v' n c h
counted_makes e v v' (Same h k) = counted_kept v v' k

fails_by : (none once : Bool) → fate_fails (cond none Works (cond once FailsUnmade FailsMade)) ≡ not none
fails_by true once = refl
fails_by false true = refl
fails_by false false = refl

makes_by : (none once : Bool) → none ≡ false → fate_makes (cond none Works (cond once FailsUnmade FailsMade)) ≡ not once
makes_by true once e = cc
makes_by false true e = refl
makes_by false false e = refl

fails_if_met : (n : ℕ) → fate_fails (fate_of n) ≡ nat_lt 0 n
fails_if_met n = fails_by (n == 0) (n == 1) ∙ grind (arith, nat_tests)

-- a call that fails makes its change where its number stands twice or more
pub makes_if_twice : (n : ℕ) (fate : Fate) → fate ≡ fate_of n → fate_fails fate ≡ true → fate_makes fate ≡ nat_lt 1 n
makes_if_twice n fate is fails =
    let met : nat_lt 0 n ≡ true = sym (fails_if_met n) ∙ ap fate_fails (sym is) ∙ fails in
    ap fate_makes is ∙ makes_by (n == 0) (n == 1) (grind (arith, nat_tests)) ∙ twice n met
  where
    twice : (n : ℕ) → nat_lt 0 n ≡ true → not (n == 1) ≡ nat_lt 1 n
    twice n met = grind (arith, nat_tests)

-- a call has the next number
pub numbered_by : {X : Type 0} (v v' : Memory) (fate : Fate) (r : Result X VaultFault) → v'.failing ≡ v.failing → v'.calls ≡ raised v.calls → fate ≡ fate_of (times v)
    → v'.faults ≡ cond (fate_fails fate) (min (v.faults + 1) last_count) v.faults → (r ≡ Err Failed → fate_fails fate ≡ true) → ((x : X) → r ≡ Ok x → fate_fails fate ≡ false) → Numbered v v' r
numbered_by v v' fate r same next is faults failed worked = record {
  failing = same;
  calls = next;
  faults = faults ∙ ap (λ b. cond b (min (v.faults + 1) last_count) v.faults) met;
  failed = λ e. (let b : nat_lt 0 (times v) ≡ true = sym met ∙ failed e in grind (arith, nat_tests));
  fails = λ x e. (let b : nat_lt 0 (times v) ≡ false = sym met ∙ worked x e in grind (arith, nat_tests));
}
  where
    met : fate_fails fate ≡ nat_lt 0 (times v)
    met = ap fate_fails is ∙ fails_if_met (times v)
