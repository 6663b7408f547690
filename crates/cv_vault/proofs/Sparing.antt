-- Names that are spared, call by call.
use Rattle.std.proofs.Common.{◌≡◌, ◌≢◌, ◌⊎◌, ℕ, Bool, true, false, refl, ap, ◌∙◌, inl, inr}
use Rattle.std.specs.declared.option.Option.{Option}
use Rattle.std.specs.declared.option.Option.TheVariants.{Some}
use Rattle.std.specs.declared.result.Result.{Result}
use Rattle.std.specs.declared.result.Result.TheVariants.{Ok, Err}
use Rattle.cv_vault.specs.declared.vault.VaultFault.{VaultFault}
use Rattle.cv_vault.specs.declared.vault.VaultFault.TheVariants.{Failed, NoMemory}
use Rattle.cv_vault.specs.Names.{Name}
use Rattle.cv_vault.specs.Disk.{Disk, Slot, Files, Settled, Torn, Absent, Made, Unmade, Writes, Renames, Syncs, slot, with_slot, moved, both_settled}
use Rattle.cv_vault.specs.Moments.{Calls, OnlyReads}
use Rattle.cv_vault.specs.Walks.{SparesIn}
use Rattle.cv_vault.proofs.Names.{elsewhere}
use Rattle.cv_vault.proofs.Calling.{renamed_elsewhere}

module _ {V : Type 0} {disk : V → Option Disk} {P : Name → Type 0} where
  pub spares_none : {v : V} → SparesIn disk P v v
  spares_none = record { silent = λ e. e; tells = λ d e. (d, e, record { each = λ n p. inl refl }) }

  pub spares_then : {a b c : V} → SparesIn disk P a b → SparesIn disk P b c → SparesIn disk P a c
  spares_then x y = record {
    silent = λ e. y.silent (x.silent e);
    tells = λ d e.
        let t = x.tells d e in
        let u = y.tells t.0 t.1 in
        (u.0, u.1, record { each = λ n p. by (d n) (t.0 n) (u.0 n) (t.2.each n p) (u.2.each n p) });
  }
    where
      by : (s t u : Slot) → (t ≡ s) ⊎ (t ≡ slot s.now Settled) → (u ≡ t) ⊎ (u ≡ slot t.now Settled) → (u ≡ s) ⊎ (u ≡ slot s.now Settled)
      by s t u (inl k) (inl l) = inl (l ∙ k)
      by s t u (inl k) (inr l) = inr (l ∙ ap (λ (x : Slot). slot x.now Settled) k)
      by s t u (inr k) (inl l) = inr (l ∙ k)
      by s t u (inr k) (inr l) = inr (l ∙ ap (λ (x : Slot). slot x.now Settled) k)

  pub spares_more : {Q : Name → Type 0} {a b : V} → ((n : Name) → P n → Q n) → SparesIn disk Q a b → SparesIn disk P a b
  spares_more more x = record { silent = x.silent; tells = λ d e. let t = x.tells d e in (t.0, t.1, record { each = λ n p. t.2.each n (more n p) }) }

module _ {V : Type 0} {disk : V → Option Disk} {count : V → ℕ} {left : V → ℕ → Files → Type 0} {P : Name → Type 0} {a b : V} where
  pub spares_read : OnlyReads disk count left a b → SparesIn disk P a b
  spares_read c = record { silent = c.silent; tells = λ d e. let t = c.tells d e in (t.0, t.1, record { each = λ n p. inl (ap (λ (x : Disk). x n) t.2) }) }

  pub spares_sync : {X : Type 0} (r : Result X VaultFault) → Calls disk count left (Syncs r) a b → SparesIn disk P a b
  spares_sync r c = record { silent = c.silent; tells = λ d e. let t = c.tells d e in (t.0, t.1, record { each = λ n p. by r d t.0 t.2 n }) }
    where
      by : {X : Type 0} (r : Result X VaultFault) (d d' : Disk) → Syncs r d d' → (n : Name) → (d' n ≡ d n) ⊎ (d' n ≡ slot (d n).now Settled)
      by (Ok x) d d' h n = inr (ap (λ (x : Disk). x n) h)
      by (Err e) d d' h n = inl (ap (λ (x : Disk). x n) h)

  pub spares_write : {X : Type 0} (way bytes : Name) (r : Result X VaultFault) → ((n : Name) → P n → n ≢ way) → Calls disk count left (Writes way bytes r) a b → SparesIn disk P a b
  spares_write way bytes r apart c = record { silent = c.silent; tells = λ d e. let t = c.tells d e in (t.0, t.1, record { each = λ n p. inl (by r d t.0 t.2 n (apart n p)) }) }
    where
      by : {X : Type 0} (r : Result X VaultFault) (d d' : Disk) → Writes way bytes r d d' → (n : Name) → n ≢ way → d' n ≡ d n
      by (Ok x) d d' h n ne = ap (λ (x : Disk). x n) h ∙ elsewhere d way (slot (Some bytes) Torn) n ne
      by (Err Failed) d d' h n ne = ap (λ (x : Disk). x n) h.1 ∙ elsewhere d way (slot h.0 Torn) n ne
      by (Err NoMemory) d d' h n ne = ap (λ (x : Disk). x n) h

  pub spares_rename : (from to : Name) (r : Result Bool VaultFault) → ((n : Name) → P n → n ≢ from) → ((n : Name) → P n → n ≢ to) → Calls disk count left (Renames from to r) a b → SparesIn disk P a b
  spares_rename from to r not_from not_to c = record { silent = c.silent; tells = λ d e. let t = c.tells d e in (t.0, t.1, record { each = λ n p. inl (by r d t.0 t.2 n (not_from n p) (not_to n p)) }) }
    where
      unmade : (d : Disk) (s t : Slot) (n : Name) → n ≢ from → n ≢ to → with_slot (with_slot d from s) to t n ≡ d n
      unmade d s t n f g = elsewhere (with_slot d from s) to t n g ∙ elsewhere d from s n f

      by : (r : Result Bool VaultFault) (d d' : Disk) → Renames from to r d d' → (n : Name) → n ≢ from → n ≢ to → d' n ≡ d n
      by (Ok true) d d' h n f g = ap (λ (x : Disk). x n) h.1 ∙ renamed_elsewhere d from to n f g
      by (Ok false) d d' h n f g = ap (λ (x : Disk). x n) h.1
      by (Err Failed) d d' (Absent absent same) n f g = ap (λ (x : Disk). x n) same
      by (Err Failed) d d' (Made there is) n f g = ap (λ (x : Disk). x n) is ∙ renamed_elsewhere d from to n f g
      by (Err Failed) d d' (Unmade there is) n f g = ap (λ (x : Disk). x n) is ∙ unmade d (slot (d from).now (moved (both_settled d from to) (d from).now)) (slot (d to).now (moved (both_settled d from to) (d to).now)) n f g
      by (Err NoMemory) d d' h n f g = ap (λ (x : Disk). x n) h
