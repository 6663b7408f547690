-- What is said of the vault inside, said of the objects as they are seen; and whether all of it is settled.
use Rattle.std.proofs.Common.{◌≡◌, ℕ, Bool, true, false, List, sym, subst, ◌∙◌}
use Rattle.std.specs.Prelude.{OnOk, is_ok}
use Rattle.std.specs.declared.option.Option.{Option}
use Rattle.std.specs.declared.result.Result.{Result}
use Rattle.std.specs.declared.result.Result.TheVariants.{Ok, Err}
use Rattle.cv_base.specs.Told.{WhereTold}
use Rattle.cv_vault.specs.Names.{Name}
use Rattle.cv_vault.specs.Disk.{Disk, Files, IsCalm, Reads, Measures}
use Rattle.cv_vault.specs.Moments.{Calls}
use Rattle.cv_vault.specs.declared.vault.VaultFault.{VaultFault}
use Rattle.cv_vault.proofs.Laws.{calm_reads, quiet_call}
use Rattle.cv_objects.specs.Objects.{ObjectsView}

pub seen : {V : Type 0} {a b : ObjectsView V} → a ≡ b → (P : V → Type 0) → P a.vault → P b.vault
seen same P h = subst (λ o. P o.vault) same h

-- what holds after Ok holds where the answer is Ok
pub where_ok : {A E : Type 0} {P : Type 0} (r : Result A E) (b : Bool) → b ≡ is_ok r → OnOk r P → b ≡ true → P
where_ok (Ok x) b is h t = h
where_ok (Err e) b is h t = absurd (let n : true ≡ false = sym t ∙ is in cc)

module _ {V : Type 0} {disk : V → Option Disk} {count : V → ℕ} {left : V → ℕ → Files → Type 0} {v v' : V} (n : Name) where
  pub calm_read : (r : Result (Option (List ℕ)) VaultFault) → Calls disk count left (Reads n r) v v' → WhereTold (disk v) IsCalm → WhereTold (disk v') IsCalm
  calm_read (Ok x) c = calm_reads (quiet_call (λ d d' h. h.0) c)
  calm_read (Err e) c = calm_reads c

  pub calm_measured : (r : Result (Option ℕ) VaultFault) → Calls disk count left (Measures n r) v v' → WhereTold (disk v) IsCalm → WhereTold (disk v') IsCalm
  calm_measured (Ok x) c = calm_reads (quiet_call (λ d d' h. h.0) c)
  calm_measured (Err e) c = calm_reads c
