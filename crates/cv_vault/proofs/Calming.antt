-- A disk on which all is settled: behind a sync, behind reads, and where a sync has nothing to settle.
use Rattle.std.proofs.Common.{◌≡◌, ℕ, refl, sym, ◌∙◌, inl, arith}
use Rattle.std.proofs.lemmas.Option.{same_Some}
use Rattle.std.specs.declared.option.Option.{Option}
use Rattle.std.specs.declared.option.Option.TheVariants.{None, Some}
use Rattle.cv_base.specs.Told.{WhereTold}
use Rattle.cv_vault.specs.Disk.{Disk, Files, IsCalm, Syncs, slot, synced}
use Rattle.cv_vault.specs.Moments.{Calls, OnlyReads}
use Rattle.cv_vault.proofs.Quiet.{quiet_same}
use Rattle.cv_vault.proofs.Replacing.{ok, calm_then}

calm_same : (d : Disk) → IsCalm d → d ≡ synced d
calm_same d calm i n = slot (d n).now (calm n i)

module _ {V : Type 0} {disk : V → Option Disk} {count : V → ℕ} {left : V → ℕ → Files → Type 0} {v v' : V} where
  pub calm_sync : Calls disk count left (Syncs ok) v v' → WhereTold (disk v') IsCalm
  calm_sync c d' told = by (disk v) refl
    where
      by : (o : Option Disk) → disk v ≡ o → IsCalm d'
      by None e = absurd (let s : None ≡ Some d' = sym (c.silent e) ∙ told in cc)
      by (Some d) e = let t = c.tells d e in calm_then d d' (same_Some _ _ (sym told ∙ t.1) ∙ t.2)

  pub calm_reads : OnlyReads disk count left v v' → WhereTold (disk v) IsCalm → WhereTold (disk v') IsCalm
  calm_reads c calm d' told = calm d' (sym (quiet_same c) ∙ told)

-- a sync that isn't made, where it has nothing to settle
pub calm_call : {V : Type 0} {disk : V → Option Disk} {count : V → ℕ} {left : V → ℕ → Files → Type 0} (v : V) → WhereTold (disk v) IsCalm → Calls disk count left (Syncs ok) v v
calm_call v calm = record {
  tells = λ d e. (d, e, calm_same d (calm d e));
  silent = λ e. e;
  later = omega arith;
  kept = λ m f le l. l;
  nothing_else = λ m f le l. inl l;
}
