-- What each call of a vault changes, outside the names that are left out of account.
use Rattle.std.proofs.Common.{◌≡◌, ◌≢◌, ◌⊎◌, ℕ, Bool, true, false, List, refl, sym, ap, subst, ◌∙◌, inl, inr}
use Rattle.std.specs.declared.option.Option.{Option}
use Rattle.std.specs.declared.option.Option.TheVariants.{None}
use Rattle.std.specs.declared.result.Result.{Result}
use Rattle.std.specs.declared.result.Result.TheVariants.{Ok, Err}
use Rattle.cv_vault.specs.Names.{Name}
use Rattle.cv_vault.specs.Disk.{Disk, Slot, File, Files, Image, IsCalm, Mark, Settled, Torn, Moved, LeftAt, May, Absent, Made, Unmade, Reads, Writes, Renames, Syncs, slot, with_slot, moved, both_settled, renamed, unrenamed}
use Rattle.cv_vault.specs.Walks.{Change, Stays, Comes, Gains}
use Rattle.cv_vault.specs.declared.vault.VaultFault.{VaultFault}
use Rattle.cv_vault.specs.declared.vault.VaultFault.TheVariants.{Failed, NoMemory}
use Rattle.cv_vault.proofs.Names.{here, elsewhere, same_or_not}
use Rattle.cv_vault.proofs.Walking.{gains_none}

-- a name that is left out of account is none that isn't
pub apart : (away : Name → Bool) (a b : Name) → away a ≡ true → away b ≡ false → a ≢ b
apart away a b x y e = let z : away a ≡ away b = ap away e in cc

-- a crash may leave what is there now
pub now_may : (s : Slot) → May s s.now
now_may s = by s.mark
  where
    by : (m : Mark) → LeftAt s.now m s.now
    by Settled = refl
    by Torn = tt
    by (Moved before) = inr refl

-- a settled name is left as it is
pub settled_may : (now : File) (m : Mark) (f : File) → m ≡ Settled → f ≡ now → LeftAt now m f
settled_may now m f e h = subst (λ (m : Mark). LeftAt now m f) (sym e) h

-- what a crash may leave at a settled name is there now
pub may_settled : (d : Disk) (n : Name) (f : File) → (d n).mark ≡ Settled → May (d n) f → f ≡ (d n).now
may_settled d n f e m = subst (λ (k : Mark). LeftAt (d n).now k f) e m

pub same_slot : {B : File → Type 0} (s s' : Slot) → s' ≡ s → Change B s s'
same_slot {B} s s' e = subst (Change B s) (sym e) (Stays refl (λ f m. m))

-- another slot at a name that is left out of account
gains_away : {away : Name → Bool} {B : Name → File → Type 0} (d : Disk) (n : Name) (s : Slot) → away n ≡ true → Gains away B d (with_slot d n s)
gains_away {away} d n s w = record { each = λ q x. same_slot (d q) (with_slot d n s q) (elsewhere d n s q (λ e. apart away n q w x (sym e))) }

pub reads : {away : Name → Bool} {B : Name → File → Type 0} (n : Name) (r : Result (Option (List ℕ)) VaultFault) (d d' : Disk) → Reads n r d d' → Gains away B d d'
reads n (Ok x) d d' h = gains_none h.0
reads n (Err e) d d' h = gains_none h

-- a write to a name that is left out of account
pub writes : {away : Name → Bool} {B : Name → File → Type 0} {X : Type 0} (n bytes : Name) (r : Result X VaultFault) (d d' : Disk) → away n ≡ true → Writes n bytes r d d' → Gains away B d d'
writes {away} {B} n bytes (Ok x) d d' w h = subst (Gains away B d) (sym h) (gains_away d n _ w)
writes {away} {B} n bytes (Err Failed) d d' w h = subst (Gains away B d) (sym h.1) (gains_away d n _ w)
writes {away} {B} n bytes (Err NoMemory) d d' w h = gains_none h

pub syncs : {away : Name → Bool} {B : Name → File → Type 0} {X : Type 0} (r : Result X VaultFault) (d d' : Disk) → Syncs r d d' → Gains away B d d'
syncs {away} {B} (Ok x) d d' h = subst (Gains away B d) (sym h) (record { each = λ n w. Stays refl (λ f (m : f ≡ (d n).now). subst (May (d n)) (sym m) (now_may (d n))) })
syncs {away} {B} (Err e) d d' h = gains_none h

-- a settled name that was moved to another file, or would have been
arrives : {B : File → Type 0} (old : Slot) (file : File) (s : Slot) → old.mark ≡ Settled → B file → s ≡ slot file (Moved old.now) → Change B old s
arrives {B} old file s settled comes e = subst (Change B old) (sym e) (Comes comes (λ f (m : (f ≡ old.now) ⊎ (f ≡ file)). elim m [
  | inl x ↦ inl (settled_may old.now old.mark f settled x)
  | inr x ↦ inr (subst B (sym x) comes)
]))

waits : {B : File → Type 0} (old s : Slot) → old.mark ≡ Settled → s ≡ slot old.now (Moved old.now) → Change B old s
waits {B} old s settled e = subst (Change B old) (sym e) (Stays refl (λ f (m : (f ≡ old.now) ⊎ (f ≡ old.now)). elim m [
  | inl x ↦ settled_may old.now old.mark f settled x
  | inr x ↦ settled_may old.now old.mark f settled x
]))

-- a rename from a name that is left out of account, where both names are settled, of a file that may come to the other
module _ {away : Name → Bool} {B : Name → File → Type 0} (from to : Name) (d : Disk) (from_away : away from ≡ true) (to_not : away to ≡ false) (from_settled : (d from).mark ≡ Settled) (to_settled : (d to).mark ≡ Settled) (comes : B to (d from).now) where
  gains_two : (s t : Slot) → ((x : Slot) → x ≡ t → Change (B to) (d to) x) → Gains away B d (with_slot (with_slot d from s) to t)
  gains_two s t k = record {
    each = λ q w. elim (same_or_not q to) [
      | inl e ↦ subst (λ (q : Name). Change (B q) (d q) (with_slot (with_slot d from s) to t q)) (sym e) (k _ (here (with_slot d from s) to t))
      | inr ne ↦ same_slot (d q) _ (elsewhere (with_slot d from s) to t q ne ∙ elsewhere d from s q (λ e. apart away from q from_away w (sym e)))
    ];
  }

  gains_renamed : Gains away B d (renamed d from to)
  gains_renamed = gains_two _ _ (λ x e. arrives (d to) (d from).now x to_settled comes (e ∙ rw (from_settled, to_settled) refl))

  gains_unrenamed : Gains away B d (unrenamed d from to)
  gains_unrenamed = gains_two _ _ (λ x e. waits (d to) x to_settled (e ∙ rw (from_settled, to_settled) refl))

  pub renames : (r : Result Bool VaultFault) (d' : Disk) → Renames from to r d d' → Gains away B d d'
  renames (Ok true) d' h = subst (Gains away B d) (sym h.1) gains_renamed
  renames (Ok false) d' h = gains_none h.1
  renames (Err Failed) d' (Absent a e) = gains_none e
  renames (Err Failed) d' (Made a e) = subst (Gains away B d) (sym e) gains_renamed
  renames (Err Failed) d' (Unmade a e) = subst (Gains away B d) (sym e) gains_unrenamed
  renames (Err NoMemory) d' h = gains_none h

-- what stands at each name after a rename that was made
pub renamed_to : (d : Disk) (from to : Name) → renamed d from to to ≡ slot (d from).now (moved (both_settled d from to) (d to).now)
renamed_to d from to = here (with_slot d from (slot None (moved (both_settled d from to) (d from).now))) to (slot (d from).now (moved (both_settled d from to) (d to).now))

pub renamed_from : (d : Disk) (from to : Name) → from ≢ to → renamed d from to from ≡ slot None (moved (both_settled d from to) (d from).now)
renamed_from d from to ne =
    elsewhere (with_slot d from (slot None (moved (both_settled d from to) (d from).now))) to (slot (d from).now (moved (both_settled d from to) (d to).now)) from ne
    ∙ here d from (slot None (moved (both_settled d from to) (d from).now))

pub renamed_elsewhere : (d : Disk) (from to n : Name) → n ≢ from → n ≢ to → renamed d from to n ≡ d n
renamed_elsewhere d from to n not_from not_to =
    elsewhere (with_slot d from (slot None (moved (both_settled d from to) (d from).now))) to (slot (d from).now (moved (both_settled d from to) (d to).now)) n not_to
    ∙ elsewhere d from (slot None (moved (both_settled d from to) (d from).now)) n not_from

-- of a calm disk there is one image
pub calm_image : (d : Disk) → IsCalm d → (f : Files) → Image d f → (n : Name) → f n ≡ (d n).now
calm_image d calm f i n = may_settled d n (f n) (calm n) (i n)
