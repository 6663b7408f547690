-- The calls of a vault in memory, by what it holds.
use Rattle.std.proofs.Common.{◌≡◌, ◌≢◌, ℕ, ◌+◌, ◌<◌, ◌≤◌, Bool, true, false, cond, ◌⊎◌, inl, inr, List, [], ◌∷◌, ◌++◌, min, nat_lt, refl, ap, sym, subst, ◌∙◌, arith, length}
use Rattle.std.specs.Prelude.{IsSome, IfOk, IsErrAnd, Vec}
use Rattle.std.specs.Bool.{OnTrue, OnFalse}
use Rattle.std.specs.declared.option.Option.{Option}
use Rattle.std.specs.declared.option.Option.TheVariants.{Some, None}
use Rattle.std.specs.declared.result.Result.{Result}
use Rattle.std.specs.declared.result.Result.TheVariants.{Ok, Err}
use Rattle.cv_base.specs.Counts.{last_count, raised}
use Rattle.cv_base.proofs.Laws.{not_there}
use Rattle.std.proofs.lemmas.List.Sums.{sum_by-cons}
use Rattle.cv_vault.specs.Names.{Name, same_name}
use Rattle.cv_vault.specs.Disk.{Disk, File, Reads, Lists, Writes, Renames, Removes, Syncs, Absent, Made, Unmade, synced}
use Rattle.cv_vault.specs.Events.{NamedSlot, Event, Differs, Same, file_count, after, any_unsettled, write_of, rename_of, removal_of, Settles}
use Rattle.cv_vault.specs.EventsInner.{disk_of, has_file, first_disk}
use Rattle.cv_vault.specs.Failures.{times_next}
use Rattle.cv_vault.specs.FailuresInner.{fate_of, fate_fails, fate_makes}
use Rattle.cv_vault.specs.TableInner as table_inner
use Rattle.cv_vault.specs.Table.{entries_of, past_of}
use Rattle.cv_vault.specs.TableInner.{IsTable, Stays, Adds, table_disk}
use Rattle.cv_vault.specs.Memory.{Memory, memory_disk, times, MemoryCalls, Kept, Changed, Makes, Counted, Numbered}
use Rattle.cv_vault.specs.MemoryVault.{memory_of, IsMemory}
use Rattle.cv_vault.specs.declared.memory_vault.MemoryVault.TheInside.{Inside}
use Rattle.cv_vault.specs.declared.fate.Fate.{Fate}
use Rattle.cv_vault.specs.declared.fate.Fate.TheVariants.{Works, FailsUnmade, FailsMade}
use Rattle.cv_vault.specs.declared.schedule.Schedule.{Schedule}
use Rattle.cv_vault.specs.declared.vault.VaultFault.{VaultFault}
use Rattle.cv_vault.specs.declared.vault.VaultFault.TheVariants.{Failed, NoMemory}
use Rattle.cv_vault.proofs.Remembering.{memory_disk-kept, calls_kept, calls_changed, calls_makes, counted_kept, counted_changed, counted_makes, numbered_by, makes_if_twice}
use Rattle.cv_vault.proofs.Settling.{unsettled_differs}

pub disk_is : (v : Inside) → IsTable v.table → memory_disk (memory_of v) ≡ table_disk v.table
disk_is v is = sym is.linked

pub kept_same : (v v' : Inside) → v'.table ≡ v.table → Kept (memory_of v) (memory_of v')
kept_same v v' e = record { first = rw e refl; past = rw e refl }

pub changed_adds : (e : Event) (v v' : Inside) → Adds e v.table v'.table → Changed e (memory_of v) (memory_of v')
changed_adds e v v' a = record { first = a.first; past = a.past }

-- what the schedule says of a call
pub record Next (s s' : Schedule) (ends : Fate) : Type 0 where
  pub fate : ends ≡ fate_of (times_next s.failing.items s.calls)
  pub failing : s'.failing ≡ s.failing
  pub calls : s'.calls ≡ raised s.calls
  pub faults : s'.faults ≡ cond (fate_fails ends) (min (s.faults + 1) last_count) s.faults

pub numbered_next : {X : Type 0} (v v' : Inside) (fate : Fate) (r : Result X VaultFault) → Next v.schedule v'.schedule fate
    → (r ≡ Err Failed → fate_fails fate ≡ true) → ((x : X) → r ≡ Ok x → fate_fails fate ≡ false) → Numbered (memory_of v) (memory_of v') r
numbered_next v v' fate r n failed worked = numbered_by (memory_of v) (memory_of v') fate r (ap (λ x. x.items) n.failing) n.calls n.fate n.faults failed worked

-- the answer of a fate, that it has the next number
pub numbered_answer : {X : Type 0} (v v' : Inside) (fate : Fate) (x : X) (r : Result X VaultFault) → Next v.schedule v'.schedule fate → r ≡ cond (fate_fails fate) (Err Failed) (Ok x) → Numbered (memory_of v) (memory_of v') r
numbered_answer {X} v v' fate x r n is = numbered_next v v' fate r n (λ e. fails (fate_fails fate) (sym is ∙ e)) (λ y e. works (fate_fails fate) y (sym is ∙ e))
  where
    fails : (b : Bool) → cond b (Err Failed) (Ok x) ≡ Err Failed → b ≡ true
    fails true e = refl
    fails false e = cc

    works : (b : Bool) (y : X) → cond b (Err Failed) (Ok x) ≡ Ok y → b ≡ false
    works true y e = cc
    works false y e = refl

-- Reading.

pub calls_read : (v v' : Inside) (n : Name) (file : File) (r : Result (Option (List ℕ)) VaultFault) → IsTable v.table → Kept (memory_of v) (memory_of v') → file ≡ (table_disk v.table n).now
    → IfOk r (λ copy. copy ≡ file) → MemoryCalls (Reads n r) (memory_of v) (memory_of v')
calls_read v v' n file (Ok copy) is k found e = calls_kept (Reads n (Ok copy)) (memory_of v) (memory_of v') k (refl, e ∙ found ∙ ap (λ (d : Disk). (d n).now) (sym (disk_is v is)))
calls_read v v' n file (Err x) is k found e = calls_kept (Reads n (Err x)) (memory_of v) (memory_of v') k refl

-- Changing.

pub kept_entries : (v v' : Inside) → entries_of v'.table ≡ entries_of v.table → past_of v'.table ≡ past_of v.table → Kept (memory_of v) (memory_of v')
kept_entries v v' e p = record { first = ap first_disk e; past = p }

kept_disk : (v v1 : Inside) → IsTable v1.table → Kept (memory_of v) (memory_of v1) → table_disk v1.table ≡ memory_disk (memory_of v)
kept_disk v v1 is k = sym (disk_is v1 is) ∙ memory_disk-kept (memory_of v) (memory_of v1) k

-- a change of a vault whose table took room before
pub changed_then : (e : Disk → Event) (v v1 v' : Inside) → IsTable v1.table → Kept (memory_of v) (memory_of v1) → Adds (e (table_disk v1.table)) v1.table v'.table → Changed (e (memory_disk (memory_of v))) (memory_of v) (memory_of v')
changed_then e v v1 v' is k a =
    subst (λ d. Changed (e d) (memory_of v) (memory_of v')) (kept_disk v v1 is k) (record { first = a.first ∙ k.first; past = a.past ∙ ap (λ es. es ++ e (table_disk v1.table) ∷ []) k.past })

pub kept_then : (v v1 v' : Inside) → Kept (memory_of v) (memory_of v1) → Stays v1.table v'.table → Kept (memory_of v) (memory_of v')
kept_then v v1 v' k s = record { first = s.first ∙ k.first; past = s.past ∙ k.past }

pub makes_then : (e : Disk → Event) (v v1 v' : Inside) → IsTable v1.table → Kept (memory_of v) (memory_of v1) → table_inner.Makes (e (table_disk v1.table)) v1.table v'.table → Makes (e (memory_disk (memory_of v))) (memory_of v) (memory_of v')
makes_then e v v1 v' is k (Differs n h a) = Differs n (subst (λ (d : Disk). after (e d) d n ≢ d n) (kept_disk v v1 is k) h) (changed_then e v v1 v' is k a)
makes_then e v v1 v' is k (Same h s) = Same (subst (λ (d : Disk). after (e d) d ≡ d) (kept_disk v v1 is k) h) (kept_then v v1 v' k s)

pub writes_fate : (n bytes : Name) (d : Disk) (fate : Fate) → Writes n bytes {X = Unit {0}} (cond (fate_fails fate) (Err Failed) (Ok tt)) d (after (write_of d n bytes (fate_makes fate)) d)
writes_fate n bytes d Works = refl
writes_fate n bytes d FailsUnmade = ((d n).now, refl)
writes_fate n bytes d FailsMade = (Some bytes, refl)

pub renames_fate : (from to : Name) (d : Disk) (fate : Fate) → IsSome (d from).now → Renames from to (cond (fate_fails fate) (Err Failed) (Ok true)) d (after (rename_of d from to (fate_makes fate)) d)
renames_fate from to d Works h = (h, refl)
renames_fate from to d FailsUnmade h = Unmade h refl
renames_fate from to d FailsMade h = Made h refl

pub renames_none : (from to : Name) (d : Disk) (fate : Fate) → (d from).now ≡ None → Renames from to (cond (fate_fails fate) (Err Failed) (Ok false)) d d
renames_none from to d Works h = (h, refl)
renames_none from to d FailsUnmade h = Absent h refl
renames_none from to d FailsMade h = Absent h refl

pub removes_fate : (n : Name) (d : Disk) (fate : Fate) → IsSome (d n).now → Removes n (cond (fate_fails fate) (Err Failed) (Ok true)) d (after (removal_of d n (fate_makes fate)) d)
removes_fate n d Works h = (h, refl)
removes_fate n d FailsUnmade h = Unmade h refl
removes_fate n d FailsMade h = Made h refl

pub removes_none : (n : Name) (d : Disk) (fate : Fate) → (d n).now ≡ None → Removes n (cond (fate_fails fate) (Err Failed) (Ok false)) d d
removes_none n d Works h = (h, refl)
removes_none n d FailsUnmade h = Absent h refl
removes_none n d FailsMade h = Absent h refl

-- a call that failed makes its change where its number stands twice or more
pub makes_failed : {X : Type 0} (v : Inside) (s' : Schedule) (fate : Fate) (r : Result X VaultFault) (x : X) → Next v.schedule s' fate → r ≡ cond (fate_fails fate) (Err Failed) (Ok x) → r ≡ Err Failed → fate_makes fate ≡ nat_lt 1 (times (memory_of v))
makes_failed {X} v s' fate r x n is failed = makes_if_twice (times (memory_of v)) fate n.fate (fails (fate_fails fate) (sym is ∙ failed))
  where
    fails : (b : Bool) → cond b (Err Failed) (Ok x) ≡ Err Failed → b ≡ true
    fails true e = refl
    fails false e = cc

-- an answer that isn't want of memory
pub answered : {X : Type 0} (b : Bool) (x : X) (r : Result X VaultFault) → r ≡ cond b (Err Failed) (Ok x) → r ≢ Err NoMemory
answered true x r e h = cc
answered false x r e h = cc

-- the parts of what a table says of a name that is there or not
pub there_parts : {A B : Type 0} (there : Bool) → OnTrue there A → OnFalse there B → ((there ≡ true) × A) ⊎ ((there ≡ false) × B)
there_parts true a b = inl (refl, a)
there_parts false a b = inr (refl, b)

-- what is recorded of a rename, a removal, a write and a sync

pub rename_counted : (v v1 v' : Inside) (from to : Name) (made there : Bool) → IsTable v1.table → Kept (memory_of v) (memory_of v1)
    → OnTrue there (IsSome (table_disk v1.table from).now × table_inner.Makes (rename_of (table_disk v1.table) from to made) v1.table v'.table)
    → OnFalse there (((table_disk v1.table from).now ≡ None) × Stays v1.table v'.table) → Counted (memory_of v) (memory_of v')
rename_counted v v1 v' from to made there is k a b = elim (there_parts there a b) [
  | inl h ↦ counted_makes _ (memory_of v) (memory_of v') (makes_then (λ d. rename_of d from to made) v v1 v' is k h.1.1)
  | inr h ↦ counted_kept (memory_of v) (memory_of v') (kept_then v v1 v' k h.1.1)
]

pub removal_counted : (v v' : Inside) (n : Name) (made there : Bool) → IsTable v.table → OnTrue there (IsSome (table_disk v.table n).now × table_inner.Makes (removal_of (table_disk v.table) n made) v.table v'.table)
    → OnFalse there (((table_disk v.table n).now ≡ None) × (v'.table ≡ v.table)) → Counted (memory_of v) (memory_of v')
removal_counted v v' n made there is a b = elim (there_parts there a b) [
  | inl h ↦ counted_makes _ (memory_of v) (memory_of v') (makes_then (λ d. removal_of d n made) v v v' is (kept_same v v refl) h.1.1)
  | inr h ↦ counted_kept (memory_of v) (memory_of v') (kept_same v v' h.1.1)
]

pub write_counted : (v v1 v' : Inside) (n bytes : Name) (made : Bool) → IsTable v1.table → Kept (memory_of v) (memory_of v1) → table_inner.Makes (write_of (table_disk v1.table) n bytes made) v1.table v'.table → Counted (memory_of v) (memory_of v')
write_counted v v1 v' n bytes made is k a = counted_makes _ (memory_of v) (memory_of v') (makes_then (λ d. write_of d n bytes made) v v1 v' is k a)

pub sync_counted : (v v' : Inside) → IsTable v.table → OnTrue (any_unsettled (entries_of v.table)) (Adds Settles v.table v'.table) → OnFalse (any_unsettled (entries_of v.table)) (v'.table ≡ v.table) → Counted (memory_of v) (memory_of v')
sync_counted v v' is a b = elim (there_parts (any_unsettled (entries_of v.table)) a b) [
  | inl h ↦ let u = unsettled_differs v.table is h.0 in counted_changed Settles (memory_of v) (memory_of v') u.0 (changed_adds Settles v v' h.1) (subst (λ (d : Disk). synced d u.0 ≢ d u.0) (sym (disk_is v is)) u.1)
  | inr h ↦ counted_kept (memory_of v) (memory_of v') (kept_same v v' h.1)
]

module _ (v v1 v' : Inside) (from to : Name) (fate : Fate) (there : Bool) (r : Result Bool VaultFault) (is : IsTable v1.table) (k : Kept (memory_of v) (memory_of v1)) (answer : r ≡ cond (fate_fails fate) (Err Failed) (Ok there)) where
  pub rename_calls : OnTrue there (IsSome (table_disk v1.table from).now × table_inner.Makes (rename_of (table_disk v1.table) from to (fate_makes fate)) v1.table v'.table)
      → OnFalse there (((table_disk v1.table from).now ≡ None) × Stays v1.table v'.table) → MemoryCalls (Renames from to r) (memory_of v) (memory_of v')
  rename_calls a b = elim (there_parts there a b) [
    | inl h ↦ calls_makes (Renames from to r) (rename_of (memory_disk (memory_of v)) from to (fate_makes fate)) (memory_of v) (memory_of v')
        (makes_then (λ d. rename_of d from to (fate_makes fate)) v v1 v' is k h.1.1)
        (rw (answer, h.0) (renames_fate from to (memory_disk (memory_of v)) fate (subst (λ (d : Disk). IsSome (d from).now) (kept_disk v v1 is k) h.1.0)))
    | inr h ↦ calls_kept (Renames from to r) (memory_of v) (memory_of v') (kept_then v v1 v' k h.1.1)
        (rw (answer, h.0) (renames_none from to (memory_disk (memory_of v)) fate (ap (λ (d : Disk). (d from).now) (sym (kept_disk v v1 is k)) ∙ h.1.0)))
  ]

module _ (v v' : Inside) (n : Name) (fate : Fate) (there : Bool) (r : Result Bool VaultFault) (is : IsTable v.table) (answer : r ≡ cond (fate_fails fate) (Err Failed) (Ok there)) where
  pub remove_calls : OnTrue there (IsSome (table_disk v.table n).now × table_inner.Makes (removal_of (table_disk v.table) n (fate_makes fate)) v.table v'.table)
      → OnFalse there (((table_disk v.table n).now ≡ None) × (v'.table ≡ v.table)) → MemoryCalls (Removes n r) (memory_of v) (memory_of v')
  remove_calls a b = elim (there_parts there a b) [
    | inl h ↦ calls_makes (Removes n r) (removal_of (memory_disk (memory_of v)) n (fate_makes fate)) (memory_of v) (memory_of v')
        (makes_then (λ d. removal_of d n (fate_makes fate)) v v v' is (kept_same v v refl) h.1.1)
        (rw (answer, h.0) (removes_fate n (memory_disk (memory_of v)) fate (subst (λ (d : Disk). IsSome (d n).now) (sym (disk_is v is)) h.1.0)))
    | inr h ↦ calls_kept (Removes n r) (memory_of v) (memory_of v') (kept_same v v' h.1.1)
        (rw (answer, h.0) (removes_none n (memory_disk (memory_of v)) fate (ap (λ (d : Disk). (d n).now) (disk_is v is) ∙ h.1.0)))
  ]

  pub remove_failed : OnTrue there (IsSome (table_disk v.table n).now × table_inner.Makes (removal_of (table_disk v.table) n (fate_makes fate)) v.table v'.table)
      → OnFalse there (((table_disk v.table n).now ≡ None) × (v'.table ≡ v.table)) → Next v.schedule v'.schedule fate → r ≡ Err Failed → IsSome (memory_disk (memory_of v) n).now
      → Makes (removal_of (memory_disk (memory_of v)) n (nat_lt 1 (times (memory_of v)))) (memory_of v) (memory_of v')
  remove_failed a b next failed some = elim (there_parts there a b) [
    | inl h ↦ subst (λ made. Makes (removal_of (memory_disk (memory_of v)) n made) (memory_of v) (memory_of v')) (makes_failed v v'.schedule fate r there next answer failed)
        (makes_then (λ d. removal_of d n (fate_makes fate)) v v v' is (kept_same v v refl) h.1.1)
    | inr h ↦ absurd (not_there _ (ap (λ (d : Disk). (d n).now) (disk_is v is) ∙ h.1.0) some)
  ]

module _ (v v1 v' : Inside) (from to : Name) (fate : Fate) (there : Bool) (r : Result Bool VaultFault) (is : IsTable v1.table) (k : Kept (memory_of v) (memory_of v1)) (answer : r ≡ cond (fate_fails fate) (Err Failed) (Ok there)) where
  pub rename_failed : OnTrue there (IsSome (table_disk v1.table from).now × table_inner.Makes (rename_of (table_disk v1.table) from to (fate_makes fate)) v1.table v'.table)
      → OnFalse there (((table_disk v1.table from).now ≡ None) × Stays v1.table v'.table) → Next v.schedule v'.schedule fate → r ≡ Err Failed → IsSome (memory_disk (memory_of v) from).now
      → Makes (rename_of (memory_disk (memory_of v)) from to (nat_lt 1 (times (memory_of v)))) (memory_of v) (memory_of v')
  rename_failed a b next failed some = elim (there_parts there a b) [
    | inl h ↦ subst (λ made. Makes (rename_of (memory_disk (memory_of v)) from to made) (memory_of v) (memory_of v')) (makes_failed v v'.schedule fate r there next answer failed)
        (makes_then (λ d. rename_of d from to (fate_makes fate)) v v1 v' is k h.1.1)
    | inr h ↦ absurd (not_there _ (ap (λ (d : Disk). (d from).now) (sym (kept_disk v v1 is k)) ∙ h.1.0) some)
  ]

pub write_calls : (v v1 v' : Inside) (n bytes : Name) (fate : Fate) (r : Result (Unit {0}) VaultFault) → IsTable v1.table → Kept (memory_of v) (memory_of v1) → r ≡ cond (fate_fails fate) (Err Failed) (Ok tt)
    → table_inner.Makes (write_of (table_disk v1.table) n bytes (fate_makes fate)) v1.table v'.table → MemoryCalls (Writes n bytes r) (memory_of v) (memory_of v')
write_calls v v1 v' n bytes fate r is k answer a = calls_makes (Writes n bytes r) (write_of (memory_disk (memory_of v)) n bytes (fate_makes fate)) (memory_of v) (memory_of v')
    (makes_then (λ d. write_of d n bytes (fate_makes fate)) v v1 v' is k a) (rw answer (writes_fate n bytes (memory_disk (memory_of v)) fate))

pub write_failed : (v v1 v' : Inside) (n bytes : Name) (fate : Fate) (r : Result (Unit {0}) VaultFault) → IsTable v1.table → Kept (memory_of v) (memory_of v1) → r ≡ cond (fate_fails fate) (Err Failed) (Ok tt)
    → table_inner.Makes (write_of (table_disk v1.table) n bytes (fate_makes fate)) v1.table v'.table → Next v.schedule v'.schedule fate → r ≡ Err Failed
    → Makes (write_of (memory_disk (memory_of v)) n bytes (nat_lt 1 (times (memory_of v)))) (memory_of v) (memory_of v')
write_failed v v1 v' n bytes fate r is k answer a next failed =
    subst (λ made. Makes (write_of (memory_disk (memory_of v)) n bytes made) (memory_of v) (memory_of v')) (makes_failed v v'.schedule fate r tt next answer failed)
    (makes_then (λ d. write_of d n bytes (fate_makes fate)) v v1 v' is k a)

pub sync_calls : (v v' : Inside) → IsTable v.table → OnTrue (any_unsettled (entries_of v.table)) (Adds Settles v.table v'.table)
    → OnFalse (any_unsettled (entries_of v.table)) (v'.table ≡ v.table) → table_disk v'.table ≡ synced (table_disk v.table) → MemoryCalls (Syncs {X = Unit {0}} (Ok tt)) (memory_of v) (memory_of v')
sync_calls v v' is a b d = elim (there_parts (any_unsettled (entries_of v.table)) a b) [
  | inl h ↦ calls_changed (Syncs {X = Unit {0}} (Ok tt)) Settles (memory_of v) (memory_of v') (changed_adds Settles v v' h.1) refl
  | inr h ↦ calls_kept (Syncs {X = Unit {0}} (Ok tt)) (memory_of v) (memory_of v') (kept_same v v' h.1) (disk_is v is ∙ ap table_disk (sym h.1) ∙ d ∙ ap synced (sym (disk_is v is)))
]

-- Answers.

pub numbered_failed : {X : Type 0} (v v' : Inside) (fate : Fate) → Next v.schedule v'.schedule fate → true ≡ fate_fails fate → Numbered {X = X} (memory_of v) (memory_of v') (Err Failed)
numbered_failed v v' fate n fails = numbered_next v v' fate (Err Failed) n (λ _. sym fails) (λ x e. cc)

not_failed : {X : Type 0} (r : Result X VaultFault) → r ≡ Err NoMemory → r ≡ Err Failed → ⊥
not_failed r a b = cc

not_answered : {X : Type 0} (r : Result X VaultFault) (x : X) → r ≡ Err NoMemory → r ≡ Ok x → ⊥
not_answered r x a b = cc

pub numbered_none : {X : Type 0} (v v' : Inside) (fate : Fate) (r : Result X VaultFault) → Next v.schedule v'.schedule fate → r ≡ Err NoMemory → Numbered (memory_of v) (memory_of v') r
numbered_none v v' fate r n is = numbered_next v v' fate r n (λ e. absurd (not_failed r is e)) (λ x e. absurd (not_answered r x is e))

-- want of memory, as it is handed on
pub no_memory : {X : Type 0} (r : Result X VaultFault) → IsErrAnd r (λ e. e ≡ NoMemory) → r ≡ Err NoMemory
no_memory (Ok x) h = absurd h
no_memory (Err e) h = ap Err h

pub calls_listed : (v v' : Inside) (prefix : Name) {Z : Type 0} (r : Result (Vec Name Z) VaultFault) → r ≡ Err NoMemory → Kept (memory_of v) (memory_of v') → MemoryCalls (Lists prefix r) (memory_of v) (memory_of v')
calls_listed v v' prefix r is k = calls_kept (Lists prefix r) (memory_of v) (memory_of v') k (rw is refl)

-- what is said of a call that found no memory: it has its number, and nothing else changed
pub record Wants {X : Type 0} (R : Result X VaultFault → Disk → Disk → Type 0) (v v' : Memory) (r : Result X VaultFault) : Type 0 where
  pub call : MemoryCalls (R r) v v'
  pub numbered : Numbered v v' r
  pub counted : Counted v v'

pub wants : {X : Type 0} (R : Result X VaultFault → Disk → Disk → Type 0) (v v' : Inside) (fate : Fate) (r : Result X VaultFault) → Next v.schedule v'.schedule fate
    → Kept (memory_of v) (memory_of v') → IsErrAnd r (λ e. e ≡ NoMemory) → ((d : Disk) → R (Err NoMemory) d d) → Wants R (memory_of v) (memory_of v') r
wants R v v' fate r next kept none same =
    let is = no_memory r none in
    record {
      call = calls_kept (R r) (memory_of v) (memory_of v') kept (rw is (same (memory_disk (memory_of v))));
      numbered = numbered_none v v' fate r next is;
      counted = counted_kept (memory_of v) (memory_of v') kept;
    }

-- Room.

file_there : (es : List NamedSlot) (n : Name) → IsSome (disk_of es n).now → 1 ≤ file_count es
file_there [] n h = absurd (not_there {A = List ℕ} None refl h)
file_there (e ∷ es) n h = by (same_name n e.name) h (file_there es n)
  where
    counted : file_count (e ∷ es) ≡ has_file e.stands + file_count es
    counted = sum_by-cons (λ (x : NamedSlot). has_file x.stands) e es

    by : (b : Bool) → IsSome (cond b e.stands (disk_of es n)).now → (IsSome (disk_of es n).now → 1 ≤ file_count es) → 1 ≤ file_count (e ∷ es)
    by true h rest = let one : has_file e.stands ≡ 1 = rw h refl in omega (arith, counted)
    by false h rest = omega (arith, counted, rest h)

pub removal_room : (v : Inside) (n : Name) → IsMemory v → IsSome (table_disk v.table n).now → length v.table.changes < v.table.room
removal_room v n is h =
    let one = file_there (entries_of v.table) n h in
    let room = is.room in
    let enough = is.enough in
    omega arith
