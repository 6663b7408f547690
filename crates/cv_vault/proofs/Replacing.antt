-- Files that come to their names, call by call.
use Rattle.std.proofs.Common.{◌≡◌, ◌≢◌, ℕ, Bool, true, false, List, refl, sym, ap, subst, ◌∙◌}
use Rattle.std.specs.Prelude.{IsSome}
use Rattle.std.specs.Str.{bytes_eq}
use Rattle.std.specs.declared.option.Option.{Option}
use Rattle.std.specs.declared.option.Option.TheVariants.{None, Some}
use Rattle.std.specs.declared.result.Result.{Result}
use Rattle.std.specs.declared.result.Result.TheVariants.{Ok, Err}
use Rattle.std.proofs.lemmas.Option.{same_Some}
use Rattle.std.proofs.lemmas.Slice.Eq.{bytes_eq-Decides}
use Rattle.cv_base.proofs.Laws.{not_there}
use Rattle.cv_vault.specs.Names.{Name, on_way}
use Rattle.cv_vault.specs.Disk.{Disk, Slot, File, Files, ImageOf, IsCalm, Mark, Settled, Torn, MayChange, Absent, Made, Unmade, Reads, Writes, Renames, Syncs, slot, written, synced, renamed, unrenamed}
use Rattle.cv_vault.specs.Moments.{Calls, OnlyReads}
use Rattle.cv_vault.specs.Walks.{Gains, Walks, Nothing, ComesTo}
use Rattle.cv_vault.specs.Replace.{IsSure, IsWaiting, IsBrought, PutOnWay, Came, MovedIn, Replaced, Found}
use Rattle.cv_vault.specs.declared.vault.VaultFault.{VaultFault}
use Rattle.cv_vault.specs.declared.vault.VaultFault.TheVariants.{Failed, NoMemory}
use Rattle.cv_vault.proofs.Names.{here}
use Rattle.cv_vault.proofs.Walking.{call, bind, looser}
use Rattle.cv_vault.proofs.Calling.{apart, writes, syncs, renames, renamed_to, renamed_from, renamed_elsewhere, reads}
use Rattle.cv_vault.proofs.Quiet.{quiet_call, quiet_told}

abbrev pub Outcome : Type 0
Outcome = Result (Unit {0}) VaultFault

abbrev pub ok : Outcome
ok = Ok tt

abbrev pub err : VaultFault → Outcome
err e = Err e

pub calm_then : (d d' : Disk) → d' ≡ synced d → IsCalm d'
calm_then d d' e = subst IsCalm (sym e) (λ n. refl)

pub sure_then : (name : Name) (bytes : List ℕ) (d d' : Disk) → d' ≡ synced d → (d name).now ≡ Some bytes → IsSure name bytes d'
sure_then name bytes d d' e h = record { calm = calm_then d d' e; there = ap (λ (y : Disk). (y name).now) e ∙ h }

module _ {V : Type 0} {disk : V → Option Disk} {count : V → ℕ} {left : V → ℕ → Files → Type 0} {away : Name → Bool} {d : Disk} {v v' : V} where
  -- a sync that succeeds: all is settled, and stands as it did
  pub sync_ok : {B : Name → File → Type 0} → ((f : Files) → left v (count v) f → ImageOf (disk v) f) → disk v ≡ Some d → Calls disk count left (Syncs ok) v v' → Walks disk count left away B (λ d'. d' ≡ synced d) d v v'
  sync_ok only e c = call only e c (λ d' r. (syncs ok d d' r, r))

  pub sync_err : {B : Name → File → Type 0} (x : VaultFault) → ((f : Files) → left v (count v) f → ImageOf (disk v) f) → disk v ≡ Some d → Calls disk count left (Syncs (err x)) v v' → Walks disk count left away B (λ d'. d' ≡ d) d v v'
  sync_err x only e c = call only e c (λ d' r. (syncs (err x) d d' r, r))

-- what is put in front of a sync that fails
put_fails : (d : Disk) (way : Name) (bytes : List ℕ) (x : VaultFault) (d' : Disk) → x ≢ NoMemory → PutOnWay d way bytes (err x) d'
put_fails d way bytes Failed d' n = tt
put_fails d way bytes NoMemory d' n = absurd (n refl)

put_unwritten : (d : Disk) (way : Name) (bytes : List ℕ) (x : VaultFault) (d' : Disk) → Writes way bytes (err x) d d' → PutOnWay d way bytes (err x) d'
put_unwritten d way bytes Failed d' h = tt
put_unwritten d way bytes NoMemory d' h = h

module _ {V : Type 0} {disk : V → Option Disk} {count : V → ℕ} {left : V → ℕ → Files → Type 0} {d : Disk} {v v1 : V} (way : Name) (bytes : List ℕ) (w : on_way way ≡ true) (only : (f : Files) → left v (count v) f → ImageOf (disk v) f) (e : disk v ≡ Some d) where
  pub put_not : (x : VaultFault) (r : Outcome) → r ≡ err x → Calls disk count left (Writes way bytes (err x)) v v1 → Walks disk count left on_way Nothing (PutOnWay d way bytes r) d v v1
  put_not x r is c = rw is (call only e c (λ d' h. (writes way bytes (err x) d d' w h, put_unwritten d way bytes x d' h)))

  write_ok : Calls disk count left (Writes way bytes ok) v v1 → Walks disk count left on_way Nothing (λ d1. d1 ≡ written d way (Some bytes)) d v v1
  write_ok c = call only e c (λ d1 h. (writes way bytes ok d d1 w h, h))

  module _ {v2 : V} (only1 : (f : Files) → left v1 (count v1) f → ImageOf (disk v1) f) (c : Calls disk count left (Writes way bytes ok) v v1) where
    pub put : Calls disk count left (Syncs ok) v1 v2 → Walks disk count left on_way Nothing (PutOnWay d way bytes ok) d v v2
    put c2 = bind (write_ok c) (λ n f b. b) (λ d1 told g is. looser (sync_ok only1 told c2) (λ n f b. b) (λ d2 g2 s.
        sure_then way bytes d1 d2 s (ap (λ (y : Disk). (y way).now) is ∙ ap (λ (s : Slot). s.now) (here d way (slot (Some bytes) Torn)))))

    pub put_unsure : (x : VaultFault) (r : Outcome) → r ≡ err x → x ≢ NoMemory → Calls disk count left (Syncs (err x)) v1 v2 → Walks disk count left on_way Nothing (PutOnWay d way bytes r) d v v2
    put_unsure x r is never c2 = rw is (bind (write_ok c) (λ n f b. b) (λ d1 told g is1. looser (sync_err x only1 told c2) (λ n f b. b) (λ d2 g2 s. put_fails d way bytes x d2 never)))

-- ---- a file waits, and comes to its name

-- a file that is on its way for sure waits
pub sure_waits : (way name : Name) (bytes : List ℕ) (d : Disk) → IsSure way bytes d → IsWaiting way name bytes d
sure_waits way name bytes d sure = record {
  on_its_way = ap (λ (m : Mark). slot (d way).now m) (sure.calm way) ∙ ap (λ (x : File). slot x Settled) sure.there;
  at_name = sure.calm name;
}

came : (d d' : Disk) (way name : Name) (bytes : List ℕ) → way ≢ name → IsWaiting way name bytes d → d' ≡ renamed d way name → IsBrought way name bytes d d'
came d d' way name bytes ne waits e = subst (IsBrought way name bytes d) (sym e) (record {
  there = ap (λ (s : Slot). s.now) (renamed_to d way name) ∙ ap (λ (s : Slot). s.now) waits.on_its_way;
  gone = ap (λ (s : Slot). s.now) (renamed_from d way name ne);
  others = λ n a b. renamed_elsewhere d way name n a b;
})

came_not : (d d' : Disk) (way name : Name) (bytes : List ℕ) (x : VaultFault) → Renames way name (Err x) d d' → Came d way name bytes {X = Unit {0}} (Err x) d'
came_not d d' way name bytes Failed h = tt
came_not d d' way name bytes NoMemory h = h

moved_not : (d d' : Disk) (way name : Name) (bytes : List ℕ) (x : VaultFault) → Came d way name bytes {X = Unit {0}} (Err x) d' → MovedIn d name bytes {X = Unit {0}} (Err x) d'
moved_not d d' way name bytes Failed h = tt
moved_not d d' way name bytes NoMemory h = h

moved_unsure : (d d' : Disk) (name : Name) (bytes : List ℕ) (x : VaultFault) → x ≢ NoMemory → MovedIn d name bytes {X = Unit {0}} (Err x) d'
moved_unsure d d' name bytes Failed not = tt
moved_unsure d d' name bytes NoMemory not = absurd (not refl)

gains : (way name : Name) (bytes : List ℕ) (d : Disk) → on_way way ≡ true → on_way name ≡ false → IsWaiting way name bytes d → (r : Result Bool VaultFault) (d' : Disk) → Renames way name r d d' → Gains on_way (ComesTo name (Some bytes)) d d'
gains way name bytes d w n waits r d' x = renames way name d w n (ap (λ (s : Slot). s.mark) waits.on_its_way) waits.at_name (refl, ap (λ (s : Slot). s.now) waits.on_its_way) r d' x

module _ {V : Type 0} {disk : V → Option Disk} {count : V → ℕ} {left : V → ℕ → Files → Type 0} {d : Disk} {v v1 : V} (way name : Name) (bytes : List ℕ) (w : on_way way ≡ true) (n : on_way name ≡ false)
    (only : (f : Files) → left v (count v) f → ImageOf (disk v) f) (told : disk v ≡ Some d) (waits : IsWaiting way name bytes d) where
  pub brings : {u : Unit {0}} → Calls disk count left (Renames way name (Ok true)) v v1 → Walks disk count left on_way (ComesTo name (Some bytes)) (Came d way name bytes {X = Unit {0}} (Ok u)) d v v1
  brings c = call only told c (λ d' x. (gains way name bytes d w n waits (Ok true) d' x, came d d' way name bytes (apart on_way way name w n) waits x.1))

  pub brings_not : (r : Result (Unit {0}) VaultFault) (x : VaultFault) → r ≡ Err x → Calls disk count left (Renames way name (Err x)) v v1 → Walks disk count left on_way (ComesTo name (Some bytes)) (Came d way name bytes r) d v v1
  brings_not r x fails c = rw fails (call only told c (λ d' y. (gains way name bytes d w n waits (Err x) d' y, came_not d d' way name bytes x y)))

  -- a rename that found no file changed nothing
  pub brings_none : Calls disk count left (Renames way name (Ok false)) v v1 → Walks disk count left on_way (ComesTo name (Some bytes)) (Came d way name bytes {X = Unit {0}} (Err NoMemory)) d v v1
  brings_none c = call only told c (λ d' y. (gains way name bytes d w n waits (Ok false) d' y, y.1))

pub one_fault : (r : Result (Unit {0}) VaultFault) {x y : VaultFault} → r ≡ Err x → r ≡ Err y → x ≡ y
one_fault r a b = cc

-- a rename for which there was no memory, or no file, only read
module _ {V : Type 0} {disk : V → Option Disk} {count : V → ℕ} {left : V → ℕ → Files → Type 0} {v v1 : V} (way name : Name) where
  pub quiet_unmade : (x : VaultFault) → x ≡ NoMemory → Calls disk count left (Renames way name (Err x)) v v1 → OnlyReads disk count left v v1
  quiet_unmade x is c = quiet_call (λ d d' h. h) (subst (λ (x : VaultFault). Calls disk count left (Renames way name (Err x)) v v1) is c)

  pub quiet_absent : Calls disk count left (Renames way name (Ok false)) v v1 → OnlyReads disk count left v v1
  quiet_absent c = quiet_call (λ d d' h. h.1) c

-- a rename of a file that isn't there
missing_stays : (way name : Name) (r : Result Bool VaultFault) (d d' : Disk) → (d way).now ≡ None → Renames way name r d d' → d' ≡ d
missing_stays way name (Ok true) d d' none h = absurd (not_there _ none h.0)
missing_stays way name (Ok false) d d' none h = h.1
missing_stays way name (Err Failed) d d' none h = by h
  where
    by : MayChange (d way).now d (renamed d way name) (unrenamed d way name) d' → d' ≡ d
    by (Absent absent same) = same
    by (Made present is) = absurd (not_there _ none present)
    by (Unmade present is) = absurd (not_there _ none present)
missing_stays way name (Err NoMemory) d d' none h = h

pub quiet_missing : {V : Type 0} {disk : V → Option Disk} {count : V → ℕ} {left : V → ℕ → Files → Type 0} {v v1 : V} (way name : Name) (r : Result Bool VaultFault) {d : Disk} → disk v ≡ Some d → (d way).now ≡ None
    → Calls disk count left (Renames way name r) v v1 → OnlyReads disk count left v v1
quiet_missing way name r e none c = quiet_told (λ d0 d' told h. missing_stays way name r d0 d' (ap (λ (x : Disk). (x way).now) (same_Some _ _ (sym told ∙ e)) ∙ none) h) c

-- a rename that found a file
pub found_there : {V : Type 0} {disk : V → Option Disk} {count : V → ℕ} {left : V → ℕ → Files → Type 0} {v v1 : V} (way name : Name) → Calls disk count left (Renames way name (Ok true)) v v1 → (d : Disk) → disk v ≡ Some d → IsSome (d way).now
found_there way name c d e = (c.tells d e).2.0

-- ---- and is settled there

module _ {V : Type 0} {disk : V → Option Disk} {count : V → ℕ} {left : V → ℕ → Files → Type 0} {d : Disk} {v v1 : V} (way name : Name) (bytes : List ℕ) where
  pub moves_not : (r : Result (Unit {0}) VaultFault) (x : VaultFault) → r ≡ Err x → Walks disk count left on_way (ComesTo name (Some bytes)) (Came d way name bytes {X = Unit {0}} (Err x)) d v v1
      → Walks disk count left on_way (ComesTo name (Some bytes)) (MovedIn d name bytes r) d v v1
  moves_not r x fails w = rw fails (looser w (λ n f b. b) (λ d' g h. moved_not d d' way name bytes x h))

  module _ {v2 : V} {u : Unit {0}} (only : (f : Files) → left v1 (count v1) f → ImageOf (disk v1) f) (w : Walks disk count left on_way (ComesTo name (Some bytes)) (Came d way name bytes {X = Unit {0}} (Ok u)) d v v1) where
    pub moves : {t : Unit {0}} → Calls disk count left (Syncs ok) v1 v2 → Walks disk count left on_way (ComesTo name (Some bytes)) (MovedIn d name bytes {X = Unit {0}} (Ok t)) d v v2
    moves c = bind w (λ n f b. b) (λ d1 told g came. looser (sync_ok only told c) (λ n f b. b) (λ d2 g2 s. sure_then name bytes d1 d2 s came.there))

    pub moves_unsure : (r : Result (Unit {0}) VaultFault) (x : VaultFault) → r ≡ Err x → x ≢ NoMemory → Calls disk count left (Syncs (err x)) v1 v2 → Walks disk count left on_way (ComesTo name (Some bytes)) (MovedIn d name bytes r) d v v2
    moves_unsure r x fails not c = rw fails (bind w (λ n f b. b) (λ d1 told g came. looser (sync_err x only told c) (λ n f b. b) (λ d2 g2 s. moved_unsure d d2 name bytes x not)))

-- ---- both

-- after a file was put on its way, and wasn't
pub unreplaced : {d d' : Disk} (way name : Name) (bytes : List ℕ) (x : VaultFault) → Gains on_way Nothing d d' → PutOnWay d way bytes (err x) d' → Replaced d name bytes (err x) d'
unreplaced way name bytes Failed g h = tt
unreplaced way name bytes NoMemory g h = g

-- and was
pub replaced_then : {d d1 : Disk} (d2 : Disk) (name : Name) (bytes : List ℕ) (r : Outcome) → Gains on_way Nothing d d1 → MovedIn d1 name bytes r d2 → Replaced d name bytes r d2
replaced_then d2 name bytes (Ok x) g h = h
replaced_then d2 name bytes (Err Failed) g h = tt
replaced_then {d} d2 name bytes (Err NoMemory) g h = subst (Gains on_way Nothing d) (sym h) g

-- what stands under a name, against bytes
pub found_none : (name : Name) (bytes : List ℕ) (x : File) → x ≡ None → (d' : Disk) → IsCalm d' → x ≡ (d' name).now → Found name bytes (Ok false) d'
found_none name bytes x e d' calm is = record { calm = calm; other = λ s. cc }

pub found_some : (name bytes found : Name) (x : File) (same : Bool) → x ≡ Some found → same ≡ bytes_eq found bytes → (d' : Disk) → IsCalm d' → x ≡ (d' name).now → Found name bytes (Ok same) d'
found_some name bytes found x true e t d' calm is = record { calm = calm; there = sym is ∙ e ∙ ap Some ((bytes_eq-Decides found bytes).0 (sym t)) }
found_some name bytes found x false e t d' calm is = record { calm = calm; other = λ s. let same : found ≡ bytes = (let k = s in cc) in let u : bytes_eq found bytes ≡ true = (bytes_eq-Decides found bytes).1 same in cc }

module _ {V : Type 0} {disk : V → Option Disk} {count : V → ℕ} {left : V → ℕ → Files → Type 0} {d : Disk} {v v1 v2 : V} (name bytes : Name) (only : (f : Files) → left v (count v) f → ImageOf (disk v) f) (only1 : (f : Files) → left v1 (count v1) f → ImageOf (disk v1) f) (e : disk v ≡ Some d) (c : Calls disk count left (Syncs ok) v v1) where
  pub finds : (x : File) (there : Bool) → Calls disk count left (Reads name (Ok x)) v1 v2 → ((d' : Disk) → IsCalm d' → x ≡ (d' name).now → Found name bytes (Ok there) d') → Walks disk count left on_way Nothing (Found name bytes (Ok there)) d v v2
  finds x there c2 ends = bind (sync_ok only e c) (λ n f b. b) (λ d1 told g is.
      call only1 told c2 (λ d2 y. (reads name (Ok x) d1 d2 y, ends d2 (subst IsCalm (sym y.0) (calm_then d d1 is)) (y.1 ∙ ap (λ (z : Disk). (z name).now) (sym y.0)))))
