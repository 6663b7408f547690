-- Reads, one after another.
use Rattle.std.proofs.Common.{◌≡◌, ℕ, Bool, refl, sym, subst, ap, ◌∙◌, inl, inr, arith}
use Rattle.std.specs.declared.option.Option.{Option}
use Rattle.std.specs.declared.option.Option.TheVariants.{None, Some}
use Rattle.cv_vault.specs.Names.{Name}
use Rattle.cv_vault.specs.Disk.{Disk, Files, ImageOf}
use Rattle.cv_vault.specs.Moments.{Calls, OnlyReads}
use Rattle.cv_vault.specs.Walks.{Stays, Gains, Walks, Nothing}
use Rattle.cv_vault.proofs.Walking.{call}

-- nothing went by
pub quiet_none : {V : Type 0} {disk : V → Option Disk} {count : V → ℕ} {left : V → ℕ → Files → Type 0} (a : V) → OnlyReads disk count left a a
quiet_none a = record {
  tells = λ d e. (d, e, refl);
  silent = λ e. e;
  later = omega arith;
  kept = λ m f le l. l;
  nothing_else = λ m f le l. inl l;
}

pub quiet_then : {V : Type 0} {disk : V → Option Disk} {count : V → ℕ} {left : V → ℕ → Files → Type 0} {a b c : V} → OnlyReads disk count left a b → OnlyReads disk count left b c → OnlyReads disk count left a c
quiet_then {V} {disk} {count} {left} {a} {b} {c} x y = record {
  tells = λ d e. let t = x.tells d e in let u = y.tells t.0 t.1 in (u.0, u.1, u.2 ∙ t.2);
  silent = λ e. y.silent (x.silent e);
  later = let s = x.later in let t = y.later in omega arith;
  kept = λ m f le l. y.kept m f (let s = x.later in omega arith) (x.kept m f le l);
  nothing_else = λ m f le l. elim (y.nothing_else m f (let s = x.later in omega arith) l) [
    | inl past ↦ elim (x.nothing_else m f le past) [ inl old ↦ inl old | inr now ↦ inr (forward (disk b) refl f now) ]
    | inr now ↦ inr now
  ];
}
  where
    forward : (o : Option Disk) → disk b ≡ o → (f : Files) → ImageOf (disk b) f → ImageOf (disk c) f
    forward None e f i = subst (λ (o : Option Disk). ImageOf o f) (sym (y.silent e)) tt
    forward (Some d) e f i =
        let u = y.tells d e in
        let same : disk c ≡ disk b = u.1 ∙ ap Some u.2 ∙ sym e in
        subst (λ (o : Option Disk). ImageOf o f) (sym same) i

-- reads are a walk by which nothing comes
pub quiet_walks : {V : Type 0} {disk : V → Option Disk} {count : V → ℕ} {left : V → ℕ → Files → Type 0} {away : Name → Bool} {d : Disk} {v v' : V}
    → ((f : Files) → left v (count v) f → ImageOf (disk v) f) → disk v ≡ Some d → OnlyReads disk count left v v' → Walks disk count left away Nothing (λ d'. d' ≡ d) d v v'
quiet_walks {V} {disk} {count} {left} {away} {d} only e c = call only e c (λ d' h. (subst (Gains away Nothing d) (sym h) (record { each = λ n w. Stays refl (λ f m. m) }), h))

-- the disk is the same, told or not
pub quiet_same : {V : Type 0} {disk : V → Option Disk} {count : V → ℕ} {left : V → ℕ → Files → Type 0} {a b : V} → OnlyReads disk count left a b → disk b ≡ disk a
quiet_same {V} {disk} {count} {left} {a} {b} c = by (disk a) refl
  where
    by : (o : Option Disk) → disk a ≡ o → disk b ≡ disk a
    by None e = c.silent e ∙ sym e
    by (Some d) e = let t = c.tells d e in t.1 ∙ ap Some t.2 ∙ sym e

-- a call that left the disk as it was, where it is told
pub quiet_told : {V : Type 0} {disk : V → Option Disk} {count : V → ℕ} {left : V → ℕ → Files → Type 0} {R : Disk → Disk → Type 0} {a b : V}
    → ((d d' : Disk) → disk a ≡ Some d → R d d' → d' ≡ d) → Calls disk count left R a b → OnlyReads disk count left a b
quiet_told same c = record {
  tells = λ d e. let t = c.tells d e in (t.0, t.1, same d t.0 e t.2);
  silent = c.silent;
  later = c.later;
  kept = c.kept;
  nothing_else = c.nothing_else;
}

-- and any disk
pub quiet_call : {V : Type 0} {disk : V → Option Disk} {count : V → ℕ} {left : V → ℕ → Files → Type 0} {R : Disk → Disk → Type 0} {a b : V}
    → ((d d' : Disk) → R d d' → d' ≡ d) → Calls disk count left R a b → OnlyReads disk count left a b
quiet_call same c = quiet_told (λ d d' told h. same d d' h) c
