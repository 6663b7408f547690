-- Walks, one after another.
use Rattle.std.proofs.Common.{◌≡◌, ◌⊎◌, ℕ, Bool, true, false, refl, sym, subst, ◌∙◌, inl, inr, arith}
use Rattle.std.specs.declared.option.Option.{Option}
use Rattle.std.specs.declared.option.Option.TheVariants.{Some}
use Rattle.cv_vault.specs.Names.{Name, on_way}
use Rattle.cv_vault.specs.Disk.{Disk, Slot, File, Files, May, Image, ImageOf}
use Rattle.cv_vault.specs.Moments.{Calls, LeavesOnly}
use Rattle.cv_vault.specs.Walks.{Change, Stays, Comes, Gains, Within, Walks, LeavesOutMore}

pub change_then : {B : File → Type 0} {a b c : Slot} → Change B a b → Change B b c → Change B a c
change_then {B} (Stays s l) (Stays s' l') = Stays (s' ∙ s) (λ f m. l f (l' f m))
change_then {B} (Stays s l) (Comes s' l') = Comes s' (λ f m. elim (l' f m) [ inl x ↦ inl (l f x) | inr y ↦ inr y ])
change_then {B} (Comes s l) (Stays s' l') = Comes (subst B (sym s') s) (λ f m. l f (l' f m))
change_then {B} (Comes s l) (Comes s' l') = Comes s' (λ f m. elim (l' f m) [ inl x ↦ l f x | inr y ↦ inr y ])

pub change_more : {A B : File → Type 0} {a b : Slot} → ((f : File) → A f → B f) → Change A a b → Change B a b
change_more h (Stays s l) = Stays s l
change_more h (Comes s l) = Comes (h _ s) (λ f m. elim (l f m) [ inl x ↦ inl x | inr y ↦ inr (h f y) ])

pub gains_then : {away : Name → Bool} {B : Name → File → Type 0} {a b c : Disk} → Gains away B a b → Gains away B b c → Gains away B a c
gains_then g h = record { each = λ n w. change_then (g.each n w) (h.each n w) }

pub gains_more : {away : Name → Bool} {A B : Name → File → Type 0} {a b : Disk} → ((n : Name) (f : File) → A n f → B n f) → Gains away A a b → Gains away B a b
gains_more h g = record { each = λ n w. change_more (h n) (g.each n w) }

pub gains_none : {away : Name → Bool} {B : Name → File → Type 0} {a b : Disk} → b ≡ a → Gains away B a b
gains_none {away} {B} {a} {b} e = subst (Gains away B a) (sym e) (record { each = λ n w. Stays refl (λ f m. m) })

-- what a crash may leave after a change might be left before, or came
pub may_before : {B : File → Type 0} {s s' : Slot} → Change B s s' → (f : File) → May s' f → May s f ⊎ B f
may_before (Stays s l) f m = inl (l f m)
may_before (Comes s l) f m = l f m

pub within_image : {away : Name → Bool} {B : Name → File → Type 0} {d d' : Disk} → Gains away B d d' → (f : Files) → Image d' f → Within away B d f
within_image g f i = record { each = λ n w. may_before (g.each n w) (f n) (i n) }

pub within_then : {away : Name → Bool} {B : Name → File → Type 0} {d d' : Disk} → Gains away B d d' → (f : Files) → Within away B d' f → Within away B d f
within_then g f i = record { each = λ n w. elim (i.each n w) [ inl m ↦ may_before (g.each n w) (f n) m | inr b ↦ inr b ] }

pub within_more : {away : Name → Bool} {A B : Name → File → Type 0} {d : Disk} → ((n : Name) (f : File) → A n f → B n f) → (f : Files) → Within away A d f → Within away B d f
within_more h f i = record { each = λ n w. elim (i.each n w) [ inl m ↦ inl m | inr b ↦ inr (h n (f n) b) ] }

image_told : (o : Option Disk) (d : Disk) (f : Files) → o ≡ Some d → ImageOf o f → Image d f
image_told o d f e i = let P : Option Disk → Type 0 = λ o. ImageOf o f in subst P e i

-- two runs, one after the other
pub leaves_then : {V : Type 0} {count : V → ℕ} {left : V → ℕ → Files → Type 0} {P R Q : Files → Type 0} {a b c : V}
    → LeavesOnly count left P a b → LeavesOnly count left R b c → ((f : Files) → P f → Q f) → ((f : Files) → R f → Q f) → LeavesOnly count left Q a c
leaves_then {V} {count} {left} {P} {R} {Q} {a} {b} {c} x y p r = record {
  later = let s = x.later in let t = y.later in omega arith;
  each = λ f l. elim (y.before (count a) f x.later l) [ inl past ↦ p f (x.each f past) | inr now ↦ r f now ];
  before = λ m f le l. elim (y.before m f (let s = x.later in omega arith) l) [
    | inl past ↦ elim (x.before m f le past) [ inl old ↦ inl old | inr now ↦ inr (p f now) ]
    | inr now ↦ inr (r f now)
  ];
}

pub leaves_more : {V : Type 0} {count : V → ℕ} {left : V → ℕ → Files → Type 0} {P Q : Files → Type 0} {a b : V}
    → LeavesOnly count left P a b → ((f : Files) → P f → Q f) → LeavesOnly count left Q a b
leaves_more x p = record {
  later = x.later;
  each = λ f l. p f (x.each f l);
  before = λ m f le l. elim (x.before m f le l) [ inl old ↦ inl old | inr now ↦ inr (p f now) ];
}

-- nothing was done yet
pub stand : {V : Type 0} {disk : V → Option Disk} {count : V → ℕ} {left : V → ℕ → Files → Type 0} {away : Name → Bool} {B : Name → File → Type 0} {E : Disk → Type 0} {d : Disk} {v : V}
    → ((f : Files) → left v (count v) f → ImageOf (disk v) f) → disk v ≡ Some d → E d → Walks disk count left away B E d v v
stand {V} {disk} {count} {left} {away} {B} {E} {d} {v} only e h = record {
  end = d;
  told = e;
  gains = gains_none refl;
  leaves = record {
    later = omega arith;
    each = λ f l. within_image (gains_none refl) f (image_told (disk v) d f e (only f l));
    before = λ m f le l. inl l;
  };
  is = h;
}

-- one call
pub call : {V : Type 0} {disk : V → Option Disk} {count : V → ℕ} {left : V → ℕ → Files → Type 0} {R : Disk → Disk → Type 0} {away : Name → Bool} {B : Name → File → Type 0} {E : Disk → Type 0} {d : Disk} {v v' : V}
    → ((f : Files) → left v (count v) f → ImageOf (disk v) f) → disk v ≡ Some d → Calls disk count left R v v' → ((d' : Disk) → R d d' → Gains away B d d' × E d') → Walks disk count left away B E d v v'
call {V} {disk} {count} {left} {R} {away} {B} {E} {d} {v} {v'} only e c h =
    let t = c.tells d e in
    let k = h t.0 t.2 in
    record {
      end = t.0;
      told = t.1;
      gains = k.0;
      leaves = record {
        later = c.later;
        each = λ f l. elim (c.nothing_else (count v) f (omega arith) l) [
          | inl past ↦ within_image (gains_none refl) f (image_told (disk v) d f e (only f past))
          | inr now ↦ within_image k.0 f (image_told (disk v') t.0 f t.1 now)
        ];
        before = λ m f le l. elim (c.nothing_else m f le l) [
          | inl past ↦ inl past
          | inr now ↦ inr (within_image k.0 f (image_told (disk v') t.0 f t.1 now))
        ];
      };
      is = k.1;
    }

pub looser : {V : Type 0} {disk : V → Option Disk} {count : V → ℕ} {left : V → ℕ → Files → Type 0} {away : Name → Bool} {A B : Name → File → Type 0} {E F : Disk → Type 0} {d : Disk} {v v' : V}
    → Walks disk count left away A E d v v' → ((n : Name) (f : File) → A n f → B n f) → ((d' : Disk) → Gains away A d d' → E d' → F d') → Walks disk count left away B F d v v'
looser w more ends = record {
  end = w.end;
  told = w.told;
  gains = gains_more more w.gains;
  leaves = leaves_more w.leaves (λ f x. within_more more f x);
  is = ends w.end w.gains w.is;
}

-- a walk, and then another from wherever it ended
pub bind : {V : Type 0} {disk : V → Option Disk} {count : V → ℕ} {left : V → ℕ → Files → Type 0} {away : Name → Bool} {A B : Name → File → Type 0} {E F : Disk → Type 0} {d : Disk} {v v1 v2 : V}
    → Walks disk count left away A E d v v1 → ((n : Name) (f : File) → A n f → B n f)
    → ((d1 : Disk) → disk v1 ≡ Some d1 → Gains away A d d1 → E d1 → Walks disk count left away B F d1 v1 v2) → Walks disk count left away B F d v v2
bind w more next =
    let u = next w.end w.told w.gains w.is in
    record {
      end = u.end;
      told = u.told;
      gains = gains_then (gains_more more w.gains) u.gains;
      leaves = leaves_then w.leaves u.leaves (λ f x. within_more more f x) (λ f x. within_then (gains_more more w.gains) f x);
      is = u.is;
    }

-- more names are left out of account
pub gains_wider : {away wider : Name → Bool} {B : Name → File → Type 0} {d d' : Disk} → ((n : Name) → wider n ≡ false → away n ≡ false) → Gains away B d d' → Gains wider B d d'
gains_wider h g = record { each = λ n w. g.each n (h n w) }

pub within_wider : {away wider : Name → Bool} {B : Name → File → Type 0} {d : Disk} → ((n : Name) → wider n ≡ false → away n ≡ false) → (f : Files) → Within away B d f → Within wider B d f
within_wider h f i = record { each = λ n w. i.each n (h n w) }

pub walks_wider : {V : Type 0} {disk : V → Option Disk} {count : V → ℕ} {left : V → ℕ → Files → Type 0} {away wider : Name → Bool} {B : Name → File → Type 0} {E : Disk → Type 0} {d : Disk} {v v' : V}
    → ((n : Name) → wider n ≡ false → away n ≡ false) → Walks disk count left away B E d v v' → Walks disk count left wider B E d v v'
walks_wider h w = record {
  end = w.end;
  told = w.told;
  gains = gains_wider h w.gains;
  leaves = leaves_more w.leaves (λ f x. within_wider h f x);
  is = w.is;
}

-- a test that has the names on the way among it
on_way_wider : (away : Name → Bool) → ((n : Name) → on_way n ≡ true → away n ≡ true) → (n : Name) → away n ≡ false → on_way n ≡ false
on_way_wider away more n out = by (on_way n) refl
  where
    by : (b : Bool) → on_way n ≡ b → on_way n ≡ false
    by true e = let k = more n e in cc
    by false e = e

pub leaves_out_more : {V : Type 0} (disk : V → Option Disk) (count : V → ℕ) (left : V → ℕ → Files → Type 0) (B : Name → File → Type 0) (E : Disk → Type 0) (d : Disk) → LeavesOutMore disk count left B E d
leaves_out_more disk count left B E d = λ away more v v' w. walks_wider (on_way_wider away more) w
