-- Runs, and calls of a desk, one after another; fronts of lists, and the last of a list.
use Rattle.std.proofs.Common.{◌≡◌, ◌++◌, ◌∷◌, ℕ, zero, suc, List, [], refl, ap, sym, subst, ◌∙◌, append_assoc, append-nil}
use Rattle.std.specs.Prelude.{Option, drop, map, option_map}
use Rattle.std.specs.List.{last_or}
use Rattle.std.specs.declared.option.Option.TheVariants.{None, Some}
use Rattle.cv_base.proofs.Laws.{last_map}
use Rattle.cv_gate.specs.State.{State}
use Rattle.cv_gate.specs.Step.{Run}
use Rattle.cv_gate.specs.Desk.{DeskView, Call, Calls}
use Rattle.cv_gate.specs.declared.entry.Entry.{Entry}
use Rattle.cv_gate.specs.Heads.{IsFront}

pub run_on : (entries more : List Entry) (st mid last : State) → Run st entries mid → Run mid more last → Run st (entries ++ more) last
run_on [] more st mid last run then = subst (λ (x : State). Run x more last) run then
run_on (e ∷ entries) more st mid last run then = (run.0, run.1, run.2, run_on entries more run.1 mid last run.3 then)

pub front_self : {T : Type 0} (xs : List T) → IsFront xs xs
front_self xs = record { more = []; split = sym (append-nil xs) }

pub front_trans : {T : Type 0} {xs ys zs : List T} → IsFront xs ys → IsFront ys zs → IsFront xs zs
front_trans {xs = xs} p q = record { more = p.more ++ q.more; split = q.split ∙ ap (λ l. l ++ q.more) p.split ∙ append_assoc xs p.more q.more }

last_any : {T : Type 0} (o : Option T) (xs : List T) (h : T) → last_or None xs ≡ Some h → last_or o xs ≡ Some h
last_any o [] h is = cc
last_any o (x ∷ xs) h is = is

last_drop : {T : Type 0} (k : ℕ) (o : Option T) (xs : List T) (h : T) → last_or None (drop k xs) ≡ Some h → last_or o xs ≡ Some h
last_drop zero o xs h is = last_any o xs h is
last_drop (suc k) o [] h is = cc
last_drop (suc k) o (x ∷ xs) h is = last_drop k (Some x) xs h is

map_drop : {A B : Type 0} (f : A → B) (k : ℕ) (xs : List A) → map f (drop k xs) ≡ drop k (map f xs)
map_drop f zero xs = refl
map_drop f (suc k) [] = refl
map_drop f (suc k) (x ∷ xs) = map_drop f k xs

-- the last of a part at the end is the last of all
pub last_of_part : {A B : Type 0} (f : A → B) (k : ℕ) (xs : List A) (h : B) → last_or None (map f (drop k xs)) ≡ Some h → option_map f (last_or None xs) ≡ Some h
last_of_part f k xs h is = sym (last_map f None xs) ∙ last_drop k None (map f xs) h (sym (ap (λ l. last_or None l) (map_drop f k xs)) ∙ is)

-- calls of a desk follow calls
pub calls_on : (calls more : List Call) (v mid v' : DeskView) → Calls v calls mid → Calls mid more v' → Calls v (calls ++ more) v'
calls_on [] more v mid v' does and = subst (λ (x : DeskView). Calls x more v') does and
calls_on (c ∷ calls) more v mid v' does and = (does.0, does.1, calls_on calls more does.0 mid v' does.2 and)
