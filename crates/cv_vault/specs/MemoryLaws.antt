-- What a crash of a vault in memory might have left since a moment.
use Rattle.std.specs.Prelude.{ℕ, ◌≤◌, List, length}
use Rattle.std.proofs.Common.{sym, subst, arith}
use Rattle.std.proofs.lemmas.List.{take_all}
use Rattle.cv_vault.specs.Disk.{Files, Image, ImageOf}
use Rattle.cv_vault.specs.Events.{Event, replay}
use Rattle.cv_vault.specs.Memory.{Memory, began, memory_told, memory_count, memory_left}

pub memory_counts_now : (v : Memory) (m : ℕ) (f : Files) → m ≤ memory_count v → ImageOf (memory_told v) f → memory_left v m f
memory_counts_now v m f le i = record {
  moment = length v.past;
  since = le;
  until = omega arith;
  image = subst (λ (es : List Event). Image (replay es (began v)) f) (sym (take_all (length v.past) v.past (omega arith))) i;
}

pub memory_only_now : (v : Memory) (f : Files) → memory_left v (memory_count v) f → ImageOf (memory_told v) f
memory_only_now v f l = let since = l.since in subst (λ (es : List Event). Image (replay es (began v)) f) (take_all l.moment v.past since) l.image
