use Rattle.std.proofs.Common.{◌≡◌, ◌⊎◌, ◌<◌, ℕ, true, List, get_or}
use Rattle.cv_base.specs.Path.{Path}
use Rattle.cv_base.specs.declared.id.ObjectId.{ObjectId}
use Rattle.cv_load.specs.Known.{is_known, HasPair}
use Rattle.cv_load.proofs.known_set.KnownSet.add_all.Given as goal

abbrev pub invariant-loop-pair : goal.invariant-loop-pair
invariant-loop-pair l = record {
  only : (h : List ℕ) (p : Path) → is_known l.self h p ≡ true → (is_known l.fn.self h p ≡ true) ⊎ HasPair l.fn.pairs h p;
  kept : (h : List ℕ) (p : Path) → is_known l.fn.self h p ≡ true → is_known l.self h p ≡ true;
  added : (k : ℕ) (d : ObjectId × Path) → k < l.pair-index → is_known l.self (get_or l.fn.pairs k d).0.hash (get_or l.fn.pairs k d).1 ≡ true;
}
