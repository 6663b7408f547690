-- What is left and what was taken, piece after piece.
use Rattle.std.proofs.Common.{◌≡◌, ◌++◌, [], ℕ, List, refl, ap, sym, ◌∙◌, append_assoc, append-nil}
use Rattle.std.specs.Prelude.{Option, Some, None}
use Rattle.cv_ports.specs.Streams.{front, onto, Wrote}

pub onto_twice : (before : Option (List ℕ)) (a b : List ℕ) → onto (onto before a) b ≡ onto before (a ++ b)
onto_twice None a b = refl
onto_twice (Some taken) a b = ap (λ l. Some l) (append_assoc taken a b)

pub front_twice : (rest : Option (List ℕ)) (a b : List ℕ) → front a (front b rest) ≡ front (a ++ b) rest
front_twice None a b = refl
front_twice (Some left) a b = ap (λ l. Some l) (sym (append_assoc a b left))

-- two writes, one after another: what was taken of the first is a front of both
pub wrote_front : {old new : Option (List ℕ)} {a : List ℕ} (b : List ℕ) → Wrote old new a → Wrote old new (a ++ b)
wrote_front b wrote = record {
  written = wrote.written;
  unwritten = wrote.unwritten ++ b;
  split = ap (λ l. l ++ b) wrote.split ∙ append_assoc wrote.written wrote.unwritten b;
  taken = wrote.taken;
}

-- the first whole, and a front of the second
pub wrote_back : (old : Option (List ℕ)) {mid new : Option (List ℕ)} (a : List ℕ) {b : List ℕ} → mid ≡ onto old a → Wrote mid new b → Wrote old new (a ++ b)
wrote_back old {mid} {new} a {b} first wrote = record {
  written = a ++ wrote.written;
  unwritten = wrote.unwritten;
  split = ap (λ l. a ++ l) wrote.split ∙ sym (append_assoc a wrote.written wrote.unwritten);
  taken = wrote.taken ∙ ap (λ o. onto o wrote.written) first ∙ onto_twice old a wrote.written;
}

pub onto_none : (given : Option (List ℕ)) → given ≡ onto given []
onto_none None = refl
onto_none (Some l) = ap (λ x. Some x) (sym (append-nil l))
