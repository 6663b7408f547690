-- A line of the program, said in four pieces, and the text of an id, said in two.
use Rattle.std.proofs.Common.{◌≡◌, ◌≢◌, ◌++◌, ℕ, List, ◌∙◌, refl, ap, subst}
use Rattle.std.specs.Prelude.{Option}
use Rattle.cv_ports.specs.Streams.{onto, Wrote}
use Rattle.cv_ports.proofs.Laws.{onto_twice, wrote_front, wrote_back}
use Rattle.cv_top.specs.Status.{line_of, said, what_of, detail_of}
use Rattle.cv_top.specs.declared.status.Status.{Status}
use Rattle.cv_top.specs.declared.status.Status.TheVariants.{Done, Usage, Repository, Refused, InputFailed, OutputFailed, StoreFailed, LinkFailed, JournalFull, NoAnswer, Served, BadReply, Changes, BadRequest, FolderFailed, BadKeys, OutOfMemory}

pub line_is : (status : Status) → status ≢ Done → line_of status ≡ said (what_of status) (detail_of status)
line_is Done other = absurd (other refl)
line_is Usage other = refl
line_is (Repository fault) other = refl
line_is (Refused cause) other = refl
line_is InputFailed other = refl
line_is OutputFailed other = refl
line_is StoreFailed other = refl
line_is LinkFailed other = refl
line_is JournalFull other = refl
line_is (NoAnswer fault) other = refl
line_is (Served fault) other = refl
line_is BadReply other = refl
line_is (Changes fault path) other = refl
line_is BadRequest other = refl
line_is FolderFailed other = refl
line_is BadKeys other = refl
line_is OutOfMemory other = refl

-- two pieces, one after the other
pub onto_then : (o : Option (List ℕ)) {o1 o2 : Option (List ℕ)} (a b : List ℕ) → o1 ≡ onto o a → o2 ≡ onto o1 b → o2 ≡ onto o (a ++ b)
onto_then o a b first second = second ∙ ap (λ x. onto x b) first ∙ onto_twice o a b

-- of two pieces the first and a front of the second
pub wrote_then : (o : Option (List ℕ)) {o1 o2 : Option (List ℕ)} {b' : List ℕ} (a b : List ℕ) → b' ≡ b → o1 ≡ onto o a → Wrote o1 o2 b' → Wrote o o2 (a ++ b)
wrote_then o {o1} {o2} a b is first w = wrote_back o a first (subst (Wrote o1 o2) is w)

-- what the sink took before, and the pieces
module _ (o : Option (List ℕ)) (a b c d : List ℕ) where
  pub in_first : {o1 : Option (List ℕ)} {a' : List ℕ} → a' ≡ a → Wrote o o1 a' → Wrote o o1 (a ++ (b ++ (c ++ d)))
  in_first {o1} a_is w = wrote_front (b ++ (c ++ d)) (subst (Wrote o o1) a_is w)

  pub in_second : {o1 o2 : Option (List ℕ)} {b' : List ℕ} → b' ≡ b → o1 ≡ onto o a → Wrote o1 o2 b' → Wrote o o2 (a ++ (b ++ (c ++ d)))
  in_second {o1} {o2} b_is first w = wrote_back o a first (wrote_front (c ++ d) (subst (Wrote o1 o2) b_is w))

  pub in_third : {o1 o2 o3 : Option (List ℕ)} {c' : List ℕ} → c' ≡ c → o1 ≡ onto o a → o2 ≡ onto o1 b → Wrote o2 o3 c' → Wrote o o3 (a ++ (b ++ (c ++ d)))
  in_third {o1} {o2} {o3} c_is first second w = wrote_back o a first (wrote_back o1 b second (wrote_front d (subst (Wrote o2 o3) c_is w)))

  pub in_fourth : {o1 o2 o3 o4 : Option (List ℕ)} {d' : List ℕ} → d' ≡ d → o1 ≡ onto o a → o2 ≡ onto o1 b → o3 ≡ onto o2 c → Wrote o3 o4 d' → Wrote o o4 (a ++ (b ++ (c ++ d)))
  in_fourth {o1} {o2} {o3} {o4} d_is first second third w = wrote_back o a first (wrote_back o1 b second (wrote_back o2 c third (subst (Wrote o3 o4) d_is w)))

  pub all_four : {o1 o2 o3 o4 : Option (List ℕ)} → o1 ≡ onto o a → o2 ≡ onto o1 b → o3 ≡ onto o2 c → o4 ≡ onto o3 d → o4 ≡ onto o (a ++ (b ++ (c ++ d)))
  all_four {o1} {o2} first second third fourth = onto_then o a (b ++ (c ++ d)) first (onto_then o1 b (c ++ d) second (onto_then o2 c d third fourth))

-- a piece that was taken whole
pub as_piece : (o : Option (List ℕ)) {o1 : Option (List ℕ)} {a' a : List ℕ} → a' ≡ a → o1 ≡ onto o a' → o1 ≡ onto o a
as_piece o is whole = whole ∙ ap (onto o) is
