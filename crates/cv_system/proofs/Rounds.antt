-- Folders that a walk goes round.
use Rattle.std.proofs.Common.{◌≡◌, ◌∙◌, ◌+◌, ◌≤◌, ◌++◌, ℕ, List, Ok, Err, ap, subst, inl, inr, length, take, take-take}
use Rattle.std.proofs.lemmas.List.{take-append-le}
use Rattle.cv_system.specs.Calls.{Cause, Log, Named, and_call}
use Rattle.cv_system.specs.Names.{names_in}
use Rattle.cv_system.specs.Walks.{FailsAmong, FailsToReadAll, LooksAtAll, Reads, ReadsMore, ReadsAll}

module _ (folder last : List ℕ) (kept : List (List ℕ)) (before : Log) (count : ℕ) (between : List (List ℕ)) (read : Log) (reads : Reads folder last kept before count between read) (named : Log) where
  module _ (bytes folder' last' : List ℕ) (same_folder : folder' ≡ folder) (same_last : last' ≡ last) (is : named ≡ and_call (Named folder (Ok bytes)) read) where
    -- more names were read, and looked at
    pub reads_more : (kept' : List (List ℕ)) (after : Log) → LooksAtAll folder' last' (names_in bytes) between kept' named after → Reads folder last kept before (count + 1) kept' after
    reads_more kept' after looks =
        ReadsMore bytes reads
        (subst (λ (log : Log). LooksAtAll folder last (names_in bytes) between kept' log after) is
        (subst (λ (f : List ℕ). LooksAtAll f last (names_in bytes) between kept' named after) same_folder
        (subst (λ (l : List ℕ). LooksAtAll folder' l (names_in bytes) between kept' named after) same_last looks)))

    -- or the look at one fails
    pub fails_among : (after : Log) → FailsAmong folder' last' (names_in bytes) between named after → FailsToReadAll folder last kept before after
    fails_among after fails = (
      count,
      between,
      read,
      reads,
      inr (inl (
        bytes,
        subst (λ (log : Log). FailsAmong folder last (names_in bytes) between log after) is
            (subst (λ (f : List ℕ). FailsAmong f last (names_in bytes) between named after) same_folder
            (subst (λ (l : List ℕ). FailsAmong folder' l (names_in bytes) between named after) same_last fails)),
      )),
    )

  -- there are no more names
  pub reads_all : (size : ℕ) (names : List ℕ) → named ≡ and_call (Named folder (Ok (take size names))) read → size ≡ 0 → ReadsAll folder last kept between before named
  reads_all size names is none = (count, read, reads, is ∙ ap (λ (n : ℕ). and_call (Named folder (Ok (take n names))) read) none)

  -- no more are given
  pub reads_no_more : (cause : Cause) → named ≡ and_call (Named folder (Err cause)) read → FailsToReadAll folder last kept before named
  reads_no_more cause is = (count, between, read, reads, inl (cause, is))

-- the names that were read stand in the front of the buffer, whatever is behind it
pub front_of : (count size : ℕ) (buffer rest : List ℕ) → count ≤ length buffer → count ≤ size → take count (take size (buffer ++ rest)) ≡ take count buffer
front_of count size buffer rest within fits = take-take count size (buffer ++ rest) fits ∙ take-append-le count buffer rest within
