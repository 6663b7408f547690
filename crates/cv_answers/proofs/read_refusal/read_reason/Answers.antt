use Rattle.std.proofs.Common.{◌≡◌, ◌≢◌, ℕ, List, true, false, refl}
use Rattle.std.specs.Str.{bytes_eq}
use Rattle.std.proofs.lemmas.Slice.Eq.{bytes_eq-Decides}
use Rattle.cv_answers.proofs.read_refusal.read_reason.Goals as goal

differ : (text word : List ℕ) → text ≢ word → bytes_eq text word ≡ false
differ text word never = elim (bytes_eq text word) as (λ t. bytes_eq text word ≡ t → t ≡ false) [
  | true ↦ λ e. absurd (never ((bytes_eq-Decides text word).0 e))
  | false ↦ λ e. refl
] refl

pub returns-in_default-clause-says : goal.returns-in_default-clause-says
returns-in_default-clause-says c =
    let text = c.args.reason.now in
    let is = c.in_default in
    rw (
      differ text _ is.not-missing_member,
      differ text _ is.not-wrong_type,
      differ text _ is.not-bad_value,
      differ text _ is.not-collision,
      differ text _ is.not-stale_base,
      differ text _ is.not-missing_object,
      differ text _ is.not-bad_catalogue,
      differ text _ is.not-path_collision,
      differ text _ is.not-catalogue_full,
      differ text _ is.not-tag_taken,
      differ text _ is.not-damaged,
    ) c.read_plain.ensures.says
