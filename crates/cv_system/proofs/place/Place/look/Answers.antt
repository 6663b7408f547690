use Rattle.std.proofs.Common.{refl, inl}
use Rattle.std.proofs.lemmas.Str.{IsUtf8-from_is_utf8}
use Rattle.cv_system.proofs.place.Place.look.Goals as goal

pub returns-in_default-clause-looks : goal.returns-in_default-clause-looks
returns-in_default-clause-looks g c = inl (λ utf8 next. absurd (c.in_default.ensures.cases.0 (IsUtf8-from_is_utf8 c.args.bytes.now utf8)), refl, refl)
