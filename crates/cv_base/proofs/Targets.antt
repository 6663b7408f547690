-- The empty text is a target.
use Rattle.std.proofs.Common.{◌≡◌, true, [], refl}
use Rattle.std.proofs.lemmas.Str.{IsUtf8-nil, is_utf8-from_IsUtf8}
use Rattle.cv_base.specs.Target.{is_target}

pub no_target : is_target [] ≡ true
no_target = rw (is_utf8-from_IsUtf8 [] IsUtf8-nil) refl
