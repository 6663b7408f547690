-- a directory's path, and what is ready of it, are as they were
use Rattle.std.proofs.Common.{refl, string_bytes}
use Rattle.cv_real.proofs.ReadFiles.{same_images}
use Rattle.cv_real.specs.declared.ahead.Directory.{Directory}
use Rattle.cv_real.proofs.ahead.ReadAhead.start_next.Goals as goal

pub returns-in_default-pop_front-clause-held : goal.returns-in_default-pop_front-clause-held
returns-in_default-pop_front-clause-held g c =
    same_images (λ (d : Directory). (string_bytes d.folder, d.ready.items)) _ _ c.in-Some.directory.now _ c.in-Some.ensures.value refl

pub returns-in-Some-start-clause-held : goal.returns-in-Some-start-clause-held
returns-in-Some-start-clause-held g c =
    same_images (λ (d : Directory). (string_bytes d.folder, d.ready.items)) _ _ c.in-Some.directory.now _ c.in-Some.ensures.value refl

pub returns-in_default-start-clause-held : goal.returns-in_default-start-clause-held
returns-in_default-start-clause-held g c =
    same_images (λ (d : Directory). (string_bytes d.folder, d.ready.items)) _ _ c.in-Some.directory.now _ c.in-Some.ensures.value refl
