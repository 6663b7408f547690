use Rattle.std.proofs.Common.{◌≡◌, ◌∙◌, refl, sym, append_assoc}
use Rattle.std.specs.Prelude.{string_bytes}
use Rattle.cv_manifest.specs.Field.{all_fields}
use Rattle.cv_manifest.specs.Manifest.{manifest}
use Rattle.cv_manifest.proofs.Written.{flat, lines_flat}
use Rattle.cv_manifest.proofs.manifest.write_lines.Goals as goal

pub returns-clause-text : goal.returns-clause-text
returns-clause-text c =
    let m = manifest c.args.name.now c.args.ttl c.args.head in
    let whole : string_bytes c.in_ok-format.field-0 ≡ flat m all_fields =
    rw c.in_ok-format.ensures.ok (simp append_assoc (rw (c.in_ok-root.ensures, c.text-name.ensures.text, c.in_ok-history.ensures) refl)) in
    whole ∙ sym (lines_flat m)
