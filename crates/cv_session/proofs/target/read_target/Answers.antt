use Rattle.std.proofs.Common.{◌≡◌, ◌≢◌, sym, ◌∙◌, rules}
use Rattle.cv_manifest.specs.Manifest.{manifest_name}
use Rattle.cv_session.proofs.Targeting.{not_same, names_manifest, names_object, names_nothing}
use Rattle.cv_session.proofs.target.read_target.Goals as goal

pub returns-then-eq : goal.returns-then-eq
returns-then-eq c =
    let same : c.in_ok-file.file.now ≡ manifest_name = search (rules, c.eq.ensures, c.as_bytes.ensures.value) in
    names_manifest _ _ c.in_ok-file.file.now c.in_ok-file.ensures same

pub returns-in_err-id : goal.returns-in_err-id
returns-in_err-id c =
    let other : c.in_ok-file.file.now ≢ manifest_name =
    let apart = not_same _ _ _ c.eq.ensures c.if-eq.false in λ same. apart (same ∙ sym c.as_bytes.ensures.value) in
    rw c.from_residual-in_err-id.ensures
    (names_nothing _ _ c.in_ok-file.file.now c.in_ok-file.ensures other
    (λ id digest is. let some = c.read_file_name.ensures.found id digest is in let none = c.in_err-id.was in cc))

pub returns : goal.returns
returns c = names_object _ _ c.in_ok-file.file.now c.in_ok-file.ensures c.in_ok-id.id c.in_ok-id.ensures.digest c.in_ok-id.ensures.value
