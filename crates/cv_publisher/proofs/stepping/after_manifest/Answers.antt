use Rattle.std.proofs.Common.{◌≡◌, ◌∙◌, ℕ, List, refl, ap, subst, arith, inl, inr}
use Rattle.cv_manifest.specs.Fault.{Shows}
use Rattle.cv_manifest.specs.Manifest.{Says}
use Rattle.cv_publisher.specs.Taking.{manifest_bad, manifest_lost, manifest_read}
use Rattle.cv_publisher.specs.declared.stage.Stage.TheVariants.{Cancelling}
use Rattle.cv_publisher.specs.declared.stepping.Step.{Step}
use Rattle.cv_publisher.proofs.stepping.after_manifest.Goals as goal

pub returns-in-Ok-clause-after : goal.returns-in-Ok-clause-after
returns-in-Ok-clause-after g c =
    let code : c.args.reply.now.code ≡ 200 = omega arith in
    let says : Says (g.S.Signer.is_seal c.args.signer.now) c.args.reply.now.body c.in-Ok.manifest =
    subst (λ (b : List ℕ). Says (g.S.Signer.is_seal c.args.signer.now) b c.in-Ok.manifest) c.as_slice.ensures c.in-Ok.ensures.value in
    elim c.begun-stage.ensures.stage [
      | inl is ↦ manifest_read c.in-Ok.manifest code says refl is
      | inr lost ↦ manifest_lost c.in-Ok.manifest code says refl lost
    ]

pub returns-in-Err-clause-after : goal.returns-in-Err-clause-after
returns-in-Err-clause-after g c =
    let code : c.args.reply.now.code ≡ 200 = omega arith in
    let shows : Shows (g.S.Signer.is_seal c.args.signer.now) c.args.reply.now.body c.in-Err.fault =
    subst (λ (b : List ℕ). Shows (g.S.Signer.is_seal c.args.signer.now) b c.in-Err.fault) c.as_slice.ensures c.in-Err.ensures.fault in
    manifest_bad c.in-Err.fault code shows (ap (λ (s : Step). s.read) c.unserved-in-Err.ensures)
    (ap (λ (s : Step). s.stage) c.unserved-in-Err.ensures ∙ ap (Cancelling c.args.token) c.of_manifest.ensures)
