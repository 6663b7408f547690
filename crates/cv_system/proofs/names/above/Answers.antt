use Rattle.std.proofs.Common.{refl, ◌<◌, ◌≤◌, List, ℕ, length, subst, sym, ap, ◌∙◌, arith}
use Rattle.cv_system.specs.Names.{folder_of}
use Rattle.cv_system.proofs.LastParts.{without_slash_is, not_longer, folder_fits}
use Rattle.cv_system.proofs.names.above.Goals as goal

pub returns-clause-above : goal.returns-clause-above
returns-clause-above c = c.folder_of.ensures ∙ ap folder_of (ap (λ x. x.now) c.unwrap_or.ensures ∙ without_slash_is c.args.folder.now c.strip_suffix.result _ refl c.strip_suffix.ensures.cases)

pub returns-clause-fits : goal.returns-clause-fits
returns-clause-fits c = λ fits.
    let shorter : length c.unwrap_or.result.now ≤ length c.args.folder.now =
    subst (λ (t : List ℕ). length t ≤ length c.args.folder.now) (sym (ap (λ x. x.now) c.unwrap_or.ensures)) (not_longer c.args.folder.now c.strip_suffix.result _ refl c.strip_suffix.ensures.cases) in
    subst (λ (t : List ℕ). length t < 4096) (sym c.folder_of.ensures) (folder_fits c.unwrap_or.result.now (omega arith))
