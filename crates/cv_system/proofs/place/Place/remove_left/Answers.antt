use Rattle.std.proofs.Common.{◌∙◌, ◌++◌, List, ℕ, ap, codes, inr}
use Rattle.cv_system.proofs.place.Place.remove_left.Goals as goal

pub returns-clause-calls : goal.returns-clause-calls
returns-clause-calls g c =
    let entry = c.as_str-2.ensures.path ∙ (rw c.if-not-set.false at c.set.ensures.path) ∙ ap (λ (folder : List ℕ). folder ++ codes ".cvkit-next") c.as_str.ensures.path in
    inr (_, rw entry at c.remove_file.ensures)
