use Rattle.std.proofs.Common.{arith, ◌∷◌, ap, length}
use Rattle.std.proofs.lemmas.List.Folds.{length-flat_map-take}
use Rattle.cv_base.specs.Path.{text_of}
use Rattle.cv_base.proofs.repo_path.RepoPath.text_len.Goals as goal

pub overflow_add-len-in-loop-name : goal.overflow_add-len-in-loop-name
overflow_add-len-in-loop-name c =
    let fits = length-flat_map-take (λ name. 47 ∷ name) c.deref-name-items.result.now c.loop-name.name-index c.name-item.result c.loop-name-test.true in
    omega (arith, fits, ap length c.as_str.ensures, ap length c.name-item.is, ap length (ap text_of c.deref-name-items.ensures.value), c.self.invariant.size)
