use Rattle.std.proofs.Common.{◌≡◌, inl, string_bytes, arith}
use Rattle.std.proofs.lemmas.Grind.{common_steps}
use Rattle.cv_base.specs.Path.{text_of}
use Rattle.cv_base.proofs.PathGrammar.{path_of-Spells}
use Rattle.cv_base.proofs.repo_path.RepoPath.text.Goals as goal

pub returns-clause-reads_back : goal.returns-clause-reads_back
returns-clause-reads_back c =
    let spelt : string_bytes c.loop-name.text ≡ text_of c.args.self.now = grind (arith, common_steps) in
    path_of-Spells (string_bytes c.loop-name.text) c.args.self.now (rw c.self.view_is at c.self.invariant) (inl spelt)
