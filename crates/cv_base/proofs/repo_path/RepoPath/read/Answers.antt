use Rattle.cv_base.proofs.PathGrammar.{grammar, found}
use Rattle.cv_base.proofs.repo_path.RepoPath.read.Goals as goal

pub returns-clause-grammar : goal.returns-clause-grammar
returns-clause-grammar c =
    grammar c.args.text.now c.read_bare.result (rw c.without_last_slash.ensures at c.read_bare.ensures)

pub returns-clause-found : goal.returns-clause-found
returns-clause-found c =
    found c.args.text.now c.read_bare.result (rw c.without_last_slash.ensures at c.read_bare.ensures)
