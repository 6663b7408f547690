use Rattle.std.proofs.Common.{List, ◌++◌, sym, subst, rules}
use Rattle.std.specs.Prelude.{Contains}
use Rattle.std.proofs.lemmas.Fn.{filter_same}
use Rattle.cv_rows.specs.declared.row.Row.{Row}
use Rattle.cv_rows.proofs.Lemmas.{lacks, lacking_there, lacking_back}
use Rattle.cv_rows_tests.proofs.parts.lacking.Goals as goal

pub returns-clause-there : goal.returns-clause-there
returns-clause-there c = λ r has.
    let left = c.args.catalogue.now.rows in
    subst (λ (more : List Row). Contains (left ++ more) r) (sym (filter_same _ (lacks left) _ (λ x b f called. search rules) _ _ c.retain.ensures.filtered)) (lacking_there c.args.rows.items left c.requires.sorted c.requires.within r has)

pub returns-clause-back : goal.returns-clause-back
returns-clause-back c = λ r has.
    let left = c.args.catalogue.now.rows in
    lacking_back c.args.rows.items left c.requires.within r (subst (λ (more : List Row). Contains (left ++ more) r) (filter_same _ (lacks left) _ (λ x b f called. search rules) _ _ c.retain.ensures.filtered) has)
