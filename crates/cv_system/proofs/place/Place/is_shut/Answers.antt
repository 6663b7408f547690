use Rattle.std.proofs.Common.{◌∙◌, ◌++◌, List, ℕ, ap, codes}
use Rattle.cv_system.proofs.Passing.{open_so, shut_so}
use Rattle.cv_system.proofs.place.Place.is_shut.Goals as goal

pub returns-clause-open : goal.returns-clause-open
returns-clause-open g c = λ told.
    let entry = c.as_str-2.ensures.path ∙ (rw c.if-not-set.false at c.set.ensures.path) ∙ ap (λ (folder : List ℕ). folder ++ codes ".") c.as_str.ensures.path in
    open_so c.args.self.now.folder c.as_str-2.result.now entry _ _ c.seen.result (λ refused. let never = c.tells_shut.ensures.1 refused in cc) c.seen.ensures

pub returns-clause-shut : goal.returns-clause-shut
returns-clause-shut g c = λ told.
    let entry = c.as_str-2.ensures.path ∙ (rw c.if-not-set.false at c.set.ensures.path) ∙ ap (λ (folder : List ℕ). folder ++ codes ".") c.as_str.ensures.path in
    shut_so c.args.self.now.folder c.as_str-2.result.now entry _ _ c.seen.result (c.tells_shut.ensures.0 told) c.seen.ensures
