use Rattle.std.proofs.Common.{◌≡◌, ◌∙◌, rules, sym}
use Rattle.cv_real.proofs.ReadFiles.{innermost}
use Rattle.cv_real.proofs.ahead.ReadAhead.is_at.Goals as goal

pub returns-in-Some : goal.returns-in-Some
returns-in-Some g c is =
    let same : c.as_str.result.now ≡ c.args.folder.now = search rules in
    innermost _ c.in-Some.directory.now _ (rw c.deref.ensures.value at c.in-Some.ensures.item.1) (rw c.deref.ensures.value at c.in-Some.ensures.item.3.0) (sym c.as_str.ensures.value ∙ same)
