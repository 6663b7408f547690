use Rattle.std.proofs.Common.{not, rules}
use Rattle.std.specs.BTreeSet.{contains}
use Rattle.std.proofs.lemmas.Fn.{filter_same}
use Rattle.cv_base.specs.BytesOrder.{bytes_cmp}
use Rattle.cv_rows.proofs.covered.drop_rows.Goals as goal

pub returns : goal.returns
returns c = filter_same _ (λ r. not (contains bytes_cmp c.args.keys.now r.key.0)) _ (λ x b f called. search rules) _ _ c.retain.ensures.filtered
