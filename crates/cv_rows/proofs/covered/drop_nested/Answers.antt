use Rattle.std.proofs.Common.{not, rules}
use Rattle.std.proofs.lemmas.Fn.{filter_same}
use Rattle.cv_base.specs.Path.{covers}
use Rattle.cv_rows.proofs.covered.drop_nested.Goals as goal

pub returns : goal.returns
returns c = filter_same _ (λ n. not (covers c.args.path.now n.path)) _ (λ x b f called. search rules) _ _ c.retain.ensures.filtered
