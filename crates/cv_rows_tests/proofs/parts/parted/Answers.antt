use Rattle.std.proofs.Common.{rules}
use Rattle.std.proofs.lemmas.Fn.{filter_same}
use Rattle.cv_base.specs.Path.{covers}
use Rattle.cv_rows.proofs.Lemmas.{left_there, parts_again}
use Rattle.cv_rows_tests.proofs.parts.parted.Goals as goal

pub lacking-rows-requires-clause-within : goal.lacking-rows-requires-clause-within
lacking-rows-requires-clause-within c =
    left_there c.in_ok-whole.whole c.in-Ok.left c.args.path.now c.root-at.result c.in_ok-whole.rows.items c.in_ok-whole.nested.items c.in-Ok.ensures.left c.in_ok-whole.ensures.parts

pub returns : goal.returns
returns c =
    parts_again c.in_ok-whole.whole c.in-Ok.left c.args.path.now c.root-at.result c.in_ok-whole.rows.items c.lacking-rows.result.items c.in_ok-whole.nested.items c.retain.new.self.items c.in_ok-whole.ensures.is c.in-Ok.ensures.left c.in_ok-whole.ensures.parts c.lacking-rows.ensures.there
    c.lacking-rows.ensures.back (filter_same _ (λ n. covers c.args.path.now n.path) _ (λ x b f called. search rules) _ _ c.retain.ensures.filtered)
