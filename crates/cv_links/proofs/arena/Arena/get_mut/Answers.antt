use Rattle.std.proofs.Common.{refl}
use Rattle.cv_links.proofs.Lists.{lists_with_value}
use Rattle.cv_links.proofs.arena.Arena.get_mut.Goals as goal

pub returns : goal.returns
returns g c = (
  (refl, λ w. rw c.index_mut-node.ensures.value refl),
  record {
    writes_back = tt;
    value = rw c.index_mut-node.ensures.value refl;
    lists = λ value. lists_with_value c.args.self.now c.args.id c.index_mut-node.result.now value c.index_mut-node.ensures.value;
  },
)
