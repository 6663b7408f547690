-- the words are those that the arguments give behind the first
use Rattle.std.proofs.Common.{◌∙◌, ap}
use Rattle.std.proofs.lemmas.Iterator.{items_from_collect}
use Rattle.std.proofs.lemmas.Iterator.Adapters.{YieldsList-from_skip, YieldsList-from_vec}
use Rattle.std.specs.Vec.Iter.{into_iter_items, into_iter_len}
use Rattle.cv_real.proofs.texts.behind_first.Goals as goal

pub returns : goal.returns
returns c =
    let from = c.skip.ensures.source in
    items_from_collect _ c.collect.ensures.ran
    (YieldsList-from_skip 1 (YieldsList-from_vec _ (ap into_iter_items from) (ap into_iter_len from ∙ c.args.arguments.rest.ok.0)) c.skip.ensures.count)
