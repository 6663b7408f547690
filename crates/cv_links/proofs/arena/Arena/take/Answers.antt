use Rattle.std.proofs.Common.{option_map, ap}
use Rattle.cv_links.specs.Links.{link_in}
use Rattle.cv_links.proofs.Lists.{kept_but, ids_apart}
use Rattle.cv_links.proofs.arena.Arena.take.Goals as goal

pub returns-clause-lists : goal.returns-clause-lists
returns-clause-lists g c =
    kept_but c.args.self.now _ c.args.id
    (λ lane b a e. let free = c.requires.free lane in absurd (cc))
    (λ lane i d. ap (option_map (λ node. link_in node.links lane)) (c.remove.ensures.updates.others i.place (ids_apart i c.args.id d)))
