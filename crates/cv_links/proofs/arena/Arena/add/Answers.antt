use Rattle.std.proofs.Common.{option_map, ap}
use Rattle.cv_links.specs.Links.{link_in}
use Rattle.cv_links.proofs.Lists.{kept_but, ids_apart}
use Rattle.cv_links.proofs.arena.Arena.add.Goals as goal

pub returns-in-Ok-clause-lists : goal.returns-in-Ok-clause-lists
returns-in-Ok-clause-lists g c =
    kept_but c.args.self.now _ (record { place = c.in-Ok.place })
    (λ lane b a e. let none = rw c.in-Ok.ensures.was_vacant at e in absurd (cc))
    (λ lane i d. ap (option_map (λ node. link_in node.links lane)) (c.in-Ok.ensures.updates.others i.place (ids_apart i (record { place = c.in-Ok.place }) d)))
