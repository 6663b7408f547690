-- Where a node stands in each lane. This file alone knows how many lanes there are.
use Rattle.cv_links.specs.declared.lane.Lane.{Lane}
use Rattle.cv_links.specs.declared.lane.Lane.TheVariants.{Tree, Time}
use Rattle.cv_links.specs.declared.links.Link.{Link}
use Rattle.cv_links.specs.declared.links.Links.{Links}

abbrev pub link_in : Links → Lane → Link
link_in links Tree = links.tree
link_in links Time = links.time
