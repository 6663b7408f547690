-- Where a node stands in each lane. This file alone knows how many lanes there are. What only this crate's own functions say.
use Rattle.std.specs.Prelude.{Option}
use Rattle.cv_links.specs.declared.id.Id.{Id}
use Rattle.cv_links.specs.declared.lane.Lane.{Lane}
use Rattle.cv_links.specs.declared.lane.Lane.TheVariants.{Tree, Time}
use Rattle.cv_links.specs.declared.links.Link.{Link}
use Rattle.cv_links.specs.declared.links.Link.TheVariants.{Free, Held}
use Rattle.cv_links.specs.declared.links.Links.{Links}

abbrev pub with_link : Links → Lane → Link → Links
with_link links Tree link = record links { tree = link }
with_link links Time link = record links { time = link }

abbrev pub with_before : Option Id → Link → Link
with_before before Free = Free
with_before before (Held _ after) = Held before after

abbrev pub with_after : Option Id → Link → Link
with_after after Free = Free
with_after after (Held before _) = Held before after
