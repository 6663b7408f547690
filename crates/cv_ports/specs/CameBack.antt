-- What a dial in memory keeps of its links, in their order.
use Rattle.std.specs.Prelude.{◌++◌, [], ◌∷◌, List}
use Rattle.cv_ports.specs.Dial.{Event, Opened as opened, Back as back}
use Rattle.cv_ports.specs.Memory.{SourceView, SinkView}
use Rattle.cv_ports.specs.MemoryDial.{came_in_memory}
use Rattle.cv_ports.specs.declared.link.Link.{Link}
use Rattle.cv_ports.specs.declared.came_back.CameBack.{CameBack, Nothing, Opened', Back'}

-- the links that came back, the last one at the end
abbrev pub links_of : CameBack → List (Link SourceView SinkView)
links_of Nothing = []
links_of (Opened' host port place before) = links_of before
links_of (Back' link place before) = links_of before ++ link ∷ []

-- and with them those that were opened
abbrev pub events_of : CameBack → List Event
events_of Nothing = []
events_of (Opened' host port place before) = events_of before ++ opened host port ∷ []
events_of (Back' link place before) = events_of before ++ back (came_in_memory link) ∷ []
