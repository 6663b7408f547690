-- What a dial in memory holds.
use Rattle.std.specs.Prelude.{◌≡◌, [], ◌∷◌, List, Option, Some}
use Rattle.cv_ports.specs.Calls.{Calls}
use Rattle.cv_ports.specs.Dial.{Came, Event, Opened, Back, Story, came_of}
use Rattle.cv_ports.specs.Memory.{SourceView, SinkView}
use Rattle.cv_ports.specs.declared.link.Link.{Link}
use Rattle.cv_ports.specs.declared.memory_link.MemoryLink.{MemoryLink}

-- the links that it will give, in their order, those that came back, in theirs, what it tells of both, and its calls
pub record DialView : Type 0 where
  pub waiting : List MemoryLink
  pub came : List (Link SourceView SinkView)
  pub events : List Event
  pub calls : Calls

-- a link in memory as it comes back
abbrev pub came_in_memory : Link SourceView SinkView → Came
came_in_memory = came_of (λ reads. Some reads.given) (λ reads. Some reads.left) (λ writes. Some writes.taken) (λ writes. Some writes.passed)

-- the links that came back, of what was told
abbrev pub backs_of : List Event → List Came
backs_of [] = []
backs_of (Opened host port ∷ events) = backs_of events
backs_of (Back came ∷ events) = came ∷ backs_of events

-- what a dial tells
abbrev pub told_of : DialView → Option Story
told_of dial = Some (record { dials = dial.calls.count; events = dial.events })

-- these halves are those of the first link that was to be given
abbrev pub GivesFirst : SourceView → SinkView → List MemoryLink → List MemoryLink → Type 0
GivesFirst reads writes before after = (link : MemoryLink) × (before ≡ link ∷ after) × (reads ≡ link.reads) × (writes ≡ link.writes)
