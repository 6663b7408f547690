-- What a dial tells of its dials and of its links, and its count of faults.
use Rattle.std.specs.Prelude.{◌++◌, [], ◌∷◌, ℕ, List, Option, ◌||◌, nat_lt, if◌then◌else◌}
use Rattle.cv_base.specs.Counts.{raised}
use Rattle.cv_ports.specs.declared.link.Link.{Link}

-- a link that came back: where it led, and what it gave, has left, took and passed on, where that is told
pub record Came : Type 0 where
  pub host : List ℕ
  pub port : ℕ
  pub given : Option (List ℕ)
  pub left : Option (List ℕ)
  pub taken : Option (List ℕ)
  pub passed : Option (List ℕ)

-- a link as it comes back, by what its source and its sink tell
abbrev pub came_of : {R W : Type 0} → (given left : R → Option (List ℕ)) → (taken passed : W → Option (List ℕ)) → Link R W → Came
came_of given left taken passed link = record {
  host = link.host;
  port = link.port;
  given = given link.reads;
  left = left link.reads;
  taken = taken link.writes;
  passed = passed link.writes;
}

-- a link to a port of a host was opened, or one came back
pub data Event : Type 0 where
  Opened : (host : List ℕ) (port : ℕ) → Event
  Back : Came → Event

-- how many dials were made, so far as 64 bits can count, and which links were opened and came back, in their order
pub record Story : Type 0 where
  pub dials : ℕ
  pub events : List Event

-- a dial that failed
abbrev pub and_failed : Story → Story
and_failed s = record s { dials = raised s.dials }

-- a dial that opened a link to a port of a host
abbrev pub and_opened : List ℕ → ℕ → Story → Story
and_opened host port s = record { dials = raised s.dials; events = s.events ++ Opened host port ∷ [] }

-- a link that came back
abbrev pub and_back : Came → Story → Story
and_back c s = record s { events = s.events ++ Back c ∷ [] }

-- a dial's count after a link came back whose two counts are these
abbrev pub after_back : ℕ → ℕ → ℕ → ℕ
after_back reads writes count = if nat_lt 0 reads || nat_lt 0 writes then raised count else count
