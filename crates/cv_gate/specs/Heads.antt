-- The heads of revisions.
use Rattle.std.specs.Prelude.{◌≡◌, ◌++◌, ◌-◌, List, length, drop, map, Option}
use Rattle.std.specs.List.{last_or}
use Rattle.std.specs.declared.option.Option.TheVariants.{None}
use Rattle.cv_manifest.specs.declared.head.Head.{Head}
use Rattle.cv_gate.specs.State.{State}
pub use Rattle.cv_swap.specs.Kept.{head_of}

-- the first list begins the second
pub record IsFront {T : Type 0} (front all : List T) : Type 0 where
  pub more : List T
  pub split : all ≡ front ++ more

-- the heads of a state's revisions, from that with which it was opened on
abbrev pub heads_since : State → State → List Head
heads_since start st = map head_of (drop (length start.history - 1) st.history)

-- the newest of these heads
abbrev pub last_head : List Head → Option Head
last_head heads = last_or None heads
