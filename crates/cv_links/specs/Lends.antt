-- What an arena ends as, where a `&mut` to one of its values is returned.
use Rattle.std.specs.Prelude.{Option, Some, None, slice_set}
use Rattle.std.specs.Borrow.{Lends, Fml, RattleType, MutBor}
use Rattle.slab.specs.Slab.{get}
use Rattle.cv_links.specs.declared.id.Id.{Id}
use Rattle.cv_links.specs.declared.node.Node.{Node}
use Rattle.cv_links.specs.declared.arena.Arena.{Arena}
use Rattle.cv_links.specs.contracts.arena.Arena.{the_row}

-- a node with another value, which stands where it stood
abbrev pub revalued : {T : Type 0} → Option (Node T) → T → Option (Node T)
revalued None value = None
revalued (Some node) value = Some (record node { value = value })

-- the arena after a write through `get_mut(id)`
abbrev pub with_value : {T : Type 0} → Arena T → Id → T → Arena T
with_value arena id value = record arena {
  nodes = record arena.nodes { slots = slice_set arena.nodes.slots id.place (revalued (get arena.nodes id.place) value) };
}

-- once the borrow r ends, the id has the last value written through r, and all links are as before
abbrev pub lends_value : (T : RattleType) (arena : MutBor (Arena T.Denot)) (id : Id) → MutBor T.Denot → Fml
lends_value T arena id r = Lends (the_row T) T arena r (with_value arena.now id)
