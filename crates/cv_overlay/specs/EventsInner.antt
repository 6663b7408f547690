-- The walk of a directory as a list of events: its items, and the walks of the directories among them.
use Rattle.std.specs.Prelude.{ℕ, ◌+◌, Bool, List, [], ◌∷◌, ◌++◌, if◌then◌else◌, zero, suc}
use Rattle.std.specs.Ordering.{is_lt}
use Rattle.cv_base.specs.Path.{Path, with_slash}
use Rattle.cv_base.specs.BytesOrder.{bytes_cmp}
use Rattle.cv_ports.specs.declared.folder.FolderItem.{FolderItem}
use Rattle.cv_ports.specs.Folder.{FolderView}
use Rattle.cv_overlay.specs.declared.event.Event.{Event}
use Rattle.cv_overlay.specs.declared.event.Event.TheVariants.{Item, Below}
use Rattle.cv_overlay.specs.Walk.{Visit, is_dir, takes}

-- what an event is ordered by
abbrev pub key_of : Event → List ℕ
key_of (Item item) = item.name
key_of (Below name) = with_slash name

-- the walk of a directory comes before an event
abbrev pub goes_before : List ℕ → Event → Bool
goes_before key e = is_lt (bytes_cmp key (key_of e))

-- how many of the events come before that walk
abbrev pub place_in : List ℕ → List Event → ℕ
place_in key [] = 0
place_in key (e ∷ es) = if goes_before key e then 0 else 1 + place_in key es

-- the walk of the directory of this name put among events
abbrev pub put_below : List ℕ → List Event → List Event
put_below name [] = Below name ∷ []
put_below name (e ∷ es) = if goes_before (with_slash name) e then Below name ∷ e ∷ es else e ∷ put_below name es

-- an item before the events of those behind it
abbrev pub placed : FolderItem → List Event → List Event
placed item es = Item item ∷ (if is_dir item.kind then put_below item.name es else es)

abbrev pub placed_all : List FolderItem → List Event → List Event
placed_all [] es = es
placed_all (item ∷ items) es = placed item (placed_all items es)

-- the visits of the events of a directory, where `deeper` has those of the directories in it
abbrev pub visits_of : (Path → List Visit) → Path → Path → List Event → List Visit
visits_of deeper at p [] = []
visits_of deeper at p (Item item ∷ es) = record { above = p; item = item } ∷ visits_of deeper at p es
visits_of deeper at p (Below name ∷ es) = (if takes (at ++ p) name then deeper (p ++ name ∷ []) else []) ++ visits_of deeper at p es

-- the visits below a directory, so many levels deep
unfoldable pub visits_deep : ℕ → FolderView → Path → Path → List Visit
visits_deep zero f at p = []
visits_deep (suc depth) f at p = visits_of (visits_deep depth f at) at p (placed_all (f.items p) [])
