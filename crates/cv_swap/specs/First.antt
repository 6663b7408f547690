-- The first revision.
use Rattle.std.specs.Prelude.{ℕ, List, [], ◌∷◌, ◌++◌}
use Rattle.cv_base.specs.declared.object.Object.{Object}
use Rattle.cv_tree.specs.Tree.{Nodes, single}
use Rattle.cv_tree.specs.declared.node.Node.TheVariants.{Dir}
use Rattle.cv_cut.specs.Catalogues.{root_of}
use Rattle.cv_cut.specs.Cut.{cut_of}
use Rattle.cv_base.specs.Attr.{new_directory}
use Rattle.cv_history.specs.Record.{no_hash}
use Rattle.cv_history.specs.declared.record.Record.{Record}
use Rattle.cv_swap.specs.Kept.{Revision, object_of}

-- a directory with nothing in it, made at a moment
abbrev pub first_tree : ℕ → Nodes
first_tree now = single (Dir (new_directory now))

-- the record of a first revision, with this root
abbrev pub first_record : List ℕ → ℕ → Record
first_record root now = record {
  revision = 1;
  previous = no_hash;
  root = root;
  offered = root;
  token = record { epoch = 0; number = 0 };
  path = [];
  key = [];
  time = now;
  tag = [];
}

abbrev pub first_revision : ℕ → Revision
first_revision now = record { record_ = first_record (root_of (first_tree now)) now; tree = first_tree now }

-- its objects: the catalogues of its tree, and its record
abbrev pub first_batch : ℕ → List Object
first_batch now = (cut_of (first_tree now)).catalogues ++ object_of (first_record (root_of (first_tree now)) now) ∷ []
