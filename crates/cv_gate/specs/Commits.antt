-- What a commit makes.
use Rattle.std.specs.Prelude.{◌≡◌, ◌≢◌, ℕ, ◌+◌, Bool, ◌&&◌, nat_le, bytes_eq, List, [], ◌∷◌, map, reverse, Option, Some}
use Rattle.std.specs.List.{find, list_any}
use Rattle.sha1.specs.Sha1.{sha1}
use Rattle.cv_base.specs.declared.object.Object.{Object}
use Rattle.cv_tree.specs.Tree.{Nodes, at, put}
use Rattle.cv_cut.specs.Catalogues.{root_of}
use Rattle.cv_cut.specs.Cut.{catalogue_object}
use Rattle.cv_cut.specs.Above.{cuts_above}
use Rattle.cv_history.specs.Record.{record_bytes}
use Rattle.cv_leases.specs.declared.lease.Lease.{Lease}
use Rattle.cv_swap.specs.Kept.{Revision, record_object}

-- the root is that of a revision from this one on
abbrev pub is_base : List Revision → ℕ → List ℕ → Bool
is_base history from root = list_any (λ r. nat_le from r.record_.revision && bytes_eq r.record_.root root) history

-- the revision that has the tag
abbrev pub tagged : List ℕ → List Revision → Option Revision
tagged tag history = find (λ r. bytes_eq r.record_.tag tag) history

-- a revision has the tag, which isn't empty
abbrev pub IsTaken : List Revision → List ℕ → Revision → Type 0
IsTaken history tag r = (tag ≢ []) × (tagged tag history ≡ Some r)

-- the revision that a commit of the offered tree n, with this root and tag, makes under a lease at a moment: its tree is
-- the newest one, with what stands at the lease's path in the offered tree
abbrev pub committed : ℕ → Revision → Lease → Nodes → List ℕ → List ℕ → Revision
committed now head lease n new_root tag =
    let t : Nodes = put head.tree lease.path (at n lease.path) in
    record {
      record_ = record {
        revision = head.record_.revision + 1;
        previous = sha1 (record_bytes head.record_);
        root = root_of t;
        offered = new_root;
        token = lease.token;
        path = lease.path;
        key = lease.key;
        time = now;
        tag = tag;
      };
      tree = t;
    }

-- the objects that a commit makes: the record, and the catalogues of the cuts properly above the path, those
-- nested in another before it
abbrev pub made : Revision → List Object
made new = record_object new ∷ map (catalogue_object new.tree) (reverse (cuts_above new.tree new.record_.path))
