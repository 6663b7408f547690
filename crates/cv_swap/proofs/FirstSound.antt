-- A first revision alone is sound, on a shelf with its objects.
use Rattle.std.proofs.Common.{◌≡◌, ◌<◌, ◌++◌, ℕ, zero, suc, true, false, cond, slice_index, replicate, List, [], ◌∷◌, map, reverse, refl, sym, ap, subst, ◌∙◌, arith}
use Rattle.std.specs.declared.option.Option.TheVariants.{None, Some}
use Rattle.std.specs.Ordering.{eq_by_cmp}
use Rattle.std.specs.List.{filter}
use Rattle.std.specs.FinMap.{empty, get, get-insert, get-empty}
use Rattle.sha1.specs.Sha1.{sha1}
use Rattle.cv_base.specs.Path.{Path, path_cmp}
use Rattle.cv_base.specs.ObjectId.{object_id}
use Rattle.cv_base.specs.declared.id.Kind.TheVariants.{Catalogue}
use Rattle.cv_base.proofs.Laws.{digest_sha1, no_target, path_total}
use Rattle.cv_ports.specs.Shelf.{Shelf, IsShelf}
use Rattle.cv_base.specs.Attr.{IsAttr, new_directory}
use Rattle.cv_base.specs.Moment.{IsMoment}
use Rattle.cv_tree.specs.Tree.{single}
use Rattle.cv_tree.specs.declared.node.Node.{Node}
use Rattle.cv_tree.specs.declared.node.Node.TheVariants.{Dir, File}
use Rattle.cv_tree.proofs.Laws.{IsTree-single}
use Rattle.cv_cut.specs.Catalogues.{cat, root_of}
use Rattle.cv_cut.specs.Cut.{catalogue_object}
use Rattle.cv_cut.specs.Cuts.{is_cut, cuts_of}
use Rattle.cv_cut.specs.Means.{Means}
use Rattle.cv_cut.proofs.Lemmas.{Fits-single, cut_single, entries_single}
use Rattle.cv_swap.specs.First.{first_tree, first_revision, first_batch}
use Rattle.cv_swap.specs.Kept.{record_object, AreSound}

-- ---- its tree

good_attr : (now : ℕ) → IsMoment now → IsAttr (new_directory now)
good_attr now limit = record { mode = omega arith; mtime = omega (arith, limit); uid = omega arith; gid = omega arith }

no_file : (m : Node) (q : Path) (n : Node) → get (single m) q ≡ Some n → n ≡ m
no_file m q n e =
    elim (eq_by_cmp path_cmp q []) as (λ b. cond b (Some m) None ≡ Some n → n ≡ m) [
      | true ↦ λ f. sym cc
      | false ↦ λ f. absurd cc
    ] (sym (get-insert path_total empty [] m q ∙ ap (cond (eq_by_cmp path_cmp q []) (Some m)) (get-empty path_cmp q)) ∙ e)

first_means : (s : Shelf) (now : ℕ) → IsMoment now → s (catalogue_object (first_tree now) []).id ≡ Some (cat (first_tree now) []) → Means s (root_of (first_tree now)) (first_tree now)
first_means s now limit there = record {
  tree = IsTree-single (new_directory now) (good_attr now limit);
  fits = Fits-single (new_directory now) (good_attr now limit);
  root = refl;
  catalogues = λ c cut. subst (λ (x : Path). s (object_id (sha1 (cat (first_tree now) x)) Catalogue) ≡ Some (cat (first_tree now) x)) (sym (cut_single (new_directory now) c (good_attr now limit) cut)) there;
  files = λ q a file is. (let other : File a file ≡ Dir (new_directory now) = no_file (Dir (new_directory now)) q (File a file) is in absurd cc);
}

-- ---- its objects

cuts_single : (m : Node) → cuts_of (single m) ≡ [] ∷ []
cuts_single m = ap (λ (es : List (Path × Node)). filter (is_cut (single m)) (map (λ e. e.0) es)) (entries_single m)

pub first_batch_is : (now : ℕ) → first_batch now ≡ catalogue_object (first_tree now) [] ∷ record_object (first_revision now) ∷ []
first_batch_is now = ap (λ (cs : List Path). map (catalogue_object (first_tree now)) (reverse cs) ++ record_object (first_revision now) ∷ []) (cuts_single (Dir (new_directory now)))

-- ---- its record

zeros : (n i : ℕ) → slice_index (replicate n 0) i < 256
zeros zero i = omega arith
zeros (suc n) zero = omega arith
zeros (suc n) (suc i) = zeros n i

pub first_sound : (s : Shelf) (now : ℕ) → IsMoment now → IsShelf s → s (catalogue_object (first_tree now) []).id ≡ Some (cat (first_tree now) [])
    → s (record_object (first_revision now)).id ≡ Some (record_object (first_revision now)).bytes → AreSound s (first_revision now ∷ [])
first_sound s now limit hashes catalogue there = record {
  hashes = hashes;
  line = (
    record {
      typed = record {
        previous = record { size = refl; bytes = zeros 20 };
        root = digest_sha1 _;
        offered = digest_sha1 _;
        epoch = omega arith;
        number = omega arith;
        path = record { names = refl; depth = omega arith; size = omega arith };
        key = no_target;
        tag = no_target;
      };
      limits = record {
        from_one = omega arith;
        revision = omega arith;
        key = omega arith;
        time = omega (arith, limit);
        tag = omega arith;
        tag_bytes = refl;
        first = λ one. record { previous = refl; offered = refl; epoch = refl; number = refl; path = refl; key = refl; tag = refl };
      };
      there = there;
      tree = first_means s now limit catalogue;
    },
    refl,
    tt,
  );
  revisions = omega arith;
  tags = (tt, tt);
}
