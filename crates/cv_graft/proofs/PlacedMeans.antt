-- What the root of a tree means in which a part was set, where the catalogues that were made stand on the shelf.
use Rattle.std.proofs.Common.{◌≡◌, true, false, List, ◌++◌, map, reverse, refl}
use Rattle.std.specs.Prelude.{ℕ, Contains}
use Rattle.std.proofs.lemmas.List.Elements.{Contains-append_left, Contains-append_right}
use Rattle.std.proofs.lemmas.List.Sorted.{Contains-permutation, IsPermutation-reverse}
use Rattle.cv_base.specs.Path.{Path, covers, overlap}
use Rattle.cv_base.specs.declared.object.Object.{Object}
use Rattle.cv_base.proofs.Laws.{second_covers}
use Rattle.cv_ports.specs.Shelf.{Shelf, HasMore}
use Rattle.cv_tree.specs.Tree.{Nodes, IsTree, put}
use Rattle.cv_cut.specs.Above.{cuts_above}
use Rattle.cv_cut.specs.Catalogues.{root_of}
use Rattle.cv_cut.specs.Cut.{catalogue_object}
use Rattle.cv_cut.specs.Cuts.{is_cut, cuts_of}
use Rattle.cv_cut.specs.Means.{Means}
use Rattle.cv_cut.specs.Piece.{cuts_within}
use Rattle.cv_cut.specs.Replaced.{FitsOver}
use Rattle.cv_cut.proofs.Lemmas.{Means-more, cut_covers, cut_of_tree, goes_to, part_means, passing}
use Rattle.cv_graft.specs.Placed.{HasContentsOf, HasObjects, placed_of}

-- the catalogue of one of these cuts is among those that were made
made_of : (t : Nodes) (ds : List Path) (c : Path) → Contains ds c → Contains (map (catalogue_object t) (reverse ds)) (catalogue_object t c)
made_of t ds c has = goes_to (catalogue_object t) (reverse ds) c (Contains-permutation ds (reverse ds) c (IsPermutation-reverse ds) has)

-- so are those of all cuts at the path, above it and below it
added_all : (t : Nodes) (p c : Path) → IsTree t → is_cut t c ≡ true → overlap p c ≡ true → Contains (placed_of t p).added (catalogue_object t c)
added_all t p c tree cut over =
    let below : List Object = map (catalogue_object t) (reverse (cuts_within t p)) in
    let higher : List Object = map (catalogue_object t) (reverse (cuts_above t p)) in
    elim (covers p c) as (λ b. covers p c ≡ b → Contains (below ++ higher) (catalogue_object t c)) [
      | true ↦ λ inside. Contains-append_left below higher _ (made_of t (cuts_within t p) c (passing (λ x. covers p x) (cuts_of t) c (cut_of_tree t c tree cut) inside))
      | false ↦ λ out. Contains-append_right below higher _ (made_of t (cuts_above t p) c (cut_covers t c p cut (second_covers p c out over) out))
    ] refl

pub placed_means : (shelf more : Shelf) (hash : List ℕ) (t s : Nodes) (p : Path) → Means shelf hash t → IsTree (put t p s) → FitsOver (put t p s) p → HasMore shelf more → HasObjects more (placed_of (put t p s) p).added → HasContentsOf more s
    → Means more (root_of (put t p s)) (put t p s)
placed_means shelf more hash t s p means tree over has objects contents =
    part_means more hash t s p (Means-more shelf more hash t has means) tree over
    (λ c cut above. objects.each (catalogue_object (put t p s) c) (added_all (put t p s) p c tree cut above)) contents.each
