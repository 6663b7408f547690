-- What the root of the tree afterwards means, where the catalogues that were made stand on the shelf.
use Rattle.std.proofs.Common.{◌≡◌, ℕ, true, false, List, Some, None, refl, sym, ◌∙◌}
use Rattle.std.specs.Prelude.{Contains}
use Rattle.std.specs.FinMap.{get}
use Rattle.sha1.specs.Sha1.{sha1}
use Rattle.cv_base.specs.Path.{Path, behind, overlap}
use Rattle.cv_base.specs.declared.attr.Attr.{Attr}
use Rattle.cv_base.specs.ObjectId.{object_id}
use Rattle.cv_base.specs.declared.id.Kind.TheVariants.{Catalogue}
use Rattle.cv_ports.specs.Shelf.{Shelf, HasMore}
use Rattle.cv_tree.specs.Tree.{Nodes, IsTree, at, put}
use Rattle.cv_tree.specs.Changes.{has_place}
use Rattle.cv_tree.specs.declared.node.FileRef.{FileRef}
use Rattle.cv_tree.specs.declared.node.Node.TheVariants.{File}
use Rattle.cv_tree.proofs.Laws.{at_rest, at-put_apart, get-put}
use Rattle.cv_cut.specs.Above.{cuts_above}
use Rattle.cv_cut.specs.Catalogues.{cat, root_of, Fits}
use Rattle.cv_cut.specs.Cuts.{is_cut}
use Rattle.cv_cut.specs.Means.{Means, HasContentOf}
use Rattle.cv_cut.specs.Replaced.{FitsOver, IsSound}
use Rattle.cv_cut.proofs.Fitting.{moved_sound, sound_fits, was_sound}
use Rattle.cv_cut.proofs.Grafts.{Means-more, Means-put, cut_covers, cut_same, there_too}

pub means_after : (shelf more : Shelf) (hash other : List ℕ) (t n : Nodes) (p : Path) → Means shelf hash t → Means shelf other n → has_place t p ≡ true → Fits (put t p (at n p)) → HasMore shelf more
    → ((c : Path) → Contains (cuts_above (put t p (at n p)) p) c → more (object_id (sha1 (cat (put t p (at n p)) c)) Catalogue) ≡ Some (cat (put t p (at n p)) c))
    → Means more (root_of (put t p (at n p))) (put t p (at n p))
means_after shelf more hash other t n p mt mn place fits has made =
    Means-put more hash other t n p (Means-more shelf more hash t has mt) (Means-more shelf more other n has mn) place fits
    (λ c cut covered out. made c (cut_covers (put t p (at n p)) c p cut covered out))

-- a part is set: what fits over its path does so everywhere
fits_with : (t s : Nodes) (p : Path) → Fits t → FitsOver (put t p s) p → Fits (put t p s)
fits_with t s p fits over = sound_fits (put t p s) sound
  where
    sound : (c : Path) → is_cut (put t p s) c ≡ true → IsSound (Unit {0}) (put t p s) c
    sound c cut =
        elim (overlap p c) as (λ b. overlap p c ≡ b → IsSound (Unit {0}) (put t p s) c) [
          | true ↦ λ e. record { keys = over.keys c cut e; fits = λ _ full. over.limits c cut e full }
          | false ↦ λ e.
              let same = at-put_apart t p c s e in
              moved_sound (Unit {0}) t (put t p s) c (sym same) cut (was_sound (Unit {0}) t c fits (sym (cut_same (put t p s) t c same) ∙ cut))
        ] refl

-- on a shelf that has the catalogues at its path, above and below, and the contents of its files, the new root means the new tree
pub part_means : (shelf : Shelf) (hash : List ℕ) (t s : Nodes) (p : Path) → Means shelf hash t → IsTree (put t p s) → FitsOver (put t p s) p
    → ((c : Path) → is_cut (put t p s) c ≡ true → overlap p c ≡ true → shelf (object_id (sha1 (cat (put t p s) c)) Catalogue) ≡ Some (cat (put t p s) c))
    → ((q : Path) (attr : Attr) (file : FileRef) → get s q ≡ Some (File attr file) → HasContentOf shelf file) → Means shelf (root_of (put t p s)) (put t p s)
part_means shelf hash t s p means tree over made files = record {
  tree = tree;
  fits = fits_with t s p means.fits over;
  root = refl;
  catalogues = λ c cut.
      elim (overlap p c) as (λ b. overlap p c ≡ b → shelf (object_id (sha1 (cat (put t p s) c)) Catalogue) ≡ Some (cat (put t p s) c)) [
        | true ↦ λ e. made c cut e
        | false ↦ λ e. there_too shelf t (put t p s) c (at-put_apart t p c s e) means.catalogues cut
      ] refl;
  files = λ q attr file is.
      elim (behind p q) as (λ o. at_rest o (get s) (get t q) ≡ Some (File attr file) → HasContentOf shelf file) [
        | None ↦ λ there. means.files q attr file there
        | Some r ↦ λ there. files r attr file there
      ] (sym (get-put t p s q) ∙ is);
}
