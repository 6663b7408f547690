-- A part that is set at the root: the whole tree.
use Rattle.std.proofs.Common.{◌≡◌, true, List, [], ◌++◌, map, reverse, None, Result, Ok, Err, false, refl, sym, ap, subst, ◌∙◌, append-nil}
use Rattle.std.specs.declared.option.Option.{Option}
use Rattle.std.specs.FinMap.{get, get-empty}
use Rattle.cv_base.specs.Path.{Path, path_cmp}
use Rattle.cv_base.specs.declared.object.Object.{Object}
use Rattle.cv_tree.specs.Tree.{Nodes, is_directory, put}
use Rattle.cv_tree.specs.Changes.{IsTreeAtRoot, nodes_of}
use Rattle.cv_cut.specs.Catalogues.{Fits, SharesKey, IsFull}
use Rattle.cv_cut.specs.Cut.{catalogue_object, cut_of}
use Rattle.cv_cut.specs.Cuts.{cuts_of}
use Rattle.cv_cut.specs.Piece.{cuts_within}
use Rattle.cv_cut.specs.declared.tree_cut.Cut.{Cut}
use Rattle.cv_cut.specs.declared.cut_fault.CutFault.{CutFault}
use Rattle.cv_cut.specs.declared.cut_fault.CutFault.TheVariants as cut
use Rattle.cv_cut.proofs.Lemmas.{put_whole, region_apart, within_root}
use Rattle.cv_graft.specs.Placed.{Places, of_cut}
use Rattle.cv_graft.specs.declared.grafted.Grafted.{Grafted}
use Rattle.cv_graft.specs.declared.graft_fault.GraftFault.{GraftFault}

pub whole_made : (s u : Nodes) (c : Cut) → u ≡ s → Fits u → c ≡ cut_of u → Places s [] (Ok (record { root = c.root; size = c.size; added = c.catalogues }))
whole_made s u c same fits is =
    let objects : map (catalogue_object u) (reverse (cuts_of u)) ≡ map (catalogue_object u) (reverse (cuts_within u [])) ++ [] =
    ap (λ (ds : List Path). map (catalogue_object u) (reverse ds)) (sym (within_root u)) ∙ sym (append-nil _) in
    subst (λ (w : Nodes). Places w [] (Ok (record { root = c.root; size = c.size; added = c.catalogues }))) same (
      record { keys = λ d is_cut_ over. region_apart u d is_cut_ fits.apart; limits = λ d is_cut_ over full. fits.limits d full },
      ap (λ (x : Cut). record { root = x.root; size = x.size; added = x.catalogues }) is ∙ ap (λ (l : List Object). record { root = (cut_of u).root; size = (cut_of u).size; added = l }) objects,
    )

pub whole_fault : (s u : Nodes) (f : CutFault) → u ≡ s → ((p q : Path) → f ≡ cut.PathCollision p q → SharesKey u p q) → ((c : Path) → f ≡ cut.CatalogueFull c → IsFull u c × ((p q : Path) → SharesKey u p q → ⊥)) → Places s [] (Err (of_cut f))
whole_fault s u f same shares full = subst (λ (w : Nodes). Places w [] (Err (of_cut f))) same (of f shares full)
  where
    of : (f : CutFault) → ((p q : Path) → f ≡ cut.PathCollision p q → SharesKey u p q) → ((c : Path) → f ≡ cut.CatalogueFull c → IsFull u c × ((p q : Path) → SharesKey u p q → ⊥)) → Places u [] (Err (of_cut f))
    of (cut.PathCollision a b) shares full = record { shares = shares a b refl; over = refl }
    of (cut.CatalogueFull c) shares full = let h = full c refl in record { full = h.0; over = refl; keys = λ d is_cut_ over. region_apart u d is_cut_ h.1 }
    of cut.NoMemory shares full = tt

-- whatever tree it is set in
pub placed_root : (t s : Nodes) (p : Path) (r : Result Grafted GraftFault) → p ≡ [] → Places s [] r → Places (put t p s) p r
placed_root t s p r root placed = rw (root, put_whole t s) placed

-- at the root there is a part
pub root_part : (p : Path) (o : Option Nodes) → IsTreeAtRoot p (nodes_of o) → p ≡ [] → o ≡ None → ⊥
root_part p o root none is =
    let h : is_directory (get (nodes_of o) []) ≡ true = root none in
    let there : is_directory (get (nodes_of o) []) ≡ false = ap (λ (x : Option Nodes). is_directory (get (nodes_of x) [])) is ∙ ap is_directory (get-empty path_cmp []) in
    let wrong : true ≡ false = sym h ∙ there in cc
