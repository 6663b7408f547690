-- What the rows of a region say.
use Rattle.std.proofs.Common.{◌≡◌, ◌≢◌, true, false, cond, List, [], ◌∷◌, ◌++◌, refl, sym, ap, ◌∙◌, append-nil, append_assoc}
use Rattle.std.specs.declared.option.Option.TheVariants.{Some}
use Rattle.std.specs.List.{list_all}
use Rattle.cv_base.specs.Path.{Path, key_of, is_path_name, parent_key_of, last_name_of}
use Rattle.cv_base.specs.Target.{is_target}
use Rattle.cv_base.proofs.Laws.{first_true, second_true, no_target}
use Rattle.cv_tree.specs.Tree.{Nodes, is_directory, is_file}
use Rattle.cv_tree.specs.declared.node.Node.{Node}
use Rattle.cv_tree.specs.declared.node.Node.TheVariants as node
use Rattle.cv_rows.specs.Row.{holds_rows}
use Rattle.cv_rows.specs.Places.{IsRoot, root_kind}
use Rattle.cv_rows.specs.declared.row_kind.RowKind.{RowKind}
use Rattle.cv_rows.specs.declared.row_kind.RowKind.TheVariants.{Directory, Transition, NestedRoot, File}
use Rattle.cv_cut.specs.Cuts.{is_marked}
use Rattle.cv_cut.specs.Catalogues.{kind_of, row_of}
use Rattle.cv_rows.proofs.Lemmas.{path_name-target}
use Rattle.cv_cut.proofs.Ends.{parent_key-append, last_name-append}
use Rattle.cv_cut.specs.Region.{row_at}

-- ---- names

-- the name of a row is a target
pub name_target : (p : Path) → list_all is_path_name p ≡ true → is_target (last_name_of p) ≡ true
name_target [] h = no_target
name_target (a ∷ []) h = path_name-target a (first_true (is_path_name a) true h)
name_target (a ∷ b ∷ p) h = name_target (b ∷ p) (second_true (is_path_name a) (list_all is_path_name (b ∷ p)) h)

-- ---- fields

pub row_key : (kind : RowKind) (p : Path) (n : Node) → (row_of kind p n).key.0 ≡ key_of p
row_key kind p (node.Dir attr) = refl
row_key kind p (node.File attr file) = refl
row_key kind p (node.Link attr target) = refl

pub row_parent : (kind : RowKind) (p : Path) (n : Node) → (row_of kind p n).parent.0 ≡ parent_key_of p
row_parent kind p (node.Dir attr) = refl
row_parent kind p (node.File attr file) = refl
row_parent kind p (node.Link attr target) = refl

pub row_kind : (kind : RowKind) (p : Path) (n : Node) → (row_of kind p n).kind ≡ kind
row_kind kind p (node.Dir attr) = refl
row_kind kind p (node.File attr file) = refl
row_kind kind p (node.Link attr target) = refl

pub row_name : (kind : RowKind) (p : Path) (n : Node) → (row_of kind p n).name ≡ last_name_of p
row_name kind p (node.Dir attr) = refl
row_name kind p (node.File attr file) = refl
row_name kind p (node.Link attr target) = refl

-- the same of a path with one more name
pub parent_at : (c : Path) (u : Nodes) (front : Path) (name : List _) (n : Node) → (row_at c u (front ++ name ∷ []) n).parent.0 ≡ key_of (c ++ front)
parent_at c u front name n = row_parent _ (c ++ (front ++ name ∷ [])) n ∙ ap parent_key_of (sym (append_assoc c front (name ∷ []))) ∙ parent_key-append (c ++ front) name

pub name_at : (c : Path) (u : Nodes) (front : Path) (name : List _) (n : Node) → (row_at c u (front ++ name ∷ []) n).name ≡ name
name_at c u front name n = row_name _ (c ++ (front ++ name ∷ [])) n ∙ ap last_name_of (sym (append_assoc c front (name ∷ []))) ∙ last_name-append (c ++ front) name

-- the row of the cut itself
pub root_row : (c : Path) (u : Nodes) (n : Node) → IsRoot c (row_at c u [] n)
root_row c u n = record {
  key = row_key _ (c ++ []) n ∙ ap key_of (append-nil c);
  kind = row_kind (root_kind c) (c ++ []) n;
  parent = row_parent _ (c ++ []) n ∙ ap parent_key_of (append-nil c);
}

-- ---- kinds

-- a root row is no Transition
pub root_not : (c : Path) → root_kind c ≢ Transition
root_not [] h = cc
root_not (a ∷ c) h = cc

pub not_nested_root : (c : Path) (u : Nodes) (q : Path) (n : Node) → q ≢ [] → kind_of c u q n ≢ NestedRoot
not_nested_root c u [] n some h = some refl
not_nested_root c u (a ∷ q) (node.Dir attr) some h =
    elim (is_marked u (a ∷ q)) as (λ b. cond b Transition Directory ≡ NestedRoot → ⊥) [ true ↦ λ e. cc | false ↦ λ e. cc ] h
not_nested_root c u (a ∷ q) (node.File attr file) some h = cc
not_nested_root c u (a ∷ q) (node.Link attr target) some h = cc

-- a Transition stands at another cut
pub transition_marked : (c : Path) (u : Nodes) (q : Path) (n : Node) → kind_of c u q n ≡ Transition → (q ≢ []) × (is_marked u q ≡ true)
transition_marked c u [] n h = absurd (root_not c h)
transition_marked c u (a ∷ q) (node.Dir attr) h = (
  λ e. cc,
  elim (is_marked u (a ∷ q)) as (λ b. cond b Transition Directory ≡ Transition → b ≡ true) [ true ↦ λ e. refl | false ↦ λ e. cc ] h,
)
transition_marked c u (a ∷ q) (node.File attr file) h = cc
transition_marked c u (a ∷ q) (node.Link attr target) h = cc

pub marked_transition : (c : Path) (u : Nodes) (q : Path) (n : Node) → q ≢ [] → is_directory (Some n) ≡ true → is_marked u q ≡ true → kind_of c u q n ≡ Transition
marked_transition c u [] n some directory marked = absurd (some refl)
marked_transition c u (a ∷ q) (node.Dir attr) some directory marked = rw marked refl
marked_transition c u (a ∷ q) (node.File attr file) some directory marked = cc
marked_transition c u (a ∷ q) (node.Link attr target) some directory marked = cc

-- a Directory below the cut isn't marked
pub directory_unmarked : (c : Path) (u : Nodes) (q : Path) (n : Node) → q ≢ [] → kind_of c u q n ≡ Directory → (is_directory (Some n) ≡ true) × (is_marked u q ≡ false)
directory_unmarked c u [] n some h = absurd (some refl)
directory_unmarked c u (a ∷ q) (node.Dir attr) some h = (
  refl,
  elim (is_marked u (a ∷ q)) as (λ b. cond b Transition Directory ≡ Directory → b ≡ false) [ true ↦ λ e. cc | false ↦ λ e. refl ] h,
)
directory_unmarked c u (a ∷ q) (node.File attr file) some h = cc
directory_unmarked c u (a ∷ q) (node.Link attr target) some h = cc

pub root_holds : (c : Path) → holds_rows (root_kind c) ≡ true
root_holds [] = refl
root_holds (a ∷ c) = refl

-- other rows may stand below the row of a directory that is the cut or isn't marked
pub directory_holds : (c : Path) (u : Nodes) (q : Path) (n : Node) → is_directory (Some n) ≡ true → (q ≢ [] → is_marked u q ≡ false) → holds_rows (kind_of c u q n) ≡ true
directory_holds c u [] n directory free = root_holds c
directory_holds c u (a ∷ q) (node.Dir attr) directory free = rw (free (λ e. cc)) refl
directory_holds c u (a ∷ q) (node.File attr file) directory free = cc
directory_holds c u (a ∷ q) (node.Link attr target) directory free = cc

pub root_no_file : (c : Path) → root_kind c ≢ File
root_no_file [] h = cc
root_no_file (a ∷ c) h = cc

-- a File is one, and stands below the cut
pub file_node : (c : Path) (u : Nodes) (q : Path) (n : Node) → kind_of c u q n ≡ File → (q ≢ []) × (is_file (Some n) ≡ true)
file_node c u [] n h = absurd (root_no_file c h)
file_node c u (a ∷ q) (node.Dir attr) h =
    elim (is_marked u (a ∷ q)) as (λ b. cond b Transition Directory ≡ File → ((a ∷ q) ≢ []) × (is_file (Some (node.Dir attr)) ≡ true)) [ true ↦ λ e. cc | false ↦ λ e. cc ] h
file_node c u (a ∷ q) (node.File attr file) h = (λ e. cc, refl)
file_node c u (a ∷ q) (node.Link attr target) h = cc

pub node_file : (c : Path) (u : Nodes) (q : Path) (n : Node) → q ≢ [] → is_file (Some n) ≡ true → kind_of c u q n ≡ File
node_file c u [] n some file = absurd (some refl)
node_file c u (a ∷ q) (node.Dir attr) some file = cc
node_file c u (a ∷ q) (node.File attr f) some file = refl
node_file c u (a ∷ q) (node.Link attr target) some file = cc

-- a NestedRoot is the row of the cut itself
pub nested_root_at : (c : Path) (u : Nodes) (q : Path) (n : Node) → kind_of c u q n ≡ NestedRoot → (q ≡ []) × (c ≢ [])
nested_root_at [] u [] n h = cc
nested_root_at (a ∷ c) u [] n h = (refl, λ e. cc)
nested_root_at c u (a ∷ q) n h = absurd (not_nested_root c u (a ∷ q) n (λ e. cc) h)
