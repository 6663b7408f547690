-- A base that is none.
use Rattle.std.proofs.Common.{◌≡◌, List, ℕ, [], ◌∷◌, ◌++◌, ◌<◌, ◌^◌, length, arith, is_some, refl, sym, ap, ◌∙◌}
use Rattle.std.specs.declared.option.Option.{Option}
use Rattle.std.specs.declared.option.Option.TheVariants.{None, Some}
use Rattle.std.specs.FinMap.{empty, get, entries, get-empty, len-entries, len-empty, from_entries}
use Rattle.cv_base.specs.Path.{Path, path_cmp}
use Rattle.cv_tree.specs.declared.node.Node.{Node}
use Rattle.cv_tree.specs.Tree.{Nodes, IsPart, IsTree}
use Rattle.cv_tree.specs.Changes.{nodes_of}
use Rattle.cv_tree.proofs.Laws.{nothing_at}
use Rattle.cv_overlay.specs.Overlay.{root_of, named_entries, kept_entries, over_entries, over}
use Rattle.cv_overlay.specs.OverlayInner.{IsBase}
use Rattle.cv_overlay.specs.Answers.{HasNoBad}
use Rattle.cv_overlay.proofs.Over.{IsPart-over}
use Rattle.std.specs.Prelude.{Result, Ok, Err, IfOk}

no_length : (es : List (Path × Node)) → length es ≡ 0 → es ≡ []
no_length [] h = refl
no_length (e ∷ es) h = absurd (omega arith)

pub none_entries : (o : Option Nodes) → o ≡ None → entries (nodes_of o) ≡ []
none_entries None h = no_length _ (sym (len-entries (empty {X = Node} {R = path_cmp})) ∙ len-empty path_cmp Node)
none_entries (Some t) h = cc

pub none_root : (o : Option Nodes) → o ≡ None → get (nodes_of o) [] ≡ None
none_root None h = get-empty path_cmp []
none_root (Some t) h = cc

pub none_base : (o : Option Nodes) → o ≡ None → IsBase (nodes_of o)
none_base None h = record {
  parents = λ q name some. absurd (nothing_at _ some);
  paths = λ q some. absurd (nothing_at q some);
  nodes = λ q node e. absurd (nothing_at q (ap is_some e));
}
none_base (Some t) h = cc

-- ---- the entries of the overlay, as they are put together
pub assembled : (b c : Nodes) (now : ℕ) (e0 e1 e2 e3 cs bs : List (Path × Node)) (root : Path) (node : Node) → e0 ≡ [] → root ≡ [] → node ≡ root_of (get b []) now
    → cs ≡ entries c → bs ≡ entries b → e1 ≡ e0 ++ (root, node) ∷ [] → e2 ≡ e1 ++ named_entries cs → e3 ≡ e2 ++ kept_entries c bs → e3 ≡ over_entries b c now
assembled b c now e0 e1 e2 e3 cs bs root node h0 hr hn hc hb h1 h2 h3 = rw h3 (rw h2 (rw h1 (rw (h0, hr, hn, hc, hb) refl)))

pub is_part : (b c : Nodes) (now : ℕ) (es : List (Path × Node)) → IsBase b → IsTree c → now < 2 ^ 64 → HasNoBad c → es ≡ over_entries b c now → IsPart (from_entries {R = path_cmp} es)
unfolding over
is_part b c now es hb hc fits good is = rw is (IsPart-over b c now hb hc fits good)

pub is_over : (b c : Nodes) (now : ℕ) (es : List (Path × Node)) {E : Type 0} (r : Result Nodes E) → es ≡ over_entries b c now → IfOk r (λ part. part ≡ from_entries {R = path_cmp} es) → IfOk r (λ part. part ≡ over b c now)
unfolding over
is_over b c now es (Ok part) is h = h ∙ ap from_entries is
is_over b c now es (Err e) is h = tt
