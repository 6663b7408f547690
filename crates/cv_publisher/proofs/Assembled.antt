-- What is offered for what was fetched.
use Rattle.std.proofs.Common.{◌≡◌, ◌<◌, ℕ, ◌⊎◌, Bool, length, true, false, cond, List, [], ◌∷◌, ◌++◌, Option, Some, None, refl, sym, ◌∙◌, ap, subst, inl, inr, append-nil}
use Rattle.std.specs.Prelude.{All, IsSome, Result, Err, not, is_some, get_or}
use Rattle.std.specs.FinMap.{get}
use Rattle.std.proofs.lemmas.List.Elements.{All-append, All-filter, Contains-get_or}
use Rattle.std.proofs.lemmas.Option.{slice_get-get_or}
use Rattle.cv_pack.specs.Pack.{IsPacked}
use Rattle.cv_base.specs.Path.{Path, IsPath, last_name_of}
use Rattle.cv_base.specs.declared.object.Object.{Object}
use Rattle.cv_ports.specs.Shelf.{Shelf}
use Rattle.cv_tree.specs.Changes.{FitsUnder}
use Rattle.cv_tree.specs.Tree.{Nodes}
use Rattle.cv_tree.specs.declared.node.Node.{Node}
use Rattle.cv_overlay.specs.Answers.{Overlays}
use Rattle.cv_overlay.specs.Changes.{AreContents}
use Rattle.cv_overlay.specs.Overlay.{hidden, named, or_else, over_at}
use Rattle.cv_overlay.specs.Whiteout.{is_whiteout}
use Rattle.cv_overlay.specs.declared.overlay_fault.OverlayFault.{OverlayFault}
use Rattle.cv_overlay.specs.declared.overlay_fault.OverlayFault.TheVariants as overlay
use Rattle.cv_base.specs.Objects.{AreNamed}
use Rattle.cv_publisher.specs.Assembling.{Assembles, Delivers, is_bad, unfetched, unlaid}
use Rattle.cv_base.specs.declared.id.ObjectId.{ObjectId}
use Rattle.cv_publisher.specs.declared.assembling.Delivery.{Delivery}
use Rattle.cv_publisher.specs.declared.fault.PublishFault.{PublishFault}
use Rattle.cv_publisher.specs.FaultsInner.{of_overlay}
use Rattle.cv_graft.specs.declared.grafted.Grafted.{Grafted}
use Rattle.cv_publisher.specs.Packing.{AreInOrder, AreSendable, objects_at}
use Rattle.cv_publisher.specs.PackingInner.{IsCatalogueObject}
use Rattle.cv_publisher.proofs.Orders.{sendable}
use Rattle.cv_publisher.specs.declared.plan.Plan.{Plan}

-- the contents of changes have the ids of their bytes
pub contents_own : (c : Nodes) (os : List Object) → AreContents c os → All IsPacked os
contents_own c os are = λ k d within.
    let own = are.own k (get_or os k d) (slice_get-get_or os k d within) in
    record { hash = ap (λ i. i.hash) own; kind = λ history. let plain = ap (λ i. i.kind) own in cc; size = are.sizes k (get_or os k d) (slice_get-get_or os k d within) }

made_own : (os : List Object) → AreNamed os → All IsCatalogueObject os → All IsPacked os
made_own os has are = λ k d within.
    let one : IsCatalogueObject (get_or os k d) = are k d within in
    record {
      hash = has.each (get_or os k d) (Contains-get_or os k d within);
      kind = λ history. let catalogue = one.kind in cc;
      size = one.size;
    }

pub sent_own : (c : Nodes) (contents made : List Object) (fetched : Shelf) → AreContents c contents → AreNamed made → All IsCatalogueObject made
    → All IsPacked (contents ++ unfetched fetched made)
sent_own c contents made fetched are has kinds =
    All-append IsPacked contents (unfetched fetched made) (contents_own c contents are) (All-filter (λ (o : Object). not (is_some (fetched o.id))) IsPacked made (made_own made has kinds))

-- what is sent, by what was put in order
pub delivers : (c : Nodes) (contents os cs xs catalogues : List Object) (ps places : List ℕ) (fetched : Shelf) (g : Grafted) (root : List ℕ) → root ≡ g.root.hash
    → cs ≡ unfetched fetched g.added → os ≡ contents → xs ≡ cs → catalogues ≡ cs → places ≡ ps → AreContents c contents → AreNamed g.added → All IsCatalogueObject g.added
    → AreInOrder (os ++ xs) (objects_at (os ++ xs) ps) → All (λ p. p < length (os ++ xs)) ps
    → Delivers contents fetched g (record { root = root; catalogues = catalogues; places = places })
delivers c contents os cs xs catalogues ps places fetched g root is made whole same kept there are own kinds ordered within =
    let all : os ++ xs ≡ contents ++ cs = ap (λ (a : List Object). a ++ xs) whole ∙ ap (λ (b : List Object). contents ++ b) same in
    let order : AreInOrder (contents ++ cs) (objects_at (contents ++ cs) ps) = subst (λ (x : List Object). AreInOrder x (objects_at x ps)) all ordered in
    let below : All (λ p. p < length (contents ++ cs)) ps = subst (λ (x : List Object). All (λ p. p < length x) ps) all within in
    let owned : All IsPacked (contents ++ cs) = subst (λ (x : List Object). All IsPacked (contents ++ x)) (sym made) (sent_own c contents g.added fetched are own kinds) in
    record {
      root = is;
      catalogues = kept ∙ made;
      order = subst (λ (x : List Object). AreInOrder (contents ++ x) (objects_at (contents ++ x) places)) (sym kept) (subst (λ (y : List ℕ). AreInOrder (contents ++ cs) (objects_at (contents ++ cs) y)) (sym there) order);
      sendable = subst (λ (x : List Object). AreSendable (contents ++ x) places) (sym kept) (subst (AreSendable (contents ++ cs)) (sym there) (sendable (contents ++ cs) ps below owned order));
    }

-- why the changes make no part
pub overlay_refuses : (plan : Plan) (base : List ℕ) (fetched : Shelf) (b : Nodes) (place : Bool) (f : OverlayFault) → Overlays b plan.changes.nodes plan.moment (Err f)
    → Assembles plan base fetched b place (Err (of_overlay f))
overlay_refuses plan base fetched b place (overlay.BadWhiteout q) says = is_bad q says refl
overlay_refuses plan base fetched b place overlay.NoMemory says = unlaid refl

-- ---- the part that changes make can be set at the path

abbrev LaidOver : Nodes → Nodes → ℕ → Nodes → Type 0
LaidOver b c now part = (q : Path) → get part q ≡ over_at b c now q

either_some : (x y : Option Node) → IsSome (or_else x y) → IsSome x ⊎ IsSome y
either_some None y some = inr some
either_some (Some n) y some = inl refl

left_some : (hides : Bool) (x : Option Node) → IsSome (cond hides None x) → IsSome x
left_some true x some = absurd cc
left_some false x some = some

pub over_fits : (p : Path) (b c : Nodes) (now : ℕ) (part : Nodes) → IsPath p → FitsUnder p b → FitsUnder p c → LaidOver b c now part → FitsUnder p part
over_fits p b c now part is fits fits_c laid [] some = subst IsPath (sym (append-nil p)) is
over_fits p b c now part is fits fits_c laid (name ∷ names) some =
    elim (either_some (named c (name ∷ names)) (cond (hidden c (name ∷ names)) None (get b (name ∷ names))) (subst IsSome (laid (name ∷ names)) some)) [
      | inl named_ ↦ fits_c (name ∷ names) (left_some (is_whiteout (last_name_of (name ∷ names))) (get c (name ∷ names)) named_)
      | inr kept ↦ fits (name ∷ names) (left_some (hidden c (name ∷ names)) (get b (name ∷ names)) kept)
    ]

-- ---- what was fetched, as the checkout has it

pub assembles_of : (plan : Plan) (base : List ℕ) (shelf fetched : Shelf) (part b : Nodes) (has place : Bool) (r : Result Delivery PublishFault)
    → ((id : ObjectId) → shelf id ≡ fetched id) → part ≡ b → has ≡ place → Assembles plan base shelf part has r → Assembles plan base fetched b place r
assembles_of plan base shelf fetched part b has place r shelves parts places are =
    subst (λ (x : Bool). Assembles plan base fetched b x r) places
    (subst (λ (x : Nodes). Assembles plan base fetched x has r) parts (subst (λ (x : Shelf). Assembles plan base x part has r) (λ i id. shelves id i) are))
