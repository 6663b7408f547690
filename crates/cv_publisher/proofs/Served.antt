-- What comes of a tree whose catalogues are served.
use Rattle.std.proofs.Common.{◌≡◌, ◌⊎◌, ℕ, Bool, true, List, [], ◌∷◌, Option, Some, None, refl, sym, ap, ◌∙◌, subst, inl, inr}
use Rattle.std.specs.Prelude.{Contains, Result, Ok, Err, option_to_list}
use Rattle.cv_base.specs.Path.{Path}
use Rattle.cv_base.specs.declared.id.ObjectId.{ObjectId}
use Rattle.cv_base.specs.declared.object.Object.{Object}
use Rattle.cv_ports.specs.Objects.{shelf_of}
use Rattle.cv_ports.specs.Shelf.{Shelf}
use Rattle.cv_tree.specs.Changes.{has_place, nodes_of, subtree_of}
use Rattle.cv_tree.specs.Tree.{Nodes}
use Rattle.cv_http.specs.declared.http_reply.HttpReply.{HttpReply}
use Rattle.cv_cut.specs.Catalogues.{root_of}
use Rattle.cv_cut.specs.Own.{AreOwn}
use Rattle.cv_cut.proofs.Lemmas.{first_or_later, first_there, later_there, none_there}
use Rattle.cv_graft.specs.Placed.{HasCuts, Places, placed_of}
use Rattle.cv_graft.specs.declared.grafted.Grafted.{Grafted}
use Rattle.cv_checkout.specs.Giving.{Gives}
use Rattle.cv_checkout.specs.InTree.{IsIdToward, IsOn}
use Rattle.cv_checkout.specs.Progress.{Progress, begun}
use Rattle.cv_checkout.specs.Wanting.{next_of}
use Rattle.cv_checkout.specs.declared.fault.CheckoutFault.TheVariants as checkout
use Rattle.cv_checkout.proofs.Lemmas.{comes_on, gives_good, has_cuts, next_toward, none_wanted, same_part, same_place, starts_on}
use Rattle.cv_overlay.specs.Overlay.{over}
use Rattle.cv_publisher.specs.Assembling.{unfetched, Assembles, is_bad, is_orphan, is_laid, unlaid, Sets, is_set, collides, is_full, unset}
use Rattle.cv_publisher.specs.Replies.{served_in}
use Rattle.cv_publisher.specs.declared.fault.PublishFault.TheVariants as fault
use Rattle.cv_publisher.specs.Talks.{Completes, Exchanged, Explains, IsServedOf, Offers, bodies, changed}
use Rattle.cv_publisher.specs.declared.assembling.Delivery.{Delivery}
use Rattle.cv_publisher.specs.declared.fault.PublishFault.{PublishFault}
use Rattle.cv_publisher.specs.declared.plan.Plan.{Plan}
use Rattle.cv_publisher.proofs.Missing.{each_sent, ids_of, only_made}
use Rattle.cv_publisher.proofs.Replying.{Serves, has_bytes, has_none, serves}

-- a checkout has come so far in a tree of this root, and more bytes are served
pub record Comes (t : Nodes) (from : List ℕ) (s : Progress) (more : List (List ℕ)) : Type 0 where
  pub on : IsOn t s
  pub root : from ≡ root_of t
  pub own : AreOwn t more

own_first : (t : Nodes) (b : List ℕ) (bs : List (List ℕ)) → AreOwn t (b ∷ bs) → AreOwn t (b ∷ [])
own_first t b bs are = record {
  own = λ x c has cut same. elim (first_or_later b [] x has) [
    | inl is ↦ are.own x c (subst (λ (y : List ℕ). Contains (b ∷ bs) y) is (first_there b bs)) cut same
    | inr none ↦ absurd (none_there x none)
  ];
}

own_later : (t : Nodes) (b : List ℕ) (bs : List (List ℕ)) → AreOwn t (b ∷ bs) → AreOwn t bs
own_later t b bs are = record { own = λ x c has cut same. are.own x c (later_there b bs x has) cut same }

-- where the reply's body was given, another is served next
pub comes_more : (t : Nodes) (from : List ℕ) (s s' : Progress) (reply : HttpReply) (given : Option (List ℕ)) (more : List (List ℕ))
    → served_in reply ≡ Some given → Gives s given s' (Ok tt) → Comes t from s (reply.body ∷ more) → Comes t from s' more
comes_more t from s s' reply given more says gives c = by (serves reply given says)
  where
    by : Serves reply given → Comes t from s' more
    by (has_none code none) = let some = gives.1 in absurd cc
    by (has_bytes code body) =
        let some = gives.1 in
        let same : gives.0 ≡ reply.body = cc in
        record {
          on = comes_on t s s' gives.0 c.on (subst (λ (b : List ℕ). AreOwn t (b ∷ [])) (sym same) (own_first t reply.body more c.own)) gives.2;
          root = c.root;
          own = own_later t reply.body more c.own;
        }

pub none_bad : (t : Nodes) (from : List ℕ) (s s' : Progress) (reply : HttpReply) (given : Option (List ℕ)) (more : List (List ℕ)) (id : ObjectId)
    → served_in reply ≡ Some given → Gives s given s' (Err (checkout.BadCatalogue id)) → Comes t from s (reply.body ∷ more) → ⊥
none_bad t from s s' reply given more id says gives c = by (serves reply given says)
  where
    by : Serves reply given → ⊥
    by (has_none code none) = let some = gives.1.gives in absurd cc
    by (has_bytes code body) =
        gives_good t s s' given id (Err (checkout.BadCatalogue id)) gives c.on
        (subst (λ (x : Option (List ℕ)). AreOwn t (option_to_list x)) (sym body) (own_first t reply.body more c.own)) refl

-- what is asked for
pub asks_toward : (plan : Plan) (t : Nodes) (from : List ℕ) (s : Progress) (more : List (List ℕ)) (id : ObjectId)
    → Comes t from s more → next_of s.wanted ≡ Some id → s.path ≡ plan.path → IsIdToward t plan.path id
asks_toward plan t from s more id c next path = subst (λ (p : Path). IsIdToward t p id) path (next_toward t s id (sym next) c.on)

-- ---- all was given: what is offered, or why nothing is

-- the root is that of the changed tree, and its catalogues are sent that weren't fetched
record IsMade (plan : Plan) (t : Nodes) (fetched : Shelf) (d : Delivery) : Type 0 where
  offers : Offers plan t d.root
  catalogues_are : d.catalogues ≡ unfetched fetched (placed_of (changed plan t) plan.path).added

set_told : (plan : Plan) (t : Nodes) (from : List ℕ) (fetched : Shelf) (r : Result Delivery PublishFault) (d : Delivery)
    → HasCuts fetched from t plan.path → has_place t plan.path ≡ true
    → Sets plan from fetched (over (nodes_of (subtree_of t plan.path)) plan.changes.nodes plan.moment) r → r ≡ Ok d → IsMade plan t fetched d
set_told plan t from fetched r d cuts there (is_set g d' set delivers is) ok =
    let told : Places (changed plan t) plan.path (Ok g) = set.told t cuts there in
    let same : d' ≡ d = cc in
    let offers : Offers plan t d.root = record {
      place = there;
      fits = told.0;
      root_is = ap (λ (x : Delivery). x.root) (sym same) ∙ delivers.root ∙ ap (λ (x : Grafted). x.root.hash) told.1;
    } in
    record { offers = offers; catalogues_are = ap (λ (x : Delivery). x.catalogues) (sym same) ∙ delivers.catalogues ∙ ap (λ (x : Grafted). unfetched fetched x.added) told.1 }
set_told plan t from fetched r d cuts there (collides a b set is) ok = absurd cc
set_told plan t from fetched r d cuts there (is_full c set is) ok = absurd cc
set_told plan t from fetched r d cuts there (unset is) ok = absurd cc

unset_told : (plan : Plan) (t : Nodes) (from : List ℕ) (fetched : Shelf) (r : Result Delivery PublishFault) (f : PublishFault)
    → HasCuts fetched from t plan.path → has_place t plan.path ≡ true
    → Sets plan from fetched (over (nodes_of (subtree_of t plan.path)) plan.changes.nodes plan.moment) r → r ≡ Err f → Explains plan t f
unset_told plan t from fetched r f cuts there (is_set g d' set delivers is) err = absurd cc
unset_told plan t from fetched r f cuts there (collides a b set is) err =
    let same : fault.PathCollision a b ≡ f = cc in subst (Explains plan t) same (there, set.told t cuts there)
unset_told plan t from fetched r f cuts there (is_full c set is) err =
    let same : fault.CatalogueFull c ≡ f = cc in subst (Explains plan t) same (there, set.told t cuts there)
unset_told plan t from fetched r f cuts there (unset is) err = let same : fault.NoMemory ≡ f = cc in subst (Explains plan t) same tt

-- what was fetched tells what the tree has at the path
record Tells (plan : Plan) (t : Nodes) (from : List ℕ) (fetched : Shelf) (b : Nodes) (place : Bool) : Type 0 where
  cuts : HasCuts fetched from t plan.path
  part_is : b ≡ nodes_of (subtree_of t plan.path)
  place_is : place ≡ has_place t plan.path

laid : (plan : Plan) (t : Nodes) (from : List ℕ) (fetched : Shelf) (b : Nodes) (place : Bool) (r : Result Delivery PublishFault)
    → Tells plan t from fetched b place → Sets plan from fetched (over b plan.changes.nodes plan.moment) r
    → Sets plan from fetched (over (nodes_of (subtree_of t plan.path)) plan.changes.nodes plan.moment) r
laid plan t from fetched b place r tells = subst (λ (x : Nodes). Sets plan from fetched (over x plan.changes.nodes plan.moment) r) tells.part_is

made_told : (plan : Plan) (t : Nodes) (from : List ℕ) (fetched : Shelf) (b : Nodes) (place : Bool) (r : Result Delivery PublishFault) (d : Delivery)
    → Tells plan t from fetched b place → Assembles plan from fetched b place r → r ≡ Ok d → IsMade plan t fetched d
made_told plan t from fetched b place r d tells (is_bad q least is) ok = absurd cc
made_told plan t from fetched b place r d tells (is_orphan good none is) ok = absurd cc
made_told plan t from fetched b place r d tells (is_laid good there sets) ok =
    set_told plan t from fetched r d tells.cuts (sym tells.place_is ∙ there) (laid plan t from fetched b place r tells sets) ok
made_told plan t from fetched b place r d tells (unlaid is) ok = absurd cc

unmade_told : (plan : Plan) (t : Nodes) (from : List ℕ) (fetched : Shelf) (b : Nodes) (place : Bool) (r : Result Delivery PublishFault) (f : PublishFault)
    → Tells plan t from fetched b place → Assembles plan from fetched b place r → r ≡ Err f → Explains plan t f
unmade_told plan t from fetched b place r f tells (is_bad q least is) err = let same : fault.BadWhiteout q ≡ f = cc in subst (Explains plan t) same tt
unmade_told plan t from fetched b place r f tells (is_orphan good none is) err =
    let same : fault.NoParent ≡ f = cc in subst (Explains plan t) same (sym tells.place_is ∙ none)
unmade_told plan t from fetched b place r f tells (is_laid good there sets) err =
    unset_told plan t from fetched r f tells.cuts (sym tells.place_is ∙ there) (laid plan t from fetched b place r tells sets) err
unmade_told plan t from fetched b place r f tells (unlaid is) err = let same : fault.NoMemory ≡ f = cc in subst (Explains plan t) same tt

-- what is assembled of a checkout to which all was given
abbrev pub Assembled : Plan → List ℕ → Progress → Result Delivery PublishFault → Type 0
Assembled plan from s r = Assembles plan from (shelf_of s.objects) (nodes_of (subtree_of (nodes_of s.tree) s.path)) (has_place (nodes_of s.tree) s.path) r

tells : (plan : Plan) (t : Nodes) (from : List ℕ) (s : Progress) (more : List (List ℕ)) → Comes t from s more → next_of s.wanted ≡ None → s.path ≡ plan.path
    → Tells plan t from (shelf_of s.objects) (nodes_of (subtree_of (nodes_of s.tree) s.path)) (has_place (nodes_of s.tree) s.path)
tells plan t from s more c none path =
    let over_ : s.wanted ≡ [] = none_wanted s.wanted none in
    record {
      cuts = subst (λ (h : List ℕ). HasCuts (shelf_of s.objects) h t plan.path) (sym c.root)
          (subst (λ (p : Path). HasCuts (shelf_of s.objects) (root_of t) t p) path (has_cuts t s c.on over_ (shelf_of s.objects) (λ id. refl)));
      part_is = ap nodes_of (same_part t s c.on over_) ∙ ap (λ (p : Path). nodes_of (subtree_of t p)) path;
      place_is = same_place t s c.on over_ ∙ ap (λ (p : Path). has_place t p) path;
    }

made : (plan : Plan) (t : Nodes) (from : List ℕ) (s : Progress) (more : List (List ℕ)) (d : Delivery)
    → Comes t from s more → next_of s.wanted ≡ None → s.path ≡ plan.path → Assembled plan from s (Ok d) → IsMade plan t (shelf_of s.objects) d
made plan t from s more d c none path a =
    made_told plan t from (shelf_of s.objects) (nodes_of (subtree_of (nodes_of s.tree) s.path)) (has_place (nodes_of s.tree) s.path) (Ok d) d
    (tells plan t from s more c none path) a refl

pub offered : (plan : Plan) (t : Nodes) (from : List ℕ) (s : Progress) (more : List (List ℕ)) (d : Delivery)
    → Comes t from s more → next_of s.wanted ≡ None → s.path ≡ plan.path → Assembled plan from s (Ok d) → Offers plan t d.root
offered plan t from s more d c none path a = (made plan t from s more d c none path a).offers

pub completed : (plan : Plan) (t : Nodes) (from : List ℕ) (s : Progress) (more : List (List ℕ)) (d : Delivery)
    → Comes t from s more → next_of s.wanted ≡ None → s.path ≡ plan.path → Assembled plan from s (Ok d) → Completes plan t (ids_of s.objects) d.catalogues
completed plan t from s more d c none path a =
    let all : List Object = (placed_of (changed plan t) plan.path).added in
    let is : d.catalogues ≡ unfetched (shelf_of s.objects) all = (made plan t from s more d c none path a).catalogues_are in
    record {
      only = λ o has. only_made s.objects all o (subst (λ (l : List Object). Contains l o) is has);
      each = λ o has. subst (λ (l : List Object). Contains l o ⊎ Contains (ids_of s.objects) o.id) (sym is) (each_sent s.objects all o has);
    }

pub explained : (plan : Plan) (t : Nodes) (from : List ℕ) (s : Progress) (more : List (List ℕ)) (f : PublishFault)
    → Comes t from s more → next_of s.wanted ≡ None → s.path ≡ plan.path → Assembled plan from s (Err f) → Explains plan t f
explained plan t from s more f c none path a =
    unmade_told plan t from (shelf_of s.objects) (nodes_of (subtree_of (nodes_of s.tree) s.path)) (has_place (nodes_of s.tree) s.path) (Err f) f
    (tells plan t from s more c none path) a refl

-- ---- what is served of a tree

pub served_later : (t : Nodes) (root : List ℕ) (e : Exchanged) (es : List Exchanged) → IsServedOf t root (e ∷ es) → IsServedOf t root es
served_later t root e es h = record { tree = h.tree; fits = h.fits; root_is = h.root_is; own = own_later t e.reply.body (bodies es) h.own }

-- a checkout begins in the tree
pub begins : (t : Nodes) (root from : List ℕ) (path : Path) (es : List Exchanged) → root ≡ from → IsServedOf t root es → Comes t from (begun from path) (bodies es)
begins t root from path es same h = record {
  on = starts_on t from path h.tree h.fits (sym same ∙ h.root_is);
  root = sym same ∙ h.root_is;
  own = h.own;
}
