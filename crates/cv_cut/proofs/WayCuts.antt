-- The cuts above a path, one below another.
use Rattle.std.proofs.Common.{◌≡◌, ◌≢◌, Bool, true, false, cond, not, List, [], ◌∷◌, ◌++◌, map, reverse, filter, refl, sym, ap, ◌∙◌, append-nil, append_assoc}
use Rattle.std.specs.Prelude.{Contains}
use Rattle.std.specs.List.{list_all}
use Rattle.std.specs.FinMap.{same_map}
use Rattle.std.proofs.lemmas.Bool.{not-true}
use Rattle.std.proofs.lemmas.List.{map-append}
use Rattle.std.proofs.lemmas.List.Elements.{filter-append}
use mathlib.Core.List.{reverse-cons}
use Rattle.cv_base.specs.Path.{Path}
use Rattle.cv_base.proofs.Laws.{first_true, second_true, path_total, path_exact}
use Rattle.cv_tree.specs.Tree.{Nodes, at}
use Rattle.cv_tree.proofs.Laws.{get-at, at-at}
use Rattle.cv_cut.specs.Cuts.{is_cut, is_marked, is_near, between}
use Rattle.cv_cut.specs.Cut.{catalogue_object}
use Rattle.cv_cut.proofs.Members.{first_there, later_there}
use Rattle.cv_cut.specs.Above.{above, cuts_above, made_from}
use Rattle.cv_cut.proofs.MarkLaws.{between-behind}
use Rattle.cv_cut.proofs.Between.{between_is, marked-at, cut_marked}
use Rattle.cv_cut.specs.Region.{StandsOnWay}

-- ---- filters

filter_same : {X : Type 0} (f g : X → Bool) (xs : List X) → ((x : X) → Contains xs x → f x ≡ g x) → filter f xs ≡ filter g xs
filter_same f g [] h = refl
filter_same f g (x ∷ xs) h =
    let one = h x (first_there x xs) in
    let more = filter_same f g xs (λ y has. h y (later_there x xs y has)) in
    λ i. cond (one i) (x ∷ more i) (more i)

filter_none : {X : Type 0} (f : X → Bool) (xs : List X) → list_all (λ x. not (f x)) xs ≡ true → filter f xs ≡ []
filter_none f [] h = refl
filter_none f (x ∷ xs) h = rw (not-true (f x) (first_true (not (f x)) (list_all (λ y. not (f y)) xs) h)) (filter_none f xs (second_true (not (f x)) (list_all (λ y. not (f y)) xs) h))

filter_image : {X Y : Type 0} (f : Y → Bool) (g : X → Y) (xs : List X) → filter f (map g xs) ≡ map g (filter (λ x. f (g x)) xs)
filter_image f g [] = refl
filter_image f g (x ∷ xs) = elim (f (g x)) as (λ b. cond b (g x ∷ filter f (map g xs)) (filter f (map g xs)) ≡ map g (cond b (x ∷ filter (λ x. f (g x)) xs) (filter (λ x. f (g x)) xs))) [
  | true ↦ ap (λ w. g x ∷ w) (filter_image f g xs)
  | false ↦ filter_image f g xs
]

map_each : {X Y : Type 0} (f g : X → Y) (xs : List X) → ((x : X) → f x ≡ g x) → map f xs ≡ map g xs
map_each f g [] h = refl
map_each f g (x ∷ xs) h = let one = h x in let more = map_each f g xs h in λ i. one i ∷ more i

map_map : {X Y Z : Type 0} (f : Y → Z) (g : X → Y) (xs : List X) → map f (map g xs) ≡ map (λ x. f (g x)) xs
map_map f g [] = refl
map_map f g (x ∷ xs) = ap (λ w. f (g x) ∷ w) (map_map f g xs)

map_itself : (xs : List Path) → map (λ q. [] ++ q) xs ≡ xs
map_itself [] = refl
map_itself (x ∷ xs) = ap (λ (w : List Path). x ∷ w) (map_itself xs)

-- ---- cuts

above_some : (p : Path) → p ≢ [] → above p ≡ [] ∷ between p
above_some [] some = absurd (some refl)
above_some (a ∷ p) some = refl

between_cuts : (u : Nodes) (r : Path) → filter (is_cut u) (between r) ≡ filter (is_marked u) (between r)
between_cuts u r = filter_same (is_cut u) (is_marked u) (between r) (λ x has. cut_marked u x (between_is r x has).some)

pub cuts_some : (u : Nodes) (r : Path) → r ≢ [] → cuts_above u r ≡ [] ∷ filter (is_marked u) (between r)
cuts_some u r some = ap (filter (is_cut u)) (above_some r some) ∙ ap (λ (w : List Path). [] ∷ w) (between_cuts u r)

-- where no other cut stands between, the cut is the only one
pub holder_way : (u : Nodes) (r : Path) → r ≢ [] → is_near u r ≡ true → cuts_above u r ≡ [] ∷ []
holder_way u r some near = cuts_some u r some ∙ ap (λ (w : List Path). [] ∷ w) (filter_none (is_marked u) (between r) near)

-- where another stands between, those from it on follow
pub pass_way : (u : Nodes) (r e f : Path) → StandsOnWay u r e f → is_near u e ≡ true → cuts_above u r ≡ [] ∷ map (λ q. e ++ q) (cuts_above (at u e) f)
pass_way u r e f way near = go f way.is way.more
  where
    some_front : (e f : Path) → e ≢ [] → (e ++ f) ≢ []
    some_front [] f some = λ _. some refl
    some_front (a ∷ e) f some = λ h. cc

    go : (f : Path) → r ≡ e ++ f → f ≢ [] → cuts_above u r ≡ [] ∷ map (λ q. e ++ q) (cuts_above (at u e) f)
    go [] is more = absurd (more refl)
    go (a ∷ f) is more =
        let deeper : filter (is_marked u) (map (λ x. e ++ x) (between (a ∷ f))) ≡ map (λ x. e ++ x) (filter (is_marked (at u e)) (between (a ∷ f))) =
        filter_image (is_marked u) (λ x. e ++ x) (between (a ∷ f)) ∙ ap (map (λ (x : Path). e ++ x)) (filter_same (λ x. is_marked u (e ++ x)) (is_marked (at u e)) (between (a ∷ f)) (λ x has. marked-at u e x)) in
        let rest : filter (is_marked u) (e ∷ map (λ x. e ++ x) (between (a ∷ f))) ≡ e ∷ map (λ x. e ++ x) (filter (is_marked (at u e)) (between (a ∷ f))) = rw way.marked (ap (λ (w : List Path). e ∷ w) deeper) in
        ap (cuts_above u) is ∙ cuts_some u (e ++ a ∷ f) (some_front e (a ∷ f) way.some)
        ∙ ap (λ (w : List Path). [] ∷ filter (is_marked u) w) (between-behind e a f way.some)
        ∙ ap (λ (w : List Path). [] ∷ w) (filter-append (is_marked u) (between e) (e ∷ map (λ x. e ++ x) (between (a ∷ f))) ∙ (λ i. filter_none (is_marked u) (between e) near i ++ rest i))
        ∙ (λ i. [] ∷ sym (append-nil e) i ∷ map (λ x. e ++ x) (filter (is_marked (at u e)) (between (a ∷ f))))
        ∙ ap (λ (w : List Path). [] ∷ map (λ x. e ++ x) w) (sym (cuts_some (at u e) (a ∷ f) (λ h. cc)))

-- ---- the catalogues made, those nested in another before it

pub made_here : (t : Nodes) (c r : Path) → cuts_above (at t c) r ≡ [] ∷ [] → made_from t c r ≡ catalogue_object t c ∷ []
made_here t c r h = ap (λ (w : List Path). map (catalogue_object t) (reverse (map (λ q. c ++ q) w))) h ∙ ap (λ (x : Path). catalogue_object t x ∷ []) (append-nil c)

reverse_more : {X : Type 0} (x : X) (xs : List X) → reverse (x ∷ xs) ≡ reverse xs ++ x ∷ []
reverse_more x xs = reverse-cons x xs

pub made_deeper : (t : Nodes) (c r e f : Path) → cuts_above (at t c) r ≡ [] ∷ map (λ q. e ++ q) (cuts_above (at (at t c) e) f) → made_from t c r ≡ made_from t (c ++ e) f ++ catalogue_object t c ∷ []
made_deeper t c r e f h =
    let ws = cuts_above (at (at t c) e) f in
    let paths : map (λ (q : Path). c ++ q) (map (λ q. e ++ q) ws) ≡ map (λ q. (c ++ e) ++ q) (cuts_above (at t (c ++ e)) f) =
    map_map (λ (q : Path). c ++ q) (λ (q : Path). e ++ q) ws ∙ map_each (λ q. c ++ (e ++ q)) (λ q. (c ++ e) ++ q) ws (λ q. sym (append_assoc c e q))
    ∙ ap (λ (u : Nodes). map (λ q. (c ++ e) ++ q) (cuts_above u f)) (at-at t c e) in
    ap (λ (w : List Path). map (catalogue_object t) (reverse (map (λ q. c ++ q) w))) h
    ∙ ap (map (catalogue_object t)) (reverse_more (c ++ []) (map (λ q. c ++ q) (map (λ q. e ++ q) ws)))
    ∙ map-append (catalogue_object t) (reverse (map (λ q. c ++ q) (map (λ q. e ++ q) ws))) ((c ++ []) ∷ [])
    ∙ (λ i. map (catalogue_object t) (reverse (paths i)) ++ catalogue_object t (append-nil c i) ∷ [])

pub at-root : (t : Nodes) → at t [] ≡ t
at-root t = same_map path_total path_exact _ _ (λ q. get-at t [] q)

pub made_all : (t : Nodes) (p : Path) → made_from t [] p ≡ map (catalogue_object t) (reverse (cuts_above t p))
made_all t p = ap (λ (w : List Path). map (catalogue_object t) (reverse w)) (map_itself (cuts_above (at t []) p)) ∙ ap (λ (u : Nodes). map (catalogue_object t) (reverse (cuts_above u p))) (at-root t)
