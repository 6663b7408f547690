-- What a replacement does to marks, and to what is near.
--
-- In what follows u is what stands at a cut, r is a path below it, and s is set there.
use Rattle.std.proofs.Common.{◌≡◌, ◌≢◌, Bool, true, false, not, ◌&&◌, List, [], ◌∷◌, ◌++◌, map, refl, sym, ap, subst, ◌∙◌, append-nil, append_assoc, is_some}
use Rattle.std.specs.Prelude.{Contains}
use Rattle.std.specs.List.{list_all}
use Rattle.std.specs.FinMap.{get}
use Rattle.std.proofs.lemmas.List.{map-append}
use Rattle.std.proofs.lemmas.List.Folds.{list_all-append, list_all-map}
use Rattle.cv_base.specs.Marker.{marker, ends_in}
use Rattle.cv_base.specs.Path.{Path, covers}
use Rattle.cv_base.proofs.Laws.{behind-append, not_before}
use Rattle.cv_rows.proofs.Lemmas.{covers_last, ends_so, not_above}
use Rattle.cv_tree.specs.Tree.{Nodes, at, put, is_directory, is_file}
use Rattle.cv_tree.proofs.Laws.{at_rest, get-put, kept-put, put-at}
use Rattle.cv_cut.specs.Cuts.{is_marked, is_near, between}
use Rattle.cv_cut.proofs.Between.{between_is}
use Rattle.cv_cut.proofs.Members.{first_there, later_there}
use Rattle.cv_cut.proofs.Ends.{same_rest}

-- ---- paths

-- a path that covers its own continuation
pub covers_append : (p q : Path) → covers p (p ++ q) ≡ true
covers_append p q = ap is_some (behind-append p q)

-- what doesn't cover a path, and doesn't end in a name, doesn't cover the path with the name
pub not_last : (r q : Path) (name : List _) → ends_in name r ≡ false → covers r q ≡ false → covers r (q ++ name ∷ []) ≡ false
not_last r q name other out =
    elim (covers r (q ++ name ∷ [])) as (λ t. covers r (q ++ name ∷ []) ≡ t → t ≡ false) [
      | true ↦ λ e. absurd (let wrong : true ≡ false = sym (ends_so q name) ∙ sym (ap (ends_in name) (covers_last r q name out e)) ∙ other in cc)
      | false ↦ λ e. refl
    ] refl

-- a path with some more names doesn't cover it
pub longer_covers_not : (q : Path) (s : Path) → s ≢ [] → covers (q ++ s) q ≡ false
longer_covers_not q s some = not_above q (q ++ s) (covers_append q s) (λ e. some (same_rest q s [] (e ∙ sym (append-nil q))))

-- ---- near paths

map_twice : (a : List _) (f : Path → Path) (xs : List Path) → map (λ (x : Path). a ∷ x) (map f xs) ≡ map (λ x. a ∷ f x) xs
map_twice a f [] = refl
map_twice a f (x ∷ xs) = ap (λ (w : List Path). (a ∷ f x) ∷ w) (map_twice a f xs)

-- what is between the root and a path behind r: what is above r, r itself, and what is between r and the path
pub between-behind : (r : Path) (a : List _) (q : Path) → r ≢ [] → between (r ++ a ∷ q) ≡ between r ++ r ∷ map (λ x. r ++ x) (between (a ∷ q))
between-behind [] a q some = absurd (some refl)
between-behind (b ∷ []) a q some = refl
between-behind (b ∷ c ∷ r) a q some =
    ap (λ (w : List Path). (b ∷ []) ∷ map (λ (x : Path). b ∷ x) w) (between-behind (c ∷ r) a q (λ e. cc))
    ∙ ap (λ (w : List Path). (b ∷ []) ∷ w) (map-append (λ (x : Path). b ∷ x) (between (c ∷ r)) ((c ∷ r) ∷ map (λ x. (c ∷ r) ++ x) (between (a ∷ q))))
    ∙ ap (λ (w : List Path). (b ∷ []) ∷ (map (λ (x : Path). b ∷ x) (between (c ∷ r)) ++ (b ∷ c ∷ r) ∷ w)) (map_twice b (λ x. (c ∷ r) ++ x) (between (a ∷ q)))

pub all_same : {X : Type 0} (f g : X → Bool) (xs : List X) → ((x : X) → Contains xs x → f x ≡ g x) → list_all f xs ≡ list_all g xs
all_same f g [] h = refl
all_same f g (x ∷ xs) h = let one = h x (first_there x xs) in let more = all_same f g xs (λ y has. h y (later_there x xs y has)) in λ i. one i && more i

-- ---- nodes

pub get-in : (u : Nodes) (r : Path) (s : Nodes) (q : Path) → get (put u r s) (r ++ q) ≡ get s q
get-in u r s q = get-put u r s (r ++ q) ∙ ap (λ o. at_rest o (get s) (get u (r ++ q))) (behind-append r q)

-- ---- marks

-- a path that r doesn't cover keeps its mark, where r isn't the path of a marker
pub marked-out : (u : Nodes) (r : Path) (s : Nodes) (q : Path) → ends_in marker r ≡ false → covers r q ≡ false → is_marked (put u r s) q ≡ is_marked u q
marked-out u r s q unmarked out =
    let there = kept-put u r s q out in
    let file = kept-put u r s (q ++ marker ∷ []) (not_last r q marker unmarked out) in
    λ i. is_directory (there i) && is_file (file i)

-- and at r and below are those of s
pub marked-in : (u : Nodes) (r : Path) (s : Nodes) (q : Path) → is_marked (put u r s) (r ++ q) ≡ is_marked s q
marked-in u r s q =
    let there = get-in u r s q in
    let file = ap (get (put u r s)) (append_assoc r q (marker ∷ [])) ∙ get-in u r s (q ++ marker ∷ []) in
    λ i. is_directory (there i) && is_file (file i)

-- ---- what is near

near-by : (u : Nodes) (r : Path) (s : Nodes) (q : Path) → ends_in marker r ≡ false → ((x : Path) → Contains (between q) x → covers r x ≡ false) → is_near (put u r s) q ≡ is_near u q
near-by u r s q unmarked out = all_same (λ x. not (is_marked (put u r s) x)) (λ x. not (is_marked u x)) (between q) (λ x has. ap not (marked-out u r s x unmarked (out x has)))

-- a path that r doesn't cover is near as it was
pub near-out : (u : Nodes) (r : Path) (s : Nodes) (q : Path) → ends_in marker r ≡ false → covers r q ≡ false → is_near (put u r s) q ≡ is_near u q
near-out u r s q unmarked out = near-by u r s q unmarked (λ x has. let b = between_is q x has in not_before r x b.rest (subst (λ (y : Path). covers r y ≡ false) b.is out))

-- so is r itself
pub near-here : (u : Nodes) (r : Path) (s : Nodes) → ends_in marker r ≡ false → is_near (put u r s) r ≡ is_near u r
near-here u r s unmarked = near-by u r s r unmarked (λ x has. let b = between_is r x has in subst (λ (y : Path). covers y x ≡ false) (sym b.is) (longer_covers_not x b.rest b.more))

-- a path of s that is near the cut above, with none between: the root of s, and below it what is near where the root isn't marked
abbrev pub is_within : Nodes → Path → Bool
is_within s [] = true
is_within s (a ∷ q) = not (is_marked s []) && is_near s (a ∷ q)

-- where no cut stands between the cut and r, what is near at r and below is that of s
pub near-in : (u : Nodes) (r : Path) (s : Nodes) (q : Path) → ends_in marker r ≡ false → r ≢ [] → is_near u r ≡ true → is_near (put u r s) (r ++ q) ≡ is_within s q
near-in u r s [] unmarked some near = ap (is_near (put u r s)) (append-nil r) ∙ near-here u r s unmarked ∙ near
near-in u r s (a ∷ q) unmarked some near =
    let f = λ (x : Path). not (is_marked (put u r s) x) in
    let here : f r ≡ not (is_marked s []) = ap f (sym (append-nil r)) ∙ ap not (marked-in u r s []) in
    let deeper : list_all f (map (λ x. r ++ x) (between (a ∷ q))) ≡ is_near s (a ∷ q) =
    list_all-map f (λ x. r ++ x) (between (a ∷ q)) ∙ all_same (λ x. f (r ++ x)) (λ x. not (is_marked s x)) (between (a ∷ q)) (λ x has. ap not (marked-in u r s x)) in
    ap (list_all f) (between-behind r a q some)
    ∙ list_all-append f (between r) (r ∷ map (λ x. r ++ x) (between (a ∷ q)))
    ∙ ap (λ b. b && (f r && list_all f (map (λ x. r ++ x) (between (a ∷ q))))) (near-here u r s unmarked ∙ near)
    ∙ (λ i. here i && deeper i)

-- the same of what stands at r before
pub near-at : (u : Nodes) (r q : Path) → ends_in marker r ≡ false → r ≢ [] → is_near u r ≡ true → is_near u (r ++ q) ≡ is_within (at u r) q
near-at u r q unmarked some near = ap (λ (w : Nodes). is_near w (r ++ q)) (sym (put-at u r)) ∙ near-in u r (at u r) q unmarked some near
