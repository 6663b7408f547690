-- How the texts of paths are ordered.
use Rattle.std.proofs.Common.{◌≡◌, ◌≢◌, ℕ, zero, suc, ◌+◌, ◌-◌, ◌⊎◌, ◌<◌, ◌≤◌, Bool, true, false, not, ltb, List, [], ◌∷◌, ◌++◌, length, get_or, drop, min, refl, sym, ap, subst, ◌∙◌, arith, inl, inr, append_assoc, append-nil, length-append, add-one, drop-cons}
use Rattle.std.specs.Prelude.{nat_eq}
use Rattle.std.specs.declared.cmp.Ordering.TheVariants.{Less, Equal, Greater}
use Rattle.std.specs.Ordering.{nat_cmp, ordering_reverse}
use Rattle.std.specs.Cmp.{tied_itself, nat_cmp_total, nat_cmp_is}
use Rattle.std.specs.Cmp.Lexicographic.{nat_list_cmp_total}
use Rattle.std.specs.FinMap.{nat_cmp-IsAntisymmetric}
use Rattle.std.specs.List.{list_all, starts_with}
use Rattle.std.proofs.lemmas.Bool.{cases_lt, lt-ltb, le-ltb, eq-eqb}
use Rattle.std.proofs.lemmas.Bool.Decides.{Decides-eqb}
use Rattle.std.proofs.lemmas.List.{drop_all, length-drop}
use Rattle.std.proofs.lemmas.List.Folds.{list_all-append}
use Rattle.std.proofs.lemmas.Slice.Eq.{starts_is}
use Rattle.cv_base.specs.Path.{Path, IsPath, text_of, is_path_name, is_path_byte, same_name}
use Rattle.cv_base.proofs.PathOrder.{same_name_is, same_name_itself}
use Rattle.cv_base.specs.TextOrderInner.{Follows}
use Rattle.cv_base.proofs.Bools.{first_true, second_true}
use Rattle.cv_base.specs.BytesOrder.{bytes_cmp}
use Rattle.cv_base.proofs.PathGrammar.{name_bytes}

-- ---- two names

-- a front that both have doesn't count
same_front : (x s t : List ℕ) → bytes_cmp (x ++ s) (x ++ t) ≡ bytes_cmp s t
same_front [] s t = refl
same_front (a ∷ x) s t = rw (tied_itself nat_cmp_total a) (same_front x s t)

-- a slash and another byte decide
slash_decides : (c : ℕ) (s t : List ℕ) → is_path_byte c ≡ true → nat_cmp 47 c ≡ bytes_cmp (47 ∷ s) (c ∷ t)
slash_decides c s t is =
    elim (nat_cmp 47 c) as (λ o. nat_cmp 47 c ≡ o → nat_cmp 47 c ≡ bytes_cmp (47 ∷ s) (c ∷ t)) [
      | Less ↦ λ e. rw e refl
      | Equal ↦ λ e. absurd (not_slash c is (sym (nat_cmp-IsAntisymmetric 47 c e)))
      | Greater ↦ λ e. rw e refl
    ] refl
  where
    not_slash : (c : ℕ) → is_path_byte c ≡ true → c ≡ 47 → ⊥
    not_slash c is same = let other : is_path_byte 47 ≡ true = subst (λ (b : ℕ). is_path_byte b ≡ true) same is in cc

at_end : (a r : List ℕ) (c : ℕ) → get_or (a ++ c ∷ r) (length a) 0 ≡ c
at_end [] r c = refl
at_end (x ∷ a) r c = at_end a r c

behind_front : (a b : List ℕ) → starts_with nat_eq b a ≡ true → b ≡ a ++ drop (length a) b
behind_front a b h = (starts_is Decides-eqb b a (starts_with nat_eq b a) refl).0 h

-- a name that another begins with and isn't, is shorter
pub front_shorter : (a b : List ℕ) → starts_with nat_eq b a ≡ true → a ≢ b → length a < length b
front_shorter a b h apart = longer (drop (length a) b) (behind_front a b h)
  where
    longer : (r : List ℕ) → b ≡ a ++ r → length a < length b
    longer [] e = absurd (apart (sym (e ∙ append-nil a)))
    longer (c ∷ r) e = omega (arith, ap length e, length-append a (c ∷ r))

-- a name is followed by a slash where another goes on
pub slash_first : (a b s t : List ℕ) → starts_with nat_eq b a ≡ true → a ≢ b → list_all is_path_byte b ≡ true → Follows true s → nat_cmp 47 (get_or b (length a) 0) ≡ bytes_cmp (a ++ s) (b ++ t)
slash_first a b s t h apart bytes (more, slash) = longer (drop (length a) b) (behind_front a b h)
  where
    longer : (r : List ℕ) → b ≡ a ++ r → nat_cmp 47 (get_or b (length a) 0) ≡ bytes_cmp (a ++ s) (b ++ t)
    longer [] e = absurd (apart (sym (e ∙ append-nil a)))
    longer (c ∷ r) e =
        let good : is_path_byte c ≡ true = first_true (is_path_byte c) (list_all is_path_byte r) (second_true (list_all is_path_byte a) (list_all is_path_byte (c ∷ r)) (sym (list_all-append is_path_byte a (c ∷ r)) ∙ ap (list_all is_path_byte) (sym e) ∙ bytes)) in
        ap (λ (x : List ℕ). nat_cmp 47 (get_or x (length a) 0)) e ∙ ap (nat_cmp 47) (at_end a r c) ∙ slash_decides c more (r ++ t) good
        ∙ sym (same_front a (47 ∷ more) (c ∷ r ++ t)) ∙ (λ i. bytes_cmp (a ++ sym slash i) (sym (append_assoc a (c ∷ r) t) i)) ∙ ap (λ (x : List ℕ). bytes_cmp (a ++ s) (x ++ t)) (sym e)

pub slash_second : (a b s t : List ℕ) → starts_with nat_eq a b ≡ true → a ≢ b → list_all is_path_byte a ≡ true → Follows true t → nat_cmp (get_or a (length b) 0) 47 ≡ bytes_cmp (a ++ s) (b ++ t)
slash_second a b s t h apart bytes slash =
    nat_cmp_total.antisymm (get_or a (length b) 0) 47
    ∙ ap ordering_reverse (slash_first b a t s h (λ same. apart (sym same)) bytes slash)
    ∙ sym (nat_list_cmp_total.antisymm (a ++ s) (b ++ t))

-- what follows doesn't count where neither name goes on as the other's front
decided : (a b s t : List ℕ) → a ≢ b → (starts_with nat_eq b a ≡ true → s ≡ []) → (starts_with nat_eq a b ≡ true → t ≡ []) → bytes_cmp a b ≡ bytes_cmp (a ++ s) (b ++ t)
decided [] [] s t apart left right = absurd (apart refl)
decided [] (y ∷ b) s t apart left right = rw (left refl) refl
decided (x ∷ a) [] s t apart left right = rw (right refl) refl
decided (x ∷ a) (y ∷ b) s t apart left right =
    elim (nat_cmp x y) as (λ o. nat_cmp x y ≡ o → bytes_cmp (x ∷ a) (y ∷ b) ≡ bytes_cmp ((x ∷ a) ++ s) ((y ∷ b) ++ t)) [
      | Less ↦ λ e. rw e refl
      | Greater ↦ λ e. rw e refl
      | Equal ↦ λ e.
          let same : x ≡ y = nat_cmp-IsAntisymmetric x y e in
          let one : nat_eq x y ≡ true = eq-eqb x y same in
          let other : nat_eq y x ≡ true = eq-eqb y x (sym same) in
          rw e (decided a b s t (λ rest. apart (λ i. same i ∷ rest i)) (λ h. left (rw one h)) (λ h. right (rw other h)))
    ] refl

-- the names decide where neither goes on behind the other's front
pub names_decide : (a b : List ℕ) (a_goes_on b_goes_on : Bool) (s t : List ℕ) → a ≢ b → (a_goes_on ≡ true → starts_with nat_eq b a ≡ false) → (b_goes_on ≡ true → starts_with nat_eq a b ≡ false) → Follows a_goes_on s → Follows b_goes_on t → bytes_cmp a b ≡ bytes_cmp (a ++ s) (b ++ t)
names_decide a b a_goes_on b_goes_on s t apart left right follows_a follows_b =
    decided a b s t apart (ends a_goes_on (starts_with nat_eq b a) s left follows_a) (ends b_goes_on (starts_with nat_eq a b) t right follows_b)
  where
    ends : (goes_on front : Bool) (s : List ℕ) → (goes_on ≡ true → front ≡ false) → Follows goes_on s → front ≡ true → s ≡ []
    ends true front s other follows is = absurd (let wrong : front ≡ false = other refl in cc)
    ends false front s other follows is = follows

-- what the code tests
pub tested : (a b x y : List ℕ) (r t : Bool) → x ≡ a → y ≡ b → r ≡ starts_with nat_eq y x → r ≡ t → starts_with nat_eq b a ≡ t
tested a b x y r t x-is y-is says is = (λ i. starts_with nat_eq (sym y-is i) (sym x-is i)) ∙ sym says ∙ is

-- names that the code tells apart are other names
pub other_names : (a b x y : List ℕ) → x ≡ a → y ≡ b → true ≡ not (same_name a b) → x ≢ y
other_names a b x y x-is y-is differs same =
    let tied : same_name a b ≡ true = subst (λ (c : List ℕ). same_name a c ≡ true) (sym x-is ∙ same ∙ y-is) (same_name_itself a) in
    let wrong : true ≡ false = differs ∙ ap not tied in
    cc

pub same_names : (a b : List ℕ) → false ≡ not (same_name a b) → a ≡ b
same_names a b is = same_name_is a b (elim (same_name a b) as (λ t. false ≡ not t → t ≡ true) [ true ↦ λ h. refl | false ↦ λ h. absurd cc ] is)

-- ---- paths

-- the text of a path from an index on
pub text_at : (p : Path) (i : ℕ) (name : List ℕ) → i < length p → name ≡ get_or p i name → text_of (drop i p) ≡ 47 ∷ (name ++ text_of (drop (i + 1) p))
text_at p i name lt is = ap text_of (drop-cons p i name lt ∙ (λ j. sym is j ∷ drop (sym (add-one i) j) p))

-- it goes on with a slash, or ends
pub follows_at : (p : Path) (i : ℕ) → Follows (ltb i (length p)) (text_of (drop i p))
follows_at p i =
    elim (cases_lt i (length p)) [
      | inl lt ↦ rw (lt-ltb i (length p) lt) (let e = drop-cons p i [] lt in (get_or p i [] ++ text_of (drop (suc i) p), ap text_of e))
      | inr ge ↦ rw (le-ltb i (length p) ge) (ap text_of (drop_all i p ge))
    ]

-- the same name at an index doesn't count
pub same_name_at : (p q : Path) (i : ℕ) (a b : List ℕ) → i < length p → i < length q → a ≡ get_or p i a → b ≡ get_or q i b → a ≡ b → bytes_cmp (text_of (drop i p)) (text_of (drop i q)) ≡ bytes_cmp (text_of (drop (i + 1) p)) (text_of (drop (i + 1) q))
same_name_at p q i a b lp lq a-is b-is same =
    (λ j. bytes_cmp (text_at p i a lp a-is j) (text_at q i b lq b-is j))
    ∙ ap (λ (x : List ℕ). bytes_cmp (47 ∷ (a ++ text_of (drop (i + 1) p))) (47 ∷ (x ++ text_of (drop (i + 1) q)))) (sym same)
    ∙ same_front (47 ∷ a) (text_of (drop (i + 1) p)) (text_of (drop (i + 1) q))

-- other names at an index decide
pub other_name_at : (p q : Path) (i : ℕ) (a b x y : List ℕ) → i < length p → i < length q → a ≡ get_or p i a → b ≡ get_or q i b → x ≡ a → y ≡ b → bytes_cmp (x ++ text_of (drop (i + 1) p)) (y ++ text_of (drop (i + 1) q)) ≡ bytes_cmp (text_of (drop i p)) (text_of (drop i q))
other_name_at p q i a b x y lp lq a-is b-is x-is y-is =
    (λ j. bytes_cmp (x-is j ++ text_of (drop (i + 1) p)) (y-is j ++ text_of (drop (i + 1) q)))
    ∙ sym (same_front (47 ∷ []) (a ++ text_of (drop (i + 1) p)) (b ++ text_of (drop (i + 1) q)))
    ∙ (λ j. bytes_cmp (sym (text_at p i a lp a-is) j) (sym (text_at q i b lq b-is) j))

ended : (u v : Path) (m n : ℕ) → m + length v ≡ n + length u → (length u ≡ 0) ⊎ (length v ≡ 0) → nat_cmp m n ≡ bytes_cmp (text_of u) (text_of v)
ended [] [] m n e h = sym (nat_cmp_is m n Equal (omega (arith, e)))
ended [] (y ∷ v) m n e h = sym (nat_cmp_is m n Less (omega (arith, e)))
ended (x ∷ u) [] m n e h = sym (nat_cmp_is m n Greater (omega (arith, e)))
ended (x ∷ u) (y ∷ v) m n e h = absurd (elim h [ inl none ↦ omega arith | inr none ↦ omega arith ])

-- where a path is at its end, the lengths decide
pub lengths_decide : (p q : Path) (i : ℕ) → i ≤ length p → i ≤ length q → min (length p) (length q) ≤ i → nat_cmp (length p) (length q) ≡ bytes_cmp (text_of (drop i p)) (text_of (drop i q))
lengths_decide p q i lp lq end =
    let left : length (drop i p) ≡ length p - i = length-drop i p in
    let right : length (drop i q) ≡ length q - i = length-drop i q in
    ended (drop i p) (drop i q) (length p) (length q) (omega arith) (elim (cases_lt (length p) (length q)) [ inl less ↦ inl (omega arith) | inr ge ↦ inr (omega arith) ])

name_at : (p : Path) (i : ℕ) (name : List ℕ) → list_all is_path_name p ≡ true → i < length p → name ≡ get_or p i name → list_all is_path_byte name ≡ true
name_at [] i name all lt is = absurd (omega arith)
name_at (a ∷ p) zero name all lt is = rw is (name_bytes a (first_true (is_path_name a) (list_all is_path_name p) all))
name_at (a ∷ p) (suc i) name all lt is = name_at p i name (second_true (is_path_name a) (list_all is_path_name p) all) (omega arith) is

-- a name of a path has no slash
pub no_slash : (path names : Path) (i : ℕ) (name text : List ℕ) → names ≡ path → IsPath path → i < length names → name ≡ get_or names i name → text ≡ name → list_all is_path_byte text ≡ true
no_slash path names i name text same is lt name-is text-is =
    ap (list_all is_path_byte) text-is ∙ name_at names i name (ap (list_all is_path_name) same ∙ is.names) lt name-is
