-- Segments of a list in one lane, over the function from ids to where they stand.
use Rattle.std.proofs.Common.{◌≡◌, ◌≢◌, ◌⊎◌, ℕ, zero, suc, ◌<◌, List, [], ◌∷◌, ◌++◌, length, Option, Some, None, option_map, refl, sym, ap, ◌∙◌, inl, inr, arith, Contains, get_or}
use Rattle.std.proofs.lemmas.Option.{same_Some}
use Rattle.std.proofs.lemmas.List.Elements.{Contains-append_left, Contains-append_right, Contains-append_cases}
use Rattle.cv_links.specs.declared.id.Id.{Id}
use Rattle.cv_links.specs.declared.links.Link.{Link}
use Rattle.cv_links.specs.declared.links.Link.TheVariants.{Free, Held}
use Rattle.cv_links.specs.LinksInner.{with_before, with_after}
use Rattle.cv_links.specs.Chains.{head_or, last_or, Runs, AreApart}

pub here : (x : Id) (xs : List Id) → Contains (x ∷ xs) x
here x xs = (0, omega arith, refl)

pub later : (y : Id) (xs : List Id) (x : Id) → Contains xs x → Contains (y ∷ xs) x
later y xs x c = Contains-append_right (y ∷ []) xs x c

pub cons_cases : (y : Id) (xs : List Id) (x : Id) → Contains (y ∷ xs) x → (y ≡ x) ⊎ Contains xs x
cons_cases y xs x c = by_index c.0 c.1 c.2
  where
    by_index : (k : ℕ) → k < suc (length xs) → get_or (y ∷ xs) k x ≡ x → (y ≡ x) ⊎ Contains xs x
    by_index zero within found = inl found
    by_index (suc k) within found = inr (k, omega arith, found)

pub none_within : (x : Id) → Contains [] x → ⊥
none_within x c = omega (arith, c.1)

-- the last of a list stands in it
pub last_in : (xs : List Id) (y x : Id) → last_or xs (Some y) ≡ Some x → Contains (y ∷ xs) x
last_in [] y x e = (0, omega arith, same_Some y x e)
last_in (z ∷ zs) y x e = later y (z ∷ zs) x (last_in zs z x e)

pub last_within : (xs : List Id) (x : Id) → last_or xs None ≡ Some x → Contains xs x
last_within [] x e = absurd (cc)
last_within (y ∷ ys) x e = last_in ys y x e

pub head_or-append : (xs ys : List Id) (n : Option Id) → head_or (xs ++ ys) n ≡ head_or xs (head_or ys n)
head_or-append [] ys n = refl
head_or-append (x ∷ xs) ys n = refl

pub last_or-append : (xs ys : List Id) (p : Option Id) → last_or (xs ++ ys) p ≡ last_or ys (last_or xs p)
last_or-append [] ys p = refl
last_or-append (x ∷ xs) ys p = last_or-append xs ys (Some x)

module _ (f : Id → Option Link) where
  -- each id of a segment is in a list
  pub runs_held : (xs : List Id) (p n : Option Id) (i : Id) → Runs f p xs n → Contains xs i → f i ≢ Some Free
  runs_held [] p n i r c e = none_within i c
  runs_held (x ∷ xs) p n i r c e =
      elim (cons_cases x xs i c) [
        | inl same ↦ let now : f i ≡ Some (Held p (head_or xs n)) = rw (← same) r.0 in absurd (cc)
        | inr there ↦ runs_held xs (Some x) n i r.1 there e
      ]

  pub runs_live : (xs : List Id) (p n : Option Id) (i : Id) → Runs f p xs n → Contains xs i → (b a : Option Id) × (f i ≡ Some (Held b a))
  runs_live [] p n i r c = absurd (none_within i c)
  runs_live (x ∷ xs) p n i r c =
      elim (cons_cases x xs i c) [
        | inl same ↦ (p, head_or xs n, rw (← same) r.0)
        | inr there ↦ runs_live xs (Some x) n i r.1 there
      ]

  pub runs_cat : (xs ys : List Id) (p n : Option Id) → Runs f p xs (head_or ys n) → Runs f (last_or xs p) ys n → Runs f p (xs ++ ys) n
  runs_cat [] ys p n a b = b
  runs_cat (x ∷ xs) ys p n a b = (rw (head_or-append xs ys n) a.0, runs_cat xs ys (Some x) n a.1 b)

  pub runs_cut : (xs ys : List Id) (p n : Option Id) → Runs f p (xs ++ ys) n → Runs f p xs (head_or ys n) × Runs f (last_or xs p) ys n
  runs_cut [] ys p n r = (tt, r)
  runs_cut (x ∷ xs) ys p n r =
      let rest = runs_cut xs ys (Some x) n r.1 in
      ((rw (head_or-append xs ys n) at r.0, rest.0), rest.1)

module _ (f g : Id → Option Link) where
  pub runs_kept : (xs : List Id) (p n : Option Id) → ((i : Id) → Contains xs i → g i ≡ f i) → Runs f p xs n → Runs g p xs n
  runs_kept [] p n k r = tt
  runs_kept (x ∷ xs) p n k r = (k x (here x xs) ∙ r.0, runs_kept xs (Some x) n (λ i c. k i (later x xs i c)) r.1)

  -- another id after a segment: its last id alone has to say so
  pub runs_end : (xs : List Id) (p n m : Option Id) → AreApart xs
      → ((i : Id) → Contains xs i → last_or xs None ≢ Some i → g i ≡ f i)
      → ((i : Id) → last_or xs None ≡ Some i → g i ≡ option_map (with_after m) (f i))
      → Runs f p xs n → Runs g p xs m
  runs_end [] p n m a k e r = tt
  runs_end (x ∷ []) p n m a k e r = (e x refl ∙ ap (option_map (with_after m)) r.0, tt)
  runs_end (x ∷ y ∷ ys) p n m a k e r = (
    k x (here x (y ∷ ys)) (λ last. a.0 (last_in ys y x last)) ∙ r.0,
    runs_end (y ∷ ys) (Some x) n m a.1 (λ i c. k i (later x (y ∷ ys) i c)) e r.1,
  )

  -- another id before a segment: its first id alone has to say so
  pub runs_start : (xs : List Id) (p q n : Option Id) → AreApart xs
      → ((i : Id) → Contains xs i → head_or xs None ≢ Some i → g i ≡ f i)
      → ((i : Id) → head_or xs None ≡ Some i → g i ≡ option_map (with_before q) (f i))
      → Runs f p xs n → Runs g q xs n
  runs_start [] p q n a k e r = tt
  runs_start (x ∷ xs) p q n a k e r = (
    e x refl ∙ ap (option_map (with_before q)) r.0,
    runs_kept xs (Some x) n (λ i c. k i (later x xs i c) (λ same. a.0 (rw (← same_Some x i same) at c))) r.1,
  )

pub apart_cat : (xs ys : List Id) → AreApart xs → AreApart ys → ((i : Id) → Contains xs i → Contains ys i → ⊥) → AreApart (xs ++ ys)
apart_cat [] ys a b d = b
apart_cat (x ∷ xs) ys a b d = (
  λ c. elim (Contains-append_cases xs ys x c) [ inl p ↦ a.0 p | inr p ↦ d x (here x xs) p ],
  apart_cat xs ys a.1 b (λ i p q. d i (later x xs i p) q),
)

pub apart_left : (xs ys : List Id) → AreApart (xs ++ ys) → AreApart xs
apart_left [] ys a = tt
apart_left (x ∷ xs) ys a = (λ c. a.0 (Contains-append_left xs ys x c), apart_left xs ys a.1)

pub apart_right : (xs ys : List Id) → AreApart (xs ++ ys) → AreApart ys
apart_right [] ys a = a
apart_right (x ∷ xs) ys a = apart_right xs ys a.1

pub apart_between : (xs ys : List Id) → AreApart (xs ++ ys) → (i : Id) → Contains xs i → Contains ys i → ⊥
apart_between [] ys a i p q = none_within i p
apart_between (x ∷ xs) ys a i p q =
    elim (cons_cases x xs i p) [
      | inl same ↦ a.0 (Contains-append_right xs ys x (rw same q))
      | inr there ↦ apart_between xs ys a.1 i there q
    ]

pub head_within : (xs : List Id) (x : Id) → head_or xs None ≡ Some x → Contains xs x
head_within [] x e = absurd (cc)
head_within (y ∷ ys) x e = (0, omega arith, same_Some y x e)

-- the two sides of a place, where no more than what stands beside it is changed
pub sides : (f g : Id → Option Link) (xs ys : List Id) (id : Id) (before after a b n q : Option Id)
    → AreApart xs → AreApart ys → ((i : Id) → Contains xs i → Contains ys i → ⊥)
    → (Contains xs id → ⊥) → (Contains ys id → ⊥)
    → before ≡ last_or xs None → after ≡ head_or ys None
    → ((i : Id) → i ≢ id → before ≢ Some i → after ≢ Some i → g i ≡ f i)
    → ((i : Id) → before ≡ Some i → i ≢ id → after ≢ Some i → g i ≡ option_map (with_after a) (f i))
    → ((i : Id) → after ≡ Some i → i ≢ id → before ≢ Some i → g i ≡ option_map (with_before b) (f i))
    → Runs f None xs n → Runs f q ys None → Runs g None xs a × Runs g b ys None
sides f g xs ys id before after a b n q ax ay d nx ny eb ea mid left right rx ry = (
  runs_end f g xs None n a ax
      (λ i c e. mid i (λ same. nx (rw same at c)) (λ s. e (sym eb ∙ s)) (λ s. d i c (head_within ys i (sym ea ∙ s))))
      (λ i e. let c = last_within xs i e in left i (eb ∙ e) (λ same. nx (rw same at c)) (λ s. d i c (head_within ys i (sym ea ∙ s))))
      rx,
  runs_start f g ys q b None ay
      (λ i c e. mid i (λ same. ny (rw same at c)) (λ s. d i (last_within xs i (sym eb ∙ s)) c) (λ s. e (sym ea ∙ s)))
      (λ i e. let c = head_within ys i e in right i (ea ∙ e) (λ same. ny (rw same at c)) (λ s. d i (last_within xs i (sym eb ∙ s)) c))
      ry,
)
