-- Names that a walk looks at, one after another.
use Rattle.std.proofs.Common.{◌≡◌, ℕ, Bool, true, false, List, [], ◌∷◌, ◌++◌, refl, subst, inl, inr}
use Rattle.std.specs.Prelude.{IsSome}
use Rattle.cv_system.specs.Calls.{Log}
use Rattle.cv_system.specs.Passed.{IsShut}
use Rattle.cv_system.specs.Walks.{FailsAmong, FailsToLook, LooksAt, LooksAtAll, LooksFor}
use Rattle.cv_system.proofs.Trying.{told_before}

-- some names, and then others
looks_then : (folder last : List ℕ) (names others : List (List ℕ)) (kept between kept' : List (List ℕ)) (before looked after : Log)
    → LooksAtAll folder last names kept between before looked → LooksAtAll folder last others between kept' looked after → LooksAtAll folder last (names ++ others) kept kept' before after
looks_then folder last [] others kept between kept' before looked after (same, still) more =
    subst (λ (k : List (List ℕ)). LooksAtAll folder last others k kept' before after) same (subst (λ (l : Log). LooksAtAll folder last others between kept' l after) still more)
looks_then folder last (name ∷ names) others kept between kept' before looked after (next, seen, look, done) more =
    (next, seen, look, looks_then folder last names others next between kept' seen looked after done more)

module _ (folder last folder' last' : List ℕ) (same_folder : folder' ≡ folder) (same_last : last' ≡ last) where
  -- one name more
  pub looks_at_more : (names : List (List ℕ)) (name : List ℕ) (kept between kept' : List (List ℕ)) (before looked after : Log)
      → LooksAtAll folder last names kept between before looked → LooksAt folder' last' name between kept' looked after → LooksAtAll folder last (names ++ name ∷ []) kept kept' before after
  looks_at_more names name kept between kept' before looked after done look =
      let same : LooksAt folder last name between kept' looked after =
      subst (λ f. LooksAt f last name between kept' looked after) same_folder (subst (λ l. LooksAt folder' l name between kept' looked after) same_last look) in
      looks_then folder last names (name ∷ []) kept between kept' before looked after done (kept', after, same, (refl, refl))

  -- or the look at it fails
  pub fails_at : (all names : List (List ℕ)) (name : List ℕ) (others kept between : List (List ℕ)) (before looked after : Log) → all ≡ names ++ name ∷ others
      → LooksAtAll folder last names kept between before looked → FailsToLook folder' (folder' ++ name) looked after → FailsAmong folder last all kept before after
  fails_at all names name others kept between before looked after is done fails =
      (names, name, others, between, looked, is, done, subst (λ f. FailsToLook f (f ++ name) looked after) same_folder fails)

-- ---- what is told behind such looks was told before

shut_told : (folder : List ℕ) (before after : Log) → IsShut folder before after → IsSome after → IsSome before
shut_told folder before after (inl (told, shut, is)) some = told_before _ _ _ is some
shut_told folder before after (inr (long, same)) some = subst (λ (log : Log). IsSome log) same some

look_told : (folder entry : List ℕ) (is : Bool) (before after : Log) → LooksFor folder entry is before after → IsSome after → IsSome before
look_told folder entry true before after (seen, is_folder, is) some = told_before _ _ _ is some
look_told folder entry false before after (inl (seen, not, is)) some = told_before _ _ _ is some
look_told folder entry false before after (inr (inl (cause, nothing, is))) some = told_before _ _ _ is some
look_told folder entry false before after (inr (inr (cause, refused, shut))) some = told_before _ _ _ refl (shut_told folder _ after shut some)

name_told : (folder last name : List ℕ) (kept kept' : List (List ℕ)) (before after : Log) → LooksAt folder last name kept kept' before after → IsSome after → IsSome before
name_told folder last name kept kept' before after (inl (never, same, still)) some = subst (λ (log : Log). IsSome log) still some
name_told folder last name kept kept' before after (inr (next, is, looks, keeps)) some = look_told folder (folder ++ name) is before after looks some

pub names_told : (folder last : List ℕ) (names kept kept' : List (List ℕ)) (before after : Log) → LooksAtAll folder last names kept kept' before after → IsSome after → IsSome before
names_told folder last [] kept kept' before after (same, still) some = subst (λ (log : Log). IsSome log) still some
names_told folder last (name ∷ names) kept kept' before after (between, seen, look, more) some =
    name_told folder last name kept between before seen look (names_told folder last names between kept' seen after more some)
