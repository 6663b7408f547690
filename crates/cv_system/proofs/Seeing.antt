-- Folders that are seen on the way of a path.
use Rattle.std.proofs.Common.{◌≡◌, ◌∙◌, ◌+◌, ◌<◌, ◌≤◌, ◌++◌, ◌∷◌, [], suc, List, ℕ, sym, ap, subst, inl, inr, take, drop, length, add-one, append_assoc, drop-cons}
use Rattle.std.proofs.Math.Seq.{take-suc}
use Rattle.std.proofs.lemmas.List.{append-nil, drop_all}
use Rattle.cv_system.specs.Calls.{Log}
use Rattle.cv_system.specs.Looks.{MissesFolder, SeesFolders, folders_behind, folders_past, folders_at}

-- some folders, and then others
pub sees_then : (folders others : List (List ℕ)) (before between after : Log) → SeesFolders folders before between → SeesFolders others between after → SeesFolders (folders ++ others) before after
sees_then [] others before between after same more = subst (λ (log : Log). SeesFolders others log after) same more
sees_then (folder ∷ folders) others before between after (seen, is_folder, rest) more = (seen, is_folder, sees_then folders others _ between after rest more)

-- some folders, and then one that is none
pub sees_and_misses : (folders others : List (List ℕ)) (before between after : Log) → SeesFolders folders before between → MissesFolder others between after → MissesFolder (folders ++ others) before after
sees_and_misses [] others before between after same more = subst (λ (log : Log). MissesFolder others log after) same more
sees_and_misses (folder ∷ folders) others before between after (seen, is_folder, rest) more = inr (seen, is_folder, sees_and_misses folders others _ between after rest more)

-- one that is none, whatever is behind it
pub misses_before : (folders others : List (List ℕ)) (before after : Log) → MissesFolder folders before after → MissesFolder (folders ++ others) before after
misses_before [] others before after never = absurd never
misses_before (folder ∷ folders) others before after (inl none) = inl none
misses_before (folder ∷ folders) others before after (inr (seen, is_folder, rest)) = inr (seen, is_folder, misses_before folders others _ after rest)

next_place : (path : List ℕ) (i : ℕ) → i < length path
    → folders_behind (take i path) (drop i path) ≡ folders_at path i ++ folders_behind (take (i + 1) path) (drop (i + 1) path)
unfolding folders_behind
next_place path i h =
    rw add-one
    (ap (folders_behind (take i path)) (drop-cons path i 0 h)
    ∙ ap (λ (front : List ℕ). folders_at path i ++ folders_behind front (drop (suc i) path)) (sym (take-suc path i 0 h)))

-- where a path leads: so far these folders were seen, and those at its next place too
module _ (path : List ℕ) (from i : ℕ) (front : List (List ℕ)) (within : i < length path) (so_far : front ++ folders_behind (take i path) (drop i path) ≡ folders_past from path) where
  pub rest_is : front ++ (folders_at path i ++ folders_behind (take (i + 1) path) (drop (i + 1) path)) ≡ folders_past from path
  rest_is = ap (λ (folders : List (List ℕ)). front ++ folders) (sym (next_place path i within)) ∙ so_far

  pub one_place_more : (front ++ folders_at path i) ++ folders_behind (take (i + 1) path) (drop (i + 1) path) ≡ folders_past from path
  one_place_more = append_assoc front (folders_at path i) _ ∙ rest_is

  pub ends_here : (before between after : Log) → SeesFolders front before between → MissesFolder (folders_at path i) between after → MissesFolder (folders_past from path) before after
  ends_here before between after seen none =
      subst (λ (folders : List (List ℕ)). MissesFolder folders before after) rest_is
      (sees_and_misses front _ before between after seen (misses_before (folders_at path i) _ between after none))

-- at the end of a path there is no other place
pub all_seen : (path : List ℕ) (from i : ℕ) (front : List (List ℕ)) → length path ≤ i → front ++ folders_behind (take i path) (drop i path) ≡ folders_past from path → front ≡ folders_past from path
unfolding folders_behind
all_seen path from i front beyond so_far =
    sym (append-nil front) ∙ ap (λ (rest : List ℕ). front ++ folders_behind (take i path) rest) (sym (drop_all i path beyond)) ∙ so_far
