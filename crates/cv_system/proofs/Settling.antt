-- Folders that are made durable, one after another.
use Rattle.std.proofs.Common.{◌≡◌, ◌∙◌, ◌+◌, ◌<◌, ◌++◌, ◌∷◌, [], suc, Bool, true, false, List, ℕ, map, take, drop, length, get_or, refl, sym, ap, subst, add-one, take-append-drop, drop-cons}
use Rattle.std.proofs.Math.Seq.{take-suc}
use Rattle.std.proofs.lemmas.List.{map-append}
use Rattle.cv_system.specs.Calls.{Call, Log, Outcome, Opened, Synced}
use Rattle.cv_system.specs.Steps.{Tries}
use Rattle.cv_system.specs.Syncs.{syncs}
use Rattle.cv_system.proofs.Trying.{tried_in_vain, tried_then}

-- the syncs of some folders, and then of others
pub syncs_append : (folders others : List (List ℕ)) → syncs (folders ++ others) ≡ syncs folders ++ syncs others
syncs_append [] others = refl
syncs_append (folder ∷ folders) others = ap (λ (calls : List (Outcome → Call)). Opened folder ∷ Synced folder ∷ calls) (syncs_append folders others)

-- one folder more
pub syncs_one_more : (folders : List (List ℕ)) (folder : List ℕ) (all : Bool) (before between after : Log)
    → Tries (syncs folders) true before between → Tries (syncs (folder ∷ [])) all between after → Tries (syncs (folders ++ folder ∷ [])) all before after
syncs_one_more folders folder all before between after tried then =
    subst (λ (calls : List (Outcome → Call)). Tries calls all before after) (sym (syncs_append folders (folder ∷ []))) (tried_then (syncs folders) (syncs (folder ∷ [])) all before between after tried then)

-- a folder that isn't made durable ends it, whatever comes behind
pub syncs_in_vain : (folders : List (List ℕ)) (folder : List ℕ) (others : List (List ℕ)) (before between after : Log)
    → Tries (syncs folders) true before between → Tries (syncs (folder ∷ [])) false between after → Tries (syncs (folders ++ folder ∷ others)) false before after
syncs_in_vain folders folder others before between after tried not =
    subst (λ (calls : List (Outcome → Call)). Tries calls false before after) (sym (syncs_append folders (folder ∷ others)))
    (tried_then (syncs folders) (syncs (folder ∷ others)) false before between after tried (tried_in_vain (syncs (folder ∷ [])) (syncs others) between after not))

module _ {A : Type 0} (view : A → List ℕ) (notes : List A) (i : ℕ) (note : A) where
  -- each that was noted so far was made durable, and one more is
  pub noted_one_more : i < length notes → get_or notes i note ≡ note → (folder : List ℕ) → folder ≡ view note → (before between after : Log)
      → Tries (syncs (map view (take i notes))) true before between → Tries (syncs (folder ∷ [])) true between after → Tries (syncs (map view (take (i + 1) notes))) true before after
  noted_one_more within at folder is before between after tried then =
      let more : map view (take (i + 1) notes) ≡ map view (take i notes) ++ folder ∷ [] =
      rw add-one (ap (map view) (take-suc notes i note within) ∙ map-append view (take i notes) (get_or notes i note ∷ [])
      ∙ ap (λ (n : A). map view (take i notes) ++ view n ∷ []) at ∙ ap (λ (f : List ℕ). map view (take i notes) ++ f ∷ []) (sym is)) in
      subst (λ (folders : List (List ℕ)). Tries (syncs folders) true before after) (sym more) (syncs_one_more (map view (take i notes)) folder true before between after tried then)

  -- or it isn't
  pub noted_in_vain : i < length notes → get_or notes i note ≡ note → (folder : List ℕ) → folder ≡ view note → (before between after : Log)
      → Tries (syncs (map view (take i notes))) true before between → Tries (syncs (folder ∷ [])) false between after → Tries (syncs (map view notes)) false before after
  noted_in_vain within at folder is before between after tried then =
      let all : map view (take i notes) ++ folder ∷ map view (drop (suc i) notes) ≡ map view notes =
      ap (λ (f : List ℕ). map view (take i notes) ++ f ∷ map view (drop (suc i) notes)) is
      ∙ ap (λ (n : A). map view (take i notes) ++ view n ∷ map view (drop (suc i) notes)) (sym at)
      ∙ sym (map-append view (take i notes) (get_or notes i note ∷ drop (suc i) notes))
      ∙ ap (map view) (ap (λ (rest : List A). take i notes ++ rest) (sym (drop-cons notes i note within)) ∙ take-append-drop i notes) in
      subst (λ (folders : List (List ℕ)). Tries (syncs folders) false before after) all (syncs_in_vain (map view (take i notes)) folder (map view (drop (suc i) notes)) before between after tried then)
