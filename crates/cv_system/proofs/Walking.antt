-- A walk, turn by turn.
use Rattle.std.proofs.Common.{◌≡◌, ◌∙◌, ◌+◌, ◌≤◌, ◌++◌, ◌∷◌, [], ℕ, List, true, false, refl, sym, subst, inl, inr, length, map, drop}
use Rattle.std.specs.Prelude.{◌⊎◌, All, IsTrue}
use Rattle.std.proofs.lemmas.List.Elements.{All-map}
use Rattle.cv_base.specs.Counts.{last_count}
use Rattle.cv_system.specs.declared.syncing.Unsynced.{Unsynced}
use Rattle.cv_system.specs.declared.syncing.Unsynced.TheVariants.{NotOpened}
use Rattle.cv_system.specs.Calls.{Log}
use Rattle.cv_base.specs.Path.{with_slash}
use Rattle.cv_system.specs.Syncs.{FailsTop, PassesFolder, SettlesFolder}
use Rattle.cv_system.specs.Walks.{Begins, FailsAll, FailsTurn, FindsNext, IsUnder, SettlesAll, Turns, Walks, first_of, is_inside}
use Rattle.cv_system.proofs.LastParts.{first_under}

-- into the folder that comes next
pub turns_into : (top folder last : List ℕ) (kept found : List (List ℕ)) (before looked : Log) → FindsNext top folder last kept found before looked
    → (here : List ℕ) → here ≡ folder → is_inside here found ≡ true → IsUnder top folder
    → (next folder' last' : List ℕ) (kept' : List (List ℕ)) → next ≡ first_of found → last' ≡ first_of found → kept' ≡ drop 1 found ++ [] ∷ [] → folder' ≡ next
    → (after : Log) → SettlesFolder next looked after ⊎ PassesFolder next looked after → Turns top folder last kept folder' last' kept' before after
turns_into top folder last kept found before looked finds here same inside under next folder' last' kept' is last_is rest now after settles =
    let within : IsTrue (is_inside folder found) = subst (λ (f : List ℕ). is_inside f found ≡ true) same inside in (
      found,
      looked,
      finds,
      inl (
        within,
        subst (IsUnder top) (sym (now ∙ is)) (first_under top folder (first_of found) within under),
        now ∙ is,
        last_is,
        rest,
        subst (λ (f : List ℕ). SettlesFolder f looked after ⊎ PassesFolder f looked after) (sym now) settles,
      ),
    )

-- it begins at its top
pub begins_so : (top folder last : List ℕ) (kept free : List (List ℕ)) (before after : Log) → folder ≡ with_slash top → last ≡ with_slash top → kept ≡ map (λ _. []) free
    → SettlesFolder (with_slash top) before after → Walks top before 0 folder last kept after
begins_so top folder last kept free before after at also none settles =
    subst (λ (f : List ℕ). Walks top before 0 f last kept after) (sym at)
    (subst (λ (l : List ℕ). Walks top before 0 (with_slash top) l kept after) (sym also)
    (Begins (subst (All (λ path. path ≡ [])) (sym none) (All-map (λ path. path ≡ []) (λ _. []) free (λ k d within. refl))) settles))

-- it ends there
pub ends_so : (top folder last folder' : List ℕ) (kept found : List (List ℕ)) (before between after : Log) (turns : ℕ) → Walks top before turns folder last kept between
    → folder' ≡ with_slash top → folder' ≡ folder → is_inside folder found ≡ false → FindsNext top folder last kept found between after → SettlesAll top before after
unfolding SettlesAll
ends_so top folder last folder' kept found before between after turns walks at same outside finds =
    let here : folder ≡ with_slash top = sym same ∙ at in (
      turns,
      last,
      kept,
      found,
      between,
      subst (λ (f : List ℕ). Walks top before turns f last kept between) here walks,
      subst (λ (f : List ℕ). FindsNext top f last kept found between after) here finds,
      subst (λ (f : List ℕ). is_inside f found ≡ false) here outside,
    )

module _ (top : List ℕ) (before : Log) where
  -- why it doesn't
  pub too_long : (unsynced : Unsynced) → 4096 ≤ length top + 1 → unsynced ≡ NotOpened → FailsAll top unsynced before before
  unfolding FailsAll
  too_long unsynced long is = inl (long, is, refl)

  pub top_fails : (unsynced told : Unsynced) (folder : List ℕ) (after : Log) → unsynced ≡ told → folder ≡ with_slash top → FailsTop folder told before after → FailsAll top unsynced before after
  unfolding FailsAll
  top_fails unsynced told folder after same at fails =
      inr (inl (subst (λ (f : List ℕ). FailsTop f unsynced before after) at (subst (λ u. FailsTop folder u before after) (sym same) fails)))

  module _ (turns : ℕ) (folder last : List ℕ) (kept : List (List ℕ)) (between : Log) (walks : Walks top before turns folder last kept between) where
    pub turn_fails : (unsynced told : Unsynced) (after : Log) → unsynced ≡ told → FailsTurn top folder last kept told between after → FailsAll top unsynced before after
    unfolding FailsAll
    turn_fails unsynced told after same fails = inr (inr (turns, folder, last, kept, between, walks, inl (subst (λ u. FailsTurn top folder last kept u between after) (sym same) fails)))

    pub no_end : last_count ≤ turns → FailsAll top NotOpened before between
    unfolding FailsAll
    no_end many = inr (inr (turns, folder, last, kept, between, walks, inr (many, refl, refl)))
