-- The head of a new revision comes to the disk.
use Rattle.std.proofs.Common.{◌≡◌, ◌⊎◌, ◌==◌, Bool, true, false, cond, ℕ, List, [], ◌∷◌, ◌++◌, refl, sym, ap, subst, ◌∙◌, inl, inr}
use Rattle.std.specs.declared.option.Option.TheVariants.{None, Some}
use Rattle.cv_base.specs.ObjectId.{file_name}
use Rattle.cv_base.specs.declared.id.ObjectId.{ObjectId}
use Rattle.cv_ports.specs.Shelf.{Shelf}
use Rattle.cv_vault.specs.Names.{Name, on_way}
use Rattle.cv_vault.specs.Disk.{Disk, File, Files, May}
use Rattle.cv_vault.specs.Walks.{Stays, Comes, Gains, Within, ComesTo}
use Rattle.cv_objects.specs.Names.{is_digest, objects_of}
use Rattle.cv_objects.proofs.Lemmas.{digest_back}
use Rattle.cv_swap.specs.Kept.{Revision, newest, AreSound, Kept}
use Rattle.cv_swap.specs.Stands.{head_name, epoch_name, epoch_text}
use Rattle.cv_swap.proofs.Lemmas.{head_not_data}
use Rattle.cv_gate.specs.State.{State, aged, unmade, published, with_revision}
use Rattle.cv_gate.specs.Commits.{made}
use Rattle.cv_gate.specs.Objects.{GainsAll}
use Rattle.cv_gate.specs.Sound.{Sound}
use Rattle.cv_gate.specs.Kept.{Pending, BringsObjects, WouldCommit, Left, stays}
use Rattle.cv_gate.proofs.Lemmas.{newest_push, some_of_all, left_sound, left_same, left_gain, hashed_made}
use Rattle.cv_desk.specs.Holds.{IsHeadOf, SaysNewest, Holds, Survives}
use Rattle.cv_desk.proofs.Names.{none_under}
use Rattle.cv_desk.proofs.Imaging.{settled_itself, settled_same}

abbrev begins_with_dot : Name → Bool
begins_with_dot [] = false
begins_with_dot (b ∷ bs) = b == 46

epoch_not_head : epoch_name ≡ head_name → ⊥
epoch_not_head e = let told : false ≡ true = ap begins_with_dot e in cc

-- ---- the state that the disk holds then

module _ (name : List ℕ) (is_seal : List ℕ → List ℕ → Bool) (new : Revision) (manifest : List ℕ) (d d' : Disk) (st : State) (says : IsHeadOf name is_seal new (Some manifest)) (h : Holds name is_seal d st)
    (none : st.doubt ≡ None) (g : Gains on_way (ComesTo head_name (Some manifest)) d d') where
  kept_may : (id : ObjectId) (f : File) → May (d' (file_name id)) f → May (d (file_name id)) f
  kept_may id f may = elim (g.each (file_name id) refl) [ Stays same less ↦ less f may | Comes came less ↦ absurd (head_not_data id (sym came.0)) ]

  kept_now : (id : ObjectId) → (d' (file_name id)).now ≡ (d (file_name id)).now
  kept_now id = elim (g.each (file_name id) refl) [ Stays same less ↦ same | Comes came less ↦ absurd (head_not_data id (sym came.0)) ]

  kept_epoch : (f : File) → May (d' epoch_name) f → f ≡ Some (epoch_text st.epoch)
  kept_epoch f may = elim (g.each epoch_name refl) [ Stays same less ↦ h.epoch f (less f may) | Comes came less ↦ absurd (epoch_not_head came.0) ]

  old_head : (f : File) → SaysNewest name is_seal st f → SaysNewest name is_seal (record st { doubt = Some new }) f
  old_head f x = record {
    settled = record st { doubt = None };
    settles = unmade new refl refl;
    newest_ = x.newest_;
    is_newest = ap (λ (s : State). newest s.history) (sym (settled_same st x.settled none x.settles)) ∙ x.is_newest;
    is = x.is;
  }

  new_head : (f : File) → IsHeadOf name is_seal new f → SaysNewest name is_seal (record st { doubt = Some new }) f
  new_head f is = record { settled = with_revision (record st { doubt = None }) new; settles = published new refl refl; newest_ = new; is_newest = newest_push st.history new; is = is }

  -- whatever was answered, it holds the state with the commit in doubt
  pub doubt_held : Holds name is_seal d' (record st { doubt = Some new })
  doubt_held = record {
    head = λ f may. elim (g.each head_name refl) [
      | Stays same less ↦ old_head f (h.head f (less f may))
      | Comes came less ↦ elim (less f may) [
        | inl old ↦ old_head f (h.head f old)
        | inr comes ↦ new_head f (subst (IsHeadOf name is_seal new) (sym comes.1) says)
      ]
    ];
    now = λ id is. kept_now id ∙ h.now id is;
    may = λ id f is may. h.may id f is (kept_may id f may);
    epoch = kept_epoch;
  }

  -- where each image has the new head, the commit was made
  pub made_held : ((f : File) → May (d' head_name) f → f ≡ Some manifest) → Holds name is_seal d' (with_revision st new)
  made_held is = record {
    head = λ f may. record {
      settled = with_revision st new;
      settles = settled_itself (with_revision st new) none;
      newest_ = new;
      is_newest = newest_push st.history new;
      is = subst (IsHeadOf name is_seal new) (sym (is f may)) says;
    };
    now = λ id is. kept_now id ∙ h.now id is;
    may = λ id f is may. h.may id f is (kept_may id f may);
    epoch = kept_epoch;
  }

-- ---- what a crash leaves meanwhile

module _ (name : List ℕ) (is_seal : List ℕ → List ℕ → Bool) (manifest : List ℕ) (d : Disk) (st stored : State) (new : Revision) (p : Pending) (f : Files) (says : IsHeadOf name is_seal new (Some manifest))
    (h : Holds name is_seal d stored) (s : Sound st) (none : st.doubt ≡ None) (g : GainsAll (made new) (aged st p.now) stored) (after : Sound (with_revision stored new))
    (brings : BringsObjects (aged st p.now) p.op (made new)) (would : WouldCommit st p (st.history ++ new ∷ [])) (within : Within on_way (ComesTo head_name (Some manifest)) d f) where
  same_under : (id : ObjectId) → objects_of f id ≡ stored.shelf id
  same_under id =
      elim (is_digest id.hash) as (λ b. is_digest id.hash ≡ b → cond b (f (file_name id)) None ≡ stored.shelf id) [
        | true ↦ λ e. elim (within.each (file_name id) refl) [
          | inl may ↦ elim (h.may id (f (file_name id)) (digest_back id.hash e) may) [
            | inl same ↦ same
            | inr gone ↦ (let tight : stored.loose id ≡ false = g.loose id in let lo = gone.1 in absurd cc)
          ]
          | inr head ↦ absurd (head_not_data id (sym head.0))
        ]
        | false ↦ λ e. sym (none_under stored.shelf id after.hashes e)
      ] refl

  shelf_is : objects_of f ≡ stored.shelf
  shelf_is = λ i id. same_under id i

  swap_left : (id : ObjectId) → Left st (made new) id (objects_of f id)
  swap_left id = left_same (made new) st (aged st p.now) id (objects_of f id) refl refl (left_gain (made new) (aged st p.now) stored id (objects_of f id) (some_of_all (made new) (aged st p.now) stored g) (stays (same_under id)))

  swap_epoch : f epoch_name ≡ Some (epoch_text st.epoch)
  swap_epoch = elim (within.each epoch_name refl) [
    | inl may ↦ h.epoch (f epoch_name) may ∙ ap (λ (x : State). Some (epoch_text x.epoch)) g.others
    | inr head ↦ absurd (epoch_not_head head.0)
  ]

  same_history : stored.history ≡ st.history
  same_history = ap (λ (x : State). x.history) g.others

  survives_as : (history : List Revision) → AreSound (objects_of f) history → (r : Revision) → newest history ≡ Some r → IsHeadOf name is_seal r (f head_name)
      → (history ≡ st.history) ⊎ WouldCommit st p history → Survives name is_seal st (Some p) f
  survives_as history sound r is_newest head grown =
      let k : Kept = record { history = history; shelf = objects_of f; epoch = st.epoch } in record {
        kept = k;
        stands = record { newest_ = r; is_newest = is_newest; head = head; shelf = λ id. refl; epoch = swap_epoch; kept = record { sound = sound; epoch = s.epoch } };
        crash = record { sound = sound; epoch = refl; settled = st; settles = settled_itself st none; history = grown; objects = made new; brings = brings; shelf = swap_left };
      }

  pub swap_survives : Survives name is_seal st (Some p) f
  swap_survives = elim (within.each head_name refl) [
    | inl may ↦
        let head : SaysNewest name is_seal stored (f head_name) = h.head (f head_name) may in
        let left : stored.doubt ≡ None = ap (λ (x : State). x.doubt) g.others ∙ none in
        let history : head.settled.history ≡ st.history = ap (λ (x : State). x.history) (settled_same stored head.settled left head.settles) ∙ same_history in
        survives_as st.history (left_sound st st (made new) (objects_of f) s (settled_itself st none) (hashed_made new) swap_left)
        head.newest_ (ap newest (sym history) ∙ head.is_newest) head.is (inl refl)
    | inr head ↦
        survives_as (st.history ++ new ∷ [])
        (subst (λ (x : Shelf). AreSound x (st.history ++ new ∷ [])) (sym shelf_is) (subst (λ (x : List Revision). AreSound stored.shelf (x ++ new ∷ [])) same_history after.kept))
        new (newest_push st.history new) (subst (IsHeadOf name is_seal new) (sym head.1) says) (inr would)
  ]
