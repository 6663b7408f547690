-- From the images of a disk to what a crash leaves.
use Rattle.std.proofs.Common.{◌≡◌, Bool, true, false, cond, ℕ, List, [], refl, sym, subst, ◌∙◌, inl, inr}
use Rattle.std.specs.declared.option.Option.{Option}
use Rattle.std.specs.declared.option.Option.TheVariants.{None, Some}
use Rattle.cv_base.specs.Digest.{IsDigest}
use Rattle.cv_base.specs.ObjectId.{file_name}
use Rattle.cv_base.specs.declared.id.ObjectId.{ObjectId}
use Rattle.cv_base.specs.declared.object.Object.{Object}
use Rattle.cv_base.proofs.Laws.{one_file_name}
use Rattle.cv_vault.specs.Names.{on_way}
use Rattle.cv_vault.specs.Disk.{Disk, Files, Image}
use Rattle.cv_vault.specs.Walks.{Within, Nothing}
use Rattle.cv_objects.specs.Names.{is_digest, objects_of}
use Rattle.cv_base.specs.Objects.{AreNamed}
use Rattle.cv_objects.specs.Batches.{Brings}
use Rattle.cv_objects.proofs.Lemmas.{digest_back, is_digest_of, named_none}
use Rattle.cv_swap.specs.Kept.{AreSound, Kept}
use Rattle.cv_swap.specs.Stands.{head_name, epoch_name, epoch_text}
use Rattle.cv_swap.proofs.Lemmas.{epoch_not_data, head_not_data}
use Rattle.cv_gate.specs.State.{State, aged, Settled, certain, unmade, published}
use Rattle.cv_gate.specs.Sound.{Sound}
use Rattle.cv_gate.specs.Kept.{Pending, BringsObjects, nothing, Left, stays, goes, comes, Crash}
use Rattle.cv_gate.proofs.Lemmas.{left_sound}
use Rattle.cv_desk.specs.Holds.{SaysNewest, Holds, Survives}
use Rattle.cv_desk.proofs.Names.{none_under}

pub settled_itself : (st : State) → st.doubt ≡ None → Settled st st
settled_itself st none = certain none refl

-- without a doubt settling changes nothing
pub settled_same : (st settled : State) → st.doubt ≡ None → Settled st settled → settled ≡ st
settled_same st settled none (certain calm e) = e
settled_same st settled none (unmade new is e) = absurd cc
settled_same st settled none (published new is e) = absurd cc

-- ---- while objects come

module _ (name : List ℕ) (is_seal : List ℕ → List ℕ → Bool) (objects : List Object) (d : Disk) (st : State) (f : Files) (h : Holds name is_seal d st) (s : Sound st) (named : AreNamed objects)
    (within : Within on_way (Brings d objects) d f) where
  left : (id : ObjectId) → Left st objects id (objects_of f id)
  left id =
      elim (is_digest id.hash) as (λ b. is_digest id.hash ≡ b → Left st objects id (cond b (f (file_name id)) None)) [
        | true ↦ λ e. elim (within.each (file_name id) refl) [
          | inl may ↦ elim (h.may id (f (file_name id)) (digest_back id.hash e) may) [
            | inl same ↦ stays same
            | inr gone ↦ goes gone.1 gone.0
          ]
          | inr b ↦
              let own : IsDigest b.object.id.hash = is_digest_of objects b.object named b.among in
              comes (record {
                object = b.object;
                among = b.among;
                is = one_file_name id b.object.id (digest_back id.hash e) own b.one.name;
                file = b.one.file;
                absent = sym (h.now id (digest_back id.hash e)) ∙ b.one.absent;
              })
        ]
        | false ↦ λ e. stays (sym (none_under st.shelf id s.hashes e))
      ] refl

  head : SaysNewest name is_seal st (f head_name)
  head = elim (within.each head_name refl) [ inl may ↦ h.head (f head_name) may | inr b ↦ absurd (head_not_data b.object.id b.one.name) ]

  epoch : f epoch_name ≡ Some (epoch_text st.epoch)
  epoch = elim (within.each epoch_name refl) [ inl may ↦ h.epoch (f epoch_name) may | inr b ↦ absurd (epoch_not_data b.object.id b.one.name) ]

  sound : AreSound (objects_of f) head.settled.history
  sound = left_sound st head.settled objects (objects_of f) s head.settles named left

  -- what is left of the shelf, with the head that it has, is what a crash may leave
  stands_for : (p : Option Pending) → ((k : Kept) → k ≡ record { history = head.settled.history; shelf = objects_of f; epoch = st.epoch } → Crash st p k) → Survives name is_seal st p f
  stands_for p crash =
      let k : Kept = record { history = head.settled.history; shelf = objects_of f; epoch = st.epoch } in record {
        kept = k;
        stands = record { newest_ = head.newest_; is_newest = head.is_newest; head = head.is; shelf = λ id. refl; epoch = epoch; kept = record { sound = sound; epoch = s.epoch } };
        crash = crash k refl;
      }

  -- the op brings these objects, whatever a doubt becomes
  pub any_survives : (p : Pending) → ((x : State) → BringsObjects x p.op objects) → Survives name is_seal st (Some p) f
  any_survives p brings = stands_for (Some p) (λ k e. subst (Crash st (Some p)) (sym e)
      (record { sound = sound; epoch = refl; settled = head.settled; settles = head.settles; history = inl refl; objects = objects; brings = brings (aged head.settled p.now); shelf = left }))

  -- the op brings them in the state as it is, which has no doubt
  pub bringing_survives : (p : Pending) → st.doubt ≡ None → BringsObjects (aged st p.now) p.op objects → Survives name is_seal st (Some p) f
  bringing_survives p none brings = stands_for (Some p) (λ k e. subst (Crash st (Some p)) (sym e) (record {
    sound = sound;
    epoch = refl;
    settled = head.settled;
    settles = head.settles;
    history = inl refl;
    objects = objects;
    brings = subst (λ (x : State). BringsObjects (aged x p.now) p.op objects) (sym (settled_same st head.settled none head.settles)) brings;
    shelf = left;
  }))

  -- the same with nothing in progress, where there are none
  pub none_survives : objects ≡ [] → Survives name is_seal st None f
  none_survives none = stands_for None (λ k e. subst (Crash st None) (sym e)
      (record { sound = sound; epoch = refl; settled = head.settled; settles = head.settles; history = inl refl; objects = objects; brings = none; shelf = left }))

-- each image of a disk that holds a state stands for what a crash may leave of the state
pub image_survives : (name : List ℕ) (is_seal : List ℕ → List ℕ → Bool) (d : Disk) (st : State) (f : Files) → Holds name is_seal d st → Sound st → Image d f → Survives name is_seal st None f
image_survives name is_seal d st f h s image = none_survives name is_seal [] d st f h s named_none (record { each = λ n off. inl (image n) }) refl

-- where nothing comes, whatever op is in progress
pub quiet_survives : (name : List ℕ) (is_seal : List ℕ → List ℕ → Bool) (d : Disk) (st : State) (f : Files) (p : Pending) → Holds name is_seal d st → Sound st → Within on_way Nothing d f → Survives name is_seal st (Some p) f
quiet_survives name is_seal d st f p h s w =
    any_survives name is_seal [] d st f h s named_none (record { each = λ n off. elim (w.each n off) [ inl may ↦ inl may | inr b ↦ absurd b ] }) p (λ x. nothing)

-- where nothing comes, and nothing is in progress
pub calm_survives : (name : List ℕ) (is_seal : List ℕ → List ℕ → Bool) (d : Disk) (st : State) (f : Files) → Holds name is_seal d st → Sound st → Within on_way Nothing d f → Survives name is_seal st None f
calm_survives name is_seal d st f h s w = none_survives name is_seal [] d st f h s named_none (record { each = λ n off. elim (w.each n off) [ inl may ↦ inl may | inr b ↦ absurd b ] }) refl
