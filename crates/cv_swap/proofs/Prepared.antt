-- What is kept stands on while objects come.
use Rattle.std.proofs.Common.{◌≡◌, ◌≢◌, ◌⊎◌, ℕ, Bool, true, false, List, refl, sym, ap, subst, ◌∙◌, inl, inr}
use Rattle.std.specs.Prelude.{if◌then◌else◌}
use Rattle.std.proofs.lemmas.Option.{same_Some}
use Rattle.std.specs.declared.option.Option.TheVariants.{None, Some}
use Rattle.sha1.specs.Sha1.{sha1}
use Rattle.cv_base.specs.ObjectId.{file_name}
use Rattle.cv_base.specs.declared.id.ObjectId.{ObjectId}
use Rattle.cv_base.specs.declared.object.Object.{Object}
use Rattle.cv_base.proofs.Laws.{one_file_name}
use Rattle.cv_ports.specs.Shelf.{Shelf, IsShelf, HasMore}
use Rattle.cv_vault.specs.Names.{Name, on_way}
use Rattle.cv_vault.specs.Disk.{Disk, File, Files, Image, IsCalm, LeftAt, Mark, May, Settled, Torn, Moved, files_now}
use Rattle.cv_vault.specs.Walks.{Change, Stays, Comes, Gains, Within}
use Rattle.cv_vault.proofs.Laws.{calm_image, within_image}
use Rattle.cv_objects.specs.Names.{is_digest, objects_of, standing_on}
use Rattle.cv_base.specs.Objects.{AreNamed}
use Rattle.cv_objects.specs.Batches.{Brings, IsGained}
use Rattle.cv_objects.specs.Coming.{ShelfGains}
use Rattle.cv_objects.proofs.Lemmas.{digest_back, is_digest_of, gains_some}
use Rattle.cv_swap.specs.Kept.{Kept, Revision}
use Rattle.cv_swap.specs.Stands.{Stands, HasRevisions, AddObjects, Publishes, head_name, epoch_name, head_of}
use Rattle.cv_swap.proofs.Growing.{sound_more}
use Rattle.cv_swap.proofs.Names.{head_not_data, epoch_not_data, same_object}

-- a crash may leave what is there now
pub may_now : (m : Mark) (x : File) → LeftAt x m x
may_now Settled x = refl
may_now Torn x = tt
may_now (Moved before) x = inr refl

-- ---- what a crash leaves is what it might have left before, with some objects more

-- the file that a crash might have left before: this one, or the one that stood there where an object came to no file
record Before (d : Disk) (batch : List Object) (n : Name) (f : File) : Type 0 where
  left : File
  may : May (d n) left
  is : on_way n ≡ false → (f ≡ left) ⊎ ((left ≡ None) × Brings d batch n f)

left_before : (d : Disk) (batch : List Object) (f : Files) → Within on_way (Brings d batch) d f → (n : Name) (b : Bool) → on_way n ≡ b → Before d batch n (f n)
left_before d batch f w n true on = record { left = (d n).now; may = may_now (d n).mark (d n).now; is = λ off. absurd (let k : true ≡ false = sym on ∙ off in cc) }
left_before d batch f w n false off = elim (w.each n off) [
  | inl m ↦ record { left = f n; may = m; is = λ o. inl refl }
  | inr b ↦ record { left = (d n).now; may = may_now (d n).mark (d n).now; is = λ o. inr (b.one.absent, b) }
]

-- a file to which no object comes
untouched : (d : Disk) (batch : List Object) (n : Name) (f : File) → ((id : ObjectId) → n ≢ file_name id) → on_way n ≡ false → (b : Before d batch n f) → f ≡ b.left
untouched d batch n f apart off b = elim (b.is off) [ inl same ↦ same | inr came ↦ absurd (apart came.1.object.id came.1.one.name) ]

pub objects_added : (d : Disk) (batch : List Object) (f : Files) → AreNamed batch → Within on_way (Brings d batch) d f → (g : Files) × Image d g × AddObjects batch g f
objects_added d batch f named w = (
  g,
  (λ n. (before n).may),
  record {
    head_ = untouched d batch head_name (f head_name) head_not_data refl (before head_name);
    epoch_ = untouched d batch epoch_name (f epoch_name) epoch_not_data refl (before epoch_name);
    shelf_ = record { each = λ id. grown id (is_digest id.hash) refl };
  },
)
  where
    before : (n : Name) → Before d batch n (f n)
    before n = left_before d batch f w n (on_way n) refl

    g : Files
    g n = (before n).left

    at : (x : Files) (id : ObjectId) (b : Bool) → is_digest id.hash ≡ b → objects_of x id ≡ (if b then x (file_name id) else None)
    at x id b e = ap (λ (b : Bool). if b then x (file_name id) else None) e

    grown : (id : ObjectId) (b : Bool) → is_digest id.hash ≡ b → (objects_of f id ≡ objects_of g id) ⊎ IsGained batch (objects_of g) id (objects_of f id)
    grown id false e = inl (at f id false e ∙ sym (at g id false e))
    grown id true e = elim ((before (file_name id)).is refl) [
      | inl same ↦ inl (same_object f g id same)
      | inr came ↦ inr (record {
        object = came.1.object;
        among = came.1.among;
        is = one_file_name id came.1.object.id (digest_back id.hash e) (is_digest_of batch came.1.object named came.1.among) came.1.one.name;
        file = at f id true e ∙ came.1.one.file;
        absent = at g id true e ∙ came.0;
      })
    ]

-- ---- and stands for the same revisions

has_more : (batch : List Object) (s s' : Shelf) → ShelfGains batch s s' → HasMore s s'
has_more batch s s' g id bytes e = elim (g.each id) [ inl same ↦ same ∙ e | inr gained ↦ absurd (let k : None ≡ Some bytes = sym gained.absent ∙ e in cc) ]

hashed_more : (batch : List Object) (s s' : Shelf) → AreNamed batch → ShelfGains batch s s' → IsShelf s → IsShelf s'
hashed_more batch s s' named g h = record {
  hash = λ id bytes e. elim (g.each id) [
    | inl same ↦ h.hash id bytes (sym same ∙ e)
    | inr gained ↦ ap (λ (x : ObjectId). x.hash) gained.is ∙ named.each gained.object gained.among ∙ ap sha1 (same_Some _ _ (sym gained.file ∙ e))
  ];
}

-- files with some objects more
pub added_stands : (name : List ℕ) (is_seal : List ℕ → List ℕ → Bool) (batch : List Object) (history : List Revision) (epoch : ℕ) (g f : Files) → AreNamed batch → AddObjects batch g f
    → HasRevisions name is_seal history epoch g → HasRevisions name is_seal history epoch f
added_stands name is_seal batch history epoch g f named a s = record {
  newest_ = s.newest_;
  is_newest = s.is_newest;
  head = subst (λ (x : File). Publishes name is_seal x (head_of s.newest_)) (sym a.head_) s.head;
  shelf = λ id. refl;
  epoch = a.epoch_ ∙ s.epoch;
  kept = record {
    sound = sound_more (objects_of g) (objects_of f) history (has_more batch (objects_of g) (objects_of f) a.shelf_) (hashed_more batch (objects_of g) (objects_of f) named a.shelf_ s.kept.sound.hashes) s.kept.sound;
    epoch = s.kept.epoch;
  };
}

pub prepare_leaves : (name : List ℕ) (is_seal : List ℕ → List ℕ → Bool) (d : Disk) (batch : List Object) (history : List Revision) (epoch : ℕ) → AreNamed batch → ((g : Files) → Image d g → HasRevisions name is_seal history epoch g)
    → (f : Files) → Within on_way (Brings d batch) d f → HasRevisions name is_seal history epoch f
prepare_leaves name is_seal d batch history epoch named each f w = let a = objects_added d batch f named w in added_stands name is_seal batch history epoch a.0 f named a.2 (each a.0 a.1)

pub prepare_makes : (name : List ℕ) (is_seal : List ℕ → List ℕ → Bool) (d d' : Disk) (batch : List Object) (history : List Revision) (epoch : ℕ) → AreNamed batch → ((g : Files) → Image d g → HasRevisions name is_seal history epoch g)
    → Gains on_way (Brings d batch) d d' → (f : Files) → Image d' f → HasRevisions name is_seal history epoch f
prepare_makes name is_seal d d' batch history epoch named each g f i = prepare_leaves name is_seal d batch history epoch named each f (within_image g f i)

-- what is kept, on the shelf of the files themselves
pub on_its_shelf : (name : List ℕ) (is_seal : List ℕ → List ℕ → Bool) (f : Files) (k : Kept) → Stands name is_seal f k → HasRevisions name is_seal k.history k.epoch f
on_its_shelf name is_seal f k s = let same : k.shelf ≡ objects_of f = (λ i id. s.shelf id i) in subst (λ (x : Shelf). Stands name is_seal f (record { history = k.history; shelf = x; epoch = k.epoch })) same s

-- of a settled disk each image is the files as they stand
pub settled_stands : (name : List ℕ) (is_seal : List ℕ → List ℕ → Bool) (d : Disk) (k : Kept) → IsCalm d → Stands name is_seal (files_now d) k → (g : Files) → Image d g → HasRevisions name is_seal k.history k.epoch g
settled_stands name is_seal d k calm s g i =
    let same : files_now d ≡ g = (λ j n. sym (calm_image d calm g i n) j) in
    subst (HasRevisions name is_seal k.history k.epoch) same (on_its_shelf name is_seal (files_now d) k s)

-- a name to which no object comes is as it was
beside : (d d' : Disk) (batch : List Object) (n : Name) → Gains on_way (Brings d batch) d d' → on_way n ≡ false → ((id : ObjectId) → n ≢ file_name id) → (d' n).now ≡ (d n).now
beside d d' batch n g w apart = by (g.each n w)
  where
    by : Change (Brings d batch n) (d n) (d' n) → (d' n).now ≡ (d n).now
    by (Stays s l) = s
    by (Comes b l) = absurd (apart b.object.id b.one.name)

-- where objects came, the files as they stand are for what is kept on the longer shelf
pub stands_grown : (name : List ℕ) (is_seal : List ℕ → List ℕ → Bool) (d d' : Disk) (batch : List Object) (k : Kept) → AreNamed batch → Stands name is_seal (files_now d) k → Gains on_way (Brings d batch) d d'
    → Stands name is_seal (files_now d') (record k { shelf = standing_on d' })
stands_grown name is_seal d d' batch k named s g = added_stands name is_seal batch k.history k.epoch (files_now d) (files_now d') named (record {
  head_ = beside d d' batch head_name g refl head_not_data;
  epoch_ = beside d d' batch epoch_name g refl epoch_not_data;
  shelf_ = gains_some d d' batch named g;
}) (on_its_shelf name is_seal (files_now d) k s)
