-- The epoch is raised, and what the files stand for.
use Rattle.std.proofs.Common.{◌≡◌, ◌≢◌, ◌⊎◌, ◌<◌, ◌^◌, ◌+◌, ℕ, Bool, false, List, refl, sym, ap, subst, ◌∙◌, inl, inr, arith}
use Rattle.std.proofs.lemmas.Option.{same_Some}
use Rattle.std.specs.declared.option.Option.TheVariants.{Some}
use Rattle.cv_base.specs.ObjectId.{file_name}
use Rattle.cv_base.specs.declared.id.ObjectId.{ObjectId}
use Rattle.cv_base.specs.Token.{last_number}
use Rattle.cv_vault.specs.Names.{Name, on_way}
use Rattle.cv_vault.specs.Disk.{Disk, File, Files, Image, files_now, synced}
use Rattle.cv_vault.specs.Walks.{Change, Stays, Comes, Gains, Within, ComesTo}
use Rattle.cv_vault.specs.Replace.{IsSure}
use Rattle.cv_vault.proofs.Laws.{may_settled, calm_image}
use Rattle.cv_swap.specs.Kept.{Kept, raised}
use Rattle.cv_swap.specs.Stands.{Stands, Publishes, head_name, epoch_name, epoch_text, head_of}
use Rattle.cv_swap.specs.Opening.{AsRaised, IsRaised}
use Rattle.cv_swap.proofs.Names.{epoch_not_data, epoch_not_head, same_epoch, same_object}

-- files that are as those that stand for what is kept, but for the epoch
stands_with : (name : List ℕ) (is_seal : List ℕ → List ℕ → Bool) (f g : Files) (k : Kept) (epoch : ℕ) → Stands name is_seal f k → epoch < 2 ^ 64
    → g head_name ≡ f head_name → ((id : ObjectId) → g (file_name id) ≡ f (file_name id)) → g epoch_name ≡ Some (epoch_text epoch) → Stands name is_seal g (record k { epoch = epoch })
stands_with name is_seal f g k epoch s limit head data_same e = record {
  newest_ = s.newest_;
  is_newest = s.is_newest;
  head = subst (λ (x : File). Publishes name is_seal x (head_of s.newest_)) (sym head) s.head;
  shelf = λ id. s.shelf id ∙ sym (same_object g f id (data_same id));
  epoch = e;
  kept = record { sound = s.kept.sound; epoch = limit };
}

-- what a crash leaves while the epoch is raised stands for what was kept, opened once more or not
pub stands_while : (name : List ℕ) (is_seal : List ℕ → List ℕ → Bool) (d : Disk) (f : Files) (k : Kept) → Stands name is_seal (files_now d) k → AsRaised d f → Stands name is_seal f k ⊎ Stands name is_seal f (raised k)
stands_while name is_seal d f k s a = by (a.each epoch_name refl)
  where
    other : (n : Name) → on_way n ≡ false → epoch_name ≢ n → f n ≡ (d n).now
    other n w apart = elim (a.each n w) [ inl same ↦ same | inr r ↦ absurd (apart (sym r.name)) ]

    by : (f epoch_name ≡ (d epoch_name).now) ⊎ IsRaised d epoch_name (f epoch_name) → Stands name is_seal f k ⊎ Stands name is_seal f (raised k)
    by (inl same) = inl (stands_with name is_seal (files_now d) f k k.epoch s s.kept.epoch (other head_name refl epoch_not_head) (λ id. other (file_name id) refl (epoch_not_data id)) (same ∙ s.epoch))
    by (inr r) =
        let is : r.epoch ≡ k.epoch = same_epoch r.epoch k.epoch (let x = r.room in omega arith) s.kept.epoch (same_Some _ _ (sym r.before ∙ s.epoch)) in
        let room : k.epoch + 1 < 2 ^ 64 = (let x = r.room in omega (arith, is)) in
        inr (stands_with name is_seal (files_now d) f k (k.epoch + 1) s room (other head_name refl epoch_not_head) (λ id. other (file_name id) refl (epoch_not_data id)) (r.after ∙ ap (λ n. Some (epoch_text (n + 1))) is))

-- a name to which the epoch's file can't come is as it was
not_raised : (d d' : Disk) (text : List ℕ) (n : Name) → Gains on_way (ComesTo epoch_name (Some text)) d d' → on_way n ≡ false → epoch_name ≢ n → (d' n).now ≡ (d n).now
not_raised d d' text n g w apart = by (g.each n w)
  where
    by : Change (ComesTo epoch_name (Some text) n) (d n) (d' n) → (d' n).now ≡ (d n).now
    by (Stays s l) = s
    by (Comes b l) = absurd (apart (sym b.0))

-- where the raised epoch is sure, each image stands for what was kept, opened once more
pub stands_raised : (name : List ℕ) (is_seal : List ℕ → List ℕ → Bool) (d d' : Disk) (k : Kept) (epoch : ℕ) → Stands name is_seal (files_now d) k → (d epoch_name).now ≡ Some (epoch_text epoch) → epoch < last_number
    → Gains on_way (ComesTo epoch_name (Some (epoch_text (epoch + 1)))) d d' → IsSure epoch_name (epoch_text (epoch + 1)) d' → (f : Files) → Image d' f → Stands name is_seal f (raised k)
stands_raised name is_seal d d' k epoch s before room g sure f i =
    stands_with name is_seal (files_now d) f k (k.epoch + 1) s limit (same head_name refl epoch_not_head) (λ id. same (file_name id) refl (epoch_not_data id)) (calm_image d' sure.calm f i epoch_name ∙ sure.there ∙ ap (λ n. Some (epoch_text (n + 1))) is)
  where
    is : epoch ≡ k.epoch
    is = same_epoch epoch k.epoch (omega (arith, room)) s.kept.epoch (same_Some _ _ (sym before ∙ s.epoch))

    limit : k.epoch + 1 < 2 ^ 64
    limit = omega (arith, room, is)

    same : (n : Name) → on_way n ≡ false → epoch_name ≢ n → f n ≡ (d n).now
    same n w apart = calm_image d' sure.calm f i n ∙ not_raised d d' _ n g w apart

-- what a crash leaves while the epoch's file comes is each file as it stood, or the raised one
pub as_raised : (d d1 : Disk) (epoch : ℕ) (f : Files) → d1 ≡ synced d → (d epoch_name).now ≡ Some (epoch_text epoch) → epoch < last_number → Within on_way (ComesTo epoch_name (Some (epoch_text (epoch + 1)))) d1 f → AsRaised d f
as_raised d d1 epoch f e before room w = record {
  each = λ n o. elim (w.each n o) [
    | inl m ↦ inl (may_settled d1 n (f n) (ap (λ (x : Disk). (x n).mark) e) m ∙ ap (λ (x : Disk). (x n).now) e)
    | inr b ↦ inr (record { name = b.0; epoch = epoch; room = room; before = before; after = b.1 })
  ];
}
