-- What is kept stays on one line of revisions.
use Rattle.std.proofs.Common.{◌≡◌, ◌⊎◌, ◌<◌, ◌++◌, Bool, ℕ, List, [], ◌∷◌, refl, sym, ap, subst, ◌∙◌, inl, inr, arith, append_assoc}
use Rattle.std.specs.declared.option.Option.{Option}
use Rattle.std.specs.declared.option.Option.TheVariants.{None, Some}
use Rattle.cv_base.specs.Token.{last_number}
use Rattle.cv_vault.specs.Disk.{Disk, Files, Image, LeftAt, Mark, Settled, Torn, Moved, files_now}
use Rattle.cv_vault.specs.Walks.{Within, Nothing}
use Rattle.cv_vault.specs.Names.{on_way}
use Rattle.cv_vault.proofs.Laws.{within_more}
use Rattle.cv_objects.proofs.Lemmas.{named_none}
use Rattle.cv_swap.specs.Kept.{Kept, IsKept, raised}
use Rattle.cv_swap.specs.Stands.{Stands as StandsKept}
use Rattle.cv_swap.specs.Opening.{AsRaised, WhileOpening, before, after}
use Rattle.cv_swap.proofs.Lemmas.{objects_added}
use Rattle.cv_gate.specs.Kept.{reopened}
use Rattle.cv_gate.specs.Lives.{Life, ran, cut, Lives, Lived}
use Rattle.cv_gate.specs.Desk.{DeskView, Call, Calls, asked}
use Rattle.cv_gate.specs.Solo.{IsAlone, Makes}
use Rattle.cv_gate.proofs.Lemmas.{calls_on, prolongs}
use Rattle.cv_desk.specs.OneDesk.{IsLeft, behind, within as inside, first_view}
use Rattle.cv_top.specs.Headline.{IsLife, opening, between, within, OnLine, Remains, before as remained, prolonged}
use Rattle.cv_top.specs.Seal.{is_seal_by}

-- the law of desks that ask alone, and that of raising an epoch
abbrev pub InOrder : Type 0
InOrder = (v v' : DeskView) (calls : List Call) → Calls v calls v' → IsAlone v → Makes v calls v'

abbrev pub KeepsRaised : Type 0
KeepsRaised = (name : List ℕ) (is_seal : List ℕ → List ℕ → Bool) (d : Disk) (f : Files) (k : Kept) → StandsKept name is_seal (files_now d) k → AsRaised d f → StandsKept name is_seal f k ⊎ StandsKept name is_seal f (raised k)

-- the files as they stand are an image of the disk
left_now : (m : Mark) (x : Option (List ℕ)) → LeftAt x m x
left_now Settled x = refl
left_now Torn x = tt
left_now (Moved old) x = inr refl

pub now_image : (d : Disk) → Image d (files_now d)
now_image d n = left_now (d n).mark (d n).now

-- one life more
lives_then : (first : Kept) (lives : List Life) (k : Kept) (life : Life) (kept : Kept) → Lives first lives k → Lived k life kept → Lives first (lives ++ life ∷ []) kept
lives_then first [] k life kept is lived = (kept, subst (λ x. Lived x life kept) is lived, refl)
lives_then first (l ∷ lives) k life kept is lived = (is.0, is.1, lives_then is.0 lives k life kept is.2 lived)

module _ (name seal : List ℕ) (first : Kept) (lives : List Life) (k : Kept) (calls : List Call) (begun : IsKept first) (lived : Lives first lives k) where
  pub on_line : (least : List Call) (f : Files) (life : Life) (kept : Kept) → IsLife k least calls life kept → Lived k life kept → StandsKept name (is_seal_by seal) f kept → OnLine name seal first lives k calls least f
  on_line least f life kept is then stands = record {
    life = life;
    kept = kept;
    is_life = is;
    stands = stands;
    lived = lives_then first lives k life kept lived then;
    line = prolongs first (lives ++ life ∷ []) kept begun (lives_then first lives k life kept lived then);
  }

  -- ---- while the repository is opened

  cut_at_kept : (f : Files) (kept : Kept) → Lived k cut kept → StandsKept name (is_seal_by seal) f kept → OnLine name seal first lives k calls [] f
  cut_at_kept f kept then stands = on_line [] f cut kept (opening refl then) then stands

  pub raised_on_line : (f : Files) → StandsKept name (is_seal_by seal) f k ⊎ StandsKept name (is_seal_by seal) f (raised k) → OnLine name seal first lives k calls [] f
  raised_on_line f (inl s) = cut_at_kept f k (inl refl) s
  raised_on_line f (inr s) = cut_at_kept f (raised k) (inr ((let e = s.kept.epoch in omega (arith, e)), refl)) s

  pub same_remains : (d : Disk) (f : Files) → Within on_way Nothing d f → Remains name seal first lives k calls d f
  same_remains d f w =
      let was = objects_added d [] f named_none (within_more (λ n x b. absurd b) f w) in
      remained was.0 was.1 was.2

  pub opening_remains : KeepsRaised → (d : Disk) → StandsKept name (is_seal_by seal) (files_now d) k → (f : Files) → WhileOpening d f → Remains name seal first lives k calls d f
  opening_remains raises d stands f (before w) = same_remains d f w
  opening_remains raises d stands f (after a) = prolonged (raised_on_line f (raises name (is_seal_by seal) d f k stands a))

  -- ---- while it is served

  module _ (in_order : InOrder) (room : k.epoch < last_number) (least more : List Call) (split : calls ≡ least ++ more) (v : DeskView) (led : Calls (first_view (reopened k)) least v) where
    made : (done : List Call) (mid : DeskView) → Calls v done mid → Makes (first_view (reopened k)) (least ++ done) mid
    made done mid does = in_order (first_view (reopened k)) mid (least ++ done) (calls_on least done (first_view (reopened k)) v mid led does) (record { alone = refl; run = refl; heads = refl })

    cut_at : (done rest : List Call) → more ≡ done ++ rest → calls ≡ (least ++ done) ++ rest
    cut_at done rest e = split ∙ ap (λ (l : List Call). least ++ l) e ∙ sym (append_assoc least done rest)

    pub left_on_line : (f : Files) → IsLeft name (is_seal_by seal) v more f → OnLine name seal first lives k calls least f
    left_on_line f (behind done rest mid e does survives) =
        let m = made done mid does in
        on_line least f (ran m.entries None) survives.kept (between done rest m.entries mid.state (cut_at done rest e) m.answers survives.crash)
        (record { room = room; end = mid.state; run = m.run; crash = survives.crash }) survives.stands
    left_on_line f (inside done rest mid o now r e does survives) =
        let m = made done mid does in
        on_line least f (ran m.entries (Some (record { op = o; now = now }))) survives.kept (within done rest o now r m.entries mid.state (cut_at done (asked o now r ∷ rest) e) m.answers survives.crash)
        (record { room = room; end = mid.state; run = m.run; crash = survives.crash }) survives.stands
