-- What a gate reads of the newest tree.
use Rattle.std.proofs.Common.{◌≡◌, Bool, ℕ, List, sym, subst}
use Rattle.std.specs.Prelude.{IfSome}
use Rattle.std.specs.declared.option.Option.{Option}
use Rattle.std.specs.declared.option.Option.TheVariants.{Some}
use Rattle.cv_ports.specs.Shelf.{Shelf}
use Rattle.cv_vault.specs.Disk.{Disk}
use Rattle.cv_manifest.specs.declared.head.Head.{Head}
use Rattle.cv_cut.specs.Means.{Means}
use Rattle.cv_objects.specs.Names.{standing_on}
use Rattle.cv_swap.specs.Kept.{Revision, newest, head_of}
use Rattle.cv_gate.specs.State.{State}
use Rattle.cv_gate.proofs.Lemmas.{newest_is_head}
use Rattle.cv_desk.specs.Gate.{StateView, StandsFor}
use Rattle.cv_desk.proofs.Holding.{shelf_stands}

module _ {V S : Type 0} (disk : V → Option Disk) (is_seal : S → List ℕ → List ℕ → Bool) (g : StateView V S) (st : State) (stands : StandsFor disk is_seal g st) (r : Revision) (is : newest st.history ≡ Some r) where
  pub head_is : g.line.head ≡ head_of r
  head_is = subst (λ (o : Option Revision). IfSome o (λ r. g.line.head ≡ head_of r)) is stands.head

  -- the root of the line's head means the newest tree among the objects that stand on the disk
  pub newest_means : Means (standing_on stands.end) g.line.head.root r.tree
  newest_means =
      let there : Means st.shelf r.record_.root r.tree = (newest_is_head st.shelf st.history r stands.sound.line is).is.tree in
      subst (λ (h : Head). Means (standing_on stands.end) h.root r.tree) (sym head_is)
      (subst (λ (s : Shelf). Means s r.record_.root r.tree) (shelf_stands g.line.name (is_seal g.line.signer) stands.end st stands.holds stands.sound.hashes) there)
