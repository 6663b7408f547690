-- Calls of a desk follow calls.
use Rattle.std.proofs.Common.{◌++◌, ◌∷◌, ℕ, Bool, List, [], refl, sym, ap, subst, ◌∙◌, append_assoc, inl, arith}
use Rattle.std.specs.declared.option.Option.{Option}
use Rattle.cv_vault.specs.Disk.{Disk, Files, ImageOf}
use Rattle.cv_vault.proofs.Laws.{leaves_then}
use Rattle.cv_gate.specs.Desk.{DeskView, Call, Calls, Leads, asked}
use Rattle.cv_gate.proofs.Lemmas.{calls_on}
use Rattle.cv_desk.specs.OneDesk.{OneDeskView, Stands, IsLeft, behind, within, DoesOne, DoesEach, DoesCalls}

module _ (name : List ℕ) (is_seal : List ℕ → List ℕ → Bool) (v : DeskView) (calls more : List Call) (f : Files) where
  left_front : IsLeft name is_seal v calls f → IsLeft name is_seal v (calls ++ more) f
  left_front (behind done rest mid e c s) = behind done (rest ++ more) mid (ap (λ (l : List Call). l ++ more) e ∙ append_assoc done rest more) c s
  left_front (within done rest mid o now r e c s) = within done (rest ++ more) mid o now r (ap (λ (l : List Call). l ++ more) e ∙ append_assoc done (asked o now r ∷ rest) more) c s

  left_later : (w : DeskView) → Calls v calls w → IsLeft name is_seal w more f → IsLeft name is_seal v (calls ++ more) f
  left_later w first (behind done rest mid e c s) = behind (calls ++ done) rest mid (ap (λ (l : List Call). calls ++ l) e ∙ sym (append_assoc calls done rest)) (calls_on calls done v w mid first c) s
  left_later w first (within done rest mid o now r e c s) =
      within (calls ++ done) rest mid o now r (ap (λ (l : List Call). calls ++ l) e ∙ sym (append_assoc calls done (asked o now r ∷ rest))) (calls_on calls done v w mid first c) s

module _ {V S : Type 0} (disk : V → Option Disk) (count : V → ℕ) (left : V → ℕ → Files → Type 0) (is_seal : S → List ℕ → List ℕ → Bool) where
  pub calls_none : (a : OneDeskView V S) → ((f : Files) → left a.gate.state.line.vault (count a.gate.state.line.vault) f → ImageOf (disk a.gate.state.line.vault) f) → DoesCalls disk count left is_seal a [] a
  calls_none a only = record {
    same = record { name_ = refl; signer_ = refl; epoch_ = refl };
    each = refl;
    goes = λ v s. record {
      next = v;
      stands = s;
      calls_ = refl;
      leaves = record { later = omega arith; each = λ f l. behind [] [] v refl refl (s.images f (only f l)); before = λ m f le l. inl l };
    };
  }

  -- one call
  pub calls_one : (a b : OneDeskView V S) (c : Call) → DoesOne disk count left is_seal a c b → DoesCalls disk count left is_seal a (c ∷ []) b
  calls_one a b c x = record { same = x.same; each = (b, x, refl); goes = x.goes }

  each_on : (calls more : List Call) (a b c : OneDeskView V S) → DoesEach disk count left is_seal a calls b → DoesEach disk count left is_seal b more c → DoesEach disk count left is_seal a (calls ++ more) c
  each_on [] more a b c does and = subst (λ (x : OneDeskView V S). DoesEach disk count left is_seal x more c) does and
  each_on (call ∷ calls) more a b c does and = (does.0, does.1, each_on calls more does.0 b c does.2 and)

  pub calls_more : (a b c : OneDeskView V S) (calls more : List Call) → DoesCalls disk count left is_seal a calls b → DoesCalls disk count left is_seal b more c → DoesCalls disk count left is_seal a (calls ++ more) c
  calls_more a b c calls more x y = record {
    same = record { name_ = y.same.name_ ∙ x.same.name_; signer_ = y.same.signer_ ∙ x.same.signer_; epoch_ = y.same.epoch_ ∙ x.same.epoch_ };
    each = each_on calls more a b c x.each y.each;
    goes = λ v s.
        let first = x.goes v s in
        let second = y.goes first.next first.stands in record {
          next = second.next;
          stands = second.stands;
          calls_ = calls_on calls more v first.next second.next first.calls_ second.calls_;
          leaves = leaves_then first.leaves second.leaves (λ f. left_front a.gate.state.line.name (is_seal a.gate.state.line.signer) v calls more f)
              (λ f z. left_later a.gate.state.line.name (is_seal a.gate.state.line.signer) v calls more f first.next first.calls_
              (subst (λ n. IsLeft n (is_seal a.gate.state.line.signer) first.next more f) x.same.name_ (subst (λ g. IsLeft b.gate.state.line.name (is_seal g) first.next more f) x.same.signer_ z)));
        };
  }

  -- calls lead from view to view
  pub calls_lead : (a b : OneDeskView V S) (calls : List Call) → DoesCalls disk count left is_seal a calls b → Leads (Stands disk is_seal a) calls (Stands disk is_seal b)
  calls_lead a b calls x = λ v s. let g = x.goes v s in (g.next, g.stands, g.calls_)
