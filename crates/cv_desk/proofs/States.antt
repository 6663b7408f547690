-- What holds of the state of a gate, after each thing that is done to it.
use Rattle.std.proofs.Common.{◌≡◌, ◌≤◌, ◌+◌, false, ℕ, List, [], refl, sym, subst, ◌∙◌, arith}
use Rattle.std.specs.declared.option.Option.TheVariants.{None}
use Rattle.std.specs.List.{AllByRecursion}
use Rattle.cv_base.specs.Path.{Path}
use Rattle.cv_base.specs.declared.token.Token.{Token}
use Rattle.cv_base.specs.Moment.{IsMoment}
use Rattle.cv_tree.specs.Tree.{single}
use Rattle.cv_tree.specs.declared.node.Node.TheVariants.{Dir}
use Rattle.cv_history.specs.Record.{no_hash}
use Rattle.cv_leases.specs.Leases.{refusal, lease_of, without}
use Rattle.cv_leases.specs.declared.lease.Lease.{Lease}
use Rattle.cv_leases.proofs.Laws.{HasRoom, not_refused}
use Rattle.cv_swap.specs.Kept.{Revision}
use Rattle.cv_gate.specs.declared.lease_line.TheConstants.{LEASE_TIME}
use Rattle.cv_gate.specs.Sound.{AreLeases}
use Rattle.cv_gate.proofs.Lemmas.{by_ageing, filtered, granted_apart, is_new, ends_last}
use Rattle.cv_desk.specs.Gate.{StateView, state_of}
use Rattle.cv_desk.specs.GateInner.{IsState}
use Rattle.cv_desk.specs.ActingInner.{aged_view, refusal_of, with_lease, new_lease}
use Rattle.cv_desk.proofs.Asking.{unrefused}

-- a revision with this number and this root: a lease that is granted knows nothing else of the newest one
abbrev numbered : ℕ → List ℕ → Revision
numbered revision root = record {
  record_ = record {
    revision = revision;
    previous = no_hash;
    root = root;
    offered = root;
    token = record { epoch = 0; number = 0 };
    path = [];
    key = [];
    time = 0;
    tag = [];
  };
  tree = single (Dir (record { mode = 493; mtime = 0; uid = 0; gid = 0 }));
}

module _ {V S : Type 0} (s s' : StateView V S) (h : IsState s) where
  pub state_aged : (now : ℕ) → IsMoment now → s' ≡ aged_view s now → IsState s'
  state_aged now limit e = subst IsState (sym e) (record {
    leases = by_ageing (state_of s) now h.leases;
    moment = (let before = h.moment in omega (arith, before, limit));
  })

  pub state_ended : (token : Token) → s' ≡ record s { leases = without token s.leases } → IsState s'
  state_ended token e = subst IsState (sym e) (record {
    leases = filtered _ (state_of s) _ (record { epoch = refl; next = omega arith; moment = omega arith }) refl h.leases;
    moment = h.moment;
  })

  -- only what the leases don't say changed
  pub state_same : s'.leases ≡ s.leases → s'.moment ≡ s.moment → s'.next ≡ s.next → s'.line.epoch ≡ s.line.epoch → IsState s'
  state_same leases moment next epoch = record {
    leases = subst AreLeases (λ i. record { history = []; leases = sym leases i; doubt = None; shelf = λ id. None; loose = λ id. false; moment = sym moment i; epoch = sym epoch i; next = sym next i }) h.leases;
    moment = subst IsMoment (sym moment) h.moment;
  }

  pub state_granted : (key : List ℕ) (path : Path) → refusal_of s.leases s.moment path ≡ None → s' ≡ with_lease s key path → IsState s'
  state_granted key path none e =
      let room : HasRoom s.leases path = not_refused s.leases path (unrefused s.leases s.moment path none) in
      let head : Revision = numbered s.line.head.revision s.line.head.root in
      subst IsState (sym e) (record {
        leases = granted_apart (state_of s) key path head h.leases room.unmarked room.clear room.few;
        moment = h.moment;
      })

module _ {V S : Type 0} (s : StateView V S) (lease : Lease) (leases : List Lease) (key : List ℕ) (path : Path) (h : IsState s) (same : leases ≡ s.leases) (e : lease ≡ new_lease s key path) where
  -- a lease that is granted now isn't refused, has a token of its own, and ends last
  pub lease_is_free : refusal_of s.leases s.moment path ≡ None → refusal leases lease.path ≡ None
  lease_is_free none = (λ i. refusal (same i) (e i).path) ∙ unrefused s.leases s.moment path none

  pub token_is_new : lease_of lease.token leases ≡ None
  token_is_new = (λ i. lease_of (e i).token (same i)) ∙ is_new (state_of s) s.leases h.leases.granted

  pub deadline_is_last : AllByRecursion (λ other. other.deadline ≤ lease.deadline) leases
  deadline_is_last =
      subst (λ (l : Lease). AllByRecursion (λ other. other.deadline ≤ l.deadline) leases) (sym e)
      (subst (AllByRecursion (λ other. other.deadline ≤ s.moment + LEASE_TIME)) (sym same) (ends_last (state_of s) s.leases h.leases.granted))
