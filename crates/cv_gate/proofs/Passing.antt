-- What passes: on a shelf that has its objects, and as a step.
use Rattle.std.proofs.Common.{◌≡◌, ℕ, Bool, List, sym, subst, ◌∙◌, inl, inr, arith}
use Rattle.std.proofs.lemmas.Option.{same_Some}
use Rattle.std.specs.declared.option.Option.{Option}
use Rattle.std.specs.declared.option.Option.TheVariants.{Some}
use Rattle.cv_base.specs.declared.id.ObjectId.{ObjectId}
use Rattle.cv_base.specs.declared.object.Object.{Object}
use Rattle.cv_base.specs.declared.token.Token.{Token}
use Rattle.cv_ports.specs.Shelf.{Shelf, HasMore}
use Rattle.cv_cut.specs.Catalogues.{Fits}
use Rattle.cv_cut.proofs.Lemmas.{Means-more}
use Rattle.cv_objects.specs.Coming.{HasAll, ClashesOn}
use Rattle.cv_swap.specs.Kept.{Revision}
use Rattle.cv_gate.specs.State.{State}
use Rattle.cv_gate.specs.Commits.{committed, made}
use Rattle.cv_gate.specs.Passing.{Passes}
use Rattle.cv_gate.specs.Step.{Publishes, CommitStep}
use Rattle.cv_gate.specs.declared.reply.Reply.{Reply}

-- ---- on another shelf

-- objects that are all on the shelf don't clash there
pub none_clashes : (shelf : Shelf) (objects : List Object) (id : ObjectId) → HasAll objects shelf → ClashesOn shelf objects id → ⊥
none_clashes shelf objects id has c = c.other (same_Some _ _ (sym there ∙ own))
  where
    own : shelf id ≡ Some c.object.bytes
    own = subst (λ (x : ObjectId). shelf x ≡ Some c.object.bytes) c.is (has.each c.object c.among)

    there : shelf id ≡ Some c.bytes
    there = elim c.there [ inl is ↦ is | inr twin ↦ has.each (record { id = id; bytes = c.bytes }) twin ]

-- a commit that passes does so on a shelf with more, where its objects don't clash
pub passes_more : (st : State) (s : Shelf) (loose : ObjectId → Bool) (doubt : Option Revision) (key : List ℕ) (token : Token) (old_root new_root tag : List ℕ) (new : Revision) → HasMore st.shelf s
    → ((id : ObjectId) → ClashesOn s (made new) id → ⊥) → Passes st key token old_root new_root tag new → Passes (record st { shelf = s; loose = loose; doubt = doubt }) key token old_root new_root tag new
passes_more st s loose doubt key token old_root new_root tag new more apart p = record {
  lease = p.lease;
  live = p.live;
  own = p.own;
  head = p.head;
  is_newest = p.is_newest;
  room = p.room;
  base = p.base;
  free = p.free;
  offered = p.offered;
  means = Means-more st.shelf s new_root p.offered more p.means;
  is = p.is;
  fits = p.fits;
  apart = apart;
}

-- ---- as a step

-- where the checks pass the end decides
pub passes_step : (st : State) (key : List ℕ) (token : Token) (old_root new_root tag : List ℕ) (new : Revision) (r : Reply) (st' : State) → Passes st key token old_root new_root tag new
    → Publishes st key token old_root new_root tag new r st' → CommitStep st key token old_root new_root tag r st'
passes_step st key token old_root new_root tag new r st' p ends =
    let live = p.live in
    let own = p.own in
    let room = p.room in
    let base = p.base in
    let fits : Fits (committed st.moment p.head p.lease p.offered new_root tag).tree = subst (λ (x : Revision). Fits x.tree) p.is p.fits in
    let end : Publishes st key token old_root new_root tag (committed st.moment p.head p.lease p.offered new_root tag) r st' =
    subst (λ (x : Revision). Publishes st key token old_root new_root tag x r st') p.is ends in
    inr ((λ none. cc), (p.lease, live, inr ((λ other. cc), (p.head, p.is_newest, inr ((λ full. omega (arith, room, full)), inr ((λ stale. cc), inr (p.free, inr (inr (p.offered, p.means, inr ((λ pq shared. fits.apart pq.0 pq.1 shared), inr ((λ c full. fits.limits c full), end)))))))))))
