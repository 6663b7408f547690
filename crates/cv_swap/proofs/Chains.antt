-- The records of what is kept are the chain that its head names.
use Rattle.std.proofs.Common.{◌≡◌, suc, List, [], ◌∷◌, ◌++◌, refl, sym, ap, subst, ◌∙◌, arith, append_assoc}
use Rattle.std.specs.declared.option.Option.TheVariants.{Some}
use Rattle.std.proofs.lemmas.List.{append-nil}
use Rattle.std.proofs.lemmas.Option.{same_Some}
use Rattle.sha1.specs.Sha1.{sha1}
use Rattle.cv_base.specs.ObjectId.{object_id}
use Rattle.cv_base.specs.declared.id.Kind.TheVariants.{History}
use Rattle.cv_base.specs.declared.id.ObjectId.{ObjectId}
use Rattle.cv_ports.specs.Shelf.{Shelf}
use Rattle.cv_history.specs.Record.{record_bytes}
use Rattle.cv_history.specs.Chain.{Chain, StandsAt, id_before}
use Rattle.cv_history.specs.declared.record.Record.{Record}
use Rattle.cv_swap.specs.Kept.{Revision, IsRevision, Follows, FollowEachOther, IsLine, newest, records_of}

abbrev pub record_id : Record → ObjectId
record_id r = object_id (sha1 (record_bytes r)) History

abbrev last_of : Revision → List Revision → Revision
last_of r [] = r
last_of r (x ∷ rest) = last_of x rest

stands_at : (shelf : Shelf) (r : Revision) → IsRevision shelf r → StandsAt shelf (record_id r.record_) r.record_
stands_at shelf r is = record { present = is.there; named = record { typed = is.typed; limits = is.limits; hash = refl } }

-- one record more
link : (shelf : Shelf) (r x : Revision) (rs : List Record) → Follows shelf r x → Chain (StandsAt shelf) r.record_.revision (record_id r.record_) rs
    → Chain (StandsAt shelf) x.record_.revision (record_id x.record_) (rs ++ x.record_ ∷ [])
link shelf r x rs follows chain =
    let next : x.record_.revision ≡ suc r.record_.revision = (let e = follows.revision in omega (arith, e)) in
    let before : id_before x.record_ ≡ record_id r.record_ = ap (λ h. object_id h History) follows.previous in
    subst (λ n. Chain (StandsAt shelf) n (record_id x.record_) (rs ++ x.record_ ∷ [])) (sym next) (record {
      before = rs;
      last = x.record_;
      split = refl;
      holds = stands_at shelf x follows.is;
      is_revision = next;
      chain = subst (λ id. Chain (StandsAt shelf) r.record_.revision id rs) (sym before) chain;
    })

grow : (shelf : Shelf) (r : Revision) (rest : List Revision) (rs : List Record) → FollowEachOther shelf r rest → Chain (StandsAt shelf) r.record_.revision (record_id r.record_) rs
    → Chain (StandsAt shelf) (last_of r rest).record_.revision (record_id (last_of r rest).record_) (rs ++ records_of rest)
grow shelf r [] rs h chain = subst (Chain (StandsAt shelf) r.record_.revision (record_id r.record_)) (sym (append-nil rs)) chain
grow shelf r (x ∷ rest) rs h chain =
    subst (Chain (StandsAt shelf) (last_of x rest).record_.revision (record_id (last_of x rest).record_)) (append_assoc rs (x.record_ ∷ []) (records_of rest))
    (grow shelf x rest (rs ++ x.record_ ∷ []) h.1 (link shelf r x rs h.0 chain))

newest_is : (r : Revision) (rest : List Revision) → newest (r ∷ rest) ≡ Some (last_of r rest)
newest_is r [] = refl
newest_is r (x ∷ rest) = newest_is x rest

first_chain : (shelf : Shelf) (r : Revision) → IsRevision shelf r → r.record_.revision ≡ 1 → Chain (StandsAt shelf) r.record_.revision (record_id r.record_) (r.record_ ∷ [])
first_chain shelf r is one = subst (λ n. Chain (StandsAt shelf) n (record_id r.record_) (r.record_ ∷ [])) (sym one) (record {
  before = [];
  last = r.record_;
  split = refl;
  holds = stands_at shelf r is;
  is_revision = one;
  chain = refl;
})

-- the chain of a line, from its newest record back
pub line_chain : (shelf : Shelf) (history : List Revision) (last : Revision) → IsLine shelf history → newest history ≡ Some last
    → Chain (StandsAt shelf) last.record_.revision (record_id last.record_) (records_of history)
line_chain shelf [] last h e = absurd h
line_chain shelf (r ∷ rest) last h e =
    let same : last_of r rest ≡ last = same_Some _ _ (sym (newest_is r rest) ∙ e) in
    subst (λ (x : Revision). Chain (StandsAt shelf) x.record_.revision (record_id x.record_) (records_of (r ∷ rest))) same
    (grow shelf r rest (r.record_ ∷ []) h.2 (first_chain shelf r h.0 h.1))
