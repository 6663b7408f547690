-- The walk along a chain from its last record back.
use Rattle.std.proofs.Common.{◌≡◌, ℕ, suc, List, [], ◌∷◌, ◌++◌, reverse, inl, inr, refl, sym, ap, subst, ◌∙◌, append_assoc}
use Rattle.std.proofs.lemmas.List.{reverse-append}
use Rattle.std.specs.Prelude.{Vec, Result, Ok, Err, IsErrAnd}
use Rattle.cv_base.specs.declared.id.ObjectId.{ObjectId}
use Rattle.cv_ports.specs.Shelf.{Shelf}
use Rattle.cv_history.specs.Chain.{id_before, StandsAt, Link, Chain, IsAmiss, Breaks, MayBreak, Gives}
use Rattle.cv_history.specs.ChainInner.{Reads, GivesBack}
use Rattle.cv_history.specs.declared.chain_fault.ChainFault.{ChainFault}
use Rattle.cv_history.specs.declared.chain_fault.ChainFault.TheVariants.{Missing, BadRecord, BadLink, Failed, Damaged, NoMemory}
use Rattle.cv_history.specs.declared.record.Record.{Record}

-- what is before the records found makes the whole chain with them
pub record Leads (Holds : ObjectId → Record → Type 0) (revision : ℕ) (last : ObjectId) (found : List Record) (wanted : ℕ) (id : ObjectId) : Type 0 where
  pub chain : (before : List Record) → Chain Holds wanted id before → Chain Holds revision last (before ++ reverse found)

-- where the chain breaks before them it breaks
pub record Hangs (shelf : Shelf) (revision : ℕ) (last : ObjectId) (wanted : ℕ) (id : ObjectId) : Type 0 where
  pub breaks : (fault : ChainFault) → Breaks shelf wanted id fault → Breaks shelf revision last fault

leads_next : (Holds : ObjectId → Record → Type 0) (revision : ℕ) (last : ObjectId) (found : List Record) (n : ℕ) (id : ObjectId) (r : Record)
    → Leads Holds revision last found (suc n) id → Holds id r → r.revision ≡ suc n → Leads Holds revision last (found ++ r ∷ []) n (id_before r)
leads_next Holds revision last found n id r h holds is = record {
  chain = λ before chain.
      let P : List Record → Type 0 = Chain Holds revision last in
      let link : Link Holds (Chain Holds n) (suc n) id (before ++ r ∷ []) =
      record { before = before; last = r; split = refl; holds = holds; is_revision = is; chain = chain } in
      let same : before ++ r ∷ [] ++ reverse found ≡ before ++ reverse (found ++ r ∷ []) =
      append_assoc before (r ∷ []) (reverse found) ∙ ap (λ (l : List Record). before ++ l) (sym (reverse-append found (r ∷ []))) in
      subst P same (h.chain (before ++ r ∷ []) link);
}

hangs_next : (shelf : Shelf) (revision : ℕ) (last : ObjectId) (n : ℕ) (id : ObjectId) (r : Record)
    → Hangs shelf revision last (suc n) id → StandsAt shelf id r → r.revision ≡ suc n → Hangs shelf revision last n (id_before r)
hangs_next shelf revision last n id r h stands is = record {
  breaks = λ fault b. h.breaks fault (inr (record { last = r; stands = stands; is_revision = is; broken = b }));
}

-- one record more, by the number that is wanted
pub leads_more : (Holds : ObjectId → Record → Type 0) (revision : ℕ) (last : ObjectId) (found : List Record) (wanted n : ℕ) (id : ObjectId) (r : Record)
    → wanted ≡ suc n → Leads Holds revision last found wanted id → Holds id r → r.revision ≡ wanted → Leads Holds revision last (found ++ r ∷ []) n (id_before r)
leads_more Holds revision last found wanted n id r e h holds is =
    let P : ℕ → Type 0 = λ (w : ℕ). Leads Holds revision last found w id in
    leads_next Holds revision last found n id r (subst P e h) holds (is ∙ e)

pub hangs_more : (shelf : Shelf) (revision : ℕ) (last : ObjectId) (wanted n : ℕ) (id : ObjectId) (r : Record)
    → wanted ≡ suc n → Hangs shelf revision last wanted id → StandsAt shelf id r → r.revision ≡ wanted → Hangs shelf revision last n (id_before r)
hangs_more shelf revision last wanted n id r e h stands is =
    let P : ℕ → Type 0 = λ (w : ℕ). Hangs shelf revision last w id in
    hangs_next shelf revision last n id r (subst P e h) stands (is ∙ e)

-- what is amiss at the id breaks the chain
pub amiss_breaks : (shelf : Shelf) (revision : ℕ) (last : ObjectId) (wanted n : ℕ) (id : ObjectId) (fault : ChainFault)
    → wanted ≡ suc n → Hangs shelf revision last wanted id → IsAmiss shelf wanted id fault → Breaks shelf revision last fault
amiss_breaks shelf revision last wanted n id fault e h amiss =
    let P : ℕ → Type 0 = λ (w : ℕ). IsAmiss shelf w id fault in
    let Q : ℕ → Type 0 = λ (w : ℕ). Breaks shelf w id fault in
    h.breaks fault (subst Q (sym e) (inl (subst P e amiss)))

-- nothing more is wanted
pub leads_done : (Holds : ObjectId → Record → Type 0) (revision : ℕ) (last : ObjectId) (found : List Record) (wanted : ℕ) (id : ObjectId)
    → wanted ≡ 0 → Leads Holds revision last found wanted id → Chain Holds revision last (reverse found)
leads_done Holds revision last found wanted id e h =
    let P : ℕ → Type 0 = λ (w : ℕ). Leads Holds revision last found w id in
    (subst P e h).chain [] refl

-- the fault of what was read at the id
may_break : (shelf : Shelf) (revision : ℕ) (last : ObjectId) (wanted n : ℕ) (id : ObjectId) (fault : ChainFault)
    → wanted ≡ suc n → Hangs shelf revision last wanted id → Reads shelf id (Err fault) → MayBreak shelf revision last fault
may_break shelf revision last wanted n id (Missing at) e h r = amiss_breaks shelf revision last wanted n id (Missing at) e h (r wanted)
may_break shelf revision last wanted n id (BadRecord at) e h r = amiss_breaks shelf revision last wanted n id (BadRecord at) e h (r wanted)
may_break shelf revision last wanted n id (BadLink at found other) e h r = amiss_breaks shelf revision last wanted n id (BadLink at found other) e h (r wanted)
may_break shelf revision last wanted n id Failed e h r = tt
may_break shelf revision last wanted n id (Damaged at found) e h r = amiss_breaks shelf revision last wanted n id (Damaged at found) e h (r wanted)
may_break shelf revision last wanted n id NoMemory e h r = tt

-- the same as `?` hands it on
pub gives_back_err : (shelf : Shelf) (revision : ℕ) (last : ObjectId) (wanted n : ℕ) (id : ObjectId) {Z : Type 0} (answer : Result (Vec Record Z) ChainFault) (fault : ChainFault)
    → IsErrAnd answer (λ f. f ≡ fault) → wanted ≡ suc n → Hangs shelf revision last wanted id → Reads shelf id (Err fault) → GivesBack shelf revision last answer
gives_back_err shelf revision last wanted n id (Ok rs) fault is e h r = absurd is
gives_back_err shelf revision last wanted n id (Err f) fault is e h r =
    subst (MayBreak shelf revision last) (sym is) (may_break shelf revision last wanted n id fault e h r)

pub gives_err : (shelf : Shelf) (revision : ℕ) (last : ObjectId) {Z : Type 0} (answer : Result (Vec Record Z) ChainFault) (fault : ChainFault)
    → IsErrAnd answer (λ f. f ≡ fault) → MayBreak shelf revision last fault → Gives shelf revision last answer
gives_err shelf revision last (Ok rs) fault is h = absurd is
gives_err shelf revision last (Err f) fault is h = subst (MayBreak shelf revision last) (sym is) h
