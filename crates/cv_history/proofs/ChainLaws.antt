-- A chain of records is the only one of its last id, and breaks in one way at most.
use Rattle.std.proofs.Common.{◌≡◌, ℕ, zero, suc, List, [], ◌∷◌, ◌++◌, inl, inr, sym, ap, subst, ◌∙◌}
use Rattle.std.specs.Prelude.{Vec, Option, Some, None, Result, Ok, Err}
use Rattle.sha1.specs.Sha1.{sha1}
use Rattle.cv_base.specs.declared.id.ObjectId.{ObjectId}
use Rattle.cv_base.proofs.Laws.{some_same}
use Rattle.cv_ports.specs.Shelf.{Shelf}
use Rattle.cv_history.specs.Record.{Spells, record_bytes}
use Rattle.cv_history.specs.Chain.{id_before, StandsAt, Chain, IsAmiss, Breaks, Gives, IsList, IsBroken}
use Rattle.cv_history.specs.declared.chain_fault.ChainFault.{ChainFault}
use Rattle.cv_history.specs.declared.chain_fault.ChainFault.TheVariants.{Missing, BadRecord, BadLink, Failed, Damaged, NoMemory}
use Rattle.cv_history.specs.declared.record.Record.{Record}
use Rattle.cv_history.proofs.Spelling.{one_record}

none_some : (o : Option (List ℕ)) (x : List ℕ) → o ≡ None → o ≡ Some x → ⊥
none_some o x h k = cc

-- what stands under the id spells the record
spelled : (shelf : Shelf) (id : ObjectId) (r : Record) (bytes : List ℕ) → StandsAt shelf id r → shelf id ≡ Some bytes → Spells bytes r
spelled shelf id r bytes h present = record {
  typed = h.named.typed;
  limits = h.named.limits;
  bytes = some_same (shelf id) bytes (record_bytes r) present h.present;
}

same_record : (shelf : Shelf) (id : ObjectId) (a b : Record) → StandsAt shelf id a → StandsAt shelf id b → a ≡ b
same_record shelf id a b h k = one_record (record_bytes a) a b (spelled shelf id a _ h h.present) (spelled shelf id b _ k h.present)

-- where a record stands its hash is that of the bytes
hash_of : (shelf : Shelf) (id : ObjectId) (r : Record) (bytes : List ℕ) → StandsAt shelf id r → shelf id ≡ Some bytes → sha1 bytes ≡ id.hash
hash_of shelf id r bytes h present = ap sha1 (some_same (shelf id) bytes (record_bytes r) present h.present) ∙ h.named.hash

pub one_chain : (shelf : Shelf) (n : ℕ) (id : ObjectId) (a b : List Record) → Chain (StandsAt shelf) n id a → Chain (StandsAt shelf) n id b → a ≡ b
one_chain shelf zero id a b x y = x ∙ sym y
one_chain shelf (suc n) id a b x y =
    let last = same_record shelf id x.last y.last x.holds y.holds in
    let P : Record → Type 0 = λ (r : Record). Chain (StandsAt shelf) n (id_before r) y.before in
    let before = one_chain shelf n (id_before x.last) x.before y.before x.chain (subst P (sym last) y.chain) in
    x.split ∙ ap (λ (l : List Record). l ++ x.last ∷ []) before ∙ ap (λ (r : Record). y.before ++ r ∷ []) last ∙ sym y.split

-- where the record wanted stands nothing is amiss
not_amiss : (shelf : Shelf) (wanted : ℕ) (id : ObjectId) (r : Record) (fault : ChainFault) → StandsAt shelf id r → r.revision ≡ wanted → IsAmiss shelf wanted id fault → ⊥
not_amiss shelf wanted id r (Missing at) h is m = none_some (shelf id) (record_bytes r) m.1 h.present
not_amiss shelf wanted id r (BadRecord at) h is m = m.1.none r (spelled shelf id r m.1.bytes h m.1.present)
not_amiss shelf wanted id r (BadLink at revision other) h is m =
    let same = same_record shelf id m.2.found r m.2.stands h in
    m.2.other (sym m.2.is_revision ∙ ap (λ (x : Record). x.revision) same ∙ is)
not_amiss shelf wanted id r Failed h is m = m
not_amiss shelf wanted id r (Damaged at found) h is m = m.1.other (m.1.digest ∙ hash_of shelf id r m.1.bytes h m.1.there)
not_amiss shelf wanted id r NoMemory h is m = m

pub no_break : (shelf : Shelf) (n : ℕ) (id : ObjectId) (rs : List Record) (fault : ChainFault) → Chain (StandsAt shelf) n id rs → Breaks shelf n id fault → ⊥
no_break shelf zero id rs fault x b = b
no_break shelf (suc n) id rs fault x b = elim b [
  | inl amiss ↦ not_amiss shelf (suc n) id x.last fault x.holds x.is_revision amiss
  | inr later ↦
      let last = same_record shelf id later.last x.last later.stands x.holds in
      let P : Record → Type 0 = λ (r : Record). Breaks shelf n (id_before r) fault in
      no_break shelf n (id_before x.last) x.before fault x.chain (subst P last later.broken)
]

one_amiss : (shelf : Shelf) (wanted : ℕ) (id : ObjectId) (a b : ChainFault) → IsAmiss shelf wanted id a → IsAmiss shelf wanted id b → a ≡ b
one_amiss shelf wanted id (Missing at) (Missing place) m k = ap Missing (m.0 ∙ sym k.0)
one_amiss shelf wanted id (Missing at) (BadRecord place) m k = absurd (none_some (shelf id) _ m.1 k.1.present)
one_amiss shelf wanted id (Missing at) (BadLink place revision other) m k = absurd (none_some (shelf id) _ m.1 k.2.stands.present)
one_amiss shelf wanted id (Missing at) Failed m k = absurd k
one_amiss shelf wanted id (Missing at) (Damaged place found) m k = absurd (none_some (shelf id) _ m.1 k.1.there)
one_amiss shelf wanted id (Missing at) NoMemory m k = absurd k
one_amiss shelf wanted id (BadRecord at) (Missing place) m k = absurd (none_some (shelf id) _ k.1 m.1.present)
one_amiss shelf wanted id (BadRecord at) (BadRecord place) m k = ap BadRecord (m.0 ∙ sym k.0)
one_amiss shelf wanted id (BadRecord at) (BadLink place revision other) m k = absurd (m.1.none k.2.found (spelled shelf id k.2.found m.1.bytes k.2.stands m.1.present))
one_amiss shelf wanted id (BadRecord at) Failed m k = absurd k
one_amiss shelf wanted id (BadRecord at) (Damaged place found) m k =
    absurd (k.1.other (k.1.digest ∙ ap sha1 (some_same (shelf id) _ _ k.1.there m.1.present) ∙ m.1.hash))
one_amiss shelf wanted id (BadRecord at) NoMemory m k = absurd k
one_amiss shelf wanted id (BadLink at revision other) (Missing place) m k = absurd (none_some (shelf id) _ k.1 m.2.stands.present)
one_amiss shelf wanted id (BadLink at revision other) (BadRecord place) m k = absurd (k.1.none m.2.found (spelled shelf id m.2.found k.1.bytes m.2.stands k.1.present))
one_amiss shelf wanted id (BadLink at revision other) (BadLink place number more) m k =
    let same = same_record shelf id m.2.found k.2.found m.2.stands k.2.stands in
    ap (λ (x : ObjectId). BadLink x revision other) (m.0 ∙ sym k.0)
    ∙ ap (λ (x : ℕ). BadLink place x other) (sym m.2.is_revision ∙ ap (λ (r : Record). r.revision) same ∙ k.2.is_revision)
    ∙ ap (λ (x : ℕ). BadLink place number x) (m.1 ∙ sym k.1)
one_amiss shelf wanted id (BadLink at revision other) Failed m k = absurd k
one_amiss shelf wanted id (BadLink at revision other) (Damaged place found) m k =
    absurd (k.1.other (k.1.digest ∙ hash_of shelf id m.2.found k.1.bytes m.2.stands k.1.there))
one_amiss shelf wanted id (BadLink at revision other) NoMemory m k = absurd k
one_amiss shelf wanted id Failed b m k = absurd m
one_amiss shelf wanted id (Damaged at found) (Missing place) m k = absurd (none_some (shelf id) _ k.1 m.1.there)
one_amiss shelf wanted id (Damaged at found) (BadRecord place) m k =
    absurd (m.1.other (m.1.digest ∙ ap sha1 (some_same (shelf id) _ _ m.1.there k.1.present) ∙ k.1.hash))
one_amiss shelf wanted id (Damaged at found) (BadLink place revision other) m k =
    absurd (m.1.other (m.1.digest ∙ hash_of shelf id k.2.found m.1.bytes k.2.stands m.1.there))
one_amiss shelf wanted id (Damaged at found) Failed m k = absurd k
one_amiss shelf wanted id (Damaged at found) (Damaged place other) m k =
    let bytes = some_same (shelf id) m.1.bytes k.1.bytes m.1.there k.1.there in
    ap (λ (x : ObjectId). Damaged x found) (m.0 ∙ sym k.0) ∙ ap (λ (x : List ℕ). Damaged place x) (m.1.digest ∙ ap sha1 bytes ∙ sym k.1.digest)
one_amiss shelf wanted id (Damaged at found) NoMemory m k = absurd k
one_amiss shelf wanted id NoMemory b m k = absurd m

pub one_break : (shelf : Shelf) (n : ℕ) (id : ObjectId) (a b : ChainFault) → Breaks shelf n id a → Breaks shelf n id b → a ≡ b
one_break shelf zero id a b x y = absurd x
one_break shelf (suc n) id a b x y = elim x [
  | inl m ↦ elim y [
    | inl k ↦ one_amiss shelf (suc n) id a b m k
    | inr later ↦ absurd (not_amiss shelf (suc n) id later.last a later.stands later.is_revision m)
  ]
  | inr later ↦ elim y [
    | inl k ↦ absurd (not_amiss shelf (suc n) id later.last b later.stands later.is_revision k)
    | inr more ↦
        let last = same_record shelf id more.last later.last more.stands later.stands in
        let P : Record → Type 0 = λ (r : Record). Breaks shelf n (id_before r) b in
        one_break shelf n (id_before later.last) a b later.broken (subst P last more.broken)
  ]
]

-- so an answer is the chain that there is, and the break that there is
pub gives_list : (shelf : Shelf) (n : ℕ) (id : ObjectId) {Z : Type 0} (answer : Result (Vec Record Z) ChainFault) (rs : List Record) → Gives shelf n id answer
    → Chain (StandsAt shelf) n id rs → IsList answer rs
gives_list shelf n id (Ok given) rs h chain = one_chain shelf n id given.items rs h chain
gives_list shelf n id (Err (Missing at)) rs h chain = no_break shelf n id rs (Missing at) chain h
gives_list shelf n id (Err (BadRecord at)) rs h chain = no_break shelf n id rs (BadRecord at) chain h
gives_list shelf n id (Err (BadLink at revision wanted)) rs h chain = no_break shelf n id rs (BadLink at revision wanted) chain h
gives_list shelf n id (Err Failed) rs h chain = tt
gives_list shelf n id (Err (Damaged at found)) rs h chain = no_break shelf n id rs (Damaged at found) chain h
gives_list shelf n id (Err NoMemory) rs h chain = tt

pub gives_break : (shelf : Shelf) (n : ℕ) (id : ObjectId) {Z : Type 0} (answer : Result (Vec Record Z) ChainFault) (fault : ChainFault) → Gives shelf n id answer
    → Breaks shelf n id fault → IsBroken answer fault
gives_break shelf n id (Ok given) fault h b = no_break shelf n id given.items fault h b
gives_break shelf n id (Err (Missing at)) fault h b = one_break shelf n id (Missing at) fault h b
gives_break shelf n id (Err (BadRecord at)) fault h b = one_break shelf n id (BadRecord at) fault h b
gives_break shelf n id (Err (BadLink at revision wanted)) fault h b = one_break shelf n id (BadLink at revision wanted) fault h b
gives_break shelf n id (Err Failed) fault h b = tt
gives_break shelf n id (Err (Damaged at found)) fault h b = one_break shelf n id (Damaged at found) fault h b
gives_break shelf n id (Err NoMemory) fault h b = tt
