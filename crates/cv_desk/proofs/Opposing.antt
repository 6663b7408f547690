-- What the published revisions say against a commit is what the gate's step says.
use Rattle.std.proofs.Common.{◌≡◌, ◌<◌, ◌≤◌, ◌||◌, ◌&&◌, Bool, true, false, cond, nat_le, nat_eq, length, ℕ, List, [], ◌∷◌, refl, sym, ap, ◌∙◌, inl, inr, arith, rules}
use Rattle.std.specs.Prelude.{bytes_eq}
use Rattle.std.specs.List.{find}
use Rattle.std.specs.Option.{option_map}
use Rattle.std.specs.declared.option.Option.{Option}
use Rattle.std.specs.declared.option.Option.TheVariants.{None, Some}
use Rattle.cv_base.specs.declared.token.Token.{Token}
use Rattle.cv_history.specs.declared.record.Record.{Record}
use Rattle.cv_leases.specs.declared.lease.Lease.{Lease}
use Rattle.cv_base.specs.declared.limits.TheConstants.{LAST_REVISION}
use Rattle.cv_swap.specs.Kept.{Revision, newest, records_of}
use Rattle.cv_gate.specs.State.{State}
use Rattle.cv_gate.specs.Commits.{is_base, tagged, IsTaken}
use Rattle.cv_gate.specs.Step.{Commits}
use Rattle.cv_gate.specs.declared.reply.Reply.{Reply}
use Rattle.cv_gate.specs.declared.reply.Reply.TheVariants as reply
use Rattle.cv_desk.specs.Committing.{has_base, holder_of, taken_by, opposition_by}

base_is : (history : List Revision) (from : ℕ) (root : List ℕ) → has_base (records_of history) from root ≡ is_base history from root
base_is [] from root = refl
base_is (r ∷ history) from root = ap (λ b. (nat_le from r.record_.revision && bytes_eq r.record_.root root) || b) (base_is history from root)

holder_is : (history : List Revision) (tag : List ℕ) → find (λ (r : Record). bytes_eq r.tag tag) (records_of history) ≡ option_map (λ (r : Revision). r.record_) (tagged tag history)
holder_is [] tag = refl
holder_is (r ∷ history) tag = by (bytes_eq r.record_.tag tag) (holder_is history tag)
  where
    by : (b : Bool) → find (λ (x : Record). bytes_eq x.tag tag) (records_of history) ≡ option_map (λ (x : Revision). x.record_) (tagged tag history)
        → cond b (Some r.record_) (find (λ (x : Record). bytes_eq x.tag tag) (records_of history)) ≡ option_map (λ (x : Revision). x.record_) (cond b (Some r) (tagged tag history))
    by true later = refl
    by false later = later

-- a tag that isn't empty is looked for
pub taken_found : (tag text : List ℕ) (records : List Record) → false ≡ nat_eq (length tag) 0 → text ≡ tag → (o : Option Record) → o ≡ find (λ (r : Record). bytes_eq r.tag text) records → taken_by o ≡ taken_by (holder_of tag records)
taken_found [] text records some is o e = absurd cc
taken_found (b ∷ tag) text records some is o e = ap taken_by e ∙ ap (λ t. taken_by (find (λ (r : Record). bytes_eq r.tag t) records)) is

-- a revision that has the tag, where the records have one
taken_is : (history : List Revision) (tag : List ℕ) (o : Reply) → taken_by (holder_of tag (records_of history)) ≡ Some o → (r : Revision) × IsTaken history tag r × (o ≡ reply.TagTaken r.record_.revision)
taken_is history [] o e = absurd cc
taken_is history (b ∷ tag) o e =
    elim (tagged (b ∷ tag) history) as (λ x. tagged (b ∷ tag) history ≡ x → taken_by (option_map (λ (r : Revision). r.record_) x) ≡ Some o → (r : Revision) × IsTaken history (b ∷ tag) r × (o ≡ reply.TagTaken r.record_.revision)) [
      | None ↦ λ _ none. absurd cc
      | Some r ↦ λ found some. (let same : reply.TagTaken r.record_.revision ≡ o = cc in (r, ((λ none. cc), found), sym same))
    ] refl (ap taken_by (sym (holder_is history (b ∷ tag))) ∙ e)

-- none has it, where they have none
free_of : (history : List Revision) (tag : List ℕ) → taken_by (holder_of tag (records_of history)) ≡ None → (taken : Revision) → IsTaken history tag taken → ⊥
free_of history [] e taken is = is.0 refl
free_of history (b ∷ tag) e taken is =
    let found : taken_by (holder_of (b ∷ tag) (records_of history)) ≡ Some (reply.TagTaken taken.record_.revision) =
    ap taken_by (holder_is history (b ∷ tag)) ∙ ap (λ x. taken_by (option_map (λ (r : Revision). r.record_) x)) is.1 in
    (let none = e in cc)

-- nothing stands against a commit: there is room for a revision more, the old root is that of one since the lease was granted, and the tag
-- is free
pub record IsUnopposed (history : List Revision) (head : Revision) (from : ℕ) (old_root tag : List ℕ) : Type 0 where
  pub room : head.record_.revision < LAST_REVISION
  pub base : is_base history from old_root ≡ true
  pub free : (taken : Revision) → IsTaken history tag taken → ⊥

module _ (history : List Revision) (head : Revision) (from : ℕ) (old_root tag : List ℕ) where
  abbrev against : Bool → Bool → Option Reply
  against full base = cond full (Some reply.RevisionsFull) (cond base (taken_by (holder_of tag (records_of history))) (Some (reply.StaleBase from)))

  abbrev is_full : Bool
  is_full = nat_le LAST_REVISION head.record_.revision

  abbrev is_based : Bool
  is_based = has_base (records_of history) from old_root

  pub unopposed : opposition_by head.record_.revision (records_of history) from old_root tag ≡ None → IsUnopposed history head from old_root tag
  unopposed h =
      elim is_full as (λ full. is_full ≡ full → against full is_based ≡ None → IsUnopposed history head from old_root tag) [
        | true ↦ λ _ none. absurd cc
        | false ↦ λ room none. elim is_based as (λ b. is_based ≡ b → against false b ≡ None → IsUnopposed history head from old_root tag) [
          | false ↦ λ _ none2. absurd cc
          | true ↦ λ base none2. record { room = search rules; base = sym (base_is history from old_root) ∙ base; free = free_of history tag none2 }
        ] refl none
      ] refl h

-- what stands against it is the gate's refusal
module _ (st : State) (head : Revision) (is : newest st.history ≡ Some head) (lease : Lease) (key : List ℕ) (token : Token) (old_root new_root tag : List ℕ) (o : Reply) where
  abbrev Refused : Type 0
  Refused = Commits st key token old_root new_root tag o st lease

  abbrev based : Bool
  based = is_based st.history head lease.from_revision old_root tag

  no_room : nat_le LAST_REVISION head.record_.revision ≡ false → LAST_REVISION ≤ head.record_.revision → ⊥
  no_room room full = let few : head.record_.revision < LAST_REVISION = search rules in omega (arith, few, full)

  pub opposed : opposition_by head.record_.revision (records_of st.history) lease.from_revision old_root tag ≡ Some o → Refused
  opposed h =
      elim (is_full st.history head lease.from_revision old_root tag) as (λ full. is_full st.history head lease.from_revision old_root tag ≡ full → against st.history head lease.from_revision old_root tag full based ≡ Some o → Refused) [
        | true ↦ λ full some. (let same : reply.RevisionsFull ≡ o = cc in (head, is, inl (search rules, sym same, refl)))
        | false ↦ λ room some. elim based as (λ b. based ≡ b → against st.history head lease.from_revision old_root tag false b ≡ Some o → Refused) [
          | false ↦ λ stale some2. (let same : reply.StaleBase lease.from_revision ≡ o = cc in
              (head, is, inr ((λ full. absurd (no_room room full)), inl (sym (base_is st.history lease.from_revision old_root) ∙ stale, sym same, refl))))
          | true ↦ λ base some2. (let t = taken_is st.history tag o some2 in (
            head,
            is,
            inr (
              (λ full. absurd (no_room room full)),
              inr (
                (λ stale. (let b : is_base st.history lease.from_revision old_root ≡ true = sym (base_is st.history lease.from_revision old_root) ∙ base in cc)),
                inl (t.0, t.1, t.2, refl),
              ),
            ),
          ))
        ] refl some
      ] refl h
