-- What an answer says.
use Rattle.std.proofs.Common.{◌≡◌, true, false, cond, nat_le, ℕ, List, refl, subst}
use Rattle.std.specs.Prelude.{bytes_eq}
use Rattle.std.specs.declared.option.Option.{Option}
use Rattle.std.specs.declared.option.Option.TheVariants.{None, Some}
use Rattle.std.specs.declared.result.Result.{Result}
use Rattle.std.specs.declared.result.Result.TheVariants.{Ok, Err}
use Rattle.cv_history.specs.declared.record.Record.{Record}
use Rattle.cv_leases.specs.declared.lease.Lease.{Lease}
use Rattle.cv_base.specs.declared.limits.TheConstants.{LAST_REVISION}
use Rattle.cv_gate.specs.Laws.{is_committed}
use Rattle.cv_gate.specs.declared.reply.Reply.{Reply}
use Rattle.cv_gate.specs.declared.reply.Reply.TheVariants as reply
use Rattle.cv_desk.specs.Refusals.{refusal_on, has_base, holder_of, taken_by, opposition_by, is_unmade}

-- ---- one answer or another

pub err_is : {X E : Type 0} (r : Result X E) {x y : E} → r ≡ Err x → r ≡ Err y → x ≡ y
err_is r a b = cc

pub ok_no_err : {X E : Type 0} (r : Result X E) {x : X} {y : E} → r ≡ Ok x → r ≡ Err y → ⊥
ok_no_err r a b = cc

-- ---- what is answered to a commit that isn't ready says of none that it was made

pub unmade_uncommitted : (r : Reply) → is_unmade r ≡ true → is_committed r ≡ false
unmade_uncommitted (reply.Committed revision root) e = cc
unmade_uncommitted other e = refl

says_none : (o out : Reply) → Some o ≡ Some out → is_committed o ≡ false → is_committed out ≡ false
says_none o out e none = let same : o ≡ out = cc in subst (λ x. is_committed x ≡ false) same none

pub end_uncommitted : (lease : Option Lease) (key : List ℕ) (out : Reply) → refusal_on lease key ≡ Some out → is_committed out ≡ false
end_uncommitted None key out h = says_none reply.InvalidToken out h refl
end_uncommitted (Some lease) key out h =
    elim (bytes_eq lease.key key) as (λ b. cond b None (Some reply.WrongKey) ≡ Some out → is_committed out ≡ false) [
      | true ↦ λ e. cc
      | false ↦ λ e. says_none reply.WrongKey out e refl
    ] h

taken_uncommitted : (holder : Option Record) (out : Reply) → taken_by holder ≡ Some out → is_committed out ≡ false
taken_uncommitted None out h = cc
taken_uncommitted (Some r) out h = says_none (reply.TagTaken r.revision) out h refl

pub opposition_uncommitted : (newest : ℕ) (records : List Record) (from : ℕ) (old_root tag : List ℕ) (out : Reply) → opposition_by newest records from old_root tag ≡ Some out → is_committed out ≡ false
opposition_uncommitted newest records from old_root tag out h =
    elim (nat_le LAST_REVISION newest) as (λ full. cond full (Some reply.RevisionsFull) (cond (has_base records from old_root) (taken_by (holder_of tag records)) (Some (reply.StaleBase from))) ≡ Some out → is_committed out ≡ false) [
      | true ↦ λ e. says_none reply.RevisionsFull out e refl
      | false ↦ λ e. elim (has_base records from old_root) as (λ base. cond base (taken_by (holder_of tag records)) (Some (reply.StaleBase from)) ≡ Some out → is_committed out ≡ false) [
        | true ↦ λ e2. taken_uncommitted (holder_of tag records) out e2
        | false ↦ λ e2. says_none (reply.StaleBase from) out e2 refl
      ] e
    ] h
