use Rattle.std.proofs.Common.{◌≡◌, ◌∙◌, ◌-◌, suc, refl, arith}
use Rattle.cv_history.specs.Chain.{Names, StandsAt}
use Rattle.cv_history.proofs.WalksBack.{amiss_breaks, gives_back_err, leads_more, leads_done, hangs_more}
use Rattle.cv_history.proofs.history.records_back.Goals as goal

pub returns-in_err-record-clause-told : goal.returns-in_err-record-clause-told
returns-in_err-record-clause-told g c = λ standing told.
    let some : c.records.wanted ≡ suc (c.records.wanted - 1) = omega arith in
    gives_back_err standing _ _ c.records.wanted (c.records.wanted - 1) c.records.id _ _ c.from_residual.ensures.1 some
    (c.records.invariant.breaks standing told) (c.in_err-record.ensures.told standing (c.records.invariant.unchanged ∙ told))

pub returns-then-record-wanted-clause-told : goal.returns-then-record-wanted-clause-told
returns-then-record-wanted-clause-told g c = λ standing told.
    let some : c.records.wanted ≡ suc (c.records.wanted - 1) = omega arith in
    amiss_breaks standing _ _ c.records.wanted (c.records.wanted - 1) c.records.id _ some (c.records.invariant.breaks standing told) (
      refl,
      refl,
      record {
        found = c.in_ok-record.record;
        stands = c.in_ok-record.ensures.told standing (c.records.invariant.unchanged ∙ told);
        is_revision = refl;
        other = c.if-record-wanted.true;
      },
    )

pub records-preserved : goal.records-preserved
records-preserved g c =
    let some : c.records.wanted ≡ suc (c.records.wanted - 1) = omega arith in
    record {
      chain = λ standing told. rw c.in_ok-push.ensures.items
          (leads_more (StandsAt standing) _ _ _ c.records.wanted (c.records.wanted - 1) c.records.id c.in_ok-record.record some
          (c.records.invariant.chain standing told) (c.in_ok-record.ensures.told standing (c.records.invariant.unchanged ∙ told)) c.if-record-wanted.false);
      breaks = λ standing told.
          hangs_more standing _ _ c.records.wanted (c.records.wanted - 1) c.records.id c.in_ok-record.record some
          (c.records.invariant.breaks standing told) (c.in_ok-record.ensures.told standing (c.records.invariant.unchanged ∙ told)) c.if-record-wanted.false;
      linked = rw c.in_ok-push.ensures.items
          (leads_more Names _ _ _ c.records.wanted (c.records.wanted - 1) c.records.id c.in_ok-record.record some
          c.records.invariant.linked c.in_ok-record.ensures.named c.if-record-wanted.false);
      reads = g.met.S.Shelf.reads_then _ _ _ c.records.invariant.reads c.in_ok-record.ensures.reads;
      unchanged = c.in_ok-record.ensures.unchanged ∙ c.records.invariant.unchanged;
      later = omega (arith, c.in_ok-record.ensures.cause.later);
      fetches = omega (arith, c.in_ok-record.ensures.taken);
    }

pub returns-clause-told : goal.returns-clause-told
returns-clause-told g c = λ standing told.
    let none : c.records.wanted ≡ 0 = omega arith in
    leads_done (StandsAt standing) _ _ _ c.records.wanted c.records.id none (c.records.invariant.chain standing told)

pub returns-clause-linked : goal.returns-clause-linked
returns-clause-linked g c =
    let none : c.records.wanted ≡ 0 = omega arith in
    leads_done Names _ _ _ c.records.wanted c.records.id none c.records.invariant.linked
