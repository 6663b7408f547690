use Rattle.std.proofs.Common.{◌≡◌, ◌∙◌, sym, subst, ap, refl, length, length-append, arith, Err}
use Rattle.std.specs.Prelude.{IfErr}
use Rattle.cv_base.proofs.Laws.{left_by}
use Rattle.cv_http.specs.Forms.{AwaitedAs}
use Rattle.cv_http.specs.Wires.{Draws, HeadReadAs}
use Rattle.cv_http.specs.Faults.{IsHeadFault}
use Rattle.cv_http.specs.declared.fault.HttpFault.TheVariants.{Short, ReadFault}
use Rattle.cv_http.proofs.HeadEnds.{none_yet, none_at_all, none_on}
use Rattle.cv_http.proofs.Streams.{gets_same, gets_moved, gets_on, draws_of, draws_reads, read_lost, found_none, head_unread, looks_none, looks_still, head_looks}
use Rattle.cv_http.proofs.wire.Wire.next_head.Goals as goal

pub pieces-init : goal.pieces-init
pieces-init g c = record {
  gets = gets_same g.R.Source.left g.R.Source.given c.args.self.now c.args.self.now refl refl refl;
  looks = looks_none g.R.Source.left g.R.Source.looks c.args.self.now c.args.self.now _ refl;
  within = omega arith;
  none = none_yet g.H.Head.form g.met.H.Head.ends c.args.self.now.held;
  no_read_failed = refl;
}

pub returns-in_err-head-clause-reads : goal.returns-in_err-head-clause-reads
returns-in_err-head-clause-reads g c =
    left_by (λ r. Draws g.R.Source.left g.R.Source.given c.args.self.now c.seek_head.new.self (λ b. HeadReadAs g.H.Head.form b c.seek_head.new.self.held r)) c.from_residual.result _ c.from_residual.ensures.1
    (draws_of g.R.Source.left g.R.Source.given c.args.self.now c.pieces.self c.seek_head.new.self _ c.pieces.invariant.gets c.seek_head.ensures.source
    (read_lost g.H.Head.form g.met.H.Head.refusal c.pieces.self.held c.seek_head.new.self.held _ c.in_err-head.ensures.found).0)

pub returns-in_err-head-clause-cut : goal.returns-in_err-head-clause-cut
returns-in_err-head-clause-cut g c = λ is.
    absurd (left_by (λ r. r ≡ Err Short → ⊥) c.from_residual.result _ c.from_residual.ensures.1
    ((read_lost g.H.Head.form g.met.H.Head.refusal c.pieces.self.held c.seek_head.new.self.held _ c.in_err-head.ensures.found).3 _ refl) is)

pub returns-in_err-head-clause-faults : goal.returns-in_err-head-clause-faults
returns-in_err-head-clause-faults g c =
    left_by (λ r. IfErr r IsHeadFault) c.from_residual.result _ c.from_residual.ensures.1
    (read_lost g.H.Head.form g.met.H.Head.refusal c.pieces.self.held c.seek_head.new.self.held _ c.in_err-head.ensures.found).1

pub returns-in_err-head-clause-cause : goal.returns-in_err-head-clause-cause
returns-in_err-head-clause-cause g c = record {
  later = let same = ap g.R.Source.faults c.seek_head.ensures.source in let was = c.pieces.invariant.no_read_failed in omega (arith, same, was);
  failed = λ is.
      absurd (left_by (λ r. r ≡ Err ReadFault → ⊥) c.from_residual.result _ c.from_residual.ensures.1
      ((read_lost g.H.Head.form g.met.H.Head.refusal c.pieces.self.held c.seek_head.new.self.held _ c.in_err-head.ensures.found).2 _ refl) is);
}

pub returns-in_err-fill-clause-reads : goal.returns-in_err-fill-clause-reads
returns-in_err-fill-clause-reads g c =
    let found = found_none g.H.Head.form (AwaitedAs g.H.Head.form) c.pieces.self.held c.seek_head.new.self.held c.in_ok-head.field-0 c.in_ok-head.ensures.found c.in_default.not-Some in
    let waits : AwaitedAs g.H.Head.form c.fill.new.self.held = subst (AwaitedAs g.H.Head.form) (sym (c.in_err-fill.ensures.lost ∙ found.1)) found.0 in
    let gets = gets_moved g.R.Source.left g.R.Source.given c.args.self.now c.pieces.self c.seek_head.new.self c.pieces.invariant.gets c.seek_head.ensures.source found.1 in
    left_by (λ r. Draws g.R.Source.left g.R.Source.given c.args.self.now c.fill.new.self (λ b. HeadReadAs g.H.Head.form b c.fill.new.self.held r)) c.from_residual-in_err-fill.result _ c.from_residual-in_err-fill.ensures.1
    (draws_of g.R.Source.left g.R.Source.given c.args.self.now c.fill.new.self c.fill.new.self _ (gets_on g.R.Source.left g.R.Source.given c.args.self.now c.seek_head.new.self c.fill.new.self gets c.fill.ensures.gets) refl
    (head_unread g.H.Head.form c.fill.new.self.held _ c.in_err-fill.ensures.faults waits))

pub returns-in_err-fill-clause-looks : goal.returns-in_err-fill-clause-looks
returns-in_err-fill-clause-looks g c =
    let found = found_none g.H.Head.form (AwaitedAs g.H.Head.form) c.pieces.self.held c.seek_head.new.self.held c.in_ok-head.field-0 c.in_ok-head.ensures.found c.in_default.not-Some in
    let waits : AwaitedAs g.H.Head.form c.seek_head.new.self.held = subst (AwaitedAs g.H.Head.form) (sym found.1) found.0 in
    let gets = gets_moved g.R.Source.left g.R.Source.given c.args.self.now c.pieces.self c.seek_head.new.self c.pieces.invariant.gets c.seek_head.ensures.source found.1 in
    head_looks g.R.Source.left g.R.Source.looks g.H.Head.form c.args.self.now c.seek_head.new.self c.fill.new.self _
    (looks_still g.R.Source.left g.R.Source.looks c.args.self.now c.pieces.self c.seek_head.new.self _ c.pieces.invariant.looks c.seek_head.ensures.source)
    (draws_reads g.R.Source.left g.R.Source.given c.args.self.now c.seek_head.new.self _ (draws_of g.R.Source.left g.R.Source.given c.args.self.now c.seek_head.new.self c.seek_head.new.self (λ b. b ≡ c.seek_head.new.self.held) gets refl refl)) waits c.fill.ensures.looks

pub pieces-preserved : goal.pieces-preserved
pieces-preserved g c =
    let found = found_none g.H.Head.form (AwaitedAs g.H.Head.form) c.pieces.self.held c.seek_head.new.self.held c.in_ok-head.field-0 c.in_ok-head.ensures.found c.in_default.not-Some in
    let waits : AwaitedAs g.H.Head.form c.seek_head.new.self.held = subst (AwaitedAs g.H.Head.form) (sym found.1) found.0 in
    let gets = gets_moved g.R.Source.left g.R.Source.given c.args.self.now c.pieces.self c.seek_head.new.self c.pieces.invariant.gets c.seek_head.ensures.source found.1 in
    let seen = ap length c.bytes-seen.ensures in
    let grown = ap length c.fill.ensures.gets.more ∙ length-append c.seek_head.new.self.held c.fill.ensures.gets.got in
    record {
      gets = gets_on g.R.Source.left g.R.Source.given c.args.self.now c.seek_head.new.self c.fill.new.self gets c.fill.ensures.gets;
      looks =
          head_looks g.R.Source.left g.R.Source.looks g.H.Head.form c.args.self.now c.seek_head.new.self c.fill.new.self _
          (looks_still g.R.Source.left g.R.Source.looks c.args.self.now c.pieces.self c.seek_head.new.self _ c.pieces.invariant.looks c.seek_head.ensures.source)
          (draws_reads g.R.Source.left g.R.Source.given c.args.self.now c.seek_head.new.self _ (draws_of g.R.Source.left g.R.Source.given c.args.self.now c.seek_head.new.self c.seek_head.new.self (λ b. b ≡ c.seek_head.new.self.held) gets refl refl)) waits c.fill.ensures.looks;
      within = omega (arith, seen, grown);
      none = none_on g.H.Head.form g.met.H.Head.ends (length c.bytes-seen.result.now) c.seek_head.new.self.held c.fill.new.self.held c.fill.ensures.gets.got c.fill.ensures.gets.more (omega (arith, seen)) (none_at_all g.H.Head.form g.met.H.Head.ends (length c.bytes-seen.result.now) waits.none);
      no_read_failed = c.in_ok-fill.ensures.no_read_failed (λ is. cc) ∙ (ap g.R.Source.faults c.seek_head.ensures.source ∙ c.pieces.invariant.no_read_failed);
    }
