use Rattle.std.proofs.Common.{◌≡◌, ◌∙◌, sym, subst, ap, refl, arith, inl, Err}
use Rattle.cv_base.proofs.Laws.{left_by}
use Rattle.cv_http.specs.Wires.{Draws}
use Rattle.cv_http.proofs.Lemmas.{gets_same, gets_moved, gets_on, draws_of, looks_still}
use Rattle.cv_shell.specs.Lines.{IsLine, LineRead}
use Rattle.cv_shell.specs.declared.lines.LineFault.TheVariants.{ReadFault}
use Rattle.cv_shell.proofs.Reading.{found_none, unfound, not_unread, unfilled, looks_on}
use Rattle.cv_shell.proofs.lines.Lines.next_line.Goals as goal

pub pieces-init : goal.pieces-init
pieces-init g c = record {
  gets = gets_same g.R.Source.left g.R.Source.given c.args.self.now c.args.self.now refl refl refl;
  looks = λ look is. inl is;
  no_read_failed = refl;
}

pub returns-in_err-line-clause-reads : goal.returns-in_err-line-clause-reads
returns-in_err-line-clause-reads g c =
    left_by (λ r. Draws g.R.Source.left g.R.Source.given c.args.self.now c.take_line.new.self (λ b. LineRead (g.R.Source.left c.take_line.new.self.source) b c.take_line.new.self.held r)) c.from_residual.result _ c.from_residual.ensures.1
    (draws_of g.R.Source.left g.R.Source.given c.args.self.now c.pieces.self c.take_line.new.self _ c.pieces.invariant.gets c.take_line.ensures.source
    (unfound (g.R.Source.left c.take_line.new.self.source) c.pieces.self.held c.take_line.new.self.held _ c.in_err-line.ensures.found))

pub returns-in_err-line-clause-cause : goal.returns-in_err-line-clause-cause
returns-in_err-line-clause-cause g c = record {
  later = let same = ap g.R.Source.faults c.take_line.ensures.source in let was = c.pieces.invariant.no_read_failed in omega (arith, same, was);
  failed = λ is.
      absurd (left_by (λ r. r ≡ Err ReadFault → ⊥) c.from_residual.result _ c.from_residual.ensures.1
      (λ same. not_unread c.pieces.self.held c.take_line.new.self.held _ c.in_err-line.ensures.found cc) is);
}

pub returns-in_err-fill-clause-reads : goal.returns-in_err-fill-clause-reads
returns-in_err-fill-clause-reads g c =
    let part = found_none c.pieces.self.held c.take_line.new.self.held c.in_ok-line.field-0 c.in_ok-line.ensures.found c.in_default.not-Some in
    let line : IsLine c.fill.new.self.held = subst IsLine (sym (c.in_err-fill.ensures.lost ∙ part.1)) part.0 in
    let gets = gets_moved g.R.Source.left g.R.Source.given c.args.self.now c.pieces.self c.take_line.new.self c.pieces.invariant.gets c.take_line.ensures.source part.1 in
    left_by (λ r. Draws g.R.Source.left g.R.Source.given c.args.self.now c.fill.new.self (λ b. LineRead (g.R.Source.left c.fill.new.self.source) b c.fill.new.self.held r)) c.from_residual-in_err-fill.result _ c.from_residual-in_err-fill.ensures.1
    (draws_of g.R.Source.left g.R.Source.given c.args.self.now c.fill.new.self c.fill.new.self _ (gets_on g.R.Source.left g.R.Source.given c.args.self.now c.take_line.new.self c.fill.new.self gets c.fill.ensures.gets) refl
    (unfilled (g.R.Source.left c.fill.new.self.source) c.fill.new.self.held c.fill.new.self.held _ c.in_err-fill.ensures.faults line refl))

pub returns-in_err-fill-clause-looks : goal.returns-in_err-fill-clause-looks
returns-in_err-fill-clause-looks g c =
    let part = found_none c.pieces.self.held c.take_line.new.self.held c.in_ok-line.field-0 c.in_ok-line.ensures.found c.in_default.not-Some in
    let line : IsLine c.take_line.new.self.held = subst IsLine (sym part.1) part.0 in
    let gets = gets_moved g.R.Source.left g.R.Source.given c.args.self.now c.pieces.self c.take_line.new.self c.pieces.invariant.gets c.take_line.ensures.source part.1 in
    looks_on g.R.Source.left g.R.Source.given g.R.Source.looks c.args.self.now c.take_line.new.self c.fill.new.self _
    (looks_still g.R.Source.left g.R.Source.looks c.args.self.now c.pieces.self c.take_line.new.self _ c.pieces.invariant.looks c.take_line.ensures.source)
    gets line c.fill.ensures.looks

pub returns-then-not-branch-clause-reads : goal.returns-then-not-branch-clause-reads
returns-then-not-branch-clause-reads g c =
    let part = found_none c.pieces.self.held c.take_line.new.self.held c.in_ok-line.field-0 c.in_ok-line.ensures.found c.in_default.not-Some in
    let gets = gets_moved g.R.Source.left g.R.Source.given c.args.self.now c.pieces.self c.take_line.new.self c.pieces.invariant.gets c.take_line.ensures.source part.1 in
    draws_of g.R.Source.left g.R.Source.given c.args.self.now c.fill.new.self c.last_line.new.self _ (gets_on g.R.Source.left g.R.Source.given c.args.self.now c.take_line.new.self c.fill.new.self gets c.fill.ensures.gets) c.last_line.ensures.source c.last_line.ensures.read

pub pieces-preserved : goal.pieces-preserved
pieces-preserved g c =
    let part = found_none c.pieces.self.held c.take_line.new.self.held c.in_ok-line.field-0 c.in_ok-line.ensures.found c.in_default.not-Some in
    let line : IsLine c.take_line.new.self.held = subst IsLine (sym part.1) part.0 in
    let gets = gets_moved g.R.Source.left g.R.Source.given c.args.self.now c.pieces.self c.take_line.new.self c.pieces.invariant.gets c.take_line.ensures.source part.1 in
    record {
      gets = gets_on g.R.Source.left g.R.Source.given c.args.self.now c.take_line.new.self c.fill.new.self gets c.fill.ensures.gets;
      looks =
          looks_on g.R.Source.left g.R.Source.given g.R.Source.looks c.args.self.now c.take_line.new.self c.fill.new.self _
          (looks_still g.R.Source.left g.R.Source.looks c.args.self.now c.pieces.self c.take_line.new.self _ c.pieces.invariant.looks c.take_line.ensures.source)
          gets line c.fill.ensures.looks;
      no_read_failed = c.in_ok-fill.ensures.no_read_failed (λ is. cc) ∙ (ap g.R.Source.faults c.take_line.ensures.source ∙ c.pieces.invariant.no_read_failed);
    }
