use Rattle.std.proofs.Common.{◌≡◌, ◌∙◌, refl, ap, length, arith}
use Rattle.cv_base.proofs.Laws.{left_by}
use Rattle.cv_http.proofs.Lemmas.{looks_none}
use Rattle.cv_session.specs.PayloadsInner.{ReadsBody}
use Rattle.cv_session.proofs.Payloads.{came_none, came_on, came_short, came_looks}
use Rattle.cv_session.proofs.payload.pass_over.Goals as goal

pub pieces-init : goal.pieces-init
pieces-init g c = record { came = came_none g.R.Source.left g.R.Source.given _ (λ body. Unit {0}) tt; looks = looks_none g.R.Source.left g.R.Source.looks c.args.wire.now c.args.wire.now _ refl; below = omega arith; no_read_failed = refl }

pub pieces-preserved : goal.pieces-preserved
pieces-preserved g c =
    let same : length c.as_slice.result.now ≡ length c.in_ok-piece.piece = ap length c.as_slice.ensures in
    let most = c.in_ok-piece.ensures.most in
    let below = c.pieces.invariant.below in
    record {
      came = rw c.as_slice.ensures
          (came_on g.R.Source.left g.R.Source.given _ _ _ c.pieces.count c.in_ok-piece.piece (λ body. Unit {0}) (λ body. Unit {0}) c.pieces.invariant.came c.in_ok-piece.ensures.reads (λ body size so. tt));
      looks = came_looks g.R.Source.left g.R.Source.given g.R.Source.looks c.args.wire.now c.pieces.wire c.read_some.new.self _ c.pieces.count c.args.size (λ body. Unit {0}) c.pieces.invariant.looks c.pieces.invariant.came (omega (arith, c.pieces-test.true)) c.in_ok-piece.ensures.looks;
      below = omega (arith, same, most, below);
      no_read_failed = c.in_ok-piece.ensures.no_read_failed (λ e. cc) ∙ c.pieces.invariant.no_read_failed;
    }

pub returns-in_err-piece-clause-reads : goal.returns-in_err-piece-clause-reads
returns-in_err-piece-clause-reads g c =
    left_by (λ r. ReadsBody g.R.Source.left g.R.Source.given c.args.wire.now c.read_some.new.self c.args.size (λ body made. Unit {0}) r) c.from_residual.result _ c.from_residual.ensures.1
    (came_short g.R.Source.left g.R.Source.given {A = Unit {0}} (λ body made. Unit {0}) _ _ _ c.pieces.count c.args.size (λ body. Unit {0}) _ c.pieces.invariant.came c.in_err-piece.ensures.reads (omega (arith, c.pieces-test.true)))

pub returns-in_err-piece-clause-looks : goal.returns-in_err-piece-clause-looks
returns-in_err-piece-clause-looks g c =
    came_looks g.R.Source.left g.R.Source.given g.R.Source.looks c.args.wire.now c.pieces.wire c.read_some.new.self _ c.pieces.count c.args.size (λ body. Unit {0}) c.pieces.invariant.looks c.pieces.invariant.came (omega (arith, c.pieces-test.true)) c.in_err-piece.ensures.looks
