use Rattle.std.proofs.Common.{◌≡◌, ◌∙◌, refl, ap, length, arith}
use Rattle.cv_base.proofs.Laws.{left_by}
use Rattle.cv_http.proofs.Lemmas.{looks_none}
use Rattle.cv_session.specs.Payloads.{payload_on}
use Rattle.cv_session.specs.PayloadsInner.{ReadsBody, Says}
use Rattle.cv_session.proofs.Payloads.{came_none, came_on, came_short, came_looks, fed_none, Fed_}
use Rattle.cv_session.proofs.payload.read_pack.Goals as goal

pub pieces-init : goal.pieces-init
pieces-init g c = record {
  came = came_none g.R.Source.left g.R.Source.given _ (Fed_ c.new-reader.result c.new-hasher.result c.args.announced.ask.header_size) (fed_none _ _ _ c.new-reader.ensures.fed c.new-hasher.ensures);
  looks = looks_none g.R.Source.left g.R.Source.looks c.args.wire.now c.args.wire.now _ refl;
  below = omega arith;
  no_read_failed = refl;
}

pub pieces-preserved : goal.pieces-preserved
pieces-preserved g c =
    let same : length c.as_slice-in-pieces-2.result.now ≡ length c.in_ok-piece.piece = ap length c.as_slice-in-pieces-2.ensures in
    let most = c.in_ok-piece.ensures.most in
    let below = c.pieces.invariant.below in
    let hashes = rw c.as_slice.ensures at c.hash_front.ensures in
    let feeds = rw c.as_slice-in-pieces.ensures at c.feed.ensures in
    record {
      came = rw c.as_slice-in-pieces-2.ensures
          (came_on g.R.Source.left g.R.Source.given _ _ _ c.pieces.count c.in_ok-piece.piece _ _ c.pieces.invariant.came c.in_ok-piece.ensures.reads
          (λ body size so. (feeds body so.0, hashes body size so.1)));
      looks = came_looks g.R.Source.left g.R.Source.given g.R.Source.looks c.args.wire.now c.pieces.wire c.read_some.new.self _ c.pieces.count c.args.size _ c.pieces.invariant.looks c.pieces.invariant.came (omega (arith, c.pieces-test.true)) c.in_ok-piece.ensures.looks;
      below = omega (arith, same, most, below);
      no_read_failed = c.in_ok-piece.ensures.no_read_failed (λ e. cc) ∙ c.pieces.invariant.no_read_failed;
    }

pub returns-in_err-piece-clause-reads : goal.returns-in_err-piece-clause-reads
returns-in_err-piece-clause-reads g c =
    left_by (λ r. ReadsBody g.R.Source.left g.R.Source.given c.args.wire.now c.read_some.new.self c.args.size (Says (payload_on c.args.announced.key c.args.announced.ask)) r) c.from_residual.result _ c.from_residual.ensures.1
    (came_short g.R.Source.left g.R.Source.given (Says (payload_on c.args.announced.key c.args.announced.ask)) _ _ _ c.pieces.count c.args.size _ _ c.pieces.invariant.came c.in_err-piece.ensures.reads (omega (arith, c.pieces-test.true)))

pub returns-in_err-piece-clause-looks : goal.returns-in_err-piece-clause-looks
returns-in_err-piece-clause-looks g c =
    came_looks g.R.Source.left g.R.Source.given g.R.Source.looks c.args.wire.now c.pieces.wire c.read_some.new.self _ c.pieces.count c.args.size _ c.pieces.invariant.looks c.pieces.invariant.came (omega (arith, c.pieces-test.true)) c.in_err-piece.ensures.looks
