use Rattle.std.specs.Prelude.{codes}
use Rattle.std.specs.Int.{w64, to_be_bytes}
use Rattle.cv_history.proofs.Written.{seven}
use Rattle.cv_history.proofs.record.Record.front.Goals as goal

pub returns-clause-bytes : goal.returns-clause-bytes
returns-clause-bytes c =
    let r = c.args.self.now in
    seven (codes "CVH1") (to_be_bytes w64 r.revision) r.previous r.root r.offered (to_be_bytes w64 r.token.epoch) (to_be_bytes w64 r.token.number)
    _ _ _ _ _ _ _ _ c.new-bytes.ensures.items c.in_ok-extend_from_slice.ensures.items c.in_ok-push_u64.ensures c.in_ok-push_hash.ensures.bytes
    c.in_ok-push_hash-2.ensures.bytes c.in_ok-push_hash-3.ensures.bytes c.in_ok-push_u64-2.ensures c.in_ok-push_u64-3.ensures
