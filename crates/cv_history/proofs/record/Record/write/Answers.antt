use Rattle.std.proofs.Common.{◌≡◌, ◌∙◌, ap, arith, length}
use Rattle.std.specs.Prelude.{codes, string_bytes}
use Rattle.std.specs.Int.{w64, to_be_bytes}
use Rattle.cv_base.specs.Fields.{text_field}
use Rattle.cv_base.specs.Path.{text_of}
use Rattle.cv_base.proofs.Laws.{Spells-path_of}
use Rattle.cv_history.proofs.Written.{eleven}
use Rattle.cv_history.proofs.record.Record.write.Goals as goal

pub push_text-requires : goal.push_text-requires
push_text-requires c =
    let is = Spells-path_of (string_bytes c.in_ok-path.path) c.args.self.now.path c.in_ok-path.ensures.reads_back in
    let text = ap length (c.as_bytes.ensures.value ∙ c.in_ok-path.ensures.text) in
    omega (arith, is.0.size, text)

pub returns : goal.returns
returns c =
    let r = c.args.self.now in
    let is = Spells-path_of (string_bytes c.in_ok-path.path) r.path c.in_ok-path.ensures.reads_back in
    let path : c.as_bytes.result.now ≡ text_of r.path = c.as_bytes.ensures.value ∙ c.in_ok-path.ensures.text in
    let key : c.as_bytes-2.result.now ≡ r.key = c.as_bytes-2.ensures.value ∙ c.text-2.ensures.text in
    let tag : c.as_bytes-3.result.now ≡ r.tag = c.as_bytes-3.ensures.value ∙ c.text-3.ensures.text in
    record {
      typed = record {
        previous = c.in_ok-bytes.ensures.digests.0;
        root = c.in_ok-bytes.ensures.digests.1;
        offered = c.in_ok-bytes.ensures.digests.2;
        epoch = c.in_ok-bytes.ensures.token.0;
        number = c.in_ok-bytes.ensures.token.1;
        path = is.0;
        key = c.text-2.ensures.limits;
        tag = c.text-3.ensures.limits;
      };
      limits = c.requires;
      bytes = eleven (codes "CVH1") (to_be_bytes w64 r.revision) r.previous r.root r.offered (to_be_bytes w64 r.token.epoch) (to_be_bytes w64 r.token.number)
          (text_field (text_of r.path)) (text_field r.key) (to_be_bytes w64 r.time) (text_field r.tag) _ _ _ _ _ c.in_ok-bytes.ensures.bytes (rw path at c.in_ok-push_text.ensures) (rw key at c.in_ok-push_text-2.ensures)
          c.in_ok-push_u64.ensures (rw tag at c.in_ok-push_text-3.ensures);
    }
