use Rattle.std.proofs.Common.{List, ℕ, ◌∙◌, subst}
use Rattle.hex.specs.Hex.{encode_lower}
use Rattle.cv_base.proofs.Laws.{OnOk-map}
use Rattle.cv_base.specs.ObjectId.{suffix_of}
use Rattle.cv_ports.specs.Streams.{Wrote}
use Rattle.cv_ports.proofs.Laws.{wrote_front}
use Rattle.cv_top.proofs.Saying.{onto_then, wrote_then, as_piece}
use Rattle.cv_top.proofs.client_fault.write_id.Goals as goal

pub returns-clause-whole : goal.returns-clause-whole
returns-clause-whole g c =
    OnOk-map c.write_all-2.result
    (λ second. onto_then (g.E.Sink.taken c.args.errors.now) (encode_lower c.args.id.hash) (suffix_of c.args.id.kind) (as_piece _ (c.as_slice.ensures ∙ c.digest_digits.ensures) c.in_ok-write_all.ensures.whole)
    (as_piece _ (c.as_bytes.ensures.value ∙ c.suffix.ensures) second)) c.write_all-2.ensures.whole

pub returns-clause-part : goal.returns-clause-part
returns-clause-part g c =
    wrote_then (g.E.Sink.taken c.args.errors.now) (encode_lower c.args.id.hash) (suffix_of c.args.id.kind) (c.as_bytes.ensures.value ∙ c.suffix.ensures)
    (as_piece _ (c.as_slice.ensures ∙ c.digest_digits.ensures) c.in_ok-write_all.ensures.whole) c.write_all-2.ensures.part

pub returns-in_err-write_all-clause-part : goal.returns-in_err-write_all-clause-part
returns-in_err-write_all-clause-part g c =
    wrote_front (suffix_of c.args.id.kind)
    (subst (λ (bytes : List ℕ). Wrote (g.E.Sink.taken c.args.errors.now) (g.E.Sink.taken c.write_all.new.sink) bytes) (c.as_slice.ensures ∙ c.digest_digits.ensures) c.in_err-write_all.ensures.part)
