use Rattle.std.proofs.Common.{codes, ◌∙◌, refl}
use Rattle.cv_top.specs.Status.{what_of, detail_of}
use Rattle.cv_top.proofs.Saying.{in_first, in_second, in_third, in_fourth, all_four, as_piece}
use Rattle.cv_top.proofs.status.Status.write_said.Goals as goal

pub returns-in_err-write_all-clause-part : goal.returns-in_err-write_all-clause-part
returns-in_err-write_all-clause-part g c =
    in_first (g.E.Sink.taken c.args.errors.now) (codes "cvkit: ") (what_of c.args.self.now) (detail_of c.args.self.now) (codes "\n") c.as_slice.ensures c.in_err-write_all.ensures.part

pub returns-in_err-write_all-2-clause-part : goal.returns-in_err-write_all-2-clause-part
returns-in_err-write_all-2-clause-part g c =
    in_second (g.E.Sink.taken c.args.errors.now) (codes "cvkit: ") (what_of c.args.self.now) (detail_of c.args.self.now) (codes "\n") (c.as_bytes.ensures.value ∙ c.what.ensures)
    (as_piece _ c.as_slice.ensures c.in_ok-write_all.ensures.whole) c.in_err-write_all-2.ensures.part

pub returns-in_err-write_detail-clause-part : goal.returns-in_err-write_detail-clause-part
returns-in_err-write_detail-clause-part g c =
    in_third (g.E.Sink.taken c.args.errors.now) (codes "cvkit: ") (what_of c.args.self.now) (detail_of c.args.self.now) (codes "\n") refl
    (as_piece _ c.as_slice.ensures c.in_ok-write_all.ensures.whole) (as_piece _ (c.as_bytes.ensures.value ∙ c.what.ensures) c.in_ok-write_all-2.ensures.whole) c.in_err-write_detail.ensures.part

pub returns-in_err-write_all-3-clause-part : goal.returns-in_err-write_all-3-clause-part
returns-in_err-write_all-3-clause-part g c =
    in_fourth (g.E.Sink.taken c.args.errors.now) (codes "cvkit: ") (what_of c.args.self.now) (detail_of c.args.self.now) (codes "\n") c.as_slice-2.ensures
    (as_piece _ c.as_slice.ensures c.in_ok-write_all.ensures.whole) (as_piece _ (c.as_bytes.ensures.value ∙ c.what.ensures) c.in_ok-write_all-2.ensures.whole)
    c.in_ok-write_detail.ensures.whole c.in_err-write_all-3.ensures.part

pub returns-clause-whole : goal.returns-clause-whole
returns-clause-whole g c =
    all_four (g.E.Sink.taken c.args.errors.now) (codes "cvkit: ") (what_of c.args.self.now) (detail_of c.args.self.now) (codes "\n")
    (as_piece _ c.as_slice.ensures c.in_ok-write_all.ensures.whole) (as_piece _ (c.as_bytes.ensures.value ∙ c.what.ensures) c.in_ok-write_all-2.ensures.whole)
    c.in_ok-write_detail.ensures.whole (as_piece _ c.as_slice-2.ensures c.in_ok-write_all-3.ensures.whole)

pub returns-clause-part : goal.returns-clause-part
returns-clause-part g c =
    in_fourth (g.E.Sink.taken c.args.errors.now) (codes "cvkit: ") (what_of c.args.self.now) (detail_of c.args.self.now) (codes "\n") c.as_slice-2.ensures
    (as_piece _ c.as_slice.ensures c.in_ok-write_all.ensures.whole) (as_piece _ (c.as_bytes.ensures.value ∙ c.what.ensures) c.in_ok-write_all-2.ensures.whole)
    c.in_ok-write_detail.ensures.whole c.in_ok-write_all-3.ensures.part
