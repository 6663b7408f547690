use Rattle.std.proofs.Common.{ℕ, List, subst}
use Rattle.std.specs.Option.{option_copied}
use Rattle.cv_base.proofs.Laws.{left_by}
use Rattle.cv_cut.specs.Reached.{Place}
use Rattle.cv_cut.specs.Opening.{Opens}
use Rattle.cv_cut.specs.OpeningInner.{Decoded}
use Rattle.cv_cut.proofs.Opening.{opens_unread, opens}
use Rattle.cv_cut.proofs.catalogues.catalogue_at.Goals as goal

pub returns-in_err-bytes-clause-told : goal.returns-in_err-bytes-clause-told
returns-in_err-bytes-clause-told g c = λ standing told.
    left_by (Opens standing c.args.id.now (record { path = c.args.at.now; row = option_copied c.args.row })) _ _ c.from_residual.ensures.1
    (opens_unread standing c.args.id.now _ _ (c.in_err-bytes.ensures.told standing told))

pub returns-clause-told : goal.returns-clause-told
returns-clause-told g c = λ standing told.
    let place : Place = record { path = c.args.at.now; row = option_copied c.args.row } in
    let decoded : Decoded place c.in_ok-bytes.bytes c.args.id.now c.decoded.result = subst (λ (bytes : List ℕ). Decoded place bytes c.args.id.now c.decoded.result) c.as_slice.ensures c.decoded.ensures in
    opens standing c.args.id.now place _ c.decoded.result c.requires (c.in_ok-bytes.ensures.told standing told) decoded
