use Rattle.std.proofs.Common.{refl}
use Rattle.std.proofs.lemmas.List.{drop-replicate}
use Rattle.cv_seal.proofs.hmac.zero_padded.Goals as goal

pub returns : goal.returns
returns c =
    let copied = c.copy_from_slice.ensures.after in
    rw (drop-replicate, copied) refl
