use Rattle.std.proofs.Common.{◌≡◌, length, get_or, List, Option, None, arith, ap, subst, sym, ◌∙◌}
use Rattle.std.proofs.lemmas.List.{get_or-replicate, length-replicate}
use Rattle.cv_rows.specs.DigestsInner.{IsKept}
use Rattle.cv_rows.specs.declared.path_digest.PathDigest.{PathDigest}
use Rattle.cv_rows.proofs.spelling.nothing_kept.Goals as goal

pub returns : goal.returns
returns c at =
    let count : c.loop.index ≡ length c.args.rows.now = omega arith in
    record {
      size = ap length c.loop.invariant ∙ length-replicate c.loop.index None ∙ count;
      each = λ i lt. subst (IsKept at c.args.rows.now i) (sym (ap (λ (kept : List (Option PathDigest)). get_or kept i None) c.loop.invariant ∙ get_or-replicate c.loop.index i None None (omega arith))) tt;
    }
