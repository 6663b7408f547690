use Rattle.std.proofs.Common.{◌∙◌, sym}
use Rattle.cv_rows.proofs.PlaceLaws.{no_other_root}
use Rattle.cv_rows.proofs.places.root_position.Goals as goal

pub returns-in_default : goal.returns-in_default
returns-in_default c = λ r has is. c.in_default.ensures r has (is.key ∙ sym c.key.ensures)

pub returns-else-is_root : goal.returns-else-is_root
returns-else-is_root c =
    no_other_root c.args.at.now c.args.rows.now c.in-Some.i _ c.requires c.in-Some.ensures.0 c.index-rows-i.is (λ d. c.in-Some.ensures.1 d ∙ c.key.ensures) (λ is. let answer = c.is_root.ensures.1 is in cc)
