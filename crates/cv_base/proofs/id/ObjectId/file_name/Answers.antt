use Rattle.std.proofs.Common.{◌≡◌, ap, ◌∙◌, take, drop}
use Rattle.hex.specs.Hex.{encode_lower}
use Rattle.cv_base.proofs.IdTexts.{first_digits, other_digits}
use Rattle.cv_base.proofs.id.ObjectId.file_name.Goals as goal

pub returns : goal.returns
returns c =
    let first : c.as_str.result.now ≡ take 2 (encode_lower c.args.self.now.hash) =
    c.as_str.ensures.value ∙ c.in_ok-first.ensures ∙ ap encode_lower c.split_at.ensures.front ∙ first_digits c.args.self.now.hash in
    let others : c.as_str-2.result.now ≡ drop 2 (encode_lower c.args.self.now.hash) =
    c.as_str-2.ensures.value ∙ c.in_ok-others.ensures ∙ ap encode_lower c.split_at.ensures.back ∙ other_digits c.args.self.now.hash in
    rw (← first, ← others, ← c.suffix.ensures) c.name_of_parts.ensures
