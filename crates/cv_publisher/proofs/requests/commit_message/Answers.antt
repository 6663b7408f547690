use Rattle.std.proofs.Common.{◌≡◌, ◌∙◌, Bool, true, ◌&&◌, [], ap}
use Rattle.std.proofs.lemmas.Str.{IsUtf8-nil, is_utf8-from_IsUtf8}
use Rattle.cv_messages.specs.CommitAsk.{is_tag}
use Rattle.cv_publisher.proofs.requests.commit_message.Goals as goal

no_tag : is_tag [] ≡ true
no_tag = ap (λ (b : Bool). b && true && true) (is_utf8-from_IsUtf8 [] IsUtf8-nil)

pub write-requires : goal.write-requires
write-requires c = ap is_tag (c.new-2.ensures ∙ c.new.ensures.bytes) ∙ no_tag
