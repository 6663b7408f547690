-- `retain` keeps no directory of this folder, and what leaves room brings none
use Rattle.std.proofs.Common.{◌≡◌, rules, string_bytes}
use Rattle.std.proofs.lemmas.Fn.{All-from_retain}
use Rattle.std.proofs.lemmas.List.Elements.{All-drop}
use Rattle.cv_real.specs.declared.ahead.Directory.{Directory}
use Rattle.cv_real.proofs.ahead.ReadAhead.make_room.Goals as goal

pub returns-then-len-ge-DIRECTORY_LIMIT-clause-others : goal.returns-then-len-ge-DIRECTORY_LIMIT-clause-others
returns-then-len-ge-DIRECTORY_LIMIT-clause-others g c =
    let P : Directory → Type 0 = λ d. string_bytes d.folder ≡ c.args.folder.now → ⊥ in
    rw c.remove.ensures.items (All-drop P 1 _ (All-from_retain _ P _ (λ x b f called. search rules) _ _ c.retain.ensures.filtered))

pub returns-else-len-ge-DIRECTORY_LIMIT-clause-others : goal.returns-else-len-ge-DIRECTORY_LIMIT-clause-others
returns-else-len-ge-DIRECTORY_LIMIT-clause-others g c =
    All-from_retain _ (λ (d : Directory). string_bytes d.folder ≡ c.args.folder.now → ⊥) _ (λ x b f called. search rules) _ _ c.retain.ensures.filtered
