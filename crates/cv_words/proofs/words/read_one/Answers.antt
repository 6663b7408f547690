use Rattle.std.proofs.Common.{◌≡◌, ◌∷◌, [], rules, codes, sym, refl}
use Rattle.cv_words.specs.Words.{init, stdio, shell}
use Rattle.cv_words.proofs.words.read_one.Goals as goal

pub returns-in_ok-read_name-in-init-clause-command : goal.returns-in_ok-read_name-in-init-clause-command
returns-in_ok-read_name-in-init-clause-command c =
    let word : c.args.verb.now ≡ codes "init" = search rules in
    let read = c.in_ok-read_name-in-init.ensures.name in
    init c.in_ok-read_name-in-init.field-0 word (λ i. sym read.0 i ∷ []) read.1

pub returns-in_ok-read_name-in-stdio-clause-command : goal.returns-in_ok-read_name-in-stdio-clause-command
returns-in_ok-read_name-in-stdio-clause-command c =
    let word : c.args.verb.now ≡ codes "stdio" = search rules in
    let read = c.in_ok-read_name-in-stdio.ensures.name in
    stdio c.in_ok-read_name-in-stdio.field-0 word (λ i. sym read.0 i ∷ []) read.1

pub returns-in_ok-read_url-in-shell-clause-command : goal.returns-in_ok-read_url-in-shell-clause-command
returns-in_ok-read_url-in-shell-clause-command c =
    let word : c.args.verb.now ≡ codes "shell" = search rules in
    shell c.args.value.now c.in_ok-read_url-in-shell.field-0 word refl c.in_ok-read_url-in-shell.ensures.url
