use Rattle.std.proofs.Common.{◌≡◌, rules, codes, refl}
use Rattle.cv_words.specs.Words.{ls, stat, cat}
use Rattle.cv_words.proofs.words.read_look.Goals as goal

pub returns-in_ok-url-in-ls-clause-command : goal.returns-in_ok-url-in-ls-clause-command
returns-in_ok-url-in-ls-clause-command c =
    let word : c.args.verb.now ≡ codes "ls" = search rules in
    ls c.args.url.now c.args.path.now _ _ word refl c.in_ok-url-in-ls.ensures.place

pub returns-in_ok-url-in-stat-clause-command : goal.returns-in_ok-url-in-stat-clause-command
returns-in_ok-url-in-stat-clause-command c =
    let word : c.args.verb.now ≡ codes "stat" = search rules in
    stat c.args.url.now c.args.path.now _ _ word refl c.in_ok-url-in-stat.ensures.place

pub returns-in_ok-url-in-cat-clause-command : goal.returns-in_ok-url-in-cat-clause-command
returns-in_ok-url-in-cat-clause-command c =
    let word : c.args.verb.now ≡ codes "cat" = search rules in
    cat c.args.url.now c.args.path.now _ _ word refl c.in_ok-url-in-cat.ensures.place
