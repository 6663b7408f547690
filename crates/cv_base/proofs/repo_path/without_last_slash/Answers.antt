use Rattle.std.proofs.Common.{ap, ◌∙◌, lit<, Bor, List, ℕ}
use Rattle.std.proofs.lemmas.Str.Pattern.{strip_suffix_char}
use Rattle.cv_base.proofs.PathTexts.{stripped}
use Rattle.cv_base.proofs.repo_path.without_last_slash.Goals as goal

pub returns : goal.returns
returns c =
    let cut = strip_suffix_char 47 c.args.text.now c.strip_suffix.result c.strip_suffix.ensures.cases (lit< tt) in
    ap (λ (x : Bor (List ℕ)). x.now) c.unwrap_or.ensures ∙ stripped c.args.text c.strip_suffix.result cut
