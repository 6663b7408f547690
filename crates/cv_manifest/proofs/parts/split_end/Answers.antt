use Rattle.std.proofs.Common.{◌≡◌, codes, rules}
use Rattle.cv_manifest.proofs.Ends.{before_more, ends_here, ends_nowhere}
use Rattle.cv_manifest.proofs.parts.split_end.Goals as goal

pub returns-then-eq : goal.returns-then-eq
returns-then-eq c =
    let end : c.in-Some.line.now ≡ codes "--" = search rules in
    ends_here _ _ c.in-Some.line.now _ c.loop-line.invariant c.in-Some.ensures.1 end

pub loop-line-preserved : goal.loop-line-preserved
loop-line-preserved c =
    before_more _ _ c.in-Some.line.now _ c.loop-line.invariant c.in-Some.ensures.0 c.in-Some.ensures.1 (λ e. search rules)

pub returns : goal.returns
returns c = ends_nowhere c.args.bytes.now c.loop-line.rest.now c.loop-line.invariant (search rules)
