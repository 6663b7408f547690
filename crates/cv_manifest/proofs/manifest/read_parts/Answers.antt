use Rattle.std.proofs.Common.{rules}
use Rattle.cv_manifest.proofs.Shown.{IsReady, show_result}
use Rattle.cv_manifest.proofs.manifest.read_parts.Goals as goal

pub returns : goal.returns
returns g c = λ text split.
    let ready : IsReady (g.S.Signer.is_seal c.args.signer.now) text c.args.parts.now.lines.now = record {
      stated = c.args.parts.now.stated;
      seal = c.args.parts.now.seal.now;
      split = split;
      hash = search rules;
      good = search rules;
    } in
    show_result _ text _ ready c.in_ok-read.field-0 c.in_ok-read.ensures _ c.into_manifest.ensures.value c.into_manifest.ensures.in_range c.into_manifest.ensures.missing
