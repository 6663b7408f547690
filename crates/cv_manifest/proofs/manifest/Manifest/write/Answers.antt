use Rattle.std.proofs.Common.{◌∙◌, ap}
use Rattle.cv_manifest.specs.Manifest.{IsManifest}
use Rattle.cv_manifest.proofs.Written.{written_text, written_again}
use Rattle.cv_manifest.proofs.manifest.Manifest.write.Goals as goal

pub returns-clause-text : goal.returns-clause-text
returns-clause-text g c =
    written_text (λ bytes. bytes.items) (g.S.Signer.seal_of c.args.signer.now) c.args.self.now _ _ (ap (λ v. v.items) c.into_bytes.ensures.value ∙ c.in_ok-lines.ensures.text) c.add_seal.ensures

pub returns-clause-reads_back : goal.returns-clause-reads_back
returns-clause-reads_back g c =
    let limits : IsManifest c.args.self.now = record {
      in_range = c.write_lines.ensures.in_range;
      revision = c.requires.revision;
      name = c.in_ok-lines.ensures.name;
      time = c.requires.time;
    } in
    let text = written_text (λ bytes. bytes.items) (g.S.Signer.seal_of c.args.signer.now) c.args.self.now _ _ (ap (λ v. v.items) c.into_bytes.ensures.value ∙ c.in_ok-lines.ensures.text) c.add_seal.ensures in
    written_again (λ bytes. bytes.items) (g.S.Signer.seal_of c.args.signer.now) (g.S.Signer.is_seal c.args.signer.now) c.args.self.now _ (λ t. g.met.S.Signer.signed_verifies c.args.signer.now t) limits text
