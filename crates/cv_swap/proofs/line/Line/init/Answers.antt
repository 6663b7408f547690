use Rattle.cv_swap.proofs.Inits.{inits_done}
use Rattle.cv_swap.proofs.Texts.{text_done}
use Rattle.cv_swap.proofs.line.Line.init.Goals as goal

pub returns-in-Ok-clause-inits : goal.returns-in-Ok-clause-inits
returns-in-Ok-clause-inits g c = inits_done c.args.name.now (g.S.Signer.is_seal c.args.signer.now) c.args.now c.args.vault c.new-objects.result.vault c.init_in.new.objects.vault c.into_vault.result c.new-objects.ensures.vault c.into_vault.ensures c.in-Ok.ensures.makes

pub returns-in-Ok-clause-text : goal.returns-in-Ok-clause-text
returns-in-Ok-clause-text g c = text_done _ c.args.vault c.new-objects.result.vault c.init_in.new.objects.vault c.into_vault.result c.new-objects.ensures.vault c.into_vault.ensures c.in-Ok.ensures.text
