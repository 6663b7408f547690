use Rattle.std.proofs.Common.{◌++◌, sym, subst}
use Rattle.std.specs.Prelude.{Option, Result}
use Rattle.cv_base.specs.Unless.{IsUnless}
use Rattle.cv_pack.specs.declared.pack_fault.PackFault.{PackFault}
use Rattle.cv_pack.specs.declared.pack_fault.PackFault.TheVariants.{NoMemory}
use Rattle.cv_pack.specs.PackReader.{FedWith}
use Rattle.cv_pack.specs.Reading.{shown}
use Rattle.cv_pack.proofs.Feeding.{shown_fault, quiet_fed}
use Rattle.cv_pack.proofs.pack_reader.PackReader.feed.Goals as goal

pub returns-in-Err-clause-shows : goal.returns-in-Err-clause-shows
returns-in-Err-clause-shows c = λ bytes fed.
    shown_fault (bytes ++ c.args.piece.now) c.in-Err.fault (c.in-Err.ensures.feeds bytes (subst (λ (o : Option PackFault). FedWith o c.args.self.now bytes) c.in_default.is fed))

pub returns-in_default-result-clause-shows : goal.returns-in_default-result-clause-shows
returns-in_default-result-clause-shows c = λ bytes fed.
    subst (λ (r : Result Unit PackFault). IsUnless NoMemory r (shown (bytes ++ c.args.piece.now))) (sym c.in_default-result.is)
    (quiet_fed _ _ (c.in_default-result.ensures.feeds bytes (subst (λ (o : Option PackFault). FedWith o c.args.self.now bytes) c.in_default.is fed)))
