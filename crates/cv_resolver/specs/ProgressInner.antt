-- How the walk of a question goes on by the catalogues that are kept. What only this crate's own functions say.
use Rattle.cv_rows.specs.Catalogue.{Contents}
use Rattle.cv_resolver.specs.Naming.{NamesFile}
use Rattle.cv_resolver.specs.Stage.{IsBlameless}
use Rattle.cv_resolver.specs.declared.pass.Halt.{Halt}
use Rattle.cv_resolver.specs.declared.pass.Halt.TheVariants.{NotFound, NotDirectory, TooManyLinks}
use Rattle.cv_resolver.specs.declared.found.ClientFault.{ClientFault}
use Rattle.cv_resolver.specs.declared.found.ClientFault.TheVariants as fault
use Rattle.cv_resolver.specs.declared.stage.Stage.{Stage}
use Rattle.cv_resolver.specs.declared.stage.Stage.TheVariants.{Walks, Reads, Ends}

-- the answer where a walk is over
abbrev pub refusal_of : Halt → ClientFault
refusal_of NotFound = fault.NotFound
refusal_of NotDirectory = fault.NotDirectory
refusal_of TooManyLinks = fault.TooManyLinks

-- what a walk that has arrived comes to by a catalogue at most
abbrev pub ComesTo : Contents → Stage → Type 0
ComesTo c (Walks w) = ⊥
ComesTo c (Reads hash) = NamesFile c hash
ComesTo c (Ends answer) = IsBlameless (Ends answer)
