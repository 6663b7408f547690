-- A server that has the files of a published tree, and what a client finds there. What only this crate's own functions say.
use Rattle.std.specs.Prelude.{Option, Some, Result, Ok, Err}
use Rattle.std.specs.declared.option.Option.TheVariants.{None}
use Rattle.cv_tree.specs.Tree.{Nodes}
use Rattle.cv_resolver.specs.Resolver.{Client, IsOn}
use Rattle.cv_resolver.specs.Stage.{IsBlameless}
use Rattle.cv_resolver.specs.declared.resolver.Asked.{Asked}
use Rattle.cv_client.specs.declared.exchanging.ExchangeFault.{ExchangeFault}
use Rattle.cv_client.specs.declared.exchanging.ExchangeFault.TheVariants as exchange_fault
use Rattle.cv_client.specs.declared.ask_fault.AskFault.TheVariants.{LinkFailed, BadReply, NoMemory}

-- the question isn't answered by a fault of the server's
abbrev pub IsUnblamed : Option Asked → Type 0
IsUnblamed None = Unit {0}
IsUnblamed (Some a) = IsBlameless a.stage

-- the question came to its answer in the tree, and the server isn't blamed, unless the link failed or memory was wanted
abbrev pub IsSupplied : Nodes → Client → Result (Unit {0}) ExchangeFault → Type 0
IsSupplied t r (Ok done) = IsOn t r × IsUnblamed r.asked
IsSupplied t r (Err exchange_fault.LinkFailed) = Unit {0}
IsSupplied t r (Err exchange_fault.BadReply) = ⊥
IsSupplied t r (Err exchange_fault.NoMemory) = Unit {0}
