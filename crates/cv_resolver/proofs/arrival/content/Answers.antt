use Rattle.cv_resolver.proofs.Arriving.{file_found, file_wanted}
use Rattle.cv_resolver.proofs.Telling.{arrived_content, arrived_no_file}
use Rattle.cv_resolver.proofs.arrival.content.Goals as goal

pub returns-in-Some-clause-found : goal.returns-in-Some-clause-found
returns-in-Some-clause-found c = file_found c.args.row.now c.in-Some.hash c.requires c.in-Some.is

pub returns-in-Some-clause-comes : goal.returns-in-Some-clause-comes
returns-in-Some-clause-comes c = λ catalogue there. file_wanted c.args.row.now c.in-Some.hash catalogue c.requires c.in-Some.is there

pub returns-in-Some-clause-told : goal.returns-in-Some-clause-told
returns-in-Some-clause-told c = λ catalogue p asked st. arrived_content catalogue c.args.row.now p asked st c.in-Some.hash c.requires c.in-Some.is

pub returns-in-None-clause-told : goal.returns-in-None-clause-told
returns-in-None-clause-told c = λ catalogue p asked st. arrived_no_file catalogue c.args.row.now p asked st c.requires c.in-None.is
