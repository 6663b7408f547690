use Rattle.cv_resolver.proofs.Steps.{done, idle, below_file, up, nothing, directory, file}
use Rattle.cv_resolver.proofs.laws.walks_go_by_names.Goals as goal

pub returns-clause-done : goal.returns-clause-done
returns-clause-done c = done

pub returns-clause-idle : goal.returns-clause-idle
returns-clause-idle c = idle

pub returns-clause-file : goal.returns-clause-file
returns-clause-file c = below_file

pub returns-clause-up : goal.returns-clause-up
returns-clause-up c = up

pub returns-clause-nothing : goal.returns-clause-nothing
returns-clause-nothing c = nothing

pub returns-clause-directory : goal.returns-clause-directory
returns-clause-directory c = directory

pub returns-clause-content : goal.returns-clause-content
returns-clause-content c = file
