-- How a shell ends.
use Rattle.cv_shell.specs.declared.turn.Stop.{Stop}
use Rattle.cv_shell.specs.declared.turn.Stop.TheVariants as stop
use Rattle.cv_shell.specs.declared.shell_end.ShellEnd.{ShellEnd}
use Rattle.cv_shell.specs.declared.shell_end.ShellEnd.TheVariants.{LinkFailed, BadReply, NoMemory}

-- where a line has no answer
abbrev pub end_of_stop : Stop → ShellEnd
end_of_stop stop.LinkFailed = LinkFailed
end_of_stop stop.BadReply = BadReply
end_of_stop stop.NoMemory = NoMemory
