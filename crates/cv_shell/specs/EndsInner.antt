-- How a shell ends. What only this crate's own functions say.
use Rattle.cv_shell.specs.declared.lines.LineFault.{LineFault}
use Rattle.cv_shell.specs.declared.lines.LineFault.TheVariants as line_fault
use Rattle.cv_shell.specs.declared.shell_end.ShellEnd.{ShellEnd}
use Rattle.cv_shell.specs.declared.shell_end.ShellEnd.TheVariants.{TooLong, InputFailed, NoMemory}

-- where no line was read
abbrev pub end_of_fault : LineFault → ShellEnd
end_of_fault line_fault.TooLong = TooLong
end_of_fault line_fault.ReadFault = InputFailed
end_of_fault line_fault.NoMemory = NoMemory
