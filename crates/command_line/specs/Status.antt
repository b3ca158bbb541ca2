-- The exit statuses of the programs.
use Rattle.std.specs.Prelude.{ℕ}
use Rattle.command_line.specs.declared.status.Status.{Status}
use Rattle.command_line.specs.declared.status.Status.TheVariants.{Done, NotCanonical, Different, Lost, Usage, Unreadable, Refused, OutOfMemory, Write}

-- the exit status
abbrev pub exit_status : Status → ℕ
exit_status Done = 0
exit_status NotCanonical = 1
exit_status Different = 1
exit_status Lost = 1
exit_status Usage = 2
exit_status Unreadable = 3
exit_status Refused = 4
exit_status OutOfMemory = 5
exit_status Write = 6
