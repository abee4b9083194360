-- How much of a script is still to be read.
use Rattle.std.specs.Prelude.{ℕ, ◌+◌, length, Option, None, Some}
use Rattle.std.specs.Str.Iter.{lines_rest}
use Rattle.script.specs.declared.lines.Line.{Line}
use Rattle.script.specs.declared.lines.Lines.{Lines}

-- a line that has been cut counts for one
abbrev pub held : Option Line → ℕ
held None = 0
held (Some line) = 1

abbrev pub left : Lines → ℕ
left l = length (lines_rest l.text) + held l.ahead
