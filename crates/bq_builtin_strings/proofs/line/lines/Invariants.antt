use Rattle.std.proofs.Common.{◌≡◌, ◌++◌, length, map}
use Rattle.bq_builtin_strings.specs.Line.{lines, part}
use Rattle.bq_builtin_strings.proofs.line.lines.Given as goal

-- what is left gives, after the parts so far, what the text gives
abbrev pub invariant-loop-rest : goal.invariant-loop-rest
invariant-loop-rest l = l.parts.items ++ map (part l.keep_ends) (lines l.rest) ≡ map (part l.keep_ends) (lines l.text)

abbrev pub decreases-loop-rest : goal.decreases-loop-rest
decreases-loop-rest l = length l.rest
