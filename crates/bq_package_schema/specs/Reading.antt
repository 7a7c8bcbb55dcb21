-- What the lines of a text declare (ours).
use Rattle.std.specs.Prelude.{ℕ, ◌+◌, List, [], ◌∷◌, ◌==◌, Option, Some, None, Result, Ok, Err, nat_lt, if◌then◌else◌}
use Rattle.std.specs.List.{slice_split}
use Rattle.bq_base.specs.Fault.{fault_at}
use Rattle.bq_base.specs.declared.fault.FaultKind.{FaultKind}
use Rattle.bq_base.specs.declared.fault.Fault.{Fault}
use Rattle.bq_base.specs.declared.fault.FaultKind.TheVariants as f
use Rattle.bq_package_schema.specs.Line.{line_of}
use Rattle.bq_package_schema.specs.Schema.{Rules, no_rules, after}

-- Each newline ends a line. A text that ends with one has an empty line after it.
abbrev pub lines : List ℕ → List (List ℕ)
lines text = slice_split (λ b. b == 10) text

-- The number of the line after this many others, from 1. A line past 2 ^ 32 - 1 has that number.
abbrev pub line_number : ℕ → ℕ
line_number before = if nat_lt before 4294967295 then before + 1 else 4294967295

-- the fault of the line behind this many
abbrev pub bad_line : ℕ → Fault FaultKind
bad_line before = fault_at f.Schema (line_number before)

-- what follows a line, if that was good
abbrev pub go_on : (Rules → Result Rules (Fault FaultKind)) → ℕ → Option Rules → Result Rules (Fault FaultKind)
go_on further before None = Err (bad_line before)
go_on further before (Some rules) = further rules

-- what these lines declare after the rules so far, or the fault of the first bad one; the number is that of the lines
-- before
unfoldable pub declared_by : Rules → ℕ → List (List ℕ) → Result Rules (Fault FaultKind)
declared_by rules before [] = Ok rules
declared_by rules before (line ∷ lines) = go_on (λ next. declared_by next (before + 1) lines) before (after rules (line_of line))

-- the schema that the text is, or its fault
unfoldable pub schema_of : List ℕ → Result Rules (Fault FaultKind)
schema_of text = declared_by no_rules 0 (lines text)
