-- How the lines of faults are printed.
use Rattle.std.specs.Prelude.{ℕ, ◌++◌, List, [], ◌∷◌, codes}
use Rattle.std.specs.Fmt.{decimal}
use Rattle.bq_base.specs.Fault.{fault_number, fault_name}
use Rattle.bq_base_texts.specs.declared.fault_line.FaultLine.{FaultLine}

-- a space and the detail, or nothing where there is none
abbrev pub detail_text : List ℕ → List ℕ
detail_text [] = []
detail_text (b ∷ bs) = 32 ∷ b ∷ bs

-- `LABEL:LINE: F<number> <Name> DETAIL` and a newline
unfoldable pub line_text : FaultLine → List ℕ
line_text l =
    l.label ++ (codes ":" ++ (decimal l.line ++ (codes ": F" ++ (decimal (fault_number l.kind) ++ (codes " " ++ (fault_name l.kind
    ++ (detail_text l.detail ++ 10 ∷ [])))))))
