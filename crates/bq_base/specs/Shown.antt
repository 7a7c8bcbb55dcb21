-- How byte strings and faults are shown.
use Rattle.std.specs.Prelude.{ℕ, List, [], ◌∷◌, ◌++◌, codes, flat_map, encode_utf8_all}
use Rattle.std.specs.Char.Escape.{escape_ascii}
use Rattle.std.specs.Fmt.{decimal}
use Rattle.bq_base.specs.declared.fault.Fault.{Fault}
use Rattle.bq_base.specs.declared.fault.FaultKind.{FaultKind}
use Rattle.bq_base.specs.Fault.{fault_number, fault_name}

-- how `{:?}` shows a byte: printable ASCII as itself, but quotes and the backslash behind a backslash, and others as `\n` or `\x7f`
abbrev pub shown_byte : ℕ → List ℕ
shown_byte b = encode_utf8_all (escape_ascii b)

-- a text as `{:?}` shows it: each byte in turn, with no quotes around them
abbrev pub shown_text : List ℕ → List ℕ
shown_text bs = flat_map shown_byte bs

-- a space and the detail, or nothing where there is none
abbrev pub detail_shown : List ℕ → List ℕ
detail_shown [] = []
detail_shown (b ∷ bs) = 32 ∷ shown_text (b ∷ bs)

-- `line 3: F36 LoadFailed //:f.bzl`
abbrev pub fault_shown : Fault FaultKind → List ℕ
fault_shown e =
    codes "line " ++ (decimal e.line ++ (codes ": F" ++ (decimal (fault_number e.kind) ++ (codes " " ++ (fault_name e.kind ++ detail_shown e.detail)))))
