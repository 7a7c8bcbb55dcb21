-- Parts of definitions, as words that proofs name.
use Rattle.std.specs.Prelude.{None, Option, Some}

-- a value, or another where there is none
abbrev pub or_else : {A : Type 0} → Option A → Option A → Option A
or_else o other = elim o [ Some x ↦ Some x | None ↦ other ]
