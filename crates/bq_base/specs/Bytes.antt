-- What a byte string holds.
use Rattle.std.specs.Prelude.{ℕ, List, take}
use Rattle.bq_base.specs.declared.bytes.Repr.{Repr}
use Rattle.bq_base.specs.declared.bytes.Repr.TheVariants as repr

-- the bytes of a string: of a short one the first `len` bytes of its array, of a shared one all items
abbrev pub bytes_of : Repr → List ℕ
bytes_of (repr.Short short) = take short.len short.bytes
bytes_of (repr.Shared shared) = shared.value.items
