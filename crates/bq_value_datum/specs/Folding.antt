-- What a hasher makes of what is fed to it.
use Rattle.std.specs.Prelude.{ℕ, zero, suc, ◌+◌, ◌-◌, ◌*◌, ◌/◌, ◌%◌, ◌^◌, List, length, if◌then◌else◌, nat_le, nat_lt, slice_index, bit_and, bit_or, bit_xor}
use Rattle.bq_value_datum.specs.declared.hasher.KeyHasher.{KeyHasher}
use Rattle.bq_value_datum.specs.declared.seed.Seed.{Seed}

-- what a seed's hashers begin with
abbrev pub begun : Seed → KeyHasher
begun s = s.begun

-- the two halves of the 128 bits of a * b, joined by xor
unfoldable pub folded_multiply : ℕ → ℕ → ℕ
folded_multiply a b = bit_xor (bit_and (a * b) (2 ^ 64 - 1)) (a * b / 2 ^ 64)

-- the four bytes from i on, the lowest first
unfoldable pub read_u32 : List ℕ → ℕ → ℕ
read_u32 bs i = slice_index bs i + slice_index bs (i + 1) * 256 + slice_index bs (i + 2) * 65536 + slice_index bs (i + 3) * 16777216

-- `x << by` at `u64`
abbrev pub shl : ℕ → ℕ → ℕ
shl x by = (x * 2 ^ by) % 2 ^ 64

-- the eight bytes from i on as one number, the lowest first
unfoldable pub read_u64 : List ℕ → ℕ → ℕ
read_u64 bs i = bit_or (read_u32 bs i) (shl (read_u32 bs (i + 4)) 32)

-- up to eight bytes as one number
unfoldable pub read_short : List ℕ → ℕ
read_short bs =
    let n = length bs in
    if nat_le 4 n then bit_or (read_u32 bs 0) (shl (read_u32 bs (n - 4)) 32)
    else (if nat_lt 0 n then bit_or (bit_or (slice_index bs 0) (shl (slice_index bs (n / 2)) 8)) (shl (slice_index bs (n - 1)) 16) else 0)

-- the state after the words at i and at j
abbrev pub mix : ℕ → List ℕ → ℕ → ℕ → ℕ → ℕ
mix m bs state i j = folded_multiply (bit_xor (read_u64 bs i) state) (bit_xor (read_u64 bs j) m)

-- the state after the first n blocks of 16 bytes
unfoldable pub mix_blocks : ℕ → List ℕ → ℕ → ℕ → ℕ
mix_blocks m bs state zero = state
mix_blocks m bs state (suc n) = mix m bs (mix_blocks m bs state n) (16 * n) (16 * n + 8)

-- the state after these bytes are fed
unfoldable pub write : KeyHasher → List ℕ → KeyHasher
write h bs =
    let n = length bs in
    let short = folded_multiply (bit_xor h.state (read_short bs)) (bit_xor h.multiplier (2 * n)) in
    let long = mix h.multiplier bs (mix_blocks h.multiplier bs ((h.state + n) % 2 ^ 64) ((n - 1) / 16)) (n - 16) (n - 8) in
    record { state = if nat_le n 8 then short else long; multiplier = h.multiplier }

-- what `finish` returns
abbrev pub finish : KeyHasher → ℕ
finish h = h.state
