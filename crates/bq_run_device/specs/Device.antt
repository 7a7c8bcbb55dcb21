-- What a device's count of failures does in a call, and what of a text a writer got.
use Rattle.std.specs.Prelude.{◌≡◌, ◌⊎◌, ◌≤◌, ◌+◌, ◌-◌, ◌^◌, ℕ, Bool, List, Option, min, length, take, if◌then◌else◌, ◌==◌, ◌&&◌, nat_lt, Result, Ok, Err}
use Rattle.std.specs.Io.KnownBytes.{Appends}

-- one more failure; at the greatest number the count stays
abbrev pub one_more : ℕ → ℕ
one_more n = min (n + 1) (2 ^ 64 - 1)

-- a read that returns an error counts, and no other does
abbrev pub ReadCounts : {E : Type 0} → ℕ → ℕ → Result ℕ E → Type 0
ReadCounts old new (Ok n) = new ≡ old
ReadCounts old new (Err e) = new ≡ one_more old

-- there were bytes, and none was taken
abbrev pub took_none : ℕ → List ℕ → Bool
took_none n bytes = n == 0 && nat_lt 0 (length bytes)

-- a write that returns an error counts, and one of some bytes that takes none; no other does
abbrev pub WriteCounts : {E : Type 0} → ℕ → ℕ → Result ℕ E → List ℕ → Type 0
WriteCounts old new (Ok n) bytes = new ≡ (if took_none n bytes then one_more old else old)
WriteCounts old new (Err e) bytes = new ≡ one_more old

-- one of two devices counted one failure, and the other none
abbrev pub OneFailed : (f f' w w' : ℕ) → Type 0
OneFailed f f' w w' = ((f' ≡ f + 1) × (w' ≡ w)) ⊎ ((f' ≡ f) × (w' ≡ w + 1))

-- a beginning of the text was written
abbrev pub Begins : Option (List ℕ) → Option (List ℕ) → List ℕ → Type 0
Begins old new text = (n : ℕ) × (n ≤ length text) × Appends old new (take n text)
