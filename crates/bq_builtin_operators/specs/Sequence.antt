-- Lists, tuples and strings that are joined, repeated and sliced (Starlark, "String concatenation", "String repetition", "Slice
-- expressions").
use Rattle.std.specs.Prelude.{ℕ, zero, suc, ◌<◌, nat_le, cond, ℤ, pos, ◌≤ℤ◌, ◌<ℤ◌, List, [], ◌++◌, length, Result, Ok, Err}
use Rattle.bq_base.specs.declared.fault.EvalFault.{EvalFault}
use Rattle.bq_base.specs.declared.fault.EvalFault.TheVariants.{TooLong}
use Rattle.bq_value.specs.Range.{range_count, range_element}
use Rattle.bq_builtin_strings.specs.Length.{max_len, times_of}

-- at most `max_len` elements or bytes, else F54
abbrev pub limited : {A : Type 0} → List A → Result (List A) EvalFault
limited xs = cond (nat_le (length xs) max_len) (Ok xs) (Err TooLong)

-- `xs + ys`
unfoldable pub joined : {A : Type 0} → List A → List A → Result (List A) EvalFault
joined xs ys = limited (xs ++ ys)

-- a list a number of times in a row
abbrev pub copies : {A : Type 0} → List A → ℕ → List A
copies xs zero = []
copies xs (suc n) = xs ++ copies xs n

-- `xs * times`; less than once is never
unfoldable pub repeated : {A : Type 0} → List A → ℤ → Result (List A) EvalFault
repeated xs times = limited (copies xs (times_of times))

-- each place of a range is that of an element
abbrev pub AreWithin : {A : Type 0} → List A → ℤ → ℤ → ℤ → Type 0
AreWithin xs start stop step = (k : ℕ) → k < range_count start stop step → (pos 0 ≤ℤ range_element start step k) × (range_element start step k <ℤ pos (length xs))
