-- What is taken off the ends of a text (Starlark, "string·strip", "string·lstrip", "string·rstrip", "string·removeprefix",
-- "string·removesuffix").
use Rattle.std.specs.Prelude.{ℕ, ◌-◌, List, Bool, ◌==◌, nat_eq, length, take, drop, ◌∷◌, [], if◌then◌else◌}
use Rattle.std.specs.List.{prefix_len, suffix_len, list_any, starts_with, ends_with}

-- a byte is one of these
abbrev pub is_among : List ℕ → ℕ → Bool
is_among set b = list_any (λ c. c == b) set

-- space, tab, newline, carriage return, bytes 11 and 12
abbrev pub spaces : List ℕ
spaces = 32 ∷ 9 ∷ 10 ∷ 13 ∷ 11 ∷ 12 ∷ []

-- without the longest run of such bytes at the start
unfoldable pub lstrip : List ℕ → List ℕ → List ℕ
lstrip set text = drop (prefix_len (is_among set) text) text

-- without the longest run of such bytes at the end
unfoldable pub rstrip : List ℕ → List ℕ → List ℕ
rstrip set text = take (length text - suffix_len (is_among set) text) text

-- a text without these bytes at both ends
abbrev pub strip : List ℕ → List ℕ → List ℕ
strip set text = rstrip set (lstrip set text)

-- a text without a prefix, if it has it
abbrev pub remove_prefix : List ℕ → List ℕ → List ℕ
remove_prefix prefix text = if starts_with nat_eq text prefix then drop (length prefix) text else text

-- a text without a suffix, if it has it
abbrev pub remove_suffix : List ℕ → List ℕ → List ℕ
remove_suffix suffix text = if ends_with nat_eq text suffix then take (length text - length suffix) text else text
