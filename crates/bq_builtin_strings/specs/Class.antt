-- Classes of bytes (Starlark, "string·isalnum" and its kin; letters and digits are those of ASCII).
use Rattle.std.specs.Prelude.{ℕ, Bool, not}
use Rattle.std.specs.Char.{is_ascii_alphanumeric, is_ascii_alphabetic, is_ascii_digit, is_ascii_lowercase, is_ascii_uppercase}
use Rattle.bq_builtin_strings.specs.Trim.{is_among, spaces}
use Rattle.bq_builtin_strings.specs.declared.class.ByteClass.{ByteClass}
use Rattle.bq_builtin_strings.specs.declared.class.ByteClass.TheVariants.{Alphanumeric, Alphabetic, Digit, Lowercase, Uppercase, Space, NonSpace}

-- white space of ASCII
abbrev pub is_space : ℕ → Bool
is_space b = is_among spaces b

-- a byte is of a class
abbrev pub has : ByteClass → ℕ → Bool
has Alphanumeric b = is_ascii_alphanumeric b
has Alphabetic b = is_ascii_alphabetic b
has Digit b = is_ascii_digit b
has Lowercase b = is_ascii_lowercase b
has Uppercase b = is_ascii_uppercase b
has Space b = is_space b
has NonSpace b = not (is_space b)
