-- What a line of a session asks for.
use Rattle.std.specs.Prelude.{ℕ, ◌+◌, ◌-◌, ◌*◌, ◌&&◌, ◌==◌, Bool, List, [], ◌∷◌, Option, None, Some, bytes_eq, codes, drop, length, nat_eq, nat_le, nat_lt, if◌then◌else◌}
use Rattle.std.specs.List.{starts_with}
use Rattle.bq_label.specs.Paths.{is_path}
use Rattle.bq_run_commands.specs.declared.commands.Command.{Command}
use Rattle.bq_run_commands.specs.declared.commands.Command.TheVariants.{Nothing, Answer, Put, Remove, Reload, Facts, Bad}
use Rattle.bq_run_commands.specs.Queries.{is_skipped, max_query_bytes}

-- the byte is one of `0` to `9`
abbrev pub is_digit : ℕ → Bool
is_digit b = nat_le 48 b && nat_le b 57

-- a number's digits, and a digit more: not past the limit
abbrev pub goes_on : ℕ → ℕ → ℕ → Bool
goes_on limit n b = is_digit b && nat_le (n * 10 + (b - 48)) limit

-- The number of which `n` is read, which ends with a space, and what comes after the space. None past the limit, and where something else
-- than a digit comes before the space.
abbrev pub count_and_path : ℕ → ℕ → List ℕ → Option (ℕ × List ℕ)
count_and_path limit n [] = None
count_and_path limit n (b ∷ bs) = if b == 32 then Some (n, bs) else (if goes_on limit n b then count_and_path limit (n * 10 + (b - 48)) bs else None)

-- the same of a text that begins with the number, which has a digit
abbrev pub put_words : ℕ → List ℕ → Option (ℕ × List ℕ)
put_words limit [] = None
put_words limit (b ∷ bs) = if b == 32 then None else count_and_path limit 0 (b ∷ bs)

-- the command `put` of a count of bytes and a path; `Bad` where these aren't read so, or the path isn't valid
abbrev pub put_at : Option (ℕ × List ℕ) → Command
put_at None = Bad
put_at (Some words) = if is_path words.1 then Put words.0 words.1 else Bad

-- `COUNT PATH`
abbrev pub put_of : ℕ → List ℕ → Command
put_of limit text = put_at (put_words limit text)

-- `PATH`
abbrev pub remove_of : List ℕ → Command
remove_of path = if is_path path then Remove path else Bad

-- what a line asks for that begins as commands do; none of these is a query
unfoldable pub command_by : ℕ → List ℕ → Command
command_by limit line =
    if starts_with nat_eq line (codes "=== put ") then put_of limit (drop 8 line) else
    (if starts_with nat_eq line (codes "=== remove ") then remove_of (drop 11 line) else
    (if starts_with nat_eq line (codes "=== facts ") then Facts (Some (drop 10 line)) else
    (if bytes_eq line (codes "=== facts") then Facts None else
    (if bytes_eq line (codes "=== reload") then Reload else Answer))))

-- What a line asks for, where a file that is put has at most `limit` bytes. All that is no command is a query, and so is a line that is too
-- long for one.
unfoldable pub command_of : ℕ → List ℕ → Command
command_of limit line = if is_skipped line then Nothing else (if nat_lt max_query_bytes (length line) then Answer else command_by limit line)
