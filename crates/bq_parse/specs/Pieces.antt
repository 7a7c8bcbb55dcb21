-- How many tokens the first top-level statement of a file has: those before the second of `pieces` of bq_parse_grammar.
use Rattle.std.specs.Prelude.{ℕ, suc, List, [], ◌∷◌, Bool, false, ◌&&◌, if◌then◌else◌}
use Rattle.bq_parse_grammar.specs.Lexeme.{Lexeme}
use Rattle.bq_parse_grammar.specs.Pieces.{ends_line, indents_after, begins_statement, is_zero}

-- how many more tokens the statement has; whether a line may begin here, and how many indents are open
unfoldable pub rest_len : Bool → ℕ → List Lexeme → ℕ
rest_len line n [] = 0
rest_len line n (t ∷ ts) =
    if line && (is_zero n && begins_statement t.kind) then 0 else suc (rest_len (ends_line t.kind) (indents_after t.kind n) ts)

-- how many tokens the first statement has, from its first token on; 0 where there are no tokens
abbrev pub piece_len : List Lexeme → ℕ
piece_len ts = rest_len false 0 ts
