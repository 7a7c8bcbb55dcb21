-- What the language leaves out, and what a BUILD file may not have. Of a statement that has a tree, all but one are about its tokens.
use Rattle.std.specs.Prelude.{ℕ, zero, suc, List, [], ◌∷◌, Bool, true, false, ◌||◌, ◌&&◌, not, map}
use Rattle.std.specs.List.{list_any}
use Rattle.std.specs.Str.{bytes_eq}
use Rattle.bq_source.specs.declared.token.TokenKind.{TokenKind}
use Rattle.bq_source.specs.declared.token.TokenKind.TheVariants as k
use Rattle.bq_parse_grammar.specs.Lexeme.{Lexeme}
use Rattle.bq_parse_grammar.specs.declared.tree.Branch.{Branch, out-Branch}
use Rattle.bq_parse_grammar.specs.declared.tree.Stmt.{Stmt, out-Stmt}
use Rattle.bq_parse_grammar.specs.declared.tree.Stmt.TheOpen.{Stmt-F}

-- ---- left out of the language

-- the bytes of `native`
abbrev pub native : List ℕ
native = 110 ∷ 97 ∷ 116 ∷ 105 ∷ 118 ∷ 101 ∷ []

-- `identifier (` comes next
abbrev pub calls_name : List TokenKind → Bool
calls_name (k.Identifier ∷ k.LeftParen ∷ ts) = true
calls_name ts = false

-- `. identifier (` comes next
abbrev pub calls_method : List TokenKind → Bool
calls_method (k.Dot ∷ k.Identifier ∷ k.LeftParen ∷ ts) = true
calls_method ts = false

-- the kinds of tokens
abbrev pub kinds : List Lexeme → List TokenKind
kinds ts = map (λ t. t.kind) ts

-- `lambda`, `/` and `/=`; `.name` without a call; the name `native`, but before `.name(`
abbrev pub leaves_out_by : TokenKind → Lexeme → List Lexeme → Bool
leaves_out_by k.Lambda t ts = true
leaves_out_by k.Slash t ts = true
leaves_out_by k.SlashAssign t ts = true
leaves_out_by k.Dot t ts = not (calls_name (kinds ts))
leaves_out_by k.Identifier t ts = bytes_eq t.spelling native && not (calls_method (kinds ts))
leaves_out_by _ t ts = false

-- a token begins something of Starlark that is left out here
abbrev pub leaves_out : List Lexeme → Bool
leaves_out [] = false
leaves_out (t ∷ ts) = leaves_out_by t.kind t ts || leaves_out ts

-- a function is defined in another, by the form of the statement
abbrev pub nested_in : (Bool → Stmt → Bool) → Bool → Stmt-F Stmt Branch → Bool
nested_in inner inside (Stmt-F.Simple xs) = false
nested_in inner inside (Stmt-F.If bs zs) = list_any (λ b. list_any (inner inside) (out-Branch b).block) bs || list_any (inner inside) zs
nested_in inner inside (Stmt-F.For v x xs) = list_any (inner inside) xs
nested_in inner inside (Stmt-F.Def n ps xs) = inside || list_any (inner true) xs

-- whether a `def` stands in a `def`, in a statement that is at most this many indents deep
abbrev pub nested_def : ℕ → Bool → Stmt → Bool
nested_def zero inside x = nested_in (λ i y. false) inside (out-Stmt x)
nested_def (suc depth) inside x = nested_in (nested_def depth) inside (out-Stmt x)

-- ---- not in a BUILD file

-- `def`, `if` and `for` statements
abbrev pub is_compound : List TokenKind → Bool
is_compound (k.Def ∷ ts) = true
is_compound (k.If ∷ ts) = true
is_compound (k.For ∷ ts) = true
is_compound ts = false

-- a star after `(` or `,` begins an argument
abbrev pub is_starred : List TokenKind → Bool
is_starred (k.LeftParen ∷ k.Star ∷ ts) = true
is_starred (k.LeftParen ∷ k.StarStar ∷ ts) = true
is_starred (k.Comma ∷ k.Star ∷ ts) = true
is_starred (k.Comma ∷ k.StarStar ∷ ts) = true
is_starred ts = false

-- there is an argument `*x` or `**x`
abbrev pub has_starred : List TokenKind → Bool
has_starred [] = false
has_starred (t ∷ ts) = is_starred (t ∷ ts) || has_starred ts

-- a statement that a BUILD file can't have: `if`, `for`, `def`, or a call with `*x` or `**x`
abbrev pub barred_in_build : List Lexeme → Bool
barred_in_build ts = is_compound (kinds ts) || has_starred (kinds ts)
