-- Where each top-level statement of a file begins: the first at the file's first token, whatever it is; another at each token with
-- which a line begins while no indent is open, but for `elif` and `else`, which go on with the statement above.
use Rattle.std.specs.Prelude.{ℕ, zero, suc, List, [], ◌∷◌, ◌-◌, Bool, true, false, ◌&&◌, if◌then◌else◌}
use Rattle.bq_source.specs.declared.token.TokenKind.{TokenKind}
use Rattle.bq_source.specs.declared.token.TokenKind.TheVariants as k
use Rattle.bq_parse_grammar.specs.Lexeme.{Lexeme}

-- a line may begin after this token
abbrev pub ends_line : TokenKind → Bool
ends_line k.Newline = true
ends_line k.Outdent = true
ends_line _ = false

-- the indents that are open after a token
abbrev pub indents_after : TokenKind → ℕ → ℕ
indents_after k.Indent n = suc n
indents_after k.Outdent n = n - 1
indents_after _ n = n

-- a line that begins with this token begins a statement
abbrev pub begins_statement : TokenKind → Bool
begins_statement k.Indent = false
begins_statement k.Elif = false
begins_statement k.Else = false
begins_statement _ = true

-- nothing is open
abbrev pub is_zero : ℕ → Bool
is_zero zero = true
is_zero (suc n) = false

-- a token joins the first piece
abbrev pub onto : Lexeme → List (List Lexeme) → List (List Lexeme)
onto t [] = (t ∷ []) ∷ []
onto t (p ∷ ps) = (t ∷ p) ∷ ps

-- the rest of a statement, and the further ones; whether a line may begin here, and how many indents are open
abbrev pub cut : Bool → ℕ → List Lexeme → List (List Lexeme)
cut line n [] = [] ∷ []
cut line n (t ∷ ts) =
    if line && (is_zero n && begins_statement t.kind) then [] ∷ onto t (cut (ends_line t.kind) (indents_after t.kind n) ts)
    else onto t (cut (ends_line t.kind) (indents_after t.kind n) ts)

-- the tokens of a file, a piece for each statement at its top level
abbrev pub pieces : List Lexeme → List (List Lexeme)
pieces [] = []
pieces (t ∷ ts) = cut false 0 (t ∷ ts)
