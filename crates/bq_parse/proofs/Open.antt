-- How many brackets and indents are open, a token at a time.
use Rattle.std.proofs.Common.{◌≡◌, ℕ, ◌<◌, ◌≤◌, true, false, ◌&&◌, nat_le, List, [], ◌∷◌, Some, None, refl, ap, ◌∙◌, arith}
use Rattle.bq_source.specs.declared.token.TokenKind.{TokenKind}
use Rattle.bq_parse_grammar.specs.Lexeme.{Lexeme}
use Rattle.bq_parse_grammar.specs.Nesting.{max_nesting, open_after, nests}
use Rattle.bq_parse_grammar.specs.Turns.{next}
use Rattle.bq_parse_grammar.specs.Tokens.{kind_ahead}
use Rattle.bq_parse.proofs.Ahead.{same_kind_ahead}

small : (n : ℕ) → n ≤ max_nesting → nat_le n max_nesting ≡ true
small n h = grind arith

large : (n : ℕ) → max_nesting < n → nat_le n max_nesting ≡ false
large n h = grind arith

-- few enough are open here, and the next token comes
pub nests_ahead : (n : ℕ) (ts : List Lexeme) (q : TokenKind) → n ≤ max_nesting → kind_ahead ts ≡ Some q → nests n ts ≡ nests (open_after q n) (next ts)
nests_ahead n [] q h e = absurd (cc)
nests_ahead n (t ∷ ts) q h e = ap (λ b. b && nests (open_after t.kind n) ts) (small n h) ∙ ap (λ k. nests (open_after k n) ts) (same_kind_ahead t ts q e)

pub nests_over : (n : ℕ) (ts : List Lexeme) → kind_ahead ts ≡ None → nests n ts ≡ nat_le n max_nesting
nests_over n [] e = refl
nests_over n (t ∷ ts) e = absurd (cc)

pub too_many : (n : ℕ) (ts : List Lexeme) → max_nesting < n → nests n ts ≡ false
too_many n [] h = large n h
too_many n (t ∷ ts) h = ap (λ b. b && nests (open_after t.kind n) ts) (large n h)
