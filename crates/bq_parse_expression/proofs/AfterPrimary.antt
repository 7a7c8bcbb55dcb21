-- A phrase that begins with a primary is that primary, and what comes after it.
use Rattle.std.proofs.Common.{◌≡◌, ◌∙◌, true, false, if◌then◌else◌, List, [], ◌∷◌, Ok, Err, refl, ap}
use Rattle.bq_source.specs.declared.token.TokenKind.{TokenKind}
use Rattle.bq_source.specs.declared.token.TokenKind.TheVariants as k
use Rattle.bq_source.specs.Token.{same_kind}
use Rattle.bq_parse_grammar.specs.Lexeme.{Lexeme}
use Rattle.bq_parse_grammar.specs.declared.refusal.SyntaxErr.{SyntaxErr}
use Rattle.bq_parse_grammar.specs.declared.refusal.SyntaxErr.TheVariants.{Lambda}
use Rattle.bq_parse_grammar.specs.declared.tree.Expr.{Expr}
use Rattle.bq_parse_grammar.specs.declared.tree.Nested.{Nested}
use Rattle.bq_parse_grammar.specs.declared.tree.Nested.TheVariants.{Or, Test}
use Rattle.bq_parse_grammar.specs.Operators.{sign, negation}
use Rattle.bq_parse_grammar.specs.Turns.{Parse, ◌>>=◌}
use Rattle.bq_parse_grammar.specs.Reading.{is_known, binary, chain, comp_after, comp, not_test, and_test, or_test, conditional, test, phrase_by}
use Rattle.bq_parse_grammar.specs.Tokens.{kind_ahead}
use Rattle.bq_parse_expression.specs.Lone.{ends_phrase, begins_operand, begins_with_operand, is_so}
use Rattle.bq_parse_expression.specs.Further.{further, chained_by, or_after_primary}
use Rattle.bq_parse_expression.proofs.Alone.{Quiet, Bare, quiet, unsigned, phrase_alone}
use Rattle.bq_parse_expression.proofs.AfterOperand.{goes_on, as_read}

plain_by : (q : TokenKind) → begins_operand q ≡ true → (is_known (sign q) ≡ false) × ((is_known (negation q) ≡ false) × (same_kind q k.Lambda ≡ false))
unfolding same_kind
plain_by k.LeftParen e = (refl, (refl, refl))
plain_by k.LeftBracket e = (refl, (refl, refl))
plain_by k.LeftBrace e = (refl, (refl, refl))
plain_by k.Identifier e = (refl, (refl, refl))
plain_by k.String e = (refl, (refl, refl))
plain_by k.Int e = (refl, (refl, refl))
plain_by _ e = absurd (cc)

plain : (ts : List Lexeme) → begins_with_operand ts ≡ true → Bare ts
plain [] e = absurd (cc)
plain (t ∷ ts) e = let b = plain_by t.kind e in record { no_sign = b.0; no_negation = b.1.0; no_lambda = b.1.1 }

at_end : Quiet []
at_end = record { no_suffix = refl; no_operator = λ l. refl; no_comparison = refl; no_choice_next = refl }

module _ (base : Parse Expr) where
  -- where there is no primary, there is no phrase
  pub no_primary : (which : Nested) (ts : List Lexeme) (why : SyntaxErr) → begins_with_operand ts ≡ true → base ts ≡ Err why → phrase_by base which ts ≡ Err why
  no_primary which ts why begins reads = phrase_alone base which ts (Err why) [] reads (plain ts begins) tt at_end

  -- where a phrase ends after it, the primary is all
  pub primary_alone : (which : Nested) (ts : List Lexeme) (x : Expr) (mid : List Lexeme) → begins_with_operand ts ≡ true → base ts ≡ Ok (x, mid)
      → is_so ends_phrase (kind_ahead mid) ≡ true → phrase_by base which ts ≡ Ok (x, mid)
  primary_alone which ts x mid begins reads ends = phrase_alone base which ts (Ok (x, mid)) mid reads (plain ts begins) refl (quiet mid ends)

  or_first : (ts : List Lexeme) (x : Expr) (mid : List Lexeme) → begins_with_operand ts ≡ true → base ts ≡ Ok (x, mid) → or_test base ts ≡ or_after_primary base x mid
  unfolding chain comp
  or_first ts x mid begins reads =
      let bare = plain ts begins in
      let operand : binary base 6 ts ≡ further base 6 x mid = goes_on base 6 ts x mid (unsigned sign base ts bare.no_sign ∙ reads) in
      let compared = ap (λ r. r >>= λ y rest. comp_after base y rest) operand in
      let negated = unsigned negation (comp base) ts bare.no_negation ∙ compared in
      let both = ap (λ r. r >>= λ y rest. chained_by 9 (not_test base) y rest) negated in
      ap (λ r. r >>= λ y rest. chained_by 10 (and_test base) y rest) both

  test_first : (ts : List Lexeme) (x : Expr) (mid : List Lexeme) → begins_with_operand ts ≡ true → base ts ≡ Ok (x, mid)
      → test base ts ≡ (or_after_primary base x mid >>= λ y rest. conditional base y rest)
  unfolding test
  test_first ts x mid begins reads =
      ap (λ b. if b then Err Lambda else (or_test base ts >>= λ y rest. conditional base y rest)) ((plain ts begins).no_lambda)
      ∙ ap (λ f. f >>= λ y rest. conditional base y rest) (or_first ts x mid begins reads)

  -- what a phrase has after its Or
  abbrev pub after_or : Nested → Expr → Parse Expr
  after_or Or y ts = Ok (y, ts)
  after_or Test y ts = conditional base y ts

  -- a phrase is its first primary, and the rest
  pub primary_then : (which : Nested) (ts : List Lexeme) (x : Expr) (mid : List Lexeme) → begins_with_operand ts ≡ true → base ts ≡ Ok (x, mid)
      → phrase_by base which ts ≡ (or_after_primary base x mid >>= λ y rest. after_or which y rest)
  primary_then Or ts x mid begins reads = or_first ts x mid begins reads ∙ as_read (or_after_primary base x mid)
  primary_then Test ts x mid begins reads = test_first ts x mid begins reads
