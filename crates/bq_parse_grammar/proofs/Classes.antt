-- Classes of kinds of tokens: what begins a phrase, what ends one, and how a claim about all kinds is computed.
use Rattle.std.proofs.Common.{◌≡◌, ℕ, Bool, true, false, not, ◌&&◌, ◌||◌, nat_lt, refl}
use Rattle.bq_source.specs.declared.token.TokenKind.{TokenKind}
use Rattle.bq_source.specs.declared.token.TokenKind.TheVariants as k
use Rattle.bq_source.specs.Token.{same_kind}
use Rattle.bq_parse_grammar.specs.Operators.{operator_at, sign, negation, comparison}
use Rattle.bq_parse_grammar.specs.Reading.{is_known}

-- ---- a claim about all kinds

abbrev pub all_kinds : (TokenKind → Bool) → Bool
all_kinds p =
    p k.Newline && (p k.Indent && (p k.Outdent && (p k.Identifier && (p k.Int && (p k.String && (p k.LeftParen && (p k.RightParen && (p k.LeftBracket && (p k.RightBracket && (p k.LeftBrace && (p k.RightBrace && (p k.Comma && (p k.Colon && (p k.Semicolon && (p k.Dot && (p k.Assign && (p k.Plus && (p k.Minus && (p k.Star && (p k.StarStar && (p k.Slash && (p k.SlashSlash && (p k.Percent && (p k.Ampersand && (p k.Pipe && (p k.Caret && (p k.Tilde && (p k.LessLess && (p k.GreaterGreater && (p k.Less && (p k.Greater && (p k.LessEqual && (p k.GreaterEqual && (p k.EqualEqual && (p k.NotEqual && (p k.PlusAssign && (p k.MinusAssign && (p k.StarAssign && (p k.SlashAssign && (p k.SlashSlashAssign && (p k.PercentAssign && (p k.AmpersandAssign && (p k.PipeAssign && (p k.CaretAssign && (p k.LessLessAssign && (p k.GreaterGreaterAssign && (p k.And && (p k.Break && (p k.Continue && (p k.Def && (p k.Elif && (p k.Else && (p k.For && (p k.If && (p k.In && (p k.Lambda && (p k.Load && (p k.Not && (p k.Or && (p k.Pass && (p k.Return && (p k.Reserved))))))))))))))))))))))))))))))))))))))))))))))))))))))))))))))

first_holds : (a b : Bool) → (a && b) ≡ true → a ≡ true
first_holds true b h = refl
first_holds false b h = absurd (cc)

others_hold : (a b : Bool) → (a && b) ≡ true → b ≡ true
others_hold true b h = h
others_hold false b h = absurd (cc)

module _ (p : TokenKind → Bool) (h : all_kinds p ≡ true) where
  from_1 : (p k.Indent && (p k.Outdent && (p k.Identifier && (p k.Int && (p k.String && (p k.LeftParen && (p k.RightParen && (p k.LeftBracket && (p k.RightBracket && (p k.LeftBrace && (p k.RightBrace && (p k.Comma && (p k.Colon && (p k.Semicolon && (p k.Dot && (p k.Assign && (p k.Plus && (p k.Minus && (p k.Star && (p k.StarStar && (p k.Slash && (p k.SlashSlash && (p k.Percent && (p k.Ampersand && (p k.Pipe && (p k.Caret && (p k.Tilde && (p k.LessLess && (p k.GreaterGreater && (p k.Less && (p k.Greater && (p k.LessEqual && (p k.GreaterEqual && (p k.EqualEqual && (p k.NotEqual && (p k.PlusAssign && (p k.MinusAssign && (p k.StarAssign && (p k.SlashAssign && (p k.SlashSlashAssign && (p k.PercentAssign && (p k.AmpersandAssign && (p k.PipeAssign && (p k.CaretAssign && (p k.LessLessAssign && (p k.GreaterGreaterAssign && (p k.And && (p k.Break && (p k.Continue && (p k.Def && (p k.Elif && (p k.Else && (p k.For && (p k.If && (p k.In && (p k.Lambda && (p k.Load && (p k.Not && (p k.Or && (p k.Pass && (p k.Return && (p k.Reserved)))))))))))))))))))))))))))))))))))))))))))))))))))))))))))))) ≡ true
  from_1 = others_hold (p k.Newline) (p k.Indent && (p k.Outdent && (p k.Identifier && (p k.Int && (p k.String && (p k.LeftParen && (p k.RightParen && (p k.LeftBracket && (p k.RightBracket && (p k.LeftBrace && (p k.RightBrace && (p k.Comma && (p k.Colon && (p k.Semicolon && (p k.Dot && (p k.Assign && (p k.Plus && (p k.Minus && (p k.Star && (p k.StarStar && (p k.Slash && (p k.SlashSlash && (p k.Percent && (p k.Ampersand && (p k.Pipe && (p k.Caret && (p k.Tilde && (p k.LessLess && (p k.GreaterGreater && (p k.Less && (p k.Greater && (p k.LessEqual && (p k.GreaterEqual && (p k.EqualEqual && (p k.NotEqual && (p k.PlusAssign && (p k.MinusAssign && (p k.StarAssign && (p k.SlashAssign && (p k.SlashSlashAssign && (p k.PercentAssign && (p k.AmpersandAssign && (p k.PipeAssign && (p k.CaretAssign && (p k.LessLessAssign && (p k.GreaterGreaterAssign && (p k.And && (p k.Break && (p k.Continue && (p k.Def && (p k.Elif && (p k.Else && (p k.For && (p k.If && (p k.In && (p k.Lambda && (p k.Load && (p k.Not && (p k.Or && (p k.Pass && (p k.Return && (p k.Reserved)))))))))))))))))))))))))))))))))))))))))))))))))))))))))))))) h

  from_2 : (p k.Outdent && (p k.Identifier && (p k.Int && (p k.String && (p k.LeftParen && (p k.RightParen && (p k.LeftBracket && (p k.RightBracket && (p k.LeftBrace && (p k.RightBrace && (p k.Comma && (p k.Colon && (p k.Semicolon && (p k.Dot && (p k.Assign && (p k.Plus && (p k.Minus && (p k.Star && (p k.StarStar && (p k.Slash && (p k.SlashSlash && (p k.Percent && (p k.Ampersand && (p k.Pipe && (p k.Caret && (p k.Tilde && (p k.LessLess && (p k.GreaterGreater && (p k.Less && (p k.Greater && (p k.LessEqual && (p k.GreaterEqual && (p k.EqualEqual && (p k.NotEqual && (p k.PlusAssign && (p k.MinusAssign && (p k.StarAssign && (p k.SlashAssign && (p k.SlashSlashAssign && (p k.PercentAssign && (p k.AmpersandAssign && (p k.PipeAssign && (p k.CaretAssign && (p k.LessLessAssign && (p k.GreaterGreaterAssign && (p k.And && (p k.Break && (p k.Continue && (p k.Def && (p k.Elif && (p k.Else && (p k.For && (p k.If && (p k.In && (p k.Lambda && (p k.Load && (p k.Not && (p k.Or && (p k.Pass && (p k.Return && (p k.Reserved))))))))))))))))))))))))))))))))))))))))))))))))))))))))))))) ≡ true
  from_2 = others_hold (p k.Indent) (p k.Outdent && (p k.Identifier && (p k.Int && (p k.String && (p k.LeftParen && (p k.RightParen && (p k.LeftBracket && (p k.RightBracket && (p k.LeftBrace && (p k.RightBrace && (p k.Comma && (p k.Colon && (p k.Semicolon && (p k.Dot && (p k.Assign && (p k.Plus && (p k.Minus && (p k.Star && (p k.StarStar && (p k.Slash && (p k.SlashSlash && (p k.Percent && (p k.Ampersand && (p k.Pipe && (p k.Caret && (p k.Tilde && (p k.LessLess && (p k.GreaterGreater && (p k.Less && (p k.Greater && (p k.LessEqual && (p k.GreaterEqual && (p k.EqualEqual && (p k.NotEqual && (p k.PlusAssign && (p k.MinusAssign && (p k.StarAssign && (p k.SlashAssign && (p k.SlashSlashAssign && (p k.PercentAssign && (p k.AmpersandAssign && (p k.PipeAssign && (p k.CaretAssign && (p k.LessLessAssign && (p k.GreaterGreaterAssign && (p k.And && (p k.Break && (p k.Continue && (p k.Def && (p k.Elif && (p k.Else && (p k.For && (p k.If && (p k.In && (p k.Lambda && (p k.Load && (p k.Not && (p k.Or && (p k.Pass && (p k.Return && (p k.Reserved))))))))))))))))))))))))))))))))))))))))))))))))))))))))))))) from_1

  from_3 : (p k.Identifier && (p k.Int && (p k.String && (p k.LeftParen && (p k.RightParen && (p k.LeftBracket && (p k.RightBracket && (p k.LeftBrace && (p k.RightBrace && (p k.Comma && (p k.Colon && (p k.Semicolon && (p k.Dot && (p k.Assign && (p k.Plus && (p k.Minus && (p k.Star && (p k.StarStar && (p k.Slash && (p k.SlashSlash && (p k.Percent && (p k.Ampersand && (p k.Pipe && (p k.Caret && (p k.Tilde && (p k.LessLess && (p k.GreaterGreater && (p k.Less && (p k.Greater && (p k.LessEqual && (p k.GreaterEqual && (p k.EqualEqual && (p k.NotEqual && (p k.PlusAssign && (p k.MinusAssign && (p k.StarAssign && (p k.SlashAssign && (p k.SlashSlashAssign && (p k.PercentAssign && (p k.AmpersandAssign && (p k.PipeAssign && (p k.CaretAssign && (p k.LessLessAssign && (p k.GreaterGreaterAssign && (p k.And && (p k.Break && (p k.Continue && (p k.Def && (p k.Elif && (p k.Else && (p k.For && (p k.If && (p k.In && (p k.Lambda && (p k.Load && (p k.Not && (p k.Or && (p k.Pass && (p k.Return && (p k.Reserved)))))))))))))))))))))))))))))))))))))))))))))))))))))))))))) ≡ true
  from_3 = others_hold (p k.Outdent) (p k.Identifier && (p k.Int && (p k.String && (p k.LeftParen && (p k.RightParen && (p k.LeftBracket && (p k.RightBracket && (p k.LeftBrace && (p k.RightBrace && (p k.Comma && (p k.Colon && (p k.Semicolon && (p k.Dot && (p k.Assign && (p k.Plus && (p k.Minus && (p k.Star && (p k.StarStar && (p k.Slash && (p k.SlashSlash && (p k.Percent && (p k.Ampersand && (p k.Pipe && (p k.Caret && (p k.Tilde && (p k.LessLess && (p k.GreaterGreater && (p k.Less && (p k.Greater && (p k.LessEqual && (p k.GreaterEqual && (p k.EqualEqual && (p k.NotEqual && (p k.PlusAssign && (p k.MinusAssign && (p k.StarAssign && (p k.SlashAssign && (p k.SlashSlashAssign && (p k.PercentAssign && (p k.AmpersandAssign && (p k.PipeAssign && (p k.CaretAssign && (p k.LessLessAssign && (p k.GreaterGreaterAssign && (p k.And && (p k.Break && (p k.Continue && (p k.Def && (p k.Elif && (p k.Else && (p k.For && (p k.If && (p k.In && (p k.Lambda && (p k.Load && (p k.Not && (p k.Or && (p k.Pass && (p k.Return && (p k.Reserved)))))))))))))))))))))))))))))))))))))))))))))))))))))))))))) from_2

  from_4 : (p k.Int && (p k.String && (p k.LeftParen && (p k.RightParen && (p k.LeftBracket && (p k.RightBracket && (p k.LeftBrace && (p k.RightBrace && (p k.Comma && (p k.Colon && (p k.Semicolon && (p k.Dot && (p k.Assign && (p k.Plus && (p k.Minus && (p k.Star && (p k.StarStar && (p k.Slash && (p k.SlashSlash && (p k.Percent && (p k.Ampersand && (p k.Pipe && (p k.Caret && (p k.Tilde && (p k.LessLess && (p k.GreaterGreater && (p k.Less && (p k.Greater && (p k.LessEqual && (p k.GreaterEqual && (p k.EqualEqual && (p k.NotEqual && (p k.PlusAssign && (p k.MinusAssign && (p k.StarAssign && (p k.SlashAssign && (p k.SlashSlashAssign && (p k.PercentAssign && (p k.AmpersandAssign && (p k.PipeAssign && (p k.CaretAssign && (p k.LessLessAssign && (p k.GreaterGreaterAssign && (p k.And && (p k.Break && (p k.Continue && (p k.Def && (p k.Elif && (p k.Else && (p k.For && (p k.If && (p k.In && (p k.Lambda && (p k.Load && (p k.Not && (p k.Or && (p k.Pass && (p k.Return && (p k.Reserved))))))))))))))))))))))))))))))))))))))))))))))))))))))))))) ≡ true
  from_4 = others_hold (p k.Identifier) (p k.Int && (p k.String && (p k.LeftParen && (p k.RightParen && (p k.LeftBracket && (p k.RightBracket && (p k.LeftBrace && (p k.RightBrace && (p k.Comma && (p k.Colon && (p k.Semicolon && (p k.Dot && (p k.Assign && (p k.Plus && (p k.Minus && (p k.Star && (p k.StarStar && (p k.Slash && (p k.SlashSlash && (p k.Percent && (p k.Ampersand && (p k.Pipe && (p k.Caret && (p k.Tilde && (p k.LessLess && (p k.GreaterGreater && (p k.Less && (p k.Greater && (p k.LessEqual && (p k.GreaterEqual && (p k.EqualEqual && (p k.NotEqual && (p k.PlusAssign && (p k.MinusAssign && (p k.StarAssign && (p k.SlashAssign && (p k.SlashSlashAssign && (p k.PercentAssign && (p k.AmpersandAssign && (p k.PipeAssign && (p k.CaretAssign && (p k.LessLessAssign && (p k.GreaterGreaterAssign && (p k.And && (p k.Break && (p k.Continue && (p k.Def && (p k.Elif && (p k.Else && (p k.For && (p k.If && (p k.In && (p k.Lambda && (p k.Load && (p k.Not && (p k.Or && (p k.Pass && (p k.Return && (p k.Reserved))))))))))))))))))))))))))))))))))))))))))))))))))))))))))) from_3

  from_5 : (p k.String && (p k.LeftParen && (p k.RightParen && (p k.LeftBracket && (p k.RightBracket && (p k.LeftBrace && (p k.RightBrace && (p k.Comma && (p k.Colon && (p k.Semicolon && (p k.Dot && (p k.Assign && (p k.Plus && (p k.Minus && (p k.Star && (p k.StarStar && (p k.Slash && (p k.SlashSlash && (p k.Percent && (p k.Ampersand && (p k.Pipe && (p k.Caret && (p k.Tilde && (p k.LessLess && (p k.GreaterGreater && (p k.Less && (p k.Greater && (p k.LessEqual && (p k.GreaterEqual && (p k.EqualEqual && (p k.NotEqual && (p k.PlusAssign && (p k.MinusAssign && (p k.StarAssign && (p k.SlashAssign && (p k.SlashSlashAssign && (p k.PercentAssign && (p k.AmpersandAssign && (p k.PipeAssign && (p k.CaretAssign && (p k.LessLessAssign && (p k.GreaterGreaterAssign && (p k.And && (p k.Break && (p k.Continue && (p k.Def && (p k.Elif && (p k.Else && (p k.For && (p k.If && (p k.In && (p k.Lambda && (p k.Load && (p k.Not && (p k.Or && (p k.Pass && (p k.Return && (p k.Reserved)))))))))))))))))))))))))))))))))))))))))))))))))))))))))) ≡ true
  from_5 = others_hold (p k.Int) (p k.String && (p k.LeftParen && (p k.RightParen && (p k.LeftBracket && (p k.RightBracket && (p k.LeftBrace && (p k.RightBrace && (p k.Comma && (p k.Colon && (p k.Semicolon && (p k.Dot && (p k.Assign && (p k.Plus && (p k.Minus && (p k.Star && (p k.StarStar && (p k.Slash && (p k.SlashSlash && (p k.Percent && (p k.Ampersand && (p k.Pipe && (p k.Caret && (p k.Tilde && (p k.LessLess && (p k.GreaterGreater && (p k.Less && (p k.Greater && (p k.LessEqual && (p k.GreaterEqual && (p k.EqualEqual && (p k.NotEqual && (p k.PlusAssign && (p k.MinusAssign && (p k.StarAssign && (p k.SlashAssign && (p k.SlashSlashAssign && (p k.PercentAssign && (p k.AmpersandAssign && (p k.PipeAssign && (p k.CaretAssign && (p k.LessLessAssign && (p k.GreaterGreaterAssign && (p k.And && (p k.Break && (p k.Continue && (p k.Def && (p k.Elif && (p k.Else && (p k.For && (p k.If && (p k.In && (p k.Lambda && (p k.Load && (p k.Not && (p k.Or && (p k.Pass && (p k.Return && (p k.Reserved)))))))))))))))))))))))))))))))))))))))))))))))))))))))))) from_4

  from_6 : (p k.LeftParen && (p k.RightParen && (p k.LeftBracket && (p k.RightBracket && (p k.LeftBrace && (p k.RightBrace && (p k.Comma && (p k.Colon && (p k.Semicolon && (p k.Dot && (p k.Assign && (p k.Plus && (p k.Minus && (p k.Star && (p k.StarStar && (p k.Slash && (p k.SlashSlash && (p k.Percent && (p k.Ampersand && (p k.Pipe && (p k.Caret && (p k.Tilde && (p k.LessLess && (p k.GreaterGreater && (p k.Less && (p k.Greater && (p k.LessEqual && (p k.GreaterEqual && (p k.EqualEqual && (p k.NotEqual && (p k.PlusAssign && (p k.MinusAssign && (p k.StarAssign && (p k.SlashAssign && (p k.SlashSlashAssign && (p k.PercentAssign && (p k.AmpersandAssign && (p k.PipeAssign && (p k.CaretAssign && (p k.LessLessAssign && (p k.GreaterGreaterAssign && (p k.And && (p k.Break && (p k.Continue && (p k.Def && (p k.Elif && (p k.Else && (p k.For && (p k.If && (p k.In && (p k.Lambda && (p k.Load && (p k.Not && (p k.Or && (p k.Pass && (p k.Return && (p k.Reserved))))))))))))))))))))))))))))))))))))))))))))))))))))))))) ≡ true
  from_6 = others_hold (p k.String) (p k.LeftParen && (p k.RightParen && (p k.LeftBracket && (p k.RightBracket && (p k.LeftBrace && (p k.RightBrace && (p k.Comma && (p k.Colon && (p k.Semicolon && (p k.Dot && (p k.Assign && (p k.Plus && (p k.Minus && (p k.Star && (p k.StarStar && (p k.Slash && (p k.SlashSlash && (p k.Percent && (p k.Ampersand && (p k.Pipe && (p k.Caret && (p k.Tilde && (p k.LessLess && (p k.GreaterGreater && (p k.Less && (p k.Greater && (p k.LessEqual && (p k.GreaterEqual && (p k.EqualEqual && (p k.NotEqual && (p k.PlusAssign && (p k.MinusAssign && (p k.StarAssign && (p k.SlashAssign && (p k.SlashSlashAssign && (p k.PercentAssign && (p k.AmpersandAssign && (p k.PipeAssign && (p k.CaretAssign && (p k.LessLessAssign && (p k.GreaterGreaterAssign && (p k.And && (p k.Break && (p k.Continue && (p k.Def && (p k.Elif && (p k.Else && (p k.For && (p k.If && (p k.In && (p k.Lambda && (p k.Load && (p k.Not && (p k.Or && (p k.Pass && (p k.Return && (p k.Reserved))))))))))))))))))))))))))))))))))))))))))))))))))))))))) from_5

  from_7 : (p k.RightParen && (p k.LeftBracket && (p k.RightBracket && (p k.LeftBrace && (p k.RightBrace && (p k.Comma && (p k.Colon && (p k.Semicolon && (p k.Dot && (p k.Assign && (p k.Plus && (p k.Minus && (p k.Star && (p k.StarStar && (p k.Slash && (p k.SlashSlash && (p k.Percent && (p k.Ampersand && (p k.Pipe && (p k.Caret && (p k.Tilde && (p k.LessLess && (p k.GreaterGreater && (p k.Less && (p k.Greater && (p k.LessEqual && (p k.GreaterEqual && (p k.EqualEqual && (p k.NotEqual && (p k.PlusAssign && (p k.MinusAssign && (p k.StarAssign && (p k.SlashAssign && (p k.SlashSlashAssign && (p k.PercentAssign && (p k.AmpersandAssign && (p k.PipeAssign && (p k.CaretAssign && (p k.LessLessAssign && (p k.GreaterGreaterAssign && (p k.And && (p k.Break && (p k.Continue && (p k.Def && (p k.Elif && (p k.Else && (p k.For && (p k.If && (p k.In && (p k.Lambda && (p k.Load && (p k.Not && (p k.Or && (p k.Pass && (p k.Return && (p k.Reserved)))))))))))))))))))))))))))))))))))))))))))))))))))))))) ≡ true
  from_7 = others_hold (p k.LeftParen) (p k.RightParen && (p k.LeftBracket && (p k.RightBracket && (p k.LeftBrace && (p k.RightBrace && (p k.Comma && (p k.Colon && (p k.Semicolon && (p k.Dot && (p k.Assign && (p k.Plus && (p k.Minus && (p k.Star && (p k.StarStar && (p k.Slash && (p k.SlashSlash && (p k.Percent && (p k.Ampersand && (p k.Pipe && (p k.Caret && (p k.Tilde && (p k.LessLess && (p k.GreaterGreater && (p k.Less && (p k.Greater && (p k.LessEqual && (p k.GreaterEqual && (p k.EqualEqual && (p k.NotEqual && (p k.PlusAssign && (p k.MinusAssign && (p k.StarAssign && (p k.SlashAssign && (p k.SlashSlashAssign && (p k.PercentAssign && (p k.AmpersandAssign && (p k.PipeAssign && (p k.CaretAssign && (p k.LessLessAssign && (p k.GreaterGreaterAssign && (p k.And && (p k.Break && (p k.Continue && (p k.Def && (p k.Elif && (p k.Else && (p k.For && (p k.If && (p k.In && (p k.Lambda && (p k.Load && (p k.Not && (p k.Or && (p k.Pass && (p k.Return && (p k.Reserved)))))))))))))))))))))))))))))))))))))))))))))))))))))))) from_6

  from_8 : (p k.LeftBracket && (p k.RightBracket && (p k.LeftBrace && (p k.RightBrace && (p k.Comma && (p k.Colon && (p k.Semicolon && (p k.Dot && (p k.Assign && (p k.Plus && (p k.Minus && (p k.Star && (p k.StarStar && (p k.Slash && (p k.SlashSlash && (p k.Percent && (p k.Ampersand && (p k.Pipe && (p k.Caret && (p k.Tilde && (p k.LessLess && (p k.GreaterGreater && (p k.Less && (p k.Greater && (p k.LessEqual && (p k.GreaterEqual && (p k.EqualEqual && (p k.NotEqual && (p k.PlusAssign && (p k.MinusAssign && (p k.StarAssign && (p k.SlashAssign && (p k.SlashSlashAssign && (p k.PercentAssign && (p k.AmpersandAssign && (p k.PipeAssign && (p k.CaretAssign && (p k.LessLessAssign && (p k.GreaterGreaterAssign && (p k.And && (p k.Break && (p k.Continue && (p k.Def && (p k.Elif && (p k.Else && (p k.For && (p k.If && (p k.In && (p k.Lambda && (p k.Load && (p k.Not && (p k.Or && (p k.Pass && (p k.Return && (p k.Reserved))))))))))))))))))))))))))))))))))))))))))))))))))))))) ≡ true
  from_8 = others_hold (p k.RightParen) (p k.LeftBracket && (p k.RightBracket && (p k.LeftBrace && (p k.RightBrace && (p k.Comma && (p k.Colon && (p k.Semicolon && (p k.Dot && (p k.Assign && (p k.Plus && (p k.Minus && (p k.Star && (p k.StarStar && (p k.Slash && (p k.SlashSlash && (p k.Percent && (p k.Ampersand && (p k.Pipe && (p k.Caret && (p k.Tilde && (p k.LessLess && (p k.GreaterGreater && (p k.Less && (p k.Greater && (p k.LessEqual && (p k.GreaterEqual && (p k.EqualEqual && (p k.NotEqual && (p k.PlusAssign && (p k.MinusAssign && (p k.StarAssign && (p k.SlashAssign && (p k.SlashSlashAssign && (p k.PercentAssign && (p k.AmpersandAssign && (p k.PipeAssign && (p k.CaretAssign && (p k.LessLessAssign && (p k.GreaterGreaterAssign && (p k.And && (p k.Break && (p k.Continue && (p k.Def && (p k.Elif && (p k.Else && (p k.For && (p k.If && (p k.In && (p k.Lambda && (p k.Load && (p k.Not && (p k.Or && (p k.Pass && (p k.Return && (p k.Reserved))))))))))))))))))))))))))))))))))))))))))))))))))))))) from_7

  from_9 : (p k.RightBracket && (p k.LeftBrace && (p k.RightBrace && (p k.Comma && (p k.Colon && (p k.Semicolon && (p k.Dot && (p k.Assign && (p k.Plus && (p k.Minus && (p k.Star && (p k.StarStar && (p k.Slash && (p k.SlashSlash && (p k.Percent && (p k.Ampersand && (p k.Pipe && (p k.Caret && (p k.Tilde && (p k.LessLess && (p k.GreaterGreater && (p k.Less && (p k.Greater && (p k.LessEqual && (p k.GreaterEqual && (p k.EqualEqual && (p k.NotEqual && (p k.PlusAssign && (p k.MinusAssign && (p k.StarAssign && (p k.SlashAssign && (p k.SlashSlashAssign && (p k.PercentAssign && (p k.AmpersandAssign && (p k.PipeAssign && (p k.CaretAssign && (p k.LessLessAssign && (p k.GreaterGreaterAssign && (p k.And && (p k.Break && (p k.Continue && (p k.Def && (p k.Elif && (p k.Else && (p k.For && (p k.If && (p k.In && (p k.Lambda && (p k.Load && (p k.Not && (p k.Or && (p k.Pass && (p k.Return && (p k.Reserved)))))))))))))))))))))))))))))))))))))))))))))))))))))) ≡ true
  from_9 = others_hold (p k.LeftBracket) (p k.RightBracket && (p k.LeftBrace && (p k.RightBrace && (p k.Comma && (p k.Colon && (p k.Semicolon && (p k.Dot && (p k.Assign && (p k.Plus && (p k.Minus && (p k.Star && (p k.StarStar && (p k.Slash && (p k.SlashSlash && (p k.Percent && (p k.Ampersand && (p k.Pipe && (p k.Caret && (p k.Tilde && (p k.LessLess && (p k.GreaterGreater && (p k.Less && (p k.Greater && (p k.LessEqual && (p k.GreaterEqual && (p k.EqualEqual && (p k.NotEqual && (p k.PlusAssign && (p k.MinusAssign && (p k.StarAssign && (p k.SlashAssign && (p k.SlashSlashAssign && (p k.PercentAssign && (p k.AmpersandAssign && (p k.PipeAssign && (p k.CaretAssign && (p k.LessLessAssign && (p k.GreaterGreaterAssign && (p k.And && (p k.Break && (p k.Continue && (p k.Def && (p k.Elif && (p k.Else && (p k.For && (p k.If && (p k.In && (p k.Lambda && (p k.Load && (p k.Not && (p k.Or && (p k.Pass && (p k.Return && (p k.Reserved)))))))))))))))))))))))))))))))))))))))))))))))))))))) from_8

  from_10 : (p k.LeftBrace && (p k.RightBrace && (p k.Comma && (p k.Colon && (p k.Semicolon && (p k.Dot && (p k.Assign && (p k.Plus && (p k.Minus && (p k.Star && (p k.StarStar && (p k.Slash && (p k.SlashSlash && (p k.Percent && (p k.Ampersand && (p k.Pipe && (p k.Caret && (p k.Tilde && (p k.LessLess && (p k.GreaterGreater && (p k.Less && (p k.Greater && (p k.LessEqual && (p k.GreaterEqual && (p k.EqualEqual && (p k.NotEqual && (p k.PlusAssign && (p k.MinusAssign && (p k.StarAssign && (p k.SlashAssign && (p k.SlashSlashAssign && (p k.PercentAssign && (p k.AmpersandAssign && (p k.PipeAssign && (p k.CaretAssign && (p k.LessLessAssign && (p k.GreaterGreaterAssign && (p k.And && (p k.Break && (p k.Continue && (p k.Def && (p k.Elif && (p k.Else && (p k.For && (p k.If && (p k.In && (p k.Lambda && (p k.Load && (p k.Not && (p k.Or && (p k.Pass && (p k.Return && (p k.Reserved))))))))))))))))))))))))))))))))))))))))))))))))))))) ≡ true
  from_10 = others_hold (p k.RightBracket) (p k.LeftBrace && (p k.RightBrace && (p k.Comma && (p k.Colon && (p k.Semicolon && (p k.Dot && (p k.Assign && (p k.Plus && (p k.Minus && (p k.Star && (p k.StarStar && (p k.Slash && (p k.SlashSlash && (p k.Percent && (p k.Ampersand && (p k.Pipe && (p k.Caret && (p k.Tilde && (p k.LessLess && (p k.GreaterGreater && (p k.Less && (p k.Greater && (p k.LessEqual && (p k.GreaterEqual && (p k.EqualEqual && (p k.NotEqual && (p k.PlusAssign && (p k.MinusAssign && (p k.StarAssign && (p k.SlashAssign && (p k.SlashSlashAssign && (p k.PercentAssign && (p k.AmpersandAssign && (p k.PipeAssign && (p k.CaretAssign && (p k.LessLessAssign && (p k.GreaterGreaterAssign && (p k.And && (p k.Break && (p k.Continue && (p k.Def && (p k.Elif && (p k.Else && (p k.For && (p k.If && (p k.In && (p k.Lambda && (p k.Load && (p k.Not && (p k.Or && (p k.Pass && (p k.Return && (p k.Reserved))))))))))))))))))))))))))))))))))))))))))))))))))))) from_9

  from_11 : (p k.RightBrace && (p k.Comma && (p k.Colon && (p k.Semicolon && (p k.Dot && (p k.Assign && (p k.Plus && (p k.Minus && (p k.Star && (p k.StarStar && (p k.Slash && (p k.SlashSlash && (p k.Percent && (p k.Ampersand && (p k.Pipe && (p k.Caret && (p k.Tilde && (p k.LessLess && (p k.GreaterGreater && (p k.Less && (p k.Greater && (p k.LessEqual && (p k.GreaterEqual && (p k.EqualEqual && (p k.NotEqual && (p k.PlusAssign && (p k.MinusAssign && (p k.StarAssign && (p k.SlashAssign && (p k.SlashSlashAssign && (p k.PercentAssign && (p k.AmpersandAssign && (p k.PipeAssign && (p k.CaretAssign && (p k.LessLessAssign && (p k.GreaterGreaterAssign && (p k.And && (p k.Break && (p k.Continue && (p k.Def && (p k.Elif && (p k.Else && (p k.For && (p k.If && (p k.In && (p k.Lambda && (p k.Load && (p k.Not && (p k.Or && (p k.Pass && (p k.Return && (p k.Reserved)))))))))))))))))))))))))))))))))))))))))))))))))))) ≡ true
  from_11 = others_hold (p k.LeftBrace) (p k.RightBrace && (p k.Comma && (p k.Colon && (p k.Semicolon && (p k.Dot && (p k.Assign && (p k.Plus && (p k.Minus && (p k.Star && (p k.StarStar && (p k.Slash && (p k.SlashSlash && (p k.Percent && (p k.Ampersand && (p k.Pipe && (p k.Caret && (p k.Tilde && (p k.LessLess && (p k.GreaterGreater && (p k.Less && (p k.Greater && (p k.LessEqual && (p k.GreaterEqual && (p k.EqualEqual && (p k.NotEqual && (p k.PlusAssign && (p k.MinusAssign && (p k.StarAssign && (p k.SlashAssign && (p k.SlashSlashAssign && (p k.PercentAssign && (p k.AmpersandAssign && (p k.PipeAssign && (p k.CaretAssign && (p k.LessLessAssign && (p k.GreaterGreaterAssign && (p k.And && (p k.Break && (p k.Continue && (p k.Def && (p k.Elif && (p k.Else && (p k.For && (p k.If && (p k.In && (p k.Lambda && (p k.Load && (p k.Not && (p k.Or && (p k.Pass && (p k.Return && (p k.Reserved)))))))))))))))))))))))))))))))))))))))))))))))))))) from_10

  from_12 : (p k.Comma && (p k.Colon && (p k.Semicolon && (p k.Dot && (p k.Assign && (p k.Plus && (p k.Minus && (p k.Star && (p k.StarStar && (p k.Slash && (p k.SlashSlash && (p k.Percent && (p k.Ampersand && (p k.Pipe && (p k.Caret && (p k.Tilde && (p k.LessLess && (p k.GreaterGreater && (p k.Less && (p k.Greater && (p k.LessEqual && (p k.GreaterEqual && (p k.EqualEqual && (p k.NotEqual && (p k.PlusAssign && (p k.MinusAssign && (p k.StarAssign && (p k.SlashAssign && (p k.SlashSlashAssign && (p k.PercentAssign && (p k.AmpersandAssign && (p k.PipeAssign && (p k.CaretAssign && (p k.LessLessAssign && (p k.GreaterGreaterAssign && (p k.And && (p k.Break && (p k.Continue && (p k.Def && (p k.Elif && (p k.Else && (p k.For && (p k.If && (p k.In && (p k.Lambda && (p k.Load && (p k.Not && (p k.Or && (p k.Pass && (p k.Return && (p k.Reserved))))))))))))))))))))))))))))))))))))))))))))))))))) ≡ true
  from_12 = others_hold (p k.RightBrace) (p k.Comma && (p k.Colon && (p k.Semicolon && (p k.Dot && (p k.Assign && (p k.Plus && (p k.Minus && (p k.Star && (p k.StarStar && (p k.Slash && (p k.SlashSlash && (p k.Percent && (p k.Ampersand && (p k.Pipe && (p k.Caret && (p k.Tilde && (p k.LessLess && (p k.GreaterGreater && (p k.Less && (p k.Greater && (p k.LessEqual && (p k.GreaterEqual && (p k.EqualEqual && (p k.NotEqual && (p k.PlusAssign && (p k.MinusAssign && (p k.StarAssign && (p k.SlashAssign && (p k.SlashSlashAssign && (p k.PercentAssign && (p k.AmpersandAssign && (p k.PipeAssign && (p k.CaretAssign && (p k.LessLessAssign && (p k.GreaterGreaterAssign && (p k.And && (p k.Break && (p k.Continue && (p k.Def && (p k.Elif && (p k.Else && (p k.For && (p k.If && (p k.In && (p k.Lambda && (p k.Load && (p k.Not && (p k.Or && (p k.Pass && (p k.Return && (p k.Reserved))))))))))))))))))))))))))))))))))))))))))))))))))) from_11

  from_13 : (p k.Colon && (p k.Semicolon && (p k.Dot && (p k.Assign && (p k.Plus && (p k.Minus && (p k.Star && (p k.StarStar && (p k.Slash && (p k.SlashSlash && (p k.Percent && (p k.Ampersand && (p k.Pipe && (p k.Caret && (p k.Tilde && (p k.LessLess && (p k.GreaterGreater && (p k.Less && (p k.Greater && (p k.LessEqual && (p k.GreaterEqual && (p k.EqualEqual && (p k.NotEqual && (p k.PlusAssign && (p k.MinusAssign && (p k.StarAssign && (p k.SlashAssign && (p k.SlashSlashAssign && (p k.PercentAssign && (p k.AmpersandAssign && (p k.PipeAssign && (p k.CaretAssign && (p k.LessLessAssign && (p k.GreaterGreaterAssign && (p k.And && (p k.Break && (p k.Continue && (p k.Def && (p k.Elif && (p k.Else && (p k.For && (p k.If && (p k.In && (p k.Lambda && (p k.Load && (p k.Not && (p k.Or && (p k.Pass && (p k.Return && (p k.Reserved)))))))))))))))))))))))))))))))))))))))))))))))))) ≡ true
  from_13 = others_hold (p k.Comma) (p k.Colon && (p k.Semicolon && (p k.Dot && (p k.Assign && (p k.Plus && (p k.Minus && (p k.Star && (p k.StarStar && (p k.Slash && (p k.SlashSlash && (p k.Percent && (p k.Ampersand && (p k.Pipe && (p k.Caret && (p k.Tilde && (p k.LessLess && (p k.GreaterGreater && (p k.Less && (p k.Greater && (p k.LessEqual && (p k.GreaterEqual && (p k.EqualEqual && (p k.NotEqual && (p k.PlusAssign && (p k.MinusAssign && (p k.StarAssign && (p k.SlashAssign && (p k.SlashSlashAssign && (p k.PercentAssign && (p k.AmpersandAssign && (p k.PipeAssign && (p k.CaretAssign && (p k.LessLessAssign && (p k.GreaterGreaterAssign && (p k.And && (p k.Break && (p k.Continue && (p k.Def && (p k.Elif && (p k.Else && (p k.For && (p k.If && (p k.In && (p k.Lambda && (p k.Load && (p k.Not && (p k.Or && (p k.Pass && (p k.Return && (p k.Reserved)))))))))))))))))))))))))))))))))))))))))))))))))) from_12

  from_14 : (p k.Semicolon && (p k.Dot && (p k.Assign && (p k.Plus && (p k.Minus && (p k.Star && (p k.StarStar && (p k.Slash && (p k.SlashSlash && (p k.Percent && (p k.Ampersand && (p k.Pipe && (p k.Caret && (p k.Tilde && (p k.LessLess && (p k.GreaterGreater && (p k.Less && (p k.Greater && (p k.LessEqual && (p k.GreaterEqual && (p k.EqualEqual && (p k.NotEqual && (p k.PlusAssign && (p k.MinusAssign && (p k.StarAssign && (p k.SlashAssign && (p k.SlashSlashAssign && (p k.PercentAssign && (p k.AmpersandAssign && (p k.PipeAssign && (p k.CaretAssign && (p k.LessLessAssign && (p k.GreaterGreaterAssign && (p k.And && (p k.Break && (p k.Continue && (p k.Def && (p k.Elif && (p k.Else && (p k.For && (p k.If && (p k.In && (p k.Lambda && (p k.Load && (p k.Not && (p k.Or && (p k.Pass && (p k.Return && (p k.Reserved))))))))))))))))))))))))))))))))))))))))))))))))) ≡ true
  from_14 = others_hold (p k.Colon) (p k.Semicolon && (p k.Dot && (p k.Assign && (p k.Plus && (p k.Minus && (p k.Star && (p k.StarStar && (p k.Slash && (p k.SlashSlash && (p k.Percent && (p k.Ampersand && (p k.Pipe && (p k.Caret && (p k.Tilde && (p k.LessLess && (p k.GreaterGreater && (p k.Less && (p k.Greater && (p k.LessEqual && (p k.GreaterEqual && (p k.EqualEqual && (p k.NotEqual && (p k.PlusAssign && (p k.MinusAssign && (p k.StarAssign && (p k.SlashAssign && (p k.SlashSlashAssign && (p k.PercentAssign && (p k.AmpersandAssign && (p k.PipeAssign && (p k.CaretAssign && (p k.LessLessAssign && (p k.GreaterGreaterAssign && (p k.And && (p k.Break && (p k.Continue && (p k.Def && (p k.Elif && (p k.Else && (p k.For && (p k.If && (p k.In && (p k.Lambda && (p k.Load && (p k.Not && (p k.Or && (p k.Pass && (p k.Return && (p k.Reserved))))))))))))))))))))))))))))))))))))))))))))))))) from_13

  from_15 : (p k.Dot && (p k.Assign && (p k.Plus && (p k.Minus && (p k.Star && (p k.StarStar && (p k.Slash && (p k.SlashSlash && (p k.Percent && (p k.Ampersand && (p k.Pipe && (p k.Caret && (p k.Tilde && (p k.LessLess && (p k.GreaterGreater && (p k.Less && (p k.Greater && (p k.LessEqual && (p k.GreaterEqual && (p k.EqualEqual && (p k.NotEqual && (p k.PlusAssign && (p k.MinusAssign && (p k.StarAssign && (p k.SlashAssign && (p k.SlashSlashAssign && (p k.PercentAssign && (p k.AmpersandAssign && (p k.PipeAssign && (p k.CaretAssign && (p k.LessLessAssign && (p k.GreaterGreaterAssign && (p k.And && (p k.Break && (p k.Continue && (p k.Def && (p k.Elif && (p k.Else && (p k.For && (p k.If && (p k.In && (p k.Lambda && (p k.Load && (p k.Not && (p k.Or && (p k.Pass && (p k.Return && (p k.Reserved)))))))))))))))))))))))))))))))))))))))))))))))) ≡ true
  from_15 = others_hold (p k.Semicolon) (p k.Dot && (p k.Assign && (p k.Plus && (p k.Minus && (p k.Star && (p k.StarStar && (p k.Slash && (p k.SlashSlash && (p k.Percent && (p k.Ampersand && (p k.Pipe && (p k.Caret && (p k.Tilde && (p k.LessLess && (p k.GreaterGreater && (p k.Less && (p k.Greater && (p k.LessEqual && (p k.GreaterEqual && (p k.EqualEqual && (p k.NotEqual && (p k.PlusAssign && (p k.MinusAssign && (p k.StarAssign && (p k.SlashAssign && (p k.SlashSlashAssign && (p k.PercentAssign && (p k.AmpersandAssign && (p k.PipeAssign && (p k.CaretAssign && (p k.LessLessAssign && (p k.GreaterGreaterAssign && (p k.And && (p k.Break && (p k.Continue && (p k.Def && (p k.Elif && (p k.Else && (p k.For && (p k.If && (p k.In && (p k.Lambda && (p k.Load && (p k.Not && (p k.Or && (p k.Pass && (p k.Return && (p k.Reserved)))))))))))))))))))))))))))))))))))))))))))))))) from_14

  from_16 : (p k.Assign && (p k.Plus && (p k.Minus && (p k.Star && (p k.StarStar && (p k.Slash && (p k.SlashSlash && (p k.Percent && (p k.Ampersand && (p k.Pipe && (p k.Caret && (p k.Tilde && (p k.LessLess && (p k.GreaterGreater && (p k.Less && (p k.Greater && (p k.LessEqual && (p k.GreaterEqual && (p k.EqualEqual && (p k.NotEqual && (p k.PlusAssign && (p k.MinusAssign && (p k.StarAssign && (p k.SlashAssign && (p k.SlashSlashAssign && (p k.PercentAssign && (p k.AmpersandAssign && (p k.PipeAssign && (p k.CaretAssign && (p k.LessLessAssign && (p k.GreaterGreaterAssign && (p k.And && (p k.Break && (p k.Continue && (p k.Def && (p k.Elif && (p k.Else && (p k.For && (p k.If && (p k.In && (p k.Lambda && (p k.Load && (p k.Not && (p k.Or && (p k.Pass && (p k.Return && (p k.Reserved))))))))))))))))))))))))))))))))))))))))))))))) ≡ true
  from_16 = others_hold (p k.Dot) (p k.Assign && (p k.Plus && (p k.Minus && (p k.Star && (p k.StarStar && (p k.Slash && (p k.SlashSlash && (p k.Percent && (p k.Ampersand && (p k.Pipe && (p k.Caret && (p k.Tilde && (p k.LessLess && (p k.GreaterGreater && (p k.Less && (p k.Greater && (p k.LessEqual && (p k.GreaterEqual && (p k.EqualEqual && (p k.NotEqual && (p k.PlusAssign && (p k.MinusAssign && (p k.StarAssign && (p k.SlashAssign && (p k.SlashSlashAssign && (p k.PercentAssign && (p k.AmpersandAssign && (p k.PipeAssign && (p k.CaretAssign && (p k.LessLessAssign && (p k.GreaterGreaterAssign && (p k.And && (p k.Break && (p k.Continue && (p k.Def && (p k.Elif && (p k.Else && (p k.For && (p k.If && (p k.In && (p k.Lambda && (p k.Load && (p k.Not && (p k.Or && (p k.Pass && (p k.Return && (p k.Reserved))))))))))))))))))))))))))))))))))))))))))))))) from_15

  from_17 : (p k.Plus && (p k.Minus && (p k.Star && (p k.StarStar && (p k.Slash && (p k.SlashSlash && (p k.Percent && (p k.Ampersand && (p k.Pipe && (p k.Caret && (p k.Tilde && (p k.LessLess && (p k.GreaterGreater && (p k.Less && (p k.Greater && (p k.LessEqual && (p k.GreaterEqual && (p k.EqualEqual && (p k.NotEqual && (p k.PlusAssign && (p k.MinusAssign && (p k.StarAssign && (p k.SlashAssign && (p k.SlashSlashAssign && (p k.PercentAssign && (p k.AmpersandAssign && (p k.PipeAssign && (p k.CaretAssign && (p k.LessLessAssign && (p k.GreaterGreaterAssign && (p k.And && (p k.Break && (p k.Continue && (p k.Def && (p k.Elif && (p k.Else && (p k.For && (p k.If && (p k.In && (p k.Lambda && (p k.Load && (p k.Not && (p k.Or && (p k.Pass && (p k.Return && (p k.Reserved)))))))))))))))))))))))))))))))))))))))))))))) ≡ true
  from_17 = others_hold (p k.Assign) (p k.Plus && (p k.Minus && (p k.Star && (p k.StarStar && (p k.Slash && (p k.SlashSlash && (p k.Percent && (p k.Ampersand && (p k.Pipe && (p k.Caret && (p k.Tilde && (p k.LessLess && (p k.GreaterGreater && (p k.Less && (p k.Greater && (p k.LessEqual && (p k.GreaterEqual && (p k.EqualEqual && (p k.NotEqual && (p k.PlusAssign && (p k.MinusAssign && (p k.StarAssign && (p k.SlashAssign && (p k.SlashSlashAssign && (p k.PercentAssign && (p k.AmpersandAssign && (p k.PipeAssign && (p k.CaretAssign && (p k.LessLessAssign && (p k.GreaterGreaterAssign && (p k.And && (p k.Break && (p k.Continue && (p k.Def && (p k.Elif && (p k.Else && (p k.For && (p k.If && (p k.In && (p k.Lambda && (p k.Load && (p k.Not && (p k.Or && (p k.Pass && (p k.Return && (p k.Reserved)))))))))))))))))))))))))))))))))))))))))))))) from_16

  from_18 : (p k.Minus && (p k.Star && (p k.StarStar && (p k.Slash && (p k.SlashSlash && (p k.Percent && (p k.Ampersand && (p k.Pipe && (p k.Caret && (p k.Tilde && (p k.LessLess && (p k.GreaterGreater && (p k.Less && (p k.Greater && (p k.LessEqual && (p k.GreaterEqual && (p k.EqualEqual && (p k.NotEqual && (p k.PlusAssign && (p k.MinusAssign && (p k.StarAssign && (p k.SlashAssign && (p k.SlashSlashAssign && (p k.PercentAssign && (p k.AmpersandAssign && (p k.PipeAssign && (p k.CaretAssign && (p k.LessLessAssign && (p k.GreaterGreaterAssign && (p k.And && (p k.Break && (p k.Continue && (p k.Def && (p k.Elif && (p k.Else && (p k.For && (p k.If && (p k.In && (p k.Lambda && (p k.Load && (p k.Not && (p k.Or && (p k.Pass && (p k.Return && (p k.Reserved))))))))))))))))))))))))))))))))))))))))))))) ≡ true
  from_18 = others_hold (p k.Plus) (p k.Minus && (p k.Star && (p k.StarStar && (p k.Slash && (p k.SlashSlash && (p k.Percent && (p k.Ampersand && (p k.Pipe && (p k.Caret && (p k.Tilde && (p k.LessLess && (p k.GreaterGreater && (p k.Less && (p k.Greater && (p k.LessEqual && (p k.GreaterEqual && (p k.EqualEqual && (p k.NotEqual && (p k.PlusAssign && (p k.MinusAssign && (p k.StarAssign && (p k.SlashAssign && (p k.SlashSlashAssign && (p k.PercentAssign && (p k.AmpersandAssign && (p k.PipeAssign && (p k.CaretAssign && (p k.LessLessAssign && (p k.GreaterGreaterAssign && (p k.And && (p k.Break && (p k.Continue && (p k.Def && (p k.Elif && (p k.Else && (p k.For && (p k.If && (p k.In && (p k.Lambda && (p k.Load && (p k.Not && (p k.Or && (p k.Pass && (p k.Return && (p k.Reserved))))))))))))))))))))))))))))))))))))))))))))) from_17

  from_19 : (p k.Star && (p k.StarStar && (p k.Slash && (p k.SlashSlash && (p k.Percent && (p k.Ampersand && (p k.Pipe && (p k.Caret && (p k.Tilde && (p k.LessLess && (p k.GreaterGreater && (p k.Less && (p k.Greater && (p k.LessEqual && (p k.GreaterEqual && (p k.EqualEqual && (p k.NotEqual && (p k.PlusAssign && (p k.MinusAssign && (p k.StarAssign && (p k.SlashAssign && (p k.SlashSlashAssign && (p k.PercentAssign && (p k.AmpersandAssign && (p k.PipeAssign && (p k.CaretAssign && (p k.LessLessAssign && (p k.GreaterGreaterAssign && (p k.And && (p k.Break && (p k.Continue && (p k.Def && (p k.Elif && (p k.Else && (p k.For && (p k.If && (p k.In && (p k.Lambda && (p k.Load && (p k.Not && (p k.Or && (p k.Pass && (p k.Return && (p k.Reserved)))))))))))))))))))))))))))))))))))))))))))) ≡ true
  from_19 = others_hold (p k.Minus) (p k.Star && (p k.StarStar && (p k.Slash && (p k.SlashSlash && (p k.Percent && (p k.Ampersand && (p k.Pipe && (p k.Caret && (p k.Tilde && (p k.LessLess && (p k.GreaterGreater && (p k.Less && (p k.Greater && (p k.LessEqual && (p k.GreaterEqual && (p k.EqualEqual && (p k.NotEqual && (p k.PlusAssign && (p k.MinusAssign && (p k.StarAssign && (p k.SlashAssign && (p k.SlashSlashAssign && (p k.PercentAssign && (p k.AmpersandAssign && (p k.PipeAssign && (p k.CaretAssign && (p k.LessLessAssign && (p k.GreaterGreaterAssign && (p k.And && (p k.Break && (p k.Continue && (p k.Def && (p k.Elif && (p k.Else && (p k.For && (p k.If && (p k.In && (p k.Lambda && (p k.Load && (p k.Not && (p k.Or && (p k.Pass && (p k.Return && (p k.Reserved)))))))))))))))))))))))))))))))))))))))))))) from_18

  from_20 : (p k.StarStar && (p k.Slash && (p k.SlashSlash && (p k.Percent && (p k.Ampersand && (p k.Pipe && (p k.Caret && (p k.Tilde && (p k.LessLess && (p k.GreaterGreater && (p k.Less && (p k.Greater && (p k.LessEqual && (p k.GreaterEqual && (p k.EqualEqual && (p k.NotEqual && (p k.PlusAssign && (p k.MinusAssign && (p k.StarAssign && (p k.SlashAssign && (p k.SlashSlashAssign && (p k.PercentAssign && (p k.AmpersandAssign && (p k.PipeAssign && (p k.CaretAssign && (p k.LessLessAssign && (p k.GreaterGreaterAssign && (p k.And && (p k.Break && (p k.Continue && (p k.Def && (p k.Elif && (p k.Else && (p k.For && (p k.If && (p k.In && (p k.Lambda && (p k.Load && (p k.Not && (p k.Or && (p k.Pass && (p k.Return && (p k.Reserved))))))))))))))))))))))))))))))))))))))))))) ≡ true
  from_20 = others_hold (p k.Star) (p k.StarStar && (p k.Slash && (p k.SlashSlash && (p k.Percent && (p k.Ampersand && (p k.Pipe && (p k.Caret && (p k.Tilde && (p k.LessLess && (p k.GreaterGreater && (p k.Less && (p k.Greater && (p k.LessEqual && (p k.GreaterEqual && (p k.EqualEqual && (p k.NotEqual && (p k.PlusAssign && (p k.MinusAssign && (p k.StarAssign && (p k.SlashAssign && (p k.SlashSlashAssign && (p k.PercentAssign && (p k.AmpersandAssign && (p k.PipeAssign && (p k.CaretAssign && (p k.LessLessAssign && (p k.GreaterGreaterAssign && (p k.And && (p k.Break && (p k.Continue && (p k.Def && (p k.Elif && (p k.Else && (p k.For && (p k.If && (p k.In && (p k.Lambda && (p k.Load && (p k.Not && (p k.Or && (p k.Pass && (p k.Return && (p k.Reserved))))))))))))))))))))))))))))))))))))))))))) from_19

  from_21 : (p k.Slash && (p k.SlashSlash && (p k.Percent && (p k.Ampersand && (p k.Pipe && (p k.Caret && (p k.Tilde && (p k.LessLess && (p k.GreaterGreater && (p k.Less && (p k.Greater && (p k.LessEqual && (p k.GreaterEqual && (p k.EqualEqual && (p k.NotEqual && (p k.PlusAssign && (p k.MinusAssign && (p k.StarAssign && (p k.SlashAssign && (p k.SlashSlashAssign && (p k.PercentAssign && (p k.AmpersandAssign && (p k.PipeAssign && (p k.CaretAssign && (p k.LessLessAssign && (p k.GreaterGreaterAssign && (p k.And && (p k.Break && (p k.Continue && (p k.Def && (p k.Elif && (p k.Else && (p k.For && (p k.If && (p k.In && (p k.Lambda && (p k.Load && (p k.Not && (p k.Or && (p k.Pass && (p k.Return && (p k.Reserved)))))))))))))))))))))))))))))))))))))))))) ≡ true
  from_21 = others_hold (p k.StarStar) (p k.Slash && (p k.SlashSlash && (p k.Percent && (p k.Ampersand && (p k.Pipe && (p k.Caret && (p k.Tilde && (p k.LessLess && (p k.GreaterGreater && (p k.Less && (p k.Greater && (p k.LessEqual && (p k.GreaterEqual && (p k.EqualEqual && (p k.NotEqual && (p k.PlusAssign && (p k.MinusAssign && (p k.StarAssign && (p k.SlashAssign && (p k.SlashSlashAssign && (p k.PercentAssign && (p k.AmpersandAssign && (p k.PipeAssign && (p k.CaretAssign && (p k.LessLessAssign && (p k.GreaterGreaterAssign && (p k.And && (p k.Break && (p k.Continue && (p k.Def && (p k.Elif && (p k.Else && (p k.For && (p k.If && (p k.In && (p k.Lambda && (p k.Load && (p k.Not && (p k.Or && (p k.Pass && (p k.Return && (p k.Reserved)))))))))))))))))))))))))))))))))))))))))) from_20

  from_22 : (p k.SlashSlash && (p k.Percent && (p k.Ampersand && (p k.Pipe && (p k.Caret && (p k.Tilde && (p k.LessLess && (p k.GreaterGreater && (p k.Less && (p k.Greater && (p k.LessEqual && (p k.GreaterEqual && (p k.EqualEqual && (p k.NotEqual && (p k.PlusAssign && (p k.MinusAssign && (p k.StarAssign && (p k.SlashAssign && (p k.SlashSlashAssign && (p k.PercentAssign && (p k.AmpersandAssign && (p k.PipeAssign && (p k.CaretAssign && (p k.LessLessAssign && (p k.GreaterGreaterAssign && (p k.And && (p k.Break && (p k.Continue && (p k.Def && (p k.Elif && (p k.Else && (p k.For && (p k.If && (p k.In && (p k.Lambda && (p k.Load && (p k.Not && (p k.Or && (p k.Pass && (p k.Return && (p k.Reserved))))))))))))))))))))))))))))))))))))))))) ≡ true
  from_22 = others_hold (p k.Slash) (p k.SlashSlash && (p k.Percent && (p k.Ampersand && (p k.Pipe && (p k.Caret && (p k.Tilde && (p k.LessLess && (p k.GreaterGreater && (p k.Less && (p k.Greater && (p k.LessEqual && (p k.GreaterEqual && (p k.EqualEqual && (p k.NotEqual && (p k.PlusAssign && (p k.MinusAssign && (p k.StarAssign && (p k.SlashAssign && (p k.SlashSlashAssign && (p k.PercentAssign && (p k.AmpersandAssign && (p k.PipeAssign && (p k.CaretAssign && (p k.LessLessAssign && (p k.GreaterGreaterAssign && (p k.And && (p k.Break && (p k.Continue && (p k.Def && (p k.Elif && (p k.Else && (p k.For && (p k.If && (p k.In && (p k.Lambda && (p k.Load && (p k.Not && (p k.Or && (p k.Pass && (p k.Return && (p k.Reserved))))))))))))))))))))))))))))))))))))))))) from_21

  from_23 : (p k.Percent && (p k.Ampersand && (p k.Pipe && (p k.Caret && (p k.Tilde && (p k.LessLess && (p k.GreaterGreater && (p k.Less && (p k.Greater && (p k.LessEqual && (p k.GreaterEqual && (p k.EqualEqual && (p k.NotEqual && (p k.PlusAssign && (p k.MinusAssign && (p k.StarAssign && (p k.SlashAssign && (p k.SlashSlashAssign && (p k.PercentAssign && (p k.AmpersandAssign && (p k.PipeAssign && (p k.CaretAssign && (p k.LessLessAssign && (p k.GreaterGreaterAssign && (p k.And && (p k.Break && (p k.Continue && (p k.Def && (p k.Elif && (p k.Else && (p k.For && (p k.If && (p k.In && (p k.Lambda && (p k.Load && (p k.Not && (p k.Or && (p k.Pass && (p k.Return && (p k.Reserved)))))))))))))))))))))))))))))))))))))))) ≡ true
  from_23 = others_hold (p k.SlashSlash) (p k.Percent && (p k.Ampersand && (p k.Pipe && (p k.Caret && (p k.Tilde && (p k.LessLess && (p k.GreaterGreater && (p k.Less && (p k.Greater && (p k.LessEqual && (p k.GreaterEqual && (p k.EqualEqual && (p k.NotEqual && (p k.PlusAssign && (p k.MinusAssign && (p k.StarAssign && (p k.SlashAssign && (p k.SlashSlashAssign && (p k.PercentAssign && (p k.AmpersandAssign && (p k.PipeAssign && (p k.CaretAssign && (p k.LessLessAssign && (p k.GreaterGreaterAssign && (p k.And && (p k.Break && (p k.Continue && (p k.Def && (p k.Elif && (p k.Else && (p k.For && (p k.If && (p k.In && (p k.Lambda && (p k.Load && (p k.Not && (p k.Or && (p k.Pass && (p k.Return && (p k.Reserved)))))))))))))))))))))))))))))))))))))))) from_22

  from_24 : (p k.Ampersand && (p k.Pipe && (p k.Caret && (p k.Tilde && (p k.LessLess && (p k.GreaterGreater && (p k.Less && (p k.Greater && (p k.LessEqual && (p k.GreaterEqual && (p k.EqualEqual && (p k.NotEqual && (p k.PlusAssign && (p k.MinusAssign && (p k.StarAssign && (p k.SlashAssign && (p k.SlashSlashAssign && (p k.PercentAssign && (p k.AmpersandAssign && (p k.PipeAssign && (p k.CaretAssign && (p k.LessLessAssign && (p k.GreaterGreaterAssign && (p k.And && (p k.Break && (p k.Continue && (p k.Def && (p k.Elif && (p k.Else && (p k.For && (p k.If && (p k.In && (p k.Lambda && (p k.Load && (p k.Not && (p k.Or && (p k.Pass && (p k.Return && (p k.Reserved))))))))))))))))))))))))))))))))))))))) ≡ true
  from_24 = others_hold (p k.Percent) (p k.Ampersand && (p k.Pipe && (p k.Caret && (p k.Tilde && (p k.LessLess && (p k.GreaterGreater && (p k.Less && (p k.Greater && (p k.LessEqual && (p k.GreaterEqual && (p k.EqualEqual && (p k.NotEqual && (p k.PlusAssign && (p k.MinusAssign && (p k.StarAssign && (p k.SlashAssign && (p k.SlashSlashAssign && (p k.PercentAssign && (p k.AmpersandAssign && (p k.PipeAssign && (p k.CaretAssign && (p k.LessLessAssign && (p k.GreaterGreaterAssign && (p k.And && (p k.Break && (p k.Continue && (p k.Def && (p k.Elif && (p k.Else && (p k.For && (p k.If && (p k.In && (p k.Lambda && (p k.Load && (p k.Not && (p k.Or && (p k.Pass && (p k.Return && (p k.Reserved))))))))))))))))))))))))))))))))))))))) from_23

  from_25 : (p k.Pipe && (p k.Caret && (p k.Tilde && (p k.LessLess && (p k.GreaterGreater && (p k.Less && (p k.Greater && (p k.LessEqual && (p k.GreaterEqual && (p k.EqualEqual && (p k.NotEqual && (p k.PlusAssign && (p k.MinusAssign && (p k.StarAssign && (p k.SlashAssign && (p k.SlashSlashAssign && (p k.PercentAssign && (p k.AmpersandAssign && (p k.PipeAssign && (p k.CaretAssign && (p k.LessLessAssign && (p k.GreaterGreaterAssign && (p k.And && (p k.Break && (p k.Continue && (p k.Def && (p k.Elif && (p k.Else && (p k.For && (p k.If && (p k.In && (p k.Lambda && (p k.Load && (p k.Not && (p k.Or && (p k.Pass && (p k.Return && (p k.Reserved)))))))))))))))))))))))))))))))))))))) ≡ true
  from_25 = others_hold (p k.Ampersand) (p k.Pipe && (p k.Caret && (p k.Tilde && (p k.LessLess && (p k.GreaterGreater && (p k.Less && (p k.Greater && (p k.LessEqual && (p k.GreaterEqual && (p k.EqualEqual && (p k.NotEqual && (p k.PlusAssign && (p k.MinusAssign && (p k.StarAssign && (p k.SlashAssign && (p k.SlashSlashAssign && (p k.PercentAssign && (p k.AmpersandAssign && (p k.PipeAssign && (p k.CaretAssign && (p k.LessLessAssign && (p k.GreaterGreaterAssign && (p k.And && (p k.Break && (p k.Continue && (p k.Def && (p k.Elif && (p k.Else && (p k.For && (p k.If && (p k.In && (p k.Lambda && (p k.Load && (p k.Not && (p k.Or && (p k.Pass && (p k.Return && (p k.Reserved)))))))))))))))))))))))))))))))))))))) from_24

  from_26 : (p k.Caret && (p k.Tilde && (p k.LessLess && (p k.GreaterGreater && (p k.Less && (p k.Greater && (p k.LessEqual && (p k.GreaterEqual && (p k.EqualEqual && (p k.NotEqual && (p k.PlusAssign && (p k.MinusAssign && (p k.StarAssign && (p k.SlashAssign && (p k.SlashSlashAssign && (p k.PercentAssign && (p k.AmpersandAssign && (p k.PipeAssign && (p k.CaretAssign && (p k.LessLessAssign && (p k.GreaterGreaterAssign && (p k.And && (p k.Break && (p k.Continue && (p k.Def && (p k.Elif && (p k.Else && (p k.For && (p k.If && (p k.In && (p k.Lambda && (p k.Load && (p k.Not && (p k.Or && (p k.Pass && (p k.Return && (p k.Reserved))))))))))))))))))))))))))))))))))))) ≡ true
  from_26 = others_hold (p k.Pipe) (p k.Caret && (p k.Tilde && (p k.LessLess && (p k.GreaterGreater && (p k.Less && (p k.Greater && (p k.LessEqual && (p k.GreaterEqual && (p k.EqualEqual && (p k.NotEqual && (p k.PlusAssign && (p k.MinusAssign && (p k.StarAssign && (p k.SlashAssign && (p k.SlashSlashAssign && (p k.PercentAssign && (p k.AmpersandAssign && (p k.PipeAssign && (p k.CaretAssign && (p k.LessLessAssign && (p k.GreaterGreaterAssign && (p k.And && (p k.Break && (p k.Continue && (p k.Def && (p k.Elif && (p k.Else && (p k.For && (p k.If && (p k.In && (p k.Lambda && (p k.Load && (p k.Not && (p k.Or && (p k.Pass && (p k.Return && (p k.Reserved))))))))))))))))))))))))))))))))))))) from_25

  from_27 : (p k.Tilde && (p k.LessLess && (p k.GreaterGreater && (p k.Less && (p k.Greater && (p k.LessEqual && (p k.GreaterEqual && (p k.EqualEqual && (p k.NotEqual && (p k.PlusAssign && (p k.MinusAssign && (p k.StarAssign && (p k.SlashAssign && (p k.SlashSlashAssign && (p k.PercentAssign && (p k.AmpersandAssign && (p k.PipeAssign && (p k.CaretAssign && (p k.LessLessAssign && (p k.GreaterGreaterAssign && (p k.And && (p k.Break && (p k.Continue && (p k.Def && (p k.Elif && (p k.Else && (p k.For && (p k.If && (p k.In && (p k.Lambda && (p k.Load && (p k.Not && (p k.Or && (p k.Pass && (p k.Return && (p k.Reserved)))))))))))))))))))))))))))))))))))) ≡ true
  from_27 = others_hold (p k.Caret) (p k.Tilde && (p k.LessLess && (p k.GreaterGreater && (p k.Less && (p k.Greater && (p k.LessEqual && (p k.GreaterEqual && (p k.EqualEqual && (p k.NotEqual && (p k.PlusAssign && (p k.MinusAssign && (p k.StarAssign && (p k.SlashAssign && (p k.SlashSlashAssign && (p k.PercentAssign && (p k.AmpersandAssign && (p k.PipeAssign && (p k.CaretAssign && (p k.LessLessAssign && (p k.GreaterGreaterAssign && (p k.And && (p k.Break && (p k.Continue && (p k.Def && (p k.Elif && (p k.Else && (p k.For && (p k.If && (p k.In && (p k.Lambda && (p k.Load && (p k.Not && (p k.Or && (p k.Pass && (p k.Return && (p k.Reserved)))))))))))))))))))))))))))))))))))) from_26

  from_28 : (p k.LessLess && (p k.GreaterGreater && (p k.Less && (p k.Greater && (p k.LessEqual && (p k.GreaterEqual && (p k.EqualEqual && (p k.NotEqual && (p k.PlusAssign && (p k.MinusAssign && (p k.StarAssign && (p k.SlashAssign && (p k.SlashSlashAssign && (p k.PercentAssign && (p k.AmpersandAssign && (p k.PipeAssign && (p k.CaretAssign && (p k.LessLessAssign && (p k.GreaterGreaterAssign && (p k.And && (p k.Break && (p k.Continue && (p k.Def && (p k.Elif && (p k.Else && (p k.For && (p k.If && (p k.In && (p k.Lambda && (p k.Load && (p k.Not && (p k.Or && (p k.Pass && (p k.Return && (p k.Reserved))))))))))))))))))))))))))))))))))) ≡ true
  from_28 = others_hold (p k.Tilde) (p k.LessLess && (p k.GreaterGreater && (p k.Less && (p k.Greater && (p k.LessEqual && (p k.GreaterEqual && (p k.EqualEqual && (p k.NotEqual && (p k.PlusAssign && (p k.MinusAssign && (p k.StarAssign && (p k.SlashAssign && (p k.SlashSlashAssign && (p k.PercentAssign && (p k.AmpersandAssign && (p k.PipeAssign && (p k.CaretAssign && (p k.LessLessAssign && (p k.GreaterGreaterAssign && (p k.And && (p k.Break && (p k.Continue && (p k.Def && (p k.Elif && (p k.Else && (p k.For && (p k.If && (p k.In && (p k.Lambda && (p k.Load && (p k.Not && (p k.Or && (p k.Pass && (p k.Return && (p k.Reserved))))))))))))))))))))))))))))))))))) from_27

  from_29 : (p k.GreaterGreater && (p k.Less && (p k.Greater && (p k.LessEqual && (p k.GreaterEqual && (p k.EqualEqual && (p k.NotEqual && (p k.PlusAssign && (p k.MinusAssign && (p k.StarAssign && (p k.SlashAssign && (p k.SlashSlashAssign && (p k.PercentAssign && (p k.AmpersandAssign && (p k.PipeAssign && (p k.CaretAssign && (p k.LessLessAssign && (p k.GreaterGreaterAssign && (p k.And && (p k.Break && (p k.Continue && (p k.Def && (p k.Elif && (p k.Else && (p k.For && (p k.If && (p k.In && (p k.Lambda && (p k.Load && (p k.Not && (p k.Or && (p k.Pass && (p k.Return && (p k.Reserved)))))))))))))))))))))))))))))))))) ≡ true
  from_29 = others_hold (p k.LessLess) (p k.GreaterGreater && (p k.Less && (p k.Greater && (p k.LessEqual && (p k.GreaterEqual && (p k.EqualEqual && (p k.NotEqual && (p k.PlusAssign && (p k.MinusAssign && (p k.StarAssign && (p k.SlashAssign && (p k.SlashSlashAssign && (p k.PercentAssign && (p k.AmpersandAssign && (p k.PipeAssign && (p k.CaretAssign && (p k.LessLessAssign && (p k.GreaterGreaterAssign && (p k.And && (p k.Break && (p k.Continue && (p k.Def && (p k.Elif && (p k.Else && (p k.For && (p k.If && (p k.In && (p k.Lambda && (p k.Load && (p k.Not && (p k.Or && (p k.Pass && (p k.Return && (p k.Reserved)))))))))))))))))))))))))))))))))) from_28

  from_30 : (p k.Less && (p k.Greater && (p k.LessEqual && (p k.GreaterEqual && (p k.EqualEqual && (p k.NotEqual && (p k.PlusAssign && (p k.MinusAssign && (p k.StarAssign && (p k.SlashAssign && (p k.SlashSlashAssign && (p k.PercentAssign && (p k.AmpersandAssign && (p k.PipeAssign && (p k.CaretAssign && (p k.LessLessAssign && (p k.GreaterGreaterAssign && (p k.And && (p k.Break && (p k.Continue && (p k.Def && (p k.Elif && (p k.Else && (p k.For && (p k.If && (p k.In && (p k.Lambda && (p k.Load && (p k.Not && (p k.Or && (p k.Pass && (p k.Return && (p k.Reserved))))))))))))))))))))))))))))))))) ≡ true
  from_30 = others_hold (p k.GreaterGreater) (p k.Less && (p k.Greater && (p k.LessEqual && (p k.GreaterEqual && (p k.EqualEqual && (p k.NotEqual && (p k.PlusAssign && (p k.MinusAssign && (p k.StarAssign && (p k.SlashAssign && (p k.SlashSlashAssign && (p k.PercentAssign && (p k.AmpersandAssign && (p k.PipeAssign && (p k.CaretAssign && (p k.LessLessAssign && (p k.GreaterGreaterAssign && (p k.And && (p k.Break && (p k.Continue && (p k.Def && (p k.Elif && (p k.Else && (p k.For && (p k.If && (p k.In && (p k.Lambda && (p k.Load && (p k.Not && (p k.Or && (p k.Pass && (p k.Return && (p k.Reserved))))))))))))))))))))))))))))))))) from_29

  from_31 : (p k.Greater && (p k.LessEqual && (p k.GreaterEqual && (p k.EqualEqual && (p k.NotEqual && (p k.PlusAssign && (p k.MinusAssign && (p k.StarAssign && (p k.SlashAssign && (p k.SlashSlashAssign && (p k.PercentAssign && (p k.AmpersandAssign && (p k.PipeAssign && (p k.CaretAssign && (p k.LessLessAssign && (p k.GreaterGreaterAssign && (p k.And && (p k.Break && (p k.Continue && (p k.Def && (p k.Elif && (p k.Else && (p k.For && (p k.If && (p k.In && (p k.Lambda && (p k.Load && (p k.Not && (p k.Or && (p k.Pass && (p k.Return && (p k.Reserved)))))))))))))))))))))))))))))))) ≡ true
  from_31 = others_hold (p k.Less) (p k.Greater && (p k.LessEqual && (p k.GreaterEqual && (p k.EqualEqual && (p k.NotEqual && (p k.PlusAssign && (p k.MinusAssign && (p k.StarAssign && (p k.SlashAssign && (p k.SlashSlashAssign && (p k.PercentAssign && (p k.AmpersandAssign && (p k.PipeAssign && (p k.CaretAssign && (p k.LessLessAssign && (p k.GreaterGreaterAssign && (p k.And && (p k.Break && (p k.Continue && (p k.Def && (p k.Elif && (p k.Else && (p k.For && (p k.If && (p k.In && (p k.Lambda && (p k.Load && (p k.Not && (p k.Or && (p k.Pass && (p k.Return && (p k.Reserved)))))))))))))))))))))))))))))))) from_30

  from_32 : (p k.LessEqual && (p k.GreaterEqual && (p k.EqualEqual && (p k.NotEqual && (p k.PlusAssign && (p k.MinusAssign && (p k.StarAssign && (p k.SlashAssign && (p k.SlashSlashAssign && (p k.PercentAssign && (p k.AmpersandAssign && (p k.PipeAssign && (p k.CaretAssign && (p k.LessLessAssign && (p k.GreaterGreaterAssign && (p k.And && (p k.Break && (p k.Continue && (p k.Def && (p k.Elif && (p k.Else && (p k.For && (p k.If && (p k.In && (p k.Lambda && (p k.Load && (p k.Not && (p k.Or && (p k.Pass && (p k.Return && (p k.Reserved))))))))))))))))))))))))))))))) ≡ true
  from_32 = others_hold (p k.Greater) (p k.LessEqual && (p k.GreaterEqual && (p k.EqualEqual && (p k.NotEqual && (p k.PlusAssign && (p k.MinusAssign && (p k.StarAssign && (p k.SlashAssign && (p k.SlashSlashAssign && (p k.PercentAssign && (p k.AmpersandAssign && (p k.PipeAssign && (p k.CaretAssign && (p k.LessLessAssign && (p k.GreaterGreaterAssign && (p k.And && (p k.Break && (p k.Continue && (p k.Def && (p k.Elif && (p k.Else && (p k.For && (p k.If && (p k.In && (p k.Lambda && (p k.Load && (p k.Not && (p k.Or && (p k.Pass && (p k.Return && (p k.Reserved))))))))))))))))))))))))))))))) from_31

  from_33 : (p k.GreaterEqual && (p k.EqualEqual && (p k.NotEqual && (p k.PlusAssign && (p k.MinusAssign && (p k.StarAssign && (p k.SlashAssign && (p k.SlashSlashAssign && (p k.PercentAssign && (p k.AmpersandAssign && (p k.PipeAssign && (p k.CaretAssign && (p k.LessLessAssign && (p k.GreaterGreaterAssign && (p k.And && (p k.Break && (p k.Continue && (p k.Def && (p k.Elif && (p k.Else && (p k.For && (p k.If && (p k.In && (p k.Lambda && (p k.Load && (p k.Not && (p k.Or && (p k.Pass && (p k.Return && (p k.Reserved)))))))))))))))))))))))))))))) ≡ true
  from_33 = others_hold (p k.LessEqual) (p k.GreaterEqual && (p k.EqualEqual && (p k.NotEqual && (p k.PlusAssign && (p k.MinusAssign && (p k.StarAssign && (p k.SlashAssign && (p k.SlashSlashAssign && (p k.PercentAssign && (p k.AmpersandAssign && (p k.PipeAssign && (p k.CaretAssign && (p k.LessLessAssign && (p k.GreaterGreaterAssign && (p k.And && (p k.Break && (p k.Continue && (p k.Def && (p k.Elif && (p k.Else && (p k.For && (p k.If && (p k.In && (p k.Lambda && (p k.Load && (p k.Not && (p k.Or && (p k.Pass && (p k.Return && (p k.Reserved)))))))))))))))))))))))))))))) from_32

  from_34 : (p k.EqualEqual && (p k.NotEqual && (p k.PlusAssign && (p k.MinusAssign && (p k.StarAssign && (p k.SlashAssign && (p k.SlashSlashAssign && (p k.PercentAssign && (p k.AmpersandAssign && (p k.PipeAssign && (p k.CaretAssign && (p k.LessLessAssign && (p k.GreaterGreaterAssign && (p k.And && (p k.Break && (p k.Continue && (p k.Def && (p k.Elif && (p k.Else && (p k.For && (p k.If && (p k.In && (p k.Lambda && (p k.Load && (p k.Not && (p k.Or && (p k.Pass && (p k.Return && (p k.Reserved))))))))))))))))))))))))))))) ≡ true
  from_34 = others_hold (p k.GreaterEqual) (p k.EqualEqual && (p k.NotEqual && (p k.PlusAssign && (p k.MinusAssign && (p k.StarAssign && (p k.SlashAssign && (p k.SlashSlashAssign && (p k.PercentAssign && (p k.AmpersandAssign && (p k.PipeAssign && (p k.CaretAssign && (p k.LessLessAssign && (p k.GreaterGreaterAssign && (p k.And && (p k.Break && (p k.Continue && (p k.Def && (p k.Elif && (p k.Else && (p k.For && (p k.If && (p k.In && (p k.Lambda && (p k.Load && (p k.Not && (p k.Or && (p k.Pass && (p k.Return && (p k.Reserved))))))))))))))))))))))))))))) from_33

  from_35 : (p k.NotEqual && (p k.PlusAssign && (p k.MinusAssign && (p k.StarAssign && (p k.SlashAssign && (p k.SlashSlashAssign && (p k.PercentAssign && (p k.AmpersandAssign && (p k.PipeAssign && (p k.CaretAssign && (p k.LessLessAssign && (p k.GreaterGreaterAssign && (p k.And && (p k.Break && (p k.Continue && (p k.Def && (p k.Elif && (p k.Else && (p k.For && (p k.If && (p k.In && (p k.Lambda && (p k.Load && (p k.Not && (p k.Or && (p k.Pass && (p k.Return && (p k.Reserved)))))))))))))))))))))))))))) ≡ true
  from_35 = others_hold (p k.EqualEqual) (p k.NotEqual && (p k.PlusAssign && (p k.MinusAssign && (p k.StarAssign && (p k.SlashAssign && (p k.SlashSlashAssign && (p k.PercentAssign && (p k.AmpersandAssign && (p k.PipeAssign && (p k.CaretAssign && (p k.LessLessAssign && (p k.GreaterGreaterAssign && (p k.And && (p k.Break && (p k.Continue && (p k.Def && (p k.Elif && (p k.Else && (p k.For && (p k.If && (p k.In && (p k.Lambda && (p k.Load && (p k.Not && (p k.Or && (p k.Pass && (p k.Return && (p k.Reserved)))))))))))))))))))))))))))) from_34

  from_36 : (p k.PlusAssign && (p k.MinusAssign && (p k.StarAssign && (p k.SlashAssign && (p k.SlashSlashAssign && (p k.PercentAssign && (p k.AmpersandAssign && (p k.PipeAssign && (p k.CaretAssign && (p k.LessLessAssign && (p k.GreaterGreaterAssign && (p k.And && (p k.Break && (p k.Continue && (p k.Def && (p k.Elif && (p k.Else && (p k.For && (p k.If && (p k.In && (p k.Lambda && (p k.Load && (p k.Not && (p k.Or && (p k.Pass && (p k.Return && (p k.Reserved))))))))))))))))))))))))))) ≡ true
  from_36 = others_hold (p k.NotEqual) (p k.PlusAssign && (p k.MinusAssign && (p k.StarAssign && (p k.SlashAssign && (p k.SlashSlashAssign && (p k.PercentAssign && (p k.AmpersandAssign && (p k.PipeAssign && (p k.CaretAssign && (p k.LessLessAssign && (p k.GreaterGreaterAssign && (p k.And && (p k.Break && (p k.Continue && (p k.Def && (p k.Elif && (p k.Else && (p k.For && (p k.If && (p k.In && (p k.Lambda && (p k.Load && (p k.Not && (p k.Or && (p k.Pass && (p k.Return && (p k.Reserved))))))))))))))))))))))))))) from_35

  from_37 : (p k.MinusAssign && (p k.StarAssign && (p k.SlashAssign && (p k.SlashSlashAssign && (p k.PercentAssign && (p k.AmpersandAssign && (p k.PipeAssign && (p k.CaretAssign && (p k.LessLessAssign && (p k.GreaterGreaterAssign && (p k.And && (p k.Break && (p k.Continue && (p k.Def && (p k.Elif && (p k.Else && (p k.For && (p k.If && (p k.In && (p k.Lambda && (p k.Load && (p k.Not && (p k.Or && (p k.Pass && (p k.Return && (p k.Reserved)))))))))))))))))))))))))) ≡ true
  from_37 = others_hold (p k.PlusAssign) (p k.MinusAssign && (p k.StarAssign && (p k.SlashAssign && (p k.SlashSlashAssign && (p k.PercentAssign && (p k.AmpersandAssign && (p k.PipeAssign && (p k.CaretAssign && (p k.LessLessAssign && (p k.GreaterGreaterAssign && (p k.And && (p k.Break && (p k.Continue && (p k.Def && (p k.Elif && (p k.Else && (p k.For && (p k.If && (p k.In && (p k.Lambda && (p k.Load && (p k.Not && (p k.Or && (p k.Pass && (p k.Return && (p k.Reserved)))))))))))))))))))))))))) from_36

  from_38 : (p k.StarAssign && (p k.SlashAssign && (p k.SlashSlashAssign && (p k.PercentAssign && (p k.AmpersandAssign && (p k.PipeAssign && (p k.CaretAssign && (p k.LessLessAssign && (p k.GreaterGreaterAssign && (p k.And && (p k.Break && (p k.Continue && (p k.Def && (p k.Elif && (p k.Else && (p k.For && (p k.If && (p k.In && (p k.Lambda && (p k.Load && (p k.Not && (p k.Or && (p k.Pass && (p k.Return && (p k.Reserved))))))))))))))))))))))))) ≡ true
  from_38 = others_hold (p k.MinusAssign) (p k.StarAssign && (p k.SlashAssign && (p k.SlashSlashAssign && (p k.PercentAssign && (p k.AmpersandAssign && (p k.PipeAssign && (p k.CaretAssign && (p k.LessLessAssign && (p k.GreaterGreaterAssign && (p k.And && (p k.Break && (p k.Continue && (p k.Def && (p k.Elif && (p k.Else && (p k.For && (p k.If && (p k.In && (p k.Lambda && (p k.Load && (p k.Not && (p k.Or && (p k.Pass && (p k.Return && (p k.Reserved))))))))))))))))))))))))) from_37

  from_39 : (p k.SlashAssign && (p k.SlashSlashAssign && (p k.PercentAssign && (p k.AmpersandAssign && (p k.PipeAssign && (p k.CaretAssign && (p k.LessLessAssign && (p k.GreaterGreaterAssign && (p k.And && (p k.Break && (p k.Continue && (p k.Def && (p k.Elif && (p k.Else && (p k.For && (p k.If && (p k.In && (p k.Lambda && (p k.Load && (p k.Not && (p k.Or && (p k.Pass && (p k.Return && (p k.Reserved)))))))))))))))))))))))) ≡ true
  from_39 = others_hold (p k.StarAssign) (p k.SlashAssign && (p k.SlashSlashAssign && (p k.PercentAssign && (p k.AmpersandAssign && (p k.PipeAssign && (p k.CaretAssign && (p k.LessLessAssign && (p k.GreaterGreaterAssign && (p k.And && (p k.Break && (p k.Continue && (p k.Def && (p k.Elif && (p k.Else && (p k.For && (p k.If && (p k.In && (p k.Lambda && (p k.Load && (p k.Not && (p k.Or && (p k.Pass && (p k.Return && (p k.Reserved)))))))))))))))))))))))) from_38

  from_40 : (p k.SlashSlashAssign && (p k.PercentAssign && (p k.AmpersandAssign && (p k.PipeAssign && (p k.CaretAssign && (p k.LessLessAssign && (p k.GreaterGreaterAssign && (p k.And && (p k.Break && (p k.Continue && (p k.Def && (p k.Elif && (p k.Else && (p k.For && (p k.If && (p k.In && (p k.Lambda && (p k.Load && (p k.Not && (p k.Or && (p k.Pass && (p k.Return && (p k.Reserved))))))))))))))))))))))) ≡ true
  from_40 = others_hold (p k.SlashAssign) (p k.SlashSlashAssign && (p k.PercentAssign && (p k.AmpersandAssign && (p k.PipeAssign && (p k.CaretAssign && (p k.LessLessAssign && (p k.GreaterGreaterAssign && (p k.And && (p k.Break && (p k.Continue && (p k.Def && (p k.Elif && (p k.Else && (p k.For && (p k.If && (p k.In && (p k.Lambda && (p k.Load && (p k.Not && (p k.Or && (p k.Pass && (p k.Return && (p k.Reserved))))))))))))))))))))))) from_39

  from_41 : (p k.PercentAssign && (p k.AmpersandAssign && (p k.PipeAssign && (p k.CaretAssign && (p k.LessLessAssign && (p k.GreaterGreaterAssign && (p k.And && (p k.Break && (p k.Continue && (p k.Def && (p k.Elif && (p k.Else && (p k.For && (p k.If && (p k.In && (p k.Lambda && (p k.Load && (p k.Not && (p k.Or && (p k.Pass && (p k.Return && (p k.Reserved)))))))))))))))))))))) ≡ true
  from_41 = others_hold (p k.SlashSlashAssign) (p k.PercentAssign && (p k.AmpersandAssign && (p k.PipeAssign && (p k.CaretAssign && (p k.LessLessAssign && (p k.GreaterGreaterAssign && (p k.And && (p k.Break && (p k.Continue && (p k.Def && (p k.Elif && (p k.Else && (p k.For && (p k.If && (p k.In && (p k.Lambda && (p k.Load && (p k.Not && (p k.Or && (p k.Pass && (p k.Return && (p k.Reserved)))))))))))))))))))))) from_40

  from_42 : (p k.AmpersandAssign && (p k.PipeAssign && (p k.CaretAssign && (p k.LessLessAssign && (p k.GreaterGreaterAssign && (p k.And && (p k.Break && (p k.Continue && (p k.Def && (p k.Elif && (p k.Else && (p k.For && (p k.If && (p k.In && (p k.Lambda && (p k.Load && (p k.Not && (p k.Or && (p k.Pass && (p k.Return && (p k.Reserved))))))))))))))))))))) ≡ true
  from_42 = others_hold (p k.PercentAssign) (p k.AmpersandAssign && (p k.PipeAssign && (p k.CaretAssign && (p k.LessLessAssign && (p k.GreaterGreaterAssign && (p k.And && (p k.Break && (p k.Continue && (p k.Def && (p k.Elif && (p k.Else && (p k.For && (p k.If && (p k.In && (p k.Lambda && (p k.Load && (p k.Not && (p k.Or && (p k.Pass && (p k.Return && (p k.Reserved))))))))))))))))))))) from_41

  from_43 : (p k.PipeAssign && (p k.CaretAssign && (p k.LessLessAssign && (p k.GreaterGreaterAssign && (p k.And && (p k.Break && (p k.Continue && (p k.Def && (p k.Elif && (p k.Else && (p k.For && (p k.If && (p k.In && (p k.Lambda && (p k.Load && (p k.Not && (p k.Or && (p k.Pass && (p k.Return && (p k.Reserved)))))))))))))))))))) ≡ true
  from_43 = others_hold (p k.AmpersandAssign) (p k.PipeAssign && (p k.CaretAssign && (p k.LessLessAssign && (p k.GreaterGreaterAssign && (p k.And && (p k.Break && (p k.Continue && (p k.Def && (p k.Elif && (p k.Else && (p k.For && (p k.If && (p k.In && (p k.Lambda && (p k.Load && (p k.Not && (p k.Or && (p k.Pass && (p k.Return && (p k.Reserved)))))))))))))))))))) from_42

  from_44 : (p k.CaretAssign && (p k.LessLessAssign && (p k.GreaterGreaterAssign && (p k.And && (p k.Break && (p k.Continue && (p k.Def && (p k.Elif && (p k.Else && (p k.For && (p k.If && (p k.In && (p k.Lambda && (p k.Load && (p k.Not && (p k.Or && (p k.Pass && (p k.Return && (p k.Reserved))))))))))))))))))) ≡ true
  from_44 = others_hold (p k.PipeAssign) (p k.CaretAssign && (p k.LessLessAssign && (p k.GreaterGreaterAssign && (p k.And && (p k.Break && (p k.Continue && (p k.Def && (p k.Elif && (p k.Else && (p k.For && (p k.If && (p k.In && (p k.Lambda && (p k.Load && (p k.Not && (p k.Or && (p k.Pass && (p k.Return && (p k.Reserved))))))))))))))))))) from_43

  from_45 : (p k.LessLessAssign && (p k.GreaterGreaterAssign && (p k.And && (p k.Break && (p k.Continue && (p k.Def && (p k.Elif && (p k.Else && (p k.For && (p k.If && (p k.In && (p k.Lambda && (p k.Load && (p k.Not && (p k.Or && (p k.Pass && (p k.Return && (p k.Reserved)))))))))))))))))) ≡ true
  from_45 = others_hold (p k.CaretAssign) (p k.LessLessAssign && (p k.GreaterGreaterAssign && (p k.And && (p k.Break && (p k.Continue && (p k.Def && (p k.Elif && (p k.Else && (p k.For && (p k.If && (p k.In && (p k.Lambda && (p k.Load && (p k.Not && (p k.Or && (p k.Pass && (p k.Return && (p k.Reserved)))))))))))))))))) from_44

  from_46 : (p k.GreaterGreaterAssign && (p k.And && (p k.Break && (p k.Continue && (p k.Def && (p k.Elif && (p k.Else && (p k.For && (p k.If && (p k.In && (p k.Lambda && (p k.Load && (p k.Not && (p k.Or && (p k.Pass && (p k.Return && (p k.Reserved))))))))))))))))) ≡ true
  from_46 = others_hold (p k.LessLessAssign) (p k.GreaterGreaterAssign && (p k.And && (p k.Break && (p k.Continue && (p k.Def && (p k.Elif && (p k.Else && (p k.For && (p k.If && (p k.In && (p k.Lambda && (p k.Load && (p k.Not && (p k.Or && (p k.Pass && (p k.Return && (p k.Reserved))))))))))))))))) from_45

  from_47 : (p k.And && (p k.Break && (p k.Continue && (p k.Def && (p k.Elif && (p k.Else && (p k.For && (p k.If && (p k.In && (p k.Lambda && (p k.Load && (p k.Not && (p k.Or && (p k.Pass && (p k.Return && (p k.Reserved)))))))))))))))) ≡ true
  from_47 = others_hold (p k.GreaterGreaterAssign) (p k.And && (p k.Break && (p k.Continue && (p k.Def && (p k.Elif && (p k.Else && (p k.For && (p k.If && (p k.In && (p k.Lambda && (p k.Load && (p k.Not && (p k.Or && (p k.Pass && (p k.Return && (p k.Reserved)))))))))))))))) from_46

  from_48 : (p k.Break && (p k.Continue && (p k.Def && (p k.Elif && (p k.Else && (p k.For && (p k.If && (p k.In && (p k.Lambda && (p k.Load && (p k.Not && (p k.Or && (p k.Pass && (p k.Return && (p k.Reserved))))))))))))))) ≡ true
  from_48 = others_hold (p k.And) (p k.Break && (p k.Continue && (p k.Def && (p k.Elif && (p k.Else && (p k.For && (p k.If && (p k.In && (p k.Lambda && (p k.Load && (p k.Not && (p k.Or && (p k.Pass && (p k.Return && (p k.Reserved))))))))))))))) from_47

  from_49 : (p k.Continue && (p k.Def && (p k.Elif && (p k.Else && (p k.For && (p k.If && (p k.In && (p k.Lambda && (p k.Load && (p k.Not && (p k.Or && (p k.Pass && (p k.Return && (p k.Reserved)))))))))))))) ≡ true
  from_49 = others_hold (p k.Break) (p k.Continue && (p k.Def && (p k.Elif && (p k.Else && (p k.For && (p k.If && (p k.In && (p k.Lambda && (p k.Load && (p k.Not && (p k.Or && (p k.Pass && (p k.Return && (p k.Reserved)))))))))))))) from_48

  from_50 : (p k.Def && (p k.Elif && (p k.Else && (p k.For && (p k.If && (p k.In && (p k.Lambda && (p k.Load && (p k.Not && (p k.Or && (p k.Pass && (p k.Return && (p k.Reserved))))))))))))) ≡ true
  from_50 = others_hold (p k.Continue) (p k.Def && (p k.Elif && (p k.Else && (p k.For && (p k.If && (p k.In && (p k.Lambda && (p k.Load && (p k.Not && (p k.Or && (p k.Pass && (p k.Return && (p k.Reserved))))))))))))) from_49

  from_51 : (p k.Elif && (p k.Else && (p k.For && (p k.If && (p k.In && (p k.Lambda && (p k.Load && (p k.Not && (p k.Or && (p k.Pass && (p k.Return && (p k.Reserved)))))))))))) ≡ true
  from_51 = others_hold (p k.Def) (p k.Elif && (p k.Else && (p k.For && (p k.If && (p k.In && (p k.Lambda && (p k.Load && (p k.Not && (p k.Or && (p k.Pass && (p k.Return && (p k.Reserved)))))))))))) from_50

  from_52 : (p k.Else && (p k.For && (p k.If && (p k.In && (p k.Lambda && (p k.Load && (p k.Not && (p k.Or && (p k.Pass && (p k.Return && (p k.Reserved))))))))))) ≡ true
  from_52 = others_hold (p k.Elif) (p k.Else && (p k.For && (p k.If && (p k.In && (p k.Lambda && (p k.Load && (p k.Not && (p k.Or && (p k.Pass && (p k.Return && (p k.Reserved))))))))))) from_51

  from_53 : (p k.For && (p k.If && (p k.In && (p k.Lambda && (p k.Load && (p k.Not && (p k.Or && (p k.Pass && (p k.Return && (p k.Reserved)))))))))) ≡ true
  from_53 = others_hold (p k.Else) (p k.For && (p k.If && (p k.In && (p k.Lambda && (p k.Load && (p k.Not && (p k.Or && (p k.Pass && (p k.Return && (p k.Reserved)))))))))) from_52

  from_54 : (p k.If && (p k.In && (p k.Lambda && (p k.Load && (p k.Not && (p k.Or && (p k.Pass && (p k.Return && (p k.Reserved))))))))) ≡ true
  from_54 = others_hold (p k.For) (p k.If && (p k.In && (p k.Lambda && (p k.Load && (p k.Not && (p k.Or && (p k.Pass && (p k.Return && (p k.Reserved))))))))) from_53

  from_55 : (p k.In && (p k.Lambda && (p k.Load && (p k.Not && (p k.Or && (p k.Pass && (p k.Return && (p k.Reserved)))))))) ≡ true
  from_55 = others_hold (p k.If) (p k.In && (p k.Lambda && (p k.Load && (p k.Not && (p k.Or && (p k.Pass && (p k.Return && (p k.Reserved)))))))) from_54

  from_56 : (p k.Lambda && (p k.Load && (p k.Not && (p k.Or && (p k.Pass && (p k.Return && (p k.Reserved))))))) ≡ true
  from_56 = others_hold (p k.In) (p k.Lambda && (p k.Load && (p k.Not && (p k.Or && (p k.Pass && (p k.Return && (p k.Reserved))))))) from_55

  from_57 : (p k.Load && (p k.Not && (p k.Or && (p k.Pass && (p k.Return && (p k.Reserved)))))) ≡ true
  from_57 = others_hold (p k.Lambda) (p k.Load && (p k.Not && (p k.Or && (p k.Pass && (p k.Return && (p k.Reserved)))))) from_56

  from_58 : (p k.Not && (p k.Or && (p k.Pass && (p k.Return && (p k.Reserved))))) ≡ true
  from_58 = others_hold (p k.Load) (p k.Not && (p k.Or && (p k.Pass && (p k.Return && (p k.Reserved))))) from_57

  from_59 : (p k.Or && (p k.Pass && (p k.Return && (p k.Reserved)))) ≡ true
  from_59 = others_hold (p k.Not) (p k.Or && (p k.Pass && (p k.Return && (p k.Reserved)))) from_58

  from_60 : (p k.Pass && (p k.Return && (p k.Reserved))) ≡ true
  from_60 = others_hold (p k.Or) (p k.Pass && (p k.Return && (p k.Reserved))) from_59

  from_61 : (p k.Return && (p k.Reserved)) ≡ true
  from_61 = others_hold (p k.Pass) (p k.Return && (p k.Reserved)) from_60

  from_62 : (p k.Reserved) ≡ true
  from_62 = others_hold (p k.Return) (p k.Reserved) from_61

  pub each_kind : (q : TokenKind) → p q ≡ true
  each_kind k.Newline = first_holds (p k.Newline) (p k.Indent && (p k.Outdent && (p k.Identifier && (p k.Int && (p k.String && (p k.LeftParen && (p k.RightParen && (p k.LeftBracket && (p k.RightBracket && (p k.LeftBrace && (p k.RightBrace && (p k.Comma && (p k.Colon && (p k.Semicolon && (p k.Dot && (p k.Assign && (p k.Plus && (p k.Minus && (p k.Star && (p k.StarStar && (p k.Slash && (p k.SlashSlash && (p k.Percent && (p k.Ampersand && (p k.Pipe && (p k.Caret && (p k.Tilde && (p k.LessLess && (p k.GreaterGreater && (p k.Less && (p k.Greater && (p k.LessEqual && (p k.GreaterEqual && (p k.EqualEqual && (p k.NotEqual && (p k.PlusAssign && (p k.MinusAssign && (p k.StarAssign && (p k.SlashAssign && (p k.SlashSlashAssign && (p k.PercentAssign && (p k.AmpersandAssign && (p k.PipeAssign && (p k.CaretAssign && (p k.LessLessAssign && (p k.GreaterGreaterAssign && (p k.And && (p k.Break && (p k.Continue && (p k.Def && (p k.Elif && (p k.Else && (p k.For && (p k.If && (p k.In && (p k.Lambda && (p k.Load && (p k.Not && (p k.Or && (p k.Pass && (p k.Return && (p k.Reserved)))))))))))))))))))))))))))))))))))))))))))))))))))))))))))))) h
  each_kind k.Indent = first_holds (p k.Indent) (p k.Outdent && (p k.Identifier && (p k.Int && (p k.String && (p k.LeftParen && (p k.RightParen && (p k.LeftBracket && (p k.RightBracket && (p k.LeftBrace && (p k.RightBrace && (p k.Comma && (p k.Colon && (p k.Semicolon && (p k.Dot && (p k.Assign && (p k.Plus && (p k.Minus && (p k.Star && (p k.StarStar && (p k.Slash && (p k.SlashSlash && (p k.Percent && (p k.Ampersand && (p k.Pipe && (p k.Caret && (p k.Tilde && (p k.LessLess && (p k.GreaterGreater && (p k.Less && (p k.Greater && (p k.LessEqual && (p k.GreaterEqual && (p k.EqualEqual && (p k.NotEqual && (p k.PlusAssign && (p k.MinusAssign && (p k.StarAssign && (p k.SlashAssign && (p k.SlashSlashAssign && (p k.PercentAssign && (p k.AmpersandAssign && (p k.PipeAssign && (p k.CaretAssign && (p k.LessLessAssign && (p k.GreaterGreaterAssign && (p k.And && (p k.Break && (p k.Continue && (p k.Def && (p k.Elif && (p k.Else && (p k.For && (p k.If && (p k.In && (p k.Lambda && (p k.Load && (p k.Not && (p k.Or && (p k.Pass && (p k.Return && (p k.Reserved))))))))))))))))))))))))))))))))))))))))))))))))))))))))))))) from_1
  each_kind k.Outdent = first_holds (p k.Outdent) (p k.Identifier && (p k.Int && (p k.String && (p k.LeftParen && (p k.RightParen && (p k.LeftBracket && (p k.RightBracket && (p k.LeftBrace && (p k.RightBrace && (p k.Comma && (p k.Colon && (p k.Semicolon && (p k.Dot && (p k.Assign && (p k.Plus && (p k.Minus && (p k.Star && (p k.StarStar && (p k.Slash && (p k.SlashSlash && (p k.Percent && (p k.Ampersand && (p k.Pipe && (p k.Caret && (p k.Tilde && (p k.LessLess && (p k.GreaterGreater && (p k.Less && (p k.Greater && (p k.LessEqual && (p k.GreaterEqual && (p k.EqualEqual && (p k.NotEqual && (p k.PlusAssign && (p k.MinusAssign && (p k.StarAssign && (p k.SlashAssign && (p k.SlashSlashAssign && (p k.PercentAssign && (p k.AmpersandAssign && (p k.PipeAssign && (p k.CaretAssign && (p k.LessLessAssign && (p k.GreaterGreaterAssign && (p k.And && (p k.Break && (p k.Continue && (p k.Def && (p k.Elif && (p k.Else && (p k.For && (p k.If && (p k.In && (p k.Lambda && (p k.Load && (p k.Not && (p k.Or && (p k.Pass && (p k.Return && (p k.Reserved)))))))))))))))))))))))))))))))))))))))))))))))))))))))))))) from_2
  each_kind k.Identifier = first_holds (p k.Identifier) (p k.Int && (p k.String && (p k.LeftParen && (p k.RightParen && (p k.LeftBracket && (p k.RightBracket && (p k.LeftBrace && (p k.RightBrace && (p k.Comma && (p k.Colon && (p k.Semicolon && (p k.Dot && (p k.Assign && (p k.Plus && (p k.Minus && (p k.Star && (p k.StarStar && (p k.Slash && (p k.SlashSlash && (p k.Percent && (p k.Ampersand && (p k.Pipe && (p k.Caret && (p k.Tilde && (p k.LessLess && (p k.GreaterGreater && (p k.Less && (p k.Greater && (p k.LessEqual && (p k.GreaterEqual && (p k.EqualEqual && (p k.NotEqual && (p k.PlusAssign && (p k.MinusAssign && (p k.StarAssign && (p k.SlashAssign && (p k.SlashSlashAssign && (p k.PercentAssign && (p k.AmpersandAssign && (p k.PipeAssign && (p k.CaretAssign && (p k.LessLessAssign && (p k.GreaterGreaterAssign && (p k.And && (p k.Break && (p k.Continue && (p k.Def && (p k.Elif && (p k.Else && (p k.For && (p k.If && (p k.In && (p k.Lambda && (p k.Load && (p k.Not && (p k.Or && (p k.Pass && (p k.Return && (p k.Reserved))))))))))))))))))))))))))))))))))))))))))))))))))))))))))) from_3
  each_kind k.Int = first_holds (p k.Int) (p k.String && (p k.LeftParen && (p k.RightParen && (p k.LeftBracket && (p k.RightBracket && (p k.LeftBrace && (p k.RightBrace && (p k.Comma && (p k.Colon && (p k.Semicolon && (p k.Dot && (p k.Assign && (p k.Plus && (p k.Minus && (p k.Star && (p k.StarStar && (p k.Slash && (p k.SlashSlash && (p k.Percent && (p k.Ampersand && (p k.Pipe && (p k.Caret && (p k.Tilde && (p k.LessLess && (p k.GreaterGreater && (p k.Less && (p k.Greater && (p k.LessEqual && (p k.GreaterEqual && (p k.EqualEqual && (p k.NotEqual && (p k.PlusAssign && (p k.MinusAssign && (p k.StarAssign && (p k.SlashAssign && (p k.SlashSlashAssign && (p k.PercentAssign && (p k.AmpersandAssign && (p k.PipeAssign && (p k.CaretAssign && (p k.LessLessAssign && (p k.GreaterGreaterAssign && (p k.And && (p k.Break && (p k.Continue && (p k.Def && (p k.Elif && (p k.Else && (p k.For && (p k.If && (p k.In && (p k.Lambda && (p k.Load && (p k.Not && (p k.Or && (p k.Pass && (p k.Return && (p k.Reserved)))))))))))))))))))))))))))))))))))))))))))))))))))))))))) from_4
  each_kind k.String = first_holds (p k.String) (p k.LeftParen && (p k.RightParen && (p k.LeftBracket && (p k.RightBracket && (p k.LeftBrace && (p k.RightBrace && (p k.Comma && (p k.Colon && (p k.Semicolon && (p k.Dot && (p k.Assign && (p k.Plus && (p k.Minus && (p k.Star && (p k.StarStar && (p k.Slash && (p k.SlashSlash && (p k.Percent && (p k.Ampersand && (p k.Pipe && (p k.Caret && (p k.Tilde && (p k.LessLess && (p k.GreaterGreater && (p k.Less && (p k.Greater && (p k.LessEqual && (p k.GreaterEqual && (p k.EqualEqual && (p k.NotEqual && (p k.PlusAssign && (p k.MinusAssign && (p k.StarAssign && (p k.SlashAssign && (p k.SlashSlashAssign && (p k.PercentAssign && (p k.AmpersandAssign && (p k.PipeAssign && (p k.CaretAssign && (p k.LessLessAssign && (p k.GreaterGreaterAssign && (p k.And && (p k.Break && (p k.Continue && (p k.Def && (p k.Elif && (p k.Else && (p k.For && (p k.If && (p k.In && (p k.Lambda && (p k.Load && (p k.Not && (p k.Or && (p k.Pass && (p k.Return && (p k.Reserved))))))))))))))))))))))))))))))))))))))))))))))))))))))))) from_5
  each_kind k.LeftParen = first_holds (p k.LeftParen) (p k.RightParen && (p k.LeftBracket && (p k.RightBracket && (p k.LeftBrace && (p k.RightBrace && (p k.Comma && (p k.Colon && (p k.Semicolon && (p k.Dot && (p k.Assign && (p k.Plus && (p k.Minus && (p k.Star && (p k.StarStar && (p k.Slash && (p k.SlashSlash && (p k.Percent && (p k.Ampersand && (p k.Pipe && (p k.Caret && (p k.Tilde && (p k.LessLess && (p k.GreaterGreater && (p k.Less && (p k.Greater && (p k.LessEqual && (p k.GreaterEqual && (p k.EqualEqual && (p k.NotEqual && (p k.PlusAssign && (p k.MinusAssign && (p k.StarAssign && (p k.SlashAssign && (p k.SlashSlashAssign && (p k.PercentAssign && (p k.AmpersandAssign && (p k.PipeAssign && (p k.CaretAssign && (p k.LessLessAssign && (p k.GreaterGreaterAssign && (p k.And && (p k.Break && (p k.Continue && (p k.Def && (p k.Elif && (p k.Else && (p k.For && (p k.If && (p k.In && (p k.Lambda && (p k.Load && (p k.Not && (p k.Or && (p k.Pass && (p k.Return && (p k.Reserved)))))))))))))))))))))))))))))))))))))))))))))))))))))))) from_6
  each_kind k.RightParen = first_holds (p k.RightParen) (p k.LeftBracket && (p k.RightBracket && (p k.LeftBrace && (p k.RightBrace && (p k.Comma && (p k.Colon && (p k.Semicolon && (p k.Dot && (p k.Assign && (p k.Plus && (p k.Minus && (p k.Star && (p k.StarStar && (p k.Slash && (p k.SlashSlash && (p k.Percent && (p k.Ampersand && (p k.Pipe && (p k.Caret && (p k.Tilde && (p k.LessLess && (p k.GreaterGreater && (p k.Less && (p k.Greater && (p k.LessEqual && (p k.GreaterEqual && (p k.EqualEqual && (p k.NotEqual && (p k.PlusAssign && (p k.MinusAssign && (p k.StarAssign && (p k.SlashAssign && (p k.SlashSlashAssign && (p k.PercentAssign && (p k.AmpersandAssign && (p k.PipeAssign && (p k.CaretAssign && (p k.LessLessAssign && (p k.GreaterGreaterAssign && (p k.And && (p k.Break && (p k.Continue && (p k.Def && (p k.Elif && (p k.Else && (p k.For && (p k.If && (p k.In && (p k.Lambda && (p k.Load && (p k.Not && (p k.Or && (p k.Pass && (p k.Return && (p k.Reserved))))))))))))))))))))))))))))))))))))))))))))))))))))))) from_7
  each_kind k.LeftBracket = first_holds (p k.LeftBracket) (p k.RightBracket && (p k.LeftBrace && (p k.RightBrace && (p k.Comma && (p k.Colon && (p k.Semicolon && (p k.Dot && (p k.Assign && (p k.Plus && (p k.Minus && (p k.Star && (p k.StarStar && (p k.Slash && (p k.SlashSlash && (p k.Percent && (p k.Ampersand && (p k.Pipe && (p k.Caret && (p k.Tilde && (p k.LessLess && (p k.GreaterGreater && (p k.Less && (p k.Greater && (p k.LessEqual && (p k.GreaterEqual && (p k.EqualEqual && (p k.NotEqual && (p k.PlusAssign && (p k.MinusAssign && (p k.StarAssign && (p k.SlashAssign && (p k.SlashSlashAssign && (p k.PercentAssign && (p k.AmpersandAssign && (p k.PipeAssign && (p k.CaretAssign && (p k.LessLessAssign && (p k.GreaterGreaterAssign && (p k.And && (p k.Break && (p k.Continue && (p k.Def && (p k.Elif && (p k.Else && (p k.For && (p k.If && (p k.In && (p k.Lambda && (p k.Load && (p k.Not && (p k.Or && (p k.Pass && (p k.Return && (p k.Reserved)))))))))))))))))))))))))))))))))))))))))))))))))))))) from_8
  each_kind k.RightBracket = first_holds (p k.RightBracket) (p k.LeftBrace && (p k.RightBrace && (p k.Comma && (p k.Colon && (p k.Semicolon && (p k.Dot && (p k.Assign && (p k.Plus && (p k.Minus && (p k.Star && (p k.StarStar && (p k.Slash && (p k.SlashSlash && (p k.Percent && (p k.Ampersand && (p k.Pipe && (p k.Caret && (p k.Tilde && (p k.LessLess && (p k.GreaterGreater && (p k.Less && (p k.Greater && (p k.LessEqual && (p k.GreaterEqual && (p k.EqualEqual && (p k.NotEqual && (p k.PlusAssign && (p k.MinusAssign && (p k.StarAssign && (p k.SlashAssign && (p k.SlashSlashAssign && (p k.PercentAssign && (p k.AmpersandAssign && (p k.PipeAssign && (p k.CaretAssign && (p k.LessLessAssign && (p k.GreaterGreaterAssign && (p k.And && (p k.Break && (p k.Continue && (p k.Def && (p k.Elif && (p k.Else && (p k.For && (p k.If && (p k.In && (p k.Lambda && (p k.Load && (p k.Not && (p k.Or && (p k.Pass && (p k.Return && (p k.Reserved))))))))))))))))))))))))))))))))))))))))))))))))))))) from_9
  each_kind k.LeftBrace = first_holds (p k.LeftBrace) (p k.RightBrace && (p k.Comma && (p k.Colon && (p k.Semicolon && (p k.Dot && (p k.Assign && (p k.Plus && (p k.Minus && (p k.Star && (p k.StarStar && (p k.Slash && (p k.SlashSlash && (p k.Percent && (p k.Ampersand && (p k.Pipe && (p k.Caret && (p k.Tilde && (p k.LessLess && (p k.GreaterGreater && (p k.Less && (p k.Greater && (p k.LessEqual && (p k.GreaterEqual && (p k.EqualEqual && (p k.NotEqual && (p k.PlusAssign && (p k.MinusAssign && (p k.StarAssign && (p k.SlashAssign && (p k.SlashSlashAssign && (p k.PercentAssign && (p k.AmpersandAssign && (p k.PipeAssign && (p k.CaretAssign && (p k.LessLessAssign && (p k.GreaterGreaterAssign && (p k.And && (p k.Break && (p k.Continue && (p k.Def && (p k.Elif && (p k.Else && (p k.For && (p k.If && (p k.In && (p k.Lambda && (p k.Load && (p k.Not && (p k.Or && (p k.Pass && (p k.Return && (p k.Reserved)))))))))))))))))))))))))))))))))))))))))))))))))))) from_10
  each_kind k.RightBrace = first_holds (p k.RightBrace) (p k.Comma && (p k.Colon && (p k.Semicolon && (p k.Dot && (p k.Assign && (p k.Plus && (p k.Minus && (p k.Star && (p k.StarStar && (p k.Slash && (p k.SlashSlash && (p k.Percent && (p k.Ampersand && (p k.Pipe && (p k.Caret && (p k.Tilde && (p k.LessLess && (p k.GreaterGreater && (p k.Less && (p k.Greater && (p k.LessEqual && (p k.GreaterEqual && (p k.EqualEqual && (p k.NotEqual && (p k.PlusAssign && (p k.MinusAssign && (p k.StarAssign && (p k.SlashAssign && (p k.SlashSlashAssign && (p k.PercentAssign && (p k.AmpersandAssign && (p k.PipeAssign && (p k.CaretAssign && (p k.LessLessAssign && (p k.GreaterGreaterAssign && (p k.And && (p k.Break && (p k.Continue && (p k.Def && (p k.Elif && (p k.Else && (p k.For && (p k.If && (p k.In && (p k.Lambda && (p k.Load && (p k.Not && (p k.Or && (p k.Pass && (p k.Return && (p k.Reserved))))))))))))))))))))))))))))))))))))))))))))))))))) from_11
  each_kind k.Comma = first_holds (p k.Comma) (p k.Colon && (p k.Semicolon && (p k.Dot && (p k.Assign && (p k.Plus && (p k.Minus && (p k.Star && (p k.StarStar && (p k.Slash && (p k.SlashSlash && (p k.Percent && (p k.Ampersand && (p k.Pipe && (p k.Caret && (p k.Tilde && (p k.LessLess && (p k.GreaterGreater && (p k.Less && (p k.Greater && (p k.LessEqual && (p k.GreaterEqual && (p k.EqualEqual && (p k.NotEqual && (p k.PlusAssign && (p k.MinusAssign && (p k.StarAssign && (p k.SlashAssign && (p k.SlashSlashAssign && (p k.PercentAssign && (p k.AmpersandAssign && (p k.PipeAssign && (p k.CaretAssign && (p k.LessLessAssign && (p k.GreaterGreaterAssign && (p k.And && (p k.Break && (p k.Continue && (p k.Def && (p k.Elif && (p k.Else && (p k.For && (p k.If && (p k.In && (p k.Lambda && (p k.Load && (p k.Not && (p k.Or && (p k.Pass && (p k.Return && (p k.Reserved)))))))))))))))))))))))))))))))))))))))))))))))))) from_12
  each_kind k.Colon = first_holds (p k.Colon) (p k.Semicolon && (p k.Dot && (p k.Assign && (p k.Plus && (p k.Minus && (p k.Star && (p k.StarStar && (p k.Slash && (p k.SlashSlash && (p k.Percent && (p k.Ampersand && (p k.Pipe && (p k.Caret && (p k.Tilde && (p k.LessLess && (p k.GreaterGreater && (p k.Less && (p k.Greater && (p k.LessEqual && (p k.GreaterEqual && (p k.EqualEqual && (p k.NotEqual && (p k.PlusAssign && (p k.MinusAssign && (p k.StarAssign && (p k.SlashAssign && (p k.SlashSlashAssign && (p k.PercentAssign && (p k.AmpersandAssign && (p k.PipeAssign && (p k.CaretAssign && (p k.LessLessAssign && (p k.GreaterGreaterAssign && (p k.And && (p k.Break && (p k.Continue && (p k.Def && (p k.Elif && (p k.Else && (p k.For && (p k.If && (p k.In && (p k.Lambda && (p k.Load && (p k.Not && (p k.Or && (p k.Pass && (p k.Return && (p k.Reserved))))))))))))))))))))))))))))))))))))))))))))))))) from_13
  each_kind k.Semicolon = first_holds (p k.Semicolon) (p k.Dot && (p k.Assign && (p k.Plus && (p k.Minus && (p k.Star && (p k.StarStar && (p k.Slash && (p k.SlashSlash && (p k.Percent && (p k.Ampersand && (p k.Pipe && (p k.Caret && (p k.Tilde && (p k.LessLess && (p k.GreaterGreater && (p k.Less && (p k.Greater && (p k.LessEqual && (p k.GreaterEqual && (p k.EqualEqual && (p k.NotEqual && (p k.PlusAssign && (p k.MinusAssign && (p k.StarAssign && (p k.SlashAssign && (p k.SlashSlashAssign && (p k.PercentAssign && (p k.AmpersandAssign && (p k.PipeAssign && (p k.CaretAssign && (p k.LessLessAssign && (p k.GreaterGreaterAssign && (p k.And && (p k.Break && (p k.Continue && (p k.Def && (p k.Elif && (p k.Else && (p k.For && (p k.If && (p k.In && (p k.Lambda && (p k.Load && (p k.Not && (p k.Or && (p k.Pass && (p k.Return && (p k.Reserved)))))))))))))))))))))))))))))))))))))))))))))))) from_14
  each_kind k.Dot = first_holds (p k.Dot) (p k.Assign && (p k.Plus && (p k.Minus && (p k.Star && (p k.StarStar && (p k.Slash && (p k.SlashSlash && (p k.Percent && (p k.Ampersand && (p k.Pipe && (p k.Caret && (p k.Tilde && (p k.LessLess && (p k.GreaterGreater && (p k.Less && (p k.Greater && (p k.LessEqual && (p k.GreaterEqual && (p k.EqualEqual && (p k.NotEqual && (p k.PlusAssign && (p k.MinusAssign && (p k.StarAssign && (p k.SlashAssign && (p k.SlashSlashAssign && (p k.PercentAssign && (p k.AmpersandAssign && (p k.PipeAssign && (p k.CaretAssign && (p k.LessLessAssign && (p k.GreaterGreaterAssign && (p k.And && (p k.Break && (p k.Continue && (p k.Def && (p k.Elif && (p k.Else && (p k.For && (p k.If && (p k.In && (p k.Lambda && (p k.Load && (p k.Not && (p k.Or && (p k.Pass && (p k.Return && (p k.Reserved))))))))))))))))))))))))))))))))))))))))))))))) from_15
  each_kind k.Assign = first_holds (p k.Assign) (p k.Plus && (p k.Minus && (p k.Star && (p k.StarStar && (p k.Slash && (p k.SlashSlash && (p k.Percent && (p k.Ampersand && (p k.Pipe && (p k.Caret && (p k.Tilde && (p k.LessLess && (p k.GreaterGreater && (p k.Less && (p k.Greater && (p k.LessEqual && (p k.GreaterEqual && (p k.EqualEqual && (p k.NotEqual && (p k.PlusAssign && (p k.MinusAssign && (p k.StarAssign && (p k.SlashAssign && (p k.SlashSlashAssign && (p k.PercentAssign && (p k.AmpersandAssign && (p k.PipeAssign && (p k.CaretAssign && (p k.LessLessAssign && (p k.GreaterGreaterAssign && (p k.And && (p k.Break && (p k.Continue && (p k.Def && (p k.Elif && (p k.Else && (p k.For && (p k.If && (p k.In && (p k.Lambda && (p k.Load && (p k.Not && (p k.Or && (p k.Pass && (p k.Return && (p k.Reserved)))))))))))))))))))))))))))))))))))))))))))))) from_16
  each_kind k.Plus = first_holds (p k.Plus) (p k.Minus && (p k.Star && (p k.StarStar && (p k.Slash && (p k.SlashSlash && (p k.Percent && (p k.Ampersand && (p k.Pipe && (p k.Caret && (p k.Tilde && (p k.LessLess && (p k.GreaterGreater && (p k.Less && (p k.Greater && (p k.LessEqual && (p k.GreaterEqual && (p k.EqualEqual && (p k.NotEqual && (p k.PlusAssign && (p k.MinusAssign && (p k.StarAssign && (p k.SlashAssign && (p k.SlashSlashAssign && (p k.PercentAssign && (p k.AmpersandAssign && (p k.PipeAssign && (p k.CaretAssign && (p k.LessLessAssign && (p k.GreaterGreaterAssign && (p k.And && (p k.Break && (p k.Continue && (p k.Def && (p k.Elif && (p k.Else && (p k.For && (p k.If && (p k.In && (p k.Lambda && (p k.Load && (p k.Not && (p k.Or && (p k.Pass && (p k.Return && (p k.Reserved))))))))))))))))))))))))))))))))))))))))))))) from_17
  each_kind k.Minus = first_holds (p k.Minus) (p k.Star && (p k.StarStar && (p k.Slash && (p k.SlashSlash && (p k.Percent && (p k.Ampersand && (p k.Pipe && (p k.Caret && (p k.Tilde && (p k.LessLess && (p k.GreaterGreater && (p k.Less && (p k.Greater && (p k.LessEqual && (p k.GreaterEqual && (p k.EqualEqual && (p k.NotEqual && (p k.PlusAssign && (p k.MinusAssign && (p k.StarAssign && (p k.SlashAssign && (p k.SlashSlashAssign && (p k.PercentAssign && (p k.AmpersandAssign && (p k.PipeAssign && (p k.CaretAssign && (p k.LessLessAssign && (p k.GreaterGreaterAssign && (p k.And && (p k.Break && (p k.Continue && (p k.Def && (p k.Elif && (p k.Else && (p k.For && (p k.If && (p k.In && (p k.Lambda && (p k.Load && (p k.Not && (p k.Or && (p k.Pass && (p k.Return && (p k.Reserved)))))))))))))))))))))))))))))))))))))))))))) from_18
  each_kind k.Star = first_holds (p k.Star) (p k.StarStar && (p k.Slash && (p k.SlashSlash && (p k.Percent && (p k.Ampersand && (p k.Pipe && (p k.Caret && (p k.Tilde && (p k.LessLess && (p k.GreaterGreater && (p k.Less && (p k.Greater && (p k.LessEqual && (p k.GreaterEqual && (p k.EqualEqual && (p k.NotEqual && (p k.PlusAssign && (p k.MinusAssign && (p k.StarAssign && (p k.SlashAssign && (p k.SlashSlashAssign && (p k.PercentAssign && (p k.AmpersandAssign && (p k.PipeAssign && (p k.CaretAssign && (p k.LessLessAssign && (p k.GreaterGreaterAssign && (p k.And && (p k.Break && (p k.Continue && (p k.Def && (p k.Elif && (p k.Else && (p k.For && (p k.If && (p k.In && (p k.Lambda && (p k.Load && (p k.Not && (p k.Or && (p k.Pass && (p k.Return && (p k.Reserved))))))))))))))))))))))))))))))))))))))))))) from_19
  each_kind k.StarStar = first_holds (p k.StarStar) (p k.Slash && (p k.SlashSlash && (p k.Percent && (p k.Ampersand && (p k.Pipe && (p k.Caret && (p k.Tilde && (p k.LessLess && (p k.GreaterGreater && (p k.Less && (p k.Greater && (p k.LessEqual && (p k.GreaterEqual && (p k.EqualEqual && (p k.NotEqual && (p k.PlusAssign && (p k.MinusAssign && (p k.StarAssign && (p k.SlashAssign && (p k.SlashSlashAssign && (p k.PercentAssign && (p k.AmpersandAssign && (p k.PipeAssign && (p k.CaretAssign && (p k.LessLessAssign && (p k.GreaterGreaterAssign && (p k.And && (p k.Break && (p k.Continue && (p k.Def && (p k.Elif && (p k.Else && (p k.For && (p k.If && (p k.In && (p k.Lambda && (p k.Load && (p k.Not && (p k.Or && (p k.Pass && (p k.Return && (p k.Reserved)))))))))))))))))))))))))))))))))))))))))) from_20
  each_kind k.Slash = first_holds (p k.Slash) (p k.SlashSlash && (p k.Percent && (p k.Ampersand && (p k.Pipe && (p k.Caret && (p k.Tilde && (p k.LessLess && (p k.GreaterGreater && (p k.Less && (p k.Greater && (p k.LessEqual && (p k.GreaterEqual && (p k.EqualEqual && (p k.NotEqual && (p k.PlusAssign && (p k.MinusAssign && (p k.StarAssign && (p k.SlashAssign && (p k.SlashSlashAssign && (p k.PercentAssign && (p k.AmpersandAssign && (p k.PipeAssign && (p k.CaretAssign && (p k.LessLessAssign && (p k.GreaterGreaterAssign && (p k.And && (p k.Break && (p k.Continue && (p k.Def && (p k.Elif && (p k.Else && (p k.For && (p k.If && (p k.In && (p k.Lambda && (p k.Load && (p k.Not && (p k.Or && (p k.Pass && (p k.Return && (p k.Reserved))))))))))))))))))))))))))))))))))))))))) from_21
  each_kind k.SlashSlash = first_holds (p k.SlashSlash) (p k.Percent && (p k.Ampersand && (p k.Pipe && (p k.Caret && (p k.Tilde && (p k.LessLess && (p k.GreaterGreater && (p k.Less && (p k.Greater && (p k.LessEqual && (p k.GreaterEqual && (p k.EqualEqual && (p k.NotEqual && (p k.PlusAssign && (p k.MinusAssign && (p k.StarAssign && (p k.SlashAssign && (p k.SlashSlashAssign && (p k.PercentAssign && (p k.AmpersandAssign && (p k.PipeAssign && (p k.CaretAssign && (p k.LessLessAssign && (p k.GreaterGreaterAssign && (p k.And && (p k.Break && (p k.Continue && (p k.Def && (p k.Elif && (p k.Else && (p k.For && (p k.If && (p k.In && (p k.Lambda && (p k.Load && (p k.Not && (p k.Or && (p k.Pass && (p k.Return && (p k.Reserved)))))))))))))))))))))))))))))))))))))))) from_22
  each_kind k.Percent = first_holds (p k.Percent) (p k.Ampersand && (p k.Pipe && (p k.Caret && (p k.Tilde && (p k.LessLess && (p k.GreaterGreater && (p k.Less && (p k.Greater && (p k.LessEqual && (p k.GreaterEqual && (p k.EqualEqual && (p k.NotEqual && (p k.PlusAssign && (p k.MinusAssign && (p k.StarAssign && (p k.SlashAssign && (p k.SlashSlashAssign && (p k.PercentAssign && (p k.AmpersandAssign && (p k.PipeAssign && (p k.CaretAssign && (p k.LessLessAssign && (p k.GreaterGreaterAssign && (p k.And && (p k.Break && (p k.Continue && (p k.Def && (p k.Elif && (p k.Else && (p k.For && (p k.If && (p k.In && (p k.Lambda && (p k.Load && (p k.Not && (p k.Or && (p k.Pass && (p k.Return && (p k.Reserved))))))))))))))))))))))))))))))))))))))) from_23
  each_kind k.Ampersand = first_holds (p k.Ampersand) (p k.Pipe && (p k.Caret && (p k.Tilde && (p k.LessLess && (p k.GreaterGreater && (p k.Less && (p k.Greater && (p k.LessEqual && (p k.GreaterEqual && (p k.EqualEqual && (p k.NotEqual && (p k.PlusAssign && (p k.MinusAssign && (p k.StarAssign && (p k.SlashAssign && (p k.SlashSlashAssign && (p k.PercentAssign && (p k.AmpersandAssign && (p k.PipeAssign && (p k.CaretAssign && (p k.LessLessAssign && (p k.GreaterGreaterAssign && (p k.And && (p k.Break && (p k.Continue && (p k.Def && (p k.Elif && (p k.Else && (p k.For && (p k.If && (p k.In && (p k.Lambda && (p k.Load && (p k.Not && (p k.Or && (p k.Pass && (p k.Return && (p k.Reserved)))))))))))))))))))))))))))))))))))))) from_24
  each_kind k.Pipe = first_holds (p k.Pipe) (p k.Caret && (p k.Tilde && (p k.LessLess && (p k.GreaterGreater && (p k.Less && (p k.Greater && (p k.LessEqual && (p k.GreaterEqual && (p k.EqualEqual && (p k.NotEqual && (p k.PlusAssign && (p k.MinusAssign && (p k.StarAssign && (p k.SlashAssign && (p k.SlashSlashAssign && (p k.PercentAssign && (p k.AmpersandAssign && (p k.PipeAssign && (p k.CaretAssign && (p k.LessLessAssign && (p k.GreaterGreaterAssign && (p k.And && (p k.Break && (p k.Continue && (p k.Def && (p k.Elif && (p k.Else && (p k.For && (p k.If && (p k.In && (p k.Lambda && (p k.Load && (p k.Not && (p k.Or && (p k.Pass && (p k.Return && (p k.Reserved))))))))))))))))))))))))))))))))))))) from_25
  each_kind k.Caret = first_holds (p k.Caret) (p k.Tilde && (p k.LessLess && (p k.GreaterGreater && (p k.Less && (p k.Greater && (p k.LessEqual && (p k.GreaterEqual && (p k.EqualEqual && (p k.NotEqual && (p k.PlusAssign && (p k.MinusAssign && (p k.StarAssign && (p k.SlashAssign && (p k.SlashSlashAssign && (p k.PercentAssign && (p k.AmpersandAssign && (p k.PipeAssign && (p k.CaretAssign && (p k.LessLessAssign && (p k.GreaterGreaterAssign && (p k.And && (p k.Break && (p k.Continue && (p k.Def && (p k.Elif && (p k.Else && (p k.For && (p k.If && (p k.In && (p k.Lambda && (p k.Load && (p k.Not && (p k.Or && (p k.Pass && (p k.Return && (p k.Reserved)))))))))))))))))))))))))))))))))))) from_26
  each_kind k.Tilde = first_holds (p k.Tilde) (p k.LessLess && (p k.GreaterGreater && (p k.Less && (p k.Greater && (p k.LessEqual && (p k.GreaterEqual && (p k.EqualEqual && (p k.NotEqual && (p k.PlusAssign && (p k.MinusAssign && (p k.StarAssign && (p k.SlashAssign && (p k.SlashSlashAssign && (p k.PercentAssign && (p k.AmpersandAssign && (p k.PipeAssign && (p k.CaretAssign && (p k.LessLessAssign && (p k.GreaterGreaterAssign && (p k.And && (p k.Break && (p k.Continue && (p k.Def && (p k.Elif && (p k.Else && (p k.For && (p k.If && (p k.In && (p k.Lambda && (p k.Load && (p k.Not && (p k.Or && (p k.Pass && (p k.Return && (p k.Reserved))))))))))))))))))))))))))))))))))) from_27
  each_kind k.LessLess = first_holds (p k.LessLess) (p k.GreaterGreater && (p k.Less && (p k.Greater && (p k.LessEqual && (p k.GreaterEqual && (p k.EqualEqual && (p k.NotEqual && (p k.PlusAssign && (p k.MinusAssign && (p k.StarAssign && (p k.SlashAssign && (p k.SlashSlashAssign && (p k.PercentAssign && (p k.AmpersandAssign && (p k.PipeAssign && (p k.CaretAssign && (p k.LessLessAssign && (p k.GreaterGreaterAssign && (p k.And && (p k.Break && (p k.Continue && (p k.Def && (p k.Elif && (p k.Else && (p k.For && (p k.If && (p k.In && (p k.Lambda && (p k.Load && (p k.Not && (p k.Or && (p k.Pass && (p k.Return && (p k.Reserved)))))))))))))))))))))))))))))))))) from_28
  each_kind k.GreaterGreater = first_holds (p k.GreaterGreater) (p k.Less && (p k.Greater && (p k.LessEqual && (p k.GreaterEqual && (p k.EqualEqual && (p k.NotEqual && (p k.PlusAssign && (p k.MinusAssign && (p k.StarAssign && (p k.SlashAssign && (p k.SlashSlashAssign && (p k.PercentAssign && (p k.AmpersandAssign && (p k.PipeAssign && (p k.CaretAssign && (p k.LessLessAssign && (p k.GreaterGreaterAssign && (p k.And && (p k.Break && (p k.Continue && (p k.Def && (p k.Elif && (p k.Else && (p k.For && (p k.If && (p k.In && (p k.Lambda && (p k.Load && (p k.Not && (p k.Or && (p k.Pass && (p k.Return && (p k.Reserved))))))))))))))))))))))))))))))))) from_29
  each_kind k.Less = first_holds (p k.Less) (p k.Greater && (p k.LessEqual && (p k.GreaterEqual && (p k.EqualEqual && (p k.NotEqual && (p k.PlusAssign && (p k.MinusAssign && (p k.StarAssign && (p k.SlashAssign && (p k.SlashSlashAssign && (p k.PercentAssign && (p k.AmpersandAssign && (p k.PipeAssign && (p k.CaretAssign && (p k.LessLessAssign && (p k.GreaterGreaterAssign && (p k.And && (p k.Break && (p k.Continue && (p k.Def && (p k.Elif && (p k.Else && (p k.For && (p k.If && (p k.In && (p k.Lambda && (p k.Load && (p k.Not && (p k.Or && (p k.Pass && (p k.Return && (p k.Reserved)))))))))))))))))))))))))))))))) from_30
  each_kind k.Greater = first_holds (p k.Greater) (p k.LessEqual && (p k.GreaterEqual && (p k.EqualEqual && (p k.NotEqual && (p k.PlusAssign && (p k.MinusAssign && (p k.StarAssign && (p k.SlashAssign && (p k.SlashSlashAssign && (p k.PercentAssign && (p k.AmpersandAssign && (p k.PipeAssign && (p k.CaretAssign && (p k.LessLessAssign && (p k.GreaterGreaterAssign && (p k.And && (p k.Break && (p k.Continue && (p k.Def && (p k.Elif && (p k.Else && (p k.For && (p k.If && (p k.In && (p k.Lambda && (p k.Load && (p k.Not && (p k.Or && (p k.Pass && (p k.Return && (p k.Reserved))))))))))))))))))))))))))))))) from_31
  each_kind k.LessEqual = first_holds (p k.LessEqual) (p k.GreaterEqual && (p k.EqualEqual && (p k.NotEqual && (p k.PlusAssign && (p k.MinusAssign && (p k.StarAssign && (p k.SlashAssign && (p k.SlashSlashAssign && (p k.PercentAssign && (p k.AmpersandAssign && (p k.PipeAssign && (p k.CaretAssign && (p k.LessLessAssign && (p k.GreaterGreaterAssign && (p k.And && (p k.Break && (p k.Continue && (p k.Def && (p k.Elif && (p k.Else && (p k.For && (p k.If && (p k.In && (p k.Lambda && (p k.Load && (p k.Not && (p k.Or && (p k.Pass && (p k.Return && (p k.Reserved)))))))))))))))))))))))))))))) from_32
  each_kind k.GreaterEqual = first_holds (p k.GreaterEqual) (p k.EqualEqual && (p k.NotEqual && (p k.PlusAssign && (p k.MinusAssign && (p k.StarAssign && (p k.SlashAssign && (p k.SlashSlashAssign && (p k.PercentAssign && (p k.AmpersandAssign && (p k.PipeAssign && (p k.CaretAssign && (p k.LessLessAssign && (p k.GreaterGreaterAssign && (p k.And && (p k.Break && (p k.Continue && (p k.Def && (p k.Elif && (p k.Else && (p k.For && (p k.If && (p k.In && (p k.Lambda && (p k.Load && (p k.Not && (p k.Or && (p k.Pass && (p k.Return && (p k.Reserved))))))))))))))))))))))))))))) from_33
  each_kind k.EqualEqual = first_holds (p k.EqualEqual) (p k.NotEqual && (p k.PlusAssign && (p k.MinusAssign && (p k.StarAssign && (p k.SlashAssign && (p k.SlashSlashAssign && (p k.PercentAssign && (p k.AmpersandAssign && (p k.PipeAssign && (p k.CaretAssign && (p k.LessLessAssign && (p k.GreaterGreaterAssign && (p k.And && (p k.Break && (p k.Continue && (p k.Def && (p k.Elif && (p k.Else && (p k.For && (p k.If && (p k.In && (p k.Lambda && (p k.Load && (p k.Not && (p k.Or && (p k.Pass && (p k.Return && (p k.Reserved)))))))))))))))))))))))))))) from_34
  each_kind k.NotEqual = first_holds (p k.NotEqual) (p k.PlusAssign && (p k.MinusAssign && (p k.StarAssign && (p k.SlashAssign && (p k.SlashSlashAssign && (p k.PercentAssign && (p k.AmpersandAssign && (p k.PipeAssign && (p k.CaretAssign && (p k.LessLessAssign && (p k.GreaterGreaterAssign && (p k.And && (p k.Break && (p k.Continue && (p k.Def && (p k.Elif && (p k.Else && (p k.For && (p k.If && (p k.In && (p k.Lambda && (p k.Load && (p k.Not && (p k.Or && (p k.Pass && (p k.Return && (p k.Reserved))))))))))))))))))))))))))) from_35
  each_kind k.PlusAssign = first_holds (p k.PlusAssign) (p k.MinusAssign && (p k.StarAssign && (p k.SlashAssign && (p k.SlashSlashAssign && (p k.PercentAssign && (p k.AmpersandAssign && (p k.PipeAssign && (p k.CaretAssign && (p k.LessLessAssign && (p k.GreaterGreaterAssign && (p k.And && (p k.Break && (p k.Continue && (p k.Def && (p k.Elif && (p k.Else && (p k.For && (p k.If && (p k.In && (p k.Lambda && (p k.Load && (p k.Not && (p k.Or && (p k.Pass && (p k.Return && (p k.Reserved)))))))))))))))))))))))))) from_36
  each_kind k.MinusAssign = first_holds (p k.MinusAssign) (p k.StarAssign && (p k.SlashAssign && (p k.SlashSlashAssign && (p k.PercentAssign && (p k.AmpersandAssign && (p k.PipeAssign && (p k.CaretAssign && (p k.LessLessAssign && (p k.GreaterGreaterAssign && (p k.And && (p k.Break && (p k.Continue && (p k.Def && (p k.Elif && (p k.Else && (p k.For && (p k.If && (p k.In && (p k.Lambda && (p k.Load && (p k.Not && (p k.Or && (p k.Pass && (p k.Return && (p k.Reserved))))))))))))))))))))))))) from_37
  each_kind k.StarAssign = first_holds (p k.StarAssign) (p k.SlashAssign && (p k.SlashSlashAssign && (p k.PercentAssign && (p k.AmpersandAssign && (p k.PipeAssign && (p k.CaretAssign && (p k.LessLessAssign && (p k.GreaterGreaterAssign && (p k.And && (p k.Break && (p k.Continue && (p k.Def && (p k.Elif && (p k.Else && (p k.For && (p k.If && (p k.In && (p k.Lambda && (p k.Load && (p k.Not && (p k.Or && (p k.Pass && (p k.Return && (p k.Reserved)))))))))))))))))))))))) from_38
  each_kind k.SlashAssign = first_holds (p k.SlashAssign) (p k.SlashSlashAssign && (p k.PercentAssign && (p k.AmpersandAssign && (p k.PipeAssign && (p k.CaretAssign && (p k.LessLessAssign && (p k.GreaterGreaterAssign && (p k.And && (p k.Break && (p k.Continue && (p k.Def && (p k.Elif && (p k.Else && (p k.For && (p k.If && (p k.In && (p k.Lambda && (p k.Load && (p k.Not && (p k.Or && (p k.Pass && (p k.Return && (p k.Reserved))))))))))))))))))))))) from_39
  each_kind k.SlashSlashAssign = first_holds (p k.SlashSlashAssign) (p k.PercentAssign && (p k.AmpersandAssign && (p k.PipeAssign && (p k.CaretAssign && (p k.LessLessAssign && (p k.GreaterGreaterAssign && (p k.And && (p k.Break && (p k.Continue && (p k.Def && (p k.Elif && (p k.Else && (p k.For && (p k.If && (p k.In && (p k.Lambda && (p k.Load && (p k.Not && (p k.Or && (p k.Pass && (p k.Return && (p k.Reserved)))))))))))))))))))))) from_40
  each_kind k.PercentAssign = first_holds (p k.PercentAssign) (p k.AmpersandAssign && (p k.PipeAssign && (p k.CaretAssign && (p k.LessLessAssign && (p k.GreaterGreaterAssign && (p k.And && (p k.Break && (p k.Continue && (p k.Def && (p k.Elif && (p k.Else && (p k.For && (p k.If && (p k.In && (p k.Lambda && (p k.Load && (p k.Not && (p k.Or && (p k.Pass && (p k.Return && (p k.Reserved))))))))))))))))))))) from_41
  each_kind k.AmpersandAssign = first_holds (p k.AmpersandAssign) (p k.PipeAssign && (p k.CaretAssign && (p k.LessLessAssign && (p k.GreaterGreaterAssign && (p k.And && (p k.Break && (p k.Continue && (p k.Def && (p k.Elif && (p k.Else && (p k.For && (p k.If && (p k.In && (p k.Lambda && (p k.Load && (p k.Not && (p k.Or && (p k.Pass && (p k.Return && (p k.Reserved)))))))))))))))))))) from_42
  each_kind k.PipeAssign = first_holds (p k.PipeAssign) (p k.CaretAssign && (p k.LessLessAssign && (p k.GreaterGreaterAssign && (p k.And && (p k.Break && (p k.Continue && (p k.Def && (p k.Elif && (p k.Else && (p k.For && (p k.If && (p k.In && (p k.Lambda && (p k.Load && (p k.Not && (p k.Or && (p k.Pass && (p k.Return && (p k.Reserved))))))))))))))))))) from_43
  each_kind k.CaretAssign = first_holds (p k.CaretAssign) (p k.LessLessAssign && (p k.GreaterGreaterAssign && (p k.And && (p k.Break && (p k.Continue && (p k.Def && (p k.Elif && (p k.Else && (p k.For && (p k.If && (p k.In && (p k.Lambda && (p k.Load && (p k.Not && (p k.Or && (p k.Pass && (p k.Return && (p k.Reserved)))))))))))))))))) from_44
  each_kind k.LessLessAssign = first_holds (p k.LessLessAssign) (p k.GreaterGreaterAssign && (p k.And && (p k.Break && (p k.Continue && (p k.Def && (p k.Elif && (p k.Else && (p k.For && (p k.If && (p k.In && (p k.Lambda && (p k.Load && (p k.Not && (p k.Or && (p k.Pass && (p k.Return && (p k.Reserved))))))))))))))))) from_45
  each_kind k.GreaterGreaterAssign = first_holds (p k.GreaterGreaterAssign) (p k.And && (p k.Break && (p k.Continue && (p k.Def && (p k.Elif && (p k.Else && (p k.For && (p k.If && (p k.In && (p k.Lambda && (p k.Load && (p k.Not && (p k.Or && (p k.Pass && (p k.Return && (p k.Reserved)))))))))))))))) from_46
  each_kind k.And = first_holds (p k.And) (p k.Break && (p k.Continue && (p k.Def && (p k.Elif && (p k.Else && (p k.For && (p k.If && (p k.In && (p k.Lambda && (p k.Load && (p k.Not && (p k.Or && (p k.Pass && (p k.Return && (p k.Reserved))))))))))))))) from_47
  each_kind k.Break = first_holds (p k.Break) (p k.Continue && (p k.Def && (p k.Elif && (p k.Else && (p k.For && (p k.If && (p k.In && (p k.Lambda && (p k.Load && (p k.Not && (p k.Or && (p k.Pass && (p k.Return && (p k.Reserved)))))))))))))) from_48
  each_kind k.Continue = first_holds (p k.Continue) (p k.Def && (p k.Elif && (p k.Else && (p k.For && (p k.If && (p k.In && (p k.Lambda && (p k.Load && (p k.Not && (p k.Or && (p k.Pass && (p k.Return && (p k.Reserved))))))))))))) from_49
  each_kind k.Def = first_holds (p k.Def) (p k.Elif && (p k.Else && (p k.For && (p k.If && (p k.In && (p k.Lambda && (p k.Load && (p k.Not && (p k.Or && (p k.Pass && (p k.Return && (p k.Reserved)))))))))))) from_50
  each_kind k.Elif = first_holds (p k.Elif) (p k.Else && (p k.For && (p k.If && (p k.In && (p k.Lambda && (p k.Load && (p k.Not && (p k.Or && (p k.Pass && (p k.Return && (p k.Reserved))))))))))) from_51
  each_kind k.Else = first_holds (p k.Else) (p k.For && (p k.If && (p k.In && (p k.Lambda && (p k.Load && (p k.Not && (p k.Or && (p k.Pass && (p k.Return && (p k.Reserved)))))))))) from_52
  each_kind k.For = first_holds (p k.For) (p k.If && (p k.In && (p k.Lambda && (p k.Load && (p k.Not && (p k.Or && (p k.Pass && (p k.Return && (p k.Reserved))))))))) from_53
  each_kind k.If = first_holds (p k.If) (p k.In && (p k.Lambda && (p k.Load && (p k.Not && (p k.Or && (p k.Pass && (p k.Return && (p k.Reserved)))))))) from_54
  each_kind k.In = first_holds (p k.In) (p k.Lambda && (p k.Load && (p k.Not && (p k.Or && (p k.Pass && (p k.Return && (p k.Reserved))))))) from_55
  each_kind k.Lambda = first_holds (p k.Lambda) (p k.Load && (p k.Not && (p k.Or && (p k.Pass && (p k.Return && (p k.Reserved)))))) from_56
  each_kind k.Load = first_holds (p k.Load) (p k.Not && (p k.Or && (p k.Pass && (p k.Return && (p k.Reserved))))) from_57
  each_kind k.Not = first_holds (p k.Not) (p k.Or && (p k.Pass && (p k.Return && (p k.Reserved)))) from_58
  each_kind k.Or = first_holds (p k.Or) (p k.Pass && (p k.Return && (p k.Reserved))) from_59
  each_kind k.Pass = first_holds (p k.Pass) (p k.Return && (p k.Reserved)) from_60
  each_kind k.Return = first_holds (p k.Return) (p k.Reserved) from_61
  each_kind k.Reserved = from_62

abbrev pub implies : (TokenKind → Bool) → (TokenKind → Bool) → TokenKind → Bool
implies f g q = not (f q) || g q

abbrev pub excludes : (TokenKind → Bool) → (TokenKind → Bool) → TokenKind → Bool
excludes f g q = not (f q) || not (g q)

use_implied : (a b : Bool) → (not a || b) ≡ true → a ≡ true → b ≡ true
use_implied true b h e = h
use_implied false b h e = absurd (cc)

use_excluded : (a b : Bool) → (not a || not b) ≡ true → a ≡ true → b ≡ false
use_excluded true true h e = absurd (cc)
use_excluded true false h e = refl
use_excluded false b h e = absurd (cc)

pub implied : (f g : TokenKind → Bool) → all_kinds (implies f g) ≡ true → (q : TokenKind) → f q ≡ true → g q ≡ true
implied f g h q e = use_implied (f q) (g q) (each_kind (implies f g) h q) e

pub excluded : (f g : TokenKind → Bool) → all_kinds (excludes f g) ≡ true → (q : TokenKind) → f q ≡ true → g q ≡ false
excluded f g h q e = use_excluded (f q) (g q) (each_kind (excludes f g) h q) e

-- ---- what ends a phrase: the least level at which a token goes on with an expression

abbrev pub continues : TokenKind → ℕ
continues k.LeftParen = 0
continues k.LeftBracket = 0
continues k.Dot = 0
continues k.Star = 1
continues k.SlashSlash = 1
continues k.Percent = 1
continues k.Slash = 1
continues k.Plus = 2
continues k.Minus = 2
continues k.LessLess = 3
continues k.GreaterGreater = 3
continues k.Ampersand = 4
continues k.Caret = 5
continues k.Pipe = 6
continues k.EqualEqual = 7
continues k.NotEqual = 7
continues k.Less = 7
continues k.Greater = 7
continues k.LessEqual = 7
continues k.GreaterEqual = 7
continues k.In = 7
continues k.Not = 7
continues k.And = 9
continues k.Or = 10
continues k.If = 11
continues k.Comma = 12
continues _ = 13

-- tokens that end an expression of a level
abbrev pub ends : ℕ → TokenKind → Bool
ends l q = nat_lt l (continues q)

abbrev pub any : TokenKind → Bool
any q = true

-- ---- what begins a phrase

abbrev pub is_operator : ℕ → TokenKind → Bool
is_operator l q = is_known (operator_at l q)

abbrev pub is_sign : TokenKind → Bool
is_sign q = is_known (sign q)

abbrev pub is_negation : TokenKind → Bool
is_negation q = is_known (negation q)

abbrev pub first_operand : TokenKind → Bool
first_operand k.Identifier = true
first_operand k.Int = true
first_operand k.String = true
first_operand k.LeftParen = true
first_operand k.LeftBracket = true
first_operand k.LeftBrace = true
first_operand _ = false

abbrev pub first_unary : TokenKind → Bool
first_unary q = first_operand q || is_sign q

abbrev pub first_not : TokenKind → Bool
first_not q = first_unary q || is_negation q

abbrev pub is_lambda : TokenKind → Bool
is_lambda k.Lambda = true
is_lambda _ = false

abbrev pub first_test : TokenKind → Bool
first_test q = first_not q || is_lambda q

abbrev pub first_var : TokenKind → Bool
first_var k.Identifier = true
first_var k.LeftParen = true
first_var k.LeftBracket = true
first_var _ = false

abbrev pub first_suffix : TokenKind → Bool
first_suffix k.Dot = true
first_suffix k.LeftParen = true
first_suffix k.LeftBracket = true
first_suffix _ = false

abbrev pub first_comparison : TokenKind → Bool
first_comparison q = is_known (comparison q) || is_negation q

abbrev pub is_comma : TokenKind → Bool
is_comma k.Comma = true
is_comma _ = false

abbrev pub is_for : TokenKind → Bool
is_for k.For = true
is_for _ = false

abbrev pub is_if : TokenKind → Bool
is_if k.If = true
is_if _ = false

abbrev pub first_clause : TokenKind → Bool
first_clause q = is_for q || is_if q

abbrev pub first_argument : TokenKind → Bool
first_argument k.Star = true
first_argument k.StarStar = true
first_argument q = first_test q

-- ---- kinds apart

pub paren_comma : same_kind k.RightParen k.Comma ≡ false
unfolding same_kind
paren_comma = refl

pub paren_assign : same_kind k.RightParen k.Assign ≡ false
unfolding same_kind
paren_assign = refl

pub comma_assign : same_kind k.Comma k.Assign ≡ false
unfolding same_kind
comma_assign = refl

pub bracket_comma : same_kind k.RightBracket k.Comma ≡ false
unfolding same_kind
bracket_comma = refl

pub brace_comma : same_kind k.RightBrace k.Comma ≡ false
unfolding same_kind
brace_comma = refl

pub comma_for : same_kind k.Comma k.For ≡ false
unfolding same_kind
comma_for = refl

pub bracket_for : same_kind k.RightBracket k.For ≡ false
unfolding same_kind
bracket_for = refl

pub brace_for : same_kind k.RightBrace k.For ≡ false
unfolding same_kind
brace_for = refl

pub bracket_if : same_kind k.RightBracket k.If ≡ false
unfolding same_kind
bracket_if = refl

pub brace_if : same_kind k.RightBrace k.If ≡ false
unfolding same_kind
brace_if = refl

pub star_star_star : same_kind k.StarStar k.Star ≡ false
unfolding same_kind
star_star_star = refl

pub identifier_star : same_kind k.Identifier k.Star ≡ false
unfolding same_kind
identifier_star = refl

pub identifier_star_star : same_kind k.Identifier k.StarStar ≡ false
unfolding same_kind
identifier_star_star = refl

pub bracket_colon : same_kind k.RightBracket k.Colon ≡ false
unfolding same_kind
bracket_colon = refl

pub comma_colon : same_kind k.Comma k.Colon ≡ false
unfolding same_kind
comma_colon = refl

pub paren_dot : same_kind k.LeftParen k.Dot ≡ false
unfolding same_kind
paren_dot = refl

pub open_dot : same_kind k.LeftBracket k.Dot ≡ false
unfolding same_kind
open_dot = refl

pub open_paren : same_kind k.LeftBracket k.LeftParen ≡ false
unfolding same_kind
open_paren = refl

-- ---- classes are the tests of the reader

pub comma_same : all_kinds (implies is_comma (λ q. same_kind q k.Comma)) ≡ true
unfolding same_kind
comma_same = refl

pub for_same : all_kinds (implies is_for (λ q. same_kind q k.For)) ≡ true
unfolding same_kind
for_same = refl

pub if_same : all_kinds (implies is_if (λ q. same_kind q k.If)) ≡ true
unfolding same_kind
if_same = refl

pub clause_same : all_kinds (implies first_clause (λ q. same_kind q k.For || same_kind q k.If)) ≡ true
unfolding same_kind
clause_same = refl

pub suffix_same : all_kinds (implies first_suffix (λ q. same_kind q k.Dot || (same_kind q k.LeftParen || same_kind q k.LeftBracket))) ≡ true
unfolding same_kind
suffix_same = refl
