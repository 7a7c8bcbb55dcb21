-- When two tokens are of one kind.
use Rattle.std.specs.Prelude.{Bool}
use denote.Enum.Bare.{sameb}
use Rattle.bq_source.specs.contracts.token.TokenKind.{the_type}
use Rattle.bq_source.specs.declared.token.TokenKind.{TokenKind}

-- two kinds are the same
unfoldable pub same_kind : TokenKind → TokenKind → Bool
same_kind = sameb the_type
