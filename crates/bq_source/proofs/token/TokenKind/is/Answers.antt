use Rattle.std.proofs.Common.{rules}
use Rattle.bq_source.specs.Token.{same_kind}
use Rattle.bq_source.proofs.token.TokenKind.is.Goals as goal

pub returns : goal.returns
unfolding same_kind
returns c = search rules
