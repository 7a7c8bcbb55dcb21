-- How contracts see what the lexer returns.
use Rattle.std.specs.Prelude.{List, Vec}
use Rattle.std.specs.Global.{Global}
use Rattle.bq_source.specs.declared.token.Token.{Token}

-- the tokens of the vector that the lexer returns, in the order of the text
abbrev pub the_tokens : Vec Token Global → List Token
the_tokens v = v.items
