use Rattle.std.proofs.Common.{List, Result, length}
use Rattle.bq_source.specs.declared.token.Token.{Token}
use Rattle.bq_base.specs.declared.fault.TokenFault.{TokenFault}
use Rattle.bq_base.specs.declared.fault.Fault.{Fault}
use Rattle.bq_source_lexer.specs.Reading.{start, Runs}
use Rattle.bq_source_lexer.proofs.lexer.lex.Given as goal

abbrev pub invariant-loop-lexer : goal.invariant-loop-lexer
invariant-loop-lexer l = (r : Result (List Token) (Fault TokenFault)) → Runs l.lexer r → Runs (start l.text) r

abbrev pub decreases-loop-lexer : goal.decreases-loop-lexer
decreases-loop-lexer l = length l.lexer.rest
