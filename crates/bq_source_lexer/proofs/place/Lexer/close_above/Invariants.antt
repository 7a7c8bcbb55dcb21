use Rattle.std.proofs.Common.{◌≡◌, length}
use Rattle.bq_source_lexer.specs.Reading.{close_above}
use Rattle.bq_source_lexer.proofs.place.Lexer.close_above.Given as goal

abbrev pub invariant-loop-innermost : goal.invariant-loop-innermost
invariant-loop-innermost l = close_above l.width l.self.widths l.self ≡ close_above l.width l.initial.self.widths l.initial.self

abbrev pub decreases-loop-innermost : goal.decreases-loop-innermost
decreases-loop-innermost l = length l.self.widths
