use Rattle.std.proofs.Common.{◌≡◌, length, map}
use Rattle.bq_query_lex.specs.TargetPatterns.{form_by, word_form}
use Rattle.bq_query_lex.proofs.target_pattern.word_form.Given as goal

abbrev pub invariant-loop-table : goal.invariant-loop-table
invariant-loop-table l = form_by (map (λ e. (e.0.now, e.1, e.2)) l.table) l.word ≡ word_form l.word

abbrev pub decreases-loop-table : goal.decreases-loop-table
decreases-loop-table l = length l.table
