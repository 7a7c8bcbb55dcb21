use Rattle.std.proofs.Common.{◌≡◌, length, map}
use Rattle.std.specs.Map.{lookup}
use Rattle.std.specs.Str.{bytes_eq}
use Rattle.bq_source.specs.Lexis.{word_kind}
use Rattle.bq_source.proofs.Heads.{kind_by}
use Rattle.bq_source.proofs.lexis.word_kind.Given as goal

abbrev pub invariant-loop-table : goal.invariant-loop-table
invariant-loop-table l = kind_by (lookup (bytes_eq l.word) (map (λ k. (k.0.now, k.1)) l.table)) ≡ word_kind l.word

abbrev pub decreases-loop-table : goal.decreases-loop-table
decreases-loop-table l = length l.table
