use Rattle.std.proofs.Common.{suc, arith}
use Rattle.bq_parse_laws.proofs.Targets.{target_comes, target_back}
use Rattle.bq_parse_laws.proofs.statements.assignments_have_targets.Goals as goal

pub returns : goal.returns
returns c depth ts rest x = (
  λ p. let w = target_comes depth ts rest x p in (w.0, w.1, w.2 (suc depth) (omega arith)),
  λ y p h. target_back depth (suc (suc depth)) ts rest x y p h,
)
