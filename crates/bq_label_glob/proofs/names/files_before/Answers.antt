use Rattle.std.proofs.Common.{rules}
use Rattle.std.proofs.lemmas.Fn.{always_returns_same}
use Rattle.bq_label_glob.specs.Names.{is_before}
use Rattle.bq_label_glob.proofs.Beneath.{before_first}
use Rattle.bq_label_glob.proofs.names.files_before.Goals as goal

pub returns-clause-before : goal.returns-clause-before
returns-clause-before c =
    rw (← c.files.ensures.value) (c.partition_point.ensures.partitioned (is_before c.args.text.now) (always_returns_same _ _ _ (λ a r q k. search rules)) (rw c.files.ensures.value (before_first c.args.text.now c.args.workspace.now c.files.ensures.valid.ascending)))
