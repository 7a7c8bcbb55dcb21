use Rattle.bq_source.proofs.Heads.{one_table}
use Rattle.bq_source.proofs.lexis.word_kind.Goals as goal

pub loop-table-init : goal.loop-table-init
loop-table-init c = one_table c.args.word.now
