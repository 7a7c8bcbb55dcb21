use Rattle.bq_builtin_machine.proofs.Walking.{walk_ends, walk_keeps}
use Rattle.bq_builtin_machine.proofs.laws.walks_begin_and_end.Goals as goal

pub returns : goal.returns
returns c = record { nothing_is_left = walk_ends; stays = walk_keeps }
