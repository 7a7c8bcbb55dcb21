use Rattle.bq_builtin_operators.specs.InPlace.{pair_put}
use Rattle.bq_builtin_operators.proofs.Changes.{content_changed}
use Rattle.bq_builtin_operators.proofs.in_place.set_value.Goals as goal

pub returns : goal.returns
returns c =
    content_changed c.args.dict.module c.args.dict.number (pair_put c.args.key c.args.value) c.args.machine.now c.in_ok-content.content.now c.pair_put.new.content c.pair_put.result
    c.in_ok-content.ensures.says c.in_ok-content.ensures.now c.pair_put.ensures
