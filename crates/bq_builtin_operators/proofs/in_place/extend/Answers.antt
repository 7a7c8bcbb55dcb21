use Rattle.bq_builtin_operators.specs.InPlace.{list_extended}
use Rattle.bq_builtin_operators.proofs.Changes.{content_changed}
use Rattle.bq_builtin_operators.proofs.in_place.extend.Goals as goal

pub returns : goal.returns
returns c =
    content_changed c.args.list.module c.args.list.number (list_extended c.args.more) c.args.machine.now c.in_ok-content.content.now c.list_extended.new.content c.list_extended.result
    c.in_ok-content.ensures.says c.in_ok-content.ensures.now c.list_extended.ensures
