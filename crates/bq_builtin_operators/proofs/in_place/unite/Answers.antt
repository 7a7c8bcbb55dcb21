use Rattle.bq_builtin_operators.specs.InPlace.{dict_united}
use Rattle.bq_builtin_operators.proofs.Changes.{content_changed}
use Rattle.bq_builtin_operators.proofs.in_place.unite.Goals as goal

pub returns : goal.returns
returns c =
    content_changed c.args.dict.module c.args.dict.number (dict_united c.args.more.now) c.args.machine.now c.in_ok-content.content.now c.dict_united.new.content c.dict_united.result
    c.in_ok-content.ensures.says c.in_ok-content.ensures.now c.dict_united.ensures
