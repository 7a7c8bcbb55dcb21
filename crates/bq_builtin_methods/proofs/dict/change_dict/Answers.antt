use Rattle.bq_builtin_methods.specs.Dict.{on_pairs, edited}
use Rattle.bq_builtin_methods.proofs.Changes.{content_changed}
use Rattle.bq_builtin_methods.proofs.dict.change_dict.Goals as goal

pub returns : goal.returns
returns c =
    content_changed c.args.dict.module c.args.dict.number (on_pairs (edited c.args.edit)) c.args.machine.now c.in_ok-content.content.now c.edit_content.new.content c.edit_content.result
    c.in_ok-content.ensures.says c.in_ok-content.ensures.now c.edit_content.ensures
