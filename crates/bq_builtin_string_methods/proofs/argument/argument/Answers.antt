use Rattle.bq_builtin_format.proofs.Digits.{value_at}
use Rattle.bq_builtin_string_methods.proofs.argument.argument.Goals as goal

pub returns : goal.returns
returns c = value_at c.args.values.now c.get.result c.args.index (c.get.ensures.lookup.3)
