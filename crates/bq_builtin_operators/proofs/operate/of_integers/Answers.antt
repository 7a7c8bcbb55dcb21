use Rattle.std.proofs.Common.{rules, ◌≡◌, ◌∙◌, ap, sym}
use Rattle.bq_builtin_operators.proofs.BothIntegers.{of_integers}
use Rattle.bq_builtin_operators.proofs.operate.of_integers.Goals as goal

pub returns : goal.returns
returns c = λ machine. rw (of_integers c.args.operator c.args.x c.args.y machine) (search rules)

pub returns-in_err-arithmetic : goal.returns-in_err-arithmetic
returns-in_err-arithmetic c = λ machine. rw (of_integers c.args.operator c.args.x c.args.y machine) (search rules)
