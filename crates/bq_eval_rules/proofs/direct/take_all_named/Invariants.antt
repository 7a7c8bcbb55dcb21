-- the arguments that are left decide
use Rattle.std.proofs.Common.{◌≡◌}
use Rattle.bq_builtin_machine.specs.Binding.{take_all_named}
use Rattle.bq_eval_rules.specs.Direct.{direct_signature}
use Rattle.bq_eval_rules.proofs.direct.take_all_named.Given as goal

abbrev pub invariant-loop-name : goal.invariant-loop-name
invariant-loop-name l = take_all_named (direct_signature l.parameters) l.name-iterator.rest.items l.bound ≡ take_all_named (direct_signature l.parameters) l.fn.named.items l.fn.bound
