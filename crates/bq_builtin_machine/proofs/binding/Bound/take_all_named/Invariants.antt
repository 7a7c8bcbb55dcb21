-- the arguments that are left decide
use Rattle.std.proofs.Common.{◌≡◌}
use Rattle.bq_builtin_machine.specs.Parameters.{signature_of}
use Rattle.bq_builtin_machine.specs.Binding.{take_all_named}
use Rattle.bq_builtin_machine.proofs.binding.Bound.take_all_named.Given as goal

abbrev pub invariant-loop-name : goal.invariant-loop-name
invariant-loop-name l = take_all_named (signature_of l.signature) l.name-iterator.rest.items l.self ≡ take_all_named (signature_of l.signature) l.fn.named.items l.fn.self
