-- What the fields of arguments, and of what they are bound to, stand for.
use Rattle.bq_builtin_machine.specs.Args.{Passed}
use Rattle.bq_builtin_machine.specs.Binding.{BoundView}
use Rattle.bq_builtin_machine.specs.declared.args.Args.TheInside.{Inside}
use Rattle.bq_builtin_machine.specs.declared.binding.Bound.TheInside.{Inside as BoundInside}

-- the positional and the named arguments of a call, each in written order
abbrev pub passed_of : Inside → Passed
passed_of a = record { positional = a.positional.items; named = a.named.items }

-- the argument of each parameter, and the positional and the named ones that are left
abbrev pub bound_of : BoundInside → BoundView
bound_of b = record { values = b.values.items; rest = b.rest.items; keywords = b.keywords }
