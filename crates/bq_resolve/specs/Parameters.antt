-- The name of a parameter.
use Rattle.std.specs.Prelude.{[], ◌∷◌, ◌++◌, length, Result, Ok, Err, if◌then◌else◌}
use Rattle.bq_base.specs.declared.fault.NameFault.{NameFault}
use Rattle.bq_base.specs.declared.fault.Fault.{Fault}
use Rattle.bq_base.specs.declared.fault.NameFault.TheVariants as f
use Rattle.bq_parse_grammar.specs.declared.tree.Identifier.{Identifier}
use Rattle.bq_parse_grammar.specs.declared.tree.Referent.TheVariants as b
use Rattle.bq_resolve_scope.specs.Names.{has}
use Rattle.bq_resolve_scope.specs.Visit.{fault_of}
use Rattle.bq_resolve_scope.specs.Expressions.{refer}
use Rattle.bq_resolve_scope.specs.Statements.{ParameterParts}

-- it takes the next slot, and joins the names of the parameters before it; two of one name are F24
abbrev pub slotted : ParameterParts → Identifier → Result (Identifier × ParameterParts) (Fault NameFault)
slotted l n =
    if has l.names n.name then Err (fault_of f.DoubleParameter n) else Ok (refer n (b.Local (length l.names)), record l { names = l.names ++ n.name ∷ [] })
