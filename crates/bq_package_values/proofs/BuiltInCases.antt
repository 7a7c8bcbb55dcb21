-- Parts of definitions, as words that proofs name.
use Rattle.std.specs.Prelude.{None, Option, Some, ℕ}
use Rattle.bq_predeclared.specs.declared.predeclared.Predeclared.{Predeclared}
use Rattle.bq_resolve_scope.specs.Names.{Name}
use Rattle.bq_value.specs.Datum.{Datum, built_in, none, predeclared, schema_rule}

-- a rule that the schema hasn't stands for nothing; no program has it
abbrev pub rule_value : ℕ → Option Name → Datum
rule_value place o = elim o [ None ↦ none | Some name ↦ built_in (schema_rule place name) ]

-- what has this name, if it has one
abbrev pub named_value : Predeclared → Option Name → Datum
named_value x o = elim o [ None ↦ none | Some name ↦ built_in (predeclared x) ]
