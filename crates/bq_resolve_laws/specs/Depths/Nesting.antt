-- What files that are parsed fail with when they are resolved: no file is too deep.
use Rattle.std.specs.Prelude.{◌≡◌, ◌≢◌, ◌≤◌, List, Err}
use Rattle.std.specs.List.{AllByRecursion}
use Rattle.bq_base.specs.declared.fault.Fault.{Fault}
use Rattle.bq_base.specs.declared.fault.NameFault.{NameFault}
use Rattle.bq_base.specs.declared.fault.NameFault.TheVariants as f
use Rattle.bq_parse_grammar.specs.declared.tree.TopLevel.{TopLevel}
use Rattle.bq_parse_laws.specs.Depth.{max_depth, stmt_depth}
use Rattle.bq_resolve_scope.specs.Universe.{UniverseParts}
use Rattle.bq_resolve_scope.specs.Files.{resolved}

-- where no statement is deeper than those that are parsed, no fault is F11; so each is one of F20 to F24, which the type says
abbrev pub NoFileIsTooDeep : Type 0
NoFileIsTooDeep = (universe : UniverseParts) (ts : List TopLevel) (why : Fault NameFault) → AllByRecursion (λ t. stmt_depth t.statement ≤ max_depth) ts → resolved universe ts ≡ Err why → why.kind ≢ f.Nesting
