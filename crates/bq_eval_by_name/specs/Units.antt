-- When modules by names and modules by slots are the same ones.
use Rattle.std.specs.Prelude.{◌≡◌, ◌≤◌, ℕ, List, length, map, Ok}
use Rattle.bq_parse_grammar.specs.declared.tree.Parameter.{Parameter}
use Rattle.bq_resolve_scope.specs.declared.file.Function.{Function}
use Rattle.bq_resolve_scope.specs.Names.{function_names}
use Rattle.bq_resolve_scope.specs.Scope.{FileParts}
use Rattle.bq_resolve_scope.specs.Statements.{ParameterParts, no_parameters, parameters, statements_in}
use Rattle.bq_resolve_scope.specs.Visit.{Passed}
use Rattle.bq_resolve_laws.specs.Resolution.{InOrder, Maybe}
use Rattle.bq_eval_spec.specs.Frame.{Surroundings}
use Rattle.bq_eval_spec.specs.Calls.{TreeUnit, Units}
use Rattle.bq_eval_spec.specs.Files.{formal_of}
use Rattle.bq_eval_spec.specs.Names.{Round}
use Rattle.bq_eval_by_name.specs.Shows.{Around}

-- What a function resolves to among the names of its file: its parameters, as they are written, and its body are resolved, wherever in
-- the file it is.
pub record FunctionIs (file : FileParts) (d f : Function) : Type 0 where
  pub name : f.name ≡ d.name
  pub written : List Parameter
  pub formals : d.parameters ≡ map formal_of written
  pub parts : ParameterParts
  pub before : Passed
  pub after : Passed
  pub parameters_are : parameters file no_parameters written before ≡ Ok (parts, after)
  pub parameters : f.parameters ≡ parts.parameters
  pub start : Passed
  pub end : Passed
  pub room : length (function_names written d.body) ≤ start.slots
  pub body : statements_in file (function_names written d.body) d.body start ≡ Ok (f.body, end)

-- the functions of a module are those of the other, in their order, and what is around them says the same
pub record UnitIs (t : TreeUnit Round) (c : TreeUnit Surroundings) : Type 0 where
  pub file : FileParts
  pub functions : InOrder (FunctionIs file) t.functions c.functions
  pub round : Around file t.round c.round

-- of each number both have a module, or neither has
abbrev pub UnitsAgree : Units Round → Units Surroundings → Type 0
UnitsAgree named units = (n : ℕ) → Maybe UnitIs (named n) (units n)
