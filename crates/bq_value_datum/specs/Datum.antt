-- What a value is (Starlark, "Data types"), as plain data: nothing of how it is shared or laid out.
use Rattle.std.specs.Prelude.{◌≡◌, ℕ, ◌+◌, ℤ, Bool, List, [], ◌∷◌, Option, Some, None, refl}
use Rattle.std.proofs.Common.{ap}
use Rattle.bq_predeclared.specs.Predeclared.{name_of}
use Rattle.bq_predeclared.specs.declared.host_function.HostFunction.TheVariants as host
use Rattle.bq_predeclared.specs.declared.predeclared.Predeclared.{Predeclared}
use Rattle.bq_predeclared.specs.declared.predeclared.Predeclared.TheVariants as p
use Rattle.bq_predeclared.specs.declared.rule_function.RuleFunction.{RuleFunction}
use Rattle.bq_value_datum.specs.declared.attribute.Attribute.{Attribute}

-- a built-in function: one of the language or a build function, which have names of their own, or a rule of the schema, by its place
-- there and its name
pub data BuiltIn : Type 0 where
  predeclared : Predeclared → BuiltIn
  schema_rule : ℕ → List ℕ → BuiltIn

-- what is called
abbrev pub function_of : BuiltIn → Predeclared
function_of (predeclared x) = x
function_of (schema_rule place name) = p.Host (host.Rule place)

-- what has no name, which no program has, prints none
abbrev pub text_of_name : Option (List ℕ) → List ℕ
text_of_name None = []
text_of_name (Some name) = name

-- the name that it prints
abbrev pub built_in_name : BuiltIn → List ℕ
built_in_name (predeclared x) = text_of_name (name_of x)
built_in_name (schema_rule place name) = name

mutual
  -- a value; a list, a dict or a rule is a cell, whose number is beside that of its module
  pub data Datum : Type 0 where
    none : Datum
    boolean : Bool → Datum
    int : ℤ → Datum
    string : List ℕ → Datum
    tuple : Data → Datum
    range : ℤ → ℤ → ℤ → Datum
    cell : ℕ → ℕ → Datum
    function : ℕ → ℕ → List ℕ → Data → Datum
    built_in : BuiltIn → Datum
    rule_function : RuleFunction → Datum
    attribute : Attribute → Datum

  -- the values of a tuple, or the defaults of a function, in order
  pub data Data : Type 0 where
    end : Data
    datum : Datum → Data → Data

-- a value, `None` where it is missing
abbrev pub or_none : Option Datum → Datum
or_none None = none
or_none (Some v) = v

-- a list of values, as a tuple has it
abbrev pub data_of : List Datum → Data
data_of [] = end
data_of (x ∷ xs) = datum x (data_of xs)

-- the values of a tuple
abbrev pub list_of : Data → List Datum
list_of end = []
list_of (datum x xs) = x ∷ list_of xs

-- a list that is turned into a tuple's values and back is itself
pub list_of_data_of : (xs : List Datum) → list_of (data_of xs) ≡ xs
list_of_data_of [] = refl
list_of_data_of (x ∷ xs) = ap (λ t. x ∷ t) (list_of_data_of xs)

-- how many values a value has in it, itself too, and some more: what a walk over it counts down
abbrev mutual
  pub weight : Datum → ℕ
  weight none = 1
  weight (boolean b) = 1
  weight (int n) = 1
  weight (string s) = 1
  weight (tuple xs) = weights xs + 1
  weight (range a b c) = 1
  weight (cell m n) = 1
  weight (function m n name xs) = weights xs + 1
  weight (built_in f) = 1
  weight (rule_function f) = 1
  weight (attribute a) = 1

  pub weights : Data → ℕ
  weights end = 1
  weights (datum x xs) = weight x + weights xs + 1
