-- When two values are the same value in each part, and what a key feeds to a hash. Of two keys this is the equality of the
-- language (Starlark, "Comparisons", "Hashing"): `1`, `"1"` and `True` are three keys.
use Rattle.std.specs.Prelude.{ℕ, Bool, true, false, ◌&&◌, List, [], ◌∷◌, ◌++◌, ◌==◌, Option, Some, None}
use Rattle.std.specs.Ordering.{int_eq}
use Rattle.std.specs.Cmp.Lexicographic.{pointwise}
use Rattle.std.specs.Hash as fed
use denote.Enum.Bare.{sameb}
use Rattle.bq_predeclared.specs.contracts.attribute_type.AttributeType.{the_type}
use Rattle.bq_predeclared.specs.HostFunctions.{host_function_name}
use Rattle.bq_predeclared.specs.declared.host_function.HostFunction.{HostFunction}
use Rattle.bq_predeclared.specs.declared.host_function.HostFunction.TheVariants as host
use Rattle.bq_predeclared.specs.declared.predeclared.Predeclared.{Predeclared}
use Rattle.bq_predeclared.specs.declared.predeclared.Predeclared.TheVariants as p
use Rattle.bq_predeclared.specs.declared.rule_function.RuleFunction.{RuleFunction}
use Rattle.bq_predeclared.specs.declared.rule_function.RuleFunction.TheVariants as rules
use Rattle.bq_value_datum.specs.AttributeSame.{same_attribute}
use Rattle.bq_value_datum.specs.Datum.{BuiltIn, predeclared, schema_rule, Datum, none, boolean, int, string, tuple, range, cell, function, built_in, rule_function, attribute, Data, end, datum}

-- both are true, or both are false
abbrev pub bool_same : Bool → Bool → Bool
bool_same true b = b
bool_same false true = false
bool_same false false = true

-- two names, or none
abbrev pub same_name : Option (List ℕ) → Option (List ℕ) → Bool
same_name None None = true
same_name (Some a) (Some b) = pointwise ◌==◌ a b
same_name _ _ = false

-- the place of a rule in the schema; a build function has a name instead
abbrev pub rule_place : HostFunction → ℕ
rule_place (host.Rule place) = place
rule_place _ = 0

-- two functions of a host: build functions by their names, and rules by their places
abbrev pub same_host : HostFunction → HostFunction → Bool
same_host f g = same_name (host_function_name f) (host_function_name g) && (rule_place f == rule_place g)

-- two functions that declare rules: those that make attributes by the types of these
abbrev pub same_rule_function : RuleFunction → RuleFunction → Bool
same_rule_function rules.Rule rules.Rule = true
same_rule_function (rules.Attr kind) (rules.Attr other) = sameb the_type kind other
same_rule_function _ _ = false

-- two names that every file has: of one kind, and the same function where the kind has many
abbrev pub same_predeclared : Predeclared → Predeclared → Bool
same_predeclared p.None p.None = true
same_predeclared p.True p.True = true
same_predeclared p.False p.False = true
same_predeclared (p.BuiltIn m) (p.BuiltIn n) = m == n
same_predeclared (p.Host f) (p.Host g) = same_host f g
same_predeclared (p.RuleFunction f) (p.RuleFunction g) = same_rule_function f g
same_predeclared _ _ = false

-- two built-in functions: the same predeclared one, or rules of the same place and name in the schema
abbrev pub same_built_in : BuiltIn → BuiltIn → Bool
same_built_in (predeclared x) (predeclared y) = same_predeclared x y
same_built_in (schema_rule m s) (schema_rule n t) = (m == n) && pointwise ◌==◌ s t
same_built_in _ _ = false

abbrev mutual
  pub same : Datum → Datum → Bool
  same none none = true
  same (boolean a) (boolean b) = bool_same a b
  same (int a) (int b) = int_eq a b
  same (string a) (string b) = pointwise ◌==◌ a b
  same (tuple a) (tuple b) = same_all a b
  same (range a b c) (range d e f) = int_eq a d && int_eq b e && int_eq c f
  same (cell a i) (cell b j) = (a == b) && (i == j)
  same (function a i s vs) (function b j t ws) = (a == b) && (i == j) && pointwise ◌==◌ s t && same_all vs ws
  same (built_in a) (built_in b) = same_built_in a b
  same (rule_function f) (rule_function g) = same_rule_function f g
  same (attribute a) (attribute b) = same_attribute a b
  same _ _ = false

  pub same_all : Data → Data → Bool
  same_all end end = true
  same_all (datum v vs) (datum w ws) = same v w && same_all vs ws
  same_all _ _ = false

-- integers and strings, the common keys, feed nothing but themselves
abbrev mutual
  pub feed : Datum → fed.HashWrites
  feed none = fed.u8 0
  feed (boolean b) = fed.bool b
  feed (int n) = fed.i64 n
  feed (string s) = s ∷ []
  feed (tuple vs) = fed.u8 2 ++ feed_all vs
  feed _ = fed.u8 3

  pub feed_all : Data → fed.HashWrites
  feed_all end = []
  feed_all (datum v vs) = feed v ++ feed_all vs
