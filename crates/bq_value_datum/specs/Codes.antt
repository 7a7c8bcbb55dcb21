-- That values can be told apart: each has a code of its own, the number of its kind and what it is made of.
use Rattle.std.specs.Prelude.{◌≡◌, ℕ, List, Option, Some, None, refl}
use Rattle.std.proofs.Common.{sym, ◌∙◌, ap, arith}
use Rattle.std.specs.Coded.{coded_ℕ, coded_ℤ, coded_bool, coded_list, coded_option}
use base.Stored.{Coded, Gv, gnil, gnum, gcons}
use denote.Enum.Declared.{tag_of}
use Rattle.bq_predeclared.specs.AttributeType.{coded_type}
use Rattle.bq_predeclared.proofs.NameFound.{each_name}
use Rattle.bq_predeclared.specs.HostFunctions.{host_function_name}
use Rattle.bq_predeclared.specs.contracts.predeclared.Predeclared as variants
use Rattle.bq_predeclared.specs.declared.host_function.HostFunction.{HostFunction}
use Rattle.bq_predeclared.specs.declared.host_function.HostFunction.TheVariants as host
use Rattle.bq_predeclared.specs.declared.predeclared.Predeclared.{Predeclared}
use Rattle.bq_predeclared.specs.declared.predeclared.Predeclared.TheVariants as p
use Rattle.bq_predeclared.specs.declared.rule_function.RuleFunction.{RuleFunction}
use Rattle.bq_predeclared.specs.declared.rule_function.RuleFunction.TheVariants as rules
use Rattle.bq_value_datum.specs.AttributeCodes.{coded_attribute}
pub use Rattle.bq_value_datum.specs.AttributeCodes.{coded_class}
use Rattle.bq_value_datum.specs.Datum.{BuiltIn, predeclared, schema_rule, Datum, none, boolean, int, string, tuple, range, cell, function, built_in, rule_function, attribute, Data, end, datum}
use Rattle.bq_value_datum.specs.Same.{rule_place}

-- a code of each text, which no other text has
abbrev pub coded_text : Coded (List ℕ)
coded_text = coded_list coded_ℕ

abbrev coded_name : Coded (Option (List ℕ))
coded_name = coded_option coded_text

-- a function that declares rules: `rule`, or the type of the attributes that it makes
abbrev rule_function_gv : RuleFunction → Gv
rule_function_gv rules.Rule = gcons (gnum 0) gnil
rule_function_gv (rules.Attr kind) = gcons (gnum 1) (coded_type.code kind)

-- what a variant holds
abbrev part_gv : Predeclared → Gv
part_gv (p.BuiltIn place) = gnum place
part_gv (p.Host f) = gcons (coded_name.code (host_function_name f)) (gnum (rule_place f))
part_gv (p.RuleFunction f) = rule_function_gv f
part_gv _ = gnil

-- the code of what every file has: the number of its kind, and what tells it apart from others of the kind
abbrev pub predeclared_gv : Predeclared → Gv
predeclared_gv x = gcons (gnum (tag_of variants.the_type x)) (part_gv x)

-- the code of a built-in function: 0 and what it is, or 1 and a schema rule's place and name
abbrev pub built_in_gv : BuiltIn → Gv
built_in_gv (predeclared x) = gcons (gnum 0) (predeclared_gv x)
built_in_gv (schema_rule place name) = gcons (gnum 1) (gcons (gnum place) (coded_text.code name))

abbrev mutual
  pub datum_gv : Datum → Gv
  datum_gv none = gcons (gnum 0) gnil
  datum_gv (boolean b) = gcons (gnum 1) (coded_bool.code b)
  datum_gv (int n) = gcons (gnum 2) (coded_ℤ.code n)
  datum_gv (string s) = gcons (gnum 3) (coded_text.code s)
  datum_gv (tuple vs) = gcons (gnum 4) (data_gv vs)
  datum_gv (range a b c) = gcons (gnum 5) (gcons (coded_ℤ.code a) (gcons (coded_ℤ.code b) (coded_ℤ.code c)))
  datum_gv (cell m n) = gcons (gnum 6) (gcons (gnum m) (gnum n))
  datum_gv (function m n name vs) = gcons (gnum 7) (gcons (gcons (gnum m) (gnum n)) (gcons (coded_text.code name) (data_gv vs)))
  datum_gv (built_in a) = gcons (gnum 8) (built_in_gv a)
  datum_gv (rule_function f) = gcons (gnum 9) (rule_function_gv f)
  datum_gv (attribute a) = gcons (gnum 10) (coded_attribute.code a)

  pub data_gv : Data → Gv
  data_gv end = gnil
  data_gv (datum v vs) = gcons (datum_gv v) (data_gv vs)

abbrev left : Gv → Gv
left (gcons a b) = a
left _ = gnil

abbrev right : Gv → Gv
right (gcons a b) = b
right _ = gnil

abbrev num : Gv → ℕ
num (gnum n) = n
num _ = 0

-- functions of a host can be told apart by their names and places
nameless : (f : HostFunction) → host_function_name f ≡ None → f ≡ host.Rule (rule_place f)
nameless (host.Rule place) e = refl
nameless _ e = absurd (cc)

abbrev host_in : Option Predeclared → HostFunction
host_in (Some (p.Host f)) = f
host_in _ = host.Glob

hosts_differ_by : (f g : HostFunction) (o : Option (List ℕ)) → host_function_name f ≡ o → host_function_name g ≡ o → rule_place f ≡ rule_place g → f ≡ g
hosts_differ_by f g (Some name) e h place = ap host_in (sym (each_name (p.Host f) name e) ∙ each_name (p.Host g) name h)
hosts_differ_by f g None e h place = nameless f e ∙ (ap host.Rule place ∙ sym (nameless g h))

-- build functions of the same name, and rules of the same place in the schema, are one
pub hosts_differ : (f g : HostFunction) → host_function_name f ≡ host_function_name g → rule_place f ≡ rule_place g → f ≡ g
hosts_differ f g e place = hosts_differ_by f g (host_function_name g) e refl place

functions_differ : (f g : RuleFunction) → rule_function_gv f ≡ rule_function_gv g → f ≡ g
functions_differ rules.Rule rules.Rule e = refl
functions_differ (rules.Attr kind) (rules.Attr other) e = ap rules.Attr (coded_type.inj kind other (ap right e))
functions_differ _ _ e = absurd (omega (arith, ap (λ g. num (left g)) e))

predeclared_differ : (x y : Predeclared) → predeclared_gv x ≡ predeclared_gv y → x ≡ y
predeclared_differ p.None p.None e = refl
predeclared_differ p.True p.True e = refl
predeclared_differ p.False p.False e = refl
predeclared_differ (p.BuiltIn m) (p.BuiltIn n) e = ap p.BuiltIn (ap (λ g. num (right g)) e)
predeclared_differ (p.Host f) (p.Host g) e =
    let name : host_function_name f ≡ host_function_name g = coded_name.inj (host_function_name f) (host_function_name g) (ap (λ v. left (right v)) e) in
    let place : rule_place f ≡ rule_place g = ap (λ v. num (right (right v))) e in
    ap p.Host (hosts_differ f g name place)
predeclared_differ (p.RuleFunction f) (p.RuleFunction g) e = ap p.RuleFunction (functions_differ f g (ap right e))
predeclared_differ _ _ e = absurd (omega (arith, ap (λ g. num (left g)) e))

-- built-in functions with the same code are one
pub same_coded : (x y : BuiltIn) → built_in_gv x ≡ built_in_gv y → x ≡ y
same_coded (predeclared x) (predeclared y) e = ap predeclared (predeclared_differ x y (ap right e))
same_coded (schema_rule m s) (schema_rule n t) e =
    let place : m ≡ n = ap (λ g. num (left (right g))) e in
    let name : s ≡ t = coded_text.inj s t (ap (λ g. right (right g)) e) in
    λ i. schema_rule (place i) (name i)
same_coded _ _ e = absurd (omega (arith, ap (λ g. num (left g)) e))

mutual
  pub same_datum : (x y : Datum) → datum_gv x ≡ datum_gv y → x ≡ y
  same_datum none none e = refl
  same_datum (boolean a) (boolean b) e = ap boolean (coded_bool.inj a b (ap right e))
  same_datum (int a) (int b) e = ap int (coded_ℤ.inj a b (ap right e))
  same_datum (string a) (string b) e = ap string (coded_text.inj a b (ap right e))
  same_datum (tuple a) (tuple b) e = ap tuple (same_data a b (ap right e))
  same_datum (range a b c) (range k l m) e =
      let start : a ≡ k = coded_ℤ.inj a k (ap (λ g. left (right g)) e) in
      let stop : b ≡ l = coded_ℤ.inj b l (ap (λ g. left (right (right g))) e) in
      let step : c ≡ m = coded_ℤ.inj c m (ap (λ g. right (right (right g))) e) in
      λ i. range (start i) (stop i) (step i)
  same_datum (cell a m) (cell b n) e =
      let home : a ≡ b = ap (λ g. num (left (right g))) e in
      let number : m ≡ n = ap (λ g. num (right (right g))) e in
      λ i. cell (home i) (number i)
  same_datum (function a m s vs) (function b n t ws) e =
      let home : a ≡ b = ap (λ g. num (left (left (right g)))) e in
      let place : m ≡ n = ap (λ g. num (right (left (right g)))) e in
      let name : s ≡ t = coded_text.inj s t (ap (λ g. left (right (right g))) e) in
      let defaults : vs ≡ ws = same_data vs ws (ap (λ g. right (right (right g))) e) in
      λ i. function (home i) (place i) (name i) (defaults i)
  same_datum (built_in a) (built_in b) e = ap built_in (same_coded a b (ap right e))
  same_datum (rule_function a) (rule_function b) e = ap rule_function (functions_differ a b (ap right e))
  same_datum (attribute a) (attribute b) e = ap attribute (coded_attribute.inj a b (ap right e))
  same_datum _ _ e = absurd (omega (arith, ap (λ g. num (left g)) e))

  pub same_data : (x y : Data) → data_gv x ≡ data_gv y → x ≡ y
  same_data end end e = refl
  same_data (datum v vs) (datum w ws) e =
      let first : v ≡ w = same_datum v w (ap left e) in
      let rest : vs ≡ ws = same_data vs ws (ap right e) in
      λ i. datum (first i) (rest i)
  same_data _ _ e = cc

-- a code of each value, which no other value has
abbrev pub coded_datum : Coded Datum
coded_datum = record { code = datum_gv; inj = same_datum }
