-- The laws of `same`: it says just when two values are one datum, so it is an equivalence, and the same keys feed the same.
use Rattle.std.specs.Prelude.{◌≡◌, ◌≢◌, ℕ, Bool, true, false, ◌&&◌, ◌==◌, ℤ, List, Option, Some, None, refl, Decides}
use Rattle.std.proofs.Common.{sym, ◌∙◌, ap}
use Rattle.std.specs.Ordering.{int_eq}
use Rattle.std.specs.Cmp.{signed_Decides, unsigned_Decides, IsEquivalence, decided}
use Rattle.std.specs.Cmp.Lexicographic.{pointwise}
use denote.Enum.Bare.{same_true, true_same}
use lib.Pointwise.{bytes_decides}
use Rattle.bq_predeclared.specs.contracts.attribute_type.AttributeType.{the_type}
use Rattle.bq_predeclared.specs.HostFunctions.{host_function_name}
use Rattle.bq_predeclared.specs.declared.host_function.HostFunction.{HostFunction}
use Rattle.bq_predeclared.specs.declared.predeclared.Predeclared.{Predeclared}
use Rattle.bq_predeclared.specs.declared.predeclared.Predeclared.TheVariants as p
use Rattle.bq_predeclared.specs.declared.rule_function.RuleFunction.{RuleFunction}
use Rattle.bq_predeclared.specs.declared.rule_function.RuleFunction.TheVariants as rules
use Rattle.bq_value_datum.specs.EqualAttributes.{same_attribute_true, same_attribute_refl}
use Rattle.bq_value_datum.specs.AttributeSame.{same_attribute}
use Rattle.bq_value_datum.specs.declared.attribute.Attribute.{Attribute}
use Rattle.bq_value_datum.specs.Codes.{hosts_differ}
use Rattle.bq_value_datum.specs.Datum.{BuiltIn, predeclared, schema_rule, Datum, none, boolean, int, string, tuple, range, cell, function, built_in, rule_function, attribute, Data, end, datum}
use Rattle.bq_value_datum.specs.Same.{bool_same, same_name, rule_place, same_host, same_rule_function, same_predeclared, same_built_in, same, same_all, feed}

both : (a b : Bool) → (a && b) ≡ true → (a ≡ true) × (b ≡ true)
both true b h = (refl, h)
both false b h = absurd (cc)

bool_same-true : (a b : Bool) → bool_same a b ≡ true → a ≡ b
bool_same-true true b h = sym h
bool_same-true false false h = refl
bool_same-true false true h = cc

bool_same-refl : (a : Bool) → bool_same a a ≡ true
bool_same-refl true = refl
bool_same-refl false = refl

nat_true : (a b : ℕ) → (a == b) ≡ true → a ≡ b
nat_true a b = (unsigned_Decides a b).0

nat_refl : (a : ℕ) → (a == a) ≡ true
nat_refl a = (unsigned_Decides a a).1 refl

int_true : (a b : ℤ) → int_eq a b ≡ true → a ≡ b
int_true a b = (signed_Decides a b).0

int_refl : (a : ℤ) → int_eq a a ≡ true
int_refl a = (signed_Decides a a).1 refl

text_true : (a b : List ℕ) → pointwise ◌==◌ a b ≡ true → a ≡ b
text_true a b = (bytes_decides a b).0

text_refl : (a : List ℕ) → pointwise ◌==◌ a a ≡ true
text_refl a = (bytes_decides a a).1 refl

all_true : {a b : Bool} → a ≡ true → b ≡ true → (a && b) ≡ true
all_true {a} {b} h k = ap (λ c. c && b) h ∙ k

name_true : (a b : Option (List ℕ)) → same_name a b ≡ true → a ≡ b
name_true None None h = refl
name_true (Some a) (Some b) h = ap Some (text_true a b h)
name_true _ _ h = cc

name_refl : (a : Option (List ℕ)) → same_name a a ≡ true
name_refl None = refl
name_refl (Some a) = text_refl a

host_true : (f g : HostFunction) → same_host f g ≡ true → f ≡ g
host_true f g h =
    let p = both (same_name (host_function_name f) (host_function_name g)) (rule_place f == rule_place g) h in
    hosts_differ f g (name_true (host_function_name f) (host_function_name g) p.0) (nat_true (rule_place f) (rule_place g) p.1)

host_refl : (f : HostFunction) → same_host f f ≡ true
host_refl f = all_true (name_refl (host_function_name f)) (nat_refl (rule_place f))

rule_function_true : (f g : RuleFunction) → same_rule_function f g ≡ true → f ≡ g
rule_function_true rules.Rule rules.Rule h = refl
rule_function_true (rules.Attr kind) (rules.Attr other) h = ap rules.Attr (same_true the_type tt kind other h)
rule_function_true _ _ h = cc

rule_function_refl : (f : RuleFunction) → same_rule_function f f ≡ true
rule_function_refl rules.Rule = refl
rule_function_refl (rules.Attr kind) = true_same the_type kind kind refl

-- two functions that declare rules are the same exactly where they are equal
pub rule_functions_decide : (f g : RuleFunction) → Decides (same_rule_function f g) (f ≡ g)
rule_functions_decide f g = (rule_function_true f g, λ e. ap (same_rule_function f) (sym e) ∙ rule_function_refl f)

predeclared_true : (x y : Predeclared) → same_predeclared x y ≡ true → x ≡ y
predeclared_true p.None p.None h = refl
predeclared_true p.True p.True h = refl
predeclared_true p.False p.False h = refl
predeclared_true (p.BuiltIn m) (p.BuiltIn n) h = ap p.BuiltIn (nat_true m n h)
predeclared_true (p.Host f) (p.Host g) h = ap p.Host (host_true f g h)
predeclared_true (p.RuleFunction f) (p.RuleFunction g) h = ap p.RuleFunction (rule_function_true f g h)
predeclared_true _ _ h = cc

predeclared_refl : (x : Predeclared) → same_predeclared x x ≡ true
predeclared_refl p.None = refl
predeclared_refl p.True = refl
predeclared_refl p.False = refl
predeclared_refl (p.BuiltIn m) = nat_refl m
predeclared_refl (p.Host f) = host_refl f
predeclared_refl (p.RuleFunction f) = rule_function_refl f

built_in_true : (a b : BuiltIn) → same_built_in a b ≡ true → a ≡ b
built_in_true (predeclared x) (predeclared y) h = ap predeclared (predeclared_true x y h)
built_in_true (schema_rule m s) (schema_rule n t) h = let p = both _ _ h in λ k. schema_rule (nat_true m n p.0 k) (text_true s t p.1 k)
built_in_true _ _ h = cc

built_in_refl : (a : BuiltIn) → same_built_in a a ≡ true
built_in_refl (predeclared x) = predeclared_refl x
built_in_refl (schema_rule m s) = all_true (nat_refl m) (text_refl s)

-- two built-in functions are the same exactly where they are equal
pub built_ins_decide : (a b : BuiltIn) → Decides (same_built_in a b) (a ≡ b)
built_ins_decide a b = (built_in_true a b, λ e. ap (same_built_in a) (sym e) ∙ built_in_refl a)

mutual
  pub same-true : (x y : Datum) → same x y ≡ true → x ≡ y
  same-true none none h = refl
  same-true (boolean a) (boolean b) h = ap boolean (bool_same-true a b h)
  same-true (int a) (int b) h = ap int (int_true a b h)
  same-true (string a) (string b) h = ap string (text_true a b h)
  same-true (tuple a) (tuple b) h = ap tuple (same_all-true a b h)
  same-true (range a b c) (range d e f) h =
      let p = both _ _ h in
      let q = both _ _ p.0 in
      λ i. range (int_true a d q.0 i) (int_true b e q.1 i) (int_true c f p.1 i)
  same-true (cell a i) (cell b j) h = let p = both _ _ h in λ k. cell (nat_true a b p.0 k) (nat_true i j p.1 k)
  same-true (function a i s vs) (function b j t ws) h =
      let p = both _ _ h in
      let q = both _ _ p.0 in
      let r = both _ _ q.0 in
      λ k. function (nat_true a b r.0 k) (nat_true i j r.1 k) (text_true s t q.1 k) (same_all-true vs ws p.1 k)
  same-true (built_in a) (built_in b) h = ap built_in (built_in_true a b h)
  same-true (rule_function f) (rule_function g) h = ap rule_function (rule_function_true f g h)
  same-true (attribute a) (attribute b) h = ap attribute (same_attribute_true a b h)
  same-true _ _ h = cc

  pub same_all-true : (x y : Data) → same_all x y ≡ true → x ≡ y
  same_all-true end end h = refl
  same_all-true (datum v vs) (datum w ws) h = let p = both _ _ h in λ i. datum (same-true v w p.0 i) (same_all-true vs ws p.1 i)
  same_all-true _ _ h = cc

mutual
  pub same-refl : (x : Datum) → same x x ≡ true
  same-refl none = refl
  same-refl (boolean a) = bool_same-refl a
  same-refl (int a) = int_refl a
  same-refl (string a) = text_refl a
  same-refl (tuple a) = same_all-refl a
  same-refl (range a b c) = all_true (all_true (int_refl a) (int_refl b)) (int_refl c)
  same-refl (cell a i) = all_true (nat_refl a) (nat_refl i)
  same-refl (function a i s vs) = all_true (all_true (all_true (nat_refl a) (nat_refl i)) (text_refl s)) (same_all-refl vs)
  same-refl (built_in a) = built_in_refl a
  same-refl (rule_function f) = rule_function_refl f
  same-refl (attribute a) = same_attribute_refl a

  pub same_all-refl : (x : Data) → same_all x x ≡ true
  same_all-refl end = refl
  same_all-refl (datum v vs) = all_true (same-refl v) (same_all-refl vs)

-- two attributes are the same exactly where they are equal
pub attributes_decide : (a b : Attribute) → Decides (same_attribute a b) (a ≡ b)
attributes_decide a b = (same_attribute_true a b, λ e. ap (same_attribute a) (sym e) ∙ same_attribute_refl a)

-- two values are the same exactly where they are equal as data
pub same_decides : (x y : Datum) → Decides (same x y) (x ≡ y)
same_decides x y = (same-true x y, λ e. ap (λ z. same x z) (sym e) ∙ same-refl x)

-- `same` is reflexive, symmetric and transitive
pub same_equivalence : IsEquivalence same
same_equivalence = decided same same_decides

-- values that are the same feed the same bytes to a hash
pub same_feed : (x y : Datum) → same x y ≡ true → feed x ≡ feed y
same_feed x y h = ap feed (same-true x y h)

same_by : (x y : Datum) (b : Bool) → same x y ≡ b → x ≢ y → b ≡ false
same_by x y true e apart = absurd (apart (same-true x y e))
same_by x y false e apart = refl

-- values that aren't equal as data aren't the same
pub same_apart : (x y : Datum) → x ≢ y → same x y ≡ false
same_apart x y apart = same_by x y (same x y) refl apart
