-- The names that a schema declares differ.
use Rattle.std.proofs.Common.{◌≡◌, ◌∙◌, ◌+◌, ◌||◌, ℕ, suc, Bool, true, false, cond, List, [], ◌∷◌, ◌++◌, length, Option, Some, None, Result, Ok, refl, sym, ap, subst, bytes_eq}
use Rattle.std.specs.Option.{is_some}
use Rattle.std.specs.Map.{lookup}
use Rattle.std.proofs.lemmas.Slice.Eq.{bytes_eq-Decides}
use Rattle.bq_base.specs.declared.fault.FaultKind.{FaultKind}
use Rattle.bq_base.specs.declared.fault.Fault.{Fault}
use Rattle.bq_value_datum.specs.declared.attribute.Attribute.{Attribute}
use Rattle.bq_value_datum.specs.Class.{Class, has_attribute, extended}
use Rattle.bq_package_schema.specs.declared.line.Line.{Line}
use Rattle.bq_package_schema.specs.declared.line.Line.TheVariants as line
use Rattle.bq_package_schema.specs.Line.{line_of}
use Rattle.bq_package_schema.specs.Schema.{Rules, with_rule, with_attribute_of_last, last_of, with_last, after}
use Rattle.bq_base_texts.specs.NameSet.{has}
use Rattle.bq_package_schema.specs.Reading.{declared_by}
use Rattle.bq_package_schema.specs.Laws.{NoneTwice, EachNoneTwice, AreRules, names_of}
use Rattle.bq_package_schema.proofs.Lines.{nothing_left, goes_on}
use Rattle.bq_package_schema.proofs.Cases.{last_by, onto}

true_false : true ≡ false → ⊥
true_false e = cc

-- two names differ both ways
turned_by : (b : Bool) (x y : List ℕ) → bytes_eq x y ≡ false → bytes_eq y x ≡ b → b ≡ false
turned_by false x y h e = refl
turned_by true x y h e =
    let same : x ≡ y = sym ((bytes_eq-Decides y x).0 e) in
    absurd (true_false (sym e ∙ (ap (λ n. bytes_eq n x) (sym same) ∙ (ap (bytes_eq x) same ∙ h))))

turned : (x y : List ℕ) → bytes_eq x y ≡ false → bytes_eq y x ≡ false
turned x y h = turned_by (bytes_eq y x) x y h refl

first_differs : (a b : Bool) → (a || b) ≡ false → a ≡ false
first_differs false b h = refl
first_differs true b h = cc

rest_differ : (a b : Bool) → (a || b) ≡ false → b ≡ false
rest_differ false b h = h
rest_differ true b h = cc

neither : (a b : Bool) → a ≡ false → b ≡ false → (a || b) ≡ false
neither false b h g = g
neither true b h g = cc

lacks_pushed : (names : List (List ℕ)) (x y : List ℕ) → has names x ≡ false → bytes_eq x y ≡ false → has (names ++ y ∷ []) x ≡ false
lacks_pushed [] x y h e = neither (bytes_eq x y) false e refl
lacks_pushed (n ∷ ns) x y h e =
    neither (bytes_eq x n) (has (ns ++ y ∷ []) x) (first_differs (bytes_eq x n) (has ns x) h) (lacks_pushed ns x y (rest_differ (bytes_eq x n) (has ns x) h) e)

-- a name that wasn't there makes none stand twice
pub none_twice_pushed : (names : List (List ℕ)) (x : List ℕ) → NoneTwice names → has names x ≡ false → NoneTwice (names ++ x ∷ [])
none_twice_pushed [] x once h = (refl, tt)
none_twice_pushed (n ∷ ns) x once h =
    (lacks_pushed ns n x once.0 (turned x n (first_differs (bytes_eq x n) (has ns x) h)), none_twice_pushed ns x once.1 (rest_differ (bytes_eq x n) (has ns x) h))

some_by : (b : Bool) (a : Attribute) (o : Option Attribute) (rest : Bool) → is_some o ≡ rest → is_some (cond b (Some a) o) ≡ (b || rest)
some_by true a o rest h = refl
some_by false a o rest h = h

-- the names of a table are those of its attributes
named_there : (table : Class) (name : List ℕ) → has_attribute table name ≡ has (names_of table) name
named_there [] name = refl
named_there (e ∷ es) name = some_by (bytes_eq name e.0) e.1 (lookup (bytes_eq name) es) (has (names_of es) name) (named_there es name)

names_pushed : (table : Class) (name : List ℕ) (a : Attribute) → names_of (table ++ (name, a) ∷ []) ≡ names_of table ++ name ∷ []
names_pushed [] name a = refl
names_pushed (e ∷ es) name a = ap (λ ns. e.0 ∷ ns) (names_pushed es name a)

length_pushed : {A : Type 0} (xs : List A) (x : A) → length (xs ++ x ∷ []) ≡ suc (length xs)
length_pushed [] x = refl
length_pushed (y ∷ ys) x = ap suc (length_pushed ys x)

each_pushed : (tables : List Class) (table : Class) → EachNoneTwice tables → NoneTwice (names_of table) → EachNoneTwice (tables ++ table ∷ [])
each_pushed [] table each once = (once, tt)
each_pushed (t ∷ ts) table each once = (each.0, each_pushed ts table each.1 once)

some_same : {A : Type 0} (a b : A) → Some a ≡ Some b → a ≡ b
some_same a b e = cc

no_next : (next : Rules) → None ≡ Some next → ⊥
no_next next h = cc

none_before : {A : Type 0} (xs : List A) → last_of xs ≡ None → xs ≡ []
unfolding last_of
none_before [] h = refl
none_before (x ∷ xs) h = absurd (let no : ⊥ = cc in no)

ends_by : {A : Type 0} (o : Option (List A × A)) (x : A) (xs : List A) (p : List A × A) → last_of xs ≡ o → ((q : List A × A) → last_of xs ≡ Some q → xs ≡ q.0 ++ q.1 ∷ []) → Some (last_by x o) ≡ Some p
    → x ∷ xs ≡ p.0 ++ p.1 ∷ []
ends_by None x xs p e inner h = ap (λ ys. x ∷ ys) (none_before xs e) ∙ ap (λ q. q.0 ++ q.1 ∷ []) (some_same ([], x) p h)
ends_by (Some q) x xs p e inner h = ap (λ ys. x ∷ ys) (inner q e) ∙ ap (λ r. r.0 ++ r.1 ∷ []) (some_same (x ∷ q.0, q.1) p h)

-- what the last comes after
ends : {A : Type 0} (xs : List A) (p : List A × A) → last_of xs ≡ Some p → xs ≡ p.0 ++ p.1 ∷ []
unfolding last_of
ends [] p h = absurd (let no : ⊥ = cc in no)
ends (x ∷ xs) p h = ends_by (last_of xs) x xs p refl (ends xs) h

each_before : (tables : List Class) (table : Class) → EachNoneTwice (tables ++ table ∷ []) → EachNoneTwice tables
each_before [] table each = tt
each_before (t ∷ ts) table each = (each.0, each_before ts table each.1)

each_last : (tables : List Class) (table : Class) → EachNoneTwice (tables ++ table ∷ []) → NoneTwice (names_of table)
each_last [] table each = each.0
each_last (t ∷ ts) table each = each_last ts table each.1

rule_by : (b : Bool) (rules next : Rules) (name : List ℕ) → AreRules rules → has rules.names name ≡ b
    → cond b None (Some (record { names = rules.names ++ name ∷ []; classes = rules.classes ++ [] ∷ [] })) ≡ Some next → AreRules next
rule_by true rules next name are e h = absurd (no_next next h)
rule_by false rules next name are e h =
    subst AreRules (some_same _ next h)
    (record {
      rules_differ = none_twice_pushed rules.names name are.rules_differ e;
      attributes_differ = each_pushed rules.classes [] are.attributes_differ tt;
      as_many = length_pushed rules.classes [] ∙ (ap suc are.as_many ∙ sym (length_pushed rules.names name));
    })

with_rule_are : (rules next : Rules) (name : List ℕ) → AreRules rules → with_rule rules name ≡ Some next → AreRules next
unfolding with_rule
with_rule_are rules next name are h = rule_by (has rules.names name) rules next name are refl h

attribute_by : (b : Bool) (rules next : Rules) (name : List ℕ) (a : Attribute) (before : List Class) (table : Class) → AreRules rules → rules.classes ≡ before ++ table ∷ [] → has_attribute table name ≡ b
    → with_last rules before (cond b None (Some (table ++ (name, a) ∷ []))) ≡ Some next → AreRules next
attribute_by true rules next name a before table are is e h = absurd (no_next next h)
attribute_by false rules next name a before table are is e h =
    let each : EachNoneTwice (before ++ table ∷ []) = subst EachNoneTwice is are.attributes_differ in
    let once = none_twice_pushed (names_of table) name (each_last before table each) (sym (named_there table name) ∙ e) in
    subst AreRules (some_same _ next h)
    (record {
      rules_differ = are.rules_differ;
      attributes_differ = each_pushed before (table ++ (name, a) ∷ []) (each_before before table each) (subst NoneTwice (sym (names_pushed table name a)) once);
      as_many = length_pushed before (table ++ (name, a) ∷ []) ∙ (sym (length_pushed before table) ∙ (sym (ap length is) ∙ are.as_many));
    })

onto_are : (o : Option (List Class × Class)) (rules next : Rules) (name : List ℕ) (a : Attribute) → AreRules rules → last_of rules.classes ≡ o → onto rules name a o ≡ Some next → AreRules next
unfolding extended
onto_are None rules next name a are e h = absurd (no_next next h)
onto_are (Some p) rules next name a are e h = attribute_by (has_attribute p.1 name) rules next name a p.0 p.1 are (ends rules.classes p e) refl h

with_attribute_are : (rules next : Rules) (name : List ℕ) (a : Attribute) → AreRules rules → with_attribute_of_last rules name a ≡ Some next → AreRules next
unfolding with_attribute_of_last
with_attribute_are rules next name a are h = onto_are (last_of rules.classes) rules next name a are refl h

after_are : (l : Line) (rules next : Rules) → AreRules rules → after rules l ≡ Some next → AreRules next
unfolding after
after_are line.Skipped rules next are h = subst AreRules (some_same rules next h) are
after_are (line.Rule name) rules next are h = with_rule_are rules next name are h
after_are (line.Attribute name a) rules next are h = with_attribute_are rules next name a are h
after_are line.Other rules next are h = absurd (no_next next h)

same_rules : (r : Result Rules (Fault FaultKind)) (a b : Rules) → r ≡ Ok a → r ≡ Ok b → a ≡ b
same_rules r a b g h = cc

-- what lines declare has no name twice
pub all_are : (ls : List (List ℕ)) (rules : Rules) (n : ℕ) (all : Rules) → AreRules rules → declared_by rules n ls ≡ Ok all → AreRules all
all_are [] rules n all are h = subst AreRules (same_rules (declared_by rules n []) rules all (nothing_left rules n) h) are
all_are (l ∷ ls) rules n all are h =
    let g = goes_on rules n l ls all h in
    all_are ls g.next (n + 1) all (after_are (line_of l) rules g.next are g.taken) g.rest
