-- Words of the laws.
use Rattle.std.specs.Prelude.{◌≡◌, ◌≢◌, ℕ, List, [], ◌∷◌, ◌++◌, length, map, false, None, Ok, Err}
use Rattle.bq_base.specs.declared.fault.FaultKind.{FaultKind}
use Rattle.bq_base.specs.declared.fault.Fault.{Fault}
use Rattle.bq_value_datum.specs.Class.{Class}
use Rattle.bq_value_datum.specs.declared.attribute.Attribute.{Attribute}
use Rattle.bq_package_schema.specs.declared.line.Line.TheVariants as line
use Rattle.bq_package_schema.specs.Line.{line_of}
use Rattle.bq_package_schema.specs.Schema.{Rules, no_rules, after}
use Rattle.bq_base_texts.specs.NameSet.{has}
use Rattle.bq_package_schema.specs.Reading.{lines, bad_line, declared_by, schema_of}

-- the lines before this one declare rules, and it is a bad one after them
pub record IsFirstBad (text : List (List ℕ)) (fault : Fault FaultKind) : Type 0 where
  pub before : List (List ℕ)
  pub line : List ℕ
  pub behind : List (List ℕ)
  pub rules : Rules
  pub cut : text ≡ before ++ line ∷ behind
  pub read : declared_by no_rules 0 before ≡ Ok rules
  pub bad : after rules (line_of line) ≡ None
  pub named : fault ≡ bad_line (length before)

-- a schema that is refused has a fault at its first bad line
abbrev pub FaultsNameTheFirstBadLine : Type 0
FaultsNameTheFirstBadLine = (text : List ℕ) (fault : Fault FaultKind) → schema_of text ≡ Err fault → IsFirstBad (lines text) fault

-- each line of a schema is of one of the forms
abbrev pub EachLineHasAForm : Type 0
EachLineHasAForm =
    (text : List ℕ) (rules : Rules) (before : List (List ℕ)) (here : List ℕ) (behind : List (List ℕ)) → schema_of text ≡ Ok rules → lines text ≡ before ++ here ∷ behind
    → line_of here ≢ line.Other

-- no name is there twice
abbrev pub NoneTwice : List (List ℕ) → Type 0
NoneTwice [] = Unit {0}
NoneTwice (name ∷ names) = (has names name ≡ false) × NoneTwice names

-- the names of a rule's attributes, in their order
abbrev pub names_of : Class → List (List ℕ)
names_of class = map (λ e. e.0) class

-- no rule has two attributes of one name
abbrev pub EachNoneTwice : List Class → Type 0
EachNoneTwice [] = Unit {0}
EachNoneTwice (class ∷ classes) = NoneTwice (names_of class) × EachNoneTwice classes

-- No two rules have one name, nor have two attributes of a rule. Each rule has its attributes.
pub record AreRules (rules : Rules) : Type 0 where
  pub rules_differ : NoneTwice rules.names
  pub attributes_differ : EachNoneTwice rules.classes
  pub as_many : length rules.classes ≡ length rules.names

-- the rules of a schema that is read have different names, and each different attributes
abbrev pub NamesDiffer : Type 0
NamesDiffer = (text : List ℕ) (rules : Rules) → schema_of text ≡ Ok rules → AreRules rules

-- an attribute without a rule before it is a bad line
abbrev pub AttributesAreOfARule : Type 0
AttributesAreOfARule = (rules : Rules) (name : List ℕ) (attribute : Attribute) → rules.classes ≡ [] → after rules (line.Attribute name attribute) ≡ None
