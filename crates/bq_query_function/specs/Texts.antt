-- The texts in which patterns are looked for: of a target's kind, its label, and an attribute of it (Bazel query reference, `kind`,
-- `filter`, `attr`).
use Rattle.std.specs.Prelude.{ℕ, ◌++◌, List, Option, Some, None, bytes_eq, codes}
use Rattle.std.specs.List.{find}
use Rattle.std.specs.Option.{option_and_then}
use Rattle.bq_value_datum.specs.Class.{Class}
use Rattle.bq_package_target.specs.declared.target.TargetKind.{TargetKind}
use Rattle.bq_package_target.specs.declared.target.TargetKind.TheVariants as kind
use Rattle.bq_package_target.specs.declared.target.Target.{Target}
use Rattle.bq_package_target.specs.declared.value.GivenAttribute.{GivenAttribute}
use Rattle.bq_package_target.specs.Value.{attribute_type}
use Rattle.bq_value_datum.specs.AttributeValue.{value_text, default_text}
use Rattle.bq_query_function.specs.Order.{text_of}
use Rattle.bq_query_function.specs.Words.{class_of}
use Rattle.bq_query_function.specs.declared.text.Subject.{Subject}
use Rattle.bq_query_function.specs.declared.text.Subject.TheVariants as subject

-- `NAME rule`, `source file`, `generated file` or `package group`
unfoldable pub kind_text : TargetKind → List ℕ
kind_text (kind.Rule name class) = name ++ codes " rule"
kind_text kind.Source = codes "source file"
kind_text (kind.Generated rule) = codes "generated file"
kind_text kind.Group = codes "package group"

-- what this attribute of the target has: what the call gives it, or the default that the rule gives it
abbrev pub given : List ℕ → Target → Option GivenAttribute
given name t = find (λ a. bytes_eq a.name name) t.attributes

-- the text of an attribute; one that was not given has the text of its type's empty value
abbrev pub text_by : Option GivenAttribute → Class → List ℕ → Option (List ℕ)
text_by (Some a) class name = Some (value_text a.value)
text_by None class name = default_text (attribute_type class name)

-- the text of a rule's attribute; other targets have none
unfoldable pub attribute_text : List ℕ → Target → Option (List ℕ)
attribute_text name t = option_and_then (λ class. text_by (given name t) class name) (class_of t)

-- the text of a target that a pattern is looked for in, if it has one
abbrev pub subject_text : Subject → Target → Option (List ℕ)
subject_text subject.Kind t = Some (kind_text t.kind)
subject_text subject.Label t = Some (text_of t)
subject_text (subject.Attribute name) t = attribute_text name.now t

-- a text after what is written already
abbrev pub onto : List ℕ → Option (List ℕ) → Option (List ℕ)
onto before None = None
onto before (Some text) = Some (before ++ text)
