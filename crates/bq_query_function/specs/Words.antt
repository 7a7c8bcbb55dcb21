-- Which targets a pattern names (Bazel, "Target patterns").
use Rattle.std.specs.Prelude.{◌≡◌, ℕ, ◌++◌, ◌&&◌, ◌||◌, nat_le, nat_lt, length, slice_index_or, Bool, false, List, [], map, codes, bytes_eq, Option, Some, None, is_some}
use Rattle.std.specs.List.{list_any}
use Rattle.bq_label.specs.Label.{PackageParts, LabelParts, package_of, repository_prefix, full_form}
use Rattle.bq_label.specs.Workspace.{is_above}
use Rattle.bq_query_graph.specs.Marks.{Marked}
use Rattle.bq_query_lex.specs.declared.pattern.TargetPattern.{TargetPattern}
use Rattle.bq_query_lex.specs.declared.pattern.TargetPattern.TheVariants as pattern
use Rattle.bq_value_datum.specs.Class.{Class}
use Rattle.bq_package_target.specs.declared.target.TargetKind.TheVariants as kind
use Rattle.bq_package_target.specs.declared.target.Target.{Target}
use Rattle.bq_query_function.specs.Order.{is_text}

-- the targets that pass the test
abbrev pub Those : (Target → Bool) → List Target → ℕ → Type 0
Those test targets = Marked (map test targets)

-- the class of a rule; other targets have none
abbrev pub class_of : Target → Option Class
class_of t = elim t.kind [ kind.Rule name class ↦ Some class | _ ↦ None ]

-- a target that a rule made
abbrev pub is_rule : Target → Bool
is_rule t = is_some (class_of t)

-- `//package`, or `@repository//package`
abbrev pub package_text : PackageParts → List ℕ
package_text p = repository_prefix p.repo ++ (codes "//" ++ p.package)

-- two packages are the same
abbrev pub is_package : PackageParts → PackageParts → Bool
is_package p q = bytes_eq q.repo p.repo && bytes_eq q.package p.package

-- the second package is the first or lies beneath it; beneath the root package lie all of its repository
abbrev pub is_within : PackageParts → PackageParts → Bool
is_within p q = is_package p q || (bytes_eq q.repo p.repo && (bytes_eq p.package [] || is_above p.package q.package))

-- a target has this label
abbrev pub has_label : LabelParts → Target → Bool
has_label l t = is_text (full_form l) t

-- the pattern names the target
abbrev pub names : TargetPattern → Target → Bool
names (pattern.Target l) t = has_label l t
names (pattern.Rules p) t = is_package p (package_of t.label) && is_rule t
names (pattern.All p) t = is_package p (package_of t.label)
names (pattern.RulesBeneath p) t = is_within p (package_of t.label) && is_rule t
names (pattern.AllBeneath p) t = is_within p (package_of t.label)

-- the targets that pass the test are added to a set
abbrev pub Adds : (Target → Bool) → List Target → List Bool → List Bool → Type 0
Adds test targets before after =
    (length after ≡ length before) × ((y : ℕ) → slice_index_or after y false ≡ (slice_index_or before y false || slice_index_or (map test targets) y false))

-- so are those from one place to another that pass the test
abbrev pub Range : (Target → Bool) → List Target → ℕ → ℕ → List Bool → List Bool → Type 0
Range test targets from to before after =
    (y : ℕ) → slice_index_or after y false ≡ (slice_index_or before y false || (nat_le from y && (nat_lt y to && slice_index_or (map test targets) y false)))

-- one of the patterns names the target
abbrev pub one_names : List TargetPattern → Target → Bool
one_names patterns t = list_any (λ p. names p t) patterns
