-- How the labels of the targets begin that a pattern names. The targets stand in the order of their labels, so those of a package, or of the
-- packages beneath it, are found by these bytes; `Packages` says that no other label begins so.
use Rattle.std.specs.Prelude.{◌≡◌, ℕ, ◌<◌, ◌≤◌, ◌++◌, ◌&&◌, ◌||◌, not, Bool, true, false, List, [], ◌∷◌, codes, nat_eq, Some, slice_get}
use Rattle.std.specs.List.{starts_with}
use Rattle.bq_label.specs.Label.{PackageParts, IsLabel, repository_prefix}
use Rattle.bq_query_lex.specs.declared.pattern.TargetPattern.{TargetPattern}
use Rattle.bq_query_lex.specs.declared.pattern.TargetPattern.TheVariants as pattern
use Rattle.bq_package_target.specs.declared.target.Target.{Target}
use Rattle.bq_query_function.specs.Order.{text_of}
use Rattle.bq_query_function.specs.Words.{Adds, is_rule, package_text}

-- the target is a rule, where rules alone are wanted
abbrev pub is_wanted : Bool → Target → Bool
is_wanted rules t = is_rule t || not rules

-- how the labels of targets begin, without the last byte, and that byte
abbrev pub Beginning : Type 0
Beginning = List ℕ × ℕ

-- the targets of a package: `//package:`
abbrev pub own : PackageParts → Beginning
own p = (package_text p, 58)

-- the targets of the packages beneath it: `//package/`, and beneath the root package all that begins with `//`
abbrev pub beneath_by : List ℕ → PackageParts → Beginning
beneath_by [] p = (repository_prefix p.repo ++ codes "/", 47)
beneath_by (b ∷ bs) p = (package_text p, 47)

-- how the labels of the packages beneath a package begin
abbrev pub beneath : PackageParts → Beginning
beneath p = beneath_by p.package p

-- the target's label begins so
unfoldable pub begins : Beginning → Target → Bool
begins b t = starts_with nat_eq (text_of t) (b.0 ++ b.1 ∷ [])

-- of the package, or of it and the packages beneath it, the rules or all targets
abbrev pub names_in : Bool → Bool → PackageParts → Target → Bool
names_in deep rules p t = (begins (own p) t || (deep && begins (beneath p) t)) && is_wanted rules t

-- the pattern that names them
abbrev pub pattern_at : Bool → Bool → PackageParts → TargetPattern
pattern_at false true p = pattern.Rules p
pattern_at false false p = pattern.All p
pattern_at true true p = pattern.RulesBeneath p
pattern_at true false p = pattern.AllBeneath p

-- the targets from one place to another that pass the test have valid labels
abbrev pub AreValid : (Target → Bool) → List Target → ℕ → ℕ → Type 0
AreValid test targets from to = (y : ℕ) (t : Target) → from ≤ y → y < to → slice_get targets y ≡ Some t → test t ≡ true → IsLabel t.label

-- the targets that pass the test are added to a set, and have valid labels
pub record AddsValid (test : Target → Bool) (targets : List Target) (before after : List Bool) : Type 0 where
  pub adds : Adds test targets before after
  pub valid : (y : ℕ) (t : Target) → slice_get targets y ≡ Some t → test t ≡ true → IsLabel t.label
