-- What words name, in words of packages: which targets are of a package or beneath it (Bazel, "Target patterns"). The laws say that `Words`,
-- the patterns as which words are read, and how labels begin (`Beginnings`) mean just this.
use Rattle.std.specs.Prelude.{◌≡◌, ◌↔◌, ℕ, ◌++◌, Bool, true, false, List, [], ◌∷◌, Some}
use Rattle.bq_label.specs.Label.{PackageParts, IsPackage, IsLabel, package_of}
use Rattle.bq_label.specs.Reading.{package_of_text}
use Rattle.bq_query_lex.specs.declared.target_pattern.PatternForm.{PatternForm}
use Rattle.bq_query_lex.specs.declared.target_pattern.PatternForm.TheVariants as form
use Rattle.bq_query_lex.specs.TargetPatterns.{word_form}
use Rattle.bq_query_lex.specs.declared.pattern.TargetPattern.{TargetPattern}
use Rattle.bq_query_lex.specs.PatternReading.{label_named, pattern_of}
use Rattle.bq_package_target.specs.declared.target.Target.{Target}
use Rattle.bq_query_function.specs.Words.{is_rule, names}
use Rattle.bq_query_function.specs.Beginnings.{is_wanted, names_in}

-- ---- targets

-- The second package is the first or beneath it: in the same repository, and its path is that of the first, or that, a slash and more.
-- Beneath the root package are all packages of its repository.
pub data IsWithin (p q : PackageParts) : Type 0 where
  itself : q ≡ p → IsWithin p q
  below_root : p.package ≡ [] → q.repo ≡ p.repo → IsWithin p q
  under : (rest : List ℕ) → q.repo ≡ p.repo → q.package ≡ p.package ++ 47 ∷ rest → IsWithin p q

-- a package's own targets are those whose labels have this package, the rules or all of them
abbrev pub TargetsOfAPackage : Type 0
TargetsOfAPackage =
    (p : PackageParts) (t : Target) (rules : Bool) → IsPackage p → IsLabel t.label → (names_in false rules p t ≡ true) ↔ ((package_of t.label ≡ p) × (is_wanted rules t ≡ true))

-- so are those beneath it the targets whose package is it or beneath it
abbrev pub TargetsBeneathAPackage : Type 0
TargetsBeneathAPackage =
    (p : PackageParts) (t : Target) (rules : Bool) → IsPackage p → IsLabel t.label → (names_in true rules p t ≡ true) ↔ (IsWithin p (package_of t.label) × (is_wanted rules t ≡ true))

-- ---- words

-- what a word of this form names, by the part of it that names the target or the package
abbrev pub NamesBy : PatternForm → List ℕ → Target → Type 0
NamesBy form.Target part t = label_named part ≡ Some t.label
NamesBy form.Rules part t = (p : PackageParts) × (package_of_text part ≡ Some p) × (package_of t.label ≡ p) × (is_rule t ≡ true)
NamesBy form.All part t = (p : PackageParts) × (package_of_text part ≡ Some p) × (package_of t.label ≡ p)
NamesBy form.RulesBeneath part t = (p : PackageParts) × (package_of_text part ≡ Some p) × IsWithin p (package_of t.label) × (is_rule t ≡ true)
NamesBy form.AllBeneath part t = (p : PackageParts) × (package_of_text part ≡ Some p) × IsWithin p (package_of t.label)

-- a word that is read as a pattern names just the targets that its form and the part of it say
abbrev pub WordsNameLabelsAndPackages : Type 0
WordsNameLabelsAndPackages =
    (word : List ℕ) (p : TargetPattern) (t : Target) → pattern_of word ≡ Some p → IsLabel t.label → (names p t ≡ true) ↔ NamesBy (word_form word).0 (word_form word).1 t
