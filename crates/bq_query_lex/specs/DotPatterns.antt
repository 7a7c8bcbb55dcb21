-- Which words with `...` are patterns over all that is beneath a package (Bazel, "Target patterns").
use Rattle.std.specs.Prelude.{◌≡◌, ◌↔◌, ◌⊎◌, ℕ, ◌++◌, true, List, [], ◌∷◌, Some, codes}
use Rattle.bq_label.specs.Label.{PackageParts, IsPackage, Spells}
use Rattle.bq_label.specs.Reading.{package_of_text}
use Rattle.bq_query_lex.specs.declared.target_pattern.PatternForm.{PatternForm}
use Rattle.bq_query_lex.specs.declared.target_pattern.PatternForm.TheVariants as form
use Rattle.bq_query_lex.specs.TargetPatterns.{begins_pattern, word_form}

-- `/...`, which after the root package's two slashes is `...`
abbrev pub dots_by : List ℕ → List ℕ
dots_by [] = codes "..."
dots_by (b ∷ bs) = codes "/..."

-- the word is what names the package, the dots, and this end
abbrev pub IsDots : PackageParts → List ℕ → List ℕ → Type 0
IsDots p end word = (text : List ℕ) × Spells p text × (word ≡ text ++ (dots_by p.package ++ end))

-- the word is a pattern of this form over the package
abbrev pub IsPattern : PatternForm → PackageParts → List ℕ → Type 0
IsPattern f p word = ((word_form word).0 ≡ f) × (package_of_text (word_form word).1 ≡ Some p)

-- A word is a pattern over all that is beneath a package exactly where the dots follow that package.
pub record FollowsAPackage (p : PackageParts) (word : List ℕ) : Type 0 where
  pub rules : IsPattern form.RulesBeneath p word ↔ (IsDots p [] word ⊎ IsDots p (codes ":all") word)
  pub all : IsPattern form.AllBeneath p word ↔ (IsDots p (codes ":*") word ⊎ IsDots p (codes ":all-targets") word)

-- each word that begins as patterns do is a pattern beneath a package exactly where the dots follow that package
abbrev pub DotsFollowAPackage : Type 0
DotsFollowAPackage = (p : PackageParts) (word : List ℕ) → IsPackage p → begins_pattern word ≡ true → FollowsAPackage p word
