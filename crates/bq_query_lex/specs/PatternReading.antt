-- Which pattern a word is (Bazel, "Target patterns"): its form, and the label or the package that it names.
use Rattle.std.specs.Prelude.{◌≡◌, ◌≢◌, ℕ, true, List, [], ◌∷◌, map, Option, Some, None, is_some, Result, Ok, Err, if◌then◌else◌}
use Rattle.std.specs.Option.{option_map, option_or}
use Rattle.bq_label.specs.Label.{LabelParts, package_at}
use Rattle.bq_label.specs.Reading.{label_of, package_of_text}
use Rattle.bq_query_lex.specs.declared.query_error.QueryErr.{QueryErr}
use Rattle.bq_query_lex.specs.declared.query_error.QueryErr.TheVariants as e
use Rattle.bq_query_lex.specs.declared.target_pattern.PatternForm.{PatternForm}
use Rattle.bq_query_lex.specs.declared.target_pattern.PatternForm.TheVariants as form
use Rattle.bq_query_lex.specs.TargetPatterns.{begins_pattern, word_form}
use Rattle.bq_query_lex.specs.declared.pattern.TargetPattern.{TargetPattern}
use Rattle.bq_query_lex.specs.declared.pattern.TargetPattern.TheVariants as pattern

-- the label that a word reads as
abbrev pub label_named : List ℕ → Option LabelParts
label_named word = label_of (package_at [] []) word

-- what a word stands for, by its form: the label as which its part reads, or the package that the part names
abbrev pub pattern_by : PatternForm → List ℕ → Option TargetPattern
pattern_by form.Target part = option_map pattern.Target (label_named part)
pattern_by form.Rules part = option_map pattern.Rules (package_of_text part)
pattern_by form.All part = option_map pattern.All (package_of_text part)
pattern_by form.RulesBeneath part = option_map pattern.RulesBeneath (package_of_text part)
pattern_by form.AllBeneath part = option_map pattern.AllBeneath (package_of_text part)

-- the pattern that a word is
unfoldable pub pattern_of : List ℕ → Option TargetPattern
pattern_of word = pattern_by (word_form word).0 (word_form word).1

-- the words are these patterns, one after another
abbrev pub ArePatternsOf : List (List ℕ) → List TargetPattern → Type 0
ArePatternsOf words patterns = map pattern_of words ≡ map Some patterns

-- why a word can't be answered: it doesn't begin as a pattern that can be (Q3), or it reads as no label (Q8)
abbrev pub word_fault : List ℕ → Option QueryErr
word_fault w = if begins_pattern w then (if is_some (label_named w) then None else Some e.Arguments) else Some (e.LeftOut w)

-- that of the first of them that has one
abbrev pub words_fault : List (List ℕ) → Option QueryErr
words_fault [] = None
words_fault (w ∷ ws) = option_or (word_fault w) (words_fault ws)

-- what was read, or Q8 where nothing was, out of memory aside
abbrev pub IsReadAs : {A : Type 0} → Option A → Result A QueryErr → Type 0
IsReadAs o (Ok x) = o ≡ Some x
IsReadAs o (Err why) = why ≢ e.Memory → (o ≡ None) × (why ≡ e.Arguments)

-- what reading a word ensures, out of memory aside: its pattern, or its fault
abbrev pub IsReadPattern : List ℕ → Result TargetPattern QueryErr → Type 0
IsReadPattern word (Ok p) = (word_fault word ≡ None) × (pattern_of word ≡ Some p)
IsReadPattern word (Err why) = why ≢ e.Memory → word_fault word ≡ Some why

-- so does reading words
abbrev pub AreReadPatterns : List (List ℕ) → Result (List TargetPattern) QueryErr → Type 0
AreReadPatterns words (Ok ps) = (words_fault words ≡ None) × ArePatternsOf words ps
AreReadPatterns words (Err why) = why ≢ e.Memory → words_fault words ≡ Some why

-- a word that begins as a pattern is one exactly where it reads as a label
abbrev pub PatternsReadAsLabels : Type 0
PatternsReadAsLabels = (word : List ℕ) → begins_pattern word ≡ true → is_some (pattern_of word) ≡ is_some (label_named word)
