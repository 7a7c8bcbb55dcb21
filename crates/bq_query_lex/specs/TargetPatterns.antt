-- Which form a word has as a target pattern (Bazel, "Target patterns"), and the part of it that names the target or the package.
use Rattle.std.specs.Prelude.{ℕ, ◌-◌, ◌==◌, ◌&&◌, ◌||◌, not, Bool, false, List, [], ◌∷◌, Option, None, Some, length, take, codes, nat_eq, if◌then◌else◌}
use Rattle.std.specs.List.{ends_with, list_any}
use Rattle.std.specs.Option.{option_map, unwrap_or}
use Rattle.bq_label.specs.Reading.{first_is}
use Rattle.bq_query_lex.specs.declared.target_pattern.PatternForm.{PatternForm}
use Rattle.bq_query_lex.specs.declared.target_pattern.PatternForm.TheVariants.{Target, Rules, All, RulesBeneath, AllBeneath}

-- How the words of a form end, how many bytes of the end are left out of the part that names, and the form. The root's package is named by
-- its two slashes, any other by what is before the last one.
abbrev pub endings : List (List ℕ × ℕ × PatternForm)
endings =
    (codes "//...", 3, RulesBeneath) ∷ (codes "/...", 4, RulesBeneath)
    ∷ (codes "//...:all", 7, RulesBeneath) ∷ (codes "/...:all", 8, RulesBeneath)
    ∷ (codes "//...:*", 5, AllBeneath) ∷ (codes "/...:*", 6, AllBeneath)
    ∷ (codes "//...:all-targets", 15, AllBeneath) ∷ (codes "/...:all-targets", 16, AllBeneath)
    ∷ (codes ":all", 4, Rules) ∷ (codes ":*", 2, All) ∷ (codes ":all-targets", 12, All) ∷ []

-- `:`
abbrev pub is_colon : ℕ → Bool
is_colon b = b == 58

-- what is before the ending, where the word ends so and that may name a package, which holds no `:`
unfoldable pub part_before : List ℕ → ℕ → List ℕ → Option (List ℕ)
part_before end dropped word =
    let part = take (length word - dropped) word in if ends_with nat_eq word end && not (list_any is_colon part) then Some part else None

-- the first that fits counts, where what is before it names a package; so `//a:b/...` is a target's label
abbrev pub form_by : List (List ℕ × ℕ × PatternForm) → List ℕ → PatternForm × List ℕ
form_by [] word = (Target, word)
form_by (e ∷ es) word = unwrap_or (option_map (λ part. (e.2, part)) (part_before e.0 e.1 word)) (form_by es word)

-- the form of a word, and its part before the ending
abbrev pub word_form : List ℕ → PatternForm × List ℕ
word_form word = form_by endings word

-- `//..`, or `@..` but for `@@..`
abbrev pub begins_pattern : List ℕ → Bool
begins_pattern [] = false
begins_pattern (b ∷ bs) = (b == 47 && first_is 47 bs) || (b == 64 && not (first_is 64 bs))
