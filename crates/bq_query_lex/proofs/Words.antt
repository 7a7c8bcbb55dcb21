-- Words that are read, one after another.
use Rattle.std.proofs.Common.{◌≡◌, ◌∙◌, ℕ, ◌++◌, Bool, true, false, List, [], ◌∷◌, map, Option, Some, None, Result, Ok, Err, refl, sym, ap, subst, if◌then◌else◌}
use Rattle.std.specs.Prelude.{is_some}
use Rattle.bq_query_lex.specs.declared.query_error.QueryErr.{QueryErr}
use Rattle.bq_query_lex.specs.declared.query_error.QueryErr.TheVariants as e
use Rattle.bq_query_lex.specs.declared.target_pattern.PatternForm.{PatternForm}
use Rattle.bq_query_lex.specs.TargetPatterns.{begins_pattern, word_form}
use Rattle.bq_query_lex.specs.declared.pattern.TargetPattern.{TargetPattern}
use Rattle.bq_query_lex.specs.PatternReading.{IsReadAs, IsReadPattern, label_named, pattern_by, pattern_of, word_fault}
use Rattle.bq_query_lex.proofs.Readable.{patterns_read_as_labels}

-- the fault of a word that begins as a pattern
fault_by : (word : List ℕ) (b : Bool) → begins_pattern word ≡ true → is_some (pattern_of word) ≡ b → word_fault word ≡ (if b then None else Some e.Arguments)
fault_by word b begins is = let same : is_some (label_named word) ≡ b = sym (patterns_read_as_labels word begins) ∙ is in rw (begins, same) refl

-- what was read of such a word
pub read_known : (word : List ℕ) (r : Result TargetPattern QueryErr) → begins_pattern word ≡ true → IsReadAs (pattern_of word) r → IsReadPattern word r
read_known word (Ok p) begins h = (fault_by word true begins (ap is_some h), h)
read_known word (Err why) begins h = λ other. fault_by word false begins (ap is_some (h other).0) ∙ ap Some (sym (h other).1)

-- the form of the word, and the part that names
pub as_form : (word : List ℕ) (f : PatternForm) (part : List ℕ) (r : Result TargetPattern QueryErr) → f ≡ (word_form word).0 → part ≡ (word_form word).1 → IsReadAs (pattern_by f part) r → IsReadAs (pattern_of word) r
unfolding pattern_of
as_form word f part r e g h = subst (λ (o : Option TargetPattern). IsReadAs o r) (ap (λ (k : PatternForm). pattern_by k part) e ∙ ap (pattern_by (word_form word).0) g) h

-- one pattern more
pub one_more : (ps : List TargetPattern) (p : TargetPattern) (rest : List (Option TargetPattern)) → map Some (ps ++ p ∷ []) ++ rest ≡ map Some ps ++ Some p ∷ rest
one_more [] p rest = refl
one_more (q ∷ ps) p rest = ap (λ (t : List (Option TargetPattern)). Some q ∷ t) (one_more ps p rest)
