-- What must hold, one after another.
use Rattle.std.proofs.Common.{◌≡◌, List, [], ◌∷◌, ◌++◌, ℕ, None, Some, Result, Ok, Err, inl, inr, refl, sym, subst}
use Rattle.std.specs.List.{AllByRecursion}
use Rattle.std.specs.Option.{option_or}
use Rattle.bq_query_lex.specs.declared.query_error.QueryErr.{QueryErr}
use Rattle.bq_query_lex.specs.PatternReading.{word_fault, words_fault}
use Rattle.bq_query_check.specs.Verdict.{Fault, Need}
use Rattle.bq_query_check.specs.Checked.{Holds, FirstFails, Reads}

pub all_hold : (xs ys : List Need) → AllByRecursion Holds xs → AllByRecursion Holds ys → AllByRecursion Holds (xs ++ ys)
all_hold [] ys h k = k
all_hold (x ∷ xs) ys h k = (h.0, all_hold xs ys h.1 k)

-- the first that fails is among the first of them
pub fails_before : (xs ys : List Need) (why : QueryErr) → FirstFails xs why → FirstFails (xs ++ ys) why
fails_before [] ys why h = absurd h
fails_before (x ∷ xs) ys why (inl f) = inl f
fails_before (x ∷ xs) ys why (inr r) = inr (r.0, fails_before xs ys why r.1)

-- or after them
pub fails_after : (xs ys : List Need) (why : QueryErr) → AllByRecursion Holds xs → FirstFails ys why → FirstFails (xs ++ ys) why
fails_after [] ys why h k = k
fails_after (x ∷ xs) ys why h k = inr (h.0, fails_after xs ys why h.1 k)

module _ {A : Type 0} where
  -- of the same, in other words
  pub read_as : (xs ys : List Need) (P Q : A → Type 0) (r : Result A QueryErr) → xs ≡ ys → ((x : A) → Q x → P x) → Reads ys Q r → Reads xs P r
  read_as xs ys P Q (Ok x) same f h = (subst (AllByRecursion Holds) (sym same) h.0, f x h.1)
  read_as xs ys P Q (Err why) same f h = λ other. subst (λ (ns : List Need). FirstFails ns why) (sym same) (h other)

-- of one word
pub one_word : (w : List ℕ) → words_fault (w ∷ []) ≡ word_fault w
one_word w = first_alone (word_fault w)
  where
    first_alone : (f : Fault) → option_or f None ≡ f
    first_alone None = refl
    first_alone (Some why) = refl
