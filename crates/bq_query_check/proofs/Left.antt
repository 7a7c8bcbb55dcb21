-- Arguments are read one after another, each by its kind.
use Rattle.std.proofs.Common.{◌≡◌, ◌≤◌, ◌⊎◌, ◌∙◌, ◌++◌, inl, inr, refl, sym, ap, ℕ, List, [], ◌∷◌, map, length, subst, arith}
use Rattle.std.specs.List.{AllByRecursion}
use Rattle.std.proofs.lemmas.List.{map-append}
use Rattle.bq_query_lex.specs.declared.query_error.QueryErr.{QueryErr}
use Rattle.bq_query_function.specs.declared.signature.QueryArgumentKind.{QueryArgumentKind}
use Rattle.bq_query_parse.specs.declared.tree.Query.{Query}
use Rattle.bq_query_check.specs.Verdict.{argument, arguments, part_of}
use Rattle.bq_query_function.specs.declared.signature.QueryArgumentKind.TheVariants as kind
use Rattle.bq_query_check.specs.declared.call.Arguments.{Arguments}
use Rattle.bq_query_check.specs.declared.formula.SetExpr.{SetExpr}
use Rattle.bq_query_check.specs.Formula.{Formula, formula_of}
use Rattle.bq_query_check.specs.Call.{Given, given, nothing}
use Rattle.bq_query_check.specs.Checked.{Holds, FirstFails}
use Rattle.bq_query_check.specs.FormulaOf.{IsFormulaOf, AreArgumentsOf, IsArgumentOf}
use Rattle.bq_query_check.proofs.Needs.{all_hold, fails_before, fails_after}

-- a set is read after others
pub set_given : (names : List (List ℕ)) (x : Query) (r : Arguments) (sets : List SetExpr) (s : SetExpr) → IsFormulaOf names x (formula_of s) → sets ≡ r.sets ++ s ∷ []
    → IsArgumentOf names kind.Query x (given r) (given (record r { sets = sets }))
set_given names x r sets s is pushed =
    subst (λ (fs : List Formula). IsArgumentOf names kind.Query x (given r) (record (given r) { sets = fs })) (sym (ap (map formula_of) pushed ∙ map-append formula_of r.sets (s ∷ []))) (IsArgumentOf.set is)

module _ (names : List (List ℕ)) (kinds : List QueryArgumentKind) (queries : List Query) where
  -- of arguments these are left, and those before them give this: what holds of what is left holds of all
  pub record AreLeft (ks : List QueryArgumentKind) (xs : List Query) (g : Given) : Type 0 where
    pub within : length xs ≤ length ks
    pub hold : AllByRecursion Holds (arguments ks (map part_of xs) names) → AllByRecursion Holds (arguments kinds (map part_of queries) names)
    pub fail : (why : QueryErr) → FirstFails (arguments ks (map part_of xs) names) why → FirstFails (arguments kinds (map part_of queries) names) why
    pub read : (h : Given) → AreArgumentsOf names ks xs g h → AreArgumentsOf names kinds queries nothing h

  pub one_less : (k : QueryArgumentKind) (ks : List QueryArgumentKind) (x : Query) (xs : List Query) (g h : Given) → AreLeft (k ∷ ks) (x ∷ xs) g → AllByRecursion Holds (argument k (part_of x) names) → IsArgumentOf names k x g h → AreLeft ks xs h
  one_less k ks x xs g h left holds is = record {
    within = let w = left.within in omega (w, arith);
    hold = λ rest. left.hold (all_hold (argument k (part_of x) names) (arguments ks (map part_of xs) names) holds rest);
    fail = λ why rest. left.fail why (fails_after (argument k (part_of x) names) (arguments ks (map part_of xs) names) why holds rest);
    read = λ i rest. left.read i (AreArgumentsOf.one_argument is rest);
  }

  pub next_fails : (k : QueryArgumentKind) (ks : List QueryArgumentKind) (x : Query) (xs : List Query) (g : Given) (why : QueryErr) → AreLeft (k ∷ ks) (x ∷ xs) g → FirstFails (argument k (part_of x) names) why → FirstFails (arguments kinds (map part_of queries) names) why
  next_fails k ks x xs g why left fails = left.fail why (fails_before (argument k (part_of x) names) (arguments ks (map part_of xs) names) why fails)

  no_more : (ks : List QueryArgumentKind) (xs : List Query) → length xs ≤ length ks → (ks ≡ []) ⊎ (xs ≡ []) → xs ≡ []
  no_more ks xs w (inr e) = e
  no_more ks [] w (inl e) = refl
  no_more ks (x ∷ xs) w (inl e) = let none = subst (λ (js : List QueryArgumentKind). length (x ∷ xs) ≤ length js) e w in absurd (omega (none, arith))

  pub none_left : (ks : List QueryArgumentKind) (xs : List Query) (g : Given) → AreLeft ks xs g → (ks ≡ []) ⊎ (xs ≡ []) → AllByRecursion Holds (arguments kinds (map part_of queries) names) × AreArgumentsOf names kinds queries nothing g
  none_left ks xs g left e =
      let over = subst (λ (zs : List Query). AreLeft ks zs g) (no_more ks xs left.within e) left in
      (over.hold tt, over.read g AreArgumentsOf.no_argument)
