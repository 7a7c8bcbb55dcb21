-- Outcomes that are those of a recursion along loads: a module that evaluates as it did is unchanged.
use Rattle.std.proofs.Common.{◌≡◌, ◌∙◌, ◌<◌, inl, inr, ℕ, true, false, List, length, Result, Ok, Err, refl, sym, ap}
use Rattle.bq_board_plan.specs.Cycles.{is_cyclic}
use Rattle.bq_board_plan.specs.Depth.{is_too_deep}
use Rattle.bq_board_plan.specs.Graph.{Loads, Known, row}
use Rattle.bq_board_plan.proofs.Lemmas.{bool_cases}
use Rattle.bq_load_order.specs.Outcome.{load_values, own, evaluated, outcome}
use Rattle.bq_load_order.specs.declared.outcome.Outcome.{Outcome}
use Rattle.bq_load_order.specs.declared.outcome.Outcome.TheVariants.{LoadFailed}
use Rattle.bq_load_order.proofs.Solution.{values_same, cyclic_is, deep_is, evaluated_is, outcome_is}
use Rattle.bq_load_order.specs.Slots.{Tabulates}
use Rattle.bq_load_order.specs.Again.{had, is_own, EvaluatesAs}
use Rattle.bq_load_order.specs.AgainLaws.{ModulesEvaluateAsTheyDid}

module _ {V F : Type 0} (old : ℕ → List V → Result V F) (p : Loads) (k : ℕ) where
  abbrev out : ℕ → Outcome V F
  out = outcome old p

  -- a value, or a fault of a module's own, is by the values of all its loads
  record IsBy : Type 0 where
    loads : List V
    are : load_values out (row p k) ≡ Ok loads
    is : out k ≡ own (old k loads)

  by_values : (r : Result (List V) ℕ) → load_values out (row p k) ≡ r → out k ≡ evaluated (old k) r → is_own (evaluated (old k) r) ≡ true → IsBy
  by_values (Ok vs) e is h = record { loads = vs; are = e; is = is }
  by_values (Err l) e is h = absurd (cc)

  is_by : is_own (out k) ≡ true → IsBy
  is_by h = elim (bool_cases (is_cyclic p k)) [
    | inl cyclic ↦ let no : is_own (out k) ≡ false = ap is_own (outcome_is old p k ∙ cyclic_is old p out k cyclic) in absurd (cc)
    | inr acyclic ↦ elim (bool_cases (is_too_deep p k)) [
      | inl deep ↦ let no : is_own (out k) ≡ false = ap is_own (outcome_is old p k ∙ deep_is old p out k deep) in absurd (cc)
      | inr low ↦
          let is : out k ≡ evaluated (old k) (load_values out (row p k)) = outcome_is old p k ∙ evaluated_is old p out k acyclic low in
          by_values (load_values out (row p k)) refl is (sym (ap is_own is) ∙ h)
    ]
  ]

-- where these are the outcomes of a load graph, a module evaluates as module k did that gives the same by the values that the loads of k had
module _ {V F : Type 0} (old : ℕ → List V → Result V F) (p : Loads) (known : Known p) (outcomes : List (Outcome V F)) (are : Tabulates (length p) (outcome old p) outcomes) where
  had_is : (l : ℕ) → l < length p → had outcomes l ≡ outcome old p l
  had_is l h = are.each l (LoadFailed 0) h

  evaluates_as : (k m : ℕ) (means : ℕ → List V → Result V F) → k < length p → ((vs : List V) → load_values (outcome old p) (row p k) ≡ Ok vs → means m vs ≡ old k vs) → EvaluatesAs (had outcomes) p k means m
  evaluates_as k m means h same owns =
      let by = is_by old p k (sym (ap is_own (had_is k h)) ∙ owns) in
      let had_values : load_values (had outcomes) (row p k) ≡ Ok by.loads = values_same (had outcomes) (outcome old p) (row p k) (λ l has. had_is l (known k l has)) ∙ by.are in
      (by.loads, had_values, ap own (same by.loads by.are) ∙ (sym by.is ∙ sym (had_is k h)))

pub as_they_did : (V F : Type 0) → ModulesEvaluateAsTheyDid V F
as_they_did V F old means p known outcomes are k m h same = evaluates_as old p known outcomes are k m means h same
