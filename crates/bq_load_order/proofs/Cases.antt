-- The cases of an outcome.
use Rattle.std.proofs.Common.{◌≡◌, ℕ, ◌⊎◌, Bool, true, false, List, [], ◌∷◌, map, Result, Ok, Err, sym, refl, ap, subst, ◌∙◌, inl, inr, arith, true≢false}
use Rattle.bq_board_plan.specs.Counts.{Has}
use Rattle.bq_board_plan.specs.Graph.{Loads, row}
use Rattle.bq_board_plan.specs.Cycles.{starts_path, is_cyclic, TestsPaths, LoadsACyclic}
use Rattle.bq_board_plan.specs.Depth.{max_load_depth, is_too_deep, LoadsADeep, DeepIsReached}
use Rattle.bq_board_plan.proofs.Lemmas.{bool_cases, cons_has, at_split}
use Rattle.bq_load_order.specs.Outcome.{first, with_load_value, load_values, evaluated, outcome}
use Rattle.bq_load_order.specs.OutcomeLaws.{IsFirst, CyclicOutcome, TooDeepOutcome, FailedLoadOutcome, LoadedOutcome, OutcomeByPlan}
use Rattle.bq_load_order.specs.declared.outcome.Outcome.{Outcome}
use Rattle.bq_load_order.specs.declared.outcome.Outcome.TheVariants.{Loaded, Faulty, Cyclic, TooDeep, LoadFailed}
use Rattle.bq_load_order.proofs.Solution.{cond_true, cond_false, cyclic_is, deep_is, evaluated_is, outcome_is}

-- where one passes, `first` is the first that does
first_is : (f : ℕ → Bool) (xs : List ℕ) (k : ℕ) → Has xs k → f k ≡ true → IsFirst (λ y. f y ≡ true) (λ y. f y ≡ false) xs (first f xs)
first_is f [] k h t = absurd (omega arith)
first_is f (x ∷ xs) k h t = let P : ℕ → Type 0 = IsFirst (λ y. f y ≡ true) (λ y. f y ≡ false) (x ∷ xs) in elim (bool_cases (f x)) [
  | inl yes-it ↦ subst P (sym (cond_true (f x) x (first f xs) yes-it)) record { before = []; after = xs; split = refl; here = yes-it; earlier = λ y had. absurd (omega arith) }
  | inr not-it ↦
      let rest : Has xs k = elim (cons_has x xs k h) [ inl e ↦ absurd (true≢false (sym t ∙ ap f (sym e) ∙ not-it)) | inr had ↦ had ] in
      let r = first_is f xs k rest t in
      subst P (sym (cond_false (f x) x (first f xs) not-it)) record {
        before = x ∷ r.before;
        after = r.after;
        split = ap (λ ys. x ∷ ys) r.split;
        here = r.here;
        earlier = λ y had. elim (cons_has x r.before y had) [ inl e ↦ ap f (sym e) ∙ not-it | inr old ↦ r.earlier y old ];
      }
]

module _ {V F : Type 0} where
  -- an outcome is a value, or ends the list of values
  look : (o : Outcome V F) → ((v : V) × (o ≡ Loaded v)) ⊎ ((¬ ((v : V) × (o ≡ Loaded v))) × ((x : ℕ) (r : Result (List V) ℕ) → with_load_value o x r ≡ Err x))
  look (Loaded v) = inl (v, refl)
  look (Faulty e) = inr ((λ t. let q : Faulty e ≡ Loaded t.0 = t.1 in absurd (cc)), λ x r. refl)
  look (Cyclic l) = inr ((λ t. let q : Cyclic l ≡ Loaded t.0 = t.1 in absurd (cc)), λ x r. refl)
  look (TooDeep l) = inr ((λ t. let q : TooDeep l ≡ Loaded t.0 = t.1 in absurd (cc)), λ x r. refl)
  look (LoadFailed l) = inr ((λ t. let q : LoadFailed l ≡ Loaded t.0 = t.1 in absurd (cc)), λ x r. refl)

  module _ (at : ℕ → Outcome V F) where
    abbrev HasOne : ℕ → Type 0
    HasOne y = (v : V) × (at y ≡ Loaded v)

    first_failed : (xs : List ℕ) (k : ℕ) → Has xs k → ¬ HasOne k → (l : ℕ) × (load_values at xs ≡ Err l) × IsFirst (λ y. ¬ HasOne y) HasOne xs l
    first_failed [] k h no-value = absurd (omega arith)
    first_failed (x ∷ xs) k h no-value = elim (look (at x)) [
      | inl one ↦
          let rest : Has xs k = elim (cons_has x xs k h) [ inl e ↦ absurd (no-value (subst HasOne e one)) | inr had ↦ had ] in
          let r = first_failed xs k rest no-value in (
            r.0,
            (λ i. with_load_value (one.1 i) x (r.1 i)),
            record {
              before = x ∷ r.2.before;
              after = r.2.after;
              split = ap (λ ys. x ∷ ys) r.2.split;
              here = r.2.here;
              earlier = λ y had. elim (cons_has x r.2.before y had) [ inl e ↦ subst HasOne e one | inr old ↦ r.2.earlier y old ];
            },
          )
      | inr none-here ↦ (x, none-here.1 x (load_values at xs), record { before = []; after = xs; split = refl; here = none-here.0; earlier = λ y had. absurd (omega arith) })
    ]

    all_values : (xs : List ℕ) (vs : List V) → map at xs ≡ map Loaded vs → load_values at xs ≡ Ok vs
    all_values [] [] e = refl
    all_values [] (v ∷ vs) e = absurd (cc)
    all_values (x ∷ xs) [] e = absurd (cc)
    all_values (x ∷ xs) (v ∷ vs) e = let head : at x ≡ Loaded v = cc in let tail : map at xs ≡ map Loaded vs = cc in let r = all_values xs vs tail in λ i. with_load_value (head i) x (r i)

module _ {V F : Type 0} (means : ℕ → List V → Result V F) (p : Loads) where
  pub cyclic_says : LoadsACyclic p → CyclicOutcome means p
  cyclic_says law known m e = let t = (law known m).0 e in
      (first (is_cyclic p) (row p m), outcome_is means p m ∙ cyclic_is means p (outcome means p) m e, first_is (is_cyclic p) (row p m) t.0 t.1 t.2)

  pub deep_says : TestsPaths p → LoadsADeep p → TooDeepOutcome means p
  deep_says tests law m e =
      let t = ((law m).0 e).1 in
      let at_limit : ℕ → Bool = starts_path p max_load_depth in
      let f = first_is at_limit (row p m) t.0 t.1 ((tests max_load_depth t.0).1 t.2) in (
        first at_limit (row p m),
        outcome_is means p m ∙ deep_is means p (outcome means p) m e,
        record {
          before = f.before;
          after = f.after;
          split = f.split;
          here = (tests max_load_depth (first at_limit (row p m))).0 f.here;
          earlier = λ y h path. true≢false (sym ((tests max_load_depth y).1 path) ∙ f.earlier y h);
        },
      )

  pub failed_says : LoadsACyclic p → DeepIsReached p → FailedLoadOutcome means p
  failed_says law deeper known m k e d h no-value =
      let r = first_failed (outcome means p) (row p m) k h no-value in
      let there : Has (row p m) r.0 = subst (λ (ys : List ℕ). Has ys r.0) (sym r.2.split) (at_split r.2.before r.0 r.2.after) in (
        r.0,
        outcome_is means p m ∙ evaluated_is means p (outcome means p) m e d ∙ ap (evaluated (means m)) r.1,
        r.2,
        elim (bool_cases (is_cyclic p r.0)) [
          | inl yes-it ↦ absurd (true≢false (sym ((law known m).1 (r.0, there, yes-it)) ∙ e))
          | inr not-it ↦ not-it
        ],
        elim (bool_cases (is_too_deep p r.0)) [
          | inl yes-it ↦ absurd (true≢false (sym (deeper m r.0 there yes-it e) ∙ d))
          | inr not-it ↦ not-it
        ],
      )

  pub loaded_says : LoadedOutcome means p
  loaded_says m vs e d same = outcome_is means p m ∙ evaluated_is means p (outcome means p) m e d ∙ ap (evaluated (means m)) (all_values (outcome means p) (row p m) vs same)

  pub by_plan_says : (q : Loads) → OutcomeByPlan means p q
  by_plan_says q cut m e d = outcome_is means p m ∙ evaluated_is means p (outcome means p) m e d ∙ ap (λ xs. evaluated (means m) (load_values (outcome means p) xs)) (sym ((cut.each m).rest e d))
