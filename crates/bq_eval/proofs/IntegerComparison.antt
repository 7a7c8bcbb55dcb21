-- Comparisons of two integers take a step, and look at no store.
use Rattle.std.proofs.Common.{◌≡◌, ◌∙◌, ℕ, ℤ, zero, suc, ◌-◌, Bool, false, Option, Some, None, Ok, Err, cond, nat_lt, refl, sym, ap, arith}
use Rattle.std.proofs.lemmas.Bool.Decides.{nat_tests}
use Rattle.std.specs.Ordering.{int_cmp}
use Rattle.bq_base.specs.declared.fault.EvalFault.TheVariants.{StepLimit, WrongType}
use Rattle.bq_parse_grammar.specs.declared.tree.Comparison.{Comparison}
use Rattle.bq_parse_grammar.specs.declared.tree.Comparison.TheVariants as comparison
use Rattle.bq_value.specs.Datum.{boolean, int}
use Rattle.bq_value.specs.Cells.{StoreView}
use Rattle.bq_value.specs.Looked.{Looked, stepped}
use Rattle.bq_builtin_machine.specs.State.{State}
use Rattle.bq_builtin_machine.specs.Action.{Run, done, following, pure, stop}
use Rattle.bq_builtin_machine.specs.Machine.{after_walk, looked_equal, looked_order, step, with_steps}
use Rattle.bq_builtin_operators.specs.Comparing.{compared}
use Rattle.bq_builtin_operators.specs.Membership.{contained}
use Rattle.bq_builtin_operators.specs.Operate.{compare}
use Rattle.bq_value.specs.Order.{int_ordered}
use Rattle.bq_eval.specs.Comparing.{integers_compared}

same_some : (a b : Bool) → Some a ≡ Some b → a ≡ b
same_some a b is = cc is

so_looked : (c : Comparison) (store : StoreView) (n : ℕ) (x y : ℤ) (so : Bool) → integers_compared c (int_cmp x y) ≡ Some so → compared c store n (int x) (int y) ≡ stepped n (λ m. Ok (so, m))
unfolding compared looked_equal looked_order int_ordered
so_looked comparison.Equal store zero x y so is = refl
so_looked comparison.Equal store (suc n) x y so is = ap (λ b. Ok (b, n)) (same_some _ _ is)
so_looked comparison.NotEqual store zero x y so is = refl
so_looked comparison.NotEqual store (suc n) x y so is = ap (λ b. Ok (b, n)) (same_some _ _ is)
so_looked comparison.Less store zero x y so is = refl
so_looked comparison.Less store (suc n) x y so is = ap (λ b. Ok (b, n)) (same_some _ _ is)
so_looked comparison.Greater store zero x y so is = refl
so_looked comparison.Greater store (suc n) x y so is = ap (λ b. Ok (b, n)) (same_some _ _ is)
so_looked comparison.LessEqual store zero x y so is = refl
so_looked comparison.LessEqual store (suc n) x y so is = ap (λ b. Ok (b, n)) (same_some _ _ is)
so_looked comparison.GreaterEqual store zero x y so is = refl
so_looked comparison.GreaterEqual store (suc n) x y so is = ap (λ b. Ok (b, n)) (same_some _ _ is)
so_looked comparison.In store n x y so is = absurd (cc is)
so_looked comparison.NotIn store n x y so is = absurd (cc is)

none_looked : (c : Comparison) (store : StoreView) (n : ℕ) (x y : ℤ) → integers_compared c (int_cmp x y) ≡ None → compared c store n (int x) (int y) ≡ Err WrongType
unfolding compared
none_looked comparison.Equal store n x y is = absurd (cc is)
none_looked comparison.NotEqual store n x y is = absurd (cc is)
none_looked comparison.Less store n x y is = absurd (cc is)
none_looked comparison.Greater store n x y is = absurd (cc is)
none_looked comparison.LessEqual store n x y is = absurd (cc is)
none_looked comparison.GreaterEqual store n x y is = absurd (cc is)
none_looked comparison.In store n x y is = refl
none_looked comparison.NotIn store n x y is = refl

-- one step of a walk is a step of the machine
one_step : (n : ℕ) (s : State) (so : Bool) → s.steps ≡ n → following (after_walk (stepped n (λ m. Ok (so, m))) s) (λ b. pure (boolean b)) ≡ following (step 1 s) (λ _. pure (boolean so))
unfolding step
one_step zero s so is = ap (λ k. following (cond (nat_lt k 1) (stop StepLimit s) (done tt (with_steps (k - 1) s))) (λ _. pure (boolean so))) (sym is)
one_step (suc n) s so is =
    let less : suc n - 1 ≡ n = omega arith in
    let enough : nat_lt (suc n) 1 ≡ false = grind (arith, nat_tests) in
    ap (λ k. done (boolean so) (with_steps k s)) (sym less)
    ∙ ap (λ (t : Bool). following (cond t (stop StepLimit s) (done tt (with_steps (suc n - 1) s))) (λ _. pure (boolean so))) (sym enough)
    ∙ ap (λ k. following (cond (nat_lt k 1) (stop StepLimit s) (done tt (with_steps (k - 1) s))) (λ _. pure (boolean so))) (sym is)

module _ (c : Comparison) (x y : ℤ) (s : State) where
  pub compared_so : (so : Bool) → integers_compared c (int_cmp x y) ≡ Some so → compare c (int x) (int y) s ≡ following (step 1 s) (λ _. pure (boolean so))
  unfolding compare
  compared_so so is = ap (λ l. following (after_walk l s) (λ b. pure (boolean b))) (so_looked c s.store s.steps x y so is) ∙ one_step s.steps s so refl

  pub not_compared : integers_compared c (int_cmp x y) ≡ None → compare c (int x) (int y) s ≡ stop WrongType s
  unfolding compare
  not_compared is = ap (λ l. following (after_walk l s) (λ b. pure (boolean b))) (none_looked c s.store s.steps x y is)
