-- A condition holds or not, and then it decides.
use Rattle.std.proofs.Common.{◌≡◌, ◌∙◌, ℕ, zero, suc, ◌+◌, ◌<◌, Bool, true, false, List, [], ◌∷◌, length, get_or, drop, Option, Some, None, refl, sym, ap, arith}
use Rattle.std.specs.Prelude.{if◌then◌else◌}
use Rattle.bq_parse_grammar.specs.declared.tree.Choice.{Choice, out-Choice}
use Rattle.bq_parse_grammar.specs.declared.tree.Expr.{Expr}
use Rattle.bq_value.specs.Contents.{Contents}
use Rattle.bq_value.specs.Datum.{Datum}
use Rattle.bq_builtin_machine.specs.Action.{Action, Run, done, stopped, following, ◌>>=◌, pure}
use Rattle.bq_builtin_machine.specs.State.{Stop}
use Rattle.bq_eval_spec.specs.Comprehensions.{Turn, if_clause}
use Rattle.bq_eval_spec.specs.Expressions.{choice, chosen, conditional}
use Rattle.bq_eval_spec.specs.Frame.{Frame}
use Rattle.bq_eval_spec.specs.Primitives.{Primitives}
use Rattle.bq_eval_spec.specs.Slots.{by_slots}
use Rattle.bq_eval_spec.specs.Trees.{Eval}
use Rattle.bq_eval_rules.specs.Conditions.{chooses, truth_of}
use Rattle.bq_eval_rules.proofs.Following.{following_twice}

pub if_decides : {S : Type 0} (m : Primitives S) (eval : Eval S Frame) (x : Expr) (inner : Turn S Frame) (env : Frame) (c : Contents) (s : S)
    → if_clause m by_slots eval x inner env c s ≡ following (following (eval x env s) (λ v t. done (m.truth v t) t)) (λ b t. (if b then inner env c else pure (c, env)) t)
unfolding if_clause
if_decides m eval x inner env c s = sym (following_twice (eval x env s) (λ v t. done (m.truth v t) t) (λ b t. (if b then inner env c else pure (c, env)) t))

-- ---- `x if y else ..`

module _ {S : Type 0} (m : Primitives S) (eval : Eval S Frame) (x : Expr) (env : Frame) where
  same : (run : Run S Datum) → following run (λ v. pure v) ≡ run
  same (done v s) = refl
  same (stopped why) = refl

  module _ (c : Choice) (otherwise : Action S Datum) where
    abbrev value : Action S Datum
    value = eval (out-Choice c).value env

    abbrev chosen_by : Bool → Action S (Option Datum)
    chosen_by b s = (if b then (value >>= λ v. pure (Some v)) else pure None) s

    by_truth : (b : Bool) (s : S) → following (chosen_by b s) (λ o. chosen m eval otherwise o) ≡ (if b then value else otherwise) s
    by_truth true s = following_twice (value s) (λ v. pure (Some v)) (λ o. chosen m eval otherwise o) ∙ same (value s)
    by_truth false s = refl

    by_condition : (run : Run S Datum) → following (following run (λ t r. chosen_by (m.truth t r) r)) (λ o. chosen m eval otherwise o) ≡ following (following run (truth_of m)) (λ b r. (if b then value else otherwise) r)
    by_condition (done t s) = by_truth (m.truth t s) s
    by_condition (stopped why) = refl

    by_step : (run : Run S (Unit {0}))
        → following (following run (λ _ r. following (eval (out-Choice c).condition env r) (λ t q. chosen_by (m.truth t q) q))) (λ o. chosen m eval otherwise o)
        ≡ following (following run (λ _ r. following (eval (out-Choice c).condition env r) (truth_of m))) (λ b r. (if b then value else otherwise) r)
    by_step (done u s) = by_condition (eval (out-Choice c).condition env s)
    by_step (stopped why) = refl

  -- the choice at a place
  pub choice_decides : (cs : List Choice) (i : ℕ) (c : Choice) (s : S) → i < length cs → c ≡ get_or cs i c
      → conditional m eval (drop i cs) x env s ≡ following (chooses m eval c env s) (λ b r. (if b then eval (out-Choice c).value env else conditional m eval (drop (i + 1) cs) x env) r)
  unfolding conditional choice
  choice_decides [] i c s within is = absurd (omega (arith, within))
  choice_decides (d ∷ ds) zero c s within is =
      ap (λ k. following (choice m eval k env s) (λ o. chosen m eval (conditional m eval ds x env) o)) (sym is) ∙ by_step c (conditional m eval ds x env) (m.step 1 s)
  choice_decides (d ∷ ds) (suc i) c s within is =
      let e : suc i + 1 ≡ suc (i + 1) = omega arith in
      choice_decides ds i c s (omega (arith, within)) is
      ∙ ap (λ k. following (chooses m eval c env s) (λ b r. (if b then eval (out-Choice c).value env else conditional m eval (drop k (d ∷ ds)) x env) r)) (sym e)

  -- once it is known whether it is taken
  module _ (cs : List Choice) (i : ℕ) (c : Choice) (s t : S) (within : i < length cs) (is : c ≡ get_or cs i c) where
    pub choice_stops : (why : Stop) → chooses m eval c env s ≡ stopped why → conditional m eval (drop i cs) x env s ≡ stopped why
    choice_stops why e = choice_decides cs i c s within is ∙ ap (λ r. following r (λ b r. (if b then eval (out-Choice c).value env else conditional m eval (drop (i + 1) cs) x env) r)) e

    module _ (b : Bool) (e : chooses m eval c env s ≡ done b t) where
      decides : conditional m eval (drop i cs) x env s ≡ (if b then eval (out-Choice c).value env else conditional m eval (drop (i + 1) cs) x env) t
      decides = choice_decides cs i c s within is ∙ ap (λ r. following r (λ b r. (if b then eval (out-Choice c).value env else conditional m eval (drop (i + 1) cs) x env) r)) e

      pub choice_taken : b ≡ true → conditional m eval (drop i cs) x env s ≡ eval (out-Choice c).value env t
      choice_taken so = decides ∙ ap (λ d. (if d then eval (out-Choice c).value env else conditional m eval (drop (i + 1) cs) x env) t) so

      pub choice_left : b ≡ false → conditional m eval (drop i cs) x env s ≡ conditional m eval (drop (i + 1) cs) x env t
      choice_left so = decides ∙ ap (λ d. (if d then eval (out-Choice c).value env else conditional m eval (drop (i + 1) cs) x env) t) so
