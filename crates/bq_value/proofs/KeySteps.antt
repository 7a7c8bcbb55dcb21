-- The walk of a key takes a number of steps of its own.
use Rattle.std.proofs.Common.{◌≡◌, ◌∙◌, ◌+◌, ℕ, zero, suc, List, [], ◌∷◌, Ok, Err, refl}
use Rattle.bq_base.specs.declared.fault.EvalFault.TheVariants.{TooDeep, Unhashable}
use Rattle.bq_value.specs.Datum.{Datum, none, boolean, int, string, tuple, range, cell, function, built_in, rule_function, attribute, list_of}
use Rattle.bq_value.specs.Looked.{Looked, stepped}
use Rattle.bq_value.specs.KeyWalk.{Walked, walk_step, and_walk, all_walked, parts_walked, walked_at, keyed}
use Rattle.bq_value.specs.WalkLaws.{Takes}
use Rattle.bq_value.proofs.Counting.{ok_takes, err_takes, stepped_takes, followed}

-- a walk that does the same takes the same
takes_as : (r q : ℕ → Looked Datum) → ((n : ℕ) → q n ≡ r n) → Takes r → Takes q
takes_as r q is t = record {
  steps = t.steps;
  outcome = t.outcome;
  enough = λ more. is (t.steps + more) ∙ t.enough more;
  short = λ n h. is n ∙ t.short n h;
}

-- what comes after a walk, of its steps alone
abbrev after : (ℕ → Looked Datum) → Looked Datum → Looked Datum
after next (Ok p) = next p.1
after next (Err kind) = Err kind

module _ (v : Datum) where
  then_keyed : (w : Walked) (next : ℕ → Walked) → keyed v (and_walk w next) ≡ after (λ n. keyed v (next n)) (keyed v w)
  then_keyed (Ok n) next = refl
  then_keyed (Err kind) next = refl

  step_keyed : (n : ℕ) (next : ℕ → Walked) → keyed v (walk_step n next) ≡ stepped n (λ m. keyed v (next m))
  step_keyed zero next = refl
  step_keyed (suc n) next = refl

  module _ (walk : ℕ → Datum → Walked) (takes : (x : Datum) → Takes (λ n. keyed v (walk n x))) where
    all_take : (xs : List Datum) → Takes (λ n. keyed v (all_walked walk n xs))
    all_take [] = ok_takes v
    all_take (x ∷ xs) =
        takes_as (λ n. after (λ m. keyed v (all_walked walk m xs)) (keyed v (walk n x))) (λ n. keyed v (and_walk (walk n x) (λ m. all_walked walk m xs)))
        (λ n. then_keyed (walk n x) (λ m. all_walked walk m xs))
        (followed (λ n. keyed v (walk n x)) (after (λ m. keyed v (all_walked walk m xs))) (λ kind. refl) (takes x) (λ a. all_take xs))

    parts_take : (x : Datum) → Takes (λ n. keyed v (parts_walked walk n x))
    parts_take none = ok_takes v
    parts_take (boolean b) = ok_takes v
    parts_take (int i) = ok_takes v
    parts_take (string s) = ok_takes v
    parts_take (tuple xs) = all_take (list_of xs)
    parts_take (range a b c) = err_takes Unhashable
    parts_take (cell a i) = err_takes Unhashable
    parts_take (function a i s xs) = err_takes Unhashable
    parts_take (built_in s) = err_takes Unhashable
    parts_take (rule_function f) = err_takes Unhashable
    parts_take (attribute a) = err_takes Unhashable

  pub key_takes : (l : ℕ) (x : Datum) → Takes (λ n. keyed v (walked_at l n x))
  key_takes zero x = takes_as (λ n. stepped n (λ m. Err TooDeep)) (λ n. keyed v (walk_step n (λ m. Err TooDeep))) (λ n. step_keyed n (λ m. Err TooDeep)) (stepped_takes (λ m. Err TooDeep) (err_takes TooDeep))
  key_takes (suc l) x =
      takes_as (λ n. stepped n (λ m. keyed v (parts_walked (walked_at l) m x))) (λ n. keyed v (walk_step n (λ m. parts_walked (walked_at l) m x)))
      (λ n. step_keyed n (λ m. parts_walked (walked_at l) m x))
      (stepped_takes (λ m. keyed v (parts_walked (walked_at l) m x)) (parts_take (walked_at l) (key_takes l) x))
