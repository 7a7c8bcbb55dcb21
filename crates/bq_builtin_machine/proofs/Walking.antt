-- Steps, walks and active functions, as they come and go.
use Rattle.std.proofs.Common.{◌≡◌, ◌∙◌, sym, ap, refl, ℕ, zero, suc, ◌+◌, ◌-◌, ◌<◌, ℤ, Bool, true, false, cond, List, [], ◌∷◌, ◌++◌, length, slice_get, Some, Result, Ok, Err, arith, ◌==◌}
use Rattle.std.specs.Prelude.{◌+ℤ◌, nat_lt}
use Rattle.std.proofs.lemmas.Bool.Decides.{nat_tests}
use Rattle.std.specs.Cmp.{unsigned_Decides}
use Rattle.bq_base.specs.declared.fault.EvalFault.{EvalFault}
use Rattle.bq_base.specs.declared.fault.EvalFault.TheVariants.{StepLimit, Iterating, Frozen, Recursion, CallDepth}
use Rattle.bq_value.specs.Datum.{Datum, none, boolean, int, string, tuple, range, cell, function, built_in, rule_function, attribute}
use Rattle.bq_value.specs.Range.{range_element, range_count}
use Rattle.bq_builtin_machine.specs.State.{State, stop_at}
use Rattle.bq_builtin_machine.specs.Action.{done, stopped, following, given, stop}
use Rattle.bq_builtin_machine.specs.Machine.{step, with_steps}
use Rattle.bq_builtin_machine.specs.Cells.{may_change, is_walked}
use Rattle.bq_builtin_machine.specs.Iteration.{integers, range_integers, elements, elements_in, marked, begin_walk, end_walk}
use Rattle.bq_builtin_machine.specs.Calls.{enter, leave, is_active, max_active}
use Rattle.bq_builtin_machine.proofs.Runs.{same_after}
use Rattle.bq_builtin_machine.proofs.Newest.{without_last, newest_is_walked, newest_is_active}
use Rattle.bq_builtin_machine.proofs.Integers.{length-integers, first_element, next_element}

stepped_by : (count : ℕ) (s t : State) (b : Bool) → nat_lt s.steps count ≡ b → cond b (stop StepLimit s) (done tt (with_steps (s.steps - count) s)) ≡ done (tt {0}) t → t.steps + count ≡ s.steps
stepped_by count s t true e h = absurd (cc)
stepped_by count s t false e h =
    let left : s.steps - count ≡ t.steps = ap (λ u. u.steps) (same_after (tt {0}) (tt {0}) (with_steps (s.steps - count) s) t h) in
    grind (arith, nat_tests, e, left)

pub steps_fall : (count : ℕ) (s t : State) → step count s ≡ done tt t → t.steps + count ≡ s.steps
unfolding step
steps_fall count s t h = stepped_by count s t (nat_lt s.steps count) refl h

marked_by : (v : Datum) (s t : State) (xs : List Datum) (r : Result (List Datum) EvalFault) → following (given r s) (λ ys u. done ys (marked v u)) ≡ done xs t → marked v s ≡ t
marked_by v s t xs (Ok ys) h = same_after ys xs (marked v s) t h
marked_by v s t xs (Err kind) h = absurd (cc)

begun : (v : Datum) (s t : State) (xs : List Datum) → begin_walk v s ≡ done xs t → marked v s ≡ t
unfolding begin_walk elements
begun v s t xs h = marked_by v s t xs (elements_in s.store v) h

ended_marked : (v : Datum) (s : State) → end_walk v (marked v s) ≡ s
unfolding end_walk
ended_marked (cell home number) s = ap (λ w. record s { walks = w }) (without_last s.walks (record { «module» = home; number = number }))
ended_marked none s = refl
ended_marked (boolean b) s = refl
ended_marked (int i) s = refl
ended_marked (string t) s = refl
ended_marked (tuple vs) s = refl
ended_marked (range a b c) s = refl
ended_marked (function m i t vs) s = refl
ended_marked (built_in t) s = refl
ended_marked (rule_function f) s = refl
ended_marked (attribute a) s = refl

pub walk_ends : (v : Datum) (s t : State) (xs : List Datum) → begin_walk v s ≡ done xs t → end_walk v t ≡ s
walk_ends v s t xs h = ap (end_walk v) (sym (begun v s t xs h)) ∙ ended_marked v s

iterating_by : (home number : ℕ) (t : State) → (home == t.store.own) ≡ true → is_walked home number t.walks ≡ true → may_change home number t ≡ stopped (stop_at Iterating t)
unfolding may_change
iterating_by home number t own walked =
    ap (λ b. cond b (cond (is_walked home number t.walks) (stop Iterating t) (done (tt {0}) t)) (stop Frozen t)) own
    ∙ ap (λ b. cond b (stop Iterating t) (done (tt {0}) t)) walked

pub walk_keeps : (home number : ℕ) (s t : State) (xs : List Datum) → begin_walk (cell home number) s ≡ done xs t → home ≡ t.store.own → may_change home number t ≡ stopped (stop_at Iterating t)
walk_keeps home number s t xs h own =
    iterating_by home number t ((unsigned_Decides home t.store.own).1 own)
    (ap (λ u. is_walked home number u.walks) (sym (begun (cell home number) s t xs h)) ∙ newest_is_walked home number s.walks)

entered_by : (home place : ℕ) (s t : State) (a b : Bool) → cond a (stop Recursion s) (cond b (done tt (record s { active = s.active ++ (home, place) ∷ [] })) (stop CallDepth s)) ≡ done (tt {0}) t → record s { active = s.active ++ (home, place) ∷ [] } ≡ t
entered_by home place s t true b h = absurd (cc)
entered_by home place s t false false h = absurd (cc)
entered_by home place s t false true h = same_after (tt {0}) (tt {0}) (record s { active = s.active ++ (home, place) ∷ [] }) t h

entered : (home place : ℕ) (s t : State) → enter home place s ≡ done tt t → record s { active = s.active ++ (home, place) ∷ [] } ≡ t
unfolding enter
entered home place s t h = entered_by home place s t (is_active home place s.active) (nat_lt (length s.active) max_active) h

pub function_left : (home place : ℕ) (s t : State) → enter home place s ≡ done tt t → leave t ≡ s
unfolding leave
function_left home place s t h = ap leave (sym (entered home place s t h)) ∙ ap (λ a. record s { active = a }) (without_last s.active (home, place))

recursion_by : (home place : ℕ) (t : State) → is_active home place t.active ≡ true → enter home place t ≡ stopped (stop_at Recursion t)
unfolding enter
recursion_by home place t h =
    ap (λ b. cond b (stop Recursion t) (cond (nat_lt (length t.active) max_active) (done (tt {0}) (record t { active = t.active ++ (home, place) ∷ [] })) (stop CallDepth t))) h

pub function_once : (home place : ℕ) (s t : State) → enter home place s ≡ done tt t → enter home place t ≡ stopped (stop_at Recursion t)
function_once home place s t h =
    recursion_by home place t (ap (λ u. is_active home place u.active) (sym (entered home place s t h)) ∙ newest_is_active home place s.active)

integer_at : (n : ℕ) (first step : ℤ) (k : ℕ) → k < n → slice_get (integers first step n) k ≡ Some (range_element first step k)
integer_at zero first step k below = absurd (omega (arith, below))
integer_at (suc n) first step zero below = ap Some (sym (first_element first step))
integer_at (suc n) first step (suc k) below = integer_at n (first +ℤ step) step k (omega (arith, below)) ∙ ap Some (next_element first step k)

pub range_counted : (start stop step : ℤ) → length (range_integers start stop step) ≡ range_count start stop step
range_counted start stop step = length-integers start step (range_count start stop step)

pub range_at : (start stop step : ℤ) (k : ℕ) → k < range_count start stop step → slice_get (range_integers start stop step) k ≡ Some (range_element start step k)
range_at start stop step k below = integer_at (range_count start stop step) start step k below
