-- The loops of a comprehension that are open: a turn of the innermost, and its end.
use Rattle.std.proofs.Common.{◌≡◌, ◌∙◌, ℕ, suc, ◌+◌, ◌<◌, List, [], ◌∷◌, ◌++◌, length, map, Option, Some, None, refl, sym, ap, arith}
use Rattle.std.specs.Prelude.{reverse}
use Rattle.std.proofs.lemmas.List.{map_push}
use Rattle.bq_value.specs.Contents.{Contents}
use Rattle.bq_value.specs.Datum.{Datum}
use Rattle.bq_builtin_machine.specs.State.{Stop}
use Rattle.bq_builtin_machine.specs.Action.{Run, done, stopped, following, pure}
use Rattle.bq_eval_spec.specs.Frame.{Frame}
use Rattle.bq_eval_spec.specs.Primitives.{Primitives, change}
use Rattle.bq_eval_spec.specs.Slots.{by_slots}
use Rattle.bq_eval_spec.specs.Trees.{Eval}
use Rattle.bq_eval_spec.specs.Comprehensions.{Turn, clauses, turn, turns}
use Rattle.bq_eval_rules.specs.OpenLoops.{clauses_count, counted, Loop, loop_count, loop_left, loop_of, loops_count, loops_left, loops_of, opening, reached_count, reached_left, turn_count, turns_count}
use Rattle.bq_eval_rules.specs.declared.open_loop.ForClause.{ForClause}
use Rattle.bq_eval_rules.specs.declared.open_loop.OpenLoop.{OpenLoop}
use Rattle.bq_eval_rules.proofs.Following.{following_thrice}
use Rattle.bq_eval_rules.proofs.Reversed.{popped}

-- one more loop is open, which is the innermost
pub loops_pushed : (ls : List OpenLoop) (l : OpenLoop) → loops_of (ls ++ l ∷ []) ≡ loop_of l ∷ loops_of ls
unfolding loops_of
loops_pushed ls l = ap reverse (map_push loop_of ls l) ∙ popped (map loop_of ls) (loop_of l)

module _ {S : Type 0} (m : Primitives S) (eval : Eval S Frame) (body : Turn S Frame) where
  all_gives : (run : Run S (Contents × Frame)) → following run (λ r. pure (r.0, r.1)) ≡ run
  all_gives (done r t) = refl
  all_gives (stopped why) = refl

  -- where no other loop is open
  pub one_left : (l : Loop) (env : Frame) (c : Contents) (s : S) → loops_left m eval body (l ∷ []) env c s ≡ loop_left m eval body l env c s
  unfolding loops_left
  one_left l env c s = all_gives (loop_left m eval body l env c s)

  module _ (l : Loop) (ls : List Loop) (env : Frame) (c : Contents) (s : S) where
    -- ---- no element is left

    pub ended_left : l.elements ≡ [] → loops_left m eval body (l ∷ ls) env c s ≡ loops_left m eval body ls env c (m.end_walk l.walked s)
    unfolding loops_left loop_left turns
    ended_left is =
        ap (λ xs. following (following (turns m by_slots l.target (clauses m by_slots eval l.after body) xs env c s) (λ r. λ t. following (change m (m.end_walk l.walked) t) (λ _. pure r))) (λ r. loops_left m eval body ls r.1 r.0)) is

    pub ended_count : l.elements ≡ [] → loops_count m eval body (l ∷ ls) env c s ≡ suc (loops_count m eval body ls env c (m.end_walk l.walked s))
    unfolding loops_count loop_count loop_left turns turns_count
    ended_count is =
        ap (λ xs. turns_count m l.target (clauses m by_slots eval l.after body) (clauses_count m eval body l.after) xs env c s
        + counted (following (turns m by_slots l.target (clauses m by_slots eval l.after body) xs env c s) (λ r. λ t. following (change m (m.end_walk l.walked) t) (λ _. pure r))) (λ r. loops_count m eval body ls r.1 r.0)) is
        ∙ omega arith

    -- ---- the next element begins a turn

    module _ (v : Datum) (vs : List Datum) (is : l.elements ≡ v ∷ vs) where
      next_left : loops_left m eval body (l ∷ ls) env c s
          ≡ following (turn m by_slots l.target (clauses m by_slots eval l.after body) v env c s) (λ r. loops_left m eval body (record l { elements = vs } ∷ ls) r.1 r.0)
      unfolding loops_left loop_left turns
      next_left =
          ap (λ xs. following (following (turns m by_slots l.target (clauses m by_slots eval l.after body) xs env c s) (λ r. λ t. following (change m (m.end_walk l.walked) t) (λ _. pure r))) (λ r. loops_left m eval body ls r.1 r.0)) is
          ∙ following_thrice (turn m by_slots l.target (clauses m by_slots eval l.after body) v env c s) (λ r. turns m by_slots l.target (clauses m by_slots eval l.after body) vs r.1 r.0)
          (λ r. λ t. following (change m (m.end_walk l.walked) t) (λ _. pure r)) (λ r. loops_left m eval body ls r.1 r.0)

      pub turn_stops : (why : Stop) → turn m by_slots l.target (clauses m by_slots eval l.after body) v env c s ≡ stopped why → loops_left m eval body (l ∷ ls) env c s ≡ stopped why
      turn_stops why e = next_left ∙ ap (λ r. following r (λ r. loops_left m eval body (record l { elements = vs } ∷ ls) r.1 r.0)) e

      -- the turn reaches no loop, or one that begins
      pub turn_ends : (new : Frame) (made : Contents) (after : S) → turn m by_slots l.target (clauses m by_slots eval l.after body) v env c s ≡ done (made, new) after
          → loops_left m eval body (l ∷ ls) env c s ≡ loops_left m eval body (record l { elements = vs } ∷ ls) new made after
      turn_ends new made after e = next_left ∙ ap (λ r. following r (λ r. loops_left m eval body (record l { elements = vs } ∷ ls) r.1 r.0)) e

      pub turn_begins : (i : Loop) (new : Frame) (made : Contents) (after : S) → turn m by_slots l.target (clauses m by_slots eval l.after body) v env c s ≡ loop_left m eval body i new made after
          → loops_left m eval body (l ∷ ls) env c s ≡ loops_left m eval body (i ∷ record l { elements = vs } ∷ ls) new made after
      unfolding loops_left
      turn_begins i new made after e = next_left ∙ ap (λ r. following r (λ r. loops_left m eval body (record l { elements = vs } ∷ ls) r.1 r.0)) e

      -- the count of a turn, and what is counted after it
      sums : (k : ℕ) (run : Run S (Contents × Frame))
          → suc (k + counted run (λ r. turns_count m l.target (clauses m by_slots eval l.after body) (clauses_count m eval body l.after) vs r.1 r.0))
          + counted (following (following run (λ r. turns m by_slots l.target (clauses m by_slots eval l.after body) vs r.1 r.0)) (λ r. λ t. following (change m (m.end_walk l.walked) t) (λ _. pure r))) (λ r. loops_count m eval body ls r.1 r.0)
          ≡ suc (k + counted run (λ r. loops_count m eval body (record l { elements = vs } ∷ ls) r.1 r.0))
      unfolding loops_count loop_count loop_left
      sums k (done r t) = omega arith
      sums k (stopped why) = omega arith

      next_count : loops_count m eval body (l ∷ ls) env c s
          ≡ suc (turn_count m l.target (clauses_count m eval body l.after) v env c s
          + counted (turn m by_slots l.target (clauses m by_slots eval l.after body) v env c s) (λ r. loops_count m eval body (record l { elements = vs } ∷ ls) r.1 r.0))
      unfolding loops_count loop_count loop_left turns turns_count
      next_count =
          ap (λ xs. turns_count m l.target (clauses m by_slots eval l.after body) (clauses_count m eval body l.after) xs env c s
          + counted (following (turns m by_slots l.target (clauses m by_slots eval l.after body) xs env c s) (λ r. λ t. following (change m (m.end_walk l.walked) t) (λ _. pure r))) (λ r. loops_count m eval body ls r.1 r.0)) is
          ∙ sums (turn_count m l.target (clauses_count m eval body l.after) v env c s) (turn m by_slots l.target (clauses m by_slots eval l.after body) v env c s)

      pub turn_ends_count : (new : Frame) (made : Contents) (after : S) → turn m by_slots l.target (clauses m by_slots eval l.after body) v env c s ≡ done (made, new) after
          → turn_count m l.target (clauses_count m eval body l.after) v env c s ≡ 0
          → loops_count m eval body (l ∷ ls) env c s ≡ suc (loops_count m eval body (record l { elements = vs } ∷ ls) new made after)
      turn_ends_count new made after e f =
          let rest : counted (turn m by_slots l.target (clauses m by_slots eval l.after body) v env c s) (λ r. loops_count m eval body (record l { elements = vs } ∷ ls) r.1 r.0) ≡ loops_count m eval body (record l { elements = vs } ∷ ls) new made after =
          ap (λ run. counted run (λ r. loops_count m eval body (record l { elements = vs } ∷ ls) r.1 r.0)) e in
          omega (arith, next_count, f, rest)

      pub turn_begins_count : (i : Loop) (new : Frame) (made : Contents) (after : S) → turn m by_slots l.target (clauses m by_slots eval l.after body) v env c s ≡ loop_left m eval body i new made after
          → turn_count m l.target (clauses_count m eval body l.after) v env c s ≡ loop_count m eval body i new made after
          → loops_count m eval body (l ∷ ls) env c s ≡ suc (loops_count m eval body (i ∷ record l { elements = vs } ∷ ls) new made after)
      unfolding loops_count
      turn_begins_count i new made after e f =
          next_count ∙ (ap (λ k. suc (k + counted (turn m by_slots l.target (clauses m by_slots eval l.after body) v env c s) (λ r. loops_count m eval body (record l { elements = vs } ∷ ls) r.1 r.0))) f
          ∙ ap (λ run. suc (loop_count m eval body i new made after + counted run (λ r. loops_count m eval body (record l { elements = vs } ∷ ls) r.1 r.0))) e)

-- ---- the list of the code, which has the innermost loop last

empty : (ls : List OpenLoop) → length ls ≡ 0 → ls ≡ []
empty [] none = refl
empty (l ∷ ls) none = absurd (omega (arith, none))

module _ {S : Type 0} (m : Primitives S) (eval : Eval S Frame) (body : Turn S Frame) (env : Frame) (c : Contents) where
  no_loop : (s : S) → loops_left m eval body (loops_of []) env c s ≡ done (c, env) s
  unfolding loops_of loops_left
  no_loop s = refl

  -- no other loop is open yet
  pub loops_begin : (l : Loop) (ls : List OpenLoop) (s : S) → ls ≡ [] → loops_left m eval body (l ∷ loops_of ls) env c s ≡ loop_left m eval body l env c s
  unfolding loops_of
  loops_begin l ls s is = ap (λ ks. loops_left m eval body (l ∷ loops_of ks) env c s) is ∙ one_left m eval body l env c s

  module _ (l : Loop) (ls : List OpenLoop) (s after : S) (is : l.elements ≡ []) (ends : after ≡ m.end_walk l.walked s) where
    pub last_ends : length ls ≡ 0 → loops_left m eval body (l ∷ loops_of ls) env c s ≡ done (c, env) after
    last_ends none =
        ended_left m eval body l (loops_of ls) env c s is
        ∙ (ap (λ ks. loops_left m eval body (loops_of ks) env c (m.end_walk l.walked s)) (empty ls none) ∙ (no_loop (m.end_walk l.walked s) ∙ ap (λ t. done (c, env) t) (sym ends)))

    module _ (rest : List OpenLoop) (next : OpenLoop) (popped : ls ≡ rest ++ next ∷ []) where
      pub loop_ends : loops_left m eval body (l ∷ loops_of ls) env c s ≡ loops_left m eval body (loop_of next ∷ loops_of rest) env c after
      loop_ends =
          ended_left m eval body l (loops_of ls) env c s is
          ∙ (ap (λ ks. loops_left m eval body (loops_of ks) env c (m.end_walk l.walked s)) popped
          ∙ (ap (λ ks. loops_left m eval body ks env c (m.end_walk l.walked s)) (loops_pushed rest next) ∙ ap (λ t. loops_left m eval body (loop_of next ∷ loops_of rest) env c t) (sym ends)))

      pub end_counts : loops_count m eval body (l ∷ loops_of ls) env c s ≡ suc (loops_count m eval body (loop_of next ∷ loops_of rest) env c after)
      end_counts =
          ended_count m eval body l (loops_of ls) env c s is
          ∙ (ap (λ ks. suc (loops_count m eval body (loops_of ks) env c (m.end_walk l.walked s))) popped
          ∙ (ap (λ ks. suc (loops_count m eval body ks env c (m.end_walk l.walked s))) (loops_pushed rest next) ∙ ap (λ t. suc (loops_count m eval body (loop_of next ∷ loops_of rest) env c t)) (sym ends)))

  -- a turn, of which it is known what its clauses leave, and how much that counts
  module _ (l : OpenLoop) (ls : List OpenLoop) (s : S) (v : Datum) (vs : List Datum) (is : l.elements ≡ v ∷ vs) (reached : Option ForClause) (new : Frame) (made : Contents) (after : S)
      (e : turn m by_slots l.target.now (clauses m by_slots eval l.after.now body) v env c s ≡ reached_left m eval body reached new made after) where
    pub none_opens : reached ≡ None → loops_left m eval body (loop_of l ∷ loops_of ls) env c s ≡ loops_left m eval body (loop_of (record l { elements = vs }) ∷ loops_of ls) new made after
    none_opens none = turn_ends m eval body (loop_of l) (loops_of ls) env c s v vs is new made after (e ∙ ap (λ o. reached_left m eval body o new made after) none)

    module _ (f : ForClause) (one : reached ≡ Some f) where
      goes_on : turn m by_slots l.target.now (clauses m by_slots eval l.after.now body) v env c s ≡ following (opening m eval f new after) (λ k. loop_left m eval body k new made)
      goes_on = e ∙ ap (λ o. reached_left m eval body o new made after) one

      pub opening_stops : (why : Stop) → opening m eval f new after ≡ stopped why → loops_left m eval body (loop_of l ∷ loops_of ls) env c s ≡ stopped why
      opening_stops why o = turn_stops m eval body (loop_of l) (loops_of ls) env c s v vs is why (goes_on ∙ ap (λ r. following r (λ k. loop_left m eval body k new made)) o)

      module _ (i : OpenLoop) (begun : S) (o : opening m eval f new after ≡ done (loop_of i) begun) (more : List OpenLoop) (pushed : more ≡ ls ++ record l { elements = vs } ∷ []) where
        begins : turn m by_slots l.target.now (clauses m by_slots eval l.after.now body) v env c s ≡ loop_left m eval body (loop_of i) new made begun
        begins = goes_on ∙ ap (λ r. following r (λ k. loop_left m eval body k new made)) o

        more_loops : loop_of (record l { elements = vs }) ∷ loops_of ls ≡ loops_of more
        more_loops = sym (ap loops_of pushed ∙ loops_pushed ls (record l { elements = vs }))

        pub one_opens : loops_left m eval body (loop_of l ∷ loops_of ls) env c s ≡ loops_left m eval body (loop_of i ∷ loops_of more) new made begun
        one_opens =
            turn_begins m eval body (loop_of l) (loops_of ls) env c s v vs is (loop_of i) new made begun begins
            ∙ ap (λ ks. loops_left m eval body (loop_of i ∷ ks) new made begun) more_loops

        pub one_counts : turn_count m l.target.now (clauses_count m eval body l.after.now) v env c s ≡ reached_count m eval body reached new made after
            → loops_count m eval body (loop_of l ∷ loops_of ls) env c s ≡ suc (loops_count m eval body (loop_of i ∷ loops_of more) new made begun)
        one_counts counts =
            turn_begins_count m eval body (loop_of l) (loops_of ls) env c s v vs is (loop_of i) new made begun begins
            (counts ∙ (ap (λ k. reached_count m eval body k new made after) one ∙ ap (λ r. counted r (λ k. loop_count m eval body k new made)) o))
            ∙ ap (λ ks. suc (loops_count m eval body (loop_of i ∷ ks) new made begun)) more_loops

    pub none_counts : turn_count m l.target.now (clauses_count m eval body l.after.now) v env c s ≡ reached_count m eval body reached new made after → reached ≡ None
        → loops_count m eval body (loop_of l ∷ loops_of ls) env c s ≡ suc (loops_count m eval body (loop_of (record l { elements = vs }) ∷ loops_of ls) new made after)
    none_counts counts none =
        turn_ends_count m eval body (loop_of l) (loops_of ls) env c s v vs is new made after (e ∙ ap (λ o. reached_left m eval body o new made after) none)
        (counts ∙ ap (λ o. reached_count m eval body o new made after) none)

-- one less is less
pub falls : (less more : ℕ) → more ≡ suc less → less < more
falls less more is = omega (arith, is)
