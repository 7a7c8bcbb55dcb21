-- The first clause of a comprehension, and those after it: what they do, and how many turns and ends of loops come; what a
-- comprehension's parts do, one after another.
use Rattle.std.proofs.Common.{◌≡◌, ◌<◌, ◌≤◌, ◌-◌, ◌∙◌, Bool, true, false, List, [], ◌∷◌, length, take, drop, get_or, Some, refl, sym, ap, arith}
use Rattle.std.specs.Prelude.{if◌then◌else◌}
use Rattle.std.proofs.lemmas.List.{take_all}
use Rattle.bq_parse_grammar.specs.declared.tree.Expr.{Expr}
use Rattle.bq_parse_grammar.specs.declared.tree.Argument.TheOpen.{Clause-F}
use Rattle.bq_parse_grammar.specs.declared.tree.Clause.{Clause, out-Clause}
use Rattle.bq_parse_grammar.specs.declared.tree.ComprehensionFrame.{ComprehensionFrame}
use Rattle.bq_resolve_scope.specs.Names.{ClauseLayer}
use Rattle.bq_value.specs.Contents.{Contents}
use Rattle.bq_value.specs.Datum.{Datum}
use Rattle.bq_builtin_machine.specs.State.{Stop}
use Rattle.bq_builtin_machine.specs.Action.{done, stopped, following, pure}
use Rattle.bq_eval_spec.specs.Frame.{Frame}
use Rattle.bq_eval_spec.specs.Primitives.{Primitives}
use Rattle.bq_eval_spec.specs.Slots.{by_slots, opened}
use Rattle.bq_eval_spec.specs.Trees.{Eval}
use Rattle.bq_eval_spec.specs.Comprehensions.{Turn, clause_by, clauses, comprehension, first_clauses, for_clause}
use Rattle.bq_eval_rules.specs.declared.open_loop.ForClause.{ForClause}
use Rattle.bq_eval_rules.specs.OpenLoops.{Count, clause_count_by, clauses_count, counted, Loop, loop_count, loop_left, opening, reached_count, reached_left, turns_count}
use Rattle.bq_eval_rules.proofs.Deciding.{if_decides}
use Rattle.bq_eval_rules.proofs.Following.{counted_twice, following_twice}

module _ {S : Type 0} (m : Primitives S) (eval : Eval S Frame) (inner : Turn S Frame) (env : Frame) (c : Contents) (s : S) where
  pub first_clause : (cs : List Clause) (x : Clause) (l : ClauseLayer) → 1 ≤ length cs → x ≡ get_or cs 0 x → out-Clause x ≡ l
      → clauses m by_slots eval cs inner env c s ≡ clause_by m by_slots eval l env (clauses m by_slots eval (take (length cs - 1) (drop 1 cs)) inner) env c s
  unfolding clauses
  first_clause [] x l some is layer = absurd (omega (arith, some))
  first_clause (y ∷ ys) x l some is layer =
      let all : take (length (y ∷ ys) - 1) ys ≡ ys = take_all (length (y ∷ ys) - 1) ys (omega arith) in
      ap (λ z. clause_by m by_slots eval (out-Clause z) env (clauses m by_slots eval ys inner) env c s) (sym is)
      ∙ (ap (λ k. clause_by m by_slots eval k env (clauses m by_slots eval ys inner) env c s) layer ∙ ap (λ zs. clause_by m by_slots eval l env (clauses m by_slots eval zs inner) env c s) (sym all))

  pub first_count : (cs : List Clause) (x : Clause) (l : ClauseLayer) → 1 ≤ length cs → x ≡ get_or cs 0 x → out-Clause x ≡ l
      → clauses_count m eval inner cs env c s
      ≡ clause_count_by m eval inner l (clauses m by_slots eval (take (length cs - 1) (drop 1 cs)) inner) (clauses_count m eval inner (take (length cs - 1) (drop 1 cs))) env c s
  unfolding clauses_count
  first_count [] x l some is layer = absurd (omega (arith, some))
  first_count (y ∷ ys) x l some is layer =
      let all : take (length (y ∷ ys) - 1) ys ≡ ys = take_all (length (y ∷ ys) - 1) ys (omega arith) in
      ap (λ z. clause_count_by m eval inner (out-Clause z) (clauses m by_slots eval ys inner) (clauses_count m eval inner ys) env c s) (sym is)
      ∙ (ap (λ k. clause_count_by m eval inner k (clauses m by_slots eval ys inner) (clauses_count m eval inner ys) env c s) layer
      ∙ ap (λ zs. clause_count_by m eval inner l (clauses m by_slots eval zs inner) (clauses_count m eval inner zs) env c s) (sym all))

  -- where no clause is left

  pub no_clause : (cs : List Clause) → length cs < 1 → clauses m by_slots eval cs inner env c s ≡ inner env c s
  unfolding clauses
  no_clause [] none = refl
  no_clause (y ∷ ys) none = absurd (omega (arith, none))

  pub no_count : (cs : List Clause) → length cs < 1 → clauses_count m eval inner cs env c s ≡ 0
  unfolding clauses_count
  no_count [] none = refl
  no_count (y ∷ ys) none = absurd (omega (arith, none))

  -- ---- a `for` clause opens its loop, and then the loop runs

  for_opens : (f : ForClause) (there : Frame) → for_clause m by_slots eval f.target.now f.iterable.now there (clauses m by_slots eval f.after.now inner) env c s
      ≡ following (opening m eval f there s) (λ l. loop_left m eval inner l env c)
  unfolding for_clause opening loop_left
  for_opens f there =
      let loop : Datum → List Datum → Loop = λ v vs. record { target = f.target.now; after = f.after.now; walked = v; elements = vs } in
      sym (following_twice (eval f.iterable.now there s) (λ v r. following (m.begin_walk v r) (λ vs. pure (loop v vs))) (λ l. loop_left m eval inner l env c)
      ∙ (λ i. following (eval f.iterable.now there s) (λ v r. following_twice (m.begin_walk v r) (λ vs. pure (loop v vs)) (λ l. loop_left m eval inner l env c) i)))

  pub for_counts : (f : ForClause)
      → clause_count_by m eval inner (Clause-F.For f.target.now f.iterable.now) (clauses m by_slots eval f.after.now inner) (clauses_count m eval inner f.after.now) env c s
      ≡ reached_count m eval inner (Some f) env c s
  unfolding opening loop_count
  for_counts f =
      let loop : Datum → List Datum → Loop = λ v vs. record { target = f.target.now; after = f.after.now; walked = v; elements = vs } in
      counted_twice (eval f.iterable.now env s) m.begin_walk (λ vs. turns_count m f.target.now (clauses m by_slots eval f.after.now inner) (clauses_count m eval inner f.after.now) vs env c)
      ∙ sym (counted_twice (eval f.iterable.now env s) (λ v r. following (m.begin_walk v r) (λ vs. pure (loop v vs))) (λ l. loop_count m eval inner l env c)
      ∙ (λ i. counted (eval f.iterable.now env s) (λ v r. counted_twice (m.begin_walk v r) (λ vs. pure (loop v vs)) (λ l. loop_count m eval inner l env c) i)))

  -- ---- an `if` clause decides

  pub if_counts : (x : Expr) (inside : Count S) (turn : Turn S Frame)
      → clause_count_by m eval inner (Clause-F.If x) turn inside env c s
      ≡ counted (following (eval x env s) (λ v t. done (m.truth v t) t)) (λ b t. if b then inside env c t else 0)
  if_counts x inside turn = sym (counted_twice (eval x env s) (λ v t. done (m.truth v t) t) (λ b t. if b then inside env c t else 0))

-- ---- what the first clause decides

module _ {S : Type 0} (m : Primitives S) (eval : Eval S Frame) (inner : Turn S Frame) (env : Frame) (c : Contents) (s : S) (cs : List Clause) (first : Clause) (some : 1 ≤ length cs) (is : first ≡ get_or cs 0 first) where
  module _ (f : ForClause) (after : f.after.now ≡ take (length cs - 1) (drop 1 cs)) (layer : out-Clause first ≡ Clause-F.For f.target.now f.iterable.now) where
    pub loop_left_to : clauses m by_slots eval cs inner env c s ≡ reached_left m eval inner (Some f) env c s
    loop_left_to =
        first_clause m eval inner env c s cs first (Clause-F.For f.target.now f.iterable.now) some is layer
        ∙ (ap (λ rest. for_clause m by_slots eval f.target.now f.iterable.now env (clauses m by_slots eval rest inner) env c s) (sym after) ∙ for_opens m eval inner env c s f env)

    pub loop_counts : clauses_count m eval inner cs env c s ≡ reached_count m eval inner (Some f) env c s
    loop_counts =
        first_count m eval inner env c s cs first (Clause-F.For f.target.now f.iterable.now) some is layer
        ∙ (ap (λ rest. clause_count_by m eval inner (Clause-F.For f.target.now f.iterable.now) (clauses m by_slots eval rest inner) (clauses_count m eval inner rest) env c s) (sym after)
        ∙ for_counts m eval inner env c s f)

  module _ (x : Expr) (layer : out-Clause first ≡ Clause-F.If x) where
    if_left : clauses m by_slots eval cs inner env c s
        ≡ following (following (eval x env s) (λ v t. done (m.truth v t) t)) (λ b t. (if b then clauses m by_slots eval (take (length cs - 1) (drop 1 cs)) inner env c else pure (c, env)) t)
    if_left = first_clause m eval inner env c s cs first (Clause-F.If x) some is layer ∙ if_decides m eval x (clauses m by_slots eval (take (length cs - 1) (drop 1 cs)) inner) env c s

    if_count : clauses_count m eval inner cs env c s
        ≡ counted (following (eval x env s) (λ v t. done (m.truth v t) t)) (λ b t. if b then clauses_count m eval inner (take (length cs - 1) (drop 1 cs)) env c t else 0)
    if_count =
        first_count m eval inner env c s cs first (Clause-F.If x) some is layer
        ∙ if_counts m eval inner env c s x (clauses_count m eval inner (take (length cs - 1) (drop 1 cs))) (clauses m by_slots eval (take (length cs - 1) (drop 1 cs)) inner)

    pub condition_stops : (why : Stop) → following (eval x env s) (λ v t. done (m.truth v t) t) ≡ stopped why → clauses m by_slots eval cs inner env c s ≡ stopped why
    condition_stops why e = if_left ∙ ap (λ r. following r (λ b t. (if b then clauses m by_slots eval (take (length cs - 1) (drop 1 cs)) inner env c else pure (c, env)) t)) e

    module _ (b : Bool) (after : S) (e : following (eval x env s) (λ v t. done (m.truth v t) t) ≡ done b after) where
      decided : clauses m by_slots eval cs inner env c s ≡ (if b then clauses m by_slots eval (take (length cs - 1) (drop 1 cs)) inner env c else pure (c, env)) after
      decided = if_left ∙ ap (λ r. following r (λ b t. (if b then clauses m by_slots eval (take (length cs - 1) (drop 1 cs)) inner env c else pure (c, env)) t)) e

      decided_count : clauses_count m eval inner cs env c s ≡ (if b then clauses_count m eval inner (take (length cs - 1) (drop 1 cs)) env c after else 0)
      decided_count = if_count ∙ ap (λ r. counted r (λ b t. if b then clauses_count m eval inner (take (length cs - 1) (drop 1 cs)) env c t else 0)) e

      pub condition_holds : b ≡ true → clauses m by_slots eval cs inner env c s ≡ clauses m by_slots eval (take (length cs - 1) (drop 1 cs)) inner env c after
      condition_holds yes_it = decided ∙ ap (λ d. (if d then clauses m by_slots eval (take (length cs - 1) (drop 1 cs)) inner env c else pure (c, env)) after) yes_it

      pub holds_count : b ≡ true → clauses_count m eval inner cs env c s ≡ clauses_count m eval inner (take (length cs - 1) (drop 1 cs)) env c after
      holds_count yes_it = decided_count ∙ ap (λ d. if d then clauses_count m eval inner (take (length cs - 1) (drop 1 cs)) env c after else 0) yes_it

      pub condition_fails : b ≡ false → clauses m by_slots eval cs inner env c s ≡ done (c, env) after
      condition_fails no_it = decided ∙ ap (λ d. (if d then clauses m by_slots eval (take (length cs - 1) (drop 1 cs)) inner env c else pure (c, env)) after) no_it

      pub fails_count : b ≡ false → clauses_count m eval inner cs env c s ≡ 0
      fails_count no_it = decided_count ∙ ap (λ d. if d then clauses_count m eval inner (take (length cs - 1) (drop 1 cs)) env c after else 0) no_it

-- ---- all clauses of a comprehension

module _ {S : Type 0} (m : Primitives S) (eval : Eval S Frame) (inner : Turn S Frame) (there env : Frame) (c : Contents) (s : S) where
  -- the first clause opens its loop, whose iterable is evaluated outside
  pub first_opens : (cs : List Clause) (first : Clause) (f : ForClause) → 1 ≤ length cs → first ≡ get_or cs 0 first → out-Clause first ≡ Clause-F.For f.target.now f.iterable.now → f.after.now ≡ take (length cs - 1) (drop 1 cs)
      → first_clauses m by_slots eval cs there inner env c s ≡ following (opening m eval f there s) (λ l. loop_left m eval inner l env c)
  unfolding first_clauses
  first_opens [] first f some is layer after = absurd (omega (arith, some))
  first_opens (y ∷ ys) first f some is layer after =
      let all : take (length (y ∷ ys) - 1) ys ≡ ys = take_all (length (y ∷ ys) - 1) ys (omega arith) in
      ap (λ z. clause_by m by_slots eval (out-Clause z) there (clauses m by_slots eval ys inner) env c s) (sym is)
      ∙ (ap (λ k. clause_by m by_slots eval k there (clauses m by_slots eval ys inner) env c s) layer
      ∙ (ap (λ zs. for_clause m by_slots eval f.target.now f.iterable.now there (clauses m by_slots eval zs inner) env c s) (sym (after ∙ all)) ∙ for_opens m eval inner env c s f there))

  -- where it is known what the opening gives
  module _ (cs : List Clause) (first : Clause) (f : ForClause) (some : 1 ≤ length cs) (is : first ≡ get_or cs 0 first) where
    pub first_stops : (why : Stop) → opening m eval f there s ≡ stopped why → out-Clause first ≡ Clause-F.For f.target.now f.iterable.now → f.after.now ≡ take (length cs - 1) (drop 1 cs)
        → first_clauses m by_slots eval cs there inner env c s ≡ stopped why
    first_stops why o layer after = first_opens cs first f some is layer after ∙ ap (λ r. following r (λ l. loop_left m eval inner l env c)) o

    pub first_begins : (l : Loop) (begun : S) → opening m eval f there s ≡ done l begun → out-Clause first ≡ Clause-F.For f.target.now f.iterable.now → f.after.now ≡ take (length cs - 1) (drop 1 cs)
        → first_clauses m by_slots eval cs there inner env c s ≡ loop_left m eval inner l env c begun
    first_begins l begun o layer after = first_opens cs first f some is layer after ∙ ap (λ r. following r (λ l. loop_left m eval inner l env c)) o

  -- without a loop first, it doesn't matter where that would be

  pub first_decides : (cs : List Clause) (first : Clause) (x : Expr) → 1 ≤ length cs → first ≡ get_or cs 0 first → out-Clause first ≡ Clause-F.If x
      → first_clauses m by_slots eval cs there inner env c s ≡ clauses m by_slots eval cs inner env c s
  unfolding first_clauses clauses
  first_decides [] first x some is layer = absurd (omega (arith, some))
  first_decides (y ∷ ys) first x some is layer =
      let k : out-Clause y ≡ Clause-F.If x = ap out-Clause (sym is) ∙ layer in
      ap (λ l. clause_by m by_slots eval l there (clauses m by_slots eval ys inner) env c s) k ∙ sym (ap (λ l. clause_by m by_slots eval l env (clauses m by_slots eval ys inner) env c s) k)

  pub no_first : (cs : List Clause) → length cs < 1 → first_clauses m by_slots eval cs there inner env c s ≡ clauses m by_slots eval cs inner env c s
  unfolding first_clauses clauses
  no_first [] none = refl
  no_first (y ∷ ys) none = absurd (omega (arith, none))

-- after its step, a comprehension fills a list or dict, and then makes it
pub comprehension_makes : {S : Type 0} (m : Primitives S) (eval : Eval S Frame) (none : Contents) (inner : Turn S Frame) (cs : List Clause) (own : ComprehensionFrame) (env : Frame) (s begun : S) → m.step 1 s ≡ done tt begun
    → comprehension m by_slots eval none inner cs own env s ≡ following (following (first_clauses m by_slots eval cs env inner (opened env own) none begun) (λ r. pure r.0)) m.make
unfolding comprehension
comprehension_makes m eval none inner cs own env s begun stepped =
    ap (λ r. following r (λ _ t. following (first_clauses m by_slots eval cs env inner (opened env own) none t) (λ r. m.make r.0))) stepped
    ∙ sym (following_twice (first_clauses m by_slots eval cs env inner (opened env own) none begun) (λ r. pure r.0) m.make)
