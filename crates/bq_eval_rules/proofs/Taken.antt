-- Arguments that are evaluated straight into the frame give the frame that a call with them begins with.
use Rattle.std.proofs.Common.{◌≡◌, ◌∙◌, ℕ, zero, suc, ◌+◌, ◌<◌, ◌≤◌, nat_le, nat_lt, Bool, true, false, cond, List, [], ◌∷◌, ◌++◌, length, replicate, set, slice_get, Option, Some, None, Ok, Err, refl, ap, sym, inl, inr, arith}
use Rattle.std.specs.List.{position_from}
use Rattle.std.proofs.lemmas.Bool.{cases_Bool}
use Rattle.std.proofs.lemmas.Bool.Decides.{nat_tests}
use Rattle.std.proofs.lemmas.List.{length_push}
use Rattle.std.proofs.lemmas.Option.{slice_get_past}
use Rattle.bq_base.specs.declared.fault.EvalFault.{EvalFault}
use Rattle.bq_base.specs.declared.fault.EvalFault.TheVariants as f
use Rattle.bq_parse_grammar.specs.declared.tree.Argument.TheOpen.{Argument-F}
use Rattle.bq_parse_grammar.specs.declared.tree.Argument.{Argument, out-Argument}
use Rattle.bq_parse_grammar.specs.declared.tree.Argument.TheVariants as form
use Rattle.bq_parse_grammar.specs.declared.tree.Expr.{Expr}
use Rattle.bq_value.specs.Datum.{Datum}
use Rattle.bq_resolve_scope.specs.declared.file.Formal.{Formal}
use Rattle.bq_resolve_scope.specs.declared.file.Function.{Function}
use Rattle.bq_builtin_machine.specs.Action.{Action, ◌>>=◌, Run, done, stopped, following, pure}
use Rattle.bq_builtin_machine.specs.Args.{Passed, nothing_passed}
use Rattle.bq_builtin_machine.specs.Parameters.{is_called}
use Rattle.bq_builtin_machine.specs.Binding.{BoundView, Binding, and_bind, fill, fill_by, placed_values, take_all_named, take_keyword, take_named, take_named_by}
use Rattle.bq_builtin_machine.specs.State.{stop_at}
use Rattle.bq_eval_spec.specs.Frame.{Frame}
use Rattle.bq_eval_spec.specs.Primitives.{Primitives, given_by, stuck}
use Rattle.bq_eval_frame.specs.Slots.{list_slots}
use Rattle.bq_eval_spec.specs.Calls.{entry, singles}
use Rattle.bq_eval_spec.specs.Expressions.{argument, argument_by, arguments, call_of}
use Rattle.bq_eval_spec.specs.Slots.{by_slots}
use Rattle.bq_eval_spec.specs.Trees.{ArgumentLayer, Eval}
use Rattle.bq_eval_rules.specs.declared.called.ProgramFunction.{ProgramFunction}
use Rattle.bq_eval_rules.specs.declared.context.Context.{Context}
use Rattle.bq_eval_rules.specs.Called.{IsCallee, entered}
use Rattle.bq_eval_rules.specs.Direct.{Values, and_values, are_direct, defaulted, direct_signature, direct_values, placed_all, with_defaults}
use Rattle.bq_eval_rules.specs.Few.{PassesFew, few}
use Rattle.bq_eval_rules.specs.Round.{inside}
use Rattle.bq_eval_rules.specs.Taking.{GoesStraight, all_taken, and_plain, are_plain, begun, framed, next_by, plain_next, put_at, put_by, straight_entry, taken, taken_by}
use Rattle.bq_eval_rules.proofs.Straight.{directly, placed_long}

-- ---- an argument of a known form

module _ (a : Argument) (named : Bool) where
  next_is : (l : ArgumentLayer) → out-Argument a ≡ l → plain_next a named ≡ next_by l named
  unfolding plain_next
  next_is l is = ap (λ k. next_by k named) is

  pub next_positional : (x : Expr) → a ≡ form.Positional x → plain_next a named ≡ cond named None (Some false)
  next_positional x is = next_is (Argument-F.Positional x) (ap out-Argument is ∙ form.outs-Positional x)

  pub next_named : (n : List ℕ) (x : Expr) → a ≡ form.Named n x → plain_next a named ≡ Some true
  next_named n x is = next_is (Argument-F.Named n x) (ap out-Argument is ∙ form.outs-Named n x)

  pub next_star : (x : Expr) → a ≡ form.Star x → plain_next a named ≡ None
  next_star x is = next_is (Argument-F.Star x) (ap out-Argument is ∙ form.outs-Star x)

  pub next_star_star : (x : Expr) → a ≡ form.StarStar x → plain_next a named ≡ None
  next_star_star x is = next_is (Argument-F.StarStar x) (ap out-Argument is ∙ form.outs-StarStar x)

module _ {S : Type 0} (m : Primitives S) (ps : List Formal) (eval : Eval S Frame) (a : Argument) (env : Frame) (i : ℕ) (vs : Values) (s : S) where
  taken_is : (l : ArgumentLayer) → out-Argument a ≡ l → taken m ps eval a env i vs s ≡ taken_by m ps eval l env i vs s
  unfolding taken
  taken_is l is = ap (λ k. taken_by m ps eval k env i vs s) is

  pub taken_positional : (x : Expr) → a ≡ form.Positional x → taken m ps eval a env i vs s ≡ (eval x env >>= λ v. pure (and_values vs (put_at (Some i) v))) s
  taken_positional x is = taken_is (Argument-F.Positional x) (ap out-Argument is ∙ form.outs-Positional x)

  pub taken_named : (n : List ℕ) (x : Expr) → a ≡ form.Named n x
      → taken m ps eval a env i vs s ≡ (eval x env >>= λ v. pure (and_values vs (put_at (position_from (is_called n) 0 (singles ps)) v))) s
  taken_named n x is = taken_is (Argument-F.Named n x) (ap out-Argument is ∙ form.outs-Named n x)

  pub taken_star : (x : Expr) → a ≡ form.Star x → taken m ps eval a env i vs s ≡ stuck m s
  taken_star x is = taken_is (Argument-F.Star x) (ap out-Argument is ∙ form.outs-Star x)

  pub taken_star_star : (x : Expr) → a ≡ form.StarStar x → taken m ps eval a env i vs s ≡ stuck m s
  taken_star_star x is = taken_is (Argument-F.StarStar x) (ap out-Argument is ∙ form.outs-StarStar x)

-- ---- the frame once the arguments are bound

module _ {S : Type 0} (m : Primitives S) (ps : List Formal) (ds : List Datum) (given : Values) (s : S) where
  pub begins : (vs : List (Option Datum)) → and_values given (with_defaults 0 ps ds) ≡ Ok vs → begun m ps ds given s ≡ done (list_slots vs) s
  begins vs is = ap (λ r. given_by m (framed r) s) is

  pub misfits : (kind : EvalFault) → and_values given (with_defaults 0 ps ds) ≡ Err kind → begun m ps ds given s ≡ stopped (stop_at kind (m.machine s))
  misfits kind is = ap (λ r. given_by m (framed r) s) is

-- ---- what the arguments that are passed so far give

abbrev values_in : Binding → Values
values_in (Ok b) = Ok b.values
values_in (Err kind) = Err kind

-- where the positional ones are not too many
abbrev if_room : Bool → Values → Values
if_room t vs = cond t vs (Err f.Args)

module _ (ps : List Formal) where
  abbrev bound_of : List Datum → List (List ℕ × Datum) → Binding
  bound_of xs named = take_all_named (direct_signature ps) named (placed_all (length ps) xs)

  abbrev so_far : List Datum → List (List ℕ × Datum) → Values
  so_far xs named = if_room (nat_le (length xs) (length ps)) (values_in (bound_of xs named))

  -- with the defaults
  direct_by : (t : Bool) (b : Binding) (ds : List Datum) → cond t (defaulted b ps ds) (Err f.Args) ≡ and_values (if_room t (values_in b)) (with_defaults 0 ps ds)
  direct_by true (Ok b) ds = refl
  direct_by true (Err kind) ds = refl
  direct_by false b ds = refl

  direct_of : (ds : List Datum) (p : Passed) → direct_values ps ds p ≡ and_values (so_far p.positional p.named) (with_defaults 0 ps ds)
  unfolding direct_values
  direct_of ds p = direct_by (nat_le (length p.positional) (length ps)) (bound_of p.positional p.named) ds

  -- none

  none_placed : (n : ℕ) → placed_values n n [] ≡ replicate n None
  none_placed zero = refl
  none_placed (suc n) = ap (λ vs. None ∷ vs) (none_placed n)

  with_room : (t : Bool) (vs : Values) → t ≡ true → if_room t vs ≡ vs
  with_room true vs h = refl
  with_room false vs h = absurd (cc h)

  none_so_far : so_far [] [] ≡ Ok (replicate (length ps) None)
  unfolding take_all_named
  none_so_far =
      let room : nat_le 0 (length ps) ≡ true = grind (arith, nat_tests) in
      with_room (nat_le 0 (length ps)) (Ok (placed_values (length ps) (length ps) [])) room ∙ ap Ok (none_placed (length ps))

  -- one more by name

  value_filled : (o : Option (Option Datum)) (i : ℕ) (v : Datum) (b : BoundView) → values_in (fill_by o i v b) ≡ put_by o i v b.values
  value_filled None i v b = refl
  value_filled (Some None) i v b = refl
  value_filled (Some (Some w)) i v b = refl

  value_by : (o : Option ℕ) (name : List ℕ) (v : Datum) (b : BoundView) → values_in (take_named_by o false name v b) ≡ put_at o v b.values
  unfolding fill take_keyword
  value_by (Some i) name v b = value_filled (slice_get b.values i) i v b
  value_by None name v b = refl

  abbrev put_named : List ℕ → Datum → List (Option Datum) → Values
  put_named name v = put_at (position_from (is_called name) 0 (singles ps)) v

  value_named : (name : List ℕ) (v : Datum) (b : BoundView) → values_in (take_named (direct_signature ps) name v b) ≡ put_named name v b.values
  unfolding take_named
  value_named name v b = value_by (position_from (is_called name) 0 (singles ps)) name v b

  bind_ok : (r : Binding) → and_bind r (take_all_named (direct_signature ps) []) ≡ r
  unfolding take_all_named
  bind_ok (Ok b) = refl
  bind_ok (Err kind) = refl

  then_more : (r : Binding) (first : BoundView → Binding) (all : BoundView → Binding) (last : BoundView → Binding) → ((b : BoundView) → all b ≡ and_bind (first b) last)
      → and_bind r all ≡ and_bind (and_bind r first) last
  then_more (Ok b) first all last h = h b
  then_more (Err kind) first all last h = refl

  one_more : (named : List (List ℕ × Datum)) (name : List ℕ) (v : Datum) (b : BoundView)
      → take_all_named (direct_signature ps) (named ++ (name, v) ∷ []) b ≡ and_bind (take_all_named (direct_signature ps) named b) (take_named (direct_signature ps) name v)
  unfolding take_all_named
  one_more [] name v b = bind_ok (take_named (direct_signature ps) name v b)
  one_more (a ∷ named) name v b =
      then_more (take_named (direct_signature ps) a.0 a.1 b) (take_all_named (direct_signature ps) named) (take_all_named (direct_signature ps) (named ++ (name, v) ∷ []))
      (take_named (direct_signature ps) name v) (one_more named name v)

  named_by : (t : Bool) (r : Binding) (name : List ℕ) (v : Datum)
      → if_room t (values_in (and_bind r (take_named (direct_signature ps) name v))) ≡ and_values (if_room t (values_in r)) (put_named name v)
  named_by true (Ok b) name v = value_named name v b
  named_by true (Err kind) name v = refl
  named_by false r name v = refl

  named_joins : (xs : List Datum) (named : List (List ℕ × Datum)) (name : List ℕ) (v : Datum)
      → so_far xs (named ++ (name, v) ∷ []) ≡ and_values (so_far xs named) (put_named name v)
  named_joins xs named name v =
      ap (λ r. if_room (nat_le (length xs) (length ps)) (values_in r)) (one_more named name v (placed_all (length ps) xs))
      ∙ named_by (nat_le (length xs) (length ps)) (bound_of xs named) name v

  -- one more by place

  free_place : (n : ℕ) (xs : List Datum) → length xs < n → slice_get (placed_values n n xs) (length xs) ≡ Some None
  free_place zero xs h = absurd (omega (arith, h))
  free_place (suc n) [] h = refl
  free_place (suc n) (x ∷ xs) h = free_place n xs (omega (arith, h))

  next_placed : (n : ℕ) (xs : List Datum) (v : Datum) → length xs < n → placed_values n n (xs ++ v ∷ []) ≡ set (placed_values n n xs) (length xs) (Some v)
  next_placed zero xs v h = absurd (omega (arith, h))
  next_placed (suc n) [] v h = refl
  next_placed (suc n) (x ∷ xs) v h = ap (λ vs. Some x ∷ vs) (next_placed n xs v (omega (arith, h)))

  abbrev Joins : Bool → Bool → List (Option Datum) → List (Option Datum) → ℕ → Datum → Type 0
  Joins t u vs ws i v = if_room t (Ok ws) ≡ and_values (if_room u (Ok vs)) (put_at (Some i) v)

  joins : (t u : Bool) (vs ws : List (Option Datum)) (i : ℕ) (v : Datum) → t ≡ true → u ≡ true → slice_get vs i ≡ Some None → ws ≡ set vs i (Some v) → Joins t u vs ws i v
  joins true true vs ws i v one all free is = ap Ok is ∙ ap (λ o. put_by o i v vs) (sym free)
  joins true false vs ws i v one all free is = absurd (cc all)
  joins false u vs ws i v one all free is = absurd (cc one)

  no_room : (t u : Bool) (vs ws : List (Option Datum)) (i : ℕ) (v : Datum) → t ≡ false → slice_get vs i ≡ None → Joins t u vs ws i v
  no_room false true vs ws i v none past = ap (λ o. put_by o i v vs) (sym past)
  no_room false false vs ws i v none past = refl
  no_room true u vs ws i v none past = absurd (cc none)

  placed_joins : (n : ℕ) (xs : List Datum) (v : Datum) → Joins (nat_le (length (xs ++ v ∷ [])) n) (nat_le (length xs) n) (placed_values n n xs) (placed_values n n (xs ++ v ∷ [])) (length xs) v
  placed_joins n xs v =
      let longer = length_push xs v in
      elim (cases_Bool (nat_lt (length xs) n)) [
        | inl h ↦
            let within : length xs < n = grind (arith, nat_tests, h) in
            let one : nat_le (length (xs ++ v ∷ [])) n ≡ true = grind (arith, nat_tests, within, longer) in
            let all : nat_le (length xs) n ≡ true = grind (arith, nat_tests, within) in
            joins _ _ (placed_values n n xs) (placed_values n n (xs ++ v ∷ [])) (length xs) v one all (free_place n xs within) (next_placed n xs v within)
        | inr h ↦
            let past : n ≤ length xs = grind (arith, nat_tests, h) in
            let none : nat_le (length (xs ++ v ∷ [])) n ≡ false = grind (arith, nat_tests, past, longer) in
            no_room _ _ (placed_values n n xs) (placed_values n n (xs ++ v ∷ [])) (length xs) v none (slice_get_past (placed_values n n xs) (length xs) (omega (arith, placed_long n n xs, past)))
      ]

  positional_joins : (xs : List Datum) (named : List (List ℕ × Datum)) (v : Datum) (i : ℕ) → named ≡ [] → i ≡ length xs → so_far (xs ++ v ∷ []) named ≡ and_values (so_far xs named) (put_at (Some i) v)
  unfolding take_all_named
  positional_joins xs named v i none at =
      ap (so_far (xs ++ v ∷ [])) none
      ∙ (placed_joins (length ps) xs v
      ∙ (ap (λ ns. and_values (so_far xs ns) (put_at (Some (length xs)) v)) (sym none) ∙ ap (λ k. and_values (so_far xs named) (put_at (Some k) v)) (sym at)))

-- ---- all arguments

module _ {S : Type 0} (m : Primitives S) (passes : PassesFew m) (eval : Eval S Frame) (d : Function) (ds : List Datum) (env : Frame) (direct : are_direct 0 d.parameters ≡ true) where
  -- the call begins with the frame that the arguments so far and these give, by what each of both runs gives
  abbrev Same : Run S Passed → Run S Values → Type 0
  Same passing taking = following passing (entry m by_slots d ds) ≡ following taking (begun m d.parameters ds)

  -- where these are left
  abbrev Agree : List Argument → Passed → ℕ → S → Type 0
  Agree xs p i s = Same (arguments m eval xs env p s) (all_taken m d.parameters eval xs env i (so_far d.parameters p.positional p.named) s)

  all_over : (p : Passed) (s : S) → Same (done p s) (done (so_far d.parameters p.positional p.named) s)
  all_over p s = directly m d ds s p direct ∙ ap (λ r. given_by m (framed r) s) (direct_of d.parameters ds p)

  -- once an argument is evaluated
  abbrev Joined : (Datum → Action S Passed) → (Datum → Values) → List Argument → ℕ → Type 0
  Joined pass take xs i = (v : Datum) (t : S) → (q : Passed) × ((pass v t ≡ done q t) × ((take v ≡ so_far d.parameters q.positional q.named) × Agree xs q (i + 1) t))

  evaluated : (run : Run S Datum) (pass : Datum → Action S Passed) (take : Datum → Values) (xs : List Argument) (i : ℕ) → Joined pass take xs i
      → Same (following (following run pass) (arguments m eval xs env)) (following (following run (λ v. pure (take v))) (all_taken m d.parameters eval xs env (i + 1)))
  evaluated (done v t) pass take xs i h =
      let k = h v t in
      ap (λ r. following (following r (arguments m eval xs env)) (entry m by_slots d ds)) k.1.0
      ∙ (k.1.1.1 ∙ ap (λ vs. following (all_taken m d.parameters eval xs env (i + 1) vs t) (begun m d.parameters ds)) (sym k.1.1.0))
  evaluated (stopped why) pass take xs i h = refl

  abbrev FitsIn : Bool → ℕ → Passed → Type 0
  FitsIn named i p = named ≡ false → (p.named ≡ []) × (i ≡ length p.positional)

  abbrev Left : List Argument → Type 0
  Left xs = (named : Bool) (p : Passed) (i : ℕ) (s : S) → are_plain xs named ≡ true → FitsIn named i p → length p.positional + length p.named + length xs ≤ few → Agree xs p i s

  one_taken : (l : ArgumentLayer) (xs : List Argument) (left : Left xs) (named : Bool) (p : Passed) (i : ℕ) (s : S)
      → and_plain (next_by l named) (are_plain xs) ≡ true → FitsIn named i p → length p.positional + length p.named + suc (length xs) ≤ few
      → Same (following (argument_by m eval l env p s) (arguments m eval xs env)) (following (taken_by m d.parameters eval l env i (so_far d.parameters p.positional p.named) s) (all_taken m d.parameters eval xs env (i + 1)))
  one_taken (Argument-F.Positional x) xs left true p i s plain fits room = absurd (cc plain)
  one_taken (Argument-F.Positional x) xs left false p i s plain fits room =
      let at = fits refl in
      evaluated (eval x env s) (m.pass p) (λ v. and_values (so_far d.parameters p.positional p.named) (put_at (Some i) v)) xs i
      (λ v t.
      let longer = length_push p.positional v in (
        record p { positional = p.positional ++ v ∷ [] },
        (
          passes.0 p v t (omega (arith, room)),
          (
            sym (positional_joins d.parameters p.positional p.named v i at.0 at.1),
            left false (record p { positional = p.positional ++ v ∷ [] }) (i + 1) t plain (λ h. (at.0, omega (arith, at.1, longer))) (omega (arith, room, longer)),
          ),
        ),
      ))
  one_taken (Argument-F.Named name x) xs left named p i s plain fits room =
      evaluated (eval x env s) (m.pass_named p name) (λ v. and_values (so_far d.parameters p.positional p.named) (put_at (position_from (is_called name) 0 (singles d.parameters)) v)) xs i
      (λ v t.
      let longer = length_push p.named (name, v) in (
        record p { named = p.named ++ (name, v) ∷ [] },
        (
          passes.1 p name v t (omega (arith, room)),
          (
            sym (named_joins d.parameters p.positional p.named name v),
            left true (record p { named = p.named ++ (name, v) ∷ [] }) (i + 1) t plain (λ h. absurd (cc h)) (omega (arith, room, longer)),
          ),
        ),
      ))
  one_taken (Argument-F.Star x) xs left named p i s plain fits room = absurd (cc plain)
  one_taken (Argument-F.StarStar x) xs left named p i s plain fits room = absurd (cc plain)

  all_agree : (xs : List Argument) → Left xs
  unfolding arguments argument all_taken taken are_plain plain_next
  all_agree [] named p i s plain fits room = all_over p s
  all_agree (a ∷ xs) named p i s plain fits room = one_taken (out-Argument a) xs (all_agree xs) named p i s plain fits room

  agree : (xs : List Argument) (s : S) → length xs ≤ few → are_plain xs false ≡ true → following (arguments m eval xs env nothing_passed s) (entry m by_slots d ds) ≡ straight_entry m d.parameters eval ds xs env s
  unfolding straight_entry
  agree xs s room plain =
      all_agree xs false nothing_passed 0 s plain (λ h. (refl, refl)) (omega (arith, room))
      ∙ ap (λ vs. following (all_taken m d.parameters eval xs env 0 vs s) (begun m d.parameters ds)) (none_so_far d.parameters)

-- ---- a call

module _ {S : Type 0} (m : Primitives S) (passes : PassesFew m) (c : Context) (eval : Eval S Frame) (xs : List Argument) (env : Frame) (v : Datum) (k : ProgramFunction) where
  begins_each : (run : Run S Passed) → IsCallee m c v k → following run (inside m c v) ≡ following (following run (entry m by_slots k.function.now k.called.now.defaults.items)) (entered m c k)
  begins_each (done p s) is = is p s
  begins_each (stopped why) is = refl

  pub goes_straight : (s : S) → IsCallee m c v k → GoesStraight k.function.now xs
      → call_of m eval (inside m c) xs env v s ≡ (straight_entry m k.function.now.parameters eval k.called.now.defaults.items xs env >>= entered m c k) s
  unfolding call_of
  goes_straight s is straight =
      begins_each (arguments m eval xs env nothing_passed s) is
      ∙ ap (λ run. following run (entered m c k)) (agree m passes eval k.function.now k.called.now.defaults.items env straight.2 xs s straight.0 straight.1)
