-- Arguments of parameters that take one each, whose slots are the first, are the frame itself.
use Rattle.std.proofs.Common.{◌≡◌, ◌∙◌, ℕ, zero, suc, ◌+◌, ◌-◌, ◌==◌, nat_le, Bool, true, false, not, ◌||◌, ◌&&◌, cond, List, [], ◌∷◌, ◌++◌, append-nil, append_assoc, length, length-set, set, slice_get, drop, Option, Some, None, Ok, Err, IfOk, refl, ap, sym, arith}
use Rattle.std.proofs.lemmas.Bool.Decides.{nat_tests}
use Rattle.std.proofs.lemmas.List.{length_push}
use Rattle.std.specs.List.{position_from}
use Rattle.bq_value.specs.Datum.{Datum, tuple, data_of, none}
use Rattle.bq_resolve_scope.specs.declared.file.Function.{Function}
use Rattle.bq_resolve_scope.specs.declared.file.Formal.{Formal}
use Rattle.bq_resolve_scope.specs.declared.file.Formal.TheVariants as formal
use Rattle.bq_builtin_machine.specs.Action.{Run, done, stopped, following, pure}
use Rattle.bq_builtin_machine.specs.Args.{Passed}
use Rattle.bq_builtin_machine.specs.Parameters.{ParameterView, SignatureView, is_called, places}
use Rattle.bq_builtin_machine.specs.Binding.{BoundView, Binding, and_bind, bind, complete_from, fill, fill_by, has_value, if_complete, placed, placed_values, take_all_named, take_keyword, take_named, take_named_by}
use Rattle.bq_builtin_machine.specs.State.{stop_at}
use Rattle.bq_base.specs.declared.fault.EvalFault.{EvalFault}
use Rattle.bq_base.specs.declared.fault.EvalFault.TheVariants as f
use Rattle.bq_eval_spec.specs.Frame.{Frame, empty, fill as put}
use Rattle.bq_eval_spec.specs.Primitives.{Primitives, given_by}
use Rattle.bq_eval_frame.specs.Slots.{list_slots}
use Rattle.bq_eval_frame.proofs.Slots.{list_filled, padded as one_empty}
use Rattle.bq_eval_spec.specs.Calls.{entry, fill_parameter, fill_parameters, has_star_star, keywords_of, signature, singles}
use Rattle.bq_eval_spec.specs.Slots.{by_slots, slot_of}
use Rattle.bq_eval_rules.specs.Taking.{framed}
use Rattle.bq_eval_rules.specs.Direct.{Values, and_values, are_direct, defaulted, direct_signature, direct_values, placed_all, value_or, with_defaults}

-- ---- what such parameters take

tested : (t rest : Bool) → cond t rest false ≡ true → (t ≡ true) × (rest ≡ true)
tested true rest h = (refl, h)
tested false rest h = absurd (cc h)

abbrev also : ParameterView → SignatureView → SignatureView
also p s = record { parameters = p ∷ s.parameters; placed = suc s.placed; takes_rest = s.takes_rest; takes_keywords = s.takes_keywords }

one_each : (i : ℕ) (ps : List Formal) → are_direct i ps ≡ true → signature ps ≡ direct_signature ps
unfolding signature
one_each i [] h = refl
one_each i (formal.Plain n ∷ ps) h = ap (also (record { name = Some n.name; is_required = true })) (one_each (i + 1) ps (tested (slot_of n.referent == i) (are_direct (i + 1) ps) h).1)
one_each i (formal.Default n ∷ ps) h = ap (also (record { name = Some n.name; is_required = false })) (one_each (i + 1) ps (tested (slot_of n.referent == i) (are_direct (i + 1) ps) h).1)
one_each i (formal.BareStar ∷ ps) h = absurd (cc h)
one_each i (formal.Star n ∷ ps) h = absurd (cc h)
one_each i (formal.StarStar n ∷ ps) h = absurd (cc h)

all_single : (i : ℕ) (ps : List Formal) → are_direct i ps ≡ true → length (singles ps) ≡ length ps
all_single i [] h = refl
all_single i (formal.Plain n ∷ ps) h = ap suc (all_single (i + 1) ps (tested (slot_of n.referent == i) (are_direct (i + 1) ps) h).1)
all_single i (formal.Default n ∷ ps) h = ap suc (all_single (i + 1) ps (tested (slot_of n.referent == i) (are_direct (i + 1) ps) h).1)
all_single i (formal.BareStar ∷ ps) h = absurd (cc h)
all_single i (formal.Star n ∷ ps) h = absurd (cc h)
all_single i (formal.StarStar n ∷ ps) h = absurd (cc h)

no_star_star : (i : ℕ) (ps : List Formal) → are_direct i ps ≡ true → has_star_star ps ≡ false
unfolding signature
no_star_star i ps h = ap (λ (s : SignatureView). s.takes_keywords) (one_each i ps h)

-- ---- positional arguments

all_places : (ps : List Formal) → are_direct 0 ps ≡ true → places (direct_signature ps) ≡ length ps
all_places ps direct = omega (arith, all_single 0 ps direct)

at_places : (count first n : ℕ) (xs : List Datum) → count ≡ n → first ≡ n → record { values = placed_values first count xs; rest = drop first xs; keywords = [] } ≡ placed_all n xs
at_places count first n xs all each = rw all rw each refl

placed_only : (ps : List Formal) (xs : List Datum) → are_direct 0 ps ≡ true → placed (direct_signature ps) xs ≡ placed_all (length ps) xs
placed_only ps xs direct = at_places (length (singles ps)) (places (direct_signature ps)) (length ps) xs (all_single 0 ps direct) (all_places ps direct)

pub placed_long : (p n : ℕ) (xs : List Datum) → length (placed_values p n xs) ≡ n
placed_long zero zero xs = refl
placed_long (suc p) zero xs = refl
placed_long zero (suc n) xs = ap suc (placed_long zero n xs)
placed_long (suc p) (suc n) [] = ap suc (placed_long p n [])
placed_long (suc p) (suc n) (x ∷ xs) = ap suc (placed_long p n xs)

-- ---- named arguments: none adds a value

then_as_many : (n : ℕ) (r : Binding) (next : BoundView → Binding) → IfOk r (λ b. length b.values ≡ n) → ((b : BoundView) → length b.values ≡ n → IfOk (next b) (λ c. length c.values ≡ n)) → IfOk (and_bind r next) (λ c. length c.values ≡ n)
then_as_many n (Ok b) next is go = go b is
then_as_many n (Err kind) next is go = tt

as_many_filled : (o : Option (Option Datum)) (i : ℕ) (v : Datum) (b : BoundView) (n : ℕ) → length b.values ≡ n → IfOk (fill_by o i v b) (λ c. length c.values ≡ n)
as_many_filled None i v b n is = tt
as_many_filled (Some None) i v b n is = length-set b.values i (Some v) ∙ is
as_many_filled (Some (Some w)) i v b n is = tt

as_many_by : (o : Option ℕ) (name : List ℕ) (v : Datum) (b : BoundView) (n : ℕ) → length b.values ≡ n → IfOk (take_named_by o false name v b) (λ c. length c.values ≡ n)
unfolding fill take_keyword
as_many_by (Some i) name v b n is = as_many_filled (slice_get b.values i) i v b n is
as_many_by None name v b n is = tt

as_many : (named : List (List ℕ × Datum)) (ps : List Formal) (b : BoundView) (n : ℕ) → length b.values ≡ n → IfOk (take_all_named (direct_signature ps) named b) (λ c. length c.values ≡ n)
unfolding take_all_named take_named
as_many [] ps b n is = is
as_many (a ∷ named) ps b n is =
    then_as_many n (take_named (direct_signature ps) a.0 a.1 b) (take_all_named (direct_signature ps) named)
    (as_many_by (position_from (is_called a.0) 0 (singles ps)) a.0 a.1 b n is)
    (λ c same. as_many named ps c n same)

-- ---- the value at a place

here : (before rest : List (Option Datum)) (v : Option Datum) → slice_get (before ++ v ∷ rest) (length before) ≡ Some v
here [] rest v = refl
here (x ∷ before) rest v = here before rest v

set_here : (before rest : List (Option Datum)) (v w : Option Datum) → set (before ++ v ∷ rest) (length before) w ≡ before ++ w ∷ rest
set_here [] rest v w = refl
set_here (x ∷ before) rest v w = ap (λ xs. x ∷ xs) (set_here before rest v w)

given_here : (before rest : List (Option Datum)) (v : Datum) → has_value (before ++ Some v ∷ rest) (length before) ≡ true
given_here [] rest v = refl
given_here (x ∷ before) rest v = given_here before rest v

nothing_here : (before rest : List (Option Datum)) → has_value (before ++ None ∷ rest) (length before) ≡ false
nothing_here [] rest = refl
nothing_here (x ∷ before) rest = nothing_here before rest

next_put : (before : List (Option Datum)) (v : Datum) → list_slots (before ++ Some v ∷ []) ≡ put (list_slots before) (length before) v
next_put before v =
    ap list_slots (sym (set_here before [] None (Some v)))
    ∙ (list_filled (before ++ None ∷ []) (length before) v (omega (arith, length_push before None)) ∙ ap (λ frame. put frame (length before) v) (one_empty before))

-- ---- parameters fill the frame with their values

-- with one more value before it
moved : {A : Type 0} (F : ℕ → List (Option Datum) → A) (before rest : List (Option Datum)) (v : Option Datum) → F (length (before ++ v ∷ [])) ((before ++ v ∷ []) ++ rest) ≡ F (length before + 1) (before ++ v ∷ rest)
moved F before rest v = ap (λ k. F k ((before ++ v ∷ []) ++ rest)) (length_push before v) ∙ ap (F (length before + 1)) (append_assoc before (v ∷ []) rest)

same_slot : (slot i : ℕ) → (slot == i) ≡ true → slot ≡ i
same_slot slot i h = grind (arith, nat_tests, h)

module _ {S : Type 0} (m : Primitives S) (star keywords : Datum) (s : S) where
  abbrev filled : List Formal → List Datum → List (Option Datum) → Frame → Run S Frame
  filled ps ds vs env = following (fill_parameters m by_slots ps (record { values = vs; defaults = ds; rest = star; keywords = keywords; env = env }) s) (λ x. pure x.env)

  abbrev gives : Values → Run S Frame
  gives r = given_by m (framed r) s

  abbrev Fills : List Formal → List Datum → List (Option Datum) → List (Option Datum) → Type 0
  Fills ps ds before rest = filled ps ds rest (list_slots before) ≡ gives (with_defaults (length before) ps ds (before ++ rest))

  -- once this parameter has this value
  one_filled : (ps : List Formal) (ds : List Datum) (before rest : List (Option Datum)) (slot : ℕ) (v : Datum) → slot ≡ length before → Fills ps ds (before ++ Some v ∷ []) rest
      → filled ps ds rest (put (list_slots before) slot v) ≡ gives (with_defaults (length before + 1) ps ds (before ++ Some v ∷ rest))
  one_filled ps ds before rest slot v is filled_then =
      ap (λ k. filled ps ds rest (put (list_slots before) k v)) is
      ∙ (ap (filled ps ds rest) (sym (next_put before v))
      ∙ (filled_then ∙ ap gives (moved (λ k vs. with_defaults k ps ds vs) before rest (Some v))))

  -- those after it are direct too
  after : (ps : List Formal) (before : List (Option Datum)) (v : Option Datum) → are_direct (length before + 1) ps ≡ true → are_direct (length (before ++ v ∷ [])) ps ≡ true
  after ps before v h = ap (λ k. are_direct k ps) (length_push before v) ∙ h

  fills : (ps : List Formal) (ds : List Datum) (before rest : List (Option Datum)) → are_direct (length before) ps ≡ true → length rest ≡ length ps → Fills ps ds before rest
  unfolding fill_parameters fill_parameter with_defaults
  fills [] ds before [] direct same = ap (λ vs. gives (Ok vs)) (sym (append-nil before))
  fills [] ds before (v ∷ rest) direct same = absurd (omega (arith, same))
  fills (p ∷ ps) ds before [] direct same = absurd (omega (arith, same))
  fills (formal.Plain n ∷ ps) ds before (Some v ∷ rest) direct same =
      let h = tested (slot_of n.referent == length before) (are_direct (length before + 1) ps) direct in
      one_filled ps ds before rest (slot_of n.referent) v (same_slot (slot_of n.referent) (length before) h.0) (fills ps ds (before ++ Some v ∷ []) rest (after ps before (Some v) h.1) (omega (arith, same)))
      ∙ ap (λ t. gives (cond t (with_defaults (length before + 1) ps ds (before ++ Some v ∷ rest)) (Err f.Args))) (sym (given_here before rest v))
  fills (formal.Plain n ∷ ps) ds before (None ∷ rest) direct same =
      ap (λ t. gives (cond t (with_defaults (length before + 1) ps ds (before ++ None ∷ rest)) (Err f.Args))) (sym (nothing_here before rest))
  fills (formal.Default n ∷ ps) [] before (Some v ∷ rest) direct same = refl
  fills (formal.Default n ∷ ps) [] before (None ∷ rest) direct same = refl
  fills (formal.Default n ∷ ps) (d ∷ ds) before (Some v ∷ rest) direct same =
      let h = tested (slot_of n.referent == length before) (are_direct (length before + 1) ps) direct in
      one_filled ps ds before rest (slot_of n.referent) v (same_slot (slot_of n.referent) (length before) h.0) (fills ps ds (before ++ Some v ∷ []) rest (after ps before (Some v) h.1) (omega (arith, same)))
      ∙ ap (λ o. gives (and_values (value_or o (length before) d (before ++ Some v ∷ rest)) (with_defaults (length before + 1) ps ds))) (sym (here before rest (Some v)))
  fills (formal.Default n ∷ ps) (d ∷ ds) before (None ∷ rest) direct same =
      let h = tested (slot_of n.referent == length before) (are_direct (length before + 1) ps) direct in
      one_filled ps ds before rest (slot_of n.referent) d (same_slot (slot_of n.referent) (length before) h.0) (fills ps ds (before ++ Some d ∷ []) rest (after ps before (Some d) h.1) (omega (arith, same)))
      ∙ (ap (λ vs. gives (with_defaults (length before + 1) ps ds vs)) (sym (set_here before rest None (Some d)))
      ∙ ap (λ o. gives (and_values (value_or o (length before) d (before ++ None ∷ rest)) (with_defaults (length before + 1) ps ds))) (sym (here before rest None)))
  fills (formal.BareStar ∷ ps) ds before (v ∷ rest) direct same = absurd (cc direct)
  fills (formal.Star n ∷ ps) ds before (v ∷ rest) direct same = absurd (cc direct)
  fills (formal.StarStar n ∷ ps) ds before (v ∷ rest) direct same = absurd (cc direct)

  -- where a parameter has neither a value nor a default, filling stops
  abbrev no_frame : Run S Frame
  no_frame = stopped (stop_at f.Args (m.machine s))

  abbrev Incomplete : List Formal → List (Option Datum) → List (Option Datum) → Type 0
  Incomplete ps before rest = complete_from (length before) (singles ps) (before ++ rest) ≡ false

  still : (ps : List Formal) (before rest : List (Option Datum)) (v : Option Datum) → complete_from (length before + 1) (singles ps) (before ++ v ∷ rest) ≡ false → Incomplete ps (before ++ v ∷ []) rest
  still ps before rest v h = moved (λ k vs. complete_from k (singles ps) vs) before rest v ∙ h

  stops : (ps : List Formal) (ds : List Datum) (before rest : List (Option Datum)) (env : Frame) (i : ℕ) → are_direct i ps ≡ true → Incomplete ps before rest → filled ps ds rest env ≡ no_frame
  unfolding fill_parameters fill_parameter
  stops [] ds before rest env i direct h = absurd (cc h)
  stops (formal.Plain n ∷ ps) ds before [] env i direct h = refl
  stops (formal.Plain n ∷ ps) ds before (None ∷ rest) env i direct h = refl
  stops (formal.Plain n ∷ ps) ds before (Some v ∷ rest) env i direct h =
      stops ps ds (before ++ Some v ∷ []) rest (put env (slot_of n.referent) v) (i + 1) (tested (slot_of n.referent == i) (are_direct (i + 1) ps) direct).1
      (still ps before rest (Some v) (ap (λ t. cond (true && not t) false (complete_from (length before + 1) (singles ps) (before ++ Some v ∷ rest))) (sym (given_here before rest v)) ∙ h))
  stops (formal.Default n ∷ ps) ds before [] env i direct h = refl
  stops (formal.Default n ∷ ps) [] before (None ∷ rest) env i direct h = refl
  stops (formal.Default n ∷ ps) [] before (Some v ∷ rest) env i direct h = refl
  stops (formal.Default n ∷ ps) (d ∷ ds) before (None ∷ rest) env i direct h =
      stops ps ds (before ++ None ∷ []) rest (put env (slot_of n.referent) d) (i + 1) (tested (slot_of n.referent == i) (are_direct (i + 1) ps) direct).1 (still ps before rest None h)
  stops (formal.Default n ∷ ps) (d ∷ ds) before (Some v ∷ rest) env i direct h =
      stops ps ds (before ++ Some v ∷ []) rest (put env (slot_of n.referent) v) (i + 1) (tested (slot_of n.referent == i) (are_direct (i + 1) ps) direct).1 (still ps before rest (Some v) h)
  stops (formal.BareStar ∷ ps) ds before rest env i direct h = absurd (cc direct)
  stops (formal.Star n ∷ ps) ds before rest env i direct h = absurd (cc direct)
  stops (formal.StarStar n ∷ ps) ds before rest env i direct h = absurd (cc direct)

no_slots : list_slots [] ≡ empty
unfolding list_slots empty
no_slots = λ i slot. None

module _ {S : Type 0} (m : Primitives S) (d : Function) (ds : List Datum) (s : S) where
  abbrev then_filled : Bool → Binding → Run S Frame
  then_filled stars bound =
      following (given_by m bound s) (λ b. λ t. following (keywords_of m stars b.keywords t) (λ k. λ t. following (fill_parameters m by_slots d.parameters (record { values = b.values; defaults = ds; rest = tuple (data_of b.rest); keywords = k; env = empty }) t) (λ x. pure x.env)))

  -- once the arguments are bound so
  bound_by : (complete : Bool) (b : BoundView) → complete ≡ complete_from 0 (singles d.parameters) b.values → length b.values ≡ length d.parameters → are_direct 0 d.parameters ≡ true
      → then_filled false (cond complete (Ok b) (Err f.Args)) ≡ given_by m (framed (with_defaults 0 d.parameters ds b.values)) s
  unfolding keywords_of
  bound_by true b is same direct =
      ap (filled m (tuple (data_of b.rest)) none s d.parameters ds b.values) (sym no_slots) ∙ fills m (tuple (data_of b.rest)) none s d.parameters ds [] b.values direct same
  bound_by false b is same direct =
      sym (stops m none none s d.parameters ds [] b.values (list_slots []) 0 direct (sym is)) ∙ fills m none none s d.parameters ds [] b.values direct same

  named_by : (r : Binding) → IfOk r (λ b. length b.values ≡ length d.parameters) → are_direct 0 d.parameters ≡ true
      → then_filled false (and_bind r (if_complete (direct_signature d.parameters))) ≡ given_by m (framed (defaulted r d.parameters ds)) s
  named_by (Ok b) same direct = bound_by (complete_from 0 (singles d.parameters) b.values) b refl same direct
  named_by (Err kind) same direct = refl

  few_by : (few : Bool) (p : Passed) → few ≡ nat_le (length p.positional) (length d.parameters) → are_direct 0 d.parameters ≡ true
      → then_filled false (cond (not few) (Err f.Args) (and_bind (take_all_named (direct_signature d.parameters) p.named (placed (direct_signature d.parameters) p.positional)) (if_complete (direct_signature d.parameters))))
      ≡ given_by m (framed (cond few (defaulted (take_all_named (direct_signature d.parameters) p.named (placed_all (length d.parameters) p.positional)) d.parameters ds) (Err f.Args))) s
  few_by false p is direct = refl
  few_by true p is direct =
      let D = direct_signature d.parameters in
      ap (λ b. then_filled false (and_bind (take_all_named D p.named b) (if_complete D))) (placed_only d.parameters p.positional direct)
      ∙ named_by (take_all_named D p.named (placed_all (length d.parameters) p.positional))
      (as_many p.named d.parameters (placed_all (length d.parameters) p.positional) (length d.parameters) (placed_long (length d.parameters) (length d.parameters) p.positional)) direct

  pub directly : (p : Passed) → are_direct 0 d.parameters ≡ true → entry m by_slots d ds p s ≡ given_by m (framed (direct_values d.parameters ds p)) s
  unfolding entry bind direct_values
  directly p direct =
      let D = direct_signature d.parameters in
      let one = one_each 0 d.parameters direct in
      ap (λ t. then_filled (has_star_star d.parameters) (bind t p)) one
      ∙ (ap (λ stars. then_filled stars (bind D p)) (no_star_star 0 d.parameters direct)
      ∙ (ap (λ k. then_filled false (cond (not (false || nat_le (length p.positional) k)) (Err f.Args) (and_bind (take_all_named D p.named (placed D p.positional)) (if_complete D)))) (all_places d.parameters direct)
      ∙ few_by (nat_le (length p.positional) (length d.parameters)) p refl direct))

  -- the frame, and the fault
  pub straight : (p : Passed) (vs : List (Option Datum)) → are_direct 0 d.parameters ≡ true → direct_values d.parameters ds p ≡ Ok vs → entry m by_slots d ds p s ≡ done (list_slots vs) s
  straight p vs direct is = directly p direct ∙ ap (λ r. given_by m (framed r) s) is

  pub not_bound : (p : Passed) (kind : EvalFault) → are_direct 0 d.parameters ≡ true → direct_values d.parameters ds p ≡ Err kind → entry m by_slots d ds p s ≡ stopped (stop_at kind (m.machine s))
  not_bound p kind direct is = directly p direct ∙ ap (λ r. given_by m (framed r) s) is
