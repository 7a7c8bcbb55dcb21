-- What a machine does has a number of steps and an outcome of its own.
use Rattle.std.proofs.Common.{◌≡◌, ◌∙◌, ◌<◌, ℕ, zero, suc, ◌+◌, ◌-◌, Bool, true, false, cond, List, [], ◌∷◌, ◌++◌, Option, Some, None, Result, Ok, Err, nat_lt, ◌==◌, length, slice_get, set, refl, sym, ap, subst, arith, le-ltb, lt-ltb}
use Rattle.bq_base.specs.declared.fault.EvalFault.{EvalFault}
use Rattle.bq_base.specs.declared.fault.EvalFault.TheVariants as f
use Rattle.bq_value_datum.specs.Class.{Class}
use Rattle.bq_value.specs.Cells.{StoreView, with_cells, content_at}
use Rattle.bq_value.specs.Contents.{Contents, items, pairs, rule}
use Rattle.bq_value.specs.Datum.{Datum, cell}
use Rattle.bq_value.specs.Looked.{Looked}
use Rattle.bq_value.specs.WalkLaws.{with_left}
use Rattle.bq_value.specs.WalkLaws as walks
use Rattle.bq_builtin_machine.specs.Action.{Action, Run, done, stopped, ◌>>=◌, ◌>>◌, pure, stop, given, look, change}
use Rattle.bq_builtin_machine.specs.Calls.{is_active, max_active, enter, leave}
use Rattle.bq_builtin_machine.specs.Cells.{with_content, new_content, or_wrong, content, is_walked, may_change, can_change, put_content, Change, changing}
use Rattle.bq_builtin_machine.specs.Iteration.{elements_in, elements, marked, begin_walk, end_walk}
use Rattle.bq_builtin_machine.specs.Machine.{with_steps, step, after_walk, walk, print, fail}
use Rattle.bq_builtin_machine.specs.State.{State, stop_at}
use Rattle.bq_builtin_laws.specs.Steps.Laws.{Own}
use Rattle.bq_builtin_laws.specs.Steps.Steps.{machine, Begins, leaving, printed, IsCutShort, Leaves, Takes, InLine, TakesInLine}
use Rattle.bq_builtin_laws.proofs.Steps.Owning.{begins_itself, stays_itself, at_no_cost, here_at_no_cost, here_at_state, here_followed}

pub pure_owns : {A : Type 0} (x : A) → Own (pure x)
pure_owns x s = here_at_no_cost machine (pure x) s (done x s) (λ n. refl) (begins_itself s.prints) (stays_itself s.store) refl

pub stop_owns : (A : Type 0) (kind : EvalFault) → Own {A = A} (stop kind)
stop_owns A kind s = here_at_no_cost machine {A = A} (stop kind) s (stopped (stop_at kind s)) (λ n. refl) (begins_itself s.prints) tt refl

pub given_owns : {A : Type 0} (r : Result A EvalFault) → Own (given r)
given_owns {A = A} (Ok x) = pure_owns x
given_owns {A = A} (Err kind) = stop_owns A kind

pub bind_owns : {A B : Type 0} (a : Action State A) (f : A → Action State B) → Own a → ((x : A) → Own (f x)) → Own (a >>= f)
bind_owns a f h k s = here_followed machine a f s (h s) k

pub then_owns : {A B : Type 0} (a : Action State A) (b : Action State B) → Own a → Own b → Own (a >> b)
then_owns a b h k s = here_followed machine a (λ _. b) s (h s) (λ x. k)

-- an answer that the store gives
pub look_owns : {A : Type 0} (r : StoreView → Result A EvalFault) → Own (look (λ s. r s.store))
look_owns r s = here_at_state machine (look (λ t. r t.store)) (given (r s.store)) s (λ n. refl) refl (given_owns (r s.store) s)

pub cond_owns : {A : Type 0} (b : Bool) (x y : Action State A) → Own x → Own y → Own (λ s. cond b (x s) (y s))
cond_owns true x y h k = h
cond_owns false x y h k = k

-- ---- walks over values

abbrev walked_run : {A : Type 0} → State → Result A EvalFault → Run State A
walked_run s (Ok x) = done x s
walked_run s (Err kind) = stopped (stop_at kind s)

module _ {A : Type 0} (looked : StoreView → ℕ → Looked A) where
  walk_enough : (s : State) (o : Result A EvalFault) (more n : ℕ) → looked s.store n ≡ with_left o more → walk looked (with_steps n s) ≡ leaving machine more (walked_run s o)
  walk_enough s (Ok x) more n h = ap (λ l. after_walk l (with_steps n s)) h
  walk_enough s (Err kind) more n h = ap (λ l. after_walk l (with_steps n s)) h

  walk_short : (s : State) (o : Result A EvalFault) (n : ℕ) → looked s.store n ≡ Err f.StepLimit → IsCutShort machine (walk looked (with_steps n s)) (printed machine (walked_run s o))
  walk_short s (Ok x) n h = subst (λ l. IsCutShort machine (after_walk l (with_steps n s)) s.prints) (sym h) (refl, begins_itself s.prints)
  walk_short s (Err kind) n h = subst (λ l. IsCutShort machine (after_walk l (with_steps n s)) s.prints) (sym h) (refl, begins_itself s.prints)

  walk_grows : (s : State) (o : Result A EvalFault) → Begins s.prints (printed machine (walked_run s o))
  walk_grows s (Ok x) = begins_itself s.prints
  walk_grows s (Err kind) = begins_itself s.prints

  walk_leaves : (s : State) (o : Result A EvalFault) → Leaves machine s.store (walked_run s o)
  walk_leaves s (Ok x) = stays_itself s.store
  walk_leaves s (Err kind) = tt

  walk_line : (s : State) (l : Looked A) → InLine machine s.line (after_walk l s)
  walk_line s (Ok answer) = refl
  walk_line s (Err kind) = refl

  pub walk_owns : ((store : StoreView) → walks.Takes (λ n. looked store n)) → Own (walk looked)
  walk_owns takes s =
      let t = takes s.store in
      record {
        takes = record {
          steps = t.steps;
          outcome = walked_run s t.outcome;
          enough = λ more. walk_enough s t.outcome more (t.steps + more) (t.enough more);
          short = λ n h. walk_short s t.outcome n (t.short n h);
          grows = walk_grows s t.outcome;
          leaves = walk_leaves s t.outcome;
        };
        line = walk_line s (looked s.store s.steps);
      }

-- ---- steps

taken : (count more : ℕ) (s : State) (b : Bool) → nat_lt (count + more) count ≡ b → b ≡ false
    → cond (nat_lt (count + more) count) (stop {A = Unit {0}} f.StepLimit (with_steps (count + more) s)) (done (tt {0}) (with_steps ((count + more) - count) s)) ≡ done (tt {0}) (with_steps more s)
taken count more s b h k =
    ap (λ d. cond d (stop {A = Unit {0}} f.StepLimit (with_steps (count + more) s)) (done (tt {0}) (with_steps ((count + more) - count) s))) (h ∙ k)
    ∙ ap (λ (n : ℕ). done (tt {0}) (with_steps n s)) (rest count more)
  where
    rest : (a d : ℕ) → (a + d) - a ≡ d
    rest a d = omega arith

not_taken : (count n : ℕ) (s : State) (b : Bool) → b ≡ true → IsCutShort machine (cond b (stop {A = Unit {0}} f.StepLimit (with_steps n s)) (done tt (with_steps (n - count) s))) s.prints
not_taken count n s true h = (refl, begins_itself s.prints)
not_taken count n s false h = let no : ⊥ = cc in absurd no

either_line : {A : Type 0} (s : State) (b : Bool) (x y : Run State A) → InLine machine s.line x → InLine machine s.line y → InLine machine s.line (cond b x y)
either_line s true x y h k = h
either_line s false x y h k = k

pub step_owns : (count : ℕ) → Own (step count)
unfolding step
step_owns count s = record {
  takes = record {
    steps = count;
    outcome = done tt s;
    enough = λ more. taken count more s (nat_lt (count + more) count) refl (not_less more);
    short = λ n h. not_taken count n s (nat_lt n count) (is_less n h);
    grows = begins_itself s.prints;
    leaves = stays_itself s.store;
  };
  line = either_line s (nat_lt s.steps count) (stop {A = Unit {0}} f.StepLimit s) (done tt (with_steps (s.steps - count) s)) refl refl;
}
  where
    not_less : (more : ℕ) → nat_lt (count + more) count ≡ false
    not_less more = le-ltb (count + more) count (omega arith)

    is_less : (n : ℕ) → n < count → nat_lt n count ≡ true
    is_less n h = lt-ltb n count h

-- ---- prints, `fail`, functions

pub print_owns : (bytes : List ℕ) → Own (print bytes)
unfolding print
print_owns bytes s =
    here_at_no_cost machine (change (λ t. record t { prints = t.prints ++ bytes ∷ [] })) s (done tt (record s { prints = s.prints ++ bytes ∷ [] })) (λ n. refl) (bytes ∷ [], refl) (stays_itself s.store) refl

pub fail_owns : (A : Type 0) (bytes : List ℕ) → Own {A = A} (fail bytes)
unfolding fail
fail_owns A bytes s = here_at_no_cost machine {A = A} (fail bytes) s (stopped (stop_at f.Fail (record s { message = bytes }))) (λ n. refl) (begins_itself s.prints) tt refl

pub enter_owns : (home place : ℕ) → Own (enter home place)
unfolding enter
enter_owns home place s =
    let entered : Action State (Unit {0}) = λ t. done tt (record t { active = t.active ++ (home, place) ∷ [] }) in
    here_at_state machine (enter home place) (λ t. cond (is_active home place s.active) (stop f.Recursion t) (cond (nat_lt (length s.active) max_active) (entered t) (stop f.CallDepth t))) s (λ n. refl) refl
    (cond_owns (is_active home place s.active) (stop f.Recursion) (λ t. cond (nat_lt (length s.active) max_active) (entered t) (stop f.CallDepth t)) (stop_owns (Unit {0}) f.Recursion)
    (cond_owns (nat_lt (length s.active) max_active) entered (stop f.CallDepth)
    (λ t. here_at_no_cost machine entered t (done tt (record t { active = t.active ++ (home, place) ∷ [] })) (λ n. refl) (begins_itself t.prints) (stays_itself t.store) refl) (stop_owns (Unit {0}) f.CallDepth)) s)

-- ---- cells

pub new_owns : (c : Contents) → Own (new_content c)
unfolding new_content
new_owns c s =
    here_at_no_cost machine (new_content c) s (done (cell s.store.own (length s.store.cells)) (record s { store = with_cells (s.store.cells ++ c ∷ []) s.store })) (λ n. refl) (begins_itself s.prints)
    (record { own = refl; modules = refl; rules = λ number class is. in_front s.store.cells (c ∷ []) number (rule class) is }) refl
  where
    in_front : (xs ys : List Contents) (n : ℕ) (d : Contents) → slice_get xs n ≡ Some d → slice_get (xs ++ ys) n ≡ Some d
    in_front [] ys n d is = let no : ⊥ = cc in absurd no
    in_front (x ∷ xs) ys zero d is = is
    in_front (x ∷ xs) ys (suc n) d is = in_front xs ys n d is

pub content_owns : (home number : ℕ) → Own (content home number)
unfolding content
content_owns home number = look_owns (λ st. or_wrong (content_at st home number))

pub may_owns : (home number : ℕ) → Own (may_change home number)
unfolding may_change
may_owns home number s =
    let allowed : Action State (Unit {0}) = λ t. done tt t in
    here_at_state machine (may_change home number) (λ t. cond (home == s.store.own) (cond (is_walked home number s.walks) (stop f.Iterating t) (done tt t)) (stop f.Frozen t)) s (λ n. refl) refl
    (cond_owns (home == s.store.own) (λ t. cond (is_walked home number s.walks) (stop f.Iterating t) (done tt t)) (stop f.Frozen)
    (cond_owns (is_walked home number s.walks) (stop f.Iterating) allowed (stop_owns (Unit {0}) f.Iterating) (pure_owns tt)) (stop_owns (Unit {0}) f.Frozen) s)

can_owns : (home number : ℕ) → Own (can_change home number)
unfolding can_change
can_owns home number = then_owns (content home number) (may_change home number) (content_owns home number) (may_owns home number)

-- ---- changes: a rule is none of a list or dict

abbrev IsNoRule : Option Contents → Type 0
IsNoRule (Some (rule class)) = ⊥
IsNoRule _ = Unit {0}

-- another cell than a rule's is set
rules_kept : (xs : List Contents) (i : ℕ) (x : Contents) (n : ℕ) (class : Class) → IsNoRule (slice_get xs i) → slice_get xs n ≡ Some (rule class) → slice_get (set xs i x) n ≡ Some (rule class)
rules_kept [] i x n class other is = is
rules_kept (y ∷ ys) zero x zero class other is = absurd (subst IsNoRule is other)
rules_kept (y ∷ ys) zero x (suc n) class other is = is
rules_kept (y ∷ ys) (suc i) x zero class other is = is
rules_kept (y ∷ ys) (suc i) x (suc n) class other is = rules_kept ys i x n class other is

put_owns : (number : ℕ) (c : Contents) (s : State) → IsNoRule (slice_get s.store.cells number) → TakesInLine machine (put_content number c) s
put_owns number c s other =
    here_at_no_cost machine (put_content number c) s (done tt (with_content s number c)) (λ n. refl) (begins_itself s.prints)
    (record { own = refl; modules = refl; rules = λ n class is. rules_kept s.store.cells number c n class other is }) refl

abbrev IsRefused : {A : Type 0} → Result A EvalFault → Type 0
IsRefused (Ok x) = ⊥
IsRefused (Err kind) = Unit {0}

-- a change of lists or dicts, which refuses a rule
abbrev pub SparesRules : {A : Type 0} → Change A → Type 0
SparesRules change = (class : Class) → IsRefused (change (rule class))

module _ {A : Type 0} (home number : ℕ) (change : Change A) (spares : SparesRules change) (s : State) where
  -- what a change gives is put into the cell
  abbrev put_of : Result (A × Contents) EvalFault → Action State A
  put_of r = given r >>= λ (p : A × Contents). put_content number p.1 >> pure p.0

  -- in the place of `c`
  put_by : (c : Contents) → slice_get s.store.cells number ≡ Some c → (r : Result (A × Contents) EvalFault) → change c ≡ r → TakesInLine machine (put_of r) s
  put_by c at (Err kind) is = here_at_state machine (put_of (Err kind)) (stop kind) s (λ n. refl) refl (stop_owns A kind s)
  put_by c at (Ok r) is = here_followed machine (put_content number r.1) (λ _. pure r.0) s (put_owns number r.1 s (subst IsNoRule (sym at) (no_rule c is))) (λ _. pure_owns r.0)
    where
      no_rule : (d : Contents) → change d ≡ Ok r → IsNoRule (Some d)
      no_rule (items xs) is = tt
      no_rule (pairs ps) is = tt
      no_rule (rule class) is = subst IsRefused is (spares class)

  own_cell : (d : Contents) → content_at s.store home number ≡ Some d → (home == s.store.own) ≡ true → slice_get s.store.cells number ≡ Some d
  unfolding content_at
  own_cell d at is = rw is at at

  -- what is in the cell; whether it is the running module's; and whether it is being walked
  in_cell : (c : Contents) → content_at s.store home number ≡ Some c → (own walked : Bool) → (home == s.store.own) ≡ own → is_walked home number s.walks ≡ walked → TakesInLine machine (changing home number change) s
  unfolding changing can_change may_change content
  in_cell c at false walked is goes = here_at_state machine (changing home number change) (stop f.Frozen) s (λ n. rw (at, is) refl) (rw (at, is) refl) (stop_owns A f.Frozen s)
  in_cell c at true true is goes = here_at_state machine (changing home number change) (stop f.Iterating) s (λ n. rw (at, is, goes) refl) (rw (at, is, goes) refl) (stop_owns A f.Iterating s)
  in_cell c at true false is goes =
      here_at_state machine (changing home number change) (put_of (change c)) s (λ n. rw (at, is, goes, at) refl) (rw (at, is, goes, at) refl) (put_by c (own_cell c at is) (change c) refl)

  in_store : (o : Option Contents) → content_at s.store home number ≡ o → TakesInLine machine (changing home number change) s
  unfolding changing can_change content
  in_store None at = here_at_state machine (changing home number change) (stop f.WrongType) s (λ n. rw at refl) (rw at refl) (stop_owns A f.WrongType s)
  in_store (Some c) at = in_cell c at (home == s.store.own) (is_walked home number s.walks) refl refl

pub changing_owns : {A : Type 0} (home number : ℕ) (change : Change A) → SparesRules change → Own (changing home number change)
changing_owns home number change spares s = in_store home number change spares s (content_at s.store home number) refl

-- ---- iterables

pub elements_owns : (v : Datum) → Own (elements v)
unfolding elements
elements_owns v = look_owns (λ st. elements_in st v)

mark_owns : (v : Datum) → Own (change (marked v))
mark_owns (cell home number) s = here_at_no_cost machine (change (marked (cell home number))) s (done tt (marked (cell home number) s)) (λ n. refl) (begins_itself s.prints) (stays_itself s.store) refl
mark_owns v s = pure_owns tt s

pub begin_owns : (v : Datum) → Own (begin_walk v)
unfolding begin_walk
begin_owns v = bind_owns (elements v) (λ xs. change (marked v) >> pure xs) (elements_owns v) (λ xs. then_owns (change (marked v)) (pure xs) (mark_owns v) (pure_owns xs))

pub end_owns : (v : Datum) → Own (change (end_walk v))
unfolding end_walk
end_owns (cell home number) s = here_at_no_cost machine (change (end_walk (cell home number))) s (done tt (end_walk (cell home number) s)) (λ n. refl) (begins_itself s.prints) (stays_itself s.store) refl
end_owns v s = pure_owns tt s

pub leave_owns : Own (change leave)
unfolding leave
leave_owns s = here_at_no_cost machine (change leave) s (done tt (leave s)) (λ n. refl) (begins_itself s.prints) (stays_itself s.store) refl

-- a statement begins: this alone changes the line
pub line_takes : (line : ℕ) (s : State) → Takes machine (change (λ t. record t { line = line })) s
line_takes line s = at_no_cost machine (change (λ t. record t { line = line })) s (done tt (record s { line = line })) (λ n. refl) (begins_itself s.prints) (stays_itself s.store)
