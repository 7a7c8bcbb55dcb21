-- A call means the same by names and by slots, where the modules are the same ones.
use Rattle.std.proofs.Common.{ℕ, zero, suc, List, [], ◌∷◌, Option, Some, None, slice_get, refl, ap, subst}
use Rattle.bq_resolve_scope.specs.declared.file.Function.{Function}
use Rattle.bq_resolve_scope.specs.Names.{Name, function_names}
use Rattle.bq_resolve_scope.specs.Scope.{FileParts}
use Rattle.bq_resolve_laws.specs.Resolution.{InOrder, Maybe}
use Rattle.bq_value.specs.Datum.{Datum, none, boolean, int, string, tuple, range, cell, function, function_of, built_in, rule_function, attribute, list_of}
use Rattle.bq_builtin_machine.specs.Args.{Passed}
use Rattle.bq_eval_spec.specs.Frame.{Frame, Surroundings}
use Rattle.bq_eval_spec.specs.Primitives.{Primitives}
use Rattle.bq_eval_spec.specs.Calls.{TreeUnit, Units, answered, known, body_of, run_body, call_function, call_at, apply, calls}
use Rattle.bq_eval_spec.specs.Slots.{by_slots}
use Rattle.bq_eval_spec.specs.Trees.{Calls}
use Rattle.bq_eval_spec.specs.Names.{Env, Round, names_of, by_names}
use Rattle.bq_eval_by_name.specs.ExpressionAgreement.{CallsAgree}
use Rattle.bq_eval_by_name.specs.Alike.{Alike, Same}
use Rattle.bq_eval_by_name.specs.Shows.{Shows, Around}
use Rattle.bq_eval_by_name.proofs.Runs.{itself, plain, then_alike, then_same, then_both}
use Rattle.bq_eval_by_name.specs.StatementAgreement.{Ended}
use Rattle.bq_eval_by_name.proofs.StatementAgreement.{bodies_agree}
use Rattle.bq_eval_by_name.specs.Units.{FunctionIs, UnitIs, UnitsAgree}
use Rattle.bq_eval_by_name.proofs.Entry.{block_of, names_are, entry_alike}

-- of each that is in order, the one at a place
at_place : {A B : Type 0} (R : A → B → Type 0) (xs : List A) (ys : List B) → InOrder R xs ys → (k : ℕ) → Maybe R (slice_get xs k) (slice_get ys k)
at_place R [] [] h k = tt
at_place R (x ∷ xs) (y ∷ ys) h zero = h.0
at_place R (x ∷ xs) (y ∷ ys) h (suc k) = at_place R xs ys h.1 k
at_place R [] (y ∷ ys) h k = absurd h
at_place R (x ∷ xs) [] h k = absurd h

module _ {S : Type 0} (m : Primitives S) where
  module _ (file : FileParts) (t : TreeUnit Round) (c : TreeUnit Surroundings) (around : Around file t.round c.round) where
    body_alike : (d f : Function) → FunctionIs file d f → (call other : Calls S) → CallsAgree call other → (e : Env) (frame : Frame) (s : S)
        → Shows (block_of (names_of d) ∷ []) e frame → Alike Same (body_of m by_names call t d e s) (body_of m by_slots other c f frame s)
    unfolding body_of
    body_alike d f is call other agree e frame s shows =
        let ns : List Name = function_names is.written d.body in
        then_alike (Ended (Shows (block_of ns ∷ []))) Same _ _ _ _
        (bodies_agree m file t.round c.round call other around agree is.written d.body f.body is.start is.end is.room is.body e frame s
        (subst (λ names. Shows (block_of names ∷ []) e frame) (names_are file d f is) shows)) (λ a b u k. (refl, ap answered k.0))

    run_alike : (d f : Function) → FunctionIs file d f → (i j : Option (Calls S)) → Maybe CallsAgree i j → (e : Env) (frame : Frame) (s : S)
        → Shows (block_of (names_of d) ∷ []) e frame → Alike Same (run_body m by_names i t d e s) (run_body m by_slots j c f frame s)
    unfolding run_body
    run_alike d f is None None h e frame s shows = refl
    run_alike d f is (Some call) (Some other) h e frame s shows = body_alike d f is call other h e frame s shows
    run_alike d f is None (Some other) h e frame s shows = absurd h
    run_alike d f is (Some call) None h e frame s shows = absurd h

    function_alike : (d f : Function) → FunctionIs file d f → (i j : Option (Calls S)) → Maybe CallsAgree i j → (home place : ℕ) (ds : List Datum) (p : Passed) (s : S)
        → Alike Same (call_function m by_names i home place t d ds p s) (call_function m by_slots j home place c f ds p s)
    unfolding call_function
    function_alike d f is i j h home place ds p s =
        then_alike (Shows (block_of (names_of d) ∷ [])) Same _ _ _ _ (entry_alike file d f is m ds p s)
        (λ e frame u shows. then_both Same (m.enter home place u) _ _ (λ _ w. then_same Same _ _ _ _ (run_alike d f is i j h e frame w shows) (λ v z. (refl, refl))))

    known_alike : (i j : Option (Calls S)) → Maybe CallsAgree i j → (home place : ℕ) (ds : List Datum) (p : Passed) (o q : Option Function) → Maybe (FunctionIs file) o q → (s : S)
        → Alike Same (known m o (λ d. call_function m by_names i home place t d ds p) s) (known m q (λ f. call_function m by_slots j home place c f ds p) s)
    known_alike i j h home place ds p None None k s = refl
    known_alike i j h home place ds p (Some d) (Some f) k s = function_alike d f k i j h home place ds p s
    known_alike i j h home place ds p None (Some f) k s = absurd k
    known_alike i j h home place ds p (Some d) None k s = absurd k

  unit_alike : (i j : Option (Calls S)) → Maybe CallsAgree i j → (home place : ℕ) (ds : List Datum) (p : Passed) (o : Option (TreeUnit Round)) (q : Option (TreeUnit Surroundings)) → Maybe UnitIs o q → (s : S)
      → Alike Same (known m o (λ u. known m (slice_get u.functions place) (λ d. call_function m by_names i home place u d ds p)) s)
      (known m q (λ u. known m (slice_get u.functions place) (λ d. call_function m by_slots j home place u d ds p)) s)
  unit_alike i j h home place ds p None None k s = refl
  unit_alike i j h home place ds p (Some t) (Some c) k s =
      known_alike k.file t c k.round i j h home place ds p (slice_get t.functions place) (slice_get c.functions place) (at_place (FunctionIs k.file) t.functions c.functions k.functions place) s
  unit_alike i j h home place ds p None (Some c) k s = absurd k
  unit_alike i j h home place ds p (Some t) None k s = absurd k

  module _ (named : Units Round) (units : Units Surroundings) (agree : UnitsAgree named units) where
    apply_alike : (i j : Option (Calls S)) → Maybe CallsAgree i j → (v : Datum) (p : Passed) (s : S) → Alike Same (apply m by_names named i v p s) (apply m by_slots units j v p s)
    unfolding apply call_at
    apply_alike i j h (function home place name ds) p s = unit_alike i j h home place (list_of ds) p (named home) (units home) (agree home) s
    apply_alike i j h (built_in b) p s = itself (m.call_built_in (function_of b) p s)
    apply_alike i j h (rule_function f) p s = itself (m.call_rule_function f p s)
    apply_alike i j h (cell home number) p s = itself (m.call_cell home number p s)
    apply_alike i j h none p s = refl
    apply_alike i j h (boolean b) p s = refl
    apply_alike i j h (int n) p s = refl
    apply_alike i j h (string t) p s = refl
    apply_alike i j h (tuple xs) p s = refl
    apply_alike i j h (range a b c) p s = refl
    apply_alike i j h (attribute a) p s = refl

    pub calls_agree : (n : ℕ) → CallsAgree (calls n m by_names named) (calls n m by_slots units)
    unfolding calls
    calls_agree zero v p s = plain (apply m by_names named None v p s) (apply m by_slots units None v p s) (apply_alike None None tt v p s)
    calls_agree (suc n) v p s =
        plain (apply m by_names named (Some (calls n m by_names named)) v p s) (apply m by_slots units (Some (calls n m by_slots units)) v p s)
        (apply_alike (Some (calls n m by_names named)) (Some (calls n m by_slots units)) (calls_agree n) v p s)
