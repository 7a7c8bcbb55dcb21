-- What is in frames after an expression, and at a function's begin.
use Rattle.std.proofs.Common.{◌≡◌, ◌∙◌, ℕ, ◌==◌, false, List, [], ◌∷◌, Option, Some, None, refl, ap, subst}
use Rattle.std.specs.List.{AllByRecursion}
use Rattle.std.specs.Prelude.{if◌then◌else◌}
use Rattle.bq_parse_grammar.specs.declared.tree.Expr.{Expr}
use Rattle.bq_parse_grammar.specs.declared.tree.Identifier.{Identifier}
use Rattle.bq_parse_grammar.specs.declared.tree.SmallKind.TheVariants as small
use Rattle.bq_resolve_scope.specs.declared.file.Function.{Function}
use Rattle.bq_resolve_scope.specs.declared.file.Formal.{Formal}
use Rattle.bq_resolve_scope.specs.declared.file.Formal.TheVariants as formal
use Rattle.bq_value.specs.Datum.{Datum, tuple, data_of}
use Rattle.bq_builtin_machine.specs.Action.{Action, Run, done, stopped, following, pure}
use Rattle.bq_builtin_machine.specs.Args.{Passed}
use Rattle.bq_builtin_machine.specs.Binding.{bind}
use Rattle.bq_eval_spec.specs.Frame.{Frame, empty, fill}
use Rattle.bq_eval_spec.specs.Primitives.{Primitives, given_by}
use Rattle.bq_eval_spec.specs.Calls.{Filling, has_star_star, signature, with_value, with_default, fill_by, fill_parameter, fill_parameters, keywords_of, entry}
use Rattle.bq_eval_spec.specs.Slots.{slot_of, by_slots}
use Rattle.bq_eval_spec.specs.Statements.{Flow, next, steps_of, expr_stmt, small_stmt}
use Rattle.bq_eval_spec.specs.Trees.{Eval}
use Rattle.bq_eval_spec.specs.Environment.{Scoping}
use Rattle.bq_eval_laws.specs.Frames.{goes_into, ExpressionsBindNothing, FunctionsBeginWithParameters}

-- runs that end well with a value of which this holds
abbrev pub GivesOnly : {S A : Type 0} → (A → Type 0) → Run S A → Type 0
GivesOnly P (done x s) = P x
GivesOnly P (stopped why) = Unit {0}

gives_after : {S A B : Type 0} (P : A → Type 0) (Q : B → Type 0) (r : Run S A) (f : A → Action S B) → GivesOnly P r → ((x : A) (s : S) → P x → GivesOnly Q (f x s)) → GivesOnly Q (following r f)
gives_after P Q (done x s) f h k = k x s h
gives_after P Q (stopped why) f h k = tt

-- any value
abbrev Any : {A : Type 0} → A → Type 0
Any x = Unit {0}

gives_any : {S A : Type 0} (r : Run S A) → GivesOnly Any r
gives_any (done x s) = tt
gives_any (stopped why) = tt

pub is_given : {S A : Type 0} (P : A → Type 0) (r : Run S A) (x : A) (t : S) → GivesOnly P r → r ≡ done x t → P x
is_given P r x t h e = subst (GivesOnly P) e h

-- ---- expressions that are statements

expr_gives : {S Round V : Type 0} (m : Primitives S) (scoping : Scoping Round V) (eval : Eval S V) (line : ℕ) (x : Expr) (env : V) (s : S)
    → GivesOnly (λ r. r ≡ (next, env)) (small_stmt m scoping eval (record { line = line; kind = small.Expr x }) env s)
unfolding small_stmt expr_stmt
expr_gives {V = V} m scoping eval line x env s =
    let same : Flow × V → Type 0 = λ r. r ≡ (next, env) in
    gives_after Any same (m.step (steps_of (small.Expr x)) s) (λ _. expr_stmt m scoping eval x env) (gives_any (m.step (steps_of (small.Expr x)) s))
    (λ _ t _. gives_after Any same (eval x env t) (λ _. pure (next, env)) (gives_any (eval x env t)) (λ v u _. refl))

pub expressions : {S Round V : Type 0} (m : Primitives S) (scoping : Scoping Round V) → ExpressionsBindNothing m scoping
expressions m scoping eval line x env s t r h =
    is_given (λ q. q ≡ (next, env)) (small_stmt m scoping eval (record { line = line; kind = small.Expr x }) env s) r t (expr_gives m scoping eval line x env s) h

-- ---- a function's begin

module _ {S : Type 0} (m : Primitives S) (slot : ℕ) (held : Option Datum) where
  -- the slot holds that
  abbrev pub IsHeld : Filling Frame → Type 0
  IsHeld x = x.env slot ≡ held

  still_held : (env : Frame) (own : Identifier) (v : Datum) → (slot == slot_of own.referent) ≡ false → env slot ≡ held → fill env (slot_of own.referent) v slot ≡ held
  unfolding fill
  still_held env own v apart free = ap (λ b. if b then Some v else env slot) apart ∙ free

  value_held : (own : Identifier) (vs : List (Option Datum)) (x : Filling Frame) (s : S) → (slot == slot_of own.referent) ≡ false → IsHeld x → GivesOnly IsHeld (with_value m by_slots own vs x s)
  value_held own [] x s apart free = tt
  value_held own (None ∷ vs) x s apart free = tt
  value_held own (Some v ∷ vs) x s apart free = still_held x.env own v apart free

  default_held : (own : Identifier) (vs : List (Option Datum)) (ds : List Datum) (x : Filling Frame) (s : S) → (slot == slot_of own.referent) ≡ false → IsHeld x → GivesOnly IsHeld (with_default m by_slots own vs ds x s)
  default_held own [] ds x s apart free = tt
  default_held own (None ∷ vs) [] x s apart free = tt
  default_held own (Some v ∷ vs) [] x s apart free = tt
  default_held own (None ∷ vs) (d ∷ ds) x s apart free = still_held x.env own d apart free
  default_held own (Some v ∷ vs) (d ∷ ds) x s apart free = still_held x.env own v apart free

  by_held : (q : Formal) (x : Filling Frame) (s : S) → goes_into slot q ≡ false → IsHeld x → GivesOnly IsHeld (fill_by m by_slots q x s)
  by_held (formal.Plain own) x s apart free = value_held own x.values x s apart free
  by_held (formal.Default own) x s apart free = default_held own x.values x.defaults x s apart free
  by_held formal.BareStar x s apart free = free
  by_held (formal.Star own) x s apart free = still_held x.env own x.rest apart free
  by_held (formal.StarStar own) x s apart free = still_held x.env own x.keywords apart free

  one_held : (q : Formal) (x : Filling Frame) (s : S) → goes_into slot q ≡ false → IsHeld x → GivesOnly IsHeld (fill_parameter m by_slots q x s)
  unfolding fill_parameter
  one_held q x s apart free = by_held q x s apart free

  pub all_held : (ps : List Formal) (x : Filling Frame) (s : S) → AllByRecursion (λ q. goes_into slot q ≡ false) ps → IsHeld x → GivesOnly IsHeld (fill_parameters m by_slots ps x s)
  unfolding fill_parameters
  all_held [] x s apart free = free
  all_held (q ∷ ps) x s apart free = gives_after IsHeld IsHeld (fill_parameter m by_slots q x s) (fill_parameters m by_slots ps) (one_held q x s apart.0 free) (λ y t h. all_held ps y t apart.1 h)

module _ {S : Type 0} (m : Primitives S) (slot : ℕ) where
  entry_free : (d : Function) (ds : List Datum) (p : Passed) (s : S) → AllByRecursion (λ q. goes_into slot q ≡ false) d.parameters → GivesOnly (λ (env : Frame). env slot ≡ None) (entry m by_slots d ds p s)
  unfolding entry empty
  entry_free d ds p s apart =
      let free : Frame → Type 0 = λ env. env slot ≡ None in
      gives_after Any free (given_by m (bind (signature d.parameters) p) s) _ (gives_any (given_by m (bind (signature d.parameters) p) s))
      (λ b t _. gives_after Any free (keywords_of m (has_star_star d.parameters) b.keywords t) _ (gives_any (keywords_of m (has_star_star d.parameters) b.keywords t))
      (λ k u _. gives_after (IsHeld m slot None) free
      (fill_parameters m by_slots d.parameters (record { values = b.values; defaults = ds; rest = tuple (data_of b.rest); keywords = k; env = empty }) u) (λ x. pure x.env)
      (all_held m slot None d.parameters (record { values = b.values; defaults = ds; rest = tuple (data_of b.rest); keywords = k; env = empty }) u apart refl) (λ x w h. h)))

pub functions : {S : Type 0} (m : Primitives S) → FunctionsBeginWithParameters m
functions m d defaults p s t env slot h apart = is_given (λ e. e slot ≡ None) (entry m by_slots d defaults p s) env t (entry_free m slot d defaults p s apart) h
