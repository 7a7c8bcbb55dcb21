-- What a call means (Starlark specification, "Function and method calls"): arguments are bound to parameters (F52), the function becomes
-- active (F50, F51), and its body runs in a block of its own, which holds the names of its parameters and all that its body binds.
use Rattle.std.specs.Prelude.{ℕ, zero, suc, Bool, true, false, List, [], ◌∷◌, Option, Some, None, slice_get}
use Rattle.bq_base.specs.declared.fault.EvalFault.TheVariants as f
use Rattle.bq_parse_grammar.specs.declared.tree.Identifier.{Identifier}
use Rattle.bq_resolve_scope.specs.declared.file.Formal.{Formal}
use Rattle.bq_resolve_scope.specs.declared.file.Formal.TheVariants as formal
use Rattle.bq_resolve_scope.specs.declared.file.Function.{Function}
use Rattle.bq_value.specs.Contents.{pairs}
use Rattle.bq_value.specs.Datum.{Datum, none, tuple, cell, function, function_of, built_in, rule_function, data_of, list_of}
use Rattle.bq_builtin_machine.specs.Action.{Action, ◌>>=◌, pure}
use Rattle.bq_builtin_machine.specs.Args.{Passed}
use Rattle.bq_builtin_machine.specs.Binding as arguments
use Rattle.bq_builtin_machine.specs.Parameters.{ParameterView, SignatureView}
use Rattle.bq_eval_spec.specs.Primitives.{Primitives, stop, given_by, change}
use Rattle.bq_eval_spec.specs.Environment.{Scoping}
use Rattle.bq_eval_spec.specs.Expressions.{eval_in}
use Rattle.bq_eval_spec.specs.Statements.{Flow, answer, block, run_in}
use Rattle.bq_eval_spec.specs.Trees.{Calls}

-- a module: its functions in the order of their `def`s, and what is around them
pub record TreeUnit (R : Type 0) : Type 0 where
  pub functions : List Function
  pub round : R

-- the modules, by number
abbrev pub Units : Type 0 → Type 0
Units R = ℕ → Option (TreeUnit R)

-- ---- parameters

-- those that take one argument
abbrev pub singles : List Formal → List ParameterView
singles [] = []
singles (formal.Plain n ∷ ps) = record { name = Some n.name; is_required = true } ∷ singles ps
singles (formal.Default n ∷ ps) = record { name = Some n.name; is_required = false } ∷ singles ps
singles (_ ∷ ps) = singles ps

-- how many of them are before a `*`: after it only named arguments come
abbrev pub placed_of : List Formal → ℕ
placed_of [] = 0
placed_of (formal.Plain n ∷ ps) = suc (placed_of ps)
placed_of (formal.Default n ∷ ps) = suc (placed_of ps)
placed_of (formal.StarStar n ∷ ps) = placed_of ps
placed_of (_ ∷ ps) = 0

-- there is a parameter `*args`
abbrev pub has_star : List Formal → Bool
has_star [] = false
has_star (formal.Star n ∷ ps) = true
has_star (_ ∷ ps) = has_star ps

-- there is a parameter `**kwargs`
abbrev pub has_star_star : List Formal → Bool
has_star_star [] = false
has_star_star (formal.StarStar n ∷ ps) = true
has_star_star (_ ∷ ps) = has_star_star ps

-- what a call needs to know of the parameters
unfoldable pub signature : List Formal → SignatureView
signature ps = record { parameters = singles ps; placed = placed_of ps; takes_rest = has_star ps; takes_keywords = has_star_star ps }

-- What is still to be bound: the arguments of the parameters that take one, and the defaults, from the next one on; what `*` and `**`
-- hold.
pub record Filling (V : Type 0) : Type 0 where
  pub values : List (Option Datum)
  pub defaults : List Datum
  pub rest : Datum
  pub keywords : Datum
  pub env : V

-- what a function answers: `None` where its body ends without `return`
abbrev pub answered : Flow → Datum
answered (answer v) = v
answered _ = none

module _ {S : Type 0} (m : Primitives S) where
  -- `**` holds a new dict
  unfoldable pub keywords_of : Bool → List (Datum × Datum) → Action S Datum
  keywords_of true ps = m.make (pairs ps)
  keywords_of false ps = pure none

  -- `inner` is what calls mean inside; `None` if as many functions are active as may be
  abbrev pub within : {A : Type 0} → Option (Calls S) → (Calls S → Action S A) → Action S A
  within None go = stop m f.CallDepth
  within (Some inner) go = go inner

  -- what follows, unless what is called isn't there
  abbrev pub known : {A B : Type 0} → Option A → (A → Action S B) → Action S B
  known None go = stop m f.WrongType
  known (Some x) go = go x

module _ {S R V : Type 0} (m : Primitives S) (scoping : Scoping R V) where
  -- the parameter takes the next value
  abbrev pub with_value : Identifier → List (Option Datum) → Filling V → Action S (Filling V)
  with_value n (Some v ∷ vs) x = pure (record x { values = vs; env = scoping.bind x.env n v })
  with_value n _ x = stop m f.Args

  -- without an argument a parameter has the value of its default
  abbrev pub with_default : Identifier → List (Option Datum) → List Datum → Filling V → Action S (Filling V)
  with_default n (Some v ∷ vs) (d ∷ ds) x = pure (record x { values = vs; defaults = ds; env = scoping.bind x.env n v })
  with_default n (None ∷ vs) (d ∷ ds) x = pure (record x { values = vs; defaults = ds; env = scoping.bind x.env n d })
  with_default n _ _ x = stop m f.Args

  -- a parameter takes its value, by its form: the next one, a default, the rest, the keywords
  abbrev pub fill_by : Formal → Filling V → Action S (Filling V)
  fill_by (formal.Plain n) x = with_value n x.values x
  fill_by (formal.Default n) x = with_default n x.values x.defaults x
  fill_by formal.BareStar x = pure x
  fill_by (formal.Star n) x = pure (record x { env = scoping.bind x.env n x.rest })
  fill_by (formal.StarStar n) x = pure (record x { env = scoping.bind x.env n x.keywords })

  -- a parameter takes its value
  unfoldable pub fill_parameter : Formal → Filling V → Action S (Filling V)
  fill_parameter p x = fill_by p x

  -- the parameters take their values in turn
  unfoldable pub fill_parameters : List Formal → Filling V → Action S (Filling V)
  fill_parameters [] x = pure x
  fill_parameters (p ∷ ps) x = fill_parameter p x >>= λ y. fill_parameters ps y

  -- the environment that a function begins with
  unfoldable pub entry : Function → List Datum → Passed → Action S V
  entry d ds p =
      given_by m (arguments.bind (signature d.parameters) p) >>= λ b. keywords_of m (has_star_star d.parameters) b.keywords
      >>= λ k. fill_parameters d.parameters (record { values = b.values; defaults = ds; rest = tuple (data_of b.rest); keywords = k; env = scoping.in_function d })
      >>= λ x. pure x.env

  -- ---- calls

  -- the body of a function, where `inner` is what calls mean in it
  unfoldable pub body_of : Calls S → TreeUnit R → Function → V → Action S Datum
  body_of inner u d env = block m scoping (eval_in m scoping inner u.round) (run_in m scoping (eval_in m scoping inner u.round)) d.body env >>= λ r. pure (answered r.0)

  -- the body of a function, if one more may be active
  unfoldable pub run_body : Option (Calls S) → TreeUnit R → Function → V → Action S Datum
  run_body inner u d env = within m inner (λ call. body_of call u d env)

  -- A call: the parameters first, then the function is one of those running until its body has ended. The body runs in the environment of
  -- the call, a level further in.
  unfoldable pub call_function : Option (Calls S) → ℕ → ℕ → TreeUnit R → Function → List Datum → Passed → Action S Datum
  call_function inner home place u d ds p =
      entry d ds p >>= λ env. m.enter home place >>= λ _. run_body inner u d env >>= λ v. change m m.leave >>= λ _. pure v

  -- a call of the function of a module at that place
  unfoldable pub call_at : Units R → Option (Calls S) → ℕ → ℕ → List Datum → Passed → Action S Datum
  call_at units inner home place ds p = known m (units home) (λ u. known m (slice_get u.functions place) (λ d. call_function inner home place u d ds p))

  -- a call of a value, by what it is; what is no function can't be called (F40)
  abbrev pub apply_by : Units R → Option (Calls S) → Datum → Passed → Action S Datum
  apply_by units inner (function home place name ds) p = call_at units inner home place (list_of ds) p
  apply_by units inner (built_in b) p = m.call_built_in (function_of b) p
  apply_by units inner (rule_function f) p = m.call_rule_function f p
  apply_by units inner (cell home number) p = m.call_cell home number p
  apply_by units inner v p = stop m f.WrongType

  -- a call of a value
  unfoldable pub apply : Units R → Option (Calls S) → Calls S
  apply units inner v p = apply_by units inner v p

-- at most this many functions are active (F51)
unfoldable pub max_active : ℕ
max_active = 100

-- with a number of functions that may still become active
unfoldable pub calls : {S R V : Type 0} → ℕ → Primitives S → Scoping R V → Units R → Calls S
calls zero m scoping units v p = apply m scoping units None v p
calls (suc left) m scoping units v p = apply m scoping units (Some (calls left m scoping units)) v p

-- what calls mean inside a function that was called so
unfoldable pub inner_calls : {S R V : Type 0} → ℕ → Primitives S → Scoping R V → Units R → Option (Calls S)
inner_calls zero m scoping units = None
inner_calls (suc left) m scoping units = Some (calls left m scoping units)
