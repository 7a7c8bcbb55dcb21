-- The law of names: what a tree means by names, the tree that it resolves to means by slots.
use Rattle.std.specs.Prelude.{◌≡◌, ◌≤◌, ℕ, List, [], Ok}
use Rattle.bq_parse_grammar.specs.declared.tree.Expr.{Expr}
use Rattle.bq_resolve_scope.specs.Names.{max_layers}
use Rattle.bq_resolve_scope.specs.Scope.{BlockParts, FileParts}
use Rattle.bq_resolve_scope.specs.Expressions as scope
use Rattle.bq_resolve_scope.specs.Visit.{Passed}
use Rattle.bq_value.specs.Datum.{Datum}
use Rattle.bq_builtin_machine.specs.Args as args
use Rattle.bq_eval_spec.specs.Frame.{Frame, Surroundings, empty}
use Rattle.bq_eval_spec.specs.Primitives.{Primitives}
use Rattle.bq_eval_spec.specs.Expressions as language
use Rattle.bq_eval_spec.specs.Slots.{by_slots}
use Rattle.bq_eval_spec.specs.Trees.{Calls}
use Rattle.bq_eval_spec.specs.Names.{Env, Round, outside, by_names}
use Rattle.bq_eval_by_name.specs.Shows.{Below, Nested, Shows, Around}

-- calling a value with arguments means the same
abbrev pub CallsAgree : {S : Type 0} → Calls S → Calls S → Type 0
CallsAgree {S} call other = (v : Datum) (p : args.Passed) (s : S) → call v p s ≡ other v p s

-- What is around all blocks of a file, and what calls mean, by names and by slots: both say the same.
pub record Context (S : Type 0) (file : FileParts) : Type 0 where
  pub round : Round
  pub surroundings : Surroundings
  pub around : Around file round surroundings
  pub call : Calls S
  pub other : Calls S
  pub calls : CallsAgree call other

-- What is around an expression says the same by names and by slots.
module _ {S : Type 0} (m : Primitives S) (file : FileParts) (round : Round) (surroundings : Surroundings) (call other : Calls S) where
  -- An expression that resolves, among blocks whose slots are taken already, and where no name of a block has the slot
  -- of another. Each meaning looks at no fewer layers than the resolver did.
  abbrev pub LayersAgree : Type 0
  LayersAgree =
      (n k l : ℕ) (blocks : List BlockParts) (x z : Expr) (p q : Passed) → n ≤ k → n ≤ l → Nested blocks → Below blocks p.slots → scope.expr_to n file blocks x p ≡ Ok (z, q)
      → (env : Env) (frame : Frame) (s : S) → Shows blocks env frame → language.expr_to k m by_names call round x env s ≡ language.expr_to l m by_slots other surroundings z frame s

  -- the same of both meanings as programs have them
  abbrev pub ExpressionsAgree : Type 0
  ExpressionsAgree =
      (blocks : List BlockParts) (x z : Expr) (p q : Passed) → Nested blocks → Below blocks p.slots → scope.expr_to max_layers file blocks x p ≡ Ok (z, q)
      → (env : Env) (frame : Frame) (s : S) → Shows blocks env frame → language.eval_in m by_names call round x env s ≡ language.eval_in m by_slots other surroundings z frame s

  -- outside all blocks
  abbrev pub OutsideAgree : Type 0
  OutsideAgree =
      (x z : Expr) (p q : Passed) → scope.expr_to max_layers file [] x p ≡ Ok (z, q)
      → (s : S) → language.eval_in m by_names call round x outside s ≡ language.eval_in m by_slots other surroundings z empty s
