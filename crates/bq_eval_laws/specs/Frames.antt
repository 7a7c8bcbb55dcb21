-- The laws of frames: which names an expression and a call change.
use Rattle.std.specs.Prelude.{◌≡◌, ℕ, ◌==◌, Bool, false, List, None}
use Rattle.std.specs.List.{AllByRecursion}
use Rattle.bq_parse_grammar.specs.declared.tree.Expr.{Expr}
use Rattle.bq_parse_grammar.specs.declared.tree.SmallKind.TheVariants as small
use Rattle.bq_resolve_scope.specs.declared.file.Function.{Function}
use Rattle.bq_resolve_scope.specs.declared.file.Formal.{Formal}
use Rattle.bq_resolve_scope.specs.declared.file.Formal.TheVariants as formal
use Rattle.bq_value.specs.Datum.{Datum}
use Rattle.bq_builtin_machine.specs.Action.{done}
use Rattle.bq_builtin_machine.specs.Args.{Passed}
use Rattle.bq_eval_spec.specs.Frame.{Frame}
use Rattle.bq_eval_spec.specs.Primitives.{Primitives}
use Rattle.bq_eval_spec.specs.Calls.{entry}
use Rattle.bq_eval_spec.specs.Slots.{slot_of, by_slots}
use Rattle.bq_eval_spec.specs.Statements.{Flow, next, small_stmt}
use Rattle.bq_eval_spec.specs.Trees.{Eval}
use Rattle.bq_eval_spec.specs.Environment.{Scoping}

-- whether the value of a parameter goes into that slot, to which its name refers
abbrev pub goes_into : ℕ → Formal → Bool
goes_into slot (formal.Plain n) = slot == slot_of n.referent
goes_into slot (formal.Default n) = slot == slot_of n.referent
goes_into slot formal.BareStar = false
goes_into slot (formal.Star n) = slot == slot_of n.referent
goes_into slot (formal.StarStar n) = slot == slot_of n.referent

-- An expression that is a statement, whatever it calls, leaves the environment as it was, and the next statement comes after it.
abbrev pub ExpressionsBindNothing : {S R V : Type 0} → Primitives S → Scoping R V → Type 0
ExpressionsBindNothing {S = S} {V = V} m scoping =
    (eval : Eval S V) (line : ℕ) (x : Expr) (env : V) (s t : S) (r : Flow × V)
    → small_stmt m scoping eval (record { line = line; kind = small.Expr x }) env s ≡ done r t → r ≡ (next, env)

module _ {S : Type 0} (m : Primitives S) where
  -- A function begins with a frame that holds its parameters alone: nothing of the caller's, and nothing of an earlier call.
  abbrev pub FunctionsBeginWithParameters : Type 0
  FunctionsBeginWithParameters =
      (d : Function) (defaults : List Datum) (p : Passed) (s t : S) (env : Frame) (slot : ℕ) → entry m by_slots d defaults p s ≡ done env t
      → AllByRecursion (λ q. goes_into slot q ≡ false) d.parameters → env slot ≡ None
