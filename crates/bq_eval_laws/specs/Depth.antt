-- The law of depth: where a depth suffices for a tree, a greater one changes nothing, so no number of layers is part of what a program
-- means.
use Rattle.std.specs.Prelude.{◌≡◌, ◌≤◌, ℕ, List, ◌∷◌, Option, Some}
use Rattle.bq_parse_grammar.specs.declared.tree.Expr.{Expr}
use Rattle.bq_parse_grammar.specs.declared.tree.Stmt.{Stmt}
use Rattle.bq_parse_grammar.specs.declared.tree.TargetExpr.{TargetExpr}
use Rattle.bq_parse_grammar.specs.declared.tree.Argument.{Argument}
use Rattle.bq_parse_grammar.specs.declared.tree.Suffix.{Suffix}
use Rattle.bq_parse_grammar.specs.declared.tree.Identifier.{Identifier}
use Rattle.bq_parse_grammar.specs.declared.tree.Suffix.TheVariants as suffix
use Rattle.bq_predeclared.specs.declared.predeclared.Predeclared.{Predeclared}
use Rattle.bq_value.specs.Datum.{Datum}
use Rattle.bq_eval_spec.specs.Primitives.{Primitives}
use Rattle.bq_eval_spec.specs.Targets.{Places, bind_to, places_to}
use Rattle.bq_eval_spec.specs.Expressions.{expr_to}
use Rattle.bq_eval_spec.specs.Statements.{run_to}
use Rattle.bq_eval_spec.specs.Trees.{Eval, Calls}
use Rattle.bq_eval_spec.specs.Environment.{Scoping}
use Rattle.bq_eval_laws.specs.Layers.{IsWithin, TargetIsWithin, StmtIsWithin}

-- the call of a namespace's member is the first suffix of its operand, and what is done to the result is all after it
abbrev pub MembersAreSuffixes : {R V : Type 0} → Scoping R V → Type 0
MembersAreSuffixes {R = R} {V = V} scoping =
    (round : R) (env : V) (x : Expr) (ss : List Suffix) (found : Option Predeclared) (xs : List Argument) (rest : List Suffix) → scoping.member round env x ss ≡ Some (found, xs, rest)
    → (n : Identifier) × (ss ≡ suffix.Method n xs ∷ rest)

module _ {S R V : Type 0} (m : Primitives S) (scoping : Scoping R V) where
  -- two depths, of which the first one suffices
  abbrev pub ExpressionDepth : Type 0
  ExpressionDepth =
      (call : Calls S) (round : R) (n k : ℕ) (x : Expr) (env : V) (s : S) → MembersAreSuffixes scoping → IsWithin n x → n ≤ k
      → expr_to n m scoping call round x env s ≡ expr_to k m scoping call round x env s

  abbrev pub StatementDepth : Type 0
  StatementDepth = (eval : Eval S V) (n k : ℕ) (x : Stmt) (env : V) (s : S) → StmtIsWithin n x → n ≤ k → run_to n m scoping eval x env s ≡ run_to k m scoping eval x env s

  abbrev pub BindingDepth : Type 0
  BindingDepth = (n k : ℕ) (t : TargetExpr) (v : Datum) (env : V) (ps : Places) (s : S) → TargetIsWithin n t → n ≤ k → bind_to m scoping n t v env ps s ≡ bind_to m scoping k t v env ps s

  abbrev pub PlaceDepth : Type 0
  PlaceDepth = (eval : Eval S V) (n k : ℕ) (t : TargetExpr) (env : V) (ps : Places) (s : S) → TargetIsWithin n t → n ≤ k → places_to m eval n t env ps s ≡ places_to m eval k t env ps s
