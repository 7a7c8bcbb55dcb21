-- The laws of depth: no file is too deep for its meaning, and of no tree in it would more layers mean anything else.
use Rattle.std.specs.Prelude.{◌≡◌, ◌≤◌, ℕ, List, Ok}
use Rattle.bq_parse_grammar.specs.Lexeme.{Lexeme}
use Rattle.bq_parse_grammar.specs.Parses.{Parses}
use Rattle.bq_parse_grammar.specs.declared.tree.FileKind.{FileKind}
use Rattle.bq_parse_grammar.specs.declared.tree.TopLevel.{TopLevel}
use Rattle.bq_parse_grammar.specs.declared.tree.Expr.{Expr}
use Rattle.bq_parse_grammar.specs.declared.tree.Stmt.{Stmt}
use Rattle.bq_parse_grammar.specs.declared.tree.TargetExpr.{TargetExpr}
use Rattle.bq_resolve_scope.specs.declared.file.ResolvedFile.{ResolvedFile}
use Rattle.bq_resolve_scope.specs.Names.{max_layers}
use Rattle.bq_resolve_scope.specs.Universe.{UniverseParts}
use Rattle.bq_resolve_scope.specs.Files.{resolved}
use Rattle.bq_value.specs.Datum.{Datum}
use Rattle.bq_eval_spec.specs.Primitives.{Primitives}
use Rattle.bq_eval_spec.specs.Targets.{Places, bind_to, places_to}
use Rattle.bq_eval_spec.specs.Expressions.{expr_to}
use Rattle.bq_eval_spec.specs.Statements.{run_to}
use Rattle.bq_eval_spec.specs.Trees.{Eval, Calls}
use Rattle.bq_eval_spec.specs.Environment.{Scoping}
use Rattle.bq_eval_laws.specs.Depth.{MembersAreSuffixes}
use Rattle.bq_eval_laws.specs.Layers.{IsWithin, TargetIsWithin, StmtIsWithin}
use Rattle.bq_eval_laws.specs.Fits.{TargetFits, ExprFitsTo, ExprFits, StmtFits, FileFits}

-- of a file that is parsed and resolved, all trees are no deeper than the layers that are looked at
abbrev pub NoResolvedFileIsTooDeep : Type 0
NoResolvedFileIsTooDeep =
    (kind : FileKind) (ts : List Lexeme) (xs : List TopLevel) (universe : UniverseParts) (file : ResolvedFile) → Parses kind ts (Ok xs) → resolved universe xs ≡ Ok file → FileFits file

-- ---- trees that fit: they have no more layers, as the laws of the meaning say it

-- an expression that fits so many layers is at most so many layers deep
abbrev pub ExpressionsAreWithin : Type 0
ExpressionsAreWithin = (layers : ℕ) (x : Expr) → ExprFitsTo layers x → IsWithin layers x

-- a statement that fits so many layers is at most so many layers deep
abbrev pub StatementsAreWithin : Type 0
StatementsAreWithin = (layers : ℕ) (x : Stmt) → StmtFits layers x → StmtIsWithin layers x

-- whatever number suffices for the expressions in it
abbrev pub TargetsAreWithin : Type 0
TargetsAreWithin = (inner layers : ℕ) (t : TargetExpr) → TargetFits (ExprFitsTo inner) layers t → TargetIsWithin layers t

-- ---- and with more layers they mean the same

module _ {S R V : Type 0} (m : Primitives S) (scoping : Scoping R V) where
  abbrev pub ExpressionsNeedNoMore : Type 0
  ExpressionsNeedNoMore =
      (call : Calls S) (round : R) (k : ℕ) (x : Expr) (env : V) (s : S) → MembersAreSuffixes scoping → ExprFits x → max_layers ≤ k
      → expr_to max_layers m scoping call round x env s ≡ expr_to k m scoping call round x env s

  abbrev pub StatementsNeedNoMore : Type 0
  StatementsNeedNoMore =
      (eval : Eval S V) (k : ℕ) (x : Stmt) (env : V) (s : S) → StmtFits max_layers x → max_layers ≤ k → run_to max_layers m scoping eval x env s ≡ run_to k m scoping eval x env s

  abbrev pub BindingsNeedNoMore : Type 0
  BindingsNeedNoMore =
      (inner k : ℕ) (t : TargetExpr) (v : Datum) (env : V) (ps : Places) (s : S) → TargetFits (ExprFitsTo inner) max_layers t → max_layers ≤ k
      → bind_to m scoping max_layers t v env ps s ≡ bind_to m scoping k t v env ps s

  abbrev pub PlacesNeedNoMore : Type 0
  PlacesNeedNoMore =
      (eval : Eval S V) (inner k : ℕ) (t : TargetExpr) (env : V) (ps : Places) (s : S) → TargetFits (ExprFitsTo inner) max_layers t → max_layers ≤ k
      → places_to m eval max_layers t env ps s ≡ places_to m eval k t env ps s
