-- Function values that resolve the statements of a block.
use Rattle.std.specs.Prelude.{ℕ, List, Bool, Result}
use denote.Ref.{Bor, MutBor}
use Rattle.bq_base.specs.declared.fault.NameFault.{NameFault}
use Rattle.bq_base.specs.declared.fault.SourceErr.{SourceErr}
use Rattle.bq_parse_grammar.specs.declared.tree.Stmt.{Stmt}
use Rattle.bq_resolve_scope.specs.Scope.{BlockParts, FileParts}
use Rattle.bq_resolve_scope.specs.Visit.{Passed, Visit}
use Rattle.bq_resolve_scope.specs.Statements.{stmt_to}
use Rattle.bq_resolve.specs.declared.scope.Scope.{Scope}
use Rattle.bq_resolve.specs.Walks.{Writes}

-- what a statement inside resolves to in a scope, if it is at most `layers` layers deep
abbrev pub inner : Scope → ℕ → Bool → Stmt → Visit Stmt
inner scope layers = stmt_to scope.file.now layers scope.blocks.now

-- what a rule of a statement with blocks gives in this scope, where the statements inside are resolved by `inner`
abbrev pub with_inner : {A : Type 0} → (FileParts → (Stmt → Visit Stmt) → List BlockParts → A) → Scope → ℕ → Bool → A
with_inner rule scope layers looping = rule scope.file.now (inner scope layers looping) scope.blocks.now

-- statements that are at most `layers` layers deep
pub record WritesStatement (layers : ℕ) (pre : Bor Scope → ℕ → Bool → MutBor Passed → MutBor Stmt → Type 0)
    (post : Bor Scope → ℕ → Bool → MutBor Passed → MutBor Stmt → Result (Unit {0}) (SourceErr NameFault) → MutBor Passed → MutBor Stmt → Type 0) : Type 0 where
  pub callable : (scope : Bor Scope) (looping : Bool) (old : MutBor Passed) (x : MutBor Stmt) → pre scope layers looping old x
  pub writes : (scope : Bor Scope) (looping : Bool) (old new : MutBor Passed) (x y : MutBor Stmt) (r : Result (Unit {0}) (SourceErr NameFault))
      → post scope layers looping old x r new y → Writes (stmt_to scope.now.file.now layers scope.now.blocks.now looping x.now old.now) r y.now new.now
