-- What a function ensures that goes along a tree and writes into it what its names refer to, and function values that do so for the
-- expressions inside.
use Rattle.std.specs.Prelude.{◌≡◌, ℕ, Result, Ok, Err}
use denote.Ref.{Bor, MutBor}
use Rattle.bq_base.specs.declared.fault.NameFault.{NameFault}
use Rattle.bq_base.specs.declared.fault.Fault.{Fault}
use Rattle.bq_base.specs.declared.fault.SourceErr.{SourceErr}
use Rattle.bq_base.specs.declared.fault.SourceErr.TheVariants.{Bad}
use Rattle.bq_base.specs.Gives.{Gives}
use Rattle.bq_parse_grammar.specs.declared.tree.Expr.{Expr}
use Rattle.bq_resolve_scope.specs.Visit.{Passed}
use Rattle.bq_resolve_scope.specs.Expressions.{expr_to}
use Rattle.bq_resolve.specs.declared.scope.Scope.{Scope}

-- what the definition gives, and what was passed then
abbrev pub Walks : {A : Type 0} → Result (A × Passed) (Fault NameFault) → Result A (SourceErr NameFault) → Passed → Type 0
Walks found result new = Gives (λ x. (x, new)) Bad result found

-- The definition gives the tree that stands there now, and what was passed then; or its fault is the fault. Of what stands there after a
-- fault nothing is said.
abbrev pub Writes : {A : Type 0} → Result (A × Passed) (Fault NameFault) → Result (Unit {0}) (SourceErr NameFault) → A → Passed → Type 0
Writes found (Ok _) tree new = found ≡ Ok (tree, new)
Writes found (Err why) tree new = (fault : Fault NameFault) → why ≡ Bad fault → found ≡ Err fault

-- expressions that are at most `depth` layers deep
pub record WritesNested (depth : ℕ) (pre : Bor Scope → ℕ → MutBor Passed → MutBor Expr → Type 0)
    (post : Bor Scope → ℕ → MutBor Passed → MutBor Expr → Result (Unit {0}) (SourceErr NameFault) → MutBor Passed → MutBor Expr → Type 0) : Type 0 where
  pub callable : (scope : Bor Scope) (old : MutBor Passed) (x : MutBor Expr) → pre scope depth old x
  pub writes : (scope : Bor Scope) (old new : MutBor Passed) (x y : MutBor Expr) (r : Result (Unit {0}) (SourceErr NameFault))
      → post scope depth old x r new y → Writes (expr_to depth scope.now.file.now scope.now.blocks.now x.now old.now) r y.now new.now
