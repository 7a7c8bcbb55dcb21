-- What a query that was checked says: sets made of sets. Contracts see this of a `SetExpr`: a chain of operators is done from left to
-- right, a call is the set that its function stands for, and a regular expression is its bytes.
use Rattle.std.specs.Prelude.{ℕ, ◌+◌, ◌<◌, List, [], ◌∷◌}
use Rattle.std.specs.Coded.{×_prop, Unit-prop, le_prop}
use Rattle.bq_query_lex.specs.declared.pattern.TargetPattern.{TargetPattern}
use Rattle.bq_query_parse.specs.declared.tree.SetOperator.{SetOperator}
use Rattle.bq_query_function.specs.Sets.{SetOfOne, SetOfTwo}
use Rattle.bq_query_function.specs.Calls.{of_one, of_two}
use Rattle.bq_query_check.specs.declared.formula.SetExpr.{SetExpr, fold-SetExpr}
use Rattle.bq_query_check.specs.declared.formula.ChainStep.{ChainStep, fold-ChainStep}
use Rattle.bq_query_check.specs.declared.formula.SetExpr.TheOpen as query
use Rattle.bq_query_check.specs.declared.formula.SetExpr.TheOpen.{SetExpr-F, ChainStep-F}

-- what a query stands for, its words read and its variables resolved
pub data Formula : Type 0 where
  -- the targets that patterns name: a word alone, or those of `set(word ..)`
  named : List TargetPattern → Formula
  -- `$name`: what the let of this number binds, of those around it, the outermost of which is 0
  variable : ℕ → Formula
  -- `let name = x in y`
  let_in : Formula → Formula → Formula
  -- `x + y`, `x ^ y`, `x - y`
  combined : SetOperator → Formula → Formula → Formula
  -- a set that is made of one: `deps(x)`, `kind(pattern, x)`, ..
  one : SetOfOne → Formula → Formula
  -- a set that is made of two: `rdeps(u, x)`, `allpaths(x, y)`
  two : SetOfTwo → Formula → Formula → Formula

-- a further operand of a chain
pub record Step : Type 0 where
  pub operator : SetOperator
  pub formula : Formula

-- from left to right
abbrev pub chained : Formula → List Step → Formula
chained x [] = x
chained x (o ∷ os) = chained (combined o.operator x o.formula) os

-- an operator and its right operand
abbrev pub step_step : ChainStep-F Formula Step → Step
step_step o = record { operator = o.operator; formula = o.operand }

-- a formula, by the form of the query
abbrev pub query_step : SetExpr-F Formula Step → Formula
query_step (query.Named ps) = named ps
query_step (query.Variable k) = variable k
query_step (query.Let x y) = let_in x y
query_step (query.Chain x os) = chained x os
query_step (query.One call x) = one (of_one call) x
query_step (query.Two call x y) = two (of_two call) x y

-- the formula of a checked query
abbrev pub formula_of : SetExpr → Formula
formula_of = fold-SetExpr Formula Step query_step step_step

-- the operator and the operand of a further part of a chain
abbrev pub step_of : ChainStep → Step
step_of = fold-ChainStep Formula Step query_step step_step

-- each variable is bound, where a number of lets are around
abbrev pub IsClosed : ℕ → Formula → Type 0
IsClosed n (named patterns) = Unit {0}
IsClosed n (variable k) = k < n
IsClosed n (let_in x y) = IsClosed n x × IsClosed (n + 1) y
IsClosed n (combined o x y) = IsClosed n x × IsClosed n y
IsClosed n (one s x) = IsClosed n x
IsClosed n (two s x y) = IsClosed n x × IsClosed n y

-- that each variable is bound is proved in one way at most
pub IsClosed-prop : (n : ℕ) (x : Formula) → IsProp (IsClosed n x)
IsClosed-prop n (named patterns) = Unit-prop
IsClosed-prop n (variable k) = le_prop
IsClosed-prop n (let_in x y) = ×_prop (IsClosed-prop n x) (IsClosed-prop (n + 1) y)
IsClosed-prop n (combined o x y) = ×_prop (IsClosed-prop n x) (IsClosed-prop n y)
IsClosed-prop n (one s x) = IsClosed-prop n x
IsClosed-prop n (two s x y) = ×_prop (IsClosed-prop n x) (IsClosed-prop n y)

-- so is each of the further operands of a chain
abbrev pub AreClosed : ℕ → List Step → Type 0
AreClosed n [] = Unit {0}
AreClosed n (s ∷ ss) = IsClosed n s.formula × AreClosed n ss
