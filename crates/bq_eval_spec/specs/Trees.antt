-- What an expression and a call mean; one layer of the trees that have no name elsewhere.
use Rattle.bq_parse_grammar.specs.declared.tree.Argument.TheOpen.{Argument-F}
use Rattle.bq_parse_grammar.specs.declared.tree.Argument.{Argument}
use Rattle.bq_parse_grammar.specs.declared.tree.Branch.{Branch}
use Rattle.bq_parse_grammar.specs.declared.tree.Choice.{Choice}
use Rattle.bq_parse_grammar.specs.declared.tree.Clause.{Clause}
use Rattle.bq_parse_grammar.specs.declared.tree.Expr.{Expr}
use Rattle.bq_parse_grammar.specs.declared.tree.Operation.{Operation}
use Rattle.bq_parse_grammar.specs.declared.tree.Pair.{Pair}
use Rattle.bq_parse_grammar.specs.declared.tree.Stmt.{Stmt}
use Rattle.bq_parse_grammar.specs.declared.tree.Stmt.TheOpen.{Stmt-F}
use Rattle.bq_parse_grammar.specs.declared.tree.Suffix.{Suffix}
use Rattle.bq_parse_grammar.specs.declared.tree.TargetExpr.{TargetExpr}
use Rattle.bq_value.specs.Datum.{Datum}
use Rattle.bq_builtin_machine.specs.Action.{Action}
use Rattle.bq_builtin_machine.specs.Args.{Passed}

-- the form of an argument
abbrev pub ArgumentLayer : Type 0
ArgumentLayer = Argument-F Argument Clause Expr Suffix TargetExpr Choice Operation Pair

-- the form of a statement
abbrev pub StmtLayer : Type 0
StmtLayer = Stmt-F Stmt Branch

-- what an expression means: it reads an environment, and changes none
abbrev pub Eval : Type 0 → Type 0 → Type 0
Eval S V = Expr → V → Action S Datum

-- what calling a value with arguments means
abbrev pub Calls : Type 0 → Type 0
Calls S = Datum → Passed → Action S Datum
