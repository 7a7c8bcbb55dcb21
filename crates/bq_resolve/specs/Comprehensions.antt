-- What comprehensions resolve to in a scope, where the expressions in them are at most `depth` layers deep.
use Rattle.std.specs.Prelude.{ℕ, List}
use Rattle.bq_parse_grammar.specs.declared.tree.Clause.{Clause, out-Clause}
use Rattle.bq_parse_grammar.specs.declared.tree.ComprehensionFrame.{ComprehensionFrame}
use Rattle.bq_parse_grammar.specs.declared.tree.Expr.{Expr}
use Rattle.bq_parse_grammar.specs.declared.tree.Expr.TheVariants as e
use Rattle.bq_parse_grammar.specs.declared.tree.Pair.{Pair}
use Rattle.bq_resolve_scope.specs.Names.{ClauseLayer}
use Rattle.bq_resolve_scope.specs.Scope.{BlockParts}
use Rattle.bq_resolve_scope.specs.Visit.{Visit, each}
use Rattle.bq_resolve_scope.specs.Expressions.{expr_to, pair, clause_by, clauses, in_block, comprehension}
use Rattle.bq_resolve.specs.declared.scope.Scope.{Scope}

-- a clause, of which the iterable is resolved among the blocks `round`
abbrev pub clause_in : ℕ → Scope → List BlockParts → ClauseLayer → Visit Clause
clause_in depth scope round = clause_by scope.file.now (expr_to depth scope.file.now) round scope.blocks.now

-- all clauses; the iterable of the first is resolved among the blocks `round`
abbrev pub clauses_in : ℕ → Scope → List BlockParts → List Clause → Visit (List Clause)
clauses_in depth scope round = clauses scope.file.now (expr_to depth scope.file.now) round scope.blocks.now

-- the clauses done, and those of these that lie inside
abbrev pub further_clauses : ℕ → Scope → List Clause → List Clause → Visit (List Clause)
further_clauses depth scope = each (λ x. clause_in depth scope scope.blocks.now (out-Clause x))

-- `[element for .. in ..]`, in the frame that is open
abbrev pub list_in_block : ℕ → Scope → Expr → List Clause → Visit (ComprehensionFrame → Expr)
list_in_block depth scope element =
    in_block scope.file.now (expr_to depth scope.file.now) (λ bs. expr_to depth scope.file.now bs element) e.ListComprehension scope.blocks.now

-- `[element for .. in ..]`
abbrev pub list_comprehension : ℕ → Scope → Expr → List Clause → Visit Expr
list_comprehension depth scope element =
    comprehension scope.file.now (expr_to depth scope.file.now) (λ bs. expr_to depth scope.file.now bs element) e.ListComprehension scope.blocks.now

-- `{key: value for .. in ..}`, in the frame that is open
abbrev pub dict_in_block : ℕ → Scope → Pair → List Clause → Visit (ComprehensionFrame → Expr)
dict_in_block depth scope p =
    in_block scope.file.now (expr_to depth scope.file.now) (λ bs. pair scope.file.now (expr_to depth scope.file.now) bs p) e.DictComprehension scope.blocks.now

-- `{key: value for .. in ..}`
abbrev pub dict_comprehension : ℕ → Scope → Pair → List Clause → Visit Expr
dict_comprehension depth scope p =
    comprehension scope.file.now (expr_to depth scope.file.now) (λ bs. pair scope.file.now (expr_to depth scope.file.now) bs p) e.DictComprehension scope.blocks.now
