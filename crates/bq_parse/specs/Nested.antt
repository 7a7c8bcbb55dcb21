-- Functions in functions, a level of the tree at a time.
use Rattle.std.specs.Prelude.{ℕ, zero, suc, Bool, true, false, ◌||◌, List, [], ◌∷◌}
use Rattle.bq_parse_grammar.specs.declared.tree.Branch.{Branch, out-Branch}
use Rattle.bq_parse_grammar.specs.declared.tree.Stmt.{Stmt}
use Rattle.bq_parse_grammar.specs.declared.tree.Stmt.TheOpen.{Stmt-F}
use Rattle.bq_parse_grammar.specs.LeftOut.{nested_def}

-- whether a `def` stands in a `def`, in a statement of a block in which this many indents may still be opened
abbrev pub nested_within : ℕ → Bool → Stmt → Bool
nested_within zero inside x = false
nested_within (suc depth) inside x = nested_def depth inside x

-- of the statements of a block
unfoldable pub in_block : ℕ → Bool → List Stmt → Bool
in_block depth inside [] = false
in_block depth inside (x ∷ xs) = nested_within depth inside x || in_block depth inside xs

-- of the blocks of an `if`
unfoldable pub in_branches : ℕ → Bool → List Branch → Bool
in_branches depth inside [] = false
in_branches depth inside (b ∷ bs) = in_block depth inside (out-Branch b).block || in_branches depth inside bs

-- of a statement
abbrev pub in_statement : ℕ → Bool → Stmt-F Stmt Branch → Bool
in_statement depth inside (Stmt-F.Simple xs) = false
in_statement depth inside (Stmt-F.If bs zs) = in_branches depth inside bs || in_block depth inside zs
in_statement depth inside (Stmt-F.For v x xs) = in_block depth inside xs
in_statement depth inside (Stmt-F.Def n ps xs) = inside || in_block depth true xs
