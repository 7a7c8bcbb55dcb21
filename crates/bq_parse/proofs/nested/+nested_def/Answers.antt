use Rattle.std.proofs.Common.{◌≡◌, ◌||◌, true, false, sym, ap, ◌∙◌}
use Rattle.bq_parse_grammar.specs.declared.tree.Stmt.{out-Stmt}
use Rattle.bq_parse.specs.Nested.{in_block, in_branches, in_statement}
use Rattle.bq_parse.proofs.Levels.{by_level, in_if, in_for, in_def}
use Rattle.bq_parse.proofs.nested.+nested_def.Goals as goal

pub nested_def-returns-then-in_branches : goal.nested_def-returns-then-in_branches
nested_def-returns-then-in_branches t c =
    let level = by_level c.args.depth c.args.inside c.args.statement.now in
    let opened = ap (λ x. in_statement c.args.depth c.args.inside (out-Stmt x)) c.in-If.is in
    let parts = in_if c.args.depth c.args.inside c.in-If.branches c.in-If.block in
    let found : in_branches c.args.depth c.args.inside c.in-If.branches ≡ true =
    sym (c.in_branches.ensures ∙ ap (in_branches c.args.depth c.args.inside) c.as_slice.ensures) ∙ c.if-in_branches.true in
    c.if-in_branches.true ∙ sym (level ∙ opened ∙ parts ∙ ap (λ b. b || in_block c.args.depth c.args.inside c.in-If.block) found)

pub nested_def-returns-else-in_branches : goal.nested_def-returns-else-in_branches
nested_def-returns-else-in_branches t c =
    let level = by_level c.args.depth c.args.inside c.args.statement.now in
    let opened = ap (λ x. in_statement c.args.depth c.args.inside (out-Stmt x)) c.in-If.is in
    let parts = in_if c.args.depth c.args.inside c.in-If.branches c.in-If.block in
    let found : in_branches c.args.depth c.args.inside c.in-If.branches ≡ false =
    sym (c.in_branches.ensures ∙ ap (in_branches c.args.depth c.args.inside) c.as_slice.ensures) ∙ c.if-in_branches.false in
    c.in_block.ensures ∙ ap (in_block c.args.depth c.args.inside) c.as_slice-else-in_branches.ensures
    ∙ sym (level ∙ opened ∙ parts ∙ ap (λ b. b || in_block c.args.depth c.args.inside c.in-If.block) found)

pub nested_def-returns-in-For : goal.nested_def-returns-in-For
nested_def-returns-in-For t c =
    let level = by_level c.args.depth c.args.inside c.args.statement.now in
    let opened = ap (λ x. in_statement c.args.depth c.args.inside (out-Stmt x)) c.in-For.is in
    let parts = in_for c.args.depth c.args.inside c.in-For.field-0 c.in-For.field-1 c.in-For.block in
    c.in_block-in-For.ensures ∙ ap (in_block c.args.depth c.args.inside) c.as_slice-in-For.ensures ∙ sym (level ∙ opened ∙ parts)

pub nested_def-returns-else-inside : goal.nested_def-returns-else-inside
nested_def-returns-else-inside t c =
    let level = by_level c.args.depth c.args.inside c.args.statement.now in
    let opened = ap (λ x. in_statement c.args.depth c.args.inside (out-Stmt x)) c.in-Def.is in
    let parts = in_def c.args.depth c.args.inside c.in-Def.field-0 c.in-Def.field-1 c.in-Def.block in
    c.in_block-else-inside.ensures ∙ ap (in_block c.args.depth true) c.as_slice-else-inside.ensures
    ∙ sym (level ∙ opened ∙ parts ∙ ap (λ b. b || in_block c.args.depth true c.in-Def.block) c.if-inside.false)
