use Rattle.std.proofs.Common.{◌≡◌, ◌∙◌, true, rules, sym, ap, subst, arith}
use Rattle.std.proofs.lemmas.Grind.{common_steps}
use Rattle.bq_parse_grammar.specs.declared.tree.Expr.{Expr}
use Rattle.bq_parse_grammar.specs.declared.tree.Nested.TheVariants.{Or, Test}
use Rattle.bq_parse_grammar.specs.Reading.{primary, phrase, variables_to}
use Rattle.bq_parse_grammar.specs.Turns.{Found, Reads, ◌>>=◌}
use Rattle.bq_parse_expression.specs.Lone.{begins_with_operand}
use Rattle.bq_parse_expression.specs.Further.{or_after_primary}
use Rattle.bq_parse_expression.proofs.AfterPrimary.{after_or, primary_then}
use Rattle.bq_parse_expression.proofs.grammar.Grammar.phrase_by.Goals as goal

pub returns-in_err-value : goal.returns-in_err-value
returns-in_err-value g c =
    let base = primary (phrase c.args.self.now.depth) (variables_to c.args.self.now.depth) in
    let begins : begins_with_operand c.args.tokens.now ≡ true = sym c.begins_with_operand.ensures ∙ c.if-not-begins_with_operand.false in
    let whole = primary_then base c.args.which c.args.tokens.now c.in_ok-first.first c.primary.new.tokens begins c.in_ok-first.ensures in
    let inner : Reads (or_after_primary base c.in_ok-first.first c.primary.new.tokens >>= λ y rest. after_or base c.args.which y rest) c.from_residual-in_err-value.result c.or_after_primary.new.tokens =
    first_of (grind (arith, common_steps), search rules) in
    subst (λ (f : Found Expr). Reads f c.from_residual-in_err-value.result c.or_after_primary.new.tokens) (sym whole) inner

pub returns-in-Or-which : goal.returns-in-Or-which
returns-in-Or-which g c =
    let base = primary (phrase c.args.self.now.depth) (variables_to c.args.self.now.depth) in
    let begins : begins_with_operand c.args.tokens.now ≡ true = sym c.begins_with_operand.ensures ∙ c.if-not-begins_with_operand.false in
    let whole = primary_then base c.args.which c.args.tokens.now c.in_ok-first.first c.primary.new.tokens begins c.in_ok-first.ensures in
    let same : c.args.which ≡ Or = first_of (search rules, grind (arith, common_steps)) in
    whole
    ∙ (ap (λ (r : Found Expr). r >>= λ y rest. after_or base c.args.which y rest) c.in_ok-value.ensures
    ∙ ap (λ w. after_or base w c.in_ok-value.value c.or_after_primary.new.tokens) same)

pub returns-in-Test-which : goal.returns-in-Test-which
returns-in-Test-which g c =
    let base = primary (phrase c.args.self.now.depth) (variables_to c.args.self.now.depth) in
    let begins : begins_with_operand c.args.tokens.now ≡ true = sym c.begins_with_operand.ensures ∙ c.if-not-begins_with_operand.false in
    let whole = primary_then base c.args.which c.args.tokens.now c.in_ok-first.first c.primary.new.tokens begins c.in_ok-first.ensures in
    let same : c.args.which ≡ Test = first_of (search rules, grind (arith, common_steps)) in
    let all =
    whole
    ∙ (ap (λ (r : Found Expr). r >>= λ y rest. after_or base c.args.which y rest) c.in_ok-value.ensures
    ∙ ap (λ w. after_or base w c.in_ok-value.value c.or_after_primary.new.tokens) same) in
    subst (λ (f : Found Expr). Reads f c.conditional.result c.conditional.new.tokens) (sym all) c.conditional.ensures
