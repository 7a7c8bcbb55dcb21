use Rattle.std.proofs.Common.{◌≡◌, ◌∙◌, ◌∷◌, get_or, drop, true, false, rules, arith}
use Rattle.std.specs.Prelude.{◌==◌}
use Rattle.std.proofs.lemmas.Grind.{common_steps}
use Rattle.bq_source.specs.Lexis.{is_letter}
use Rattle.bq_source.specs.StringLiteral.{begins}
use Rattle.bq_source_lexer.proofs.FirstBytes as first
use Rattle.bq_source_lexer.proofs.frequent.piece.Goals as goal

pub returns-in-32-clause-piece : goal.returns-in-32-clause-piece
returns-in-32-clause-piece c =
    let text : c.args.text.now ≡ 32 ∷ drop 1 c.args.text.now = first_of (search rules, grind (arith, common_steps)) in
    first.space_piece c.args.text.now (drop 1 c.args.text.now) c.run_len.result text c.run_len.ensures.run

pub returns-in-10-clause-piece : goal.returns-in-10-clause-piece
returns-in-10-clause-piece c =
    let text : c.args.text.now ≡ 10 ∷ drop 1 c.args.text.now = first_of (search rules, grind (arith, common_steps)) in
    first.line_piece c.args.text.now (drop 1 c.args.text.now) text

pub returns-in-44-clause-piece : goal.returns-in-44-clause-piece
returns-in-44-clause-piece c =
    let text : c.args.text.now ≡ 44 ∷ drop 1 c.args.text.now = first_of (search rules, grind (arith, common_steps)) in
    c.mark.ensures ∙ first.comma_piece c.args.text.now (drop 1 c.args.text.now) text

pub returns-in-40-clause-piece : goal.returns-in-40-clause-piece
returns-in-40-clause-piece c =
    let text : c.args.text.now ≡ 40 ∷ drop 1 c.args.text.now = first_of (search rules, grind (arith, common_steps)) in
    c.mark-in-40.ensures ∙ first.left_paren_piece c.args.text.now (drop 1 c.args.text.now) text

pub returns-in-41-clause-piece : goal.returns-in-41-clause-piece
returns-in-41-clause-piece c =
    let text : c.args.text.now ≡ 41 ∷ drop 1 c.args.text.now = first_of (search rules, grind (arith, common_steps)) in
    c.mark-in-41.ensures ∙ first.right_paren_piece c.args.text.now (drop 1 c.args.text.now) text

pub returns-in-91-clause-piece : goal.returns-in-91-clause-piece
returns-in-91-clause-piece c =
    let text : c.args.text.now ≡ 91 ∷ drop 1 c.args.text.now = first_of (search rules, grind (arith, common_steps)) in
    c.mark-in-91.ensures ∙ first.left_bracket_piece c.args.text.now (drop 1 c.args.text.now) text

pub returns-in-93-clause-piece : goal.returns-in-93-clause-piece
returns-in-93-clause-piece c =
    let text : c.args.text.now ≡ 93 ∷ drop 1 c.args.text.now = first_of (search rules, grind (arith, common_steps)) in
    c.mark-in-93.ensures ∙ first.right_bracket_piece c.args.text.now (drop 1 c.args.text.now) text

pub returns-in_default-behind-clause-piece : goal.returns-in_default-behind-clause-piece
returns-in_default-behind-clause-piece c =
    let text : c.args.text.now ≡ 61 ∷ drop 1 c.args.text.now = first_of (search rules, grind (arith, common_steps)) in
    let other : begins 61 (drop 1 c.args.text.now) ≡ false = first_of (search rules, grind (arith, common_steps)) in
    c.mark-in_default-behind.ensures ∙ first.assign_piece c.args.text.now (drop 1 c.args.text.now) text other

pub returns-else-b-eq114-clause-piece : goal.returns-else-b-eq114-clause-piece
returns-else-b-eq114-clause-piece c =
    let b = get_or c.args.text.now 0 0 in
    let text : c.args.text.now ≡ b ∷ drop 1 c.args.text.now = first_of (search rules, grind (arith, common_steps)) in
    let letter : is_letter b ≡ true = first_of (search rules, grind (arith, common_steps)) in
    let other : (b == 114) ≡ false = first_of (search rules, grind (arith, common_steps)) in
    first.word_piece c.args.text.now (drop 1 c.args.text.now) b c.run_len-len.result c.word_kind-kind.result text letter other c.run_len-len.ensures.run c.word_kind-kind.ensures
