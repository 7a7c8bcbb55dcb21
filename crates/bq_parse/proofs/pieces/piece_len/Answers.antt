use Rattle.std.proofs.Common.{◌≡◌, ◌+◌, ◌-◌, ◌<◌, ◌^◌, ◌&&◌, true, false, length, Some, rules, arith}
use Rattle.bq_parse_grammar.specs.Pieces.{begins_statement, is_zero}
use Rattle.bq_parse_grammar.specs.Tokens.{kind_ahead}
use Rattle.bq_parse.specs.Pieces.{piece_len, rest_len}
use Rattle.bq_parse.proofs.Ahead.{one_less}
use Rattle.bq_parse.proofs.Cutting.{begins_here, goes_on}
use Rattle.bq_parse.proofs.pieces.piece_len.Goals as goal

pub returns-then-begins-clause-len : goal.returns-then-begins-clause-len
returns-then-begins-clause-len c =
    let l = c.tokens in
    let all = length c.args.tokens.now in
    let next_is : kind_ahead l.rest ≡ Some c.in-Some.kind = first_of (search rules, grind arith, cc) in
    let begins : (l.line && (is_zero l.indents && begins_statement c.in-Some.kind)) ≡ true = first_of (search rules, grind arith, cc) in
    let here : all - length l.rest ≡ piece_len c.args.tokens.now =
    begins_here l.line l.indents l.rest c.in-Some.kind next_is (all - length l.rest) (piece_len c.args.tokens.now) (omega (arith, l.invariant.same, l.invariant.few)) begins in
    omega (arith, here, c.left.ensures, c.left-all.ensures)

pub tokens-preserved : goal.tokens-preserved
tokens-preserved c =
    let l = c.tokens in
    let all = length c.args.tokens.now in
    let next_is : kind_ahead l.rest ≡ Some c.in-Some.kind = first_of (search rules, grind arith, cc) in
    let stays : (l.line && (is_zero l.indents && begins_statement c.in-Some.kind)) ≡ false = first_of (search rules, grind arith, cc) in
    let one = one_less l.rest c.in-Some.kind next_is in
    let on = goes_on l.line l.indents l.rest c.in-Some.kind next_is (all - length l.rest) (piece_len c.args.tokens.now) (omega (arith, l.invariant.same, l.invariant.few)) stays in
    record {
      same = rw (c.line_after.ensures.line, c.line_after.ensures.indents, c.advance.ensures) (omega (arith, on, one, l.invariant.same, l.invariant.few));
      few = rw c.advance.ensures (omega (arith, one, c.line_after.ensures.within, l.invariant.few));
    }
