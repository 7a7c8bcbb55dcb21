use Rattle.std.proofs.Common.{◌≡◌, ◌<◌, length, take, drop, ap, ◌∙◌, rules, arith}
use Rattle.std.proofs.lemmas.Grind.{common_steps}
use Rattle.std.proofs.lemmas.List.Elements.{All-drop}
use Rattle.std.proofs.lemmas.Result.{err_from_is_err_and}
use Rattle.bq_source.specs.Spelling.{Lies}
use Rattle.bq_parse_grammar.specs.Lexeme.{lexemes}
use Rattle.bq_parse_grammar.specs.Parses.{statements_of}
use Rattle.bq_parse.specs.Pieces.{piece_len}
use Rattle.bq_parse.proofs.Files.{as_many, goes_on, ends, finished, some_left}
use Rattle.bq_parse.proofs.file.statements.Goals as goal

pub split_at-requires : goal.split_at-requires
split_at-requires c =
    let rest = c.pieces.rest.now in
    let many : length c.new-here.result ≡ length rest = ap length c.new-here.ensures ∙ as_many c.args.text.now rest in
    omega (arith, many, c.piece_len.ensures.within)

pub returns-in_err-verdict : goal.returns-in_err-verdict
returns-in_err-verdict c =
    let text = c.args.text.now in
    let rest = c.pieces.rest.now in
    let some : 0 < length rest = first_of (search rules, grind (arith, common_steps)) in
    let len = c.piece_len.ensures.len ∙ ap piece_len c.new-here.ensures in
    let front = c.split_at.ensures.front ∙ ap (λ n. take n rest) len in
    let back = c.split_at.ensures.back ∙ ap (λ n. drop n rest) len in
    let p = err_from_is_err_and c.from_residual.result c.from_residual.ensures.1 in
    rw (p.1, p.2) (ends c.args.kind text rest c.split_at.result.0.now c.split_at.result.1.now c.pieces.statements
    (statements_of c.args.kind (lexemes text c.args.tokens.now)) c.pieces.invariant.same c.new-first.result c.new-first.ensures some (front, back) _ c.in_err-verdict.ensures)

pub pieces-smaller : goal.pieces-smaller
pieces-smaller c =
    let rest = c.pieces.rest.now in
    let some : 0 < length rest = first_of (search rules, grind (arith, common_steps)) in
    let len = c.piece_len.ensures.len ∙ ap piece_len c.new-here.ensures in
    let taken : 0 < c.piece_len.result = rw len (some_left c.args.text.now rest some) in
    let smaller : length c.split_at.result.1.now < length rest = first_of (omega (arith, some, taken, c.split_at.ensures.back_len), grind (arith, common_steps, some, taken)) in
    smaller

pub pieces-preserved : goal.pieces-preserved
pieces-preserved c =
    let text = c.args.text.now in
    let rest = c.pieces.rest.now in
    let some : 0 < length rest = first_of (search rules, grind (arith, common_steps)) in
    let len = c.piece_len.ensures.len ∙ ap piece_len c.new-here.ensures in
    let front = c.split_at.ensures.front ∙ ap (λ n. take n rest) len in
    let back = c.split_at.ensures.back ∙ ap (λ n. drop n rest) len in
    record {
      lie = rw back (All-drop (Lies text) (piece_len (lexemes text rest)) rest c.pieces.invariant.lie);
      same = rw c.in_ok-push.ensures.ok
          (goes_on c.args.kind text rest c.split_at.result.0.now c.split_at.result.1.now c.pieces.statements
          (statements_of c.args.kind (lexemes text c.args.tokens.now)) c.pieces.invariant.same c.new-first.result c.new-first.ensures some (front, back) _ c.in_ok-verdict.ensures);
    }

pub returns : goal.returns
returns c =
    let none : length c.pieces.rest.now ≡ 0 = first_of (search rules, grind (arith, common_steps)) in
    c.pieces.invariant.same ∙ finished c.args.kind c.args.text.now c.pieces.rest.now c.pieces.statements none
