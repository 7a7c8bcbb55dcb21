use Rattle.std.proofs.Common.{◌≡◌, Some, rules, arith}
use Rattle.std.specs.Prelude.{option_map}
use Rattle.std.proofs.lemmas.Grind.{common_steps}
use Rattle.bq_source.specs.Operators.{operator, with_len}
use Rattle.bq_source.specs.Piece.{next_piece, mark}
use Rattle.bq_source.proofs.Fitting.{mark_within}
use Rattle.bq_source.proofs.piece.next_piece.Goals as goal

pub returns-in-None-clause-piece : goal.returns-in-None-clause-piece
unfolding next_piece mark
returns-in-None-clause-piece c = grind (arith, common_steps)

pub returns-in-Some-clause-piece : goal.returns-in-Some-clause-piece
unfolding next_piece mark
returns-in-Some-clause-piece c = grind (arith, common_steps)

pub returns-in-Some-clause-fits : goal.returns-in-Some-clause-fits
returns-in-Some-clause-fits c =
    let e : option_map with_len (operator c.args.text.now) ≡ Some (c.in-Some.len, c.in-Some.lexeme) = first_of (search rules, grind (arith, common_steps)) in
    let w = mark_within c.args.text.now c.in-Some.len c.in-Some.lexeme e in
    record { some = w.0; within = w.1; lines = omega arith }

pub returns-then-first-eq92-clause-piece : goal.returns-then-first-eq92-clause-piece
unfolding next_piece
returns-then-first-eq92-clause-piece c = grind (arith, common_steps)
