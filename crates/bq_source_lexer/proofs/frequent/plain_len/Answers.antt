use Rattle.std.proofs.Common.{sym, ap, ◌∙◌, arith}
use lib.Count.{count_trailing_zeros}
use Rattle.bq_source.specs.StringLiteral.{is_plain}
use Rattle.bq_source.proofs.Blocks.{run_within, goes_on, ends}
use Rattle.bq_source_lexer.proofs.frequent.plain_len.Goals as goal

pub returns-then-found-ne0-clause-run : goal.returns-then-found-ne0-clause-run
returns-then-found-ne0-clause-run c =
    let found = c.others-found in
    let run = ends (is_plain 34) c.args.bytes.now c.loop-n.n 16 (omega arith) (omega arith) (omega (arith, found.ensures)) ∙ ap (count_trailing_zeros 64) (sym found.ensures) in
    omega (arith, run, c.loop-n.invariant.run)

pub returns-then-found-ne0-clause-within : goal.returns-then-found-ne0-clause-within
returns-then-found-ne0-clause-within c =
    let found = c.others-found in
    let run = ends (is_plain 34) c.args.bytes.now c.loop-n.n 16 (omega arith) (omega arith) (omega (arith, found.ensures)) ∙ ap (count_trailing_zeros 64) (sym found.ensures) in
    omega (arith, run, run_within (is_plain 34) c.args.bytes.now c.loop-n.n c.loop-n.invariant.within)

pub loop-n-preserved : goal.loop-n-preserved
loop-n-preserved c =
    let run = goes_on (is_plain 34) c.args.bytes.now c.loop-n.n 16 (omega arith) (omega (arith, c.others-found.ensures)) in
    record { run = omega (arith, run, c.loop-n.invariant.run); within = omega arith }
