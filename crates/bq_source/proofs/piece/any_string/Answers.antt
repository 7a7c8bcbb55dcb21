use Rattle.std.proofs.Common.{sym, arith}
use Rattle.bq_source.proofs.Fitting.{scanned_within, take_short}
use Rattle.bq_source.proofs.piece.any_string.Goals as goal

pub returns-in-None-clause-fits : goal.returns-in-None-clause-fits
returns-in-None-clause-fits c =
    let w = scanned_within c.args.text.now c.in-Some.literal (sym c.in-Some.ensures.literal) in
    let s = take_short c.in-Some.literal.len c.args.text.now in
    record { some = w.0; within = w.1; lines = omega arith }
