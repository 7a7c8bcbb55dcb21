use Rattle.std.proofs.Common.{rules, ◌≡◌, ◌+◌, length, Ok, Err}
use Rattle.bq_builtin_strings.specs.Parts.{joined_on}
use Rattle.bq_builtin_string_methods.specs.Longer.{fits}
use Rattle.bq_builtin_string_methods.proofs.Lengths.{joined_more, joined_bad, joined_fits}
use Rattle.bq_builtin_string_methods.proofs.longer.fit_parts.Goals as goal

pub returns-in_err-len : goal.returns-in_err-len
returns-in_err-len c =
    let bad : Err c.in_err-len.field-0.0 ≡ fits (c.args.first + length (joined_on c.args.separator.now c.args.others.now)) =
    joined_bad c.args.separator.now c.args.others.now c.part-item.result c.loop-part.part-index c.loop-part.len c.len.result (c.args.first + length (joined_on c.args.separator.now c.args.others.now)) c.in_err-len.field-0.0 c.loop-part-test.true c.part-item.is c.len.ensures c.loop-part.invariant c.in_err-len.ensures in
    search (rules, bad)

pub loop-part-preserved : goal.loop-part-preserved
loop-part-preserved c =
    joined_more c.args.separator.now c.args.others.now c.part-item.result c.loop-part.part-index c.loop-part.len c.len.result c.in_ok-len.len _ c.loop-part-test.true c.part-item.is c.len.ensures c.loop-part.invariant c.in_ok-len.ensures

pub returns : goal.returns
returns c =
    joined_fits c.args.separator.now c.args.others.now c.loop-part.part-index c.loop-part.len (c.args.first + length (joined_on c.args.separator.now c.args.others.now)) (Ok c.in_ok-joined_len.field-0) c.loop-part-test.false c.loop-part.invariant c.in_ok-joined_len.ensures
