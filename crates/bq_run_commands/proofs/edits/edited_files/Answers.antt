use Rattle.std.proofs.Common.{length, arith}
use Rattle.bq_run_commands.proofs.Edited.{all_left, one_noted}
use Rattle.bq_run_commands.proofs.edits.edited_files.Goals as goal

pub loop-i-init : goal.loop-i-init
loop-i-init c = rw (c.new-later.ensures, c.new-puts.ensures.items) (all_left c.args.workspace.now c.args.edits.now (length c.args.edits.now) (omega arith))

pub loop-i-preserved : goal.loop-i-preserved
loop-i-preserved c =
    let l = c.loop-i in
    one_noted c.args.workspace.now c.args.edits.now _ l.i c.index-edits-i.result l.later c.note.new.later l.puts.items c.note.new.puts.items
    (omega (arith, c.loop-i-test.true)) (omega (arith, c.loop-i-test.true)) c.index-edits-i.is l.invariant c.in_ok-note.ensures.later c.in_ok-note.ensures.puts
