use Rattle.std.proofs.Common.{◌++◌}
use Rattle.std.specs.List.{join_by, zip}
use Rattle.bq_package_values.specs.JsonParts.{comma}
use Rattle.bq_facts.specs.ModuleLine.{load_object}
use Rattle.bq_facts.proofs.Loads.{next_load, no_file}
use Rattle.bq_facts.proofs.module_line.push_items.Goals as goal

pub returns-in_default : goal.returns-in_default
returns-in_default c =
    no_file c.args.loads.now c.args.files.now c.loop-number.number c.loop-number.text
    (c.args.text.now ++ join_by load_object comma (zip c.args.loads.now c.args.files.now)) c.loop-number.invariant c.in_default.ensures

pub loop-number-preserved : goal.loop-number-preserved
loop-number-preserved c =
    next_load c.args.loads.now c.args.files.now c.loop-number.number c.loop-number.text
    (c.args.text.now ++ join_by load_object comma (zip c.args.loads.now c.args.files.now)) c.loop-number.invariant
    c.index-loads-number.result c.loop-number-test.true c.index-loads-number.is c.in-Some.file.now c.in-Some.ensures
    c.push_comma.new.text c.push_load.new.text c.in_ok-push_comma.ensures c.in_ok-push_load.ensures
