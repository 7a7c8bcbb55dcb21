use Rattle.std.proofs.Common.{◌∙◌, ap}
use Rattle.std.specs.Option.{is_some}
use Rattle.bq_base_texts.specs.NameSet.{has}
use Rattle.bq_base_texts.proofs.NameLookups.{has_place}
use Rattle.bq_run_commands.proofs.Edited.{none_there}
use Rattle.bq_run_commands.proofs.edits.is_untouched.Goals as goal

pub returns : goal.returns
returns c =
    let paths = c.args.paths.now in
    none_there c.is_none.result (is_some c.place.result) (has paths c.args.file.now.path) c.is_none.ensures
    (ap is_some c.place.ensures ∙ (has_place paths c.as_slice.result.now ∙ ap (has paths) c.as_slice.ensures))
