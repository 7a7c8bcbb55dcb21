use Rattle.std.proofs.Common.{◌≡◌, ◌++◌, drop}
use Rattle.std.specs.List.{flat_map}
use Rattle.bq_run_commands.specs.Changes.{edits_text, if_new}
use Rattle.bq_run_commands.proofs.changes.push_all_new.Given as goal

abbrev pub invariant-loop-file : goal.invariant-loop-file
invariant-loop-file l = l.text.items ++ flat_map (λ f. edits_text (if_new l.before f)) (drop l.file-index l.files) ≡ l.initial.text.items ++ flat_map (λ f. edits_text (if_new l.before f)) l.files
