use Rattle.std.proofs.Common.{◌∙◌, Option, sym, ap}
use Rattle.bq_label.specs.declared.packages.BuildFile.{BuildFile}
use Rattle.bq_load_changes.specs.Paths.{with_package}
use Rattle.bq_load_changes.proofs.Noted.{notes_path}
use Rattle.bq_load_changes.proofs.paths.note.Goals as goal

pub returns : goal.returns
returns c = λ h.
    notes_path c.args.packages.now c.args.touched.now.items c.add.new.touched.items c.args.path.now (sym c.may_be_module.ensures ∙ c.if-may_be_module.false)
    (c.in_ok-add.ensures ∙ ap (λ (o : Option BuildFile). with_package c.args.touched.now.items o) c.owner_of.ensures)
