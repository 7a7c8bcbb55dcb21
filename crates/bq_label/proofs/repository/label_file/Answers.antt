use Rattle.std.proofs.Common.{◌≡◌, arith, true, false, sym, refl}
use Rattle.std.specs.Option.{option_copied}
use Rattle.std.proofs.lemmas.Grind.{common_steps}
use Rattle.bq_label.specs.Packages.{label_path, is_in_repository}
use Rattle.bq_label.specs.Workspace.{file_at}
use Rattle.bq_label.proofs.LabelFiles.{no_file_by, file_by}
use Rattle.bq_label.proofs.repository.label_file.Goals as goal

pub returns-in_default : goal.returns-in_default
unfolding is_in_repository
returns-in_default c =
    let path : c.deref.result.now ≡ label_path c.args.label.now = grind (arith, common_steps) in
    let outside : is_in_repository c.args.label.now.repo c.deref.result.now ≡ false = grind (arith, common_steps) in
    no_file_by c.args.workspace.now c.args.label.now _ c.args.label.now.repo false path refl (sym outside) refl

pub returns-then-ne : goal.returns-then-ne
unfolding is_in_repository
returns-then-ne c =
    let path : c.deref.result.now ≡ label_path c.args.label.now = grind (arith, common_steps) in
    let outside : is_in_repository c.args.label.now.repo c.deref.result.now ≡ false = grind (arith, common_steps) in
    no_file_by c.args.workspace.now c.args.label.now _ c.args.label.now.repo false path refl (sym outside) refl

pub returns : goal.returns
unfolding is_in_repository
returns c =
    let path : c.deref.result.now ≡ label_path c.args.label.now = grind (arith, common_steps) in
    let inside : is_in_repository c.args.label.now.repo c.deref.result.now ≡ true = grind (arith, common_steps) in
    let there : option_copied c.file.result ≡ file_at c.args.workspace.now (label_path c.args.label.now) = grind (arith, common_steps) in
    file_by c.args.workspace.now c.args.label.now _ c.args.label.now.repo true _ path refl (sym inside) refl there
