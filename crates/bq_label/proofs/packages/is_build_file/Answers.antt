use Rattle.std.proofs.Common.{◌≡◌, ◌∙◌, ◌++◌, ap, sym, not, true, false, List, ℕ, bytes_eq, codes, arith, rules, tests}
use Rattle.std.proofs.lemmas.Grind.{common_steps}
use Rattle.std.specs.Option.{is_some}
use Rattle.bq_label.specs.Label.{last_segment}
use Rattle.bq_label.specs.Workspace.{file_at}
use Rattle.bq_label.proofs.BuildFiles.{wins_preferred, wins_not, wins_plain, none_is_not_some}
use Rattle.bq_label.proofs.Owners.{copied_some}
use Rattle.bq_label.proofs.packages.is_build_file.Goals as goal

pub returns-then-eq : goal.returns-then-eq
returns-then-eq c =
    let preferred : bytes_eq (last_segment c.args.path.now) (codes "BUILD.bazel") ≡ true = first_of (search (rules, tests), grind (arith, common_steps)) in
    sym (wins_preferred _ _ preferred)

pub returns-then-ne : goal.returns-then-ne
returns-then-ne c =
    let preferred : bytes_eq (last_segment c.args.path.now) (codes "BUILD.bazel") ≡ false = first_of (search (rules, tests), grind (arith, common_steps)) in
    let plain : bytes_eq (last_segment c.args.path.now) (codes "BUILD") ≡ false = first_of (search (rules, tests), grind (arith, common_steps)) in
    sym (wins_not _ _ preferred plain)

pub returns : goal.returns
returns c =
    let preferred : bytes_eq (last_segment c.args.path.now) (codes "BUILD.bazel") ≡ false = first_of (search (rules, tests), grind (arith, common_steps)) in
    let plain : bytes_eq (last_segment c.args.path.now) (codes "BUILD") ≡ true = first_of (search (rules, tests), grind (arith, common_steps)) in
    let beside : c.deref.result.now ≡ c.args.path.now ++ codes ".bazel" = first_of (search (rules, tests), grind (arith, common_steps)) in
    none_is_not_some c.is_none.result (is_some c.file.result) c.is_none.ensures
    ∙ (ap not (sym (copied_some c.file.result) ∙ (ap is_some c.file.ensures ∙ ap (λ (t : List ℕ). is_some (file_at c.args.workspace.now t)) beside))
    ∙ sym (wins_plain c.args.workspace.now c.args.path.now preferred plain))
