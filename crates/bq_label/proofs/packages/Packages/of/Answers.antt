use Rattle.std.proofs.Common.{◌≡◌, ◌∙◌, ap, sym, subst, arith, rules, Bool, List}
use Rattle.std.specs.List.Sorted.{IsPermutation}
use Rattle.std.specs.Ordering.{is_lt}
use Rattle.std.proofs.lemmas.Grind.{common_steps}
use Rattle.std.proofs.lemmas.List.Sorted.{ranks_by, answers_always}
use Rattle.bq_label.specs.declared.workspace.File.{File}
use Rattle.bq_label.specs.declared.packages.BuildFile.{BuildFile}
use Rattle.bq_label.specs.Paths.{is_path}
use Rattle.bq_label.specs.Workspace.{paths_of, IsWorkspace}
use Rattle.bq_label.specs.Packages.{build_files, package_cmp, package_of_file}
use Rattle.bq_label.proofs.BuildFiles.{by_id, one_more, none_more, packages_ascend, packages_are, valid_path}
use Rattle.bq_label.proofs.packages.Packages.of.Goals as goal

pub package_of_file-requires : goal.package_of_file-requires
package_of_file-requires c =
    let w : IsWorkspace c.files-files.result.now = subst IsWorkspace (sym c.files-files.ensures.value) c.files-files.ensures.valid in
    ap (λ (f : File). is_path f.path) c.file-item.is ∙ valid_path c.files-files.result.now c.loop-file.file-index c.file-item.result w c.loop-file-test.true

pub loop-file-preserved-in_default : goal.loop-file-preserved-in_default
loop-file-preserved-in_default c =
    none_more (paths_of c.args.workspace.now) c.files-files.result.now c.loop-file.file-index c.file-item.result c.loop-file.found.items c.loop-file-test.true c.loop-file.invariant
    (sym c.in_default.is ∙ (c.in_ok-package.ensures ∙ ap (λ (f : File). package_of_file (paths_of c.args.workspace.now) f.path) c.file-item.is))

pub loop-file-preserved : goal.loop-file-preserved
loop-file-preserved c =
    c.in_ok-push.ensures.items
    ∙ one_more (paths_of c.args.workspace.now) c.files-files.result.now c.loop-file.file-index c.file-item.result c.loop-file.found.items c.loop-file-test.true c.loop-file.invariant _
    (sym c.in-Some.is ∙ (c.in_ok-package.ensures ∙ ap (λ (f : File). package_of_file (paths_of c.args.workspace.now) f.path) c.file-item.is))

pub invariant_of-result : goal.invariant_of-result
invariant_of-result c =
    let valid : IsWorkspace c.args.workspace.now = c.files-files.ensures.valid in
    let built : c.loop-file.found.items ≡ build_files (paths_of c.args.workspace.now) (paths_of c.args.workspace.now) = first_of (search rules, grind (arith, common_steps)) in
    let moved : IsPermutation (build_files (paths_of c.args.workspace.now) (paths_of c.args.workspace.now)) c.sort_unstable_by.new.self.items =
    subst (λ (bs : List BuildFile). IsPermutation bs c.sort_unstable_by.new.self.items) built c.sort_unstable_by.ensures.permutation in
    let below : BuildFile → BuildFile → Bool = λ a b. is_lt (package_cmp a b) in
    packages_ascend c.args.workspace.now c.sort_unstable_by.new.self.items valid moved
    (c.sort_unstable_by.ensures.sorted below (ranks_by by_id (λ (b : BuildFile). b.id)) (answers_always _ _ _ (λ f a r q k. search rules)))

pub returns : goal.returns
returns c =
    let valid : IsWorkspace c.args.workspace.now = c.files-files.ensures.valid in
    let built : c.loop-file.found.items ≡ build_files (paths_of c.args.workspace.now) (paths_of c.args.workspace.now) = first_of (search rules, grind (arith, common_steps)) in
    let moved : IsPermutation (build_files (paths_of c.args.workspace.now) (paths_of c.args.workspace.now)) c.sort_unstable_by.new.self.items =
    subst (λ (bs : List BuildFile). IsPermutation bs c.sort_unstable_by.new.self.items) built c.sort_unstable_by.ensures.permutation in
    let below : BuildFile → BuildFile → Bool = λ a b. is_lt (package_cmp a b) in
    packages_are c.args.workspace.now c.sort_unstable_by.new.self.items valid moved
    (c.sort_unstable_by.ensures.sorted below (ranks_by by_id (λ (b : BuildFile). b.id)) (answers_always _ _ _ (λ f a r q k. search rules)))
