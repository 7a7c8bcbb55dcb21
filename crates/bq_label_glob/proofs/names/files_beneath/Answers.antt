use Rattle.std.proofs.Common.{◌≡◌, ◌-◌, List, take, drop, length, rules}
use Rattle.std.proofs.lemmas.Fn.{always_returns_same}
use Rattle.bq_label.specs.declared.workspace.File.{File}
use Rattle.bq_label_glob.specs.Names.{is_beneath}
use Rattle.bq_label_glob.proofs.Beneath.{beneath_first, beneath_are, whole_rest}
use Rattle.bq_label_glob.proofs.names.files_beneath.Goals as goal

pub returns : goal.returns
returns c =
    let above = c.args.above.now in
    let files : List File = c.args.workspace.now in
    let at = c.files_before.result in
    let rest : List File = take (length c.files.result.now - at) (drop at c.files.result.now) in
    let left : rest ≡ drop at files = whole_rest at c.files.result.now files c.files.ensures.value in
    let first = beneath_first above files rest at c.files.ensures.valid.ascending c.files_before.ensures.bound left c.files_before.ensures.before.1 in
    beneath_are above files rest at c.partition_point-len.result left c.files_before.ensures.before.0
    (c.partition_point-len.ensures.partitioned (λ f. is_beneath above f.path) (always_returns_same _ _ _ (λ a r q k. search rules)) first)
