use Rattle.std.proofs.Common.{◌∙◌, ap, sym, subst, arith, rules, Bool, List}
use Rattle.std.specs.List.Sorted.{IsSorted, IsStrictlySortedBy}
use Rattle.std.specs.Ordering.{is_lt}
use Rattle.std.proofs.lemmas.List.Sorted.{ranks_by, answers_always}
use Rattle.std.proofs.lemmas.Cmp.{nat_list_cmp_total}
use Rattle.bq_label.specs.declared.workspace.File.{File}
use Rattle.bq_label.specs.Workspace.{path_cmp, paths_of, are_paths}
use Rattle.bq_label.proofs.Workspaces.{too_many, no_workspace, workspace_is, is_workspace}
use Rattle.bq_label.proofs.workspace.Workspace.within.Goals as goal

pub returns-then-len-limits : goal.returns-then-len-limits
returns-then-len-limits c = too_many _ _ (omega arith)

pub are_valid-requires : goal.are_valid-requires
are_valid-requires c =
    let below : File → File → Bool = λ f g. is_lt (path_cmp f g) in
    subst (λ (fs : List File). IsSorted path_cmp fs) (sym c.deref.ensures.value)
    (c.sort_unstable_by.ensures.sorted below (ranks_by nat_list_cmp_total (λ (f : File). f.path)) (answers_always _ _ _ (λ f a r q k. search rules)))

pub returns-then-not-are_valid : goal.returns-then-not-are_valid
returns-then-not-are_valid c =
    no_workspace c.args.limits c.args.files.items c.sort_unstable_by.new.self.items (omega arith) c.sort_unstable_by.ensures.permutation
    (ap (λ (fs : List File). are_paths (paths_of fs)) (sym c.deref.ensures.value) ∙ sym c.if-not-are_valid.ensures.valid)

pub invariant_of-result : goal.invariant_of-result
invariant_of-result c =
    is_workspace c.args.limits c.args.files.items c.sort_unstable_by.new.self.items (omega arith) c.requires c.sort_unstable_by.ensures.permutation
    (subst (λ (fs : List File). IsStrictlySortedBy path_cmp fs) c.deref.ensures.value c.if-not-are_valid.ensures.strict)
    (ap (λ (fs : List File). are_paths (paths_of fs)) (sym c.deref.ensures.value) ∙ sym c.if-not-are_valid.ensures.valid)

pub returns : goal.returns
returns c =
    workspace_is c.args.limits c.args.files.items c.sort_unstable_by.new.self.items (omega arith) c.sort_unstable_by.ensures.permutation
    (subst (λ (fs : List File). IsStrictlySortedBy path_cmp fs) c.deref.ensures.value c.if-not-are_valid.ensures.strict)
    (ap (λ (fs : List File). are_paths (paths_of fs)) (sym c.deref.ensures.value) ∙ sym c.if-not-are_valid.ensures.valid)
