use Rattle.std.proofs.Common.{◌≡◌, ◌∙◌, ◌++◌, ◌∷◌, [], ℕ, List, true, false, Some, None, length, sym, ap, subst, drop, ◌+◌}
use Rattle.bq_label.specs.declared.workspace.File.{File}
use Rattle.std.specs.List.{filter}
use Rattle.bq_label.specs.Workspace.{paths_of}
use Rattle.bq_label_glob.specs.Names.{directory, is_beneath, is_owned, is_wanted, OwnsNothingBeneath, glob}
use Rattle.bq_label_glob.proofs.Listing.{all_beneath, elsewhere, of_no_pattern, of_another, of_the_package, passes_over, gives, rest_is_none, wanted_is}
use Rattle.bq_label_glob.proofs.Others.{owns_nothing_beneath, owned_by, not_in_other}
use Rattle.bq_label_glob.proofs.names.glob.Goals as goal

pub loop-file-init : goal.loop-file-init
loop-file-init c =
    let found = all_beneath c.args.packages.now c.args.id.now c.args.include.now c.args.exclude.now c.args.workspace.now c.files_beneath-files.result.now
    (c.files_beneath-files.ensures ∙ ap (λ (d : List ℕ). filter (λ (f : File). is_beneath d f.path) c.args.workspace.now) (c.deref.ensures.value ∙ c.in_ok-above.ensures)) in
    (ap (λ (v : List (List ℕ)). v ++ glob (paths_of c.files_beneath-files.result.now) c.args.packages.now c.args.id.now c.args.include.now c.args.exclude.now) c.new-names.ensures.items ∙ found, tt)

pub loop-file-preserved-in_default : goal.loop-file-preserved-in_default
loop-file-preserved-in_default c =
    let f = c.file-item.result in
    let d = c.deref-in-loop-file.result.now in
    let is : d ≡ directory c.args.id.now = c.deref-in-loop-file.ensures.value ∙ c.in_ok-above.ensures in
    let not_beneath : is_beneath d f.path ≡ false = ap (is_beneath d) (sym c.as_slice-path.ensures) ∙ c.in_default.ensures in (
      passes_over c.args.packages.now c.args.id.now c.args.include.now c.args.exclude.now c.files_beneath-files.result.now c.loop-file.file-index f c.loop-file.names.items _ c.loop-file-test.true c.file-item.is
          (elsewhere c.args.packages.now c.args.id.now c.args.include.now c.args.exclude.now d is f.path (paths_of (drop (c.loop-file.file-index + 1) c.files_beneath-files.result.now)) not_beneath) c.loop-file.invariant.0,
      c.loop-file.invariant.1,
    )

pub loop-file-preserved-then-not-is_wanted : goal.loop-file-preserved-then-not-is_wanted
loop-file-preserved-then-not-is_wanted c =
    let f = c.file-item.result in
    let d = c.deref-in-loop-file.result.now in
    let n = c.in-Some.name.now in
    let is : d ≡ directory c.args.id.now = c.deref-in-loop-file.ensures.value ∙ c.in_ok-above.ensures in
    let beneath : is_beneath d f.path ≡ true = ap (is_beneath d) (sym c.as_slice-path.ensures) ∙ c.in-Some.ensures.0 in
    let after : n ≡ drop (length d) f.path = c.in-Some.ensures.1 ∙ ap (drop (length d)) c.as_slice-path.ensures in
    let unwanted : is_wanted c.args.include.now c.args.exclude.now n ≡ false =
    sym (wanted_is c.args.include.now c.args.exclude.now c.in_ok-included.included c.in_ok-excluded.excluded c.in_ok-included.ensures c.in_ok-excluded.ensures n c.is_wanted.result c.is_wanted.ensures) ∙ c.if-not-is_wanted.true in (
      passes_over c.args.packages.now c.args.id.now c.args.include.now c.args.exclude.now c.files_beneath-files.result.now c.loop-file.file-index f c.loop-file.names.items _ c.loop-file-test.true c.file-item.is
          (of_no_pattern c.args.packages.now c.args.id.now c.args.include.now c.args.exclude.now d is f.path (paths_of (drop (c.loop-file.file-index + 1) c.files_beneath-files.result.now)) n beneath after unwanted) c.loop-file.invariant.0,
      c.loop-file.invariant.1,
    )

pub loop-file-preserved-then-is_in_other : goal.loop-file-preserved-then-is_in_other
loop-file-preserved-then-is_in_other c =
    let f = c.file-item.result in
    let another : is_owned c.args.packages.now c.args.id.now f.path ≡ false =
    ap (is_owned c.args.packages.now c.args.id.now) (sym c.as_slice-path.ensures)
    ∙ not_in_other (λ v. v.items) c.args.packages.now c.args.id.now c.loop-file.other c.as_slice-path.result.now c.is_in_other.result c.is_in_other.ensures c.if-is_in_other.true c.loop-file.invariant.1 in (
      passes_over c.args.packages.now c.args.id.now c.args.include.now c.args.exclude.now c.files_beneath-files.result.now c.loop-file.file-index f c.loop-file.names.items _ c.loop-file-test.true c.file-item.is
          (of_another c.args.packages.now c.args.id.now c.args.include.now c.args.exclude.now f.path (paths_of (drop (c.loop-file.file-index + 1) c.files_beneath-files.result.now)) another) c.loop-file.invariant.0,
      c.loop-file.invariant.1,
    )

pub loop-file-preserved-in_default-owner_of : goal.loop-file-preserved-in_default-owner_of
loop-file-preserved-in_default-owner_of c =
    let f = c.file-item.result in
    let another : is_owned c.args.packages.now c.args.id.now f.path ≡ false =
    ap (is_owned c.args.packages.now c.args.id.now) (sym c.as_slice-path.ensures) ∙ owned_by c.args.packages.now c.args.id.now c.as_slice-path.result.now None c.in_default-owner_of.ensures in (
      passes_over c.args.packages.now c.args.id.now c.args.include.now c.args.exclude.now c.files_beneath-files.result.now c.loop-file.file-index f c.loop-file.names.items _ c.loop-file-test.true c.file-item.is
          (of_another c.args.packages.now c.args.id.now c.args.include.now c.args.exclude.now f.path (paths_of (drop (c.loop-file.file-index + 1) c.files_beneath-files.result.now)) another) c.loop-file.invariant.0,
      c.loop-file.invariant.1,
    )

pub loop-file-preserved-then-not-is_package : goal.loop-file-preserved-then-not-is_package
loop-file-preserved-then-not-is_package c =
    let f = c.file-item.result in
    let path = c.as_slice-path.result.now in
    let o = c.in-Some-owner_of.owner in
    let is_here : is_beneath (directory c.args.id.now) path ≡ true = ap (λ (d : List ℕ). is_beneath d path) (sym (c.deref-in-loop-file.ensures.value ∙ c.in_ok-above.ensures)) ∙ c.in-Some.ensures.0 in
    let no : is_owned c.args.packages.now c.args.id.now path ≡ false = owned_by c.args.packages.now c.args.id.now path (Some o.now) c.in-Some-owner_of.ensures ∙ (sym c.is_package.ensures ∙ c.if-not-is_package.true) in
    let another : is_owned c.args.packages.now c.args.id.now f.path ≡ false = ap (is_owned c.args.packages.now c.args.id.now) (sym c.as_slice-path.ensures) ∙ no in (
      passes_over c.args.packages.now c.args.id.now c.args.include.now c.args.exclude.now c.files_beneath-files.result.now c.loop-file.file-index f c.loop-file.names.items _ c.loop-file-test.true c.file-item.is
          (of_another c.args.packages.now c.args.id.now c.args.include.now c.args.exclude.now f.path (paths_of (drop (c.loop-file.file-index + 1) c.files_beneath-files.result.now)) another) c.loop-file.invariant.0,
      subst (λ (d : List ℕ). OwnsNothingBeneath c.args.packages.now c.args.id.now d) (sym c.in_ok-directory.ensures)
          (owns_nothing_beneath c.args.packages.now c.args.id.now path o.now (sym c.in-Some-owner_of.ensures) is_here no),
    )

pub loop-file-preserved : goal.loop-file-preserved
loop-file-preserved c =
    let f = c.file-item.result in
    let d = c.deref-in-loop-file.result.now in
    let n = c.in-Some.name.now in
    let is : d ≡ directory c.args.id.now = c.deref-in-loop-file.ensures.value ∙ c.in_ok-above.ensures in
    let beneath : is_beneath d f.path ≡ true = ap (is_beneath d) (sym c.as_slice-path.ensures) ∙ c.in-Some.ensures.0 in
    let after : n ≡ drop (length d) f.path = c.in-Some.ensures.1 ∙ ap (drop (length d)) c.as_slice-path.ensures in
    let wanted : is_wanted c.args.include.now c.args.exclude.now n ≡ true =
    sym (wanted_is c.args.include.now c.args.exclude.now c.in_ok-included.included c.in_ok-excluded.excluded c.in_ok-included.ensures c.in_ok-excluded.ensures n c.is_wanted.result c.is_wanted.ensures) ∙ c.if-not-is_wanted.false in
    let its_own : is_owned c.args.packages.now c.args.id.now f.path ≡ true = ap (is_owned c.args.packages.now c.args.id.now) (sym c.as_slice-path.ensures) ∙ (owned_by c.args.packages.now c.args.id.now c.as_slice-path.result.now (Some c.in-Some-owner_of.owner.now) c.in-Some-owner_of.ensures ∙ (sym c.is_package.ensures ∙ c.if-not-is_package.false)) in
    let left : List (List ℕ) = glob (paths_of (drop (c.loop-file.file-index + 1) c.files_beneath-files.result.now)) c.args.packages.now c.args.id.now c.args.include.now c.args.exclude.now in (
      ap (λ (v : List (List ℕ)). v ++ left) (c.in_ok-push.ensures.items ∙ ap (λ (b : List ℕ). c.loop-file.names.items ++ b ∷ []) c.in_ok-from_slice.ensures)
          ∙ gives c.args.packages.now c.args.id.now c.args.include.now c.args.exclude.now c.files_beneath-files.result.now c.loop-file.file-index f n c.loop-file.names.items _ c.loop-file-test.true c.file-item.is
          (of_the_package c.args.packages.now c.args.id.now c.args.include.now c.args.exclude.now d is f.path (paths_of (drop (c.loop-file.file-index + 1) c.files_beneath-files.result.now)) n beneath after wanted its_own) c.loop-file.invariant.0,
      c.loop-file.invariant.1,
    )

pub returns : goal.returns
returns c =
    rest_is_none c.args.packages.now c.args.id.now c.args.include.now c.args.exclude.now c.files_beneath-files.result.now c.loop-file.file-index c.loop-file.names.items _ c.loop-file-test.false c.loop-file.invariant.0
