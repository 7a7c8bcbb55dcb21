-- How many bytes the files of a workspace have.
use Rattle.std.proofs.Common.{◌≡◌, ◌≤◌, List, Some, length, arith}
use Rattle.std.proofs.lemmas.List.Sorted.{sum_by-IsPermutation}
use Rattle.bq_base.specs.declared.limits.Limits.{Limits}
use Rattle.bq_base.specs.Limits.{AreBounded}
use Rattle.bq_label.specs.declared.workspace.File.{File}
use Rattle.bq_label.specs.Workspace.{workspace_within}
use Rattle.bq_label.proofs.Workspaces.{workspace_found}
use Rattle.bq_run_device.specs.Walk.{bytes_of}

-- they are moved, and no more than before
pub no_more : (limits : Limits) (files w : List File) → AreBounded limits → workspace_within limits files ≡ Some w → bytes_of files ≤ limits.bundle_bytes → bytes_of w ≤ limits.bundle_bytes
no_more limits files w bounded made few =
    let found = workspace_found limits bounded files w made in
    let same = sum_by-IsPermutation (λ f. length f.content) files w found.moved in
    omega (arith, same, few)
