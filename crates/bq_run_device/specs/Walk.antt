-- How much a walk keeps.
use Rattle.std.specs.Prelude.{◌≡◌, ◌+◌, ◌≤◌, ℕ, List, length}
use Rattle.std.specs.List.{sum_by}
use Rattle.bq_label.specs.declared.workspace.File.{File}
use Rattle.bq_run_device.specs.declared.walk.DirectoryWalk.{DirectoryWalk}

-- how many bytes files have
abbrev pub bytes_of : List File → ℕ
bytes_of files = sum_by (λ f. length f.content) files

-- the files so far, and the bytes that may still be read, are no more than a workspace may have
abbrev pub KeepsLimit : DirectoryWalk → Type 0
KeepsLimit w = bytes_of w.files.items + w.bytes_left ≤ w.limits.bundle_bytes

-- the walk goes on by the same limits, and keeps them
pub record GoesOn (old new : DirectoryWalk) : Type 0 where
  pub limits : new.limits ≡ old.limits
  pub keeps : KeepsLimit old → KeepsLimit new
