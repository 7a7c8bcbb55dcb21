-- Which files make a workspace, and how long a bundle may be.
use Rattle.std.proofs.Common.{ℕ, List, refl}
use Rattle.bq_label.specs.Paths.{is_path}
use Rattle.bq_label.specs.Workspace.{are_apart, are_distinct, are_paths, is_above}
use Rattle.bq_label.specs.declared.workspace.File.{File}
use Rattle.bq_run_laws.specs.Workspaces.{PathsAreApart, GibibyteAtMost}

pub paths_are_apart : PathsAreApart
unfolding is_path is_above are_apart are_distinct are_paths
paths_are_apart = record { beside = refl; twice = refl; directory = refl; above = refl; dots = refl; up = refl; here = refl; empty = refl }

pub gibibyte_at_most : (text : List ℕ) (files : List File) → GibibyteAtMost text files
gibibyte_at_most text files = record {
  short = λ written is e few. (few, written, is, e);
  long = λ is. is.0;
}
