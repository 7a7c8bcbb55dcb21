-- A text is read as a workspace exactly if it holds it.
use Rattle.std.proofs.Common.{◌≡◌, ◌∙◌, ◌≤◌, ℕ, List, Bool, true, false, Option, None, Some, length, nat_le, option_and_then, refl, sym, ap, arith}
use Rattle.std.specs.Prelude.{if◌then◌else◌}
use Rattle.std.proofs.lemmas.Bool.Decides.{nat_tests}
use Rattle.bq_base.specs.declared.limits.Limits.{Limits}
use Rattle.bq_label.specs.Workspace.{workspace_within}
use Rattle.bq_label.specs.declared.workspace.File.{File}
use Rattle.bq_run.specs.Bundle.{bundle_within, files_of}
use Rattle.bq_run.specs.Written.{IsBundleWithin, IsWritten}
use Rattle.bq_run.proofs.Reading.{written_of_read}
use Rattle.bq_run.proofs.Writing.{files_of_written}

module _ (limits : Limits) (text : List ℕ) (files : List File) where
  abbrev by_size : Bool → Option (List File)
  by_size small = if small then option_and_then (workspace_within limits) (files_of text) else None

  by_files : (all : Option (List File)) → files_of text ≡ all → option_and_then (workspace_within limits) all ≡ Some files → (written : List File) × IsWritten text written × (workspace_within limits written ≡ Some files)
  by_files None e h = let no : None ≡ Some files = h in absurd (cc)
  by_files (Some written) e h = (written, written_of_read text written e, h)

  by_test : (small : Bool) → nat_le (length text) limits.bundle_bytes ≡ small → by_size small ≡ Some files → IsBundleWithin limits text files
  by_test true e h =
      let small : length text ≤ limits.bundle_bytes = grind (arith, nat_tests, e) in
      let found = by_files (files_of text) refl h in
      (small, found.0, found.1, found.2)
  by_test false e h = let no : None ≡ Some files = h in absurd (cc)

  pub holds : bundle_within limits text ≡ Some files → IsBundleWithin limits text files
  unfolding bundle_within
  holds e = by_test (nat_le (length text) limits.bundle_bytes) refl e

  pub is_read : IsBundleWithin limits text files → bundle_within limits text ≡ Some files
  unfolding bundle_within
  is_read h =
      let small : nat_le (length text) limits.bundle_bytes ≡ true = grind (arith, nat_tests, h.0) in
      ap by_size small ∙ ap (option_and_then (workspace_within limits)) (files_of_written text h.1 h.2) ∙ h.3

pub holds_none : (limits : Limits) (text : List ℕ) → bundle_within limits text ≡ None → (files : List File) → ¬ IsBundleWithin limits text files
holds_none limits text none files is = let no : None ≡ Some files = sym none ∙ is_read limits text files is in cc
