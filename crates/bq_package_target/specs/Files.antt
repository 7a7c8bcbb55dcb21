-- What is found of files when one label after another is looked at.
use Rattle.std.specs.Prelude.{◌≡◌, ℕ, List, ◌++◌, map}
use Rattle.std.specs.List.{filter}
use Rattle.bq_label.specs.Label.{PackageParts, LabelParts}
use Rattle.bq_package_target.specs.declared.files.Files.{Files}
use Rattle.bq_package_target.specs.Target.{is_of, source}
use Rattle.bq_package_target.specs.Package.{new_files}

-- the files of these labels were found, where their names were not taken, and now they are
pub record Finds (line : ℕ) (ls : List LabelParts) (old new : Files) : Type 0 where
  pub found : new.found ≡ old.found ++ map (λ l. source l line) (new_files old.names ls)
  pub names : new.names ≡ old.names ++ map (λ l. l.name) (new_files old.names ls)

-- those of the labels of the package, none of which a call exports
abbrev pub FindsOwn : PackageParts → List LabelParts → Files → Files → Type 0
FindsOwn own ls old new = Finds 0 (filter (is_of own) ls) old new
