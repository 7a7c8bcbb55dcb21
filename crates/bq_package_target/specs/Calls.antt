-- What the calls of a BUILD file do to its package (Bazel, Build Encyclopedia, "Functions"): a call that is refused leaves it as it was.
use Rattle.std.specs.Prelude.{ℕ, List, ◌++◌, if◌then◌else◌}
use Rattle.std.specs.List.{list_any}
use Rattle.bq_label.specs.Label.{LabelParts}
use Rattle.bq_package_target.specs.declared.target.Target.{Target}
use Rattle.bq_package_target.specs.declared.state.Declared.{Declared}
use Rattle.bq_package_target.specs.declared.state.Declared.TheVariants.{Accepted, Refused}
use Rattle.bq_package_target.specs.Target.{names_of, declares}
use Rattle.bq_package_target.specs.Names.{are_new}
use Rattle.bq_package_target.specs.Package.{PackageTargets, is_taken, files}

-- a call of a rule or of `package_group`: F74 where one of the names that it declares is taken, or is there twice
unfoldable pub declared : PackageTargets → Target → Declared
declared p t = if are_new (names_of p.targets) (names_of (declares t)) then Accepted (record p { targets = p.targets ++ declares t }) else Refused p

-- a call of `exports_files`: F74 where a rule, an output or a group has one of the names; a file may be exported again
unfoldable pub exported : PackageTargets → List LabelParts → ℕ → Declared
exported p ls line = if list_any (is_taken p.targets) ls then Refused p else Accepted (record p { targets = p.targets ++ files line p.targets ls })
