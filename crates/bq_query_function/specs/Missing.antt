-- What a pattern names that is not there (Q5, Q6), with what is printed of it: a label or a pattern in full.
use Rattle.std.specs.Prelude.{ℕ, ◌++◌, Bool, List, [], ◌∷◌, Option, Some, None, is_some, codes, if◌then◌else◌}
use Rattle.std.specs.List.{find}
use Rattle.std.specs.Option.{option_or}
use Rattle.bq_label.specs.Label.{PackageParts, LabelParts, package_of, full_form}
use Rattle.bq_query_lex.specs.declared.query_error.QueryErr.{QueryErr}
use Rattle.bq_query_lex.specs.declared.query_error.QueryErr.TheVariants as e
use Rattle.bq_query_lex.specs.declared.pattern.TargetPattern.{TargetPattern}
use Rattle.bq_query_lex.specs.declared.pattern.TargetPattern.TheVariants as pattern
use Rattle.bq_package_target.specs.declared.target.Target.{Target}
use Rattle.bq_query_function.specs.Words.{package_text, has_label, is_package}

-- there is a package
abbrev pub has_package : List PackageParts → PackageParts → Bool
has_package packages p = is_some (find (is_package p) packages)

-- a label that names nothing: its package, or the target in it, is missing
abbrev pub missing_label : List PackageParts → List Target → LabelParts → Option QueryErr
missing_label packages targets l =
    if has_package packages (package_of l) then (if is_some (find (has_label l) targets) then None else Some (e.NoSuchTarget (full_form l)))
    else Some (e.NoSuchPackage (full_form l))

-- a package that isn't there, as its pattern is written
abbrev pub missing_package : List PackageParts → List ℕ → PackageParts → Option QueryErr
missing_package packages ending p = if has_package packages p then None else Some (e.NoSuchPackage (package_text p ++ ending))

-- what is missing of a pattern; where it has `/...`, nothing is
abbrev pub missing : List PackageParts → List Target → TargetPattern → Option QueryErr
missing packages targets (pattern.Target l) = missing_label packages targets l
missing packages targets (pattern.Rules p) = missing_package packages (codes ":all") p
missing packages targets (pattern.All p) = missing_package packages (codes ":*") p
missing packages targets (pattern.RulesBeneath p) = None
missing packages targets (pattern.AllBeneath p) = None

-- the first of these patterns that names what is not there
abbrev pub first_missing : List PackageParts → List Target → List TargetPattern → Option QueryErr
first_missing packages targets [] = None
first_missing packages targets (p ∷ ps) = option_or (missing packages targets p) (first_missing packages targets ps)
