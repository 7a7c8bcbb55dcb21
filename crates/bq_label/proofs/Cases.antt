-- Parts of definitions, as words that proofs name.
use Rattle.std.specs.Prelude.{ℕ, List, Option, Some, None, [], drop, if◌then◌else◌, ◌&&◌, not, bytes_eq, Bool, false, nat_lt, length}
use Rattle.bq_label.specs.Label.{LabelParts, label_at, last_segment, PackageParts, package_at}
use Rattle.bq_label.specs.Reading.{absolute_label, first_is}
use Rattle.bq_label.specs.Paths.{is_repository}
use Rattle.bq_label.specs.declared.packages.BuildFile.{BuildFile}

-- `package:name` or `package`
abbrev pub label_of_parts : List ℕ → List ℕ → Option (List ℕ × List ℕ) → LabelParts
label_of_parts repo text o = elim o [ None ↦ label_at repo text (last_segment text) | Some p ↦ label_at repo p.0 p.1 ]

-- a label behind `@`
abbrev pub label_of_repository : List ℕ → Option (List ℕ × List ℕ) → Option LabelParts
label_of_repository text o = elim o [
  | None ↦ Some (label_at text [] text)
  | Some p ↦
      if first_is 47 p.1 then Some (absolute_label p.0 (drop 1 p.1)) else None
]

-- a package behind `@`: a repository, `//` and a path
abbrev pub package_of_repository : Option (List ℕ × List ℕ) → Option PackageParts
package_of_repository o = elim o [ None ↦ None | Some p ↦ if first_is 47 p.1 then Some (package_at p.0 (drop 1 p.1)) else None ]

-- the repository of a path, if it names one that can be
abbrev pub split_repository_by : Option (List ℕ × List ℕ) → Option (List ℕ × List ℕ)
split_repository_by o = elim o [ None ↦ None | Some p ↦ if not (bytes_eq p.0 []) && is_repository p.0 then Some p else None ]

-- a path was found to be in a repository, at a path there
abbrev pub is_at : List ℕ → List ℕ → Option (List ℕ × List ℕ) → Bool
is_at repo rest o = elim o [ None ↦ false | Some p ↦ bytes_eq p.0 repo && bytes_eq p.1 rest ]

-- of two packages above a path, the nearer one
abbrev pub nearer : BuildFile → Option BuildFile → Option BuildFile
nearer a o = elim o [ None ↦ Some a | Some b ↦ if nat_lt (length a.id.package) (length b.id.package) then Some b else Some a ]
