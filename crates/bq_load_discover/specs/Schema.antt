-- The schema of a workspace: that of the file `rules.schema` at the root, or the standard one (ours).
use Rattle.std.specs.Prelude.{ℕ, List, None, Some, Result, Ok, Err, codes}
use Rattle.bq_base.specs.declared.fault.FaultKind.{FaultKind}
use Rattle.bq_base.specs.declared.fault.Fault.{Fault}
use Rattle.bq_label.specs.declared.workspace.File.{File}
use Rattle.bq_label.specs.Workspace.{file_at}
use Rattle.bq_package_schema.specs.Schema.{Rules}
use Rattle.bq_package_schema.specs.Reading.{schema_of}
use Rattle.bq_package_schema.specs.Standard.{standard_rules}

-- what the file of the schema declares, or its fault; the standard rules, where there is no such file
unfoldable pub declared_in : List File → Result Rules (Fault FaultKind)
declared_in files = elim (file_at files (codes "rules.schema")) [ Some f ↦ schema_of f.content | None ↦ Ok standard_rules ]

-- the rules of the schema, or the number of its first bad line
unfoldable pub schema_in : List File → Result Rules ℕ
schema_in files = elim (declared_in files) [ Ok rules ↦ Ok rules | Err why ↦ Err why.line ]
