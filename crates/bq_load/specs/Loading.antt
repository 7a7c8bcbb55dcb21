-- What decides the outcomes of modules.
use Rattle.std.specs.Prelude.{ℕ, List}
use Rattle.bq_label.specs.declared.workspace.File.{File}
use Rattle.bq_label.specs.declared.packages.BuildFile.{BuildFile}
use Rattle.bq_label.specs.Packages.{packages_of}
use Rattle.bq_label.specs.Workspace.{paths_of}
use Rattle.bq_resolve_scope.specs.Names.{Name}
use Rattle.bq_package_schema.specs.Schema.{Rules}
use Rattle.bq_load_discover.specs.declared.modules.Module.{Module}
use Rattle.bq_load_discover.specs.LoadGraph.{GraphParts}
use Rattle.bq_load.specs.declared.loading.Loading.{Loading}

-- The modules by their numbers; the paths of the workspace, and its packages; the rules of its schema, and their names, each once; and how
-- many steps each evaluation may take. What files contain counts in what is read of the modules alone.
pub record LoadingParts : Type 0 where
  pub modules : List Module
  pub paths : List (List ℕ)
  pub packages : List BuildFile
  pub rules : Rules
  pub names : List Name
  pub limit : ℕ

-- what decides the outcomes, as contracts see it: of the files of the workspace the paths alone
abbrev pub loading_of : Loading → LoadingParts
loading_of l = record { modules = l.modules.now; paths = paths_of l.workspace.now; packages = l.packages.now; rules = l.schema.now; names = l.built_ins; limit = l.limit }

-- what the files of a workspace, its schema and its load graph decide
abbrev pub loading_in : List File → Rules → ℕ → GraphParts → LoadingParts
loading_in files rules limit g =
    record { modules = g.modules; paths = paths_of files; packages = packages_of files; rules = rules; names = rules.names; limit = limit }
