-- The load graph of files.
use Rattle.std.specs.Prelude.{◌≡◌, List, Ok}
use Rattle.bq_label.specs.declared.workspace.File.{File}
use Rattle.bq_package_schema.specs.Schema.{Rules}
use Rattle.bq_load_discover.specs.LoadGraph.{GraphParts, IsNumbered, IsReadGraph, inputs_of}
use Rattle.bq_load_discover.specs.Schema.{schema_in}

-- the load graph is that of these files
pub record IsGraphOf (files : List File) (graph : GraphParts) : Type 0 where
  pub rules : Rules
  pub schema : schema_in files ≡ Ok rules
  pub read : IsReadGraph (inputs_of files rules) graph
  pub numbered : IsNumbered graph
