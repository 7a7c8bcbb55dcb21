-- The functions that a host carries out (Bazel, Build Encyclopedia, "Functions").
use Rattle.std.specs.Prelude.{ℕ, List, Option, Some, None, codes}
use Rattle.bq_predeclared.specs.declared.host_function.HostFunction.{HostFunction}
use Rattle.bq_predeclared.specs.declared.host_function.HostFunction.TheVariants as h

-- the name of a build function; none for a rule, whose name is the schema's
abbrev pub host_function_name : HostFunction → Option (List ℕ)
host_function_name h.Glob = Some (codes "glob")
host_function_name h.PackageName = Some (codes "package_name")
host_function_name h.Package = Some (codes "package")
host_function_name h.Licenses = Some (codes "licenses")
host_function_name h.ExportsFiles = Some (codes "exports_files")
host_function_name h.PackageGroup = Some (codes "package_group")
host_function_name (h.Rule place) = None
