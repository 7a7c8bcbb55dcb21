-- What is said of files by names and of what they resolve to.
use Rattle.std.specs.Prelude.{◌≡◌, ◌↔◌, List, [], map, Some, Ok, Err}
use Rattle.bq_base.specs.declared.fault.NameFault.{NameFault}
use Rattle.bq_base.specs.declared.fault.Fault.{Fault}
use Rattle.bq_parse_grammar.specs.declared.tree.TopLevel.{TopLevel}
use Rattle.bq_resolve_scope.specs.Files.{resolved}
use Rattle.bq_resolve_scope.specs.Names.{global_names}
use Rattle.bq_resolve_scope.specs.Universe.{UniverseParts}
use Rattle.bq_resolve_scope.specs.declared.file.ResolvedFile.{ResolvedFile}
use Rattle.bq_resolve_laws.specs.Files.{ParsedFile, ResolvesTo}
use Rattle.bq_resolve_laws.specs.Loads.{written_load, file_loads}
use Rattle.bq_resolve_laws.specs.Violations.{first, violations}

-- The fault of a file is the first rule that it breaks; it names the token at which that is broken ..
abbrev pub FaultsAreFirstViolations : Type 0
FaultsAreFirstViolations = (universe : UniverseParts) (ts : List TopLevel) (why : Fault NameFault) → (resolved universe ts ≡ Err why) ↔ (first (violations universe ts) ≡ Some why)

-- .. and a file resolves exactly where it breaks none.
abbrev pub FilesWithoutViolationsResolve : Type 0
FilesWithoutViolationsResolve = (universe : UniverseParts) (ts : List TopLevel) → ((r : ResolvedFile) × (resolved universe ts ≡ Ok r)) ↔ (violations universe ts ≡ [])

-- what a file resolves to has the loads of the file ..
abbrev pub LoadsAreKept : Type 0
LoadsAreKept = (file : ParsedFile) (resolved_file : ResolvedFile) → ResolvesTo file resolved_file → map written_load resolved_file.loads ≡ file_loads file.statements

-- .. and its globals
abbrev pub GlobalsAreKept : Type 0
GlobalsAreKept = (file : ParsedFile) (resolved_file : ResolvedFile) → ResolvesTo file resolved_file → resolved_file.globals ≡ global_names file.statements
