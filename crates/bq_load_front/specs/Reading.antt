-- What the file of a module is on its own, by functions that read it: they give the only answers of the relations in `Parsed`.
use Rattle.std.specs.Prelude.{ℕ, List, [], ◌∷◌, None, Some, Result, Ok, Err}
use Rattle.bq_base.specs.declared.fault.FaultKind.{FaultKind}
use Rattle.bq_base.specs.declared.fault.Fault.{Fault}
use Rattle.bq_base.specs.declared.fault.FaultKind.TheVariants as f
use Rattle.bq_base.specs.Fault.{fault_as, fault_at, kind_of_name, kind_of_statement, kind_of_token, or_fault_as}
use Rattle.bq_source_lexer.specs.Tokens.{tokens_of}
use Rattle.bq_parse_grammar.specs.Lexeme.{lexemes}
use Rattle.bq_parse_grammar.specs.Parses.{statements_of}
use Rattle.bq_parse_grammar.specs.declared.tree.TopLevel.{TopLevel}
use Rattle.bq_resolve_scope.specs.Universe.{UniverseParts}
use Rattle.bq_resolve_laws.specs.Files.{ParsedFile}
use Rattle.bq_resolve_laws.specs.Violations.{violations}
use Rattle.bq_label.specs.Label.{LabelParts}
use Rattle.bq_label.specs.Packages.{label_file}
use Rattle.bq_load_front.specs.Resolved.{◌>>=◌}
use Rattle.bq_load_front.specs.Inputs.{InputParts, universe_of}
use Rattle.bq_load_front.specs.Parsed.{ParsedFront, kind_of, front_from, loads_in}

-- ---- its text

-- the statements of a text, or its first fault
unfoldable pub trees_of : UniverseParts → List ℕ → Result (List TopLevel) (Fault FaultKind)
trees_of universe text = or_fault_as kind_of_token (tokens_of text) >>= λ ts. or_fault_as kind_of_statement (statements_of universe.kind (lexemes text ts))

-- a file of these statements, unless it breaks a rule of names and flow
abbrev pub file_from : UniverseParts → List TopLevel → Result ParsedFile (Fault FaultKind)
file_from universe ts = elim (violations universe ts) [ [] ↦ Ok (record { universe = universe; statements = ts }) | why ∷ more ↦ Err (fault_as kind_of_name why) ]

-- the file of a text: its tokens, the trees of its statements, and no rule of names and flow that these break
unfoldable pub file_of_text : UniverseParts → List ℕ → Result ParsedFile (Fault FaultKind)
file_of_text universe text = trees_of universe text >>= file_from universe

-- ---- the file of a label

-- what the file of this label is; no module of a workspace lacks its file
unfoldable pub parsed_of : InputParts → LabelParts → Result ParsedFront (Fault FaultKind)
parsed_of inputs l = elim (label_file inputs.files l) [
  | None ↦ Err (fault_at f.NoSuchFile 0)
  | Some x ↦ file_of_text (universe_of inputs (kind_of l)) x.content >>= front_from inputs l
]

-- the labels that a file loads, in source order
abbrev pub loads_of : InputParts → LabelParts → List LabelParts
loads_of inputs l = loads_in (parsed_of inputs l)
