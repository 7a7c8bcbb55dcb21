-- The modules of a load graph are read as what their files are.
use Rattle.std.proofs.Common.{List, [], ◌∷◌, map, Result, Ok, Err, refl, sym, subst}
use Rattle.bq_base.specs.declared.fault.FaultKind.{FaultKind}
use Rattle.bq_base.specs.declared.fault.Fault.{Fault}
use Rattle.bq_parse_grammar.specs.declared.tree.FileKind.{FileKind}
use Rattle.bq_parse_grammar.specs.declared.tree.FileKind.TheVariants as kinds
use Rattle.bq_label.specs.Label.{LabelParts}
use Rattle.bq_resolve_laws.specs.Files.{ResolvesTo}
use Rattle.bq_resolve_laws.specs.Resolution.{Maybe}
use Rattle.bq_load_front.specs.Agreement.{IsFrontOf}
use Rattle.bq_load_front.specs.Inputs.{InputParts}
use Rattle.bq_load_front.specs.Parsed.{ParsedFront, kind_of}
use Rattle.bq_load_front.specs.Reading.{parsed_of}
use Rattle.bq_load_front.specs.declared.front.Front.{Front}
use Rattle.bq_load_front.proofs.ByName.{fronts_agree}
use Rattle.bq_load_discover.specs.LoadGraph.{inputs_of}
use Rattle.bq_load_discover.specs.Module.{module_of}
use Rattle.bq_load_discover.specs.declared.modules.Module.{Module}
use Rattle.bq_load.specs.ResolvedFiles.{front_file, resolved_files}
use Rattle.bq_load.specs.ResolvedFiles as slots
use Rattle.bq_eval_by_name.specs.EvaluationAgreement.{AllResolveTo}
use Rattle.bq_load_by_name.specs.Agreement.{AreReadAs, ModulesAreRead}
use Rattle.bq_load_by_name.specs.Parsed.{ParsedModule, loaded_file, parsed_files, parsed_module}
use Rattle.bq_load_by_name.proofs.Cases.{file_by, file_by_kind}

all_read : (inputs : InputParts) (ls : List LabelParts) → AreReadAs (map (parsed_module (parsed_of inputs)) ls) (map (module_of inputs) ls)
all_read inputs [] = tt
all_read inputs (l ∷ ls) = ((refl, fronts_agree inputs l), all_read inputs ls)

pub modules_are_read : ModulesAreRead
modules_are_read files rules g is =
    let inputs = inputs_of files rules in
    subst (λ (ms : List Module). AreReadAs (map (parsed_module (parsed_of inputs)) g.labels) ms) (sym is.read) (all_read inputs g.labels)

-- ---- so they are resolved as their files are

file_same : (x : Result ParsedFront (Fault FaultKind)) (r : Result Front (Fault FaultKind)) → IsFrontOf x r → Maybe ResolvesTo (file_by x) (front_file r)
file_same (Ok x) (Ok front) h = h.0
file_same (Ok x) (Err told) h = absurd h
file_same (Err why) (Ok front) h = absurd h
file_same (Err why) (Err told) h = tt

kind_same : (kind : FileKind) (x : Result ParsedFront (Fault FaultKind)) (r : Result Front (Fault FaultKind)) → IsFrontOf x r → Maybe ResolvesTo (file_by_kind kind x) (slots.file_by_kind kind r)
kind_same kinds.Bzl x r h = file_same x r h
kind_same kinds.Build x r h = tt

pub files_read : (ss : List ParsedModule) (ms : List Module) → AreReadAs ss ms → AllResolveTo (parsed_files ss) (resolved_files ms)
files_read [] [] h = tt
files_read [] (m ∷ ms) h = absurd h
files_read (s ∷ ss) [] h = absurd h
files_read (s ∷ ss) (m ∷ ms) h =
    let one = kind_same (kind_of s.label) s.front m.front h.0.1 in
    (subst (λ (l : LabelParts). Maybe ResolvesTo (loaded_file s) (slots.file_by_kind (kind_of l) m.front)) (sym h.0.0) one, files_read ss ms h.1)
