-- What is read of a module of a load graph, by its label.
use Rattle.std.proofs.Common.{◌≡◌, ◌∙◌, ℕ, List, map, Option, Some, slice_get, option_map, ap}
use Rattle.std.proofs.lemmas.Option.{slice_get-map}
use Rattle.bq_parse_grammar.specs.declared.tree.FileKind.{FileKind}
use Rattle.bq_parse_grammar.specs.declared.tree.FileKind.TheVariants as kinds
use Rattle.bq_label.specs.Label.{LabelParts}
use Rattle.bq_load_front.specs.Front.{front_of}
use Rattle.bq_load_front.specs.Parsed.{kind_of}
use Rattle.bq_load_front.specs.Inputs.{InputParts}
use Rattle.bq_load_discover.specs.declared.modules.Module.{Module}
use Rattle.bq_load_discover.specs.Module.{module_of}
use Rattle.bq_load.specs.ResolvedFiles.{front_file, file_by_kind, loaded_file, resolved_files}
use Rattle.bq_load.specs.Loading.{LoadingParts}

module _ (inputs : InputParts) (x : LoadingParts) (labels : List LabelParts) (read : x.modules ≡ map (module_of inputs) labels) where
  pub module_by_label : (m : ℕ) → slice_get x.modules m ≡ option_map (module_of inputs) (slice_get labels m)
  module_by_label m = ap (λ (z : List Module). slice_get z m) read ∙ slice_get-map (module_of inputs) labels m

  pub module_at : (m : ℕ) (l : LabelParts) → slice_get labels m ≡ Some l → slice_get x.modules m ≡ Some (module_of inputs l)
  module_at m l at = module_by_label m ∙ ap (option_map (module_of inputs)) at

  pub file_at : (m : ℕ) (l : LabelParts) → slice_get labels m ≡ Some l → kind_of l ≡ kinds.Bzl → slice_get (resolved_files x.modules) m ≡ Some (front_file (front_of inputs l))
  file_at m l at bzl =
      slice_get-map (λ (z : Module). loaded_file z) x.modules m ∙ (ap (option_map (λ (z : Module). loaded_file z)) (module_at m l at) ∙ ap (λ (kind : FileKind). Some (file_by_kind kind (front_of inputs l))) bzl)
