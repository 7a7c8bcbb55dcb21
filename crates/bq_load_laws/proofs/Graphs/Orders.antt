-- A load is refused in its order.
use Rattle.std.proofs.Common.{◌≡◌, ◌∙◌, ap, refl, ℕ, inl, inr, List, [], ◌∷◌, Option, Some, None}
use Rattle.std.specs.Prelude.{not, is_some}
use Rattle.bq_base.specs.declared.fault.LoadFault.{LoadFault}
use Rattle.bq_base.specs.declared.fault.LoadFault.TheVariants.{BadLoadLabel}
use Rattle.bq_base.proofs.Choices.{by_bool}
use Rattle.bq_label.specs.declared.workspace.File.{File}
use Rattle.bq_label.specs.declared.packages.BuildFile.{BuildFile}
use Rattle.bq_label.specs.Label.{LabelParts, PackageParts, package_of}
use Rattle.bq_label.specs.Packages.{package_named, label_file}
use Rattle.bq_load_front.specs.Crossing.{crosses}
use Rattle.bq_load_front.specs.NamedFile.{bzl_label, fault_of_file, unless_fault, file_named, load_label}
use Rattle.bq_builtin_machine.specs.Refusals.{when, first_fault}
use Rattle.bq_load_laws.specs.Graphs.Orders.{finding, finding_any, loading, fault_of_load}

module _ (files : List File) (packages : List BuildFile) where
  found_in_order : (l : LabelParts) → fault_of_file files packages l ≡ first_fault (finding files packages l)
  unfolding fault_of_file
  found_in_order l = elim (by_bool (is_some (package_named packages (package_of l)))) [
    | inr t ↦ rw t refl
    | inl t ↦ elim (by_bool (crosses packages l)) [
      | inl u ↦ rw (t, u) refl
      | inr u ↦ elim (by_bool (is_some (label_file files l))) [
        | inl v ↦ rw (t, u, v) refl
        | inr v ↦ rw (t, u, v) refl
      ]
    ]
  ]

  by_fault : (line : ℕ) (l : LabelParts) (o : Option LoadFault) → fault_of_load (unless_fault line l o) ≡ first_fault (o ∷ [])
  by_fault line l None = refl
  by_fault line l (Some kind) = refl

  by_label : (line : ℕ) (o : Option LabelParts) → fault_of_load (file_named files packages line o) ≡ first_fault (when (not (is_some o)) BadLoadLabel ∷ finding_any files packages o ∷ [])
  by_label line None = refl
  by_label line (Some l) = by_fault line l (fault_of_file files packages l) ∙ ap (λ c. first_fault (c ∷ [])) (found_in_order l)

  pub loaded_in_order : (own : PackageParts) (line : ℕ) (text : List ℕ) → fault_of_load (load_label files packages own line text) ≡ first_fault (loading files packages own text)
  unfolding load_label
  loaded_in_order own line text = by_label line (bzl_label own text)
