-- The line of a target, from what is read of the graph.
use Rattle.std.proofs.Common.{◌≡◌, ◌∙◌, ◌<◌, ℕ, List, Some, length, get_or, sym, ap}
use Rattle.std.specs.List.{All}
use Rattle.std.proofs.lemmas.Option.{slice_get-get_or}
use Rattle.bq_label.specs.declared.packages.BuildFile.{BuildFile}
use Rattle.bq_label.specs.Label.{LabelParts}
use Rattle.bq_package_target.specs.declared.target.Target.{Target}
use Rattle.bq_query_graph.specs.Paths.{row}
use Rattle.bq_query_target_graph.specs.Graph.{GraphParts}
use Rattle.bq_facts.specs.Deps.{AreDirect}
use Rattle.bq_facts.specs.Labels.{labels_at}
use Rattle.bq_facts.specs.TargetLine.{file_of, target_line}
use Rattle.bq_run_facts.specs.Lines.{direct, line_at, line_by}
use Rattle.bq_run_facts.proofs.Direct.{direct_is}

module _ (packages : List BuildFile) (w : GraphParts) (x : ℕ) (t : Target) (inside : x < length w.targets) (is : t ≡ get_or w.targets x t) where
  line_of : (ds : List ℕ) → ds ≡ direct w x → target_line t (file_of packages t) (labels_at w.targets ds) ≡ line_at packages w x
  unfolding line_at
  line_of ds e =
      ap (λ (numbers : List ℕ). target_line t (file_of packages t) (labels_at w.targets numbers)) e
      ∙ ap (line_by packages w x) (sym (slice_get-get_or w.targets x t inside ∙ ap Some (sym is)))

  pub line_is : (ds : List ℕ) (labels : List LabelParts) (path : List ℕ) → AreDirect (row w.edges x) x ds → All (λ y. y < length w.targets) (row w.edges x)
      → labels ≡ labels_at w.targets ds → path ≡ file_of packages t → target_line t path labels ≡ line_at packages w x
  line_is ds labels path are below e1 e2 =
      ap (λ (f : List ℕ). target_line t f labels) e2 ∙ ap (λ (ls : List LabelParts). target_line t (file_of packages t) ls) e1 ∙ line_of ds (direct_is w x ds are below)
