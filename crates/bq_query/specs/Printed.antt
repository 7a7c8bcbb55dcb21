-- The text of an answer: a target a line (Bazel query reference, "--output").
use Rattle.std.specs.Prelude.{ℕ, ◌++◌, List, slice_get, codes}
use Rattle.std.specs.List.{filter_map, flat_map}
use Rattle.bq_package_target.specs.declared.target.Target.{Target}
use Rattle.bq_query_function.specs.Order.{text_of}
use Rattle.bq_query_function.specs.Texts.{kind_text}
use Rattle.bq_query.specs.declared.print.OutputForm.{OutputForm}
use Rattle.bq_query.specs.declared.print.OutputForm.TheVariants as form

-- the label in full, in one of the forms after the kind
abbrev pub answer_line : OutputForm → Target → List ℕ
answer_line form.Label t = text_of t ++ codes "\n"
answer_line form.LabelKind t = kind_text t.kind ++ (codes " " ++ (text_of t ++ codes "\n"))

-- the lines of an answer, of targets by their numbers
abbrev pub printed : OutputForm → List Target → List ℕ → List ℕ
printed f targets answer = flat_map (answer_line f) (filter_map (slice_get targets) answer)
