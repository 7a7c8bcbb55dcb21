use Rattle.std.proofs.Common.{◌≡◌, [], Some, map, take, slice_get}
use Rattle.bq_label_set.specs.Labels.{with_labels}
use Rattle.bq_load_front.proofs.named_files.NamedFiles.of.Given as goal

-- the labels so far are numbered, and each has its place
abbrev pub invariant-loop-label : goal.invariant-loop-label
invariant-loop-label l = record {
  numbers : l.numbers ≡ with_labels [] (take l.label-index l.labels);
  same : l.files.items ≡ l.numbers;
  placed : map (slice_get l.files.items) l.places.items ≡ map (λ m. Some m) (take l.label-index l.labels);
}
