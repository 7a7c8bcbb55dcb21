use Rattle.bq_run_laws.proofs.Texts.{single_values, list_values, lists_go_on, labels_as_strings, defaults_are_empty_values}
use Rattle.bq_run_laws.proofs.text.values_are_written_without_quotes.Goals as goal

pub returns : goal.returns
returns c = record {
  single = single_values;
  lists = list_values;
  longer = lists_go_on;
  labels = labels_as_strings;
  blank = defaults_are_empty_values;
}
