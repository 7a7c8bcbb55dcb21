use Rattle.std.proofs.Common.{rules, tests}
use Rattle.std.proofs.lemmas.Iterator.Search.{all_from_yields_List}
use Rattle.std.proofs.lemmas.Iterator.Splits.{YieldsList-from_slice_split}
use Rattle.bq_label.specs.Paths.{is_slash}
use Rattle.bq_label_glob.specs.Pattern.{is_pattern, is_pattern_segment}
use Rattle.bq_label_glob.proofs.pattern.is_pattern.Goals as goal

pub returns : goal.returns
unfolding is_pattern is_pattern_segment
returns c =
    all_from_yields_List is_pattern_segment _ _ _ c.all.ensures.ran (YieldsList-from_slice_split _ is_slash c.args.text.now c.split.ensures.rest c.split.ensures.done c.split.ensures.closure (λ x b q k. search (rules, tests))) (λ x b q k. search (rules, tests))
