use Rattle.std.proofs.Common.{◌≡◌, ◌∙◌, ◌&&◌, Bool, ap, sym, rules, tests}
use Rattle.std.proofs.lemmas.Iterator.Search.{all_from_yields_List}
use Rattle.std.proofs.lemmas.Iterator.Splits.{YieldsList-from_slice_split}
use Rattle.std.specs.List.{list_all, slice_split}
use Rattle.bq_label.specs.Paths.{is_path, is_segment, is_slash}
use Rattle.bq_label.proofs.path.is_path.Goals as goal

pub returns-then-are_path_bytes : goal.returns-then-are_path_bytes
unfolding is_path
returns-then-are_path_bytes c =
    let segments : c.all.result ≡ list_all is_segment (slice_split is_slash c.args.text.now) =
    all_from_yields_List is_segment _ _ _ c.all.ensures.ran (YieldsList-from_slice_split _ is_slash c.args.text.now c.split.ensures.rest c.split.ensures.done c.split.ensures.closure (λ x b q k. search (rules, tests))) (λ x b q k. search (rules, tests)) in
    segments ∙ ap (λ (b : Bool). b && list_all is_segment (slice_split is_slash c.args.text.now)) (sym c.if-are_path_bytes.true ∙ c.are_path_bytes.ensures)
