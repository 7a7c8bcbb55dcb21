-- Fault lines that are put one after another.
use Rattle.std.proofs.Common.{◌≡◌, ◌∙◌, ◌+◌, ◌<◌, ◌≤◌, ℕ, List, [], ◌∷◌, ◌++◌, length, map, drop, get_or, refl, sym, ap}
use Rattle.std.proofs.lemmas.List.{drop_more}
use Rattle.std.proofs.Math.ListN.{drop_of_length-le}
use Rattle.std.specs.BTreeSet.{insert_key}
use Rattle.bq_base_texts.specs.declared.fault_line.FaultLine.{FaultLine}
use Rattle.bq_base_texts.specs.FaultLine.{line_cmp, put_lines}
use Rattle.bq_load.specs.declared.outcome.ModuleOutcome.{ModuleOutcome}
use Rattle.bq_load.specs.Views.{result_view, outcome_view}
use Rattle.bq_load.specs.Loaded.{lines_by, fault_lines}

put_none : (ls : List FaultLine) → put_lines ls [] ≡ ls
unfolding put_lines
put_none ls = refl

put_more : (ls xs ys : List FaultLine) → put_lines ls (xs ++ ys) ≡ put_lines (put_lines ls xs) ys
unfolding put_lines
put_more ls [] ys = refl
put_more ls (x ∷ xs) ys = put_more (insert_key line_cmp ls x) xs ys

pub next_put : (os : List ModuleOutcome) (i : ℕ) (o : ModuleOutcome) → i < length os → o ≡ get_or os i o → (ls new : List FaultLine) → new ≡ put_lines ls (lines_by o.label (result_view o.result)) → (all : List FaultLine)
    → put_lines ls (fault_lines (map outcome_view (drop i os))) ≡ all → put_lines new (fault_lines (map outcome_view (drop (i + 1) os))) ≡ all
next_put os i o h e ls new is all before =
    let left : drop i os ≡ o ∷ drop (i + 1) os = drop_more os i o h ∙ ap (λ (z : ModuleOutcome). z ∷ drop (i + 1) os) (sym e) in
    let rest : List FaultLine = fault_lines (map outcome_view (drop (i + 1) os)) in
    ap (λ (z : List FaultLine). put_lines z rest) is
    ∙ (sym (put_more ls (lines_by o.label (result_view o.result)) rest) ∙ (ap (λ (z : List ModuleOutcome). put_lines ls (fault_lines (map outcome_view z))) (sym left) ∙ before))

pub done_put : (os : List ModuleOutcome) (i : ℕ) → length os ≤ i → (ls all : List FaultLine) → put_lines ls (fault_lines (map outcome_view (drop i os))) ≡ all → ls ≡ all
done_put os i h ls all before =
    let none : drop i os ≡ [] = drop_of_length-le os h in
    sym (put_none ls) ∙ (ap (λ (z : List ModuleOutcome). put_lines ls (fault_lines (map outcome_view z))) (sym none) ∙ before)
