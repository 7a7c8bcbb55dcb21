use Rattle.std.proofs.Common.{◌≡◌, ◌∙◌, ◌∷◌, ◌++◌, [], ℕ, List, length, ap, arith}
use Rattle.std.proofs.lemmas.Grind.{common_steps}
use Rattle.bq_query_graph.proofs.Lists.{rows_are, stays_flat, pushed}
use Rattle.bq_query_graph.proofs.row_list.RowList.push.Goals as goal

pub invariant_of-self-2 : goal.invariant_of-self-2
invariant_of-self-2 c =
    let starts = c.self.inside.starts.items in
    let end : c.len-end.result ≡ length c.extend_from_slice.new.self.items = grind (arith, common_steps) in
    let last = c.push_reserved.ensures.items ∙ (ap (λ (z : List ℕ). z ++ c.len-end.result ∷ []) c.in_ok-reserve.ensures.items ∙ ap (λ (n : ℕ). starts ++ n ∷ []) end) in
    stays_flat _ _ _ (pushed _ starts c.self.inside.heads.items c.args.row.now _ _ c.self.invariant c.in_ok-extend_from_slice.ensures.items last)

pub returns : goal.returns
returns c =
    let starts = c.self.inside.starts.items in
    let end : c.len-end.result ≡ length c.extend_from_slice.new.self.items = grind (arith, common_steps) in
    let last = c.push_reserved.ensures.items ∙ (ap (λ (z : List ℕ). z ++ c.len-end.result ∷ []) c.in_ok-reserve.ensures.items ∙ ap (λ (n : ℕ). starts ++ n ∷ []) end) in
    rows_are _ _ _ (pushed _ starts c.self.inside.heads.items c.args.row.now _ _ c.self.invariant c.in_ok-extend_from_slice.ensures.items last) ∙ ap (λ (g : List (List ℕ)). g ++ c.args.row.now ∷ []) c.self.view_is
