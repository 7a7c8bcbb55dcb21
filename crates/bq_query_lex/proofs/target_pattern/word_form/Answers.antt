use Rattle.std.proofs.Common.{◌≡◌, ◌∙◌, take, sym, ap, arith, rules, tests}
use Rattle.std.specs.List.{list_any}
use Rattle.std.proofs.lemmas.Iterator.{YieldsList-from_slice}
use Rattle.std.proofs.lemmas.Iterator.Search.{any_from_yields_List}
use Rattle.bq_query_lex.specs.TargetPatterns.{is_colon, word_form}
use Rattle.bq_query_lex.proofs.Endings.{other_end, with_colon, a_package, passed_over, chosen}
use Rattle.bq_query_lex.proofs.target_pattern.word_form.Goals as goal

pub loop-table-preserved-then-not-ends_with : goal.loop-table-preserved-then-not-ends_with
loop-table-preserved-then-not-ends_with c =
    let word = c.args.word.now in
    passed_over (λ e. (e.0.now, e.1, e.2)) word (word_form word) c.loop-table.table.now _ _ (omega (arith, c.in-len1-up.len_at_least)) (omega (arith, c.in-len1-up.len_at_least)) c.loop-table.invariant
    (other_end _ _ word (sym c.ends_with.ensures.value ∙ c.if-not-ends_with.true))

pub loop-table-preserved : goal.loop-table-preserved
loop-table-preserved c =
    let word = c.args.word.now in
    let part = take c.saturating_sub.result word in
    let colon : c.any.result ≡ list_any is_colon part = any_from_yields_List is_colon _ _ c.any.result c.any.ensures.ran (YieldsList-from_slice part cc) (λ x b q k. search (rules, tests)) in
    passed_over (λ e. (e.0.now, e.1, e.2)) word (word_form word) c.loop-table.table.now _ _ (omega (arith, c.in-len1-up.len_at_least)) (omega (arith, c.in-len1-up.len_at_least)) c.loop-table.invariant
    (with_colon _ _ word c.saturating_sub.result c.saturating_sub.ensures (sym c.ends_with.ensures.value ∙ c.if-not-ends_with.false) (sym colon ∙ c.if-any.true))

pub returns-in-len1-up-clause-form : goal.returns-in-len1-up-clause-form
returns-in-len1-up-clause-form c =
    let word = c.args.word.now in
    let part = take c.saturating_sub.result word in
    let colon : c.any.result ≡ list_any is_colon part = any_from_yields_List is_colon _ _ c.any.result c.any.ensures.ran (YieldsList-from_slice part cc) (λ x b q k. search (rules, tests)) in
    ap (λ r. r.0) (chosen (λ e. (e.0.now, e.1, e.2)) word (word_form word) c.loop-table.table.now _ _ (omega (arith, c.in-len1-up.len_at_least)) c.loop-table.invariant
    (a_package _ _ word c.saturating_sub.result c.saturating_sub.ensures (sym c.ends_with.ensures.value ∙ c.if-not-ends_with.false) (sym colon ∙ c.if-any.false)))

pub returns-in-len1-up-clause-named : goal.returns-in-len1-up-clause-named
returns-in-len1-up-clause-named c =
    let word = c.args.word.now in
    let part = take c.saturating_sub.result word in
    let colon : c.any.result ≡ list_any is_colon part = any_from_yields_List is_colon _ _ c.any.result c.any.ensures.ran (YieldsList-from_slice part cc) (λ x b q k. search (rules, tests)) in
    ap (λ r. r.1) (chosen (λ e. (e.0.now, e.1, e.2)) word (word_form word) c.loop-table.table.now _ _ (omega (arith, c.in-len1-up.len_at_least)) c.loop-table.invariant
    (a_package _ _ word c.saturating_sub.result c.saturating_sub.ensures (sym c.ends_with.ensures.value ∙ c.if-not-ends_with.false) (sym colon ∙ c.if-any.false)))
