use Rattle.std.proofs.Common.{◌≡◌, ◌<◌, true, Some, length, map, set, get_or, sym, ap, ◌∙◌, arith}
use Rattle.bq_load_order.specs.Outcome.{outcome}
use Rattle.bq_load_order.specs.SharedOutcomes.{shown, slot}
use Rattle.bq_load_order.proofs.Filled.{fill_keep, puts_found}
use Rattle.bq_load_order.specs.Again.{number_at, had, is_own}
use Rattle.bq_load_order.proofs.Keeping.{found_before, keep_more}
use Rattle.bq_load_order.proofs.keep.keep_one.Goals as goal

pub kept_number-requires-clause-kept : goal.kept_number-requires-clause-kept
kept_number-requires-clause-kept g c κs within m k e = c.requires.kept m k (sym (ap (λ ns. number_at ns m) c.as_slice.ensures.value) ∙ e)

pub returns-clause-found : goal.returns-clause-found
returns-clause-found g c =
    let see = g.E.Evaluate.see in let see_fault = g.E.Evaluate.see_fault in
    let outcomes = c.args.before.now.outcomes.now in
    let q = c.args.after.now.graph.now in
    let new = outcome (g.E.Evaluate.means c.args.after.now.evaluator.now) q in
    let m = c.args.m in let k = c.in-Some.k in
    let known : k < length outcomes = omega (arith, c.in-Some.ensures.known, c.requires.before) in
    let read : shown see see_fault c.index-before-k.result ≡ had (map (shown see see_fault) outcomes) k = found_before see see_fault outcomes k known c.index-before-k.result c.index-before-k.is in
    let there : shown see see_fault (get_or outcomes k c.index-before-k.result) ≡ had (map (shown see see_fault) outcomes) k = ap (shown see see_fault) (sym c.index-before-k.is) ∙ read in
    let own : is_own (had (map (shown see see_fault) outcomes) k) ≡ true = sym (ap is_own there) ∙ sym c.is_own.ensures ∙ c.if-not-is_own.false in
    let now : shown see see_fault c.in_ok-copy.copy ≡ new m = c.in_ok-copy.ensures ∙ there ∙ sym (c.in-Some.ensures.keeps own) in
    let found = c.args.kept.now.found.items in
    fill_keep new (length q) (map (slot see see_fault) found) m c.requires.found c.requires.known (map (slot see see_fault) (set found m (Some c.in_ok-copy.copy))) (puts_found see see_fault new found m c.in_ok-copy.copy now)

pub returns-clause-kept : goal.returns-clause-kept
returns-clause-kept g c =
    let see = g.E.Evaluate.see in let see_fault = g.E.Evaluate.see_fault in
    let outcomes = c.args.before.now.outcomes.now in
    let before = had (map (shown see see_fault) outcomes) in
    let new = outcome (g.E.Evaluate.means c.args.after.now.evaluator.now) c.args.after.now.graph.now in
    let m = c.args.m in let k = c.in-Some.k in
    let known : k < length outcomes = omega (arith, c.in-Some.ensures.known, c.requires.before) in
    let read : shown see see_fault c.index-before-k.result ≡ before k = found_before see see_fault outcomes k known c.index-before-k.result c.index-before-k.is in
    let there : shown see see_fault (get_or outcomes k c.index-before-k.result) ≡ before k = ap (shown see see_fault) (sym c.index-before-k.is) ∙ read in
    let own : is_own (before k) ≡ true = sym (ap is_own there) ∙ sym c.is_own.ensures ∙ c.if-not-is_own.false in
    keep_more before new c.args.before.now.graph.now c.args.after.now.was.now c.args.kept.now.numbers.items m k c.requires.kept (omega (arith, c.requires.wide, c.requires.known, c.args.kept.now.numbers.ok)) (c.in-Some.ensures.keeps own) c.in-Some.ensures.reaches
