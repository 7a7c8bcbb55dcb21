use Rattle.std.proofs.Common.{◌≡◌, get_or, arith, sym, refl, subst, ◌∙◌, true, false}
use Rattle.std.proofs.lemmas.List.{get_or_read}
use Rattle.bq_board.specs.Counts.{Has}
use Rattle.bq_board.specs.Cycles.{is_cyclic}
use Rattle.bq_board.proofs.Lemmas.{loads_not_cyclic}
use Rattle.bq_load_order.specs.SharedOutcomes.{seen, shown}
use Rattle.bq_load_order.proofs.Filled.{deep_outcome}
use Rattle.bq_load_workers.proofs.Finding.{found_cyclic, found_evaluated}
use Rattle.bq_load_workers.proofs.pool.WorkerPool.find.Goals as goal

pub returns-then-index-gt0-clause-outcome : goal.returns-then-index-gt0-clause-outcome
returns-then-index-gt0-clause-outcome g c =
    let pool = c.args.self.now in
    let read : c.index.result.now ≡ get_or pool.order.pending.items c.args.m 0 = get_or_read pool.order.pending.items c.args.m c.index.result.now (omega (arith, pool.cyclic.wide, pool.plan.wide, c.requires.known)) c.index.ensures 0 in
    let is : is_cyclic pool.graph c.args.m ≡ true = pool.cyclic.some c.args.m (omega (arith, c.requires.known, pool.plan.wide)) (omega (arith, read, c.if-index-gt0.true)) in
    found_cyclic (g.E.Evaluate.means pool.evaluator) pool.graph c.args.m is c.first_cyclic.result c.row-loads.result.now c.first_cyclic.ensures c.row-loads.ensures.row

pub is_too_deep-requires-clause-known : goal.is_too_deep-requires-clause-known
is_too_deep-requires-clause-known g c = omega (arith, c.requires.known, c.args.self.now.plan.wide)

pub first_at_limit-requires-clause-known : goal.first_at_limit-requires-clause-known
first_at_limit-requires-clause-known g c l h = c.row-loads.ensures.valid.1 c.args.m l (subst (λ xs. Has xs l) c.row-loads.ensures.row h)

pub first_at_limit-requires-clause-acyclic : goal.first_at_limit-requires-clause-acyclic
first_at_limit-requires-clause-acyclic g c l h =
    let pool = c.args.self.now in
    let read : c.index.result.now ≡ get_or pool.order.pending.items c.args.m 0 = get_or_read pool.order.pending.items c.args.m c.index.result.now (omega (arith, pool.cyclic.wide, pool.plan.wide, c.requires.known)) c.index.ensures 0 in
    let not : is_cyclic pool.graph c.args.m ≡ false = pool.cyclic.none c.args.m (omega (arith, c.requires.known, pool.plan.wide)) (omega (arith, read, c.if-index-gt0.false)) in
    loads_not_cyclic pool.graph c.args.m l not (subst (λ xs. Has xs l) c.row-loads.ensures.row h)

pub returns-then-is_too_deep-clause-outcome : goal.returns-then-is_too_deep-clause-outcome
returns-then-is_too_deep-clause-outcome g c =
    let pool = c.args.self.now in
    deep_outcome (g.E.Evaluate.means pool.evaluator) pool.graph c.args.m (sym c.is_too_deep.ensures ∙ c.if-is_too_deep.true) c.first_at_limit.result c.row-loads.result.now c.first_at_limit.ensures c.row-loads.ensures.row

pub returns-then-is_too_deep-clause-seat : goal.returns-then-is_too_deep-clause-seat
returns-then-is_too_deep-clause-seat g c = c.requires.seat

pub returns-then-is_too_deep-clause-owes : goal.returns-then-is_too_deep-clause-owes
returns-then-is_too_deep-clause-owes g c = c.requires.holds.owes

pub returns-then-is_too_deep-clause-finished : goal.returns-then-is_too_deep-clause-finished
returns-then-is_too_deep-clause-finished g c = refl

pub returns-clause-outcome : goal.returns-clause-outcome
returns-clause-outcome g c =
    let pool = c.args.self.now in
    let read : c.index.result.now ≡ get_or pool.order.pending.items c.args.m 0 = get_or_read pool.order.pending.items c.args.m c.index.result.now (omega (arith, pool.cyclic.wide, pool.plan.wide, c.requires.known)) c.index.ensures 0 in
    let not : is_cyclic pool.graph c.args.m ≡ false = pool.cyclic.none c.args.m (omega (arith, c.requires.known, pool.plan.wide)) (omega (arith, read, c.if-index-gt0.false)) in
    found_evaluated (g.E.Evaluate.means pool.evaluator) pool.graph c.args.m not (sym c.is_too_deep.ensures ∙ c.if-is_too_deep.false) pool.board.plan pool.plan (seen g.E.Evaluate.see c.in_ok-imports.imports) c.in_ok-imports.ensures.values (shown g.E.Evaluate.see g.E.Evaluate.see_fault c.in_ok-outcome_by.field-0) c.in_ok-outcome_by.ensures

pub imports-requires-clause-seat : goal.imports-requires-clause-seat
imports-requires-clause-seat g c _ _ = c.requires.seat

pub imports-requires-clause-known : goal.imports-requires-clause-known
imports-requires-clause-known g c _ _ = c.requires.known

pub imports-requires-clause-holds : goal.imports-requires-clause-holds
imports-requires-clause-holds g c _ _ = c.requires.holds

pub returns-then-index-gt0-clause-seat : goal.returns-then-index-gt0-clause-seat
returns-then-index-gt0-clause-seat g c = c.requires.seat

pub returns-then-index-gt0-clause-owes : goal.returns-then-index-gt0-clause-owes
returns-then-index-gt0-clause-owes g c = c.requires.holds.owes

pub returns-then-index-gt0-clause-finished : goal.returns-then-index-gt0-clause-finished
returns-then-index-gt0-clause-finished g c = refl

pub returns-clause-seat : goal.returns-clause-seat
returns-clause-seat g c = c.imports.ensures.seat

pub returns-clause-owes : goal.returns-clause-owes
returns-clause-owes g c = c.in_ok-imports.ensures.owes

pub returns-clause-finished : goal.returns-clause-finished
returns-clause-finished g c = c.imports.ensures.finished
