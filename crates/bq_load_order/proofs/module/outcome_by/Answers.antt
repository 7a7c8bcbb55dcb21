use Rattle.std.proofs.Common.{◌≡◌, ◌∙◌, Result, Ok, Vec, Global, List, ℕ, map, sym, ap}
use Rattle.std.specs.declared.sync.Arc.{Arc}
use Rattle.bq_load_order.specs.declared.outcome.Outcome.{Outcome}
use Rattle.bq_load_order.specs.declared.outcome.Outcome.TheVariants.{Loaded, Faulty}
use Rattle.bq_load_order.specs.Outcome.{own, evaluated}
use Rattle.bq_load_order.specs.SharedOutcomes.{told, seen}
use Rattle.bq_load_order.proofs.module.outcome_by.Goals as goal

-- the outcome is what the module evaluated to, by the values of its loads
by_told : {M N V F : Type 0} (see : M → V) (see_fault : N → F) (means : List V → Result V F) (imports : Result (Vec (Arc M Global) Global) ℕ) (vs : Vec (Arc M Global) Global) (r : Result M N) (o : Outcome V F)
    → imports ≡ Ok vs → told see see_fault r ≡ means (map (λ a. see a.value) vs.items) → o ≡ own (told see see_fault r) → o ≡ evaluated means (seen see imports)
by_told see see_fault means imports vs r o is e f = f ∙ (ap own e ∙ sym (ap (λ i. evaluated means (seen see i)) is))

pub returns-in-Ok-2 : goal.returns-in-Ok-2
returns-in-Ok-2 g c =
    let see = g.E.Evaluate.see in let see_fault = g.E.Evaluate.see_fault in
    let means = g.E.Evaluate.means c.args.evaluator.now c.args.m in
    let e = c.in_ok-value.ensures ∙ ap (λ xs. means (map (λ a. see a.value) xs)) c.as_slice.ensures.value in
    by_told see see_fault means c.args.imports c.in-Ok.imports c.in_ok-value.field-0 _ c.in-Ok.is e (ap (λ v. Loaded (see v)) c.in_ok-new-in-Ok-2.ensures.ok ∙ sym (ap (λ r. own (told see see_fault r)) c.in-Ok-2.is))

pub returns : goal.returns
returns g c =
    let see = g.E.Evaluate.see in let see_fault = g.E.Evaluate.see_fault in
    let means = g.E.Evaluate.means c.args.evaluator.now c.args.m in
    let e = c.in_ok-value.ensures ∙ ap (λ xs. means (map (λ a. see a.value) xs)) c.as_slice.ensures.value in
    by_told see see_fault means c.args.imports c.in-Ok.imports c.in_ok-value.field-0 _ c.in-Ok.is e (ap (λ v. Faulty (see_fault v)) c.in_ok-new-in-Err-2.ensures.ok ∙ sym (ap (λ r. own (told see see_fault r)) c.in-Err-2.is))
