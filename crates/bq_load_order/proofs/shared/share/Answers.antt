use Rattle.std.proofs.Common.{ap, sym, ◌∙◌}
use Rattle.bq_load_order.specs.declared.outcome.Outcome.TheVariants.{Loaded, Faulty}
use Rattle.bq_load_order.specs.SharedOutcomes.{shown}
use Rattle.bq_load_order.proofs.shared.share.Goals as goal

pub returns-in_ok-try_clone-in-Loaded : goal.returns-in_ok-try_clone-in-Loaded
returns-in_ok-try_clone-in-Loaded g c = ap (λ v. Loaded (g.E.Evaluate.see v)) c.in_ok-try_clone-in-Loaded.ensures ∙ sym (ap (shown g.E.Evaluate.see g.E.Evaluate.see_fault) c.in-Loaded.is)

pub returns-in_ok-try_clone-in-Faulty : goal.returns-in_ok-try_clone-in-Faulty
returns-in_ok-try_clone-in-Faulty g c = ap (λ e. Faulty (g.E.Evaluate.see_fault e)) c.in_ok-try_clone-in-Faulty.ensures ∙ sym (ap (shown g.E.Evaluate.see g.E.Evaluate.see_fault) c.in-Faulty.is)
