use Rattle.std.proofs.Common.{ap, sym, ◌∙◌, Some}
use Rattle.bq_load_order.specs.SharedOutcomes.{shown, value_in}
use Rattle.bq_load_order.proofs.shared.share_value.Goals as goal

pub returns-in_ok-try_clone-in-Loaded : goal.returns-in_ok-try_clone-in-Loaded
returns-in_ok-try_clone-in-Loaded g c = ap (λ v. Some (g.E.Evaluate.see v)) c.in_ok-try_clone-in-Loaded.ensures ∙ sym (ap (λ o. value_in (shown g.E.Evaluate.see g.E.Evaluate.see_fault o)) c.in-Loaded.is)
