use Rattle.std.proofs.Common.{◌∙◌, List, length, sym, ap, subst}
use Rattle.std.proofs.lemmas.List.{length_push}
use Rattle.std.proofs.lemmas.Result.{on_ok_weaker}
use Rattle.bq_label_set.specs.Labels.{with_labels}
use Rattle.bq_load_discover.specs.declared.modules.Module.{Module}
use Rattle.bq_load_discover.specs.Exploring.{Explores}
use Rattle.bq_load_front.specs.Front.{loads_by}
use Rattle.bq_load_discover.proofs.Once.{each_once}
use Rattle.bq_load_discover.proofs.Exploring.{goes_on}
use Rattle.bq_load_discover.proofs.exploration.Exploration.put.Goals as goal

pub returns-clause-explores : goal.returns-clause-explores
returns-clause-explores c = λ inputs x at.
    let ls = c.args.self.now.found in
    let ms = c.args.self.now.read.items in
    on_ok_weaker c.add_all-added.result
    (λ e. subst (λ (z : List Module). Explores inputs c.add_all-added.new.self z) (sym c.in_ok-push.ensures.items) (goes_on inputs ls ms x at.0 c.args.next at.1 at.2 c.add_all-added.new.self (e ∙ (ap (with_labels ls) c.loads.ensures ∙ each_once ls (loads_by c.args.next.front)))))
    c.add_all-added.ensures

pub returns-clause-more : goal.returns-clause-more
returns-clause-more c = on_ok_weaker c.add_all-added.result (λ _. ap length c.in_ok-push.ensures.items ∙ length_push c.args.self.now.read.items c.args.next) c.add_all-added.ensures

pub returns-clause-found : goal.returns-clause-found
returns-clause-found c = on_ok_weaker c.add_all-added.result (λ e. e ∙ (ap (with_labels c.args.self.now.found) c.loads.ensures ∙ each_once c.args.self.now.found (loads_by c.args.next.front))) c.add_all-added.ensures
