use Rattle.std.proofs.Common.{◌≡◌, ◌∙◌, ◌+◌, ◌∷◌, ◌++◌, true, false, length, List, sym, ap, subst, rules}
use Rattle.std.proofs.lemmas.Bool.{false≢true}
use Rattle.std.proofs.lemmas.List.{length_push}
use Rattle.std.specs.Vec.Iter.{into_iter_items}
use Rattle.bq_load_discover.specs.declared.modules.Module.{Module}
use Rattle.bq_load_discover.specs.Module.{module_of}
use Rattle.bq_load_reload.specs.Renewal.{AreAsRead, modules_in}
use Rattle.bq_load_reload.proofs.Renewed.{one_more}
use Rattle.bq_load_reload.proofs.renewal.all_read_again.Goals as goal

pub loop-each-preserved : goal.loop-each-preserved
loop-each-preserved c =
    let inputs = c.args.inputs.now in
    let was = c.args.numbers.now in
    let s = c.in-Some.each in
    let rest = into_iter_items c.next.new.self in
    let all = c.loop-each.all.items in
    let goes : into_iter_items c.loop-each.each-iterator ≡ s ∷ rest = search rules in
    let again = c.in_ok-again.again.read in
    let items = c.in_ok-push.ensures.items in
    let long : length c.push.new.self.items ≡ length all + 1 = ap length items ∙ length_push all again in
    let stay = subst (λ (z : List Module). AreAsRead inputs was (length all) z) goes c.loop-each.invariant.stay in
    record {
      stay = subst (λ n. AreAsRead inputs was n rest) (sym long) stay.1;
      read = ap (λ (z : List Module). z ++ modules_in inputs rest) items
          ∙ (one_more (λ m. module_of inputs m.label) all again s rest c.in_ok-again.ensures.read ∙ (ap (λ (z : List Module). all ++ modules_in inputs z) (sym goes) ∙ c.loop-each.invariant.read));
      same = λ h. absurd (false≢true (sym c.if-same.false ∙ h));
    }
