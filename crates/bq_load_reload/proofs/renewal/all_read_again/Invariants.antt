use Rattle.std.proofs.Common.{◌≡◌, ◌++◌, true, length}
use Rattle.std.specs.Vec.Iter.{into_iter_items}
use Rattle.bq_load_reload.specs.Renewal.{AreAsRead, all_loaded, modules_in}
use Rattle.bq_load_reload.proofs.renewal.all_read_again.Given as goal

abbrev pub invariant-loop-each : goal.invariant-loop-each
invariant-loop-each l = record {
  stay : AreAsRead l.inputs l.numbers (length l.all.items) (into_iter_items l.each-iterator);
  read : l.all.items ++ modules_in l.inputs (into_iter_items l.each-iterator) ≡ modules_in l.inputs l.fn.modules.items;
  same : l.same ≡ true → all_loaded l.all.items ++ all_loaded (into_iter_items l.each-iterator) ≡ all_loaded l.fn.modules.items;
}
