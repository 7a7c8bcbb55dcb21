-- the frozen modules that are left decide
use Rattle.std.proofs.Common.{◌≡◌, length}
use Rattle.bq_eval_spec.specs.Slots.{globals_among}
use Rattle.bq_eval_rules.specs.Round.{views_of}
use Rattle.bq_eval_rules.proofs.units.globals_among.Given as goal

abbrev pub invariant-loop-frozen : goal.invariant-loop-frozen
invariant-loop-frozen l = globals_among l.home (views_of l.frozen) ≡ globals_among l.home (views_of l.initial.frozen)

abbrev pub decreases-loop-frozen : goal.decreases-loop-frozen
decreases-loop-frozen l = length l.frozen
