use Rattle.std.proofs.Common.{◌≡◌, ◌∙◌, ◌++◌, ◌-◌, ℤ, ap, FitsSigned, w64, to_z, of_z}
use Rattle.std.proofs.lemmas.Int.{to_z-of_z}
use Rattle.bq_builtin_strings.specs.Length.{times_of}
use Rattle.bq_builtin_operators.specs.Sequence.{copies}
use Rattle.bq_builtin_operators.proofs.Sequences.{turns_begin, turns_go_on, turns_end}
use Rattle.bq_builtin_operators.proofs.sequence.push_values.Goals as goal

pub loop-turn-init : goal.loop-turn-init
loop-turn-init c = turns_begin c.args.values.now.items c.args.xs.now c.turns-turn-end.result (times_of (to_z w64 (of_z w64 c.args.times))) c.turns-turn-end.ensures

pub loop-turn-preserved : goal.loop-turn-preserved
loop-turn-preserved c =
    turns_go_on c.loop-turn.values.items c.args.xs.now (c.args.values.now.items ++ copies c.args.xs.now (times_of (to_z w64 (of_z w64 c.args.times)))) c.push_shares.new.values.items c.turns-turn-end.result c.loop-turn._turn
    c.loop-turn-test.true c.in_ok-push_shares.ensures c.loop-turn.invariant

pub returns : goal.returns
returns c =
    let f : FitsSigned w64 c.args.times = c.ranges.times in
    let all : c.loop-turn.values.items ++ copies c.args.xs.now (c.turns-turn-end.result - c.loop-turn._turn) ≡ c.args.values.now.items ++ copies c.args.xs.now (times_of (to_z w64 (of_z w64 c.args.times))) = c.loop-turn.invariant in
    turns_end c.loop-turn.values.items c.args.xs.now (c.args.values.now.items ++ copies c.args.xs.now (times_of c.args.times)) c.turns-turn-end.result c.loop-turn._turn c.loop-turn-test.false
    (all ∙ ap (λ (z : ℤ). c.args.values.now.items ++ copies c.args.xs.now (times_of z)) (to_z-of_z w64 c.args.times f))
