use Rattle.std.proofs.Common.{rules, ◌≡◌, ◌∙◌, ap, sym, length, arith, length-drop, Ok, Err}
use Rattle.bq_base.specs.declared.fault.EvalFault.{EvalFault}
use Rattle.bq_value.specs.declared.error.EvalErr.TheVariants.{Bad}
use Rattle.bq_builtin_format.specs.Percent.{DraftView, and_write, converted, ended, filled}
use Rattle.bq_builtin_format.proofs.Filling.{fill_step, fill_bad, fill_last, shorter, rest_one}
use Rattle.bq_builtin_format.proofs.operator.write_filled.Goals as goal

pub loop-before-preserved : goal.loop-before-preserved
loop-before-preserved c =
    let conversion : converted c.args.store.now (and_write c.loop-before.draft c.in-Some.before.now) c.loop-before.left c.in-Some.after.now c.loop-before.next.now ≡ Ok (c.convert.new.draft, c.in_ok-left.left) = cc (c.in_ok-left.ensures, c.in_ok-write.ensures) in
    fill_step c.args.store.now c.loop-before.draft c.convert.new.draft c.loop-before.left c.in_ok-left.left c.loop-before.next.now c.values_after-next.result.now c.loop-before.rest.now c.in-Some.before.now c.in-Some.after.now _ _ c.in-Some.ensures conversion
    c.values_after-next.ensures (rest_one c.in-Some.after.now c.min.result c.min.ensures) c.loop-before.invariant

pub loop-before-smaller : goal.loop-before-smaller
loop-before-smaller c =
    let after = c.in-Some.after.now in
    let less = shorter c.loop-before.rest.now c.in-Some.before.now after c.in-Some.ensures in
    omega (arith, ap length (rest_one after c.min.result c.min.ensures), length-drop 1 after, less)

pub returns-in_err-left : goal.returns-in_err-left
returns-in_err-left c =
    let bad : (why : EvalFault) → c.in_err-left.field-0.0 ≡ Bad why → filled (length c.args.format.now) c.args.store.now c.args.draft.now c.args.steps c.args.values.now c.args.format.now ≡ Err why =
    λ why is. c.loop-before.invariant ∙ fill_bad c.args.store.now c.loop-before.draft c.loop-before.left why c.loop-before.next.now c.loop-before.rest.now c.in-Some.before.now c.in-Some.after.now c.in-Some.ensures
    (ap (λ (d : DraftView). converted c.args.store.now d c.loop-before.left c.in-Some.after.now c.loop-before.next.now) (sym c.in_ok-write.ensures) ∙ c.in_err-left.ensures why is) in
    search (rules, bad)

pub returns : goal.returns
returns c =
    let draft = ap (λ (d : DraftView). ended d c.loop-before.next.now) c.in_ok-write-2.ensures in
    c.loop-before.invariant
    ∙ (fill_last c.args.store.now c.loop-before.draft c.loop-before.left c.loop-before.next.now c.loop-before.rest.now c.in_default.ensures ∙ ap (λ (d : DraftView). Ok (d, c.loop-before.left)) (sym (c.end.ensures ∙ draft)))
