use Rattle.std.proofs.Common.{◌≡◌, ◌∙◌, Err, ap}
use Rattle.bq_base.specs.declared.fault.EvalFault.TheVariants as f
use Rattle.bq_package.proofs.Patterns.{one_more, none_more}
use Rattle.bq_package.proofs.glob.patterns.Goals as goal

pub returns-in-Err-Bad : goal.returns-in-Err-Bad
returns-in-Err-Bad c = λ why e.
    let l = c.loop-text in
    let t = c.text-item.result in
    let read = c.in-Err-Bad.ensures c.in-Err-Bad.field-0-0 (cc (c.in-Err-Bad.field-0-is)) in
    let same : f.GlobPattern ≡ why = cc (e) in
    l.invariant ∙ (none_more c.args.texts.now l.text-index t l.patterns c.loop-text-test.true c.text-item.is c.in-Err-Bad.field-0-0 read ∙ ap Err same)

pub loop-text-preserved : goal.loop-text-preserved
loop-text-preserved c =
    let l = c.loop-text in
    let t = c.text-item.result in
    let read = c.in-Ok.ensures in
    l.invariant ∙ one_more c.args.texts.now l.text-index t l.patterns c.loop-text-test.true c.text-item.is c.in-Ok.pattern c.push.new.self read c.in_ok-push-in-Ok.ensures.ok
