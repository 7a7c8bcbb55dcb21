use Rattle.std.proofs.Common.{◌≡◌, List, [], ◌∷◌, ◌++◌, All, sym, subst, rules}
use Rattle.std.proofs.lemmas.List.Elements.{All-push}
use Rattle.bq_load.specs.declared.pool.Evaluated.{Evaluated}
use Rattle.bq_load.specs.Pool.{parts_of, loads_of, IsEvaluated}
use Rattle.bq_load.proofs.Pooled.{numbered_more}
use Rattle.bq_load.proofs.pool.Pool.all_evaluated.Goals as goal

pub loop-one-preserved : goal.loop-one-preserved
loop-one-preserved c =
    let l = c.loop-one in
    let one = c.in_ok-evaluated.field-0 in
    let is = IsEvaluated (parts_of c.args.self.now) (loads_of c.args.self.now) in
    let pushed : c.push.new.self.items ≡ l.all.items ++ one ∷ [] = search rules in
    record {
      numbers = numbered_more c.args.brought.now l.one-index c.one-item.result c.loop-one-test.true c.one-item.is l.all.items c.push.new.self.items one c.in_ok-evaluated.ensures.number pushed l.invariant.numbers;
      right = subst (λ (es : List Evaluated). All is es) (sym pushed) (All-push is l.all.items one l.invariant.right c.in_ok-evaluated.ensures.right);
    }
