use Rattle.std.proofs.Common.{◌∙◌, ◌<◌, ◌≤◌, ap, sym, arith, length}
use Rattle.bq_value_dict.specs.Places.{rank}
use Rattle.bq_value_dict.proofs.Ranks.{found_at, none_at}
use Rattle.bq_value_dict.proofs.few.Few.get.Goals as goal

pub returns-then-at-len : goal.returns-then-at-len
returns-then-at-len c =
    let key = c.args.key.now in
    let all = c.deref.ensures.value ∙ c.self.view_is in
    let at = c.index_of-at.ensures ∙ ap (rank key) all in
    let less : rank key c.args.self.now < length c.args.self.now = omega (arith, c.if-at-len.true, c.len.ensures, at, ap length c.self.view_is) in
    cc (found_at key c.index.result.now c.args.self.now less, at, c.self.view_is, c.index.ensures)

pub returns : goal.returns
returns c =
    let key = c.args.key.now in
    let all = c.deref.ensures.value ∙ c.self.view_is in
    let at = c.index_of-at.ensures ∙ ap (rank key) all in
    sym (none_at key c.args.self.now (omega (arith, c.if-at-len.false, c.len.ensures, at, ap length c.self.view_is)))
