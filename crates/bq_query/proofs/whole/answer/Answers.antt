use Rattle.std.proofs.Common.{List, [], Bool, length, subst}
use Rattle.bq_query_graph.specs.Marks.{IsSet, Held}
use Rattle.bq_query_check.specs.Formula.{formula_of}
use Rattle.bq_query.specs.Stands.{Stands, Bound}
use Rattle.bq_query.proofs.Members.{those, inside}
use Rattle.bq_query.proofs.whole.answer.Goals as goal

pub returns-clause-within : goal.returns-clause-within
returns-clause-within c =
    let w = c.args.graph.now in
    let f = formula_of c.args.query.now.set in
    let set = c.in_ok-set.set.items in
    let v = c.in_ok-members.field-0.items in
    let held : Held set v = subst (λ (ms : List Bool). Held ms v) c.deref.ensures.value c.in_ok-members.ensures.members in
    inside (length w.targets) (Stands w f c.new-bound.result) set v c.in_ok-set.ensures.0.stands held

pub returns-clause-members : goal.returns-clause-members
returns-clause-members c =
    let w = c.args.graph.now in
    let f = formula_of c.args.query.now.set in
    let set = c.in_ok-set.set.items in
    let v = c.in_ok-members.field-0.items in
    let held : Held set v = subst (λ (ms : List Bool). Held ms v) c.deref.ensures.value c.in_ok-members.ensures.members in
    let stands : IsSet (length w.targets) set (Stands w f []) = subst (λ (bs : Bound). IsSet (length w.targets) set (Stands w f bs)) c.new-bound.ensures c.in_ok-set.ensures.0.stands in
    those (length w.targets) (Stands w f []) set v stands held
