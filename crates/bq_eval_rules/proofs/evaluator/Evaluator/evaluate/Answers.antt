use Rattle.std.proofs.Common.{rules, ◌≡◌, sym, subst, ℤ, w64, to_z, of_z}
use Rattle.bq_value.specs.Datum.{Datum, int}
use Rattle.bq_builtin_machine.specs.Action.{Run}
use Rattle.bq_eval_spec.specs.Expressions.{literal}
use Rattle.bq_eval_rules.specs.Acts.{Acts}
use Rattle.bq_eval_rules.specs.Answers.{answer_of}
use Rattle.bq_eval_rules.proofs.evaluator.Evaluator.evaluate.Goals as goal

pub returns-in-Some : goal.returns-in-Some
returns-in-Some g c =
    let h = g.R.Runtime in
    let s = h.seen c.args.runtime.now in
    let z : to_z w64 (of_z w64 c.in-Some.n) ≡ c.in-Some.n = search rules in
    let Q : ℤ → Type 0 = λ n. Acts h.means (λ v. v) (answer_of c.int_answer.result c.int_answer.new.out) (h.seen c.int_answer.new.runtime) (literal h.means (int n) s) in
    let P : Run h.State Datum → Type 0 = λ run. Acts h.means (λ v. v) (answer_of c.int_answer.result c.int_answer.new.out) (h.seen c.int_answer.new.runtime) run in
    subst P (sym c.in-Some.ensures) (subst Q z c.int_answer.ensures)
