use Rattle.std.proofs.Common.{rules, ◌≡◌, subst, ℤ, w64, to_z, of_z}
use Rattle.bq_value.specs.Datum.{Datum, int}
use Rattle.bq_eval_frame.specs.Slots.{slots_of}
use Rattle.bq_eval_rules.specs.Acts.{ActsOn}
use Rattle.bq_eval_rules.specs.Answers.{answer_of}
use Rattle.bq_eval_rules.specs.Readers.{evals_of}
use Rattle.bq_eval_rules.proofs.Answering.{goes_on}
use Rattle.bq_eval_rules.proofs.reader.Reader.int_augmented.Goals as goal

pub returns-in-None : goal.returns-in-None
returns-in-None g c =
    let h = g.R.Runtime in
    let answer = answer_of c.augment_there.result c.augment_there.new.out in
    let s = h.seen c.evaluate.new.runtime in
    let t = h.seen c.augment_there.new.runtime in
    let z : to_z w64 (of_z w64 c.args.old) ≡ c.args.old = search rules in
    let X : ℤ → Type 0 = λ n. ActsOn h.means (λ (v : Datum). v) c.evaluate.new.out (λ v. h.means.augment c.args.op.operator (int n) v s) s answer t in
    goes_on h.means (λ (v : Datum). v) c.evaluate.new.out (h.means.augment c.args.op.operator (int c.args.old)) answer s t (evals_of h.means c.args.self.now c.args.op.code.now (slots_of c.args.frame.now) (h.seen c.args.runtime.now)) c.in-None.ensures (subst X z c.augment_there.ensures)
