use Rattle.std.proofs.Common.{◌∙◌, sym}
use Rattle.std.proofs.lemmas.Bool.{false≢true}
use Rattle.bq_label_glob.proofs.unmatched.set_for.Goals as goal

pub returns-then-not-some_is_plain : goal.returns-then-not-some_is_plain
returns-then-not-some_is_plain c = λ plain. absurd (false≢true (sym c.if-not-some_is_plain.true ∙ (c.some_is_plain.ensures ∙ plain)))
