-- A content that is changed as a definition says, in a machine in which it may be changed.
use Rattle.std.proofs.Common.{◌≡◌, ◌∙◌, ap, ℕ, Some, Result, Ok, Err}
use Rattle.bq_base.specs.Gives.{Gives}
use Rattle.bq_base.specs.declared.fault.EvalFault.{EvalFault}
use Rattle.bq_value.specs.declared.error.EvalErr.{EvalErr}
use Rattle.bq_value.specs.declared.error.EvalErr.TheVariants.{Bad}
use Rattle.bq_value.specs.Datum.{Datum}
use Rattle.bq_value.specs.Contents.{Contents}
use Rattle.bq_value.specs.Cells.{content_at}
use Rattle.bq_builtin_machine.specs.State.{State}
use Rattle.bq_builtin_machine.specs.Action.{Action, done, following, given, pure, ◌>>=◌, ◌>>◌, Does}
use Rattle.bq_builtin_machine.specs.Cells.{Change, changing, can_change, content, or_wrong, put_content, with_content}

-- what is left to do with the content
abbrev with_changed : ℕ → Result (Datum × Contents) EvalFault → Action State Datum
with_changed number r = given r >>= λ p. put_content number p.1 >> pure p.0

allowed : (home number : ℕ) (f : Change Datum) (s : State) (c : Contents) → can_change home number s ≡ done (tt {0}) s → content_at s.store home number ≡ Some c → changing home number f s ≡ with_changed number (f c) s
unfolding changing content
allowed home number f s c may at =
    ap (λ r. following r (λ u. content home number >>= λ d. with_changed number (f d))) may
    ∙ ap (λ o. following (given (or_wrong o) s) (λ d. with_changed number (f d))) at

pub content_changed : (home number : ℕ) (f : Change Datum) (s : State) (c d : Contents) (result : Result Datum EvalErr) → can_change home number s ≡ done (tt {0}) s → content_at s.store home number ≡ Some c → Gives (λ v. (v, d)) Bad result (f c) → Does (λ v. v) result (with_content s number d) (changing home number f s)
content_changed home number f s c d (Ok v) may at gives = allowed home number f s c may at ∙ ap (λ r. with_changed number r s) gives
content_changed home number f s c d (Err e) may at gives = λ why is. allowed home number f s c may at ∙ ap (λ r. with_changed number r s) (gives why is)
