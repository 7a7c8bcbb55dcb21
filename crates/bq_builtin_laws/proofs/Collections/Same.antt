-- `+=` keeps a list the same list.
use Rattle.std.proofs.Common.{◌≡◌, ◌∙◌, sym, ap, refl, ℕ, Bool, true, false, cond, List, [], ◌++◌, length, Some, Result, Ok, Err}
use Rattle.std.specs.Prelude.{nat_le}
use Rattle.bq_base.specs.declared.fault.EvalFault.{EvalFault}
use Rattle.bq_base.specs.declared.fault.EvalFault.TheVariants.{TooLong}
use Rattle.bq_parse_grammar.specs.declared.tree.Operator.TheVariants as op
use Rattle.bq_value.specs.Cells.{content_at}
use Rattle.bq_value.specs.Contents.{Contents, items}
use Rattle.bq_value.specs.Datum.{Datum, cell}
use Rattle.bq_builtin_machine.specs.Action.{Run, done, stopped, following, pure}
use Rattle.bq_builtin_machine.specs.Cells.{changing}
use Rattle.bq_builtin_machine.specs.Iteration.{elements_in, elements}
use Rattle.bq_builtin_machine.specs.State.{State}
use Rattle.bq_builtin_strings.specs.Length.{max_len}
use Rattle.bq_builtin_operators.specs.InPlace.{list_extended, augment_sum, augment}
use Rattle.bq_builtin_operators.specs.Operand.{list_in}
use Rattle.bq_builtin_machine.specs.Answer.{and_then}
use Rattle.bq_builtin_operators.specs.Sequence.{joined}
use Rattle.bq_builtin_operators.proofs.Cases.{list_of_content}
use Rattle.bq_builtin_methods.proofs.Ends.{changed}
use Rattle.bq_builtin_laws.specs.Collections.Laws.{IsList, StaysTheSameList}

abbrev content_of : Result (Unit {0} × Contents) EvalFault → Contents
content_of (Ok r) = r.1
content_of (Err kind) = items []

module _ (home number : ℕ) (xs more : List Datum) where
  extended_by : (b : Bool) (u : Unit {0}) (now : Contents) → and_then {B = Unit {0} × Contents} (cond b (Ok (xs ++ more)) (Err TooLong)) (λ ys. Ok (tt {0}, items ys)) ≡ Ok (u, now) → now ≡ items (xs ++ more)
  extended_by true u now h = sym (ap content_of h)
  extended_by false u now h = absurd (cc)

  extended : (u : Unit {0}) (now : Contents) → list_extended more (items xs) ≡ Ok (u, now) → now ≡ items (xs ++ more)
  unfolding list_extended joined
  extended u now h = extended_by (nat_le (length (xs ++ more)) max_len) u now h

  module _ (b answer : Datum) (s t : State) (known : IsList s home number xs) (read : elements_in s.store b ≡ Ok more) where
    by_run : (r : Run State (Unit {0})) → changing home number (list_extended more) s ≡ r → following r (λ u. pure (cell home number)) ≡ done answer t → StaysTheSameList home number xs more answer s t
    by_run (stopped why) e h = absurd (cc)
    by_run (done u v) e h =
        let c = changed home number (list_extended more) s v (items xs) u known e in
        let is : cell home number ≡ answer = cc in
        let ends : v ≡ t = cc in
        record {
          same = sym is;
          values = ap (λ (w : State). content_at w.store home number) (sym ends) ∙ (c.there ∙ ap Some (extended u c.now c.by));
        }

    pub stays : augment op.Add (cell home number) b s ≡ done answer t → StaysTheSameList home number xs more answer s t
    unfolding augment augment_sum elements
    stays h =
        let own : list_in s.store (cell home number) ≡ Ok xs = ap list_of_content known in
        let e : augment op.Add (cell home number) b s ≡ following (changing home number (list_extended more) s) (λ u. pure (cell home number)) = rw (own, read) refl in
        by_run (changing home number (list_extended more) s) refl (sym e ∙ h)
