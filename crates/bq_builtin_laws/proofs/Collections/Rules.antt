-- A rule is refused for its type, before it is asked whether it may be changed.
use Rattle.std.proofs.Common.{◌≡◌, ◌∙◌, ap, ℕ, Some, Option}
use Rattle.bq_base.specs.declared.fault.EvalFault.TheVariants.{WrongType}
use Rattle.bq_parse_grammar.specs.declared.tree.Operator.TheVariants as op
use Rattle.bq_value_datum.specs.Class.{Class}
use Rattle.bq_value.specs.Contents.{Contents, rule}
use Rattle.bq_value.specs.Datum.{Datum, cell}
use Rattle.bq_builtin_machine.specs.Action.{Run, stopped, following, ◌>>=◌, given, pure, look}
use Rattle.bq_builtin_machine.specs.Cells.{content, or_wrong, changing}
use Rattle.bq_builtin_machine.specs.Iteration.{elements}
use Rattle.bq_builtin_machine.specs.State.{State, stop_at}
use Rattle.bq_builtin_operators.specs.InPlace.{set_in, set_item, set_index, augment_sum, augment_union, augment, list_extended, dict_united}
use Rattle.bq_builtin_operators.specs.Operand.{dict_in}
use Rattle.bq_builtin_laws.specs.Collections.Laws.{IsRule}
use Rattle.bq_builtin_operators.proofs.Cases.{dict_of_content, list_of_content}

pub no_set : (home number : ℕ) (class : Class) (at v : Datum) (s : State) → IsRule s home number class → set_index (cell home number) at v s ≡ stopped (stop_at WrongType s)
unfolding set_index set_item content
no_set home number class at v s known = ap (λ (o : Option Contents). following (given (or_wrong o) s) (λ c. set_in home number at v c)) known

pub no_sum : (home number : ℕ) (class : Class) (b : Datum) (s : State) → IsRule s home number class → augment op.Add (cell home number) b s ≡ stopped (stop_at WrongType s)
unfolding augment augment_sum
no_sum home number class b s known =
    ap (λ (o : Option Contents). following (given (list_of_content o) s) (λ xs. elements b >>= λ more. changing home number (list_extended more) >>= λ u. pure (cell home number))) known

pub no_union : (home number : ℕ) (class : Class) (b : Datum) (s : State) → IsRule s home number class → augment op.BitOr (cell home number) b s ≡ stopped (stop_at WrongType s)
unfolding augment augment_union
no_union home number class b s known =
    ap (λ (o : Option Contents). following (given (dict_of_content o) s) (λ ps. look (λ t. dict_in t.store b) >>= λ more. changing home number (dict_united more) >>= λ u. pure (cell home number))) known
