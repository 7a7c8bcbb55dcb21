-- The methods of lists, and assignments to an index, are refused in their orders.
use Rattle.std.proofs.Common.{◌≡◌, ◌∙◌, ap, refl, ℕ, ◌+◌, inl, inr, List, [], ◌∷◌, length, Some, None, Result, Ok, Err}
use Rattle.std.specs.Prelude.{nat_le}
use Rattle.bq_base.specs.declared.fault.EvalFault.{EvalFault}
use Rattle.bq_base.proofs.Choices.{by_bool}
use Rattle.bq_value.specs.Contents.{items}
use Rattle.bq_value.specs.Datum.{Datum, int, cell}
use Rattle.bq_builtin_machine.specs.Action.{Action, following, given, ◌>>=◌}
use Rattle.bq_builtin_machine.specs.Cells.{changing, content}
use Rattle.bq_builtin_machine.specs.Iteration.{elements_in}
use Rattle.bq_builtin_machine.specs.State.{State}
use Rattle.bq_builtin_strings.specs.Length.{within, max_len}
use Rattle.bq_builtin_operators.specs.InPlace.{element_set, set_item, set_index}
use Rattle.bq_builtin_methods.specs.Arguments.{no_argument, one_argument, two_arguments, optional_argument, integer, index_or_last}
use Rattle.bq_builtin_methods.specs.List as list
use Rattle.bq_builtin_laws.specs.Collections.ListCalls as call
use Rattle.bq_builtin_methods.specs.List.{on_items, appended, extended, inserted, popped, cleared, find, drop_at, list_in}
use Rattle.bq_builtin_machine.specs.Answer.{and_then}
use Rattle.bq_builtin_machine.specs.Refusals.{Check, fault_of, fault_in, fault_then, first_fault, IsRefusedForFirst}
use Rattle.bq_builtin_laws.specs.Collections.Laws.{IsList}
use Rattle.bq_builtin_laws.specs.Collections.Orders.{frozen, walked, too_long, appending, clearing, extending, inserting, popping, removing, setting_element}
use Rattle.bq_builtin_laws.proofs.Collections.Changing.{changing_refused, before_refused}
use Rattle.bq_builtin_methods.proofs.Cases.{as_items}

-- ---- arguments

given_refused : {A B : Type 0} (r : Result A EvalFault) (why : EvalFault) (next : A → Action State B) (s : State) → r ≡ Err why → fault_of ((given r >>= next) s) ≡ first_fault (Some why ∷ [])
given_refused (Ok a) why next s h = cc
given_refused (Err kind) why next s h = let same : kind ≡ why = cc in ap Some same

module _ (home number : ℕ) (args : List Datum) (why : EvalFault) (s : State) where
  pub no_append : one_argument args ≡ Err why → IsRefusedForFirst (call.append home number args s) (Some why ∷ [])
  unfolding list.append
  no_append h = given_refused (and_then (one_argument args) (λ v. Ok (appended v))) why _ s (ap (λ r. and_then r (λ v. Ok (appended v))) h)

  pub no_extend : one_argument args ≡ Err why → IsRefusedForFirst (call.extend home number args s) (Some why ∷ [])
  unfolding list.extend
  no_extend h =
      given_refused (and_then (one_argument args) (λ x. and_then (elements_in s.store x) (λ ys. Ok (extended ys)))) why _ s
      (ap (λ r. and_then r (λ x. and_then (elements_in s.store x) (λ ys. Ok (extended ys)))) h)

  pub no_insert : two_arguments args ≡ Err why → IsRefusedForFirst (call.insert_at home number args s) (Some why ∷ [])
  unfolding list.insert_at
  no_insert h =
      given_refused (and_then (two_arguments args) (λ r. and_then (integer r.0) (λ i. Ok (inserted i r.1)))) why _ s
      (ap (λ o. and_then o (λ r. and_then (integer r.0) (λ i. Ok (inserted i r.1)))) h)

  pub no_remove : one_argument args ≡ Err why → IsRefusedForFirst (list.remove_value home number args s) (Some why ∷ [])
  unfolding list.remove_value
  no_remove h = given_refused (one_argument args) why _ s h

  pub no_pop : optional_argument args ≡ Err why → IsRefusedForFirst (call.pop home number args s) (Some why ∷ [])
  unfolding list.pop
  no_pop h =
      given_refused (and_then (optional_argument args) (λ o. and_then (index_or_last o) (λ i. Ok (popped i)))) why _ s
      (ap (λ r. and_then r (λ o. and_then (index_or_last o) (λ i. Ok (popped i)))) h)

  pub no_clear : no_argument args ≡ Err why → IsRefusedForFirst (call.clear home number args s) (Some why ∷ [])
  unfolding list.clear
  no_clear h = given_refused (and_then (no_argument args) (λ _. Ok cleared)) why _ s (ap (λ r. and_then r (λ _. Ok cleared)) h)

-- ---- what a change refuses

-- another last check
last : (a b c d : Check) → c ≡ d → first_fault (a ∷ b ∷ c ∷ []) ≡ first_fault (a ∷ b ∷ d ∷ [])
last a b c d e = ap (λ x. first_fault (a ∷ b ∷ x ∷ [])) e

room : {B : Type 0} (n : ℕ) (f : ℕ → B) → fault_in (and_then (within n) (λ m. Ok (f m))) ≡ too_long n
room n f = elim (by_bool (nat_le n max_len)) [
  | inl t ↦ rw t refl
  | inr t ↦ rw t refl
]

items_refused : (r : Result (Datum × List Datum) EvalFault) → fault_in (as_items r) ≡ fault_in r
items_refused (Ok p) = refl
items_refused (Err kind) = refl

module _ (home number : ℕ) (xs : List Datum) (s : State) (known : IsList s home number xs) where
  changed : (f : List Datum → Result (Datum × List Datum) EvalFault) → fault_of (changing home number (on_items f) s) ≡ first_fault (frozen s home ∷ walked s home number ∷ fault_in (f xs) ∷ [])
  unfolding on_items
  changed f = changing_refused home number (on_items f) s (items xs) known ∙ last (frozen s home) (walked s home number) (fault_in (as_items (f xs))) (fault_in (f xs)) (items_refused (f xs))

  pub append_refused : (v : Datum) → IsRefusedForFirst (call.append home number (v ∷ []) s) (appending s home number xs)
  unfolding list.append one_argument appended
  append_refused v = changed (appended v) ∙ last (frozen s home) (walked s home number) (fault_in (appended v xs)) (too_long (length xs + 1)) (room (length xs + 1) _)

  pub clear_refused : IsRefusedForFirst (call.clear home number [] s) (clearing s home number)
  unfolding list.clear no_argument cleared
  clear_refused = changed cleared ∙ two (frozen s home) (walked s home number)
    where
      two : (a b : Check) → first_fault (a ∷ b ∷ None ∷ []) ≡ first_fault (a ∷ b ∷ [])
      two (Some k) b = refl
      two None (Some k) = refl
      two None None = refl

  pub extend_refused : (x : Datum) → IsRefusedForFirst (call.extend home number (x ∷ []) s) (extending s home number xs x)
  unfolding list.extend one_argument extended
  extend_refused x = by_elements (elements_in s.store x)
    where
      by_elements : (r : Result (List Datum) EvalFault) → fault_of (following (given (and_then r (λ ys. Ok (extended ys))) s) (λ change. changing home number (on_items change))) ≡ first_fault (fault_in r ∷ frozen s home ∷ walked s home number ∷ fault_then r (λ ys. too_long (length xs + length ys)) ∷ [])
      by_elements (Ok ys) = changed (extended ys) ∙ last (frozen s home) (walked s home number) (fault_in (extended ys xs)) (too_long (length xs + length ys)) (room (length xs + length ys) _)
      by_elements (Err kind) = refl

  pub insert_refused : (at v : Datum) → IsRefusedForFirst (call.insert_at home number (at ∷ v ∷ []) s) (inserting s home number xs at)
  unfolding list.insert_at two_arguments integer inserted
  insert_refused (int i) v = changed (inserted i v) ∙ last (frozen s home) (walked s home number) (fault_in (inserted i v xs)) (too_long (length xs + 1)) (room (length xs + 1) _)
  insert_refused at v = refl

  pub pop_refused : (at : Datum) → IsRefusedForFirst (call.pop home number (at ∷ []) s) (popping s home number xs at)
  unfolding list.pop optional_argument index_or_last integer
  pop_refused (int i) = changed (popped i)
  pop_refused at = refl

  pub remove_refused : (v : Datum) → IsRefusedForFirst (list.remove_value home number (v ∷ []) s) (removing s home number v)
  unfolding list.remove_value one_argument list_in content
  remove_refused v = rw known (before_refused home number (find home number v None None >>= λ at. drop_at home number at) s)

  pub set_refused : (at v : Datum) → IsRefusedForFirst (set_index (cell home number) at v s) (setting_element s home number xs at v)
  unfolding set_index set_item content
  set_refused (int i) v = rw known (changing_refused home number (element_set i v) s (items xs) known)
  set_refused at v = rw known refl
