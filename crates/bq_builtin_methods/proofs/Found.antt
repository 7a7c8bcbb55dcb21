-- A row that is found by its name is the row of the call.
use Rattle.std.proofs.Common.{◌≡◌, ◌∙◌, sym, refl, ap, ℕ, suc, ◌-◌, ◌≤◌, Bool, true, false, cond, List, [], ◌∷◌, Option, Some, None, slice_get, arith}
use Rattle.std.specs.Map.{lookup, values_of}
use Rattle.std.specs.Str.{bytes_eq}
use Rattle.bq_base.specs.declared.fault.EvalFault.TheVariants.{NoMethod}
use Rattle.bq_value.specs.Datum.{Datum}
use Rattle.bq_builtin_machine.specs.Action.{Run, ◌>>◌, stop, given}
use Rattle.bq_builtin_machine.specs.Args.{Passed}
use Rattle.bq_builtin_machine.specs.State.{State}
use Rattle.bq_builtin_methods.specs.declared.row.Parameters.{Parameters}
use Rattle.bq_builtin_methods.specs.Method.{Method, fits}
use Rattle.bq_builtin_methods.specs.Call.{if_found, called_on, call_in}
use Rattle.bq_builtin_methods.specs.Row.{columns, row_from, called_at, called_row, IsRowOf}

-- ---- a row is found at its place or after it

abbrev IsFrom : ℕ → Option (ℕ × Parameters) → Type 0
IsFrom place None = Unit {0}
IsFrom place (Some found) = place ≤ found.0

from_next : (place : ℕ) (o : Option (ℕ × Parameters)) → IsFrom (suc place) o → IsFrom place o
from_next place None h = tt
from_next place (Some found) h = omega (arith, h)

from_by : (b : Bool) (place : ℕ) (own : Parameters) (o : Option (ℕ × Parameters)) → IsFrom (suc place) o → IsFrom place (cond b (Some (place, own)) o)
from_by true place own o h = omega arith
from_by false place own o h = from_next place o h

found_from : (place : ℕ) (name : List ℕ) (rows : List (List ℕ × Parameters)) → IsFrom place (row_from place name rows)
unfolding row_from
found_from place name [] = tt
found_from place name (x ∷ xs) = from_by (bytes_eq name x.0) place x.1 (row_from (suc place) name xs) (found_from (suc place) name xs)

-- ---- a call by name

module _ {R : Type 0} (name : List ℕ) (receiver : R) (args : Passed) (s : State) where
  -- the method at this place is called, with arguments that fit these parameters
  abbrev at_place : List (List ℕ × Method R) → Parameters → ℕ → Run State Datum
  at_place table parameters place = (given (fits parameters args) >> called_at (slice_get (values_of table) place) receiver args) s

  -- what was found, where the first row of the table has this place
  abbrev by_row : ℕ → List (List ℕ × Method R) → Option (ℕ × Parameters) → Run State Datum
  by_row place table None = stop NoMethod s
  by_row place table (Some found) = at_place table found.1 (found.0 - place)

  next_row : (place : ℕ) (x : List ℕ × Method R) (xs : List (List ℕ × Method R)) (o : Option (ℕ × Parameters)) → IsFrom (suc place) o → by_row (suc place) xs o ≡ by_row place (x ∷ xs) o
  next_row place x xs None h = refl
  next_row place x xs (Some found) h =
      let later : found.0 - place ≡ suc (found.0 - suc place) = omega (arith, h) in
      ap (at_place (x ∷ xs) found.1) (sym later)

  called_by : (b : Bool) (place : ℕ) (x : List ℕ × Method R) (xs : List (List ℕ × Method R)) (o : Option (ℕ × Parameters)) → IsFrom (suc place) o
      → if_found (lookup (bytes_eq name) xs) (λ method. called_on method receiver args) s ≡ by_row (suc place) xs o
      → if_found (cond b (Some x.1) (lookup (bytes_eq name) xs)) (λ method. called_on method receiver args) s ≡ by_row place (x ∷ xs) (cond b (Some (place, x.1.0)) o)
  called_by true place x xs o h e =
      let first : place - place ≡ 0 = omega arith in
      ap (at_place (x ∷ xs) x.1.0) (sym first)
  called_by false place x xs o h e = e ∙ next_row place x xs o h

  called_from : (place : ℕ) (table : List (List ℕ × Method R)) → if_found (lookup (bytes_eq name) table) (λ method. called_on method receiver args) s ≡ by_row place table (row_from place name (columns table))
  unfolding row_from
  called_from place [] = refl
  called_from place (x ∷ xs) =
      called_by (bytes_eq name x.0) place x xs (row_from (suc place) name (columns xs)) (found_from (suc place) name (columns xs)) (called_from (suc place) xs)

  by_first : (table : List (List ℕ × Method R)) (o : Option (ℕ × Parameters)) → by_row 0 table o ≡ called_row table o receiver args s
  by_first table None = refl
  by_first table (Some found) =
      let same : found.0 - 0 ≡ found.0 = omega arith in
      ap (at_place table found.1) same

pub row_is : {R : Type 0} (table : List (List ℕ × Method R)) (name : List ℕ) → IsRowOf table name (row_from 0 name (columns table))
unfolding call_in
row_is table name = λ receiver args s. called_from name receiver args s 0 table ∙ by_first name receiver args s table (row_from 0 name (columns table))
