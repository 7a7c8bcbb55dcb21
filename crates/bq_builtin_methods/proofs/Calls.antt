-- Calls that are refused.
use Rattle.std.proofs.Common.{◌≡◌, ◌∙◌, refl, ap, subst, ℕ, ◌<◌, ◌⊎◌, inl, inr, Bool, true, false, cond, ◌&&◌, List, [], ◌∷◌, Option, Some, None, Ok, Err, length, nat_le, arith}
use Rattle.std.proofs.lemmas.Bool.Decides.{nat_tests}
use Rattle.std.specs.Map.{lookup}
use Rattle.std.specs.Str.{bytes_eq}
use Rattle.bq_base.specs.declared.fault.EvalFault.TheVariants.{Args, NoMethod}
use Rattle.bq_value_datum.specs.Class.{Class}
use Rattle.bq_value.specs.Datum.{Datum, none, boolean, int, string, tuple, range, cell, function, built_in, rule_function, attribute}
use Rattle.bq_value.specs.Contents.{Contents, items, pairs, rule}
use Rattle.bq_value.specs.Cells.{content_at}
use Rattle.bq_builtin_machine.specs.State.{State}
use Rattle.bq_builtin_machine.specs.Action.{following, given}
use Rattle.bq_builtin_machine.specs.Args.{Passed}
use Rattle.bq_builtin_methods.specs.Calling.{Calling, called}
use Rattle.bq_builtin_machine.specs.Cells.{content, or_wrong}
use Rattle.bq_builtin_methods.specs.declared.row.Parameters.{Parameters}
use Rattle.bq_builtin_methods.specs.declared.row.Parameters.TheVariants.{Positional, Any}
use Rattle.bq_builtin_methods.specs.Method.{Method, fits}
use Rattle.bq_builtin_methods.specs.Methods.{string_methods, list_methods, dict_methods}
use Rattle.bq_builtin_methods.specs.Call.{if_found, called_on, call_in, call_by, call_of_cell, call_method}
use Rattle.bq_builtin_methods.specs.TableLaws.{string_method, list_method, dict_method, has_methods, Refused}

-- ---- for any table

module _ {R : Type 0} (table : List (List ℕ × Method R)) (name : List ℕ) (receiver : R) (args : Passed) (s : State) where
  lacks : lookup (bytes_eq name) table ≡ None → Refused NoMethod s (call_in table name receiver args s)
  unfolding call_in
  lacks h = ap (λ o. if_found o (λ method. called_on method receiver args) s) h

  refuses : (method : Method R) → lookup (bytes_eq name) table ≡ Some method → fits method.0 args ≡ Err Args → Refused Args s (call_in table name receiver args s)
  unfolding call_in
  refuses method h refused =
      ap (λ o. if_found o (λ m. called_on m receiver args) s) h ∙ ap (λ r. following (given r s) (λ _. called (method.1 receiver) args)) refused

-- ---- by the type of the receiver

-- a call of what is in a cell
of_cell : (name : List ℕ) (home number : ℕ) (c : Contents) (args : Passed) (s : State) → content_at s.store home number ≡ Some c → call_method name (cell home number) args s ≡ call_by c name home number args s
unfolding call_method call_of_cell content
of_cell name home number c args s at = ap (λ o. following (given (or_wrong o) s) (λ d. call_by d name home number args)) at

pub string_lacks : (name text : List ℕ) (args : Passed) (s : State) → string_method name ≡ None → Refused NoMethod s (call_method name (string text) args s)
unfolding call_method
string_lacks name text args s h = lacks string_methods name text args s h

pub list_lacks : (name : List ℕ) (home number : ℕ) (values : List Datum) (args : Passed) (s : State) → content_at s.store home number ≡ Some (items values) → list_method name ≡ None → Refused NoMethod s (call_method name (cell home number) args s)
list_lacks name home number values args s at h = of_cell name home number (items values) args s at ∙ lacks list_methods name (home, number) args s h

pub dict_lacks : (name : List ℕ) (home number : ℕ) (dict : List (Datum × Datum)) (args : Passed) (s : State) → content_at s.store home number ≡ Some (pairs dict) → dict_method name ≡ None → Refused NoMethod s (call_method name (cell home number) args s)
dict_lacks name home number dict args s at h = of_cell name home number (pairs dict) args s at ∙ lacks dict_methods name (home, number) args s h

pub rule_lacks : (name : List ℕ) (home number : ℕ) (class : Class) (args : Passed) (s : State) → content_at s.store home number ≡ Some (rule class) → Refused NoMethod s (call_method name (cell home number) args s)
rule_lacks name home number class args s at = of_cell name home number (rule class) args s at

pub others_lack : (name : List ℕ) (receiver : Datum) (args : Passed) (s : State) → has_methods receiver ≡ false → Refused NoMethod s (call_method name receiver args s)
unfolding call_method
others_lack name none args s h = refl
others_lack name (boolean b) args s h = refl
others_lack name (int i) args s h = refl
others_lack name (string text) args s h = absurd (cc)
others_lack name (tuple xs) args s h = refl
others_lack name (range a b c) args s h = refl
others_lack name (cell home number) args s h = absurd (cc)
others_lack name (function home place own defaults) args s h = refl
others_lack name (built_in own) args s h = refl
others_lack name (rule_function f) args s h = refl
others_lack name (attribute a) args s h = refl

-- ---- arguments that a method doesn't take

and_false : (a b : Bool) → b ≡ false → (a && b) ≡ false
and_false true b h = h
and_false false b h = refl

false_and : (a b : Bool) → a ≡ false → (a && b) ≡ false
false_and a b h = ap (λ c. c && b) h

refused_by : (b : Bool) → b ≡ false → cond b (Ok (tt {0})) (Err Args) ≡ Err Args
refused_by b h = ap (λ c. cond c (Ok (tt {0})) (Err Args)) h

by_name : (fewest most : ℕ) (args : Passed) (a : List ℕ × Datum) (others : List (List ℕ × Datum)) → args.named ≡ a ∷ others → fits (Positional fewest most) args ≡ Err Args
unfolding fits
by_name fewest most args a others h =
    let some : 0 < length args.named = omega (arith, ap length h) in
    let no : nat_le (length args.named) 0 ≡ false = grind (arith, nat_tests, some) in
    refused_by _ (false_and _ (nat_le fewest (length args.positional) && nat_le (length args.positional) most) no)

by_number : (fewest most : ℕ) (args : Passed) → (length args.positional < fewest) ⊎ (most < length args.positional) → fits (Positional fewest most) args ≡ Err Args
unfolding fits
by_number fewest most args (inl few) =
    let no : nat_le fewest (length args.positional) ≡ false = grind (arith, nat_tests, few) in
    refused_by _ (and_false (nat_le (length args.named) 0) _ (false_and _ (nat_le (length args.positional) most) no))
by_number fewest most args (inr many) =
    let no : nat_le (length args.positional) most ≡ false = grind (arith, nat_tests, many) in
    refused_by _ (and_false (nat_le (length args.named) 0) _ (and_false (nat_le fewest (length args.positional)) _ no))

-- ---- a table whose methods all take positional arguments

abbrev is_positional : Parameters → Bool
is_positional (Positional fewest most) = true
is_positional Any = false

abbrev are_positional : {R : Type 0} → List (List ℕ × Method R) → Bool
are_positional [] = true
are_positional (row ∷ rows) = is_positional row.1.0 && are_positional rows

both : (a b : Bool) → (a && b) ≡ true → (a ≡ true) × (b ≡ true)
both true b h = (refl, h)
both false b h = absurd (cc)

module _ {R : Type 0} where
  chosen : (b : Bool) (own : Method R) (o : Option (Method R)) (method : Method R) → is_positional own.0 ≡ true → (o ≡ Some method → is_positional method.0 ≡ true) → cond b (Some own) o ≡ Some method → is_positional method.0 ≡ true
  chosen true own o method h k e = let same : own ≡ method = cc in subst (λ (m : Method R). is_positional m.0 ≡ true) same h
  chosen false own o method h k e = k e

  positional : (table : List (List ℕ × Method R)) (name : List ℕ) (method : Method R) → are_positional table ≡ true → lookup (bytes_eq name) table ≡ Some method → is_positional method.0 ≡ true
  positional [] name method h e = absurd (cc)
  positional (row ∷ rows) name method h e =
      let p = both (is_positional row.1.0) (are_positional rows) h in
      chosen (bytes_eq name row.0) row.1 (lookup (bytes_eq name) rows) method p.0 (positional rows name method p.1) e

lists_positional : are_positional list_methods ≡ true
unfolding list_methods
lists_positional = refl

by_any_name : (parameters : Parameters) (args : Passed) (a : List ℕ × Datum) (others : List (List ℕ × Datum)) → is_positional parameters ≡ true → args.named ≡ a ∷ others → fits parameters args ≡ Err Args
by_any_name (Positional fewest most) args a others is h = by_name fewest most args a others h
by_any_name Any args a others is h = absurd (cc)

-- ---- by the type of the receiver

pub list_by_name : (name : List ℕ) (method : Method (ℕ × ℕ)) (home number : ℕ) (values : List Datum) (args : Passed) (a : List ℕ × Datum) (others : List (List ℕ × Datum)) (s : State) → content_at s.store home number ≡ Some (items values) → list_method name ≡ Some method
    → args.named ≡ a ∷ others → Refused Args s (call_method name (cell home number) args s)
list_by_name name method home number values args a others s at h named =
    of_cell name home number (items values) args s at ∙ refuses list_methods name (home, number) args s method h (by_any_name method.0 args a others (positional list_methods name method lists_positional h) named)

pub dict_by_name : (name : List ℕ) (fewest most : ℕ) (calling : ℕ × ℕ → Calling) (home number : ℕ) (dict : List (Datum × Datum)) (args : Passed) (a : List ℕ × Datum) (others : List (List ℕ × Datum)) (s : State) → content_at s.store home number ≡ Some (pairs dict)
    → dict_method name ≡ Some (Positional fewest most, calling) → args.named ≡ a ∷ others → Refused Args s (call_method name (cell home number) args s)
dict_by_name name fewest most calling home number dict args a others s at h named =
    of_cell name home number (pairs dict) args s at ∙ refuses dict_methods name (home, number) args s (Positional fewest most, calling) h (by_name fewest most args a others named)

module _ (name : List ℕ) (fewest most : ℕ) (args : Passed) (s : State) (other : (length args.positional < fewest) ⊎ (most < length args.positional)) where
  pub string_by_number : (text : List ℕ) (calling : List ℕ → Calling) → string_method name ≡ Some (Positional fewest most, calling) → Refused Args s (call_method name (string text) args s)
  unfolding call_method
  string_by_number text calling h = refuses string_methods name text args s (Positional fewest most, calling) h (by_number fewest most args other)

  pub list_by_number : (home number : ℕ) (values : List Datum) (calling : ℕ × ℕ → Calling) → content_at s.store home number ≡ Some (items values) → list_method name ≡ Some (Positional fewest most, calling) → Refused Args s (call_method name (cell home number) args s)
  list_by_number home number values calling at h =
      of_cell name home number (items values) args s at ∙ refuses list_methods name (home, number) args s (Positional fewest most, calling) h (by_number fewest most args other)

  pub dict_by_number : (home number : ℕ) (dict : List (Datum × Datum)) (calling : ℕ × ℕ → Calling) → content_at s.store home number ≡ Some (pairs dict) → dict_method name ≡ Some (Positional fewest most, calling) → Refused Args s (call_method name (cell home number) args s)
  dict_by_number home number dict calling at h =
      of_cell name home number (pairs dict) args s at ∙ refuses dict_methods name (home, number) args s (Positional fewest most, calling) h (by_number fewest most args other)
