-- What is put into a list is taken out by its place.
use Rattle.std.proofs.Common.{◌≡◌, ◌≤◌, ◌∙◌, sym, refl, ap, arith, ℕ, zero, suc, ◌+◌, ◌-◌, ℤ, pos, negsuc, List, [], ◌∷◌, ◌++◌, length, insert, remove, slice_get, Option, Some, Result, Ok, Err}
use Rattle.std.proofs.lemmas.Bool.Decides.{nat_tests}
use Rattle.bq_base.specs.declared.fault.EvalFault.{EvalFault}
use Rattle.bq_builtin_strings.specs.Length.{within}
use Rattle.bq_builtin_strings.specs.Place.{clamped, indexed}
use Rattle.bq_value.specs.Datum.{Datum, none}
use Rattle.bq_builtin_methods.specs.List.{appended, inserted, popped, taken}
use Rattle.bq_builtin_machine.specs.Answer.{and_then}
use Rattle.bq_builtin_methods.proofs.Cases.{taken_by}

there : (xs : List Datum) (i : ℕ) (v : Datum) → i ≤ length xs → slice_get (insert xs i v) i ≡ Some v
there [] zero v h = refl
there [] (suc i) v h = absurd (omega arith)
there (x ∷ xs) zero v h = refl
there (x ∷ xs) (suc i) v h = there xs i v (omega arith)

taken_again : (xs : List Datum) (i : ℕ) (v : Datum) → i ≤ length xs → remove (insert xs i v) i ≡ xs
taken_again [] zero v h = refl
taken_again [] (suc i) v h = absurd (omega arith)
taken_again (x ∷ xs) zero v h = refl
taken_again (x ∷ xs) (suc i) v h = ap (λ ys. x ∷ ys) (taken_again xs i v (omega arith))

at_end : (xs : List Datum) (v : Datum) → xs ++ v ∷ [] ≡ insert xs (length xs) v
at_end [] v = refl
at_end (x ∷ xs) v = ap (λ ys. x ∷ ys) (at_end xs v)

abbrev answer : Datum → List Datum → Result (Datum × List Datum) EvalFault
answer v xs = Ok (v, xs)

taken_from : (xs ys : List Datum) (at : ℕ) (v : Datum) → at ≤ length xs → insert xs at v ≡ ys → taken at ys ≡ Ok (v, xs)
taken_from xs ys at v h e =
    let here : slice_get ys at ≡ Some v = ap (λ (zs : List Datum). slice_get zs at) (sym e) ∙ there xs at v h in
    let rest : remove ys at ≡ xs = ap (λ (zs : List Datum). remove zs at) (sym e) ∙ taken_again xs at v h in
    ap (λ (o : Option Datum). taken_by o at ys) here ∙ ap (answer v) rest

within_list : (len : ℕ) (i : ℤ) → clamped len i ≤ len
within_list len (pos k) = omega arith
within_list len (negsuc k) = omega arith

changed : (r : Result ℕ EvalFault) (xs ys : List Datum) (a : Datum) → and_then r (λ n. answer none xs) ≡ answer a ys → xs ≡ ys
changed (Ok n) xs ys a e =
    let is : ◌≡◌ {A = Datum × List Datum} (none, xs) (a, ys) = cc in
    ap (λ r. r.1) is
changed (Err why) xs ys a e = absurd (cc)

pub inserted_taken : (i : ℤ) (a v : Datum) (xs ys : List Datum) → inserted i v xs ≡ Ok (a, ys) → taken (clamped (length xs) i) ys ≡ Ok (v, xs)
unfolding inserted
inserted_taken i a v xs ys e =
    let at : ℕ = clamped (length xs) i in
    taken_from xs ys at v (within_list (length xs) i) (changed (within (length xs + 1)) (insert xs at v) ys a e)

longer : (xs : List Datum) (v : Datum) → length (xs ++ v ∷ []) ≡ suc (length xs)
longer [] v = refl
longer (x ∷ xs) v = ap suc (longer xs v)

last_place : (n : ℕ) → indexed (suc n) (negsuc 0) ≡ Ok n
last_place n = grind (arith, nat_tests)

pub appended_popped : (a v : Datum) (xs ys : List Datum) → appended v xs ≡ Ok (a, ys) → popped (negsuc 0) ys ≡ Ok (v, xs)
unfolding appended popped
appended_popped a v xs ys e =
    let is : xs ++ v ∷ [] ≡ ys = changed (within (length xs + 1)) (xs ++ v ∷ []) ys a e in
    let len : length ys ≡ suc (length xs) = ap length (sym is) ∙ longer xs v in
    let place : indexed (length ys) (negsuc 0) ≡ Ok (length xs) = ap (λ n. indexed n (negsuc 0)) len ∙ last_place (length xs) in
    ap (λ r. and_then r (λ at. taken at ys)) place
    ∙ taken_from xs ys (length xs) v (omega arith) (sym (at_end xs v) ∙ is)
