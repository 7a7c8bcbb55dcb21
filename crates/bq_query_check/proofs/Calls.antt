-- What a function takes, it says something of: one set, or two.
use Rattle.std.proofs.Common.{◌≡◌, ◌∙◌, ◌≤◌, ◌+◌, ◌++◌, ℕ, zero, suc, List, [], ◌∷◌, Bool, false, true, Option, None, Some, refl, sym, ap, subst, if◌then◌else◌, arith}
use Rattle.std.proofs.lemmas.Bool.{false≢true}
use Rattle.std.proofs.lemmas.Bool.Decides.{nat_tests}
use Rattle.std.proofs.lemmas.List.{length-append}
use Rattle.std.specs.Prelude.{length, nat_le, ◌&&◌}
use Rattle.bq_query_lex.specs.declared.query_error.QueryErr.TheVariants.{Arguments}
use Rattle.bq_query_function.specs.declared.signature.QueryArgumentKind.{QueryArgumentKind}
use Rattle.bq_query_function.specs.declared.signature.QueryArgumentKind.TheVariants as kind
use Rattle.bq_query_function.specs.Functions.{Row, set_of_one, set_of_two}
use Rattle.bq_query_function.specs.Calls.{function_named, mandatory}
use Rattle.bq_query_function.specs.Sets.{SetOfOne, SetOfTwo}
use Rattle.bq_query_function.proofs.Rows.{is_one_or_two, has_sets, named_is_row}
use Rattle.bq_query_parse.specs.declared.tree.Query.{Query}
use Rattle.bq_query_check.specs.Verdict as spec
use Rattle.bq_query_check.specs.Verdict.{Fault, fits}
use Rattle.bq_query_check.specs.Formula.{Formula, one, two}
use Rattle.bq_query_check.specs.Call.{Given, nothing, applied, called}
use Rattle.bq_query_check.specs.FormulaOf.{AreArgumentsOf, IsArgumentOf}

-- ---- how many sets a call has

none_less : (m : ℕ) → 1 + m ≤ 0 → ⊥
none_less m h = omega (h, arith)

-- no argument is left, and none that must be there
none_needed : (n : ℕ) (ks : List QueryArgumentKind) → has_sets n ks ≡ true → mandatory ks ≤ 0 → is_one_or_two n ≡ true
none_needed n [] row few = row
none_needed n (kind.Query ∷ ks) row few = absurd (none_less (mandatory ks) few)
none_needed n (kind.Pattern ∷ ks) row few = absurd (none_less (mandatory ks) few)
none_needed n (kind.Attribute ∷ ks) row few = absurd (none_less (mandatory ks) few)
none_needed n (kind.Number ∷ []) row few = row
none_needed n (kind.Number ∷ k ∷ ks) row few = absurd (false≢true row)

-- a number comes last
alone : (n : ℕ) (ks : List QueryArgumentKind) → has_sets n (kind.Number ∷ ks) ≡ true → (ks ≡ []) × (is_one_or_two n ≡ true)
alone n [] row = (refl, row)
alone n (k ∷ ks) row = absurd (false≢true row)

no_kind : {ns : List (List ℕ)} {ks : List QueryArgumentKind} {xs : List Query} {g h : Given} → AreArgumentsOf ns ks xs g h → ks ≡ [] → h.sets ≡ g.sets
no_kind AreArgumentsOf.no_argument e = refl
no_kind (AreArgumentsOf.one_argument is rest) e = cc

-- after one that must be there
fewer : (x : Query) (xs : List Query) (ks : List QueryArgumentKind) → 1 + mandatory ks ≤ length (x ∷ xs) → mandatory ks ≤ length xs
fewer x xs ks h = omega (h, arith)

sets_read : {ns : List (List ℕ)} {ks : List QueryArgumentKind} {xs : List Query} {g h : Given} → AreArgumentsOf ns ks xs g h → (n : ℕ) → length g.sets ≡ n → has_sets n ks ≡ true
    → mandatory ks ≤ length xs → is_one_or_two (length h.sets) ≡ true
sets_read (AreArgumentsOf.no_argument {ks = ks} {g = g}) n long row few = subst (λ (m : ℕ). is_one_or_two m ≡ true) (sym long) (none_needed n ks row few)
sets_read (AreArgumentsOf.one_argument {ks = ks} {x = x} {xs = xs} (IsArgumentOf.set {a = a} {g = g} is) rest) n long row few =
    let longer : length (g.sets ++ a ∷ []) ≡ suc n = let l = length-append g.sets (a ∷ []) in omega (l, long, arith) in
    sets_read rest (suc n) longer row (fewer x xs ks few)
sets_read (AreArgumentsOf.one_argument {ks = ks} {x = x} {xs = xs} (IsArgumentOf.attribute is) rest) n long row few = sets_read rest n long row (fewer x xs ks few)
sets_read (AreArgumentsOf.one_argument {ks = ks} {x = x} {xs = xs} (IsArgumentOf.pattern is) rest) n long row few = sets_read rest n long row (fewer x xs ks few)
sets_read (AreArgumentsOf.one_argument {ks = ks} (IsArgumentOf.limit {g = g} is) rest) n long row few =
    let last = alone n ks row in
    subst (λ (m : ℕ). is_one_or_two m ≡ true) (sym (ap (λ (fs : List Formula). length fs) (no_kind rest last.0) ∙ long)) last.1

-- one or two sets are what a function is applied to
is_applied_to : (s : SetOfOne) (t : SetOfTwo) (fs : List Formula) → is_one_or_two (length fs) ≡ true → (y : Formula) × (applied s t fs ≡ Some y)
is_applied_to s t [] few = absurd (false≢true few)
is_applied_to s t (a ∷ []) few = (one s a, refl)
is_applied_to s t (a ∷ b ∷ []) few = (two t a b, refl)
is_applied_to s t (a ∷ b ∷ c ∷ fs) few = absurd (false≢true few)

needed : (row : Row) (n : ℕ) → fits row n ≡ true → mandatory row.parameters ≤ n
needed row n h = grind (arith, nat_tests, h)

-- so the call of a function with arguments that it takes says something
pub is_called : {ns : List (List ℕ)} {xs : List Query} {g : Given} (name : List ℕ) (row : Row) → function_named name ≡ Some row → AreArgumentsOf ns row.parameters xs nothing g → fits row (length xs) ≡ true
    → (y : Formula) × (called row g ≡ Some y)
is_called {xs = xs} {g = g} name row known read fit =
    is_applied_to (set_of_one row.function g.attribute g.pattern g.limit) (set_of_two row.function g.attribute g.pattern g.limit) g.sets
    (sets_read read 0 refl (named_is_row name row known) (needed row (length xs) fit))

-- ---- how many arguments it takes

abbrev by_function : List ℕ → ℕ → Option Row → Fault
by_function name n o = elim o [ Some row ↦ if fits row n then None else Some Arguments | None ↦ Some (spec.unknown name) ]

pub function_fits : (name : List ℕ) (n : ℕ) (row : Row) → spec.function name n ≡ None → function_named name ≡ Some row → fits row n ≡ true
function_fits name n row none known = fits_by (fits row n) (ap (by_function name n) (sym known) ∙ none)
  where
    some_none : Some Arguments ≡ None → ⊥
    some_none e = cc

    fits_by : (b : Bool) → (if b then None else Some Arguments) ≡ None → b ≡ true
    fits_by true e = refl
    fits_by false e = absurd (some_none e)

-- ---- what it says

-- what a function says of formulas is of one of them, or of two
pub data IsApplied : List Formula → Formula → Type 0 where
  of_one : {s : SetOfOne} {a : Formula} → IsApplied (a ∷ []) (one s a)
  of_two : {t : SetOfTwo} {a b : Formula} → IsApplied (a ∷ b ∷ []) (two t a b)

pub none_some : {A : Type 0} (x : A) → None ≡ Some x → ⊥
none_some x e = cc

pub same_some : {A : Type 0} (x y : A) → Some x ≡ Some y → x ≡ y
same_some x y e = cc

is_applied : (s : SetOfOne) (t : SetOfTwo) (fs : List Formula) (y : Formula) → applied s t fs ≡ Some y → IsApplied fs y
is_applied s t (a ∷ []) y e = subst (IsApplied (a ∷ [])) (same_some (one s a) y e) IsApplied.of_one
is_applied s t (a ∷ b ∷ []) y e = subst (IsApplied (a ∷ b ∷ [])) (same_some (two t a b) y e) IsApplied.of_two
is_applied s t fs y e = absurd (none_some y e)

pub called_is_applied : (row : Row) (g : Given) (y : Formula) → called row g ≡ Some y → IsApplied g.sets y
called_is_applied row g y e =
    is_applied (set_of_one row.function g.attribute g.pattern g.limit) (set_of_two row.function g.attribute g.pattern g.limit) g.sets y e
