-- What is in a list, a tuple or a dict.
use Rattle.std.proofs.Common.{◌≡◌, ◌∙◌, refl, sym, ap, ℕ, Bool, true, false, List, [], ◌∷◌, Option, Some, None, Ok, Err}
use Rattle.std.specs.Prelude.{is_some}
use Rattle.std.specs.List.{AllByRecursion}
use Rattle.std.proofs.lemmas.Bool.{false≢true}
use Rattle.bq_base.specs.declared.fault.EvalFault.{EvalFault}
use Rattle.bq_base.specs.declared.fault.EvalFault.TheVariants.{NoKey}
use Rattle.bq_value.specs.Cells.{StoreView}
use Rattle.bq_value.specs.Contents.{Contents}
use Rattle.bq_value.specs.Datum.{Datum, cell}
use Rattle.bq_value.specs.Pairs.{found}
use Rattle.bq_value.specs.Looked.{Looked, max_levels}
use Rattle.bq_value.specs.KeyWalk.{walked_at, keyed}
use Rattle.bq_builtin_machine.specs.Machine.{looked_equal}
use Rattle.bq_builtin_operators.specs.Membership.{if_not, among, in_list, in_dict, in_content, contained}
use Rattle.bq_builtin_operators.specs.Subscript.{or_fault, at_no_cost, value_in, content_item, item_of}
use Rattle.bq_builtin_laws.specs.Operators.Members.{HasElements, IsEqualToOne, IsNotEqual, MembersAreEqualToAnElement, KeysHaveValues}
use Rattle.bq_builtin_operators.proofs.Cases.{among_keys, value_by}

abbrev answer : Bool → ℕ → Looked Bool
answer so left = Ok (so, left)

abbrev refusal : EvalFault → Looked Bool
refusal why = Err why

no_refusal : (so : Bool) (left : ℕ) (why : EvalFault) → refusal why ≡ answer so left → ⊥
no_refusal so left why e = cc

no_answer : (so : Bool) (left : ℕ) (why : EvalFault) → answer so left ≡ refusal why → ⊥
no_answer so left why e = cc

abbrev said : Looked Bool → Bool
said (Ok p) = p.0
said (Err why) = false

abbrev left_by : Looked Bool → ℕ
left_by (Ok p) = p.1
left_by (Err why) = 0

unlike : (k left : ℕ) → answer true k ≡ answer false left → ⊥
unlike k left e = false≢true (sym (ap said e))

other : (k left : ℕ) → answer false k ≡ answer true left → ⊥
other k left e = false≢true (ap said e)

-- ---- lists and tuples

module _ (s : StoreView) (v : Datum) where
  inside_by : (x : Datum) (xs : List Datum) (n left : ℕ) (r : Looked Bool) → looked_equal s n v x ≡ r
      → ((k : ℕ) → among (looked_equal s) k v xs ≡ Ok (true, left) → IsEqualToOne s v xs left)
      → if_not r (λ k. among (looked_equal s) k v xs) ≡ Ok (true, left) → IsEqualToOne s v (x ∷ xs) left
  inside_by x xs n left (Ok (true, k)) h later e = record { before = []; element = x; after = xs; elements = refl; steps = n; equal = h ∙ e }
  inside_by x xs n left (Ok (false, k)) h later e =
      let r = later k e in
      record { before = x ∷ r.before; element = r.element; after = r.after; elements = ap (λ (ys : List Datum). x ∷ ys) r.elements; steps = r.steps; equal = r.equal }
  inside_by x xs n left (Err why) h later e = absurd (no_refusal true left why e)

  inside : (xs : List Datum) (n left : ℕ) → among (looked_equal s) n v xs ≡ Ok (true, left) → IsEqualToOne s v xs left
  inside [] n left e = absurd (other n left e)
  inside (x ∷ xs) n left e = inside_by x xs n left (looked_equal s n v x) refl (λ k. inside xs k left) e

  outside_by : (x : Datum) (xs : List Datum) (n left : ℕ) (r : Looked Bool) → looked_equal s n v x ≡ r
      → ((k : ℕ) → among (looked_equal s) k v xs ≡ Ok (false, left) → AllByRecursion (IsNotEqual s v) xs)
      → if_not r (λ k. among (looked_equal s) k v xs) ≡ Ok (false, left) → AllByRecursion (IsNotEqual s v) (x ∷ xs)
  outside_by x xs n left (Ok (true, k)) h later e = absurd (unlike k left e)
  outside_by x xs n left (Ok (false, k)) h later e = (record { steps = n; left = k; unequal = h }, later k e)
  outside_by x xs n left (Err why) h later e = absurd (no_refusal false left why e)

  outside : (xs : List Datum) (n left : ℕ) → among (looked_equal s) n v xs ≡ Ok (false, left) → AllByRecursion (IsNotEqual s v) xs
  outside [] n left e = tt
  outside (x ∷ xs) n left e = outside_by x xs n left (looked_equal s n v x) refl (λ k. outside xs k left) e

  looked_among : (n : ℕ) (c : Datum) (xs : List Datum) → HasElements s c xs → contained s n v c ≡ among (looked_equal s) n v xs
  unfolding in_list
  looked_among n c xs (HasElements.of_tuple values e f) = ap (contained s n v) e ∙ ap (among (looked_equal s) n v) (sym f)
  looked_among n c xs (HasElements.of_list home number e f) = ap (contained s n v) e ∙ ap (in_content s n v) f

pub members : MembersAreEqualToAnElement
members s n v c xs has = record {
  inside = λ left e. inside s v xs n left (sym (looked_among s v n c xs has) ∙ e);
  outside = λ left e. outside s v xs n left (sym (looked_among s v n c xs has) ∙ e);
}

-- ---- dicts

abbrev value : Datum → ℕ → Looked Datum
value x left = Ok (x, left)

same_left : (so : Bool) (k left : ℕ) → answer so k ≡ answer so left → k ≡ left
same_left so k left e = ap left_by e

there_by : (k left : ℕ) (o : Option Datum) → answer (is_some o) k ≡ answer true left → (x : Datum) × (at_no_cost k (or_fault NoKey o) ≡ Ok (x, left))
there_by k left None e = absurd (other k left e)
there_by k left (Some x) e = (x, ap (value x) (same_left true k left e))

there : (ps : List (Datum × Datum)) (left : ℕ) (r : Looked Datum) → among_keys r ps ≡ Ok (true, left) → (x : Datum) × (value_by ps r ≡ Ok (x, left))
there ps left (Ok (key, k)) e = there_by k left (found key ps) e
there ps left (Err why) e = absurd (no_refusal true left why e)

absent_by : (k left : ℕ) (o : Option Datum) → answer (is_some o) k ≡ answer false left → at_no_cost k (or_fault NoKey o) ≡ Err NoKey
absent_by k left None e = refl
absent_by k left (Some x) e = absurd (unlike k left e)

absent : (ps : List (Datum × Datum)) (left : ℕ) (r : Looked Datum) → among_keys r ps ≡ Ok (false, left) → value_by ps r ≡ Err NoKey
absent ps left (Ok (key, k)) e = absent_by k left (found key ps) e
absent ps left (Err why) e = absurd (no_refusal false left why e)

abbrev as_value : EvalFault → Looked Datum
as_value why = Err why

same_fault : (kind why : EvalFault) → refusal kind ≡ refusal why → kind ≡ why
same_fault kind why e = cc

refused : (ps : List (Datum × Datum)) (why : EvalFault) (r : Looked Datum) → among_keys r ps ≡ Err why → value_by ps r ≡ Err why
refused ps why (Ok (key, k)) e = absurd (no_answer (is_some (found key ps)) k why e)
refused ps why (Err kind) e = ap as_value (same_fault kind why e)

pub keys_have_values : KeysHaveValues
unfolding in_dict value_in
keys_have_values s n home number v ps is =
    let looked : Looked Datum = keyed v (walked_at max_levels n v) in
    let inside : contained s n v (cell home number) ≡ among_keys looked ps = ap (in_content s n v) is in
    let item : item_of s n (cell home number) v ≡ value_by ps looked = ap (λ (o : Option Contents). content_item n o v) is in
    record {
      there = λ left e. let r = there ps left looked (sym inside ∙ e) in (r.0, item ∙ r.1);
      absent = λ left e. item ∙ absent ps left looked (sym inside ∙ e);
      refused = λ why e. item ∙ refused ps why looked (sym inside ∙ e);
    }
