-- Slots as a frame.
use Rattle.std.proofs.Common.{◌≡◌, ℕ, zero, suc, ◌<◌, ◌≤◌, ◌==◌, if◌then◌else◌, List, [], ◌∷◌, ◌++◌, length, set, slice_get, Option, Some, None, refl, sym, ap, ◌∙◌, arith}
use Rattle.std.proofs.lemmas.Bool.Decides.{nat_tests}
use Rattle.bq_value.specs.Datum.{Datum}
use Rattle.bq_eval_spec.specs.Frame.{Frame, empty, fill}
use Rattle.bq_eval_frame.specs.Sparse.{Pairs, found, Binds}
use Rattle.bq_eval_frame.specs.declared.inner.Inner.{Inner}
use Rattle.bq_eval_frame.specs.Slots.{in_slot, layered, layers_of, list_slots, no_slots, or_else, Slots, slots_of}

pub none_filled : slots_of no_slots ≡ empty
unfolding slots_of list_slots layered empty
none_filled = λ i slot. None

pad_one : (slots : List (Option Datum)) (k : ℕ) → in_slot (slice_get (slots ++ None ∷ []) k) ≡ in_slot (slice_get slots k)
pad_one [] zero = refl
pad_one [] (suc n) = refl
pad_one (s ∷ slots) zero = refl
pad_one (s ∷ slots) (suc n) = pad_one slots n

pub padded : (slots : List (Option Datum)) → list_slots (slots ++ None ∷ []) ≡ list_slots slots
unfolding list_slots
padded slots = λ i k. pad_one slots k i

put_one : (slots : List (Option Datum)) (k : ℕ) (v : Datum) (n : ℕ) → k < length slots → in_slot (slice_get (set slots k (Some v)) n) ≡ (if n == k then Some v else in_slot (slice_get slots n))
put_one [] k v n h = absurd (omega arith)
put_one (s ∷ slots) zero v zero h = refl
put_one (s ∷ slots) zero v (suc n) h = grind (arith, nat_tests)
put_one (s ∷ slots) (suc k) v zero h = grind (arith, nat_tests)
put_one (s ∷ slots) (suc k) v (suc n) h = put_one slots k v n (omega arith) ∙ grind (arith, nat_tests)

pub list_filled : (slots : List (Option Datum)) (k : ℕ) (v : Datum) → k < length slots → list_slots (set slots k (Some v)) ≡ fill (list_slots slots) k v
unfolding list_slots fill
list_filled slots k v h = λ i n. put_one slots k v n h i

-- past the end there is none
past_end : (slots : List (Option Datum)) (k : ℕ) → length slots ≤ k → in_slot (slice_get slots k) ≡ None
past_end [] k h = refl
past_end (s ∷ slots) zero h = absurd (omega (arith, h))
past_end (s ∷ slots) (suc k) h = past_end slots k (omega arith)

-- where the first is chosen by a test, so is what it gives
chosen : (b : _) (v : Datum) (x other : Option Datum) → or_else (if b then Some v else x) other ≡ (if b then Some v else or_else x other)
chosen b v x other = grind arith

-- what fills a slot of its own fills it in the frame
pub own_filled : (old new : List (Option Datum)) (rest : List Pairs × List (Option Datum)) (k : ℕ) (v : Datum) → list_slots new ≡ fill (list_slots old) k v → slots_of (new, rest) ≡ fill (slots_of (old, rest)) k v
unfolding slots_of fill
own_filled old new rest k v is = λ i n. (ap (λ (x : Frame). or_else (x n) (layered rest.0 rest.1 n)) is ∙ chosen (n == k) v (list_slots old n) (layered rest.0 rest.1 n)) i

-- ---- a clause binds a slot that isn't one of its own

bound_one : (old new : Pairs) (k : ℕ) (v : Datum) → Binds old new k v → (own other : Option Datum) (n : ℕ) → (n ≡ k → own ≡ None)
    → or_else own (or_else (found new n) other) ≡ (if n == k then Some v else or_else own (or_else (found old n) other))
bound_one old new k v binds own other n absent =
    ap (λ x. or_else own (or_else x other)) (binds n) ∙ grind (arith, nat_tests, absent)

pub bound_filled : (slots : List (Option Datum)) (old new : Pairs) (around : List Pairs) (function : List (Option Datum)) (k : ℕ) (v : Datum) → length slots ≤ k → Binds old new k v
    → slots_of (slots, (new ∷ around, function)) ≡ fill (slots_of (slots, (old ∷ around, function))) k v
unfolding slots_of list_slots layered fill
bound_filled slots old new around function k v past binds = λ i n.
    bound_one old new k v binds (in_slot (slice_get slots n)) (layered around function n) n (λ (same : n ≡ k). past_end slots n (omega (arith, past, same))) i

-- ---- the frame of a comprehension inside

or_nothing : (x : Option Datum) → or_else x None ≡ x
or_nothing None = refl
or_nothing (Some v) = refl

-- a list alone is its slots
pub list_alone : (slots : List (Option Datum)) → slots_of (slots, ([], [])) ≡ list_slots slots
unfolding slots_of layered list_slots
list_alone slots = λ i n. or_nothing (in_slot (slice_get slots n)) i

-- that of a function is only read
pub inside_function : (slots : List (Option Datum)) → slots_of ([], ([] ∷ [], slots)) ≡ slots_of (slots, ([], []))
unfolding slots_of list_slots layered found
inside_function slots = λ i n. sym (or_nothing (in_slot (slice_get slots n))) i

-- so is that of a comprehension
pub inside_comprehension : (layers : List Pairs) (function : List (Option Datum)) → slots_of ([], ([] ∷ layers, function)) ≡ slots_of ([], (layers, function))
unfolding slots_of list_slots layered found
inside_comprehension layers function = refl

-- a frame that is no comprehension's has no layers
pub nothing_layered : (x : Option Inner) (slots : List (Option Datum)) (s : Slots) (k : ℕ) → (slots, layers_of x) ≡ s → x ≡ None → None ≡ layered s.1.0 s.1.1 k
unfolding layered list_slots
nothing_layered x slots s k is none = sym (ap (λ (t : Slots). layered t.1.0 t.1.1 k) (sym is) ∙ ap (λ (y : Option Inner). layered (layers_of y).0 (layers_of y).1 k) none)
