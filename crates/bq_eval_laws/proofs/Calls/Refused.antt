-- Arguments that are refused don't fit.
use Rattle.std.proofs.Common.{◌≡◌, ◌∙◌, sym, ap, refl, ℕ, zero, suc, ◌+◌, ◌<◌, ◌⊎◌, inl, inr, Bool, true, false, cond, List, [], ◌∷◌, ◌++◌, append_assoc, length, slice_get, set, Option, Some, None, Ok, Err, arith}
use Rattle.std.specs.Prelude.{is_some, not, ◌&&◌, ◌||◌, nat_le}
use Rattle.std.specs.List.{position_from}
use Rattle.std.proofs.lemmas.Option.{slice_get_within}
use Rattle.std.proofs.lemmas.Slice.Eq.{bytes_eq-Decides}
use Rattle.std.proofs.lemmas.Bool.{leb-false}
use Rattle.bq_base.specs.declared.fault.EvalFault.{EvalFault}
use Rattle.bq_base.specs.declared.fault.EvalFault.TheVariants.{Args}
use Rattle.bq_base.proofs.Choices.{by_bool}
use Rattle.bq_value.specs.Datum.{Datum, string}
use Rattle.bq_value.specs.Pairs.{found, put}
use Rattle.bq_value.specs.Same.{same}
use Rattle.bq_value.specs.SameLaws.{same-true}
use Rattle.bq_value.proofs.Puts.{other_put}
use Rattle.bq_builtin_machine.specs.Args.{Passed}
use Rattle.bq_builtin_machine.specs.Parameters.{ParameterView, SignatureView, is_called, places}
use Rattle.bq_builtin_machine.specs.Binding.{BoundView, Binding, placed_values, placed, too_many, fill_by, fill, take_keyword, take_named_by, take_named, and_bind, take_all_named, has_value, complete_from, is_complete, if_complete, bind}
use Rattle.bq_builtin_machine.proofs.Cases.{is_given, name_is}
use Rattle.bq_eval_laws.specs.Calls.Misfits.{place_of, IsPlaced, IsMisfit, left_over, unknown, placed_and_named, named_twice, missing}
use Rattle.bq_eval_laws.proofs.Calls.Misfits.{Taken, by_parameter, by_rest, Came, Named, IsKept, bound_to, same_bound, taken, value_stays, and_done, after_taken, placed_at, placed_only, before_taken, places_within}

-- ---- lists

at_end : {A : Type 0} (xs ys : List A) (y : A) → slice_get (xs ++ y ∷ ys) (length xs) ≡ Some y
at_end [] ys y = refl
at_end (x ∷ xs) ys y = at_end xs ys y

at_front : {A : Type 0} (xs ys : List A) (k : ℕ) (z : A) → slice_get xs k ≡ Some z → slice_get (xs ++ ys) k ≡ Some z
at_front [] ys k z h = absurd (cc)
at_front (x ∷ xs) ys zero z h = h
at_front (x ∷ xs) ys (suc k) z h = at_front xs ys k z h

length_set : {A : Type 0} (xs : List A) (i : ℕ) (x : A) → length (set xs i x) ≡ length xs
length_set [] i x = refl
length_set (y ∷ ys) zero x = refl
length_set (y ∷ ys) (suc i) x = ap suc (length_set ys i x)

pub length_placed : (p n : ℕ) (xs : List Datum) → length (placed_values p n xs) ≡ n
length_placed p zero xs = refl
length_placed zero (suc n) xs = ap suc (length_placed zero n xs)
length_placed (suc p) (suc n) [] = ap suc (length_placed p n [])
length_placed (suc p) (suc n) (x ∷ xs) = ap suc (length_placed p n xs)

-- ---- places of parameters

-- the parameter at a place that is found has the name
pub record IsCalled (name : List ℕ) (ps : List ParameterView) (i : ℕ) : Type 0 where
  pub parameter : ParameterView
  pub there : slice_get ps i ≡ Some parameter
  pub named : is_called name parameter ≡ true

pub called_from : (name : List ℕ) (j : ℕ) (ps : List ParameterView) (i : ℕ) → position_from (is_called name) j ps ≡ Some (j + i) → IsCalled name ps i
called_from name j [] i h = absurd (cc)
called_from name j (p ∷ ps) zero h = elim (by_bool (is_called name p)) [
  | inl t ↦ record { parameter = p; there = refl; named = t }
  | inr t ↦
      let later : position_from (is_called name) (j + 1) ps ≡ Some (j + 0) = rw t at h in
      absurd (not_before (j + 1) ps (j + 0) (omega arith) later)
]
  where
    not_before : (k : ℕ) (qs : List ParameterView) (n : ℕ) → n < k → position_from (is_called name) k qs ≡ Some n → ⊥
    not_before k [] n less at = cc
    not_before k (q ∷ qs) n less at = elim (by_bool (is_called name q)) [
      | inl u ↦ let here : Some k ≡ Some n = rw u at at in let is : k ≡ n = cc in absurd (omega (arith, less, is))
      | inr u ↦ let rest : position_from (is_called name) (k + 1) qs ≡ Some n = rw u at at in not_before (k + 1) qs n (omega (arith, less)) rest
    ]
called_from name j (p ∷ ps) (suc i) h = elim (by_bool (is_called name p)) [
  | inl t ↦ let here : Some j ≡ Some (j + suc i) = rw t at h in let is : j ≡ j + suc i = cc in absurd (omega (arith, is))
  | inr t ↦
      let later : position_from (is_called name) (j + 1) ps ≡ Some (j + suc i) = rw t at h in
      let place : j + suc i ≡ (j + 1) + i = omega arith in
      let r = called_from name (j + 1) ps i (later ∙ ap Some place) in
      record { parameter = r.parameter; there = r.there; named = r.named }
]

called : (s : SignatureView) (name : List ℕ) (i : ℕ) → place_of s name ≡ Some i → IsCalled name s.parameters i
called s name i h = let place : 0 + i ≡ i = omega arith in called_from name 0 s.parameters i (h ∙ ap Some (sym place))

one_name : (a b : List ℕ) (o : Option (List ℕ)) → name_is a o ≡ true → name_is b o ≡ true → a ≡ b
one_name a b None h k = absurd (cc)
one_name a b (Some n) h k = (bytes_eq-Decides a n).0 h ∙ sym ((bytes_eq-Decides b n).0 k)

-- two names of one parameter are one
same_names : (s : SignatureView) (a b : List ℕ) (i : ℕ) → place_of s a ≡ Some i → place_of s b ≡ Some i → a ≡ b
same_names s a b i h k =
    let x = called s a i h in
    let y = called s b i k in
    let one : x.parameter ≡ y.parameter = some_same x.parameter y.parameter (sym x.there ∙ y.there) in
    one_name a b y.parameter.name (ap (λ (q : ParameterView). is_called a q) (sym one) ∙ x.named) y.named
  where
    some_same : (p q : ParameterView) → Some p ≡ Some q → p ≡ q
    some_same p q e = cc

-- ---- what the arguments before have done

record Passes (done : Named) (name : List ℕ) : Type 0 where
  at : ℕ
  value : Datum
  there : slice_get done at ≡ Some (name, value)

record IsReached (s : SignatureView) (p : Passed) (done : Named) (b : BoundView) : Type 0 where
  values : (i : ℕ) (w : Datum) → slice_get b.values i ≡ Some (Some w) → IsPlaced s p i ⊎ Came s done i
  names : (name : List ℕ) → IsKept b name → Passes done name
  long : length b.values ≡ length s.parameters

first_reached : (s : SignatureView) (p : Passed) → IsReached s p [] (placed s p.positional)
first_reached s p = record {
  values = λ i w at. inl (placed_only (places s) (length s.parameters) p.positional i w at);
  names = λ name kept. none_kept name kept;
  long = length_placed (places s) (length s.parameters) p.positional;
}
  where
    none_kept : (name : List ℕ) → is_some (found (string name) []) ≡ true → Passes [] name
    none_kept name h = absurd (cc)

module _ (s : SignatureView) (p : Passed) (done : Named) (name : List ℕ) (v : Datum) (b c : BoundView) (r : IsReached s p done b) where
  abbrev now : Named
  now = done ++ (name, v) ∷ []

  came_still : (i : ℕ) → Came s done i → Came s now i
  came_still i x = record { at = x.at; name = x.name; value = x.value; passed = at_front done ((name, v) ∷ []) x.at (x.name, x.value) x.passed; place = x.place }

  values_now : (t : Taken s name v b c) (i : ℕ) (w : Datum) → slice_get c.values i ≡ Some (Some w) → IsPlaced s p i ⊎ Came s now i
  values_now t i w has = elim (before_taken s name v b c t i w has) [
    | inl early ↦ elim (r.values i w early) [ inl x ↦ inl x | inr x ↦ inr (came_still i x) ]
    | inr place ↦ inr (record { at = length done; name = name; value = v; passed = at_end done [] (name, v); place = place })
  ]

  passes_still : (other : List ℕ) → Passes done other → Passes now other
  passes_still other x = record { at = x.at; value = x.value; there = at_front done ((name, v) ∷ []) x.at (other, x.value) x.there }

  names_by : (other : List ℕ) (t : Bool) → same (string other) (string name) ≡ t → is_some (found (string other) (put (string name) v b.keywords)) ≡ true → Passes now other
  names_by other true e has =
      let is : other ≡ name = string_same other name (same-true (string other) (string name) e) in
      record { at = length done; value = v; there = at_end done [] (name, v) ∙ ap (λ n. Some (n, v)) (sym is) }
    where
      string_same : (a d : List ℕ) → string a ≡ string d → a ≡ d
      string_same a d h = cc
  names_by other false e has = passes_still other (r.names other (ap is_some (sym (other_put (string other) (string name) v b.keywords e)) ∙ has))

  names_now : Taken s name v b c → (other : List ℕ) → IsKept c other → Passes now other
  names_now (by_parameter i at f) other has = passes_still other (r.names other (ap (λ (d : BoundView). is_some (found (string other) d.keywords)) (sym f.after) ∙ has))
  names_now (by_rest at takes k) other has =
      names_by other (same (string other) (string name)) refl (ap (λ (d : BoundView). is_some (found (string other) d.keywords)) (sym k.after) ∙ has)

  long_now : Taken s name v b c → length c.values ≡ length s.parameters
  long_now (by_parameter i at f) = ap (λ (d : BoundView). length d.values) f.after ∙ (length_set b.values i (Some v) ∙ r.long)
  long_now (by_rest at takes k) = ap (λ (d : BoundView). length d.values) k.after ∙ r.long

  next_reached : Taken s name v b c → IsReached s p now c
  next_reached t = record { values = values_now t; names = names_now t; long = long_now t }

-- ---- an argument that is refused

module _ (s : SignatureView) (p : Passed) (done rest : Named) (name : List ℕ) (v : Datum) (b : BoundView) (r : IsReached s p done b) (cut : p.named ≡ done ++ (name, v) ∷ rest) where
  here : slice_get p.named (length done) ≡ Some (name, v)
  here = ap (λ xs. slice_get xs (length done)) cut ∙ at_end done rest (name, v)

  -- an argument before it
  earlier : (k : ℕ) (w : List ℕ × Datum) → slice_get done k ≡ Some w → slice_get p.named k ≡ Some w
  earlier k w at = ap (λ xs. slice_get xs k) cut ∙ at_front done ((name, v) ∷ rest) k w at

  filled_already : (i : ℕ) → place_of s name ≡ Some i → (w : Datum) → slice_get b.values i ≡ Some (Some w) → IsMisfit s p
  filled_already i place w has = elim (r.values i w has) [
    | inl x ↦ placed_and_named i x (record { at = length done; name = name; value = v; passed = here; place = place })
    | inr x ↦
        let is : x.name ≡ name = same_names s x.name name i x.place place in
        named_twice x.at (length done) name x.value v (slice_get_within done x.at (x.name, x.value) x.passed) (earlier x.at (name, x.value) (x.passed ∙ ap (λ n. Some (n, x.value)) is)) here
  ]

  -- a place that is found is that of a value
  no_place : (i : ℕ) → place_of s name ≡ Some i → slice_get b.values i ≡ None → ⊥
  no_place i place none =
      let x = called s name i place in
      let within : i < length b.values = rw r.long (slice_get_within s.parameters i x.parameter x.there) in
      missing_value b.values i within none
    where
      missing_value : {A : Type 0} (xs : List A) (n : ℕ) → n < length xs → slice_get xs n ≡ None → ⊥
      missing_value [] n less e = absurd (omega (arith, less))
      missing_value (y ∷ ys) zero less e = cc
      missing_value (y ∷ ys) (suc n) less e = missing_value ys n (omega (arith, less)) e

  by_value : (i : ℕ) (o : Option (Option Datum)) (why : EvalFault) → slice_get b.values i ≡ o → place_of s name ≡ Some i → fill_by o i v b ≡ Err why → IsMisfit s p
  by_value i None why e place h = absurd (no_place i place e)
  by_value i (Some None) why e place h = absurd (cc)
  by_value i (Some (Some w)) why e place h = filled_already i place w e

  by_keyword : (t u : Bool) (why : EvalFault) → s.takes_keywords ≡ t → is_some (found (string name) b.keywords) ≡ u → place_of s name ≡ None
      → cond t (cond u (Err Args) (bound_to (record b { keywords = put (string name) v b.keywords }))) (Err Args) ≡ Err why → IsMisfit s p
  by_keyword false u why takes e place h = unknown (length done) name v here place takes
  by_keyword true true why takes e place h =
      let x = r.names name e in
      named_twice x.at (length done) name x.value v (slice_get_within done x.at (name, x.value) x.there) (earlier x.at (name, x.value) x.there) here
  by_keyword true false why takes e place h = absurd (cc)

  by_place : (o : Option ℕ) (why : EvalFault) → place_of s name ≡ o → take_named_by o s.takes_keywords name v b ≡ Err why → IsMisfit s p
  unfolding fill take_keyword
  by_place (Some i) why place h = by_value i (slice_get b.values i) why refl place h
  by_place None why place h = by_keyword s.takes_keywords (is_some (found (string name) b.keywords)) why refl refl place h

  misfit_here : (why : EvalFault) → take_named s name v b ≡ Err why → IsMisfit s p
  unfolding take_named
  misfit_here why h = by_place (place_of s name) why refl h

stuck_by : (s : SignatureView) (p : Passed) (done : Named) (a : List ℕ × Datum) (rest : Named) (b : BoundView) → p.named ≡ done ++ a ∷ rest → IsReached s p done b → (kind : EvalFault) (x : Binding) → take_named s a.0 a.1 b ≡ x
    → and_bind x (take_all_named s rest) ≡ Err kind → ((c : BoundView) → take_named s a.0 a.1 b ≡ Ok c → take_all_named s rest c ≡ Err kind → IsMisfit s p) → IsMisfit s p
stuck_by s p done a rest b cut r kind (Ok c) e k later = later c e k
stuck_by s p done a rest b cut r kind (Err why) e k later = misfit_here s p done rest a.0 a.1 b r cut why e

stuck : (s : SignatureView) (p : Passed) (done rest : Named) (b : BoundView) → p.named ≡ done ++ rest → IsReached s p done b → (kind : EvalFault) → take_all_named s rest b ≡ Err kind → IsMisfit s p
unfolding take_all_named
stuck s p done [] b cut r kind h = absurd (cc)
stuck s p done (a ∷ rest) b cut r kind h =
    stuck_by s p done a rest b cut r kind (take_named s a.0 a.1 b) refl h
    (λ c e k. stuck s p (done ++ a ∷ []) rest c (cut ∙ sym (append_assoc done (a ∷ []) rest)) (next_reached s p done a.0 a.1 b c r (taken s a.0 a.1 b c e)) kind k)

-- ---- a parameter without an argument

all_stay : (s : SignatureView) (named : Named) (b c : BoundView) → take_all_named s named b ≡ Ok c → (j : ℕ) (w : Datum) → slice_get b.values j ≡ Some (Some w) → slice_get c.values j ≡ Some (Some w)
unfolding take_all_named
all_stay s [] b c h j w has = ap (λ (d : BoundView). slice_get d.values j) (sym (same_bound b c h)) ∙ has
all_stay s (a ∷ named) b c h j w has =
    let step = and_done (take_named s a.0 a.1 b) (take_all_named s named) c h in
    all_stay s named step.0 c step.1.1 j w (value_stays s a.0 a.1 b step.0 (taken s a.0 a.1 b step.0 step.1.0) j w has)

all_arrive : (s : SignatureView) (named : Named) (b c : BoundView) → take_all_named s named b ≡ Ok c → (k : ℕ) (name : List ℕ) (v : Datum) (i : ℕ) → slice_get named k ≡ Some (name, v) → place_of s name ≡ Some i
    → slice_get c.values i ≡ Some (Some v)
unfolding take_all_named
all_arrive s [] b c h k name v i at place = absurd (cc)
all_arrive s (a ∷ named) b c h zero name v i at place =
    let step = and_done (take_named s a.0 a.1 b) (take_all_named s named) c h in
    let is : a ≡ (name, v) = cc in
    let t : take_named s name v b ≡ Ok step.0 = ap (λ q. take_named s q.0 q.1 b) (sym is) ∙ step.1.0 in
    elim (after_taken s name v b step.0 (taken s name v b step.0 t)) [
      | inl f ↦ let same_place : f.0 ≡ i = some_is f.0 i (sym f.1 ∙ place) in all_stay s named step.0 c step.1.1 i v (ap (λ n. slice_get step.0.values n) (sym same_place) ∙ f.2)
      | inr f ↦ absurd (none_is i (sym f.0 ∙ place))
    ]
  where
    some_is : (m n : ℕ) → Some m ≡ Some n → m ≡ n
    some_is m n e = cc

    none_is : (n : ℕ) → None ≡ Some n → ⊥
    none_is n e = cc
all_arrive s (a ∷ named) b c h (suc k) name v i at place =
    let step = and_done (take_named s a.0 a.1 b) (take_all_named s named) c h in
    all_arrive s named step.0 c step.1.1 k name v i at place

record IsLacking (ps : List ParameterView) (vs : List (Option Datum)) (j : ℕ) : Type 0 where
  place : ℕ
  parameter : ParameterView
  there : slice_get ps place ≡ Some parameter
  must : parameter.is_required ≡ true
  lacks : has_value vs (j + place) ≡ false

lacking_later : (p : ParameterView) (ps : List ParameterView) (vs : List (Option Datum)) (j : ℕ) → IsLacking ps vs (j + 1) → IsLacking (p ∷ ps) vs j
lacking_later p ps vs j x =
    let place : j + suc x.place ≡ (j + 1) + x.place = omega arith in
    record { place = suc x.place; parameter = x.parameter; there = x.there; must = x.must; lacks = ap (has_value vs) place ∙ x.lacks }

lacking_by : (p : ParameterView) (ps : List ParameterView) (vs : List (Option Datum)) (j : ℕ) (t u : Bool) → p.is_required ≡ t → has_value vs j ≡ u → cond (t && not u) false (complete_from (j + 1) ps vs) ≡ false
    → (complete_from (j + 1) ps vs ≡ false → IsLacking ps vs (j + 1)) → IsLacking (p ∷ ps) vs j
lacking_by p ps vs j true false e f k rest = let place : j + 0 ≡ j = omega arith in record { place = 0; parameter = p; there = refl; must = e; lacks = ap (has_value vs) place ∙ f }
lacking_by p ps vs j true true e f k rest = lacking_later p ps vs j (rest k)
lacking_by p ps vs j false u e f k rest = lacking_later p ps vs j (rest k)

lacking : (j : ℕ) (ps : List ParameterView) (vs : List (Option Datum)) → complete_from j ps vs ≡ false → IsLacking ps vs j
lacking j [] vs h = absurd (cc)
lacking j (p ∷ ps) vs h = lacking_by p ps vs j p.is_required (has_value vs j) refl refl h (λ k. lacking (j + 1) ps vs k)

has_some : (vs : List (Option Datum)) (i : ℕ) (w : Datum) → slice_get vs i ≡ Some (Some w) → has_value vs i ≡ false → ⊥
has_some vs i w at lacks = let there : has_value vs i ≡ true = ap is_given at in clash (has_value vs i) there lacks
  where
    clash : (t : Bool) → t ≡ true → t ≡ false → ⊥
    clash t e k = cc

incomplete : (s : SignatureView) (p : Passed) (b : BoundView) → take_all_named s p.named (placed s p.positional) ≡ Ok b → is_complete s.parameters b.values ≡ false → IsMisfit s p
incomplete s p b all part =
    let x = lacking 0 s.parameters b.values part in
    let place : 0 + x.place ≡ x.place = omega arith in
    let lacks : has_value b.values x.place ≡ false = sym (ap (has_value b.values) place) ∙ x.lacks in
    missing x.place x.parameter x.there x.must
    (λ positional.
    let first = placed_at (places s) (length s.parameters) p.positional x.place positional.0 (places_within s) positional.1 in
    has_some b.values x.place first.0 (all_stay s p.named (placed s p.positional) b all x.place first.0 first.1) lacks)
    (λ n. has_some b.values x.place n.value (all_arrive s p.named (placed s p.positional) b all n.at n.name n.value x.place n.passed n.place) lacks)

-- ---- a call

left_by : (takes within : Bool) → not (takes || within) ≡ true → (takes ≡ false) × (within ≡ false)
left_by false false h = (refl, refl)
left_by false true h = absurd (cc)
left_by true within h = absurd (cc)

pub refused_misfits : (s : SignatureView) (p : Passed) (kind : EvalFault) → bind s p ≡ Err kind → IsMisfit s p
unfolding bind
refused_misfits s p kind h = by_number (too_many s p.positional) refl h
  where
    by_whole : (t : Bool) (b : BoundView) → take_all_named s p.named (placed s p.positional) ≡ Ok b → is_complete s.parameters b.values ≡ t → cond t (bound_to b) (Err Args) ≡ Err kind → IsMisfit s p
    by_whole true b all e k = absurd (cc)
    by_whole false b all e k = incomplete s p b all e

    by_named : (x : Binding) → take_all_named s p.named (placed s p.positional) ≡ x → and_bind x (if_complete s) ≡ Err kind → IsMisfit s p
    by_named (Err why) e k = stuck s p [] p.named (placed s p.positional) refl (first_reached s p) why e
    by_named (Ok b) e k = by_whole (is_complete s.parameters b.values) b e refl k

    by_number : (t : Bool) → too_many s p.positional ≡ t → cond t (Err Args) (and_bind (take_all_named s p.named (placed s p.positional)) (if_complete s)) ≡ Err kind → IsMisfit s p
    by_number true e k =
        let two = left_by s.takes_rest (nat_le (length p.positional) (places s)) e in
        let more = leb-false (length p.positional) (places s) two.1 in
        left_over two.0 (omega (arith, more))
    by_number false e k = by_named (take_all_named s p.named (placed s p.positional)) refl k
