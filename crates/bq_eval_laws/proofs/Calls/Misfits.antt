-- Arguments that don't fit are refused.
use Rattle.std.proofs.Common.{◌≡◌, ◌∙◌, sym, ap, refl, ℕ, zero, suc, ◌+◌, ◌<◌, ◌≤◌, ◌⊎◌, inl, inr, Bool, true, false, cond, List, [], ◌∷◌, length, slice_get, set, Option, Some, None, Ok, Err, arith}
use Rattle.std.specs.Prelude.{is_some, not, ◌&&◌, ◌||◌, nat_le}
use Rattle.std.proofs.lemmas.Option.{slice_get_within}
use Rattle.std.proofs.lemmas.Bool.{leb-true}
use Rattle.bq_base.specs.declared.fault.EvalFault.{EvalFault}
use Rattle.bq_base.specs.declared.fault.EvalFault.TheVariants.{Args}
use Rattle.bq_value.specs.Datum.{Datum, string}
use Rattle.bq_value.specs.Pairs.{found, put}
use Rattle.bq_builtin_machine.specs.Args.{Passed}
use Rattle.bq_builtin_machine.specs.Parameters.{ParameterView, SignatureView, places}
use Rattle.bq_builtin_machine.specs.Binding.{BoundView, Binding, placed_values, placed, too_many, fill_by, fill, take_keyword, take_named_by, take_named, and_bind, take_all_named, has_value, complete_from, is_complete, if_complete, bind}
use Rattle.bq_builtin_machine.proofs.Cases.{is_given}
use Rattle.bq_eval_laws.specs.Calls.Misfits.{place_of, IsMisfit, left_over, unknown, placed_and_named, named_twice, missing}
use Rattle.bq_value.proofs.Puts.{found_put, other_put}
use Rattle.bq_value.specs.Same.{same}
use Rattle.bq_value.specs.SameLaws.{same-true}

-- ---- lists

pub set_here : {A : Type 0} (xs : List A) (i : ℕ) (x : A) → i < length xs → slice_get (set xs i x) i ≡ Some x
set_here [] i x h = absurd (omega (arith, h))
set_here (y ∷ ys) zero x h = refl
set_here (y ∷ ys) (suc i) x h = set_here ys i x (omega (arith, h))

pub set_other : {A : Type 0} (xs : List A) (i j : ℕ) (x : A) → (i ≡ j → ⊥) → slice_get (set xs i x) j ≡ slice_get xs j
set_other [] i j x apart = refl
set_other (y ∷ ys) zero zero x apart = absurd (apart refl)
set_other (y ∷ ys) zero (suc j) x apart = refl
set_other (y ∷ ys) (suc i) zero x apart = refl
set_other (y ∷ ys) (suc i) (suc j) x apart = set_other ys i j x (λ e. apart (ap suc e))

pub same_place : (i j : ℕ) → (i ≡ j) ⊎ (i ≡ j → ⊥)
same_place zero zero = inl refl
same_place zero (suc j) = inr (λ e. cc)
same_place (suc i) zero = inr (λ e. cc)
same_place (suc i) (suc j) = elim (same_place i j) [ inl e ↦ inl (ap suc e) | inr apart ↦ inr (λ e. apart (omega (arith, e))) ]

-- ---- one argument

abbrev bound_or : BoundView → Binding → BoundView
bound_or b (Ok c) = c
bound_or b (Err kind) = b

abbrev pub bound_to : BoundView → Binding
bound_to b = Ok b

pub same_bound : (b c : BoundView) → bound_to b ≡ bound_to c → b ≡ c
same_bound b c h = ap (bound_or b) h

-- a parameter that takes an argument had none, and has it then; the others have what they had
pub record Fills (i : ℕ) (v : Datum) (b c : BoundView) : Type 0 where
  pub free : slice_get b.values i ≡ Some None
  pub after : c ≡ record b { values = set b.values i (Some v) }

filled_by : (i : ℕ) (v : Datum) (b c : BoundView) (o : Option (Option Datum)) → slice_get b.values i ≡ o → fill_by o i v b ≡ Ok c → Fills i v b c
filled_by i v b c None e h = absurd (cc)
filled_by i v b c (Some None) e h = record { free = e; after = sym (same_bound _ c h) }
filled_by i v b c (Some (Some w)) e h = absurd (cc)

filled : (i : ℕ) (v : Datum) (b c : BoundView) → fill i v b ≡ Ok c → Fills i v b c
unfolding fill
filled i v b c h = filled_by i v b c (slice_get b.values i) refl h

-- `**` takes a name that it hasn't taken
pub record Keeps (name : List ℕ) (v : Datum) (b c : BoundView) : Type 0 where
  pub new : is_some (found (string name) b.keywords) ≡ false
  pub after : c ≡ record b { keywords = put (string name) v b.keywords }

kept_by : (t u : Bool) (name : List ℕ) (v : Datum) (b c : BoundView) → is_some (found (string name) b.keywords) ≡ u
    → cond t (cond u (Err Args) (Ok (record b { keywords = put (string name) v b.keywords }))) (Err Args) ≡ Ok c → (t ≡ true) × Keeps name v b c
kept_by false u name v b c e h = absurd (cc)
kept_by true true name v b c e h = absurd (cc)
kept_by true false name v b c e h = (refl, record { new = e; after = sym (same_bound _ c h) })

kept : (takes : Bool) (name : List ℕ) (v : Datum) (b c : BoundView) → take_keyword takes name v b ≡ Ok c → (takes ≡ true) × Keeps name v b c
unfolding take_keyword
kept takes name v b c h = kept_by takes (is_some (found (string name) b.keywords)) name v b c refl h

-- what was done with a named argument
pub data Taken (s : SignatureView) (name : List ℕ) (v : Datum) (b c : BoundView) : Type 0 where
  by_parameter : (i : ℕ) → place_of s name ≡ Some i → Fills i v b c → Taken s name v b c
  by_rest : place_of s name ≡ None → s.takes_keywords ≡ true → Keeps name v b c → Taken s name v b c

taken_by : (o : Option ℕ) (s : SignatureView) (name : List ℕ) (v : Datum) (b c : BoundView) → place_of s name ≡ o → take_named_by o s.takes_keywords name v b ≡ Ok c → Taken s name v b c
taken_by (Some i) s name v b c e h = by_parameter i e (filled i v b c h)
taken_by None s name v b c e h = let k = kept s.takes_keywords name v b c h in by_rest e k.0 k.1

pub taken : (s : SignatureView) (name : List ℕ) (v : Datum) (b c : BoundView) → take_named s name v b ≡ Ok c → Taken s name v b c
unfolding take_named
taken s name v b c h = taken_by (place_of s name) s name v b c refl h

-- ---- what stays

filled_stays : (i : ℕ) (v : Datum) (b c : BoundView) → Fills i v b c → (j : ℕ) (w : Datum) → slice_get b.values j ≡ Some (Some w) → slice_get c.values j ≡ Some (Some w)
filled_stays i v b c f j w has =
    let apart : i ≡ j → ⊥ = λ e. clash (slice_get b.values j) (ap (λ k. slice_get b.values k) (sym e) ∙ f.free) has in
    ap (λ (d : BoundView). slice_get d.values j) f.after ∙ (set_other b.values i j (Some v) apart ∙ has)
  where
    clash : (o : Option (Option Datum)) → o ≡ Some None → o ≡ Some (Some w) → ⊥
    clash o e k = cc

pub value_stays : (s : SignatureView) (name : List ℕ) (v : Datum) (b c : BoundView) → Taken s name v b c → (j : ℕ) (w : Datum) → slice_get b.values j ≡ Some (Some w) → slice_get c.values j ≡ Some (Some w)
value_stays s name v b c (by_parameter i at f) j w has = filled_stays i v b c f j w has
value_stays s name v b c (by_rest at takes k) j w has = ap (λ (d : BoundView). slice_get d.values j) k.after ∙ has

-- a name that `**` has taken
abbrev pub IsKept : BoundView → List ℕ → Type 0
IsKept b name = is_some (found (string name) b.keywords) ≡ true

put_keeps_by : (key k : Datum) (v : Datum) (ps : List (Datum × Datum)) (t : Bool) → same key k ≡ t → is_some (found key ps) ≡ true → is_some (found key (put k v ps)) ≡ true
put_keeps_by key k v ps true e h = let is : key ≡ k = same-true key k e in ap (λ q. is_some (found q (put k v ps))) is ∙ ap is_some (found_put k v ps)
put_keeps_by key k v ps false e h = ap is_some (other_put key k v ps e) ∙ h

name_stays : (s : SignatureView) (name : List ℕ) (v : Datum) (b c : BoundView) → Taken s name v b c → (other : List ℕ) → IsKept b other → IsKept c other
name_stays s name v b c (by_parameter i at f) other has = ap (λ (d : BoundView). is_some (found (string other) d.keywords)) f.after ∙ has
name_stays s name v b c (by_rest at takes k) other has =
    ap (λ (d : BoundView). is_some (found (string other) d.keywords)) k.after ∙ put_keeps_by (string other) (string name) v b.keywords (same (string other) (string name)) refl has

-- ---- all named arguments

pub and_done : (r : Binding) (next : BoundView → Binding) (c : BoundView) → and_bind r next ≡ Ok c → (d : BoundView) × ((r ≡ Ok d) × (next d ≡ Ok c))
and_done (Ok d) next c h = (d, (refl, h))
and_done (Err kind) next c h = absurd (cc)

abbrev pub Named : Type 0
Named = List (List ℕ × Datum)

-- what holds of the arguments before one of them still holds where that one is taken
module _ (s : SignatureView) (Q : BoundView → Type 0) (stays : (name : List ℕ) (v : Datum) (b c : BoundView) → Taken s name v b c → Q b → Q c) where
  reached : (named : Named) (b c : BoundView) → take_all_named s named b ≡ Ok c → Q b → (k : ℕ) (name : List ℕ) (v : Datum) → slice_get named k ≡ Some (name, v)
      → (d : BoundView) × (e : BoundView) × Q d × Taken s name v d e
  unfolding take_all_named
  reached [] b c h q k name v at = absurd (cc)
  reached (a ∷ named) b c h q zero name v at =
      let step = and_done (take_named s a.0 a.1 b) (take_all_named s named) c h in
      let is : a ≡ (name, v) = cc in
      let t : take_named s name v b ≡ Ok step.0 = ap (λ p. take_named s p.0 p.1 b) (sym is) ∙ step.1.0 in
      (b, step.0, q, taken s name v b step.0 t)
  reached (a ∷ named) b c h q (suc k) name v at =
      let step = and_done (take_named s a.0 a.1 b) (take_all_named s named) c h in
      reached named step.0 c step.1.1 (stays a.0 a.1 b step.0 (taken s a.0 a.1 b step.0 step.1.0) q) k name v at

-- a parameter that has an argument takes no other
filled_twice : (s : SignatureView) (named : Named) (b c : BoundView) (i : ℕ) (w : Datum) → take_all_named s named b ≡ Ok c → slice_get b.values i ≡ Some (Some w)
    → (k : ℕ) (name : List ℕ) (v : Datum) → slice_get named k ≡ Some (name, v) → place_of s name ≡ Some i → ⊥
filled_twice s named b c i w h has k name v at place =
    let r = reached s (λ d. slice_get d.values i ≡ Some (Some w)) (λ n x d e t q. value_stays s n x d e t i w q) named b c h has k name v at in
    clash r.0 r.1 r.2 r.3
  where
    clash : (d e : BoundView) → slice_get d.values i ≡ Some (Some w) → Taken s name v d e → ⊥
    clash d e q (by_parameter j other f) = let is : i ≡ j = cc in let free : slice_get d.values i ≡ Some None = ap (λ n. slice_get d.values n) is ∙ f.free in cc
    clash d e q (by_rest other takes k) = cc

kept_twice : (s : SignatureView) (named : Named) (b c : BoundView) (name : List ℕ) → take_all_named s named b ≡ Ok c → IsKept b name → (k : ℕ) (v : Datum) → slice_get named k ≡ Some (name, v) → place_of s name ≡ None → ⊥
kept_twice s named b c name h has k v at place =
    let r = reached s (λ d. IsKept d name) (λ n x d e t q. name_stays s n x d e t name q) named b c h has k name v at in
    clash r.0 r.1 r.2 r.3
  where
    clash : (d e : BoundView) → IsKept d name → Taken s name v d e → ⊥
    clash d e q (by_parameter j other f) = cc
    clash d e q (by_rest other takes k) = let new : is_some (found (string name) d.keywords) ≡ false = k.new in cc

unknown_name : (s : SignatureView) (named : Named) (b c : BoundView) → take_all_named s named b ≡ Ok c → (k : ℕ) (name : List ℕ) (v : Datum) → slice_get named k ≡ Some (name, v) → place_of s name ≡ None → s.takes_keywords ≡ false → ⊥
unknown_name s named b c h k name v at place none =
    let r = reached s (λ d. Unit {0}) (λ n x d e t q. tt) named b c h tt k name v at in
    clash r.0 r.1 r.3
  where
    clash : (d e : BoundView) → Taken s name v d e → ⊥
    clash d e (by_parameter j other f) = cc
    clash d e (by_rest other takes k) = cc

-- after a named argument its parameter has it, or `**` its name
pub after_taken : (s : SignatureView) (name : List ℕ) (v : Datum) (b c : BoundView) → Taken s name v b c → ((i : ℕ) × (place_of s name ≡ Some i) × (slice_get c.values i ≡ Some (Some v))) ⊎ ((place_of s name ≡ None) × IsKept c name)
after_taken s name v b c (by_parameter i at f) = inl (i, at, ap (λ (d : BoundView). slice_get d.values i) f.after ∙ set_here b.values i (Some v) (slice_get_within b.values i None f.free))
after_taken s name v b c (by_rest at takes k) = inr (at, ap (λ (d : BoundView). is_some (found (string name) d.keywords)) k.after ∙ ap is_some (found_put (string name) v b.keywords))

twice : (s : SignatureView) (named : Named) (b c : BoundView) → take_all_named s named b ≡ Ok c → (j k : ℕ) (name : List ℕ) (v w : Datum) → j < k → slice_get named j ≡ Some (name, v) → slice_get named k ≡ Some (name, w) → ⊥
unfolding take_all_named
twice s [] b c h j k name v w less at other = absurd (cc)
twice s (a ∷ named) b c h zero zero name v w less at other = absurd (omega (arith, less))
twice s (a ∷ named) b c h zero (suc k) name v w less at other =
    let step = and_done (take_named s a.0 a.1 b) (take_all_named s named) c h in
    let is : a ≡ (name, v) = cc in
    let t : take_named s name v b ≡ Ok step.0 = ap (λ p. take_named s p.0 p.1 b) (sym is) ∙ step.1.0 in
    elim (after_taken s name v b step.0 (taken s name v b step.0 t)) [
      | inl f ↦ filled_twice s named step.0 c f.0 v step.1.1 f.2 k name w other f.1
      | inr f ↦ kept_twice s named step.0 c name step.1.1 f.1 k w other f.0
    ]
twice s (a ∷ named) b c h (suc j) zero name v w less at other = absurd (omega (arith, less))
twice s (a ∷ named) b c h (suc j) (suc k) name v w less at other =
    let step = and_done (take_named s a.0 a.1 b) (take_all_named s named) c h in
    twice s named step.0 c step.1.1 j k name v w (omega (arith, less)) at other

-- ---- a parameter without an argument

pub placed_at : (p n : ℕ) (xs : List Datum) (i : ℕ) → i < p → p ≤ n → i < length xs → (v : Datum) × (slice_get (placed_values p n xs) i ≡ Some (Some v))
placed_at zero n xs i below within there = absurd (omega (arith, below))
placed_at (suc p) zero xs i below within there = absurd (omega (arith, within))
placed_at (suc p) (suc n) [] i below within there = absurd (omega (arith, there))
placed_at (suc p) (suc n) (x ∷ xs) zero below within there = (x, refl)
placed_at (suc p) (suc n) (x ∷ xs) (suc i) below within there = placed_at p n xs i (omega (arith, below)) (omega (arith, within)) (omega (arith, there))

pub placed_only : (p n : ℕ) (xs : List Datum) (i : ℕ) (v : Datum) → slice_get (placed_values p n xs) i ≡ Some (Some v) → (i < p) × (i < length xs)
placed_only p zero xs i v at = absurd (cc)
placed_only zero (suc n) xs zero v at = absurd (cc)
placed_only zero (suc n) xs (suc i) v at = let r = placed_only zero n xs i v at in absurd (omega (arith, r.0))
placed_only (suc p) (suc n) [] zero v at = absurd (cc)
placed_only (suc p) (suc n) [] (suc i) v at = let r = placed_only p n [] i v at in absurd (omega (arith, r.1))
placed_only (suc p) (suc n) (x ∷ xs) zero v at = (omega arith, omega arith)
placed_only (suc p) (suc n) (x ∷ xs) (suc i) v at = let r = placed_only p n xs i v at in (omega (arith, r.0), omega (arith, r.1))

-- a value was there before, or came with a named argument
pub record Came (s : SignatureView) (named : Named) (i : ℕ) : Type 0 where
  pub at : ℕ
  pub name : List ℕ
  pub value : Datum
  pub passed : slice_get named at ≡ Some (name, value)
  pub place : place_of s name ≡ Some i

later : (s : SignatureView) (a : List ℕ × Datum) (named : Named) (i : ℕ) → Came s named i → Came s (a ∷ named) i
later s a named i x = record { at = suc x.at; name = x.name; value = x.value; passed = x.passed; place = x.place }

pub before_taken : (s : SignatureView) (name : List ℕ) (v : Datum) (b c : BoundView) → Taken s name v b c → (i : ℕ) (w : Datum) → slice_get c.values i ≡ Some (Some w) → (slice_get b.values i ≡ Some (Some w)) ⊎ (place_of s name ≡ Some i)
before_taken s name v b c (by_parameter j at f) i w has = elim (same_place j i) [
  | inl e ↦ inr (at ∙ ap Some e)
  | inr apart ↦ inl (sym (set_other b.values j i (Some v) apart) ∙ (ap (λ (d : BoundView). slice_get d.values i) (sym f.after) ∙ has))
]
before_taken s name v b c (by_rest at takes k) i w has = inl (ap (λ (d : BoundView). slice_get d.values i) (sym k.after) ∙ has)

pub came : (s : SignatureView) (named : Named) (b c : BoundView) → take_all_named s named b ≡ Ok c → (i : ℕ) (w : Datum) → slice_get c.values i ≡ Some (Some w) → (slice_get b.values i ≡ Some (Some w)) ⊎ Came s named i
unfolding take_all_named
came s [] b c h i w has = inl (ap (λ (d : BoundView). slice_get d.values i) (same_bound b c h) ∙ has)
came s (a ∷ named) b c h i w has =
    let step = and_done (take_named s a.0 a.1 b) (take_all_named s named) c h in
    elim (came s named step.0 c step.1.1 i w has) [
      | inr x ↦ inr (later s a named i x)
      | inl early ↦ elim (before_taken s a.0 a.1 b step.0 (taken s a.0 a.1 b step.0 step.1.0) i w early) [
        | inl first ↦ inl first
        | inr place ↦ inr (record { at = 0; name = a.0; value = a.1; passed = refl; place = place })
      ]
    ]

-- a parameter that must have an argument has one, where all are complete
pub given_value : (o : Option (Option Datum)) → is_given o ≡ true → (v : Datum) × (o ≡ Some (Some v))
given_value (Some (Some v)) h = (v, refl)
given_value (Some None) h = absurd (cc)
given_value None h = absurd (cc)

required_by : (t u : Bool) (next : Bool) → cond (t && not u) false next ≡ true → t ≡ true → u ≡ true
required_by true true next h e = refl
required_by true false next h e = cc
required_by false u next h e = cc

goes_on_by : (t : Bool) (next : Bool) → cond t false next ≡ true → next ≡ true
goes_on_by true next h = cc
goes_on_by false next h = h

required : (j : ℕ) (ps : List ParameterView) (vs : List (Option Datum)) → complete_from j ps vs ≡ true → (i : ℕ) (q : ParameterView) → slice_get ps i ≡ Some q → q.is_required ≡ true → has_value vs (j + i) ≡ true
required j [] vs h i q at must = absurd (cc)
required j (p ∷ ps) vs h zero q at must =
    let is : p ≡ q = cc in
    let same_need : p.is_required ≡ true = ap (λ (x : ParameterView). x.is_required) is ∙ must in
    let place : j + 0 ≡ j = omega arith in
    ap (has_value vs) place ∙ required_by p.is_required (has_value vs j) (complete_from (j + 1) ps vs) h same_need
required j (p ∷ ps) vs h (suc i) q at must =
    let place : j + suc i ≡ (j + 1) + i = omega arith in
    ap (has_value vs) place ∙ required (j + 1) ps vs (goes_on_by (p.is_required && not (has_value vs j)) (complete_from (j + 1) ps vs) h) i q at must

-- ---- a call

-- the steps of a call whose arguments are bound
pub record Steps (s : SignatureView) (p : Passed) (b : BoundView) : Type 0 where
  pub fits : too_many s p.positional ≡ false
  pub named : take_all_named s p.named (placed s p.positional) ≡ Ok b
  pub whole : is_complete s.parameters b.values ≡ true

whole_by : (t : Bool) (d b : BoundView) → cond t (Ok d) (Err Args) ≡ Ok b → (t ≡ true) × (d ≡ b)
whole_by true d b h = (refl, same_bound d b h)
whole_by false d b h = absurd (cc)

steps_by : (t : Bool) (s : SignatureView) (p : Passed) (b : BoundView) → too_many s p.positional ≡ t → cond t (Err Args) (and_bind (take_all_named s p.named (placed s p.positional)) (if_complete s)) ≡ Ok b → Steps s p b
steps_by true s p b e h = absurd (cc)
steps_by false s p b e h =
    let step = and_done (take_all_named s p.named (placed s p.positional)) (if_complete s) b h in
    let w = whole_by (is_complete s.parameters step.0.values) step.0 b step.1.1 in
    record {
      fits = e;
      named = step.1.0 ∙ ap bound_to w.1;
      whole = ap (λ (d : BoundView). is_complete s.parameters d.values) (sym w.1) ∙ w.0;
    }

pub steps : (s : SignatureView) (p : Passed) (b : BoundView) → bind s p ≡ Ok b → Steps s p b
unfolding bind
steps s p b h = steps_by (too_many s p.positional) s p b refl h

pub places_within : (s : SignatureView) → places s ≤ length s.parameters
places_within s = omega arith

too_many_by : (takes within : Bool) → takes ≡ false → not (takes || within) ≡ false → within ≡ true
too_many_by false true e h = refl
too_many_by false false e h = cc
too_many_by true within e h = cc

none_fits : (s : SignatureView) (p : Passed) (b : BoundView) → Steps s p b → IsMisfit s p → ⊥
none_fits s p b x (left_over none more) =
    let within : nat_le (length p.positional) (places s) ≡ true = too_many_by s.takes_rest (nat_le (length p.positional) (places s)) none x.fits in
    let le = leb-true (length p.positional) (places s) within in
    absurd (omega (arith, le, more))
none_fits s p b x (unknown at name v passed place none) = unknown_name s p.named (placed s p.positional) b x.named at name v passed place none
none_fits s p b x (placed_and_named i positional n) =
    let first = placed_at (places s) (length s.parameters) p.positional i positional.0 (places_within s) positional.1 in
    filled_twice s p.named (placed s p.positional) b i first.0 x.named first.1 n.at n.name n.value n.passed n.place
none_fits s p b x (named_twice j k name v w less one other) = twice s p.named (placed s p.positional) b x.named j k name v w less one other
none_fits s p b x (missing i q at must no_place no_name) =
    let place : 0 + i ≡ i = omega arith in
    let has = given_value (slice_get b.values i) (sym (ap (has_value b.values) place) ∙ required 0 s.parameters b.values x.whole i q at must) in
    elim (came s p.named (placed s p.positional) b x.named i has.0 has.1) [
      | inl early ↦ no_place (placed_only (places s) (length s.parameters) p.positional i has.0 early)
      | inr c ↦ no_name (record { at = c.at; name = c.name; value = c.value; passed = c.passed; place = c.place })
    ]

-- ---- there is no other fault

only_fill : (o : Option (Option Datum)) (i : ℕ) (v : Datum) (b : BoundView) (kind : EvalFault) → fill_by o i v b ≡ Err kind → kind ≡ Args
only_fill None i v b kind h = cc
only_fill (Some None) i v b kind h = cc
only_fill (Some (Some w)) i v b kind h = cc

only_keyword : (t u : Bool) (b : BoundView) (kind : EvalFault) → cond t (cond u (Err Args) (bound_to b)) (Err Args) ≡ Err kind → kind ≡ Args
only_keyword false u b kind h = cc
only_keyword true true b kind h = cc
only_keyword true false b kind h = cc

only_named : (o : Option ℕ) (s : SignatureView) (name : List ℕ) (v : Datum) (b : BoundView) (kind : EvalFault) → take_named_by o s.takes_keywords name v b ≡ Err kind → kind ≡ Args
unfolding fill take_keyword
only_named (Some i) s name v b kind h = only_fill (slice_get b.values i) i v b kind h
only_named None s name v b kind h = only_keyword s.takes_keywords (is_some (found (string name) b.keywords)) (record b { keywords = put (string name) v b.keywords }) kind h

only_and : (r : Binding) (next : BoundView → Binding) (kind : EvalFault) → ((why : EvalFault) → r ≡ Err why → why ≡ Args) → ((d : BoundView) → next d ≡ Err kind → kind ≡ Args) → and_bind r next ≡ Err kind → kind ≡ Args
only_and (Ok d) next kind first then h = then d h
only_and (Err why) next kind first then h = let same_kind : why ≡ kind = cc in sym same_kind ∙ first why refl

only_all : (s : SignatureView) (named : Named) (b : BoundView) (kind : EvalFault) → take_all_named s named b ≡ Err kind → kind ≡ Args
unfolding take_all_named take_named
only_all s [] b kind h = cc
only_all s (a ∷ named) b kind h = only_and (take_named s a.0 a.1 b) (take_all_named s named) kind (λ why e. only_named (place_of s a.0) s a.0 a.1 b why e) (λ d e. only_all s named d kind e) h

only_whole : (t : Bool) (d : BoundView) (kind : EvalFault) → cond t (bound_to d) (Err Args) ≡ Err kind → kind ≡ Args
only_whole true d kind h = cc
only_whole false d kind h = cc

only_bind : (t : Bool) (s : SignatureView) (p : Passed) (kind : EvalFault) → cond t (Err Args) (and_bind (take_all_named s p.named (placed s p.positional)) (if_complete s)) ≡ Err kind → kind ≡ Args
only_bind true s p kind h = cc
only_bind false s p kind h =
    only_and (take_all_named s p.named (placed s p.positional)) (if_complete s) kind (only_all s p.named (placed s p.positional)) (λ d e. only_whole (is_complete s.parameters d.values) d kind e) h

args_only : (s : SignatureView) (p : Passed) (kind : EvalFault) → bind s p ≡ Err kind → kind ≡ Args
unfolding bind
args_only s p kind h = only_bind (too_many s p.positional) s p kind h

pub misfits_refused : (s : SignatureView) (p : Passed) → IsMisfit s p → bind s p ≡ Err Args
misfits_refused s p misfit = by_result (bind s p) refl
  where
    by_result : (r : Binding) → bind s p ≡ r → bind s p ≡ Err Args
    by_result (Ok b) e = absurd (none_fits s p b (steps s p b e) misfit)
    by_result (Err kind) e = e ∙ ap Err (args_only s p kind e)
