-- Each argument goes to the parameter that it is for, and stays there.
use Rattle.std.proofs.Common.{◌≡◌, ◌∙◌, sym, ap, refl, ℕ, zero, suc, ◌<◌, ◌≤◌, Bool, true, false, cond, List, [], ◌∷◌, length, slice_get, set, Option, Some, None, Ok, Err, arith}
use Rattle.std.specs.Prelude.{is_some}
use Rattle.std.specs.List.{position_from}
use Rattle.std.proofs.lemmas.Option.{slice_get_within}
use Rattle.bq_base.specs.declared.fault.EvalFault.TheVariants.{Args}
use Rattle.bq_value.specs.Datum.{Datum, string}
use Rattle.bq_value.specs.Pairs.{found, put}
use Rattle.bq_builtin_machine.specs.Args.{Passed}
use Rattle.bq_builtin_machine.specs.Parameters.{SignatureView, is_called, places}
use Rattle.bq_builtin_machine.specs.Binding.{BoundView, Binding, placed_values, placed, too_many, fill_by, fill, take_keyword, take_named_by, take_named, and_bind, take_all_named, is_complete, if_complete, bind}
use Rattle.bq_builtin_machine.specs.Laws.{ArgumentsArrive}

abbrev bound_or : BoundView → Binding → BoundView
bound_or b (Ok c) = c
bound_or b (Err kind) = b

abbrev bound_to : BoundView → Binding
bound_to b = Ok b

same_bound : (b c : BoundView) → bound_to b ≡ bound_to c → b ≡ c
same_bound b c h = ap (bound_or b) h

-- ---- lists

set_here : {A : Type 0} (xs : List A) (i : ℕ) (x : A) → i < length xs → slice_get (set xs i x) i ≡ Some x
set_here [] i x h = absurd (omega (arith, h))
set_here (y ∷ ys) zero x h = refl
set_here (y ∷ ys) (suc i) x h = set_here ys i x (omega (arith, h))

set_other : {A : Type 0} (xs : List A) (i j : ℕ) (x : A) → (i ≡ j → ⊥) → slice_get (set xs i x) j ≡ slice_get xs j
set_other [] i j x apart = refl
set_other (y ∷ ys) zero zero x apart = absurd (apart refl)
set_other (y ∷ ys) zero (suc j) x apart = refl
set_other (y ∷ ys) (suc i) zero x apart = refl
set_other (y ∷ ys) (suc i) (suc j) x apart = set_other ys i j x (λ e. apart (ap suc e))

-- ---- one argument

fill_done_by : (i : ℕ) (v : Datum) (b c : BoundView) (o : Option (Option Datum)) → slice_get b.values i ≡ o → fill_by o i v b ≡ Ok c → (slice_get b.values i ≡ Some None) × (record b { values = set b.values i (Some v) } ≡ c)
fill_done_by i v b c None e h = absurd (cc)
fill_done_by i v b c (Some None) e h = (e, same_bound _ c h)
fill_done_by i v b c (Some (Some w)) e h = absurd (cc)

fill_done : (i : ℕ) (v : Datum) (b c : BoundView) → fill i v b ≡ Ok c → (slice_get b.values i ≡ Some None) × (record b { values = set b.values i (Some v) } ≡ c)
unfolding fill
fill_done i v b c h = fill_done_by i v b c (slice_get b.values i) refl h

apart_by : (xs : List (Option Datum)) (i j : ℕ) (v : Datum) → slice_get xs i ≡ Some None → slice_get xs j ≡ Some (Some v) → i ≡ j → ⊥
apart_by xs i j v free taken e = absurd (cc)

fill_keeps : (i : ℕ) (v : Datum) (b c : BoundView) → fill i v b ≡ Ok c → (j : ℕ) (w : Datum) → slice_get b.values j ≡ Some (Some w) → slice_get c.values j ≡ Some (Some w)
fill_keeps i v b c h j w taken =
    let both = fill_done i v b c h in
    ap (λ d. slice_get d.values j) (sym both.1) ∙ (set_other b.values i j (Some v) (apart_by b.values i j w both.0 taken) ∙ taken)

fill_fills : (i : ℕ) (v : Datum) (b c : BoundView) → fill i v b ≡ Ok c → slice_get c.values i ≡ Some (Some v)
fill_fills i v b c h =
    let both = fill_done i v b c h in
    ap (λ d. slice_get d.values i) (sym both.1) ∙ set_here b.values i (Some v) (slice_get_within b.values i None both.0)

keyword_values_by : (t u : Bool) (name : List ℕ) (v : Datum) (b c : BoundView) → cond t (cond u (Err Args) (Ok (record b { keywords = put (string name) v b.keywords }))) (Err Args) ≡ Ok c → b.values ≡ c.values
keyword_values_by false u name v b c h = absurd (cc)
keyword_values_by true true name v b c h = absurd (cc)
keyword_values_by true false name v b c h = ap (λ d. d.values) (same_bound _ c h)

keyword_values : (takes : Bool) (name : List ℕ) (v : Datum) (b c : BoundView) → take_keyword takes name v b ≡ Ok c → b.values ≡ c.values
unfolding take_keyword
keyword_values takes name v b c h = keyword_values_by takes (is_some (found (string name) b.keywords)) name v b c h

named_keeps_by : (o : Option ℕ) (s : SignatureView) (name : List ℕ) (v : Datum) (b c : BoundView) → take_named_by o s.takes_keywords name v b ≡ Ok c → (j : ℕ) (w : Datum) → slice_get b.values j ≡ Some (Some w) → slice_get c.values j ≡ Some (Some w)
named_keeps_by (Some i) s name v b c h j w taken = fill_keeps i v b c h j w taken
named_keeps_by None s name v b c h j w taken = ap (λ vs. slice_get vs j) (sym (keyword_values s.takes_keywords name v b c h)) ∙ taken

named_keeps : (s : SignatureView) (name : List ℕ) (v : Datum) (b c : BoundView) → take_named s name v b ≡ Ok c → (j : ℕ) (w : Datum) → slice_get b.values j ≡ Some (Some w) → slice_get c.values j ≡ Some (Some w)
unfolding take_named
named_keeps s name v b c h j w taken = named_keeps_by (position_from (is_called name) 0 s.parameters) s name v b c h j w taken

named_arrives : (s : SignatureView) (name : List ℕ) (v : Datum) (i : ℕ) (b c : BoundView) → position_from (is_called name) 0 s.parameters ≡ Some i → take_named s name v b ≡ Ok c → slice_get c.values i ≡ Some (Some v)
unfolding take_named
named_arrives s name v i b c at h = fill_fills i v b c (ap (λ o. take_named_by o s.takes_keywords name v b) (sym at) ∙ h)

-- ---- all named arguments

and_keeps_by : (r : Binding) (next : BoundView → Binding) (c : BoundView) → and_bind r next ≡ Ok c → (d : BoundView) × ((r ≡ Ok d) × (next d ≡ Ok c))
and_keeps_by (Ok d) next c h = (d, (refl, h))
and_keeps_by (Err kind) next c h = absurd (cc)

all_keep : (named : List (List ℕ × Datum)) (s : SignatureView) (b c : BoundView) → take_all_named s named b ≡ Ok c → (j : ℕ) (w : Datum) → slice_get b.values j ≡ Some (Some w) → slice_get c.values j ≡ Some (Some w)
unfolding take_all_named
all_keep [] s b c h j w taken = ap (λ d. slice_get d.values j) (sym (same_bound b c h)) ∙ taken
all_keep (a ∷ named) s b c h j w taken =
    let step = and_keeps_by (take_named s a.0 a.1 b) (take_all_named s named) c h in
    all_keep named s step.0 c step.1.1 j w (named_keeps s a.0 a.1 b step.0 step.1.0 j w taken)

all_arrive : (named : List (List ℕ × Datum)) (s : SignatureView) (b c : BoundView) → take_all_named s named b ≡ Ok c → (k : ℕ) (name : List ℕ) (v : Datum) (i : ℕ) → slice_get named k ≡ Some (name, v) → position_from (is_called name) 0 s.parameters ≡ Some i → slice_get c.values i ≡ Some (Some v)
unfolding take_all_named
all_arrive [] s b c h k name v i is at = absurd (cc)
all_arrive (a ∷ named) s b c h zero name v i is at =
    let step = and_keeps_by (take_named s a.0 a.1 b) (take_all_named s named) c h in
    let first : a ≡ (name, v) = cc in
    let done : take_named s name v b ≡ Ok step.0 = ap (λ p. take_named s p.0 p.1 b) (sym first) ∙ step.1.0 in
    all_keep named s step.0 c step.1.1 i v (named_arrives s name v i b step.0 at done)
all_arrive (a ∷ named) s b c h (suc k) name v i is at =
    let step = and_keeps_by (take_named s a.0 a.1 b) (take_all_named s named) c h in
    all_arrive named s step.0 c step.1.1 k name v i is at

rest_by_keyword : (t u : Bool) (name : List ℕ) (v : Datum) (b c : BoundView) → cond t (cond u (Err Args) (Ok (record b { keywords = put (string name) v b.keywords }))) (Err Args) ≡ Ok c → b.rest ≡ c.rest
rest_by_keyword false u name v b c h = absurd (cc)
rest_by_keyword true true name v b c h = absurd (cc)
rest_by_keyword true false name v b c h = ap (λ d. d.rest) (same_bound _ c h)

rest_by : (o : Option ℕ) (s : SignatureView) (name : List ℕ) (v : Datum) (b c : BoundView) → take_named_by o s.takes_keywords name v b ≡ Ok c → b.rest ≡ c.rest
unfolding take_keyword
rest_by (Some i) s name v b c h = ap (λ d. d.rest) (fill_done i v b c h).1
rest_by None s name v b c h = rest_by_keyword s.takes_keywords (is_some (found (string name) b.keywords)) name v b c h

rest_stays : (s : SignatureView) (name : List ℕ) (v : Datum) (b c : BoundView) → take_named s name v b ≡ Ok c → b.rest ≡ c.rest
unfolding take_named
rest_stays s name v b c h = rest_by (position_from (is_called name) 0 s.parameters) s name v b c h

all_rest : (named : List (List ℕ × Datum)) (s : SignatureView) (b c : BoundView) → take_all_named s named b ≡ Ok c → b.rest ≡ c.rest
unfolding take_all_named
all_rest [] s b c h = ap (λ d. d.rest) (same_bound b c h)
all_rest (a ∷ named) s b c h =
    let step = and_keeps_by (take_named s a.0 a.1 b) (take_all_named s named) c h in
    rest_stays s a.0 a.1 b step.0 step.1.0 ∙ all_rest named s step.0 c step.1.1

-- ---- positional arguments

placed_at : (p n : ℕ) (xs : List Datum) (i : ℕ) (v : Datum) → i < p → p ≤ n → slice_get xs i ≡ Some v → slice_get (placed_values p n xs) i ≡ Some (Some v)
placed_at zero n xs i v below within is = absurd (omega (arith, below))
placed_at (suc p) zero xs i v below within is = absurd (omega (arith, within))
placed_at (suc p) (suc n) [] i v below within is = absurd (cc)
placed_at (suc p) (suc n) (x ∷ xs) zero v below within is = ap Some is
placed_at (suc p) (suc n) (x ∷ xs) (suc i) v below within is = placed_at p n xs i v (omega (arith, below)) (omega (arith, within)) is

-- ---- all arguments

complete_by : (t : Bool) (d b : BoundView) → cond t (Ok d) (Err Args) ≡ Ok b → d ≡ b
complete_by true d b h = same_bound d b h
complete_by false d b h = absurd (cc)

bound_by : (t : Bool) (s : SignatureView) (p : Passed) (b : BoundView) → cond t (Err Args) (and_bind (take_all_named s p.named (placed s p.positional)) (if_complete s)) ≡ Ok b → take_all_named s p.named (placed s p.positional) ≡ Ok b
bound_by true s p b h = absurd (cc)
bound_by false s p b h =
    let step = and_keeps_by (take_all_named s p.named (placed s p.positional)) (if_complete s) b h in
    step.1.0 ∙ ap bound_to (complete_by (is_complete s.parameters step.0.values) step.0 b step.1.1)

pub arguments_arrive : (s : SignatureView) (p : Passed) (b : BoundView) → bind s p ≡ Ok b → ArgumentsArrive s p b
unfolding bind
arguments_arrive s p b h =
    let all = bound_by (too_many s p.positional) s p b h in
    record {
      positional = λ i v below is. all_keep p.named s (placed s p.positional) b all i v (placed_at (places s) (length s.parameters) p.positional i v below (omega arith) is);
      rest = sym (all_rest p.named s (placed s p.positional) b all);
      named = λ k name v i is at. all_arrive p.named s (placed s p.positional) b all k name v i is at;
    }
