-- What the parameters of a function begin with.
use Rattle.std.proofs.Common.{◌≡◌, ◌∙◌, sym, ap, subst, refl, ℕ, zero, suc, ◌+◌, ◌<◌, ◌≤◌, inl, inr, Bool, true, false, cond, List, [], ◌∷◌, ◌++◌, length, slice_get, Option, Some, None, Ok, Err, arith, append_assoc, append-nil}
use Rattle.std.specs.Prelude.{is_some, not, ◌||◌, map, drop, bytes_eq, if◌then◌else◌}
use Rattle.std.proofs.lemmas.Bool.Decides.{Decides-eqb}
use Rattle.std.proofs.lemmas.List.{length-set}
use Rattle.std.proofs.lemmas.Option.{slice_get_within}
use Rattle.std.proofs.lemmas.Slice.Eq.{bytes_eq-Decides}
use Rattle.std.specs.List.{AllByRecursion, filter, list_any, position_from}
use Rattle.bq_base.specs.declared.fault.EvalFault.TheVariants.{Args}
use Rattle.bq_parse_grammar.specs.declared.tree.Identifier.{Identifier}
use Rattle.bq_resolve_scope.specs.declared.file.Formal.{Formal}
use Rattle.bq_resolve_scope.specs.declared.file.Formal.TheVariants as formal
use Rattle.bq_resolve_scope.specs.declared.file.Function.{Function}
use Rattle.bq_value.specs.Contents.{pairs}
use Rattle.bq_value.specs.Datum.{Datum, string, tuple, data_of}
use Rattle.bq_value.specs.Pairs.{found, put}
use Rattle.bq_value.specs.Same.{same}
use Rattle.bq_builtin_machine.specs.Action.{Action, Run, done, stopped, following, pure}
use Rattle.bq_builtin_machine.specs.Args.{Passed}
use Rattle.bq_builtin_machine.specs.Binding.{BoundView, Binding, placed, take_named, take_all_named, bind}
use Rattle.bq_builtin_machine.specs.Parameters.{ParameterView, SignatureView, is_called, places}
use Rattle.bq_builtin_machine.specs.State.{stop_at}
use Rattle.bq_builtin_machine.proofs.Bindings.{arguments_arrive}
use Rattle.bq_eval_spec.specs.Frame.{Frame, empty, fill}
use Rattle.bq_eval_spec.specs.Primitives.{Primitives, given_by}
use Rattle.bq_eval_spec.specs.Calls.{Filling, singles, placed_of, has_star, has_star_star, signature, keywords_of, with_value, with_default, fill_by, fill_parameter, fill_parameters, entry}
use Rattle.bq_eval_spec.specs.Environment.{Scoping}
use Rattle.bq_eval_spec.specs.Slots.{slot_of, by_slots}
use Rattle.bq_eval_laws.specs.Frames.{goes_into}
use Rattle.bq_eval_laws.specs.Calls.Parameters.{takes_one, has_default, is_star, is_for, bound_name, HasNoStar, count_of_one, IsParameter, from_place, from_name, from_default, from_rest, for_none, ParametersBegin, KeywordsBegin, BareStarsEndThem}
use Rattle.bq_eval_laws.specs.Calls.Misfits.{left_over}
use Rattle.bq_eval_laws.proofs.Calls.Misfits.{bound_to, same_bound, Steps, steps, Taken, by_parameter, by_rest, taken, and_done, came, placed_only, misfits_refused}
use Rattle.bq_eval_laws.proofs.Calls.Refused.{length_placed, called_from}
use Rattle.bq_eval_laws.proofs.Frames.{is_given, all_held}
use Rattle.bq_eval_laws.proofs.InOrder.{ends}

-- ---- lists

next_of : {A : Type 0} (xs : List A) (i : ℕ) (x : A) → slice_get xs i ≡ Some x → drop i xs ≡ x ∷ drop (suc i) xs
next_of [] i x h = absurd (cc)
next_of (y ∷ ys) zero x h = let is : y ≡ x = cc in ap (λ z. z ∷ ys) is
next_of (y ∷ ys) (suc i) x h = next_of ys i x h

all_after : {A : Type 0} (xs : List A) → drop zero xs ≡ xs
all_after [] = refl
all_after (x ∷ xs) = refl

same_some : {A : Type 0} (o : Option A) (x y : A) → o ≡ Some x → o ≡ Some y → x ≡ y
same_some o x y h k = cc

-- an element of a list that is long enough
element_at : {A : Type 0} (xs : List A) (i : ℕ) → i < length xs → (x : A) × (slice_get xs i ≡ Some x)
element_at [] i h = absurd (omega (arith, h))
element_at (x ∷ xs) zero h = (x, refl)
element_at (x ∷ xs) (suc i) h = element_at xs i (omega (arith, h))

-- ---- runs

-- the two parts of a run that ends well
record Parts {S A B : Type 0} (r : Run S A) (f : A → Action S B) (y : B) (t : S) : Type 0 where
  value : A
  state : S
  first : r ≡ done value state
  second : f value state ≡ done y t

parts : {S A B : Type 0} (r : Run S A) (f : A → Action S B) (y : B) (t : S) → following r f ≡ done y t → Parts r f y t
parts (done x s) f y t h = record { value = x; state = s; first = refl; second = h }
parts (stopped why) f y t h = absurd (let no : ⊥ = cc in no)

same_value : {S A : Type 0} (x y : A) (s t : S) → pure x s ≡ done y t → x ≡ y
same_value x y s t h = cc

same_state : {S A : Type 0} (x y : A) (s t : S) → pure x s ≡ done y t → s ≡ t
same_state x y s t h = cc

-- ---- parameters that were bound before

none_after : {A : Type 0} (n : ℕ) → (let none : List A = [] in drop n (drop 1 none) ≡ drop (suc n) none)
none_after zero = refl
none_after (suc n) = refl

-- the elements that a test takes of one more element
drop_one_more : {A B : Type 0} (f : B → Bool) (q : B) (qs : List B) (b : Bool) (xs : List A)
    → drop (length (filter f qs)) (drop (length (cond b (q ∷ []) [])) xs) ≡ drop (length (cond b (q ∷ filter f qs) (filter f qs))) xs
drop_one_more f q qs false xs = ap (drop (length (filter f qs))) (all_after xs)
drop_one_more f q qs true [] = none_after (length (filter f qs))
drop_one_more f q qs true (x ∷ xs) = ap (drop (length (filter f qs))) (all_after xs)

-- what is left to be bound after these parameters
record IsAfter (before : List Formal) (x y : Filling Frame) : Type 0 where
  values_left : y.values ≡ drop (count_of_one before) x.values
  defaults_left : y.defaults ≡ drop (length (filter has_default before)) x.defaults
  rest_stays : y.rest ≡ x.rest
  keywords_stay : y.keywords ≡ x.keywords

after_none : (x : Filling Frame) → IsAfter [] x x
after_none x = record { values_left = sym (all_after x.values); defaults_left = sym (all_after x.defaults); rest_stays = refl; keywords_stay = refl }

after_one_more : (q : Formal) (qs : List Formal) (x y z : Filling Frame) → IsAfter (q ∷ []) x y → IsAfter qs y z → IsAfter (q ∷ qs) x z
after_one_more q qs x y z one others = record {
  values_left = others.values_left ∙ (ap (drop (count_of_one qs)) one.values_left ∙ drop_one_more takes_one q qs (takes_one q) x.values);
  defaults_left = others.defaults_left ∙ (ap (drop (length (filter has_default qs))) one.defaults_left ∙ drop_one_more has_default q qs (has_default q) x.defaults);
  rest_stays = others.rest_stays ∙ one.rest_stays;
  keywords_stay = others.keywords_stay ∙ one.keywords_stay;
}

module _ {S : Type 0} (m : Primitives S) where
  after_value : (n : Identifier) (vs : List (Option Datum)) (x y : Filling Frame) (s t : S) → vs ≡ x.values → with_value m by_slots n vs x s ≡ done y t → IsAfter (formal.Plain n ∷ []) x y
  after_value n [] x y s t is h = absurd (let no : ⊥ = cc in no)
  after_value n (None ∷ vs) x y s t is h = absurd (let no : ⊥ = cc in no)
  after_value n (Some v ∷ vs) x y s t is h =
      subst (IsAfter (formal.Plain n ∷ []) x) (same_value _ y s t h)
      (record { values_left = sym (all_after vs) ∙ ap (drop 1) is; defaults_left = sym (all_after x.defaults); rest_stays = refl; keywords_stay = refl })

  after_default : (n : Identifier) (vs : List (Option Datum)) (ds : List Datum) (x y : Filling Frame) (s t : S) → vs ≡ x.values → ds ≡ x.defaults → with_default m by_slots n vs ds x s ≡ done y t
      → IsAfter (formal.Default n ∷ []) x y
  after_default n [] ds x y s t is are h = absurd (let no : ⊥ = cc in no)
  after_default n (None ∷ vs) [] x y s t is are h = absurd (let no : ⊥ = cc in no)
  after_default n (Some v ∷ vs) [] x y s t is are h = absurd (let no : ⊥ = cc in no)
  after_default n (None ∷ vs) (d ∷ ds) x y s t is are h =
      subst (IsAfter (formal.Default n ∷ []) x) (same_value _ y s t h)
      (record { values_left = sym (all_after vs) ∙ ap (drop 1) is; defaults_left = sym (all_after ds) ∙ ap (drop 1) are; rest_stays = refl; keywords_stay = refl })
  after_default n (Some v ∷ vs) (d ∷ ds) x y s t is are h =
      subst (IsAfter (formal.Default n ∷ []) x) (same_value _ y s t h)
      (record { values_left = sym (all_after vs) ∙ ap (drop 1) is; defaults_left = sym (all_after ds) ∙ ap (drop 1) are; rest_stays = refl; keywords_stay = refl })

  after_bound : (q : Formal) (x z y : Filling Frame) (s t : S) → count_of_one (q ∷ []) ≡ 0 → length (filter has_default (q ∷ [])) ≡ 0 → z.values ≡ x.values → z.defaults ≡ x.defaults → z.rest ≡ x.rest
      → z.keywords ≡ x.keywords → pure z s ≡ done y t → IsAfter (q ∷ []) x y
  after_bound q x z y s t none no_default values defaults rest keywords h =
      subst (IsAfter (q ∷ []) x) (same_value z y s t h)
      (record {
        values_left = values ∙ (sym (all_after x.values) ∙ ap (λ n. drop n x.values) (sym none));
        defaults_left = defaults ∙ (sym (all_after x.defaults) ∙ ap (λ n. drop n x.defaults) (sym no_default));
        rest_stays = rest;
        keywords_stay = keywords;
      })

  after_by : (q : Formal) (x y : Filling Frame) (s t : S) → fill_by m by_slots q x s ≡ done y t → IsAfter (q ∷ []) x y
  after_by (formal.Plain n) x y s t h = after_value n x.values x y s t refl h
  after_by (formal.Default n) x y s t h = after_default n x.values x.defaults x y s t refl refl h
  after_by formal.BareStar x y s t h = after_bound formal.BareStar x x y s t refl refl refl refl refl refl h
  after_by (formal.Star n) x y s t h = after_bound (formal.Star n) x _ y s t refl refl refl refl refl refl h
  after_by (formal.StarStar n) x y s t h = after_bound (formal.StarStar n) x _ y s t refl refl refl refl refl refl h

  after : (before : List Formal) (x y : Filling Frame) (s t : S) → fill_parameters m by_slots before x s ≡ done y t → IsAfter before x y
  unfolding fill_parameters fill_parameter
  after [] x y s t h = subst (IsAfter [] x) (same_value x y s t h) (after_none x)
  after (q ∷ qs) x y s t h =
      let p = parts (fill_by m by_slots q x s) (λ z. fill_parameters m by_slots qs z) y t h in
      after_one_more q qs x p.value y (after_by q x p.value s p.state p.first) (after qs p.value y p.state t p.second)

  -- some parameters, and then the others
  cut_by : (r : Run S (Filling Frame)) (qs others : List Formal)
      → ((y : Filling Frame) (u : S) → fill_parameters m by_slots (qs ++ others) y u ≡ following (fill_parameters m by_slots qs y u) (λ z. fill_parameters m by_slots others z))
      → following r (λ z. fill_parameters m by_slots (qs ++ others) z) ≡ following (following r (λ z. fill_parameters m by_slots qs z)) (λ z. fill_parameters m by_slots others z)
  cut_by (done y u) qs others h = h y u
  cut_by (stopped why) qs others h = refl

  cut : (before others : List Formal) (x : Filling Frame) (s : S)
      → fill_parameters m by_slots (before ++ others) x s ≡ following (fill_parameters m by_slots before x s) (λ z. fill_parameters m by_slots others z)
  unfolding fill_parameters
  cut [] others x s = refl
  cut (q ∷ qs) others x s = cut_by (fill_parameter m by_slots q x s) qs others (λ y u. cut qs others y u)

  -- ---- what one parameter binds

  fills_here : (env : Frame) (slot : ℕ) (v : Datum) → fill env slot v slot ≡ Some v
  unfolding fill
  fills_here env slot v = ap (λ b. if b then Some v else env slot) ((Decides-eqb slot slot).1 refl)

  binds : (own n : Identifier) (z y : Filling Frame) (env : Frame) (v : Datum) (s t : S) → Some own ≡ Some n → z.env ≡ fill env (slot_of own.referent) v → pure z s ≡ done y t
      → y.env (slot_of n.referent) ≡ Some v
  binds own n z y env v s t is now h =
      let same_name : own ≡ n = cc in
      let here : z.env (slot_of own.referent) ≡ Some v = ap (λ (e : Frame). e (slot_of own.referent)) now ∙ fills_here env (slot_of own.referent) v in
      ap (λ (f : Filling Frame). f.env (slot_of n.referent)) (sym (same_value z y s t h)) ∙ (ap (λ (i : Identifier). z.env (slot_of i.referent)) (sym same_name) ∙ here)

  with_argument : (own : Identifier) (ds : List Datum) (n : Identifier) (v : Datum) (vs : List (Option Datum)) (x y : Filling Frame) (s t : S) → Some own ≡ Some n
      → with_default m by_slots own (Some v ∷ vs) ds x s ≡ done y t → y.env (slot_of n.referent) ≡ Some v
  with_argument own [] n v vs x y s t is h = absurd (let no : ⊥ = cc in no)
  with_argument own (d ∷ ds) n v vs x y s t is h = binds own n _ y x.env v s t is refl h

  takes_argument : (q : Formal) (n : Identifier) (v : Datum) (vs : List (Option Datum)) (x y : Filling Frame) (s t : S) → takes_one q ≡ true → bound_name q ≡ Some n → x.values ≡ Some v ∷ vs
      → fill_by m by_slots q x s ≡ done y t → y.env (slot_of n.referent) ≡ Some v
  takes_argument (formal.Plain own) n v vs x y s t one is has h = binds own n _ y x.env v s t is refl (ap (λ ws. with_value m by_slots own ws x s) (sym has) ∙ h)
  takes_argument (formal.Default own) n v vs x y s t one is has h = with_argument own x.defaults n v vs x y s t is (ap (λ ws. with_default m by_slots own ws x.defaults x s) (sym has) ∙ h)
  takes_argument formal.BareStar n v vs x y s t one is has h = absurd (let no : ⊥ = cc in no)
  takes_argument (formal.Star own) n v vs x y s t one is has h = absurd (let no : ⊥ = cc in no)
  takes_argument (formal.StarStar own) n v vs x y s t one is has h = absurd (let no : ⊥ = cc in no)

  takes_default : (q : Formal) (n : Identifier) (v : Datum) (vs : List (Option Datum)) (ds : List Datum) (x y : Filling Frame) (s t : S) → has_default q ≡ true → bound_name q ≡ Some n
      → x.values ≡ None ∷ vs → x.defaults ≡ v ∷ ds → fill_by m by_slots q x s ≡ done y t → y.env (slot_of n.referent) ≡ Some v
  takes_default (formal.Plain own) n v vs ds x y s t one is has first h = absurd (let no : ⊥ = cc in no)
  takes_default (formal.Default own) n v vs ds x y s t one is has first h =
      binds own n _ y x.env v s t is refl
      (ap (λ es. with_default m by_slots own (None ∷ vs) es x s) (sym first) ∙ (ap (λ ws. with_default m by_slots own ws x.defaults x s) (sym has) ∙ h))
  takes_default formal.BareStar n v vs ds x y s t one is has first h = absurd (let no : ⊥ = cc in no)
  takes_default (formal.Star own) n v vs ds x y s t one is has first h = absurd (let no : ⊥ = cc in no)
  takes_default (formal.StarStar own) n v vs ds x y s t one is has first h = absurd (let no : ⊥ = cc in no)

  -- ---- the begin of a function

  -- what was bound before a parameter, and that what it binds stays
  record Reached (d : Function) (defaults : List Datum) (p : Passed) (s : S) (env : Frame) (before : List Formal) (q : Formal) (others : List Formal) : Type 0 where
    args : BoundView
    bound : bind (signature d.parameters) p ≡ Ok args
    keywords : Datum
    made_at : S
    made : keywords_of m (has_star_star d.parameters) args.keywords s ≡ done keywords made_at
    x : Filling Frame
    y : Filling Frame
    u : S
    w : S
    values_then : x.values ≡ drop (count_of_one before) args.values
    defaults_then : x.defaults ≡ drop (length (filter has_default before)) defaults
    rest_then : x.rest ≡ tuple (data_of args.rest)
    keywords_then : x.keywords ≡ keywords
    own : fill_by m by_slots q x u ≡ done y w
    stays : (slot : ℕ) (v : Datum) → AllByRecursion (λ f. goes_into slot f ≡ false) others → y.env slot ≡ Some v → env slot ≡ Some v

  given_args : (r : Binding) (s : S) (b : BoundView) (u : S) → given_by m r s ≡ done b u → (r ≡ Ok b) × (s ≡ u)
  given_args (Ok c) s b u h = (ap bound_to (same_value c b s u h), same_state c b s u h)
  given_args (Err kind) s b u h = absurd (let no : ⊥ = cc in no)

  reached : (d : Function) (defaults : List Datum) (p : Passed) (s t : S) (env : Frame) (before : List Formal) (q : Formal) (others : List Formal) → d.parameters ≡ before ++ q ∷ others
      → entry m by_slots d defaults p s ≡ done env t → Reached d defaults p s env before q others
  unfolding entry fill_parameters fill_parameter
  reached d defaults p s t env before q others among h =
      let one = parts (given_by m (bind (signature d.parameters) p) s) _ env t h in
      let bound = given_args (bind (signature d.parameters) p) s one.value one.state one.first in
      let two = parts (keywords_of m (has_star_star d.parameters) one.value.keywords one.state) _ env t one.second in
      let begun : Filling Frame = record { values = one.value.values; defaults = defaults; rest = tuple (data_of one.value.rest); keywords = two.value; env = empty } in
      let three = parts (fill_parameters m by_slots d.parameters begun two.state) (λ z. pure z.env) env t two.second in
      let all : following (fill_parameters m by_slots before begun two.state) (λ z. fill_parameters m by_slots (q ∷ others) z) ≡ done three.value three.state =
      sym (cut before (q ∷ others) begun two.state) ∙ (ap (λ ps. fill_parameters m by_slots ps begun two.state) (sym among) ∙ three.first) in
      let four = parts (fill_parameters m by_slots before begun two.state) (λ z. fill_parameters m by_slots (q ∷ others) z) three.value three.state all in
      let five = parts (fill_by m by_slots q four.value four.state) (λ z. fill_parameters m by_slots others z) three.value three.state four.second in
      let passed = after before begun four.value two.state four.state four.first in
      record {
        args = one.value;
        bound = bound.0;
        keywords = two.value;
        made_at = two.state;
        made = ap (λ r. keywords_of m (has_star_star d.parameters) one.value.keywords r) bound.1 ∙ two.first;
        x = four.value;
        y = five.value;
        u = four.state;
        w = five.state;
        values_then = passed.values_left;
        defaults_then = passed.defaults_left;
        rest_then = passed.rest_stays;
        keywords_then = passed.keywords_stay;
        own = five.first;
        stays = λ slot v apart has.
            let held = all_held m slot (Some v) others five.value five.state apart has in
            ap (λ (e : Frame). e slot) (sym (same_value three.value.env env three.state t three.second)) ∙ is_given (λ (f : Filling Frame). f.env slot ≡ Some v) _ three.value three.state held five.second;
      }

-- ---- the places of parameters

-- how a signature sees a parameter that takes one argument
abbrev seen : Identifier → Bool → ParameterView
seen n required = record { name = Some n.name; is_required = required }

module _ (q : Formal) (others : List Formal) where
  place_reached : (before : List Formal) → takes_one q ≡ true → HasNoStar before → count_of_one before < placed_of (before ++ q ∷ others)
  place_reached [] one free = first q one
    where
      first : (r : Formal) → takes_one r ≡ true → 0 < placed_of (r ∷ others)
      first (formal.Plain n) h = omega arith
      first (formal.Default n) h = omega arith
      first formal.BareStar h = absurd (let no : ⊥ = cc in no)
      first (formal.Star n) h = absurd (let no : ⊥ = cc in no)
      first (formal.StarStar n) h = absurd (let no : ⊥ = cc in no)
  place_reached (formal.Plain n ∷ qs) one free = let later = place_reached qs one free.1 in omega (arith, later)
  place_reached (formal.Default n ∷ qs) one free = let later = place_reached qs one free.1 in omega (arith, later)
  place_reached (formal.BareStar ∷ qs) one free = absurd (let is = free.0 in let no : ⊥ = cc in no)
  place_reached (formal.Star n ∷ qs) one free = absurd (let is = free.0 in let no : ⊥ = cc in no)
  place_reached (formal.StarStar n ∷ qs) one free = place_reached qs one free.1

  -- a positional argument reaches only what is before any `*`
  reaches_none : (before : List Formal) → count_of_one before < placed_of (before ++ q ∷ others) → HasNoStar before
  reaches_none [] less = tt
  reaches_none (formal.Plain n ∷ qs) less = (refl, reaches_none qs (omega (arith, less)))
  reaches_none (formal.Default n ∷ qs) less = (refl, reaches_none qs (omega (arith, less)))
  reaches_none (formal.BareStar ∷ qs) less = absurd (omega (arith, less))
  reaches_none (formal.Star n ∷ qs) less = absurd (omega (arith, less))
  reaches_none (formal.StarStar n ∷ qs) less = (refl, reaches_none qs less)

  -- how a signature sees the parameter
  single_at : (before : List Formal) (n : Identifier) → takes_one q ≡ true → bound_name q ≡ Some n
      → (required : Bool) × (slice_get (singles (before ++ q ∷ others)) (count_of_one before) ≡ Some (seen n required))
  single_at [] n one is = first q one is
    where
      first : (r : Formal) → takes_one r ≡ true → bound_name r ≡ Some n → (required : Bool) × (slice_get (singles (r ∷ others)) 0 ≡ Some (seen n required))
      first (formal.Plain own) h e = let same_name : own ≡ n = cc in (true, ap (λ i. Some (seen i true)) same_name)
      first (formal.Default own) h e = let same_name : own ≡ n = cc in (false, ap (λ i. Some (seen i false)) same_name)
      first formal.BareStar h e = absurd (let no : ⊥ = cc in no)
      first (formal.Star own) h e = absurd (let no : ⊥ = cc in no)
      first (formal.StarStar own) h e = absurd (let no : ⊥ = cc in no)
  single_at (formal.Plain own ∷ qs) n one is = single_at qs n one is
  single_at (formal.Default own ∷ qs) n one is = single_at qs n one is
  single_at (formal.BareStar ∷ qs) n one is = single_at qs n one is
  single_at (formal.Star own ∷ qs) n one is = single_at qs n one is
  single_at (formal.StarStar own ∷ qs) n one is = single_at qs n one is

  -- its name is found at its place, if no parameter before it has the name
  named_at : (before : List Formal) (n : Identifier) (j : ℕ) → takes_one q ≡ true → bound_name q ≡ Some n → AllByRecursion (λ f. is_for n.name f ≡ false) before
      → position_from (is_called n.name) j (singles (before ++ q ∷ others)) ≡ Some (j + count_of_one before)
  named_at [] n j one is apart = first q one is
    where
      found_at : (own : Identifier) (after_it : Option ℕ) → Some own ≡ Some n → cond (bytes_eq n.name own.name) (Some j) after_it ≡ Some (j + 0)
      found_at own after_it e =
          let same_name : own ≡ n = cc in
          let yes : bytes_eq n.name own.name ≡ true = (bytes_eq-Decides n.name own.name).1 (ap (λ (i : Identifier). i.name) (sym same_name)) in
          let place : j ≡ j + 0 = omega arith in
          ap (λ b. cond b (Some j) after_it) yes ∙ ap Some place

      first : (r : Formal) → takes_one r ≡ true → bound_name r ≡ Some n → position_from (is_called n.name) j (singles (r ∷ others)) ≡ Some (j + 0)
      first (formal.Plain own) h e = found_at own _ e
      first (formal.Default own) h e = found_at own _ e
      first formal.BareStar h e = absurd (let no : ⊥ = cc in no)
      first (formal.Star own) h e = absurd (let no : ⊥ = cc in no)
      first (formal.StarStar own) h e = absurd (let no : ⊥ = cc in no)
  named_at (formal.Plain own ∷ qs) n j one is apart =
      let place : (j + 1) + count_of_one qs ≡ j + suc (count_of_one qs) = omega arith in
      ap (λ b. cond b (Some j) (position_from (is_called n.name) (j + 1) (singles (qs ++ q ∷ others)))) apart.0 ∙ (named_at qs n (j + 1) one is apart.1 ∙ ap Some place)
  named_at (formal.Default own ∷ qs) n j one is apart =
      let place : (j + 1) + count_of_one qs ≡ j + suc (count_of_one qs) = omega arith in
      ap (λ b. cond b (Some j) (position_from (is_called n.name) (j + 1) (singles (qs ++ q ∷ others)))) apart.0 ∙ (named_at qs n (j + 1) one is apart.1 ∙ ap Some place)
  named_at (formal.BareStar ∷ qs) n j one is apart = named_at qs n j one is apart.1
  named_at (formal.Star own ∷ qs) n j one is apart = named_at qs n j one is apart.1
  named_at (formal.StarStar own ∷ qs) n j one is apart = named_at qs n j one is apart.1

-- before a `*` all that take one argument take positional ones, and after it none
stars_end : (before : List Formal) (star : Formal) (others : List Formal) → is_star star ≡ true → HasNoStar before → placed_of (before ++ star ∷ others) ≡ count_of_one before
stars_end [] (formal.Plain n) others is free = absurd (let no : ⊥ = cc in no)
stars_end [] (formal.Default n) others is free = absurd (let no : ⊥ = cc in no)
stars_end [] formal.BareStar others is free = refl
stars_end [] (formal.Star n) others is free = refl
stars_end [] (formal.StarStar n) others is free = absurd (let no : ⊥ = cc in no)
stars_end (formal.Plain n ∷ qs) star others is free = ap suc (stars_end qs star others is free.1)
stars_end (formal.Default n ∷ qs) star others is free = ap suc (stars_end qs star others is free.1)
stars_end (formal.BareStar ∷ qs) star others is free = absurd (let first = free.0 in let no : ⊥ = cc in no)
stars_end (formal.Star n ∷ qs) star others is free = absurd (let first = free.0 in let no : ⊥ = cc in no)
stars_end (formal.StarStar n ∷ qs) star others is free = stars_end qs star others is free.1

enough : (before others : List Formal) → count_of_one before ≤ length (singles (before ++ others))
enough [] others = omega arith
enough (formal.Plain n ∷ qs) others = let later = enough qs others in omega (arith, later)
enough (formal.Default n ∷ qs) others = let later = enough qs others in omega (arith, later)
enough (formal.BareStar ∷ qs) others = enough qs others
enough (formal.Star n ∷ qs) others = enough qs others
enough (formal.StarStar n ∷ qs) others = enough qs others

stars_end_places : (d : Function) (before : List Formal) (star : Formal) (others : List Formal) → d.parameters ≡ before ++ star ∷ others → is_star star ≡ true → HasNoStar before
    → places (signature d.parameters) ≡ count_of_one before
unfolding signature
stars_end_places d before star others among is free =
    let placed_there : placed_of d.parameters ≡ count_of_one before = ap placed_of among ∙ stars_end before star others is free in
    let long : count_of_one before ≤ length (singles d.parameters) = subst (λ ps. count_of_one before ≤ length (singles ps)) (sym among) (enough before (star ∷ others)) in
    omega (arith, placed_there, long)

-- ---- the values of parameters

one_long : (s : SignatureView) (name : List ℕ) (v : Datum) (a c : BoundView) → Taken s name v a c → length c.values ≡ length a.values
one_long s name v a c (by_parameter i at f) = ap (λ (d : BoundView). length d.values) f.after ∙ length-set a.values i (Some v)
one_long s name v a c (by_rest at takes k) = ap (λ (d : BoundView). length d.values) k.after

all_long : (s : SignatureView) (named : List (List ℕ × Datum)) (a c : BoundView) → take_all_named s named a ≡ Ok c → length c.values ≡ length a.values
unfolding take_all_named
all_long s [] a c h = ap (λ (d : BoundView). length d.values) (sym (same_bound a c h))
all_long s (n ∷ named) a c h =
    let step = and_done (take_named s n.0 n.1 a) (take_all_named s named) c h in
    all_long s named step.0 c step.1.1 ∙ one_long s n.0 n.1 a step.0 (taken s n.0 n.1 a step.0 step.1.0)

-- a parameter that no argument is for has none
by_value : (s : SignatureView) (p : Passed) (b : BoundView) (slot : ℕ) (view : ParameterView) → Steps s p b → slice_get s.parameters slot ≡ Some view
    → (slot < places s → length p.positional ≤ slot) → ((k : ℕ) (name : List ℕ) (w : Datum) → slice_get p.named k ≡ Some (name, w) → is_called name view ≡ true → ⊥) → (o : Option Datum)
    → slice_get b.values slot ≡ Some o → slice_get b.values slot ≡ Some None
by_value s p b slot view step there no_place no_name None at = at
by_value s p b slot view step there no_place no_name (Some w) at = elim (came s p.named (placed s p.positional) b step.named slot w at) [
  | inl early ↦
      let reached_place = placed_only (places s) (length s.parameters) p.positional slot w early in
      let few = no_place reached_place.0 in
      absurd (omega (arith, few, reached_place.1))
  | inr c ↦
      let here : slot ≡ 0 + slot = omega arith in
      let called = called_from c.name 0 s.parameters slot (c.place ∙ ap Some here) in
      let same_view : called.parameter ≡ view = same_some (slice_get s.parameters slot) called.parameter view called.there there in
      absurd (no_name c.at c.name c.value c.passed (ap (is_called c.name) (sym same_view) ∙ called.named))
]

-- ---- the keywords

put_new_by : (k v : Datum) (p : Datum × Datum) (ps : List (Datum × Datum)) (b : Bool) → is_some (cond b (Some p.1) (found k ps)) ≡ false
    → (is_some (found k ps) ≡ false → put k v ps ≡ ps ++ (k, v) ∷ []) → cond b ((p.0, v) ∷ ps) (p ∷ put k v ps) ≡ p ∷ (ps ++ (k, v) ∷ [])
put_new_by k v p ps true none h = absurd (let no : ⊥ = cc in no)
put_new_by k v p ps false none h = ap (λ qs. p ∷ qs) (h none)

put_new : (k v : Datum) (ps : List (Datum × Datum)) → is_some (found k ps) ≡ false → put k v ps ≡ ps ++ (k, v) ∷ []
put_new k v [] none = refl
put_new k v (p ∷ ps) none = put_new_by k v p ps (same k p.0) none (put_new k v ps)

-- a name is found among the parameters exactly where it is for one of them
listed_by : (b : Bool) (j : ℕ) (o : Option ℕ) (t : Bool) → is_some o ≡ t → is_some (cond b (Some j) o) ≡ (b || t)
listed_by true j o t h = refl
listed_by false j o t h = h

listed : (name : List ℕ) (j : ℕ) (ps : List Formal) → is_some (position_from (is_called name) j (singles ps)) ≡ list_any (is_for name) ps
listed name j [] = refl
listed name j (formal.Plain n ∷ ps) = listed_by (bytes_eq name n.name) j (position_from (is_called name) (j + 1) (singles ps)) (list_any (is_for name) ps) (listed name (j + 1) ps)
listed name j (formal.Default n ∷ ps) = listed_by (bytes_eq name n.name) j (position_from (is_called name) (j + 1) (singles ps)) (list_any (is_for name) ps) (listed name (j + 1) ps)
listed name j (formal.BareStar ∷ ps) = listed name j ps
listed name j (formal.Star n ∷ ps) = listed name j ps
listed name j (formal.StarStar n ∷ ps) = listed name j ps

module _ (ps : List Formal) where
  one_keyword : (name : List ℕ) (v : Datum) (named : List (List ℕ × Datum)) (a c : BoundView) → Taken (signature ps) name v a c
      → a.keywords ++ for_none ps ((name, v) ∷ named) ≡ c.keywords ++ for_none ps named
  unfolding signature
  one_keyword name v named a c (by_parameter i at f) =
      let known : list_any (is_for name) ps ≡ true = sym (listed name 0 ps) ∙ ap is_some at in
      let skipped : for_none ps ((name, v) ∷ named) ≡ for_none ps named =
      ap (λ b. map (λ x. (string x.0, x.1)) (cond (not b) ((name, v) ∷ filter (λ x. not (list_any (is_for x.0) ps)) named) (filter (λ x. not (list_any (is_for x.0) ps)) named))) known in
      ap (λ ks. a.keywords ++ ks) skipped ∙ ap (λ (d : BoundView). d.keywords ++ for_none ps named) (sym f.after)
  one_keyword name v named a c (by_rest at takes k) =
      let new : list_any (is_for name) ps ≡ false = sym (listed name 0 ps) ∙ ap is_some at in
      let first : for_none ps ((name, v) ∷ named) ≡ (string name, v) ∷ for_none ps named =
      ap (λ b. map (λ x. (string x.0, x.1)) (cond (not b) ((name, v) ∷ filter (λ x. not (list_any (is_for x.0) ps)) named) (filter (λ x. not (list_any (is_for x.0) ps)) named))) new in
      let longer : c.keywords ≡ a.keywords ++ (string name, v) ∷ [] = ap (λ (d : BoundView). d.keywords) k.after ∙ put_new (string name) v a.keywords k.new in
      ap (λ ks. a.keywords ++ ks) first ∙ (sym (append_assoc a.keywords ((string name, v) ∷ []) (for_none ps named)) ∙ ap (λ ks. ks ++ for_none ps named) (sym longer))

  all_keywords : (named : List (List ℕ × Datum)) (a c : BoundView) → take_all_named (signature ps) named a ≡ Ok c → a.keywords ++ for_none ps named ≡ c.keywords
  unfolding take_all_named
  all_keywords [] a c h = append-nil a.keywords ∙ ap (λ (d : BoundView). d.keywords) (same_bound a c h)
  all_keywords (n ∷ named) a c h =
      let step = and_done (take_named (signature ps) n.0 n.1 a) (take_all_named (signature ps) named) c h in
      one_keyword n.0 n.1 named a step.0 (taken (signature ps) n.0 n.1 a step.0 step.1.0) ∙ all_keywords named step.0 c step.1.1

-- ---- the laws

module _ {S : Type 0} (m : Primitives S) where
  of_one : (d : Function) (defaults : List Datum) (p : Passed) (s : S) (env : Frame) (before : List Formal) (q : Formal) (others : List Formal) (n : Identifier) (v : Datum)
      → Reached m d defaults p s env before q others → IsParameter d before q others n → takes_one q ≡ true
      → ((b : BoundView) → bind (signature d.parameters) p ≡ Ok b → slice_get b.values (count_of_one before) ≡ Some (Some v)) → env (slot_of n.referent) ≡ Some v
  of_one d defaults p s env before q others n v r i one given =
      let has : r.x.values ≡ Some v ∷ drop (suc (count_of_one before)) r.args.values = r.values_then ∙ next_of r.args.values (count_of_one before) (Some v) (given r.args r.bound) in
      r.stays (slot_of n.referent) v i.own_slot (takes_argument m q n v (drop (suc (count_of_one before)) r.args.values) r.x r.y r.u r.w one i.name has r.own)

  by_place : (d : Function) (p : Passed) (before : List Formal) (q : Formal) (others : List Formal) (n : Identifier) (v : Datum) → IsParameter d before q others n → takes_one q ≡ true
      → HasNoStar before → slice_get p.positional (count_of_one before) ≡ Some v → (b : BoundView) → bind (signature d.parameters) p ≡ Ok b
      → slice_get b.values (count_of_one before) ≡ Some (Some v)
  unfolding signature
  by_place d p before q others n v i one free at b bound =
      let near : count_of_one before < placed_of d.parameters = subst (λ ps. count_of_one before < placed_of ps) (sym i.among) (place_reached q others before one free) in
      let single = single_at q others before n one i.name in
      let there : slice_get (singles d.parameters) (count_of_one before) ≡ Some (seen n single.0) = ap (λ ps. slice_get (singles ps) (count_of_one before)) i.among ∙ single.1 in
      let within : count_of_one before < length (singles d.parameters) = slice_get_within (singles d.parameters) (count_of_one before) (seen n single.0) there in
      let reached_place : count_of_one before < places (signature d.parameters) = omega (arith, near, within) in
      let arrive = arguments_arrive (signature d.parameters) p b bound in
      arrive.positional (count_of_one before) v reached_place at

  by_name : (d : Function) (p : Passed) (before : List Formal) (q : Formal) (others : List Formal) (n : Identifier) (v : Datum) → IsParameter d before q others n → takes_one q ≡ true → (k : ℕ)
      → slice_get p.named k ≡ Some (n.name, v) → (b : BoundView) → bind (signature d.parameters) p ≡ Ok b → slice_get b.values (count_of_one before) ≡ Some (Some v)
  unfolding signature
  by_name d p before q others n v i one k at b bound =
      let here : 0 + count_of_one before ≡ count_of_one before = omega arith in
      let place : position_from (is_called n.name) 0 (singles d.parameters) ≡ Some (count_of_one before) =
      ap (λ ps. position_from (is_called n.name) 0 (singles ps)) i.among ∙ (named_at q others before n 0 one i.name i.own_name ∙ ap Some here) in
      let arrive = arguments_arrive (signature d.parameters) p b bound in
      arrive.named k n.name v (count_of_one before) at place

  default_takes_one : (q : Formal) → has_default q ≡ true → takes_one q ≡ true
  default_takes_one (formal.Plain n) h = refl
  default_takes_one (formal.Default n) h = refl
  default_takes_one formal.BareStar h = absurd (let no : ⊥ = cc in no)
  default_takes_one (formal.Star n) h = absurd (let no : ⊥ = cc in no)
  default_takes_one (formal.StarStar n) h = absurd (let no : ⊥ = cc in no)

  no_value : (d : Function) (p : Passed) (before : List Formal) (q : Formal) (others : List Formal) (n : Identifier) → IsParameter d before q others n → takes_one q ≡ true
      → (HasNoStar before → length p.positional ≤ count_of_one before) → ((k : ℕ) (w : Datum) → slice_get p.named k ≡ Some (n.name, w) → ⊥) → (b : BoundView) → bind (signature d.parameters) p ≡ Ok b
      → slice_get b.values (count_of_one before) ≡ Some None
  unfolding signature
  no_value d p before q others n i one no_place no_name b bound =
      let slot : ℕ = count_of_one before in
      let single = single_at q others before n one i.name in
      let there : slice_get (singles d.parameters) slot ≡ Some (seen n single.0) = ap (λ ps. slice_get (singles ps) slot) i.among ∙ single.1 in
      let within : slot < length (singles d.parameters) = slice_get_within (singles d.parameters) slot (seen n single.0) there in
      let step = steps (signature d.parameters) p b bound in
      let long : length b.values ≡ length (singles d.parameters) =
      all_long (signature d.parameters) p.named (placed (signature d.parameters) p.positional) b step.named
      ∙ length_placed (places (signature d.parameters)) (length (singles d.parameters)) p.positional in
      let value = element_at b.values slot (omega (arith, within, long)) in
      by_value (signature d.parameters) p b slot (seen n single.0) step there
      (λ below. no_place (reaches_none q others before (subst (λ ps. slot < placed_of ps) i.among (omega (arith, below)))))
      (λ k name w has called. no_name k w (has ∙ ap (λ o. Some (o, w)) ((bytes_eq-Decides name n.name).0 called))) value.0 value.1

  pub parameters_begin : ParametersBegin m
  parameters_begin d defaults p s t env before others q n v h i (from_place one free at) =
      of_one d defaults p s env before q others n v (reached m d defaults p s t env before q others i.among h) i one (by_place d p before q others n v i one free at)
  parameters_begin d defaults p s t env before others q n v h i (from_name one k at) =
      of_one d defaults p s env before q others n v (reached m d defaults p s t env before q others i.among h) i one (by_name d p before q others n v i one k at)
  parameters_begin d defaults p s t env before others q n v h i (from_default default no_place no_name at) =
      let r = reached m d defaults p s t env before q others i.among h in
      let none : slice_get r.args.values (count_of_one before) ≡ Some None = no_value d p before q others n i (default_takes_one q default) no_place no_name r.args r.bound in
      let values : r.x.values ≡ None ∷ drop (suc (count_of_one before)) r.args.values = r.values_then ∙ next_of r.args.values (count_of_one before) None none in
      let first : r.x.defaults ≡ v ∷ drop (suc (length (filter has_default before))) defaults = r.defaults_then ∙ next_of defaults (length (filter has_default before)) v at in
      r.stays (slot_of n.referent) v i.own_slot
      (takes_default m q n v (drop (suc (count_of_one before)) r.args.values) (drop (suc (length (filter has_default before))) defaults) r.x r.y r.u r.w default i.name values first r.own)
  parameters_begin d defaults p s t env before others q n v h i (from_rest {own = own} free) =
      let r = reached m d defaults p s t env before (formal.Star own) others i.among h in
      let arrive = arguments_arrive (signature d.parameters) p r.args r.bound in
      let left : r.x.rest ≡ tuple (data_of (drop (count_of_one before) p.positional)) =
      r.rest_then ∙ (ap (λ xs. tuple (data_of xs)) arrive.rest ∙ ap (λ k. tuple (data_of (drop k p.positional))) (stars_end_places d before (formal.Star own) others i.among refl free)) in
      let has : r.y.env (slot_of n.referent) ≡ Some r.x.rest = binds m own n _ r.y r.x.env r.x.rest r.u r.w i.name refl r.own in
      r.stays (slot_of n.referent) v i.own_slot (has ∙ ap Some left)

  with_keywords : (before others : List Formal) (own : Identifier) → has_star_star (before ++ formal.StarStar own ∷ others) ≡ true
  with_keywords [] others own = refl
  with_keywords (formal.Plain n ∷ qs) others own = with_keywords qs others own
  with_keywords (formal.Default n ∷ qs) others own = with_keywords qs others own
  with_keywords (formal.BareStar ∷ qs) others own = with_keywords qs others own
  with_keywords (formal.Star n ∷ qs) others own = with_keywords qs others own
  with_keywords (formal.StarStar n ∷ qs) others own = refl

  pub keywords_begin : KeywordsBegin m
  unfolding keywords_of
  keywords_begin d defaults p s t u env before others q n v h i made =
      let r = reached m d defaults p s t env before (formal.StarStar q) others i.among h in
      let takes : has_star_star d.parameters ≡ true = ap has_star_star i.among ∙ with_keywords before others q in
      let left : for_none d.parameters p.named ≡ r.args.keywords = all_keywords d.parameters p.named (placed (signature d.parameters) p.positional) r.args (steps (signature d.parameters) p r.args r.bound).named in
      let begun : m.make (pairs r.args.keywords) s ≡ done r.keywords r.made_at = ap (λ b. keywords_of m b r.args.keywords s) (sym takes) ∙ r.made in
      let same_dict : v ≡ r.keywords = same_value v r.keywords u r.made_at (sym made ∙ (ap (λ ks. m.make (pairs ks) s) left ∙ begun)) in
      let has : r.y.env (slot_of n.referent) ≡ Some r.x.keywords = binds m q n _ r.y r.x.env r.x.keywords r.u r.w i.name refl r.own in
      r.stays (slot_of n.referent) v i.own_slot (has ∙ ap Some (r.keywords_then ∙ sym same_dict))

no_star : (before others : List Formal) → HasNoStar before → HasNoStar others → has_star (before ++ formal.BareStar ∷ others) ≡ false
no_star [] others free none = none_in others none
  where
    none_in : (ps : List Formal) → HasNoStar ps → has_star ps ≡ false
    none_in [] h = refl
    none_in (formal.Plain n ∷ qs) h = none_in qs h.1
    none_in (formal.Default n ∷ qs) h = none_in qs h.1
    none_in (formal.BareStar ∷ qs) h = none_in qs h.1
    none_in (formal.Star n ∷ qs) h = absurd (let first = h.0 in let no : ⊥ = cc in no)
    none_in (formal.StarStar n ∷ qs) h = none_in qs h.1
no_star (formal.Plain n ∷ qs) others free none = no_star qs others free.1 none
no_star (formal.Default n ∷ qs) others free none = no_star qs others free.1 none
no_star (formal.BareStar ∷ qs) others free none = no_star qs others free.1 none
no_star (formal.Star n ∷ qs) others free none = absurd (let first = free.0 in let no : ⊥ = cc in no)
no_star (formal.StarStar n ∷ qs) others free none = no_star qs others free.1 none

rest_of : (ps : List Formal) → has_star ps ≡ false → (signature ps).takes_rest ≡ false
unfolding signature
rest_of ps h = h

pub bare_stars : {S R V : Type 0} (m : Primitives S) (scoping : Scoping R V) → BareStarsEndThem m scoping
unfolding entry
bare_stars m scoping d defaults p s before others among free none more =
    let no_rest : (signature d.parameters).takes_rest ≡ false = rest_of d.parameters (ap has_star among ∙ no_star before others free none) in
    let few : places (signature d.parameters) ≡ count_of_one before = stars_end_places d before formal.BareStar others among refl free in
    let refused : bind (signature d.parameters) p ≡ Err Args = misfits_refused (signature d.parameters) p (left_over no_rest (omega (arith, few, more))) in
    ends (given_by m (bind (signature d.parameters) p) s) _ (stop_at Args (m.machine s)) (ap (λ r. given_by m r s) refused)
