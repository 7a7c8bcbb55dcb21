-- Matching that tries only the last element that takes many anew gives what `takes` gives.
use Rattle.std.proofs.Common.{◌≡◌, ◌+◌, ◌*◌, ◌<◌, ◌≤◌, ◌&&◌, ◌||◌, ◌⊎◌, ℕ, suc, Bool, true, false, List, [], ◌∷◌, Option, Some, None, length, refl, sym, ap, subst, ◌∙◌, arith, inl, inr, suc-mul, mul-le-mul_right}
use Rattle.std.proofs.lemmas.Bool.{cases_Bool, false≢true}
use Rattle.std.specs.Option.{option_map}
use Rattle.bq_label_glob.specs.Matching.{any_tail, takes}
use Rattle.bq_label_glob.specs.Step.{StepIs}
use Rattle.bq_label_glob.specs.declared.step.Retry.{Retry}
use Rattle.bq_label_glob.specs.declared.step.Step.TheVariants.{Many, One, End, Fail}

or_false : (b : Bool) → (b || false) ≡ b
or_false true = refl
or_false false = refl

-- zs is xs without some of its first elements
abbrev pub IsTail : {X : Type 0} → List X → List X → Type 0
IsTail zs [] = zs ≡ []
IsTail zs (x ∷ xs) = (zs ≡ x ∷ xs) ⊎ IsTail zs xs

tail_whole : {X : Type 0} (xs : List X) → IsTail xs xs
tail_whole [] = refl
tail_whole (x ∷ xs) = inl refl

pub tail_trans : {X : Type 0} (us vs xs : List X) → IsTail us vs → IsTail vs xs → IsTail us xs
tail_trans us vs [] t s = subst (λ ws. IsTail us ws) s t
tail_trans us vs (x ∷ xs) t (inl e) = subst (λ ws. IsTail us ws) e t
tail_trans us vs (x ∷ xs) t (inr s) = inr (tail_trans us vs xs t s)

empty_head : {X : Type 0} (w : X) (ws : List X) → w ∷ ws ≡ [] → ⊥
empty_head w ws e = cc

pub same_rest : {X : Type 0} (w y : X) (ws ys : List X) → w ∷ ws ≡ y ∷ ys → ws ≡ ys
same_rest w y ws ys e = cc

tail_next : {X : Type 0} (w : X) (ws xs : List X) → IsTail (w ∷ ws) xs → IsTail ws xs
tail_next w ws [] t = absurd (empty_head w ws t)
tail_next w ws (x ∷ xs) (inl e) = inr (subst (λ vs. IsTail ws vs) (same_rest w x ws xs e) (tail_whole ws))
tail_next w ws (x ∷ xs) (inr t) = inr (tail_next w ws xs t)

pub tail_of_rest : {X : Type 0} (w : X) (ws : List X) (y : X) (ys : List X) → IsTail (w ∷ ws) (y ∷ ys) → IsTail ws ys
tail_of_rest w ws y ys (inl e) = subst (λ vs. IsTail ws vs) (same_rest w y ws ys e) (tail_whole ws)
tail_of_rest w ws y ys (inr t) = tail_next w ws ys t

module _ {X : Type 0} (f : List X → Bool) where
  pub any_from : (zs xs : List X) → IsTail zs xs → f zs ≡ true → any_tail f xs ≡ true
  any_from zs [] t h = sym (ap f t) ∙ h
  any_from zs (x ∷ xs) (inl e) h = let first : f (x ∷ xs) ≡ true = sym (ap f e) ∙ h in rw first refl
  any_from zs (x ∷ xs) (inr t) h = elim (cases_Bool (f (x ∷ xs))) [ inl y ↦ rw y refl | inr n ↦ rw n (any_from zs xs t h) ]

  pub record Passing (xs : List X) : Type 0 where
    pub rest : List X
    pub in_it : IsTail rest xs
    pub passes : f rest ≡ true

  pub any_found : (xs : List X) → any_tail f xs ≡ true → Passing xs
  any_found [] h = record { rest = []; in_it = refl; passes = h }
  any_found (x ∷ xs) h = elim (cases_Bool (f (x ∷ xs))) [
    | inl y ↦ record { rest = x ∷ xs; in_it = inl refl; passes = y }
    | inr n ↦
        let r = any_found xs (sym (rw n refl) ∙ h) in
        record { rest = r.rest; in_it = inr r.in_it; passes = r.passes }
  ]

  -- the test passes a tail that isn't the list itself
  abbrev pub any_shorter : List X → Bool
  any_shorter [] = false
  any_shorter (x ∷ xs) = any_tail f xs

  any_split : (xs : List X) → any_tail f xs ≡ (f xs || any_shorter xs)
  any_split [] = sym (or_false (f []))
  any_split (x ∷ xs) = refl

  shorter_found : (xs : List X) → any_shorter xs ≡ true → Passing xs
  shorter_found [] h = absurd (false≢true h)
  shorter_found (x ∷ xs) h =
      let r = any_found xs h in
      record { rest = r.rest; in_it = inr r.in_it; passes = r.passes }

module _ {A X : Type 0} (many : A → Bool) (fits : A → X → Bool) where
  -- from qs and ys, elements that take one each took one each, and ps and xs are left
  pub data Passed (qs : List A) (ys : List X) : List A → List X → Type 0 where
    here : Passed qs ys qs ys
    next : (p : A) (ps : List A) (x : X) (xs : List X) → many p ≡ false → Passed qs ys (p ∷ ps) (x ∷ xs) → Passed qs ys ps xs

  fewer : {qs : List A} {ys : List X} {ps : List A} {xs : List X} → Passed qs ys ps xs → length xs ≤ length ys
  fewer here = omega arith
  fewer (next p ps x xs m c) = let more = fewer c in omega arith

  pub one_of : (p : A) (ps : List A) (zs : List X) → many p ≡ false → takes many fits (p ∷ ps) zs ≡ true → (w : X) × (ws : List X) × (zs ≡ w ∷ ws) × (takes many fits ps ws ≡ true) × (fits p w ≡ true)
  unfolding takes
  one_of p ps [] m h = absurd (false≢true (sym (rw m refl) ∙ h))
  one_of p ps (z ∷ zs) m h =
      let both : (fits p z && takes many fits ps zs) ≡ true = sym (rw m refl) ∙ h in
      (z, zs, refl, second (fits p z) (takes many fits ps zs) both, first (fits p z) (takes many fits ps zs) both)
    where
      first : (a b : Bool) → (a && b) ≡ true → a ≡ true
      first true b e = refl
      first false b e = absurd (false≢true e)

      second : (a b : Bool) → (a && b) ≡ true → b ≡ true
      second true b e = e
      second false b e = absurd (false≢true e)

  -- what the pattern took from a later place on, what is left of it takes from a later place on
  exchange : {qs : List A} {ys : List X} {ps : List A} {xs : List X} → Passed qs ys ps xs → (zs : List X) → IsTail zs ys → takes many fits qs zs ≡ true → Passing (takes many fits ps) xs
  exchange here zs t h = record { rest = zs; in_it = t; passes = h }
  exchange (next p ps x xs m c) zs t h =
      let r = exchange c zs t h in
      let o = one_of p ps r.rest m r.passes in
      let there : IsTail (o.0 ∷ o.1) (x ∷ xs) = subst (λ vs. IsTail vs (x ∷ xs)) o.2 r.in_it in
      record { rest = o.1; in_it = tail_of_rest o.0 o.1 x xs there; passes = o.3 }

  -- what is left to try when the present attempt fails
  abbrev pub others : Option (List A × List X) → Bool
  others None = false
  others (Some r) = any_shorter (takes many fits r.0) r.1

  abbrev pub HasPassed : Option (List A × List X) → List A → List X → Type 0
  HasPassed None ps xs = Unit {0}
  HasPassed (Some r) ps xs = Passed r.0 r.1 ps xs

  abbrev pub IsWithin : ℕ → ℕ → Option (List A × List X) → Type 0
  IsWithin m n None = Unit {0}
  IsWithin m n (Some r) = (length r.0 ≤ m) × (length r.1 ≤ n)

  -- ps and xs are left of a pattern of length m and a list of length n, and `whole` says whether the pattern takes the list
  pub record Holds (whole : Bool) (m n : ℕ) (r : Option (List A × List X)) (ps : List A) (xs : List X) : Type 0 where
    pub answer : whole ≡ (takes many fits ps xs || others r)
    pub passed : HasPassed r ps xs
    pub room : length ps ≤ m
    pub text_room : length xs ≤ n
    pub retry_room : IsWithin m n r

  pub start : (ps : List A) (xs : List X) → Holds (takes many fits ps xs) (length ps) (length xs) None ps xs
  start ps xs = record { answer = sym (or_false (takes many fits ps xs)); passed = tt; room = omega arith; text_room = omega arith; retry_room = tt }

  absorbed : (r : Option (List A × List X)) (a : A) (ps : List A) (xs : List X) → many a ≡ true → HasPassed r (a ∷ ps) xs → others r ≡ true → any_tail (takes many fits ps) xs ≡ true
  unfolding takes
  absorbed None a ps xs m c h = absurd (false≢true h)
  absorbed (Some r) a ps xs m c h =
      let later = shorter_found (takes many fits r.0) r.1 h in
      let found = exchange c later.rest later.in_it later.passes in
      let here : any_tail (takes many fits ps) found.rest ≡ true = sym (rw m refl) ∙ found.passes in
      let last = any_found (takes many fits ps) found.rest here in
      any_from (takes many fits ps) last.rest xs (tail_trans last.rest found.rest xs last.in_it found.in_it) last.passes

  pub opened : (a : A) (ps : List A) (xs : List X) → many a ≡ true → takes many fits (a ∷ ps) xs ≡ any_tail (takes many fits ps) xs
  unfolding takes
  opened a ps xs y = rw y refl

  pub opened_one : (a : A) (ps : List A) (x : X) (xs : List X) → many a ≡ false → fits a x ≡ true → takes many fits (a ∷ ps) (x ∷ xs) ≡ takes many fits ps xs
  unfolding takes
  opened_one a ps x xs y f = rw (y, f) refl

  -- an element that takes many: what it leaves is tried from here on
  pub at_many : (whole : Bool) (m n : ℕ) (r : Option (List A × List X)) (a : A) (ps : List A) (xs : List X) → Holds whole m n r (a ∷ ps) xs → many a ≡ true → Holds whole m n (Some (ps, xs)) ps xs
  at_many whole m n r a ps xs h y = record {
    answer = h.answer ∙ (with_others (others r) (absorbed r a ps xs y h.passed) ∙ any_split (takes many fits ps) xs);
    passed = here;
    room = omega (arith, h.room);
    text_room = h.text_room;
    retry_room = (omega (arith, h.room), h.text_room);
  }
    where
      with_others : (o : Bool) → (o ≡ true → any_tail (takes many fits ps) xs ≡ true) → (takes many fits (a ∷ ps) xs || o) ≡ any_tail (takes many fits ps) xs
      with_others false f = or_false (takes many fits (a ∷ ps) xs) ∙ opened a ps xs y
      with_others true f = ap (λ b. b || true) (opened a ps xs y) ∙ (ap (λ b. b || true) (f refl) ∙ sym (f refl))

  passed_more : (r : Option (List A × List X)) (a : A) (ps : List A) (x : X) (xs : List X) → many a ≡ false → HasPassed r (a ∷ ps) (x ∷ xs) → HasPassed r ps xs
  passed_more None a ps x xs m c = tt
  passed_more (Some r) a ps x xs m c = next a ps x xs m c

  -- an element that takes one, which fits
  pub at_fit : (whole : Bool) (m n : ℕ) (r : Option (List A × List X)) (a : A) (ps : List A) (x : X) (xs : List X) → Holds whole m n r (a ∷ ps) (x ∷ xs) → many a ≡ false → fits a x ≡ true → Holds whole m n r ps xs
  at_fit whole m n r a ps x xs h y f = record {
    answer = h.answer ∙ ap (λ b. b || others r) (opened_one a ps x xs y f);
    passed = passed_more r a ps x xs y h.passed;
    room = omega (arith, h.room);
    text_room = omega (arith, h.text_room);
    retry_room = h.retry_room;
  }

  -- the attempt fails, and the next begins
  pub at_failure : (whole : Bool) (m n : ℕ) (qs : List A) (y : X) (ys : List X) (ps : List A) (xs : List X) → Holds whole m n (Some (qs, y ∷ ys)) ps xs → takes many fits ps xs ≡ false → Holds whole m n (Some (qs, ys)) qs ys
  at_failure whole m n qs y ys ps xs h fails = record {
    answer = h.answer ∙ (ap (λ b. b || any_tail (takes many fits qs) ys) fails ∙ any_split (takes many fits qs) ys);
    passed = here;
    room = h.retry_room.0;
    text_room = omega (arith, h.retry_room.1);
    retry_room = (h.retry_room.0, omega (arith, h.retry_room.1));
  }

  pub at_end : (whole : Bool) (m n : ℕ) (r : Option (List A × List X)) → Holds whole m n r [] [] → whole ≡ true
  unfolding takes
  at_end whole m n r h = h.answer

  pub gives_up : (whole : Bool) (m n : ℕ) (ps : List A) (xs : List X) → Holds whole m n None ps xs → takes many fits ps xs ≡ false → whole ≡ false
  gives_up whole m n ps xs h fails = h.answer ∙ ap (λ b. b || false) fails

  pub gives_up_at_end : (whole : Bool) (m n : ℕ) (qs ps : List A) (xs : List X) → Holds whole m n (Some (qs, [])) ps xs → takes many fits ps xs ≡ false → whole ≡ false
  gives_up_at_end whole m n qs ps xs h fails = h.answer ∙ ap (λ b. b || false) fails

  pub none_left : (x : X) (xs : List X) → takes many fits [] (x ∷ xs) ≡ false
  unfolding takes
  none_left x xs = refl

  pub needs_one : (a : A) (ps : List A) → many a ≡ false → takes many fits (a ∷ ps) [] ≡ false
  unfolding takes
  needs_one a ps m = rw m refl

  pub misfit : (a : A) (ps : List A) (x : X) (xs : List X) → many a ≡ false → fits a x ≡ false → takes many fits (a ∷ ps) (x ∷ xs) ≡ false
  unfolding takes
  misfit a ps x xs m f = rw (m, f) refl

  -- ---- the work that is left

  abbrev pub tries_left : ℕ → Option (List A × List X) → ℕ
  tries_left n None = suc n
  tries_left n (Some r) = length r.1

  abbrev pub work_left : ℕ → ℕ → Option (List A × List X) → List A → ℕ
  work_left m n r ps = tries_left n r * suc m + length ps

  not_more_tries : (whole : Bool) (m n : ℕ) (r : Option (List A × List X)) (ps : List A) (xs : List X) → Holds whole m n r ps xs → length xs ≤ tries_left n r
  not_more_tries whole m n None ps xs h = omega (arith, h.text_room)
  not_more_tries whole m n (Some r) ps xs h = fewer h.passed

  pub less_at_many : (whole : Bool) (m n : ℕ) (r : Option (List A × List X)) (a : A) (ps : List A) (xs : List X) → Holds whole m n r (a ∷ ps) xs → work_left m n (Some (ps, xs)) ps < work_left m n r (a ∷ ps)
  less_at_many whole m n r a ps xs h =
      let less : length xs * suc m ≤ tries_left n r * suc m = mul-le-mul_right (suc m) (not_more_tries whole m n r (a ∷ ps) xs h) in
      omega (arith, less)

  pub less_at_fit : (m n : ℕ) (r : Option (List A × List X)) (a : A) (ps : List A) → work_left m n r ps < work_left m n r (a ∷ ps)
  less_at_fit m n r a ps = omega arith

  pub less_at_failure : (whole : Bool) (m n : ℕ) (qs : List A) (y : X) (ys : List X) (ps : List A) (xs : List X) → Holds whole m n (Some (qs, y ∷ ys)) ps xs → work_left m n (Some (qs, ys)) qs < work_left m n (Some (qs, y ∷ ys)) ps
  less_at_failure whole m n qs y ys ps xs h =
      let more : suc (length ys) * suc m ≡ length ys * suc m + suc m = suc-mul (length ys) (suc m) in
      omega (arith, more, h.retry_room.0)

-- ---- the same for lists that are given by places

module _ {A X : Type 0} (many : A → Bool) (fits : A → X → Bool) (P : ℕ → List A) (T : ℕ → List X) where
  abbrev pub at_places : Option Retry → Option (List A × List X)
  at_places r = option_map (λ (x : Retry). (P x.pattern, T x.text)) r

  abbrev pub HoldsAt : Bool → ℕ → ℕ → Option Retry → ℕ → ℕ → Type 0
  HoldsAt whole m n r p t = Holds many fits whole m n (at_places r) (P p) (T t)

  abbrev pub work_at : ℕ → ℕ → Option Retry → ℕ → ℕ
  work_at m n r p = work_left many fits m n (at_places r) (P p)

  pub many_holds : (whole : Bool) (m n : ℕ) (r : Option Retry) (p t q : ℕ) → HoldsAt whole m n r p t → StepIs many fits P T p t (Many q) → HoldsAt whole m n (Some (record { pattern = q; text = t })) q t
  many_holds whole m n r p t q h s =
      at_many many fits whole m n (at_places r) s.0 (P q) (T t) (subst (λ (ps : List A). Holds many fits whole m n (at_places r) ps (T t)) s.1 h) s.2

  pub many_less : (whole : Bool) (m n : ℕ) (r : Option Retry) (p t q : ℕ) → HoldsAt whole m n r p t → StepIs many fits P T p t (Many q) → work_at m n (Some (record { pattern = q; text = t })) q < work_at m n r p
  many_less whole m n r p t q h s =
      let less = less_at_many many fits whole m n (at_places r) s.0 (P q) (T t) (subst (λ (ps : List A). Holds many fits whole m n (at_places r) ps (T t)) s.1 h) in
      subst (λ (ps : List A). work_left many fits m n (Some (P q, T t)) (P q) < work_left many fits m n (at_places r) ps) (sym s.1) less

  pub one_holds : (whole : Bool) (m n : ℕ) (r : Option Retry) (p t q u : ℕ) → HoldsAt whole m n r p t → StepIs many fits P T p t (One q u) → HoldsAt whole m n r q u
  one_holds whole m n r p t q u h s =
      let at_pattern : Holds many fits whole m n (at_places r) (s.0 ∷ P q) (T t) = subst (λ (ps : List A). Holds many fits whole m n (at_places r) ps (T t)) s.2 h in
      at_fit many fits whole m n (at_places r) s.0 (P q) s.1 (T u) (subst (λ (xs : List X). Holds many fits whole m n (at_places r) (s.0 ∷ P q) xs) s.3 at_pattern) s.4 s.5

  pub one_less : (m n : ℕ) (r : Option Retry) (p t q u : ℕ) → StepIs many fits P T p t (One q u) → work_at m n r q < work_at m n r p
  one_less m n r p t q u s =
      subst (λ (ps : List A). work_left many fits m n (at_places r) (P q) < work_left many fits m n (at_places r) ps) (sym s.2) (less_at_fit many fits m n (at_places r) s.0 (P q))

  pub end_is : (whole : Bool) (m n : ℕ) (r : Option Retry) (p t : ℕ) → HoldsAt whole m n r p t → StepIs many fits P T p t End → whole ≡ true
  end_is whole m n r p t h s =
      let at_pattern : Holds many fits whole m n (at_places r) [] (T t) = subst (λ (ps : List A). Holds many fits whole m n (at_places r) ps (T t)) s.0 h in
      at_end many fits whole m n (at_places r) (subst (λ (xs : List X). Holds many fits whole m n (at_places r) [] xs) s.1 at_pattern)

  pub fail_is : (whole : Bool) (m n : ℕ) (r : Option Retry) (p t : ℕ) → HoldsAt whole m n r p t → StepIs many fits P T p t Fail → r ≡ None → whole ≡ false
  fail_is whole m n r p t h s e = gives_up many fits whole m n (P p) (T t) (subst (λ (v : Option Retry). HoldsAt whole m n v p t) e h) s

  pub fail_at_end : (whole : Bool) (m n : ℕ) (r : Option Retry) (last : Retry) (p t : ℕ) → HoldsAt whole m n r p t → StepIs many fits P T p t Fail → r ≡ Some last → T last.text ≡ [] → whole ≡ false
  fail_at_end whole m n r last p t h s e b =
      let here : HoldsAt whole m n (Some last) p t = subst (λ (v : Option Retry). HoldsAt whole m n v p t) e h in
      gives_up_at_end many fits whole m n (P last.pattern) (P p) (T t) (subst (λ (xs : List X). Holds many fits whole m n (Some (P last.pattern, xs)) (P p) (T t)) b here) s

  tried : (whole : Bool) (m n : ℕ) (r : Option Retry) (last : Retry) (p t u : ℕ) (y : X) → HoldsAt whole m n r p t → r ≡ Some last → T last.text ≡ y ∷ T u → Holds many fits whole m n (Some (P last.pattern, y ∷ T u)) (P p) (T t)
  tried whole m n r last p t u y h e b =
      let here : HoldsAt whole m n (Some last) p t = subst (λ (v : Option Retry). HoldsAt whole m n v p t) e h in
      subst (λ (xs : List X). Holds many fits whole m n (Some (P last.pattern, xs)) (P p) (T t)) b here

  pub fail_holds : (whole : Bool) (m n : ℕ) (r : Option Retry) (last : Retry) (p t u : ℕ) (y : X) → HoldsAt whole m n r p t → StepIs many fits P T p t Fail → r ≡ Some last → T last.text ≡ y ∷ T u → HoldsAt whole m n (Some (record { pattern = last.pattern; text = u })) last.pattern u
  fail_holds whole m n r last p t u y h s e b = at_failure many fits whole m n (P last.pattern) y (T u) (P p) (T t) (tried whole m n r last p t u y h e b) s

  pub fail_less : (whole : Bool) (m n : ℕ) (r : Option Retry) (last : Retry) (p t u : ℕ) (y : X) → HoldsAt whole m n r p t → r ≡ Some last → T last.text ≡ y ∷ T u → work_at m n (Some (record { pattern = last.pattern; text = u })) last.pattern < work_at m n r p
  fail_less whole m n r last p t u y h e b =
      let less = less_at_failure many fits whole m n (P last.pattern) y (T u) (P p) (T t) (tried whole m n r last p t u y h e b) in
      let again : work_left many fits m n (Some (P last.pattern, T u)) (P last.pattern) < work_left many fits m n (at_places (Some last)) (P p) =
      subst (λ (xs : List X). work_left many fits m n (Some (P last.pattern, T u)) (P last.pattern) < work_left many fits m n (Some (P last.pattern, xs)) (P p)) (sym b) less in
      subst (λ (v : Option Retry). work_left many fits m n (Some (P last.pattern, T u)) (P last.pattern) < work_left many fits m n (at_places v) (P p)) (sym e) again

  -- ---- the steps that fail

  pub fails_without_pattern : (p t : ℕ) (x : X) (xs : List X) → P p ≡ [] → T t ≡ x ∷ xs → StepIs many fits P T p t Fail
  fails_without_pattern p t x xs e f = ap (λ (ps : List A). takes many fits ps (T t)) e ∙ (ap (takes many fits []) f ∙ none_left many fits x xs)

  pub fails_without_text : (p t : ℕ) (a : A) (ps : List A) → P p ≡ a ∷ ps → many a ≡ false → T t ≡ [] → StepIs many fits P T p t Fail
  fails_without_text p t a ps e m f = ap (λ (qs : List A). takes many fits qs (T t)) e ∙ (ap (takes many fits (a ∷ ps)) f ∙ needs_one many fits a ps m)

  pub fails_misfit : (p t : ℕ) (a : A) (ps : List A) (x : X) (xs : List X) → P p ≡ a ∷ ps → many a ≡ false → T t ≡ x ∷ xs → fits a x ≡ false → StepIs many fits P T p t Fail
  fails_misfit p t a ps x xs e m f g = ap (λ (qs : List A). takes many fits qs (T t)) e ∙ (ap (takes many fits (a ∷ ps)) f ∙ misfit many fits a ps x xs m g)
