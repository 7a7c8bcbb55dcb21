-- Actions with a number of steps and an outcome of their own: what is so made is so itself.
use Rattle.std.proofs.Common.{◌≡◌, ◌∙◌, ◌<◌, ◌≤◌, ◌⊎◌, inl, inr, ℕ, ◌+◌, ◌-◌, List, [], ◌++◌, refl, sym, ap, subst, arith, append_assoc, append-nil}
use Rattle.std.proofs.lemmas.Bool.{cases_lt}
use Rattle.bq_value.specs.Cells.{StoreView}
use Rattle.bq_builtin_machine.specs.Action.{Action, Run, done, stopped, following}
use Rattle.bq_builtin_laws.specs.Steps.Steps.{Seen, Begins, leaving, printed, IsCutShort, Stays, Leaves, Takes, InLine, TakesInLine}

pub begins_itself : (ps : List (List ℕ)) → Begins ps ps
begins_itself ps = ([], append-nil ps)

pub begins_on : (ps qs rs : List (List ℕ)) → Begins ps qs → Begins qs rs → Begins ps rs
begins_on ps qs rs h k = (h.0 ++ k.0, sym (append_assoc ps h.0 k.0) ∙ (ap (λ xs. xs ++ k.0) h.1 ∙ k.1))

pub stays_itself : (s : StoreView) → Stays s s
stays_itself s = record { own = refl; modules = refl; rules = λ number class is. is }

stays_on : (s t u : StoreView) → Stays s t → Stays t u → Stays s u
stays_on s t u h k = record { own = k.own ∙ h.own; modules = k.modules ∙ h.modules; rules = λ number class is. k.rules number class (h.rules number class is) }

module _ {S : Type 0} (c : Seen S) where
  -- no step is taken
  pub at_no_cost : {A : Type 0} (action : Action S A) (s : S) (outcome : Run S A) → ((n : ℕ) → action (c.left n s) ≡ leaving c n outcome) → Begins (c.prints s) (printed c outcome)
      → Leaves c (c.store s) outcome → Takes c action s
  at_no_cost action s outcome is grows leaves = record {
    steps = 0;
    outcome = outcome;
    enough = λ more. is (0 + more) ∙ ap (λ (n : ℕ). leaving c n outcome) (no_more more);
    short = λ n h. absurd (omega (arith, h));
    grows = grows;
    leaves = leaves;
  }
    where
      no_more : (n : ℕ) → 0 + n ≡ n
      no_more n = omega arith

  -- an action is another one, at this state
  pub at_state : {A : Type 0} (action other : Action S A) (s : S) → ((n : ℕ) → action (c.left n s) ≡ other (c.left n s)) → Takes c other s → Takes c action s
  at_state action other s same o = record {
    steps = o.steps;
    outcome = o.outcome;
    enough = λ more. same (o.steps + more) ∙ o.enough more;
    short = λ n h. subst (λ r. IsCutShort c r (printed c o.outcome)) (sym (same n)) (o.short n h);
    grows = o.grows;
    leaves = o.leaves;
  }

  -- ---- one action after another

  short_after : {A B : Type 0} (r : Run S A) (f : A → Action S B) (ps qs : List (List ℕ)) → IsCutShort c r ps → Begins ps qs → IsCutShort c (following r f) qs
  short_after (done x s) f ps qs h k = absurd h
  short_after (stopped why) f ps qs h k = (h.0, begins_on why.prints ps qs h.1 k)

  leaves_on : {A : Type 0} (first second : StoreView) (r : Run S A) → Stays first second → Leaves c second r → Leaves c first r
  leaves_on first second (done x s) stay h = stays_on first second (c.store s) stay h
  leaves_on first second (stopped why) stay h = tt

  module _ {A B : Type 0} (action : Action S A) (f : A → Action S B) (s : S) where
    short_by : (x : A) (t : S) (steps more : ℕ) (ps : List (List ℕ)) → ((left : ℕ) → action (c.left (steps + left) s) ≡ done x (c.left left t))
        → ((n : ℕ) → n < steps → IsCutShort c (action (c.left n s)) (c.prints t)) → ((n : ℕ) → n < more → IsCutShort c (f x (c.left n t)) ps) → Begins (c.prints t) ps
        → (n : ℕ) → n < steps + more → (n < steps) ⊎ (steps ≤ n) → IsCutShort c (following (action (c.left n s)) f) ps
    short_by x t steps more ps enough short after grows n h (inl k) = short_after (action (c.left n s)) f (c.prints t) ps (short n k) grows
    short_by x t steps more ps enough short after grows n h (inr k) =
        let at : n ≡ steps + (n - steps) = omega (arith, k) in
        let is : action (c.left n s) ≡ done x (c.left (n - steps) t) = ap (λ (j : ℕ). action (c.left j s)) at ∙ enough (n - steps) in
        subst (λ r. IsCutShort c (following r f) ps) (sym is) (after (n - steps) (omega (arith, h, k)))

    followed_by : (steps : ℕ) (outcome : Run S A) → ((more : ℕ) → action (c.left (steps + more) s) ≡ leaving c more outcome) → ((n : ℕ) → n < steps → IsCutShort c (action (c.left n s)) (printed c outcome))
        → Begins (c.prints s) (printed c outcome) → Leaves c (c.store s) outcome → ((x : A) (t : S) → Takes c (f x) t) → Takes c (λ t. following (action t) f) s
    followed_by steps (stopped why) enough short grows leaves next = record {
      steps = steps;
      outcome = stopped why;
      enough = λ more. ap (λ r. following r f) (enough more);
      short = λ n h. short_after (action (c.left n s)) f why.prints why.prints (short n h) (begins_itself why.prints);
      grows = grows;
      leaves = tt;
    }
    followed_by steps (done x t) enough short grows leaves next =
        let o = next x t in
        record {
          steps = steps + o.steps;
          outcome = o.outcome;
          enough = λ more. ap (λ (k : ℕ). following (action (c.left k s)) f) (regrouped steps o.steps more) ∙ (ap (λ r. following r f) (enough (o.steps + more)) ∙ o.enough more);
          short = λ n h. short_by x t steps o.steps (printed c o.outcome) enough short o.short o.grows n h (cases_lt n steps);
          grows = begins_on (c.prints s) (c.prints t) (printed c o.outcome) grows o.grows;
          leaves = leaves_on (c.store s) (c.store t) o.outcome leaves o.leaves;
        }
      where
        regrouped : (a b d : ℕ) → (a + b) + d ≡ a + (b + d)
        regrouped a b d = omega arith

    pub followed : Takes c action s → ((x : A) (t : S) → Takes c (f x) t) → Takes c (λ t. following (action t) f) s
    followed o next = followed_by o.steps o.outcome o.enough o.short o.grows o.leaves next

  -- ---- the same in the line of the statement that is running

  pub here_at_no_cost : {A : Type 0} (action : Action S A) (s : S) (outcome : Run S A) → ((n : ℕ) → action (c.left n s) ≡ leaving c n outcome) → Begins (c.prints s) (printed c outcome)
      → Leaves c (c.store s) outcome → InLine c (c.line s) (action s) → TakesInLine c action s
  here_at_no_cost action s outcome is grows leaves line = record { takes = at_no_cost action s outcome is grows leaves; line = line }

  pub here_at_state : {A : Type 0} (action other : Action S A) (s : S) → ((n : ℕ) → action (c.left n s) ≡ other (c.left n s)) → action s ≡ other s → TakesInLine c other s → TakesInLine c action s
  here_at_state action other s same now o = record { takes = at_state action other s same o.takes; line = subst (InLine c (c.line s)) (sym now) o.line }

  module _ {A B : Type 0} (action : Action S A) (f : A → Action S B) (s : S) where
    line_after : (r : Run S A) → InLine c (c.line s) r → ((x : A) (t : S) → TakesInLine c (f x) t) → InLine c (c.line s) (following r f)
    line_after (done x t) same next = subst (λ (n : ℕ). InLine c n (f x t)) same (next x t).line
    line_after (stopped why) same next = same

    pub here_followed : TakesInLine c action s → ((x : A) (t : S) → TakesInLine c (f x) t) → TakesInLine c (λ t. following (action t) f) s
    here_followed o next = record { takes = followed action f s o.takes (λ x t. (next x t).takes); line = line_after (action s) o.line next }
