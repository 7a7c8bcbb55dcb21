-- Each step keeps the rule.
use Rattle.std.proofs.Common.{◌≡◌, ℕ, zero, suc, cond, ◌+◌, ◌-◌, ◌%◌, ◌^◌, ◌<◌, ◌≤◌, ◌≢◌, eqb, List, [], ◌∷◌, ◌++◌, length, get_or, set, sym, refl, ap, ◌∙◌, subst, ⊎_elim, arith, length-set, get_or-set_other, get_or-set_same, eq-eqb, ne_eqb, length-append}
use Rattle.std.specs.Prelude.{Option, Some, None}
use mathlib.Core.Logic.{dite}
use mathlib.Core.Option.{none, some, some-injective, some-ne-none}
use mathlib.Core.Option as maybe
use native.Mathlib.Decide.{ℕ_discrete, dec_le}
use lib.ListN.{get_elem?}
use lib.Seq.{set-get_or}
use prog.Atomic.{either}
use Rattle.atomic_table.specs.Table.{State, Me, step, keeps, takes, gives, stepped, opening, Allows, Splits}
use Rattle.atomic_table.proofs.Lists.{at_set, at_snoc, at_map, set_here, set_else}
use Rattle.std.proofs.Math.ListN.{replicate}
use Rattle.std.proofs.lemmas.List.{length-map, length-replicate}
use Rattle.bq_board_plan.specs.Counts.{total, times, Has, below}
use Rattle.bq_board_plan.specs.Graph.{Loads, edges, IsGraph}
use Rattle.bq_board_plan.specs.Plan.{source, Into}
use Rattle.bq_board.specs.Board.{module_word, edge_word, Posted, Phase, SlotHolds, blank, blank_with, ViewHolds, RuleHolds}
use Rattle.bq_board.specs.Steps.{with_seen, with_missed, with_opened, with_posted, with_fetched, with_claimed, with_taken, with_finished, with_count, Fed, Looked, Claimed, looked, tried, opened, posted, fetched, added, counted}
use Rattle.bq_board.specs.declared.view.View.{View}
use Rattle.bq_board_plan.proofs.Sums.{total-append, total-set, term_le, terms_le, some_term, total_below, times_same, times_other, Has_more, Has_snoc, below_le, below_full, total_times}
use Rattle.bq_board_plan.proofs.Edges.{into_once, source_known}

at_replicate : {A : Type 0} (n i : ℕ) (a : A) → i < n → get_elem? (replicate n a) i ≡ some a
at_replicate zero i a h = absurd (omega arith)
at_replicate (suc n) zero a h = refl
at_replicate (suc n) (suc i) a h = at_replicate n i a (omega arith)

-- what holds of the list and of one more number holds of the longer list
along : (P : ℕ → Type 0) (ys : List ℕ) (y : ℕ) → ((x : ℕ) → Has ys x → P x) → P y → (x : ℕ) → Has (ys ++ y ∷ []) x → P x
along P ys y old new x h = ⊎_elim (λ t. old x t) (λ t. subst P t new) (Has_snoc ys y x h)

dec_posted : (x : ℕ) → Dec (Posted x)
dec_posted x = dite (dec_le 1 x) (λ a. dite (dec_le x 2) (λ c. yes (a, c)) (λ n. no (λ t. n t.1))) (λ n. no (λ t. n t.0))

-- an edge's word and counts change in step
abbrev Turns : (w w' o o' q q' f f' : ℕ) → Type 0
Turns w w' o o' q q' f f' = ((a b c a' b' c' : ℕ) → a' + o ≡ a + o' → b' + q ≡ b + q' → c' + f ≡ c + f' → Phase w a b c → Phase w' a' b' c') × (Posted w → Posted w')

module _ (B V : Type 0) (fact : B → ℕ → V → Type 0) (b : B) (p : Loads) (seats : ℕ) where
  abbrev St : Type 0
  St = State (Option V) (View B)

  abbrev Homes : Type 0
  Homes = List (maybe.Option (Option V))

  abbrev K : St → Type 0
  K s = RuleHolds fact b p seats s

  -- how the words, the slots and one view may change together
  record Moves (ws ws' : List ℕ) (hs hs' : Homes) (v w : View B) : Type 0 where
    pub wide : length ws' ≡ length ws
    pub deep : length hs' ≡ length hs
    pub edge : (e : ℕ) → e < edges p → Turns (get_or ws (edge_word p e) 0) (get_or ws' (edge_word p e) 0) (times e v.opened) (times e w.opened) (times e v.posted) (times e w.posted) (times e v.fetched) (times e w.fetched)
    pub lies : (e : ℕ) → e < edges p → SlotHolds fact b p e (get_or ws' (edge_word p e) 0) (get_elem? hs' e)
    pub claim : (m : ℕ) → m < length p → (get_or ws' (module_word m) 0 + times m v.claimed ≡ get_or ws (module_word m) 0 + times m w.claimed) × (get_or ws (module_word m) 0 ≤ get_or ws' (module_word m) 0) × (get_or ws' (module_word m) 0 ≤ 1)
    pub ready : (m e : ℕ) → m < length p → Into p m e → get_or ws' (module_word m) 0 ≡ 1 → Posted (get_or ws' (edge_word p e) 0)
    pub done : (get_or ws' 0 0 + length v.finished ≡ get_or ws 0 0 + length w.finished) × (get_or ws 0 0 ≤ get_or ws' 0 0)
    pub spare : w.spare ≡ v.spare
    pub good : ViewHolds b p ws w

  lifted : (ws ws' : List ℕ) (hs hs' : Homes) (v w u : View B) → Moves ws ws' hs hs' v w → ViewHolds b p ws u → ViewHolds b p ws' u
  lifted ws ws' hs hs' v w u t g = record {
    base = g.base;
    plan = g.plan;
    claims = g.claims;
    opens = g.opens;
    posts = g.posts;
    fetches = g.fetches;
    ends = g.ends;
    ends_once = g.ends_once;
    counts = λ n h. let d = t.done in omega (arith, g.counts n h);
    seen = λ e h. let q = g.seen e h in (q.0, (t.edge e q.0).1 q.1);
    taken = λ m h. let q = g.taken m h in let r = t.claim m q.0 in (q.0, omega arith);
  }

  moved : (s : St) (k : K s) (id : ℕ) (v w : View B) (ws : List ℕ) (hs : Homes) → get_elem? s.views id ≡ some v → Moves s.words ws s.homes hs v w
      → K record { words = ws; homes = hs; views = set s.views id w }
  moved s k id v w ws hs at t = record {
    sound = k.sound;
    wide = t.wide ∙ k.wide;
    deep = t.deep ∙ k.deep;
    edge = λ e h. (t.edge e h).0 _ _ _ _ _ _ (total-set (λ u. times e u.opened) s.views id v w at) (total-set (λ u. times e u.posted) s.views id v w at) (total-set (λ u. times e u.fetched) s.views id v w at) (k.edge e h);
    lies = t.lies;
    claim = λ m h. let r = t.claim m h in let q = k.claim m h in let c = total-set (λ u. times m u.claimed) s.views id v w at in (omega arith, r.2);
    ready = t.ready;
    done = let d = t.done in let q = k.done in let c = total-set (λ u. length u.finished) s.views id v w at in omega arith;
    cut = let c = total-set (λ u. 1 + u.spare) s.views id v w at in let q = k.cut in let same = t.spare in omega arith;
    each = λ j u e. ⊎_elim (λ c. subst (ViewHolds b p ws) c.1 (lifted s.words ws s.homes hs v w w t t.good)) (λ c. lifted s.words ws s.homes hs v w u t (k.each j u c.1)) (at_set s.views id j w u e);
  }

  -- a step that changes no word and no slot
  stays : (s : St) (k : K s) (i id : ℕ) (c : List (ℕ × Option V)) (v w : View B) → get_elem? s.views id ≡ some v
      → ((e : ℕ) → times e w.opened ≡ times e v.opened) → ((e : ℕ) → times e w.posted ≡ times e v.posted) → ((e : ℕ) → times e w.fetched ≡ times e v.fetched)
      → ((m : ℕ) → times m w.claimed ≡ times m v.claimed) → length w.finished ≡ length v.finished → w.spare ≡ v.spare → ViewHolds b p s.words w
      → K (stepped s i (get_or s.words i 0) id c w keeps)
  stays s k i id c v w at same-o same-p same-g same-c same-f same-s g = subst (λ (ws : List ℕ). K record { words = ws; homes = s.homes; views = set s.views id w }) (sym (set-get_or s.words i 0))
      (moved s k id v w s.words s.homes at record {
        wide = refl;
        deep = refl;
        edge = λ e h. ((λ x y z x' y' z' d₁ d₂ d₃ ph. let a₁ = same-o e in let a₂ = same-p e in let a₃ = same-g e in (omega arith, omega arith, omega arith, omega arith)), λ q. q);
        lies = k.lies;
        claim = λ m h. let q = k.claim m h in (omega (arith, same-c m), omega arith, omega arith);
        ready = k.ready;
        done = (omega arith, omega arith);
        spare = same-s;
        good = g;
      })

  -- what a view posted, and what it claimed
  posted_is : (s : St) (k : K s) (id : ℕ) (v : View B) → get_elem? s.views id ≡ some v → (e : ℕ) → Has v.posted e → (e < edges p) × Posted (get_or s.words (edge_word p e) 0)
  posted_is s k id v at e h = let g = k.each id v at in let q = g.opens e (g.posts e h) in let r = k.edge e q.0 in let t = term_le (λ u. times e u.posted) s.views id v at in (q.0, (omega arith, omega arith))

  claimed_is : (s : St) (k : K s) (id : ℕ) (v : View B) → get_elem? s.views id ≡ some v → (m : ℕ) → Has v.claimed m → (m < length p) × (get_or s.words (module_word m) 0 ≡ 1)
  claimed_is s k id v at m h = let q = (k.each id v at).claims m h in let r = k.claim m q in let t = term_le (λ u. times m u.claimed) s.views id v at in (q, omega arith)

  fed_is : (s : St) (k : K s) (id : ℕ) (v : View B) → get_elem? s.views id ≡ some v → (e : ℕ) → Has (v.seen ++ v.posted) e → Posted (get_or s.words (edge_word p e) 0)
  fed_is s k id v at e h = let a = total-append (λ y. cond (eqb y e) 1 0) v.seen v.posted in dite (ℕ_discrete (times e v.seen) 0)
      (λ z. (posted_is s k id v at e (omega arith)).1) (λ n. ((k.each id v at).seen e (omega arith)).1)

  -- how many modules are finished, module by module
  done_below : (s : St) (k : K s) → get_or s.words 0 0 ≡ below (λ m. total (λ v. times m v.finished) s.views) (length p)
  done_below s k = k.done ∙ total_times (λ v. v.finished) (length p) s.views (λ j v at x h. let g = k.each j v at in g.claims x (g.ends x h).0)

  added_once : (s : St) (k : K s) (m : ℕ) → m < length p → total (λ v. times m v.finished) s.views ≤ 1
  added_once s k m h = let q = k.claim m h in let t = total_below (λ v. times m v.claimed) (λ v. times m v.finished) s.views (λ j v at. let g = k.each j v at in let o = g.ends_once m in
      dite (ℕ_discrete (times m v.finished) 0) (λ z. omega arith) (λ n. let c : 0 < times m v.claimed = (g.ends m (omega arith)).0 in omega arith)) in omega arith

  pub done_le : (s : St) (k : K s) → get_or s.words 0 0 ≤ length p
  done_le s k = let e = done_below s k in let t = below_le (λ m. total (λ v. times m v.finished) s.views) (length p) (added_once s k) in omega arith

  -- all modules are finished: each is claimed, and each edge is posted
  ender : (s : St) (k : K s) → length p ≤ get_or s.words 0 0 → (m : ℕ) → m < length p → (j : ℕ) × (v : View B) × (get_elem? s.views j ≡ some v) × Has v.finished m
  ender s k all m h = let e = done_below s k in let one = below_full (λ x. total (λ v. times x v.finished) s.views) (length p) (added_once s k) (omega arith) m h in
      some_term (λ v. times m v.finished) s.views (omega arith)

  all_claimed : (s : St) (k : K s) → length p ≤ get_or s.words 0 0 → (m : ℕ) → m < length p → get_or s.words (module_word m) 0 ≡ 1
  all_claimed s k all m h = let t = ender s k all m h in (claimed_is s k t.0 t.1 t.2 m ((k.each t.0 t.1 t.2).ends m t.3).0).1

  all_posted : (s : St) (k : K s) → length p ≤ get_or s.words 0 0 → (e : ℕ) → e < edges p → Posted (get_or s.words (edge_word p e) 0)
  all_posted s k all e h = let t = ender s k all (source p e) (source_known p k.sound.1 e h) in (posted_is s k t.0 t.1 t.2 e (((k.each t.0 t.1 t.2).ends (source p e) t.3).1 e h refl)).1

  -- a view that notes more of what it found
  noted : (ws : List ℕ) (v : View B) (seen missed taken counts : List ℕ) → ViewHolds b p ws v → ((n : ℕ) → Has counts n → n ≤ get_or ws 0 0)
      → ((e : ℕ) → Has seen e → (e < edges p) × Posted (get_or ws (edge_word p e) 0)) → ((m : ℕ) → Has taken m → (m < length p) × (get_or ws (module_word m) 0 ≡ 1))
      → ViewHolds b p ws (record v { seen = seen; missed = missed; taken = taken; counts = counts })
  noted ws v seen missed taken counts g t x y =
      record { base = g.base; plan = g.plan; claims = g.claims; opens = g.opens; posts = g.posts; fetches = g.fetches; ends = g.ends; ends_once = g.ends_once; counts = t; seen = x; taken = y }

  abbrev Sat : Type 0
  Sat = Me (Option V) (View B)

  -- the load of an edge's word
  pub looks : (n id e : ℕ) (m : Sat) (i : ℕ) → i ≡ edge_word p e → e < edges p → Allows (RuleHolds fact b p seats) n id m i (λ y. y) (looked (step n i 0 0 none) m)
  looks n id e m i is h s k _ at _ =
      let g = k.each id m.0 at in let x : ℕ = get_or s.words (edge_word p e) 0 in
      let says : (w : View B) → Looked m.0 e x w → looked (step n i 0 0 none) m (get_or s.words i 0) (w, m.1) = λ w t. (
        refl,
        λ d ed.
            let same : d ≡ e = omega (arith, ed, is, ap (λ (q : Loads). length q) g.plan) in subst (λ (z : ℕ × ℕ). Looked m.0 z.0 z.1 w) (λ j. (sym same j, ap (λ (q : ℕ). get_or s.words q 0) (sym is) j)) t,
      ) in
      dite (dec_posted x)
      (λ hit. let w : View B = with_seen m.0 e in (
        w,
        keeps,
        tt,
        stays s k i id m.1 m.0 w at (λ d. refl) (λ d. refl) (λ d. refl) (λ d. refl) refl refl
            (noted s.words m.0 w.seen w.missed w.taken w.counts g g.counts (along (λ z. (z < edges p) × Posted (get_or s.words (edge_word p z) 0)) m.0.seen e g.seen (h, hit)) g.taken),
        says w ((λ _. refl), λ no. absurd (no hit)),
      ))
      (λ miss. let w : View B = with_missed m.0 e in (
        w,
        keeps,
        tt,
        stays s k i id m.1 m.0 w at (λ d. refl) (λ d. refl) (λ d. refl) (λ d. refl) refl refl (noted s.words m.0 w.seen w.missed w.taken w.counts g g.counts g.seen g.taken),
        says w (
          (λ yes. absurd (miss yes)),
          λ _. (
            refl,
            (λ had. miss (g.seen e had).1),
            (λ had. miss (posted_is s k id m.0 at e had).1),
            (λ had. miss (all_posted s k (g.counts (length p) (subst (λ (q : Loads). Has m.0.counts (length q)) g.plan had)) e h)),
          ),
        ),
      ))

  -- the exchange of a module's word
  pub tries : (n id c : ℕ) (m : Sat) → c < length p → Fed m.0 c → Allows (RuleHolds fact b p seats) n id m (module_word c) (λ y. either (eqb y 0) 1 y) (tried (step n (module_word c) 0 1 none) m)
  tries n id c m h fed s k _ at _ =
      let g = k.each id m.0 at in let i : ℕ = module_word c in let x : ℕ = get_or s.words i 0 in let k-wide = k.wide in
      let says : (w : View B) → Claimed m.0 c x w → tried (step n i 0 1 none) m x (w, m.1) = λ w t. (refl, λ d ed. let same : c ≡ d = omega arith in subst (λ (z : ℕ). Claimed m.0 z x w) same t) in
      dite (ℕ_discrete x 0)
      (λ free. let not-mine : ¬ Has m.0.claimed c = λ had. absurd (omega (arith, (claimed_is s k id m.0 at c had).1)) in let w : View B = with_claimed m.0 c in let ws : List ℕ = set s.words i 1 in
      let here : get_or ws i 0 ≡ 1 = get_or-set_same s.words i 1 0 (omega arith) in
      let else : (j : ℕ) → j ≢ i → get_or ws j 0 ≡ get_or s.words j 0 = λ j ne. get_or-set_other s.words i j 1 0 ne in
      let edge-stays : (e : ℕ) → get_or ws (edge_word p e) 0 ≡ get_or s.words (edge_word p e) 0 = λ e. else (edge_word p e) (λ d. omega arith) in (
        w,
        keeps,
        tt,
        subst (λ z. RuleHolds fact b p seats (stepped s i (either z 1 x) id m.1 w keeps)) (sym (eq-eqb x 0 free)) (moved s k id m.0 w ws s.homes at record {
          wide = length-set s.words i 1;
          deep = refl;
          edge = λ e l. let t = edge-stays e in ((λ x y z x' y' z' d₁ d₂ d₃ ph. (omega arith, omega arith, omega arith, omega arith)), λ q. (omega arith, omega arith));
          lies = λ e l. subst (λ (z : ℕ). SlotHolds fact b p e z (get_elem? s.homes e)) (sym (edge-stays e)) (k.lies e l);
          claim = λ d l. let q = k.claim d l in dite (ℕ_discrete d c)
              (λ e. let t : get_or ws (module_word d) 0 ≡ 1 = ap (λ (z : ℕ). get_or ws (module_word z) 0) e ∙ here in let f : get_or s.words (module_word d) 0 ≡ 0 = ap (λ (z : ℕ). get_or s.words (module_word z) 0) e ∙ free in
              let u : times d w.claimed ≡ times d m.0.claimed + 1 = subst (λ (z : ℕ). times z w.claimed ≡ times z m.0.claimed + 1) (sym e) (times_same c m.0.claimed) in (omega arith, omega arith, omega arith))
              (λ ne. let t = else (module_word d) (λ e. ne (omega arith)) in let u = times_other d m.0.claimed c (λ e. ne (sym e)) in (omega arith, omega arith, omega arith));
          ready = λ d e l into one. subst Posted (sym (edge-stays e)) (dite (ℕ_discrete d c)
              (λ same. fed_is s k id m.0 at e (fed e (subst (λ (z : ℕ × Loads). Into z.1 z.0 e) (λ j. (same j, sym g.plan j)) into)))
              (λ ne. k.ready d e l into (sym (else (module_word d) (λ z. ne (omega arith))) ∙ one)));
          done = let t = else 0 (λ z. omega arith) in (omega arith, omega arith);
          spare = refl;
          good = record {
            base = g.base;
            plan = g.plan;
            claims = along (λ z. z < length p) m.0.claimed c g.claims h;
            opens = λ e had. let q = g.opens e had in (q.0, Has_more m.0.claimed c (source p e) q.1);
            posts = g.posts;
            fetches = λ e had. let q = g.fetches e had in (q.0, Has_more m.0.claimed c q.0 q.1, q.2);
            ends = λ d had. let q = g.ends d had in (Has_more m.0.claimed c d q.0, q.1);
            ends_once = g.ends_once;
            counts = g.counts;
            seen = g.seen;
            taken = g.taken;
          };
        }),
        says w (
          (λ _. (
            refl,
            (λ had. absurd (omega (arith, all_claimed s k (g.counts (length p) (subst (λ (q : Loads). Has m.0.counts (length q)) g.plan had)) c h))),
            (
              not-mine,
              (λ had. not-mine (g.ends c had).0),
              (λ e is had. let q = g.opens e (g.posts e had) in not-mine (subst (λ (z : ℕ). Has m.0.claimed z) (subst (λ (z : Loads). source z e ≡ c) g.plan is) q.1)),
              (λ e into had. let q = g.fetches e had in not-mine (subst (λ (z : ℕ). Has m.0.claimed z) (into_once p q.0 c e q.2 (subst (λ (z : Loads). Into z c e) g.plan into)) q.1)),
            ),
          )),
          λ no. absurd (no free),
        ),
      ))
      (λ lost. let w : View B = with_taken m.0 c in let q = k.claim c h in let one : x ≡ 1 = omega arith in (
        w,
        keeps,
        tt,
        subst (λ z. RuleHolds fact b p seats (stepped s i (either z 1 x) id m.1 w keeps)) (sym (ne_eqb x 0 lost)) (stays s k i id m.1 m.0 w at (λ d. refl) (λ d. refl) (λ d. refl) (λ d. refl) refl refl
            (noted s.words m.0 w.seen w.missed w.taken w.counts g g.counts g.seen (along (λ z. (z < length p) × (get_or s.words (module_word z) 0 ≡ 1)) m.0.taken c g.taken (h, one)))),
        says w ((λ yes. absurd (lost yes)), λ _. refl),
      ))

  -- two seats that claimed one module are one seat
  one_seat : (s : St) (k : K s) (i j : ℕ) (v u : View B) (m : ℕ) → m < length p → get_elem? s.views i ≡ some v → get_elem? s.views j ≡ some u → Has v.claimed m → Has u.claimed m → v ≡ u
  one_seat s k i j v u m h at at' hv hu = dite (ℕ_discrete j i) (λ e. some-injective v u (sym at ∙ subst (λ (z : ℕ). get_elem? s.views z ≡ some u) e at'))
      (λ ne. let q = k.claim m h in let t = terms_le (λ w. times m w.claimed) s.views i j v u ne at at' in absurd (omega arith))

  -- an edge that this seat has a right to, and did not take the step f for, no seat did
  none_did : (f : View B → List ℕ) (s : St) (k : K s) (id : ℕ) (v : View B) (e m : ℕ) → m < length p → get_elem? s.views id ≡ some v → Has v.claimed m
      → ((j : ℕ) (u : View B) → get_elem? s.views j ≡ some u → Has (f u) e → Has u.claimed m) → ¬ Has (f v) e → total (λ u. times e (f u)) s.views ≡ 0
  none_did f s k id v e m h at owns others not-yet = dite (ℕ_discrete (total (λ u. times e (f u)) s.views) 0) (λ z. z)
      (λ n. let t = some_term (λ u. times e (f u)) s.views (omega arith) in
      absurd (not-yet (subst (λ (u : View B). Has (f u) e) (sym (one_seat s k id t.0 v t.1 m h at t.2 owns (others t.0 t.1 t.2 t.3))) t.3)))

  -- a step on the word of the edge e, to x, with the slots as hs
  edge_moved : (s : St) (k : K s) (id e x : ℕ) (v w : View B) (hs : Homes) → e < edges p → get_elem? s.views id ≡ some v → length hs ≡ length s.homes
      → Turns (get_or s.words (edge_word p e) 0) x (times e v.opened) (times e w.opened) (times e v.posted) (times e w.posted) (times e v.fetched) (times e w.fetched)
      → ((d : ℕ) → d ≢ e → (times d w.opened ≡ times d v.opened) × (times d w.posted ≡ times d v.posted) × (times d w.fetched ≡ times d v.fetched))
      → SlotHolds fact b p e x (get_elem? hs e) → ((d : ℕ) → d ≢ e → get_elem? hs d ≡ get_elem? s.homes d)
      → ((m : ℕ) → times m w.claimed ≡ times m v.claimed) → length w.finished ≡ length v.finished → w.spare ≡ v.spare → ViewHolds b p s.words w
      → K record { words = set s.words (edge_word p e) x; homes = hs; views = set s.views id w }
  edge_moved s k id e x v w hs h at deep turn same lies same-h same-c same-f same-s g =
      let i : ℕ = edge_word p e in let k-wide = k.wide in let ws : List ℕ = set s.words i x in
      let here : get_or ws i 0 ≡ x = get_or-set_same s.words i x 0 (omega arith) in
      let else : (j : ℕ) → j ≢ i → get_or ws j 0 ≡ get_or s.words j 0 = λ j ne. get_or-set_other s.words i j x 0 ne in
      let edge-else : (d : ℕ) → d ≢ e → get_or ws (edge_word p d) 0 ≡ get_or s.words (edge_word p d) 0 = λ d ne. else (edge_word p d) (λ y. ne (omega arith)) in
      let mod-else : (d : ℕ) → d < length p → get_or ws (module_word d) 0 ≡ get_or s.words (module_word d) 0 = λ d l. else (module_word d) (λ y. omega arith) in
      let turns : (d : ℕ) → d < edges p → Turns (get_or s.words (edge_word p d) 0) (get_or ws (edge_word p d) 0) (times d v.opened) (times d w.opened) (times d v.posted) (times d w.posted) (times d v.fetched) (times d w.fetched) = λ d l.
      dite (ℕ_discrete d e)
      (λ is. subst (λ (z : ℕ). Turns (get_or s.words (edge_word p z) 0) (get_or ws (edge_word p z) 0) (times z v.opened) (times z w.opened) (times z v.posted) (times z w.posted) (times z v.fetched) (times z w.fetched)) (sym is)
      (subst (λ (z : ℕ). Turns (get_or s.words (edge_word p e) 0) z (times e v.opened) (times e w.opened) (times e v.posted) (times e w.posted) (times e v.fetched) (times e w.fetched)) (sym here) turn))
      (λ ne. let t = edge-else d ne in let q = same d ne in ((λ a c y a' c' y' d₁ d₂ d₃ ph. (omega arith, omega arith, omega arith, omega arith)), λ r. subst Posted (sym t) r)) in
      moved s k id v w ws hs at record {
        wide = length-set s.words i x;
        deep = deep;
        edge = turns;
        lies = λ d l. dite (ℕ_discrete d e)
            (λ is. subst (λ (z : ℕ). SlotHolds fact b p z (get_or ws (edge_word p z) 0) (get_elem? hs z)) (sym is) (subst (λ (z : ℕ). SlotHolds fact b p e z (get_elem? hs e)) (sym here) lies))
            (λ ne. subst (λ (z : ℕ × maybe.Option (maybe.Option (Option V))). SlotHolds fact b p d z.0 z.1) (λ j. (sym (edge-else d ne) j, sym (same-h d ne) j)) (k.lies d l));
        claim = λ d l. let q = k.claim d l in let t = mod-else d l in (omega (arith, same-c d), omega arith, omega arith);
        ready = λ d c l into one. let r = k.ready d c l into (sym (mod-else d l) ∙ one) in
            dite (dec_le (edges p) c) (λ past. subst Posted (sym (edge-else c (λ y. omega arith))) r) (λ n. (turns c (omega arith)).1 r);
        done = let t = else 0 (λ y. omega arith) in (omega arith, omega arith);
        spare = same-s;
        good = g;
      }

  -- an edge is opened: its empty slot comes out
  pub opens_edge : (n id e : ℕ) (m : Sat) → e < edges p → Has m.0.claimed (source p e) → ¬ Has m.0.opened e → Allows (RuleHolds fact b p seats) n id m (edge_word p e) (λ _. 3) (λ _. opened (step n (edge_word p e) 3 0 none) m 3)
  opens_edge n id e m h owns not-yet s k _ at _ =
      let g = k.each id m.0 at in let w : View B = with_opened m.0 e in let ph = k.edge e h in
      let nobody = none_did (λ u. u.opened) s k id m.0 e (source p e) (source_known p k.sound.1 e h) at owns (λ j u a had. ((k.each j u a).opens e had).1) not-yet in
      let free : get_or s.words (edge_word p e) 0 ≡ 0 = omega arith in let there = (k.lies e h).empty free in let more = times_same e m.0.opened in let k-deep = k.deep in (
        w,
        takes e None,
        there,
        edge_moved s k id e 3 m.0 w (set s.homes e none) h at (length-set s.homes e none)
            ((λ a c y a' c' y' d₁ d₂ d₃ q. (omega arith, omega arith, omega arith, omega arith)), λ q. absurd (omega arith))
            (λ d ne. (times_other d m.0.opened e (λ y. ne (sym y)), refl, refl)) (record { empty = λ y. absurd (omega arith); out = λ _. set_here s.homes e none (omega arith); full = λ y. absurd (omega arith) })
            (λ d ne. set_else s.homes e d none ne) (λ d. refl) refl refl
            (record {
              base = g.base;
              plan = g.plan;
              claims = g.claims;
              opens = along (λ z. (z < edges p) × Has m.0.claimed (source p z)) m.0.opened e g.opens (h, owns);
              posts = λ d had. Has_more m.0.opened e d (g.posts d had);
              fetches = g.fetches;
              ends = g.ends;
              ends_once = g.ends_once;
              counts = g.counts;
              seen = g.seen;
              taken = g.taken;
            }),
        (λ d y. let same : e ≡ d = omega (arith, ap (λ (q : Loads). length q) g.plan) in ap (λ (z : ℕ). (with_opened m.0 z, (z, None) ∷ m.1)) same),
      )

  -- an edge is posted: its filled slot goes home
  pub posts_edge : (n id e : ℕ) (v : View B) (x : V) (c : List (ℕ × Option V)) → e < edges p → Has v.opened e → ¬ Has v.posted e → fact b (source p e) x
      → Allows (RuleHolds fact b p seats) n id (v, (e, Some x) ∷ c) (edge_word p e) (λ _. 1) (λ _. posted (step n (edge_word p e) 1 0 none) (v, (e, Some x) ∷ c) 1)
  posts_edge n id e v x c h had not-yet fits s k _ at _ =
      let g = k.each id v at in let w : View B = with_posted v e in let ph = k.edge e h in let owns = (g.opens e had).1 in
      let nobody = none_did (λ u. u.posted) s k id v e (source p e) (source_known p k.sound.1 e h) at owns (λ j u a y. let q = k.each j u a in (q.opens e (q.posts e y)).1) not-yet in
      let some-did = term_le (λ u. times e u.opened) s.views id v at in
      let out : get_or s.words (edge_word p e) 0 ≡ 3 = omega arith in let more = times_same e v.posted in let k-deep = k.deep in (
        w,
        gives,
        tt,
        edge_moved s k id e 1 v w (set s.homes e (some (Some x))) h at (length-set s.homes e (some (Some x)))
            ((λ a c y a' c' y' d₁ d₂ d₃ q. (omega arith, omega arith, omega arith, omega arith)), λ q. absurd (omega arith))
            (λ d ne. (refl, times_other d v.posted e (λ y. ne (sym y)), refl))
            (record { empty = λ y. absurd (omega arith); out = λ y. absurd (omega arith); full = λ y. (x, set_here s.homes e (some (Some x)) (omega arith), fits) })
            (λ d ne. set_else s.homes e d (some (Some x)) ne) (λ d. refl) refl refl
            (record {
              base = g.base;
              plan = g.plan;
              claims = g.claims;
              opens = g.opens;
              posts = along (λ z. Has v.opened z) v.posted e g.posts had;
              fetches = g.fetches;
              ends = λ d y. let q = g.ends d y in (q.0, λ d' l is. Has_more v.posted e d' (q.1 d' l is));
              ends_once = g.ends_once;
              counts = g.counts;
              seen = g.seen;
              taken = g.taken;
            }),
        (λ d y. let same : e ≡ d = omega (arith, ap (λ (q : Loads). length q) g.plan) in ap (λ (z : ℕ). (with_posted v z, c)) same),
      )

  -- an edge is fetched: its slot comes out
  pub fetches_edge : (n id e t : ℕ) (m : Sat) → e < edges p → Has m.0.claimed t → Into p t e → ¬ Has m.0.fetched e
      → Allows (RuleHolds fact b p seats) n id m (edge_word p e) (λ _. 2) (λ _. fetched fact (step n (edge_word p e) 2 0 none) m 2)
  fetches_edge n id e t m h owns into not-yet s k _ at _ =
      let g = k.each id m.0 at in let w : View B = with_fetched m.0 e in let ph = k.edge e h in let mine = claimed_is s k id m.0 at t owns in
      let nobody = none_did (λ u. u.fetched) s k id m.0 e t mine.0 at owns (λ j u a had. let q = (k.each j u a).fetches e had in subst (λ (z : ℕ). Has u.claimed z) (into_once p q.0 t e q.2 into) q.1) not-yet in
      let ready = k.ready t e mine.0 into mine.1 in
      let full : get_or s.words (edge_word p e) 0 ≡ 1 = omega arith in let there = (k.lies e h).full full in let x : V = there.0 in let more = times_same e m.0.fetched in let k-deep = k.deep in (
        w,
        takes e (Some x),
        there.1,
        edge_moved s k id e 2 m.0 w (set s.homes e none) h at (length-set s.homes e none)
            ((λ a c y a' c' y' d₁ d₂ d₃ q. (omega arith, omega arith, omega arith, omega arith)), λ q. (omega arith, omega arith))
            (λ d ne. (refl, refl, times_other d m.0.fetched e (λ y. ne (sym y)))) (record { empty = λ y. absurd (omega arith); out = λ _. set_here s.homes e none (omega arith); full = λ y. absurd (omega arith) })
            (λ d ne. set_else s.homes e d none ne) (λ d. refl) refl refl
            (record {
              base = g.base;
              plan = g.plan;
              claims = g.claims;
              opens = g.opens;
              posts = g.posts;
              fetches = along (λ z. (q : ℕ) × Has m.0.claimed q × Into p q z) m.0.fetched e g.fetches (t, owns, into);
              ends = g.ends;
              ends_once = g.ends_once;
              counts = g.counts;
              seen = g.seen;
              taken = g.taken;
            }),
        (λ d y. let same : e ≡ d = omega (arith, ap (λ (q : Loads). length q) g.plan) in
            (x, ap (λ (z : ℕ). (with_fetched m.0 z, (z, Some x) ∷ m.1)) same, subst (λ (z : B × Loads × ℕ). fact z.0 (source z.1 z.2) x) (λ j. (sym g.base j, sym g.plan j, same j)) there.2)),
      )

  -- one more module is finished
  pub adds : (n id c : ℕ) (m : Sat) → Has m.0.claimed c → ¬ Has m.0.finished c → ((e : ℕ) → e < edges p → source p e ≡ c → Has m.0.posted e)
      → Allows (RuleHolds fact b p seats) n id m 0 (λ y. (y + 1) % 2 ^ 64) (added c (step n 0 1 0 none) m)
  adds n id c m owns not-yet all-out s k _ at _ =
      let g = k.each id m.0 at in let x : ℕ = get_or s.words 0 0 in let low = done_le s k in let few = k.sound.0.0 in let y : ℕ = (x + 1) % 2 ^ 64 in let more : y ≡ x + 1 = omega arith in let k-wide = k.wide in
      let w : View B = with_finished m.0 c in let ws : List ℕ = set s.words 0 y in
      let here : get_or ws 0 0 ≡ y = get_or-set_same s.words 0 y 0 (omega arith) in
      let else : (j : ℕ) → j ≢ 0 → get_or ws j 0 ≡ get_or s.words j 0 = λ j ne. get_or-set_other s.words 0 j y 0 ne in
      let edge-stays : (e : ℕ) → get_or ws (edge_word p e) 0 ≡ get_or s.words (edge_word p e) 0 = λ e. else (edge_word p e) (λ d. omega arith) in (
        w,
        keeps,
        tt,
        moved s k id m.0 w ws s.homes at record {
          wide = length-set s.words 0 y;
          deep = refl;
          edge = λ e l. let t = edge-stays e in ((λ x y z x' y' z' d₁ d₂ d₃ ph. (omega arith, omega arith, omega arith, omega arith)), λ q. subst Posted (sym t) q);
          lies = λ e l. subst (λ (z : ℕ). SlotHolds fact b p e z (get_elem? s.homes e)) (sym (edge-stays e)) (k.lies e l);
          claim = λ d l. let q = k.claim d l in let t = else (module_word d) (λ z. omega arith) in (omega arith, omega arith, omega arith);
          ready = λ d e l into one. subst Posted (sym (edge-stays e)) (k.ready d e l into (sym (else (module_word d) (λ z. omega arith)) ∙ one));
          done = let a = length-append m.0.finished (c ∷ []) in (omega arith, omega arith);
          spare = refl;
          good = record {
            base = g.base;
            plan = g.plan;
            claims = g.claims;
            opens = g.opens;
            posts = g.posts;
            fetches = g.fetches;
            ends = along (λ z. Has m.0.claimed z × ((e : ℕ) → e < edges p → source p e ≡ z → Has m.0.posted e)) m.0.finished c g.ends (owns, all-out);
            ends_once = λ z. dite (ℕ_discrete z c)
                (λ is. subst (λ (d : ℕ). times d w.finished ≤ 1) (sym is) (let t = times_same c m.0.finished in omega arith))
                (λ ne. let t = times_other z m.0.finished c (λ d. ne (sym d)) in let o = g.ends_once z in omega arith);
            counts = g.counts;
            seen = g.seen;
            taken = g.taken;
          };
        },
        refl,
      )

  -- the load of the count
  pub counts : (n id : ℕ) (m : Sat) → Allows (RuleHolds fact b p seats) n id m 0 (λ y. y) (counted (step n 0 0 0 none) m)
  counts n id m s k _ at _ = let g = k.each id m.0 at in let x : ℕ = get_or s.words 0 0 in let w : View B = with_count m.0 x in (
    w,
    keeps,
    tt,
    stays s k 0 id m.1 m.0 w at (λ d. refl) (λ d. refl) (λ d. refl) (λ d. refl) refl refl (noted s.words m.0 w.seen w.missed w.taken w.counts g (along (λ z. z ≤ x) m.0.counts x g.counts (omega arith)) g.seen g.taken),
    (refl, (refl, (let t = term_le (λ v. length v.finished) s.views id m.0 at in let q = k.done in omega arith), g.counts, omega (arith, done_le s k, ap (λ (q : Loads). length q) g.plan))),
  )

  fresh : (ws : List ℕ) (spare : ℕ) → ViewHolds b p ws (blank_with b p spare)
  fresh ws spare = record {
    base = refl;
    plan = refl;
    claims = λ m h. absurd (omega arith);
    opens = λ e h. absurd (omega arith);
    posts = λ e h. absurd (omega arith);
    fetches = λ e h. absurd (omega arith);
    ends = λ m h. absurd (omega arith);
    ends_once = λ m. omega arith;
    counts = λ n h. absurd (omega arith);
    seen = λ e h. absurd (omega arith);
    taken = λ m h. absurd (omega arith);
  }

  -- one seat less may be cut from a view
  less_spare : (ws : List ℕ) (v : View B) (spare : ℕ) → ViewHolds b p ws v → ViewHolds b p ws (record v { spare = spare })
  less_spare ws v spare g = record { base = g.base; plan = g.plan; claims = g.claims; opens = g.opens; posts = g.posts; fetches = g.fetches; ends = g.ends; ends_once = g.ends_once; counts = g.counts; seen = g.seen; taken = g.taken }

  -- one more seat, which knows nothing yet
  pub splits : (id : ℕ) (v : View B) → v.base ≡ b → v.plan ≡ p → 0 < v.spare → Splits (RuleHolds fact b p seats) id v (record v { spare = v.spare - 1 }) (blank v.base v.plan)
  splits id v is-b is-p some-left s k at = let new : View B = blank v.base v.plan in let left : View B = record v { spare = v.spare - 1 } in let l : List (View B) = set s.views id left in
      let good : ViewHolds b p s.words new = subst (λ (z : B × Loads). ViewHolds b p s.words (blank z.0 z.1)) (λ j. (sym is-b j, sym is-p j)) (fresh s.words 0) in
      let sum : (f : View B → ℕ) → f left ≡ f v → f new ≡ 0 → total f (l ++ new ∷ []) ≡ total f s.views = λ f same none-yet. (let t = total-append f l (new ∷ []) in let c = total-set f s.views id v left at in omega arith) in record {
        sound = k.sound;
        wide = k.wide;
        deep = k.deep;
        edge = λ e h. let q = k.edge e h in let t₁ = sum (λ u. times e u.opened) refl refl in let t₂ = sum (λ u. times e u.posted) refl refl in let t₃ = sum (λ u. times e u.fetched) refl refl in (omega arith, omega arith, omega arith, omega arith);
        lies = k.lies;
        claim = λ m h. let q = k.claim m h in let t = sum (λ u. times m u.claimed) refl refl in (omega arith, q.1);
        ready = k.ready;
        done = let q = k.done in let t = sum (λ u. length u.finished) refl refl in omega arith;
        cut = let q = k.cut in let t = total-append (λ u. 1 + u.spare) l (new ∷ []) in let c = total-set (λ u. 1 + u.spare) s.views id v left at in omega arith;
        each = λ j u e. ⊎_elim
            (λ old. ⊎_elim (λ c. subst (ViewHolds b p s.words) c.1 (less_spare s.words v (v.spare - 1) (k.each id v at))) (λ c. k.each j u c.1) (at_set s.views id j left u old))
            (λ is-new. subst (ViewHolds b p s.words) is-new good) (at_snoc l new u j e);
      }

  -- the board at the start
  pub starts : (ws : List ℕ) (n : ℕ) → IsGraph p → length ws ≡ 1 + length p + edges p → n ≡ edges p → ((j : ℕ) → get_or ws j 0 ≡ 0) → 0 < seats → K (opening ws (replicate n None) (blank_with b p (seats - 1)))
  starts ws n sound wide deep none-yet some-seat = record {
    sound = sound;
    wide = wide;
    deep = length-map (replicate n None) some ∙ length-replicate n None ∙ deep;
    edge = λ e h. let z = none-yet (edge_word p e) in (omega arith, omega arith, omega arith, omega arith);
    lies = λ e h. record { empty = λ z. at_map some (replicate n None) e None (at_replicate n e None (omega arith)); out = λ z. absurd (omega (arith, none-yet (edge_word p e))); full = λ z. absurd (omega (arith, none-yet (edge_word p e))) };
    claim = λ m h. let z = none-yet (module_word m) in (omega arith, omega arith);
    ready = λ m e h into one. absurd (omega (arith, none-yet (module_word m)));
    done = omega (arith, none-yet 0);
    cut = omega arith;
    each = λ j u e. ⊎_elim (λ (old : get_elem? [] j ≡ some u). absurd (some-ne-none u (sym old))) (λ (is : blank_with b p (seats - 1) ≡ u). subst (ViewHolds b p ws) is (fresh ws (seats - 1))) (at_snoc [] (blank_with b p (seats - 1)) u j e);
  }
