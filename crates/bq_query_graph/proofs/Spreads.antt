-- The search by levels.
use Rattle.std.proofs.Common.{◌≡◌, ℕ, ◌+◌, ◌<◌, ◌≤◌, Bool, false, List, [], ◌∷◌, ◌⊎◌, inl, inr, length, get_or, sym, refl, ap, ◌∙◌, subst, arith}
use Rattle.std.specs.Bool.{Decides}
use Rattle.std.proofs.lemmas.List.{get_or_default}
use Rattle.std.proofs.lemmas.List.Elements.{Contains-get_or}
use Rattle.std.proofs.lemmas.Bool.{cases_lt}
use Rattle.bq_query_graph.specs.Paths.{IsPath, Ends, EndsWithin}
use Rattle.bq_query_graph.specs.Marks.{Marked, Held, Grew, After, Step, IsSet}
use Rattle.bq_query_graph.proofs.Grows.{grew_none, marked_below}
use Rattle.bq_query_graph.proofs.Walks.{last_edge, along, ends_more, ends_weaker}

-- one growth after another
pub grew_then : (P Q R : ℕ → Type 0) → (ms : List Bool) (q : List ℕ) (ns : List Bool) (r : List ℕ) (os : List Bool) (s : List ℕ) → ((y : ℕ) → P y → R y) → ((y : ℕ) → Q y → R y) → ((y : ℕ) → R y → P y ⊎ Q y) → Grew P ms q ns r → Grew Q ns r os s → Grew R ms q os s
grew_then P Q R ms q ns r os s f g h a b =
    record {
      long = b.long ∙ a.long;
      held = b.held;
      kept = λ y m. b.kept y (a.kept y m);
      new = λ y m. elim (b.new y m) [ inl k ↦ elim (a.new y k) [ inl i ↦ inl i | inr p ↦ inr (f y p) ] | inr p ↦ inr (g y p) ];
      all = λ y p. elim (h y p) [ inl k ↦ b.kept y (a.all y k) | inr k ↦ b.all y k ];
      front = λ k l. b.front k (omega (arith, l, a.longer)) ∙ a.front k l;
      longer = omega (arith, a.longer, b.longer);
      count = omega (arith, a.count, b.count);
    }

pub level_none : (g : List (List ℕ)) (allowed ms : List Bool) (q : List ℕ) (from : ℕ) → Held ms q → Grew (After g allowed q from from) ms q ms q
level_none g allowed ms q from held = grew_none (After g allowed q from from) ms q (λ y p. omega (arith, p.late, p.early)) held

pub level_more : (g : List (List ℕ)) (allowed ms : List Bool) (q : List ℕ) (ns : List Bool) (r : List ℕ) (os : List Bool) (s : List ℕ) (from k x : ℕ) → from ≤ k → k < length q → x ≡ get_or r k 0 → Grew (After g allowed q from k) ms q ns r → Grew (Step g allowed x) ns r os s → Grew (After g allowed q from (k + 1)) ms q os s
level_more g allowed ms q ns r os s from k x l h e a b =
    let same : x ≡ get_or q k 0 = e ∙ a.front k h in
    grew_then (After g allowed q from k) (Step g allowed x) (After g allowed q from (k + 1)) ms q ns r os s
    (λ y p. record { at = p.at; late = p.late; early = omega (arith, p.early); step = p.step })
    (λ y p. record { at = k; late = omega (arith, l); early = omega arith; step = subst (λ w. Step g allowed w y) same p })
    (λ y p. elim (cases_lt p.at k) [
      | inl i ↦ inl (record { at = p.at; late = p.late; early = i; step = p.step })
      | inr i ↦ let there : p.at ≡ k = omega (arith, i, p.early) in inr (subst (λ w. Step g allowed w y) (ap (λ j. get_or q j 0) there ∙ sym same) p.step)
    ])
    a b

-- what is marked at the front of the list
pub front_below : (ms : List Bool) (q : List ℕ) (k : ℕ) → Held ms q → k < length q → get_or q k 0 < length ms
front_below ms q k held l = marked_below ms (get_or q k 0) ((held (get_or q k 0)).1 (Contains-get_or q k 0 l))

-- after n levels, of which the list's part before `head` is done with
pub record Stands (E : ℕ → ℕ → Type 0) (S : ℕ → Type 0) (n : ℕ) (ms : List Bool) (q : List ℕ) (head : ℕ) : Type 0 where
  pub held : Held ms q
  pub sound : (y : ℕ) → Marked ms y → EndsWithin E S n y
  pub full : (y : ℕ) → EndsWithin E S n y → Marked ms y
  pub closed : (k : ℕ) → k < head → (y : ℕ) → E (get_or q k 0) y → Marked ms y
  pub within : head ≤ length q

only : (E : ℕ → ℕ → Type 0) → (S : ℕ → Type 0) → (y x : ℕ) (us : List ℕ) → length us ≤ 0 → IsPath E x us y → S x → S y
only E S y x [] l p s = subst S p s
only E S y x (u ∷ us) l p s = absurd (omega (arith, l))

pub stands_none : (E : ℕ → ℕ → Type 0) → (S : ℕ → Type 0) → (ms : List Bool) (q : List ℕ) → Held ms q → ((y : ℕ) → Decides (get_or ms y false) (S y)) → Stands E S 0 ms q 0
stands_none E S ms q held d =
    record {
      held = held;
      sound = λ y m. (record { from = y; starts = (d y).0 m; through = []; path = refl }, omega arith);
      full = λ y (r, few). (d y).1 (only E S y r.from r.through few r.path r.starts);
      closed = λ k l. absurd (omega (arith, l));
      within = omega arith;
    }

-- after the level all edges out of what was listed lead to marks
done_with : (g : List (List ℕ)) (allowed : List Bool) → (S : ℕ → Type 0) → (n : ℕ) (ms : List Bool) (q : List ℕ) (head : ℕ) (ns : List Bool) (r : List ℕ) → Stands (Step g allowed) S n ms q head → Grew (After g allowed q head (length q)) ms q ns r → (k : ℕ) → k < length q → (y : ℕ) → Step g allowed (get_or q k 0) y → Marked ns y
done_with g allowed S n ms q head ns r st gr k l y e =
    elim (cases_lt k head) [ inl i ↦ gr.kept y (st.closed k i y e) | inr i ↦ gr.all y (record { at = k; late = omega (arith, i); early = l; step = e }) ]

listed_at : (ms : List Bool) (q : List ℕ) (z : ℕ) → Held ms q → Marked ms z → (k : ℕ) × (k < length q) × (get_or q k 0 ≡ z)
listed_at ms q z held m = let c = (held z).0 m in (c.0, c.1, get_or_default q c.0 0 z c.1 ∙ c.2)

full_more : (g : List (List ℕ)) (allowed : List Bool) → (S : ℕ → Type 0) → (n : ℕ) (ms : List Bool) (q : List ℕ) (head : ℕ) (ns : List Bool) (r : List ℕ) → Stands (Step g allowed) S n ms q head → Grew (After g allowed q head (length q)) ms q ns r → (x : ℕ) → S x → (us : List ℕ) → (y : ℕ) → length us ≤ n + 1 → IsPath (Step g allowed) x us y → Marked ns y
full_more g allowed S n ms q head ns r st gr x s [] y l p = gr.kept y (st.full y (record { from = x; starts = s; through = []; path = p }, omega arith))
full_more g allowed S n ms q head ns r st gr x s (u ∷ us) y l p =
    let e = last_edge (Step g allowed) x u us y p in
    let m = st.full e.before (record { from = x; starts = s; through = e.through; path = e.path }, omega (arith, e.long, l)) in
    let c = listed_at ms q e.before st.held m in
    done_with g allowed S n ms q head ns r st gr c.0 c.1 y (subst (λ w. Step g allowed w y) (sym c.2) e.edge)

pub stands_more : (g : List (List ℕ)) (allowed : List Bool) → (S : ℕ → Type 0) → (n : ℕ) (ms : List Bool) (q : List ℕ) (head : ℕ) (ns : List Bool) (r : List ℕ) → Stands (Step g allowed) S n ms q head → Grew (After g allowed q head (length q)) ms q ns r → Stands (Step g allowed) S (n + 1) ns r (length q)
stands_more g allowed S n ms q head ns r st gr =
    let E = Step g allowed in
    record {
      held = gr.held;
      sound = λ y m. elim (gr.new y m) [
        | inl o ↦ ends_weaker E S n (n + 1) y (omega arith) (st.sound y o)
        | inr p ↦ ends_more E S n (get_or q p.at 0) y (st.sound (get_or q p.at 0) ((st.held (get_or q p.at 0)).1 (Contains-get_or q p.at 0 p.early))) p.step
      ];
      full = λ y (e, few). full_more g allowed S n ms q head ns r st gr e.from e.starts e.through y few e.path;
      closed = λ k l y e. done_with g allowed S n ms q head ns r st gr k l y (subst (λ w. E w y) (gr.front k l) e);
      within = gr.longer;
    }

-- all that is listed is done with
pub stands_end : (E : ℕ → ℕ → Type 0) → (S : ℕ → Type 0) → (n : ℕ) (ms : List Bool) (q : List ℕ) (head : ℕ) → length q ≤ head → Stands E S n ms q head → (x : ℕ) → S x → (us : List ℕ) → (y : ℕ) → IsPath E x us y → Marked ms y
stands_end E S n ms q head l st x s us y p =
    along E (Marked ms) (λ a b m e. let c = listed_at ms q a st.held m in st.closed c.0 (omega (arith, c.1, l)) b (subst (λ w. E w b) (sym c.2) e)) x us y p
    (st.full x (record { from = x; starts = s; through = []; path = refl }, omega arith))

pub within_end : (E : ℕ → ℕ → Type 0) → (S : ℕ → Type 0) → (n m : ℕ) (ms : List Bool) (q : List ℕ) (head : ℕ) → n ≤ m → length q ≤ head → Stands E S n ms q head → (y : ℕ) → Decides (get_or ms y false) (EndsWithin E S m y)
within_end E S n m ms q head small l st y = (λ h. ends_weaker E S n m y small (st.sound y h), λ (e, few). stands_end E S n ms q head l st e.from e.starts e.through y e.path)

pub within_all : (E : ℕ → ℕ → Type 0) → (S : ℕ → Type 0) → (n : ℕ) (ms : List Bool) (q : List ℕ) (head : ℕ) → Stands E S n ms q head → (y : ℕ) → Decides (get_or ms y false) (EndsWithin E S n y)
within_all E S n ms q head st y = (st.sound y, st.full y)

pub closure_end : (E : ℕ → ℕ → Type 0) → (S : ℕ → Type 0) → (n : ℕ) (ms : List Bool) (q : List ℕ) (head : ℕ) → length q ≤ head → Stands E S n ms q head → (y : ℕ) → Decides (get_or ms y false) (Ends E S y)
closure_end E S n ms q head l st y = (
  λ h. (st.sound y h).0,
  λ e. stands_end E S n ms q head l st e.from e.starts e.through y e.path,
)

pub stands_start : (E : ℕ → ℕ → Type 0) → (S : ℕ → Type 0) → (n : ℕ) (ms xs : List Bool) (q : List ℕ) → xs ≡ ms → Held xs q → IsSet n ms S → Stands E S 0 ms q 0
stands_start E S n ms xs q e h s = stands_none E S ms q (subst (λ (zs : List Bool). Held zs q) e h) s.1

pub stands_next : (g : List (List ℕ)) (allowed : List Bool) → (S : ℕ → Type 0) → (n : ℕ) (ms : List Bool) (q : List ℕ) (head : ℕ) (ns : List Bool) (r : List ℕ) (end : ℕ) → end ≡ length q → Stands (Step g allowed) S n ms q head → Grew (After g allowed q head (length q)) ms q ns r → Stands (Step g allowed) S (n + 1) ns r end
stands_next g allowed S n ms q head ns r end e st gr = subst (Stands (Step g allowed) S (n + 1) ns r) (sym e) (stands_more g allowed S n ms q head ns r st gr)
