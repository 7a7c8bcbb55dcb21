-- How marks and the list of the marked grow.
use Rattle.std.proofs.Common.{◌≡◌, ℕ, ◌+◌, ◌<◌, Bool, true, false, cond, List, [], ◌∷◌, ◌++◌, ◌⊎◌, inl, inr, length, get_or, set, sym, refl, ap, ◌∙◌, subst, arith, length-set, get_or-set_same, get_or-set_other}
use Rattle.std.specs.List.{Contains}
use Rattle.std.proofs.lemmas.List.{get_or_past, length_push, get_or_append_left}
use Rattle.std.proofs.lemmas.List.Elements.{Contains-append_left, Contains-push, Contains-push_cases}
use Rattle.std.proofs.lemmas.List.Sums.{sum_by-set}
use Rattle.std.proofs.lemmas.Bool.{cases_eq, cases_lt, false≢true}
use Rattle.bq_query_graph.specs.Marks.{Marked, Held, Grew, unmarked}

-- what is marked is a target
pub marked_below : (ms : List Bool) (y : ℕ) → Marked ms y → y < length ms
marked_below ms y h = elim (cases_lt y (length ms)) [ inl l ↦ l | inr g ↦ absurd (false≢true (sym (get_or_past ms y false g) ∙ h)) ]

pub grew_none : (P : ℕ → Type 0) → (ms : List Bool) (q : List ℕ) → ((y : ℕ) → P y → ⊥) → Held ms q → Grew P ms q ms q
grew_none P ms q none held =
    record { long = refl; held = held; kept = λ y h. h; new = λ y h. inl h; all = λ y p. absurd (none y p); front = λ k h. refl; longer = omega arith; count = refl }

-- more is in Q than in P, and what more is marked
pub grew_skip : (P Q : ℕ → Type 0) → (ms : List Bool) (q : List ℕ) (ns : List Bool) (r : List ℕ) → ((y : ℕ) → P y → Q y) → ((y : ℕ) → Q y → P y ⊎ Marked ns y) → Grew P ms q ns r → Grew Q ms q ns r
grew_skip P Q ms q ns r up down g =
    record {
      long = g.long;
      held = g.held;
      kept = g.kept;
      new = λ y h. elim (g.new y h) [ inl a ↦ inl a | inr p ↦ inr (up y p) ];
      all = λ y p. elim (down y p) [ inl a ↦ g.all y a | inr m ↦ m ];
      front = g.front;
      longer = g.longer;
      count = g.count;
    }

-- a mark more
pub marked_set : (ms : List Bool) (w y : ℕ) → w < length ms → Marked (set ms w true) y → Marked ms y ⊎ (y ≡ w)
marked_set ms w y l h = elim (cases_eq y w) [ inl e ↦ inr e | inr n ↦ inl (sym (get_or-set_other ms w y true false n) ∙ h) ]

pub marked_still : (ms : List Bool) (w y : ℕ) → w < length ms → Marked ms y → Marked (set ms w true) y
marked_still ms w y l h = elim (cases_eq y w) [ inl e ↦ ap (λ k. get_or (set ms w true) k false) e ∙ get_or-set_same ms w true false l | inr n ↦ get_or-set_other ms w y true false n ∙ h ]

pub held_more : (ms : List Bool) (q : List ℕ) (w : ℕ) → w < length ms → Held ms q → Held (set ms w true) (q ++ w ∷ [])
held_more ms q w l held y = (
  λ h. elim (marked_set ms w y l h) [ inl m ↦ Contains-append_left q (w ∷ []) y ((held y).0 m) | inr e ↦ subst (Contains (q ++ w ∷ [])) (sym e) (Contains-push q w) ],
  λ c. elim (Contains-push_cases q w y c) [ inl d ↦ marked_still ms w y l ((held y).1 d) | inr e ↦ ap (λ k. get_or (set ms w true) k false) (sym e) ∙ get_or-set_same ms w true false l ],
)

pub unmarked_less : (ms : List Bool) (w : ℕ) → w < length ms → get_or ms w false ≡ false → unmarked (set ms w true) + 1 ≡ unmarked ms
unmarked_less ms w l e = let f : Bool → ℕ = λ b. cond b 0 1 in omega (arith, sum_by-set f ms w true false l, ap f e)

pub grew_mark : (P Q : ℕ → Type 0) → (ms : List Bool) (q : List ℕ) (ns : List Bool) (r : List ℕ) (w : ℕ) → ((y : ℕ) → P y → Q y) → ((y : ℕ) → Q y → P y ⊎ (y ≡ w)) → Q w → w < length ns → get_or ns w false ≡ false → Grew P ms q ns r → Grew Q ms q (set ns w true) (r ++ w ∷ [])
grew_mark P Q ms q ns r w up down here l e g =
    record {
      long = length-set ns w true ∙ g.long;
      held = held_more ns r w l g.held;
      kept = λ y h. marked_still ns w y l (g.kept y h);
      new = λ y h. elim (marked_set ns w y l h) [ inl m ↦ elim (g.new y m) [ inl a ↦ inl a | inr p ↦ inr (up y p) ] | inr s ↦ inr (subst Q (sym s) here) ];
      all = λ y p. elim (down y p) [ inl a ↦ marked_still ns w y l (g.all y a) | inr s ↦ ap (λ k. get_or (set ns w true) k false) s ∙ get_or-set_same ns w true false l ];
      front = λ k h. get_or_append_left r (w ∷ []) 0 k (omega (arith, g.longer)) ∙ g.front k h;
      longer = omega (arith, g.longer, length_push r w);
      count = omega (arith, unmarked_less ns w l e, g.count, length_push r w);
    }
