-- An edge is in the list exactly where one target depends on another.
use Rattle.std.proofs.Common.{◌≡◌, ◌<◌, ◌+◌, ◌∙◌, ◌↔◌, ℕ, zero, suc, Bool, true, false, cond, nat_lt, List, [], ◌∷◌, Option, Some, None, length, position, slice_get, get_or, refl, sym, ap, subst, inl, inr, arith}
use Rattle.std.specs.List.{AllByRecursion, Contains, IsDistinct, position_or_len}
use Rattle.std.proofs.lemmas.Bool.Decides.{nat_tests}
use Rattle.std.proofs.lemmas.List.Elements.{Contains-append_cases, Contains-append_left, Contains-append_right, All-from_recursion}
use Rattle.std.proofs.lemmas.List.Quantifiers.{position-Some}
use Rattle.std.proofs.lemmas.Map.Keys.{apart_from_distinct}
use Rattle.bq_label.specs.Label.{LabelParts}
use Rattle.bq_label.proofs.Orders.{at_head, in_tail, head_or_tail}
use Rattle.bq_query_graph.specs.Edges.{Edge, HasEdge, AreBetween}
use Rattle.bq_package_target.specs.declared.target.Target.{Target}
use Rattle.bq_label_set.specs.Labels.{same_label, same_label-Decides, same_label-equiv}
use Rattle.bq_query_target_graph.specs.Order.{target_labels}
use Rattle.bq_query_target_graph.specs.Edges.{DependsOn, looked_up, edge_by, edges_to, edges_from}
use Rattle.bq_query_target_graph.proofs.Repeats.{in_flat, flat_in, is_looked_up}

none_in : {X : Type 0} (z : X) → Contains [] z → ⊥
none_in z c = omega arith

-- ---- one edge

abbrev edge_of : ℕ → ℕ → Edge
edge_of a b = record { from = a; to = b }

edge_is : (a : ℕ) (o : Option ℕ) (e : Edge) → Contains (edge_by a o) e → (o ≡ Some e.to) × (e.from ≡ a)
edge_is a None e c = absurd (none_in e c)
edge_is a (Some b) e c = elim (head_or_tail (edge_of a b) [] e c) [
  | inl same ↦ (ap (λ (x : Edge). Some x.to) same, sym (ap (λ (x : Edge). x.from) same))
  | inr never ↦ absurd (none_in e never)
]

there_is : (a b : ℕ) (o : Option ℕ) → o ≡ Some b → Contains (edge_by a o) (record { from = a; to = b })
there_is a b o e = rw e (at_head (record { from = a; to = b }) [])

-- ---- the number of a label

no_target : (t : Target) → None ≡ Some t → ⊥
no_target t e = cc

same_target : (x t : Target) → Some x ≡ Some t → x ≡ t
same_target x t e = cc

record IsAt (ts : List Target) (l : LabelParts) (b : ℕ) : Type 0 where
  target : Target
  at : slice_get ts b ≡ Some target
  label : target.label ≡ l

at_number : (ts : List Target) (l d : LabelParts) (b : ℕ) → b < length (target_labels ts) → same_label l (get_or (target_labels ts) b d) ≡ true → IsAt ts l b
at_number [] l d b h e = absurd (omega arith)
at_number (t ∷ ts) l d zero h e = record { target = t; at = refl; label = sym ((same_label-Decides l t.label).0 e) }
at_number (t ∷ ts) l d (suc b) h e =
    let r = at_number ts l d b (omega arith) e in
    record { target = r.target; at = r.at; label = r.label }

numbered : (ts : List Target) (l : LabelParts) (b : ℕ) → position (same_label l) (target_labels ts) ≡ Some b → IsAt ts l b
numbered ts l b h =
    let p = position-Some (same_label l) (target_labels ts) b l h in
    at_number ts l l b p.0 p.1

not_before : (p : LabelParts → Bool) (xs : List LabelParts) (b : ℕ) (d : LabelParts) → b < length xs → p (get_or xs b d) ≡ true → ((k : ℕ) → k < b → p (get_or xs k d) ≡ false) → position_or_len p xs ≡ b
not_before p [] b d h e f = absurd (omega arith)
not_before p (x ∷ xs) zero d h e f = rw e refl
not_before p (x ∷ xs) (suc b) d h e f =
    let other : p x ≡ false = f zero (omega arith) in
    let rest : position_or_len p xs ≡ b = not_before p xs b d (omega arith) e (λ k l. f (suc k) (omega arith)) in
    let one : 1 + position_or_len p xs ≡ suc b = omega arith in
    rw other one

label_at_number : (ts : List Target) (b : ℕ) (t : Target) (d : LabelParts) → slice_get ts b ≡ Some t → (b < length (target_labels ts)) × (get_or (target_labels ts) b d ≡ t.label)
label_at_number [] b t d e = absurd (no_target t e)
label_at_number (x ∷ ts) zero t d e = (omega arith, ap (λ (z : Target). z.label) (same_target x t e))
label_at_number (x ∷ ts) (suc b) t d e = let r = label_at_number ts b t d e in (omega (arith, r.0), r.1)

pub the_number : (ts : List Target) (b : ℕ) (t : Target) → IsDistinct same_label (target_labels ts) → slice_get ts b ≡ Some t → position (same_label t.label) (target_labels ts) ≡ Some b
the_number ts b t d e =
    let ls : List LabelParts = target_labels ts in
    let r = label_at_number ts b t t.label e in
    let here : same_label t.label (get_or ls b t.label) ≡ true = (same_label-Decides t.label (get_or ls b t.label)).1 (sym r.1) in
    let apart : (k : ℕ) → k < b → same_label t.label (get_or ls k t.label) ≡ false =
    λ k l. same_label-equiv.symm t.label (get_or ls k t.label) ∙ (ap (λ (z : LabelParts). same_label (get_or ls k t.label) z) (sym r.1) ∙ apart_from_distinct same_label ls k b t.label d l r.0) in
    let place : position_or_len (same_label t.label) ls ≡ b = not_before (same_label t.label) ls b t.label r.0 here apart in
    let room : nat_lt b (length ls) ≡ true = let h : b < length ls = r.0 in grind (arith, nat_tests) in
    found (position_or_len (same_label t.label) ls) (length ls) b place room
  where
    found : (n m b : ℕ) → n ≡ b → nat_lt b m ≡ true → cond (nat_lt n m) (Some n) None ≡ Some b
    found n m b e h = rw (e, h) refl

-- ---- the edges of all

record IsFrom (ls : List LabelParts) (a : ℕ) (ts : List Target) (e : Edge) : Type 0 where
  place : ℕ
  source : Target
  at : slice_get ts place ≡ Some source
  from : e.from ≡ a + place
  inside : Contains (edges_to ls e.from (looked_up source)) e

from_of : (ls : List LabelParts) (a : ℕ) (named : List LabelParts) (e : Edge) → Contains (edges_to ls a named) e → e.from ≡ a
from_of ls a named e c = let r = in_flat (λ (l : LabelParts). edge_by a (position (same_label l) ls)) named e c in (edge_is a (position (same_label r.part) ls) e r.inside).1

in_edges : (ls : List LabelParts) (a : ℕ) (ts : List Target) (e : Edge) → Contains (edges_from ls a ts) e → IsFrom ls a ts e
unfolding edges_from
in_edges ls a [] e c = absurd (none_in e c)
in_edges ls a (t ∷ ts) e c = elim (Contains-append_cases (edges_to ls a (looked_up t)) (edges_from ls (a + 1) ts) e c) [
  | inl here ↦
      let f : e.from ≡ a = from_of ls a (looked_up t) e here in
      record { place = 0; source = t; at = refl; from = omega (arith, f); inside = subst (λ (n : ℕ). Contains (edges_to ls n (looked_up t)) e) (sym f) here }
  | inr later ↦
      let r = in_edges ls (a + 1) ts e later in
      record { place = suc r.place; source = r.source; at = r.at; from = omega (arith, r.from); inside = r.inside }
]

edges_in : (ls : List LabelParts) (a : ℕ) (ts : List Target) (i : ℕ) (t : Target) (e : Edge) → slice_get ts i ≡ Some t → Contains (edges_to ls (a + i) (looked_up t)) e → Contains (edges_from ls a ts) e
unfolding edges_from
edges_in ls a [] i t e g c = absurd (no_target t g)
edges_in ls a (x ∷ ts) zero t e g c =
    let same : x ≡ t = same_target x t g in
    let zero_more : a + 0 ≡ a = omega arith in
    let here : Contains (edges_to ls a (looked_up x)) e = subst (λ (z : Target). Contains (edges_to ls a (looked_up z)) e) (sym same) (subst (λ (n : ℕ). Contains (edges_to ls n (looked_up t)) e) zero_more c) in
    Contains-append_left (edges_to ls a (looked_up x)) (edges_from ls (a + 1) ts) e here
edges_in ls a (x ∷ ts) (suc i) t e g c =
    let one_more : a + suc i ≡ (a + 1) + i = omega arith in
    Contains-append_right (edges_to ls a (looked_up x)) (edges_from ls (a + 1) ts) e (edges_in ls (a + 1) ts i t e g (subst (λ (n : ℕ). Contains (edges_to ls n (looked_up t)) e) one_more c))

module _ (ts : List Target) (d : IsDistinct same_label (target_labels ts)) where
  depends : (e : Edge) → Contains (edges_from (target_labels ts) 0 ts) e → DependsOn ts e.from e.to
  depends e c =
      let r = in_edges (target_labels ts) 0 ts e c in
      let q = in_flat (λ (l : LabelParts). edge_by e.from (position (same_label l) (target_labels ts))) (looked_up r.source) e r.inside in
      let n = edge_is e.from (position (same_label q.part) (target_labels ts)) e q.inside in
      let k = numbered ts q.part e.to n.0 in
      let same : r.place ≡ e.from = omega (arith, r.from) in
      record {
        source = r.source;
        from = subst (λ (i : ℕ). slice_get ts i ≡ Some r.source) same r.at;
        target = k.target;
        to = k.at;
        named = (is_looked_up r.source k.target.label).1 (subst (λ (l : LabelParts). Contains (looked_up r.source) l) (sym k.label) q.known);
      }

  listed : (a b : ℕ) → DependsOn ts a b → Contains (edges_from (target_labels ts) 0 ts) (record { from = a; to = b })
  listed a b p =
      let there : Contains (edge_by a (position (same_label p.target.label) (target_labels ts))) (record { from = a; to = b }) = there_is a b (position (same_label p.target.label) (target_labels ts)) (the_number ts b p.target d p.to) in
      let all : Contains (edges_to (target_labels ts) a (looked_up p.source)) (record { from = a; to = b }) =
      flat_in (λ (l : LabelParts). edge_by a (position (same_label l) (target_labels ts))) (looked_up p.source) p.target.label (record { from = a; to = b }) ((is_looked_up p.source p.target.label).0 p.named) there in
      let none_more : a ≡ 0 + a = omega arith in
      edges_in (target_labels ts) 0 ts a p.source (record { from = a; to = b }) p.from (subst (λ (n : ℕ). Contains (edges_to (target_labels ts) n (looked_up p.source)) (record { from = a; to = b })) none_more all)

  pub edges_are : (a b : ℕ) → HasEdge (edges_from (target_labels ts) 0 ts) a b ↔ DependsOn ts a b
  edges_are a b = (λ c. depends (record { from = a; to = b }) c, λ p. listed a b p)

within : (ts : List Target) (i : ℕ) (t : Target) → slice_get ts i ≡ Some t → i < length ts
within [] i t e = absurd (no_target t e)
within (x ∷ ts) zero t e = omega arith
within (x ∷ ts) (suc i) t e = let r = within ts i t e in omega (arith, r)

all_of : {X : Type 0} (P : X → Type 0) (xs : List X) → ((x : X) → Contains xs x → P x) → AllByRecursion P xs
all_of P [] f = tt
all_of P (x ∷ xs) f = (f x (at_head x xs), all_of P xs (λ z c. f z (in_tail x xs z c)))

pub are_between : (ts : List Target) → IsDistinct same_label (target_labels ts) → AreBetween (length ts) (edges_from (target_labels ts) 0 ts)
are_between ts d = All-from_recursion (λ (e : Edge). (e.from < length ts) × (e.to < length ts)) (edges_from (target_labels ts) 0 ts) (all_of (λ (e : Edge). (e.from < length ts) × (e.to < length ts)) (edges_from (target_labels ts) 0 ts) (λ e c.
    let p = depends ts d e c in
    (within ts e.from p.source p.from, within ts e.to p.target p.to)))
