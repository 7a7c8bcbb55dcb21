-- A map of the places of parameters, made from the last one on.
use Rattle.std.proofs.Common.{◌≡◌, ◌∙◌, sym, ap, ℕ, ◌+◌, ◌-◌, ◌<◌, ◌≤◌, cond, List, [], ◌∷◌, drop, map, length, get_or, Some, None, arith}
use Rattle.std.specs.Ordering.{nat_cmp}
use Rattle.std.specs.Borrow.{Bor}
use Rattle.std.specs.Str.{bytes_eq}
use Rattle.std.specs.List.{position_from}
use Rattle.std.specs.Cmp.Lexicographic.{slice_cmp}
use Rattle.std.specs.BTreeMap.{BTreeMap, is_at, Updates}
use Rattle.std.specs.Map.{lookup}
use Rattle.std.proofs.lemmas.Cmp.{nat_list_eq_equiv}
use Rattle.std.proofs.lemmas.List.{at_drop_more, at_drop_all, get_or_default}
use Rattle.std.proofs.lemmas.Map.Text.{btree_map_updates_str}
use Rattle.bq_builtin_machine.specs.declared.parameters.SingleParameter.{SingleParameter}
use Rattle.bq_builtin_machine.specs.Parameters.{ParameterView, parameter_of, is_called, place_in, HasPlaces}

abbrev Places : Type 0
Places = BTreeMap (Bor (List ℕ)) ℕ

-- the parameter before, and those from a place on
one_before : (ps : List SingleParameter) (j : ℕ) (p : SingleParameter) → 0 < j → j ≤ length ps → p ≡ get_or ps (j - 1) p → map parameter_of (drop (j - 1) ps) ≡ parameter_of p ∷ map parameter_of (drop j ps)
one_before ps j p some within is =
    let next : j - 1 + 1 ≡ j = omega (arith, some) in
    at_drop_more (map parameter_of) ps (j - 1) p (omega (arith, some, within))
    ∙ (ap (λ q. parameter_of q ∷ map parameter_of (drop (j - 1 + 1) ps)) (sym is) ∙ ap (λ k. parameter_of p ∷ map parameter_of (drop k ps)) next)

-- past the last parameter an empty map has all of them
pub none_after : (ps : List SingleParameter) (j : ℕ) (m : Places) → length ps ≤ j → m.entries ≡ [] → HasPlaces j (map parameter_of (drop j ps)) m
none_after ps j m past empty name =
    ap (λ es. lookup (is_at (λ k. slice_cmp nat_cmp name k.now)) es) empty
    ∙ sym (at_drop_all (λ qs. position_from (is_called name) j (map parameter_of qs)) ps j past)

without_name : (i : ℕ) (p : SingleParameter) (rest : List ParameterView) (m : Places) (name : List ℕ) → p.name ≡ None → place_in m name ≡ position_from (is_called name) (i + 1) rest → place_in m name ≡ position_from (is_called name) i (parameter_of p ∷ rest)
without_name i p rest m name none has = rw none has

with_name : (i : ℕ) (p : SingleParameter) (k : Bor (List ℕ)) (rest : List ParameterView) (m n : Places) (name : List ℕ) → p.name ≡ Some k → Updates (λ x y. slice_cmp nat_cmp x.now y.now) m n k (Some i) → place_in m name ≡ position_from (is_called name) (i + 1) rest → place_in n name ≡ position_from (is_called name) i (parameter_of p ∷ rest)
with_name i p k rest m n name is updates has =
    rw is
    (btree_map_updates_str k.now m n (Some i) updates name
    ∙ (ap (λ b. cond b (Some i) (place_in m name)) (nat_list_eq_equiv.symm k.now name) ∙ ap (cond (bytes_eq name k.now) (Some i)) has))

-- a parameter that has no name
pub unnamed_before : (ps : List SingleParameter) (j : ℕ) (p : SingleParameter) (m : Places) → 0 < j → j ≤ length ps → p ≡ get_or ps (j - 1) p → p.name ≡ None → HasPlaces j (map parameter_of (drop j ps)) m → HasPlaces (j - 1) (map parameter_of (drop (j - 1) ps)) m
unnamed_before ps j p m some within is none has name =
    let next : j - 1 + 1 ≡ j = omega (arith, some) in
    rw (one_before ps j p some within is) (without_name (j - 1) p (map parameter_of (drop j ps)) m name none (rw next (has name)))

-- a parameter that takes its name from those after it
pub named_before : (ps : List SingleParameter) (j : ℕ) (p : SingleParameter) (k : Bor (List ℕ)) (m n : Places) → 0 < j → j ≤ length ps → p ≡ get_or ps (j - 1) p → p.name ≡ Some k → Updates (λ x y. slice_cmp nat_cmp x.now y.now) m n k (Some (j - 1)) → HasPlaces j (map parameter_of (drop j ps)) m → HasPlaces (j - 1) (map parameter_of (drop (j - 1) ps)) n
named_before ps j p k m n some within is named updates has name =
    let next : j - 1 + 1 ≡ j = omega (arith, some) in
    rw (one_before ps j p some within is) (with_name (j - 1) p k (map parameter_of (drop j ps)) m n name named updates (rw next (has name)))

pub named_at : (ps : List SingleParameter) (j : ℕ) (d : SingleParameter) (k : Bor (List ℕ)) (m n : Places) → 0 < j → j ≤ length ps → (get_or ps (j - 1) d).name ≡ Some k → Updates (λ x y. slice_cmp nat_cmp x.now y.now) m n k (Some (j - 1)) → HasPlaces j (map parameter_of (drop j ps)) m → HasPlaces (j - 1) (map parameter_of (drop (j - 1) ps)) n
named_at ps j d k m n some within named updates has =
    named_before ps j (get_or ps (j - 1) d) k m n some within (get_or_default ps (j - 1) d (get_or ps (j - 1) d) (omega (arith, some, within))) named updates has
