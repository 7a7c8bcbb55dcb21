-- One item more of a list is done, where what its names refer to is written into it.
use Rattle.std.proofs.Common.{◌≡◌, ◌∙◌, ◌<◌, ◌≤◌, ◌+◌, ℕ, zero, suc, List, [], ◌∷◌, ◌++◌, length, take, drop, Ok, Err, Some, slice_get, slice_set, refl, sym, ap, arith}
use Rattle.std.proofs.lemmas.List.{drop_more, drop-set-lt, take_more_set}
use Rattle.std.proofs.lemmas.Option.{slice_get_within, get_or_from_slice_get}
use Rattle.bq_base.specs.declared.fault.NameFault.{NameFault}
use Rattle.bq_base.specs.declared.fault.Fault.{Fault}
use Rattle.bq_parse_grammar.specs.declared.tree.Clause.{Clause, out-Clause}
use Rattle.bq_parse_grammar.specs.declared.tree.Expr.{Expr}
use Rattle.bq_resolve_scope.specs.Scope.{BlockParts, FileParts}
use Rattle.bq_resolve_scope.specs.Visit.{Passed, Visit, following, each}
use Rattle.bq_resolve_scope.specs.Expressions.{clause_by, clauses}

module _ {A : Type 0} (one : A → Visit A) (xs : List A) (i : ℕ) (x : A) (s : Passed) (is : slice_get xs i ≡ Some x) where
  there : i < length xs
  there = slice_get_within xs i x is

  next : drop i xs ≡ x ∷ drop (i + 1) xs
  next = drop_more xs i x there ∙ ap (λ v. v ∷ drop (i + 1) xs) (get_or_from_slice_get xs i x x is)

  each_at : each one (take i xs) (drop i xs) s ≡ following (one x s) (λ y. each one (take i xs ++ y ∷ []) (drop (i + 1) xs))
  unfolding each
  each_at = ap (λ v. each one (take i xs) v s) next

  -- the item's own walk went on to t
  pub each_more : (y : A) (t : Passed) → one x s ≡ Ok (y, t)
      → each one (take (i + 1) (slice_set xs i y)) (drop (i + 1) (slice_set xs i y)) t ≡ each one (take i xs) (drop i xs) s
  each_more y t h =
      let lt : i < i + 1 = omega arith in
      ap (λ v. each one v (drop (i + 1) (slice_set xs i y)) t) (take_more_set xs i y there) ∙ ap (λ v. each one (take i xs ++ y ∷ []) v t) (drop-set-lt (i + 1) xs i y lt)
      ∙ sym (each_at ∙ ap (λ r. following r (λ z. each one (take i xs ++ z ∷ []) (drop (i + 1) xs))) h)

  -- the item has the first fault
  pub each_fault : (why : Fault NameFault) → one x s ≡ Err why → each one (take i xs) (drop i xs) s ≡ Err why
  each_fault why h = each_at ∙ ap (λ r. following r (λ z. each one (take i xs ++ z ∷ []) (drop (i + 1) xs))) h

-- all are done
all_taken : {A : Type 0} (xs : List A) (i : ℕ) → length xs ≤ i → take i xs ≡ xs
all_taken [] zero h = refl
all_taken [] (suc i) h = refl
all_taken (x ∷ xs) zero h = absurd (omega (arith, h))
all_taken (x ∷ xs) (suc i) h = let l : length xs ≤ i = omega (arith, h) in ap (λ v. x ∷ v) (all_taken xs i l)

none_left : {A : Type 0} (xs : List A) (i : ℕ) → length xs ≤ i → drop i xs ≡ []
none_left [] zero h = refl
none_left [] (suc i) h = refl
none_left (x ∷ xs) zero h = absurd (omega (arith, h))
none_left (x ∷ xs) (suc i) h = let l : length xs ≤ i = omega (arith, h) in none_left xs i l

pub each_end : {A : Type 0} (one : A → Visit A) (xs : List A) (i : ℕ) (s : Passed) → length xs ≤ i → each one (take i xs) (drop i xs) s ≡ Ok (xs, s)
unfolding each
each_end one xs i s h = ap (λ v. each one (take i xs) v s) (none_left xs i h) ∙ ap (λ v. Ok (v, s)) (all_taken xs i h)

-- ---- clauses: the first, and then those after it

pub clauses_none : (file : FileParts) (visit : List BlockParts → Expr → Visit Expr) (round blocks : List BlockParts) (xs : List Clause) (s : Passed) → xs ≡ []
    → clauses file visit round blocks xs s ≡ Ok (xs, s)
unfolding clauses
clauses_none file visit round blocks [] s h = refl
clauses_none file visit round blocks (z ∷ zs) s h = absurd (let no : ⊥ = cc in no)

module _ (file : FileParts) (visit : List BlockParts → Expr → Visit Expr) (round blocks : List BlockParts) where
  -- those that lie inside
  abbrev further : List Clause → List Clause → Visit (List Clause)
  further = each (λ x. clause_by file visit blocks blocks (out-Clause x))

  clauses_at : (xs : List Clause) (x y : Clause) (s : Passed) → slice_get xs 0 ≡ Some x
      → clauses file visit round blocks xs s ≡ following (clause_by file visit round blocks (out-Clause x) s) (λ z. further (z ∷ []) (drop 1 (slice_set xs 0 y)))
  unfolding clauses
  clauses_at [] x y s h = absurd (let no : ⊥ = cc in no)
  clauses_at (z ∷ zs) x y s h =
      let e : z ≡ x = cc in ap (λ v. following (clause_by file visit round blocks (out-Clause v) s) (λ w. further (w ∷ []) zs)) e

  first_taken : (xs : List Clause) (x y : Clause) → slice_get xs 0 ≡ Some x → take 1 (slice_set xs 0 y) ≡ y ∷ []
  first_taken [] x y h = absurd (let no : ⊥ = cc in no)
  first_taken (z ∷ zs) x y h = refl

  -- the first was walked along
  pub clauses_more : (xs : List Clause) (x y : Clause) (s t : Passed) → slice_get xs 0 ≡ Some x → clause_by file visit round blocks (out-Clause x) s ≡ Ok (y, t)
      → clauses file visit round blocks xs s ≡ further (take 1 (slice_set xs 0 y)) (drop 1 (slice_set xs 0 y)) t
  clauses_more xs x y s t is h =
      clauses_at xs x y s is ∙ ap (λ r. following r (λ z. further (z ∷ []) (drop 1 (slice_set xs 0 y)))) h
      ∙ ap (λ v. further v (drop 1 (slice_set xs 0 y)) t) (sym (first_taken xs x y is))

  pub clauses_fault : (xs : List Clause) (x : Clause) (s : Passed) → slice_get xs 0 ≡ Some x
      → (why : Fault NameFault) → clause_by file visit round blocks (out-Clause x) s ≡ Err why → clauses file visit round blocks xs s ≡ Err why
  clauses_fault xs x s is why h =
      clauses_at xs x x s is ∙ ap (λ r. following r (λ z. further (z ∷ []) (drop 1 (slice_set xs 0 x)))) h
