-- The pair of a key by its index.
use Rattle.std.proofs.Common.{◌≡◌, ◌∙◌, ap, sym, refl, cond, ℕ, zero, suc, ◌+◌, ◌<◌, ◌≤◌, arith, Bool, true, false, List, [], ◌∷◌, ◌++◌, Some, None, length, take, drop, get_or, set}
use Rattle.std.specs.List.{remove}
use Rattle.bq_value_datum.specs.Datum.{Datum}
use Rattle.bq_value_datum.specs.Same.{same}
use Rattle.bq_value_dict.specs.Pairs.{found, put, without, HasNoKeyTwice}
use Rattle.bq_value_dict.specs.Places.{rank}

abbrev Dict : Type 0
Dict = List (Datum × Datum)

found_by : (k : Datum) (p d : Datum × Datum) (ps : Dict) (b : Bool) → cond b 0 (suc (rank k ps)) < suc (length ps) → (rank k ps < length ps → found k ps ≡ Some (get_or ps (rank k ps) d).1)
    → cond b (Some p.1) (found k ps) ≡ Some (get_or (p ∷ ps) (cond b 0 (suc (rank k ps))) d).1
found_by k p d ps true less h = refl
found_by k p d ps false less h = h (omega (arith, less))

pub found_at : (k : Datum) (d : Datum × Datum) (ps : Dict) → rank k ps < length ps → found k ps ≡ Some (get_or ps (rank k ps) d).1
found_at k d [] less = absurd (omega (arith, less))
found_at k d (p ∷ ps) less = found_by k p d ps (same k p.0) less (found_at k d ps)

none_by : (k : Datum) (p : Datum × Datum) (ps : Dict) (b : Bool) → suc (length ps) ≤ cond b 0 (suc (rank k ps)) → (length ps ≤ rank k ps → found k ps ≡ None) → cond b (Some p.1) (found k ps) ≡ None
none_by k p ps true more h = absurd (omega (arith, more))
none_by k p ps false more h = h (omega (arith, more))

pub none_at : (k : Datum) (ps : Dict) → length ps ≤ rank k ps → found k ps ≡ None
none_at k [] more = refl
none_at k (p ∷ ps) more = none_by k p ps (same k p.0) more (none_at k ps)

put_by : (k v : Datum) (p d : Datum × Datum) (ps : Dict) (b : Bool) → cond b 0 (suc (rank k ps)) < suc (length ps)
    → (rank k ps < length ps → put k v ps ≡ set ps (rank k ps) ((get_or ps (rank k ps) d).0, v))
    → cond b ((p.0, v) ∷ ps) (p ∷ put k v ps) ≡ set (p ∷ ps) (cond b 0 (suc (rank k ps))) ((get_or (p ∷ ps) (cond b 0 (suc (rank k ps))) d).0, v)
put_by k v p d ps true less h = refl
put_by k v p d ps false less h = ap (λ r. p ∷ r) (h (omega (arith, less)))

pub put_at : (k v : Datum) (d : Datum × Datum) (ps : Dict) → rank k ps < length ps → put k v ps ≡ set ps (rank k ps) ((get_or ps (rank k ps) d).0, v)
put_at k v d [] less = absurd (omega (arith, less))
put_at k v d (p ∷ ps) less = put_by k v p d ps (same k p.0) less (put_at k v d ps)

without_by : (k : Datum) (p : Datum × Datum) (ps : Dict) (b : Bool) → without k ps ≡ remove ps (rank k ps) → cond b ps (p ∷ without k ps) ≡ remove (p ∷ ps) (cond b 0 (suc (rank k ps)))
without_by k p ps true h = refl
without_by k p ps false h = ap (λ r. p ∷ r) h

pub without_at : (k : Datum) (ps : Dict) → without k ps ≡ remove ps (rank k ps)
without_at k [] = refl
without_at k (p ∷ ps) = without_by k p ps (same k p.0) (without_at k ps)

-- ---- the rank from an index on

-- a pair with the key is the first one
pub here : (k : Datum) (p : Datum × Datum) (rest : Dict) → same k p.0 ≡ true → rank k (p ∷ rest) ≡ 0
here k p rest e = ap (λ c. cond c 0 (suc (rank k rest))) e

pub further : (k : Datum) (p : Datum × Datum) (rest : Dict) → same k p.0 ≡ false → rank k (p ∷ rest) ≡ suc (rank k rest)
further k p rest e = ap (λ c. cond c 0 (suc (rank k rest))) e
