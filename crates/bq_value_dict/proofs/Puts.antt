-- What a dict has after a pair was put into it or taken out of it.
use Rattle.std.proofs.Common.{◌≡◌, ◌∙◌, ap, sym, refl, cond, Bool, true, false, List, [], ◌∷◌, ◌++◌, Some, None, is_some}
use Rattle.bq_value_datum.specs.Datum.{Datum}
use Rattle.bq_value_datum.specs.Same.{same}
use Rattle.bq_value_datum.specs.SameLaws.{same-refl, same-true, same_apart}
use Rattle.bq_value_dict.specs.Pairs.{found, put, without, keys, TakenOut, HasNoKeyTwice}

abbrev Dict : Type 0
Dict = List (Datum × Datum)

found_put_by : (k v : Datum) (p : Datum × Datum) (ps : Dict) (b : Bool) → same k p.0 ≡ b → found k (put k v ps) ≡ Some v → found k (cond b ((p.0, v) ∷ ps) (p ∷ put k v ps)) ≡ Some v
found_put_by k v p ps true e h = ap (λ b. cond b (Some v) (found k ps)) e
found_put_by k v p ps false e h = ap (λ b. cond b (Some p.1) (found k (put k v ps))) e ∙ h

pub found_put : (k v : Datum) (ps : Dict) → found k (put k v ps) ≡ Some v
found_put k v [] = ap (λ b. cond b (Some v) None) (same-refl k)
found_put k v (p ∷ ps) = found_put_by k v p ps (same k p.0) refl (found_put k v ps)

other_put_by : (j k v : Datum) (p : Datum × Datum) (ps : Dict) (b : Bool) → same k p.0 ≡ b → same j k ≡ false → found j (put k v ps) ≡ found j ps
    → found j (cond b ((p.0, v) ∷ ps) (p ∷ put k v ps)) ≡ found j (p ∷ ps)
other_put_by j k v p ps true e apart h =
    let at : same j p.0 ≡ false = ap (same j) (sym (same-true k p.0 e)) ∙ apart in
    ap (λ b. cond b (Some v) (found j ps)) at ∙ sym (ap (λ b. cond b (Some p.1) (found j ps)) at)
other_put_by j k v p ps false e apart h = ap (λ o. cond (same j p.0) (Some p.1) o) h

pub other_put : (j k v : Datum) (ps : Dict) → same j k ≡ false → found j (put k v ps) ≡ found j ps
other_put j k v [] apart = ap (λ b. cond b (Some v) None) apart
other_put j k v (p ∷ ps) apart = other_put_by j k v p ps (same k p.0) refl apart (other_put j k v ps apart)

cons_cond : (x : Datum) (b : Bool) (xs ys : List Datum) → x ∷ cond b xs ys ≡ cond b (x ∷ xs) (x ∷ ys)
cons_cond x true xs ys = refl
cons_cond x false xs ys = refl

keys_put_by : (k v : Datum) (p : Datum × Datum) (ps : Dict) (b : Bool) → keys (put k v ps) ≡ cond (is_some (found k ps)) (keys ps) (keys ps ++ k ∷ [])
    → keys (cond b ((p.0, v) ∷ ps) (p ∷ put k v ps)) ≡ cond (is_some (cond b (Some p.1) (found k ps))) (keys (p ∷ ps)) (keys (p ∷ ps) ++ k ∷ [])
keys_put_by k v p ps true h = refl
keys_put_by k v p ps false h = ap (λ ks. p.0 ∷ ks) h ∙ cons_cond p.0 (is_some (found k ps)) (keys ps) (keys ps ++ k ∷ [])

pub keys_put : (k v : Datum) (ps : Dict) → keys (put k v ps) ≡ cond (is_some (found k ps)) (keys ps) (keys ps ++ k ∷ [])
keys_put k v [] = refl
keys_put k v (p ∷ ps) = keys_put_by k v p ps (same k p.0) (keys_put k v ps)

taken_behind : (k v : Datum) (p : Datum × Datum) (ps rest : Dict) → TakenOut k v ps rest → TakenOut k v (p ∷ ps) (p ∷ rest)
taken_behind k v p ps rest t = record { before = p ∷ t.before; after = t.after; was = ap (λ r. p ∷ r) t.was; left = ap (λ r. p ∷ r) t.left }

some_same : (v w : Datum) → Some v ≡ Some w → v ≡ w
some_same v w e = cc

taken_by : (k v : Datum) (p : Datum × Datum) (ps : Dict) (b : Bool) → same k p.0 ≡ b → cond b (Some p.1) (found k ps) ≡ Some v → (found k ps ≡ Some v → TakenOut k v ps (without k ps))
    → TakenOut k v (p ∷ ps) (cond b ps (p ∷ without k ps))
taken_by k v p ps true e f h =
    let key = same-true k p.0 e in
    let value = some_same p.1 v f in
    record { before = []; after = ps; was = λ i. (sym key i, value i) ∷ ps; left = refl }
taken_by k v p ps false e f h = taken_behind k v p ps (without k ps) (h f)

pub taken : (k v : Datum) (ps : Dict) → found k ps ≡ Some v → TakenOut k v ps (without k ps)
taken k v [] f = absurd (cc)
taken k v (p ∷ ps) f = taken_by k v p ps (same k p.0) refl f (taken k v ps)

absent_by : (k : Datum) (p : Datum × Datum) (ps : Dict) (b : Bool) → cond b (Some p.1) (found k ps) ≡ None → (found k ps ≡ None → without k ps ≡ ps) → cond b ps (p ∷ without k ps) ≡ p ∷ ps
absent_by k p ps true f h = cc
absent_by k p ps false f h = ap (λ r. p ∷ r) (h f)

pub absent : (k : Datum) (ps : Dict) → found k ps ≡ None → without k ps ≡ ps
absent k [] f = refl
absent k (p ∷ ps) f = absent_by k p ps (same k p.0) f (absent k ps)

-- two keys differ both ways
turned : (j k : Datum) → same j k ≡ false → same k j ≡ false
turned j k e = same_apart k j (λ is. no (sym (same-refl j) ∙ (ap (same j) (sym is) ∙ e)))
  where
    no : true ≡ false → ⊥
    no e = cc

once_put_by : (k v : Datum) (p : Datum × Datum) (ps : Dict) (b : Bool) → same k p.0 ≡ b → HasNoKeyTwice (p ∷ ps) → HasNoKeyTwice (put k v ps)
    → HasNoKeyTwice (cond b ((p.0, v) ∷ ps) (p ∷ put k v ps))
once_put_by k v p ps true e once more = once
once_put_by k v p ps false e once more = (other_put p.0 k v ps (turned k p.0 e) ∙ once.0, more)

-- a pair that is put makes no key stand twice
pub once_put : (k v : Datum) (ps : Dict) → HasNoKeyTwice ps → HasNoKeyTwice (put k v ps)
once_put k v [] once = (refl, tt)
once_put k v (p ∷ ps) once = once_put_by k v p ps (same k p.0) refl once (once_put k v ps once.1)

not_first : (j : Datum) (p : Datum × Datum) (rest new : Dict) (b : Bool) → cond b (Some p.1) (found j rest) ≡ None → (found j rest ≡ None → found j new ≡ None) → cond b (Some p.1) (found j new) ≡ None
not_first j p rest new true e h = cc
not_first j p rest new false e h = h e

rest_absent : (j : Datum) (p : Datum × Datum) (rest : Dict) (b : Bool) → cond b (Some p.1) (found j rest) ≡ None → found j rest ≡ None
rest_absent j p rest true e = absurd (cc)
rest_absent j p rest false e = e

absent_without_by : (j k : Datum) (p : Datum × Datum) (ps : Dict) (b : Bool) → found j (p ∷ ps) ≡ None → (found j ps ≡ None → found j (without k ps) ≡ None)
    → found j (cond b ps (p ∷ without k ps)) ≡ None
absent_without_by j k p ps true e h = rest_absent j p ps (same j p.0) e
absent_without_by j k p ps false e h = not_first j p ps (without k ps) (same j p.0) e h

-- what isn't there is not there either once another key is taken out
absent_without : (j k : Datum) (ps : Dict) → found j ps ≡ None → found j (without k ps) ≡ None
absent_without j k [] e = refl
absent_without j k (p ∷ ps) e = absent_without_by j k p ps (same k p.0) e (absent_without j k ps)

once_without_by : (k : Datum) (p : Datum × Datum) (ps : Dict) (b : Bool) → HasNoKeyTwice (p ∷ ps) → HasNoKeyTwice (without k ps) → HasNoKeyTwice (cond b ps (p ∷ without k ps))
once_without_by k p ps true once more = once.1
once_without_by k p ps false once more = (absent_without p.0 k ps once.0, more)

pub once_without : (k : Datum) (ps : Dict) → HasNoKeyTwice ps → HasNoKeyTwice (without k ps)
once_without k [] once = tt
once_without k (p ∷ ps) once = once_without_by k p ps (same k p.0) once (once_without k ps once.1)
