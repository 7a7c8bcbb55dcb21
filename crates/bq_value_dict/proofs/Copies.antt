-- A dict that gets the pairs of another in turn.
use Rattle.std.proofs.Common.{◌≡◌, ◌∙◌, ap, sym, subst, refl, cond, Bool, true, false, ℕ, ◌+◌, List, [], ◌∷◌, ◌++◌, take, drop, Some, None}
use Rattle.std.proofs.lemmas.List.{take-append-drop}
use Rattle.std.proofs.Math.Seq.{take-add}
use Rattle.bq_value_datum.specs.Datum.{Datum}
use Rattle.bq_value_datum.specs.Same.{same}
use Rattle.bq_value_datum.specs.SameLaws.{same-refl, same-true}
use Rattle.bq_value_dict.specs.Pairs.{found, put, HasNoKeyTwice}

abbrev Dict : Type 0
Dict = List (Datum × Datum)

new_by : (k v : Datum) (p : Datum × Datum) (ps : Dict) (b : Bool) → cond b (Some p.1) (found k ps) ≡ None → (found k ps ≡ None → put k v ps ≡ ps ++ (k, v) ∷ [])
    → cond b ((p.0, v) ∷ ps) (p ∷ put k v ps) ≡ p ∷ (ps ++ (k, v) ∷ [])
new_by k v p ps true none h = absurd (cc)
new_by k v p ps false none h = ap (λ r. p ∷ r) (h none)

-- a new key goes last
pub new_last : (k v : Datum) (ps : Dict) → found k ps ≡ None → put k v ps ≡ ps ++ (k, v) ∷ []
new_last k v [] none = refl
new_last k v (p ∷ ps) none = new_by k v p ps (same k p.0) none (new_last k v ps)

some_is_none : (v : Datum) → Some v ≡ None → ⊥
some_is_none v e = cc

there_by : (k v : Datum) (q : Datum × Datum) (rest : Dict) (b : Bool) → (found k rest ≡ None → ⊥) → cond b (Some q.1) (found k rest) ≡ None → ⊥
there_by k v q rest true h none = some_is_none q.1 none
there_by k v q rest false h none = h none

-- a key that is among the pairs is found
there : (k v : Datum) (before after : Dict) → found k (before ++ (k, v) ∷ after) ≡ None → ⊥
there k v [] after none = some_is_none v (sym (ap (λ b. cond b (Some v) (found k after)) (same-refl k)) ∙ none)
there k v (q ∷ before) after none = there_by k v q (before ++ (k, v) ∷ after) (same k q.0) (there k v before after) none

new_key_by : (k v : Datum) (p : Datum × Datum) (ps after : Dict) (b : Bool) → same k p.0 ≡ b → found p.0 (ps ++ (k, v) ∷ after) ≡ None → found k ps ≡ None
    → cond b (Some p.1) (found k ps) ≡ None
new_key_by k v p ps after true e gone rest = absurd (there k v ps after (ap (λ j. found j (ps ++ (k, v) ∷ after)) (same-true k p.0 e) ∙ gone))
new_key_by k v p ps after false e gone rest = rest

-- where no key is twice, the key of a pair isn't found before it
new_key : (k v : Datum) (before after : Dict) → HasNoKeyTwice (before ++ (k, v) ∷ after) → found k before ≡ None
new_key k v [] after once = refl
new_key k v (p ∷ before) after once = new_key_by k v p before after (same k p.0) refl once.0 (new_key k v before after once.1)

-- the pairs up to the next one
pub next_copied : (ps : Dict) (i : ℕ) (p : Datum × Datum) → HasNoKeyTwice ps → drop i ps ≡ p ∷ drop (i + 1) ps → put p.0 p.1 (take i ps) ≡ take (i + 1) ps
next_copied ps i p once at =
    let whole : ps ≡ take i ps ++ p ∷ drop (i + 1) ps = sym (take-append-drop i ps) ∙ ap (λ r. take i ps ++ r) at in
    let new = new_key p.0 p.1 (take i ps) (drop (i + 1) ps) (subst HasNoKeyTwice whole once) in
    new_last p.0 p.1 (take i ps) new ∙ sym (take-add i 1 ps ∙ ap (λ r. take i ps ++ take 1 r) at)
