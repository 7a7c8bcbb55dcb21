-- What a dict has after pairs were put into it.
use Rattle.std.proofs.Common.{◌≡◌, ◌∙◌, sym, refl, ap, Bool, true, false, cond, is_some, List, [], ◌∷◌, ◌++◌, reverse, append_assoc, Option, Some, None}
use Rattle.std.proofs.lemmas.List.{reverse-append}
use Rattle.bq_value.specs.Datum.{Datum}
use Rattle.bq_value.specs.Same.{same}
use Rattle.bq_value.specs.SameLaws.{same-true}
use Rattle.bq_value.specs.Pairs.{found, put, keys}
use Rattle.bq_value.proofs.Puts.{found_put, other_put, keys_put}
use Rattle.bq_builtin_operators.specs.Union.{put_all, or_else}
use Rattle.bq_builtin_methods.specs.CollectionLaws.{Dict, KeepsPlaces}

else_assoc : (a b c : Option Datum) → or_else (or_else a b) c ≡ or_else a (or_else b c)
else_assoc None b c = refl
else_assoc (Some v) b c = refl

found_append_by : (k : Datum) (p : Datum × Datum) (ps qs : Dict) (b : Bool) → found k (ps ++ qs) ≡ or_else (found k ps) (found k qs) → cond b (Some p.1) (found k (ps ++ qs)) ≡ or_else (cond b (Some p.1) (found k ps)) (found k qs)
found_append_by k p ps qs true h = refl
found_append_by k p ps qs false h = h

found_append : (k : Datum) (ps qs : Dict) → found k (ps ++ qs) ≡ or_else (found k ps) (found k qs)
found_append k [] qs = refl
found_append k (p ∷ ps) qs = found_append_by k p ps qs (same k p.0) (found_append k ps qs)

-- a pair that is put comes before what was there
found_after_put : (k : Datum) (q : Datum × Datum) (ps : Dict) (b : Bool) → same k q.0 ≡ b → found k (put q.0 q.1 ps) ≡ or_else (cond b (Some q.1) None) (found k ps)
found_after_put k q ps true e = ap (λ (j : Datum). found j (put q.0 q.1 ps)) (same-true k q.0 e) ∙ found_put q.0 q.1 ps
found_after_put k q ps false e = other_put k q.0 q.1 ps e

pub found_last : (k : Datum) (ps qs : Dict) → found k (put_all ps qs) ≡ or_else (found k (reverse qs)) (found k ps)
found_last k ps [] = refl
found_last k ps (q ∷ qs) =
    let here : found k (put q.0 q.1 ps) ≡ or_else (found k (q ∷ [])) (found k ps) = found_after_put k q ps (same k q.0) refl in
    let last : found k (reverse (q ∷ qs)) ≡ or_else (found k (reverse qs)) (found k (q ∷ [])) =
    ap (found k) (reverse-append (q ∷ []) qs) ∙ found_append k (reverse qs) (q ∷ []) in
    found_last k (put q.0 q.1 ps) qs
    ∙ ap (or_else (found k (reverse qs))) here
    ∙ sym (else_assoc (found k (reverse qs)) (found k (q ∷ [])) (found k ps))
    ∙ ap (λ (o : Option Datum). or_else o (found k ps)) (sym last)

append_nothing : (xs : List Datum) → xs ≡ xs ++ []
append_nothing [] = refl
append_nothing (x ∷ xs) = ap (λ ys. x ∷ ys) (append_nothing xs)

kept_by : (k : Datum) (before after : Dict) (b : Bool) → keys after ≡ cond b (keys before) (keys before ++ k ∷ []) → KeepsPlaces before after
kept_by k before after true e = record { more = []; keys_after = e ∙ append_nothing (keys before) }
kept_by k before after false e = record { more = k ∷ []; keys_after = e }

put_keeps : (k v : Datum) (ps : Dict) → KeepsPlaces ps (put k v ps)
put_keeps k v ps = kept_by k ps (put k v ps) (is_some (found k ps)) (keys_put k v ps)

keeps_on : (a b c : Dict) → KeepsPlaces a b → KeepsPlaces b c → KeepsPlaces a c
keeps_on a b c first next = record { more = first.more ++ next.more; keys_after = next.keys_after ∙ ap (λ ks. ks ++ next.more) first.keys_after ∙ append_assoc (keys a) first.more next.more }

pub places_kept : (ps qs : Dict) → KeepsPlaces ps (put_all ps qs)
places_kept ps [] = record { more = []; keys_after = append_nothing (keys ps) }
places_kept ps (q ∷ qs) = keeps_on ps (put q.0 q.1 ps) (put_all (put q.0 q.1 ps) qs) (put_keeps q.0 q.1 ps) (places_kept (put q.0 q.1 ps) qs)
