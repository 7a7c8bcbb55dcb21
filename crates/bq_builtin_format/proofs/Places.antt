-- The places of names: the value at the place of a name is the value of the name.
use Rattle.std.proofs.Common.{◌≡◌, ◌∙◌, ◌<◌, length-drop, ℕ, zero, suc, get_or, Bool, true, false, cond, List, [], ◌∷◌, ◌++◌, length, map, take, drop, Option, Some, None, slice_get, position, bytes_eq, refl, sym, ap}
use Rattle.std.specs.Cmp.Lexicographic.{nat_list_eq_equiv}
use Rattle.std.specs.List.{slice_range}
use Rattle.std.specs.Option.{option_map}
use Rattle.std.proofs.lemmas.Option.{slice_get_read}
use Rattle.bq_base_texts.proofs.Positions.{position_cons}
use Rattle.bq_value.specs.Datum.{Datum}
use Rattle.bq_builtin_format.specs.Argument.{named_value, BeginWith}

abbrev pub Pairs : Type 0
Pairs = List (List ℕ × Datum)

abbrev pub names : Pairs → List (List ℕ)
names ps = map (λ p. p.0) ps

pub none_begin : (ps : Pairs) → BeginWith ps []
none_begin ps = refl

taken : {A : Type 0} (xs ys : List A) → take (length xs) (xs ++ ys) ≡ xs
taken [] ys = refl
taken (x ∷ xs) ys = ap (λ zs. x ∷ zs) (taken xs ys)

pub still_begin : (ps : Pairs) (places more : List (List ℕ)) → places ++ more ≡ names ps → BeginWith ps places
still_begin ps places more e = ap (take (length places)) (sym e) ∙ taken places more

-- what is at a place, or else what is after the places
abbrev pub at_or_after : Pairs → ℕ → Option ℕ → List ℕ → Option Datum
at_or_after ps n (Some i) name = option_map (λ p. p.1) (slice_get ps i)
at_or_after ps n None name = named_value name (drop n ps)

next_by : (b : Bool) (p : List ℕ × Datum) (ps : Pairs) (n : ℕ) (o : Option ℕ) (name : List ℕ) → named_value name ps ≡ at_or_after ps n o name
    → cond b (Some p.1) (named_value name ps) ≡ at_or_after (p ∷ ps) (suc n) (cond b (Some 0) (option_map suc o)) name
next_by true p ps n o name h = refl
next_by false p ps n (Some i) name h = h
next_by false p ps n None name h = h

found : (ps : Pairs) (n : ℕ) (name : List ℕ) → named_value name ps ≡ at_or_after ps n (position (bytes_eq name) (take n (names ps))) name
found ps zero name = refl
found [] (suc n) name = refl
found (p ∷ ps) (suc n) name =
    let o : Option ℕ = position (bytes_eq name) (take n (names ps)) in
    ap (λ (b : Bool). cond b (Some p.1) (named_value name ps)) (nat_list_eq_equiv.symm p.0 name)
    ∙ (next_by (bytes_eq name p.0) p ps n o name (found ps n name)
    ∙ ap (λ (o : Option ℕ). at_or_after (p ∷ ps) (suc n) o name) (sym (position_cons (bytes_eq name) p.0 (take n (names ps)))))

pub value_at : (ps : Pairs) (places : List (List ℕ)) (name : List ℕ) (o : Option ℕ) → BeginWith ps places → o ≡ position (bytes_eq name) places → named_value name ps ≡ at_or_after ps (length places) o name
value_at ps places name o b e = found ps (length places) name ∙ ap (λ (q : Option ℕ). at_or_after ps (length places) q name) (ap (position (bytes_eq name)) b ∙ sym e)

pub at_place : (ps : Pairs) (places : List (List ℕ)) (name : List ℕ) (i : ℕ) (x : List ℕ × Datum) → BeginWith ps places → Some i ≡ position (bytes_eq name) places → (i < length ps) × ((d : List ℕ × Datum) → x ≡ get_or ps i d) → Some x.1 ≡ named_value name ps
at_place ps places name i x b e at = sym (value_at ps places name (Some i) b e ∙ ap (option_map (λ p. p.1)) (slice_get_read ps (length ps) i x refl (at.0) (at.1 x)))

whole : {A : Type 0} (xs : List A) → take (length xs) xs ≡ xs
whole [] = refl
whole (x ∷ xs) = ap (λ ys. x ∷ ys) (whole xs)

to_end : {A : Type 0} (xs : List A) (n : ℕ) → slice_range xs n (length xs) ≡ drop n xs
to_end xs n = ap (λ (k : ℕ). take k (drop n xs)) (sym (length-drop n xs)) ∙ whole (drop n xs)

pub past_places : (ps : Pairs) (places : List (List ℕ)) (name : List ℕ) (n : ℕ) (rest : Pairs) → BeginWith ps places → None ≡ position (bytes_eq name) places → n ≡ length places → rest ≡ slice_range ps n (length ps) → named_value name rest ≡ named_value name ps
past_places ps places name n rest b e len is =
    ap (named_value name) (is ∙ (to_end ps n ∙ ap (λ (k : ℕ). drop k ps) len)) ∙ sym (value_at ps places name None b e)
