-- Few arguments, which no dict holds, are those that a dict would hold.
use Rattle.std.proofs.Common.{◌≡◌, ◌<◌, ◌≤◌, ◌+◌, ◌∙◌, ℕ, suc, Bool, true, false, not, cond, ◌&&◌, ◌||◌, List, [], ◌∷◌, ◌++◌, Option, Some, None, Ok, Err, length, take, drop, get_or, refl, sym, ap, arith, append_assoc, append-nil}
use Rattle.std.specs.Option.{is_some}
use Rattle.std.specs.Bool.{nat_le}
use Rattle.std.proofs.Math.Dec.{leb-suc-zero}
use Rattle.std.proofs.lemmas.List.{drop_more, drop_all, take_more, map-append}
use Rattle.bq_base.specs.declared.fault.EvalFault.TheVariants.{Args}
use Rattle.bq_value.specs.Datum.{Datum, string}
use Rattle.bq_value.specs.Pairs.{found, put}
use Rattle.bq_builtin_machine.specs.Args.{Passed}
use Rattle.bq_builtin_machine.specs.Binding.{BoundView, take_keyword, take_named, take_all_named, and_bind, if_complete, placed, bind}
use Rattle.bq_package_values.specs.Steps.{and_then}
use Rattle.bq_package_attributes.specs.Declarations.{keywords_alone}
use Rattle.bq_package_attributes.specs.KeywordArguments.{pair_of, pairs, are_new}
use Rattle.bq_package_attributes.proofs.GivenKeywords.{put_new}

abbrev with_pairs : BoundView → List (Datum × Datum) → BoundView
with_pairs b ps = record b { keywords = ps }

-- ---- all arguments are new

new_by : (a : List ℕ × Datum) (named : List (List ℕ × Datum)) (b : BoundView) (there : Option Datum) → found (string a.0) b.keywords ≡ there
    → (are_new (b.keywords ++ pair_of a ∷ []) named ≡ true → take_all_named keywords_alone named (with_pairs b (b.keywords ++ pair_of a ∷ [])) ≡ Ok (with_pairs b ((b.keywords ++ pair_of a ∷ []) ++ pairs named)))
    → (not (is_some there) && are_new (b.keywords ++ pair_of a ∷ []) named) ≡ true
    → and_bind (cond (is_some there) (Err Args) (Ok (with_pairs b (put (string a.0) a.1 b.keywords)))) (take_all_named keywords_alone named) ≡ Ok (with_pairs b (b.keywords ++ pairs (a ∷ named)))
new_by a named b (Some w) is later h = absurd (cc)
new_by a named b None is later h =
    ap (λ (ps : List (Datum × Datum)). take_all_named keywords_alone named (with_pairs b ps)) (put_new (string a.0) a.1 b.keywords is)
    ∙ (later h ∙ ap (λ (ps : List (Datum × Datum)). Ok (with_pairs b ps)) (append_assoc b.keywords (pair_of a ∷ []) (pairs named)))

all_new : (named : List (List ℕ × Datum)) (b : BoundView) → are_new b.keywords named ≡ true → take_all_named keywords_alone named b ≡ Ok (with_pairs b (b.keywords ++ pairs named))
unfolding are_new take_all_named take_named take_keyword
all_new [] b h = ap (λ (ps : List (Datum × Datum)). Ok (with_pairs b ps)) (sym (append-nil b.keywords))
all_new (a ∷ named) b h = new_by a named b (found (string a.0) b.keywords) refl (all_new named (with_pairs b (b.keywords ++ pair_of a ∷ []))) h

-- ---- one has the name of one before it

old_by : (a : List ℕ × Datum) (named : List (List ℕ × Datum)) (b : BoundView) (there : Option Datum) → found (string a.0) b.keywords ≡ there
    → (are_new (b.keywords ++ pair_of a ∷ []) named ≡ false → take_all_named keywords_alone named (with_pairs b (b.keywords ++ pair_of a ∷ [])) ≡ Err Args)
    → (not (is_some there) && are_new (b.keywords ++ pair_of a ∷ []) named) ≡ false
    → and_bind (cond (is_some there) (Err Args) (Ok (with_pairs b (put (string a.0) a.1 b.keywords)))) (take_all_named keywords_alone named) ≡ Err Args
old_by a named b (Some w) is later h = refl
old_by a named b None is later h =
    ap (λ (ps : List (Datum × Datum)). take_all_named keywords_alone named (with_pairs b ps)) (put_new (string a.0) a.1 b.keywords is) ∙ later h

one_old : (named : List (List ℕ × Datum)) (b : BoundView) → are_new b.keywords named ≡ false → take_all_named keywords_alone named b ≡ Err Args
unfolding are_new take_all_named take_named take_keyword
one_old [] b h = absurd (cc)
one_old (a ∷ named) b h = old_by a named b (found (string a.0) b.keywords) refl (one_old named (with_pairs b (b.keywords ++ pair_of a ∷ []))) h

-- ---- the call

abbrev keywords_bound : Passed → Type 0
keywords_bound p = and_then (bind keywords_alone p) (λ b. Ok b.keywords) ≡ Ok (pairs p.named)

abbrev none_bound : Passed → Type 0
none_bound p = and_then (bind keywords_alone p) (λ b. Ok b.keywords) ≡ Err Args

pub few_bound : (p : Passed) → length p.positional ≡ 0 → are_new [] p.named ≡ true → and_then (bind keywords_alone p) (λ b. Ok b.keywords) ≡ Ok (pairs p.named)
unfolding bind
few_bound p e h = by p.positional e
  where
    by : (xs : List Datum) → length xs ≡ 0 → keywords_bound (record p { positional = xs })
    by [] e = rw (all_new p.named (placed keywords_alone []) h) refl
    by (x ∷ xs) e = absurd (omega (arith, e))

-- one positional argument is one too many
too_long : (p : Passed) (x : Datum) (xs : List Datum) → none_bound (record p { positional = x ∷ xs })
unfolding bind
too_long p x xs =
    let long : nat_le (suc (length xs)) 0 ≡ false = leb-suc-zero (length xs) in
    ap (λ (few : Bool). and_then (cond (not (false || few)) (Err Args) (and_bind (take_all_named keywords_alone p.named (placed keywords_alone (x ∷ xs))) (if_complete keywords_alone))) (λ b. Ok b.keywords)) long

pub positional_refused : (p : Passed) → 0 < length p.positional → and_then (bind keywords_alone p) (λ b. Ok b.keywords) ≡ Err Args
positional_refused p e = by p.positional e
  where
    by : (xs : List Datum) → 0 < length xs → none_bound (record p { positional = xs })
    by [] e = absurd (omega (arith, e))
    by (x ∷ xs) e = too_long p x xs

pub double_refused : (p : Passed) → are_new [] p.named ≡ false → and_then (bind keywords_alone p) (λ b. Ok b.keywords) ≡ Err Args
unfolding bind
double_refused p h = by p.positional
  where
    by : (xs : List Datum) → none_bound (record p { positional = xs })
    by [] = rw (one_old p.named (placed keywords_alone []) h) refl
    by (x ∷ xs) = too_long p x xs

-- ---- the steps of the walk

pub new_next : (named : List (List ℕ × Datum)) (at : ℕ) (a : List ℕ × Datum) → at < length named → a ≡ get_or named at a → is_some (found (string a.0) (pairs (take at named))) ≡ false
    → are_new (pairs (take at named)) (drop at named) ≡ are_new (pairs (take (at + 1) named)) (drop (at + 1) named)
unfolding are_new
new_next named at a h e n =
    let rest : drop at named ≡ a ∷ drop (at + 1) named = drop_more named at a h ∙ ap (λ (z : List ℕ × Datum). z ∷ drop (at + 1) named) (sym e) in
    let front : take (at + 1) named ≡ take at named ++ a ∷ [] = take_more named at a h ∙ ap (λ (z : List ℕ × Datum). take at named ++ z ∷ []) (sym e) in
    let grown : pairs (take (at + 1) named) ≡ pairs (take at named) ++ pair_of a ∷ [] = ap pairs front ∙ map-append pair_of (take at named) (a ∷ []) in
    rw (rest, grown, n) refl

pub new_stops : (named : List (List ℕ × Datum)) (at : ℕ) (a : List ℕ × Datum) → at < length named → a ≡ get_or named at a → is_some (found (string a.0) (pairs (take at named))) ≡ true
    → are_new (pairs (take at named)) (drop at named) ≡ false
unfolding are_new
new_stops named at a h e n =
    let rest : drop at named ≡ a ∷ drop (at + 1) named = drop_more named at a h ∙ ap (λ (z : List ℕ × Datum). z ∷ drop (at + 1) named) (sym e) in
    rw (rest, n) refl

pub new_end : (named : List (List ℕ × Datum)) (at : ℕ) → length named ≤ at → are_new (pairs (take at named)) (drop at named) ≡ true
unfolding are_new
new_end named at h = rw (drop_all at named h) refl
