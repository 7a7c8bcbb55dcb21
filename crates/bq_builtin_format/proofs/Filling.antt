-- One conversion after another.
use Rattle.std.proofs.Common.{◌≡◌, ◌+◌, ◌≤◌, ◌<◌, ℕ, zero, suc, List, [], ◌∷◌, Option, Some, None, Ok, Err, ◌-◌, min, length, take, drop, refl, ap, ◌∙◌, arith, length-drop}
use Rattle.std.proofs.lemmas.List.{take_rest}
use Rattle.std.specs.Prelude.{codes}
use Rattle.bq_base.specs.declared.fault.EvalFault.{EvalFault}
use Rattle.bq_value.specs.Datum.{Datum}
use Rattle.bq_value.specs.Cells.{StoreView}
use Rattle.bq_value.specs.Looked.{Looked}
use Rattle.bq_builtin_strings.specs.Search.{find}
use Rattle.bq_builtin_strings.specs.Parts.{partition, around}
use Rattle.bq_builtin_format.specs.Percent.{DraftView, and_then, and_write, converted, ended, filled, filled_by, values_after}

-- what is after a percent sign is shorter
shorter_by : (text : List ℕ) (at : Option ℕ) (before after : List ℕ) → around (codes "%") text at ≡ Some (before, after) → 0 < length text → length after < length text
shorter_by text None before after e l = absurd (cc)
shorter_by text (Some at) before after e l =
    let pair : (take at text, drop (at + 1) text) ≡ (before, after) = cc in
    let is : drop (at + 1) text ≡ after = ap (λ (p : List ℕ × List ℕ). p.1) pair in
    omega (arith, ap length is, length-drop (at + 1) text, l)

nowhere : partition (codes "%") [] ≡ None
unfolding partition find
nowhere = refl

some_text : (text before after : List ℕ) → partition (codes "%") text ≡ Some (before, after) → 0 < length text
some_text [] before after e = absurd (cc nowhere)
some_text (b ∷ bs) before after e = omega arith

pub shorter : (text before after : List ℕ) → partition (codes "%") text ≡ Some (before, after) → length after < length text
unfolding partition
shorter text before after e = shorter_by text (find (codes "%") text) before after e (some_text text before after e)

then_same : (r : Looked DraftView) (f g : DraftView → ℕ → Looked DraftView) → ((d : DraftView) (n : ℕ) → f d n ≡ g d n) → and_then r f ≡ and_then r g
then_same (Ok (d, n)) f g h = h d n
then_same (Err kind) f g h = refl

same_by : (m n : ℕ) (s : StoreView) → ((d : DraftView) (k : ℕ) (values : List Datum) (t : List ℕ) → length t ≤ m → length t ≤ n → filled m s d k values t ≡ filled n s d k values t) → (d : DraftView) (k : ℕ) (values : List Datum) (text : List ℕ) (cut : Option (List ℕ × List ℕ))
    → partition (codes "%") text ≡ cut → length text ≤ suc m → length text ≤ suc n → filled_by (filled m s) s d k values text cut ≡ filled_by (filled n s) s d k values text cut
same_by m n s again d k values text None e p q = refl
same_by m n s again d k values text (Some (before, after)) e p q =
    let less : length after < length text = shorter text before after e in
    then_same (converted s (and_write d before) k after values) (λ f j. filled m s f j (values_after after values) (drop 1 after)) (λ f j. filled n s f j (values_after after values) (drop 1 after))
    (λ f j. again f j (values_after after values) (drop 1 after) (omega (arith, length-drop 1 after, less, p)) (omega (arith, length-drop 1 after, less, q)))

-- more percent signs than the text has bytes change nothing
enough : (m n : ℕ) (s : StoreView) (d : DraftView) (k : ℕ) (values : List Datum) (text : List ℕ) → length text ≤ m → length text ≤ n → filled m s d k values text ≡ filled n s d k values text
unfolding filled
enough zero zero s d k values text p q = refl
enough zero (suc n) s d k values [] p q = rw nowhere refl
enough zero (suc n) s d k values (b ∷ bs) p q = absurd (omega (arith, p))
enough (suc m) zero s d k values [] p q = rw nowhere refl
enough (suc m) zero s d k values (b ∷ bs) p q = absurd (omega (arith, q))
enough (suc m) (suc n) s d k values text p q = same_by m n s (enough m n s) d k values text (partition (codes "%") text) refl p q

pub fill_more : (s : StoreView) (d e : DraftView) (k m : ℕ) (values : List Datum) (text before after : List ℕ) → partition (codes "%") text ≡ Some (before, after) → converted s (and_write d before) k after values ≡ Ok (e, m)
    → filled (length text) s d k values text ≡ filled (length (drop 1 after)) s e m (values_after after values) (drop 1 after)
unfolding filled
fill_more s d e k m values [] before after p c = absurd (cc nowhere)
fill_more s d e k m values (b ∷ bs) before after p c =
    let less : length after < length (b ∷ bs) = shorter (b ∷ bs) before after p in
    rw (p, c) (enough (length bs) (length (drop 1 after)) s e m (values_after after values) (drop 1 after) (omega (arith, length-drop 1 after, less)) (omega arith))

pub fill_bad : (s : StoreView) (d : DraftView) (k : ℕ) (kind : EvalFault) (values : List Datum) (text before after : List ℕ) → partition (codes "%") text ≡ Some (before, after) → converted s (and_write d before) k after values ≡ Err kind
    → filled (length text) s d k values text ≡ Err kind
unfolding filled
fill_bad s d k kind values [] before after p c = absurd (cc nowhere)
fill_bad s d k kind values (b ∷ bs) before after p c = rw (p, c) refl

pub fill_last : (s : StoreView) (d : DraftView) (k : ℕ) (values : List Datum) (text : List ℕ) → partition (codes "%") text ≡ None → filled (length text) s d k values text ≡ Ok (ended (and_write d text) values, k)
unfolding filled
fill_last s d k values [] p = refl
fill_last s d k values (b ∷ bs) p = rw p refl

pub rest_one : (after : List ℕ) (m : ℕ) → m ≡ min (length after) 1 → take (length after - m) (drop m after) ≡ drop 1 after
rest_one [] m e = let none : m ≡ 0 = omega (arith, e) in rw none refl
rest_one (b ∷ bs) m e = let one : m ≡ 1 = omega (arith, e) in take_rest (b ∷ bs) m ∙ ap (λ (n : ℕ). drop n (b ∷ bs)) one

pub fill_step : (s : StoreView) (d e : DraftView) (k m : ℕ) (values next : List Datum) (text before after rest : List ℕ) (total : Looked DraftView) → partition (codes "%") text ≡ Some (before, after) → converted s (and_write d before) k after values ≡ Ok (e, m)
    → next ≡ values_after after values → rest ≡ drop 1 after → total ≡ filled (length text) s d k values text → total ≡ filled (length rest) s e m next rest
fill_step s d e k m values next text before after rest total p c n r t = rw (n, r) (t ∙ fill_more s d e k m values text before after p c)
