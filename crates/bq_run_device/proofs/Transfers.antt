-- One transfer after another.
use Rattle.std.proofs.Common.{◌≡◌, ◌+◌, ℕ, zero, suc, ◌-◌, take_all, length-drop, length-append, le_refl, if◌then◌else◌, subst, List, [], ◌++◌, Option, None, Some, Result, Ok, Err, ◌∷◌, ◌<◌, ◌≤◌, get_or, length, take, drop, ap, sym, ◌∙◌, append_assoc, append-nil, refl, arith, rules, ◌⊎◌, inl, inr}
use Rattle.std.specs.Prelude.{OnOk, OnErr}
use Rattle.std.specs.Io.KnownBytes.{Appends, Consumes, Keeps}
use Rattle.std.proofs.Math.Seq.{take-add, take-append-add}
use Rattle.std.specs.List.{concat}
use Rattle.std.proofs.lemmas.List.{drop_more, take-append-le}
use Rattle.std.proofs.Math.ListN.{drop_of_length-le}
use Rattle.std.proofs.lemmas.Bool.Decides.{nat_tests}
use Rattle.bq_run_device.specs.Device.{Begins, one_more, took_none}

pub Appends-none : (known : Option (List ℕ)) → Appends known known []
Appends-none None = tt
Appends-none (Some xs) = search rules

pub Appends-more : (a b c : Option (List ℕ)) (xs ys : List ℕ) → Appends a b xs → Appends b c ys → Appends a c (xs ++ ys)
Appends-more None b c xs ys h k = tt
Appends-more (Some ms) None c xs ys h k = absurd h
Appends-more (Some ms) (Some bs) None xs ys h k = absurd k
Appends-more (Some ms) (Some bs) (Some cs) xs ys h k = k ∙ ap (λ t. t ++ ys) h ∙ append_assoc ms xs ys

pub Appends-keeps : (a b c : Option (List ℕ)) (xs : List ℕ) → Appends a b xs → Keeps b c → Appends a c xs
Appends-keeps None b c xs h k = tt
Appends-keeps (Some ms) None c xs h k = absurd h
Appends-keeps (Some ms) (Some bs) None xs h k = absurd k
Appends-keeps (Some ms) (Some bs) (Some cs) xs h k = k ∙ h

pub Consumes-none : (known : Option (List ℕ)) → Consumes known known []
Consumes-none None = tt
Consumes-none (Some xs) = refl

pub Consumes-more : (a b c : Option (List ℕ)) (xs ys : List ℕ) → Consumes a b xs → Consumes b c ys → Consumes a c (xs ++ ys)
Consumes-more None b c xs ys h k = tt
Consumes-more (Some ms) None c xs ys h k = absurd h
Consumes-more (Some ms) (Some bs) None xs ys h k = absurd k
Consumes-more (Some ms) (Some bs) (Some cs) xs ys h k = h ∙ ap (λ t. xs ++ t) k ∙ sym (append_assoc xs ys cs)

-- a write that took something counts nothing
pub took_some : (n m : ℕ) (bytes : List ℕ) → ¬ (n ≡ 0) → (if took_none n bytes then one_more m else m) ≡ m
took_some zero m bytes h = absurd (h refl)
took_some (suc n) m bytes h = grind (arith, nat_tests)

rest_of : (text : List ℕ) (i : ℕ) → take (length text - i) (drop i text) ≡ drop i text
rest_of text i = take_all _ _ (omega (arith, length-drop i text))

-- the writer holds the first i bytes of the text, and takes the next n
pub Appends-front : (a b c : Option (List ℕ)) (text : List ℕ) (i n : ℕ) → Appends a b (take i text) → Appends b c (take n (take (length text - i) (drop i text))) → Appends a c (take (i + n) text)
Appends-front a b c text i n h k =
    let k' : Appends b c (take n (drop i text)) = subst (λ t. Appends b c (take n t)) (rest_of text i) k in
    subst (Appends a c) (sym (take-add i n text)) (Appends-more a b c (take i text) (take n (drop i text)) h k')

-- a whole text is a beginning of it
pub Begins-whole : (a b : Option (List ℕ)) (xs : List ℕ) → Appends a b xs → Begins a b xs
Begins-whole a b xs h = (length xs, le_refl (length xs), subst (Appends a b) (sym (take_all (length xs) xs (le_refl (length xs)))) h)

-- and of every longer one
pub Begins-front : (a b : Option (List ℕ)) (xs ys : List ℕ) → Begins a b xs → Begins a b (xs ++ ys)
Begins-front a b xs ys h = (h.0, omega (arith, h.1, length-append xs ys), subst (Appends a b) (sym (take-append-le h.0 xs ys h.1)) h.2)

-- a text was written, and a beginning of the next
pub Begins-more : (a b c : Option (List ℕ)) (xs ys : List ℕ) → Appends a b xs → Begins b c ys → Begins a c (xs ++ ys)
Begins-more a b c xs ys h k =
    (length xs + k.0, omega (arith, k.1, length-append xs ys), subst (Appends a c) (sym (take-append-add xs ys k.0)) (Appends-more a b c xs (take k.0 ys) h k.2))

-- what holds of a call that is right, or of one that failed
pub right_or_failed : {A E : Type 0} (r : Result A E) (P Q : Type 0) → OnOk r P → OnErr r Q → P ⊎ Q
right_or_failed (Ok a) P Q p q = inl p
right_or_failed (Err e) P Q p q = inr q

-- of the whole text all is written but what is left
pub record IsSent (a b : Option (List ℕ)) (whole left : List ℕ) : Type 0 where
  pub sent : List ℕ
  pub appended : Appends a b sent
  pub parts : sent ++ left ≡ whole

pub sent_none : (a : Option (List ℕ)) (whole : List ℕ) → IsSent a a whole whole
sent_none a whole = record { sent = []; appended = Appends-none a; parts = refl }

-- the first part of what was left is written too
pub sent_more : (a b c : Option (List ℕ)) (whole part left rest : List ℕ) → left ≡ part ++ rest → IsSent a b whole left → Appends b c part → IsSent a c whole rest
sent_more a b c whole part left rest is s h = record {
  sent = s.sent ++ part;
  appended = Appends-more a b c s.sent part s.appended h;
  parts = append_assoc s.sent part rest ∙ (ap (λ t. s.sent ++ t) (sym is) ∙ s.parts);
}

-- nothing is left
pub sent_all : (a b : Option (List ℕ)) (whole left : List ℕ) → left ≡ [] → IsSent a b whole left → Appends a b whole
sent_all a b whole left none s = subst (Appends a b) (sym (append-nil s.sent) ∙ (ap (λ t. s.sent ++ t) (sym none) ∙ s.parts)) s.appended

-- a beginning of the first part of what was left is written
pub sent_begins : (a b c : Option (List ℕ)) (whole part left rest : List ℕ) → left ≡ part ++ rest → IsSent a b whole left → Begins b c part → Begins a c whole
sent_begins a b c whole part left rest is s h =
    subst (Begins a c) (ap (λ t. s.sent ++ t) (sym is) ∙ s.parts) (Begins-more a b c s.sent (part ++ rest) s.appended (Begins-front b c part rest h))

-- ---- strings in a row

-- a string is the first of those that are left
pub left_more : (ps : List (List ℕ)) (i : ℕ) (p : List ℕ) → i < length ps → p ≡ get_or ps i p → concat (drop i ps) ≡ p ++ concat (drop (i + 1) ps)
left_more ps i p h e = ap concat (drop_more ps i p h ∙ ap (λ (z : List ℕ). z ∷ drop (i + 1) ps) (sym e))

-- after the last one none is left
pub left_none : (ps : List (List ℕ)) (i : ℕ) → length ps ≤ i → concat (drop i ps) ≡ []
left_none ps i h = ap concat (drop_of_length-le ps h)
