-- What it is that a reading function finds the phrases that the grammar relates to the tokens, and the repetition.
use Rattle.std.proofs.Common.{◌≡◌, ℕ, zero, suc, ◌+◌, ◌≤◌, Bool, true, false, cond, List, [], ◌∷◌, ◌++◌, length, Some, None, refl, sym, ap, ◌∙◌, subst, append_assoc, append-nil, arith}
use Rattle.bq_query_lex.specs.declared.token.QueryTokenKind.{QueryTokenKind}
use Rattle.bq_query_parse.specs.Lexeme.{Lexeme, same_kind}
use Rattle.bq_query_parse.specs.Phrases.{Phrase, none, Repeat, over, again}
use Rattle.bq_query_parse.specs.Turns.{Found, Parse, ◌>>=◌, sees, next, expect, ended, next_turn, turns, goes_with, repeat_turn, repeat}
use Rattle.bq_query_parse.proofs.NextToken.{is_kind, sees_it, apart}

-- the next token is one of these
abbrev pub Begins : (QueryTokenKind → Bool) → List Lexeme → Type 0
Begins first [] = ⊥
Begins first (t ∷ ts) = first t.kind ≡ true

-- the next token is one of these, or none is left
abbrev pub Stops : (QueryTokenKind → Bool) → List Lexeme → Type 0
Stops ends [] = Unit {0}
Stops ends (t ∷ ts) = ends t.kind ≡ true

-- what a reading owes the grammar: a phrase where it reads one
abbrev pub Owes : (A : Type 0) → (List Lexeme → A → Type 0) → Found A → Type 0
Owes A S (Some z) = S z.1 z.0
Owes A S None = Unit {0}

-- what a phrase of the grammar owes its reading: it is read whole, and takes at least n tokens
pub data Met {A : Type 0} (n : ℕ) (ts : List Lexeme) (found : Found A) (x : A) (rest : List Lexeme) : Type 0 where
  met : found ≡ Some (x, rest) → n + length rest ≤ length ts → Met n ts found x rest

pub record Agrees {A : Type 0} (first ends : QueryTokenKind → Bool) (X : Phrase A) (r : Parse A) : Type 0 where
  pub begins : (ts rest : List Lexeme) (x : A) → X ts rest x → Begins first ts
  pub sound : (ts : List Lexeme) → Owes A (X ts) (r ts)
  pub complete : (ts rest : List Lexeme) (x : A) → X ts rest x → Stops ends rest → Met 1 ts (r ts) x rest

-- nothing is read where nothing is a phrase
pub none_agrees : {A : Type 0} (first ends : QueryTokenKind → Bool) → Agrees first ends (none {A = A}) (λ ts. None)
none_agrees first ends = record { begins = λ ts rest x p. absurd p; sound = λ ts. tt; complete = λ ts rest x p s. absurd p }

-- ---- steps of soundness

pub either : {X : Type 0} (P : X → Type 0) (b : Bool) (x y : X) → (b ≡ true → P x) → (b ≡ false → P y) → P (cond b x y)
either P true x y f g = f refl
either P false x y f g = g refl

-- one phrase, then another
pub seq : {A B : Type 0} (R : List Lexeme → A → Type 0) (S : List Lexeme → B → Type 0) (r : Found A) (f : A → Parse B)
    → Owes A R r → ((x : A) (mid : List Lexeme) → R mid x → Owes B S (f x mid)) → Owes B S (r >>= f)
seq R S (Some z) f h g = g z.0 z.1 h
seq R S None f h g = tt

-- what holds of the tokens holds of the next and those after it
pub expects : {B : Type 0} (P : List Lexeme → Type 0) (S : List Lexeme → B → Type 0) (q : QueryTokenKind) (ts : List Lexeme) (f : Unit {0} → Parse B)
    → P ts → ((t : Lexeme) (us : List Lexeme) → t.kind ≡ q → P (t ∷ us) → Owes B S (f tt us)) → Owes B S (expect q ts >>= f)
expects P S q [] f p g = tt
expects {B = B} P S q (t ∷ us) f p g = go (same_kind t.kind q) (is_kind t.kind q)
  where
    go : (b : Bool) → (b ≡ true → t.kind ≡ q) → Owes B S (cond b (Some (tt, us)) None >>= f)
    go true h = g t us (h refl) p
    go false h = tt

-- the first token of a phrase
pub opens : {B : Type 0} (S : List Lexeme → List Lexeme → B → Type 0) (q : QueryTokenKind) (ts : List Lexeme) (f : Unit {0} → Parse B)
    → ((t : Lexeme) (us : List Lexeme) → t.kind ≡ q → Owes B (S (t ∷ us)) (f tt us)) → Owes B (S ts) (expect q ts >>= f)
opens S q [] f g = tt
opens {B = B} S q (t ∷ us) f g = go (same_kind t.kind q) (is_kind t.kind q)
  where
    go : (b : Bool) → (b ≡ true → t.kind ≡ q) → Owes B (S (t ∷ us)) (cond b (Some (tt, us)) None >>= f)
    go true h = g t us (h refl)
    go false h = tt

pub opens_if : {B : Type 0} (S : List Lexeme → List Lexeme → B → Type 0) (q : QueryTokenKind) (ts : List Lexeme) (f : Parse B) (r : Found B)
    → ((t : Lexeme) (us : List Lexeme) → t.kind ≡ q → Owes B (S (t ∷ us)) (f us)) → (sees q ts ≡ false → Owes B (S ts) r)
    → Owes B (S ts) (cond (sees q ts) (f (next ts)) r)
opens_if S q [] f r g h = h refl
opens_if {B = B} S q (t ∷ us) f r g h = either (Owes B (S (t ∷ us))) (sees q (t ∷ us)) (f us) r (λ e. g t us (is_kind t.kind q e)) h

pub owes_as : {A : Type 0} (R S : List Lexeme → A → Type 0) (r : Found A) → Owes A R r → ((x : A) (rest : List Lexeme) → R rest x → S rest x) → Owes A S r
owes_as R S (Some z) h g = g z.0 z.1 h
owes_as R S None h g = tt

-- ---- steps of completeness

pub met_is : {A : Type 0} {n : ℕ} {ts rest : List Lexeme} {x : A} (f g : Found A) → f ≡ g → Met n ts g x rest → Met n ts f x rest
met_is f g e (met a s) = met (e ∙ a) s

pub met_as : {A : Type 0} {n : ℕ} {ts rest : List Lexeme} {x y : A} {f : Found A} → x ≡ y → Met n ts f x rest → Met n ts f y rest
met_as {n = n} {ts = ts} {rest = rest} {f = f} e m = subst (λ z. Met n ts f z rest) e m

pub met_less : {A : Type 0} {ts rest : List Lexeme} {x : A} {f : Found A} → Met 1 ts f x rest → Met 0 ts f x rest
met_less (met a s) = met a (omega arith)

-- one more token before it
pub met_over : {A : Type 0} {rest : List Lexeme} {x : A} {f : Found A} (t : Lexeme) (ts : List Lexeme) → Met 0 ts f x rest → Met 1 (t ∷ ts) f x rest
met_over t ts (met a s) = met a (omega arith)

pub met_done : {A : Type 0} (x : A) (rest : List Lexeme) → Met 0 rest (Some (x, rest)) x rest
met_done x rest = met refl (omega arith)

pub met_then : {A B : Type 0} {ts mid rest : List Lexeme} {x : A} {y : B} (r : Found A) (f : A → Parse B)
    → Met 1 ts r x mid → Met 0 mid (f x mid) y rest → Met 1 ts (r >>= f) y rest
met_then r f (met a s) (met b u) = met (ap (λ q. q >>= f) a ∙ b) (omega arith)

pub met_then0 : {A B : Type 0} {ts mid rest : List Lexeme} {x : A} {y : B} (r : Found A) (f : A → Parse B)
    → Met 0 ts r x mid → Met 0 mid (f x mid) y rest → Met 0 ts (r >>= f) y rest
met_then0 r f (met a s) (met b u) = met (ap (λ q. q >>= f) a ∙ b) (omega arith)

pub met_expect : {B : Type 0} {rest : List Lexeme} {y : B} (q : QueryTokenKind) (t : Lexeme) (ts : List Lexeme) (f : Unit {0} → Parse B) → t.kind ≡ q
    → Met 0 ts (f tt ts) y rest → Met 1 (t ∷ ts) (expect q (t ∷ ts) >>= f) y rest
met_expect q t ts f e m = met_over t ts (met_is _ _ (ap (λ b. cond b (Some (tt, ts)) None >>= f) (sees_it t ts q e)) m)

pub met_yes : {A : Type 0} {n : ℕ} {ts rest : List Lexeme} {x : A} (b : Bool) (f g : Found A) → b ≡ true → Met n ts f x rest → Met n ts (cond b f g) x rest
met_yes b f g e m = met_is _ _ (ap (λ b. cond b f g) e) m

pub met_no : {A : Type 0} {n : ℕ} {ts rest : List Lexeme} {x : A} (b : Bool) (f g : Found A) → b ≡ false → Met n ts g x rest → Met n ts (cond b f g) x rest
met_no b f g e m = met_is _ _ (ap (λ b. cond b f g) e) m

pub begins_no : (first : QueryTokenKind → Bool) (ts : List Lexeme) (q : QueryTokenKind) → Begins first ts → first q ≡ false → sees q ts ≡ false
begins_no first [] q b e = absurd b
begins_no first (t ∷ ts) q b e = apart first t.kind q b e

pub stops_no : (ends : QueryTokenKind → Bool) (ts : List Lexeme) (q : QueryTokenKind) → Stops ends ts → ends q ≡ false → sees q ts ≡ false
stops_no ends [] q b e = refl
stops_no ends (t ∷ ts) q b e = apart ends t.kind q b e

pub stops_wide : (ends wider : QueryTokenKind → Bool) (ts : List Lexeme) → ((q : QueryTokenKind) → ends q ≡ true → wider q ≡ true) → Stops ends ts → Stops wider ts
stops_wide ends wider [] f s = tt
stops_wide ends wider (t ∷ ts) f s = f t.kind s

pub begins_stops : (first ends : QueryTokenKind → Bool) (ts : List Lexeme) → ((q : QueryTokenKind) → first q ≡ true → ends q ≡ true) → Begins first ts → Stops ends ts
begins_stops first ends [] f s = absurd s
begins_stops first ends (t ∷ ts) f s = f t.kind s

-- ---- { X }

module _ {A : Type 0} {first ends : QueryTokenKind → Bool} (X : Phrase A) (r : Parse A) (ag : Agrees first ends X r) (test : List Lexeme → Bool) where
  abbrev Further : List A → List Lexeme → List Lexeme → List A → Type 0
  Further found ts rest ys = (xs : List A) × (ys ≡ found ++ xs) × Repeat X ts rest xs

  repeat_owes : (n : ℕ) (found : List A) (ts : List Lexeme) → Owes (List A) (Further found ts) (turns (repeat_turn test r) n found ts)
  unfolding turns
  repeat_owes zero found ts = ([], sym (append-nil found), over)
  repeat_owes (suc n) found ts = go (repeat_owes n) (test ts)
    where
      one : ((found : List A) (ts : List Lexeme) → Owes (List A) (Further found ts) (turns (repeat_turn test r) n found ts)) → (z : Found A) → Owes A (X ts) z
          → Owes (List A) (Further found ts) (next_turn (turns (repeat_turn test r) n) (goes_with found z))
      one more (Some p) h = owes_as (Further (found ++ p.0 ∷ []) p.1) (Further found ts) _ (more (found ++ p.0 ∷ []) p.1)
          (λ ys rest w. (p.0 ∷ w.0, w.1 ∙ append_assoc found (p.0 ∷ []) w.0, again h w.2))
      one more None h = tt

      go : ((found : List A) (ts : List Lexeme) → Owes (List A) (Further found ts) (turns (repeat_turn test r) n found ts)) → (b : Bool)
          → Owes (List A) (Further found ts) (next_turn (turns (repeat_turn test r) n) (cond b (goes_with found (r ts)) (ended found ts)))
      go more true = one more (r ts) (ag.sound ts)
      go more false = ([], sym (append-nil found), over)

  pub repeat_sound : (found : List A) (ts : List Lexeme) → Owes (List A) (λ rest ys. (xs : List A) × (ys ≡ found ++ xs) × Repeat X ts rest xs) (repeat test r found ts)
  unfolding repeat
  repeat_sound found ts = repeat_owes (length ts) found ts

  module _ (yes : (ts : List Lexeme) → Begins first ts → test ts ≡ true) (joins : (q : QueryTokenKind) → first q ≡ true → ends q ≡ true) where
    pub repeat_stops : (ts rest : List Lexeme) (xs : List A) → Repeat X ts rest xs → Stops ends rest → Stops ends ts
    repeat_stops ts rest xs over s = s
    repeat_stops ts rest xs (again {mid = mid} {x = x} p ps) s = begins_stops first ends ts joins (ag.begins ts mid x p)

    repeat_met : (n : ℕ) (found : List A) (ts rest : List Lexeme) (xs : List A) → Repeat X ts rest xs → Stops ends rest → test rest ≡ false → length ts ≤ n
        → Met 0 ts (turns (repeat_turn test r) n found ts) (found ++ xs) rest
    unfolding turns
    repeat_met zero found ts rest xs over s none le = met (ap (λ ys. Some (ys, ts)) (sym (append-nil found))) (omega arith)
    repeat_met (suc n) found ts rest xs over s none le =
        met_is _ (Some (found, ts)) (ap (λ b. next_turn (turns (repeat_turn test r) n) (cond b (goes_with found (r ts)) (ended found ts))) none)
        (met (ap (λ ys. Some (ys, ts)) (sym (append-nil found))) (omega arith))
    repeat_met zero found [] rest xs (again {mid = mid} {x = x} p ps) s none le = absurd (ag.begins [] mid x p)
    repeat_met zero found (t ∷ ts) rest xs (again {mid = mid} {x = x} p ps) s none le = absurd (omega arith)
    repeat_met (suc n) found ts rest xs (again {mid = mid} {x = x} {xs = ys} p ps) s none le =
        met_is _ (next_turn (turns (repeat_turn test r) n) (goes_with found (r ts)))
        (ap (λ b. next_turn (turns (repeat_turn test r) n) (cond b (goes_with found (r ts)) (ended found ts))) (yes ts (ag.begins ts mid x p)))
        (go (λ below. repeat_met n (found ++ x ∷ []) mid rest ys ps s none below) (ag.complete ts mid x p (repeat_stops mid rest ys ps s)))
      where
        longer : {zs : List A} {f : Found (List A)} → length mid ≤ length ts → Met 0 mid f zs rest → Met 0 ts f zs rest
        longer l (met b u) = met b (omega arith)

        go : (length mid ≤ n → Met 0 mid (turns (repeat_turn test r) n (found ++ x ∷ []) mid) ((found ++ x ∷ []) ++ ys) rest) → Met 1 ts (r ts) x mid
            → Met 0 ts (next_turn (turns (repeat_turn test r) n) (goes_with found (r ts))) (found ++ x ∷ ys) rest
        go more (met a l) = met_is _ _ (ap (λ z. next_turn (turns (repeat_turn test r) n) (goes_with found z)) a)
            (met_as (append_assoc found (x ∷ []) ys) (longer (omega arith) (more (omega arith))))

    pub repeat_complete : (found : List A) (ts rest : List Lexeme) (xs : List A) → Repeat X ts rest xs → Stops ends rest → test rest ≡ false
        → Met 0 ts (repeat test r found ts) (found ++ xs) rest
    unfolding repeat
    repeat_complete found ts rest xs p s none = repeat_met (length ts) found ts rest xs p s none (omega arith)
