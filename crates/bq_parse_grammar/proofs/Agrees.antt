-- What it is that a reading function finds the phrases that the grammar relates to the tokens, and the repetitions.
use Rattle.std.proofs.Common.{◌≡◌, ℕ, zero, suc, ◌+◌, ◌≤◌, Bool, true, false, cond, List, [], ◌∷◌, ◌++◌, length, Ok, Err, refl, sym, ap, ◌∙◌, subst, append_assoc, append-nil, arith}
use Rattle.bq_source.specs.declared.token.TokenKind.{TokenKind}
use Rattle.bq_source.specs.declared.token.TokenKind.TheVariants as k
use Rattle.bq_source.specs.Token.{same_kind}
use Rattle.bq_parse_grammar.specs.Lexeme.{Lexeme}
use Rattle.bq_parse_grammar.specs.declared.refusal.SyntaxErr.TheVariants.{Memory, Syntax, Lambda}
use Rattle.bq_parse_grammar.specs.Phrases.{Phrase, Repeat, over, again, Listed, none_listed, last_listed, more_listed}
use Rattle.bq_parse_grammar.specs.Turns.{Found, Parse, ◌>>=◌, sees, next, expect, ended, goes, failed, next_turn, turns, whole, cut_off, goes_with, repeat_turn, repeat_from, repeat, with_item, listed_turn, listed_to, listed_from}
use Rattle.bq_parse_grammar.proofs.NextToken.{is_kind, sees_it, sees_no, sees_other, opened, tok, tok_kind}

-- the next token is one of these
abbrev pub Begins : (TokenKind → Bool) → List Lexeme → Type 0
Begins first [] = ⊥
Begins first (t ∷ ts) = first t.kind ≡ true

-- the next token is one of these, or none is left
abbrev pub Stops : (TokenKind → Bool) → List Lexeme → Type 0
Stops ends [] = Unit {0}
Stops ends (t ∷ ts) = ends t.kind ≡ true

-- What a reading owes the grammar: a phrase where it reads one; where it stops at `lambda`, a phrase before any tokens.
abbrev pub Owes : (A : Type 0) → (List Lexeme → A → Type 0) → Found A → Type 0
Owes A S (Ok z) = S z.1 z.0
Owes A S (Err Memory) = Unit {0}
Owes A S (Err Syntax) = Unit {0}
Owes A S (Err Lambda) = (rest : List Lexeme) → (x : A) × S rest x

-- What a phrase of the grammar owes its reading: it is read whole, or the reading stops at `lambda`.
pub data Met {A : Type 0} (n : ℕ) (ts : List Lexeme) (found : Found A) (x : A) (rest : List Lexeme) : Type 0 where
  met : found ≡ Ok (x, rest) → n + length rest ≤ length ts → Met n ts found x rest
  cut : found ≡ Err Lambda → Met n ts found x rest

pub record Agrees {A : Type 0} (first ends : TokenKind → Bool) (X : Phrase A) (r : Parse A) : Type 0 where
  pub begins : (ts rest : List Lexeme) (x : A) → X ts rest x → Begins first ts
  pub sound : (ts : List Lexeme) → Owes A (X ts) (r ts)
  pub complete : (ts rest : List Lexeme) (x : A) → X ts rest x → Stops ends rest → Met 1 ts (r ts) x rest

-- ---- steps of soundness

pub either : {X : Type 0} (P : X → Type 0) (b : Bool) (x y : X) → (b ≡ true → P x) → (b ≡ false → P y) → P (cond b x y)
either P true x y f g = f refl
either P false x y f g = g refl

-- one phrase, then another; the last argument says how a phrase that was cut is made whole
pub seq : {A B : Type 0} (R : List Lexeme → A → Type 0) (S : List Lexeme → B → Type 0) (r : Found A) (f : A → Parse B)
    → Owes A R r → ((x : A) (mid : List Lexeme) → R mid x → Owes B S (f x mid))
    → (((mid : List Lexeme) → (x : A) × R mid x) → (rest : List Lexeme) → (y : B) × S rest y) → Owes B S (r >>= f)
seq R S (Ok z) f h g c = g z.0 z.1 h
seq R S (Err Memory) f h g c = tt
seq R S (Err Syntax) f h g c = tt
seq R S (Err Lambda) f h g c = c h

-- a reading that is never cut
abbrev pub Never : {A : Type 0} → Found A → Type 0
Never (Err Lambda) = ⊥
Never _ = Unit {0}

pub seq_never : {A B : Type 0} (R : List Lexeme → A → Type 0) (S : List Lexeme → B → Type 0) (r : Found A) (f : A → Parse B)
    → Never r → Owes A R r → ((x : A) (mid : List Lexeme) → R mid x → Owes B S (f x mid)) → Owes B S (r >>= f)
seq_never R S (Ok z) f n h g = g z.0 z.1 h
seq_never R S (Err Memory) f n h g = tt
seq_never R S (Err Syntax) f n h g = tt
seq_never R S (Err Lambda) f n h g = absurd n

pub never_then : {A B : Type 0} (r : Found A) (f : A → Parse B) → Never r → ((x : A) (mid : List Lexeme) → Never (f x mid)) → Never (r >>= f)
never_then (Ok z) f n g = g z.0 z.1
never_then (Err Memory) f n g = tt
never_then (Err Syntax) f n g = tt
never_then (Err Lambda) f n g = absurd n

pub never_expect : (q : TokenKind) (ts : List Lexeme) → Never (expect q ts)
never_expect q ts = either Never (sees q ts) (Ok (tt, next ts)) (Err Syntax) (λ e. tt) (λ e. tt)
  where
    either : (P : Found (Unit {0}) → Type 0) (b : Bool) (x y : Found (Unit {0})) → (b ≡ true → P x) → (b ≡ false → P y) → P (cond b x y)
    either P true x y f g = f refl
    either P false x y f g = g refl

module _ {A : Type 0} (r : Parse A) (n : (ts : List Lexeme) → Never (r ts)) where
  repeat_never : (test : List Lexeme → Bool) (m : ℕ) (found : List A) (ts : List Lexeme) → Never (repeat_from test r m found ts)
  unfolding turns
  repeat_never test zero found ts = tt
  repeat_never test (suc m) found ts = go (repeat_never test m) (test ts)
    where
      one : ((found : List A) (ts : List Lexeme) → Never (repeat_from test r m found ts)) → (z : Found A) → Never z → Never (next_turn (turns (repeat_turn test r) whole m) (goes_with found z))
      one more (Ok p) h = more (found ++ p.0 ∷ []) p.1
      one more (Err Memory) h = tt
      one more (Err Syntax) h = tt
      one more (Err Lambda) h = absurd h

      go : ((found : List A) (ts : List Lexeme) → Never (repeat_from test r m found ts)) → (b : Bool) → Never (next_turn (turns (repeat_turn test r) whole m) (cond b (goes_with found (r ts)) (ended found ts)))
      go more true = one more (r ts) (n ts)
      go more false = tt

  pub never_repeat : (test : List Lexeme → Bool) (found : List A) (ts : List Lexeme) → Never (repeat test r found ts)
  unfolding repeat
  never_repeat test found ts = repeat_never test (length ts) found ts

  listed_never : (close : TokenKind) (m : ℕ) (found : List A) (ts : List Lexeme) → Never (listed_to close r m found ts)
  unfolding turns
  listed_never close zero found ts = tt
  listed_never close (suc m) found ts = go (listed_never close m) (sees close ts)
    where
      after : ((found : List A) (ts : List Lexeme) → Never (listed_to close r m found ts)) → (xs : List A) (mid : List Lexeme) (b c : Bool)
          → Never (next_turn (turns (listed_turn close r) cut_off m) (cond b (goes xs (next mid)) (cond c (ended xs (next mid)) (failed Syntax))))
      after more xs mid true c = more xs (next mid)
      after more xs mid false true = tt
      after more xs mid false false = tt

      one : ((found : List A) (ts : List Lexeme) → Never (listed_to close r m found ts)) → (z : Found A) → Never z → Never (next_turn (turns (listed_turn close r) cut_off m) (with_item close found z))
      one more (Ok p) h = after more (found ++ p.0 ∷ []) p.1 (sees k.Comma p.1) (sees close p.1)
      one more (Err Memory) h = tt
      one more (Err Syntax) h = tt
      one more (Err Lambda) h = absurd h

      go : ((found : List A) (ts : List Lexeme) → Never (listed_to close r m found ts)) → (b : Bool) → Never (next_turn (turns (listed_turn close r) cut_off m) (cond b (ended found (next ts)) (with_item close found (r ts))))
      go more true = tt
      go more false = one more (r ts) (n ts)

  pub never_listed : (close : TokenKind) (found : List A) (ts : List Lexeme) → Never (listed_from close r found ts)
  unfolding listed_from
  never_listed close found ts = listed_never close (length ts) found ts

-- what holds of the tokens holds of the next and those after it
pub expects : {B : Type 0} (P : List Lexeme → Type 0) (S : List Lexeme → B → Type 0) (q : TokenKind) (ts : List Lexeme) (f : Unit {0} → Parse B)
    → P ts → ((t : Lexeme) (us : List Lexeme) → t.kind ≡ q → P (t ∷ us) → Owes B S (f tt us)) → Owes B S (expect q ts >>= f)
expects P S q [] f p g = tt
expects {B = B} P S q (t ∷ us) f p g = go (same_kind t.kind q) (is_kind t.kind q)
  where
    go : (b : Bool) → (b ≡ true → t.kind ≡ q) → Owes B S (cond b (Ok (tt, us)) (Err Syntax) >>= f)
    go true h = g t us (h refl) p
    go false h = tt

-- the first token of a phrase
pub opens : {B : Type 0} (S : List Lexeme → List Lexeme → B → Type 0) (q : TokenKind) (ts : List Lexeme) (f : Unit {0} → Parse B)
    → ((t : Lexeme) (us : List Lexeme) → t.kind ≡ q → Owes B (S (t ∷ us)) (f tt us)) → Owes B (S ts) (expect q ts >>= f)
opens S q [] f g = tt
opens {B = B} S q (t ∷ us) f g = go (same_kind t.kind q) (is_kind t.kind q)
  where
    go : (b : Bool) → (b ≡ true → t.kind ≡ q) → Owes B (S (t ∷ us)) (cond b (Ok (tt, us)) (Err Syntax) >>= f)
    go true h = g t us (h refl)
    go false h = tt

pub opens_if : {B : Type 0} (S : List Lexeme → List Lexeme → B → Type 0) (q : TokenKind) (ts : List Lexeme) (f : Parse B) (r : Found B)
    → ((t : Lexeme) (us : List Lexeme) → t.kind ≡ q → Owes B (S (t ∷ us)) (f us)) → (sees q ts ≡ false → Owes B (S ts) r)
    → Owes B (S ts) (cond (sees q ts) (f (next ts)) r)
opens_if S q [] f r g h = h refl
opens_if {B = B} S q (t ∷ us) f r g h = either (Owes B (S (t ∷ us))) (sees q (t ∷ us)) (f us) r (λ e. g t us (is_kind t.kind q e)) h

pub sees_owes : {B : Type 0} (P : List Lexeme → Type 0) (S : List Lexeme → B → Type 0) (q : TokenKind) (ts : List Lexeme) (f : Parse B) (r : Found B)
    → P ts → ((t : Lexeme) (us : List Lexeme) → t.kind ≡ q → P (t ∷ us) → Owes B S (f us)) → (sees q ts ≡ false → Owes B S r)
    → Owes B S (cond (sees q ts) (f (next ts)) r)
sees_owes P S q [] f r p g h = h refl
sees_owes {B = B} P S q (t ∷ us) f r p g h = either (Owes B S) (sees q (t ∷ us)) (f us) r (λ e. g t us (is_kind t.kind q e) p) h

-- a phrase, then one token
pub then_token : {A B : Type 0} (R : List Lexeme → A → Type 0) (S : List Lexeme → B → Type 0) (r : Found A) (q : TokenKind) (f : A → B)
    → Owes A R r → ((x : A) (t : Lexeme) (rest : List Lexeme) → R (t ∷ rest) x → t.kind ≡ q → S rest (f x))
    → Owes B S (r >>= λ x mid. expect q mid >>= λ _ rest. Ok (f x, rest))
then_token R S r q f sound make = seq R S r (λ x mid. expect q mid >>= λ _ rest. Ok (f x, rest)) sound
    (λ x mid p. expects (λ m. R m x) S q mid (λ _ rest. Ok (f x, rest)) p (λ t us e w. make x t us w e))
    (λ h rest. let x = h (tok q ∷ rest) in (f x.0, make x.0 (tok q) rest x.1 (tok_kind q)))

-- a phrase alone
pub then_is : {A B : Type 0} (R : List Lexeme → A → Type 0) (S : List Lexeme → B → Type 0) (r : Found A) (f : A → B)
    → Owes A R r → ((x : A) (rest : List Lexeme) → R rest x → S rest (f x)) → Owes B S (r >>= λ x rest. Ok (f x, rest))
then_is R S r f sound make = seq R S r (λ x rest. Ok (f x, rest)) sound (λ x rest p. make x rest p) (λ h rest. let x = h rest in (f x.0, make x.0 rest x.1))

pub owes_as : {A : Type 0} (R S : List Lexeme → A → Type 0) (r : Found A) → Owes A R r → ((x : A) (rest : List Lexeme) → R rest x → S rest x) → Owes A S r
owes_as R S (Ok z) h g = g z.0 z.1 h
owes_as R S (Err Memory) h g = tt
owes_as R S (Err Syntax) h g = tt
owes_as R S (Err Lambda) h g = λ rest. let x = h rest in (x.0, g x.0 rest x.1)

-- ---- steps of completeness

pub met_is : {A : Type 0} {n : ℕ} {ts rest : List Lexeme} {x : A} (f g : Found A) → f ≡ g → Met n ts g x rest → Met n ts f x rest
met_is f g e (met a s) = met (e ∙ a) s
met_is f g e (cut a) = cut (e ∙ a)

pub met_as : {A : Type 0} {n : ℕ} {ts rest : List Lexeme} {x y : A} {f : Found A} → x ≡ y → Met n ts f x rest → Met n ts f y rest
met_as {n = n} {ts = ts} {rest = rest} {f = f} e m = subst (λ z. Met n ts f z rest) e m

pub met_less : {A : Type 0} {ts rest : List Lexeme} {x : A} {f : Found A} → Met 1 ts f x rest → Met 0 ts f x rest
met_less (met a s) = met a (omega arith)
met_less (cut a) = cut a

-- one more token before it
pub met_over : {A : Type 0} {rest : List Lexeme} {x : A} {f : Found A} (t : Lexeme) (ts : List Lexeme) → Met 0 ts f x rest → Met 1 (t ∷ ts) f x rest
met_over t ts (met a s) = met a (omega arith)
met_over t ts (cut a) = cut a

pub met_done : {A : Type 0} (x : A) (rest : List Lexeme) → Met 0 rest (Ok (x, rest)) x rest
met_done x rest = met refl (omega arith)

pub met_then : {A B : Type 0} {ts mid rest : List Lexeme} {x : A} {y : B} (r : Found A) (f : A → Parse B)
    → Met 1 ts r x mid → Met 0 mid (f x mid) y rest → Met 1 ts (r >>= f) y rest
met_then r f (met a s) (met b u) = met (ap (λ q. q >>= f) a ∙ b) (omega arith)
met_then r f (met a s) (cut b) = cut (ap (λ q. q >>= f) a ∙ b)
met_then r f (cut a) m = cut (ap (λ q. q >>= f) a)

pub met_then0 : {A B : Type 0} {ts mid rest : List Lexeme} {x : A} {y : B} (r : Found A) (f : A → Parse B)
    → Met 0 ts r x mid → Met 0 mid (f x mid) y rest → Met 0 ts (r >>= f) y rest
met_then0 r f (met a s) (met b u) = met (ap (λ q. q >>= f) a ∙ b) (omega arith)
met_then0 r f (met a s) (cut b) = cut (ap (λ q. q >>= f) a ∙ b)
met_then0 r f (cut a) m = cut (ap (λ q. q >>= f) a)

pub met_then01 : {A B : Type 0} {ts mid rest : List Lexeme} {x : A} {y : B} (r : Found A) (f : A → Parse B)
    → Met 0 ts r x mid → Met 1 mid (f x mid) y rest → Met 1 ts (r >>= f) y rest
met_then01 r f (met a s) (met b u) = met (ap (λ q. q >>= f) a ∙ b) (omega arith)
met_then01 r f (met a s) (cut b) = cut (ap (λ q. q >>= f) a ∙ b)
met_then01 r f (cut a) m = cut (ap (λ q. q >>= f) a)

pub met_expect : {B : Type 0} {rest : List Lexeme} {y : B} (q : TokenKind) (t : Lexeme) (ts : List Lexeme) (f : Unit {0} → Parse B) → t.kind ≡ q
    → Met 0 ts (f tt ts) y rest → Met 1 (t ∷ ts) (expect q (t ∷ ts) >>= f) y rest
met_expect q t ts f e m = met_over t ts (met_is _ _ (ap (λ b. cond b (Ok (tt, ts)) (Err Syntax) >>= f) (sees_it t ts q e)) m)

pub met_yes : {A : Type 0} {n : ℕ} {ts rest : List Lexeme} {x : A} (b : Bool) (f g : Found A) → b ≡ true → Met n ts f x rest → Met n ts (cond b f g) x rest
met_yes b f g e m = met_is _ _ (ap (λ b. cond b f g) e) m

pub met_no : {A : Type 0} {n : ℕ} {ts rest : List Lexeme} {x : A} (b : Bool) (f g : Found A) → b ≡ false → Met n ts g x rest → Met n ts (cond b f g) x rest
met_no b f g e m = met_is _ _ (ap (λ b. cond b f g) e) m

pub begins_no : (first : TokenKind → Bool) (ts : List Lexeme) (q : TokenKind) → Begins first ts → first q ≡ false → sees q ts ≡ false
begins_no first [] q b e = absurd b
begins_no first (t ∷ ts) q b e = sees_no first t ts q b e

pub stops_no : (ends : TokenKind → Bool) (ts : List Lexeme) (q : TokenKind) → Stops ends ts → ends q ≡ false → sees q ts ≡ false
stops_no ends [] q b e = refl
stops_no ends (t ∷ ts) q b e = sees_no ends t ts q b e

pub stops_wide : (ends ends' : TokenKind → Bool) (ts : List Lexeme) → ((q : TokenKind) → ends q ≡ true → ends' q ≡ true) → Stops ends ts → Stops ends' ts
stops_wide ends ends' [] f s = tt
stops_wide ends ends' (t ∷ ts) f s = f t.kind s

pub begins_stops : (first ends : TokenKind → Bool) (ts : List Lexeme) → ((q : TokenKind) → first q ≡ true → ends q ≡ true) → Begins first ts → Stops ends ts
begins_stops first ends [] f s = absurd s
begins_stops first ends (t ∷ ts) f s = f t.kind s

-- ---- { X }

module _ {A : Type 0} {first ends : TokenKind → Bool} (X : Phrase A) (r : Parse A) (ag : Agrees first ends X r) (test : List Lexeme → Bool) where
  abbrev Further : List A → List Lexeme → List Lexeme → List A → Type 0
  Further found ts rest ys = (xs : List A) × (ys ≡ found ++ xs) × Repeat X ts rest xs

  repeat_owes : (n : ℕ) (found : List A) (ts : List Lexeme) → Owes (List A) (Further found ts) (repeat_from test r n found ts)
  unfolding turns
  repeat_owes zero found ts = ([], sym (append-nil found), over)
  repeat_owes (suc n) found ts = go (repeat_owes n) (test ts)
    where
      one : ((found : List A) (ts : List Lexeme) → Owes (List A) (Further found ts) (repeat_from test r n found ts)) → (z : Found A) → Owes A (X ts) z
          → Owes (List A) (Further found ts) (next_turn (turns (repeat_turn test r) whole n) (goes_with found z))
      one more (Ok p) h = owes_as (Further (found ++ p.0 ∷ []) p.1) (Further found ts) _ (more (found ++ p.0 ∷ []) p.1)
          (λ ys rest w. (p.0 ∷ w.0, w.1 ∙ append_assoc found (p.0 ∷ []) w.0, again h w.2))
      one more (Err Memory) h = tt
      one more (Err Syntax) h = tt
      one more (Err Lambda) h = λ rest. let x = h rest in (found ++ x.0 ∷ [], (x.0 ∷ [], refl, again x.1 over))

      go : ((found : List A) (ts : List Lexeme) → Owes (List A) (Further found ts) (repeat_from test r n found ts)) → (b : Bool)
          → Owes (List A) (Further found ts) (next_turn (turns (repeat_turn test r) whole n) (cond b (goes_with found (r ts)) (ended found ts)))
      go more true = one more (r ts) (ag.sound ts)
      go more false = ([], sym (append-nil found), over)

  pub repeat_sound : (found : List A) (ts : List Lexeme) → Owes (List A) (λ rest ys. (xs : List A) × (ys ≡ found ++ xs) × Repeat X ts rest xs) (repeat test r found ts)
  unfolding repeat
  repeat_sound found ts = repeat_owes (length ts) found ts

  module _ (yes : (ts : List Lexeme) → Begins first ts → test ts ≡ true) (joins : (q : TokenKind) → first q ≡ true → ends q ≡ true) where
    pub repeat_stops : (ts rest : List Lexeme) (xs : List A) → Repeat X ts rest xs → Stops ends rest → Stops ends ts
    repeat_stops ts rest xs over s = s
    repeat_stops ts rest xs (again {mid = mid} {x = x} p ps) s = begins_stops first ends ts joins (ag.begins ts mid x p)

    repeat_met : (n : ℕ) (found : List A) (ts rest : List Lexeme) (xs : List A) → Repeat X ts rest xs → Stops ends rest → test rest ≡ false → length ts ≤ n
        → Met 0 ts (repeat_from test r n found ts) (found ++ xs) rest
    unfolding turns
    repeat_met zero found ts rest xs over s none le = met (ap (λ ys. Ok (ys, ts)) (sym (append-nil found))) (omega arith)
    repeat_met (suc n) found ts rest xs over s none le =
        met_is _ (Ok (found, ts)) (ap (λ b. next_turn (turns (repeat_turn test r) whole n) (cond b (goes_with found (r ts)) (ended found ts))) none)
        (met (ap (λ ys. Ok (ys, ts)) (sym (append-nil found))) (omega arith))
    repeat_met zero found [] rest xs (again {mid = mid} {x = x} p ps) s none le = absurd (ag.begins [] mid x p)
    repeat_met zero found (t ∷ ts) rest xs (again {mid = mid} {x = x} p ps) s none le = absurd (omega arith)
    repeat_met (suc n) found ts rest xs (again {mid = mid} {x = x} {xs = ys} p ps) s none le =
        met_is _ (next_turn (turns (repeat_turn test r) whole n) (goes_with found (r ts)))
        (ap (λ b. next_turn (turns (repeat_turn test r) whole n) (cond b (goes_with found (r ts)) (ended found ts))) (yes ts (ag.begins ts mid x p)))
        (go (λ below. repeat_met n (found ++ x ∷ []) mid rest ys ps s none below) (ag.complete ts mid x p (repeat_stops mid rest ys ps s)))
      where
        longer : {zs : List A} {f : Found (List A)} → length mid ≤ length ts → Met 0 mid f zs rest → Met 0 ts f zs rest
        longer l (met b u) = met b (omega arith)
        longer l (cut b) = cut b

        go : (length mid ≤ n → Met 0 mid (repeat_from test r n (found ++ x ∷ []) mid) ((found ++ x ∷ []) ++ ys) rest) → Met 1 ts (r ts) x mid
            → Met 0 ts (next_turn (turns (repeat_turn test r) whole n) (goes_with found (r ts))) (found ++ x ∷ ys) rest
        go more (cut a) = cut (ap (λ z. next_turn (turns (repeat_turn test r) whole n) (goes_with found z)) a)
        go more (met a l) = met_is _ _ (ap (λ z. next_turn (turns (repeat_turn test r) whole n) (goes_with found z)) a)
            (met_as (append_assoc found (x ∷ []) ys) (longer (omega arith) (more (omega arith))))

    pub repeat_complete : (found : List A) (ts rest : List Lexeme) (xs : List A) → Repeat X ts rest xs → Stops ends rest → test rest ≡ false
        → Met 0 ts (repeat test r found ts) (found ++ xs) rest
    unfolding repeat
    repeat_complete found ts rest xs p s none = repeat_met (length ts) found ts rest xs p s none (omega arith)

-- ---- [ X { ',' X } [','] ] close

module _ {A : Type 0} {first ends : TokenKind → Bool} (X : Phrase A) (r : Parse A) (ag : Agrees first ends X r) (close : TokenKind) where
  abbrev FurtherListed : List A → List Lexeme → List Lexeme → List A → Type 0
  FurtherListed found ts rest ys = (xs : List A) × (ys ≡ found ++ xs) × Listed close X ts rest xs

  listed_owes : (n : ℕ) (found : List A) (ts : List Lexeme) → Owes (List A) (FurtherListed found ts) (listed_to close r n found ts)
  unfolding turns
  listed_owes zero found ts = tt
  listed_owes (suc n) found ts = go (listed_owes n) (sees close ts) (opened close ts)
    where
      last : (x : A) (mid : List Lexeme) → X ts mid x → (b : Bool) → (b ≡ true → (t : Lexeme) × (mid ≡ t ∷ next mid) × (t.kind ≡ close))
          → Owes (List A) (FurtherListed found ts) (next_turn (turns (listed_turn close r) cut_off n) (cond b (ended (found ++ x ∷ []) (next mid)) (failed Syntax)))
      last x mid h true o = let t = o refl in (x ∷ [], refl, last_listed (subst (λ m. X ts m x) t.1 h) t.2)
      last x mid h false o = tt

      after : ((found : List A) (ts : List Lexeme) → Owes (List A) (FurtherListed found ts) (listed_to close r n found ts)) → (x : A) (mid : List Lexeme) → X ts mid x
          → (b : Bool) → (b ≡ true → (t : Lexeme) × (mid ≡ t ∷ next mid) × (t.kind ≡ k.Comma))
          → Owes (List A) (FurtherListed found ts) (next_turn (turns (listed_turn close r) cut_off n)
          (cond b (goes (found ++ x ∷ []) (next mid)) (cond (sees close mid) (ended (found ++ x ∷ []) (next mid)) (failed Syntax))))
      after more x mid h true o = let t = o refl in
          owes_as (FurtherListed (found ++ x ∷ []) (next mid)) (FurtherListed found ts) _ (more (found ++ x ∷ []) (next mid))
          (λ ys rest w. (x ∷ w.0, w.1 ∙ append_assoc found (x ∷ []) w.0, more_listed (subst (λ m. X ts m x) t.1 h) t.2 w.2))
      after more x mid h false o = last x mid h (sees close mid) (opened close mid)

      one : ((found : List A) (ts : List Lexeme) → Owes (List A) (FurtherListed found ts) (listed_to close r n found ts)) → (z : Found A) → Owes A (X ts) z
          → Owes (List A) (FurtherListed found ts) (next_turn (turns (listed_turn close r) cut_off n) (with_item close found z))
      one more (Ok p) h = after more p.0 p.1 h (sees k.Comma p.1) (opened k.Comma p.1)
      one more (Err Memory) h = tt
      one more (Err Syntax) h = tt
      one more (Err Lambda) h = λ rest. let x = h (tok close ∷ rest) in (found ++ x.0 ∷ [], (x.0 ∷ [], refl, last_listed x.1 (tok_kind close)))

      go : ((found : List A) (ts : List Lexeme) → Owes (List A) (FurtherListed found ts) (listed_to close r n found ts)) → (b : Bool) → (b ≡ true → (t : Lexeme) × (ts ≡ t ∷ next ts) × (t.kind ≡ close))
          → Owes (List A) (FurtherListed found ts) (next_turn (turns (listed_turn close r) cut_off n) (cond b (ended found (next ts)) (with_item close found (r ts))))
      go more true o = let t = o refl in ([], sym (append-nil found), subst (λ m. Listed close X m (next ts) []) (sym t.1) (none_listed t.2))
      go more false o = one more (r ts) (ag.sound ts)

  pub listed_sound : (found : List A) (ts : List Lexeme) → Owes (List A) (λ rest ys. (xs : List A) × (ys ≡ found ++ xs) × Listed close X ts rest xs) (listed_from close r found ts)
  unfolding listed_from
  listed_sound found ts = listed_owes (length ts) found ts

  module _ (comma_ends : ends k.Comma ≡ true) (close_ends : ends close ≡ true) (no_first : first close ≡ false) (no_comma : same_kind close k.Comma ≡ false) where
    listed_met : (n : ℕ) (found : List A) (ts rest : List Lexeme) (xs : List A) → Listed close X ts rest xs → length ts ≤ n
        → Met 1 ts (listed_to close r n found ts) (found ++ xs) rest
    unfolding turns
    listed_met zero found ts rest xs (none_listed e) le = absurd (omega arith)
    listed_met (suc n) found ts rest xs (none_listed {t = t} e) le =
        met_is _ (Ok (found, rest)) (ap (λ b. next_turn (turns (listed_turn close r) cut_off n) (cond b (ended found rest) (with_item close found (r ts)))) (sees_it t rest close e))
        (met (ap (λ ys. Ok (ys, rest)) (sym (append-nil found))) (omega arith))
    listed_met zero found [] rest xs (last_listed {t = t} {x = x} p e) le = absurd (ag.begins [] (t ∷ rest) x p)
    listed_met zero found (u ∷ us) rest xs (last_listed {t = t} {x = x} p e) le = absurd (omega arith)
    listed_met (suc n) found ts rest xs (last_listed {t = t} {x = x} p e) le =
        met_is _ (next_turn (turns (listed_turn close r) cut_off n) (with_item close found (r ts)))
        (ap (λ b. next_turn (turns (listed_turn close r) cut_off n) (cond b (ended found (next ts)) (with_item close found (r ts)))) (begins_no first ts close (ag.begins ts (t ∷ rest) x p) no_first))
        (go (ag.complete ts (t ∷ rest) x p (subst (λ q. ends q ≡ true) (sym e) close_ends)))
      where
        go : Met 1 ts (r ts) x (t ∷ rest) → Met 1 ts (next_turn (turns (listed_turn close r) cut_off n) (with_item close found (r ts))) (found ++ x ∷ []) rest
        go (cut a) = cut (ap (λ z. next_turn (turns (listed_turn close r) cut_off n) (with_item close found z)) a)
        go (met a l) = met (ap (λ z. next_turn (turns (listed_turn close r) cut_off n) (with_item close found z)) a
            ∙ ap (λ b. next_turn (turns (listed_turn close r) cut_off n) (cond b (goes (found ++ x ∷ []) rest) (cond (sees close (t ∷ rest)) (ended (found ++ x ∷ []) rest) (failed Syntax)))) (sees_other t rest k.Comma close e no_comma)
            ∙ ap (λ b. next_turn (turns (listed_turn close r) cut_off n) (cond b (ended (found ++ x ∷ []) rest) (failed Syntax))) (sees_it t rest close e)) (omega arith)
    listed_met zero found [] rest xs (more_listed {t = t} {mid = mid} {x = x} p e ps) le = absurd (ag.begins [] (t ∷ mid) x p)
    listed_met zero found (u ∷ us) rest xs (more_listed p e ps) le = absurd (omega arith)
    listed_met (suc n) found ts rest xs (more_listed {t = t} {mid = mid} {x = x} {xs = ys} p e ps) le =
        met_is _ (next_turn (turns (listed_turn close r) cut_off n) (with_item close found (r ts)))
        (ap (λ b. next_turn (turns (listed_turn close r) cut_off n) (cond b (ended found (next ts)) (with_item close found (r ts)))) (begins_no first ts close (ag.begins ts (t ∷ mid) x p) no_first))
        (go (λ below. listed_met n (found ++ x ∷ []) mid rest ys ps below) (ag.complete ts (t ∷ mid) x p (subst (λ q. ends q ≡ true) (sym e) comma_ends)))
      where
        longer : {zs : List A} {f : Found (List A)} → length mid ≤ length ts → Met 1 mid f zs rest → Met 1 ts f zs rest
        longer l (met b u) = met b (omega arith)
        longer l (cut b) = cut b

        go : (length mid ≤ n → Met 1 mid (listed_to close r n (found ++ x ∷ []) mid) ((found ++ x ∷ []) ++ ys) rest) → Met 1 ts (r ts) x (t ∷ mid)
            → Met 1 ts (next_turn (turns (listed_turn close r) cut_off n) (with_item close found (r ts))) (found ++ x ∷ ys) rest
        go more (cut a) = cut (ap (λ z. next_turn (turns (listed_turn close r) cut_off n) (with_item close found z)) a)
        go more (met a l) = met_is _ _ (ap (λ z. next_turn (turns (listed_turn close r) cut_off n) (with_item close found z)) a
            ∙ ap (λ b. next_turn (turns (listed_turn close r) cut_off n) (cond b (goes (found ++ x ∷ []) mid) (cond (sees close (t ∷ mid)) (ended (found ++ x ∷ []) mid) (failed Syntax)))) (sees_it t mid k.Comma e))
            (met_as (append_assoc found (x ∷ []) ys) (longer (omega arith) (more (omega arith))))

    pub listed_complete : (found : List A) (ts rest : List Lexeme) (xs : List A) → Listed close X ts rest xs → Met 1 ts (listed_from close r found ts) (found ++ xs) rest
    unfolding listed_from
    listed_complete found ts rest xs p = listed_met (length ts) found ts rest xs p (omega arith)
