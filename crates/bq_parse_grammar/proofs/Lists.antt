-- An item, and the further ones after commas.
use Rattle.std.proofs.Common.{◌≡◌, Bool, true, false, List, [], ◌∷◌, ◌++◌, Ok, Err, refl, sym, ap, subst}
use Rattle.bq_source.specs.declared.token.TokenKind.{TokenKind}
use Rattle.bq_source.specs.declared.token.TokenKind.TheVariants as k
use Rattle.bq_source.specs.Token.{same_kind}
use Rattle.bq_parse_grammar.specs.Lexeme.{Lexeme}
use Rattle.bq_parse_grammar.specs.declared.refusal.SyntaxErr.TheVariants.{Syntax}
use Rattle.bq_parse_grammar.specs.Phrases.{Phrase, none, Repeat, over, again, Listed, last_listed, more_listed, CommaThen, comma_then}
use Rattle.bq_parse_grammar.specs.Turns.{Parse, ◌>>=◌, sees, expect, repeat, listed_from}
use Rattle.bq_parse_grammar.specs.Reading.{items_after, after_comma, chained}
use Rattle.bq_parse_grammar.proofs.NextToken.{sees_it, sees_other}
use Rattle.bq_parse_grammar.proofs.Classes.{implied, is_comma, comma_same}
use Rattle.bq_parse_grammar.proofs.Agrees.{Begins, Stops, Owes, Met, Agrees, either, seq, expects, opens, sees_owes, then_is, owes_as, met_as, met_less, met_over, met_done, met_then, met_then0, met_expect, met_yes, met_no, repeat_sound, repeat_stops, repeat_complete, listed_sound, listed_complete}

-- nothing is read where nothing is a phrase
pub none_agrees : {A : Type 0} (first ends : TokenKind → Bool) → Agrees first ends (none {A = A}) (λ ts. Err Syntax)
none_agrees first ends = record { begins = λ ts rest x p. absurd p; sound = λ ts. tt; complete = λ ts rest x p s. absurd p }

pub record FirstItem {A : Type 0} (X : Phrase A) (r : Parse A) (ends : TokenKind → Bool) (close : TokenKind) (ts rest : List Lexeme) (x : A) (xs : List A) : Type 0 where
  pub mid : List Lexeme
  pub item : X ts mid x
  pub stops : Stops ends mid
  -- a kind that is neither the comma nor the closing bracket doesn't follow
  pub other : (q : TokenKind) → same_kind k.Comma q ≡ false → same_kind close q ≡ false → sees q mid ≡ false
  pub others : Met 1 mid (items_after close r x mid) (x ∷ xs) rest

module _ {A : Type 0} {first ends : TokenKind → Bool} (X : Phrase A) (r : Parse A) (ag : Agrees first ends X r) (close : TokenKind) where
  pub items_sound : (x : A) (ts mid : List Lexeme) → X ts mid x → Owes (List A) (λ rest ys. (zs : List A) × (ys ≡ x ∷ zs) × Listed close X ts rest (x ∷ zs)) (items_after close r x mid)
  items_sound x ts mid p = sees_owes (λ m. X ts m x) (λ rest ys. (zs : List A) × (ys ≡ x ∷ zs) × Listed close X ts rest (x ∷ zs)) k.Comma mid
      (λ us. listed_from close r (x ∷ []) us) (expect close mid >>= λ _ rest. Ok (x ∷ [], rest)) p
      (λ c us f w. owes_as (λ rest ys. (xs : List A) × (ys ≡ (x ∷ []) ++ xs) × Listed close X us rest xs) (λ rest ys. (zs : List A) × (ys ≡ x ∷ zs) × Listed close X ts rest (x ∷ zs))
      (listed_from close r (x ∷ []) us) (listed_sound X r ag close (x ∷ []) us) (λ ys rest v. (v.0, v.1, more_listed w f v.2)))
      (λ h. expects (λ m. X ts m x) (λ rest ys. (zs : List A) × (ys ≡ x ∷ zs) × Listed close X ts rest (x ∷ zs)) close mid (λ _ rest. Ok (x ∷ [], rest)) p
      (λ c us f w. ([], refl, last_listed w f)))

  module _ (comma_ends : ends k.Comma ≡ true) (close_ends : ends close ≡ true) (no_first : first close ≡ false) (no_comma : same_kind close k.Comma ≡ false) where
    pub first_item : (ts rest : List Lexeme) (x : A) (xs : List A) → Listed close X ts rest (x ∷ xs) → FirstItem X r ends close ts rest x xs
    first_item ts rest x xs (last_listed {t = t} p e) = record {
      mid = t ∷ rest;
      item = p;
      stops = subst (λ q. ends q ≡ true) (sym e) close_ends;
      other = λ q c d. sees_other t rest q close e d;
      others = met_no (sees k.Comma (t ∷ rest)) _ (expect close (t ∷ rest) >>= λ _ rest. Ok (x ∷ [], rest)) (sees_other t rest k.Comma close e no_comma)
          (met_expect close t rest (λ _ rest. Ok (x ∷ [], rest)) e (met_done (x ∷ []) rest));
    }
    first_item ts rest x xs (more_listed {t = t} {mid = mid} p e ps) = record {
      mid = t ∷ mid;
      item = p;
      stops = subst (λ q. ends q ≡ true) (sym e) comma_ends;
      other = λ q c d. sees_other t mid q k.Comma e c;
      others = met_yes (sees k.Comma (t ∷ mid)) (listed_from close r (x ∷ []) mid) _ (sees_it t mid k.Comma e)
          (met_over t mid (met_less (listed_complete X r ag close comma_ends close_ends no_first no_comma (x ∷ []) mid rest xs ps)));
    }

-- ---- X { ',' X }

abbrev pub chain_of : {A : Type 0} → (List A → A) → A → List A → A
chain_of many x [] = x
chain_of many x (y ∷ ys) = many (x ∷ y ∷ ys)

comma_seen : (ts : List Lexeme) → Begins is_comma ts → sees k.Comma ts ≡ true
comma_seen [] b = absurd b
comma_seen (t ∷ ts) b = implied is_comma (λ q. same_kind q k.Comma) comma_same t.kind b

module _ {A : Type 0} {first ends : TokenKind → Bool} (X : Phrase A) (r : Parse A) (ag : Agrees first ends X r) where
  pub comma_agrees : Agrees is_comma ends (CommaThen X) (after_comma r)
  comma_agrees = record { begins = begins; sound = sound; complete = complete }
    where
      begins : (ts rest : List Lexeme) (x : A) → CommaThen X ts rest x → Begins is_comma ts
      begins ts rest x (comma_then e p) = ap is_comma e

      sound : (ts : List Lexeme) → Owes A (CommaThen X ts) (after_comma r ts)
      sound ts = opens (CommaThen X) k.Comma ts (λ _ us. r us) (λ t us e. owes_as (X us) (CommaThen X (t ∷ us)) (r us) (ag.sound us) (λ x rest p. comma_then e p))

      complete : (ts rest : List Lexeme) (x : A) → CommaThen X ts rest x → Stops ends rest → Met 1 ts (after_comma r ts) x rest
      complete ts rest x (comma_then {t = t} {ts = us} e p) s = met_expect k.Comma t us (λ _ us. r us) e (met_less (ag.complete us rest x p s))

  module _ (many : List A → A) where
    abbrev Chained : A → List Lexeme → List Lexeme → A → Type 0
    Chained x mid rest y = (xs : List A) × (y ≡ chain_of many x xs) × Repeat (CommaThen X) mid rest xs

    pub chained_sound : (x : A) (mid : List Lexeme) → Owes A (λ rest y. (xs : List A) × (y ≡ chain_of many x xs) × Repeat (CommaThen X) mid rest xs) (chained many r x mid)
    chained_sound x mid = either (Owes A (Chained x mid)) (sees k.Comma mid)
        (after_comma r mid >>= λ y us. repeat (sees k.Comma) (after_comma r) (x ∷ y ∷ []) us >>= λ xs rest. Ok (many xs, rest)) (Ok (x, mid))
        (λ c. seq (CommaThen X mid) (Chained x mid) (after_comma r mid) (λ y us. repeat (sees k.Comma) (after_comma r) (x ∷ y ∷ []) us >>= λ xs rest. Ok (many xs, rest)) (comma_agrees.sound mid)
        (λ y us p. then_is (λ rest ys. (xs : List A) × (ys ≡ (x ∷ y ∷ []) ++ xs) × Repeat (CommaThen X) us rest xs) (Chained x mid)
        (repeat (sees k.Comma) (after_comma r) (x ∷ y ∷ []) us) many (repeat_sound (CommaThen X) (after_comma r) comma_agrees (sees k.Comma) (x ∷ y ∷ []) us)
        (λ ys rest w. (y ∷ w.0, ap many w.1, again p w.2)))
        (λ h rest. let y = h rest in (many (x ∷ y.0 ∷ []), (y.0 ∷ [], refl, again y.1 over))))
        (λ c. ([], refl, over))

    module _ (joins : ends k.Comma ≡ true) where
      joins_all : (q : TokenKind) → is_comma q ≡ true → ends q ≡ true
      joins_all k.Comma e = joins
      joins_all q e = absurd (cc)

      pub chained_stops : (mid rest : List Lexeme) (xs : List A) → Repeat (CommaThen X) mid rest xs → Stops ends rest → Stops ends mid
      chained_stops = repeat_stops (CommaThen X) (after_comma r) comma_agrees (sees k.Comma) comma_seen joins_all

      pub chained_met : (x y : A) (mid rest : List Lexeme) (xs : List A) → Repeat (CommaThen X) mid rest xs → Stops ends rest → sees k.Comma rest ≡ false → y ≡ chain_of many x xs
          → Met 0 mid (chained many r x mid) y rest
      chained_met x y mid rest xs over s none e =
          met_no (sees k.Comma mid) _ (Ok (x, mid)) none (met_as (sym e) (met_done x mid))
      chained_met x y mid rest xs (again {mid = us} {x = z} {xs = zs} p ps) s none e =
          met_yes (sees k.Comma mid) (after_comma r mid >>= λ y us. repeat (sees k.Comma) (after_comma r) (x ∷ y ∷ []) us >>= λ xs rest. Ok (many xs, rest)) (Ok (x, mid))
          (comma_seen mid (comma_agrees.begins mid us z p))
          (met_less (met_then (after_comma r mid) (λ y us. repeat (sees k.Comma) (after_comma r) (x ∷ y ∷ []) us >>= λ xs rest. Ok (many xs, rest))
          (comma_agrees.complete mid us z p (chained_stops us rest zs ps s))
          (met_then0 (repeat (sees k.Comma) (after_comma r) (x ∷ z ∷ []) us) (λ xs rest. Ok (many xs, rest))
          (repeat_complete (CommaThen X) (after_comma r) comma_agrees (sees k.Comma) comma_seen joins_all (x ∷ z ∷ []) us rest zs ps s none)
          (met_as (sym e) (met_done (many (x ∷ z ∷ zs)) rest)))))
