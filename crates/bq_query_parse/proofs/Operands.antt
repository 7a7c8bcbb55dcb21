-- Operands and lets agree with their readers, where the queries inside parentheses do.
use Rattle.std.proofs.Common.{◌≡◌, ℕ, zero, suc, ◌<◌, Bool, true, false, cond, List, [], ◌∷◌, ◌++◌, Some, None, refl, sym, ap, ◌∙◌, subst, arith}
use Rattle.std.specs.Prelude.{◌==◌}
use Rattle.std.proofs.lemmas.Bool.{eqb-true}
use Rattle.bq_query_lex.specs.Lexis.{is_variable_name}
use Rattle.bq_query_lex.specs.declared.token.QueryTokenKind.{QueryTokenKind}
use Rattle.bq_query_lex.specs.declared.token.QueryTokenKind.TheVariants as k
use Rattle.bq_query_parse.specs.Lexeme.{Lexeme, same_kind}
use Rattle.bq_query_parse.specs.declared.tree.Query.{Query}
use Rattle.bq_query_parse.specs.declared.tree.Query.TheVariants as q
use Rattle.bq_query_parse.specs.Phrases.{Phrase, Repeat, CommaThen, comma_then}
use Rattle.bq_query_parse.specs.Grammar as G
use Rattle.bq_query_parse.specs.Grammar.{IsWord, AreArguments, IsOperand, IsLet}
use Rattle.bq_query_parse.specs.Turns.{Found, Parse, ◌>>=◌, sees, next, expect, repeat}
use Rattle.bq_query_parse.specs.Reading.{is_word, begins_word, word_by, a_word, a_name, opening, after_comma, arguments, parenthesized, set_of, call, operand_by, operand, binding, let_in}
use Rattle.bq_query_parse.specs.GrammarLaws.{ends_query}
use Rattle.bq_query_parse.proofs.NextToken.{is_kind, sees_it, sees_other}
use Rattle.bq_query_parse.proofs.Classes.{any, first_operand, first_query, ends_operand, is_comma, is_close, comma_ends}
use Rattle.bq_query_parse.proofs.Agrees.{Begins, Stops, Owes, Met, met, Agrees, either, seq, expects, opens, opens_if, owes_as, met_is, met_as, met_less, met_over, met_done, met_then, met_then0, met_expect, met_yes, met_no, begins_no, stops_no, repeat_sound, repeat_stops, repeat_complete}

-- ---- words

word_at : (q : QueryTokenKind) (t : Lexeme) (ts : List Lexeme) → t.kind ≡ q → Owes (List ℕ) (IsWord (t ∷ ts)) (word_by q t ts)
word_at k.Word t ts e = G.bare e refl
word_at k.Quoted t ts e = G.quoted e refl
word_at _ t ts e = tt

pub words_agree : Agrees is_word any IsWord a_word
words_agree = record { begins = begins; sound = sound; complete = complete }
  where
    begins : (ts rest : List Lexeme) (w : List ℕ) → IsWord ts rest w → Begins is_word ts
    begins ts rest w (G.bare e f) = ap is_word e
    begins ts rest w (G.quoted e f) = ap is_word e

    sound : (ts : List Lexeme) → Owes (List ℕ) (IsWord ts) (a_word ts)
    sound [] = tt
    sound (t ∷ ts) = word_at t.kind t ts refl

    complete : (ts rest : List Lexeme) (w : List ℕ) → IsWord ts rest w → Stops any rest → Met 1 ts (a_word ts) w rest
    complete ts rest w (G.bare {t = t} e f) s = met (ap (λ q. word_by q t rest) e ∙ ap (λ v. Some (v, rest)) (sym f)) (omega arith)
    complete ts rest w (G.quoted {t = t} e f) s = met (ap (λ q. word_by q t rest) e ∙ ap (λ v. Some (v, rest)) (sym f)) (omega arith)

word_seen : (ts : List Lexeme) → Begins is_word ts → begins_word ts ≡ true
word_seen [] b = absurd b
word_seen (t ∷ ts) b = b

joins_any : (q : QueryTokenKind) → is_word q ≡ true → any q ≡ true
joins_any q e = refl

-- ---- '(' where one more may be opened

-- one more may be opened
may : (d : ℕ) → 0 < d → (d == 0) ≡ false
may d l = go (d == 0) refl
  where
    go : (b : Bool) → (d == 0) ≡ b → b ≡ false
    go true e = let z : d ≡ 0 = eqb-true d 0 e in absurd (omega (arith, l, z))
    go false e = refl

room : (d : ℕ) → (d == 0) ≡ false → 0 < d
room zero e = absurd (cc)
room (suc d) e = omega arith

opened_owes : {B : Type 0} (S : List Lexeme → List Lexeme → B → Type 0) (depth : ℕ) (ts : List Lexeme) (f : Unit {0} → Parse B)
    → (0 < depth → (t : Lexeme) (us : List Lexeme) → t.kind ≡ k.Open → Owes B (S (t ∷ us)) (f tt us)) → Owes B (S ts) (opening depth ts >>= f)
opened_owes {B = B} S depth ts f g = either (λ r. Owes B (S ts) (r >>= f)) (depth == 0) None (expect k.Open ts) (λ e. tt) (λ e. opens S k.Open ts f (g (room depth e)))

opened_met : {B : Type 0} {rest : List Lexeme} {y : B} (depth : ℕ) (t : Lexeme) (ts : List Lexeme) (f : Unit {0} → Parse B) → 0 < depth → t.kind ≡ k.Open
    → Met 0 ts (f tt ts) y rest → Met 1 (t ∷ ts) (opening depth (t ∷ ts) >>= f) y rest
opened_met depth t ts f l e m = met_is _ _ (ap (λ b. cond b None (expect k.Open (t ∷ ts)) >>= f) (may depth l)) (met_expect k.Open t ts f e m)

module _ (depth : ℕ) (Inner : Phrase Query) (inner : Parse Query) (ag : Agrees first_query ends_query Inner inner) where
  -- ---- arguments

  comma_agrees : Agrees is_comma ends_query (CommaThen Inner) (after_comma inner)
  comma_agrees = record { begins = begins; sound = sound; complete = complete }
    where
      begins : (ts rest : List Lexeme) (x : Query) → CommaThen Inner ts rest x → Begins is_comma ts
      begins ts rest x (comma_then e p) = ap is_comma e

      sound : (ts : List Lexeme) → Owes Query (CommaThen Inner ts) (after_comma inner ts)
      sound ts = opens (CommaThen Inner) k.Comma ts (λ _ us. inner us) (λ t us e. owes_as (Inner us) (CommaThen Inner (t ∷ us)) (inner us) (ag.sound us) (λ x rest p. comma_then e p))

      complete : (ts rest : List Lexeme) (x : Query) → CommaThen Inner ts rest x → Stops ends_query rest → Met 1 ts (after_comma inner ts) x rest
      complete ts rest x (comma_then {t = t} {ts = us} e p) s = met_expect k.Comma t us (λ _ us. inner us) e (met_less (ag.complete us rest x p s))

  comma_seen : (ts : List Lexeme) → Begins is_comma ts → sees k.Comma ts ≡ true
  comma_seen [] b = absurd b
  comma_seen (t ∷ ts) b = sees_it t ts k.Comma (is_it t.kind b)
    where
      is_it : (q : QueryTokenKind) → is_comma q ≡ true → q ≡ k.Comma
      is_it k.Comma e = refl
      is_it q e = absurd (cc)

  close_stops : (c : Lexeme) (rest : List Lexeme) → c.kind ≡ k.Close → Stops ends_query (c ∷ rest)
  close_stops c rest e = ap ends_query e

  arguments_sound : (ts : List Lexeme) → Owes (List Query) (AreArguments Inner ts) (arguments inner ts)
  unfolding arguments
  arguments_sound ts = opens_if (AreArguments Inner) k.Close ts (λ us. Some ([], us)) _ (λ t us e. G.no_arguments e)
      (λ no. seq (Inner ts) (AreArguments Inner ts) (inner ts) (λ x mid. repeat (sees k.Comma) (after_comma inner) (x ∷ []) mid >>= λ xs us. expect k.Close us >>= λ _ rest. Some (xs, rest)) (ag.sound ts)
      (λ x mid p. seq (λ us ys. (xs : List Query) × (ys ≡ (x ∷ []) ++ xs) × Repeat (CommaThen Inner) mid us xs) (AreArguments Inner ts) (repeat (sees k.Comma) (after_comma inner) (x ∷ []) mid) (λ xs us. expect k.Close us >>= λ _ rest. Some (xs, rest))
      (repeat_sound (CommaThen Inner) (after_comma inner) comma_agrees (sees k.Comma) (x ∷ []) mid)
      (λ ys us w. expects (λ m. Repeat (CommaThen Inner) mid m w.0) (AreArguments Inner ts) k.Close us (λ _ rest. Some (ys, rest)) w.2
      (λ c vs e v. subst (λ zs. AreArguments Inner ts vs zs) (sym w.1) (G.arguments p v e)))))

  arguments_met : (ts rest : List Lexeme) (xs : List Query) → AreArguments Inner ts rest xs → Met 1 ts (arguments inner ts) xs rest
  unfolding arguments
  arguments_met ts rest xs (G.no_arguments {c = c} e) = met_yes (sees k.Close (c ∷ rest)) (Some ([], rest)) _ (sees_it c rest k.Close e) (met_over c rest (met_done [] rest))
  arguments_met ts rest xs (G.arguments {c = c} {mid = mid} {x = x} {xs = ys} p ps e) =
      met_no (sees k.Close ts) (Some ([], next ts)) _ (begins_no first_query ts k.Close (ag.begins ts mid x p) refl)
      (met_then (inner ts) (λ x mid. repeat (sees k.Comma) (after_comma inner) (x ∷ []) mid >>= λ xs us. expect k.Close us >>= λ _ rest. Some (xs, rest))
      (ag.complete ts mid x p (repeat_stops (CommaThen Inner) (after_comma inner) comma_agrees (sees k.Comma) comma_seen comma_ends mid (c ∷ rest) ys ps (close_stops c rest e)))
      (met_then0 (repeat (sees k.Comma) (after_comma inner) (x ∷ []) mid) (λ xs us. expect k.Close us >>= λ _ rest. Some (xs, rest))
      (repeat_complete (CommaThen Inner) (after_comma inner) comma_agrees (sees k.Comma) comma_seen comma_ends (x ∷ []) mid (c ∷ rest) ys ps (close_stops c rest e) (sees_other is_close c rest k.Comma k.Close e refl refl))
      (met_less (met_expect k.Close c rest (λ _ rest. Some (x ∷ ys, rest)) e (met_done (x ∷ ys) rest)))))

  -- ---- operands

  parenthesized_sound : (ts : List Lexeme) → Owes Query (IsOperand depth Inner ts) (parenthesized depth inner ts)
  unfolding parenthesized
  parenthesized_sound ts = opened_owes (IsOperand depth Inner) depth ts (λ _ us. inner us >>= λ x mid. expect k.Close mid >>= λ _ rest. Some (q.Parenthesized x, rest))
      (λ l t us e. seq (Inner us) (IsOperand depth Inner (t ∷ us)) (inner us) (λ x mid. expect k.Close mid >>= λ _ rest. Some (q.Parenthesized x, rest)) (ag.sound us)
      (λ x mid p. expects (λ m. Inner us m x) (IsOperand depth Inner (t ∷ us)) k.Close mid (λ _ rest. Some (q.Parenthesized x, rest)) p
      (λ c vs f w. G.parenthesized l e w f)))

  set_sound : (s : Lexeme) (ts : List Lexeme) → s.kind ≡ k.Set → Owes Query (IsOperand depth Inner (s ∷ ts)) (set_of depth ts)
  unfolding set_of
  set_sound s ts is = opened_owes (λ us. IsOperand depth Inner (s ∷ us)) depth ts (λ _ us. repeat begins_word a_word [] us >>= λ ws mid. expect k.Close mid >>= λ _ rest. Some (q.Set ws, rest))
      (λ l t us e. seq (λ mid ys. (ws : List (List ℕ)) × (ys ≡ [] ++ ws) × Repeat IsWord us mid ws) (IsOperand depth Inner (s ∷ t ∷ us)) (repeat begins_word a_word [] us) (λ ws mid. expect k.Close mid >>= λ _ rest. Some (q.Set ws, rest))
      (repeat_sound IsWord a_word words_agree begins_word [] us)
      (λ ys mid w. expects (λ m. Repeat IsWord us m w.0) (IsOperand depth Inner (s ∷ t ∷ us)) k.Close mid (λ _ rest. Some (q.Set ys, rest)) w.2
      (λ c vs f v. subst (λ zs. IsOperand depth Inner (s ∷ t ∷ us) vs (q.Set zs)) (sym w.1) (G.set l is e v f))))

  call_sound : (f : Lexeme) (ts : List Lexeme) → f.kind ≡ k.Word → Owes Query (IsOperand depth Inner (f ∷ ts)) (call depth inner f.spelling ts)
  unfolding call
  call_sound f ts is = opened_owes (λ us. IsOperand depth Inner (f ∷ us)) depth ts (λ _ us. arguments inner us >>= λ xs rest. Some (q.Call f.spelling xs, rest))
      (λ l t us e. seq (AreArguments Inner us) (IsOperand depth Inner (f ∷ t ∷ us)) (arguments inner us) (λ xs rest. Some (q.Call f.spelling xs, rest)) (arguments_sound us)
      (λ xs rest p. G.call l is e p refl))

  operand_at : (q : QueryTokenKind) (t : Lexeme) (ts : List Lexeme) → t.kind ≡ q → Owes Query (IsOperand depth Inner (t ∷ ts)) (operand_by depth inner q t ts)
  operand_at k.Word t ts e = either (Owes Query (IsOperand depth Inner (t ∷ ts))) (sees k.Open ts) (call depth inner t.spelling ts) (Some (q.Word t.spelling, ts))
      (λ y. call_sound t ts e) (λ n. G.word (G.bare e refl))
  operand_at k.Quoted t ts e = G.word (G.quoted e refl)
  operand_at k.Variable t ts e = G.variable e refl
  operand_at k.Open t ts e = parenthesized_sound (t ∷ ts)
  operand_at k.Set t ts e = set_sound t ts e
  operand_at _ t ts e = tt

  abbrev OperandReading : Lexeme → List Lexeme → QueryTokenKind → Found Query
  OperandReading t ts q = operand_by depth inner q t ts

  pub operand_agrees : Agrees first_operand ends_operand (IsOperand depth Inner) (operand depth inner)
  unfolding operand parenthesized set_of call
  operand_agrees = record { begins = begins; sound = sound; complete = complete }
    where
      begins : (ts rest : List Lexeme) (x : Query) → IsOperand depth Inner ts rest x → Begins first_operand ts
      begins ts rest x (G.word (G.bare e f)) = ap first_operand e
      begins ts rest x (G.word (G.quoted e f)) = ap first_operand e
      begins ts rest x (G.variable e f) = ap first_operand e
      begins ts rest x (G.parenthesized l e p f) = ap first_operand e
      begins ts rest x (G.set l e f ps g) = ap first_operand e
      begins ts rest x (G.call l e f ps g) = ap first_operand e

      sound : (ts : List Lexeme) → Owes Query (IsOperand depth Inner ts) (operand depth inner ts)
      sound [] = tt
      sound (t ∷ ts) = operand_at t.kind t ts refl

      complete : (ts rest : List Lexeme) (x : Query) → IsOperand depth Inner ts rest x → Stops ends_operand rest → Met 1 ts (operand depth inner ts) x rest
      complete ts rest y (G.word (G.bare {t = t} {w = w} e f)) s = met_is _ _ (ap (OperandReading t rest) e)
          (met_no (sees k.Open rest) (call depth inner t.spelling rest) (Some (q.Word t.spelling, rest)) (stops_no ends_operand rest k.Open s refl)
          (met (ap (λ v. Some (q.Word v, rest)) (sym f)) (omega arith)))
      complete ts rest y (G.word (G.quoted {t = t} e f)) s = met_is _ _ (ap (OperandReading t rest) e) (met (ap (λ v. Some (q.Word v, rest)) (sym f)) (omega arith))
      complete ts rest y (G.variable {t = t} e f) s = met_is _ _ (ap (OperandReading t rest) e) (met (ap (λ x. Some (x, rest)) (sym f)) (omega arith))
      complete ts rest y (G.parenthesized {p = p} {c = c} {ts = us} {x = x} l e w f) s = met_is _ _ (ap (OperandReading p us) e)
          (opened_met depth p us (λ _ us. inner us >>= λ x mid. expect k.Close mid >>= λ _ rest. Some (q.Parenthesized x, rest)) l e
          (met_less (met_then (inner us) (λ x mid. expect k.Close mid >>= λ _ rest. Some (q.Parenthesized x, rest)) (ag.complete us (c ∷ rest) x w (close_stops c rest f))
          (met_less (met_expect k.Close c rest (λ _ rest. Some (q.Parenthesized x, rest)) f (met_done (q.Parenthesized x) rest))))))
      complete ts rest y (G.set {s = t} {p = p} {c = c} {ts = us} {ws = ws} l e f ps g) s = met_is _ _ (ap (OperandReading t (p ∷ us)) e)
          (met_over t (p ∷ us) (met_less (opened_met depth p us (λ _ us. repeat begins_word a_word [] us >>= λ ws mid. expect k.Close mid >>= λ _ rest. Some (q.Set ws, rest)) l f
          (met_then0 (repeat begins_word a_word [] us) (λ ws mid. expect k.Close mid >>= λ _ rest. Some (q.Set ws, rest))
          (repeat_complete IsWord a_word words_agree begins_word word_seen joins_any [] us (c ∷ rest) ws ps refl (ap is_word g))
          (met_less (met_expect k.Close c rest (λ _ rest. Some (q.Set ws, rest)) g (met_done (q.Set ws) rest)))))))
      complete ts rest y (G.call {f = t} {p = p} {ts = us} {xs = xs} l e f ps g) s = met_is _ _ (ap (OperandReading t (p ∷ us)) e)
          (met_yes (sees k.Open (p ∷ us)) (call depth inner t.spelling (p ∷ us)) (Some (q.Word t.spelling, p ∷ us)) (sees_it p us k.Open f)
          (met_over t (p ∷ us) (met_less (opened_met depth p us (λ _ us. arguments inner us >>= λ xs rest. Some (q.Call t.spelling xs, rest)) l f
          (met_less (met_then (arguments inner us) (λ xs rest. Some (q.Call t.spelling xs, rest)) (arguments_met us rest xs ps) (met_as (sym g) (met_done (q.Call t.spelling xs) rest))))))))

  -- ---- lets

  abbrev IsName : List Lexeme → List Lexeme → List ℕ → Type 0
  IsName ts rest name = (n : Lexeme) × (ts ≡ n ∷ rest) × (n.kind ≡ k.Word) × (is_variable_name n.spelling ≡ true) × (name ≡ n.spelling)

  name_sound : (ts : List Lexeme) → Owes (List ℕ) (IsName ts) (a_name ts)
  name_sound [] = tt
  name_sound (t ∷ ts) = either (Owes (List ℕ) (IsName (t ∷ ts))) (same_kind t.kind k.Word) (cond (is_variable_name t.spelling) (Some (t.spelling, ts)) None) None
      (λ e. either (Owes (List ℕ) (IsName (t ∷ ts))) (is_variable_name t.spelling) (Some (t.spelling, ts)) None (λ f. (t, refl, is_kind t.kind k.Word e, f, refl)) (λ f. tt)) (λ e. tt)

  binding_sound : (l n e : Lexeme) (ts : List Lexeme) → 0 < depth → l.kind ≡ k.Let → n.kind ≡ k.Word → is_variable_name n.spelling ≡ true → e.kind ≡ k.Equals
      → Owes Query (IsLet depth Inner (l ∷ n ∷ e ∷ ts)) (binding inner n.spelling ts)
  unfolding binding
  binding_sound l n e ts l0 le ne names ee = seq (Inner ts) (IsLet depth Inner (l ∷ n ∷ e ∷ ts)) (inner ts) (λ x mid. expect k.In mid >>= λ _ us. inner us >>= λ y rest. Some (q.Let n.spelling x y, rest)) (ag.sound ts)
      (λ x mid p. expects (λ m. Inner ts m x) (IsLet depth Inner (l ∷ n ∷ e ∷ ts)) k.In mid (λ _ us. inner us >>= λ y rest. Some (q.Let n.spelling x y, rest)) p
      (λ i us f w. seq (Inner us) (IsLet depth Inner (l ∷ n ∷ e ∷ ts)) (inner us) (λ y rest. Some (q.Let n.spelling x y, rest)) (ag.sound us)
      (λ y rest v. G.let_in l0 le ne names ee w f v refl)))

  pub let_sound : (l : Lexeme) (ts : List Lexeme) → l.kind ≡ k.Let → Owes Query (IsLet depth Inner (l ∷ ts)) (let_in depth inner ts)
  unfolding let_in
  let_sound l ts le = either (Owes Query (IsLet depth Inner (l ∷ ts))) (depth == 0) None (a_name ts >>= λ name us. expect k.Equals us >>= λ _ vs. binding inner name vs) (λ e. tt)
      (λ e. seq (IsName ts) (IsLet depth Inner (l ∷ ts)) (a_name ts) (λ name us. expect k.Equals us >>= λ _ vs. binding inner name vs) (name_sound ts) (named (room depth e)))
    where
      named : 0 < depth → (name : List ℕ) (mid : List Lexeme) → IsName ts mid name → Owes Query (IsLet depth Inner (l ∷ ts)) (expect k.Equals mid >>= λ _ vs. binding inner name vs)
      named l0 name mid (n, same, ne, names, is) = subst (λ us. Owes Query (IsLet depth Inner (l ∷ us)) (expect k.Equals mid >>= λ _ vs. binding inner name vs)) (sym same)
          (opens (λ us. IsLet depth Inner (l ∷ n ∷ us)) k.Equals mid (λ _ vs. binding inner name vs)
          (λ e vs f. subst (λ v. Owes Query (IsLet depth Inner (l ∷ n ∷ e ∷ vs)) (binding inner v vs)) (sym is) (binding_sound l n e vs l0 le ne names f)))

  name_met : (n : Lexeme) (rest : List Lexeme) → n.kind ≡ k.Word → is_variable_name n.spelling ≡ true → Met 1 (n ∷ rest) (a_name (n ∷ rest)) n.spelling rest
  name_met n rest e f = met_yes (same_kind n.kind k.Word) (cond (is_variable_name n.spelling) (Some (n.spelling, rest)) None) None (sees_it n rest k.Word e)
      (met_yes (is_variable_name n.spelling) (Some (n.spelling, rest)) None f (met_over n rest (met_done n.spelling rest)))

  in_stops : (i : Lexeme) (rest : List Lexeme) → i.kind ≡ k.In → Stops ends_query (i ∷ rest)
  in_stops i rest e = ap ends_query e

  binding_met : (i : Lexeme) (name : List ℕ) (ts mid rest : List Lexeme) (x y : Query) → Inner ts (i ∷ mid) x → i.kind ≡ k.In → Inner mid rest y → Stops ends_query rest
      → Met 1 ts (binding inner name ts) (q.Let name x y) rest
  unfolding binding
  binding_met i name ts mid rest x y p e w s = met_then (inner ts) (λ x mid. expect k.In mid >>= λ _ us. inner us >>= λ y rest. Some (q.Let name x y, rest)) (ag.complete ts (i ∷ mid) x p (in_stops i mid e))
      (met_less (met_expect k.In i mid (λ _ us. inner us >>= λ y rest. Some (q.Let name x y, rest)) e
      (met_less (met_then (inner mid) (λ y rest. Some (q.Let name x y, rest)) (ag.complete mid rest y w s) (met_done (q.Let name x y) rest)))))

  -- a let begins with `let`, and is read whole
  pub let_met : (ts rest : List Lexeme) (x : Query) → IsLet depth Inner ts rest x → Stops ends_query rest → (sees k.Let ts ≡ true) × Met 1 ts (let_in depth inner (next ts)) x rest
  unfolding let_in
  let_met ts rest z (G.let_in {l = l} {n = n} {e = e} {i = i} {ts = us} {mid = mid} {x = x} {y = y} l0 le ne names ee p ie w f) s = (
    sees_it l (n ∷ e ∷ us) k.Let le,
    met_over l (n ∷ e ∷ us) (met_less (met_no (depth == 0) None (a_name (n ∷ e ∷ us) >>= λ name us. expect k.Equals us >>= λ _ vs. binding inner name vs) (may depth l0)
        (met_then (a_name (n ∷ e ∷ us)) (λ name us. expect k.Equals us >>= λ _ vs. binding inner name vs) (name_met n (e ∷ us) ne names)
        (met_less (met_expect k.Equals e us (λ _ vs. binding inner n.spelling vs) ee (met_less (met_as (sym f) (binding_met i n.spelling us mid rest x y p ie w s)))))))),
  )
