-- Operators: chains, prefixes, comparisons, conditionals.
use Rattle.std.proofs.Common.{◌≡◌, ℕ, zero, suc, ◌≤◌, Bool, true, false, ◌||◌, cond, List, [], ◌∷◌, ◌++◌, length, Option, Some, None, Ok, Err, refl, sym, ap, ◌∙◌, subst, append_assoc, append-nil, arith}
use Rattle.bq_source.specs.declared.token.TokenKind.{TokenKind}
use Rattle.bq_source.specs.declared.token.TokenKind.TheVariants as k
use Rattle.bq_source.specs.Token.{same_kind}
use Rattle.bq_parse_grammar.specs.Lexeme.{Lexeme}
use Rattle.bq_parse_grammar.specs.declared.refusal.SyntaxErr.TheVariants.{Memory, Syntax, Lambda}
use Rattle.bq_parse_grammar.specs.declared.tree.Expr.{Expr}
use Rattle.bq_parse_grammar.specs.declared.tree.Expr.TheVariants as e
use Rattle.bq_parse_grammar.specs.declared.tree.Operator.{Operator}
use Rattle.bq_parse_grammar.specs.declared.tree.UnaryOperator.{UnaryOperator}
use Rattle.bq_parse_grammar.specs.declared.tree.Comparison.{Comparison}
use Rattle.bq_parse_grammar.specs.declared.tree.Comparison.TheVariants as c
use Rattle.bq_parse_grammar.specs.declared.tree.Operation.{Operation, roll-Operation}
use Rattle.bq_parse_grammar.specs.declared.tree.Choice.{Choice, roll-Choice}
use Rattle.bq_parse_grammar.specs.Operators.{operator_at, sign, negation, comparison}
use Rattle.bq_parse_grammar.specs.Phrases.{Phrase, Repeat, over, again}
use Rattle.bq_parse_grammar.specs.Grammar as G
use Rattle.bq_parse_grammar.specs.Grammar.{binary_of, unary_of, choices_of, last_of, conditional_of, IsPrefix, IsPrefixed, IsOperation, IsChain, IsUnary, IsBinary, IsCompOp, IsComp, IsNot, IsAnd, IsOr, IsChoice, IsTest}
use Rattle.bq_parse_grammar.specs.Turns.{Found, Parse, ◌>>=◌, sees, next, expect, ended, next_turn, turns, whole, repeat}
use Rattle.bq_parse_grammar.specs.Reading.{is_known, has, known, looked_up, prefixed, operation, chain, unary, binary, begins_comparison, comp_op, comp_after, comp, not_test, and_test, or_test, choice, with_choice, choice_turn, chosen_of, conditional, test}
use Rattle.bq_parse_grammar.proofs.NextToken.{sees_it, sees_no, tok, tok_kind}
use Rattle.bq_parse_grammar.proofs.Classes.{all_kinds, implies, excludes, implied, excluded, ends, any, is_operator, is_negation, first_operand, first_unary, first_not, is_lambda, first_test, first_comparison, is_if, if_same}
use Rattle.bq_parse_grammar.proofs.Agrees.{Begins, Stops, Owes, Met, met, cut, Agrees, either, seq, Never, seq_never, never_then, never_expect, never_repeat, expects, opens, opens_if, then_is, owes_as, met_is, met_as, met_less, met_over, met_done, met_then, met_then0, met_then01, met_expect, met_yes, met_no, begins_no, stops_no, stops_wide, begins_stops, repeat_sound, repeat_stops, repeat_complete}

known_is : {B : Type 0} (o : Option B) (y : B) → o ≡ Some y → is_known o ≡ true
known_is o y e = ap is_known e

or_left : (a b : Bool) → a ≡ true → (a || b) ≡ true
or_left true b h = refl
or_left false b h = absurd (cc)

or_right : (a b : Bool) → b ≡ true → (a || b) ≡ true
or_right true b h = refl
or_right false b h = h

pub has_it : {B : Type 0} (table : TokenKind → Option B) (ts : List Lexeme) → Begins (λ q. is_known (table q)) ts → has table ts ≡ true
has_it table [] b = absurd b
has_it table (t ∷ ts) b = b

pub has_none : {B : Type 0} (table : TokenKind → Option B) (f : TokenKind → Bool) (ts : List Lexeme) → ((q : TokenKind) → f q ≡ true → is_known (table q) ≡ false)
    → Stops f ts → has table ts ≡ false
has_none table f [] g s = refl
has_none table f (t ∷ ts) g s = g t.kind s

pub stops_any : (ts : List Lexeme) → Stops any ts
stops_any [] = tt
stops_any (t ∷ ts) = refl

-- ---- prefixes

pub prefix_agrees : (table : TokenKind → Option UnaryOperator) → Agrees (λ q. is_known (table q)) any (IsPrefix table) (looked_up table)
prefix_agrees table = record { begins = begins; sound = sound; complete = complete }
  where
    begins : (ts rest : List Lexeme) (y : UnaryOperator) → IsPrefix table ts rest y → Begins (λ q. is_known (table q)) ts
    begins ts rest y (G.prefix {t = t} e) = known_is (table t.kind) y e

    sound : (ts : List Lexeme) → Owes UnaryOperator (IsPrefix table ts) (looked_up table ts)
    sound [] = tt
    sound (t ∷ ts) = go (table t.kind) refl
      where
        go : (o : Option UnaryOperator) → table t.kind ≡ o → Owes UnaryOperator (IsPrefix table (t ∷ ts)) (known o ts)
        go None h = tt
        go (Some y) h = G.prefix h

    complete : (ts rest : List Lexeme) (y : UnaryOperator) → IsPrefix table ts rest y → Stops any rest → Met 1 ts (looked_up table ts) y rest
    complete ts rest y (G.prefix {t = t} e) s = met (ap (λ o. known o rest) e) (omega arith)

looked_up_never : {B : Type 0} (table : TokenKind → Option B) (ts : List Lexeme) → Never (looked_up table ts)
looked_up_never table [] = tt
looked_up_never {B = B} table (t ∷ ts) = go (table t.kind)
  where
    go : (o : Option B) → Never (known o ts)
    go None = tt
    go (Some y) = tt

module _ {first ends' : TokenKind → Bool} (table : TokenKind → Option UnaryOperator) (Operand : Phrase Expr) (r : Parse Expr) (ag : Agrees first ends' Operand r)
    (apart : all_kinds (excludes first (λ q. is_known (table q))) ≡ true) where
  pub prefixed_agrees : Agrees (λ q. first q || is_known (table q)) ends' (IsPrefixed table Operand) (prefixed table r)
  unfolding prefixed
  prefixed_agrees = record { begins = begins; sound = sound; complete = complete }
    where
      wide : (ts : List Lexeme) → Begins first ts → Begins (λ q. first q || is_known (table q)) ts
      wide [] b = absurd b
      wide (t ∷ ts) b = or_left (first t.kind) (is_known (table t.kind)) b

      begins : (ts rest : List Lexeme) (y : Expr) → IsPrefixed table Operand ts rest y → Begins (λ q. first q || is_known (table q)) ts
      begins ts rest y (G.prefixed {x = x} over p e) = wide ts (ag.begins ts rest x p)
      begins ts rest y (G.prefixed (again (G.prefix {t = t} {y = o} g) ps) p e) = or_right (first t.kind) (is_known (table t.kind)) (known_is (table t.kind) o g)

      sound : (ts : List Lexeme) → Owes Expr (IsPrefixed table Operand ts) (prefixed table r ts)
      sound ts = seq_never (λ rest ys. (xs : List UnaryOperator) × (ys ≡ [] ++ xs) × Repeat (IsPrefix table) ts rest xs) (IsPrefixed table Operand ts)
          (repeat (has table) (looked_up table) [] ts) (λ os mid. r mid >>= λ x rest. Ok (unary_of os x, rest))
          (never_repeat (looked_up table) (looked_up_never table) (has table) [] ts)
          (repeat_sound (IsPrefix table) (looked_up table) (prefix_agrees table) (has table) [] ts)
          (λ os mid w. then_is (Operand mid) (IsPrefixed table Operand ts) (r mid) (unary_of os) (ag.sound mid) (λ x rest p. G.prefixed w.2 p (ap (λ z. unary_of z x) w.1)))

      none : (mid rest : List Lexeme) (x : Expr) → Operand mid rest x → has table mid ≡ false
      none [] rest x p = absurd (ag.begins [] rest x p)
      none (t ∷ ts) rest x p = excluded first (λ q. is_known (table q)) apart t.kind (ag.begins (t ∷ ts) rest x p)

      complete : (ts rest : List Lexeme) (y : Expr) → IsPrefixed table Operand ts rest y → Stops ends' rest → Met 1 ts (prefixed table r ts) y rest
      complete ts rest y (G.prefixed {mid = mid} {x = x} {os = os} ps p e) s =
          met_then01 (repeat (has table) (looked_up table) [] ts) (λ os mid. r mid >>= λ x rest. Ok (unary_of os x, rest))
          (repeat_complete (IsPrefix table) (looked_up table) (prefix_agrees table) (has table) (has_it table) (λ q h. refl) [] ts mid os ps (stops_any mid) (none mid rest x p))
          (met_then (r mid) (λ x rest. Ok (unary_of os x, rest)) (ag.complete mid rest x p s) (met_as (sym e) (met_done (unary_of os x) rest)))

-- ---- chains

module _ {first ends' : TokenKind → Bool} (l : ℕ) (Operand : Phrase Expr) (r : Parse Expr) (ag : Agrees first ends' Operand r) where
  abbrev made : Operator → Expr → Operation
  made o x = roll-Operation (record { operator = o; operand = x })

  pub operation_agrees : Agrees (is_operator l) ends' (IsOperation l Operand) (operation l r)
  unfolding operation
  operation_agrees = record { begins = begins; sound = sound; complete = complete }
    where
      begins : (ts rest : List Lexeme) (y : Operation) → IsOperation l Operand ts rest y → Begins (is_operator l) ts
      begins ts rest y (G.operation {t = t} {o = o} e p f) = known_is (operator_at l t.kind) o e

      sound : (ts : List Lexeme) → Owes Operation (IsOperation l Operand ts) (operation l r ts)
      sound [] = tt
      sound (t ∷ ts) = go (operator_at l t.kind) refl
        where
          go : (o : Option Operator) → operator_at l t.kind ≡ o
              → Owes Operation (IsOperation l Operand (t ∷ ts)) (known o ts >>= λ o us. r us >>= λ x rest. Ok (roll-Operation (record { operator = o; operand = x }), rest))
          go None h = tt
          go (Some o) h = then_is (Operand ts) (IsOperation l Operand (t ∷ ts)) (r ts) (λ x. roll-Operation (record { operator = o; operand = x })) (ag.sound ts) (λ x rest p. G.operation h p refl)

      complete : (ts rest : List Lexeme) (y : Operation) → IsOperation l Operand ts rest y → Stops ends' rest → Met 1 ts (operation l r ts) y rest
      complete ts rest y (G.operation {t = t} {ts = us} {x = x} {o = o} e p f) s =
          met_is _ (known (Some o) us >>= λ o us. r us >>= λ x rest. Ok (roll-Operation (record { operator = o; operand = x }), rest))
          (ap (λ w. known w us >>= λ o us. r us >>= λ x rest. Ok (roll-Operation (record { operator = o; operand = x }), rest)) e)
          (met_over t us (met_less (met_then (r us) (λ x rest. Ok (roll-Operation (record { operator = o; operand = x }), rest)) (ag.complete us rest x p s) (met_as (sym f) (met_done (roll-Operation (record { operator = o; operand = x })) rest)))))

module _ {first : TokenKind → Bool} (below l : ℕ) (Operand : Phrase Expr) (r : Parse Expr) (ag : Agrees first (ends below) Operand r)
    (joins : all_kinds (implies (is_operator l) (ends below)) ≡ true) (wider : all_kinds (implies (ends l) (ends below)) ≡ true)
    (others : all_kinds (excludes (ends l) (is_operator l)) ≡ true) where
  pub chain_agrees : Agrees first (ends l) (IsChain l Operand) (chain l r)
  unfolding chain
  chain_agrees = record { begins = begins; sound = sound; complete = complete }
    where
      begins : (ts rest : List Lexeme) (y : Expr) → IsChain l Operand ts rest y → Begins first ts
      begins ts rest y (G.chain {mid = mid} {x = x} p ps e) = ag.begins ts mid x p

      sound : (ts : List Lexeme) → Owes Expr (IsChain l Operand ts) (chain l r ts)
      sound ts = seq (Operand ts) (IsChain l Operand ts) (r ts) (λ x mid. repeat (has (operator_at l)) (operation l r) [] mid >>= λ os rest. Ok (binary_of x os, rest)) (ag.sound ts)
          (λ x mid p. then_is (λ rest ys. (xs : List Operation) × (ys ≡ [] ++ xs) × Repeat (IsOperation l Operand) mid rest xs) (IsChain l Operand ts)
          (repeat (has (operator_at l)) (operation l r) [] mid) (binary_of x)
          (repeat_sound (IsOperation l Operand) (operation l r) (operation_agrees l Operand r ag) (has (operator_at l)) [] mid)
          (λ os rest w. G.chain p w.2 (ap (binary_of x) w.1)))
          (λ h rest. let x = h rest in (x.0, G.chain x.1 over refl))

      complete : (ts rest : List Lexeme) (y : Expr) → IsChain l Operand ts rest y → Stops (ends l) rest → Met 1 ts (chain l r ts) y rest
      complete ts rest y (G.chain {mid = mid} {x = x} {os = os} p ps e) s =
          let s' = stops_wide (ends l) (ends below) rest (implied (ends l) (ends below) wider) s in
          met_then (r ts) (λ x mid. repeat (has (operator_at l)) (operation l r) [] mid >>= λ os rest. Ok (binary_of x os, rest))
          (ag.complete ts mid x p (repeat_stops (IsOperation l Operand) (operation l r) (operation_agrees l Operand r ag) (has (operator_at l)) (has_it (operator_at l)) (implied (is_operator l) (ends below) joins) mid rest os ps s'))
          (met_then0 (repeat (has (operator_at l)) (operation l r) [] mid) (λ os rest. Ok (binary_of x os, rest))
          (repeat_complete (IsOperation l Operand) (operation l r) (operation_agrees l Operand r ag) (has (operator_at l)) (has_it (operator_at l)) (implied (is_operator l) (ends below) joins) [] mid rest os ps s'
          (has_none (operator_at l) (ends l) rest (excluded (ends l) (is_operator l) others) s))
          (met_as (sym e) (met_done (binary_of x os) rest)))

module _ (Primary : Phrase Expr) (base : Parse Expr) (primaries : Agrees first_operand (ends 0) Primary base) where
  unary_agrees : Agrees first_unary (ends 0) (IsUnary Primary) (unary base)
  unary_agrees = prefixed_agrees sign Primary base primaries refl

  binary_1 : Agrees first_unary (ends 1) (IsBinary Primary 1) (binary base 1)
  binary_1 = chain_agrees 0 1 (IsBinary Primary 0) (binary base 0) unary_agrees refl refl refl

  binary_2 : Agrees first_unary (ends 2) (IsBinary Primary 2) (binary base 2)
  binary_2 = chain_agrees 1 2 (IsBinary Primary 1) (binary base 1) binary_1 refl refl refl

  binary_3 : Agrees first_unary (ends 3) (IsBinary Primary 3) (binary base 3)
  binary_3 = chain_agrees 2 3 (IsBinary Primary 2) (binary base 2) binary_2 refl refl refl

  binary_4 : Agrees first_unary (ends 4) (IsBinary Primary 4) (binary base 4)
  binary_4 = chain_agrees 3 4 (IsBinary Primary 3) (binary base 3) binary_3 refl refl refl

  binary_5 : Agrees first_unary (ends 5) (IsBinary Primary 5) (binary base 5)
  binary_5 = chain_agrees 4 5 (IsBinary Primary 4) (binary base 4) binary_4 refl refl refl

  binary_6 : Agrees first_unary (ends 6) (IsBinary Primary 6) (binary base 6)
  binary_6 = chain_agrees 5 6 (IsBinary Primary 5) (binary base 5) binary_5 refl refl refl

  -- ---- comparisons

  comp_op_sound : (ts : List Lexeme) → Owes Comparison (IsCompOp Primary ts) (comp_op ts)
  unfolding comp_op
  comp_op_sound [] = tt
  comp_op_sound (t ∷ ts) = opens_if (IsCompOp Primary) k.Not (t ∷ ts) (λ us. expect k.In us >>= λ _ rest. Ok (c.NotIn, rest)) (looked_up comparison (t ∷ ts))
      (λ n us e. opens (λ vs rest y. IsCompOp Primary (n ∷ vs) rest y) k.In us (λ _ rest. Ok (c.NotIn, rest)) (λ i ws f. G.not_in e f))
      (λ h. go (comparison t.kind) refl)
    where
      go : (o : Option Comparison) → comparison t.kind ≡ o → Owes Comparison (IsCompOp Primary (t ∷ ts)) (known o ts)
      go None h = tt
      go (Some y) h = G.one_token h

  comp_op_never : (ts : List Lexeme) → Never (comp_op ts)
  unfolding comp_op
  comp_op_never ts = either Never (sees k.Not ts) (expect k.In (next ts) >>= λ _ rest. Ok (c.NotIn, rest)) (looked_up comparison ts)
      (λ e. never_then (expect k.In (next ts)) (λ _ rest. Ok (c.NotIn, rest)) (never_expect k.In (next ts)) (λ u mid. tt))
      (λ e. looked_up_never comparison ts)

  comp_op_begins : (ts rest : List Lexeme) (y : Comparison) → IsCompOp Primary ts rest y → Begins first_comparison ts
  comp_op_begins ts rest y (G.one_token {t = t} e) = or_left (is_known (comparison t.kind)) (is_negation t.kind) (known_is (comparison t.kind) y e)
  comp_op_begins ts rest y (G.not_in {n = n} e f) = or_right (is_known (comparison n.kind)) (is_negation n.kind) (ap is_negation e)

  comp_op_met : (ts rest : List Lexeme) (y : Comparison) → IsCompOp Primary ts rest y → Met 1 ts (comp_op ts) y rest
  unfolding comp_op
  comp_op_met ts rest y (G.one_token {t = t} e) =
      met_no (sees k.Not (t ∷ rest)) _ (looked_up comparison (t ∷ rest)) (sees_no (λ q. is_known (comparison q)) t rest k.Not (known_is (comparison t.kind) y e) refl)
      (met (ap (λ o. known o rest) e) (omega arith))
  comp_op_met ts rest y (G.not_in {n = n} {i = i} e f) =
      met_yes (sees k.Not (n ∷ i ∷ rest)) (expect k.In (i ∷ rest) >>= λ _ rest. Ok (c.NotIn, rest)) _ (sees_it n (i ∷ rest) k.Not e)
      (met_over n (i ∷ rest) (met_less (met_expect k.In i rest (λ _ rest. Ok (c.NotIn, rest)) f (met_done c.NotIn rest))))

  comp_agrees : Agrees first_unary (ends 7) (IsComp Primary) (comp base)
  unfolding comp
  comp_agrees = record { begins = begins; sound = sound; complete = complete }
    where
      begins : (ts rest : List Lexeme) (y : Expr) → IsComp Primary ts rest y → Begins first_unary ts
      begins ts rest y (G.alone p) = binary_6.begins ts rest y p
      begins ts rest y (G.compared {mid = mid} {x = x} p o q e) = binary_6.begins ts mid x p

      sound : (ts : List Lexeme) → Owes Expr (IsComp Primary ts) (comp base ts)
      sound ts = seq (IsBinary Primary 6 ts) (IsComp Primary ts) (binary base 6 ts) (λ x mid. comp_after base x mid) (binary_6.sound ts)
          (λ x mid p. either (Owes Expr (IsComp Primary ts)) (begins_comparison mid) (comp_op mid >>= λ o us. binary base 6 us >>= λ y rest. Ok (e.Compare x o y, rest)) (Ok (x, mid))
          (λ h. seq_never (IsCompOp Primary mid) (IsComp Primary ts) (comp_op mid) (λ o us. binary base 6 us >>= λ y rest. Ok (e.Compare x o y, rest)) (comp_op_never mid) (comp_op_sound mid)
          (λ o us q. then_is (IsBinary Primary 6 us) (IsComp Primary ts) (binary base 6 us) (e.Compare x o) (binary_6.sound us) (λ y rest w. G.compared p q w refl)))
          (λ h. G.alone p))
          (λ h rest. let x = h rest in (x.0, G.alone x.1))

      none : (ts : List Lexeme) → Stops (ends 7) ts → begins_comparison ts ≡ false
      none [] s = refl
      none (t ∷ ts) s = both (is_known (comparison t.kind)) (sees k.Not (t ∷ ts)) (excluded (ends 7) (λ q. is_known (comparison q)) refl t.kind s) (sees_no (ends 7) t ts k.Not s refl)
        where
          both : (a b : Bool) → a ≡ false → b ≡ false → (a || b) ≡ false
          both true b e f = absurd (cc)
          both false b e f = f

      some : (ts rest : List Lexeme) (o : Comparison) → IsCompOp Primary ts rest o → begins_comparison ts ≡ true
      some ts rest o (G.one_token {t = t} e) = or_left (is_known (comparison t.kind)) _ (known_is (comparison t.kind) o e)
      some ts rest o (G.not_in {n = n} {i = i} e f) = or_right (is_known (comparison n.kind)) _ (sees_it n (i ∷ rest) k.Not e)

      complete : (ts rest : List Lexeme) (y : Expr) → IsComp Primary ts rest y → Stops (ends 7) rest → Met 1 ts (comp base ts) y rest
      complete ts rest y (G.alone p) s =
          met_then (binary base 6 ts) (λ x mid. comp_after base x mid) (binary_6.complete ts rest y p (stops_wide (ends 7) (ends 6) rest (implied (ends 7) (ends 6) refl) s))
          (met_no (begins_comparison rest) _ (Ok (y, rest)) (none rest s) (met_done y rest))
      complete ts rest z (G.compared {mid = mid} {us = us} {x = x} {y = y} {o = o} p q w g) s =
          met_then (binary base 6 ts) (λ x mid. comp_after base x mid)
          (binary_6.complete ts mid x p (begins_stops first_comparison (ends 6) mid (implied first_comparison (ends 6) refl) (comp_op_begins mid us o q)))
          (met_yes (begins_comparison mid) (comp_op mid >>= λ o us. binary base 6 us >>= λ y rest. Ok (e.Compare x o y, rest)) (Ok (x, mid)) (some mid us o q)
          (met_less (met_then (comp_op mid) (λ o us. binary base 6 us >>= λ y rest. Ok (e.Compare x o y, rest)) (comp_op_met mid us o q)
          (met_less (met_then (binary base 6 us) (λ y rest. Ok (e.Compare x o y, rest)) (binary_6.complete us rest y w (stops_wide (ends 7) (ends 6) rest (implied (ends 7) (ends 6) refl) s))
          (met_as (sym g) (met_done (e.Compare x o y) rest)))))))

  not_agrees : Agrees first_not (ends 7) (IsNot Primary) (not_test base)
  not_agrees = prefixed_agrees negation (IsComp Primary) (comp base) comp_agrees refl

  and_agrees : Agrees first_not (ends 9) (IsAnd Primary) (and_test base)
  and_agrees = chain_agrees 7 9 (IsNot Primary) (not_test base) not_agrees refl refl refl

  pub or_agrees : Agrees first_not (ends 10) (IsOr Primary) (or_test base)
  or_agrees = chain_agrees 9 10 (IsAnd Primary) (and_test base) and_agrees refl refl refl

  -- ---- conditionals

  choice_agrees : Agrees is_if (ends 10) (IsChoice Primary) (choice base)
  unfolding choice
  choice_agrees = record { begins = begins; sound = sound; complete = complete }
    where
      begins : (ts rest : List Lexeme) (y : Expr × Expr) → IsChoice Primary ts rest y → Begins is_if ts
      begins ts rest y (G.choice e p f q) = ap is_if e

      sound : (ts : List Lexeme) → Owes (Expr × Expr) (IsChoice Primary ts) (choice base ts)
      sound ts = opens (IsChoice Primary) k.If ts (λ _ us. or_test base us >>= λ x mid. expect k.Else mid >>= λ _ ws. or_test base ws >>= λ y rest. Ok ((x, y), rest))
          (λ i us e. seq (IsOr Primary us) (IsChoice Primary (i ∷ us)) (or_test base us) (λ x mid. expect k.Else mid >>= λ _ ws. or_test base ws >>= λ y rest. Ok ((x, y), rest)) (or_agrees.sound us)
          (λ x mid p. expects (λ m. IsOr Primary us m x) (IsChoice Primary (i ∷ us)) k.Else mid (λ _ ws. or_test base ws >>= λ y rest. Ok ((x, y), rest)) p
          (λ l ws f q. then_is (IsOr Primary ws) (IsChoice Primary (i ∷ us)) (or_test base ws) (λ y. (x, y)) (or_agrees.sound ws) (λ y rest w. G.choice e q f w)))
          (λ h rest. let y = h rest in let x = h (tok k.Else ∷ us) in ((x.0, y.0), G.choice e x.1 (tok_kind k.Else) y.1)))

      complete : (ts rest : List Lexeme) (y : Expr × Expr) → IsChoice Primary ts rest y → Stops (ends 10) rest → Met 1 ts (choice base ts) y rest
      complete ts rest z (G.choice {i = i} {l = l} {ts = us} {mid = mid} {x = x} {y = y} e p f q) s =
          met_expect k.If i us (λ _ us. or_test base us >>= λ x mid. expect k.Else mid >>= λ _ ws. or_test base ws >>= λ y rest. Ok ((x, y), rest)) e
          (met_less (met_then (or_test base us) (λ x mid. expect k.Else mid >>= λ _ ws. or_test base ws >>= λ y rest. Ok ((x, y), rest))
          (or_agrees.complete us (l ∷ mid) x p (subst (λ q. ends 10 q ≡ true) (sym f) refl))
          (met_less (met_expect k.Else l mid (λ _ ws. or_test base ws >>= λ y rest. Ok ((x, y), rest)) f
          (met_less (met_then (or_test base mid) (λ y rest. Ok ((x, y), rest)) (or_agrees.complete mid rest y q s) (met_done (x, y) rest)))))))

  abbrev picked : Expr → Expr × Expr → Choice
  picked x q = roll-Choice (record { value = x; condition = q.0 })

  abbrev Chosen : List Choice → Expr → List Lexeme → List Lexeme → List Choice × Expr → Type 0
  Chosen found x ts rest z = (cs : List (Expr × Expr)) × (z ≡ (found ++ choices_of x cs, last_of x cs)) × Repeat (IsChoice Primary) ts rest cs

  choices_owe : (n : ℕ) (found : List Choice) (x : Expr) (ts : List Lexeme) → Owes (List Choice × Expr) (Chosen found x ts) (turns (choice_turn base) whole n (found, x) ts)
  unfolding turns
  choices_owe zero found x ts = ([], ap (λ (ys : List Choice). (ys, x)) (sym (append-nil found)), over)
  choices_owe (suc n) found x ts = go (choices_owe n) (sees k.If ts)
    where
      one : ((found : List Choice) (x : Expr) (ts : List Lexeme) → Owes (List Choice × Expr) (Chosen found x ts) (turns (choice_turn base) whole n (found, x) ts)) → (z : Found (Expr × Expr)) → Owes (Expr × Expr) (IsChoice Primary ts) z
          → Owes (List Choice × Expr) (Chosen found x ts) (next_turn (turns (choice_turn base) whole n) (with_choice (found, x) z))
      one more (Ok p) h = owes_as (Chosen (found ++ picked x p.0 ∷ []) p.0.1 p.1) (Chosen found x ts) _ (more (found ++ picked x p.0 ∷ []) p.0.1 p.1)
          (λ z rest w. (p.0 ∷ w.0, w.1 ∙ ap (λ (ys : List Choice). (ys, last_of p.0.1 w.0)) (append_assoc found (picked x p.0 ∷ []) (choices_of p.0.1 w.0)), again h w.2))
      one more (Err Memory) h = tt
      one more (Err Syntax) h = tt
      one more (Err Lambda) h = λ rest. let q = h rest in ((found ++ picked x q.0 ∷ [], q.0.1), (q.0 ∷ [], refl, again q.1 over))

      go : ((found : List Choice) (x : Expr) (ts : List Lexeme) → Owes (List Choice × Expr) (Chosen found x ts) (turns (choice_turn base) whole n (found, x) ts)) → (b : Bool)
          → Owes (List Choice × Expr) (Chosen found x ts) (next_turn (turns (choice_turn base) whole n) (cond b (with_choice (found, x) (choice base ts)) (ended (found, x) ts)))
      go more true = one more (choice base ts) (choice_agrees.sound ts)
      go more false = ([], ap (λ (ys : List Choice). (ys, x)) (sym (append-nil found)), over)

  choices_met : (n : ℕ) (found : List Choice) (x : Expr) (ts rest : List Lexeme) (cs : List (Expr × Expr)) → Repeat (IsChoice Primary) ts rest cs → Stops (ends 11) rest → length ts ≤ n
      → Met 0 ts (turns (choice_turn base) whole n (found, x) ts) (found ++ choices_of x cs, last_of x cs) rest
  unfolding turns
  choices_met zero found x ts rest cs over s le = met (ap (λ ys. Ok ((ys, x), ts)) (sym (append-nil found))) (omega arith)
  choices_met (suc n) found x ts rest cs over s le =
      met_is _ (Ok ((found, x), ts)) (ap (λ b. next_turn (turns (choice_turn base) whole n) (cond b (with_choice (found, x) (choice base ts)) (ended (found, x) ts))) (stops_no (ends 11) ts k.If s refl))
      (met (ap (λ ys. Ok ((ys, x), ts)) (sym (append-nil found))) (omega arith))
  choices_met zero found x [] rest cs (again {mid = mid} {x = y} p ps) s le = absurd (choice_agrees.begins [] mid y p)
  choices_met zero found x (t ∷ ts) rest cs (again p ps) s le = absurd (omega arith)
  choices_met (suc n) found x ts rest cs (again {mid = mid} {x = y} {xs = ys} p ps) s le =
      met_is _ (next_turn (turns (choice_turn base) whole n) (with_choice (found, x) (choice base ts)))
      (ap (λ b. next_turn (turns (choice_turn base) whole n) (cond b (with_choice (found, x) (choice base ts)) (ended (found, x) ts))) (sees_if ts (choice_agrees.begins ts mid y p)))
      (go (λ below. choices_met n (found ++ picked x y ∷ []) y.1 mid rest ys ps s below) (choice_agrees.complete ts mid y p (after mid ys ps)))
    where
      sees_if : (ts : List Lexeme) → Begins is_if ts → sees k.If ts ≡ true
      sees_if [] b = absurd b
      sees_if (t ∷ ts) b = implied is_if (λ q. same_kind q k.If) if_same t.kind b

      after : (mid : List Lexeme) (ys : List (Expr × Expr)) → Repeat (IsChoice Primary) mid rest ys → Stops (ends 10) mid
      after mid ys over = stops_wide (ends 11) (ends 10) mid (implied (ends 11) (ends 10) refl) s
      after mid ys (again {mid = m} {x = w} q qs) = begins_stops is_if (ends 10) mid (implied is_if (ends 10) refl) (choice_agrees.begins mid m w q)

      longer : {z : List Choice × Expr} {f : Found (List Choice × Expr)} → length mid ≤ length ts → Met 0 mid f z rest → Met 0 ts f z rest
      longer l (met b u) = met b (omega arith)
      longer l (cut b) = cut b

      go : (length mid ≤ n → Met 0 mid (turns (choice_turn base) whole n (found ++ picked x y ∷ [], y.1) mid) ((found ++ picked x y ∷ []) ++ choices_of y.1 ys, last_of y.1 ys) rest) → Met 1 ts (choice base ts) y mid
          → Met 0 ts (next_turn (turns (choice_turn base) whole n) (with_choice (found, x) (choice base ts))) (found ++ choices_of x (y ∷ ys), last_of x (y ∷ ys)) rest
      go more (cut a) = cut (ap (λ z. next_turn (turns (choice_turn base) whole n) (with_choice (found, x) z)) a)
      go more (met a l) = met_is _ _ (ap (λ z. next_turn (turns (choice_turn base) whole n) (with_choice (found, x) z)) a)
          (met_as (ap (λ (zs : List Choice). (zs, last_of y.1 ys)) (append_assoc found (picked x y ∷ []) (choices_of y.1 ys))) (longer (omega arith) (more (omega arith))))

  same_conditional : (x : Expr) (cs : List (Expr × Expr)) → chosen_of (choices_of x cs, last_of x cs) ≡ conditional_of x cs
  same_conditional x [] = refl
  same_conditional x (p ∷ ps) = refl

  pub test_agrees : Agrees first_test (ends 11) (IsTest Primary) (test base)
  unfolding test conditional
  test_agrees = record { begins = begins; sound = sound; complete = complete }
    where
      wide : (ts : List Lexeme) → Begins first_not ts → Begins first_test ts
      wide [] b = absurd b
      wide (t ∷ ts) b = or_left (first_not t.kind) (is_lambda t.kind) b

      begins : (ts rest : List Lexeme) (y : Expr) → IsTest Primary ts rest y → Begins first_test ts
      begins ts rest y (G.chosen {mid = mid} {x = x} p ps e) = wide ts (or_agrees.begins ts mid x p)
      begins ts rest y (G.left_out {t = t} e) = or_right (first_not t.kind) (is_lambda t.kind) (ap is_lambda e)

      chosen_owes : (ts mid : List Lexeme) (x : Expr) → IsOr Primary ts mid x → Owes Expr (IsTest Primary ts) (conditional base x mid)
      chosen_owes ts mid x p = then_is (Chosen [] x mid) (IsTest Primary ts) (turns (choice_turn base) whole (length mid) ([], x) mid) chosen_of (choices_owe (length mid) [] x mid)
          (λ z rest w. G.chosen p w.2 (ap chosen_of w.1 ∙ same_conditional x w.0))

      sound : (ts : List Lexeme) → Owes Expr (IsTest Primary ts) (test base ts)
      sound ts = opens_if (IsTest Primary) k.Lambda ts (λ us. Err Lambda) (or_test base ts >>= λ x mid. conditional base x mid)
          (λ t us f rest. (e.Lambda, G.left_out f))
          (λ h. seq (IsOr Primary ts) (IsTest Primary ts) (or_test base ts) (λ x mid. conditional base x mid) (or_agrees.sound ts) (λ x mid p. chosen_owes ts mid x p)
          (λ h rest. let x = h rest in (x.0, G.chosen x.1 over refl)))

      conditional_met : (x y : Expr) (mid rest : List Lexeme) (cs : List (Expr × Expr)) → Repeat (IsChoice Primary) mid rest cs → Stops (ends 11) rest → y ≡ conditional_of x cs → Met 0 mid (conditional base x mid) y rest
      conditional_met x y mid rest cs ps s e = met_then0 (turns (choice_turn base) whole (length mid) ([], x) mid) (λ p rest. Ok (chosen_of p, rest)) (choices_met (length mid) [] x mid rest cs ps s (omega arith))
          (met_as (same_conditional x cs ∙ sym e) (met_done (chosen_of (choices_of x cs, last_of x cs)) rest))

      after : (mid rest : List Lexeme) (cs : List (Expr × Expr)) → Repeat (IsChoice Primary) mid rest cs → Stops (ends 11) rest → Stops (ends 10) mid
      after mid rest cs over s = stops_wide (ends 11) (ends 10) mid (implied (ends 11) (ends 10) refl) s
      after mid rest cs (again {mid = m} {x = w} q qs) s = begins_stops is_if (ends 10) mid (implied is_if (ends 10) refl) (choice_agrees.begins mid m w q)

      complete : (ts rest : List Lexeme) (y : Expr) → IsTest Primary ts rest y → Stops (ends 11) rest → Met 1 ts (test base ts) y rest
      complete ts rest y (G.left_out {t = t} {ts = us} e) s = cut (ap (λ b. cond b (Err Lambda) (or_test base (t ∷ us) >>= λ x mid. conditional base x mid)) (sees_it t us k.Lambda e))
      complete ts rest y (G.chosen {mid = mid} {x = x} {cs = cs} p ps e) s =
          met_no (sees k.Lambda ts) (Err Lambda) (or_test base ts >>= λ x mid. conditional base x mid) (begins_no first_not ts k.Lambda (or_agrees.begins ts mid x p) refl)
          (met_then (or_test base ts) (λ x mid. conditional base x mid) (or_agrees.complete ts mid x p (after mid rest cs ps s)) (conditional_met x y mid rest cs ps s e))
