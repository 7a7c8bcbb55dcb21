-- Operands, suffixes and arguments, over what stands in brackets.
use Rattle.std.proofs.Common.{◌≡◌, ℕ, Bool, true, false, not, ◌||◌, List, [], ◌∷◌, ◌++◌, Option, Some, None, Ok, refl, sym, ap, ◌∙◌, subst, arith}
use Rattle.bq_source.specs.declared.token.TokenKind.{TokenKind}
use Rattle.bq_source.specs.declared.token.TokenKind.TheVariants as k
use Rattle.bq_source.specs.Token.{same_kind}
use Rattle.bq_parse_grammar.specs.declared.tree.ComprehensionFrame.TheVariants as frame
use Rattle.bq_parse_grammar.specs.Lexeme.{Lexeme}
use Rattle.bq_parse_grammar.specs.declared.tree.Nested.{Nested}
use Rattle.bq_parse_grammar.specs.declared.tree.Nested.TheVariants.{Or, Test}
use Rattle.bq_parse_grammar.specs.declared.tree.Expr.{Expr}
use Rattle.bq_parse_grammar.specs.declared.tree.Expr.TheVariants as e
use Rattle.bq_parse_grammar.specs.declared.tree.Pair.{Pair, roll-Pair}
use Rattle.bq_parse_grammar.specs.declared.tree.Clause.{Clause}
use Rattle.bq_parse_grammar.specs.declared.tree.Clause.TheVariants as cl
use Rattle.bq_parse_grammar.specs.declared.tree.TargetExpr.{TargetExpr}
use Rattle.bq_source.specs.Number.{int_value}
use Rattle.bq_source.specs.StringLiteral.{string_value}
use Rattle.bq_parse_grammar.specs.Phrases.{Phrase, Repeat, over, Listed, none_listed, last_listed}
use Rattle.bq_parse_grammar.specs.Grammar as G
use Rattle.bq_parse_grammar.specs.Grammar.{parenthesized_of, IsPair, IsForClause, IsClause, AreClauses, IsOperand}
use Rattle.bq_parse_grammar.specs.Turns.{Found, Parse, ◌>>=◌, sees, expect, repeat, listed_from}
use Rattle.bq_parse_grammar.specs.Reading.{items_after, pair, for_clause, clause, begins_clause, clauses, comprehension, parens_after, in_parens, brackets_after, in_brackets, braces_after, in_braces, int_of, string_of, operand_by, operand}
use Rattle.bq_parse_grammar.proofs.NextToken.{sees_it, sees_other, tok, tok_kind}
use Rattle.bq_parse_grammar.proofs.Classes.{implied, ends, any, first_operand, first_not, first_test, first_var, first_clause, is_for, is_if, is_comma, paren_comma, bracket_comma, brace_comma, comma_for, bracket_for, brace_for, bracket_if, brace_if, for_same, clause_same}
use Rattle.bq_parse_grammar.proofs.Agrees.{Begins, Stops, Owes, Met, met, Agrees, either, seq, Never, seq_never, expects, opens, opens_if, sees_owes, then_token, then_is, owes_as, met_is, met_as, met_less, met_over, met_done, met_then, met_expect, met_yes, met_no, begins_no, begins_stops, repeat_sound, repeat_stops, repeat_complete, listed_sound, listed_complete}
use Rattle.bq_parse_grammar.proofs.Lists.{items_sound, first_item}

-- tokens after the variables of a `for`
abbrev pub ends_vars : TokenKind → Bool
ends_vars q = not (is_comma q)

module _ (O T : Phrase Expr) (V : Phrase TargetExpr) (inner : Nested → Parse Expr) (variables : Parse TargetExpr)
    (ors : Agrees first_not (ends 10) O (inner Or)) (tests : Agrees first_test (ends 11) T (inner Test))
    (vars_agree : Agrees first_var ends_vars V variables) (vars_never : (ts : List Lexeme) → Never (variables ts)) where
  -- ---- pairs

  abbrev a_pair : Expr → Expr → Pair
  a_pair x y = roll-Pair (record { key = x; value = y })

  pub pair_agrees : Agrees first_test (ends 11) (IsPair O T V) (pair inner variables)
  unfolding pair
  pair_agrees = record { begins = begins; sound = sound; complete = complete }
    where
      begins : (ts rest : List Lexeme) (p : Pair) → IsPair O T V ts rest p → Begins first_test ts
      begins ts rest p (G.pair {c = c} {mid = mid} {x = x} q e w f) = tests.begins ts (c ∷ mid) x q

      sound : (ts : List Lexeme) → Owes Pair (IsPair O T V ts) (pair inner variables ts)
      sound ts = seq (T ts) (IsPair O T V ts) (inner Test ts) (λ x mid. expect k.Colon mid >>= λ _ us. inner Test us >>= λ y rest. Ok (a_pair x y, rest)) (tests.sound ts)
          (λ x mid p. expects (λ m. T ts m x) (IsPair O T V ts) k.Colon mid (λ _ us. inner Test us >>= λ y rest. Ok (a_pair x y, rest)) p
          (λ c us f w. then_is (T us) (IsPair O T V ts) (inner Test us) (a_pair x) (tests.sound us) (λ y rest q. G.pair w f q refl)))
          (λ h rest. let y = h rest in let x = h (tok k.Colon ∷ ts) in (a_pair x.0 y.0, G.pair x.1 (tok_kind k.Colon) y.1 refl))

      complete : (ts rest : List Lexeme) (p : Pair) → IsPair O T V ts rest p → Stops (ends 11) rest → Met 1 ts (pair inner variables ts) p rest
      complete ts rest p (G.pair {c = c} {mid = mid} {x = x} {y = y} q f w g) st =
          met_then (inner Test ts) (λ x mid. expect k.Colon mid >>= λ _ us. inner Test us >>= λ y rest. Ok (a_pair x y, rest))
          (tests.complete ts (c ∷ mid) x q (subst (λ q. ends 11 q ≡ true) (sym f) refl))
          (met_less (met_expect k.Colon c mid (λ _ us. inner Test us >>= λ y rest. Ok (a_pair x y, rest)) f
          (met_less (met_then (inner Test mid) (λ y rest. Ok (a_pair x y, rest)) (tests.complete mid rest y w st) (met_as (sym g) (met_done (a_pair x y) rest))))))

  -- ---- clauses

  for_clause_agrees : Agrees is_for (ends 10) (IsForClause O T V) (for_clause inner variables)
  unfolding for_clause
  for_clause_agrees = record { begins = begins; sound = sound; complete = complete }
    where
      begins : (ts rest : List Lexeme) (y : Clause) → IsForClause O T V ts rest y → Begins is_for ts
      begins ts rest y (G.for_clause f p i q g) = ap is_for f

      sound : (ts : List Lexeme) → Owes Clause (IsForClause O T V ts) (for_clause inner variables ts)
      sound ts = opens (IsForClause O T V) k.For ts (λ _ us. variables us >>= λ v mid. expect k.In mid >>= λ _ ws. inner Or ws >>= λ x rest. Ok (cl.For v x, rest))
          (λ f us fe. seq_never (V us) (IsForClause O T V (f ∷ us)) (variables us) (λ v mid. expect k.In mid >>= λ _ ws. inner Or ws >>= λ x rest. Ok (cl.For v x, rest)) (vars_never us) (vars_agree.sound us)
          (λ v mid p. expects (λ m. V us m v) (IsForClause O T V (f ∷ us)) k.In mid (λ _ ws. inner Or ws >>= λ x rest. Ok (cl.For v x, rest)) p
          (λ i ws g w. then_is (O ws) (IsForClause O T V (f ∷ us)) (inner Or ws) (cl.For v) (ors.sound ws) (λ x rest q. G.for_clause fe w g q refl))))

      complete : (ts rest : List Lexeme) (y : Clause) → IsForClause O T V ts rest y → Stops (ends 10) rest → Met 1 ts (for_clause inner variables ts) y rest
      complete ts rest y (G.for_clause {f = f} {i = i} {ts = us} {mid = mid} {v = v} {x = x} fe p g q h) st =
          met_expect k.For f us (λ _ us. variables us >>= λ v mid. expect k.In mid >>= λ _ ws. inner Or ws >>= λ x rest. Ok (cl.For v x, rest)) fe
          (met_less (met_then (variables us) (λ v mid. expect k.In mid >>= λ _ ws. inner Or ws >>= λ x rest. Ok (cl.For v x, rest))
          (vars_agree.complete us (i ∷ mid) v p (subst (λ q. ends_vars q ≡ true) (sym g) refl))
          (met_less (met_expect k.In i mid (λ _ ws. inner Or ws >>= λ x rest. Ok (cl.For v x, rest)) g
          (met_less (met_then (inner Or mid) (λ x rest. Ok (cl.For v x, rest)) (ors.complete mid rest x q st) (met_as (sym h) (met_done (cl.For v x) rest))))))))

  clause_agrees : Agrees first_clause (ends 10) (IsClause O T V) (clause inner variables)
  unfolding clause
  clause_agrees = record { begins = begins; sound = sound; complete = complete }
    where
      or_left : (a b : Bool) → a ≡ true → (a || b) ≡ true
      or_left true b h = refl
      or_left false b h = absurd (cc)

      or_right : (a b : Bool) → b ≡ true → (a || b) ≡ true
      or_right true b h = refl
      or_right false b h = h

      wide : (ts : List Lexeme) → Begins is_for ts → Begins first_clause ts
      wide [] b = absurd b
      wide (t ∷ ts) b = or_left (is_for t.kind) (is_if t.kind) b

      begins : (ts rest : List Lexeme) (y : Clause) → IsClause O T V ts rest y → Begins first_clause ts
      begins ts rest y (G.a_for p) = wide ts (for_clause_agrees.begins ts rest y p)
      begins ts rest y (G.an_if {i = i} f p g) = or_right (is_for i.kind) (is_if i.kind) (ap is_if f)

      sound : (ts : List Lexeme) → Owes Clause (IsClause O T V ts) (clause inner variables ts)
      sound ts = opens_if (IsClause O T V) k.If ts (λ us. inner Or us >>= λ x rest. Ok (cl.If x, rest)) (for_clause inner variables ts)
          (λ i us f. then_is (O us) (IsClause O T V (i ∷ us)) (inner Or us) cl.If (ors.sound us) (λ x rest p. G.an_if f p refl))
          (λ h. owes_as (IsForClause O T V ts) (IsClause O T V ts) (for_clause inner variables ts) (for_clause_agrees.sound ts) (λ y rest p. G.a_for p))

      complete : (ts rest : List Lexeme) (y : Clause) → IsClause O T V ts rest y → Stops (ends 10) rest → Met 1 ts (clause inner variables ts) y rest
      complete ts rest y (G.a_for p) st =
          met_no (sees k.If ts) _ (for_clause inner variables ts) (begins_no is_for ts k.If (for_clause_agrees.begins ts rest y p) refl) (for_clause_agrees.complete ts rest y p st)
      complete ts rest y (G.an_if {i = i} {ts = us} {x = x} f p g) st =
          met_yes (sees k.If (i ∷ us)) (inner Or us >>= λ x rest. Ok (cl.If x, rest)) _ (sees_it i us k.If f)
          (met_over i us (met_less (met_then (inner Or us) (λ x rest. Ok (cl.If x, rest)) (ors.complete us rest x p st) (met_as (sym g) (met_done (cl.If x) rest)))))

  clauses_sound : (ts : List Lexeme) → Owes (List Clause) (AreClauses O T V ts) (clauses inner variables ts)
  unfolding clauses
  clauses_sound ts = seq (IsForClause O T V ts) (AreClauses O T V ts) (for_clause inner variables ts) (λ y mid. repeat begins_clause (clause inner variables) (y ∷ []) mid) (for_clause_agrees.sound ts)
      (λ y mid p. owes_as (λ rest ys. (xs : List Clause) × (ys ≡ (y ∷ []) ++ xs) × Repeat (IsClause O T V) mid rest xs) (AreClauses O T V ts) (repeat begins_clause (clause inner variables) (y ∷ []) mid)
      (repeat_sound (IsClause O T V) (clause inner variables) clause_agrees begins_clause (y ∷ []) mid)
      (λ ys rest w. subst (AreClauses O T V ts rest) (sym w.1) (G.clauses p w.2)))
      (λ h rest. let y = h rest in (y.0 ∷ [], G.clauses y.1 over))

  clause_seen : (ts : List Lexeme) → Begins first_clause ts → begins_clause ts ≡ true
  clause_seen [] b = absurd b
  clause_seen (t ∷ ts) b = implied first_clause (λ q. same_kind q k.For || same_kind q k.If) clause_same t.kind b

  clauses_met : (ts rest : List Lexeme) (ys : List Clause) → AreClauses O T V ts rest ys → Stops (ends 10) rest → begins_clause rest ≡ false
      → Met 1 ts (clauses inner variables ts) ys rest
  unfolding clauses
  clauses_met ts rest zs (G.clauses {mid = mid} {y = y} {ys = ys} p ps) st none =
      met_then (for_clause inner variables ts) (λ y mid. repeat begins_clause (clause inner variables) (y ∷ []) mid)
      (for_clause_agrees.complete ts mid y p (repeat_stops (IsClause O T V) (clause inner variables) clause_agrees begins_clause clause_seen (implied first_clause (ends 10) refl) mid rest ys ps st))
      (repeat_complete (IsClause O T V) (clause inner variables) clause_agrees begins_clause clause_seen (implied first_clause (ends 10) refl) (y ∷ []) mid rest ys ps st none)

  clauses_begin : (ts rest : List Lexeme) (ys : List Clause) → AreClauses O T V ts rest ys → Begins is_for ts
  clauses_begin ts rest zs (G.clauses {mid = mid} {y = y} p ps) = for_clause_agrees.begins ts mid y p

  abbrev Closed : List Lexeme → TokenKind → List Lexeme → List Clause → Type 0
  Closed ts close rest ys = (c : Lexeme) × AreClauses O T V ts (c ∷ rest) ys × (c.kind ≡ close)

  comprehension_sound : (close : TokenKind) (ts : List Lexeme) → Owes (List Clause) (Closed ts close) (comprehension inner variables close ts)
  unfolding comprehension
  comprehension_sound close ts = then_token (AreClauses O T V ts) (Closed ts close) (clauses inner variables ts) close (λ ys. ys) (clauses_sound ts) (λ ys c rest p f. (c, p, f))

  comprehension_met : (close : TokenKind) (ts : List Lexeme) (c : Lexeme) (rest : List Lexeme) (ys : List Clause) → ends 10 close ≡ true → same_kind close k.For ≡ false → same_kind close k.If ≡ false
      → AreClauses O T V ts (c ∷ rest) ys → c.kind ≡ close → Met 1 ts (comprehension inner variables close ts) ys rest
  unfolding comprehension
  comprehension_met close ts c rest ys stops no_for no_if p f =
      met_then (clauses inner variables ts) (λ ys mid. expect close mid >>= λ _ rest. Ok (ys, rest))
      (clauses_met ts (c ∷ rest) ys p (subst (λ q. ends 10 q ≡ true) (sym f) stops)
      (both (same_kind c.kind k.For) (same_kind c.kind k.If) (sees_other c rest k.For close f no_for) (sees_other c rest k.If close f no_if)))
      (met_less (met_expect close c rest (λ _ rest. Ok (ys, rest)) f (met_done ys rest)))
    where
      both : (a b : Bool) → a ≡ false → b ≡ false → (a || b) ≡ false
      both true b e f = absurd (cc)
      both false b e f = f

  for_seen : (ts : List Lexeme) → Begins is_for ts → sees k.For ts ≡ true
  for_seen [] b = absurd b
  for_seen (t ∷ ts) b = implied is_for (λ q. same_kind q k.For) for_same t.kind b

  -- ---- operands

  parens_sound : (o : Lexeme) (ts : List Lexeme) → o.kind ≡ k.LeftParen → Owes Expr (IsOperand O T V (o ∷ ts)) (in_parens inner variables ts)
  unfolding in_parens
  parens_sound o ts oe = opens_if (λ us. IsOperand O T V (o ∷ us)) k.RightParen ts (λ us. Ok (e.Tuple [], us)) (inner Test ts >>= λ x mid. parens_after inner variables x mid)
      (λ c us f. G.empty_tuple oe f refl)
      (λ h. seq (T ts) (IsOperand O T V (o ∷ ts)) (inner Test ts) (λ x mid. parens_after inner variables x mid) (tests.sound ts)
      (λ x mid p. sees_owes (λ m. T ts m x) (IsOperand O T V (o ∷ ts)) k.Comma mid
      (λ us. listed_from k.RightParen (inner Test) (x ∷ []) us >>= λ xs rest. Ok (e.Tuple xs, rest)) (expect k.RightParen mid >>= λ _ rest. Ok (parenthesized_of (sees k.Dot rest) x, rest)) p
      (λ c us f w. then_is (λ rest ys. (xs : List Expr) × (ys ≡ (x ∷ []) ++ xs) × Listed k.RightParen T us rest xs) (IsOperand O T V (o ∷ ts))
      (listed_from k.RightParen (inner Test) (x ∷ []) us) e.Tuple (listed_sound T (inner Test) tests k.RightParen (x ∷ []) us)
      (λ ys rest v. G.a_tuple oe w f v.2 (ap e.Tuple v.1)))
      (λ h. expects (λ m. T ts m x) (IsOperand O T V (o ∷ ts)) k.RightParen mid (λ _ rest. Ok (parenthesized_of (sees k.Dot rest) x, rest)) p (λ c us f w. G.parenthesized oe w f refl)))
      (λ h rest. let x = h (tok k.RightParen ∷ rest) in (parenthesized_of (sees k.Dot rest) x.0, G.parenthesized oe x.1 (tok_kind k.RightParen) refl)))

  brackets_sound : (o : Lexeme) (ts : List Lexeme) → o.kind ≡ k.LeftBracket → Owes Expr (IsOperand O T V (o ∷ ts)) (in_brackets inner variables ts)
  unfolding in_brackets
  brackets_sound o ts oe = opens_if (λ us. IsOperand O T V (o ∷ us)) k.RightBracket ts (λ us. Ok (e.List [], us)) (inner Test ts >>= λ x mid. brackets_after inner variables x mid)
      (λ c us f. G.a_list oe (none_listed f) refl)
      (λ h. seq (T ts) (IsOperand O T V (o ∷ ts)) (inner Test ts) (λ x mid. brackets_after inner variables x mid) (tests.sound ts)
      (λ x mid p. either (Owes Expr (IsOperand O T V (o ∷ ts))) (sees k.For mid) (comprehension inner variables k.RightBracket mid >>= λ ys rest. Ok (e.ListComprehension x ys frame.Shared, rest))
      (items_after k.RightBracket (inner Test) x mid >>= λ xs rest. Ok (e.List xs, rest))
      (λ h. then_is (Closed mid k.RightBracket) (IsOperand O T V (o ∷ ts)) (comprehension inner variables k.RightBracket mid) (λ ys. e.ListComprehension x ys frame.Shared) (comprehension_sound k.RightBracket mid)
      (λ ys rest w. G.a_list_comprehension oe p w.1 w.2 refl))
      (λ h. then_is (λ rest ys. (zs : List Expr) × (ys ≡ x ∷ zs) × Listed k.RightBracket T ts rest (x ∷ zs)) (IsOperand O T V (o ∷ ts))
      (items_after k.RightBracket (inner Test) x mid) e.List (items_sound T (inner Test) tests k.RightBracket x ts mid p)
      (λ ys rest w. G.a_list oe w.2 (ap e.List w.1))))
      (λ h rest. let x = h (tok k.RightBracket ∷ rest) in (e.List (x.0 ∷ []), G.a_list oe (last_listed x.1 (tok_kind k.RightBracket)) refl)))

  braces_sound : (o : Lexeme) (ts : List Lexeme) → o.kind ≡ k.LeftBrace → Owes Expr (IsOperand O T V (o ∷ ts)) (in_braces inner variables ts)
  unfolding in_braces
  braces_sound o ts oe = opens_if (λ us. IsOperand O T V (o ∷ us)) k.RightBrace ts (λ us. Ok (e.Dict [], us)) (pair inner variables ts >>= λ x mid. braces_after inner variables x mid)
      (λ c us f. G.a_dict oe (none_listed f) refl)
      (λ h. seq (IsPair O T V ts) (IsOperand O T V (o ∷ ts)) (pair inner variables ts) (λ x mid. braces_after inner variables x mid) (pair_agrees.sound ts)
      (λ x mid p. either (Owes Expr (IsOperand O T V (o ∷ ts))) (sees k.For mid) (comprehension inner variables k.RightBrace mid >>= λ ys rest. Ok (e.DictComprehension x ys frame.Shared, rest))
      (items_after k.RightBrace (pair inner variables) x mid >>= λ xs rest. Ok (e.Dict xs, rest))
      (λ h. then_is (Closed mid k.RightBrace) (IsOperand O T V (o ∷ ts)) (comprehension inner variables k.RightBrace mid) (λ ys. e.DictComprehension x ys frame.Shared) (comprehension_sound k.RightBrace mid)
      (λ ys rest w. G.a_dict_comprehension oe p w.1 w.2 refl))
      (λ h. then_is (λ rest ys. (zs : List Pair) × (ys ≡ x ∷ zs) × Listed k.RightBrace (IsPair O T V) ts rest (x ∷ zs)) (IsOperand O T V (o ∷ ts))
      (items_after k.RightBrace (pair inner variables) x mid) e.Dict (items_sound (IsPair O T V) (pair inner variables) pair_agrees k.RightBrace x ts mid p)
      (λ ys rest w. G.a_dict oe w.2 (ap e.Dict w.1))))
      (λ h rest. let x = h (tok k.RightBrace ∷ rest) in (e.Dict (x.0 ∷ []), G.a_dict oe (last_listed x.1 (tok_kind k.RightBrace)) refl)))

  operand_at : (q : TokenKind) (t : Lexeme) (ts : List Lexeme) → t.kind ≡ q → Owes Expr (IsOperand O T V (t ∷ ts)) (operand_by inner variables q t ts)
  operand_at k.Identifier t ts f = G.a_name f refl
  operand_at k.Int t ts f = go (int_value t.spelling) refl
    where
      go : (o : Option ℕ) → int_value t.spelling ≡ o → Owes Expr (IsOperand O T V (t ∷ ts)) (int_of o ts)
      go None h = tt
      go (Some n) h = G.an_int f h refl
  operand_at k.String t ts f = go (string_value t.spelling) refl
    where
      go : (o : Option (List ℕ)) → string_value t.spelling ≡ o → Owes Expr (IsOperand O T V (t ∷ ts)) (string_of o ts)
      go None h = tt
      go (Some b) h = G.a_string f h refl
  operand_at k.LeftParen t ts f = parens_sound t ts f
  operand_at k.LeftBracket t ts f = brackets_sound t ts f
  operand_at k.LeftBrace t ts f = braces_sound t ts f
  operand_at _ t ts f = tt

  abbrev Reading : Lexeme → List Lexeme → TokenKind → Found Expr
  Reading t ts q = operand_by inner variables q t ts

  pub operand_agrees : Agrees first_operand any (IsOperand O T V) (operand inner variables)
  unfolding operand in_parens in_brackets in_braces
  operand_agrees = record { begins = begins; sound = sound; complete = complete }
    where
      begins : (ts rest : List Lexeme) (y : Expr) → IsOperand O T V ts rest y → Begins first_operand ts
      begins ts rest y (G.a_name f g) = ap first_operand f
      begins ts rest y (G.an_int f h g) = ap first_operand f
      begins ts rest y (G.a_string f h g) = ap first_operand f
      begins ts rest y (G.empty_tuple f h g) = ap first_operand f
      begins ts rest y (G.parenthesized f p h g) = ap first_operand f
      begins ts rest y (G.a_tuple f p h ps g) = ap first_operand f
      begins ts rest y (G.a_list f ps g) = ap first_operand f
      begins ts rest y (G.a_list_comprehension f p ps h g) = ap first_operand f
      begins ts rest y (G.a_dict f ps g) = ap first_operand f
      begins ts rest y (G.a_dict_comprehension f p ps h g) = ap first_operand f

      sound : (ts : List Lexeme) → Owes Expr (IsOperand O T V ts) (operand inner variables ts)
      sound [] = tt
      sound (t ∷ ts) = operand_at t.kind t ts refl

      complete : (ts rest : List Lexeme) (y : Expr) → IsOperand O T V ts rest y → Stops any rest → Met 1 ts (operand inner variables ts) y rest
      complete ts rest y (G.a_name {t = t} f g) st = met_is _ _ (ap (Reading t rest) f) (met (ap (λ y. Ok (y, rest)) (sym g)) (omega arith))
      complete ts rest y (G.an_int {t = t} {n = n} f h g) st = met_is _ _ (ap (Reading t rest) f ∙ ap (λ o. int_of o rest) h) (met (ap (λ y. Ok (y, rest)) (sym g)) (omega arith))
      complete ts rest y (G.a_string {t = t} {b = b} f h g) st = met_is _ _ (ap (Reading t rest) f ∙ ap (λ o. string_of o rest) h) (met (ap (λ y. Ok (y, rest)) (sym g)) (omega arith))
      complete ts rest y (G.empty_tuple {o = o} {c = c} f h g) st = met_is _ _ (ap (Reading o (c ∷ rest)) f)
          (met_yes (sees k.RightParen (c ∷ rest)) (Ok (e.Tuple [], rest)) _ (sees_it c rest k.RightParen h) (met (ap (λ y. Ok (y, rest)) (sym g)) (omega arith)))
      complete ts rest y (G.parenthesized {o = o} {c = c} {ts = us} {x = x} f p h g) st = met_is _ _ (ap (Reading o us) f)
          (met_no (sees k.RightParen us) _ (inner Test us >>= λ x mid. parens_after inner variables x mid) (begins_no first_test us k.RightParen (tests.begins us (c ∷ rest) x p) refl)
          (met_over o us (met_less (met_then (inner Test us) (λ x mid. parens_after inner variables x mid) (tests.complete us (c ∷ rest) x p (subst (λ q. ends 11 q ≡ true) (sym h) refl))
          (met_no (sees k.Comma (c ∷ rest)) _ (expect k.RightParen (c ∷ rest) >>= λ _ rest. Ok (parenthesized_of (sees k.Dot rest) x, rest)) (sees_other c rest k.Comma k.RightParen h paren_comma)
          (met_less (met_expect k.RightParen c rest (λ _ rest. Ok (parenthesized_of (sees k.Dot rest) x, rest)) h (met_as (sym g) (met_done (parenthesized_of (sees k.Dot rest) x) rest)))))))))
      complete ts rest y (G.a_tuple {o = o} {c = c} {ts = us} {mid = mid} {x = x} {xs = xs} f p h ps g) st = met_is _ _ (ap (Reading o us) f)
          (met_no (sees k.RightParen us) _ (inner Test us >>= λ x mid. parens_after inner variables x mid) (begins_no first_test us k.RightParen (tests.begins us (c ∷ mid) x p) refl)
          (met_over o us (met_less (met_then (inner Test us) (λ x mid. parens_after inner variables x mid) (tests.complete us (c ∷ mid) x p (subst (λ q. ends 11 q ≡ true) (sym h) refl))
          (met_yes (sees k.Comma (c ∷ mid)) (listed_from k.RightParen (inner Test) (x ∷ []) mid >>= λ xs rest. Ok (e.Tuple xs, rest)) _ (sees_it c mid k.Comma h)
          (met_less (met_over c mid (met_less (met_then (listed_from k.RightParen (inner Test) (x ∷ []) mid) (λ xs rest. Ok (e.Tuple xs, rest))
          (listed_complete T (inner Test) tests k.RightParen refl refl refl paren_comma (x ∷ []) mid rest xs ps) (met_as (sym g) (met_done (e.Tuple (x ∷ xs)) rest)))))))))))
      complete ts rest y (G.a_list {o = o} {ts = us} {xs = xs} f ps g) st = list_met xs us f ps g
        where
          list_met : (xs : List Expr) (us : List Lexeme) → o.kind ≡ k.LeftBracket → Listed k.RightBracket T us rest xs → y ≡ e.List xs → Met 1 (o ∷ us) (operand inner variables (o ∷ us)) y rest
          list_met [] us f (none_listed {t = t} h) g = met_is _ _ (ap (Reading o (t ∷ rest)) f)
              (met_yes (sees k.RightBracket (t ∷ rest)) (Ok (e.List [], rest)) _ (sees_it t rest k.RightBracket h) (met (ap (λ y. Ok (y, rest)) (sym g)) (omega arith)))
          list_met (x ∷ xs) us f ps g = let w = first_item T (inner Test) tests k.RightBracket refl refl refl bracket_comma us rest x xs ps in
              met_is _ _ (ap (Reading o us) f)
              (met_no (sees k.RightBracket us) _ (inner Test us >>= λ x mid. brackets_after inner variables x mid) (begins_no first_test us k.RightBracket (tests.begins us w.mid x w.item) refl)
              (met_over o us (met_less (met_then (inner Test us) (λ x mid. brackets_after inner variables x mid) (tests.complete us w.mid x w.item w.stops)
              (met_no (sees k.For w.mid) _ (items_after k.RightBracket (inner Test) x w.mid >>= λ xs rest. Ok (e.List xs, rest)) (w.other k.For comma_for bracket_for)
              (met_less (met_then (items_after k.RightBracket (inner Test) x w.mid) (λ xs rest. Ok (e.List xs, rest)) w.others (met_as (sym g) (met_done (e.List (x ∷ xs)) rest)))))))))
      complete ts rest y (G.a_list_comprehension {o = o} {c = c} {ts = us} {mid = mid} {x = x} {cs = cs} f p ps h g) st = met_is _ _ (ap (Reading o us) f)
          (met_no (sees k.RightBracket us) _ (inner Test us >>= λ x mid. brackets_after inner variables x mid) (begins_no first_test us k.RightBracket (tests.begins us mid x p) refl)
          (met_over o us (met_less (met_then (inner Test us) (λ x mid. brackets_after inner variables x mid)
          (tests.complete us mid x p (begins_stops is_for (ends 11) mid (implied is_for (ends 11) refl) (clauses_begin mid (c ∷ rest) cs ps)))
          (met_yes (sees k.For mid) (comprehension inner variables k.RightBracket mid >>= λ ys rest. Ok (e.ListComprehension x ys frame.Shared, rest)) _ (for_seen mid (clauses_begin mid (c ∷ rest) cs ps))
          (met_less (met_then (comprehension inner variables k.RightBracket mid) (λ ys rest. Ok (e.ListComprehension x ys frame.Shared, rest))
          (comprehension_met k.RightBracket mid c rest cs refl bracket_for bracket_if ps h) (met_as (sym g) (met_done (e.ListComprehension x cs frame.Shared) rest)))))))))
      complete ts rest y (G.a_dict {o = o} {ts = us} {ps = xs} f ps g) st = dict_met xs us f ps g
        where
          dict_met : (xs : List Pair) (us : List Lexeme) → o.kind ≡ k.LeftBrace → Listed k.RightBrace (IsPair O T V) us rest xs → y ≡ e.Dict xs → Met 1 (o ∷ us) (operand inner variables (o ∷ us)) y rest
          dict_met [] us f (none_listed {t = t} h) g = met_is _ _ (ap (Reading o (t ∷ rest)) f)
              (met_yes (sees k.RightBrace (t ∷ rest)) (Ok (e.Dict [], rest)) _ (sees_it t rest k.RightBrace h) (met (ap (λ y. Ok (y, rest)) (sym g)) (omega arith)))
          dict_met (x ∷ xs) us f ps g = let w = first_item (IsPair O T V) (pair inner variables) pair_agrees k.RightBrace refl refl refl brace_comma us rest x xs ps in
              met_is _ _ (ap (Reading o us) f)
              (met_no (sees k.RightBrace us) _ (pair inner variables us >>= λ x mid. braces_after inner variables x mid) (begins_no first_test us k.RightBrace (pair_agrees.begins us w.mid x w.item) refl)
              (met_over o us (met_less (met_then (pair inner variables us) (λ x mid. braces_after inner variables x mid) (pair_agrees.complete us w.mid x w.item w.stops)
              (met_no (sees k.For w.mid) _ (items_after k.RightBrace (pair inner variables) x w.mid >>= λ xs rest. Ok (e.Dict xs, rest)) (w.other k.For comma_for brace_for)
              (met_less (met_then (items_after k.RightBrace (pair inner variables) x w.mid) (λ xs rest. Ok (e.Dict xs, rest)) w.others (met_as (sym g) (met_done (e.Dict (x ∷ xs)) rest)))))))))
      complete ts rest y (G.a_dict_comprehension {o = o} {c = c} {ts = us} {mid = mid} {p = x} {cs = cs} f p ps h g) st = met_is _ _ (ap (Reading o us) f)
          (met_no (sees k.RightBrace us) _ (pair inner variables us >>= λ x mid. braces_after inner variables x mid) (begins_no first_test us k.RightBrace (pair_agrees.begins us mid x p) refl)
          (met_over o us (met_less (met_then (pair inner variables us) (λ x mid. braces_after inner variables x mid)
          (pair_agrees.complete us mid x p (begins_stops is_for (ends 11) mid (implied is_for (ends 11) refl) (clauses_begin mid (c ∷ rest) cs ps)))
          (met_yes (sees k.For mid) (comprehension inner variables k.RightBrace mid >>= λ ys rest. Ok (e.DictComprehension x ys frame.Shared, rest)) _ (for_seen mid (clauses_begin mid (c ∷ rest) cs ps))
          (met_less (met_then (comprehension inner variables k.RightBrace mid) (λ ys rest. Ok (e.DictComprehension x ys frame.Shared, rest))
          (comprehension_met k.RightBrace mid c rest cs refl brace_for brace_if ps h) (met_as (sym g) (met_done (e.DictComprehension x cs frame.Shared) rest)))))))))
