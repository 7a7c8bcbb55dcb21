-- The variables of a `for`, and the layers of the grammar.
use Rattle.std.proofs.Common.{◌≡◌, ℕ, zero, suc, Bool, true, false, cond, List, [], ◌∷◌, ◌++◌, Ok, Err, refl, sym, ap, ◌∙◌, subst, arith}
use Rattle.bq_source.specs.declared.token.TokenKind.{TokenKind}
use Rattle.bq_source.specs.declared.token.TokenKind.TheVariants as k
use Rattle.bq_parse_grammar.specs.Lexeme.{Lexeme}
use Rattle.bq_parse_grammar.specs.declared.refusal.SyntaxErr.TheVariants.{Syntax}
use Rattle.bq_parse_grammar.specs.declared.tree.Nested.{Nested}
use Rattle.bq_parse_grammar.specs.declared.tree.Nested.TheVariants.{Or, Test}
use Rattle.bq_parse_grammar.specs.declared.tree.Expr.{Expr}
use Rattle.bq_parse_grammar.specs.declared.tree.TargetExpr.{TargetExpr}
use Rattle.bq_parse_grammar.specs.declared.tree.TargetExpr.TheVariants as target
use Rattle.bq_parse_grammar.specs.Phrases.{Phrase, none, Repeat, over, Listed, last_listed, CommaThen}
use Rattle.bq_parse_grammar.specs.Grammar as G
use Rattle.bq_parse_grammar.specs.Grammar.{targets_of, IsVarOver, IsVar, IsVarsOver, IsVars, IsPrimary, IsPrimaryTo, IsOrTo, IsTestTo, IsOperandTo, IsSuffixTo}
use Rattle.bq_parse_grammar.specs.Turns.{Found, Parse, ◌>>=◌, sees, next, expect, listed_from, repeat}
use Rattle.bq_parse_grammar.specs.Reading.{items_after, after_comma, chained, vars_after, var_in_parens, var_in_brackets, var_by, var, var_to, vars, variables_to, operand, suffix, primary, or_test, test, phrase}
use Rattle.bq_parse_grammar.proofs.NextToken.{sees_it, sees_other, tok, tok_kind}
use Rattle.bq_parse_grammar.proofs.Classes.{ends, any, first_operand, first_suffix, first_not, first_test, first_var, paren_comma, bracket_comma}
use Rattle.bq_parse_grammar.proofs.Agrees.{Begins, Stops, Owes, Met, met, Agrees, seq, Never, never_then, never_expect, never_repeat, never_listed, expects, sees_owes, then_is, owes_as, met_is, met_as, met_less, met_over, met_done, met_then, met_expect, met_yes, met_no, stops_no, listed_sound, listed_complete}
use Rattle.bq_parse_grammar.proofs.Chains.{or_agrees, test_agrees}
use Rattle.bq_parse_grammar.proofs.Lists.{none_agrees, items_sound, first_item, chain_of, chained_sound, chained_met}
use Rattle.bq_parse_grammar.proofs.Operands.{ends_vars, operand_agrees}
use Rattle.bq_parse_grammar.proofs.Unnamed.{Unnamed, none_unnamed, test_unnamed}
use Rattle.bq_parse_grammar.proofs.Suffixes.{suffix_agrees, primary_agrees}

target_chain : (x : TargetExpr) (xs : List TargetExpr) → chain_of target.Tuple x xs ≡ targets_of x xs
target_chain x [] = refl
target_chain x (y ∷ ys) = refl

never_if : {A : Type 0} (b : Bool) (x y : Found A) → Never x → Never y → Never (cond b x y)
never_if true x y m n = m
never_if false x y m n = n

module _ (X : Phrase TargetExpr) (r : Parse TargetExpr) (ag : Agrees first_var any X r) where
  var_at : (q : TokenKind) (t : Lexeme) (ts : List Lexeme) → t.kind ≡ q → Owes TargetExpr (IsVarOver X (t ∷ ts)) (var_by r q t ts)
  unfolding var_in_parens var_in_brackets
  var_at k.Identifier t ts f = G.name f refl
  var_at k.LeftParen t ts f = seq (X ts) (IsVarOver X (t ∷ ts)) (r ts) (λ x mid. vars_after r x mid) (ag.sound ts)
      (λ x mid p. sees_owes (λ m. X ts m x) (IsVarOver X (t ∷ ts)) k.Comma mid (λ us. listed_from k.RightParen r (x ∷ []) us >>= λ xs rest. Ok (target.Tuple xs, rest)) (expect k.RightParen mid >>= λ _ rest. Ok (x, rest)) p
      (λ c us g w. then_is (λ rest ys. (xs : List TargetExpr) × (ys ≡ (x ∷ []) ++ xs) × Listed k.RightParen X us rest xs) (IsVarOver X (t ∷ ts))
      (listed_from k.RightParen r (x ∷ []) us) target.Tuple (listed_sound X r ag k.RightParen (x ∷ []) us) (λ ys rest v. G.tuple f w g v.2 (ap target.Tuple v.1)))
      (λ h. expects (λ m. X ts m x) (IsVarOver X (t ∷ ts)) k.RightParen mid (λ _ rest. Ok (x, rest)) p (λ c us g w. G.parenthesized f w g)))
      (λ h rest. let x = h (tok k.RightParen ∷ rest) in (x.0, G.parenthesized f x.1 (tok_kind k.RightParen)))
  var_at k.LeftBracket t ts f = seq (X ts) (IsVarOver X (t ∷ ts)) (r ts) (λ x mid. items_after k.RightBracket r x mid >>= λ xs rest. Ok (target.List xs, rest)) (ag.sound ts)
      (λ x mid p. then_is (λ rest ys. (zs : List TargetExpr) × (ys ≡ x ∷ zs) × Listed k.RightBracket X ts rest (x ∷ zs)) (IsVarOver X (t ∷ ts)) (items_after k.RightBracket r x mid) target.List
      (items_sound X r ag k.RightBracket x ts mid p) (λ ys rest w. G.list f w.2 (ap target.List w.1)))
      (λ h rest. let x = h (tok k.RightBracket ∷ rest) in (target.List (x.0 ∷ []), G.list f (last_listed x.1 (tok_kind k.RightBracket)) refl))
  var_at _ t ts f = tt

  abbrev VarReading : Lexeme → List Lexeme → TokenKind → Found TargetExpr
  VarReading t ts q = var_by r q t ts

  var_agrees : Agrees first_var any (IsVarOver X) (var r)
  unfolding var var_in_parens var_in_brackets
  var_agrees = record { begins = begins; sound = sound; complete = complete }
    where
      begins : (ts rest : List Lexeme) (x : TargetExpr) → IsVarOver X ts rest x → Begins first_var ts
      begins ts rest x (G.name f g) = ap first_var f
      begins ts rest x (G.parenthesized f p g) = ap first_var f
      begins ts rest x (G.tuple f p g ps h) = ap first_var f
      begins ts rest x (G.list f ps g) = ap first_var f

      sound : (ts : List Lexeme) → Owes TargetExpr (IsVarOver X ts) (var r ts)
      sound [] = tt
      sound (t ∷ ts) = var_at t.kind t ts refl

      complete : (ts rest : List Lexeme) (x : TargetExpr) → IsVarOver X ts rest x → Stops any rest → Met 1 ts (var r ts) x rest
      complete ts rest y (G.name {t = t} f g) st = met_is _ _ (ap (VarReading t rest) f) (met (ap (λ y. Ok (y, rest)) (sym g)) (omega arith))
      complete ts rest y (G.parenthesized {o = o} {c = c} {ts = us} f p g) st = met_is _ _ (ap (VarReading o us) f)
          (met_over o us (met_less (met_then (r us) (λ x mid. vars_after r x mid) (ag.complete us (c ∷ rest) y p refl)
          (met_no (sees k.Comma (c ∷ rest)) _ (expect k.RightParen (c ∷ rest) >>= λ _ rest. Ok (y, rest)) (sees_other c rest k.Comma k.RightParen g paren_comma)
          (met_less (met_expect k.RightParen c rest (λ _ rest. Ok (y, rest)) g (met_done y rest)))))))
      complete ts rest y (G.tuple {o = o} {c = c} {ts = us} {mid = mid} {x = x} {xs = xs} f p g ps h) st = met_is _ _ (ap (VarReading o us) f)
          (met_over o us (met_less (met_then (r us) (λ x mid. vars_after r x mid) (ag.complete us (c ∷ mid) x p refl)
          (met_yes (sees k.Comma (c ∷ mid)) (listed_from k.RightParen r (x ∷ []) mid >>= λ xs rest. Ok (target.Tuple xs, rest)) _ (sees_it c mid k.Comma g)
          (met_less (met_over c mid (met_less (met_then (listed_from k.RightParen r (x ∷ []) mid) (λ xs rest. Ok (target.Tuple xs, rest))
          (listed_complete X r ag k.RightParen refl refl refl paren_comma (x ∷ []) mid rest xs ps) (met_as (sym h) (met_done (target.Tuple (x ∷ xs)) rest))))))))))
      complete ts rest y (G.list {o = o} {ts = us} {x = x} {xs = xs} f ps g) st = let w = first_item X r ag k.RightBracket refl refl refl bracket_comma us rest x xs ps in
          met_is _ _ (ap (VarReading o us) f)
          (met_over o us (met_less (met_then (r us) (λ x mid. items_after k.RightBracket r x mid >>= λ xs rest. Ok (target.List xs, rest)) (ag.complete us w.mid x w.item w.stops)
          (met_less (met_then (items_after k.RightBracket r x w.mid) (λ xs rest. Ok (target.List xs, rest)) w.others (met_as (sym g) (met_done (target.List (x ∷ xs)) rest)))))))

  vars_agree : Agrees first_var ends_vars (IsVarsOver X) (vars r)
  unfolding vars
  vars_agree = record { begins = begins; sound = sound; complete = complete }
    where
      wide : Agrees first_var ends_vars X r
      wide = record { begins = ag.begins; sound = ag.sound; complete = λ ts rest x p st. ag.complete ts rest x p (stops_any rest) }
        where
          stops_any : (ts : List Lexeme) → Stops any ts
          stops_any [] = tt
          stops_any (t ∷ ts) = refl

      stops_any : (ts : List Lexeme) → Stops any ts
      stops_any [] = tt
      stops_any (t ∷ ts) = refl

      begins : (ts rest : List Lexeme) (x : TargetExpr) → IsVarsOver X ts rest x → Begins first_var ts
      begins ts rest y (G.vars {mid = mid} {x = x} p ps f) = ag.begins ts mid x p

      sound : (ts : List Lexeme) → Owes TargetExpr (IsVarsOver X ts) (vars r ts)
      sound ts = seq (X ts) (IsVarsOver X ts) (r ts) (λ x mid. chained target.Tuple r x mid) (ag.sound ts)
          (λ x mid p. owes_as (λ rest y. (xs : List TargetExpr) × (y ≡ chain_of target.Tuple x xs) × Repeat (CommaThen X) mid rest xs) (IsVarsOver X ts) (chained target.Tuple r x mid) (chained_sound X r ag target.Tuple x mid)
          (λ y rest w. G.vars p w.2 (w.1 ∙ target_chain x w.0)))
          (λ h rest. let x = h rest in (x.0, G.vars x.1 over refl))

      complete : (ts rest : List Lexeme) (x : TargetExpr) → IsVarsOver X ts rest x → Stops ends_vars rest → Met 1 ts (vars r ts) x rest
      complete ts rest y (G.vars {mid = mid} {x = x} {xs = xs} p ps f) st =
          met_then (r ts) (λ x mid. chained target.Tuple r x mid) (ag.complete ts mid x p (stops_any mid))
          (chained_met X r ag target.Tuple refl x y mid rest xs ps (stops_any rest) (stops_no ends_vars rest k.Comma st refl) (f ∙ sym (target_chain x xs)))

-- a variable holds no `lambda`
module _ (r : Parse TargetExpr) (n : (ts : List Lexeme) → Never (r ts)) where
  items_never : (x : TargetExpr) (ts : List Lexeme) → Never (items_after k.RightBracket r x ts)
  items_never x ts = never_if (sees k.Comma ts) (listed_from k.RightBracket r (x ∷ []) (next ts)) (expect k.RightBracket ts >>= λ _ rest. Ok (x ∷ [], rest))
      (never_listed r n k.RightBracket (x ∷ []) (next ts)) (never_then (expect k.RightBracket ts) (λ _ rest. Ok (x ∷ [], rest)) (never_expect k.RightBracket ts) (λ u mid. tt))

  after_never : (x : TargetExpr) (ts : List Lexeme) → Never (vars_after r x ts)
  after_never x ts = never_if (sees k.Comma ts) (listed_from k.RightParen r (x ∷ []) (next ts) >>= λ xs rest. Ok (target.Tuple xs, rest)) (expect k.RightParen ts >>= λ _ rest. Ok (x, rest))
      (never_then (listed_from k.RightParen r (x ∷ []) (next ts)) (λ xs rest. Ok (target.Tuple xs, rest)) (never_listed r n k.RightParen (x ∷ []) (next ts)) (λ xs mid. tt))
      (never_then (expect k.RightParen ts) (λ _ rest. Ok (x, rest)) (never_expect k.RightParen ts) (λ u mid. tt))

  var_never : (ts : List Lexeme) → Never (var r ts)
  unfolding var var_in_parens var_in_brackets
  var_never [] = tt
  var_never (t ∷ ts) = at t.kind
    where
      at : (q : TokenKind) → Never (var_by r q t ts)
      at k.Identifier = tt
      at k.LeftParen = never_then (r ts) (λ x mid. vars_after r x mid) (n ts) after_never
      at k.LeftBracket = never_then (r ts) (λ x mid. items_after k.RightBracket r x mid >>= λ xs rest. Ok (target.List xs, rest)) (n ts)
          (λ x mid. never_then (items_after k.RightBracket r x mid) (λ xs rest. Ok (target.List xs, rest)) (items_never x mid) (λ xs rest. tt))
      at _ = tt

  comma_never : (ts : List Lexeme) → Never (after_comma r ts)
  comma_never ts = never_then (expect k.Comma ts) (λ _ us. r us) (never_expect k.Comma ts) (λ u mid. n mid)

  pub vars_never : (ts : List Lexeme) → Never (vars r ts)
  unfolding vars
  vars_never ts = never_then (r ts) (λ x mid. chained target.Tuple r x mid) (n ts)
      (λ x mid. never_if (sees k.Comma mid) (after_comma r mid >>= λ y us. repeat (sees k.Comma) (after_comma r) (x ∷ y ∷ []) us >>= λ xs rest. Ok (target.Tuple xs, rest)) (Ok (x, mid))
      (never_then (after_comma r mid) (λ y us. repeat (sees k.Comma) (after_comma r) (x ∷ y ∷ []) us >>= λ xs rest. Ok (target.Tuple xs, rest)) (comma_never mid)
      (λ y us. never_then (repeat (sees k.Comma) (after_comma r) (x ∷ y ∷ []) us) (λ xs rest. Ok (target.Tuple xs, rest)) (never_repeat (after_comma r) comma_never (sees k.Comma) (x ∷ y ∷ []) us) (λ xs rest. tt)))
      tt)

-- ---- layers

pub var_to_never : (depth : ℕ) (ts : List Lexeme) → Never (var_to depth ts)
unfolding var_to
var_to_never zero ts = tt
var_to_never (suc depth) ts = var_never (var_to depth) (var_to_never depth) ts

pub agree_as : {A : Type 0} {first ends' : TokenKind → Bool} (X : Phrase A) (r q : Parse A) → ((ts : List Lexeme) → q ts ≡ r ts) → Agrees first ends' X r → Agrees first ends' X q
agree_as {A = A} X r q same ag = record {
  begins = ag.begins;
  sound = λ ts. subst (Owes A (X ts)) (sym (same ts)) (ag.sound ts);
  complete = λ ts rest x p st. met_is (q ts) (r ts) (same ts) (ag.complete ts rest x p st);
}

pub var_to_agrees : (depth : ℕ) → Agrees first_var any (IsVar depth) (var_to (suc depth))
unfolding var_to
var_to_agrees zero = agree_as (IsVarOver none) (var (λ ts. Err Syntax)) (var_to 1) (λ ts. refl) (var_agrees none (λ ts. Err Syntax) (none_agrees first_var any))
var_to_agrees (suc depth) = agree_as (IsVarOver (IsVar depth)) (var (var_to (suc depth))) (var_to (suc (suc depth))) (λ ts. refl) (var_agrees (IsVar depth) (var_to (suc depth)) (var_to_agrees depth))

none_vars : Agrees first_var ends_vars none (vars (var_to 0))
unfolding vars var_to
none_vars = record { begins = λ ts rest x p. absurd p; sound = λ ts. tt; complete = λ ts rest x p st. absurd p }

none_phrase : (which : Nested) (first ends' : TokenKind → Bool) → Agrees first ends' none (phrase 0 which)
unfolding phrase
none_phrase which first ends' = record { begins = λ ts rest x p. absurd p; sound = λ ts. tt; complete = λ ts rest x p st. absurd p }

abbrev pub primary_at : ℕ → Parse Expr
primary_at depth = primary (phrase depth) (vars (var_to depth))

-- what stands in the brackets of a layer agrees with its readers
pub record Layer (O T : Phrase Expr) (V : Phrase TargetExpr) (depth : ℕ) : Type 0 where
  pub ors : Agrees first_not (ends 10) O (phrase depth Or)
  pub tests : Agrees first_test (ends 11) T (phrase depth Test)
  pub variables : Agrees first_var ends_vars V (vars (var_to depth))
  pub unnamed : Unnamed T

no_layer : Layer none none none 0
no_layer = record { ors = none_phrase Or first_not (ends 10); tests = none_phrase Test first_test (ends 11); variables = none_vars; unnamed = none_unnamed }

layer_over : (depth : ℕ) → Agrees first_operand (ends 0) (IsPrimaryTo depth) (primary_at depth) → Layer (IsOrTo depth) (IsTestTo depth) (IsVars depth) (suc depth)
unfolding phrase
layer_over depth ag = record {
  ors = agree_as (IsOrTo depth) (or_test (primary_at depth)) (phrase (suc depth) Or) (λ ts. refl) (or_agrees (IsPrimaryTo depth) (primary_at depth) ag);
  tests = agree_as (IsTestTo depth) (test (primary_at depth)) (phrase (suc depth) Test) (λ ts. refl) (test_agrees (IsPrimaryTo depth) (primary_at depth) ag);
  variables = vars_agree (IsVar depth) (var_to (suc depth)) (var_to_agrees depth);
  unnamed = test_unnamed depth;
}

layer_primary : (O T : Phrase Expr) (V : Phrase TargetExpr) (depth : ℕ) → Layer O T V depth → Agrees first_operand (ends 0) (IsPrimary O T V) (primary_at depth)
layer_primary O T V depth l = primary_agrees O T V (phrase depth) (vars (var_to depth)) l.ors l.tests l.variables (vars_never (var_to depth) (var_to_never depth)) l.unnamed

-- the primaries in which at most this many brackets nest
primary_to_agrees : (depth : ℕ) → Agrees first_operand (ends 0) (IsPrimaryTo depth) (primary_at depth)
primary_to_agrees zero = layer_primary none none none 0 no_layer
primary_to_agrees (suc depth) = layer_primary (IsOrTo depth) (IsTestTo depth) (IsVars depth) (suc depth) (layer_over depth (primary_to_agrees depth))

pub operand_to_agrees : (depth : ℕ) → Agrees first_operand any (IsOperandTo depth) (operand (phrase depth) (vars (var_to depth)))
operand_to_agrees zero = let l = no_layer in
    operand_agrees none none none (phrase 0) (vars (var_to 0)) l.ors l.tests l.variables (vars_never (var_to 0) (var_to_never 0))
operand_to_agrees (suc depth) = let l = layer_over depth (primary_to_agrees depth) in
    operand_agrees (IsOrTo depth) (IsTestTo depth) (IsVars depth) (phrase (suc depth)) (vars (var_to (suc depth))) l.ors l.tests l.variables (vars_never (var_to (suc depth)) (var_to_never (suc depth)))

pub suffix_to_agrees : (depth : ℕ) → Agrees first_suffix any (IsSuffixTo depth) (suffix (phrase depth) (vars (var_to depth)))
suffix_to_agrees zero = let l = no_layer in
    suffix_agrees none none none (phrase 0) (vars (var_to 0)) l.ors l.tests l.variables (vars_never (var_to 0) (var_to_never 0)) l.unnamed
suffix_to_agrees (suc depth) = let l = layer_over depth (primary_to_agrees depth) in
    suffix_agrees (IsOrTo depth) (IsTestTo depth) (IsVars depth) (phrase (suc depth)) (vars (var_to (suc depth))) l.ors l.tests l.variables (vars_never (var_to (suc depth)) (var_to_never (suc depth))) l.unnamed

-- the variables of a `for`
pub variables_to_agree : (depth : ℕ) → Agrees first_var ends_vars (IsVars depth) (variables_to (suc depth))
variables_to_agree depth = vars_agree (IsVar depth) (var_to (suc depth)) (var_to_agrees depth)

-- What is read is what the grammar has.
pub test_to_agrees : (depth : ℕ) → Agrees first_test (ends 11) (IsTestTo depth) (phrase (suc depth) Test)
test_to_agrees depth = (layer_over depth (primary_to_agrees depth)).tests
