-- Suites, statements with blocks, and the layers of the grammar.
use Rattle.std.proofs.Common.{◌≡◌, ℕ, zero, suc, Bool, true, false, not, List, [], ◌∷◌, ◌++◌, Ok, refl, sym, ap, subst}
use Rattle.bq_source.specs.declared.token.TokenKind.{TokenKind}
use Rattle.bq_source.specs.declared.token.TokenKind.TheVariants as k
use Rattle.bq_source.specs.Token.{same_kind}
use Rattle.bq_parse_grammar.specs.Lexeme.{Lexeme}
use Rattle.bq_parse_grammar.specs.declared.tree.Expr.{Expr}
use Rattle.bq_parse_grammar.specs.declared.tree.Nested.TheVariants.{Test}
use Rattle.bq_parse_grammar.specs.declared.tree.Identifier.{Identifier}
use Rattle.bq_parse_grammar.specs.declared.tree.TargetExpr.{TargetExpr}
use Rattle.bq_parse_grammar.specs.declared.tree.Parameter.{Parameter}
use Rattle.bq_parse_grammar.specs.declared.parameters.AllowedParameters.TheVariants as ap
use Rattle.bq_parse_grammar.specs.declared.tree.SmallStmt.{SmallStmt}
use Rattle.bq_parse_grammar.specs.declared.tree.Branch.{Branch, roll-Branch}
use Rattle.bq_parse_grammar.specs.declared.tree.Stmt.{Stmt}
use Rattle.bq_parse_grammar.specs.declared.tree.Stmt.TheVariants as s
use Rattle.bq_parse_grammar.specs.Literals.{identifier}
use Rattle.bq_parse_grammar.specs.Phrases.{Phrase, none, Repeat, over}
use Rattle.bq_parse_grammar.specs.Grammar.{IsTestTo, IsExprTo, IsVars}
use Rattle.bq_parse_grammar.specs.Statements as S
use Rattle.bq_parse_grammar.specs.Statements.{AreParameters, AreSmall, IsSuite, IsBranch, IsElif, IsElse, IsStmtOver, IsStmt}
use Rattle.bq_parse_grammar.specs.Turns.{Found, Parse, ◌>>=◌, sees, expect, repeat}
use Rattle.bq_parse_grammar.specs.Reading.{word, var_to, variables_to, phrase}
use Rattle.bq_parse_grammar.specs.ReadingStatements.{expr_to, parameters, simple, in_block, block, suite, branch, elif, else_suite, if_stmt, for_stmt, def_stmt, simple_stmt, stmt_by, stmt, statement}
use Rattle.bq_parse_grammar.proofs.NextToken.{sees_it, sees_no, sees_other, tok, tok_kind}
use Rattle.bq_parse_grammar.proofs.Classes.{all_kinds, implies, implied, ends, any, first_test}
use Rattle.bq_parse_grammar.proofs.Agrees.{Begins, Stops, Owes, Met, Agrees, seq, seq_never, expects, opens, opens_if, then_token, then_is, owes_as, met_is, met_as, met_less, met_over, met_done, met_then, met_then0, met_expect, met_yes, met_no, begins_no, stops_no, repeat_sound, repeat_stops, repeat_complete}
use Rattle.bq_parse_grammar.proofs.Operands.{ends_vars}
use Rattle.bq_parse_grammar.proofs.Vars.{vars_never, var_to_never, agree_as, variables_to_agree, test_to_agrees}
use Rattle.bq_parse_laws.proofs.ExpressionReading.{expr_to_agrees}
use Rattle.bq_parse_laws.proofs.Loads.{IsWord, word_sound, word_never, word_met}
use Rattle.bq_parse_laws.proofs.Small.{first_small, simple_agrees}
use Rattle.bq_parse_laws.proofs.Parameters.{parameters_sound, parameters_met}

abbrev pub first_stmt : TokenKind → Bool
first_stmt k.If = true
first_stmt k.For = true
first_stmt k.Def = true
first_stmt q = first_small q

abbrev first_suite : TokenKind → Bool
first_suite k.Newline = true
first_suite q = first_small q

abbrev is_elif : TokenKind → Bool
is_elif k.Elif = true
is_elif _ = false

-- what goes on with an `if`
abbrev pub ends_block : TokenKind → Bool
ends_block k.Elif = false
ends_block k.Else = false
ends_block _ = true

elif_same : all_kinds (implies is_elif (λ q. same_kind q k.Elif)) ≡ true
unfolding same_kind
elif_same = refl

elif_seen : (ts : List Lexeme) → Begins is_elif ts → sees k.Elif ts ≡ true
elif_seen [] b = absurd b
elif_seen (t ∷ ts) b = implied is_elif (λ q. same_kind q k.Elif) elif_same t.kind b

else_elif : same_kind k.Else k.Elif ≡ false
unfolding same_kind
else_elif = refl

goes_on : (ts : List Lexeme) → Begins first_stmt ts → in_block ts ≡ true
goes_on [] b = absurd b
goes_on (t ∷ ts) b = ap not (sees_no first_stmt t ts k.Outdent b refl)

stops_any : (ts : List Lexeme) → Stops any ts
stops_any [] = tt
stops_any (t ∷ ts) = refl

module _ (depth : ℕ) (Inner : Phrase Stmt) (inner : Parse Stmt) (ag : Agrees first_stmt ends_block Inner inner) where
  lines : Agrees first_small any (AreSmall depth) (simple (suc depth))
  lines = simple_agrees depth

  tests : Agrees first_test (ends 11) (IsTestTo depth) (phrase (suc depth) Test)
  tests = test_to_agrees depth

  exprs : Agrees first_test (ends 12) (IsExprTo depth) (expr_to (suc depth))
  exprs = expr_to_agrees depth

  -- ---- suites

  block_sound : (n : Lexeme) (ts : List Lexeme) → n.kind ≡ k.Newline → Owes (List Stmt) (IsSuite depth Inner (n ∷ ts)) (block (suc depth) inner ts)
  unfolding block
  block_sound n ts f = opens (λ m. IsSuite depth Inner (n ∷ m)) k.Indent ts
      (λ _ us. inner us >>= λ x mid. repeat in_block inner (x ∷ []) mid >>= λ xs ws. expect k.Outdent ws >>= λ _ rest. Ok (xs, rest))
      (λ i us g. seq (Inner us) (IsSuite depth Inner (n ∷ i ∷ us)) (inner us) (λ x mid. repeat in_block inner (x ∷ []) mid >>= λ xs ws. expect k.Outdent ws >>= λ _ rest. Ok (xs, rest)) (ag.sound us)
      (λ x mid p. then_token (λ rest ys. (xs : List Stmt) × (ys ≡ (x ∷ []) ++ xs) × Repeat Inner mid rest xs) (IsSuite depth Inner (n ∷ i ∷ us)) (repeat in_block inner (x ∷ []) mid) k.Outdent (λ xs. xs)
      (repeat_sound Inner inner ag in_block (x ∷ []) mid) (λ ys o rest w h. subst (IsSuite depth Inner (n ∷ i ∷ us) rest) (sym w.1) (S.block f g p w.2 h)))
      (λ h rest. let x = h (tok k.Outdent ∷ rest) in (x.0 ∷ [], S.block f g x.1 over (tok_kind k.Outdent))))

  outdent_ends : (o : Lexeme) (rest : List Lexeme) → o.kind ≡ k.Outdent → Stops ends_block (o ∷ rest)
  outdent_ends o rest f = ap ends_block f

  block_met : (i : Lexeme) (ts mid : List Lexeme) (o : Lexeme) (rest : List Lexeme) (x : Stmt) (xs : List Stmt) → i.kind ≡ k.Indent → Inner ts mid x → Repeat Inner mid (o ∷ rest) xs → o.kind ≡ k.Outdent
      → Met 1 (i ∷ ts) (block (suc depth) inner (i ∷ ts)) (x ∷ xs) rest
  unfolding block
  block_met i ts mid o rest x xs g p ps h =
      met_expect k.Indent i ts (λ _ us. inner us >>= λ x mid. repeat in_block inner (x ∷ []) mid >>= λ xs ws. expect k.Outdent ws >>= λ _ rest. Ok (xs, rest)) g
      (met_less (met_then (inner ts) (λ x mid. repeat in_block inner (x ∷ []) mid >>= λ xs ws. expect k.Outdent ws >>= λ _ rest. Ok (xs, rest))
      (ag.complete ts mid x p (repeat_stops Inner inner ag in_block goes_on (implied first_stmt ends_block refl) mid (o ∷ rest) xs ps (outdent_ends o rest h)))
      (met_then0 (repeat in_block inner (x ∷ []) mid) (λ xs ws. expect k.Outdent ws >>= λ _ rest. Ok (xs, rest))
      (repeat_complete Inner inner ag in_block goes_on (implied first_stmt ends_block refl) (x ∷ []) mid (o ∷ rest) xs ps (outdent_ends o rest h) (ap not (sees_it o rest k.Outdent h)))
      (met_less (met_expect k.Outdent o rest (λ _ rest. Ok (x ∷ xs, rest)) h (met_done (x ∷ xs) rest))))))

  suite_agrees : Agrees first_suite any (IsSuite depth Inner) (suite (suc depth) inner)
  unfolding suite
  suite_agrees = record { begins = begins; sound = sound; complete = complete }
    where
      as_suite : (ts : List Lexeme) → Begins first_small ts → Begins first_suite ts
      as_suite [] b = absurd b
      as_suite (t ∷ ts) b = implied first_small first_suite refl t.kind b

      begins : (ts rest : List Lexeme) (xs : List Stmt) → IsSuite depth Inner ts rest xs → Begins first_suite ts
      begins ts rest xs (S.line {xs = ys} p f) = as_suite ts (lines.begins ts rest ys p)
      begins ts rest xs (S.block f g p ps h) = ap first_suite f

      sound : (ts : List Lexeme) → Owes (List Stmt) (IsSuite depth Inner ts) (suite (suc depth) inner ts)
      sound ts = opens_if (IsSuite depth Inner) k.Newline ts (λ us. block (suc depth) inner us) (simple (suc depth) ts >>= λ xs rest. Ok (s.Simple xs ∷ [], rest))
          (λ n us f. block_sound n us f)
          (λ h. then_is (AreSmall depth ts) (IsSuite depth Inner ts) (simple (suc depth) ts) (λ xs. s.Simple xs ∷ []) (lines.sound ts) (λ xs rest p. S.line p refl))

      complete : (ts rest : List Lexeme) (xs : List Stmt) → IsSuite depth Inner ts rest xs → Stops any rest → Met 1 ts (suite (suc depth) inner ts) xs rest
      complete ts rest xs (S.line {xs = ys} p f) st =
          met_no (sees k.Newline ts) _ (simple (suc depth) ts >>= λ xs rest. Ok (s.Simple xs ∷ [], rest)) (begins_no first_small ts k.Newline (lines.begins ts rest ys p) refl)
          (met_then (simple (suc depth) ts) (λ xs rest. Ok (s.Simple xs ∷ [], rest)) (lines.complete ts rest ys p (stops_any rest)) (met_as (ap (λ y. y ∷ []) (sym f)) (met_done (s.Simple ys ∷ []) rest)))
      complete ts rest xs (S.block {n = n} {i = i} {o = o} {ts = us} {mid = mid} {x = x} {xs = ys} f g p ps h) st =
          met_yes (sees k.Newline (n ∷ i ∷ us)) (block (suc depth) inner (i ∷ us)) _ (sees_it n (i ∷ us) k.Newline f) (met_over n (i ∷ us) (met_less (block_met i us mid o rest x ys g p ps h)))

  -- a suite made up
  a_suite : (rest : List Lexeme) → (xs : List Stmt) × IsSuite depth Inner (tok k.Pass ∷ tok k.Newline ∷ rest) rest xs
  a_suite rest = (_, S.line (S.last (S.small_stmt (S.pass (tok_kind k.Pass) refl) refl) (tok_kind k.Newline)) refl)

  -- ---- branches

  abbrev branch_of : Expr → List Stmt → Branch
  branch_of x xs = roll-Branch (record { condition = x; block = xs })

  branch_agrees : Agrees first_test any (IsBranch depth Inner) (branch (suc depth) inner)
  unfolding branch
  branch_agrees = record { begins = begins; sound = sound; complete = complete }
    where
      begins : (ts rest : List Lexeme) (y : Branch) → IsBranch depth Inner ts rest y → Begins first_test ts
      begins ts rest y (S.branch {c = c} {mid = mid} x p f q g) = tests.begins ts (c ∷ mid) x p

      sound : (ts : List Lexeme) → Owes Branch (IsBranch depth Inner ts) (branch (suc depth) inner ts)
      sound ts = seq (IsTestTo depth ts) (IsBranch depth Inner ts) (phrase (suc depth) Test ts) (λ x mid. expect k.Colon mid >>= λ _ us. suite (suc depth) inner us >>= λ xs rest. Ok (branch_of x xs, rest)) (tests.sound ts)
          (λ x mid p. expects (λ m. IsTestTo depth ts m x) (IsBranch depth Inner ts) k.Colon mid (λ _ us. suite (suc depth) inner us >>= λ xs rest. Ok (branch_of x xs, rest)) p
          (λ c us f w. then_is (IsSuite depth Inner us) (IsBranch depth Inner ts) (suite (suc depth) inner us) (branch_of x) (suite_agrees.sound us) (λ xs rest q. S.branch x w f q refl)))
          (λ h rest. let x = h (tok k.Colon ∷ tok k.Pass ∷ tok k.Newline ∷ rest) in let z = a_suite rest in (branch_of x.0 z.0, S.branch x.0 x.1 (tok_kind k.Colon) z.1 refl))

      complete : (ts rest : List Lexeme) (y : Branch) → IsBranch depth Inner ts rest y → Stops any rest → Met 1 ts (branch (suc depth) inner ts) y rest
      complete ts rest y (S.branch {c = c} {mid = mid} x {xs = xs} p f q g) st =
          met_then (phrase (suc depth) Test ts) (λ x mid. expect k.Colon mid >>= λ _ us. suite (suc depth) inner us >>= λ xs rest. Ok (branch_of x xs, rest))
          (tests.complete ts (c ∷ mid) x p (subst (λ q. ends 11 q ≡ true) (sym f) refl))
          (met_less (met_expect k.Colon c mid (λ _ us. suite (suc depth) inner us >>= λ xs rest. Ok (branch_of x xs, rest)) f
          (met_less (met_then (suite (suc depth) inner mid) (λ xs rest. Ok (branch_of x xs, rest)) (suite_agrees.complete mid rest xs q st) (met_as (sym g) (met_done (branch_of x xs) rest))))))

  elif_agrees : Agrees is_elif any (IsElif depth Inner) (elif (suc depth) inner)
  unfolding elif
  elif_agrees = record { begins = begins; sound = sound; complete = complete }
    where
      begins : (ts rest : List Lexeme) (y : Branch) → IsElif depth Inner ts rest y → Begins is_elif ts
      begins ts rest y (S.elif f p) = ap is_elif f

      sound : (ts : List Lexeme) → Owes Branch (IsElif depth Inner ts) (elif (suc depth) inner ts)
      sound ts = opens (IsElif depth Inner) k.Elif ts (λ _ us. branch (suc depth) inner us)
          (λ t us f. owes_as (IsBranch depth Inner us) (IsElif depth Inner (t ∷ us)) (branch (suc depth) inner us) (branch_agrees.sound us) (λ y rest p. S.elif f p))

      complete : (ts rest : List Lexeme) (y : Branch) → IsElif depth Inner ts rest y → Stops any rest → Met 1 ts (elif (suc depth) inner ts) y rest
      complete ts rest y (S.elif {t = t} {ts = us} f p) st = met_expect k.Elif t us (λ _ us. branch (suc depth) inner us) f (met_less (branch_agrees.complete us rest y p st))

  else_sound : (ts : List Lexeme) → Owes (List Stmt) (IsElse depth Inner ts) (else_suite (suc depth) inner ts)
  unfolding else_suite
  else_sound ts = opens_if (IsElse depth Inner) k.Else ts (λ us. expect k.Colon us >>= λ _ ws. suite (suc depth) inner ws) (Ok ([], ts))
      (λ t us f. opens (λ m. IsElse depth Inner (t ∷ m)) k.Colon us (λ _ ws. suite (suc depth) inner ws)
      (λ c ws g. owes_as (IsSuite depth Inner ws) (IsElse depth Inner (t ∷ c ∷ ws)) (suite (suc depth) inner ws) (suite_agrees.sound ws) (λ xs rest p. S.an_else f g p)))
      (λ h. S.no_else)

  else_met : (ts rest : List Lexeme) (zs : List Stmt) → IsElse depth Inner ts rest zs → Stops ends_block rest → Met 0 ts (else_suite (suc depth) inner ts) zs rest
  unfolding else_suite
  else_met ts rest zs S.no_else st = met_no (sees k.Else ts) _ (Ok ([], ts)) (stops_no ends_block ts k.Else st refl) (met_done [] ts)
  else_met ts rest zs (S.an_else {t = t} {c = c} {ts = us} f g p) st =
      met_yes (sees k.Else (t ∷ c ∷ us)) (expect k.Colon (c ∷ us) >>= λ _ ws. suite (suc depth) inner ws) _ (sees_it t (c ∷ us) k.Else f)
      (met_less (met_over t (c ∷ us) (met_less (met_expect k.Colon c us (λ _ ws. suite (suc depth) inner ws) g (met_less (suite_agrees.complete us rest zs p (stops_any rest)))))))

  no_elif : (ts rest : List Lexeme) (zs : List Stmt) → IsElse depth Inner ts rest zs → Stops ends_block rest → sees k.Elif ts ≡ false
  no_elif ts rest zs S.no_else st = stops_no ends_block ts k.Elif st refl
  no_elif ts rest zs (S.an_else {t = t} {c = c} {ts = us} f g p) st = sees_other t (c ∷ us) k.Elif k.Else f else_elif

  -- ---- statements

  if_sound : (t : Lexeme) (ts : List Lexeme) → t.kind ≡ k.If → Owes Stmt (IsStmtOver depth Inner (t ∷ ts)) (if_stmt (suc depth) inner ts)
  unfolding if_stmt
  if_sound t ts f = seq (IsBranch depth Inner ts) (IsStmtOver depth Inner (t ∷ ts)) (branch (suc depth) inner ts)
      (λ x mid. repeat (sees k.Elif) (elif (suc depth) inner) (x ∷ []) mid >>= λ xs us. else_suite (suc depth) inner us >>= λ zs rest. Ok (s.If xs zs, rest)) (branch_agrees.sound ts)
      (λ x mid p. seq (λ rest ys. (xs : List Branch) × (ys ≡ (x ∷ []) ++ xs) × Repeat (IsElif depth Inner) mid rest xs) (IsStmtOver depth Inner (t ∷ ts))
      (repeat (sees k.Elif) (elif (suc depth) inner) (x ∷ []) mid) (λ xs us. else_suite (suc depth) inner us >>= λ zs rest. Ok (s.If xs zs, rest))
      (repeat_sound (IsElif depth Inner) (elif (suc depth) inner) elif_agrees (sees k.Elif) (x ∷ []) mid)
      (λ ys us w. then_is (IsElse depth Inner us) (IsStmtOver depth Inner (t ∷ ts)) (else_suite (suc depth) inner us) (s.If ys) (else_sound us)
      (λ zs rest q. S.if_stmt f p w.2 q (ap (λ (ys : List Branch). s.If ys zs) w.1)))
      (λ h rest. let w = h rest in (s.If w.0 [], S.if_stmt f p w.1.2 S.no_else (ap (λ (ys : List Branch). s.If ys []) w.1.1))))
      (λ h rest. let x = h rest in (s.If (x.0 ∷ []) [], S.if_stmt f x.1 over S.no_else refl))

  if_met : (ts mid us rest : List Lexeme) (x : Branch) (xs : List Branch) (zs : List Stmt) (y : Stmt) → IsBranch depth Inner ts mid x → Repeat (IsElif depth Inner) mid us xs → IsElse depth Inner us rest zs
      → y ≡ s.If (x ∷ xs) zs → Stops ends_block rest → Met 1 ts (if_stmt (suc depth) inner ts) y rest
  unfolding if_stmt
  if_met ts mid us rest x xs zs y p ps q g st =
      met_then (branch (suc depth) inner ts) (λ x mid. repeat (sees k.Elif) (elif (suc depth) inner) (x ∷ []) mid >>= λ xs us. else_suite (suc depth) inner us >>= λ zs rest. Ok (s.If xs zs, rest))
      (branch_agrees.complete ts mid x p (stops_any mid))
      (met_then0 (repeat (sees k.Elif) (elif (suc depth) inner) (x ∷ []) mid) (λ xs us. else_suite (suc depth) inner us >>= λ zs rest. Ok (s.If xs zs, rest))
      (repeat_complete (IsElif depth Inner) (elif (suc depth) inner) elif_agrees (sees k.Elif) elif_seen (λ q h. refl) (x ∷ []) mid us xs ps (stops_any us) (no_elif us rest zs q st))
      (met_then0 (else_suite (suc depth) inner us) (λ zs rest. Ok (s.If (x ∷ xs) zs, rest)) (else_met us rest zs q st) (met_as (sym g) (met_done (s.If (x ∷ xs) zs) rest))))

  for_sound : (t : Lexeme) (ts : List Lexeme) → t.kind ≡ k.For → Owes Stmt (IsStmtOver depth Inner (t ∷ ts)) (for_stmt (suc depth) inner ts)
  unfolding for_stmt
  for_sound t ts f = seq_never (IsVars depth ts) (IsStmtOver depth Inner (t ∷ ts)) (variables_to (suc depth) ts)
      (λ v mid. expect k.In mid >>= λ _ us. expr_to (suc depth) us >>= λ x ws. expect k.Colon ws >>= λ _ vs. suite (suc depth) inner vs >>= λ xs rest. Ok (s.For v x xs, rest))
      (vars_never (var_to (suc depth)) (var_to_never (suc depth)) ts) ((variables_to_agree depth).sound ts)
      (λ v mid p. expects (λ m. IsVars depth ts m v) (IsStmtOver depth Inner (t ∷ ts)) k.In mid
      (λ _ us. expr_to (suc depth) us >>= λ x ws. expect k.Colon ws >>= λ _ vs. suite (suc depth) inner vs >>= λ xs rest. Ok (s.For v x xs, rest)) p
      (λ i us g w. seq (IsExprTo depth us) (IsStmtOver depth Inner (t ∷ ts)) (expr_to (suc depth) us) (λ x ws. expect k.Colon ws >>= λ _ vs. suite (suc depth) inner vs >>= λ xs rest. Ok (s.For v x xs, rest)) (exprs.sound us)
      (λ x ws r. expects (λ m. IsExprTo depth us m x) (IsStmtOver depth Inner (t ∷ ts)) k.Colon ws (λ _ vs. suite (suc depth) inner vs >>= λ xs rest. Ok (s.For v x xs, rest)) r
      (λ c vs h u. then_is (IsSuite depth Inner vs) (IsStmtOver depth Inner (t ∷ ts)) (suite (suc depth) inner vs) (s.For v x) (suite_agrees.sound vs) (λ xs rest q. S.for_stmt v x f w g u h q refl)))
      (λ h rest. let x = h (tok k.Colon ∷ tok k.Pass ∷ tok k.Newline ∷ rest) in let z = a_suite rest in (s.For v x.0 z.0, S.for_stmt v x.0 f w g x.1 (tok_kind k.Colon) z.1 refl))))

  for_met : (ts : List Lexeme) (i : Lexeme) (mid : List Lexeme) (c : Lexeme) (us rest : List Lexeme) (v : TargetExpr) (x : Expr) (xs : List Stmt) (y : Stmt) → IsVars depth ts (i ∷ mid) v → i.kind ≡ k.In
      → IsExprTo depth mid (c ∷ us) x → c.kind ≡ k.Colon → IsSuite depth Inner us rest xs → y ≡ s.For v x xs → Met 1 ts (for_stmt (suc depth) inner ts) y rest
  unfolding for_stmt
  for_met ts i mid c us rest v x xs y p g r h q j =
      met_then (variables_to (suc depth) ts)
      (λ v mid. expect k.In mid >>= λ _ us. expr_to (suc depth) us >>= λ x ws. expect k.Colon ws >>= λ _ vs. suite (suc depth) inner vs >>= λ xs rest. Ok (s.For v x xs, rest))
      ((variables_to_agree depth).complete ts (i ∷ mid) v p (subst (λ q. ends_vars q ≡ true) (sym g) refl))
      (met_less (met_expect k.In i mid (λ _ us. expr_to (suc depth) us >>= λ x ws. expect k.Colon ws >>= λ _ vs. suite (suc depth) inner vs >>= λ xs rest. Ok (s.For v x xs, rest)) g
      (met_less (met_then (expr_to (suc depth) mid) (λ x ws. expect k.Colon ws >>= λ _ vs. suite (suc depth) inner vs >>= λ xs rest. Ok (s.For v x xs, rest))
      (exprs.complete mid (c ∷ us) x r (subst (λ q. ends 12 q ≡ true) (sym h) refl))
      (met_less (met_expect k.Colon c us (λ _ vs. suite (suc depth) inner vs >>= λ xs rest. Ok (s.For v x xs, rest)) h
      (met_less (met_then (suite (suc depth) inner us) (λ xs rest. Ok (s.For v x xs, rest)) (suite_agrees.complete us rest xs q (stops_any rest)) (met_as (sym j) (met_done (s.For v x xs) rest))))))))))

  def_sound : (t : Lexeme) (ts : List Lexeme) → t.kind ≡ k.Def → Owes Stmt (IsStmtOver depth Inner (t ∷ ts)) (def_stmt (suc depth) inner ts)
  unfolding def_stmt
  def_sound t ts f = seq_never (IsWord ts) (IsStmtOver depth Inner (t ∷ ts)) (word ts)
      (λ n mid. expect k.LeftParen mid >>= λ _ us. parameters (suc depth) us >>= λ ps ws. expect k.Colon ws >>= λ _ vs. suite (suc depth) inner vs >>= λ xs rest. Ok (s.Def n ps xs, rest))
      (word_never ts) (word_sound ts)
      (λ n mid w. expects (λ m. ts ≡ w.0 ∷ m) (IsStmtOver depth Inner (t ∷ ts)) k.LeftParen mid
      (λ _ us. parameters (suc depth) us >>= λ ps ws. expect k.Colon ws >>= λ _ vs. suite (suc depth) inner vs >>= λ xs rest. Ok (s.Def n ps xs, rest)) w.1
      (λ o us g v. seq (AreParameters (IsTestTo depth) ap.All us) (IsStmtOver depth Inner (t ∷ ts)) (parameters (suc depth) us)
      (λ ps ws. expect k.Colon ws >>= λ _ vs. suite (suc depth) inner vs >>= λ xs rest. Ok (s.Def n ps xs, rest)) (parameters_sound depth us)
      (λ ps ws r. expects (λ m. AreParameters (IsTestTo depth) ap.All us m ps) (IsStmtOver depth Inner (t ∷ ts)) k.Colon ws (λ _ vs. suite (suc depth) inner vs >>= λ xs rest. Ok (s.Def n ps xs, rest)) r
      (λ c vs h u. then_is (IsSuite depth Inner vs) (IsStmtOver depth Inner (t ∷ ts)) (suite (suc depth) inner vs) (s.Def n ps) (suite_agrees.sound vs)
      (λ xs rest q. subst (λ m. IsStmtOver depth Inner (t ∷ m) rest (s.Def n ps xs)) (sym v) (S.def_stmt ps f w.2 g u h q (ap (λ (n : Identifier). s.Def n ps xs) w.3)))))
      (λ h rest. let ps = h (tok k.Colon ∷ tok k.Pass ∷ tok k.Newline ∷ rest) in let z = a_suite rest in
      (s.Def n ps.0 z.0, subst (λ m. IsStmtOver depth Inner (t ∷ m) rest (s.Def n ps.0 z.0)) (sym v) (S.def_stmt ps.0 f w.2 g ps.1 (tok_kind k.Colon) z.1 (ap (λ (n : Identifier). s.Def n ps.0 z.0) w.3))))))

  def_met : (n o : Lexeme) (ts : List Lexeme) (c : Lexeme) (mid rest : List Lexeme) (ps : List Parameter) (xs : List Stmt) (y : Stmt) → n.kind ≡ k.Identifier → o.kind ≡ k.LeftParen
      → AreParameters (IsTestTo depth) ap.All ts (c ∷ mid) ps → c.kind ≡ k.Colon → IsSuite depth Inner mid rest xs → y ≡ s.Def (identifier n) ps xs
      → Met 1 (n ∷ o ∷ ts) (def_stmt (suc depth) inner (n ∷ o ∷ ts)) y rest
  unfolding def_stmt
  def_met n o ts c mid rest ps xs y f g r h q j =
      met_then (word (n ∷ o ∷ ts))
      (λ n mid. expect k.LeftParen mid >>= λ _ us. parameters (suc depth) us >>= λ ps ws. expect k.Colon ws >>= λ _ vs. suite (suc depth) inner vs >>= λ xs rest. Ok (s.Def n ps xs, rest)) (word_met n (o ∷ ts) f)
      (met_less (met_expect k.LeftParen o ts
      (λ _ us. parameters (suc depth) us >>= λ ps ws. expect k.Colon ws >>= λ _ vs. suite (suc depth) inner vs >>= λ xs rest. Ok (s.Def (identifier n) ps xs, rest)) g
      (met_less (met_then (parameters (suc depth) ts) (λ ps ws. expect k.Colon ws >>= λ _ vs. suite (suc depth) inner vs >>= λ xs rest. Ok (s.Def (identifier n) ps xs, rest)) (parameters_met depth ts (c ∷ mid) ps r)
      (met_less (met_expect k.Colon c mid (λ _ vs. suite (suc depth) inner vs >>= λ xs rest. Ok (s.Def (identifier n) ps xs, rest)) h
      (met_less (met_then (suite (suc depth) inner mid) (λ xs rest. Ok (s.Def (identifier n) ps xs, rest)) (suite_agrees.complete mid rest xs q (stops_any rest)) (met_as (sym j) (met_done (s.Def (identifier n) ps xs) rest))))))))))

  simple_sound : (ts : List Lexeme) → Owes Stmt (IsStmtOver depth Inner ts) (simple_stmt (suc depth) inner ts)
  unfolding simple_stmt
  simple_sound ts = then_is (AreSmall depth ts) (IsStmtOver depth Inner ts) (simple (suc depth) ts) s.Simple (lines.sound ts) (λ xs rest p. S.simple p refl)

  simple_met : (ts rest : List Lexeme) (xs : List SmallStmt) (y : Stmt) → AreSmall depth ts rest xs → y ≡ s.Simple xs → Met 1 ts (simple_stmt (suc depth) inner ts) y rest
  unfolding simple_stmt
  simple_met ts rest xs y p f = met_then (simple (suc depth) ts) (λ xs rest. Ok (s.Simple xs, rest)) (lines.complete ts rest xs p (stops_any rest)) (met_as (sym f) (met_done (s.Simple xs) rest))

  by_kind : (t : Lexeme) (ts : List Lexeme) (q : TokenKind) → t.kind ≡ q → Owes Stmt (IsStmtOver depth Inner (t ∷ ts)) (stmt_by (suc depth) inner q t ts)
  by_kind t ts k.If f = if_sound t ts f
  by_kind t ts k.For f = for_sound t ts f
  by_kind t ts k.Def f = def_sound t ts f
  by_kind t ts _ f = simple_sound (t ∷ ts)

  by_simple : (t : Lexeme) (ts : List Lexeme) (q : TokenKind) → first_small q ≡ true → stmt_by (suc depth) inner q t ts ≡ simple_stmt (suc depth) inner (t ∷ ts)
  by_simple t ts k.If h = absurd (cc)
  by_simple t ts k.For h = absurd (cc)
  by_simple t ts k.Def h = absurd (cc)
  by_simple t ts _ h = refl

  abbrev at_kind : Lexeme → List Lexeme → TokenKind → Found Stmt
  at_kind t ts q = stmt_by (suc depth) inner q t ts

  as_simple : (ts rest : List Lexeme) (y : Stmt) → Begins first_small ts → Met 1 ts (simple_stmt (suc depth) inner ts) y rest → Met 1 ts (stmt (suc depth) inner ts) y rest
  unfolding stmt
  as_simple [] rest y b m = absurd b
  as_simple (t ∷ ts) rest y b m = met_is _ (simple_stmt (suc depth) inner (t ∷ ts)) (by_simple t ts t.kind b) m

  stmt_agrees : Agrees first_stmt ends_block (IsStmtOver depth Inner) (stmt (suc depth) inner)
  unfolding stmt
  stmt_agrees = record { begins = begins; sound = sound; complete = complete }
    where
      as_stmt : (ts : List Lexeme) → Begins first_small ts → Begins first_stmt ts
      as_stmt [] b = absurd b
      as_stmt (t ∷ ts) b = implied first_small first_stmt refl t.kind b

      begins : (ts rest : List Lexeme) (y : Stmt) → IsStmtOver depth Inner ts rest y → Begins first_stmt ts
      begins ts rest y (S.simple {xs = xs} p f) = as_stmt ts (lines.begins ts rest xs p)
      begins ts rest y (S.if_stmt f p ps q g) = ap first_stmt f
      begins ts rest y (S.for_stmt v x f p g r h q j) = ap first_stmt f
      begins ts rest y (S.def_stmt ps f g h r i q j) = ap first_stmt f

      sound : (ts : List Lexeme) → Owes Stmt (IsStmtOver depth Inner ts) (stmt (suc depth) inner ts)
      sound [] = tt
      sound (t ∷ ts) = by_kind t ts t.kind refl

      complete : (ts rest : List Lexeme) (y : Stmt) → IsStmtOver depth Inner ts rest y → Stops ends_block rest → Met 1 ts (stmt (suc depth) inner ts) y rest
      complete ts rest y (S.simple {xs = xs} p f) st = as_simple ts rest y (lines.begins ts rest xs p) (simple_met ts rest xs y p f)
      complete ts rest y (S.if_stmt {t = t} {ts = us} {mid = mid} {us = ws} {x = x} {xs = xs} {zs = zs} f p ps q g) st =
          met_is _ (if_stmt (suc depth) inner us) (ap (at_kind t us) f) (met_over t us (met_less (if_met us mid ws rest x xs zs y p ps q g st)))
      complete ts rest y (S.for_stmt {t = t} {i = i} {c = c} {ts = us} {mid = mid} {us = ws} v x {xs = xs} f p g r h q j) st =
          met_is _ (for_stmt (suc depth) inner us) (ap (at_kind t us) f) (met_over t us (met_less (for_met us i mid c ws rest v x xs y p g r h q j)))
      complete ts rest y (S.def_stmt {t = t} {n = n} {o = o} {c = c} {ts = us} {mid = mid} ps {xs = xs} f g h r i q j) st =
          met_is _ (def_stmt (suc depth) inner (n ∷ o ∷ us)) (ap (at_kind t (n ∷ o ∷ us)) f) (met_over t (n ∷ o ∷ us) (met_less (def_met n o us c mid rest ps xs y g h r i q j)))

none_stmt : Agrees first_stmt ends_block none (statement 0)
unfolding statement
none_stmt = record { begins = λ ts rest x p. absurd p; sound = λ ts. tt; complete = λ ts rest x p st. absurd p }

pub statement_agrees : (depth : ℕ) → Agrees first_stmt ends_block (IsStmt depth) (statement (suc depth))
unfolding statement
statement_agrees zero = agree_as (IsStmtOver zero none) (stmt 1 (statement 0)) (statement 1) (λ ts. refl) (stmt_agrees zero none (statement 0) none_stmt)
statement_agrees (suc depth) =
    agree_as (IsStmtOver (suc depth) (IsStmt depth)) (stmt (suc (suc depth)) (statement (suc depth))) (statement (suc (suc depth))) (λ ts. refl)
    (stmt_agrees (suc depth) (IsStmt depth) (statement (suc depth)) (statement_agrees depth))
