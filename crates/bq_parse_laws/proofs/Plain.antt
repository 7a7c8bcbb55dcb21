-- The reading of a statement stops at `lambda` only where one is among the tokens.
use Rattle.std.proofs.Common.{ℕ, zero, suc, Bool, true, false, cond, List, [], ◌∷◌, ◌++◌, length, Option, Some, None, Result, Ok, Err}
use Rattle.bq_source.specs.declared.token.TokenKind.{TokenKind}
use Rattle.bq_source.specs.declared.token.TokenKind.TheVariants as k
use Rattle.bq_source.specs.StringLiteral.{string_value}
use Rattle.bq_parse_grammar.specs.Lexeme.{Lexeme}
use Rattle.bq_parse_grammar.specs.declared.refusal.SyntaxErr.{SyntaxErr}
use Rattle.bq_parse_grammar.specs.declared.refusal.SyntaxErr.TheVariants.{Memory, Syntax, Lambda}
use Rattle.bq_parse_grammar.specs.declared.tree.Expr.{Expr}
use Rattle.bq_parse_grammar.specs.declared.tree.Expr.TheVariants as e
use Rattle.bq_parse_grammar.specs.declared.tree.Nested.TheVariants.{Test}
use Rattle.bq_parse_grammar.specs.declared.parameters.AllowedParameters.{AllowedParameters}
use Rattle.bq_parse_grammar.specs.declared.parameters.AllowedParameters.TheVariants as ap
use Rattle.bq_parse_grammar.specs.declared.parameters.ParameterKind.{ParameterKind}
use Rattle.bq_parse_grammar.specs.declared.parameters.ParameterKind.TheVariants as pk
use Rattle.bq_parse_grammar.specs.declared.tree.Parameter.{Parameter}
use Rattle.bq_parse_grammar.specs.declared.tree.Parameter.TheVariants as p
use Rattle.bq_parse_grammar.specs.declared.tree.SmallKind.TheVariants as small
use Rattle.bq_parse_grammar.specs.declared.tree.SmallStmt.{SmallStmt}
use Rattle.bq_parse_grammar.specs.declared.tree.Branch.{roll-Branch}
use Rattle.bq_parse_grammar.specs.declared.tree.Stmt.{Stmt}
use Rattle.bq_parse_grammar.specs.declared.tree.Stmt.TheVariants as s
use Rattle.bq_parse_grammar.specs.Literals.{is_identifier, named}
use Rattle.bq_parse_grammar.specs.Operators.{augmented}
use Rattle.bq_parse_grammar.specs.Laws.{NoLambda}
use Rattle.bq_parse_grammar.specs.Statements.{line_of, parameters_after, may_end}
use Rattle.bq_parse_grammar.specs.Targets.{target_to, augmented_target}
use Rattle.bq_parse_grammar.specs.Turns.{Found, Parse, ◌>>=◌, sees, next, expect, Turn, ended, goes, failed, turns, cut_off, repeat, listed_from}
use Rattle.bq_parse_grammar.specs.Reading.{word, has, looked_up, chained, var_to, variables_to, phrase}
use Rattle.bq_parse_grammar.specs.ReadingStatements.{expr, expr_to, made, parameter_kind, parameter_by, allowed_parameter, parameter, close_parameters, with_parameter, parameter_turn, parameters, text_of, text, symbol, load_clause, load_after, load, ends_small, returned, ended_by, assigned, augmented_as, after_expression, expression, small_by, small_kind, small_stmt, with_small, after_semicolon, small_turn, simple, in_block, block, suite, branch, elif, else_suite, if_stmt, for_stmt, def_stmt, simple_stmt, stmt_by, stmt, statement}
use Rattle.bq_parse_grammar.proofs.Keeping.{KeptTurn, then_kept, if_kept, next_kept, expect_kept, turns_kept, if_turn, repeat_kept, listed_kept, chained_kept, word_kept, looked_up_kept, var_to_kept, vars_kept, Plain, later_plain, no_stop, phrase_plain}
use Rattle.bq_parse_laws.proofs.Calm.{Calm, target_calm, augmented_calm}

abbrev Safe : {A : Type 0} → Parse A → Type 0
Safe r = (ts : List Lexeme) → NoLambda ts → Plain (r ts)

abbrev PlainTurn : {S : Type 0} → Turn S → Type 0
PlainTurn t = KeptTurn NoLambda ⊥ later_plain no_stop t

seq : {A B : Type 0} (r : Found A) (f : A → Parse B) → Plain r → ((x : A) → Safe (f x)) → Plain (r >>= f)
seq r f h g = then_kept NoLambda ⊥ later_plain no_stop r f h g

then_ok : {A B : Type 0} (r : Found A) (f : A → B) → Plain r → Plain (r >>= λ x rest. Ok (f x, rest))
then_ok r f h = seq r (λ x rest. Ok (f x, rest)) h (λ x us g. g)

either : {A : Type 0} (b : Bool) (x y : Found A) → Plain x → Plain y → Plain (cond b x y)
either b x y g h = if_kept NoLambda ⊥ later_plain no_stop b x y g h

turn_either : {S : Type 0} (b : Bool) (x y : Turn S) → PlainTurn x → PlainTurn y → PlainTurn (cond b x y)
turn_either b x y g h = if_turn NoLambda ⊥ later_plain no_stop b x y g h

expects : (q : TokenKind) → Safe (expect q)
expects q ts h = expect_kept NoLambda ⊥ later_plain no_stop q ts h

onward : (ts : List Lexeme) → NoLambda ts → NoLambda (next ts)
onward ts h = next_kept NoLambda ⊥ later_plain no_stop ts h

word_plain : Safe word
word_plain ts h = word_kept NoLambda ⊥ later_plain no_stop ts h

test_plain : (depth : ℕ) → Safe (phrase depth Test)
test_plain depth ts h = phrase_plain depth Test ts h

expr_plain : (depth : ℕ) → Safe (expr_to depth)
unfolding expr
expr_plain depth ts h = seq (phrase depth Test ts) (λ x mid. chained e.Tuple (phrase depth Test) x mid) (test_plain depth ts h)
    (λ x us g. chained_kept NoLambda ⊥ later_plain no_stop e.Tuple (phrase depth Test) (test_plain depth) x us g)

made_plain : {A : Type 0} (r : Result A SyntaxErr) → Calm r → Safe (made r)
made_plain (Ok x) c ts h = h
made_plain (Err Memory) c ts h = tt
made_plain (Err Syntax) c ts h = tt
made_plain (Err Lambda) c ts h = c

-- ---- parameters

by_plain : (depth : ℕ) (q : ParameterKind) → Safe (parameter_by depth q)
by_plain depth pk.Plain ts h = then_ok (word ts) p.Plain (word_plain ts h)
by_plain depth pk.Default ts h = seq (word ts) (λ n mid. expect k.Assign mid >>= λ _ us. phrase depth Test us >>= λ x rest. Ok (p.Default n x, rest)) (word_plain ts h)
    (λ n us g. seq (expect k.Assign us) (λ _ us. phrase depth Test us >>= λ x rest. Ok (p.Default n x, rest)) (expects k.Assign us g) (λ u vs f. then_ok (phrase depth Test vs) (p.Default n) (test_plain depth vs f)))
by_plain depth pk.BareStar ts h = onward ts h
by_plain depth pk.Star ts h = then_ok (word (next ts)) p.Star (word_plain (next ts) (onward ts h))
by_plain depth pk.StarStar ts h = then_ok (word (next ts)) p.StarStar (word_plain (next ts) (onward ts h))

parameter_plain : (depth : ℕ) (c : AllowedParameters) → Safe (parameter depth c)
unfolding parameter
parameter_plain depth c ts h = go (parameters_after c (parameter_kind ts))
  where
    go : (o : Option AllowedParameters) → Plain (allowed_parameter depth o (parameter_kind ts) ts)
    go None = tt
    go (Some s) = then_ok (parameter_by depth (parameter_kind ts) ts) (λ x. (x, s)) (by_plain depth (parameter_kind ts) ts h)

close_plain : (z : List Parameter × AllowedParameters) (ts : List Lexeme) → NoLambda ts → PlainTurn (close_parameters z ts)
close_plain z ts h = turn_either (may_end z.1) (ended z ts) (failed Syntax) h tt

with_plain : (found : List Parameter) (z : Found (Parameter × AllowedParameters)) → Plain z → PlainTurn (with_parameter found z)
with_plain found (Ok z) h = turn_either (sees k.Comma z.1) (goes (found ++ z.0.0 ∷ [], z.0.1) (next z.1)) (cond (sees k.RightParen z.1) (close_parameters (found ++ z.0.0 ∷ [], z.0.1) (next z.1)) (failed Syntax)) (onward z.1 h)
    (turn_either (sees k.RightParen z.1) (close_parameters (found ++ z.0.0 ∷ [], z.0.1) (next z.1)) (failed Syntax) (close_plain (found ++ z.0.0 ∷ [], z.0.1) (next z.1) (onward z.1 h)) tt)
with_plain found (Err Memory) h = tt
with_plain found (Err Syntax) h = tt
with_plain found (Err Lambda) h = h

parameters_plain : (depth : ℕ) → Safe (parameters depth)
unfolding parameters
parameters_plain depth ts h = then_ok (turns (parameter_turn depth) cut_off (length ts) ([], ap.All) ts) (λ z. z.0)
    (turns_kept NoLambda ⊥ later_plain no_stop (parameter_turn depth) cut_off
    (λ z us g. turn_either (sees k.RightParen us) (close_parameters z (next us)) (with_parameter z.0 (parameter depth z.1 us)) (close_plain z (next us) (onward us g)) (with_plain z.0 (parameter depth z.1 us) (parameter_plain depth z.1 us g)))
    (λ z us g. tt) (length ts) ([], ap.All) ts h)

-- ---- small statements

text_plain : Safe text
text_plain [] h = tt
text_plain (t ∷ ts) h = go (sees k.String (t ∷ ts)) (string_value t.spelling)
  where
    go : (b : Bool) (o : Option (List ℕ)) → Plain (cond b (text_of o ts) (Err Syntax))
    go false o = tt
    go true None = tt
    go true (Some b) = h.1

symbol_plain : Safe symbol
unfolding symbol
symbol_plain ts h = seq (text ts) (λ b rest. cond (is_identifier b) (Ok (b, rest)) (Err Syntax)) (text_plain ts h) (λ b us g. either (is_identifier b) (Ok (b, us)) (Err Syntax) g tt)

clause_plain : Safe load_clause
unfolding load_clause
clause_plain ts h = either (sees k.String ts) (symbol ts >>= λ b rest. Ok (record { local = named b (line_of ts); symbol = b }, rest))
    (word ts >>= λ n mid. expect k.Assign mid >>= λ _ us. symbol us >>= λ b rest. Ok (record { local = n; symbol = b }, rest))
    (seq (symbol ts) (λ b rest. Ok (record { local = named b (line_of ts); symbol = b }, rest)) (symbol_plain ts h) (λ b us g. g))
    (seq (word ts) (λ n mid. expect k.Assign mid >>= λ _ us. symbol us >>= λ b rest. Ok (record { local = n; symbol = b }, rest)) (word_plain ts h)
    (λ n us g. seq (expect k.Assign us) (λ _ us. symbol us >>= λ b rest. Ok (record { local = n; symbol = b }, rest)) (expects k.Assign us g)
    (λ u vs f. seq (symbol vs) (λ b rest. Ok (record { local = n; symbol = b }, rest)) (symbol_plain vs f) (λ b ws i. i))))

load_plain : Safe load
unfolding load
load_plain ts h = seq (expect k.LeftParen ts) (λ _ us. text us >>= λ b mid. load_after b mid) (expects k.LeftParen ts h)
    (λ u us g. seq (text us) (λ b mid. load_after b mid) (text_plain us g)
    (λ b vs f. either (sees k.Comma vs) (listed_from k.RightParen load_clause [] (next vs) >>= λ xs rest. Ok (small.Load (record { label = b; clauses = xs }), rest))
    (expect k.RightParen vs >>= λ _ rest. Ok (small.Load (record { label = b; clauses = [] }), rest))
    (seq (listed_from k.RightParen load_clause [] (next vs)) (λ xs rest. Ok (small.Load (record { label = b; clauses = xs }), rest)) (listed_kept NoLambda ⊥ later_plain no_stop k.RightParen load_clause clause_plain [] (next vs) (onward vs f)) (λ xs ws i. i))
    (seq (expect k.RightParen vs) (λ _ rest. Ok (small.Load (record { label = b; clauses = [] }), rest)) (expects k.RightParen vs f) (λ u ws i. i))))

returned_plain : (depth : ℕ) → Safe (returned depth)
unfolding returned
returned_plain depth ts h = either (ends_small ts) (Ok (small.Return None, ts)) (expr_to depth ts >>= λ x rest. Ok (small.Return (Some x), rest)) h
    (then_ok (expr_to depth ts) (λ x. small.Return (Some x)) (expr_plain depth ts h))

augmented_plain : (depth : ℕ) (b : Bool) (x : Expr) → Safe (augmented_as depth b x)
augmented_plain depth true x ts h = tt
augmented_plain depth false x ts h = seq (made (augmented_target x) ts) (λ y us. looked_up augmented us >>= λ o ws. expr_to depth ws >>= λ v rest. Ok (small.Augment y o v, rest)) (made_plain (augmented_target x) (augmented_calm x) ts h)
    (λ y us g. seq (looked_up augmented us) (λ o ws. expr_to depth ws >>= λ v rest. Ok (small.Augment y o v, rest)) (looked_up_kept NoLambda ⊥ later_plain no_stop augmented us g)
    (λ o ws f. then_ok (expr_to depth ws) (small.Augment y o) (expr_plain depth ws f)))

expression_plain : (depth : ℕ) → Safe (expression depth)
unfolding expression
expression_plain depth ts h = seq (expr_to depth ts) (λ x mid. after_expression depth (ended_by k.RightParen ts mid) x mid) (expr_plain depth ts h)
    (λ x us g. either (sees k.Assign us) (assigned depth x (next us)) (cond (has augmented us) (augmented_as depth (ended_by k.RightParen ts us) x us) (Ok (small.Expr x, us)))
    (seq (made (target_to (suc depth) x) (next us)) (λ y ws. expr_to depth ws >>= λ v rest. Ok (small.Assign y v, rest)) (made_plain (target_to (suc depth) x) (target_calm (suc depth) x) (next us) (onward us g))
    (λ y ws f. then_ok (expr_to depth ws) (small.Assign y) (expr_plain depth ws f)))
    (either (has augmented us) (augmented_as depth (ended_by k.RightParen ts us) x us) (Ok (small.Expr x, us)) (augmented_plain depth (ended_by k.RightParen ts us) x us g) g))

kind_plain : (depth : ℕ) → Safe (small_kind depth)
unfolding small_kind
kind_plain depth [] h = tt
kind_plain depth (t ∷ ts) h = at t.kind
  where
    at : (q : TokenKind) → Plain (small_by depth q t ts)
    at k.Return = returned_plain depth ts h.1
    at k.Break = h.1
    at k.Continue = h.1
    at k.Pass = h.1
    at k.Load = load_plain ts h.1
    at _ = expression_plain depth (t ∷ ts) h

small_plain : (depth : ℕ) → Safe (small_stmt depth)
unfolding small_stmt
small_plain depth ts h = seq (small_kind depth ts) (λ x rest. Ok (record { line = line_of ts; kind = x }, rest)) (kind_plain depth ts h) (λ x us g. g)

line_plain : (found : List SmallStmt) (z : Found SmallStmt) → Plain z → PlainTurn (with_small found z)
line_plain found (Ok z) h = turn_either (sees k.Semicolon z.1) (after_semicolon (found ++ z.0 ∷ []) (next z.1)) (cond (sees k.Newline z.1) (ended (found ++ z.0 ∷ []) (next z.1)) (failed Syntax))
    (turn_either (sees k.Newline (next z.1)) (ended (found ++ z.0 ∷ []) (next (next z.1))) (goes (found ++ z.0 ∷ []) (next z.1)) (onward (next z.1) (onward z.1 h)) (onward z.1 h))
    (turn_either (sees k.Newline z.1) (ended (found ++ z.0 ∷ []) (next z.1)) (failed Syntax) (onward z.1 h) tt)
line_plain found (Err Memory) h = tt
line_plain found (Err Syntax) h = tt
line_plain found (Err Lambda) h = h

simple_plain : (depth : ℕ) → Safe (simple depth)
unfolding simple
simple_plain depth ts h = turns_kept NoLambda ⊥ later_plain no_stop (small_turn depth) cut_off (λ found us g. line_plain found (small_stmt depth us) (small_plain depth us g)) (λ found us g. tt) (length ts) [] ts h

-- ---- statements with blocks

module _ (depth : ℕ) (inner : Parse Stmt) (safe : Safe inner) where
  block_plain : Safe (block depth inner)
  unfolding block
  block_plain ts h = seq (expect k.Indent ts) (λ _ us. inner us >>= λ x mid. repeat in_block inner (x ∷ []) mid >>= λ xs ws. expect k.Outdent ws >>= λ _ rest. Ok (xs, rest)) (expects k.Indent ts h)
      (λ u us g. seq (inner us) (λ x mid. repeat in_block inner (x ∷ []) mid >>= λ xs ws. expect k.Outdent ws >>= λ _ rest. Ok (xs, rest)) (safe us g)
      (λ x vs f. seq (repeat in_block inner (x ∷ []) vs) (λ xs ws. expect k.Outdent ws >>= λ _ rest. Ok (xs, rest)) (repeat_kept NoLambda ⊥ later_plain no_stop in_block inner safe (x ∷ []) vs f)
      (λ xs ws i. seq (expect k.Outdent ws) (λ _ rest. Ok (xs, rest)) (expects k.Outdent ws i) (λ u ys j. j))))

  suite_plain : Safe (suite depth inner)
  unfolding suite
  suite_plain ts h = either (sees k.Newline ts) (block depth inner (next ts)) (simple depth ts >>= λ xs rest. Ok (s.Simple xs ∷ [], rest)) (block_plain (next ts) (onward ts h))
      (then_ok (simple depth ts) (λ xs. s.Simple xs ∷ []) (simple_plain depth ts h))

  branch_plain : Safe (branch depth inner)
  unfolding branch
  branch_plain ts h = seq (phrase depth Test ts) (λ x mid. expect k.Colon mid >>= λ _ us. suite depth inner us >>= λ xs rest. Ok (roll-Branch (record { condition = x; block = xs }), rest)) (test_plain depth ts h)
      (λ x us g. seq (expect k.Colon us) (λ _ us. suite depth inner us >>= λ xs rest. Ok (roll-Branch (record { condition = x; block = xs }), rest)) (expects k.Colon us g)
      (λ u vs f. seq (suite depth inner vs) (λ xs rest. Ok (roll-Branch (record { condition = x; block = xs }), rest)) (suite_plain vs f) (λ xs ws i. i)))

  elif_plain : Safe (elif depth inner)
  unfolding elif
  elif_plain ts h = seq (expect k.Elif ts) (λ _ us. branch depth inner us) (expects k.Elif ts h) (λ u us g. branch_plain us g)

  else_plain : Safe (else_suite depth inner)
  unfolding else_suite
  else_plain ts h = either (sees k.Else ts) (expect k.Colon (next ts) >>= λ _ us. suite depth inner us) (Ok ([], ts))
      (seq (expect k.Colon (next ts)) (λ _ us. suite depth inner us) (expects k.Colon (next ts) (onward ts h)) (λ u us g. suite_plain us g)) h

  if_plain : Safe (if_stmt depth inner)
  unfolding if_stmt
  if_plain ts h = seq (branch depth inner ts) (λ x mid. repeat (sees k.Elif) (elif depth inner) (x ∷ []) mid >>= λ xs us. else_suite depth inner us >>= λ zs rest. Ok (s.If xs zs, rest)) (branch_plain ts h)
      (λ x us g. seq (repeat (sees k.Elif) (elif depth inner) (x ∷ []) us) (λ xs us. else_suite depth inner us >>= λ zs rest. Ok (s.If xs zs, rest)) (repeat_kept NoLambda ⊥ later_plain no_stop (sees k.Elif) (elif depth inner) elif_plain (x ∷ []) us g)
      (λ xs vs f. then_ok (else_suite depth inner vs) (s.If xs) (else_plain vs f)))

  for_plain : Safe (for_stmt depth inner)
  unfolding for_stmt
  for_plain ts h = seq (variables_to depth ts) (λ v mid. expect k.In mid >>= λ _ us. expr_to depth us >>= λ x ws. expect k.Colon ws >>= λ _ vs. suite depth inner vs >>= λ xs rest. Ok (s.For v x xs, rest))
      (vars_kept NoLambda ⊥ later_plain no_stop (var_to depth) (var_to_kept NoLambda ⊥ later_plain no_stop depth) ts h)
      (λ v us g. seq (expect k.In us) (λ _ us. expr_to depth us >>= λ x ws. expect k.Colon ws >>= λ _ vs. suite depth inner vs >>= λ xs rest. Ok (s.For v x xs, rest)) (expects k.In us g)
      (λ u vs f. seq (expr_to depth vs) (λ x ws. expect k.Colon ws >>= λ _ vs. suite depth inner vs >>= λ xs rest. Ok (s.For v x xs, rest)) (expr_plain depth vs f)
      (λ x ws i. seq (expect k.Colon ws) (λ _ vs. suite depth inner vs >>= λ xs rest. Ok (s.For v x xs, rest)) (expects k.Colon ws i)
      (λ u ys j. then_ok (suite depth inner ys) (s.For v x) (suite_plain ys j)))))

  def_plain : Safe (def_stmt depth inner)
  unfolding def_stmt
  def_plain ts h = seq (word ts) (λ n mid. expect k.LeftParen mid >>= λ _ us. parameters depth us >>= λ ps ws. expect k.Colon ws >>= λ _ vs. suite depth inner vs >>= λ xs rest. Ok (s.Def n ps xs, rest)) (word_plain ts h)
      (λ n us g. seq (expect k.LeftParen us) (λ _ us. parameters depth us >>= λ ps ws. expect k.Colon ws >>= λ _ vs. suite depth inner vs >>= λ xs rest. Ok (s.Def n ps xs, rest)) (expects k.LeftParen us g)
      (λ u vs f. seq (parameters depth vs) (λ ps ws. expect k.Colon ws >>= λ _ vs. suite depth inner vs >>= λ xs rest. Ok (s.Def n ps xs, rest)) (parameters_plain depth vs f)
      (λ ps ws i. seq (expect k.Colon ws) (λ _ vs. suite depth inner vs >>= λ xs rest. Ok (s.Def n ps xs, rest)) (expects k.Colon ws i)
      (λ u ys j. then_ok (suite depth inner ys) (s.Def n ps) (suite_plain ys j)))))

  simple_stmt_plain : Safe (simple_stmt depth inner)
  unfolding simple_stmt
  simple_stmt_plain ts h = then_ok (simple depth ts) s.Simple (simple_plain depth ts h)

  stmt_plain : Safe (stmt depth inner)
  unfolding stmt
  stmt_plain [] h = tt
  stmt_plain (t ∷ ts) h = at t.kind
    where
      at : (q : TokenKind) → Plain (stmt_by depth inner q t ts)
      at k.If = if_plain ts h.1
      at k.For = for_plain ts h.1
      at k.Def = def_plain ts h.1
      at _ = simple_stmt_plain (t ∷ ts) h

pub statement_plain : (depth : ℕ) → Safe (statement depth)
unfolding statement
statement_plain zero ts h = tt
statement_plain (suc depth) ts h = stmt_plain (suc depth) (statement depth) (statement_plain depth) ts h
