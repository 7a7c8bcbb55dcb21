-- What holds of the tokens from a place on, and so of those from each later place on, holds of what a reading leaves. A reading
-- stops at `lambda` only where one is among the tokens.
use Rattle.std.proofs.Common.{◌≡◌, ℕ, zero, suc, Bool, true, false, ◌||◌, cond, List, [], ◌∷◌, ◌++◌, length, Option, Some, None, Ok, Err, refl, sym, ap, ◌∙◌}
use Rattle.bq_source.specs.declared.token.TokenKind.{TokenKind}
use Rattle.bq_source.specs.declared.token.TokenKind.TheVariants as k
use Rattle.bq_parse_grammar.specs.declared.tree.ComprehensionFrame.TheVariants as frame
use Rattle.bq_parse_grammar.specs.Lexeme.{Lexeme}
use Rattle.bq_parse_grammar.specs.declared.refusal.SyntaxErr.TheVariants.{Memory, Syntax, Lambda}
use Rattle.bq_parse_grammar.specs.declared.tree.Nested.{Nested}
use Rattle.bq_parse_grammar.specs.declared.tree.Nested.TheVariants.{Or, Test}
use Rattle.bq_parse_grammar.specs.declared.tree.Expr.{Expr}
use Rattle.bq_parse_grammar.specs.declared.tree.Expr.TheVariants as e
use Rattle.bq_parse_grammar.specs.declared.tree.UnaryOperator.{UnaryOperator}
use Rattle.bq_parse_grammar.specs.declared.tree.Comparison.TheVariants as c
use Rattle.bq_parse_grammar.specs.declared.tree.Choice.{Choice}
use Rattle.bq_parse_grammar.specs.declared.tree.Operation.{roll-Operation}
use Rattle.bq_parse_grammar.specs.declared.tree.Pair.{roll-Pair}
use Rattle.bq_parse_grammar.specs.declared.tree.Suffix.{Suffix}
use Rattle.bq_parse_grammar.specs.declared.tree.Suffix.TheVariants as s
use Rattle.bq_parse_grammar.specs.declared.arguments.Allowed.{Allowed}
use Rattle.bq_parse_grammar.specs.declared.arguments.Allowed.TheVariants as al
use Rattle.bq_parse_grammar.specs.declared.arguments.ArgumentKind.{ArgumentKind}
use Rattle.bq_parse_grammar.specs.declared.arguments.ArgumentKind.TheVariants as ak
use Rattle.bq_parse_grammar.specs.declared.tree.Argument.{Argument}
use Rattle.bq_parse_grammar.specs.declared.tree.Argument.TheVariants as a
use Rattle.bq_parse_grammar.specs.declared.tree.Clause.TheVariants as cl
use Rattle.bq_parse_grammar.specs.declared.tree.TargetExpr.{TargetExpr}
use Rattle.bq_parse_grammar.specs.declared.tree.TargetExpr.TheVariants as target
use Rattle.bq_source.specs.Number.{int_value}
use Rattle.bq_source.specs.StringLiteral.{string_value}
use Rattle.bq_parse_grammar.specs.Literals.{identifier}
use Rattle.bq_parse_grammar.specs.Operators.{operator_at, sign, negation, comparison}
use Rattle.bq_parse_grammar.specs.Grammar.{binary_of, unary_of, primary_of, parenthesized_of, allowed_after}
use Rattle.bq_parse_grammar.specs.Laws.{is_lambda, NoLambda}
use Rattle.bq_parse_grammar.proofs.NextToken.{is_kind}
use Rattle.bq_parse_grammar.specs.Turns.{Found, Parse, ◌>>=◌, sees, next, expect, Turn, ended, goes, failed, next_turn, turns, whole, cut_off, repeat, listed_from, goes_with, repeat_turn, with_item, listed_turn}
use Rattle.bq_parse_grammar.specs.Reading.{word, has, known, looked_up, items_after, after_comma, chained, vars_after, var_in_parens, var_in_brackets, var_by, var, var_to, vars, pair, for_clause, clause, begins_clause, clauses, comprehension, parens_after, in_parens, brackets_after, in_brackets, braces_after, in_braces, int_of, string_of, operand_by, operand, argument_kind, spelling_of, argument_by, allowed_argument, argument, with_argument, argument_turn, arguments, optional_test, slice_end, slice_after, subscript_after, subscript, member_after, member, begins_suffix, suffix, primary, prefixed, operation, chain, binary, begins_comparison, comp_op, comp_after, comp, not_test, and_test, or_test, choice, with_choice, choice_turn, chosen_of, conditional, test, phrase_by, phrase}

module _ (P : List Lexeme → Type 0) (E : Type 0) (tail : (t : Lexeme) (ts : List Lexeme) → P (t ∷ ts) → P ts)
    (stop : (t : Lexeme) (ts : List Lexeme) → P (t ∷ ts) → t.kind ≡ k.Lambda → E) where
  -- `P` holds of what is left, and `E` where the reading stops at `lambda`
  abbrev pub Kept : {A : Type 0} → Found A → Type 0
  Kept (Ok p) = P p.1
  Kept (Err Memory) = Unit {0}
  Kept (Err Syntax) = Unit {0}
  Kept (Err Lambda) = E

  abbrev pub Keeps : {A : Type 0} → Parse A → Type 0
  Keeps r = (ts : List Lexeme) → P ts → Kept (r ts)

  pub then_kept : {A B : Type 0} (r : Found A) (f : A → Parse B) → Kept r → ((x : A) → Keeps (f x)) → Kept (r >>= f)
  then_kept (Ok p) f h g = g p.0 p.1 h
  then_kept (Err Memory) f h g = tt
  then_kept (Err Syntax) f h g = tt
  then_kept (Err Lambda) f h g = h

  pub if_kept : {A : Type 0} (b : Bool) (x y : Found A) → Kept x → Kept y → Kept (cond b x y)
  if_kept true x y g h = g
  if_kept false x y g h = h

  pub next_kept : (ts : List Lexeme) → P ts → P (next ts)
  next_kept [] h = h
  next_kept (t ∷ ts) h = tail t ts h

  pub expect_kept : (q : TokenKind) → Keeps (expect q)
  expect_kept q ts h = if_kept (sees q ts) (Ok (tt, next ts)) (Err Syntax) (next_kept ts h) tt

  abbrev pub KeptTurn : {S : Type 0} → Turn S → Type 0
  KeptTurn (ended s rest) = P rest
  KeptTurn (goes s rest) = P rest
  KeptTurn (failed Memory) = Unit {0}
  KeptTurn (failed Syntax) = Unit {0}
  KeptTurn (failed Lambda) = E

  pub next_turn_kept : {S : Type 0} (go : S → Parse S) (t : Turn S) → KeptTurn t → ((s : S) → Keeps (go s)) → Kept (next_turn go t)
  next_turn_kept go (ended s rest) h g = h
  next_turn_kept go (goes s rest) h g = g s rest h
  next_turn_kept go (failed Memory) h g = tt
  next_turn_kept go (failed Syntax) h g = tt
  next_turn_kept go (failed Lambda) h g = h

  pub turns_kept : {S : Type 0} (turn : S → List Lexeme → Turn S) (finish : S → Parse S) → ((s : S) (ts : List Lexeme) → P ts → KeptTurn (turn s ts)) → ((s : S) → Keeps (finish s))
      → (n : ℕ) (s : S) → Keeps (turns turn finish n s)
  unfolding turns
  turns_kept turn finish each at_end zero s ts h = at_end s ts h
  turns_kept turn finish each at_end (suc n) s ts h = next_turn_kept (turns turn finish n) (turn s ts) (each s ts h) (turns_kept turn finish each at_end n)

  pub if_turn : {S : Type 0} (b : Bool) (x y : Turn S) → KeptTurn x → KeptTurn y → KeptTurn (cond b x y)
  if_turn true x y g h = g
  if_turn false x y g h = h

  pub goes_with_kept : {A : Type 0} (found : List A) (z : Found A) → Kept z → KeptTurn (goes_with found z)
  goes_with_kept found (Ok p) h = h
  goes_with_kept found (Err Memory) h = tt
  goes_with_kept found (Err Syntax) h = tt
  goes_with_kept found (Err Lambda) h = h

  pub repeat_kept : {A : Type 0} (begins : List Lexeme → Bool) (one : Parse A) → Keeps one → (found : List A) → Keeps (repeat begins one found)
  unfolding repeat
  repeat_kept begins one safe found ts h = turns_kept (repeat_turn begins one) whole
      (λ s us g. if_turn (begins us) (goes_with s (one us)) (ended s us) (goes_with_kept s (one us) (safe us g)) g) (λ s us g. g) (length ts) found ts h

  pub with_item_kept : {A : Type 0} (close : TokenKind) (found : List A) (z : Found A) → Kept z → KeptTurn (with_item close found z)
  with_item_kept close found (Ok p) h = if_turn (sees k.Comma p.1) (goes (found ++ p.0 ∷ []) (next p.1)) (cond (sees close p.1) (ended (found ++ p.0 ∷ []) (next p.1)) (failed Syntax)) (next_kept p.1 h)
      (if_turn (sees close p.1) (ended (found ++ p.0 ∷ []) (next p.1)) (failed Syntax) (next_kept p.1 h) tt)
  with_item_kept close found (Err Memory) h = tt
  with_item_kept close found (Err Syntax) h = tt
  with_item_kept close found (Err Lambda) h = h

  pub listed_kept : {A : Type 0} (close : TokenKind) (one : Parse A) → Keeps one → (found : List A) → Keeps (listed_from close one found)
  unfolding listed_from
  listed_kept close one safe found ts h = turns_kept (listed_turn close one) cut_off
      (λ s us g. if_turn (sees close us) (ended s (next us)) (with_item close s (one us)) (next_kept us g) (with_item_kept close s (one us) (safe us g))) (λ s us g. tt) (length ts) found ts h

  pub items_kept : {A : Type 0} (close : TokenKind) (one : Parse A) → Keeps one → (x : A) → Keeps (items_after close one x)
  items_kept close one safe x ts h = if_kept (sees k.Comma ts) (listed_from close one (x ∷ []) (next ts)) (expect close ts >>= λ _ rest. Ok (x ∷ [], rest))
      (listed_kept close one safe (x ∷ []) (next ts) (next_kept ts h)) (then_kept (expect close ts) (λ _ rest. Ok (x ∷ [], rest)) (expect_kept close ts h) (λ u us g. g))

  pub comma_kept : {A : Type 0} (one : Parse A) → Keeps one → Keeps (after_comma one)
  comma_kept one safe ts h = then_kept (expect k.Comma ts) (λ _ us. one us) (expect_kept k.Comma ts h) (λ u us g. safe us g)

  pub chained_kept : {A : Type 0} (many : List A → A) (one : Parse A) → Keeps one → (x : A) → Keeps (chained many one x)
  chained_kept many one safe x ts h = if_kept (sees k.Comma ts) (after_comma one ts >>= λ y mid. repeat (sees k.Comma) (after_comma one) (x ∷ y ∷ []) mid >>= λ xs rest. Ok (many xs, rest)) (Ok (x, ts))
      (then_kept (after_comma one ts) (λ y mid. repeat (sees k.Comma) (after_comma one) (x ∷ y ∷ []) mid >>= λ xs rest. Ok (many xs, rest)) (comma_kept one safe ts h)
      (λ y us g. then_kept (repeat (sees k.Comma) (after_comma one) (x ∷ y ∷ []) us) (λ xs rest. Ok (many xs, rest)) (repeat_kept (sees k.Comma) (after_comma one) (comma_kept one safe) (x ∷ y ∷ []) us g) (λ xs vs f. f)))
      h

  pub word_kept : Keeps word
  word_kept [] h = tt
  word_kept (t ∷ ts) h = if_kept (sees k.Identifier (t ∷ ts)) (Ok (identifier t, ts)) (Err Syntax) (tail t ts h) tt

  pub known_kept : {B : Type 0} (o : Option B) → Keeps (known o)
  known_kept None ts h = tt
  known_kept (Some y) ts h = h

  pub looked_up_kept : {B : Type 0} (table : TokenKind → Option B) → Keeps (looked_up table)
  looked_up_kept table [] h = tt
  looked_up_kept table (t ∷ ts) h = known_kept (table t.kind) ts (tail t ts h)

  -- ---- variables

  var_kept : (one : Parse TargetExpr) → Keeps one → Keeps (var one)
  unfolding var var_in_parens var_in_brackets
  var_kept one safe [] h = tt
  var_kept one safe (t ∷ ts) h = at t.kind
    where
      at : (q : TokenKind) → Kept (var_by one q t ts)
      at k.Identifier = (tail t ts h)
      at k.LeftParen = then_kept (one ts) (λ x mid. vars_after one x mid) (safe ts (tail t ts h))
          (λ x us g. if_kept (sees k.Comma us) (listed_from k.RightParen one (x ∷ []) (next us) >>= λ xs rest. Ok (target.Tuple xs, rest)) (expect k.RightParen us >>= λ _ rest. Ok (x, rest))
          (then_kept (listed_from k.RightParen one (x ∷ []) (next us)) (λ xs rest. Ok (target.Tuple xs, rest)) (listed_kept k.RightParen one safe (x ∷ []) (next us) (next_kept us g)) (λ xs vs f. f))
          (then_kept (expect k.RightParen us) (λ _ rest. Ok (x, rest)) (expect_kept k.RightParen us g) (λ u vs f. f)))
      at k.LeftBracket = then_kept (one ts) (λ x mid. items_after k.RightBracket one x mid >>= λ xs rest. Ok (target.List xs, rest)) (safe ts (tail t ts h))
          (λ x us g. then_kept (items_after k.RightBracket one x us) (λ xs rest. Ok (target.List xs, rest)) (items_kept k.RightBracket one safe x us g) (λ xs vs f. f))
      at _ = tt

  pub var_to_kept : (depth : ℕ) → Keeps (var_to depth)
  unfolding var_to
  var_to_kept zero ts h = tt
  var_to_kept (suc depth) ts h = var_kept (var_to depth) (var_to_kept depth) ts h

  pub vars_kept : (one : Parse TargetExpr) → Keeps one → Keeps (vars one)
  unfolding vars
  vars_kept one safe ts h = then_kept (one ts) (λ x mid. chained target.Tuple one x mid) (safe ts h) (λ x us g. chained_kept target.Tuple one safe x us g)

  -- ---- over what stands in brackets

  module _ (inner : Nested → Parse Expr) (variables : Parse TargetExpr) (safe : (w : Nested) → Keeps (inner w)) (safe_vars : Keeps variables) where
    pair_kept : Keeps (pair inner variables)
    unfolding pair
    pair_kept ts h = then_kept (inner Test ts) (λ x mid. expect k.Colon mid >>= λ _ us. inner Test us >>= λ y rest. Ok (roll-Pair (record { key = x; value = y }), rest)) (safe Test ts h)
        (λ x us g. then_kept (expect k.Colon us) (λ _ us. inner Test us >>= λ y rest. Ok (roll-Pair (record { key = x; value = y }), rest)) (expect_kept k.Colon us g)
        (λ u vs f. then_kept (inner Test vs) (λ y rest. Ok (roll-Pair (record { key = x; value = y }), rest)) (safe Test vs f) (λ y ws i. i)))

    for_kept : Keeps (for_clause inner variables)
    unfolding for_clause
    for_kept ts h = then_kept (expect k.For ts) (λ _ us. variables us >>= λ v mid. expect k.In mid >>= λ _ ws. inner Or ws >>= λ x rest. Ok (cl.For v x, rest)) (expect_kept k.For ts h)
        (λ u us g. then_kept (variables us) (λ v mid. expect k.In mid >>= λ _ ws. inner Or ws >>= λ x rest. Ok (cl.For v x, rest)) (safe_vars us g)
        (λ v vs f. then_kept (expect k.In vs) (λ _ ws. inner Or ws >>= λ x rest. Ok (cl.For v x, rest)) (expect_kept k.In vs f)
        (λ u ws i. then_kept (inner Or ws) (λ x rest. Ok (cl.For v x, rest)) (safe Or ws i) (λ x ys j. j))))

    clause_kept : Keeps (clause inner variables)
    unfolding clause
    clause_kept ts h = if_kept (sees k.If ts) (inner Or (next ts) >>= λ x rest. Ok (cl.If x, rest)) (for_clause inner variables ts)
        (then_kept (inner Or (next ts)) (λ x rest. Ok (cl.If x, rest)) (safe Or (next ts) (next_kept ts h)) (λ x us g. g)) (for_kept ts h)

    clauses_kept : Keeps (clauses inner variables)
    unfolding clauses
    clauses_kept ts h = then_kept (for_clause inner variables ts) (λ y mid. repeat begins_clause (clause inner variables) (y ∷ []) mid) (for_kept ts h)
        (λ y us g. repeat_kept begins_clause (clause inner variables) clause_kept (y ∷ []) us g)

    comprehension_kept : (close : TokenKind) → Keeps (comprehension inner variables close)
    unfolding comprehension
    comprehension_kept close ts h = then_kept (clauses inner variables ts) (λ ys mid. expect close mid >>= λ _ rest. Ok (ys, rest)) (clauses_kept ts h)
        (λ ys us g. then_kept (expect close us) (λ _ rest. Ok (ys, rest)) (expect_kept close us g) (λ u vs f. f))

    parens_kept : Keeps (in_parens inner variables)
    unfolding in_parens
    parens_kept ts h = if_kept (sees k.RightParen ts) (Ok (e.Tuple [], next ts)) (inner Test ts >>= λ x mid. parens_after inner variables x mid) (next_kept ts h)
        (then_kept (inner Test ts) (λ x mid. parens_after inner variables x mid) (safe Test ts h)
        (λ x us g. if_kept (sees k.Comma us) (listed_from k.RightParen (inner Test) (x ∷ []) (next us) >>= λ xs rest. Ok (e.Tuple xs, rest))
        (expect k.RightParen us >>= λ _ rest. Ok (parenthesized_of (sees k.Dot rest) x, rest))
        (then_kept (listed_from k.RightParen (inner Test) (x ∷ []) (next us)) (λ xs rest. Ok (e.Tuple xs, rest)) (listed_kept k.RightParen (inner Test) (safe Test) (x ∷ []) (next us) (next_kept us g)) (λ xs vs f. f))
        (then_kept (expect k.RightParen us) (λ _ rest. Ok (parenthesized_of (sees k.Dot rest) x, rest)) (expect_kept k.RightParen us g) (λ u vs f. f))))

    brackets_kept : Keeps (in_brackets inner variables)
    unfolding in_brackets
    brackets_kept ts h = if_kept (sees k.RightBracket ts) (Ok (e.List [], next ts)) (inner Test ts >>= λ x mid. brackets_after inner variables x mid) (next_kept ts h)
        (then_kept (inner Test ts) (λ x mid. brackets_after inner variables x mid) (safe Test ts h)
        (λ x us g. if_kept (sees k.For us) (comprehension inner variables k.RightBracket us >>= λ ys rest. Ok (e.ListComprehension x ys frame.Shared, rest)) (items_after k.RightBracket (inner Test) x us >>= λ xs rest. Ok (e.List xs, rest))
        (then_kept (comprehension inner variables k.RightBracket us) (λ ys rest. Ok (e.ListComprehension x ys frame.Shared, rest)) (comprehension_kept k.RightBracket us g) (λ ys vs f. f))
        (then_kept (items_after k.RightBracket (inner Test) x us) (λ xs rest. Ok (e.List xs, rest)) (items_kept k.RightBracket (inner Test) (safe Test) x us g) (λ xs vs f. f))))

    braces_kept : Keeps (in_braces inner variables)
    unfolding in_braces
    braces_kept ts h = if_kept (sees k.RightBrace ts) (Ok (e.Dict [], next ts)) (pair inner variables ts >>= λ x mid. braces_after inner variables x mid) (next_kept ts h)
        (then_kept (pair inner variables ts) (λ x mid. braces_after inner variables x mid) (pair_kept ts h)
        (λ x us g. if_kept (sees k.For us) (comprehension inner variables k.RightBrace us >>= λ ys rest. Ok (e.DictComprehension x ys frame.Shared, rest)) (items_after k.RightBrace (pair inner variables) x us >>= λ xs rest. Ok (e.Dict xs, rest))
        (then_kept (comprehension inner variables k.RightBrace us) (λ ys rest. Ok (e.DictComprehension x ys frame.Shared, rest)) (comprehension_kept k.RightBrace us g) (λ ys vs f. f))
        (then_kept (items_after k.RightBrace (pair inner variables) x us) (λ xs rest. Ok (e.Dict xs, rest)) (items_kept k.RightBrace (pair inner variables) pair_kept x us g) (λ xs vs f. f))))

    pub operand_kept : Keeps (operand inner variables)
    unfolding operand
    operand_kept [] h = tt
    operand_kept (t ∷ ts) h = at t.kind
      where
        int_kept : (o : Option ℕ) → Kept (int_of o ts)
        int_kept None = tt
        int_kept (Some n) = (tail t ts h)

        string_kept : (o : Option (List ℕ)) → Kept (string_of o ts)
        string_kept None = tt
        string_kept (Some b) = (tail t ts h)

        at : (q : TokenKind) → Kept (operand_by inner variables q t ts)
        at k.Identifier = (tail t ts h)
        at k.Int = int_kept (int_value t.spelling)
        at k.String = string_kept (string_value t.spelling)
        at k.LeftParen = parens_kept ts (tail t ts h)
        at k.LeftBracket = brackets_kept ts (tail t ts h)
        at k.LeftBrace = braces_kept ts (tail t ts h)
        at _ = tt

    argument_by_kept : (q : ArgumentKind) → Keeps (argument_by inner variables q)
    argument_by_kept ak.Positional ts h = then_kept (inner Test ts) (λ x rest. Ok (a.Positional x, rest)) (safe Test ts h) (λ x us g. g)
    argument_by_kept ak.Named ts h = then_kept (inner Test (next (next ts))) (λ x rest. Ok (a.Named (spelling_of ts) x, rest)) (safe Test (next (next ts)) (next_kept (next ts) (next_kept ts h))) (λ x us g. g)
    argument_by_kept ak.Star ts h = then_kept (inner Test (next ts)) (λ x rest. Ok (a.Star x, rest)) (safe Test (next ts) (next_kept ts h)) (λ x us g. g)
    argument_by_kept ak.StarStar ts h = then_kept (inner Test (next ts)) (λ x rest. Ok (a.StarStar x, rest)) (safe Test (next ts) (next_kept ts h)) (λ x us g. g)

    argument_kept : (s : Allowed) → Keeps (argument inner variables s)
    unfolding argument
    argument_kept s ts h = go (allowed_after s (argument_kind ts))
      where
        go : (o : Option Allowed) → Kept (allowed_argument inner variables o (argument_kind ts) ts)
        go None = tt
        go (Some s') = then_kept (argument_by inner variables (argument_kind ts) ts) (λ x rest. Ok ((x, s'), rest)) (argument_by_kept (argument_kind ts) ts h) (λ x us g. g)

    with_argument_kept : (found : List Argument) (z : Found (Argument × Allowed)) → Kept z → KeptTurn (with_argument found z)
    with_argument_kept found (Ok p) h = if_turn (sees k.Comma p.1) (goes (found ++ p.0.0 ∷ [], p.0.1) (next p.1)) (cond (sees k.RightParen p.1) (ended (found ++ p.0.0 ∷ [], p.0.1) (next p.1)) (failed Syntax)) (next_kept p.1 h)
        (if_turn (sees k.RightParen p.1) (ended (found ++ p.0.0 ∷ [], p.0.1) (next p.1)) (failed Syntax) (next_kept p.1 h) tt)
    with_argument_kept found (Err Memory) h = tt
    with_argument_kept found (Err Syntax) h = tt
    with_argument_kept found (Err Lambda) h = h

    arguments_kept : Keeps (arguments inner variables)
    unfolding arguments
    arguments_kept ts h = then_kept (turns (argument_turn inner variables) cut_off (length ts) ([], al.All) ts) (λ p rest. Ok (p.0, rest))
        (turns_kept (argument_turn inner variables) cut_off
        (λ s us g. if_turn (sees k.RightParen us) (ended s (next us)) (with_argument s.0 (argument inner variables s.1 us)) (next_kept us g) (with_argument_kept s.0 (argument inner variables s.1 us) (argument_kept s.1 us g)))
        (λ s us g. tt) (length ts) ([], al.All) ts h)
        (λ p us g. g)

    optional_kept : Keeps (optional_test inner variables)
    unfolding optional_test
    optional_kept ts h = if_kept (sees k.Colon ts || sees k.RightBracket ts) (Ok (None, ts)) (inner Test ts >>= λ x rest. Ok (Some x, rest)) h
        (then_kept (inner Test ts) (λ x rest. Ok (Some x, rest)) (safe Test ts h) (λ x us g. g))

    slice_end_kept : (x y : Option Expr) → Keeps (slice_end inner variables x y)
    unfolding slice_end
    slice_end_kept x y ts h = if_kept (sees k.Colon ts) (optional_test inner variables (next ts) >>= λ w mid. expect k.RightBracket mid >>= λ _ rest. Ok (s.Slice x y w, rest)) (expect k.RightBracket ts >>= λ _ rest. Ok (s.Slice x y None, rest))
        (then_kept (optional_test inner variables (next ts)) (λ w mid. expect k.RightBracket mid >>= λ _ rest. Ok (s.Slice x y w, rest)) (optional_kept (next ts) (next_kept ts h))
        (λ w us g. then_kept (expect k.RightBracket us) (λ _ rest. Ok (s.Slice x y w, rest)) (expect_kept k.RightBracket us g) (λ u vs f. f)))
        (then_kept (expect k.RightBracket ts) (λ _ rest. Ok (s.Slice x y None, rest)) (expect_kept k.RightBracket ts h) (λ u vs f. f))

    slice_after_kept : (x : Option Expr) → Keeps (slice_after inner variables x)
    unfolding slice_after
    slice_after_kept x ts h = then_kept (optional_test inner variables ts) (λ y mid. slice_end inner variables x y mid) (optional_kept ts h) (λ y us g. slice_end_kept x y us g)

    subscript_kept : Keeps (subscript inner variables)
    unfolding subscript
    subscript_kept ts h = if_kept (sees k.Colon ts) (slice_after inner variables None (next ts)) (inner Test ts >>= λ x mid. subscript_after inner variables x mid) (slice_after_kept None (next ts) (next_kept ts h))
        (then_kept (inner Test ts) (λ x mid. subscript_after inner variables x mid) (safe Test ts h)
        (λ x us g. if_kept (sees k.Colon us) (slice_after inner variables (Some x) (next us)) (chained e.Tuple (inner Test) x us >>= λ y mid. expect k.RightBracket mid >>= λ _ rest. Ok (s.Index y, rest))
        (slice_after_kept (Some x) (next us) (next_kept us g))
        (then_kept (chained e.Tuple (inner Test) x us) (λ y mid. expect k.RightBracket mid >>= λ _ rest. Ok (s.Index y, rest)) (chained_kept e.Tuple (inner Test) (safe Test) x us g)
        (λ y vs f. then_kept (expect k.RightBracket vs) (λ _ rest. Ok (s.Index y, rest)) (expect_kept k.RightBracket vs f) (λ u ws i. i)))))

    called_kept : (f : List Argument → Suffix) → Keeps (λ ts. arguments inner variables ts >>= λ xs rest. Ok (f xs, rest))
    called_kept f ts h = then_kept (arguments inner variables ts) (λ xs rest. Ok (f xs, rest)) (arguments_kept ts h) (λ xs us g. g)

    member_kept : Keeps (member inner variables)
    unfolding member
    member_kept ts h = then_kept (word ts) (λ n mid. member_after inner variables n mid) (word_kept ts h)
        (λ n us g. if_kept (sees k.LeftParen us) (arguments inner variables (next us) >>= λ xs rest. Ok (s.Method n xs, rest)) (Ok (s.Attribute n, us)) (called_kept (s.Method n) (next us) (next_kept us g)) g)

    pub suffix_kept : Keeps (suffix inner variables)
    unfolding suffix
    suffix_kept ts h = if_kept (sees k.Dot ts) (member inner variables (next ts)) _ (member_kept (next ts) (next_kept ts h))
        (if_kept (sees k.LeftParen ts) (arguments inner variables (next ts) >>= λ xs rest. Ok (s.Call xs, rest)) (expect k.LeftBracket ts >>= λ _ us. subscript inner variables us)
        (called_kept s.Call (next ts) (next_kept ts h))
        (then_kept (expect k.LeftBracket ts) (λ _ us. subscript inner variables us) (expect_kept k.LeftBracket ts h) (λ u us g. subscript_kept us g)))

    pub primary_kept : Keeps (primary inner variables)
    unfolding primary
    primary_kept ts h = then_kept (operand inner variables ts) (λ x mid. repeat begins_suffix (suffix inner variables) [] mid >>= λ xs rest. Ok (primary_of x xs, rest)) (operand_kept ts h)
        (λ x us g. then_kept (repeat begins_suffix (suffix inner variables) [] us) (λ xs rest. Ok (primary_of x xs, rest)) (repeat_kept begins_suffix (suffix inner variables) suffix_kept [] us g) (λ xs vs f. f))

  -- ---- operators

  prefixed_kept : (table : TokenKind → Option UnaryOperator) (one : Parse Expr) → Keeps one → Keeps (prefixed table one)
  unfolding prefixed
  prefixed_kept table one safe ts h = then_kept (repeat (has table) (looked_up table) [] ts) (λ os mid. one mid >>= λ x rest. Ok (unary_of os x, rest)) (repeat_kept (has table) (looked_up table) (looked_up_kept table) [] ts h)
      (λ os us g. then_kept (one us) (λ x rest. Ok (unary_of os x, rest)) (safe us g) (λ x vs f. f))

  operation_kept : (l : ℕ) (one : Parse Expr) → Keeps one → Keeps (operation l one)
  unfolding operation
  operation_kept l one safe ts h = then_kept (looked_up (operator_at l) ts) (λ o us. one us >>= λ x rest. Ok (roll-Operation (record { operator = o; operand = x }), rest)) (looked_up_kept (operator_at l) ts h)
      (λ o us g. then_kept (one us) (λ x rest. Ok (roll-Operation (record { operator = o; operand = x }), rest)) (safe us g) (λ x vs f. f))

  chain_kept : (l : ℕ) (one : Parse Expr) → Keeps one → Keeps (chain l one)
  unfolding chain
  chain_kept l one safe ts h = then_kept (one ts) (λ x mid. repeat (has (operator_at l)) (operation l one) [] mid >>= λ os rest. Ok (binary_of x os, rest)) (safe ts h)
      (λ x us g. then_kept (repeat (has (operator_at l)) (operation l one) [] us) (λ os rest. Ok (binary_of x os, rest)) (repeat_kept (has (operator_at l)) (operation l one) (operation_kept l one safe) [] us g) (λ os vs f. f))

  module _ (base : Parse Expr) (safe : Keeps base) where
    binary_kept : (l : ℕ) → Keeps (binary base l)
    binary_kept zero = prefixed_kept sign base safe
    binary_kept (suc l) = chain_kept (suc l) (binary base l) (binary_kept l)

    comp_op_kept : Keeps comp_op
    unfolding comp_op
    comp_op_kept ts h = if_kept (sees k.Not ts) (expect k.In (next ts) >>= λ _ rest. Ok (c.NotIn, rest)) (looked_up comparison ts)
        (then_kept (expect k.In (next ts)) (λ _ rest. Ok (c.NotIn, rest)) (expect_kept k.In (next ts) (next_kept ts h)) (λ u us g. g)) (looked_up_kept comparison ts h)

    comp_kept : Keeps (comp base)
    unfolding comp
    comp_kept ts h = then_kept (binary base 6 ts) (λ x mid. comp_after base x mid) (binary_kept 6 ts h)
        (λ x us g. if_kept (begins_comparison us) (comp_op us >>= λ o us. binary base 6 us >>= λ y rest. Ok (e.Compare x o y, rest)) (Ok (x, us))
        (then_kept (comp_op us) (λ o us. binary base 6 us >>= λ y rest. Ok (e.Compare x o y, rest)) (comp_op_kept us g)
        (λ o vs f. then_kept (binary base 6 vs) (λ y rest. Ok (e.Compare x o y, rest)) (binary_kept 6 vs f) (λ y ws i. i)))
        g)

    or_kept : Keeps (or_test base)
    or_kept = chain_kept 10 (and_test base) (chain_kept 9 (not_test base) (prefixed_kept negation (comp base) comp_kept))

    choice_kept : Keeps (choice base)
    unfolding choice
    choice_kept ts h = then_kept (expect k.If ts) (λ _ us. or_test base us >>= λ x mid. expect k.Else mid >>= λ _ ws. or_test base ws >>= λ y rest. Ok ((x, y), rest)) (expect_kept k.If ts h)
        (λ u us g. then_kept (or_test base us) (λ x mid. expect k.Else mid >>= λ _ ws. or_test base ws >>= λ y rest. Ok ((x, y), rest)) (or_kept us g)
        (λ x vs f. then_kept (expect k.Else vs) (λ _ ws. or_test base ws >>= λ y rest. Ok ((x, y), rest)) (expect_kept k.Else vs f)
        (λ u ws i. then_kept (or_test base ws) (λ y rest. Ok ((x, y), rest)) (or_kept ws i) (λ y ys j. j))))

    with_choice_kept : (p : List Choice × Expr) (z : Found (Expr × Expr)) → Kept z → KeptTurn (with_choice p z)
    with_choice_kept p (Ok q) h = h
    with_choice_kept p (Err Memory) h = tt
    with_choice_kept p (Err Syntax) h = tt
    with_choice_kept p (Err Lambda) h = h

    conditional_kept : (x : Expr) → Keeps (conditional base x)
    unfolding conditional
    conditional_kept x ts h = then_kept (turns (choice_turn base) whole (length ts) ([], x) ts) (λ p rest. Ok (chosen_of p, rest))
        (turns_kept (choice_turn base) whole (λ p us g. if_turn (sees k.If us) (with_choice p (choice base us)) (ended p us) (with_choice_kept p (choice base us) (choice_kept us g)) g) (λ p us g. g) (length ts) ([], x) ts h)
        (λ p us g. g)

    test_kept : Keeps (test base)
    unfolding test
    test_kept [] h = then_kept (or_test base []) (λ x mid. conditional base x mid) (or_kept [] h) (λ x us g. conditional_kept x us g)
    test_kept (t ∷ ts) h = go (sees k.Lambda (t ∷ ts)) (is_kind t.kind k.Lambda)
      where
        go : (b : Bool) → (b ≡ true → t.kind ≡ k.Lambda) → Kept (cond b (Err Lambda) (or_test base (t ∷ ts) >>= λ x mid. conditional base x mid))
        go true f = stop t ts h (f refl)
        go false f = then_kept (or_test base (t ∷ ts)) (λ x mid. conditional base x mid) (or_kept (t ∷ ts) h) (λ x us g. conditional_kept x us g)

    by_kept : (w : Nested) → Keeps (phrase_by base w)
    by_kept Or = or_kept
    by_kept Test = test_kept

  pub phrase_kept : (depth : ℕ) (w : Nested) → Keeps (phrase depth w)
  unfolding phrase
  phrase_kept zero w ts h = tt
  phrase_kept (suc depth) w ts h = by_kept (primary (phrase depth) (vars (var_to depth)))
      (primary_kept (phrase depth) (vars (var_to depth)) (phrase_kept depth) (vars_kept (var_to depth) (var_to_kept depth))) w ts h

-- ---- tokens without `lambda`

pub later_plain : (t : Lexeme) (ts : List Lexeme) → NoLambda (t ∷ ts) → NoLambda ts
later_plain t ts h = h.1

pub no_stop : (t : Lexeme) (ts : List Lexeme) → NoLambda (t ∷ ts) → t.kind ≡ k.Lambda → ⊥
no_stop t ts h e = let w = sym (ap is_lambda e) ∙ h.0 in cc

abbrev pub Plain : {A : Type 0} → Found A → Type 0
Plain found = Kept NoLambda ⊥ later_plain no_stop found

pub phrase_plain : (depth : ℕ) (w : Nested) (ts : List Lexeme) → NoLambda ts → Plain (phrase depth w ts)
phrase_plain = phrase_kept NoLambda ⊥ later_plain no_stop
