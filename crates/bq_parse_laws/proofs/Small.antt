-- Small statements, and the lines that they make.
use Rattle.std.proofs.Common.{◌≡◌, ℕ, zero, suc, ◌≤◌, Bool, true, false, ◌||◌, cond, List, [], ◌∷◌, ◌++◌, length, Option, Some, None, Ok, Err, refl, sym, ap, ◌∙◌, subst, append_assoc, arith}
use Rattle.bq_source.specs.declared.token.TokenKind.{TokenKind}
use Rattle.bq_source.specs.declared.token.TokenKind.TheVariants as k
use Rattle.bq_source.specs.Token.{same_kind}
use Rattle.bq_parse_grammar.specs.Lexeme.{Lexeme}
use Rattle.bq_parse_grammar.specs.declared.refusal.SyntaxErr.TheVariants.{Memory, Syntax, Lambda}
use Rattle.bq_parse_grammar.specs.declared.tree.Expr.{Expr}
use Rattle.bq_parse_grammar.specs.declared.tree.Expr.TheVariants as e
use Rattle.bq_parse_grammar.specs.declared.tree.Operator.{Operator}
use Rattle.bq_parse_grammar.specs.declared.tree.Suffix.TheVariants as s
use Rattle.bq_parse_grammar.specs.declared.tree.SmallKind.{SmallKind}
use Rattle.bq_parse_grammar.specs.declared.tree.SmallKind.TheVariants as small
use Rattle.bq_parse_grammar.specs.declared.tree.SmallStmt.{SmallStmt}
use Rattle.bq_parse_grammar.specs.declared.tree.TargetExpr.{TargetExpr}
use Rattle.bq_parse_grammar.specs.declared.tree.TargetExpr.TheVariants as target
use Rattle.bq_parse_grammar.specs.Literals.{identifier}
use Rattle.bq_parse_grammar.specs.Operators.{augmented}
use Rattle.bq_parse_grammar.specs.Grammar.{IsExprTo}
use Rattle.bq_parse_grammar.specs.Statements as S
use Rattle.bq_parse_grammar.specs.Statements.{line_of, IsSmallKind, IsSmall, AreSmall}
use Rattle.bq_parse_grammar.specs.Targets.{target_to, augmented_target}
use Rattle.bq_parse_grammar.specs.Turns.{Found, Parse, ◌>>=◌, sees, next, Turn, ended, goes, failed, next_turn, turns, cut_off}
use Rattle.bq_parse_grammar.specs.Reading.{is_known, has, known, looked_up}
use Rattle.bq_parse_grammar.specs.ReadingStatements.{expr_to, made, ends_small, returned, ended_by, assigned, augmented_as, after_expression, expression, load, small_by, small_kind, small_stmt, after_semicolon, with_small, small_turn, simple}
use Rattle.bq_parse_grammar.proofs.NextToken.{sees_it, sees_other, opened, tok, tok_kind}
use Rattle.bq_parse_grammar.proofs.Classes.{all_kinds, implies, implied, excludes, excluded, ends, any, first_test}
use Rattle.bq_parse_grammar.proofs.Agrees.{Begins, Stops, Owes, Met, met, cut, Agrees, either, sees_owes, then_is, owes_as, met_is, met_as, met_less, met_over, met_done, met_then, met_yes, met_no, begins_no}
use Rattle.bq_parse_laws.proofs.ExpressionReading.{expr_up, expr_to_agrees}
use Rattle.bq_parse_laws.proofs.Targets.{indexed_expr, indexed_value, target_comes, target_back}
use Rattle.bq_parse_laws.proofs.Ending.{ends_with_word, index_ends, IsAssignable, a_name, an_index, assignable, name_read, name_taken, primary_taken}
use Rattle.bq_parse_laws.proofs.Calm.{target_calm, augmented_calm, made_then}
use Rattle.bq_parse_laws.proofs.Loads.{load_sound, load_met, load_alone_met}

-- ---- what follows a small statement

abbrev pub ends_stmt : TokenKind → Bool
ends_stmt k.Newline = true
ends_stmt k.Semicolon = true
ends_stmt _ = false

at_end_by : all_kinds (implies ends_stmt (λ q. same_kind q k.Newline || same_kind q k.Semicolon)) ≡ true
unfolding same_kind
at_end_by = refl

at_end : (t : Lexeme) (ts : List Lexeme) → ends_stmt t.kind ≡ true → ends_small (t ∷ ts) ≡ true
at_end t ts h = implied ends_stmt (λ q. same_kind q k.Newline || same_kind q k.Semicolon) at_end_by t.kind h

-- no token at all doesn't end one
abbrev pub EndsStmt : List Lexeme → Type 0
EndsStmt ts = Begins ends_stmt ts

wide : (ts : List Lexeme) → EndsStmt ts → Stops (ends 12) ts
wide [] h = tt
wide (t ∷ ts) h = implied ends_stmt (ends 12) refl t.kind h

unseen : (q : TokenKind) (ts : List Lexeme) → ends_stmt q ≡ false → EndsStmt ts → sees q ts ≡ false
unseen q ts f h = begins_no ends_stmt ts q h f

not_augmented : (ts : List Lexeme) → EndsStmt ts → has augmented ts ≡ false
not_augmented [] h = refl
not_augmented (t ∷ ts) h = excluded ends_stmt (λ q. is_known (augmented q)) refl t.kind h

assign_12 : (q : Lexeme) (ts : List Lexeme) → q.kind ≡ k.Assign → Stops (ends 12) (q ∷ ts)
assign_12 q ts f = subst (λ j. ends 12 j ≡ true) (sym f) refl

known_is : {B : Type 0} (o : Option B) (y : B) → o ≡ Some y → is_known o ≡ true
known_is o y f = ap is_known f

augmented_12 : (q : Lexeme) (ts : List Lexeme) (o : Operator) → augmented q.kind ≡ Some o → Stops (ends 12) (q ∷ ts)
augmented_12 q ts o f = implied (λ j. is_known (augmented j)) (ends 12) refl q.kind (known_is (augmented q.kind) o f)

assign_unseen_by : all_kinds (excludes (λ j. is_known (augmented j)) (λ j. same_kind j k.Assign)) ≡ true
unfolding same_kind
assign_unseen_by = refl

assign_unseen : (q : Lexeme) (ts : List Lexeme) (o : Operator) → augmented q.kind ≡ Some o → sees k.Assign (q ∷ ts) ≡ false
assign_unseen q ts o f = excluded (λ j. is_known (augmented j)) (λ j. same_kind j k.Assign) assign_unseen_by q.kind (known_is (augmented q.kind) o f)

semicolon_newline : same_kind k.Newline k.Semicolon ≡ false
unfolding same_kind
semicolon_newline = refl

-- what begins one
abbrev pub first_small : TokenKind → Bool
first_small k.Return = true
first_small k.Break = true
first_small k.Continue = true
first_small k.Pass = true
first_small k.Load = true
first_small q = first_test q

-- ---- expressions and assignments

module _ (depth : ℕ) where
  abbrev after : List Lexeme → Expr → Parse SmallKind
  after ts x mid = after_expression (suc depth) (ended_by k.RightParen ts mid) x mid

  augmented_owes : (ts : List Lexeme) (x : Expr) (mid : List Lexeme) → expr_to (suc depth) ts ≡ Ok (x, mid) → IsExprTo depth ts mid x → has augmented mid ≡ true
      → (b : Bool) → ended_by k.RightParen ts mid ≡ b → Owes SmallKind (IsSmallKind depth ts) (augmented_as (suc depth) b x mid)
  augmented_owes ts x mid read p h true g = tt
  augmented_owes ts x [] read p h false g = absurd (cc)
  augmented_owes ts x (q ∷ us) read p h false g =
      made_then (IsSmallKind depth ts) (augmented_target x) (λ y us. looked_up augmented us >>= λ o ws. expr_to (suc depth) ws >>= λ v rest. Ok (small.Augment y o v, rest)) (q ∷ us) (augmented_calm x)
      (λ y takes. go y (augmented q.kind) refl (assignable depth ts x q us y read takes g p))
    where
      go : (y : TargetExpr) (o : Option Operator) → augmented q.kind ≡ o → IsAssignable depth ts (q ∷ us) y
          → Owes SmallKind (IsSmallKind depth ts) (known o us >>= λ o ws. expr_to (suc depth) ws >>= λ v rest. Ok (small.Augment y o v, rest))
      go y None f w = tt
      go y (Some o) f (a_name n i j l) = then_is (IsExprTo depth us) (IsSmallKind depth ts) (expr_to (suc depth) us) (small.Augment y o) ((expr_to_agrees depth).sound us)
          (λ v rest w. subst (λ m. IsSmallKind depth m rest (small.Augment y o v)) (sym i) (S.augment_name v j f w (ap (λ z. small.Augment z o v) l)))
      go y (Some o) f (an_index i) = then_is (IsExprTo depth us) (IsSmallKind depth ts) (expr_to (suc depth) us) (small.Augment y o) ((expr_to_agrees depth).sound us)
          (λ v rest w. S.augment_index y v i f w refl)

  after_owes : (ts : List Lexeme) (x : Expr) (mid : List Lexeme) → expr_to (suc depth) ts ≡ Ok (x, mid) → IsExprTo depth ts mid x → Owes SmallKind (IsSmallKind depth ts) (after ts x mid)
  after_owes ts x mid read p = sees_owes (λ m. IsExprTo depth ts m x) (IsSmallKind depth ts) k.Assign mid (λ us. assigned (suc depth) x us)
      (cond (has augmented mid) (augmented_as (suc depth) (ended_by k.RightParen ts mid) x mid) (Ok (small.Expr x, mid))) p
      (λ q us f w. made_then (IsSmallKind depth ts) (target_to (suc (suc depth)) x) (λ y us. expr_to (suc depth) us >>= λ v rest. Ok (small.Assign y v, rest)) us (target_calm (suc (suc depth)) x)
      (λ y takes. then_is (IsExprTo depth us) (IsSmallKind depth ts) (expr_to (suc depth) us) (small.Assign y) ((expr_to_agrees depth).sound us)
      (λ v rest u. S.assign y v (target_back depth (suc (suc depth)) ts (q ∷ us) y x w takes) f u refl)))
      (λ h. either (Owes SmallKind (IsSmallKind depth ts)) (has augmented mid) (augmented_as (suc depth) (ended_by k.RightParen ts mid) x mid) (Ok (small.Expr x, mid))
      (λ g. augmented_owes ts x mid read p g (ended_by k.RightParen ts mid) refl) (λ g. S.expression x p refl))

  expression_sound : (ts : List Lexeme) → Owes SmallKind (IsSmallKind depth ts) (expression (suc depth) ts)
  unfolding expression
  expression_sound ts = go (expr_to (suc depth) ts) refl ((expr_to_agrees depth).sound ts)
    where
      go : (r : Found Expr) → expr_to (suc depth) ts ≡ r → Owes Expr (IsExprTo depth ts) r → Owes SmallKind (IsSmallKind depth ts) (r >>= after ts)
      go (Ok z) f h = after_owes ts z.0 z.1 f h
      go (Err Memory) f h = tt
      go (Err Syntax) f h = tt
      go (Err Lambda) f h = λ rest. let x = h rest in (small.Expr x.0, S.expression x.0 x.1 refl)

  expression_met : (ts rest : List Lexeme) (x : Expr) (y : SmallKind) → IsExprTo depth ts rest x → y ≡ small.Expr x → EndsStmt rest → Met 1 ts (expression (suc depth) ts) y rest
  unfolding expression
  expression_met ts rest x y p f st = met_then (expr_to (suc depth) ts) (after ts) ((expr_to_agrees depth).complete ts rest x p (wide rest st))
      (met_no (sees k.Assign rest) _ (cond (has augmented rest) (augmented_as (suc depth) (ended_by k.RightParen ts rest) x rest) (Ok (small.Expr x, rest))) (unseen k.Assign rest refl st)
      (met_no (has augmented rest) _ (Ok (small.Expr x, rest)) (not_augmented rest st) (met_as (sym f) (met_done (small.Expr x) rest))))

  assign_met : (ts : List Lexeme) (q : Lexeme) (mid rest : List Lexeme) (x : TargetExpr) (v : Expr) (y : SmallKind) → S.IsTarget depth ts (q ∷ mid) x → q.kind ≡ k.Assign → IsExprTo depth mid rest v
      → y ≡ small.Assign x v → EndsStmt rest → Met 1 ts (expression (suc depth) ts) y rest
  unfolding expression
  assign_met ts q mid rest x v y p f pv g st = let w = target_comes depth ts (q ∷ mid) x p in
      met_then (expr_to (suc depth) ts) (after ts) ((expr_to_agrees depth).complete ts (q ∷ mid) w.0 w.1 (assign_12 q mid f))
      (met_yes (sees k.Assign (q ∷ mid)) (assigned (suc depth) w.0 mid) _ (sees_it q mid k.Assign f)
      (met_less (met_over q mid (met_is _ (expr_to (suc depth) mid >>= λ v rest. Ok (small.Assign x v, rest))
      (ap (λ r. made r mid >>= λ y us. expr_to (suc depth) us >>= λ v rest. Ok (small.Assign y v, rest)) (w.2 (suc depth) (omega arith)))
      (met_less (met_then (expr_to (suc depth) mid) (λ v rest. Ok (small.Assign x v, rest)) ((expr_to_agrees depth).complete mid rest v pv (wide rest st)) (met_as (sym g) (met_done (small.Assign x v) rest))))))))

  -- after a left side that an augmented assignment may have
  augment_met : (ts : List Lexeme) (q : Lexeme) (mid rest : List Lexeme) (x : Expr) (z : TargetExpr) (o : Operator) (v : Expr) (y : SmallKind) → IsExprTo depth ts (q ∷ mid) x → augmented_target x ≡ Ok z
      → (expr_to (suc depth) ts ≡ Ok (x, q ∷ mid) → ended_by k.RightParen ts (q ∷ mid) ≡ false) → augmented q.kind ≡ Some o → IsExprTo depth mid rest v → y ≡ small.Augment z o v → EndsStmt rest
      → Met 1 ts (expression (suc depth) ts) y rest
  unfolding expression
  augment_met ts q mid rest x z o v y p takes open_ f pv g st = go ((expr_to_agrees depth).complete ts (q ∷ mid) x p (augmented_12 q mid o f))
    where
      value : Met 1 (q ∷ mid) (augmented_as (suc depth) false x (q ∷ mid)) y rest
      value = met_is _ (expr_to (suc depth) mid >>= λ v rest. Ok (small.Augment z o v, rest))
          (ap (λ r. made r (q ∷ mid) >>= λ y us. looked_up augmented us >>= λ o ws. expr_to (suc depth) ws >>= λ v rest. Ok (small.Augment y o v, rest)) takes
          ∙ ap (λ r. known r mid >>= λ o ws. expr_to (suc depth) ws >>= λ v rest. Ok (small.Augment z o v, rest)) f)
          (met_over q mid (met_less (met_then (expr_to (suc depth) mid) (λ v rest. Ok (small.Augment z o v, rest)) ((expr_to_agrees depth).complete mid rest v pv (wide rest st)) (met_as (sym g) (met_done (small.Augment z o v) rest)))))

      go : Met 1 ts (expr_to (suc depth) ts) x (q ∷ mid) → Met 1 ts (expr_to (suc depth) ts >>= after ts) y rest
      go (cut a) = cut (ap (λ r. r >>= after ts) a)
      go (met a l) = met_then (expr_to (suc depth) ts) (after ts) (met a l)
          (met_no (sees k.Assign (q ∷ mid)) _ (cond (has augmented (q ∷ mid)) (augmented_as (suc depth) (ended_by k.RightParen ts (q ∷ mid)) x (q ∷ mid)) (Ok (small.Expr x, q ∷ mid))) (assign_unseen q mid o f)
          (met_yes (has augmented (q ∷ mid)) (augmented_as (suc depth) (ended_by k.RightParen ts (q ∷ mid)) x (q ∷ mid)) _ (known_is (augmented q.kind) o f)
          (met_is _ (augmented_as (suc depth) false x (q ∷ mid)) (ap (λ b. augmented_as (suc depth) b x (q ∷ mid)) (open_ a)) (met_less value))))

  -- ---- small statements

  as_small : (ts : List Lexeme) → Begins first_test ts → Begins first_small ts
  as_small [] b = absurd b
  as_small (t ∷ ts) b = implied first_test first_small refl t.kind b

  kind_begins : (ts rest : List Lexeme) (y : SmallKind) → IsSmallKind depth ts rest y → Begins first_small ts
  kind_begins ts rest y (S.return f g) = ap first_small f
  kind_begins ts rest y (S.returned x f p g) = ap first_small f
  kind_begins ts rest y (S.break f g) = ap first_small f
  kind_begins ts rest y (S.continue f g) = ap first_small f
  kind_begins ts rest y (S.pass f g) = ap first_small f
  kind_begins ts rest y (S.load f g h i j ps l) = ap first_small f
  kind_begins ts rest y (S.load_alone f g h i j l) = ap first_small f
  kind_begins ts rest y (S.assign {q = q} {mid = mid} x v p f pv g) = let w = target_comes depth ts (q ∷ mid) x p in as_small ts ((expr_to_agrees depth).begins ts (q ∷ mid) w.0 w.1)
  kind_begins ts rest y (S.augment_name v f g pv h) = ap first_small f
  kind_begins ts rest y (S.augment_index {q = q} {mid = mid} x v p f pv g) = let w = indexed_expr depth ts (q ∷ mid) x p in
      as_small ts ((expr_to_agrees depth).begins ts (q ∷ mid) _ (expr_up depth ts (q ∷ mid) _ w.3))
  kind_begins ts rest y (S.expression x p f) = as_small ts ((expr_to_agrees depth).begins ts rest x p)

  -- 'return' [Expr]
  return_sound : (t : Lexeme) (ts : List Lexeme) → t.kind ≡ k.Return → Owes SmallKind (IsSmallKind depth (t ∷ ts)) (returned (suc depth) ts)
  unfolding returned
  return_sound t ts f = either (Owes SmallKind (IsSmallKind depth (t ∷ ts))) (ends_small ts) (Ok (small.Return None, ts)) (expr_to (suc depth) ts >>= λ x rest. Ok (small.Return (Some x), rest))
      (λ h. S.return f refl)
      (λ h. then_is (IsExprTo depth ts) (IsSmallKind depth (t ∷ ts)) (expr_to (suc depth) ts) (λ x. small.Return (Some x)) ((expr_to_agrees depth).sound ts) (λ x rest p. S.returned x f p refl))

  kind_at : (t : Lexeme) (ts : List Lexeme) (q : TokenKind) → t.kind ≡ q → Owes SmallKind (IsSmallKind depth (t ∷ ts)) (small_by (suc depth) q t ts)
  kind_at t ts k.Return f = return_sound t ts f
  kind_at t ts k.Break f = S.break f refl
  kind_at t ts k.Continue f = S.continue f refl
  kind_at t ts k.Pass f = S.pass f refl
  kind_at t ts k.Load f = load_sound depth t ts f
  kind_at t ts _ f = expression_sound (t ∷ ts)

  kind_sound : (ts : List Lexeme) → Owes SmallKind (IsSmallKind depth ts) (small_kind (suc depth) ts)
  unfolding small_kind
  kind_sound [] = tt
  kind_sound (t ∷ ts) = kind_at t ts t.kind refl

  -- what begins an expression is read as one
  by_expression : (t : Lexeme) (ts : List Lexeme) (q : TokenKind) → first_test q ≡ true → small_by (suc depth) q t ts ≡ expression (suc depth) (t ∷ ts)
  by_expression t ts k.Return h = absurd (cc)
  by_expression t ts k.Break h = absurd (cc)
  by_expression t ts k.Continue h = absurd (cc)
  by_expression t ts k.Pass h = absurd (cc)
  by_expression t ts k.Load h = absurd (cc)
  by_expression t ts _ h = refl

  as_expression : (ts rest : List Lexeme) (y : SmallKind) → Begins first_test ts → Met 1 ts (expression (suc depth) ts) y rest → Met 1 ts (small_kind (suc depth) ts) y rest
  unfolding small_kind
  as_expression [] rest y b m = absurd b
  as_expression (t ∷ ts) rest y b m = met_is _ (expression (suc depth) (t ∷ ts)) (by_expression t ts t.kind b) m

  return_met : (ts rest : List Lexeme) (y : SmallKind) → (ts ≡ rest) → y ≡ small.Return None → EndsStmt rest → Met 0 ts (returned (suc depth) ts) y rest
  unfolding returned
  return_met [] rest y e f st = absurd (subst EndsStmt (sym e) st)
  return_met (t ∷ ts) rest y e f st = met_yes (ends_small (t ∷ ts)) (Ok (small.Return None, t ∷ ts)) _ (at_end t ts (subst EndsStmt (sym e) st))
      (subst (λ m. Met 0 (t ∷ ts) (Ok (small.Return None, t ∷ ts)) y m) e (met_as (sym f) (met_done (small.Return None) (t ∷ ts))))

  no_end : (ts : List Lexeme) → Begins first_test ts → ends_small ts ≡ false
  no_end ts b = both (sees k.Newline ts) (sees k.Semicolon ts) (begins_no first_test ts k.Newline b refl) (begins_no first_test ts k.Semicolon b refl)
    where
      both : (a b : Bool) → a ≡ false → b ≡ false → (a || b) ≡ false
      both true b h g = absurd (cc)
      both false b h g = g

  returned_met : (ts rest : List Lexeme) (x : Expr) (y : SmallKind) → IsExprTo depth ts rest x → y ≡ small.Return (Some x) → EndsStmt rest → Met 1 ts (returned (suc depth) ts) y rest
  unfolding returned
  returned_met ts rest x y p f st = met_no (ends_small ts) (Ok (small.Return None, ts)) (expr_to (suc depth) ts >>= λ x rest. Ok (small.Return (Some x), rest)) (no_end ts ((expr_to_agrees depth).begins ts rest x p))
      (met_then (expr_to (suc depth) ts) (λ x rest. Ok (small.Return (Some x), rest)) ((expr_to_agrees depth).complete ts rest x p (wide rest st)) (met_as (sym f) (met_done (small.Return (Some x)) rest)))

  abbrev at_kind : Lexeme → List Lexeme → TokenKind → Found SmallKind
  at_kind t ts q = small_by (suc depth) q t ts

  kind_met : (ts rest : List Lexeme) (y : SmallKind) → IsSmallKind depth ts rest y → EndsStmt rest → Met 1 ts (small_kind (suc depth) ts) y rest
  unfolding small_kind
  kind_met ts rest y (S.return {t = t} f g) st = met_is _ (returned (suc depth) rest) (ap (at_kind t rest) f) (met_over t rest (return_met rest rest y refl g st))
  kind_met ts rest y (S.returned {t = t} {ts = us} x f p g) st = met_is _ (returned (suc depth) us) (ap (at_kind t us) f) (met_over t us (met_less (returned_met us rest x y p g st)))
  kind_met ts rest y (S.break {t = t} f g) st = met_is _ (Ok (small.Break, rest)) (ap (at_kind t rest) f) (met_over t rest (met_as (sym g) (met_done small.Break rest)))
  kind_met ts rest y (S.continue {t = t} f g) st = met_is _ (Ok (small.Continue, rest)) (ap (at_kind t rest) f) (met_over t rest (met_as (sym g) (met_done small.Continue rest)))
  kind_met ts rest y (S.pass {t = t} f g) st = met_is _ (Ok (small.Pass, rest)) (ap (at_kind t rest) f) (met_over t rest (met_as (sym g) (met_done small.Pass rest)))
  kind_met ts rest y (S.load {t = t} {o = o} {m = m} {c = c} {ts = us} {b = b} {xs = xs} f g h i j ps l) st =
      met_is _ (load (o ∷ m ∷ c ∷ us)) (ap (at_kind t (o ∷ m ∷ c ∷ us)) f) (met_over t (o ∷ m ∷ c ∷ us) (met_less (load_met o m c us rest b xs y g h i j ps l)))
  kind_met ts rest y (S.load_alone {t = t} {o = o} {m = m} {c = c} {b = b} f g h i j l) st =
      met_is _ (load (o ∷ m ∷ c ∷ rest)) (ap (at_kind t (o ∷ m ∷ c ∷ rest)) f) (met_over t (o ∷ m ∷ c ∷ rest) (met_less (load_alone_met o m c rest b y g h i j l)))
  kind_met ts rest y (S.assign {q = q} {mid = mid} x v p f pv g) st = let w = target_comes depth ts (q ∷ mid) x p in
      as_expression ts rest y ((expr_to_agrees depth).begins ts (q ∷ mid) w.0 w.1) (assign_met ts q mid rest x v y p f pv g st)
  kind_met ts rest y (S.augment_name {n = n} {q = q} {ts = us} {o = o} v f g pv h) st =
      as_expression ts rest y (ap first_test f)
      (augment_met (n ∷ q ∷ us) q us rest (e.Name (identifier n)) (target.Name (identifier n)) o v y (name_read depth n (q ∷ us) f) (name_taken (identifier n)) (λ r. ends_with_word n (q ∷ us) f) g pv h st)
  kind_met ts rest y (S.augment_index {q = q} {mid = mid} {o = o} x v p f pv g) st = let w = indexed_expr depth ts (q ∷ mid) x p in
      let z = e.Primary w.0 (w.1 ++ s.Index w.2 ∷ []) in
      as_expression ts rest y ((expr_to_agrees depth).begins ts (q ∷ mid) z (expr_up depth ts (q ∷ mid) z w.3))
      (augment_met ts q mid rest z x o v y (expr_up depth ts (q ∷ mid) z w.3) (primary_taken w.0 (w.1 ++ s.Index w.2 ∷ []) ∙ indexed_value w.0 w.1 w.2 ∙ ap Ok (sym w.4))
      (λ r. index_ends depth ts z q mid x r p) f pv g st)
  kind_met ts rest y (S.expression x p f) st = as_expression ts rest y ((expr_to_agrees depth).begins ts rest x p) (expression_met ts rest x y p f st)

  abbrev stmt_of : ℕ → SmallKind → SmallStmt
  stmt_of line x = record { line = line; kind = x }

  small_begins : (ts rest : List Lexeme) (y : SmallStmt) → IsSmall depth ts rest y → Begins first_small ts
  small_begins ts rest y (S.small_stmt {x = x} p f) = kind_begins ts rest x p

  small_sound : (ts : List Lexeme) → Owes SmallStmt (IsSmall depth ts) (small_stmt (suc depth) ts)
  unfolding small_stmt
  small_sound ts = then_is (IsSmallKind depth ts) (IsSmall depth ts) (small_kind (suc depth) ts) (stmt_of (line_of ts)) (kind_sound ts) (λ x rest p. S.small_stmt p refl)

  small_met : (ts rest : List Lexeme) (y : SmallStmt) → IsSmall depth ts rest y → EndsStmt rest → Met 1 ts (small_stmt (suc depth) ts) y rest
  unfolding small_stmt
  small_met ts rest y (S.small_stmt {x = x} p f) st =
      met_then (small_kind (suc depth) ts) (λ x rest. Ok (stmt_of (line_of ts) x, rest)) (kind_met ts rest x p st) (met_as (sym f) (met_done (stmt_of (line_of ts) x) rest))

  -- ---- lines

  abbrev Further : List SmallStmt → List Lexeme → List Lexeme → List SmallStmt → Type 0
  Further found ts rest ys = (xs : List SmallStmt) × (ys ≡ found ++ xs) × AreSmall depth ts rest xs

  abbrev from : ℕ → List SmallStmt → Parse (List SmallStmt)
  from n found ts = turns (small_turn (suc depth)) cut_off n found ts

  abbrev go_on : ℕ → Turn (List SmallStmt) → Found (List SmallStmt)
  go_on n t = next_turn (turns (small_turn (suc depth)) cut_off n) t

  lines_owe : (n : ℕ) (found : List SmallStmt) (ts : List Lexeme) → Owes (List SmallStmt) (Further found ts) (from n found ts)
  unfolding turns
  lines_owe zero found ts = tt
  lines_owe (suc n) found ts = one (small_stmt (suc depth) ts) (small_sound ts) (lines_owe n)
    where
      ended_line : (x : SmallStmt) (mid : List Lexeme) → IsSmall depth ts mid x → (b : Bool) → (b ≡ true → (t : Lexeme) × (mid ≡ t ∷ next mid) × (t.kind ≡ k.Newline))
          → Owes (List SmallStmt) (Further found ts) (go_on n (cond b (ended (found ++ x ∷ []) (next mid)) (failed Syntax)))
      ended_line x mid p true o = let t = o refl in (x ∷ [], refl, S.last (subst (λ m. IsSmall depth ts m x) t.1 p) t.2)
      ended_line x mid p false o = tt

      after_mark : ((found : List SmallStmt) (ts : List Lexeme) → Owes (List SmallStmt) (Further found ts) (from n found ts)) → (x : SmallStmt) (c : Lexeme) (us : List Lexeme) → IsSmall depth ts (c ∷ us) x
          → c.kind ≡ k.Semicolon → (b : Bool) → (b ≡ true → (t : Lexeme) × (us ≡ t ∷ next us) × (t.kind ≡ k.Newline))
          → Owes (List SmallStmt) (Further found ts) (go_on n (cond b (ended (found ++ x ∷ []) (next us)) (goes (found ++ x ∷ []) us)))
      after_mark more x c us p f true o = let t = o refl in (x ∷ [], refl, S.last_semicolon (subst (λ m. IsSmall depth ts (c ∷ m) x) t.1 p) f t.2)
      after_mark more x c us p f false o = owes_as (Further (found ++ x ∷ []) us) (Further found ts) (from n (found ++ x ∷ []) us) (more (found ++ x ∷ []) us)
          (λ ys rest w. (x ∷ w.0, w.1 ∙ append_assoc found (x ∷ []) w.0, S.another p f w.2))

      marked : ((found : List SmallStmt) (ts : List Lexeme) → Owes (List SmallStmt) (Further found ts) (from n found ts)) → (x : SmallStmt) (mid : List Lexeme) → IsSmall depth ts mid x
          → (b : Bool) → (b ≡ true → (t : Lexeme) × (mid ≡ t ∷ next mid) × (t.kind ≡ k.Semicolon))
          → Owes (List SmallStmt) (Further found ts)
          (go_on n (cond b (after_semicolon (found ++ x ∷ []) (next mid)) (cond (sees k.Newline mid) (ended (found ++ x ∷ []) (next mid)) (failed Syntax))))
      marked more x mid p true o = let t = o refl in
          after_mark more x t.0 (next mid) (subst (λ m. IsSmall depth ts m x) t.1 p) t.2 (sees k.Newline (next mid)) (opened k.Newline (next mid))
      marked more x mid p false o = ended_line x mid p (sees k.Newline mid) (opened k.Newline mid)

      one : (z : Found SmallStmt) → Owes SmallStmt (IsSmall depth ts) z → ((found : List SmallStmt) (ts : List Lexeme) → Owes (List SmallStmt) (Further found ts) (from n found ts))
          → Owes (List SmallStmt) (Further found ts) (go_on n (with_small found z))
      one (Ok z) p more = marked more z.0 z.1 p (sees k.Semicolon z.1) (opened k.Semicolon z.1)
      one (Err Memory) p more = tt
      one (Err Syntax) p more = tt
      one (Err Lambda) p more = λ rest. let x = p (tok k.Newline ∷ rest) in (found ++ x.0 ∷ [], (x.0 ∷ [], refl, S.last x.1 (tok_kind k.Newline)))

  newline_ends : (n : Lexeme) (rest : List Lexeme) → n.kind ≡ k.Newline → EndsStmt (n ∷ rest)
  newline_ends n rest f = ap ends_stmt f

  mark_ends : (c : Lexeme) (rest : List Lexeme) → c.kind ≡ k.Semicolon → EndsStmt (c ∷ rest)
  mark_ends c rest f = ap ends_stmt f

  no_newline : (ts : List Lexeme) → Begins first_small ts → sees k.Newline ts ≡ false
  no_newline ts b = begins_no first_small ts k.Newline b refl

  are_begin : (ts rest : List Lexeme) (xs : List SmallStmt) → AreSmall depth ts rest xs → Begins first_small ts
  are_begin ts rest xs (S.last {n = n} {x = x} p f) = small_begins ts (n ∷ rest) x p
  are_begin ts rest xs (S.last_semicolon {c = c} {n = n} {x = x} p f g) = small_begins ts (c ∷ n ∷ rest) x p
  are_begin ts rest xs (S.another {c = c} {mid = mid} {x = x} p f ps) = small_begins ts (c ∷ mid) x p

  lines_met : (n : ℕ) (found : List SmallStmt) (ts rest : List Lexeme) (xs : List SmallStmt) → AreSmall depth ts rest xs → length ts ≤ n → Met 1 ts (from n found ts) (found ++ xs) rest
  unfolding turns
  lines_met zero found [] rest xs p le = absurd (are_begin [] rest xs p)
  lines_met zero found (t ∷ ts) rest xs p le = absurd (omega (arith, le))
  lines_met (suc n) found ts rest xs (S.last {n = m} {x = x} p f) le = go (small_met ts (m ∷ rest) x p (newline_ends m rest f))
    where
      go : Met 1 ts (small_stmt (suc depth) ts) x (m ∷ rest) → Met 1 ts (go_on n (with_small found (small_stmt (suc depth) ts))) (found ++ x ∷ []) rest
      go (cut a) = cut (ap (λ z. go_on n (with_small found z)) a)
      go (met a l) = met (ap (λ z. go_on n (with_small found z)) a
          ∙ ap (λ b. go_on n (cond b (after_semicolon (found ++ x ∷ []) rest) (cond (sees k.Newline (m ∷ rest)) (ended (found ++ x ∷ []) rest) (failed Syntax)))) (sees_other m rest k.Semicolon k.Newline f semicolon_newline)
          ∙ ap (λ b. go_on n (cond b (ended (found ++ x ∷ []) rest) (failed Syntax))) (sees_it m rest k.Newline f)) (omega (arith, l))
  lines_met (suc n) found ts rest xs (S.last_semicolon {c = c} {n = m} {x = x} p f g) le = go (small_met ts (c ∷ m ∷ rest) x p (mark_ends c (m ∷ rest) f))
    where
      go : Met 1 ts (small_stmt (suc depth) ts) x (c ∷ m ∷ rest) → Met 1 ts (go_on n (with_small found (small_stmt (suc depth) ts))) (found ++ x ∷ []) rest
      go (cut a) = cut (ap (λ z. go_on n (with_small found z)) a)
      go (met a l) = met (ap (λ z. go_on n (with_small found z)) a
          ∙ ap (λ b. go_on n (cond b (after_semicolon (found ++ x ∷ []) (m ∷ rest)) (cond (sees k.Newline (c ∷ m ∷ rest)) (ended (found ++ x ∷ []) (m ∷ rest)) (failed Syntax)))) (sees_it c (m ∷ rest) k.Semicolon f)
          ∙ ap (λ b. go_on n (cond b (ended (found ++ x ∷ []) rest) (goes (found ++ x ∷ []) (m ∷ rest)))) (sees_it m rest k.Newline g)) (omega (arith, l))
  lines_met (suc n) found ts rest xs (S.another {c = c} {mid = mid} {x = x} {xs = ys} p f ps) le =
      go (λ below. lines_met n (found ++ x ∷ []) mid rest ys ps below) (small_met ts (c ∷ mid) x p (mark_ends c mid f))
    where
      longer : {zs : List SmallStmt} {r : Found (List SmallStmt)} → length mid ≤ length ts → Met 1 mid r zs rest → Met 1 ts r zs rest
      longer l (met b u) = met b (omega (arith, l, u))
      longer l (cut b) = cut b

      go : (length mid ≤ n → Met 1 mid (from n (found ++ x ∷ []) mid) ((found ++ x ∷ []) ++ ys) rest) → Met 1 ts (small_stmt (suc depth) ts) x (c ∷ mid)
          → Met 1 ts (go_on n (with_small found (small_stmt (suc depth) ts))) (found ++ x ∷ ys) rest
      go more (cut a) = cut (ap (λ z. go_on n (with_small found z)) a)
      go more (met a l) = met_is _ (from n (found ++ x ∷ []) mid) (ap (λ z. go_on n (with_small found z)) a
          ∙ ap (λ b. go_on n (cond b (after_semicolon (found ++ x ∷ []) mid) (cond (sees k.Newline (c ∷ mid)) (ended (found ++ x ∷ []) mid) (failed Syntax)))) (sees_it c mid k.Semicolon f)
          ∙ ap (λ b. go_on n (cond b (ended (found ++ x ∷ []) (next mid)) (goes (found ++ x ∷ []) mid))) (no_newline mid (are_begin mid rest ys ps)))
          (met_as (append_assoc found (x ∷ []) ys) (longer (omega (arith, l)) (more (omega (arith, l, le)))))

  pub simple_agrees : Agrees first_small any (AreSmall depth) (simple (suc depth))
  unfolding simple
  simple_agrees = record {
    begins = are_begin;
    sound = λ ts. owes_as (Further [] ts) (AreSmall depth ts) (from (length ts) [] ts) (lines_owe (length ts) [] ts) (λ ys rest w. subst (AreSmall depth ts rest) (sym w.1) w.2);
    complete = λ ts rest xs p st. lines_met (length ts) [] ts rest xs p (omega arith);
  }
