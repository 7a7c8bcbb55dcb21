-- What ends the left side of an augmented assignment: an index that stands in no parentheses ends with `]`, and what ends with `)`
-- stands in them or is a call. A reading leaves the tokens that follow those it took.
use Rattle.std.proofs.Common.{◌≡◌, ℕ, zero, suc, ◌+◌, ◌-◌, true, false, List, [], ◌∷◌, ◌++◌, length, drop, Ok, Err, refl, sym, ap, ◌∙◌, subst, append_assoc, arith, rules}
use Rattle.bq_source.specs.declared.token.TokenKind.{TokenKind}
use Rattle.bq_source.specs.declared.token.TokenKind.TheVariants as k
use Rattle.bq_source.specs.Token.{same_kind}
use Rattle.bq_parse_grammar.specs.declared.tree.ComprehensionFrame.TheVariants as frame
use Rattle.bq_parse_grammar.specs.Lexeme.{Lexeme}
use Rattle.bq_parse_grammar.specs.declared.refusal.SyntaxErr.TheVariants.{Syntax, Lambda}
use Rattle.bq_parse_grammar.specs.declared.tree.ComprehensionFrame.{ComprehensionFrame}
use Rattle.bq_parse_grammar.specs.declared.tree.Expr.{Expr, out-Expr, the_lemmas}
use Rattle.bq_parse_grammar.specs.declared.tree.Expr.TheVariants as e
use Rattle.bq_parse_grammar.specs.declared.tree.Argument.TheOpen.{Expr-F}
use Rattle.bq_parse_grammar.specs.declared.tree.Clause.{Clause}
use Rattle.bq_parse_grammar.specs.declared.tree.Identifier.{Identifier}
use Rattle.bq_parse_grammar.specs.declared.tree.Nested.{Nested}
use Rattle.bq_parse_grammar.specs.declared.tree.Nested.TheVariants.{Test}
use Rattle.bq_parse_grammar.specs.declared.tree.Pair.{Pair}
use Rattle.bq_parse_grammar.specs.declared.tree.Suffix.{Suffix}
use Rattle.bq_parse_grammar.specs.declared.tree.Suffix.TheVariants as s
use Rattle.bq_parse_grammar.specs.declared.tree.TargetExpr.{TargetExpr}
use Rattle.bq_parse_grammar.specs.declared.tree.TargetExpr.TheVariants as target
use Rattle.bq_parse_grammar.specs.Literals.{identifier}
use Rattle.bq_parse_grammar.specs.Phrases.{Phrase, none, Repeat, over, again}
use Rattle.bq_parse_grammar.specs.Grammar as G
use Rattle.bq_parse_grammar.specs.Grammar.{primary_of, parenthesized_of, IsOperand, IsVars, IsOrTo, IsPrimaryTo, IsTestTo, IsExprTo, IsOperandTo, IsSuffixTo}
use Rattle.bq_parse_grammar.specs.Statements as S
use Rattle.bq_parse_grammar.specs.Statements.{IsIndexed}
use Rattle.bq_parse_grammar.specs.Targets.{ExprLayer, indexed_from, augmented_by, augmented_target}
use Rattle.bq_parse_grammar.specs.Turns.{Found, sees}
use Rattle.bq_parse_grammar.specs.Reading.{chained, var_to, vars, operand, suffix, phrase}
use Rattle.bq_parse_grammar.specs.ReadingStatements.{expr, expr_to, ended_by}
use Rattle.bq_parse_grammar.proofs.NextToken.{tok, tok_kind, kind_is}
use Rattle.bq_parse_grammar.proofs.Classes.{ends, any}
use Rattle.bq_parse_grammar.proofs.Agrees.{Stops, Owes, Met, met, cut}
use Rattle.bq_parse_grammar.proofs.Keeping.{Kept, Keeps, then_kept, chained_kept, vars_kept, var_to_kept, operand_kept, suffix_kept, phrase_kept}
use Rattle.bq_parse_grammar.proofs.Vars.{test_to_agrees, operand_to_agrees, suffix_to_agrees}
use Rattle.bq_parse_laws.proofs.ExpressionReading.{clash, has_form, form_by, test_down, Parts, parts, parts_of, primary_with, expr_up, expr_to_agrees}
use Rattle.bq_parse_laws.proofs.Targets.{repeat_snoc, no_target, ok_same, indexed_back}

-- ---- what is left of the tokens

-- the tokens `us` end `ts`
abbrev pub Later : List Lexeme → List Lexeme → Type 0
Later ts us = (before : List Lexeme) × (ts ≡ before ++ us)

later_on : (ts : List Lexeme) (t : Lexeme) (us : List Lexeme) → Later ts (t ∷ us) → Later ts us
later_on ts t us w = (w.0 ++ t ∷ [], w.1 ∙ sym (append_assoc w.0 (t ∷ []) us))

any_stop : (ts : List Lexeme) (t : Lexeme) (us : List Lexeme) → Later ts (t ∷ us) → t.kind ≡ k.Lambda → Unit {0}
any_stop ts t us w f = tt

later : {A : Type 0} (ts : List Lexeme) (r : Found A) (x : A) (rest : List Lexeme) → Kept (Later ts) (Unit {0}) (later_on ts) (any_stop ts) r → r ≡ Ok (x, rest) → Later ts rest
later ts r x rest h f = subst (Kept (Later ts) (Unit {0}) (later_on ts) (any_stop ts)) f h

module _ (ts : List Lexeme) (depth : ℕ) where
  phrase_later : (w : Nested) → Keeps (Later ts) (Unit {0}) (later_on ts) (any_stop ts) (phrase depth w)
  phrase_later w = phrase_kept (Later ts) (Unit {0}) (later_on ts) (any_stop ts) depth w

  vars_later : Keeps (Later ts) (Unit {0}) (later_on ts) (any_stop ts) (vars (var_to depth))
  vars_later = vars_kept (Later ts) (Unit {0}) (later_on ts) (any_stop ts) (var_to depth) (var_to_kept (Later ts) (Unit {0}) (later_on ts) (any_stop ts) depth)

  operand_later : (us mid : List Lexeme) (x : Expr) → Later ts us → operand (phrase depth) (vars (var_to depth)) us ≡ Ok (x, mid) → Later ts mid
  operand_later us mid x w f = later ts _ x mid (operand_kept (Later ts) (Unit {0}) (later_on ts) (any_stop ts) (phrase depth) (vars (var_to depth)) phrase_later vars_later us w) f

  suffix_later : (us mid : List Lexeme) (x : Suffix) → Later ts us → suffix (phrase depth) (vars (var_to depth)) us ≡ Ok (x, mid) → Later ts mid
  suffix_later us mid x w f = later ts _ x mid (suffix_kept (Later ts) (Unit {0}) (later_on ts) (any_stop ts) (phrase depth) (vars (var_to depth)) phrase_later vars_later us w) f

  test_later : (us mid : List Lexeme) (x : Expr) → Later ts us → phrase depth Test us ≡ Ok (x, mid) → Later ts mid
  test_later us mid x w f = later ts _ x mid (phrase_later Test us w) f

  expr_later : (us mid : List Lexeme) (x : Expr) → Later ts us → expr_to depth us ≡ Ok (x, mid) → Later ts mid
  unfolding expr
  expr_later us mid x w f = later ts (expr_to depth us) x mid
      (then_kept (Later ts) (Unit {0}) (later_on ts) (any_stop ts) (phrase depth Test us) (λ x mid. chained e.Tuple (phrase depth Test) x mid) (phrase_later Test us w)
      (λ x us g. chained_kept (Later ts) (Unit {0}) (later_on ts) (any_stop ts) e.Tuple (phrase depth Test) (phrase_later Test) x us g)) f

-- ---- the last token

drop_front : (before us : List Lexeme) → drop (length before) (before ++ us) ≡ us
drop_front [] us = refl
drop_front (t ∷ ts) us = drop_front ts us

length_front : (before us : List Lexeme) → length (before ++ us) ≡ length before + length us
length_front [] us = omega arith
length_front (t ∷ ts) us = omega (arith, length_front ts us)

one_less : (a b c : ℕ) → a ≡ b + suc c → a - c - 1 ≡ b
one_less a b c f = omega (arith, f)

pub last_is : (q : TokenKind) (ts rest : List Lexeme) (c : Lexeme) → Later ts (c ∷ rest) → ended_by q ts rest ≡ same_kind c.kind q
last_is q ts rest c w = ap (λ m. ended_by q m rest) w.1
    ∙ ap (λ n. sees q (drop n (w.0 ++ c ∷ rest))) (one_less (length (w.0 ++ c ∷ rest)) (length w.0) (length rest) (length_front w.0 (c ∷ rest)))
    ∙ ap (sees q) (drop_front w.0 (c ∷ rest))

bracket_paren : same_kind k.RightBracket k.RightParen ≡ false
unfolding same_kind
bracket_paren = refl

pub word_paren : same_kind k.Identifier k.RightParen ≡ false
unfolding same_kind
word_paren = refl

pub ends_with_word : (n : Lexeme) (rest : List Lexeme) → n.kind ≡ k.Identifier → ended_by k.RightParen (n ∷ rest) rest ≡ false
ends_with_word n rest f = last_is k.RightParen (n ∷ rest) rest n ([], refl) ∙ ap (λ j. same_kind j k.RightParen) f ∙ word_paren

-- ---- a reading that came to an end was not cut

abbrev rest_of : {A : Type 0} → List Lexeme → Found A → List Lexeme
rest_of d (Ok p) = p.1
rest_of d (Err why) = d

module _ (depth : ℕ) (ts : List Lexeme) (x : Expr) (q : Lexeme) (mid : List Lexeme) (read : expr_to (suc depth) ts ≡ Ok (x, q ∷ mid)) where
  -- else it would go on to any end
  not_cut : ((rest : List Lexeme) → (y : Expr) × IsPrimaryTo depth ts rest y) → ⊥
  not_cut h = let y = h [] in go y.0 ((expr_to_agrees depth).complete ts [] y.0 (expr_up depth ts [] y.0 y.1) tt)
    where
      go : (y : Expr) → Met 1 ts (expr_to (suc depth) ts) y [] → ⊥
      go y (met g l) = let w = sym (ap (rest_of []) read) ∙ ap (rest_of []) g in absurd (cc)
      go y (cut g) = let w = sym read ∙ g in absurd (cc)

  owed : {A : Type 0} (R : List Lexeme → A → Type 0) (r : Found A) → Owes A R r → r ≡ Err Lambda → (rest : List Lexeme) → (y : A) × R rest y
  owed {A = A} R r h f = subst (Owes A R) f h

  operand_ends : (m : List Lexeme) (z : Expr) → IsOperandTo depth ts m z → Later ts m
  operand_ends m z p = go ((operand_to_agrees depth).complete ts m z p (stops_any m))
    where
      stops_any : (ts : List Lexeme) → Stops any ts
      stops_any [] = tt
      stops_any (t ∷ ts) = refl

      go : Met 1 ts (operand (phrase depth) (vars (var_to depth)) ts) z m → Later ts m
      go (met f l) = operand_later ts depth ts m z ([], refl) f
      go (cut f) = absurd (not_cut (λ rest. let y = owed (IsOperandTo depth ts) _ ((operand_to_agrees depth).sound ts) f rest in (y.0, primary_with depth ts rest rest y.0 y.0 [] y.1 over refl)))

  suffixes_end : (m l : List Lexeme) (ys : List Suffix) → Later ts m → Repeat (IsSuffixTo depth) m l ys
      → ((rest : List Lexeme) (zs : List Suffix) → Repeat (IsSuffixTo depth) m rest zs → (y : Expr) × IsPrimaryTo depth ts rest y) → Later ts l
  suffixes_end m l ys w over lift = w
  suffixes_end m l ys w (again {mid = b} {x = y} {xs = zs} p ps) lift = go (λ w lift. suffixes_end b l zs w ps lift) ((suffix_to_agrees depth).complete m b y p (stops_any b))
    where
      stops_any : (ts : List Lexeme) → Stops any ts
      stops_any [] = tt
      stops_any (t ∷ ts) = refl

      go : (Later ts b → ((rest : List Lexeme) (zs : List Suffix) → Repeat (IsSuffixTo depth) b rest zs → (y : Expr) × IsPrimaryTo depth ts rest y) → Later ts l)
          → Met 1 m (suffix (phrase depth) (vars (var_to depth)) m) y b → Later ts l
      go more (met f n) = more (suffix_later ts depth m b y w f) (λ rest vs q. lift rest (y ∷ vs) (again p q))
      go more (cut f) = absurd (not_cut (λ rest. let v = owed (IsSuffixTo depth m) _ ((suffix_to_agrees depth).sound m) f rest in lift rest (v.0 ∷ []) (again v.1 over)))

-- an index ends with its bracket
pub index_ends : (depth : ℕ) (ts : List Lexeme) (x : Expr) (q : Lexeme) (mid : List Lexeme) (y : TargetExpr) → expr_to (suc depth) ts ≡ Ok (x, q ∷ mid) → IsIndexed depth ts (q ∷ mid) y
    → ended_by k.RightParen ts (q ∷ mid) ≡ false
index_ends zero ts x q mid y read (S.indexed c z zs i p ps f r g h) = absurd r
index_ends (suc depth) ts x q mid y read (S.indexed {o = o} c {mid = m} {us = us} z zs i p ps f r g h) = go ((expr_to_agrees depth).complete us (c ∷ q ∷ mid) i r (subst (λ j. ends 12 j ≡ true) (sym g) refl))
  where
    opened : Later ts us
    opened = later_on ts o us (suffixes_end (suc depth) ts x q mid read m (o ∷ us) zs (operand_ends (suc depth) ts x q mid read m z p) ps
        (λ rest vs qs. (primary_of z vs, primary_with (suc depth) ts m rest _ z vs p qs refl)))

    closed : Later ts (c ∷ q ∷ mid) → ended_by k.RightParen ts (q ∷ mid) ≡ false
    closed w = last_is k.RightParen ts (q ∷ mid) c w ∙ ap (λ j. same_kind j k.RightParen) g ∙ bracket_paren

    lifted : (rest : List Lexeme) (v : Expr) → IsExprTo depth us (tok k.RightBracket ∷ rest) v → (y : Expr) × IsPrimaryTo (suc depth) ts rest y
    lifted rest v (G.tests a as' b) = (
      primary_of z (zs ++ s.Index v ∷ []),
      primary_with (suc depth) ts m rest _ z (zs ++ s.Index v ∷ []) p
          (repeat_snoc (IsSuffixTo (suc depth)) m (o ∷ us) rest zs (s.Index v) ps (G.index f (G.tests a as' b) (tok_kind k.RightBracket) refl)) refl,
    )

    go : Met 1 us (expr_to (suc depth) us) i (c ∷ q ∷ mid) → ended_by k.RightParen ts (q ∷ mid) ≡ false
    go (met a l) = closed (expr_later ts (suc depth) us (c ∷ q ∷ mid) i opened a)
    go (cut a) = absurd (not_cut (suc depth) ts x q mid read
        (λ rest. let v = owed (suc depth) ts x q mid read (IsExprTo depth us) (expr_to (suc depth) us) ((expr_to_agrees depth).sound us) a (tok k.RightBracket ∷ rest) in lifted rest v.0 v.1))

-- ---- what may be assigned to with an operator

augmented-Name : (n : Identifier) → augmented_target (e.Name n) ≡ Ok (target.Name n)
unfolding augmented_target
augmented-Name n = search (rules, the_lemmas)

augmented-Primary : (x : Expr) (xs : List Suffix) → augmented_target (e.Primary x xs) ≡ indexed_from x [] xs
unfolding augmented_target
augmented-Primary x xs = search (rules, the_lemmas)

augmented-Tuple : (xs : List Expr) → augmented_target (e.Tuple xs) ≡ Err Syntax
unfolding augmented_target
augmented-Tuple xs = search (rules, the_lemmas)

augmented-List : (xs : List Expr) → augmented_target (e.List xs) ≡ Err Syntax
unfolding augmented_target
augmented-List xs = search (rules, the_lemmas)

augmented-Int : (n : _) → augmented_target (e.Int n) ≡ Err Syntax
unfolding augmented_target
augmented-Int n = search (rules, the_lemmas)

augmented-String : (b : List ℕ) → augmented_target (e.String b) ≡ Err Syntax
unfolding augmented_target
augmented-String b = search (rules, the_lemmas)

augmented-Dict : (ps : List Pair) → augmented_target (e.Dict ps) ≡ Err Syntax
unfolding augmented_target
augmented-Dict ps = search (rules, the_lemmas)

augmented-ListComprehension : (x : Expr) (cs : List Clause) (own : ComprehensionFrame) → augmented_target (e.ListComprehension x cs own) ≡ Err Syntax
unfolding augmented_target
augmented-ListComprehension x cs own = search (rules, the_lemmas)

augmented-DictComprehension : (p : Pair) (cs : List Clause) (own : ComprehensionFrame) → augmented_target (e.DictComprehension p cs own) ≡ Err Syntax
unfolding augmented_target
augmented-DictComprehension p cs own = search (rules, the_lemmas)

augmented_form : (x : Expr) (y : TargetExpr) → augmented_target x ≡ Ok y → has_form x ≡ true
unfolding augmented_target
augmented_form x y h = go (out-Expr x) h
  where
    go : (l : ExprLayer) → augmented_by l ≡ Ok y → form_by l ≡ true
    go (Expr-F.Expr::Name n) g = refl
    go (Expr-F.Primary z zs) g = refl
    go _ g = absurd (cc)

-- a name alone, or an index
pub data IsAssignable (depth : ℕ) (ts rest : List Lexeme) (y : TargetExpr) : Type 0 where
  a_name : (n : Lexeme) → ts ≡ n ∷ rest → n.kind ≡ k.Identifier → y ≡ target.Name (identifier n) → IsAssignable depth ts rest y
  an_index : IsIndexed depth ts rest y → IsAssignable depth ts rest y

module _ (depth : ℕ) (ts : List Lexeme) (x : Expr) (q : Lexeme) (mid : List Lexeme) (y : TargetExpr) (read : expr_to (suc depth) ts ≡ Ok (x, q ∷ mid)) (takes : augmented_target x ≡ Ok y)
    (open_ : ended_by k.RightParen ts (q ∷ mid) ≡ false) where
  -- in parentheses
  never_closed : (c : Lexeme) → c.kind ≡ k.RightParen → Later ts (c ∷ q ∷ mid) → ⊥
  never_closed c f w = clash (kind_is c.kind k.RightParen f) (sym (last_is k.RightParen ts (q ∷ mid) c w) ∙ open_)

  operand_open : (O T : Phrase Expr) (V : Phrase TargetExpr) (us rest : List Lexeme) (z : Expr) → us ≡ ts → rest ≡ q ∷ mid → augmented_target z ≡ Ok y
      → ((o c : Lexeme) (vs : List Lexeme) (v : Expr) → ts ≡ o ∷ vs → o.kind ≡ k.LeftParen → T vs (c ∷ q ∷ mid) v → c.kind ≡ k.RightParen → ⊥)
      → IsOperand O T V us rest z → IsAssignable depth ts (q ∷ mid) y
  operand_open O T V us rest z a b h paren (G.a_name {t = t} g i) =
      a_name t (sym a ∙ ap (λ m. t ∷ m) b) g (ok_same (sym h ∙ ap augmented_target i ∙ augmented-Name (identifier t)))
  operand_open O T V us rest z a b h paren (G.an_int g j i) = absurd (no_target _ y (ap augmented_target i ∙ augmented-Int _) h)
  operand_open O T V us rest z a b h paren (G.a_string {b = w} g j i) = absurd (no_target _ y (ap augmented_target i ∙ augmented-String w) h)
  operand_open O T V us rest z a b h paren (G.empty_tuple g j i) = absurd (no_target _ y (ap augmented_target i ∙ augmented-Tuple []) h)
  operand_open O T V us rest z a b h paren (G.parenthesized {o = o} {c = c} {ts = vs} {x = v} g p j i) = absurd (paren o c vs v (sym a) g (subst (λ m. T vs (c ∷ m) v) b p) j)
  operand_open O T V us rest z a b h paren (G.a_tuple {x = v} {xs = vs} g p j ps i) = absurd (no_target _ y (ap augmented_target i ∙ augmented-Tuple (v ∷ vs)) h)
  operand_open O T V us rest z a b h paren (G.a_list {xs = vs} g ps i) = absurd (no_target _ y (ap augmented_target i ∙ augmented-List vs) h)
  operand_open O T V us rest z a b h paren (G.a_list_comprehension {x = v} {cs = cs} g p ps j i) = absurd (no_target _ y (ap augmented_target i ∙ augmented-ListComprehension v cs frame.Shared) h)
  operand_open O T V us rest z a b h paren (G.a_dict {ps = ps} g p i) = absurd (no_target _ y (ap augmented_target i ∙ augmented-Dict ps) h)
  operand_open O T V us rest z a b h paren (G.a_dict_comprehension {p = v} {cs = cs} g p ps j i) = absurd (no_target _ y (ap augmented_target i ∙ augmented-DictComprehension v cs frame.Shared) h)

-- parentheses around it, at a depth
in_parens : (depth : ℕ) (ts : List Lexeme) (x : Expr) (q : Lexeme) (mid : List Lexeme) (y : TargetExpr) → expr_to (suc (suc depth)) ts ≡ Ok (x, q ∷ mid) → augmented_target x ≡ Ok y
    → ended_by k.RightParen ts (q ∷ mid) ≡ false
    → (o c : Lexeme) (vs : List Lexeme) (v : Expr) → ts ≡ o ∷ vs → o.kind ≡ k.LeftParen → IsTestTo depth vs (c ∷ q ∷ mid) v → c.kind ≡ k.RightParen → ⊥
in_parens depth ts x q mid y read takes open_ o c vs v f g p h = go ((test_to_agrees depth).complete vs (c ∷ q ∷ mid) v p (subst (λ j. ends 11 j ≡ true) (sym h) refl))
  where
    go : Met 1 vs (phrase (suc depth) Test vs) v (c ∷ q ∷ mid) → ⊥
    go (met a l) = never_closed (suc depth) ts x q mid y read takes open_ c h (test_later ts (suc depth) vs (c ∷ q ∷ mid) v (o ∷ [], f) a)
    go (cut a) = not_cut (suc depth) ts x q mid read
        (λ rest. let w = owed (suc depth) ts x q mid read (IsTestTo depth vs) (phrase (suc depth) Test vs) ((test_to_agrees depth).sound vs) a (tok k.RightParen ∷ rest) in
        let y = parenthesized_of (sees k.Dot rest) w.0 in
        (y, subst (λ m. IsPrimaryTo (suc depth) m rest y) (sym f) (G.primary (G.parenthesized g w.1 (tok_kind k.RightParen) refl) over refl)))

pub assignable : (depth : ℕ) (ts : List Lexeme) (x : Expr) (q : Lexeme) (mid : List Lexeme) (y : TargetExpr) → expr_to (suc depth) ts ≡ Ok (x, q ∷ mid) → augmented_target x ≡ Ok y
    → ended_by k.RightParen ts (q ∷ mid) ≡ false → IsExprTo depth ts (q ∷ mid) x → IsAssignable depth ts (q ∷ mid) y
assignable depth ts x q mid y read takes open_ (G.tests {x = a} p (again {x = b} {xs = bs} r rs) i) = absurd (no_target _ y (ap augmented_target i ∙ augmented-Tuple (a ∷ b ∷ bs)) takes)
assignable depth ts x q mid y read takes open_ (G.tests {x = a} p over i) =
    go depth read (parts_of depth ts (q ∷ mid) a (test_down (IsPrimaryTo depth) ts (q ∷ mid) a p (augmented_form a y (ap augmented_target (sym i) ∙ takes))))
  where
    go : (depth : ℕ) → expr_to (suc depth) ts ≡ Ok (x, q ∷ mid) → Parts depth ts (q ∷ mid) a → IsAssignable depth ts (q ∷ mid) y
    go zero read (parts m z zs r over f) =
        operand_open zero ts x q mid y read takes open_ none none none ts (q ∷ mid) z refl refl (ap augmented_target (sym f) ∙ ap augmented_target (sym i) ∙ takes) (λ o c vs v f g p h. p) r
    go (suc depth) read (parts m z zs r over f) =
        operand_open (suc depth) ts x q mid y read takes open_ (IsOrTo depth) (IsTestTo depth) (IsVars depth) ts (q ∷ mid) z refl refl (ap augmented_target (sym f) ∙ ap augmented_target (sym i) ∙ takes)
        (in_parens depth ts x q mid y read takes open_) r
    go depth read (parts m z zs r (again {mid = l} {x = v} {xs = vs} w ws) f) =
        an_index (indexed_back depth ts m l (q ∷ mid) z v vs y r w ws (sym (augmented-Primary z (v ∷ vs)) ∙ ap augmented_target (sym f) ∙ ap augmented_target (sym i) ∙ takes))

-- and back, what is read of these
pub name_read : (depth : ℕ) (n : Lexeme) (rest : List Lexeme) → n.kind ≡ k.Identifier → IsExprTo depth (n ∷ rest) rest (e.Name (identifier n))
name_read zero n rest f = expr_up zero (n ∷ rest) rest (e.Name (identifier n)) (G.primary (G.a_name f refl) over refl)
name_read (suc depth) n rest f = expr_up (suc depth) (n ∷ rest) rest (e.Name (identifier n)) (G.primary (G.a_name f refl) over refl)

pub name_taken : (n : Identifier) → augmented_target (e.Name n) ≡ Ok (target.Name n)
name_taken = augmented-Name

pub primary_taken : (x : Expr) (xs : List Suffix) → augmented_target (e.Primary x xs) ≡ indexed_from x [] xs
primary_taken = augmented-Primary
