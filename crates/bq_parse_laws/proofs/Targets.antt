-- Targets are the expressions that `target_to` takes for targets.
use Rattle.std.proofs.Common.{◌≡◌, ℕ, zero, suc, ◌≤◌, Bool, true, false, List, [], ◌∷◌, ◌++◌, Option, Result, Ok, Err, refl, sym, ap, ◌∙◌, subst, append_assoc, append-nil, arith, rules}
use Rattle.bq_source.specs.declared.token.TokenKind.{TokenKind}
use Rattle.bq_source.specs.declared.token.TokenKind.TheVariants as k
use Rattle.bq_parse_grammar.specs.declared.tree.ComprehensionFrame.TheVariants as frame
use Rattle.bq_parse_grammar.specs.Lexeme.{Lexeme}
use Rattle.bq_parse_grammar.specs.declared.refusal.SyntaxErr.{SyntaxErr}
use Rattle.bq_parse_grammar.specs.declared.refusal.SyntaxErr.TheVariants.{Syntax}
use Rattle.bq_parse_grammar.specs.declared.tree.Argument.{Argument}
use Rattle.bq_parse_grammar.specs.declared.tree.Argument.TheOpen.{Expr-F}
use Rattle.bq_parse_grammar.specs.declared.tree.ComprehensionFrame.{ComprehensionFrame}
use Rattle.bq_parse_grammar.specs.declared.tree.Clause.{Clause}
use Rattle.bq_parse_grammar.specs.declared.tree.Expr.{Expr, out-Expr, the_lemmas}
use Rattle.bq_parse_grammar.specs.declared.tree.Expr.TheVariants as e
use Rattle.bq_parse_grammar.specs.declared.tree.Identifier.{Identifier}
use Rattle.bq_parse_grammar.specs.declared.tree.Pair.{Pair}
use Rattle.bq_parse_grammar.specs.declared.tree.Suffix.{Suffix, out-Suffix}
use Rattle.bq_parse_grammar.specs.declared.tree.Suffix.TheVariants as s
use Rattle.bq_parse_grammar.specs.declared.tree.TargetExpr.{TargetExpr}
use Rattle.bq_parse_grammar.specs.declared.tree.TargetExpr.TheVariants as target
use Rattle.bq_parse_grammar.specs.Literals.{identifier}
use Rattle.bq_parse_grammar.specs.Phrases.{Phrase, none, Repeat, over, again, Listed, none_listed, last_listed, more_listed, CommaThen, comma_then}
use Rattle.bq_parse_grammar.specs.Grammar as G
use Rattle.bq_parse_grammar.specs.Grammar.{primary_of, parenthesized_of, IsOperand, IsVars, IsOrTo, IsPrimaryTo, IsTestTo, IsExprTo, IsOperandTo, IsSuffixTo, IsIndexTo}
use Rattle.bq_parse_grammar.specs.Statements as S
use Rattle.bq_parse_grammar.specs.Statements.{IsIndexed, IsItemOver, IsItem, IsTarget}
use Rattle.bq_parse_grammar.specs.Turns.{sees}
use Rattle.bq_parse_grammar.specs.Targets.{ExprLayer, with_target, targets_from, many_of, index_of, indexed_from, target_by, target_to}
use Rattle.bq_parse_laws.proofs.ExpressionReading.{form_by, has_form, test_down, test_up, Parts, parts, parts_of, primary_with, expr_up}

-- ---- what `target_to` makes of each tree

target-Name : (f : ℕ) (n : Identifier) → target_to (suc f) (e.Name n) ≡ Ok (target.Name n)
unfolding target_to
target-Name f n = search (rules, the_lemmas)

target-Int : (f : ℕ) (n : _) → target_to (suc f) (e.Int n) ≡ Err Syntax
unfolding target_to
target-Int f n = search (rules, the_lemmas)

target-String : (f : ℕ) (b : List ℕ) → target_to (suc f) (e.String b) ≡ Err Syntax
unfolding target_to
target-String f b = search (rules, the_lemmas)

target-Primary : (f : ℕ) (x : Expr) (xs : List Suffix) → target_to (suc f) (e.Primary x xs) ≡ indexed_from x [] xs
unfolding target_to
target-Primary f x xs = search (rules, the_lemmas)

target-Tuple : (f : ℕ) (xs : List Expr) → target_to (suc f) (e.Tuple xs) ≡ many_of target.Tuple (targets_from (target_to f) [] xs)
unfolding target_to
target-Tuple f xs = search (rules, the_lemmas)

target-List : (f : ℕ) (xs : List Expr) → target_to (suc f) (e.List xs) ≡ many_of target.List (targets_from (target_to f) [] xs)
unfolding target_to
target-List f xs = search (rules, the_lemmas)

target-ListComprehension : (f : ℕ) (x : Expr) (cs : List Clause) (own : ComprehensionFrame) → target_to (suc f) (e.ListComprehension x cs own) ≡ Err Syntax
unfolding target_to
target-ListComprehension f x cs own = search (rules, the_lemmas)

target-Dict : (f : ℕ) (ps : List Pair) → target_to (suc f) (e.Dict ps) ≡ Err Syntax
unfolding target_to
target-Dict f ps = search (rules, the_lemmas)

target-DictComprehension : (f : ℕ) (p : Pair) (cs : List Clause) (own : ComprehensionFrame) → target_to (suc f) (e.DictComprehension p cs own) ≡ Err Syntax
unfolding target_to
target-DictComprehension f p cs own = search (rules, the_lemmas)

target_zero : (x : Expr) (y : TargetExpr) → target_to zero x ≡ Ok y → ⊥
unfolding target_to
target_zero x y h = absurd (cc)

pub target_form : (f : ℕ) (x : Expr) (y : TargetExpr) → target_to f x ≡ Ok y → has_form x ≡ true
unfolding target_to
target_form zero x y h = absurd (cc)
target_form (suc f) x y h = go (out-Expr x) h
  where
    go : (l : ExprLayer) → target_by (target_to f) l ≡ Ok y → form_by l ≡ true
    go (Expr-F.Expr::Name n) g = refl
    go (Expr-F.Primary z zs) g = refl
    go (Expr-F.Expr::Tuple zs) g = refl
    go (Expr-F.Expr::List zs) g = refl
    go _ g = absurd (cc)

index-Index : (x i : Expr) → index_of x (out-Suffix (s.Index i)) ≡ Ok (target.Index x i)
index-Index x i = search (rules, the_lemmas)

index-Attribute : (x : Expr) (n : Identifier) → index_of x (out-Suffix (s.Attribute n)) ≡ Err Syntax
index-Attribute x n = search (rules, the_lemmas)

index-Method : (x : Expr) (n : Identifier) (as' : List Argument) → index_of x (out-Suffix (s.Method n as')) ≡ Err Syntax
index-Method x n as' = search (rules, the_lemmas)

index-Call : (x : Expr) (as' : List Argument) → index_of x (out-Suffix (s.Call as')) ≡ Err Syntax
index-Call x as' = search (rules, the_lemmas)

index-Slice : (x : Expr) (a b c : Option Expr) → index_of x (out-Suffix (s.Slice a b c)) ≡ Err Syntax
index-Slice x a b c = search (rules, the_lemmas)

-- what is done last
pub indexed_last : (x : Expr) (done xs : List Suffix) (y : Suffix) → indexed_from x done (xs ++ y ∷ []) ≡ index_of (primary_of x (done ++ xs)) (out-Suffix y)
indexed_last x done [] y = ap (λ d. index_of (primary_of x d) (out-Suffix y)) (sym (append-nil done))
indexed_last x done (z ∷ []) y = refl
indexed_last x done (z ∷ w ∷ ws) y = indexed_last x (done ++ z ∷ []) (w ∷ ws) y ∙ ap (λ d. index_of (primary_of x d) (out-Suffix y)) (append_assoc done (z ∷ []) (w ∷ ws))

primary_more : (x : Expr) (xs : List Suffix) (y : Suffix) → primary_of x (xs ++ y ∷ []) ≡ e.Primary x (xs ++ y ∷ [])
primary_more x [] y = refl
primary_more x (z ∷ zs) y = refl

pub no_target : (r : Result TargetExpr SyntaxErr) (x : TargetExpr) → r ≡ Err Syntax → r ≡ Ok x → ⊥
no_target r x f h = let w = sym f ∙ h in absurd (cc)

abbrev pub Done : {A : Type 0} → A → Result A SyntaxErr
Done x = Ok x

pub ok_same : {A : Type 0} {x y : A} → Done x ≡ Done y → x ≡ y
ok_same {A = A} {x = x} h = ap (value x) h
  where
    value : A → Result A SyntaxErr → A
    value d (Ok z) = z
    value d (Err why) = d

-- ---- from targets to expressions

-- an expression that is this target, whatever more lists and tuples it might hold
abbrev Comes : Phrase Expr → ℕ → List Lexeme → List Lexeme → TargetExpr → Type 0
Comes T n ts rest x = (y : Expr) × T ts rest y × ((f : ℕ) → n ≤ f → target_to (suc f) y ≡ Ok x)

pub repeat_snoc : {A : Type 0} (X : Phrase A) (ts mid rest : List Lexeme) (xs : List A) (y : A) → Repeat X ts mid xs → X mid rest y → Repeat X ts rest (xs ++ y ∷ [])
repeat_snoc X ts mid rest xs y over p = again p over
repeat_snoc X ts mid rest xs y (again {mid = m} {x = x} {xs = zs} q qs) p = again q (repeat_snoc X m mid rest zs y qs p)

-- an index, as a suffix
index_suffix : (depth : ℕ) (o c : Lexeme) (us rest : List Lexeme) (i : Expr) → o.kind ≡ k.LeftBracket → IsIndexTo depth us (c ∷ rest) i → c.kind ≡ k.RightBracket
    → IsSuffixTo depth (o ∷ us) rest (s.Index i)
index_suffix zero o c us rest i f p g = absurd p
index_suffix (suc depth) o c us rest i f (G.tests p ps h) g = G.index f (G.tests p ps h) g refl

pub indexed_expr : (depth : ℕ) (ts rest : List Lexeme) (x : TargetExpr) → IsIndexed depth ts rest x
    → (z : Expr) × (zs : List Suffix) × (i : Expr) × IsPrimaryTo depth ts rest (e.Primary z (zs ++ s.Index i ∷ [])) × (x ≡ target.Index (primary_of z zs) i)
indexed_expr depth ts rest x (S.indexed {o = o} c {mid = mid} {us = us} z zs i p ps f q g h) = (
  z,
  zs,
  i,
  primary_with depth ts mid rest _ z (zs ++ s.Index i ∷ []) p (repeat_snoc (IsSuffixTo depth) mid (o ∷ us) rest zs (s.Index i) ps (index_suffix depth o c us rest i f q g))
      (sym (primary_more z zs (s.Index i))),
  h,
)

pub indexed_value : (z : Expr) (zs : List Suffix) (i : Expr) → indexed_from z [] (zs ++ s.Index i ∷ []) ≡ Ok (target.Index (primary_of z zs) i)
indexed_value z zs i = indexed_last z [] zs (s.Index i) ∙ index-Index (primary_of z zs) i

indexed_comes : (depth : ℕ) (ts rest : List Lexeme) (x : TargetExpr) → IsIndexed depth ts rest x → Comes (IsPrimaryTo depth) depth ts rest x
indexed_comes depth ts rest x p = let w = indexed_expr depth ts rest x p in (
  e.Primary w.0 (w.1 ++ s.Index w.2 ∷ []),
  w.3,
  λ f le. target-Primary f w.0 (w.1 ++ s.Index w.2 ∷ []) ∙ indexed_value w.0 w.1 w.2 ∙ ap Ok (sym w.4),
)

module _ (T : Phrase Expr) (Inner : Phrase TargetExpr) (n : ℕ) (down : (ts rest : List Lexeme) (x : TargetExpr) → Inner ts rest x → Comes T n ts rest x) where
  listed_comes : (close : TokenKind) (ts rest : List Lexeme) (xs : List TargetExpr) → Listed close Inner ts rest xs
      → (ys : List Expr) × Listed close T ts rest ys × ((f : ℕ) → n ≤ f → (found : List TargetExpr) → targets_from (target_to (suc f)) found ys ≡ Ok (found ++ xs))
  listed_comes close ts rest xs (none_listed g) = ([], none_listed g, λ f le found. ap Ok (sym (append-nil found)))
  listed_comes close ts rest xs (last_listed {t = t} {x = x} p g) = let w = down ts (t ∷ rest) x p in (
    w.0 ∷ [],
    last_listed w.1 g,
    λ f le found. ap (λ r. with_target r (λ y. targets_from (target_to (suc f)) (found ++ y ∷ []) [])) (w.2 f le),
  )
  listed_comes close ts rest xs (more_listed {t = t} {mid = mid} {x = x} {xs = zs} p g ps) = let w = down ts (t ∷ mid) x p in let v = listed_comes close mid rest zs ps in (
    w.0 ∷ v.0,
    more_listed w.1 g v.1,
    λ f le found. ap (λ r. with_target r (λ y. targets_from (target_to (suc f)) (found ++ y ∷ []) v.0)) (w.2 f le) ∙ v.2 f le (found ++ x ∷ []) ∙ ap Ok (append_assoc found (x ∷ []) zs),
  )

  repeat_comes : (ts rest : List Lexeme) (xs : List TargetExpr) → Repeat (CommaThen Inner) ts rest xs
      → (ys : List Expr) × Repeat (CommaThen T) ts rest ys × ((f : ℕ) → n ≤ f → (found : List TargetExpr) → targets_from (target_to (suc f)) found ys ≡ Ok (found ++ xs))
  repeat_comes ts rest xs over = ([], over, λ f le found. ap Ok (sym (append-nil found)))
  repeat_comes ts rest xs (again {mid = mid} {x = x} {xs = zs} (comma_then {ts = us} g p) ps) = let w = down us mid x p in let v = repeat_comes mid rest zs ps in (
    w.0 ∷ v.0,
    again (comma_then g w.1) v.1,
    λ f le found. ap (λ r. with_target r (λ y. targets_from (target_to (suc f)) (found ++ y ∷ []) v.0)) (w.2 f le) ∙ v.2 f le (found ++ x ∷ []) ∙ ap Ok (append_assoc found (x ∷ []) zs),
  )

test_comes : (depth : ℕ) → ((ts rest : List Lexeme) (x : TargetExpr) → IsItem depth ts rest x → Comes (IsPrimaryTo depth) depth ts rest x)
    → (ts rest : List Lexeme) (x : TargetExpr) → IsItem depth ts rest x → Comes (IsTestTo depth) depth ts rest x
test_comes depth comes ts rest x p = let w = comes ts rest x p in (w.0, test_up (IsPrimaryTo depth) ts rest w.0 w.1, w.2)

item_comes : (depth : ℕ) (ts rest : List Lexeme) (x : TargetExpr) → IsItem depth ts rest x → Comes (IsPrimaryTo depth) depth ts rest x
item_comes zero ts rest x (S.name {t = t} g h) = (e.Name (identifier t), G.primary (G.a_name g refl) over refl, λ f le. target-Name f (identifier t) ∙ ap Ok (sym h))
item_comes zero ts rest x (S.index p) = indexed_comes zero ts rest x p
item_comes zero ts rest x (S.parenthesized g p h i) = absurd p
item_comes zero ts rest x (S.tuple g p h ps i) = absurd p
item_comes zero ts rest x (S.list g (last_listed p i) h) = absurd p
item_comes zero ts rest x (S.list g (more_listed p i ps) h) = absurd p
item_comes (suc depth) ts rest x (S.name {t = t} g h) = (e.Name (identifier t), G.primary (G.a_name g refl) over refl, λ f le. target-Name f (identifier t) ∙ ap Ok (sym h))
item_comes (suc depth) ts rest x (S.index p) = indexed_comes (suc depth) ts rest x p
item_comes (suc depth) ts rest x (S.parenthesized {c = c} {ts = us} g p h i) = let w = item_comes depth us (c ∷ rest) x p in (
  w.0,
  G.primary (G.parenthesized g (test_up (IsPrimaryTo depth) us (c ∷ rest) w.0 w.1) h (sym (ap (λ b. parenthesized_of b w.0) i))) over refl,
  λ f le. w.2 f (omega arith),
)
item_comes (suc depth) ts rest x (S.tuple {c = c} {ts = us} {mid = mid} {x = y} {xs = ys} g p h ps i) =
    let down = test_comes depth (item_comes depth) in
    let w = item_comes depth us (c ∷ mid) y p in
    let v = listed_comes (IsTestTo depth) (IsItem depth) depth down k.RightParen mid rest ys ps in (
      e.Tuple (w.0 ∷ v.0),
      G.primary (G.a_tuple g (test_up (IsPrimaryTo depth) us (c ∷ mid) w.0 w.1) h v.1 refl) over refl,
      tuple_value target.Tuple y ys x i (w.0) v.0 (λ f. e.Tuple (w.0 ∷ v.0)) (λ f. target-Tuple f (w.0 ∷ v.0)) w.2 v.2,
    )
  where
    tuple_value : (make : List TargetExpr → TargetExpr) (y : TargetExpr) (ys : List TargetExpr) (x : TargetExpr) → x ≡ make (y ∷ ys) → (w : Expr) (v : List Expr) (whole : ℕ → Expr)
        → ((f : ℕ) → target_to (suc f) (whole f) ≡ many_of make (targets_from (target_to f) [] (w ∷ v)))
        → ((f : ℕ) → depth ≤ f → target_to (suc f) w ≡ Ok y) → ((f : ℕ) → depth ≤ f → (found : List TargetExpr) → targets_from (target_to (suc f)) found v ≡ Ok (found ++ ys))
        → (f : ℕ) → suc depth ≤ f → target_to (suc f) (whole f) ≡ Ok x
    tuple_value make y ys x i w v whole open_ a b zero le = absurd (omega arith)
    tuple_value make y ys x i w v whole open_ a b (suc f) le =
        open_ (suc f) ∙ ap (λ r. many_of make (with_target r (λ z. targets_from (target_to (suc f)) (z ∷ []) v))) (a f (omega arith)) ∙ ap (many_of make) (b f (omega arith) (y ∷ [])) ∙ ap Ok (sym i)
item_comes (suc depth) ts rest x (S.list {ts = us} {x = y} {xs = ys} g ps i) =
    let down = test_comes depth (item_comes depth) in
    let v = listed_comes (IsTestTo depth) (IsItem depth) depth down k.RightBracket us rest (y ∷ ys) ps in (
      e.List v.0,
      G.primary (G.a_list g v.1 refl) over refl,
      list_value v.0 v.2,
    )
  where
    list_value : (v : List Expr) → ((f : ℕ) → depth ≤ f → (found : List TargetExpr) → targets_from (target_to (suc f)) found v ≡ Ok (found ++ y ∷ ys))
        → (f : ℕ) → suc depth ≤ f → target_to (suc f) (e.List v) ≡ Ok x
    list_value v b zero le = absurd (omega arith)
    list_value v b (suc f) le = target-List (suc f) v ∙ ap (many_of target.List) (b f (omega arith) []) ∙ ap Ok (sym i)

pub target_comes : (depth : ℕ) (ts rest : List Lexeme) (x : TargetExpr) → IsTarget depth ts rest x
    → (y : Expr) × IsExprTo depth ts rest y × ((f : ℕ) → suc depth ≤ f → target_to (suc f) y ≡ Ok x)
target_comes depth ts rest x (S.items {mid = mid} {x = y} p over h) = let w = item_comes depth ts mid y p in
    (w.0, expr_up depth ts rest w.0 w.1, λ f le. w.2 f (omega arith) ∙ ap Ok (sym h))
target_comes depth ts rest x (S.items {mid = mid} {x = y} p (again {mid = m} {x = z} {xs = zs} (comma_then {ts = us} g q) ps) h) =
    let down = test_comes depth (item_comes depth) in
    let w = down ts mid y p in
    let u = down us m z q in
    let v = repeat_comes (IsTestTo depth) (IsItem depth) depth down m rest zs ps in (
      e.Tuple (w.0 ∷ u.0 ∷ v.0),
      G.tests w.1 (again (comma_then g u.1) v.1) refl,
      value w.0 u.0 v.0 w.2 u.2 v.2,
    )
  where
    value : (a b : Expr) (v : List Expr) → ((f : ℕ) → depth ≤ f → target_to (suc f) a ≡ Ok y) → ((f : ℕ) → depth ≤ f → target_to (suc f) b ≡ Ok z)
        → ((f : ℕ) → depth ≤ f → (found : List TargetExpr) → targets_from (target_to (suc f)) found v ≡ Ok (found ++ zs)) → (f : ℕ) → suc depth ≤ f
        → target_to (suc f) (e.Tuple (a ∷ b ∷ v)) ≡ Ok x
    value a b v i j l zero le = absurd (omega arith)
    value a b v i j l (suc f) le = target-Tuple (suc f) (a ∷ b ∷ v)
        ∙ ap (λ r. many_of target.Tuple (with_target r (λ z. targets_from (target_to (suc f)) (z ∷ []) (b ∷ v)))) (i f (omega arith))
        ∙ ap (λ r. many_of target.Tuple (with_target r (λ z. targets_from (target_to (suc f)) (y ∷ z ∷ []) v))) (j f (omega arith))
        ∙ ap (many_of target.Tuple) (l f (omega arith) (y ∷ z ∷ [])) ∙ ap Ok (sym h)

-- ---- from expressions to targets

target_given : {A : Type 0} (r : Result TargetExpr SyntaxErr) (g : TargetExpr → Result A SyntaxErr) (z : A) → with_target r g ≡ Ok z → (x : TargetExpr) × (r ≡ Ok x) × (g x ≡ Ok z)
target_given (Ok x) g z h = (x, refl, h)
target_given (Err why) g z h = absurd (cc)

many_given : (make : List TargetExpr → TargetExpr) (r : Result (List TargetExpr) SyntaxErr) (x : TargetExpr) → many_of make r ≡ Ok x
    → (z : TargetExpr) × (zs : List TargetExpr) × (r ≡ Ok (z ∷ zs)) × (x ≡ make (z ∷ zs))
many_given make (Ok []) x h = absurd (cc)
many_given make (Ok (z ∷ zs)) x h = (z, zs, refl, sym (ok_same h))
many_given make (Err why) x h = absurd (cc)

module _ (T : Phrase Expr) (Inner : Phrase TargetExpr) (up : (f : ℕ) (ts rest : List Lexeme) (x : TargetExpr) (y : Expr) → T ts rest y → target_to f y ≡ Ok x → Inner ts rest x) where
  listed_back : (close : TokenKind) (f : ℕ) (ts rest : List Lexeme) (ys : List Expr) (found zs : List TargetExpr) → Listed close T ts rest ys → targets_from (target_to f) found ys ≡ Ok zs
      → (xs : List TargetExpr) × (zs ≡ found ++ xs) × Listed close Inner ts rest xs
  listed_back close f ts rest ys found zs (none_listed g) h = ([], sym (ok_same h) ∙ sym (append-nil found), none_listed g)
  listed_back close f ts rest ys found zs (last_listed {t = t} {x = y} p g) h =
      let w = target_given (target_to f y) (λ z. targets_from (target_to f) (found ++ z ∷ []) []) zs h in
      (w.0 ∷ [], sym (ok_same w.2), last_listed (up f ts (t ∷ rest) w.0 y p w.1) g)
  listed_back close f ts rest ys found zs (more_listed {t = t} {mid = mid} {x = y} {xs = vs} p g ps) h =
      let w = target_given (target_to f y) (λ z. targets_from (target_to f) (found ++ z ∷ []) vs) zs h in
      let v = listed_back close f mid rest vs (found ++ w.0 ∷ []) zs ps w.2 in
      (w.0 ∷ v.0, v.1 ∙ append_assoc found (w.0 ∷ []) v.0, more_listed (up f ts (t ∷ mid) w.0 y p w.1) g v.2)

  repeat_back : (f : ℕ) (ts rest : List Lexeme) (ys : List Expr) (found zs : List TargetExpr) → Repeat (CommaThen T) ts rest ys → targets_from (target_to f) found ys ≡ Ok zs
      → (xs : List TargetExpr) × (zs ≡ found ++ xs) × Repeat (CommaThen Inner) ts rest xs
  repeat_back f ts rest ys found zs over h = ([], sym (ok_same h) ∙ sym (append-nil found), over)
  repeat_back f ts rest ys found zs (again {mid = mid} {x = y} {xs = vs} (comma_then {ts = us} g p) ps) h =
      let w = target_given (target_to f y) (λ z. targets_from (target_to f) (found ++ z ∷ []) vs) zs h in
      let v = repeat_back f mid rest vs (found ++ w.0 ∷ []) zs ps w.2 in
      (w.0 ∷ v.0, v.1 ∙ append_assoc found (w.0 ∷ []) v.0, again (comma_then g (up f us mid w.0 y p w.1)) v.2)

-- the last of a repetition
data LastOf {A : Type 0} (X : Phrase A) (ts rest : List Lexeme) (zs : List A) : Type 0 where
  last_of : (mid : List Lexeme) (ys : List A) (y : A) → zs ≡ ys ++ y ∷ [] → Repeat X ts mid ys → X mid rest y → LastOf X ts rest zs

split_last : {A : Type 0} (X : Phrase A) (ts mid rest : List Lexeme) (x : A) (xs : List A) → X ts mid x → Repeat X mid rest xs → LastOf X ts rest (x ∷ xs)
split_last X ts mid rest x xs p over = last_of ts [] x refl over p
split_last {A = A} X ts mid rest x xs p (again {mid = m} {x = y} {xs = ys} q qs) = go (split_last X mid m rest y ys q qs)
  where
    go : LastOf X mid rest (y ∷ ys) → LastOf X ts rest (x ∷ y ∷ ys)
    go (last_of l zs z g ps r) = last_of l (x ∷ zs) z (ap (λ vs. x ∷ vs) g) (again p ps) r

index_back : (depth : ℕ) (z : Expr) (mid rest : List Lexeme) (y : Suffix) (x : TargetExpr) → IsSuffixTo depth mid rest y → index_of z (out-Suffix y) ≡ Ok x
    → (o c : Lexeme) × (us : List Lexeme) × (i : Expr) × (mid ≡ o ∷ us) × (o.kind ≡ k.LeftBracket) × IsIndexTo depth us (c ∷ rest) i × (c.kind ≡ k.RightBracket) × (x ≡ target.Index z i)
index_back zero z mid rest y x (G.attribute {n = n} f g h i) r = absurd (no_target _ x (ap (λ y. index_of z (out-Suffix y)) i ∙ index-Attribute z (identifier n)) r)
index_back zero z mid rest y x (G.method {n = n} {xs = xs} f g h p i) r = absurd (no_target _ x (ap (λ y. index_of z (out-Suffix y)) i ∙ index-Method z (identifier n) xs) r)
index_back zero z mid rest y x (G.call {xs = xs} f p i) r = absurd (no_target _ x (ap (λ y. index_of z (out-Suffix y)) i ∙ index-Call z xs) r)
index_back zero z mid rest y x (G.slice {x = a} {y = b} f p g q h i) r = absurd (no_target _ x (ap (λ y. index_of z (out-Suffix y)) i ∙ index-Slice z a b Option.None) r)
index_back zero z mid rest y x (G.stepped {x = a} {y = b} {w = w} f p g q h v j i) r = absurd (no_target _ x (ap (λ y. index_of z (out-Suffix y)) i ∙ index-Slice z a b w) r)
index_back zero z mid rest y x (G.index f (G.tests p ps j) g h) r = absurd p
index_back (suc depth) z mid rest y x (G.attribute {n = n} f g h i) r = absurd (no_target _ x (ap (λ y. index_of z (out-Suffix y)) i ∙ index-Attribute z (identifier n)) r)
index_back (suc depth) z mid rest y x (G.method {n = n} {xs = xs} f g h p i) r = absurd (no_target _ x (ap (λ y. index_of z (out-Suffix y)) i ∙ index-Method z (identifier n) xs) r)
index_back (suc depth) z mid rest y x (G.call {xs = xs} f p i) r = absurd (no_target _ x (ap (λ y. index_of z (out-Suffix y)) i ∙ index-Call z xs) r)
index_back (suc depth) z mid rest y x (G.slice {x = a} {y = b} f p g q h i) r = absurd (no_target _ x (ap (λ y. index_of z (out-Suffix y)) i ∙ index-Slice z a b Option.None) r)
index_back (suc depth) z mid rest y x (G.stepped {x = a} {y = b} {w = w} f p g q h v j i) r = absurd (no_target _ x (ap (λ y. index_of z (out-Suffix y)) i ∙ index-Slice z a b w) r)
index_back (suc depth) z mid rest y x (G.index {o = o} {c = c} {ts = us} {x = i} f (G.tests p ps j) g h) r =
    (o, c, us, i, refl, f, G.tests p ps j, g, sym (ok_same (sym (ap (λ y. index_of z (out-Suffix y)) h ∙ index-Index z i) ∙ r)))

pub indexed_back : (depth : ℕ) (ts mid m rest : List Lexeme) (z : Expr) (y : Suffix) (ys : List Suffix) (x : TargetExpr) → IsOperandTo depth ts mid z → IsSuffixTo depth mid m y
    → Repeat (IsSuffixTo depth) m rest ys → indexed_from z [] (y ∷ ys) ≡ Ok x → IsIndexed depth ts rest x
indexed_back depth ts mid m rest z y ys x p q qs h = go (split_last (IsSuffixTo depth) mid m rest y ys q qs)
  where
    go : LastOf (IsSuffixTo depth) mid rest (y ∷ ys) → IsIndexed depth ts rest x
    go (last_of l vs v g ps r) =
        let w = index_back depth (primary_of z vs) l rest v x r (sym (indexed_last z [] vs v) ∙ ap (indexed_from z []) (sym g) ∙ h) in
        S.indexed w.1 z vs w.3 p (subst (λ b. Repeat (IsSuffixTo depth) mid b vs) w.4 ps) w.5 w.6 w.7 w.8

module _ (depth : ℕ) (O T : Phrase Expr) (V : Phrase TargetExpr) (Inner : Phrase TargetExpr)
    (up : (f : ℕ) (ts rest : List Lexeme) (x : TargetExpr) (y : Expr) → T ts rest y → target_to f y ≡ Ok x → Inner ts rest x) where
  operand_back : (f : ℕ) (ts rest : List Lexeme) (x : TargetExpr) (y : Expr) → IsOperand O T V ts rest y → target_to (suc f) y ≡ Ok x → IsItemOver depth Inner ts rest x
  operand_back f ts rest x y (G.a_name {t = t} g i) h = S.name g (sym (ok_same (sym (ap (target_to (suc f)) i ∙ target-Name f (identifier t)) ∙ h)))
  operand_back f ts rest x y (G.an_int g j i) h = absurd (no_target _ x (ap (target_to (suc f)) i ∙ target-Int f _) h)
  operand_back f ts rest x y (G.a_string {b = b} g j i) h = absurd (no_target _ x (ap (target_to (suc f)) i ∙ target-String f b) h)
  operand_back f ts rest x y (G.empty_tuple g j i) h = absurd (no_target _ x (ap (target_to (suc f)) i ∙ target-Tuple f []) h)
  operand_back f ts rest x y (G.parenthesized {o = o} {c = c} {ts = us} {x = z} g q j i) h = go (sees k.Dot rest) refl i
    where
      go : (b : Bool) → sees k.Dot rest ≡ b → y ≡ parenthesized_of b z → IsItemOver depth Inner (o ∷ us) rest x
      go true n i = absurd (no_target _ x (ap (target_to (suc f)) i ∙ target-Primary f z []) h)
      go false n i = S.parenthesized g (up (suc f) us (c ∷ rest) x z q (ap (target_to (suc f)) (sym i) ∙ h)) j n
  operand_back f ts rest x y (G.a_tuple {c = c} {ts = us} {mid = mid} {x = a} {xs = bs} g q j ps i) h =
      let m = many_given target.Tuple (targets_from (target_to f) [] (a ∷ bs)) x (sym (ap (target_to (suc f)) i ∙ target-Tuple f (a ∷ bs)) ∙ h) in
      let w = target_given (target_to f a) (λ z. targets_from (target_to f) (z ∷ []) bs) (m.0 ∷ m.1) m.2 in
      let v = listed_back T Inner up k.RightParen f mid rest bs (w.0 ∷ []) (m.0 ∷ m.1) ps w.2 in
      S.tuple g (up f us (c ∷ mid) w.0 a q w.1) j v.2 (m.3 ∙ ap target.Tuple v.1)
  operand_back f ts rest x y (G.a_list {ts = us} {xs = bs} g ps i) h =
      let m = many_given target.List (targets_from (target_to f) [] bs) x (sym (ap (target_to (suc f)) i ∙ target-List f bs) ∙ h) in
      let v = listed_back T Inner up k.RightBracket f us rest bs [] (m.0 ∷ m.1) ps m.2 in
      S.list g (subst (λ zs. Listed k.RightBracket Inner us rest zs) (sym v.1) v.2) m.3
  operand_back f ts rest x y (G.a_list_comprehension {x = z} {cs = cs} g q ps j i) h = absurd (no_target _ x (ap (target_to (suc f)) i ∙ target-ListComprehension f z cs frame.Shared) h)
  operand_back f ts rest x y (G.a_dict {ps = zs} g ps i) h = absurd (no_target _ x (ap (target_to (suc f)) i ∙ target-Dict f zs) h)
  operand_back f ts rest x y (G.a_dict_comprehension {p = z} {cs = cs} g q ps j i) h = absurd (no_target _ x (ap (target_to (suc f)) i ∙ target-DictComprehension f z cs frame.Shared) h)

indexed_item : (depth : ℕ) (ts rest : List Lexeme) (x : TargetExpr) → IsIndexed depth ts rest x → IsItem depth ts rest x
indexed_item zero ts rest x p = S.index p
indexed_item (suc depth) ts rest x p = S.index p

-- what a primary's parts make of it
back_by : (depth f : ℕ) (ts rest : List Lexeme) (x : TargetExpr) (y : Expr) → ((z : Expr) → IsOperandTo depth ts rest z → target_to (suc f) z ≡ Ok x → IsItem depth ts rest x)
    → Parts depth ts rest y → target_to (suc f) y ≡ Ok x → IsItem depth ts rest x
back_by depth f ts rest x y operand (parts mid z zs q over g) h = operand z q (ap (target_to (suc f)) (sym g) ∙ h)
back_by depth f ts rest x y operand (parts mid z zs q (again {mid = m} {x = v} {xs = vs} r rs) g) h =
    indexed_item depth ts rest x (indexed_back depth ts mid m rest z v vs x q r rs (sym (target-Primary f z (v ∷ vs)) ∙ ap (target_to (suc f)) (sym g) ∙ h))

primary_back : (depth f : ℕ) (ts rest : List Lexeme) (x : TargetExpr) (y : Expr) → IsPrimaryTo depth ts rest y → target_to f y ≡ Ok x → IsItem depth ts rest x
primary_back depth zero ts rest x y p h = absurd (target_zero y x h)
primary_back zero (suc f) ts rest x y p h =
    back_by zero f ts rest x y (λ z q. operand_back zero none none none none (λ f ts rest x y p h. absurd p) f ts rest x z q) (parts_of zero ts rest y p) h
primary_back (suc depth) (suc f) ts rest x y p h =
    back_by (suc depth) f ts rest x y
    (λ z q. operand_back (suc depth) (IsOrTo depth) (IsTestTo depth) (IsVars depth) (IsItem depth)
    (λ f ts rest x y p h. primary_back depth f ts rest x y (test_down (IsPrimaryTo depth) ts rest y p (target_form f y x h)) h) f ts rest x z q)
    (parts_of (suc depth) ts rest y p) h

test_back : (depth f : ℕ) (ts rest : List Lexeme) (x : TargetExpr) (y : Expr) → IsTestTo depth ts rest y → target_to f y ≡ Ok x → IsItem depth ts rest x
test_back depth f ts rest x y p h = primary_back depth f ts rest x y (test_down (IsPrimaryTo depth) ts rest y p (target_form f y x h)) h

pub target_back : (depth f : ℕ) (ts rest : List Lexeme) (x : TargetExpr) (y : Expr) → IsExprTo depth ts rest y → target_to f y ≡ Ok x → IsTarget depth ts rest x
target_back depth f ts rest x y (G.tests {x = a} p over i) h = S.items (test_back depth f ts rest x a p (ap (target_to f) (sym i) ∙ h)) over refl
target_back depth zero ts rest x y (G.tests p (again q ps) i) h = absurd (target_zero y x h)
target_back depth (suc f) ts rest x y (G.tests {mid = mid} {x = a} p (again {mid = l} {x = b} {xs = bs} (comma_then {ts = us} g q) ps) i) h =
    let m = many_given target.Tuple (targets_from (target_to f) [] (a ∷ b ∷ bs)) x (sym (ap (target_to (suc f)) i ∙ target-Tuple f (a ∷ b ∷ bs)) ∙ h) in
    let w = target_given (target_to f a) (λ z. targets_from (target_to f) (z ∷ []) (b ∷ bs)) (m.0 ∷ m.1) m.2 in
    let u = target_given (target_to f b) (λ z. targets_from (target_to f) (w.0 ∷ z ∷ []) bs) (m.0 ∷ m.1) w.2 in
    let v = repeat_back (IsTestTo depth) (IsItem depth) (test_back depth) f l rest bs (w.0 ∷ u.0 ∷ []) (m.0 ∷ m.1) ps u.2 in
    S.items (test_back depth f ts mid w.0 a p w.1) (again (comma_then g (test_back depth f us l u.0 b q u.1)) v.2) (m.3 ∙ ap target.Tuple v.1)
