-- Of a statement of the grammar the verdict's test for a `def` in a `def`, which goes as deep as indents may, goes deep enough.
use Rattle.std.specs.List.{list_any}
use Rattle.std.proofs.Common.{◌≡◌, ℕ, zero, suc, Bool, true, false, ◌||◌, List, [], ◌∷◌, map, refl, sym, ap, ◌∙◌, subst, rules}
use Rattle.bq_parse_grammar.specs.Lexeme.{Lexeme}
use Rattle.bq_parse_grammar.specs.LeftOut.{nested_in, nested_def}
use Rattle.bq_parse_grammar.specs.Phrases as P
use Rattle.bq_parse_grammar.specs.Phrases.{Phrase, none, Repeat}
use Rattle.bq_parse_grammar.specs.Statements as S
use Rattle.bq_parse_grammar.specs.Statements.{IsSuite, IsBranch, IsElif, IsElse, IsStmtOver, IsStmt, IsTopLevel}
use Rattle.bq_parse_grammar.specs.Literals.{identifier}
use Rattle.bq_parse_grammar.specs.declared.tree.Branch.{Branch, out-Branch, roll-Branch}
use Rattle.bq_parse_grammar.specs.declared.tree.SmallStmt.{SmallStmt}
use Rattle.bq_parse_grammar.specs.declared.tree.Stmt as stmt
use Rattle.bq_parse_grammar.specs.declared.tree.Stmt.{Stmt, out-Stmt, roll-Stmt}
use Rattle.bq_parse_grammar.specs.declared.tree.Stmt.TheOpen.{Stmt-F}
use Rattle.bq_parse_grammar.specs.declared.tree.TopLevel.{TopLevel}
use Rattle.bq_parse_laws.specs.LeftOut.{has_nested, branch_has_nested}
use Rattle.bq_parse_laws.proofs.Layers as L
use Rattle.bq_parse_laws.proofs.Layers.{BranchLayer}

-- ---- by the first layer

abbrev by_layer : Stmt-F Stmt Branch → Bool → Bool
by_layer (Stmt-F.Simple xs) inside = false
by_layer (Stmt-F.If bs zs) inside = list_any (λ f. f inside) (map branch_has_nested bs) || list_any (λ f. f inside) (map has_nested zs)
by_layer (Stmt-F.For v x xs) inside = list_any (λ f. f inside) (map has_nested xs)
by_layer (Stmt-F.Def n ps xs) inside = inside || list_any (λ f. f true) (map has_nested xs)

rolled : (l : Stmt-F Stmt Branch) (inside : Bool) → has_nested (roll-Stmt l) inside ≡ by_layer l inside
rolled (Stmt-F.Simple xs) inside = search (rules, stmt.the_lemmas)
rolled (Stmt-F.If bs zs) inside = search (rules, stmt.the_lemmas)
rolled (Stmt-F.For v x xs) inside = search (rules, stmt.the_lemmas)
rolled (Stmt-F.Def n ps xs) inside = search (rules, stmt.the_lemmas)

whole : (x : Stmt) → roll-Stmt (out-Stmt x) ≡ x
whole x = search (rules, stmt.the_lemmas)

opened : (x : Stmt) (inside : Bool) → has_nested x inside ≡ by_layer (out-Stmt x) inside
opened x inside = ap (λ z. has_nested z inside) (sym (whole x)) ∙ rolled (out-Stmt x) inside

layered : (x : Stmt) (l : Stmt-F Stmt Branch) (inside : Bool) → out-Stmt x ≡ l → has_nested x inside ≡ by_layer l inside
layered x l inside e = opened x inside ∙ ap (λ m. by_layer m inside) e

branch_rolled : (l : BranchLayer) (inside : Bool) → branch_has_nested (roll-Branch l) inside ≡ list_any (λ f. f inside) (map has_nested l.block)
branch_rolled l inside = search (rules, stmt.the_lemmas)

either_same : (a b c d : Bool) → a ≡ b → c ≡ d → (a || c) ≡ (b || d)
either_same a b c d e f = ap (λ z. z || c) e ∙ ap (λ z. b || z) f

-- ---- a layer of the grammar

row_same : {A : Type 0} (X : Phrase A) (g : A → Bool) (h : A → Bool → Bool) (inside : Bool) → ((ts rest : List Lexeme) (x : A) → X ts rest x → g x ≡ h x inside)
    → (ts rest : List Lexeme) (xs : List A) → Repeat X ts rest xs → list_any g xs ≡ list_any (λ f. f inside) (map h xs)
row_same X g h inside each ts rest xs P.over = refl
row_same X g h inside each ts rest xs (P.again {mid = mid} {x = y} {xs = ys} p q) =
    either_same (g y) (h y inside) (list_any g ys) (list_any (λ f. f inside) (map h ys)) (each ts mid y p) (row_same X g h inside each mid rest ys q)

module _ (depth : ℕ) (X : Phrase Stmt) (inner : Bool → Stmt → Bool) (each : (inside : Bool) (ts rest : List Lexeme) (x : Stmt) → X ts rest x → inner inside x ≡ has_nested x inside)
    (plain : (inside : Bool) (x : Stmt) (xs : List SmallStmt) → out-Stmt x ≡ Stmt-F.Simple xs → inner inside x ≡ false) where
  suite_same : (inside : Bool) (ts rest : List Lexeme) (ys : List Stmt) → IsSuite depth X ts rest ys → list_any (inner inside) ys ≡ list_any (λ f. f inside) (map has_nested ys)
  suite_same inside ts rest ys (S.line {xs = xs} {y = y} p f) =
      let e = ap out-Stmt f ∙ L.out-Simple xs in
      either_same (inner inside y) (has_nested y inside) false false (plain inside y xs e ∙ sym (layered y (Stmt-F.Simple xs) inside e)) refl
  suite_same inside ts rest ys (S.block {o = o} {ts = us} {mid = mid} {x = x} {xs = xs} f g p q h) =
      either_same (inner inside x) (has_nested x inside) (list_any (inner inside) xs) (list_any (λ f. f inside) (map has_nested xs)) (each inside us mid x p)
      (row_same X (inner inside) has_nested inside (each inside) mid (o ∷ rest) xs q)

  branch_same : (inside : Bool) (ts rest : List Lexeme) (b : Branch) → IsBranch depth X ts rest b → list_any (inner inside) (out-Branch b).block ≡ branch_has_nested b inside
  branch_same inside ts rest b (S.branch {c = c} {mid = mid} x {xs = xs} p f q g) =
      ap (λ z. list_any (inner inside) z.block) (ap out-Branch g ∙ L.opened_branch (record { condition = x; block = xs })) ∙ suite_same inside mid rest xs q
      ∙ sym (ap (λ z. branch_has_nested z inside) g ∙ branch_rolled (record { condition = x; block = xs }) inside)

  elif_same : (inside : Bool) (ts rest : List Lexeme) (b : Branch) → IsElif depth X ts rest b → list_any (inner inside) (out-Branch b).block ≡ branch_has_nested b inside
  elif_same inside ts rest b (S.elif {ts = us} f p) = branch_same inside us rest b p

  else_same : (inside : Bool) (ts rest : List Lexeme) (zs : List Stmt) → IsElse depth X ts rest zs → list_any (inner inside) zs ≡ list_any (λ f. f inside) (map has_nested zs)
  else_same inside ts rest zs S.no_else = refl
  else_same inside ts rest zs (S.an_else {ts = us} f g p) = suite_same inside us rest zs p

  stmt_same : (inside : Bool) (ts rest : List Lexeme) (x : Stmt) → IsStmtOver depth X ts rest x → nested_in inner inside (out-Stmt x) ≡ has_nested x inside
  stmt_same inside ts rest x (S.simple {xs = xs} p f) =
      let e = ap out-Stmt f ∙ L.out-Simple xs in ap (nested_in inner inside) e ∙ sym (layered x (Stmt-F.Simple xs) inside e)
  stmt_same inside ts rest x (S.if_stmt {ts = us} {mid = mid} {us = vs} {x = b} {xs = bs} {zs = zs} f p q r g) =
      let e = ap out-Stmt g ∙ L.out-stmt_If (b ∷ bs) zs in
      ap (nested_in inner inside) e
      ∙ either_same (list_any (λ c. list_any (inner inside) (out-Branch c).block) (b ∷ bs)) (list_any (λ f. f inside) (map branch_has_nested (b ∷ bs))) (list_any (inner inside) zs) (list_any (λ f. f inside) (map has_nested zs))
      (either_same (list_any (inner inside) (out-Branch b).block) (branch_has_nested b inside) (list_any (λ c. list_any (inner inside) (out-Branch c).block) bs) (list_any (λ f. f inside) (map branch_has_nested bs))
      (branch_same inside us mid b p) (row_same (IsElif depth X) (λ c. list_any (inner inside) (out-Branch c).block) branch_has_nested inside (elif_same inside) mid vs bs q))
      (else_same inside vs rest zs r)
      ∙ sym (layered x (Stmt-F.If (b ∷ bs) zs) inside e)
  stmt_same inside ts rest x (S.for_stmt {us = vs} v y {xs = xs} f p g q h r j) =
      let e = ap out-Stmt j ∙ L.out-stmt_For v y xs in ap (nested_in inner inside) e ∙ suite_same inside vs rest xs r ∙ sym (layered x (Stmt-F.For v y xs) inside e)
  stmt_same inside ts rest x (S.def_stmt {n = n} {mid = mid} ps {xs = xs} f g h p i r j) =
      let e = ap out-Stmt j ∙ L.out-stmt_Def (identifier n) ps xs in
      ap (nested_in inner inside) e ∙ ap (λ z. inside || z) (suite_same true mid rest xs r) ∙ sym (layered x (Stmt-F.Def (identifier n) ps xs) inside e)

plain_def : (depth : ℕ) (inside : Bool) (x : Stmt) (xs : List SmallStmt) → out-Stmt x ≡ Stmt-F.Simple xs → nested_def depth inside x ≡ false
plain_def zero inside x xs e = ap (nested_in (λ i y. false) inside) e
plain_def (suc depth) inside x xs e = ap (nested_in (nested_def depth) inside) e

pub nested_same : (depth : ℕ) (inside : Bool) (ts rest : List Lexeme) (x : Stmt) → IsStmt depth ts rest x → nested_def depth inside x ≡ has_nested x inside
nested_same zero inside ts rest x p = stmt_same zero none (λ i y. false) (λ i us vs y q. absurd q) (λ i y xs e. refl) inside ts rest x p
nested_same (suc depth) inside ts rest x p = stmt_same (suc depth) (IsStmt depth) (nested_def depth) (λ i us vs y q. nested_same depth i us vs y q) (plain_def depth) inside ts rest x p

pub top_nested : (depth : ℕ) (ts : List Lexeme) (x : TopLevel) → IsTopLevel depth ts x → nested_def depth false x.statement ≡ has_nested x.statement false
top_nested depth ts x (S.top_level y p f) =
    subst (λ z. nested_def depth false z.statement ≡ has_nested z.statement false) (sym f) (nested_same depth false ts [] y p)
