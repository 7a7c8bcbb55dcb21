-- By induction on what is written: the faults of each part name lines, where its tokens have lines.
use Rattle.std.proofs.Common.{◌≡◌, ◌≤◌, List, ◌∷◌, refl, sym, subst}
use Rattle.std.specs.List.{AllByRecursion}
use Rattle.bq_source.specs.declared.token.TokenKind.{TokenKind}
use Rattle.bq_source.specs.declared.token.TokenKind.TheVariants as k
use Rattle.bq_parse_grammar.specs.Lexeme.{Lexeme}
use Rattle.bq_parse_grammar.specs.Literals.{identifier, name_line}
use Rattle.bq_parse_grammar.specs.Statements.{line_of}
use Rattle.bq_parse_grammar.specs.declared.tree.Identifier.{Identifier}
use Rattle.bq_parse_laws.specs.Parts as parts
use Rattle.bq_parse_laws.specs.Parts.{Part, row, commas, small_parts}
use Rattle.bq_parse_laws.specs.Writes as W
use Rattle.bq_parse_laws.specs.Writes.{Writes}
use Rattle.bq_resolve_scope.specs.Scope.{FileParts}
use Rattle.bq_load_laws.proofs.Pieces.{Stands}
use Rattle.bq_load_laws.proofs.Names.Parts.{TokenFine, AllFine, ExprFine, TargetFine, StmtFine, row_fine, commas_fine}
use Rattle.bq_load_laws.proofs.Names.Expressions.{expr_told, tuple_fine, pair_told, operation_told, choice_told, suffix_told, argument_told, clause_told, target_told, targets_fine}
use Rattle.bq_load_laws.proofs.Names.Statements.{BeginsWithToken, parameter_told, small_told, branch_told, stmt_told}

abbrev pub AllStand : List Lexeme → Type 0
AllStand ts = AllByRecursion Stands ts

-- what begins with a token has its line
begun_line : (ps : List Part) (ts : List Lexeme) → Writes ps ts → BeginsWithToken ps → AllStand ts → 1 ≤ line_of ts
begun_line ps ts (W.token f r) b h = h.0.0
begun_line ps ts _ b h = absurd b

token_fine : (q : TokenKind) → (q ≡ k.Lambda → ⊥) → TokenFine q
token_fine k.Lambda n = absurd (n refl)
token_fine _ n = tt

token_stands : (q : TokenKind) (w : Lexeme) → w.kind ≡ q → Stands w → TokenFine q
token_stands q w e h = subst TokenFine e (token_fine w.kind h.1)

named_line : (n : Identifier) (w : Lexeme) → n ≡ identifier w → Stands w → 1 ≤ name_line n
named_line n w e h = let P : Identifier → Type 0 = λ m. 1 ≤ name_line m in subst P (sym e) h.0

module _ (file : FileParts) where
  pub written_fine : (ps : List Part) (ts : List Lexeme) → Writes ps ts → AllStand ts → AllFine file ps
  written_fine ps ts W.over h = tt
  written_fine ps ts (W.token {q = q} {w = w} {ps = qs} {ts = us} f r) h = (token_stands q w f h.0, written_fine qs us r h.1)
  written_fine ps ts (W.there {q = q} {ps = qs} r) h = (tt, (written_fine (parts.token q ∷ qs) ts r h).1)
  written_fine ps ts (W.absent {ps = qs} r) h = (tt, written_fine qs ts r h)
  written_fine ps ts (W.both {ps = qs} {ts = us} f g r) h = (tt, written_fine qs us r h.1.1)
  written_fine ps ts (W.method {n = n} {w = w} {ps = qs} {ts = us} f g e s r) h = (named_line n w e h.1.0, written_fine qs us r h.1.1)
  written_fine ps ts (W.attribute {ps = qs} {ts = us} f g e s r) h = (tt, written_fine qs us r h.1.1)
  written_fine ps ts (W.word {n = n} {w = w} {ps = qs} {ts = us} f e r) h = (named_line n w e h.0, written_fine qs us r h.1)
  written_fine ps ts (W.spelled {ps = qs} {ts = us} f g r) h = (tt, written_fine qs us r h.1)
  written_fine ps ts (W.number {ps = qs} {ts = us} f g r) h = (tt, written_fine qs us r h.1)
  written_fine ps ts (W.text {ps = qs} {ts = us} f g r) h = (tt, written_fine qs us r h.1)
  written_fine ps ts W.anything h = (tt, tt)
  written_fine ps ts (W.expr {x = x} {ps = qs} r) h = expr_told file x qs (written_fine _ ts r h)
  written_fine ps ts (W.in_parentheses {x = x} {ps = qs} r) h =
      let i = written_fine (parts.token k.LeftParen ∷ parts.expr x ∷ parts.token k.RightParen ∷ qs) ts r h in (i.1.0, i.1.1.1)
  written_fine ps ts (W.whole_expr {x = x} {ps = qs} r) h = written_fine (parts.expr x ∷ qs) ts r h
  written_fine ps ts (W.open_tuple {z = z} x y xs {ps = qs} e r) h =
      let i = written_fine (parts.expr x ∷ commas parts.expr (y ∷ xs) qs) ts r h in
      let j = commas_fine file parts.expr (ExprFine file) (λ x g. g) (y ∷ xs) qs i.1 in
      (tuple_fine file z (x ∷ y ∷ xs) e (i.0, j.0), j.1)
  written_fine ps ts (W.pair {x = x} {ps = qs} r) h = pair_told file x qs (written_fine _ ts r h)
  written_fine ps ts (W.operation {x = x} {ps = qs} r) h = operation_told file x qs (written_fine _ ts r h)
  written_fine ps ts (W.choice {x = x} {ps = qs} r) h = choice_told file x qs (written_fine _ ts r h)
  written_fine ps ts (W.suffix {x = x} {ps = qs} r) h = suffix_told file x qs (written_fine _ ts r h)
  written_fine ps ts (W.argument {first = a} {x = x} {ps = qs} r) h = argument_told file a x qs (written_fine _ ts r h)
  written_fine ps ts (W.clause {x = x} {ps = qs} r) h = clause_told file x qs (written_fine _ ts r h)
  written_fine ps ts (W.target {x = x} {ps = qs} r) h = target_told file x qs (written_fine _ ts r h)
  written_fine ps ts (W.target_in_parentheses {x = x} {ps = qs} r) h =
      let i = written_fine (parts.token k.LeftParen ∷ parts.target x ∷ parts.token k.RightParen ∷ qs) ts r h in (i.1.0, i.1.1.1)
  written_fine ps ts (W.whole_target {x = x} {ps = qs} r) h = written_fine (parts.target x ∷ qs) ts r h
  written_fine ps ts (W.open_targets {z = z} x y xs {ps = qs} e r) h =
      let i = written_fine (parts.target x ∷ commas parts.target (y ∷ xs) qs) ts r h in
      let j = commas_fine file parts.target (TargetFine file) (λ x g. g) (y ∷ xs) qs i.1 in
      (targets_fine file z (x ∷ y ∷ xs) e (i.0, j.0), j.1)
  written_fine ps ts (W.parameter {x = x} {ps = qs} r) h = parameter_told file x qs (written_fine _ ts r h)
  written_fine ps ts (W.same_name {x = x} {ps = qs} {ts = us} f g e r) h = (subst (λ z. 1 ≤ name_line z.local) (sym e) h.0.0, written_fine qs us r h.1)
  written_fine ps ts (W.renamed {x = x} {ps = qs} r) h =
      let i = written_fine (parts.word x.local ∷ parts.token k.Assign ∷ parts.text x.symbol ∷ qs) ts r h in (i.0, i.1.1.1)
  written_fine ps ts (W.small_stmt {x = x} {ps = qs} e r) h =
      small_told file x.kind x.line qs (λ b. subst (λ n. 1 ≤ n) (sym e) (begun_line (small_parts x.kind qs) ts r b h)) (written_fine _ ts r h)
  written_fine ps ts (W.branch {x = x} {ps = qs} r) h = branch_told file x qs (written_fine _ ts r h)
  written_fine ps ts (W.elif {x = x} {ps = qs} r) h = (written_fine (parts.token k.Elif ∷ parts.branch x ∷ qs) ts r h).1
  written_fine ps ts (W.suite {xs = xs} {ps = qs} r) h =
      let i = written_fine (parts.token k.Newline ∷ parts.token k.Indent ∷ row parts.stmt xs (parts.token k.Outdent ∷ qs)) ts r h in
      let j = row_fine file parts.stmt (StmtFine file) (λ x g. g) xs (parts.token k.Outdent ∷ qs) i.1.1 in
      (j.0, j.1.1)
  written_fine ps ts (W.on_the_line {x = x} xs {ps = qs} f r) h = let i = written_fine (parts.stmt x ∷ qs) ts r h in ((i.0, tt), i.1)
  written_fine ps ts (W.stmt {x = x} {ps = qs} r) h = stmt_told file x qs (written_fine _ ts r h)
