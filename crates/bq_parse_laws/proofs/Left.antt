-- Tokens that the language doesn't leave out are written by trees in which it leaves out nothing.
use Rattle.std.proofs.Common.{◌≡◌, ℕ, ◌+◌, ◌≤◌, Bool, true, false, ◌||◌, ◌&&◌, not, ◌⊎◌, inl, inr, List, [], ◌∷◌, map, Ok, Result, refl, sym, ap, ◌∙◌, subst, arith}
use Rattle.bq_base.specs.declared.fault.StatementFault.{StatementFault}
use Rattle.bq_source.specs.declared.token.TokenKind.{TokenKind}
use Rattle.bq_source.specs.declared.token.TokenKind.TheVariants as k
use Rattle.bq_source.specs.Token.{same_kind}
use Rattle.bq_parse_grammar.specs.Lexeme.{Lexeme}
use Rattle.bq_parse_grammar.specs.LeftOut.{calls_name, kinds, leaves_out_by, leaves_out, nested_def, is_compound, is_starred, has_starred, barred_in_build}
use Rattle.bq_parse_grammar.specs.Nesting.{max_nesting}
use Rattle.bq_parse_grammar.specs.Turns.{sees}
use Rattle.bq_parse_grammar.specs.declared.tree.FileKind.{FileKind}
use Rattle.bq_parse_grammar.specs.declared.tree.FileKind.TheVariants as file
use Rattle.bq_parse_grammar.specs.declared.tree.TopLevel.{TopLevel}
use Rattle.bq_parse_grammar.specs.Parses.{is_build}
use Rattle.bq_parse_grammar.specs.Statements.{IsTopLevel}
use Rattle.bq_parse_grammar.specs.Verdict as V
use Rattle.bq_parse_grammar.specs.Verdict.{ReadsAs, IsKept, IsBarred}
use Rattle.bq_parse_grammar.proofs.NextToken.{kind_is, is_kind}
use Rattle.bq_parse_laws.specs.Parts as parts
use Rattle.bq_parse_laws.specs.Parts.{Part, row, commas}
use Rattle.bq_parse_laws.specs.Writes as W
use Rattle.bq_parse_laws.specs.Writes.{Writes}
use Rattle.bq_parse_laws.specs.LeftOut.{sum_of, expr_count, target_count, branch_count, stmt_count, lone_native_by, lone_native}
use Rattle.bq_parse_laws.proofs.LeftParts.{token_count, maybe_count, both_count, total, Same, row_total, commas_total, expr_same, pair_holds, operation_holds, choice_holds, suffix_holds, argument_holds, clause_holds, target_holds, parameter_holds, small_holds, branch_holds, stmt_holds, tuple_count, tuple_target_count}
use Rattle.bq_parse_laws.proofs.FileWriting.{top_level_tells}

either_off : (a b : Bool) → (a || b) ≡ false → (a ≡ false) × (b ≡ false)
either_off true b h = absurd (cc)
either_off false b h = (refl, h)

-- neither left out nor, in a BUILD file, starred
pub record Clean (b : Bool) (ts : List Lexeme) : Type 0 where
  pub kept : leaves_out ts ≡ false
  pub plain : (b && has_starred (kinds ts)) ≡ false

and_tail : (b x y : Bool) → (b && (x || y)) ≡ false → (b && y) ≡ false
and_tail false x y h = refl
and_tail true true y h = absurd (cc)
and_tail true false y h = h

and_head : (b x y : Bool) → (b && (x || y)) ≡ false → (b && x) ≡ false
and_head false x y h = refl
and_head true true y h = absurd (cc)
and_head true false y h = refl

clean_tail : (b : Bool) (w : Lexeme) (ts : List Lexeme) → Clean b (w ∷ ts) → Clean b ts
clean_tail b w ts h = record {
  kept = (either_off (leaves_out_by w.kind w ts) (leaves_out ts) h.kept).1;
  plain = and_tail b (is_starred (w.kind ∷ kinds ts)) (has_starred (kinds ts)) h.plain;
}

clean_head : (b : Bool) (w : Lexeme) (ts : List Lexeme) → Clean b (w ∷ ts) → leaves_out_by w.kind w ts ≡ false
clean_head b w ts h = (either_off (leaves_out_by w.kind w ts) (leaves_out ts) h.kept).0

token_clean : (q : TokenKind) (w : Lexeme) (ts : List Lexeme) → leaves_out_by q w ts ≡ false → token_count false q ≡ 0
token_clean k.Lambda w ts h = absurd (cc)
token_clean k.Slash w ts h = absurd (cc)
token_clean k.SlashAssign w ts h = absurd (cc)
token_clean _ w ts h = refl

both_clean : (b : Bool) (q r : TokenKind) (qs : List TokenKind) → (b && is_starred (q ∷ r ∷ qs)) ≡ false → both_count b q r ≡ 0
both_clean true k.LeftParen k.Star qs h = absurd (cc)
both_clean true k.LeftParen k.StarStar qs h = absurd (cc)
both_clean true k.Comma k.Star qs h = absurd (cc)
both_clean true k.Comma k.StarStar qs h = absurd (cc)
both_clean false k.LeftParen k.Star qs h = refl
both_clean false k.LeftParen k.StarStar qs h = refl
both_clean false k.Comma k.Star qs h = refl
both_clean false k.Comma k.StarStar qs h = refl
both_clean b _ _ qs h = refl

no_paren : (q : TokenKind) (qs : List TokenKind) → same_kind q k.LeftParen ≡ false → calls_name (k.Identifier ∷ q ∷ qs) ≡ false
no_paren k.LeftParen qs h = let e : true ≡ false = sym (kind_is k.LeftParen k.LeftParen refl) ∙ h in absurd (cc)
no_paren _ qs h = refl

no_call : (w : Lexeme) (ts : List Lexeme) → w.kind ≡ k.Identifier → sees k.LeftParen ts ≡ false → calls_name (kinds (w ∷ ts)) ≡ false
no_call w [] f h = ap (λ q. calls_name (q ∷ [])) f
no_call w (t ∷ ts) f h = ap (λ q. calls_name (q ∷ t.kind ∷ kinds ts)) f ∙ no_paren t.kind (kinds ts) h

attribute_bad : (v w : Lexeme) (ts : List Lexeme) → v.kind ≡ k.Dot → w.kind ≡ k.Identifier → sees k.LeftParen ts ≡ false → leaves_out_by v.kind v (w ∷ ts) ≡ false → ⊥
attribute_bad v w ts f g h c =
    let e : not (calls_name (kinds (w ∷ ts))) ≡ false = sym (ap (λ q. leaves_out_by q v (w ∷ ts)) f) ∙ c in
    let d : true ≡ false = sym (ap not (no_call w ts g h)) ∙ e in
    absurd (cc)

-- ---- what is left out by tokens that are not

none_of : (m n : ℕ) → Same m n → m ≡ 0 → n ≡ 0
none_of m n (inl e) h = sym e ∙ h
none_of m n (inr w) h = let a = w.0 in absurd (omega arith)

maybe_none : (q : TokenKind) → maybe_count false q ≡ 0
maybe_none k.Comma = refl
maybe_none k.Colon = refl
maybe_none k.Semicolon = refl
maybe_none _ = refl

module _ (b : Bool) where
  pub left_none : (ps : List Part) (ts : List Lexeme) → Writes ps ts → Clean b ts → total b false ps ≡ 0
  left_none ps ts W.over h = refl
  left_none ps ts (W.token {q = q} {w = w} {ps = qs} {ts = us} f r) h =
      let a : token_count false q ≡ 0 = token_clean q w us (sym (ap (λ z. leaves_out_by z w us) f) ∙ clean_head b w us h) in
      let i : total b false qs ≡ 0 = left_none qs us r (clean_tail b w us h) in
      omega arith
  left_none ps ts (W.there {q = q} {ps = qs} r) h =
      let a = maybe_none q in
      let i : token_count false q + total b false qs ≡ 0 = left_none (parts.token q ∷ qs) ts r h in
      omega arith
  left_none ps ts (W.absent {q = q} {ps = qs} r) h = let a = maybe_none q in let i : total b false qs ≡ 0 = left_none qs ts r h in omega arith
  left_none ps ts (W.both {q = q} {r = s} {v = v} {w = w} {ps = qs} {ts = us} f g r) h =
      let a : both_count b q s ≡ 0 = both_clean b q s (kinds us)
      (sym (ap (λ z. b && is_starred (z ∷ w.kind ∷ kinds us)) f ∙ ap (λ z. b && is_starred (q ∷ z ∷ kinds us)) g) ∙ and_head b (is_starred (v.kind ∷ w.kind ∷ kinds us)) (has_starred (w.kind ∷ kinds us)) h.plain) in
      let c : token_count false q ≡ 0 = token_clean q v (w ∷ us) (sym (ap (λ z. leaves_out_by z v (w ∷ us)) f) ∙ clean_head b v (w ∷ us) h) in
      let d : token_count false s ≡ 0 = token_clean s w us (sym (ap (λ z. leaves_out_by z w us) g) ∙ clean_head b w us (clean_tail b v (w ∷ us) h)) in
      let i : total b false qs ≡ 0 = left_none qs us r (clean_tail b w us (clean_tail b v (w ∷ us) h)) in
      omega arith
  left_none ps ts (W.method {v = v} {w = w} {ps = qs} {ts = us} f g n s r) h =
      let i : total b false qs ≡ 0 = left_none qs us r (clean_tail b w us (clean_tail b v (w ∷ us) h)) in omega arith
  left_none ps ts (W.attribute {v = v} {w = w} {ts = us} f g n s r) h = absurd (attribute_bad v w us f g s (clean_head b v (w ∷ us) h))
  left_none ps ts (W.word {w = w} {ps = qs} {ts = us} f g r) h = let i : total b false qs ≡ 0 = left_none qs us r (clean_tail b w us h) in omega arith
  left_none ps ts (W.spelled {w = w} {ps = qs} {ts = us} f g r) h = let i : total b false qs ≡ 0 = left_none qs us r (clean_tail b w us h) in omega arith
  left_none ps ts (W.number {w = w} {ps = qs} {ts = us} f g r) h = let i : total b false qs ≡ 0 = left_none qs us r (clean_tail b w us h) in omega arith
  left_none ps ts (W.text {w = w} {ps = qs} {ts = us} f g r) h = let i : total b false qs ≡ 0 = left_none qs us r (clean_tail b w us h) in omega arith
  left_none ps ts W.anything h = omega arith
  left_none ps ts (W.expr {x = x} {ps = qs} r) h = none_of _ _ (expr_same b false x qs) (left_none _ ts r h)
  left_none ps ts (W.in_parentheses {x = x} {ps = qs} r) h =
      let i : 0 + (expr_count b x + (0 + total b false qs)) ≡ 0 = left_none (parts.token k.LeftParen ∷ parts.expr x ∷ parts.token k.RightParen ∷ qs) ts r h in omega arith
  left_none ps ts (W.whole_expr {x = x} {ps = qs} r) h = left_none (parts.expr x ∷ qs) ts r h
  left_none ps ts (W.open_tuple {z = z} x y xs {ps = qs} f r) h =
      let i : expr_count b x + total b false (commas parts.expr (y ∷ xs) qs) ≡ 0 = left_none (parts.expr x ∷ commas parts.expr (y ∷ xs) qs) ts r h in
      let e = commas_total b false parts.expr (expr_count b) (λ x. refl) (y ∷ xs) qs in
      let d = ap (expr_count b) f ∙ tuple_count b false (x ∷ y ∷ xs) in
      omega arith
  left_none ps ts (W.pair {x = x} {ps = qs} r) h = sym (pair_holds b false x qs) ∙ left_none _ ts r h
  left_none ps ts (W.operation {x = x} {ps = qs} r) h = sym (operation_holds b false x qs) ∙ left_none _ ts r h
  left_none ps ts (W.choice {x = x} {ps = qs} r) h = sym (choice_holds b false x qs) ∙ left_none _ ts r h
  left_none ps ts (W.suffix {x = x} {ps = qs} r) h = sym (suffix_holds b false x qs) ∙ left_none _ ts r h
  left_none ps ts (W.argument {first = a} {x = x} {ps = qs} r) h = sym (argument_holds b false a x qs) ∙ left_none _ ts r h
  left_none ps ts (W.clause {x = x} {ps = qs} r) h = sym (clause_holds b false x qs) ∙ left_none _ ts r h
  left_none ps ts (W.target {x = x} {ps = qs} r) h = sym (target_holds b false x qs) ∙ left_none _ ts r h
  left_none ps ts (W.target_in_parentheses {x = x} {ps = qs} r) h =
      let i : 0 + (target_count b x + (0 + total b false qs)) ≡ 0 = left_none (parts.token k.LeftParen ∷ parts.target x ∷ parts.token k.RightParen ∷ qs) ts r h in omega arith
  left_none ps ts (W.whole_target {x = x} {ps = qs} r) h = left_none (parts.target x ∷ qs) ts r h
  left_none ps ts (W.open_targets {z = z} x y xs {ps = qs} f r) h =
      let i : target_count b x + total b false (commas parts.target (y ∷ xs) qs) ≡ 0 = left_none (parts.target x ∷ commas parts.target (y ∷ xs) qs) ts r h in
      let e = commas_total b false parts.target (target_count b) (λ x. refl) (y ∷ xs) qs in
      let d = ap (target_count b) f ∙ tuple_target_count b false (x ∷ y ∷ xs) in
      omega arith
  left_none ps ts (W.parameter {x = x} {ps = qs} r) h = sym (parameter_holds b false x qs) ∙ left_none _ ts r h
  left_none ps ts (W.same_name {w = w} {ps = qs} {ts = us} f g e r) h = let i : total b false qs ≡ 0 = left_none qs us r (clean_tail b w us h) in omega arith
  left_none ps ts (W.renamed {x = x} {ps = qs} r) h =
      let i : 0 + (0 + (0 + total b false qs)) ≡ 0 = left_none (parts.word x.local ∷ parts.token k.Assign ∷ parts.text x.symbol ∷ qs) ts r h in omega arith
  left_none ps ts (W.small_stmt {x = x} {ps = qs} e r) h = sym (small_holds b false x.kind qs) ∙ left_none _ ts r h
  left_none ps ts (W.branch {x = x} {ps = qs} r) h = sym (branch_holds b false x qs) ∙ left_none _ ts r h
  left_none ps ts (W.elif {x = x} {ps = qs} r) h = let i : 0 + total b false (parts.branch x ∷ qs) ≡ 0 = left_none (parts.token k.Elif ∷ parts.branch x ∷ qs) ts r h in omega arith
  left_none ps ts (W.suite {xs = xs} {ps = qs} r) h =
      let i : 0 + (0 + total b false (row parts.stmt xs (parts.token k.Outdent ∷ qs))) ≡ 0 = left_none (parts.token k.Newline ∷ parts.token k.Indent ∷ row parts.stmt xs (parts.token k.Outdent ∷ qs)) ts r h in
      let e = row_total b false parts.stmt (stmt_count b) (λ x. refl) xs (parts.token k.Outdent ∷ qs) in
      omega arith
  left_none ps ts (W.on_the_line {x = x} xs {ps = qs} f r) h = let i : stmt_count b x + total b false qs ≡ 0 = left_none (parts.stmt x ∷ qs) ts r h in omega arith
  left_none ps ts (W.stmt {x = x} {ps = qs} r) h = sym (stmt_holds b false x qs) ∙ left_none _ ts r h

-- ---- what is left out by tokens that are

told_token : (q : TokenKind) (w : Lexeme) (ts : List Lexeme) → leaves_out_by q w ts ≡ true → (token_count true q ≡ 1) ⊎ (lone_native_by q w ts ≡ true)
told_token k.Lambda w ts h = inl refl
told_token k.Slash w ts h = inl refl
told_token k.SlashAssign w ts h = inl refl
told_token k.Dot w ts h = inl refl
told_token k.Identifier w ts h = inr h
told_token _ w ts h = absurd (cc)

-- the parts hold what is left out, or the name `native` stands alone
abbrev Told : ℕ → List Lexeme → Type 0
Told n ts = (1 ≤ n) ⊎ (lone_native ts ≡ true)

more_told : (m n : ℕ) (ts : List Lexeme) → m ≤ n → Told m ts → Told n ts
more_told m n ts h (inl a) = inl (omega arith)
more_told m n ts h (inr c) = inr c

same_told : (m n : ℕ) (ts : List Lexeme) → m ≡ n → Told m ts → Told n ts
same_told m n ts e t = more_told m n ts (omega arith) t

of_same : (m n : ℕ) (ts : List Lexeme) → Same m n → Told m ts → Told n ts
of_same m n ts (inl e) t = same_told m n ts e t
of_same m n ts (inr w) t = inl w.1

one_on : (a b : Bool) → (a || b) ≡ true → (a ≡ true) ⊎ (b ≡ true)
one_on true b h = inl refl
one_on false b h = inr h

first_on : (a b : Bool) → a ≡ true → (a || b) ≡ true
first_on a b h = ap (λ c. c || b) h

later_on : (a b : Bool) → b ≡ true → (a || b) ≡ true
later_on true b h = refl
later_on false b h = h

maybe_told : (q : TokenKind) → (maybe_count true q ≡ 1) ⊎ (token_count true q ≡ 0)
maybe_told k.Comma = inr refl
maybe_told k.Colon = inr refl
maybe_told k.Semicolon = inr refl
maybe_told _ = inl refl

maybe_step : (q : TokenKind) (n : ℕ) (ts : List Lexeme) → (maybe_count true q ≡ 1) ⊎ (token_count true q ≡ 0) → Told (token_count true q + n) ts → Told (maybe_count true q + n) ts
maybe_step q n ts (inl e) t = inl (omega arith)
maybe_step q n ts (inr e) t = more_told (token_count true q + n) (maybe_count true q + n) ts (omega arith) t

-- one token, and what those after it tell
one_told : (q : TokenKind) (n : ℕ) (w : Lexeme) (ts : List Lexeme) → w.kind ≡ q → leaves_out (w ∷ ts) ≡ true → (leaves_out ts ≡ true → Told n ts) → Told (token_count true q + n) (w ∷ ts)
one_told q n w ts f h later = go (one_on (leaves_out_by w.kind w ts) (leaves_out ts) h)
  where
    here : (token_count true w.kind ≡ 1) ⊎ (lone_native_by w.kind w ts ≡ true) → Told (token_count true q + n) (w ∷ ts)
    here (inl e) = let d = sym (ap (token_count true) f) ∙ e in inl (omega arith)
    here (inr e) = inr (first_on (lone_native_by w.kind w ts) (lone_native ts) e)

    after : Told n ts → Told (token_count true q + n) (w ∷ ts)
    after (inl a) = inl (omega arith)
    after (inr e) = inr (later_on (lone_native_by w.kind w ts) (lone_native ts) e)

    go : (leaves_out_by w.kind w ts ≡ true) ⊎ (leaves_out ts ≡ true) → Told (token_count true q + n) (w ∷ ts)
    go (inl a) = here (told_token w.kind w ts a)
    go (inr a) = after (later a)

paren_after : (q : TokenKind) (qs : List TokenKind) → same_kind q k.LeftParen ≡ true → calls_name (k.Identifier ∷ q ∷ qs) ≡ true
paren_after q qs h = ap (λ z. calls_name (k.Identifier ∷ z ∷ qs)) (is_kind q k.LeftParen h)

called : (w : Lexeme) (ts : List Lexeme) → w.kind ≡ k.Identifier → sees k.LeftParen ts ≡ true → calls_name (kinds (w ∷ ts)) ≡ true
called w [] f h = absurd (cc)
called w (t ∷ ts) f h = ap (λ q. calls_name (q ∷ t.kind ∷ kinds ts)) f ∙ paren_after t.kind (kinds ts) h

-- a dot before a name and `(` tells nothing
method_told : (n : ℕ) (v w : Lexeme) (ts : List Lexeme) → v.kind ≡ k.Dot → w.kind ≡ k.Identifier → sees k.LeftParen ts ≡ true → leaves_out (v ∷ w ∷ ts) ≡ true
    → (leaves_out ts ≡ true → Told n ts) → Told n (v ∷ w ∷ ts)
method_told n v w ts f g s h later = go (one_on (leaves_out_by v.kind v (w ∷ ts)) (leaves_out (w ∷ ts)) h)
  where
    after : Told (0 + n) (w ∷ ts) → Told n (v ∷ w ∷ ts)
    after (inl a) = inl (omega arith)
    after (inr e) = inr (later_on (lone_native_by v.kind v (w ∷ ts)) (lone_native (w ∷ ts)) e)

    go : (leaves_out_by v.kind v (w ∷ ts) ≡ true) ⊎ (leaves_out (w ∷ ts) ≡ true) → Told n (v ∷ w ∷ ts)
    go (inl a) = let d : false ≡ true = sym (ap not (called w ts g s)) ∙ sym (ap (λ q. leaves_out_by q v (w ∷ ts)) f) ∙ a in absurd (cc)
    go (inr a) = after (one_told k.Identifier n w ts g a later)

module _ (b : Bool) where
  pub left_told : (ps : List Part) (ts : List Lexeme) → Writes ps ts → leaves_out ts ≡ true → Told (total b true ps) ts
  left_told ps ts W.over h = absurd (cc)
  left_told ps ts (W.token {q = q} {w = w} {ps = qs} {ts = us} f r) h = one_told q (total b true qs) w us f h (left_told qs us r)
  left_told ps ts (W.there {q = q} {ps = qs} r) h = maybe_step q (total b true qs) ts (maybe_told q) (left_told (parts.token q ∷ qs) ts r h)
  left_told ps ts (W.absent {q = q} {ps = qs} r) h = more_told (total b true qs) (maybe_count true q + total b true qs) ts (omega arith) (left_told qs ts r h)
  left_told ps ts (W.both {q = q} {r = s} {v = v} {w = w} {ps = qs} {ts = us} f g r) h =
      more_told (token_count true q + (token_count true s + total b true qs)) (both_count b q s + (token_count true q + token_count true s) + total b true qs) ts (omega arith)
      (one_told q (token_count true s + total b true qs) v (w ∷ us) f h (λ d. one_told s (total b true qs) w us g d (left_told qs us r)))
  left_told ps ts (W.method {v = v} {w = w} {ps = qs} {ts = us} f g n s r) h =
      more_told (total b true qs) (0 + total b true qs) ts (omega arith) (method_told (total b true qs) v w us f g s h (left_told qs us r))
  left_told ps ts (W.attribute f g n s r) h = inl (omega arith)
  left_told ps ts (W.word {w = w} {ps = qs} {ts = us} f g r) h = one_told k.Identifier (total b true qs) w us f h (left_told qs us r)
  left_told ps ts (W.spelled {w = w} {ps = qs} {ts = us} f g r) h = one_told k.Identifier (total b true qs) w us f h (left_told qs us r)
  left_told ps ts (W.number {w = w} {ps = qs} {ts = us} f g r) h = one_told k.Int (total b true qs) w us f h (left_told qs us r)
  left_told ps ts (W.text {w = w} {ps = qs} {ts = us} f g r) h = one_told k.String (total b true qs) w us f h (left_told qs us r)
  left_told ps ts W.anything h = inl (omega arith)
  left_told ps ts (W.expr {x = x} {ps = qs} r) h = of_same _ _ ts (expr_same b true x qs) (left_told _ ts r h)
  left_told ps ts (W.in_parentheses {x = x} {ps = qs} r) h =
      same_told (0 + (expr_count b x + (0 + total b true qs))) (expr_count b x + total b true qs) ts (omega arith) (left_told (parts.token k.LeftParen ∷ parts.expr x ∷ parts.token k.RightParen ∷ qs) ts r h)
  left_told ps ts (W.whole_expr {x = x} {ps = qs} r) h = left_told (parts.expr x ∷ qs) ts r h
  left_told ps ts (W.open_tuple {z = z} x y xs {ps = qs} f r) h =
      let e = commas_total b true parts.expr (expr_count b) (λ x. refl) (y ∷ xs) qs in
      let d = ap (expr_count b) f ∙ tuple_count b true (x ∷ y ∷ xs) in
      same_told (expr_count b x + total b true (commas parts.expr (y ∷ xs) qs)) (expr_count b z + total b true qs) ts (omega arith) (left_told (parts.expr x ∷ commas parts.expr (y ∷ xs) qs) ts r h)
  left_told ps ts (W.pair {x = x} {ps = qs} r) h = same_told _ _ ts (pair_holds b true x qs) (left_told _ ts r h)
  left_told ps ts (W.operation {x = x} {ps = qs} r) h = same_told _ _ ts (operation_holds b true x qs) (left_told _ ts r h)
  left_told ps ts (W.choice {x = x} {ps = qs} r) h = same_told _ _ ts (choice_holds b true x qs) (left_told _ ts r h)
  left_told ps ts (W.suffix {x = x} {ps = qs} r) h = same_told _ _ ts (suffix_holds b true x qs) (left_told _ ts r h)
  left_told ps ts (W.argument {first = a} {x = x} {ps = qs} r) h = same_told _ _ ts (argument_holds b true a x qs) (left_told _ ts r h)
  left_told ps ts (W.clause {x = x} {ps = qs} r) h = same_told _ _ ts (clause_holds b true x qs) (left_told _ ts r h)
  left_told ps ts (W.target {x = x} {ps = qs} r) h = same_told _ _ ts (target_holds b true x qs) (left_told _ ts r h)
  left_told ps ts (W.target_in_parentheses {x = x} {ps = qs} r) h =
      same_told (0 + (target_count b x + (0 + total b true qs))) (target_count b x + total b true qs) ts (omega arith) (left_told (parts.token k.LeftParen ∷ parts.target x ∷ parts.token k.RightParen ∷ qs) ts r h)
  left_told ps ts (W.whole_target {x = x} {ps = qs} r) h = left_told (parts.target x ∷ qs) ts r h
  left_told ps ts (W.open_targets {z = z} x y xs {ps = qs} f r) h =
      let e = commas_total b true parts.target (target_count b) (λ x. refl) (y ∷ xs) qs in
      let d = ap (target_count b) f ∙ tuple_target_count b true (x ∷ y ∷ xs) in
      same_told (target_count b x + total b true (commas parts.target (y ∷ xs) qs)) (target_count b z + total b true qs) ts (omega arith) (left_told (parts.target x ∷ commas parts.target (y ∷ xs) qs) ts r h)
  left_told ps ts (W.parameter {x = x} {ps = qs} r) h = same_told _ _ ts (parameter_holds b true x qs) (left_told _ ts r h)
  left_told ps ts (W.same_name {w = w} {ps = qs} {ts = us} f g e r) h = one_told k.String (total b true qs) w us f h (left_told qs us r)
  left_told ps ts (W.renamed {x = x} {ps = qs} r) h =
      same_told (0 + (0 + (0 + total b true qs))) (0 + total b true qs) ts (omega arith) (left_told (parts.word x.local ∷ parts.token k.Assign ∷ parts.text x.symbol ∷ qs) ts r h)
  left_told ps ts (W.small_stmt {x = x} {ps = qs} e r) h = same_told _ _ ts (small_holds b true x.kind qs) (left_told _ ts r h)
  left_told ps ts (W.branch {x = x} {ps = qs} r) h = same_told _ _ ts (branch_holds b true x qs) (left_told _ ts r h)
  left_told ps ts (W.elif {x = x} {ps = qs} r) h =
      same_told (0 + (branch_count b x + total b true qs)) (branch_count b x + total b true qs) ts (omega arith) (left_told (parts.token k.Elif ∷ parts.branch x ∷ qs) ts r h)
  left_told ps ts (W.suite {xs = xs} {ps = qs} r) h =
      let e = row_total b true parts.stmt (stmt_count b) (λ x. refl) xs (parts.token k.Outdent ∷ qs) in
      same_told (0 + (0 + total b true (row parts.stmt xs (parts.token k.Outdent ∷ qs)))) (sum_of (map (stmt_count b) xs) + total b true qs) ts (omega arith)
      (left_told (parts.token k.Newline ∷ parts.token k.Indent ∷ row parts.stmt xs (parts.token k.Outdent ∷ qs)) ts r h)
  left_told ps ts (W.on_the_line {x = x} xs {ps = qs} f r) h =
      same_told (stmt_count b x + total b true qs) (stmt_count b x + 0 + total b true qs) ts (omega arith) (left_told (parts.stmt x ∷ qs) ts r h)
  left_told ps ts (W.stmt {x = x} {ps = qs} r) h = same_told _ _ ts (stmt_holds b true x qs) (left_told _ ts r h)

pub told : (depth : ℕ) (ts : List Lexeme) (x : TopLevel) → IsTopLevel depth ts x → leaves_out ts ≡ true → (1 ≤ stmt_count false x.statement) ⊎ (lone_native ts ≡ true)
told depth ts x p h = more_told (stmt_count false x.statement + 0) (stmt_count false x.statement) ts (omega arith)
    (left_told false (parts.stmt x.statement ∷ []) ts (top_level_tells depth ts x p).1 h)

-- ---- what reads as a statement

clean_of : (kind : FileKind) (ts : List Lexeme) (x : TopLevel) → IsKept ts x → (IsBarred kind ts → ⊥) → Clean (is_build kind) ts
clean_of kind ts x f g = record { kept = (either_off (leaves_out ts) (nested_def max_nesting false x.statement) f).0; plain = starless kind g }
  where
    off : (c : Bool) → (c ≡ true → ⊥) → c ≡ false
    off true n = absurd (n refl)
    off false n = refl

    starless : (kind : FileKind) → (IsBarred kind ts → ⊥) → (is_build kind && has_starred (kinds ts)) ≡ false
    starless file.Build n = (either_off (is_compound (kinds ts)) (has_starred (kinds ts)) (off (barred_in_build ts) (λ e. n (refl, e)))).1
    starless file.Bzl n = refl

pub none_left : (kind : FileKind) (ts : List Lexeme) (x : TopLevel) (r : Result TopLevel StatementFault) → r ≡ Ok x → ReadsAs kind ts r
    → (stmt_count (is_build kind) x.statement ≡ 0) × (nested_def max_nesting false x.statement ≡ false)
none_left kind ts x r e (V.too_deep f) = absurd (cc)
none_left kind ts x r e (V.no_tree f g) = absurd (cc)
none_left kind ts x r e (V.left_out f g h) = absurd (cc)
none_left kind ts x r e (V.not_in_build f g h i) = absurd (cc)
none_left kind ts x r e (V.read {x = y} f g h i) =
    let same : y ≡ x = cc in
    subst (λ z. (stmt_count (is_build kind) z.statement ≡ 0) × (nested_def max_nesting false z.statement ≡ false)) same
    (counted (left_none (is_build kind) (parts.stmt y.statement ∷ []) ts (top_level_tells max_nesting ts y g).1 (clean_of kind ts y h i)), (either_off (leaves_out ts) (nested_def max_nesting false y.statement) h).1)
  where
    counted : {m : ℕ} → m + 0 ≡ 0 → m ≡ 0
    counted {m} i = omega arith
