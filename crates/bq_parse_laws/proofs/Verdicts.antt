-- What a top-level statement and a file read as, in just one way.
use Rattle.std.proofs.Common.{◌≡◌, ℕ, suc, ◌⊎◌, inl, inr, Bool, true, false, ◌&&◌, ◌||◌, cond, leb, List, [], ◌∷◌, Result, Ok, Err, refl, sym, ap, ◌∙◌, subst}
use Rattle.std.proofs.lemmas.Bool.{leb-true, le-leb}
use Rattle.bq_base.specs.declared.fault.Fault.{Fault}
use Rattle.bq_base.specs.declared.fault.StatementFault.{StatementFault}
use Rattle.bq_base.specs.declared.fault.StatementFault.TheVariants as f
use Rattle.bq_source.specs.declared.token.TokenKind.{TokenKind}
use Rattle.bq_source.specs.declared.token.TokenKind.TheVariants as k
use Rattle.bq_parse_grammar.specs.Lexeme.{Lexeme}
use Rattle.bq_parse_grammar.specs.declared.refusal.SyntaxErr.{SyntaxErr}
use Rattle.bq_parse_grammar.specs.declared.refusal.SyntaxErr.TheVariants.{Memory, Syntax, Lambda}
use Rattle.bq_parse_grammar.specs.declared.tree.FileKind.{FileKind}
use Rattle.bq_parse_grammar.specs.declared.tree.FileKind.TheVariants as file
use Rattle.bq_parse_grammar.specs.declared.tree.Stmt.{Stmt}
use Rattle.bq_parse_grammar.specs.declared.tree.TopLevel.{TopLevel}
use Rattle.bq_parse_grammar.specs.Laws.{is_lambda, NoLambda}
use Rattle.bq_parse_grammar.specs.LeftOut.{leaves_out_by, leaves_out, nested_def, barred_in_build}
use Rattle.bq_parse_grammar.specs.Nesting.{max_nesting, open_after, nests, Nests}
use Rattle.bq_parse_grammar.specs.Statements as S
use Rattle.bq_parse_grammar.specs.Statements.{line_of, IsStmt, IsTopLevel}
use Rattle.bq_parse_grammar.specs.Turns.{Found}
use Rattle.bq_parse_grammar.specs.ReadingStatements.{statement, all_taken, top_level_by, top_level}
use Rattle.bq_parse_grammar.specs.Verdict as V
use Rattle.bq_parse_grammar.specs.Verdict.{IsKept, ReadsAs}
use Rattle.bq_parse_grammar.specs.Parses as R
use Rattle.bq_parse_grammar.specs.Parses.{ReadsAll, Parses, is_build, judged, verdict, first_and, all_read, statements_of}
use Rattle.bq_parse_grammar.specs.Pieces.{pieces}
use Rattle.bq_parse_grammar.proofs.Agrees.{Stops, Owes, Met, met, cut}
use Rattle.bq_parse_grammar.proofs.Classes.{implied}
use Rattle.bq_parse_grammar.proofs.Keeping.{Plain}
use Rattle.bq_parse_laws.specs.StatementLaws.{ends_statement, EndsStatement}
use Rattle.bq_parse_laws.proofs.Blocks.{ends_block, statement_agrees}
use Rattle.bq_parse_laws.proofs.Plain.{statement_plain}

-- ---- a top-level statement

abbrev top_of : List Lexeme → Stmt → TopLevel
top_of ts x = record { line = line_of ts; statement = x }

-- what a reading of all tokens owes the grammar
abbrev TopOwes : ℕ → List Lexeme → Result TopLevel SyntaxErr → Type 0
TopOwes depth ts (Ok x) = IsTopLevel depth ts x
TopOwes depth ts (Err Memory) = Unit {0}
TopOwes depth ts (Err Syntax) = Unit {0}
TopOwes depth ts (Err Lambda) = (x : TopLevel) × IsTopLevel depth ts x

pub top_sound : (depth : ℕ) (ts : List Lexeme) → TopOwes depth ts (top_level (suc depth) ts)
unfolding top_level
top_sound depth ts = go (statement (suc depth) ts) ((statement_agrees depth).sound ts)
  where
    taken : (x : Stmt) (rest : List Lexeme) → IsStmt depth ts rest x → TopOwes depth ts (all_taken ts x rest)
    taken x [] p = S.top_level x p refl
    taken x (u ∷ us) p = tt

    go : (r : Found Stmt) → Owes Stmt (IsStmt depth ts) r → TopOwes depth ts (top_level_by ts r)
    go (Ok z) p = taken z.0 z.1 p
    go (Err Memory) p = tt
    go (Err Syntax) p = tt
    go (Err Lambda) p = let x = p [] in (top_of ts x.0, S.top_level x.0 x.1 refl)

pub top_met : (depth : ℕ) (ts : List Lexeme) (x : TopLevel) → IsTopLevel depth ts x → (top_level (suc depth) ts ≡ Ok x) ⊎ (top_level (suc depth) ts ≡ Err Lambda)
unfolding top_level
top_met depth ts x (S.top_level y p e) = go ((statement_agrees depth).complete ts [] y p tt)
  where
    go : Met 1 ts (statement (suc depth) ts) y [] → (top_level_by ts (statement (suc depth) ts) ≡ Ok x) ⊎ (top_level_by ts (statement (suc depth) ts) ≡ Err Lambda)
    go (met a l) = inl (ap (top_level_by ts) a ∙ ap Ok (sym e))
    go (cut a) = inr (ap (top_level_by ts) a)

abbrev PlainTop : Result TopLevel SyntaxErr → Type 0
PlainTop (Err Lambda) = ⊥
PlainTop _ = Unit {0}

top_plain : (depth : ℕ) (ts : List Lexeme) → NoLambda ts → top_level depth ts ≡ Err Lambda → ⊥
unfolding top_level
top_plain depth ts h e = subst PlainTop e (go (statement depth ts) (statement_plain depth ts h))
  where
    taken : (x : Stmt) (rest : List Lexeme) → PlainTop (all_taken ts x rest)
    taken x [] = tt
    taken x (u ∷ us) = tt

    go : (r : Found Stmt) → Plain r → PlainTop (top_level_by ts r)
    go (Ok z) p = taken z.0 z.1
    go (Err Memory) p = tt
    go (Err Syntax) p = tt
    go (Err Lambda) p = p

-- ---- `lambda` among the tokens

both_off : (a b : Bool) → (a || b) ≡ false → (a ≡ false) × (b ≡ false)
both_off true b h = absurd (cc)
both_off false b h = (refl, h)

on_left : (a b : Bool) → a ≡ true → (a || b) ≡ true
on_left true b h = refl
on_left false b h = absurd (cc)

no_lambda : (ts : List Lexeme) → leaves_out ts ≡ false → NoLambda ts
no_lambda [] h = tt
no_lambda (t ∷ ts) h = let w = both_off (leaves_out_by t.kind t ts) (leaves_out ts) h in (at t.kind w.0, no_lambda ts w.1)
  where
    at : (q : TokenKind) → leaves_out_by q t ts ≡ false → is_lambda q ≡ false
    at k.Lambda g = absurd (cc)
    at _ g = refl

lambda_left_out : (depth : ℕ) (ts : List Lexeme) → top_level depth ts ≡ Err Lambda → leaves_out ts ≡ true
lambda_left_out depth ts e = go (leaves_out ts) refl
  where
    go : (b : Bool) → leaves_out ts ≡ b → leaves_out ts ≡ true
    go true h = h
    go false h = absurd (top_plain depth ts (no_lambda ts h) e)

-- ---- nesting

and_on : (a b : Bool) → (a && b) ≡ true → (a ≡ true) × (b ≡ true)
and_on true b h = (refl, h)
and_on false b h = absurd (cc)

nests_is : (n : ℕ) (ts : List Lexeme) → nests n ts ≡ true → Nests n ts
nests_is n [] h = leb-true n max_nesting h
nests_is n (t ∷ ts) h = let w = and_on (leb n max_nesting) (nests (open_after t.kind n) ts) h in (leb-true n max_nesting w.0, nests_is (open_after t.kind n) ts w.1)

is_nests : (n : ℕ) (ts : List Lexeme) → Nests n ts → nests n ts ≡ true
is_nests n [] h = le-leb n max_nesting h
is_nests n (t ∷ ts) h = ap (λ b. b && nests (open_after t.kind n) ts) (le-leb n max_nesting h.0) ∙ is_nests (open_after t.kind n) ts h.1

not_nests : (ts : List Lexeme) → nests 0 ts ≡ false → Nests 0 ts → ⊥
not_nests ts h g = let w = sym h ∙ is_nests 0 ts g in absurd (cc)

-- ---- verdicts

build_is : (kind : FileKind) → is_build kind ≡ true → kind ≡ file.Build
build_is file.Build h = refl
build_is file.Bzl h = absurd (cc)

abbrev out : List Lexeme → TopLevel → Bool
out ts x = leaves_out ts || nested_def max_nesting false x.statement

abbrev refusal_of : Result TopLevel SyntaxErr → SyntaxErr
refusal_of (Ok x) = Syntax
refusal_of (Err why) = why

abbrev stops_early : SyntaxErr → Bool
stops_early Memory = false
stops_early Syntax = false
stops_early Lambda = true

no_tree_of : (ts : List Lexeme) (why : SyntaxErr) → top_level (suc max_nesting) ts ≡ Err why → stops_early why ≡ false → (x : TopLevel) → IsTopLevel max_nesting ts x → ⊥
no_tree_of ts why e n x p = go (top_met max_nesting ts x p)
  where
    go : (top_level (suc max_nesting) ts ≡ Ok x) ⊎ (top_level (suc max_nesting) ts ≡ Err Lambda) → ⊥
    go (inl g) = let w = sym e ∙ g in absurd (cc)
    go (inr g) = let w = sym n ∙ ap (λ z. stops_early (refusal_of z)) (sym e ∙ g) in absurd (cc)

pub verdict_reads : (kind : FileKind) (ts : List Lexeme) → ReadsAs kind ts (verdict kind ts)
unfolding verdict
verdict_reads kind ts = nested (nests 0 ts) refl
  where
    barred : (x : TopLevel) → Nests 0 ts → IsTopLevel max_nesting ts x → IsKept ts x → (b c : Bool) → is_build kind ≡ b → barred_in_build ts ≡ c
        → ReadsAs kind ts (cond (b && c) (Err f.NotInBuild) (Ok x))
    barred x n p h true true g i = V.not_in_build n p h (build_is kind g, i)
    barred x n p h true false g i = V.read n p h (λ w. let v = sym i ∙ w.1 in absurd (cc))
    barred x n p h false c g i = V.read n p h (λ w. let v = sym g ∙ ap is_build w.0 in absurd (cc))

    kept : (x : TopLevel) → Nests 0 ts → IsTopLevel max_nesting ts x → (b : Bool) → out ts x ≡ b
        → ReadsAs kind ts (cond b (Err f.LeftOut) (cond (is_build kind && barred_in_build ts) (Err f.NotInBuild) (Ok x)))
    kept x n p true h = V.left_out n p h
    kept x n p false h = barred x n p h (is_build kind) (barred_in_build ts) refl refl

    by_tree : Nests 0 ts → (r : Result TopLevel SyntaxErr) → top_level (suc max_nesting) ts ≡ r → TopOwes max_nesting ts r → ReadsAs kind ts (judged kind ts r)
    by_tree n (Ok x) e p = kept x n p (out ts x) refl
    by_tree n (Err Memory) e p = V.no_tree n (no_tree_of ts Memory e refl)
    by_tree n (Err Syntax) e p = V.no_tree n (no_tree_of ts Syntax e refl)
    by_tree n (Err Lambda) e p = V.left_out n p.1 (on_left (leaves_out ts) (nested_def max_nesting false p.0.statement) (lambda_left_out (suc max_nesting) ts e))

    nested : (b : Bool) → nests 0 ts ≡ b → ReadsAs kind ts (cond b (judged kind ts (top_level (suc max_nesting) ts)) (Err f.Nesting))
    nested true h = by_tree (nests_is 0 ts h) (top_level (suc max_nesting) ts) refl (top_sound max_nesting ts)
    nested false h = V.too_deep (not_nests ts h)

pub verdict_only : (kind : FileKind) (ts : List Lexeme) (r : Result TopLevel StatementFault) → ReadsAs kind ts r → r ≡ verdict kind ts
unfolding verdict
verdict_only kind ts r p = sym (by r p)
  where
    too_deep_is : (b : Bool) → nests 0 ts ≡ b → (Nests 0 ts → ⊥) → cond b (judged kind ts (top_level (suc max_nesting) ts)) (Err f.Nesting) ≡ Err f.Nesting
    too_deep_is true h n = absurd (n (nests_is 0 ts h))
    too_deep_is false h n = refl

    shallow : Nests 0 ts → cond (nests 0 ts) (judged kind ts (top_level (suc max_nesting) ts)) (Err f.Nesting) ≡ judged kind ts (top_level (suc max_nesting) ts)
    shallow n = ap (λ b. cond b (judged kind ts (top_level (suc max_nesting) ts)) (Err f.Nesting)) (is_nests 0 ts n)

    none : (z : Result TopLevel SyntaxErr) → top_level (suc max_nesting) ts ≡ z → TopOwes max_nesting ts z → ((x : TopLevel) → IsTopLevel max_nesting ts x → ⊥) → judged kind ts z ≡ Err f.Syntax
    none (Ok x) e h n = absurd (n x h)
    none (Err Memory) e h n = refl
    none (Err Syntax) e h n = refl
    none (Err Lambda) e h n = absurd (n h.0 h.1)

    -- a statement that is not left out has no `lambda`, and so one tree
    one : (x : TopLevel) → IsTopLevel max_nesting ts x → IsKept ts x → top_level (suc max_nesting) ts ≡ Ok x
    one x q h = go (top_met max_nesting ts x q)
      where
        go : (top_level (suc max_nesting) ts ≡ Ok x) ⊎ (top_level (suc max_nesting) ts ≡ Err Lambda) → top_level (suc max_nesting) ts ≡ Ok x
        go (inl g) = g
        go (inr g) = let w = both_off (leaves_out ts) (nested_def max_nesting false x.statement) h in absurd (top_plain (suc max_nesting) ts (no_lambda ts w.0) g)

    by : (r : Result TopLevel StatementFault) → ReadsAs kind ts r → cond (nests 0 ts) (judged kind ts (top_level (suc max_nesting) ts)) (Err f.Nesting) ≡ r
    by r (V.too_deep n) = too_deep_is (nests 0 ts) refl n
    by r (V.no_tree n h) = shallow n ∙ none (top_level (suc max_nesting) ts) refl (top_sound max_nesting ts) h
    by r (V.left_out {x = x} n q h) = shallow n ∙ go (top_met max_nesting ts x q)
      where
        go : (top_level (suc max_nesting) ts ≡ Ok x) ⊎ (top_level (suc max_nesting) ts ≡ Err Lambda) → judged kind ts (top_level (suc max_nesting) ts) ≡ Err f.LeftOut
        go (inl g) = ap (judged kind ts) g ∙ ap (λ b. cond b (Err f.LeftOut) (cond (is_build kind && barred_in_build ts) (Err f.NotInBuild) (Ok x))) h
        go (inr g) = ap (judged kind ts) g
    by r (V.not_in_build {x = x} n q h b) = shallow n ∙ ap (judged kind ts) (one x q h) ∙ ap (λ b. cond b (Err f.LeftOut) (cond (is_build kind && barred_in_build ts) (Err f.NotInBuild) (Ok x))) h
        ∙ ap (λ c. cond (c && barred_in_build ts) (Err f.NotInBuild) (Ok x)) (ap is_build b.0) ∙ ap (λ c. cond c (Err f.NotInBuild) (Ok x)) b.1
    by r (V.read {x = x} n q h b) = shallow n ∙ ap (judged kind ts) (one x q h) ∙ ap (λ b. cond b (Err f.LeftOut) (cond (is_build kind && barred_in_build ts) (Err f.NotInBuild) (Ok x))) h
        ∙ open_ (is_build kind) (barred_in_build ts) refl refl
      where
        open_ : (c d : Bool) → is_build kind ≡ c → barred_in_build ts ≡ d → cond (c && d) (Err f.NotInBuild) (Ok x) ≡ Ok x
        open_ true true g i = absurd (b (build_is kind g, i))
        open_ true false g i = refl
        open_ false d g i = refl

-- ---- files

all_reads : (kind : FileKind) (ps : List (List Lexeme)) → ReadsAll kind ps (all_read kind ps)
all_reads kind [] = R.over
all_reads kind (p ∷ ps) = go (verdict kind p) (verdict_reads kind p) (all_read kind ps) (all_reads kind ps)
  where
    go : (r : Result TopLevel StatementFault) → ReadsAs kind p r → (q : Result (List TopLevel) (Fault StatementFault)) → ReadsAll kind ps q → ReadsAll kind (p ∷ ps) (first_and p r q)
    go (Err why) h q g = R.bad h refl
    go (Ok x) h (Err why) g = R.later h g
    go (Ok x) h (Ok xs) g = R.good h g

all_only : (kind : FileKind) (ps : List (List Lexeme)) (r : Result (List TopLevel) (Fault StatementFault)) → ReadsAll kind ps r → r ≡ all_read kind ps
all_only kind ps r R.over = refl
all_only kind ps r (R.good {p = p} {ps = qs} {x = x} {xs = xs} h g) = ap (λ q. first_and p (Ok x) q) (all_only kind qs (Ok xs) g) ∙ ap (λ v. first_and p v (all_read kind qs)) (verdict_only kind p (Ok x) h)
all_only kind ps r (R.later {p = p} {ps = qs} {x = x} {why = why} h g) = ap (λ q. first_and p (Ok x) q) (all_only kind qs (Err why) g) ∙ ap (λ v. first_and p v (all_read kind qs)) (verdict_only kind p (Ok x) h)
all_only kind ps r (R.bad {p = p} {ps = qs} {why = why} h e) = ap Err e ∙ ap (λ v. first_and p v (all_read kind qs)) (verdict_only kind p (Err why) h)

pub file_reads : (kind : FileKind) (ts : List Lexeme) → Parses kind ts (statements_of kind ts)
unfolding statements_of
file_reads kind ts = all_reads kind (pieces ts)

pub file_only : (kind : FileKind) (ts : List Lexeme) (r : Result (List TopLevel) (Fault StatementFault)) → Parses kind ts r → r ≡ statements_of kind ts
unfolding statements_of
file_only kind ts r p = all_only kind (pieces ts) r p

-- ---- laws of statements

pub statement_sound : (depth : ℕ) (ts : List Lexeme)
    → ((x : Stmt) (rest : List Lexeme) → statement (suc depth) ts ≡ Ok (x, rest) → IsStmt depth ts rest x)
    × (statement (suc depth) ts ≡ Err Lambda → (rest : List Lexeme) → (x : Stmt) × IsStmt depth ts rest x)
statement_sound depth ts = (
  λ x rest e. subst (Owes Stmt (IsStmt depth ts)) e ((statement_agrees depth).sound ts),
  λ e. subst (Owes Stmt (IsStmt depth ts)) e ((statement_agrees depth).sound ts),
)

pub statement_met : (depth : ℕ) (ts rest : List Lexeme) (x : Stmt) → IsStmt depth ts rest x → Stops ends_block rest
    → (statement (suc depth) ts ≡ Ok (x, rest)) ⊎ (statement (suc depth) ts ≡ Err Lambda)
statement_met depth ts rest x p st = go ((statement_agrees depth).complete ts rest x p st)
  where
    go : Met 1 ts (statement (suc depth) ts) x rest → (statement (suc depth) ts ≡ Ok (x, rest)) ⊎ (statement (suc depth) ts ≡ Err Lambda)
    go (met a l) = inl a
    go (cut a) = inr a

abbrev stmt_of : Stmt → Found Stmt → Stmt
stmt_of x (Ok z) = z.0
stmt_of x (Err why) = x

pub one_statement : (depth : ℕ) (ts rest : List Lexeme) (x y : Stmt) → NoLambda ts → Stops ends_block rest → IsStmt depth ts rest x → IsStmt depth ts rest y → x ≡ y
one_statement depth ts rest x y plain st p q = go (statement_met depth ts rest x p st) (statement_met depth ts rest y q st)
  where
    never : statement (suc depth) ts ≡ Err Lambda → ⊥
    never e = subst Plain e (statement_plain (suc depth) ts plain)

    go : (statement (suc depth) ts ≡ Ok (x, rest)) ⊎ (statement (suc depth) ts ≡ Err Lambda) → (statement (suc depth) ts ≡ Ok (y, rest)) ⊎ (statement (suc depth) ts ≡ Err Lambda) → x ≡ y
    go (inl a) (inl b) = ap (stmt_of x) (sym a ∙ b)
    go (inr a) b = absurd (never a)
    go (inl a) (inr b) = absurd (never b)

pub ends_there : (rest : List Lexeme) → EndsStatement rest → Stops ends_block rest
ends_there [] h = tt
ends_there (t ∷ ts) h = implied ends_statement ends_block refl t.kind h
