-- A file, a statement at a time.
use Rattle.std.proofs.Common.{◌≡◌, ℕ, zero, suc, ◌<◌, true, if◌then◌else◌, List, [], ◌∷◌, ◌++◌, length, take, drop, Result, Ok, Err, refl, sym, ap, ◌∙◌, subst, append_assoc, append-nil, arith}
use Rattle.bq_base.specs.declared.fault.Fault.{Fault}
use Rattle.bq_base.specs.declared.fault.StatementFault.{StatementFault}
use Rattle.bq_base.specs.declared.fault.StatementFault.TheVariants as f
use Rattle.bq_base.specs.declared.fault.SourceErr.{SourceErr}
use Rattle.bq_base.specs.declared.fault.SourceErr.TheVariants.{Bad}
use Rattle.std.specs.Prelude.{IfOk}
use Rattle.bq_base.specs.Gives.{Gives, GivesOneOf}
use Rattle.bq_source.specs.declared.token.Token.{Token}
use Rattle.bq_parse_grammar.specs.Lexeme.{Lexeme, lexemes}
use Rattle.bq_parse_grammar.proofs.Cases.{lexeme}
use Rattle.bq_parse_grammar.specs.Nesting.{nests}
use Rattle.bq_parse_grammar.specs.Parses.{Parses, allowed, judged, verdict, first_and, all_read, statements_of}
use Rattle.bq_parse_grammar.specs.Pieces.{pieces}
use Rattle.bq_parse_grammar.specs.ReadingStatements.{top_level}
use Rattle.bq_parse_grammar.specs.declared.tree.FileKind.{FileKind}
use Rattle.bq_parse_grammar.specs.declared.tree.TopLevel.{TopLevel}
use Rattle.bq_parse.specs.Answers.{at_line, itself, AreShallow}
use Rattle.bq_parse.specs.Pieces.{piece_len}
use Rattle.bq_parse.proofs.Cutting.{first_piece, some_taken}

-- ---- tokens and their spellings

pub as_many : (text : List ℕ) (ts : List Token) → length (lexemes text ts) ≡ length ts
as_many text [] = refl
as_many text (t ∷ ts) = ap suc (as_many text ts)

taken : (text : List ℕ) (n : ℕ) (ts : List Token) → lexemes text (take n ts) ≡ take n (lexemes text ts)
taken text zero ts = refl
taken text (suc n) [] = refl
taken text (suc n) (t ∷ ts) = ap (λ us. lexeme text t ∷ us) (taken text n ts)

dropped : (text : List ℕ) (n : ℕ) (ts : List Token) → lexemes text (drop n ts) ≡ drop n (lexemes text ts)
dropped text zero ts = refl
dropped text (suc n) [] = refl
dropped text (suc n) (t ∷ ts) = dropped text n ts

-- ---- what is left of a file, with the statements found before

abbrev pub with_found : List TopLevel → Result (List TopLevel) (Fault StatementFault) → Result (List TopLevel) (Fault StatementFault)
with_found found (Ok xs) = Ok (found ++ xs)
with_found found (Err why) = Err why

pub none_found : (r : Result (List TopLevel) (Fault StatementFault)) → with_found [] r ≡ r
none_found (Ok xs) = refl
none_found (Err why) = refl

read_first : (found : List TopLevel) (p : List Lexeme) (v : Result TopLevel StatementFault) (more : Result (List TopLevel) (Fault StatementFault)) (x : TopLevel)
    → at_line p v ≡ Ok x → with_found found (first_and p v more) ≡ with_found (found ++ x ∷ []) more
read_first found p (Ok y) (Ok ys) x e =
    let same : y ≡ x = cc in ap (λ z. Ok (found ++ z ∷ ys)) same ∙ ap Ok (sym (append_assoc found (x ∷ []) ys))
read_first found p (Ok y) (Err why) x e = refl
read_first found p (Err why) more x e = absurd (cc)

stop_first : (found : List TopLevel) (p : List Lexeme) (v : Result TopLevel StatementFault) (more : Result (List TopLevel) (Fault StatementFault)) (why : Fault StatementFault)
    → at_line p v ≡ Err why → with_found found (first_and p v more) ≡ Err why
stop_first found p (Ok y) more why e = absurd (cc)
stop_first found p (Err what) more why e = cc

module _ (kind : FileKind) (text : List ℕ) (rest piece further : List Token) where
  -- the tokens of the first statement, and the others
  abbrev Parted : Type 0
  Parted = (piece ≡ take (piece_len (lexemes text rest)) rest) × (further ≡ drop (piece_len (lexemes text rest)) rest)

  step : 0 < length rest → Parted
      → statements_of kind (lexemes text rest) ≡ first_and (lexemes text piece) (verdict kind (lexemes text piece)) (statements_of kind (lexemes text further))
  unfolding statements_of
  step some parts =
      let ts = lexemes text rest in
      let n = piece_len ts in
      let front : take n ts ≡ lexemes text piece = sym (taken text n rest) ∙ ap (lexemes text) (sym (parts.0)) in
      let back : drop n ts ≡ lexemes text further = sym (dropped text n rest) ∙ ap (lexemes text) (sym (parts.1)) in
      let many : 0 < length ts = rw (as_many text rest) some in
      ap (all_read kind) (first_piece ts many) ∙ ap (λ p. first_and p (verdict kind p) (all_read kind (pieces (drop n ts)))) front
      ∙ ap (λ us. first_and (lexemes text piece) (verdict kind (lexemes text piece)) (all_read kind (pieces us))) back

  pub resumed : 0 < length rest → Parted → (found : List TopLevel) (x : TopLevel) → at_line (lexemes text piece) (verdict kind (lexemes text piece)) ≡ Ok x
      → with_found found (statements_of kind (lexemes text rest)) ≡ with_found (found ++ x ∷ []) (statements_of kind (lexemes text further))
  resumed some parts found x e =
      ap (with_found found) (step some parts)
      ∙ read_first found (lexemes text piece) (verdict kind (lexemes text piece)) (statements_of kind (lexemes text further)) x e

  pub stopped : 0 < length rest → Parted → (found : List TopLevel) (why : Fault StatementFault) → at_line (lexemes text piece) (verdict kind (lexemes text piece)) ≡ Err why
      → with_found found (statements_of kind (lexemes text rest)) ≡ Err why
  stopped some parts found why e =
      ap (with_found found) (step some parts)
      ∙ stop_first found (lexemes text piece) (verdict kind (lexemes text piece)) (statements_of kind (lexemes text further)) why e

  -- where the loop is: what the statements found before and the rest of the file make is what the file reads as
  module _ (found : List TopLevel) (whole : Result (List TopLevel) (Fault StatementFault)) (same : whole ≡ with_found found (statements_of kind (lexemes text rest)))
      (first : List Lexeme) (is : first ≡ lexemes text piece) where
    pub goes_on : 0 < length rest → Parted → (x : TopLevel) → at_line first (verdict kind first) ≡ Ok x
        → whole ≡ with_found (found ++ x ∷ []) (statements_of kind (lexemes text further))
    goes_on some parts x e = same ∙ resumed some parts found x (subst (λ us. at_line us (verdict kind us) ≡ Ok x) is e)

    pub ends : 0 < length rest → Parted → (err : SourceErr StatementFault) → Gives itself Bad (Err err) (at_line first (verdict kind first))
        → Gives itself Bad (Err err) whole
    ends some parts err e = λ why named. same ∙ stopped some parts found why (subst (λ us. at_line us (verdict kind us) ≡ Err why) is (e why named))

pub finished : (kind : FileKind) (text : List ℕ) (rest : List Token) (found : List TopLevel) → length rest ≡ 0
    → with_found found (statements_of kind (lexemes text rest)) ≡ Ok found
unfolding statements_of
finished kind text [] found e = ap Ok (append-nil found)
finished kind text (t ∷ ts) found e = let never : ⊥ = omega arith in absurd never

pub some_left : (text : List ℕ) (rest : List Token) → 0 < length rest → 0 < piece_len (lexemes text rest)
some_left text rest some = some_taken (lexemes text rest) (rw (as_many text rest) some)

-- ---- a statement, judged

pub verdict_of : (kind : FileKind) (ts : List Lexeme) (x : TopLevel) → nests 0 ts ≡ true → top_level 65 ts ≡ Ok x → verdict kind ts ≡ allowed kind ts x
unfolding verdict
verdict_of kind ts x fits tree = ap (λ b. if b then judged kind ts (top_level 65 ts) else Err f.Nesting) fits ∙ ap (judged kind ts) tree

-- ---- the answer, and what the tokens read as

pub is_read : (kind : FileKind) (ts : List Lexeme) (answer : Result (List TopLevel) (SourceErr StatementFault)) → Gives itself Bad answer (statements_of kind ts)
    → Parses kind ts (statements_of kind ts) → GivesOneOf itself Bad answer (Parses kind ts)
is_read kind ts (Ok file) e reads = subst (Parses kind ts) e reads
is_read kind ts (Err err) e reads = λ why same. subst (Parses kind ts) (e why same) reads

pub is_given : (kind : FileKind) (ts : List Lexeme) (answer : Result (List TopLevel) (SourceErr StatementFault)) (r : Result (List TopLevel) (Fault StatementFault))
    → Gives itself Bad answer (statements_of kind ts) → r ≡ statements_of kind ts → Gives itself Bad answer r
is_given kind ts (Ok file) r e same = same ∙ e
is_given kind ts (Err err) r e same = λ why named. same ∙ e why named

-- a file that is read has trees, and no tree of a file is deeper
pub is_shallow : (kind : FileKind) (ts : List Lexeme) (answer : Result (List TopLevel) (SourceErr StatementFault)) → Gives itself Bad answer (statements_of kind ts)
    → Parses kind ts (statements_of kind ts) → ((xs : List TopLevel) → Parses kind ts (Ok xs) → AreShallow xs) → IfOk answer AreShallow
is_shallow kind ts (Ok xs) e reads shallow = shallow xs (subst (Parses kind ts) e reads)
is_shallow kind ts (Err err) e reads shallow = tt
