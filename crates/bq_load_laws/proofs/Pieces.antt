-- The pieces of a file aren't empty, so the first line of each, which a fault of it names, is one.
use Rattle.std.proofs.Common.{◌≡◌, ℕ, ◌≤◌, List, [], ◌∷◌, Bool, true, false, ◌&&◌, ◌||◌, Result, Ok, Err, refl, sym, ap, ◌∙◌, subst}
use Rattle.std.specs.List.{AllByRecursion}
use Rattle.bq_base.specs.declared.fault.Fault.{Fault}
use Rattle.bq_base.specs.declared.fault.StatementFault.{StatementFault}
use Rattle.bq_base.proofs.Choices.{by_test}
use Rattle.bq_source.specs.declared.token.Token.{Token}
use Rattle.bq_source.specs.declared.token.TokenKind.TheVariants as k
use Rattle.bq_parse_grammar.specs.LeftOut.{leaves_out_by, leaves_out, nested_def}
use Rattle.bq_parse_grammar.specs.Lexeme.{Lexeme, lexemes}
use Rattle.bq_parse_grammar.specs.Nesting.{max_nesting}
use Rattle.bq_parse_grammar.specs.Parses as R
use Rattle.bq_parse_grammar.specs.Parses.{Parses, ReadsAll}
use Rattle.bq_parse_grammar.specs.Pieces.{ends_line, indents_after, begins_statement, is_zero, onto, cut, pieces}
use Rattle.bq_parse_grammar.specs.Statements.{line_of}
use Rattle.bq_parse_grammar.specs.Verdict as V
use Rattle.bq_parse_grammar.specs.Verdict.{ReadsAs}
use Rattle.bq_parse_grammar.specs.declared.tree.FileKind.{FileKind}
use Rattle.bq_parse_grammar.specs.declared.tree.TopLevel.{TopLevel}
use Rattle.bq_parse_laws.specs.Parts as parts
use Rattle.bq_parse_laws.specs.Writes.{Writes}
use Rattle.bq_parse_laws.proofs.FileWriting.{top_level_tells}

-- each token has a line
abbrev pub Numbered : List Lexeme → Type 0
Numbered ts = AllByRecursion (λ t. 1 ≤ t.line) ts

pub lexemes_numbered : (text : List ℕ) (ts : List Token) → AllByRecursion (λ t. 1 ≤ t.line) ts → Numbered (lexemes text ts)
lexemes_numbered text [] h = tt
lexemes_numbered text (t ∷ ts) h = (h.0, lexemes_numbered text ts h.1)

-- ---- pieces

-- it isn't empty
abbrev pub Begun : List Lexeme → Type 0
Begun p = (1 ≤ line_of p) × Numbered p

-- but for the first, which may be
abbrev Rest : List (List Lexeme) → Type 0
Rest [] = Unit {0}
Rest (p ∷ ps) = Numbered p × AllByRecursion Begun ps

onto_begun : (t : Lexeme) (ps : List (List Lexeme)) → 1 ≤ t.line → Rest ps → AllByRecursion Begun (onto t ps)
onto_begun t [] h g = ((h, (h, tt)), tt)
onto_begun t (p ∷ ps) h g = ((h, (h, g.0)), g.1)

onto_rest : (t : Lexeme) (ps : List (List Lexeme)) → 1 ≤ t.line → Rest ps → Rest (onto t ps)
onto_rest t [] h g = ((h, tt), tt)
onto_rest t (p ∷ ps) h g = ((h, g.0), g.1)

cut_rest : (line : Bool) (n : ℕ) (ts : List Lexeme) → Numbered ts → Rest (cut line n ts)
cut_rest line n [] h = (tt, tt)
cut_rest line n (t ∷ ts) h =
    let later : Rest (cut (ends_line t.kind) (indents_after t.kind n) ts) = cut_rest (ends_line t.kind) (indents_after t.kind n) ts h.1 in
    by_test Rest (line && (is_zero n && begins_statement t.kind)) _ _ (λ _. (tt, onto_begun t _ h.0 later)) (λ _. onto_rest t _ h.0 later)

pub pieces_begun : (ts : List Lexeme) → Numbered ts → AllByRecursion Begun (pieces ts)
pieces_begun [] h = tt
pieces_begun (t ∷ ts) h = onto_begun t _ h.0 (cut_rest (ends_line t.kind) (indents_after t.kind 0) ts h.1)

-- ---- what reads as a statement

-- each token has a line, and none is a `lambda`, of which a tree doesn't tell what comes after it
abbrev pub Stands : Lexeme → Type 0
Stands w = (1 ≤ w.line) × (w.kind ≡ k.Lambda → ⊥)

either_off : (a b : Bool) → (a || b) ≡ false → (a ≡ false) × (b ≡ false)
either_off true b h = absurd (cc)
either_off false b h = (refl, h)

no_lambda : (w : Lexeme) (ts : List Lexeme) → leaves_out_by w.kind w ts ≡ false → w.kind ≡ k.Lambda → ⊥
no_lambda w ts h e = let d : leaves_out_by k.Lambda w ts ≡ false = sym (ap (λ q. leaves_out_by q w ts) e) ∙ h in cc

all_stand : (ts : List Lexeme) → Numbered ts → leaves_out ts ≡ false → AllByRecursion Stands ts
all_stand [] h e = tt
all_stand (w ∷ ts) h e =
    let both = either_off (leaves_out_by w.kind w ts) (leaves_out ts) e in ((h.0, no_lambda w ts both.0), all_stand ts h.1 both.1)

-- the tree of a piece writes it, and has its first line
pub record IsOf (p : List Lexeme) (x : TopLevel) : Type 0 where
  pub line : 1 ≤ x.line
  pub stand : AllByRecursion Stands p
  pub writes : Writes (parts.stmt x.statement ∷ []) p

read_of : (kind : FileKind) (p : List Lexeme) (x : TopLevel) (r : Result TopLevel StatementFault) → r ≡ Ok x → ReadsAs kind p r → Begun p → IsOf p x
read_of kind p x r e (V.too_deep f) b = absurd (cc)
read_of kind p x r e (V.no_tree f g) b = absurd (cc)
read_of kind p x r e (V.left_out f g h) b = absurd (cc)
read_of kind p x r e (V.not_in_build f g h i) b = absurd (cc)
read_of kind p x r e (V.read {x = y} f g h i) b =
    let same : y ≡ x = cc in
    let told = top_level_tells max_nesting p y g in
    subst (λ z. IsOf p z) same record {
      line = subst (λ n. 1 ≤ n) (sym told.0) b.0;
      stand = all_stand p b.1 (either_off (leaves_out p) (nested_def max_nesting false y.statement) h).0;
      writes = told.1;
    }

-- what is known of each tree of a file, or of the line of its fault
abbrev pub TreesAre : (TopLevel → Type 0) → Result (List TopLevel) (Fault StatementFault) → Type 0
TreesAre P (Ok xs) = AllByRecursion P xs
TreesAre P (Err why) = 1 ≤ why.line

module _ (P : TopLevel → Type 0) (tells : (p : List Lexeme) (x : TopLevel) → IsOf p x → P x) (kind : FileKind) where
  all_read : (ps : List (List Lexeme)) (r : Result (List TopLevel) (Fault StatementFault)) → ReadsAll kind ps r → AllByRecursion Begun ps → TreesAre P r
  all_read ps r R.over b = tt
  all_read ps r (R.good {p = p} {ps = qs} {x = x} {xs = xs} h g) b = (tells p x (read_of kind p x (Ok x) refl h b.0), all_read qs (Ok xs) g b.1)
  all_read ps r (R.later {ps = qs} {why = why} h g) b = all_read qs (Err why) g b.1
  all_read ps r (R.bad {p = p} h e) b = subst (λ (z : Fault StatementFault). 1 ≤ z.line) (sym e) b.0.0

  pub trees_are : (ts : List Lexeme) (r : Result (List TopLevel) (Fault StatementFault)) → Numbered ts → Parses kind ts r → TreesAre P r
  trees_are ts r h g = all_read (pieces ts) r g (pieces_begun ts h)

pub statements_count : (kind : FileKind) (ts : List Lexeme) (xs : List TopLevel) → Numbered ts → Parses kind ts (Ok xs) → AllByRecursion (λ x. 1 ≤ x.line) xs
statements_count kind ts xs h g = trees_are (λ x. 1 ≤ x.line) (λ p x i. i.line) kind ts (Ok xs) h g

pub fault_counts : (kind : FileKind) (ts : List Lexeme) (why : Fault StatementFault) → Numbered ts → Parses kind ts (Err why) → 1 ≤ why.line
fault_counts kind ts why h g = trees_are (λ x. 1 ≤ x.line) (λ p x i. i.line) kind ts (Err why) h g
