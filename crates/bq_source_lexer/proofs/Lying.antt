-- The tokens of a text lie in it, and those of strings have a value.
use Rattle.std.proofs.Common.{◌≡◌, ℕ, ◌+◌, ◌-◌, ◌<◌, ◌≤◌, List, [], ◌∷◌, ◌++◌, length, take, drop, nat_lt, Option, Some, None, Result, Ok, Err, refl, sym, ap, ◌∙◌, subst, arith}
use Rattle.std.specs.Prelude.{◌==◌, IsSome, slice_range}
use Rattle.std.specs.List.{AllByRecursion}
use Rattle.std.proofs.lemmas.List.{length-drop, drop-drop}
use Rattle.bq_source.specs.declared.token.TokenKind.{TokenKind}
use Rattle.bq_source.specs.declared.token.TokenKind.TheVariants as k
use Rattle.bq_source.specs.declared.token.Token.{Token}
use Rattle.bq_source_lexer.specs.declared.place.Margin.{Margin}
use Rattle.bq_source_lexer.specs.declared.place.OpenBracket.{OpenBracket}
use Rattle.bq_source.specs.declared.operators.Lexeme.{Lexeme}
use Rattle.bq_source.specs.declared.operators.Lexeme.TheVariants.{Plain, Opens, Closes}
use Rattle.bq_source.specs.declared.piece.Extent.{Extent}
use Rattle.bq_source.specs.declared.piece.Piece.{Piece}
use Rattle.bq_source.specs.declared.piece.Piece.TheVariants.{Gap, LineEnd, Lexed, Bad}
use Rattle.bq_base.specs.declared.fault.TokenFault.{TokenFault}
use Rattle.bq_base.specs.declared.fault.Fault.{Fault}
use Rattle.bq_source.specs.declared.string_literal.StringLiteral.{StringLiteral}
use Rattle.std.proofs.Math.Seq.{take-append_seam}
use Rattle.bq_source.specs.Token.{same_kind}
use Rattle.bq_source.specs.Operators.{kind_of}
use Rattle.bq_source.specs.StringLiteral.{string_value}
use Rattle.bq_source.specs.Piece.{next_piece, IsPart, Fits}
use Rattle.bq_source_lexer.specs.Reading.{State, skip, token_at, push_empty, push_token, end_line, end_line_by, close_above, width_of, set_width, indent, close_by, nest, nest_by, take_token, refuse, and_then, step, finish, Runs, ends, stops, goes, Lexes, too_long, cut}
use Rattle.bq_source_lexer.proofs.Cases.{end_text, finish_by, advance, indent_by}
use Rattle.bq_source.specs.Spelling.{IsSpelled, Lies}
use Rattle.bq_base.proofs.Choices.{by_test}
use Rattle.bq_source.proofs.Fitting.{fits}
use Rattle.bq_source_lexer.proofs.Keeping.{indent_rest, nest_rest}
use Rattle.bq_source_lexer.proofs.LexemeKinds.{StringOrNot, is_string, is_none, string_or_not}
use Rattle.bq_source.proofs.LiteralLaws.{literal_has_value}
use Rattle.bq_source.proofs.Spelled.{Means, means}

all_append : {A : Type 0} (P : A → Type 0) (xs ys : List A) → AllByRecursion P xs → AllByRecursion P ys → AllByRecursion P (xs ++ ys)
all_append P [] ys h g = g
all_append P (x ∷ xs) ys h g = (h.0, all_append P xs ys h.1 g)

module _ (text : List ℕ) where
  record InText (s : State) : Type 0 where
    rest : s.rest ≡ drop s.at text
    within : s.at ≤ length text
    lie : AllByRecursion (Lies text) s.tokens

  abbrev StaysIn : Result State (Fault TokenFault) → Type 0
  StaysIn (Ok t) = InText t
  StaysIn (Err e) = Unit {0}

  skipped : (e : Extent) (s : State) → IsPart s.rest e → InText s → InText (skip e s)
  skipped e s part g = record {
    rest = ap (drop e.len) g.rest ∙ drop-drop e.len s.at text;
    within = let l = ap length g.rest ∙ length-drop s.at text in let p = part.within in let q = g.within in omega arith;
    lie = g.lie;
  }

  empty_lies : (kind : TokenKind) (s : State) → InText s → (kind ≡ k.String → ⊥) → Lies text (token_at kind 0 s)
  empty_lies kind s g other = record {
    ascends = omega arith;
    within = let q = g.within in omega arith;
    quoted = λ e. absurd (other e);
  }

  pushed : (kind : TokenKind) (s : State) → (kind ≡ k.String → ⊥) → InText s → InText (push_empty kind s)
  pushed kind s other g = record { rest = g.rest; within = g.within; lie = all_append (Lies text) s.tokens (token_at kind 0 s ∷ []) g.lie (empty_lies kind s g other, tt) }

  not_indent : k.Indent ≡ k.String → ⊥
  not_indent e = cc

  not_outdent : k.Outdent ≡ k.String → ⊥
  not_outdent e = cc

  not_newline : k.Newline ≡ k.String → ⊥
  not_newline e = cc

  closed_in : (width : ℕ) (ws : List ℕ) (s : State) → InText s → InText (close_above width ws s)
  closed_in width [] s g = g
  closed_in width (w ∷ ws) s g =
      by_test InText (nat_lt width w) _ _
      (λ _. closed_in width ws (push_empty k.Outdent (record s { widths = ws })) (pushed k.Outdent (record s { widths = ws }) not_outdent record { rest = g.rest; within = g.within; lie = g.lie }))
      (λ _. record { rest = g.rest; within = g.within; lie = g.lie })

  width_in : (width line : ℕ) (s : State) → InText s → StaysIn (set_width width line s)
  unfolding set_width
  width_in width line s g =
      by_test StaysIn (nat_lt (width_of s.widths) width) _ _ (λ _. let p = pushed k.Indent s not_indent g in record { rest = p.rest; within = p.within; lie = p.lie }) (λ _.
      by_test StaysIn (width_of (close_above width s.widths s).widths == width) _ _ (λ _. closed_in width s.widths s g) (λ _. tt))

  indent_by_in : (m : Option Margin) (s : State) → InText s → StaysIn (indent_by m s)
  indent_by_in None s g = g
  indent_by_in (Some m) s g = by_test StaysIn m.tab _ _ (λ _. tt) (λ _. width_in m.width m.line (record s { margin = None }) record { rest = g.rest; within = g.within; lie = g.lie })

  indent_in : (s : State) → InText s → StaysIn (indent s)
  unfolding indent
  indent_in s g = indent_by_in s.margin s g

  close_in : (os : List OpenBracket) (kind : TokenKind) (s : State) → InText s → StaysIn (close_by os kind s)
  close_in [] kind s g = tt
  close_in (o ∷ os) kind s g = by_test StaysIn (same_kind o.closing kind) _ _ (λ _. record { rest = g.rest; within = g.within; lie = g.lie }) (λ _. tt)

  nest_by_in : (lexeme : Lexeme) (s : State) → InText s → StaysIn (nest_by lexeme s)
  nest_by_in (Plain kind) s g = g
  nest_by_in (Opens kind closing) s g = record { rest = g.rest; within = g.within; lie = g.lie }
  nest_by_in (Closes kind) s g = close_in s.open_brackets kind s g

  nest_in : (lexeme : Lexeme) (s : State) → InText s → StaysIn (nest lexeme s)
  unfolding nest
  nest_in lexeme s g = nest_by_in lexeme s g

  string_valued : (lexeme : Lexeme) (bs rest : List ℕ) → StringOrNot lexeme bs rest → kind_of lexeme ≡ k.String → IsSome (string_value bs)
  string_valued lexeme bs rest (is_string h) is =
      let l : StringLiteral = record { len = length bs; bad_escape = None } in
      subst (λ (xs : List ℕ). IsSome (string_value xs)) (take-append_seam bs rest) (literal_has_value (bs ++ rest) l h refl)
  string_valued lexeme bs rest (is_none other) is = absurd (other is)

  -- a token of the next bytes lies in the text
  taken : (lexeme : Lexeme) (e : Extent) (s u : State) → IsPart s.rest e → IsSpelled lexeme (take e.len s.rest) (drop e.len s.rest) → u.rest ≡ s.rest → InText u
      → InText (push_token (kind_of lexeme) e u)
  taken lexeme e s u part spelled same g =
      let P : List ℕ → Type 0 = λ xs. IsPart xs e in
      let here = subst P (sym same) part in
      let next = skipped e u here g in
      let wide : e.len ≡ u.at + e.len - u.at = omega arith in
      let cut : take e.len s.rest ≡ slice_range text u.at (u.at + e.len) = ap (take e.len) (sym same ∙ g.rest) ∙ ap (λ n. take n (drop u.at text)) wide in
      let Q : List ℕ → Type 0 = λ xs. IsSome (string_value xs) in
      record {
        rest = next.rest;
        within = next.within;
        lie = all_append (Lies text) u.tokens (token_at (kind_of lexeme) e.len u ∷ []) g.lie (
          record {
            ascends = omega arith;
            within = next.within;
            quoted = λ is. subst Q cut (string_valued lexeme (take e.len s.rest) (drop e.len s.rest) (string_or_not lexeme _ _ spelled) is);
          },
          tt,
        );
      }

  end_line_in : (os : List OpenBracket) (m : Option Margin) (e : Extent) (s : State) → IsPart s.rest e → InText s → InText (end_line_by os m e s)
  end_line_in (o ∷ os) m e s part g = skipped e s part g
  end_line_in [] (Some m) e s part g = let n = skipped e s part g in record { rest = n.rest; within = n.within; lie = n.lie }
  end_line_in [] None e s part g =
      let n = skipped e s part g in
      record {
        rest = n.rest;
        within = n.within;
        lie = all_append (Lies text) s.tokens (token_at k.Newline e.len s ∷ []) g.lie (record { ascends = omega arith; within = n.within; quoted = λ is. absurd (not_newline is) }, tt);
      }

  nested_in : (lexeme : Lexeme) (e : Extent) (s t : State) → IsPart s.rest e → IsSpelled lexeme (take e.len s.rest) (drop e.len s.rest) → t.rest ≡ s.rest
      → (r : Result State (Fault TokenFault)) → nest lexeme t ≡ r → StaysIn r → StaysIn (and_then r (λ u. Ok (push_token (kind_of lexeme) e u)))
  nested_in lexeme e s t part spelled same (Ok u) is g = taken lexeme e s u part spelled (nest_rest lexeme t u is ∙ same) g
  nested_in lexeme e s t part spelled same (Err x) is g = tt

  indented_in : (lexeme : Lexeme) (e : Extent) (s : State) → IsPart s.rest e → IsSpelled lexeme (take e.len s.rest) (drop e.len s.rest)
      → (r : Result State (Fault TokenFault)) → indent s ≡ r → StaysIn r → StaysIn (and_then r (λ t. and_then (nest lexeme t) (λ u. Ok (push_token (kind_of lexeme) e u))))
  indented_in lexeme e s part spelled (Ok t) is g = nested_in lexeme e s t part spelled (indent_rest s t is) (nest lexeme t) refl (nest_in lexeme t g)
  indented_in lexeme e s part spelled (Err x) is g = tt

  refused_in : (fault : Fault TokenFault) (r : Result State (Fault TokenFault)) → StaysIn (and_then r (λ t. Err fault))
  refused_in fault (Ok t) = tt
  refused_in fault (Err e) = tt

  advanced : (p : Piece) (s : State) → Fits s.rest p → Means s.rest p → InText s → StaysIn (advance p s)
  unfolding end_line take_token refuse
  advanced (Gap e) s part m g = skipped e s part g
  advanced (LineEnd e) s part m g = end_line_in s.open_brackets s.margin e s part g
  advanced (Lexed lexeme e) s part m g = indented_in lexeme e s part m.0 (indent s) refl (indent_in s g)
  advanced (Bad kind lines) s part m g = refused_in _ (indent s)

  stepped : (s : State) → 0 < length s.rest → InText s → StaysIn (step s)
  unfolding step
  stepped s some g = advanced (next_piece s.rest) s (fits s.rest some) (means s.rest some) g

  ended : (m : Option Margin) (s : State) → InText s → InText (end_text m s)
  ended None s g = pushed k.Newline s not_newline g
  ended (Some m) s g = g

  abbrev AllLie : Result (List Token) (Fault TokenFault) → Type 0
  AllLie (Ok ts) = AllByRecursion (Lies text) ts
  AllLie (Err e) = Unit {0}

  finished : (os : List OpenBracket) (s : State) → InText s → AllLie (finish_by os s)
  finished (o ∷ os) s g = tt
  finished [] s g = (closed_in 0 s.widths (end_text s.margin s) (ended s.margin s g)).lie

  finishes : (s : State) → InText s → AllLie (finish s)
  unfolding finish
  finishes s g = finished s.open_brackets s g

  lying : {s : State} {r : Result (List Token) (Fault TokenFault)} → Runs s r → InText s → AllLie r
  lying {s = s} (ends e h) g = subst AllLie h (finishes s g)
  lying (stops some h) g = tt
  lying {s = s} (goes some h on) g = lying on (subst StaysIn h (stepped s some g))

read : (text : List ℕ) (r : Result (List Token) (Fault TokenFault)) → Lexes text r → AllLie text r
read text r (too_long l) = tt
read text r (cut l h) = lying text h record { rest = refl; within = omega arith; lie = tt }

pub all_lie : (text : List ℕ) (ts : List Token) → Lexes text (Ok ts) → AllByRecursion (Lies text) ts
all_lie text ts h = read text (Ok ts) h
