-- Each piece adds to the tokens what its line, its brackets and its width ask for: the readings are those that `Layout` says.
use Rattle.std.proofs.Common.{◌≡◌, ℕ, zero, suc, ◌+◌, ◌<◌, ◌≤◌, ◌⊎◌, inl, inr, List, [], ◌∷◌, ◌++◌, length, take, drop, true, cond, nat_lt, Option, Some, None, Result, Ok, Err, refl, sym, ap, ◌∙◌, subst, arith, append_assoc, eq-eqb}
use Rattle.std.specs.Prelude.{◌==◌, replicate}
use Rattle.std.proofs.lemmas.List.{take-append-drop, length-take-le, append-nil}
use Rattle.std.proofs.lemmas.Bool.{eqb-true}
use borrow.Author.Tests.{ltb-true, ltb-false}
use Rattle.bq_source.specs.declared.token.TokenKind.{TokenKind}
use Rattle.bq_source.specs.declared.token.TokenKind.TheVariants as k
use Rattle.bq_source.specs.declared.token.Token.{Token}
use Rattle.bq_source_lexer.specs.declared.place.Margin.{Margin}
use Rattle.bq_source_lexer.specs.declared.place.OpenBracket.{OpenBracket}
use Rattle.bq_source.specs.declared.operators.Lexeme.{Lexeme}
use Rattle.bq_source.specs.declared.operators.Lexeme.TheVariants.{Plain, Opens, Closes}
use Rattle.bq_source.specs.declared.piece.Extent.{Extent}
use Rattle.bq_source.specs.declared.piece.Piece.{Piece}
use Rattle.bq_source.specs.declared.piece.Piece.TheVariants.{Gap, LineEnd, Lexed, Bad}
use Rattle.bq_base.specs.declared.fault.Fault.{Fault}
use Rattle.bq_base.specs.declared.fault.TokenFault.{TokenFault}
use Rattle.bq_base.specs.declared.fault.TokenFault.TheVariants as f
use Rattle.bq_base.specs.Fault.{fault_at}
use Rattle.bq_source.specs.Token.{same_kind}
use Rattle.bq_source.specs.Lexis.{newlines}
use Rattle.bq_source.specs.Operators.{kind_of}
use Rattle.bq_source.specs.Piece.{next_piece, IsPart, Fits}
use Rattle.bq_source_lexer.specs.Reading.{State, start, margin_of, skip, token_at, push_empty, push_token, end_line, end_line_by, close_above, width_of, at_width, set_width, indent, close_by, nest, nest_by, take_token, refuse, and_then, step, finish, Runs, ends, stops, goes, Lexes, too_long, cut as cut_short, max_file_bytes, line_behind}
use Rattle.bq_source_lexer.proofs.Cases.{end_text, finish_by, advance, indent_by}
use Rattle.bq_source.specs.Spelling.{IsLineEnd, IsSpelled, IsMisspelled, IsNoGap, spelled, misspelled}
use Rattle.bq_source_lexer.specs.Indentation.{width_before, AreMarks, wider, open_}
use Rattle.bq_source_lexer.specs.Layout.{closed_by, opened_by, Leaves, no_token, one_token, IsInLine, IsBetween, first, after, Before, beginning, past, line_from, token_of, with_tokens, width, has_tab, IsEmptyAt, IsIndented, Takes, gap, in_brackets, blank_line, line_end, token, first_token, Cut, here, on, none, newline, Finishes, Reads, inside, indented, FaultAfter, misspelled as unspelled, tab, uneven, closes_none, never_closed, IsFaulty}
use Rattle.bq_base.proofs.Choices.{by_test}
use Rattle.bq_source.proofs.Fitting.{fits}
use Rattle.bq_source.proofs.Spelled.{Means, means, false_not_true}
use Rattle.bq_source_lexer.proofs.LexemeKinds.{nested, nests, no_newline}
use Rattle.bq_source_lexer.proofs.Widths.{kept, closed, stack, outdents, closes_above, open_above, top_stack, open_top, top_open, pushed_open, pushed_wider}

-- ---- where the lexer stands

abbrev MarginIs : Option Margin → List OpenBracket → Before → Type 0
MarginIs None os b = IsInLine b.tokens
MarginIs (Some m) os b = IsBetween b.tokens × (m ≡ margin_of b.from b.from_line) × (os ≡ [])

record Stands (b : Before) (s : State) : Type 0 where
  at : s.at ≡ b.at
  line : s.line ≡ b.line
  tokens : s.tokens ≡ b.tokens
  leaves : Leaves b.tokens s.open_brackets
  widths : s.widths ≡ stack b.widths
  margin : MarginIs s.margin s.open_brackets b

-- the bytes of a piece
record IsCut (text : List ℕ) (e : Extent) : Type 0 where
  long : length (take e.len text) ≡ e.len
  lines : e.lines ≡ newlines (take e.len text)

cut_of : (text : List ℕ) (e : Extent) → IsPart text e → e.lines ≡ newlines (take e.len text) → IsCut text e
cut_of text e part lines = record { long = length-take-le e.len text part.within; lines = lines }

margin_past : (m : Option Margin) (os : List OpenBracket) (bs : List ℕ) (b : Before) → MarginIs m os b → MarginIs m os (past bs b)
margin_past None os bs b h = h
margin_past (Some m) os bs b h = h

in_line_of : (m : Option Margin) (os : List OpenBracket) (b : Before) (o : OpenBracket) (us : List OpenBracket) → MarginIs m os b → os ≡ o ∷ us → IsInLine b.tokens
in_line_of None os b o us h e = h
in_line_of (Some m) os b o us h e = absurd (not_empty o us (sym e ∙ h.2))
  where
    not_empty : (o : OpenBracket) (us : List OpenBracket) → o ∷ us ≡ [] → ⊥
    not_empty o us e = cc

module _ (b : Before) (s : State) (e : Extent) (cut : IsCut s.rest e) (g : Stands b s) where
  bytes_of : List ℕ
  bytes_of = take e.len s.rest

  place_past : s.at + e.len ≡ b.at + length (take e.len s.rest)
  place_past = let p = g.at in let l = cut.long in omega arith

  line_past : s.line + e.lines ≡ b.line + newlines (take e.len s.rest)
  line_past = let p = g.line in let l = cut.lines in omega arith

  skip_stands : Stands (past (take e.len s.rest) b) (skip e s)
  skip_stands = record {
    at = place_past;
    line = line_past;
    tokens = g.tokens;
    leaves = g.leaves;
    widths = g.widths;
    margin = margin_past s.margin s.open_brackets (take e.len s.rest) b g.margin;
  }

  same_token : (kind : TokenKind) → token_at kind e.len s ≡ token_of kind (take e.len s.rest) b
  same_token kind = λ i. record { kind = kind; start = g.at i; end = place_past i; line = g.line i }

  all : s.rest ≡ take e.len s.rest ++ drop e.len s.rest
  all = sym (take-append-drop e.len s.rest)

abbrev SoundStep : Before → State → Result State (Fault TokenFault) → Type 0
SoundStep b s (Ok t) = (c : Before) × Takes b s.rest c t.rest × Stands c t
SoundStep b s (Err e) = FaultAfter b s.rest e

newline_is : same_kind k.Newline k.Newline ≡ true
unfolding same_kind
newline_is = refl

end_line_step : (os : List OpenBracket) (m : Option Margin) (b : Before) (s : State) (e : Extent) → s.open_brackets ≡ os → s.margin ≡ m → IsCut s.rest e → IsLineEnd (take e.len s.rest)
    → Stands b s → SoundStep b s (Ok (end_line_by os m e s))
end_line_step (o ∷ os) m b s e is_os is_m cut end g = (
  past (take e.len s.rest) b,
  in_brackets (take e.len s.rest) o os (all b s e cut g) end (in_line_of s.margin s.open_brackets b o os g.margin is_os) (subst (Leaves b.tokens) is_os g.leaves) refl,
  skip_stands b s e cut g,
)
end_line_step [] (Some m) b s e is_os is_m cut end g =
    let P : Option Margin → Type 0 = λ x. MarginIs x s.open_brackets b in
    let known = subst P is_m g.margin in
    let next = skip_stands b s e cut g in (
      line_from (drop e.len s.rest) (past (take e.len s.rest) b),
      blank_line (take e.len s.rest) (all b s e cut g) end known.0 refl,
      record {
        at = next.at;
        line = next.line;
        tokens = next.tokens;
        leaves = next.leaves;
        widths = next.widths;
        margin = (known.0, ap (margin_of (drop e.len s.rest)) (line_past b s e cut g), known.2);
      },
    )
end_line_step [] None b s e is_os is_m cut end g =
    let P : Option Margin → Type 0 = λ x. MarginIs x s.open_brackets b in
    let known = subst P is_m g.margin in
    let next = skip_stands b s e cut g in
    let u : Token = token_of k.Newline (take e.len s.rest) b in
    let same : s.tokens ++ token_at k.Newline e.len s ∷ [] ≡ b.tokens ++ u ∷ [] = λ i. g.tokens i ++ same_token b s e cut g k.Newline i ∷ [] in (
      line_from (drop e.len s.rest) (past (take e.len s.rest) (with_tokens (u ∷ []) b)),
      line_end (take e.len s.rest) (all b s e cut g) end known (subst (Leaves b.tokens) is_os g.leaves) refl,
      record {
        at = next.at;
        line = next.line;
        tokens = same;
        leaves = one_token u g.leaves refl refl;
        widths = next.widths;
        margin = (after b.tokens u refl newline_is, ap (margin_of (drop e.len s.rest)) (line_past b s e cut g), is_os);
      },
    )

-- ---- indentation

replicate_leaves : (n : ℕ) (t : Token) (before : List Token) (os : List OpenBracket) → opened_by t.kind t.line os ≡ Some os → Leaves before os → Leaves (before ++ replicate n t) os
replicate_leaves zero t before os same h = let P : List Token → Type 0 = λ ts. Leaves ts os in subst P (sym (append-nil before)) h
replicate_leaves (suc n) t before os same h =
    let P : List Token → Type 0 = λ ts. Leaves ts os in
    subst P (append_assoc before (t ∷ []) (replicate n t)) (replicate_leaves n t (before ++ t ∷ []) os same (one_token t h same refl))

opens_none : (t : Token) (os : List OpenBracket) → (t.kind ≡ k.Indent) ⊎ (t.kind ≡ k.Outdent) → opened_by t.kind t.line os ≡ Some os
opens_none t os (inl e) = let P : TokenKind → Type 0 = λ kind. opened_by kind t.line os ≡ Some os in subst P (sym e) refl
opens_none t os (inr e) = let P : TokenKind → Type 0 = λ kind. opened_by kind t.line os ≡ Some os in subst P (sym e) refl

pub marks_leave : (empty : Token → Type 0) (w : ℕ) (vs : List ℕ) (ts before : List Token) (os : List OpenBracket) → AreMarks empty w vs ts → Leaves before os → Leaves (before ++ ts) os
marks_leave empty w vs ts before os (wider t less is bare whole) h = one_token t h (opens_none t os (inl is)) (ap (λ z. before ++ z) whole)
marks_leave empty w vs ts before os (open_ us t le opened above is bare whole) h =
    let P : List Token → Type 0 = λ z. Leaves (before ++ z) os in
    subst P (sym whole) (replicate_leaves (length us) t before os (opens_none t os (inr is)) h)

abbrev indented_state : Before → State → List Token → State
indented_state b s marks = record s { margin = None; widths = stack (width b ∷ b.widths); tokens = s.tokens ++ marks }

data Outcome (b : Before) (s : State) (r : Result State (Fault TokenFault)) : Type 0 where
  stays : IsInLine b.tokens → s.margin ≡ None → r ≡ Ok s → Outcome b s r
  begins : (marks : List Token) → IsIndented b marks → s.open_brackets ≡ [] → r ≡ Ok (indented_state b s marks) → Outcome b s r
  fails : (e : Fault TokenFault) → r ≡ Err e → (IsNoGap s.rest → FaultAfter b s.rest e) → Outcome b s r

module _ (b : Before) (s : State) (g : Stands b s) (between : IsBetween b.tokens) (no_tab : has_tab b → ⊥) (flat : s.open_brackets ≡ []) where
  w : ℕ
  w = width b

  top : width_of s.widths ≡ width_before b.widths
  top = ap width_of g.widths ∙ top_stack b.widths

  bare : State
  bare = record s { margin = None }

  empty_at : (kind : TokenKind) → IsEmptyAt b (token_at kind 0 s)
  empty_at kind = (g.at, (let p = g.at in omega arith), g.line)

  opened : width_of s.widths < width b → Outcome b s (Ok (record (push_empty k.Indent (record s { margin = None })) { widths = width b ∷ s.widths }))
  opened less =
      let wide : width_of (stack b.widths) < width b = let t = ap width_of g.widths in omega arith in
      let above : width_before b.widths < width b = let t = top in omega arith in
      let same : width b ∷ s.widths ≡ stack (width b ∷ b.widths) = ap (λ z. width b ∷ z) g.widths ∙ sym (pushed_wider (width b) (stack b.widths) wide) in
      begins (token_at k.Indent 0 s ∷ []) record { between = between; no_tab = no_tab; marked = wider (token_at k.Indent 0 s) above refl (empty_at k.Indent) refl } flat
      (λ i. Ok (record s { margin = None; widths = same i; tokens = s.tokens ++ token_at k.Indent 0 s ∷ [] }))

  kept_same : kept (width b) s.widths ≡ kept (width b) (stack b.widths)
  kept_same = ap (kept (width b)) g.widths

  reached : width b ≤ width_of s.widths → width_of (kept (width b) s.widths) ≡ width b → Outcome b s (Ok (outdents (width b) s.widths (record s { margin = None })))
  reached le e =
      let there : width_of (kept (width b) (stack b.widths)) ≡ width b = sym (ap width_of kept_same) ∙ e in
      let us = closed (width b) (stack b.widths) in
      let count : length (closed (width b) s.widths) ≡ length us = ap (λ z. length (closed (width b) z)) g.widths in
      let t : Token = token_at k.Outdent 0 s in
      let same : kept (width b) s.widths ≡ stack (width b ∷ b.widths) = kept_same ∙ sym (pushed_open (width b) (kept (width b) (stack b.widths)) there) in
      begins (replicate (length us) t)
      record { between = between; no_tab = no_tab; marked = open_ us t (let q = top in omega arith) (top_open (width b) b.widths there) (open_above (width b) b.widths) refl (empty_at k.Outdent) refl } flat
      (λ i. Ok (record s { margin = None; widths = same i; tokens = s.tokens ++ replicate (count i) t }))

  missed : (line : ℕ) → line ≡ b.from_line → width b ≤ width_of s.widths → (width_of (kept (width b) s.widths) ≡ width b → ⊥) → Outcome b s (Err (fault_at f.Indent line))
  missed line is le never =
      fails (fault_at f.Indent line) refl (λ no_gap. uneven between no_gap no_tab (let q = top in omega arith) (λ o. never (ap width_of kept_same ∙ open_top (width b) b.widths o)) (ap (fault_at f.Indent) is))

  tried : width b ≤ width_of s.widths → Outcome b s (at_width (width b) b.from_line (close_above (width b) s.widths (record s { margin = None })))
  tried le =
      let P : State → Type 0 = λ t. Outcome b s (at_width (width b) b.from_line t) in
      subst P (sym (closes_above (width b) s.widths (record s { margin = None }) refl))
      (by_test (Outcome b s) (width_of (kept (width b) s.widths) == width b) _ _
      (λ t. reached le (eqb-true _ _ t))
      (λ t. missed b.from_line refl le (λ same. false_not_true (sym t ∙ eq-eqb _ _ same))))

  set : Outcome b s (set_width (width b) b.from_line (record s { margin = None }))
  unfolding set_width
  set = by_test (Outcome b s) (nat_lt (width_of s.widths) (width b)) _ _ (λ t. opened (ltb-true _ _ t)) (λ t. tried (ltb-false _ _ t))

indent_outcome : (m : Option Margin) (b : Before) (s : State) → s.margin ≡ m → Stands b s → Outcome b s (indent_by m s)
indent_outcome None b s is g = let P : Option Margin → Type 0 = λ x. MarginIs x s.open_brackets b in stays (subst P is g.margin) is refl
indent_outcome (Some m) b s is g =
    let P : Option Margin → Type 0 = λ x. MarginIs x s.open_brackets b in
    let known = subst P is g.margin in
    let Q : Margin → Type 0 = λ x. Outcome b s (cond x.tab (Err (fault_at f.Tab x.line)) (set_width x.width x.line (record s { margin = None }))) in
    subst Q (sym known.1) (by_test (Outcome b s) (margin_of b.from b.from_line).tab _ _
    (λ t. fails (fault_at f.Tab b.from_line) refl (λ no_gap. tab known.0 no_gap t refl))
    (λ t. set b s g known.0 (λ h. false_not_true (sym t ∙ h)) known.2))

indents : (b : Before) (s : State) → Stands b s → Outcome b s (indent s)
unfolding indent
indents b s g = indent_outcome s.margin b s refl g

-- ---- brackets

data NestOutcome (lexeme : Lexeme) (t : State) (r : Result State (Fault TokenFault)) : Type 0 where
  nests_to : (us : List OpenBracket) → nested lexeme t.line t.open_brackets ≡ Some us → r ≡ Ok (record t { open_brackets = us }) → NestOutcome lexeme t r
  none_open : (kind : TokenKind) → lexeme ≡ Closes kind → closed_by t.open_brackets kind ≡ None → r ≡ Err (fault_at f.Bracket t.line) → NestOutcome lexeme t r

close_outcome : (os : List OpenBracket) (kind : TokenKind) (t : State) → t.open_brackets ≡ os → NestOutcome (Closes kind) t (close_by os kind t)
close_outcome [] kind t is = none_open kind refl (ap (λ z. closed_by z kind) is) refl
close_outcome (o ∷ os) kind t is =
    let same : closed_by t.open_brackets kind ≡ closed_by (o ∷ os) kind = ap (λ z. closed_by z kind) is in
    by_test (NestOutcome (Closes kind) t) (same_kind o.closing kind) _ _
    (λ y. let yes : closed_by (o ∷ os) kind ≡ Some os = rw y refl in nests_to os (same ∙ yes) refl)
    (λ n. let no : closed_by (o ∷ os) kind ≡ None = rw n refl in none_open kind refl (same ∙ no) refl)

nest_by_outcome : (lexeme : Lexeme) (t : State) → NestOutcome lexeme t (nest_by lexeme t)
nest_by_outcome (Plain kind) t = nests_to t.open_brackets refl refl
nest_by_outcome (Opens kind closing) t = nests_to _ refl refl
nest_by_outcome (Closes kind) t = close_outcome t.open_brackets kind t refl

nest_outcome : (lexeme : Lexeme) (t : State) → NestOutcome lexeme t (nest lexeme t)
unfolding nest
nest_outcome lexeme t = nest_by_outcome lexeme t

-- ---- tokens

module _ (b : Before) (s : State) (lexeme : Lexeme) (e : Extent) (cut : IsCut s.rest e) (spells : IsSpelled lexeme (take e.len s.rest) (drop e.len s.rest)) (g : Stands b s) where
  u : Token
  u = token_of (kind_of lexeme) (take e.len s.rest) b

  abbrev Next : Result State (Fault TokenFault) → Type 0
  Next r = SoundStep b s (and_then r (λ v. Ok (push_token (kind_of lexeme) e v)))

  opened_so : (us : List OpenBracket) → nested lexeme s.line s.open_brackets ≡ Some us
      → opened_by (kind_of lexeme) b.line s.open_brackets ≡ Some us
  opened_so us n = nests lexeme _ _ spells b.line s.open_brackets ∙ ap (λ l. nested lexeme l s.open_brackets) (sym g.line) ∙ n

  in_line : IsInLine b.tokens → s.margin ≡ None → (r : Result State (Fault TokenFault)) → NestOutcome lexeme s r → Next r
  in_line inl_ unset r (nests_to us n is) =
      let tok : Token = token_of (kind_of lexeme) (take e.len s.rest) b in
      let next = skip_stands b s e cut g in
      let c : Before = past (take e.len s.rest) (with_tokens (tok ∷ []) b) in
      let leaves : Leaves (b.tokens ++ tok ∷ []) us = one_token tok g.leaves (opened_so us n) refl in
      let P : Option Margin → Type 0 = λ x. MarginIs x us c in
      subst Next (sym is) (
        c,
        token lexeme (take e.len s.rest) us (all b s e cut g) spells inl_ leaves refl,
        record {
          at = next.at;
          line = next.line;
          tokens = λ i. g.tokens i ++ same_token b s e cut g (kind_of lexeme) i ∷ [];
          leaves = leaves;
          widths = g.widths;
          margin = subst P (sym unset) record { before = b.tokens; last = tok; whole = refl; open_ = no_newline lexeme _ _ spells };
        },
      )
  in_line inl_ unset r (none_open kind same n is) =
      let P : Lexeme → Type 0 = λ l. IsSpelled l (take e.len s.rest) (drop e.len s.rest) in
      subst Next (sym is) (closes_none kind (take e.len s.rest) (drop e.len s.rest) s.open_brackets (all b s e cut g) (subst P same spells) (inside inl_) g.leaves n (ap (fault_at f.Bracket) g.line))

  at_first : (marks : List Token) → IsIndented b marks → (r : Result State (Fault TokenFault)) → NestOutcome lexeme (indented_state b s marks) r → Next r
  at_first marks ind r (nests_to us n is) =
      let tok : Token = token_of (kind_of lexeme) (take e.len s.rest) b in
      let next = skip_stands b s e cut g in
      let c : Before = past (take e.len s.rest) (record (with_tokens (marks ++ tok ∷ []) b) { widths = width b ∷ b.widths }) in
      let assoc : b.tokens ++ (marks ++ tok ∷ []) ≡ (b.tokens ++ marks) ++ tok ∷ [] = sym (append_assoc b.tokens marks (tok ∷ [])) in
      let before : Leaves (b.tokens ++ marks) s.open_brackets = marks_leave (IsEmptyAt b) (width b) b.widths marks b.tokens s.open_brackets ind.marked g.leaves in
      let leaves : Leaves (b.tokens ++ (marks ++ tok ∷ [])) us = one_token tok before (opened_so us n) assoc in
      let same : (s.tokens ++ marks) ++ token_at (kind_of lexeme) e.len s ∷ [] ≡ (b.tokens ++ marks) ++ tok ∷ [] = λ i. (g.tokens i ++ marks) ++ same_token b s e cut g (kind_of lexeme) i ∷ [] in
      subst Next (sym is) (
        c,
        first_token lexeme (take e.len s.rest) us marks (all b s e cut g) spells ind leaves refl,
        record {
          at = next.at;
          line = next.line;
          tokens = same ∙ sym assoc;
          leaves = leaves;
          widths = refl;
          margin = record { before = b.tokens ++ marks; last = tok; whole = assoc; open_ = no_newline lexeme _ _ spells };
        },
      )
  at_first marks ind r (none_open kind same n is) =
      let P : Lexeme → Type 0 = λ l. IsSpelled l (take e.len s.rest) (drop e.len s.rest) in
      subst Next (sym is) (closes_none kind (take e.len s.rest) (drop e.len s.rest) s.open_brackets (all b s e cut g) (subst P same spells) (indented marks ind) g.leaves n (ap (fault_at f.Bracket) g.line))

  abbrev Whole : Result State (Fault TokenFault) → Type 0
  Whole r = SoundStep b s (and_then r (λ t. and_then (nest lexeme t) (λ v. Ok (push_token (kind_of lexeme) e v))))

  by_indent : (r : Result State (Fault TokenFault)) → Outcome b s r → Whole r
  by_indent r (stays inl_ unset is) = subst Whole (sym is) (in_line inl_ unset (nest lexeme s) (nest_outcome lexeme s))
  by_indent r (begins marks ind flat is) = subst Whole (sym is) (at_first marks ind (nest lexeme (indented_state b s marks)) (nest_outcome lexeme (indented_state b s marks)))
  by_indent r (fails x is why) = subst Whole (sym is) (why (spelled lexeme (take e.len s.rest) (drop e.len s.rest) (all b s e cut g) spells))

refuses : (b : Before) (s : State) (kind : TokenFault) (lines : ℕ) → IsMisspelled s.rest kind lines → Stands b s → (r : Result State (Fault TokenFault)) → Outcome b s r
    → SoundStep b s (and_then r (λ t. Err (fault_at kind (s.line + lines))))
refuses b s kind lines m g r (stays inl_ unset is) =
    let P : Result State (Fault TokenFault) → Type 0 = λ x. SoundStep b s (and_then x (λ t. Err (fault_at kind (s.line + lines)))) in
    subst P (sym is) (unspelled kind lines m (inside inl_) (ap (λ l. fault_at kind (l + lines)) g.line))
refuses b s kind lines m g r (begins marks ind flat is) =
    let P : Result State (Fault TokenFault) → Type 0 = λ x. SoundStep b s (and_then x (λ t. Err (fault_at kind (s.line + lines)))) in
    subst P (sym is) (unspelled kind lines m (indented marks ind) (ap (λ l. fault_at kind (l + lines)) g.line))
refuses b s kind lines m g r (fails x is why) =
    let P : Result State (Fault TokenFault) → Type 0 = λ x. SoundStep b s (and_then x (λ t. Err (fault_at kind (s.line + lines)))) in
    subst P (sym is) (why (misspelled kind lines m))

advances : (p : Piece) (b : Before) (s : State) → Fits s.rest p → Means s.rest p → Stands b s → SoundStep b s (advance p s)
unfolding end_line take_token refuse
advances (Gap e) b s part m g =
    let cut = cut_of s.rest e part m.1 in
    (past (take e.len s.rest) b, gap (take e.len s.rest) (all b s e cut g) m.0 refl, skip_stands b s e cut g)
advances (LineEnd e) b s part m g = end_line_step s.open_brackets s.margin b s e refl refl (cut_of s.rest e part m.1) m.0 g
advances (Lexed lexeme e) b s part m g = by_indent b s lexeme e (cut_of s.rest e part m.1) m.0 g (indent s) (indents b s g)
advances (Bad kind lines) b s part m g = refuses b s kind lines m g (indent s) (indents b s g)

steps : (b : Before) (s : State) → 0 < length s.rest → Stands b s → SoundStep b s (step s)
unfolding step
steps b s some g = advances (next_piece s.rest) b s (fits s.rest some) (means s.rest some) g

-- ---- the end of the text

abbrev Told : Before → List ℕ → Result (List Token) (Fault TokenFault) → Type 0
Told b text (Ok ts) = (c : Before) × Cut b text c [] × Finishes c ts
Told b text (Err e) = (c : Before) × (rest : List ℕ) × Cut b text c rest × FaultAfter c rest e

module _ (b : Before) (s : State) (g : Stands b s) where
  last_token : (kind : TokenKind) → token_at kind 0 s ≡ token_of kind [] b
  last_token kind = λ i. record { kind = kind; start = g.at i; end = g.at i + 0; line = g.line i }

  outs : (supplied : List Token) (t : State) → t.widths ≡ s.widths → t.at ≡ s.at → t.line ≡ s.line → t.tokens ≡ b.tokens ++ supplied
      → (close_above 0 t.widths t).tokens ≡ b.tokens ++ supplied ++ replicate (length (closed 0 (stack b.widths))) (token_of k.Outdent [] b)
  outs supplied t same_widths same_at same_line is =
      let count : length (closed 0 t.widths) ≡ length (closed 0 (stack b.widths)) = ap (λ z. length (closed 0 z)) (same_widths ∙ g.widths) in
      let tok : token_at k.Outdent 0 t ≡ token_of k.Outdent [] b = (λ i. record { kind = k.Outdent; start = same_at i; end = same_at i + 0; line = same_line i }) ∙ last_token k.Outdent in
      ap (λ z. z.tokens) (closes_above 0 t.widths t refl) ∙ (λ i. is i ++ replicate (count i) (tok i))

  ended : (m : Option Margin) → s.margin ≡ m → s.open_brackets ≡ [] → Finishes b ((close_above 0 s.widths (end_text m s)).tokens)
  ended None is flat =
      let P : Option Margin → Type 0 = λ x. MarginIs x s.open_brackets b in
      let t : Token = token_of k.Newline [] b in
      record {
        closed = subst (Leaves b.tokens) flat g.leaves;
        supplied = t ∷ [];
        supplies = newline (subst P is g.margin) refl;
        us = closed 0 (stack b.widths);
        above = open_above 0 b.widths;
        whole = outs (t ∷ []) (push_empty k.Newline s) refl refl refl (λ i. g.tokens i ++ last_token k.Newline i ∷ []);
      }
  ended (Some m) is flat =
      let P : Option Margin → Type 0 = λ x. MarginIs x s.open_brackets b in
      record {
        closed = subst (Leaves b.tokens) flat g.leaves;
        supplied = [];
        supplies = none (subst P is g.margin).0 refl;
        us = closed 0 (stack b.widths);
        above = open_above 0 b.widths;
        whole = outs [] s refl refl refl (g.tokens ∙ sym (append-nil b.tokens));
      }

  finished : (os : List OpenBracket) → s.open_brackets ≡ os → s.rest ≡ [] → Told b s.rest (finish_by os s)
  finished (o ∷ os) is e = (b, s.rest, here, never_closed o os e (subst (Leaves b.tokens) is g.leaves) refl)
  finished [] is e = let P : List ℕ → Type 0 = λ xs. Cut b xs b [] in (b, subst P (sym e) here, ended s.margin refl is)

  finishes : s.rest ≡ [] → Told b s.rest (finish s)
  unfolding finish
  finishes e = finished s.open_brackets refl e

goes_on : (b c : Before) (text mid : List ℕ) (r : Result (List Token) (Fault TokenFault)) → Takes b text c mid → Told c mid r → Told b text r
goes_on b c text mid (Ok ts) t (d, cut, end) = (d, on t cut, end)
goes_on b c text mid (Err e) t (d, rest, cut, fault) = (d, rest, on t cut, fault)

told : {s : State} {r : Result (List Token) (Fault TokenFault)} → Runs s r → (b : Before) → Stands b s → Told b s.rest r
told {s = s} (ends e h) b g = subst (Told b s.rest) h (finishes b s g e)
told {s = s} (stops {e = x} some h) b g = let P : Result State (Fault TokenFault) → Type 0 = SoundStep b s in (b, s.rest, here, subst P h (steps b s some g))
told {s = s} {r = r} (goes {t = t} some h more) b g =
    let P : Result State (Fault TokenFault) → Type 0 = SoundStep b s in
    let n = subst P h (steps b s some g) in
    goes_on b n.0 s.rest t.rest r n.1 (told more n.0 n.2)

at_start : (text : List ℕ) → Stands (beginning text) (start text)
at_start text = record { at = refl; line = refl; tokens = refl; leaves = no_token; widths = refl; margin = (first refl, refl, refl) }

abbrev Law : List ℕ → Result (List Token) (Fault TokenFault) → Type 0
Law text (Ok ts) = Reads text ts
Law text (Err e) = (e ≡ fault_at f.FileTooLong (line_behind (take max_file_bytes text))) × (max_file_bytes < length text) ⊎ IsFaulty text e

by_told : (text : List ℕ) (r : Result (List Token) (Fault TokenFault)) → Told (beginning text) text r → Law text r
by_told text (Ok ts) (c, cut, end) = record { end = c; cut = cut; finishes = end }
by_told text (Err e) (c, rest, cut, fault) = inr record { end = c; rest = rest; cut = cut; fault = fault }

law : (text : List ℕ) (r : Result (List Token) (Fault TokenFault)) → Lexes text r → Law text r
law text r (too_long l) = inl (refl, l)
law text r (cut_short l h) = by_told text r (told h (beginning text) (at_start text))

pub reads : (text : List ℕ) (ts : List Token) → Lexes text (Ok ts) → Reads text ts
reads text ts h = law text (Ok ts) h

pub faulty : (text : List ℕ) (e : Fault TokenFault) → Lexes text (Err e) → (e ≡ fault_at f.FileTooLong (line_behind (take max_file_bytes text))) × (max_file_bytes < length text) ⊎ IsFaulty text e
faulty text e h = law text (Err e) h
