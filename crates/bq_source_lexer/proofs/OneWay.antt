-- From each place the words lead on in one way.
use Rattle.std.proofs.Common.{◌≡◌, ℕ, ◌+◌, List, [], ◌∷◌, ◌++◌, length, take, drop, Option, Some, None, Result, Ok, Err, refl, sym, ap, ◌∙◌, subst, arith, append_assoc}
use Rattle.std.proofs.lemmas.List.{take_at, drop_at}
use Rattle.bq_source.specs.declared.token.TokenKind.{TokenKind}
use Rattle.bq_source.specs.declared.token.TokenKind.TheVariants as k
use Rattle.bq_source.specs.declared.token.Token.{Token}
use Rattle.bq_source_lexer.specs.declared.place.OpenBracket.{OpenBracket}
use Rattle.bq_source.specs.declared.operators.Lexeme.{Lexeme}
use Rattle.bq_source.specs.declared.operators.Lexeme.TheVariants.{Closes}
use Rattle.bq_source.specs.declared.piece.Extent.{Extent}
use Rattle.bq_source.specs.declared.piece.Piece.{Piece}
use Rattle.bq_source.specs.declared.piece.Piece.TheVariants.{Gap, LineEnd, Lexed, Bad}
use Rattle.bq_base.specs.declared.fault.Fault.{Fault}
use Rattle.bq_base.specs.declared.fault.TokenFault.{TokenFault}
use Rattle.bq_base.specs.declared.fault.TokenFault.TheVariants as f
use Rattle.bq_base.specs.Fault.{fault_at}
use Rattle.bq_source.specs.Operators.{kind_of}
use Rattle.bq_source.specs.Spelling.{IsSpelled, IsNoGap, spelled, misspelled}
use Rattle.bq_source_lexer.specs.Layout as layout
use Rattle.bq_source_lexer.specs.Layout.{closed_by, opened_by, Leaves, IsInLine, IsBetween, Before, beginning, past, line_from, token_of, with_tokens, width, IsEmptyAt, IsIndented, Takes, Cut, here, on, Finishes, Reads, IsPlaced, FaultAfter, IsFaulty}
use Rattle.bq_source_lexer.proofs.LexemeKinds.{nested, nests}
use Rattle.bq_source_lexer.proofs.LaidOut.{marks_leave}
use Rattle.bq_source_lexer.proofs.Pieces.{extent_of, Next, gap_next, line_end_next, spelled_next, misspelled_next}
use Rattle.bq_source_lexer.proofs.Places.{one_leaving, LastOf, last_of, before_last, not_both, Indents, in_line, at_start, at_tab, at_uneven, one_indent, one_finish}

-- where the text leads: the place after the next piece and the rest, or a fault
abbrev Way : Type 0
Way = Result (Before × List ℕ) (Fault TokenFault)

-- the text is the bytes of this piece and the rest
record Split (text : List ℕ) (e : Extent) : Type 0 where
  bs : List ℕ
  rest : List ℕ
  whole : text ≡ bs ++ rest
  long : extent_of bs ≡ e

module _ (text : List ℕ) (e : Extent) (s t : Split text e) where
  same_bytes : s.bs ≡ t.bs
  same_bytes =
      let n : length s.bs ≡ e.len = ap (λ x. x.len) s.long in
      let m : length t.bs ≡ e.len = ap (λ x. x.len) t.long in
      sym (take_at s.bs s.rest e.len n) ∙ ap (take e.len) (sym s.whole ∙ t.whole) ∙ take_at t.bs t.rest e.len m

  same_rest : s.rest ≡ t.rest
  same_rest =
      let n : length s.bs ≡ e.len = ap (λ x. x.len) s.long in
      let m : length t.bs ≡ e.len = ap (λ x. x.len) t.long in
      sym (drop_at s.bs s.rest e.len n) ∙ ap (drop e.len) (sym s.whole ∙ t.whole) ∙ drop_at t.bs t.rest e.len m

-- ---- line ends

abbrev after_line : List ℕ → List ℕ → Before → Way
after_line bs rest b = Ok (line_from rest (past bs (with_tokens (token_of k.Newline bs b ∷ []) b)), rest)

data Ends (b : Before) (bs rest : List ℕ) : Way → Type 0 where
  in_brackets : (o : OpenBracket) (os : List OpenBracket) → IsInLine b.tokens → Leaves b.tokens (o ∷ os) → Ends b bs rest (Ok (past bs b, rest))
  blank_line : IsBetween b.tokens → Ends b bs rest (Ok (line_from rest (past bs b), rest))
  line_end : IsInLine b.tokens → Leaves b.tokens [] → Ends b bs rest (after_line bs rest b)

none_and_some : (o : OpenBracket) (os : List OpenBracket) → o ∷ os ≡ [] → ⊥
none_and_some o os e = cc

one_end : {b : Before} {bs rest : List ℕ} {r q : Way} → Ends b bs rest r → Ends b bs rest q → r ≡ q
one_end (in_brackets o os h l) (in_brackets p ps g m) = refl
one_end {b = b} (in_brackets o os h l) (blank_line g) = absurd (not_both b.tokens h g)
one_end (in_brackets o os h l) (line_end g m) = absurd (none_and_some o os (one_leaving l m))
one_end {b = b} (blank_line g) (in_brackets o os h l) = absurd (not_both b.tokens h g)
one_end (blank_line g) (blank_line h) = refl
one_end {b = b} (blank_line g) (line_end h m) = absurd (not_both b.tokens h g)
one_end (line_end g m) (in_brackets o os h l) = absurd (none_and_some o os (one_leaving l m))
one_end {b = b} (line_end h m) (blank_line g) = absurd (not_both b.tokens h g)
one_end (line_end h m) (line_end g l) = refl

-- ---- tokens

abbrev after_token : Before → Lexeme → List ℕ → Option (List Token) → Before
after_token b lexeme bs None = past bs (with_tokens (token_of (kind_of lexeme) bs b ∷ []) b)
after_token b lexeme bs (Some marks) = past bs (record (with_tokens (marks ++ token_of (kind_of lexeme) bs b ∷ []) b) { widths = width b ∷ b.widths })

data Lexes (b : Before) (lexeme : Lexeme) (bs rest : List ℕ) : Way → Type 0 where
  taken : (m : Option (List Token)) (us : List OpenBracket) → Indents b (Ok m) → Leaves (after_token b lexeme bs m).tokens us → Lexes b lexeme bs rest (Ok (after_token b lexeme bs m, rest))
  not_indented : (x : Fault TokenFault) → Indents b (Err x) → Lexes b lexeme bs rest (Err x)
  closes_none : (m : Option (List Token)) (kind : TokenKind) (os : List OpenBracket) → Indents b (Ok m) → lexeme ≡ Closes kind → IsSpelled lexeme bs rest → Leaves b.tokens os
      → closed_by os kind ≡ None → Lexes b lexeme bs rest (Err (fault_at f.Bracket b.line))

ok_err : {A B : Type 0} (x : A) (y : B) → Ok x ≡ Err y → ⊥
ok_err x y e = cc

same_ok : {A B : Type 0} (x y : A) → ◌≡◌ {A = Result A B} (Ok x) (Ok y) → x ≡ y
same_ok x y e = cc

-- where a token leaves brackets, it closed one
closing_leaves : (b : Before) (before : List Token) (t : Token) (lexeme : Lexeme) (kind : TokenKind) (bs rest : List ℕ) (os us : List OpenBracket) → t.kind ≡ kind_of lexeme → lexeme ≡ Closes kind
    → IsSpelled lexeme bs rest → Leaves before os → Leaves (before ++ t ∷ []) us → closed_by os kind ≡ None → ⊥
closing_leaves b before t lexeme kind bs rest os us same is spells h g none = by_last (before_last before t g refl)
  where
    by_last : LastOf before t us → ⊥
    by_last (last_of ps i o) =
        let e : ps ≡ os = one_leaving i h in
        let n : opened_by (kind_of lexeme) t.line os ≡ nested lexeme t.line os = nests lexeme bs rest spells t.line os in
        let both : Some us ≡ None = sym o ∙ (λ j. opened_by (same j) t.line (e j)) ∙ n ∙ ap (λ l. nested l t.line os) is ∙ none in
        cc

closing_taken : (b : Before) (lexeme : Lexeme) (kind : TokenKind) (bs rest : List ℕ) (m : Option (List Token)) (os us : List OpenBracket) → Indents b (Ok m) → lexeme ≡ Closes kind
    → IsSpelled lexeme bs rest → Leaves b.tokens os → Leaves (after_token b lexeme bs m).tokens us → closed_by os kind ≡ None → ⊥
closing_taken b lexeme kind bs rest None os us ind is spells h g none =
    closing_leaves b b.tokens (token_of (kind_of lexeme) bs b) lexeme kind bs rest os us refl is spells h g none
closing_taken b lexeme kind bs rest (Some marks) os us ind is spells h g none =
    let t : Token = token_of (kind_of lexeme) bs b in
    let P : List Token → Type 0 = λ xs. Leaves xs us in
    let earlier : Leaves (b.tokens ++ marks) os = marked_leaves b marks os ind h in
    closing_leaves b (b.tokens ++ marks) t lexeme kind bs rest os us refl is spells earlier (subst P (sym (append_assoc b.tokens marks (t ∷ []))) g) none
  where
    marked_by : (b : Before) (marks : List Token) (r : Result (Option (List Token)) (Fault TokenFault)) → Indents b r → r ≡ Ok (Some marks) → IsIndented b marks
    marked_by b marks r (in_line h) e = let never : None ≡ Some marks = cc in cc
    marked_by b marks r (at_start more h) e = let same : more ≡ marks = cc in subst (IsIndented b) same h
    marked_by b marks r (at_tab h t) e = cc
    marked_by b marks r (at_uneven h t l o) e = cc

    marked_leaves : (b : Before) (marks : List Token) (os : List OpenBracket) → Indents b (Ok (Some marks)) → Leaves b.tokens os → Leaves (b.tokens ++ marks) os
    marked_leaves b marks os ind h = marks_leave (IsEmptyAt b) (width b) b.widths marks b.tokens os (marked_by b marks (Ok (Some marks)) ind refl).marked h

one_lexed : {b : Before} {lexeme : Lexeme} {bs rest : List ℕ} {r q : Way} → Lexes b lexeme bs rest r → Lexes b lexeme bs rest q → r ≡ q
one_lexed {b = b} {lexeme = lexeme} {bs = bs} {rest = rest} (taken m us h l) (taken n vs g j) = ap (λ o. Ok (after_token b lexeme bs o, rest)) (same_ok m n (one_indent h g))
one_lexed (taken m us h l) (not_indented x g) = absurd (ok_err m x (one_indent h g))
one_lexed {b = b} {lexeme = lexeme} {bs = bs} {rest = rest} (taken m us h l) (closes_none n kind os g is spells before none) = absurd (closing_taken b lexeme kind bs rest m os us h is spells before l none)
one_lexed (not_indented x g) (taken m us h l) = absurd (ok_err m x (one_indent h g))
one_lexed (not_indented x g) (not_indented y h) = same_err x y (one_indent g h)
  where
    same_err : {A B : Type 0} (x y : Fault TokenFault) → ◌≡◌ {A = Result A (Fault TokenFault)} (Err x) (Err y) → ◌≡◌ {A = Result B (Fault TokenFault)} (Err x) (Err y)
    same_err x y e = let same : x ≡ y = cc in ap Err same
one_lexed (not_indented x g) (closes_none n kind os h is spells before none) = absurd (ok_err n x (one_indent h g))
one_lexed {b = b} {lexeme = lexeme} {bs = bs} {rest = rest} (closes_none n kind os g is spells before none) (taken m us h l) = absurd (closing_taken b lexeme kind bs rest m os us h is spells before l none)
one_lexed (closes_none n kind os h is spells before none) (not_indented x g) = absurd (ok_err n x (one_indent h g))
one_lexed (closes_none n kind os h is spells before none) (closes_none m kind2 os2 g is2 spells2 before2 none2) = refl

-- ---- no piece

data Fails (b : Before) (kind : TokenFault) (lines : ℕ) : Way → Type 0 where
  ill_indented : (x : Fault TokenFault) → Indents b (Err x) → Fails b kind lines (Err x)
  ill_spelled : (m : Option (List Token)) → Indents b (Ok m) → Fails b kind lines (Err (fault_at kind (b.line + lines)))

one_failure : {b : Before} {kind : TokenFault} {lines : ℕ} {r q : Way} → Fails b kind lines r → Fails b kind lines q → r ≡ q
one_failure (ill_indented x h) (ill_indented y g) = let both = one_indent h g in let same : x ≡ y = cc in ap Err same
one_failure (ill_indented x h) (ill_spelled m g) = absurd (ok_err m x (one_indent g h))
one_failure (ill_spelled m g) (ill_indented x h) = absurd (ok_err m x (one_indent g h))
one_failure (ill_spelled m g) (ill_spelled n h) = refl

-- ---- all of them

abbrev Does : Before → List ℕ → Piece → Way → Type 0
Does b text (Gap e) r = (s : Split text e) × (r ≡ Ok (past s.bs b, s.rest))
Does b text (LineEnd e) r = (s : Split text e) × Ends b s.bs s.rest r
Does b text (Lexed lexeme e) r = (s : Split text e) × Lexes b lexeme s.bs s.rest r
Does b text (Bad kind lines) r = Fails b kind lines r

one_doing : (b : Before) (text : List ℕ) (p : Piece) (r q : Way) → Does b text p r → Does b text p q → r ≡ q
one_doing b text (Gap e) r q (s, h) (t, g) =
    let x = same_bytes text e s t in
    let y = same_rest text e s t in
    h ∙ (λ i. Ok (past (x i) b, y i)) ∙ sym g
one_doing b text (LineEnd e) r q (s, h) (t, g) =
    let x = same_bytes text e s t in
    let y = same_rest text e s t in
    let P : List ℕ → Type 0 = λ bs. Ends b bs s.rest r in
    let Q : List ℕ → Type 0 = λ rest. Ends b t.bs rest r in
    one_end (subst Q y (subst P x h)) g
one_doing b text (Lexed lexeme e) r q (s, h) (t, g) =
    let x = same_bytes text e s t in
    let y = same_rest text e s t in
    let P : List ℕ → Type 0 = λ bs. Lexes b lexeme bs s.rest r in
    let Q : List ℕ → Type 0 = λ rest. Lexes b lexeme t.bs rest r in
    one_lexed (subst Q y (subst P x h)) g
one_doing b text (Bad kind lines) r q h g = one_failure h g

-- the way from a place where the text goes on
pub record Leads (b : Before) (text : List ℕ) (r : Result (Before × List ℕ) (Fault TokenFault)) : Type 0 where
  piece : Piece
  next : Next text piece
  does : Does b text piece r

pub one_way : (b : Before) (text : List ℕ) (r q : Result (Before × List ℕ) (Fault TokenFault)) → Leads b text r → Leads b text q → r ≡ q
one_way b text r q h g =
    let same : h.piece ≡ g.piece = sym h.next.1 ∙ g.next.1 in
    let P : Piece → Type 0 = λ p. Does b text p r in
    one_doing b text g.piece r q (subst P same h.does) g.does

-- ---- the words lead that way

abbrev split_of : (text bs rest : List ℕ) → text ≡ bs ++ rest → Split text (extent_of bs)
split_of text bs rest e = record { bs = bs; rest = rest; whole = e; long = refl }

next_of : (text bs rest : List ℕ) (p : Piece) → text ≡ bs ++ rest → Next (bs ++ rest) p → Next text p
next_of text bs rest p e h = let P : List ℕ → Type 0 = λ xs. Next xs p in subst P (sym e) h

at_place : (b c d : Before) (text rest : List ℕ) → c ≡ d → Leads b text (Ok (d, rest)) → Leads b text (Ok (c, rest))
at_place b c d text rest e h = let P : Before → Type 0 = λ x. Leads b text (Ok (x, rest)) in subst P (sym e) h

pub takes_leads : (b c : Before) (text rest : List ℕ) → Takes b text c rest → Leads b text (Ok (c, rest))
takes_leads b c text rest (layout.gap bs e h is) =
    at_place b c _ text rest is record { piece = Gap (extent_of bs); next = next_of text bs rest _ e (gap_next bs rest h); does = (split_of text bs rest e, refl) }
takes_leads b c text rest (layout.in_brackets bs o os e h inl_ l is) =
    at_place b c _ text rest is record { piece = LineEnd (extent_of bs); next = next_of text bs rest _ e (line_end_next bs rest h); does = (split_of text bs rest e, in_brackets o os inl_ l) }
takes_leads b c text rest (layout.blank_line bs e h between is) =
    at_place b c _ text rest is record { piece = LineEnd (extent_of bs); next = next_of text bs rest _ e (line_end_next bs rest h); does = (split_of text bs rest e, blank_line between) }
takes_leads b c text rest (layout.line_end bs e h inl_ l is) =
    at_place b c _ text rest is record { piece = LineEnd (extent_of bs); next = next_of text bs rest _ e (line_end_next bs rest h); does = (split_of text bs rest e, line_end inl_ l) }
takes_leads b c text rest (layout.token lexeme bs us e h inl_ l is) =
    let P : Before → Type 0 = λ x. Leaves x.tokens us in
    at_place b c (after_token b lexeme bs None) text rest is record {
      piece = Lexed lexeme (extent_of bs);
      next = next_of text bs rest _ e (spelled_next lexeme bs rest h);
      does = (split_of text bs rest e, taken None us (in_line inl_) (subst P is l));
    }
takes_leads b c text rest (layout.first_token lexeme bs us marks e h ind l is) =
    let P : Before → Type 0 = λ x. Leaves x.tokens us in
    at_place b c (after_token b lexeme bs (Some marks)) text rest is record {
      piece = Lexed lexeme (extent_of bs);
      next = next_of text bs rest _ e (spelled_next lexeme bs rest h);
      does = (split_of text bs rest e, taken (Some marks) us (at_start marks ind) (subst P is l));
    }

-- a fault at the end of the text, or at a piece
pub data FaultWay (b : Before) (text : List ℕ) (x : Fault TokenFault) : Type 0 where
  at_end : (o : OpenBracket) (os : List OpenBracket) → text ≡ [] → Leaves b.tokens (o ∷ os) → x ≡ fault_at f.Bracket o.line → FaultWay b text x
  at_piece : Leads b text (Err x) → FaultWay b text x

placed : (b : Before) → IsPlaced b → (m : Option (List Token)) × Indents b (Ok m)
placed b (layout.inside h) = (None, in_line h)
placed b (layout.indented marks h) = (Some marks, at_start marks h)

with_fault : (b : Before) (text : List ℕ) (x y : Fault TokenFault) → x ≡ y → Leads b text (Err y) → FaultWay b text x
with_fault b text x y e h = let P : Fault TokenFault → Type 0 = λ z. Leads b text (Err z) in at_piece (subst P (sym e) h)

ill_placed : (b : Before) (text : List ℕ) (x : Fault TokenFault) → IsNoGap text → Indents b (Err x) → Leads b text (Err x)
ill_placed b text x (spelled lexeme bs rest e h) ind =
    record { piece = Lexed lexeme (extent_of bs); next = next_of text bs rest _ e (spelled_next lexeme bs rest h); does = (split_of text bs rest e, not_indented x ind) }
ill_placed b text x (misspelled kind lines h) ind = record { piece = Bad kind lines; next = misspelled_next h; does = ill_indented x ind }

pub fault_leads : (b : Before) (text : List ℕ) (x : Fault TokenFault) → FaultAfter b text x → FaultWay b text x
fault_leads b text x (layout.misspelled kind lines h at_ is) =
    let p = placed b at_ in
    with_fault b text x _ is record { piece = Bad kind lines; next = misspelled_next h; does = ill_spelled p.0 p.1 }
fault_leads b text x (layout.tab between no_gap t is) = with_fault b text x _ is (ill_placed b text _ no_gap (at_tab between t))
fault_leads b text x (layout.uneven between no_gap no_tab le never is) = with_fault b text x _ is (ill_placed b text _ no_gap (at_uneven between no_tab le never))
fault_leads b text x (layout.closes_none kind bs rest os e h at_ l never is) =
    let p = placed b at_ in
    with_fault b text x _ is record {
      piece = Lexed (Closes kind) (extent_of bs);
      next = next_of text bs rest _ e (spelled_next (Closes kind) bs rest h);
      does = (split_of text bs rest e, closes_none p.0 kind os p.1 refl h l never);
    }
fault_leads b text x (layout.never_closed o os e l is) = at_end o os e l is

-- ---- a text as a whole

-- what the words say of a text from a place on
data Goes : Before → List ℕ → Result (List Token) (Fault TokenFault) → Type 0 where
  over : {b : Before} {text : List ℕ} {ts : List Token} → text ≡ [] → Finishes b ts → Goes b text (Ok ts)
  unclosed : {b : Before} {text : List ℕ} (o : OpenBracket) (os : List OpenBracket) → text ≡ [] → Leaves b.tokens (o ∷ os) → Goes b text (Err (fault_at f.Bracket o.line))
  stops : {b : Before} {text : List ℕ} {x : Fault TokenFault} → Leads b text (Err x) → Goes b text (Err x)
  onward : {b c : Before} {text rest : List ℕ} {r : Result (List Token) (Fault TokenFault)} → Leads b text (Ok (c, rest)) → Goes c rest r → Goes b text r

ended : {b : Before} {text : List ℕ} {r : Result (Before × List ℕ) (Fault TokenFault)} → text ≡ [] → Leads b text r → ⊥
ended e h = let some = h.next.0 in let none : length _ ≡ 0 = ap length e in absurd (omega arith)

one_going : {b : Before} {text : List ℕ} {r q : Result (List Token) (Fault TokenFault)} → Goes b text r → Goes b text q → r ≡ q
one_going {b = b} (over {ts = ts} e h) (over {ts = us} i g) = ap Ok (one_finish b ts us h g)
one_going (over e h) (unclosed o os i g) = absurd (none_and_some o os (one_leaving g h.closed))
one_going (over e h) (stops g) = absurd (ended e g)
one_going (over e h) (onward g m) = absurd (ended e g)
one_going (unclosed o os i g) (over e h) = absurd (none_and_some o os (one_leaving g h.closed))
one_going (unclosed o os e h) (unclosed p ps i g) = let both = one_leaving h g in let same : o ≡ p = cc in ap (λ z. Err (fault_at f.Bracket z.line)) same
one_going (unclosed o os e h) (stops g) = absurd (ended e g)
one_going (unclosed o os e h) (onward g m) = absurd (ended e g)
one_going (stops g) (over e h) = absurd (ended e g)
one_going (stops g) (unclosed o os e h) = absurd (ended e g)
one_going {b = b} {text = text} (stops {x = x} g) (stops {x = y} h) = let both = one_way b text _ _ g h in let same : x ≡ y = cc in ap Err same
one_going {b = b} {text = text} (stops {x = x} g) (onward {c = c} {rest = rest} h m) = absurd (ok_err (c, rest) x (one_way b text _ _ h g))
one_going (onward g m) (over e h) = absurd (ended e g)
one_going (onward g m) (unclosed o os e h) = absurd (ended e g)
one_going {b = b} {text = text} (onward {c = c} {rest = rest} h m) (stops {x = x} g) = absurd (ok_err (c, rest) x (one_way b text _ _ h g))
one_going {b = b} {text = text} {q = q} (onward {c = c} {rest = rest} g m) (onward {c = d} {rest = tail} h n) =
    let same = same_ok (d, tail) (c, rest) (one_way b text _ _ h g) in
    one_going m (subst (λ p. Goes p.0 p.1 q) same n)

cut_goes : {b c : Before} {text rest : List ℕ} {r : Result (List Token) (Fault TokenFault)} → Cut b text c rest → Goes c rest r → Goes b text r
cut_goes here h = h
cut_goes {b = b} {text = text} (on {c = d} {mid = mid} t cut) h = onward (takes_leads b d text mid t) (cut_goes cut h)

stopped : (b : Before) (text : List ℕ) (x : Fault TokenFault) → FaultWay b text x → Goes b text (Err x)
stopped b text x (at_end o os e h is) = let P : Fault TokenFault → Type 0 = λ z. Goes b text (Err z) in subst P (sym is) (unclosed o os e h)
stopped b text x (at_piece h) = stops h

reads_goes : (text : List ℕ) (ts : List Token) → Reads text ts → Goes (beginning text) text (Ok ts)
reads_goes text ts h = cut_goes h.cut (over refl h.finishes)

faulty_goes : (text : List ℕ) (x : Fault TokenFault) → IsFaulty text x → Goes (beginning text) text (Err x)
faulty_goes text x h = cut_goes h.cut (stopped h.end h.rest x (fault_leads h.end h.rest x h.fault))

pub one_cutting : (text : List ℕ) (ts us : List Token) → Reads text ts → Reads text us → ts ≡ us
one_cutting text ts us h g = let both = one_going (reads_goes text ts h) (reads_goes text us g) in same_ok ts us both

pub one_fault : (text : List ℕ) (x y : Fault TokenFault) → IsFaulty text x → IsFaulty text y → x ≡ y
one_fault text x y h g = let both = one_going (faulty_goes text x h) (faulty_goes text y g) in cc

pub apart : (text : List ℕ) (ts : List Token) (x : Fault TokenFault) → Reads text ts → IsFaulty text x → ⊥
apart text ts x h g = ok_err ts x (one_going (reads_goes text ts h) (faulty_goes text x g))
