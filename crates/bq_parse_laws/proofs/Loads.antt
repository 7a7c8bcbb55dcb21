-- Words, strings and loads.
use Rattle.std.proofs.Common.{◌≡◌, ℕ, Bool, true, false, cond, List, [], ◌∷◌, ◌++◌, Option, Some, None, Ok, Err, refl, sym, ap, ◌∙◌, subst, arith}
use Rattle.bq_source.specs.declared.token.TokenKind.{TokenKind}
use Rattle.bq_source.specs.declared.token.TokenKind.TheVariants as k
use Rattle.bq_source.specs.StringLiteral.{string_value}
use Rattle.bq_source.specs.Token.{same_kind}
use Rattle.bq_parse_grammar.specs.Lexeme.{Lexeme}
use Rattle.bq_parse_grammar.specs.declared.refusal.SyntaxErr.TheVariants.{Syntax}
use Rattle.bq_parse_grammar.specs.declared.tree.Identifier.{Identifier}
use Rattle.bq_parse_grammar.specs.declared.tree.LoadClause.{LoadClause}
use Rattle.bq_parse_grammar.specs.declared.tree.SmallKind.{SmallKind}
use Rattle.bq_parse_grammar.specs.declared.tree.SmallKind.TheVariants as small
use Rattle.bq_parse_grammar.specs.Literals.{identifier, is_identifier, named}
use Rattle.bq_parse_grammar.specs.Phrases.{Listed}
use Rattle.bq_parse_grammar.specs.Statements as S
use Rattle.bq_parse_grammar.specs.Statements.{line_of, IsLoadClause, IsSmallKind}
use Rattle.bq_parse_grammar.specs.Turns.{◌>>=◌, sees, expect, listed_from}
use Rattle.bq_parse_grammar.specs.Reading.{word}
use Rattle.bq_parse_grammar.specs.ReadingStatements.{text_of, text, symbol, load_clause, load_after, load}
use Rattle.bq_parse_grammar.proofs.NextToken.{is_kind, sees_it, sees_other}
use Rattle.bq_parse_grammar.proofs.Classes.{any, paren_comma}
use Rattle.bq_parse_grammar.proofs.Agrees.{Begins, Stops, Owes, Met, met, Agrees, either, Never, seq_never, never_then, expects, opens, sees_owes, then_is, met_as, met_less, met_over, met_done, met_then, met_expect, met_yes, met_no, listed_sound, listed_complete}

-- ---- words

abbrev pub IsWord : List Lexeme → List Lexeme → Identifier → Type 0
IsWord ts rest n = (t : Lexeme) × (ts ≡ t ∷ rest) × (t.kind ≡ k.Identifier) × (n ≡ identifier t)

pub word_sound : (ts : List Lexeme) → Owes Identifier (IsWord ts) (word ts)
word_sound [] = tt
word_sound (t ∷ ts) = either (Owes Identifier (IsWord (t ∷ ts))) (sees k.Identifier (t ∷ ts)) (Ok (identifier t, ts)) (Err Syntax) (λ h. (t, refl, is_kind t.kind k.Identifier h, refl)) (λ h. tt)

pub word_never : (ts : List Lexeme) → Never (word ts)
word_never [] = tt
word_never (t ∷ ts) = either Never (sees k.Identifier (t ∷ ts)) (Ok (identifier t, ts)) (Err Syntax) (λ h. tt) (λ h. tt)

pub word_met : (n : Lexeme) (ts : List Lexeme) → n.kind ≡ k.Identifier → Met 1 (n ∷ ts) (word (n ∷ ts)) (identifier n) ts
word_met n ts f = met_yes (sees k.Identifier (n ∷ ts)) (Ok (identifier n, ts)) (Err Syntax) (sees_it n ts k.Identifier f) (met refl (omega arith))

-- ---- strings

abbrev IsText : List Lexeme → List Lexeme → List ℕ → Type 0
IsText ts rest b = (t : Lexeme) × (ts ≡ t ∷ rest) × (t.kind ≡ k.String) × (string_value t.spelling ≡ Some b)

abbrev IsSymbol : List Lexeme → List Lexeme → List ℕ → Type 0
IsSymbol ts rest b = (t : Lexeme) × (ts ≡ t ∷ rest) × (t.kind ≡ k.String) × (string_value t.spelling ≡ Some b) × (is_identifier b ≡ true)

text_sound : (ts : List Lexeme) → Owes (List ℕ) (IsText ts) (text ts)
text_sound [] = tt
text_sound (t ∷ ts) = go (sees k.String (t ∷ ts)) (is_kind t.kind k.String) (string_value t.spelling) refl
  where
    go : (b : Bool) → (b ≡ true → t.kind ≡ k.String) → (o : Option (List ℕ)) → string_value t.spelling ≡ o → Owes (List ℕ) (IsText (t ∷ ts)) (cond b (text_of o ts) (Err Syntax))
    go false f o g = tt
    go true f None g = tt
    go true f (Some b) g = (t, refl, f refl, g)

text_never : (ts : List Lexeme) → Never (text ts)
text_never [] = tt
text_never (t ∷ ts) = go (sees k.String (t ∷ ts)) (string_value t.spelling)
  where
    go : (b : Bool) (o : Option (List ℕ)) → Never (cond b (text_of o ts) (Err Syntax))
    go false o = tt
    go true None = tt
    go true (Some b) = tt

text_met : (t : Lexeme) (rest : List Lexeme) (b : List ℕ) → t.kind ≡ k.String → string_value t.spelling ≡ Some b → Met 1 (t ∷ rest) (text (t ∷ rest)) b rest
text_met t rest b f g = met (ap (λ c. cond c (text_of (string_value t.spelling) rest) (Err Syntax)) (sees_it t rest k.String f) ∙ ap (λ o. text_of o rest) g) (omega arith)

symbol_sound : (ts : List Lexeme) → Owes (List ℕ) (IsSymbol ts) (symbol ts)
unfolding symbol
symbol_sound ts = seq_never (IsText ts) (IsSymbol ts) (text ts) (λ b rest. cond (is_identifier b) (Ok (b, rest)) (Err Syntax)) (text_never ts) (text_sound ts)
    (λ b mid w. either (Owes (List ℕ) (IsSymbol ts)) (is_identifier b) (Ok (b, mid)) (Err Syntax) (λ h. (w.0, w.1, w.2, w.3, h)) (λ h. tt))

symbol_never : (ts : List Lexeme) → Never (symbol ts)
unfolding symbol
symbol_never ts = never_then (text ts) (λ b rest. cond (is_identifier b) (Ok (b, rest)) (Err Syntax)) (text_never ts)
    (λ b mid. either Never (is_identifier b) (Ok (b, mid)) (Err Syntax) (λ h. tt) (λ h. tt))

symbol_met : (t : Lexeme) (rest : List Lexeme) (b : List ℕ) → t.kind ≡ k.String → string_value t.spelling ≡ Some b → is_identifier b ≡ true → Met 1 (t ∷ rest) (symbol (t ∷ rest)) b rest
unfolding symbol
symbol_met t rest b f g h = met_then (text (t ∷ rest)) (λ b rest. cond (is_identifier b) (Ok (b, rest)) (Err Syntax)) (text_met t rest b f g)
    (met_yes (is_identifier b) (Ok (b, rest)) (Err Syntax) h (met_done b rest))

-- ---- load clauses

abbrev clause_of : Identifier → List ℕ → LoadClause
clause_of n b = record { local = n; symbol = b }

abbrev same_name_of : ℕ → List ℕ → LoadClause
same_name_of line b = record { local = named b line; symbol = b }

abbrev first_load : TokenKind → Bool
first_load k.String = true
first_load k.Identifier = true
first_load _ = false

word_string : same_kind k.Identifier k.String ≡ false
unfolding same_kind
word_string = refl

load_clause_agrees : Agrees first_load any IsLoadClause load_clause
unfolding load_clause
load_clause_agrees = record { begins = begins; sound = sound; complete = complete }
  where
    begins : (ts rest : List Lexeme) (y : LoadClause) → IsLoadClause ts rest y → Begins first_load ts
    begins ts rest y (S.same_name f g h i) = ap first_load f
    begins ts rest y (S.renamed f g h i j l) = ap first_load f

    sound : (ts : List Lexeme) → Owes LoadClause (IsLoadClause ts) (load_clause ts)
    sound ts = either (Owes LoadClause (IsLoadClause ts)) (sees k.String ts) (symbol ts >>= λ b rest. Ok (same_name_of (line_of ts) b, rest))
        (word ts >>= λ n mid. expect k.Assign mid >>= λ _ us. symbol us >>= λ b rest. Ok (clause_of n b, rest))
        (λ h. then_is (IsSymbol ts) (IsLoadClause ts) (symbol ts) (same_name_of (line_of ts)) (symbol_sound ts)
        (λ b rest w. subst (λ m. IsLoadClause m rest (same_name_of (line_of m) b)) (sym w.1) (S.same_name w.2 w.3 w.4 refl)))
        (λ h. seq_never (IsWord ts) (IsLoadClause ts) (word ts) (λ n mid. expect k.Assign mid >>= λ _ us. symbol us >>= λ b rest. Ok (clause_of n b, rest)) (word_never ts) (word_sound ts)
        (λ n mid w. expects (λ m. ts ≡ w.0 ∷ m) (IsLoadClause ts) k.Assign mid (λ _ us. symbol us >>= λ b rest. Ok (clause_of n b, rest)) w.1
        (λ q us g v. then_is (IsSymbol us) (IsLoadClause ts) (symbol us) (clause_of n) (symbol_sound us)
        (λ b rest u. subst (λ m. IsLoadClause m rest (clause_of n b)) (sym (v ∙ ap (λ m. w.0 ∷ q ∷ m) u.1)) (S.renamed w.2 g u.2 u.3 u.4 (ap (λ n. clause_of n b) w.3))))))

    complete : (ts rest : List Lexeme) (y : LoadClause) → IsLoadClause ts rest y → Stops any rest → Met 1 ts (load_clause ts) y rest
    complete ts rest y (S.same_name {t = t} {b = b} f g h i) st =
        met_yes (sees k.String (t ∷ rest)) (symbol (t ∷ rest) >>= λ b rest. Ok (same_name_of t.line b, rest)) _ (sees_it t rest k.String f)
        (met_then (symbol (t ∷ rest)) (λ b rest. Ok (same_name_of t.line b, rest)) (symbol_met t rest b f g h) (met_as (sym i) (met_done (same_name_of t.line b) rest)))
    complete ts rest y (S.renamed {n = n} {q = q} {t = t} {b = b} f g h i j l) st =
        met_no (sees k.String (n ∷ q ∷ t ∷ rest)) _ (word (n ∷ q ∷ t ∷ rest) >>= λ n mid. expect k.Assign mid >>= λ _ us. symbol us >>= λ b rest. Ok (clause_of n b, rest))
        (sees_other n (q ∷ t ∷ rest) k.String k.Identifier f word_string)
        (met_then (word (n ∷ q ∷ t ∷ rest)) (λ n mid. expect k.Assign mid >>= λ _ us. symbol us >>= λ b rest. Ok (clause_of n b, rest)) (word_met n (q ∷ t ∷ rest) f)
        (met_less (met_expect k.Assign q (t ∷ rest) (λ _ us. symbol us >>= λ b rest. Ok (clause_of (identifier n) b, rest)) g
        (met_less (met_then (symbol (t ∷ rest)) (λ b rest. Ok (clause_of (identifier n) b, rest)) (symbol_met t rest b h i j) (met_as (sym l) (met_done (clause_of (identifier n) b) rest)))))))

-- ---- loads

abbrev load_of : List ℕ → List LoadClause → SmallKind
load_of b xs = small.Load (record { label = b; clauses = xs })

pub load_sound : (depth : ℕ) (t : Lexeme) (ts : List Lexeme) → t.kind ≡ k.Load → Owes SmallKind (IsSmallKind depth (t ∷ ts)) (load ts)
unfolding load
load_sound depth t ts f = opens (λ m. IsSmallKind depth (t ∷ m)) k.LeftParen ts (λ _ us. text us >>= λ b mid. load_after b mid)
    (λ o us g. seq_never (IsText us) (IsSmallKind depth (t ∷ o ∷ us)) (text us) (λ b mid. load_after b mid) (text_never us) (text_sound us)
    (λ b mid w. sees_owes (λ m. us ≡ w.0 ∷ m) (IsSmallKind depth (t ∷ o ∷ us)) k.Comma mid
    (λ vs. listed_from k.RightParen load_clause [] vs >>= λ xs rest. Ok (load_of b xs, rest)) (expect k.RightParen mid >>= λ _ rest. Ok (load_of b [], rest)) w.1
    (λ c vs h v. then_is (λ rest ys. (xs : List LoadClause) × (ys ≡ [] ++ xs) × Listed k.RightParen IsLoadClause vs rest xs) (IsSmallKind depth (t ∷ o ∷ us))
    (listed_from k.RightParen load_clause [] vs) (load_of b) (listed_sound IsLoadClause load_clause load_clause_agrees k.RightParen [] vs)
    (λ ys rest u. subst (λ m. IsSmallKind depth (t ∷ o ∷ m) rest (load_of b ys)) (sym v) (S.load f g w.2 w.3 h u.2 (ap (load_of b) u.1))))
    (λ h. expects (λ m. us ≡ w.0 ∷ m) (IsSmallKind depth (t ∷ o ∷ us)) k.RightParen mid (λ _ rest. Ok (load_of b [], rest)) w.1
    (λ c vs h v. subst (λ m. IsSmallKind depth (t ∷ o ∷ m) vs (load_of b [])) (sym v) (S.load_alone f g w.2 w.3 h refl)))))

pub load_met : (o m c : Lexeme) (ts rest : List Lexeme) (b : List ℕ) (xs : List LoadClause) (y : SmallKind) → o.kind ≡ k.LeftParen → m.kind ≡ k.String → string_value m.spelling ≡ Some b
    → c.kind ≡ k.Comma → Listed k.RightParen IsLoadClause ts rest xs → y ≡ load_of b xs → Met 1 (o ∷ m ∷ c ∷ ts) (load (o ∷ m ∷ c ∷ ts)) y rest
unfolding load
load_met o m c ts rest b xs y f g h i ps j =
    met_expect k.LeftParen o (m ∷ c ∷ ts) (λ _ us. text us >>= λ b mid. load_after b mid) f
    (met_less (met_then (text (m ∷ c ∷ ts)) (λ b mid. load_after b mid) (text_met m (c ∷ ts) b g h)
    (met_yes (sees k.Comma (c ∷ ts)) (listed_from k.RightParen load_clause [] ts >>= λ xs rest. Ok (load_of b xs, rest)) _ (sees_it c ts k.Comma i)
    (met_less (met_over c ts (met_less (met_then (listed_from k.RightParen load_clause [] ts) (λ xs rest. Ok (load_of b xs, rest))
    (listed_complete IsLoadClause load_clause load_clause_agrees k.RightParen refl refl refl paren_comma [] ts rest xs ps) (met_as (sym j) (met_done (load_of b xs) rest)))))))))

pub load_alone_met : (o m c : Lexeme) (rest : List Lexeme) (b : List ℕ) (y : SmallKind) → o.kind ≡ k.LeftParen → m.kind ≡ k.String → string_value m.spelling ≡ Some b
    → c.kind ≡ k.RightParen → y ≡ load_of b [] → Met 1 (o ∷ m ∷ c ∷ rest) (load (o ∷ m ∷ c ∷ rest)) y rest
unfolding load
load_alone_met o m c rest b y f g h i j =
    met_expect k.LeftParen o (m ∷ c ∷ rest) (λ _ us. text us >>= λ b mid. load_after b mid) f
    (met_less (met_then (text (m ∷ c ∷ rest)) (λ b mid. load_after b mid) (text_met m (c ∷ rest) b g h)
    (met_no (sees k.Comma (c ∷ rest)) _ (expect k.RightParen (c ∷ rest) >>= λ _ rest. Ok (load_of b [], rest)) (sees_other c rest k.Comma k.RightParen i paren_comma)
    (met_less (met_expect k.RightParen c rest (λ _ rest. Ok (load_of b [], rest)) i (met_as (sym j) (met_done (load_of b []) rest)))))))
