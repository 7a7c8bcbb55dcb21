-- Parameters, each as those before it allow.
use Rattle.std.proofs.Common.{◌≡◌, ℕ, zero, suc, ◌≤◌, Bool, true, false, ◌&&◌, cond, List, [], ◌∷◌, ◌++◌, length, Option, Some, None, Ok, Err, refl, sym, ap, ◌∙◌, subst, append_assoc, append-nil, arith}
use Rattle.bq_source.specs.declared.token.TokenKind.{TokenKind}
use Rattle.bq_source.specs.declared.token.TokenKind.TheVariants as k
use Rattle.bq_source.specs.Token.{same_kind}
use Rattle.bq_parse_grammar.specs.Lexeme.{Lexeme}
use Rattle.bq_parse_grammar.specs.declared.refusal.SyntaxErr.TheVariants.{Memory, Syntax, Lambda}
use Rattle.bq_parse_grammar.specs.declared.tree.Nested.TheVariants.{Test}
use Rattle.bq_parse_grammar.specs.declared.parameters.AllowedParameters.{AllowedParameters}
use Rattle.bq_parse_grammar.specs.declared.parameters.AllowedParameters.TheVariants as ap
use Rattle.bq_parse_grammar.specs.declared.parameters.ParameterKind.{ParameterKind}
use Rattle.bq_parse_grammar.specs.declared.parameters.ParameterKind.TheVariants as pk
use Rattle.bq_parse_grammar.specs.declared.tree.Parameter.{Parameter}
use Rattle.bq_parse_grammar.specs.declared.tree.Parameter.TheVariants as p
use Rattle.bq_parse_grammar.specs.Literals.{identifier}
use Rattle.bq_parse_grammar.specs.Grammar.{IsTestTo}
use Rattle.bq_parse_grammar.specs.Statements as S
use Rattle.bq_parse_grammar.specs.Statements.{parameters_after, may_end, IsParameter, AreParameters}
use Rattle.bq_parse_grammar.specs.Turns.{Found, Parse, ◌>>=◌, sees, next, expect, Turn, ended, goes, failed, next_turn, turns, cut_off}
use Rattle.bq_parse_grammar.specs.Reading.{word, is_named, phrase}
use Rattle.bq_parse_grammar.specs.ReadingStatements.{parameter_kind, parameter_by, allowed_parameter, parameter, close_parameters, with_parameter, parameter_turn, parameters}
use Rattle.bq_parse_grammar.proofs.NextToken.{is_kind, sees_it, sees_other, opened, tok, tok_kind}
use Rattle.bq_parse_grammar.proofs.Classes.{ends, paren_comma}
use Rattle.bq_parse_grammar.proofs.Agrees.{Begins, Stops, Owes, Met, met, cut, seq_never, expects, then_is, owes_as, met_is, met_as, met_less, met_over, met_done, met_then, met_expect, begins_no}
use Rattle.bq_parse_grammar.proofs.Vars.{test_to_agrees}
use Rattle.bq_parse_laws.proofs.Loads.{IsWord, word_sound, word_never, word_met}

-- ---- which parameter comes next, by its first tokens

abbrev kind_by : Bool → Bool → Bool → Bool → ParameterKind
kind_by stars star named_star named = cond stars pk.StarStar (cond star (cond named_star pk.Star pk.BareStar) (cond named pk.Default pk.Plain))

default_by : (a b c d : Bool) → kind_by a b c d ≡ pk.Default → d ≡ true
default_by true b c d h = absurd (cc)
default_by false true true d h = absurd (cc)
default_by false true false d h = absurd (cc)
default_by false false c true h = refl
default_by false false c false h = absurd (cc)

bare_by : (a b c d : Bool) → kind_by a b c d ≡ pk.BareStar → b ≡ true
bare_by true b c d h = absurd (cc)
bare_by false true c d h = refl
bare_by false false c true h = absurd (cc)
bare_by false false c false h = absurd (cc)

star_by : (a b c d : Bool) → kind_by a b c d ≡ pk.Star → b ≡ true
star_by true b c d h = absurd (cc)
star_by false true c d h = refl
star_by false false c true h = absurd (cc)
star_by false false c false h = absurd (cc)

stars_by : (a b c d : Bool) → kind_by a b c d ≡ pk.StarStar → a ≡ true
stars_by true b c d h = refl
stars_by false true true d h = absurd (cc)
stars_by false true false d h = absurd (cc)
stars_by false false c true h = absurd (cc)
stars_by false false c false h = absurd (cc)

both_on : (a b : Bool) → (a && b) ≡ true → (a ≡ true) × (b ≡ true)
both_on true true h = (refl, refl)
both_on true false h = absurd (cc)
both_on false b h = absurd (cc)

and_off : (a b : Bool) → b ≡ false → (a && b) ≡ false
and_off true b h = h
and_off false b h = refl

is_it : (a b c d a' b' c' d' : Bool) → a ≡ a' → b ≡ b' → c ≡ c' → d ≡ d' → kind_by a b c d ≡ kind_by a' b' c' d'
is_it a b c d a' b' c' d' f g h i = ap (λ x. kind_by x b c d) f ∙ ap (λ x. kind_by a' x c d) g ∙ ap (λ x. kind_by a' b' x d) h ∙ ap (λ x. kind_by a' b' c' x) i

word_star : same_kind k.Identifier k.Star ≡ false
unfolding same_kind
word_star = refl

word_stars : same_kind k.Identifier k.StarStar ≡ false
unfolding same_kind
word_stars = refl

star_stars : same_kind k.Star k.StarStar ≡ false
unfolding same_kind
star_stars = refl

comma_word : same_kind k.Comma k.Identifier ≡ false
unfolding same_kind
comma_word = refl

paren_word : same_kind k.RightParen k.Identifier ≡ false
unfolding same_kind
paren_word = refl

comma_assign : same_kind k.Comma k.Assign ≡ false
unfolding same_kind
comma_assign = refl

paren_assign : same_kind k.RightParen k.Assign ≡ false
unfolding same_kind
paren_assign = refl

abbrev first_parameter : TokenKind → Bool
first_parameter k.Identifier = true
first_parameter k.Star = true
first_parameter k.StarStar = true
first_parameter _ = false

abbrev is_bare : ParameterKind → Bool
is_bare pk.BareStar = true
is_bare _ = false

bare_is : (q : ParameterKind) → is_bare q ≡ true → q ≡ pk.BareStar
bare_is pk.BareStar h = refl
bare_is _ h = absurd (cc)

abbrev may_end_of : Option AllowedParameters → Bool
may_end_of None = true
may_end_of (Some s) = may_end s

-- a name has to come only after a bare star
others_end : (s : AllowedParameters) (q : ParameterKind) → is_bare q ≡ false → may_end_of (parameters_after s q) ≡ true
others_end ap.All pk.Plain h = refl
others_end ap.All pk.Default h = refl
others_end ap.All pk.BareStar h = absurd (cc)
others_end ap.All pk.Star h = refl
others_end ap.All pk.StarStar h = refl
others_end ap.AfterDefault pk.Plain h = refl
others_end ap.AfterDefault pk.Default h = refl
others_end ap.AfterDefault pk.BareStar h = absurd (cc)
others_end ap.AfterDefault pk.Star h = refl
others_end ap.AfterDefault pk.StarStar h = refl
others_end ap.AfterBareStar pk.Plain h = refl
others_end ap.AfterBareStar pk.Default h = refl
others_end ap.AfterBareStar pk.BareStar h = absurd (cc)
others_end ap.AfterBareStar pk.Star h = refl
others_end ap.AfterBareStar pk.StarStar h = refl
others_end ap.AfterStar pk.Plain h = refl
others_end ap.AfterStar pk.Default h = refl
others_end ap.AfterStar pk.BareStar h = absurd (cc)
others_end ap.AfterStar pk.Star h = refl
others_end ap.AfterStar pk.StarStar h = refl
others_end ap.AfterStarStar pk.Plain h = refl
others_end ap.AfterStarStar pk.Default h = refl
others_end ap.AfterStarStar pk.BareStar h = absurd (cc)
others_end ap.AfterStarStar pk.Star h = refl
others_end ap.AfterStarStar pk.StarStar h = refl

-- a comma or the closing bracket
abbrev ends_parameter : TokenKind → Bool
ends_parameter k.Comma = true
ends_parameter k.RightParen = true
ends_parameter _ = false

module _ (depth : ℕ) where
  abbrev Is : ParameterKind → List Lexeme → List Lexeme → Parameter → Type 0
  Is q ts rest x = IsParameter (IsTestTo depth) q ts rest x

  default_of : (n q : Lexeme) (ts : List Lexeme) → n.kind ≡ k.Identifier → q.kind ≡ k.Assign
      → Owes Parameter (Is pk.Default (n ∷ q ∷ ts)) (word (n ∷ q ∷ ts) >>= λ n mid. expect k.Assign mid >>= λ _ us. phrase (suc depth) Test us >>= λ x rest. Ok (p.Default n x, rest))
  default_of n q ts f g = seq_never (IsWord (n ∷ q ∷ ts)) (Is pk.Default (n ∷ q ∷ ts)) (word (n ∷ q ∷ ts)) (λ n mid. expect k.Assign mid >>= λ _ us. phrase (suc depth) Test us >>= λ x rest. Ok (p.Default n x, rest))
      (word_never (n ∷ q ∷ ts)) (word_sound (n ∷ q ∷ ts))
      (λ m mid w. expects (λ l. (n ∷ q ∷ ts) ≡ w.0 ∷ l) (Is pk.Default (n ∷ q ∷ ts)) k.Assign mid (λ _ us. phrase (suc depth) Test us >>= λ x rest. Ok (p.Default m x, rest)) w.1
      (λ u us h v. then_is (IsTestTo depth us) (Is pk.Default (n ∷ q ∷ ts)) (phrase (suc depth) Test us) (p.Default m) ((test_to_agrees depth).sound us)
      (λ x rest r. subst (λ l. Is pk.Default l rest (p.Default m x)) (sym v) (S.default w.2 h r (ap (λ n. p.Default n x) w.3)))))

  parameter_owes : (q : ParameterKind) (ts : List Lexeme) → parameter_kind ts ≡ q → Owes Parameter (Is q ts) (parameter_by (suc depth) q ts)
  parameter_owes pk.Plain ts h = then_is (IsWord ts) (Is pk.Plain ts) (word ts) p.Plain (word_sound ts) (λ n rest w. subst (λ m. Is pk.Plain m rest (p.Plain n)) (sym w.1) (S.plain w.2 (ap p.Plain w.3)))
  parameter_owes pk.Default [] h = absurd (cc)
  parameter_owes pk.Default (n ∷ []) h = let w = default_by (sees k.StarStar (n ∷ [])) (sees k.Star (n ∷ [])) false false h in absurd (cc)
  parameter_owes pk.Default (n ∷ q ∷ ts) h =
      let w = both_on (same_kind n.kind k.Identifier) (same_kind q.kind k.Assign) (default_by (sees k.StarStar (n ∷ q ∷ ts)) (sees k.Star (n ∷ q ∷ ts)) (sees k.Identifier (q ∷ ts)) (is_named (n ∷ q ∷ ts)) h) in
      default_of n q ts (is_kind n.kind k.Identifier w.0) (is_kind q.kind k.Assign w.1)
  parameter_owes pk.BareStar [] h = absurd (cc)
  parameter_owes pk.BareStar (t ∷ ts) h = S.bare (is_kind t.kind k.Star (bare_by (sees k.StarStar (t ∷ ts)) (sees k.Star (t ∷ ts)) (sees k.Identifier ts) (is_named (t ∷ ts)) h)) refl
  parameter_owes pk.Star [] h = absurd (cc)
  parameter_owes pk.Star (t ∷ ts) h = then_is (IsWord ts) (Is pk.Star (t ∷ ts)) (word ts) p.Star (word_sound ts)
      (λ n rest w. subst (λ m. Is pk.Star (t ∷ m) rest (p.Star n)) (sym w.1)
      (S.star (is_kind t.kind k.Star (star_by (sees k.StarStar (t ∷ ts)) (sees k.Star (t ∷ ts)) (sees k.Identifier ts) (is_named (t ∷ ts)) h)) w.2 (ap p.Star w.3)))
  parameter_owes pk.StarStar [] h = absurd (cc)
  parameter_owes pk.StarStar (t ∷ ts) h = then_is (IsWord ts) (Is pk.StarStar (t ∷ ts)) (word ts) p.StarStar (word_sound ts)
      (λ n rest w. subst (λ m. Is pk.StarStar (t ∷ m) rest (p.StarStar n)) (sym w.1)
      (S.star_star (is_kind t.kind k.StarStar (stars_by (sees k.StarStar (t ∷ ts)) (sees k.Star (t ∷ ts)) (sees k.Identifier ts) (is_named (t ∷ ts)) h)) w.2 (ap p.StarStar w.3)))

  abbrev Allows : AllowedParameters → List Lexeme → List Lexeme → Parameter × AllowedParameters → Type 0
  Allows s ts rest z = (q : ParameterKind) × (parameters_after s q ≡ Some z.1) × Is q ts rest z.0

  parameter_sound : (s : AllowedParameters) (ts : List Lexeme) → Owes (Parameter × AllowedParameters) (Allows s ts) (parameter (suc depth) s ts)
  unfolding parameter
  parameter_sound s ts = go (parameters_after s (parameter_kind ts)) refl
    where
      go : (o : Option AllowedParameters) → parameters_after s (parameter_kind ts) ≡ o → Owes (Parameter × AllowedParameters) (Allows s ts) (allowed_parameter (suc depth) o (parameter_kind ts) ts)
      go None h = tt
      go (Some s') h = then_is (Is (parameter_kind ts) ts) (Allows s ts) (parameter_by (suc depth) (parameter_kind ts) ts) (λ x. (x, s'))
          (parameter_owes (parameter_kind ts) ts refl) (λ x rest r. (parameter_kind ts, h, r))

  parameter_begins : (q : ParameterKind) (ts rest : List Lexeme) (x : Parameter) → Is q ts rest x → Begins first_parameter ts
  parameter_begins q ts rest x (S.plain f g) = ap first_parameter f
  parameter_begins q ts rest x (S.default f g r h) = ap first_parameter f
  parameter_begins q ts rest x (S.bare f g) = ap first_parameter f
  parameter_begins q ts rest x (S.star f g h) = ap first_parameter f
  parameter_begins q ts rest x (S.star_star f g h) = ap first_parameter f

  -- what follows a parameter
  record Over (rest : List Lexeme) : Type 0 where
    no_word : sees k.Identifier rest ≡ false
    no_assign : sees k.Assign rest ≡ false
    stops : Stops (ends 11) rest

  over_paren : (t : Lexeme) (rest : List Lexeme) → t.kind ≡ k.RightParen → Over (t ∷ rest)
  over_paren t rest f = record {
    no_word = sees_other t rest k.Identifier k.RightParen f paren_word;
    no_assign = sees_other t rest k.Assign k.RightParen f paren_assign;
    stops = subst (λ q. ends 11 q ≡ true) (sym f) refl;
  }

  over_comma : (t : Lexeme) (rest : List Lexeme) → t.kind ≡ k.Comma → Over (t ∷ rest)
  over_comma t rest f = record {
    no_word = sees_other t rest k.Identifier k.Comma f comma_word;
    no_assign = sees_other t rest k.Assign k.Comma f comma_assign;
    stops = subst (λ q. ends 11 q ≡ true) (sym f) refl;
  }

  named_off : (n : Lexeme) (rest : List Lexeme) → sees k.Assign rest ≡ false → is_named (n ∷ rest) ≡ false
  named_off n [] h = refl
  named_off n (u ∷ us) h = and_off (same_kind n.kind k.Identifier) (same_kind u.kind k.Assign) h

  kind_met : (q : ParameterKind) (ts rest : List Lexeme) (x : Parameter) → Is q ts rest x → Over rest → parameter_kind ts ≡ q
  kind_met q ts rest x (S.plain {n = n} f g) o =
      is_it (sees k.StarStar (n ∷ rest)) (sees k.Star (n ∷ rest)) (sees k.Identifier rest) (is_named (n ∷ rest)) false false (sees k.Identifier rest) false
      (sees_other n rest k.StarStar k.Identifier f word_stars) (sees_other n rest k.Star k.Identifier f word_star) refl (named_off n rest o.no_assign)
  kind_met q ts rest x (S.default {n = n} {q = w} {ts = us} f g r h) o =
      is_it (sees k.StarStar (n ∷ w ∷ us)) (sees k.Star (n ∷ w ∷ us)) (sees k.Identifier (w ∷ us)) (is_named (n ∷ w ∷ us)) false false (sees k.Identifier (w ∷ us)) true
      (sees_other n (w ∷ us) k.StarStar k.Identifier f word_stars) (sees_other n (w ∷ us) k.Star k.Identifier f word_star) refl
      (ap (λ b. b && same_kind w.kind k.Assign) (sees_it n (w ∷ us) k.Identifier f) ∙ sees_it w us k.Assign g)
  kind_met q ts rest x (S.bare {t = t} f g) o =
      is_it (sees k.StarStar (t ∷ rest)) (sees k.Star (t ∷ rest)) (sees k.Identifier rest) (is_named (t ∷ rest)) false true false (is_named (t ∷ rest))
      (sees_other t rest k.StarStar k.Star f star_stars) (sees_it t rest k.Star f) o.no_word refl
  kind_met q ts rest x (S.star {t = t} {n = n} f g h) o =
      is_it (sees k.StarStar (t ∷ n ∷ rest)) (sees k.Star (t ∷ n ∷ rest)) (sees k.Identifier (n ∷ rest)) (is_named (t ∷ n ∷ rest)) false true true (is_named (t ∷ n ∷ rest))
      (sees_other t (n ∷ rest) k.StarStar k.Star f star_stars) (sees_it t (n ∷ rest) k.Star f) (sees_it n rest k.Identifier g) refl
  kind_met q ts rest x (S.star_star {t = t} {n = n} f g h) o = ap (λ b. kind_by b (sees k.Star (t ∷ n ∷ rest)) (sees k.Identifier (n ∷ rest)) (is_named (t ∷ n ∷ rest))) (sees_it t (n ∷ rest) k.StarStar f)

  by_met : (q : ParameterKind) (ts rest : List Lexeme) (x : Parameter) → Is q ts rest x → Over rest → Met 1 ts (parameter_by (suc depth) q ts) x rest
  by_met q ts rest x (S.plain {n = n} f g) o = met_then (word (n ∷ rest)) (λ n rest. Ok (p.Plain n, rest)) (word_met n rest f) (met_as (sym g) (met_done (p.Plain (identifier n)) rest))
  by_met q ts rest x (S.default {n = n} {q = w} {ts = us} {x = y} f g r h) o =
      met_then (word (n ∷ w ∷ us)) (λ n mid. expect k.Assign mid >>= λ _ us. phrase (suc depth) Test us >>= λ x rest. Ok (p.Default n x, rest)) (word_met n (w ∷ us) f)
      (met_less (met_expect k.Assign w us (λ _ us. phrase (suc depth) Test us >>= λ x rest. Ok (p.Default (identifier n) x, rest)) g
      (met_less (met_then (phrase (suc depth) Test us) (λ x rest. Ok (p.Default (identifier n) x, rest)) ((test_to_agrees depth).complete us rest y r o.stops) (met_as (sym h) (met_done (p.Default (identifier n) y) rest))))))
  by_met q ts rest x (S.bare {t = t} f g) o = met_over t rest (met_as (sym g) (met_done p.BareStar rest))
  by_met q ts rest x (S.star {t = t} {n = n} f g h) o =
      met_over t (n ∷ rest) (met_less (met_then (word (n ∷ rest)) (λ n rest. Ok (p.Star n, rest)) (word_met n rest g) (met_as (sym h) (met_done (p.Star (identifier n)) rest))))
  by_met q ts rest x (S.star_star {t = t} {n = n} f g h) o =
      met_over t (n ∷ rest) (met_less (met_then (word (n ∷ rest)) (λ n rest. Ok (p.StarStar n, rest)) (word_met n rest g) (met_as (sym h) (met_done (p.StarStar (identifier n)) rest))))

  parameter_met : (s s' : AllowedParameters) (q : ParameterKind) (ts rest : List Lexeme) (x : Parameter) → parameters_after s q ≡ Some s' → Is q ts rest x → Over rest
      → Met 1 ts (parameter (suc depth) s ts) (x, s') rest
  unfolding parameter
  parameter_met s s' q ts rest x ok r o =
      met_is _ (allowed_parameter (suc depth) (Some s') q ts)
      (ap (λ j. allowed_parameter (suc depth) (parameters_after s j) j ts) (kind_met q ts rest x r o) ∙ ap (λ o. allowed_parameter (suc depth) o q ts) ok)
      (met_then (parameter_by (suc depth) q ts) (λ x rest. Ok ((x, s'), rest)) (by_met q ts rest x r o) (met_done (x, s') rest))

  -- a reading that is cut at a `lambda` was reading a default, after which the parameters may end
  cut_ends : (s s' : AllowedParameters) (q : ParameterKind) (ts rest : List Lexeme) (x : Parameter) → parameter (suc depth) s ts ≡ Err Lambda → parameters_after s q ≡ Some s'
      → Is q ts (tok k.RightParen ∷ rest) x → may_end s' ≡ true
  unfolding parameter
  cut_ends s s' q ts rest x f ok r = go (is_bare q) refl
    where
      never : q ≡ pk.BareStar → ⊥
      never g = let w = sym (ap (λ j. allowed_parameter (suc depth) (parameters_after s j) j ts) (kind_met q ts (tok k.RightParen ∷ rest) x r (over_paren (tok k.RightParen) rest (tok_kind k.RightParen)) ∙ g)
          ∙ ap (λ o. allowed_parameter (suc depth) o pk.BareStar ts) (ap (parameters_after s) (sym g) ∙ ok)) ∙ f in absurd (cc)

      go : (b : Bool) → is_bare q ≡ b → may_end s' ≡ true
      go true h = absurd (never (bare_is q h))
      go false h = ap may_end_of (sym ok) ∙ others_end s q h

  -- ---- all of them

  abbrev Given : List Parameter → AllowedParameters → List Lexeme → List Lexeme → List Parameter × AllowedParameters → Type 0
  Given found s ts rest z = (xs : List Parameter) × (z.0 ≡ found ++ xs) × AreParameters (IsTestTo depth) s ts rest xs

  abbrev go_on : ℕ → Turn (List Parameter × AllowedParameters) → Found (List Parameter × AllowedParameters)
  go_on n t = next_turn (turns (parameter_turn (suc depth)) cut_off n) t

  abbrev from : ℕ → List Parameter → AllowedParameters → Parse (List Parameter × AllowedParameters)
  from n found s ts = turns (parameter_turn (suc depth)) cut_off n (found, s) ts

  parameters_owe : (n : ℕ) (found : List Parameter) (s : AllowedParameters) (ts : List Lexeme) → Owes (List Parameter × AllowedParameters) (Given found s ts) (from n found s ts)
  unfolding turns
  parameters_owe zero found s ts = tt
  parameters_owe (suc n) found s ts = go (parameters_owe n) (sees k.RightParen ts) (opened k.RightParen ts)
    where
      closed : (x : Parameter) (s' : AllowedParameters) (mid : List Lexeme) → Allows s ts mid (x, s') → (t : Lexeme) → mid ≡ t ∷ next mid → t.kind ≡ k.RightParen → (b : Bool) → may_end s' ≡ b
          → Owes (List Parameter × AllowedParameters) (Given found s ts) (go_on n (cond b (ended (found ++ x ∷ [], s') (next mid)) (failed Syntax)))
      closed x s' mid h t e f true g = (x ∷ [], refl, S.last_parameter h.1 (subst (λ m. Is h.0 ts m x) e h.2) g f)
      closed x s' mid h t e f false g = tt

      last : (x : Parameter) (s' : AllowedParameters) (mid : List Lexeme) → Allows s ts mid (x, s') → (b : Bool) → (b ≡ true → (t : Lexeme) × (mid ≡ t ∷ next mid) × (t.kind ≡ k.RightParen))
          → Owes (List Parameter × AllowedParameters) (Given found s ts) (go_on n (cond b (close_parameters (found ++ x ∷ [], s') (next mid)) (failed Syntax)))
      last x s' mid h true o = let t = o refl in closed x s' mid h t.0 t.1 t.2 (may_end s') refl
      last x s' mid h false o = tt

      after : ((found : List Parameter) (s : AllowedParameters) (ts : List Lexeme) → Owes (List Parameter × AllowedParameters) (Given found s ts) (from n found s ts))
          → (x : Parameter) (s' : AllowedParameters) (mid : List Lexeme) → Allows s ts mid (x, s') → (b : Bool) → (b ≡ true → (t : Lexeme) × (mid ≡ t ∷ next mid) × (t.kind ≡ k.Comma))
          → Owes (List Parameter × AllowedParameters) (Given found s ts)
          (go_on n (cond b (goes (found ++ x ∷ [], s') (next mid)) (cond (sees k.RightParen mid) (close_parameters (found ++ x ∷ [], s') (next mid)) (failed Syntax))))
      after more x s' mid h true o = let t = o refl in
          owes_as (Given (found ++ x ∷ []) s' (next mid)) (Given found s ts) _ (more (found ++ x ∷ []) s' (next mid))
          (λ z rest w. (x ∷ w.0, w.1 ∙ append_assoc found (x ∷ []) w.0, S.more_parameters h.1 (subst (λ m. Is h.0 ts m x) t.1 h.2) t.2 w.2))
      after more x s' mid h false o = last x s' mid h (sees k.RightParen mid) (opened k.RightParen mid)

      one : ((found : List Parameter) (s : AllowedParameters) (ts : List Lexeme) → Owes (List Parameter × AllowedParameters) (Given found s ts) (from n found s ts))
          → (z : Found (Parameter × AllowedParameters)) → z ≡ parameter (suc depth) s ts → Owes (Parameter × AllowedParameters) (Allows s ts) z
          → Owes (List Parameter × AllowedParameters) (Given found s ts) (go_on n (with_parameter found z))
      one more (Ok z) f h = after more z.0.0 z.0.1 z.1 h (sees k.Comma z.1) (opened k.Comma z.1)
      one more (Err Memory) f h = tt
      one more (Err Syntax) f h = tt
      one more (Err Lambda) f h = λ rest. let x = h (tok k.RightParen ∷ rest) in
          ((found ++ x.0.0 ∷ [], x.0.1), (x.0.0 ∷ [], refl, S.last_parameter x.1.1 x.1.2 (cut_ends s x.0.1 x.1.0 ts rest x.0.0 (sym f) x.1.1 x.1.2) (tok_kind k.RightParen)))

      go : ((found : List Parameter) (s : AllowedParameters) (ts : List Lexeme) → Owes (List Parameter × AllowedParameters) (Given found s ts) (from n found s ts))
          → (b : Bool) → (b ≡ true → (t : Lexeme) × (ts ≡ t ∷ next ts) × (t.kind ≡ k.RightParen))
          → Owes (List Parameter × AllowedParameters) (Given found s ts) (go_on n (cond b (close_parameters (found, s) (next ts)) (with_parameter found (parameter (suc depth) s ts))))
      go more true o = let t = o refl in none_left t.0 t.1 t.2 (may_end s) refl
        where
          none_left : (t : Lexeme) → ts ≡ t ∷ next ts → t.kind ≡ k.RightParen → (b : Bool) → may_end s ≡ b
              → Owes (List Parameter × AllowedParameters) (Given found s ts) (go_on n (cond b (ended (found, s) (next ts)) (failed Syntax)))
          none_left t e f true g = ([], sym (append-nil found), subst (λ m. AreParameters (IsTestTo depth) s m (next ts) []) (sym e) (S.no_parameter g f))
          none_left t e f false g = tt
      go more false o = one more (parameter (suc depth) s ts) refl (parameter_sound s ts)

  are_begin : (s : AllowedParameters) (ts rest : List Lexeme) (xs : List Parameter) → AreParameters (IsTestTo depth) s ts rest xs → ts ≡ [] → ⊥
  are_begin s ts rest xs (S.no_parameter g f) e = let w = ap (λ m. length m) e in absurd (cc)
  are_begin s ts rest xs (S.last_parameter {q = q} {t = t} {x = x} ok r g f) e = subst (Begins first_parameter) e (parameter_begins q ts (t ∷ rest) x r)
  are_begin s ts rest xs (S.more_parameters {q = q} {t = t} {mid = mid} {x = x} ok r f ps) e = subst (Begins first_parameter) e (parameter_begins q ts (t ∷ mid) x r)

  parameters_from : (n : ℕ) (found : List Parameter) (s : AllowedParameters) (ts rest : List Lexeme) (xs : List Parameter) → AreParameters (IsTestTo depth) s ts rest xs → length ts ≤ n
      → (s' : AllowedParameters) × Met 1 ts (from n found s ts) (found ++ xs, s') rest
  unfolding turns
  parameters_from zero found s [] rest xs r le = absurd (are_begin s [] rest xs r refl)
  parameters_from zero found s (u ∷ us) rest xs r le = absurd (omega (arith, le))
  parameters_from (suc n) found s ts rest xs (S.no_parameter {t = t} g f) le = (
    s,
    met_is _ (Ok ((found, s), rest))
        (ap (λ b. go_on n (cond b (close_parameters (found, s) rest) (with_parameter found (parameter (suc depth) s (t ∷ rest))))) (sees_it t rest k.RightParen f)
        ∙ ap (λ b. go_on n (cond b (ended (found, s) rest) (failed Syntax))) g)
        (met (ap (λ ys. Ok ((ys, s), rest)) (sym (append-nil found))) (omega arith)),
  )
  parameters_from (suc n) found s ts rest xs (S.last_parameter {c' = s'} {q = q} {t = t} {x = x} ok r g f) le = (
    s',
    met_is _ (go_on n (with_parameter found (parameter (suc depth) s ts)))
        (ap (λ b. go_on n (cond b (close_parameters (found, s) (next ts)) (with_parameter found (parameter (suc depth) s ts)))) (begins_no first_parameter ts k.RightParen (parameter_begins q ts (t ∷ rest) x r) refl))
        (go (parameter_met s s' q ts (t ∷ rest) x ok r (over_paren t rest f))),
  )
    where
      go : Met 1 ts (parameter (suc depth) s ts) (x, s') (t ∷ rest) → Met 1 ts (go_on n (with_parameter found (parameter (suc depth) s ts))) (found ++ x ∷ [], s') rest
      go (cut w) = cut (ap (λ z. go_on n (with_parameter found z)) w)
      go (met w l) = met (ap (λ z. go_on n (with_parameter found z)) w
          ∙ ap (λ b. go_on n (cond b (goes (found ++ x ∷ [], s') rest) (cond (sees k.RightParen (t ∷ rest)) (close_parameters (found ++ x ∷ [], s') rest) (failed Syntax)))) (sees_other t rest k.Comma k.RightParen f paren_comma)
          ∙ ap (λ b. go_on n (cond b (close_parameters (found ++ x ∷ [], s') rest) (failed Syntax))) (sees_it t rest k.RightParen f)
          ∙ ap (λ b. go_on n (cond b (ended (found ++ x ∷ [], s') rest) (failed Syntax))) g) (omega (arith, l))
  parameters_from (suc n) found s ts rest xs (S.more_parameters {c' = s'} {q = q} {t = t} {mid = mid} {x = x} {xs = ys} ok r f ps) le =
      go (λ below. parameters_from n (found ++ x ∷ []) s' mid rest ys ps below) (parameter_met s s' q ts (t ∷ mid) x ok r (over_comma t mid f))
    where
      first : from (suc n) found s ts ≡ go_on n (with_parameter found (parameter (suc depth) s ts))
      first = ap (λ b. go_on n (cond b (close_parameters (found, s) (next ts)) (with_parameter found (parameter (suc depth) s ts)))) (begins_no first_parameter ts k.RightParen (parameter_begins q ts (t ∷ mid) x r) refl)

      longer : {z : List Parameter × AllowedParameters} {g : Found (List Parameter × AllowedParameters)} → length mid ≤ length ts → Met 1 mid g z rest → Met 1 ts g z rest
      longer l (met b u) = met b (omega (arith, l, u))
      longer l (cut b) = cut b

      go : (length mid ≤ n → (s'' : AllowedParameters) × Met 1 mid (from n (found ++ x ∷ []) s' mid) ((found ++ x ∷ []) ++ ys, s'') rest) → Met 1 ts (parameter (suc depth) s ts) (x, s') (t ∷ mid)
          → (s'' : AllowedParameters) × Met 1 ts (from (suc n) found s ts) (found ++ x ∷ ys, s'') rest
      go more (cut w) = (s', cut (first ∙ ap (λ z. go_on n (with_parameter found z)) w))
      go more (met w l) = let r = more (omega (arith, l, le)) in (
        r.0,
        met_is _ _ (first ∙ ap (λ z. go_on n (with_parameter found z)) w
            ∙ ap (λ b. go_on n (cond b (goes (found ++ x ∷ [], s') mid) (cond (sees k.RightParen (t ∷ mid)) (close_parameters (found ++ x ∷ [], s') mid) (failed Syntax)))) (sees_it t mid k.Comma f))
            (met_as (ap (λ (zs : List Parameter). (zs, r.0)) (append_assoc found (x ∷ []) ys)) (longer (omega (arith, l)) r.1)),
      )

  pub parameters_sound : (ts : List Lexeme) → Owes (List Parameter) (AreParameters (IsTestTo depth) ap.All ts) (parameters (suc depth) ts)
  unfolding parameters
  parameters_sound ts = then_is (Given [] ap.All ts) (AreParameters (IsTestTo depth) ap.All ts) (from (length ts) [] ap.All ts) (λ p. p.0)
      (parameters_owe (length ts) [] ap.All ts) (λ z rest w. subst (AreParameters (IsTestTo depth) ap.All ts rest) (sym w.1) w.2)

  pub parameters_met : (ts rest : List Lexeme) (xs : List Parameter) → AreParameters (IsTestTo depth) ap.All ts rest xs → Met 1 ts (parameters (suc depth) ts) xs rest
  unfolding parameters
  parameters_met ts rest xs r = let w = parameters_from (length ts) [] ap.All ts rest xs r (omega arith) in
      met_then (from (length ts) [] ap.All ts) (λ p rest. Ok (p.0, rest)) w.1 (met_done xs rest)
