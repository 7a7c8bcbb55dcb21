-- Arguments, suffixes and primaries, over what stands in brackets.
use Rattle.std.proofs.Common.{◌≡◌, ℕ, zero, suc, ◌≤◌, Bool, true, false, ◌||◌, ◌&&◌, cond, List, [], ◌∷◌, ◌++◌, length, Option, Some, None, Ok, Err, refl, sym, ap, ◌∙◌, subst, append_assoc, append-nil, arith}
use Rattle.bq_source.specs.declared.token.TokenKind.TheVariants as k
use Rattle.bq_source.specs.Token.{same_kind}
use Rattle.bq_parse_grammar.specs.Lexeme.{Lexeme}
use Rattle.bq_parse_grammar.specs.declared.refusal.SyntaxErr.TheVariants.{Memory, Syntax, Lambda}
use Rattle.bq_parse_grammar.specs.declared.tree.Nested.{Nested}
use Rattle.bq_parse_grammar.specs.declared.tree.Nested.TheVariants.{Or, Test}
use Rattle.bq_parse_grammar.specs.declared.tree.Identifier.{Identifier}
use Rattle.bq_parse_grammar.specs.declared.tree.Expr.{Expr}
use Rattle.bq_parse_grammar.specs.declared.tree.Expr.TheVariants as e
use Rattle.bq_parse_grammar.specs.declared.tree.Suffix.{Suffix}
use Rattle.bq_parse_grammar.specs.declared.tree.Suffix.TheVariants as s
use Rattle.bq_parse_grammar.specs.declared.arguments.Allowed.{Allowed}
use Rattle.bq_parse_grammar.specs.declared.arguments.Allowed.TheVariants as al
use Rattle.bq_parse_grammar.specs.declared.arguments.ArgumentKind.{ArgumentKind}
use Rattle.bq_parse_grammar.specs.declared.arguments.ArgumentKind.TheVariants as ak
use Rattle.bq_parse_grammar.specs.declared.tree.Argument.{Argument}
use Rattle.bq_parse_grammar.specs.declared.tree.Argument.TheVariants as a
use Rattle.bq_parse_grammar.specs.declared.tree.TargetExpr.{TargetExpr}
use Rattle.bq_parse_grammar.specs.Literals.{identifier}
use Rattle.bq_parse_grammar.specs.Phrases as P
use Rattle.bq_parse_grammar.specs.Phrases.{Phrase, Repeat, over, again, CommaThen}
use Rattle.bq_parse_grammar.specs.Grammar as G
use Rattle.bq_parse_grammar.specs.Grammar.{tuple_of, primary_of, IsOperand, allowed_after, IsArgument, AreArguments, IsOptionalTest, IsExpr, IsSuffix, IsPrimary}
use Rattle.bq_parse_grammar.specs.Turns.{Found, Parse, ◌>>=◌, sees, next, expect, Turn, ended, goes, failed, next_turn, turns, cut_off, repeat}
use Rattle.bq_parse_grammar.specs.Reading.{word, chained, operand, is_named, argument_kind, argument_by, allowed_argument, argument, with_argument, argument_turn, arguments, optional_test, slice_end, slice_after, subscript_after, subscript, member_after, member, begins_suffix, suffix, primary}
use Rattle.bq_parse_grammar.proofs.NextToken.{is_kind, sees_it, sees_no, sees_other, opened, tok, tok_kind}
use Rattle.bq_parse_grammar.proofs.Classes.{implied, ends, any, first_operand, first_not, first_test, first_var, first_suffix, first_argument, paren_comma, bracket_comma, paren_assign, comma_assign, star_star_star, identifier_star, identifier_star_star, bracket_colon, comma_colon, paren_dot, open_dot, open_paren, suffix_same}
use Rattle.bq_parse_grammar.proofs.Agrees.{Begins, Stops, Owes, Met, met, cut, Agrees, either, seq, Never, seq_never, opens, opens_if, sees_owes, then_token, then_is, owes_as, met_is, met_as, met_less, met_over, met_done, met_then, met_then0, met_then01, met_expect, met_yes, met_no, begins_no, repeat_sound, repeat_complete}
use Rattle.bq_parse_grammar.proofs.Lists.{chain_of, chained_sound, chained_stops, chained_met}
use Rattle.bq_parse_grammar.proofs.Unnamed.{Unnamed, suffix_begins}
use Rattle.bq_parse_grammar.proofs.Operands.{ends_vars, operand_agrees}

tuple_chain : (x : Expr) (xs : List Expr) → chain_of e.Tuple x xs ≡ tuple_of x xs
tuple_chain x [] = refl
tuple_chain x (y ∷ ys) = refl

both_off : (a b : Bool) → a ≡ false → b ≡ false → (a || b) ≡ false
both_off true b h g = absurd (cc)
both_off false b h g = g

on_left : (a b : Bool) → a ≡ true → (a || b) ≡ true
on_left true b h = refl
on_left false b h = absurd (cc)

on_right : (a b : Bool) → b ≡ true → (a || b) ≡ true
on_right true b h = refl
on_right false b h = h

and_off : (a b : Bool) → (a ≡ true → b ≡ false) → (a && b) ≡ false
and_off true b h = h refl
and_off false b h = refl

-- ---- a word

word_sound : (ts : List Lexeme) → Owes Identifier (λ rest n. (t : Lexeme) × (ts ≡ t ∷ rest) × (t.kind ≡ k.Identifier) × (n ≡ identifier t)) (word ts)
word_sound [] = tt
word_sound (t ∷ ts) = either (Owes Identifier (λ rest n. (u : Lexeme) × ((t ∷ ts) ≡ u ∷ rest) × (u.kind ≡ k.Identifier) × (n ≡ identifier u))) (sees k.Identifier (t ∷ ts)) (Ok (identifier t, ts)) (Err Syntax)
    (λ h. (t, refl, is_kind t.kind k.Identifier h, refl)) (λ h. tt)

word_never : (ts : List Lexeme) → Never (word ts)
word_never [] = tt
word_never (t ∷ ts) = either Never (sees k.Identifier (t ∷ ts)) (Ok (identifier t, ts)) (Err Syntax) (λ h. tt) (λ h. tt)

-- which argument comes next, by its first tokens
abbrev kind_by : Bool → Bool → Bool → ArgumentKind
kind_by is_star is_star_star named = cond is_star ak.Star (cond is_star_star ak.StarStar (cond named ak.Named ak.Positional))

named_by : (p q r : Bool) → kind_by p q r ≡ ak.Named → r ≡ true
named_by true q r h = absurd (cc)
named_by false true r h = absurd (cc)
named_by false false true h = refl
named_by false false false h = absurd (cc)

star_by : (p q r : Bool) → kind_by p q r ≡ ak.Star → p ≡ true
star_by true q r h = refl
star_by false true r h = absurd (cc)
star_by false false true h = absurd (cc)
star_by false false false h = absurd (cc)

star_star_by : (p q r : Bool) → kind_by p q r ≡ ak.StarStar → q ≡ true
star_star_by true q r h = absurd (cc)
star_star_by false true r h = refl
star_star_by false false true h = absurd (cc)
star_star_by false false false h = absurd (cc)

both_on : (p q : Bool) → (p && q) ≡ true → (p ≡ true) × (q ≡ true)
both_on true true h = (refl, refl)
both_on true false h = absurd (cc)
both_on false q h = absurd (cc)

is_it : (p q r p' q' r' : Bool) → p ≡ p' → q ≡ q' → r ≡ r' → kind_by p q r ≡ kind_by p' q' r'
is_it p q r p' q' r' e f g = ap (λ x. kind_by x q r) e ∙ ap (λ x. kind_by p' x r) f ∙ ap (λ x. kind_by p' q' x) g

module _ (O T : Phrase Expr) (V : Phrase TargetExpr) (inner : Nested → Parse Expr) (variables : Parse TargetExpr)
    (ors : Agrees first_not (ends 10) O (inner Or)) (tests : Agrees first_test (ends 11) T (inner Test))
    (vars_agree : Agrees first_var ends_vars V variables) (vars_never : (ts : List Lexeme) → Never (variables ts)) (unnamed : Unnamed T) where
  -- ---- arguments

  argument_owes : (q : ArgumentKind) (ts : List Lexeme) → argument_kind ts ≡ q → Owes Argument (IsArgument O T V q ts) (argument_by inner variables q ts)
  argument_owes ak.Positional ts h =
      then_is (T ts) (IsArgument O T V ak.Positional ts) (inner Test ts) a.Positional (tests.sound ts) (λ x rest p. G.positional p refl)
  argument_owes ak.Named [] h = absurd (cc)
  argument_owes ak.Named (n ∷ []) h = let w = named_by (sees k.Star (n ∷ [])) (sees k.StarStar (n ∷ [])) false h in absurd (cc)
  argument_owes ak.Named (n ∷ q ∷ ts) h =
      let w = named_by (sees k.Star (n ∷ q ∷ ts)) (sees k.StarStar (n ∷ q ∷ ts)) (is_named (n ∷ q ∷ ts)) h in
      let v = both_on (same_kind n.kind k.Identifier) (same_kind q.kind k.Assign) w in
      then_is (T ts) (IsArgument O T V ak.Named (n ∷ q ∷ ts)) (inner Test ts) (a.Named n.spelling) (tests.sound ts)
      (λ x rest p. G.named (is_kind n.kind k.Identifier v.0) (is_kind q.kind k.Assign v.1) p refl)
  argument_owes ak.Star [] h = absurd (cc)
  argument_owes ak.Star (t ∷ ts) h =
      then_is (T ts) (IsArgument O T V ak.Star (t ∷ ts)) (inner Test ts) a.Star (tests.sound ts)
      (λ x rest p. G.star (is_kind t.kind k.Star (star_by (sees k.Star (t ∷ ts)) (sees k.StarStar (t ∷ ts)) (is_named (t ∷ ts)) h)) p refl)
  argument_owes ak.StarStar [] h = absurd (cc)
  argument_owes ak.StarStar (t ∷ ts) h =
      then_is (T ts) (IsArgument O T V ak.StarStar (t ∷ ts)) (inner Test ts) a.StarStar (tests.sound ts)
      (λ x rest p. G.star_star (is_kind t.kind k.StarStar (star_star_by (sees k.Star (t ∷ ts)) (sees k.StarStar (t ∷ ts)) (is_named (t ∷ ts)) h)) p refl)

  -- an argument that may stand here, and what may come after it
  abbrev Allows : Allowed → List Lexeme → List Lexeme → Argument × Allowed → Type 0
  Allows s ts rest z = (q : ArgumentKind) × (allowed_after s q ≡ Some z.1) × IsArgument O T V q ts rest z.0

  argument_sound : (s : Allowed) (ts : List Lexeme) → Owes (Argument × Allowed) (Allows s ts) (argument inner variables s ts)
  unfolding argument
  argument_sound s ts = go (allowed_after s (argument_kind ts)) refl
    where
      go : (o : Option Allowed) → allowed_after s (argument_kind ts) ≡ o → Owes (Argument × Allowed) (Allows s ts) (allowed_argument inner variables o (argument_kind ts) ts)
      go None h = tt
      go (Some s') h = then_is (IsArgument O T V (argument_kind ts) ts) (Allows s ts) (argument_by inner variables (argument_kind ts) ts) (λ x. (x, s'))
          (argument_owes (argument_kind ts) ts refl) (λ x rest p. (argument_kind ts, h, p))

  argument_begins : (q : ArgumentKind) (ts rest : List Lexeme) (x : Argument) → IsArgument O T V q ts rest x → Begins first_argument ts
  argument_begins q ts rest x (G.positional {x = y} p f) = begins_test ts (tests.begins ts rest y p)
    where
      begins_test : (ts : List Lexeme) → Begins first_test ts → Begins first_argument ts
      begins_test [] b = absurd b
      begins_test (t ∷ ts) b = implied first_test first_argument refl t.kind b
  argument_begins q ts rest x (G.named f g p h) = ap first_argument f
  argument_begins q ts rest x (G.star f p h) = ap first_argument f
  argument_begins q ts rest x (G.star_star f p h) = ap first_argument f

  kind_met : (q : ArgumentKind) (ts rest : List Lexeme) (x : Argument) → IsArgument O T V q ts rest x → sees k.Assign rest ≡ false → argument_kind ts ≡ q
  kind_met q ts rest x (G.positional {x = y} p f) unseen =
      is_it (sees k.Star ts) (sees k.StarStar ts) (is_named ts) false false false (begins_no first_test ts k.Star (tests.begins ts rest y p) refl) (begins_no first_test ts k.StarStar (tests.begins ts rest y p) refl)
      (unnamed ts rest y p unseen)
  kind_met q ts rest x (G.named {n = n} {q = w} {ts = us} f g p h) unseen =
      is_it (sees k.Star (n ∷ w ∷ us)) (sees k.StarStar (n ∷ w ∷ us)) (is_named (n ∷ w ∷ us)) false false true
      (sees_other n (w ∷ us) k.Star k.Identifier f identifier_star) (sees_other n (w ∷ us) k.StarStar k.Identifier f identifier_star_star)
      (ap (λ b. b && same_kind w.kind k.Assign) (sees_it n (w ∷ us) k.Identifier f) ∙ sees_it w us k.Assign g)
  kind_met q ts rest x (G.star {t = t} {ts = us} f p h) unseen = ap (λ b. kind_by b (sees k.StarStar (t ∷ us)) (is_named (t ∷ us))) (sees_it t us k.Star f)
  kind_met q ts rest x (G.star_star {t = t} {ts = us} f p h) unseen =
      is_it (sees k.Star (t ∷ us)) (sees k.StarStar (t ∷ us)) (is_named (t ∷ us)) false true (is_named (t ∷ us)) (sees_other t us k.Star k.StarStar f star_star_star) (sees_it t us k.StarStar f) refl

  argument_by_met : (q : ArgumentKind) (ts rest : List Lexeme) (x : Argument) → IsArgument O T V q ts rest x → Stops (ends 11) rest → Met 1 ts (argument_by inner variables q ts) x rest
  argument_by_met q ts rest x (G.positional {x = y} p f) st = met_then (inner Test ts) (λ x rest. Ok (a.Positional x, rest)) (tests.complete ts rest y p st) (met_as (sym f) (met_done (a.Positional y) rest))
  argument_by_met q ts rest x (G.named {n = n} {q = w} {ts = us} {x = y} f g p h) st =
      met_over n (w ∷ us) (met_less (met_over w us (met_less (met_then (inner Test us) (λ x rest. Ok (a.Named n.spelling x, rest)) (tests.complete us rest y p st) (met_as (sym h) (met_done (a.Named n.spelling y) rest))))))
  argument_by_met q ts rest x (G.star {t = t} {ts = us} {x = y} f p h) st =
      met_over t us (met_less (met_then (inner Test us) (λ x rest. Ok (a.Star x, rest)) (tests.complete us rest y p st) (met_as (sym h) (met_done (a.Star y) rest))))
  argument_by_met q ts rest x (G.star_star {t = t} {ts = us} {x = y} f p h) st =
      met_over t us (met_less (met_then (inner Test us) (λ x rest. Ok (a.StarStar x, rest)) (tests.complete us rest y p st) (met_as (sym h) (met_done (a.StarStar y) rest))))

  argument_met : (s s' : Allowed) (q : ArgumentKind) (ts rest : List Lexeme) (x : Argument) → allowed_after s q ≡ Some s' → IsArgument O T V q ts rest x → Stops (ends 11) rest
      → sees k.Assign rest ≡ false → Met 1 ts (argument inner variables s ts) (x, s') rest
  unfolding argument
  argument_met s s' q ts rest x ok p st unseen =
      met_is _ (allowed_argument inner variables (Some s') q ts)
      (ap (λ j. allowed_argument inner variables (allowed_after s j) j ts) (kind_met q ts rest x p unseen) ∙ ap (λ o. allowed_argument inner variables o q ts) ok)
      (met_then (argument_by inner variables q ts) (λ x rest. Ok ((x, s'), rest)) (argument_by_met q ts rest x p st) (met_done (x, s') rest))

  abbrev Given : List Argument → Allowed → List Lexeme → List Lexeme → List Argument × Allowed → Type 0
  Given found s ts rest z = (xs : List Argument) × (z.0 ≡ found ++ xs) × AreArguments O T V s ts rest xs

  abbrev go_on : ℕ → Turn (List Argument × Allowed) → Found (List Argument × Allowed)
  go_on n t = next_turn (turns (argument_turn inner variables) cut_off n) t

  arguments_owe : (n : ℕ) (found : List Argument) (s : Allowed) (ts : List Lexeme) → Owes (List Argument × Allowed) (Given found s ts) (turns (argument_turn inner variables) cut_off n (found, s) ts)
  unfolding turns
  arguments_owe zero found s ts = tt
  arguments_owe (suc n) found s ts = go (arguments_owe n) (sees k.RightParen ts) (opened k.RightParen ts)
    where
      last : (x : Argument) (s' : Allowed) (mid : List Lexeme) → Allows s ts mid (x, s') → (b : Bool) → (b ≡ true → (t : Lexeme) × (mid ≡ t ∷ next mid) × (t.kind ≡ k.RightParen))
          → Owes (List Argument × Allowed) (Given found s ts) (go_on n (cond b (ended (found ++ x ∷ [], s') (next mid)) (failed Syntax)))
      last x s' mid h true o = let t = o refl in (x ∷ [], refl, G.last_argument h.1 (subst (λ m. IsArgument O T V h.0 ts m x) t.1 h.2) t.2)
      last x s' mid h false o = tt

      after : ((found : List Argument) (s : Allowed) (ts : List Lexeme) → Owes (List Argument × Allowed) (Given found s ts) (turns (argument_turn inner variables) cut_off n (found, s) ts))
          → (x : Argument) (s' : Allowed) (mid : List Lexeme) → Allows s ts mid (x, s') → (b : Bool) → (b ≡ true → (t : Lexeme) × (mid ≡ t ∷ next mid) × (t.kind ≡ k.Comma))
          → Owes (List Argument × Allowed) (Given found s ts) (go_on n (cond b (goes (found ++ x ∷ [], s') (next mid)) (cond (sees k.RightParen mid) (ended (found ++ x ∷ [], s') (next mid)) (failed Syntax))))
      after more x s' mid h true o = let t = o refl in
          owes_as (Given (found ++ x ∷ []) s' (next mid)) (Given found s ts) _ (more (found ++ x ∷ []) s' (next mid))
          (λ z rest w. (x ∷ w.0, w.1 ∙ append_assoc found (x ∷ []) w.0, G.more_arguments h.1 (subst (λ m. IsArgument O T V h.0 ts m x) t.1 h.2) t.2 w.2))
      after more x s' mid h false o = last x s' mid h (sees k.RightParen mid) (opened k.RightParen mid)

      one : ((found : List Argument) (s : Allowed) (ts : List Lexeme) → Owes (List Argument × Allowed) (Given found s ts) (turns (argument_turn inner variables) cut_off n (found, s) ts))
          → (z : Found (Argument × Allowed)) → Owes (Argument × Allowed) (Allows s ts) z → Owes (List Argument × Allowed) (Given found s ts) (go_on n (with_argument found z))
      one more (Ok p) h = after more p.0.0 p.0.1 p.1 h (sees k.Comma p.1) (opened k.Comma p.1)
      one more (Err Memory) h = tt
      one more (Err Syntax) h = tt
      one more (Err Lambda) h = λ rest. let x = h (tok k.RightParen ∷ rest) in ((found ++ x.0.0 ∷ [], x.0.1), (x.0.0 ∷ [], refl, G.last_argument x.1.1 x.1.2 (tok_kind k.RightParen)))

      go : ((found : List Argument) (s : Allowed) (ts : List Lexeme) → Owes (List Argument × Allowed) (Given found s ts) (turns (argument_turn inner variables) cut_off n (found, s) ts))
          → (b : Bool) → (b ≡ true → (t : Lexeme) × (ts ≡ t ∷ next ts) × (t.kind ≡ k.RightParen))
          → Owes (List Argument × Allowed) (Given found s ts) (go_on n (cond b (ended (found, s) (next ts)) (with_argument found (argument inner variables s ts))))
      go more true o = let t = o refl in ([], sym (append-nil found), subst (λ m. AreArguments O T V s m (next ts) []) (sym t.1) (G.no_argument t.2))
      go more false o = one more (argument inner variables s ts) (argument_sound s ts)

  arguments_sound : (ts : List Lexeme) → Owes (List Argument) (AreArguments O T V al.All ts) (arguments inner variables ts)
  unfolding arguments
  arguments_sound ts = then_is (Given [] al.All ts) (AreArguments O T V al.All ts) (turns (argument_turn inner variables) cut_off (length ts) ([], al.All) ts) (λ p. p.0)
      (arguments_owe (length ts) [] al.All ts) (λ z rest w. subst (AreArguments O T V al.All ts rest) (sym w.1) w.2)

  arguments_from : (n : ℕ) (found : List Argument) (s : Allowed) (ts rest : List Lexeme) (xs : List Argument) → AreArguments O T V s ts rest xs → length ts ≤ n
      → (s' : Allowed) × Met 1 ts (turns (argument_turn inner variables) cut_off n (found, s) ts) (found ++ xs, s') rest
  unfolding turns
  arguments_from zero found s ts rest xs (G.no_argument f) le = absurd (omega arith)
  arguments_from (suc n) found s ts rest xs (G.no_argument {t = t} f) le = (
    s,
    met_is _ (Ok ((found, s), rest)) (ap (λ b. go_on n (cond b (ended (found, s) rest) (with_argument found (argument inner variables s (t ∷ rest))))) (sees_it t rest k.RightParen f))
        (met (ap (λ ys. Ok ((ys, s), rest)) (sym (append-nil found))) (omega arith)),
  )
  arguments_from zero found s [] rest xs (G.last_argument {q = q} {t = t} {x = x} ok p f) le = absurd (argument_begins q [] (t ∷ rest) x p)
  arguments_from zero found s (u ∷ us) rest xs (G.last_argument ok p f) le = absurd (omega arith)
  arguments_from (suc n) found s ts rest xs (G.last_argument {s' = s'} {q = q} {t = t} {x = x} ok p f) le = (
    s',
    met_is _ (go_on n (with_argument found (argument inner variables s ts)))
        (ap (λ b. go_on n (cond b (ended (found, s) (next ts)) (with_argument found (argument inner variables s ts)))) (begins_no first_argument ts k.RightParen (argument_begins q ts (t ∷ rest) x p) refl))
        (go (argument_met s s' q ts (t ∷ rest) x ok p (subst (λ q. ends 11 q ≡ true) (sym f) refl) (sees_other t rest k.Assign k.RightParen f paren_assign))),
  )
    where
      go : Met 1 ts (argument inner variables s ts) (x, s') (t ∷ rest) → Met 1 ts (go_on n (with_argument found (argument inner variables s ts))) (found ++ x ∷ [], s') rest
      go (cut w) = cut (ap (λ z. go_on n (with_argument found z)) w)
      go (met w l) = met (ap (λ z. go_on n (with_argument found z)) w
          ∙ ap (λ b. go_on n (cond b (goes (found ++ x ∷ [], s') rest) (cond (sees k.RightParen (t ∷ rest)) (ended (found ++ x ∷ [], s') rest) (failed Syntax)))) (sees_other t rest k.Comma k.RightParen f paren_comma)
          ∙ ap (λ b. go_on n (cond b (ended (found ++ x ∷ [], s') rest) (failed Syntax))) (sees_it t rest k.RightParen f)) (omega arith)
  arguments_from zero found s [] rest xs (G.more_arguments {q = q} {t = t} {mid = mid} {x = x} ok p f ps) le = absurd (argument_begins q [] (t ∷ mid) x p)
  arguments_from zero found s (u ∷ us) rest xs (G.more_arguments ok p f ps) le = absurd (omega arith)
  arguments_from (suc n) found s ts rest xs (G.more_arguments {s' = s'} {q = q} {t = t} {mid = mid} {x = x} {xs = ys} ok p f ps) le =
      go (λ below. arguments_from n (found ++ x ∷ []) s' mid rest ys ps below) (argument_met s s' q ts (t ∷ mid) x ok p (subst (λ q. ends 11 q ≡ true) (sym f) refl) (sees_other t mid k.Assign k.Comma f comma_assign))
    where
      first : turns (argument_turn inner variables) cut_off (suc n) (found, s) ts ≡ go_on n (with_argument found (argument inner variables s ts))
      first = ap (λ b. go_on n (cond b (ended (found, s) (next ts)) (with_argument found (argument inner variables s ts)))) (begins_no first_argument ts k.RightParen (argument_begins q ts (t ∷ mid) x p) refl)

      longer : {z : List Argument × Allowed} {g : Found (List Argument × Allowed)} → length mid ≤ length ts → Met 1 mid g z rest → Met 1 ts g z rest
      longer l (met b u) = met b (omega arith)
      longer l (cut b) = cut b

      go : (length mid ≤ n → (s'' : Allowed) × Met 1 mid (turns (argument_turn inner variables) cut_off n (found ++ x ∷ [], s') mid) ((found ++ x ∷ []) ++ ys, s'') rest) → Met 1 ts (argument inner variables s ts) (x, s') (t ∷ mid)
          → (s'' : Allowed) × Met 1 ts (turns (argument_turn inner variables) cut_off (suc n) (found, s) ts) (found ++ x ∷ ys, s'') rest
      go more (cut w) = (s', cut (first ∙ ap (λ z. go_on n (with_argument found z)) w))
      go more (met w l) = let r = more (omega arith) in (
        r.0,
        met_is _ _ (first ∙ ap (λ z. go_on n (with_argument found z)) w
            ∙ ap (λ b. go_on n (cond b (goes (found ++ x ∷ [], s') mid) (cond (sees k.RightParen (t ∷ mid)) (ended (found ++ x ∷ [], s') mid) (failed Syntax)))) (sees_it t mid k.Comma f))
            (met_as (ap (λ (zs : List Argument). (zs, r.0)) (append_assoc found (x ∷ []) ys)) (longer (omega arith) r.1)),
      )

  arguments_met : (ts rest : List Lexeme) (xs : List Argument) → AreArguments O T V al.All ts rest xs → Met 1 ts (arguments inner variables ts) xs rest
  unfolding arguments
  arguments_met ts rest xs p = let r = arguments_from (length ts) [] al.All ts rest xs p (omega arith) in
      met_then (turns (argument_turn inner variables) cut_off (length ts) ([], al.All) ts) (λ p rest. Ok (p.0, rest)) r.1 (met_done xs rest)

  -- ---- parts of a slice, and what stands in brackets after an operand

  optional_sound : (ts : List Lexeme) → Owes (Option Expr) (IsOptionalTest O T V ts) (optional_test inner variables ts)
  unfolding optional_test
  optional_sound ts = either (Owes (Option Expr) (IsOptionalTest O T V ts)) (sees k.Colon ts || sees k.RightBracket ts) (Ok (None, ts)) (inner Test ts >>= λ x rest. Ok (Some x, rest))
      (λ h. G.absent) (λ h. then_is (T ts) (IsOptionalTest O T V ts) (inner Test ts) Some (tests.sound ts) (λ x rest p. G.present p))

  optional_met : (ts rest : List Lexeme) (x : Option Expr) → IsOptionalTest O T V ts rest x → (sees k.Colon rest || sees k.RightBracket rest) ≡ true → Stops (ends 11) rest
      → Met 0 ts (optional_test inner variables ts) x rest
  unfolding optional_test
  optional_met ts rest x G.absent h st = met_yes (sees k.Colon ts || sees k.RightBracket ts) (Ok (None, ts)) _ h (met_done None ts)
  optional_met ts rest x (G.present {x = y} p) h st =
      met_no (sees k.Colon ts || sees k.RightBracket ts) (Ok (None, ts)) (inner Test ts >>= λ x rest. Ok (Some x, rest))
      (both_off (sees k.Colon ts) (sees k.RightBracket ts) (begins_no first_test ts k.Colon (tests.begins ts rest y p) refl) (begins_no first_test ts k.RightBracket (tests.begins ts rest y p) refl))
      (met_less (met_then (inner Test ts) (λ x rest. Ok (Some x, rest)) (tests.complete ts rest y p st) (met_done (Some y) rest)))

  -- what comes after the second part of a slice
  data SliceEnd (ts : List Lexeme) (rest : List Lexeme) (x y : Option Expr) (z : Suffix) : Type 0 where
    no_step : (c : Lexeme) → ts ≡ c ∷ rest → c.kind ≡ k.RightBracket → z ≡ s.Slice x y None → SliceEnd ts rest x y z
    a_step : (q c : Lexeme) (us : List Lexeme) (w : Option Expr) → ts ≡ q ∷ us → q.kind ≡ k.Colon → IsOptionalTest O T V us (c ∷ rest) w → c.kind ≡ k.RightBracket → z ≡ s.Slice x y w
        → SliceEnd ts rest x y z

  at_colon : (c : Lexeme) (us : List Lexeme) → c.kind ≡ k.Colon → (sees k.Colon (c ∷ us) || sees k.RightBracket (c ∷ us)) ≡ true
  at_colon c us f = on_left (sees k.Colon (c ∷ us)) (sees k.RightBracket (c ∷ us)) (sees_it c us k.Colon f)

  at_bracket : (c : Lexeme) (us : List Lexeme) → c.kind ≡ k.RightBracket → (sees k.Colon (c ∷ us) || sees k.RightBracket (c ∷ us)) ≡ true
  at_bracket c us f = on_right (sees k.Colon (c ∷ us)) (sees k.RightBracket (c ∷ us)) (sees_it c us k.RightBracket f)

  slice_end_sound : (x y : Option Expr) (ts : List Lexeme) → Owes Suffix (λ rest z. SliceEnd ts rest x y z) (slice_end inner variables x y ts)
  unfolding slice_end
  slice_end_sound x y ts = opens_if (λ m rest z. SliceEnd m rest x y z) k.Colon ts (λ us. optional_test inner variables us >>= λ w mid. expect k.RightBracket mid >>= λ _ rest. Ok (s.Slice x y w, rest))
      (expect k.RightBracket ts >>= λ _ rest. Ok (s.Slice x y None, rest))
      (λ q us f. then_token (IsOptionalTest O T V us) (λ rest z. SliceEnd (q ∷ us) rest x y z) (optional_test inner variables us) k.RightBracket (s.Slice x y) (optional_sound us)
      (λ w c rest p g. a_step q c us w refl f p g refl))
      (λ h. opens (λ m rest z. SliceEnd m rest x y z) k.RightBracket ts (λ _ rest. Ok (s.Slice x y None, rest)) (λ c us f. no_step c refl f refl))

  slice_end_met : (x y : Option Expr) (ts rest : List Lexeme) (z : Suffix) → SliceEnd ts rest x y z → Met 1 ts (slice_end inner variables x y ts) z rest
  unfolding slice_end
  slice_end_met x y ts rest z (no_step c t f g) = subst (λ m. Met 1 m (slice_end inner variables x y m) z rest) (sym t)
      (met_no (sees k.Colon (c ∷ rest)) _ (expect k.RightBracket (c ∷ rest) >>= λ _ rest. Ok (s.Slice x y None, rest)) (sees_other c rest k.Colon k.RightBracket f bracket_colon)
      (met_expect k.RightBracket c rest (λ _ rest. Ok (s.Slice x y None, rest)) f (met_as (sym g) (met_done (s.Slice x y None) rest))))
  slice_end_met x y ts rest z (a_step q c us w t f p g h) = subst (λ m. Met 1 m (slice_end inner variables x y m) z rest) (sym t)
      (met_yes (sees k.Colon (q ∷ us)) (optional_test inner variables us >>= λ w mid. expect k.RightBracket mid >>= λ _ rest. Ok (s.Slice x y w, rest)) _ (sees_it q us k.Colon f)
      (met_over q us (met_then0 (optional_test inner variables us) (λ w mid. expect k.RightBracket mid >>= λ _ rest. Ok (s.Slice x y w, rest))
      (optional_met us (c ∷ rest) w p (at_bracket c rest g) (subst (λ q. ends 11 q ≡ true) (sym g) refl))
      (met_less (met_expect k.RightBracket c rest (λ _ rest. Ok (s.Slice x y w, rest)) g (met_as (sym h) (met_done (s.Slice x y w) rest)))))))

  slice_of : (o p : Lexeme) (ts mid rest : List Lexeme) (x : Option Expr) (z : Suffix) → o.kind ≡ k.LeftBracket → IsOptionalTest O T V ts (p ∷ mid) x → p.kind ≡ k.Colon
      → (us : List Lexeme) (y : Option Expr) → IsOptionalTest O T V mid us y → SliceEnd us rest x y z → IsSuffix O T V (o ∷ ts) rest z
  slice_of o p ts mid rest x z f a g us y b (no_step c t h i) = G.slice f a g (subst (λ m. IsOptionalTest O T V mid m y) t b) h i
  slice_of o p ts mid rest x z f a g us y b (a_step q c vs w t h d i j) = G.stepped f a g (subst (λ m. IsOptionalTest O T V mid m y) t b) h d i j

  slice_after_sound : (o p : Lexeme) (ts mid : List Lexeme) (x : Option Expr) → o.kind ≡ k.LeftBracket → IsOptionalTest O T V ts (p ∷ mid) x → p.kind ≡ k.Colon
      → Owes Suffix (IsSuffix O T V (o ∷ ts)) (slice_after inner variables x mid)
  unfolding slice_after
  slice_after_sound o p ts mid x f w g = seq (IsOptionalTest O T V mid) (IsSuffix O T V (o ∷ ts)) (optional_test inner variables mid) (λ y us. slice_end inner variables x y us) (optional_sound mid)
      (λ y us v. owes_as (λ rest z. SliceEnd us rest x y z) (IsSuffix O T V (o ∷ ts)) (slice_end inner variables x y us) (slice_end_sound x y us)
      (λ z rest d. slice_of o p ts mid rest x z f w g us y v d))
      (λ h rest. let y = h (tok k.RightBracket ∷ rest) in (s.Slice x y.0 None, G.slice f w g y.1 (tok_kind k.RightBracket) refl))

  slice_end_stops : (x y : Option Expr) (ts rest : List Lexeme) (z : Suffix) → SliceEnd ts rest x y z → ((sees k.Colon ts || sees k.RightBracket ts) ≡ true) × Stops (ends 11) ts
  slice_end_stops x y ts rest z (no_step c t f g) =
      subst (λ m. ((sees k.Colon m || sees k.RightBracket m) ≡ true) × Stops (ends 11) m) (sym t) (at_bracket c rest f, subst (λ q. ends 11 q ≡ true) (sym f) refl)
  slice_end_stops x y ts rest z (a_step q c us w t f p g h) =
      subst (λ m. ((sees k.Colon m || sees k.RightBracket m) ≡ true) × Stops (ends 11) m) (sym t) (at_colon q us f, subst (λ q. ends 11 q ≡ true) (sym f) refl)

  slice_after_met : (mid us rest : List Lexeme) (x y : Option Expr) (z : Suffix) → IsOptionalTest O T V mid us y → SliceEnd us rest x y z → Met 1 mid (slice_after inner variables x mid) z rest
  unfolding slice_after
  slice_after_met mid us rest x y z p d = let w = slice_end_stops x y us rest z d in
      met_then01 (optional_test inner variables mid) (λ y us. slice_end inner variables x y us) (optional_met mid us y p w.0 w.1) (slice_end_met x y us rest z d)

  subscript_sound : (o : Lexeme) (ts : List Lexeme) → o.kind ≡ k.LeftBracket → Owes Suffix (IsSuffix O T V (o ∷ ts)) (subscript inner variables ts)
  unfolding subscript
  subscript_sound o ts f = opens_if (λ m. IsSuffix O T V (o ∷ m)) k.Colon ts (λ us. slice_after inner variables None us) (inner Test ts >>= λ x mid. subscript_after inner variables x mid)
      (λ p us g. slice_after_sound o p (p ∷ us) us None f G.absent g)
      (λ h. seq (T ts) (IsSuffix O T V (o ∷ ts)) (inner Test ts) (λ x mid. subscript_after inner variables x mid) (tests.sound ts)
      (λ x mid p. sees_owes (λ m. T ts m x) (IsSuffix O T V (o ∷ ts)) k.Colon mid (λ us. slice_after inner variables (Some x) us)
      (chained e.Tuple (inner Test) x mid >>= λ y us. expect k.RightBracket us >>= λ _ rest. Ok (s.Index y, rest)) p
      (λ c us g w. slice_after_sound o c ts us (Some x) f (G.present w) g)
      (λ h. then_token (λ rest y. (xs : List Expr) × (y ≡ chain_of e.Tuple x xs) × Repeat (CommaThen T) mid rest xs) (IsSuffix O T V (o ∷ ts)) (chained e.Tuple (inner Test) x mid) k.RightBracket s.Index
      (chained_sound T (inner Test) tests e.Tuple x mid) (λ y c rest w g. G.index f (G.tests p w.2 (w.1 ∙ tuple_chain x w.0)) g refl)))
      (λ h rest. let x = h (tok k.RightBracket ∷ rest) in (s.Index x.0, G.index f (G.tests x.1 over refl) (tok_kind k.RightBracket) refl)))

  index_met : (ts : List Lexeme) (c : Lexeme) (rest : List Lexeme) (x : Expr) (y : Suffix) → IsExpr O T V ts (c ∷ rest) x → c.kind ≡ k.RightBracket → y ≡ s.Index x → Met 1 ts (subscript inner variables ts) y rest
  unfolding subscript
  index_met ts c rest x y (G.tests {mid = mid} {x = z} {xs = xs} p ps h) f g =
      let st : Stops (ends 11) (c ∷ rest) = subst (λ q. ends 11 q ≡ true) (sym f) refl in
      met_no (sees k.Colon ts) _ (inner Test ts >>= λ x mid. subscript_after inner variables x mid) (begins_no first_test ts k.Colon (tests.begins ts mid z p) refl)
      (met_then (inner Test ts) (λ x mid. subscript_after inner variables x mid) (tests.complete ts mid z p (chained_stops T (inner Test) tests e.Tuple refl mid (c ∷ rest) xs ps st))
      (met_no (sees k.Colon mid) _ (chained e.Tuple (inner Test) z mid >>= λ y us. expect k.RightBracket us >>= λ _ rest. Ok (s.Index y, rest)) (no_colon mid xs ps)
      (met_then0 (chained e.Tuple (inner Test) z mid) (λ y us. expect k.RightBracket us >>= λ _ rest. Ok (s.Index y, rest))
      (chained_met T (inner Test) tests e.Tuple refl z x mid (c ∷ rest) xs ps st (sees_other c rest k.Comma k.RightBracket f bracket_comma) (h ∙ sym (tuple_chain z xs)))
      (met_less (met_expect k.RightBracket c rest (λ _ rest. Ok (s.Index x, rest)) f (met_as (sym g) (met_done (s.Index x) rest)))))))
    where
      no_colon : (mid : List Lexeme) (xs : List Expr) → Repeat (CommaThen T) mid (c ∷ rest) xs → sees k.Colon mid ≡ false
      no_colon mid xs over = sees_other c rest k.Colon k.RightBracket f bracket_colon
      no_colon mid xs (again (P.comma_then {t = t} {ts = us} g q) qs) = sees_other t us k.Colon k.Comma g comma_colon

  sliced_met : (ts : List Lexeme) (p : Lexeme) (mid us rest : List Lexeme) (x y : Option Expr) (z : Suffix) → IsOptionalTest O T V ts (p ∷ mid) x → p.kind ≡ k.Colon → IsOptionalTest O T V mid us y
      → SliceEnd us rest x y z → Met 1 ts (subscript inner variables ts) z rest
  unfolding subscript
  sliced_met ts p mid us rest x y z G.absent f w d =
      met_yes (sees k.Colon (p ∷ mid)) (slice_after inner variables None mid) _ (sees_it p mid k.Colon f) (met_over p mid (met_less (slice_after_met mid us rest None y z w d)))
  sliced_met ts p mid us rest x y z (G.present {x = v} q) f w d =
      met_no (sees k.Colon ts) _ (inner Test ts >>= λ x mid. subscript_after inner variables x mid) (begins_no first_test ts k.Colon (tests.begins ts (p ∷ mid) v q) refl)
      (met_then (inner Test ts) (λ x mid. subscript_after inner variables x mid) (tests.complete ts (p ∷ mid) v q (subst (λ q. ends 11 q ≡ true) (sym f) refl))
      (met_yes (sees k.Colon (p ∷ mid)) (slice_after inner variables (Some v) mid) _ (sees_it p mid k.Colon f)
      (met_less (met_over p mid (met_less (slice_after_met mid us rest (Some v) y z w d))))))

  -- ---- suffixes

  member_sound : (d : Lexeme) (ts : List Lexeme) → d.kind ≡ k.Dot → Owes Suffix (IsSuffix O T V (d ∷ ts)) (member inner variables ts)
  unfolding member
  member_sound d ts f = seq_never (λ rest n. (t : Lexeme) × (ts ≡ t ∷ rest) × (t.kind ≡ k.Identifier) × (n ≡ identifier t)) (IsSuffix O T V (d ∷ ts)) (word ts) (λ n mid. member_after inner variables n mid) (word_never ts) (word_sound ts)
      (λ n mid w. subst (λ m. Owes Suffix (IsSuffix O T V (d ∷ m)) (member_after inner variables n mid)) (sym w.1)
      (opens_if (λ m. IsSuffix O T V (d ∷ w.0 ∷ m)) k.LeftParen mid (λ us. arguments inner variables us >>= λ xs rest. Ok (s.Method n xs, rest)) (Ok (s.Attribute n, mid))
      (λ o us g. then_is (AreArguments O T V al.All us) (IsSuffix O T V (d ∷ w.0 ∷ o ∷ us)) (arguments inner variables us) (s.Method n) (arguments_sound us)
      (λ xs rest p. G.method f w.2 g p (ap (λ n. s.Method n xs) w.3)))
      (λ h. G.attribute f w.2 h (ap s.Attribute w.3))))

  pub suffix_agrees : Agrees first_suffix any (IsSuffix O T V) (suffix inner variables)
  unfolding suffix member
  suffix_agrees = record { begins = suffix_begins O T V; sound = sound; complete = complete }
    where
      sound : (ts : List Lexeme) → Owes Suffix (IsSuffix O T V ts) (suffix inner variables ts)
      sound ts = opens_if (IsSuffix O T V) k.Dot ts (λ us. member inner variables us) _
          (λ d us f. member_sound d us f)
          (λ h. opens_if (IsSuffix O T V) k.LeftParen ts (λ us. arguments inner variables us >>= λ xs rest. Ok (s.Call xs, rest)) (expect k.LeftBracket ts >>= λ _ us. subscript inner variables us)
          (λ o us f. then_is (AreArguments O T V al.All us) (IsSuffix O T V (o ∷ us)) (arguments inner variables us) s.Call (arguments_sound us) (λ xs rest p. G.call f p refl))
          (λ h. opens (IsSuffix O T V) k.LeftBracket ts (λ _ us. subscript inner variables us) (λ o us f. subscript_sound o us f)))

      bracketed : (o : Lexeme) (us rest : List Lexeme) (y : Suffix) → o.kind ≡ k.LeftBracket → Met 1 us (subscript inner variables us) y rest → Met 1 (o ∷ us) (suffix inner variables (o ∷ us)) y rest
      bracketed o us rest y f m =
          met_no (sees k.Dot (o ∷ us)) _ _ (sees_other o us k.Dot k.LeftBracket f open_dot)
          (met_no (sees k.LeftParen (o ∷ us)) _ (expect k.LeftBracket (o ∷ us) >>= λ _ us. subscript inner variables us) (sees_other o us k.LeftParen k.LeftBracket f open_paren)
          (met_expect k.LeftBracket o us (λ _ us. subscript inner variables us) f (met_less m)))

      word_met : (n : Lexeme) (ts : List Lexeme) → n.kind ≡ k.Identifier → Met 1 (n ∷ ts) (word (n ∷ ts)) (identifier n) ts
      word_met n ts f = met_yes (sees k.Identifier (n ∷ ts)) (Ok (identifier n, ts)) (Err Syntax) (sees_it n ts k.Identifier f) (met refl (omega arith))

      member_met : (n : Lexeme) (ts rest : List Lexeme) (y : Suffix) → n.kind ≡ k.Identifier → Met 0 ts (member_after inner variables (identifier n) ts) y rest → Met 1 (n ∷ ts) (member inner variables (n ∷ ts)) y rest
      member_met n ts rest y f m = met_then (word (n ∷ ts)) (λ n mid. member_after inner variables n mid) (word_met n ts f) m

      dotted : (d : Lexeme) (us rest : List Lexeme) (y : Suffix) → d.kind ≡ k.Dot → Met 1 us (member inner variables us) y rest → Met 1 (d ∷ us) (suffix inner variables (d ∷ us)) y rest
      dotted d us rest y f m = met_yes (sees k.Dot (d ∷ us)) (member inner variables us) _ (sees_it d us k.Dot f) (met_over d us (met_less m))

      called : (o : Lexeme) (us rest : List Lexeme) (xs : List Argument) (y : Suffix) → o.kind ≡ k.LeftParen → AreArguments O T V al.All us rest xs → y ≡ s.Call xs → Met 1 (o ∷ us) (suffix inner variables (o ∷ us)) y rest
      called o us rest xs y f p g =
          met_no (sees k.Dot (o ∷ us)) _ _ (sees_other o us k.Dot k.LeftParen f paren_dot)
          (met_yes (sees k.LeftParen (o ∷ us)) (arguments inner variables us >>= λ xs rest. Ok (s.Call xs, rest)) _ (sees_it o us k.LeftParen f)
          (met_over o us (met_less (met_then (arguments inner variables us) (λ xs rest. Ok (s.Call xs, rest)) (arguments_met us rest xs p) (met_as (sym g) (met_done (s.Call xs) rest))))))

      complete : (ts rest : List Lexeme) (y : Suffix) → IsSuffix O T V ts rest y → Stops any rest → Met 1 ts (suffix inner variables ts) y rest
      complete ts rest y (G.attribute {d = d} {n = n} f g h i) st =
          dotted d (n ∷ rest) rest y f (member_met n rest rest y g (met_no (sees k.LeftParen rest) _ (Ok (s.Attribute (identifier n), rest)) h (met_as (sym i) (met_done (s.Attribute (identifier n)) rest))))
      complete ts rest y (G.method {d = d} {n = n} {o = o} {ts = us} {xs = xs} f g h p i) st =
          dotted d (n ∷ o ∷ us) rest y f (member_met n (o ∷ us) rest y g
          (met_yes (sees k.LeftParen (o ∷ us)) (arguments inner variables us >>= λ xs rest. Ok (s.Method (identifier n) xs, rest)) _ (sees_it o us k.LeftParen h)
          (met_less (met_over o us (met_less (met_then (arguments inner variables us) (λ xs rest. Ok (s.Method (identifier n) xs, rest)) (arguments_met us rest xs p) (met_as (sym i) (met_done (s.Method (identifier n) xs) rest))))))))
      complete ts rest y (G.call {o = o} {ts = us} {xs = xs} f p g) st = called o us rest xs y f p g
      complete ts rest y (G.index {o = o} {c = c} {ts = us} {x = x} f p g h) st = bracketed o us rest y f (index_met us c rest x y p g h)
      complete ts rest z (G.slice {o = o} {p = p} {c = c} {ts = us} {mid = mid} {x = x} {y = y} f w g v h i) st =
          bracketed o us rest z f (sliced_met us p mid (c ∷ rest) rest x y z w g v (no_step c refl h i))
      complete ts rest z (G.stepped {o = o} {p = p} {q = q} {c = c} {ts = us} {mid = mid} {us = vs} {x = x} {y = y} {w = u} f w g v h b i j) st =
          bracketed o us rest z f (sliced_met us p mid (q ∷ vs) rest x y z w g v (a_step q c vs u refl h b i j))

  -- ---- primaries

  suffix_seen : (ts : List Lexeme) → Begins first_suffix ts → begins_suffix ts ≡ true
  suffix_seen [] b = absurd b
  suffix_seen (t ∷ ts) b = implied first_suffix (λ q. same_kind q k.Dot || (same_kind q k.LeftParen || same_kind q k.LeftBracket)) suffix_same t.kind b

  no_suffix : (ts : List Lexeme) → Stops (ends 0) ts → begins_suffix ts ≡ false
  no_suffix [] st = refl
  no_suffix (t ∷ ts) st = both_off (sees k.Dot (t ∷ ts)) (sees k.LeftParen (t ∷ ts) || sees k.LeftBracket (t ∷ ts)) (sees_no (ends 0) t ts k.Dot st refl)
      (both_off (sees k.LeftParen (t ∷ ts)) (sees k.LeftBracket (t ∷ ts)) (sees_no (ends 0) t ts k.LeftParen st refl) (sees_no (ends 0) t ts k.LeftBracket st refl))

  any_stops : (ts : List Lexeme) → Stops any ts
  any_stops [] = tt
  any_stops (t ∷ ts) = refl

  pub primary_agrees : Agrees first_operand (ends 0) (IsPrimary O T V) (primary inner variables)
  unfolding primary
  primary_agrees = record { begins = begins; sound = sound; complete = complete }
    where
      operands : Agrees first_operand any (IsOperand O T V) (operand inner variables)
      operands = operand_agrees O T V inner variables ors tests vars_agree vars_never

      begins : (ts rest : List Lexeme) (y : Expr) → IsPrimary O T V ts rest y → Begins first_operand ts
      begins ts rest y (G.primary {mid = mid} {x = x} p ps f) = operands.begins ts mid x p

      sound : (ts : List Lexeme) → Owes Expr (IsPrimary O T V ts) (primary inner variables ts)
      sound ts = seq (IsOperand O T V ts) (IsPrimary O T V ts) (operand inner variables ts) (λ x mid. repeat begins_suffix (suffix inner variables) [] mid >>= λ xs rest. Ok (primary_of x xs, rest)) (operands.sound ts)
          (λ x mid p. then_is (λ rest ys. (xs : List Suffix) × (ys ≡ [] ++ xs) × Repeat (IsSuffix O T V) mid rest xs) (IsPrimary O T V ts)
          (repeat begins_suffix (suffix inner variables) [] mid) (primary_of x)
          (repeat_sound (IsSuffix O T V) (suffix inner variables) suffix_agrees begins_suffix [] mid)
          (λ ys rest w. G.primary p w.2 (ap (primary_of x) w.1)))
          (λ h rest. let x = h rest in (x.0, G.primary x.1 over refl))

      complete : (ts rest : List Lexeme) (y : Expr) → IsPrimary O T V ts rest y → Stops (ends 0) rest → Met 1 ts (primary inner variables ts) y rest
      complete ts rest y (G.primary {mid = mid} {x = x} {xs = xs} p ps f) st =
          met_then (operand inner variables ts) (λ x mid. repeat begins_suffix (suffix inner variables) [] mid >>= λ xs rest. Ok (primary_of x xs, rest)) (operands.complete ts mid x p (any_stops mid))
          (met_then0 (repeat begins_suffix (suffix inner variables) [] mid) (λ xs rest. Ok (primary_of x xs, rest))
          (repeat_complete (IsSuffix O T V) (suffix inner variables) suffix_agrees begins_suffix suffix_seen (λ q h. refl) [] mid rest xs ps (any_stops rest) (no_suffix rest st))
          (met_as (sym f) (met_done (primary_of x xs) rest)))
