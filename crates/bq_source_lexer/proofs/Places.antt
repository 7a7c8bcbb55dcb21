-- Before a place the brackets, the tokens that an indentation makes and those of the end of the text are determined by what the
-- words say of them.
use Rattle.std.proofs.Common.{◌≡◌, ℕ, ◌<◌, ◌≤◌, inl, inr, List, [], ◌∷◌, ◌++◌, length, false, Option, Some, None, Result, Ok, Err, refl, sym, ap, ◌∙◌, subst, arith}
use Rattle.std.specs.Prelude.{replicate}
use Rattle.bq_source.specs.declared.token.TokenKind.TheVariants as k
use Rattle.bq_source.specs.declared.token.Token.{Token}
use Rattle.bq_source_lexer.specs.declared.place.OpenBracket.{OpenBracket}
use Rattle.bq_base.specs.declared.fault.TokenFault.{TokenFault}
use Rattle.bq_base.specs.declared.fault.Fault.{Fault}
use Rattle.bq_base.specs.declared.fault.TokenFault.TheVariants as f
use Rattle.bq_base.specs.Fault.{fault_at}
use Rattle.bq_source.specs.Token.{same_kind}
use Rattle.bq_source_lexer.specs.Indentation.{IsOpen, width_before, IsAmong, IsDescending, AreOpenAbove, AreMarks, wider, open_}
use Rattle.bq_source_lexer.specs.Layout.{opened_by, Leaves, no_token, one_token, IsInLine, IsBetween, first, after, Before, token_of, width, has_tab, IsEmptyAt, IsIndented, Supplies, none, newline, Finishes}
use Rattle.bq_source.proofs.Spelled.{false_not_true}

-- ---- the last of a list

not_empty : {A : Type 0} (xs : List A) (x : A) → xs ++ x ∷ [] ≡ [] → ⊥
not_empty [] x e = cc
not_empty (y ∷ ys) x e = cc

pub same_last : {A : Type 0} (xs ys : List A) (x y : A) → xs ++ x ∷ [] ≡ ys ++ y ∷ [] → (xs ≡ ys) × (x ≡ y)
same_last [] [] x y e = let head : x ≡ y = cc in (refl, head)
same_last [] (z ∷ zs) x y e = let tail : [] ≡ zs ++ y ∷ [] = cc in absurd (not_empty zs y (sym tail))
same_last (w ∷ ws) [] x y e = let tail : ws ++ x ∷ [] ≡ [] = cc in absurd (not_empty ws x tail)
same_last (w ∷ ws) (z ∷ zs) x y e =
    let head : w ≡ z = cc in
    let tail : ws ++ x ∷ [] ≡ zs ++ y ∷ [] = cc in
    let r = same_last ws zs x y tail in
    ((λ i. head i ∷ r.0 i), r.1)

-- ---- brackets

leaves_same : {ts us : List Token} {os ps : List OpenBracket} → Leaves ts os → Leaves us ps → ts ≡ us → os ≡ ps
leaves_same no_token no_token e = refl
leaves_same no_token (one_token {before = before} t h o whole) e = absurd (not_empty before t (sym (e ∙ whole)))
leaves_same (one_token {before = before} t h o whole) no_token e = absurd (not_empty before t (sym whole ∙ e))
leaves_same (one_token {before = before} {os = os} {us = xs} t h o whole) (one_token {before = earlier} {os = ps} {us = ys} u i p last) e =
    let s = same_last before earlier t u (sym whole ∙ e ∙ last) in
    let r = leaves_same h i s.0 in
    let both : Some xs ≡ Some ys = sym o ∙ (λ j. opened_by (s.1 j).kind (s.1 j).line (r j)) ∙ p in
    cc

pub one_leaving : {ts : List Token} {os ps : List OpenBracket} → Leaves ts os → Leaves ts ps → os ≡ ps
one_leaving h i = leaves_same h i refl

-- the brackets before the last token
pub data LastOf (before : List Token) (t : Token) (us : List OpenBracket) : Type 0 where
  last_of : (os : List OpenBracket) → Leaves before os → opened_by t.kind t.line os ≡ Some us → LastOf before t us

pub before_last : {ts : List Token} {us : List OpenBracket} (before : List Token) (t : Token) → Leaves ts us → ts ≡ before ++ t ∷ [] → LastOf before t us
before_last before t no_token e = absurd (not_empty before t (sym e))
before_last before t (one_token {before = earlier} {os = os} {us = us} u h o whole) e =
    let s = same_last earlier before u t (sym whole ∙ e) in
    let P : List Token → Type 0 = λ xs. Leaves xs os in
    last_of os (subst P s.0 h) ((λ i. opened_by (sym s.1 i).kind (sym s.1 i).line os) ∙ o)

-- ---- in a line, or between two

pub not_both : (ts : List Token) → IsInLine ts → IsBetween ts → ⊥
not_both ts h (first e) = not_empty h.before h.last (sym h.whole ∙ e)
not_both ts h (after before last whole is) =
    let s = same_last h.before before h.last last (sym h.whole ∙ whole) in
    let P : Token → Type 0 = λ t. same_kind t.kind k.Newline ≡ false in
    false_not_true (sym (subst P s.1 h.open_) ∙ is)

-- ---- widths

fewer : (w : ℕ) (ws : List ℕ) → IsDescending (w ∷ ws) → IsDescending ws
fewer w [] d = tt
fewer w (x ∷ xs) d = d.1

below : (w v : ℕ) (ws : List ℕ) → IsDescending (w ∷ ws) → IsAmong v ws → v < w
below w v [] d i = absurd i
below w v (x ∷ xs) d (inl e) = let l = d.0 in omega (arith, e)
below w v (x ∷ xs) d (inr i) = let r = below x v xs d.1 i in let l = d.0 in omega arith

same_head : (u x : ℕ) (us xs : List ℕ) → IsDescending (u ∷ us) → IsDescending (x ∷ xs) → IsAmong u (x ∷ xs) → IsAmong x (u ∷ us) → u ≡ x
same_head u x us xs d e (inl same) j = same
same_head u x us xs d e (inr i) (inl same) = sym same
same_head u x us xs d e (inr i) (inr j) = let l = below x u xs e i in let m = below u x us d j in absurd (omega arith)

in_tail : (v u x : ℕ) (us xs : List ℕ) → u ≡ x → IsDescending (u ∷ us) → IsAmong v us → IsAmong v (x ∷ xs) → IsAmong v xs
in_tail v u x us xs same d i (inl e) = let l = below u v us d i in let never : ⊥ = omega (arith, e) in absurd never
in_tail v u x us xs same d i (inr j) = j

-- what is descending is determined by what is in it
same_widths : (us xs : List ℕ) → IsDescending us → IsDescending xs → ((v : ℕ) → IsAmong v us → IsAmong v xs) → ((v : ℕ) → IsAmong v xs → IsAmong v us) → us ≡ xs
same_widths [] [] d e there back = refl
same_widths [] (x ∷ xs) d e there back = absurd (back x (inl refl))
same_widths (u ∷ us) [] d e there back = absurd (there u (inl refl))
same_widths (u ∷ us) (x ∷ xs) d e there back =
    let head = same_head u x us xs d e (there u (inl refl)) (back x (inl refl)) in
    let tail =
    same_widths us xs (fewer u us d) (fewer x xs e) (λ v i. in_tail v u x us xs head d i (there v (inr i)))
    (λ v i. in_tail v x u xs us (sym head) e i (back v (inr i))) in
    λ i. head i ∷ tail i

pub one_above : (w : ℕ) (vs us xs : List ℕ) → AreOpenAbove w vs us → AreOpenAbove w vs xs → us ≡ xs
one_above w vs us xs h g =
    same_widths us xs h.distinct g.distinct (λ v i. let o = h.open_ v i in g.all v o.0 o.1) (λ v i. let o = g.open_ v i in h.all v o.0 o.1)

-- ---- indents and outdents

same_empty : (b : Before) (t u : Token) → t.kind ≡ u.kind → IsEmptyAt b t → IsEmptyAt b u → t ≡ u
same_empty b t u kind h g = λ i. record { kind = kind i; start = (h.0 ∙ sym g.0) i; end = (h.1 ∙ sym g.1) i; line = (h.2 ∙ sym g.2) i }

pub one_marking : (b : Before) (w : ℕ) (vs : List ℕ) (ts us : List Token) → AreMarks (IsEmptyAt b) w vs ts → AreMarks (IsEmptyAt b) w vs us → ts ≡ us
one_marking b w vs ts us (wider t less kind bare whole) (wider u more same empty all) =
    let e = same_empty b t u (kind ∙ sym same) bare empty in whole ∙ ap (λ x. x ∷ []) e ∙ sym all
one_marking b w vs ts us (wider t less kind bare whole) (open_ ws u le opened above same empty all) = absurd (omega arith)
one_marking b w vs ts us (open_ ws u le opened above same empty all) (wider t less kind bare whole) = absurd (omega arith)
one_marking b w vs ts us (open_ ws t le opened above kind bare whole) (open_ xs u less open2 over same empty all) =
    let e = same_empty b t u (kind ∙ sym same) bare empty in
    let n = one_above w vs ws xs above over in
    whole ∙ (λ i. replicate (length (n i)) (e i)) ∙ sym all

-- What the indentation does before the next token: nothing inside a line; at its start these tokens come, or it is a fault.
pub data Indents (b : Before) : Result (Option (List Token)) (Fault TokenFault) → Type 0 where
  in_line : IsInLine b.tokens → Indents b (Ok None)
  at_start : (marks : List Token) → IsIndented b marks → Indents b (Ok (Some marks))
  at_tab : IsBetween b.tokens → has_tab b → Indents b (Err (fault_at f.Tab b.from_line))
  at_uneven : IsBetween b.tokens → (has_tab b → ⊥) → width b ≤ width_before b.widths → (IsOpen (width b) b.widths → ⊥) → Indents b (Err (fault_at f.Indent b.from_line))

marked_even : (b : Before) (marks : List Token) → AreMarks (IsEmptyAt b) (width b) b.widths marks → width b ≤ width_before b.widths → (IsOpen (width b) b.widths → ⊥) → ⊥
marked_even b marks (wider t less kind bare whole) le never = let no_more : ⊥ = omega arith in no_more
marked_even b marks (open_ ws t le opened above kind bare whole) less never = never opened

pub one_indent : {b : Before} {r q : Result (Option (List Token)) (Fault TokenFault)} → Indents b r → Indents b q → r ≡ q
one_indent (in_line h) (in_line g) = refl
one_indent {b = b} (in_line h) (at_start marks g) = absurd (not_both b.tokens h g.between)
one_indent {b = b} (in_line h) (at_tab g t) = absurd (not_both b.tokens h g)
one_indent {b = b} (in_line h) (at_uneven g t l o) = absurd (not_both b.tokens h g)
one_indent {b = b} (at_start marks g) (in_line h) = absurd (not_both b.tokens h g.between)
one_indent {b = b} (at_start marks g) (at_start more h) = ap (λ ts. Ok (Some ts)) (one_marking b (width b) b.widths marks more g.marked h.marked)
one_indent (at_start marks g) (at_tab h t) = absurd (g.no_tab t)
one_indent {b = b} (at_start marks g) (at_uneven h t l o) = absurd (marked_even b marks g.marked l o)
one_indent {b = b} (at_tab g t) (in_line h) = absurd (not_both b.tokens h g)
one_indent (at_tab h t) (at_start marks g) = absurd (g.no_tab t)
one_indent (at_tab h t) (at_tab g u) = refl
one_indent (at_tab h t) (at_uneven g u l o) = absurd (u t)
one_indent {b = b} (at_uneven g t l o) (in_line h) = absurd (not_both b.tokens h g)
one_indent {b = b} (at_uneven h t l o) (at_start marks g) = absurd (marked_even b marks g.marked l o)
one_indent (at_uneven g u l o) (at_tab h t) = absurd (u t)
one_indent (at_uneven g u l o) (at_uneven h t m p) = refl

-- ---- the end of the text

one_supply : (b : Before) (ts us : List Token) → Supplies b ts → Supplies b us → ts ≡ us
one_supply b ts us (none h e) (none g i) = e ∙ sym i
one_supply b ts us (none h e) (newline g i) = absurd (not_both b.tokens g h)
one_supply b ts us (newline g i) (none h e) = absurd (not_both b.tokens g h)
one_supply b ts us (newline h e) (newline g i) = e ∙ sym i

pub one_finish : (b : Before) (ts us : List Token) → Finishes b ts → Finishes b us → ts ≡ us
one_finish b ts us h g =
    let s = one_supply b h.supplied g.supplied h.supplies g.supplies in
    let n = one_above 0 b.widths h.us g.us h.above g.above in
    h.whole ∙ (λ i. b.tokens ++ s i ++ replicate (length (n i)) (token_of k.Outdent [] b)) ∙ sym g.whole
