-- The widths that the lexer keeps are those that are open.
use Rattle.std.proofs.Common.{◌≡◌, ℕ, ◌<◌, ◌≤◌, ◌⊎◌, inl, inr, Bool, true, false, cond, nat_lt, List, [], ◌∷◌, ◌++◌, length, refl, sym, ap, ◌∙◌, subst, arith, append_assoc}
use Rattle.std.specs.Prelude.{replicate}
use Rattle.std.proofs.lemmas.List.{append-nil}
use Rattle.std.proofs.str.Laws.{order}
use borrow.Author.Tests.{ltb-true, ltb-false}
use Rattle.bq_source.specs.declared.token.Token.{Token}
use Rattle.bq_source.specs.declared.token.TokenKind.TheVariants as k
use Rattle.bq_source_lexer.specs.Reading.{State, token_at, push_empty, close_above, width_of}
use Rattle.bq_base.proofs.Choices.{by_bool}
use Rattle.bq_source_lexer.specs.Indentation.{IsOpen, width_before, IsAmong, IsDescending, AreOpenAbove}

-- those that aren't wider than w, and those that are
abbrev pub kept : ℕ → List ℕ → List ℕ
kept w [] = []
kept w (v ∷ vs) = cond (nat_lt w v) (kept w vs) (v ∷ vs)

abbrev pub closed : ℕ → List ℕ → List ℕ
closed w [] = []
closed w (v ∷ vs) = cond (nat_lt w v) (v ∷ closed w vs) []

abbrev pub pushed : ℕ → List ℕ → List ℕ
pushed w ws = cond (nat_lt (width_of ws) w) (w ∷ ws) ws

-- the widths above 0 that are open after lines of these widths, the newest first
abbrev pub stack : List ℕ → List ℕ
stack [] = []
stack (v ∷ vs) = pushed v (kept v (stack vs))

-- 0 lies under them all
abbrev pub In : ℕ → List ℕ → Type 0
In w [] = w ≡ 0
In w (v ∷ vs) = (w ≡ v) ⊎ In w vs

-- each is greater than the next
abbrev pub Falls : List ℕ → Type 0
Falls [] = Unit {0}
Falls (v ∷ vs) = (width_of vs < v) × Falls vs

in_least : (w : ℕ) (vs : List ℕ) → Falls vs → In w vs → w ≤ width_of vs
in_least w [] f i = omega (arith, i)
in_least w (v ∷ vs) f (inl e) = omega (arith, e)
in_least w (v ∷ vs) f (inr i) = let a = in_least w vs f.1 i in let b = f.0 in omega arith

-- by whether a width is passed
module _ {A : Type 0} (P : A → Type 0) (v u : ℕ) (x y : A) where
  dropping : (b : Bool) → nat_lt v u ≡ b → (v < u → P x) → (u ≤ v → P y) → P (cond b x y)
  dropping true e f g = f (ltb-true v u e)
  dropping false e f g = g (ltb-false v u e)

falls_kept : (v : ℕ) (vs : List ℕ) → Falls vs → Falls (kept v vs)
falls_kept v [] f = tt
falls_kept v (u ∷ us) f = dropping Falls v u _ _ (nat_lt v u) refl (λ _. falls_kept v us f.1) (λ _. f)

pub top_kept : (v : ℕ) (vs : List ℕ) → width_of (kept v vs) ≤ v
top_kept v [] = omega arith
top_kept v (u ∷ us) = dropping (λ xs. width_of xs ≤ v) v u _ _ (nat_lt v u) refl (λ _. top_kept v us) (λ h. h)

in_kept : (w v : ℕ) (vs : List ℕ) → In w vs → w ≤ v → In w (kept v vs)
in_kept w v [] i h = i
in_kept w v (u ∷ us) i h = dropping (In w) v u _ _ (nat_lt v u) refl
    (λ l. elim i [ inl q ↦ (let never : ⊥ = omega (arith, q, l) in absurd never) | inr j ↦ in_kept w v us j h ]) (λ _. i)

out_kept : (w v : ℕ) (vs : List ℕ) → In w (kept v vs) → In w vs
out_kept w v [] i = i
out_kept w v (u ∷ us) i = dropping (λ xs. In w xs → In w (u ∷ us)) v u _ _ (nat_lt v u) refl (λ _ i. inr (out_kept w v us i)) (λ _ i. i) i

falls_pushed : (w : ℕ) (ws : List ℕ) → Falls ws → Falls (pushed w ws)
falls_pushed w ws f = dropping Falls (width_of ws) w _ _ (nat_lt (width_of ws) w) refl (λ l. (l, f)) (λ _. f)

pub falls_stack : (vs : List ℕ) → Falls (stack vs)
falls_stack [] = tt
falls_stack (v ∷ vs) = falls_pushed v (kept v (stack vs)) (falls_kept v (stack vs) (falls_stack vs))

in_top : (ws : List ℕ) → In (width_of ws) ws
in_top [] = refl
in_top (w ∷ ws) = inl refl

pushed_in : (w v : ℕ) (ws : List ℕ) → In w (pushed v ws) → (w ≡ v) ⊎ In w ws
pushed_in w v ws h = dropping (λ xs. In w xs → (w ≡ v) ⊎ In w ws) (width_of ws) v _ _ (nat_lt (width_of ws) v) refl (λ _ i. i) (λ _ i. inr i) h

in_pushed : (w v : ℕ) (ws : List ℕ) → width_of ws ≤ v → (w ≡ v) ⊎ In w ws → In w (pushed v ws)
in_pushed w v ws h i = dropping (In w) (width_of ws) v _ _ (nat_lt (width_of ws) v) refl
    (λ _. i)
    (λ l. elim i [ inl q ↦ (let same : width_of ws ≡ w = omega (arith, q) in subst (λ x. In x ws) same (in_top ws)) | inr j ↦ j ])

-- a width is kept exactly where it is open
pub open_kept : (w : ℕ) (vs : List ℕ) → IsOpen w vs → In w (stack vs)
open_kept w [] o = o
open_kept w (v ∷ vs) o = in_pushed w v (kept v (stack vs)) (top_kept v (stack vs))
    (elim o [ inl e ↦ inl e | inr p ↦ inr (in_kept w v (stack vs) (open_kept w vs p.1) (omega (arith, p.0))) ])

pub kept_open : (w : ℕ) (vs : List ℕ) → In w (stack vs) → IsOpen w vs
kept_open w [] i = i
kept_open w (v ∷ vs) i =
    elim (pushed_in w v (kept v (stack vs)) i) [
      | inl e ↦ inl e
      | inr j ↦
          let le : w ≤ width_of (kept v (stack vs)) = in_least w _ (falls_kept v (stack vs) (falls_stack vs)) j in
          let t = top_kept v (stack vs) in
          elim (order w v) [ inl less ↦ inr (less, kept_open w vs (out_kept w v (stack vs) j)) | inr more ↦ inl (omega arith) ]
    ]

-- the greatest of them is the width of the line before
pub top_stack : (vs : List ℕ) → width_of (stack vs) ≡ width_before vs
top_stack [] = refl
top_stack (v ∷ vs) =
    let t = top_kept v (stack vs) in
    dropping (λ xs. width_of xs ≡ v) (width_of (kept v (stack vs))) v _ _ (nat_lt (width_of (kept v (stack vs))) v) refl (λ _. refl) (λ l. omega arith)

-- where a width is open, it is the greatest that isn't above it
pub open_top : (w : ℕ) (vs : List ℕ) → IsOpen w vs → width_of (kept w (stack vs)) ≡ w
open_top w vs o =
    let i = in_kept w w (stack vs) (open_kept w vs o) (omega arith) in
    let a = in_least w (kept w (stack vs)) (falls_kept w (stack vs) (falls_stack vs)) i in
    let b = top_kept w (stack vs) in
    omega arith

pub top_open : (w : ℕ) (vs : List ℕ) → width_of (kept w (stack vs)) ≡ w → IsOpen w vs
top_open w vs e =
    let P : ℕ → Type 0 = λ x. In x (kept w (stack vs)) in
    kept_open w vs (out_kept w w (stack vs) (subst P e (in_top (kept w (stack vs)))))

-- what is pushed where the width is open, and where it is wider
pub pushed_open : (w : ℕ) (ws : List ℕ) → width_of ws ≡ w → pushed w ws ≡ ws
pushed_open w ws e = dropping (λ xs. xs ≡ ws) (width_of ws) w _ _ (nat_lt (width_of ws) w) refl (λ l. absurd (omega arith)) (λ _. refl)

pub pushed_wider : (w : ℕ) (ws : List ℕ) → width_of ws < w → pushed w (kept w ws) ≡ w ∷ ws
pushed_wider w [] h = dropping (λ xs. xs ≡ w ∷ []) 0 w _ _ (nat_lt 0 w) refl (λ l. refl) (λ l. absurd (omega arith))
pushed_wider w (v ∷ vs) h =
    let same : kept w (v ∷ vs) ≡ v ∷ vs = dropping (λ xs. xs ≡ v ∷ vs) w v _ _ (nat_lt w v) refl (λ l. absurd (omega arith)) (λ _. refl) in
    ap (pushed w) same ∙ dropping (λ xs. xs ≡ w ∷ v ∷ vs) v w _ _ (nat_lt v w) refl (λ l. refl) (λ l. absurd (omega arith))

-- ---- those that are closed

descends : (w : ℕ) (vs : List ℕ) → Falls vs → IsDescending (closed w vs)
descends w [] f = tt
descends w (v ∷ []) f = dropping IsDescending w v _ _ (nat_lt w v) refl (λ _. tt) (λ _. tt)
descends w (v ∷ u ∷ us) f =
    let rest = descends w (u ∷ us) f.1 in
    let below : u < v = f.0 in
    dropping IsDescending w v _ _ (nat_lt w v) refl
    (λ _. dropping (λ xs. IsDescending xs → IsDescending (v ∷ xs)) w u _ _ (nat_lt w u) refl (λ _ r. (below, r)) (λ _ r. tt) rest)
    (λ _. tt)

among_closed : (w u : ℕ) (vs : List ℕ) → IsAmong u (closed w vs) → (w < u) × In u vs
among_closed w u [] i = absurd i
among_closed w u (v ∷ vs) i =
    dropping (λ xs. IsAmong u xs → (w < u) × ((u ≡ v) ⊎ In u vs)) w v _ _ (nat_lt w v) refl
    (λ l i. elim i [ inl e ↦ (omega (arith, e, l), inl e) | inr j ↦ (let r = among_closed w u vs j in (r.0, inr r.1)) ])
    (λ _ i. absurd i) i

closed_all : (w u : ℕ) (vs : List ℕ) → Falls vs → w < u → In u vs → IsAmong u (closed w vs)
closed_all w u [] f h i = let never : ⊥ = omega (arith, i, h) in absurd never
closed_all w u (v ∷ vs) f h i =
    dropping (IsAmong u) w v _ _ (nat_lt w v) refl
    (λ l. elim i [ inl e ↦ inl e | inr j ↦ inr (closed_all w u vs f.1 h j) ])
    (λ l. let le = in_least u (v ∷ vs) f i in absurd (omega arith))

pub open_above : (w : ℕ) (vs : List ℕ) → AreOpenAbove w vs (closed w (stack vs))
open_above w vs = record {
  distinct = descends w (stack vs) (falls_stack vs);
  open_ = λ u i. let r = among_closed w u (stack vs) i in (r.0, kept_open u vs r.1);
  all = λ u h o. closed_all w u (stack vs) (falls_stack vs) h (open_kept u vs o);
}

-- what closing them makes of the state
abbrev pub outdents : ℕ → List ℕ → State → State
outdents w ws s = record s { widths = kept w ws; tokens = s.tokens ++ replicate (length (closed w ws)) (token_at k.Outdent 0 s) }

pub closes_above : (w : ℕ) (ws : List ℕ) (s : State) → s.widths ≡ ws → close_above w ws s ≡ outdents w ws s
closes_above w [] s e = λ i. record s { widths = e i; tokens = sym (append-nil s.tokens) i }
closes_above w (v ∷ vs) s e = elim (by_bool (nat_lt w v)) [
  | inl t ↦
      let next : State = push_empty k.Outdent (record s { widths = vs }) in
      let later : close_above w vs next ≡ outdents w vs next = closes_above w vs next refl in
      let tok : Token = token_at k.Outdent 0 s in
      let more = append_assoc s.tokens (tok ∷ []) (replicate (length (closed w vs)) tok) in
      rw t (later ∙ (λ i. record s { widths = kept w vs; tokens = more i }))
  | inr t ↦ rw t (λ i. record s { widths = v ∷ vs; tokens = sym (append-nil s.tokens) i })
]
