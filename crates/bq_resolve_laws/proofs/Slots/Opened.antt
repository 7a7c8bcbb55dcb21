-- The blocks of a function that were opened so far, in order, and the slots of names in them.
use Rattle.std.proofs.Common.{◌≡◌, ◌∙◌, ◌≤◌, ◌<◌, ℕ, zero, suc, ◌+◌, List, [], ◌∷◌, ◌++◌, length, Option, Some, None, refl, sym, ap, arith}
use Rattle.bq_resolve_scope.specs.Names.{place_among}
use Rattle.bq_resolve_scope.specs.Scope.{BlockParts}
use Rattle.bq_resolve_laws.specs.Resolution.{InOrder}
use Rattle.bq_resolve_laws.specs.Slots.Uses.{Block, Use}

-- the block of this number
abbrev pub block_at : List BlockParts → ℕ → Option BlockParts
block_at [] k = None
block_at (b ∷ bs) zero = Some b
block_at (b ∷ bs) (suc k) = block_at bs k

pub at_more : (opened more : List BlockParts) (k : ℕ) (b : BlockParts) → block_at opened k ≡ Some b → block_at (opened ++ more) k ≡ Some b
at_more [] more k b h = absurd (let no : ⊥ = cc in no)
at_more (x ∷ xs) more zero b h = h
at_more (x ∷ xs) more (suc k) b h = at_more xs more k b h

pub at_end : (opened : List BlockParts) (b : BlockParts) → block_at (opened ++ b ∷ []) (length opened) ≡ Some b
at_end [] b = refl
at_end (x ∷ xs) b = at_end xs b

-- ---- slots one after another

-- the slots of the first begin here, those of each other where the ones before it end, and all of them end there
abbrev pub Stacked : ℕ → List BlockParts → ℕ → Type 0
Stacked from [] to = from ≡ to
Stacked from (b ∷ bs) to = (b.base ≡ from) × Stacked (from + length b.names) bs to

pub stacked_more : (from to : ℕ) (opened : List BlockParts) (b : BlockParts) → Stacked from opened to → b.base ≡ to → Stacked from (opened ++ b ∷ []) (to + length b.names)
stacked_more from to [] b h e = (e ∙ sym h, ap (λ n. n + length b.names) h)
stacked_more from to (x ∷ xs) b h e = (h.0, stacked_more (from + length x.names) to xs b h.1 e)

pub begins_after : (from to : ℕ) (opened : List BlockParts) (k : ℕ) (b : BlockParts) → Stacked from opened to → block_at opened k ≡ Some b → from ≤ b.base
begins_after from to [] k b h e = absurd (let no : ⊥ = cc in no)
begins_after from to (x ∷ xs) zero b h e = let is : x ≡ b = cc in let base : x.base ≡ from = h.0 in omega (arith, ap (λ (z : BlockParts). z.base) is)
begins_after from to (x ∷ xs) (suc k) b h e = let more : from + length x.names ≤ b.base = begins_after (from + length x.names) to xs k b h.1 e in omega arith

-- an earlier block ends before a later one
pub ends_before : (from to : ℕ) (opened : List BlockParts) (j k : ℕ) (a b : BlockParts) → Stacked from opened to → block_at opened j ≡ Some a → block_at opened k ≡ Some b → j < k → a.base + length a.names ≤ b.base
ends_before from to [] j k a b h e g l = absurd (let no : ⊥ = cc in no)
ends_before from to (x ∷ xs) j zero a b h e g l = absurd (omega arith)
ends_before from to (x ∷ xs) zero (suc k) a b h e g l =
    let is : x ≡ a = cc in
    let base : x.base ≡ from = h.0 in
    let more : from + length x.names ≤ b.base = begins_after (from + length x.names) to xs k b h.1 g in
    omega (arith, ap (λ (z : BlockParts). z.base) is, ap (λ (z : BlockParts). length z.names) is)
ends_before from to (x ∷ xs) (suc j) (suc k) a b h e g l = ends_before (from + length x.names) to xs j k a b h.1 e g (omega arith)

-- ---- slots

-- the slot is that of the use: of its name in its block
pub record IsSlot (opened : List BlockParts) (of : Use) (slot : ℕ) : Type 0 where
  pub block : BlockParts
  pub place : ℕ
  pub opened_is : block_at opened of.block ≡ Some block
  pub place_is : place_among of.name block.names ≡ Some place
  pub slot_is : slot ≡ block.base + place

pub slots_more : (opened more : List BlockParts) (us : List Use) (ns : List ℕ) → InOrder (IsSlot opened) us ns → InOrder (IsSlot (opened ++ more)) us ns
slots_more opened more [] [] h = tt
slots_more opened more [] (n ∷ ns) h = absurd h
slots_more opened more (u ∷ us) [] h = absurd h
slots_more opened more (u ∷ us) (n ∷ ns) h =
    let one : IsSlot opened u n = h.0 in (
      record { block = one.block; place = one.place; opened_is = at_more opened more u.block one.block one.opened_is; place_is = one.place_is; slot_is = one.slot_is },
      slots_more opened more us ns h.1,
    )

pub in_order_append : {A B : Type 0} (R : A → B → Type 0) (xs us : List A) (ys vs : List B) → InOrder R xs ys → InOrder R us vs → InOrder R (xs ++ us) (ys ++ vs)
in_order_append R [] us [] vs h k = k
in_order_append R [] us (y ∷ ys) vs h k = absurd h
in_order_append R (x ∷ xs) us [] vs h k = absurd h
in_order_append R (x ∷ xs) us (y ∷ ys) vs h k = (h.0, in_order_append R xs us ys vs h.1 k)

-- ---- the blocks around a place

-- the numbered blocks are these, of those that were opened
abbrev pub AreRound : List BlockParts → List Block → List BlockParts → Type 0
AreRound opened [] [] = Unit {0}
AreRound opened [] (b ∷ bs) = ⊥
AreRound opened (r ∷ rs) [] = ⊥
AreRound opened (r ∷ rs) (b ∷ bs) = (block_at opened r.number ≡ Some b) × (r.names ≡ b.names) × AreRound opened rs bs

pub round_more : (opened more : List BlockParts) (rs : List Block) (bs : List BlockParts) → AreRound opened rs bs → AreRound (opened ++ more) rs bs
round_more opened more [] [] h = tt
round_more opened more [] (b ∷ bs) h = absurd h
round_more opened more (r ∷ rs) [] h = absurd h
round_more opened more (r ∷ rs) (b ∷ bs) h = (at_more opened more r.number b h.0, h.1, round_more opened more rs bs h.2)
