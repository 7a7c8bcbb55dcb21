-- What a walk makes needs no more slots than the frame has after it.
use Rattle.std.proofs.Common.{◌≡◌, ◌≤◌, ℕ, ◌+◌, max, List, [], ◌∷◌, ◌++◌, map, length, Option, Some, None, Result, Ok, Err, refl, sym, ap, ◌∙◌, arith}
use Rattle.bq_base.specs.declared.fault.NameFault.{NameFault}
use Rattle.bq_base.specs.declared.fault.Fault.{Fault}
use Rattle.bq_resolve_scope.specs.Scope.{BlockParts}
use Rattle.bq_resolve_scope.specs.Visit.{Passed, Visit, following, ◌>>=◌, pure, stop, given, each, optional}
use Rattle.bq_resolve_laws.specs.FrameSizes.{most}

-- the slots of the blocks are among the first `n`
abbrev pub Within : List BlockParts → ℕ → Type 0
Within [] n = Unit {0}
Within (b ∷ bs) n = (b.base + length b.names ≤ n) × Within bs n

-- what a tree among these blocks may need of a frame with this many slots: nothing outside all blocks
abbrev pub room : List BlockParts → ℕ → ℕ
room [] n = 0
room (b ∷ bs) n = n

-- a walk from one place to another, and what it made
pub record Made {A : Type 0} (f : A → ℕ) (blocks : List BlockParts) (s t : Passed) (x : A) : Type 0 where
  pub kept : s.slots ≤ t.slots
  pub same : t.functions ≡ s.functions
  pub fits : f x ≤ room blocks t.slots

-- Where the frame has enough slots for the blocks, and for what was made before, which needs `m`, it has enough for what the walk
-- makes.
abbrev pub Needs : {A : Type 0} → List BlockParts → ℕ → (A → ℕ) → Visit A → Type 0
Needs {A = A} blocks m f v = (s t : Passed) (x : A) → Within blocks s.slots → m ≤ room blocks s.slots → v s ≡ Ok (x, t) → Made f blocks s t x

pub within_more : (blocks : List BlockParts) (m n : ℕ) → m ≤ n → Within blocks m → Within blocks n
within_more [] m n h w = tt
within_more (b ∷ bs) m n h w = let a : b.base + length b.names ≤ m = w.0 in (omega arith, within_more bs m n h w.1)

pub room_more : (blocks : List BlockParts) (m n : ℕ) → m ≤ n → room blocks m ≤ room blocks n
room_more [] m n h = omega arith
room_more (b ∷ bs) m n h = h

-- ---- walks

pub weaker : {A : Type 0} (blocks : List BlockParts) (m : ℕ) (f : A → ℕ) (v : Visit A) → Needs blocks 0 f v → Needs blocks m f v
weaker blocks m f v n s t x w h e = n s t x w (omega arith) e

-- a walk that ends here, with this
abbrev pub ends : {A : Type 0} → A → Passed → Result (A × Passed) (Fault NameFault)
ends x s = Ok (x, s)

pub ended : {A : Type 0} (p q : A × Passed) (a b : Result (A × Passed) (Fault NameFault)) → a ≡ Ok p → b ≡ Ok q → a ≡ b → p ≡ q
ended p q a b g h e = let w : Ok p ≡ Ok q = sym g ∙ e ∙ h in cc

-- what ends at a place with the same slots and functions
pub moved : {A : Type 0} (blocks : List BlockParts) (m : ℕ) (f : A → ℕ) (x y : A) (s u t : Passed) → u.slots ≡ s.slots → u.functions ≡ s.functions
    → f x ≤ m → m ≤ room blocks s.slots → ends x u ≡ ends y t → Made f blocks s t y
moved {A = A} blocks m f x y s u t slots functions fits h e =
    let a : A × Passed = (x, u) in let b : A × Passed = (y, t) in
    let p : a ≡ b = ended a b (Ok a) (Ok b) refl refl e in
    let v : f x ≡ f y = ap (λ z. f z.0) p in
    let n : s.slots ≡ t.slots = sym slots ∙ ap (λ z. z.1.slots) p in
    let r : room blocks s.slots ≡ room blocks t.slots = ap (λ k. room blocks k) n in
    record { kept = omega arith; same = sym (ap (λ z. z.1.functions) p) ∙ functions; fits = omega arith }

pub needs_pure : {A : Type 0} (blocks : List BlockParts) (m : ℕ) (f : A → ℕ) (x : A) → f x ≤ m → Needs blocks m f (pure x)
needs_pure blocks m f x fits s t y w h e = moved blocks m f x y s s t refl refl fits h e

pub needs_stop : {A : Type 0} (blocks : List BlockParts) (m : ℕ) (f : A → ℕ) (why : Fault NameFault) → Needs blocks m f (stop why)
needs_stop blocks m f why s t y w h e = absurd (let no : ⊥ = cc in no)

pub needs_given : {A : Type 0} (blocks : List BlockParts) (m : ℕ) (f : A → ℕ) (why : Fault NameFault) (o : Option A)
    → ((n : ℕ) (x : A) → Within blocks n → o ≡ Some x → f x ≤ room blocks n) → Needs blocks m f (given why o)
needs_given blocks m f why None known s t y w h e = needs_stop blocks m f why s t y w h e
needs_given blocks m f why (Some x) known s t y w h e = moved blocks (room blocks s.slots) f x y s s t refl refl (known s.slots x w refl) (omega arith) e

bind_by : {A B : Type 0} (blocks : List BlockParts) (m : ℕ) (f : A → ℕ) (g : B → ℕ) (v : Visit A) (go : A → Visit B)
    → Needs blocks m f v → ((x : A) → Needs blocks (max m (f x)) g (go x)) → (s t : Passed) (y : B) → Within blocks s.slots → m ≤ room blocks s.slots
    → (r : Result (A × Passed) (Fault NameFault)) → v s ≡ r → following r go ≡ Ok (y, t) → Made g blocks s t y
bind_by blocks m f g v go first next s t y w h (Err why) d e = absurd (let no : ⊥ = cc in no)
bind_by blocks m f g v go first next s t y w h (Ok p) d e =
    let a : Made f blocks s p.1 p.0 = first s p.1 p.0 w h d in
    let k : s.slots ≤ p.1.slots = a.kept in
    let l : f p.0 ≤ room blocks p.1.slots = a.fits in
    let r : room blocks s.slots ≤ room blocks p.1.slots = room_more blocks s.slots p.1.slots k in
    let b : Made g blocks p.1 t y = next p.0 p.1 t y (within_more blocks s.slots p.1.slots k w) (omega arith) e in
    let n : p.1.slots ≤ t.slots = b.kept in
    record { kept = omega arith; same = b.same ∙ a.same; fits = b.fits }

pub needs_bind : {A B : Type 0} (blocks : List BlockParts) (m : ℕ) (f : A → ℕ) (g : B → ℕ) (v : Visit A) (go : A → Visit B)
    → Needs blocks m f v → ((x : A) → Needs blocks (max m (f x)) g (go x)) → Needs blocks m g (v >>= go)
needs_bind blocks m f g v go first next s t y w h e = bind_by blocks m f g v go first next s t y w h (v s) refl e

-- ---- where a walk ended

split_by : {A B : Type 0} (go : A → Visit B) (t : Passed) (y : B) (r : Result (A × Passed) (Fault NameFault)) → following r go ≡ Ok (y, t) → (p : A × Passed) × (r ≡ Ok p) × (go p.0 p.1 ≡ Ok (y, t))
split_by go t y (Err why) h = absurd (let no : ⊥ = cc in no)
split_by go t y (Ok p) h = (p, refl, h)

-- a walk after another: where the first ended
pub split : {A B : Type 0} (v : Visit A) (go : A → Visit B) (s t : Passed) (y : B) → (v >>= go) s ≡ Ok (y, t) → (p : A × Passed) × (v s ≡ Ok p) × (go p.0 p.1 ≡ Ok (y, t))
split v go s t y h = split_by go t y (v s) h

-- where a walk that only makes something ends
pub pure_is : {A : Type 0} (x y : A) (s t : Passed) → pure x s ≡ Ok (y, t) → (x ≡ y) × (s ≡ t)
pure_is {A = A} x y s t h =
    let a : A × Passed = (x, s) in let b : A × Passed = (y, t) in
    let p : a ≡ b = ended a b (Ok a) (Ok b) refl refl h in (ap (λ z. z.0) p, ap (λ z. z.1) p)

-- ---- walks in a row, and something made of what they make

pub needs_map : {A B : Type 0} (blocks : List BlockParts) (m : ℕ) (f : A → ℕ) (g : B → ℕ) (v : Visit A) (make : A → B)
    → Needs blocks m f v → ((x : A) → g (make x) ≤ max m (f x)) → Needs blocks m g (v >>= λ x. pure (make x))
needs_map blocks m f g v make first fits = needs_bind blocks m f g v (λ x. pure (make x)) first (λ x. needs_pure blocks (max m (f x)) g (make x) (fits x))

pub needs_two : {A B C : Type 0} (blocks : List BlockParts) (f : A → ℕ) (g : B → ℕ) (h : C → ℕ) (v : Visit A) (u : Visit B) (make : A → B → C)
    → Needs blocks 0 f v → Needs blocks 0 g u → ((x : A) (y : B) → h (make x y) ≤ max (f x) (g y)) → Needs blocks 0 h (v >>= λ x. u >>= λ y. pure (make x y))
needs_two blocks f g h v u make first second fits =
    needs_bind blocks 0 f h v (λ x. u >>= λ y. pure (make x y)) first
    (λ x. needs_map blocks (max 0 (f x)) g h u (make x) (weaker blocks (max 0 (f x)) g u second)
    (λ y. let a : h (make x y) ≤ max (f x) (g y) = fits x y in omega arith))

pub needs_three : {A B C D : Type 0} (blocks : List BlockParts) (f : A → ℕ) (g : B → ℕ) (h : C → ℕ) (i : D → ℕ)
    (v : Visit A) (u : Visit B) (w : Visit C) (make : A → B → C → D) → Needs blocks 0 f v → Needs blocks 0 g u → Needs blocks 0 h w
    → ((x : A) (y : B) (z : C) → i (make x y z) ≤ max (f x) (max (g y) (h z))) → Needs blocks 0 i (v >>= λ x. u >>= λ y. w >>= λ z. pure (make x y z))
needs_three blocks f g h i v u w make first second third fits =
    needs_bind blocks 0 f i v (λ x. u >>= λ y. w >>= λ z. pure (make x y z)) first
    (λ x. needs_bind blocks (max 0 (f x)) g i u (λ y. w >>= λ z. pure (make x y z)) (weaker blocks (max 0 (f x)) g u second)
    (λ y. needs_map blocks (max (max 0 (f x)) (g y)) h i w (make x y) (weaker blocks (max (max 0 (f x)) (g y)) h w third)
    (λ z. let a : i (make x y z) ≤ max (f x) (max (g y) (h z)) = fits x y z in omega arith)))

-- ---- lists

pub most_more : {A : Type 0} (f : A → ℕ) (xs : List A) (y : A) → most (map f (xs ++ y ∷ [])) ≡ max (most (map f xs)) (f y)
most_more f [] y = omega arith
most_more f (x ∷ xs) y = let e : most (map f (xs ++ y ∷ [])) ≡ max (most (map f xs)) (f y) = most_more f xs y in omega arith

pub needs_each : {A B : Type 0} (blocks : List BlockParts) (f : A → ℕ) (one : B → Visit A) → ((x : B) → Needs blocks 0 f (one x))
    → (m : ℕ) (done : List A) (xs : List B) → most (map f done) ≤ m → Needs blocks m (λ ys. most (map f ys)) (each one done xs)
unfolding each
needs_each blocks f one ones m done [] h = needs_pure blocks m (λ ys. most (map f ys)) done h
needs_each blocks f one ones m done (x ∷ xs) h =
    needs_bind blocks m f (λ ys. most (map f ys)) (one x) (λ y. each one (done ++ y ∷ []) xs) (weaker blocks m f (one x) (ones x))
    (λ y. needs_each blocks f one ones (max m (f y)) (done ++ y ∷ []) xs (let e : most (map f (done ++ y ∷ [])) ≡ max (most (map f done)) (f y) = most_more f done y in omega arith))

-- all of these, from the first on
pub needs_all : {A B : Type 0} (blocks : List BlockParts) (f : A → ℕ) (one : B → Visit A) → ((x : B) → Needs blocks 0 f (one x))
    → (xs : List B) → Needs blocks 0 (λ ys. most (map f ys)) (each one [] xs)
needs_all blocks f one ones xs = needs_each blocks f one ones 0 [] xs (omega arith)

-- of what may be absent
abbrev pub part : {A : Type 0} → (A → ℕ) → Option A → ℕ
part f None = 0
part f (Some x) = f x

pub needs_optional : {A B : Type 0} (blocks : List BlockParts) (f : A → ℕ) (one : B → Visit A) → ((x : B) → Needs blocks 0 f (one x))
    → (o : Option B) → Needs blocks 0 (part f) (optional one o)
needs_optional blocks f one ones None = needs_pure blocks 0 (part f) None (omega arith)
needs_optional blocks f one ones (Some x) = needs_map blocks 0 f (part f) (one x) (λ y. Some y) (ones x) (λ y. omega arith)

-- ---- blocks

-- what is made among the blocks around a block needs no more inside it
pub needs_inside : {A : Type 0} (block : BlockParts) (blocks : List BlockParts) (f : A → ℕ) (v : Visit A) → Needs blocks 0 f v → Needs (block ∷ blocks) 0 f v
needs_inside block [] f v n s t x w h e =
    let m : Made f [] s t x = n s t x tt (omega arith) e in let a : f x ≤ 0 = m.fits in record { kept = m.kept; same = m.same; fits = omega arith }
needs_inside block (b ∷ bs) f v n s t x w h e =
    let m : Made f (b ∷ bs) s t x = n s t x w.1 (omega arith) e in record { kept = m.kept; same = m.same; fits = m.fits }
