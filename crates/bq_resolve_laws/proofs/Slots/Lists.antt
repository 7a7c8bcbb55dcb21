-- Walks that list the slots of what they make beside the uses of what they walk over, inside a function.
use Rattle.std.proofs.Common.{◌≡◌, ◌∙◌, ℕ, List, [], ◌∷◌, ◌++◌, length, map, Option, Some, None, Result, Ok, Err, refl, sym, ap, subst, append_assoc}
use Rattle.std.proofs.lemmas.List.{append-nil}
use Rattle.bq_base.specs.declared.fault.NameFault.{NameFault}
use Rattle.bq_base.specs.declared.fault.Fault.{Fault}
use Rattle.bq_resolve_scope.specs.Scope.{BlockParts}
use Rattle.bq_resolve_scope.specs.Visit.{Passed, Visit, following, ◌>>=◌, pure, stop, given, each, optional}
use Rattle.bq_resolve_laws.specs.Resolution.{InOrder}
use Rattle.bq_resolve_laws.specs.Slots.Slots.{all}
use Rattle.bq_resolve_laws.specs.Slots.Uses as uses
use Rattle.bq_resolve_laws.specs.Slots.Uses.{Block, Part, Use, both, nothing}
use Rattle.bq_resolve_laws.proofs.Slots.Opened.{AreRound, IsSlot, Stacked, in_order_append, round_more, slots_more}

-- inside a function
abbrev pub Inside : List BlockParts → Type 0
Inside [] = ⊥
Inside (b ∷ bs) = Unit {0}

-- the frame has just the slots of the blocks that were opened, and these blocks enclose the place
pub record Fits (opened : List BlockParts) (s : Passed) (rs : List Block) (bs : List BlockParts) : Type 0 where
  pub stacked : Stacked 0 opened s.slots
  pub round : AreRound opened rs bs

-- the slots of something that was made: those of its uses, where it opened more blocks; `count` blocks are open then, with `to` slots
pub record Listed (opened : List BlockParts) (slots : List ℕ) (us : List Use) (count to : ℕ) : Type 0 where
  pub more : List BlockParts
  pub stacked : Stacked 0 (opened ++ more) to
  pub are : InOrder (IsSlot (opened ++ more)) us slots
  pub counted : count ≡ length (opened ++ more)

-- after these slots, a walk makes something with those of the part that it walks over
abbrev pub Lists : {A : Type 0} → List Block → List BlockParts → List ℕ → (A → List ℕ) → Part → Visit A → Type 0
Lists {A = A} rs bs done f part v =
    (opened : List BlockParts) (s t : Passed) (x : A) → Inside bs → Fits opened s rs bs → v s ≡ Ok (x, t)
    → (new : List ℕ) × (f x ≡ done ++ new) × Listed opened new (part (length opened)).0 (part (length opened)).1 t.slots

-- ---- one walk

abbrev pub ends : {A : Type 0} → A × Passed → Result (A × Passed) (Fault NameFault)
ends p = Ok p

abbrev pub faulty : {A : Type 0} → Fault NameFault → Result (A × Passed) (Fault NameFault)
faulty why = Err why

abbrev or_this : {A : Type 0} → A × Passed → Result (A × Passed) (Fault NameFault) → A × Passed
or_this other (Ok p) = p
or_this other (Err why) = other

pub ended : {A : Type 0} (p q : A × Passed) → ends {A = A} p ≡ ends {A = A} q → p ≡ q
ended {A = A} p q e = ap (or_this {A = A} p) e

pub no_fault : {A : Type 0} (why : Fault NameFault) (p : A × Passed) → faulty {A = A} why ≡ ends {A = A} p → ⊥
no_fault why p e = cc

pub listed_none : (opened : List BlockParts) (us : List Use) (slots : List ℕ) (n : ℕ) → Stacked 0 opened n → InOrder (IsSlot opened) us slots → Listed opened slots us (length opened) n
listed_none opened us slots n h are =
    let all_there : opened ≡ opened ++ [] = sym (append-nil opened) in
    record { more = []; stacked = subst (λ (z : List BlockParts). Stacked 0 z n) all_there h; are = subst (λ (z : List BlockParts). InOrder (IsSlot z) us slots) all_there are; counted = ap length all_there }

pub joined : (opened more : List BlockParts) (us vs : List Use) (ns ms : List ℕ) (count to : ℕ) → InOrder (IsSlot (opened ++ more)) us ns → Listed (opened ++ more) ms vs count to → Listed opened (ns ++ ms) (us ++ vs) count to
joined opened more us vs ns ms count to h l =
    let same : (opened ++ more) ++ l.more ≡ opened ++ (more ++ l.more) = append_assoc opened more l.more in
    let both_are : InOrder (IsSlot ((opened ++ more) ++ l.more)) (us ++ vs) (ns ++ ms) = in_order_append (IsSlot ((opened ++ more) ++ l.more)) us vs ns ms (slots_more (opened ++ more) l.more us ns h) l.are in
    record {
      more = more ++ l.more;
      stacked = subst (λ (z : List BlockParts). Stacked 0 z to) same l.stacked;
      are = subst (λ (z : List BlockParts). InOrder (IsSlot z) (us ++ vs) (ns ++ ms)) same both_are;
      counted = l.counted ∙ ap length same;
    }

module _ (rs : List Block) (bs : List BlockParts) where
  pub lists_stop : {A : Type 0} (done : List ℕ) (f : A → List ℕ) (part : Part) (why : Fault NameFault) → Lists {A = A} rs bs done f part (stop why)
  lists_stop {A = A} done f part why opened s t x inside fits h = absurd (no_fault {A = A} why (x, t) h)

  known : {A : Type 0} (done : List ℕ) (f : A → List ℕ) (us : List Use) (new : List ℕ) (x y : A) (opened : List BlockParts) (s t : Passed) → Fits opened s rs bs → f x ≡ done ++ new → InOrder (IsSlot opened) us new
      → ends {A = A} (x, s) ≡ ends {A = A} (y, t) → (ns : List ℕ) × (f y ≡ done ++ ns) × Listed opened ns us (length opened) t.slots
  known {A = A} done f us new x y opened s t fits is are h =
      let same : (x, s) ≡ (y, t) = ended {A = A} (x, s) (y, t) h in (
        new,
        sym (ap (λ (p : A × Passed). f p.0) same) ∙ is,
        listed_none opened us new t.slots (subst (λ (p : A × Passed). Stacked 0 opened p.1.slots) same fits.stacked) are,
      )

  pub lists_pure : {A : Type 0} (done : List ℕ) (f : A → List ℕ) (x : A) → f x ≡ done → Lists {A = A} rs bs done f nothing (pure x)
  lists_pure {A = A} done f x is opened s t y inside fits h = known {A = A} done f [] [] x y opened s t fits (is ∙ sym (append-nil done)) tt h

  pub lists_given : {A : Type 0} (f : A → List ℕ) (us : List Use) (why : Fault NameFault) (o : Option A)
      → ((opened : List BlockParts) → AreRound opened rs bs → (x : A) → o ≡ Some x → InOrder (IsSlot opened) us (f x)) → Lists {A = A} rs bs [] f (λ k. (us, k)) (given why o)
  lists_given {A = A} f us why None are opened s t y inside fits h = absurd (no_fault {A = A} why (y, t) h)
  lists_given {A = A} f us why (Some x) are opened s t y inside fits h = known {A = A} [] f us (f x) x y opened s t fits refl (are opened fits.round x refl) h

  -- ---- one after another

  after : {A B : Type 0} (done : List ℕ) (f : A → List ℕ) (g : B → List ℕ) (a b : Part) (v : Visit A) (go : A → Visit B) → Lists {A = A} rs bs [] f a v → ((x : A) → Lists {A = B} rs bs (done ++ f x) g b (go x))
      → (opened : List BlockParts) (s t : Passed) (y : B) → Inside bs → Fits opened s rs bs → (r : Result (A × Passed) (Fault NameFault)) → v s ≡ r → following r go ≡ Ok (y, t)
      → (new : List ℕ) × (g y ≡ done ++ new) × Listed opened new (both a b (length opened)).0 (both a b (length opened)).1 t.slots
  after {A} {B} done f g a b v go first next opened s t y inside fits (Err why) d h = absurd (no_fault {A = B} why (y, t) h)
  after {A} {B} done f g a b v go first next opened s t y inside fits (Ok p) d h =
      let k : ℕ = length opened in
      let one = first opened s p.1 p.0 inside fits d in
      let there : List BlockParts = opened ++ one.2.more in
      let fits_there : Fits there p.1 rs bs = record { stacked = one.2.stacked; round = round_more opened one.2.more rs bs fits.round } in
      let two = next p.0 there p.1 t y inside fits_there h in
      let counted : Listed there two.0 (b (a k).1).0 (b (a k).1).1 t.slots = subst (λ (n : ℕ). Listed there two.0 (b n).0 (b n).1 t.slots) (sym one.2.counted) two.2 in (
        one.0 ++ two.0,
        two.1 ∙ (ap (λ (z : List ℕ). (done ++ z) ++ two.0) one.1 ∙ append_assoc done one.0 two.0),
        joined opened one.2.more (a k).0 (b (a k).1).0 one.0 two.0 (b (a k).1).1 t.slots one.2.are counted,
      )

  pub lists_bind : {A B : Type 0} (done : List ℕ) (f : A → List ℕ) (g : B → List ℕ) (a b : Part) (v : Visit A) (go : A → Visit B) → Lists {A = A} rs bs [] f a v → ((x : A) → Lists {A = B} rs bs (done ++ f x) g b (go x))
      → Lists {A = B} rs bs done g (both a b) (v >>= go)
  lists_bind done f g a b v go first next opened s t y inside fits h = after done f g a b v go first next opened s t y inside fits (v s) refl h

  made : {A B : Type 0} (done : List ℕ) (f : A → List ℕ) (g : B → List ℕ) (a : Part) (v : Visit A) (make : A → B) → Lists {A = A} rs bs [] f a v → ((x : A) → g (make x) ≡ done ++ f x)
      → (opened : List BlockParts) (s t : Passed) (y : B) → Inside bs → Fits opened s rs bs → (r : Result (A × Passed) (Fault NameFault)) → v s ≡ r → following r (λ x. pure (make x)) ≡ Ok (y, t)
      → (new : List ℕ) × (g y ≡ done ++ new) × Listed opened new (a (length opened)).0 (a (length opened)).1 t.slots
  made {A} {B} done f g a v make first is opened s t y inside fits (Err why) d h = absurd (no_fault {A = B} why (y, t) h)
  made {A} {B} done f g a v make first is opened s t y inside fits (Ok p) d h =
      let k : ℕ = length opened in
      let one = first opened s p.1 p.0 inside fits d in
      let same : (make p.0, p.1) ≡ (y, t) = ended {A = B} (make p.0, p.1) (y, t) h in (
        one.0,
        sym (ap (λ (q : B × Passed). g q.0) same) ∙ (is p.0 ∙ ap (λ (z : List ℕ). done ++ z) one.1),
        subst (λ (q : B × Passed). Listed opened one.0 (a k).0 (a k).1 q.1.slots) same one.2,
      )

  pub lists_map : {A B : Type 0} (done : List ℕ) (f : A → List ℕ) (g : B → List ℕ) (a : Part) (v : Visit A) (make : A → B) → Lists {A = A} rs bs [] f a v → ((x : A) → g (make x) ≡ done ++ f x)
      → Lists {A = B} rs bs done g a (v >>= λ x. pure (make x))
  lists_map done f g a v make first is opened s t y inside fits h = made done f g a v make first is opened s t y inside fits (v s) refl h

  made_after : {A B : Type 0} (done : List ℕ) (f : A → List ℕ) (g : B → List ℕ) (a : Part) (v : Visit A) (make : A → B) → Lists {A = A} rs bs done f a v → ((x : A) → g (make x) ≡ f x)
      → (opened : List BlockParts) (s t : Passed) (y : B) → Inside bs → Fits opened s rs bs → (r : Result (A × Passed) (Fault NameFault)) → v s ≡ r → following r (λ x. pure (make x)) ≡ Ok (y, t)
      → (new : List ℕ) × (g y ≡ done ++ new) × Listed opened new (a (length opened)).0 (a (length opened)).1 t.slots
  made_after {A} {B} done f g a v make first is opened s t y inside fits (Err why) d h = absurd (no_fault {A = B} why (y, t) h)
  made_after {A} {B} done f g a v make first is opened s t y inside fits (Ok p) d h =
      let k : ℕ = length opened in
      let one = first opened s p.1 p.0 inside fits d in
      let same : (make p.0, p.1) ≡ (y, t) = ended {A = B} (make p.0, p.1) (y, t) h in
      (one.0, sym (ap (λ (q : B × Passed). g q.0) same) ∙ (is p.0 ∙ one.1), subst (λ (q : B × Passed). Listed opened one.0 (a k).0 (a k).1 q.1.slots) same one.2)

  -- something made of what a walk makes after these slots
  pub mapped : {A B : Type 0} (done : List ℕ) (f : A → List ℕ) (g : B → List ℕ) (a : Part) (v : Visit A) (make : A → B) → Lists {A = A} rs bs done f a v → ((x : A) → g (make x) ≡ f x)
      → Lists {A = B} rs bs done g a (v >>= λ x. pure (make x))
  mapped done f g a v make first is opened s t y inside fits h = made_after done f g a v make first is opened s t y inside fits (v s) refl h

  pub lists_two : {A B C : Type 0} (f : A → List ℕ) (g : B → List ℕ) (h : C → List ℕ) (a b : Part) (v : Visit A) (u : Visit B) (make : A → B → C) → Lists {A = A} rs bs [] f a v → Lists {A = B} rs bs [] g b u
      → ((x : A) (y : B) → h (make x y) ≡ f x ++ g y) → Lists {A = C} rs bs [] h (both a b) (v >>= λ x. u >>= λ y. pure (make x y))
  lists_two f g h a b v u make first second is = lists_bind [] f h a b v (λ x. u >>= λ y. pure (make x y)) first (λ x. lists_map (f x) g h b u (make x) second (is x))

  pub lists_three : {A B C D : Type 0} (f : A → List ℕ) (g : B → List ℕ) (h : C → List ℕ) (i : D → List ℕ) (a b c : Part) (v : Visit A) (u : Visit B) (w : Visit C) (make : A → B → C → D)
      → Lists {A = A} rs bs [] f a v → Lists {A = B} rs bs [] g b u → Lists {A = C} rs bs [] h c w → ((x : A) (y : B) (z : C) → i (make x y z) ≡ f x ++ (g y ++ h z))
      → Lists {A = D} rs bs [] i (both a (both b c)) (v >>= λ x. u >>= λ y. w >>= λ z. pure (make x y z))
  lists_three f g h i a b c v u w make first second third is =
      lists_bind [] f i a (both b c) v (λ x. u >>= λ y. w >>= λ z. pure (make x y z)) first
      (λ x. lists_bind (f x) g i b c u (λ y. w >>= λ z. pure (make x y z)) second (λ y. lists_map (f x ++ g y) h i c w (make x y) third (λ z. is x y z ∙ sym (append_assoc (f x) (g y) (h z)))))

  -- ---- lists

  all_push : {A : Type 0} (f : A → List ℕ) (xs : List A) (y : A) → all (map f (xs ++ y ∷ [])) ≡ all (map f xs) ++ f y
  all_push f [] y = append-nil (f y)
  all_push f (x ∷ xs) y = ap (λ (z : List ℕ). f x ++ z) (all_push f xs y) ∙ sym (append_assoc (f x) (all (map f xs)) (f y))

  pub lists_each : {A B : Type 0} (f : A → List ℕ) (part : B → Part) (one : B → Visit A) → ((x : B) → Lists {A = A} rs bs [] f (part x) (one x)) → (done : List A) (xs : List B)
      → Lists {A = List A} rs bs (all (map f done)) (λ ys. all (map f ys)) (uses.all part xs) (each one done xs)
  unfolding each
  lists_each f part one ones done [] = lists_pure (all (map f done)) (λ ys. all (map f ys)) done refl
  lists_each {A} {B} f part one ones done (x ∷ xs) =
      lists_bind (all (map f done)) f (λ ys. all (map f ys)) (part x) (uses.all part xs) (one x) (λ y. each one (done ++ y ∷ []) xs) (ones x)
      (λ y. subst (λ (d : List ℕ). Lists {A = List A} rs bs d (λ ys. all (map f ys)) (uses.all part xs) (each one (done ++ y ∷ []) xs)) (all_push f done y) (lists_each f part one ones (done ++ y ∷ []) xs))

  pub lists_all : {A B : Type 0} (f : A → List ℕ) (part : B → Part) (one : B → Visit A) → ((x : B) → Lists {A = A} rs bs [] f (part x) (one x)) → (xs : List B)
      → Lists {A = List A} rs bs [] (λ ys. all (map f ys)) (uses.all part xs) (each one [] xs)
  lists_all f part one ones xs = lists_each f part one ones [] xs

  -- of what may be absent
  pub lists_optional : {A B : Type 0} (f : A → List ℕ) (g : Option A → List ℕ) (part : B → Part) (one : B → Visit A) → g None ≡ [] → ((x : A) → g (Some x) ≡ f x) → ((x : B) → Lists {A = A} rs bs [] f (part x) (one x)) → (o : Option B)
      → Lists {A = Option A} rs bs [] g (uses.optional part o) (optional one o)
  lists_optional f g part one none some ones None = lists_pure [] g None none
  lists_optional f g part one none some ones (Some x) = lists_map [] f g (part x) (one x) (λ y. Some y) (ones x) some
