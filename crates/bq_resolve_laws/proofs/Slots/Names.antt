-- Uses of names list their slots.
use Rattle.std.proofs.Common.{◌≡◌, ◌∙◌, ℕ, suc, ◌+◌, Bool, true, false, cond, ◌||◌, List, [], ◌∷◌, length, Option, Some, None, refl, sym, ap, subst, bytes_eq}
use Rattle.std.specs.Prelude.{◌&&◌, if◌then◌else◌}
use Rattle.std.specs.Option.{option_map}
use Rattle.std.proofs.lemmas.Bool.{false≢true}
use Rattle.bq_base.specs.declared.fault.NameFault.TheVariants as f
use Rattle.bq_predeclared.specs.declared.predeclared.Predeclared.{Predeclared}
use Rattle.bq_parse_grammar.specs.declared.tree.Argument.TheOpen.{Expr-F}
use Rattle.bq_parse_grammar.specs.declared.tree.Identifier.{Identifier}
use Rattle.bq_parse_grammar.specs.declared.tree.Referent.{Referent}
use Rattle.bq_parse_grammar.specs.declared.tree.Referent.TheVariants as b
use Rattle.bq_parse_grammar.specs.Targets.{ExprLayer}
use Rattle.bq_resolve_scope.specs.declared.universe.Namespace.{Namespace}
use Rattle.bq_resolve_scope.specs.Names.{Name, has, place_among}
use Rattle.bq_resolve_scope.specs.Scope.{BlockParts, FileParts, file_has, or_else, slot_in, slot_of, use_of}
use Rattle.bq_resolve_scope.specs.Universe.{namespace_named, universe_has}
use Rattle.bq_resolve_scope.specs.Visit.{Visit, ◌>>=◌, pure, given, fault_of}
use Rattle.bq_resolve_scope.specs.Expressions.{NamedSpace, is_bzl, is_unbound, namespace_at, bound_at, place_of, refer, space_of, use_at, with_space}
use Rattle.bq_resolve_laws.specs.Resolution.{InOrder}
use Rattle.bq_resolve_laws.specs.Slots.Slots.{name_slots, referent_slots}
use Rattle.bq_resolve_laws.specs.Slots.Uses.{Block, Part, Use, name_use, use_among}
use Rattle.bq_resolve_laws.proofs.Slots.Lists.{Listed, Lists, lists_given, lists_map}
use Rattle.bq_resolve_laws.proofs.Slots.Opened.{AreRound, IsSlot}

-- ---- places

unplaced_by : (t rest : Bool) (o : Option ℕ) → cond t (Some 0) (option_map suc o) ≡ None → (o ≡ None → rest ≡ false) → (t || rest) ≡ false
unplaced_by true rest o h inner = absurd (let no : ⊥ = cc in no)
unplaced_by false rest None h inner = inner refl
unplaced_by false rest (Some i) h inner = absurd (let no : ⊥ = cc in no)

-- what has no place isn't there
unplaced : (name : Name) (names : List Name) → place_among name names ≡ None → has names name ≡ false
unfolding place_among
unplaced name [] h = refl
unplaced name (x ∷ xs) h = unplaced_by (bytes_eq name x) (has xs name) (place_among name xs) h (unplaced name xs)

placed_by : (t rest : Bool) (o : Option ℕ) (i : ℕ) → cond t (Some 0) (option_map suc o) ≡ Some i → ((j : ℕ) → o ≡ Some j → rest ≡ true) → (t || rest) ≡ true
placed_by true rest o i h inner = refl
placed_by false rest None i h inner = absurd (let no : ⊥ = cc in no)
placed_by false rest (Some j) i h inner = inner j refl

-- what has a place is there
placed : (name : Name) (names : List Name) (i : ℕ) → place_among name names ≡ Some i → has names name ≡ true
unfolding place_among
placed name [] i h = absurd (let no : ⊥ = cc in no)
placed name (x ∷ xs) i h = placed_by (bytes_eq name x) (has xs name) (place_among name xs) i h (placed name xs)

-- ---- the innermost block that holds a name

held : (r : Block) (rs : List Block) (name : Name) → has r.names name ≡ true → use_among (r ∷ rs) name ≡ record { block = r.number; name = name } ∷ []
unfolding use_among
held r rs name h = rw h refl

not_held : (r : Block) (rs : List Block) (name : Name) → has r.names name ≡ false → use_among (r ∷ rs) name ≡ use_among rs name
unfolding use_among
not_held r rs name h = rw h refl

slot_here : (block : BlockParts) (bs : List BlockParts) (name : Name) (i : ℕ) → place_among name block.names ≡ Some i → slot_of (block ∷ bs) name ≡ Some (block.base + i)
unfolding slot_of slot_in
slot_here block bs name i h = rw h refl

slot_further : (block : BlockParts) (bs : List BlockParts) (name : Name) → place_among name block.names ≡ None → slot_of (block ∷ bs) name ≡ slot_of bs name
unfolding slot_of slot_in
slot_further block bs name h = rw h refl

abbrev slot_list : Option ℕ → List ℕ
slot_list None = []
slot_list (Some n) = n ∷ []

abbrev Are : List BlockParts → List Use → Option ℕ → Type 0
Are opened us o = InOrder (IsSlot opened) us (slot_list o)

among_none : (name : Name) (opened : List BlockParts) → Are opened (use_among [] name) (slot_of [] name)
unfolding use_among slot_of
among_none name opened = tt

among_by : (name : Name) (opened : List BlockParts) (r : Block) (rs : List Block) (block : BlockParts) (bs : List BlockParts) → AreRound opened (r ∷ rs) (block ∷ bs) → Are opened (use_among rs name) (slot_of bs name)
    → (o : Option ℕ) → place_among name block.names ≡ o → Are opened (use_among (r ∷ rs) name) (slot_of (block ∷ bs) name)
among_by name opened r rs block bs round rest None is =
    let no : has r.names name ≡ false = ap (λ (ns : List Name). has ns name) round.1 ∙ unplaced name block.names is in
    subst (λ (us : List Use). Are opened us (slot_of (block ∷ bs) name)) (sym (not_held r rs name no)) (subst (λ (o : Option ℕ). Are opened (use_among rs name) o) (sym (slot_further block bs name is)) rest)
among_by name opened r rs block bs round rest (Some i) is =
    let yes : has r.names name ≡ true = ap (λ (ns : List Name). has ns name) round.1 ∙ placed name block.names i is in
    let it : Use = record { block = r.number; name = name } in
    let one : IsSlot opened it (block.base + i) = record { block = block; place = i; opened_is = round.0; place_is = is; slot_is = refl } in
    let ones : Are opened (it ∷ []) (Some (block.base + i)) = (one, tt) in
    subst (λ (us : List Use). Are opened us (slot_of (block ∷ bs) name)) (sym (held r rs name yes)) (subst (λ (o : Option ℕ). Are opened (it ∷ []) o) (sym (slot_here block bs name i is)) ones)

-- the use of a name has the slot of the innermost block that holds it
among : (name : Name) (opened : List BlockParts) (rs : List Block) (bs : List BlockParts) → AreRound opened rs bs → Are opened (use_among rs name) (slot_of bs name)
among name opened [] [] round = among_none name opened
among name opened [] (block ∷ bs) round = absurd round
among name opened (r ∷ rs) [] round = absurd round
among name opened (r ∷ rs) (block ∷ bs) round = among_by name opened r rs block bs round (among name opened rs bs round.2) (place_among name block.names) refl

-- ---- bindings

file_by : (g l : Option ℕ) (u : Option Predeclared) (x : Referent) → or_else (option_map b.Global g) (or_else (option_map b.Loaded l) (option_map b.Predeclared u)) ≡ Some x → referent_slots x ≡ []
file_by (Some k) l u x h = let e : b.Global k ≡ x = cc in sym (ap referent_slots e)
file_by None (Some k) u x h = let e : b.Loaded k ≡ x = cc in sym (ap referent_slots e)
file_by None None (Some p) x h = let e : b.Predeclared p ≡ x = cc in sym (ap referent_slots e)
file_by None None None x h = absurd (let no : ⊥ = cc in no)

file_slots : (file : FileParts) (name : Name) (x : Referent) → file_has file name ≡ Some x → referent_slots x ≡ []
unfolding file_has
file_slots file name x h = file_by (place_among name file.globals) (place_among name file.loaded) (universe_has file.universe name) x h

bound_by : (file : FileParts) (name : Name) (o : Option ℕ) (x : Referent) → or_else (option_map b.Local o) (file_has file name) ≡ Some x → referent_slots x ≡ slot_list o
bound_by file name None x h = file_slots file name x h
bound_by file name (Some slot) x h = let e : b.Local slot ≡ x = cc in sym (ap referent_slots e)

module _ (file : FileParts) where
  use_are : (name : Name) (opened : List BlockParts) (rs : List Block) (bs : List BlockParts) → AreRound opened rs bs → (x : Referent) → use_of file bs name ≡ Some x → InOrder (IsSlot opened) (use_among rs name) (referent_slots x)
  unfolding use_of
  use_are name opened rs bs round x h = subst (λ (ns : List ℕ). InOrder (IsSlot opened) (use_among rs name) ns) (sym (bound_by file name (slot_of bs name) x h)) (among name opened rs bs round)

  pub use_lists : (rs : List Block) (bs : List BlockParts) (n : Identifier) → Lists rs bs [] name_slots (name_use rs n.name) (use_at file bs n)
  unfolding use_at
  use_lists rs bs n =
      let used : Visit Referent = given (fault_of f.UnknownName n) (use_of file bs n.name) in
      let listed = lists_given rs bs referent_slots (use_among rs n.name) (fault_of f.UnknownName n) (use_of file bs n.name) (λ opened round. use_are n.name opened rs bs round) in
      lists_map rs bs [] referent_slots name_slots (name_use rs n.name) used (refer n) listed (λ x. refl)

  -- a place is what the name stands for
  place_by : (o : Option Referent) (z : Referent) → place_of o ≡ Some z → o ≡ Some z
  place_by None z h = absurd (let no : ⊥ = cc in no)
  place_by (Some (b.Unresolved line)) z h = absurd (let no : ⊥ = cc in no)
  place_by (Some (b.Local slot)) z h = h
  place_by (Some (b.Global k)) z h = h
  place_by (Some (b.Loaded k)) z h = absurd (let no : ⊥ = cc in no)
  place_by (Some (b.Predeclared p)) z h = absurd (let no : ⊥ = cc in no)
  place_by (Some (b.Member p)) z h = absurd (let no : ⊥ = cc in no)

  place_are : (name : Name) (opened : List BlockParts) (rs : List Block) (bs : List BlockParts) → AreRound opened rs bs → (z : Referent) → place_of (use_of file bs name) ≡ Some z → InOrder (IsSlot opened) (use_among rs name) (referent_slots z)
  place_are name opened rs bs round z h = use_are name opened rs bs round z (place_by (use_of file bs name) z h)

  place_lists : (rs : List Block) (bs : List BlockParts) (n : Identifier) → Lists rs bs [] name_slots (name_use rs n.name) (given (fault_of f.UnknownName n) (place_of (use_of file bs n.name)) >>= λ x. pure (refer n x))
  place_lists rs bs n =
      let place : Visit Referent = given (fault_of f.UnknownName n) (place_of (use_of file bs n.name)) in
      let listed = lists_given rs bs referent_slots (use_among rs n.name) (fault_of f.UnknownName n) (place_of (use_of file bs n.name)) (λ opened round. place_are n.name opened rs bs round) in
      lists_map rs bs [] referent_slots name_slots (name_use rs n.name) place (refer n) listed (λ x. refl)

  pub name_lists : (rs : List Block) (bs : List BlockParts) (n : Identifier) → Lists rs bs [] name_slots (name_use rs n.name) (bound_at file bs n)
  unfolding bound_at
  name_lists rs [] n opened s t x inside fits h = absurd inside
  name_lists rs (block ∷ bs) n opened s t x inside fits h = place_lists rs (block ∷ bs) n opened s t x inside fits h

  -- ---- `native` and `attr`

  no_uses : (opened : List BlockParts) (us : List Use) → InOrder (IsSlot opened) us [] → us ≡ []
  no_uses opened [] h = refl
  no_uses opened (u ∷ us) h = absurd h

  no_slot_by : (name : Name) (o : Option ℕ) → or_else (option_map b.Local o) (file_has file name) ≡ None → o ≡ None
  no_slot_by name None h = refl
  no_slot_by name (Some n) h = absurd (let no : ⊥ = cc in no)

  no_slot : (name : Name) (bs : List BlockParts) → use_of file bs name ≡ None → slot_of bs name ≡ None
  unfolding use_of
  no_slot name bs h = no_slot_by name (slot_of bs name) h

  -- a name that nothing binds is no use of a block's
  pub unbound_is : (opened : List BlockParts) (rs : List Block) (bs : List BlockParts) (name : Name) → AreRound opened rs bs → use_of file bs name ≡ None → use_among rs name ≡ []
  unbound_is opened rs bs name round h =
      no_uses opened (use_among rs name) (subst (λ (o : Option ℕ). Are opened (use_among rs name) o) (no_slot name bs h) (among name opened rs bs round))

  unbound_by : (o : Option Referent) → is_unbound o ≡ true → o ≡ None
  unbound_by None h = refl
  unbound_by (Some x) h = absurd (false≢true h)

  second : (x y : Bool) → (x && y) ≡ true → y ≡ true
  second true y h = h
  second false y h = absurd (false≢true h)

  chosen : (t : Bool) (o : Option Namespace) (space : Namespace) → (if t then o else None) ≡ Some space → t ≡ true
  chosen true o space h = refl
  chosen false o space h = absurd (let no : ⊥ = cc in no)

  space_is : (bs : List BlockParts) (n : Identifier) (o : Option Namespace) (space : NamedSpace) → space_of file bs n ≡ o → with_space n o ≡ Some space → use_of file bs n.name ≡ None
  unfolding space_of
  space_is bs n None space is h = absurd (let no : ⊥ = cc in no)
  space_is bs n (Some there) space is h =
      let t : Bool = is_bzl file.universe.kind && is_unbound (use_of file bs n.name) in
      unbound_by (use_of file bs n.name) (second (is_bzl file.universe.kind) (is_unbound (use_of file bs n.name)) (chosen t (namespace_named n.name) there is))

  pub namespace_is : (bs : List BlockParts) (o : ExprLayer) (space : NamedSpace) → namespace_at file bs o ≡ Some space → (n : Identifier) × (o ≡ Expr-F.Expr::Name n) × (use_of file bs n.name ≡ None)
  namespace_is bs (Expr-F.Expr::Name n) space h = (n, refl, space_is bs n (space_of file bs n) space refl h)
  namespace_is bs (Expr-F.Int i) space h = absurd (let no : ⊥ = cc in no)
  namespace_is bs (Expr-F.String s) space h = absurd (let no : ⊥ = cc in no)
  namespace_is bs (Expr-F.Expr::List xs) space h = absurd (let no : ⊥ = cc in no)
  namespace_is bs (Expr-F.Expr::Tuple xs) space h = absurd (let no : ⊥ = cc in no)
  namespace_is bs (Expr-F.Dict ps) space h = absurd (let no : ⊥ = cc in no)
  namespace_is bs (Expr-F.ListComprehension x xs own) space h = absurd (let no : ⊥ = cc in no)
  namespace_is bs (Expr-F.DictComprehension p xs own) space h = absurd (let no : ⊥ = cc in no)
  namespace_is bs (Expr-F.Primary x ss) space h = absurd (let no : ⊥ = cc in no)
  namespace_is bs (Expr-F.Unary os x) space h = absurd (let no : ⊥ = cc in no)
  namespace_is bs (Expr-F.Binary x os) space h = absurd (let no : ⊥ = cc in no)
  namespace_is bs (Expr-F.Compare x o z) space h = absurd (let no : ⊥ = cc in no)
  namespace_is bs (Expr-F.Conditional xs z) space h = absurd (let no : ⊥ = cc in no)
  namespace_is bs Expr-F.Lambda space h = absurd (let no : ⊥ = cc in no)

-- the same list in other words
pub lists_as : {A : Type 0} (rs : List Block) (bs : List BlockParts) (done : List ℕ) (f : A → List ℕ) (part other : Part) (v : Visit A)
    → ((opened : List BlockParts) → AreRound opened rs bs → (k : ℕ) → part k ≡ other k) → Lists {A = A} rs bs done f part v → Lists {A = A} rs bs done f other v
lists_as rs bs done f part other v same lists opened s t x inside fits h =
    let l = lists opened s t x inside fits h in
    (l.0, l.1, subst (λ (q : List Use × ℕ). Listed opened l.0 q.0 q.1 t.slots) (same opened fits.round (length opened)) l.2)
