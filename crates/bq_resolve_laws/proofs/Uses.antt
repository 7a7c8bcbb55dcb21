-- Slots of names: those of a block are among the block's.
use Rattle.std.proofs.Common.{◌≡◌, ◌<◌, ◌≤◌, ℕ, suc, ◌+◌, max, Bool, true, false, cond, List, [], ◌∷◌, length, Option, Some, None, Err, refl, sym, ap, bytes_eq, arith}
use Rattle.std.specs.Prelude.{if◌then◌else◌}
use Rattle.std.specs.Option.{option_map}
use Rattle.bq_base.specs.declared.fault.NameFault.{NameFault}
use Rattle.bq_base.specs.declared.fault.Fault.{Fault}
use Rattle.bq_base.specs.declared.fault.NameFault.TheVariants as f
use Rattle.bq_parse_grammar.specs.declared.tree.FileKind.{FileKind}
use Rattle.bq_parse_grammar.specs.declared.tree.Identifier.{Identifier}
use Rattle.bq_predeclared.specs.declared.predeclared.Predeclared.{Predeclared}
use Rattle.bq_parse_grammar.specs.declared.tree.Referent.{Referent}
use Rattle.bq_parse_grammar.specs.declared.tree.Referent.TheVariants as b
use Rattle.bq_resolve_scope.specs.Names.{Name, place_among, with_name}
use Rattle.bq_resolve_scope.specs.Scope.{BlockParts, FileParts, or_else, slot_in, slot_of, file_has, use_of}
use Rattle.bq_resolve_scope.specs.Universe.{universe_has}
use Rattle.bq_resolve_scope.specs.Visit.{Passed, ◌>>=◌, pure, fault_of, given}
use Rattle.bq_resolve_scope.specs.Expressions.{refer, place_of, bind_global, bind_in, use_at, bound_at}
use Rattle.bq_resolve_laws.specs.FrameSizes.{referent_slots}
use Rattle.bq_resolve_laws.proofs.Needs.{Within, room, Made, Needs, ends, moved, needs_pure, needs_given, needs_bind, needs_map}

place_by : (t : Bool) (o : Option ℕ) (n i : ℕ) → cond t (Some 0) (option_map suc o) ≡ Some i → ((j : ℕ) → o ≡ Some j → j < n) → i < suc n
place_by true o n i h inner = let z : 0 ≡ i = cc in omega arith
place_by false None n i h inner = absurd (let no : ⊥ = cc in no)
place_by false (Some j) n i h inner = let z : suc j ≡ i = cc in let l : j < n = inner j refl in omega arith

-- a name's place is one of those of the names
pub place_within : (name : Name) (names : List Name) (i : ℕ) → place_among name names ≡ Some i → i < length names
unfolding place_among
place_within name [] i h = absurd (let no : ⊥ = cc in no)
place_within name (x ∷ xs) i h = place_by (bytes_eq name x) (place_among name xs) (length xs) i h (place_within name xs)

slot_by : (block : BlockParts) (o rest : Option ℕ) (slot n : ℕ) → block.base + length block.names ≤ n → ((i : ℕ) → o ≡ Some i → i < length block.names)
    → (rest ≡ Some slot → slot < n) → or_else (option_map (λ i. block.base + i) o) rest ≡ Some slot → slot < n
slot_by block None rest slot n inside own outer h = outer h
slot_by block (Some i) rest slot n inside own outer h = let e : block.base + i ≡ slot = cc in let l : i < length block.names = own i refl in omega arith

-- a name's slot is one of those of the blocks
pub slot_within : (blocks : List BlockParts) (name : Name) (slot n : ℕ) → Within blocks n → slot_of blocks name ≡ Some slot → slot < n
unfolding slot_of slot_in
slot_within [] name slot n w h = absurd (let no : ⊥ = cc in no)
slot_within (block ∷ blocks) name slot n w h =
    slot_by block (place_among name block.names) (slot_of blocks name) slot n w.0 (place_within name block.names) (slot_within blocks name slot n w.1) h

file_by : (g l : Option ℕ) (u : Option Predeclared) (x : Referent) → or_else (option_map b.Global g) (or_else (option_map b.Loaded l) (option_map b.Predeclared u)) ≡ Some x → referent_slots x ≡ 0
file_by (Some k) l u x h = let e : b.Global k ≡ x = cc in sym (ap referent_slots e)
file_by None (Some k) u x h = let e : b.Loaded k ≡ x = cc in sym (ap referent_slots e)
file_by None None (Some p) x h = let e : b.Predeclared p ≡ x = cc in sym (ap referent_slots e)
file_by None None None x h = absurd (let no : ⊥ = cc in no)

file_slots : (file : FileParts) (name : Name) (x : Referent) → file_has file name ≡ Some x → referent_slots x ≡ 0
unfolding file_has
file_slots file name x h = file_by (place_among name file.globals) (place_among name file.loaded) (universe_has file.universe name) x h

use_by : (file : FileParts) (name : Name) (o : Option ℕ) (x : Referent) (n : ℕ) → ((slot : ℕ) → o ≡ Some slot → slot < n)
    → or_else (option_map b.Local o) (file_has file name) ≡ Some x → referent_slots x ≤ n
use_by file name None x n own h = let e : referent_slots x ≡ 0 = file_slots file name x h in omega arith
use_by file name (Some slot) x n own h =
    let e : b.Local slot ≡ x = cc in let k : slot + 1 ≡ referent_slots x = ap referent_slots e in let l : slot < n = own slot refl in omega arith

-- what a use stands for needs no slot that the blocks don't have
pub use_slots : (file : FileParts) (blocks : List BlockParts) (name : Name) (x : Referent) (n : ℕ) → Within blocks n → use_of file blocks name ≡ Some x
    → referent_slots x ≤ room blocks n
unfolding use_of slot_of
use_slots file [] name x n w h = let e : referent_slots x ≡ 0 = file_slots file name x h in omega arith
use_slots file (block ∷ blocks) name x n w h =
    use_by file name (slot_of (block ∷ blocks) name) x n (λ slot g. slot_within (block ∷ blocks) name slot n w g) h

place_slots : (o : Option Referent) (y : Referent) (m : ℕ) → ((x : Referent) → o ≡ Some x → referent_slots x ≤ m) → place_of o ≡ Some y → referent_slots y ≤ m
place_slots None y m known h = absurd (let no : ⊥ = cc in no)
place_slots (Some (b.Local slot)) y m known h = known y h
place_slots (Some (b.Global g)) y m known h = known y h
place_slots (Some (b.Loaded g)) y m known h = absurd (let no : ⊥ = cc in no)
place_slots (Some (b.Predeclared p)) y m known h = absurd (let no : ⊥ = cc in no)
place_slots (Some (b.Member p)) y m known h = absurd (let no : ⊥ = cc in no)
place_slots (Some (b.Unresolved l)) y m known h = absurd (let no : ⊥ = cc in no)

-- ---- uses and bindings

-- a name needs the slot that it refers to
abbrev pub name_slots : Identifier → ℕ
name_slots n = referent_slots n.referent

referred_needs : (blocks : List BlockParts) (m : ℕ) (why : Fault NameFault) (n : Identifier) (o : Option Referent) → ((k : ℕ) (x : Referent) → Within blocks k → o ≡ Some x → referent_slots x ≤ room blocks k)
    → Needs blocks m name_slots (given why o >>= λ x. pure (refer n x))
referred_needs blocks m why n o known = needs_map blocks m referent_slots name_slots (given why o) (λ x. refer n x) (needs_given blocks m referent_slots why o known) (λ x. omega arith)

pub use_needs : (file : FileParts) (blocks : List BlockParts) (n : Identifier) → Needs blocks 0 name_slots (use_at file blocks n)
unfolding use_at
use_needs file blocks n = referred_needs blocks 0 (fault_of f.UnknownName n) n (use_of file blocks n.name) (λ k x w h. use_slots file blocks n.name x k w h)

none_needed : Unit {0} → ℕ
none_needed u = 0

bound_by : (c : Bool) (why : Fault NameFault) (names : List Name) (s t : Passed) (u : Unit {0}) → (if c then Err why else ends tt (record s { bound = names })) ≡ ends u t → Made none_needed [] s t u
unfolding none_needed
bound_by true why names s t u e = absurd (let no : ⊥ = cc in no)
bound_by false why names s t u e = moved [] 0 none_needed tt u s (record s { bound = names }) t refl refl (omega arith) (omega arith) e

bind_needs : (kind : FileKind) (blocks : List BlockParts) (n : Identifier) → Needs blocks 0 none_needed (bind_in kind blocks n)
unfolding bind_global none_needed
bind_needs kind [] n s t u w h e = bound_by _ (fault_of f.Rebound n) (with_name s.bound n.name) s t u e
bind_needs kind (block ∷ blocks) n s t u w h e = needs_pure (block ∷ blocks) 0 none_needed tt (omega arith) s t u w h e

pub name_needs : (file : FileParts) (blocks : List BlockParts) (n : Identifier) → Needs blocks 0 name_slots (bound_at file blocks n)
unfolding bound_at
name_needs file blocks n =
    needs_bind blocks 0 none_needed name_slots (bind_in file.universe.kind blocks n)
    (λ _. given (fault_of f.UnknownName n) (place_of (use_of file blocks n.name)) >>= λ x. pure (refer n x)) (bind_needs file.universe.kind blocks n)
    (λ u. referred_needs blocks (max 0 (none_needed u)) (fault_of f.UnknownName n) n (place_of (use_of file blocks n.name))
    (λ k x w h. place_slots (use_of file blocks n.name) x (room blocks k) (λ y g. use_slots file blocks n.name y k w g) h))
