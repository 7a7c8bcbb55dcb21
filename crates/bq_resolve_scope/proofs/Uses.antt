-- What a use stands for, and which names share a slot.
use Rattle.std.proofs.Common.{◌≡◌, ◌<◌, ◌+◌, ℕ, false, List, [], ◌∷◌, length, Option, Some, None, refl, sym, ◌∙◌, subst, slice_get, arith}
use Rattle.std.specs.Option.{option_map}
use Rattle.bq_parse_grammar.specs.declared.tree.Referent.{Referent}
use Rattle.bq_parse_grammar.specs.declared.tree.Referent.TheVariants as b
use Rattle.bq_predeclared.specs.declared.predeclared.Predeclared.{Predeclared}
use Rattle.bq_resolve_scope.specs.Universe.{universe_has}
use Rattle.bq_resolve_scope.specs.Names.{Name, has, place_among}
use Rattle.bq_resolve_scope.specs.Scope.{BlockParts, FileParts, or_else, slot_in, slot_of, file_has, use_of}
use Rattle.bq_resolve_scope.specs.Laws.{StandsFor, held, outside, of_file, of_load, of_all, of_none, EachUseStandsForOne, HeldNamesAreLocal, NamesHaveSlots, BlocksHaveSlots}
use Rattle.bq_resolve_scope.proofs.Places.{absent, unplaced, placed, within, there}

-- ---- the slot of a name in a block

slot_at : (block : BlockParts) (name : Name) (i : ℕ) → place_among name block.names ≡ Some i → slot_in block name ≡ Some (block.base + i)
unfolding slot_in
slot_at block name i h = rw h refl

no_slot : (block : BlockParts) (name : Name) → place_among name block.names ≡ None → slot_in block name ≡ None
unfolding slot_in
no_slot block name h = rw h refl

slot_by : (block : BlockParts) (o : Option ℕ) (slot : ℕ) → option_map (λ i. block.base + i) o ≡ Some slot → (i : ℕ) × (o ≡ Some i) × (slot ≡ block.base + i)
slot_by block None slot h = absurd (let no : ⊥ = cc in no)
slot_by block (Some i) slot h = (i, refl, cc)

slot_is : (block : BlockParts) (name : Name) (slot : ℕ) → slot_in block name ≡ Some slot → (i : ℕ) × (place_among name block.names ≡ Some i) × (slot ≡ block.base + i)
unfolding slot_in
slot_is block name slot h = slot_by block (place_among name block.names) slot h

-- ---- what a use stands for

means : {file : FileParts} {name : Name} {blocks : List BlockParts} {x : Option Referent} → StandsFor file name blocks x → use_of file blocks name ≡ x
unfolding use_of slot_of file_has
means {file} {name} (held {block} {blocks} {i} h) = rw (slot_at block name i h) refl
means {file} {name} (outside {block} {blocks} {x} h d) = rw (no_slot block name (absent name block.names h)) (means d)
means (of_file h) = rw h refl
means {file} {name} (of_load g h) = rw (absent name file.globals g) (rw h refl)
means {file} {name} (of_all g l h) = rw (absent name file.globals g) (rw (absent name file.loaded l) (rw h refl))
means {file} {name} (of_none g l h) = rw (absent name file.globals g) (rw (absent name file.loaded l) (rw h refl))

of_universe : (file : FileParts) (name : Name) (o : Option Predeclared) → universe_has file.universe name ≡ o → has file.globals name ≡ false → has file.loaded name ≡ false
    → StandsFor file name [] (option_map b.Predeclared o)
of_universe file name None h g l = of_none g l h
of_universe file name (Some x) h g l = of_all g l h

of_loads : (file : FileParts) (name : Name) (o : Option ℕ) → place_among name file.loaded ≡ o → has file.globals name ≡ false
    → StandsFor file name [] (or_else (option_map b.Loaded o) (option_map b.Predeclared (universe_has file.universe name)))
of_loads file name None h g = of_universe file name (universe_has file.universe name) refl g (unplaced name file.loaded h)
of_loads file name (Some k) h g = of_load g h

of_globals : (file : FileParts) (name : Name) (o : Option ℕ) → place_among name file.globals ≡ o
    → StandsFor file name [] (or_else (option_map b.Global o) (or_else (option_map b.Loaded (place_among name file.loaded)) (option_map b.Predeclared (universe_has file.universe name))))
of_globals file name None h = of_loads file name (place_among name file.loaded) refl (unplaced name file.globals h)
of_globals file name (Some k) h = of_file h

in_block : (file : FileParts) (name : Name) (block : BlockParts) (blocks : List BlockParts) (o : Option ℕ) → place_among name block.names ≡ o
    → StandsFor file name blocks (use_of file blocks name)
    → StandsFor file name (block ∷ blocks) (or_else (option_map b.Local (or_else (option_map (λ i. block.base + i) o) (slot_of blocks name))) (file_has file name))
unfolding use_of
in_block file name block blocks None h d = outside (unplaced name block.names h) d
in_block file name block blocks (Some i) h d = held h

stands : (file : FileParts) (name : Name) (blocks : List BlockParts) → StandsFor file name blocks (use_of file blocks name)
unfolding use_of slot_of slot_in file_has
stands file name [] = of_globals file name (place_among name file.globals) refl
stands file name (block ∷ blocks) = in_block file name block blocks (place_among name block.names) refl (stands file name blocks)

pub stands_for_one : EachUseStandsForOne
stands_for_one file blocks name x = (λ d. means d, λ h. subst (λ o. StandsFor file name blocks o) h (stands file name blocks))

pub held_local : HeldNamesAreLocal
held_local file block blocks name h = let i = there name block.names h in (i.0, means (held i.1), placed name block.names i.0 i.1)

-- ---- which names share a slot

same_place : (a b c : ℕ) → a + b ≡ a + c → b ≡ c
same_place a b c h = omega (arith, h)

one_name : {A : Type 0} (xs : List A) (i j : ℕ) (x y : A) → i ≡ j → slice_get xs i ≡ Some x → slice_get xs j ≡ Some y → x ≡ y
one_name xs i j x y e g h = let k : slice_get xs i ≡ Some y = rw e h in let s : Some x ≡ Some y = sym g ∙ k in cc

pub names_apart : NamesHaveSlots
names_apart block name other slot g h =
    let m = slot_is block name slot g in let n = slot_is block other slot h in
    one_name block.names m.0 n.0 name other (same_place block.base m.0 n.0 (sym m.2 ∙ n.2)) (placed name block.names m.0 m.1) (placed other block.names n.0 n.1)

pub blocks_apart : BlocksHaveSlots
blocks_apart block later name other slot before g h =
    let m = slot_is block name slot g in let n = slot_is later other slot h in
    let inside : m.0 < length block.names = within name block.names m.0 m.1 in omega (arith, before, m.2, n.2, inside)
