-- Uses of what is bound.
use Rattle.std.proofs.Common.{◌≡◌, ◌<◌, ℕ, suc, ◌+◌, Bool, true, false, cond, List, [], ◌∷◌, length, Option, Some, refl, ap, ◌∙◌, ◌||◌, zero-add, bytes_eq}
use Rattle.std.specs.Option.{option_map}
use Rattle.bq_parse_grammar.specs.declared.tree.Referent.TheVariants as b
use Rattle.bq_resolve_scope.specs.Names.{Name, has, place_among, comprehension_names, function_names, global_names, loaded_names}
use Rattle.bq_resolve_scope.specs.Scope.{BlockParts, FileParts, slot_in, slot_of, file_has, use_of}
use Rattle.bq_resolve_scope.specs.Files.{file_names}
use Rattle.bq_resolve_laws.specs.Binds.{FunctionNamesAreLocal, ComprehensionNamesAreLocal, FileNamesAreGlobal}
use Rattle.bq_resolve_laws.proofs.Binds.{comprehension_binds, function_binds, file_binds}
use Rattle.bq_resolve_laws.proofs.Uses.{place_within}

there_by : (t : Bool) (rest : Bool) (o : Option ℕ) → (t || rest) ≡ true → (rest ≡ true → (i : ℕ) × (o ≡ Some i))
    → (i : ℕ) × (cond t (Some 0) (option_map suc o) ≡ Some i)
there_by true rest o h inner = (0, refl)
there_by false rest o h inner = let j = inner h in (suc j.0, rw j.1 refl)

-- what is there has a place
pub there : (name : Name) (names : List Name) → has names name ≡ true → (i : ℕ) × (place_among name names ≡ Some i)
unfolding place_among
there name [] h = absurd (let no : ⊥ = cc in no)
there name (x ∷ xs) h = there_by (bytes_eq name x) (has xs name) (place_among name xs) h (there name xs)

pub local_at : (file : FileParts) (block : BlockParts) (blocks : List BlockParts) (name : Name) → has block.names name ≡ true
    → (i : ℕ) × (i < length block.names) × (use_of file (block ∷ blocks) name ≡ Some (b.Local (block.base + i)))
unfolding use_of slot_of slot_in
local_at file block blocks name h = let t = there name block.names h in (t.0, place_within name block.names t.0 t.1, rw t.1 refl)

pub global_at : (file : FileParts) (name : Name) → has file.globals name ≡ true → (k : ℕ) × (k < length file.globals) × (use_of file [] name ≡ Some (b.Global k))
unfolding use_of slot_of file_has
global_at file name h = let t = there name file.globals h in (t.0, place_within name file.globals t.0 t.1, rw t.1 refl)

pub function_local : FunctionNamesAreLocal
function_local file ps body name bound =
    let block : BlockParts = record { base = 0; names = function_names ps body } in
    let l = local_at file block [] name ((function_binds ps body name).1 bound) in (l.0, l.1, l.2 ∙ ap (λ k. Some (b.Local k)) (zero-add l.0))

pub comprehension_local : ComprehensionNamesAreLocal
comprehension_local file base blocks cs name bound =
    let block : BlockParts = record { base = base; names = comprehension_names cs } in local_at file block blocks name ((comprehension_binds cs name).1 bound)

pub file_global : FileNamesAreGlobal
unfolding file_names
file_global universe ts name bound =
    let file : FileParts = record { universe = universe; globals = global_names ts; loaded = loaded_names ts } in global_at file name ((file_binds ts name).1 bound)
