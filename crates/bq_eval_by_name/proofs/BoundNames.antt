-- Names that are bound: what an environment and a frame say stays the same.
use Rattle.std.proofs.Common.{◌≡◌, ℕ, true, List, [], ◌∷◌, Option, Some, None, refl, ap, ◌∙◌}
use Rattle.std.specs.Option.{option_map}
use Rattle.bq_parse_grammar.specs.declared.tree.Referent.{Referent}
use Rattle.bq_parse_grammar.specs.declared.tree.Referent.TheVariants as b
use Rattle.bq_predeclared.specs.declared.predeclared.Predeclared.{Predeclared}
use Rattle.bq_resolve_scope.specs.Expressions.{place_of}
use Rattle.bq_resolve_scope.specs.Names.{Name, has, place_among}
use Rattle.bq_resolve_scope.specs.Scope.{BlockParts, FileParts, or_else, file_has, use_of}
use Rattle.bq_resolve_scope.specs.Scope as scope
use Rattle.bq_resolve_scope.specs.Universe.{universe_has}
use Rattle.bq_value.specs.Datum.{Datum}
use Rattle.bq_eval_spec.specs.Frame.{Frame, fill}
use Rattle.bq_eval_spec.specs.Slots.{slot_of}
use Rattle.bq_eval_spec.specs.Names.{Env, bind}
use Rattle.bq_eval_by_name.specs.Shows.{Nested, through, Shows}
use Rattle.bq_eval_by_name.proofs.Slots.{one_place}
use Rattle.bq_eval_by_name.proofs.Envs.{reads_bind, shows_bind}
use Rattle.bq_eval_by_name.proofs.ResolvedClauses.{slot_held, use_is}
use Rattle.bq_eval_by_name.specs.StatementAgreement.{GlobalsShow}

-- Environments and frames of which `R` holds say the same of the name, and `R` still holds where the name is bound.
abbrev pub Keeps : (Env → Frame → Type 0) → Name → ℕ → Type 0
Keeps R name slot = (env : Env) (frame : Frame) → R env frame → (env name ≡ Some (frame slot)) × ((v : Datum) → R (bind env name v) (fill frame slot v))

-- the same of what the name refers to among these blocks
abbrev pub IsKept : FileParts → List BlockParts → (Env → Frame → Type 0) → Name → Type 0
IsKept file blocks R name = (x : Referent) → place_of (use_of file blocks name) ≡ Some x → Keeps R name (slot_of x)

-- ---- names of the innermost block

pub block_keeps : (file : FileParts) (block : BlockParts) (rest : List BlockParts) → Nested (block ∷ rest) → (name : Name) → has block.names name ≡ true
    → IsKept file (block ∷ rest) (Shows (block ∷ rest)) name
block_keeps file block rest nested name h x e =
    let at : (slot : ℕ) × (scope.slot_of (block ∷ rest) name ≡ Some slot) = slot_held block rest name h in
    let place : place_of (use_of file (block ∷ rest) name) ≡ Some (b.Local at.0) = ap place_of (use_is file (block ∷ rest) name at.0 at.1) in
    let one : x ≡ b.Local at.0 = cc in
    rw one (λ env frame shows. (shows.reads name ∙ ap (through frame) at.1, λ v. shows_bind (block ∷ rest) nested env frame name at.0 v at.1 shows))

-- ---- names of the file, outside functions

global_by : (g l : Option ℕ) (u : Option Predeclared) (x : Referent) → place_of (or_else (option_map b.Global g) (or_else (option_map b.Loaded l) (option_map b.Predeclared u))) ≡ Some x
    → (k : ℕ) × (g ≡ Some k) × (x ≡ b.Global k)
global_by (Some k) l u x e = (k, refl, cc)
global_by None (Some k) u x e = absurd (let no : ⊥ = cc in no)
global_by None None (Some p) x e = absurd (let no : ⊥ = cc in no)
global_by None None None x e = absurd (let no : ⊥ = cc in no)

pub global_is : (file : FileParts) (name : Name) (x : Referent) → place_of (use_of file [] name) ≡ Some x → (k : ℕ) × (place_among name file.globals ≡ Some k) × (x ≡ b.Global k)
unfolding use_of scope.slot_of file_has
global_is file name x e = global_by (place_among name file.globals) (place_among name file.loaded) (universe_has file.universe name) x e

pub global_keeps : (file : FileParts) (name : Name) → IsKept file [] (GlobalsShow file) name
global_keeps file name x e =
    let at = global_is file name x e in
    rw at.2 (λ env frame shows. (shows name ∙ ap (through frame) at.1, λ v. reads_bind (λ n. place_among n file.globals) env frame name at.0 v (one_place file.globals) at.1 shows))
