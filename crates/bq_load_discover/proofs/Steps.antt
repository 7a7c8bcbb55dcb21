-- Steps of the walks along packages and modules.
use Rattle.std.proofs.Common.{◌≡◌, ◌∙◌, ◌<◌, ◌≤◌, ◌+◌, ℕ, List, [], ◌∷◌, ◌++◌, Option, None, Some, length, map, take, get_or, slice_get, refl, sym, ap, arith, Vec, zero, suc}
use Rattle.std.specs.Prelude.{option_to_list}
use Rattle.std.specs.List.{cons_option}
use Rattle.std.specs.Global.{Global}
use Rattle.std.proofs.lemmas.List.{map-append}
use Rattle.std.proofs.lemmas.List.Elements.{filter_map-append}
use Rattle.bq_label.specs.declared.packages.BuildFile.{BuildFile}
use Rattle.bq_label.specs.Label.{LabelParts}
use Rattle.bq_label.specs.Packages.{build_label}
use Rattle.bq_label_set.specs.Labels.{with_label, with_labels}
use Rattle.bq_label_set.proofs.Added.{with_labels-append}
use Rattle.bq_board_plan.specs.Graph.{lists}
use Rattle.bq_load_front.specs.Front.{loads_by}
use Rattle.bq_load_discover.specs.declared.modules.Module.{Module}
use Rattle.bq_load_discover.specs.Module.{labels_of}
use Rattle.bq_load_discover.specs.Modules.{build_labels}
use Rattle.bq_load_discover.specs.Edges.{row_of, rows_of}
use Rattle.bq_load_discover.proofs.Lists.{next_taken}

one : {X : Type 0} (o : Option X) → cons_option o [] ≡ option_to_list o
one None = refl
one (Some x) = refl

pub builds_next : (ps : List BuildFile) (i : ℕ) (b : BuildFile) (found now : List LabelParts) → i < length ps → b ≡ get_or ps i b → found ≡ with_labels [] (build_labels (take i ps)) → now ≡ with_labels found (option_to_list (build_label b))
    → now ≡ with_labels [] (build_labels (take (i + 1) ps))
builds_next ps i b found now h e f n =
    let last : build_labels (take (i + 1) ps) ≡ build_labels (take i ps) ++ option_to_list (build_label b) =
    ap build_labels (next_taken ps i b h e) ∙ (filter_map-append build_label (take i ps) (b ∷ []) ∙ ap (λ (z : List LabelParts). build_labels (take i ps) ++ z) (one (build_label b))) in
    n ∙ (ap (λ (z : List LabelParts). with_labels z (option_to_list (build_label b))) f ∙ (sym (with_labels-append [] (build_labels (take i ps)) (option_to_list (build_label b))) ∙ ap (with_labels []) (sym last)))

-- nothing is at the place after the last
pub none_further : {X : Type 0} (xs : List X) (n : ℕ) → slice_get xs n ≡ None → length xs ≤ n
none_further [] n e = omega arith
none_further (x ∷ xs) zero e = absurd (cc)
none_further (x ∷ xs) (suc n) e = let h : length xs ≤ n = none_further xs n e in omega (arith, h)

pub rows_next : (ls : List LabelParts) (ms : List Module) (i : ℕ) (m : Module) (rows now : List (Vec ℕ Global)) (row : Vec ℕ Global) → i < length ms → m ≡ get_or ms i m → lists rows ≡ rows_of ls (take i ms)
    → row.items ≡ row_of ls (loads_by m.front) → now ≡ rows ++ row ∷ [] → lists now ≡ rows_of ls (take (i + 1) ms)
rows_next ls ms i m rows now row h e f r n =
    let to : Module → List ℕ = λ m. row_of ls (loads_by m.front) in
    ap lists n
    ∙ (map-append (λ (r : Vec ℕ Global). r.items) rows (row ∷ [])
    ∙ (ap (λ (z : List (List ℕ)). z ++ row.items ∷ []) f
    ∙ (ap (λ (z : List ℕ). rows_of ls (take i ms) ++ z ∷ []) r
    ∙ (sym (map-append to (take i ms) (m ∷ [])) ∙ ap (λ (z : List Module). map to z) (sym (next_taken ms i m h e))))))

pub labels_next : (ms : List Module) (i : ℕ) (m : Module) (ls now : List LabelParts) → i < length ms → m ≡ get_or ms i m → ls ≡ with_labels [] (labels_of (take i ms)) → now ≡ with_label ls m.label → now ≡ with_labels [] (labels_of (take (i + 1) ms))
unfolding with_labels
labels_next ms i m ls now h e f n =
    let last : labels_of (take (i + 1) ms) ≡ labels_of (take i ms) ++ m.label ∷ [] = ap labels_of (next_taken ms i m h e) ∙ map-append (λ (m : Module). m.label) (take i ms) (m ∷ []) in
    n ∙ (ap (λ (z : List LabelParts). with_label z m.label) f ∙ (sym (with_labels-append [] (labels_of (take i ms)) (m.label ∷ [])) ∙ ap (with_labels []) (sym last)))
