-- What is found along each part of the targets is, part after part, what is found along all.
use Rattle.std.proofs.Common.{◌≡◌, ◌<◌, ◌≤◌, ◌+◌, ◌*◌, ◌/◌, ◌%◌, ◌∙◌, ℕ, zero, suc, min, List, [], ◌∷◌, ◌++◌, Result, Ok, Err, IfOk, IsOk, OnOk, All, length, take, drop, get_or, refl, sym, ap, arith, add-zero, zero-add, zero-mul, add-mul, one-mul, div-add-mod', inl, inr}
use Rattle.std.specs.Fork.{slice_chunk}
use Rattle.std.specs.List.{flat_map}
use Rattle.std.specs.declared.alloc.AllocError.{AllocError}
use Rattle.std.proofs.lemmas.Bool.{cases_lt}
use Rattle.std.proofs.lemmas.List.{drop_all, drop-drop}
use Rattle.std.proofs.lemmas.Nat.{mod_below}
use Rattle.bq_label.specs.Label.{LabelParts}
use Rattle.bq_base_texts.specs.FaultLine.{sorted_lines}
use Rattle.bq_package_target.specs.declared.target.Target.{Target}
use Rattle.bq_query_target_graph.specs.declared.edges.Found.{Found}
use Rattle.bq_query_target_graph.specs.declared.edges.Part.{Part}
use Rattle.bq_query_target_graph.specs.Edges.{rows_of}
use Rattle.bq_query_target_graph.specs.Dangling.{dangling_from}
use Rattle.bq_query_target_graph.specs.Parts.{part_rows, part_lines, IsFoundIn}
use Rattle.bq_query_target_graph.proofs.RowEdges.{rows_cut}
use Rattle.bq_query_target_graph.proofs.Danglings.{lines_cut}

-- the chunks are as many as cover the list
covered : (count len size : ℕ) → 0 < size → count ≡ len / size + min 1 (len % size) → len ≤ count * size
covered count len size p is =
    let q : ℕ = len / size in
    let r : ℕ = len % size in
    let a : q * size + r ≡ len = div-add-mod' len size in
    let b : r < size = mod_below len size p in
    elim (cases_lt 0 r) [
      | inl h ↦
          let e : count ≡ q + 1 = omega arith in
          let w : count * size ≡ q * size + size = ap (λ (n : ℕ). n * size) e ∙ (add-mul q 1 size ∙ ap (λ (n : ℕ). q * size + n) (one-mul size)) in
          omega arith
      | inr h ↦
          let e : count ≡ q = omega arith in
          let w : count * size ≡ q * size = ap (λ (n : ℕ). n * size) e in
          omega arith
    ]

-- ---- any list that is cut anywhere is that of the front, and that of the back from its place on

module _ {X Y R : Type 0} (f : R → List Y) (g : ℕ → List X → List Y) (cut : (a k : ℕ) (xs : List X) → g a xs ≡ g a (take k xs) ++ g (a + k) (drop k xs)) (none : (a : ℕ) → g a [] ≡ []) (size : ℕ) (xs : List X) where
  abbrev chunk : ℕ → List Y
  chunk n = g (n * size) (slice_chunk xs size n)

  -- what is left from chunk k on
  chunks_from : (rs : List R) (k : ℕ) → ((n : ℕ) (d : R) → n < length rs → f (get_or rs n d) ≡ chunk (k + n)) → length xs ≤ (k + length rs) * size → flat_map f rs ≡ g (k * size) (drop (k * size) xs)
  chunks_from [] k each long =
      let same : (k + zero) * size ≡ k * size = ap (λ (n : ℕ). n * size) (add-zero k) in
      sym (ap (g (k * size)) (drop_all (k * size) xs (omega arith)) ∙ none (k * size))
  chunks_from (r ∷ rs) k each long =
      let here : List X = drop (k * size) xs in
      let up : (k + 1) * size ≡ k * size + size = add-mul k 1 size ∙ ap (λ (n : ℕ). k * size + n) (one-mul size) in
      let first : f r ≡ g (k * size) (take size here) = each zero r (omega arith) ∙ ap chunk (add-zero k) in
      let moved : (n : ℕ) → k + suc n ≡ k + 1 + n = λ n. omega arith in
      let count : (k + suc (length rs)) * size ≡ (k + 1 + length rs) * size = ap (λ (n : ℕ). n * size) (moved (length rs)) in
      let rest : flat_map f rs ≡ g ((k + 1) * size) (drop ((k + 1) * size) xs) = chunks_from rs (k + 1) (λ n d h. each (suc n) d (omega arith) ∙ ap chunk (moved n)) (omega arith) in
      let back : drop ((k + 1) * size) xs ≡ drop size here = ap (λ (n : ℕ). drop n xs) up ∙ sym (drop-drop size (k * size) xs) in
      ap (λ (z : List Y). z ++ flat_map f rs) first
      ∙ (ap (λ (z : List Y). g (k * size) (take size here) ++ z) (rest ∙ (ap (λ (n : ℕ). g n (drop ((k + 1) * size) xs)) up ∙ ap (g (k * size + size)) back))
      ∙ sym (cut (k * size) size here))

  pub chunks : (rs : List R) → 0 < size → length rs ≡ length xs / size + min 1 (length xs % size) → ((n : ℕ) (d : R) → n < length rs → f (get_or rs n d) ≡ chunk n) → flat_map f rs ≡ g 0 xs
  chunks rs p e each =
      let whole : length xs ≤ length rs * size = covered (length rs) (length xs) size p e in
      let count : (zero + length rs) * size ≡ length rs * size = ap (λ (n : ℕ). n * size) (zero-add (length rs)) in
      chunks_from rs zero (λ n d h. each n d h ∙ ap chunk (sym (zero-add n))) (omega arith) ∙ ap (λ (n : ℕ). g n (drop n xs)) (zero-mul size)

-- ---- rows and lines

-- what was found along the chunks of the targets
module _ (ls files : List LabelParts) (size : ℕ) (ts : List Target) (rs : List (Result Part AllocError)) (p : 0 < size) (e : length rs ≡ length ts / size + min 1 (length ts % size))
    (each : (n : ℕ) (d : Result Part AllocError) → n < length rs → IfOk (get_or rs n d) (IsFoundIn ls files (slice_chunk ts size n))) where
  found_rows : (r : Result Part AllocError) (us : List Target) → IsOk r → IfOk r (IsFoundIn ls files us) → part_rows r ≡ rows_of ls us
  found_rows (Ok q) us o h = h.rows
  found_rows (Err x) us o h = absurd cc

  found_lines : (r : Result Part AllocError) (us : List Target) → IsOk r → IfOk r (IsFoundIn ls files us) → part_lines r ≡ dangling_from ls files us
  found_lines (Ok q) us o h = h.lines
  found_lines (Err x) us o h = absurd cc

  all_rows : All IsOk rs → flat_map part_rows rs ≡ rows_of ls ts
  all_rows given =
      chunks part_rows (λ _ us. rows_of ls us) (λ _ k us. rows_cut ls k us) (λ _. refl) size ts rs p e
      (λ n d h. found_rows (get_or rs n d) (slice_chunk ts size n) (given n d h) (each n d h))

  all_lines : All IsOk rs → flat_map part_lines rs ≡ dangling_from ls files ts
  all_lines given =
      chunks part_lines (λ _ us. dangling_from ls files us) (λ _ k us. lines_cut ls files k us) (λ _. refl) size ts rs p e
      (λ n d h. found_lines (get_or rs n d) (slice_chunk ts size n) (given n d h) (each n d h))

  pub joined_rows : (r : Result Found AllocError) → OnOk r (All IsOk rs) → IfOk r (λ f. f.rows ≡ flat_map part_rows rs) → IfOk r (λ f. f.rows ≡ rows_of ls ts)
  joined_rows (Ok f) given h = h ∙ all_rows given
  joined_rows (Err x) given h = tt

  pub joined_lines : (r : Result Found AllocError) → OnOk r (All IsOk rs) → IfOk r (λ f. f.dangling ≡ sorted_lines (flat_map part_lines rs)) → IfOk r (λ f. f.dangling ≡ sorted_lines (dangling_from ls files ts))
  joined_lines (Ok f) given h = h ∙ ap sorted_lines (all_lines given)
  joined_lines (Err x) given h = tt
