-- Runs of bytes that pass q, a block of bytes at a time: of a block, a mask has a bit for each byte that fails q.
use Rattle.std.proofs.Common.{◌≡◌, ℕ, ◌+◌, ◌*◌, ◌%◌, ◌^◌, ◌<◌, ◌≤◌, Bool, true, false, not, cond, eqb, List, [], ◌∷◌, map, length, drop, w8, Fits, refl, sym, ap, ap₂, ◌∙◌, arith}
use Rattle.std.specs.List.{prefix_len}
use Rattle.std.proofs.lemmas.Bool.{agree_below, agree_below_at, eq-eqb, ne_eqb}
use Rattle.std.proofs.lemmas.List.{length-map, length-drop}
use Rattle.std.proofs.lemmas.List.Folds.{prefix_len-append}
use Rattle.std.proofs.lemmas.List.Sums.{prefix_len-le-length}
use Rattle.std.proofs.lemmas.Simd.{chunk-drop, length-chunk, leading_from_mask_l, trailing_mask_l, mask_l-mod}
use lib.Count.{count_trailing_zeros}
use lib.Lanes.{chunk, mask_l, top, Each1}

-- ---- masks

each_byte : (f : ℕ → ℕ) (p : ℕ → Bool) (bytes : List ℕ) → agree_below (λ x. top 7 (f x)) p 256 ≡ true → Each1 (Fits w8) bytes → map (top 7) (map f bytes) ≡ map p bytes
each_byte f p [] all fits = refl
each_byte f p (x ∷ xs) all fits = ap₂ (λ b bs. b ∷ bs) (agree_below_at (λ y. top 7 (f y)) p 256 x all fits.0.fits) (each_byte f p xs all fits.1)

-- lanes that are computed from a block, each from its byte: their mask is that of p, if it is so of each of the 256 bytes
pub mask_of : (f : ℕ → ℕ) (p : ℕ → Bool) (block lanes : List ℕ) → length block ≤ 64 → Each1 (Fits w8) block → lanes ≡ map f block
    → agree_below (λ x. top 7 (f x)) p 256 ≡ true → mask_l (map (top 7) lanes) % 2 ^ 64 ≡ mask_l (map p block)
mask_of f p block lanes short fits same all =
    ap (λ bs. mask_l bs % 2 ^ 64) (ap (map (top 7)) same ∙ each_byte f p block all fits) ∙ mask_l-mod (map p block) 64 (omega (arith, length-map block p))

-- ---- runs

pub run_within : (q : ℕ → Bool) (bytes : List ℕ) (n : ℕ) → n ≤ length bytes → n + prefix_len q (drop n bytes) ≤ length bytes
run_within q bytes n h = omega (arith, prefix_len-le-length q (drop n bytes), length-drop n bytes)

none_fails : (b : Bool) (n l m : ℕ) → n ≤ l → cond b (1 + n) 0 ≡ 1 + l → (n ≡ l → m ≡ 0) → cond (not b) 1 0 + 2 * m ≡ 0
none_fails false n l m le e ih = let no : ⊥ = omega arith in absurd no
none_fails true n l m le e ih = let z = ih (omega arith) in omega arith

twice : (b : Bool) → b ≡ not (not b)
twice true = refl
twice false = refl

module _ (q : ℕ → Bool) where
  abbrev pub fails : ℕ → Bool
  fails x = not (q x)

  same_run : (xs : List ℕ) → prefix_len q xs ≡ prefix_len (λ x. not (fails x)) xs
  same_run [] = refl
  same_run (x ∷ xs) = ap₂ (λ b n. cond b (1 + n) 0) (twice (q x)) (same_run xs)

  all_pass : (xs : List ℕ) → prefix_len q xs ≡ length xs → mask_l (map fails xs) ≡ 0
  all_pass [] e = refl
  all_pass (x ∷ xs) e = none_fails (q x) (prefix_len q xs) (length xs) (mask_l (map fails xs)) (prefix_len-le-length q xs) (omega (arith, e)) (all_pass xs)

  split : (bytes : List ℕ) (i n : ℕ) → prefix_len q (drop i bytes)
      ≡ cond (eqb (prefix_len q (chunk i n bytes)) (length (chunk i n bytes))) (length (chunk i n bytes) + prefix_len q (drop (i + n) bytes)) (prefix_len q (chunk i n bytes))
  split bytes i n = ap (prefix_len q) (chunk-drop i n bytes) ∙ prefix_len-append q (chunk i n bytes) (drop (i + n) bytes)

  -- no byte of the block fails, so the run goes on after it
  pub goes_on : (bytes : List ℕ) (i n : ℕ) → i + n ≤ length bytes → mask_l (map fails (chunk i n bytes)) ≡ 0 → prefix_len q (drop i bytes) ≡ n + prefix_len q (drop (i + n) bytes)
  goes_on bytes i n room none =
      let block = chunk i n bytes in
      split bytes i n ∙ ap (λ b. cond b (length block + prefix_len q (drop (i + n) bytes)) (prefix_len q block)) (eq-eqb _ _ (same_run block ∙ leading_from_mask_l fails block none))
      ∙ ap (λ k. k + prefix_len q (drop (i + n) bytes)) (length-chunk i n bytes room)

  -- the run ends before the first byte of the block that fails
  pub ends : (bytes : List ℕ) (i n : ℕ) → i + n ≤ length bytes → n ≤ 64 → 0 < mask_l (map fails (chunk i n bytes))
      → prefix_len q (drop i bytes) ≡ count_trailing_zeros 64 (mask_l (map fails (chunk i n bytes)))
  ends bytes i n room short some =
      let block = chunk i n bytes in
      split bytes i n
      ∙ ap (λ b. cond b (length block + prefix_len q (drop (i + n) bytes)) (prefix_len q block)) (ne_eqb _ _ (λ (e : prefix_len q block ≡ length block). omega (arith, all_pass block e)))
      ∙ same_run block ∙ sym (trailing_mask_l fails 64 block (omega (arith, length-chunk i n bytes room)) some)
