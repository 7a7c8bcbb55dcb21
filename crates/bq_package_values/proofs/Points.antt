-- The code points of bytes: they stand for just these bytes, and each has bytes.
use Rattle.std.proofs.Common.{◌≡◌, ◌⊎◌, ℕ, zero, suc, ◌+◌, ◌-◌, ◌<◌, ◌≤◌, true, false, List, [], ◌∷◌, ◌++◌, drop, Option, Some, None, refl, sym, ap, ◌∙◌, ⊎_elim, arith}
use Rattle.std.specs.Char.{encode_utf8, IsScalar}
use Rattle.std.specs.List.{list_all}
use Rattle.std.proofs.lemmas.Bool.{and_from, and_left, and_parts, cases_lt, cond-true, cond-false, or_cases, or_left, or_right}
use Rattle.std.proofs.lemmas.Bool.Decides.{nat_tests}
use lib.Utf8.{scalar, scalar_cases}
use Rattle.bstr.specs.Utf8.{Decoded, decoded}
use Rattle.bstr.proofs.lemmas.PieceLemmas.{piece-bounds}
use Rattle.bstr.proofs.lemmas.SoundLemmas.{SpellsChar-decoded}
use Rattle.bq_package_values.specs.CodePoints.{AreBytes, point_by, further_by, points_after, code_points, is_escaped_byte, point_bytes, bytes_of}
use Rattle.bq_package_values.specs.JsonReading.{is_high, is_low, joined, has_bytes}
use Rattle.bq_package_values.proofs.Fronts.{decoded_ascii}

bytes_head : (b : ℕ) (bs : List ℕ) → AreBytes (b ∷ bs) → b < 256
bytes_head b bs all = all 0 0 (omega arith)

bytes_tail : (b : ℕ) (bs : List ℕ) → AreBytes (b ∷ bs) → AreBytes bs
bytes_tail b bs all = λ k d within. all (suc k) d (omega arith)

-- no character begins with a byte of ASCII only where it is one
lone_high : (b : ℕ) (bs : List ℕ) → (decoded (b ∷ bs)).char ≡ None → 128 ≤ b
lone_high b bs none =
    ⊎_elim
    (λ (low : b < 128). let some : None ≡ Some b = sym none ∙ ap (λ (d : Decoded). d.char) (decoded_ascii b bs low) in cc)
    (λ high. high)
    (cases_lt b 128)

scalar_no_escape : (c : ℕ) → IsScalar c → is_escaped_byte c ≡ false
scalar_no_escape c valid = ⊎_elim (λ low. grind (arith, nat_tests)) (λ top. grind (arith, nat_tests)) (scalar_cases c valid)

lone_is_escape : (b : ℕ) → 128 ≤ b → b < 256 → is_escaped_byte (0xDC00 + b) ≡ true
lone_is_escape b high low = grind (arith, nat_tests)

point_bytes_char : (c : ℕ) → IsScalar c → point_bytes c ≡ encode_utf8 c
unfolding point_bytes
point_bytes_char c valid = cond-false _ _ _ (scalar_no_escape c valid)

point_bytes_lone : (b : ℕ) → 128 ≤ b → b < 256 → point_bytes (0xDC00 + b) ≡ b ∷ []
unfolding point_bytes
point_bytes_lone b high low =
    let back : (0xDC00 + b) - 0xDC00 ≡ b = omega arith in
    cond-true _ _ _ (lone_is_escape b high low) ∙ ap (λ x. x ∷ []) back

-- ---- the bytes

bytes_by : (b : ℕ) (bs : List ℕ) (o : Option ℕ) → (decoded (b ∷ bs)).char ≡ o → b < 256 → ((k : ℕ) → bytes_of (points_after k bs) ≡ drop k bs)
    → bytes_of (point_by o b ∷ points_after (further_by o (decoded (b ∷ bs)).size) bs) ≡ b ∷ bs
bytes_by b bs None char low rest =
    ap (λ t. t ++ bytes_of (points_after 0 bs)) (point_bytes_lone b (lone_high b bs char) low) ∙ ap (λ t. b ∷ t) (rest 0)
bytes_by b bs (Some c) char low rest =
    let n = (decoded (b ∷ bs)).size in
    let spells = SpellsChar-decoded (b ∷ bs) c char in
    let pos : 0 < n = omega (arith, (piece-bounds (b ∷ bs) (omega arith)).0) in
    let step : suc (n - 1) ≡ n = omega arith in
    ap (λ t. t ++ bytes_of (points_after (n - 1) bs)) (point_bytes_char c spells.scalar)
    ∙ ap (λ t. encode_utf8 c ++ t) (rest (n - 1))
    ∙ ap (λ m. encode_utf8 c ++ drop m (b ∷ bs)) step
    ∙ sym spells.bytes

bytes_after : (k : ℕ) (bs : List ℕ) → AreBytes bs → bytes_of (points_after k bs) ≡ drop k bs
unfolding points_after
bytes_after zero [] all = refl
bytes_after (suc k) [] all = refl
bytes_after (suc k) (b ∷ bs) all = bytes_after k bs (bytes_tail b bs all)
bytes_after zero (b ∷ bs) all = bytes_by b bs (decoded (b ∷ bs)).char refl (bytes_head b bs all) (λ k. bytes_after k bs (bytes_tail b bs all))

-- the code points of bytes stand for them
pub bytes_of-code_points : (bs : List ℕ) → AreBytes bs → bytes_of (code_points bs) ≡ bs
bytes_of-code_points bs all = bytes_after 0 bs all

-- ---- each has bytes

has_bytes_by : (b : ℕ) (bs : List ℕ) (o : Option ℕ) → (decoded (b ∷ bs)).char ≡ o → b < 256 → has_bytes (point_by o b) ≡ true
has_bytes_by b bs None char low = or_right _ _ (lone_is_escape b (lone_high b bs char) low)
has_bytes_by b bs (Some c) char low = or_left _ _ (SpellsChar-decoded (b ∷ bs) c char).scalar

have_bytes_after : (k : ℕ) (bs : List ℕ) → AreBytes bs → list_all has_bytes (points_after k bs) ≡ true
unfolding points_after
have_bytes_after zero [] all = refl
have_bytes_after (suc k) [] all = refl
have_bytes_after (suc k) (b ∷ bs) all = have_bytes_after k bs (bytes_tail b bs all)
have_bytes_after zero (b ∷ bs) all =
    and_from _ _ (has_bytes_by b bs (decoded (b ∷ bs)).char refl (bytes_head b bs all))
    (have_bytes_after (further_by (decoded (b ∷ bs)).char (decoded (b ∷ bs)).size) bs (bytes_tail b bs all))

pub code_points_have_bytes : (bs : List ℕ) → AreBytes bs → list_all has_bytes (code_points bs) ≡ true
code_points_have_bytes bs all = have_bytes_after 0 bs all

-- ---- no pair of surrogates among them

not_high : (c : ℕ) → has_bytes c ≡ true → is_high c ≡ false
not_high c has =
    ⊎_elim
    (λ valid. ⊎_elim (λ low. grind (arith, nat_tests)) (λ top. grind (arith, nat_tests)) (scalar_cases c valid))
    (λ byte. grind (arith, nat_tests))
    (or_cases (scalar c) (is_escaped_byte c) has)

pub joined_same : (cs : List ℕ) → list_all has_bytes cs ≡ true → joined cs ≡ cs
unfolding joined
joined_same [] all = refl
joined_same (u ∷ []) all = refl
joined_same (u ∷ v ∷ us) all =
    let both = and_parts (has_bytes u) _ all in
    cond-false _ _ _ (and_left (is_high u) (is_low v) (not_high u both.0)) ∙ ap (λ t. u ∷ t) (joined_same (v ∷ us) both.1)
