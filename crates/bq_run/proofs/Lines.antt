-- The first line of a text, and the parts that the headers cut.
use Rattle.std.proofs.Common.{◌≡◌, ◌≤◌, ◌<◌, ◌-◌, ◌++◌, ◌==◌, ℕ, zero, suc, true, false, None, option_and_then, List, [], ◌∷◌, length, take, drop, map, slice_index, refl, sym, ap, subst, ◌∙◌, arith, append_assoc, take_all, nat_le, le_refl, length-take-le, length-append, inl, inr, length-drop}
use Rattle.std.proofs.lemmas.Bool.{false_from_ne_true, cases_Bool}
use Rattle.std.proofs.lemmas.Bool.Decides.{nat_tests}
use Rattle.std.proofs.lemmas.List.{drop_all}
use Rattle.std.specs.List.{list_all}
use Rattle.bq_label.specs.declared.workspace.File.{File}
use Rattle.bq_label.specs.Workspace.{workspace_within}
use Rattle.bq_base.specs.declared.limits.Limits.{Limits}
use Rattle.bq_run.specs.Bundle.{lines, Cut, cut, is_header, is_whole, file_of, is_bundle, files_of, BeginsWith}

-- a line ends at the first newline
pub line_at : (text : List ℕ) (k : ℕ) → k < length text → (slice_index text k == 10) ≡ true → ((j : ℕ) → j < k → ¬ ((slice_index text j == 10) ≡ true)) → lines text ≡ take (suc k) text ∷ lines (drop (suc k) text)
line_at [] k h p n = absurd (omega arith)
line_at (b ∷ bs) zero h p n = rw p refl
line_at (b ∷ bs) (suc k) h p n =
    let other : (b == 10) ≡ false = false_from_ne_true _ (n 0 (omega arith)) in
    rw (other, line_at bs k (omega arith) p (λ j less. n (suc j) (omega arith))) refl

-- a text without a newline is one line
pub line_all : (text : List ℕ) → 0 < length text → ((j : ℕ) → j < length text → ¬ ((slice_index text j == 10) ≡ true)) → lines text ≡ text ∷ []
line_all [] h n = absurd (omega arith)
line_all (b ∷ []) h n =
    let other : (b == 10) ≡ false = false_from_ne_true _ (n 0 (omega arith)) in
    rw other refl
line_all (b ∷ c ∷ bs) h n =
    let other : (b == 10) ≡ false = false_from_ne_true _ (n 0 (omega arith)) in
    rw (other, line_all (c ∷ bs) (omega arith) (λ j less. n (suc j) (omega arith))) refl

rest_of : (text : List ℕ) (i : ℕ) → take (length text - i) (drop i text) ≡ drop i text
rest_of text i = take_all _ _ (omega (arith, length-drop i text))

-- a line that is no header goes to the bytes before it
pub cut_past : (line : List ℕ) (ls : List (List ℕ)) → is_header line ≡ false → cut (line ∷ ls) ≡ record { before = line ++ (cut ls).before; parts = (cut ls).parts }
cut_past line ls h = rw h refl

-- a header begins a part
pub cut_here : (line : List ℕ) (ls : List (List ℕ)) → is_header line ≡ true → cut (line ∷ ls) ≡ record { before = []; parts = record { header = line; content = (cut ls).before } ∷ (cut ls).parts }
cut_here line ls h = rw h refl

pub all_of_it : (text : List ℕ) → lines text ≡ text ∷ [] → lines text ≡ take (length text) text ∷ lines (drop (length text) text)
all_of_it text h = h ∙ rw (take_all (length text) text (le_refl (length text)), drop_all (length text) text (le_refl (length text))) refl

-- the files so far, and what they leave of the text, which begins with a header
pub record Parts (text : List ℕ) (done : List File) (rest : List ℕ) : Type 0 where
  pub lead : (cut (lines text)).before ≡ []
  pub files : done ++ map file_of (cut (lines rest)).parts ≡ map file_of (cut (lines text)).parts
  pub whole : list_all is_whole (cut (lines text)).parts ≡ list_all is_whole (cut (lines rest)).parts
  pub front : (cut (lines rest)).before ≡ []

is_header_of : (line : List ℕ) (ls : List (List ℕ)) → 0 < length line → (cut (line ∷ ls)).before ≡ [] → is_header line ≡ true
is_header_of line ls h e = elim (cases_Bool (is_header line)) [
  | inl h1 ↦ h1
  | inr h0 ↦ let e' : line ++ (cut ls).before ≡ [] = sym (ap (λ (c : Cut). c.before) (cut_past line ls h0)) ∙ e in
      absurd (omega (arith, h, length-append line (cut ls).before, ap length e'))
]

-- the first part of a text
pub begins : (text body : List ℕ) (n size : ℕ) → (cut (lines text)).before ≡ [] → n ≤ length text → lines text ≡ take n text ∷ lines (drop n text) → 5 ≤ n → slice_index (take n text) (n - 1) ≡ 10 → body ≡ drop n text → size ≤ length body → (cut (lines body)).before ≡ take size body → (cut (lines body)).parts ≡ (cut (lines (drop size body))).parts → (cut (lines (drop size body))).before ≡ [] → BeginsWith text (take (n - 1 - 4) (drop 4 (take n text))) (take size body) (drop size body)
begins text body n size lead within first five last is fits bytes parts stops =
    let line : List ℕ = take n text in
    let len : length line ≡ n = length-take-le n text within in
    let first' : lines text ≡ line ∷ lines body = rw is first in
    let header : is_header line ≡ true = is_header_of line (lines body) (omega arith) (sym (ap (λ l. (cut l).before) first') ∙ lead) in
    let here : cut (lines text) ≡ record { before = []; parts = record { header = line; content = (cut (lines body)).before } ∷ (cut (lines body)).parts } = ap cut first' ∙ cut_here line (lines body) header in
    let last' : slice_index line (length line - 1) ≡ 10 = rw len last in
    let count : length line - 5 ≡ n - 1 - 4 = omega arith in
    record {
      head = record { header = line; content = take size body };
      parts = ap (λ (c : Cut). c.parts) here ∙ (ap (λ t. record { header = line; content = t } ∷ (cut (lines body)).parts) bytes ∙ ap (λ t. record { header = line; content = take size body } ∷ t) parts);
      whole = rw last' (grind (arith, nat_tests));
      file = ap (λ k. record { path = take k (drop 4 line); content = take size body }) count;
      front = stops;
      shorter = omega (arith, length-drop size body, ap length is, length-drop n text);
    }

pub begins_slice : (text : List ℕ) (n size : ℕ) → let body = take (length text - n) (drop n text) in (cut (lines text)).before ≡ [] → n ≤ length text → lines text ≡ take n text ∷ lines (drop n text) → 5 ≤ n → slice_index (take n text) (n - 1) ≡ 10 → size ≤ length body → (cut (lines body)).before ≡ take size body → (cut (lines body)).parts ≡ (cut (lines (drop size body))).parts → (cut (lines (drop size body))).before ≡ [] → BeginsWith text (take (n - 1 - 4) (drop 4 (take n text))) (take size body) (take (length body - size) (drop size body))
begins_slice text n size lead within first five last fits bytes parts stops =
    let body : List ℕ = take (length text - n) (drop n text) in
    let b = begins text body n size lead within first five last (rest_of text n) fits bytes parts stops in
    subst (λ t. BeginsWith text (take (n - 1 - 4) (drop 4 (take n text))) (take size body) t) (sym (rest_of body size)) b

-- one part further
pub parts_more : (text rest path content after : List ℕ) (done : List File) → Parts text done rest → BeginsWith rest path content after → Parts text (done ++ record { path = path; content = content } ∷ []) after
parts_more text rest path content after done h b =
    let one : map file_of (cut (lines rest)).parts ≡ record { path = path; content = content } ∷ map file_of (cut (lines after)).parts = ap (map file_of) b.parts ∙ ap (λ e. e ∷ map file_of (cut (lines after)).parts) b.file in
    let all : list_all is_whole (cut (lines rest)).parts ≡ list_all is_whole (cut (lines after)).parts = ap (list_all is_whole) b.parts ∙ rw b.whole refl in
    record {
      lead = h.lead;
      files = append_assoc done (record { path = path; content = content } ∷ []) (map file_of (cut (lines after)).parts) ∙ (ap (λ t. done ++ t) (sym one) ∙ h.files);
      whole = h.whole ∙ all;
      front = b.front;
    }

-- with one file more than the limits allow, there is no workspace
pub too_many : (limits : Limits) (text rest path content after : List ℕ) (done : List File) → Parts text done rest → BeginsWith rest path content after → limits.files ≤ length done
    → option_and_then (workspace_within limits) (files_of text) ≡ None
unfolding workspace_within
too_many limits text rest path content after done h b full =
    let h' = parts_more text rest path content after done h b in
    let one : List File = record { path = path; content = content } ∷ [] in
    let files : List File = map file_of (cut (lines text)).parts in
    let many : limits.files < length files = omega (arith, full, ap length h'.files, length-append (done ++ one) (map file_of (cut (lines after)).parts), length-append done one) in
    let few : nat_le (length files) limits.files ≡ false = grind (arith, nat_tests) in
    elim (cases_Bool (is_bundle (cut (lines text)))) [
      | inl is_one ↦ rw (is_one, few) refl
      | inr is_none ↦ rw is_none refl
    ]
