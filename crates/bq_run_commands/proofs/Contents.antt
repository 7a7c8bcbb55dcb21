-- The bytes of a file that is put.
use Rattle.std.proofs.Common.{◌≡◌, ◌≢◌, ◌≤◌, ◌<◌, ◌+◌, ◌++◌, ℕ, List, [], ◌∷◌, Option, None, Some, length, refl, sym, ap, ◌∙◌, arith, append_assoc, append-nil, length-append}
use Rattle.std.specs.Io.KnownBytes.{Consumes, IsAtEnd}
use Rattle.bq_label.specs.declared.workspace.File.{File}
use Rattle.bq_run_commands.specs.declared.edits.Edit.TheVariants as edit
use Rattle.bq_run_commands.specs.declared.items.Request.{Request}
use Rattle.bq_run_commands.specs.declared.items.Request.TheVariants.{Bad, Cut, Edit}
use Rattle.bq_run_commands.specs.Items.{EndsWithin, IsPut}
use Rattle.bq_run_commands.specs.Reading.{Known}

ended : (text now rest bytes : List ℕ) (count : ℕ) → text ≡ bytes ++ now → now ≡ [] ++ rest → rest ≡ [] → length bytes < count → EndsWithin count text rest
ended text now rest bytes count got none end few =
    let whole : text ≡ bytes = got ∙ (ap (λ t. bytes ++ t) (none ∙ end) ∙ append-nil bytes) in
    (omega (arith, ap length whole, few), end)

-- the text ends before so many bytes are read
pub ends_within : (before now then : Option (List ℕ)) (bytes : List ℕ) (count : ℕ) → Consumes before now bytes → Consumes now then [] → IsAtEnd then → length bytes < count
    → Known (EndsWithin count) before then
ends_within None now then bytes count got none end few = tt
ends_within (Some before) None then bytes count got none end few = absurd got
ends_within (Some before) (Some now) None bytes count got none end few = absurd none
ends_within (Some before) (Some now) (Some then) bytes count got none end few = ended before now then bytes count got none end few

-- ---- what is asked

pub cut_within : (before after : Option (List ℕ)) (count : ℕ) (path : List ℕ) (request : Request) → Known (EndsWithin count) before after → request ≡ Cut
    → Known (λ text rest. IsPut count path text rest request) before after
cut_within None after count path request h is = tt
cut_within (Some before) None count path request h is = absurd h
cut_within (Some before) (Some after) count path request h is = IsPut.cut (omega (arith, h.0)) h.1 is

no_end : (text now rest bytes : List ℕ) (count : ℕ) → text ≡ bytes ++ now → now ≡ [] ++ rest → rest ≡ [] → length bytes ≡ count → length text ≤ count
no_end text now rest bytes count got none end all =
    let whole : text ≡ bytes = got ∙ (ap (λ t. bytes ++ t) (none ∙ end) ∙ append-nil bytes) in
    omega (arith, ap length whole, all)

-- all bytes came, and nothing after them
pub cut_after : (before now then : Option (List ℕ)) (bytes : List ℕ) (count : ℕ) (path : List ℕ) (request : Request) → Consumes before now bytes → length bytes ≡ count → Consumes now then []
    → IsAtEnd then → request ≡ Cut → Known (λ text rest. IsPut count path text rest request) before then
cut_after None now then bytes count path request got all none end is = tt
cut_after (Some before) None then bytes count path request got all none end is = absurd got
cut_after (Some before) (Some now) None bytes count path request got all none end is = absurd none
cut_after (Some before) (Some now) (Some then) bytes count path request got all none end is = IsPut.cut (no_end before now then bytes count got none end all) end is

-- all bytes came, and another than a newline after them
pub bad_after : (before now then : Option (List ℕ)) (bytes : List ℕ) (b : ℕ) (count : ℕ) (path : List ℕ) (request : Request) → Consumes before now bytes → length bytes ≡ count
    → Consumes now then (b ∷ []) → b ≢ 10 → request ≡ Bad → Known (λ text rest. IsPut count path text rest request) before then
bad_after None now then bytes b count path request got all more other is = tt
bad_after (Some before) None then bytes b count path request got all more other is = absurd got
bad_after (Some before) (Some now) None bytes b count path request got all more other is = absurd more
bad_after (Some before) (Some now) (Some then) bytes b count path request got all more other is =
    IsPut.no_newline bytes b all (got ∙ ap (λ t. bytes ++ t) more) other is

-- all bytes came, and a newline after them
pub put_whole : (before now then : Option (List ℕ)) (bytes : List ℕ) (count : ℕ) (path : List ℕ) (request : Request) → Consumes before now bytes → length bytes ≡ count
    → Consumes now then (10 ∷ []) → request ≡ Edit (edit.Put (record { path = path; content = bytes })) → Known (λ text rest. IsPut count path text rest request) before then
put_whole None now then bytes count path request got all more is = tt
put_whole (Some before) None then bytes count path request got all more is = absurd got
put_whole (Some before) (Some now) None bytes count path request got all more is = absurd more
put_whole (Some before) (Some now) (Some then) bytes count path request got all more is = IsPut.whole bytes all (got ∙ ap (λ t. bytes ++ t) more) is
