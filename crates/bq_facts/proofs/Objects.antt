-- An object that is written in two parts.
use Rattle.std.proofs.Common.{◌≡◌, ℕ, ◌<◌, List, [], ◌∷◌, ◌++◌, length, sym, ap, ◌∙◌, append_assoc, arith}
use Rattle.std.specs.List.{join_by}
use Rattle.std.proofs.lemmas.Grind.{flat_map-append}
use Rattle.bq_package_values.specs.JsonParts.{Member, comma, member_text, json_object}
use Rattle.bq_facts.specs.Members.{further_members}

joined_more : (m : Member) (ms ns : List Member) → join_by member_text comma (m ∷ (ms ++ ns)) ≡ join_by member_text comma (m ∷ ms) ++ further_members ns
joined_more m ms ns =
    ap (λ t. member_text m ++ t) (flat_map-append (λ n. comma ++ member_text n) ms ns)
    ∙ sym (append_assoc (member_text m) (further_members ms) (further_members ns))

both_joined : (ms ns : List Member) → 0 < length ms → join_by member_text comma (ms ++ ns) ≡ join_by member_text comma ms ++ further_members ns
both_joined [] ns some = absurd (omega arith)
both_joined (m ∷ ms) ns some = joined_more m ms ns

-- `{` and the first members, the further members, and `}`
pub closed_object : (old first whole closed : List ℕ) (ms ns : List Member) → 0 < length ms → first ≡ old ++ (123 ∷ join_by member_text comma ms)
    → whole ≡ first ++ further_members ns → closed ≡ whole ++ 125 ∷ [] → closed ≡ old ++ json_object (ms ++ ns)
unfolding json_object
closed_object old first whole closed ms ns some e1 e2 e3 =
    let front = join_by member_text comma ms in
    let rest = further_members ns in
    e3
    ∙ ap (λ t. t ++ 125 ∷ []) (e2 ∙ ap (λ t. t ++ rest) e1)
    ∙ append_assoc (old ++ (123 ∷ front)) rest (125 ∷ [])
    ∙ append_assoc old (123 ∷ front) (rest ++ 125 ∷ [])
    ∙ ap (λ t. old ++ (123 ∷ t)) (sym (append_assoc front rest (125 ∷ [])) ∙ ap (λ t. t ++ 125 ∷ []) (sym (both_joined ms ns some)))

-- and the end of the line
pub two_parts : (old first whole closed line : List ℕ) (ms ns : List Member) → 0 < length ms → first ≡ old ++ (123 ∷ join_by member_text comma ms)
    → whole ≡ first ++ further_members ns → closed ≡ whole ++ 125 ∷ [] → line ≡ closed ++ 10 ∷ [] → line ≡ old ++ (json_object (ms ++ ns) ++ 10 ∷ [])
two_parts old first whole closed line ms ns some e1 e2 e3 e4 =
    e4 ∙ ap (λ t. t ++ 10 ∷ []) (closed_object old first whole closed ms ns some e1 e2 e3) ∙ append_assoc old (json_object (ms ++ ns)) (10 ∷ [])
