-- A step of a row: the column at a place loses its first element, which goes to the row.
use Rattle.std.proofs.Common.{◌≡◌, ◌∙◌, sym, ap, ℕ, zero, suc, ◌+◌, ◌-◌, ◌<◌, List, [], ◌∷◌, ◌++◌, map, take, drop, set, length, get_or, append_assoc, arith}
use Rattle.bq_value.specs.Datum.{Datum, tuple, data_of}
use Rattle.bq_builtin.specs.Sequences.{heads, rows}

-- the columns after a number of moves
abbrev pub moved_on : ℕ → List (List Datum) → List (List Datum)
moved_on i xss = map (drop 1) (take i xss) ++ drop i xss

next_moves : (xss : List (List Datum)) (i : ℕ) (c : List Datum) → i < length xss → c ≡ get_or (moved_on i xss) i c → set (moved_on i xss) i (drop 1 c) ≡ moved_on (suc i) xss
next_moves [] i c below e = absurd (omega (arith, below))
next_moves (xs ∷ xss) zero c below e = ap (λ (ys : List Datum). drop 1 ys ∷ xss) e
next_moves (xs ∷ xss) (suc i) c below e = ap (λ (yss : List (List Datum)). drop 1 xs ∷ yss) (next_moves xss i c (omega (arith, below)) e)

next_head : (xss : List (List Datum)) (i : ℕ) (c : List Datum) → i < length xss → c ≡ get_or (moved_on i xss) i c → heads (drop i xss) ≡ take 1 c ++ heads (drop (suc i) xss)
next_head [] i c below e = absurd (omega (arith, below))
next_head (xs ∷ xss) zero c below e = ap (λ (ys : List Datum). take 1 ys ++ heads xss) (sym e)
next_head (xs ∷ xss) (suc i) c below e = next_head xss i c (omega (arith, below)) e

pub column_moves : (xss columns : List (List Datum)) (i : ℕ) (c : List Datum) → i < length xss → columns ≡ moved_on i xss → c ≡ get_or columns i c → set columns i (drop 1 c) ≡ moved_on (i + 1) xss
column_moves xss columns i c below is at =
    let one : suc i ≡ i + 1 = omega arith in
    ap (λ (yss : List (List Datum)). set yss i (drop 1 c)) is
    ∙ (next_moves xss i c below (at ∙ ap (λ (yss : List (List Datum)). get_or yss i c) is) ∙ ap (λ (n : ℕ). moved_on n xss) one)

pub head_moves : (xss columns : List (List Datum)) (row new : List Datum) (i : ℕ) (c : List Datum) → i < length xss → columns ≡ moved_on i xss → c ≡ get_or columns i c → new ≡ row ++ take 1 c → row ++ heads (drop i xss) ≡ heads xss → new ++ heads (drop (i + 1) xss) ≡ heads xss
head_moves xss columns row new i c below is at made before =
    let one : i + 1 ≡ suc i = omega arith in
    let rest : List Datum = heads (drop (suc i) xss) in
    ap (λ (n : ℕ). new ++ heads (drop n xss)) one
    ∙ (ap (λ (ys : List Datum). ys ++ rest) made
    ∙ (append_assoc row (take 1 c) rest
    ∙ (ap (λ (ys : List Datum). row ++ ys) (sym (next_head xss i c below (at ∙ ap (λ (yss : List (List Datum)). get_or yss i c) is))) ∙ before)))

-- a row more, and the rows of what is left
rows_next : (n i : ℕ) (xss : List (List Datum)) → i < n → rows (n - i) xss ≡ tuple (data_of (heads xss)) ∷ rows (n - (i + 1)) (map (drop 1) xss)
rows_next n i xss below =
    let more : n - i ≡ suc (n - (i + 1)) = omega (arith, below) in
    ap (λ (k : ℕ). rows k xss) more

pub row_done : (n i : ℕ) (before made : List Datum) (xss next : List (List Datum)) (t : Datum) (all : List Datum) → i < n → made ≡ before ++ t ∷ [] → t ≡ tuple (data_of (heads xss)) → next ≡ map (drop 1) xss → before ++ rows (n - i) xss ≡ all
    → made ++ rows (n - (i + 1)) next ≡ all
row_done n i before made xss next t all below push is moved so_far =
    let m : ℕ = n - (i + 1) in
    ap (λ (l : List Datum). l ++ rows m next) push
    ∙ (append_assoc before (t ∷ []) (rows m next)
    ∙ (ap (λ (v : Datum). before ++ (v ∷ rows m next)) is
    ∙ (ap (λ (yss : List (List Datum)). before ++ (tuple (data_of (heads xss)) ∷ rows m yss)) moved
    ∙ (ap (λ (l : List Datum). before ++ l) (sym (rows_next n i xss below)) ∙ so_far))))
