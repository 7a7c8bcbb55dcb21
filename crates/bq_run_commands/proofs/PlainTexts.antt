-- Texts without commands.
use Rattle.std.proofs.Common.{◌≡◌, ◌++◌, ◌∙◌, ℕ, true, false, List, [], ◌∷◌, refl, sym, ap, subst, inl, inr, append_assoc, append-nil}
use Rattle.std.proofs.lemmas.Bool.{cases_Bool, false_from_ne_true, false≢true}
use Rattle.std.specs.Prelude.{bytes_eq, codes, length, nat_eq, nat_lt, take}
use Rattle.std.specs.List.{AllByRecursion, starts_with}
use Rattle.bq_label.proofs.Above.{same_bytes}
use Rattle.bq_run.specs.Bundle.{lines}
use Rattle.bq_run_commands.specs.declared.commands.Command.{Command}
use Rattle.bq_run_commands.specs.declared.commands.Command.TheVariants as command
use Rattle.bq_run_commands.specs.declared.items.Request.TheVariants as request
use Rattle.bq_run_commands.specs.Commands.{command_by, command_of}
use Rattle.bq_run_commands.specs.Items.{AreItems, IsItem, IsRequest, ItemView}
use Rattle.bq_run_commands.specs.Laws.{AsksAtMost, IsNoCommand, PlainTextsAskQueries, queries_among, query_by}
use Rattle.bq_run_commands.specs.Queries.{is_skipped, max_queries_bytes, max_query_bytes, queries_in, queries_of, query_of}

-- ---- what a plain line asks for

starts_longer : (xs p more : List ℕ) → starts_with nat_eq xs p ≡ false → starts_with nat_eq xs (p ++ more) ≡ false
starts_longer xs [] more other = absurd (false≢true (sym other))
starts_longer [] (a ∷ p) more other = refl
starts_longer (x ∷ xs) (a ∷ p) more other = elim (cases_Bool (nat_eq a x)) [
  | inl same ↦ rw same (starts_longer xs p more (sym (rw same refl) ∙ other))
  | inr not_same ↦ rw not_same refl
]

other_word : (line word : List ℕ) → starts_with nat_eq line (codes "=== ") ≡ false → starts_with nat_eq word (codes "=== ") ≡ true → bytes_eq line word ≡ false
other_word line word other begins =
    false_from_ne_true (bytes_eq line word) (λ same. false≢true (sym other ∙ (ap (λ t. starts_with nat_eq t (codes "=== ")) (same_bytes line word same) ∙ begins)))

no_word : (limit : ℕ) (line : List ℕ) → starts_with nat_eq line (codes "=== ") ≡ false → command_by limit line ≡ command.Answer
unfolding command_by
no_word limit line other =
    let put : starts_with nat_eq line (codes "=== put ") ≡ false = starts_longer line (codes "=== ") (codes "put ") other in
    let remove : starts_with nat_eq line (codes "=== remove ") ≡ false = starts_longer line (codes "=== ") (codes "remove ") other in
    let facts_of : starts_with nat_eq line (codes "=== facts ") ≡ false = starts_longer line (codes "=== ") (codes "facts ") other in
    let facts : bytes_eq line (codes "=== facts") ≡ false = other_word line (codes "=== facts") other refl in
    let reload : bytes_eq line (codes "=== reload") ≡ false = other_word line (codes "=== reload") other refl in
    rw (put, remove, facts_of, facts, reload) refl

skipped : (limit : ℕ) (line : List ℕ) → is_skipped line ≡ true → command_of limit line ≡ command.Nothing
unfolding command_of
skipped limit line is = rw is refl

kept : (limit : ℕ) (line : List ℕ) → is_skipped line ≡ false → starts_with nat_eq line (codes "=== ") ≡ false → command_of limit line ≡ command.Answer
unfolding command_of
kept limit line is other = elim (cases_Bool (nat_lt max_query_bytes (length line))) [
  | inl long ↦ rw (is, long) refl
  | inr short ↦ rw (is, short) (no_word limit line other)
]

-- ---- items

-- what is said of the first item of a plain text
record IsOne (whole after rest : List ℕ) (a : ItemView) : Type 0 where
  nothing_more : rest ≡ after
  queries : queries_in (whole ∷ lines after) ≡ query_by a.request a.line ++ queries_in (lines after)
  at_most : AsksAtMost a

asks_nothing : (whole after rest : List ℕ) (a : ItemView) → a.line ≡ query_of whole → is_skipped (query_of whole) ≡ true → (rest ≡ after) × (a.request ≡ request.Nothing) → IsOne whole after rest a
asks_nothing whole after rest a line is asks = record {
  nothing_more = asks.0;
  queries = rw (is, asks.1) refl;
  at_most = inl asks.1;
}

asks_answer : (whole after rest : List ℕ) (a : ItemView) → a.line ≡ query_of whole → is_skipped (query_of whole) ≡ false → (rest ≡ after) × (a.request ≡ request.Answer) → IsOne whole after rest a
asks_answer whole after rest a line is asks = record {
  nothing_more = asks.0;
  queries = rw (is, asks.1, line) refl;
  at_most = inr asks.1;
}

one_item : (limit : ℕ) (before rest : List ℕ) (a : ItemView) (item : IsItem limit before rest a.line a.request) → IsNoCommand item.whole → IsOne item.whole item.after rest a
one_item limit before rest a item plain =
    let asks : IsRequest (command_of limit (query_of item.whole)) item.after rest a.request = subst (λ l. IsRequest (command_of limit l) item.after rest a.request) item.is item.asks in
    elim (cases_Bool (is_skipped (query_of item.whole))) [
      | inl is ↦ asks_nothing item.whole item.after rest a item.is is (subst (λ (c : Command). IsRequest c item.after rest a.request) (skipped limit (query_of item.whole) is) asks)
      | inr is ↦ asks_answer item.whole item.after rest a item.is is (subst (λ (c : Command). IsRequest c item.after rest a.request) (kept limit (query_of item.whole) is plain) asks)
    ]

among_more : (items : List ItemView) (a : ItemView) → queries_among (items ++ a ∷ []) ≡ queries_among items ++ query_by a.request a.line
among_more [] a = append-nil (query_by a.request a.line)
among_more (b ∷ bs) a = ap (λ qs. query_by b.request b.line ++ qs) (among_more bs a) ∙ sym (append_assoc (query_by b.request b.line) (queries_among bs) (query_by a.request a.line))

all_more : (items : List ItemView) (a : ItemView) → AllByRecursion AsksAtMost items → AsksAtMost a → AllByRecursion AsksAtMost (items ++ a ∷ [])
all_more [] a all one = (one, tt)
all_more (b ∷ bs) a all one = (all.0, all_more bs a all.1 one)

-- what is said of the first items of a plain text
record AreFirst (text rest : List ℕ) (items : List ItemView) : Type 0 where
  plain : AllByRecursion IsNoCommand (lines rest)
  queries : queries_in (lines text) ≡ queries_among items ++ queries_in (lines rest)
  at_most : AllByRecursion AsksAtMost items

one_more : (limit : ℕ) (text before rest : List ℕ) (items : List ItemView) (a : ItemView) → AreFirst text before items → IsItem limit before rest a.line a.request → AreFirst text rest (items ++ a ∷ [])
one_more limit text before rest items a first item =
    let here : AllByRecursion IsNoCommand (item.whole ∷ lines item.after) = subst (AllByRecursion IsNoCommand) item.first first.plain in
    let one = one_item limit before rest a item here.0 in
    let asked = query_by a.request a.line in
    let left = queries_in (lines item.after) in
    record {
      plain = subst (λ t. AllByRecursion IsNoCommand (lines t)) (sym one.nothing_more) here.1;
      queries =
          first.queries ∙ (ap (λ ls. queries_among items ++ queries_in ls) item.first ∙ (ap (λ qs. queries_among items ++ qs) one.queries
          ∙ (sym (append_assoc (queries_among items) asked left) ∙ (ap (λ qs. qs ++ left) (sym (among_more items a))
          ∙ ap (λ t. queries_among (items ++ a ∷ []) ++ queries_in (lines t)) (sym one.nothing_more)))));
      at_most = all_more items a first.at_most one.at_most;
    }

are_first : (limit : ℕ) (text rest : List ℕ) (items : List ItemView) → AllByRecursion IsNoCommand (lines text) → AreItems limit text items rest → AreFirst text rest items
are_first limit text rest items plain AreItems.none = record { plain = plain; queries = refl; at_most = tt }
are_first limit text rest all plain (AreItems.more {items = items} {before = before} a first item same) =
    subst (λ its. AreFirst text rest its) (sym same) (one_more limit text before rest items a (are_first limit text before items plain first) item)

pub plain_texts_ask_queries : PlainTextsAskQueries
unfolding queries_of
plain_texts_ask_queries limit input items plain are =
    let all = are_first limit (take max_queries_bytes input) [] items plain are in
    (sym (all.queries ∙ append-nil (queries_among items)), all.at_most)
