-- What environments and frames say stays the same, as names are bound and blocks open.
use Rattle.std.proofs.Common.{◌≡◌, ◌≢◌, ℕ, Bool, true, false, List, [], ◌∷◌, Option, Some, None, ◌==◌, is_some, bytes_eq, if◌then◌else◌, refl, sym, ap, ◌∙◌, eqb-true, eq-eqb, true≢false}
use Rattle.std.proofs.lemmas.Slice.Eq.{bytes_eq-Decides}
use Rattle.bq_resolve_scope.specs.Names.{Name, has}
use Rattle.bq_resolve_scope.specs.Scope.{BlockParts, or_else, slot_in, slot_of}
use Rattle.bq_value.specs.Datum.{Datum}
use Rattle.bq_eval_spec.specs.Frame.{Frame, empty, fill}
use Rattle.bq_eval_spec.specs.Names.{Env, bind, declare, outside}
use Rattle.bq_eval_by_name.specs.Shows.{Below, Nested, Places, through, Reads, IsFree, Shows}
use Rattle.bq_eval_by_name.proofs.Slots.{held, slot_from, one_name, taken, free_after}

-- ---- names are bound

through_fill : (frame : Frame) (slot : ℕ) (v : Datum) (at : Option ℕ) → at ≢ Some slot → through (fill frame slot v) at ≡ through frame at
unfolding fill
through_fill frame slot v None other = refl
through_fill frame slot v (Some s) other = go (s == slot) refl
  where
    go : (p : Bool) → (s == slot) ≡ p → Some (if p then Some v else frame s) ≡ Some (frame s)
    go true e = absurd (other (ap (λ n. Some n) (eqb-true s slot e)))
    go false e = refl

filled : (frame : Frame) (slot : ℕ) (v : Datum) → fill frame slot v slot ≡ Some v
unfolding fill
filled frame slot v = rw (eq-eqb slot slot refl) refl

abbrev pub OneToOne : Places → Type 0
OneToOne places = (a b : Name) (slot : ℕ) → places a ≡ Some slot → places b ≡ Some slot → a ≡ b

pub reads_bind : (places : Places) (env : Env) (frame : Frame) (name : Name) (slot : ℕ) (v : Datum) → OneToOne places → places name ≡ Some slot → Reads places env frame
    → Reads places (bind env name v) (fill frame slot v)
unfolding bind
reads_bind places env frame name slot v one at reads n = go (bytes_eq n name) refl
  where
    go : (p : Bool) → bytes_eq n name ≡ p → (if p then Some (Some v) else env n) ≡ through (fill frame slot v) (places n)
    go true e = sym (ap (λ a. through (fill frame slot v) (places a)) ((bytes_eq-Decides n name).0 e) ∙ ap (through (fill frame slot v)) at ∙ ap (λ o. Some o) (filled frame slot v))
    go false e = reads n ∙ sym (through_fill frame slot v (places n) (λ g. true≢false (sym ((bytes_eq-Decides n name).1 (one n name slot g at)) ∙ e)))

pub shows_bind : (blocks : List BlockParts) → Nested blocks → (env : Env) (frame : Frame) (name : Name) (slot : ℕ) (v : Datum) → slot_of blocks name ≡ Some slot → Shows blocks env frame
    → Shows blocks (bind env name v) (fill frame slot v)
unfolding fill
shows_bind blocks nested env frame name slot v at shows =
    record { reads = reads_bind (slot_of blocks) env frame name slot v (one_name blocks nested) at shows.reads; empty = λ s free. go s free (s == slot) refl }
  where
    go : (s : ℕ) → IsFree blocks s → (p : Bool) → (s == slot) ≡ p → (if p then Some v else frame s) ≡ None
    go s free true e = absurd (taken blocks name s free (at ∙ ap (λ n. Some n) (sym (eqb-true s slot e))))
    go s free false e = shows.empty s free

-- ---- a block opens

pub shows_declare : (block : BlockParts) (blocks : List BlockParts) (env : Env) (frame : Frame) → Below blocks block.base → Shows blocks env frame → Shows (block ∷ blocks) (declare env block.names) frame
unfolding declare slot_of
shows_declare block blocks env frame below shows = record { reads = λ n. go n (slot_in block n) refl; empty = λ s free. shows.empty s free.1 }
  where
    go : (n : Name) (o : Option ℕ) → slot_in block n ≡ o → (if has block.names n then Some None else env n) ≡ through frame (or_else o (slot_of blocks n))
    go n (Some s) e =
        let h : has block.names n ≡ true = sym (held block n) ∙ ap is_some e in
        let d : frame s ≡ None = shows.empty s (free_after blocks s block.base below (slot_from block n s e)) in
        rw (h, d) refl
    go n None e =
        let h : has block.names n ≡ false = sym (held block n) ∙ ap is_some e in
        rw h (shows.reads n)

-- ---- outside all blocks

pub shows_outside : Shows [] outside empty
unfolding outside empty slot_of
shows_outside = record { reads = λ n. refl; empty = λ s free. refl }

pub shows_framed : (env : Env) (frame : Frame) → Shows [] env frame → Shows [] env empty
unfolding empty slot_of
shows_framed env frame shows = record { reads = λ n. shows.reads n; empty = λ s free. refl }
