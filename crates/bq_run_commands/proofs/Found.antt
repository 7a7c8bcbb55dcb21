-- The file at a path, before and after edits.
use Rattle.std.proofs.Common.{◌≡◌, ◌∙◌, ◌++◌, ℕ, Bool, true, false, cond, not, List, [], ◌∷◌, Option, Some, None, refl, sym, ap, inl, inr}
use Rattle.std.specs.Str.{bytes_eq}
use Rattle.std.specs.List.{filter}
use Rattle.std.proofs.lemmas.Bool.{cases_Bool, false≢true}
use Rattle.bq_label.specs.declared.workspace.File.{File}
use Rattle.bq_label.specs.Workspace.{file_at}
use Rattle.bq_label.proofs.Above.{same_bytes, equal_bytes}
use Rattle.bq_label.proofs.Owners.{find_some}
use Rattle.bq_run_commands.specs.declared.edits.Edit.{Edit}
use Rattle.bq_run_commands.specs.declared.edits.Edit.TheVariants.{Put, Remove}
use Rattle.bq_run_commands.specs.Edits.{edited, is_elsewhere, with_edit}

pub at_none : (p : List ℕ) → file_at [] p ≡ None
unfolding file_at
at_none p = refl

at_more : (f : File) (fs : List File) (p : List ℕ) → file_at (f ∷ fs) p ≡ cond (bytes_eq f.path p) (Some f) (file_at fs p)
unfolding file_at
at_more f fs p = refl

pub at_first : (f : File) (fs : List File) (p : List ℕ) → bytes_eq f.path p ≡ true → file_at (f ∷ fs) p ≡ Some f
unfolding file_at
at_first f fs p y = rw y refl

pub at_later : (f : File) (fs : List File) (p : List ℕ) → bytes_eq f.path p ≡ false → file_at (f ∷ fs) p ≡ file_at fs p
unfolding file_at
at_later f fs p n = rw n refl

-- what is found at a path has that path
pub has_path : (fs : List File) (p : List ℕ) (f : File) → file_at fs p ≡ Some f → f.path ≡ p
unfolding file_at
has_path fs p f e = let found = find_some (λ (g : File). bytes_eq g.path p) fs f e in same_bytes f.path p found.1

pub itself : (p : List ℕ) → bytes_eq p p ≡ true
itself p = equal_bytes p p refl

pub either : (b : Bool) (z : Option File) → cond b z z ≡ z
either true z = refl
either false z = refl

-- ---- a file that is dropped, and one that is put at the end

dropped : (b c : Bool) (f : File) (z : Option File) → c ≡ b → cond b None z ≡ cond b None (cond c (Some f) z)
dropped true c f z e = refl
dropped false c f z e = rw e refl

stays : (b c : Bool) (f : File) (z : Option File) → (b ≡ true → c ≡ true → ⊥) → cond c (Some f) (cond b None z) ≡ cond b None (cond c (Some f) z)
stays true true f z lacks = absurd (lacks refl refl)
stays true false f z lacks = refl
stays false c f z lacks = refl

pub at_elsewhere : (q p : List ℕ) (fs : List File) → file_at (filter (is_elsewhere q) fs) p ≡ cond (bytes_eq q p) None (file_at fs p)
at_elsewhere q p [] = at_none p ∙ sym (ap (cond (bytes_eq q p) None) (at_none p) ∙ either (bytes_eq q p) None)
at_elsewhere q p (f ∷ fs) =
    let rest : file_at (filter (is_elsewhere q) fs) p ≡ cond (bytes_eq q p) None (file_at fs p) = at_elsewhere q p fs in
    let whole : cond (bytes_eq q p) None (cond (bytes_eq f.path p) (Some f) (file_at fs p)) ≡ cond (bytes_eq q p) None (file_at (f ∷ fs) p) = ap (cond (bytes_eq q p) None) (sym (at_more f fs p)) in
    elim (cases_Bool (bytes_eq f.path q)) [
      | inl y ↦
          let same : bytes_eq f.path p ≡ bytes_eq q p = ap (λ (t : List ℕ). bytes_eq t p) (same_bytes f.path q y) in
          rw y (rest ∙ (dropped (bytes_eq q p) (bytes_eq f.path p) f (file_at fs p) same ∙ whole))
      | inr n ↦
          let apart : bytes_eq q p ≡ true → bytes_eq f.path p ≡ true → ⊥ = λ b c. false≢true (sym n ∙ equal_bytes f.path q (same_bytes f.path p c ∙ sym (same_bytes q p b))) in
          rw n (at_more f (filter (is_elsewhere q) fs) p ∙ (ap (cond (bytes_eq f.path p) (Some f)) rest ∙ (stays (bytes_eq q p) (bytes_eq f.path p) f (file_at fs p) apart ∙ whole)))
    ]

abbrev else_last : Option File → Option File → Option File
else_last None last = last
else_last (Some f) last = Some f

none_else : (z : Option File) → else_last z None ≡ z
none_else None = refl
none_else (Some f) = refl

front_else : (c : Bool) (f : File) (z last : Option File) → cond c (Some f) (else_last z last) ≡ else_last (cond c (Some f) z) last
front_else true f z last = refl
front_else false f z last = refl

at_last : (fs : List File) (g : File) (p : List ℕ) → file_at (fs ++ g ∷ []) p ≡ else_last (file_at fs p) (cond (bytes_eq g.path p) (Some g) None)
at_last [] g p =
    let last : Option File = cond (bytes_eq g.path p) (Some g) None in
    at_more g [] p ∙ (ap (cond (bytes_eq g.path p) (Some g)) (at_none p) ∙ sym (ap (λ (z : Option File). else_last z last) (at_none p)))
at_last (f ∷ fs) g p =
    let last : Option File = cond (bytes_eq g.path p) (Some g) None in
    at_more f (fs ++ g ∷ []) p
    ∙ (ap (cond (bytes_eq f.path p) (Some f)) (at_last fs g p)
    ∙ (front_else (bytes_eq f.path p) f (file_at fs p) last ∙ ap (λ (z : Option File). else_last z last) (sym (at_more f fs p))))

replaced : (b : Bool) (f : File) (z : Option File) → else_last (cond b None z) (cond b (Some f) None) ≡ cond b (Some f) z
replaced true f z = refl
replaced false f z = none_else z

-- ---- what is at a path after edits, by what was there

abbrev pub after_edit : Edit → List ℕ → Option File → Option File
after_edit (Put f) p old = cond (bytes_eq f.path p) (Some f) old
after_edit (Remove q) p old = cond (bytes_eq q p) None old

abbrev pub after_edits : List Edit → List ℕ → Option File → Option File
after_edits [] p old = old
after_edits (e ∷ es) p old = after_edits es p (after_edit e p old)

one_edit : (e : Edit) (fs : List File) (p : List ℕ) → file_at (with_edit e fs) p ≡ after_edit e p (file_at fs p)
one_edit (Put f) fs p =
    at_last (filter (is_elsewhere f.path) fs) f p
    ∙ (ap (λ (z : Option File). else_last z (cond (bytes_eq f.path p) (Some f) None)) (at_elsewhere f.path p fs) ∙ replaced (bytes_eq f.path p) f (file_at fs p))
one_edit (Remove q) fs p = at_elsewhere q p fs

pub all_edits : (fs : List File) (es : List Edit) (p : List ℕ) → file_at (edited fs es) p ≡ after_edits es p (file_at fs p)
all_edits fs [] p = refl
all_edits fs (e ∷ es) p = all_edits (with_edit e fs) es p ∙ ap (after_edits es p) (one_edit e fs p)

pub edits_joined : (es ds : List Edit) (p : List ℕ) (old : Option File) → after_edits (es ++ ds) p old ≡ after_edits ds p (after_edits es p old)
edits_joined [] ds p old = refl
edits_joined (e ∷ es) ds p old = edits_joined es ds p (after_edit e p old)
