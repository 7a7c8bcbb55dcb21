-- The load graph of a workspace after a change, where all modules load what they loaded.
use Rattle.std.proofs.Common.{◌≡◌, ◌∙◌, ◌+◌, ◌&&◌, Bool, true, false, ℕ, zero, suc, List, [], ◌∷◌, ◌++◌, length, map, Option, Some, None, is_some, Ok, slice_get, inl, inr, refl, sym, ap, subst, arith}
use Rattle.std.specs.List.{Contains}
use Rattle.bq_label.specs.declared.packages.BuildFile.{BuildFile}
use Rattle.bq_label.specs.declared.workspace.File.{File}
use Rattle.bq_label.specs.Label.{LabelParts}
use Rattle.bq_label.specs.Packages.{packages_of}
use Rattle.bq_label.proofs.Orders.{head_or_tail}
use Rattle.bq_label_set.specs.Labels.{same_label, same_label-Decides, with_labels}
use Rattle.bq_label_set.proofs.Added.{the_labels_added}
use Rattle.bq_package_schema.specs.Schema.{Rules}
use Rattle.bq_board.specs.Graph.{Loads}
use Rattle.bq_load_front.specs.Front.{loads_by}
use Rattle.bq_load_front.specs.Inputs.{InputParts}
use Rattle.bq_load_front.specs.Parsed.{Fronts, loads_in}
use Rattle.bq_load_front.specs.Reading.{parsed_of}
use Rattle.bq_load_front.proofs.ByName.{loads_agree}
use Rattle.bq_load_discover.specs.declared.modules.Module.{Module}
use Rattle.bq_load_discover.specs.LoadGraph.{GraphParts, IsLoadGraph, IsNumbered, IsReadGraph, inputs_of}
use Rattle.bq_load_discover.specs.Module.{labels_of, module_of}
use Rattle.bq_load_discover.specs.Modules.{AreModules, IsModule, edges_from}
use Rattle.bq_load_discover.specs.Schema.{schema_in}
use Rattle.bq_load_discover.proofs.Lists.{none_in}
use Rattle.bq_load_order.specs.Again.{number_at}
use Rattle.bq_load_changes.specs.Graph.{IsGraphOf}
use Rattle.bq_load_reload.specs.Renewal.{AreAsRead, all_loaded, have_same_labels, loaded_by_one, modules_in}
use Rattle.bq_load_changes.specs.Same.{HasSameFrame, HasStayed, HaveStayed}
use Rattle.bq_load_changes.proofs.Frames.{first, second}
use Rattle.bq_load_reload.proofs.Texts as texts

-- ---- labels, one after another

labels_same : (ls ks : List LabelParts) → have_same_labels ls ks ≡ true → ls ≡ ks
unfolding have_same_labels
labels_same [] [] h = refl
labels_same [] (k ∷ ks) h = absurd (cc)
labels_same (l ∷ ls) [] h = absurd (cc)
labels_same (l ∷ ls) (k ∷ ks) h =
    let here : l ≡ k = (same_label-Decides l k).0 (first (same_label l k) (have_same_labels ls ks) h) in
    let later : ls ≡ ks = labels_same ls ks (second (same_label l k) (have_same_labels ls ks) h) in
    λ i. here i ∷ later i

-- what is compared is what is loaded
pub loads_same : (a b x y : List LabelParts) (same : Bool) → a ≡ x → b ≡ y → (same ≡ true → have_same_labels a b ≡ true) → same ≡ true → x ≡ y
loads_same a b x y same d e f h = sym d ∙ (labels_same a b (f h) ∙ e)

-- ---- modules, one after another

-- one more
pub one_more : {A B : Type 0} (f : A → B) (ys : List B) (y : B) (x : A) (xs : List A) → y ≡ f x → (ys ++ y ∷ []) ++ map f xs ≡ ys ++ map f (x ∷ xs)
one_more f [] y x xs e = λ i. e i ∷ map f xs
one_more f (z ∷ ys) y x xs e = ap (λ (zs : List _). z ∷ zs) (one_more f ys y x xs e)

pub none_left : {A : Type 0} (xs : List A) → xs ++ [] ≡ xs
none_left [] = refl
none_left (x ∷ xs) = ap (λ (ys : List _). x ∷ ys) (none_left xs)

-- ---- which modules are what their files read as

place_first : (n : ℕ) → n ≡ n + 0
place_first n = omega arith

place_zero : (m : ℕ) → 0 + m ≡ m
place_zero m = omega arith

place_more : (n m : ℕ) → n + 1 + m ≡ n + suc m
place_more n m = omega arith

from_each : (inputs : InputParts) (was : List (Option ℕ)) (n : ℕ) (ms : List Module)
    → ((m : ℕ) (s : Module) → slice_get ms m ≡ Some s → is_some (number_at was (n + m)) ≡ true → s ≡ module_of inputs s.label) → AreAsRead inputs was n ms
from_each inputs was n [] f = tt
from_each inputs was n (s ∷ ss) f = (
  λ h. f 0 s refl (subst (λ (k : ℕ). is_some (number_at was k) ≡ true) (place_first n) h),
  from_each inputs was (n + 1) ss (λ m t at h. f (suc m) t at (subst (λ (k : ℕ). is_some (number_at was k) ≡ true) (place_more n m) h)),
)

a_number : (o : Option ℕ) → is_some o ≡ true → (k : ℕ) × (o ≡ Some k)
a_number None h = absurd (cc)
a_number (Some k) h = (k, refl)

one_some : (a b : Module) → Some a ≡ Some b → a ≡ b
one_some a b e = cc

one_module : (a b : Module) (o : Option Module) → o ≡ Some a → o ≡ Some b → a ≡ b
one_module a b o e f = one_some a b (sym e ∙ f)

-- all modules of a load graph are
pub all_as_read : (inputs : InputParts) (g : GraphParts) → IsReadGraph inputs g → (was : List (Option ℕ)) (n : ℕ) (ms : List Module) → ms ≡ g.modules → AreAsRead inputs was n ms
all_as_read inputs g read was n ms e = subst (λ (z : List Module). AreAsRead inputs was n z) (sym (e ∙ read.read)) (each g.labels n)
  where
    each : (ls : List LabelParts) (n : ℕ) → AreAsRead inputs was n (map (module_of inputs) ls)
    each [] n = tt
    each (l ∷ ls) n = (λ h. refl, each ls (n + 1))

pub packages_read : (files : List File) (rules : Rules) (g : GraphParts) → IsReadGraph (inputs_of files rules) g → (bs : List BuildFile) → bs ≡ g.packages → bs ≡ packages_of files
packages_read files rules g read bs e = e ∙ read.packages

-- those of files whose texts are what they were are
module _ (before after : List File) (touched : List BuildFile) (rules : Rules) (schema : schema_in after ≡ Ok rules) (frame : HasSameFrame before after touched) (g : GraphParts) (is : IsGraphOf before g) where
  stays : (was : List (Option ℕ)) → HaveStayed before after touched g.labels g.labels was → (m : ℕ) (s : Module) → slice_get g.modules m ≡ Some s → is_some (number_at was m) ≡ true → s ≡ module_of (inputs_of after rules) s.label
  stays was stay m s at h =
      let k = a_number (number_at was m) h in
      let t = stay m k.0 k.1 in
      let l : LabelParts = t.0 in
      let had : s ≡ module_of (inputs_of before is.rules) l = one_module s (module_of (inputs_of before is.rules) l) (slice_get g.modules m) at (texts.read_at before is.rules g is.read m l t.1) in
      let now : module_of (inputs_of after rules) l ≡ module_of (inputs_of before is.rules) l = texts.modules_same before after touched is.rules rules is.schema schema frame l (texts.text_same before after l t.2.text) in
      let label : s.label ≡ l = ap (λ (z : Module). z.label) had in
      had ∙ (sym now ∙ ap (module_of (inputs_of after rules)) (sym label))

  pub as_read_stay : (was : List (Option ℕ)) → HaveStayed before after touched g.labels g.labels was → (ms : List Module) → ms ≡ g.modules → AreAsRead (inputs_of after rules) was 0 ms
  as_read_stay was stay ms e =
      subst (λ (z : List Module). AreAsRead (inputs_of after rules) was 0 z) (sym e) (from_each (inputs_of after rules) was 0 g.modules (λ m s at h. stays was stay m s at (subst (λ (k : ℕ). is_some (number_at was k) ≡ true) (place_zero m) h)))

  pub packages_stay : (bs : List BuildFile) → bs ≡ g.packages → bs ≡ packages_of after
  packages_stay bs e = e ∙ (is.read.packages ∙ sym (texts.the_packages before after touched is.rules rules is.schema schema frame))

-- ---- one load graph of two workspaces

heads : {X : Type 0} (x y : X) (xs ys : List X) → x ∷ xs ≡ y ∷ ys → x ≡ y
heads x y xs ys e = cc

tails : {X : Type 0} (x y : X) (xs ys : List X) → x ∷ xs ≡ y ∷ ys → xs ≡ ys
tails x y xs ys e = cc

one_at : {X Y : Type 0} (f g : X → Y) (xs : List X) (x : X) → map f xs ≡ map g xs → Contains xs x → f x ≡ g x
one_at f g [] x e c = absurd (none_in x c)
one_at f g (y ∷ ys) x e c = elim (head_or_tail y ys x c) [
  | inl s ↦ subst (λ z. f z ≡ g z) s (heads (f y) (g y) (map f ys) (map g ys) e)
  | inr d ↦ one_at f g ys x (tails (f y) (g y) (map f ys) (map g ys) e) d
]

through : {X Y Z : Type 0} (h : Y → Z) (f g : X → Y) (xs : List X) → map f xs ≡ map g xs → map (λ x. h (f x)) xs ≡ map (λ x. h (g x)) xs
through h f g [] e = refl
through h f g (x ∷ xs) e =
    let here : f x ≡ g x = heads (f x) (g x) (map f xs) (map g xs) e in
    let later = through h f g xs (tails (f x) (g x) (map f xs) (map g xs) e) in
    λ i. h (here i) ∷ later i

module _ (packages : List BuildFile) (a b : Fronts) (ls : List LabelParts) (same : map (edges_from a) ls ≡ map (edges_from b) ls) where
  moved : (m l : LabelParts) → Contains ls m → Contains (loads_in (a m)) l → Contains (loads_in (b m)) l
  moved m l there c =
      let here : edges_from a m ≡ edges_from b m = one_at (edges_from a) (edges_from b) ls m same there in
      let d : Contains (edges_from b m) l = subst (λ (z : List LabelParts). Contains z l) here ((the_labels_added [] (loads_in (a m)) l).1 (inr c)) in
      elim ((the_labels_added [] (loads_in (b m)) l).0 d) [ inl none ↦ absurd (none_in l none) | inr found ↦ found ]

module _ (packages : List BuildFile) (a b : Fronts) (ls : List LabelParts) (same : map (edges_from a) ls ≡ map (edges_from b) ls) (is : AreModules packages a ls) where
  all_there : (l : LabelParts) → IsModule packages b l → Contains ls l
  all_there l (IsModule.build x c e) = is.all l (IsModule.build x c e)
  all_there l (IsModule.loaded m i c) =
      let there : Contains ls m = all_there m i in
      is.all l (IsModule.loaded m (is.only m there) (moved packages b a ls (sym same) m l there c))

  only_those : (l : LabelParts) → IsModule packages a l → IsModule packages b l
  only_those l (IsModule.build x c e) = IsModule.build x c e
  only_those l (IsModule.loaded m i c) = IsModule.loaded m (only_those m i) (moved packages a b ls same m l (is.all m i) c)

  same_modules : AreModules packages b ls
  same_modules = record { ascending = is.ascending; all = all_there; only = λ l c. only_those l (is.only l c) }

same_graph : (packages : List BuildFile) (a b : Fronts) (ls : List LabelParts) (p : Loads) → map (edges_from a) ls ≡ map (edges_from b) ls → IsLoadGraph packages a ls p → IsLoadGraph packages b ls p
same_graph packages a b ls p same is = record {
  modules = same_modules packages a b ls same is.modules;
  edges = is.edges ∙ through (λ (ks : List LabelParts). map (λ k. Some k) ks) (edges_from a) (edges_from b) ls same;
  valid = is.valid;
}

-- ---- modules that are read again

loaded_are : (inputs : InputParts) (ls : List LabelParts) → all_loaded (map (module_of inputs) ls) ≡ map (edges_from (parsed_of inputs)) ls
loaded_are inputs [] = refl
loaded_are inputs (l ∷ ls) =
    let here : with_labels [] (loads_by (module_of inputs l).front) ≡ edges_from (parsed_of inputs) l = ap (with_labels []) (loads_agree inputs l) in
    let later = loaded_are inputs ls in
    λ i. here i ∷ later i

again_are : (inputs others : InputParts) (ls : List LabelParts) → modules_in inputs (map (module_of others) ls) ≡ map (module_of inputs) ls
again_are inputs others [] = refl
again_are inputs others (l ∷ ls) = ap (λ (ms : List Module). module_of inputs l ∷ ms) (again_are inputs others ls)

labels_stay : (inputs : InputParts) (ms : List Module) → labels_of (modules_in inputs ms) ≡ labels_of ms
labels_stay inputs [] = refl
labels_stay inputs (s ∷ ms) = ap (λ (ls : List LabelParts). s.label ∷ ls) (labels_stay inputs ms)

abbrev parts : List LabelParts → List Module → Loads → List BuildFile → GraphParts
parts ls ms p bs = record { labels = ls; modules = ms; edges = p; packages = bs }

module _ (inputs : InputParts) (g : GraphParts) (ls : List LabelParts) (ms had : List Module) (p : Loads) (bs : List BuildFile) (labels : ls ≡ g.labels) (read : ms ≡ modules_in inputs had) (modules : had ≡ g.modules) (edges : p ≡ g.edges) where
  again : modules_in inputs g.modules ≡ ms
  again = sym (read ∙ ap (modules_in inputs) modules)

  whole : parts g.labels (modules_in inputs g.modules) g.edges bs ≡ parts ls ms p bs
  whole = let a : g.labels ≡ ls = sym labels in let b : modules_in inputs g.modules ≡ ms = again in let c : g.edges ≡ p = sym edges in λ i. parts (a i) (b i) (c i) bs

  numbered_again : IsNumbered g → IsNumbered (parts g.labels (modules_in inputs g.modules) g.edges bs)
  numbered_again n = record { ascending = n.ascending; named = labels_stay inputs g.modules ∙ n.named; long = n.long; valid = n.valid }

  pub is_numbered : IsNumbered g → IsNumbered (record { labels = ls; modules = ms; edges = p; packages = bs })
  is_numbered n = subst (λ (z : GraphParts). IsNumbered z) whole (numbered_again n)

  -- the modules are those that were there, if they are what their files read as
  pub is_same : IsReadGraph inputs g → bs ≡ g.packages → (r : GraphParts) → r ≡ record { labels = ls; modules = ms; edges = p; packages = bs } → r ≡ g
  is_same of packages r e =
      let it : modules_in inputs g.modules ≡ g.modules = ap (modules_in inputs) of.read ∙ (again_are inputs inputs g.labels ∙ sym of.read) in
      let m : ms ≡ g.modules = sym again ∙ it in
      e ∙ (λ i. parts (labels i) (m i) (edges i) (packages i))

  -- they are those of a workspace with other texts, if they load what they loaded
  pub is_read : (others : InputParts) → IsReadGraph others g → inputs.packages ≡ others.packages → bs ≡ g.packages → all_loaded ms ≡ all_loaded had
      → (r : GraphParts) → r ≡ record { labels = ls; modules = ms; edges = p; packages = bs } → IsReadGraph inputs r
  is_read others of known packages loaded r e = subst (λ (z : GraphParts). IsReadGraph inputs z) (sym (e ∙ sym whole)) (record {
    graph = subst (λ (z : List BuildFile). IsLoadGraph z (parsed_of inputs) g.labels g.edges) (sym known) (same_graph others.packages (parsed_of others) (parsed_of inputs) g.labels g.edges same of.graph);
    read = now;
    packages = packages ∙ (of.packages ∙ sym known);
  })
    where
      now : modules_in inputs g.modules ≡ map (module_of inputs) g.labels
      now = ap (modules_in inputs) of.read ∙ again_are inputs others g.labels

      mine : all_loaded ms ≡ map (edges_from (parsed_of inputs)) g.labels
      mine = ap all_loaded (sym again ∙ now) ∙ loaded_are inputs g.labels

      theirs : all_loaded had ≡ map (edges_from (parsed_of others)) g.labels
      theirs = ap all_loaded (modules ∙ of.read) ∙ loaded_are others g.labels

      same : map (edges_from (parsed_of others)) g.labels ≡ map (edges_from (parsed_of inputs)) g.labels
      same = sym theirs ∙ (sym loaded ∙ mine)

-- those of files after a change
pub is_renewed : (before after : List File) (touched : List BuildFile) (rules : Rules) → schema_in after ≡ Ok rules → HasSameFrame before after touched → (g : GraphParts) → IsGraphOf before g
    → (ls : List LabelParts) (ms had : List Module) (p : Loads) (bs : List BuildFile) → ls ≡ g.labels → ms ≡ modules_in (inputs_of after rules) had → had ≡ g.modules → p ≡ g.edges → bs ≡ g.packages → all_loaded ms ≡ all_loaded had
    → (r : GraphParts) → r ≡ record { labels = ls; modules = ms; edges = p; packages = bs } → IsReadGraph (inputs_of after rules) r
is_renewed before after touched rules schema frame g is ls ms had p bs labels read modules edges packages loaded r e =
    is_read (inputs_of after rules) g ls ms had p bs labels read modules edges (inputs_of before is.rules) is.read (texts.the_packages before after touched is.rules rules is.schema schema frame) packages loaded r e
