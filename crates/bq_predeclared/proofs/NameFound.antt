-- A look-up by name finds what has the name, and nothing else.
use Rattle.std.proofs.Common.{◌≡◌, ◌∙◌, ◌+◌, ℕ, zero, suc, Bool, true, false, ◌&&◌, ◌==◌, List, [], ◌∷◌, Option, Some, None, refl, sym, ap, subst, codes, slice_get, bytes_eq, cond, arith}
use Rattle.std.specs.Cmp.{unsigned_Decides}
use Rattle.std.proofs.lemmas.Slice.Eq.{bytes_eq-Decides}
use Rattle.bq_predeclared.specs.declared.predeclared.Predeclared.{Predeclared}
use Rattle.bq_predeclared.specs.declared.predeclared.Predeclared.TheVariants as p
use Rattle.bq_predeclared.specs.declared.host_function.HostFunction.TheVariants as host
use Rattle.bq_predeclared.specs.Predeclared.{built_in_names, others, name_of, place_from, predeclared_named, first_named, is_named}
use Rattle.bq_predeclared.proofs.Cases.{has_name, named_by}
use Rattle.bq_predeclared.specs.PredeclaredLaws.{EachNameIsFound, NothingElseIsFound}

pub same_name : (name own : List ℕ) → bytes_eq name own ≡ true → own ≡ name
same_name name own h = sym ((bytes_eq-Decides name own).0 h)

-- ---- nothing else is found

-- these names have this one at a place, where the first of them has the place `from`
record IsAt (from place : ℕ) (name : List ℕ) (names : List (List ℕ)) : Type 0 where
  at : ℕ
  is : place ≡ from + at
  there : slice_get names at ≡ Some name

at_first : (from place : ℕ) (name x : List ℕ) (xs : List (List ℕ)) → bytes_eq name x ≡ true → Some from ≡ Some place → IsAt from place name (x ∷ xs)
at_first from place name x xs same e =
    let here : from ≡ place = cc in
    record { at = 0; is = omega (arith, here); there = ap Some (same_name name x same) }

at_next : (from place : ℕ) (name x : List ℕ) (xs : List (List ℕ)) → IsAt (suc from) place name xs → IsAt from place name (x ∷ xs)
at_next from place name x xs i = record { at = suc i.at; is = omega (arith, i.is); there = i.there }

at_by : (b : Bool) (from place : ℕ) (name x : List ℕ) (xs : List (List ℕ)) → bytes_eq name x ≡ b
    → (place_from (suc from) name xs ≡ Some place → IsAt (suc from) place name xs)
    → cond b (Some from) (place_from (suc from) name xs) ≡ Some place → IsAt from place name (x ∷ xs)
at_by true from place name x xs same inner h = at_first from place name x xs same h
at_by false from place name x xs same inner h = at_next from place name x xs (inner h)

is_at : (from place : ℕ) (name : List ℕ) (xs : List (List ℕ)) → place_from from name xs ≡ Some place → IsAt from place name xs
unfolding place_from
is_at from place name [] h = absurd (cc)
is_at from place name (x ∷ xs) h = at_by (bytes_eq name x) from place name x xs refl (is_at (suc from) place name xs) h

has_name-is : (name : List ℕ) (own : Option (List ℕ)) → has_name name own ≡ true → own ≡ Some name
has_name-is name None h = cc
has_name-is name (Some own) h = ap Some (same_name name own h)

found_by : (b : Bool) (name : List ℕ) (x y : Predeclared) (rest : Option Predeclared) → is_named name x ≡ b
    → (rest ≡ Some y → name_of y ≡ Some name) → cond b (Some x) rest ≡ Some y → name_of y ≡ Some name
found_by true name x y rest t inner h = let e : x ≡ y = cc in subst (λ z. name_of z ≡ Some name) e (has_name-is name (name_of x) t)
found_by false name x y rest t inner h = inner h

first_is : (name : List ℕ) (xs : List Predeclared) (y : Predeclared) → first_named name xs ≡ Some y → name_of y ≡ Some name
unfolding first_named
first_is name [] y h = cc
first_is name (x ∷ xs) y h = found_by (is_named name x) name x y (first_named name xs) refl (first_is name xs y) h

at_its_place : (place : ℕ) (name : List ℕ) → IsAt 0 place name built_in_names → slice_get built_in_names place ≡ Some name
at_its_place place name i = let e : i.at ≡ place = omega (arith, i.is) in subst (λ k. slice_get built_in_names k ≡ Some name) e i.there

nothing_by : (o : Option ℕ) (name : List ℕ) (x : Predeclared) → place_from 0 name built_in_names ≡ o → named_by name o ≡ Some x → name_of x ≡ Some name
nothing_by None name x e h = first_is name others x h
nothing_by (Some place) name x e h =
    let same : p.BuiltIn place ≡ x = cc in
    subst (λ z. name_of z ≡ Some name) same (at_its_place place name (is_at 0 place name built_in_names e))

pub nothing_else : NothingElseIsFound
unfolding predeclared_named
nothing_else x name h = nothing_by (place_from 0 name built_in_names) name x refl h

-- ---- each name is found

both : (a b : Bool) → (a && b) ≡ true → (a ≡ true) × (b ≡ true)
both true b h = (refl, h)
both false b h = absurd (cc)

abbrev is_place : ℕ → Option ℕ → Bool
is_place n None = false
is_place n (Some m) = m == n

-- each of these names is found at its own place, where the first of them has the place `from`
abbrev are_found : ℕ → List (List ℕ) → Bool
are_found from [] = true
are_found from (x ∷ xs) = is_place from (place_from 0 x built_in_names) && are_found (suc from) xs

the_place : (n : ℕ) (o : Option ℕ) → is_place n o ≡ true → o ≡ Some n
the_place n None h = absurd (cc)
the_place n (Some m) h = ap Some ((unsigned_Decides m n).0 h)

found_from : (from k : ℕ) (name : List ℕ) (xs : List (List ℕ)) → are_found from xs ≡ true → slice_get xs k ≡ Some name → place_from 0 name built_in_names ≡ Some (from + k)
found_from from k name [] all e = absurd (cc)
found_from from zero name (x ∷ xs) all e =
    let same : x ≡ name = cc in
    let here = the_place from (place_from 0 x built_in_names) (both (is_place from (place_from 0 x built_in_names)) (are_found (suc from) xs) all).0 in
    subst (λ n. place_from 0 n built_in_names ≡ Some (from + 0)) same (here ∙ ap Some (omega arith))
found_from from (suc k) name (x ∷ xs) all e =
    found_from (suc from) k name xs (both (is_place from (place_from 0 x built_in_names)) (are_found (suc from) xs) all).1 e ∙ ap Some (omega arith)

each_is_found : are_found 0 built_in_names ≡ true
unfolding place_from
each_is_found = refl

built_in_found : (place : ℕ) (name : List ℕ) → slice_get built_in_names place ≡ Some name → predeclared_named name ≡ Some (p.BuiltIn place)
unfolding predeclared_named
built_in_found place name e = let own : 0 + place ≡ place = omega arith in ap (named_by name) (found_from 0 place name built_in_names each_is_found e ∙ ap Some own)

found_as : (x : Predeclared) (own name : List ℕ) → predeclared_named own ≡ Some x → Some own ≡ Some name → predeclared_named name ≡ Some x
found_as x own name h e = let same : own ≡ name = cc in subst (λ n. predeclared_named n ≡ Some x) same h

pub each_name : EachNameIsFound
unfolding predeclared_named place_from first_named
each_name p.None name h = found_as p.None (codes "None") name refl h
each_name p.True name h = found_as p.True (codes "True") name refl h
each_name p.False name h = found_as p.False (codes "False") name refl h
each_name (p.BuiltIn place) name h = built_in_found place name h
each_name (p.Host host.Glob) name h = found_as (p.Host host.Glob) (codes "glob") name refl h
each_name (p.Host host.PackageName) name h = found_as (p.Host host.PackageName) (codes "package_name") name refl h
each_name (p.Host host.Package) name h = found_as (p.Host host.Package) (codes "package") name refl h
each_name (p.Host host.Licenses) name h = found_as (p.Host host.Licenses) (codes "licenses") name refl h
each_name (p.Host host.ExportsFiles) name h = found_as (p.Host host.ExportsFiles) (codes "exports_files") name refl h
each_name (p.Host host.PackageGroup) name h = found_as (p.Host host.PackageGroup) (codes "package_group") name refl h
each_name (p.Host (host.Rule place)) name h = cc
each_name (p.RuleFunction f) name h = cc
