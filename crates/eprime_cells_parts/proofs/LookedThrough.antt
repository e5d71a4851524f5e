-- Names of lettings and declarations, one after the other.
use Rattle.std.proofs.Common.{◌≡◌, refl, sym, ap, ◌∙◌, ℕ, ◌+◌, ◌<◌, ◌≤◌, Bool, true, false, not, ◌&&◌, ◌||◌, if◌then◌else◌, List, [], ◌∷◌, ◌++◌, map, length, get_or, take, drop, Option, Some, None}
use Rattle.std.proofs.lemmas.List.{take_more, map-append}
use Rattle.ess_semantics.specs.Values.{Text}
use Rattle.ess_semantics.specs.Order.{same_text}
use Rattle.ess_semantics.specs.Names.{keys, is_among, without}
use Rattle.ess_semantics.proofs.Texts.{same_text-equal}
use Rattle.eprime_tree.specs.declared.models.PDecl.{PDecl}
use Rattle.eprime_cells_parts.proofs.WhatIsLeft.{left-more, left-none}
use Rattle.eprime_cells_laws.specs.TableReading.{first_extra}
use Rattle.eprime_cells_machine.specs.declared.values.CellLetting.{CellLetting}
use Rattle.eprime_cells_machine.specs.ValueViews.{pure_lettings}
use Rattle.eprime_cells_parts.specs.DeclaredNames.{declared_names, missing_of}

-- ---- names that are left

-- The names but those of the first list, the first of them first.
abbrev pub removed : List Text → List Text → List Text
removed [] left = left
removed (p ∷ ps) left = removed ps (without p left)

removed-push : (ps : List Text) (a : Text) (left : List Text) → removed (ps ++ a ∷ []) left ≡ without a (removed ps left)
removed-push [] a left = refl
removed-push (p ∷ ps) a left = removed-push ps a (without p left)

both-ways : (s A : Bool) → A && not s ≡ (s || A) && not s
both-ways true true = refl
both-ways true false = refl
both-ways false A = refl

among-without : (x : Text) (ns : List Text) (a : Text) → is_among (without x ns) a ≡ is_among ns a && not (same_text x a)
among-without x [] a = refl
among-without x (n ∷ ns) a = step (same_text n x) refl (among-without x ns a)
  where
    kept : (b c : Bool) → same_text n a ≡ b → same_text n x ≡ false → is_among (without x ns) a ≡ is_among ns a && not c → same_text x a ≡ c → b || is_among (without x ns) a ≡ (b || is_among ns a) && not c
    kept true true h i k e = let y : same_text n x ≡ true = ap (λ m. same_text n m) (same_text-equal x a e) ∙ h in cc
    kept true false h i k e = refl
    kept false c h i k e = k

    gone : (c : Bool) → same_text n a ≡ c → is_among (without x ns) a ≡ is_among ns a && not c → is_among (without x ns) a ≡ (c || is_among ns a) && not c
    gone c h k = k ∙ both-ways c (is_among ns a)

    step : (b : Bool) → same_text n x ≡ b → is_among (without x ns) a ≡ is_among ns a && not (same_text x a) →
        is_among (if not b then n ∷ without x ns else without x ns) a ≡ (same_text n a || is_among ns a) && not (same_text x a)
    step true h k =
        let y : same_text n a ≡ same_text x a = ap (λ m. same_text m a) (same_text-equal n x h) in
        ap (λ c. is_among (without x ns) a) h ∙ k ∙ both-ways (same_text x a) (is_among ns a) ∙ ap (λ c. (c || is_among ns a) && not (same_text x a)) (sym y)
    step false h k = kept (same_text n a) (same_text x a) refl h k refl

split-not : (L s P : Bool) → (L && not s) && not P ≡ L && not (s || P)
split-not true true P = refl
split-not true false P = refl
split-not false s P = refl

and-true : (b : Bool) → b ≡ b && true
and-true true = refl
and-true false = refl

among-removed : (ps left : List Text) (a : Text) → is_among (removed ps left) a ≡ is_among left a && not (is_among ps a)
among-removed [] left a = and-true (is_among left a)
among-removed (p ∷ ps) left a =
    among-removed ps (without p left) a
    ∙ ap (λ b. b && not (is_among ps a)) (among-without p left a)
    ∙ split-not (is_among left a) (same_text p a) (is_among ps a)

-- ---- lettings

-- The names of lettings.
abbrev pub names_of : List CellLetting → List Text
names_of ls = map (λ l. l.name) ls

pub keys-names : (ls : List CellLetting) → keys (pure_lettings ls) ≡ names_of ls
keys-names [] = refl
keys-names (l ∷ ls) = ap (λ ns. l.name ∷ ns) (keys-names ls)

-- What is left to look through behind the first i lettings.
abbrev pub Looked : List Text → List CellLetting → ℕ → Type 0
Looked dns ls i = first_extra dns (keys (pure_lettings ls)) ≡ first_extra (removed (names_of (take i ls)) dns) (names_of (drop i ls))

pub looked_none : (dns : List Text) (ls : List CellLetting) → Looked dns ls 0
looked_none dns ls = ap (first_extra dns) (keys-names ls)

next-extra : (dns : List Text) (ls : List CellLetting) (i : ℕ) (l : CellLetting) → Looked dns ls i → i < length ls → l ≡ get_or ls i l →
    first_extra dns (keys (pure_lettings ls)) ≡ (if is_among dns l.name && not (is_among (names_of (take i ls)) l.name) then first_extra (without l.name (removed (names_of (take i ls)) dns)) (names_of (drop (i + 1) ls)) else Some l.name)
next-extra dns ls i l k lt is =
    k ∙ ap (λ us. first_extra (removed (names_of (take i ls)) dns) (names_of us)) (left-more ls i l lt is)
    ∙ ap (λ b. if b then first_extra (without l.name (removed (names_of (take i ls)) dns)) (names_of (drop (i + 1) ls)) else Some l.name) (among-removed (names_of (take i ls)) dns l.name)

-- A letting of a declared name that no earlier one has.
pub looked_more : (dns : List Text) (ls : List CellLetting) (i : ℕ) (l : CellLetting) → Looked dns ls i → i < length ls → l ≡ get_or ls i l → is_among dns l.name ≡ true →
    is_among (keys (pure_lettings (take i ls))) l.name ≡ false → Looked dns ls (i + 1)
looked_more dns ls i l k lt is d e =
    next-extra dns ls i l k lt is
    ∙ ap (λ b. if b && not (is_among (names_of (take i ls)) l.name) then after else Some l.name) d
    ∙ ap (λ b. if not b then after else Some l.name) (ap (λ ns. is_among ns l.name) (sym (keys-names (take i ls))) ∙ e)
    ∙ ap (λ ns. first_extra ns (names_of (drop (i + 1) ls))) (sym (ap (λ us. removed (names_of us) dns) (take_more ls i l lt ∙ ap (λ x. take i ls ++ x ∷ []) (sym is)) ∙ ap (λ ns. removed ns dns) (map-append (λ l. l.name) (take i ls) (l ∷ [])) ∙ removed-push (names_of (take i ls)) l.name dns))
  where
    after : Option Text
    after = first_extra (without l.name (removed (names_of (take i ls)) dns)) (names_of (drop (i + 1) ls))

-- A letting of another name,
pub looked_undeclared : (dns : List Text) (ls : List CellLetting) (i : ℕ) (l : CellLetting) → Looked dns ls i → i < length ls → l ≡ get_or ls i l → is_among dns l.name ≡ false →
    first_extra dns (keys (pure_lettings ls)) ≡ Some l.name
looked_undeclared dns ls i l k lt is d =
    next-extra dns ls i l k lt is
    ∙ ap (λ b. if b && not (is_among (names_of (take i ls)) l.name) then first_extra (without l.name (removed (names_of (take i ls)) dns)) (names_of (drop (i + 1) ls)) else Some l.name) d

and-false : (b : Bool) → b && false ≡ false
and-false true = refl
and-false false = refl

-- and one of a name that an earlier one has.
pub looked_twice : (dns : List Text) (ls : List CellLetting) (i : ℕ) (l : CellLetting) → Looked dns ls i → i < length ls → l ≡ get_or ls i l → is_among (keys (pure_lettings (take i ls))) l.name ≡ true →
    first_extra dns (keys (pure_lettings ls)) ≡ Some l.name
looked_twice dns ls i l k lt is e =
    next-extra dns ls i l k lt is
    ∙ ap (λ b. if is_among dns l.name && not b then first_extra (without l.name (removed (names_of (take i ls)) dns)) (names_of (drop (i + 1) ls)) else Some l.name) (ap (λ ns. is_among ns l.name) (sym (keys-names (take i ls))) ∙ e)
    ∙ ap (λ b. if b then first_extra (without l.name (removed (names_of (take i ls)) dns)) (names_of (drop (i + 1) ls)) else Some l.name) (and-false (is_among dns l.name))

pub looked_all : (dns : List Text) (ls : List CellLetting) (i : ℕ) → Looked dns ls i → length ls ≤ i → first_extra dns (keys (pure_lettings ls)) ≡ None
looked_all dns ls i k le = k ∙ ap (λ us. first_extra (removed (names_of (take i ls)) dns) (names_of us)) (left-none ls i le)

-- ---- declarations without a letting

abbrev pub Sought : List Text → List PDecl → ℕ → Type 0
Sought ns ds i = missing_of (declared_names ds) ns ≡ missing_of (declared_names (drop i ds)) ns

pub sought_more : (ns : List Text) (ds : List PDecl) (i : ℕ) (d : PDecl) → Sought ns ds i → i < length ds → d ≡ get_or ds i d → is_among ns d.name ≡ true → Sought ns ds (i + 1)
sought_more ns ds i d k lt is h =
    k ∙ ap (λ us. missing_of (declared_names us) ns) (left-more ds i d lt is) ∙ ap (λ b. if b then missing_of (declared_names (drop (i + 1) ds)) ns else Some d.name) h

pub sought_found : (ns : List Text) (ds : List PDecl) (i : ℕ) (d : PDecl) → Sought ns ds i → i < length ds → d ≡ get_or ds i d → is_among ns d.name ≡ false → missing_of (declared_names ds) ns ≡ Some d.name
sought_found ns ds i d k lt is h =
    k ∙ ap (λ us. missing_of (declared_names us) ns) (left-more ds i d lt is) ∙ ap (λ b. if b then missing_of (declared_names (drop (i + 1) ds)) ns else Some d.name) h

pub sought_all : (ns : List Text) (ds : List PDecl) (i : ℕ) → Sought ns ds i → length ds ≤ i → missing_of (declared_names ds) ns ≡ None
sought_all ns ds i k le = k ∙ ap (λ us. missing_of (declared_names us) ns) (left-none ds i le)
