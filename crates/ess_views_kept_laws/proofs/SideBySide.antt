-- Tables of two parts side by side: their names, what they are over, and what they stand for.
use Rattle.std.proofs.Common.{◌≡◌, refl, sym, ap, ◌∙◌, subst, ℕ, zero, suc, true, false, ◌&&◌, List, [], ◌∷◌, ◌++◌, map, take, drop, length, ℤ, Option, Some, None, option_map}
use Rattle.std.proofs.lemmas.List.{map-append}
use Rattle.ess_semantics.specs.Lists.{and_then}
use Rattle.ess_semantics.specs.Values.{Text, Value}
use Rattle.ess_semantics.specs.Trees.{Repr}
use Rattle.ess_semantics.specs.Domains.{Domain, Domains, more_domains, no_domains}
use Rattle.ess_semantics.specs.Tables.{Tables, same_axes, is_filled}
use Rattle.ess_semantics.specs.Cells.{Axes}
use Rattle.ess_semantics.specs.Representations.{width}
use Rattle.ess_semantics.specs.Declarations.{Declaration, under, declarations_below, axes_of}
use Rattle.ess_semantics.specs.Tidy.{over_axes}
use Rattle.ess_semantics.specs.Meaning.{Env, tables_in}
use Rattle.ess_semantics.proofs.Tests.{and-left, and-right, and-both}
use Rattle.ess_repr_laws.specs.Rooms.{Covered}
use Rattle.ess_repr_laws.proofs.CellDomains.{axes-wide}
use Rattle.ess_repr_laws.proofs.StructureTuples.{under-none}
use Rattle.ess_rules_laws.proofs.FunctionViewParts.{tables-split}

-- ---- names

-- The first tables have the first names.
pub tables-take : (n : ℕ) (ns : List Text) (env : Env) (ts : Tables) → tables_in env.cells ns ≡ Some ts →
    tables_in env.cells (take n ns) ≡ Some (take n ts)
tables-take zero ns env ts q = refl
tables-take (suc n) [] env ts q = let e : [] ≡ ts = cc in ap (λ l. Some (take (suc n) l)) e
tables-take (suc n) (m ∷ ns) env ts q = let s = tables-split m ns env ts q in
    ap (λ o. and_then o (λ x. option_map (λ xs. x ∷ xs) (tables_in env.cells (take n ns)))) s.2
    ∙ ap (option_map (λ xs. s.0 ∷ xs)) (tables-take n ns env s.1 s.3)
    ∙ ap (λ l. Some (take (suc n) l)) (sym s.4)

-- The others have the others.
pub tables-drop : (n : ℕ) (ns : List Text) (env : Env) (ts : Tables) → tables_in env.cells ns ≡ Some ts →
    tables_in env.cells (drop n ns) ≡ Some (drop n ts)
tables-drop zero ns env ts q = q
tables-drop (suc n) [] env ts q = let e : [] ≡ ts = cc in ap (λ l. Some (drop (suc n) l)) e
tables-drop (suc n) (m ∷ ns) env ts q = let s = tables-split m ns env ts q in
    tables-drop n ns env s.1 s.3 ∙ ap (λ l. Some (drop (suc n) l)) (sym s.4)

-- ---- axes

over-split : (i : List ℤ) (ass bss : List Axes) (ts : Tables) → over_axes i (ass ++ bss) ts ≡ true →
    (over_axes i ass (take (length ass) ts) ≡ true) × (over_axes i bss (drop (length ass) ts) ≡ true)
over-split i [] bss ts h = (refl, h)
over-split i (a ∷ ass) bss [] h = cc
over-split i (a ∷ ass) bss (t ∷ ts) h = let x = over-split i ass bss ts (and-right _ _ h) in
    (and-both (is_filled t && same_axes (drop (length i) t.axes) a) (over_axes i ass (take (length ass) ts)) (and-left _ _ h) x.0, x.1)

-- The first child's tables are over its axes, and the others over theirs.
pub child-over : (r : Repr) (d : Domain) (bs : List Declaration) (i : List ℤ) (ts : Tables) → Covered r d →
    over_axes i (map (λ t. t.axes) (under [] (declarations_below false r d) ++ bs)) ts ≡ true →
    (over_axes i (axes_of r d) (take (width r) ts) ≡ true) × (over_axes i (map (λ t. t.axes) bs) (drop (width r) ts) ≡ true)
child-over r d bs i ts c h =
    subst (λ n. (over_axes i (axes_of r d) (take n ts) ≡ true) × (over_axes i (map (λ t. t.axes) bs) (drop n ts) ≡ true))
    (axes-wide r d c)
    (over-split i (axes_of r d) (map (λ t. t.axes) bs) ts
    (ap (λ z. over_axes i z ts) (sym (map-append (λ (t : Declaration). t.axes) (declarations_below false r d) bs)
    ∙ ap (λ l. map (λ t. t.axes) (l ++ bs)) (sym (under-none (declarations_below false r d)))) ∙ h))

-- ---- parts that are there

-- A list of domains that is there.
pub domains-split : (o : Option Domain) (p : Option Domains) (d : Domain) (ds : Domains) →
    and_then o (λ x. option_map (more_domains x) p) ≡ Some (more_domains d ds) → (o ≡ Some d) × (p ≡ Some ds)
domains-split None p d ds q = cc
domains-split (Some x) None d ds q = cc
domains-split (Some x) (Some xs) d ds q = (ap Some (let e : x ≡ d = cc in e), ap Some (let e : xs ≡ ds = cc in e))

-- It isn't empty.
pub domains-some : {A : Type 0} (o : Option Domain) (p : Option Domains) →
    and_then o (λ x. option_map (more_domains x) p) ≡ Some no_domains → A
domains-some None p q = cc
domains-some (Some x) None q = cc
domains-some (Some x) (Some xs) q = cc

-- Values of children at one place.
pub values-split : (o : Option Value) (p : Option (List (List Value))) (vss : List (List Value)) →
    and_then (and_then o (λ y. Some (y ∷ []))) (λ vs. option_map (λ uss. vs ∷ uss) p) ≡ Some vss →
    (v : Value) × (uss : List (List Value)) × (o ≡ Some v) × (p ≡ Some uss) × (vss ≡ (v ∷ []) ∷ uss)
values-split None p vss q = cc
values-split (Some v) None vss q = cc
values-split (Some v) (Some uss) vss q = (v, uss, refl, refl, sym (let e : (v ∷ []) ∷ uss ≡ vss = cc in e))

-- What is made of something is there where that is.
pub made-of : {A : Type 0} (o : Option A) (f : A → Value) (w : Value) → and_then o (λ x. Some (f x)) ≡ Some w →
    (x : A) × (o ≡ Some x) × (f x ≡ w)
made-of None f w q = cc
made-of (Some x) f w q = (x, refl, let e : f x ≡ w = cc in e)
