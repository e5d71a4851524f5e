-- Domains of scalars: to what they are closed, and that tables which fit are canonical.
use Rattle.std.proofs.Common.{◌≡◌, refl, subst, suc, Bool, true, false, ◌&&◌, nat_eq, List, [], ◌∷◌, length, ℤ, Option, Some, None, option_map, arith}
use Rattle.std.specs.List.{list_all}
use Rattle.std.proofs.lemmas.Bool.{eqb-true}
use Rattle.ess_semantics.specs.declared.words.ReprKind.{ReprKind}
use Rattle.ess_semantics.specs.Lists.{is_some_and}
use Rattle.ess_semantics.specs.Values.{Text}
use Rattle.ess_semantics.specs.Trees.{Repr, repr, no_reprs, Dom, bool_dom, int_dom}
use Rattle.ess_semantics.specs.Domains.{Span, Domain, booleans, integers}
use Rattle.ess_semantics.specs.Tables.{Table, Tables, is_filled, same_axes, cell_at, item_in, is_cell}
use Rattle.ess_semantics.specs.Cells.{cells_of}
use Rattle.ess_semantics.specs.Declarations.{declarations}
use Rattle.ess_semantics.specs.CanonicalTest.{canonical}
use Rattle.ess_semantics.specs.Meaning.{Env, meanings, spans_of, domain_of, is_bool_dom}
use Rattle.ess_semantics.specs.Positions.{domain_with_positions}
use Rattle.ess_semantics.proofs.Tests.{and-left, and-right}
use Rattle.conjure_laws.specs.Premises.{table_is, tables_are, RepresentationFits}
use Rattle.ess_flat_models_laws.specs.FlatSpecifications.{is_scalar_dom}

-- The representation of a scalar.
abbrev pub Atom : Repr
Atom = repr ReprKind.Atom no_reprs

no : false ≡ true → ⊥
no e = cc

-- ---- closed domains

-- Whether it is the domain of truth values, or one of numbers.
abbrev pub is_shape : Dom → Bool
is_shape bool_dom = true
is_shape (int_dom rs es) = true
is_shape d = false

pub shape-of : (g : Text → Option Bool) (d : Dom) → is_scalar_dom g d ≡ true → is_shape d ≡ true
shape-of g bool_dom h = refl
shape-of g (int_dom rs es) h = refl
shape-of g d h = absurd (no h)

-- Its form tells whether it is bool.
pub data Scalar : Domain → Bool → Type 0 where
  of_truths : Scalar booleans true
  of_numbers : {ss : List Span} → Scalar (integers ss) false

integers-are : (o : Option (List Span)) (e : Domain) → option_map integers o ≡ Some e → Scalar e false
integers-are None e q = cc
integers-are (Some ss) e q = let z : integers ss ≡ e = cc in subst (λ e. Scalar e false) z of_numbers

-- What a scalar's domain is closed to.
pub closed-scalar : (d : Dom) (env : Env) (e : Domain) → is_shape d ≡ true → domain_of d env ≡ Some e → Scalar e (is_bool_dom d)
closed-scalar bool_dom env e h q = let z : booleans ≡ e = cc in subst (λ e. Scalar e true) z of_truths
closed-scalar (int_dom rs es) env e h q = integers-are (spans_of rs (meanings es env)) e q
closed-scalar d env e h q = absurd (no h)

-- It has no position.
pub closed-plain : {e : Domain} {b : Bool} → Scalar e b → domain_with_positions e ≡ e
closed-plain of_truths = refl
closed-plain of_numbers = refl

-- A representation as an atom fits.
pub atom-fits : (e : Domain) (b : Bool) → Scalar e b → RepresentationFits Atom e
atom-fits e b of_truths = record { typed = tt; roomy = tt }
atom-fits e b of_numbers = record { typed = tt; roomy = tt }

-- There is one table.
pub one-table : (e : Domain) (b : Bool) → Scalar e b → length (declarations Atom (domain_with_positions e)) ≡ 1
one-table e b of_truths = refl
one-table e b of_numbers = refl

-- ---- canonical tables

only-item : (xs : List ℤ) → nat_eq (length xs) 1 ≡ true → (f : ℤ → Bool) → list_all f xs ≡ true → is_some_and (item_in [] xs []) f ≡ true
only-item [] h f a = cc
only-item (x ∷ []) h f a = and-left (f x) true a
only-item (x ∷ y ∷ xs) h f a = let z : suc (suc (length xs)) ≡ 1 = eqb-true (suc (suc (length xs))) 1 h in absurd (omega (arith, z))

-- The cell of a table that fits a declaration without axes lies in its domain.
pub cell-fits : (e : Domain) (t : Table) → table_is (record { axes = []; cell = e }) t ≡ true → is_some_and (cell_at t [])
    (is_cell e) ≡ true
cell-fits e t h =
    let f : Bool = is_filled t in
    let s : Bool = same_axes [] t.axes in
    let g : Bool = list_all (is_cell e) t.items in
    go t.axes t.items (and-left f s (and-left (f && s) g h)) (and-right f s (and-left (f && s) g h)) (and-right (f && s) g h)
  where
    go : (as' : List (List ℤ)) (xs : List ℤ) → is_filled (record { axes = as'; items = xs }) ≡ true → same_axes [] as' ≡ true →
        list_all (is_cell e) xs ≡ true → is_some_and (item_in as' xs []) (is_cell e) ≡ true
    go [] xs f s a = only-item xs f (is_cell e) a
    go (x ∷ as') xs f s a = cc

four-true : (b : Bool) → b ≡ true → (((b && true) && true) && true) && true ≡ true
four-true true h = refl
four-true false h = cc

-- Tables that fit the declarations of an atom are canonical.
pub atom-canonical : (e : Domain) (b : Bool) → Scalar e b → (ts : Tables) → tables_are (declarations Atom e) ts ≡ true →
    canonical Atom e (cells_of ts) ≡ true
atom-canonical e b of_truths [] h = cc
atom-canonical e b of_truths (t ∷ []) h =
    four-true (is_some_and (cell_at t []) (is_cell booleans)) (cell-fits booleans t
    (and-left (table_is (record { axes = []; cell = booleans }) t) true h))
atom-canonical e b of_truths (t ∷ u ∷ ts) h =
    let z = and-right (table_is (record { axes = []; cell = booleans }) t) false h in cc
atom-canonical e b (of_numbers {ss = ss}) [] h = cc
atom-canonical e b (of_numbers {ss = ss}) (t ∷ []) h =
    four-true (is_some_and (cell_at t []) (is_cell (integers ss)))
    (cell-fits (integers ss) t (and-left (table_is (record { axes = []; cell = integers ss }) t) true h))
atom-canonical e b (of_numbers {ss = ss}) (t ∷ u ∷ ts) h =
    let z = and-right (table_is (record { axes = []; cell = integers ss }) t) false h in cc
