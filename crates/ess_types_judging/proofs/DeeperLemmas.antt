-- How bound names come and go, and generators one after another.
use Rattle.std.proofs.Common.{◌≡◌, refl, sym, ap, ◌∙◌, ℕ, ◌+◌, ◌<◌, ◌≤◌, List, [], ◌∷◌, map, drop, take, length, get_or}
use Rattle.std.proofs.lemmas.List.{at_drop_more, at_drop_all}
use Rattle.ess_core.specs.TreeViews.{Item, over_item, from_item, cond_item, gens_of, pure_gen}
use Rattle.ess_core.specs.declared.expressions.Gen.{Gen}
use Rattle.ess_types_names.proofs.Tables.{extends_itself, extends_on}
use Rattle.ess_types_judging.specs.declared.scope.Scope.{Scope}
use Rattle.ess_types_judging.specs.ScopeViews.{Deeper}
use Rattle.ess_types_judging.specs.Judging.{gathered_one}
use Rattle.ess_types_judging_laws.specs.Combined.{Gathered, gathered}

pub take_all : {A : Type 0} (xs : List A) → take (length xs) xs ≡ xs
take_all [] = refl
take_all (x ∷ xs) = ap (λ l. x ∷ l) (take_all xs)

-- A scope has what it has.
pub deeper_itself : (s : Scope) → Deeper s s
deeper_itself s =
    record {
      table = extends_itself s.table;
      bound = take_all s.bound;
      lettings = refl;
      enums = refl;
      unnamed = refl;
      finds = refl;
      objective = refl;
    }

-- The first of the first are the first.
prefix-on : {A : Type 0} (xs ys zs : List A) → take (length xs) ys ≡ xs → take (length ys) zs ≡ ys → take (length xs) zs ≡ xs
prefix-on [] ys zs h k = refl
prefix-on (x ∷ xs) [] zs h k = cc
prefix-on (x ∷ xs) (y ∷ ys) [] h k = cc
prefix-on (x ∷ xs) (y ∷ ys) (z ∷ zs) h k =
    let e : x ≡ y = cc in
    let f : y ≡ z = cc in
    let g : take (length xs) ys ≡ xs = cc in
    let i : take (length ys) zs ≡ ys = cc in
    let j : take (length xs) zs ≡ xs = prefix-on xs ys zs g i in
    cc

-- What is deeper than a deeper scope is deeper.
pub deeper_on : (s t u : Scope) → Deeper s t → Deeper t u → Deeper s u
deeper_on s t u d e =
    record {
      table = extends_on s.table t.table u.table d.table e.table;
      bound = prefix-on s.bound t.bound u.bound d.bound e.bound;
      lettings = e.lettings ∙ d.lettings;
      enums = e.enums ∙ d.enums;
      unnamed = e.unnamed ∙ d.unnamed;
      finds = e.finds ∙ d.finds;
      objective = e.objective ∙ d.objective;
    }

-- ---- generators

-- What is gathered of a row of generators.
abbrev pub on_gens : List Gen → Gathered → Gathered
on_gens gs a = gathered (gens_of (map pure_gen gs)) a

one-gathered : (x : Item) (xs : List Item) (a : Gathered) → gathered (gens_of (x ∷ xs)) a ≡ gathered (gens_of xs) (gathered_one x a)
one-gathered (over_item p d) xs a = refl
one-gathered (from_item p e) xs a = refl
one-gathered (cond_item e) xs a = refl

pub gens_more : (gs : List Gen) (a b : Gathered) (i : ℕ) (g : Gen) → i < length gs → g ≡ get_or gs i g → b ≡ gathered_one (pure_gen g) a →
    on_gens (drop i gs) a ≡ on_gens (drop (i + 1) gs) b
gens_more gs a b i g h is q =
    at_drop_more (λ l. on_gens l a) gs i g h ∙ ap (λ x. on_gens (x ∷ drop (i + 1) gs) a) (sym is)
    ∙ one-gathered (pure_gen g) (map pure_gen (drop (i + 1) gs)) a ∙ ap (on_gens (drop (i + 1) gs)) (sym q)

pub gens_all : (gs : List Gen) (a : Gathered) (i : ℕ) → length gs ≤ i → on_gens (drop i gs) a ≡ a
gens_all gs a i h = at_drop_all (λ l. on_gens l a) gs i h
