-- Structures of nested sets, told apart, are bare, mean that tables are canonical, and have values.
use Rattle.std.proofs.Common.{◌≡◌, refl, sym, ap, subst, ◌∙◌, ℕ, ◌+◌, ◌*◌, ◌≤◌, ◌^◌, Bool, true, false, ◌||◌, List, [], ◌∷◌, ℤ, pos, Option, Some, arith}
use Rattle.std.specs.List.{list_all, list_any}
use Rattle.ess_semantics.specs.Values.{Text, truth}
use Rattle.ess_semantics.specs.Order.{same_int}
use Rattle.ess_semantics.specs.Trees.{Repr, Ex, no_exs, Dom}
use Rattle.ess_semantics.specs.Domains.{Domain}
use Rattle.ess_semantics.specs.Tables.{Tables}
use Rattle.ess_semantics.specs.Cells.{cells_of}
use Rattle.ess_semantics.specs.CanonicalTest.{canonical}
use Rattle.ess_semantics.specs.Meaning.{Env, meaning}
use Rattle.ess_semantics.specs.Scoped.{Scoped}
use Rattle.ess_semantics.specs.Totality.{Total}
use Rattle.ess_semantics.specs.Full.{Full}
use Rattle.ess_semantics.specs.Occurrences.{parts_of}
use Rattle.ess_semantics.specs.Constants.{tree_constants, dom_constants}
use Rattle.ess_semantics.proofs.Tests.{and-left, and-right, and-both}
use Rattle.ess_semantics.proofs.Orders.{same_int-equal}
use Rattle.ess_repr_laws.specs.Structure.{structure}
use Rattle.ess_repr_laws.specs.StructureMeaning.{FoundBy}
use Rattle.ess_repr_declare_laws.specs.SizeTerms.{size_terms}
use Rattle.ess_repr_structure_laws.specs.Laws.{JudgedView}
use Rattle.ess_repr_structure_laws.proofs.JudgedViews.{judged-structures}
use Rattle.ess_repr_structure_laws.proofs.FullViews.{views-full}
use Rattle.ess_repr_structure_laws.proofs.TotalViews.{structures-total}
use Rattle.ess_repr_structure_laws.proofs.ConstantViews.{structures-spell}
use Rattle.ess_values_along_laws.specs.Valued.{Valued}
use Rattle.conjure_model_laws.specs.ToldApart.{reserved, told, told_apart}
use Rattle.conjure_model_laws.specs.Printed.{binders}
use Rattle.conjure_model_laws.proofs.ToldLaws.{reserved-differ}
use Rattle.ess_told_over_laws.specs.ToldOverTables.{IsScopedBelow, ToldTreesKeep}
use Rattle.ess_told_over_laws.proofs.ToldMeets.{told-trees-keep}
use Rattle.ess_bare_laws.specs.Bare.{Bare}
use Rattle.ess_nested_laws.proofs.NestedForms.{NestedSet, KeptAs, nested-form, kept-form}
use Rattle.ess_nested_laws.proofs.NestedDenoted.{written_domain, nested-denoted}
use Rattle.ess_bare_structures_laws.specs.Laws.{structure_from, TablesFound, IsNestedView, StructureIsBare, NestedStructuresAreBare, none}
use Rattle.ess_bare_structures_laws.proofs.BareParts.{Fine}
use Rattle.ess_bare_structures_laws.proofs.BareLevels.{held-none}
use Rattle.ess_bare_structures_laws.proofs.BareStructures.{structure-fine}
use Rattle.ess_bare_structures_laws.proofs.MarkedShapes.{shapes-fine}
use Rattle.ess_bare_structures_laws.proofs.SpreadNames.{spread, spread-low, spread-apart}
use Rattle.ess_bare_structures_laws.proofs.LevelsAlike.{layers, structure-same}
use Rattle.ess_bare_structures_laws.proofs.ToldBare.{told-bare-apart}
use Rattle.ess_bare_structures_laws.proofs.ToldCounts.{Counted, told-counted, numbers_in, told-spells}
use Rattle.ess_bare_structures_laws.proofs.ToldValues.{told-values}
use Rattle.ess_bare_structures_laws.proofs.RangedValues.{ranged-values}
use Rattle.ess_bare_structures_laws.proofs.FewBinders.{structure-few}
use Rattle.ess_bare_structures_laws.proofs.NestedDepths.{NestedAt, nested-at, layers-low, few-sizes, nested-orderly}
use Rattle.ess_bare_structures_laws.proofs.NestedViews.{nested-total, nested-plain, nested-view, nested-denoted-view, tables-found}

-- ---- numbers

same-is : (p : ℤ → Bool) (n : ℤ) (ms : List ℤ) → list_any (same_int n) ms ≡ true → list_all p ms ≡ true → p n ≡ true
same-is p n [] h k = cc
same-is p n (m ∷ ms) h k = go (same_int n m) refl h (λ i. same-is p n ms i (and-right (p m) (list_all p ms) k))
  where
    go : (b : Bool) → same_int n m ≡ b → b || list_any (same_int n) ms ≡ true → (list_any (same_int n) ms ≡ true → p n ≡ true) → p n ≡ true
    go true e i f = ap p (same_int-equal n m e) ∙ and-left (p m) (list_all p ms) k
    go false e i f = f i

-- Numbers among others are such as these are.
among-such : (p : ℤ → Bool) (ns ms : List ℤ) → list_all (λ n. list_any (same_int n) ms) ns ≡ true → list_all p ms ≡ true →
    list_all p ns ≡ true
among-such p [] ms h k = refl
among-such p (n ∷ ns) ms h k =
    and-both (p n) (list_all p ns)
    (same-is p n ms (and-left (list_any (same_int n) ms) (list_all (λ n. list_any (same_int n) ms) ns) h) k)
    (among-such p ns ms (and-right (list_any (same_int n) ms) (list_all (λ n. list_any (same_int n) ms) ns) h) k)

-- ---- one view

module _ (cells : Text → Option (Bool × ℕ)) (r : Repr) (d : Dom) (ns : List Text) (n : ℕ) (v : IsNestedView cells r d ns n) where
  form : NestedSet d
  form = nested-form 250 d v.nested

  at : NestedAt 250 d
  at = nested-at 250 d v.nested

  kept : KeptAs r d
  kept = kept-form 250 r d v.nested v.fit

  low : layers r ≤ 251
  low = layers-low 250 kept at

  -- The structure with names that differ everywhere.
  abbrev tree : Ex
  tree = structure spread size_terms r d ns n no_exs

  same : tree ≡ structure_from r d ns n
  same = structure-same spread reserved (2 ^ 64) spread-low kept ns n no_exs (below n (layers r) v.low low)
    where
      below : (a b : ℕ) → a ≤ 2 ^ 62 → b ≤ 251 → a + b ≤ 2 ^ 64
      below a b h k = omega (arith, h, k)

  fine : Fine cells [] tree true
  fine = structure-fine cells spread spread-apart kept ns n 0 [] no_exs (shapes-fine cells spread spread-apart kept ns v.named v.marked)
      (λ j h. refl) (held-none cells spread spread-apart n [])

  counted : Counted (binders tree) (binders (told tree [] n).0) (told tree [] n).1 n
  counted = told-counted tree fine.ranged [] n

  few-tree : binders tree ≤ 2 ^ 27
  few-tree = below (binders tree) (layers r) (structure-few cells spread spread-apart kept (few-sizes 250 at) ns n no_exs low refl) low
    where
      below : (a b : ℕ) → a ≤ 315010 * b → b ≤ 251 → a ≤ 2 ^ 27
      below a b h k = omega (arith, h, k)

  few-told : binders (told_apart n tree) ≤ 2 ^ 27
  few-told = below (binders (told_apart n tree)) (binders tree) counted.same few-tree
    where
      below : (a b : ℕ) → a ≡ b → b ≤ 2 ^ 27 → a ≤ 2 ^ 27
      below a b e h = omega (arith, e, h)

  next-told : (told tree [] n).1 ≤ n + 2 ^ 27
  next-told = below (told tree [] n).1 (binders tree) counted.next few-tree
    where
      below : (a b : ℕ) → a ≡ n + b → b ≤ 2 ^ 27 → a ≤ n + 2 ^ 27
      below a b e h = omega (arith, e, h)

  bound : (told tree [] n).1 ≤ 2 ^ 64
  bound = below (told tree [] n).1 next-told v.low
    where
      below : (a : ℕ) → a ≤ n + 2 ^ 27 → n ≤ 2 ^ 62 → a ≤ 2 ^ 64
      below a e h = omega (arith, e, h)

  scoped-below : IsScopedBelow none none none n tree
  scoped-below = record { scoped = fine.scoped; around = λ c t. t; within = λ c t. t; spared = λ j h k. refl }

  keep : ToldTreesKeep
  keep = told-trees-keep

  spells-tree : (p : ℤ → Bool) → p (pos 0) ≡ true → p (pos 1) ≡ true → p (pos 2) ≡ true → list_all p (dom_constants d) ≡ true →
      list_all p (numbers_in (parts_of (told_apart n tree))) ≡ true
  spells-tree p zero one two h =
      ap (list_all p) (told-spells tree fine.ranged false [] n)
      ∙ among-such p (tree_constants false tree) (pos 0 ∷ pos 1 ∷ pos 2 ∷ dom_constants d) (structures-spell.own spread r d ns n)
      (and-both (p (pos 0)) _ zero (and-both (p (pos 1)) _ one (and-both (p (pos 2)) _ two h)))

  -- ---- over tables

  module _ (env : Env) (e : Domain) (ts : Tables) (t : TablesFound env r d ns e ts) where
    denoted : Some (written_domain d) ≡ Some e
    denoted = sym (nested-denoted form env) ∙ t.denotes

    is : written_domain d ≡ e
    is = let h = denoted in cc

    view : JudgedView env spread r d e
    view = subst (λ x. JudgedView env spread r d x) is (nested-view env spread r form (nested-orderly 250 at) v.fit)

    found : FoundBy env spread spread-apart ns ts
    found = tables-found env spread spread-apart ns ts t.named

    means-told : meaning (told_apart n tree) env ≡ Some (truth (canonical r e (cells_of ts)))
    means-told =
        keep.means none none none n tree scoped-below bound env
        ∙ judged-structures env spread spread-apart r d e view ns ts n [] v.named found t.over t.fit

    full : Full tree [] env
    full = (views-full.own env spread spread-apart r d e view (nested-plain form) ns ts n [] v.named found t.over t.fit []).1

    total : Total tree env
    total =
        let w = nested-denoted-view env spread form in
        structures-total.total env spread spread-apart r d (written_domain d) w (nested-total env form) ns n []

    valued-told : Valued false (told_apart n tree) env
    valued-told = told-values n tree fine.ranged fine.scoped bound env (ranged-values tree fine.ranged env fine.scoped full total)

  -- The structure is bare.
  is-bare : StructureIsBare cells r d ns n
  is-bare = record {
    bare = subst (λ x. Bare cells [] (told_apart n x) true) same
        (told-bare-apart cells (2 ^ 64) reserved-differ n tree true fine.bare bound);
    scoped = subst (λ x. Scoped none none none (told_apart n x)) same (keep.stays none none none n tree scoped-below bound);
    few = subst (λ x. binders (told_apart n x) ≤ 2 ^ 27) same few-told;
    next = subst (λ x. (told x [] n).1 ≤ n + 2 ^ 27) same next-told;
    spells = λ p a b c h. subst (λ x. list_all p (numbers_in (parts_of (told_apart n x))) ≡ true) same (spells-tree p a b c h);
    means = λ env e ts t. subst (λ x. meaning (told_apart n x) env ≡ Some (truth (canonical r e (cells_of ts)))) same
        (means-told env e ts t);
    valued = λ env e ts t. subst (λ x. Valued false (told_apart n x) env) same (valued-told env e ts t);
  }

-- What is proved of structures of nested sets.
pub nested-structures : NestedStructuresAreBare
nested-structures cells r d ns n v = is-bare cells r d ns n v
