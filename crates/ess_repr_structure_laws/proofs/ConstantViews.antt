-- Each number that the structure of a view spells is one of its domain, or 0, 1 or 2.
use Rattle.std.proofs.Common.{◌≡◌, refl, true, false, List, [], ◌∷◌, ◌++◌, ℤ, pos}
use Rattle.std.specs.List.{list_any}
use Rattle.ess_semantics.specs.Values.{Text}
use Rattle.ess_semantics.specs.Order.{same_int}
use Rattle.ess_semantics.specs.Contexts.{Each}
use Rattle.ess_semantics.specs.Constants.{tree_constants, operand_constants, constants_of_tree, among_constants, dom_constants, doms_constants}
use Rattle.ess_semantics.specs.Trees.{Ex, Exs, no_exs, more_exs, Dom, Doms, bool_dom, int_dom, name_dom, tuple_dom, record_dom, matrix_dom, set_dom, mset_dom, function_dom, relation_dom, partition_dom, no_doms, more_doms}
use Rattle.ess_rules_laws.proofs.Bindings.{each-map}
use Rattle.ess_guard_laws.specs.Conditions.{summed}
use Rattle.ess_guard_laws.specs.Guard.{there, make_total}
use Rattle.ess_guard_laws.specs.LiteralsFit.{LiteralsFit, AllLiteralsFit, DomLiteralsFit, DomsLiteralsFit}
use Rattle.ess_guard_laws.proofs.ConstantLaws.{Is, each-itself, among}
use Rattle.ess_guard_laws.proofs.ConstantRows.{each-append, each-left, each-right, summed-in}
use Rattle.ess_guard_laws.proofs.ConstantsKept.{kept, asked}
use Rattle.ess_guard_laws.proofs.Differ.{later}
use Rattle.ess_repr_laws.specs.Structure.{structure}
use Rattle.ess_repr_declare_laws.specs.SizeTerms.{size_terms}
use Rattle.ess_repr_structure_laws.specs.Laws.{StructuresSpellConstants}
use Rattle.ess_repr_structure_laws.specs.TotalNumbers.{total_numbers, total_dom, total_doms}
use Rattle.ess_repr_structure_laws.proofs.ConstantStructures.{structure-in}

-- ---- numbers under their conditions

module _ (x y : Text) (P : ℤ → Type 0) (p0 : P (pos 0)) (p1 : P (pos 1)) where
  number-in : (e : Ex) → LiteralsFit false e → Each (tree_constants false e) P → Each
      (tree_constants false (summed (there x y e) (make_total x y e))) P
  number-in e f p = summed-in P p0 p1 (there x y e) (make_total x y e) (asked false x y P p0 p1 e [] false false f p)
      (kept false x y P p0 p1 e [] false f p)

  numbers-in : (es : Exs) → AllLiteralsFit false es → Each (operand_constants false es) P → Each
      (operand_constants false (total_numbers x y es)) P
  numbers-in no_exs f p = tt
  numbers-in (more_exs e es) f p =
      each-append (tree_constants false (summed (there x y e) (make_total x y e))) (operand_constants false (total_numbers x y es)) P
      (number-in e f.0 (each-left (tree_constants false e) (operand_constants false es) P p))
      (numbers-in es f.1 (each-right (tree_constants false e) (operand_constants false es) P p))

  both-in : (xs ys us vs : List ℤ) → (Each xs P → Each us P) → (Each ys P → Each vs P) → Each (xs ++ ys) P → Each (us ++ vs) P
  both-in xs ys us vs f g p = each-append us vs P (f (each-left xs ys P p)) (g (each-right xs ys P p))

  mutual
    total-in : (d : Dom) → DomLiteralsFit d → Each (dom_constants d) P → Each (dom_constants (total_dom x y d)) P
    total-in bool_dom f p = tt
    total-in (int_dom rs es) f p = numbers-in es f p
    total-in (name_dom a) f p = tt
    total-in (tuple_dom ds) f p = all-total-in ds f p
    total-in (record_dom fs ds) f p = all-total-in ds f p
    total-in (matrix_dom is d) f p =
        both-in (doms_constants is) (dom_constants d) (doms_constants (total_doms x y is)) (dom_constants (total_dom x y d))
        (all-total-in is f.0) (total-in d f.1) p
    total-in (set_dom ms es d) f p =
        both-in (operand_constants false es) (dom_constants d) (operand_constants false (total_numbers x y es))
        (dom_constants (total_dom x y d)) (numbers-in es f.0) (total-in d f.1) p
    total-in (mset_dom ms es d) f p =
        both-in (operand_constants false es) (dom_constants d) (operand_constants false (total_numbers x y es))
        (dom_constants (total_dom x y d)) (numbers-in es f.0) (total-in d f.1) p
    total-in (function_dom ms es d c) f p =
        both-in (operand_constants false es ++ dom_constants d) (dom_constants c)
        (operand_constants false (total_numbers x y es) ++ dom_constants (total_dom x y d)) (dom_constants (total_dom x y c))
        (both-in (operand_constants false es) (dom_constants d) (operand_constants false (total_numbers x y es))
        (dom_constants (total_dom x y d)) (numbers-in es f.0) (total-in d f.1))
        (total-in c f.2) p
    total-in (relation_dom ms es ds) f p =
        both-in (operand_constants false es) (doms_constants ds) (operand_constants false (total_numbers x y es))
        (doms_constants (total_doms x y ds)) (numbers-in es f.0) (all-total-in ds f.1) p
    total-in (partition_dom ms es d) f p =
        both-in (operand_constants false es) (dom_constants d) (operand_constants false (total_numbers x y es))
        (dom_constants (total_dom x y d)) (numbers-in es f.0) (total-in d f.1) p

    all-total-in : (ds : Doms) → DomsLiteralsFit ds → Each (doms_constants ds) P → Each (doms_constants (total_doms x y ds)) P
    all-total-in no_doms f p = tt
    all-total-in (more_doms d ds) f p =
        both-in (dom_constants d) (doms_constants ds) (dom_constants (total_dom x y d)) (doms_constants (total_doms x y ds))
        (total-in d f.0) (all-total-in ds f.1) p

-- ---- views

-- The numbers that a structure may spell.
abbrev allowed : Dom → List ℤ
allowed d = pos 0 ∷ pos 1 ∷ pos 2 ∷ dom_constants d

own : (d : Dom) → Each (dom_constants d) (Is (allowed d))
own d = each-map (dom_constants d) (Is (dom_constants d)) (Is (allowed d))
    (λ n p. later (same_int n (pos 0)) _ (later (same_int n (pos 1)) _
    (later (same_int n (pos 2)) (list_any (same_int n) (dom_constants d)) p)))
    (each-itself (dom_constants d))

all-allowed : (a : Ex) (d : Dom) → Each (tree_constants false a) (Is (allowed d)) → among_constants (constants_of_tree a) (allowed d) ≡ true
all-allowed a d p = among (constants_of_tree a) (allowed d) (refl, (refl, (refl, p)))

-- So structures spell constants of the domain.
pub structures-spell : StructuresSpellConstants
structures-spell = record {
  own = λ q r d ns l. all-allowed (structure q size_terms r d ns l no_exs) d
      (structure-in q (Is (allowed d)) refl refl refl r d ns l (own d) false);
  guarded = λ x y q r d ns l f. all-allowed (structure q size_terms r (total_dom x y d) ns l no_exs) d
      (structure-in q (Is (allowed d)) refl refl refl r (total_dom x y d) ns l (total-in x y (Is (allowed d)) refl refl d f (own d)) false);
}
