-- An instance of what the meaning of the structure constraint rests on: set of set of bool, both with a marker.
use Rattle.std.proofs.Common.{◌≡◌, refl, sym, ap, ℕ, ℤ, ◌<◌, true, false, List, [], ◌∷◌, length, pos, Some}
use Rattle.ess_semantics.specs.declared.words.ReprKind.{ReprKind}
use Rattle.ess_semantics.specs.declared.words.Fun.{Fun}
use Rattle.ess_semantics.specs.declared.words.Key.{Key}
use Rattle.ess_semantics.specs.declared.words.Op1.{Op1}
use Rattle.ess_semantics.specs.declared.words.Op2.{Op2}
use Rattle.std.specs.Prelude.{codes}
use Rattle.ess_semantics.specs.Values.{Text, truth}
use Rattle.ess_semantics.specs.Order.{same_text}
use Rattle.ess_semantics.specs.Trees.{valued, flag, Repr, repr, no_reprs, more_reprs, Ex, number_ex, truth_ex, no_exs, Dom, bool_dom, tuple_dom, matrix_dom, set_dom, function_dom, no_doms, more_doms, more_exs, name_ex, cell_ex, comp_ex, over, cond, name_pat, no_gens, fun1, ex1, ex2, word, tuple_literal, relation_dom, partition_dom, node_ex, seen_ex, from, index, to_component}
use Rattle.ess_semantics.specs.Domains.{Domain, booleans, sets}
use Rattle.ess_semantics.specs.Tables.{Tables, is_cell}
use Rattle.ess_semantics.specs.Cells.{cells_of}
use Rattle.ess_semantics.specs.Representations.{width}
use Rattle.ess_semantics.specs.Declarations.{declarations, axes_of}
use Rattle.ess_semantics.specs.CanonicalTest.{canonical}
use Rattle.ess_semantics.specs.Meaning.{Env, meaning}
use Rattle.ess_semantics.specs.Tidy.{over_axes}
use Rattle.ess_repr_laws.specs.StructureParts.{tuple_set_dom, Terms, and_ex, or_ex, keys_ex, upto, slots_ex, first_ex}
use Rattle.ess_repr_laws.specs.FunctionParts.{with_total, flag_key_ex, value_key_ex}
use Rattle.ess_repr_laws.specs.RelationParts.{has_pair_ex, relation_key_ex, relation_ex}
use Rattle.ess_repr_laws.specs.MultisetParts.{occurs_ex}
use Rattle.ess_repr_laws.specs.PartitionParts.{numbered_on_ex, part_key_ex, part_sizes_ex}
use Rattle.ess_repr_laws.specs.ViewParts.{pair_relation_dom, pairs_ex, total_size_ex, part_set_dom, parts_ex, all_taken_ex, components_differ_ex}
use Rattle.ess_repr_laws.specs.Structure.{shapes, structure}
use Rattle.ess_repr_laws.specs.CanonicalTables.{TablesFit}
use Rattle.ess_repr_laws.specs.StructureMeaning.{Bound, M, Placed, axes_members}
use Rattle.ess_repr_laws.specs.StructureReady.{Ready}
use Rattle.ess_repr_laws.proofs.StructureOfTables.{structure-of-tables}

abbrev slots : Dom → Ex
slots (set_dom ms es bool_dom) = number_ex (pos 2)
slots d = number_ex (pos 4)

abbrev terms : Terms
terms = record { slots = slots; atom = λ d e. truth_ex true; dummy = λ d. number_ex (pos 3) }

abbrev kinds : Repr
kinds =
    repr ReprKind.ExplicitVarSizeWithMarker
    (more_reprs (repr ReprKind.ExplicitVarSizeWithMarker (more_reprs (repr ReprKind.Atom no_reprs) no_reprs)) no_reprs)

abbrev written : Dom
written = set_dom [] no_exs (set_dom [] no_exs bool_dom)

abbrev meant : Domain
meant = sets [] (sets [] booleans)

module _ (env0 : Env) (q : ℕ → Text) (q-apart : (m l : ℕ) → l < m → same_text (q m) (q l) ≡ false) where
  ready : Ready env0 q q-apart terms kinds written meant
  ready = ((λ bs. (tt, refl)), (λ bs. refl), ((λ bs. (tt, refl)), (λ bs. refl), ((tt, λ h. refl), λ x bs z f h. go z f)))
    where
      go : (z : ℤ) → is_cell booleans z ≡ true → Some (truth true) ≡ Some (truth (is_cell booleans z))
      go z f = ap (λ b. Some (truth b)) (sym f)

  -- The theorem at this instance.
  pub example : (ns : List Text) (ts : Tables) (bs : Bound env0 q q-apart) → length ts ≡ width kinds →
      Placed env0 q q-apart (shapes q terms kinds written ns) (axes_members kinds meant) ts →
      over_axes [] (axes_of kinds meant) ts ≡ true → TablesFit (declarations kinds meant) ts →
      meaning (structure q terms kinds written ns 1 no_exs) (M env0 q q-apart bs) ≡ Some (truth (canonical kinds meant (cells_of ts)))
  example ns ts bs w p o f = structure-of-tables env0 q q-apart terms kinds written meant ready ns ts 1 bs w p o f

-- ---- worked examples: the constraints

abbrev name : ℕ → Text
name l = codes "q"

abbrev cell : Repr
cell = repr ReprKind.Atom no_reprs

abbrev at_atom : Terms
at_atom = record { slots = slots; atom = λ d e. e; dummy = λ d. number_ex (pos 3) }

-- A pair of truth values: what is asked of each component.
pub of-pair : structure name at_atom (repr ReprKind.Tuple (more_reprs cell (more_reprs cell no_reprs))) (tuple_dom (more_doms bool_dom (more_doms bool_dom no_doms))) ((codes "a") ∷ (codes "b") ∷ []) 1 no_exs
    ≡ and_ex (cell_ex true (codes "a") no_exs) (and_ex (cell_ex true (codes "b") no_exs) (truth_ex true))
of-pair = refl

-- A matrix of truth values: what is asked at each index.
pub of-matrix : structure name at_atom (repr ReprKind.Matrix (more_reprs cell no_reprs)) (matrix_dom (more_doms bool_dom no_doms) bool_dom) ((codes "a") ∷ []) 1 no_exs
    ≡ fun1 true Fun.And (comp_ex (cell_ex true (codes "a") (more_exs (name_ex (codes "q")) no_exs)) (over (name_pat (codes "q")) bool_dom no_gens))
of-matrix = refl

-- The set of a relation's tuples has the sizes of the relation, in their order.
pub of-tuples : tuple_set_dom (valued Key.MaxSize ∷ flag Key.Symmetric ∷ valued Key.Size ∷ []) (more_exs (number_ex (pos 5)) (more_exs (number_ex (pos 3)) no_exs)) (more_doms bool_dom no_doms)
    ≡ set_dom (valued Key.Size ∷ valued Key.MaxSize ∷ []) (more_exs (number_ex (pos 3)) (more_exs (number_ex (pos 5)) no_exs)) (tuple_dom (more_doms bool_dom no_doms))
of-tuples = refl

-- A total function with flags: each flag is true. The sizes say nothing of it.
pub of-total : keys_ex (with_total (name_ex (codes "e")) (λ k. truth_ex true)) (valued Key.MinSize ∷ flag Key.Total ∷ []) ≡ and_ex
    (name_ex (codes "e")) (truth_ex true)
of-total = refl

-- An injective function from bool to atoms: the cells differ.
pub of-injective : structure name at_atom (repr ReprKind.Function1D (more_reprs cell no_reprs)) (function_dom (flag Key.Injective ∷ []) no_exs bool_dom bool_dom) ((codes "a") ∷ []) 1 no_exs
    ≡ and_ex (fun1 true Fun.And (comp_ex (cell_ex true (codes "a") (more_exs (name_ex (codes "q")) no_exs)) (over (name_pat (codes "q")) bool_dom no_gens)))
    (and_ex (truth_ex true) (and_ex (fun1 true Fun.AllDiff (comp_ex (cell_ex true (codes "a") (more_exs (name_ex (codes "q")) no_exs)) (over (name_pat (codes "q")) bool_dom no_gens))) (truth_ex true)))
of-injective = refl

-- A surjective function from bool to bool: each truth value is the second part of a pair of its view.
pub of-surjective : structure name at_atom (repr ReprKind.Function1D (more_reprs cell no_reprs))
    (function_dom (flag Key.Surjective ∷ []) no_exs bool_dom bool_dom) ((codes "a") ∷ []) 1 no_exs
    ≡ and_ex (fun1 true Fun.And (comp_ex (cell_ex true (codes "a") (more_exs (name_ex (codes "q")) no_exs))
    (over (name_pat (codes "q")) bool_dom no_gens)))
    (and_ex (truth_ex true) (and_ex (all_taken_ex name 1 bool_dom (seen_ex (repr ReprKind.Function1D (more_reprs cell no_reprs))
    (function_dom [] no_exs bool_dom bool_dom) ((codes "a") ∷ []) no_exs)) (truth_ex true)))
of-surjective = refl

-- An injective function with flags: the second parts of the pairs of its view differ. A total one: each flag is true.
pub of-flag-keys : flag_key_ex name 1 (bool_dom ∷ []) (codes "f") no_exs bool_dom (name_ex (codes "e")) Key.Injective ≡
    components_differ_ex name 1 bool_dom 2 (name_ex (codes "e"))
of-flag-keys = refl

pub of-flag-total : flag_key_ex name 1 (bool_dom ∷ []) (codes "f") no_exs bool_dom (name_ex (codes "e")) Key.Total
    ≡ fun1 true Fun.And (comp_ex (cell_ex true (codes "f") (more_exs (name_ex (codes "q")) no_exs))
    (over (name_pat (codes "q")) bool_dom no_gens))
of-flag-total = refl

-- An injective function whose values are sets: the second parts of the pairs of its view differ.
pub of-injective-sets : value_key_ex name 1 (bool_dom ∷ []) [] no_exs kinds written (name_ex (codes "e")) Key.Injective ≡
    components_differ_ex name 1 written 2 (name_ex (codes "e"))
of-injective-sets = refl

-- A multiset in slots up to a marker: each of its members occurs at least twice. A size says nothing of it.
pub of-min-occur : occurs_ex name 1 (name_ex (codes "e")) (valued Key.MinOccur ∷ flag Key.Total ∷ valued Key.Size ∷ [])
    (more_exs (number_ex (pos 2)) (more_exs (number_ex (pos 3)) no_exs))
    ≡ and_ex (fun1 true Fun.And (comp_ex (ex2 true Op2.Le (number_ex (pos 2))
    (node_ex false (word Fun.Freq) (more_exs (name_ex (codes "e")) (more_exs (name_ex (codes "q")) no_exs))))
    (from (name_pat (codes "q")) (fun1 false Fun.ToSet (name_ex (codes "e"))) no_gens)))
    (and_ex (truth_ex true) (truth_ex true))
of-min-occur = refl

-- A symmetric relation of truth values: with each pair of its view it has the pair turned round.
pub of-symmetric : relation_key_ex name 1 (more_doms bool_dom (more_doms bool_dom no_doms)) (name_ex (codes "e")) Key.Symmetric
    ≡ fun1 true Fun.And (comp_ex (ex2 true Op2.Member (node_ex false tuple_literal
    (more_exs (node_ex true (index (to_component 2 ∷ [])) (more_exs (name_ex (codes "q")) no_exs))
    (more_exs (node_ex true (index (to_component 1 ∷ [])) (more_exs (name_ex (codes "q")) no_exs)) no_exs)))
    (name_ex (codes "e"))) (from (name_pat (codes "q")) (name_ex (codes "e")) no_gens))
of-symmetric = refl

-- A relation of one component has no such attribute; `total` says nothing of one of two.
pub of-one-component : relation_key_ex name 1 (more_doms bool_dom no_doms) (name_ex (codes "e")) Key.Symmetric ≡ truth_ex false
of-one-component = refl

pub of-other-key : relation_key_ex name 1 (more_doms bool_dom (more_doms bool_dom no_doms)) (name_ex (codes "e")) Key.Total ≡ truth_ex true
of-other-key = refl

-- A reflexive relation as a matrix: of its view is asked what is asked of each view of one.
pub of-reflexive-matrix : relation_ex name 1 (flag Key.Reflexive ∷ []) no_exs (more_doms bool_dom (more_doms bool_dom no_doms))
    (bool_dom ∷ bool_dom ∷ []) (codes "a") no_exs (name_ex (codes "e"))
    ≡ and_ex (truth_ex true) (and_ex (relation_key_ex name 1 (more_doms bool_dom (more_doms bool_dom no_doms)) (name_ex (codes "e")) Key.Reflexive)
    (truth_ex true))
of-reflexive-matrix = refl

-- Each member of the first domain is related to itself.
pub of-reflexive-set : relation_key_ex name 1 (more_doms bool_dom (more_doms bool_dom no_doms)) (name_ex (codes "e")) Key.Reflexive
    ≡ fun1 true Fun.And (comp_ex (has_pair_ex (name_ex (codes "e")) (name_ex (codes "q")) (name_ex (codes "q")))
    (over (name_pat (codes "q")) bool_dom no_gens))
of-reflexive-set = refl

-- An irreflexive relation, also one between two domains that differ: no pair has one member twice.
pub of-irreflexive : relation_key_ex name 1 (more_doms bool_dom (more_doms written no_doms)) (name_ex (codes "e")) Key.Irreflexive
    ≡ fun1 true Fun.And (comp_ex (ex1 true Op1.Not (ex2 true Op2.Eq
    (node_ex true (index (to_component 1 ∷ [])) (more_exs (name_ex (codes "q")) no_exs))
    (node_ex false (index (to_component 2 ∷ [])) (more_exs (name_ex (codes "q")) no_exs))))
    (from (name_pat (codes "q")) (name_ex (codes "e")) no_gens))
of-irreflexive = refl

-- The relation of a total function's pairs has as many pairs as bool has members; the least size is the function's.
pub of-pair-sizes : pair_relation_dom at_atom (valued Key.MinSize ∷ flag Key.Total ∷ []) (more_exs (number_ex (pos 1)) no_exs) bool_dom bool_dom
    ≡ relation_dom (valued Key.Size ∷ valued Key.MinSize ∷ []) (more_exs (number_ex (pos 2)) (more_exs (number_ex (pos 1)) no_exs)) (more_doms bool_dom (more_doms bool_dom no_doms))
of-pair-sizes = refl

-- An injective function's pairs: first components differ, and so do second ones.
pub of-pairs : pairs_ex name 1 (flag Key.Injective ∷ []) no_exs bool_dom bool_dom (name_ex (codes "e"))
    ≡ and_ex (fun1 true Fun.AllDiff (comp_ex (node_ex true (index (to_component 1 ∷ [])) (more_exs (name_ex (codes "q")) no_exs)) (from (name_pat (codes "q")) (name_ex (codes "e")) no_gens)))
    (and_ex (truth_ex true)
    (and_ex (fun1 true Fun.AllDiff (comp_ex (node_ex true (index (to_component 2 ∷ [])) (more_exs (name_ex (codes "q")) no_exs))
    (from (name_pat (codes "q")) (name_ex (codes "e")) no_gens))) (truth_ex true)))
of-pairs = refl

-- A total function of three pairs: the relation has as many pairs as bool has members, and the size is asked of the view.
pub of-total-size : total_size_ex (valued Key.MinSize ∷ flag Key.Total ∷ valued Key.Size ∷ [])
    (more_exs (number_ex (pos 1)) (more_exs (number_ex (pos 3)) no_exs)) (name_ex (codes "e"))
    ≡ and_ex (truth_ex true)
    (and_ex (and_ex (ex2 true Op2.Le (number_ex (pos 3)) (ex1 false Op1.Bar (name_ex (codes "e"))))
    (ex2 true Op2.Le (ex1 false Op1.Bar (name_ex (codes "e"))) (number_ex (pos 3)))) (truth_ex true))
of-total-size = refl

-- A function from bool to bool as a relation that is a matrix: what is asked of the relation, and of the pairs of its view.
pub of-function-as-relation : structure name at_atom (repr ReprKind.FunctionAsRelation (more_reprs (repr ReprKind.RelationAsMatrix no_reprs) no_reprs)) (function_dom [] no_exs bool_dom bool_dom) ((codes "a") ∷ []) 1 no_exs
    ≡ and_ex (structure name at_atom (repr ReprKind.RelationAsMatrix no_reprs) (pair_relation_dom at_atom [] no_exs bool_dom bool_dom) ((codes "a") ∷ []) 1 no_exs)
    (pairs_ex name 1 [] no_exs bool_dom bool_dom (seen_ex (repr ReprKind.RelationAsMatrix no_reprs)
    (relation_dom (valued Key.MaxSize ∷ []) (more_exs (number_ex (pos 2)) no_exs) (more_doms bool_dom (more_doms bool_dom no_doms)))
    ((codes "a") ∷ []) no_exs))
of-function-as-relation = refl

-- The parts of a partition of bool in two parts of at most three: the set has two members, each of at most three.
pub of-part-sizes : part_set_dom at_atom (valued Key.MaxPartSize ∷ valued Key.NumParts ∷ []) (more_exs (number_ex (pos 3)) (more_exs (number_ex (pos 2)) no_exs)) bool_dom
    ≡ set_dom (valued Key.Size ∷ []) (more_exs (number_ex (pos 2)) no_exs) (set_dom (valued Key.MaxSize ∷ []) (more_exs (number_ex (pos 3)) no_exs) bool_dom)
of-part-sizes = refl

-- A partition of bool as a set of sets in slots: what is asked of the set, and of the parts of its view.
pub of-partition-as-set : structure name at_atom (repr ReprKind.PartitionAsSet (more_reprs (repr ReprKind.ExplicitVarSizeWithMarker (more_reprs (repr ReprKind.Occurrence no_reprs) no_reprs)) no_reprs)) (partition_dom [] no_exs bool_dom) ((codes "m") ∷ (codes "a") ∷ []) 1 no_exs
    ≡ and_ex (structure name at_atom (repr ReprKind.ExplicitVarSizeWithMarker (more_reprs (repr ReprKind.Occurrence no_reprs) no_reprs)) (part_set_dom at_atom [] no_exs bool_dom) ((codes "m") ∷ (codes "a") ∷ []) 1 no_exs)
    (parts_ex name 1 [] bool_dom (seen_ex (repr ReprKind.ExplicitVarSizeWithMarker (more_reprs (repr ReprKind.Occurrence no_reprs) no_reprs)) (set_dom (valued Key.MaxSize ∷ []) (more_exs (number_ex (pos 2)) no_exs) (set_dom [] no_exs bool_dom)) ((codes "m") ∷ (codes "a") ∷ []) no_exs))
of-partition-as-set = refl

-- A partition of bool by part numbers: each number is one of 1 to n, and is 1 or comes after the one before it; n is 0 or taken.
pub of-partition-by-numbers : structure name at_atom (repr ReprKind.PartitionOccurrence no_reprs)
    (partition_dom (valued Key.MinNumParts ∷ []) (more_exs (number_ex (pos 2)) no_exs) bool_dom)
    ((codes "n") ∷ (codes "w") ∷ []) 1 no_exs
    ≡ and_ex (and_ex (fun1 true Fun.And (comp_ex (numbered_on_ex name 1 bool_dom (cell_ex false (codes "n") no_exs) (codes "w") no_exs)
    (over (name_pat (codes "q")) bool_dom no_gens)))
    (or_ex (ex2 true Op2.Eq (cell_ex false (codes "n") no_exs) (number_ex (pos 0)))
    (fun1 true Fun.Or (comp_ex (ex2 true Op2.Eq (cell_ex false (codes "w") (more_exs (name_ex (codes "q")) no_exs))
    (cell_ex false (codes "n") no_exs))
    (over (name_pat (codes "q")) bool_dom no_gens)))))
    (and_ex (and_ex (ex2 true Op2.Le (number_ex (pos 2)) (cell_ex false (codes "n") no_exs)) (truth_ex true)) (truth_ex true))
of-partition-by-numbers = refl

-- The first member's number is 1, or one more than that of a member before it.
pub of-numbered-on : numbered_on_ex name 1 bool_dom (name_ex (codes "n")) (codes "w") no_exs
    ≡ and_ex (and_ex (ex2 true Op2.Le (number_ex (pos 1)) (cell_ex false (codes "w") (more_exs (name_ex (codes "q")) no_exs)))
    (ex2 true Op2.Le (cell_ex false (codes "w") (more_exs (name_ex (codes "q")) no_exs)) (name_ex (codes "n"))))
    (or_ex (ex2 true Op2.Eq (number_ex (pos 1)) (cell_ex false (codes "w") (more_exs (name_ex (codes "q")) no_exs)))
    (fun1 true Fun.Or (comp_ex (ex2 true Op2.Eq (cell_ex false (codes "w") (more_exs (name_ex (codes "q")) no_exs))
    (ex2 false Op2.Plus (cell_ex false (codes "w") (more_exs (name_ex (codes "q")) no_exs)) (number_ex (pos 1))))
    (over (name_pat (codes "q")) bool_dom (cond (ex2 true Op2.Lt (name_ex (codes "q")) (name_ex (codes "q"))) no_gens)))))
of-numbered-on = refl

-- The size of a part is asked of each part of the view; the number of parts of the cell; `regular` isn't asked of numbers.
pub of-part-key-sizes : part_key_ex name 1 (name_ex (codes "n")) (name_ex (codes "e")) Key.MaxPartSize (number_ex (pos 3))
    ≡ fun1 true Fun.And (comp_ex (ex2 true Op2.Le (ex1 false Op1.Bar (name_ex (codes "q"))) (number_ex (pos 3)))
    (from (name_pat (codes "q")) (name_ex (codes "e")) no_gens))
of-part-key-sizes = refl

pub of-part-key-number : part_key_ex name 1 (name_ex (codes "n")) (name_ex (codes "e")) Key.MaxNumParts (number_ex (pos 3))
    ≡ ex2 true Op2.Le (name_ex (codes "n")) (number_ex (pos 3))
of-part-key-number = refl

pub of-part-key-regular : part_sizes_ex name 1 (name_ex (codes "n")) (name_ex (codes "e")) (flag Key.Regular ∷ []) no_exs ≡ truth_ex true
of-part-key-regular = refl

-- Slots of which the first m are in use: pairs of slots run over all slots but the last.
pub of-rising-slots : slots_ex name 1 (number_ex (pos 2)) (name_ex (codes "m")) [] no_exs (name_ex (codes "e"))
    ≡ and_ex (fun1 true Fun.And (comp_ex (name_ex (codes "e")) (over (name_pat (codes "q")) (upto (number_ex (pos 2)))
    (cond (ex2 true Op2.Le (name_ex (codes "q")) (name_ex (codes "m"))) no_gens))))
    (and_ex (fun1 true Fun.And (comp_ex (truth_ex false) (over (name_pat (codes "q")) (upto (ex2 false Op2.Minus (number_ex (pos 2)) (number_ex (pos 1))))
    (cond (ex2 true Op2.Le (ex2 false Op2.Plus (name_ex (codes "q")) (number_ex (pos 1))) (name_ex (codes "m"))) no_gens))))
    (fun1 true Fun.And (comp_ex (truth_ex true) (over (name_pat (codes "q")) (upto (number_ex (pos 2)))
    (cond (ex1 true Op1.Not (ex2 true Op2.Le (name_ex (codes "q")) (name_ex (codes "m")))) no_gens)))))
of-rising-slots = refl

-- Slots with flags: those in use stand first, of each slot but the last.
pub of-first-slots : first_ex name 1 (number_ex (pos 2)) (name_ex (codes "h")) (name_ex (codes "n"))
    ≡ fun1 true Fun.And (comp_ex (ex2 true Op2.Implies (name_ex (codes "n")) (name_ex (codes "h")))
    (over (name_pat (codes "q")) (upto (ex2 false Op2.Minus (number_ex (pos 2)) (number_ex (pos 1)))) no_gens))
of-first-slots = refl
