-- Worked examples of types at rules of containers: where they stay, and what a name of a table would change.
use Rattle.std.specs.Prelude.{◌≡◌, refl, false, [], ◌∷◌, codes, Some, None}
use Rattle.ess_semantics.specs.declared.words.Op2.{Op2}
use Rattle.ess_semantics.specs.declared.words.Fun.{Fun}
use Rattle.ess_semantics.specs.Values.{Text, a_mset, a_set, a_partition}
use Rattle.ess_semantics.specs.Names.{Names}
use Rattle.ess_semantics.specs.Trees.{name_pat, Ex, comp_ex, cell_ex, no_exs, no_gens, from}
use Rattle.ess_semantics.specs.Types.{Ty, bool_ty, int_ty, named_ty, compound1}
use Rattle.ess_semantics.specs.Typing.{type_of}
use Rattle.ess_semantics.proofs.Shorthands.{N, bi, fn, fn2}
use Rattle.ess_rules_laws.specs.InclusionRules.{included_often}
use Rattle.ess_rules_laws.specs.SizeRules.{together_term}

abbrev s : Text
s = codes "s"

abbrev m : Text
m = codes "m"

abbrev p : Text
p = codes "p"

abbrev x : Text
x = codes "x"

-- A set, a multiset and a partition of numbers.
abbrev types : Names Ty
types = (s, compound1 a_set int_ty) ∷ (m, compound1 a_mset int_ty) ∷ (p, compound1 a_partition int_ty) ∷ []

-- `m subsetEq m` is told by frequencies, which sets don't have.
abbrev less_often : Ex → Ex
less_often a = fn Fun.And (comp_ex (bi Op2.Le (fn2 Fun.Freq a (N x)) (fn2 Fun.Freq a (N x))) (from (name_pat x) a no_gens))

of_multisets : (included_often x (bi Op2.SubsetEq (N m) (N m)) ≡ Some (less_often (N m)))
    × (type_of (bi Op2.SubsetEq (N m) (N m)) types ≡ Some bool_ty)
    × (type_of (less_often (N m)) types ≡ Some bool_ty)
    × (included_often x (bi Op2.SubsetEq (N s) (N s)) ≡ Some (less_often (N s)))
    × (type_of (less_often (N s)) types ≡ None)
of_multisets = (refl, refl, refl, refl, refl)

-- `together(s, p)`.
parts : (type_of (fn2 Fun.Together (N s) (N p)) types ≡ Some bool_ty)
    × (together_term x (fn2 Fun.Together (N s) (N p))
    ≡ Some (fn Fun.Or (comp_ex (bi Op2.SubsetEq (N s) (N x)) (from (name_pat x) (fn Fun.Parts (N p)) no_gens))))
    × (type_of (fn Fun.Or (comp_ex (bi Op2.SubsetEq (N s) (N x)) (from (name_pat x) (fn Fun.Parts (N p)) no_gens))) types ≡ Some bool_ty)
parts = (refl, refl, refl)

-- A cell has the named type of its table's name, so a new name isn't one of a table.
cells : (type_of (cell_ex false x no_exs) [] ≡ Some int_ty) × (type_of (cell_ex false x no_exs) ((x, named_ty s) ∷ []) ≡ Some (named_ty s))
cells = (refl, refl)
