-- Worked examples of trees whose types are told.
use Rattle.std.specs.Prelude.{◌≡◌, refl, true, false, [], ◌∷◌, codes}
use Rattle.ess_semantics.specs.declared.words.Op2.{Op2}
use Rattle.ess_semantics.specs.declared.words.Fun.{Fun}
use Rattle.ess_semantics.specs.Values.{Text, a_set}
use Rattle.ess_semantics.specs.Names.{Names}
use Rattle.ess_semantics.specs.Trees.{matrix_literal, name_pat, Ex, truth_ex, node_ex, comp_ex, no_exs, no_gens, over, from, cond}
use Rattle.ess_semantics.specs.Types.{Ty, int_ty, compound1}
use Rattle.ess_semantics.proofs.Shorthands.{N, n, bi, fn, upto, set}
use Rattle.ess_refine_laws.specs.Progress.{is_judged}
use Rattle.ess_refine_laws.specs.JudgedTrees.{are_types_told}

abbrev s : Text
s = codes "s"

abbrev j : Text
j = codes "j"

abbrev types : Names Ty
types = (s, compound1 a_set int_ty) ∷ []

-- `and([j in s | j : int(1..3), j < 2])`.
abbrev told : Ex
told = fn Fun.And (comp_ex (bi Op2.Member (N j) (N s)) (over (name_pat j) (upto 3) (cond (bi Op2.Lt (N j) (n 2)) no_gens)))

is_told : (are_types_told told types ≡ true) × (is_judged told types ≡ true)
is_told = (refl, refl)

-- The list of `[] = []` has a type, and what its members are isn't told.
untold : are_types_told (fn Fun.And (comp_ex (N j) (from (name_pat j) (node_ex false matrix_literal no_exs) no_gens))) types ≡ false
untold = refl

-- Over a domain of sets nothing is judged.
over_sets : are_types_told (fn Fun.And (comp_ex (truth_ex true) (over (name_pat j) (set (upto 2)) no_gens))) types ≡ false
over_sets = refl
