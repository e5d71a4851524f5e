-- Worked examples of lookups of components, fields and items of matrices.
use Rattle.std.specs.Prelude.{◌≡◌, refl, false, [], ◌∷◌, pos, codes, List, Option, Some, None, option_map}
use Rattle.ess_semantics.specs.declared.words.Op2.{Op2}
use Rattle.ess_semantics.specs.Values.{Text, a_tuple, a_record, a_matrix, Value, matrix, of_list, items_of}
use Rattle.ess_semantics.specs.Names.{Names}
use Rattle.ess_semantics.specs.Trees.{index, by_value, name_pat, Ex, node_ex, comp_ex, no_gens, from, repr, seen_ex, more_reprs, no_reprs, matrix_dom, more_doms, no_doms, no_exs}
use Rattle.ess_semantics.specs.declared.words.ReprKind.{ReprKind}
use Rattle.ess_semantics.specs.Tables.{row_of}
use Rattle.ess_semantics.specs.Types.{Ty, bool_ty, int_ty, compound, compound2, no_tys, more_tys}
use Rattle.ess_semantics.specs.Meaning.{Env, empty_env, meaning}
use Rattle.ess_semantics.proofs.Shorthands.{N, n, v, bi, range, upto, es2}
use Rattle.ess_rules_laws.specs.ComponentRules.{component_of, field_of}
use Rattle.ess_rules_laws.specs.Lookups.{found}
use Rattle.ess_rules_laws.specs.PartLookups.{lookup_through, part_lookup, matrix_lookup, indices_of}
use Rattle.ess_rules_laws.proofs.ExamplesLookups.{x, l}

abbrev m : Text
m = codes "m"

abbrev p : Text
p = codes "p"

abbrev r : Text
r = codes "r"

-- A matrix, a pair and a record.
abbrev types : Names Ty
types = (m, compound2 a_matrix int_ty int_ty) ∷ (p, compound a_tuple (more_tys int_ty (more_tys bool_ty no_tys)))
    ∷ (r, compound (a_record (m ∷ [])) (more_tys int_ty no_tys)) ∷ []

-- `[x[2] | x <- l]`
second : part_lookup types x (N l) (component_of bool_ty 2 (N p)) ≡
    Some (comp_ex (component_of bool_ty 2 (N x)) (from (name_pat x) (N l) no_gens))
second = refl

-- A pair has no third component.
no_third : part_lookup types x (N l) (component_of int_ty 3 (N p)) ≡ None
no_third = refl

-- Its first one is no truth value.
number_as_truth : part_lookup types x (N l) (component_of bool_ty 1 (N p)) ≡ None
number_as_truth = refl

of_a_record : part_lookup types x (N l) (field_of int_ty m (N r)) ≡
    Some (comp_ex (field_of int_ty m (N x)) (from (name_pat x) (N l) no_gens))
of_a_record = refl

-- The sum of a looked up number and 1.
sum_through : lookup_through x 1 (N l) (bi Op2.Plus (N p) (n 1)) ≡
    Some (comp_ex (bi Op2.Plus (N x) (n 1)) (from (name_pat x) (N l) no_gens))
sum_through = refl

-- ---- a matrix of 7 and 8 over `int(3..4)`

abbrev env : Env
env = record empty_env { vals = (m, matrix (of_list (v 3 ∷ v 4 ∷ [])) (of_list (v 7 ∷ v 8 ∷ []))) ∷ [] }

-- What a lookup finds.
abbrev finds : Option Ex → Option (List Value)
finds None = None
finds (Some e) = option_map items_of (meaning e env)

abbrev at_index : Ex → Ex
at_index i = node_ex false (index (by_value ∷ [])) (es2 (N m) i)

found_at_4 : finds (matrix_lookup types x (range (n 3) (n 4)) (at_index (n 4))) ≡ Some (found (meaning (at_index (n 4)) env))
found_at_4 = refl

eight_at_4 : finds (matrix_lookup types x (range (n 3) (n 4)) (at_index (n 4))) ≡ Some (v 8 ∷ [])
eight_at_4 = refl

nothing_at_5 : finds (matrix_lookup types x (range (n 3) (n 4)) (at_index (n 5))) ≡ Some []
nothing_at_5 = refl

-- Over another domain the lookup has nothing at a number that is no index.
over_another : finds (matrix_lookup types x (range (n 5) (n 6)) (at_index (n 5))) ≡ None
over_another = refl

-- ---- a view of such a matrix

abbrev seen : Env
seen = record empty_env { cells = (m, row_of (pos 3 ∷ pos 4 ∷ []) (pos 7 ∷ pos 8 ∷ [])) ∷ [] }

abbrev view : Ex
view = seen_ex (repr ReprKind.Matrix (more_reprs (repr ReprKind.Atom no_reprs) no_reprs))
    (matrix_dom (more_doms (range (n 3) (n 4)) no_doms) (upto 9)) (m ∷ []) no_exs

indices_of_the_view : option_map indices_of (meaning view seen) ≡ Some (v 3 ∷ v 4 ∷ [])
indices_of_the_view = refl
