-- Worked examples of views of atoms, and of views that are kept as a truth value for each possible member.
use Rattle.std.specs.Prelude.{◌≡◌, refl, true, false, [], ◌∷◌, pos, codes, Some, None, Option, List, option_map}
use Rattle.ess_semantics.specs.declared.words.Op2.{Op2}
use Rattle.ess_semantics.specs.declared.words.ReprKind.{ReprKind}
use Rattle.ess_semantics.specs.Values.{Value, truth, items_of, tuple, of_list}
use Rattle.ess_semantics.specs.Trees.{tuple_literal, repr, no_reprs, Ex, node_ex, cell_ex, seen_ex, truth_ex, no_exs, Dom, bool_dom, relation_dom}
use Rattle.ess_semantics.specs.Tables.{one_cell}
use Rattle.ess_semantics.specs.Meaning.{Env, empty_env, meaning}
use Rattle.ess_semantics.proofs.Shorthands.{n, v, upto, es1, es2, ds2, bi}
use Rattle.ess_rules_laws.specs.Listings.{Alternative, items_listed}
use Rattle.ess_rules_laws.specs.AtomViews.{atom_cell}
use Rattle.ess_rules_laws.specs.OccurrenceViews.{relation_matrix_listing, member_by_cell}
use Rattle.ess_rules_laws.proofs.ExamplesLookups.{x, f}
use Rattle.ess_rules_laws.proofs.ExamplesSetListings.{s, view}
use Rattle.ess_rules_laws.proofs.ExamplesFunctionViews.{four}

abbrev means : Env → Option Ex → Option Value
means here None = None
means here (Some e) = meaning e here

-- ---- atoms

abbrev atom : Dom → Ex
atom d = seen_ex (repr ReprKind.Atom no_reprs) d (s ∷ []) no_exs

abbrev one : Env
one = record empty_env { cells = (s, one_cell (pos 1)) ∷ [] }

number_cell : atom_cell (atom (upto 2)) ≡ Some (cell_ex false s no_exs)
number_cell = refl

truth_cell : atom_cell (atom bool_dom) ≡ Some (cell_ex true s no_exs)
truth_cell = refl

both_mean_1 : (meaning (atom (upto 2)) one ≡ Some (v 1)) × (means one (atom_cell (atom (upto 2))) ≡ Some (v 1))
both_mean_1 = (refl, refl)

both_mean_true : (meaning (atom bool_dom) one ≡ Some (truth true)) × (means one (atom_cell (atom bool_dom)) ≡ Some (truth true))
both_mean_true = (refl, refl)

-- ---- the set of 1 and 3

-- `3 in v` is the cell at 3.
member_3 : member_by_cell (bi Op2.Member (n 3) (view (upto 3))) ≡ Some (cell_ex true s (es1 (n 3)))
member_3 = refl

-- A set in slots has no such cell.
no_cell : member_by_cell (bi Op2.Member (n 3) (seen_ex (repr ReprKind.Explicit no_reprs) (upto 3) (s ∷ []) no_exs)) ≡ None
no_cell = refl

-- ---- a relation of two truth values with the one tuple of true and false

abbrev related : Ex
related = seen_ex (repr ReprKind.RelationAsMatrix no_reprs) (relation_dom [] no_exs (ds2 bool_dom bool_dom)) (f ∷ []) no_exs

abbrev items : Option Alternative → Option (List Value)
items None = None
items (Some a) = items_listed a four

one_tuple : items (relation_matrix_listing (x ∷ codes "y" ∷ []) related) ≡ Some (tuple (of_list (truth true ∷ truth false ∷ [])) ∷ [])
one_tuple = refl

tuples_of_the_view : option_map items_of (meaning related four) ≡ Some (tuple (of_list (truth true ∷ truth false ∷ [])) ∷ [])
tuples_of_the_view = refl

its_tuple : means four (member_by_cell (bi Op2.Member (node_ex false tuple_literal (es2 (truth_ex true) (truth_ex false))) related)) ≡
    Some (truth true)
its_tuple = refl

no_tuple : means four (member_by_cell (bi Op2.Member (node_ex false tuple_literal (es2 (truth_ex true) (truth_ex true))) related)) ≡
    Some (truth false)
no_tuple = refl
