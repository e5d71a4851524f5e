-- Worked examples: what selections offer as lookups.
use Rattle.std.specs.Prelude.{◌≡◌, refl, true, false, [], ◌∷◌, pos, Some, None, codes}
use Rattle.ess_semantics.specs.declared.words.Op2.{Op2}
use Rattle.ess_semantics.specs.declared.words.Fun.{Fun}
use Rattle.ess_semantics.specs.declared.words.Key.{Key}
use Rattle.ess_semantics.specs.declared.words.ReprKind.{ReprKind}
use Rattle.ess_semantics.specs.Trees.{index, word, to_component, flag, both_ends, repr, no_reprs, more_reprs, name_pat, tuple_pat, no_pats, more_pats, Ex, number_ex, name_ex, node_ex, matrix_ex, comp_ex, seen_ex, no_exs, more_exs, no_gens, over, from, cond, Dom, bool_dom, int_dom, tuple_dom, matrix_dom, function_dom, more_doms, no_doms, at1, ex2, fun1, tuple_literal}
use Rattle.ess_kind_rules_laws.specs.TermLookups.{picks, picked_within, domain_list_lookup, looked_up}
use Rattle.ess_kind_rules_laws.specs.ViewListings.{view_listing, names_for}

-- `int(1..3)`, `int(4..5)`.
abbrev three : Dom
three = int_dom (both_ends ∷ []) (more_exs (number_ex (pos 1)) (more_exs (number_ex (pos 3)) no_exs))

abbrev two : Dom
two = int_dom (both_ends ∷ []) (more_exs (number_ex (pos 4)) (more_exs (number_ex (pos 5)) no_exs))

-- The name a, of the tree and of the text.
abbrev n_a : Ex
n_a = name_ex (codes "a")

-- m : matrix indexed by [int(1..3), int(4..5)] of bool.
abbrev table : Ex
table = seen_ex (repr ReprKind.Matrix (more_reprs (repr ReprKind.Atom no_reprs) no_reprs))
    (matrix_dom (more_doms three (more_doms two no_doms)) bool_dom) (codes "m" ∷ []) no_exs

-- Its row at i, and the item of that at j.
abbrev row_at : Ex → Ex
row_at i = seen_ex (repr ReprKind.Matrix (more_reprs (repr ReprKind.Atom no_reprs) no_reprs))
    (matrix_dom (more_doms two no_doms) bool_dom) (codes "m" ∷ []) (more_exs i no_exs)

-- f : function (total) int(1..3) --> (bool, bool).
abbrev pairs_of : Ex
pairs_of = seen_ex (repr ReprKind.Function1D (more_reprs (repr ReprKind.Tuple
    (more_reprs (repr ReprKind.Atom no_reprs) (more_reprs (repr ReprKind.Atom no_reprs) no_reprs))) no_reprs))
    (function_dom (flag Key.Total ∷ []) no_exs three (tuple_dom (more_doms bool_dom (more_doms bool_dom no_doms))))
    (codes "f_1" ∷ codes "f_2" ∷ []) no_exs

-- The view of its result at i.
abbrev result_of : Ex → Ex
result_of i = seen_ex (repr ReprKind.Tuple (more_reprs (repr ReprKind.Atom no_reprs) (more_reprs (repr ReprKind.Atom no_reprs) no_reprs)))
    (tuple_dom (more_doms bool_dom (more_doms bool_dom no_doms))) (codes "f_1" ∷ codes "f_2" ∷ []) (more_exs i no_exs)

-- `f(a)`, and a component of a term.
abbrev f_at_a : Ex
f_at_a = node_ex false (word Fun.Image) (more_exs pairs_of (more_exs n_a no_exs))

abbrev first_of : Ex → Ex
first_of t = node_ex true (index (to_component 1 ∷ [])) (more_exs t no_exs)

-- ---- what picks

-- `f(a)[1]` does, `v[1]` of a view doesn't.
component_of_a_result : picks (first_of f_at_a) ≡ true
component_of_a_result = refl

component_of_a_view : picks (first_of (result_of n_a)) ≡ false
component_of_a_view = refl

-- It does so within `f(a)`, and `m[a]` within nothing.
within_a_result : picked_within (first_of f_at_a) ≡ Some f_at_a
within_a_result = refl

within_no_view : picked_within (at1 false table n_a) ≡ None
within_no_view = refl

-- ---- items

-- `m[a]`: the row at x, where x is a.
a_row : looked_up [] (codes "x") (codes "y" ∷ []) (at1 false table n_a) ≡ Some (record {
  gens = from (name_pat (codes "y")) (comp_ex (row_at (name_ex (codes "x")))
      (over (name_pat (codes "x")) three (cond (ex2 true Op2.Eq (name_ex (codes "x")) n_a) no_gens))) no_gens;
  item = name_ex (codes "y");
} ∷ [])
a_row = refl

-- `m[a][b]`: z is the row at a, which the next names look up, and the item is `z[b]`.
an_item_of_a_row : looked_up [] (codes "x") (codes "z" ∷ codes "y" ∷ []) (at1 true (at1 false table n_a) (name_ex (codes "b"))) ≡
    Some (record {
      gens = from (name_pat (codes "z")) (comp_ex (name_ex (codes "y")) (from (name_pat (codes "y"))
          (comp_ex (row_at (name_ex (codes "x")))
          (over (name_pat (codes "x")) three (cond (ex2 true Op2.Eq (name_ex (codes "x")) n_a) no_gens))) no_gens)) no_gens;
      item = at1 true (name_ex (codes "z")) (name_ex (codes "b"));
    } ∷ [])
an_item_of_a_row = refl

-- With too few names there is none.
too_few_names : looked_up [] (codes "x") (codes "z" ∷ []) (at1 true (at1 false table n_a) (name_ex (codes "b"))) ≡ None
too_few_names = refl

-- Nor is there one of an item of a name, which waits for its matrix.
of_a_name : looked_up [] (codes "x") (codes "y" ∷ []) (at1 false n_a (number_ex (pos 1))) ≡ None
of_a_name = refl

-- `[7; int(1..3)][a]`: 7 where a is one of int(1..3) with none below.
a_literal : domain_list_lookup (codes "x") (at1 false (matrix_ex (more_exs (number_ex (pos 7)) no_exs) three) n_a) ≡ Some (record {
  gens = cond (fun1 true Fun.Or (comp_ex (ex2 true Op2.Eq (name_ex (codes "x")) n_a) (over (name_pat (codes "x")) three no_gens)))
      (cond (ex2 true Op2.Eq (fun1 false Fun.Sum (comp_ex (number_ex (pos 1)) (over (name_pat (codes "x")) three
      (cond (ex2 true Op2.Lt (name_ex (codes "x")) n_a) no_gens)))) (number_ex (pos 0))) no_gens);
  item = number_ex (pos 7);
} ∷ [])
a_literal = refl

-- ---- components

-- `f(a)[1]`: z is the result at a, and the item is `z[1]`.
component_looked_up : looked_up [] (codes "x") (codes "z" ∷ codes "y" ∷ []) (first_of f_at_a) ≡ Some (record {
  gens = from (name_pat (codes "z")) (comp_ex (name_ex (codes "y")) (from (name_pat (codes "y"))
      (comp_ex (result_of (name_ex (codes "x")))
      (over (name_pat (codes "x")) three (cond (ex2 true Op2.Eq (name_ex (codes "x")) n_a) no_gens))) no_gens)) no_gens;
  item = first_of (name_ex (codes "z"));
} ∷ [])
component_looked_up = refl

-- ---- names for components

-- Of three names the first two are for arguments that are pairs.
two_of_three : names_for (codes "u" ∷ codes "v" ∷ codes "w" ∷ [])
    (function_dom [] no_exs (tuple_dom (more_doms three (more_doms two no_doms))) bool_dom) ≡ codes "u" ∷ codes "v" ∷ []
two_of_three = refl

-- g : function (int(1..3), int(4..5)) --> bool, kept by argument, with more names than its arguments have components.
arguments_are_listed : view_listing (codes "x") (codes "y") (codes "u" ∷ codes "v" ∷ codes "w" ∷ [])
    (seen_ex (repr ReprKind.FunctionND (more_reprs (repr ReprKind.Atom no_reprs) no_reprs))
    (function_dom (flag Key.Total ∷ []) no_exs (tuple_dom (more_doms three (more_doms two no_doms))) bool_dom) (codes "g" ∷ []) no_exs)
    ≡ Some (record {
      gens = over (tuple_pat (more_pats (name_pat (codes "u")) (more_pats (name_pat (codes "v")) no_pats)))
          (tuple_dom (more_doms three (more_doms two no_doms))) no_gens;
      item = node_ex false tuple_literal (more_exs
          (node_ex false tuple_literal (more_exs (name_ex (codes "u")) (more_exs (name_ex (codes "v")) no_exs)))
          (more_exs (seen_ex (repr ReprKind.Atom no_reprs) bool_dom (codes "g" ∷ [])
          (more_exs (name_ex (codes "u")) (more_exs (name_ex (codes "v")) no_exs))) no_exs));
    })
arguments_are_listed = refl
