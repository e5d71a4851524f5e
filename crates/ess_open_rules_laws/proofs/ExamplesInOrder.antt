-- Worked examples of comprehensions in any place, over what is picked: the order of items stays, and no condition comes in that reads a
-- table.
use Rattle.std.specs.Prelude.{◌≡◌, refl, true, false, [], ◌∷◌, Some, None, codes}
use Rattle.ess_semantics.specs.declared.words.Op2.{Op2}
use Rattle.ess_semantics.specs.declared.words.ReprKind.{ReprKind}
use Rattle.ess_semantics.specs.Values.{Text}
use Rattle.ess_semantics.specs.Trees.{matrix_literal, repr, no_reprs, more_reprs, name_pat, Ex, node_ex, comp_ex, cell_ex, seen_ex, no_exs, no_gens, over, from, cond, bool_dom, matrix_dom, no_doms, more_doms}
use Rattle.ess_semantics.proofs.Shorthands.{N, n, bi, at, es1, es2, upto}
use Rattle.ess_refine_laws.specs.AllRules.{Supply}
use Rattle.ess_open_rules_laws.specs.OpenGenerators.{has_no_source}
use Rattle.ess_open_rules_laws.specs.OpenSources.{is_decided}
use Rattle.ess_open_rules_laws.specs.OpenRules.{open_rewrite, in_order_of_its_source}

abbrev i : Text
i = codes "i"

abbrev x : Text
x = codes "x"

abbrev y : Text
y = codes "y"

-- Names that stand nowhere.
abbrev supply : Supply
supply = record {
  one = codes "#1";
  other = codes "#2";
  third = codes "#3";
  parts = codes "#4" ∷ [];
  index_domain = λ e. bool_dom;
  copy = λ e. e;
}

-- A number that is found.
abbrev found : Ex
found = cell_ex false i no_exs

-- `[y | y <- e]`
abbrev items : Ex → Ex
items e = comp_ex (N y) (from (name_pat y) e no_gens)

-- `[[1, 2]][e]`
abbrev row_at : Ex → Ex
row_at e = at (node_ex false matrix_literal (es1 (node_ex false matrix_literal (es2 (n 1) (n 2))))) e

-- Of the second item of a table: where the number is known the condition `2 = 1` comes in.
row_of_number : open_rewrite supply [] in_order_of_its_source (items (row_at (n 2)))
    ≡ Some (comp_ex (N (codes "#2"))
    (from (name_pat (codes "#1")) (comp_ex (node_ex false matrix_literal (es2 (n 1) (n 2))) (cond (bi Op2.Eq (n 2) (n 1)) no_gens))
    (from (name_pat (codes "#2")) (N (codes "#1")) no_gens)))
row_of_number = refl

-- Where it is found none may: such a list waits for the rules of sources by indices.
row_of_find : open_rewrite supply [] in_order_of_its_source (items (row_at found)) ≡ None
row_of_find = refl

-- m : matrix indexed by [int(1..2), int(1..3)] of bool, and its row at e.
abbrev matrix : Ex
matrix = seen_ex (repr ReprKind.Matrix (more_reprs (repr ReprKind.Atom no_reprs) no_reprs))
    (matrix_dom (more_doms (upto 2) (more_doms (upto 3) no_doms)) bool_dom)
    (codes "m" ∷ []) no_exs

-- The row of a view at a name, as a name of a generator over a domain is, and at what is found.
row_at_name : open_rewrite supply [] in_order_of_its_source (items (at matrix (N x)))
    ≡ Some (comp_ex (N (codes "#2")) (from (name_pat (codes "#1")) (comp_ex (N (codes "#4")) (from (name_pat (codes "#4"))
    (comp_ex (seen_ex (repr ReprKind.Matrix (more_reprs (repr ReprKind.Atom no_reprs) no_reprs))
    (matrix_dom (more_doms (upto 3) no_doms) bool_dom) (codes "m" ∷ []) (es1 (N (codes "#3"))))
    (over (name_pat (codes "#3")) (upto 2) (cond (bi Op2.Eq (N (codes "#3")) (N x)) no_gens)))
    no_gens)) (from (name_pat (codes "#2")) (N (codes "#1")) no_gens)))
row_at_name = refl

row_at_find : open_rewrite supply [] in_order_of_its_source (items (at matrix found)) ≡ None
row_at_find = refl

-- The matrix itself has no condition.
all_rows : open_rewrite supply [] in_order_of_its_source (items matrix)
    ≡ Some (comp_ex (seen_ex (repr ReprKind.Matrix (more_reprs (repr ReprKind.Atom no_reprs) no_reprs))
    (matrix_dom (more_doms (upto 3) no_doms) bool_dom) (codes "m" ∷ []) (es1 (N (codes "#1"))))
    (over (name_pat (codes "#1")) (upto 2) no_gens))
all_rows = refl

-- ---- which comprehensions are decided

-- Over a domain, with a condition on names alone.
over_a_domain : is_decided (comp_ex (N x) (over (name_pat x) (upto 2) (cond (bi Op2.Eq (N x) (n 1)) no_gens))) ≡ true
over_a_domain = refl

-- With a condition that reads a table, behind a generator over such a list too.
with_a_find : is_decided (comp_ex (N x) (over (name_pat x) (upto 2) (cond (bi Op2.Eq (N x) found) no_gens))) ≡ false
with_a_find = refl

within : is_decided (items (comp_ex (N x) (over (name_pat x) (upto 2) (cond (bi Op2.Eq (N x) found) no_gens)))) ≡ false
within = refl

-- The item may read it.
as_its_item : is_decided (comp_ex found (over (name_pat x) (upto 2) no_gens)) ≡ true
as_its_item = refl

-- What isn't laid open may yet bring conditions.
over_a_term : is_decided (items (N x)) ≡ false
over_a_term = refl

-- ---- which index domains may be asked for

-- Of a comprehension over a domain, whatever its conditions and items are, and of what is no comprehension.
counted_over_a_domain : has_no_source (comp_ex found (over (name_pat x) (upto 2) (cond (bi Op2.Eq (N x) (n 1)) no_gens))) ≡ true
counted_over_a_domain = refl

no_comprehension : has_no_source (row_at found) ≡ true
no_comprehension = refl

-- Not of one over a matrix, behind a domain too.
counted_over_a_matrix : has_no_source (comp_ex (N y) (over (name_pat x) (upto 2) (from (name_pat y) matrix no_gens))) ≡ false
counted_over_a_matrix = refl
