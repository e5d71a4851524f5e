-- Worked examples: what typing asks of conditions and index domains, and what it doesn't. f and i are numbers that are found, m is a matrix
-- that is found, n a number that is given.
use Rattle.std.proofs.Common.{◌≡◌, refl, Bool, true, false, [], ◌∷◌, None, codes}
use Rattle.std.specs.Prelude.{is_some}
use Rattle.ess_semantics.specs.declared.words.Op2.{Op2}
use Rattle.ess_semantics.specs.declared.words.Fun.{Fun}
use Rattle.ess_semantics.specs.declared.words.ReprKind.{ReprKind}
use Rattle.ess_semantics.specs.Values.{Text, a_matrix}
use Rattle.ess_semantics.specs.Trees.{word, matrix_literal, name_pat, repr, no_reprs, more_reprs, Ex, node_ex, comp_ex, cell_ex, seen_ex, no_exs, more_exs, no_gens, over, from, cond, bool_dom, matrix_dom, no_doms, more_doms}
use Rattle.ess_semantics.specs.Types.{int_ty, compound2}
use Rattle.ess_semantics.specs.Scopes.{Scope, empty_scope}
use Rattle.ess_semantics.specs.Judgements.{is_well_typed_at}
use Rattle.ess_semantics.specs.Refined.{is_refined}
use Rattle.ess_semantics.proofs.Shorthands.{N, n, bi, fn, at, es1, es2, upto}
use Rattle.ess_refine_laws.specs.LeavingConditions.{condition_leaves}
use Rattle.ess_refine_laws.specs.AllRules.{Supply}
use Rattle.ess_open_rules_laws.specs.OpenSources.{counted_apart, kept_behind}
use Rattle.ess_given_laws.specs.ess_chain_names_laws.Steps.{told_axis}
use Rattle.ess_given_laws.specs.Given.{is_fixed_dom, GivenIn}
use Rattle.ess_given_conditions_laws.specs.InScope.{is_given_in}
use Rattle.ess_given_conditions_laws.specs.ConditionsEnd.{own_read_none}

abbrev f : Text
f = codes "f"

abbrev i : Text
i = codes "i"

abbrev m : Text
m = codes "m"

abbrev x : Text
x = codes "x"

abbrev y : Text
y = codes "y"

-- All of them are found, but n.
abbrev scope : Scope
scope = record empty_scope {
  tys = (codes "n", int_ty) ∷ (f, int_ty) ∷ (i, int_ty) ∷ (m, compound2 a_matrix int_ty int_ty) ∷ [];
  depends_on_finds = f ∷ i ∷ m ∷ [];
}

abbrev list_of_one : Ex → Ex
list_of_one e = node_ex false matrix_literal (es1 e)

-- `[x | x : int(1..2), e = x]`
abbrev listed_where : Ex → Ex
listed_where e = comp_ex (N x) (over (name_pat x) (upto 2) (cond (bi Op2.Eq e (N x)) no_gens))

-- ---- lex signs: typing asks that conditions are fixed

lex-asks : (is_well_typed_at true (bi Op2.LexLt (listed_where (N f)) (list_of_one (n 1))) scope ≡ false)
    × (is_well_typed_at true (bi Op2.LexLt (listed_where (N (codes "n"))) (list_of_one (n 1))) scope ≡ true)
lex-asks = (refl, refl)

-- ---- `allDiff`: typing doesn't ask it, and such a list is refined; a rule counts its items instead

different-may : is_well_typed_at true (fn Fun.AllDiff (listed_where (N f))) scope ≡ true
different-may = refl

abbrev different : Ex
different = fn Fun.AllDiff (listed_where (cell_ex false f no_exs))

abbrev supply : Supply
supply = record {
  one = codes "#1";
  other = codes "#2";
  third = codes "#3";
  parts = codes "#4" ∷ codes "#5" ∷ [];
  index_domain = λ e. bool_dom;
  copy = λ e. e;
}

different-reads : (is_refined different ≡ true) × (condition_leaves different ≡ None)
    × (own_read_none (word Fun.AllDiff) (more_exs (listed_where (cell_ex false f no_exs)) no_exs) ≡ false)
    × (is_some (counted_apart supply [] different) ≡ true)
different-reads = (refl, refl, refl, refl)

-- ---- index domains: that of a comprehension counts its items, and those of a judged one may be those of a matrix that is found

found-may : is_well_typed_at true (comp_ex (N x) (from (name_pat x) (N m) no_gens)) scope ≡ true
found-may = refl

abbrev found : Ex
found = seen_ex (repr ReprKind.Matrix (more_reprs (repr ReprKind.Atom no_reprs) no_reprs))
    (matrix_dom (more_doms (upto 2) no_doms) (upto 2))
    (m ∷ []) no_exs

abbrev none : Text → Bool
none a = false

found-given : GivenIn none (comp_ex (N x) (from (name_pat x) found no_gens))
found-given = (refl, (refl, ((refl, tt), refl, tt), tt))

found-counts : (is_fixed_dom none (told_axis (comp_ex (N x) (from (name_pat x) found no_gens))) ≡ false)
    × (is_fixed_dom none (told_axis found) ≡ true)
found-counts = (refl, refl)

-- ---- one name for two things: given at its places, x : int(1..2), y : int(1..x) and then x <- [f]

abbrev twice : Ex
twice = bi Op2.Plus
    (fn Fun.Sum (comp_ex (n 1) (over (name_pat x) (upto 2) (over (name_pat y) (upto 2) no_gens))))
    (fn Fun.Sum (comp_ex (N x) (from (name_pat x) (list_of_one (cell_ex false f no_exs)) no_gens)))

twice-given : is_given_in none none twice ≡ true
twice-given = refl

-- ---- a list over what is picked out of a literal at a found place is judged. It keeps the order, so the rule for comprehensions in any
-- place may not open it: a condition that reads what is found would come in.

abbrev picked : Ex → Ex
picked e = comp_ex (N y) (from (name_pat y) (at (list_of_one (node_ex false matrix_literal (es2 (n 1) (n 2)))) e) no_gens)

picked-may : is_well_typed_at true (bi Op2.LexLt (picked (N i)) (list_of_one (n 3))) scope ≡ true
picked-may = refl

picked-waits : kept_behind supply [] (picked (cell_ex false i no_exs)) ≡ None
picked-waits = refl
