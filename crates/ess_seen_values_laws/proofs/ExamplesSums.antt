-- Worked examples: what rules make of a size of a set that is made of two, of a sum over its members, and of a condition that leaves a sum.
use Rattle.std.proofs.Common.{◌≡◌, refl, true, false, [], ◌∷◌, pos, Some, None}
use Rattle.std.specs.Prelude.{codes}
use Rattle.ess_semantics.specs.declared.words.Op1.{Op1}
use Rattle.ess_semantics.specs.declared.words.Op2.{Op2}
use Rattle.ess_semantics.specs.declared.words.Fun.{Fun}
use Rattle.ess_semantics.specs.declared.words.ReprKind.{ReprKind}
use Rattle.ess_semantics.specs.Values.{Text}
use Rattle.ess_semantics.specs.Trees.{repr, no_reprs, both_ends, name_pat, Ex, number_ex, name_ex, comp_ex, cell_ex, seen_ex, no_exs, more_exs, Gens, no_gens, over, from, cond, bool_dom, int_dom, set_dom, ex1, ex2, fun1}
use Rattle.ess_rules_laws.specs.SourceRules.{list_of}
use Rattle.ess_rules_laws.specs.SlotListings.{slots_dom}
use Rattle.ess_refine_laws.specs.AllRules.{Supply, rewrite, size, over_a_source, condition}

abbrev supply : Supply
supply = record {
  one = codes "x";
  other = codes "v";
  third = codes "w";
  parts = [];
  index_domain = λ e. bool_dom;
  copy = λ e. e;
}

-- A set in the table of this name.
abbrev kept : Text → Ex
kept n = seen_ex (repr ReprKind.Occurrence no_reprs)
    (set_dom [] no_exs (int_dom (both_ends ∷ []) (more_exs (number_ex (pos 1)) (more_exs (number_ex (pos 3)) no_exs)))) (n ∷ []) no_exs

abbrev a : Ex
a = kept (codes "a")

abbrev b : Ex
b = kept (codes "b")

abbrev sum : Ex → Gens → Ex
sum e gs = fun1 false Fun.Sum (comp_ex e gs)

-- That the new name isn't in a set.
abbrev lacks : Ex → Ex
lacks s = ex1 true Op1.Not (ex2 true Op2.Member (name_ex (codes "x")) s)

-- The size of a union is that of a sum over its members.
sized : rewrite supply [] size (ex1 false Op1.Bar (ex2 false Op2.Union a b))
    ≡ Some (sum (number_ex (pos 1)) (from (name_pat (codes "x")) (ex2 false Op2.Union a b) no_gens))
sized = refl

-- A sum over a union is the sum of two: each member is added up once.
added : rewrite supply [] over_a_source (sum (name_ex (codes "y")) (from (name_pat (codes "y")) (ex2 false Op2.Union a b) no_gens))
    ≡ Some (fun1 false Fun.Sum (list_of (more_exs (sum (name_ex (codes "x")) (from (name_pat (codes "x")) a no_gens))
    (more_exs (sum (name_ex (codes "x")) (from (name_pat (codes "x")) b (cond (lacks a) no_gens))) no_exs))))
added = refl

-- The number at a place of a table with three, and that it is in use.
abbrev at_place : Ex
at_place = cell_ex false (codes "n") (more_exs (name_ex (codes "k")) no_exs)

abbrev in_use : Ex
in_use = cell_ex true (codes "t") (more_exs (name_ex (codes "k")) no_exs)

abbrev places : Gens → Gens
places gs = over (name_pat (codes "k")) (slots_dom (number_ex (pos 3))) gs

-- A condition that reads a cell leaves a sum as a factor; one that reads none stays.
leaves : rewrite supply [] condition (sum at_place (places (cond in_use no_gens)))
    ≡ Some (sum (ex2 false Op2.Times (fun1 false Fun.ToInt in_use) (sum at_place no_gens)) (places no_gens))
leaves = refl

stays : rewrite supply [] condition
    (sum (name_ex (codes "k")) (places (cond (ex2 true Op2.Lt (name_ex (codes "k")) (number_ex (pos 2))) no_gens))) ≡ None
stays = refl
