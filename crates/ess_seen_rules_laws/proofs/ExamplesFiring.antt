-- Worked examples: which rules may fire, and what they make of `|s|`, of `forAll y in s . y > 0`, of the same over `s union s`, of
-- `s subsetEq s`, and of `sum([y | y <- s, y > 0])`, where s is kept by which members occur.
use Rattle.std.proofs.Common.{◌≡◌, refl, true, false, [], ◌∷◌, pos, Some, None}
use Rattle.std.specs.Prelude.{codes}
use Rattle.ess_semantics.specs.declared.words.Op1.{Op1}
use Rattle.ess_semantics.specs.declared.words.Op2.{Op2}
use Rattle.ess_semantics.specs.declared.words.Fun.{Fun}
use Rattle.ess_semantics.specs.declared.words.ReprKind.{ReprKind}
use Rattle.ess_semantics.specs.Trees.{repr, no_reprs, both_ends, name_pat, Ex, number_ex, name_ex, comp_ex, cell_ex, seen_ex, no_exs, more_exs, Gens, no_gens, over, from, cond, Dom, bool_dom, int_dom, set_dom, ex1, ex2, fun1}
use Rattle.ess_rules_laws.specs.SourceRules.{list_of}
use Rattle.ess_refine_laws.specs.AllRules.{Supply, rewrite, over_one, over_a_literal, over_a_source, included_sets, included_multisets, in_two, choice, condition, condition_behind, list_of_a_term, size, in_a_term}
use Rattle.ess_kind_rules_laws.specs.KindRules.{over_a_view, member_of_a_multiset}
use Rattle.ess_open_rules_laws.specs.OpenRules.{of_kind, of_opening, over_one_source, set_of_a_term, kind_ruled}
use Rattle.ess_seen_laws.specs.MayFire.{may_fire, may_fire_by_kind, CountsMembers}

-- Which may fire.
one-item : may_fire over_one ≡ true
one-item = refl

a-union : may_fire over_a_source ≡ true
a-union = refl

no-count : may_fire included_multisets ≡ false
no-count = refl

no-literal : may_fire over_a_literal ≡ false
no-literal = refl

a-view : may_fire_by_kind (of_kind over_a_view) ≡ true
a-view = refl

no-multiset : may_fire_by_kind (of_kind member_of_a_multiset) ≡ false
no-multiset = refl

no-set-made : may_fire_by_kind (of_opening set_of_a_term) ≡ false
no-set-made = refl

-- ---- what they make

abbrev supply : Supply
supply = record {
  one = codes "x";
  other = codes "v";
  third = codes "w";
  parts = [];
  index_domain = λ e. bool_dom;
  copy = λ e. e;
}

abbrev inner : Dom
inner = int_dom (both_ends ∷ []) (more_exs (number_ex (pos 1)) (more_exs (number_ex (pos 3)) no_exs))

-- The view, and the generators that it offers.
abbrev s : Ex
s = seen_ex (repr ReprKind.Occurrence no_reprs) (set_dom [] no_exs inner) (codes "s" ∷ []) no_exs

abbrev offered : Gens
offered = over (name_pat (codes "x")) inner (cond (cell_ex true (codes "s") (more_exs (name_ex (codes "x")) no_exs)) no_gens)

abbrev above : Ex → Ex
above a = ex2 true Op2.Gt a (number_ex (pos 0))

abbrev each : Ex
each = fun1 true Fun.And (comp_ex (above (name_ex (codes "y"))) (from (name_pat (codes "y")) s no_gens))

abbrev laid-out : Ex
laid-out = fun1 true Fun.And (comp_ex (above (name_ex (codes "x"))) offered)

-- `|s|` counts its members.
counted : rewrite supply [] size (ex1 false Op1.Bar s) ≡
    Some (fun1 false Fun.Sum (comp_ex (number_ex (pos 1)) (from (name_pat (codes "x")) s no_gens)))
counted = refl

-- The quantifier is laid out by the one rule, and by the other one as a part of a fold of one item, which is left by the rule of such.
opened : kind_ruled supply [] (of_opening over_one_source) each ≡ Some laid-out
opened = refl

in-parts : kind_ruled supply [] (of_kind over_a_view) each ≡ Some (fun1 true Fun.And (list_of (more_exs laid-out no_exs)))
in-parts = refl

left : rewrite supply [] over_one (fun1 true Fun.And (list_of (more_exs laid-out no_exs))) ≡ Some laid-out
left = refl

-- It isn't in a term.
no-member : rewrite supply [] in_a_term each ≡ None
no-member = refl

-- ---- sets made of two, and inclusions

abbrev x : Ex
x = name_ex (codes "x")

abbrev both : Ex
both = ex2 false Op2.Union s s

abbrev each_of_both : Ex
each_of_both = fun1 true Fun.And (comp_ex (above (name_ex (codes "y"))) (from (name_pat (codes "y")) both no_gens))

abbrev over_members : Gens → Ex
over_members gs = fun1 true Fun.And (comp_ex (above x) (from (name_pat (codes "x")) s gs))

-- Over a union there are two folds, and the rule of one alternative doesn't fire.
two-folds : rewrite supply [] over_a_source each_of_both ≡ Some (fun1 true Fun.And (list_of
    (more_exs (over_members no_gens)
    (more_exs (over_members (cond (ex1 true Op1.Not (ex2 true Op2.Member x s)) no_gens)) no_exs))))
two-folds = refl

not-alone : kind_ruled supply [] (of_opening over_one_source) each_of_both ≡ None
not-alone = refl

-- At the union itself none of these fires.
at-rest : rewrite supply [] choice both ≡ None
at-rest = refl

-- `|s|` in the union asks both of its parts.
in-both : rewrite supply [] in_two (ex2 true Op2.Member (ex1 false Op1.Bar s) both) ≡
    Some (ex2 true Op2.Or (ex2 true Op2.Member (ex1 false Op1.Bar s) s) (ex2 true Op2.Member (ex1 false Op1.Bar s) s))
in-both = refl

-- An inclusion is laid out by members. The rule that counts them fires at it too, behind that one.
by-members : rewrite supply [] included_sets (ex2 true Op2.SubsetEq s s) ≡
    Some (fun1 true Fun.And (comp_ex (ex2 true Op2.Member x s) (from (name_pat (codes "x")) s no_gens)))
by-members = refl

counts-too : CountsMembers [] included_multisets (ex2 true Op2.SubsetEq s s)
counts-too = record { counts = refl; first = s; second = s; root = refl; sets = refl }

-- ---- sums over members, and the size of a union

abbrev those_above : Ex
those_above =
    fun1 false Fun.Sum (comp_ex (name_ex (codes "y")) (from (name_pat (codes "y")) s (cond (above (name_ex (codes "y"))) no_gens)))

abbrev occurs : Ex
occurs = cell_ex true (codes "s") (more_exs x no_exs)

abbrev summed : Ex
summed = fun1 false Fun.Sum (comp_ex x (over (name_pat (codes "x")) inner (cond occurs (cond (above x) no_gens))))

-- A sum over members is laid out by the rule of quantifiers, with the condition behind.
sum-opened : kind_ruled supply [] (of_opening over_one_source) those_above ≡ Some summed
sum-opened = refl

-- Then the condition that reads a cell leaves, by the one rule, and not by that of the least and the greatest.
sum-left : rewrite supply [] condition summed ≡ Some (fun1 false Fun.Sum (comp_ex
    (ex2 false Op2.Times (fun1 false Fun.ToInt occurs) (fun1 false Fun.Sum (comp_ex x (cond (above x) no_gens))))
    (over (name_pat (codes "x")) inner no_gens)))
sum-left = refl

no-later : rewrite supply [] condition_behind summed ≡ None
no-later = refl

-- `|s union s|` is a sum over the union.
size-of-both : rewrite supply [] size (ex1 false Op1.Bar both) ≡
    Some (fun1 false Fun.Sum (comp_ex (number_ex (pos 1)) (from (name_pat (codes "x")) both no_gens)))
size-of-both = refl

-- At `max([2, 0])`, as an exponent is left, no rule of the greatest fires.
stays-greatest : rewrite supply [] list_of_a_term
    (fun1 false Fun.Max (list_of (more_exs (number_ex (pos 2)) (more_exs (number_ex (pos 0)) no_exs)))) ≡ None
stays-greatest = refl
