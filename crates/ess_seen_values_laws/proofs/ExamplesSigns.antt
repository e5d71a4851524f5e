-- Worked examples: what rules make of signs between sets, and of `in` a set that is made of two, where sets are kept by which members
-- occur.
use Rattle.std.proofs.Common.{◌≡◌, refl, true, false, [], ◌∷◌, pos, Some, None}
use Rattle.std.specs.Prelude.{codes}
use Rattle.ess_semantics.specs.declared.words.Op1.{Op1}
use Rattle.ess_semantics.specs.declared.words.Op2.{Op2}
use Rattle.ess_semantics.specs.declared.words.ReprKind.{ReprKind}
use Rattle.ess_semantics.specs.Values.{Text}
use Rattle.ess_semantics.specs.Trees.{repr, no_reprs, both_ends, Ex, number_ex, name_ex, seen_ex, no_exs, more_exs, Dom, bool_dom, int_dom, set_dom, ex1, ex2}
use Rattle.ess_rules_laws.specs.InclusionRules.{every}
use Rattle.ess_refine_laws.specs.AllRules.{Supply, rewrite, not_equal, turned, strictly, equal_sets, included_sets, in_two}

abbrev supply : Supply
supply = record {
  one = codes "x";
  other = codes "v";
  third = codes "w";
  parts = [];
  index_domain = λ e. bool_dom;
  copy = λ e. e;
}

abbrev inner : Dom
inner = int_dom (both_ends ∷ []) (more_exs (number_ex (pos 1)) (more_exs (number_ex (pos 3)) no_exs))

-- A set in the table of this name.
abbrev kept : Text → Ex
kept n = seen_ex (repr ReprKind.Occurrence no_reprs) (set_dom [] no_exs inner) (n ∷ []) no_exs

abbrev a : Ex
a = kept (codes "a")

abbrev b : Ex
b = kept (codes "b")

-- That the new name is in a set.
abbrev has : Ex → Ex
has s = ex2 true Op2.Member (name_ex (codes "x")) s

-- `!=` of sets is no equation, and each rule of a sign leaves simpler signs.
differ : rewrite supply [] not_equal (ex2 true Op2.Ne a b) ≡ Some (ex1 true Op1.Not (ex2 true Op2.Eq a b))
differ = refl

turns : rewrite supply [] turned (ex2 true Op2.Supset a b) ≡ Some (ex2 true Op2.Subset b a)
turns = refl

strict : rewrite supply [] strictly (ex2 true Op2.Subset a b)
    ≡ Some (ex2 true Op2.And (ex2 true Op2.SubsetEq a b) (ex1 true Op1.Not (ex2 true Op2.SubsetEq b a)))
strict = refl

alike : rewrite supply [] equal_sets (ex2 true Op2.Eq a b)
    ≡ Some (ex2 true Op2.And (every (codes "x") a (has b)) (every (codes "x") b (has a)))
alike = refl

includes : rewrite supply [] included_sets (ex2 true Op2.SubsetEq (ex2 false Op2.Minus a b) b)
    ≡ Some (every (codes "x") (ex2 false Op2.Minus a b) (has b))
includes = refl

-- `in` asks both of what a set is made of.
in-both : rewrite supply [] in_two (has (ex2 false Op2.Minus a b)) ≡ Some (ex2 true Op2.And (has a) (ex1 true Op1.Not (has b)))
in-both = refl

-- Between scalars the signs stay.
scalars-differ : rewrite supply [] not_equal (ex2 true Op2.Ne (number_ex (pos 1)) (number_ex (pos 2))) ≡ None
scalars-differ = refl

scalars-alike : rewrite supply [] equal_sets (ex2 true Op2.Eq (number_ex (pos 1)) (number_ex (pos 1))) ≡ None
scalars-alike = refl
