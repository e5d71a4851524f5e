-- Worked examples: what rules make of `and([x < 3 | x <- p union q])`, of such a fold over `p - q`, of `p = q` and of
-- `2 in (p intersect q)`, where p and q are bound over sets of numbers. Each is a tree over views again.
use Rattle.std.proofs.Common.{◌≡◌, refl, ℕ, Bool, true, false, List, [], ◌∷◌, pos, Option, Some, None, codes}
use Rattle.ess_semantics.specs.declared.words.Op1.{Op1}
use Rattle.ess_semantics.specs.declared.words.Op2.{Op2}
use Rattle.ess_semantics.specs.declared.words.Fun.{Fun}
use Rattle.ess_semantics.specs.Values.{Text}
use Rattle.ess_semantics.specs.Names.{Names}
use Rattle.ess_semantics.specs.Trees.{name_pat, Ex, number_ex, name_ex, comp_ex, no_exs, more_exs, Gens, no_gens, from, cond, bool_dom, ex1, ex2, fun1}
use Rattle.ess_rules_laws.specs.SourceRules.{list_of}
use Rattle.ess_refine_laws.specs.AllRules.{Supply, rewrite, over_a_source, of_one_source, equal_sets, in_two}
use Rattle.ess_flat_laws.specs.Flat.{denied, both, below}
use Rattle.ess_seen_laws.specs.ess_bare_laws.Lean.{of_all}
use Rattle.ess_seen_laws.specs.Seen.{scalars, sets_of, Bound, over_a_range, from_a_set, bound_types, SetTerm, drawn, Seen, number, named, one, two, folded, of_items, last_item, item_before, within, at_end, among, where_holds}

-- The new names.
abbrev pub supply : Supply
supply = record {
  one = codes "v";
  other = codes "w";
  third = codes "z";
  parts = [];
  index_domain = λ e. bool_dom;
  copy = λ e. e;
}

-- No tables.
abbrev pub tables : Text → Option (Bool × List ℕ)
tables a = None

-- The names around: p and q are sets of numbers, n is a number.
abbrev pub around : Names Bound
around = (codes "p", from_a_set (sets_of (scalars false))) ∷ (codes "q", from_a_set (sets_of (scalars false)))
    ∷ (codes "n", over_a_range false) ∷ []

abbrev drawn_too : Names Bound
drawn_too = (codes "v", from_a_set (scalars false)) ∷ around

-- The two sets.
abbrev pub p : Ex
p = name_ex (codes "p")

abbrev pub q : Ex
q = name_ex (codes "q")

-- `and([a < 3 | a <- ..])`.
abbrev each_below : Text → Gens → Ex
each_below a gs = fun1 true Fun.And (comp_ex (ex2 true Op2.Lt (name_ex a) (number_ex (pos 3))) gs)

-- `v <- s` before others.
abbrev pub behind : Ex → Gens → Gens
behind s gs = from (name_pat (codes "v")) s gs

-- `v in s`.
abbrev pub in_it : Ex → Ex
in_it s = ex2 true Op2.Member (name_ex (codes "v")) s

-- It is a tree over views.
abbrev pub seen_in : {s : Ex} → SetTerm tables drawn_too s (scalars false) → Seen tables drawn_too (in_it s) true
seen_in h = within (named refl refl) h

-- ---- a union

abbrev over_both : Ex
over_both = each_below (codes "x") (from (name_pat (codes "x")) (ex2 false Op2.Union p q) no_gens)

abbrev one_by_one : Ex
one_by_one = fun1 true Fun.And (list_of (more_exs (each_below (codes "v") (behind p no_gens))
    (more_exs (each_below (codes "v") (behind q (cond (ex1 true Op1.Not (in_it p)) no_gens))) no_exs)))

parted : rewrite supply (bound_types around) over_a_source over_both ≡ Some one_by_one
parted = refl

not-alone : rewrite supply (bound_types around) of_one_source over_both ≡ None
not-alone = refl

seen-parted : Seen tables around one_by_one true
seen-parted = of_items of_all (item_before (folded of_all (among (drawn refl) at_end) (two below (named refl refl) number))
    (last_item (folded of_all (among (drawn refl) (where_holds (one denied (seen_in (drawn refl))) at_end))
    (two below (named refl refl) number))))

-- ---- a difference

abbrev over_rest : Ex
over_rest = each_below (codes "x") (from (name_pat (codes "x")) (ex2 false Op2.Minus p q) no_gens)

abbrev rest_alone : Ex
rest_alone = each_below (codes "v") (behind p (cond (ex1 true Op1.Not (in_it q)) no_gens))

alone : rewrite supply (bound_types around) of_one_source over_rest ≡ Some rest_alone
alone = refl

-- ---- signs

abbrev all_in : Ex → Ex → Ex
all_in s t = fun1 true Fun.And (comp_ex (in_it t) (behind s no_gens))

both-ways : rewrite supply (bound_types around) equal_sets (ex2 true Op2.Eq p q) ≡ Some (ex2 true Op2.And (all_in p q) (all_in q p))
both-ways = refl

seen-both-ways : Seen tables around (ex2 true Op2.And (all_in p q) (all_in q p)) true
seen-both-ways = two both (folded of_all (among (drawn refl) at_end) (seen_in (drawn refl)))
    (folded of_all (among (drawn refl) at_end) (seen_in (drawn refl)))

-- Of numbers `=` stays.
not-of-numbers : rewrite supply (bound_types around) equal_sets (ex2 true Op2.Eq (name_ex (codes "n")) (number_ex (pos 3))) ≡ None
not-of-numbers = refl

shared-members : rewrite supply (bound_types around) in_two (ex2 true Op2.Member (number_ex (pos 2)) (ex2 false Op2.Intersect p q))
    ≡ Some (ex2 true Op2.And (ex2 true Op2.Member (number_ex (pos 2)) p) (ex2 true Op2.Member (number_ex (pos 2)) q))
shared-members = refl
