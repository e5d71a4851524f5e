-- Alternatives one by one: those of literals, and what is made of each.
use Rattle.std.specs.Prelude.{ℕ, Bool, true, false, ◌||◌, pos, List, Option, Some, None, if◌then◌else◌}
use Rattle.ess_semantics.specs.declared.words.Op1.{Op1}
use Rattle.ess_semantics.specs.declared.words.Op2.{Op2}
use Rattle.ess_semantics.specs.Values.{Text}
use Rattle.ess_semantics.specs.Trees.{tuple_literal, name_pat, Ex, number_ex, name_ex, node_ex, ex1, ex2, no_exs, more_exs, Gens}
use Rattle.ess_semantics.specs.Trees.{no_gens, from, cond}
use Rattle.ess_rules_laws.specs.Apart.{are_apart}
use Rattle.ess_rules_laws.specs.Listings.{Alternative}
use Rattle.ess_rules_laws.specs.ListedSources.{laid_out}
use Rattle.ess_rules_laws.specs.Lookups.{picking}
use Rattle.ess_rules_laws.specs.AlternativeLookups.{none_at}
use Rattle.ess_rules_sources.specs.PureAlternatives.{alternative_of}

-- ---- of literals

-- An item where the index is its number.
abbrev pub numbered : ℕ → Ex → Ex → Alternative
numbered k i e = alternative_of (cond (ex2 true Op2.Eq i (number_ex (pos k))) no_gens) e

-- The two items of a tuple.
abbrev pub tuple_pair : Ex → Option (Ex × Ex)
tuple_pair (node_ex false tuple_literal (more_exs a (more_exs b no_exs))) = Some (a, b)
tuple_pair e = None

-- That a isn't x.
abbrev pub differs : Ex → Ex → Ex
differs a x = ex1 true Op1.Not (ex2 true Op2.Eq a x)

-- That x, where it is a, isn't b, before other conditions. Where b is apart from one of the two the form tells that.
abbrev pub unless_apart : Ex → Ex → Ex → Gens → Gens
unless_apart b a x gs = if are_apart b a || are_apart b x then gs else cond (differs b x) gs

-- The result b where x is a and none of those before it.
abbrev pub case_of : List Ex → Ex → Ex → Ex → Alternative
case_of bs x a b = alternative_of (cond (ex2 true Op2.Eq x a) (none_at bs a x)) b

-- ---- of others

-- What picks the one item of an alternative, which is called x.
abbrev pub picked_from : Bool → Text → Ex → Alternative → Ex
picked_from b x e a = picking b x (laid_out a) e

-- The alternative's item, which is called x, as the operand in e.
abbrev pub put_through : Text → Ex → Alternative → Alternative
put_through x e a = alternative_of (from (name_pat x) (laid_out a) no_gens) e

-- The members of what the alternative picks, which is called y; each member is called x.
abbrev pub members_of : Text → Text → Alternative → Alternative
members_of y x a = alternative_of (from (name_pat y) (laid_out a) (from (name_pat x) (name_ex y) no_gens)) (name_ex x)
