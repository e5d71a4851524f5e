-- Worked examples: n is a table of a given, f and r are ones of finds, which a view of a set and one of a relation read.
use Rattle.std.proofs.Common.{◌≡◌, refl, Bool, true, false, ◌||◌, [], ◌∷◌, codes, Some}
use Rattle.ess_semantics.specs.declared.words.Op2.{Op2}
use Rattle.ess_semantics.specs.declared.words.Fun.{Fun}
use Rattle.ess_semantics.specs.declared.words.ReprKind.{ReprKind}
use Rattle.ess_semantics.specs.Values.{Text}
use Rattle.ess_semantics.specs.Order.{same_text}
use Rattle.ess_semantics.specs.Trees.{both_ends, name_pat, Repr, repr, no_reprs, more_reprs, Ex, cell_ex, comp_ex, seen_ex, no_exs, more_exs, no_gens, over, from, Dom, bool_dom, int_dom, set_dom, ex2, fun1}
use Rattle.ess_semantics.proofs.Shorthands.{N, n}
use Rattle.ess_repr_declare_laws.specs.SizeTerms.{unused_name, slots_ex}
use Rattle.ess_rules_laws.specs.SlotListings.{slots_dom}
use Rattle.ess_rules_laws.specs.SourceRules.{list_of}
use Rattle.ess_refine_laws.specs.AllRules.{Supply}
use Rattle.ess_kind_rules_laws.specs.KindRules.{over_a_view, kind_rewrite}
use Rattle.ess_given_laws.specs.Given.{none_bound, is_fixed, GivenIn}
use Rattle.ess_given_kinds_laws.specs.GivenKinds.{kind_binds}

-- The table n, and the name that sizes bind.
abbrev u : Text → Bool
u a = same_text (codes "n") a || same_text unused_name a

abbrev supply : Supply
supply = record {
  one = codes "o";
  other = codes "p";
  third = codes "q";
  parts = [];
  index_domain = λ e. bool_dom;
  copy = λ e. e;
}

abbrev atom : Repr
atom = repr ReprKind.Atom no_reprs

-- `int(1..n)`
abbrev up_to_n : Dom
up_to_n = int_dom (both_ends ∷ []) (more_exs (n 1) (more_exs (cell_ex false (codes "n") no_exs) no_exs))

-- A set of its members that is found, and one that is given.
abbrev set_of : Text → Ex
set_of t = seen_ex (repr ReprKind.Explicit (more_reprs atom no_reprs)) (set_dom [] no_exs up_to_n) (t ∷ []) no_exs

-- `or([x = 1 | x <- s])`
abbrev one_of : Ex → Ex
one_of s = fun1 true Fun.Or (comp_ex (ex2 true Op2.Eq (N (codes "x")) (n 1)) (from (name_pat (codes "x")) s no_gens))

-- The name of the source isn't one of u, so nothing that the rule binds is fixed.
binds : kind_binds u over_a_view (one_of (set_of (codes "f"))) ≡ false
binds = refl

-- Where it is one of u its source is fixed, and then the new names belong to u too.
abbrev with_x : Text → Bool
with_x a = u a || same_text (codes "x") a

binds-fixed : kind_binds with_x over_a_view (one_of (set_of (codes "n"))) ≡ true
binds-fixed = refl

-- The view in slot o of the set.
abbrev slot : Ex
slot = seen_ex atom up_to_n (codes "f" ∷ []) (more_exs (N (codes "o")) no_exs)

-- Over the slots, of which there are as many as the given domain says.
abbrev over_slots : Ex
over_slots = fun1 true Fun.Or (comp_ex (ex2 true Op2.Eq slot (n 1))
    (over (name_pat (codes "o")) (slots_dom (slots_ex (set_dom [] no_exs up_to_n))) no_gens))

rewritten : kind_rewrite supply [] over_a_view (one_of (set_of (codes "f")))
    ≡ Some (fun1 true Fun.Or (list_of (more_exs over_slots no_exs)))
rewritten = refl

slots-given : GivenIn u over_slots
slots-given = (((((refl, tt), refl, (refl, tt)), (tt, tt)), (refl, refl, tt)), tt)

-- A relation that is kept as a set: o is bound over that set. Were it one of u, the set would have to be fixed, which it isn't.
abbrev kept : Ex
kept = seen_ex (repr ReprKind.Explicit (more_reprs (repr ReprKind.Tuple (more_reprs atom no_reprs)) no_reprs))
    (set_dom [] no_exs up_to_n) (codes "r" ∷ []) no_exs

abbrev with_o : Text → Bool
with_o a = u a || same_text (codes "o") a

not-drawn : (none_bound with_o (name_pat (codes "o")) || is_fixed with_o kept ≡ false) × (none_bound u (name_pat (codes "o")) ≡ true)
not-drawn = (refl, refl)
