-- The set of the items of a comprehension offers each item once: generator by generator, and behind a generator over a domain an
-- item only at the first value that has it. A new name runs over the domain, so that at the values before it the old one may.
use Rattle.std.specs.Prelude.{◌≡◌, Bool, true, false, ◌||◌, not, List, [], ◌∷◌, Option, Some, None, IsTrue, is_some, if◌then◌else◌}
use Rattle.ess_semantics.specs.declared.words.Op1.{Op1}
use Rattle.ess_semantics.specs.declared.words.Op2.{Op2}
use Rattle.ess_semantics.specs.declared.words.Fun.{Fun}
use Rattle.ess_semantics.specs.Values.{Text}
use Rattle.ess_semantics.specs.Order.{same_text}
use Rattle.ess_semantics.specs.Trees.{name_pat, Ex, name_ex, comp_ex, ex1, ex2, fun1, Gens, no_gens, over, from, cond, Dom, bool_dom, int_dom, name_dom}
use Rattle.ess_semantics.specs.Substitution.{substitute, substitute_gens, for_name, NamesAre}
use Rattle.ess_semantics.specs.Meaning.{Env, meaning}
use Rattle.ess_semantics.specs.Meets.{Meets}
use Rattle.ess_rules_laws.specs.Rules.{Unused}
use Rattle.ess_rules_laws.specs.MatrixRules.{UnusedDom}
use Rattle.ess_rules_laws.specs.InclusionRules.{every}
use Rattle.ess_rules_laws.specs.Listings.{Alternative}
use Rattle.ess_rules_laws.specs.ListedSources.{Offers}

-- ---- the rule

-- Whether the domain is that of an atom.
abbrev pub is_atom_dom : Dom → Bool
is_atom_dom bool_dom = true
is_atom_dom (int_dom rs es) = true
is_atom_dom (name_dom a) = true
is_atom_dom d = false

-- `toSet([e | gs])`.
abbrev pub set_of_items : Ex → Gens → Ex
set_of_items e gs = fun1 false Fun.ToSet (comp_ex e gs)

-- `[e | x : d, x < w, gs]`: the items at the values before that of w.
abbrev pub items_before : Text → Text → Dom → Ex → Gens → Ex
items_before w x d e gs = comp_ex e (over (name_pat x) d (cond (ex2 true Op2.Lt (name_ex x) (name_ex w)) gs))

-- That y is none of them.
abbrev pub is_new : Text → Text → Text → Text → Dom → Ex → Gens → Ex
is_new y z w x d e gs = every z (items_before w x d e gs) (ex1 true Op1.Not (ex2 true Op2.Eq (name_ex z) (name_ex y)))

-- `toSet([e | gs])` with w in the place of x.
abbrev pub set_at : Text → Text → Ex → Gens → Ex
set_at w x e gs = set_of_items (substitute (for_name x (name_ex w)) e) (substitute_gens (for_name x (name_ex w)) gs)

-- Each item of the rest where the condition holds, and at each value each item that is new there.
abbrev pub items_where : Text → Ex → Ex → Gens → Alternative
items_where y c e gs = record { gens = cond c (from (name_pat y) (set_of_items e gs) no_gens); item = name_ex y }

abbrev pub items_over : Text → Text → Text → Text → Dom → Ex → Gens → Alternative
items_over y z w x d e gs = record {
  gens = over (name_pat w) d (from (name_pat y) (set_at w x e gs) (cond (is_new y z w x d e gs) no_gens));
  item = name_ex y;
}

-- The alternatives of the set of the items of a comprehension; y, z and w are new names. Without a generator it is the item; behind
-- a condition that of the rest; over the domain of an atom, at each value w, that of the rest but for items of earlier values.
abbrev pub items_once : Text → Text → Text → Ex → Option (List Alternative)
items_once y z w (fun1 false Fun.ToSet (comp_ex e no_gens)) = Some (record { gens = no_gens; item = e } ∷ [])
items_once y z w (fun1 false Fun.ToSet (comp_ex e (cond c gs))) = Some (items_where y c e gs ∷ [])
items_once y z w (fun1 false Fun.ToSet (comp_ex e (over (name_pat x) d gs))) =
    if is_atom_dom d then Some (items_over y z w x d e gs ∷ []) else None
items_once y z w e = None

-- ---- what it counts on

-- The new names are told apart, and from the one that the first generator binds; the tree has y and w nowhere, and binds the name of
-- the first generator nowhere behind it.
abbrev pub OnceApart : Text → Text → Text → Ex → Type 0
OnceApart y z w (fun1 b f (comp_ex e (over (name_pat x) d gs))) =
    (same_text y w ≡ false) × (same_text x w ≡ false) × (same_text z y ≡ false) × Unused y (comp_ex e gs) × Unused w (comp_ex e gs)
    × UnusedDom y d × UnusedDom w d × NamesAre (λ a. true) (λ a. not (same_text x a || same_text w a)) (comp_ex e gs)
OnceApart y z w e = Unit {0}

-- Where the set has a value it offers the alternatives: each item is there once.
abbrev pub ItemsOnceOffer : Type 0
ItemsOnceOffer = (y z w : Text) (e : Ex) (l : List Alternative) → items_once y z w e ≡ Some l → OnceApart y z w e → (env : Env) →
    IsTrue (is_some (meaning e env)) → Meets e env → Offers e l env
