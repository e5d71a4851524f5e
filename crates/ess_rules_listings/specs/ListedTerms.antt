-- What terms offer, part by part.
use Rattle.std.specs.Prelude.{true, List, [], ◌∷◌, Option, Some, None, if◌then◌else◌}
use Rattle.ess_semantics.specs.declared.words.Op1.{Op1}
use Rattle.ess_semantics.specs.declared.words.Op2.{Op2}
use Rattle.ess_semantics.specs.Lists.{and_then}
use Rattle.ess_semantics.specs.Values.{Text}
use Rattle.ess_semantics.specs.Trees.{Ex, name_ex, ex1, ex2, Gens, no_gens, cond}
use Rattle.ess_rules_laws.specs.Apart.{are_apart}
use Rattle.ess_rules_laws.specs.Listings.{Alternative, those}

-- An item by itself.
abbrev pub item_alone : Ex → Alternative
item_alone a = record { gens = no_gens; item = a }

-- That an item isn't another.
abbrev pub is_not : Ex → Ex → Ex
is_not b a = ex1 true Op1.Not (ex2 true Op2.Eq b a)

-- That an item isn't another, before other conditions. Where the two are apart the form tells that.
abbrev pub unless_apart : Ex → Ex → Gens → Gens
unless_apart b a gs = if are_apart b a then gs else cond (is_not b a) gs

-- The alternative of a comprehension.
abbrev pub comprehended : Ex → Gens → List Alternative
comprehended e gs = record { gens = gs; item = e } ∷ []

-- The members of one term, and those of another that aren't in it.
abbrev pub united : Text → Ex → Ex → List Alternative
united x a b = those x a no_gens ∷ those x b (cond (ex1 true Op1.Not (ex2 true Op2.Member (name_ex x) a)) no_gens) ∷ []

-- The members of one term that are in another.
abbrev pub common : Text → Ex → Ex → List Alternative
common x a b = those x a (cond (ex2 true Op2.Member (name_ex x) b) no_gens) ∷ []

-- Those that aren't.
abbrev pub difference : Text → Ex → Ex → List Alternative
difference x a b = those x a (cond (ex1 true Op1.Not (ex2 true Op2.Member (name_ex x) b)) no_gens) ∷ []

-- What is made of the only operand, else of the only two.
abbrev pub one_or_two : {A : Type 0} → Option Ex → Option (Ex × Ex) → (Ex → Option A) → (Ex × Ex → Option A) → Option A
one_or_two (Some s) q h k = h s
one_or_two None q h k = and_then q k
