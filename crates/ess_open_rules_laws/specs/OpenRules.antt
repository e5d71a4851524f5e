-- Rules at the first generator that isn't plain, of what is picked, of relations applied and of indices of several steps: what each makes of
-- the root of a tree; and these together with the rules of kinds.
use Rattle.std.specs.Prelude.{Bool, true, false, ◌&&◌, ◌||◌, if◌then◌else◌, ℕ, suc, List, [], ◌∷◌, Option, Some, None}
use Rattle.ess_semantics.specs.declared.words.Op2.{Op2}
use Rattle.ess_semantics.specs.Lists.{and_then, or_else}
use Rattle.ess_semantics.specs.Values.{a_relation}
use Rattle.ess_semantics.specs.Names.{Names}
use Rattle.ess_semantics.specs.Trees.{Op, binary, application, tuple_literal, Ex, Exs, node_ex, no_exs, more_exs, ex2}
use Rattle.ess_semantics.specs.Types.{Ty, any_ty, int_ty, named_ty, compound}
use Rattle.ess_semantics.specs.Typing.{type_of}
use Rattle.ess_rules_laws.specs.IndexSteps.{step_apart}
use Rattle.ess_rules_laws.specs.AlternativeLookups.{select_each, select_whole_each}
use Rattle.ess_refine_laws.specs.AllRules.{Supply}
use Rattle.ess_kind_rules_laws.specs.TermLookups.{picks, looked_up}
use Rattle.ess_open_rules_laws.specs.OpenGenerators.{nested}
use Rattle.ess_open_rules_laws.specs.OpenSources.{over_one_opened, over_each_picked, least_of_several, set_of_several, set_of_term, counted_apart, kept_behind, seen_loosely, listed_plainly}
use Rattle.ess_kind_rules_laws.specs.KindRules.{KindRule, kind_rewrite, asks_truth, over_a_view, of_one_view}

-- The rules, by what they rewrite.
pub data OpenRule : Type 0 where
  -- An index of several steps, step by step; and a relation that is applied to a tuple.
  step_by_step applied_relation : OpenRule
  -- What is picked out of a term: of an operand that can be looked up, and by itself.
  of_a_pick a_pick_alone : OpenRule
  -- Words that see no repeats, over what a set is made of; words and signs that see no index domain.
  without_repeats without_its_indices : OpenRule
  -- Sources at the first generator that isn't plain: of a word that forgets order over one alternative, of folds over what is picked, of
  -- `min` and `max`, of `toSet` and of `allDiff`; and of comprehensions in any place, whose order stays.
  over_one_source over_what_is_picked least_over_several set_over_several different_by_counts in_order_of_its_source : OpenRule
  -- A fold behind plain generators, as a fold of folds; and a set made of a term that isn't laid open.
  fold_of_folds set_of_a_term : OpenRule

-- ---- relations

-- Whether the type is of relations.
abbrev pub is_relation_ty : Option Ty → Bool
is_relation_ty (Some (compound a_relation ts)) = true
is_relation_ty t = false

-- `r(a, b)` is `(a, b) in r`, where r is a relation.
abbrev pub related : Names Ty → Ex → Option Ex
related g (node_ex true application (more_exs r as')) =
    if is_relation_ty (type_of r g) then Some (ex2 true Op2.Member (node_ex false tuple_literal as') r) else None
related g e = None

-- ---- what is picked out of a term

-- Whether the type is of numbers. Values of named types count as such, and so does what is picked out of a literal without items: it has no
-- value, so it may stand wherever its type is asked for.
abbrev pub is_counted_ty : Option Ty → Bool
is_counted_ty (Some any_ty) = true
is_counted_ty (Some int_ty) = true
is_counted_ty (Some (named_ty t)) = true
is_counted_ty t = false

-- Whether the root gives a truth value where one is asked, or a number.
abbrev pub gives_scalar : Names Ty → Ex → Bool
gives_scalar g e = asks_truth e || is_counted_ty (type_of e g)

-- Whether the type is of compound values.
abbrev pub is_compound_ty : Option Ty → Bool
is_compound_ty (Some (compound k ts)) = true
is_compound_ty t = false

-- Whether the operator compares values: it is false where there is none.
abbrev pub compares_values : Bool → Op → Bool
compares_values true (binary Op2.Eq) = true
compares_values true (binary Op2.Ne) = true
compares_values true (binary Op2.Lt) = true
compares_values true (binary Op2.Le) = true
compares_values true (binary Op2.Gt) = true
compares_values true (binary Op2.Ge) = true
compares_values b op = false

-- The number of the first operand that picks a value, a compound one unless any will do, with that operand.
abbrev pub first_picked : Bool → Names Ty → ℕ → Exs → Option (ℕ × Ex)
first_picked any g k no_exs = None
first_picked any g k (more_exs e es) =
    if picks e && (any || is_compound_ty (type_of e g)) then Some (k, e) else first_picked any g (suc k) es

-- A scalar root over the alternatives of its first operand that picks a compound value, or at a comparison any value: so where there is
-- nothing to pick it is false.
abbrev pub over_a_pick : Supply → Names Ty → Ex → Option Ex
over_a_pick s g (node_ex b op es) =
    if gives_scalar g (node_ex b op es)
    then and_then (first_picked (compares_values b op) g 1 es)
    (λ p. and_then (looked_up g s.third s.parts p.1) (λ l. select_each s.one p.0 l (node_ex b op es))) else None
over_a_pick s g e = None

-- A picked scalar by itself.
abbrev pub pick_alone : Supply → Names Ty → Ex → Option Ex
pick_alone s g e =
    if picks e && gives_scalar g e then and_then (looked_up g s.third s.parts e) (λ l. select_whole_each s.one l e) else None

-- ---- the rules

-- What the rule makes of the root, where it fires.
abbrev pub open_rewrite : Supply → Names Ty → OpenRule → Ex → Option Ex
open_rewrite s g step_by_step e = step_apart e
open_rewrite s g applied_relation e = related g e
open_rewrite s g of_a_pick e = over_a_pick s g e
open_rewrite s g a_pick_alone e = pick_alone s g e
open_rewrite s g without_repeats e = seen_loosely e
open_rewrite s g without_its_indices e = listed_plainly e
open_rewrite s g over_one_source e = over_one_opened s g e
open_rewrite s g over_what_is_picked e = over_each_picked s g e
open_rewrite s g least_over_several e = least_of_several s g e
open_rewrite s g set_over_several e = set_of_several s g e
open_rewrite s g different_by_counts e = counted_apart s g e
open_rewrite s g in_order_of_its_source e = kept_behind s g e
open_rewrite s g fold_of_folds e = nested e
open_rewrite s g set_of_a_term e = set_of_term s e

-- ---- with the rules of kinds

-- A rule that reads the kind of a view, or one of these.
pub data KindRuling : Type 0 where
  of_kind : KindRule → KindRuling
  of_opening : OpenRule → KindRuling

-- What it makes of the root.
abbrev pub kind_ruled : Supply → Names Ty → KindRuling → Ex → Option Ex
kind_ruled s g (of_kind r) e = kind_rewrite s g r e
kind_ruled s g (of_opening r) e = open_rewrite s g r e

-- Whether it puts the term of a source, or what that is made of, in the place of a name. Of the rules of kinds only those of folds do.
abbrev pub opens_source : OpenRule → Bool
opens_source over_one_source = true
opens_source over_what_is_picked = true
opens_source least_over_several = true
opens_source set_over_several = true
opens_source in_order_of_its_source = true
opens_source r = false

abbrev pub puts_in : KindRuling → Bool
puts_in (of_kind over_a_view) = true
puts_in (of_kind of_one_view) = true
puts_in (of_kind r) = false
puts_in (of_opening r) = opens_source r

-- What the first of these that fires makes of the root.
abbrev pub first_opening : Supply → Names Ty → List OpenRule → Ex → Option Ex
first_opening s g [] e = None
first_opening s g (r ∷ rs) e = or_else (open_rewrite s g r e) (first_opening s g rs e)
