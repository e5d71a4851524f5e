-- All rules that need no kind, in one place: what each makes of the root of a tree, in the order in which they are tried.
use Rattle.std.specs.Prelude.{Bool, true, false, ◌&&◌, if◌then◌else◌, List, [], ◌∷◌, map, Option, Some, None}
use Rattle.ess_semantics.specs.declared.words.Op2.{Op2}
use Rattle.ess_semantics.specs.declared.words.Fun.{Fun}
use Rattle.ess_semantics.specs.Lists.{and_then, or_else}
use Rattle.ess_semantics.specs.Values.{Text}
use Rattle.ess_semantics.specs.Names.{Names}
use Rattle.ess_semantics.specs.Trees.{name_pat, Ex, comp_ex, ex2, fun1, from, Dom}
use Rattle.ess_semantics.specs.Types.{Ty}
use Rattle.ess_semantics.specs.Typing.{type_of}
use Rattle.ess_rules_laws.specs.FoldRules.{fold_alone, fold_nothing, fold_one, fold_bare, fold_term}
use Rattle.ess_rules_laws.specs.LooseRules.{fold_loosely}
use Rattle.ess_rules_laws.specs.SourceRules.{fold_items}
use Rattle.ess_rules_laws.specs.SpliceRules.{splice}
use Rattle.ess_rules_laws.specs.SplitRules.{split}
use Rattle.ess_rules_laws.specs.TupleNames.{name_over_tuple}
use Rattle.ess_rules_laws.specs.Listings.{Alternative, listing}
use Rattle.ess_rules_laws.specs.ContainerListings.{made_listing, range_as_set}
use Rattle.ess_rules_laws.specs.ListedSources.{source_alone, source_parts}
use Rattle.ess_rules_laws.specs.LiteralRules.{component_listed, different_listed, extreme_listed}
use Rattle.ess_rules_laws.specs.FieldLiterals.{field_listed}
use Rattle.ess_rules_laws.specs.InclusionRules.{unequal, included_turned, included_strictly, included_members, included_often, equal_members, equal_often, equal_pairs}
use Rattle.ess_rules_laws.specs.ComponentRules.{equal_components, equal_fields}
use Rattle.ess_rules_laws.specs.PartitionRules.{equal_parts}
use Rattle.ess_rules_laws.specs.MatrixRules.{equal_matrices, equal_to_nothing}
use Rattle.ess_rules_laws.specs.MembershipRules.{member_term, member_combined, member_changed, member_listed}
use Rattle.ess_rules_laws.specs.FunctionMembershipRules.{member_of_function, member_related}
use Rattle.ess_rules_laws.specs.SizeRules.{size_term, frequency_term, together_term}
use Rattle.ess_rules_laws.specs.ShortSizeRules.{size_made, frequency_made, frequency_listed}
use Rattle.ess_rules_laws.specs.ListRules.{list_term, lex_both, different_term}
use Rattle.ess_rules_laws.specs.ChoiceRules.{choice_shorter}
use Rattle.ess_rules_laws.specs.Progress.{is_parted}
use Rattle.ess_refine_laws.specs.ScalarItems.{has_scalar_items}
use Rattle.ess_refine_laws.specs.RecordNames.{name_over_record}
use Rattle.ess_refine_laws.specs.LeavingConditions.{at_last_condition, condition_leaves}
use Rattle.ess_refine_laws.specs.ExtremeRules.{extreme_condition}
use Rattle.ess_refine_laws.specs.Copies.{opposite_of}
use Rattle.ess_refine_laws.specs.ExtremeAlternatives.{put_alternative, extreme_alternatives}
use Rattle.ess_refine_laws.specs.ItemsOnce.{items_once}
use Rattle.ess_refine_laws.specs.MovingConditions.{condition_later}

-- The rules, by what they rewrite.
pub data Rule : Type 0 where
  -- Folds: over nothing, one item, any term, a literal, a set made of another container.
  over_nothing over_one over_one_binding over_a_term over_a_literal over_a_made_set : Rule
  -- Generators: over what offers a listing, a comprehension, a tuple of domains by a pattern or by a name, a record of domains; a
  -- condition alone.
  over_a_source of_one_source over_a_comprehension over_tuples over_a_tuple over_a_record over_a_condition : Rule
  -- Components and fields of literals.
  component_of_a_tuple field_of_a_record : Rule
  -- Comparisons.
  not_equal turned strictly equal_tuples equal_records equal_sets equal_multisets equal_functions equal_partitions : Rule
  with_nothing equal_matrices_at included_sets included_multisets : Rule
  -- Membership.
  in_two in_one_made_of_another in_a_literal in_what_a_function_has in_its_pairs in_a_term : Rule
  -- Sizes and frequencies.
  size_of_one_made_of_another size frequency_in_one_made_of_another frequency_in_a_literal frequency together : Rule
  -- Lists, and sets of results.
  least_of_a_literal different_items list_of_a_term lists_on_both_sides all_different results : Rule
  -- Numbers that conditions choose, and conditions that read cells.
  choice condition : Rule
  -- The least and the greatest under a condition that reads cells: it moves behind the generators, and then into the numbers.
  condition_behind least_under_a_condition : Rule
  -- The least and the greatest over several alternatives of the first source.
  least_of_alternatives : Rule

-- What the rules take: names that stand nowhere in the tree, three and one for each component of a domain, the index domain of
-- each matrix, and another way to write each tree, with bound names of its own.
pub record Supply : Type 0 where
  pub one : Text
  pub other : Text
  pub third : Text
  pub parts : List Text
  pub index_domain : Ex → Dom
  pub copy : Ex → Ex

-- What the term offers as a listing.
abbrev pub offered : Supply → Names Ty → Ex → Option (List Alternative)
offered s g t = or_else (listing g s.one t) (or_else (made_listing g s.one s.other t) (items_once s.one s.other s.third t))

-- A fold over the alternatives of the first source.
abbrev pub source_listed : Supply → Names Ty → Ex → Option Ex
source_listed s g (fun1 m f (comp_ex e (from (name_pat y) t hs))) =
    and_then (offered s g t) (λ l. source_parts l (fun1 m f (comp_ex e (from (name_pat y) t hs))))
source_listed s g e = None

-- The only alternative.
abbrev pub only_one : Option (List Alternative) → Option Alternative
only_one (Some (a ∷ [])) = Some a
only_one o = None

-- A word that forgets order over the only alternative of the first source.
abbrev pub source_listed_once : Supply → Names Ty → Ex → Option Ex
source_listed_once s g (fun1 m f (comp_ex e (from (name_pat y) t hs))) =
    and_then (only_one (offered s g t)) (λ a. source_alone a (fun1 m f (comp_ex e (from (name_pat y) t hs))))
source_listed_once s g e = None

-- The least or the greatest over the alternatives of the first source.
abbrev pub extremes_listed : Supply → Names Ty → Ex → Option Ex
extremes_listed s g (fun1 false f (comp_ex e (from (name_pat y) t hs))) =
    and_then (offered s g t)
    (λ l. extreme_alternatives (map (put_alternative y e hs) l) (fun1 false f (comp_ex e (from (name_pat y) t hs))))
extremes_listed s g e = None

-- Matrices by their items, over the index domains of both.
abbrev pub matrices_at : Supply → Names Ty → Ex → Option Ex
matrices_at s g (ex2 m o a b) = equal_matrices (s.index_domain a) (s.index_domain b) g s.one s.other (ex2 m o a b)
matrices_at s g e = None

-- A copy of the greatest of what `min` runs over once a condition is left out, or of the least of what `max` does; the whole where
-- there is no such condition.
abbrev pub opposite_copied : Supply → Ex → Ex
opposite_copied s (fun1 false f (comp_ex e gs)) = elim (at_last_condition gs) [
  | None ↦ fun1 false f (comp_ex e gs)
  | Some t ↦ s.copy (opposite_of f e t)
]
opposite_copied s e = e

-- Whether the root says that compound values differ. Of scalars models say it.
abbrev pub compares_compound : Names Ty → Ex → Bool
compares_compound g (ex2 true Op2.Ne a b) = is_parted (type_of a g) && is_parted (type_of b g)
compares_compound g e = false

-- Whether the root is `allDiff` of scalars, or of what isn't laid open. Of scalars models have it.
abbrev pub tells_scalars_apart : Names Ty → Ex → Bool
tells_scalars_apart g (fun1 true Fun.AllDiff l) = has_scalar_items l g
tells_scalars_apart g e = false

-- What the rule makes of the root, where it fires.
abbrev pub rewrite : Supply → Names Ty → Rule → Ex → Option Ex
rewrite s g over_nothing e = fold_nothing e
rewrite s g over_one e = fold_one e
rewrite s g over_one_binding e = fold_bare e
rewrite s g over_a_term e = fold_term s.one e
rewrite s g over_a_literal e = fold_items e
rewrite s g over_a_made_set e = fold_loosely e
rewrite s g over_a_source e = source_listed s g e
rewrite s g of_one_source e = source_listed_once s g e
rewrite s g over_a_comprehension e = splice e
rewrite s g over_tuples e = split e
rewrite s g over_a_tuple e = name_over_tuple s.parts e
rewrite s g over_a_record e = name_over_record s.parts e
rewrite s g over_a_condition e = fold_alone e
rewrite s g component_of_a_tuple e = component_listed e
rewrite s g field_of_a_record e = field_listed e
rewrite s g not_equal e = if compares_compound g e then unequal e else None
rewrite s g turned e = included_turned e
rewrite s g strictly e = included_strictly g s.one e
rewrite s g equal_tuples e = equal_components g s.one e
rewrite s g equal_records e = equal_fields g s.one e
rewrite s g equal_sets e = equal_members g s.one e
rewrite s g equal_multisets e = equal_often g s.one e
rewrite s g equal_functions e = equal_pairs g s.one e
rewrite s g equal_partitions e = equal_parts g s.one e
rewrite s g with_nothing e = equal_to_nothing g s.one e
rewrite s g equal_matrices_at e = matrices_at s g e
rewrite s g included_sets e = included_members g s.one e
rewrite s g included_multisets e = included_often s.one e
rewrite s g in_two e = member_combined e
rewrite s g in_one_made_of_another e = member_changed g s.one e
rewrite s g in_a_literal e = member_listed e
rewrite s g in_what_a_function_has e = member_of_function g s.one e
rewrite s g in_its_pairs e = member_related s.one e
rewrite s g in_a_term e = member_term s.one e
rewrite s g size_of_one_made_of_another e = size_made g s.one e
rewrite s g size e = size_term g s.one e
rewrite s g frequency_in_one_made_of_another e = frequency_made g s.one e
rewrite s g frequency_in_a_literal e = frequency_listed e
rewrite s g frequency e = frequency_term s.one e
rewrite s g together e = together_term s.one e
rewrite s g least_of_a_literal e = extreme_listed e
rewrite s g different_items e = if tells_scalars_apart g e then None else different_listed e
rewrite s g list_of_a_term e = list_term s.one e
rewrite s g lists_on_both_sides e = lex_both s.one e
rewrite s g all_different e = if tells_scalars_apart g e then None else different_term s.one e
rewrite s g results e = range_as_set g s.one e
rewrite s g choice e = choice_shorter e
rewrite s g condition e = condition_leaves e
rewrite s g condition_behind e = condition_later e
rewrite s g least_of_alternatives e = extremes_listed s g e
rewrite s g least_under_a_condition e = extreme_condition (opposite_copied s e) e

-- P of what is there.
abbrev pub OfSome : {A : Type 0} → Option A → (A → Type 0) → Type 0
OfSome None P = Unit {0}
OfSome (Some a) P = P a

-- ---- the order

-- The rules in the order in which they are tried at a node: shorter forms before the general ones, conditions last. That all items
-- differ is said of pairs where these can be listed.
abbrev pub all_rules : List Rule
all_rules =
    over_nothing ∷ over_one ∷ over_one_binding ∷ over_a_condition ∷ over_a_made_set ∷ over_tuples ∷ over_a_tuple ∷ over_a_record
    ∷ over_a_comprehension ∷ over_a_literal ∷ over_a_source ∷ of_one_source ∷ over_a_term
    ∷ component_of_a_tuple ∷ field_of_a_record
    ∷ not_equal ∷ turned ∷ strictly ∷ equal_tuples ∷ equal_records ∷ equal_sets ∷ equal_multisets ∷ equal_functions ∷ equal_partitions
    ∷ with_nothing ∷ equal_matrices_at ∷ included_sets ∷ included_multisets
    ∷ in_two ∷ in_one_made_of_another ∷ in_a_literal ∷ in_what_a_function_has ∷ in_its_pairs ∷ in_a_term
    ∷ size_of_one_made_of_another ∷ size ∷ frequency_in_one_made_of_another ∷ frequency_in_a_literal ∷ frequency ∷ together
    ∷ least_of_a_literal ∷ different_items ∷ list_of_a_term ∷ lists_on_both_sides ∷ all_different ∷ results
    ∷ choice ∷ condition ∷ condition_behind ∷ least_under_a_condition ∷ least_of_alternatives ∷ []

-- What the first of the rules that fires makes of the root.
abbrev pub first_rewrite : Supply → Names Ty → List Rule → Ex → Option Ex
first_rewrite s g [] e = None
first_rewrite s g (r ∷ rs) e = or_else (rewrite s g r e) (first_rewrite s g rs e)

-- What all rules together make of the root.
abbrev pub rule_at : Supply → Names Ty → Ex → Option Ex
rule_at s g e = first_rewrite s g all_rules e
