-- Each of the rules of containers keeps types.
use Rattle.std.proofs.Common.{◌≡◌, subst, Bool, true, false, if◌then◌else◌, Option, Some, None}
use Rattle.ess_semantics.specs.Names.{Names}
use Rattle.ess_semantics.specs.Trees.{Ex}
use Rattle.ess_semantics.specs.Types.{Ty}
use Rattle.ess_rules_laws.specs.ListRules.{different_term}
use Rattle.ess_refine_laws.specs.AllRules.{Rule, included_sets, included_multisets, equal_sets, equal_multisets, equal_functions, equal_partitions, in_two, in_one_made_of_another, in_what_a_function_has, in_its_pairs, in_a_term, frequency, together, lists_on_both_sides, all_different, Supply, tells_scalars_apart, rewrite}
use Rattle.ess_refine_laws.specs.TypesStay.{KeepsType}
use Rattle.ess_refine_types_laws.specs.TypeNames.{IsUntyped}
use Rattle.ess_refine_types_laws.specs.TypesOfContainers.{is_of_containers, MembersTold, ContainerRulesKeepTypes}
use Rattle.ess_refine_types_laws.proofs.TypeParts.{TypeKept}
use Rattle.ess_refine_types_laws.proofs.TypesOfEqualities.{members, often, same-members, same-often, same-pairs, same-parts}
use Rattle.ess_refine_types_laws.proofs.TypesOfMembers.{changed, related, member, of-function}
use Rattle.ess_refine_types_laws.proofs.TypesOfLists.{combined, frequencies}
use Rattle.ess_refine_types_laws.proofs.TypesOfComparedLists.{one-part, different, both-sides}

module _ (s : Supply) (g : Names Ty) where
  unless : (c : Bool) (e : Ex) (r : Option Ex) → TypeKept g e r → TypeKept g e (if c then None else r)
  unless true e r h = tt
  unless false e r h = h

  each-typed : (r : Rule) (e : Ex) → is_of_containers r ≡ true → IsUntyped s.one e → MembersTold g r e → TypeKept g e (rewrite s g r e)
  each-typed included_sets e k u m = members g s.one e u m
  each-typed included_multisets e k u m = often g s.one e u m.0 m.1
  each-typed equal_sets e k u m = same-members g s.one e u m
  each-typed equal_multisets e k u m = same-often g s.one e u m
  each-typed equal_functions e k u m = same-pairs g s.one e u m
  each-typed equal_partitions e k u m = same-parts g s.one e u m
  each-typed in_two e k u m = combined g e m
  each-typed in_one_made_of_another e k u m = changed g s.one e u
  each-typed in_what_a_function_has e k u m = of-function g s.one e u
  each-typed in_its_pairs e k u m = related g s.one e u
  each-typed in_a_term e k u m = member g s.one e u
  each-typed frequency e k u m = frequencies g s.one e u
  each-typed together e k u m = one-part g s.one e u m
  each-typed lists_on_both_sides e k u m = both-sides g s.one e m
  each-typed all_different e k u m = unless (tells_scalars_apart g e) e (different_term s.one e) (different g s.one e u)
  each-typed _ e k u m = cc

  answered : (e f : Ex) (o : Option Ex) → o ≡ Some f → TypeKept g e o → KeepsType g e f
  answered e f o q h = subst (λ z. TypeKept g e z) q h

-- Types stay.
pub container-rules-keep-types : ContainerRulesKeepTypes
container-rules-keep-types s g r e f q k u m = answered s g e f (rewrite s g r e) q (each-typed s g r e k u m)
