-- Each of the rules that keep operands spells no new numbers.
use Rattle.std.proofs.Common.{◌≡◌, subst, Bool, true, false, if◌then◌else◌, ℤ, pos, Option, Some, None}
use Rattle.ess_semantics.specs.Names.{Names}
use Rattle.ess_semantics.specs.Trees.{Ex}
use Rattle.ess_semantics.specs.Types.{Ty}
use Rattle.ess_rules_laws.specs.InclusionRules.{unequal}
use Rattle.ess_refine_laws.specs.AllRules.{Rule, over_nothing, over_one_binding, over_a_made_set, over_a_condition, not_equal, turned, strictly, included_sets, included_multisets, equal_sets, equal_functions, in_two, in_one_made_of_another, in_a_term, size, frequency, together, Supply, compares_compound, rewrite}
use Rattle.ess_refine_laws.specs.SparingRules.{keeps_operands, RulesSpare}
use Rattle.ess_refine_laws.proofs.SparingRules.{A, Answers, nothing, bare, alone, loosely, apart, turns, strict, members, often, same_members, same_pairs, combined, changed, member, sized, counted, one-part}

module _ (q : ℤ → Bool) (o : q (pos 0) ≡ true) (i : q (pos 1) ≡ true) where
  under : (c : Bool) (m : Bool) (r : Option Ex) → Answers q o i m r → Answers q o i m (if c then r else None)
  under true m r h = h
  under false m r h = tt

  each-spares : (s : Supply) (g : Names Ty) (r : Rule) → keeps_operands r ≡ true → (m : Bool) (e : Ex) → A q o i m e →
      Answers q o i m (rewrite s g r e)
  each-spares s g over_nothing k m e h = nothing q o i m e h
  each-spares s g over_one_binding k m e h = bare q o i m e h
  each-spares s g over_a_made_set k m e h = loosely q o i m e h
  each-spares s g over_a_condition k m e h = alone q o i m e h
  each-spares s g not_equal k m e h = under (compares_compound g e) m (unequal e) (apart q o i m e h)
  each-spares s g turned k m e h = turns q o i m e h
  each-spares s g strictly k m e h = strict q o i g s.one m e h
  each-spares s g included_sets k m e h = members q o i g s.one m e h
  each-spares s g included_multisets k m e h = often q o i g s.one m e h
  each-spares s g equal_sets k m e h = same_members q o i g s.one m e h
  each-spares s g equal_functions k m e h = same_pairs q o i g s.one m e h
  each-spares s g in_two k m e h = combined q o i m e h
  each-spares s g in_one_made_of_another k m e h = changed q o i g s.one m e h
  each-spares s g in_a_term k m e h = member q o i s.one m e h
  each-spares s g size k m e h = sized q o i g s.one m e h
  each-spares s g frequency k m e h = counted q o i s.one m e h
  each-spares s g together k m e h = one-part q o i s.one m e h
  each-spares s g _ k m e h = cc

  answered : (m : Bool) (r : Option Ex) (f : Ex) → r ≡ Some f → Answers q o i m r → A q o i m f
  answered m r f p h = subst (λ z. Answers q o i m z) p h

-- What they spell.
pub rules-spare : RulesSpare
rules-spare s g r k m e f p q o i t h = answered q o i m (rewrite s g r e) f p (each-spares q o i s g r k m e h)
