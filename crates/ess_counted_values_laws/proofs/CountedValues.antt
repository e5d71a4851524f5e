-- What rules count on follows from values.
use Rattle.std.proofs.Common.{◌≡◌, refl, subst, Bool, true, false, ◌&&◌, Option, Some, None, if◌then◌else◌}
use Rattle.std.specs.Prelude.{IsTrue, is_some}
use Rattle.std.specs.List.{list_all}
use Rattle.ess_semantics.specs.declared.words.Op2.{Op2}
use Rattle.ess_semantics.specs.declared.words.Fun.{Fun}
use Rattle.ess_semantics.specs.Names.{Names}
use Rattle.ess_semantics.specs.Trees.{binary, word, set_literal, mset_literal, relation_literal, matrix_literal, Ex, Exs, node_ex, ex2, fun1, no_exs, more_exs}
use Rattle.ess_semantics.specs.Types.{Ty}
use Rattle.ess_semantics.specs.Typed.{Typed}
use Rattle.ess_semantics.specs.Meaning.{Env, meaning, meanings}
use Rattle.ess_semantics.proofs.Tests.{and-both}
use Rattle.ess_rules_laws.specs.Rules.{SoundOperands, OperandsThere}
use Rattle.ess_rules_laws.specs.ShortSizeRules.{SoundWithin, frequency_made, frequency_listed}
use Rattle.ess_rules_laws.specs.SizeRules.{frequency_term}
use Rattle.ess_rules_laws.specs.InclusionRules.{included_members, included_often, unequal}
use Rattle.ess_rules_laws.specs.ComponentRules.{equal_components, equal_fields}
use Rattle.ess_rules_laws.specs.MatrixRules.{equal_to_nothing}
use Rattle.ess_rules_laws.specs.MembershipRules.{ItemsThere, member_listed}
use Rattle.ess_rules_laws.specs.LiteralRules.{ListThere, different_listed}
use Rattle.ess_refine_laws.specs.AllRules.{Rule, over_nothing, over_a_term, over_a_made_set, over_a_tuple, over_a_record, over_a_condition, turned, not_equal, strictly, equal_tuples, equal_records, equal_sets, equal_multisets, equal_functions, equal_partitions, with_nothing, included_sets, included_multisets, in_a_literal, in_one_made_of_another, in_what_a_function_has, in_its_pairs, in_a_term, size_of_one_made_of_another, size, frequency_in_one_made_of_another, frequency_in_a_literal, frequency, together, least_of_a_literal, different_items, list_of_a_term, lists_on_both_sides, all_different, results, Supply, compares_compound, tells_scalars_apart, rewrite}
use Rattle.ess_chain_kept_laws.specs.CountsBeside.{CountsBeside}
use Rattle.ess_values_along_laws.specs.Valued.{Valued, AllValued}
use Rattle.ess_values_along_laws.specs.ValuesAlong.{none_may_lack}
use Rattle.ess_values_along_laws.proofs.ValuesAlong.{values-along}
use Rattle.ess_counted_values_laws.specs.CountedValues.{counts_on_values, ComparesCompound, ValuesAreCountedOn}

and-no : (w : Bool) → w && false ≡ false
and-no true = refl
and-no false = refl

module _ (env : Env) where
  -- Operands outside of natural places.
  all-there : (z : Bool) (es : Exs) → z ≡ false → AllValued false z es env → IsTrue (list_all is_some (meanings es env))
  all-there z no_exs q v = refl
  all-there z (more_exs e es) q v = and-both (is_some (meaning e env)) (list_all is_some (meanings es env))
      (values-along.value false e env refl (subst (λ b. Valued b e env) q v.0)) (all-there z es q v.1)

  included : (g : Names Ty) (w : Bool) (e : Ex) → Valued w e env → (s : Supply) (f : Ex) → rewrite s g included_sets e ≡ Some f →
      OperandsThere e env
  included g w (ex2 true Op2.SubsetEq a b) v s f q = all-there false (more_exs a (more_exs b no_exs)) refl v.1
  included g w e v s f q = cc

  often : (g : Names Ty) (w : Bool) (e : Ex) → Valued w e env → (s : Supply) (f : Ex) → rewrite s g included_multisets e ≡ Some f →
      OperandsThere e env
  often g w (ex2 true Op2.SubsetEq a b) v s f q = all-there false (more_exs a (more_exs b no_exs)) refl v.1
  often g w e v s f q = cc

  counted : (g : Names Ty) (w : Bool) (e : Ex) → Valued w e env → (s : Supply) (f : Ex) → rewrite s g frequency e ≡ Some f →
      OperandsThere e env
  counted g w (node_ex false (word Fun.Freq) (more_exs m (more_exs a no_exs))) v s f q =
      all-there (w && false) (more_exs m (more_exs a no_exs)) (and-no w) v.1
  counted g w e v s f q = cc

  counted-made : (g : Names Ty) (w : Bool) (e : Ex) → Valued w e env → (s : Supply) (f : Ex) →
      rewrite s g frequency_in_one_made_of_another e ≡ Some f → OperandsThere e env
  counted-made g w (node_ex false (word Fun.Freq) (more_exs (fun1 false Fun.ToMSet m) (more_exs a no_exs))) v s f q =
      all-there (w && false) (more_exs (fun1 false Fun.ToMSet m) (more_exs a no_exs)) (and-no w) v.1
  counted-made g w e v s f q = cc

  counted-listed : (g : Names Ty) (w : Bool) (e : Ex) → Valued w e env → (s : Supply) (f : Ex) →
      rewrite s g frequency_in_a_literal e ≡ Some f → OperandsThere e env
  counted-listed g w (node_ex false (word Fun.Freq) (more_exs (node_ex false mset_literal es) (more_exs a no_exs))) v s f q =
      all-there (w && false) (more_exs (node_ex false mset_literal es) (more_exs a no_exs)) (and-no w) v.1
  counted-listed g w e v s f q = cc

  items : (g : Names Ty) (w : Bool) (e : Ex) → Valued w e env → (s : Supply) (f : Ex) → rewrite s g in_a_literal e ≡ Some f →
      ItemsThere e env
  items g w (ex2 true Op2.Member x (node_ex false set_literal es)) v s f q = all-there false es refl v.1.1.0.1
  items g w (ex2 true Op2.Member x (node_ex false mset_literal es)) v s f q = all-there false es refl v.1.1.0.1
  items g w (ex2 true Op2.Member x (node_ex false relation_literal es)) v s f q = all-there false es refl v.1.1.0.1
  items g w e v s f q = cc

  list : (g : Names Ty) (w : Bool) (e : Ex) → Valued w e env → (s : Supply) (f : Ex) → rewrite s g different_items e ≡ Some f →
      ListThere e env
  list g w e v s f q = go (tells_scalars_apart g e) e v q
    where
      go : (c : Bool) (e : Ex) → Valued w e env → (if c then None else different_listed e) ≡ Some f → ListThere e env
      go true e v q = cc
      go false (fun1 true Fun.AllDiff (node_ex false matrix_literal es)) v q = all-there false es refl v.1.0.1
      go false e v q = cc

  compared : (w : Bool) (a b : Ex) → none_may_lack (more_exs a (more_exs b no_exs)) ≡ true → Valued w (ex2 true Op2.Eq a b) env →
      OperandsThere (ex2 true Op2.Eq a b) env
  compared w a b n v = values-along.compared w true (binary Op2.Eq) (more_exs a (more_exs b no_exs)) env refl n v

  tuples : (g : Names Ty) (w : Bool) (e : Ex) → Valued w e env → (s : Supply) (f : Ex) → rewrite s g equal_tuples e ≡ Some f →
      ComparesCompound equal_tuples e → OperandsThere e env
  tuples g w (ex2 true Op2.Eq a b) v s f q c = compared w a b c v
  tuples g w e v s f q c = cc

  records : (g : Names Ty) (w : Bool) (e : Ex) → Valued w e env → (s : Supply) (f : Ex) → rewrite s g equal_records e ≡ Some f →
      ComparesCompound equal_records e → OperandsThere e env
  records g w (ex2 true Op2.Eq a b) v s f q c = compared w a b c v
  records g w e v s f q c = cc

  no-items : (g : Names Ty) (w : Bool) (e : Ex) → Valued w e env → (s : Supply) (f : Ex) → rewrite s g with_nothing e ≡ Some f →
      ComparesCompound with_nothing e → OperandsThere e env
  no-items g w (ex2 true Op2.Eq a (node_ex false matrix_literal no_exs)) v s f q c = compared w a (node_ex false matrix_literal no_exs) c v
  no-items g w (ex2 true Op2.Eq (node_ex false matrix_literal no_exs) b) v s f q c = compared w (node_ex false matrix_literal no_exs) b c v
  no-items g w e v s f q c = cc

  apart : (g : Names Ty) (w : Bool) (e : Ex) → Valued w e env → (s : Supply) (f : Ex) → rewrite s g not_equal e ≡ Some f →
      ComparesCompound not_equal e → OperandsThere e env
  apart g w e v s f q c = go (compares_compound g e) e v c q
    where
      go : (t : Bool) (e : Ex) → Valued w e env → ComparesCompound not_equal e → (if t then unequal e else None) ≡ Some f →
          OperandsThere e env
      go false e v c q = cc
      go true (ex2 true Op2.Ne a b) v c q = values-along.compared w true (binary Op2.Ne) (more_exs a (more_exs b no_exs)) env refl c v
      go true e v c q = cc

  each : (s : Supply) (g : Names Ty) (r : Rule) (e f : Ex) → rewrite s g r e ≡ Some f → counts_on_values r ≡ true → ComparesCompound r e →
      Typed g env → SoundOperands g e → SoundWithin g e → (w : Bool) → Valued w e env → CountsBeside s g r e env
  each s g over_nothing e f q i c t o p w v = tt
  each s g over_a_term e f q i c t o p w v = tt
  each s g over_a_made_set e f q i c t o p w v = tt
  each s g over_a_tuple e f q i c t o p w v = tt
  each s g over_a_record e f q i c t o p w v = tt
  each s g over_a_condition e f q i c t o p w v = tt
  each s g turned e f q i c t o p w v = tt
  each s g in_one_made_of_another e f q i c t o p w v = tt
  each s g in_its_pairs e f q i c t o p w v = tt
  each s g in_a_term e f q i c t o p w v = tt
  each s g together e f q i c t o p w v = tt
  each s g least_of_a_literal e f q i c t o p w v = tt
  each s g list_of_a_term e f q i c t o p w v = tt
  each s g lists_on_both_sides e f q i c t o p w v = tt
  each s g all_different e f q i c t o p w v = tt
  each s g strictly e f q i c t o p w v = (t, o)
  each s g equal_sets e f q i c t o p w v = (t, o)
  each s g equal_multisets e f q i c t o p w v = (t, o)
  each s g equal_functions e f q i c t o p w v = (t, o)
  each s g equal_partitions e f q i c t o p w v = (t, o)
  each s g size e f q i c t o p w v = (t, o)
  each s g results e f q i c t o p w v = (t, o)
  each s g in_what_a_function_has e f q i c t o p w v = (t, p)
  each s g size_of_one_made_of_another e f q i c t o p w v = (t, p)
  each s g equal_tuples e f q i c t o p w v = (t, o, tuples g w e v s f q c)
  each s g equal_records e f q i c t o p w v = (t, o, records g w e v s f q c)
  each s g with_nothing e f q i c t o p w v = (t, o, no-items g w e v s f q c)
  each s g included_sets e f q i c t o p w v = (t, o, included g w e v s f q)
  each s g frequency_in_one_made_of_another e f q i c t o p w v = (t, p, counted-made g w e v s f q)
  each s g included_multisets e f q i c t o p w v = often g w e v s f q
  each s g frequency e f q i c t o p w v = counted g w e v s f q
  each s g not_equal e f q i c t o p w v = (t, apart g w e v s f q c)
  each s g in_a_literal e f q i c t o p w v = (t, items g w e v s f q)
  each s g frequency_in_a_literal e f q i c t o p w v = (t, counted-listed g w e v s f q)
  each s g different_items e f q i c t o p w v = (t, list g w e v s f q)
  each s g r e f q i c t o p w v = cc

-- What is proved of what rules count on.
pub values-are-counted-on : ValuesAreCountedOn
values-are-counted-on = λ s g r e f q i c env t o p w v. each env s g r e f q i c t o p w v
