-- Rules that take no name keep comprehensions in order where order counts.
use Rattle.std.proofs.Common.{◌≡◌, refl, zero, suc, Bool, true, false, pos, Option}
use Rattle.ess_semantics.specs.declared.words.Op2.{Op2}
use Rattle.ess_semantics.specs.declared.words.Fun.{Fun}
use Rattle.ess_semantics.specs.Values.{Text}
use Rattle.ess_semantics.specs.Trees.{word, set_literal, mset_literal, relation_literal, matrix_literal, Ex, Exs, number_ex, node_ex, ex2, fun1, no_exs, more_exs}
use Rattle.ess_semantics.specs.Types.{Ty}
use Rattle.ess_rules_laws.specs.LiteralRules.{unequal_each, unequal_pairs, different_listed, extreme_listed}
use Rattle.ess_rules_laws.specs.InclusionRules.{equal_pairs}
use Rattle.ess_rules_laws.specs.MembershipRules.{equations, member_combined, member_listed}
use Rattle.ess_rules_laws.specs.ShortSizeRules.{ones_where, frequency_listed}
use Rattle.ess_rules_laws.specs.ChoiceRules.{choice_shorter}
use Rattle.ess_given_order_laws.specs.InOrder.{Ordered, AllOrdered, InOrder}
use Rattle.ess_given_order_laws.proofs.OrderOfFolds.{Answered}

module _ (u : Text → Bool) where
  abbrev A : Option Ex → Type 0
  A r = Answered u r

  -- ---- rules that take no name

  pub combined : (e : Ex) → Ordered u e → A (member_combined e)
  combined (ex2 true Op2.Member x (ex2 false Op2.Union a b)) h =
      (refl, ((refl, (h.0, (h.1.0.1.0, tt))), ((refl, (h.0, (h.1.0.1.1.0, tt))), tt)))
  combined (ex2 true Op2.Member x (ex2 false Op2.Intersect a b)) h =
      (refl, ((refl, (h.0, (h.1.0.1.0, tt))), ((refl, (h.0, (h.1.0.1.1.0, tt))), tt)))
  combined (ex2 true Op2.Member x (ex2 false Op2.Minus a b)) h =
      (refl, ((refl, (h.0, (h.1.0.1.0, tt))), ((refl, ((refl, (h.0, (h.1.0.1.1.0, tt))), tt)), tt)))
  combined _ h = tt

  equations-kept : (x : Ex) (es : Exs) → InOrder u x → AllOrdered u es false → AllOrdered u (equations x es) false
  equations-kept x no_exs h k = tt
  equations-kept x (more_exs a es) h k = ((refl, (h, (k.0, tt))), equations-kept x es h k.1)

  pub in-literal : (e : Ex) → Ordered u e → A (member_listed e)
  in-literal (ex2 true Op2.Member x (node_ex false set_literal es)) h = (refl, (equations-kept x es h.0 h.1.0.1, tt))
  in-literal (ex2 true Op2.Member x (node_ex false mset_literal es)) h = (refl, (equations-kept x es h.0 h.1.0.1, tt))
  in-literal (ex2 true Op2.Member x (node_ex false relation_literal es)) h = (refl, (equations-kept x es h.0 h.1.0.1, tt))
  in-literal _ h = tt

  ones-kept : (a : Ex) (es : Exs) → InOrder u a → AllOrdered u es false → AllOrdered u (ones_where a es) false
  ones-kept a no_exs h k = tt
  ones-kept a (more_exs b es) h k = ((refl, ((refl, (k.0, (h, tt))), tt)), ones-kept a es h k.1)

  pub frequency-listed : (e : Ex) → Ordered u e → A (frequency_listed e)
  frequency-listed (node_ex false (word Fun.Freq) (more_exs (node_ex false mset_literal es) (more_exs a no_exs))) h =
      (refl, (ones-kept a es h.1.0 h.0.1, tt))
  frequency-listed _ h = tt

  pub least-listed : (e : Ex) → Ordered u e → A (extreme_listed e)
  least-listed (fun1 b Fun.Min (node_ex false set_literal es)) h = (refl, h)
  least-listed (fun1 b Fun.Max (node_ex false set_literal es)) h = (refl, h)
  least-listed (fun1 b Fun.Min (node_ex false mset_literal es)) h = (refl, h)
  least-listed (fun1 b Fun.Max (node_ex false mset_literal es)) h = (refl, h)
  least-listed _ h = tt

  each-unequal : (a : Ex) (es rest : Exs) → InOrder u a → AllOrdered u es false → AllOrdered u rest false →
      AllOrdered u (unequal_each a es rest) false
  each-unequal a no_exs rest h k l = l
  each-unequal a (more_exs b es) rest h k l = ((refl, (k.0, (h, tt))), each-unequal a es rest h k.1 l)

  pairs-kept : (es : Exs) → AllOrdered u es false → AllOrdered u (unequal_pairs es) false
  pairs-kept no_exs h = tt
  pairs-kept (more_exs a es) h = each-unequal a es (unequal_pairs es) h.0 h.1 (pairs-kept es h.1)

  pub different-listed : (e : Ex) → Ordered u e → A (different_listed e)
  different-listed (fun1 true Fun.AllDiff (node_ex false matrix_literal es)) h = (refl, (pairs-kept es h.0, tt))
  different-listed _ h = tt

  pub chosen-shorter : (e : Ex) → Ordered u e → A (choice_shorter e)
  chosen-shorter (ex2 false Op2.Times (fun1 false Fun.ToInt c) (fun1 false Fun.ToInt d)) h =
      (refl, ((refl, (h.0.1.0, (h.1.0.1.0, tt))), tt))
  chosen-shorter (ex2 false Op2.Times (fun1 false Fun.ToInt c) (number_ex (pos (suc zero)))) h = h.0
  chosen-shorter _ h = tt
