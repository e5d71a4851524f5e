-- Comprehensions and folds whose generators are gone mean what they meant.
use Rattle.std.proofs.Common.{◌≡◌, refl, sym, ap, ◌∙◌, subst, Bool, true, false, ◌&&◌, not, if◌then◌else◌, List, [], ◌∷◌, ℤ, Option, Some}
use Rattle.std.proofs.Common.{None}
use Rattle.std.proofs.Common.{option_map, nat_le, arith}
use Rattle.std.proofs.lemmas.Int.{ints}
use Rattle.ess_semantics.specs.declared.words.Op2.{Op2}
use Rattle.ess_semantics.specs.declared.words.Fun.{Fun}
use Rattle.ess_semantics.specs.Lists.{or_default, when}
use Rattle.ess_semantics.specs.Values.{Value, number, truth, item, node}
use Rattle.ess_semantics.specs.Names.{Names}
use Rattle.ess_semantics.specs.Trees.{Op, binary, word, matrix_literal, Ex, Exs, node_ex, comp_ex, no_exs, more_exs, Gens, no_gens, over}
use Rattle.ess_semantics.specs.Trees.{from, cond, ex2, fun1}
use Rattle.ess_semantics.specs.Operators.{as_truth, list_value, number_in, value_of_node, value_of_word1}
use Rattle.ess_semantics.specs.Operators.{false_where_undefined}
use Rattle.ess_semantics.specs.Tables.{Table}
use Rattle.ess_semantics.specs.Meaning.{Env, TypeEntry, meaning, meanings, items_under, where_true}
use Rattle.ess_semantics.proofs.Tests.{and-right}
use Rattle.ess_rules_laws.proofs.Simulation.{Vals, E}
use Rattle.ess_guard_laws.specs.Origins.{Origin}
use Rattle.ess_guard_laws.proofs.NumberForms.{number-form}
use Rattle.ess_guard_laws.proofs.KnownNames as K
use Rattle.ess_keys_laws.specs.Chains.{all_under_and}
use Rattle.ess_keys_laws.specs.Keyed.{laid, is_bare, are_conditions, connected, all_of, conditions_of, how_many, joined, is_folded}
use Rattle.ess_keys_laws.specs.Keyed.{fold_of, folded}
use Rattle.ess_keys_laws.proofs.Conjunctions.{single, Fold, Under, and-alone, All, all-alone, all-more, implied-more, conjunction-means}
use Rattle.ess_keys_laws.proofs.Forms.{truth-there}

-- ---- lists

-- A literal of one item is the list of it.
pub laid-means : (e : Ex) (gs : Gens) (env : Env) → meaning (laid e gs) env ≡ meaning (comp_ex e gs) env
laid-means e no_gens env = single (meaning e env)
laid-means e (over p d gs) env = refl
laid-means e (from p s gs) env = refl
laid-means e (cond c gs) env = refl

-- ---- conditions

or-alone : (o : Option Value) → Fold Fun.Or (option_map (λ v. v ∷ []) o) ≡ Some (truth (as_truth o))
or-alone None = refl
or-alone (Some (truth true)) = refl
or-alone (Some (truth false)) = refl
or-alone (Some (number n)) = refl
or-alone (Some (item t k)) = refl
or-alone (Some (node k xs)) = refl

and-more : (o r : Option Value) (x : Option (List Value)) → Fold Fun.And x ≡ Some (truth (as_truth r))
    → Fold Fun.And (where_true o (λ u. x)) ≡ Some (truth (as_truth (Under Op2.Implies o r)))
and-more (Some (truth true)) r x h = h
and-more (Some (truth false)) r x h = refl
and-more (Some (number n)) r x h = refl
and-more (Some (item t k)) r x h = refl
and-more (Some (node k xs)) r x h = refl
and-more None r x h = refl

or-more : (o r : Option Value) (x : Option (List Value)) → Fold Fun.Or x ≡ Some (truth (as_truth r))
    → Fold Fun.Or (where_true o (λ u. x)) ≡ Some (truth (as_truth (Under Op2.And o r)))
or-more (Some (truth true)) r x h = h
or-more (Some (truth false)) r x h = refl
or-more (Some (number n)) r x h = refl
or-more (Some (item t k)) r x h = refl
or-more (Some (node k xs)) r x h = refl
or-more None r x h = refl

and-under : (e : Ex) (gs : Gens) (env : Env) → are_conditions gs ≡ true
    → meaning (fun1 true Fun.And (comp_ex e gs)) env ≡ Some (truth (as_truth (meaning (connected Op2.Implies gs e) env)))
and-under e no_gens env t = and-alone (meaning e env)
and-under e (cond c gs) env t =
    and-more (meaning c env) (meaning (connected Op2.Implies gs e) env) (items_under gs env (λ here. option_map (λ v. v ∷ [])
    (meaning e here)))
    (and-under e gs env t)
and-under e (over p d gs) env t = cc
and-under e (from p s gs) env t = cc

or-under : (e : Ex) (gs : Gens) (env : Env) → are_conditions gs ≡ true
    → meaning (fun1 true Fun.Or (comp_ex e gs)) env ≡ Some (truth (as_truth (meaning (connected Op2.And gs e) env)))
or-under e no_gens env t = or-alone (meaning e env)
or-under e (cond c gs) env t =
    or-more (meaning c env) (meaning (connected Op2.And gs e) env) (items_under gs env (λ here. option_map (λ v. v ∷ []) (meaning e here)))
    (or-under e gs env t)
or-under e (over p d gs) env t = cc
or-under e (from p s gs) env t = cc

-- Conditions with what stands under them, as a list under `and`.
all-under : (e : Ex) (gs : Gens) (env : Env) → are_conditions gs ≡ true
    → meaning (all_under_and (all_of gs e)) env ≡ Some (truth (as_truth (meaning (connected Op2.And gs e) env)))
all-under e no_gens env t = all-alone (meaning e env)
all-under e (cond c gs) env t =
    all-more (meaning c env) (meaning (connected Op2.And gs e) env) (meanings (all_of gs e) env) (all-under e gs env t)
all-under e (over p d gs) env t = cc
all-under e (from p s gs) env t = cc

-- What stands under conditions that are a list.
implied-under : (e : Ex) (gs : Gens) (env : Env) → are_conditions gs ≡ true
    → Under Op2.Implies (All (meanings (conditions_of gs) env)) (meaning e env)
    ≡ Some (truth (as_truth (meaning (connected Op2.Implies gs e) env)))
implied-under e no_gens env t = refl
implied-under e (cond c gs) env t =
    implied-more (meaning c env) (meaning (connected Op2.Implies gs e) env) (meaning e env) (meanings (conditions_of gs) env)
    (implied-under e gs env t)
implied-under e (over p d gs) env t = cc
implied-under e (from p s gs) env t = cc

-- What stands under conditions is a truth value.
connected-truth : (o : Op2) (e : Ex) (gs : Gens) (env : Env) → not (is_bare gs) && are_conditions gs ≡ true
    → meaning (connected o gs e) env ≡ Some (truth (as_truth (meaning (connected o gs e) env)))
connected-truth o e no_gens env t = cc
connected-truth o e (cond c gs) env t = refl
connected-truth o e (over p d gs) env t = cc
connected-truth o e (from p s gs) env t = cc

-- The same where many of them are a list.
implied-truth : (e : Ex) (gs : Gens) (env : Env) (b : Bool) → not (is_bare gs) && are_conditions gs ≡ true
    → meaning (if b then ex2 true Op2.Implies (all_under_and (conditions_of gs)) e else connected Op2.Implies gs e) env
    ≡ Some (truth (as_truth (meaning (connected Op2.Implies gs e) env)))
implied-truth e gs env true q = implied-under e gs env (and-right (not (is_bare gs)) (are_conditions gs) q)
implied-truth e gs env false q = connected-truth Op2.Implies e gs env q

and-folded : (e : Ex) (gs : Gens) (env : Env) (t : Bool) → not (is_bare gs) && are_conditions gs ≡ t
    → meaning (or_default (when t (joined Op2.Implies gs e)) (fun1 true Fun.And (comp_ex e gs))) env
    ≡ meaning (fun1 true Fun.And (comp_ex e gs)) env
and-folded e gs env true q =
    implied-truth e gs env (nat_le 16 (how_many gs)) q ∙ sym (and-under e gs env (and-right (not (is_bare gs)) (are_conditions gs) q))
and-folded e gs env false q = refl

joined-truth : (e : Ex) (gs : Gens) (env : Env) (b : Bool) → not (is_bare gs) && are_conditions gs ≡ true
    → meaning (if b then all_under_and (all_of gs e) else connected Op2.And gs e) env
    ≡ Some (truth (as_truth (meaning (connected Op2.And gs e) env)))
joined-truth e gs env true q = all-under e gs env (and-right (not (is_bare gs)) (are_conditions gs) q)
joined-truth e gs env false q = connected-truth Op2.And e gs env q

or-folded : (e : Ex) (gs : Gens) (env : Env) (t : Bool) → not (is_bare gs) && are_conditions gs ≡ t
    → meaning (or_default (when t (joined Op2.And gs e)) (fun1 true Fun.Or (comp_ex e gs))) env
    ≡ meaning (fun1 true Fun.Or (comp_ex e gs)) env
or-folded e gs env true q =
    joined-truth e gs env (nat_le 16 (how_many gs)) q ∙ sym (or-under e gs env (and-right (not (is_bare gs)) (are_conditions gs) q))
or-folded e gs env false q = refl

-- ---- items

-- A literal of one item.
abbrev One : Ex → Ex
One e = node_ex false matrix_literal (more_exs e no_exs)

sum-one : (n : ℤ) → value_of_word1 Fun.Sum (list_value (number n ∷ [])) ≡ Some (number n)
sum-one n = ap (λ m. Some (number m)) (omega (arith, ints))

product-one : (n : ℤ) → value_of_word1 Fun.Product (list_value (number n ∷ [])) ≡ Some (number n)
product-one n = ap (λ m. Some (number m)) (omega (arith, ints))

fold-number : (f : Fun) → ((n : ℤ) → value_of_word1 f (list_value (number n ∷ [])) ≡ Some (number n)) → (o : Option Value)
    → ((v : Value) → o ≡ Some v → v ≡ number (number_in v)) → o ≡ value_of_node (word f) (value_of_node matrix_literal (o ∷ []) ∷ [])
fold-number f one None h = refl
fold-number f one (Some v) h =
    subst (λ w. Some w
    ≡ value_of_node (word f) (value_of_node matrix_literal (Some w ∷ []) ∷ [])) (sym (h v refl)) (sym (one (number_in v)))

module _ (pl : Bool) (ts : List TypeEntry) (cs : Names Table) where
  abbrev M : Vals → Env
  M g = E pl ts cs g

  abbrev Known : Names Origin → Vals → Type 0
  Known k g = K.Known pl ts cs k g

  item-folded : (k : Names Origin) (b : Bool) (f : Fun) (e : Ex) (g : Vals) → Known k g → is_folded k b f e ≡ true
      → meaning e (M g) ≡ meaning (fun1 b f (One e)) (M g)
  item-folded k true Fun.And e g h t =
      truth-there pl ts cs k e g h t ∙ sym (and-alone (meaning e (M g)))
      ∙ ap (λ x. false_where_undefined true (value_of_node (word Fun.And) (x ∷ []))) (sym (single (meaning e (M g))))
  item-folded k true Fun.Or e g h t =
      truth-there pl ts cs k e g h t ∙ sym (or-alone (meaning e (M g)))
      ∙ ap (λ x. false_where_undefined true (value_of_node (word Fun.Or) (x ∷ []))) (sym (single (meaning e (M g))))
  item-folded k false Fun.Sum e g h t =
      fold-number Fun.Sum sum-one (meaning e (M g)) (λ v q. number-form k e (M g) (K.known-numbers pl ts cs k g h) t v q)
  item-folded k false Fun.Product e g h t =
      fold-number Fun.Product product-one (meaning e (M g)) (λ v q. number-form k e (M g) (K.known-numbers pl ts cs k g h) t v q)
  item-folded k b f e g h t = cc

  item-left : (k : Names Origin) (b : Bool) (f : Fun) (e : Ex) (g : Vals) → Known k g → (t : Bool) → is_folded k b f e ≡ t
      → meaning (or_default (when t e) (fun1 b f (One e))) (M g) ≡ meaning (fun1 b f (One e)) (M g)
  item-left k b f e g h true q = item-folded k b f e g h q
  item-left k b f e g h false q = refl

  fold-means : (k : Names Origin) (b : Bool) (f : Fun) (l : Ex) (g : Vals) → Known k g
      → meaning (or_default (fold_of k b f l) (fun1 b f l)) (M g) ≡ meaning (fun1 b f l) (M g)
  fold-means k true Fun.And (comp_ex e gs) g h = and-folded e gs (M g) (not (is_bare gs) && are_conditions gs) refl
  fold-means k true Fun.Or (comp_ex e gs) g h = or-folded e gs (M g) (not (is_bare gs) && are_conditions gs) refl
  fold-means k b f (node_ex false matrix_literal (more_exs e no_exs)) g h = item-left k b f e g h (is_folded k b f e) refl
  fold-means k b f l g h = refl

  -- An operator's node means the same.
  pub folded-means : (k : Names Origin) (b : Bool) (op : Op) (es : Exs) (g : Vals) → Known k g
      → meaning (folded k b op es) (M g) ≡ meaning (node_ex b op es) (M g)
  folded-means k b (word f) (more_exs l no_exs) g h = fold-means k b f l g h
  folded-means k true (binary Op2.And) (more_exs a (more_exs r no_exs)) g h = conjunction-means a r (M g)
  folded-means k b op es g h = refl
