-- Rules at the first generator that isn't plain, of relations applied, and of sets made of terms keep what they rewrite.
use Rattle.std.proofs.Common.{◌≡◌, refl, sym, ap, ◌∙◌, subst, Bool, true, false, if◌then◌else◌, List, [], ◌∷◌, Option, Some, None, option_map}
use Rattle.std.specs.Prelude.{is_some}
use Rattle.ess_semantics.specs.declared.words.Op2.{Op2}
use Rattle.ess_semantics.specs.declared.words.Fun.{Fun}
use Rattle.ess_semantics.specs.Lists.{and_then, all_some}
use Rattle.ess_semantics.specs.Values.{a_relation, Text, Value, truth, node, tuple, of_list, items_of}
use Rattle.ess_semantics.specs.Collections.{set_of}
use Rattle.ess_semantics.specs.Names.{Names}
use Rattle.ess_semantics.specs.Trees.{binary, word, application, tuple_literal, Ex, Exs, name_ex, node_ex, comp_ex, more_exs, ex2, fun1, Gens, no_gens, over, from, cond}
use Rattle.ess_semantics.specs.Types.{Ty, Tys, compound}
use Rattle.ess_semantics.specs.Typing.{type_of}
use Rattle.ess_semantics.specs.TypeMembers.{is_of_type}
use Rattle.ess_semantics.specs.Typed.{Typed}
use Rattle.ess_semantics.specs.Operators.{value_of_op, value_of_node, false_where_undefined, list_value}
use Rattle.ess_semantics.specs.Meaning.{Env, meaning, meanings, collect}
use Rattle.ess_semantics.specs.Meets.{Meets}
use Rattle.ess_semantics.specs.Kept.{Keeps}
use Rattle.ess_semantics.proofs.Tests.{and-left}
use Rattle.ess_semantics.proofs.Orders.{to_list-of_list}
use Rattle.ess_rules_laws.specs.Rules.{Sound, SoundOperands, OperandsThere}
use Rattle.ess_rules_laws.specs.SourceRules.{is_marked}
use Rattle.ess_rules_laws.specs.SpliceRules.{append_gens}
use Rattle.ess_rules_laws.specs.ConditionRules.{fold_within}
use Rattle.ess_rules_laws.specs.ListRules.{members_list}
use Rattle.ess_rules_laws.proofs.ConditionRules.{conditions-keep}
use Rattle.ess_rules_laws.proofs.RuleAnswers.{AnswerKeeps, fires, behind, each-in-any, collect-itself}
use Rattle.ess_refine_laws.specs.AllRules.{Supply}
use Rattle.ess_refine_laws.specs.ExtremeRules.{are_none}
use Rattle.ess_rules_laws.specs.FoldRules.{is_laid_open}
use Rattle.ess_open_rules_laws.specs.OpenGenerators.{Opened, with_first, opened_here, is_plain_over, at_first_open, folds_nested, nested}
use Rattle.ess_open_rules_laws.specs.OpenSources.{set_of_term}
use Rattle.ess_open_rules_laws.specs.OpenRules.{is_relation_ty, related}

no : {A : Type 0} → false ≡ true → A
no h = cc

-- ---- generators in two parts

-- Both parts are the generators.
pub opened-are : (gs : Gens) (t : Opened) → at_first_open gs ≡ Some t → gs ≡ append_gens t.before t.after
opened-are no_gens t q = cc
opened-are (over p d gs) t q = go (is_plain_over p d) q (λ u e. opened-are gs u e)
  where
    inner : (o : Option Opened) → at_first_open gs ≡ o → option_map (with_first (over p d)) o ≡ Some t →
        ((u : Opened) → at_first_open gs ≡ Some u → gs ≡ append_gens u.before u.after) → over p d gs ≡ append_gens t.before t.after
    inner None e q h = cc
    inner (Some u) e q h = subst (λ z. over p d gs ≡ append_gens z.before z.after) (let z : with_first (over p d) u ≡ t = cc in z)
        (ap (over p d) (h u e))

    go : (b : Bool) → (if b then option_map (with_first (over p d)) (at_first_open gs) else Some (opened_here (over p d gs))) ≡ Some t →
        ((u : Opened) → at_first_open gs ≡ Some u → gs ≡ append_gens u.before u.after) → over p d gs ≡ append_gens t.before t.after
    go true q h = inner (at_first_open gs) refl q h
    go false q h = subst (λ z. over p d gs ≡ append_gens z.before z.after) (let z : opened_here (over p d gs) ≡ t = cc in z) refl
opened-are (from p e gs) t q =
    subst (λ z. from p e gs ≡ append_gens z.before z.after) (let z : opened_here (from p e gs) ≡ t = cc in z) refl
opened-are (cond c gs) t q = go (at_first_open gs) refl q (λ u e. opened-are gs u e)
  where
    go : (o : Option Opened) → at_first_open gs ≡ o → option_map (with_first (cond c)) o ≡ Some t →
        ((u : Opened) → at_first_open gs ≡ Some u → gs ≡ append_gens u.before u.after) → cond c gs ≡ append_gens t.before t.after
    go None e q h = cc
    go (Some u) e q h = subst (λ z. cond c gs ≡ append_gens z.before z.after) (let z : with_first (cond c) u ≡ t = cc in z)
        (ap (cond c) (h u e))

-- ---- folds of folds

nested-answer : (e f : Ex) → nested e ≡ Some f → (env : Env) → OperandsThere e env → Keeps e f env
nested-answer (fun1 m w (comp_ex e gs)) f q env there = go (is_marked m w) refl q
  where
    Kept : Type 0
    Kept = Keeps (fun1 m w (comp_ex e gs)) f env

    split : (t : Opened) → at_first_open gs ≡ Some t → is_marked m w ≡ true → (b : Bool) →
        (if b then None else Some (fun1 m w (comp_ex (fun1 m w (comp_ex e t.after)) t.before))) ≡ Some f → Kept
    split t a k true q = cc
    split t a k false q = let g = opened-are gs t a in
        subst (λ z. Keeps (fun1 m w (comp_ex e gs)) z env)
        (let z : fold_within m w e t.before t.after ≡ f = cc in z)
        (subst (λ z. Keeps (fun1 m w (comp_ex e z)) (fold_within m w e t.before t.after) env) (sym g)
        (conditions-keep.within m w e t.before t.after env k
        (ap (λ z. is_some (meaning (comp_ex e z) env)) (sym g) ∙ and-left (is_some (meaning (comp_ex e gs) env)) true there)))

    opened : (o : Option Opened) → at_first_open gs ≡ o → is_marked m w ≡ true → and_then o (folds_nested m w e) ≡ Some f → Kept
    opened None a k q = cc
    opened (Some t) a k q = split t a k (are_none t.before) q

    go : (b : Bool) → is_marked m w ≡ b → (if b then and_then (at_first_open gs) (folds_nested m w e) else None) ≡ Some f → Kept
    go true k q = opened (at_first_open gs) refl k q
    go false k q = cc
nested-answer _ f q env there = cc

-- A fold behind plain generators.
pub nested-keeps : (e f : Ex) → nested e ≡ Some f → (env : Env) → OperandsThere e env → Keeps e f env
nested-keeps = nested-answer

-- ---- sets made of terms

set-means : (x : Text) (t : Ex) (env : Env) → meaning (fun1 false Fun.ToSet t) env ≡ meaning (fun1 false Fun.ToSet (members_list x t)) env
set-means x t env = go (meaning t env)
  where
    go : (o : Option Value) → value_of_node (word Fun.ToSet) (o ∷ []) ≡ value_of_node (word Fun.ToSet) (option_map list_value
        (and_then o (λ w. collect (items_of w) (λ v. option_map (λ u. u ∷ []) (meaning (name_ex x) (behind x v env))))) ∷ [])
    go None = refl
    go (Some w) = sym (ap (λ o. value_of_node (word Fun.ToSet) (option_map list_value o ∷ [])) (collect-itself x env (items_of w))
        ∙ ap (λ l. Some (set_of l)) (to_list-of_list (items_of w)))

set-answer : (s : Supply) (e : Ex) (env : Env) → AnswerKeeps (set_of_term s e) e env
set-answer s (fun1 false Fun.ToSet t) env = go (is_laid_open t)
  where
    go : (b : Bool) → AnswerKeeps (if b then None else Some (fun1 false Fun.ToSet (members_list s.one t))) (fun1 false Fun.ToSet t) env
    go true = tt
    go false = λ h. (set-means s.one t env, ((h.0, each-in-any (meaning t env) _ (λ v. tt)), tt))
set-answer s _ env = tt

-- The set of the members of a term.
pub set_of_term-keeps : (s : Supply) (e f : Ex) → set_of_term s e ≡ Some f → (env : Env) → Keeps e f env
set_of_term-keeps s e f q env = fires (set_of_term s e) e f env (set-answer s e env) q

-- ---- relations applied

module _ (r : Ex) (as' : Exs) (env : Env) where
  abbrev Old : Ex
  Old = node_ex true application (more_exs r as')

  abbrev New : Ex
  New = ex2 true Op2.Member (node_ex false tuple_literal as') r

  applied : (v : Value) → meaning r env ≡ Some v → (ts : Tys) → is_of_type (compound a_relation ts) env v ≡ true →
      meaning Old env ≡ meaning New env
  applied (node a_relation ps) q ts h = ap (λ o. false_where_undefined true (value_of_node application (o ∷ meanings as' env))) q
      ∙ go (all_some (meanings as' env))
      ∙ sym (ap (λ o. false_where_undefined true (value_of_node (binary Op2.Member)
      (value_of_node tuple_literal (meanings as' env) ∷ o ∷ []))) q)
    where
      go : (o : Option (List Value)) → false_where_undefined true
          (and_then (option_map (λ xs. node a_relation ps ∷ xs) o) (λ xs. value_of_op application xs)) ≡
          false_where_undefined true (value_of_node (binary Op2.Member) (and_then o (λ xs. Some (tuple (of_list xs)))
          ∷ Some (node a_relation ps) ∷ []))
      go None = refl
      go (Some xs) = refl
  applied _ q ts h = no h

  met-too : Meets Old env → Meets New env
  met-too h = (h.1, (h.0, tt))

related-there : (g : Names Ty) (r : Ex) (as' : Exs) (env : Env) → Typed g env → Sound g r → (o : Option Ty) → type_of r g ≡ o →
    is_relation_ty o ≡ true →
    meaning (node_ex true application (more_exs r as')) env ≡ meaning (ex2 true Op2.Member (node_ex false tuple_literal as') r) env
related-there g r as' env t s (Some (compound a_relation ts)) q h = go (meaning r env) refl
  where
    nowhere : (o : Option (List Value)) → false_where_undefined true (value_of_node (binary Op2.Member)
        (and_then o (λ xs. Some (tuple (of_list xs))) ∷ None ∷ [])) ≡ Some (truth false)
    nowhere None = refl
    nowhere (Some xs) = refl

    go : (o : Option Value) → meaning r env ≡ o →
        meaning (node_ex true application (more_exs r as')) env ≡ meaning (ex2 true Op2.Member (node_ex false tuple_literal as') r) env
    go None p = ap (λ o. false_where_undefined true (value_of_node application (o ∷ meanings as' env))) p
        ∙ sym (ap (λ o. false_where_undefined true (value_of_node (binary Op2.Member)
        (value_of_node tuple_literal (meanings as' env) ∷ o ∷ []))) p ∙ nowhere (all_some (meanings as' env)))
    go (Some v) p = applied r as' env v p ts (s (compound a_relation ts) q env t v p)
related-there g r as' env t s _ q h = no h

-- A relation applied.
pub related-keeps : (g : Names Ty) (e f : Ex) → related g e ≡ Some f → (env : Env) → Typed g env → SoundOperands g e → Keeps e f env
related-keeps g (node_ex true application (more_exs r as')) f q env t s h = go (is_relation_ty (type_of r g)) refl q
  where
    go : (b : Bool) → is_relation_ty (type_of r g) ≡ b →
        (if b then Some (ex2 true Op2.Member (node_ex false tuple_literal as') r) else None) ≡ Some f →
        (meaning (node_ex true application (more_exs r as')) env ≡ meaning f env) × Meets f env
    go true k q = subst (λ z. (meaning (node_ex true application (more_exs r as')) env ≡ meaning z env) × Meets z env)
        (let z : ex2 true Op2.Member (node_ex false tuple_literal as') r ≡ f = cc in z)
        (related-there g r as' env t s.0 (type_of r g) refl k, met-too r as' env h)
    go false k q = cc
related-keeps g _ f q env t s h = cc
