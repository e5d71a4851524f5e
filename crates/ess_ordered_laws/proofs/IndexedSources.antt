-- A source by its indices: they pick its items, in order.
use Rattle.std.proofs.Common.{◌≡◌, refl, sym, ap, ◌∙◌, subst, suc, Bool, true, false, ◌||◌, if◌then◌else◌, List, [], ◌∷◌, ◌++◌, length, Option, Some, None, option_map, arith}
use Rattle.ess_semantics.specs.Lists.{and_then, list_or_none}
use Rattle.ess_semantics.specs.Values.{Text, Value, number, truth, item, node, of_list, items_of, matrix, itself, a_matrix}
use Rattle.ess_semantics.specs.Order.{same, below}
use Rattle.ess_semantics.specs.Names.{Names}
use Rattle.ess_semantics.specs.Collections.{holds, rises}
use Rattle.ess_semantics.specs.Trees.{index, by_value, name_pat, Ex, name_ex, comp_ex, Gens, from, Dom}
use Rattle.ess_semantics.specs.Types.{Ty, compound2, is_bool}
use Rattle.ess_semantics.specs.Typing.{type_of}
use Rattle.ess_semantics.specs.Domains.{Domain}
use Rattle.ess_semantics.specs.Operators.{value_of_node, false_where_undefined, list_value, item_at}
use Rattle.ess_semantics.specs.Meaning.{Env, meaning, domain_of, members_in, items_under, collect, with_pat}
use Rattle.ess_semantics.specs.Contexts.{Each, EachOf, EachIn}
use Rattle.ess_semantics.specs.Kept.{Keeps}
use Rattle.ess_semantics.specs.Meets.{Meets, MeetsGens}
use Rattle.ess_semantics.proofs.Orders.{same-equal, same-itself}
use Rattle.ess_ordered_laws.specs.ToldAxes.{told_axis}
use Rattle.ess_repr_laws.proofs.AllMembersListed.{domain-listed}
use Rattle.ess_rules_laws.specs.Rules.{Unused, IsTruth}
use Rattle.ess_rules_laws.specs.MatrixRules.{item_of}
use Rattle.ess_rules_laws.proofs.RuleAnswers.{AnswerKeeps, fires, behind, each-any, meaning-behind, meets-behind, name-behind}
use Rattle.ess_refine_laws.specs.IndexedLists.{of_matrix}
use Rattle.ess_ordered_laws.specs.IndexedSources.{is_by_index, items_at, indexed_source}
use Rattle.ess_ordered_laws.specs.Laws.{MatrixOver, IndicesTold, SourceTold, SourcesKeep}
use Rattle.ess_ordered_laws.proofs.Places.{first-below, rest-rises, never-below-itself}

no : {A : Type 0} → false ≡ true → A
no h = cc

-- ---- items at indices that rise

-- What picks each item collects them all.
collect-each : (is xs : List Value) → rises itself is ≡ true → length is ≡ length xs → (G : Value → Option (List Value))
    → ((w y : Value) → holds is w ≡ true → item_at (of_list is) (of_list xs) w ≡ Some y → G w ≡ Some (y ∷ [])) → collect is G ≡ Some xs
collect-each [] [] r n G h = refl
collect-each [] (x ∷ xs) r n G h = absurd (let z : 0 ≡ suc (length xs) = n in omega arith)
collect-each (i ∷ is) [] r n G h = absurd (let z : suc (length is) ≡ 0 = n in omega arith)
collect-each (i ∷ is) (x ∷ xs) r n G h =
    ap (λ o. and_then o (λ xs. option_map (λ ys. xs ++ ys) (collect is G)))
    (h i x (ap (λ b. b || holds is i) (same-itself i)) (ap (λ b. if b then Some x else item_at (of_list is) (of_list xs) i) (same-itself i)))
    ∙ ap (option_map (λ ys. x ∷ ys)) (collect-each is xs (rest-rises i is r) (omega arith) G (λ w y q e. later w y q e (same i w) refl))
  where
    later : (w y : Value) → holds is w ≡ true → item_at (of_list is) (of_list xs) w ≡ Some y → (b : Bool) → same i w ≡ b → G w ≡ Some (y ∷ [])
    later w y q e true s = no (sym (never-below-itself i) ∙ ap (below i) (same-equal i w s) ∙ first-below i is r w q)
    later w y q e false s = h w y (ap (λ b. b || holds is w) s ∙ q)
        (ap (λ b. if b then Some x else item_at (of_list is) (of_list xs) w) s ∙ e)

there-stays : (b : Bool) (w : Value) → (b ≡ true → IsTruth (Some w)) → false_where_undefined b (Some w) ≡ Some w
there-stays true w h = go w (h refl)
  where
    go : (w : Value) → IsTruth (Some w) → false_where_undefined true (Some w) ≡ Some w
    go (truth c) t = refl
    go (number n) t = absurd t
    go (item a n) t = absurd t
    go (node a vs) t = absurd t
there-stays false w h = refl

-- What holds of each item holds of the one at an index.
at-has : (P : Value → Type 0) (is xs : List Value) (w y : Value) → Each xs P → item_at (of_list is) (of_list xs) w ≡ Some y → P y
at-has P [] xs w y h e = cc
at-has P (i ∷ is) [] w y h e = cc
at-has P (i ∷ is) (x ∷ xs) w y h e = go (same i w) e (λ q. at-has P is xs w y h.1 q)
  where
    go : (b : Bool) → (if b then Some x else item_at (of_list is) (of_list xs) w) ≡ Some y → (item_at (of_list is) (of_list xs) w ≡ Some y → P y) → P y
    go true e r = subst P (ap (λ o. elim o [ None ↦ x | Some z ↦ z ]) e) h.0
    go false e r = r e

members-rise : (o : Option Domain) (vs : List Value) → members_in o ≡ Some vs → rises itself vs ≡ true
members-rise None vs q = cc
members-rise (Some c) vs q = ap (rises itself) (sym (ap list_or_none q)) ∙ (domain-listed c).sorted

-- ---- the term

module _ (x : Text) (u : Ty) (t : Ex) (d : Dom) (env : Env) (new : Unused x t) (m : MatrixOver t d env)
    (truths : is_bool (Some u) ≡ true → Each m.items (λ v. IsTruth (Some v))) where
  abbrev G : Value → Option (List Value)
  G v = option_map (λ w. w ∷ []) (meaning (item_of u t (name_ex x)) (behind x v env))

  picked-at : (w y : Value) → item_at (of_list m.indices) (of_list m.items) w ≡ Some y → G w ≡ Some (y ∷ [])
  picked-at w y e =
      ap (λ o. option_map (λ w. w ∷ []) (false_where_undefined (is_bool (Some u)) (value_of_node (index (by_value ∷ []))
      (o ∷ meaning (name_ex x) (behind x w env) ∷ [])))) (meaning-behind x w t env new ∙ m.value)
      ∙ ap (λ o. option_map (λ w. w ∷ []) (false_where_undefined (is_bool (Some u)) (value_of_node (index (by_value ∷ []))
      (Some (matrix (of_list m.indices) (of_list m.items)) ∷ o ∷ [])))) (name-behind x w env)
      ∙ ap (λ o. option_map (λ w. w ∷ []) (false_where_undefined (is_bool (Some u)) (and_then o (λ w. Some w)))) e
      ∙ ap (option_map (λ w. w ∷ [])) (there-stays (is_bool (Some u)) y (λ b. at-has (λ v. IsTruth (Some v)) m.indices m.items w y (truths b) e))

  -- By its indices it has the same items.
  by-indices : meaning (items_at x d t u) env ≡ Some (list_value m.items)
  by-indices = ap (option_map list_value) (ap (λ o. and_then o (λ vs. collect vs G)) m.axis
      ∙ collect-each m.indices m.items (members-rise (domain_of d env) m.indices m.axis) m.as_many G (λ w y q e. picked-at w y e))

  met-by-indices : Meets t env → Meets (items_at x d t u) env
  met-by-indices mt = (m.met, each-of-any (members_in (domain_of d env)) _ (λ v. (meets-behind x v t env new mt, (tt, tt))))
    where
      each-of-any : (o : Option (List Value)) (P : Value → Type 0) → ((v : Value) → P v) → EachOf o P
      each-of-any None P f = tt
      each-of-any (Some vs) P f = each-any vs P f

  module _ (e : Ex) (y : Text) (hs : Gens) where
    abbrev K : Value → Option (List Value)
    K v = items_under hs (with_pat (name_pat y) v env) (λ here. option_map (λ v. v ∷ []) (meaning e here))

    comp-keeps : Keeps (comp_ex e (from (name_pat y) t hs)) (comp_ex e (from (name_pat y) (items_at x d t u) hs)) env
    comp-keeps mc = (
      ap (λ o. option_map list_value (and_then o (λ s. collect (items_of s) K))) m.value
          ∙ sym (ap (λ o. option_map list_value (and_then o (λ s. collect (items_of s) K))) by-indices),
      (
        met-by-indices mc.0,
        subst (λ o. EachIn o (λ v. MeetsGens hs (with_pat (name_pat y) v env) (λ here. Meets e here))) (sym by-indices)
            (subst (λ o. EachIn o (λ v. MeetsGens hs (with_pat (name_pat y) v env) (λ here. Meets e here))) m.value mc.1),
      ),
    )

source-answer : (g : Names Ty) (x : Text) (e t : Ex) (y : Text) (hs : Gens) (env : Env) → Unused x t → (c : Bool) (o : Option Dom) (p : Option Ty)
    → IndicesTold o p t env
    → AnswerKeeps (option_map (λ l. comp_ex e (from (name_pat y) l hs)) (if c then and_then o (λ d. of_matrix p (items_at x d t)) else None))
    (comp_ex e (from (name_pat y) t hs)) env
source-answer g x e t y hs env new false o p h = tt
source-answer g x e t y hs env new true None p h = tt
source-answer g x e t y hs env new true (Some d) (Some (compound2 a_matrix i u)) h = comp-keeps x u t d env new h.0 h.1 e y hs
source-answer g x e t y hs env new true (Some d) _ h = tt

comp-answer : (g : Names Ty) (x : Text) (e : Ex) (env : Env) → SourceTold g x e env → AnswerKeeps (indexed_source g x e) e env
comp-answer g x (comp_ex e (from (name_pat y) t hs)) env h =
    source-answer g x e t y hs env h.0 (is_by_index t) (told_axis t) (type_of t g) h.1
comp-answer g x _ env h = tt

-- So a source by its indices keeps the comprehension.
pub sources-keep : SourcesKeep
sources-keep g x e f q env h = fires (indexed_source g x e) e f env (comp-answer g x e env h) q
