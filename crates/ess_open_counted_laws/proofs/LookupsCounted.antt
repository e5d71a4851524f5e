-- What a lookup counts on follows from values.
use Rattle.std.proofs.Common.{◌≡◌, refl, ap, ◌∙◌, subst, Bool, true, false, ◌&&◌, not, if◌then◌else◌, List, [], ◌∷◌, Option, Some, None}
use Rattle.std.specs.Prelude.{IsTrue, is_some}
use Rattle.std.specs.List.{list_all}
use Rattle.ess_semantics.specs.declared.words.Fun.{Fun}
use Rattle.ess_semantics.specs.Values.{Text, Value, number, truth, item, node, a_tuple, a_matrix, a_set, a_mset, a_function, a_relation, a_partition, a_record, items_of, itself, to_list}
use Rattle.ess_semantics.specs.Collections.{rises, has_overlap}
use Rattle.ess_semantics.specs.Names.{Names}
use Rattle.ess_semantics.specs.Trees.{index, application, word, Op, Ex, Exs, node_ex, no_exs, more_exs}
use Rattle.ess_semantics.specs.Types.{Ty, compound1}
use Rattle.ess_semantics.specs.TypeMembers.{is_of, is_of_type}
use Rattle.ess_semantics.specs.Membership.{is_part}
use Rattle.ess_semantics.specs.Typed.{Typed}
use Rattle.ess_semantics.specs.Contexts.{guards}
use Rattle.ess_semantics.specs.Meaning.{Env, meaning}
use Rattle.ess_semantics.proofs.Tests.{and-left, and-right}
use Rattle.ess_guard_laws.specs.Guard.{compares, counts}
use Rattle.ess_guard_natural_laws.specs.TotalButNatural.{opens_places}
use Rattle.ess_rules_laws.specs.Rules.{Unused}
use Rattle.ess_rules_laws.specs.FunctionLookups.{function_lookup}
use Rattle.ess_rules_laws.specs.AlternativeLookups.{list_lookup, function_literal_lookup, FirstOperandThere}
use Rattle.ess_values_along_laws.specs.Valued.{Valued, AllValued}
use Rattle.ess_values_terms_laws.proofs.ValuedForms.{and-no, said, there, all-there}
use Rattle.ess_kind_rules_laws.specs.TermLookups.{picks, picked_within, view_item_lookup, domain_list_lookup, party_lookup, names_of_argument, function_view_lookup}
use Rattle.ess_kind_rules_laws.specs.KindRules.{asks_truth}
use Rattle.ess_kinds_kept_laws.specs.PartyAsks.{IsParted, LastParted}
use Rattle.ess_kinds_kept_laws.specs.LookupAsks.{OrAsks, AloneAsks, FitsWithin, LookupAsks}
use Rattle.ess_counted_more_laws.specs.MoreCounted.{IsTyped}
use Rattle.ess_open_counted_laws.specs.LookupsBeside.{LastPartition, AloneBeside, LookupBeside, LookupsAreCountedOn}

-- The first of two that is there, said otherwise.
pub or-map : {A : Type 0} (o : Option A) (P R : A → Type 0) (Q S : Type 0) → OrAsks o P Q → ((a : A) → o ≡ Some a → P a → R a) → (Q → S) →
    OrAsks o R S
or-map None P R Q S c f h = h c
or-map (Some a) P R Q S c f h = f a refl c

-- ---- what picks a value

-- It neither guards, compares nor counts.
pub record Plain (op : Op) : Type 0 where
  pub behind : guards op ≡ false
  pub beside : compares op ≡ false
  pub within : counts op ≡ false

pub picks-plain : (b : Bool) (op : Op) (es : Exs) → picks (node_ex b op es) ≡ true → Plain op
picks-plain b (index qs) es h = record { behind = refl; beside = refl; within = refl }
picks-plain b application es h = record { behind = refl; beside = refl; within = refl }
picks-plain b (word Fun.Image) es h = record { behind = refl; beside = refl; within = refl }
picks-plain b (word Fun.Party) es h = record { behind = refl; beside = refl; within = refl }
picks-plain b _ es h = cc

module _ (env : Env) where
  -- Operands of such an operator stand in no natural place.
  pub operands-plain : (w b : Bool) (op : Op) (es : Exs) → Plain op → Valued w (node_ex b op es) env → AllValued false false es env
  operands-plain w b op es q v =
      subst (λ z. AllValued z false es env) q.behind (subst (λ z. AllValued (guards op) z es env) (opens b q) v.1)
    where
      opens : (b : Bool) → Plain op → opens_places w b op ≡ false
      opens true q = q.beside
      opens false q = ap (λ z. w && z) q.within ∙ and-no w

  -- It has a value, unless it is read as Boolean.
  pub plain-there : (w : Bool) (op : Op) (es : Exs) → Plain op → Valued w (node_ex false op es) env →
      IsTrue (is_some (meaning (node_ex false op es) env))
  plain-there w op es q v =
      said (w && counts op) (IsTrue (is_some (meaning (node_ex false op es) env))) (ap (λ z. w && z) q.within ∙ and-no w) v.0

  -- So it is of what picks a value.
  pub operands-in : (w b : Bool) (op : Op) (es : Exs) → picks (node_ex b op es) ≡ true → Valued w (node_ex b op es) env →
      AllValued false false es env
  operands-in w b op es p v = operands-plain w b op es (picks-plain b op es p) v

  pub picked-there : (w : Bool) (op : Op) (es : Exs) → picks (node_ex false op es) ≡ true → Valued w (node_ex false op es) env →
      IsTrue (is_some (meaning (node_ex false op es) env))
  picked-there w op es p v = plain-there w op es (picks-plain false op es p) v

  -- What is picked within picks a value itself, and stands in no natural place.
  pub within : (w : Bool) (e t : Ex) → picked_within e ≡ Some t → picks e ≡ true → Valued w e env → (picks t ≡ true) × Valued false t env
  within w (node_ex b (index (s ∷ [])) (more_exs u es)) t q p v =
      go (picks u) refl q (operands-in w b (index (s ∷ [])) (more_exs u es) p v)
    where
      go : (c : Bool) → picks u ≡ c → (if c then Some u else None) ≡ Some t → AllValued false false (more_exs u es) env →
          (picks t ≡ true) × Valued false t env
      go true r q h = let e : u ≡ t = cc in (ap picks (let e : t ≡ u = cc in e) ∙ r, subst (λ z. Valued false z env) e h.0)
      go false r q h = cc
  within w _ t q p v = cc

  fits : (w : Bool) (t e : Ex) → picks e ≡ true → not (asks_truth e) ≡ true → Valued w e env → FitsWithin t e env
  fits w t (node_ex false op es) p a v = λ i. picked-there w op es p v
  fits w t (node_ex true op es) p a v = cc
  fits w t _ p a v = cc

  first-there : (b : Bool) (op : Op) (es : Exs) → AllValued false false es env → FirstOperandThere (node_ex b op es) env
  first-there b op no_exs h = tt
  first-there b op (more_exs a es) h = there a env h.0

-- ---- partitions

-- A partition has members that rise and share no members.
parted-of : (t : Ty) (v : Value) (env : Env) → IsTrue (is_of_type (compound1 a_partition t) env v) →
    (rises itself (items_of v) ≡ true) × (not (has_overlap (items_of v)) ≡ true)
parted-of t (node a_partition ps) env h = let r = rises itself (to_list ps) in
    let l = list_all (is_part (is_of env.positions env.types t)) (to_list ps) in
    (and-left r l (and-left (r && l) (not (has_overlap (to_list ps))) h), and-right (r && l) (not (has_overlap (to_list ps))) h)
parted-of t (node a_tuple vs) env h = cc
parted-of t (node a_matrix vs) env h = cc
parted-of t (node a_set vs) env h = cc
parted-of t (node a_mset vs) env h = cc
parted-of t (node a_function vs) env h = cc
parted-of t (node a_relation vs) env h = cc
parted-of t (node (a_record fs) vs) env h = cc
parted-of t (number n) env h = cc
parted-of t (truth b) env h = cc
parted-of t (item a n) env h = cc

module _ (g : Names Ty) (env : Env) (typed : Typed g env) where
  parted : (t : Ty) (p : Ex) → IsTyped g (compound1 a_partition t) p → IsTrue (is_some (meaning p env)) → IsParted p env
  parted t p k h = go (meaning p env) refl h
    where
      go : (o : Option Value) → meaning p env ≡ o → IsTrue (is_some o) → IsParted p env
      go None q h = cc
      go (Some v) q h = let r = parted-of t v env (k.1 (compound1 a_partition t) k.0 env typed v q) in
          record { value = v; is_value = q; rising = r.0; apart = r.1 }

  last-parted : (b : Bool) (op : Op) (es : Exs) → LastPartition g (node_ex b op es) → AllValued false false es env →
      LastParted (node_ex b op es) env
  last-parted b op (more_exs a (more_exs p no_exs)) k h = parted k.0 p k.1 (there p env h.1.0)
  last-parted b op _ k h = tt

  -- ---- lookups

  pub alone-asked : (x : Text) (zs : List Text) (w : Bool) (e : Ex) → picks e ≡ true → Valued w e env → AloneBeside g x zs e env →
      AloneAsks g x zs e env
  alone-asked x zs w (node_ex b op es) p v c = let h = operands-in env w b op es p v in
      or-map (list_lookup (node_ex b op es)) _ _ _ _ c (λ l q u. first-there env b op es h)
      (λ c. or-map (domain_list_lookup x (node_ex b op es)) _ _ _ _ c (λ l q u. (u, first-there env b op es h))
      (λ c. or-map (function_literal_lookup (node_ex b op es)) _ _ _ _ c (λ l q u. first-there env b op es h)
      (λ c. or-map (function_view_lookup x (names_of_argument zs (node_ex b op es)) (node_ex b op es)) _ _ _ _ c (λ l q u. u)
      (λ c. or-map (view_item_lookup x (node_ex b op es)) _ _ _ _ c (λ l q u. u)
      (λ c. or-map (party_lookup x (node_ex b op es)) _ _ _ _ c (λ l q u. (u.0, last-parted b op es u.1 h))
      (λ c. or-map (function_lookup g x (node_ex b op es)) _ _ _ _ c (λ l q u. (u.0, u.1, all-there es env h)) (λ c. tt)))))))
  alone-asked x zs w _ p v c = cc

  pub lookup-asked : (x : Text) (ys : List Text) (e : Ex) → picks e ≡ true → not (asks_truth e) ≡ true → (w : Bool) → Valued w e env →
      LookupBeside g x ys e env → LookupAsks g x ys e env
  lookup-asked x [] e p a w v c = tt
  lookup-asked x (y ∷ zs) e p a w v c = go (picked_within e) refl c (λ t p a v c. lookup-asked x zs t p a false v c)
    where
      go : (o : Option Ex) → picked_within e ≡ o → elim o as (λ z. Type 0) [
        | None ↦ AloneBeside g x zs e env
        | Some t ↦ Unused y e × IsTrue (not (asks_truth t)) × LookupBeside g x zs t env
      ] → ((t : Ex) → picks t ≡ true → not (asks_truth t) ≡ true → Valued false t env → LookupBeside g x zs t env →
          LookupAsks g x zs t env) →
          elim o as (λ z. Type 0) [
            | None ↦ AloneAsks g x zs e env
            | Some t ↦ Unused y e × IsTrue (not (asks_truth t)) × FitsWithin t e env × LookupAsks g x zs t env
          ]
      go None q c h = alone-asked x zs w e p v c
      go (Some t) q c h = let r = within env w e t q p v in (c.0, c.1, fits env w t e p a v, h t r.0 c.1 r.1 c.2)

-- What is proved of lookups.
pub lookups-are-counted-on : LookupsAreCountedOn
lookups-are-counted-on = λ g x ys e p a env t w v c. lookup-asked g env t x ys e p a w v c
