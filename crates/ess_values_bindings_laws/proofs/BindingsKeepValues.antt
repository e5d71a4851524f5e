-- Rules over bindings that keep values at their root.
use Rattle.std.proofs.Common.{◌≡◌, refl, ap, ◌∙◌, subst, Bool, true, false, ◌&&◌, ◌||◌, if◌then◌else◌, List, [], ◌∷◌, Option, Some, None, option_map}
use Rattle.std.specs.Prelude.{IsTrue, is_some}
use Rattle.ess_semantics.specs.declared.words.Fun.{Fun}
use Rattle.ess_semantics.specs.Lists.{and_then}
use Rattle.ess_semantics.specs.Values.{Text, Value, number, truth, item, node, items_of}
use Rattle.ess_semantics.specs.Order.{same}
use Rattle.ess_semantics.specs.Collections.{holds, sorted_once, set_of}
use Rattle.ess_semantics.specs.Names.{Names}
use Rattle.ess_semantics.specs.Trees.{word, Pat, name_pat, tuple_pat, Ex, comp_ex, fun1, Gens, no_gens, over, from, cond, tuple_dom, record_dom}
use Rattle.ess_semantics.specs.Types.{Ty}
use Rattle.ess_semantics.specs.Operators.{as_truth, value_of_node, list_value}
use Rattle.ess_semantics.specs.Meaning.{Env, with_pat, meaning, items_under, collect, where_true, domain_of, members_in}
use Rattle.ess_semantics.specs.Contexts.{Each, EachOf, EachIn}
use Rattle.ess_semantics.specs.Meets.{Meets}
use Rattle.ess_semantics.specs.Refined.{is_refined, are_refined_gens}
use Rattle.ess_semantics.proofs.Orders.{to_list-of_list, same-itself}
use Rattle.ess_semantics.proofs.Sorting.{holds-sorted_once}
use Rattle.ess_semantics.proofs.Tests.{and-left, or-yes}
use Rattle.ess_rules_laws.specs.LooseRules.{fold_loosely}
use Rattle.ess_rules_laws.specs.SourceRules.{is_marked}
use Rattle.ess_rules_laws.specs.SpliceRules.{append_gens}
use Rattle.ess_rules_laws.specs.SplitRules.{as_many, each_over, split, DomainApart}
use Rattle.ess_rules_laws.specs.TupleNames.{are_names, tuples_over, name_over_tuple}
use Rattle.ess_rules_laws.proofs.Bindings.{each-join}
use Rattle.ess_rules_laws.proofs.TupleRuns.{each-held}
use Rattle.ess_refine_laws.specs.RecordNames.{are_in_order, records_over, name_over_record}
use Rattle.ess_refine_laws.specs.LeavingConditions.{Parted, at_last_condition, under_condition, condition_leaves}
use Rattle.ess_refine_laws.specs.AllRules.{Rule, over_a_made_set, over_tuples, over_a_tuple, over_a_record, condition, Supply, rewrite}
use Rattle.ess_refine_laws.proofs.LeavingConditions.{MakesUp, made-up}
use Rattle.ess_values_along_laws.specs.Valued.{Valued, UnderValued}
use Rattle.ess_values_terms_laws.proofs.ValuedLists.{AnswerValued, answered}
use Rattle.ess_values_sources_laws.proofs.CollectedLists.{each-some, some-each, some-list, list-some, each-both, left-of-both, right-of-both}
use Rattle.ess_values_bindings_laws.specs.BindingsKeepValues.{is_of_bindings, BindsApart, BindingsKeepValues}
use Rattle.ess_values_bindings_laws.proofs.NamedParts.{tuples-valued, records-valued, over-tuples, over-records, tuples-there}
use Rattle.ess_values_bindings_laws.proofs.SplitValues.{split-under}

-- ---- members of a set that is made of a container

held-each : (P : Value → Type 0) (xs : List Value) → ((v : Value) → holds xs v ≡ true → P v) → Each xs P
held-each P [] f = tt
held-each P (x ∷ xs) f =
    (f x (ap (λ b. b || holds xs x) (same-itself x)), held-each P xs (λ v h. f v (ap (λ b. same x v || b) h ∙ or-yes (same x v))))

-- What holds at each item of the list without repeats holds at each item.
loosely : (P : Value → Type 0) (xs : List Value) → Each (sorted_once xs) P → Each xs P
loosely P xs e = held-each P xs (λ v h. each-held (sorted_once xs) P v e (holds-sorted_once xs v ∙ h))

-- ---- generators before others

module _ (rest : Gens) (e f : Ex)
    (at : (h : Env) → IsTrue (is_some (items_under rest h (λ here. option_map (λ u. u ∷ []) (meaning e here)))) →
    UnderValued rest h (λ here. Valued false e here) → Valued false f h × IsTrue (is_some (meaning f h))) where
  abbrev k : Ex → Env → Option (List Value)
  k x here = option_map (λ u. u ∷ []) (meaning x here)

  -- What stands behind the others becomes an item of those before.
  abbrev Kept : Gens → Env → Type 0
  Kept gs env = IsTrue (is_some (items_under gs env (k f))) × UnderValued gs env (λ here. Valued false f here)

  one-there : (o : Option Value) → IsTrue (is_some o) → IsTrue (is_some (option_map (λ u. u ∷ []) o))
  one-there None q = q
  one-there (Some u) q = refl

  -- What is said of the generators at a value.
  abbrev At : Pat → Gens → Env → Type 0
  At p gs env = (v : Value) → IsTrue (is_some (items_under (append_gens gs rest) (with_pat p v env) (k e))) →
      UnderValued (append_gens gs rest) (with_pat p v env) (λ here. Valued false e here) → Kept gs (with_pat p v env)

  each-kept : (p : Pat) (gs : Gens) (env : Env) → At p gs env → (vs : List Value) →
      IsTrue (is_some (collect vs (λ v. items_under (append_gens gs rest) (with_pat p v env) (k e)))) →
      Each vs (λ v. UnderValued (append_gens gs rest) (with_pat p v env) (λ here. Valued false e here)) →
      IsTrue (is_some (collect vs (λ v. items_under gs (with_pat p v env) (k f))))
      × Each vs (λ v. UnderValued gs (with_pat p v env) (λ here. Valued false f here))
  each-kept p gs env ih vs t v =
      let b = each-join vs _ _ (λ x. Kept gs (with_pat p x env)) ih
      (each-some vs (λ x. items_under (append_gens gs rest) (with_pat p x env) (k e)) t) v in (
        some-each vs (λ x. items_under gs (with_pat p x env) (k f)) (left-of-both vs _ _ b),
        right-of-both vs _ _ b,
      )

  of-kept : (p : Pat) (gs : Gens) (env : Env) → At p gs env → (o : Option (List Value)) →
      IsTrue (is_some (and_then o (λ vs. collect vs (λ x. items_under (append_gens gs rest) (with_pat p x env) (k e))))) →
      EachOf o (λ x. UnderValued (append_gens gs rest) (with_pat p x env) (λ here. Valued false e here)) →
      IsTrue (is_some (and_then o (λ vs. collect vs (λ x. items_under gs (with_pat p x env) (k f)))))
      × EachOf o (λ x. UnderValued gs (with_pat p x env) (λ here. Valued false f here))
  of-kept p gs env ih None t v = cc
  of-kept p gs env ih (Some vs) t v = each-kept p gs env ih vs t v

  in-kept : (p : Pat) (gs : Gens) (env : Env) → At p gs env → (o : Option Value) →
      IsTrue (is_some (and_then o (λ u. collect (items_of u) (λ x. items_under (append_gens gs rest) (with_pat p x env) (k e))))) →
      EachIn o (λ x. UnderValued (append_gens gs rest) (with_pat p x env) (λ here. Valued false e here)) →
      IsTrue (is_some (and_then o (λ u. collect (items_of u) (λ x. items_under gs (with_pat p x env) (k f)))))
      × EachIn o (λ x. UnderValued gs (with_pat p x env) (λ here. Valued false f here))
  in-kept p gs env ih None t v = cc
  in-kept p gs env ih (Some u) t v = each-kept p gs env ih (items_of u) t v

  where-kept : (o : Option Value) (p q : Option (List Value)) (P Q : Type 0) → IsTrue (is_some (where_true o (λ u. p))) →
      (as_truth o ≡ true → P) → (IsTrue (is_some p) → P → IsTrue (is_some q) × Q) →
      IsTrue (is_some (where_true o (λ u. q))) × (as_truth o ≡ true → Q)
  where-kept (Some (truth true)) p q P Q t v ih = let r = ih t (v refl) in (r.0, λ z. r.1)
  where-kept (Some (truth false)) p q P Q t v ih = (refl, λ z. cc)
  where-kept (Some (number n)) p q P Q t v ih = (refl, λ z. cc)
  where-kept (Some (item a n)) p q P Q t v ih = (refl, λ z. cc)
  where-kept (Some (node a vs)) p q P Q t v ih = (refl, λ z. cc)
  where-kept None p q P Q t v ih = (refl, λ z. cc)

  before : (gs : Gens) (env : Env) → IsTrue (is_some (items_under (append_gens gs rest) env (k e))) →
      UnderValued (append_gens gs rest) env (λ here. Valued false e here) → Kept gs env
  before no_gens env t v = let a = at env t v in (one-there (meaning f env) a.1, a.0)
  before (over p d gs) env t v =
      let r = of-kept p gs env (λ x. before gs (with_pat p x env)) (members_in (domain_of d env)) t v.1 in (r.0, (v.0, r.1))
  before (from p s gs) env t v =
      let r = in-kept p gs env (λ x. before gs (with_pat p x env)) (meaning s env) t v.1 in (r.0, (v.0, r.1))
  before (cond c gs) env t v =
      let r = where-kept (meaning c env) (items_under (append_gens gs rest) env (k e)) (items_under gs env (k f)) _ _ t v.1
      (before gs env) in
      (r.0, (v.0, r.1))

-- ---- each rule

module _ (env : Env) where
  abbrev A : Bool → Ex → Option Ex → Type 0
  A w e r = AnswerValued w e r env

  module _ (e : Ex) (p : Pat) (s : Ex) (hs : Gens) where
    -- The items behind a member.
    abbrev F : Value → Option (List Value)
    F v = items_under hs (with_pat p v env) (λ here. option_map (λ u. u ∷ []) (meaning e here))

    -- What has values there.
    abbrev P : Value → Type 0
    P v = UnderValued hs (with_pat p v env) (λ here. Valued false e here)

    at-members : (o : Option Value) →
        IsTrue (is_some (option_map list_value (and_then (value_of_node (word Fun.ToSet) (o ∷ [])) (λ u. collect (items_of u) F)))) →
        EachIn (value_of_node (word Fun.ToSet) (o ∷ [])) P →
        IsTrue (is_some (option_map list_value (and_then o (λ u. collect (items_of u) F)))) × EachIn o P
    at-members None t v = cc
    at-members (Some u) t v =
        let l = to_list-of_list (sorted_once (items_of u)) in
        let b = loosely (λ x. IsTrue (is_some (F x)) × P x) (items_of u)
        (each-both (sorted_once (items_of u)) (λ x. IsTrue (is_some (F x))) P
        (subst (λ z. Each z (λ x. IsTrue (is_some (F x)))) l
        (each-some (items_of (set_of (items_of u))) F (list-some (collect (items_of (set_of (items_of u))) F) t)))
        (subst (λ z. Each z P) l v)) in (
          some-list (collect (items_of u) F) (some-each (items_of u) F (left-of-both (items_of u) _ _ b)),
          right-of-both (items_of u) _ _ b,
        )

    -- The comprehension over the members, where it has values over the set of them.
    over-members : Valued false (comp_ex e (from p (fun1 false Fun.ToSet s) hs)) env → Valued false (comp_ex e (from p s hs)) env
    over-members h = let r = at-members (meaning s env) h.0 h.1.1 in (r.0, (h.1.0.1.0, r.1))

  made-set : (w : Bool) (e : Ex) → Valued w e env → A w e (fold_loosely e)
  made-set w (fun1 true Fun.And (comp_ex e (from p (fun1 false Fun.ToSet s) hs))) h = λ q. (tt, (over-members e p s hs h.1.0, tt))
  made-set w (fun1 true Fun.Or (comp_ex e (from p (fun1 false Fun.ToSet s) hs))) h = λ q. (tt, (over-members e p s hs h.1.0, tt))
  made-set w _ h = tt

  -- The members can be listed, where the comprehension is there.
  members-there : (o : Option (List Value)) (F : Value → Option (List Value)) →
      IsTrue (is_some (option_map list_value (and_then o (λ vs. collect vs F)))) → IsTrue (is_some o)
  members-there None F h = h
  members-there (Some vs) F h = refl

  a-tuple : (w : Bool) (ys : List Text) (e : Ex) → Meets e env → Valued w e env → A w e (name_over_tuple ys e)
  a-tuple w ys (comp_ex e (over (name_pat x) (tuple_dom ds) hs)) m h = go (are_names ys ds) refl
    where
      go : (c : Bool) → are_names ys ds ≡ c → A w (comp_ex e (over (name_pat x) (tuple_dom ds) hs))
          (if c then Some (comp_ex e (from (name_pat x) (tuples_over ys ds) hs)) else None)
      go true c = λ q. let i = members-there (members_in (domain_of (tuple_dom ds) env)) _ h.0 in (
        subst (λ z. IsTrue (is_some z)) q h.0,
        (tuples-valued env ys ds h.1.0 i, over-tuples env x ys ds _ c m.0 i h.1.1),
      )
      go false c = tt
  a-tuple w ys _ m h = tt

  a-record : (w : Bool) (ys : List Text) (e : Ex) → Meets e env → Valued w e env → A w e (name_over_record ys e)
  a-record w ys (comp_ex e (over (name_pat x) (record_dom fs ds) hs)) m h = go (are_names ys ds && are_in_order fs ds) refl
    where
      go : (c : Bool) → are_names ys ds && are_in_order fs ds ≡ c → A w (comp_ex e (over (name_pat x) (record_dom fs ds) hs))
          (if c then Some (comp_ex e (from (name_pat x) (records_over fs ys ds) hs)) else None)
      go true c = λ q. let i = members-there (members_in (domain_of (record_dom fs ds) env)) _ h.0 in (
        subst (λ z. IsTrue (is_some z)) q h.0,
        (records-valued env fs ys ds h.1.0 (tuples-there env fs ds i), over-records env x fs ys ds _ c m.0 i h.1.1),
      )
      go false c = tt
  a-record w ys _ m h = tt

  apart : (w : Bool) (r : Text → Bool) (e : Ex) → DomainApart r e → Valued w e env → A w e (split e)
  apart w r (comp_ex e (over (tuple_pat ps) (tuple_dom ds) hs)) n h = go (as_many ps ds) refl
    where
      go : (c : Bool) → as_many ps ds ≡ c → A w (comp_ex e (over (tuple_pat ps) (tuple_dom ds) hs))
          (if c then Some (comp_ex e (each_over ps ds hs)) else None)
      go true c = λ q. let i = members-there (members_in (domain_of (tuple_dom ds) env)) _ h.0 in (
        subst (λ z. IsTrue (is_some z)) q h.0,
        split-under r env hs (λ here. Valued false e here) ps ds c n.0 n.1 i h.1.0 h.1.1,
      )
      go false c = tt
  apart w r _ n h = tt

  -- Where the condition is true the list behind it is there.
  behind-there : (o : Option Value) (p : Option (List Value)) → as_truth o ≡ true → IsTrue (is_some (where_true o (λ u. p))) →
      IsTrue (is_some p)
  behind-there (Some (truth true)) p t h = h
  behind-there (Some (truth false)) p t h = cc
  behind-there (Some (number n)) p t h = cc
  behind-there (Some (item a n)) p t h = cc
  behind-there (Some (node k vs)) p t h = cc
  behind-there None p t h = cc

  -- A condition guards the fold behind it.
  guarding : (f : Fun) (c e : Ex) (hs : Gens) (here : Env) → is_marked true f ≡ true →
      IsTrue (is_some (items_under (cond c hs) here (λ z. option_map (λ u. u ∷ []) (meaning e z)))) →
      UnderValued (cond c hs) here (λ z. Valued false e z) →
      Valued false (under_condition f c (fun1 true f (comp_ex e hs))) here
      × IsTrue (is_some (meaning (under_condition f c (fun1 true f (comp_ex e hs))) here))
  guarding Fun.And c e hs here k t v = (
    (
      tt,
      (
        v.0,
        λ q. (
          (tt, ((some-list (items_under hs here _) (behind-there (meaning c here) (items_under hs here _) q t), v.1 q), tt)),
          tt,
        ),
      ),
    ),
    refl,
  )
  guarding Fun.Or c e hs here k t v = (
    (
      tt,
      (
        v.0,
        λ q. (
          (tt, ((some-list (items_under hs here _) (behind-there (meaning c here) (items_under hs here _) q t), v.1 q), tt)),
          tt,
        ),
      ),
    ),
    refl,
  )
  guarding _ c e hs here k t v = cc

  leaves : (w : Bool) (e : Ex) → BindsApart condition e → Valued w e env → A w e (condition_leaves e)
  leaves w (fun1 true f (comp_ex e gs)) c h = go (at_last_condition gs) (made-up gs)
    where
      go : (o : Option Parted) → MakesUp o gs → A w (fun1 true f (comp_ex e gs)) (elim o [
        | None ↦ None
        | Some t ↦ if is_marked true f && (is_refined t.condition && (is_refined e && are_refined_gens t.after))
            then Some (fun1 true f (comp_ex (under_condition f t.condition (fun1 true f (comp_ex e t.after))) t.before)) else None
      ])
      go None u = tt
      go (Some t) u = test (is_marked true f && (is_refined t.condition && (is_refined e && are_refined_gens t.after))) refl
        where
          whole : Valued false (comp_ex e (append_gens t.before (cond t.condition t.after))) env
          whole = subst (λ z. Valued false (comp_ex e z) env) u h.1.0

          test : (b : Bool) → is_marked true f && (is_refined t.condition && (is_refined e && are_refined_gens t.after)) ≡ b →
              A w (fun1 true f (comp_ex e gs)) (if b
              then Some (fun1 true f (comp_ex (under_condition f t.condition (fun1 true f (comp_ex e t.after))) t.before)) else None)
          test true i = λ q. let r = before (cond t.condition t.after) e (under_condition f t.condition (fun1 true f (comp_ex e t.after)))
              (λ here. guarding f t.condition e t.after here
              (and-left (is_marked true f) (is_refined t.condition && (is_refined e && are_refined_gens t.after)) i))
              t.before env (list-some _ whole.0) whole.1 in
              (tt, ((some-list (items_under t.before env _) r.0, r.1), tt))
          test false i = tt
  leaves w (fun1 false f (comp_ex e gs)) c h = cc
  leaves w _ c h = tt

  each : (s : Supply) (g : Names Ty) (r : Rule) (e : Ex) → is_of_bindings r ≡ true → BindsApart r e → Meets e env → (w : Bool) →
      Valued w e env → A w e (rewrite s g r e)
  each s g over_a_made_set e i c m w h = made-set w e h
  each s g over_tuples e i c m w h = apart w c.0 e c.1 h
  each s g over_a_tuple e i c m w h = a-tuple w s.parts e m h
  each s g over_a_record e i c m w h = a-record w s.parts e m h
  each s g condition e i c m w h = leaves w e c h
  each s g r e i c m w h = cc

-- What is proved of rules over bindings and values.
pub bindings-keep-values : BindingsKeepValues
bindings-keep-values = λ s g r e f q i c env x m w h. answered w e f (rewrite s g r e) env q (each env s g r e i c x w h) m
