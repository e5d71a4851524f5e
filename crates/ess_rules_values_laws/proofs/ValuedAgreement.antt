-- Where values agree on the names of a tree, its parts have values under both; so they have behind a name that the tree doesn't use.
use Rattle.std.proofs.Common.{◌≡◌, sym, ap, ◌∙◌, subst, Bool, true, false, ◌||◌, List, ◌∷◌}
use Rattle.std.specs.Prelude.{IsTrue, is_some}
use Rattle.ess_semantics.specs.Values.{Text, Value}
use Rattle.ess_semantics.specs.Names.{Names}
use Rattle.ess_semantics.specs.Trees.{Pat, Ex, Exs, number_ex, truth_ex, name_ex, node_ex, matrix_ex, comp_ex, cell_ex, seen_ex, no_exs, more_exs, Gens, no_gens, over, from, cond, Dom, Doms, bool_dom, int_dom, name_dom, tuple_dom, record_dom, matrix_dom, set_dom, mset_dom, function_dom, relation_dom, partition_dom, no_doms, more_doms}
use Rattle.ess_semantics.specs.Operators.{as_truth}
use Rattle.ess_semantics.specs.Tables.{Table}
use Rattle.ess_semantics.specs.Meaning.{Env, TypeEntry, bind, with_pat, meaning, domain_of, members_in}
use Rattle.ess_semantics.specs.Contexts.{EachOf, EachIn, guards}
use Rattle.ess_semantics.specs.Substitution.{Binds, NamesAre, NamesAreExs, NamesAreGens, NamesAreDom, NamesAreDoms}
use Rattle.ess_guard_laws.specs.Supplied.{Unless}
use Rattle.ess_guard_natural_laws.specs.TotalButNatural.{opens_places}
use Rattle.ess_rules_laws.specs.Rules.{Unused}
use Rattle.ess_rules_laws.proofs.Simulation.{Vals, E, any, but, bind-r}
use Rattle.ess_rules_laws.proofs.Bindings.{each-of-map, each-in-map, guarded-map}
use Rattle.ess_rules_laws.proofs.Agreement.{AgreeOn, agree-but, itself-named, itself-bound, meaning-agree, domain-agree}
use Rattle.ess_rules_laws.proofs.RuleAnswers.{behind}
use Rattle.ess_values_along_laws.specs.Valued.{lacks, Valued, AllValued, UnderValued, DomValued, DomsValued}

module _ (pl : Bool) (ts : List TypeEntry) (cs : Names Table) (n : Text → Bool) where
  abbrev M : Vals → Env
  M g = E pl ts cs g

  bind-agree : (p : Pat) (v : Value) (g h : Vals) → Binds any p → AgreeOn n g h → AgreeOn n (bind p v g) (bind p v h)
  bind-agree p v g h o s = bind-r pl ts cs name_ex n any (AgreeOn n) (itself-named pl ts cs n) (itself-bound pl ts cs n) p v g h o s

  agree-at : (e : Ex) (g h : Vals) → NamesAre n any e → AgreeOn n g h → meaning e (M h) ≡ meaning e (M g)
  agree-at e g h o s = meaning-agree pl ts cs n e g h o s

  some-agree : (e : Ex) (g h : Vals) → NamesAre n any e → AgreeOn n g h → IsTrue (is_some (meaning e (M g))) →
      IsTrue (is_some (meaning e (M h)))
  some-agree e g h o s v = subst (λ z. IsTrue (is_some z)) (sym (agree-at e g h o s)) v

  unless-map : (b : Bool) (P Q : Type 0) → (P → Q) → Unless b P → Unless b Q
  unless-map true P Q f h = tt
  unless-map false P Q f h = f h

  mutual
    valued-agree : (e : Ex) (w : Bool) (g h : Vals) → NamesAre n any e → AgreeOn n g h → Valued w e (M g) → Valued w e (M h)
    valued-agree (number_ex m) w g h o s v = tt
    valued-agree (truth_ex m) w g h o s v = tt
    valued-agree (name_ex a) w g h o s v = some-agree (name_ex a) g h o s v
    valued-agree (node_ex q op es) w g h o s v = (
      unless-map (lacks w q op) _ _ (some-agree (node_ex q op es) g h o s) v.0,
      all-agree es (guards op) (opens_places w q op) g h o s v.1,
    )
    valued-agree (matrix_ex es d) w g h o s v =
        (some-agree (matrix_ex es d) g h o s v.0, all-agree es false false g h o.0 s v.1, dom-agrees d g h o.1 s v.2)
    valued-agree (comp_ex e gs) w g h o s v = (
      some-agree (comp_ex e gs) g h o s v.0,
      under-agree gs e g h o.1 s (λ x y t z. valued-agree e false x y o.0 t z) v.1,
    )
    valued-agree (cell_ex q c es) w g h o s v =
        (unless-map (q || w) _ _ (some-agree (cell_ex q c es) g h o s) v.0, all-agree es false false g h o s v.1)
    valued-agree (seen_ex r d ns es) w g h o s v =
        (some-agree (seen_ex r d ns es) g h o s v.0, dom-agrees d g h o.0 s v.1, all-agree es false false g h o.1 s v.2)

    all-agree : (es : Exs) (q w : Bool) (g h : Vals) → NamesAreExs n any es → AgreeOn n g h → AllValued q w es (M g) →
        AllValued q w es (M h)
    all-agree no_exs q w g h o s v = tt
    all-agree (more_exs e es) q w g h o s v = (
      valued-agree e w g h o.0 s v.0,
      guarded-map q (meaning e (M g)) (meaning e (M h)) _ _ (agree-at e g h o.0 s) (λ y. all-agree es false w g h o.1 s y) v.1,
    )

    under-agree : (gs : Gens) (e : Ex) (g h : Vals) → NamesAreGens n any gs → AgreeOn n g h →
        ((x y : Vals) → AgreeOn n x y → Valued false e (M x) → Valued false e (M y)) →
        UnderValued gs (M g) (λ here. Valued false e here) → UnderValued gs (M h) (λ here. Valued false e here)
    under-agree no_gens e g h o s k v = k g h s v
    under-agree (over p d gs) e g h o s k v = (
      dom-agrees d g h o.1 s v.0,
      each-of-map (members_in (domain_of d (M h))) _ _
          (λ x y. under-agree gs e (bind p x g) (bind p x h) o.2 (bind-agree p x g h o.0 s) k y)
          (subst (λ c. EachOf (members_in c) (λ x. UnderValued gs (with_pat p x (M g)) (λ here. Valued false e here)))
          (sym (domain-agree pl ts cs n d g h o.1 s)) v.1),
    )
    under-agree (from p t gs) e g h o s k v = (
      valued-agree t false g h o.1 s v.0,
      each-in-map (meaning t (M h)) _ _
          (λ x y. under-agree gs e (bind p x g) (bind p x h) o.2 (bind-agree p x g h o.0 s) k y)
          (subst (λ c. EachIn c (λ x. UnderValued gs (with_pat p x (M g)) (λ here. Valued false e here))) (sym (agree-at t g h o.1 s)) v.1),
    )
    under-agree (cond t gs) e g h o s k v =
        (valued-agree t false g h o.0 s v.0, λ y. under-agree gs e g h o.1 s k (v.1 (ap as_truth (sym (agree-at t g h o.0 s)) ∙ y)))

    dom-agrees : (d : Dom) (g h : Vals) → NamesAreDom n any d → AgreeOn n g h → DomValued d (M g) → DomValued d (M h)
    dom-agrees bool_dom g h o s v = tt
    dom-agrees (int_dom rs es) g h o s v = all-agree es false false g h o s v
    dom-agrees (name_dom a) g h o s v = tt
    dom-agrees (tuple_dom ds) g h o s v = doms-agree ds g h o s v
    dom-agrees (record_dom fs ds) g h o s v = doms-agree ds g h o s v
    dom-agrees (matrix_dom is d) g h o s v = (doms-agree is g h o.0 s v.0, dom-agrees d g h o.1 s v.1)
    dom-agrees (set_dom ms es d) g h o s v = (all-agree es false false g h o.0 s v.0, dom-agrees d g h o.1 s v.1)
    dom-agrees (mset_dom ms es d) g h o s v = (all-agree es false false g h o.0 s v.0, dom-agrees d g h o.1 s v.1)
    dom-agrees (function_dom ms es d c) g h o s v =
        (all-agree es false false g h o.0 s v.0, dom-agrees d g h o.1 s v.1, dom-agrees c g h o.2 s v.2)
    dom-agrees (relation_dom ms es ds) g h o s v = (all-agree es false false g h o.0 s v.0, doms-agree ds g h o.1 s v.1)
    dom-agrees (partition_dom ms es d) g h o s v = (all-agree es false false g h o.0 s v.0, dom-agrees d g h o.1 s v.1)

    doms-agree : (ds : Doms) (g h : Vals) → NamesAreDoms n any ds → AgreeOn n g h → DomsValued ds (M g) → DomsValued ds (M h)
    doms-agree no_doms g h o s v = tt
    doms-agree (more_doms d ds) g h o s v = (dom-agrees d g h o.0 s v.0, doms-agree ds g h o.1 s v.1)

-- Behind a new name.
pub valued-behind : (x : Text) (v : Value) (e : Ex) (env : Env) (w : Bool) → Unused x e → Valued w e env → Valued w e (behind x v env)
valued-behind x v e env w o h =
    valued-agree env.positions env.types env.cells (but x) e w env.vals ((x, v) ∷ env.vals) o (agree-but x v env.vals) h
