-- Weakening and substitution keep values: where each part of a tree has a value, so has each part of the tree with expressions that have
-- values put in for its names.
use Rattle.std.proofs.Common.{◌≡◌, sym, ap, ◌∙◌, subst, Bool, true, false, ◌||◌, List, ◌∷◌}
use Rattle.std.specs.Prelude.{IsTrue, is_some}
use Rattle.ess_semantics.specs.Values.{Text, Value}
use Rattle.ess_semantics.specs.Names.{Names, look}
use Rattle.ess_semantics.specs.Trees.{Ex, Exs, number_ex, truth_ex, name_ex, node_ex, matrix_ex, comp_ex, cell_ex, seen_ex, no_exs, more_exs, Gens, no_gens, over, from, cond, Dom, Doms, bool_dom, int_dom, name_dom, tuple_dom, record_dom, matrix_dom, set_dom, mset_dom, function_dom, relation_dom, partition_dom, no_doms, more_doms}
use Rattle.ess_semantics.specs.Operators.{as_truth}
use Rattle.ess_semantics.specs.Tables.{Table}
use Rattle.ess_semantics.specs.Meaning.{Env, TypeEntry, bind, with_pat, meaning, domain_of, members_in}
use Rattle.ess_semantics.specs.Contexts.{EachOf, EachIn, guards}
use Rattle.ess_semantics.specs.Substitution.{substitute, substitute_exs, substitute_gens, substitute_dom, substitute_doms, NamesAre, NamesAreExs, NamesAreGens, NamesAreDom, NamesAreDoms}
use Rattle.ess_guard_laws.specs.Supplied.{Unless}
use Rattle.ess_guard_natural_laws.specs.TotalButNatural.{opens_places}
use Rattle.ess_rules_laws.proofs.Simulation.{Vals, E, any, bind-r, meaning-sim, domain-sim, substitute-itself, dom-itself}
use Rattle.ess_rules_laws.proofs.Bindings.{each-of-map, each-in-map, guarded-map}
use Rattle.ess_rules_laws.proofs.Agreement.{AgreeOn, itself-named, itself-bound}
use Rattle.ess_values_along_laws.specs.Valued.{lacks, Valued, AllValued, UnderValued, DomValued, DomsValued}
use Rattle.ess_values_along_laws.proofs.ValuesAlong.{values-along}

-- ---- substitution

-- f gives an expression for each name, which has a value where the name has one; n holds of the names in use, b of those that are bound;
-- R relates values of names, those of the tree and those of the tree with f put in
module _ (pl : Bool) (ts : List TypeEntry) (cs : Names Table) (f : Text → Ex) (n b : Text → Bool) (R : Vals → Vals → Type 0)
    (at-name : (a : Text) (g h : Vals) → IsTrue (n a) → R g h → meaning (f a) (E pl ts cs h) ≡ look g a)
    (at-bind : (a : Text) (v : Value) (g h : Vals) → IsTrue (b a) → R g h → R ((a, v) ∷ g) ((a, v) ∷ h))
    (at-value : (a : Text) (g h : Vals) → IsTrue (n a) → R g h → IsTrue (is_some (look g a)) → Valued false (f a) (E pl ts cs h)) where
  abbrev M : Vals → Env
  M g = E pl ts cs g

  same-meaning : (e : Ex) (g h : Vals) → NamesAre n b e → R g h → meaning (substitute f e) (M h) ≡ meaning e (M g)
  same-meaning = meaning-sim pl ts cs f n b R at-name at-bind

  same-domain : (d : Dom) (g h : Vals) → NamesAreDom n b d → R g h → domain_of (substitute_dom f d) (M h) ≡ domain_of d (M g)
  same-domain = domain-sim pl ts cs f n b R at-name at-bind

  some-put : (e : Ex) (g h : Vals) → NamesAre n b e → R g h → IsTrue (is_some (meaning e (M g))) →
      IsTrue (is_some (meaning (substitute f e) (M h)))
  some-put e g h o s v = subst (λ z. IsTrue (is_some z)) (sym (same-meaning e g h o s)) v

  unless-map : (c : Bool) (P Q : Type 0) → (P → Q) → Unless c P → Unless c Q
  unless-map true P Q k h = tt
  unless-map false P Q k h = k h

  mutual
    -- Where each part of a tree has a value, so has each part of the tree with f put in.
    pub valued-sim : (e : Ex) (w : Bool) (g h : Vals) → NamesAre n b e → R g h → Valued w e (M g) → Valued w (substitute f e) (M h)
    valued-sim (number_ex m) w g h o s v = tt
    valued-sim (truth_ex m) w g h o s v = tt
    valued-sim (name_ex a) w g h o s v = values-along.in_places w (f a) (M h) (at-value a g h o s v)
    valued-sim (node_ex q op es) w g h o s v = (
      unless-map (lacks w q op) _ _ (some-put (node_ex q op es) g h o s) v.0,
      valued-sim-all es (guards op) (opens_places w q op) g h o s v.1,
    )
    valued-sim (matrix_ex es d) w g h o s v =
        (some-put (matrix_ex es d) g h o s v.0, valued-sim-all es false false g h o.0 s v.1, valued-sim-dom d g h o.1 s v.2)
    valued-sim (comp_ex e gs) w g h o s v = (
      some-put (comp_ex e gs) g h o s v.0,
      valued-sim-gens gs e g h o.1 s (λ x y t z. valued-sim e false x y o.0 t z) v.1,
    )
    valued-sim (cell_ex q c es) w g h o s v =
        (unless-map (q || w) _ _ (some-put (cell_ex q c es) g h o s) v.0, valued-sim-all es false false g h o s v.1)
    valued-sim (seen_ex r d ns es) w g h o s v =
        (some-put (seen_ex r d ns es) g h o s v.0, valued-sim-dom d g h o.0 s v.1, valued-sim-all es false false g h o.1 s v.2)

    -- The same of operands.
    pub valued-sim-all : (es : Exs) (q w : Bool) (g h : Vals) → NamesAreExs n b es → R g h → AllValued q w es (M g) →
        AllValued q w (substitute_exs f es) (M h)
    valued-sim-all no_exs q w g h o s v = tt
    valued-sim-all (more_exs e es) q w g h o s v = (
      valued-sim e w g h o.0 s v.0,
      guarded-map q (meaning e (M g)) (meaning (substitute f e) (M h)) _ _ (same-meaning e g h o.0 s)
          (λ y. valued-sim-all es false w g h o.1 s y) v.1,
    )

    -- The same of generators, where it holds of what stands behind them.
    pub valued-sim-gens : (gs : Gens) (e : Ex) (g h : Vals) → NamesAreGens n b gs → R g h →
        ((x y : Vals) → R x y → Valued false e (M x) → Valued false (substitute f e) (M y)) →
        UnderValued gs (M g) (λ here. Valued false e here) → UnderValued (substitute_gens f gs) (M h) (λ here. Valued false
        (substitute f e) here)
    valued-sim-gens no_gens e g h o s k v = k g h s v
    valued-sim-gens (over p d gs) e g h o s k v = (
      valued-sim-dom d g h o.1 s v.0,
      each-of-map (members_in (domain_of (substitute_dom f d) (M h))) _ _
          (λ x y. valued-sim-gens gs e (bind p x g) (bind p x h) o.2 (bind-r pl ts cs f n b R at-name at-bind p x g h o.0 s) k y)
          (subst (λ c. EachOf (members_in c) (λ x. UnderValued gs (with_pat p x (M g)) (λ here. Valued false e here)))
          (sym (same-domain d g h o.1 s)) v.1),
    )
    valued-sim-gens (from p t gs) e g h o s k v = (
      valued-sim t false g h o.1 s v.0,
      each-in-map (meaning (substitute f t) (M h)) _ _
          (λ x y. valued-sim-gens gs e (bind p x g) (bind p x h) o.2 (bind-r pl ts cs f n b R at-name at-bind p x g h o.0 s) k y)
          (subst (λ c. EachIn c (λ x. UnderValued gs (with_pat p x (M g)) (λ here. Valued false e here)))
          (sym (same-meaning t g h o.1 s)) v.1),
    )
    valued-sim-gens (cond t gs) e g h o s k v =
        (valued-sim t false g h o.0 s v.0, λ y. valued-sim-gens gs e g h o.1 s k (v.1 (ap as_truth (sym (same-meaning t g h o.0 s)) ∙ y)))

    -- The same of a domain.
    pub valued-sim-dom : (d : Dom) (g h : Vals) → NamesAreDom n b d → R g h → DomValued d (M g) → DomValued (substitute_dom f d) (M h)
    valued-sim-dom bool_dom g h o s v = tt
    valued-sim-dom (int_dom rs es) g h o s v = valued-sim-all es false false g h o s v
    valued-sim-dom (name_dom a) g h o s v = tt
    valued-sim-dom (tuple_dom ds) g h o s v = valued-sim-doms ds g h o s v
    valued-sim-dom (record_dom fs ds) g h o s v = valued-sim-doms ds g h o s v
    valued-sim-dom (matrix_dom is d) g h o s v = (valued-sim-doms is g h o.0 s v.0, valued-sim-dom d g h o.1 s v.1)
    valued-sim-dom (set_dom ms es d) g h o s v = (valued-sim-all es false false g h o.0 s v.0, valued-sim-dom d g h o.1 s v.1)
    valued-sim-dom (mset_dom ms es d) g h o s v = (valued-sim-all es false false g h o.0 s v.0, valued-sim-dom d g h o.1 s v.1)
    valued-sim-dom (function_dom ms es d c) g h o s v =
        (valued-sim-all es false false g h o.0 s v.0, valued-sim-dom d g h o.1 s v.1, valued-sim-dom c g h o.2 s v.2)
    valued-sim-dom (relation_dom ms es ds) g h o s v = (valued-sim-all es false false g h o.0 s v.0, valued-sim-doms ds g h o.1 s v.1)
    valued-sim-dom (partition_dom ms es d) g h o s v = (valued-sim-all es false false g h o.0 s v.0, valued-sim-dom d g h o.1 s v.1)

    -- The same of several domains.
    pub valued-sim-doms : (ds : Doms) (g h : Vals) → NamesAreDoms n b ds → R g h → DomsValued ds (M g) →
        DomsValued (substitute_doms f ds) (M h)
    valued-sim-doms no_doms g h o s v = tt
    valued-sim-doms (more_doms d ds) g h o s v = (valued-sim-dom d g h o.0 s v.0, valued-sim-doms ds g h o.1 s v.1)

-- ---- weakening

module _ (pl : Bool) (ts : List TypeEntry) (cs : Names Table) (n : Text → Bool) where
  -- A name has the value that it had.
  named : (a : Text) (g h : Vals) → IsTrue (n a) → AgreeOn n g h → IsTrue (is_some (look g a)) → Valued false (name_ex a) (E pl ts cs h)
  named a g h o s v = subst (λ z. IsTrue (is_some z)) (s a o) v

  -- Where values agree on the names of a tree, its parts have values still.
  pub valued-agree : (e : Ex) (w : Bool) (g h : Vals) → NamesAre n any e → AgreeOn n g h → Valued w e (E pl ts cs g) →
      Valued w e (E pl ts cs h)
  valued-agree e w g h o s v = subst (λ x. Valued w x (E pl ts cs h)) (substitute-itself e)
      (valued-sim pl ts cs name_ex n any (AgreeOn n) (itself-named pl ts cs n) (itself-bound pl ts cs n) named e w g h o s v)

  -- The same of a domain.
  pub dom-valued-agree : (d : Dom) (g h : Vals) → NamesAreDom n any d → AgreeOn n g h → DomValued d (E pl ts cs g) →
      DomValued d (E pl ts cs h)
  dom-valued-agree d g h o s v = subst (λ x. DomValued x (E pl ts cs h)) (dom-itself d)
      (valued-sim-dom pl ts cs name_ex n any (AgreeOn n) (itself-named pl ts cs n) (itself-bound pl ts cs n) named d g h o s v)
