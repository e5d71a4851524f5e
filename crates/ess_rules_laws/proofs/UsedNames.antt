-- Names that a tree uses and binds: weaker properties of them, and substitutions that agree on the names in use.
use Rattle.std.proofs.Common.{◌≡◌, refl, ap, ◌∙◌, Bool, true, false, not, if◌then◌else◌}
use Rattle.std.specs.Prelude.{IsTrue}
use Rattle.ess_semantics.specs.Values.{Text}
use Rattle.ess_semantics.specs.Order.{same_text}
use Rattle.ess_semantics.specs.Trees.{Pat, Pats, name_pat, tuple_pat, no_pats, more_pats, Ex, Exs, number_ex, truth_ex, name_ex, node_ex, matrix_ex, comp_ex, cell_ex, seen_ex, no_exs, more_exs, Gens, no_gens, over, from, cond, Dom, Doms, bool_dom, int_dom, name_dom, tuple_dom, record_dom, matrix_dom, set_dom, mset_dom, function_dom, relation_dom, partition_dom, no_doms, more_doms}
use Rattle.ess_semantics.specs.Substitution.{substitute, substitute_exs, substitute_gens, substitute_dom, substitute_doms, for_name, Binds, BindsAll, NamesAre, NamesAreExs, NamesAreGens, NamesAreDom, NamesAreDoms}
use Rattle.ess_rules_laws.proofs.Simulation.{but, substitute-itself, dom-itself}

-- Each name with the first property has the second.
abbrev pub Within : (Text → Bool) → (Text → Bool) → Type 0
Within s t = (a : Text) → IsTrue (s a) → IsTrue (t a)

-- ---- weaker properties

module _ (u u' b b' : Text → Bool) (used : Within u u') (bound : Within b b') where
  mutual
    -- The same of the names that a pattern binds.
    pub binds-map : (p : Pat) → Binds b p → Binds b' p
    binds-map (name_pat a) h = bound a h
    binds-map (tuple_pat ps) h = all-bind-map ps h

    all-bind-map : (ps : Pats) → BindsAll b ps → BindsAll b' ps
    all-bind-map no_pats h = tt
    all-bind-map (more_pats p ps) h = (binds-map p h.0, all-bind-map ps h.1)

  mutual
    -- What is so of all names of a tree stays so of weaker properties.
    pub names-map : (e : Ex) → NamesAre u b e → NamesAre u' b' e
    names-map (number_ex n) h = tt
    names-map (truth_ex t) h = tt
    names-map (name_ex a) h = used a h
    names-map (node_ex t op es) h = names-map-exs es h
    names-map (matrix_ex es d) h = (names-map-exs es h.0, names-map-dom d h.1)
    names-map (comp_ex e gs) h = (names-map e h.0, names-map-gens gs h.1)
    names-map (cell_ex t n es) h = names-map-exs es h
    names-map (seen_ex r d ns es) h = (names-map-dom d h.0, names-map-exs es h.1)

    -- The same of several expressions.
    pub names-map-exs : (es : Exs) → NamesAreExs u b es → NamesAreExs u' b' es
    names-map-exs no_exs h = tt
    names-map-exs (more_exs e es) h = (names-map e h.0, names-map-exs es h.1)

    -- The same of generators.
    pub names-map-gens : (gs : Gens) → NamesAreGens u b gs → NamesAreGens u' b' gs
    names-map-gens no_gens h = tt
    names-map-gens (over p d gs) h = (binds-map p h.0, names-map-dom d h.1, names-map-gens gs h.2)
    names-map-gens (from p e gs) h = (binds-map p h.0, names-map e h.1, names-map-gens gs h.2)
    names-map-gens (cond e gs) h = (names-map e h.0, names-map-gens gs h.1)

    -- The same of a domain.
    pub names-map-dom : (d : Dom) → NamesAreDom u b d → NamesAreDom u' b' d
    names-map-dom bool_dom h = tt
    names-map-dom (int_dom rs es) h = names-map-exs es h
    names-map-dom (name_dom a) h = tt
    names-map-dom (tuple_dom ds) h = names-map-doms ds h
    names-map-dom (record_dom fs ds) h = names-map-doms ds h
    names-map-dom (matrix_dom is d) h = (names-map-doms is h.0, names-map-dom d h.1)
    names-map-dom (set_dom ms es d) h = (names-map-exs es h.0, names-map-dom d h.1)
    names-map-dom (mset_dom ms es d) h = (names-map-exs es h.0, names-map-dom d h.1)
    names-map-dom (function_dom ms es d c) h = (names-map-exs es h.0, names-map-dom d h.1, names-map-dom c h.2)
    names-map-dom (relation_dom ms es ds) h = (names-map-exs es h.0, names-map-doms ds h.1)
    names-map-dom (partition_dom ms es d) h = (names-map-exs es h.0, names-map-dom d h.1)

    names-map-doms : (ds : Doms) → NamesAreDoms u b ds → NamesAreDoms u' b' ds
    names-map-doms no_doms h = tt
    names-map-doms (more_doms d ds) h = (names-map-dom d h.0, names-map-doms ds h.1)

-- ---- substitutions that agree on the names in use

module _ (f f' : Text → Ex) (n b : Text → Bool) (agree : (a : Text) → IsTrue (n a) → f a ≡ f' a) where
  mutual
    -- They leave the same tree.
    pub substitute-agree : (e : Ex) → NamesAre n b e → substitute f e ≡ substitute f' e
    substitute-agree (number_ex k) o = refl
    substitute-agree (truth_ex t) o = refl
    substitute-agree (name_ex a) o = agree a o
    substitute-agree (node_ex t op es) o = ap (node_ex t op) (exs-agree es o)
    substitute-agree (matrix_ex es d) o = ap (λ x. matrix_ex x (substitute_dom f d)) (exs-agree es o.0) ∙ ap (matrix_ex (substitute_exs f' es)) (dom-agree d o.1)
    substitute-agree (comp_ex e gs) o = ap (λ x. comp_ex x (substitute_gens f gs)) (substitute-agree e o.0) ∙ ap (comp_ex (substitute f' e)) (gens-agree gs o.1)
    substitute-agree (cell_ex t c es) o = ap (cell_ex t c) (exs-agree es o)
    substitute-agree (seen_ex r d ns es) o = ap (λ x. seen_ex r x ns (substitute_exs f es)) (dom-agree d o.0) ∙ ap (seen_ex r (substitute_dom f' d) ns) (exs-agree es o.1)

    -- The same of several expressions.
    pub exs-agree : (es : Exs) → NamesAreExs n b es → substitute_exs f es ≡ substitute_exs f' es
    exs-agree no_exs o = refl
    exs-agree (more_exs e es) o = ap (λ x. more_exs x (substitute_exs f es)) (substitute-agree e o.0) ∙ ap (more_exs (substitute f' e)) (exs-agree es o.1)

    -- The same of generators.
    pub gens-agree : (gs : Gens) → NamesAreGens n b gs → substitute_gens f gs ≡ substitute_gens f' gs
    gens-agree no_gens o = refl
    gens-agree (over p d gs) o = ap (λ x. over p x (substitute_gens f gs)) (dom-agree d o.1) ∙ ap (over p (substitute_dom f' d)) (gens-agree gs o.2)
    gens-agree (from p e gs) o = ap (λ x. from p x (substitute_gens f gs)) (substitute-agree e o.1) ∙ ap (from p (substitute f' e)) (gens-agree gs o.2)
    gens-agree (cond e gs) o = ap (λ x. cond x (substitute_gens f gs)) (substitute-agree e o.0) ∙ ap (cond (substitute f' e)) (gens-agree gs o.1)

    -- The same of a domain.
    pub dom-agree : (d : Dom) → NamesAreDom n b d → substitute_dom f d ≡ substitute_dom f' d
    dom-agree bool_dom o = refl
    dom-agree (int_dom rs es) o = ap (int_dom rs) (exs-agree es o)
    dom-agree (name_dom a) o = refl
    dom-agree (tuple_dom ds) o = ap tuple_dom (doms-agree ds o)
    dom-agree (record_dom fs ds) o = ap (record_dom fs) (doms-agree ds o)
    dom-agree (matrix_dom is d) o = ap (λ x. matrix_dom x (substitute_dom f d)) (doms-agree is o.0) ∙ ap (matrix_dom (substitute_doms f' is)) (dom-agree d o.1)
    dom-agree (set_dom ms es d) o = ap (λ x. set_dom ms x (substitute_dom f d)) (exs-agree es o.0) ∙ ap (set_dom ms (substitute_exs f' es)) (dom-agree d o.1)
    dom-agree (mset_dom ms es d) o = ap (λ x. mset_dom ms x (substitute_dom f d)) (exs-agree es o.0) ∙ ap (mset_dom ms (substitute_exs f' es)) (dom-agree d o.1)
    dom-agree (function_dom ms es d c) o =
        ap (λ x. function_dom ms x (substitute_dom f d) (substitute_dom f c)) (exs-agree es o.0)
        ∙ ap (λ x. function_dom ms (substitute_exs f' es) x (substitute_dom f c)) (dom-agree d o.1)
        ∙ ap (function_dom ms (substitute_exs f' es) (substitute_dom f' d)) (dom-agree c o.2)
    dom-agree (relation_dom ms es ds) o = ap (λ x. relation_dom ms x (substitute_doms f ds)) (exs-agree es o.0) ∙ ap (relation_dom ms (substitute_exs f' es)) (doms-agree ds o.1)
    dom-agree (partition_dom ms es d) o = ap (λ x. partition_dom ms x (substitute_dom f d)) (exs-agree es o.0) ∙ ap (partition_dom ms (substitute_exs f' es)) (dom-agree d o.1)

    doms-agree : (ds : Doms) → NamesAreDoms n b ds → substitute_doms f ds ≡ substitute_doms f' ds
    doms-agree no_doms o = refl
    doms-agree (more_doms d ds) o = ap (λ x. more_doms x (substitute_doms f ds)) (dom-agree d o.0) ∙ ap (more_doms (substitute_dom f' d)) (doms-agree ds o.1)

-- ---- a name that isn't used

module _ (x : Text) (w : Ex) (b : Text → Bool) where
  for-other : (a : Text) → IsTrue (but x a) → for_name x w a ≡ name_ex a
  for-other a h = go (same_text x a) h
    where
      go : (t : Bool) → IsTrue (not t) → (if t then w else name_ex a) ≡ name_ex a
      go true h = cc
      go false h = refl

  -- Where a tree doesn't use x, what is put for x leaves the tree as it is.
  pub substitute-unused : (e : Ex) → NamesAre (but x) b e → substitute (for_name x w) e ≡ e
  substitute-unused e o = substitute-agree (for_name x w) name_ex (but x) b for-other e o ∙ substitute-itself e

  -- The same of a domain.
  pub dom-unused : (d : Dom) → NamesAreDom (but x) b d → substitute_dom (for_name x w) d ≡ d
  dom-unused d o = dom-agree (for_name x w) name_ex (but x) b for-other d o ∙ dom-itself d
