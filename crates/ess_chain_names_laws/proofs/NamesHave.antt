-- Names of parts that are replaced, of what stands for a name, and of more names.
use Rattle.std.proofs.Common.{Bool, true, false, if◌then◌else◌}
use Rattle.std.specs.Prelude.{IsTrue}
use Rattle.ess_semantics.specs.Values.{Text}
use Rattle.ess_semantics.specs.Order.{same_text}
use Rattle.ess_semantics.specs.Trees.{Pat, Pats, name_pat, tuple_pat, no_pats, more_pats, Ex, Exs, number_ex, truth_ex, name_ex, node_ex, matrix_ex, comp_ex, cell_ex, seen_ex, no_exs, more_exs, Gens, no_gens, over, from, cond, Dom, Doms, bool_dom, int_dom, name_dom, tuple_dom, record_dom, matrix_dom, set_dom, mset_dom, function_dom, relation_dom, partition_dom, no_doms, more_doms}
use Rattle.ess_semantics.specs.Substitution.{substitute, substitute_exs, substitute_gens, substitute_dom, substitute_doms, for_name, Binds, BindsAll, NamesAre, NamesAreExs, NamesAreGens, NamesAreDom, NamesAreDoms}
use Rattle.ess_semantics.specs.Contexts.{In, Ins, InGens, InDom, InDoms, hole, in_operand, in_item, in_index_domain, in_body, in_generators, in_cell_index, in_view_domain, in_view_index, in_first, in_later, in_generator_domain, behind_over, in_source, behind_from, in_condition, behind_condition, in_bound, in_component, in_field, in_index, in_element, in_set_number, in_set_member, in_mset_number, in_mset_member, in_function_number, in_argument, in_result, in_relation_number, in_relation_component, in_partition_number, in_partition_member, in_first_domain, in_later_domain, fill, fill_exs, fill_gens, fill_dom, fill_doms}
use Rattle.ess_rules_laws.specs.SpliceRules.{append_gens}
use Rattle.ess_chain_names_laws.specs.NamesHave.{NamesHave, AllNamesHave, GensNamesHave, DomNamesHave, DomsNamesHave}

module _ (u : Text → Bool) where
  -- ---- a part that is replaced

  module _ (a b : Ex) (k : NamesHave u a → NamesHave u b) where
    mutual
      pub part-names : (c : In) → NamesHave u (fill c a) → NamesHave u (fill c b)
      part-names hole h = k h
      part-names (in_operand t op c) h = exs-names c h
      part-names (in_item c d) h = (exs-names c h.0, h.1)
      part-names (in_index_domain es c) h = (h.0, dom-names c h.1)
      part-names (in_body c gs) h = (part-names c h.0, h.1)
      part-names (in_generators x c) h = (h.0, gens-names c h.1)
      part-names (in_cell_index t n c) h = (h.0, exs-names c h.1)
      part-names (in_view_domain r c ns es) h = (dom-names c h.0, h.1)
      part-names (in_view_index r d ns c) h = (h.0, exs-names c h.1)

      pub exs-names : (c : Ins) → AllNamesHave u (fill_exs c a) → AllNamesHave u (fill_exs c b)
      exs-names (in_first c es) h = (part-names c h.0, h.1)
      exs-names (in_later x c) h = (h.0, exs-names c h.1)

      pub gens-names : (c : InGens) → GensNamesHave u (fill_gens c a) → GensNamesHave u (fill_gens c b)
      gens-names (in_generator_domain p c gs) h = (h.0, dom-names c h.1, h.2)
      gens-names (behind_over p d c) h = (h.0, h.1, gens-names c h.2)
      gens-names (in_source p c gs) h = (h.0, part-names c h.1, h.2)
      gens-names (behind_from p x c) h = (h.0, h.1, gens-names c h.2)
      gens-names (in_condition c gs) h = (part-names c h.0, h.1)
      gens-names (behind_condition x c) h = (h.0, gens-names c h.1)

      pub dom-names : (c : InDom) → DomNamesHave u (fill_dom c a) → DomNamesHave u (fill_dom c b)
      dom-names (in_bound rs c) h = exs-names c h
      dom-names (in_component c) h = doms-names c h
      dom-names (in_field fs c) h = doms-names c h
      dom-names (in_index c d) h = (doms-names c h.0, h.1)
      dom-names (in_element is c) h = (h.0, dom-names c h.1)
      dom-names (in_set_number ms c d) h = (exs-names c h.0, h.1)
      dom-names (in_set_member ms es c) h = (h.0, dom-names c h.1)
      dom-names (in_mset_number ms c d) h = (exs-names c h.0, h.1)
      dom-names (in_mset_member ms es c) h = (h.0, dom-names c h.1)
      dom-names (in_function_number ms c d r) h = (exs-names c h.0, h.1, h.2)
      dom-names (in_argument ms es c r) h = (h.0, dom-names c h.1, h.2)
      dom-names (in_result ms es d c) h = (h.0, h.1, dom-names c h.2)
      dom-names (in_relation_number ms c ds) h = (exs-names c h.0, h.1)
      dom-names (in_relation_component ms es c) h = (h.0, doms-names c h.1)
      dom-names (in_partition_number ms c d) h = (exs-names c h.0, h.1)
      dom-names (in_partition_member ms es c) h = (h.0, dom-names c h.1)

      doms-names : (c : InDoms) → DomsNamesHave u (fill_doms c a) → DomsNamesHave u (fill_doms c b)
      doms-names (in_first_domain c ds) h = (dom-names c h.0, h.1)
      doms-names (in_later_domain d c) h = (h.0, doms-names c h.1)

  -- ---- a part

  module _ (a : Ex) where
    mutual
      pub of-part : (c : In) → NamesHave u (fill c a) → NamesHave u a
      of-part hole h = h
      of-part (in_operand t op c) h = of-exs c h
      of-part (in_item c d) h = of-exs c h.0
      of-part (in_index_domain es c) h = of-dom c h.1
      of-part (in_body c gs) h = of-part c h.0
      of-part (in_generators x c) h = of-gens c h.1
      of-part (in_cell_index t n c) h = of-exs c h.1
      of-part (in_view_domain r c ns es) h = of-dom c h.0
      of-part (in_view_index r d ns c) h = of-exs c h.1

      of-exs : (c : Ins) → AllNamesHave u (fill_exs c a) → NamesHave u a
      of-exs (in_first c es) h = of-part c h.0
      of-exs (in_later x c) h = of-exs c h.1

      of-gens : (c : InGens) → GensNamesHave u (fill_gens c a) → NamesHave u a
      of-gens (in_generator_domain p c gs) h = of-dom c h.1
      of-gens (behind_over p d c) h = of-gens c h.2
      of-gens (in_source p c gs) h = of-part c h.1
      of-gens (behind_from p x c) h = of-gens c h.2
      of-gens (in_condition c gs) h = of-part c h.0
      of-gens (behind_condition x c) h = of-gens c h.1

      of-dom : (c : InDom) → DomNamesHave u (fill_dom c a) → NamesHave u a
      of-dom (in_bound rs c) h = of-exs c h
      of-dom (in_component c) h = of-doms c h
      of-dom (in_field fs c) h = of-doms c h
      of-dom (in_index c d) h = of-doms c h.0
      of-dom (in_element is c) h = of-dom c h.1
      of-dom (in_set_number ms c d) h = of-exs c h.0
      of-dom (in_set_member ms es c) h = of-dom c h.1
      of-dom (in_mset_number ms c d) h = of-exs c h.0
      of-dom (in_mset_member ms es c) h = of-dom c h.1
      of-dom (in_function_number ms c d r) h = of-exs c h.0
      of-dom (in_argument ms es c r) h = of-dom c h.1
      of-dom (in_result ms es d c) h = of-dom c h.2
      of-dom (in_relation_number ms c ds) h = of-exs c h.0
      of-dom (in_relation_component ms es c) h = of-doms c h.1
      of-dom (in_partition_number ms c d) h = of-exs c h.0
      of-dom (in_partition_member ms es c) h = of-dom c h.1

      of-doms : (c : InDoms) → DomsNamesHave u (fill_doms c a) → NamesHave u a
      of-doms (in_first_domain c ds) h = of-dom c h.0
      of-doms (in_later_domain d c) h = of-doms c h.1

  -- ---- what stands for a name

  module _ (f : Text → Ex) (each : (a : Text) → IsTrue (u a) → NamesHave u (f a)) where
    mutual
      pub put-names : (e : Ex) → NamesHave u e → NamesHave u (substitute f e)
      put-names (number_ex n) h = tt
      put-names (truth_ex b) h = tt
      put-names (name_ex a) h = each a h
      put-names (node_ex b op es) h = put-exs es h
      put-names (matrix_ex es d) h = (put-exs es h.0, put-dom d h.1)
      put-names (comp_ex e gs) h = (put-names e h.0, put-gens gs h.1)
      put-names (cell_ex b n es) h = (h.0, put-exs es h.1)
      put-names (seen_ex r d ns es) h = (put-dom d h.0, put-exs es h.1)

      put-exs : (es : Exs) → AllNamesHave u es → AllNamesHave u (substitute_exs f es)
      put-exs no_exs h = tt
      put-exs (more_exs e es) h = (put-names e h.0, put-exs es h.1)

      pub put-gens : (gs : Gens) → GensNamesHave u gs → GensNamesHave u (substitute_gens f gs)
      put-gens no_gens h = tt
      put-gens (over p d gs) h = (h.0, put-dom d h.1, put-gens gs h.2)
      put-gens (from p e gs) h = (h.0, put-names e h.1, put-gens gs h.2)
      put-gens (cond e gs) h = (put-names e h.0, put-gens gs h.1)

      put-dom : (d : Dom) → DomNamesHave u d → DomNamesHave u (substitute_dom f d)
      put-dom bool_dom h = tt
      put-dom (int_dom rs es) h = put-exs es h
      put-dom (name_dom a) h = tt
      put-dom (tuple_dom ds) h = put-doms ds h
      put-dom (record_dom fs ds) h = put-doms ds h
      put-dom (matrix_dom is d) h = (put-doms is h.0, put-dom d h.1)
      put-dom (set_dom ms es d) h = (put-exs es h.0, put-dom d h.1)
      put-dom (mset_dom ms es d) h = (put-exs es h.0, put-dom d h.1)
      put-dom (function_dom ms es d c) h = (put-exs es h.0, put-dom d h.1, put-dom c h.2)
      put-dom (relation_dom ms es ds) h = (put-exs es h.0, put-doms ds h.1)
      put-dom (partition_dom ms es d) h = (put-exs es h.0, put-dom d h.1)

      put-doms : (ds : Doms) → DomsNamesHave u ds → DomsNamesHave u (substitute_doms f ds)
      put-doms no_doms h = tt
      put-doms (more_doms d ds) h = (put-dom d h.0, put-doms ds h.1)

  pub for-name : (x : Text) (w : Ex) → NamesHave u w → (a : Text) → IsTrue (u a) → NamesHave u (for_name x w a)
  for-name x w h a k = go (same_text x a)
    where
      go : (b : Bool) → NamesHave u (if b then w else name_ex a)
      go true = h
      go false = k

  -- Generators one behind the other.
  pub append-names : (gs hs : Gens) → GensNamesHave u gs → GensNamesHave u hs → GensNamesHave u (append_gens gs hs)
  append-names no_gens hs h k = k
  append-names (over p d gs) hs h k = (h.0, h.1, append-names gs hs h.2 k)
  append-names (from p e gs) hs h k = (h.0, h.1, append-names gs hs h.2 k)
  append-names (cond e gs) hs h k = (h.0, append-names gs hs h.1 k)

-- ---- a wider property

module _ (u w : Text → Bool) (wider : (a : Text) → IsTrue (u a) → IsTrue (w a)) where
  mutual
    pub pat-wider : (p : Pat) → Binds u p → Binds w p
    pat-wider (name_pat a) h = wider a h
    pat-wider (tuple_pat ps) h = pats-wider ps h

    pub pats-wider : (ps : Pats) → BindsAll u ps → BindsAll w ps
    pats-wider no_pats h = tt
    pats-wider (more_pats p ps) h = (pat-wider p h.0, pats-wider ps h.1)

  mutual
    pub names-wider : (e : Ex) → NamesHave u e → NamesHave w e
    names-wider (number_ex n) h = tt
    names-wider (truth_ex b) h = tt
    names-wider (name_ex a) h = wider a h
    names-wider (node_ex b op es) h = all-wider es h
    names-wider (matrix_ex es d) h = (all-wider es h.0, dom-wider d h.1)
    names-wider (comp_ex e gs) h = (names-wider e h.0, gens-wider gs h.1)
    names-wider (cell_ex b n es) h = (wider n h.0, all-wider es h.1)
    names-wider (seen_ex r d ns es) h = (dom-wider d h.0, all-wider es h.1)

    all-wider : (es : Exs) → AllNamesHave u es → AllNamesHave w es
    all-wider no_exs h = tt
    all-wider (more_exs e es) h = (names-wider e h.0, all-wider es h.1)

    gens-wider : (gs : Gens) → GensNamesHave u gs → GensNamesHave w gs
    gens-wider no_gens h = tt
    gens-wider (over p d gs) h = (pat-wider p h.0, dom-wider d h.1, gens-wider gs h.2)
    gens-wider (from p e gs) h = (pat-wider p h.0, names-wider e h.1, gens-wider gs h.2)
    gens-wider (cond e gs) h = (names-wider e h.0, gens-wider gs h.1)

    pub dom-wider : (d : Dom) → DomNamesHave u d → DomNamesHave w d
    dom-wider bool_dom h = tt
    dom-wider (int_dom rs es) h = all-wider es h
    dom-wider (name_dom a) h = tt
    dom-wider (tuple_dom ds) h = doms-wider ds h
    dom-wider (record_dom fs ds) h = doms-wider ds h
    dom-wider (matrix_dom is d) h = (doms-wider is h.0, dom-wider d h.1)
    dom-wider (set_dom ms es d) h = (all-wider es h.0, dom-wider d h.1)
    dom-wider (mset_dom ms es d) h = (all-wider es h.0, dom-wider d h.1)
    dom-wider (function_dom ms es d c) h = (all-wider es h.0, dom-wider d h.1, dom-wider c h.2)
    dom-wider (relation_dom ms es ds) h = (all-wider es h.0, doms-wider ds h.1)
    dom-wider (partition_dom ms es d) h = (all-wider es h.0, dom-wider d h.1)

    doms-wider : (ds : Doms) → DomsNamesHave u ds → DomsNamesHave w ds
    doms-wider no_doms h = tt
    doms-wider (more_doms d ds) h = (dom-wider d h.0, doms-wider ds h.1)

-- ---- used and bound names

module _ (u w b : Text → Bool) (used : (a : Text) → IsTrue (u a) → IsTrue (w a)) (bound : (a : Text) → IsTrue (u a) → IsTrue (b a)) where
  mutual
    pub names-are : (e : Ex) → NamesHave u e → NamesAre w b e
    names-are (number_ex n) h = tt
    names-are (truth_ex t) h = tt
    names-are (name_ex a) h = used a h
    names-are (node_ex t op es) h = all-are es h
    names-are (matrix_ex es d) h = (all-are es h.0, dom-are d h.1)
    names-are (comp_ex e gs) h = (names-are e h.0, gens-are gs h.1)
    names-are (cell_ex t n es) h = all-are es h.1
    names-are (seen_ex r d ns es) h = (dom-are d h.0, all-are es h.1)

    all-are : (es : Exs) → AllNamesHave u es → NamesAreExs w b es
    all-are no_exs h = tt
    all-are (more_exs e es) h = (names-are e h.0, all-are es h.1)

    pub gens-are : (gs : Gens) → GensNamesHave u gs → NamesAreGens w b gs
    gens-are no_gens h = tt
    gens-are (over p d gs) h = (pat-wider u b bound p h.0, dom-are d h.1, gens-are gs h.2)
    gens-are (from p e gs) h = (pat-wider u b bound p h.0, names-are e h.1, gens-are gs h.2)
    gens-are (cond e gs) h = (names-are e h.0, gens-are gs h.1)

    pub dom-are : (d : Dom) → DomNamesHave u d → NamesAreDom w b d
    dom-are bool_dom h = tt
    dom-are (int_dom rs es) h = all-are es h
    dom-are (name_dom a) h = tt
    dom-are (tuple_dom ds) h = doms-are ds h
    dom-are (record_dom fs ds) h = doms-are ds h
    dom-are (matrix_dom is d) h = (doms-are is h.0, dom-are d h.1)
    dom-are (set_dom ms es d) h = (all-are es h.0, dom-are d h.1)
    dom-are (mset_dom ms es d) h = (all-are es h.0, dom-are d h.1)
    dom-are (function_dom ms es d c) h = (all-are es h.0, dom-are d h.1, dom-are c h.2)
    dom-are (relation_dom ms es ds) h = (all-are es h.0, doms-are ds h.1)
    dom-are (partition_dom ms es d) h = (all-are es h.0, dom-are d h.1)

    doms-are : (ds : Doms) → DomsNamesHave u ds → NamesAreDoms w b ds
    doms-are no_doms h = tt
    doms-are (more_doms d ds) h = (dom-are d h.0, doms-are ds h.1)
