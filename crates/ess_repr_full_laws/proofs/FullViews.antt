-- Tables over the declared axes with items in the declared domains are full for the structures of views of judged domains, where the tables
-- of the env are full for these.
use Rattle.std.proofs.Common.{◌≡◌, refl, sym, subst, ℕ, ◌<◌, true, false, List, [], length}
use Rattle.ess_semantics.specs.Values.{Text, Value}
use Rattle.ess_semantics.specs.Order.{same_text}
use Rattle.ess_semantics.specs.Names.{Names}
use Rattle.ess_semantics.specs.Types.{Ty}
use Rattle.ess_semantics.specs.Trees.{Repr, Exs, no_exs, more_exs, Dom, Doms, bool_dom, int_dom, name_dom, tuple_dom, record_dom, matrix_dom, set_dom, mset_dom, function_dom, relation_dom, partition_dom, no_doms, more_doms}
use Rattle.ess_semantics.specs.Domains.{Domain}
use Rattle.ess_semantics.specs.Tables.{Tables}
use Rattle.ess_semantics.specs.Cells.{cells_of}
use Rattle.ess_semantics.specs.Representations.{width}
use Rattle.ess_semantics.specs.Declarations.{declarations, axes_of}
use Rattle.ess_semantics.specs.Tidy.{over_axes}
use Rattle.ess_semantics.specs.Meaning.{Env}
use Rattle.ess_semantics.specs.Full.{Full, FullAll, FullDom, FullDoms}
use Rattle.ess_repr_laws.specs.CanonicalTables.{TablesFit}
use Rattle.ess_repr_laws.specs.Structure.{structure}
use Rattle.ess_repr_laws.specs.StructureMeaning.{Bound, M, FoundBy}
use Rattle.ess_repr_laws.proofs.AxesOfTables.{axes-differ}
use Rattle.ess_repr_laws.proofs.Behind.{behind-none}
use Rattle.ess_repr_laws.proofs.StructureAll.{structures}
use Rattle.ess_repr_laws.proofs.StructureFits.{Fit}
use Rattle.ess_repr_laws.proofs.StructureOf.{StructureOf}
use Rattle.ess_repr_laws.proofs.StructureOfTables.{tables-exact}
use Rattle.ess_repr_laws.proofs.TablesWithin.{tables-within}
use Rattle.ess_repr_declare_laws.specs.SizeTerms.{size_terms}
use Rattle.ess_repr_structure_laws.specs.TotalNumbers.{total_dom}
use Rattle.ess_repr_structure_laws.proofs.BuiltStructures as B
use Rattle.ess_repr_structure_laws.proofs.FullNumbers as P
use Rattle.ess_repr_structure_laws.proofs.FullParts as O
use Rattle.ess_repr_structure_laws.proofs.JudgedViews.{judged-known}
use Rattle.ess_repr_structure_laws.proofs.MetParts.{Any}
use Rattle.ess_repr_structure_laws.proofs.ReadyAll.{ready}
use Rattle.ess_repr_structure_laws.proofs.ReadyParts.{Known}
use Rattle.ess_repr_structure_laws.proofs.TotalViews.{known-total}
use Rattle.ess_repr_full_laws.specs.Laws.{HasNoFreeNames, FullBelow, TablesAreFullBelow}
use Rattle.ess_repr_full_laws.proofs.QuietStructures.{quiet-structure}
use Rattle.ess_repr_full_laws.proofs.FullFree.{full-dom-free}
use Rattle.ess_repr_full_laws.proofs.FullAll.{full-all}
use Rattle.ess_repr_full_laws.proofs.FullKinds.{FullOf}
use Rattle.ess_repr_full_laws.proofs.FullParts.{E, Anywhere, FullIn}

-- ---- domains

module _ (env0 : Env) where
  all-below : (es : Exs) → ((g : Names Ty) (vals : Names Value) → FullAll es g (E env0 vals)) → B.AllHave (Anywhere env0) es
  all-below no_exs m = tt
  all-below (more_exs e es) m =
      (record { at = λ g vals. let z = m g vals in z.0 }, all-below es (λ g vals. let z = m g vals in z.1))

  mutual
    -- A domain for which tables are full whatever values names have.
    below : (d : Dom) → ((g : Names Ty) (vals : Names Value) → FullDom d g (E env0 vals)) → B.Good (Anywhere env0) Any d
    below bool_dom m = tt
    below (int_dom rs es) m = (tt, all-below es m)
    below (name_dom a) m = tt
    below (tuple_dom ds) m = below-all ds m
    below (record_dom fs ds) m = below-all ds m
    below (matrix_dom is d) m = (below-all is (λ g vals. let z = m g vals in z.0), below d (λ g vals. let z = m g vals in z.1))
    below (set_dom ms es d) m = (all-below es (λ g vals. let z = m g vals in z.0), below d (λ g vals. let z = m g vals in z.1))
    below (mset_dom ms es d) m = (tt, all-below es (λ g vals. let z = m g vals in z.0), below d (λ g vals. let z = m g vals in z.1))
    below (function_dom ms es d c) m = (
      all-below es (λ g vals. let z = m g vals in z.0),
      below d (λ g vals. let z = m g vals in z.1),
      below c (λ g vals. let z = m g vals in z.2),
    )
    below (relation_dom ms es ds) m = (all-below es (λ g vals. let z = m g vals in z.0), below-all ds (λ g vals. let z = m g vals in z.1))
    below (partition_dom ms es d) m = (all-below es (λ g vals. let z = m g vals in z.0), below d (λ g vals. let z = m g vals in z.1))

    below-all : (ds : Doms) → ((g : Names Ty) (vals : Names Value) → FullDoms ds g (E env0 vals)) → B.AllGood (Anywhere env0) Any ds
    below-all no_doms m = tt
    below-all (more_doms d ds) m = (below d (λ g vals. let z = m g vals in z.0), below-all ds (λ g vals. let z = m g vals in z.1))

-- ---- views

module _ (env0 : Env) (q : ℕ → Text) (q-apart : (m l : ℕ) → l < m → same_text (q m) (q l) ≡ false) where
  -- Tables that fit are full for the structure of a view of which enough is known.
  known-full : (r : Repr) (d : Dom) (e : Domain) → Known env0 q q-apart r d e → FullBelow env0 d → (ns : List Text) (ts : Tables) (l : ℕ)
      (bs : Bound env0 q q-apart) → length ns ≡ width r → FoundBy env0 q q-apart ns ts → over_axes [] (axes_of r e) ts ≡ true →
      TablesFit (declarations r e) ts → (g : Names Ty) → Full (structure q size_terms r d ns l no_exs) g (M env0 q q-apart bs)
  known-full r d e k n ns ts l bs w f o t g =
      let h = ready env0 q q-apart r d e k in
      let s : StructureOf env0 q q-apart size_terms r d e = structures env0 q q-apart size_terms r d e h in
      let m : FullOf env0 q q-apart r d e = full-all env0 q q-apart r d e k h (below env0 d n.at) in
      let c = tables-within (declarations r e) ts (axes-differ r e s.covered) o t in
      let p = s.found ns ts w f in
      let th = s.there false ns ts [] p (subst (Fit (declarations r e)) (sym (behind-none (cells_of ts)))
      (c, tables-exact (declarations r e) ts o t)) in
      let x : FullIn (structure q size_terms r d ns l no_exs) (M env0 q q-apart bs) =
      m.full ns ts l no_exs [] bs p th (λ cs a. refl) tt in x.full g

-- A domain without free names.
closed-below : (env0 : Env) (d : Dom) → HasNoFreeNames d → ((g : Names Ty) → FullDom d g env0) → FullBelow env0 d
closed-below env0 d f k = record {
  at = λ g vals. full-dom-free env0.positions env0.types env0.cells d (λ a. false) g env0.vals vals f (λ a h. cc) (k g);
}

-- So they are.
pub views-full-below : TablesAreFullBelow
views-full-below = record {
  own = λ env0 q apart r d e v n ns ts l bs w f o t g.
      known-full env0 q apart r d e (judged-known env0 q apart r d e v) n ns ts l bs w f o t g;
  guarded = λ x y env0 q apart r d e v n ns ts l bs w f o t g.
      known-full env0 q apart r (total_dom x y d) e (known-total env0 q apart d e x y r (judged-known env0 q apart r d e v) v) n ns ts l bs
      w f o t g;
  closed = closed-below;
  indices = quiet-structure;
  view = λ env0 q apart r d e v c ns ts l bs w f o t k g.
      known-full env0 q apart r d e (judged-known env0 q apart r d e v)
      (closed-below env0 d c (λ h. let z = k h in z.1)) ns ts l bs w f o t g;
  plain = λ env0 d n. record { at = λ g vals. O.dom-anywhere d (B.good-has O.Anywhere Any d (P.dom-free d n)) g (E env0 vals) };
}
