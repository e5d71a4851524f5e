-- Tables over the declared axes with items in the declared domains are full for the structures of views of judged domains, also with the
-- domain's numbers under their conditions.
use Rattle.std.proofs.Common.{◌≡◌, refl, sym, subst, ℕ, ◌<◌, true, false, List, [], length}
use Rattle.ess_semantics.specs.Values.{Text}
use Rattle.ess_semantics.specs.Order.{same_text}
use Rattle.ess_semantics.specs.Names.{Names}
use Rattle.ess_semantics.specs.Types.{Ty}
use Rattle.ess_semantics.specs.Trees.{Repr, no_exs, Dom}
use Rattle.ess_semantics.specs.Domains.{Domain}
use Rattle.ess_semantics.specs.Tables.{Tables}
use Rattle.ess_semantics.specs.Cells.{cells_of}
use Rattle.ess_semantics.specs.Representations.{width}
use Rattle.ess_semantics.specs.Declarations.{declarations, axes_of}
use Rattle.ess_semantics.specs.Tidy.{over_axes}
use Rattle.ess_semantics.specs.Meaning.{Env}
use Rattle.ess_repr_laws.specs.CanonicalTables.{TablesFit}
use Rattle.ess_repr_laws.specs.Structure.{structure}
use Rattle.ess_repr_laws.specs.StructureMeaning.{Bound, M, FoundBy}
use Rattle.ess_repr_laws.proofs.AxesOfTables.{axes-differ}
use Rattle.ess_repr_laws.proofs.Behind.{behind-none}
use Rattle.ess_repr_laws.proofs.StructureAll.{structures}
use Rattle.ess_repr_laws.proofs.StructureFits.{Fit}
use Rattle.ess_repr_laws.proofs.StructureOf.{StructureOf}
use Rattle.ess_repr_laws.proofs.StructureOfTables.{tables-exact}
use Rattle.ess_repr_laws.proofs.TablesWithin.{tables-within}
use Rattle.ess_repr_declare_laws.specs.SizeTerms.{size_terms}
use Rattle.ess_repr_structure_laws.specs.FreeIndices.{IsFullUnder}
use Rattle.ess_repr_structure_laws.specs.Laws.{TablesAreFull, ReadsNoTable}
use Rattle.ess_repr_structure_laws.specs.TotalNumbers.{total_dom}
use Rattle.ess_repr_structure_laws.proofs.FreeStructures.{structure-free}
use Rattle.ess_repr_structure_laws.proofs.FullAll.{full-all}
use Rattle.ess_repr_structure_laws.proofs.FullKinds.{FullOf}
use Rattle.ess_repr_structure_laws.proofs.FullNumbers.{dom-free}
use Rattle.ess_repr_structure_laws.proofs.FullParts.{FullIn}
use Rattle.ess_repr_structure_laws.proofs.JudgedViews.{judged-known}
use Rattle.ess_repr_structure_laws.proofs.ReadyAll.{ready}
use Rattle.ess_repr_structure_laws.proofs.ReadyParts.{Known}
use Rattle.ess_repr_structure_laws.proofs.TotalViews.{known-total}

module _ (env0 : Env) (q : ℕ → Text) (q-apart : (m l : ℕ) → l < m → same_text (q m) (q l) ≡ false) where
  -- Tables that fit are full for the structure of a view of which enough is known.
  known-full : (r : Repr) (d : Dom) (e : Domain) → Known env0 q q-apart r d e → ReadsNoTable d → (ns : List Text) (ts : Tables) (l : ℕ)
      (bs : Bound env0 q q-apart) → length ns ≡ width r → FoundBy env0 q q-apart ns ts → over_axes [] (axes_of r e) ts ≡ true →
      TablesFit (declarations r e) ts → (g : Names Ty) → IsFullUnder (structure q size_terms r d ns l no_exs) g (M env0 q q-apart bs)
  known-full r d e k n ns ts l bs w f o t g =
      let h = ready env0 q q-apart r d e k in
      let s : StructureOf env0 q q-apart size_terms r d e = structures env0 q q-apart size_terms r d e h in
      let m : FullOf env0 q q-apart r d e = full-all env0 q q-apart r d e k h (dom-free d n) in
      let c = tables-within (declarations r e) ts (axes-differ r e s.covered) o t in
      let p = s.found ns ts w f in
      let th = s.there false ns ts [] p (subst (Fit (declarations r e)) (sym (behind-none (cells_of ts)))
      (c, tables-exact (declarations r e) ts o t)) in
      let x : FullIn (structure q size_terms r d ns l no_exs) (M env0 q q-apart bs) =
      m.full ns ts l no_exs [] bs p th (λ cs a. refl) tt in (structure-free q q-apart r d ns l n, x.full g)

-- So they are.
pub views-full : TablesAreFull
views-full = record {
  own = λ env0 q apart r d e v n ns ts l bs w f o t g.
      known-full env0 q apart r d e (judged-known env0 q apart r d e v) n ns ts l bs w f o t g;
  guarded = λ x y env0 q apart r d e v n ns ts l bs w f o t g.
      known-full env0 q apart r (total_dom x y d) e (known-total env0 q apart d e x y r (judged-known env0 q apart r d e v) v) n ns ts l bs
      w f o t g;
}
