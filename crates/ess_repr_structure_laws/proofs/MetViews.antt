-- Tables over the declared axes with items in the declared domains meet the structures of views of judged domains, also with the
-- domain's numbers under their conditions.
use Rattle.std.proofs.Common.{◌≡◌, refl, sym, ap, ◌∙◌, subst, ℕ, ◌<◌, true, false, List, [], length}
use Rattle.ess_semantics.specs.Values.{Text}
use Rattle.ess_semantics.specs.Order.{same_text}
use Rattle.ess_semantics.specs.Trees.{Repr, Ex, Exs, no_exs, more_exs, Dom, Doms, bool_dom, int_dom, name_dom, tuple_dom, record_dom, matrix_dom, set_dom, mset_dom, function_dom, relation_dom, partition_dom, no_doms, more_doms}
use Rattle.ess_semantics.specs.Domains.{Domain}
use Rattle.ess_semantics.specs.Tables.{Tables}
use Rattle.ess_semantics.specs.Cells.{cells_of}
use Rattle.ess_semantics.specs.Representations.{width}
use Rattle.ess_semantics.specs.Declarations.{declarations, axes_of}
use Rattle.ess_semantics.specs.Tidy.{over_axes}
use Rattle.ess_semantics.specs.Meaning.{Env}
use Rattle.ess_semantics.specs.Meets.{Meets, MeetsAll, MeetsDom, MeetsDoms}
use Rattle.ess_guard_laws.specs.Guard.{there, make_total, make_total_term}
use Rattle.ess_guard_laws.proofs.StructuresMet as S
use Rattle.ess_guard_laws.proofs.Terms.{summed-met}
use Rattle.ess_repr_laws.specs.CanonicalTables.{TablesFit}
use Rattle.ess_repr_laws.specs.Structure.{structure}
use Rattle.ess_repr_laws.specs.StructureMeaning.{Bound, M, FoundBy}
use Rattle.ess_repr_laws.proofs.AxesOfTables.{axes-differ}
use Rattle.ess_repr_laws.proofs.Behind.{behind-none}
use Rattle.ess_repr_laws.proofs.StructureAll.{structures}
use Rattle.ess_repr_laws.proofs.StructureFits.{Fit}
use Rattle.ess_repr_laws.proofs.StructureOf.{StructureOf}
use Rattle.ess_repr_laws.proofs.StructureOfTables.{tables-exact}
use Rattle.ess_repr_laws.proofs.TablesWithin.{tables-within}
use Rattle.ess_repr_declare_laws.specs.SizeTerms.{size_terms}
use Rattle.ess_repr_structure_laws.specs.Laws.{NamesApart, JudgedView, TablesMeetStructures}
use Rattle.ess_repr_structure_laws.specs.TotalNumbers.{total_numbers, total_dom, total_doms}
use Rattle.ess_repr_structure_laws.proofs.BuiltStructures as B
use Rattle.ess_repr_structure_laws.proofs.JudgedViews.{judged-known}
use Rattle.ess_repr_structure_laws.proofs.MetAll.{met-all}
use Rattle.ess_repr_structure_laws.proofs.MetKinds.{Met}
use Rattle.ess_repr_structure_laws.proofs.MetLayers as M'
use Rattle.ess_repr_structure_laws.proofs.MetParts.{Any, MetIn}
use Rattle.ess_repr_structure_laws.proofs.NamesApart.{same-met}
use Rattle.ess_repr_structure_laws.proofs.ReadyAll.{ready}
use Rattle.ess_repr_structure_laws.proofs.ReadyParts.{Known}
use Rattle.ess_repr_structure_laws.proofs.TotalViews.{known-total}

-- ---- numbers under their conditions

module _ (x y : Text) (env : Env) where
  number-met : (e : Ex) → Meets e env → Meets ((make_total_term x y true e).1) env
  number-met e m = summed-met (there x y e) (make_total x y e) env (S.asked false x y e [] false env m) (S.met false x y e [] env m)

  numbers-met : (es : Exs) → MeetsAll false es env → MeetsAll false (total_numbers x y es) env
  numbers-met no_exs m = tt
  numbers-met (more_exs e es) m = (number-met e m.0, numbers-met es m.1)

  mutual
    -- Tables that meet the structures of a domain's numbers meet those of the numbers under their conditions.
    pub total-dom-met : (d : Dom) → MeetsDom d env → MeetsDom (total_dom x y d) env
    total-dom-met bool_dom m = tt
    total-dom-met (int_dom rs es) m = numbers-met es m
    total-dom-met (name_dom a) m = tt
    total-dom-met (tuple_dom ds) m = total-doms-met ds m
    total-dom-met (record_dom fs ds) m = total-doms-met ds m
    total-dom-met (matrix_dom is d) m = (total-doms-met is m.0, total-dom-met d m.1)
    total-dom-met (set_dom ms es d) m = (numbers-met es m.0, total-dom-met d m.1)
    total-dom-met (mset_dom ms es d) m = (numbers-met es m.0, total-dom-met d m.1)
    total-dom-met (function_dom ms es d c) m = (numbers-met es m.0, total-dom-met d m.1, total-dom-met c m.2)
    total-dom-met (relation_dom ms es ds) m = (numbers-met es m.0, total-doms-met ds m.1)
    total-dom-met (partition_dom ms es d) m = (numbers-met es m.0, total-dom-met d m.1)

    total-doms-met : (ds : Doms) → MeetsDoms ds env → MeetsDoms (total_doms x y ds) env
    total-doms-met no_doms m = tt
    total-doms-met (more_doms d ds) m = (total-dom-met d m.0, total-doms-met ds m.1)

-- ---- views

module _ (env0 : Env) (q : ℕ → Text) (q-apart : (m l : ℕ) → l < m → same_text (q m) (q l) ≡ false) where
  abbrev Names : Type 0
  Names = Bound env0 q q-apart

  abbrev N : Names → Env
  N = M env0 q q-apart

  abbrev G : Ex → Type 0
  G = M'.G env0 q q-apart

  all-met : (es : Exs) → ((bs : Names) → MeetsAll false es (N bs)) → B.AllHave G es
  all-met no_exs m = tt
  all-met (more_exs e es) m = (record { at = λ bs r. let z = m bs in z.0 }, all-met es (λ bs. let z = m bs in z.1))

  mutual
    -- A domain whose numbers' structures are met whatever reserved names are bound.
    met-good : (d : Dom) → ((bs : Names) → MeetsDom d (N bs)) → B.Good G Any d
    met-good bool_dom m = tt
    met-good (int_dom rs es) m = (tt, all-met es m)
    met-good (name_dom a) m = tt
    met-good (tuple_dom ds) m = met-all-good ds m
    met-good (record_dom fs ds) m = met-all-good ds m
    met-good (matrix_dom is d) m = (met-all-good is (λ bs. let z = m bs in z.0), met-good d (λ bs. let z = m bs in z.1))
    met-good (set_dom ms es d) m = (all-met es (λ bs. let z = m bs in z.0), met-good d (λ bs. let z = m bs in z.1))
    met-good (mset_dom ms es d) m = (tt, all-met es (λ bs. let z = m bs in z.0), met-good d (λ bs. let z = m bs in z.1))
    met-good (function_dom ms es d c) m = (
      all-met es (λ bs. let z = m bs in z.0),
      met-good d (λ bs. let z = m bs in z.1),
      met-good c
          (λ bs. let z = m bs in z.2),
    )
    met-good (relation_dom ms es ds) m = (all-met es (λ bs. let z = m bs in z.0), met-all-good ds (λ bs. let z = m bs in z.1))
    met-good (partition_dom ms es d) m = (all-met es (λ bs. let z = m bs in z.0), met-good d (λ bs. let z = m bs in z.1))

    met-all-good : (ds : Doms) → ((bs : Names) → MeetsDoms ds (N bs)) → B.AllGood G Any ds
    met-all-good no_doms m = tt
    met-all-good (more_doms d ds) m = (met-good d (λ bs. let z = m bs in z.0), met-all-good ds (λ bs. let z = m bs in z.1))

  -- Tables that fit meet the structure of a view of which enough is known.
  known-met : (r : Repr) (d : Dom) (e : Domain) → Known env0 q q-apart r d e → ((bs : Names) → MeetsDom d (N bs)) → (ns : List Text)
      (ts : Tables) (l : ℕ) (bs : Names) →
      length ns ≡ width r → FoundBy env0 q q-apart ns ts → over_axes [] (axes_of r e) ts ≡ true → TablesFit (declarations r e) ts → Meets
      (structure q size_terms r d ns l no_exs) (N bs)
  known-met r d e k m ns ts l bs w f o t =
      let h = ready env0 q q-apart r d e k in
      let s : StructureOf env0 q q-apart size_terms r d e = structures env0 q q-apart size_terms r d e h in
      let p : Met env0 q q-apart r d e = met-all env0 q q-apart r d e k h (met-good d m) in
      let c = tables-within (declarations r e) ts (axes-differ r e s.covered) o t in
      let x : MetIn (structure q size_terms r d ns l no_exs) (N bs) =
      p.met false ns ts l no_exs [] bs (s.found ns ts w f)
      (subst (Fit (declarations r e)) (sym (behind-none (cells_of ts))) (c, tables-exact (declarations r e) ts o t))
      (ap (λ a. over_axes [] a ts) s.axes ∙ o) (λ cs g. refl) tt in x.met

-- So structures are met.
-- The domain's numbers are met there.
met-there : (env0 : Env) (q : ℕ → Text) (apart : (m l : ℕ) → l < m → same_text (q m) (q l) ≡ false) (r : Repr) (d : Dom) (e : Domain) →
    JudgedView env0 q r d e → MeetsDom d env0 → (bs : Bound env0 q apart) → MeetsDom d (M env0 q apart bs)
met-there env0 q apart r d e v m bs = let a : NamesApart q d = v.apart in same-met env0 q apart a.names a.apart bs d a.free m

pub structures-met : TablesMeetStructures
structures-met = record {
  own = λ env0 q apart r d e v m ns ts l bs w f o t.
      known-met env0 q apart r d e (judged-known env0 q apart r d e v) (met-there env0 q apart r d e v m) ns ts l bs w f o t;
  guarded = λ x y env0 q apart r d e v m ns ts l bs w f o t.
      known-met env0 q apart r (total_dom x y d) e (known-total env0 q apart d e x y r (judged-known env0 q apart r d e v) v)
      (λ cs. total-dom-met x y (M env0 q apart cs) d (met-there env0 q apart r d e v m cs)) ns ts l bs w f o t;
}
