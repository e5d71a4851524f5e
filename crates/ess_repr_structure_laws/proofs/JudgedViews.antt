-- Views of judged domains are ready, so their structures mean that their cells are canonical.
use Rattle.std.proofs.Common.{◌≡◌, refl, ap, ◌∙◌, ℕ, suc, ◌<◌, true, false, List, [], ◌∷◌, length, Some}
use Rattle.ess_semantics.specs.Values.{Text, truth}
use Rattle.ess_semantics.specs.Order.{same_text}
use Rattle.ess_semantics.specs.Trees.{Repr, no_exs, Dom}
use Rattle.ess_semantics.specs.Domains.{Domain}
use Rattle.ess_semantics.specs.Tables.{Tables}
use Rattle.ess_semantics.specs.Cells.{cells_of}
use Rattle.ess_semantics.specs.Representations.{width}
use Rattle.ess_semantics.specs.Declarations.{declarations, axes_of}
use Rattle.ess_semantics.specs.CanonicalTest.{canonical}
use Rattle.ess_semantics.specs.Tidy.{over_axes}
use Rattle.ess_semantics.specs.Meaning.{Env, meaning}
use Rattle.ess_repr_laws.specs.StructureMeaning.{Bound, M, FoundBy}
use Rattle.ess_repr_laws.specs.CanonicalTables.{TablesFit}
use Rattle.ess_repr_laws.specs.Structure.{structure}
use Rattle.ess_repr_laws.proofs.DenotedDomains.{fitting-roomy}
use Rattle.ess_repr_laws.proofs.StructureAll.{structures}
use Rattle.ess_repr_laws.proofs.StructureOf.{StructureOf}
use Rattle.ess_repr_laws.proofs.StructureOfTables.{structure-of-tables}
use Rattle.ess_repr_declare_laws.specs.SizeTerms.{size_terms}
use Rattle.ess_repr_structure_laws.specs.Laws.{NamesApart, JudgedView, JudgedViewsAreReady, JudgedStructuresMeanCanonical}
use Rattle.ess_repr_structure_laws.proofs.FittingChildren.{sound-well}
use Rattle.ess_repr_structure_laws.proofs.NamesApart.{same-domain, numbers-same}
use Rattle.ess_repr_structure_laws.proofs.OrderlyDenoted.{orderly-sound, orderly-neat}
use Rattle.ess_repr_structure_laws.proofs.ReadyAll.{ready}
use Rattle.ess_repr_structure_laws.proofs.ReadyParts.{Known}

-- What the judgements say is what is to be known.
pub judged-known : (env0 : Env) (q : ℕ → Text) (apart : (m l : ℕ) → l < m → same_text (q m) (q l) ≡ false) (r : Repr) (d : Dom) (e : Domain)
    →
    JudgedView env0 q r d e → Known env0 q apart r d e
judged-known env0 q apart r d e v =
    let a : NamesApart q d = v.apart in
    let s = orderly-sound d env0 e v.orderly v.denotes in
    record {
      sound = s;
      fit = v.fit;
      room = fitting-roomy r d env0 e (sound-well d s) v.known v.fit v.denotes;
      neat = orderly-neat d env0 e v.orderly s v.denotes v.plain;
      plain = v.plain;
      means = λ bs. same-domain env0 q apart a.names a.apart bs d a.free ∙ v.denotes;
      numbers = λ bs. numbers-same env0 q apart a.names a.apart bs d a.free v.numbers;
    }

-- So views of judged domains are ready.
pub judged-ready : JudgedViewsAreReady
judged-ready env0 q apart r d e v = ready env0 q apart r d e (judged-known env0 q apart r d e v)

found-long : (env0 : Env) (q : ℕ → Text) (apart : (m l : ℕ) → l < m → same_text (q m) (q l) ≡ false) (ns : List Text) (ts : Tables) →
    FoundBy env0 q apart ns ts → length ts ≡ length ns
found-long env0 q apart [] [] f = refl
found-long env0 q apart [] (t ∷ ts) f = absurd f
found-long env0 q apart (n ∷ ns) [] f = absurd f
found-long env0 q apart (n ∷ ns) (t ∷ ts) f = ap suc (found-long env0 q apart ns ts f.1)

-- The structure of a view of which enough is known means that its cells are canonical.
pub known-structures : (env0 : Env) (q : ℕ → Text) (apart : (m l : ℕ) → l < m → same_text (q m) (q l) ≡ false) (r : Repr) (d : Dom)
    (e : Domain) →
    Known env0 q apart r d e → (ns : List Text) (ts : Tables) (l : ℕ) (bs : Bound env0 q apart) → length ns ≡ width r →
    FoundBy env0 q apart ns ts → over_axes [] (axes_of r e) ts ≡ true → TablesFit (declarations r e) ts →
    meaning (structure q size_terms r d ns l no_exs) (M env0 q apart bs) ≡ Some (truth (canonical r e (cells_of ts)))
known-structures env0 q apart r d e k ns ts l bs w f o t =
    let i = ready env0 q apart r d e k in
    let s : StructureOf env0 q apart size_terms r d e = structures env0 q apart size_terms r d e i in
    structure-of-tables env0 q apart size_terms r d e i ns ts l bs (found-long env0 q apart ns ts f ∙ w) (s.found ns ts w f) o t

-- So the structures of views of judged domains do.
pub judged-structures : JudgedStructuresMeanCanonical
judged-structures env0 q apart r d e v ns ts l bs w f o t = known-structures env0 q apart r d e (judged-known env0 q apart r d e v) ns ts l
    bs w f o t
