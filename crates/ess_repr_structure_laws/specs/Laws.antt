-- Laws of structures of judged domains, each stated at a function that does nothing.
use Rattle.std.specs.Prelude.{◌≡◌, ℕ, ◌<◌, Bool, true, false, List, [], ◌∷◌, length, pos, Some}
use Rattle.std.specs.List.{list_any}
use Rattle.ess_semantics.specs.Values.{Text, truth}
use Rattle.ess_semantics.specs.Order.{same_text}
use Rattle.ess_semantics.specs.Trees.{Repr, Ex, no_exs, Dom, Stm}
use Rattle.ess_semantics.specs.Domains.{Domain}
use Rattle.ess_semantics.specs.Membership.{no_negative_attribute}
use Rattle.ess_semantics.specs.Tables.{Tables}
use Rattle.ess_semantics.specs.Cells.{cells_of}
use Rattle.ess_semantics.specs.Kinds.{fits}
use Rattle.ess_semantics.specs.Representations.{width}
use Rattle.ess_semantics.specs.Declarations.{declarations, axes_of}
use Rattle.ess_semantics.specs.CanonicalTest.{canonical}
use Rattle.ess_semantics.specs.Tidy.{over_axes}
use Rattle.ess_semantics.specs.Meaning.{Env, meaning, domain_of}
use Rattle.ess_semantics.specs.Totality.{Total, TotalDom}
use Rattle.ess_semantics.specs.Meets.{Meets, MeetsDom}
use Rattle.ess_semantics.specs.Names.{Names}
use Rattle.ess_semantics.specs.Types.{Ty}
use Rattle.ess_semantics.specs.Constants.{constants_of_tree, among_constants, dom_constants}
use Rattle.ess_semantics.specs.FreeNames.{FreeNamesAreDom}
use Rattle.ess_semantics.specs.Scopes.{Scope, asking, every_dom}
use Rattle.ess_semantics.specs.Occurrences.{parts_of_dom, is_cell_or_view}
use Rattle.ess_semantics.specs.Resolving.{resolve, resolve_dom}
use Rattle.ess_semantics.specs.Typed.{Typed}
use Rattle.ess_types_laws.specs.SoundParts.{relation_has_parts}
use Rattle.ess_semantics.specs.DomainJudgements.{needs_known_slots}
use Rattle.ess_semantics.specs.Judgements.{ill_typed, not_enumerable, expression_of, domain_in, meets}
use Rattle.ess_guard_laws.specs.Covered.{CoveredDom}
use Rattle.ess_guard_laws.specs.LiteralsFit.{LiteralsFit, DomLiteralsFit}
use Rattle.ess_repr_laws.specs.CanonicalTables.{TablesFit}
use Rattle.ess_repr_laws.specs.Structure.{structure}
use Rattle.ess_repr_laws.specs.StructureMeaning.{Bound, M, FoundBy}
use Rattle.ess_repr_laws.specs.StructureReady.{Ready}
use Rattle.ess_repr_declare_laws.specs.SizeTerms.{size_terms}
use Rattle.ess_repr_structure_laws.specs.DomainNumbers.{NumbersIn}
use Rattle.ess_repr_structure_laws.specs.FreeIndices.{IsFullUnder}
use Rattle.ess_repr_structure_laws.specs.OrderlyDomains.{Orderly}
use Rattle.ess_repr_structure_laws.specs.TotalNumbers.{total_dom}

-- The free names of the domain are among names that aren't reserved.
pub record NamesApart (q : ℕ → Text) (d : Dom) : Type 0 where
  pub names : Text → Bool
  pub apart : (l : ℕ) (a : Text) → names a ≡ true → same_text (q l) a ≡ false
  pub free : FreeNamesAreDom names d

-- A view of a judged domain, whose representation fits: the domain denotes e, no attribute value is below 0, its numbers are numbers,
-- and it mentions no reserved name.
pub record JudgedView (env0 : Env) (q : ℕ → Text) (r : Repr) (d : Dom) (e : Domain) : Type 0 where
  pub orderly : Orderly d
  pub known : needs_known_slots d ≡ true
  pub fit : fits r d ≡ true
  pub denotes : domain_of d env0 ≡ Some e
  pub plain : no_negative_attribute e ≡ true
  pub numbers : NumbersIn d env0
  pub apart : NamesApart q d

-- The domain denotes e, without attribute values below 0, and mentions no reserved name.
pub record DenotedView (env0 : Env) (q : ℕ → Text) (d : Dom) (e : Domain) : Type 0 where
  pub denotes : domain_of d env0 ≡ Some e
  pub plain : no_negative_attribute e ≡ true
  pub apart : NamesApart q d

-- A domain that is judged to be well typed, with enumerable domains where members are listed, is orderly.
abbrev pub JudgedDomainsAreOrderly : Type 0
JudgedDomainsAreOrderly =
    (w t : Stm) (s : Scope) (d : Dom) → domain_in t ≡ Some d → meets ill_typed w t s ≡ true → meets not_enumerable w t s ≡ true → Orderly d

-- What structures ask of the parts of a domain follows from the judgements, with the sizes as terms.
abbrev pub JudgedViewsAreReady : Type 0
JudgedViewsAreReady =
    (env0 : Env) (q : ℕ → Text) (apart : (m l : ℕ) → l < m → same_text (q m) (q l) ≡ false) (r : Repr) (d : Dom) (e : Domain) →
    JudgedView env0 q r d e → Ready env0 q apart size_terms r d e

-- So the structure constraint of a view of a judged domain means that the cells are canonical, over tables that are found by their names,
-- on the declared axes with items in the declared domains.
abbrev pub JudgedStructuresMeanCanonical : Type 0
JudgedStructuresMeanCanonical =
    (env0 : Env) (q : ℕ → Text) (apart : (m l : ℕ) → l < m → same_text (q m) (q l) ≡ false) (r : Repr) (d : Dom) (e : Domain) →
    JudgedView env0 q r d e → (ns : List Text) (ts : Tables) (l : ℕ) (bs : Bound env0 q apart) → length ns ≡ width r →
    FoundBy env0 q apart ns ts → over_axes [] (axes_of r e) ts ≡ true → TablesFit (declarations r e) ts →
    meaning (structure q size_terms r d ns l no_exs) (M env0 q apart bs) ≡ Some (truth (canonical r e (cells_of ts)))

-- The structure of a view is total, whatever reserved names are bound: where the domain is, at the names that aren't reserved; and with
-- each bound and attribute value under its conditions, where these are covered. With them there it means that the cells are canonical, as without.
pub record StructuresAreTotal : Type 0 where
  pub total : (env0 : Env) (q : ℕ → Text) (apart : (m l : ℕ) → l < m → same_text (q m) (q l) ≡ false) (r : Repr) (d : Dom) (e : Domain) →
      DenotedView env0 q d e → TotalDom d env0 → (ns : List Text) (l : ℕ) (bs : Bound env0 q apart) →
      Total (structure q size_terms r d ns l no_exs) (M env0 q apart bs)
  pub guarded : (x y : Text) (env0 : Env) (q : ℕ → Text) (apart : (m l : ℕ) → l < m → same_text (q m) (q l) ≡ false) (r : Repr) (d : Dom)
      (e : Domain) → DenotedView env0 q d e → CoveredDom d → (ns : List Text) (l : ℕ) (bs : Bound env0 q apart) →
      Total (structure q size_terms r (total_dom x y d) ns l no_exs) (M env0 q apart bs)
  pub means : (x y : Text) (env0 : Env) (q : ℕ → Text) (apart : (m l : ℕ) → l < m → same_text (q m) (q l) ≡ false) (r : Repr) (d : Dom)
      (e : Domain) → JudgedView env0 q r d e → (ns : List Text) (ts : Tables) (l : ℕ) (bs : Bound env0 q apart) → length ns ≡ width r →
      FoundBy env0 q apart ns ts → over_axes [] (axes_of r e) ts ≡ true → TablesFit (declarations r e) ts →
      meaning (structure q size_terms r (total_dom x y d) ns l no_exs) (M env0 q apart bs) ≡ Some (truth (canonical r e (cells_of ts)))

-- The structure of a view spells no numbers but those of its domain, 0, 1 and 2; also with the domain's numbers under their conditions,
-- where its literals stand where types allow them.
pub record StructuresSpellConstants : Type 0 where
  pub own : (q : ℕ → Text) (r : Repr) (d : Dom) (ns : List Text) (l : ℕ) →
      among_constants (constants_of_tree (structure q size_terms r d ns l no_exs)) (pos 0 ∷ pos 1 ∷ pos 2 ∷ dom_constants d) ≡ true
  pub guarded : (x y : Text) (q : ℕ → Text) (r : Repr) (d : Dom) (ns : List Text) (l : ℕ) → DomLiteralsFit d →
      among_constants (constants_of_tree (structure q size_terms r (total_dom x y d) ns l no_exs)) (pos 0 ∷ pos 1 ∷ pos 2 ∷ dom_constants d)
      ≡ true

-- Tables that are found by their names, on the declared axes with items in the declared domains, meet the structures of the structure
-- itself: each of its views is tidy wherever its context holds, where they meet those of the domain, at the names that aren't reserved.
-- So they do with the numbers under their conditions.
pub record TablesMeetStructures : Type 0 where
  pub own : (env0 : Env) (q : ℕ → Text) (apart : (m l : ℕ) → l < m → same_text (q m) (q l) ≡ false) (r : Repr) (d : Dom) (e : Domain) →
      JudgedView env0 q r d e → MeetsDom d env0 → (ns : List Text) (ts : Tables) (l : ℕ) (bs : Bound env0 q apart) →
      length ns ≡ width r → FoundBy env0 q apart ns ts → over_axes [] (axes_of r e) ts ≡ true → TablesFit (declarations r e) ts →
      Meets (structure q size_terms r d ns l no_exs) (M env0 q apart bs)
  pub guarded : (x y : Text) (env0 : Env) (q : ℕ → Text) (apart : (m l : ℕ) → l < m → same_text (q m) (q l) ≡ false) (r : Repr) (d : Dom)
      (e : Domain) → JudgedView env0 q r d e → MeetsDom d env0 → (ns : List Text) (ts : Tables) (l : ℕ) (bs : Bound env0 q apart) →
      length ns ≡ width r → FoundBy env0 q apart ns ts → over_axes [] (axes_of r e) ts ≡ true → TablesFit (declarations r e) ts →
      Meets (structure q size_terms r (total_dom x y d) ns l no_exs) (M env0 q apart bs)

-- No cell and no view stands in the domain.
abbrev pub ReadsNoTable : Dom → Type 0
ReadsNoTable d = list_any is_cell_or_view (parts_of_dom d) ≡ false

-- Tables that are found by their names, on the declared axes with items in the declared domains, are full for the structure: whatever types
-- names have, each of its cells and views finds what it reads, wherever it stands, also under conditions that may fail; and no name over
-- items stands in an index list under it. The numbers of the domain read no table. So it is with the numbers under their conditions, where
-- these read none.
pub record TablesAreFull : Type 0 where
  pub own : (env0 : Env) (q : ℕ → Text) (apart : (m l : ℕ) → l < m → same_text (q m) (q l) ≡ false) (r : Repr) (d : Dom) (e : Domain) →
      JudgedView env0 q r d e → ReadsNoTable d → (ns : List Text) (ts : Tables) (l : ℕ) (bs : Bound env0 q apart) →
      length ns ≡ width r → FoundBy env0 q apart ns ts → over_axes [] (axes_of r e) ts ≡ true → TablesFit (declarations r e) ts →
      (g : Names Ty) → IsFullUnder (structure q size_terms r d ns l no_exs) g (M env0 q apart bs)
  pub guarded : (x y : Text) (env0 : Env) (q : ℕ → Text) (apart : (m l : ℕ) → l < m → same_text (q m) (q l) ≡ false) (r : Repr) (d : Dom)
      (e : Domain) → JudgedView env0 q r d e → ReadsNoTable (total_dom x y d) → (ns : List Text) (ts : Tables) (l : ℕ)
      (bs : Bound env0 q apart) → length ns ≡ width r → FoundBy env0 q apart ns ts → over_axes [] (axes_of r e) ts ≡ true →
      TablesFit (declarations r e) ts → (g : Names Ty) →
      IsFullUnder (structure q size_terms r (total_dom x y d) ns l no_exs) g (M env0 q apart bs)

-- The bounds and attribute values of a domain that is judged to be well typed, resolved, are whole numbers, under an env that gives names
-- values of their types: where the domain mentions no table, and the tuples of relation literals in it have parts, as in each text.
abbrev pub JudgedNumbersAreNumbers : Type 0
JudgedNumbersAreNumbers =
    (w t : Stm) (s : Scope) (d : Dom) (env : Env) → domain_in t ≡ Some d → meets ill_typed w t s ≡ true →
    every_dom (record asking { of_ex = relation_has_parts }) d s ≡ true → ReadsNoTable d → Typed s.tys env →
    NumbersIn (resolve_dom d s.tys) env

-- Literals stand where types allow them in the expression of a judged statement and in its domain, once they are resolved: none is a
-- Boolean, and in a fold or beside a lexicographic sign stand lists, sets and multisets alone.
pub record JudgedLiteralsFit : Type 0 where
  pub expressions : (w t : Stm) (s : Scope) (e : Ex) → expression_of t ≡ Some e → meets ill_typed w t s ≡ true →
      LiteralsFit false (resolve e s.tys)
  pub domains : (w t : Stm) (s : Scope) (d : Dom) → domain_in t ≡ Some d → meets ill_typed w t s ≡ true →
      DomLiteralsFit (resolve_dom d s.tys)
