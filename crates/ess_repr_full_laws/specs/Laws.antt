-- The law of full tables for structures of views whose domains read tables, as those of finds read the cells of givens.
use Rattle.std.specs.Prelude.{◌≡◌, ℕ, ◌<◌, ◌≤◌, true, false, List, [], ◌∷◌, length}
use Rattle.ess_semantics.specs.Values.{Text, Value}
use Rattle.ess_semantics.specs.Order.{same_text}
use Rattle.ess_semantics.specs.Trees.{Repr, seen_ex, no_exs, Dom}
use Rattle.ess_semantics.specs.Domains.{Domain}
use Rattle.ess_semantics.specs.Tables.{Tables}
use Rattle.ess_semantics.specs.Representations.{width}
use Rattle.ess_semantics.specs.Declarations.{declarations, axes_of}
use Rattle.ess_semantics.specs.Tidy.{over_axes}
use Rattle.ess_semantics.specs.Meaning.{Env}
use Rattle.ess_semantics.specs.Names.{Names}
use Rattle.ess_semantics.specs.Types.{Ty}
use Rattle.ess_semantics.specs.FreeNames.{FreeNamesAreDom}
use Rattle.ess_semantics.specs.Full.{index_is_free, Full, FullDom}
use Rattle.ess_semantics.specs.Occurrences.{parts_of_dom}
use Rattle.std.specs.List.{list_all}
use Rattle.ess_repr_laws.specs.CanonicalTables.{TablesFit}
use Rattle.ess_repr_laws.specs.Structure.{structure}
use Rattle.ess_repr_laws.specs.StructureMeaning.{Bound, M, FoundBy}
use Rattle.ess_repr_declare_laws.specs.SizeTerms.{size_terms}
use Rattle.ess_repr_structure_laws.specs.FreeIndices.{is_free_under, indices_are_free_under}
use Rattle.ess_repr_structure_laws.specs.Laws.{JudgedView, ReadsNoTable}
use Rattle.ess_repr_structure_laws.specs.TotalNumbers.{total_dom}

-- The tables of the env are full for the domain, whatever values and types names have. So they are where the domain has no free names and
-- they are full for it, as for the cells of givens that a find's bounds read; and where it reads no table.
pub record FullBelow (env0 : Env) (d : Dom) : Type 0 where
  pub at : (g : Names Ty) (vals : Names Value) → FullDom d g (record env0 { vals = vals })

-- In the domain no name over items stands in an index list under it, and no reserved name from q l on stands in one. So where its bound
-- names are told apart with reserved names below these.
pub record QuietBelow (q : ℕ → Text) (l : ℕ) (d : Dom) : Type 0 where
  pub free : list_all is_free_under (parts_of_dom d) ≡ true
  pub quiet : (m : ℕ) → l ≤ m → list_all (index_is_free (q m ∷ [])) (parts_of_dom d) ≡ true

-- No name is free in the domain.
abbrev pub HasNoFreeNames : Dom → Type 0
HasNoFreeNames d = FreeNamesAreDom (λ a. false) d

-- Tables that are found by their names, on the declared axes with items in the declared domains, are full for the structure, where the
-- tables of the env are full for the view's domain. So it is with the numbers under their conditions. A domain that reads no table is
-- such, and so is one without free names for which the tables of the env are full. So tables that are full for a view of it are full for
-- its structure.
pub record TablesAreFullBelow : Type 0 where
  pub own : (env0 : Env) (q : ℕ → Text) (apart : (m l : ℕ) → l < m → same_text (q m) (q l) ≡ false) (r : Repr) (d : Dom) (e : Domain) →
      JudgedView env0 q r d e → FullBelow env0 d → (ns : List Text) (ts : Tables) (l : ℕ) (bs : Bound env0 q apart) →
      length ns ≡ width r → FoundBy env0 q apart ns ts → over_axes [] (axes_of r e) ts ≡ true → TablesFit (declarations r e) ts →
      (g : Names Ty) → Full (structure q size_terms r d ns l no_exs) g (M env0 q apart bs)
  pub guarded : (x y : Text) (env0 : Env) (q : ℕ → Text) (apart : (m l : ℕ) → l < m → same_text (q m) (q l) ≡ false) (r : Repr) (d : Dom)
      (e : Domain) → JudgedView env0 q r d e → FullBelow env0 (total_dom x y d) → (ns : List Text) (ts : Tables) (l : ℕ)
      (bs : Bound env0 q apart) → length ns ≡ width r → FoundBy env0 q apart ns ts → over_axes [] (axes_of r e) ts ≡ true →
      TablesFit (declarations r e) ts → (g : Names Ty) → Full (structure q size_terms r (total_dom x y d) ns l no_exs) g (M env0 q apart bs)
  pub indices : (q : ℕ → Text) (apart : (m l : ℕ) → l < m → same_text (q m) (q l) ≡ false) (r : Repr) (d : Dom) (ns : List Text) (l : ℕ) →
      QuietBelow q l d → indices_are_free_under (structure q size_terms r d ns l no_exs) ≡ true
  pub plain : (env0 : Env) (d : Dom) → ReadsNoTable d → FullBelow env0 d
  pub closed : (env0 : Env) (d : Dom) → HasNoFreeNames d → ((g : Names Ty) → FullDom d g env0) → FullBelow env0 d
  pub view : (env0 : Env) (q : ℕ → Text) (apart : (m l : ℕ) → l < m → same_text (q m) (q l) ≡ false) (r : Repr) (d : Dom) (e : Domain) →
      JudgedView env0 q r d e → HasNoFreeNames d → (ns : List Text) (ts : Tables) (l : ℕ) (bs : Bound env0 q apart) →
      length ns ≡ width r → FoundBy env0 q apart ns ts → over_axes [] (axes_of r e) ts ≡ true → TablesFit (declarations r e) ts →
      ((g : Names Ty) → Full (seen_ex r d ns no_exs) g env0) →
      (g : Names Ty) → Full (structure q size_terms r d ns l no_exs) g (M env0 q apart bs)
