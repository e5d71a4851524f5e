-- Options that keep each set by which members occur choose what is chosen where no option is named.
use Rattle.std.proofs.Common.{◌≡◌, refl, sym, ap, ◌∙◌, subst, Bool, true, List, [], ◌∷◌, map, codes, None}
use Rattle.std.specs.List.{list_all}
use Rattle.ess_semantics.specs.Lists.{append_all}
use Rattle.ess_semantics.specs.Values.{Text}
use Rattle.ess_semantics.specs.Names.{Names}
use Rattle.ess_semantics.specs.Trees.{Dom, Repr}
use Rattle.ess_semantics.specs.Judgements.{fault}
use Rattle.ess_semantics.specs.Prepared.{prepared}
use Rattle.ess_semantics.specs.Parameters.{all_declared}
use Rattle.ess_semantics.specs.Plans.{Options, chosen_reprs, domain_of_stm, kept_names, all_chosen, plans}
use Rattle.ess_semantics.specs.ModelTrees.{header_of}
use Rattle.ess_semantics.proofs.Tests.{and-left, and-right}
use Rattle.ess_translate_tables_laws.proofs.DistinctNames.{distinct-names}
use Rattle.ess_translate_tables_laws.proofs.ChosenAgain.{Alike, all-alike, plans-alike}
use Rattle.conjure_laws.proofs.SetScopes.{prepared-itself}
use Rattle.conjure_laws.specs.SetsOfAtoms.{Atom, range, boolean, typed, Line, enum, given_type, unnamed, set_find, holds_lit, sets_of, spec}
use Rattle.conjure_laws.specs.ModelsOfSets.{no_options}
use Rattle.ess_member_headers_laws.specs.KeptSets.{is_occurrence_alone, are_kept_by_occurrence}
use Rattle.ess_member_headers_laws.specs.Laws.{KeptAreChosen}
use Rattle.ess_member_headers_laws.proofs.ChosenSets.{Occ, alone-is, chosen_of, found_in}

-- Options that choose alike have the same representations.
alike-all : (p o : Options) (xs : Names Dom) → Alike p o xs → chosen_of p xs ≡ chosen_of o xs
alike-all p o [] a = refl
alike-all p o (x ∷ xs) a =
    ap (λ rs. (x.0, rs) ∷ chosen_of p xs) a.0 ∙ ap (λ l. (x.0, chosen_reprs o x.0 x.1) ∷ l) (alike-all p o xs a.1)

-- Where no option is named a set is kept so.
default-kept : (x : Text) (A : Atom) → chosen_reprs no_options x (sets_of A) ≡ Occ ∷ []
default-kept x (range a b) = refl
default-kept x boolean = refl
default-kept x (typed t) = refl

none-kept : (T : List Line) → list_all (λ c. is_occurrence_alone c.1) (chosen_of no_options (found_in T)) ≡ true
none-kept [] = refl
none-kept (enum t ns ∷ T) = none-kept T
none-kept (given_type t ∷ T) = none-kept T
none-kept (unnamed t n ∷ T) = none-kept T
none-kept (holds_lit l x ∷ T) = none-kept T
none-kept (set_find x (range a b) ∷ T) = none-kept T
none-kept (set_find x boolean ∷ T) = none-kept T
none-kept (set_find x (typed t) ∷ T) = none-kept T

kept-alike : (o : Options) (T : List Line) → list_all (λ c. is_occurrence_alone c.1) (chosen_of o (found_in T)) ≡ true →
    Alike o no_options (found_in T)
kept-alike o [] h = tt
kept-alike o (enum t ns ∷ T) h = kept-alike o T h
kept-alike o (given_type t ∷ T) h = kept-alike o T h
kept-alike o (unnamed t n ∷ T) h = kept-alike o T h
kept-alike o (holds_lit l x ∷ T) h = kept-alike o T h
kept-alike o (set_find x A ∷ T) h =
    let rs : List Repr = chosen_reprs o x (sets_of A) in
    let rest : Bool = list_all (λ c. is_occurrence_alone c.1) (chosen_of o (found_in T)) in (
      alone-is rs (and-left (is_occurrence_alone rs) rest h) ∙ sym (default-kept x A),
      kept-alike o T (and-right (is_occurrence_alone rs) rest h),
    )

module _ (T : List Line) (o : Options) (h : are_kept_by_occurrence (spec T) o ≡ true) where
  alike : Alike o no_options (kept_names (spec T))
  alike = subst (λ S. Alike o no_options (append_all (map domain_of_stm S))) (sym (prepared-itself T))
      (kept-alike o T (subst (λ S. list_all (λ c. is_occurrence_alone c.1) (chosen_of o (append_all (map domain_of_stm S))) ≡ true)
      (prepared-itself T) h))

  plans-are : plans (spec T) o ≡ plans (spec T) no_options
  plans-are = plans-alike (prepared (spec T)) o no_options (all_declared (spec T)) (codes "alldifferent_except" ∷ []) alike

  header-is : header_of (spec T) o ≡ header_of (spec T) no_options
  header-is = ap (λ l. record { statements = (header_of (spec T) o).statements; reprs = l })
      (alike-all o no_options (kept_names (spec T)) alike)

  chosen-kept : fault (spec T) ≡ None → are_kept_by_occurrence (spec T) (all_chosen (spec T) o) ≡ true
  chosen-kept t =
      ap (list_all (λ c. is_occurrence_alone c.1)) (alike-all (all_chosen (spec T) o) o (kept_names (spec T))
      (all-alike o (kept_names (spec T)) (distinct-names (spec T) t))) ∙ h

-- So all of it stands.
pub kept-are-chosen : KeptAreChosen
kept-are-chosen = record {
  kept = λ T. subst (λ S. list_all (λ c. is_occurrence_alone c.1) (chosen_of no_options (append_all (map domain_of_stm S))) ≡ true)
      (sym (prepared-itself T)) (none-kept T);
  same_plans = plans-are;
  same_header = header-is;
  chosen = λ T o t h. chosen-kept T o h t;
}
