-- Folds over views of matrices, multisets, functions, relations and partitions keep types and marks at their root, and what they ask.
use Rattle.std.specs.List.{list_all}
use Rattle.std.specs.Prelude.{◌≡◌, true, false, ◌∷◌, Bool, Some, not}
use Rattle.ess_semantics.specs.declared.words.ReprKind.{ReprKind}
use Rattle.ess_semantics.specs.Names.{look, Names}
use Rattle.ess_semantics.specs.Order.{same_text}
use Rattle.ess_semantics.specs.Trees.{Ex, repr, mset_dom, name_pat, comp_ex, fun1, relation_dom, Gens, seen_ex, from}
use Rattle.ess_semantics.specs.Types.{Ty, int_ty, types_of_doms, is_open}
use Rattle.ess_semantics.specs.Typing.{type_of, number_cell_ty}
use Rattle.ess_semantics.specs.Values.{Text, a_relation}
use Rattle.ess_kind_rules_laws.specs.KindRules.{KindRule, over_a_view, of_one_view, kind_rewrite}
use Rattle.ess_kind_rules_laws.specs.ViewListings.{view_listing}
use Rattle.ess_kind_sizes_laws.specs.ViewsBehind.{is_view_of_set}
use Rattle.ess_kind_types_laws.specs.SetsTyped.{SeenInts}
use Rattle.ess_refine_laws.specs.AllRules.{Supply, OfSome}
use Rattle.ess_refine_laws.specs.MarksStay.{HasMarks}
use Rattle.ess_refine_laws.specs.TypesStay.{KeepsType}
use Rattle.ess_refine_types_laws.specs.MarksOfContainers.{UsesNames}
use Rattle.ess_rules_laws.specs.ListedSources.{PutApart}
use Rattle.ess_rules_types_laws.specs.PutTypes.{TablesAre, IsSteady}
use Rattle.ess_rules_types_laws.specs.TypesOfSources.{TablesFit}

-- Rules of folds over views.
abbrev pub is_fold_of_a_view : KindRule → Bool
is_fold_of_a_view over_a_view = true
is_fold_of_a_view of_one_view = true
is_fold_of_a_view r = false

-- The view of which a fold takes the members once, else the expression itself.
abbrev pub seen_within : Ex → Ex
seen_within (fun1 b w v) = v
seen_within e = e

-- No table of the view has such a name.
abbrev pub are_no_tables : (Text → Bool) → Ex → Bool
are_no_tables u (seen_ex r d ns js) = list_all (λ n. not (u n)) ns
are_no_tables u e = true

-- The tables of numbers of multisets and of partitions hold ints.
abbrev pub NumbersTyped : Names Ty → Ex → Type 0
NumbersTyped g (seen_ex r (mset_dom ms es d) (n ∷ ns) js) = number_cell_ty (look g n) ≡ int_ty
NumbersTyped g (seen_ex (repr ReprKind.PartitionOccurrence rs) d (n ∷ ns) js) = number_cell_ty (look g n) ≡ int_ty
NumbersTyped g e = Unit {0}

-- A relation has a component: the type of one without is that of a relation of unknown arity.
abbrev pub HasColumns : Ex → Type 0
HasColumns (seen_ex r (relation_dom ms es ds) ns js) = is_open a_relation (types_of_doms ds) ≡ false
HasColumns e = Unit {0}

-- What is asked of a source t that is a view: the new names, which are those of fresh, are none of its names and of its tables.
pub record SourceTyped (s : Supply) (g : Names Ty) (t : Ex) : Type 0 where
  pub fresh : Text → Bool
  pub one : fresh s.one ≡ true
  pub other : fresh s.other ≡ true
  pub parts : list_all fresh s.parts ≡ true
  pub differ : same_text s.other s.one ≡ false
  pub told : UsesNames (λ a. not (fresh a)) t
  pub tables_told : are_no_tables fresh (seen_within t) ≡ true
  pub numbers : NumbersTyped g (seen_within t)
  pub ints : SeenInts g (seen_within t)
  pub columns : HasColumns t

-- What a fold over it asks, where e and hs stand behind it: names of what is offered are apart. Views of sets are of a law of their own.
pub record FoldOffered (s : Supply) (g : Names Ty) (y : Text) (t e : Ex) (hs : Gens) : Type 0 where
  pub bound : Text → Bool
  pub scope : Text → Bool
  pub tables : Text → Bool
  pub no_set : is_view_of_set t ≡ false
  pub apart : OfSome (view_listing s.one s.other s.parts t) (PutApart bound scope y e hs)
  pub fit : TablesFit tables bound scope y
  pub behind : TablesAre tables (comp_ex e hs)
  pub source : TablesAre tables t
  pub typed : SourceTyped s g t

-- So it is of a fold. Resolved trees with marks are steady.
abbrev pub FoldsTyped : Supply → Names Ty → Ex → Type 0
FoldsTyped s g (fun1 m w (comp_ex e (from (name_pat y) t hs))) =
    FoldOffered s g y t e hs × IsSteady (fun1 m w (comp_ex e (from (name_pat y) t hs))) g
FoldsTyped s g e = Unit {0}

-- ---- what is said

-- So folds over views keep the type where they fire.
abbrev pub FoldsKeepTypes : Type 0
FoldsKeepTypes = (s : Supply) (g : Names Ty) (r : KindRule) (e f : Ex) → kind_rewrite s g r e ≡ Some f → is_fold_of_a_view r ≡ true →
    FoldsTyped s g e → KeepsType g e f

-- And marks, where what they rewrite has a type.
abbrev pub FoldsKeepMarks : Type 0
FoldsKeepMarks = (s : Supply) (g : Names Ty) (r : KindRule) (e f : Ex) → kind_rewrite s g r e ≡ Some f → is_fold_of_a_view r ≡ true →
    FoldsTyped s g e → (t : Ty) → type_of e g ≡ Some t → HasMarks e g → HasMarks f g
