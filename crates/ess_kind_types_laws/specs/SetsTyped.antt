-- Rules of views of sets that keep types and marks at their root, and what they ask of the types of tables and numbers, and of names.
use Rattle.std.specs.Prelude.{◌≡◌, Bool, true, false, not, [], ◌∷◌, Some, IsTrue}
use Rattle.std.specs.List.{list_all}
use Rattle.ess_semantics.specs.declared.words.ReprKind.{ReprKind}
use Rattle.ess_semantics.specs.Values.{Text}
use Rattle.ess_semantics.specs.Order.{same_text}
use Rattle.ess_semantics.specs.Names.{Names, look}
use Rattle.ess_semantics.specs.Trees.{repr, name_pat, Ex, Exs, comp_ex, cell_ex, seen_ex, no_exs, more_exs, ex1, fun1, Gens, from, Dom, Doms, bool_dom, int_dom, name_dom, tuple_dom, record_dom, matrix_dom, set_dom, mset_dom, function_dom, relation_dom, partition_dom, no_doms, more_doms}
use Rattle.ess_semantics.specs.Types.{Ty, int_ty, type_of_dom}
use Rattle.ess_semantics.specs.Typing.{number_cell_ty, type_of}
use Rattle.ess_semantics.specs.Meaning.{is_bool_dom}
use Rattle.ess_refine_laws.specs.TypesStay.{KeepsType}
use Rattle.ess_refine_laws.specs.MarksStay.{HasMarks}
use Rattle.ess_refine_laws.specs.AllRules.{Supply}
use Rattle.ess_refine_types_laws.specs.MarksOfContainers.{IsNewTo}
use Rattle.ess_rules_types_laws.specs.PutTypes.{TablesAre, IsSteady}
use Rattle.ess_kind_rules_laws.specs.KindRules.{KindRule, cell_of_an_atom, over_a_view, of_one_view, size_at_the_marker, size_of_slots, kind_rewrite}
use Rattle.ess_kind_sizes_laws.specs.SetRules.{is_of_sets}
use Rattle.ess_kind_sizes_laws.specs.ViewsBehind.{is_view_of_set, ViewBehind}

-- ---- numbers and tables

-- Each of these is an int.
abbrev pub AllInts : Names Ty → Exs → Type 0
AllInts g no_exs = Unit {0}
AllInts g (more_exs e es) = (type_of e g ≡ Some int_ty) × AllInts g es

abbrev mutual
  -- Each bound and attribute value of the domain is an int, at each depth. Those of judged domains agree with ints: it leaves out items
  -- of an empty literal.
  pub IntsIn : Names Ty → Dom → Type 0
  IntsIn g bool_dom = Unit {0}
  IntsIn g (int_dom rs es) = AllInts g es
  IntsIn g (name_dom a) = Unit {0}
  IntsIn g (tuple_dom ds) = AllIntsIn g ds
  IntsIn g (record_dom fs ds) = AllIntsIn g ds
  IntsIn g (matrix_dom is d) = AllIntsIn g is × IntsIn g d
  IntsIn g (set_dom ms es d) = AllInts g es × IntsIn g d
  IntsIn g (mset_dom ms es d) = AllInts g es × IntsIn g d
  IntsIn g (function_dom ms es d c) = AllInts g es × IntsIn g d × IntsIn g c
  IntsIn g (relation_dom ms es ds) = AllInts g es × AllIntsIn g ds
  IntsIn g (partition_dom ms es d) = AllInts g es × IntsIn g d

  -- The same of several domains.
  pub AllIntsIn : Names Ty → Doms → Type 0
  AllIntsIn g no_doms = Unit {0}
  AllIntsIn g (more_doms d ds) = IntsIn g d × AllIntsIn g ds

-- So it is of the domain of a view.
abbrev pub SeenInts : Names Ty → Ex → Type 0
SeenInts g (seen_ex r d ns js) = IntsIn g d
SeenInts g e = Unit {0}

-- The cells of an atom's view have its type: its table stands among the types of names with the named type of what its cells hold, if they
-- hold one's values.
abbrev pub CellTyped : Names Ty → Ex → Type 0
CellTyped g (seen_ex r d (n ∷ []) js) = type_of (cell_ex (is_bool_dom d) n js) g ≡ Some (type_of_dom d)
CellTyped g e = Unit {0}

-- The cells of a marker are ints, and so are those of slots with a dummy.
abbrev pub OwnTyped : Names Ty → Ex → Type 0
OwnTyped g (seen_ex (repr ReprKind.ExplicitVarSizeWithMarker rs) d (m ∷ ns) js) = number_cell_ty (look g m) ≡ int_ty
OwnTyped g (seen_ex (repr ReprKind.ExplicitVarSizeWithDummy rs) d (t ∷ ns) js) = number_cell_ty (look g t) ≡ int_ty
OwnTyped g e = Unit {0}

-- Whether the view has no table of this name.
abbrev pub has_no_table : Text → Ex → Bool
has_no_table x (seen_ex r d ns js) = list_all (λ n. not (same_text x n)) ns
has_no_table x e = true

-- ---- what rules ask

-- Names of tables are in scope, and none is bound behind the view, is its name, or the new one.
abbrev pub TablesApart : (Text → Bool) → (Text → Bool) → (Text → Bool) → Text → Text → Type 0
TablesApart tables scope bound x y =
    (n : Text) → IsTrue (tables n) → (scope n ≡ true) × (bound n ≡ false) × (same_text x n ≡ false) × (same_text y n ≡ false)

-- What a fold over a view t of a set asks, where e and hs stand behind the view.
pub record FoldTyped (s : Supply) (g : Names Ty) (y : Text) (t e : Ex) (hs : Gens) : Type 0 where
  pub used : Text → Bool
  pub scope : Text → Bool
  pub bound : Text → Bool
  pub tables : Text → Bool
  pub view : is_view_of_set t ≡ true
  pub names : ViewBehind used scope bound s.one y t e hs
  pub apart : TablesApart tables scope bound s.one y
  pub behind : TablesAre tables (comp_ex e hs)
  pub source : TablesAre tables t
  pub new : IsNewTo s.one t
  pub new_table : has_no_table s.one t ≡ true
  pub own : OwnTyped g t
  pub ints : SeenInts g t

-- What each rule asks. Resolved trees with marks are steady.
abbrev pub SetsTyped : Supply → Names Ty → KindRule → Ex → Type 0
SetsTyped s g cell_of_an_atom e = CellTyped g e
SetsTyped s g over_a_view (fun1 m w (comp_ex e (from (name_pat y) t hs))) =
    FoldTyped s g y t e hs × IsSteady (fun1 m w (comp_ex e (from (name_pat y) t hs))) g
SetsTyped s g of_one_view (fun1 m w (comp_ex e (from (name_pat y) t hs))) =
    FoldTyped s g y t e hs × IsSteady (fun1 m w (comp_ex e (from (name_pat y) t hs))) g
SetsTyped s g size_at_the_marker (ex1 b o v) = OwnTyped g v
SetsTyped s g size_of_slots (ex1 b o v) = (is_view_of_set v ≡ true) × SeenInts g v
SetsTyped s g r e = Unit {0}

-- ---- what is said

-- So each of these rules keeps the type where it fires.
abbrev pub SetRulesKeepTypes : Type 0
SetRulesKeepTypes = (s : Supply) (g : Names Ty) (r : KindRule) (e f : Ex) → kind_rewrite s g r e ≡ Some f → is_of_sets r ≡ true →
    SetsTyped s g r e → KeepsType g e f

-- And marks, where what it rewrites has a type.
abbrev pub SetRulesKeepMarks : Type 0
SetRulesKeepMarks = (s : Supply) (g : Names Ty) (r : KindRule) (e f : Ex) → kind_rewrite s g r e ≡ Some f → is_of_sets r ≡ true →
    SetsTyped s g r e → (t : Ty) → type_of e g ≡ Some t → HasMarks e g → HasMarks f g
