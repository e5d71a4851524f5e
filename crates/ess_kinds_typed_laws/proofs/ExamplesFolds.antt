-- Worked example: what a fold over the view of a matrix asks is met, so the fold over the cells has its type.
use Rattle.std.proofs.Common.{◌≡◌, refl, Bool, false, [], ◌∷◌, Some, ◌||◌}
use Rattle.std.specs.Prelude.{codes, IsTrue}
use Rattle.ess_semantics.specs.declared.words.Fun.{Fun}
use Rattle.ess_semantics.specs.declared.words.ReprKind.{ReprKind}
use Rattle.ess_semantics.specs.Order.{same_text}
use Rattle.ess_semantics.specs.Trees.{Ex, name_ex, repr, no_reprs, more_reprs, more_doms, name_pat, comp_ex, fun1, no_exs, more_exs, no_doms, matrix_dom, no_gens, over, bool_dom, seen_ex, from}
use Rattle.ess_semantics.specs.Types.{int_ty}
use Rattle.ess_semantics.specs.Typing.{type_of}
use Rattle.ess_semantics.specs.Values.{Text}
use Rattle.ess_semantics.proofs.Shorthands.{upto}
use Rattle.ess_kind_rules_laws.specs.KindRules.{over_a_view, kind_rewrite}
use Rattle.ess_refine_laws.specs.AllRules.{Supply}
use Rattle.ess_rules_laws.specs.SourceRules.{list_of}
use Rattle.ess_kinds_typed_laws.proofs.FoldsKeepTypes.{folds-keep-types}
use Rattle.ess_kinds_typed_laws.specs.FoldsTyped.{SourceTyped, FoldsTyped}

abbrev cells : Text
cells = codes "m"

abbrev item : Text
item = codes "y"

abbrev first_new : Text
first_new = codes "q1"

-- The names that are supplied.
abbrev supplied : Supply
supplied = record {
  one = first_new;
  other = codes "q2";
  third = codes "q3";
  parts = [];
  index_domain = λ e. bool_dom;
  copy = λ e. e;
}

-- A matrix of ints, over `int(1..3)`, kept in the table m.
abbrev numbers_seen : Ex
numbers_seen =
    seen_ex (repr ReprKind.Matrix (more_reprs (repr ReprKind.Atom no_reprs) no_reprs)) (matrix_dom (more_doms (upto 3) no_doms) (upto 9))
    (cells ∷ []) no_exs

-- `sum([y | y <- m])`.
abbrev total : Ex
total = fun1 false Fun.Sum (comp_ex (name_ex item) (from (name_pat item) numbers_seen no_gens))

-- `sum([m at q1 | q1 : int(1..3)])`, as one part.
abbrev over_cells : Ex
over_cells =
    fun1 false Fun.Sum (list_of (more_exs (fun1 false Fun.Sum (comp_ex (seen_ex (repr ReprKind.Atom no_reprs) (upto 9) (cells ∷ [])
    (more_exs (name_ex first_new) no_exs)) (over (name_pat first_new) (upto 3) no_gens))) no_exs))

rewritten : kind_rewrite supplied [] over_a_view total ≡ Some over_cells
rewritten = refl

-- The new names are q1 and q2.
abbrev is_new : Text → Bool
is_new a = same_text first_new a || same_text (codes "q2") a

source_met : SourceTyped supplied [] numbers_seen
source_met = record {
  fresh = is_new;
  one = refl;
  other = refl;
  parts = refl;
  differ = refl;
  told = ((((tt, (tt, tt)), tt), (tt, (tt, tt))), tt);
  tables_told = refl;
  numbers = tt;
  ints = (((refl, (refl, tt)), tt), (refl, (refl, tt)));
  columns = tt;
}

no-table : {A : Type 0} → IsTrue false → A
no-table h = cc

fold_met : FoldsTyped supplied [] total
fold_met = (
  record {
    bound = λ a. same_text first_new a;
    scope = λ a. same_text item a || same_text first_new a;
    tables = λ a. false;
    no_set = refl;
    apart = (refl, ((tt, (tt, tt)), (refl, tt)), (refl, (tt, (tt, tt)), tt), tt, refl);
    fit = λ n h. no-table h;
    behind = (tt, tt);
    source = ((((tt, (tt, tt)), tt), (tt, (tt, tt))), tt);
    typed = source_met;
  },
  (refl, (((((((tt, (tt, tt)), tt), (tt, (tt, tt))), tt), tt), tt), tt)),
)

-- So the new fold is an int as the old one.
kept : type_of over_cells [] ≡ Some int_ty
kept = folds-keep-types supplied [] over_a_view total over_cells rewritten refl fold_met int_ty refl
