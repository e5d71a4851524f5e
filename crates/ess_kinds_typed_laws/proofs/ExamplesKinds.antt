-- Worked examples: why rules of kinds ask what they ask. A relation without components has the type of one of unknown arity, so everything
-- may be asked of it, and parts of a partition of such relations take the type of a term; and numbers in a table of a named type can't be
-- compared.
use Rattle.std.proofs.Common.{◌≡◌, refl, true, false, [], ◌∷◌, pos, Some, None}
use Rattle.std.specs.Prelude.{codes}
use Rattle.ess_semantics.specs.declared.words.Fun.{Fun}
use Rattle.ess_semantics.specs.declared.words.Op1.{Op1}
use Rattle.ess_semantics.specs.declared.words.Op2.{Op2}
use Rattle.ess_semantics.specs.declared.words.ReprKind.{ReprKind}
use Rattle.ess_semantics.specs.Trees.{Ex, repr, no_reprs, more_reprs, number_ex, set_dom, mset_dom, name_pat, comp_ex, fun1, no_exs, no_doms, tuple_dom, relation_dom, no_gens, over, ex1, name_dom, ex2, seen_ex}
use Rattle.ess_semantics.specs.Types.{no_tys, compound, int_ty, compound1, types_of_doms, any_ty, bool_ty, named_ty, is_open}
use Rattle.ess_semantics.specs.Typing.{type_of}
use Rattle.ess_semantics.specs.Values.{Text, a_set, a_relation}
use Rattle.ess_views_laws.specs.ChildViews.{asked_of_child}
use Rattle.ess_views_laws.specs.MultisetViews.{number_at, multiset_size}
use Rattle.ess_kinds_typed_laws.specs.KindsTyped.{is_whole}

abbrev cells : Text
cells = codes "m"

abbrev colour : Text
colour = codes "colour"

-- ---- whole types

of_ints : is_whole (compound1 a_set int_ty) ≡ true
of_ints = refl

of_anything : is_whole (compound1 a_set any_ty) ≡ false
of_anything = refl

of_no_components : is_whole (compound a_relation no_tys) ≡ false
of_no_components = refl

-- ---- a relation without components, as the set of its tuples

abbrev no_components : Ex
no_components =
    seen_ex (repr ReprKind.RelationAsSet (more_reprs (repr ReprKind.Occurrence no_reprs) no_reprs)) (relation_dom [] no_exs no_doms)
    (cells ∷ []) no_exs

abbrev its_child : Ex
its_child =
    seen_ex (repr ReprKind.Occurrence no_reprs) (set_dom [] no_exs (tuple_dom no_doms)) (cells ∷ []) no_exs

abbrev asks : Ex → Ex
asks v = ex2 true Op2.Member (number_ex (pos 1)) v

asked : asked_of_child (asks no_components) ≡ Some (asks its_child)
asked = refl

-- `1 in r` has a type, and `1 in` the set of tuples has none.
its_type : type_of (asks no_components) [] ≡ Some bool_ty
its_type = refl

of_the_child : type_of (asks its_child) [] ≡ None
of_the_child = refl

not_kept : is_open a_relation (types_of_doms no_doms) ≡ true
not_kept = refl

-- ---- numbers in a table of a named type

abbrev colours : Ex
colours = seen_ex (repr ReprKind.MSetOccurrence no_reprs) (mset_dom [] no_exs (name_dom colour)) (cells ∷ []) no_exs

abbrev how_many : Ex
how_many = fun1 false Fun.Sum (comp_ex (number_at cells no_exs (codes "x")) (over (name_pat (codes "x")) (name_dom colour) no_gens))

the_size : multiset_size (codes "x") (number_ex (pos 3)) (ex1 false Op1.Bar colours) ≡ Some how_many
the_size = refl

-- Over ints the sum is an int, and over a table of a named type it has no type.
of_numbers : type_of how_many [] ≡ Some int_ty
of_numbers = refl

of_names : type_of how_many ((cells, named_ty colour) ∷ []) ≡ None
of_names = refl
