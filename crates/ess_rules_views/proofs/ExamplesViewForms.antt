-- Worked examples: the parts of views that have a form, and the indices of arguments and members.
use Rattle.std.proofs.Common.{◌≡◌, refl, true, false, [], ◌∷◌, Some, None}
use Rattle.ess_semantics.specs.declared.words.Op1.{Op1}
use Rattle.ess_semantics.specs.declared.words.ReprKind.{ReprKind}
use Rattle.ess_semantics.specs.Values.{Text}
use Rattle.ess_semantics.specs.Trees.{tuple_literal, Repr, repr, no_reprs, more_reprs, Ex, name_ex, cell_ex}
use Rattle.ess_semantics.specs.Trees.{node_ex, seen_ex, ex1, no_exs, more_exs, Dom, bool_dom, tuple_dom, set_dom, function_dom, no_doms}
use Rattle.ess_rules_laws.specs.FunctionViews.{flag_at}
use Rattle.ess_rules_views.specs.ViewForms.{leaf_kind, one_child, a_size, one_table, in_slots}
use Rattle.ess_rules_views.specs.ViewForms.{total_keys, partial_keys, member_keys}
use Rattle.ess_rules_views.specs.ViewRules.{atom_where, is_total_kind, flag_in, marker_where, slots_where}

abbrev pub t : Text
t = 116 ∷ []

abbrev pub a : Ex
a = name_ex (97 ∷ [])

abbrev pub b : Ex
b = name_ex (98 ∷ [])

abbrev pub atom : Repr
atom = repr ReprKind.Atom no_reprs

abbrev pub pair : Ex
pair = node_ex false tuple_literal (more_exs a (more_exs b no_exs))

abbrev pub bools : Dom
bools = set_dom [] no_exs bool_dom

abbrev pub to_bools : Dom
to_bools = function_dom [] no_exs bool_dom bool_dom

-- An atom's view is over one table; with a second one it is none.
pub an_atom : one_table (seen_ex atom bool_dom (t ∷ []) no_exs)
    ≡ Some (record { kind = ReprKind.Atom; dom = bool_dom; table = t; at = no_exs })
an_atom = refl

pub two_tables : one_table (seen_ex atom bool_dom (t ∷ t ∷ []) no_exs) ≡ None
two_tables = refl

pub an_atoms_cell : atom_where ReprKind.Atom bool_dom t no_exs ≡ Some (cell_ex true t no_exs)
an_atoms_cell = refl

pub no_atom : atom_where ReprKind.Occurrence bools t no_exs ≡ None
no_atom = refl

-- A representation with one child, and one without.
pub a_child : one_child (repr ReprKind.Explicit (more_reprs atom no_reprs)) ≡ Some (ReprKind.Explicit, atom)
a_child = refl

pub no_child : one_child atom ≡ None
no_child = refl

pub two_children : leaf_kind (repr ReprKind.Tuple (more_reprs atom (more_reprs atom no_reprs))) ≡ None
two_children = refl

-- A set in slots; a function isn't one.
pub a_set : in_slots (seen_ex (repr ReprKind.Explicit (more_reprs atom no_reprs)) bools (t ∷ []) no_exs)
    ≡ Some (record { kind = ReprKind.Explicit; cells = t ∷ []; at = no_exs })
a_set = refl

pub no_set : in_slots (seen_ex (repr ReprKind.Function1D (more_reprs atom no_reprs)) to_bools (t ∷ []) no_exs) ≡ None
no_set = refl

pub sized : a_size (ex1 false Op1.Bar a) ≡ Some a
sized = refl

pub negative : a_size (ex1 false Op1.Minus a) ≡ None
negative = refl

-- Of an atom the index is itself, of a tuple these are its items; a tuple that isn't written as a literal has none.
pub atom_key : total_keys ReprKind.Function1D bool_dom a ≡ Some (more_exs a no_exs)
atom_key = refl

pub tuple_key : total_keys ReprKind.FunctionND (tuple_dom no_doms) pair ≡ Some (more_exs a (more_exs b no_exs))
tuple_key = refl

pub no_literal : total_keys ReprKind.FunctionND (tuple_dom no_doms) a ≡ None
no_literal = refl

pub with_flags : total_keys ReprKind.Function1DPartial bool_dom a ≡ None
with_flags = refl

pub flag_key : partial_keys ReprKind.Function1DPartial bool_dom a ≡ Some (more_exs a no_exs)
flag_key = refl

pub member_key : member_keys ReprKind.Occurrence bools a ≡ Some (more_exs a no_exs)
member_key = refl

pub total : is_total_kind ReprKind.FunctionND bool_dom ≡ false
total = refl

-- The first table holds the flags; of a marker too.
pub first_flag : flag_in (t ∷ []) (more_exs a no_exs) (more_exs b no_exs) ≡ Some (flag_at t (more_exs a no_exs) (more_exs b no_exs))
first_flag = refl

pub no_flag : flag_in [] no_exs no_exs ≡ None
no_flag = refl

pub a_marker : marker_where ReprKind.ExplicitVarSizeWithMarker (t ∷ []) (more_exs a no_exs) ≡ Some (cell_ex false t (more_exs a no_exs))
a_marker = refl

pub no_marker : marker_where ReprKind.Explicit (t ∷ []) no_exs ≡ None
no_marker = refl

pub all_slots : slots_where ReprKind.Explicit a ≡ Some a
all_slots = refl

pub some_slots : slots_where ReprKind.ExplicitVarSizeWithMarker a ≡ None
some_slots = refl
