-- What the rules of views make of the parts of a view.
use Rattle.std.specs.Prelude.{Bool, true, false, List, [], ◌∷◌, Option, Some, None}
use Rattle.ess_semantics.specs.declared.words.ReprKind.{ReprKind}
use Rattle.ess_semantics.specs.Values.{Text}
use Rattle.ess_semantics.specs.Trees.{Ex, Exs, cell_ex, Dom, tuple_dom}
use Rattle.ess_semantics.specs.Lists.{and_then}
use Rattle.ess_semantics.specs.Meaning.{is_bool_dom}
use Rattle.ess_rules_laws.specs.FunctionViews.{by_name, flag_at, total_result, flagged_result}
use Rattle.ess_rules_laws.specs.FunctionKeys.{fitting_result, result_behind_flag}
use Rattle.ess_rules_views.specs.ViewForms.{OneTable, Arguments, Slots, total_keys, partial_keys, member_keys}

-- The cell of an atom, by its kind.
abbrev pub atom_where : ReprKind → Dom → Text → Exs → Option Ex
atom_where ReprKind.Atom d n js = Some (cell_ex (is_bool_dom d) n js)
atom_where k d n js = None

-- The cell of an atom.
abbrev pub atom_of : OneTable → Option Ex
atom_of t = atom_where t.kind t.dom t.table t.at

-- The cell that says whether a is a member.
abbrev pub cell_from : Ex → OneTable → Option Ex
cell_from a t = and_then (member_keys t.kind t.dom a) (λ ks. Some (flag_at t.table t.at ks))

-- The view at an argument.
abbrev pub view_of : Bool → Ex → Arguments → Option Ex
view_of b a v = and_then (total_keys v.kind v.first a) (fitting_result b v.child v.last v.cells v.at)

-- Whether it is the kind of a total function from these arguments.
abbrev pub is_total_kind : ReprKind → Dom → Bool
is_total_kind ReprKind.Function1D d = true
is_total_kind ReprKind.FunctionND (tuple_dom ds) = true
is_total_kind k d = false

-- Whether there is a view of a total function.
abbrev pub is_total : Option Arguments → Bool
is_total None = false
is_total (Some v) = is_total_kind v.kind v.first

-- The flag at these indices: the first table holds the flags.
abbrev pub flag_in : List Text → Exs → Exs → Option Ex
flag_in [] js ks = None
flag_in (m ∷ ns) js ks = Some (flag_at m js ks)

-- The flag at an argument.
abbrev pub flag_from : Ex → Arguments → Option Ex
flag_from a v = and_then (partial_keys v.kind v.first a) (flag_in v.cells v.at)

-- The view at these indices behind its flag.
abbrev pub flagged_in : Arguments → List Text → Exs → Option Ex
flagged_in v [] ks = None
flagged_in v (m ∷ ns) ks = Some (result_behind_flag v.child v.last m ns v.at ks)

-- The view at an argument behind its flag.
abbrev pub flagged_from : Ex → Arguments → Option Ex
flagged_from a v = and_then (partial_keys v.kind v.first a) (flagged_in v v.cells)

-- The marker, where the kind has one.
abbrev pub marker_where : ReprKind → List Text → Exs → Option Ex
marker_where ReprKind.ExplicitVarSizeWithMarker (m ∷ ns) js = Some (cell_ex false m js)
marker_where k ns js = None

-- The marker of a set.
abbrev pub marker_of : Slots → Option Ex
marker_of v = marker_where v.kind v.cells v.at

-- n, where all slots are in use.
abbrev pub slots_where : ReprKind → Ex → Option Ex
slots_where ReprKind.Explicit n = Some n
slots_where k n = None

-- The number of slots.
abbrev pub slots_of : Ex → Slots → Option Ex
slots_of n v = slots_where v.kind n

-- The result at a, where the kind is that of a total function from atoms: x over the first domain, where x is a, the result at x.
abbrev pub result_where : ReprKind → Text → Ex → Arguments → Option Ex
result_where ReprKind.Function1D x a v = Some (total_result (by_name x) v.child v.first v.last v.cells v.at a)
result_where k x a v = None

-- The same of a function from atoms with flags, where the flag at x is true: the first table holds the flags.
abbrev pub flagged_where : ReprKind → List Text → Text → Ex → Arguments → Option Ex
flagged_where ReprKind.Function1DPartial (m ∷ ns) x a v = Some (flagged_result (by_name x) v.child v.first v.last m ns v.at a)
flagged_where k ns x a v = None
