-- What the rules of views make of a tree, from the parts of the view.
use Rattle.std.proofs.Common.{◌≡◌, refl, sym, Bool, true, false, [], ◌∷◌, Option, Some, None}
use Rattle.ess_semantics.specs.declared.words.Op1.{Op1}
use Rattle.ess_semantics.specs.declared.words.Op2.{Op2}
use Rattle.ess_semantics.specs.declared.words.Fun.{Fun}
use Rattle.ess_semantics.specs.declared.words.ReprKind.{ReprKind}
use Rattle.ess_semantics.specs.Lists.{and_then}
use Rattle.ess_semantics.specs.Trees.{unary, word, application, tuple_literal, repr, no_reprs, more_reprs, Ex, node_ex, seen_ex, ex1}
use Rattle.ess_semantics.specs.Trees.{Exs, ex2, fun1, no_exs, more_exs, tuple_dom, set_dom, function_dom, relation_dom}
use Rattle.ess_rules_laws.specs.FunctionKeys.{view_at, result_at_argument, is_total_view, defined_everywhere, flag_of}
use Rattle.ess_rules_laws.specs.FunctionKeys.{defined_where_flagged, flagged_view_at, lookup_behind_flag}
use Rattle.ess_rules_laws.specs.OccurrenceViews.{cell_of_member, member_by_cell}
use Rattle.ess_rules_laws.specs.AtomViews.{atom_cell}
use Rattle.ess_rules_laws.specs.SetSizes.{size_by_marker, size_by_slots}
use Rattle.ess_rules_forms.specs.Forms.{truth_pair, plain_word, of_pair, of_plain_word}
use Rattle.ess_rules_views.specs.ViewForms.{tuple_items, a_size, applied, one_table, by_argument, in_slots}
use Rattle.ess_rules_views.specs.ViewRules.{atom_of, view_of, is_total, flag_from, flagged_from, cell_from, marker_of, slots_of}

-- A view of an atom.
pub atom_by_table : (e : Ex) → atom_cell e ≡ and_then (one_table e) atom_of
atom_by_table (seen_ex (repr ReprKind.Atom no_reprs) d (n ∷ []) js) = refl
atom_by_table (seen_ex (repr k no_reprs) d (n ∷ []) js) = refl
atom_by_table e = refl

-- A total function at an argument.
pub view_by_argument : (b : Bool) (f a : Ex) → view_at b f a ≡ and_then (by_argument f) (view_of b a)
view_by_argument b (seen_ex (repr ReprKind.Function1D (more_reprs r no_reprs)) (function_dom ms es d c) ns js) a = refl
view_by_argument b (seen_ex (repr ReprKind.FunctionND (more_reprs r no_reprs)) (function_dom ms es (tuple_dom ds) c) ns js)
    (node_ex false tuple_literal as') = refl
view_by_argument b (seen_ex (repr k no_reprs) d ns js) a = refl
view_by_argument b (seen_ex (repr k (more_reprs r no_reprs)) (function_dom ms es d c) ns js) a = refl
view_by_argument b f a = refl

-- An application or `image` of one.
pub result_by_parts : (e : Ex) → result_at_argument e ≡ and_then (applied e) (λ p. view_at p.0 p.1.0 p.1.1)
result_by_parts (node_ex b application (more_exs f (more_exs a no_exs))) = refl
result_by_parts (node_ex b (word Fun.Image) (more_exs f (more_exs a no_exs))) = refl
result_by_parts e = refl

-- Whether a function is total.
pub total_by_argument : (f : Ex) → is_total_view f ≡ is_total (by_argument f)
total_by_argument (seen_ex (repr ReprKind.Function1D (more_reprs r no_reprs)) (function_dom ms es d c) ns js) = refl
total_by_argument (seen_ex (repr ReprKind.FunctionND (more_reprs r no_reprs)) (function_dom ms es (tuple_dom ds) c) ns js) = refl
total_by_argument (seen_ex (repr k no_reprs) d ns js) = refl
total_by_argument (seen_ex (repr k (more_reprs r no_reprs)) (function_dom ms es d c) ns js) = refl
total_by_argument f = refl

-- `a in defined(f)`.
pub everywhere_of_pair : (e : Ex) → defined_everywhere e ≡ of_pair defined_everywhere (truth_pair e)
everywhere_of_pair (ex2 true Op2.Member a (fun1 false Fun.Defined f)) = refl
everywhere_of_pair (ex2 true o a s) = refl
everywhere_of_pair e = refl

pub everywhere_by_word : (a s : Ex) → defined_everywhere (ex2 true Op2.Member a s)
    ≡ of_plain_word (λ t. defined_everywhere (ex2 true Op2.Member a t)) (plain_word s)
everywhere_by_word a (fun1 false Fun.Defined f) = refl
everywhere_by_word a (fun1 false f m) = refl
everywhere_by_word a s = refl

-- The same of a function with flags.
pub flagged_of_pair : (e : Ex) → defined_where_flagged e ≡ of_pair defined_where_flagged (truth_pair e)
flagged_of_pair (ex2 true Op2.Member a (fun1 false Fun.Defined f)) = refl
flagged_of_pair (ex2 true o a s) = refl
flagged_of_pair e = refl

pub flagged_by_word : (a s : Ex) → defined_where_flagged (ex2 true Op2.Member a s)
    ≡ of_plain_word (λ t. defined_where_flagged (ex2 true Op2.Member a t)) (plain_word s)
flagged_by_word a (fun1 false Fun.Defined f) = refl
flagged_by_word a (fun1 false f m) = refl
flagged_by_word a s = refl

none-behind : (o : Option Exs) → and_then {B = Ex} o (λ ks. None) ≡ None
none-behind None = refl
none-behind (Some ks) = refl

-- The flag at an argument.
pub flag_by_argument : (f a : Ex) → flag_of f a ≡ and_then (by_argument f) (flag_from a)
flag_by_argument (seen_ex (repr ReprKind.Function1DPartial (more_reprs r no_reprs)) (function_dom ms es d c) (m ∷ ns) js) a = refl
flag_by_argument (seen_ex (repr ReprKind.FunctionNDPartial (more_reprs r no_reprs)) (function_dom ms es (tuple_dom ds) c) (m ∷ ns) js)
    (node_ex false tuple_literal as') = refl
flag_by_argument (seen_ex (repr ReprKind.FunctionNDPartial (more_reprs r no_reprs)) (function_dom ms es (tuple_dom ds) c) [] js) a =
    sym (none-behind (tuple_items a))
flag_by_argument (seen_ex (repr k no_reprs) d ns js) a = refl
flag_by_argument (seen_ex (repr k (more_reprs r no_reprs)) (function_dom ms es d c) ns js) a = refl
flag_by_argument f a = refl

-- A function with flags at an argument.
pub flagged_by_argument : (f a : Ex) → flagged_view_at f a ≡ and_then (by_argument f) (flagged_from a)
flagged_by_argument (seen_ex (repr ReprKind.Function1DPartial (more_reprs r no_reprs)) (function_dom ms es d c) (m ∷ ns) js) a = refl
flagged_by_argument (seen_ex (repr ReprKind.FunctionNDPartial (more_reprs r no_reprs)) (function_dom ms es (tuple_dom ds) c) (m ∷ ns) js)
    (node_ex false tuple_literal as') = refl
flagged_by_argument (seen_ex (repr ReprKind.FunctionNDPartial (more_reprs r no_reprs)) (function_dom ms es (tuple_dom ds) c) [] js) a =
    sym (none-behind (tuple_items a))
flagged_by_argument (seen_ex (repr k no_reprs) d ns js) a = refl
flagged_by_argument (seen_ex (repr k (more_reprs r no_reprs)) (function_dom ms es d c) ns js) a = refl
flagged_by_argument f a = refl

-- An application or `image` of one.
pub lookup_by_parts : (e : Ex) → lookup_behind_flag e ≡ and_then (applied e) (λ p. flagged_view_at p.1.0 p.1.1)
lookup_by_parts (node_ex b application (more_exs f (more_exs a no_exs))) = refl
lookup_by_parts (node_ex b (word Fun.Image) (more_exs f (more_exs a no_exs))) = refl
lookup_by_parts e = refl

-- The cell of a member.
pub cell_by_table : (v a : Ex) → cell_of_member v a ≡ and_then (one_table v) (cell_from a)
cell_by_table (seen_ex (repr ReprKind.Occurrence no_reprs) (set_dom ms es d) (n ∷ []) js) a = refl
cell_by_table (seen_ex (repr ReprKind.RelationAsMatrix no_reprs) (relation_dom ms es ds) (n ∷ []) js)
    (node_ex false tuple_literal as') = refl
cell_by_table (seen_ex (repr k no_reprs) d (n ∷ []) js) a = refl
cell_by_table v a = refl

-- `a in v`.
pub member_of_pair : (e : Ex) → member_by_cell e ≡ of_pair member_by_cell (truth_pair e)
member_of_pair (ex2 true Op2.Member a v) = refl
member_of_pair (ex2 true o a v) = refl
member_of_pair e = refl

-- A size that a marker says.
pub marker_of_size : (e : Ex) → size_by_marker e ≡ and_then (a_size e) (λ v. size_by_marker (ex1 false Op1.Bar v))
marker_of_size (ex1 false Op1.Bar v) = refl
marker_of_size (node_ex false (unary Op1.Bar) (more_exs
    (seen_ex (repr ReprKind.ExplicitVarSizeWithMarker (more_reprs r no_reprs)) (set_dom ms es d) (m ∷ ns) js) fs)) = refl
marker_of_size e = refl

pub marker_by_slots : (v : Ex) → size_by_marker (ex1 false Op1.Bar v) ≡ and_then (in_slots v) marker_of
marker_by_slots (seen_ex (repr ReprKind.ExplicitVarSizeWithMarker (more_reprs r no_reprs)) (set_dom ms es d) (m ∷ ns) js) = refl
marker_by_slots (seen_ex (repr k no_reprs) d ns js) = refl
marker_by_slots (seen_ex (repr k (more_reprs r no_reprs)) (set_dom ms es d) ns js) = refl
marker_by_slots v = refl

-- The size of a set whose slots are all in use.
pub slots_of_size : (n e : Ex) → size_by_slots n e ≡ and_then (a_size e) (λ v. size_by_slots n (ex1 false Op1.Bar v))
slots_of_size n (ex1 false Op1.Bar v) = refl
slots_of_size n (node_ex false (unary Op1.Bar) (more_exs
    (seen_ex (repr ReprKind.Explicit (more_reprs r no_reprs)) (set_dom ms es d) ns js) fs)) = refl
slots_of_size n e = refl

pub size_by_all_slots : (n v : Ex) → size_by_slots n (ex1 false Op1.Bar v) ≡ and_then (in_slots v) (slots_of n)
size_by_all_slots n (seen_ex (repr ReprKind.Explicit (more_reprs r no_reprs)) (set_dom ms es d) ns js) = refl
size_by_all_slots n (seen_ex (repr k no_reprs) d ns js) = refl
size_by_all_slots n (seen_ex (repr k (more_reprs r no_reprs)) (set_dom ms es d) ns js) = refl
size_by_all_slots n v = refl
