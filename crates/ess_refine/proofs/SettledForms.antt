-- A tree is settled where none of the rules fires at its root, and its parts are settled.
use Rattle.std.proofs.Common.{refl, sym, subst, ℕ}
use Rattle.ess_semantics.specs.Names.{Names}
use Rattle.ess_semantics.specs.Trees.{Ex, Exs, number_ex, truth_ex, name_ex, node_ex, matrix_ex, comp_ex, cell_ex, seen_ex, no_exs, more_exs, Gens, no_gens, over, from, cond, Dom, Doms, bool_dom, int_dom, name_dom, tuple_dom, record_dom, matrix_dom, set_dom, mset_dom, function_dom, relation_dom, partition_dom, no_doms, more_doms}
use Rattle.ess_semantics.specs.Types.{Ty, type_of_dom, bind_types}
use Rattle.ess_semantics.specs.Typing.{source_ty}
use Rattle.ess_semantics.specs.Contexts.{In, Ins, InGens, InDom, InDoms, hole, in_operand, in_item, in_index_domain, in_body, in_generators, in_cell_index, in_view_domain, in_view_index, in_first, in_later, in_generator_domain, behind_over, in_source, behind_from, in_condition, behind_condition, in_bound, in_component, in_field, in_index, in_element, in_set_number, in_set_member, in_mset_number, in_mset_member, in_function_number, in_argument, in_result, in_relation_number, in_relation_component, in_partition_number, in_partition_member, in_first_domain, in_later_domain, fill, fill_exs, fill_gens, fill_dom, fill_doms}
use Rattle.ess_semantics.specs.NamesAt.{names_behind, names_at, names_at_exs, names_at_gens, names_at_dom, names_at_doms}
use Rattle.ess_rules.specs.Ruled.{NoneFires}
use Rattle.ess_refine.specs.Settled.{Settled, AllSettled, GensSettled, DomSettled, DomsSettled}

-- The parts of an expression are settled.
abbrev pub PartsSettled : ℕ → Names Ty → Ex → Type 0
PartsSettled n g (number_ex k) = Unit {0}
PartsSettled n g (truth_ex b) = Unit {0}
PartsSettled n g (name_ex a) = Unit {0}
PartsSettled n g (node_ex b op es) = AllSettled n g es
PartsSettled n g (matrix_ex es d) = AllSettled n g es × DomSettled n g d
PartsSettled n g (comp_ex e gs) = GensSettled n g gs × Settled n (names_behind gs g) e
PartsSettled n g (cell_ex b a es) = AllSettled n g es
PartsSettled n g (seen_ex r d xs es) = DomSettled n g d × AllSettled n g es

-- Those of operands.
abbrev pub AllPartsSettled : ℕ → Names Ty → Exs → Type 0
AllPartsSettled n g no_exs = Unit {0}
AllPartsSettled n g (more_exs e es) = Settled n g e × AllSettled n g es

-- Those of generators, each under the names of those before it.
abbrev pub GensPartsSettled : ℕ → Names Ty → Gens → Type 0
GensPartsSettled n g no_gens = Unit {0}
GensPartsSettled n g (over p d gs) = DomSettled n g d × GensSettled n (bind_types p (type_of_dom d) g) gs
GensPartsSettled n g (from p e gs) = Settled n g e × GensSettled n (bind_types p (source_ty e g) g) gs
GensPartsSettled n g (cond e gs) = Settled n g e × GensSettled n g gs

-- Those of a domain.
abbrev pub DomPartsSettled : ℕ → Names Ty → Dom → Type 0
DomPartsSettled n g bool_dom = Unit {0}
DomPartsSettled n g (int_dom rs es) = AllSettled n g es
DomPartsSettled n g (name_dom a) = Unit {0}
DomPartsSettled n g (tuple_dom ds) = DomsSettled n g ds
DomPartsSettled n g (record_dom fs ds) = DomsSettled n g ds
DomPartsSettled n g (matrix_dom is d) = DomsSettled n g is × DomSettled n g d
DomPartsSettled n g (set_dom ms es d) = AllSettled n g es × DomSettled n g d
DomPartsSettled n g (mset_dom ms es d) = AllSettled n g es × DomSettled n g d
DomPartsSettled n g (function_dom ms es d e) = AllSettled n g es × DomSettled n g d × DomSettled n g e
DomPartsSettled n g (relation_dom ms es ds) = AllSettled n g es × DomsSettled n g ds
DomPartsSettled n g (partition_dom ms es d) = AllSettled n g es × DomSettled n g d

-- Those of several domains.
abbrev pub DomsPartsSettled : ℕ → Names Ty → Doms → Type 0
DomsPartsSettled n g no_doms = Unit {0}
DomsPartsSettled n g (more_doms d ds) = DomSettled n g d × DomsSettled n g ds

-- ---- at an open part

none-at : (n : ℕ) (g : Names Ty) (c : In) (a : Ex) → NoneFires n g (fill c a) → PartsSettled n g (fill c a) → NoneFires n (names_at c g) a
none-at n g hole a r h = r
none-at n g (in_operand b op c) a r h = h c a refl
none-at n g (in_item c d) a r h = h.0 c a refl
none-at n g (in_index_domain es c) a r h = h.1 c a refl
none-at n g (in_body c gs) a r h = h.1 c a refl
none-at n g (in_generators e c) a r h = h.0 c a refl
none-at n g (in_cell_index b x c) a r h = h c a refl
none-at n g (in_view_domain v c xs es) a r h = h.0 c a refl
none-at n g (in_view_index v d xs c) a r h = h.1 c a refl

none-among : (n : ℕ) (g : Names Ty) (c : Ins) (a : Ex) → AllPartsSettled n g (fill_exs c a) → NoneFires n (names_at_exs c g) a
none-among n g (in_first c es) a h = h.0 c a refl
none-among n g (in_later e c) a h = h.1 c a refl

none-in_gens : (n : ℕ) (g : Names Ty) (c : InGens) (a : Ex) → GensPartsSettled n g (fill_gens c a) → NoneFires n (names_at_gens c g) a
none-in_gens n g (in_generator_domain p c gs) a h = h.0 c a refl
none-in_gens n g (behind_over p d c) a h = h.1 c a refl
none-in_gens n g (in_source p c gs) a h = h.0 c a refl
none-in_gens n g (behind_from p e c) a h = h.1 c a refl
none-in_gens n g (in_condition c gs) a h = h.0 c a refl
none-in_gens n g (behind_condition e c) a h = h.1 c a refl

none-in_dom : (n : ℕ) (g : Names Ty) (c : InDom) (a : Ex) → DomPartsSettled n g (fill_dom c a) → NoneFires n (names_at_dom c g) a
none-in_dom n g (in_bound rs c) a h = h c a refl
none-in_dom n g (in_component c) a h = h c a refl
none-in_dom n g (in_field fs c) a h = h c a refl
none-in_dom n g (in_index c d) a h = h.0 c a refl
none-in_dom n g (in_element is c) a h = h.1 c a refl
none-in_dom n g (in_set_number ms c d) a h = h.0 c a refl
none-in_dom n g (in_set_member ms es c) a h = h.1 c a refl
none-in_dom n g (in_mset_number ms c d) a h = h.0 c a refl
none-in_dom n g (in_mset_member ms es c) a h = h.1 c a refl
none-in_dom n g (in_function_number ms c d e) a h = h.0 c a refl
none-in_dom n g (in_argument ms es c e) a h = h.1 c a refl
none-in_dom n g (in_result ms es d c) a h = h.2 c a refl
none-in_dom n g (in_relation_number ms c ds) a h = h.0 c a refl
none-in_dom n g (in_relation_component ms es c) a h = h.1 c a refl
none-in_dom n g (in_partition_number ms c d) a h = h.0 c a refl
none-in_dom n g (in_partition_member ms es c) a h = h.1 c a refl

none-in_doms : (n : ℕ) (g : Names Ty) (c : InDoms) (a : Ex) → DomsPartsSettled n g (fill_doms c a) → NoneFires n (names_at_doms c g) a
none-in_doms n g (in_first_domain c ds) a h = h.0 c a refl
none-in_doms n g (in_later_domain d c) a h = h.1 c a refl

-- ---- trees

-- An expression.
pub settled_by_parts : (n : ℕ) (g : Names Ty) (e : Ex) → NoneFires n g e → PartsSettled n g e → Settled n g e
settled_by_parts n g e r h c a q = none-at n g c a (subst (NoneFires n g) (sym q) r) (subst (PartsSettled n g) (sym q) h)

-- Operands.
pub all_settled_by_parts : (n : ℕ) (g : Names Ty) (es : Exs) → AllPartsSettled n g es → AllSettled n g es
all_settled_by_parts n g es h c a q = none-among n g c a (subst (AllPartsSettled n g) (sym q) h)

-- Generators.
pub gens_settled_by_parts : (n : ℕ) (g : Names Ty) (gs : Gens) → GensPartsSettled n g gs → GensSettled n g gs
gens_settled_by_parts n g gs h c a q = none-in_gens n g c a (subst (GensPartsSettled n g) (sym q) h)

-- A domain.
pub dom_settled_by_parts : (n : ℕ) (g : Names Ty) (d : Dom) → DomPartsSettled n g d → DomSettled n g d
dom_settled_by_parts n g d h c a q = none-in_dom n g c a (subst (DomPartsSettled n g) (sym q) h)

-- Several domains.
pub doms_settled_by_parts : (n : ℕ) (g : Names Ty) (ds : Doms) → DomsPartsSettled n g ds → DomsSettled n g ds
doms_settled_by_parts n g ds h c a q = none-in_doms n g c a (subst (DomsPartsSettled n g) (sym q) h)
