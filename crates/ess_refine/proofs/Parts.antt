-- Passes over the parts of expressions and domains.
use Rattle.std.proofs.Common.{refl, Bool, List}
use Rattle.ess_semantics.specs.Values.{Text}
use Rattle.ess_semantics.specs.Names.{Names}
use Rattle.ess_semantics.specs.Trees.{Op, Ends, Mark, Repr, Ex, Exs, node_ex, matrix_ex, comp_ex, cell_ex, seen_ex, Gens, Dom, Doms, int_dom, tuple_dom, record_dom, matrix_dom, set_dom, mset_dom, function_dom, relation_dom, partition_dom}
use Rattle.ess_semantics.specs.Types.{Ty}
use Rattle.ess_semantics.specs.Contexts.{in_operand, in_item, in_index_domain, in_body, in_generators, in_cell_index, in_view_domain, in_view_index, in_bound, in_component, in_field, in_index, in_element, in_set_number, in_set_member, in_mset_number, in_mset_member, in_function_number, in_argument, in_result, in_relation_number, in_relation_component, in_partition_number, in_partition_member, fill, fill_exs, fill_gens, fill_dom, fill_doms}
use Rattle.ess_semantics.specs.NamesAt.{names_behind, names_at, names_at_exs, names_at_gens, names_at_dom, names_at_doms}
use Rattle.ess_refine.specs.Passes.{Passes, AllPass, GensPass, DomPasses, DomsPass}
use Rattle.ess_refine.specs.declared.passing.Turns.{Turns}
use Rattle.ess_refine.proofs.Chains.{passes-then, passes-inside}

-- ---- the parts of expressions

pub operands_pass : (o n : Turns) (g : Names Ty) (b : Bool) (op : Op) (es fs : Exs) → AllPass o g es fs n
    → Passes o g (node_ex b op es) (node_ex b op fs) n
operands_pass o n g b op es fs w =
    passes-inside fill_exs names_at_exs fill names_at (in_operand b op) (node_ex b op) g g (λ c x. refl) (λ c. refl) o n es fs w

pub index_passes : (o n : Turns) (g : Names Ty) (b : Bool) (a : Text) (es fs : Exs) → AllPass o g es fs n
    → Passes o g (cell_ex b a es) (cell_ex b a fs) n
index_passes o n g b a es fs w =
    passes-inside fill_exs names_at_exs fill names_at (in_cell_index b a) (cell_ex b a) g g (λ c x. refl) (λ c. refl) o n es fs w

pub matrix_passes : (o k n : Turns) (g : Names Ty) (es fs : Exs) (d e : Dom) → AllPass o g es fs k → DomPasses k g d e n
    → Passes o g (matrix_ex es d) (matrix_ex fs e) n
matrix_passes o k n g es fs d e w z = passes-then fill names_at o k n g (matrix_ex es d) (matrix_ex fs d) (matrix_ex fs e)
    (passes-inside fill_exs names_at_exs fill names_at (λ c. in_item c d) (λ l. matrix_ex l d) g g (λ c x. refl) (λ c. refl) o k es fs w)
    (passes-inside fill_dom names_at_dom fill names_at (in_index_domain fs) (matrix_ex fs) g g (λ c x. refl) (λ c. refl) k n d e z)

pub comprehension_passes : (o k n : Turns) (g : Names Ty) (e f : Ex) (gs hs : Gens) → GensPass o g gs hs k
    → Passes k (names_behind hs g) e f n → Passes o g (comp_ex e gs) (comp_ex f hs) n
comprehension_passes o k n g e f gs hs w z = passes-then fill names_at o k n g (comp_ex e gs) (comp_ex e hs) (comp_ex f hs)
    (passes-inside fill_gens names_at_gens fill names_at (in_generators e) (comp_ex e) g g (λ c x. refl) (λ c. refl) o k gs hs w)
    (passes-inside fill names_at fill names_at (λ c. in_body c hs) (λ x. comp_ex x hs) g (names_behind hs g) (λ c x. refl) (λ c. refl)
    k n e f z)

pub view_passes : (o k n : Turns) (g : Names Ty) (r : Repr) (d e : Dom) (xs : List Text) (es fs : Exs) → DomPasses o g d e k
    → AllPass k g es fs n → Passes o g (seen_ex r d xs es) (seen_ex r e xs fs) n
view_passes o k n g r d e xs es fs w z = passes-then fill names_at o k n g (seen_ex r d xs es) (seen_ex r e xs es) (seen_ex r e xs fs)
    (passes-inside fill_dom names_at_dom fill names_at (λ c. in_view_domain r c xs es) (λ x. seen_ex r x xs es) g g (λ c x. refl)
    (λ c. refl) o k d e w)
    (passes-inside fill_exs names_at_exs fill names_at (in_view_index r e xs) (seen_ex r e xs) g g (λ c x. refl) (λ c. refl) k n es fs z)

-- ---- the parts of domains

pub bounds_pass : (o n : Turns) (g : Names Ty) (rs : List Ends) (es fs : Exs) → AllPass o g es fs n
    → DomPasses o g (int_dom rs es) (int_dom rs fs) n
bounds_pass o n g rs es fs w =
    passes-inside fill_exs names_at_exs fill_dom names_at_dom (in_bound rs) (int_dom rs) g g (λ c x. refl) (λ c. refl) o n es fs w

pub components_pass : (o n : Turns) (g : Names Ty) (ds es : Doms) → DomsPass o g ds es n → DomPasses o g (tuple_dom ds) (tuple_dom es) n
components_pass o n g ds es w =
    passes-inside fill_doms names_at_doms fill_dom names_at_dom in_component tuple_dom g g (λ c x. refl) (λ c. refl) o n ds es w

pub fields_pass : (o n : Turns) (g : Names Ty) (fs : List Text) (ds es : Doms) → DomsPass o g ds es n
    → DomPasses o g (record_dom fs ds) (record_dom fs es) n
fields_pass o n g fs ds es w =
    passes-inside fill_doms names_at_doms fill_dom names_at_dom (in_field fs) (record_dom fs) g g (λ c x. refl) (λ c. refl) o n ds es w

pub matrices_pass : (o k n : Turns) (g : Names Ty) (is js : Doms) (d e : Dom) → DomsPass o g is js k → DomPasses k g d e n
    → DomPasses o g (matrix_dom is d) (matrix_dom js e) n
matrices_pass o k n g is js d e w z = passes-then fill_dom names_at_dom o k n g (matrix_dom is d) (matrix_dom js d) (matrix_dom js e)
    (passes-inside fill_doms names_at_doms fill_dom names_at_dom (λ c. in_index c d) (λ l. matrix_dom l d) g g (λ c x. refl) (λ c. refl)
    o k is js w)
    (passes-inside fill_dom names_at_dom fill_dom names_at_dom (in_element js) (matrix_dom js) g g (λ c x. refl) (λ c. refl) k n d e z)

pub set_passes : (o k n : Turns) (g : Names Ty) (ms : List Mark) (es fs : Exs) (d e : Dom) → AllPass o g es fs k → DomPasses k g d e n
    → DomPasses o g (set_dom ms es d) (set_dom ms fs e) n
set_passes o k n g ms es fs d e w z = passes-then fill_dom names_at_dom o k n g (set_dom ms es d) (set_dom ms fs d) (set_dom ms fs e)
    (passes-inside fill_exs names_at_exs fill_dom names_at_dom (λ c. in_set_number ms c d) (λ l. set_dom ms l d) g g (λ c x. refl)
    (λ c. refl) o k es fs w)
    (passes-inside fill_dom names_at_dom fill_dom names_at_dom (in_set_member ms fs) (set_dom ms fs) g g (λ c x. refl) (λ c. refl)
    k n d e z)

pub mset_passes : (o k n : Turns) (g : Names Ty) (ms : List Mark) (es fs : Exs) (d e : Dom) → AllPass o g es fs k → DomPasses k g d e n
    → DomPasses o g (mset_dom ms es d) (mset_dom ms fs e) n
mset_passes o k n g ms es fs d e w z = passes-then fill_dom names_at_dom o k n g (mset_dom ms es d) (mset_dom ms fs d) (mset_dom ms fs e)
    (passes-inside fill_exs names_at_exs fill_dom names_at_dom (λ c. in_mset_number ms c d) (λ l. mset_dom ms l d) g g (λ c x. refl)
    (λ c. refl) o k es fs w)
    (passes-inside fill_dom names_at_dom fill_dom names_at_dom (in_mset_member ms fs) (mset_dom ms fs) g g (λ c x. refl) (λ c. refl)
    k n d e z)

pub partition_passes : (o k n : Turns) (g : Names Ty) (ms : List Mark) (es fs : Exs) (d e : Dom) → AllPass o g es fs k
    → DomPasses k g d e n → DomPasses o g (partition_dom ms es d) (partition_dom ms fs e) n
partition_passes o k n g ms es fs d e w z =
    passes-then fill_dom names_at_dom o k n g (partition_dom ms es d) (partition_dom ms fs d) (partition_dom ms fs e)
    (passes-inside fill_exs names_at_exs fill_dom names_at_dom (λ c. in_partition_number ms c d) (λ l. partition_dom ms l d) g g
    (λ c x. refl) (λ c. refl) o k es fs w)
    (passes-inside fill_dom names_at_dom fill_dom names_at_dom (in_partition_member ms fs) (partition_dom ms fs) g g (λ c x. refl)
    (λ c. refl) k n d e z)

pub relation_passes : (o k n : Turns) (g : Names Ty) (ms : List Mark) (es fs : Exs) (ds cs : Doms) → AllPass o g es fs k
    → DomsPass k g ds cs n → DomPasses o g (relation_dom ms es ds) (relation_dom ms fs cs) n
relation_passes o k n g ms es fs ds cs w z =
    passes-then fill_dom names_at_dom o k n g (relation_dom ms es ds) (relation_dom ms fs ds) (relation_dom ms fs cs)
    (passes-inside fill_exs names_at_exs fill_dom names_at_dom (λ c. in_relation_number ms c ds) (λ l. relation_dom ms l ds) g g
    (λ c x. refl) (λ c. refl) o k es fs w)
    (passes-inside fill_doms names_at_doms fill_dom names_at_dom (in_relation_component ms fs) (relation_dom ms fs) g g (λ c x. refl)
    (λ c. refl) k n ds cs z)

pub function_passes : (o j k n : Turns) (g : Names Ty) (ms : List Mark) (es fs : Exs) (a b d e : Dom) → AllPass o g es fs j
    → DomPasses j g a b k → DomPasses k g d e n → DomPasses o g (function_dom ms es a d) (function_dom ms fs b e) n
function_passes o j k n g ms es fs a b d e w x z =
    passes-then fill_dom names_at_dom o j n g (function_dom ms es a d) (function_dom ms fs a d) (function_dom ms fs b e)
    (passes-inside fill_exs names_at_exs fill_dom names_at_dom (λ c. in_function_number ms c a d) (λ l. function_dom ms l a d) g g
    (λ c y. refl) (λ c. refl) o j es fs w)
    (passes-then fill_dom names_at_dom j k n g (function_dom ms fs a d) (function_dom ms fs b d) (function_dom ms fs b e)
    (passes-inside fill_dom names_at_dom fill_dom names_at_dom (λ c. in_argument ms fs c d) (λ y. function_dom ms fs y d) g g
    (λ c y. refl) (λ c. refl) j k a b x)
    (passes-inside fill_dom names_at_dom fill_dom names_at_dom (in_result ms fs b) (function_dom ms fs b) g g (λ c y. refl) (λ c. refl)
    k n d e z))
