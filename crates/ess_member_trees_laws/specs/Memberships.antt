-- The trees to which rules lead from the test that a value is a member of a set which is kept by a table of truth values, one for each
-- possible member.
use Rattle.std.specs.Prelude.{◌≡◌, ◌⊎◌, true, false, [], ◌∷◌, ℤ, Bool, Option, Some, None}
use Rattle.ess_semantics.specs.declared.words.Op2.{Op2}
use Rattle.ess_semantics.specs.declared.words.Fun.{Fun}
use Rattle.ess_semantics.specs.declared.words.ReprKind.{ReprKind}
use Rattle.ess_semantics.specs.Values.{Text}
use Rattle.ess_semantics.specs.Names.{Names}
use Rattle.ess_semantics.specs.Trees.{repr, no_reprs, matrix_literal, name_pat, both_ends, Ex, number_ex, truth_ex, name_ex, node_ex, comp_ex, cell_ex, seen_ex, no_exs, more_exs, Gens, no_gens, over, from, cond, Dom, bool_dom, int_dom, set_dom, ex2, fun1}
use Rattle.ess_semantics.specs.Types.{Ty}
use Rattle.ess_semantics.specs.Typing.{type_of}
use Rattle.ess_flat_laws.specs.ess_open_rules_laws.OpenRules.{is_compound_ty}

-- ---- literals and domains of members

-- A number or a truth value.
pub data Literal : Ex → Type 0 where
  a_number : {k : ℤ} → Literal (number_ex k)
  a_truth : {b : Bool} → Literal (truth_ex b)

-- A bound: a number, or the single cell of a table.
pub data Bound : Ex → Type 0 where
  at_number : {k : ℤ} → Bound (number_ex k)
  at_cell : {m : Text} → Bound (cell_ex false m no_exs)

-- The domain of the members: truth values, or a range.
pub data Axis : Dom → Type 0 where
  truths : Axis bool_dom
  numbers : {a b : Ex} → Bound a → Bound b → Axis (int_dom (both_ends ∷ []) (more_exs a (more_exs b no_exs)))

-- ---- the trees

-- The set is kept by the table n over the domain A; L is asked to be a member.
module _ (n : Text) (A : Dom) (L : Ex) where
  -- The set.
  abbrev pub view : Ex
  view = seen_ex (repr ReprKind.Occurrence no_reprs) (set_dom [] no_exs A) (n ∷ []) no_exs

  -- `L in s`.
  abbrev pub asked : Ex
  asked = ex2 true Op2.Member L view

  -- Its table at a term.
  abbrev pub cell_at : Ex → Ex
  cell_at e = cell_ex true n (more_exs e no_exs)

  -- `x = L`.
  abbrev pub is_it : Text → Ex
  is_it x = ex2 true Op2.Eq (name_ex x) L

  -- `or([e | gs])`.
  abbrev pub some_of : Ex → Gens → Ex
  some_of e gs = fun1 true Fun.Or (comp_ex e gs)

  -- `or([x = L | x <- s])`.
  abbrev pub over_set : Text → Ex
  over_set x = some_of (is_it x) (from (name_pat x) view no_gens)

  -- `or([x = L | x : A, n[x]])`.
  abbrev pub where_cell : Text → Ex
  where_cell x = some_of (is_it x) (over (name_pat x) A (cond (cell_at (name_ex x)) no_gens))

  -- `or([n[x] /\ or([x = L | ]) | x : A])`.
  abbrev pub with_bare : Text → Ex
  with_bare x = some_of (ex2 true Op2.And (cell_at (name_ex x)) (some_of (is_it x) no_gens)) (over (name_pat x) A no_gens)

  -- `or([n[x] /\ x = L | x : A])`.
  abbrev pub with_it : Text → Ex
  with_it x = some_of (ex2 true Op2.And (cell_at (name_ex x)) (is_it x)) (over (name_pat x) A no_gens)

  -- `or([e])`.
  abbrev pub alone : Ex → Ex
  alone e = fun1 true Fun.Or (node_ex false matrix_literal (more_exs e no_exs))

  -- A fold over the domain.
  pub data OverDomain : Ex → Type 0 where
    a_cell : {x : Text} → OverDomain (where_cell x)
    a_bare : {x : Text} → OverDomain (with_bare x)
    an_it : {x : Text} → OverDomain (with_it x)

  -- A tree of the membership.
  pub data Family : Ex → Type 0 where
    as_asked : Family asked
    the_cell : Family (cell_at L)
    of_set : {x : Text} → Family (over_set x)
    folded : {e : Ex} → OverDomain e → Family e
    listed : {e : Ex} → OverDomain e → Family (alone e)

  -- ---- their parts

  -- A name isn't of compound values.
  abbrev pub Plainly : Names Ty → Text → Type 0
  Plainly g x = is_compound_ty (type_of (name_ex x) g) ≡ false

  -- A part of such a tree, where names have these types.
  pub data Part : Names Ty → Ex → Type 0 where
    literal_part : {g : Names Ty} {e : Ex} → Literal e → Part g e
    bound_part : {g : Names Ty} {e : Ex} → Bound e → Part g e
    name_part : {g : Names Ty} {x : Text} → Part g (name_ex x)
    view_part : {g : Names Ty} → Part g view
    asked_part : {g : Names Ty} → Part g asked
    cell_part : {g : Names Ty} → Part g (cell_at L)
    named_part : {g : Names Ty} {x : Text} → Part g (cell_at (name_ex x))
    it_part : {g : Names Ty} {x : Text} → Plainly g x → Part g (is_it x)
    items_of_set : {g : Names Ty} {x : Text} → Part g (comp_ex (is_it x) (from (name_pat x) view no_gens))
    set_part : {g : Names Ty} {x : Text} → Part g (over_set x)
    items_where : {g : Names Ty} {x : Text} → Part g (comp_ex (is_it x) (over (name_pat x) A (cond (cell_at (name_ex x)) no_gens)))
    where_part : {g : Names Ty} {x : Text} → Part g (where_cell x)
    bare_items : {g : Names Ty} {x : Text} → Part g (comp_ex (is_it x) no_gens)
    bare_part : {g : Names Ty} {x : Text} → Part g (some_of (is_it x) no_gens)
    bare_both : {g : Names Ty} {x : Text} → Part g (ex2 true Op2.And (cell_at (name_ex x)) (some_of (is_it x) no_gens))
    it_both : {g : Names Ty} {x : Text} → Part g (ex2 true Op2.And (cell_at (name_ex x)) (is_it x))
    items_bare : {g : Names Ty} {x : Text} → Part g
        (comp_ex (ex2 true Op2.And (cell_at (name_ex x)) (some_of (is_it x) no_gens)) (over (name_pat x) A no_gens))
    with_bare_part : {g : Names Ty} {x : Text} → Part g (with_bare x)
    items_it : {g : Names Ty} {x : Text} → Part g
        (comp_ex (ex2 true Op2.And (cell_at (name_ex x)) (is_it x)) (over (name_pat x) A no_gens))
    with_it_part : {g : Names Ty} {x : Text} → Part g (with_it x)
    list_part : {g : Names Ty} {e : Ex} → OverDomain e → Part g (node_ex false matrix_literal (more_exs e no_exs))
    listed_part : {g : Names Ty} {e : Ex} → OverDomain e → Part g (alone e)

  -- What rules make of a part at its root: of most parts nothing.
  abbrev pub Becomes : {g : Names Ty} {a : Ex} → Part g a → Ex → Type 0
  Becomes asked_part b = (b ≡ cell_at L) ⊎ ((x : Text) × (b ≡ over_set x))
  Becomes set_part b = (y : Text) × ((b ≡ where_cell y) ⊎ (b ≡ alone (where_cell y)))
  Becomes (where_part {x = x}) b = b ≡ with_bare x
  Becomes (bare_part {x = x}) b = b ≡ is_it x
  Becomes (listed_part {e = e} o) b = b ≡ e
  Becomes p b = ⊥

  -- The same of what a rule answers.
  abbrev pub Made : {g : Names Ty} {a : Ex} → Part g a → Option Ex → Type 0
  Made p None = Unit {0}
  Made p (Some b) = Becomes p b
