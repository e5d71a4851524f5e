-- Trees that are made of marked ones by operators whose marks types don't decide: where such a tree has a type it has marks.
use Rattle.std.proofs.Common.{◌≡◌, refl, sym, ap, ◌∙◌, subst, Bool, true, false, if◌then◌else◌, List, [], Option, Some, None, option_map}
use Rattle.std.specs.Prelude.{is_some}
use Rattle.ess_semantics.specs.Lists.{and_then, all_some}
use Rattle.ess_semantics.specs.Values.{a_matrix}
use Rattle.ess_semantics.specs.Names.{Names}
use Rattle.ess_semantics.specs.Trees.{Op, is_truth_op, Pat, Ex, Exs, node_ex, comp_ex, no_exs, more_exs, Gens, no_gens, over, from, cond, Dom}
use Rattle.ess_semantics.specs.Types.{Ty, any_ty, bool_ty, int_ty, compound2, or_any, join, type_of_dom, bind_types}
use Rattle.ess_semantics.specs.OperatorTypes.{type_of_op, member_ty}
use Rattle.ess_semantics.specs.Typing.{statics, type_of, types_of, types_under, source_ty}
use Rattle.ess_semantics.specs.NamesAt.{names_behind}
use Rattle.ess_semantics.specs.Operators.{iff}
use Rattle.ess_semantics.proofs.Tests.{and-left, and-right}
use Rattle.ess_types_laws.proofs.ResolvedTypes.{behind-types}
use Rattle.ess_refine_laws.specs.MarksStay.{MarkFits, HasMarks, HaveMarks, GensHaveMarks, DomHasMarks}
use Rattle.ess_refine_types_laws.proofs.TypesOfListed.{heads, all-is}
use Rattle.ess_rules_marks_laws.proofs.DecidedOps.{is_decided, is_fit, decided-no, decided-node, right-mark, same-marks}

-- ---- trees

mutual
  -- The tree is marked, or such a node of trees that grow so, or a comprehension.
  pub data Grows : Names Ty → Ex → Type 0 where
    as_it_is : {g : Names Ty} {e : Ex} → HasMarks e g → Grows g e
    a_node : {g : Names Ty} {b : Bool} {op : Op} {es : Exs} → is_fit b op ≡ true → EachGrows g es → Grows g (node_ex b op es)
    a_comp : {g : Names Ty} {e : Ex} {gs : Gens} → GensGrow g gs → Grows (names_behind gs g) e → Grows g (comp_ex e gs)

  -- The same of operands.
  pub data EachGrows : Names Ty → Exs → Type 0 where
    none_grow : {g : Names Ty} → EachGrows g no_exs
    more_grow : {g : Names Ty} {e : Ex} {es : Exs} → Grows g e → EachGrows g es → EachGrows g (more_exs e es)

  -- The same of generators.
  pub data GensGrow : Names Ty → Gens → Type 0 where
    no_gens_grow : {g : Names Ty} → GensGrow g no_gens
    over_grows : {g : Names Ty} {p : Pat} {d : Dom} {gs : Gens} → DomHasMarks d g → GensGrow (bind_types p (type_of_dom d) g) gs →
        GensGrow g (over p d gs)
    from_grows : {g : Names Ty} {p : Pat} {e : Ex} {gs : Gens} → Grows g e → GensGrow (bind_types p (source_ty e g) g) gs →
        GensGrow g (from p e gs)
    cond_grows : {g : Names Ty} {e : Ex} {gs : Gens} → Grows g e → GensGrow g gs → GensGrow g (cond e gs)

-- Parts of what has a type have types.
comp-is : (o : Option (Names Ty)) (F : Names Ty → Option Ty) (t : Ty) →
    and_then o (λ h. option_map (compound2 a_matrix int_ty) (F h)) ≡ Some t →
    (h : Names Ty) × (u : Ty) × (o ≡ Some h) × (F h ≡ Some u)
comp-is None F t q = ([], any_ty, cc, cc)
comp-is (Some h) F t q = go (F h) refl q
  where
    go : (p : Option Ty) → F h ≡ p → option_map (compound2 a_matrix int_ty) p ≡ Some t →
        (k : Names Ty) × (u : Ty) × (Some h ≡ Some k) × (F k ≡ Some u)
    go None i q = ([], any_ty, cc, cc)
    go (Some u) i q = (h, u, refl, i)

from-is : (o : Option Ty) (F : Ty → Option (Names Ty)) (h : Names Ty) → and_then (and_then o member_ty) F ≡ Some h →
    (t : Ty) × (m : Ty) × (o ≡ Some t) × (and_then o member_ty ≡ Some m) × (F m ≡ Some h)
from-is None F h q = (any_ty, any_ty, cc, cc, cc)
from-is (Some t) F h q = go (member_ty t) refl q
  where
    go : (o : Option Ty) → member_ty t ≡ o → and_then o F ≡ Some h →
        (u : Ty) × (m : Ty) × (Some t ≡ Some u) × (member_ty t ≡ Some m) × (F m ≡ Some h)
    go None i q = (any_ty, any_ty, cc, cc, cc)
    go (Some m) i q = (t, m, refl, i, q)

cond-is : (o : Option Ty) (p : Option (Names Ty)) (h : Names Ty) → and_then o (λ t. and_then (join t bool_ty) (λ u. p)) ≡ Some h →
    (t : Ty) × (o ≡ Some t) × (p ≡ Some h)
cond-is None p h q = (any_ty, cc, cc)
cond-is (Some t) p h q = go (join t bool_ty) q
  where
    go : (j : Option Ty) → and_then j (λ u. p) ≡ Some h → (v : Ty) × (Some t ≡ Some v) × (p ≡ Some h)
    go None q = (any_ty, cc, cc)
    go (Some u) q = (t, refl, q)

mutual
  -- Where there is a type there are marks.
  pub grown : (g : Names Ty) (e : Ex) → Grows g e → (t : Ty) → type_of e g ≡ Some t → HasMarks e g
  grown g e (as_it_is h) t q = h
  grown g (node_ex b op es) (a_node f k) t q =
      let d = and-left (is_decided op) (iff b (is_truth_op op)) f in
      let m = same-marks b (is_truth_op op) (and-right (is_decided op) (iff b (is_truth_op op)) f) in
      let r = all-is (all_some (types_of es g)) (type_of_op op) t
      (sym (decided-node op d (statics es) (types_of es g)) ∙ q) in (
        subst (λ o. MarkFits b op o) (sym q) (m ∙ right-mark op t (λ n. decided-no op r.0 d n t r.2)),
        each-grown g es k r.0 r.1,
      )
  grown g (comp_ex e gs) (a_comp k l) t q =
      let r = comp-is (types_under gs g) (type_of e) t q in
      (gens-grown g gs k r.0 r.2, grown (names_behind gs g) e l r.1 (ap (type_of e) (behind-types gs g r.0 r.2) ∙ r.3))

  each-grown : (g : Names Ty) (es : Exs) → EachGrows g es → (ts : List Ty) → all_some (types_of es g) ≡ Some ts → HaveMarks es g
  each-grown g no_exs none_grow ts q = tt
  each-grown g (more_exs e es) (more_grow k l) ts q =
      let r = heads (type_of e g) (all_some (types_of es g)) ts q in (grown g e k r.0 r.2, each-grown g es l r.1 r.3)

  gens-grown : (g : Names Ty) (gs : Gens) → GensGrow g gs → (h : Names Ty) → types_under gs g ≡ Some h → GensHaveMarks gs g
  gens-grown g no_gens no_gens_grow h q = tt
  gens-grown g (over p d gs) (over_grows m k) h q = (m, gens-grown (bind_types p (type_of_dom d) g) gs k h q)
  gens-grown g (from p e gs) (from_grows k l) h q =
      let r = from-is (type_of e g) (λ m. types_under gs (bind_types p m g)) h q in (
        ap is_some r.3,
        grown g e k r.0 r.2,
        gens-grown (bind_types p (source_ty e g) g) gs l h
            (subst (λ o. types_under gs (bind_types p (or_any o) g) ≡ Some h) (sym r.3) r.4),
      )
  gens-grown g (cond e gs) (cond_grows k l) h q =
      let r = cond-is (type_of e g) (types_under gs g) h q in (grown g e k r.0 r.1, gens-grown g gs l h r.2)

-- ---- marked parts

-- The mark of such a node.
pub mark-is : (g : Names Ty) (b : Bool) (op : Op) (es : Exs) → is_decided op ≡ true → HasMarks (node_ex b op es) g → b ≡ is_truth_op op
mark-is g b op es d h = go (type_of (node_ex b op es) g) refl h.0
  where
    go : (o : Option Ty) → type_of (node_ex b op es) g ≡ o → MarkFits b op o → b ≡ is_truth_op op
    go None q m = absurd m
    go (Some t) q m =
        let r = all-is (all_some (types_of es g)) (type_of_op op) t (sym (decided-node op d (statics es) (types_of es g)) ∙ q) in
        m ∙ sym (right-mark op t (λ n. decided-no op r.0 d n t r.2))

-- Marked generators grow.
pub gens-are : (g : Names Ty) (gs : Gens) → GensHaveMarks gs g → GensGrow g gs
gens-are g no_gens h = no_gens_grow
gens-are g (over p d gs) h = over_grows h.0 (gens-are (bind_types p (type_of_dom d) g) gs h.1)
gens-are g (from p e gs) h = from_grows (as_it_is h.1) (gens-are (bind_types p (source_ty e g) g) gs h.2)
gens-are g (cond e gs) h = cond_grows (as_it_is h.0) (gens-are g gs h.1)

-- Marked operands grow.
pub all-are : (g : Names Ty) (es : Exs) → HaveMarks es g → EachGrows g es
all-are g no_exs h = none_grow
all-are g (more_exs e es) h = more_grow (as_it_is h.0) (all-are g es h.1)

-- What a rule answers grows from what is marked.
abbrev pub MarksGrow : Names Ty → Ex → Option Ex → Type 0
MarksGrow g e None = Unit {0}
MarksGrow g e (Some f) = HasMarks e g → Grows g f

pub grows-when : (g : Names Ty) (c : Bool) (e f : Ex) → (c ≡ true → HasMarks e g → Grows g f) → MarksGrow g e (if c then Some f else None)
grows-when g true e f h = h refl
grows-when g false e f h = tt
