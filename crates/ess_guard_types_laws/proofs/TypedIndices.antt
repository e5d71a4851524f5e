-- Conditions on indices have types.
use Rattle.std.proofs.Common.{◌≡◌, refl, sym, ap, ◌∙◌, subst, Bool, true, false, not, if◌then◌else◌, List, [], ◌∷◌, Option, Some, None, option_map, is_some, pos}
use Rattle.ess_semantics.specs.declared.words.Op2.{Op2}
use Rattle.ess_semantics.specs.declared.words.Fun.{Fun}
use Rattle.ess_semantics.specs.Lists.{and_then, all_some}
use Rattle.ess_semantics.specs.Values.{Text, a_matrix, a_set}
use Rattle.ess_semantics.specs.Names.{Names, look}
use Rattle.ess_semantics.specs.Trees.{Step, by_value, to_component, to_field, index, both_ends, name_pat, matrix_literal, Ex, Exs, number_ex, name_ex, node_ex, matrix_ex, comp_ex, seen_ex, no_exs, more_exs, no_gens, over, Dom, bool_dom, int_dom, name_dom, matrix_dom, more_doms, ex2}
use Rattle.ess_semantics.specs.Types.{Ty, any_ty, bool_ty, int_ty, compound1, compound2, join, join_all, type_of_dom, nested_ty}
use Rattle.ess_semantics.specs.OperatorTypes.{type_of_list}
use Rattle.ess_semantics.specs.Typing.{Static, a_number, a_name, static, statics, step_ty, part_ty, path_ty, type_of_node, type_of, types_of, types_under}
use Rattle.ess_semantics.proofs.Texts.{same_text-itself}
use Rattle.ess_guard_laws.specs.Origins.{Origin, is_sure}
use Rattle.ess_guard_laws.specs.IndexDomains.{item_dom, dom_behind, dom_followed, first_index, are_plain_bounds, plain_axis, index_dom}
use Rattle.ess_guard_laws.specs.Conditions.{as_number, members_of, in_dom, at_step, index_conditions, path_conditions}
use Rattle.ess_guard_types_laws.specs.HasTypes.{agrees, is_empty_list, HasTypes, HaveTypes, DomHasTypes}
use Rattle.ess_guard_types_laws.proofs.TypedConditions.{Cond, Conds, both-conds, unless-conds, two-cond, word-types, its-type, comp-type}
use Rattle.ess_guard_types_laws.proofs.TypedNumbers.{Num, number-of, number-as, le-cond}
use Rattle.ess_guard_types_laws.proofs.TypedItems.{member-cond, fits-bool}
use Rattle.ess_guard_types_laws.proofs.JoinedTypes.{Agree, turned, itself}

-- ---- members of index domains

look-first : (a : Text) (t : Ty) (g : Names Ty) → look ((a, t) ∷ g) a ≡ Some t
look-first a t g = ap (λ b. if b then Some t else look g a) (same_text-itself a)

set-cond : (x : Text) (i : Ex) (d : Dom) (t : Ty) (g : Names Ty) → HasTypes i g → type_of i g ≡ Some t → Agree (type_of_dom d) t →
    DomHasTypes d g → Cond (ex2 true Op2.Member i (members_of x d)) g
set-cond x i d t g h p a m =
    let v : look ((x, type_of_dom d) ∷ g) x ≡ Some (type_of_dom d) = look-first x (type_of_dom d) g in
    let s = word-types Fun.ToSet (comp_ex (name_ex x) (over (name_pat x) d no_gens)) (compound2 a_matrix int_ty (type_of_dom d))
    (compound1 a_set (type_of_dom d)) g ((m, tt), ap is_some v)
    (comp-type (name_ex x) (over (name_pat x) d no_gens) (type_of_dom d) g (m, tt) v) refl in
    member-cond i (members_of x d) t (type_of_dom d) g h p s.0 s.1 (turned (type_of_dom d) t a)

-- That i lies in a domain.
in-dom-cond : (x : Text) (i : Ex) (d : Dom) (t : Ty) (g : Names Ty) → HasTypes i g → type_of i g ≡ Some t → Agree (type_of_dom d) t →
    DomHasTypes d g → Cond (in_dom x i d) g
in-dom-cond x i (int_dom (both_ends ∷ []) (more_exs a (more_exs b no_exs))) t g h p w m =
    let n : Num i g = record { typed = h; ty = t; has = p; num = turned int_ty t w } in
    let l : Cond (ex2 true Op2.Le (as_number [] a) i) g = le-cond (as_number [] a) i g (number-as [] a g (number-of a g m.1 m.0)) n in
    let r : Cond (ex2 true Op2.Le i (as_number [] b)) g =
    le-cond i (as_number [] b) g n (number-as [] b g (number-of b g m.2.1 m.2.0)) in
    two-cond Op2.And _ _ bool_ty bool_ty g l.typed r.typed l.bool r.bool refl
in-dom-cond x i d t g h p w m = set-cond x i d t g h p w m

-- ---- what forms tell

-- A domain that a term may follow has the term's type t, and types.
abbrev Opt : Option Dom → Ty → Names Ty → Type 0
Opt None t g = Unit {0}
Opt (Some d) t g = (t ≡ type_of_dom d) × DomHasTypes d g

some-same : (a b : Ty) → Some a ≡ Some b → a ≡ b
some-same a b e = cc

-- What one step by a value reaches.
reached : (i e : Ty) (s : Static) (u : Option Ty) (v : Ty) → step_ty (compound2 a_matrix i e) s u ≡ Some v → v ≡ e
reached i e s None v h = cc
reached i e s (Some t) v h = go (join i t) h
  where
    go : (j : Option Ty) → option_map (λ w. e) j ≡ Some v → v ≡ e
    go None h = cc
    go (Some w) h = cc

item-opt : (o : Option Dom) (t : Ty) (s : Static) (u : Option Ty) (v : Ty) (g : Names Ty) → Opt o t g → step_ty t s u ≡ Some v →
    Opt (item_dom o) v g
item-opt (Some (matrix_dom (more_doms a (more_doms b ds)) c)) t s u v g p e = (
  reached (type_of_dom a) (nested_ty (more_doms b ds) (type_of_dom c)) s u v (subst (λ z. step_ty z s u ≡ Some v) p.0 e),
  (p.1.0.1, p.1.1),
)
item-opt o t s u v g p e = tt

then-there : (o : Option Ty) (f : Ty → Option Ty) (v : Ty) → and_then o f ≡ Some v → (w : Ty) × (o ≡ Some w) × (f w ≡ Some v)
then-there None f v e = (any_ty, cc, cc)
then-there (Some w) f v e = (w, refl, e)

behind-opt : (o : Option Dom) (t : Ty) (qs : List Step) (is : Exs) (g : Names Ty) → Opt o t g → (v : Ty) →
    path_ty t qs (statics is) (types_of is g) ≡ Some v → Opt (dom_behind o qs is) v g
behind-opt o t [] no_exs g p v e = subst (λ z. Opt o z g) (some-same t v e) p
behind-opt o t [] (more_exs i is) g p v e = tt
behind-opt o t (by_value ∷ qs) (more_exs i is) g p v e =
    let w = then-there (step_ty t (static i) (type_of i g)) (λ w. path_ty w qs (statics is) (types_of is g)) v e in
    behind-opt (item_dom o) w.0 qs is g (item-opt o t (static i) (type_of i g) w.0 g p w.1) v w.2
behind-opt o t (by_value ∷ qs) no_exs g p v e = tt
behind-opt o t (to_component c ∷ qs) is g p v e = tt
behind-opt o t (to_field a ∷ qs) is g p v e = tt

node-path : (o : Option Ty) (qs : List Step) (s : Static) (ss : List Static) (us : List (Option Ty)) (t : Ty) → o ≡ Some t →
    type_of_node (index qs) (s ∷ ss) (o ∷ us) ≡ path_ty t qs ss us
node-path o qs s ss us t e = ap (λ z. type_of_node (index qs) (s ∷ ss) (z ∷ us)) e

followed-opt : (m : Ex) (g : Names Ty) → HasTypes m g → (t : Ty) → type_of m g ≡ Some t → Opt (dom_followed m) t g
followed-opt (seen_ex r d ns es) g h t e = (sym (some-same (type_of_dom d) t e), h.0)
followed-opt (node_ex false (index qs) (more_exs m is)) g h t e =
    let u = its-type m g h.2.0 in
    behind-opt (dom_followed m) u.0 qs is g (followed-opt m g h.2.0 u.0 u.1) t
    (sym (node-path (type_of m g) qs (static m) (statics is) (types_of is g) u.0 u.1) ∙ e)
followed-opt _ g h t e = tt

-- An index domain that a form may tell is that of the term's type t, and has types.
abbrev AxisOf : Option Dom → Ty → Names Ty → Type 0
AxisOf None t g = Unit {0}
AxisOf (Some d) t g = (e : Ty) × (t ≡ compound2 a_matrix (type_of_dom d) e) × DomHasTypes d g

plain-axis : (o : Option Dom) (t : Ty) (g : Names Ty) → Opt o t g → AxisOf (plain_axis (first_index o)) t g
plain-axis (Some (matrix_dom (more_doms bool_dom is) d)) t g p = (nested_ty is (type_of_dom d), p.0, tt)
plain-axis (Some (matrix_dom (more_doms (name_dom a) is) d)) t g p = (nested_ty is (type_of_dom d), p.0, tt)
plain-axis (Some (matrix_dom (more_doms (int_dom rs es) is) d)) t g p = go (are_plain_bounds es)
  where
    go : (b : Bool) → AxisOf (if b then Some (int_dom rs es) else None) t g
    go true = (nested_ty is (type_of_dom d), p.0, p.1.0.0)
    go false = tt
plain-axis o t g p = tt

abbrev If : Bool → Type 0 → Type 0
If true P = Unit {0}
If false P = P

never : (P : Type 0) → true ≡ false → P
never P q = subst (λ b. If b P) q tt

list-axis : (i : Ty) (o : Option Ty) (t : Ty) → option_map (compound2 a_matrix i) o ≡ Some t → (e : Ty) × (t ≡ compound2 a_matrix i e)
list-axis i None t h = (any_ty, cc)
list-axis i (Some e) t h = (e, cc)

then-axis : (i : Ty) (o : Option (List Ty)) (f : List Ty → Option Ty) (t : Ty) → and_then o
    (λ ts. option_map (compound2 a_matrix i) (f ts)) ≡ Some t →
    (e : Ty) × (t ≡ compound2 a_matrix i e)
then-axis i None f t h = (any_ty, cc)
then-axis i (Some ts) f t h = list-axis i (f ts) t h

literal-axis : (o : Option Ty) (r : Option (List Ty)) (t : Ty) →
    and_then (and_then o (λ x. option_map (λ ys. x ∷ ys) r)) type_of_list ≡ Some t → (e : Ty) × (t ≡ compound2 a_matrix int_ty e)
literal-axis None r t h = (any_ty, cc)
literal-axis (Some x) None t h = (any_ty, cc)
literal-axis (Some x) (Some ys) t h = list-axis int_ty (join_all (x ∷ ys)) t h

comp-axis : (o : Option (Names Ty)) (f : Names Ty → Option Ty) (t : Ty) → and_then o
    (λ h. option_map (compound2 a_matrix int_ty) (f h)) ≡ Some t →
    (e : Ty) × (t ≡ compound2 a_matrix int_ty e)
comp-axis None f t h = (any_ty, cc)
comp-axis (Some k) f t h = list-axis int_ty (f k) t h

axis-of : (m : Ex) (g : Names Ty) → HasTypes m g → is_empty_list m ≡ false → (t : Ty) → type_of m g ≡ Some t → AxisOf (index_dom m) t g
axis-of (node_ex false matrix_literal no_exs) g h n t e = never _ n
axis-of (node_ex false matrix_literal (more_exs x es)) g h n t e =
    let a = literal-axis (type_of x g) (all_some (types_of es g)) t e in (a.0, a.1, (refl, tt, (refl, tt, tt)))
axis-of (matrix_ex es d) g h n t e = let a = then-axis (type_of_dom d) (all_some (types_of es g)) join_all t e in (a.0, a.1, h.2)
axis-of (comp_ex x gs) g h n t e =
    let a = comp-axis (types_under gs g) (type_of x) t e in
    let s = word-types Fun.Sum (comp_ex (number_ex (pos 1)) gs) (compound2 a_matrix int_ty int_ty) int_ty g (h.0, tt)
    (comp-type (number_ex (pos 1)) gs int_ty g h.0 refl) refl in
    (a.0, a.1, (refl, tt, (ap (λ o. agrees o int_ty) s.1, s.0, tt)))
axis-of m g h n t e = plain-axis (dom_followed m) t g (followed-opt m g h t e)

-- ---- conditions

agree-index : (i e : Ty) (s : Static) (u : Option Ty) (v w : Ty) → u ≡ Some w → step_ty (compound2 a_matrix i e) s u ≡ Some v → Agree i w
agree-index i e s u v w p h = go (join i w) (sym (ap (λ z. step_ty (compound2 a_matrix i e) s z) p) ∙ h)
  where
    go : (j : Option Ty) → option_map (λ z. e) j ≡ Some v → is_some j ≡ true
    go None h = cc
    go (Some z) h = refl

-- One step.
one-index : (k : Names Origin) (x : Text) (o : Option Dom) (m i : Ex) (t u v : Ty) (g : Names Ty) → AxisOf o t g → HasTypes i g →
    type_of i g ≡ Some u → step_ty t (static i) (type_of i g) ≡ Some v → HasTypes (at_step by_value m (more_exs i no_exs)) g →
    type_of (at_step by_value m (more_exs i no_exs)) g ≡ Some v → Conds (index_conditions k x o m i) g
one-index k x (Some d) m i t u v g a h p e hs ps = unless-conds (is_sure k i d) (in_dom x i d) g
    (in-dom-cond x i d u g h p (agree-index (type_of_dom d) a.0 (static i) (type_of i g) v u p
    (subst (λ z. step_ty z (static i) (type_of i g) ≡ Some v) a.1 e)) a.2)
one-index k x None m i t u v g a h p e hs ps = (
  two-cond Op2.Eq (at_step by_value m (more_exs i no_exs)) (at_step by_value m (more_exs i no_exs)) v v g hs hs ps ps
      (fits-bool (join v v) (itself v)),
  tt,
)

step-type : (q : Step) (o : Option Ty) (s : Static) (ss : List Static) (us : List (Option Ty)) (t v : Ty) → o ≡ Some t →
    path_ty t (q ∷ []) ss us ≡ Some v → type_of_node (index (q ∷ [])) (s ∷ ss) (o ∷ us) ≡ Some v
step-type q o s ss us t v p e = node-path o (q ∷ []) s ss us t p ∙ e

-- Each step by a value, one behind the other.
pub path-conds : (k : Names Origin) (x : Text) (m : Ex) (qs : List Step) (is : Exs) (t : Ty) (g : Names Ty) → HasTypes m g →
    is_empty_list m ≡ false →
    type_of m g ≡ Some t → HaveTypes is g → (v : Ty) → path_ty t qs (statics is) (types_of is g) ≡ Some v → Conds
    (path_conditions k x m qs is) g
path-conds k x m [] is t g h n p hs v e = tt
path-conds k x m (by_value ∷ qs) no_exs t g h n p hs v e = tt
path-conds k x m (by_value ∷ qs) (more_exs i is) t g h n p hs v e =
    let w = then-there (step_ty t (static i) (type_of i g)) (λ w. path_ty w qs (statics is) (types_of is g)) v e in
    let u = its-type i g hs.0 in
    let s : type_of (at_step by_value m (more_exs i no_exs)) g ≡ Some w.0 = step-type by_value (type_of m g) (static m) (static i ∷ [])
    (type_of i g ∷ []) t w.0 p (ap (λ o. and_then o (λ z. Some z)) w.1) in
    let y : HasTypes (at_step by_value m (more_exs i no_exs)) g = (ap is_some s, ap not n, (h, (hs.0, tt))) in
    both-conds (index_conditions k x (index_dom m) m i) (path_conditions k x (at_step by_value m (more_exs i no_exs)) qs is) g
    (one-index k x (index_dom m) m i t u.0 w.0 g (axis-of m g h n t p) hs.0 u.1 w.1 y s)
    (path-conds k x (at_step by_value m (more_exs i no_exs)) qs is w.0 g y refl s hs.1 v w.2)
path-conds k x m (to_component c ∷ qs) is t g h n p hs v e =
    let w = then-there (part_ty t (a_number c)) (λ w. path_ty w qs (statics is) (types_of is g)) v e in
    let s : type_of (at_step (to_component c) m no_exs) g ≡ Some w.0 = step-type (to_component c) (type_of m g) (static m) [] [] t w.0 p
    (ap (λ o. and_then o (λ z. Some z)) w.1) in
    path-conds k x (at_step (to_component c) m no_exs) qs is w.0 g (ap is_some s, ap not n, (h, tt)) refl s hs v w.2
path-conds k x m (to_field a ∷ qs) is t g h n p hs v e =
    let w = then-there (part_ty t (a_name a)) (λ w. path_ty w qs (statics is) (types_of is g)) v e in
    let s : type_of (at_step (to_field a) m no_exs) g ≡ Some w.0 = step-type (to_field a) (type_of m g) (static m) [] [] t w.0 p
    (ap (λ o. and_then o (λ z. Some z)) w.1) in
    path-conds k x (at_step (to_field a) m no_exs) qs is w.0 g (ap is_some s, ap not n, (h, tt)) refl s hs v w.2
