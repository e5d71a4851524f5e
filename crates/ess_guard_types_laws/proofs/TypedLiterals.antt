-- Conditions on literals of functions, partitions and matrices have types.
use Rattle.std.proofs.Common.{◌≡◌, refl, sym, ap, ◌∙◌, subst, true, false, if◌then◌else◌, List, [], ◌∷◌, Option, Some, None, option_map, is_some}
use Rattle.ess_semantics.specs.declared.words.Op2.{Op2}
use Rattle.ess_semantics.specs.declared.words.Fun.{Fun}
use Rattle.ess_semantics.specs.Lists.{and_then, all_some}
use Rattle.ess_semantics.specs.Values.{Text, a_tuple, a_set, a_matrix}
use Rattle.ess_semantics.specs.Names.{Names, look}
use Rattle.ess_semantics.specs.Constants.{operand_count}
use Rattle.ess_semantics.specs.Trees.{name_pat, tuple_literal, matrix_literal, Ex, Exs, name_ex, node_ex, comp_ex, no_exs, more_exs, no_gens, from, Dom, ex2}
use Rattle.ess_semantics.specs.Types.{Ty, any_ty, bool_ty, int_ty, compound, no_tys, more_tys, compound1, compound2, join, join_all, or_any}
use Rattle.ess_semantics.specs.OperatorTypes.{member_ty, partition_ty, type_of_list, type_of_op}
use Rattle.ess_semantics.specs.Typing.{type_of, types_of, source_ty}
use Rattle.ess_semantics.proofs.Texts.{same_text-itself}
use Rattle.ess_guard_laws.specs.Conditions.{unless, some_item, agree, have_other_arguments, agree_all, function_conditions, have_members, are_disjoint, is_single_set, partition_conditions, has_size, matrix_conditions}
use Rattle.ess_guard_types_laws.specs.HasTypes.{HasTypes, HaveTypes, GensHaveTypes, DomHasTypes}
use Rattle.ess_guard_types_laws.proofs.TypedConditions.{Cond, Conds, both-conds, unless-conds, two-cond, word-cond, its-type, comp-type}
use Rattle.ess_guard_types_laws.proofs.JoinedTypes.{Agree, EachAgrees, each-agrees}
use Rattle.ess_guard_types_laws.proofs.TypedItems.{some-item-conds, fits-bool}

-- ---- types of operands

-- The first of several types that are there, and the rest.
pub first-type : (o : Option Ty) (r : Option (List Ty)) (ts : List Ty) → and_then o (λ x. option_map (λ ys. x ∷ ys) r) ≡ Some ts →
    (t : Ty) × (us : List Ty) × (o ≡ Some t) × (r ≡ Some us) × (t ∷ us ≡ ts)
first-type None r ts e = (any_ty, [], cc, cc, cc)
first-type (Some t) None ts e = (any_ty, [], cc, cc, cc)
first-type (Some t) (Some us) ts e = (t, us, refl, refl, cc)

-- Each of these operands has a type with which this one agrees.
abbrev AgreesWith : Ty → Exs → Names Ty → Type 0
AgreesWith t no_exs g = Unit {0}
AgreesWith t (more_exs e es) g = ((u : Ty) × (type_of e g ≡ Some u) × Agree t u) × AgreesWith t es g

agrees-with : (t : Ty) (es : Exs) (g : Names Ty) (us : List Ty) → all_some (types_of es g) ≡ Some us → EachAgrees t us → AgreesWith t es g
agrees-with t no_exs g us e h = tt
agrees-with t (more_exs x es) g us e h =
    let r = first-type (type_of x g) (all_some (types_of es g)) us e in
    let k : EachAgrees t (r.0 ∷ r.1) = subst (EachAgrees t) (sym r.4) h in ((r.0, r.2, k.0), agrees-with t es g r.1 r.3 k.1)

-- ---- functions

pair-type : (x y : Option Ty) (a b : Ty) → x ≡ Some a → y ≡ Some b →
    and_then (all_some (x ∷ y ∷ [])) (type_of_op tuple_literal) ≡ Some (compound2 a_tuple a b)
pair-type x y a b p q =
    ap (λ z. and_then (all_some (z ∷ y ∷ [])) (type_of_op tuple_literal)) p
    ∙ ap (λ z. and_then (all_some (Some a ∷ z ∷ [])) (type_of_op tuple_literal)) q

both-parts : (x y : Option Ty) → is_some (option_map (compound a_tuple) (and_then x (λ v. option_map (more_tys v)
    (and_then y (λ w. option_map (more_tys w) (Some no_tys)))))) ≡ true → (is_some x ≡ true) × (is_some y ≡ true)
both-parts None y h = (cc, cc)
both-parts (Some v) None h = (cc, cc)
both-parts (Some v) (Some w) h = (refl, refl)

same-type : (o : Option Ty) (a b : Ty) → o ≡ Some a → o ≡ Some b → a ≡ b
same-type o a b p q = let r : Some a ≡ Some b = sym p ∙ q in cc

agree-cond : (p q : Ex) (t u : Ty) (g : Names Ty) → HasTypes p g → HasTypes q g → type_of p g ≡ Some t → type_of q g ≡ Some u → Agree t u →
    Cond (agree p q) g
agree-cond (node_ex false tuple_literal (more_exs a (more_exs b no_exs)))
    (node_ex false tuple_literal (more_exs c (more_exs d no_exs))) t u g
    h k p q w =
    let ta = its-type a g h.2.0 in
    let tb = its-type b g h.2.1.0 in
    let tc = its-type c g k.2.0 in
    let td = its-type d g k.2.1.0 in
    let r : t ≡ compound2 a_tuple ta.0 tb.0 = same-type _ t (compound2 a_tuple ta.0 tb.0) p
    (pair-type (type_of a g) (type_of b g) ta.0 tb.0 ta.1 tb.1) in
    let s : u ≡ compound2 a_tuple tc.0 td.0 = same-type _ u (compound2 a_tuple tc.0 td.0) q
    (pair-type (type_of c g) (type_of d g) tc.0 td.0 tc.1 td.1) in
    let z : Agree (compound2 a_tuple ta.0 tb.0) (compound2 a_tuple tc.0 td.0) = subst (λ z. Agree (compound2 a_tuple ta.0 tb.0) z) s
    (subst (λ z. Agree z u) r w) in
    let m = both-parts (join ta.0 tc.0) (join tb.0 td.0) z in
    let x : Cond (ex2 true Op2.Eq a c) g = two-cond Op2.Eq a c ta.0 tc.0 g h.2.0 k.2.0 ta.1 tc.1 (fits-bool (join ta.0 tc.0) m.0) in
    let y : Cond (ex2 true Op2.Eq b d) g = two-cond Op2.Eq b d tb.0 td.0 g h.2.1.0 k.2.1.0 tb.1 td.1 (fits-bool (join tb.0 td.0) m.1) in
    two-cond Op2.Implies (ex2 true Op2.Eq a c) (ex2 true Op2.Eq b d) bool_ty bool_ty g x.typed y.typed x.bool y.bool refl
agree-cond p q t u g h k e f w = record { typed = tt; bool = refl }

agree-conds : (p : Ex) (t : Ty) (qs : Exs) (g : Names Ty) → HasTypes p g → type_of p g ≡ Some t → HaveTypes qs g → AgreesWith t qs g →
    Conds (agree_all p qs) g
agree-conds p t no_exs g h e k a = tt
agree-conds p t (more_exs q qs) g h e k a =
    let b = a.0 in
    both-conds (unless (have_other_arguments p q) (agree p q)) (agree_all p qs) g
    (unless-conds (have_other_arguments p q) (agree p q) g (agree-cond p q t b.0 g h k.0 e b.1 b.2)) (agree-conds p t qs g h e k.1 a.1)

joined-rest : (o : Option Ty) (t : Ty) → is_some (and_then o (join t)) ≡ true → (j : Ty) × (o ≡ Some j) × Agree t j
joined-rest None t h = (any_ty, cc, cc)
joined-rest (Some j) t h = (j, refl, h)

-- That pairs have one value for each argument.
pub function-conds : (es : Exs) (ts : List Ty) (g : Names Ty) → HaveTypes es g → all_some (types_of es g) ≡ Some ts →
    is_some (join_all ts) ≡ true → Conds (function_conditions es) g
function-conds no_exs ts g h e i = tt
function-conds (more_exs p ps) ts g h e i =
    let r = first-type (type_of p g) (all_some (types_of ps g)) ts e in
    let k : is_some (and_then (join_all r.1) (join r.0)) ≡ true = subst (λ z. is_some (join_all z) ≡ true) (sym r.4) i in
    let j = joined-rest (join_all r.1) r.0 k in
    both-conds (agree_all p ps) (function_conditions ps) g
    (agree-conds p r.0 ps g h.0 r.2 h.1 (agrees-with r.0 ps g r.1 r.3 (each-agrees r.1 j.0 j.1 r.0 j.2)))
    (function-conds ps r.1 g h.1 r.3 (ap is_some j.1))

-- ---- partitions

set-members : (t : Ty) → Agree (compound1 a_set any_ty) t → is_some (member_ty t) ≡ true
set-members any_ty h = refl
set-members (compound a_set (more_tys b no_tys)) h = refl
set-members (compound a_set no_tys) h = cc
set-members (compound a_set (more_tys b (more_tys c ts))) h = cc
set-members _ h = cc

set-joined : (j : Ty) → is_some (partition_ty j) ≡ true → Agree (compound1 a_set any_ty) j × (is_some (member_ty j) ≡ true)
set-joined any_ty h = (refl, refl)
set-joined (compound a_set (more_tys a no_tys)) h = (refl, refl)
set-joined _ h = (cc, cc)

members-conds : (x : Text) (es : Exs) (g : Names Ty) → HaveTypes es g → AgreesWith (compound1 a_set any_ty) es g → Conds
    (have_members x es) g
members-conds x no_exs g h a = tt
members-conds x (more_exs e es) g h a =
    let b = a.0 in both-conds (some_item x e) (have_members x es) g
    (some-item-conds x e g h.0 (ap (λ o. is_some (and_then o member_ty)) b.1 ∙ set-members b.0 b.2)) (members-conds x es g h.1 a.1)

list-type : (ts : List Ty) (j : Ty) → join_all ts ≡ Some j → (i : Ty) × (type_of_list ts ≡ Some (compound2 a_matrix i j))
list-type [] j e = let q : any_ty ≡ j = cc in (any_ty, ap (λ z. Some (compound2 a_matrix any_ty z)) q)
list-type (t ∷ ts) j e = (int_ty, ap (option_map (compound2 a_matrix int_ty)) e)

look-first : (a : Text) (t : Ty) (g : Names Ty) → look ((a, t) ∷ g) a ≡ Some t
look-first a t g = ap (λ b. if b then Some t else look g a) (same_text-itself a)

-- That no two parts share a member.
disjoint-cond : (x y : Text) (es : Exs) (ts : List Ty) (j : Ty) (g : Names Ty) → HaveTypes es g → all_some (types_of es g) ≡ Some ts →
    join_all ts ≡ Some j → is_some (member_ty j) ≡ true → Cond (are_disjoint x y es) g
disjoint-cond x y es ts j g h e q m =
    let l = list-type ts j q in
    let n : Ex = node_ex false matrix_literal es in
    let p : type_of n g ≡ Some (compound2 a_matrix l.0 j) = ap (λ o. and_then o type_of_list) e ∙ l.1 in
    let s : source_ty n g ≡ j = ap (λ o. or_any (and_then o member_ty)) p in
    let k : Names Ty = (y, source_ty n g) ∷ g in
    let o : look k y ≡ Some j = look-first y (source_ty n g) g ∙ ap Some s in
    let a : is_some (and_then (type_of (name_ex y) k) member_ty) ≡ true = ap (λ z. is_some (and_then z member_ty)) o ∙ m in
    let u : Names Ty = (x, source_ty (name_ex y) k) ∷ k in
    let v : type_of (name_ex x) u ≡ Some (source_ty (name_ex y) k) = look-first x (source_ty (name_ex y) k) k in
    let b : GensHaveTypes (from (name_pat y) n (from (name_pat x) (name_ex y) no_gens)) g =
    (ap (λ z. is_some (and_then z member_ty)) p, (ap is_some p, refl, h), (a, ap is_some o, tt)) in
    word-cond Fun.AllDiff (comp_ex (name_ex x) (from (name_pat y) n (from (name_pat x) (name_ex y) no_gens)))
    (compound2 a_matrix int_ty (source_ty (name_ex y) k)) g (b, ap is_some v)
    (comp-type (name_ex x) (from (name_pat y) n (from (name_pat x) (name_ex y) no_gens)) (source_ty (name_ex y) k) g b v) refl

-- That parts have members and share none.
pub partition-conds : (x y : Text) (es : Exs) (ts : List Ty) (j : Ty) (g : Names Ty) → HaveTypes es g → all_some (types_of es g) ≡ Some ts →
    join_all ts ≡ Some j → is_some (partition_ty j) ≡ true → Conds (partition_conditions x y es) g
partition-conds x y es ts j g h e q i =
    let s = set-joined j i in
    both-conds (have_members x es) (unless (is_single_set es) (are_disjoint x y es)) g
    (members-conds x es g h (agrees-with (compound1 a_set any_ty) es g ts e (each-agrees ts j q (compound1 a_set any_ty) s.0)))
    (unless-conds (is_single_set es) (are_disjoint x y es) g (disjoint-cond x y es ts j g h e q s.1))

-- ---- matrices

-- That there is an item for each index.
pub matrix-conds : (x : Text) (es : Exs) (d : Dom) (g : Names Ty) → DomHasTypes d g → Conds (matrix_conditions x es d) g
matrix-conds x es d g h = unless-conds (has_size d (operand_count es)) _ g
    (record { typed = (refl, refl, ((refl, refl, (((h, tt), tt), tt)), (tt, tt))); bool = refl })
