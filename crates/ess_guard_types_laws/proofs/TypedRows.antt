-- Row by row: an operator's own conditions have types where the operator has one.
use Rattle.std.proofs.Common.{◌≡◌, refl, sym, ap, ◌∙◌, true, List, [], ◌∷◌, Option, Some, None, is_some}
use Rattle.ess_semantics.specs.declared.words.Op2.{Op2}
use Rattle.ess_semantics.specs.declared.words.Fun.{Fun}
use Rattle.ess_semantics.specs.Lists.{and_then, all_some}
use Rattle.ess_semantics.specs.Values.{Text}
use Rattle.ess_semantics.specs.Names.{Names}
use Rattle.ess_semantics.specs.Trees.{Op, binary, word, index, function_literal, partition_literal, Ex, Exs, no_exs, more_exs}
use Rattle.ess_semantics.specs.Types.{Ty, int_ty, join_all}
use Rattle.ess_semantics.specs.OperatorTypes.{member_ty, function_ty, partition_ty, type_of_op}
use Rattle.ess_semantics.specs.Typing.{static, statics, path_ty, type_of_node, type_of, types_of}
use Rattle.ess_semantics.proofs.Tests.{not-true}
use Rattle.ess_guard_laws.specs.Origins.{Origin}
use Rattle.ess_guard_laws.specs.Conditions.{own}
use Rattle.ess_guard_types_laws.specs.HasTypes.{is_empty_list, indexes_items, HaveTypes}
use Rattle.ess_guard_types_laws.proofs.TypedConditions.{Conds, two-type, its-type, there}
use Rattle.ess_guard_types_laws.proofs.TypedNumbers.{Num, is_num, both-numbers, quotient-conds, power-conds}
use Rattle.ess_guard_types_laws.proofs.TypedItems.{some-item-conds, extreme-members, image-conds, party-conds}
use Rattle.ess_guard_types_laws.proofs.TypedLiterals.{function-conds, partition-conds}
use Rattle.ess_guard_types_laws.proofs.TypedIndices.{path-conds}

-- Both operands of an operator on numbers.
both-are : (o : Op2) (a b : Ex) (g : Names Ty) → HaveTypes (more_exs a (more_exs b no_exs)) g →
    ((t u : Ty) → is_some (type_of_op (binary o) (t ∷ u ∷ [])) ≡ true → is_num t × is_num u) →
    is_some (and_then (all_some (type_of a g ∷ type_of b g ∷ [])) (type_of_op (binary o))) ≡ true → Num a g × Num b g
both-are o a b g h f i =
    let t = its-type a g h.0 in
    let u = its-type b g h.1.0 in
    let n = f t.0 u.0 (sym (ap is_some (two-type o (type_of a g) (type_of b g) t.0 u.0 t.1 u.1)) ∙ i) in
    (record { typed = h.0; ty = t.0; has = t.1; num = n.0 }, record { typed = h.1.0; ty = u.0; has = u.1; num = n.1 })

-- An operand that has a least item.
extreme-min : (o : Option Ty) → is_some (and_then (all_some (o ∷ [])) (type_of_op (word Fun.Min))) ≡ true → is_some
    (and_then o member_ty) ≡ true
extreme-min None h = h
extreme-min (Some t) h = extreme-members t h

extreme-max : (o : Option Ty) → is_some (and_then (all_some (o ∷ [])) (type_of_op (word Fun.Max))) ≡ true → is_some
    (and_then o member_ty) ≡ true
extreme-max None h = h
extreme-max (Some t) h = extreme-members t h

two-there : (op : Op) (x y : Option Ty) (a b : Ty) → x ≡ Some a → y ≡ Some b → is_some
    (and_then (all_some (x ∷ y ∷ [])) (type_of_op op)) ≡ true →
    is_some (type_of_op op (a ∷ b ∷ [])) ≡ true
two-there op x y a b p q i =
    sym (ap is_some (ap (λ z. and_then (all_some (z ∷ y ∷ [])) (type_of_op op)) p
    ∙ ap (λ z. and_then (all_some (Some a ∷ z ∷ [])) (type_of_op op)) q)) ∙ i

-- The types of a literal's items agree.
record Joined (us : List (Option Ty)) (f : Ty → Option Ty) : Type 0 where
  ts : List Ty
  all : all_some us ≡ Some ts
  ty : Ty
  joined : join_all ts ≡ Some ty
  fits : is_some (f ty) ≡ true

joined-items : (us : List (Option Ty)) (f : Ty → Option Ty) → is_some (and_then (all_some us) (λ ts. and_then (join_all ts) f)) ≡ true →
    Joined us f
joined-items us f h = go (all_some us) refl h
  where
    in-all : (ts : List Ty) → all_some us ≡ Some ts → (j : Option Ty) → join_all ts ≡ j → is_some (and_then j f) ≡ true → Joined us f
    in-all ts q None r h = record { ts = ts; all = q; ty = int_ty; joined = cc; fits = cc }
    in-all ts q (Some t) r h = record { ts = ts; all = q; ty = t; joined = r; fits = h }

    go : (o : Option (List Ty)) → all_some us ≡ o → is_some (and_then o (λ ts. and_then (join_all ts) f)) ≡ true → Joined us f
    go None q h = record { ts = []; all = cc; ty = int_ty; joined = cc; fits = cc }
    go (Some ts) q h = in-all ts q (join_all ts) refl h

-- The conditions of an operator itself.
pub own-conds : (k : Names Origin) (x y : Text) (op : Op) (es : Exs) (g : Names Ty) → HaveTypes es g → indexes_items op es ≡ true →
    is_some (type_of_node op (statics es) (types_of es g)) ≡ true → Conds (own k x y op es) g
own-conds k x y (binary Op2.Div) (more_exs a (more_exs b no_exs)) g h n i =
    let m = both-are Op2.Div a b g h (λ t u z. both-numbers t u z) i in quotient-conds k b g m.1
own-conds k x y (binary Op2.Mod) (more_exs a (more_exs b no_exs)) g h n i =
    let m = both-are Op2.Mod a b g h (λ t u z. both-numbers t u z) i in quotient-conds k b g m.1
own-conds k x y (binary Op2.Pow) (more_exs a (more_exs b no_exs)) g h n i =
    let m = both-are Op2.Pow a b g h (λ t u z. both-numbers t u z) i in power-conds k a b g m.0 m.1
own-conds k x y (word Fun.Min) (more_exs s no_exs) g h n i = some-item-conds x s g h.0 (extreme-min (type_of s g) i)
own-conds k x y (word Fun.Max) (more_exs s no_exs) g h n i = some-item-conds x s g h.0 (extreme-max (type_of s g) i)
own-conds k x y (word Fun.Image) (more_exs f (more_exs a no_exs)) g h n i =
    let t = its-type f g h.0 in
    let u = its-type a g h.1.0 in
    image-conds k f a t.0 u.0 g h.0 t.1 h.1.0 u.1 (two-there (word Fun.Image) (type_of f g) (type_of a g) t.0 u.0 t.1 u.1 i)
own-conds k x y (word Fun.Party) (more_exs a (more_exs p no_exs)) g h n i =
    let u = its-type a g h.0 in
    let t = its-type p g h.1.0 in
    party-conds a p u.0 t.0 g h.0 u.1 h.1.0 t.1 (two-there (word Fun.Party) (type_of a g) (type_of p g) u.0 t.0 u.1 t.1 i)
own-conds k x y function_literal es g h n i =
    let j = joined-items (types_of es g) function_ty i in function-conds es j.ts g h j.all (ap is_some j.joined)
own-conds k x y partition_literal es g h n i =
    let j = joined-items (types_of es g) partition_ty i in partition-conds x y es j.ts j.ty g h j.all j.joined j.fits
own-conds k x y (index qs) no_exs g h n i = tt
own-conds k x y (index qs) (more_exs m is) g h n i =
    let t = its-type m g h.0 in
    let v = there (path_ty t.0 qs (statics is) (types_of is g))
    (sym (ap (λ z. is_some (type_of_node (index qs) (static m ∷ statics is) (z ∷ types_of is g))) t.1) ∙ i) in
    path-conds k x m qs is t.0 g h.0 (not-true (is_empty_list m) n) t.1 h.1 v.0 v.1
own-conds k x y op es g h n i = tt
