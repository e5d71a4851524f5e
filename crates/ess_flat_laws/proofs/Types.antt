-- Types of flat trees over cells: none is of compound values. So no rule that asks for such a type fires.
use Rattle.std.proofs.Common.{◌≡◌, refl, Bool, true, false, if◌then◌else◌, [], ◌∷◌, Option, Some, None, option_map}
use Rattle.ess_semantics.specs.declared.words.Op1.{Op1}
use Rattle.ess_semantics.specs.declared.words.Op2.{Op2}
use Rattle.ess_semantics.specs.declared.words.Fun.{Fun}
use Rattle.ess_semantics.specs.Lists.{and_then, all_some, when}
use Rattle.ess_semantics.specs.Values.{Text}
use Rattle.ess_semantics.specs.Order.{same_text}
use Rattle.ess_semantics.specs.Names.{Names, look}
use Rattle.ess_semantics.specs.Trees.{unary, binary, word, Ex}
use Rattle.ess_semantics.specs.Types.{Ty, any_ty, bool_ty, int_ty, named_ty, compound, join}
use Rattle.ess_semantics.specs.OperatorTypes.{type_of_op, type_of_unary, type_of_binary, sized, subtracted, compared}
use Rattle.ess_semantics.specs.Typing.{type_of, number_cell_ty}
use Rattle.ess_open_rules_laws.specs.OpenRules.{is_compound_ty}
use Rattle.ess_flat_laws.specs.Flat.{OneOp, denied, negative, absolute, TwoOp, both, either, implied, agreeing, equal, unequal, below, at_most, above, at_least, sum, difference, product, Flat, number, truth, named, cell, one, two, chosen, none_marked}

-- ---- what two types agree to

-- Where two types agree the answer is this one.
int-fits : (o : Option Ty) → is_compound_ty (option_map (λ v. int_ty) o) ≡ false
int-fits None = refl
int-fits (Some t) = refl

bool-fits : (o : Option Ty) → is_compound_ty (option_map (λ v. bool_ty) o) ≡ false
bool-fits None = refl
bool-fits (Some t) = refl

-- An answer behind a type.
behind : (o : Option Ty) (f : Ty → Option Ty) → is_compound_ty o ≡ false
    → ((t : Ty) → is_compound_ty (Some t) ≡ false → is_compound_ty (f t) ≡ false) → is_compound_ty (and_then o f) ≡ false
behind None f p h = refl
behind (Some t) f p h = h t p

when-plain : (b : Bool) (a : Text) → is_compound_ty (when b (named_ty a)) ≡ false
when-plain true a = refl
when-plain false a = refl

-- What two types that aren't of compound values agree to isn't of one.
join-plain : (t u : Ty) → is_compound_ty (Some t) ≡ false → is_compound_ty (Some u) ≡ false → is_compound_ty (join t u) ≡ false
join-plain any_ty u p q = q
join-plain bool_ty any_ty p q = refl
join-plain bool_ty bool_ty p q = refl
join-plain int_ty any_ty p q = refl
join-plain int_ty int_ty p q = refl
join-plain (named_ty a) any_ty p q = refl
join-plain (named_ty a) (named_ty b) p q = when-plain (same_text a b) a
join-plain (compound k ts) any_ty p q = cc
join-plain (compound k ts) (compound l us) p q = cc
join-plain t u p q = refl

subtracted-plain : (t : Ty) → is_compound_ty (Some t) ≡ false → is_compound_ty (subtracted t) ≡ false
subtracted-plain any_ty p = refl
subtracted-plain bool_ty p = refl
subtracted-plain int_ty p = refl
subtracted-plain (named_ty a) p = refl
subtracted-plain (compound k ts) p = cc

compared-plain : (t : Ty) → is_compound_ty (Some t) ≡ false → is_compound_ty (compared t) ≡ false
compared-plain any_ty p = refl
compared-plain bool_ty p = refl
compared-plain int_ty p = refl
compared-plain (named_ty a) p = refl
compared-plain (compound k ts) p = cc

sized-plain : (t : Ty) → is_compound_ty (Some t) ≡ false → is_compound_ty (sized t) ≡ false
sized-plain any_ty p = refl
sized-plain bool_ty p = refl
sized-plain int_ty p = refl
sized-plain (named_ty a) p = refl
sized-plain (compound k ts) p = cc

-- ---- operators

unary-plain : {b m : Bool} {o : Op1} → OneOp b o m → (t : Ty) → is_compound_ty (Some t) ≡ false
    → is_compound_ty (type_of_unary o t) ≡ false
unary-plain denied t p = bool-fits (join t bool_ty)
unary-plain negative t p = int-fits (join t int_ty)
unary-plain absolute t p = sized-plain t p

binary-plain : {b m k : Bool} {o : Op2} → TwoOp b o m k → (t u : Ty) → is_compound_ty (Some t) ≡ false
    → is_compound_ty (Some u) ≡ false → is_compound_ty (type_of_binary o t u) ≡ false
binary-plain both t u p q = behind (join t u) (λ v. option_map (λ w. bool_ty) (join v bool_ty)) (join-plain t u p q)
    (λ v h. bool-fits (join v bool_ty))
binary-plain either t u p q = behind (join t u) (λ v. option_map (λ w. bool_ty) (join v bool_ty)) (join-plain t u p q)
    (λ v h. bool-fits (join v bool_ty))
binary-plain implied t u p q = behind (join t u) (λ v. option_map (λ w. bool_ty) (join v bool_ty)) (join-plain t u p q)
    (λ v h. bool-fits (join v bool_ty))
binary-plain agreeing t u p q = behind (join t u) (λ v. option_map (λ w. bool_ty) (join v bool_ty)) (join-plain t u p q)
    (λ v h. bool-fits (join v bool_ty))
binary-plain equal t u p q = bool-fits (join t u)
binary-plain unequal t u p q = bool-fits (join t u)
binary-plain below t u p q = behind (join t u) compared (join-plain t u p q) compared-plain
binary-plain at_most t u p q = behind (join t u) compared (join-plain t u p q) compared-plain
binary-plain above t u p q = behind (join t u) compared (join-plain t u p q) compared-plain
binary-plain at_least t u p q = behind (join t u) compared (join-plain t u p q) compared-plain
binary-plain sum t u p q = behind (join t u) (λ v. option_map (λ w. int_ty) (join v int_ty)) (join-plain t u p q)
    (λ v h. int-fits (join v int_ty))
binary-plain difference t u p q = behind (join t u) subtracted (join-plain t u p q) subtracted-plain
binary-plain product t u p q = behind (join t u) (λ v. option_map (λ w. int_ty) (join v int_ty)) (join-plain t u p q)
    (λ v h. int-fits (join v int_ty))

one-plain : {b m : Bool} {o : Op1} → OneOp b o m → (t : Option Ty) → is_compound_ty t ≡ false
    → is_compound_ty (and_then (all_some (t ∷ [])) (type_of_op (unary o))) ≡ false
one-plain w None p = refl
one-plain w (Some t) p = unary-plain w t p

two-plain : {b m k : Bool} {o : Op2} → TwoOp b o m k → (t u : Option Ty) → is_compound_ty t ≡ false → is_compound_ty u ≡ false
    → is_compound_ty (and_then (all_some (t ∷ u ∷ [])) (type_of_op (binary o))) ≡ false
two-plain w None u p q = refl
two-plain w (Some t) None p q = refl
two-plain w (Some t) (Some u) p q = binary-plain w t u p q

chosen-plain : (t : Option Ty) → is_compound_ty (and_then (all_some (t ∷ [])) (type_of_op (word Fun.ToInt))) ≡ false
chosen-plain None = refl
chosen-plain (Some t) = int-fits (join t bool_ty)

cell-plain : (b : Bool) (o : Option Ty) → is_compound_ty (Some (if b then bool_ty else number_cell_ty o)) ≡ false
cell-plain true o = refl
cell-plain false None = refl
cell-plain false (Some any_ty) = refl
cell-plain false (Some bool_ty) = refl
cell-plain false (Some int_ty) = refl
cell-plain false (Some (named_ty t)) = refl
cell-plain false (Some (compound k ts)) = refl

-- ---- trees

-- The type of a flat tree over cells isn't of compound values, whichever types names have.
pub flat-type : (cells : Text → Option Bool) (g : Names Ty) (e : Ex) (m : Bool) → Flat none_marked cells e m
    → is_compound_ty (type_of e g) ≡ false
flat-type cells g e m number = refl
flat-type cells g e m truth = refl
flat-type cells g e m (named h) = cc
flat-type cells g e m (cell {b = b} {a = a} h) = cell-plain b (look g a)
flat-type cells g e m (one {m = k} {x = x} o f) = one-plain o (type_of x g) (flat-type cells g x k f)
flat-type cells g e m (two {m = i} {k = k} {x = x} {y = y} o f h c) =
    two-plain o (type_of x g) (type_of y g) (flat-type cells g x i f) (flat-type cells g y k h)
flat-type cells g e m (chosen {x = x} f) = chosen-plain (type_of x g)
