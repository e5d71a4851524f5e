-- Types of bare trees: none is of compound values. So no rule that asks for such a type fires.
use Rattle.std.proofs.Common.{◌≡◌, refl, ap, ◌∙◌, ℕ, Bool, true, false, if◌then◌else◌, [], ◌∷◌, Option, Some, None, option_map}
use Rattle.ess_semantics.specs.declared.words.Op1.{Op1}
use Rattle.ess_semantics.specs.declared.words.Op2.{Op2}
use Rattle.ess_semantics.specs.declared.words.Fun.{Fun}
use Rattle.ess_semantics.specs.Lists.{and_then, all_some, when}
use Rattle.ess_semantics.specs.Values.{Text, a_matrix}
use Rattle.ess_semantics.specs.Order.{same_text}
use Rattle.ess_semantics.specs.Names.{Names, look}
use Rattle.ess_semantics.specs.Trees.{unary, binary, word, Ex, comp_ex}
use Rattle.ess_semantics.specs.Types.{Ty, any_ty, bool_ty, int_ty, named_ty, compound, compound2, join}
use Rattle.ess_semantics.specs.OperatorTypes.{type_of_op, type_of_unary, type_of_binary, sized, subtracted, compared, lex_compared, list_ty}
use Rattle.ess_semantics.specs.Typing.{type_of, number_cell_ty}
use Rattle.ess_open_rules_laws.specs.OpenRules.{is_compound_ty}
use Rattle.ess_flat_laws.specs.Flat.{OneOp, denied, negative, absolute, TwoOp, both, either, implied, agreeing, equal, unequal, below, at_most, above, at_least, sum, difference, product}
use Rattle.ess_bare_laws.specs.Bare.{LexSign, before, not_behind, TruthWord, all_hold, some_holds, Bare, number, truth, named, cell, one, two, power, chosen, folded, added, ordered}
use Rattle.ess_bare_laws.specs.BareParts.{mark_ty, marked_types}

-- ---- what two types agree to

-- Where two types agree the answer is this one.
int-fits : (o : Option Ty) → is_compound_ty (option_map (λ v. int_ty) o) ≡ false
int-fits None = refl
int-fits (Some t) = refl

bool-fits : (o : Option Ty) → is_compound_ty (option_map (λ v. bool_ty) o) ≡ false
bool-fits None = refl
bool-fits (Some t) = refl

-- An answer behind a type.
behind : (o : Option Ty) (f : Ty → Option Ty) → is_compound_ty o ≡ false
    → ((t : Ty) → is_compound_ty (Some t) ≡ false → is_compound_ty (f t) ≡ false) → is_compound_ty (and_then o f) ≡ false
behind None f p h = refl
behind (Some t) f p h = h t p

behind-any : (o : Option Ty) (f : Ty → Option Ty) → ((t : Ty) → is_compound_ty (f t) ≡ false) → is_compound_ty (and_then o f) ≡ false
behind-any None f h = refl
behind-any (Some t) f h = h t

when-plain : (b : Bool) (a : Text) → is_compound_ty (when b (named_ty a)) ≡ false
when-plain true a = refl
when-plain false a = refl

-- What two types that aren't of compound values agree to isn't of one.
join-plain : (t u : Ty) → is_compound_ty (Some t) ≡ false → is_compound_ty (Some u) ≡ false → is_compound_ty (join t u) ≡ false
join-plain any_ty u p q = q
join-plain bool_ty any_ty p q = refl
join-plain bool_ty bool_ty p q = refl
join-plain int_ty any_ty p q = refl
join-plain int_ty int_ty p q = refl
join-plain (named_ty a) any_ty p q = refl
join-plain (named_ty a) (named_ty b) p q = when-plain (same_text a b) a
join-plain (compound k ts) any_ty p q = cc
join-plain (compound k ts) (compound l us) p q = cc
join-plain t u p q = refl

subtracted-plain : (t : Ty) → is_compound_ty (Some t) ≡ false → is_compound_ty (subtracted t) ≡ false
subtracted-plain any_ty p = refl
subtracted-plain bool_ty p = refl
subtracted-plain int_ty p = refl
subtracted-plain (named_ty a) p = refl
subtracted-plain (compound k ts) p = cc

compared-any : (t : Ty) → is_compound_ty (compared t) ≡ false
compared-any any_ty = refl
compared-any bool_ty = refl
compared-any int_ty = refl
compared-any (named_ty a) = refl
compared-any (compound k ts) = refl

-- The lexicographic signs give truth values.
lex-any : (t : Ty) → is_compound_ty (lex_compared t) ≡ false
lex-any (compound2 a_matrix i e) = compared-any e
lex-any t = refl

sized-plain : (t : Ty) → is_compound_ty (Some t) ≡ false → is_compound_ty (sized t) ≡ false
sized-plain any_ty p = refl
sized-plain bool_ty p = refl
sized-plain int_ty p = refl
sized-plain (named_ty a) p = refl
sized-plain (compound k ts) p = cc

-- ---- operators

unary-plain : {b m : Bool} {o : Op1} → OneOp b o m → (t : Ty) → is_compound_ty (Some t) ≡ false
    → is_compound_ty (type_of_unary o t) ≡ false
unary-plain denied t p = bool-fits (join t bool_ty)
unary-plain negative t p = int-fits (join t int_ty)
unary-plain absolute t p = sized-plain t p

-- Of connectives, and of arithmetic.
connected : (t u : Ty) → is_compound_ty (and_then (join t u) (λ v. option_map (λ w. bool_ty) (join v bool_ty))) ≡ false
connected t u = behind-any (join t u) (λ v. option_map (λ w. bool_ty) (join v bool_ty)) (λ v. bool-fits (join v bool_ty))

reckoned : (t u : Ty) → is_compound_ty (and_then (join t u) (λ v. option_map (λ w. int_ty) (join v int_ty))) ≡ false
reckoned t u = behind-any (join t u) (λ v. option_map (λ w. int_ty) (join v int_ty)) (λ v. int-fits (join v int_ty))

binary-plain : {b m k : Bool} {o : Op2} → TwoOp b o m k → (t u : Ty) → is_compound_ty (Some t) ≡ false
    → is_compound_ty (Some u) ≡ false → is_compound_ty (type_of_binary o t u) ≡ false
binary-plain both t u p q = connected t u
binary-plain either t u p q = connected t u
binary-plain implied t u p q = connected t u
binary-plain agreeing t u p q = connected t u
binary-plain equal t u p q = bool-fits (join t u)
binary-plain unequal t u p q = bool-fits (join t u)
binary-plain below t u p q = behind-any (join t u) compared compared-any
binary-plain at_most t u p q = behind-any (join t u) compared compared-any
binary-plain above t u p q = behind-any (join t u) compared compared-any
binary-plain at_least t u p q = behind-any (join t u) compared compared-any
binary-plain sum t u p q = reckoned t u
binary-plain difference t u p q = behind (join t u) subtracted (join-plain t u p q) subtracted-plain
binary-plain product t u p q = reckoned t u

one-plain : {b m : Bool} {o : Op1} → OneOp b o m → (t : Option Ty) → is_compound_ty t ≡ false
    → is_compound_ty (and_then (all_some (t ∷ [])) (type_of_op (unary o))) ≡ false
one-plain w None p = refl
one-plain w (Some t) p = unary-plain w t p

two-plain : {b m k : Bool} {o : Op2} → TwoOp b o m k → (t u : Option Ty) → is_compound_ty t ≡ false → is_compound_ty u ≡ false
    → is_compound_ty (and_then (all_some (t ∷ u ∷ [])) (type_of_op (binary o))) ≡ false
two-plain w None u p q = refl
two-plain w (Some t) None p q = refl
two-plain w (Some t) (Some u) p q = binary-plain w t u p q

power-plain : (t u : Option Ty) → is_compound_ty (and_then (all_some (t ∷ u ∷ [])) (type_of_op (binary Op2.Pow))) ≡ false
power-plain None u = refl
power-plain (Some t) None = refl
power-plain (Some t) (Some u) = reckoned t u

lex-plain : {o : Op2} → LexSign o → (t u : Option Ty) → is_compound_ty (and_then (all_some (t ∷ u ∷ [])) (type_of_op (binary o))) ≡ false
lex-plain w None u = refl
lex-plain w (Some t) None = refl
lex-plain before (Some t) (Some u) = behind-any (join t u) lex_compared lex-any
lex-plain not_behind (Some t) (Some u) = behind-any (join t u) lex_compared lex-any

chosen-plain : (t : Option Ty) → is_compound_ty (and_then (all_some (t ∷ [])) (type_of_op (word Fun.ToInt))) ≡ false
chosen-plain None = refl
chosen-plain (Some t) = int-fits (join t bool_ty)

truths-plain : {f : Fun} → TruthWord f → (t : Option Ty) → is_compound_ty (and_then (all_some (t ∷ [])) (type_of_op (word f))) ≡ false
truths-plain w None = refl
truths-plain all_hold (Some t) = behind-any (list_ty t) _ (λ e. bool-fits (join e bool_ty))
truths-plain some_holds (Some t) = behind-any (list_ty t) _ (λ e. bool-fits (join e bool_ty))

numbers-plain : (t : Option Ty) → is_compound_ty (and_then (all_some (t ∷ [])) (type_of_op (word Fun.Sum))) ≡ false
numbers-plain None = refl
numbers-plain (Some t) = behind-any (list_ty t) _ (λ e. int-fits (join e int_ty))

cell-plain : (b : Bool) (o : Option Ty) → is_compound_ty (Some (if b then bool_ty else number_cell_ty o)) ≡ false
cell-plain true o = refl
cell-plain false None = refl
cell-plain false (Some any_ty) = refl
cell-plain false (Some bool_ty) = refl
cell-plain false (Some int_ty) = refl
cell-plain false (Some (named_ty t)) = refl
cell-plain false (Some (compound k ts)) = refl

-- ---- names

mark-plain : (m : Bool) → is_compound_ty (Some (mark_ty m)) ≡ false
mark-plain true = refl
mark-plain false = refl

-- The type of a name is that of its mark.
pub look-marked : (r : Names Bool) (a : Text) (m : Bool) → look r a ≡ Some m → look (marked_types r) a ≡ Some (mark_ty m)
look-marked [] a m h = cc
look-marked (b ∷ r) a m h = go (same_text b.0 a) (λ q. look-marked r a m q) h
  where
    go : (c : Bool) → (look r a ≡ Some m → look (marked_types r) a ≡ Some (mark_ty m)) → (if c then Some b.1 else look r a) ≡ Some m →
        (if c then Some (mark_ty b.1) else look (marked_types r) a) ≡ Some (mark_ty m)
    go true k q = ap (λ o. option_map mark_ty o) q
    go false k q = k q

-- ---- trees

-- The type of a bare tree isn't of compound values.
pub bare-type : (cells : Text → Option (Bool × ℕ)) (r : Names Bool) (e : Ex) (m : Bool) → Bare cells r e m →
    is_compound_ty (type_of e (marked_types r)) ≡ false
bare-type cells r e m number = refl
bare-type cells r e m truth = refl
bare-type cells r e m (named {a = a} h) = ap is_compound_ty (look-marked r a m h) ∙ mark-plain m
bare-type cells r e m (cell {b = b} {n = n} h i) = cell-plain b (look (marked_types r) n)
bare-type cells r e m (one {m = k} {x = x} o f) = one-plain o (type_of x (marked_types r)) (bare-type cells r x k f)
bare-type cells r e m (two {m = i} {k = k} {x = x} {y = y} o f h) = two-plain o (type_of x (marked_types r)) (type_of y (marked_types r))
    (bare-type cells r x i f) (bare-type cells r y k h)
bare-type cells r e m (power {x = x} {y = y} f h) = power-plain (type_of x (marked_types r)) (type_of y (marked_types r))
bare-type cells r e m (chosen {x = x} f) = chosen-plain (type_of x (marked_types r))
bare-type cells r e m (folded {e = x} {gs = gs} w g f) = truths-plain w (type_of (comp_ex x gs) (marked_types r))
bare-type cells r e m (added {e = x} {gs = gs} g f) = numbers-plain (type_of (comp_ex x gs) (marked_types r))
bare-type cells r e m (ordered {x = x} {y = y} w f h) = lex-plain w (type_of x (marked_types r)) (type_of y (marked_types r))
