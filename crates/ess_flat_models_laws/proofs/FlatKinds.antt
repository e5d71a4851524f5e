-- What models make of flat trees over declared cells: nothing else.
use Rattle.std.proofs.Common.{◌≡◌, refl, ap, ◌∙◌, Bool, true, false, ◌||◌, if◌then◌else◌, List, [], ◌∷◌, map, Option, Some, None}
use Rattle.ess_semantics.specs.declared.words.Op1.{Op1}
use Rattle.ess_semantics.specs.declared.words.Op2.{Op2}
use Rattle.ess_semantics.specs.declared.words.Fun.{Fun}
use Rattle.ess_semantics.specs.Values.{Text}
use Rattle.ess_semantics.specs.Trees.{Op, unary, binary, word, Ex, cell_ex, no_exs, more_exs, ex1, ex2, fun1}
use Rattle.ess_semantics.specs.Types.{Ty, bool_ty, int_ty}
use Rattle.ess_semantics.specs.Typing.{statics, type_of_node}
use Rattle.ess_semantics.specs.DeclaredTables.{TableDecl}
use Rattle.ess_semantics.specs.ModelMeaning.{Kinded, broken, is_nothing, kinded_node, cell_kind, kinded_cell, declaration_of, kinded}
use Rattle.ess_flat_laws.specs.Flat.{OneOp, denied, negative, absolute, TwoOp, both, either, implied, agreeing, equal, unequal, below, at_most, above, at_least, sum, difference, product, Flat, number as number_is, truth as truth_is, named, cell, one, two, chosen, none_marked}

no-name : {m : Bool} → None ≡ Some m → ⊥
no-name h = cc

-- A node on one operand, and on two, with their kinds.
abbrev on_one : Op → Kinded → Kinded
on_one op k = kinded_node op (more_exs k.0 no_exs) (k.1 ∷ [])
    (type_of_node op (statics (more_exs k.0 no_exs)) (map (λ t. Some t) (k.1 ∷ [])))

abbrev on_two : Op → Kinded → Kinded → Kinded
on_two op k l = kinded_node op (more_exs k.0 (more_exs l.0 no_exs)) (k.1 ∷ l.1 ∷ [])
    (type_of_node op (statics (more_exs k.0 (more_exs l.0 no_exs))) (map (λ t. Some t) (k.1 ∷ l.1 ∷ [])))

one-kinded : {b m : Bool} {o : Op1} → OneOp b o m → (x : Ex) → is_nothing x ≡ false →
    on_one (unary o) (x, cell_kind m) ≡ (ex1 b o x, cell_kind b)
one-kinded denied x q = ap (λ c. if c || false then broken bool_ty else (ex1 true Op1.Not x, bool_ty)) q
one-kinded negative x q = ap (λ c. if c || false then broken int_ty else (ex1 false Op1.Minus x, int_ty)) q
one-kinded absolute x q = ap (λ c. if c || false then broken int_ty else (ex1 false Op1.Bar x, int_ty)) q

-- Both operands are something.
both-there : (k : Kinded) (t : Ty) (x y : Ex) → is_nothing x ≡ false → is_nothing y ≡ false →
    (if is_nothing x || (is_nothing y || false) then broken t else k) ≡ k
both-there k t x y p q = ap (λ c. if c || (is_nothing y || false) then broken t else k) p ∙ ap (λ c. if c || false then broken t else k) q

two-kinded : {b m k : Bool} {o : Op2} → TwoOp b o m k → (x y : Ex) → is_nothing x ≡ false → is_nothing y ≡ false →
    on_two (binary o) (x, cell_kind m) (y, cell_kind k) ≡ (ex2 b o x y, cell_kind b)
two-kinded both x y p q = both-there (ex2 true Op2.And x y, bool_ty) bool_ty x y p q
two-kinded either x y p q = both-there (ex2 true Op2.Or x y, bool_ty) bool_ty x y p q
two-kinded implied x y p q = both-there (ex2 true Op2.Implies x y, bool_ty) bool_ty x y p q
two-kinded agreeing x y p q = both-there (ex2 true Op2.Iff x y, bool_ty) bool_ty x y p q
two-kinded (equal {m = true}) x y p q = both-there (ex2 true Op2.Eq x y, bool_ty) bool_ty x y p q
two-kinded (equal {m = false}) x y p q = both-there (ex2 true Op2.Eq x y, bool_ty) bool_ty x y p q
two-kinded (unequal {m = true}) x y p q = both-there (ex2 true Op2.Ne x y, bool_ty) bool_ty x y p q
two-kinded (unequal {m = false}) x y p q = both-there (ex2 true Op2.Ne x y, bool_ty) bool_ty x y p q
two-kinded (below {m = true}) x y p q = both-there (ex2 true Op2.Lt x y, bool_ty) bool_ty x y p q
two-kinded (below {m = false}) x y p q = both-there (ex2 true Op2.Lt x y, bool_ty) bool_ty x y p q
two-kinded (at_most {m = true}) x y p q = both-there (ex2 true Op2.Le x y, bool_ty) bool_ty x y p q
two-kinded (at_most {m = false}) x y p q = both-there (ex2 true Op2.Le x y, bool_ty) bool_ty x y p q
two-kinded (above {m = true}) x y p q = both-there (ex2 true Op2.Gt x y, bool_ty) bool_ty x y p q
two-kinded (above {m = false}) x y p q = both-there (ex2 true Op2.Gt x y, bool_ty) bool_ty x y p q
two-kinded (at_least {m = true}) x y p q = both-there (ex2 true Op2.Ge x y, bool_ty) bool_ty x y p q
two-kinded (at_least {m = false}) x y p q = both-there (ex2 true Op2.Ge x y, bool_ty) bool_ty x y p q
two-kinded sum x y p q = both-there (ex2 false Op2.Plus x y, int_ty) int_ty x y p q
two-kinded difference x y p q = both-there (ex2 false Op2.Minus x y, int_ty) int_ty x y p q
two-kinded product x y p q = both-there (ex2 false Op2.Times x y, int_ty) int_ty x y p q

chosen-kinded : (x : Ex) → is_nothing x ≡ false → on_one (word Fun.ToInt) (x, bool_ty) ≡ (fun1 false Fun.ToInt x, int_ty)
chosen-kinded x q = ap (λ c. if c || false then broken int_ty else (fun1 false Fun.ToInt x, int_ty)) q

module _ (cells : Text → Option Bool) where
  something : {e : Ex} {m : Bool} → Flat none_marked cells e m → is_nothing e ≡ false
  something number_is = refl
  something truth_is = refl
  something (named h) = absurd (no-name h)
  something (cell h) = refl
  something (one w f) = refl
  something (two w f h c) = refl
  something (chosen f) = refl

  -- Where cells are declared with their marks, a flat tree over them is as models have it, and its kind is that of its mark.
  pub flat-kinded : (ds : List TableDecl) →
      ((n : Text) (b : Bool) → cells n ≡ Some b → kinded_cell n no_exs [] (declaration_of ds n) ≡ (cell_ex b n no_exs, cell_kind b)) →
      {e : Ex} {m : Bool} → Flat none_marked cells e m → kinded ds e [] ≡ (e, cell_kind m)
  flat-kinded ds g number_is = refl
  flat-kinded ds g truth_is = refl
  flat-kinded ds g (named h) = absurd (no-name h)
  flat-kinded ds g (cell {b = b} {a = a} h) = g a b h
  flat-kinded ds g (one {o = o} {x = x} w f) = ap (on_one (unary o)) (flat-kinded ds g f) ∙ one-kinded w x (something f)
  flat-kinded ds g (two {m = i} {o = o} {x = x} {y = y} w f h c) =
      ap (λ k. on_two (binary o) k (kinded ds y [])) (flat-kinded ds g f)
      ∙ ap (on_two (binary o) (x, cell_kind i)) (flat-kinded ds g h) ∙ two-kinded w x y (something f) (something h)
  flat-kinded ds g (chosen {x = x} f) = ap (on_one (word Fun.ToInt)) (flat-kinded ds g f) ∙ chosen-kinded x (something f)
