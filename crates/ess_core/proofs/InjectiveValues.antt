-- That two values which stand for one pure value are one: a value is got back from its pure value.
use Rattle.std.proofs.Common.{◌≡◌, refl, false, sym, ap, ◌∙◌, subst, List, [], ◌∷◌, map}
use Rattle.ess_semantics.specs.Values.{Text, Value, Values, number, truth, item, node, nil, cons, a_tuple, a_matrix, a_record, a_set, a_mset, a_function, a_relation, a_partition, of_list}
use Rattle.ess_semantics.specs.Names.{keys}
use Rattle.ess_core.specs.ValueViews.{val_step, field_val_step, pair_step, pure_val, pure_field_val, pure_pair, pure_vals}
use Rattle.ess_core.specs.declared.values.Val.{Val}
use Rattle.ess_core.specs.declared.values.FieldVal.{FieldVal}
use Rattle.ess_core.specs.declared.values.Pair.{Pair}
use Rattle.ess_core.specs.declared.values.Val.TheOpen.{Val-F, FieldVal-F, Pair-F}
use Rattle.ess_core.specs.declared.values.Val.TheVariants as variant
use Rattle.ess_core.specs.declared.values.Val.TheViews.{roll-Val, roll-FieldVal, roll-Pair}
use Rattle.ess_core.specs.declared.values.Val.TheFolds.{map-Val, map-FieldVal, map-Pair, fold-roll-Val, fold-roll-FieldVal, fold-roll-Pair, ind-Val}

-- ---- the way back

-- A field of a name and a value.
abbrev field : Text → Val → FieldVal
field a v = roll-FieldVal (record { name = a; val = v })

-- The fields of names and values, name by name.
abbrev fields : List Text → List Val → List FieldVal
fields [] vs = []
fields (a ∷ as') [] = []
fields (a ∷ as') (v ∷ vs) = field a v ∷ fields as' vs

abbrev mutual
  -- A value that stands for a pure value, where there is one.
  val_of : Value → Val
  val_of (number n) = variant.Num n
  val_of (truth b) = variant.Truth b
  val_of (item t k) = variant.Item t k
  val_of (node a_tuple vs) = variant.Tuple (vals_of vs)
  val_of (node (a_record as') vs) = variant.Rec (fields as' (vals_of vs))
  val_of (node a_matrix (cons (node a_tuple is) (cons (node a_tuple vs) nil))) = variant.Matrix (vals_of is) (vals_of vs)
  val_of (node a_matrix vs) = variant.Truth false
  val_of (node a_set vs) = variant.Set (vals_of vs)
  val_of (node a_mset vs) = variant.MSet (vals_of vs)
  val_of (node a_function vs) = variant.Function (pairs_of vs)
  val_of (node a_relation vs) = variant.Relation (vals_of vs)
  val_of (node a_partition vs) = variant.Partition (vals_of vs)

  vals_of : Values → List Val
  vals_of nil = []
  vals_of (cons v vs) = val_of v ∷ vals_of vs

  pairs_of : Values → List Pair
  pairs_of nil = []
  pairs_of (cons (node a_tuple (cons a (cons b nil))) vs) = roll-Pair (record { from = val_of a; to = val_of b }) ∷ pairs_of vs
  pairs_of (cons v vs) = pairs_of vs

-- ---- there and back

abbrev Comes : Val → Type 0
Comes x = val_of (pure_val x) ≡ x

abbrev FieldComes : FieldVal → Type 0
FieldComes x = field (pure_field_val x).0 (val_of (pure_field_val x).1) ≡ x

abbrev PairComes : Pair → Type 0
PairComes x = (vs : Values) → pairs_of (cons (pure_pair x) vs) ≡ x ∷ pairs_of vs

abbrev Back : (A : Type 0) → (A → Type 0) → Type 0
Back A P = (x : A) × P x

abbrev Layer : Type 0
Layer = Val-F (Back Val Comes) (Back FieldVal FieldComes) (Back Pair PairComes)

vals-back : (hs : List (Back Val Comes)) → vals_of (pure_vals (map (λ h. h.0) hs)) ≡ map (λ h. h.0) hs
vals-back [] = refl
vals-back (h ∷ hs) = ap (λ v. v ∷ vals_of (pure_vals (map (λ g. g.0) hs))) h.1 ∙ ap (λ vs. h.0 ∷ vs) (vals-back hs)

fields-back : (hs : List (Back FieldVal FieldComes)) → let fs = map pure_field_val (map (λ h. h.0) hs) in
    fields (keys fs) (vals_of (of_list (map (λ f. f.1) fs))) ≡ map (λ h. h.0) hs
fields-back [] = refl
fields-back (h ∷ hs) =
    let fs = map pure_field_val (map (λ g. g.0) hs) in
    ap (λ v. v ∷ fields (keys fs) (vals_of (of_list (map (λ f. f.1) fs)))) h.1 ∙ ap (λ vs. h.0 ∷ vs) (fields-back hs)

pairs-back : (hs : List (Back Pair PairComes)) → pairs_of (of_list (map pure_pair (map (λ h. h.0) hs))) ≡ map (λ h. h.0) hs
pairs-back [] = refl
pairs-back (h ∷ hs) = h.1 (of_list (map pure_pair (map (λ g. g.0) hs))) ∙ ap (λ vs. h.0 ∷ vs) (pairs-back hs)

abbrev of_val : Layer → Val-F Val FieldVal Pair
of_val = map-Val _ _ _ _ _ _ (λ h. h.0) (λ h. h.0) (λ h. h.0)

abbrev of_field_val : FieldVal-F (Back Val Comes) (Back FieldVal FieldComes) (Back Pair PairComes) → FieldVal-F Val FieldVal Pair
of_field_val = map-FieldVal _ _ _ _ _ _ (λ h. h.0) (λ h. h.0) (λ h. h.0)

abbrev of_pair : Pair-F (Back Val Comes) (Back FieldVal FieldComes) (Back Pair PairComes) → Pair-F Val FieldVal Pair
of_pair = map-Pair _ _ _ _ _ _ (λ h. h.0) (λ h. h.0) (λ h. h.0)

folded : (x : Val-F Val FieldVal Pair) → val_of (pure_val (roll-Val x)) ≡ val_of (val_step (map-Val _ _ _ _ _ _ pure_val pure_field_val pure_pair x))
folded x = ap val_of (fold-roll-Val Value (Text × Value) Value val_step field_val_step pair_step x)

made_val : (y : Layer) → Comes (roll-Val (of_val y))
made_val (Val-F.Num n) = folded (Val-F.Num n) ∙ sym (variant.rolls-Num n)
made_val (Val-F.Truth b) = folded (Val-F.Truth b) ∙ sym (variant.rolls-Truth b)
made_val (Val-F.Item t k) = folded (Val-F.Item t k) ∙ sym (variant.rolls-Item t k)
made_val (Val-F.Tuple hs) = let vs = map (λ h. h.0) hs in
    folded (Val-F.Tuple vs) ∙ ap variant.Tuple (vals-back hs) ∙ sym (variant.rolls-Tuple vs)
made_val (Val-F.Rec hs) = let fs = map (λ h. h.0) hs in
    folded (Val-F.Rec fs) ∙ ap variant.Rec (fields-back hs) ∙ sym (variant.rolls-Rec fs)
made_val (Val-F.Matrix gs hs) = let is = map (λ h. h.0) gs in let vs = map (λ h. h.0) hs in
    folded (Val-F.Matrix is vs) ∙ ap (λ js. variant.Matrix js (vals_of (pure_vals vs))) (vals-back gs)
    ∙ ap (variant.Matrix is) (vals-back hs) ∙ sym (variant.rolls-Matrix is vs)
made_val (Val-F.Set hs) = let vs = map (λ h. h.0) hs in
    folded (Val-F.Set vs) ∙ ap variant.Set (vals-back hs) ∙ sym (variant.rolls-Set vs)
made_val (Val-F.MSet hs) = let vs = map (λ h. h.0) hs in
    folded (Val-F.MSet vs) ∙ ap variant.MSet (vals-back hs) ∙ sym (variant.rolls-MSet vs)
made_val (Val-F.Function hs) = let ps = map (λ h. h.0) hs in
    folded (Val-F.Function ps) ∙ ap variant.Function (pairs-back hs) ∙ sym (variant.rolls-Function ps)
made_val (Val-F.Relation hs) = let vs = map (λ h. h.0) hs in
    folded (Val-F.Relation vs) ∙ ap variant.Relation (vals-back hs) ∙ sym (variant.rolls-Relation vs)
made_val (Val-F.Partition hs) = let vs = map (λ h. h.0) hs in
    folded (Val-F.Partition vs) ∙ ap variant.Partition (vals-back hs) ∙ sym (variant.rolls-Partition vs)

step_val : (x : Val-F Val FieldVal Pair) (y : Layer) → of_val y ≡ x → Comes (roll-Val x)
step_val x y p = subst (λ z. Comes (roll-Val z)) p (made_val y)

made_field_val : (y : FieldVal-F (Back Val Comes) (Back FieldVal FieldComes) (Back Pair PairComes)) → FieldComes (roll-FieldVal (of_field_val y))
made_field_val y =
    ap (λ f. field f.0 (val_of f.1)) (fold-roll-FieldVal Value (Text × Value) Value val_step field_val_step pair_step (of_field_val y)) ∙ ap (field y.name) y.val.1

step_field_val : (x : FieldVal-F Val FieldVal Pair) (y : FieldVal-F (Back Val Comes) (Back FieldVal FieldComes) (Back Pair PairComes)) → of_field_val y ≡ x → FieldComes (roll-FieldVal x)
step_field_val x y p = subst (λ z. FieldComes (roll-FieldVal z)) p (made_field_val y)

made_pair : (y : Pair-F (Back Val Comes) (Back FieldVal FieldComes) (Back Pair PairComes)) → PairComes (roll-Pair (of_pair y))
made_pair y vs =
    ap (λ p. pairs_of (cons p vs)) (fold-roll-Pair Value (Text × Value) Value val_step field_val_step pair_step (of_pair y))
    ∙ ap (λ a. roll-Pair (record { from = a; to = val_of (pure_val y.to.0) }) ∷ pairs_of vs) y.from.1
    ∙ ap (λ b. roll-Pair (record { from = y.from.0; to = b }) ∷ pairs_of vs) y.to.1

step_pair : (x : Pair-F Val FieldVal Pair) (y : Pair-F (Back Val Comes) (Back FieldVal FieldComes) (Back Pair PairComes)) → of_pair y ≡ x → PairComes (roll-Pair x)
step_pair x y p = subst (λ z. PairComes (roll-Pair z)) p (made_pair y)

comes : (x : Val) → Comes x
comes = ind-Val Comes FieldComes PairComes step_val step_field_val step_pair

-- Two values that stand for one pure value are equal.
pub pure_val-injective : (a b : Val) → pure_val a ≡ pure_val b → a ≡ b
pure_val-injective a b e = sym (comes a) ∙ ap val_of e ∙ comes b
