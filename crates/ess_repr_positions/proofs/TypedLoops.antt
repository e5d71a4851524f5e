-- Types put back item by item, and into matrices, pairs, tuples and parts.
use Rattle.std.proofs.Common.{◌≡◌, refl, sym, ap, ◌∙◌, ℕ, suc, ◌+◌, ◌<◌, ◌≤◌, List, [], ◌∷◌, ◌++◌, map, drop, length, get_or, Option, Some, None, option_map, arith}
use Rattle.std.proofs.lemmas.List.{at_drop_more, at_drop_all, map_push, append-nil}
use Rattle.ess_semantics.specs.Lists.{and_then, each_of}
use Rattle.ess_semantics.specs.Values.{Value, a_tuple, a_set, pair}
use Rattle.ess_core.specs.declared.values.Val.{Val}
use Rattle.ess_core.specs.declared.values.FieldVal.{FieldVal}
use Rattle.ess_core.specs.declared.values.Pair.{Pair}
use Rattle.ess_core.specs.declared.values.Val.TheVariants as val
use Rattle.ess_core.specs.declared.values.Val.TheViews.{out-FieldVal, out-Pair}
use Rattle.ess_core.specs.ValueViews.{pure_val, pure_field_val, pure_pair}
use Rattle.ess_core.proofs.ValueEquations.{pure_tuple, pure_set, pure_matrix, pure_field_val_is, pure_pair_is}
use Rattle.ess_eval_domains.specs.declared.closed.Closed.{Closed}
use Rattle.ess_eval_domains.specs.declared.closed.FieldClosed.{FieldClosed}
use Rattle.ess_eval_domains.specs.declared.closed.Closed.TheViews.{out-FieldClosed}
use Rattle.ess_eval_domains.specs.ClosedViews.{pure_closed, pure_closeds, pure_field_closed}
use Rattle.ess_eval_domains.proofs.ClosedEquations.{pure_field_closed_is}
use Rattle.ess_repr_positions_laws.specs.TypedParts.{made_of, matrix_of, typed, typed_each, typed_matrix, typed_pair, typed_tuple, typed_set}
use Rattle.ess_repr_positions.specs.Typed.{each_both, val_typed, field_typed, nested_typed, pair_typed, tuple_typed, part_typed}
use Rattle.ess_repr_positions.proofs.MadeRows.{ahead, ahead-none, ahead-one, found-more, found-not, found-all}
use Rattle.ess_repr_positions.proofs.TypedValues.{each-listed, components-listed}

-- ---- several values

module _ (is : List Closed) (d : Closed) (vs : List Val) where
  pub nested_none : each_of vs (nested_typed is d) ≡ ahead [] (each_of (drop 0 vs) (nested_typed is d))
  nested_none = ahead-none (each_of vs (nested_typed is d))

  pub nested_more : (i : ℕ) (v w : Val) (xs ys : List Val) → i < length vs → v ≡ get_or vs i v → Some (pure_val w) ≡ nested_typed is d v → ys ≡ xs ++ w ∷ [] →
      each_of vs (nested_typed is d) ≡ ahead (map pure_val xs) (each_of (drop i vs) (nested_typed is d)) →
      each_of vs (nested_typed is d) ≡ ahead (map pure_val ys) (each_of (drop (i + 1) vs) (nested_typed is d))
  nested_more i v w xs ys h at e q p = p ∙ found-more pure_val (nested_typed is d) vs i v w xs ys h at e q

  pub nested_stop : (i : ℕ) (v : Val) (xs : List Val) → i < length vs → v ≡ get_or vs i v → None ≡ nested_typed is d v →
      each_of vs (nested_typed is d) ≡ ahead (map pure_val xs) (each_of (drop i vs) (nested_typed is d)) → None ≡ each_of vs (nested_typed is d)
  nested_stop i v xs h at e p = sym (p ∙ found-not pure_val (nested_typed is d) vs i v xs h at e)

  pub nested_all : (i : ℕ) (xs : List Val) → length vs ≤ i → each_of vs (nested_typed is d) ≡ ahead (map pure_val xs) (each_of (drop i vs) (nested_typed is d)) →
      Some (map pure_val xs) ≡ each_of vs (nested_typed is d)
  nested_all i xs h p = sym (p ∙ found-all pure_val (nested_typed is d) vs i xs h)

module _ (d c : Closed) (ps : List Pair) where
  pub pairs_none : each_of ps (pair_typed d c) ≡ ahead [] (each_of (drop 0 ps) (pair_typed d c))
  pairs_none = ahead-none (each_of ps (pair_typed d c))

  pub pairs_more : (i : ℕ) (p q : Pair) (xs ys : List Pair) → i < length ps → p ≡ get_or ps i p → Some (pure_pair q) ≡ pair_typed d c p → ys ≡ xs ++ q ∷ [] →
      each_of ps (pair_typed d c) ≡ ahead (map pure_pair xs) (each_of (drop i ps) (pair_typed d c)) →
      each_of ps (pair_typed d c) ≡ ahead (map pure_pair ys) (each_of (drop (i + 1) ps) (pair_typed d c))
  pairs_more i p q xs ys h at e k r = r ∙ found-more pure_pair (pair_typed d c) ps i p q xs ys h at e k

  pub pairs_stop : (i : ℕ) (p : Pair) (xs : List Pair) → i < length ps → p ≡ get_or ps i p → None ≡ pair_typed d c p →
      each_of ps (pair_typed d c) ≡ ahead (map pure_pair xs) (each_of (drop i ps) (pair_typed d c)) → None ≡ each_of ps (pair_typed d c)
  pairs_stop i p xs h at e r = sym (r ∙ found-not pure_pair (pair_typed d c) ps i p xs h at e)

  pub pairs_all : (i : ℕ) (xs : List Pair) → length ps ≤ i → each_of ps (pair_typed d c) ≡ ahead (map pure_pair xs) (each_of (drop i ps) (pair_typed d c)) →
      Some (map pure_pair xs) ≡ each_of ps (pair_typed d c)
  pairs_all i xs h r = sym (r ∙ found-all pure_pair (pair_typed d c) ps i xs h)

module _ (ds : List Closed) (vs : List Val) where
  pub tuples_none : each_of vs (tuple_typed ds) ≡ ahead [] (each_of (drop 0 vs) (tuple_typed ds))
  tuples_none = ahead-none (each_of vs (tuple_typed ds))

  pub tuples_more : (i : ℕ) (v w : Val) (xs ys : List Val) → i < length vs → v ≡ get_or vs i v → Some (pure_val w) ≡ tuple_typed ds v → ys ≡ xs ++ w ∷ [] →
      each_of vs (tuple_typed ds) ≡ ahead (map pure_val xs) (each_of (drop i vs) (tuple_typed ds)) →
      each_of vs (tuple_typed ds) ≡ ahead (map pure_val ys) (each_of (drop (i + 1) vs) (tuple_typed ds))
  tuples_more i v w xs ys h at e q p = p ∙ found-more pure_val (tuple_typed ds) vs i v w xs ys h at e q

  pub tuples_stop : (i : ℕ) (v : Val) (xs : List Val) → i < length vs → v ≡ get_or vs i v → None ≡ tuple_typed ds v →
      each_of vs (tuple_typed ds) ≡ ahead (map pure_val xs) (each_of (drop i vs) (tuple_typed ds)) → None ≡ each_of vs (tuple_typed ds)
  tuples_stop i v xs h at e p = sym (p ∙ found-not pure_val (tuple_typed ds) vs i v xs h at e)

  pub tuples_all : (i : ℕ) (xs : List Val) → length vs ≤ i → each_of vs (tuple_typed ds) ≡ ahead (map pure_val xs) (each_of (drop i vs) (tuple_typed ds)) →
      Some (map pure_val xs) ≡ each_of vs (tuple_typed ds)
  tuples_all i xs h p = sym (p ∙ found-all pure_val (tuple_typed ds) vs i xs h)

module _ (d : Closed) (vs : List Val) where
  pub parts_none : each_of vs (part_typed d) ≡ ahead [] (each_of (drop 0 vs) (part_typed d))
  parts_none = ahead-none (each_of vs (part_typed d))

  pub parts_more : (i : ℕ) (v w : Val) (xs ys : List Val) → i < length vs → v ≡ get_or vs i v → Some (pure_val w) ≡ part_typed d v → ys ≡ xs ++ w ∷ [] →
      each_of vs (part_typed d) ≡ ahead (map pure_val xs) (each_of (drop i vs) (part_typed d)) →
      each_of vs (part_typed d) ≡ ahead (map pure_val ys) (each_of (drop (i + 1) vs) (part_typed d))
  parts_more i v w xs ys h at e q p = p ∙ found-more pure_val (part_typed d) vs i v w xs ys h at e q

  pub parts_stop : (i : ℕ) (v : Val) (xs : List Val) → i < length vs → v ≡ get_or vs i v → None ≡ part_typed d v →
      each_of vs (part_typed d) ≡ ahead (map pure_val xs) (each_of (drop i vs) (part_typed d)) → None ≡ each_of vs (part_typed d)
  parts_stop i v xs h at e p = sym (p ∙ found-not pure_val (part_typed d) vs i v xs h at e)

  pub parts_all : (i : ℕ) (xs : List Val) → length vs ≤ i → each_of vs (part_typed d) ≡ ahead (map pure_val xs) (each_of (drop i vs) (part_typed d)) →
      Some (map pure_val xs) ≡ each_of vs (part_typed d)
  parts_all i xs h p = sym (p ∙ found-all pure_val (part_typed d) vs i xs h)

-- ---- items side by side

module _ {A B C V : Type 0} (f : A → B → Option V) (g : C → V) where
  both-more : (xs : List A) (ys : List B) (i : ℕ) (a : A) (b : B) (c : C) (zs ws : List C) → i < length xs → length xs ≡ length ys → a ≡ get_or xs i a →
      b ≡ get_or ys i b → Some (g c) ≡ f a b → ws ≡ zs ++ c ∷ [] →
      ahead (map g zs) (each_both f (drop i xs) (drop i ys)) ≡ ahead (map g ws) (each_both f (drop (i + 1) xs) (drop (i + 1) ys))
  both-more xs ys i a b c zs ws h n at bt e q =
      let k : i < length ys = omega (arith, h, n) in
      at_drop_more (λ l. ahead (map g zs) (each_both f l (drop i ys))) xs i a h
      ∙ at_drop_more (λ l. ahead (map g zs) (each_both f (get_or xs i a ∷ drop (i + 1) xs) l)) ys i b k
      ∙ ap (λ o. ahead (map g zs) (and_then o (λ y. option_map (λ l. y ∷ l) (each_both f (drop (i + 1) xs) (drop (i + 1) ys)))))
      (sym (e ∙ ap (λ x. f x b) at ∙ ap (f (get_or xs i a)) bt))
      ∙ ahead-one (map g zs) (g c) (each_both f (drop (i + 1) xs) (drop (i + 1) ys))
      ∙ ap (λ l. ahead l (each_both f (drop (i + 1) xs) (drop (i + 1) ys))) (sym (ap (map g) q ∙ map_push g zs c))

  both-not : (xs : List A) (ys : List B) (i : ℕ) (a : A) (b : B) (zs : List C) → i < length xs → length xs ≡ length ys → a ≡ get_or xs i a →
      b ≡ get_or ys i b → None ≡ f a b → ahead (map g zs) (each_both f (drop i xs) (drop i ys)) ≡ None
  both-not xs ys i a b zs h n at bt e =
      let k : i < length ys = omega (arith, h, n) in
      at_drop_more (λ l. ahead (map g zs) (each_both f l (drop i ys))) xs i a h
      ∙ at_drop_more (λ l. ahead (map g zs) (each_both f (get_or xs i a ∷ drop (i + 1) xs) l)) ys i b k
      ∙ ap (λ o. ahead (map g zs) (and_then o (λ y. option_map (λ l. y ∷ l) (each_both f (drop (i + 1) xs) (drop (i + 1) ys)))))
      (sym (e ∙ ap (λ x. f x b) at ∙ ap (f (get_or xs i a)) bt))

  both-all : (xs : List A) (ys : List B) (i : ℕ) (zs : List C) → length xs ≤ i → length xs ≡ length ys →
      ahead (map g zs) (each_both f (drop i xs) (drop i ys)) ≡ Some (map g zs)
  both-all xs ys i zs h n =
      let k : length ys ≤ i = omega (arith, h, n) in
      at_drop_all (λ l. ahead (map g zs) (each_both f l (drop i ys))) xs i h ∙ at_drop_all (λ l. ahead (map g zs) (each_both f [] l)) ys i k
      ∙ ap Some (append-nil (map g zs))

  both-unlike : (xs : List A) (ys : List B) → (length xs ≡ length ys → ⊥) → None ≡ each_both f xs ys
  both-unlike [] [] h = absurd (h refl)
  both-unlike [] (b ∷ ys) h = refl
  both-unlike (a ∷ xs) [] h = refl
  both-unlike (a ∷ xs) (b ∷ ys) h = go (f a b) (both-unlike xs ys (λ e. h (ap suc e)))
    where
      go : (o : Option V) → None ≡ each_both f xs ys → None ≡ and_then o (λ c. option_map (λ zs. c ∷ zs) (each_both f xs ys))
      go None e = refl
      go (Some c) e = ap (option_map (λ zs. c ∷ zs)) e

module _ (ds : List Closed) (vs : List Val) where
  pub each_none : each_both val_typed ds vs ≡ ahead [] (each_both val_typed (drop 0 ds) (drop 0 vs))
  each_none = ahead-none (each_both val_typed ds vs)

  pub each_more : (i : ℕ) (d : Closed) (v w : Val) (xs ys : List Val) → i < length ds → length ds ≡ length vs → d ≡ get_or ds i d → v ≡ get_or vs i v →
      Some (pure_val w) ≡ val_typed d v → ys ≡ xs ++ w ∷ [] →
      each_both val_typed ds vs ≡ ahead (map pure_val xs) (each_both val_typed (drop i ds) (drop i vs)) →
      each_both val_typed ds vs ≡ ahead (map pure_val ys) (each_both val_typed (drop (i + 1) ds) (drop (i + 1) vs))
  each_more i d v w xs ys h n at bt e q p = p ∙ both-more val_typed pure_val ds vs i d v w xs ys h n at bt e q

  pub each_stop : (i : ℕ) (d : Closed) (v : Val) (xs : List Val) → i < length ds → length ds ≡ length vs → d ≡ get_or ds i d → v ≡ get_or vs i v →
      None ≡ val_typed d v → each_both val_typed ds vs ≡ ahead (map pure_val xs) (each_both val_typed (drop i ds) (drop i vs)) →
      None ≡ each_both val_typed ds vs
  each_stop i d v xs h n at bt e p = sym (p ∙ both-not val_typed pure_val ds vs i d v xs h n at bt e)

  pub each_all : (i : ℕ) (xs : List Val) → length ds ≤ i → length ds ≡ length vs →
      each_both val_typed ds vs ≡ ahead (map pure_val xs) (each_both val_typed (drop i ds) (drop i vs)) → Some (map pure_val xs) ≡ each_both val_typed ds vs
  each_all i xs h n p = sym (p ∙ both-all val_typed pure_val ds vs i xs h n)

  pub each_unlike : (length ds ≡ length vs → ⊥) → None ≡ each_both val_typed ds vs
  each_unlike = both-unlike val_typed pure_val ds vs

module _ (fs : List FieldClosed) (vs : List FieldVal) where
  pub fields_none : each_both field_typed fs vs ≡ ahead [] (each_both field_typed (drop 0 fs) (drop 0 vs))
  fields_none = ahead-none (each_both field_typed fs vs)

  pub fields_more : (i : ℕ) (f : FieldClosed) (v w : FieldVal) (xs ys : List FieldVal) → i < length fs → length fs ≡ length vs → f ≡ get_or fs i f →
      v ≡ get_or vs i v → Some (pure_field_val w) ≡ field_typed f v → ys ≡ xs ++ w ∷ [] →
      each_both field_typed fs vs ≡ ahead (map pure_field_val xs) (each_both field_typed (drop i fs) (drop i vs)) →
      each_both field_typed fs vs ≡ ahead (map pure_field_val ys) (each_both field_typed (drop (i + 1) fs) (drop (i + 1) vs))
  fields_more i f v w xs ys h n at bt e q p = p ∙ both-more field_typed pure_field_val fs vs i f v w xs ys h n at bt e q

  pub fields_stop : (i : ℕ) (f : FieldClosed) (v : FieldVal) (xs : List FieldVal) → i < length fs → length fs ≡ length vs → f ≡ get_or fs i f →
      v ≡ get_or vs i v → None ≡ field_typed f v →
      each_both field_typed fs vs ≡ ahead (map pure_field_val xs) (each_both field_typed (drop i fs) (drop i vs)) → None ≡ each_both field_typed fs vs
  fields_stop i f v xs h n at bt e p = sym (p ∙ both-not field_typed pure_field_val fs vs i f v xs h n at bt e)

  pub fields_all : (i : ℕ) (xs : List FieldVal) → length fs ≤ i → length fs ≡ length vs →
      each_both field_typed fs vs ≡ ahead (map pure_field_val xs) (each_both field_typed (drop i fs) (drop i vs)) →
      Some (map pure_field_val xs) ≡ each_both field_typed fs vs
  fields_all i xs h n p = sym (p ∙ both-all field_typed pure_field_val fs vs i xs h n)

  pub fields_unlike : (length fs ≡ length vs → ⊥) → None ≡ each_both field_typed fs vs
  fields_unlike = both-unlike field_typed pure_field_val fs vs

-- ---- fields and pairs

field-is : (d : FieldClosed) (f : FieldVal) → field_typed d f
    ≡ option_map (λ w. ((out-FieldVal f).name, w)) (val_typed (out-FieldClosed d).domain (out-FieldVal f).val)
field-is d f =
    ap (λ x. option_map (λ w. (x.0, w)) (typed (pure_field_closed d).1 x.1)) (pure_field_val_is f)
    ∙ ap (λ x. option_map (λ w. ((out-FieldVal f).name, w)) (typed x.1 (pure_val (out-FieldVal f).val))) (pure_field_closed_is d)

pub field_there : (d : FieldClosed) (f g : FieldVal) (v : Val) → (out-FieldVal g).name ≡ (out-FieldVal f).name → (out-FieldVal g).val ≡ v →
    Some (pure_val v) ≡ val_typed (out-FieldClosed d).domain (out-FieldVal f).val → Some (pure_field_val g) ≡ field_typed d f
field_there d f g v n e p =
    ap Some (pure_field_val_is g ∙ ap (λ x. (x, pure_val (out-FieldVal g).val)) n)
    ∙ ap (λ x. Some ((out-FieldVal f).name, pure_val x)) e ∙ ap (option_map (λ w. ((out-FieldVal f).name, w))) p ∙ sym (field-is d f)

pub field_not : (d : FieldClosed) (f : FieldVal) → None ≡ val_typed (out-FieldClosed d).domain (out-FieldVal f).val → None ≡ field_typed d f
field_not d f p = ap (option_map (λ w. ((out-FieldVal f).name, w))) p ∙ sym (field-is d f)

pair-is : (d c : Closed) (p : Pair) → pair_typed d c p ≡ and_then (val_typed d (out-Pair p).from) (λ x. option_map (pair x) (val_typed c (out-Pair p).to))
pair-is d c p = ap (typed_pair (typed (pure_closed d)) (typed (pure_closed c))) (pure_pair_is p)

pub pair_there : (d c : Closed) (p q : Pair) (a b : Val) → (out-Pair q).from ≡ a → (out-Pair q).to ≡ b → Some (pure_val a) ≡ val_typed d (out-Pair p).from →
    Some (pure_val b) ≡ val_typed c (out-Pair p).to → Some (pure_pair q) ≡ pair_typed d c p
pair_there d c p q a b e f h k =
    ap Some (pure_pair_is q) ∙ ap (λ x. Some (pair (pure_val x) (pure_val (out-Pair q).to))) e ∙ ap (λ x. Some (pair (pure_val a) (pure_val x))) f
    ∙ ap (option_map (pair (pure_val a))) k ∙ ap (λ o. and_then o (λ x. option_map (pair x) (val_typed c (out-Pair p).to))) h ∙ sym (pair-is d c p)

pub no_argument : (d c : Closed) (p : Pair) → None ≡ val_typed d (out-Pair p).from → None ≡ pair_typed d c p
no_argument d c p h = ap (λ o. and_then o (λ x. option_map (pair x) (val_typed c (out-Pair p).to))) h ∙ sym (pair-is d c p)

pub no_value : (d c : Closed) (p : Pair) (a : Val) → Some (pure_val a) ≡ val_typed d (out-Pair p).from → None ≡ val_typed c (out-Pair p).to →
    None ≡ pair_typed d c p
no_value d c p a h k =
    ap (option_map (pair (pure_val a))) k ∙ ap (λ o. and_then o (λ x. option_map (pair x) (val_typed c (out-Pair p).to))) h ∙ sym (pair-is d c p)

-- ---- tuples and parts

tuple-is : (ds : List Closed) (vs : List Val) → tuple_typed ds (val.Tuple vs) ≡ made_of a_tuple (each_both val_typed ds vs)
tuple-is ds vs = ap (typed_tuple (typed_each (pure_closeds ds))) (pure_tuple vs) ∙ ap (made_of a_tuple) (components-listed ds vs)

pub tuple_there : (ds : List Closed) (vs ws : List Val) → Some (map pure_val ws) ≡ each_both val_typed ds vs →
    Some (pure_val (val.Tuple ws)) ≡ tuple_typed ds (val.Tuple vs)
tuple_there ds vs ws e = ap Some (pure_tuple ws) ∙ ap (made_of a_tuple) e ∙ sym (tuple-is ds vs)

pub tuple_not : (ds : List Closed) (vs : List Val) → None ≡ each_both val_typed ds vs → None ≡ tuple_typed ds (val.Tuple vs)
tuple_not ds vs e = ap (made_of a_tuple) e ∙ sym (tuple-is ds vs)

part-is : (d : Closed) (vs : List Val) → part_typed d (val.Set vs) ≡ made_of a_set (each_of vs (nested_typed [] d))
part-is d vs =
    ap (typed_set (λ xs. each_of xs (typed (pure_closed d)))) (pure_set vs) ∙ ap (made_of a_set) (each-listed pure_val (typed (pure_closed d)) vs)

pub part_there : (d : Closed) (vs ws : List Val) → Some (map pure_val ws) ≡ each_of vs (nested_typed [] d) →
    Some (pure_val (val.Set ws)) ≡ part_typed d (val.Set vs)
part_there d vs ws e = ap Some (pure_set ws) ∙ ap (made_of a_set) e ∙ sym (part-is d vs)

pub part_not : (d : Closed) (vs : List Val) → None ≡ each_of vs (nested_typed [] d) → None ≡ part_typed d (val.Set vs)
part_not d vs e = ap (made_of a_set) e ∙ sym (part-is d vs)

-- ---- matrices

pub no_axis : (is : List Closed) (d : Closed) (v : Val) (o : Option Value) → is ≡ [] → o ≡ val_typed d v → o ≡ nested_typed is d v
no_axis is d v o h e = e ∙ ap (λ l. nested_typed l d v) (sym h)

pub one_axis : (is js : List Closed) (i d : Closed) (xs vs : List Val) (o : Option Value) → is ≡ i ∷ js →
    o ≡ matrix_of (each_of xs (nested_typed [] i)) (each_of vs (nested_typed js d)) → o ≡ nested_typed is d (val.Matrix xs vs)
one_axis is js i d xs vs o h e =
    e ∙ ap (λ p. matrix_of p (each_of vs (nested_typed js d))) (sym (each-listed pure_val (typed (pure_closed i)) xs))
    ∙ ap (matrix_of (each_of _ (typed (pure_closed i)))) (sym (each-listed pure_val (typed_matrix (pure_closeds js) (typed (pure_closed d))) vs))
    ∙ ap (typed_matrix (pure_closeds (i ∷ js)) (typed (pure_closed d))) (sym (pure_matrix xs vs)) ∙ ap (λ l. nested_typed l d (val.Matrix xs vs)) (sym h)

pub matrix_there : (ys ws : List Val) (o p : Option (List Value)) → Some (map pure_val ys) ≡ o → Some (map pure_val ws) ≡ p →
    Some (pure_val (val.Matrix ys ws)) ≡ matrix_of o p
matrix_there ys ws o p h k =
    ap Some (pure_matrix ys ws) ∙ ap (matrix_of (Some (map pure_val ys))) k ∙ ap (λ q. matrix_of q p) h

pub no_index : (o p : Option (List Value)) → None ≡ o → None ≡ matrix_of o p
no_index o p h = ap (λ q. matrix_of q p) h

pub no_element : (o p : Option (List Value)) (ys : List Val) → Some (map pure_val ys) ≡ o → None ≡ p → None ≡ matrix_of o p
no_element o p ys h k = ap (matrix_of (Some (map pure_val ys))) k ∙ ap (λ q. matrix_of q p) h

-- ---- the passes over items

pub ruleset nested_turns = (nested_none, nested_more, nested_stop, nested_all)

pub ruleset each_turns = (each_none, each_more, each_stop, each_unlike, each_all)

pub ruleset field_turns = (fields_none, fields_more, fields_stop, fields_unlike, fields_all)

pub ruleset pair_turns = (pairs_none, pairs_more, pairs_stop, pairs_all)

pub ruleset tuple_turns = (tuples_none, tuples_more, tuples_stop, tuples_all)

pub ruleset part_turns = (parts_none, parts_more, parts_stop, parts_all)
