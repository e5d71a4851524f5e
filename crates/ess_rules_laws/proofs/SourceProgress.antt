-- Each term whose type has members offers a listing, or is left.
use Rattle.std.proofs.Common.{◌≡◌, refl, sym, ap, ◌∙◌, Bool, true, false, not, if◌then◌else◌, List, [], ◌∷◌, map, Option, Some, None, option_map}
use Rattle.ess_semantics.specs.declared.words.Op1.{Op1}
use Rattle.ess_semantics.specs.declared.words.Op2.{Op2}
use Rattle.ess_semantics.specs.declared.words.Fun.{Fun}
use Rattle.ess_semantics.specs.Lists.{and_then, tail_of, is_empty}
use Rattle.ess_semantics.specs.Values.{Text, a_mset, a_function, a_partition}
use Rattle.ess_semantics.specs.Names.{Names, look}
use Rattle.ess_semantics.specs.Trees.{Op, is_truth_op2, is_truth_word, is_truth_op, unary, binary, word, index, application, tuple_literal, set_literal, mset_literal, function_literal, relation_literal, partition_literal, matrix_literal, record_literal, Ex, Exs, number_ex, truth_ex, name_ex, node_ex, matrix_ex, comp_ex, cell_ex, seen_ex, fun1, no_exs, more_exs}
use Rattle.ess_semantics.specs.Types.{Ty, any_ty, bool_ty, int_ty, named_ty, more_tys, compound, compound1, compound2, join, fit}
use Rattle.ess_semantics.specs.OperatorTypes.{arguments_ty, united, subtracted, list_ty, type_of_op}
use Rattle.ess_semantics.specs.Typing.{type_of, types_of, number_cell_ty}
use Rattle.ess_semantics.proofs.Tests.{and-left, and-right, not-true}
use Rattle.ess_rules_laws.specs.ShortSizeRules.{is_partition}
use Rattle.ess_rules_laws.specs.Listings.{is_strict}
use Rattle.ess_rules_laws.specs.Progress.{HasMembers, by_listing, by_made, by_results, is_another, is_told, are_told, has_members, SourcesHaveListings}
use Rattle.ess_rules_laws.proofs.SourceTypes.{no, so, of-function, listed, of-united, of-subtracted, fit-none, then-none, extreme-none, sized-none, first-is, numbers, sets, first-of}

-- ---- the operators

module _ (g : Names Ty) (x y : Text) where
  abbrev Has : Ex → Type 0
  Has e = HasMembers g x y e

  -- Where there are the types of two operands there are two.
  pair-of : (op : Op) (es : Exs) (t u : Ty) → types_of es g ≡ map Some (t ∷ u ∷ []) → are_told g es ≡ true →
      ((a b : Ex) → type_of a g ∷ type_of b g ∷ [] ≡ map Some (t ∷ u ∷ []) → are_told g (more_exs a (more_exs b no_exs)) ≡ true →
      Has (node_ex false op (more_exs a (more_exs b no_exs)))) → Has (node_ex false op es)
  pair-of op no_exs t u q m f = no (sym (ap is_empty q))
  pair-of op (more_exs a no_exs) t u q m f = no (sym (ap (λ l. is_empty (tail_of l)) q))
  pair-of op (more_exs a (more_exs b no_exs)) t u q m f = f a b q m
  pair-of op (more_exs a (more_exs b (more_exs c es))) t u q m f = no (ap (λ l. is_empty (tail_of (tail_of l))) q)

  -- The same of one operand.
  single-of : (op : Op) (es : Exs) (t : Ty) → types_of es g ≡ map Some (t ∷ []) → are_told g es ≡ true →
      ((a : Ex) → type_of a g ≡ Some t → is_told (Some t) ≡ true → Has (node_ex false op (more_exs a no_exs))) → Has (node_ex false op es)
  single-of op no_exs t q m f = no (sym (ap is_empty q))
  single-of op (more_exs a no_exs) t q m f = f a (ap first-of q)
      (ap is_told (sym (ap first-of q)) ∙ and-left (is_told (type_of a g)) true m)
  single-of op (more_exs a (more_exs b es)) t q m f = no (ap (λ l. is_empty (tail_of l)) q)

  -- Two operands.
  two-of : (o : Op2) (es : Exs) (t u : Ty) → types_of es g ≡ map Some (t ∷ u ∷ []) →
      has_members (type_of_op (binary o) (t ∷ u ∷ [])) ≡ true → is_truth_op2 o ≡ false → are_told g es ≡ true →
      Has (node_ex false (binary o) es)
  two-of Op2.Union es t u q h k m = pair-of (binary Op2.Union) es t u q m
      (λ a b r n. by_listing _ (so _ _ (sets g united of-united a b t u r h n)))
  two-of Op2.Intersect es t u q h k m = pair-of (binary Op2.Intersect) es t u q m
      (λ a b r n. by_listing _ (so _ _ (sets g united of-united a b t u r h n)))
  two-of Op2.Minus es t u q h k m = pair-of (binary Op2.Minus) es t u q m
      (λ a b r n. by_listing _ (so _ _ (sets g subtracted of-subtracted a b t u r h n)))
  two-of Op2.Pow es t u q h k m = no (numbers t u h)
  two-of Op2.Times es t u q h k m = no (numbers t u h)
  two-of Op2.Div es t u q h k m = no (numbers t u h)
  two-of Op2.Mod es t u q h k m = no (numbers t u h)
  two-of Op2.Plus es t u q h k m = no (numbers t u h)
  two-of _ es t u q h k m = no (sym k)

  two : (o : Op2) (es : Exs) (ts : List Ty) → types_of es g ≡ map Some ts → has_members (type_of_op (binary o) ts) ≡ true →
      is_truth_op2 o ≡ false → are_told g es ≡ true →
      Has (node_ex false (binary o) es)
  two o es [] q h k m = no h
  two o es (t ∷ []) q h k m = no h
  two o es (t ∷ u ∷ []) q h k m = two-of o es t u q h k m
  two o es (t ∷ u ∷ v ∷ vs) q h k m = no h

  -- What is made of a function.
  defined : (f : Ex) (t : Ty) → type_of f g ≡ Some t → is_told (Some t) ≡ true →
      has_members (type_of_op (word Fun.Defined) (t ∷ [])) ≡ true → Has (fun1 false Fun.Defined f)
  defined f (compound2 a_function t u) q k h = by_made _ (of-function (type_of f g) _ t u q)
  defined f any_ty q k h = no k
  defined f _ q k h = no h

  related : (f : Ex) (t : Ty) → type_of f g ≡ Some t → is_told (Some t) ≡ true →
      has_members (type_of_op (word Fun.ToRelation) (t ∷ [])) ≡ true → Has (fun1 false Fun.ToRelation f)
  related f (compound2 a_function t u) q k h = by_made _ (of-function (type_of f g) _ t u q)
  related f any_ty q k h = no k
  related f _ q k h = no h

  results : (f : Ex) (t : Ty) → type_of f g ≡ Some t → is_told (Some t) ≡ true →
      has_members (type_of_op (word Fun.Range) (t ∷ [])) ≡ true → Has (fun1 false Fun.Range f)
  results f (compound2 a_function t u) q k h = by_results _ (of-function (type_of f g) _ t u q)
  results f any_ty q k h = no k
  results f _ q k h = no h

  parts : (p : Ex) (t : Ty) → type_of p g ≡ Some t → is_told (Some t) ≡ true → has_members (type_of_op (word Fun.Parts) (t ∷ [])) ≡ true →
      Has (fun1 false Fun.Parts p)
  parts p (compound1 a_partition t) q k h = by_listing _ (so _ _ (ap is_strict q))
  parts p any_ty q k h = no k
  parts p _ q k h = no h

  participants : (p : Ex) (t : Ty) → type_of p g ≡ Some t → is_told (Some t) ≡ true →
      has_members (type_of_op (word Fun.Participants) (t ∷ [])) ≡ true → Has (fun1 false Fun.Participants p)
  participants p (compound1 a_partition t) q k h = by_made _ (so _ _ (ap is_partition q))
  participants p any_ty q k h = no k
  participants p _ q k h = no h

  set-of : (s : Ex) (b : Bool) → is_strict (type_of s g) ≡ b → Has (fun1 false Fun.ToSet s)
  set-of s true r = by_listing _ (so _ _ r)
  set-of s false r = is_another (ap not r)

  -- One operand of a word.
  word-of : (f : Fun) (es : Exs) (t : Ty) → types_of es g ≡ map Some (t ∷ []) → has_members (type_of_op (word f) (t ∷ [])) ≡ true →
      is_truth_word f ≡ false → are_told g es ≡ true →
      Has (node_ex false (word f) es)
  word-of Fun.Sum es t q h k m = no (then-none (λ e. fit e int_ty int_ty) (λ z. fit-none int_ty refl (join z int_ty)) (list_ty t) h)
  word-of Fun.Product es t q h k m = no (then-none (λ e. fit e int_ty int_ty) (λ z. fit-none int_ty refl (join z int_ty)) (list_ty t) h)
  word-of Fun.Min es t q h k m = no (extreme-none t h)
  word-of Fun.Max es t q h k m = no (extreme-none t h)
  word-of Fun.ToInt es t q h k m = no (fit-none int_ty refl (join t bool_ty) h)
  word-of Fun.ToMSet es t q h k m = single-of (word Fun.ToMSet) es t q m (λ a r n. by_listing _ refl)
  word-of Fun.ToSet es t q h k m = single-of (word Fun.ToSet) es t q m (λ a r n. set-of a (is_strict (type_of a g)) refl)
  word-of Fun.Defined es t q h k m = single-of (word Fun.Defined) es t q m (λ f r n. defined f t r n h)
  word-of Fun.ToRelation es t q h k m = single-of (word Fun.ToRelation) es t q m (λ f r n. related f t r n h)
  word-of Fun.Range es t q h k m = single-of (word Fun.Range) es t q m (λ f r n. results f t r n h)
  word-of Fun.Parts es t q h k m = single-of (word Fun.Parts) es t q m (λ p r n. parts p t r n h)
  word-of Fun.Participants es t q h k m = single-of (word Fun.Participants) es t q m (λ p r n. participants p t r n h)
  word-of Fun.Image es t q h k m = is_another refl
  word-of Fun.Party es t q h k m = is_another refl
  word-of Fun.And es t q h k m = no (sym k)
  word-of Fun.Or es t q h k m = no (sym k)
  word-of Fun.AllDiff es t q h k m = no (sym k)
  word-of Fun.Together es t q h k m = no (sym k)
  word-of Fun.Freq es t q h k m = no h
  word-of Fun.PreImage es t q h k m = no h

  -- The arguments of a result.
  image : (f b : Ex) (t u : Ty) → type_of f g ≡ Some t → is_told (Some t) ≡ true →
      has_members (and_then (join t (compound2 a_function any_ty u)) arguments_ty) ≡ true →
      Has (node_ex false (word Fun.PreImage) (more_exs f (more_exs b no_exs)))
  image f b (compound2 a_function a c) u r k h = by_made _ (of-function (type_of f g) _ a c r)
  image f b (compound1 a_function a) u r k h = no (short (join a any_ty) h)
    where
      short : (o : Option Ty) → has_members (and_then (option_map (compound a_function) (and_then o (λ v. None))) arguments_ty) ≡ true →
          false ≡ true
      short None h = h
      short (Some v) h = h
  image f b (compound a_function (more_tys a (more_tys c (more_tys d ds)))) u r k h = no (long (join a any_ty) (join c u) h)
    where
      long : (o p : Option Ty) →
          has_members (and_then
          (option_map (compound a_function) (and_then o (λ v. option_map (more_tys v) (and_then p (λ w. None))))) arguments_ty) ≡ true →
          false ≡ true
      long None p h = h
      long (Some v) None h = h
      long (Some v) (Some w) h = h
  image f b any_ty u r k h = no k
  image f b _ u r k h = no h

  -- Two operands of a word.
  words-of : (f : Fun) (es : Exs) (t u : Ty) → types_of es g ≡ map Some (t ∷ u ∷ []) →
      has_members (type_of_op (word f) (t ∷ u ∷ [])) ≡ true → is_truth_word f ≡ false → are_told g es ≡ true →
      Has (node_ex false (word f) es)
  words-of Fun.PreImage es t u q h k m = pair-of (word Fun.PreImage) es t u q m (λ f b r n.
      let p = first-is (type_of f g) (type_of b g ∷ []) t (u ∷ []) r in
      image f b t u p (ap is_told (sym p) ∙ and-left (is_told (type_of f g)) _ n) h)
  words-of Fun.Freq es t u q h k m = no (fit-none int_ty refl (join t (compound1 a_mset u)) h)
  words-of Fun.Image es t u q h k m = is_another refl
  words-of Fun.Party es t u q h k m = is_another refl
  words-of Fun.Together es t u q h k m = no (sym k)
  words-of _ es t u q h k m = no h

  word-has : (f : Fun) (es : Exs) (ts : List Ty) → types_of es g ≡ map Some ts → has_members (type_of_op (word f) ts) ≡ true →
      is_truth_word f ≡ false → are_told g es ≡ true →
      Has (node_ex false (word f) es)
  word-has f es [] q h k m = no h
  word-has f es (t ∷ []) q h k m = word-of f es t q h k m
  word-has f es (t ∷ u ∷ []) q h k m = words-of f es t u q h k m
  word-has f es (t ∷ u ∷ v ∷ vs) q h k m = no h

  -- An operator on one operand gives a number.
  unary-none : (o : Op1) (ts : List Ty) → has_members (type_of_op (unary o) ts) ≡ true → is_truth_op (unary o) ≡ false → false ≡ true
  unary-none o [] h k = h
  unary-none Op1.Minus (t ∷ []) h k = fit-none int_ty refl (join t int_ty) h
  unary-none Op1.Bar (t ∷ []) h k = sized-none t h
  unary-none Op1.Not (t ∷ []) h k = sym k
  unary-none o (t ∷ u ∷ ts) h k = h

  -- The type of a cell.
  cell-none : (b : Bool) (o : Option Ty) → has_members (Some (if b then bool_ty else number_cell_ty o)) ≡ true → false ≡ true
  cell-none true o h = h
  cell-none false (Some (named_ty a)) h = h
  cell-none false _ h = h

  node-has : (op : Op) (es : Exs) → has_members (type_of (node_ex false op es) g) ≡ true → is_truth_op op ≡ false → are_told g es ≡ true →
      Has (node_ex false op es)
  node-has (index qs) es h k m = is_another refl
  node-has application es h k m = is_another refl
  node-has (unary o) es h k m = let r = listed (types_of es g) (type_of_op (unary o)) h in no (unary-none o r.0 r.2 k)
  node-has (binary o) es h k m = let r = listed (types_of es g) (type_of_op (binary o)) h in two o es r.0 r.1 r.2 k m
  node-has (word f) es h k m = let r = listed (types_of es g) (type_of_op (word f)) h in word-has f es r.0 r.1 r.2 k m
  node-has tuple_literal es h k m = let r = listed (types_of es g) (type_of_op tuple_literal) h in no r.2
  node-has (record_literal fs) es h k m = let r = listed (types_of es g) (type_of_op (record_literal fs)) h in no r.2
  node-has set_literal es h k m = by_listing _ refl
  node-has mset_literal es h k m = by_listing _ refl
  node-has relation_literal es h k m = by_listing _ refl
  node-has matrix_literal es h k m = by_listing _ refl
  node-has function_literal es h k m = by_made _ refl
  node-has partition_literal es h k m = by_made _ refl

-- Each source has a listing, or is left.
pub sources-have : SourcesHaveListings
sources-have g x y (number_ex n) h k = no h
sources-have g x y (truth_ex b) h k = no h
sources-have g x y (name_ex a) h k = is_another refl
sources-have g x y (comp_ex e gs) h k = by_listing _ refl
sources-have g x y (matrix_ex es d) h k = by_made _ refl
sources-have g x y (cell_ex b n es) h k = no (cell-none g x y b (look g n) h)
sources-have g x y (seen_ex r d ns es) h k = is_another refl
sources-have g x y (node_ex true op es) h k = no k
sources-have g x y (node_ex false op es) h k =
    node-has g x y op es h (not-true (is_truth_op op) (and-left (not (is_truth_op op)) _ k)) (and-right (not (is_truth_op op)) _ k)
