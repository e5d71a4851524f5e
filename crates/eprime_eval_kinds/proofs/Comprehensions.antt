-- Generators and conditions one behind the other, and the body behind them.
use Rattle.std.proofs.Common.{◌≡◌, refl, sym, ap, ◌∙◌, subst, ℕ, ◌+◌, ◌<◌, ◌≤◌, List, [], ◌∷◌, ◌++◌, append_assoc, append-nil, map, take, length, get_or, Some}
use Rattle.std.proofs.lemmas.List.{map-append, take_more, take_all}
use Rattle.ess_semantics.specs.Values.{Text, a_matrix}
use Rattle.ess_semantics.specs.Names.{Names}
use Rattle.ess_semantics.specs.Trees.{name_pat, comp_ex, no_gens, over, cond}
use Rattle.ess_semantics.specs.Types.{Ty, int_ty, compound2, type_of_dom}
use Rattle.ess_semantics.specs.ModelMeaning as model
use Rattle.ess_semantics.specs.ModelMeaning.{with_gen}
use Rattle.ess_grammar.specs.Models.{Scope}
use Rattle.eprime_tree.specs.declared.expressions.PEx.{PEx}
use Rattle.eprime_tree.specs.declared.expressions.PGen.{PGen}
use Rattle.eprime_tree.specs.declared.expressions.PDom.{PDom}
use Rattle.eprime_tree.specs.declared.expressions.PGen.TheVariants as gen
use Rattle.eprime_tree.specs.declared.expressions.PList.TheVariants as list
use Rattle.eprime_tree.specs.Views.{Item, over_item, cond_item, gens_of, pure_ex, pure_gen, pure_dom}
use Rattle.eprime_tree.proofs.Equations.{pure_gen-Over, pure_gen-If, pure_list-Comp}
use Rattle.eprime_eval_kinds.specs.declared.declared.Shape.{Shape}
use Rattle.eprime_eval_kinds.specs.declared.nodes.KindedEx.{KindedEx}
use Rattle.eprime_eval_kinds.specs.declared.lists.KindedList.{KindedList}
use Rattle.eprime_eval_kinds.specs.declared.tree.Kind.{Kind}
use Rattle.eprime_eval_kinds.specs.declared.tree.KGen.{KGen}
use Rattle.eprime_eval_kinds.specs.declared.tree.KDom.{KDom}
use Rattle.eprime_eval_kinds.specs.declared.tree.KGen.TheVariants as kgen
use Rattle.eprime_eval_kinds.specs.KindedViews.{pure_kex, pure_kgen, pure_kdom, pure_kind, pure_kinded}
use Rattle.eprime_eval_kinds.specs.KindedLists.{pure_listed}
use Rattle.eprime_eval_kinds.specs.Shapes.{names_of}
use Rattle.eprime_eval_kinds.specs.Kinding.{with_item, with_items, IsKinded, IsKindedList, AreKindedGens, IsKindedGen, IsKindedDom}
use Rattle.eprime_eval_kinds.proofs.KindedEquations.{pure_kgen_over, pure_kgen_if}

-- ---- items in front

-- Items in front of others.
items-append : (is js : List Item) (k : model.Kinded) → with_items (is ++ js) k ≡ with_items is (with_items js k)
items-append [] js k = refl
items-append (i ∷ is) js k = ap (with_gen (with_item i)) (items-append is js k)

one-item : (i : Item) (is : List Item) → with_item i (gens_of is) ≡ gens_of (i ∷ is)
one-item (over_item a d) is = refl
one-item (cond_item e) is = refl

-- Items in front of a body alone.
items-body : (is : List Item) (b : model.Kinded)
    → with_items is (comp_ex b.0 no_gens, compound2 a_matrix int_ty b.1) ≡ (comp_ex b.0 (gens_of is), compound2 a_matrix int_ty b.1)
items-body [] b = refl
items-body (i ∷ is) b = ap (with_gen (with_item i)) (items-body is b)
    ∙ ap (λ gs. (comp_ex b.0 gs, compound2 a_matrix int_ty b.1)) (one-item i is)

-- ---- one item

-- A generator over a domain.
pub over_kinded : (ss : List Shape) (g h : Names Ty) (a : Text) (d : PDom) (k : KDom) (t : Kind) → IsKindedDom ss g d k
    → ((s : Scope) → type_of_dom (pure_dom s d) ≡ pure_kind t) → h ≡ (a, pure_kind t) ∷ g
    → IsKindedGen ss g (gen.Over a d) (kgen.Over a k) h
over_kinded ss g h a d k t q p e = record {
  means = λ ds s m is c.
      ap (λ i. model.kinded_under ds (gens_of (i ∷ is)) g c) (pure_gen-Over s a d)
      ∙ ap (λ y. with_gen (λ hs. over (name_pat a) y hs) (model.kinded_under ds (gens_of is) ((a, type_of_dom (pure_dom s d)) ∷ g) c))
      (sym (q.means ds s m))
      ∙ ap (λ u. with_gen (λ hs. over (name_pat a) (pure_kdom (names_of ss) k) hs) (model.kinded_under ds (gens_of is) ((a, u) ∷ g) c))
      (p s)
      ∙ ap (λ j. with_gen (λ hs. over (name_pat a) (pure_kdom (names_of ss) k) hs) (model.kinded_under ds (gens_of is) j c)) (sym e)
      ∙ sym (ap (λ i. with_items (i ∷ []) (model.kinded_under ds (gens_of is) h c)) (pure_kgen_over (names_of ss) a k));
}

-- A condition.
pub if_kinded : (ss : List Shape) (g h : Names Ty) (e : PEx) (x : KindedEx) → IsKinded ss g e x → h ≡ g
    → IsKindedGen ss g (gen.If e) (kgen.If x.ex) h
if_kinded ss g h e x q p = record {
  means = λ ds s m is c.
      ap (λ i. model.kinded_under ds (gens_of (i ∷ is)) g c) (pure_gen-If s e)
      ∙ ap (λ y. with_gen (λ hs. cond y.0 hs) (model.kinded_under ds (gens_of is) g c)) (sym (q.means ds s m))
      ∙ ap (λ j. with_gen (λ hs. cond (pure_kex (names_of ss) x.ex) hs) (model.kinded_under ds (gens_of is) j c)) (sym p)
      ∙ sym (ap (λ i. with_items (i ∷ []) (model.kinded_under ds (gens_of is) h c)) (pure_kgen_if (names_of ss) x.ex));
}

-- ---- one behind the other

-- None.
pub gens_none : (ss : List Shape) (g h : Names Ty) → h ≡ g → AreKindedGens ss g [] [] h
gens_none ss g h e = record { means = λ ds s m is c. ap (λ j. model.kinded_under ds (gens_of is) j c) (sym e) }

-- One behind others.
gens-behind : (ss : List Shape) (g h i : Names Ty) (xs : List PGen) (x : PGen) (ks : List KGen) (k : KGen) → AreKindedGens ss g xs ks h
    → IsKindedGen ss h x k i
    → AreKindedGens ss g (xs ++ x ∷ []) (ks ++ k ∷ []) i
gens-behind ss g h i xs x ks k p q = record {
  means = λ ds s m is c.
      ap (λ l. model.kinded_under ds (gens_of (l ++ is)) g c) (map-append (pure_gen s) xs (x ∷ []))
      ∙ ap (λ l. model.kinded_under ds (gens_of l) g c) (append_assoc (map (pure_gen s) xs) (pure_gen s x ∷ []) is)
      ∙ p.means ds s m (pure_gen s x ∷ is) c
      ∙ ap (with_items (map (pure_kgen (names_of ss)) ks)) (q.means ds s m is c)
      ∙ sym (items-append (map (pure_kgen (names_of ss)) ks) (pure_kgen (names_of ss) k ∷ []) (model.kinded_under ds (gens_of is) i c))
      ∙ sym (ap (λ l. with_items l (model.kinded_under ds (gens_of is) i c)) (map-append (pure_kgen (names_of ss)) ks (k ∷ [])));
}

-- The next of a row.
pub gens_more : (ss : List Shape) (g h i : Names Ty) (xs : List PGen) (n : ℕ) (x : PGen) (ks ls : List KGen) (k : KGen) → n < length xs
    → x ≡ get_or xs n x
    → AreKindedGens ss g (take n xs) ks h → IsKindedGen ss h x k i → ls ≡ ks ++ k ∷ [] → AreKindedGens ss g (take (n + 1) xs) ls i
gens_more ss g h i xs n x ks ls k lt at p q e =
    subst (λ l. AreKindedGens ss g l ls i) (sym (take_more xs n x lt ∙ ap (λ y. take n xs ++ y ∷ []) (sym at)))
    (subst (λ l. AreKindedGens ss g (take n xs ++ x ∷ []) l i) (sym e) (gens-behind ss g h i (take n xs) x ks k p q))

-- All of a row.
pub gens_all : (ss : List Shape) (g h : Names Ty) (xs : List PGen) (n : ℕ) (ks : List KGen) → length xs ≤ n
    → AreKindedGens ss g (take n xs) ks h → AreKindedGens ss g xs ks h
gens_all ss g h xs n ks le p = subst (λ l. AreKindedGens ss g l ks h) (take_all n xs le) p

-- ---- the whole

pub comp_kinded : (ss : List Shape) (g h : Names Ty) (e : PEx) (xs : List PGen) (ks : List KGen) (x : KindedEx) (l : KindedList)
    → AreKindedGens ss g xs ks h → IsKinded ss h e x
    → ((names : List Text) → pure_listed names (Some l)
    ≡ (comp_ex (pure_kinded names x).0 (gens_of (map (pure_kgen names) ks)), compound2 a_matrix int_ty (pure_kinded names x).1))
    → IsKindedList ss g (list.Comp e xs) (Some l)
comp_kinded ss g h e xs ks x l p q r = record {
  means = λ ds s m.
      r (names_of ss) ∙ sym (items-body (map (pure_kgen (names_of ss)) ks) (pure_kinded (names_of ss) x))
      ∙ ap (λ y. with_items (map (pure_kgen (names_of ss)) ks) (comp_ex y.0 no_gens, compound2 a_matrix int_ty y.1)) (q.means ds s m)
      ∙ sym (p.means ds s m [] (model.kinded ds (pure_ex s e)))
      ∙ ap (λ l. model.kinded_under ds (gens_of l) g (model.kinded ds (pure_ex s e))) (append-nil (map (pure_gen s) xs))
      ∙ sym (ap (λ e. model.kinded ds e g) (pure_list-Comp s e xs));
}
