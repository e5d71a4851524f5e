-- The pure tree of each expression, list, generator, domain and range of a model leads back to it.
use Rattle.std.proofs.Common.{◌≡◌, refl, sym, ap, ◌∙◌, subst, true, false, List, [], ◌∷◌, ◌++◌, map, Some, None}
use Rattle.ess_semantics.specs.Lists.{append_all}
use Rattle.ess_semantics.specs.Trees.{Ex, Dom, Ends, one_value, binary, word, plain_node}
use Rattle.ess_grammar.specs.Grammar.{one_ex, two_exs}
use Rattle.ess_grammar.specs.Models.{Scope}
use Rattle.eprime_tree.specs.declared.words.POp1.{POp1}
use Rattle.eprime_tree.specs.declared.words.POp2.{POp2}
use Rattle.eprime_tree.specs.declared.words.PFun.{PFun}
use Rattle.eprime_tree.specs.declared.expressions.PDom.{PDom}
use Rattle.eprime_tree.specs.declared.expressions.PEx.{PEx}
use Rattle.eprime_tree.specs.declared.expressions.PGen.{PGen}
use Rattle.eprime_tree.specs.declared.expressions.PList.{PList}
use Rattle.eprime_tree.specs.declared.expressions.PRange.{PRange}
use Rattle.eprime_tree.specs.declared.expressions.PEx.TheVariants as ex
use Rattle.eprime_tree.specs.declared.expressions.PList.TheVariants as list
use Rattle.eprime_tree.specs.declared.expressions.PGen.TheVariants as gen
use Rattle.eprime_tree.specs.declared.expressions.PDom.TheVariants as dom
use Rattle.eprime_tree.specs.declared.expressions.PRange.TheVariants as range
use Rattle.eprime_tree.specs.declared.expressions.PDom.TheOpen.{PDom-F, PEx-F, PGen-F, PList-F, PRange-F}
use Rattle.eprime_tree.specs.declared.expressions.PDom.TheViews.{roll-PDom, roll-PEx, roll-PGen, roll-PList, roll-PRange}
use Rattle.eprime_tree.specs.declared.expressions.PDom.TheFolds.{map-PDom, map-PEx, map-PGen, map-PList, map-PRange, ind-PDom, ind-PEx}
use Rattle.eprime_tree.specs.Views.{pure_op1, pure_op2, pure_fun, Item, Bounds, exs_of, gens_of}
use Rattle.eprime_tree.specs.Views.{pure_ex, pure_list, pure_gen, pure_dom, pure_range}
use Rattle.eprime_tree.proofs.Equations.{pure_ex-Num, pure_ex-Truth, pure_ex-Name, pure_ex-Cell}
use Rattle.eprime_tree.proofs.Equations.{pure_ex-One, pure_ex-Two, pure_ex-Fold, pure_ex-Lex}
use Rattle.eprime_tree.proofs.Equations.{pure_list-Items, pure_list-Comp, pure_gen-Over, pure_gen-If, pure_dom-Bool, pure_dom-Int}
use Rattle.eprime_tree.proofs.Equations.{pure_range-One, pure_range-Span}
use Rattle.eprime_equality.proofs.ExpressionLayers.{Of_trees}
use Rattle.eprime_equality.proofs.PureBack.{back_op2, is_list, bound_of, two_of, ranges_of}
use Rattle.eprime_equality.proofs.PureBack.{back_ex, back_list, back_exs, back_bounds, back_gens, back_dom}

-- ---- operators and words

op2-back : (o : POp2) → back_op2 (pure_op2 o) ≡ o
op2-back POp2.Pow = refl
op2-back POp2.Times = refl
op2-back POp2.Div = refl
op2-back POp2.Mod = refl
op2-back POp2.Plus = refl
op2-back POp2.Minus = refl
op2-back POp2.Eq = refl
op2-back POp2.Ne = refl
op2-back POp2.Lt = refl
op2-back POp2.Le = refl
op2-back POp2.Gt = refl
op2-back POp2.Ge = refl
op2-back POp2.LexLt = refl
op2-back POp2.LexLe = refl
op2-back POp2.LexGt = refl
op2-back POp2.LexGe = refl
op2-back POp2.And = refl
op2-back POp2.Or = refl
op2-back POp2.Implies = refl
op2-back POp2.Iff = refl

one-back : (o : POp1) (x : PEx) (e : Ex) → back_ex e ≡ x → back_ex (plain_node (pure_op1 o) (one_ex e)) ≡ ex.One o x
one-back POp1.Minus x e h = ap (ex.One POp1.Minus) h
one-back POp1.Not x e h = ap (ex.One POp1.Not) h
one-back POp1.Bar x e h = ap (ex.One POp1.Bar) h
one-back POp1.ToInt x e h = ap (ex.One POp1.ToInt) h

one-no-list : (o : POp1) (e : Ex) → is_list (plain_node (pure_op1 o) (one_ex e)) ≡ false
one-no-list POp1.Minus e = refl
one-no-list POp1.Not e = refl
one-no-list POp1.Bar e = refl
one-no-list POp1.ToInt e = refl

fold-back : (f : PFun) (x : PList) (l : Ex) → back_list l ≡ x → back_ex (plain_node (word (pure_fun f)) (one_ex l)) ≡ ex.Fold f x
fold-back PFun.And x l h = ap (ex.Fold PFun.And) h
fold-back PFun.Or x l h = ap (ex.Fold PFun.Or) h
fold-back PFun.Sum x l h = ap (ex.Fold PFun.Sum) h
fold-back PFun.Product x l h = ap (ex.Fold PFun.Product) h
fold-back PFun.Min x l h = ap (ex.Fold PFun.Min) h
fold-back PFun.Max x l h = ap (ex.Fold PFun.Max) h
fold-back PFun.AllDiff x l h = ap (ex.Fold PFun.AllDiff) h

two-back : (o : POp2) (x y : PEx) (a b : Ex) → is_list a ≡ false → back_ex a ≡ x → back_ex b ≡ y
    → back_ex (plain_node (binary (pure_op2 o)) (two_exs a b)) ≡ ex.Two o x y
two-back o x y a b single h k =
    ap (λ l. two_of l (back_op2 (pure_op2 o)) (back_ex a ∷ back_ex b ∷ []) (back_list a ∷ back_list b ∷ [])) single
    ∙ (λ i. ex.Two (op2-back o i) (h i) (k i))

lex-back : (o : POp2) (x y : PList) (a b : Ex) → is_list a ≡ true → back_list a ≡ x → back_list b ≡ y
    → back_ex (plain_node (binary (pure_op2 o)) (two_exs a b)) ≡ ex.Lex o x y
lex-back o x y a b one h k =
    ap (λ l. two_of l (back_op2 (pure_op2 o)) (back_ex a ∷ back_ex b ∷ []) (back_list a ∷ back_list b ∷ [])) one
    ∙ (λ i. ex.Lex (op2-back o i) (h i) (k i))

-- ---- what is said of each

module _ (s : Scope) where
  -- The tree of an expression leads back to it; it is no list, and no bound that is missing.
  pub record ExBack (x : PEx) : Type 0 where
    pub back : back_ex (pure_ex s x) ≡ x
    pub is_no_list : is_list (pure_ex s x) ≡ false
    pub is_bound : (y : PEx) → bound_of (pure_ex s x) y ≡ Some y

  -- The tree of a list leads back to it, and is one.
  pub record ListBack (x : PList) : Type 0 where
    pub back : back_list (pure_list s x) ≡ x
    pub is_one : is_list (pure_list s x) ≡ true

  -- Generators and conditions of which it is the first lead back to it.
  pub record GenBack (x : PGen) : Type 0 where
    pub back : (gs : List Item) → back_gens (gens_of (pure_gen s x ∷ gs)) ≡ x ∷ back_gens (gens_of gs)

  -- The tree of a domain leads back to it.
  pub record DomBack (x : PDom) : Type 0 where
    pub back : back_dom (pure_dom s x) ≡ x

  -- Ranges of which it is the first lead back to it.
  pub record RangeBack (x : PRange) : Type 0 where
    pub back : (rs : List Ends) (es : List Ex) → ranges_of ((pure_range s x).0 ∷ rs) (back_bounds (exs_of ((pure_range s x).1 ++ es)))
        ≡ x ∷ ranges_of rs (back_bounds (exs_of es))

  -- ---- rows

  exs-back : (xs : List ((x : PEx) × ExBack x)) → back_exs (exs_of (map (pure_ex s) (map (λ e. e.0) xs))) ≡ map (λ e. e.0) xs
  exs-back [] = refl
  exs-back (x ∷ xs) = λ i. x.1.back i ∷ exs-back xs i

  gens-back : (xs : List ((x : PGen) × GenBack x)) → back_gens (gens_of (map (pure_gen s) (map (λ e. e.0) xs))) ≡ map (λ e. e.0) xs
  gens-back [] = refl
  gens-back (x ∷ xs) = x.1.back (map (pure_gen s) (map (λ e. e.0) xs)) ∙ ap (λ ys. x.0 ∷ ys) (gens-back xs)

  ranges-back : (xs : List ((x : PRange) × RangeBack x)) →
      ranges_of (map (λ r. r.0) (map (pure_range s) (map (λ e. e.0) xs)))
      (back_bounds (exs_of (append_all (map (λ r. r.1) (map (pure_range s) (map (λ e. e.0) xs)))))) ≡ map (λ e. e.0) xs
  ranges-back [] = refl
  ranges-back (x ∷ xs) =
      let rs = map (pure_range s) (map (λ e. e.0) xs) in
      x.1.back (map (λ r. r.0) rs) (append_all (map (λ r. r.1) rs)) ∙ ap (λ ys. x.0 ∷ ys) (ranges-back xs)

  -- ---- expressions

  -- The tree is this one.
  ex-back : (x : PEx) (e : Ex) → pure_ex s x ≡ e → back_ex e ≡ x → is_list e ≡ false → ((y : PEx) → bound_of e y ≡ Some y) → ExBack x
  ex-back x e is back single bound = record {
    back = ap back_ex is ∙ back;
    is_no_list = ap is_list is ∙ single;
    is_bound = λ y. ap (λ e. bound_of e y) is ∙ bound y;
  }

  -- One layer whose parts lead back.
  abbrev Of_back : (Type 0 → Type 0 → Type 0 → Type 0 → Type 0 → Type 0) → Type 0
  Of_back F = F ((x : PDom) × DomBack x) ((x : PEx) × ExBack x) ((x : PGen) × GenBack x) ((x : PList) × ListBack x)
      ((x : PRange) × RangeBack x)

  abbrev of_ex : Of_back PEx-F → Of_trees PEx-F
  of_ex = map-PEx _ _ _ _ _ _ _ _ _ _ (λ e. e.0) (λ e. e.0) (λ e. e.0) (λ e. e.0) (λ e. e.0)

  abbrev of_list : Of_back PList-F → Of_trees PList-F
  of_list = map-PList _ _ _ _ _ _ _ _ _ _ (λ e. e.0) (λ e. e.0) (λ e. e.0) (λ e. e.0) (λ e. e.0)

  abbrev of_gen : Of_back PGen-F → Of_trees PGen-F
  of_gen = map-PGen _ _ _ _ _ _ _ _ _ _ (λ e. e.0) (λ e. e.0) (λ e. e.0) (λ e. e.0) (λ e. e.0)

  abbrev of_dom : Of_back PDom-F → Of_trees PDom-F
  of_dom = map-PDom _ _ _ _ _ _ _ _ _ _ (λ e. e.0) (λ e. e.0) (λ e. e.0) (λ e. e.0) (λ e. e.0)

  abbrev of_range : Of_back PRange-F → Of_trees PRange-F
  of_range = map-PRange _ _ _ _ _ _ _ _ _ _ (λ e. e.0) (λ e. e.0) (λ e. e.0) (λ e. e.0) (λ e. e.0)

  made_ex : (y : Of_back PEx-F) → ExBack (roll-PEx (of_ex y))
  made_ex (PEx-F.Num n) = subst ExBack (sym (ex.rolls-Num n))
      (ex-back (ex.Num n) _ (pure_ex-Num s n) refl refl (λ y. refl))
  made_ex (PEx-F.Truth b) = subst ExBack (sym (ex.rolls-Truth b))
      (ex-back (ex.Truth b) _ (pure_ex-Truth s b) refl refl (λ y. refl))
  made_ex (PEx-F.Name a) = subst ExBack (sym (ex.rolls-Name a))
      (ex-back (ex.Name a) _ (pure_ex-Name s a) refl refl (λ y. refl))
  made_ex (PEx-F.Cell a es) = let xs = map (λ e. e.0) es in subst ExBack (sym (ex.rolls-Cell a xs))
      (ex-back (ex.Cell a xs) _ (pure_ex-Cell s a xs) (ap (ex.Cell a) (exs-back es)) refl (λ y. refl))
  made_ex (PEx-F.PEx::One o e) = subst ExBack (sym (ex.rolls-One o e.0))
      (ex-back (ex.One o e.0) _ (pure_ex-One s o e.0) (one-back o e.0 (pure_ex s e.0) e.1.back) (one-no-list o (pure_ex s e.0)) (λ y. refl))
  made_ex (PEx-F.Two o a b) = subst ExBack (sym (ex.rolls-Two o a.0 b.0))
      (ex-back (ex.Two o a.0 b.0) _ (pure_ex-Two s o a.0 b.0)
      (two-back o a.0 b.0 (pure_ex s a.0) (pure_ex s b.0) a.1.is_no_list a.1.back b.1.back) refl (λ y. refl))
  made_ex (PEx-F.Fold f l) = subst ExBack (sym (ex.rolls-Fold f l.0))
      (ex-back (ex.Fold f l.0) _ (pure_ex-Fold s f l.0) (fold-back f l.0 (pure_list s l.0) l.1.back) refl (λ y. refl))
  made_ex (PEx-F.Lex o a b) = subst ExBack (sym (ex.rolls-Lex o a.0 b.0))
      (ex-back (ex.Lex o a.0 b.0) _ (pure_ex-Lex s o a.0 b.0)
      (lex-back o a.0 b.0 (pure_list s a.0) (pure_list s b.0) a.1.is_one a.1.back b.1.back) refl (λ y. refl))

  -- ---- lists, generators and conditions

  list-back : (x : PList) (e : Ex) → pure_list s x ≡ e → back_list e ≡ x → is_list e ≡ true → ListBack x
  list-back x e is back one = record { back = ap back_list is ∙ back; is_one = ap is_list is ∙ one }

  made_list : (y : Of_back PList-F) → ListBack (roll-PList (of_list y))
  made_list (PList-F.Items es) = let xs = map (λ e. e.0) es in subst ListBack (sym (list.rolls-Items xs))
      (list-back (list.Items xs) _ (pure_list-Items s xs) (ap list.Items (exs-back es)) refl)
  made_list (PList-F.Comp e gs) = let ys = map (λ e. e.0) gs in subst ListBack (sym (list.rolls-Comp e.0 ys))
      (list-back (list.Comp e.0 ys) _ (pure_list-Comp s e.0 ys) (λ i. list.Comp (e.1.back i) (gens-back gs i)) refl)

  gen-back : (x : PGen) (g : Item) → pure_gen s x ≡ g
      → ((gs : List Item) → back_gens (gens_of (g ∷ gs)) ≡ x ∷ back_gens (gens_of gs)) → GenBack x
  gen-back x g is back = record { back = λ gs. ap (λ g. back_gens (gens_of (g ∷ gs))) is ∙ back gs }

  made_gen : (y : Of_back PGen-F) → GenBack (roll-PGen (of_gen y))
  made_gen (PGen-F.Over a d) = subst GenBack (sym (gen.rolls-Over a d.0))
      (gen-back (gen.Over a d.0) _ (pure_gen-Over s a d.0) (λ gs. ap (λ d. gen.Over a d ∷ back_gens (gens_of gs)) d.1.back))
  made_gen (PGen-F.If e) = subst GenBack (sym (gen.rolls-If e.0))
      (gen-back (gen.If e.0) _ (pure_gen-If s e.0) (λ gs. ap (λ e. gen.If e ∷ back_gens (gens_of gs)) e.1.back))

  -- ---- domains and ranges

  dom-back : (x : PDom) (d : Dom) → pure_dom s x ≡ d → back_dom d ≡ x → DomBack x
  dom-back x d is back = record { back = ap back_dom is ∙ back }

  made_dom : (y : Of_back PDom-F) → DomBack (roll-PDom (of_dom y))
  made_dom PDom-F.Bool = subst DomBack (sym dom.rolls-Bool) (dom-back dom.Bool _ (pure_dom-Bool s) refl)
  made_dom (PDom-F.Int rs) = let xs = map (λ e. e.0) rs in subst DomBack (sym (dom.rolls-Int xs))
      (dom-back (dom.Int xs) _ (pure_dom-Int s xs) (ap dom.Int (ranges-back rs)))

  range-back : (x : PRange) (p : Bounds) → pure_range s x ≡ p
      → ((rs : List Ends) (es : List Ex) → ranges_of (p.0 ∷ rs) (back_bounds (exs_of (p.1 ++ es)))
      ≡ x ∷ ranges_of rs (back_bounds (exs_of es))) → RangeBack x
  range-back x p is back = record {
    back = λ rs es. ap (λ p. ranges_of (p.0 ∷ rs) (back_bounds (exs_of (p.1 ++ es)))) is ∙ back rs es;
  }

  -- A bound is one.
  bound-back : (x : PEx) → ExBack x → bound_of (pure_ex s x) (back_ex (pure_ex s x)) ≡ Some x
  bound-back x h = h.is_bound (back_ex (pure_ex s x)) ∙ ap Some h.back

  made_range : (y : Of_back PRange-F) → RangeBack (roll-PRange (of_range y))
  made_range (PRange-F.PRange::One e) = subst RangeBack (sym (range.rolls-One e.0))
      (range-back (range.One e.0) _ (pure_range-One s e.0)
      (λ rs es. ap (λ b. ranges_of (one_value ∷ rs) (b ∷ back_bounds (exs_of es))) (bound-back e.0 e.1)))
  made_range (PRange-F.Span None None) = subst RangeBack (sym (range.rolls-Span None None))
      (range-back (range.Span None None) _ (pure_range-Span s None None) (λ rs es. refl))
  made_range (PRange-F.Span None (Some b)) = subst RangeBack (sym (range.rolls-Span None (Some b.0)))
      (range-back (range.Span None (Some b.0)) _ (pure_range-Span s None (Some b.0))
      (λ rs es. ap (λ b. range.Span None b ∷ ranges_of rs (back_bounds (exs_of es))) (bound-back b.0 b.1)))
  made_range (PRange-F.Span (Some a) None) = subst RangeBack (sym (range.rolls-Span (Some a.0) None))
      (range-back (range.Span (Some a.0) None) _ (pure_range-Span s (Some a.0) None)
      (λ rs es. ap (λ a. range.Span a None ∷ ranges_of rs (back_bounds (exs_of es))) (bound-back a.0 a.1)))
  made_range (PRange-F.Span (Some a) (Some b)) = subst RangeBack (sym (range.rolls-Span (Some a.0) (Some b.0)))
      (range-back (range.Span (Some a.0) (Some b.0)) _ (pure_range-Span s (Some a.0) (Some b.0))
      (λ rs es i. range.Span (bound-back a.0 a.1 i) (bound-back b.0 b.1 i) ∷ ranges_of rs (back_bounds (exs_of es))))

  -- ---- all trees

  step_dom : (x : Of_trees PDom-F) (y : Of_back PDom-F) → of_dom y ≡ x → DomBack (roll-PDom x)
  step_dom x y p = subst (λ z. DomBack (roll-PDom z)) p (made_dom y)

  step_ex : (x : Of_trees PEx-F) (y : Of_back PEx-F) → of_ex y ≡ x → ExBack (roll-PEx x)
  step_ex x y p = subst (λ z. ExBack (roll-PEx z)) p (made_ex y)

  step_gen : (x : Of_trees PGen-F) (y : Of_back PGen-F) → of_gen y ≡ x → GenBack (roll-PGen x)
  step_gen x y p = subst (λ z. GenBack (roll-PGen z)) p (made_gen y)

  step_list : (x : Of_trees PList-F) (y : Of_back PList-F) → of_list y ≡ x → ListBack (roll-PList x)
  step_list x y p = subst (λ z. ListBack (roll-PList z)) p (made_list y)

  step_range : (x : Of_trees PRange-F) (y : Of_back PRange-F) → of_range y ≡ x → RangeBack (roll-PRange x)
  step_range x y p = subst (λ z. RangeBack (roll-PRange z)) p (made_range y)

  -- The tree of each domain leads back to it.
  pub each-dom-back : (x : PDom) → DomBack x
  each-dom-back = ind-PDom DomBack ExBack GenBack ListBack RangeBack step_dom step_ex step_gen step_list step_range

  -- The tree of each expression leads back to it.
  pub each-ex-back : (x : PEx) → ExBack x
  each-ex-back = ind-PEx DomBack ExBack GenBack ListBack RangeBack step_dom step_ex step_gen step_list step_range
