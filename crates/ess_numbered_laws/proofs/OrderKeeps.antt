-- A sign between lists is kept where it is said by the numbers of their items.
use Rattle.std.proofs.Common.{◌≡◌, refl, sym, ap, ◌∙◌, subst, ℕ, Bool, true, false, ◌&&◌, ◌||◌, not, if◌then◌else◌, List, [], ◌∷◌, length, pos, Option, Some, None}
use Rattle.std.specs.Prelude.{IsTrue, nat_le}
use Rattle.std.proofs.lemmas.Bool.{le-leb}
use Rattle.ess_semantics.specs.declared.words.Op2.{Op2}
use Rattle.ess_semantics.specs.Lists.{and_then, or_else}
use Rattle.ess_semantics.specs.Values.{Text, Value, number, truth, tuple, of_list, items_of, a_matrix}
use Rattle.ess_semantics.specs.Order.{below, same_text}
use Rattle.ess_semantics.specs.Names.{Names}
use Rattle.ess_semantics.specs.Trees.{binary, Ex, name_ex, comp_ex, ex2, no_gens, cond, Gens}
use Rattle.ess_semantics.specs.Types.{Ty, compound2}
use Rattle.ess_semantics.specs.Typing.{type_of}
use Rattle.ess_semantics.specs.TypeMembers.{is_of_type}
use Rattle.ess_semantics.specs.Operators.{value_of_node, false_where_undefined}
use Rattle.ess_semantics.specs.Meaning.{Env, meaning, domain_of, members_in}
use Rattle.ess_semantics.specs.Contexts.{Guarded, guards}
use Rattle.ess_semantics.specs.Meets.{Meets, MeetsGens}
use Rattle.ess_semantics.proofs.Orders.{to_list-of_list}
use Rattle.ess_semantics.proofs.Tests.{and-left, and-right}
use Rattle.ess_guard_laws.specs.IndexDomains.{one_up_to}
use Rattle.ess_rules_laws.specs.Rules.{Unused}
use Rattle.ess_rules_laws.specs.FoldRules.{is_laid_open}
use Rattle.ess_rules_laws.specs.MatrixRules.{item_of}
use Rattle.ess_rules_laws.proofs.Connectives.{binary-means}
use Rattle.ess_rules_laws.proofs.MatrixRules.{each-of-any}
use Rattle.ess_rules_laws.proofs.RuleAnswers.{AnswerKeeps, fires, both-there, behind, meets-behind}
use Rattle.ess_rules_laws.proofs.Simulation.{but}
use Rattle.ess_refine_laws.specs.AllRules.{Supply}
use Rattle.ess_open_rules_laws.specs.OpenGenerators.{at_first_open}
use Rattle.ess_numbered_laws.specs.MostItems.{most_items}
use Rattle.ess_numbered_laws.specs.Bounds.{IsBound}
use Rattle.ess_numbered_laws.specs.CountedSources.{items_counted, is_number_of, numbers_of, is_over_counted, counted_list}
use Rattle.ess_numbered_laws.specs.EqualByNumber.{items_compared}
use Rattle.ess_numbered_laws.specs.OrderByNumber.{equal_before, lower_list, ordered_lists, with_items, order_by_number}
use Rattle.ess_numbered_laws.specs.OrderLaws.{is_lower, OrderAsks, OrderKeeps}
use Rattle.ess_numbered_laws.proofs.ItemsByNumber.{count-met, listed, list-of-type}
use Rattle.ess_numbered_laws.proofs.MostNames.{most-uses}
use Rattle.ess_numbered_laws.proofs.OrderedLists.{sign, lower-means}

-- ---- structures

module _ (x z : Text) (n a b : Ex) (t u : Ty) (env : Env) (new-n : Unused x n) (one-a : Unused x a) (other-a : Unused z a)
    (one-b : Unused x b) (other-b : Unused z b) (met-n : Meets n env) (met-a : Meets a env) (met-b : Meets b env) where
  -- The items at a number.
  compared-met : (o : Op2) → guards (binary o) ≡ false → (y : Text) (here : Env) → Meets a here → Meets b here →
      Meets (items_compared o t u y a b) here
  compared-met o f y here p q = (
    (p, (tt, tt)),
    subst (λ c. Guarded c (meaning (item_of t a (name_ex y)) here) (Meets (item_of u b (name_ex y)) here × Unit {0})) (sym f)
        ((q, (tt, tt)), tt),
  )

  number-met : (y w : Text) (c : Ex) (here : Env) → Meets c here → Meets (is_number_of y w c) here
  number-met y w c here p = (tt, (count-met w c here p, tt))

  before-met : (v : Value) → Meets (equal_before x z n t u a b) (behind x v env)
  before-met v = (
    (
      (tt, (meets-behind x v n env new-n met-n, tt)),
      each-of-any (members_in (domain_of (one_up_to n) (behind x v env)))
          (λ w. MeetsGens (cond (ex2 true Op2.Lt (name_ex z) (name_ex x)) no_gens) (behind z w (behind x v env))
          (λ here. Meets (items_compared Op2.Eq t u z a b) here))
          (λ w. (
            (tt, (tt, tt)),
            λ h. compared-met Op2.Eq refl z (behind z w (behind x v env))
                (meets-behind z w a (behind x v env) other-a (meets-behind x v a env one-a met-a))
                (meets-behind z w b (behind x v env) other-b (meets-behind x v b env one-b met-b)),
          )),
    ),
    tt,
  )

  numbers-met : (body : Ex) (gs : Gens) → ((v : Value) → MeetsGens gs (behind x v env) (λ here. Meets body here)) →
      Meets (comp_ex body (numbers_of x z n a gs)) env
  numbers-met body gs h = (
    (tt, (met-n, tt)),
    each-of-any (members_in (domain_of (one_up_to n) env))
        (λ v. MeetsGens (cond (is_number_of x z a) gs) (behind x v env) (λ here. Meets body here))
        (λ v. (number-met x z a (behind x v env) (meets-behind x v a env one-a met-a), λ c. h v)),
  )

  counts-met : (o : Bool) → Meets (ex2 true (sign o) (items_counted z a) (items_counted z b)) env
  counts-met false = (count-met z a env met-a, (count-met z b env met-b, tt))
  counts-met true = (count-met z a env met-a, (count-met z b env met-b, tt))

  -- The tables meet the structures of the whole.
  pub lower-met : (o : Bool) → Meets (lower_list (sign o) x z n a b t u) env
  lower-met o = (
    (
      numbers-met (ex2 true Op2.And (items_compared Op2.Lt t u x a b) (equal_before x z n t u a b)) (cond (is_number_of x z b) no_gens)
          (λ v. (
            number-met x z b (behind x v env) (meets-behind x v b env one-b met-b),
            λ c. (
              compared-met Op2.Lt refl x (behind x v env) (meets-behind x v a env one-a met-a) (meets-behind x v b env one-b met-b),
              λ d. (before-met v, tt),
            ),
          )),
      tt,
    ),
    (
      (
        counts-met o,
        λ c. (
          (
            numbers-met (items_compared Op2.Eq t u x a b) no_gens
                (λ v. compared-met Op2.Eq refl x (behind x v env) (meets-behind x v a env one-a met-a)
                (meets-behind x v b env one-b met-b)),
            tt,
          ),
          tt,
        ),
      ),
      tt,
    ),
  )

-- ---- the sign

-- What bounds one of the lists.
pub record BoundsOne (n : Ex) (a b : Ex) (env : Env) : Type 0 where
  pub most : ℕ
  pub value : meaning n env ≡ Some (number (pos most))
  pub enough : (v w : Value) → meaning a env ≡ Some v → meaning b env ≡ Some w →
      nat_le (length (items_of v)) most || nat_le (length (items_of w)) most ≡ true
  pub met : Meets n env

or-turned : (c d : Bool) → c || d ≡ true → d || c ≡ true
or-turned true true h = refl
or-turned true false h = refl
or-turned false true h = refl
or-turned false false h = cc

turned : (n a b : Ex) (env : Env) → BoundsOne n a b env → BoundsOne n b a env
turned n a b env h = record {
  most = h.most;
  value = h.value;
  enough = λ v w p q. or-turned (nat_le (length (items_of w)) h.most) (nat_le (length (items_of v)) h.most) (h.enough w v q p);
  met = h.met;
}

module _ (x z : Text) (apart : same_text z x ≡ false) (n : Ex) (env : Env) (new-n : Unused x n) where
  -- `a < b` or `a <= b` of lists.
  sign-keeps : (o : Bool) (a b : Ex) (i j t u : Ty) → Unused x a → Unused z a → Unused x b → Unused z b → BoundsOne n a b env →
      is_laid_open a ≡ true → is_laid_open b ≡ true →
      (v w : Value) → meaning a env ≡ Some v → meaning b env ≡ Some w → IsTrue (is_of_type (compound2 a_matrix i t) env v) →
      IsTrue (is_of_type (compound2 a_matrix j u) env w) → Meets a env → Meets b env →
      (old : Ex) → ((xs ys : List Value) → v ≡ listed xs → w ≡ listed ys → meaning old env ≡ Some (truth (is_lower o xs ys))) →
      (meaning old env ≡ meaning (lower_list (sign o) x z n a b t u) env) × Meets (lower_list (sign o) x z n a b t u) env
  sign-keeps o a b i j t u one-a other-a one-b other-b bound open-a open-b v w p q type-a type-b met-a met-b old h =
      let l = list-of-type z a env i t v open-a p met-a type-a in
      let r = list-of-type z b env j u w open-b q met-b type-b in (
        h l.items r.items l.is_list r.is_list
            ∙ sym (lower-means x z apart n a b t u env bound.most bound.value new-n one-a other-a one-b other-b l.items r.items
            (p ∙ ap Some l.is_list) (q ∙ ap Some r.is_list) l.typed r.typed o
            (ap (λ k. nat_le k bound.most || nat_le (length r.items) bound.most) (many l.items v l.is_list)
            ∙ ap (λ k. nat_le (length (items_of v)) bound.most || nat_le k bound.most) (many r.items w r.is_list) ∙ bound.enough v w p q)),
        lower-met x z n a b t u env new-n one-a other-a one-b other-b bound.met met-a met-b o,
      )
    where
      many : (xs : List Value) (v : Value) → v ≡ listed xs → length xs ≡ length (items_of v)
      many xs v e = sym (ap (λ y. length (items_of y)) e ∙ ap length (to_list-of_list xs))

-- Two lists as tuples.
as-lists : (xs ys : List Value) (f : Value → Value → Bool) → f (tuple (of_list (items_of (listed xs))))
    (tuple (of_list (items_of (listed ys))))
    ≡ f (tuple (of_list xs)) (tuple (of_list ys))
as-lists xs ys f = ap (λ l. f (tuple (of_list l)) (tuple (of_list (items_of (listed ys))))) (to_list-of_list xs)
    ∙ ap (λ l. f (tuple (of_list xs)) (tuple (of_list l))) (to_list-of_list ys)

module _ (s : Supply) (g : Names Ty) (apart : same_text s.other s.one ≡ false) (o : Op2) (a b : Ex) (env : Env) (one-a : Unused s.one a)
    (other-a : Unused s.other a) (one-b : Unused s.one b) (other-b : Unused s.other b) (open-a : is_laid_open a ≡ true)
    (open-b : is_laid_open b ≡ true) (v w : Value) (is-v : meaning a env ≡ Some v) (is-w : meaning b env ≡ Some w) where
  -- By the sign.
  signs-keep : (n : Ex) (i j t u : Ty) → Unused s.one n → BoundsOne n a b env → IsTrue (is_of_type (compound2 a_matrix i t) env v) →
      IsTrue (is_of_type (compound2 a_matrix j u) env w) →
      AnswerKeeps (ordered_lists o s.one s.other n a b t u) (ex2 true o a b) env
  signs-keep n i j t u new-n bound p q = go o
    where
      means : (o : Op2) (xs ys : List Value) → v ≡ listed xs → w ≡ listed ys → meaning (ex2 true o a b) env
          ≡ false_where_undefined true (value_of_node (binary o) (Some (listed xs) ∷ Some (listed ys) ∷ []))
      means o xs ys e f = binary-means env true o a b (listed xs) (listed ys) (is-v ∙ ap Some e) (is-w ∙ ap Some f)

      go : (o : Op2) → AnswerKeeps (ordered_lists o s.one s.other n a b t u) (ex2 true o a b) env
      go Op2.LexLt = λ m. sign-keeps s.one s.other apart n env new-n false a b i j t u one-a other-a one-b other-b bound open-a open-b v w
          is-v is-w p q m.0 m.1.0 (ex2 true Op2.LexLt a b)
          (λ xs ys e f. means Op2.LexLt xs ys e f ∙ ap (λ c. Some (truth c)) (as-lists xs ys below))
      go Op2.LexLe = λ m. sign-keeps s.one s.other apart n env new-n true a b i j t u one-a other-a one-b other-b bound open-a open-b v w
          is-v is-w p q m.0 m.1.0 (ex2 true Op2.LexLe a b)
          (λ xs ys e f. means Op2.LexLe xs ys e f ∙ ap (λ c. Some (truth (not c))) (as-lists ys xs below))
      go Op2.LexGt = λ m. sign-keeps s.one s.other apart n env new-n false b a j i u t one-b other-b one-a other-a (turned n a b env bound)
          open-b open-a w v is-w is-v q p m.1.0 m.0 (ex2 true Op2.LexGt a b)
          (λ ys xs f e. means Op2.LexGt xs ys e f ∙ ap (λ c. Some (truth c)) (as-lists ys xs below))
      go Op2.LexGe = λ m. sign-keeps s.one s.other apart n env new-n true b a j i u t one-b other-b one-a other-a (turned n a b env bound)
          open-b open-a w v is-w is-v q p m.1.0 m.0 (ex2 true Op2.LexGe a b)
          (λ ys xs f e. means Op2.LexGe xs ys e f ∙ ap (λ c. Some (truth (not c))) (as-lists xs ys below))
      go _ = tt

  -- By the types of both.
  typed-keeps : (n : Ex) (p q : Option Ty) → Unused s.one n → BoundsOne n a b env → ((y : Ty) → p ≡ Some y → IsTrue (is_of_type y env v)) →
      ((y : Ty) → q ≡ Some y → IsTrue (is_of_type y env w)) →
      AnswerKeeps (with_items p q (ordered_lists o s.one s.other n a b)) (ex2 true o a b) env
  typed-keeps n (Some (compound2 a_matrix i t)) (Some (compound2 a_matrix j u)) new-n bound f h =
      signs-keep n i j t u new-n bound (f (compound2 a_matrix i t) refl) (h (compound2 a_matrix j u) refl)
  typed-keeps n _ _ new-n bound f h = tt

  -- By which of them is counted.
  counted-keeps : (c d : Option Ex) (p q : Option Ty) → ((n : Ex) → c ≡ Some n → IsBound n a env × Unused s.one n) →
      ((n : Ex) → d ≡ Some n → IsBound n b env × Unused s.one n) → ((y : Ty) → p ≡ Some y → IsTrue (is_of_type y env v)) →
      ((y : Ty) → q ≡ Some y → IsTrue (is_of_type y env w)) →
      AnswerKeeps (and_then (or_else c d) (λ n. with_items p q (ordered_lists o s.one s.other n a b))) (ex2 true o a b) env
  counted-keeps (Some n) d p q h k f l = let r = h n refl in typed-keeps n p q r.1 (record {
    most = r.0.number;
    value = r.0.value;
    enough = λ y u e i. ap (λ b. b || nat_le (length (items_of u)) r.0.number) (le-leb (length (items_of y)) r.0.number (r.0.enough y e));
    met = r.0.met;
  }) f l
  counted-keeps None (Some n) p q h k f l = let r = k n refl in typed-keeps n p q r.1 (record {
    most = r.0.number;
    value = r.0.value;
    enough = λ y u e i. or-turned (nat_le (length (items_of u)) r.0.number) (nat_le (length (items_of y)) r.0.number)
        (ap (λ b. b || nat_le (length (items_of y)) r.0.number) (le-leb (length (items_of u)) r.0.number (r.0.enough u i)));
    met = r.0.met;
  }) f l
  counted-keeps None None p q h k f l = tt

-- Where an operand is counted it has as many items at most as `most_items` says.
pub counted-most : (s : Supply) (g : Names Ty) (a n : Ex) → counted_list s g a ≡ Some n → most_items s.third a ≡ Some n
counted-most s g (comp_ex e gs) n q = go (is_over_counted s g (at_first_open gs)) q
  where
    go : (c : Bool) → (if c then most_items s.third (comp_ex e gs) else None) ≡ Some n → most_items s.third (comp_ex e gs) ≡ Some n
    go true q = q
    go false q = cc
counted-most s g _ n q = cc

-- What says so uses no new name.
counted-uses : (s : Supply) (g : Names Ty) (a n : Ex) → counted_list s g a ≡ Some n → Unused s.one a → Unused s.one n
counted-uses s g a n q h = most-uses (but s.one) s.third a n (counted-most s g a n q) h

order-answer : (s : Supply) (g : Names Ty) (e : Ex) (env : Env) → OrderAsks s g e env → AnswerKeeps (order_by_number s g e) e env
order-answer s g (ex2 true o a b) env h = go (is_laid_open a && is_laid_open b) refl
  where
    go : (c : Bool) → is_laid_open a && is_laid_open b ≡ c →
        AnswerKeeps (and_then (if c then or_else (counted_list s g a) (counted_list s g b) else None)
        (λ n. with_items (type_of a g) (type_of b g) (ordered_lists o s.one s.other n a b))) (ex2 true o a b) env
    go false q = tt
    go true q = let r = both-there (meaning a env) (meaning b env) h.there in
        counted-keeps s g h.apart o a b env h.one_unused.0 h.other_unused.0 h.one_unused.1.0 h.other_unused.1.0
        (and-left (is_laid_open a) (is_laid_open b) q) (and-right (is_laid_open a) (is_laid_open b) q) r.0 r.1 r.2 r.3
        (counted_list s g a) (counted_list s g b) (type_of a g) (type_of b g)
        (λ n e. (h.bounded.0 n e, counted-uses s g a n e h.one_unused.0))
        (λ n e. (h.bounded.1 n e, counted-uses s g b n e h.one_unused.1.0))
        (λ y p. h.sound.0 y p env h.typed r.0 r.2) (λ y p. h.sound.1.0 y p env h.typed r.1 r.3)
order-answer s g _ env h = tt

-- So it is kept.
pub order-keeps : OrderKeeps
order-keeps s g e f q env h = fires (order_by_number s g e) e f env (order-answer s g e env h) q
