-- Rules of counted lists keep what they rewrite, where there are values and the numbers of items are there.
use Rattle.std.proofs.Common.{◌≡◌, refl, Bool, true, false, if◌then◌else◌, subst, [], ◌∷◌, Option, Some, None}
use Rattle.ess_semantics.specs.declared.words.Op2.{Op2}
use Rattle.ess_semantics.specs.Lists.{and_then}
use Rattle.ess_semantics.specs.Values.{a_matrix}
use Rattle.ess_semantics.specs.Names.{Names}
use Rattle.ess_semantics.specs.Trees.{by_value, index, binary, Ex, node_ex, no_exs, more_exs, ex2}
use Rattle.ess_semantics.specs.Types.{Ty, compound2}
use Rattle.ess_semantics.specs.Typing.{type_of}
use Rattle.ess_semantics.specs.Typed.{Typed}
use Rattle.ess_semantics.specs.Contexts.{guards}
use Rattle.ess_semantics.specs.Meaning.{Env}
use Rattle.ess_semantics.specs.Meets.{Meets, MeetsAll}
use Rattle.ess_semantics.specs.Kept.{Keeps}
use Rattle.ess_guard_laws.specs.Guard.{compares}
use Rattle.ess_guard_natural_laws.specs.TotalButNatural.{opens_places}
use Rattle.ess_refine_laws.specs.AllRules.{Supply, OfSome}
use Rattle.ess_values_along_laws.specs.Valued.{Valued, AllValued}
use Rattle.ess_values_along_laws.proofs.ValuesAlong.{values-along}
use Rattle.ess_open_counted_laws.proofs.LookupsCounted.{operands-plain}
use Rattle.ess_numbered_laws.specs.CountedSources.{sees_order, counted_list}
use Rattle.ess_numbered_laws.specs.Bounds.{IsBound}
use Rattle.ess_numbered_laws.specs.CountedLaws.{OtherAsks, CountedAsks}
use Rattle.ess_numbered_laws.specs.OrderByNumber.{with_items, counted_operand, order_by_number}
use Rattle.ess_numbered_laws.specs.EqualByNumber.{other_side}
use Rattle.ess_numbered_laws.specs.OrderLaws.{BoundedWhereCounted}
use Rattle.ess_numbered_laws.specs.NumberRules.{equality_of_lists, sign_between_lists, item_of_a_list, side_of_a_pair, lists_of_what_is_picked, number_rewrite}
use Rattle.ess_numbered_laws.proofs.EqualitiesKept.{equalities-keep}
use Rattle.ess_numbered_laws.proofs.NumberedSources.{items-keep, pairs-keep}
use Rattle.ess_numbered_laws.proofs.OrderKeeps.{order-keeps}
use Rattle.ess_numbered_laws.proofs.ListedSources.{picked-lists-keep}
use Rattle.ess_numbered_counted_laws.specs.NumbersCounted.{BoundThere, CountedBeside, EqualBeside, OrderBeside, NumberBeside, NumbersAreCountedOn}
use Rattle.ess_numbered_counted_laws.proofs.BoundsCounted.{list-bound, list-asked}
use Rattle.ess_numbered_counted_laws.proofs.ListedCounted.{picks-asked}

-- ---- operators

-- Where there is something under a test, it holds.
tested : (b : Bool) (o : Option Ex) (f : Ex) → (if b then o else None) ≡ Some f → b ≡ true
tested true o f q = refl
tested false o f q = cc

-- Where order counts, the first operand guards nothing.
seen : (o : Op2) → sees_order o ≡ true → guards (binary o) ≡ false
seen Op2.Eq h = refl
seen Op2.LexLt h = refl
seen Op2.LexLe h = refl
seen Op2.LexGt h = refl
seen Op2.LexGe h = refl
seen _ h = cc

-- What makes nothing doesn't fire.
none-fires : {A : Type 0} (x : Option Ex) (o p : Option Ty) (f : Ex) → and_then x (λ n. with_items o p (λ t u. None)) ≡ Some f → A
none-fires None o p f q = cc
none-fires (Some n) (Some (compound2 a_matrix i t)) (Some (compound2 a_matrix j u)) f q = cc
none-fires (Some n) _ _ f q = cc

-- A sign between lists neither guards nor compares.
sign-of : (s : Supply) (g : Names Ty) (o : Op2) (a b f : Ex) → order_by_number s g (ex2 true o a b) ≡ Some f →
    (guards (binary o) ≡ false) × (compares (binary o) ≡ false)
sign-of s g Op2.LexLt a b f q = (refl, refl)
sign-of s g Op2.LexLe a b f q = (refl, refl)
sign-of s g Op2.LexGt a b f q = (refl, refl)
sign-of s g Op2.LexGe a b f q = (refl, refl)
sign-of s g _ a b f q = none-fires (counted_operand s g a b) (type_of a g) (type_of b g) f q

module _ (env : Env) where
  -- The second operand, where the first one guards nothing.
  second-met : (h : Bool) (a b : Ex) → h ≡ false → MeetsAll h (more_exs a (more_exs b no_exs)) env → Meets b env
  second-met true a b q m = cc
  second-met false a b q m = m.1.0

  second-valued : (h w : Bool) (a b : Ex) → h ≡ false → AllValued h w (more_exs a (more_exs b no_exs)) env → Valued w b env
  second-valued true w a b q m = cc
  second-valued false w a b q m = m.1.0

-- ---- rules

module _ (s : Supply) (g : Names Ty) (env : Env) (typed : Typed g env) (w : Bool) where
  -- ---- equality

  counted-asked : (a b : Ex) → Meets a env → CountedBeside s g a b env → CountedAsks s g a b env
  counted-asked a b m c = go (counted_list s g a) refl c
    where
      go : (o : Option Ex) → counted_list s g a ≡ o → OfSome o (λ n. BoundThere n a env × OtherAsks s.one (other_side b) b env) →
          OfSome o (λ n. IsBound n a env × OtherAsks s.one (other_side b) b env)
      go None q c = tt
      go (Some n) q c = (list-bound s g a n q env c.0 m, c.1)

  equal : (e f : Ex) → number_rewrite s g equality_of_lists e ≡ Some f → EqualBeside s g e env → Valued w e env → Keeps e f env
  equal (ex2 true Op2.Eq a b) f q c v m = equalities-keep s g (ex2 true Op2.Eq a b) f q env (
    c.0,
    c.1,
    c.2,
    typed,
    values-along.compared w true (binary Op2.Eq) (more_exs a (more_exs b no_exs)) env refl c.3 v,
    counted-asked a b m.0 c.4,
    counted-asked b a m.1.0 c.5,
  ) m
  equal _ f q c v m = cc

  -- ---- signs between lists

  where-counted : (a : Ex) → Meets a env → OfSome (counted_list s g a) (λ n. BoundThere n a env) → BoundedWhereCounted s g a env
  where-counted a m c n q = list-bound s g a n q env (go (counted_list s g a) q c) m
    where
      go : (o : Option Ex) → o ≡ Some n → OfSome o (λ n. BoundThere n a env) → BoundThere n a env
      go o q c = subst (λ z. OfSome z (λ n. BoundThere n a env)) q c

  ordered : (e f : Ex) → number_rewrite s g sign_between_lists e ≡ Some f → OrderBeside s g e env → Valued w e env → Keeps e f env
  ordered (ex2 true o a b) f q c v m = let k = sign-of s g o a b f q in order-keeps s g (ex2 true o a b) f q env (record {
    apart = c.0;
    one_unused = c.1;
    other_unused = c.2;
    sound = c.3;
    typed = typed;
    there = values-along.operands w true (binary o) (more_exs a (more_exs b no_exs)) env k.0 k.1 v;
    bounded = (where-counted a m.0 c.4, where-counted b (second-met env (guards (binary o)) a b k.0 m) c.5);
  }) m
  ordered _ f q c v m = cc

  -- ---- sources

  item : (e f : Ex) → number_rewrite s g item_of_a_list e ≡ Some f → NumberBeside s g item_of_a_list e env → Valued w e env → Keeps e f env
  item (node_ex b (index (by_value ∷ [])) (more_exs a (more_exs i no_exs))) f q c v m =
      let h = operands-plain env w b (index (by_value ∷ [])) (more_exs a (more_exs i no_exs))
      (record { behind = refl; beside = refl; within = refl }) v in
      items-keep s g (node_ex b (index (by_value ∷ [])) (more_exs a (more_exs i no_exs))) f q env
      (list-asked s g env typed false a h.0 m.0 c) m
  item _ f q c v m = cc

  pair : (e f : Ex) → number_rewrite s g side_of_a_pair e ≡ Some f → NumberBeside s g side_of_a_pair e env → Valued w e env → Keeps e f env
  pair (ex2 true o a b) f q c v m = let k = seen o (tested (sees_order o) _ f q) in pairs-keep s g (ex2 true o a b) f q env (
    list-asked s g env typed (opens_places w true (binary o)) a v.1.0 m.0 c.0,
    list-asked s g env typed (opens_places w true (binary o)) b
        (second-valued env (guards (binary o)) (opens_places w true (binary o)) a b k v.1) (second-met env (guards (binary o)) a b k m) c.1,
  ) m
  pair _ f q c v m = cc

  -- ---- lists in place of other matrices

  placed : (e f : Ex) → number_rewrite s g lists_of_what_is_picked e ≡ Some f → NumberBeside s g lists_of_what_is_picked e env →
      Valued w e env → Keeps e f env
  placed (node_ex b (index (by_value ∷ [])) (more_exs a (more_exs i no_exs))) f q c v m =
      let h = operands-plain env w b (index (by_value ∷ [])) (more_exs a (more_exs i no_exs))
      (record { behind = refl; beside = refl; within = refl }) v in
      picked-lists-keep s g (node_ex b (index (by_value ∷ [])) (more_exs a (more_exs i no_exs))) f q env
      (picks-asked s g env typed false a h.0 m.0 c) m
  placed (ex2 true o a b) f q c v m = let k = seen o (tested (sees_order o) _ f q) in
      picked-lists-keep s g (ex2 true o a b) f q env (
        picks-asked s g env typed (opens_places w true (binary o)) a v.1.0 m.0 c.0,
        picks-asked s g env typed (opens_places w true (binary o)) b
            (second-valued env (guards (binary o)) (opens_places w true (binary o)) a b k v.1) (second-met env (guards (binary o)) a b k m)
            c.1,
      ) m
  placed _ f q c v m = cc

-- ---- each rule

-- What is proved of these rules.
pub numbers-are-counted-on : NumbersAreCountedOn
numbers-are-counted-on s g equality_of_lists e f q env t c w v = equal s g env t w e f q c v
numbers-are-counted-on s g sign_between_lists e f q env t c w v = ordered s g env t w e f q c v
numbers-are-counted-on s g item_of_a_list e f q env t c w v = item s g env t w e f q c v
numbers-are-counted-on s g side_of_a_pair e f q env t c w v = pair s g env t w e f q c v
numbers-are-counted-on s g lists_of_what_is_picked e f q env t c w v = placed s g env t w e f q c v
