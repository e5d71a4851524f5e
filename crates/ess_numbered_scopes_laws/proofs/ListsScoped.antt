-- Lists by the numbers of their items stay in scope.
use Rattle.std.proofs.Common.{◌≡◌, refl, ap, ◌∙◌, Bool, true, false, ◌||◌, not}
use Rattle.std.specs.Prelude.{IsTrue}
use Rattle.ess_semantics.specs.declared.words.Op2.{Op2}
use Rattle.ess_semantics.specs.Values.{Text}
use Rattle.ess_semantics.specs.Order.{same_text}
use Rattle.ess_semantics.specs.Trees.{name_pat, Ex, name_ex, Gens, no_gens, cond, Dom, ex2}
use Rattle.ess_semantics.specs.Types.{Ty}
use Rattle.ess_semantics.specs.Scoped.{with_names, Scoped, ScopedGens, ScopedDom}
use Rattle.ess_rules_laws.specs.MatrixRules.{item_of, some_over}
use Rattle.ess_refine_laws.specs.ScopesOfRules.{BindsNone}
use Rattle.ess_numbered_laws.specs.CountedSources.{items_counted, is_number_of, numbers_of, numbered_items}
use Rattle.ess_numbered_laws.specs.EqualByNumber.{at_each_number, items_compared, equal_lists, equal_over}
use Rattle.ess_numbered_laws.specs.OrderByNumber.{equal_before, lower_at_a_number, lower_list}
use Rattle.ess_numbered_scopes_laws.proofs.ScopesMoved.{bound, behind}

-- A name that is new stays so behind another one.
new-behind : (u : Text → Bool) (x w : Text) → same_text x w ≡ false → IsTrue (not (u w)) → IsTrue (not (with_names u (name_pat x) w))
new-behind u x w q n = ap (λ b. not (u w || b)) q ∙ go (u w) n
  where
    go : (b : Bool) → IsTrue (not b) → not (b || false) ≡ true
    go true h = h
    go false h = refl

-- A name in scope stays so.
still : (u : Text → Bool) (x w : Text) → IsTrue (u x) → IsTrue (with_names u (name_pat w) x)
still u x w h = ap (λ b. b || same_text w x) h

module _ (z u o : Text → Bool) (x w : Text) (nx : IsTrue (not (u x))) (nw : IsTrue (not (u w))) (apart : same_text x w ≡ false) where
  -- The names in scope behind x, and those that are bound over domains.
  abbrev All : Text → Bool
  All = with_names u (name_pat x)

  abbrev Over : Text → Bool
  Over = with_names o (name_pat x)

  pub within : (a : Ex) → BindsNone (same_text x) a → Scoped z u o a → Scoped z All Over a
  within a b h = behind x z u o a b h

  new-within : IsTrue (not (All w))
  new-within = new-behind u x w apart nw

  -- How many items there are.
  count : (a : Ex) → Scoped z u o a → Scoped z u o (items_counted w a)
  count a h = ((nw, h, tt), tt)

  number : (a : Ex) → Scoped z All Over a → Scoped z All Over (is_number_of x w a)
  number a h = (bound x u, (((new-within, h, tt), tt), tt))

  -- What holds at the numbers of the items of a.
  numbers : (n a : Ex) (gs : Gens) (K : (Text → Bool) → (Text → Bool) → Type 0) → Scoped z u o n → Scoped z All Over a →
      ScopedGens z All Over gs K → ScopedGens z u o (numbers_of x w n a gs) K
  numbers n a gs K h k l = (nx, (tt, (h, tt)), (number a k, l))

  pub items : (a n : Ex) (v : Ty) → Scoped z u o n → Scoped z All Over a → Scoped z u o (numbered_items x w a n v)
  items a n v h k = numbers n a no_gens (λ t i. Scoped z t i (item_of v a (name_ex x))) h k (k, (bound x u, tt))

  each : (n a body : Ex) → Scoped z u o n → Scoped z All Over a → Scoped z All Over body → Scoped z u o (at_each_number x w n a body)
  each n a body h k l = (numbers n a no_gens (λ t i. Scoped z t i body) h k l, tt)

  compared : (p : Op2) (t v : Ty) (a b : Ex) → Scoped z All Over a → Scoped z All Over b → Scoped z All Over (items_compared p t v x a b)
  compared p t v a b h k = ((h, (bound x u, tt)), ((k, (bound x u, tt)), tt))

  module _ (n a b : Ex) (t v : Ty) (hn : Scoped z u o n) (ha : Scoped z u o a) (hb : Scoped z u o b) (ka : Scoped z All Over a)
      (kb : Scoped z All Over b) where
    equal : Scoped z u o (at_each_number x w n a (items_compared Op2.Eq t v x a b))
    equal = each n a (items_compared Op2.Eq t v x a b) hn ka (compared Op2.Eq t v a b ka kb)

    pub lists-scoped : Scoped z u o (equal_lists x w n t v a b)
    lists-scoped = ((count a ha, (count b hb, tt)), (equal, tt))

    pub over-scoped : (d : Dom) → ScopedDom z u o d → ScopedDom z All Over d → Scoped z u o (equal_over d x w n t v a b)
    over-scoped d h k = (
      (
        (count a ha, (((nw, h, tt), tt), tt)),
        (
          each n a (some_over w d (ex2 true Op2.Eq (name_ex w) (name_ex x))) hn ka
              ((new-within, k, (bound w All, (still All x w (bound x u), tt))), tt),
          tt,
        ),
      ),
      (equal, tt),
    )

    -- Items before the number x, under the other name.
    module _ (bw_a : BindsNone (same_text w) a) (bw_b : BindsNone (same_text w) b) (kn : Scoped z All Over n) where
      before : Scoped z All Over (equal_before x w n t v a b)
      before = (
        (
          new-within,
          (tt, (kn, tt)),
          (
            (bound w All, (still All x w (bound x u), tt)),
            (
              (behind w z All Over a bw_a ka, (bound w All, tt)),
              ((behind w z All Over b bw_b kb, (bound w All, tt)), tt),
            ),
          ),
        ),
        tt,
      )

      at-a-number : Scoped z u o (lower_at_a_number x w n t v a b)
      at-a-number = (
        numbers n a (cond (is_number_of x w b) no_gens)
            (λ s i. Scoped z s i (ex2 true Op2.And (items_compared Op2.Lt t v x a b) (equal_before x w n t v a b))) hn ka
            (number b kb, (compared Op2.Lt t v a b ka kb, (before, tt))),
        tt,
      )

      pub lower-scoped : (p : Op2) → Scoped z u o (lower_list p x w n a b t v)
      lower-scoped p = (at-a-number, (((count a ha, (count b hb, tt)), (equal, tt)), tt))
