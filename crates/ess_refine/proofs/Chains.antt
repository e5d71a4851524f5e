-- Chains one after the other, and inside of trees.
use Rattle.std.proofs.Common.{◌≡◌, sym, subst, ℕ, ◌≤◌, arith}
use Rattle.ess_semantics.specs.Names.{Names}
use Rattle.ess_semantics.specs.Trees.{Ex}
use Rattle.ess_semantics.specs.Types.{Ty}
use Rattle.ess_rules.specs.Ruled.{IsRuled}
use Rattle.ess_refine.specs.Chains.{LeadsIn, as_it_was, led_at}
use Rattle.ess_refine.specs.Passes.{PassesIn}
use Rattle.ess_refine.specs.declared.passing.Turns.{Turns}

module _ (R : ℕ → Names Ty → Ex → Ex → ℕ → Type 0) where
  module _ {C T : Type 0} (filled : C → Ex → T) (types_at : C → Names Ty → Names Ty) where
    -- A chain may begin lower.
    leads-lower : (l n m : ℕ) (g : Names Ty) (t u : T) → l ≤ n → LeadsIn R filled types_at n g t u m → LeadsIn R filled types_at l g t u m
    leads-lower l n m g t u h (as_it_was p) = as_it_was (omega (arith, h, p))
    leads-lower l n m g old u h (led_at {s = s} c p r w) = led_at c (omega (arith, h, p)) r w

    -- One chain after the other.
    leads-then : (n k m : ℕ) (g : Names Ty) (t u v : T) → LeadsIn R filled types_at n g t u k → LeadsIn R filled types_at k g u v m
        → LeadsIn R filled types_at n g t v m
    leads-then n k m g t u v (as_it_was p) w = leads-lower n k m g t v p w
    leads-then n k m g old u v (led_at {k = j} {a = a} {b = b} c p r w) z = led_at c p r (leads-then j k m g (filled c b) u v w z)

    module _ {D U : Type 0} (filled2 : D → Ex → U) (types_at2 : D → Names Ty → Names Ty) where
      -- Inside of a larger tree.
      leads-inside : (F : C → D) (W : T → U) (g h : Names Ty) → ((c : C) (x : Ex) → filled2 (F c) x ≡ W (filled c x))
          → ((c : C) → types_at2 (F c) g ≡ types_at c h) → (n m : ℕ) (t u : T) → LeadsIn R filled types_at n h t u m
          → LeadsIn R filled2 types_at2 n g (W t) (W u) m
      leads-inside F W g h e q n m t u (as_it_was p) = as_it_was p
      leads-inside F W g h e q n m old u (led_at {s = s} {k = k} {a = a} {b = b} c p r w) =
          let z : LeadsIn R filled2 types_at2 k g (filled2 (F c) b) (W u) m
          = subst (λ x. LeadsIn R filled2 types_at2 k g x (W u) m) (sym (e c b)) (leads-inside F W g h e q k m (filled c b) u w) in
          subst (λ x. LeadsIn R filled2 types_at2 n g x (W u) m) (e c a)
          (led_at (F c) p (subst (λ x. R s x a b k) (sym (q c)) r) z)

-- ---- passes

module _ {C T : Type 0} (filled : C → Ex → T) (types_at : C → Names Ty → Names Ty) where
  -- No rule.
  pub passes-none : (o n : Turns) (g : Names Ty) (t : T) → n.next ≡ o.next → PassesIn filled types_at o g t t n
  passes-none o n g t h = as_it_was (omega (arith, h))

  -- One rule.
  pub passes-once : (o n : Turns) (g : Names Ty) (c : C) (a b : Ex) → IsRuled o.next (types_at c g) a b n.next
      → PassesIn filled types_at o g (filled c a) (filled c b) n
  passes-once o n g c a b r = led_at c (omega arith) r (as_it_was (omega arith))

  -- One pass after the other.
  pub passes-then : (o k n : Turns) (g : Names Ty) (t u v : T) → PassesIn filled types_at o g t u k → PassesIn filled types_at k g u v n
      → PassesIn filled types_at o g t v n
  passes-then o k n g t u v w z = leads-then IsRuled filled types_at o.next k.next n.next g t u v w z

  -- A pass may begin where no name was taken.
  pub passes-from : (o k n : Turns) (g : Names Ty) (t u : T) → k.next ≡ o.next → PassesIn filled types_at k g t u n
      → PassesIn filled types_at o g t u n
  passes-from o k n g t u h w = passes-then o k n g t t u (passes-none o k g t h) w

  module _ {D U : Type 0} (filled2 : D → Ex → U) (types_at2 : D → Names Ty → Names Ty) where
    -- Inside of a larger tree.
    pub passes-inside : (F : C → D) (W : T → U) (g h : Names Ty) → ((c : C) (x : Ex) → filled2 (F c) x ≡ W (filled c x))
        → ((c : C) → types_at2 (F c) g ≡ types_at c h) → (o n : Turns) (t u : T) → PassesIn filled types_at o h t u n
        → PassesIn filled2 types_at2 o g (W t) (W u) n
    passes-inside F W g h e q o n t u w = leads-inside IsRuled filled types_at filled2 types_at2 F W g h e q o.next n.next t u w
