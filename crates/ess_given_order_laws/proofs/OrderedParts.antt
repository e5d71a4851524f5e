-- Terms put in for names, more generators, and parts that are replaced: comprehensions where order counts stay in order.
use Rattle.std.proofs.Common.{◌≡◌, refl, ap, ◌∙◌, Bool, true, false, if◌then◌else◌}
use Rattle.ess_semantics.specs.Values.{Text}
use Rattle.ess_semantics.specs.Order.{same_text}
use Rattle.ess_semantics.specs.Trees.{Ex, Exs, number_ex, truth_ex, name_ex, node_ex, matrix_ex, comp_ex, cell_ex, seen_ex, no_exs, more_exs, Gens, no_gens, over, from, cond}
use Rattle.ess_semantics.specs.ExpressionJudgements.{forgets_order}
use Rattle.ess_semantics.specs.Substitution.{substitute, substitute_exs, substitute_gens, for_name}
use Rattle.ess_semantics.specs.Contexts.{In, Ins, InGens, hole, in_operand, in_item, in_index_domain, in_body, in_generators, in_cell_index, in_view_domain, in_view_index, in_first, in_later, in_generator_domain, behind_over, in_source, behind_from, in_condition, behind_condition, fill, fill_exs, fill_gens}
use Rattle.ess_semantics.proofs.Texts.{same_text-equal}
use Rattle.ess_rules_laws.specs.SpliceRules.{append_gens}
use Rattle.ess_given_laws.specs.Given.{is_fixed}
use Rattle.ess_given_laws.proofs.FixedTrees.{both-so, then-so, first-so, put-fixed, part-fixed}
use Rattle.ess_given_order_laws.specs.InOrder.{in_order, gens_in_order, Ordered, AllOrdered, GensOrdered, InOrder}

module _ (u : Text → Bool) where
  -- A fixed term stands for any name, any term for a name that isn't of u.
  pub at-name : (y : Text) (t : Ex) → (u y ≡ true → is_fixed u t ≡ true) → (a : Text) → u a ≡ true → is_fixed u (for_name y t a) ≡ true
  at-name y t k a h = go (same_text y a) refl
    where
      go : (b : Bool) → same_text y a ≡ b → is_fixed u (if b then t else name_ex a) ≡ true
      go true q = k (ap u (same_text-equal y a q) ∙ h)
      go false q = h

  -- What is asked where t is put in for the name y.
  pub record PutsOrder (y : Text) (t : Ex) : Type 0 where
    pub kept : InOrder u t
    pub fixed : u y ≡ true → is_fixed u t ≡ true

  module _ (y : Text) (t : Ex) (p : PutsOrder y t) where
    abbrev f : Text → Ex
    f = for_name y t

    name-kept : (a : Text) → InOrder u (f a)
    name-kept a = go (same_text y a)
      where
        go : (b : Bool) → InOrder u (if b then t else name_ex a)
        go true = p.kept
        go false = (refl, tt)

    mutual
      pub put-in : (e : Ex) → in_order u e ≡ true → in_order u (substitute f e) ≡ true
      put-in (number_ex n) h = refl
      put-in (truth_ex b) h = refl
      put-in (name_ex a) h = (name-kept a).0
      put-in (node_ex b op es) h = refl
      put-in (matrix_ex es d) h = refl
      put-in (comp_ex e gs) h = put-gens-in gs h
      put-in (cell_ex b n es) h = refl
      put-in (seen_ex r d ns es) h = refl

      pub put-gens-in : (gs : Gens) → gens_in_order u gs ≡ true → gens_in_order u (substitute_gens f gs) ≡ true
      put-gens-in no_gens h = refl
      put-gens-in (over q d gs) h = put-gens-in gs h
      put-gens-in (from q e gs) h = both-so (in_order u e) (gens_in_order u gs) (in_order u (substitute f e))
          (gens_in_order u (substitute_gens f gs))
          (put-in e) (put-gens-in gs) h
      put-gens-in (cond c gs) h = both-so (is_fixed u c) (gens_in_order u gs) (is_fixed u (substitute f c))
          (gens_in_order u (substitute_gens f gs))
          (put-fixed u f (at-name y t p.fixed) c) (put-gens-in gs) h

    mutual
      pub put-order : (e : Ex) → Ordered u e → Ordered u (substitute f e)
      put-order (number_ex n) h = tt
      put-order (truth_ex b) h = tt
      put-order (name_ex a) h = (name-kept a).1
      put-order (node_ex b op es) h = put-all es (forgets_order op) h
      put-order (matrix_ex es d) h = put-all es false h
      put-order (comp_ex e gs) h = ((put-in e h.0.0, put-order e h.0.1), put-gens-order gs h.1)
      put-order (cell_ex b n es) h = put-all es false h
      put-order (seen_ex r d ns es) h = put-all es false h

      put-all : (es : Exs) (c : Bool) → AllOrdered u es c → AllOrdered u (substitute_exs f es) c
      put-all no_exs c h = tt
      put-all (more_exs e es) true h = (put-order e h.0, put-all es true h.1)
      put-all (more_exs e es) false h = ((put-in e h.0.0, put-order e h.0.1), put-all es false h.1)

      pub put-gens-order : (gs : Gens) → GensOrdered u gs → GensOrdered u (substitute_gens f gs)
      put-gens-order no_gens h = tt
      put-gens-order (over q d gs) h = put-gens-order gs h
      put-gens-order (from q e gs) h = (put-order e h.0, put-gens-order gs h.1)
      put-gens-order (cond c gs) h = ((put-in c h.0.0, put-order c h.0.1), put-gens-order gs h.1)

    pub put-kept : (e : Ex) → InOrder u e → InOrder u (substitute f e)
    put-kept e h = (put-in e h.0, put-order e h.1)

  -- ---- generators one behind the other

  pub append-in : (gs hs : Gens) → gens_in_order u gs ≡ true → gens_in_order u hs ≡ true → gens_in_order u (append_gens gs hs) ≡ true
  append-in no_gens hs h k = k
  append-in (over p d gs) hs h k = append-in gs hs h k
  append-in (from p e gs) hs h k = both-so (in_order u e) (gens_in_order u gs) (in_order u e) (gens_in_order u (append_gens gs hs))
      (λ q. q) (λ q. append-in gs hs q k) h
  append-in (cond c gs) hs h k = both-so (is_fixed u c) (gens_in_order u gs) (is_fixed u c) (gens_in_order u (append_gens gs hs))
      (λ q. q) (λ q. append-in gs hs q k) h

  pub append-order : (gs hs : Gens) → GensOrdered u gs → GensOrdered u hs → GensOrdered u (append_gens gs hs)
  append-order no_gens hs h k = k
  append-order (over p d gs) hs h k = append-order gs hs h k
  append-order (from p e gs) hs h k = (h.0, append-order gs hs h.1 k)
  append-order (cond c gs) hs h k = (h.0, append-order gs hs h.1 k)

  -- ---- a part that is replaced

  module _ (a b : Ex) (order : Ordered u a → Ordered u b) (inside : Ordered u a → in_order u a ≡ true → in_order u b ≡ true)
      (fixed : is_fixed u a ≡ true → is_fixed u b ≡ true) where
    mutual
      pub part-in : (c : In) → Ordered u (fill c a) → in_order u (fill c a) ≡ true → in_order u (fill c b) ≡ true
      part-in hole o h = inside o h
      part-in (in_operand t op c) o h = refl
      part-in (in_item c d) o h = refl
      part-in (in_index_domain es c) o h = refl
      part-in (in_body c gs) o h = h
      part-in (in_generators x c) o h = part-gens-in c o.1 h
      part-in (in_cell_index t n c) o h = refl
      part-in (in_view_domain r c ns es) o h = refl
      part-in (in_view_index r d ns c) o h = refl

      part-gens-in : (c : InGens) → GensOrdered u (fill_gens c a) → gens_in_order u (fill_gens c a) ≡ true →
          gens_in_order u (fill_gens c b) ≡ true
      part-gens-in (in_generator_domain p c gs) o h = h
      part-gens-in (behind_over p d c) o h = part-gens-in c o h
      part-gens-in (in_source p c gs) o h =
          first-so (in_order u (fill c a)) (gens_in_order u gs) (in_order u (fill c b)) (part-in c o.0) h
      part-gens-in (behind_from p x c) o h =
          then-so (in_order u x) (gens_in_order u (fill_gens c a)) (gens_in_order u (fill_gens c b)) (part-gens-in c o.1) h
      part-gens-in (in_condition c gs) o h =
          first-so (is_fixed u (fill c a)) (gens_in_order u gs) (is_fixed u (fill c b)) (part-fixed u a b fixed c) h
      part-gens-in (behind_condition x c) o h =
          then-so (is_fixed u x) (gens_in_order u (fill_gens c a)) (gens_in_order u (fill_gens c b)) (part-gens-in c o.1) h

    mutual
      pub part-order : (c : In) → Ordered u (fill c a) → Ordered u (fill c b)
      part-order hole h = order h
      part-order (in_operand t op c) h = part-all c (forgets_order op) h
      part-order (in_item c d) h = part-all c false h
      part-order (in_index_domain es c) h = h
      part-order (in_body c gs) h = ((part-in c h.0.1 h.0.0, part-order c h.0.1), h.1)
      part-order (in_generators x c) h = (h.0, part-gens-order c h.1)
      part-order (in_cell_index t n c) h = part-all c false h
      part-order (in_view_domain r c ns es) h = h
      part-order (in_view_index r d ns c) h = part-all c false h

      part-all : (c : Ins) (x : Bool) → AllOrdered u (fill_exs c a) x → AllOrdered u (fill_exs c b) x
      part-all (in_first c es) true h = (part-order c h.0, h.1)
      part-all (in_first c es) false h = ((part-in c h.0.1 h.0.0, part-order c h.0.1), h.1)
      part-all (in_later y c) true h = (h.0, part-all c true h.1)
      part-all (in_later y c) false h = (h.0, part-all c false h.1)

      part-gens-order : (c : InGens) → GensOrdered u (fill_gens c a) → GensOrdered u (fill_gens c b)
      part-gens-order (in_generator_domain p c gs) h = h
      part-gens-order (behind_over p d c) h = part-gens-order c h
      part-gens-order (in_source p c gs) h = (part-order c h.0, h.1)
      part-gens-order (behind_from p x c) h = (h.0, part-gens-order c h.1)
      part-gens-order (in_condition c gs) h = ((part-in c h.0.1 h.0.0, part-order c h.0.1), h.1)
      part-gens-order (behind_condition x c) h = (h.0, part-gens-order c h.1)
