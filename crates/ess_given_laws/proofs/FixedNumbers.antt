-- Numbers and bounds that are there everywhere are fixed where the old ones are.
use Rattle.std.proofs.Common.{◌≡◌, refl, Bool, true, false, ◌&&◌, if◌then◌else◌, pos}
use Rattle.ess_semantics.specs.declared.words.Op1.{Op1}
use Rattle.ess_semantics.specs.declared.words.Op2.{Op2}
use Rattle.ess_semantics.specs.declared.words.Fun.{Fun}
use Rattle.ess_semantics.specs.Values.{Text}
use Rattle.ess_semantics.specs.Trees.{matrix_literal, Ex, Exs, number_ex, truth_ex, node_ex, comp_ex, ex1, ex2, fun1, no_exs, more_exs, Gens, no_gens, over, from, cond, Dom, int_dom}
use Rattle.ess_semantics.proofs.Tests.{and-left, and-right, and-both}
use Rattle.ess_refine_laws.specs.Everywhere.{divisor, base, exponent, raised, extreme, is_nonzero, is_positive, everywhere, everywhere_list, everywhere_exs, everywhere_gens, everywhere_dom}
use Rattle.ess_given_laws.specs.Given.{all_bound, is_fixed, are_fixed, are_fixed_gens, is_fixed_dom}
use Rattle.ess_given_laws.proofs.FixedTrees.{both-so, then-so}

module _ (u : Text → Bool) where
  abbrev F : Ex → Type 0
  F e = is_fixed u e ≡ true

  one : (a : Ex) → F a → is_fixed u a && true ≡ true
  one a h = and-both (is_fixed u a) true h refl

  two : (a b : Ex) → F a → F b → is_fixed u a && (is_fixed u b && true) ≡ true
  two a b h k = and-both (is_fixed u a) (is_fixed u b && true) h (one b k)

  of-one : (a : Ex) → is_fixed u a && true ≡ true → F a
  of-one a h = and-left (is_fixed u a) true h

  left : (a b : Ex) → is_fixed u a && (is_fixed u b && true) ≡ true → F a
  left a b h = and-left (is_fixed u a) (is_fixed u b && true) h

  right : (a b : Ex) → is_fixed u a && (is_fixed u b && true) ≡ true → F b
  right a b h = of-one b (and-right (is_fixed u a) (is_fixed u b && true) h)

  divisor-fixed : (b : Ex) → F b → F (divisor b)
  divisor-fixed b h = go (is_nonzero b)
    where
      go : (c : Bool) → F (if c then b else ex2 false Op2.Plus b (fun1 false Fun.ToInt (ex2 true Op2.Eq b (number_ex (pos 0)))))
      go true = h
      go false = two b (fun1 false Fun.ToInt (ex2 true Op2.Eq b (number_ex (pos 0)))) h
          (one (ex2 true Op2.Eq b (number_ex (pos 0))) (two b (number_ex (pos 0)) h refl))

  raised-fixed : (a b : Ex) → F a → F b → F (raised a b)
  raised-fixed a b h k = go (is_positive b)
    where
      both : F (ex2 true Op2.And (ex2 true Op2.Eq a (number_ex (pos 0))) (ex2 true Op2.Le b (number_ex (pos 0))))
      both = two (ex2 true Op2.Eq a (number_ex (pos 0))) (ex2 true Op2.Le b (number_ex (pos 0))) (two a (number_ex (pos 0)) h refl)
          (two b (number_ex (pos 0)) k refl)

      base-fixed : (c : Bool) → F (if c then a else ex2 false Op2.Plus a (fun1 false Fun.ToInt
          (ex2 true Op2.And (ex2 true Op2.Eq a (number_ex (pos 0))) (ex2 true Op2.Le b (number_ex (pos 0))))))
      base-fixed true = h
      base-fixed false = two a (fun1 false Fun.ToInt
          (ex2 true Op2.And (ex2 true Op2.Eq a (number_ex (pos 0))) (ex2 true Op2.Le b (number_ex (pos 0))))) h
          (one (ex2 true Op2.And (ex2 true Op2.Eq a (number_ex (pos 0))) (ex2 true Op2.Le b (number_ex (pos 0)))) both)

      go : (c : Bool) → F (if c then ex2 false Op2.Pow a b else ex2 false Op2.Pow (base a b) (exponent b))
      go true = two a b h k
      go false = two (base a b) (exponent b) (base-fixed (is_nonzero a))
          (one (node_ex false matrix_literal (more_exs b (more_exs (number_ex (pos 0)) no_exs))) (two b (number_ex (pos 0)) k refl))

  extreme-fixed : (f : Fun) (l : Ex) → F l → F (extreme f l)
  extreme-fixed f (comp_ex e gs) h = one (comp_ex (fun1 false f (comp_ex e gs)) (cond (fun1 true Fun.Or (comp_ex
      (truth_ex true) gs)) no_gens))
      (and-both (is_fixed u (fun1 false f (comp_ex e gs))) (is_fixed u (fun1 true Fun.Or (comp_ex (truth_ex true) gs)) && true)
      (one (comp_ex e gs) h)
      (one (fun1 true Fun.Or (comp_ex (truth_ex true) gs))
      (one (comp_ex (truth_ex true) gs) (and-right (is_fixed u e) (are_fixed_gens u gs) h))))
  extreme-fixed f (node_ex false matrix_literal no_exs) h = refl
  extreme-fixed f l h = one l h

  mutual
    pub every-fixed : (e : Ex) → F e → F (everywhere e)
    every-fixed (ex1 false Op1.Minus a) h = one (everywhere a) (every-fixed a (of-one a h))
    every-fixed (ex1 false Op1.Bar a) h = one (everywhere a) (every-fixed a (of-one a h))
    every-fixed (ex2 false Op2.Plus a b) h = two (everywhere a) (everywhere b) (every-fixed a (left a b h)) (every-fixed b (right a b h))
    every-fixed (ex2 false Op2.Minus a b) h = two (everywhere a) (everywhere b) (every-fixed a (left a b h)) (every-fixed b (right a b h))
    every-fixed (ex2 false Op2.Times a b) h = two (everywhere a) (everywhere b) (every-fixed a (left a b h)) (every-fixed b (right a b h))
    every-fixed (ex2 false Op2.Div a b) h = two (everywhere a) (divisor (everywhere b)) (every-fixed a (left a b h))
        (divisor-fixed (everywhere b) (every-fixed b (right a b h)))
    every-fixed (ex2 false Op2.Mod a b) h = two (everywhere a) (divisor (everywhere b)) (every-fixed a (left a b h))
        (divisor-fixed (everywhere b) (every-fixed b (right a b h)))
    every-fixed (ex2 false Op2.Pow a b) h =
        raised-fixed (everywhere a) (everywhere b) (every-fixed a (left a b h)) (every-fixed b (right a b h))
    every-fixed (fun1 false Fun.Sum l) h = one (everywhere_list l) (list-fixed l (of-one l h))
    every-fixed (fun1 false Fun.Product l) h = one (everywhere_list l) (list-fixed l (of-one l h))
    every-fixed (fun1 false Fun.Min l) h = extreme-fixed Fun.Min (everywhere_list l) (list-fixed l (of-one l h))
    every-fixed (fun1 false Fun.Max l) h = extreme-fixed Fun.Max (everywhere_list l) (list-fixed l (of-one l h))
    every-fixed e h = h

    list-fixed : (l : Ex) → F l → F (everywhere_list l)
    list-fixed (comp_ex e gs) h = both-so (is_fixed u e) (are_fixed_gens u gs) _ _ (every-fixed e) (every-gens gs) h
    list-fixed (node_ex false matrix_literal es) h = every-exs es h
    list-fixed l h = h

    every-exs : (es : Exs) → are_fixed u es ≡ true → are_fixed u (everywhere_exs es) ≡ true
    every-exs no_exs h = h
    every-exs (more_exs e es) h = both-so (is_fixed u e) (are_fixed u es) _ _ (every-fixed e) (every-exs es) h

    every-gens : (gs : Gens) → are_fixed_gens u gs ≡ true → are_fixed_gens u (everywhere_gens gs) ≡ true
    every-gens no_gens h = h
    every-gens (over p d gs) h = then-so (all_bound u p) (is_fixed_dom u d && are_fixed_gens u gs) _
        (λ k. both-so (is_fixed_dom u d) (are_fixed_gens u gs) _ _ (every-dom d) (every-gens gs) k) h
    every-gens (from p e gs) h = then-so (all_bound u p) (is_fixed u e && are_fixed_gens u gs) _
        (λ k. then-so (is_fixed u e) (are_fixed_gens u gs) _ (every-gens gs) k) h
    every-gens (cond c gs) h = then-so (is_fixed u c) (are_fixed_gens u gs) _ (every-gens gs) h

    pub every-dom : (d : Dom) → is_fixed_dom u d ≡ true → is_fixed_dom u (everywhere_dom d) ≡ true
    every-dom (int_dom rs es) h = every-exs es h
    every-dom d h = h
