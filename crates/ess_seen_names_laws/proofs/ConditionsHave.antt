-- What the numbers and names of a condition and of a fold have, those of the fold under the condition have, where 0 and 1 have it. Numbers
-- that are folded become such that are there everywhere.
use Rattle.std.proofs.Common.{◌≡◌, Bool, true, false, if◌then◌else◌, ℤ, pos}
use Rattle.ess_semantics.specs.declared.words.Op1.{Op1}
use Rattle.ess_semantics.specs.declared.words.Op2.{Op2}
use Rattle.ess_semantics.specs.declared.words.Fun.{Fun}
use Rattle.ess_semantics.specs.Values.{Text}
use Rattle.ess_semantics.specs.Trees.{matrix_literal, Ex, Exs, number_ex, node_ex, comp_ex, no_exs, more_exs, Gens, no_gens, over, from, cond, Dom, int_dom, ex1, ex2, fun1}
use Rattle.ess_refine_laws.specs.Everywhere.{divisor, base, exponent, raised, extreme, is_nonzero, is_positive, everywhere, everywhere_list, everywhere_exs, everywhere_gens, everywhere_dom}
use Rattle.ess_refine_laws.specs.LeavingConditions.{under_condition}
use Rattle.ess_seen_names_laws.proofs.Has.{Has, AllHave, GensHave, DomHas}

module _ (q : ℤ → Bool) (u : Text → Bool) (q0 : q (pos 0) ≡ true) (q1 : q (pos 1) ≡ true) where
  -- ---- numbers that are there everywhere

  divisor-has : (b : Ex) → Has q u b → Has q u (divisor b)
  divisor-has b h = go (is_nonzero b)
    where
      go : (c : Bool) → Has q u (if c then b else ex2 false Op2.Plus b (fun1 false Fun.ToInt (ex2 true Op2.Eq b (number_ex (pos 0)))))
      go true = h
      go false = (h, (((h, (q0, tt)), tt), tt))

  raised-has : (a b : Ex) → Has q u a → Has q u b → Has q u (raised a b)
  raised-has a b h k = go (is_positive b)
    where
      base-has : (c : Bool) → Has q u (if c then a else ex2 false Op2.Plus a (fun1 false Fun.ToInt
          (ex2 true Op2.And (ex2 true Op2.Eq a (number_ex (pos 0))) (ex2 true Op2.Le b (number_ex (pos 0))))))
      base-has true = h
      base-has false = (h, ((((h, (q0, tt)), ((k, (q0, tt)), tt)), tt), tt))

      go : (c : Bool) → Has q u (if c then ex2 false Op2.Pow a b else ex2 false Op2.Pow (base a b) (exponent b))
      go true = (h, (k, tt))
      go false = (base-has (is_nonzero a), (((k, (q0, tt)), tt), tt))

  extreme-has : (f : Fun) (l : Ex) → Has q u l → Has q u (extreme f l)
  extreme-has f (comp_ex e gs) h = (((h, tt), (((tt, h.1), tt), tt)), tt)
  extreme-has f (node_ex false matrix_literal no_exs) h = q0
  extreme-has f _ h = (h, tt)

  mutual
    everywhere-has : (e : Ex) → Has q u e → Has q u (everywhere e)
    everywhere-has (ex1 false Op1.Minus a) h = (everywhere-has a h.0, tt)
    everywhere-has (ex1 false Op1.Bar a) h = (everywhere-has a h.0, tt)
    everywhere-has (ex2 false Op2.Plus a b) h = (everywhere-has a h.0, (everywhere-has b h.1.0, tt))
    everywhere-has (ex2 false Op2.Minus a b) h = (everywhere-has a h.0, (everywhere-has b h.1.0, tt))
    everywhere-has (ex2 false Op2.Times a b) h = (everywhere-has a h.0, (everywhere-has b h.1.0, tt))
    everywhere-has (ex2 false Op2.Div a b) h = (everywhere-has a h.0, (divisor-has (everywhere b) (everywhere-has b h.1.0), tt))
    everywhere-has (ex2 false Op2.Mod a b) h = (everywhere-has a h.0, (divisor-has (everywhere b) (everywhere-has b h.1.0), tt))
    everywhere-has (ex2 false Op2.Pow a b) h =
        raised-has (everywhere a) (everywhere b) (everywhere-has a h.0) (everywhere-has b h.1.0)
    everywhere-has (fun1 false Fun.Sum l) h = (list-has l h.0, tt)
    everywhere-has (fun1 false Fun.Product l) h = (list-has l h.0, tt)
    everywhere-has (fun1 false Fun.Min l) h = extreme-has Fun.Min (everywhere_list l) (list-has l h.0)
    everywhere-has (fun1 false Fun.Max l) h = extreme-has Fun.Max (everywhere_list l) (list-has l h.0)
    everywhere-has _ h = h

    list-has : (l : Ex) → Has q u l → Has q u (everywhere_list l)
    list-has (comp_ex e gs) h = (everywhere-has e h.0, gens-everywhere gs h.1)
    list-has (node_ex false matrix_literal es) h = exs-everywhere es h
    list-has _ h = h

    exs-everywhere : (es : Exs) → AllHave q u es → AllHave q u (everywhere_exs es)
    exs-everywhere no_exs h = tt
    exs-everywhere (more_exs e es) h = (everywhere-has e h.0, exs-everywhere es h.1)

    gens-everywhere : (gs : Gens) → GensHave q u gs → GensHave q u (everywhere_gens gs)
    gens-everywhere no_gens h = tt
    gens-everywhere (over p d gs) h = (h.0, dom-everywhere d h.1, gens-everywhere gs h.2)
    gens-everywhere (from p e gs) h = (h.0, h.1, gens-everywhere gs h.2)
    gens-everywhere (cond c gs) h = (h.0, gens-everywhere gs h.1)

    dom-everywhere : (d : Dom) → DomHas q u d → DomHas q u (everywhere_dom d)
    dom-everywhere (int_dom rs es) h = exs-everywhere es h
    dom-everywhere _ h = h

  -- ---- conditions

  -- What it leaves.
  pub under-has : (w : Fun) (c i : Ex) → Has q u c → Has q u i → Has q u (under_condition w c i)
  under-has Fun.And c i h k = (h, (k, tt))
  under-has Fun.Or c i h k = (h, (k, tt))
  under-has Fun.Sum c i h k = ((h, tt), (everywhere-has i k, tt))
  under-has _ c i h k = (((h, tt), ((everywhere-has i k, (q1, tt)), tt)), (q1, tt))
