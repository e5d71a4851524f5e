-- A fold under a condition is in scope where both are. Numbers that are folded become such that are there everywhere.
use Rattle.std.proofs.Common.{Bool, true, false, if◌then◌else◌, pos}
use Rattle.ess_semantics.specs.declared.words.Op1.{Op1}
use Rattle.ess_semantics.specs.declared.words.Op2.{Op2}
use Rattle.ess_semantics.specs.declared.words.Fun.{Fun}
use Rattle.ess_semantics.specs.Values.{Text}
use Rattle.ess_semantics.specs.Trees.{matrix_literal, Ex, Exs, number_ex, node_ex, comp_ex, no_exs, more_exs, Gens, no_gens, over, from, cond, Dom, int_dom, ex1, ex2, fun1}
use Rattle.ess_semantics.specs.Scoped.{with_names, Scoped, ScopedExs, ScopedGens, ScopedDom}
use Rattle.ess_refine_laws.specs.Everywhere.{divisor, base, exponent, raised, extreme, is_nonzero, is_positive, everywhere, everywhere_list, everywhere_exs, everywhere_gens, everywhere_dom}
use Rattle.ess_refine_laws.specs.LeavingConditions.{under_condition}
use Rattle.ess_seen_names_laws.specs.Laws.{none}

-- What holds behind generators and leads to something else.
pub gens-map : (gs : Gens) (K L : (Text → Bool) → (Text → Bool) → Type 0) → ((u i : Text → Bool) → K u i → L u i) → (s o : Text → Bool) →
    ScopedGens none s o gs K → ScopedGens none s o gs L
gens-map no_gens K L k s o h = k s o h
gens-map (over p d gs) K L k s o h = (h.0, h.1, gens-map gs K L k (with_names s p) (with_names o p) h.2)
gens-map (from p e gs) K L k s o h = (h.0, h.1, gens-map gs K L k (with_names s p) o h.2)
gens-map (cond c gs) K L k s o h = (h.0, gens-map gs K L k s o h.1)

-- ---- numbers that are there everywhere

divisor-scoped : (b : Ex) (s o : Text → Bool) → Scoped none s o b → Scoped none s o (divisor b)
divisor-scoped b s o h = go (is_nonzero b)
  where
    go : (c : Bool) → Scoped none s o (if c then b else ex2 false Op2.Plus b (fun1 false Fun.ToInt (ex2 true Op2.Eq b (number_ex (pos 0)))))
    go true = h
    go false = (h, (((h, (tt, tt)), tt), tt))

raised-scoped : (a b : Ex) (s o : Text → Bool) → Scoped none s o a → Scoped none s o b → Scoped none s o (raised a b)
raised-scoped a b s o h k = go (is_positive b)
  where
    base-scoped : (c : Bool) → Scoped none s o (if c then a else ex2 false Op2.Plus a (fun1 false Fun.ToInt
        (ex2 true Op2.And (ex2 true Op2.Eq a (number_ex (pos 0))) (ex2 true Op2.Le b (number_ex (pos 0))))))
    base-scoped true = h
    base-scoped false = (h, ((((h, (tt, tt)), ((k, (tt, tt)), tt)), tt), tt))

    go : (c : Bool) → Scoped none s o (if c then ex2 false Op2.Pow a b else ex2 false Op2.Pow (base a b) (exponent b))
    go true = (h, (k, tt))
    go false = (base-scoped (is_nonzero a), (((k, (tt, tt)), tt), tt))

extreme-scoped : (f : Fun) (l : Ex) (s o : Text → Bool) → Scoped none s o l → Scoped none s o (extreme f l)
extreme-scoped f (comp_ex e gs) s o h =
    (((gens-map gs (λ u i. Scoped none u i e) (λ u i. Unit {0}) (λ u i k. tt) s o h, tt), (h, tt)), tt)
extreme-scoped f (node_ex false matrix_literal no_exs) s o h = tt
extreme-scoped f _ s o h = (h, tt)

mutual
  everywhere-scoped : (e : Ex) (s o : Text → Bool) → Scoped none s o e → Scoped none s o (everywhere e)
  everywhere-scoped (ex1 false Op1.Minus a) s o h = (everywhere-scoped a s o h.0, tt)
  everywhere-scoped (ex1 false Op1.Bar a) s o h = (everywhere-scoped a s o h.0, tt)
  everywhere-scoped (ex2 false Op2.Plus a b) s o h = (everywhere-scoped a s o h.0, (everywhere-scoped b s o h.1.0, tt))
  everywhere-scoped (ex2 false Op2.Minus a b) s o h = (everywhere-scoped a s o h.0, (everywhere-scoped b s o h.1.0, tt))
  everywhere-scoped (ex2 false Op2.Times a b) s o h = (everywhere-scoped a s o h.0, (everywhere-scoped b s o h.1.0, tt))
  everywhere-scoped (ex2 false Op2.Div a b) s o h =
      (everywhere-scoped a s o h.0, (divisor-scoped (everywhere b) s o (everywhere-scoped b s o h.1.0), tt))
  everywhere-scoped (ex2 false Op2.Mod a b) s o h =
      (everywhere-scoped a s o h.0, (divisor-scoped (everywhere b) s o (everywhere-scoped b s o h.1.0), tt))
  everywhere-scoped (ex2 false Op2.Pow a b) s o h =
      raised-scoped (everywhere a) (everywhere b) s o (everywhere-scoped a s o h.0) (everywhere-scoped b s o h.1.0)
  everywhere-scoped (fun1 false Fun.Sum l) s o h = (list-scoped l s o h.0, tt)
  everywhere-scoped (fun1 false Fun.Product l) s o h = (list-scoped l s o h.0, tt)
  everywhere-scoped (fun1 false Fun.Min l) s o h = extreme-scoped Fun.Min (everywhere_list l) s o (list-scoped l s o h.0)
  everywhere-scoped (fun1 false Fun.Max l) s o h = extreme-scoped Fun.Max (everywhere_list l) s o (list-scoped l s o h.0)
  everywhere-scoped _ s o h = h

  list-scoped : (l : Ex) (s o : Text → Bool) → Scoped none s o l → Scoped none s o (everywhere_list l)
  list-scoped (comp_ex e gs) s o h = gens-everywhere gs e (everywhere e) (λ u i k. everywhere-scoped e u i k) s o h
  list-scoped (node_ex false matrix_literal es) s o h = exs-everywhere es s o h
  list-scoped _ s o h = h

  exs-everywhere : (es : Exs) (s o : Text → Bool) → ScopedExs none s o es → ScopedExs none s o (everywhere_exs es)
  exs-everywhere no_exs s o h = tt
  exs-everywhere (more_exs e es) s o h = (everywhere-scoped e s o h.0, exs-everywhere es s o h.1)

  gens-everywhere : (gs : Gens) (e f : Ex) → ((u i : Text → Bool) → Scoped none u i e → Scoped none u i f) → (s o : Text → Bool) →
      ScopedGens none s o gs (λ u i. Scoped none u i e) → ScopedGens none s o (everywhere_gens gs) (λ u i. Scoped none u i f)
  gens-everywhere no_gens e f k s o h = k s o h
  gens-everywhere (over p d gs) e f k s o h =
      (h.0, dom-everywhere d s o h.1, gens-everywhere gs e f k (with_names s p) (with_names o p) h.2)
  gens-everywhere (from p x gs) e f k s o h = (h.0, h.1, gens-everywhere gs e f k (with_names s p) o h.2)
  gens-everywhere (cond c gs) e f k s o h = (h.0, gens-everywhere gs e f k s o h.1)

  dom-everywhere : (d : Dom) (s o : Text → Bool) → ScopedDom none s o d → ScopedDom none s o (everywhere_dom d)
  dom-everywhere (int_dom rs es) s o h = exs-everywhere es s o h
  dom-everywhere _ s o h = h

-- ---- conditions

-- A fold under a condition.
pub under-scoped : (w : Fun) (c i : Ex) (s o : Text → Bool) → Scoped none s o c → Scoped none s o i →
    Scoped none s o (under_condition w c i)
under-scoped Fun.And c i s o h k = (h, (k, tt))
under-scoped Fun.Or c i s o h k = (h, (k, tt))
under-scoped Fun.Sum c i s o h k = ((h, tt), (everywhere-scoped i s o k, tt))
under-scoped _ c i s o h k = (((h, tt), ((everywhere-scoped i s o k, (tt, tt)), tt)), (tt, tt))
