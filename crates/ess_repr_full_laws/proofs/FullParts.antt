-- Tables are full for what they are full for whatever values names have; and what the tables are full for here.
use Rattle.std.proofs.Common.{ℕ, suc, Bool, true, false, List, [], ◌∷◌, ℤ, pos}
use Rattle.ess_semantics.specs.declared.words.Op2.{Op2}
use Rattle.ess_semantics.specs.declared.words.Fun.{Fun}
use Rattle.ess_semantics.specs.declared.words.Key.{Key}
use Rattle.ess_semantics.specs.Values.{Text, Value}
use Rattle.ess_semantics.specs.Names.{Names}
use Rattle.ess_semantics.specs.Types.{Ty}
use Rattle.ess_semantics.specs.Trees.{Op, word, matrix_literal, Mark, flag, valued, Ex, Exs, number_ex, truth_ex, name_ex, node_ex, no_exs, more_exs, Dom, Doms, bool_dom, int_dom, name_dom, tuple_dom, record_dom, matrix_dom, set_dom, mset_dom, function_dom, relation_dom, partition_dom, no_doms, more_doms, ex2}
use Rattle.ess_semantics.specs.Full.{Full, FullAll, FullDom, FullDoms, Reached}
use Rattle.ess_semantics.specs.Meaning.{Env, meaning, domain_of, members_in}
use Rattle.ess_guard_laws.proofs.MetRows.{each-of-always}
use Rattle.ess_repr_laws.specs.StructureParts.{add_ex, key_ex, size_ex, keys_ex, row_index, next_ex}
use Rattle.ess_repr_declare_laws.specs.SizeTerms.{zero_ex, listed_ex}
use Rattle.ess_repr_structure_laws.proofs.BuiltStructures as B
use Rattle.ess_repr_structure_laws.proofs.BuiltStructures.{SizedBy}
use Rattle.ess_repr_structure_laws.proofs.BuiltSizes.{SizesOf, bound-has}
use Rattle.ess_repr_structure_laws.proofs.MetParts.{Any}

-- The tables of the env are full for the expression, whatever types names have.
pub record FullIn (e : Ex) (env : Env) : Type 0 where
  pub full : (g : Names Ty) → Full e g env

module _ (env0 : Env) where
  -- The env with other values of names.
  abbrev pub E : Names Value → Env
  E vals = record env0 { vals = vals }

  -- Whatever values and types names have, the tables of the env are full for the expression.
  pub record Anywhere (e : Ex) : Type 0 where
    pub at : (g : Names Ty) (vals : Names Value) → Full e g (E vals)

  -- So they are here.
  pub in-here : (e : Ex) (env : Env) → Anywhere e → FullIn e (E env.vals)
  in-here e env a = record { full = λ g. a.at g env.vals }

  -- ---- what reads no table

  pub operands-anywhere : (es : Exs) → B.AllHave Anywhere es → (g : Names Ty) (env : Env) → FullAll es g (E env.vals)
  operands-anywhere no_exs a g env = tt
  operands-anywhere (more_exs e es) a g env = (let h : Anywhere e = a.0 in h.at g env.vals, operands-anywhere es a.1 g env)

  mutual
    pub dom-anywhere : (d : Dom) → B.DomHas Anywhere d → (g : Names Ty) (env : Env) → FullDom d g (E env.vals)
    dom-anywhere bool_dom h g env = tt
    dom-anywhere (int_dom rs es) h g env = operands-anywhere es h g env
    dom-anywhere (name_dom a) h g env = tt
    dom-anywhere (tuple_dom ds) h g env = doms-anywhere ds h g env
    dom-anywhere (record_dom fs ds) h g env = doms-anywhere ds h g env
    dom-anywhere (matrix_dom is d) h g env = (doms-anywhere is h.0 g env, dom-anywhere d h.1 g env)
    dom-anywhere (set_dom ms es d) h g env = (operands-anywhere es h.0 g env, dom-anywhere d h.1 g env)
    dom-anywhere (mset_dom ms es d) h g env = (operands-anywhere es h.0 g env, dom-anywhere d h.1 g env)
    dom-anywhere (function_dom ms es d c) h g env = (operands-anywhere es h.0 g env, dom-anywhere d h.1 g env, dom-anywhere c h.2 g env)
    dom-anywhere (relation_dom ms es ds) h g env = (operands-anywhere es h.0 g env, doms-anywhere ds h.1 g env)
    dom-anywhere (partition_dom ms es d) h g env = (operands-anywhere es h.0 g env, dom-anywhere d h.1 g env)

    doms-anywhere : (ds : Doms) → B.DomsHave Anywhere ds → (g : Names Ty) (env : Env) → FullDoms ds g (E env.vals)
    doms-anywhere no_doms h g env = tt
    doms-anywhere (more_doms d ds) h g env = (dom-anywhere d h.0 g env, doms-anywhere ds h.1 g env)

  node-anywhere : (b : Bool) (op : Op) (es : Exs) → B.AllHave Anywhere es → Anywhere (node_ex b op es)
  node-anywhere b op es a = record { at = λ g vals. operands-anywhere es a g (E vals) }

  pub number-anywhere : (n : ℤ) → Anywhere (number_ex n)
  number-anywhere n = record { at = λ g vals. tt }

  pub name-anywhere : (a : Text) → Anywhere (name_ex a)
  name-anywhere a = record { at = λ g vals. tt }

  pub two-anywhere : (b : Bool) (o : Op2) (x y : Ex) → Anywhere x → Anywhere y → Anywhere (ex2 b o x y)
  two-anywhere b o x y g h = record { at = λ c vals. (g.at c vals, (h.at c vals, tt)) }

  -- Sizes read no table, where the numbers of their domain don't.
  sizes-anywhere : SizesOf Anywhere
  sizes-anywhere = record {
    zero = record { at = λ g vals. tt };
    one = record { at = λ g vals. tt };
    two = record { at = λ g vals. tt };
    nodes = λ b op es u a. node-anywhere b op es a;
    most = λ a h. node-anywhere false (word Fun.Max) (more_exs (node_ex false matrix_literal (more_exs zero_ex (more_exs a no_exs))) no_exs)
        (node-anywhere false matrix_literal (more_exs zero_ex (more_exs a no_exs)) (record { at = λ g vals. tt }, (h, tt)), tt);
    listed = λ d h. record {
      at = λ g vals. ((dom-anywhere d h g (E vals), each-of-always (members_in (domain_of d (E vals))) _ (λ v. tt)), tt);
    };
  }

  pub listed-anywhere : (a : Text) → Anywhere (listed_ex (name_dom a))
  listed-anywhere a = let s : SizesOf Anywhere = sizes-anywhere in s.listed (name_dom a) tt

  pub sized-anywhere : SizedBy Anywhere Any
  sized-anywhere = record {
    zero = number-anywhere (pos 0);
    one = number-anywhere (pos 1);
    products = λ a b g h. two-anywhere false Op2.Times a b g h;
    bounds = λ d g. bound-has Anywhere Any sizes-anywhere d g;
  }

  -- ---- index lists

  pub add-anywhere : (is : Exs) (e : Ex) → B.AllHave Anywhere is → Anywhere e → B.AllHave Anywhere (add_ex is e)
  add-anywhere no_exs e a h = (h, tt)
  add-anywhere (more_exs x is) e a h = (a.0, add-anywhere is e a.1 h)

  module _ (q : ℕ → Text) where
    pub name-added : (l : ℕ) (is : Exs) → B.AllHave Anywhere is → B.AllHave Anywhere (add_ex is (name_ex (q l)))
    name-added l is a = add-anywhere is (name_ex (q l)) a (name-anywhere (q l))

    pub next-anywhere : (l : ℕ) → Anywhere (next_ex q l)
    next-anywhere l = two-anywhere false Op2.Plus (name_ex (q l)) (number_ex (pos 1)) (name-anywhere (q l)) (number-anywhere (pos 1))

    pub next-added : (l : ℕ) (is : Exs) → B.AllHave Anywhere is → B.AllHave Anywhere (add_ex is (next_ex q l))
    next-added l is a = add-anywhere is (next_ex q l) a (next-anywhere l)

    pub row-index-anywhere : (l : ℕ) (as' : List Dom) (is : Exs) → B.AllHave Anywhere is → B.AllHave Anywhere (row_index q l as' is)
    row-index-anywhere l [] is a = a
    row-index-anywhere l (d ∷ as') is a = row-index-anywhere (suc l) as' (add_ex is (name_ex (q l))) (name-added l is a)

-- ---- what is full here

module _ (env : Env) where
  abbrev F : Ex → Type 0
  F e = FullIn e env

  pub truth-full : (b : Bool) → F (truth_ex b)
  truth-full b = record { full = λ g. tt }

  pub two-full : (b : Bool) (o : Op2) (x y : Ex) → F x → F y → F (ex2 b o x y)
  two-full b o x y h k = record { full = λ g. (h.full g, (k.full g, tt)) }

  pub one-full : (b : Bool) (op : Op) (x : Ex) → F x → F (node_ex b op (more_exs x no_exs))
  one-full b op x h = record { full = λ g. (h.full g, tt) }

  pub number-full : (n : ℤ) → F (number_ex n)
  number-full n = record { full = λ g. tt }

  -- What attributes ask of a number.
  pub key-full : (k : Key) (e m : Ex) → F e → F m → F (key_ex k e m)
  key-full Key.Size e m g h = two-full true Op2.And _ _ (two-full true Op2.Le e m g h) (two-full true Op2.Le m e h g)
  key-full Key.MinSize e m g h = two-full true Op2.Le e m g h
  key-full Key.MaxSize e m g h = two-full true Op2.Le m e h g
  key-full _ e m g h = truth-full true

  pub keys-full : (f : Key → Ex) (ms : List Mark) → ((k : Key) → F (f k)) → F (keys_ex f ms)
  keys-full f [] h = truth-full true
  keys-full f (flag k ∷ ms) h = two-full true Op2.And (f k) (keys_ex f ms) (h k) (keys-full f ms h)
  keys-full f (valued k ∷ ms) h = keys-full f ms h

-- What attributes ask of a size, whatever values names have.
module _ (env0 w : Env) where
  abbrev now : Env
  now = E env0 w.vals

  pub size-full : (ms : List Mark) (es : Exs) (m : Ex) → B.AllHave (Anywhere env0) es → FullIn m now → FullIn (size_ex ms es m) now
  size-full [] es m a h = truth-full now true
  size-full (flag k ∷ ms) es m a h = size-full ms es m a h
  size-full (valued k ∷ ms) no_exs m a h = truth-full now true
  size-full (valued k ∷ ms) (more_exs e es) m a h =
      two-full now true Op2.And (key_ex k e m) (size_ex ms es m) (key-full now k e m (in-here env0 e w a.0) h) (size-full ms es m a.1 h)

-- What is reached holds where it holds anyway.
pub reached : (b : Bool) (e : Ex) (env : Env) (T : Type 0) → T → Reached b (meaning e env) T
reached true e env T t = t
reached false e env T t = λ w. t
