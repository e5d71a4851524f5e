-- A number in the place of a refined one that has a value everywhere: where the old one has a value it is the same. So a
-- condition that guards a number may leave the generators for the body.
use Rattle.std.specs.Prelude.{◌≡◌, Bool, true, false, List, [], ◌∷◌, suc, pos, negsuc, Option, Some, IsTrue, is_some, if◌then◌else◌}
use Rattle.ess_semantics.specs.declared.words.Op1.{Op1}
use Rattle.ess_semantics.specs.declared.words.Op2.{Op2}
use Rattle.ess_semantics.specs.declared.words.Fun.{Fun}
use Rattle.ess_semantics.specs.Values.{Value}
use Rattle.ess_semantics.specs.Names.{look}
use Rattle.ess_semantics.specs.Trees.{matrix_literal, Ends, one_value, both_ends, Ex, Exs, number_ex, truth_ex, name_ex, node_ex, comp_ex, cell_ex, ex1, ex2, fun1, no_exs, more_exs, Gens, no_gens, over, from, cond, Dom, bool_dom, int_dom, name_dom}
use Rattle.ess_semantics.specs.Meaning.{Env, meaning, domain_of, members_in, with_pat}
use Rattle.ess_semantics.specs.Contexts.{EachOf, WhenTrue}
use Rattle.ess_rules_laws.specs.Rules.{IsNumber}
use Rattle.ess_rules_laws.specs.SourceRules.{list_of}

-- ---- partial operators

-- Whether the expression is a numeral other than 0.
abbrev pub is_nonzero : Ex → Bool
is_nonzero (number_ex (pos (suc k))) = true
is_nonzero (number_ex (negsuc k)) = true
is_nonzero e = false

-- Whether the expression is a numeral above 0.
abbrev pub is_positive : Ex → Bool
is_positive (number_ex (pos (suc k))) = true
is_positive e = false

-- A condition as a number: 1 where it is true, else 0.
abbrev pub chosen : Ex → Ex
chosen c = fun1 false Fun.ToInt c

-- 0.
abbrev pub nil_number : Ex
nil_number = number_ex (pos 0)

-- `b + toInt(b = 0)`, which isn't 0; b itself where that is a numeral other than 0.
abbrev pub divisor : Ex → Ex
divisor b = if is_nonzero b then b else ex2 false Op2.Plus b (chosen (ex2 true Op2.Eq b nil_number))

-- `a + toInt(a = 0 /\ b <= 0)`, which isn't 0 where b isn't above 0; a itself where that is a numeral other than 0.
abbrev pub base : Ex → Ex → Ex
base a b =
    if is_nonzero a then a
    else ex2 false Op2.Plus a (chosen (ex2 true Op2.And (ex2 true Op2.Eq a nil_number) (ex2 true Op2.Le b nil_number)))

-- `max([b, 0])`.
abbrev pub exponent : Ex → Ex
exponent b = fun1 false Fun.Max (list_of (more_exs b (more_exs nil_number no_exs)))

-- `(a + toInt(a = 0 /\ b <= 0)) ** max([b, 0])`; `a ** b` where b is a numeral above 0.
abbrev pub raised : Ex → Ex → Ex
raised a b = if is_positive b then ex2 false Op2.Pow a b else ex2 false Op2.Pow (base a b) (exponent b)

-- `sum([min(l) | or([true | gs])])`, where gs are the generators of l, and so with `max`. Of the empty list it is 0.
abbrev pub extreme : Fun → Ex → Ex
extreme f (comp_ex e gs) = fun1 false Fun.Sum (comp_ex (fun1 false f (comp_ex e gs)) (cond (fun1 true Fun.Or (comp_ex
    (truth_ex true) gs)) no_gens))
extreme f (node_ex false matrix_literal no_exs) = nil_number
extreme f l = fun1 false f l

-- ---- the number everywhere

abbrev mutual
  -- The number that is there everywhere. Booleans, and numbers of theirs, are left alone.
  pub everywhere : Ex → Ex
  everywhere (ex1 false Op1.Minus a) = ex1 false Op1.Minus (everywhere a)
  everywhere (ex1 false Op1.Bar a) = ex1 false Op1.Bar (everywhere a)
  everywhere (ex2 false Op2.Plus a b) = ex2 false Op2.Plus (everywhere a) (everywhere b)
  everywhere (ex2 false Op2.Minus a b) = ex2 false Op2.Minus (everywhere a) (everywhere b)
  everywhere (ex2 false Op2.Times a b) = ex2 false Op2.Times (everywhere a) (everywhere b)
  everywhere (ex2 false Op2.Div a b) = ex2 false Op2.Div (everywhere a) (divisor (everywhere b))
  everywhere (ex2 false Op2.Mod a b) = ex2 false Op2.Mod (everywhere a) (divisor (everywhere b))
  everywhere (ex2 false Op2.Pow a b) = raised (everywhere a) (everywhere b)
  everywhere (fun1 false Fun.Sum l) = fun1 false Fun.Sum (everywhere_list l)
  everywhere (fun1 false Fun.Product l) = fun1 false Fun.Product (everywhere_list l)
  everywhere (fun1 false Fun.Min l) = extreme Fun.Min (everywhere_list l)
  everywhere (fun1 false Fun.Max l) = extreme Fun.Max (everywhere_list l)
  everywhere e = e

  -- The same of a list of numbers: a comprehension or a literal.
  pub everywhere_list : Ex → Ex
  everywhere_list (comp_ex e gs) = comp_ex (everywhere e) (everywhere_gens gs)
  everywhere_list (node_ex false matrix_literal es) = node_ex false matrix_literal (everywhere_exs es)
  everywhere_list e = e

  -- The same of several numbers.
  pub everywhere_exs : Exs → Exs
  everywhere_exs no_exs = no_exs
  everywhere_exs (more_exs e es) = more_exs (everywhere e) (everywhere_exs es)

  -- The same of the bounds of generators.
  pub everywhere_gens : Gens → Gens
  everywhere_gens no_gens = no_gens
  everywhere_gens (over p d gs) = over p (everywhere_dom d) (everywhere_gens gs)
  everywhere_gens (from p e gs) = from p e (everywhere_gens gs)
  everywhere_gens (cond c gs) = cond c (everywhere_gens gs)

  -- The same of the bounds of a range.
  pub everywhere_dom : Dom → Dom
  everywhere_dom (int_dom rs es) = int_dom rs (everywhere_exs es)
  everywhere_dom d = d

-- ---- what is read

-- Whether there is one number for each range of one value, and are two for each with both bounds, and no other ranges.
abbrev pub bounds_fit : List Ends → Exs → Bool
bounds_fit [] no_exs = true
bounds_fit (one_value ∷ rs) (more_exs a es) = bounds_fit rs es
bounds_fit (both_ends ∷ rs) (more_exs a (more_exs b es)) = bounds_fit rs es
bounds_fit rs es = false

abbrev mutual
  -- Names and cells that are read as numbers have one, at each binding of generators whose conditions hold, once these run
  -- over bounds that are there everywhere. The tree is one of refined numbers.
  pub ReadsNumbers : Ex → Env → Type 0
  ReadsNumbers (number_ex n) env = Unit {0}
  ReadsNumbers (name_ex a) env = IsNumber (look env.vals a)
  ReadsNumbers (cell_ex false n es) env = IsNumber (meaning (cell_ex false n es) env)
  ReadsNumbers (ex1 false Op1.Minus a) env = ReadsNumbers a env
  ReadsNumbers (ex1 false Op1.Bar a) env = ReadsNumbers a env
  ReadsNumbers (ex2 false Op2.Plus a b) env = ReadsNumbers a env × ReadsNumbers b env
  ReadsNumbers (ex2 false Op2.Minus a b) env = ReadsNumbers a env × ReadsNumbers b env
  ReadsNumbers (ex2 false Op2.Times a b) env = ReadsNumbers a env × ReadsNumbers b env
  ReadsNumbers (ex2 false Op2.Div a b) env = ReadsNumbers a env × ReadsNumbers b env
  ReadsNumbers (ex2 false Op2.Mod a b) env = ReadsNumbers a env × ReadsNumbers b env
  ReadsNumbers (ex2 false Op2.Pow a b) env = ReadsNumbers a env × ReadsNumbers b env
  ReadsNumbers (fun1 false Fun.ToInt c) env = IsTrue (is_some (meaning c env))
  ReadsNumbers (fun1 false Fun.Sum l) env = ReadsItems l env
  ReadsNumbers (fun1 false Fun.Product l) env = ReadsItems l env
  ReadsNumbers (fun1 false Fun.Min l) env = ReadsItems l env
  ReadsNumbers (fun1 false Fun.Max l) env = ReadsItems l env
  ReadsNumbers e env = ⊥

  -- The same of a list of numbers.
  pub ReadsItems : Ex → Env → Type 0
  ReadsItems (comp_ex e gs) env = ReadsUnder gs env (λ here. ReadsNumbers e here)
  ReadsItems (node_ex false matrix_literal es) env = AllRead es env
  ReadsItems e env = ⊥

  -- The same of several numbers.
  pub AllRead : Exs → Env → Type 0
  AllRead no_exs env = Unit {0}
  AllRead (more_exs e es) env = ReadsNumbers e env × AllRead es env

  -- The same of generators, and K at each of their bindings.
  pub ReadsUnder : Gens → Env → (Env → Type 0) → Type 0
  ReadsUnder no_gens env K = K env
  ReadsUnder (over p d gs) env K =
      ReadsBounds d env × EachOf (members_in (domain_of (everywhere_dom d) env)) (λ v. ReadsUnder gs (with_pat p v env) K)
  ReadsUnder (from p e gs) env K = ⊥
  ReadsUnder (cond c gs) env K = WhenTrue (meaning c env) (ReadsUnder gs env K)

  -- The same of the domain of a generator: bool, a named type that is there, or ranges with all of their bounds.
  pub ReadsBounds : Dom → Env → Type 0
  ReadsBounds bool_dom env = Unit {0}
  ReadsBounds (name_dom t) env = IsTrue (is_some (domain_of (name_dom t) env))
  ReadsBounds (int_dom (r ∷ rs) es) env = IsTrue (bounds_fit (r ∷ rs) es) × AllRead es env
  ReadsBounds d env = ⊥

-- ---- the law

-- There is a number, the same as in the place of the other where that has a value.
pub record Replaces (o p : Option Value) : Type 0 where
  pub is_number : IsNumber p
  pub is_same : (v : Value) → o ≡ Some v → p ≡ Some v

-- So it is everywhere, where names and cells that are read as numbers have one.
abbrev pub EverywhereServes : Type 0
EverywhereServes = (e : Ex) (env : Env) → ReadsNumbers e env → Replaces (meaning e env) (meaning (everywhere e) env)
