-- Tables meet the structures of a tree where each of its views is tidy wherever its context holds. Rules that rewrite a
-- tree may count on it.
use Rattle.std.specs.Prelude.{Bool, false, List, ℤ, Option, Some, IsTrue}
use Rattle.ess_semantics.specs.Trees.{Repr, Ex, Exs, number_ex, truth_ex, name_ex, node_ex, matrix_ex, comp_ex, cell_ex, seen_ex, no_exs, more_exs, Gens, no_gens, over, from, cond, Dom, Doms, bool_dom, int_dom, name_dom, tuple_dom, record_dom, matrix_dom, set_dom, mset_dom, function_dom, relation_dom, partition_dom, no_doms, more_doms}
use Rattle.ess_semantics.specs.Domains.{Domain}
use Rattle.ess_semantics.specs.Tables.{Tables}
use Rattle.ess_semantics.specs.Tidy.{tidy}
use Rattle.ess_semantics.specs.Meaning.{Env, meaning, meanings, domain_of, members_in, with_pat, tables_in, indices}
use Rattle.ess_semantics.specs.Contexts.{EachOf, EachIn, WhenTrue, Guarded, guards}

-- Whether a view with this domain, these tables and this index list is tidy.
abbrev pub tidy_in : Repr → Option Domain → Option Tables → Option (List ℤ) → Bool
tidy_in r (Some d) (Some c) (Some i) = tidy r d c i
tidy_in r _ _ _ = false

abbrev mutual
  -- The tables of the env meet the structures of the expression.
  pub Meets : Ex → Env → Type 0
  Meets (number_ex n) env = Unit {0}
  Meets (truth_ex b) env = Unit {0}
  Meets (name_ex a) env = Unit {0}
  Meets (node_ex b op es) env = MeetsAll (guards op) es env
  Meets (matrix_ex es d) env = MeetsAll false es env × MeetsDom d env
  Meets (comp_ex e gs) env = MeetsGens gs env (λ here. Meets e here)
  Meets (cell_ex b n es) env = MeetsAll false es env
  Meets (seen_ex r d ns es) env =
      IsTrue (tidy_in r (domain_of d env) (tables_in env.cells ns) (indices (meanings es env))) × MeetsDom d env × MeetsAll false es env

  -- The same of operands; `g` says whether the first one guards those behind it.
  pub MeetsAll : Bool → Exs → Env → Type 0
  MeetsAll g no_exs env = Unit {0}
  MeetsAll g (more_exs e es) env = Meets e env × Guarded g (meaning e env) (MeetsAll false es env)

  -- The same of generators, and P at each of their bindings whose conditions hold.
  pub MeetsGens : Gens → Env → (Env → Type 0) → Type 0
  MeetsGens no_gens env P = P env
  MeetsGens (over p d gs) env P = MeetsDom d env × EachOf (members_in (domain_of d env)) (λ v. MeetsGens gs (with_pat p v env) P)
  MeetsGens (from p e gs) env P = Meets e env × EachIn (meaning e env) (λ v. MeetsGens gs (with_pat p v env) P)
  MeetsGens (cond e gs) env P = Meets e env × WhenTrue (meaning e env) (MeetsGens gs env P)

  -- The same of a domain.
  pub MeetsDom : Dom → Env → Type 0
  MeetsDom bool_dom env = Unit {0}
  MeetsDom (int_dom rs es) env = MeetsAll false es env
  MeetsDom (name_dom a) env = Unit {0}
  MeetsDom (tuple_dom ds) env = MeetsDoms ds env
  MeetsDom (record_dom fs ds) env = MeetsDoms ds env
  MeetsDom (matrix_dom is d) env = MeetsDoms is env × MeetsDom d env
  MeetsDom (set_dom ms es d) env = MeetsAll false es env × MeetsDom d env
  MeetsDom (mset_dom ms es d) env = MeetsAll false es env × MeetsDom d env
  MeetsDom (function_dom ms es d c) env = MeetsAll false es env × MeetsDom d env × MeetsDom c env
  MeetsDom (relation_dom ms es ds) env = MeetsAll false es env × MeetsDoms ds env
  MeetsDom (partition_dom ms es d) env = MeetsAll false es env × MeetsDom d env

  -- The same of several domains.
  pub MeetsDoms : Doms → Env → Type 0
  MeetsDoms no_doms env = Unit {0}
  MeetsDoms (more_doms d ds) env = MeetsDom d env × MeetsDoms ds env
