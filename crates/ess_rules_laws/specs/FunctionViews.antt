-- What views of functions kept by argument offer, whatever the kind: a generator runs over the first domain, and the result is
-- the view at the argument.
use Rattle.std.specs.Prelude.{Bool, true, false, not, ◌&&◌, List, [], ◌∷◌, Option, None, IsTrue, is_some}
use Rattle.ess_semantics.specs.declared.words.Op2.{Op2}
use Rattle.ess_semantics.specs.declared.words.Fun.{Fun}
use Rattle.ess_semantics.specs.Values.{Text}
use Rattle.ess_semantics.specs.Trees.{word, application, tuple_literal, name_pat, tuple_pat, Pat, Pats, no_pats, more_pats, Repr, Ex, Exs, name_ex, node_ex, comp_ex, cell_ex, seen_ex, ex2, no_exs, more_exs, no_gens, over, cond, Dom, Doms, function_dom, no_doms, more_doms}
use Rattle.ess_semantics.specs.Meaning.{Env, domain_of, members_in}
use Rattle.ess_semantics.specs.Substitution.{NamesAre}
use Rattle.ess_rules_laws.specs.ComponentRules.{has_text}
use Rattle.ess_rules_laws.specs.FunctionMembershipRules.{pair_ex}
use Rattle.ess_rules_laws.specs.Listings.{Alternative}

-- ---- operands and names

-- Operands behind others.
abbrev pub append_exs : Exs → Exs → Exs
append_exs no_exs ks = ks
append_exs (more_exs e es) ks = more_exs e (append_exs es ks)

-- The names as expressions.
abbrev pub name_exs : List Text → Exs
name_exs [] = no_exs
name_exs (x ∷ xs) = more_exs (name_ex x) (name_exs xs)

-- The names as patterns.
abbrev pub name_pats : List Text → Pats
name_pats [] = no_pats
name_pats (x ∷ xs) = more_pats (name_pat x) (name_pats xs)

-- ---- arguments

-- How a generator runs over arguments: the pattern, the indices of the argument, and the argument itself.
pub record Run : Type 0 where
  pub pattern : Pat
  pub keys : Exs
  pub argument : Ex

-- An atom, which is its own index.
abbrev pub by_name : Text → Run
by_name x = record { pattern = name_pat x; keys = more_exs (name_ex x) no_exs; argument = name_ex x }

-- A tuple of atoms, each of which is an index.
abbrev pub by_names : List Text → Run
by_names xs = record {
  pattern = tuple_pat (name_pats xs);
  keys = name_exs xs;
  argument = node_ex false tuple_literal (name_exs xs);
}

-- ---- what a view offers

-- The result at these indices.
abbrev pub result_at : Repr → Dom → List Text → Exs → Exs → Ex
result_at r c ns js ks = seen_ex r c ns (append_exs js ks)

-- Whether there is a result at these indices.
abbrev pub flag_at : Text → Exs → Exs → Ex
flag_at m js ks = cell_ex true m (append_exs js ks)

-- Of a total function from d to c: each argument, with the result there.
abbrev pub total_pairs : Run → Repr → Dom → Dom → List Text → Exs → Alternative
total_pairs u r d c ns js = record { gens = over u.pattern d no_gens; item = pair_ex u.argument (result_at r c ns js u.keys) }

-- Of one with flags, which the table m holds: each argument whose flag is true.
abbrev pub flagged_pairs : Run → Repr → Dom → Dom → Text → List Text → Exs → Alternative
flagged_pairs u r d c m ns js = record {
  gens = over u.pattern d (cond (flag_at m js u.keys) no_gens);
  item = pair_ex u.argument (result_at r c ns js u.keys);
}

-- The result of a total function at a: that at each argument which is a.
abbrev pub total_result : Run → Repr → Dom → Dom → List Text → Exs → Ex → Ex
total_result u r d c ns js a = comp_ex (result_at r c ns js u.keys) (over u.pattern d (cond (ex2 true Op2.Eq u.argument a) no_gens))

-- The result of one with flags: that at each argument which is a, where its flag is true.
abbrev pub flagged_result : Run → Repr → Dom → Dom → Text → List Text → Exs → Ex → Ex
flagged_result u r d c m ns js a =
    comp_ex (result_at r c ns js u.keys) (over u.pattern d (cond (ex2 true Op2.Eq u.argument a) (cond (flag_at m js u.keys) no_gens)))

-- The members of the first domain of a function can be listed.
abbrev pub FirstThere : Ex → Env → Type 0
FirstThere (seen_ex r (function_dom ms es d c) ns js) env = IsTrue (is_some (members_in (domain_of d env)))
FirstThere e env = Unit {0}

-- ---- what a rule asks

-- g of the function and the argument of an application or of `image`.
abbrev pub of_application : {A : Type 0} → (Ex → Ex → Option A) → Ex → Option A
of_application g (node_ex b application (more_exs f (more_exs a no_exs))) = g f a
of_application g (node_ex b (word Fun.Image) (more_exs f (more_exs a no_exs))) = g f a
of_application g e = None

-- The members of the first domain of the function that stands first can be listed.
abbrev pub AppliedThere : Ex → Env → Type 0
AppliedThere (node_ex b op (more_exs f es)) env = FirstThere f env
AppliedThere e env = Unit {0}

-- Whether there is a name for each domain, and the names differ.
abbrev pub names_fit : List Text → Doms → Bool
names_fit [] no_doms = true
names_fit (x ∷ xs) (more_doms d ds) = not (has_text xs x) && names_fit xs ds
names_fit xs ds = false

-- The tree neither uses nor binds any of the names.
abbrev pub NamesUnused : List Text → Ex → Type 0
NamesUnused xs e = NamesAre (λ a. not (has_text xs a)) (λ a. true) e
