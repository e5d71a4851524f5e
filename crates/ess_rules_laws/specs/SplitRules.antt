-- Generators over tuples of domains become generators over the components. The order of items stays.
use Rattle.std.specs.Prelude.{◌≡◌, Bool, true, false, not, Option, Some, None, IsTrue, is_some, if◌then◌else◌}
use Rattle.ess_semantics.specs.Values.{Text}
use Rattle.ess_semantics.specs.Trees.{Pats, tuple_pat, no_pats, more_pats, Ex, comp_ex, Gens, over, Doms, tuple_dom, no_doms, more_doms}
use Rattle.ess_semantics.specs.Meaning.{Env, domain_of, members_in}
use Rattle.ess_semantics.specs.Kept.{Keeps}
use Rattle.ess_semantics.specs.Substitution.{Binds, NamesAreDom}

-- Whether there are as many patterns as domains.
abbrev pub as_many : Pats → Doms → Bool
as_many no_pats no_doms = true
as_many (more_pats p ps) (more_doms d ds) = as_many ps ds
as_many ps ds = false

-- A generator for each pattern and domain, before others.
abbrev pub each_over : Pats → Doms → Gens → Gens
each_over (more_pats p ps) (more_doms d ds) hs = over p d (each_over ps ds hs)
each_over ps ds hs = hs

-- `[e | (p, q) : (A, B), hs]` is `[e | p : A, q : B, hs]`.
abbrev pub split : Ex → Option Ex
split (comp_ex e (over (tuple_pat ps) (tuple_dom ds) hs)) = if as_many ps ds then Some (comp_ex e (each_over ps ds hs)) else None
split e = None

-- What it counts on: the members of the first domain can be listed.
abbrev pub DomainThere : Ex → Env → Type 0
DomainThere (comp_ex e (over p d hs)) env = IsTrue (is_some (members_in (domain_of d env)))
DomainThere e env = Unit {0}

-- And bound names are told apart: r has those that the pattern binds, none of which stands in the domain.
abbrev pub DomainApart : (Text → Bool) → Ex → Type 0
DomainApart r (comp_ex e (over p d hs)) = Binds r p × NamesAreDom (λ a. not (r a)) (λ a. true) d
DomainApart r e = Unit {0}

-- So it keeps what it rewrites.
abbrev pub SplitKeeps : Type 0
SplitKeeps = (r : Text → Bool) (e f : Ex) → split e ≡ Some f → DomainApart r e → (env : Env) → DomainThere e env → Keeps e f env
